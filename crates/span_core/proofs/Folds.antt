-- Folds of parts, put together.
use Rattle.std.proofs.Common.{◌≡◌, ℕ, ◌+◌, Option, None, Some, List, [], ◌∷◌, ◌++◌, length, fold, subst, sym, ap, ◌∙◌, refl, arith, length-append}
use Rattle.std.specs.List.{AllZip}
use Rattle.span_core.specs.Each.{EachFrom}
use Rattle.span_core.specs.Span.{Interval, AreLeaves}
use Rattle.span_core.proofs.Each.{EachFrom-append}
use Rattle.span_core.proofs.Tiles.{Tiles, leaves-tile}
use Rattle.span_core.specs.Loops.{Joins, IsFold, Within, Merges, SumsUpTo}

module _ {U : Type 0} (post : U → U → U → Type 0) (is_in : U → Type 0) (unit : U) where
  -- values of the domain go on
  pub within-append : (xs ys : List U) → Within post is_in xs → Within post is_in ys → Within post is_in (xs ++ ys)
  within-append [] ys p q = q
  within-append (x ∷ xs) ys p q = (p.0, within-append xs ys p.1 q)

  fold-stays : (op : U → U → U) → Joins post is_in unit op → (acc : U) (xs : List U) → is_in acc → Within post is_in xs
      → is_in (fold op acc xs)
  fold-stays op joins acc [] a within = a
  fold-stays op joins acc (x ∷ xs) a within = fold-stays op joins (op acc x) xs (joins.stays acc x a within.0) within.1

  -- what is joined to the fold of a list is the fold from there
  fold-from : (op : U → U → U) → Joins post is_in unit op → (acc : U) (xs : List U) → is_in unit → is_in acc
      → Within post is_in xs → fold op acc xs ≡ op acc (fold op unit xs)
  fold-from op joins acc [] u a within = sym (joins.from_right acc a)
  fold-from op joins acc (x ∷ xs) u a within =
      let rest = fold op unit xs in
      let inside = fold-stays op joins unit xs u within.1 in
      fold-from op joins (op acc x) xs u (joins.stays acc x a within.0) within.1
      ∙ joins.associative acc x rest a within.0 inside
      ∙ ap (λ y. op acc y) (sym (fold-from op joins (op unit x) xs u (joins.stays unit x u within.0) within.1 ∙ ap (λ y. op y rest) (joins.from_left x within.0)))

  fold-append : (op : U → U → U) (acc : U) (xs ys : List U) → fold op acc (xs ++ ys) ≡ fold op (fold op acc xs) ys
  fold-append op acc [] ys = refl
  fold-append op acc (x ∷ xs) ys = fold-append op (op acc x) xs ys

  -- two folds that are joined are the fold of both lists
  pub folds-join : (xs ys : List U) (a b r : U) → is_in a → is_in b → Within post is_in xs → Within post is_in ys
      → IsFold post is_in unit xs a → IsFold post is_in unit ys b → post a b r → IsFold post is_in unit (xs ++ ys) r
  folds-join xs ys a b r a-in b-in xs-in ys-in left right made op joins =
      joins.computes a b r a-in b-in made
      ∙ ap (λ y. op y b) (left op joins)
      ∙ ap (λ y. op (fold op unit xs) y) (right op joins)
      ∙ sym (fold-append op unit xs ys ∙ fold-from op joins (fold op unit xs) ys joins.inside (fold-stays op joins unit xs joins.inside xs-in) ys-in)

  -- one result is the fold of itself
  pub folds-one : (x : U) → is_in x → IsFold post is_in unit (x ∷ []) x
  folds-one x inside op joins = sym (joins.from_left x inside)

module _ {U : Type 0} (post : U → U → U → Type 0) (is_in : U → Type 0) (P : ℕ → U → Type 0) where
  -- one result is a sum of its place
  pub sums-one : (place : ℕ) (x : U) → P place x → is_in x → SumsUpTo post is_in P place (place + 1) (Some x)
  sums-one place x p inside = (x ∷ [], (p, tt), omega arith, (inside, tt), (inside, λ unit. folds-one post is_in unit x inside))

  -- two sums of neighbours, merged
  pub sums-merge : (from middle to : ℕ) (sum part result : Option U) → Merges post is_in sum part result
      → SumsUpTo post is_in P from middle sum → SumsUpTo post is_in P middle to part
      → SumsUpTo post is_in P from to result
  sums-merge from middle to None part result merged (xs, each, long, within, none) (ys, each', long', within', sum') =
      let Q : Option U → Type 0 = λ s. SumsUpTo post is_in P from to s in
      let M : ℕ → Type 0 = λ n. EachFrom P n ys in
      let empty = ap length none in
      let same : middle ≡ from = omega (arith, long, empty) in
      subst Q (sym merged) (ys, subst M same each', omega (arith, same, long'), within', sum')
  sums-merge from middle to (Some a) None result merged (xs, each, long, within, sum) (ys, each', long', within', none) =
      let Q : Option U → Type 0 = λ s. SumsUpTo post is_in P from to s in
      let empty = ap length none in
      subst Q (sym merged) (xs, each, omega (arith, long, long', empty), within, sum)
  sums-merge from middle to (Some a) (Some b) result merged (xs, each, long, within, sum) (ys, each', long', within', sum') =
      let Q : Option U → Type 0 = λ s. SumsUpTo post is_in P from to s in
      subst Q (sym merged.1) (
        xs ++ ys,
        EachFrom-append P from middle xs ys long each each',
        omega (arith, long, long', length-append xs ys),
        within-append post is_in a xs ys within within',
        (merged.3, λ unit. folds-join post is_in unit xs ys a b merged.0 sum.0 sum'.0 within within' (sum.1 unit) (sum'.1 unit) merged.2),
      )

  -- the sum so far goes up to the leaves whose sums are left
  abbrev pub SumReaches : ℕ → ℕ → Option U → List (Option U) → Type 0
  SumReaches from to sum parts =
      (leaves : List Interval) × (place : ℕ)
      × AllZip (λ leaf part. SumsUpTo post is_in P leaf.from leaf.to part) leaves parts
      × Tiles place to leaves
      × SumsUpTo post is_in P from place sum

  pub sum-begins : (span : Interval) (olds parts : List (Option U)) → olds ≡ parts
      → (leaves : List Interval) × AreLeaves span leaves × AllZip (λ leaf part. SumsUpTo post is_in P leaf.from leaf.to part) leaves olds
      → SumReaches span.from span.to None parts
  sum-begins span olds parts same (leaves, cut, zip) =
      let Q : List (Option U) → Type 0 = λ vs. AllZip (λ leaf part. SumsUpTo post is_in P leaf.from leaf.to part) leaves vs in
      (leaves, span.from, subst Q same zip, leaves-tile span leaves cut, ([], tt, omega arith, tt, refl))

  sum-on : (from to : ℕ) (sum part result : Option U) (parts : List (Option U)) → Merges post is_in sum part result
      → SumReaches from to sum (part ∷ parts) → SumReaches from to result parts
  sum-on from to sum part result parts merged ([], place, zip, tiles, sums) = absurd zip
  sum-on from to sum part result parts merged (leaf ∷ leaves, place, zip, tiles, sums) =
      let M : ℕ → Type 0 = λ n. SumsUpTo post is_in P n leaf.to part in
      (leaves, leaf.to, zip.1, tiles.1, sums-merge from place leaf.to sum part result merged sums (subst M tiles.0 zip.0))

  pub sum-step : (from to : ℕ) (sum part result : Option U) (olds parts : List (Option U)) → olds ≡ part ∷ parts
      → Merges post is_in sum part result → SumReaches from to sum olds → SumReaches from to result parts
  sum-step from to sum part result olds parts first merged reached =
      let Q : List (Option U) → Type 0 = λ vs. SumReaches from to sum vs in
      sum-on from to sum part result parts merged (subst Q first reached)

  sum-end : (from to : ℕ) (sum : Option U) → SumReaches from to sum [] → SumsUpTo post is_in P from to sum
  sum-end from to sum ([], place, zip, tiles, sums) = let M : ℕ → Type 0 = λ n. SumsUpTo post is_in P from n sum in subst M tiles sums
  sum-end from to sum (leaf ∷ leaves, place, zip, tiles, sums) = absurd zip

  pub sum-all : (from to : ℕ) (sum : Option U) (olds : List (Option U)) → olds ≡ [] → SumReaches from to sum olds
      → SumsUpTo post is_in P from to sum
  sum-all from to sum olds none reached = let Q : List (Option U) → Type 0 = λ vs. SumReaches from to sum vs in sum-end from to sum (subst Q none reached)
