-- Leaves tile their span, and so do their results.
use Rattle.std.proofs.Common.{◌≡◌, ℕ, ◌+◌, List, [], ◌∷◌, ◌++◌, length, subst, sym, refl, arith, length-append}
use Rattle.std.specs.List.{AllZip}
use Rattle.span_core.specs.Each.{EachFrom}
use Rattle.span_core.specs.Span.{Interval, AreLeaves, middle_of, lower_half, upper_half}
use Rattle.span_core.specs.Span.AreLeaves.{itself, halves}
use Rattle.span_core.proofs.Each.{EachFrom-append}

-- each begins where the one before it ends
abbrev pub Tiles : ℕ → ℕ → List Interval → Type 0
Tiles from to [] = from ≡ to
Tiles from to (leaf ∷ leaves) = (leaf.from ≡ from) × Tiles leaf.to to leaves

tiles-append : (from middle to : ℕ) (xs ys : List Interval) → Tiles from middle xs → Tiles middle to ys → Tiles from to (xs ++ ys)
tiles-append from middle to [] ys p q = let M : ℕ → Type 0 = λ n. Tiles n to ys in subst M (sym p) q
tiles-append from middle to (x ∷ xs) ys p q = (p.0, tiles-append x.to middle to xs ys p.1 q)

pub leaves-tile : (span : Interval) (leaves : List Interval) → AreLeaves span leaves → Tiles span.from span.to leaves
leaves-tile s xs (itself span small) = (refl, refl)
leaves-tile s xs (halves span lower upper cut p q) =
    tiles-append span.from (middle_of span) span.to lower upper (leaves-tile (lower_half span) lower p) (leaves-tile (upper_half span) upper q)

module _ {U V : Type 0} (items : V → List U) (P : ℕ → U → Type 0) where
  -- one result for each place of the leaf
  abbrev pub Covers : Interval → V → Type 0
  Covers leaf part = EachFrom P leaf.from (items part) × (leaf.from + length (items part) ≡ leaf.to)

  -- the results so far reach up to the leaves that are left
  abbrev pub Reaches : ℕ → ℕ → List U → List V → Type 0
  Reaches from to all parts =
      (leaves : List Interval) × AllZip Covers leaves parts × Tiles (from + length all) to leaves × EachFrom P from all

  pub reaches-on : (from to : ℕ) (all more : List U) (part : V) (parts : List V) → more ≡ all ++ items part
      → Reaches from to all (part ∷ parts) → Reaches from to more parts
  reaches-on from to all more part parts longer ([], zip, tiles, each) = absurd zip
  reaches-on from to all more part parts longer (leaf ∷ leaves, zip, tiles, each) =
      let Q : List U → Type 0 = λ xs. Reaches from to xs parts in
      let M : ℕ → Type 0 = λ n. Tiles n to leaves in
      let ends : leaf.to ≡ from + length (all ++ items part) = omega (arith, tiles.0, zip.0.1, length-append all (items part)) in
      subst Q (sym longer)
      (leaves, zip.1, subst M ends tiles.1, EachFrom-append P from leaf.from all (items part) (sym tiles.0) each zip.0.0)

  pub reaches-end : (from to : ℕ) (all : List U) → Reaches from to all [] → EachFrom P from all × (from + length all ≡ to)
  reaches-end from to all ([], zip, tiles, each) = (each, tiles)
  reaches-end from to all (leaf ∷ leaves, zip, tiles, each) = absurd zip

  -- the same, of what is left before and after
  pub reaches-step : (from to : ℕ) (all more : List U) (part : V) (olds parts : List V) → olds ≡ part ∷ parts
      → more ≡ all ++ items part → Reaches from to all olds → Reaches from to more parts
  reaches-step from to all more part olds parts first longer reached =
      let Q : List V → Type 0 = λ vs. Reaches from to all vs in
      reaches-on from to all more part parts longer (subst Q first reached)

  pub reaches-all : (from to : ℕ) (all : List U) (olds : List V) → olds ≡ [] → Reaches from to all olds
      → EachFrom P from all × (from + length all ≡ to)
  reaches-all from to all olds none reached = let Q : List V → Type 0 = λ vs. Reaches from to all vs in reaches-end from to all (subst Q none reached)

  -- before there is any result
  pub reaches-none : (span : Interval) (all : List U) (olds parts : List V) → all ≡ [] → olds ≡ parts
      → (leaves : List Interval) × AreLeaves span leaves × AllZip Covers leaves olds
      → Reaches span.from span.to all parts
  reaches-none span all olds parts none same (leaves, cut, zip) =
      let Q : List U → Type 0 = λ xs. Reaches span.from span.to xs parts in
      let R : List V → Type 0 = λ vs. AllZip Covers leaves vs in
      let M : ℕ → Type 0 = λ n. Tiles n span.to leaves in
      let begins : span.from ≡ span.from + 0 = omega arith in
      subst Q (sym none) (leaves, subst R same zip, subst M begins (leaves-tile span leaves cut), tt)
