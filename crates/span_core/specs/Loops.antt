-- What loops over a span return.
use Rattle.std.specs.Prelude.{◌≡◌, ℕ, ◌+◌, ◌%◌, ◌^◌, ◌<◌, Option, None, Some, List, [], ◌∷◌, length, map, fold, slice_index_or}
use Rattle.std.specs.Option.{option_copied, MatchOption}
use Rattle.std.specs.Borrow.{Bor}
use Rattle.span_core.specs.Each.{EachFrom}
use Rattle.span_core.specs.Span.{Interval}

module _ {T U : Type 0} where
  -- a result for a place and the member there
  abbrev pub AnswersAt : (ℕ → Option (Bor T) → U → Type 0) → List (Option T) → ℕ → U → Type 0
  AnswersAt post members place answer =
      (item : Option (Bor T)) × (option_copied item ≡ slice_index_or members place None) × post place item answer

  -- a result for a place and the first of these members
  abbrev pub AnswersFirst : (ℕ → Option (Bor T) → U → Type 0) → List (Option T) → ℕ → U → Type 0
  AnswersFirst post members place answer =
      (item : Option (Bor T)) × (option_copied item ≡ slice_index_or members 0 None) × post place item answer

  -- one result for each place of the span, in order
  abbrev pub AnswersOver : (ℕ → Option (Bor T) → U → Type 0) → List (Option T) → Interval → List U → Type 0
  AnswersOver post members span answers =
      EachFrom (AnswersAt post members) span.from answers × (span.from + length answers ≡ span.to)

-- the function returns v for each member
abbrev pub Computes : {T U : Type 0} → (ℕ → Option (Bor T) → U → Type 0) → (Option T → U) → Type 0
Computes {T} {U} post v =
    (place : ℕ) (item : Option (Bor T)) (answer : U) → post place item answer → answer ≡ v (option_copied item)

-- if the span is the whole list, one result for each place is the map of the members
abbrev pub AnswersAreMap : {T U : Type 0} → (ℕ → Option (Bor T) → U → Type 0) → Type 0
AnswersAreMap {T} {U} post =
    (v : Option T → U) (members : List (Option T)) (span : Interval) (all : List U) → Computes post v
    → span.from ≡ 0 → span.to ≡ length members → AnswersOver post members span all → all ≡ map v members

-- the sum of two numbers of 64 bits, without what does not fit
abbrev pub wrapping_sum : ℕ → ℕ → ℕ
wrapping_sum a b = (a + b) % 2 ^ 64

-- over the values of a domain, op is what join does; it may be grouped in any way, and the unit changes
-- nothing
pub record Joins {U : Type 0} (post : U → U → U → Type 0) (is_in : U → Type 0) (unit : U)
    (op : U → U → U) : Type 0 where
  pub inside : is_in unit
  pub computes : (a b r : U) → is_in a → is_in b → post a b r → r ≡ op a b
  pub stays : (a b : U) → is_in a → is_in b → is_in (op a b)
  pub associative : (a b c : U) → is_in a → is_in b → is_in c → op (op a b) c ≡ op a (op b c)
  pub from_left : (a : U) → is_in a → op unit a ≡ a
  pub from_right : (a : U) → is_in a → op a unit ≡ a

-- a function that returns that sum joins numbers by it, from 0
abbrev pub SumsWrap : (ℕ → ℕ → ℕ → Type 0) → Type 0
SumsWrap post = ((a b r : ℕ) → post a b r → r ≡ wrapping_sum a b) → Joins post (λ n. n < 2 ^ 64) 0 wrapping_sum

-- the fold of these results, for every operation that join computes
abbrev pub IsFold : {U : Type 0} → (U → U → U → Type 0) → (U → Type 0) → U → List U → U → Type 0
IsFold {U} post is_in unit answers result = (op : U → U → U) → Joins post is_in unit op → result ≡ fold op unit answers

module _ {T U : Type 0} where
  -- the fold of one result for each place of the span, in order
  abbrev pub FoldsOver : (ℕ → Option (Bor T) → U → Type 0) → (U → U → U → Type 0) → (U → Type 0) → List (Option T)
      → Interval → U → U → Type 0
  FoldsOver f_post join_post is_in members span unit result =
      (answers : List U) × AnswersOver f_post members span answers × IsFold join_post is_in unit answers result

module _ {U : Type 0} (post : U → U → U → Type 0) (is_in : U → Type 0) where
  -- each is a value of the domain
  abbrev pub Within : List U → Type 0
  Within [] = Unit {0}
  Within (x ∷ xs) = is_in x × Within xs

  -- no sum of no results, or otherwise their fold
  abbrev pub Sums : List U → Option U → Type 0
  Sums answers sum =
      MatchOption sum (answers ≡ []) (λ x. is_in x × ((unit : U) → IsFold post is_in unit answers x))

  -- both sums in one
  abbrev pub Merges : Option U → Option U → Option U → Type 0
  Merges None part result = result ≡ part
  Merges (Some a) None result = result ≡ Some a
  Merges (Some a) (Some b) result = (r : U) × (result ≡ Some r) × post a b r × is_in r

  -- the sum of one result for each place from one on and before another
  abbrev pub SumsUpTo : (ℕ → U → Type 0) → ℕ → ℕ → Option U → Type 0
  SumsUpTo P from to sum =
      (answers : List U) × EachFrom P from answers × (from + length answers ≡ to) × Within answers × Sums answers sum
