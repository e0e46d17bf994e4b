-- Members that lie side by side.
use Rattle.std.proofs.Common.{◌≡◌, ◌≢◌, ℕ, zero, suc, ◌+◌, ◌<◌, ◌≤◌, List, [], ◌∷◌, ◌++◌, length, take, drop, Option, Some, None, refl, sym, ap, ◌∙◌, subst, ⊎_elim, arith}
use Rattle.std.specs.Prelude.{slice_get}
use Rattle.std.proofs.lemmas.List.{map-append}
use Rattle.cell_core.specs.Block.{BlockView, IsMemberAt, AreFilledFrom}
use Rattle.cell_core.specs.Member.{MemberView}
use Rattle.seg_core.specs.Segment.{segment_end, segment_of, most_segments}
use Rattle.table_core.specs.Table.{KeyView}
use Rattle.grow_core.specs.Keys.{KeyRow, key_at}
use Rattle.grow_core.specs.Token.{place_in}
use Rattle.grow_core.specs.Parts.{AreWhole, values_in}
use Rattle.grow_core.specs.Slices.{HasBroken}
use Rattle.grow_core.proofs.Filling.{slice_get-append}
use Rattle.grow_core.proofs.Stretches.{take_next}

pub get_drop : {X : Type 0} (p : ℕ) (xs : List X) (i : ℕ) → slice_get (drop p xs) i ≡ slice_get xs (p + i)
get_drop zero xs i = let same : i ≡ 0 + i = omega arith in ap (slice_get xs) same
get_drop (suc p) [] i = refl
get_drop (suc p) (x ∷ xs) i = let same : suc p + i ≡ suc (p + i) = omega arith in get_drop p xs i ∙ ap (slice_get (x ∷ xs)) (sym same)

pub get_take : {X : Type 0} (n : ℕ) (xs : List X) (i : ℕ) → i < n → slice_get (take n xs) i ≡ slice_get xs i
get_take zero xs i less = absurd (omega arith)
get_take (suc n) [] i less = refl
get_take (suc n) (x ∷ xs) zero less = refl
get_take (suc n) (x ∷ xs) (suc i) less = get_take n xs i (omega arith)

pub get_value : {T : Type 0} (row : List (MemberView T)) (i : ℕ) (m : MemberView T) → slice_get row i ≡ Some m → slice_get (values_in row) i ≡ Some m.value
get_value [] i m h = absurd (cc)
get_value {T} (k ∷ row) zero m h = let same : k ≡ m = cc in ap (λ (u : MemberView T). Some u.value) same
get_value (k ∷ row) (suc i) m h = get_value row i m h

module _ {T : Type 0} (members : List (Option T)) (all : List (MemberView T)) (are : values_in all ≡ members) (place i : ℕ) (m : MemberView T)
    (at : slice_get all (place + i) ≡ Some m) where
  -- the member at an index of those from a place on
  pub member_from : slice_get (drop place members) i ≡ Some m.value
  member_from = get_drop place members i ∙ ap (λ vs. slice_get vs (place + i)) (sym are) ∙ get_value all (place + i) m at

  -- one more of them is known
  pub values_more : (row : List (MemberView T)) → values_in row ≡ take i (drop place members) → values_in (row ++ m ∷ []) ≡ take (i + 1) (drop place members)
  values_more row is = map-append (λ (u : MemberView T). u.value) row (m ∷ []) ∙ ap (λ vs. vs ++ m.value ∷ []) is ∙ sym (take_next (drop place members) i m.value member_from)

  pub is_broken : (n : ℕ) → i < n → m.value ≡ None → HasBroken (take n (drop place members))
  is_broken n less none = (i, get_take n (drop place members) i less ∙ member_from ∙ ap (λ v. Some v) none)

pub filled_none : {T : Type 0} (block : BlockView) (offset : ℕ) → AreFilledFrom {T = T} block offset []
filled_none block offset i m h = absurd (cc)

module _ {T : Type 0} (block : BlockView) (offset i : ℕ) (m : MemberView T) (is : IsMemberAt block (offset + i) m) (some : m.value ≢ None) where
  last_filled : (l j : ℕ) (k : MemberView T) → j ≡ i + l → slice_get (m ∷ []) l ≡ Some k → IsMemberAt block (offset + j) k × (k.value ≢ None)
  last_filled zero j k here h =
      let same : m ≡ k = cc in let at : offset + i ≡ offset + j = omega (arith, here) in
      subst (λ (u : MemberView T). IsMemberAt block (offset + j) u × (u.value ≢ None)) same (subst (λ (o : ℕ). IsMemberAt block o m) at is, some)
  last_filled (suc l) j k here h = absurd (cc)

  -- one more cell is filled
  pub filled_more : (row : List (MemberView T)) → length row ≡ i → AreFilledFrom block offset row → AreFilledFrom block offset (row ++ m ∷ [])
  filled_more row long filled j k h = ⊎_elim
      (λ (left : slice_get row j ≡ Some k). filled j k left)
      (λ (right : (l : ℕ) × (j ≡ length row + l) × (slice_get (m ∷ []) l ≡ Some k)). last_filled right.0 j k (omega (arith, right.1, long)) right.2)
      (slice_get-append row (m ∷ []) j k h)

-- what is known of a place of a segment is known of its cell
pub member_in : {T : Type 0} (f : ℕ) (names : List ℕ) (row : KeyRow) (known : List (MemberView T)) (len limit count : ℕ) → AreWhole f names row known len limit count
    → (segment offset place i n : ℕ) (key : KeyView) (m : MemberView T) → segment < most_segments → key_at row segment ≡ Some key
    → segment ≡ segment_of f place → place_in f segment offset ≡ place → place + n ≤ segment_end f (segment_of f place) → i < n
    → slice_get known (place + i) ≡ Some m → IsMemberAt key.block (offset + i) m
member_in f names row known len limit count whole segment offset place i n key m small there number here ends less at =
    let end = subst (λ (k : ℕ). place + n ≤ segment_end f k) (sym number) ends in
    let same : place + i ≡ place_in f segment (offset + i) = omega (arith, here) in
    whole.of segment (offset + i) key m small there (omega (arith, end, same)) (subst (λ (p : ℕ). slice_get known p ≡ Some m) same at)
