-- The tokens of places next to each other, as far as these are filled.
use Rattle.std.proofs.Common.{◌≡◌, ℕ, zero, suc, ◌+◌, ◌⊎◌, List, [], ◌∷◌, ◌++◌, length, Some, refl, sym, ap, ap₂, ◌∙◌, subst, inl, inr, ⊎_elim, arith}
use Rattle.std.specs.Prelude.{slice_get}
use Rattle.std.specs.List.{All, FoldsTo}
use Rattle.std.proofs.lemmas.List.{map-append, length-map}
use Rattle.std.proofs.lemmas.List.Elements.{All-append}
use Rattle.grow_core.specs.Token.{PlacedView}
use Rattle.grow_core.specs.Vector.{VectorView, IsPlacedOf}
use Rattle.grow_core.specs.Grown.{AreTokensOf, AreKeptFrom}

-- a member of two lists is one of the first list, or of the second
pub slice_get-append : {X : Type 0} (xs ys : List X) (i : ℕ) (x : X) → slice_get (xs ++ ys) i ≡ Some x
    → (slice_get xs i ≡ Some x) ⊎ ((j : ℕ) × (i ≡ length xs + j) × (slice_get ys j ≡ Some x))
slice_get-append [] ys i x h = inr (i, omega arith, h)
slice_get-append (z ∷ zs) ys zero x h = inl h
slice_get-append (z ∷ zs) ys (suc i) x h =
    ⊎_elim (λ left. inl left) (λ right. inr (right.0, omega (arith, right.1), right.2)) (slice_get-append zs ys i x h)

pub all_none : {X : Type 0} (P : X → Type 0) → All P []
all_none P k d below = absurd (omega (arith, below))

pub all_one : {X : Type 0} (P : X → Type 0) (x : X) → P x → All P (x ∷ [])
all_one P x p zero d lt = p
all_one P x p (suc k) d lt = absurd (omega arith)

one_place : {T : Type 0} (from : ℕ) (token : PlacedView T) → token.place ≡ from → (i : ℕ) (t : PlacedView T) → slice_get (token ∷ []) i ≡ Some t → t.place ≡ from + i
one_place {T} from token here zero t h = let same : token ≡ t = cc in omega (arith, here, ap (λ (u : PlacedView T). u.place) same)
one_place from token here (suc i) t h = absurd (cc)

tokens_one : {T : Type 0} (vector : VectorView T) (from : ℕ) (value : T) (token : PlacedView T) → IsPlacedOf vector token → token.place ≡ from → token.value ≡ value
    → AreTokensOf vector from (value ∷ []) (token ∷ [])
tokens_one vector from value token of here holds = record { of = all_one (IsPlacedOf vector) token of; places = one_place from token here; hold = ap (λ v. v ∷ []) holds }

module _ {T : Type 0} (vector : VectorView T) (from : ℕ) where
  -- no place is filled yet
  pub tokens_none : AreTokensOf vector from [] []
  tokens_none = record { of = all_none (IsPlacedOf vector); places = λ i token h. absurd (cc); hold = refl }

  -- the places after these are filled too
  pub tokens_join : (values more : List T) (tokens next : List (PlacedView T)) → AreTokensOf vector from values tokens
      → AreTokensOf vector (from + length tokens) more next → AreTokensOf vector from (values ++ more) (tokens ++ next)
  tokens_join values more tokens next first then =
      let V : PlacedView T → T = λ t. t.value in record {
        of = All-append (IsPlacedOf vector) tokens next first.of then.of;
        places = λ i t h. ⊎_elim
            (λ (left : slice_get tokens i ≡ Some t). first.places i t left)
            (λ (right : (j : ℕ) × (i ≡ length tokens + j) × (slice_get next j ≡ Some t)). omega (arith, then.places right.0 t right.2, right.1))
            (slice_get-append tokens next i t h);
        hold = map-append V tokens next ∙ ap₂ (λ vs ws. vs ++ ws) first.hold then.hold;
      }

  -- the next place is filled
  pub tokens_more : (values : List T) (tokens : List (PlacedView T)) (value : T) (token : PlacedView T) → AreTokensOf vector from values tokens
      → IsPlacedOf vector token → token.place ≡ from + length tokens → token.value ≡ value → AreTokensOf vector from (values ++ value ∷ []) (tokens ++ token ∷ [])
  tokens_more values tokens value token filled of here holds =
      tokens_join values (value ∷ []) tokens (token ∷ []) filled (tokens_one vector (from + length tokens) value token of here holds)

  pub tokens_count : (values : List T) (tokens : List (PlacedView T)) → AreTokensOf vector from values tokens → length tokens ≡ length values
  tokens_count values tokens are = sym (length-map tokens (λ (t : PlacedView T). t.value)) ∙ ap length are.hold

-- two walks, one after the other
FoldsTo-append : {P A : Type 0} (R : P → A → P → Type 0) (p : P) (xs : List A) (q : P) (ys : List A) (u : P) → FoldsTo R p xs q → FoldsTo R q ys u
    → FoldsTo R p (xs ++ ys) u
FoldsTo-append R p [] q ys u first then = subst (λ k. FoldsTo R k ys u) (sym first) then
FoldsTo-append R p (z ∷ xs) q ys u first then = (first.0, first.1, FoldsTo-append R first.0 xs q ys u first.2 then)

module _ {K T : Type 0} (step : K → PlacedView T → Unit {0} → K → Type 0) (vector : VectorView T) (from : ℕ) where
  -- no token was kept of a run without values
  pub kept_none : (keep : K) (values : List T) → length values ≡ 0 → AreKeptFrom step keep keep vector from values
  kept_none keep [] none = record { tokens = []; kept = refl; are = tokens_none vector from }
  kept_none keep (x ∷ xs) none = absurd (omega (arith, none))

  -- the tokens of the places after these were kept too
  pub kept_join : (old mid new : K) (values more : List T) (tokens : List (PlacedView T)) → FoldsTo (λ k token next. step k token tt next) old tokens mid
      → AreTokensOf vector from values tokens → (next : AreKeptFrom step mid new vector (from + length tokens) more)
      → FoldsTo (λ k token next. step k token tt next) old (tokens ++ next.tokens) new × AreTokensOf vector from (values ++ more) (tokens ++ next.tokens)
  kept_join old mid new values more tokens kept are next =
      (FoldsTo-append (λ k token next. step k token tt next) old tokens mid next.tokens new kept next.kept, tokens_join vector from values more tokens next.tokens are next.are)
