-- A walk over what a vector shows.
use Rattle.std.specs.Prelude.{◌≡◌, ℕ, ◌+◌, ◌<◌, Option, Some, None}
use Rattle.std.specs.Borrow.{Bor}
use Rattle.std.specs.Option.{option_copied}
use base.Stored.{Coded, coded×, coded_ℕ, coded_via}
use Rattle.grow_core.specs.Vector.{VectorView, vector_coded, IsOpenedAt}

-- the vector, the next place, and the place at which the walk ends
pub record PublishedView (T : Type 0) : Type 0 where
  pub vector : VectorView T
  pub place : ℕ
  pub end : ℕ

-- how that is stored
abbrev pub published_coded : {T : Type 0} → Coded T → Coded (PublishedView T)
published_coded {T} c =
    coded_via (coded× (vector_coded c) (coded× coded_ℕ coded_ℕ)) (λ (p : PublishedView T). (p.vector, (p.place, p.end)))
    (λ x y e i. record { vector = (e i).0; place = (e i).1.0; end = (e i).1.1 })

-- 1 if the place of an item shows a value, otherwise 0
abbrev pub one_if_shown : {X : Type 0} → Option X → ℕ
one_if_shown None = 0
one_if_shown (Some x) = 1

-- a walk goes on by one place, and shows the value that the opened list has there
abbrev pub StepsOver : {T : Type 0} → PublishedView T → Option (Bor T) → PublishedView T → Type 0
StepsOver {T} old item new =
    (old.place < old.end) × (new ≡ record old { place = old.place + 1 })
    × ((x : T) → IsOpenedAt old.vector old.place x → option_copied item ≡ Some x)

-- a walk goes on so, or it is at its end
abbrev pub WalksOn : {T : Type 0} → PublishedView T → Option (Option (Bor T)) → PublishedView T → Type 0
WalksOn old None new = (old.place ≡ old.end) × (new ≡ old)
WalksOn old (Some item) new = StepsOver old item new
