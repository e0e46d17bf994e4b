-- The segments of a shared vector, and what their places show.
use Rattle.std.specs.Prelude.{◌≡◌, ℕ, ◌+◌, ◌<◌, List, Option, Some, None, slice_get, length}
use base.Stored.{Coded, coded×, coded_ℕ, coded_via}
use Rattle.grow_core.specs.Vector.{VectorView, vector_coded, IsOpenedAt, layout_of}
use Rattle.grow_core.specs.Slices.{IsInOneSegment, IsToTheEnd}
use Rattle.grow_core.specs.Published.{PublishedView}

-- the vector, the first of the places, and their number
pub record CellsView (T : Type 0) : Type 0 where
  pub vector : VectorView T
  pub from : ℕ
  pub n : ℕ

-- how that is stored
abbrev pub cells_coded : {T : Type 0} → Coded T → Coded (CellsView T)
cells_coded {T} c =
    coded_via (coded× (vector_coded c) (coded× coded_ℕ coded_ℕ)) (λ (s : CellsView T). (s.vector, (s.from, s.n)))
    (λ x y e i. record { vector = (e i).0; from = (e i).1.0; n = (e i).1.1 })

-- a walk goes on by the places of one segment, up to its end or that of the walk; or it is at its end
abbrev pub GoesOnBySegment : {T : Type 0} → PublishedView T → Option (CellsView T) → PublishedView T → Type 0
GoesOnBySegment old None new = (old.place ≡ old.end) × (new ≡ old)
GoesOnBySegment old (Some cells) new =
    (cells.vector ≡ old.vector) × (cells.from ≡ old.place) × (0 < cells.n)
    × IsInOneSegment (layout_of old.vector) old.place cells.n
    × IsToTheEnd (layout_of old.vector) old.place cells.n old.end
    × (new ≡ record old { place = old.place + cells.n })

-- the values of the places from this one on are those that the opened list has there
abbrev pub HoldOpened : {T : Type 0} → VectorView T → ℕ → List T → Type 0
HoldOpened {T} vector place values =
    (i : ℕ) (x : T) → i < length values → IsOpenedAt vector (place + i) x → slice_get values i ≡ Some x
