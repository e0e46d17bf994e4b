-- The tokens of the vector's places.
use Rattle.std.specs.Prelude.{ℕ, ◌+◌, ◌<◌}
use base.Stored.{Coded, coded×, coded_ℕ, coded_via}
use Rattle.seg_core.specs.Segment.{segment_start, segment_count, most_places}
use Rattle.cell_core.specs.Block as block
use Rattle.table_core.specs.Table.{KeyView, key_coded}

-- the token of a filled place: the place and its value, the key of its segment, and its cell there
pub record PlacedView (T : Type 0) : Type 0 where
  pub place : ℕ
  pub value : T
  pub key : KeyView
  pub cell : block.PlacedView T

abbrev pub placed_coded : {T : Type 0} → Coded T → Coded (PlacedView T)
placed_coded {T} c =
    coded_via (coded× coded_ℕ (coded× c (coded× key_coded (block.placed_coded c))))
    (λ (p : PlacedView T). (p.place, (p.value, (p.key, p.cell))))
    (λ x y e i. record { place = (e i).0; value = (e i).1.0; key = (e i).1.1.0; cell = (e i).1.1.1 })

-- the token of a broken place: the place, the key of its segment, and its cell there
pub record SpoiltView : Type 0 where
  pub place : ℕ
  pub key : KeyView
  pub cell : block.SpoiltView

abbrev pub spoilt_coded : Coded SpoiltView
spoilt_coded =
    coded_via (coded× coded_ℕ (coded× key_coded (coded× coded_ℕ coded_ℕ)))
    (λ (s : SpoiltView). (s.place, (s.key, (s.cell.offset, s.cell.name))))
    (λ x y e i. record { place = (e i).0; key = (e i).1.0; cell = record { offset = (e i).1.1.0; name = (e i).1.1.1 } })

-- the token of a place that another caller began: the place, the key of its segment, and its cell there
pub record BegunView : Type 0 where
  pub place : ℕ
  pub key : KeyView
  pub cell : block.BegunView

abbrev pub begun_coded : Coded BegunView
begun_coded =
    coded_via (coded× coded_ℕ (coded× key_coded block.begun_coded)) (λ (b : BegunView). (b.place, (b.key, b.cell)))
    (λ x y e i. record { place = (e i).0; key = (e i).1.0; cell = (e i).1.1 })

-- a cell of a segment of a layout is this place of the vector
abbrev pub place_in : ℕ → ℕ → ℕ → ℕ
place_in f segment offset = segment_start f segment + offset

-- the token that a key and a cell's token are together
abbrev pub placed_view : {T : Type 0} → KeyView → block.PlacedView T → PlacedView T
placed_view key cell =
    record { place = place_in key.layout key.segment cell.offset; value = cell.value; key = key; cell = cell }

abbrev pub spoilt_view : KeyView → block.SpoiltView → SpoiltView
spoilt_view key cell = record { place = place_in key.layout key.segment cell.offset; key = key; cell = cell }

abbrev pub begun_view : KeyView → block.BegunView → BegunView
begun_view key cell = record { place = place_in key.layout key.segment cell.offset; key = key; cell = cell }

-- the numbers of a segment of a layout and of a cell there
pub record AreSmall (f segment offset : ℕ) : Type 0 where
  pub few : segment < segment_count f
  pub within : offset < most_places
