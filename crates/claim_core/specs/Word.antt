-- The claim word as callers see it.
use Rattle.std.specs.Prelude.{ℕ, Bool, List, Option, slice_get, ◌<◌, ◌≤◌}
use base.Stored.{Coded, coded×, coded_ℕ, coded_bool, coded_list, coded_via}
use Rattle.seg_core.specs.Segment.{most_places}
use Rattle.atomic_table.specs.Seated.{TableId, table_id_coded}
use Rattle.book_core.specs.declared.cells.Cell.{Cell}
use Rattle.claim_core.specs.History.{first_list}

-- which word it is, the greatest size that it may have, and the size that it began with; the numbers that its opener
-- marked it with, and which of the places that it began with have a value; and the number by which its desk names the
-- invariant of its table
pub record WordView : Type 0 where
  pub table : TableId
  pub limit : ℕ
  pub base : ℕ
  pub mark : List ℕ
  pub filled : List Bool
  pub floor : ℕ

-- how that is stored
abbrev pub word_coded : Coded WordView
word_coded =
    coded_via
    (coded× table_id_coded
    (coded× coded_ℕ (coded× coded_ℕ (coded× (coded_list coded_ℕ) (coded× (coded_list coded_bool) coded_ℕ)))))
    (λ (w : WordView). (w.table, (w.limit, (w.base, (w.mark, (w.filled, w.floor))))))
    (λ x y e i. record {
      table = (e i).0;
      limit = (e i).1.0;
      base = (e i).1.1.0;
      mark = (e i).1.1.1.0;
      filled = (e i).1.1.1.1.0;
      floor = (e i).1.1.1.1.1;
    })

-- what the list that the word's history begins with has at a place
abbrev pub first_at : WordView → ℕ → Option Cell
first_at word place = slice_get (first_list word.limit word.base word.filled).cells place

-- a word may have this limit, and begin at this base
pub record AreBounds (limit base : ℕ) : Type 0 where
  pub positive : 0 < limit
  pub small : limit ≤ most_places
  pub room : base ≤ limit
