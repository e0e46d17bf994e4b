-- The keys that a hand carries: a row of one optional key for each segment.
use Rattle.std.specs.Prelude.{◌≡◌, ◌⊎◌, ℕ, List, [], ◌∷◌, Option, Some, None, IsSome, ◌<◌, ◌≤◌, slice_index, slice_index_or, slice_set}
use Rattle.seg_core.specs.Segment.{HasPlace, Touches, segment_count, most_segments}
use Rattle.claim_core.specs.declared.run.Run.{Run}
use Rattle.claim_core.specs.Hand.{HandView, OwnsPlace, IsPlaceOf}
use Rattle.cell_core.specs.Block.{BlockView}
use Rattle.table_core.specs.Table.{TableView, KeyView, IsKeyOf}

abbrev pub KeyRow : Type 0
KeyRow = List (Option KeyView)

-- what the row has for a segment
abbrev pub key_at : KeyRow → ℕ → Option KeyView
key_at row segment = slice_index_or row segment None

-- what marks the segments of a table: their layout, and then their names
abbrev pub mark_of : TableView → List ℕ
mark_of table = table.layout ∷ table.names

-- the layout that a mark gives
abbrev pub layout_in : List ℕ → ℕ
layout_in [] = 0
layout_in (f ∷ names) = f

-- the names that a mark gives
abbrev pub names_in : List ℕ → List ℕ
names_in [] = []
names_in (f ∷ names) = names

-- the key is that of the segment, among the segments with this mark
pub record IsKeyAt (mark : List ℕ) (segment : ℕ) (key : KeyView) : Type 0 where
  pub layout : key.layout ≡ layout_in mark
  pub at : key.segment ≡ segment
  pub within : segment < segment_count (layout_in mark)
  pub named : slice_index (names_in mark) segment ≡ key.name

-- each key of the row is that of its segment
abbrev pub AreKeys : List ℕ → KeyRow → Type 0
AreKeys mark row =
    (segment : ℕ) (key : KeyView) → segment < most_segments → key_at row segment ≡ Some key → IsKeyAt mark segment key

-- the row has a key of this block for the segment
abbrev pub HasBlock : KeyRow → ℕ → BlockView → Type 0
HasBlock row segment block = (key : KeyView) × (key_at row segment ≡ Some key) × (key.block ≡ block)

-- the table has the block for the segment, and the row its key
abbrev pub IsBlockPut : TableView → ℕ → BlockView → KeyRow → KeyRow → Type 0
IsBlockPut table segment block old new =
    (key : KeyView) × IsKeyOf table segment block key × (new ≡ slice_set old segment (Some key))

-- each key of the new row is one of either row
abbrev pub AreOfEither : KeyRow → KeyRow → KeyRow → Type 0
AreOfEither a b new =
    (segment : ℕ) (key : KeyView) → segment < most_segments → key_at new segment ≡ Some key
    → (key_at a segment ≡ Some key) ⊎ (key_at b segment ≡ Some key)

-- the row has the keys that it had, except for one segment, which has this one
abbrev pub PutsKey : KeyRow → KeyRow → ℕ → KeyView → Type 0
PutsKey old new segment key = new ≡ slice_set old segment (Some key)

-- no key is lost
abbrev pub KeepsKeys : KeyRow → KeyRow → Type 0
KeepsKeys old new = (segment : ℕ) → segment < most_segments → IsSome (key_at old segment) → IsSome (key_at new segment)

-- the hand owns each place of the run
abbrev pub OwnsPlacesOf : HandView → Run → Type 0
OwnsPlacesOf hand run = (place : ℕ) → IsPlaceOf run place → OwnsPlace hand place

-- the row has the key of each segment that the run of n places from a place on touches
abbrev pub HasKeysOfRun : ℕ → KeyRow → ℕ → ℕ → Type 0
HasKeysOfRun f row from n =
    (segment : ℕ) → segment < most_segments → Touches f segment from n → IsSome (key_at row segment)

-- the row has the key of the segment of each place from one place up to another
abbrev pub HasKeysOfPlaces : ℕ → KeyRow → ℕ → ℕ → Type 0
HasKeysOfPlaces f row from to =
    (place segment : ℕ) → from ≤ place → place < to → segment < most_segments → HasPlace f segment place
    → IsSome (key_at row segment)

-- the row has the key of each segment that the hand's own runs touch
pub record IsKeyed (hand : HandView) (row : KeyRow) : Type 0 where
  pub keys : AreKeys hand.of.mark row
  pub own : (place segment : ℕ) → segment < most_segments → OwnsPlace hand place
      → HasPlace (layout_in hand.of.mark) segment place → IsSome (key_at row segment)
