-- The shared vector as callers see it, and what belongs to it.
use Rattle.std.specs.Prelude.{◌≡◌, ℕ, ◌<◌, ◌≤◌, List, Option, Some, None, slice_get}
use Rattle.std.specs.Coded.{coded_option}
use base.Stored.{Coded, coded×, coded_list, coded_via}
use mathlib.Core.List.{IsPrefix}
use Rattle.claim_core.specs.Word.{WordView, word_coded, first_at}
use Rattle.claim_core.specs.History.{value_cell, broken_cell}
use Rattle.claim_core.specs.Hand.{HandView, KeepsOwn}
use Rattle.cell_core.specs.Block.{IsPlacedIn, IsSpoiltIn, IsBegunIn}
use Rattle.cell_core.specs.Member.{MemberView}
use Rattle.table_core.specs.Table.{TableView, table_coded, IsKeyIn, IsBlockOf}
use Rattle.seg_core.specs.Segment.{most_segments}
use Rattle.tie_core.specs.Tie.{Tie}
use Rattle.grow_core.specs.Keys.{KeyRow, key_at, mark_of}
use Rattle.grow_core.specs.Ties.{TagRow, AreTiedTo}
use Rattle.grow_core.specs.Parts.{AreWhole, values_in, filled_in}
use Rattle.grow_core.specs.Token.{PlacedView, SpoiltView, BegunView, place_in}

-- which vector it is: its claim word, with its limit and its base, and its segments; and the list that it was opened
-- from, each member a value or broken (`None`)
pub record VectorView (T : Type 0) : Type 0 where
  pub word : WordView
  pub segments : TableView
  pub opened : List (Option T)

-- that of a word and segments, with what is known of the list
abbrev pub vector_of : {T : Type 0} → WordView → TableView → List (MemberView T) → VectorView T
vector_of word segments known = record { word = word; segments = segments; opened = values_in known }

-- how that is stored
abbrev pub vector_coded : {T : Type 0} → Coded T → Coded (VectorView T)
vector_coded {T} c =
    coded_via (coded× word_coded (coded× table_coded (coded_list (coded_option c))))
    (λ (v : VectorView T). (v.word, (v.segments, v.opened)))
    (λ x y e i. record { word = (e i).0; segments = (e i).1.0; opened = (e i).1.1 })

-- the greatest size that it may have
abbrev pub limit_of : {T : Type 0} → VectorView T → ℕ
limit_of vector = vector.word.limit

-- how its places are cut into segments
abbrev pub layout_of : {T : Type 0} → VectorView T → ℕ
layout_of vector = vector.segments.layout

-- the size that it began with
abbrev pub base_of : {T : Type 0} → VectorView T → ℕ
base_of vector = vector.word.base

-- the list that it was opened from has this value at the place
abbrev pub IsOpenedAt : {T : Type 0} → VectorView T → ℕ → T → Type 0
IsOpenedAt vector place x = slice_get vector.opened place ≡ Some (Some x)

-- the vector's history begins with the list that it was opened from: with its values, which the history names
-- by their places, and with its broken members
pub record BeginsAsOpened {T : Type 0} (vector : VectorView T) : Type 0 where
  pub values : (place : ℕ) (x : T) → IsOpenedAt vector place x
      → first_at vector.word place ≡ Some (value_cell place)
  pub broken : (place : ℕ) → slice_get vector.opened place ≡ Some None
      → first_at vector.word place ≡ Some broken_cell

-- what holds of a vector at all times: what is known of the list that it was opened from, by the keys of its first
-- segments; the row has no other key; the mark of the word and its hands has the layout and the names of the segments, and
-- says whether each member of that list has a value; and all entries are tied to the word
pub record IsShared {T : Type 0} (word : WordView) (segments : TableView) (keys : KeyRow)
    (known : List (MemberView T)) (count : ℕ) (cells : Tie) (tags : TagRow) : Type 0 where
  pub whole : AreWhole segments.layout segments.names keys known word.base word.limit count
  pub mark : word.mark ≡ mark_of segments
  pub filled : word.filled ≡ filled_in (values_in known)
  pub none : (segment : ℕ) → segment < most_segments → count ≤ segment → key_at keys segment ≡ None
  pub tied : AreTiedTo word segments cells tags

-- the hand belongs to the vector
abbrev pub IsHandOf : {T : Type 0} → VectorView T → HandView → Type 0
IsHandOf vector hand = hand.of ≡ vector.word

-- the token belongs to the vector: its cell is one of the segment whose key it has
pub record IsPlacedOf {T : Type 0} (vector : VectorView T) (placed : PlacedView T) : Type 0 where
  pub key : IsKeyIn vector.segments placed.key
  pub long : IsBlockOf (layout_of vector) placed.key.segment placed.key.block
  pub cell : IsPlacedIn placed.key.block placed.cell
  pub place : placed.place ≡ place_in (layout_of vector) placed.key.segment placed.cell.offset
  pub value : placed.value ≡ placed.cell.value

-- the same for the token of a broken place
pub record IsSpoiltOf {T : Type 0} (vector : VectorView T) (spoilt : SpoiltView) : Type 0 where
  pub key : IsKeyIn vector.segments spoilt.key
  pub long : IsBlockOf (layout_of vector) spoilt.key.segment spoilt.key.block
  pub cell : IsSpoiltIn spoilt.key.block spoilt.cell
  pub place : spoilt.place ≡ place_in (layout_of vector) spoilt.key.segment spoilt.cell.offset

-- the same for the token of a place that another caller began
pub record IsBegunOf {T : Type 0} (vector : VectorView T) (begun : BegunView) : Type 0 where
  pub key : IsKeyIn vector.segments begun.key
  pub long : IsBlockOf (layout_of vector) begun.key.segment begun.key.block
  pub cell : IsBegunIn begun.key.block begun.cell
  pub place : begun.place ≡ place_in (layout_of vector) begun.key.segment begun.cell.offset

-- the hand may have seen more, and nothing else of it has changed
pub record SeesMore (old new : HandView) : Type 0 where
  pub seen : IsPrefix old.seen new.seen
  pub own : KeepsOwn old new
