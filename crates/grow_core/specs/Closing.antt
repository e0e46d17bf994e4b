-- How a vector is closed into a list, and what is kept of it there.
use Rattle.std.specs.Prelude.{◌≡◌, ◌≢◌, ℕ, ◌+◌, ◌<◌, ◌≤◌, List, ◌++◌, Option, Some, None, slice_get, slice_index, length, IsSome}
use Rattle.std.specs.Coded.{coded_option}
use Rattle.book_core.specs.declared.cells.Cell.{Cell}
use Rattle.book_core.specs.declared.cells.Cell.TheVariants as cells
use Rattle.book_core.specs.Cells.{CellList}
use Rattle.book_core.specs.History.{IsHistory}
use Rattle.tie_core.specs.Tie.{Tie, tie_coded, Stage}
use Rattle.claim_core.specs.History.{Log, first_list}
use Rattle.claim_core.specs.Gain.{IsTiedTo}
use Rattle.claim_core.specs.Word.{WordView}
use Rattle.claim_core.specs.Hand.{HandView, hand_coded, IsWholeHand, seen_size}
use Rattle.claim_core.specs.Plays.{ShowsAt, cell_stage}
use Rattle.cell_core.specs.Fixed.{HasValueByStage, stage_in, untied_cell}
use Rattle.cell_core.specs.Slot.{Names}
use Rattle.cell_core.specs.Mould.{mould_of, row_mould}
use base.Fml.{Lft}
use base.Stored.{Coded, coded×, coded_ℕ, coded_list, coded_via}
use Rattle.seg_core.specs.Segment.{segment_start, segment_end, most_segments}
use Rattle.cell_core.specs.Block.{BlockView, IsMemberAt, block_len, cell_at}
use Rattle.cell_core.specs.Member.{MemberView}
use Rattle.table_core.specs.Table.{TableView, KeyView, IsTiedBlockOf}
use Rattle.grow_core.specs.Keys.{KeyRow, AreKeys, key_at, mark_of, layout_in, names_in}
use Rattle.grow_core.specs.Token.{PlacedView, place_in}
use Rattle.grow_core.specs.Parts.{AreLong, AreMembers, AreWhole, HasFirstKeys, AreBrokenIn, AreStaged, RestagesCell, member_stage, values_in}
use Rattle.grow_core.specs.Ties.{TagRow, KnowsRow}
use Rattle.grow_core.specs.Vector.{VectorView, IsPlacedOf, IsShared, base_of}

-- the list, by what is known of it, was closed from the vector, and is as it was then
abbrev pub IsClosedFrom : {T : Type 0} → VectorView T → Option (List ℕ) → Type 0
IsClosedFrom vector closed = closed ≡ Some (mark_of vector.segments)

-- the token is of the vector that such a list was closed from
abbrev pub IsOfClosed : {T : Type 0} → Option (List ℕ) → PlacedView T → Type 0
IsOfClosed {T} closed placed = (vector : VectorView T) × IsClosedFrom vector closed × IsPlacedOf vector placed

-- each value of the old list is at its place in the new one
abbrev pub KeepsValues : {T : Type 0} → List (Option T) → List (Option T) → Type 0
KeepsValues {T} old new =
    (place : ℕ) (x : T) → slice_get old place ≡ Some (Some x) → slice_get new place ≡ Some (Some x)

-- what is kept of a vector whose segments had this mark: the keys of its first `count` segments, as they were
-- before. The names of the values are those of the cells there; each cell after the known ones is unchanged
-- except for its tie, and so is each segment after the first ones
pub record IsKeptOf {T : Type 0} (f : ℕ) (mark : List ℕ) (before : KeyRow) (names : List ℕ) (row : KeyRow)
    (known : List (MemberView T)) (count : ℕ) : Type 0 where
  pub layout : layout_in mark ≡ f
  pub named : AreKeys mark before
  pub long : AreLong f before
  pub there : HasFirstKeys before count
  pub of : (segment offset : ℕ) (key : KeyView) (m : MemberView T) → segment < most_segments
      → key_at before segment ≡ Some key
      → place_in f segment offset < segment_end f segment → slice_get known (place_in f segment offset) ≡ Some m
      → m.name ≡ (cell_at key.block offset).value_name
  pub later : (segment offset : ℕ) (old new : KeyView) → segment < most_segments → key_at before segment ≡ Some old
      → key_at row segment ≡ Some new
      → length known ≤ place_in f segment offset → untied_cell (cell_at new.block offset) ≡ untied_cell (cell_at old.block offset)
  pub after : (segment : ℕ) → segment < most_segments → count ≤ segment
      → slice_index names segment ≡ slice_index (names_in mark) segment

-- the same, of the vector that the list was closed from, if it was closed from one
abbrev pub IsKept : {T : Type 0} → ℕ → Option (List ℕ) → KeyRow → List ℕ → KeyRow → List (MemberView T) → ℕ → Type 0
IsKept f None before names row known count = Unit {0}
IsKept f (Some mark) before names row known count = IsKeptOf f mark before names row known count

-- a vector that is being closed: the list that it was opened from, the members of the new one so far, the
-- greatest length, how many there will be, the layout of its segments, and the mark that they had; the tie whose codes
-- those of the cells are, and the hand that has all shares; the first segment that is not closed yet, and how many are to
-- be closed
pub record ClosingView (T : Type 0) : Type 0 where
  pub opened : List (Option T)
  pub members : List (Option T)
  pub limit : ℕ
  pub size : ℕ
  pub layout : ℕ
  pub mark : List ℕ
  pub cells : Tie
  pub hand : HandView
  pub next : ℕ
  pub count : ℕ

abbrev pub closing_coded : {T : Type 0} → Coded T → Coded (ClosingView T)
closing_coded {T} c =
    coded_via (coded× (coded_list (coded_option c))
    (coded× (coded_list (coded_option c)) (coded× coded_ℕ (coded× coded_ℕ (coded× coded_ℕ (coded× (coded_list coded_ℕ)
    (coded× tie_coded (coded× hand_coded (coded× coded_ℕ coded_ℕ)))))))))
    (λ (v : ClosingView T). (v.opened, (v.members, (v.limit, (v.size, (v.layout, (v.mark, (v.cells, (v.hand, (v.next, v.count))))))))))
    (λ x y e i. record {
      opened = (e i).0;
      members = (e i).1.0;
      limit = (e i).1.1.0;
      size = (e i).1.1.1.0;
      layout = (e i).1.1.1.1.0;
      mark = (e i).1.1.1.1.1.0;
      cells = (e i).1.1.1.1.1.1.0;
      hand = (e i).1.1.1.1.1.1.1.0;
      next = (e i).1.1.1.1.1.1.1.1.0;
      count = (e i).1.1.1.1.1.1.1.1.1;
    })

-- if a value was known, it is known still
abbrev pub KeepsKnown : {T : Type 0} → Option T → Option T → Type 0
KeepsKnown old new = old ≢ None → new ≡ old

-- the same of each place from this one on
abbrev pub KeepsKnownFrom : {T : Type 0} → List (MemberView T) → ℕ → List (MemberView T) → Type 0
KeepsKnownFrom {T} opened place settled =
    (i : ℕ) (k m : MemberView T) → slice_get opened (place + i) ≡ Some k → slice_get settled i ≡ Some m
    → KeepsKnown k.value m.value

-- ---- Settled cells

-- n cells of a block, from an offset on, are settled; they are the places from `place` on. The row has what is
-- known of them from now on, in order. A value that was known stays, and a cell without one is broken for the
-- epoch. A cell that was fixed at a stage is then fixed at that of its member. All other cells are as they were
pub record AreSettled {T : Type 0} (old new : BlockView) (offset : ℕ) (opened : List (MemberView T)) (place : ℕ)
    (old_row new_row : List (MemberView T)) (epoch : Lft) (n : ℕ) : Type 0 where
  pub settled : List (MemberView T)
  pub row : new_row ≡ old_row ++ settled
  pub all : length settled ≡ n
  pub len : block_len new ≡ block_len old
  pub members : (i : ℕ) (m : MemberView T) → slice_get settled i ≡ Some m → IsMemberAt new (offset + i) m
  pub names : (i : ℕ) (m : MemberView T) → slice_get settled i ≡ Some m
      → m.name ≡ (cell_at old (offset + i)).value_name
  pub values : KeepsKnownFrom opened place settled
  pub broken : AreBrokenIn epoch settled
  pub stages : (i : ℕ) (m : MemberView T) → slice_get settled i ≡ Some m
      → HasValueByStage (cell_at old (offset + i)) m.value
  pub fixed : (i : ℕ) (m : MemberView T) → slice_get settled i ≡ Some m
      → RestagesCell old new (offset + i) (member_stage (Some m))
  pub before : (q : ℕ) → q < offset → cell_at new q ≡ cell_at old q
  pub after : (q : ℕ) → offset + n ≤ q → cell_at new q ≡ cell_at old q

-- each value of the old list that is below a place is at its place in the new one
abbrev pub KeepsValuesBelow : {T : Type 0} → ℕ → List (Option T) → List (Option T) → Type 0
KeepsValuesBelow {T} n old new =
    (place : ℕ) (x : T) → place < n → slice_get old place ≡ Some (Some x) → slice_get new place ≡ Some (Some x)

-- what holds while a vector is being closed
pub record IsClosing {T : Type 0} (f : ℕ) (mark : List ℕ) (before : KeyRow) (names : List ℕ) (row : KeyRow)
    (opened known : List (MemberView T)) (epoch : Lft) (len limit count size : ℕ) : Type 0 where
  pub whole : AreWhole f names row known len limit count
  pub broken : AreBrokenIn epoch known
  pub kept : IsKeptOf f mark before names row known count
  pub first : AreMembers f before opened
  pub inside : length opened ≤ size
  pub values : KeepsValuesBelow len (values_in opened) (values_in known)
  pub within : len ≤ size
  pub most : size ≤ limit
  pub enough : size ≤ segment_start f count

-- ---- The list of the history

-- the member at a place is what the history's list has there: a value if it is filled, and otherwise it is broken
abbrev pub IsMemberOf : {T : Type 0} → Option Cell → Option (Option T) → Type 0
IsMemberOf None member = ⊥
IsMemberOf {T} (Some (cells.Filled value)) member = (x : T) × (member ≡ Some (Some x))
IsMemberOf (Some (cells.Pending actor)) member = member ≡ Some None
IsMemberOf (Some cells.Broken) member = member ≡ Some None

-- the history of a word leads to a list, and these members are those of its first places
pub record IsListSoFar {T : Type 0} (word : WordView) (log : Log) (members : List (Option T)) : Type 0 where
  pub list : CellList
  pub history : IsHistory (first_list word.limit word.base word.filled) log list
  pub each : (place : ℕ) → place < length members → IsMemberOf (slice_get list.cells place) (slice_get members place)

-- the same of all places
pub record IsListOfHistory {T : Type 0} (vector : VectorView T) (log : Log) (members : List (Option T)) : Type 0 where
  pub so_far : IsListSoFar vector.word log members
  pub all : length so_far.list.cells ≡ length members

-- ---- Segments while a vector is being closed

-- the cells of a segment have seats in a row, with the codes of the tie
abbrev pub IsTiedByCells : Tie → BlockView → Type 0
IsTiedByCells cells block = mould_of block.cells ≡ row_mould cells (block_len block)

-- The parts of a vector that was taken apart, and the keys of its first `n` segments. A segment of the opened list has
-- the key that was kept for it
pub record IsTakenBy {T : Type 0} (word : WordView) (segments : TableView) (known : List (MemberView T))
    (cells : Tie) (row : KeyRow) (n : ℕ) : Type 0 where
  pub keys : KeyRow
  pub count : ℕ
  pub tags : TagRow
  pub shared : IsShared word segments keys known count cells tags
  pub first : (s : ℕ) → s < n → IsSome (key_at keys s) → key_at row s ≡ key_at keys s

-- the keys of the row are those of their segments, and each segment with a place of the opened list has one
pub record AreOpenedKeys {T : Type 0} (vector : VectorView T) (row : KeyRow) : Type 0 where
  pub named : AreKeys (mark_of vector.segments) row
  pub there : (segment : ℕ) → segment_start vector.segments.layout segment < base_of vector → IsSome (key_at row segment)

-- the hand knows where the places of the row's segments stand, which are tied as the vector has them
abbrev pub AreKnown : TableView → HandView → KeyRow → Type 0
AreKnown segments hand row =
    (segment : ℕ) (key : KeyView) → segment < most_segments → key_at row segment ≡ Some key
    → IsTiedBlockOf segments segment key.block × KnowsRow hand segment key.block

-- A vector that is being closed keeps this, next to its list. The word is open, and the whole hand is there. The segments
-- from `next` on are still as they were, and the hand knows where their places stand; the cells of those before it are
-- fixed at the stages of their members. The members so far are those of the history's list
pub record IsStillOpen {T : Type 0} (word : WordView) (hand : HandView) (cells : Tie) (f next count size : ℕ)
    (row : KeyRow) (known : List (MemberView T)) : Type 0 where
  pub of : hand.of ≡ word
  pub mark : layout_in hand.of.mark ≡ f
  pub whole : IsWholeHand hand
  pub sized : size ≡ seen_size hand
  pub tied : IsTiedTo word cells
  pub open_still : (segment : ℕ) (key : KeyView) → next ≤ segment → segment < count → key_at row segment ≡ Some key
      → IsTiedByCells cells key.block × KnowsRow hand segment key.block
  pub closed : AreStaged f row known next
  pub at : length known < size → length known ≡ segment_start f next
  pub past : length known ≤ segment_start f next
  pub list : IsListSoFar word hand.log (values_in known)

-- each cell of a segment is fixed at a stage, and has its names except for the tie
pub record AreFixed (old new : BlockView) : Type 0 where
  pub len : block_len new ≡ block_len old
  pub cells : (q : ℕ) → untied_cell (cell_at new q) ≡ untied_cell (cell_at old q)
  pub fixed : (q : ℕ) → q < block_len new → (stage : Stage) × (stage_in (cell_at new q) ≡ Some stage)

-- and the history of the hand shows the place as a cell at this stage is
abbrev pub AreToldBy : HandView → ℕ → ℕ → BlockView → Type 0
AreToldBy hand f segment block =
    (q : ℕ) (stage : Stage) → q < block_len block → stage_in (cell_at block q) ≡ Some stage
    → ShowsAt hand (place_in f segment q) (cell_stage stage)
