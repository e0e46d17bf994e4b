-- The sequential vector of cells, and the table of its events.
use Rattle.std.specs.Prelude.{◌≡◌, ℕ, ◌+◌, ◌-◌, nat_le, ◌==◌, Bool, true, false, if◌then◌else◌, List, [], ◌++◌, length, replicate, Option, Some, None, IfSome, slice_get, slice_set}
use Rattle.book_core.specs.declared.cells.Cell.{Cell}
use Rattle.book_core.specs.declared.cells.Cell.TheVariants.{Pending, Filled, Broken}
use Rattle.book_core.specs.declared.events.Event.{Event}
use Rattle.book_core.specs.declared.events.Event.TheVariants.{Claim, Raise, Finish, Break, Mend, Look, Size, RefusedFull, RefusedMemory}
use Rattle.book_core.specs.declared.events.Reply.{Reply}
use Rattle.book_core.specs.declared.events.Reply.TheVariants as replies

-- a limit, and the cells of the places that were claimed, in order
pub record CellList : Type 0 where
  pub limit : ℕ
  pub cells : List Cell

-- no place is claimed yet
abbrev pub empty_list : ℕ → CellList
empty_list limit = record { limit = limit; cells = [] }

-- n more places, all pending for the actor
abbrev pub with_pending : CellList → ℕ → ℕ → CellList
with_pending v actor n = record { limit = v.limit; cells = v.cells ++ replicate n (Pending actor) }

-- the place's cell is this one now
abbrev pub with_cell : CellList → ℕ → Cell → CellList
with_cell v place cell = record { limit = v.limit; cells = slice_set v.cells place cell }

-- the cell is there, and pending for the actor
abbrev pub is_pending_for : ℕ → Option Cell → Bool
is_pending_for actor (Some (Pending owner)) = owner == actor
is_pending_for actor (Some (Filled value)) = false
is_pending_for actor (Some Broken) = false
is_pending_for actor None = false

-- the cell is there, and broken
abbrev pub is_broken : Option Cell → Bool
is_broken (Some (Pending owner)) = false
is_broken (Some (Filled value)) = false
is_broken (Some Broken) = true
is_broken None = false

-- what a look shows of a place, in a list of this length
abbrev pub reply_of_look : ℕ → Option Cell → Reply
reply_of_look size (Some (Pending owner)) = replies.Pending
reply_of_look size (Some (Filled value)) = replies.Value value
reply_of_look size (Some Broken) = replies.Broken
reply_of_look size None = replies.OutOfRange size

-- The table of events: the list after the event and the reply, or nothing if the event isn't legal.
abbrev pub apply_event : CellList → Event → Option (CellList × Reply)
apply_event v (Claim actor n) =
    if nat_le (length v.cells + n) v.limit
    then Some (with_pending v actor n, replies.Run (length v.cells) n)
    else None
apply_event v (Raise actor to) =
    if nat_le to (length v.cells)
    then Some (v, replies.Enough (length v.cells))
    else if nat_le to v.limit
    then Some (with_pending v actor (to - length v.cells), replies.Run (length v.cells) (to - length v.cells))
    else None
apply_event v (Finish actor place value) =
    if is_pending_for actor (slice_get v.cells place) then Some (with_cell v place (Filled value), replies.Done)
    else None
apply_event v (Break actor place) =
    if is_pending_for actor (slice_get v.cells place) then Some (with_cell v place Broken, replies.Done) else None
apply_event v (Mend actor place) =
    if is_broken (slice_get v.cells place) then Some (with_cell v place (Pending actor), replies.Done) else None
apply_event v (Look actor place) = Some (v, reply_of_look (length v.cells) (slice_get v.cells place))
apply_event v (Size actor) = Some (v, replies.Size (length v.cells))
apply_event v (RefusedFull actor n) =
    if nat_le (length v.cells + n) v.limit then None else Some (v, replies.Full (length v.cells))
apply_event v (RefusedMemory actor) = Some (v, replies.NoMemory)

-- the event leaves the number of places as it was
abbrev pub AppendsNothing : CellList → Event → Type 0
AppendsNothing v event = IfSome (apply_event v event) (λ after. length after.0.cells ≡ length v.cells)
