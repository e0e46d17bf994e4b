-- Histories: lists of events with their replies; the runs that they claim, and whose each place is.
use Rattle.std.specs.Prelude.{◌≡◌, ℕ, ◌+◌, nat_le, nat_lt, ◌&&◌, ◌==◌, if◌then◌else◌, List, [], ◌∷◌, ◌++◌, filter, Option, Some, None}
use Rattle.book_core.specs.declared.events.Event.{Event}
use Rattle.book_core.specs.declared.events.Event.TheVariants.{Claim, Raise, Finish, Break, Mend, Look, Size, RefusedFull, RefusedMemory}
use Rattle.book_core.specs.declared.events.Reply.{Reply}
use Rattle.book_core.specs.declared.events.Reply.TheVariants as replies
use Rattle.book_core.specs.Cells.{CellList, apply_event}
use Rattle.book_core.specs.Events.{actor_of, write_in}

-- Each event is legal at its turn, and its reply is the list's; the list before the first is old, after the
-- last new.
abbrev pub IsHistory : CellList → List (Event × Reply) → CellList → Type 0
IsHistory old [] new = new ≡ old
IsHistory old (e ∷ es) new = (mid : CellList) × (apply_event old e.0 ≡ Some (mid, e.1)) × IsHistory mid es new

-- it is a history from a list on, whatever it leads to
abbrev pub IsLegalFrom : CellList → List (Event × Reply) → Type 0
IsLegalFrom old es = (new : CellList) × IsHistory old es new

-- the n places from one on, which one actor won
pub record OwnedRun : Type 0 where
  pub owner : ℕ
  pub from : ℕ
  pub n : ℕ

-- the run that a claiming event's reply names, if it names one
abbrev run_in : ℕ → Reply → List OwnedRun
run_in actor (replies.Run first count) = record { owner = actor; from = first; n = count } ∷ []
run_in actor (replies.Enough size) = []
run_in actor replies.Done = []
run_in actor (replies.Value value) = []
run_in actor replies.Pending = []
run_in actor replies.Broken = []
run_in actor (replies.OutOfRange size) = []
run_in actor (replies.Size size) = []
run_in actor (replies.Full size) = []
run_in actor replies.NoMemory = []

-- the run that an event won
abbrev pub run_of : Event → Reply → List OwnedRun
run_of (Claim actor n) reply = run_in actor reply
run_of (Raise actor to) reply = run_in actor reply
run_of (Finish actor place value) reply = []
run_of (Break actor place) reply = []
run_of (Mend actor place) reply = []
run_of (Look actor place) reply = []
run_of (Size actor) reply = []
run_of (RefusedFull actor n) reply = []
run_of (RefusedMemory actor) reply = []

-- the runs of a history, in its order
abbrev pub runs_of : List (Event × Reply) → List OwnedRun
runs_of [] = []
runs_of (e ∷ es) = run_of e.0 e.1 ++ runs_of es

-- the first run begins at the start, each next one where the one before ends, and the last ends at the end
abbrev pub Tile : ℕ → List OwnedRun → ℕ → Type 0
Tile start [] end = start ≡ end
Tile start (run ∷ runs) end = (run.from ≡ start) × Tile (start + run.n) runs end

-- the actor of the run that has the place
abbrev pub owner_of : List OwnedRun → ℕ → Option ℕ
owner_of [] place = None
owner_of (run ∷ runs) place =
    if nat_le run.from place && nat_lt place (run.from + run.n) then Some run.owner else owner_of runs place

-- the events of an actor with their replies, in the order of the history
abbrev pub events_of : ℕ → List (Event × Reply) → List (Event × Reply)
events_of actor es = filter (λ e. actor_of e.0 == actor) es

-- what was done at this place: the events that filled, broke or mended it, in the order of the history
abbrev pub writes_of : ℕ → List (Event × Reply) → List Event
writes_of place [] = []
writes_of place (e ∷ es) = write_in place e.0 ++ writes_of place es
