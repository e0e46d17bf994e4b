-- The history of a word: what its callers claimed, asked for and were refused, in one order.
use Rattle.std.specs.Prelude.{◌≡◌, ℕ, ◌+◌, ◌-◌, ◌≤◌, ◌==◌, nat_lt, nat_le, if◌then◌else◌, Bool, false, List, [], ◌∷◌, ◌++◌, length, map, filter, get_or}
use Rattle.std.specs.List.{range_with_len}
use base.Stored.{Coded, coded×, coded_list}
use mathlib.Core.List.{IsPrefix}
use Rattle.book_core.specs.declared.cells.Cell.{Cell}
use Rattle.book_core.specs.declared.cells.Cell.TheVariants.{Filled, Broken}
use Rattle.book_core.specs.declared.events.Event.{Event}
use Rattle.book_core.specs.declared.events.Event.TheVariants.{Claim, Raise, Finish, Break, Mend, Look, Size, RefusedFull, RefusedMemory}
use Rattle.book_core.specs.declared.events.Reply.{Reply}
use Rattle.book_core.specs.declared.events.Reply.TheVariants as replies
use Rattle.book_core.specs.Cells.{CellList}
use Rattle.book_core.specs.History.{IsHistory, IsLegalFrom, OwnedRun, runs_of}
use Rattle.book_core.specs.contracts.events.Event as event
use Rattle.book_core.specs.contracts.events.Reply as reply
use Rattle.claim_core.specs.declared.run.Run.{Run}

-- events of the vector with its replies, in order
abbrev pub Log : Type 0
Log = List (Event × Reply)

-- how they are stored
abbrev pub log_coded : Coded Log
log_coded = coded_list (coded× event.the_row.coded reply.the_row.coded)

-- a place with a value, which the history names by the place
abbrev pub value_cell : ℕ → Cell
value_cell place = Filled place

-- a broken place
abbrev pub broken_cell : Cell
broken_cell = Broken

-- a place that a word begins with: it has a value if this list says so
abbrev pub first_cell : List Bool → ℕ → Cell
first_cell filled place = if get_or filled place false then value_cell place else broken_cell

-- the list that a word begins with, as long as its base
abbrev pub first_list : ℕ → ℕ → List Bool → CellList
first_list limit base filled = record { limit = limit; cells = map (first_cell filled) (range_with_len 0 base) }

-- the runs that a history claims, without those of no place
abbrev pub claims_in : Log → List OwnedRun
claims_in log = filter (λ run. nat_lt 0 run.n) (runs_of log)

-- their lengths
abbrev pub lengths_of : Log → List ℕ
lengths_of log = map (λ run. run.n) (claims_in log)

-- and their actors
abbrev pub owners_of : Log → List ℕ
owners_of log = map (λ run. run.owner) (claims_in log)

-- it is legal from the list that the word begins with, and the actor of each claim is its index, so that each is in it
-- once
pub record IsHistoryOf (limit base : ℕ) (filled : List Bool) (log : Log) : Type 0 where
  pub legal : IsLegalFrom (first_list limit base filled) log
  pub actors : owners_of log ≡ range_with_len 0 (length (lengths_of log))

-- the new history is the old one, then events of others, then these
pub record AddsEvents (old es new : Log) : Type 0 where
  pub since : Log
  pub is : new ≡ (old ++ since) ++ es

-- The new history is the old one with each of these lists of events, in their order. Events of others may come before
-- each, and after the last
abbrev pub Adds : Log → List Log → Log → Type 0
Adds old [] new = IsPrefix old new
Adds old (es ∷ rest) new = (mid : Log) × AddsEvents old es mid × Adds mid rest new

-- the growth that is claim `index` claims the run
abbrev pub claim_event : ℕ → Run → Event × Reply
claim_event index run = (Claim index run.n, replies.Run run.from run.n)

-- it does so up to a size
abbrev pub raise_event : ℕ → ℕ → Run → Event × Reply
raise_event index to run = (Raise index to, replies.Run run.from run.n)

-- the size is enough for a growth up to one
abbrev pub enough_event : ℕ → ℕ → Event × Reply
enough_event to size = (Raise 0 to, replies.Enough size)

-- somebody asks for the size
abbrev pub size_event : ℕ → Event × Reply
size_event size = (Size 0, replies.Size size)

-- a growth by n places finds no room
abbrev pub full_event : ℕ → ℕ → Event × Reply
full_event n size = (RefusedFull 0 n, replies.Full size)

-- a growth finds no memory
abbrev pub memory_event : Event × Reply
memory_event = (RefusedMemory 0, replies.NoMemory)

-- somebody looks at a place that is not below the size
abbrev pub past_event : ℕ → ℕ → Event × Reply
past_event place size = (Look 0 place, replies.OutOfRange size)

-- an actor fills a place: its value is the place, since tokens of a place agree on its value
abbrev pub fill_event : ℕ → ℕ → Event × Reply
fill_event actor place = (Finish actor place place, replies.Done)

-- an actor fills n places from one on, in order, each by a step of its own
abbrev pub fill_steps : ℕ → ℕ → ℕ → List Log
fill_steps actor from n = map (λ place. fill_event actor place ∷ []) (range_with_len from n)

-- an actor breaks a place
abbrev pub break_event : ℕ → ℕ → Event × Reply
break_event actor place = (Break actor place, replies.Done)

-- the actor that mends a place: no claim has its number, since there are fewer claims than the limit
abbrev pub mender_of : ℕ → ℕ → ℕ
mender_of limit place = limit + place

-- a broken place is taken for mending
abbrev pub mend_event : ℕ → ℕ → Event × Reply
mend_event limit place = (Mend (mender_of limit place) place, replies.Done)

-- A note says for each size which events a step that finds it logs. They claim nothing, and from each list of
-- that size they are legal and leave it as it is
pub record IsNote (limit : ℕ) (note : ℕ → Log) : Type 0 where
  pub nothing : (size : ℕ) → claims_in (note size) ≡ []
  pub legal : (size : ℕ) (list : CellList) → size ≤ limit → list.limit ≡ limit → length list.cells ≡ size
      → IsHistory list (note size) list

-- nothing
abbrev pub no_note : ℕ → Log
no_note size = []

-- the size is asked for
abbrev pub size_note : ℕ → Log
size_note size = size_event size ∷ []

-- the refusal of a growth by n places, if there is no room for them
abbrev pub full_note : ℕ → ℕ → ℕ → Log
full_note limit n size = if nat_lt limit (size + n) then full_event n size ∷ [] else []

-- a growth by no places, which claims none; or the refusal of one by n
abbrev pub growth_note : ℕ → ℕ → ℕ → Log
growth_note limit n size =
    if n == 0 then claim_event 0 (record { from = size; n = 0 }) ∷ [] else full_note limit n size

-- a growth up to a size is not needed, or is refused since that is above the limit
abbrev pub reach_note : ℕ → ℕ → ℕ → Log
reach_note limit to size =
    if nat_le to size then enough_event to size ∷ []
    else if nat_lt limit to then full_event (to - size) size ∷ [] else []

-- a look at a place that is not below the size
abbrev pub range_note : ℕ → ℕ → Log
range_note place size = if nat_le size place then past_event place size ∷ [] else []
