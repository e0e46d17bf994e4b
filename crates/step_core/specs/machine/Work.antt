-- What the calls of a play take, counted next to it: steps, lost exchanges, and the segments of a round; and
-- how they are bounded.
use Rattle.std.specs.Prelude.{◌≡◌, ℕ, ◌+◌, ◌-◌, ◌*◌, ◌<◌, ◌≤◌, ◌==◌, ◌&&◌, nat_lt, max, not, is_some, Bool, true, false, if◌then◌else◌, List, [], ◌∷◌, ◌++◌, length, map, replicate, take, drop, All, Option, Some, None, slice_get, slice_set, unwrap_or}
use Rattle.std.specs.List.{filter}
use Rattle.seg_core.specs.Segment.{IsLayout, IsLimit, most_segments, segment_of}
use Rattle.book_core.specs.declared.events.Event.{Event}
use Rattle.book_core.specs.declared.events.Reply.{Reply}
use Rattle.book_core.specs.declared.commands.Command.{Command}
use Rattle.book_core.specs.declared.commands.Command.TheVariants as commands
use Rattle.book_core.specs.declared.commands.Ended.{Ended}
use Rattle.book_core.specs.declared.commands.Item.{Item}
use Rattle.book_core.specs.History.{OwnedRun, runs_of}
use Rattle.step_core.specs.declared.machine.phase.Phase.{Phase}
use Rattle.step_core.specs.declared.machine.phase.Phase.TheVariants.{Load, Scout, Put, Exchange, Raise, Begin, Fill, Spoil, Mend, FillMended, Look}
use Rattle.step_core.specs.declared.machine.phase.Actor.{Actor}
use Rattle.step_core.specs.declared.machine.counts.Tally.{Tally}
use Rattle.step_core.specs.declared.programs.Played.{Played}
use Rattle.book_core.specs.declared.commands.Work.{Work}
use Rattle.step_core.specs.machine.Step.{Configuration, Step, step_of}
use Rattle.step_core.specs.machine.Play.{Play, empty_play, with_step, play_of, played_of}

-- ---- What a step counts

-- how many segments n places from one on touch
abbrev pub segments_touched : ℕ → ℕ → ℕ → ℕ
segments_touched f from n = if n == 0 then 0 else segment_of f (from + n - 1) + 1 - segment_of f from

-- the phase looks whether a segment is installed
abbrev pub looks : Phase → Bool
looks (Scout from n segment) = true
looks Load = false
looks (Put from n segment) = false
looks (Exchange from n) = false
looks (Raise to) = false
looks (Begin from n place) = false
looks (Fill from n place) = false
looks (Spoil from n place) = false
looks (Mend place) = false
looks (FillMended place) = false
looks (Look place) = false

-- a round begins if Load, or an exchange, leads to the look at a segment
abbrev pub begins_round : Phase → Phase → Bool
begins_round Load after = looks after
begins_round (Exchange from n) after = looks after
begins_round (Scout from n segment) after = false
begins_round (Put from n segment) after = false
begins_round (Raise to) after = false
begins_round (Begin from n place) after = false
begins_round (Fill from n place) after = false
begins_round (Spoil from n place) after = false
begins_round (Mend place) after = false
begins_round (FillMended place) after = false
begins_round (Look place) after = false

-- an exchange is lost if it leads to the look at a segment; one that ends its call is not
abbrev pub is_lost : Phase → Phase → Bool
is_lost (Exchange from n) after = looks after
is_lost Load after = false
is_lost (Scout from n segment) after = false
is_lost (Put from n segment) after = false
is_lost (Raise to) after = false
is_lost (Begin from n place) after = false
is_lost (Fill from n place) after = false
is_lost (Spoil from n place) after = false
is_lost (Mend place) after = false
is_lost (FillMended place) after = false
is_lost (Look place) after = false

-- how many places a phase wants that looks for their segments
abbrev pub places_wanted : Phase → ℕ
places_wanted (Scout from n segment) = n
places_wanted Load = 0
places_wanted (Put from n segment) = 0
places_wanted (Exchange from n) = 0
places_wanted (Raise to) = 0
places_wanted (Begin from n place) = 0
places_wanted (Fill from n place) = 0
places_wanted (Spoil from n place) = 0
places_wanted (Mend place) = 0
places_wanted (FillMended place) = 0
places_wanted (Look place) = 0

-- how many segments they touch
abbrev pub segments_wanted : ℕ → Phase → ℕ
segments_wanted f (Scout from n segment) = segments_touched f from n
segments_wanted f Load = 0
segments_wanted f (Put from n segment) = 0
segments_wanted f (Exchange from n) = 0
segments_wanted f (Raise to) = 0
segments_wanted f (Begin from n place) = 0
segments_wanted f (Fill from n place) = 0
segments_wanted f (Spoil from n place) = 0
segments_wanted f (Mend place) = 0
segments_wanted f (FillMended place) = 0
segments_wanted f (Look place) = 0

-- nothing is counted yet
abbrev pub no_tally : Tally
no_tally = record { lost = 0; steps = 0; segments = 0 }

-- the tally after a further step, from a phase to the one after it
abbrev pub tally_after : ℕ → Tally → Phase → Phase → Tally
tally_after f tally before after = record {
  lost = if is_lost before after then tally.lost + 1 else tally.lost;
  steps = tally.steps + 1;
  segments = if begins_round before after then max tally.segments (segments_wanted f after) else tally.segments;
}

-- ---- The call that an actor has under way

-- its tally; the places that its last round wants; and how many events there were at its first step
pub record Count : Type 0 where
  pub tally : Tally
  pub wanted : ℕ
  pub begun : ℕ

abbrev pub no_count : Count
no_count = record { tally = no_tally; wanted = 0; begun = 0 }

-- the count after a further step, if `events` events came earlier
abbrev pub count_after : ℕ → Count → Phase → Phase → ℕ → Count
count_after f count before after events = record {
  tally = tally_after f count.tally before after;
  wanted = if begins_round before after then places_wanted after else count.wanted;
  begun = if count.tally.steps == 0 then events else count.begun;
}

-- an actor has a call left or under way
abbrev pub has_command : Option Actor → Bool
has_command None = false
has_command (Some state) = is_some (slice_get state.program state.ended)

abbrev pub has_call : Configuration → ℕ → Bool
has_call c actor = has_command (slice_get c.actors actor)

-- the actor's phase; an actor without one is as at Load
abbrev pub phase_in : Phase → Option Command → Phase
phase_in phase None = Load
phase_in phase (Some command) = phase

abbrev pub phase_of : Option Actor → Phase
phase_of None = Load
phase_of (Some state) = phase_in state.phase (slice_get state.program state.ended)

abbrev pub phase_at : Configuration → ℕ → Phase
phase_at c actor = phase_of (slice_get c.actors actor)

-- ---- The counted play

-- a call that has ended: its count, and how many events there were right after its last step
pub record CallWork : Type 0 where
  pub ended : Ended
  pub count : Count
  pub until : ℕ

-- a play so far, with the count of each actor's call under way, and the ended calls in the order of its ended
-- calls
pub record Counted : Type 0 where
  pub play : Play
  pub counts : List Count
  pub calls : List CallWork

-- before the first item
abbrev pub first_counted : ℕ → ℕ → List (List Command) → Counted
first_counted f limit programs =
    record { play = empty_play f limit programs; counts = replicate (length programs) no_count; calls = [] }

-- the call goes on with this count; or it has ended with it, and the actor's next one is counted anew
abbrev pub with_count : Counted → ℕ → Play → Count → Option Ended → Counted
with_count k actor play count None = record { play = play; counts = slice_set k.counts actor count; calls = k.calls }
with_count k actor play count (Some ended) = record {
  play = play;
  counts = slice_set k.counts actor no_count;
  calls = k.calls ++ record { ended = ended; count = count; until = length play.events } ∷ [];
}

-- the count of the actor's call after one step
abbrev pub next_count : Counted → ℕ → Step → Count
next_count k actor step =
    count_after k.play.at.storage.layout (unwrap_or (slice_get k.counts actor) no_count) (phase_at k.play.at actor)
    (phase_at step.to actor) (length k.play.events)

-- with one step: it counts if its actor has a call left or under way
abbrev pub count_step : Counted → ℕ → Step → Bool → Counted
count_step k actor step false = record { play = with_step k.play step; counts = k.counts; calls = k.calls }
count_step k actor step true = with_count k actor (with_step k.play step) (next_count k actor step) step.ended

-- each item is one step of its actor
abbrev pub count_items : Counted → List Item → Counted
count_items k [] = k
count_items k (item ∷ items) =
    count_items (count_step k item.actor (step_of k.play.at item.actor item.memory)
    (has_call k.play.at item.actor)) items

-- the counted play of a schedule
abbrev pub counted_of : ℕ → ℕ → List (List Command) → List Item → Counted
counted_of f limit programs items = count_items (first_counted f limit programs) items

-- what an ended call took
abbrev pub work_in : CallWork → Work
work_in call = record {
  actor = call.ended.actor;
  number = call.ended.number;
  lost = call.count.tally.lost;
  steps = call.count.tally.steps;
  segments = call.count.tally.segments;
}

-- what the calls of a play took, in the order of their ends
abbrev pub work_of : ℕ → ℕ → List (List Command) → List Item → List Work
work_of f limit programs items = map work_in (counted_of f limit programs items).calls

-- each is of a call of an actor below the count
abbrev pub AreOfActors : ℕ → List Work → Type 0
AreOfActors count work = All (λ w. w.actor < count) work

-- what a play of a schedule shows, with what its calls took
abbrev pub play_shown : ℕ → ℕ → List (List Command) → List Item → Played
play_shown f limit programs items =
    let p = played_of (play_of f limit programs items) in
    record { events = p.events; ended = p.ended; cells = p.cells; work = work_of f limit programs items }

-- ---- The bounds

-- how many events of others made the size larger: each won a run of some places
abbrev pub growths_of_others : ℕ → List (Event × Reply) → ℕ
growths_of_others actor events =
    length (filter (λ (run : OwnedRun). not (run.owner == actor) && nat_lt 0 run.n) (runs_of events))

-- a growth of n places that lost `lost` exchanges takes no more steps: its Load, two at each segment of a
-- round and one at the round's end, and two at each place
abbrev pub growth_steps : ℕ → ℕ → ℕ → ℕ
growth_steps n lost segments = 1 + (lost + 1) * (2 * segments + 1) + 2 * n

-- the most steps of a call, by what its last round wanted, its lost exchanges, and the segments of a round
abbrev pub steps_allowed : Command → ℕ → ℕ → ℕ → ℕ
steps_allowed (commands.Push value) wanted lost segments = growth_steps 1 lost segments
steps_allowed (commands.Grow n value) wanted lost segments = growth_steps n lost segments
steps_allowed (commands.AtLeast to value) wanted lost segments = growth_steps wanted 0 segments
steps_allowed (commands.Fail n value at) wanted lost segments = growth_steps n lost segments
steps_allowed (commands.Mend place value) wanted lost segments = 3
steps_allowed (commands.Read place) wanted lost segments = 2
steps_allowed commands.Size wanted lost segments = 1

-- the greatest number of exchanges that a call loses if others made the size larger `growths` times: a growth
-- up to a size has none
abbrev pub losses_allowed : Command → ℕ → ℕ
losses_allowed (commands.Push value) growths = growths
losses_allowed (commands.Grow n value) growths = growths
losses_allowed (commands.AtLeast to value) growths = 0
losses_allowed (commands.Fail n value at) growths = growths
losses_allowed (commands.Mend place value) growths = 0
losses_allowed (commands.Read place) growths = 0
losses_allowed commands.Size growths = 0

-- it is at most the greatest number of segments that n places within the limit touch: it is at most each
-- number that no n places pass, wherever they begin
abbrev pub IsTouchable : ℕ → ℕ → ℕ → ℕ → Type 0
IsTouchable f limit n segments =
    (most : ℕ) → ((from : ℕ) → from + n ≤ limit → segments_touched f from n ≤ most) → segments ≤ most

-- how many segments a round of the call may touch: those of the places that it wants; a call that claims no
-- place has no round
abbrev pub MayTouch : ℕ → ℕ → Command → ℕ → ℕ → Type 0
MayTouch f limit (commands.Push value) wanted segments = IsTouchable f limit 1 segments
MayTouch f limit (commands.Grow n value) wanted segments = IsTouchable f limit n segments
MayTouch f limit (commands.AtLeast to value) wanted segments = IsTouchable f limit wanted segments
MayTouch f limit (commands.Fail n value at) wanted segments = IsTouchable f limit n segments
MayTouch f limit (commands.Mend place value) wanted segments = segments ≡ 0
MayTouch f limit (commands.Read place) wanted segments = segments ≡ 0
MayTouch f limit commands.Size wanted segments = segments ≡ 0

-- a call took no more than it may, in segments of this layout and up to this limit, among these events from
-- its first step on
pub record IsBounded (f limit actor : ℕ) (command : Command) (count : Count) (events : List (Event × Reply))
    : Type 0 where
  pub lost : count.tally.lost ≤ losses_allowed command (growths_of_others actor events)
  pub steps : count.tally.steps ≤ steps_allowed command count.wanted count.tally.lost count.tally.segments
  pub segments : count.tally.segments ≤ most_segments
  pub touched : MayTouch f limit command count.wanted count.tally.segments

-- each call that has ended, and each under way
pub record AreBounded (f limit : ℕ) (k : Counted) : Type 0 where
  pub ended : All (λ call. IsBounded f limit call.ended.actor call.ended.command call.count
      (drop call.count.begun (take call.until k.play.events))) k.calls
  pub under_way : (actor : ℕ) (state : Actor) (command : Command) → slice_get k.play.at.actors actor ≡ Some state
      → slice_get state.program state.ended ≡ Some command
      → (count : Count) × (slice_get k.counts actor ≡ Some count)
      × IsBounded f limit actor command count (drop count.begun k.play.events)

-- it is the play of the schedule that is counted, each of its ended calls in order
pub record IsCountOf (k : Counted) (p : Play) : Type 0 where
  pub play : k.play ≡ p
  pub calls : map (λ (call : CallWork). call.ended) k.calls ≡ p.ended

-- so it is in every play: of any layout, any limit, any programs, any schedule, with any marks of memory
abbrev pub EveryCallIsBounded : Type 0
EveryCallIsBounded =
    (f : ℕ) → IsLayout f → (limit : ℕ) (programs : List (List Command)) (items : List Item) → IsLimit limit
    → IsCountOf (counted_of f limit programs items) (play_of f limit programs items)
    × AreBounded f limit (counted_of f limit programs items)
