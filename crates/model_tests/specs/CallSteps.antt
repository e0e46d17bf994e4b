-- What users of plays want to know of the steps that calls take.
use Rattle.std.specs.Prelude.{◌≡◌, ◌+◌, ◌*◌, ◌≤◌, ℕ, List, All, take, drop, Some, slice_get}
use Rattle.seg_core.specs.Segment.{IsLayout, IsLimit, most_segments}
use Rattle.book_core.specs.declared.commands.Command.{Command}
use Rattle.book_core.specs.declared.commands.Command.TheVariants as commands
use Rattle.book_core.specs.declared.commands.Ended.{Ended}
use Rattle.book_core.specs.declared.commands.Item.{Item}
use Rattle.book_core.specs.declared.commands.Work.{Work}
use Rattle.step_core.specs.declared.machine.phase.Actor.{Actor}
use Rattle.step_core.specs.declared.programs.Played.{Played}
use Rattle.step_core.specs.machine.Work.{Count, Counted, segments_touched, growths_of_others, counted_of}

-- a call that claims no place loses no exchange, looks at no segment, and takes at most this many steps
pub record IsBrief (count : Count) (most : ℕ) : Type 0 where
  pub lost : count.tally.lost ≡ 0
  pub segments : count.tally.segments ≡ 0
  pub steps : count.tally.steps ≤ most

-- A growth by n places loses at most one exchange for each growth of others. If no n places within the limit
-- touch more than q segments, it takes at most 1 + (growths + 1)(2q + 1) + 2n steps.
pub record IsGrowthWithin (f limit n : ℕ) (count : Count) (growths : ℕ) : Type 0 where
  pub lost : count.tally.lost ≤ growths
  pub segments : count.tally.segments ≤ most_segments
  pub steps : (q : ℕ) → ((from : ℕ) → from + n ≤ limit → segments_touched f from n ≤ q)
      → count.tally.steps ≤ 1 + (growths + 1) * (2 * q + 1) + 2 * n

-- a push among this many growths of others looks at one segment a round
pub record IsPushWithin (count : Count) (growths : ℕ) : Type 0 where
  pub lost : count.tally.lost ≤ growths
  pub segments : count.tally.segments ≤ 1
  pub steps : count.tally.steps ≤ 3 + 3 * (growths + 1)

-- the call is within its bounds, among this many growths of others; a growth to a size claims once, however
-- many
abbrev pub IsWithin : ℕ → ℕ → Command → Count → ℕ → Type 0
IsWithin f limit (commands.Push value) count growths = IsPushWithin count growths
IsWithin f limit (commands.Grow n value) count growths = IsGrowthWithin f limit n count growths
IsWithin f limit (commands.AtLeast to value) count growths = IsGrowthWithin f limit count.wanted count 0
IsWithin f limit (commands.Fail n value at) count growths = IsGrowthWithin f limit n count growths
IsWithin f limit (commands.Mend place value) count growths = IsBrief count 3
IsWithin f limit (commands.Read place) count growths = IsBrief count 2
IsWithin f limit commands.Size count growths = IsBrief count 1

-- so is each call that has ended, among what happened from its first step to its last
abbrev pub EndedCallsAreWithin : ℕ → ℕ → Counted → Type 0
EndedCallsAreWithin f limit k =
    All (λ call. IsWithin f limit call.ended.command call.count
    (growths_of_others call.ended.actor (drop call.count.begun (take call.until k.play.events)))) k.calls

-- and each call under way, among what has happened since its first step
abbrev pub CallsUnderWayAreWithin : ℕ → ℕ → Counted → Type 0
CallsUnderWayAreWithin f limit k =
    (actor : ℕ) (state : Actor) (command : Command) → slice_get k.play.at.actors actor ≡ Some state
    → slice_get state.program state.ended ≡ Some command
    → (count : Count) × (slice_get k.counts actor ≡ Some count)
    × IsWithin f limit command count (growths_of_others actor (drop count.begun k.play.events))

-- it holds of every counted play
abbrev pub OfEveryCount : (ℕ → ℕ → Counted → Type 0) → Type 0
OfEveryCount Holds =
    (f : ℕ) → IsLayout f → (limit : ℕ) (programs : List (List Command)) (items : List Item) → IsLimit limit
    → Holds f limit (counted_of f limit programs items)

-- among k growths of others in the whole history, an ended push took at most 3 + 3(k + 1) steps
abbrev pub PushesTakeFewSteps : Played → Type 0
PushesTakeFewSteps played =
    (i value : ℕ) (ended : Ended) (work : Work) → slice_get played.ended i ≡ Some ended
    → slice_get played.work i ≡ Some work → ended.command ≡ commands.Push value
    → work.steps ≤ 3 + 3 * (growths_of_others ended.actor played.events + 1)
