-- The steps that move the size: each is the claim of its actor's own call.
use Rattle.std.specs.Prelude.{◌≡◌, ◌≢◌, ℕ, ◌-◌, Option, Some, None, slice_get}
use Rattle.std.specs.Option.{option_to_list}
use Rattle.book_core.specs.declared.events.Event.{Event}
use Rattle.book_core.specs.declared.events.Event.TheVariants.{Claim, Raise}
use Rattle.book_core.specs.declared.events.Reply.TheVariants as replies
use Rattle.book_core.specs.declared.commands.Command.{Command}
use Rattle.book_core.specs.declared.commands.Command.TheVariants as commands
use Rattle.book_core.specs.declared.commands.Item.{Item}
use Rattle.book_core.specs.History.{Tile, runs_of}
use Rattle.step_core.specs.declared.machine.phase.Phase.TheVariants as phases
use Rattle.step_core.specs.declared.machine.phase.Actor.{Actor}
use Rattle.step_core.specs.machine.Step.{Configuration, Step, step_of}
use Rattle.step_core.specs.machine.Play.{Play}

-- the event that claims a call's places
abbrev pub claim_of : ℕ → Command → Option Event
claim_of actor (commands.Push value) = Some (Claim actor 1)
claim_of actor (commands.Grow n value) = Some (Claim actor n)
claim_of actor (commands.AtLeast to value) = Some (Raise actor to)
claim_of actor (commands.Fail n value at) = Some (Claim actor n)
claim_of actor (commands.Mend place value) = None
claim_of actor (commands.Read place) = None
claim_of actor commands.Size = None

-- The step is the claim of the actor's call under way: its event is that call's own, with the run from the
-- old size to the new one.
pub record IsOwnClaim (c : Configuration) (actor : ℕ) (step : Step) : Type 0 where
  pub state : Actor
  pub there : slice_get c.actors actor ≡ Some state
  pub command : Command
  pub under_way : slice_get state.program state.ended ≡ Some command
  pub claim : Event
  pub own : claim_of actor command ≡ Some claim
  pub event : step.event ≡ Some (claim, replies.Run c.storage.size (step.to.storage.size - c.storage.size))

-- If the next item moves the size, the event of that very step has the run from the old size to the new one;
-- and if its event has a run, it begins at the old size and ends at the new one.
abbrev pub MovesAtClaims : Play → Type 0
MovesAtClaims p =
    (item : Item) → Tile p.at.storage.size (runs_of (option_to_list (step_of p.at item.actor item.memory).event))
    (step_of p.at item.actor item.memory).to.storage.size

-- if the next item moves the size, that step is the claim of the call under way of its actor
abbrev pub MovesAreOwnClaims : Play → Type 0
MovesAreOwnClaims p =
    (item : Item) → (step_of p.at item.actor item.memory).to.storage.size ≢ p.at.storage.size
    → IsOwnClaim p.at item.actor (step_of p.at item.actor item.memory)

-- an actor whose call is a growth of nothing is at Load, and its step there is the claim
abbrev pub NothingIsClaimedAtLoad : Play → Type 0
NothingIsClaimedAtLoad p =
    (item : Item) (state : Actor) (value : ℕ) → slice_get p.at.actors item.actor ≡ Some state
    → slice_get state.program state.ended ≡ Some (commands.Grow 0 value)
    → (state.phase ≡ phases.Load)
    × ((step_of p.at item.actor item.memory).event ≡ Some (Claim item.actor 0, replies.Run p.at.storage.size 0))
