-- The size moves at claims alone, and each is the claim of its actor's own call.
use Rattle.std.proofs.Common.{◌≡◌, ◌≢◌, ◌⊎◌, ℕ, ◌+◌, ◌-◌, Bool, true, false, List, [], ◌∷◌, ◌++◌, Option, Some, None, slice_get, refl, ap, sym, ◌∙◌, subst, arith, inl, inr}
use Rattle.std.specs.Option.{option_to_list}
use Rattle.std.specs.FinMap as finite
use Rattle.book_core.specs.declared.events.Event.{Event}
use Rattle.book_core.specs.declared.events.Event.TheVariants as events
use Rattle.book_core.specs.declared.events.Reply.{Reply}
use Rattle.book_core.specs.declared.events.Reply.TheVariants as replies
use Rattle.book_core.specs.declared.commands.Command.{Command}
use Rattle.book_core.specs.declared.commands.Command.TheVariants as commands
use Rattle.book_core.specs.declared.commands.Item.{Item}
use Rattle.seg_core.specs.Segment.{IsLayout, IsLimit}
use Rattle.book_core.specs.Commands.{AreSound, calls_of}
use Rattle.book_core.specs.History.{OwnedRun, runs_of, Tile, events_of}
use Rattle.step_core.specs.declared.machine.phase.CellSlot.{CellSlot}
use Rattle.step_core.specs.declared.machine.phase.CellSlot.TheVariants.{Busy, Filled, Broken}
use Rattle.step_core.specs.declared.machine.phase.Phase.{Phase}
use Rattle.step_core.specs.declared.machine.phase.Phase.TheVariants.{Load, Scout, Put, Exchange, Raise, Begin, Fill, Spoil, Mend, FillMended, Look}
use Rattle.step_core.specs.declared.machine.phase.Actor.{Actor}
use Rattle.step_core.specs.machine.Storage.{Storage}
use Rattle.step_core.specs.machine.Step.{Outcome, Step, step_of, step_as, step_in, outcome_of, load, load_growth, begin_at, mend_at, look_at}
use Rattle.step_core.specs.machine.Bounds.{Exchanges, IsWithin, IsInLimit}
use Rattle.step_core.specs.machine.Play.{empty_play, play_of}
use Rattle.step_core.specs.machine.Claims.{claim_of, IsOwnClaim, MovesAtClaims, MovesAreOwnClaims, NothingIsClaimedAtLoad}
use Rattle.book_core.proofs.Runs.{runs_of-append}
use Rattle.step_core.proofs.atomic_steps.Cases.{IsRaise, won_growth, growth_cases, at_least_cases, load_place_cases, exchange_cases, raise_cases, scout_cases, step_cases}
use Rattle.step_core.proofs.atomic_steps.Bounds.{opening_in_limit, within_at}
use Rattle.step_core.proofs.atomic_steps.Tiling.{HoldsAt, step_holds, opening_holds, items_hold}
use Rattle.step_core.proofs.atomic_steps.Legal.{items_in_limit}
use Rattle.step_core.proofs.atomic_steps.Record.{AllStand, Standing, Stands, OfStage, items_stand, opening_stands}
use Rattle.step_core.proofs.atomic_steps.Record.Settled.{Asks}
use Rattle.step_core.proofs.atomic_steps.Record.Rows.{StageOf}

-- what tiles from a start, behind what tiles the places before
tile_behind : (start mid end : ℕ) (xs ys : List OwnedRun) → Tile start xs mid → Tile start (xs ++ ys) end
    → Tile mid ys end
tile_behind start mid end [] ys first whole = subst (λ s. Tile s ys end) first whole
tile_behind start mid end (x ∷ xs) ys (begins, others) (_, whole) = tile_behind (start + x.n) mid end xs ys others whole

pub every_play_moves_at_claims : (f : ℕ) → IsLayout f → (limit : ℕ) (programs : List (List Command)) (items : List Item) → IsLimit limit
    → MovesAtClaims (play_of f limit programs items)
every_play_moves_at_claims f is_layout limit programs items is_limit item =
    let opens = opening_in_limit f limit programs is_layout is_limit in
    let p = play_of f limit programs items in
    let holds : HoldsAt p.at p.events = items_hold (empty_play f limit programs) items opens (opening_holds f limit programs) in
    let step = step_of p.at item.actor item.memory in
    let after : HoldsAt step.to (p.events ++ option_to_list step.event) = step_holds p.at p.events item.actor item.memory (items_in_limit (empty_play f limit programs) items opens) holds in
    tile_behind 0 p.at.storage.size step.to.storage.size (runs_of p.events) (runs_of (option_to_list step.event)) holds.tile
    (subst (λ rs. Tile 0 rs step.to.storage.size) (runs_of-append p.events (option_to_list step.event)) after.tile)

-- ---- Each claim is its actor's own

-- the step leaves the size, or it is the claim of this call, with the run from the old size to the new one
abbrev StaysOrClaims : Storage → ℕ → Command → Outcome → Type 0
StaysOrClaims m actor command o =
    (o.storage.size ≡ m.size)
    ⊎ ((claim : Event) × (claim_of actor command ≡ Some claim) × (o.event ≡ Some (claim, replies.Run m.size (o.storage.size - m.size))))

module _ (m : Storage) (actor : ℕ) (command : Command) where
  growth_stays : (limit n : ℕ) → StaysOrClaims m actor command (load_growth limit m actor n)
  growth_stays limit n =
      growth_cases (StaysOrClaims m actor command) m actor limit n (λ _. inl refl) (λ _ _. inl refl) (λ _. inl refl)

  load_stays : (limit : ℕ) (loaded : Command) → StaysOrClaims m actor command (load limit m actor loaded)
  load_stays limit (commands.Push value) = growth_stays limit 1
  load_stays limit (commands.Grow n value) = growth_stays limit n
  load_stays limit (commands.AtLeast to value) =
      at_least_cases (StaysOrClaims m actor command) m actor limit to (λ _. inl refl) (λ _ _. inl refl) (λ _ _. inl refl)
  load_stays limit (commands.Fail n value at) = growth_stays limit n
  load_stays limit (commands.Mend place value) =
      load_place_cases (StaysOrClaims m actor command) m actor place (Mend place) (λ _. inl refl) (λ _. inl refl)
  load_stays limit (commands.Read place) =
      load_place_cases (StaysOrClaims m actor command) m actor place (Look place) (λ _. inl refl) (λ _. inl refl)
  load_stays limit commands.Size = inl refl

  begin_stays : (from n place : ℕ) (slot : Option CellSlot) → StaysOrClaims m actor command (begin_at m actor command from n place slot)
  begin_stays from n place None = inl refl
  begin_stays from n place (Some slot) = inl refl

  look_stays : (place : ℕ) (slot : Option CellSlot) → StaysOrClaims m actor command (look_at m actor place slot)
  look_stays place None = inl refl
  look_stays place (Some (Busy owner)) = inl refl
  look_stays place (Some (Filled value)) = inl refl
  look_stays place (Some Broken) = inl refl

  mend_stays : (place : ℕ) (slot : Option CellSlot) → StaysOrClaims m actor command (mend_at m actor place slot)
  mend_stays place None = inl refl
  mend_stays place (Some (Busy owner)) = inl refl
  mend_stays place (Some (Filled value)) = inl refl
  mend_stays place (Some Broken) = inl refl

  -- a claim of the call's own moves the size, by the run's places
  won_claims : (event : Event) (n : ℕ) → claim_of actor command ≡ Some event → StaysOrClaims m actor command (won_growth m event n)
  won_claims event n own =
      let count : n ≡ m.size + n - m.size = omega arith in
      inr (event, own, ap (λ k. Some (event, replies.Run m.size k)) count)

-- the claim of a growth that exchanges is by the places that it asks for
claim_by : (actor : ℕ) (command : Command) (n : ℕ) → Asks command n → Exchanges command
    → claim_of actor command ≡ Some (events.Claim actor n)
claim_by actor (commands.Push value) n asks exchanges = ap (λ k. Some (events.Claim actor k)) (sym asks)
claim_by actor (commands.Grow m value) n asks exchanges = ap (λ k. Some (events.Claim actor k)) (sym asks)
claim_by actor (commands.AtLeast to value) n asks exchanges = absurd exchanges
claim_by actor (commands.Fail m value at) n asks exchanges = ap (λ k. Some (events.Claim actor k)) (sym asks)
claim_by actor (commands.Mend place value) n asks exchanges = absurd asks
claim_by actor (commands.Read place) n asks exchanges = absurd asks
claim_by actor commands.Size n asks exchanges = absurd asks

-- only a growth to at least a size raises
raise_own : (actor : ℕ) (command : Command) (to : ℕ) → IsRaise command to
    → claim_of actor command ≡ Some (events.Raise actor to)
raise_own actor (commands.Push value) to is = absurd is
raise_own actor (commands.Grow n value) to is = absurd is
raise_own actor (commands.AtLeast size value) to is = ap (λ k. Some (events.Raise actor k)) is
raise_own actor (commands.Fail n value at) to is = absurd is
raise_own actor (commands.Mend place value) to is = absurd is
raise_own actor (commands.Read place) to is = absurd is
raise_own actor commands.Size to is = absurd is

-- each row of the step table
row_claims : (limit : ℕ) (m : Storage) (actor : ℕ) (command : Command) (memory : Bool) (phase : Phase)
    (now : List (Event × Reply))
    → IsWithin m.layout limit command phase → StageOf actor command phase now
    → StaysOrClaims m actor command (outcome_of limit m actor command memory phase)
row_claims limit m actor command memory Load now within stage = load_stays m actor command limit command
row_claims limit m actor command memory (Scout from n segment) now within stage =
    scout_cases (StaysOrClaims m actor command) m command from n segment (λ _. inl refl) (inl refl)
row_claims limit m actor command true (Put from n segment) now within stage = inl refl
row_claims limit m actor command false (Put from n segment) now within stage = inl refl
row_claims limit m actor command memory (Exchange from n) now (some, room, exchanges) (none, asks) =
    exchange_cases (StaysOrClaims m actor command) m actor limit from n
    (λ _. won_claims m actor command (events.Claim actor n) n (claim_by actor command n asks exchanges)) (λ _. inl refl) (λ _. inl refl)
row_claims limit m actor command memory (Raise to) now within (none, is) =
    raise_cases (StaysOrClaims m actor command) m actor to
    (λ _. inl refl) (λ _. won_claims m actor command (events.Raise actor to) (to - m.size) (raise_own actor command to is))
row_claims limit m actor command memory (Begin from n place) now within stage = begin_stays m actor command from n place (finite.get m.slots place)
row_claims limit m actor command memory (Fill from n place) now within stage = inl refl
row_claims limit m actor command memory (Spoil from n place) now within stage = inl refl
row_claims limit m actor command memory (Mend place) now within stage = mend_stays m actor command place (finite.get m.slots place)
row_claims limit m actor command memory (FillMended place) now within stage = inl refl
row_claims limit m actor command memory (Look place) now within stage = look_stays m actor command place (finite.get m.slots place)

-- what is known of every actor of a play of sound programs
stand_in : (f : ℕ) → IsLayout f → (limit : ℕ) (programs : List (List Command)) (items : List Item) → IsLimit limit → AreSound programs
    → AllStand programs (play_of f limit programs items).at.actors (play_of f limit programs items).events (play_of f limit programs items).ended
stand_in f is_layout limit programs items is_limit sound =
    items_stand programs (empty_play f limit programs) items sound (opening_in_limit f limit programs is_layout is_limit) (opening_stands f limit programs)

-- an actor of a play with a call under way: where it stands, and within what
record UnderWay (f limit actor : ℕ) (state : Actor) (command : Command) : Type 0 where
  pub now : List (Event × Reply)
  pub stage : StageOf actor command state.phase now
  pub within : IsWithin f limit command state.phase

under_way : (f : ℕ) → IsLayout f → (limit : ℕ) (programs : List (List Command)) (items : List Item) → IsLimit limit → AreSound programs
    → (actor : ℕ) (state : Actor) (command : Command)
    → slice_get (play_of f limit programs items).at.actors actor ≡ Some state
    → slice_get state.program state.ended ≡ Some command
    → UnderWay (play_of f limit programs items).at.storage.layout (play_of f limit programs items).at.limit actor state command
under_way f is_layout limit programs items is_limit sound actor state command there is =
    let p = play_of f limit programs items in
    let in_limit : IsInLimit p.at = items_in_limit (empty_play f limit programs) items (opening_in_limit f limit programs is_layout is_limit) in
    let s : Standing programs actor state (events_of actor p.events) (calls_of actor p.ended) =
    subst (λ o. Stands programs actor o (events_of actor p.events) (calls_of actor p.ended)) there (stand_in f is_layout limit programs items is_limit sound actor)
    in
    record {
      now = s.now;
      stage = subst (λ o. OfStage actor o state.phase s.now) is s.stage;
      within = within_at p.at in_limit actor state command there is;
    }

pub every_move_is_own : (f : ℕ) → IsLayout f → (limit : ℕ) (programs : List (List Command)) (items : List Item) → IsLimit limit
    → AreSound programs → MovesAreOwnClaims (play_of f limit programs items)
every_move_is_own f is_layout limit programs items is_limit sound item =
    let p = play_of f limit programs items in
    let actor = item.actor in
    step_cases (λ step. step.to.storage.size ≢ p.at.storage.size → IsOwnClaim p.at actor step) p.at actor item.memory
    (λ moves. absurd (moves refl))
    (λ state command there is moves.
    let way = under_way f is_layout limit programs items is_limit sound actor state command there is in
    elim (row_claims p.at.limit p.at.storage actor command item.memory state.phase way.now way.within way.stage) [
      | inl stays ↦ absurd (moves stays)
      | inr (claim, own, event) ↦ record { state = state; there = there; command = command; under_way = is; claim = claim; own = own; event = event }
    ])

-- a growth of nothing is nowhere but at Load
nothing_is_at_load : (f limit actor value : ℕ) (phase : Phase) (now : List (Event × Reply))
    → IsWithin f limit (commands.Grow 0 value) phase → StageOf actor (commands.Grow 0 value) phase now → phase ≡ Load
nothing_is_at_load f limit actor value Load now within stage = refl
nothing_is_at_load f limit actor value (Scout from n segment) now (some, room, number, wants) (none, asks) = absurd (let zero_is : n ≡ 0 = asks in omega arith)
nothing_is_at_load f limit actor value (Put from n segment) now (some, room, number, wants) (none, asks) = absurd (let zero_is : n ≡ 0 = asks in omega arith)
nothing_is_at_load f limit actor value (Exchange from n) now (some, room, exchanges) (none, asks) = absurd (let zero_is : n ≡ 0 = asks in omega arith)
nothing_is_at_load f limit actor value (Raise to) now within (none, is) = absurd is
nothing_is_at_load f limit actor value (Begin from n place) now (low, high, room) (so_far, asks) = absurd (let zero_is : n ≡ 0 = asks in omega arith)
nothing_is_at_load f limit actor value (Fill from n place) now (low, high, room) (so_far, asks, fits) = absurd (let zero_is : n ≡ 0 = asks in omega arith)
nothing_is_at_load f limit actor value (Spoil from n place) now (low, high, room) (so_far, asks, refused) = absurd (let zero_is : n ≡ 0 = asks in omega arith)
nothing_is_at_load f limit actor value (Mend place) now within (none, is) = absurd is
nothing_is_at_load f limit actor value (FillMended place) now within (so_far, is) = absurd is
nothing_is_at_load f limit actor value (Look place) now within (none, is) = absurd is

pub every_nothing_is_at_load : (f : ℕ) → IsLayout f → (limit : ℕ) (programs : List (List Command)) (items : List Item) → IsLimit limit
    → AreSound programs → NothingIsClaimedAtLoad (play_of f limit programs items)
every_nothing_is_at_load f is_layout limit programs items is_limit sound item state value there is =
    let p = play_of f limit programs items in
    let way = under_way f is_layout limit programs items is_limit sound item.actor state (commands.Grow 0 value) there is in
    let at_load : state.phase ≡ Load = nothing_is_at_load p.at.storage.layout p.at.limit item.actor value state.phase way.now way.within way.stage in (
      at_load,
      ap (λ (s : Step). s.event) (ap (step_as p.at item.actor item.memory) there ∙ ap (step_in p.at item.actor item.memory state) is)
          ∙ ap (λ phase. (outcome_of p.at.limit p.at.storage item.actor (commands.Grow 0 value) item.memory phase).event) at_load,
    )
