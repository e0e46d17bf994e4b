-- Every step stays within the limit.
use Rattle.std.proofs.Common.{◌≡◌, ℕ, ◌+◌, ◌-◌, ◌<◌, ◌≤◌, Bool, true, false, List, All, Option, Some, None, IfSome, Result, Ok, Err, IfOk, OnErr, slice_get, slice_set, zero, suc, sym, subst, arith}
use Rattle.std.proofs.Math.Nat.{le_refl}
use Rattle.std.proofs.lemmas.List.Elements.{All-map, All-set}
use Rattle.std.specs.FinMap as map
use Rattle.seg_core.specs.Segment.{IsLayout, most_places, segment_count, segment_start, segment_of}
use Rattle.seg_core.proofs.Doubling.{segment_of_has, exponent_below, segment_start-next}
use Rattle.book_core.proofs.Lists.{at_place}
use Rattle.seg_core.specs.Segment.{IsLimit}
use Rattle.book_core.specs.declared.commands.Command.{Command}
use Rattle.book_core.specs.declared.commands.Command.TheVariants as commands
use Rattle.book_core.specs.declared.events.Event.{Event}
use Rattle.book_core.specs.declared.events.Reply.{Reply}
use Rattle.step_core.specs.declared.machine.phase.CellSlot.{CellSlot}
use Rattle.step_core.specs.declared.machine.phase.CellSlot.TheVariants.{Busy, Filled, Broken}
use Rattle.step_core.specs.declared.machine.phase.Phase.{Phase}
use Rattle.step_core.specs.declared.machine.phase.Phase.TheVariants.{Load, Scout, Put, Exchange, Raise, Begin, Fill, Spoil, Mend, FillMended, Look}
use Rattle.step_core.specs.declared.machine.phase.Next.{Next}
use Rattle.step_core.specs.declared.machine.phase.Next.TheVariants.{Goes, Ends}
use Rattle.step_core.specs.declared.machine.phase.Actor.{Actor}
use Rattle.step_core.specs.machine.Storage.{Storage}
use Rattle.step_core.specs.machine.Step.{actor_after, Configuration, Outcome, first_configuration, load_growth, load_at_least, load, after_segment, exchange, raise, begin_at, after_place, mend_at, look_at, outcome_of, step_of, IsStepped}
use Rattle.step_core.specs.declared.machine.Stepped.{Stepped}
use Rattle.step_core.specs.machine.Bounds.{Wants, Exchanges, IsWithin, StaysWithin, IsPlaced, IsInLimit}
use Rattle.step_core.proofs.atomic_steps.KeptLayout.{row_keeps_layout}
use Rattle.step_core.proofs.atomic_steps.Cases.{first_scout, growth_cases, at_least_cases, load_place_cases, exchange_cases, raise_cases, begin_cases, scout_cases, raise_wants, claiming_cases, segment_cases, place_cases, step_cases}

-- at Load an actor is always placed
placed_at_load : (f limit : ℕ) (command : Option Command) → IfSome command (λ c. IsWithin f limit c Load)
placed_at_load f limit None = tt
placed_at_load f limit (Some command) = tt

-- before the first step every actor is placed
pub opening_in_limit : (f limit : ℕ) (programs : List (List Command)) → IsLayout f → IsLimit limit
    → IsInLimit (first_configuration f limit programs)
opening_in_limit f limit programs is_layout is_limit = (
  is_limit,
  omega arith,
  All-map (λ state. IsPlaced f limit state) _ programs (λ k d inside. placed_at_load f limit (slice_get _ 0)),
  is_layout,
)

-- a segment of a layout that begins below 2^40 is one of those that there are
starts_below : (f k : ℕ) → IsLayout f → segment_start f k < most_places → k < segment_count f
starts_below f zero is_layout below = let low : f ≤ 8 = is_layout.1 in omega arith
starts_below f (suc k) is_layout below = let high : k + f < 40 = exponent_below (k + f) 40 below in omega arith

pub segment_below : (f place : ℕ) → IsLayout f → place < most_places → segment_of f place < segment_count f
segment_below f place is_layout below =
    starts_below f (segment_of f place) is_layout
    (let has = segment_of_has f place in let from : segment_start f (segment_of f place) ≤ place = has.from in omega arith)

-- a step leaves the size within the limit, and its actor too
record Stays (f limit : ℕ) (command : Command) (outcome : Outcome) : Type 0 where
  pub size : outcome.storage.size ≤ limit
  pub next : StaysWithin f limit command outcome.next

-- ---- What follows a segment or a place

module _ (f limit : ℕ) (command : Command) (from n : ℕ) where
  segment_after_within : (segment : ℕ) → IsLayout f → limit ≤ most_places → 0 < n → from + n ≤ limit → Wants command from n
      → IsWithin f limit command (after_segment f command from n segment)
  segment_after_within segment is_layout is_limit some room wants =
      segment_cases (IsWithin f limit command) command from n f segment
      (λ before. (some, room, starts_below f (segment + 1) is_layout (subst (λ e. e < most_places) (sym (segment_start-next f segment)) (omega arith)), wants))
      (λ _. claiming_cases (IsWithin f limit command) command from n
      (λ exchanges. (some, room, exchanges))
      (λ to raises. let ends_at = raise_wants command from n to raises wants in omega arith))

  place_after_within : (place : ℕ) → from ≤ place → from + n ≤ limit
      → StaysWithin f limit command (after_place command from n place)
  place_after_within place low room =
      place_cases (StaysWithin f limit command) command from n place (λ before. (omega arith, before, room)) (λ _. tt)

-- an exchange's call wants the same number of places anywhere
exchange_wants : (command : Command) (from n : ℕ) → Exchanges command → Wants command from n
exchange_wants (commands.Push value) from n exchanges = tt
exchange_wants (commands.Grow m value) from n exchanges = tt
exchange_wants (commands.AtLeast to value) from n exchanges = absurd exchanges
exchange_wants (commands.Fail m value at) from n exchanges = tt
exchange_wants (commands.Mend place value) from n exchanges = tt
exchange_wants (commands.Read place) from n exchanges = tt
exchange_wants commands.Size from n exchanges = tt

-- ---- Rows

module _ (limit : ℕ) (is_limit : limit ≤ most_places) (m : Storage) (is_layout : IsLayout m.layout) (size : m.size ≤ limit) (actor : ℕ) where
  -- if the size stays, only the phase matters
  same_size : (command : Command) (event : Option (Event × Reply)) (next : Next) → StaysWithin m.layout limit command next
      → Stays m.layout limit command (record { storage = m; event = event; next = next })
  same_size command event next within = record { size = size; next = within }

  -- the first segment of places that have room
  first_scout_stays : (command : Command) (n : ℕ) → 0 < n → m.size + n ≤ limit → Wants command m.size n
      → Stays m.layout limit command (first_scout m n)
  first_scout_stays command n some room wants =
      same_size command None _ (some, room, segment_below m.layout m.size is_layout (omega arith), wants)

  growth_stays : (n : ℕ) (command : Command) → Wants command m.size n → Stays m.layout limit command (load_growth limit m actor n)
  growth_stays n command wants =
      growth_cases (Stays m.layout limit command) m actor limit n
      (λ _. same_size command _ _ tt) (λ some room. first_scout_stays command n some room wants) (λ _. same_size command _ _ tt)

  at_least_stays : (to value : ℕ) → Stays m.layout limit (commands.AtLeast to value) (load_at_least limit m actor to)
  at_least_stays to value =
      let command = commands.AtLeast to value in
      at_least_cases (Stays m.layout limit command) m actor limit to
      (λ _. same_size command _ _ tt)
      (λ more room. first_scout_stays command (to - m.size) (omega arith) (omega arith) (omega arith))
      (λ _ _. same_size command _ _ tt)

  load_stays : (command : Command) → Stays m.layout limit command (load limit m actor command)
  load_stays (commands.Push value) = growth_stays 1 (commands.Push value) tt
  load_stays (commands.Grow n value) = growth_stays n (commands.Grow n value) tt
  load_stays (commands.AtLeast to value) = at_least_stays to value
  load_stays (commands.Fail n value at) = growth_stays n (commands.Fail n value at) tt
  load_stays (commands.Mend place value) =
      load_place_cases (Stays m.layout limit (commands.Mend place value)) m actor place (Mend place)
      (λ inside. same_size (commands.Mend place value) _ _ (omega arith)) (λ _. same_size (commands.Mend place value) _ _ tt)
  load_stays (commands.Read place) =
      load_place_cases (Stays m.layout limit (commands.Read place)) m actor place (Look place)
      (λ _. same_size (commands.Read place) _ _ tt) (λ _. same_size (commands.Read place) _ _ tt)
  load_stays commands.Size = same_size commands.Size _ _ tt

  exchange_stays : (from n : ℕ) (command : Command) → 0 < n → from + n ≤ limit → Wants command m.size n
      → Stays m.layout limit command (exchange limit m actor from n)
  exchange_stays from n command some room wants =
      exchange_cases (Stays m.layout limit command) m actor limit from n
      (λ same. record { size = omega arith; next = (le_refl m.size, omega arith, omega arith) })
      (λ more. first_scout_stays command n some more wants)
      (λ _. same_size command _ _ tt)

  raise_stays : (to : ℕ) (command : Command) → to ≤ limit → Stays m.layout limit command (raise m actor to)
  raise_stays to command room =
      raise_cases (Stays m.layout limit command) m actor to (λ _. same_size command _ _ tt)
      (λ more. record { size = omega arith; next = (le_refl m.size, omega arith, omega arith) })

  begin_stays : (from n place : ℕ) (command : Command) (slot : Option CellSlot) → IsWithin m.layout limit command (Begin from n place)
      → Stays m.layout limit command (begin_at m actor command from n place slot)
  begin_stays from n place command None within =
      begin_cases (Stays m.layout limit command) m actor command from n place
      (λ _. record { size = size; next = within }) (λ _. record { size = size; next = within })
  begin_stays from n place command (Some slot) within = same_size command _ _ within

  look_stays : (place : ℕ) (command : Command) (slot : Option CellSlot) → Stays m.layout limit command (look_at m actor place slot)
  look_stays place command None = same_size command _ _ tt
  look_stays place command (Some (Busy owner)) = same_size command _ _ tt
  look_stays place command (Some (Filled value)) = same_size command _ _ tt
  look_stays place command (Some Broken) = same_size command _ _ tt

  mend_stays : (place : ℕ) (command : Command) (slot : Option CellSlot) → place < limit
      → Stays m.layout limit command (mend_at m actor place slot)
  mend_stays place command None within = look_stays place command None
  mend_stays place command (Some (Busy owner)) within = look_stays place command (Some (Busy owner))
  mend_stays place command (Some (Filled value)) within = look_stays place command (Some (Filled value))
  mend_stays place command (Some Broken) within = record { size = size; next = within }

  outcome_stays : (command : Command) (memory : Bool) (phase : Phase) → IsWithin m.layout limit command phase
      → Stays m.layout limit command (outcome_of limit m actor command memory phase)
  outcome_stays command memory Load within = load_stays command
  outcome_stays command memory (Scout from n segment) (some, room, number, wants) =
      scout_cases (Stays m.layout limit command) m command from n segment
      (λ _. same_size command _ _ (segment_after_within m.layout limit command from n segment is_layout is_limit some room wants))
      (same_size command _ _ (some, room, number, wants))
  outcome_stays command true (Put from n segment) (some, room, number, wants) =
      record { size = size; next = segment_after_within m.layout limit command from n segment is_layout is_limit some room wants }
  outcome_stays command false (Put from n segment) within = same_size command _ _ tt
  outcome_stays command memory (Exchange from n) (some, room, exchanges) =
      exchange_stays from n command some room (exchange_wants command m.size n exchanges)
  outcome_stays command memory (Raise to) within = raise_stays to command within
  outcome_stays command memory (Begin from n place) within = begin_stays from n place command (map.get m.slots place) within
  outcome_stays command memory (Fill from n place) (low, high, room) =
      record { size = size; next = place_after_within m.layout limit command from n place low room }
  outcome_stays command memory (Spoil from n place) (low, high, room) =
      record { size = size; next = place_after_within m.layout limit command from n place low room }
  outcome_stays command memory (Mend place) within = mend_stays place command (map.get m.slots place) within
  outcome_stays command memory (FillMended place) within = record { size = size; next = tt }
  outcome_stays command memory (Look place) within = look_stays place command (map.get m.slots place)

-- ---- Whole configurations

-- an actor's phase after a step is placed
after_is_placed : (f limit : ℕ) (state : Actor) (command : Command) (next : Next)
    → slice_get state.program state.ended ≡ Some command → StaysWithin f limit command next
    → IsPlaced f limit (actor_after state next)
after_is_placed f limit state command (Goes phase) is stays =
    subst (λ o. IfSome o (λ c. IsWithin f limit c phase)) (sym is) stays
after_is_placed f limit state command (Ends answer) is stays =
    placed_at_load f limit (slice_get state.program (state.ended + 1))

module _ (c : Configuration) (in_limit : IsInLimit c) where
  -- an actor that is there is placed
  pub actor_at : (actor : ℕ) (state : Actor) → slice_get c.actors actor ≡ Some state
      → IsPlaced c.storage.layout c.limit state
  actor_at actor state there =
      at_place (λ a. IsPlaced c.storage.layout c.limit a) c.actors actor state in_limit.2 there

  -- so its call under way is within the limit
  pub within_at : (actor : ℕ) (state : Actor) (command : Command) → slice_get c.actors actor ≡ Some state
      → slice_get state.program state.ended ≡ Some command → IsWithin c.storage.layout c.limit command state.phase
  within_at actor state command there is =
      subst (λ o. IfSome o (λ k. IsWithin c.storage.layout c.limit k state.phase)) is (actor_at actor state there)

  -- a step stays within the limit
  pub step_in_limit : (actor : ℕ) (memory : Bool) → IsInLimit (step_of c actor memory).to
  step_in_limit actor memory =
      step_cases (λ step. IsInLimit step.to) c actor memory in_limit
      (λ state command there is.
      let outcome = outcome_of c.limit c.storage actor command memory state.phase in
      let stays = outcome_stays c.limit in_limit.0.1 c.storage in_limit.3 in_limit.1 actor command memory state.phase (within_at actor state command there is) in
      let same : c.storage.layout ≡ outcome.storage.layout = sym (row_keeps_layout c.limit c.storage actor command memory state.phase) in (
        in_limit.0,
        stays.size,
        subst (λ f. All (λ a. IsPlaced f c.limit a) (slice_set c.actors actor (actor_after state outcome.next))) same
            (All-set (λ a. IsPlaced c.storage.layout c.limit a) c.actors actor (actor_after state outcome.next) (after_is_placed c.storage.layout c.limit state command outcome.next is stays.next) in_limit.2),
        subst IsLayout same in_limit.3,
      ))

-- so is what a step that succeeded, or changed nothing, leaves
pub left_in_limit : {S E : Type 0} (r : Result S E) (of : S → Stepped) (c new : Configuration) (actor : ℕ) (memory : Bool)
    → IsInLimit c → new.limit ≡ c.limit → IfOk r (λ step. IsStepped (step_of c actor memory) new (of step))
    → OnErr r ((new.storage ≡ c.storage) × (new.actors ≡ c.actors)) → IsInLimit new
left_in_limit (Ok step) of c new actor memory in_limit limit gives kept =
    subst IsInLimit (sym gives.0) (step_in_limit c in_limit actor memory)
left_in_limit (Err e) of c new actor memory in_limit limit gives kept =
    let as_before : IsInLimit (record { limit = c.limit; storage = c.storage; actors = c.actors }) = in_limit in
    subst (λ l. IsInLimit (record { limit = l; storage = new.storage; actors = new.actors })) (sym limit)
    (subst (λ m. IsInLimit (record { limit = c.limit; storage = m; actors = new.actors })) (sym kept.0)
    (subst (λ actors. IsInLimit (record { limit = c.limit; storage = c.storage; actors = actors })) (sym kept.1) as_before))

-- so is a new machine
pub new_in_limit : (f limit : ℕ) (m : Storage) (actors : List Actor) (programs : List (List Command)) → IsLayout f
    → IsLimit limit → m ≡ (first_configuration f limit programs).storage
    → actors ≡ (first_configuration f limit programs).actors
    → IsInLimit (record { limit = limit; storage = m; actors = actors })
new_in_limit f limit m actors programs is_layout is_limit storage_is actors_are =
    let first = first_configuration f limit programs in
    subst (λ m. IsInLimit (record { limit = limit; storage = m; actors = actors })) (sym storage_is)
    (subst (λ actors. IsInLimit (record { limit = limit; storage = first.storage; actors = actors })) (sym actors_are)
    (opening_in_limit f limit programs is_layout is_limit))
