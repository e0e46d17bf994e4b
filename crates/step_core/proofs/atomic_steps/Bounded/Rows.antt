-- What each row of the step table leaves of a call's count.
use Rattle.std.proofs.Common.{◌≡◌, ℕ, ◌+◌, ◌-◌, ◌*◌, ◌<◌, ◌≤◌, ◌==◌, max, Bool, true, false, if◌then◌else◌, Option, Some, None, refl, sym, subst, arith, inl, inr}
use Rattle.std.proofs.Math.Nat.{le_refl, le-max_left, le-max_right, max-le}
use Rattle.std.proofs.lemmas.Bool.{cases_lt}
use Rattle.std.proofs.lemmas.Bool.Decides.{eqb_tells}
use Rattle.std.specs.FinMap as map
use Rattle.seg_core.specs.Segment.{IsLayout, most_places, segment_end, segment_of}
use Rattle.seg_core.proofs.Doubling.{segment_of_has, segment_end-le}
use Rattle.book_core.specs.declared.commands.Command.{Command}
use Rattle.book_core.specs.declared.commands.Command.TheVariants as commands
use Rattle.step_core.specs.declared.machine.phase.CellSlot.{CellSlot}
use Rattle.step_core.specs.declared.machine.phase.CellSlot.TheVariants.{Busy, Filled, Broken}
use Rattle.step_core.specs.declared.machine.phase.Phase.{Phase}
use Rattle.step_core.specs.declared.machine.phase.Phase.TheVariants.{Load, Scout, Put, Exchange, Raise, Begin, Fill, Spoil, Mend, FillMended, Look}
use Rattle.step_core.specs.declared.machine.phase.Next.{Next}
use Rattle.step_core.specs.declared.machine.phase.Next.TheVariants.{Goes, Ends}
use Rattle.step_core.specs.machine.Storage.{Storage}
use Rattle.step_core.specs.machine.Step.{Outcome, load_growth, load, after_segment, exchange, raise, begin_at, mend_at, look_at, after_place, outcome_of}
use Rattle.step_core.specs.machine.Bounds.{Exchanges, IsWithin}
use Rattle.step_core.specs.machine.Work.{Count, no_count, count_after, segments_touched, losses_allowed, MayTouch}
use Rattle.step_core.proofs.atomic_steps.Bounds.{segment_below}
use Rattle.step_core.proofs.atomic_steps.Cases.{growth_cases, at_least_cases, load_place_cases, moved_cases, raise_cases, begin_cases, scout_cases, raise_wants, claiming_cases, segment_cases, place_cases}
use Rattle.step_core.proofs.atomic_steps.Tallies.{segments_in_order}
use Rattle.step_core.proofs.atomic_steps.Bounded.Phases.{rounds, rounds_next, rounds_more, Grows, IsMend, IsRead, grows_anew, raise_grows, raise_wanted, mend_within, read_within, one_within, Steady, Looks, Claims, Raises, Writes, Paces, Stops, growth_stops, none_touched, touched_anew, round_touched}

-- ---- Segments of a round

-- n places touch the segments from the first one's to the last one's
touched_is : (f from n : ℕ) → 0 < n → segments_touched f from n ≡ segment_of f (from + n - 1) + 1 - segment_of f from
touched_is f from n some =
    elim (eqb_tells n 0) [
      | inl none ↦ absurd (let is : n ≡ 0 = none.1 in omega arith)
      | inr apart ↦ rw (apart.0) refl
    ]

-- there are at most 40
touched_few : (f from n : ℕ) → IsLayout f → 0 < n → from + n ≤ most_places → segments_touched f from n ≤ 40
touched_few f from n is_layout some room =
    let below = segment_below f (from + n - 1) is_layout (omega arith) in
    let is = touched_is f from n some in
    let first : 1 ≤ f = is_layout.0 in
    omega arith

-- if a segment ends before the run does, the last place lies in a later one
later_segment : (f from n segment : ℕ) → 0 < n → segment_end f segment < from + n
    → segment < segment_of f (from + n - 1)
later_segment f from n segment some ends =
    elim (cases_lt segment (segment_of f (from + n - 1))) [
      | inl below ↦ below
      | inr past ↦ absurd (
          let has = segment_of_has f (from + n - 1) in
          let before : from + n - 1 < segment_end f (segment_of f (from + n - 1)) = has.before in
          let wide = segment_end-le f (segment_of f (from + n - 1)) segment past in omega arith)
    ]

-- ---- What follows a step

-- a step counts that neither loses an exchange nor begins a round
abbrev stepped : Count → ℕ → Count
stepped count events = record {
  tally = record { lost = count.tally.lost; steps = count.tally.steps + 1; segments = count.tally.segments };
  wanted = count.wanted;
  begun = if count.tally.steps == 0 then events else count.begun;
}

-- the count of a step that begins a round, with this number of lost exchanges
abbrev in_round : Count → ℕ → ℕ → ℕ → ℕ → Count
in_round count events lost n touched = record {
  tally = record { lost = lost; steps = count.tally.steps + 1; segments = max count.tally.segments touched };
  wanted = n;
  begun = if count.tally.steps == 0 then events else count.begun;
}

-- the call goes on with this count, or ends with it
abbrev pub PacesOn : ℕ → ℕ → ℕ → Command → Count → ℕ → ℕ → Phase → Next → Type 0
PacesOn f limit size command count growths events before (Goes phase) = Paces f limit size command (count_after f count before phase events) growths phase
PacesOn f limit size command count growths events before (Ends answer) = Stops f limit command (count_after f count before Load events) growths

-- the outcome of a step in this phase
abbrev pub Leaves : ℕ → ℕ → Command → Count → ℕ → ℕ → Phase → Outcome → Type 0
Leaves f limit command count growths events before o = PacesOn f limit o.storage.size command count growths events before o.next

-- ---- Rows

module _ (limit : ℕ) (m : Storage) (is_layout : IsLayout m.layout) (is_limit : limit ≤ most_places) (actor growths events : ℕ) where
  -- a first step that ends its call
  first_ends : (command : Command) → Stops m.layout limit command (count_after m.layout no_count Load Load events) growths
  first_ends command = record { lost = omega arith; steps = one_within command 0 0 0 (0 + 1) (omega arith); segments = omega arith; touched = none_touched m.layout limit command 0 }

  -- the look at the first segment of a round
  round_begins : (command : Command) (count : Count) (lost n : ℕ) → 0 < n → m.size + n ≤ limit → Grows command n n
      → lost ≤ losses_allowed command growths → count.tally.steps ≤ rounds lost count.tally.segments
      → count.tally.segments ≤ 40 → MayTouch m.layout limit command n count.tally.segments
      → Looks m.layout limit m.size command (in_round count events lost n (segments_touched m.layout m.size n)) growths m.size n (segment_of m.layout m.size) 1
  round_begins command count lost n some room grows losses steps few before =
      let touched = segments_touched m.layout m.size n in
      let is = touched_is m.layout m.size n some in
      let order = segments_in_order m.layout m.size n some in
      let wider = le-max_right count.tally.segments touched in
      let more = rounds_more lost count.tally.segments (max count.tally.segments touched) (le-max_left count.tally.segments touched) in
      record {
        steady = record {
          lost = losses;
          segments = max-le few (touched_few m.layout m.size n is_layout some (omega arith));
          touched = round_touched m.layout limit command n m.size count.tally.segments grows room before;
          stepped = omega arith;
        };
        grows = grows;
        known = le_refl m.size;
        may_lose = λ apart _. absurd (apart refl);
        low = le_refl (segment_of m.layout m.size);
        high = omega arith;
        touched = omega arith;
        steps = omega arith;
      }

  -- Load
  growth_leaves : (command : Command) (n : ℕ) → Grows command n n
      → Leaves m.layout limit command no_count growths events Load (load_growth limit m actor n)
  growth_leaves command n grows =
      growth_cases (Leaves m.layout limit command no_count growths events Load) m actor limit n
      (λ _. first_ends command)
      (λ some room. round_begins command no_count 0 n some room grows (omega arith) (omega arith) (omega arith) (none_touched m.layout limit command n))
      (λ _. first_ends command)

  load_leaves : (command : Command) → Leaves m.layout limit command no_count growths events Load (load limit m actor command)
  load_leaves (commands.Push value) = growth_leaves (commands.Push value) 1 refl
  load_leaves (commands.Grow n value) = growth_leaves (commands.Grow n value) n refl
  load_leaves (commands.AtLeast to value) =
      at_least_cases (Leaves m.layout limit (commands.AtLeast to value) no_count growths events Load) m actor limit to
      (λ _. first_ends (commands.AtLeast to value))
      (λ more room. round_begins (commands.AtLeast to value) no_count 0 (to - m.size) (omega arith) (omega arith) refl (omega arith) (omega arith) (omega arith) (none_touched m.layout limit (commands.AtLeast to value) (to - m.size)))
      (λ _ _. first_ends (commands.AtLeast to value))
  load_leaves (commands.Fail n value at) = growth_leaves (commands.Fail n value at) n refl
  load_leaves (commands.Mend place value) =
      load_place_cases (Leaves m.layout limit (commands.Mend place value) no_count growths events Load) m actor place (Mend place)
      (λ _. (record { lost = omega arith; segments = omega arith; touched = refl; stepped = omega arith }, tt, omega arith))
      (λ _. first_ends (commands.Mend place value))
  load_leaves (commands.Read place) =
      load_place_cases (Leaves m.layout limit (commands.Read place) no_count growths events Load) m actor place (Look place)
      (λ _. (record { lost = omega arith; segments = omega arith; touched = refl; stepped = omega arith }, tt, omega arith))
      (λ _. first_ends (commands.Read place))
  load_leaves commands.Size = first_ends commands.Size

  module _ (command : Command) (count : Count) where
    -- a further step that neither loses nor begins a round
    steady_on : Steady m.layout limit command count growths
        → Steady m.layout limit command (stepped count events) growths
    steady_on steady = record { lost = steady.lost; segments = steady.segments; touched = steady.touched; stepped = omega arith }

    -- after a segment: the next one, or the claim
    segment_leaves : (before : Phase) (from n segment more : ℕ) → more ≤ 2
        → IsWithin m.layout limit command (Scout from n segment)
        → Looks m.layout limit m.size command count growths from n segment more
        → ((after : Phase) → Paces m.layout limit m.size command (stepped count events) growths after
        → Paces m.layout limit m.size command (count_after m.layout count before after events) growths after)
        → Paces m.layout limit m.size command (count_after m.layout count before (after_segment m.layout command from n segment) events) growths (after_segment m.layout command from n segment)
    segment_leaves before from n segment more little (some, room, number, wants) was so =
        segment_cases (λ after. Paces m.layout limit m.size command (count_after m.layout count before after events) growths after) command from n m.layout segment
        (λ ends. so (Scout from n (segment + 1)) (record {
          steady = steady_on was.steady;
          grows = was.grows;
          known = was.known;
          may_lose = was.may_lose;
          low = (let a = was.low in omega arith);
          high = (let later = later_segment m.layout from n segment some ends in omega arith);
          touched = was.touched;
          steps = (let a = was.steps in omega arith);
        }))
        (λ _. claiming_cases (λ after. Paces m.layout limit m.size command (count_after m.layout count before after events) growths after) command from n
        (λ exchanges. so (Exchange from n) (record {
          steady = steady_on was.steady;
          grows = was.grows;
          may_lose = was.may_lose;
          steps = (let a = was.steps in let b = was.low in let c = was.high in let d = was.touched in omega arith);
        }))
        (λ to raises. so (Raise to) (record {
          steady = steady_on was.steady;
          raise = raises;
          reach = (
              let ends_at = raise_wants command from n to raises wants in
              let by = raise_wanted command to count.wanted n raises was.grows in
              let a = was.known in omega arith);
          steps = (let a = was.steps in let b = was.low in let c = was.high in let d = was.touched in omega arith);
        })))

    -- a step that ends a growth
    growth_ends : (n : ℕ) → Steady m.layout limit command count growths → Grows command count.wanted n
        → count.tally.steps + 1 ≤ 1 + rounds (count.tally.lost + 1) count.tally.segments + 2 * n
        → Stops m.layout limit command (stepped count events) growths
    growth_ends n steady grows few = growth_stops m.layout limit growths command _ n (steady_on steady) grows few

    -- Exchange: the run is won; or the exchange is lost, and a round begins; or the limit is reached
    exchange_leaves : (from n : ℕ) → 0 < n → Exchanges command → Claims m.layout limit m.size command count growths from n
        → Leaves m.layout limit command count growths events (Exchange from n) (exchange limit m actor from n)
    exchange_leaves from n some exchanges was =
        let next = rounds_next count.tally.lost count.tally.segments in
        let a = was.steps in
        moved_cases (Leaves m.layout limit command count growths events (Exchange from n)) m actor limit from n
        (λ _. record { steady = steady_on was.steady; most = n; grows = was.grows; few = le_refl n; steps = omega arith })
        (λ moved fits. round_begins command count (count.tally.lost + 1) n some fits (grows_anew command count.wanted n was.grows) (let more = was.may_lose moved exchanges in omega arith) (omega arith) was.steady.segments (touched_anew m.layout limit command count.wanted n count.tally.segments was.grows was.steady.touched))
        (λ _. growth_ends n was.steady was.grows (omega arith))

    -- Raise
    raise_leaves : (to : ℕ) → Raises m.layout limit m.size command count growths to
        → Leaves m.layout limit command count growths events (Raise to) (raise m actor to)
    raise_leaves to was =
        let next = rounds_next count.tally.lost count.tally.segments in
        let a = was.steps in
        raise_cases (Leaves m.layout limit command count growths events (Raise to)) m actor to
        (λ _. growth_ends count.wanted was.steady (raise_grows command to count.wanted was.raise) (omega arith))
        (λ more. record {
          steady = steady_on was.steady;
          most = count.wanted;
          grows = raise_grows command to count.wanted was.raise;
          few = (let b = was.reach in omega arith);
          steps = omega arith;
        })

    -- Begin
    begin_leaves : (from n place : ℕ) (slot : Option CellSlot) → slot ≡ None → Writes m.layout limit command count growths from n place 1
        → Leaves m.layout limit command count growths events (Begin from n place) (begin_at m actor command from n place slot)
    begin_leaves from n place slot empty was =
        let begun : Writes m.layout limit command (stepped count events) growths from n place 2 =
        record { steady = steady_on was.steady; most = was.most; grows = was.grows; few = was.few; steps = (let a = was.steps in omega arith) } in
        subst (λ s. Leaves m.layout limit command count growths events (Begin from n place) (begin_at m actor command from n place s)) (sym empty)
        (begin_cases (Leaves m.layout limit command count growths events (Begin from n place)) m actor command from n place (λ _. begun) (λ _. begun))

    -- Fill and Spoil
    place_leaves : (size from n place : ℕ) → place < from + n → Writes m.layout limit command count growths from n place 2
        → (before : Phase)
        → ((after : Phase) → Paces m.layout limit size command (stepped count events) growths after
        → Paces m.layout limit size command (count_after m.layout count before after events) growths after)
        → (Stops m.layout limit command (stepped count events) growths
        → Stops m.layout limit command (count_after m.layout count before Load events) growths)
        → PacesOn m.layout limit size command count growths events before (after_place command from n place)
    place_leaves size from n place inside was before so stops =
        let a = was.steps in
        place_cases (PacesOn m.layout limit size command count growths events before) command from n place
        (λ _. so (Begin from n (place + 1)) (record { steady = steady_on was.steady; most = was.most; grows = was.grows; few = was.few; steps = omega arith }))
        (λ _. stops (growth_ends was.most was.steady was.grows (let b = was.few in omega arith)))

    -- Look
    look_leaves : (before : Phase) (place : ℕ) (slot : Option CellSlot)
        → Stops m.layout limit command (count_after m.layout count before Load events) growths
        → Leaves m.layout limit command count growths events before (look_at m actor place slot)
    look_leaves before place None stops = stops
    look_leaves before place (Some (Busy owner)) stops = stops
    look_leaves before place (Some (Filled value)) stops = stops
    look_leaves before place (Some Broken) stops = stops

    -- a step that ends a mend, and a read
    mend_ends : Steady m.layout limit command count growths → IsMend command → count.tally.steps ≤ 2 → Stops m.layout limit command (stepped count events) growths
    mend_ends steady is few = record {
      lost = steady.lost;
      steps = mend_within command count.wanted count.tally.lost count.tally.segments (count.tally.steps + 1) is (omega arith);
      segments = steady.segments;
      touched = steady.touched;
    }

    read_ends : Steady m.layout limit command count growths → IsRead command → count.tally.steps ≤ 1 → Stops m.layout limit command (stepped count events) growths
    read_ends steady is few = record {
      lost = steady.lost;
      steps = read_within command count.wanted count.tally.lost count.tally.segments (count.tally.steps + 1) is (omega arith);
      segments = steady.segments;
      touched = steady.touched;
    }

    -- Mend
    mend_leaves : (place : ℕ) (slot : Option CellSlot) → Steady m.layout limit command count growths → IsMend command → count.tally.steps ≤ 1
        → Leaves m.layout limit command count growths events (Mend place) (mend_at m actor place slot)
    mend_leaves place slot steady is few =
        let stops = mend_ends steady is (omega arith) in
        elim slot as (λ s. Leaves m.layout limit command count growths events (Mend place) (mend_at m actor place s)) [
          | None ↦ stops
          | Some (Busy owner) ↦ stops
          | Some (Filled value) ↦ stops
          | Some Broken ↦ (steady_on steady, is, omega arith)
        ]

    -- each row of the step table
    pub row_leaves : (memory : Bool) (phase : Phase) → IsWithin m.layout limit command phase
        → ((from n place : ℕ) → phase ≡ Begin from n place → map.get m.slots place ≡ None)
        → Paces m.layout limit m.size command count growths phase
        → Leaves m.layout limit command count growths events phase (outcome_of limit m actor command memory phase)
    row_leaves memory Load within empty was =
        subst (λ c. Leaves m.layout limit command c growths events Load (load limit m actor command)) (sym was) (load_leaves command)
    row_leaves memory (Scout from n segment) within empty was =
        scout_cases (Leaves m.layout limit command count growths events (Scout from n segment)) m command from n segment
        (λ _. segment_leaves (Scout from n segment) from n segment 1 (omega arith) within was (λ after paces. paces))
        (record {
          steady = steady_on was.steady;
          grows = was.grows;
          known = was.known;
          may_lose = was.may_lose;
          low = was.low;
          high = was.high;
          touched = was.touched;
          steps = (let a = was.steps in omega arith);
        })
    row_leaves true (Put from n segment) within empty was =
        segment_leaves (Put from n segment) from n segment 2 (omega arith) within was (λ after paces. paces)
    row_leaves false (Put from n segment) within empty was =
        growth_ends n was.steady was.grows
        (let a = was.steps in let b = was.low in let c = was.high in let d = was.touched in
        let next = rounds_next count.tally.lost count.tally.segments in omega arith)
    row_leaves memory (Exchange from n) (some, room, exchanges) empty was = exchange_leaves from n some exchanges was
    row_leaves memory (Raise to) within empty was = raise_leaves to was
    row_leaves memory (Begin from n place) within empty was =
        begin_leaves from n place (map.get m.slots place) (empty from n place refl) was
    row_leaves memory (Fill from n place) (low, inside, room) empty was =
        place_leaves m.size from n place inside was (Fill from n place) (λ after paces. paces) (λ stops. stops)
    row_leaves memory (Spoil from n place) (low, inside, room) empty was =
        place_leaves m.size from n place inside was (Spoil from n place) (λ after paces. paces) (λ stops. stops)
    row_leaves memory (Mend place) within empty (steady, is, few) =
        mend_leaves place (map.get m.slots place) steady is few
    row_leaves memory (FillMended place) within empty (steady, is, few) =
        mend_ends steady is few
    row_leaves memory (Look place) within empty (steady, is, few) =
        look_leaves (Look place) place (map.get m.slots place)
        (read_ends steady is few)
