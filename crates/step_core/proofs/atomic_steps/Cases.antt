-- A fact of a row of the step table, if it is a fact of each outcome that the row may have.
use Rattle.std.proofs.Common.{◌≡◌, ◌≢◌, ℕ, ◌+◌, ◌-◌, ◌<◌, ◌≤◌, ◌==◌, nat_le, nat_lt, Bool, true, false, if◌then◌else◌, Some, None, slice_get, refl, subst, arith}
use Rattle.std.proofs.lemmas.Bool.{eqb-true, eqb-false}
use Rattle.std.proofs.lemmas.Bool.Decides.{nat_tests}
use Rattle.std.specs.FinSet as set
use Rattle.seg_core.specs.Segment.{segment_end, segment_of}
use Rattle.book_core.specs.declared.events.Event.{Event}
use Rattle.book_core.specs.declared.events.Event.TheVariants as events
use Rattle.book_core.specs.declared.events.Reply.TheVariants as replies
use Rattle.book_core.specs.declared.commands.Command.{Command}
use Rattle.book_core.specs.declared.commands.Command.TheVariants as commands
use Rattle.book_core.specs.declared.commands.Answer.TheVariants as answers
use Rattle.step_core.specs.declared.machine.phase.CellSlot.TheVariants.{Busy}
use Rattle.step_core.specs.declared.machine.phase.Phase.{Phase}
use Rattle.step_core.specs.declared.machine.phase.Phase.TheVariants.{Scout, Put, Exchange, Raise, Begin, Fill, Spoil}
use Rattle.step_core.specs.declared.machine.phase.Next.{Next}
use Rattle.step_core.specs.declared.machine.phase.Next.TheVariants.{Goes, Ends}
use Rattle.step_core.specs.declared.machine.phase.Actor.{Actor}
use Rattle.step_core.specs.machine.Storage.{Storage}
use Rattle.step_core.specs.machine.Step.{Configuration, Outcome, Step, goes_on, ends, with_size, with_slot, load_growth, load_at_least, load_place, claiming, after_segment, scout, exchange, raise, is_refused, begin_at, answer_of_run, after_place, outcome_of, no_step, step_to, step_in, step_as, step_of}
use Rattle.step_core.specs.machine.Bounds.{Wants, Exchanges}

-- a test passes, or it fails
test_cases : (P : Bool → Type 0) (test : Bool) → (test ≡ true → P true) → (test ≡ false → P false) → P test
test_cases P true passes fails = passes refl
test_cases P false passes fails = fails refl

-- ---- Outcomes that occur in several rows

-- a growth of nothing claims no places
abbrev pub claim_of_nothing : Storage → ℕ → Outcome
claim_of_nothing m actor = ends m (events.Claim actor 0) (replies.Run m.size 0) (answers.Run m.size 0)

-- n more places are looked for from the first segment on
abbrev pub first_scout : Storage → ℕ → Outcome
first_scout m n = goes_on m (Scout m.size n (segment_of m.layout m.size))

-- n more places would pass the limit
abbrev pub refusal : Storage → ℕ → ℕ → Outcome
refusal m actor n = ends m (events.RefusedFull actor n) (replies.Full m.size) (answers.Full m.size)

-- the size is large enough already
abbrev pub enough : Storage → ℕ → ℕ → Outcome
enough m actor to = ends m (events.Raise actor to) (replies.Enough m.size) (answers.Enough m.size)

-- an event moves the size on by n places, and its actor is to begin the first of them
abbrev pub won_growth : Storage → Event → ℕ → Outcome
won_growth m event n = record {
  storage = with_size m (m.size + n);
  event = Some (event, replies.Run m.size n);
  next = Goes (Begin m.size n m.size);
}

-- ---- Rows

module _ (P : Outcome → Type 0) (m : Storage) (actor : ℕ) where
  -- n more places are within the limit, or past it
  room_cases : (limit n : ℕ) → (m.size + n ≤ limit → P (first_scout m n)) → (limit < m.size + n → P (refusal m actor n))
      → P (if nat_le (m.size + n) limit then first_scout m n else refusal m actor n)
  room_cases limit n fits full =
      test_cases (λ b. P (if b then first_scout m n else refusal m actor n)) (nat_le (m.size + n) limit)
      (λ test. fits (let room : m.size + n ≤ limit = grind (arith, nat_tests) in room))
      (λ test. full (let past : limit < m.size + n = grind (arith, nat_tests) in past))

  -- Load of a growth by n: nothing is wanted, or it has room, or it has none
  pub growth_cases : (limit n : ℕ) → (n ≡ 0 → P (claim_of_nothing m actor))
      → (0 < n → m.size + n ≤ limit → P (first_scout m n)) → (limit < m.size + n → P (refusal m actor n))
      → P (load_growth limit m actor n)
  growth_cases limit n nothing fits full =
      test_cases
      (λ b. P (if b then claim_of_nothing m actor else if nat_le (m.size + n) limit then first_scout m n else refusal m actor n))
      (n == 0)
      (λ none. nothing (eqb-true n 0 none))
      (λ test. room_cases limit n (fits (let some : 0 < n = grind (arith, nat_tests) in some)) full)

  -- Load of a growth to a size: it is that large, or has room up to it, or has none
  pub at_least_cases : (limit to : ℕ) → (to ≤ m.size → P (enough m actor to))
      → (m.size < to → to ≤ limit → P (first_scout m (to - m.size)))
      → (m.size < to → limit < to → P (refusal m actor (to - m.size)))
      → P (load_at_least limit m actor to)
  at_least_cases limit to had fits full =
      test_cases
      (λ b. P (if b then enough m actor to else if nat_le to limit then first_scout m (to - m.size) else refusal m actor (to - m.size)))
      (nat_le to m.size)
      (λ test. had (let within : to ≤ m.size = grind (arith, nat_tests) in within))
      (λ grows.
      let more : m.size < to = grind (arith, nat_tests) in
      test_cases (λ b. P (if b then first_scout m (to - m.size) else refusal m actor (to - m.size))) (nat_le to limit)
      (λ test. fits more (let room : to ≤ limit = grind (arith, nat_tests) in room))
      (λ test. full more (let past : limit < to = grind (arith, nat_tests) in past)))

  -- Load of a call of one place: the place is claimed, or it is not
  pub load_place_cases : (place : ℕ) (phase : Phase) → (place < m.size → P (goes_on m phase))
      → (m.size ≤ place → P (ends m (events.Look actor place) (replies.OutOfRange m.size) (answers.OutOfRange m.size)))
      → P (load_place m actor place phase)
  load_place_cases place phase inside outside =
      test_cases
      (λ b. P (if b then goes_on m phase else ends m (events.Look actor place) (replies.OutOfRange m.size) (answers.OutOfRange m.size)))
      (nat_lt place m.size)
      (λ test. inside (let before : place < m.size = grind (arith, nat_tests) in before))
      (λ test. outside (let past : m.size ≤ place = grind (arith, nat_tests) in past))

  -- Exchange: the size is the one that the actor knows, or it has moved and there is room, or there is none
  pub moved_cases : (limit from n : ℕ) → (m.size ≡ from → P (won_growth m (events.Claim actor n) n))
      → (m.size ≢ from → m.size + n ≤ limit → P (first_scout m n)) → (limit < m.size + n → P (refusal m actor n))
      → P (exchange limit m actor from n)
  moved_cases limit from n same fits full =
      test_cases
      (λ b. P (if b then record { storage = with_size m (from + n); event = Some (events.Claim actor n, replies.Run from n); next = Goes (Begin from n from) } else if nat_le (m.size + n) limit then first_scout m n else refusal m actor n))
      (m.size == from)
      (λ test.
      let is : m.size ≡ from = eqb-true m.size from test in
      subst (λ f. P (record { storage = with_size m (f + n); event = Some (events.Claim actor n, replies.Run f n); next = Goes (Begin f n f) })) is (same is))
      (λ test. room_cases limit n (fits (eqb-false m.size from test)) full)

  -- the same where it doesn't matter that the size has moved
  pub exchange_cases : (limit from n : ℕ) → (m.size ≡ from → P (won_growth m (events.Claim actor n) n))
      → (m.size + n ≤ limit → P (first_scout m n)) → (limit < m.size + n → P (refusal m actor n))
      → P (exchange limit m actor from n)
  exchange_cases limit from n same fits full = moved_cases limit from n same (λ _. fits) full

  -- Raise: the size is that large, or it moves
  pub raise_cases : (to : ℕ) → (to ≤ m.size → P (enough m actor to))
      → (m.size < to → P (won_growth m (events.Raise actor to) (to - m.size))) → P (raise m actor to)
  raise_cases to had grows =
      test_cases
      (λ b. P (if b then enough m actor to else record { storage = with_size m to; event = Some (events.Raise actor to, replies.Run m.size (to - m.size)); next = Goes (Begin m.size (to - m.size) m.size) }))
      (nat_le to m.size)
      (λ test. had (let within : to ≤ m.size = grind (arith, nat_tests) in within))
      (λ test.
      let more : m.size < to = grind (arith, nat_tests) in
      let reaches : m.size + (to - m.size) ≡ to = omega arith in
      subst (λ e. P (record { storage = with_size m e; event = Some (events.Raise actor to, replies.Run m.size (to - m.size)); next = Goes (Begin m.size (to - m.size) m.size) })) reaches (grows more))

  -- Begin at an empty slot: its construction is refused, or it is not
  pub begin_cases : (command : Command) (from n place : ℕ)
      → (is_refused command from place ≡ true → P (goes_on (with_slot m place (Busy actor)) (Spoil from n place)))
      → (is_refused command from place ≡ false → P (goes_on (with_slot m place (Busy actor)) (Fill from n place)))
      → P (begin_at m actor command from n place None)
  begin_cases command from n place refused fits =
      test_cases (λ b. P (goes_on (with_slot m place (Busy actor)) (if b then Spoil from n place else Fill from n place)))
      (is_refused command from place) refused fits

-- Scout: the segment is installed, or it is not
pub scout_cases : (P : Outcome → Type 0) (m : Storage) (command : Command) (from n segment : ℕ)
    → (set.contains m.installed segment ≡ true → P (goes_on m (after_segment m.layout command from n segment)))
    → P (goes_on m (Put from n segment)) → P (scout m command from n segment)
scout_cases P m command from n segment there not_there =
    test_cases (λ b. P (if b then goes_on m (after_segment m.layout command from n segment) else goes_on m (Put from n segment)))
    (set.contains m.installed segment) there (λ _. not_there)

-- ---- What follows a segment or a place

-- the call is a growth to at least this size
abbrev pub IsRaise : Command → ℕ → Type 0
IsRaise (commands.Push value) to = ⊥
IsRaise (commands.Grow n value) to = ⊥
IsRaise (commands.AtLeast size value) to = size ≡ to
IsRaise (commands.Fail n value at) to = ⊥
IsRaise (commands.Mend place value) to = ⊥
IsRaise (commands.Read place) to = ⊥
IsRaise commands.Size to = ⊥

-- a growth to at least a size wants the places up to that size
pub raise_wants : (command : Command) (from n to : ℕ) → IsRaise command to → Wants command from n → from + n ≡ to
raise_wants (commands.Push value) from n to is wants = absurd is
raise_wants (commands.Grow m value) from n to is wants = absurd is
raise_wants (commands.AtLeast size value) from n to is wants = (let ends_at : from + n ≡ size = wants in omega arith)
raise_wants (commands.Fail m value at) from n to is wants = absurd is
raise_wants (commands.Mend place value) from n to is wants = absurd is
raise_wants (commands.Read place) from n to is wants = absurd is
raise_wants commands.Size from n to is wants = absurd is

module _ (P : Phase → Type 0) (command : Command) (from n : ℕ) where
  -- places are claimed by an exchange, or by a raise
  pub claiming_cases : (Exchanges command → P (Exchange from n)) → ((to : ℕ) → IsRaise command to → P (Raise to))
      → P (claiming command from n)
  claiming_cases exchanges raises =
      elim command as (λ c. (Exchanges c → P (Exchange from n)) → ((to : ℕ) → IsRaise c to → P (Raise to)) → P (claiming c from n)) [
        | commands.Push value ↦ (λ yes _. yes tt)
        | commands.Grow m value ↦ (λ yes _. yes tt)
        | commands.AtLeast to value ↦ (λ _ yes. yes to refl)
        | commands.Fail m value at ↦ (λ yes _. yes tt)
        | commands.Mend place value ↦ (λ yes _. yes tt)
        | commands.Read place ↦ (λ yes _. yes tt)
        | commands.Size ↦ (λ yes _. yes tt)
      ]
      exchanges raises

  -- after a segment comes the next one, or the claim
  pub segment_cases : (f segment : ℕ) → (segment_end f segment < from + n → P (Scout from n (segment + 1)))
      → (from + n ≤ segment_end f segment → P (claiming command from n)) → P (after_segment f command from n segment)
  segment_cases f segment more last =
      test_cases (λ b. P (if b then Scout from n (segment + 1) else claiming command from n))
      (nat_lt (segment_end f segment) (from + n))
      (λ test. more (let before : segment_end f segment < from + n = grind (arith, nat_tests) in before))
      (λ test. last (let reaches : from + n ≤ segment_end f segment = grind (arith, nat_tests) in reaches))

-- after a place of a run comes the next one, or the end of the call
pub place_cases : (P : Next → Type 0) (command : Command) (from n place : ℕ)
    → (place + 1 < from + n → P (Goes (Begin from n (place + 1))))
    → (from + n ≤ place + 1 → P (Ends (answer_of_run command from n))) → P (after_place command from n place)
place_cases P command from n place more last =
    test_cases (λ b. P (if b then Goes (Begin from n (place + 1)) else Ends (answer_of_run command from n)))
    (nat_lt (place + 1) (from + n))
    (λ test. more (let before : place + 1 < from + n = grind (arith, nat_tests) in before))
    (λ test. last (let end : from + n ≤ place + 1 = grind (arith, nat_tests) in end))

-- ---- A step

-- An actor's step is a row of the table, of its call under way, or changes nothing.
pub step_cases : (P : Step → Type 0) (c : Configuration) (actor : ℕ) (memory : Bool) → P (no_step c)
    → ((state : Actor) (command : Command) → slice_get c.actors actor ≡ Some state
    → slice_get state.program state.ended ≡ Some command
    → P (step_to c actor state command (outcome_of c.limit c.storage actor command memory state.phase)))
    → P (step_of c actor memory)
step_cases P c actor memory nothing row =
    elim (slice_get c.actors actor) as (λ o. slice_get c.actors actor ≡ o → P (step_as c actor memory o)) [
      | None ↦ (λ _. nothing)
      | Some state ↦ (λ there.
          elim (slice_get state.program state.ended) as (λ o. slice_get state.program state.ended ≡ o → P (step_in c actor memory state o)) [
            | None ↦ (λ _. nothing)
            | Some command ↦ (λ is. row state command there is)
          ]
          refl)
    ]
    refl
