-- Every step keeps the segments of the claimed places installed, and those that the actors have passed.
use Rattle.std.proofs.Common.{◌≡◌, ℕ, ◌+◌, ◌-◌, ◌<◌, ◌≤◌, ◌||◌, Bool, true, false, List, [], ◌∷◌, All, Option, Some, None, Result, Ok, Err, IfOk, OnErr, ap, sym, ◌∙◌, subst, arith, inl, inr}
use Rattle.std.proofs.Math.Bool.{or-true}
use Rattle.std.proofs.lemmas.Bool.{cases_lt}
use Rattle.std.proofs.lemmas.List.Elements.{All-map, All-set, All-weaker}
use Rattle.std.specs.Ordering.{nat_cmp, eq_by_cmp}
use Rattle.std.specs.Cmp.{nat_cmp_total}
use Rattle.std.specs.FinSet as set
use Rattle.std.specs.FinMap as map
use Rattle.seg_core.specs.Segment.{segment_start, segment_end, segment_of}
use Rattle.seg_core.proofs.Doubling.{segment_of_has, is_segment_of, segment_start-next}
use Rattle.book_core.proofs.Lists.{at_place}
use Rattle.book_core.specs.declared.commands.Item.{Item}
use Rattle.book_core.specs.declared.commands.Command.{Command}
use Rattle.book_core.specs.declared.commands.Command.TheVariants as commands
use Rattle.book_core.specs.declared.events.Event.{Event}
use Rattle.book_core.specs.declared.events.Reply.{Reply}
use Rattle.book_core.specs.declared.commands.Answer.{Answer}
use Rattle.step_core.specs.declared.machine.phase.CellSlot.{CellSlot}
use Rattle.step_core.specs.declared.machine.phase.CellSlot.TheVariants.{Busy, Filled, Broken}
use Rattle.step_core.specs.declared.machine.phase.Phase.{Phase}
use Rattle.step_core.specs.declared.machine.phase.Phase.TheVariants.{Load, Scout, Put, Exchange, Raise, Begin, Fill, Spoil, Mend, FillMended, Look}
use Rattle.step_core.specs.declared.machine.phase.Next.{Next}
use Rattle.step_core.specs.declared.machine.phase.Next.TheVariants.{Goes, Ends}
use Rattle.step_core.specs.declared.machine.phase.Actor.{Actor}
use Rattle.step_core.specs.declared.machine.Stepped.{Stepped}
use Rattle.step_core.specs.machine.Storage.{Storage}
use Rattle.step_core.specs.machine.Step.{actor_after, Configuration, Outcome, first_configuration, load_growth, load, after_segment, begin_at, after_place, goes_on, ends, mend_at, look_at, outcome_of, with_slot, with_segment, step_of, IsStepped}
use Rattle.step_core.specs.machine.Bounds.{Wants, IsWithin, IsInLimit}
use Rattle.step_core.specs.machine.Installed.{IsReady, HasPassed, HasSegments}
use Rattle.step_core.specs.machine.Play.{Play, with_step, after_items}
use Rattle.step_core.proofs.atomic_steps.Keys.{same_key}
use Rattle.step_core.proofs.atomic_steps.KeptLayout.{row_keeps_layout}
use Rattle.step_core.proofs.atomic_steps.Cases.{first_scout, won_growth, growth_cases, at_least_cases, load_place_cases, exchange_cases, raise_cases, begin_cases, scout_cases, raise_wants, claiming_cases, segment_cases, place_cases, step_cases}
use Rattle.step_core.proofs.atomic_steps.Bounds.{within_at, step_in_limit}

-- if an actor goes on, it has passed the segments of its phase
abbrev PassesOn : Storage → Next → Type 0
PassesOn m (Goes phase) = HasPassed m phase
PassesOn m (Ends answer) = Unit {0}

-- a step keeps installed segments, those of the claimed places, and what its actor has passed
record Passes (m : Storage) (outcome : Outcome) : Type 0 where
  pub stays : (q : ℕ) → IsReady m q → IsReady outcome.storage q
  pub ready : (q : ℕ) → q < outcome.storage.size → IsReady outcome.storage q
  pub next : PassesOn outcome.storage outcome.next

-- what others have passed stays
passed_stays : (m m' : Storage) (phase : Phase) → m'.layout ≡ m.layout → ((q : ℕ) → IsReady m q → IsReady m' q)
    → HasPassed m phase → HasPassed m' phase
passed_stays m m' Load same stays passed = tt
passed_stays m m' (Scout from n k) same stays passed =
    λ q before inside. stays q (passed q (subst (λ f. q < segment_start f k) same before) inside)
passed_stays m m' (Put from n k) same stays passed =
    λ q before inside. stays q (passed q (subst (λ f. q < segment_start f k) same before) inside)
passed_stays m m' (Exchange from n) same stays passed = λ q inside. stays q (passed q inside)
passed_stays m m' (Raise to) same stays passed = λ q inside. stays q (passed q inside)
passed_stays m m' (Begin from n place) same stays passed = λ q inside. stays q (passed q inside)
passed_stays m m' (Fill from n place) same stays passed = λ q inside. stays q (passed q inside)
passed_stays m m' (Spoil from n place) same stays passed = λ q inside. stays q (passed q inside)
passed_stays m m' (Mend place) same stays passed = stays place passed
passed_stays m m' (FillMended place) same stays passed = stays place passed
passed_stays m m' (Look place) same stays passed = tt

-- ---- Places that are ready

-- an installed segment stays when another is
ready_kept : (m : Storage) (k place : ℕ) → IsReady m place → IsReady (with_segment m k) place
ready_kept m k place ready =
    set.contains-insert nat_cmp_total m.installed k (segment_of m.layout place)
    ∙ ap (λ b. eq_by_cmp nat_cmp (segment_of m.layout place) k || b) ready
    ∙ or-true (eq_by_cmp nat_cmp (segment_of m.layout place) k)

-- a segment that was just installed is there
installed_now : (m : Storage) (k : ℕ) → set.contains (with_segment m k).installed k ≡ true
installed_now m k =
    set.contains-insert nat_cmp_total m.installed k k ∙ ap (λ b. b || set.contains m.installed k) (same_key k)

-- if a segment and all before it are ready, so are all places before its end
ready_through : (m : Storage) (k bound : ℕ) → ((q : ℕ) → q < segment_start m.layout k → q < bound → IsReady m q)
    → set.contains m.installed k ≡ true → (q : ℕ) → q < segment_end m.layout k → q < bound → IsReady m q
ready_through m k bound before there q ends inside =
    elim (cases_lt q (segment_start m.layout k)) [
      | inl earlier ↦ before q earlier inside
      | inr later ↦ subst (λ j. set.contains m.installed j ≡ true) (is_segment_of m.layout k q (record { from = later; before = ends })) there
    ]

-- what follows an installed segment has passed it
segment_passed : (m : Storage) (command : Command) (from n k : ℕ) → Wants command from n
    → ((q : ℕ) → q < segment_end m.layout k → q < from + n → IsReady m q)
    → HasPassed m (after_segment m.layout command from n k)
segment_passed m command from n k wants ready =
    segment_cases (HasPassed m) command from n m.layout k
    (λ _ q before inside. ready q (subst (λ e. q < e) (segment_start-next m.layout k) before) inside)
    (λ reaches. claiming_cases (HasPassed m) command from n
    (λ _ q inside. ready q (omega arith) inside)
    (λ to raises q inside. let ends_at = raise_wants command from n to raises wants in ready q (omega arith) (omega arith)))

-- ---- Rows

module _ (m : Storage) (ready : (q : ℕ) → q < m.size → IsReady m q) where
  -- nothing that is storage changes
  goes_passes : (phase : Phase) → HasPassed m phase → Passes m (goes_on m phase)
  goes_passes phase passed = record { stays = λ q r. r; ready = ready; next = passed }

  -- so where the call ends
  ends_passes : (event : Event) (reply : Reply) (answer : Answer) → Passes m (ends m event reply answer)
  ends_passes event reply answer = record { stays = λ q r. r; ready = ready; next = tt }

  -- at the first segment of the places from the size on, all places before it are claimed
  first_scout_passes : (n : ℕ) → Passes m (first_scout m n)
  first_scout_passes n =
      goes_passes (Scout m.size n (segment_of m.layout m.size))
      (λ q before inside. ready q (let has = segment_of_has m.layout m.size in let low : segment_start m.layout (segment_of m.layout m.size) ≤ m.size = has.from in omega arith))

  -- what a claim wins, it has passed
  won_passes : (event : Event) (n : ℕ) → ((q : ℕ) → q < m.size + n → IsReady m q) → Passes m (won_growth m event n)
  won_passes event n passed = record { stays = λ q r. r; ready = passed; next = passed }

  -- Load
  growth_passes : (limit actor n : ℕ) → Passes m (load_growth limit m actor n)
  growth_passes limit actor n =
      growth_cases (Passes m) m actor limit n
      (λ _. ends_passes _ _ _) (λ _ _. first_scout_passes n) (λ _. ends_passes _ _ _)

  load_passes : (limit actor : ℕ) (command : Command) → Passes m (load limit m actor command)
  load_passes limit actor (commands.Push value) = growth_passes limit actor 1
  load_passes limit actor (commands.Grow n value) = growth_passes limit actor n
  load_passes limit actor (commands.AtLeast to value) =
      at_least_cases (Passes m) m actor limit to
      (λ _. ends_passes _ _ _) (λ _ _. first_scout_passes (to - m.size)) (λ _ _. ends_passes _ _ _)
  load_passes limit actor (commands.Fail n value at) = growth_passes limit actor n
  load_passes limit actor (commands.Mend place value) =
      load_place_cases (Passes m) m actor place (Mend place) (λ inside. goes_passes (Mend place) (ready place inside)) (λ _. ends_passes _ _ _)
  load_passes limit actor (commands.Read place) =
      load_place_cases (Passes m) m actor place (Look place) (λ _. goes_passes (Look place) tt) (λ _. ends_passes _ _ _)
  load_passes limit actor commands.Size = ends_passes _ _ _

  -- Begin
  begin_passes : (actor from n place : ℕ) (command : Command) (slot : Option CellSlot)
      → HasPassed m (Begin from n place) → Passes m (begin_at m actor command from n place slot)
  begin_passes actor from n place command None passed =
      begin_cases (Passes m) m actor command from n place
      (λ _. record { stays = λ q r. r; ready = ready; next = passed })
      (λ _. record { stays = λ q r. r; ready = ready; next = passed })
  begin_passes actor from n place command (Some slot) passed = goes_passes (Begin from n place) passed

  -- Fill and Spoil: a slot is set, and after a place of the run come its other places
  set_passes : (command : Command) (from n place : ℕ) (slot : CellSlot) (event : Event × Reply)
      → ((q : ℕ) → q < from + n → IsReady m q)
      → Passes m (record { storage = with_slot m place slot; event = Some event; next = after_place command from n place })
  set_passes command from n place slot event passed = record {
    stays = λ q r. r;
    ready = ready;
    next = place_cases (PassesOn m) command from n place (λ _. passed) (λ _. tt);
  }

  -- Look
  look_passes : (actor place : ℕ) (slot : Option CellSlot) → Passes m (look_at m actor place slot)
  look_passes actor place None = ends_passes _ _ _
  look_passes actor place (Some (Busy owner)) = ends_passes _ _ _
  look_passes actor place (Some (Filled value)) = ends_passes _ _ _
  look_passes actor place (Some Broken) = ends_passes _ _ _

  -- Mend
  mend_passes : (actor place : ℕ) (slot : Option CellSlot) → IsReady m place → Passes m (mend_at m actor place slot)
  mend_passes actor place None passed = ends_passes _ _ _
  mend_passes actor place (Some (Busy owner)) passed = ends_passes _ _ _
  mend_passes actor place (Some (Filled value)) passed = ends_passes _ _ _
  mend_passes actor place (Some Broken) passed = record { stays = λ q r. r; ready = ready; next = passed }

  -- each row of the step table
  outcome_passes : (limit actor : ℕ) (command : Command) (memory : Bool) (phase : Phase) → IsWithin m.layout limit command phase
      → HasPassed m phase → Passes m (outcome_of limit m actor command memory phase)
  outcome_passes limit actor command memory Load within passed = load_passes limit actor command
  outcome_passes limit actor command memory (Scout from n k) (some, room, number, wants) passed =
      scout_cases (Passes m) m command from n k
      (λ there. goes_passes (after_segment m.layout command from n k) (segment_passed m command from n k wants (ready_through m k (from + n) passed there)))
      (goes_passes (Put from n k) passed)
  outcome_passes limit actor command true (Put from n k) (some, room, number, wants) passed = record {
    stays = λ q r. ready_kept m k q r;
    ready = λ q inside. ready_kept m k q (ready q inside);
    next = segment_passed (with_segment m k) command from n k wants
        (ready_through (with_segment m k) k (from + n) (λ q a b. ready_kept m k q (passed q a b)) (installed_now m k));
  }
  outcome_passes limit actor command false (Put from n k) within passed = ends_passes _ _ _
  outcome_passes limit actor command memory (Exchange from n) within passed =
      exchange_cases (Passes m) m actor limit from n
      (λ same. won_passes _ n (λ q inside. passed q (omega arith)))
      (λ _. first_scout_passes n) (λ _. ends_passes _ _ _)
  outcome_passes limit actor command memory (Raise to) within passed =
      raise_cases (Passes m) m actor to (λ _. ends_passes _ _ _) (λ more. won_passes _ (to - m.size) (λ q inside. passed q (omega arith)))
  outcome_passes limit actor command memory (Begin from n place) within passed =
      begin_passes actor from n place command (map.get m.slots place) passed
  outcome_passes limit actor command memory (Fill from n place) within passed = set_passes command from n place _ _ passed
  outcome_passes limit actor command memory (Spoil from n place) within passed = set_passes command from n place _ _ passed
  outcome_passes limit actor command memory (Mend place) within passed = mend_passes actor place (map.get m.slots place) passed
  outcome_passes limit actor command memory (FillMended place) within passed = record { stays = λ q r. r; ready = ready; next = tt }
  outcome_passes limit actor command memory (Look place) within passed = look_passes actor place (map.get m.slots place)

-- ---- Whole configurations

-- before the first step nothing is claimed, and nobody has passed a segment
pub first_has_segments : (f limit : ℕ) (programs : List (List Command))
    → HasSegments (first_configuration f limit programs)
first_has_segments f limit programs = (
  λ q inside. absurd (omega arith),
  All-map (λ (state : Actor). HasPassed (first_configuration f limit programs).storage state.phase) _ programs (λ k d inside. tt),
)

-- at Load of its next call an actor has passed nothing
after_has_passed : (m : Storage) (state : Actor) (next : Next) → PassesOn m next
    → HasPassed m (actor_after state next).phase
after_has_passed m state (Goes phase) passed = passed
after_has_passed m state (Ends answer) passed = tt

-- a step keeps the segments
step_has_segments : (c : Configuration) (actor : ℕ) (memory : Bool) → IsInLimit c → HasSegments c
    → HasSegments (step_of c actor memory).to
step_has_segments c actor memory in_limit has =
    step_cases (λ step. HasSegments step.to) c actor memory has
    (λ state command there is.
    let outcome = outcome_of c.limit c.storage actor command memory state.phase in
    let passed : HasPassed c.storage state.phase = at_place (λ (a : Actor). HasPassed c.storage a.phase) c.actors actor state has.1 there in
    let same = row_keeps_layout c.limit c.storage actor command memory state.phase in
    let passes = outcome_passes c.storage has.0 c.limit actor command memory state.phase (within_at c in_limit actor state command there is) passed in (
      passes.ready,
      All-set (λ (a : Actor). HasPassed outcome.storage a.phase) c.actors actor (actor_after state outcome.next) (after_has_passed outcome.storage state outcome.next passes.next)
          (All-weaker (λ (a : Actor). HasPassed c.storage a.phase) (λ (a : Actor). HasPassed outcome.storage a.phase) (λ a was. passed_stays c.storage outcome.storage a.phase same passes.stays was) c.actors has.1),
    ))

-- so do items
pub items_have_segments : (p : Play) (items : List Item) → IsInLimit p.at → HasSegments p.at
    → HasSegments (after_items p items).at
items_have_segments p [] in_limit has = has
items_have_segments p (item ∷ items) in_limit has =
    items_have_segments (with_step p (step_of p.at item.actor item.memory)) items
    (step_in_limit p.at in_limit item.actor item.memory) (step_has_segments p.at item.actor item.memory in_limit has)

-- so does what a step that succeeded, or changed nothing, leaves
pub left_has_segments : {S E : Type 0} (r : Result S E) (of : S → Stepped) (c new : Configuration) (actor : ℕ) (memory : Bool)
    → IsInLimit c → HasSegments c → IfOk r (λ step. IsStepped (step_of c actor memory) new (of step))
    → OnErr r ((new.storage ≡ c.storage) × (new.actors ≡ c.actors)) → HasSegments new
left_has_segments (Ok step) of c new actor memory in_limit has gives kept =
    subst HasSegments (sym gives.0) (step_has_segments c actor memory in_limit has)
left_has_segments (Err e) of c new actor memory in_limit has gives kept = (
  subst (λ (m : Storage). (q : ℕ) → q < m.size → IsReady m q) (sym kept.0) has.0,
  subst (λ (m : Storage). All (λ (a : Actor). HasPassed m a.phase) new.actors) (sym kept.0) (subst (All (λ (a : Actor). HasPassed c.storage a.phase)) (sym kept.1) has.1),
)

-- so does a new machine
pub new_has_segments : (f limit : ℕ) (m : Storage) (actors : List Actor) (programs : List (List Command))
    → m ≡ (first_configuration f limit programs).storage → actors ≡ (first_configuration f limit programs).actors
    → HasSegments (record { limit = limit; storage = m; actors = actors })
new_has_segments f limit m actors programs storage_is actors_are = (
  (λ q inside. absurd (let same : m.size ≡ 0 = ap (λ (x : Storage). x.size) storage_is in omega arith)),
  subst (λ (x : Storage). All (λ (a : Actor). HasPassed x a.phase) actors) (sym storage_is) (subst (All (λ (a : Actor). HasPassed (first_configuration f limit programs).storage a.phase)) (sym actors_are) (first_has_segments f limit programs).1),
)
