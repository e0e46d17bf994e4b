-- The rows of the step table, one after another: each keeps what holds.
use Rattle.std.proofs.Common.{◌≡◌, ◌≢◌, ℕ, ◌+◌, ◌-◌, ◌<◌, ◌≤◌, ◌⊎◌, ◌==◌, Bool, true, false, if◌then◌else◌, List, [], ◌∷◌, ◌++◌, Option, Some, None, refl, ap, sym, ◌∙◌, subst, arith, inl, inr}
use Rattle.std.proofs.Math.Nat.{le_refl}
use Rattle.std.proofs.lemmas.Bool.{cases_lt}
use Rattle.std.proofs.lemmas.Bool.Decides.{nat_tests, eqb_tells}
use Rattle.std.proofs.lemmas.List.{append-nil}
use Rattle.std.proofs.lemmas.Option.{none-some}
use Rattle.std.specs.Ordering.{nat_cmp}
use Rattle.std.specs.Option.{option_to_list}
use Rattle.std.specs.FinMap as map
use Rattle.std.specs.FinSet as set
use Rattle.seg_core.specs.Segment.{segment_of}
use Rattle.book_core.specs.declared.events.Event.{Event}
use Rattle.book_core.specs.declared.events.Event.TheVariants as events
use Rattle.book_core.specs.declared.events.Reply.{Reply}
use Rattle.book_core.specs.declared.events.Reply.TheVariants as replies
use Rattle.book_core.specs.declared.commands.Command.{Command}
use Rattle.book_core.specs.declared.commands.Command.TheVariants as commands
use Rattle.book_core.specs.declared.commands.Answer.{Answer}
use Rattle.book_core.specs.declared.commands.Answer.TheVariants as answers
use Rattle.book_core.specs.History.{OwnedRun, runs_of, owner_of, writes_of}
use Rattle.book_core.proofs.Runs.{owner_new, none_past, has_place-true}
use Rattle.step_core.specs.declared.machine.phase.CellSlot.{CellSlot}
use Rattle.step_core.specs.declared.machine.phase.CellSlot.TheVariants.{Busy, Filled, Broken}
use Rattle.step_core.specs.declared.machine.phase.Phase.{Phase}
use Rattle.step_core.specs.declared.machine.phase.Phase.TheVariants.{Load, Scout, Put, Exchange, Raise, Begin, Fill, Spoil, Mend, FillMended, Look}
use Rattle.step_core.specs.declared.machine.phase.Next.{Next}
use Rattle.step_core.specs.declared.machine.phase.Next.TheVariants.{Goes, Ends}
use Rattle.step_core.specs.declared.machine.phase.Actor.{Actor}
use Rattle.step_core.specs.machine.Storage.{Storage}
use Rattle.step_core.specs.machine.Step.{goes_on, ends, with_size, with_segment, with_slot, load_growth, load, after_segment, put, begin_at, value_of, answer_of_run, after_place, mend_at, fill_mended, look_at, outcome_of}
use Rattle.step_core.specs.machine.Bounds.{IsWithin}
use Rattle.step_core.specs.machine.Tiling.{IsUnfinished, IsUnfinishedFor, IsWonOrMended}
use Rattle.step_core.proofs.atomic_steps.Cases.{claim_of_nothing, first_scout, refusal, enough, won_growth, growth_cases, at_least_cases, load_place_cases, exchange_cases, raise_cases, begin_cases, scout_cases, claiming_cases, segment_cases, place_cases}
use Rattle.step_core.proofs.atomic_steps.Tiling.Invariant.{get_set_same, get_set_other, empty_past, IsOpen, BrokenByOwner, MendedBy, FilledByMender, Settlement, Won, Knows, Effect}
use Rattle.step_core.proofs.atomic_steps.Tiling.Effects.{Covered, next_run, with_installed, quiet_effect, claim_effect, begin_effect, write_effect}
use Rattle.step_core.proofs.atomic_steps.Tiling.Steps.{phase_after, Stands, Kept, kept_by, told_effect}

-- before a call has claimed, nothing is known of its places
nothing_known : (m : Storage) (runs : List OwnedRun) (writes : ℕ → List Event) (actor : ℕ) (command : Command)
    (from n k : ℕ)
    → Knows m runs writes actor (after_segment m.layout command from n k)
nothing_known m runs writes actor command from n k =
    segment_cases (Knows m runs writes actor) command from n m.layout k (λ _. tt)
    (λ _. claiming_cases (Knows m runs writes actor) command from n (λ _. tt) (λ _ _. tt))

-- what one event does at its place, and at any other
written_here : (place : ℕ) (event : Event) → (if place == place then event ∷ [] else []) ++ [] ≡ event ∷ []
written_here place event = ap (λ b. (if b then event ∷ [] else []) ++ []) (let e : (place == place) ≡ true = grind (arith, nat_tests) in e)

written_elsewhere : (place : ℕ) (event : Event) (q : ℕ) → q ≢ place
    → (if place == q then event ∷ [] else []) ++ [] ≡ []
written_elsewhere place event q apart = ap (λ b. (if b then event ∷ [] else []) ++ []) (let e : (place == q) ≡ false = grind (arith, nat_tests) in e)

-- what an actor knows in a phase, whatever was claimed and done
abbrev KnownAnyway : Storage → ℕ → Phase → Type 0
KnownAnyway m actor phase = (runs : List OwnedRun) (writes : ℕ → List Event) → Knows m runs writes actor phase

-- ---- Rows of an actor that owes nothing

module _ {m : Storage} {actors : List Actor} {runs : List OwnedRun} {writes : ℕ → List Event} {actor : ℕ} {state : Actor} {phase : Phase} (s : Stands m actors runs writes actor state phase) (free : (q : ℕ) → IsWonOrMended phase q → ⊥) where
  -- nothing is claimed, begun or finished
  quiet : (segments : set.FinSet nat_cmp) (event : Option (Event × Reply)) (next : Next)
      → runs_of (option_to_list event) ≡ [] → ((q : ℕ) → writes_of q (option_to_list event) ≡ [])
      → KnownAnyway (with_installed m segments) actor (phase_after next)
      → Kept actors runs writes actor state (record { storage = with_installed m segments; event = event; next = next })
  quiet segments event next none nothing knows =
      let runs_are : runs ≡ runs ++ runs_of (option_to_list event) = sym (ap (λ rs. runs ++ rs) none ∙ append-nil runs) in
      kept_by s (record { storage = with_installed m segments; event = event; next = next })
      (told_effect (runs_of (option_to_list event)) (λ q. writes_of q (option_to_list event)) runs_are nothing (quiet_effect s.holds actor segments))
      (knows (runs ++ runs_of (option_to_list event)) (λ q. writes q ++ writes_of q (option_to_list event)))
      (λ q inside unfinished. inr (inside, refl, λ its _. free q its))

  -- a call that ends
  ended : (event : Event) (reply : Reply) (answer : Answer) → runs_of ((event, reply) ∷ []) ≡ []
      → ((q : ℕ) → writes_of q ((event, reply) ∷ []) ≡ [])
      → Kept actors runs writes actor state (ends m event reply answer)
  ended event reply answer none nothing = quiet m.installed (Some (event, reply)) (Ends answer) none nothing (λ _ _. tt)

  -- a call that goes on
  gone_on : (next : Phase) → KnownAnyway m actor next → Kept actors runs writes actor state (goes_on m next)
  gone_on next knows = quiet m.installed None (Goes next) refl (λ q. refl) knows

  -- it goes on to the first segment of places that have room
  first_scouted : (n : ℕ) → Kept actors runs writes actor state (first_scout m n)
  first_scouted n = gone_on (Scout m.size n (segment_of m.layout m.size)) (λ _ _. tt)

  refused : (n : ℕ) → Kept actors runs writes actor state (refusal m actor n)
  refused n = ended (events.RefusedFull actor n) (replies.Full m.size) (answers.Full m.size) refl (λ q. refl)

  had_enough : (to : ℕ) → Kept actors runs writes actor state (enough m actor to)
  had_enough to = ended (events.Raise actor to) (replies.Enough m.size) (answers.Enough m.size) refl (λ q. refl)

  -- a growth of nothing has a run without places
  nothing_claimed : Kept actors runs writes actor state (claim_of_nothing m actor)
  nothing_claimed =
      let all : m.size + 0 ≡ m.size = omega arith in
      kept_by s (claim_of_nothing m actor)
      (told_effect (next_run m actor 0 ∷ []) (λ q. []) refl (λ q. refl)
      (subst (λ size. Effect actor m (with_size m size) runs (runs ++ next_run m actor 0 ∷ []) writes writes) all (claim_effect s.holds actor 0)))
      tt
      (λ q inside unfinished. inr (inside, refl, λ its _. free q its))

  growth_loaded : (limit n : ℕ) → Kept actors runs writes actor state (load_growth limit m actor n)
  growth_loaded limit n =
      growth_cases (Kept actors runs writes actor state) m actor limit n
      (λ _. nothing_claimed) (λ _ _. first_scouted n) (λ _. refused n)

  loaded : (limit : ℕ) (command : Command) → Kept actors runs writes actor state (load limit m actor command)
  loaded limit (commands.Push value) = growth_loaded limit 1
  loaded limit (commands.Grow n value) = growth_loaded limit n
  loaded limit (commands.AtLeast to value) =
      at_least_cases (Kept actors runs writes actor state) m actor limit to
      (λ _. had_enough to) (λ _ _. first_scouted (to - m.size)) (λ _ _. refused (to - m.size))
  loaded limit (commands.Fail n value at) = growth_loaded limit n
  loaded limit (commands.Mend place value) =
      load_place_cases (Kept actors runs writes actor state) m actor place (Mend place)
      (λ inside. gone_on (Mend place) (λ _ _. inside))
      (λ _. ended (events.Look actor place) (replies.OutOfRange m.size) (answers.OutOfRange m.size) refl (λ q. refl))
  loaded limit (commands.Read place) =
      load_place_cases (Kept actors runs writes actor state) m actor place (Look place)
      (λ inside. gone_on (Look place) (λ _ _. inside))
      (λ _. ended (events.Look actor place) (replies.OutOfRange m.size) (answers.OutOfRange m.size) refl (λ q. refl))
  loaded limit commands.Size = ended (events.Size actor) (replies.Size m.size) (answers.Size m.size) refl (λ q. refl)

  put_in : (command : Command) (memory : Bool) (from n k : ℕ)
      → Kept actors runs writes actor state (put m actor command memory from n k)
  put_in command true from n k =
      quiet (set.insert m.installed k) None (Goes (after_segment m.layout command from n k)) refl (λ q. refl)
      (λ rs ws. nothing_known (with_segment m k) rs ws actor command from n k)
  put_in command false from n k = ended (events.RefusedMemory actor) replies.NoMemory answers.NoMemory refl (λ q. refl)

  -- a claim of some places
  claims : (n : ℕ) (event : Event) → 0 < n → runs_of ((event, replies.Run m.size n) ∷ []) ≡ next_run m actor n ∷ []
      → ((q : ℕ) → writes_of q ((event, replies.Run m.size n) ∷ []) ≡ [])
      → Kept actors runs writes actor state (won_growth m event n)
  claims n event some run_is nothing =
      let told : List (Event × Reply) = (event, replies.Run m.size n) ∷ [] in
      let run = next_run m actor n in
      let runs_are : runs ++ run ∷ [] ≡ runs ++ runs_of told = ap (λ rs. runs ++ rs) (sym run_is) in
      let empty = empty_past m s.holds.taken in
      kept_by s (won_growth m event n)
      (told_effect (runs_of told) (λ q. writes_of q told) runs_are nothing (claim_effect s.holds actor n))
      (subst (λ rs. Knows (with_size m (m.size + n)) rs (λ q. writes q ++ writes_of q told) actor (Begin m.size n m.size)) runs_are (
        record {
          within = le_refl m.size;
          before = omega arith;
          claimed = le_refl (m.size + n);
          owned = λ q low high.
              owner_new runs (run ∷ []) q (none_past 0 m.size runs q s.holds.tile low)
              ∙ ap (λ b. if b then Some actor else None) (has_place-true run q low high);
          done = λ q low high. absurd (omega arith);
          ahead = λ q low high. empty q (omega arith);
        },
        empty m.size (le_refl m.size),
      ))
      (λ q inside unfinished. elim (cases_lt q m.size) [
        | inl before ↦ inr (before, refl, λ its _. free q its)
        | inr after ↦ inl ((after, inside), subst (IsUnfinishedFor actor) (sym (empty q after)) tt)
      ])

  looked : (place : ℕ) (slot : Option CellSlot) → Kept actors runs writes actor state (look_at m actor place slot)
  looked place None = ended (events.Look actor place) replies.Pending answers.Pending refl (λ q. refl)
  looked place (Some (Busy owner)) = ended (events.Look actor place) replies.Pending answers.Pending refl (λ q. refl)
  looked place (Some (Filled value)) = ended (events.Look actor place) (replies.Value value) (answers.Value value) refl (λ q. refl)
  looked place (Some Broken) = ended (events.Look actor place) replies.Broken answers.Broken refl (λ q. refl)

  -- a broken slot is taken
  mended : (place : ℕ) → place < m.size → map.get m.slots place ≡ Some Broken
      → Kept actors runs writes actor state (mend_at m actor place (Some Broken))
  mended place inside broken =
      let m' : Storage = with_slot m place (Busy actor) in
      let told : List (Event × Reply) = (events.Mend actor place, replies.Done) ∷ [] in
      let was : BrokenByOwner runs (writes place) place = subst (Settlement runs (writes place) place) broken (s.holds.settled place) in
      let by : MendedBy runs (writes place ++ events.Mend actor place ∷ []) place actor =
      record { owner = was.owner; owns = was.owns; is = ap (λ xs. xs ++ events.Mend actor place ∷ []) was.is }
      in
      let gains : writes_of place told ≡ events.Mend actor place ∷ [] = written_here place (events.Mend actor place) in
      let effect = write_effect s.holds actor place (Busy actor) (events.Mend actor place) (λ q. writes_of q told) inside (inr broken) (λ other its_own. sym its_own) (inr by) gains (λ q apart. written_elsewhere place (events.Mend actor place) q apart) in
      let runs_are : runs ≡ runs ++ [] = sym (append-nil runs) in
      kept_by s (mend_at m actor place (Some Broken))
      (subst (λ rs. Effect actor m m' runs rs writes (λ q. writes q ++ writes_of q told)) runs_are effect)
      (subst (λ rs. Knows m' rs (λ q. writes q ++ writes_of q told) actor (FillMended place)) runs_are (
        inside,
        get_set_same m place (Busy actor),
        subst (λ xs. MendedBy runs (writes place ++ xs) place actor) (sym gains) by,
      ))
      (λ q below unfinished. elim (eqb_tells q place) [
        | inl same ↦ inl (same.1, subst (λ p. IsUnfinishedFor actor (map.get m'.slots p)) (sym same.1) (subst (IsUnfinishedFor actor) (sym (get_set_same m place (Busy actor))) refl))
        | inr apart ↦ inr (below, get_set_other m place (Busy actor) q apart.1, λ its _. free q its)
      ])

  mend_kept : (place : ℕ) (slot : Option CellSlot) → place < m.size → map.get m.slots place ≡ slot
      → Kept actors runs writes actor state (mend_at m actor place slot)
  mend_kept place None inside is = looked place None
  mend_kept place (Some (Busy owner)) inside is = looked place (Some (Busy owner))
  mend_kept place (Some (Filled value)) inside is = looked place (Some (Filled value))
  mend_kept place (Some Broken) inside is = mended place inside is

-- ---- Rows of an actor with a run

-- the run has the place
abbrev InRun : ℕ → ℕ → ℕ → Type 0
InRun from n q = (from ≤ q) × (q < from + n)

-- a run has a place, or it has it not
in_run : (from n q : ℕ) → InRun from n q ⊎ (InRun from n q → ⊥)
in_run from n q =
    elim (cases_lt q from) [
      | inl below ↦ inr (λ (low, high). omega arith)
      | inr low ↦ elim (cases_lt q (from + n)) [ inl high ↦ inl (low, high) | inr past ↦ inr (λ (_, high). omega arith) ]
    ]

-- a slot is unfinished for an actor, or it is not
unfinished_for : (actor : ℕ) (slot : Option CellSlot) → IsUnfinishedFor actor slot ⊎ (IsUnfinishedFor actor slot → ⊥)
unfinished_for actor None = inl tt
unfinished_for actor (Some (Busy other)) =
    elim (eqb_tells other actor) [ inl same ↦ inl same.1 | inr apart ↦ inr apart.1 ]
unfinished_for actor (Some (Filled value)) = inr (λ x. x)
unfinished_for actor (Some Broken) = inr (λ x. x)

-- what a taken slot leaves of a won run
begun : (m : Storage) (runs : List OwnedRun) (actor from n place : ℕ) → Won m runs actor from n place
    → Won (with_slot m place (Busy actor)) runs actor from n place
begun m runs actor from n place won = record {
  within = won.within;
  before = won.before;
  claimed = won.claimed;
  owned = won.owned;
  done = λ q low high unfinished. won.done q low high (subst (IsUnfinishedFor actor) (get_set_other m place (Busy actor) q (λ same. omega arith)) unfinished);
  ahead = λ q low high. get_set_other m place (Busy actor) q (λ same. omega arith) ∙ won.ahead q low high;
}

-- what a finished slot leaves of a won run that has one more place
finished_one : (m : Storage) (runs : List OwnedRun) (writes : ℕ → List Event) (actor from n place : ℕ) (slot : CellSlot)
    → (IsUnfinishedFor actor (Some slot) → ⊥) → Won m runs actor from n place → place + 1 < from + n
    → Knows (with_slot m place slot) runs writes actor (Begin from n (place + 1))
finished_one m runs writes actor from n place slot final won more = (
  record {
    within = (let a = won.within in omega arith);
    before = more;
    claimed = won.claimed;
    owned = won.owned;
    done = λ q low high unfinished. elim (eqb_tells q place) [
      | inl same ↦ final (subst (IsUnfinishedFor actor) (get_set_same m place slot) (subst (λ p. IsUnfinishedFor actor (map.get (with_slot m place slot).slots p)) same.1 unfinished))
      | inr apart ↦ won.done q low (let ne : q ≢ place = apart.1 in omega arith) (subst (IsUnfinishedFor actor) (get_set_other m place slot q apart.1) unfinished)
    ];
    ahead = λ q low high. get_set_other m place slot q (λ same. omega arith) ∙ won.ahead q (omega arith) high;
  },
  get_set_other m place slot (place + 1) (λ same. omega arith) ∙ won.ahead (place + 1) (omega arith) more,
)

module _ {m : Storage} {actors : List Actor} {runs : List OwnedRun} {writes : ℕ → List Event} {actor : ℕ} {state : Actor} {phase : Phase} (s : Stands m actors runs writes actor state phase) (command : Command) (from n place : ℕ) (of_run : (q : ℕ) → IsWonOrMended phase q → InRun from n q) (won : Won m runs actor from n place) where
  -- the owner's place is claimed
  inside : place < m.size
  inside = (let a = won.before in let b = won.claimed in omega arith)

  -- the place is the actor's own
  ours : owner_of runs place ≡ Some actor
  ours = won.owned place won.within won.before

  -- a different place is covered as it was, if the actor goes on in its run
  elsewhere : (slot : CellSlot) (next : Phase) → ((q : ℕ) → InRun from n q → IsWonOrMended next q) → (q : ℕ) → q ≢ place
      → q < m.size → Covered actor m (with_slot m place slot) phase next q
  elsewhere slot next stays q apart below =
      let same = get_set_other m place slot q apart in
      elim (in_run from n q) [
        | inl mine ↦ elim (unfinished_for actor (map.get m.slots q)) [
          | inl its_own ↦ inl (stays q mine, subst (IsUnfinishedFor actor) (sym same) its_own)
          | inr closed ↦ inr (below, same, λ _ its_own. closed its_own)
        ]
        | inr outside ↦ inr (below, same, λ its _. outside (of_run q its))
      ]

  -- the owner takes the empty slot of its place, and goes on in its run
  taken : (next : Phase) → map.get m.slots place ≡ None
      → Knows (with_slot m place (Busy actor)) runs (λ q. writes q ++ []) actor next
      → ((q : ℕ) → InRun from n q → IsWonOrMended next q)
      → Kept actors runs writes actor state (goes_on (with_slot m place (Busy actor)) next)
  taken next empty knows stays =
      let m' : Storage = with_slot m place (Busy actor) in
      let runs_are : runs ≡ runs ++ [] = sym (append-nil runs) in
      kept_by s (goes_on m' next)
      (told_effect [] (λ q. []) runs_are (λ q. refl) (begin_effect s.holds actor place inside ours empty))
      (subst (λ rs. Knows m' rs (λ q. writes q ++ []) actor next) runs_are knows)
      (λ q below unfinished. elim (eqb_tells q place) [
        | inl same ↦ inl (
          subst (IsWonOrMended next) (sym same.1) (stays place (won.within, won.before)),
          subst (λ p. IsUnfinishedFor actor (map.get m'.slots p)) (sym same.1) (subst (IsUnfinishedFor actor) (sym (get_set_same m place (Busy actor))) refl),
        )
        | inr apart ↦ elsewhere (Busy actor) next stays q apart.1 below
      ])

  began : (slot : Option CellSlot) → slot ≡ map.get m.slots place → map.get m.slots place ≡ None
      → Kept actors runs writes actor state (begin_at m actor command from n place slot)
  began (Some slot) is empty = absurd (none-some slot (sym empty ∙ sym is))
  began None is empty =
      let nothing : writes place ≡ [] = subst (Settlement runs (writes place) place) empty (s.holds.settled place) in
      let knows : Knows (with_slot m place (Busy actor)) runs (λ q. writes q ++ []) actor (Fill from n place) =
      (begun m runs actor from n place won, get_set_same m place (Busy actor), ap (λ xs. xs ++ []) nothing)
      in
      begin_cases (Kept actors runs writes actor state) m actor command from n place
      (λ _. taken (Spoil from n place) empty knows (λ q mine. mine)) (λ _. taken (Fill from n place) empty knows (λ q mine. mine))

  -- the owner finishes its place: an event of that place by that actor
  finished : (slot : CellSlot) (event : Event) → (IsUnfinished (Some slot) → ⊥)
      → ((other : ℕ) → IsOpen runs other place (Some slot) → ⊥)
      → (IsUnfinishedFor actor (Some slot) → ⊥)
      → map.get m.slots place ≡ Some (Busy actor) → writes place ≡ [] → runs_of ((event, replies.Done) ∷ []) ≡ []
      → (owner_of runs place ≡ Some actor → Settlement runs (event ∷ []) place (Some slot))
      → writes_of place ((event, replies.Done) ∷ []) ≡ event ∷ []
      → ((q : ℕ) → q ≢ place → writes_of q ((event, replies.Done) ∷ []) ≡ [])
      → Kept actors runs writes actor state (record { storage = with_slot m place slot; event = Some (event, replies.Done); next = after_place command from n place })
  finished slot event final closed done busy nothing none settles gained others =
      let m' : Storage = with_slot m place slot in
      let told : List (Event × Reply) = (event, replies.Done) ∷ [] in
      let writes' : ℕ → List Event = λ q. writes q ++ writes_of q told in
      let runs_are : runs ≡ runs ++ runs_of told = sym (ap (λ rs. runs ++ rs) none ∙ append-nil runs) in
      let here : Settlement runs (writes place ++ event ∷ []) place (Some slot) =
      subst (λ xs. Settlement runs (xs ++ event ∷ []) place (Some slot)) (sym nothing) (settles ours)
      in
      let effect : Effect actor m m' runs (runs ++ runs_of told) writes writes' =
      subst (λ rs. Effect actor m m' runs rs writes writes') runs_are
      (write_effect s.holds actor place slot event (λ q. writes_of q told) inside
      (inl (subst (IsOpen runs actor place) (sym busy) refl)) (λ other its_own. absurd (closed other its_own)) here gained others)
      in
      let gone : (q : ℕ) → q ≡ place → IsUnfinished (map.get m'.slots q) → ⊥ =
      λ q same unfinished. final (subst IsUnfinished (get_set_same m place slot) (subst (λ p. IsUnfinished (map.get m'.slots p)) same unfinished))
      in
      place_cases (λ next. Kept actors runs writes actor state (record { storage = m'; event = Some (event, replies.Done); next = next })) command from n place
      (λ more.
      kept_by s (record { storage = m'; event = Some (event, replies.Done); next = Goes (Begin from n (place + 1)) }) effect
      (subst (λ rs. Knows m' rs writes' actor (Begin from n (place + 1))) runs_are (finished_one m runs writes' actor from n place slot done won more))
      (λ q below unfinished. elim (eqb_tells q place) [
        | inl same ↦ absurd (gone q same.1 unfinished)
        | inr apart ↦ elsewhere slot (Begin from n (place + 1)) (λ p mine. mine) q apart.1 below
      ]))
      (λ last.
      kept_by s (record { storage = m'; event = Some (event, replies.Done); next = Ends (answer_of_run command from n) }) effect
      tt
      (λ q below unfinished. elim (eqb_tells q place) [
        | inl same ↦ absurd (gone q same.1 unfinished)
        | inr apart ↦ inr (
          below,
          get_set_other m place slot q apart.1,
          λ its its_own.
              let mine = of_run q its in
              let ne : q ≢ place = apart.1 in
              won.done q mine.0 (let high : q < from + n = mine.1 in omega arith) its_own,
        )
      ]))

-- ---- The row of a mended place

module _ {m : Storage} {actors : List Actor} {runs : List OwnedRun} {writes : ℕ → List Event} {actor : ℕ} {state : Actor} (command : Command) (place : ℕ) (s : Stands m actors runs writes actor state (FillMended place)) where
  -- who mended the place fills it
  mended_filled : place < m.size → map.get m.slots place ≡ Some (Busy actor) → MendedBy runs (writes place) place actor
      → Kept actors runs writes actor state (fill_mended m actor command place)
  mended_filled inside busy by =
      let value = value_of command in
      let m' : Storage = with_slot m place (Filled value) in
      let event : Event = events.Finish actor place value in
      let told : List (Event × Reply) = (event, replies.Done) ∷ [] in
      let here : FilledByMender runs (writes place ++ event ∷ []) place value =
      record { owner = by.owner; mender = actor; owns = by.owns; is = ap (λ xs. xs ++ event ∷ []) by.is }
      in
      let effect = write_effect s.holds actor place (Filled value) event (λ q. writes_of q told) inside (inl (subst (IsOpen runs actor place) (sym busy) refl)) (λ other its_own. absurd its_own) (inr here) (written_here place event) (λ q apart. written_elsewhere place event q apart) in
      let runs_are : runs ≡ runs ++ [] = sym (append-nil runs) in
      kept_by s (fill_mended m actor command place)
      (subst (λ rs. Effect actor m m' runs rs writes (λ q. writes q ++ writes_of q told)) runs_are effect)
      tt
      (λ q below unfinished. elim (eqb_tells q place) [
        | inl same ↦ absurd (subst IsUnfinished (get_set_same m place (Filled value)) (subst (λ p. IsUnfinished (map.get m'.slots p)) same.1 unfinished))
        | inr apart ↦ inr (below, get_set_other m place (Filled value) q apart.1, λ its _. apart.1 its)
      ])

-- ---- The table

module _ {m : Storage} {actors : List Actor} {runs : List OwnedRun} {writes : ℕ → List Event} {actor : ℕ} {state : Actor} (limit : ℕ) (command : Command) (memory : Bool) where
  pub row_kept : (phase : Phase) → IsWithin m.layout limit command phase → Knows m runs writes actor phase
      → Stands m actors runs writes actor state phase
      → Kept actors runs writes actor state (outcome_of limit m actor command memory phase)
  row_kept Load within knows s = loaded s (λ q x. x) limit command
  row_kept (Scout from n k) within knows s =
      scout_cases (Kept actors runs writes actor state) m command from n k
      (λ _. gone_on s (λ q x. x) (after_segment m.layout command from n k) (λ rs ws. nothing_known m rs ws actor command from n k))
      (gone_on s (λ q x. x) (Put from n k) (λ _ _. tt))
  row_kept (Put from n k) within knows s = put_in s (λ q x. x) command memory from n k
  row_kept (Exchange from n) (some, room, exchanges) knows s =
      exchange_cases (Kept actors runs writes actor state) m actor limit from n
      (λ _. claims s (λ q x. x) n (events.Claim actor n) some refl (λ q. refl))
      (λ _. first_scouted s (λ q x. x) n) (λ _. refused s (λ q x. x) n)
  row_kept (Raise to) within knows s =
      raise_cases (Kept actors runs writes actor state) m actor to
      (λ _. had_enough s (λ q x. x) to)
      (λ more. claims s (λ q x. x) (to - m.size) (events.Raise actor to) (omega arith) refl (λ q. refl))
  row_kept (Begin from n place) within (won, empty) s =
      began s command from n place (λ q x. x) won (map.get m.slots place) refl empty
  row_kept (Fill from n place) within (won, busy, nothing) s =
      finished s command from n place (λ q x. x) won (Filled (value_of command)) (events.Finish actor place (value_of command)) (λ x. x) (λ other x. x) (λ x. x) busy nothing refl
      (λ ours. inl (record { owner = actor; owns = ours; is = refl }))
      (written_here place (events.Finish actor place (value_of command))) (λ q apart. written_elsewhere place (events.Finish actor place (value_of command)) q apart)
  row_kept (Spoil from n place) within (won, busy, nothing) s =
      finished s command from n place (λ q x. x) won Broken (events.Break actor place) (λ x. x) (λ other x. x) (λ x. x) busy nothing refl
      (λ ours. record { owner = actor; owns = ours; is = refl })
      (written_here place (events.Break actor place)) (λ q apart. written_elsewhere place (events.Break actor place) q apart)
  row_kept (Mend place) within inside s = mend_kept s (λ q x. x) place (map.get m.slots place) inside refl
  row_kept (FillMended place) within (inside, busy, by) s = mended_filled command place s inside busy by
  row_kept (Look place) within knows s = looked s (λ q x. x) place (map.get m.slots place)
