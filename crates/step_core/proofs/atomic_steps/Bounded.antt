-- No call takes more than it may.
pub mod Phases
pub mod Rows
pub mod Growths
use Rattle.std.proofs.Common.{◌≡◌, ◌≢◌, ℕ, ◌+◌, ◌<◌, ◌≤◌, ◌==◌, Bool, true, false, is_some, if◌then◌else◌, List, [], ◌∷◌, ◌++◌, length, map, take, drop, All, Option, Some, None, IfSome, slice_get, slice_set, unwrap_or, zero, suc, refl, ap, sym, ◌∙◌, subst, arith, inl, inr}
use Rattle.std.proofs.Math.Nat.{le_refl}
use Rattle.std.proofs.Math.Seq.{take-length}
use Rattle.std.proofs.lemmas.List.{append-nil, length-append, map-append, take-append-le}
use Rattle.std.proofs.lemmas.List.Elements.{All-append, All-nil, All-cons, All-weaker}
use Rattle.std.proofs.lemmas.Bool.{ne_eqb}
use Rattle.std.proofs.lemmas.Bool.Decides.{eqb_tells}
use Rattle.std.proofs.lemmas.Option.{none-some, same_Some}
use Rattle.std.specs.Option.{option_to_list}
use Rattle.std.specs.FinMap as finite
use Rattle.book_core.specs.declared.events.Event.{Event}
use Rattle.book_core.specs.declared.events.Reply.{Reply}
use Rattle.book_core.specs.declared.commands.Command.{Command}
use Rattle.book_core.specs.declared.commands.Ended.{Ended}
use Rattle.book_core.specs.declared.commands.Item.{Item}
use Rattle.book_core.specs.History.{runs_of, writes_of}
use Rattle.book_core.proofs.Lists.{get_set, get_other, get_appended}
use Rattle.step_core.specs.declared.machine.phase.Phase.{Phase}
use Rattle.step_core.specs.declared.machine.phase.Phase.TheVariants.{Load, Begin}
use Rattle.step_core.specs.declared.machine.phase.Next.{Next}
use Rattle.step_core.specs.declared.machine.phase.Next.TheVariants.{Goes, Ends}
use Rattle.step_core.specs.declared.machine.phase.Actor.{Actor}
use Rattle.step_core.specs.machine.Storage.{Storage}
use Rattle.step_core.specs.machine.Step.{Configuration, Outcome, actor_after, ended_by, no_step, step_to, step_in, step_as, step_of, outcome_of, first_configuration}
use Rattle.step_core.specs.machine.Bounds.{IsInLimit}
use Rattle.step_core.specs.machine.Play.{Play, empty_play, with_step}
use Rattle.step_core.specs.machine.Work.{Count, CallWork, Counted, no_count, count_after, has_command, has_call, phase_in, phase_of, phase_at, first_counted, with_count, next_count, count_step, count_items, counted_of, growths_of_others, IsBounded, AreBounded, EveryCallIsBounded}
use Rattle.step_core.proofs.atomic_steps.KeptLayout.{row_keeps_layout, plays_keep_the_layout}
use Rattle.step_core.proofs.atomic_steps.Bounds.{opening_in_limit, within_at, step_in_limit}
use Rattle.step_core.proofs.atomic_steps.Legal.{items_limit}
use Rattle.step_core.proofs.atomic_steps.Tiling.{HoldsAt, step_holds, opening_holds}
use Rattle.step_core.proofs.atomic_steps.Tiling.Invariant.{Knows}
use Rattle.step_core.proofs.atomic_steps.Tiling.Steps.{phase_after}
use Rattle.step_core.proofs.atomic_steps.Tallies.{counted_step_play, counted_play}
use Rattle.step_core.proofs.atomic_steps.Bounded.Phases.{Paces, Stops, paces_kept, paces_since, paces_stops}
use Rattle.step_core.proofs.atomic_steps.Bounded.Rows.{PacesOn, row_leaves}
use Rattle.step_core.proofs.atomic_steps.Bounded.Growths.{Moves, growths_since, row_moves, moves_up, moves_count}

-- how often others have made the size larger, by these events, since the call's first step
abbrev grown : ℕ → Count → List (Event × Reply) → ℕ
grown actor count events = growths_of_others actor (drop count.begun events)

-- the actor's call, if it has one, has taken what it may in this phase
abbrev IsPaced : ℕ → Storage → List (Event × Reply) → ℕ → Count → Phase → Option Command → Type 0
IsPaced limit m events actor count phase call =
    IfSome call (λ command. Paces m.layout limit m.size command count (grown actor count events) phase)

-- so has an actor's call under way
record Standing (k : Counted) (actor : ℕ) (state : Actor) : Type 0 where
  pub count : Count
  pub there : slice_get k.counts actor ≡ Some count
  pub begun : count.begun ≤ length k.play.events
  pub paces : IsPaced k.play.at.limit k.play.at.storage k.play.events actor count state.phase (slice_get state.program state.ended)

-- a call that has ended took what it may
abbrev IsCallBounded : ℕ → ℕ → List (Event × Reply) → CallWork → Type 0
IsCallBounded f limit events call =
    (call.until ≤ length events) × IsBounded f limit call.ended.actor call.ended.command call.count (drop call.count.begun (take call.until events))

-- what every step keeps
record Keeps (k : Counted) : Type 0 where
  pub standing : (actor : ℕ) (state : Actor) → slice_get k.play.at.actors actor ≡ Some state → Standing k actor state
  pub calls : All (λ call. IsCallBounded k.play.at.storage.layout k.play.at.limit k.play.events call) k.calls
  pub ended : map (λ (call : CallWork). call.ended) k.calls ≡ k.play.ended

-- ---- Where events follow

bounded_still : (f limit : ℕ) (events more : List (Event × Reply)) (call : CallWork) → IsCallBounded f limit events call
    → IsCallBounded f limit (events ++ more) call
bounded_still f limit events more call (within, bounded) = (
  let longer : length (events ++ more) ≡ length events + length more = length-append events more in omega arith,
  subst (λ es. IsBounded f limit call.ended.actor call.ended.command call.count (drop call.count.begun es)) (sym (take-append-le call.until events more within)) bounded,
)

all_bounded_still : (f limit : ℕ) (events more : List (Event × Reply)) (calls : List CallWork)
    → All (λ call. IsCallBounded f limit events call) calls → All (λ call. IsCallBounded f limit (events ++ more) call) calls
all_bounded_still f limit events more calls all =
    All-weaker (λ call. IsCallBounded f limit events call) (λ call. IsCallBounded f limit (events ++ more) call) (bounded_still f limit events more) calls all

-- a call's first step is at the end of the events before it
begun_within : (count : Count) (events more : List (Event × Reply)) → count.begun ≤ length events
    → (if count.tally.steps == 0 then length events else count.begun) ≤ length (events ++ more)
begun_within count events more within =
    let longer : length (events ++ more) ≡ length events + length more = length-append events more in
    elim (count.tally.steps == 0) as (λ b. (if b then length events else count.begun) ≤ length (events ++ more)) [ true ↦ omega arith | false ↦ omega arith ]

-- and what others grow since then is no less after it
growths_after : (actor : ℕ) (count : Count) (events more : List (Event × Reply)) → count.begun ≤ length events
    → 0 < count.tally.steps
    → growths_of_others actor (drop count.begun events)
    ≤ growths_of_others actor (drop (if count.tally.steps == 0 then length events else count.begun) (events ++ more))
growths_after actor count events more within stepped =
    let since = growths_since actor count.begun events more within in
    rw (ne_eqb count.tally.steps 0 (λ (none : count.tally.steps ≡ 0). let a = none in omega arith)) (omega arith)

first_within : (count : Count) (events : List (Event × Reply)) → count.begun ≤ length events
    → (if count.tally.steps == 0 then length events else count.begun) ≤ length events
first_within count events within =
    elim (count.tally.steps == 0) as (λ b. (if b then length events else count.begun) ≤ length events) [ true ↦ le_refl (length events) | false ↦ within ]

-- ---- One step of a call

-- an actor that is about to begin a place finds its slot empty
begins_empty : (c : Configuration) (events : List (Event × Reply)) → HoldsAt c events → (actor : ℕ) (state : Actor)
    → slice_get c.actors actor ≡ Some state → (from n place : ℕ) → state.phase ≡ Begin from n place
    → finite.get c.storage.slots place ≡ None
begins_empty c events holds actor state there from n place phase =
    let knows : Knows c.storage (runs_of events) (λ q. writes_of q events) actor (Begin from n place) =
    subst (Knows c.storage (runs_of events) (λ q. writes_of q events) actor) phase (holds.knows actor state there) in
    knows.1

-- an actor's call paces on where others take a step
paced_on : (limit : ℕ) (m m' : Storage) (events more : List (Event × Reply)) (actor : ℕ) (count : Count) (phase : Phase)
    (call : Option Command)
    → m'.layout ≡ m.layout → m.size ≤ m'.size → count.begun ≤ length events
    → (m'.size ≢ m.size → 0 < growths_of_others actor more) → IsPaced limit m events actor count phase call
    → IsPaced limit m' (events ++ more) actor count phase call
paced_on limit m m' events more actor count phase None layout larger within counts paces = tt
paced_on limit m m' events more actor count phase (Some command) layout larger within counts paces =
    let since = growths_since actor count.begun events more within in
    subst (λ f. Paces f limit m'.size command count (grown actor count (events ++ more)) phase) (sym layout)
    (paces_kept m.layout limit command count larger (omega arith) (λ moved. let one = counts moved in omega arith) phase paces)

-- a call that has not begun
paced_at_load : (limit : ℕ) (m : Storage) (events : List (Event × Reply)) (actor : ℕ) (call : Option Command)
    → IsPaced limit m events actor no_count Load call
paced_at_load limit m events actor None = tt
paced_at_load limit m events actor (Some command) = refl

-- at Load of a next call, and of none
at_load : (command : Option Command) → phase_in Load command ≡ Load
at_load None = refl
at_load (Some command) = refl

module _ (k : Counted) (keeps : Keeps k) (actor : ℕ) (state : Actor) (command : Command) (there : slice_get k.play.at.actors actor ≡ Some state) (is : slice_get state.program state.ended ≡ Some command) where
  -- the phase after a step
  phase_next : (o : Outcome) → phase_at (step_to k.play.at actor state command o).to actor ≡ phase_after o.next
  phase_next o =
      let at : slice_get (slice_set k.play.at.actors actor (actor_after state o.next)) actor ≡ Some (actor_after state o.next) = get_set k.play.at.actors actor state (actor_after state o.next) there in
      ap phase_of at ∙ (
      elim (o.next) as (λ next. phase_of (Some (actor_after state next)) ≡ phase_after next) [
        | Goes phase ↦ ap (phase_in phase) is
        | Ends answer ↦ at_load (slice_get state.program (state.ended + 1))
      ])

  phase_now : phase_at k.play.at actor ≡ state.phase
  phase_now = ap phase_of there ∙ ap (phase_in state.phase) is

  -- other actors
  others_stand : (o : Outcome) → o.storage.layout ≡ k.play.at.storage.layout → Moves k.play.at.storage actor o
      → (new : Count) (calls : List CallWork) (other : ℕ) (other_state : Actor) → other ≢ actor
      → slice_get (slice_set k.play.at.actors actor (actor_after state o.next)) other ≡ Some other_state
      → Standing (record { play = with_step k.play (step_to k.play.at actor state command o); counts = slice_set k.counts actor new; calls = calls }) other other_state
  others_stand o layout moves new calls other other_state apart at =
      let was = keeps.standing other other_state (sym (get_other k.play.at.actors actor other (actor_after state o.next) apart) ∙ at) in
      let events = k.play.events in
      let more = option_to_list o.event in
      let longer : length (events ++ more) ≡ length events + length more = length-append events more in
      record {
        count = was.count;
        there = get_other k.counts actor other new apart ∙ was.there;
        begun = (let a = was.begun in omega arith);
        paces = paced_on k.play.at.limit k.play.at.storage o.storage k.play.events (option_to_list o.event) other was.count other_state.phase
            (slice_get other_state.program other_state.ended) layout (moves_up k.play.at.storage actor o moves) was.begun
            (moves_count k.play.at.storage actor other o (λ same. apart (sym same)) moves) was.paces;
      }

  -- the count after a step to this phase
  abbrev counted_on : Count → Phase → Count
  counted_on count phase = count_after k.play.at.storage.layout count state.phase phase (length k.play.events)

  -- the play after a step that leaves this storage, with this event, and what follows
  abbrev play_after : Outcome → Next → Play
  play_after o next = with_step k.play (record {
    to = record { limit = k.play.at.limit; storage = o.storage; actors = slice_set k.play.at.actors actor (actor_after state next) };
    event = o.event;
    ended = ended_by actor state command next;
  })

  -- what others have grown since the call's first step
  abbrev growths_then : Outcome → Count → ℕ
  growths_then o count =
      growths_of_others actor (drop (if count.tally.steps == 0 then length k.play.events else count.begun) (k.play.events ++ option_to_list o.event))

  -- the other actors stand as they may
  abbrev OthersStand : Outcome → Next → Type 0
  OthersStand o next =
      (new : Count) (calls : List CallWork) (other : ℕ) (other_state : Actor) → other ≢ actor
      → slice_get (slice_set k.play.at.actors actor (actor_after state next)) other ≡ Some other_state
      → Standing (record { play = play_after o next; counts = slice_set k.counts actor new; calls = calls }) other other_state

  -- all actors stand as they may where this one does
  all_stand : (o : Outcome) (next : Next) (new : Count) (calls : List CallWork) → OthersStand o next
      → Standing (record { play = play_after o next; counts = slice_set k.counts actor new; calls = calls }) actor (actor_after state next)
      → (other : ℕ) (other_state : Actor)
      → slice_get (slice_set k.play.at.actors actor (actor_after state next)) other ≡ Some other_state
      → Standing (record { play = play_after o next; counts = slice_set k.counts actor new; calls = calls }) other other_state
  all_stand o next new calls others own other other_state at =
      let k' : Counted = record { play = play_after o next; counts = slice_set k.counts actor new; calls = calls } in
      elim (eqb_tells other actor) [
        | inl same ↦ (
            let here = subst (λ a. slice_get (slice_set k.play.at.actors actor (actor_after state next)) a ≡ Some other_state) same.1 at in
            let state_is : actor_after state next ≡ other_state = same_Some (actor_after state next) other_state (sym (get_set k.play.at.actors actor state (actor_after state next) there) ∙ here) in
            subst (λ a. Standing k' a other_state) (sym same.1) (subst (Standing k' actor) state_is own))
        | inr apart ↦ others new calls other other_state apart.1 at
      ]

  -- the ended calls took what they may
  calls_still : (o : Outcome) → o.storage.layout ≡ k.play.at.storage.layout
      → All (λ call. IsCallBounded o.storage.layout k.play.at.limit (k.play.events ++ option_to_list o.event) call) k.calls
  calls_still o layout =
      subst (λ f. All (λ call. IsCallBounded f k.play.at.limit (k.play.events ++ option_to_list o.event) call) k.calls) (sym layout)
      (all_bounded_still k.play.at.storage.layout k.play.at.limit k.play.events (option_to_list o.event) k.calls keeps.calls)

  -- the call goes on
  call_goes : (o : Outcome) (phase : Phase) → o.storage.layout ≡ k.play.at.storage.layout → (count : Count)
      → slice_get k.counts actor ≡ Some count → count.begun ≤ length k.play.events
      → Paces k.play.at.storage.layout k.play.at.limit o.storage.size command (counted_on count phase) (growths_then o count) phase
      → OthersStand o (Goes phase)
      → Keeps (record { play = play_after o (Goes phase); counts = slice_set k.counts actor (counted_on count phase); calls = k.calls })
  call_goes o phase layout count counted within paces others =
      let new = counted_on count phase in
      record {
        standing = all_stand o (Goes phase) new k.calls others (record {
          count = new;
          there = get_set k.counts actor count new counted;
          begun = begun_within count k.play.events (option_to_list o.event) within;
          paces = subst (λ c. IfSome c (λ call. Paces o.storage.layout k.play.at.limit o.storage.size call new (growths_then o count) phase)) (sym is)
              (subst (λ f. Paces f k.play.at.limit o.storage.size command new (growths_then o count) phase) (sym layout) paces);
        });
        calls = calls_still o layout;
        ended = keeps.ended ∙ sym (append-nil k.play.ended);
      }

  -- the counted play where the call has ended
  abbrev with_ended : Outcome → Next → Ended → Count → Counted
  with_ended o next ended new = record {
    play = play_after o next;
    counts = slice_set k.counts actor no_count;
    calls = k.calls ++ record { ended = ended; count = new; until = length (k.play.events ++ option_to_list o.event) } ∷ [];
  }

  -- the call ends
  call_ends : (o : Outcome) → o.storage.layout ≡ k.play.at.storage.layout → (ended : Ended) (next : Next) → ended_by actor state command next ≡ Some ended
      → ended.actor ≡ actor → ended.command ≡ command → (new : Count) → new.begun ≤ length k.play.events
      → Stops o.storage.layout k.play.at.limit command new (growths_of_others actor (drop new.begun (k.play.events ++ option_to_list o.event)))
      → ((other : ℕ) (other_state : Actor) → slice_get (slice_set k.play.at.actors actor (actor_after state next)) other ≡ Some other_state
      → Standing (with_ended o next ended new) other other_state)
      → Keeps (with_ended o next ended new)
  call_ends o layout ended next is_ended its_actor its_command new within stops stand =
      let events = k.play.events ++ option_to_list o.event in
      let call : CallWork = record { ended = ended; count = new; until = length events } in
      let f = o.storage.layout in
      let limit = k.play.at.limit in
      let bounded : IsBounded f limit actor command new (drop new.begun events) =
      record { lost = stops.lost; steps = stops.steps; segments = stops.segments; touched = stops.touched } in
      record {
        standing = stand;
        calls = All-append (λ c. IsCallBounded f limit events c) k.calls (call ∷ []) (calls_still o layout)
            (All-cons (λ c. IsCallBounded f limit events c) call [] (
              le_refl (length events),
              subst (λ es. IsBounded f limit ended.actor ended.command new (drop new.begun es)) (sym (take-length events))
                  (subst (λ a. IsBounded f limit a ended.command new (drop new.begun events)) (sym its_actor) (subst (λ c. IsBounded f limit actor c new (drop new.begun events)) (sym its_command) bounded)),
            ) (All-nil (λ c. IsCallBounded f limit events c)));
        ended = map-append (λ (c : CallWork). c.ended) k.calls (call ∷ []) ∙ ap (λ es. es ++ ended ∷ []) keeps.ended ∙ ap (λ e. k.play.ended ++ option_to_list e) (sym is_ended);
      }

  -- what a step leaves, whether the call goes on or ends
  call_kept_on : (o : Outcome) (next : Next) → o.storage.layout ≡ k.play.at.storage.layout → (count : Count)
      → slice_get k.counts actor ≡ Some count → count.begun ≤ length k.play.events
      → PacesOn k.play.at.storage.layout k.play.at.limit o.storage.size command count (growths_then o count) (length k.play.events) state.phase next
      → OthersStand o next
      → Keeps (with_count k actor (play_after o next) (counted_on count (phase_after next)) (ended_by actor state command next))
  call_kept_on o (Goes phase) layout count counted within paces others = call_goes o phase layout count counted within paces others
  call_kept_on o (Ends answer) layout count counted within stops others =
      let new = counted_on count Load in
      let ended : Ended = record { actor = actor; number = state.ended + 1; command = command; answer = answer } in
      let calls = k.calls ++ record { ended = ended; count = new; until = length (k.play.events ++ option_to_list o.event) } ∷ [] in
      call_ends o layout ended (Ends answer) refl refl refl new (first_within count k.play.events within)
      (subst (λ f. Stops f k.play.at.limit command new (growths_then o count)) (sym layout) stops)
      (all_stand o (Ends answer) no_count calls others (record {
        count = no_count;
        there = get_set k.counts actor count no_count counted;
        begun = omega arith;
        paces = paced_at_load k.play.at.limit o.storage (k.play.events ++ option_to_list o.event) actor (slice_get state.program (state.ended + 1));
      }))

  -- the row of the step table for the call
  abbrev row : Bool → Outcome
  row memory = outcome_of k.play.at.limit k.play.at.storage actor command memory state.phase

  -- a step of the call
  call_kept : (memory : Bool) → IsInLimit k.play.at → HoldsAt k.play.at k.play.events
      → Keeps (with_count k actor (with_step k.play (step_to k.play.at actor state command (row memory))) (next_count k actor (step_to k.play.at actor state command (row memory))) (ended_by actor state command (row memory).next))
  call_kept memory in_limit holds =
      let c = k.play.at in
      let o = row memory in
      let s = keeps.standing actor state there in
      let within = within_at c in_limit actor state command there is in
      let layout = row_keeps_layout c.limit c.storage actor command memory state.phase in
      let moves = row_moves c.limit c.storage actor command memory state.phase within in
      let was : Paces c.storage.layout c.limit c.storage.size command s.count (grown actor s.count k.play.events) state.phase =
      subst (λ call. IfSome call (λ x. Paces c.storage.layout c.limit c.storage.size x s.count (grown actor s.count k.play.events) state.phase)) is s.paces in
      let since = paces_since c.storage.layout c.limit c.storage.size (grown actor s.count k.play.events) (growths_then o s.count) command s.count state.phase
      (growths_after actor s.count k.play.events (option_to_list o.event) s.begun) was in
      let leaves = row_leaves c.limit c.storage in_limit.3 in_limit.0.1 actor (growths_then o s.count) (length k.play.events) command s.count memory state.phase within
      (λ from n place phase. begins_empty c k.play.events holds actor state there from n place phase) since in
      let next_is : next_count k actor (step_to c actor state command o) ≡ count_after c.storage.layout s.count state.phase (phase_after o.next) (length k.play.events) =
      ap (λ count. count_after c.storage.layout (unwrap_or count no_count) (phase_at c actor) (phase_at (step_to c actor state command o).to actor) (length k.play.events)) s.there
      ∙ ap (λ before. count_after c.storage.layout s.count before (phase_at (step_to c actor state command o).to actor) (length k.play.events)) phase_now
      ∙ ap (λ after. count_after c.storage.layout s.count state.phase after (length k.play.events)) (phase_next o) in
      subst (λ count. Keeps (with_count k actor (with_step k.play (step_to c actor state command o)) count (ended_by actor state command o.next))) (sym next_is)
      (call_kept_on o o.next layout s.count s.there s.begun leaves (others_stand o layout moves))

-- ---- Items

-- a step that changes nothing
nothing_kept : (k : Counted) → Keeps k
    → Keeps (record { play = with_step k.play (no_step k.play.at); counts = k.counts; calls = k.calls })
nothing_kept k keeps =
    let same : with_step k.play (no_step k.play.at) ≡ k.play =
    ap (λ es. record { at = k.play.at; events = es; ended = k.play.ended ++ [] }) (append-nil k.play.events)
    ∙ ap (λ es. record { at = k.play.at; events = k.play.events; ended = es }) (append-nil k.play.ended) in
    subst (λ p. Keeps (record { play = p; counts = k.counts; calls = k.calls })) (sym same) keeps

step_kept : (k : Counted) (actor : ℕ) (memory : Bool) → IsInLimit k.play.at → HoldsAt k.play.at k.play.events → Keeps k
    → Keeps (count_step k actor (step_of k.play.at actor memory) (has_call k.play.at actor))
step_kept k actor memory in_limit holds keeps =
    let c = k.play.at in
    elim (slice_get c.actors actor) as (λ o. slice_get c.actors actor ≡ o → Keeps (count_step k actor (step_as c actor memory o) (has_command o))) [
      | None ↦ (λ _. nothing_kept k keeps)
      | Some state ↦ (λ there.
          elim (slice_get state.program state.ended) as (λ o. slice_get state.program state.ended ≡ o → Keeps (count_step k actor (step_in c actor memory state o) (is_some o))) [
            | None ↦ (λ _. nothing_kept k keeps)
            | Some command ↦ (λ is. call_kept k keeps actor state command there is memory in_limit holds)
          ]
          refl)
    ]
    refl

items_kept : (k : Counted) (items : List Item) → IsInLimit k.play.at → HoldsAt k.play.at k.play.events → Keeps k
    → Keeps (count_items k items) × IsInLimit (count_items k items).play.at
items_kept k [] in_limit holds keeps = (keeps, in_limit)
items_kept k (item ∷ items) in_limit holds keeps =
    let step = step_of k.play.at item.actor item.memory in
    let next = count_step k item.actor step (has_call k.play.at item.actor) in
    let play_is = counted_step_play k item.actor step (has_call k.play.at item.actor) in
    items_kept next items
    (subst (λ (p : Play). IsInLimit p.at) (sym play_is) (step_in_limit k.play.at in_limit item.actor item.memory))
    (subst (λ (p : Play). HoldsAt p.at p.events) (sym play_is) (step_holds k.play.at k.play.events item.actor item.memory in_limit holds))
    (step_kept k item.actor item.memory in_limit holds keeps)

-- before the first step each actor is at Load
first_state : (programs : List (List Command)) (actor : ℕ) (state : Actor)
    → slice_get (map (λ (program : List Command). record { program = program; ended = 0; phase = Load }) programs) actor ≡ Some state
    → (state.phase ≡ Load) × (actor < length programs)
first_state [] actor state is = absurd (none-some state is)
first_state (program ∷ programs) zero state is =
    let first : Actor = record { program = program; ended = 0; phase = Load } in
    (sym (ap (λ (a : Actor). a.phase) (same_Some first state is)), omega arith)
first_state (program ∷ programs) (suc actor) state is = let rest = first_state programs actor state is in (rest.0, omega arith)

first_kept : (f limit : ℕ) (programs : List (List Command)) → Keeps (first_counted f limit programs)
first_kept f limit programs = record {
  standing = λ actor state is. (
      let first = first_state programs actor state is in record {
        count = no_count;
        there = get_appended [] (length programs) actor no_count (omega arith) (omega arith);
        begun = omega arith;
        paces = subst (λ phase. IsPaced limit (first_configuration f limit programs).storage [] actor no_count phase (slice_get state.program state.ended)) (sym first.0)
            (paced_at_load limit (first_configuration f limit programs).storage [] actor (slice_get state.program state.ended));
      });
  calls = All-nil _;
  ended = refl;
}

-- ---- The law

-- a call under way took what it may
under_way_bounded : (k : Counted) → Keeps k → IsInLimit k.play.at
    → AreBounded k.play.at.storage.layout k.play.at.limit k
under_way_bounded k keeps in_limit = record {
  ended = λ i d inside. (keeps.calls i d inside).1;
  under_way = λ actor state command there is. (
      let s = keeps.standing actor state there in
      let paces : Paces k.play.at.storage.layout k.play.at.limit k.play.at.storage.size command s.count (grown actor s.count k.play.events) state.phase =
      subst (λ call. IfSome call (λ x. Paces k.play.at.storage.layout k.play.at.limit k.play.at.storage.size x s.count (grown actor s.count k.play.events) state.phase)) is s.paces in
      let stops = paces_stops k.play.at.storage.layout k.play.at.limit k.play.at.storage.size (grown actor s.count k.play.events) command s.count state.phase (within_at k.play.at in_limit actor state command there is) paces in
      (s.count, s.there, record { lost = stops.lost; steps = stops.steps; segments = stops.segments; touched = stops.touched }));
}

pub every_call_is_bounded : EveryCallIsBounded
every_call_is_bounded f is_layout limit programs items is_limit =
    let k = counted_of f limit programs items in
    let play_is = counted_play f limit programs items in
    let kept = items_kept (first_counted f limit programs) items (opening_in_limit f limit programs is_layout is_limit) (opening_holds f limit programs) (first_kept f limit programs) in
    let layout : k.play.at.storage.layout ≡ f = ap (λ (p : Play). p.at.storage.layout) play_is ∙ plays_keep_the_layout f limit programs items in
    let same_limit : k.play.at.limit ≡ limit = ap (λ (p : Play). p.at.limit) play_is ∙ items_limit (empty_play f limit programs) items in (
      record { play = play_is; calls = kept.0.ended ∙ ap (λ (p : Play). p.ended) play_is },
      subst (λ x. AreBounded x limit k) layout (subst (λ x. AreBounded k.play.at.storage.layout x k) same_limit (under_way_bounded k kept.0 kept.1)),
    )
