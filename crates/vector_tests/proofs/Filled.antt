-- Steps of growths and of reads, and those of a thread's calls in turn.
use Rattle.std.proofs.Common.{◌≡◌, ℕ, ◌+◌, ◌<◌, ◌≤◌, List, [], ◌∷◌, ◌++◌, Result, Ok, Err, IfOk, refl, sym, ap, ◌∙◌, subst, arith, append_assoc, ⊎_elim}
use Rattle.std.specs.Prelude.{IfErr}
use Rattle.std.specs.List.{Contains}
use Rattle.std.proofs.lemmas.List.{append-nil}
use Rattle.std.proofs.lemmas.List.Elements.{Contains-append_left, Contains-push}
use Rattle.std.proofs.lemmas.Bool.{cases_lt}
use mathlib.Core.List.{IsPrefix}
use Rattle.claim_core.specs.declared.run.Run.{Run}
use Rattle.claim_core.specs.Hand.{HandView, KeepsOwn, OwnApart, OwnsRun}
use Rattle.claim_core.specs.History.{Log, AddsEvents, Adds, IsHistoryOf, claim_event, full_event, memory_event, past_event, size_event, fill_event}
use Rattle.claim_core.specs.Laws.{AddedRunsAreOwned, OwnRunsStay, OwnersAreApart, StepsStay, ShownPlacesAreFinished}
use Rattle.grow_core.specs.declared.errors.GrowError.{GrowError}
use Rattle.grow_core.specs.declared.errors.GrowError.TheVariants.{NoMemory, Full, Moved, Refused, Taken}
use Rattle.grow_core.specs.declared.errors.AtError.{AtError}
use Rattle.grow_core.specs.declared.errors.AtError.TheVariants as at
use Rattle.grow_core.specs.Token.{PlacedView}
use Rattle.grow_core.specs.Grown.{GrownView}
use Rattle.grow_core.specs.Growth.{Refuses, single}
use Rattle.grow_core.specs.Vector.{VectorView}
use Rattle.grow_core.specs.Logs.{LogsGrowth, LogsNoValue, LogsPush, LogsRefusal, LogsValue, AllFilled, IsFinishedIn, step_of, fill_steps, stop_steps, pending_look, value_look, broken_look}
use Rattle.vector_tests.specs.Filled.{AreStepsOf, IsBesidePlace, IsDoneIn, IsStepOfRead, LogsFind, OwnsRefused}

-- ---- Steps one after the other

abbrev one_step : (a b es : Log) → AddsEvents a es b → Adds a (es ∷ []) b
one_step a b es added = (b, added, ([], append-nil b))

prefix_after : (a b c : Log) → IsPrefix a b → IsPrefix b c → IsPrefix a c
prefix_after a b c p q = (p.0 ++ q.0, sym (append_assoc a p.0 q.0) ∙ (ap (λ (l : Log). l ++ q.0) p.1 ∙ q.1))

events_after : (a b c es : Log) → IsPrefix a b → AddsEvents b es c → AddsEvents a es c
events_after a b c es p added = record {
  since = p.0 ++ added.since;
  is =
      added.is
      ∙ (ap (λ (l : Log). (l ++ added.since) ++ es) (sym p.1) ∙ ap (λ (l : Log). l ++ es) (append_assoc a p.0 added.since));
}

steps_after : (a b c : Log) (steps : List Log) → IsPrefix a b → Adds b steps c → Adds a steps c
steps_after a b c [] p adds = prefix_after a b c p adds
steps_after a b c (es ∷ rest) p adds = (adds.0, events_after a b adds.0 es p adds.1, adds.2)

steps_join : (a b c : Log) (xs ys : List Log) → Adds a xs b → Adds b ys c → Adds a (xs ++ ys) c
steps_join a b c [] ys first next = steps_after a b c ys first next
steps_join a b c (es ∷ rest) ys first next = (first.0, first.1, steps_join first.0 b c rest ys first.2 next)

-- ---- A growth, whatever it returned

abbrev Stepped : {X T V E : Type 0} → (X → Run) → ℕ → Result X (GrowError T V E) → Log → Log → Type 0
Stepped run_of n result old new = (steps : List Log) × AreStepsOf run_of n result steps × Adds old steps new

refusal_steps : {X T V E : Type 0} (run_of : X → Run) (n : ℕ) (old new : HandView) (e : GrowError T V E) → LogsRefusal n old new e
    → Stepped run_of n (Err e) old.log new.log
refusal_steps run_of n old new (NoMemory back) logs = (step_of memory_event, refl, one_step old.log new.log (memory_event ∷ []) logs)
refusal_steps run_of n old new (Full size back) logs =
    (step_of (full_event n size), refl, one_step old.log new.log (full_event n size ∷ []) logs)
refusal_steps run_of n old new (Moved size back) logs = ([], refl, logs)
refusal_steps run_of n old new (Refused run made cause) logs =
    let index : ℕ = logs.claimed.index in
    (step_of (claim_event index run) ++ stop_steps index run made.run.n, (index, refl), logs.places)
refusal_steps run_of n old new (Taken place found) logs = absurd logs

pub push_steps : {T V E : Type 0} (old new : HandView) (result : Result (PlacedView T) (GrowError T V E))
    → IfOk result (λ p. LogsPush old new p.place) → IfErr result (LogsRefusal 1 old new)
    → Stepped (λ (p : PlacedView T). single p.place) 1 result old.log new.log
push_steps old new (Ok p) won refused =
    let index : ℕ = won.claimed.index in
    (step_of (claim_event index (single p.place)) ++ fill_steps index p.place 1, (index, refl), won.places)
push_steps {T} old new (Err e) won refused = refusal_steps (λ (p : PlacedView T). single p.place) 1 old new e refused

-- a growth that won
won_steps : {T : Type 0} (V E : Type 0) (n : ℕ) (old new : HandView) (g : GrownView T) → LogsGrowth AllFilled old new g.run
    → Stepped {X = GrownView T} {T = T} {V = V} {E = E} (λ (g : GrownView T). g.run) n (Ok g) old.log new.log
won_steps V E n old new g won =
    ⊎_elim
    (λ (some_places : 0 < g.run.n).
    let win = won.some some_places in let index : ℕ = win.claimed.index in
    (step_of (claim_event index g.run) ++ fill_steps index g.run.from g.run.n, (index, refl), win.places))
    (λ (no_places : g.run.n ≤ 0).
    let zero_places : g.run.n ≡ 0 = omega arith in
    let same : step_of (claim_event 0 g.run) ≡ step_of (claim_event 0 g.run) ++ fill_steps 0 g.run.from g.run.n =
    ap (λ (k : ℕ). step_of (claim_event 0 g.run) ++ fill_steps 0 g.run.from k) (sym zero_places) in
    (step_of (claim_event 0 g.run), (0, same), won.empty zero_places))
    (cases_lt 0 g.run.n)

pub growth_steps : {T V E : Type 0} (n : ℕ) (old new : HandView) (result : Result (GrownView T) (GrowError T V E))
    → IfOk result (λ g. LogsGrowth AllFilled old new g.run) → IfErr result (LogsRefusal n old new)
    → Stepped (λ (g : GrownView T). g.run) n result old.log new.log
growth_steps {T} {V} {E} n old new (Ok g) won refused = won_steps V E n old new g won
growth_steps {T} n old new (Err e) won refused = refusal_steps (λ (g : GrownView T). g.run) n old new e refused

-- ---- A read

pub found_read : {T : Type 0} (place : ℕ) (old new : HandView) (p : PlacedView T) → LogsValue place old new → LogsFind place old new (Ok p)
found_read place old new p logs = (step_of (value_look place), refl, logs)

pub missed_read : (T : Type 0) (place : ℕ) (old new : HandView) (e : AtError) → LogsNoValue place old new e
    → LogsFind {T = T} place old new (Err e)
missed_read T place old new (at.OutOfRange size) logs =
    (step_of (past_event place size), refl, one_step old.log new.log (past_event place size ∷ []) logs)
missed_read T place old new at.Pending logs = (step_of (pending_look place), refl, logs)
missed_read T place old new (at.Broken spoilt) logs = (step_of (broken_look place), refl, logs)

-- ---- A thread's calls

-- the five calls, one after the other
pub done_in_turn : {T V W E F G : Type 0} (a b c d e f : Log) (n place size : ℕ) (pushed : Result (PlacedView T) (GrowError T V E))
    (grown : Result (GrownView T) (GrowError T W F)) (failed : Result (GrownView T) (GrowError T W G)) (read : Result (PlacedView T) AtError)
    → Stepped (λ (p : PlacedView T). single p.place) 1 pushed a b → Stepped (λ (g : GrownView T). g.run) n grown b c
    → Stepped (λ (g : GrownView T). g.run) n failed c d → ((steps : List Log) × IsStepOfRead place read steps × Adds d steps e)
    → AddsEvents e (size_event size ∷ []) f → IsDoneIn a n place pushed grown failed read size f
done_in_turn a b c d e f n place size pushed grown failed read push growth failure look asked = record {
  push = push.0;
  growth = growth.0;
  failure = failure.0;
  look = look.0;
  pushes = push.1;
  grows = growth.1;
  fails = failure.1;
  looks = look.1;
  part =
      let last : List Log = step_of (size_event size) in
      steps_join a e f (push.0 ++ growth.0 ++ failure.0 ++ look.0) last
      (steps_join a d e (push.0 ++ growth.0 ++ failure.0) look.0
      (steps_join a c d (push.0 ++ growth.0) failure.0 (steps_join a b c push.0 growth.0 push.2 growth.2) failure.2) look.2)
      (one_step e f (size_event size ∷ []) asked);
}

-- the results of a thread stay in each history that goes on
pub still_done : {T V W E F G : Type 0} → StepsStay → (old log more : Log) (n place size : ℕ) (pushed : Result (PlacedView T) (GrowError T V E))
    (grown : Result (GrownView T) (GrowError T W F)) (failed : Result (GrownView T) (GrowError T W G)) (read : Result (PlacedView T) AtError)
    → IsDoneIn old n place pushed grown failed read size log → IsPrefix log more → IsDoneIn old n place pushed grown failed read size more
still_done law old log more n place size pushed grown failed read it p = record {
  push = it.push;
  growth = it.growth;
  failure = it.failure;
  look = it.look;
  pushes = it.pushes;
  grows = it.grows;
  fails = it.fails;
  looks = it.looks;
  part = law old log more (it.push ++ it.growth ++ it.failure ++ it.look ++ step_of (size_event size)) it.part p;
}

-- ---- A place that was found filled

-- it is filled in each history that goes on from there
pub finished_by_look : ShownPlacesAreFinished → (hand : HandView) (old mid : Log) (place : ℕ) → hand.of.base ≤ place
    → Adds old (step_of (value_look place)) mid → IsPrefix mid hand.log → IsHistoryOf hand.of.limit hand.of.base hand.of.filled hand.log
    → IsFinishedIn hand.log place
finished_by_look law hand old mid place above (seen, added, goes) more history =
    let before : Log = old ++ added.since in let event : Log = value_look place ∷ [] in let rest : Log = goes.0 ++ more.0 in
    let all : hand.log ≡ before ++ (event ++ rest) =
    sym more.1
    ∙ (ap (λ (l : Log). l ++ more.0) (sym goes.1)
    ∙ (ap (λ (l : Log). (l ++ goes.0) ++ more.0) added.is
    ∙ (append_assoc (before ++ event) goes.0 more.0 ∙ append_assoc before event rest))) in
    let filled = law hand.of.limit hand.of.base place hand.of.filled before rest above
    (subst (IsHistoryOf hand.of.limit hand.of.base hand.of.filled) all history) in
    (filled.0, subst (λ (l : Log). Contains l (fill_event filled.0 place)) (sym all) (Contains-append_left before (event ++ rest) (fill_event filled.0 place) filled.1))

-- so is a place whose fill is the second step of two
pub finished_by_second : (old new first : Log) (actor place : ℕ) → Adds old (first ∷ (fill_event actor place ∷ []) ∷ []) new → IsFinishedIn new place
finished_by_second old new first actor place (before, claimed, (second, filled, goes)) =
    let there : Contains second (fill_event actor place) =
    subst (λ (l : Log). Contains l (fill_event actor place)) (sym filled.is) (Contains-push (before ++ filled.since) (fill_event actor place)) in
    (actor, subst (λ (l : Log). Contains l (fill_event actor place)) goes.1 (Contains-append_left second goes.0 (fill_event actor place) there))

-- a pushed place is filled
pub finished_by_push : (old new : HandView) (place : ℕ) → LogsPush old new place → IsFinishedIn new.log place
finished_by_push old new place push =
    let index : ℕ = push.claimed.index in
    finished_by_second old.log new.log (claim_event index (single place) ∷ []) index place push.places

-- the run of a refused construction is the hand's own
refused_owned : {T V E : Type 0} (law : AddedRunsAreOwned) (vector : VectorView T) (n : ℕ) (given : V) (old new : HandView) (e : GrowError T V E)
    → Refuses vector n given old new e → OwnsRefused new e
refused_owned law vector n given old new (NoMemory back) refused = tt
refused_owned law vector n given old new (Full size back) refused = tt
refused_owned law vector n given old new (Moved size back) refused = tt
refused_owned law vector n given old new (Refused run made cause) refused = law old new run refused.left.claimed
refused_owned law vector n given old new (Taken place found) refused = absurd refused.left

pub owned_if_refused : {X T V E : Type 0} (law : AddedRunsAreOwned) (vector : VectorView T) (n : ℕ) (given : V) (old new : HandView) (result : Result X (GrowError T V E))
    → IfErr result (Refuses vector n given old new) → IfErr result (OwnsRefused new)
owned_if_refused law vector n given old new (Ok x) refused = tt
owned_if_refused law vector n given old new (Err e) refused = refused_owned law vector n given old new e refused

-- ---- Two hands that have met

-- a place that one has seen filled stays so
pub still_finished : (old new : Log) (place : ℕ) → IsFinishedIn old place → IsPrefix old new → IsFinishedIn new place
still_finished old new place (index, there) goes =
    (index, subst (λ (l : Log). Contains l (fill_event index place)) goes.1 (Contains-append_left old goes.0 (fill_event index place) there))

-- a refused construction of the one is not at a place of the other
pub apart_if_met : {T V E : Type 0} (apart : OwnersAreApart) (stay : OwnRunsStay) (a b old_a old_b : HandView) (place : ℕ) (e : GrowError T V E)
    → KeepsOwn old_a a → IsPrefix old_a.seen a.seen → KeepsOwn old_b b → IsPrefix old_b.seen b.seen → b.of ≡ a.of → b.seen ≡ a.seen → OwnApart a b
    → OwnsRun old_a (single place) → OwnsRefused old_b e → IsBesidePlace place e
apart_if_met apart stay a b old_a old_b place (NoMemory back) own_a seen_a own_b seen_b of same none one other = tt
apart_if_met apart stay a b old_a old_b place (Full size back) own_a seen_a own_b seen_b of same none one other = tt
apart_if_met apart stay a b old_a old_b place (Moved size back) own_a seen_a own_b seen_b of same none one other = tt
apart_if_met apart stay a b old_a old_b place (Refused run made cause) own_a seen_a own_b seen_b of same none one other =
    λ there. apart a b (single place) run of same none (stay old_a a (single place) own_a seen_a one) (stay old_b b run own_b seen_b other) place
    (omega arith) (omega arith) there.0 there.1
apart_if_met apart stay a b old_a old_b place (Taken at found) own_a seen_a own_b seen_b of same none one other = tt
