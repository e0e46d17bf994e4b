-- What growths add to a history: their claim, and what became of each place, seen from a hand that had seen less, too.
use Rattle.std.proofs.Common.{◌≡◌, ℕ, ◌+◌, ◌<◌, List, [], ◌∷◌, ◌++◌, Result, Ok, Err, IfOk, length, refl, sym, ap, ◌∙◌, subst, arith}
use Rattle.std.specs.Prelude.{IfErr}
use Rattle.std.specs.List.{Contains}
use mathlib.Core.List.{IsPrefix}
use Rattle.book_core.specs.declared.events.Event.{Event}
use Rattle.book_core.specs.declared.events.Reply.{Reply}
use Rattle.claim_core.specs.declared.run.Run.{Run}
use Rattle.claim_core.specs.Hand.{HandView, AddsRun, LogsRun, KeepsCells, SeesBegun, single}
use Rattle.claim_core.specs.Laws.{AddedPlacesAreNotBegun, AddedRunsAreLast, SeenRunsHavePlaces}
use Rattle.claim_core.specs.History.{Adds, AddsEvents, claim_event, fill_event, raise_event}
use Rattle.grow_core.specs.declared.errors.GrowError.{GrowError}
use Rattle.grow_core.specs.declared.errors.GrowError.TheVariants.{NoMemory, Full, Moved, Refused, Taken}
use Rattle.grow_core.specs.declared.grow_to_at_least.Reached.{Reached}
use Rattle.grow_core.specs.declared.grow_to_at_least.Reached.TheVariants as reached
use Rattle.grow_core.specs.Vector.{VectorView}
use Rattle.grow_core.specs.Token.{PlacedView}
use Rattle.grow_core.specs.Grown.{GrownView}
use Rattle.grow_core.specs.Making.{StopsIn}
use Rattle.grow_core.specs.Logs.{Fate, AllFilled, PartFilled, LogsClaim, LogsClaimed, LogsWin, LogsPush, LogsGrowth, LogsRefusal, LogsReached, LogsRefusalUpTo, step_of, fate_steps, fill_steps}
use Rattle.grow_core.specs.Steps.{WorksIn, AddsAt, AddsOn, OwnsRunAt, IsNewRun, StopsWith}
use Rattle.grow_core.proofs.Logs.{events_after, nothing_after}
use Rattle.grow_core.proofs.Adds.{one_step, steps_after, steps_stay, steps_join}
use Rattle.grow_core.proofs.Works.{claimed_fresh, claimed_owned}

-- ---- Of a hand that had seen less

module _ (a b c : HandView) (more : IsPrefix a.log b.log) where
  pub claim_after : (claim : ℕ → Event × Reply) → LogsClaim claim b c → LogsClaim claim a c
  claim_after claim logs =
      record { index = logs.index; last = logs.last; adds = steps_after a.log b.log c.log (step_of (claim logs.index)) more logs.adds }

  pub claimed_after : (run : Run) → LogsClaimed b c run → LogsClaimed a c run
  claimed_after run logs = record {
    some = λ some_places. claim_after (λ index. claim_event index run) (logs.some some_places);
    empty = λ no_places. steps_after a.log b.log c.log (step_of (claim_event 0 run)) more (logs.empty no_places);
  }

  pub win_after : (claim : ℕ → Event × Reply) (fate : Fate) (run : Run) → LogsWin claim fate run b c → LogsWin claim fate run a c
  unfolding claim_after
  win_after claim fate run logs = record {
    claimed = claim_after claim logs.claimed;
    places = steps_after a.log b.log c.log (step_of (claim logs.claimed.index) ++ fate_steps fate logs.claimed.index run) more logs.places;
  }

  pub growth_after : (fate : Fate) (run : Run) → LogsGrowth fate b c run → LogsGrowth fate a c run
  growth_after fate run logs = record {
    some = λ some_places. win_after (λ index. claim_event index run) fate run (logs.some some_places);
    empty = λ no_places. steps_after a.log b.log c.log (step_of (claim_event 0 run)) more (logs.empty no_places);
  }

  pub refusal_after : {T V E : Type 0} (n : ℕ) (e : GrowError T V E) → LogsRefusal n b c e → LogsRefusal n a c e
  refusal_after n (NoMemory back) logs = events_after a.log b.log c.log _ more logs
  refusal_after n (Full size back) logs = events_after a.log b.log c.log _ more logs
  refusal_after n (Moved size back) logs = nothing_after a.log b.log c.log more logs
  refusal_after n (Refused run made cause) logs = win_after (λ index. claim_event index run) (PartFilled made.run.n) run logs
  refusal_after n (Taken place found) logs = logs

  pub refusal_up_to_after : {T V E : Type 0} (to : ℕ) (e : GrowError T V E) → LogsRefusalUpTo to b c e → LogsRefusalUpTo to a c e
  refusal_up_to_after to (NoMemory back) logs = events_after a.log b.log c.log _ more logs
  refusal_up_to_after to (Full size back) logs = events_after a.log b.log c.log _ more logs
  refusal_up_to_after to (Moved size back) logs = logs
  refusal_up_to_after to (Refused run made cause) logs = win_after (λ index. raise_event index to run) (PartFilled made.run.n) run logs
  refusal_up_to_after to (Taken place found) logs = logs

  -- the same of all that a call may return
  pub refusals_after : {X T V E : Type 0} (n : ℕ) (result : Result X (GrowError T V E)) → IfErr result (LogsRefusal n b c)
      → IfErr result (LogsRefusal n a c)
  refusals_after n (Ok x) logs = tt
  refusals_after n (Err e) logs = refusal_after n e logs

  pub refusals_up_to_after : {X T V E : Type 0} (to : ℕ) (result : Result X (GrowError T V E)) → IfErr result (LogsRefusalUpTo to b c)
      → IfErr result (LogsRefusalUpTo to a c)
  refusals_up_to_after to (Ok x) logs = tt
  refusals_up_to_after to (Err e) logs = refusal_up_to_after to e logs

  pub pushes_after : {T E : Type 0} (result : Result (PlacedView T) E) → IfOk result (λ placed. LogsPush b c placed.place)
      → IfOk result (λ placed. LogsPush a c placed.place)
  pushes_after (Ok placed) logs = win_after (λ index. claim_event index (single placed.place)) AllFilled (single placed.place) logs
  pushes_after (Err e) logs = tt

  pub reached_after : {E : Type 0} (to : ℕ) (result : Result Reached E) → IfOk result (LogsReached to b c)
      → IfOk result (LogsReached to a c)
  reached_after to (Ok (reached.Won run)) logs = claim_after (λ index. raise_event index to run) logs
  reached_after to (Ok (reached.Enough size)) logs = events_after a.log b.log c.log _ more logs
  reached_after to (Err e) logs = tt

-- ---- A run that was claimed, and then filled or not

module _ (old mid new : HandView) where
  -- the steps on its places come after its claim
  pub win_of : (claim : ℕ → Event × Reply) (fate : Fate) (run : Run) (logs : LogsClaim claim old mid)
      → WorksIn mid new run.from run.n → Adds mid.log (fate_steps fate logs.index run) new.log
      → LogsWin claim fate run old new
  win_of claim fate run logs works places = record {
    claimed = record {
      index = logs.index;
      last = ap length works.keeps.seen ∙ logs.last;
      adds = steps_stay old.log mid.log new.log (step_of (claim logs.index)) logs.adds works.more;
    };
    places = steps_join old.log mid.log new.log (step_of (claim logs.index)) (fate_steps fate logs.index run) logs.adds places;
  }

  module _ (run : Run) (logs : LogsClaimed old mid run) (is_new : IsNewRun mid run) (works : WorksIn mid new run.from run.n) where
    owns : (some : 0 < run.n) → OwnsRunAt mid (logs.some some).index run
    owns some = is_new.owned some (logs.some some).index (logs.some some).last

    -- so of a growth, which may have no places
    pub growth_of : (fate : Fate) → AddsOn mid new run (λ index. fate_steps fate index run) → LogsGrowth fate old new run
    growth_of fate adds = record {
      some = λ some_places.
          let claimed = logs.some some_places in
          win_of (λ index. claim_event index run) fate run claimed works (adds claimed.index (owns some_places));
      empty = λ no_places. steps_stay old.log mid.log new.log (step_of (claim_event 0 run)) (logs.empty no_places) works.more;
    }

    -- and of one that could not fill its run
    pub stopped_of : {T V E : Type 0} (vector : VectorView T) (wanted : ℕ) (e : GrowError T V E) → run.n ≡ wanted → StopsIn vector run e → StopsWith mid new run e
        → LogsRefusal wanted old new e
    stopped_of vector wanted (NoMemory back) n s stops = absurd s
    stopped_of vector wanted (Full size back) n s stops = absurd s
    stopped_of vector wanted (Moved size back) n s stops = absurd s
    stopped_of vector wanted (Refused of made cause) n s stops =
        let some_places : 0 < run.n = omega (arith, s.2) in
        let claimed = logs.some some_places in
        subst (λ (r : Run). LogsWin (λ index. claim_event index r) (PartFilled made.run.n) r old new) (sym s.0)
        (win_of (λ index. claim_event index run) (PartFilled made.run.n) run claimed works (stops claimed.index (owns some_places)))
    stopped_of vector wanted (Taken place found) n s stops = absurd s

    -- all its places are filled
    pub grown_logged : (grown : Run) → grown ≡ run → AddsOn mid new run (λ index. fill_steps index run.from run.n) → LogsGrowth AllFilled old new grown
    grown_logged grown same adds = subst (λ (r : Run). LogsGrowth AllFilled old new r) (sym same) (growth_of AllFilled adds)

    -- the same of all that a call may return
    pub grown_all_logged : {T E : Type 0} (result : Result (GrownView T) E) → IfOk result (λ grown. grown.run ≡ run)
        → IfOk result (λ grown. AddsOn mid new run (λ index. fill_steps index run.from run.n))
        → IfOk result (λ grown. LogsGrowth AllFilled old new grown.run)
    grown_all_logged (Ok grown) same adds = grown_logged grown.run same adds
    grown_all_logged (Err e) same adds = tt

    pub stopped_all_logged : {X T V E : Type 0} (vector : VectorView T) (wanted : ℕ) (result : Result X (GrowError T V E)) → run.n ≡ wanted
        → IfErr result (StopsIn vector run) → IfErr result (StopsWith mid new run) → IfErr result (LogsRefusal wanted old new)
    stopped_all_logged vector wanted (Ok x) n s stops = tt
    stopped_all_logged vector wanted (Err e) n s stops = stopped_of vector wanted e n s stops

  -- ---- The same of a growth up to a size

  module _ (to : ℕ) (run : Run) (claimed : LogsClaim (λ index. raise_event index to run) old mid) (some_places : 0 < run.n)
      (is_new : IsNewRun mid run) (works : WorksIn mid new run.from run.n) where
    owned : OwnsRunAt mid claimed.index run
    owned = is_new.owned some_places claimed.index claimed.last

    pub ran_of : (grown : Run) → grown ≡ run → AddsOn mid new run (λ index. fill_steps index run.from run.n)
        → LogsWin (λ index. raise_event index to grown) AllFilled grown old new
    ran_of grown same adds =
        subst (λ (r : Run). LogsWin (λ index. raise_event index to r) AllFilled r old new) (sym same)
        (win_of (λ index. raise_event index to run) AllFilled run claimed works (adds claimed.index owned))

    pub stopped_up_to_of : {T V E : Type 0} (vector : VectorView T) (e : GrowError T V E) → run.from + run.n ≡ to → StopsIn vector run e → StopsWith mid new run e
        → LogsRefusalUpTo to old new e
    stopped_up_to_of vector (NoMemory back) ends s stops = absurd s
    stopped_up_to_of vector (Full size back) ends s stops = absurd s
    stopped_up_to_of vector (Moved size back) ends s stops = absurd s
    stopped_up_to_of vector (Refused of made cause) ends s stops =
        subst (λ (r : Run). LogsWin (λ index. raise_event index to r) (PartFilled made.run.n) r old new) (sym s.0)
        (win_of (λ index. raise_event index to run) (PartFilled made.run.n) run claimed works (stops claimed.index owned))
    stopped_up_to_of vector (Taken place found) ends s stops = absurd s

-- ---- A claim

-- the hand owns a run that it has just claimed, under the last index that it has seen
pub owned_of : AddedRunsAreLast → (old new : HandView) (run : Run) → AddsRun old new run → (index : ℕ) → length new.seen ≡ index + 1
    → OwnsRunAt new index run
owned_of law old new run adds index is_last =
    let gained = law old new run adds in
    let same : gained.0 ≡ index = omega (arith, gained.1.last, is_last) in
    subst (λ (k : ℕ). OwnsRunAt new k run) same (record {
      owned = subst (λ (l : List ℕ). Contains l gained.0) (sym gained.1.mine) (0, omega arith, refl);
      sees = gained.1.sees;
    })

pub new_run_of : AddedRunsAreLast → AddedPlacesAreNotBegun → (old new : HandView) (run : Run) → SeesBegun old → KeepsCells old new
    → AddsRun old new run → IsNewRun new run
new_run_of last law old new run sees keeps adds = record {
  owned = λ some_places. owned_of last old new run adds;
  fresh = claimed_fresh law old new run sees keeps adds;
}

-- a claim that one step has logged
pub claim_of : (claim : ℕ → Event × Reply) (old mid : HandView) (index : ℕ) → length mid.seen ≡ index + 1
    → AddsEvents old.log (claim index ∷ []) mid.log → LogsClaim claim old mid
claim_of claim old mid index last added =
    record { index = index; last = last; adds = one_step old.log mid.log (claim index ∷ []) added }

-- ---- One push

-- A hand finds the segment, which logs nothing, claims the place, and fills it
pub push_of : AddedRunsAreLast → SeenRunsHavePlaces → (old found mid new : HandView) (place : ℕ) → IsPrefix old.log found.log
    → AddsRun found mid (single place) → LogsRun found mid (single place) → WorksIn mid new place 1
    → AddsAt mid new place (λ index. fill_event index place) → LogsPush old new place
unfolding claim_of
push_of last have old found mid new place more adds logs works filled =
    let claim = λ (index : ℕ). claim_event index (single place) in
    let owned = owned_of last found mid (single place) adds logs.index logs.last in
    let here = claimed_owned have mid logs.index (single place) owned place (omega arith, omega arith) in
    win_after old found new more claim AllFilled (single place)
    (win_of found mid new claim AllFilled (single place) (claim_of claim found mid logs.index logs.last logs.adds) works
    (filled logs.index here))
