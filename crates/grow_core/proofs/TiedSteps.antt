-- What a hand gains by a step on a tied cell, as the events of what the step returned.
use Rattle.std.proofs.Common.{◌≡◌, ℕ, zero, suc, ◌+◌, ◌<◌, ◌≤◌, List, [], ◌∷◌, ◌++◌, refl, sym, ap, ◌∙◌, subst, inl, inr, ⊎_elim, arith}
use Rattle.std.specs.Prelude.{Option, Some, None, Result, Ok, Err, IfOk, IfErr, length, replicate, slice_index_or}
use Rattle.std.proofs.lemmas.List.{length-replicate}
use Rattle.std.specs.List.{Contains}
use Rattle.std.proofs.lemmas.List.Elements.{Contains-append_right, Contains-append_cases}
use Rattle.atomic_table.specs.Seated.{TableId}
use Rattle.tie_core.specs.Tie.{Stage, Idle, Begun, Mending, Filled, Broken, Made, Shows, HasMade, looks, mends}
use Rattle.book_core.specs.declared.events.Event.{Event}
use Rattle.book_core.specs.declared.events.Reply.{Reply}
use Rattle.cell_core.specs.declared.block.shown.Look.{Look}
use Rattle.cell_core.specs.declared.block.shown.Look.TheVariants as look
use Rattle.cell_core.specs.declared.block.shown.Found.{Found}
use Rattle.cell_core.specs.declared.block.shown.Found.TheVariants as found
use Rattle.cell_core.specs.Block.{IsBrokenState}
use Rattle.cell_core.specs.Shown.{IsFoundOf, IsLookOf}
use Rattle.cell_core.specs.Slot.{filled_state}
use Rattle.claim_core.specs.declared.role.RowAt.{RowAt}
use Rattle.claim_core.specs.declared.seat_view.SeatView.{SeatView}
use Rattle.claim_core.specs.Lengths.{InRun}
use Rattle.claim_core.specs.Hand.{HandView}
use Rattle.claim_core.specs.History.{Log, Adds, fill_event, break_event, mend_event, mender_of}
use Rattle.claim_core.specs.Gain.{Gain, Gains, GainsBy, ChainGain, GainsAlong, GainsChain, an_event, a_begin}
use Rattle.claim_core.specs.Laws.{BegunPlacesAreOfTheRun, BegunRunsAreFilled, RunsAreApart}
use Rattle.claim_core.specs.Lent.{seat_hand}
use Rattle.claim_core.specs.Plays.{cell_stage, look_gains, begin_gains, fill_gains, spoil_gains, mend_gains, fill_mended_gains, begin_run_gains, fill_run_gains, places_back}
use Rattle.claim_core.specs.SeatSteps.{look_event, try_event}
use Rattle.grow_core.specs.Logs.{fill_steps, step_of}
use Rattle.grow_core.specs.Shown.{found_steps, look_steps, try_steps}
use Rattle.grow_core.specs.Steps.{KeepsHand, WorksIn, AddsAlong, AddsAt, LooksAt}
use Rattle.grow_core.proofs.Logs.{log_goes_on}
use Rattle.grow_core.proofs.Adds.{one_step, steps_go_on}

-- ---- What a look shows

-- the event of a look is that of what it returned
look_by_stage : {T : Type 0} (place : ℕ) (s : Stage) (shown : Look T) (n : ℕ) → Shows s n → IsLookOf n shown
    → step_of (look_event place (cell_stage s)) ≡ look_steps place shown
look_by_stage place Idle look.Empty n shows is = refl
look_by_stage place Idle look.Busy n shows is = absurd (omega (arith, shows, is))
look_by_stage place Idle (look.Filled value placed) n shows is = absurd (omega (arith, shows, is))
look_by_stage place Idle (look.Broken spoilt) n shows is = absurd (omega (arith, shows, is.0))
look_by_stage place Begun look.Empty n shows is = refl
look_by_stage place Begun look.Busy n shows is = absurd (omega (arith, shows, is))
look_by_stage place Begun (look.Filled value placed) n shows is = absurd (omega (arith, shows, is))
look_by_stage place Begun (look.Broken spoilt) n shows is = absurd (omega (arith, shows, is.0))
look_by_stage place Mending look.Empty n shows is = absurd (omega (arith, shows, is))
look_by_stage place Mending look.Busy n shows is = refl
look_by_stage place Mending (look.Filled value placed) n shows is = absurd (omega (arith, shows, is))
look_by_stage place Mending (look.Broken spoilt) n shows is = absurd (omega (arith, shows, is.0))
look_by_stage place Filled look.Empty n shows is = absurd (omega (arith, shows, is))
look_by_stage place Filled look.Busy n shows is = absurd (omega (arith, shows, is))
look_by_stage place Filled (look.Filled value placed) n shows is = refl
look_by_stage place Filled (look.Broken spoilt) n shows is = absurd (is.1 shows)
look_by_stage place Broken look.Empty n shows is = absurd (omega (arith, shows, is))
look_by_stage place Broken look.Busy n shows is = absurd (omega (arith, shows, is))
look_by_stage place Broken (look.Filled value placed) n shows is = absurd (omega (arith, shows, is))
look_by_stage place Broken (look.Broken spoilt) n shows is = refl

-- ---- A hand that has gained something

-- it has seen the same, and owns the same
pub gains_keep : (gain : Gain) (old new : HandView) → Gains gain old new → KeepsHand old new
gains_keep gain old new g =
    record { own = record { of = g.of; mine = g.mine; shares = g.shares }; seen = g.seen }

pub gains_rows : (gain : Gain) (old new : HandView) → Gains gain old new → (row : RowAt) → Contains old.rows row → Contains new.rows row
gains_rows gain old new g row it =
    subst (λ (l : List RowAt). Contains l row) (sym g.rows) (Contains-append_right gain.rows old.rows row it)

-- it has logged one event, and may know more rows
looks_with : (gain : Gain) (event : Event × Reply) (old new : HandView) (steps : List Log) → gain ≡ an_event event → Gains gain old new → step_of event ≡ steps
    → LooksAt old new steps
looks_with gain event old new steps same gains is =
    let g : Gains (an_event event) old new = subst (λ (gain' : Gain). Gains gain' old new) same gains in record {
      finds = record {
        keeps = gains_keep (an_event event) old new g;
        rows = gains_rows (an_event event) old new g;
        begun = g.begun;
        more = log_goes_on old.log (event ∷ []) new.log g.log;
      };
      adds = subst (λ (l : List Log). Adds old.log l new.log) is (one_step old.log new.log (event ∷ []) g.log);
    }

-- it has looked
pub looked : {T : Type 0} (place : ℕ) (v : SeatView) (made : Option Made) (shown : Look T) (n : ℕ) (old new : HandView)
    → HasMade looks n made → IsLookOf n shown → GainsBy (look_gains place v) made old new → LooksAt old new (look_steps place shown)
looked place v None shown n old new has is gains = absurd has
looked place v (Some m) shown n old new has is gains =
    looks_with gains.0 (look_event place (cell_stage m.0)) old new (look_steps place shown) gains.1 gains.2 (look_by_stage place m.0 shown n has.0.0 is)

-- ---- A hand that tries to mend a place, and fills it then

-- the event of a try that found the place broken
tried_broken : (limit place n : ℕ) (s s' : Stage) → 3 < n → Shows s n → s' ≡ Mending
    → try_event limit place (cell_stage s) (cell_stage s') ≡ mend_event limit place
tried_broken limit place n Idle s' past shows is = absurd (omega (arith, past, shows))
tried_broken limit place n Begun s' past shows is = absurd (omega (arith, past, shows))
tried_broken limit place n Mending s' past shows is = absurd (omega (arith, past, shows))
tried_broken limit place n Filled s' past shows is = absurd (omega (arith, past, shows))
tried_broken limit place n Broken s' past shows is = ap (λ (x : Stage). try_event limit place (cell_stage Broken) (cell_stage x)) is

-- the event of one that did not is that of what it found
found_by_stage : {T : Type 0} (limit place : ℕ) (s : Stage) (found : Found T) (n : ℕ) → Shows s n → IsFoundOf n found
    → step_of (try_event limit place (cell_stage s) (cell_stage s)) ≡ found_steps place found
found_by_stage limit place Idle found.Empty n shows is = refl
found_by_stage limit place Idle (found.Busy begun) n shows is = absurd (omega (arith, shows, is))
found_by_stage limit place Idle (found.Filled placed) n shows is = absurd (omega (arith, shows, is))
found_by_stage limit place Idle (found.Broken spoilt) n shows is = absurd (omega (arith, shows, is.0))
found_by_stage limit place Begun found.Empty n shows is = refl
found_by_stage limit place Begun (found.Busy begun) n shows is = absurd (omega (arith, shows, is))
found_by_stage limit place Begun (found.Filled placed) n shows is = absurd (omega (arith, shows, is))
found_by_stage limit place Begun (found.Broken spoilt) n shows is = absurd (omega (arith, shows, is.0))
found_by_stage limit place Mending found.Empty n shows is = absurd (omega (arith, shows, is))
found_by_stage limit place Mending (found.Busy begun) n shows is = refl
found_by_stage limit place Mending (found.Filled placed) n shows is = absurd (omega (arith, shows, is))
found_by_stage limit place Mending (found.Broken spoilt) n shows is = absurd (omega (arith, shows, is.0))
found_by_stage limit place Filled found.Empty n shows is = absurd (omega (arith, shows, is))
found_by_stage limit place Filled (found.Busy begun) n shows is = absurd (omega (arith, shows, is))
found_by_stage limit place Filled (found.Filled placed) n shows is = refl
found_by_stage limit place Filled (found.Broken spoilt) n shows is = absurd (is.1 shows)
found_by_stage limit place Broken found.Empty n shows is = absurd (omega (arith, shows, is))
found_by_stage limit place Broken (found.Busy begun) n shows is = absurd (omega (arith, shows, is))
found_by_stage limit place Broken (found.Filled placed) n shows is = absurd (omega (arith, shows, is))
found_by_stage limit place Broken (found.Broken spoilt) n shows is = refl

pub found_tried : (P : Type 0) {T : Type 0} (limit place : ℕ) (found : Found T) → found_steps place found ≡ try_steps {P = P} limit place (Err found)
found_tried P limit place found.Empty = refl
found_tried P limit place (found.Busy begun) = refl
found_tried P limit place (found.Filled placed) = refl
found_tried P limit place (found.Broken spoilt) = refl

-- it has tried
pub tried : {P T : Type 0} (place : ℕ) (v : SeatView) (made : Option Made) (taken : Result P (Found T)) (old new : HandView)
    → IfOk taken (λ pen. (n : ℕ) × IsBrokenState n × HasMade mends n made)
    → IfErr taken (λ found. (n : ℕ) × HasMade mends n made × (n ≤ filled_state) × IsFoundOf n found)
    → GainsBy (mend_gains place v) made old new → LooksAt old new (try_steps v.limit place taken)
tried place v None (Ok pen) old new has lost gains = absurd gains
tried place v None (Err found) old new has lost gains = absurd gains
tried place v (Some m) (Ok pen) old new has lost gains =
    looks_with gains.0 (try_event v.limit place (cell_stage m.0) (cell_stage m.1)) old new (step_of (mend_event v.limit place)) gains.1 gains.2
    (ap (λ (e : Event × Reply). step_of e) (tried_broken v.limit place has.0 m.0 m.1 (omega (arith, has.1)) has.2.0.0 (has.2.0.1 (omega (arith, has.1)))))
tried {P} place v (Some m) (Err found) old new has lost gains =
    looks_with gains.0 (try_event v.limit place (cell_stage m.0) (cell_stage m.1)) old new (try_steps {P = P} v.limit place (Err found)) gains.1 gains.2
    (ap (λ (s : Stage). step_of (try_event v.limit place (cell_stage m.0) (cell_stage s))) (lost.1.0.2 lost.2)
    ∙ (found_by_stage v.limit place m.0 found lost.0 lost.1.0.0 lost.3 ∙ found_tried P v.limit place found))

-- it has filled the place that it took
pub mended : (place : ℕ) (v : SeatView) (old new : HandView) → GainsBy (fill_mended_gains place v) (Some (Mending, Filled)) old new
    → LooksAt old new (step_of (fill_event (mender_of v.limit place) place))
mended place v old new gains =
    looks_with gains.0 (fill_event (mender_of v.limit place) place) old new (step_of (fill_event (mender_of v.limit place) place)) gains.1.2 gains.2 refl

-- the limit is that of the hand's word
pub limit_of_seat : (floor : ℕ) (table : TableId) (v : SeatView) (hand : HandView) → seat_hand floor table v ≡ hand → v.limit ≡ hand.of.limit
limit_of_seat floor table v hand is = ap (λ (h : HandView). h.of.limit) is

-- a list of one number has no other
alone_at : (x y i : ℕ) → i < 1 → slice_index_or (x ∷ []) i y ≡ y → x ≡ y
alone_at x y zero less is = is
alone_at x y (suc i) less is = absurd (omega (arith, less))

alone_in : (x y : ℕ) → Contains (x ∷ []) y → x ≡ y
alone_in x y it = alone_at x y it.0 it.1 it.2

-- ---- A hand that begins a place of its own, and fills or breaks it

module _ (place : ℕ) where
  pub begun_at : (v : SeatView) (m : Made) (old new : HandView) → GainsBy (begin_gains place v) (Some m) old new → WorksIn old new place 1
  begun_at v m old new gains =
      let g : Gains (a_begin place) old new = subst (λ (gain : Gain). Gains gain old new) gains.1 gains.2 in record {
        keeps = gains_keep (a_begin place) old new g;
        rows = g.rows;
        begun = λ q it.
            ⊎_elim (λ (first : Contains (place ∷ []) q). let same = alone_in place q first in inl (omega (arith, same), omega (arith, same)))
            (λ (was : Contains old.begun q). inr was)
            (Contains-append_cases (place ∷ []) old.begun q (subst (λ (l : List ℕ). Contains l q) g.begun it));
        more = log_goes_on old.log [] new.log g.log;
      }

  pub begun_of : (v : SeatView) (o : Option Made) (old new : HandView) → GainsBy (begin_gains place v) o old new → WorksIn old new place 1
  begun_of v None old new gains = absurd gains
  begun_of v (Some m) old new gains = begun_at v m old new gains

  -- a step with one event, which begins nothing
  pub works_with : (event : Event × Reply) (old new : HandView) → Gains (an_event event) old new → WorksIn old new place 1
  works_with event old new g = record {
    keeps = gains_keep (an_event event) old new g;
    rows = g.rows;
    begun = λ q it. inr (subst (λ (l : List ℕ). Contains l q) g.begun it);
    more = log_goes_on old.log (event ∷ []) new.log g.log;
  }

  -- the hand's seat, as the hand
  seat_sees : (floor : ℕ) (table : TableId) (v : SeatView) (hand : HandView) → seat_hand floor table v ≡ hand → (index : ℕ)
      → InRun v.base v.seen index place → InRun hand.of.base hand.seen index place
  seat_sees floor table v hand is index it = subst (λ (h : HandView). InRun h.of.base h.seen index place) is it

  module _ (law : RunsAreApart) (floor : ℕ) (table : TableId) (v : SeatView) (old new : HandView)
      (is : seat_hand floor table v ≡ old) where
    -- a step on a begun place is of the actor whose index the place's run has
    step_at : (event : ℕ → Event × Reply) → (told : (k : ℕ) × InRun v.base v.seen k place) → Gains (an_event (event told.0)) old new
        → AddsAt old new place event
    step_at event told g index owns =
        let same : told.0 ≡ index = law old.of.base old.seen told.0 index place (seat_sees floor table v old is told.0 told.1) owns.in_run in
        let here : Gains (an_event (event index)) old new = subst (λ (k : ℕ). Gains (an_event (event k)) old new) same g in
        one_step old.log new.log (event index ∷ []) here.log

    -- it is filled
    pub filled_at : GainsBy (fill_gains place v) (Some (Begun, Filled)) old new
        → WorksIn old new place 1 × AddsAt old new place (λ index. fill_event index place)
    filled_at gains =
        let told = gains.1 in
        let g : Gains (an_event (fill_event told.0 place)) old new = subst (λ (gain : Gain). Gains gain old new) told.2 gains.2 in
        (works_with (fill_event told.0 place) old new g, step_at (λ index. fill_event index place) (told.0, told.1) g)

    -- or broken
    pub broken_at : GainsBy (spoil_gains place v) (Some (Begun, Broken)) old new
        → WorksIn old new place 1 × AddsAt old new place (λ index. break_event index place)
    broken_at gains =
        let told = gains.1 in
        let g : Gains (an_event (break_event told.0 place)) old new = subst (λ (gain : Gain). Gains gain old new) told.2 gains.2 in
        (works_with (break_event told.0 place) old new g, step_at (λ index. break_event index place) (told.0, told.1) g)

-- ---- A hand that begins a run of places of its own, and fills them

-- it has seen the same, and owns the same
pub chain_keeps : (gain : ChainGain) (old new : HandView) → GainsChain gain old new → KeepsHand old new
chain_keeps gain old new g =
    record { own = record { of = g.of; mine = g.mine; shares = g.shares }; seen = g.seen }

module _ (place n : ℕ) where
  -- the places that it then knows begun are those of the run
  pub begun_along : BegunPlacesAreOfTheRun → (v : SeatView) (old new : HandView)
      → GainsAlong (begin_run_gains place v) (Some (replicate n (Idle, Begun))) old new → WorksIn old new place n
  begun_along law v old new gains =
      let run : ChainGain = record { steps = []; begun = places_back place n } in
      let same : gains.0 ≡ run = gains.1 ∙ ap (λ (k : ℕ). record { steps = []; begun = places_back place k }) (length-replicate {A = Made} n (Idle, Begun)) in
      let g : GainsChain run old new = subst (λ (gain : ChainGain). GainsChain gain old new) same gains.2 in record {
        keeps = chain_keeps run old new g;
        rows = g.rows;
        begun = λ q it.
            ⊎_elim (λ (now : Contains (places_back place n) q). inl (law place n q now))
            (λ (was : Contains old.begun q). inr was)
            (Contains-append_cases (places_back place n) old.begun q (subst (λ (l : List ℕ). Contains l q) g.begun it));
        more = g.log;
      }

  -- and they are filled, in order, by the actor whose index their run has
  pub filled_along : BegunRunsAreFilled → (floor : ℕ) (table : TableId) (v : SeatView) (old new : HandView)
      → seat_hand floor table v ≡ old → GainsAlong (fill_run_gains place v) (Some (replicate n (Begun, Filled))) old new
      → WorksIn old new place n × AddsAlong old new place n (λ index. fill_steps index place n)
  filled_along law floor table v old new is gains =
      let gain : ChainGain = gains.0 in let told = gains.1 in let g : GainsChain gain old new = gains.2 in (
        record {
          keeps = chain_keeps gain old new g;
          rows = g.rows;
          begun = λ q it. inr (subst (λ (l : List ℕ). Contains (l ++ old.begun) q) told.0 (subst (λ (l : List ℕ). Contains l q) g.begun it));
          more = steps_go_on old.log new.log gain.steps g.log;
        },
        λ index owns.
            let states : List Made = replicate n (Begun, Filled) in let long : length states ≡ n = length-replicate {A = Made} n (Begun, Filled) in
            let along : (i : ℕ) → i < length states → InRun v.base v.seen index (place + i) =
            (λ i less. let near : i < n = omega (arith, less, long) in
            subst (λ (h : HandView). InRun h.of.base h.seen index (place + i)) (sym is) (owns i near).in_run) in
            let steps : gain.steps ≡ fill_steps index place n = told.1 index along ∙ law v.limit index place n in
            subst (λ (ls : List Log). Adds old.log ls new.log) steps g.log,
      )
