-- Steps of a hand on a tied cell, by what it gains at each.
use Rattle.std.proofs.Common.{◌≡◌, ℕ, ◌≤◌, Option, Some, None, List, [], ◌∷◌, ◌++◌, refl, ap, sym, ◌∙◌, subst, arith}
use Rattle.std.specs.Prelude.{Result, Ok, Err, IfOk, IfErr}
use Rattle.atomic_table.specs.Seated.{TableId}
use Rattle.tie_core.specs.Tie.{Stage, Idle, Begun, Mending, Filled, Broken, Made, Step, Shows, IsMade, HasMade, mends}
use Rattle.cell_core.specs.declared.block.shown.Found.{Found}
use Rattle.cell_core.specs.declared.block.shown.Found.TheVariants as found
use Rattle.cell_core.specs.Block.{IsBrokenState}
use Rattle.cell_core.specs.Shown.{IsFoundOf, IsNotBroken}
use Rattle.cell_core.specs.Slot.{filled_state}
use Rattle.claim_core.specs.declared.role.CellStage.TheVariants as stages
use Rattle.claim_core.specs.declared.role.RowAt.{RowAt}
use Rattle.claim_core.specs.declared.seat_view.SeatView.{SeatView}
use Rattle.claim_core.specs.Lengths.{InRun}
use Rattle.claim_core.specs.History.{AddsEvents, fill_event, mend_event, mender_of}
use Rattle.claim_core.specs.Laws.{RunsAreApart, EventsFollow}
use Rattle.claim_core.specs.Word.{WordView}
use Rattle.claim_core.specs.Hand.{HandView, OwnsPlace, seen_size}
use Rattle.claim_core.specs.Lent.{lent_hand, seat_hand}
use Rattle.claim_core.specs.Gain.{Gain, Gains, GainsBy, IsLent, HasSeenPlace, an_event, a_begin}
use Rattle.claim_core.specs.Plays.{cell_stage, look_gains, begin_gains, fill_gains, fill_mended_gains, mend_gains}
use Rattle.claim_core.specs.SeatSteps.{look_event, try_event}
use Rattle.claim_core.specs.Ties.{Finds}
use Rattle.memory_tests.specs.Offers.{HasLooked, HasFilled, HasTried, found_stage}
use Rattle.memory_tests.specs.Opened.{GoesOn}

-- an update that a step has run is made
pub is_made : (step : Step) (n : ℕ) (made : Option Made) → HasMade step n made → IsMade made
is_made step n None has = absurd has
is_made step n (Some m) has = tt

-- what a hand has lent, by other names of the same seat
pub lent_on : {table also_table : TableId} {v also_v : SeatView} {hand lent : HandView} → table ≡ also_table → v ≡ also_v
    → IsLent also_table also_v hand lent → IsLent table v hand lent
lent_on {table} {also_table} {v} {also_v} {hand} {lent} same same_view is =
    subst (λ (z : TableId). IsLent z v hand lent) (sym same) (subst (λ (u : SeatView). IsLent also_table u hand lent) (sym same_view) is)

-- after a look
pub looked : (told place : ℕ) (v : SeatView) (made : Option Made) (old new : HandView) → told ≡ place
    → GainsBy (look_gains told v) made old new → HasLooked place old new
looked told place v None old new is gains = absurd gains
looked told place v (Some m) old new is gains =
    subst (λ (p : ℕ). HasLooked p old new) is
    (cell_stage m.0, (subst (λ (g : Gain). Gains g old new) (gains.1) (gains.2)).log)

-- after a begin
pub begun : (told place : ℕ) (v : SeatView) (made : Option Made) (old new : HandView) → told ≡ place
    → GainsBy (begin_gains told v) made old new → Gains (a_begin place) old new
begun told place v None old new is gains = absurd gains
begun told place v (Some m) old new is gains =
    subst (λ (p : ℕ). Gains (a_begin p) old new) is (subst (λ (g : Gain). Gains g old new) (gains.1) (gains.2))

module _ (place : ℕ) (old mid : HandView) (first : Gains (a_begin place) old mid) where
  -- the hand knows the rows that it knew
  pub still_found : (seat : ℕ) → Finds old.rows place seat → Finds mid.rows place seat
  still_found seat = subst (λ (rows : List RowAt). Finds rows place seat) (sym first.rows)

  -- and has seen its runs
  pub still_seen : OwnsPlace old place → HasSeenPlace mid place
  still_seen owns = (
    owns.0,
    subst (λ (l : List ℕ). InRun mid.of.base l (owns.0) place) (sym first.seen)
        (subst (λ (w : WordView). InRun w.base old.seen (owns.0) place) (sym first.of) (owns.2)),
  )

-- after the fill
filled_at : RunsAreApart → EventsFollow → (place floor : ℕ) (table : TableId) (v : SeatView) (old mid new : HandView)
    → OwnsPlace old place → Gains (a_begin place) old mid → seat_hand floor table v ≡ mid
    → GainsBy (fill_gains place v) (Some (Begun, Filled)) mid new → HasFilled place old new
filled_at apart follow place floor table v old mid new owns first is gains =
    let told = gains.1 in
    let start : v.base ≡ old.of.base = ap (λ (h : HandView). h.of.base) is ∙ ap (λ (w : WordView). w.base) first.of in
    let seen : v.seen ≡ old.seen = ap (λ (h : HandView). h.seen) is ∙ first.seen in
    let in_run : InRun old.of.base old.seen (told.0) place =
    subst (λ (l : List ℕ). InRun old.of.base l (told.0) place) seen (subst (λ (b : ℕ). InRun b v.seen (told.0) place) start (told.1)) in
    let index : told.0 ≡ owns.0 = apart old.of.base old.seen (told.0) (owns.0) place in_run (owns.2) in
    let gain_is : gains.0 ≡ an_event (fill_event (owns.0) place) = told.2 ∙ ap (λ (i : ℕ). an_event (fill_event i place)) index in
    let second = subst (λ (g : Gain). Gains g mid new) gain_is (gains.2) in
    record {
      index = owns.0;
      owned = owns.1;
      in_run = owns.2;
      log = follow old.log mid.log new.log [] (fill_event (owns.0) place ∷ []) first.log second.log;
      begun = second.begun ∙ first.begun;
    }

pub filled : RunsAreApart → EventsFollow → (told place floor : ℕ) (table : TableId) (v : SeatView) (made : Option Made) (old mid new : HandView)
    → OwnsPlace old place → Gains (a_begin place) old mid → seat_hand floor table v ≡ mid → made ≡ Some (Begun, Filled) → told ≡ place
    → GainsBy (fill_gains told v) made mid new → HasFilled place old new
filled apart follow told place floor table v made old mid new owns first seat has is gains =
    filled_at apart follow place floor table v old mid new owns first seat
    (subst (λ (u : ℕ × Option Made). GainsBy (fill_gains u.0 v) u.1 mid new) (λ i. (is i, has i)) gains)

-- a try to mend has run its update
pub tried_made : {P T : Type 0} (made : Option Made) (result : Result P (Found T)) → IfOk result (λ _. (n : ℕ) × IsBrokenState n × HasMade mends n made)
    → IfErr result (λ it. (n : ℕ) × HasMade mends n made × (n ≤ filled_state) × IsFoundOf n it) → IsMade made
tried_made made (Ok pen) won lost = is_made mends (won.0) made (won.2)
tried_made made (Err it) won lost = is_made mends (lost.0) made (lost.1)

-- a state above that of a filled cell shows a broken one
is_broken_stage : (a : Stage) (n : ℕ) → IsBrokenState n → Shows a n → a ≡ Broken
is_broken_stage Idle n more shows = absurd (omega (arith, more, shows))
is_broken_stage Begun n more shows = absurd (omega (arith, more, shows))
is_broken_stage Mending n more shows = absurd (omega (arith, more, shows))
is_broken_stage Filled n more shows = absurd (omega (arith, more, shows))
is_broken_stage Broken n more shows = refl

-- one that leaves the stage shows what a look shows
try_is_look : (limit place : ℕ) (a b : Stage) → b ≡ a → try_event limit place (cell_stage a) (cell_stage b) ≡ look_event place (cell_stage a)
try_is_look limit place Idle b is = refl
try_is_look limit place Begun b is = refl
try_is_look limit place Mending b is = refl
try_is_look limit place Filled b is = refl
try_is_look limit place Broken b is = ap (λ (s : Stage). try_event limit place stages.Broken (cell_stage s)) is

look_is_found : {T : Type 0} (place n : ℕ) (a : Stage) (it : Found T) → Shows a n → IsFoundOf n it → look_event place (cell_stage a) ≡ look_event place (found_stage it)
look_is_found place n Idle found.Empty shows of = refl
look_is_found place n Idle (found.Busy begun) shows of = absurd (omega (arith, shows, of))
look_is_found place n Idle (found.Filled placed) shows of = absurd (omega (arith, shows, of))
look_is_found place n Idle (found.Broken spoilt) shows of = absurd (omega (arith, shows, of.0))
look_is_found place n Begun found.Empty shows of = refl
look_is_found place n Begun (found.Busy begun) shows of = absurd (omega (arith, shows, of))
look_is_found place n Begun (found.Filled placed) shows of = absurd (omega (arith, shows, of))
look_is_found place n Begun (found.Broken spoilt) shows of = absurd (omega (arith, shows, of.0))
look_is_found place n Mending found.Empty shows of = absurd (omega (arith, shows, of))
look_is_found place n Mending (found.Busy begun) shows of = refl
look_is_found place n Mending (found.Filled placed) shows of = absurd (omega (arith, shows, of))
look_is_found place n Mending (found.Broken spoilt) shows of = absurd (omega (arith, shows, of.0))
look_is_found place n Filled found.Empty shows of = absurd (omega (arith, shows, of))
look_is_found place n Filled (found.Busy begun) shows of = absurd (omega (arith, shows, of))
look_is_found place n Filled (found.Filled placed) shows of = refl
look_is_found place n Filled (found.Broken spoilt) shows of = absurd (of.1 shows)
look_is_found place n Broken found.Empty shows of = absurd (omega (arith, shows, of))
look_is_found place n Broken (found.Busy begun) shows of = absurd (omega (arith, shows, of))
look_is_found place n Broken (found.Filled placed) shows of = absurd (omega (arith, shows, of))
look_is_found place n Broken (found.Broken spoilt) shows of = refl

-- after a try to mend
pub tried : {P T : Type 0} (told place floor : ℕ) (table : TableId) (v : SeatView) (made : Option Made) (old new : HandView) (result : Result P (Found T))
    → told ≡ place → seat_hand floor table v ≡ old → IfOk result (λ _. (n : ℕ) × IsBrokenState n × HasMade mends n made)
    → IfErr result (λ it. (n : ℕ) × HasMade mends n made × (n ≤ filled_state) × IsFoundOf n it) → IfErr result IsNotBroken
    → GainsBy (mend_gains told v) made old new → HasTried place old new result
tried told place floor table v None old new result is seat won lost whole gains = absurd gains
tried told place floor table v (Some m) old new (Ok pen) is seat won lost whole gains =
    let moves = won.2.0 in
    let from : m.0 ≡ Broken = is_broken_stage (m.0) (won.0) (won.1) (moves.0) in let to : m.1 ≡ Mending = moves.1 (won.1) in
    let limit : v.limit ≡ old.of.limit = ap (λ (h : HandView). h.of.limit) seat in
    let event : try_event v.limit told (cell_stage (m.0)) (cell_stage (m.1)) ≡ mend_event old.of.limit place =
    λ i. try_event (limit i) (is i) (cell_stage (from i)) (cell_stage (to i)) in
    subst (λ e. AddsEvents old.log (e ∷ []) new.log) event (subst (λ (g : Gain). Gains g old new) (gains.1) (gains.2)).log
tried told place floor table v (Some m) old new (Err it) is seat won lost whole gains =
    let stays : m.1 ≡ m.0 = lost.1.0.2 (lost.2) in
    let event : try_event v.limit told (cell_stage (m.0)) (cell_stage (m.1)) ≡ look_event place (found_stage it) =
    try_is_look v.limit told (m.0) (m.1) stays ∙ (ap (λ (p : ℕ). look_event p (cell_stage (m.0))) is
    ∙ look_is_found place (lost.0) (m.0) it (lost.1.0.0) (lost.3)) in
    (whole, subst (λ e. AddsEvents old.log (e ∷ []) new.log) event (subst (λ (g : Gain). Gains g old new) (gains.1) (gains.2)).log)

-- a hand that has lent its seat has seen the size that it had seen
pub lent_seen : (hand : HandView) → seen_size (lent_hand hand) ≡ seen_size hand
lent_seen hand = omega arith

-- ---- A hand that goes on after a step on a cell

-- it has gained events alone
goes_on : (gain : Gain) (old new : HandView) → gain.begun ≡ [] → gain.rows ≡ [] → Gains gain old new → GoesOn old new
goes_on gain old new begun rows gains = record {
  of = gains.of;
  seen = gains.seen;
  mine = gains.mine;
  shares = gains.shares;
  begun = gains.begun ∙ ap (λ (l : List ℕ). l ++ old.begun) begun;
  rows = gains.rows ∙ ap (λ (l : List RowAt). l ++ old.rows) rows;
}

pub looked_on : (told : ℕ) (v : SeatView) (made : Option Made) (old new : HandView) → GainsBy (look_gains told v) made old new → GoesOn old new
looked_on told v None old new gains = absurd gains
looked_on told v (Some m) old new gains = goes_on (gains.0) old new (ap (λ (g : Gain). g.begun) (gains.1)) (ap (λ (g : Gain). g.rows) (gains.1)) (gains.2)

pub tried_on : (told : ℕ) (v : SeatView) (made : Option Made) (old new : HandView) → GainsBy (mend_gains told v) made old new → GoesOn old new
tried_on told v None old new gains = absurd gains
tried_on told v (Some m) old new gains = goes_on (gains.0) old new (ap (λ (g : Gain). g.begun) (gains.1)) (ap (λ (g : Gain). g.rows) (gains.1)) (gains.2)

pub mended_on : (told : ℕ) (v : SeatView) (made : Option Made) (old new : HandView) → GainsBy (fill_mended_gains told v) made old new → GoesOn old new
mended_on told v None old new gains = absurd gains
mended_on told v (Some m) old new gains =
    let is = gains.1.2 in
    goes_on (gains.0) old new (ap (λ (g : Gain). g.begun) is) (ap (λ (g : Gain). g.rows) is) (gains.2)

-- after the mender's fill
pub mender_filled : (told place floor : ℕ) (table : TableId) (v : SeatView) (made : Option Made) (old new : HandView) → told ≡ place → seat_hand floor table v ≡ old
    → made ≡ Some (Mending, Filled) → GainsBy (fill_mended_gains told v) made old new → AddsEvents old.log (fill_event (mender_of old.of.limit place) place ∷ []) new.log
mender_filled told place floor table v made old new is seat has gains =
    let here : GainsBy (fill_mended_gains place v) (Some (Mending, Filled)) old new =
    subst (λ (u : ℕ × Option Made). GainsBy (fill_mended_gains u.0 v) u.1 old new) (λ i. (is i, has i)) gains in
    let gain_is : here.0 ≡ an_event (fill_event (mender_of v.limit place) place) = here.1.2 in
    let limit : v.limit ≡ old.of.limit = ap (λ (h : HandView). h.of.limit) seat in
    subst (λ (n : ℕ). AddsEvents old.log (fill_event (mender_of n place) place ∷ []) new.log) limit
    (subst (λ (g : Gain). Gains g old new) gain_is (here.2)).log

-- after a fill, the hand is one of the same word
pub of_same_word : (told : ℕ) (v : SeatView) (made : Option Made) (old new : HandView) → GainsBy (fill_gains told v) made old new → new.of ≡ old.of
of_same_word told v None old new gains = absurd gains
of_same_word told v (Some m) old new gains = gains.2.of
