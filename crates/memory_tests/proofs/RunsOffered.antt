-- Steps of a hand on runs of tied cells, by what it gains at each.
use Rattle.std.proofs.Common.{◌≡◌, ℕ, ◌+◌, ◌<◌, Option, Some, None, List, ◌++◌, length, replicate, ap, sym, ◌∙◌, subst}
use Rattle.std.proofs.lemmas.List.{length-replicate}
use Rattle.atomic_table.specs.Seated.{TableId}
use Rattle.tie_core.specs.Tie.{Made, Idle, Begun, Filled}
use Rattle.tie_core.specs.Run.{IsRunMade}
use Rattle.claim_core.specs.declared.seat_view.SeatView.{SeatView}
use Rattle.claim_core.specs.Lengths.{InRun}
use Rattle.claim_core.specs.History.{Log, Adds}
use Rattle.claim_core.specs.Laws.{BegunRunsAreFilled}
use Rattle.claim_core.specs.Hand.{HandView}
use Rattle.claim_core.specs.Lent.{seat_hand}
use Rattle.claim_core.specs.Gain.{ChainGain, GainsChain, GainsAlong}
use Rattle.claim_core.specs.Plays.{places_back, begin_run_gains, fill_run_gains}
use Rattle.memory_tests.specs.Offers.{HasBegunRun, HasFilledRun}

-- updates that a step has run are made
pub run_made : (made : Option (List Made)) (ms : List Made) → made ≡ Some ms → IsRunMade made
run_made None ms is = absurd (cc is)
run_made (Some xs) ms is = tt

-- after a begin
pub begun_run : (told place n : ℕ) (v : SeatView) (made : Option (List Made)) (old new : HandView) → told ≡ place
    → made ≡ Some (replicate n (Idle, Begun)) → GainsAlong (begin_run_gains told v) made old new → HasBegunRun place n old new
begun_run told place n v made old new is made_is gains =
    let here : GainsAlong (begin_run_gains place v) made old new = subst (λ (p : ℕ). GainsAlong (begin_run_gains p v) made old new) is gains in
    let known : GainsAlong (begin_run_gains place v) (Some (replicate n (Idle, Begun))) old new =
    subst (λ (m : Option (List Made)). GainsAlong (begin_run_gains place v) m old new) made_is here in
    let chain = subst (λ (g : ChainGain). GainsChain g old new) (known.1) (known.2) in
    record {
      begun = chain.begun ∙ ap (λ (k : ℕ). places_back place k ++ old.begun) (length-replicate n (Idle, Begun));
      log = chain.log;
    }

-- after a fill of cells that were begun
pub filled_run : BegunRunsAreFilled → (told place n floor : ℕ) (table : TableId) (v : SeatView) (made : Option (List Made)) (old new : HandView)
    → told ≡ place → seat_hand floor table v ≡ old → made ≡ Some (replicate n (Begun, Filled))
    → GainsAlong (fill_run_gains told v) made old new → HasFilledRun place n old new
filled_run in_order told place n floor table v made old new is seat made_is gains index all =
    let here : GainsAlong (fill_run_gains place v) made old new = subst (λ (p : ℕ). GainsAlong (fill_run_gains p v) made old new) is gains in
    let known : GainsAlong (fill_run_gains place v) (Some (replicate n (Begun, Filled))) old new =
    subst (λ (m : Option (List Made)). GainsAlong (fill_run_gains place v) m old new) made_is here in
    let pairs : List Made = replicate n (Begun, Filled) in
    let long : length pairs ≡ n = length-replicate n (Begun, Filled) in
    let steps =
    (known.1).1 index
    (λ i less. subst (λ (h : HandView). InRun h.of.base h.seen index (place + i)) (sym seat) (all i (subst (λ (m : ℕ). i < m) long less)))
    ∙ in_order v.limit index place n in
    subst (λ (ss : List Log). Adds old.log ss new.log) steps ((known.2).log)
