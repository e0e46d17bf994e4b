-- Steps of a hand on the cells of a list, one after another.
use Rattle.std.proofs.Common.{◌≡◌, ℕ, ◌+◌, ◌<◌, true, false, List, [], ◌∷◌, Some, refl, ap, sym, ◌∙◌, subst, arith}
use Rattle.std.proofs.lemmas.List.{append-nil}
use Rattle.std.specs.Prelude.{get_or}
use mathlib.Core.List.{IsPrefix}
use Rattle.tie_core.specs.Tie.{Tie, row_of, tie_further}
use Rattle.cell_core.specs.Block.{BlockView, cell_at}
use Rattle.cell_core.specs.Slot.{AreTied}
use Rattle.claim_core.specs.declared.role.CellStage.TheVariants as stages
use Rattle.claim_core.specs.declared.role.RowAt.{RowAt}
use Rattle.claim_core.specs.Hand.{HandView}
use Rattle.claim_core.specs.History.{Log, Adds, AddsEvents, IsHistoryOf, fill_event, mend_event, mender_of}
use Rattle.claim_core.specs.Laws.{EventsFollow, OpenedValuesAreFound, PrefixesAddNothing}
use Rattle.claim_core.specs.SeatSteps.{look_event, look_reply}
use Rattle.claim_core.specs.Ties.{Finds}
use Rattle.claim_core.specs.Word.{WordView}
use Rattle.memory_tests.specs.Offers.{HasLooked}
use Rattle.memory_tests.specs.Opened.{HasTakenSteps}

prefix_self : (a : Log) → IsPrefix a a
prefix_self a = ([], append-nil a)

-- one event is a chain of it alone
alone : (a b es : Log) → AddsEvents a es b → Adds a (es ∷ []) b
alone a b es adds = (b, adds, prefix_self b)

-- a place that a word began with shows its value
pub value_found : OpenedValuesAreFound → (word : WordView) (old new : HandView) (place : ℕ) → new.of ≡ word → place < word.base → get_or word.filled place false ≡ true
    → IsHistoryOf new.of.limit new.of.base new.of.filled new.log → HasLooked place old new → AddsEvents old.log (look_event place stages.Filled ∷ []) new.log
value_found law word old new place of low has history looked =
    let legal : IsHistoryOf word.limit word.base word.filled new.log = subst (λ (w : WordView). IsHistoryOf w.limit w.base w.filled new.log) of history in
    let is : look_reply place looked.0 ≡ look_reply place stages.Filled =
    law word.limit word.base place word.filled old.log new.log (look_reply place looked.0) low has (alone old.log new.log (look_event place looked.0 ∷ []) looked.1) legal in
    let same : look_event place looked.0 ≡ look_event place stages.Filled = (λ i. ((look_event place looked.0).0, is i)) in
    subst (λ e. AddsEvents old.log (e ∷ []) new.log) same looked.1

-- a place that is taken for mending, and then filled
pub mended : (limit also_limit place : ℕ) (old mid new : Log) → also_limit ≡ limit → AddsEvents old (mend_event limit place ∷ []) mid
    → AddsEvents mid (fill_event (mender_of also_limit place) place ∷ []) new
    → Adds old ((mend_event limit place ∷ []) ∷ (fill_event (mender_of limit place) place ∷ []) ∷ []) new
mended limit also_limit place old mid new same first second = (
  mid,
  first,
  alone mid new (fill_event (mender_of limit place) place ∷ [])
      (subst (λ (n : ℕ). AddsEvents mid (fill_event (mender_of n place) place ∷ []) new) same second),
)

-- the first row has the cells of its places
pub finds : (rows : List RowAt) (place seat n : ℕ) → rows ≡ record { from = 0; n = n; seat = seat } ∷ [] → place < n → Finds rows place (seat + place)
finds rows place seat n is low =
    let row : RowAt = record { from = 0; n = n; seat = seat } in
    subst (λ (rs : List RowAt). Finds rs place (seat + place)) (sym is)
    (row, (0, omega arith, refl), record { i = place; less = low; at = omega arith; in_seat = refl })

-- the tie of the cell of a place
pub cell_tie : (t u : Tie) (b : BlockView) (k : ℕ) → ((v : Tie) (n i : ℕ) → AreTied (row_of v n) b.cells → i < n → (cell_at b i).tied ≡ Some (tie_further v i))
    → AreTied (row_of t 32) b.cells → u ≡ tie_further t k → k < 32 → (cell_at b k).tied ≡ Some u
cell_tie t u b k law row is low = law t 32 k row low ∙ ap (λ (v : Tie). Some v) (sym is)

-- all steps, in order
pub taken : EventsFollow → PrefixesAddNothing → (limit also_limit : ℕ) (log0 log1 log2 log3 : Log) → also_limit ≡ limit → AddsEvents log0 (look_event 0 stages.Filled ∷ []) log1
    → Adds log1 ((mend_event also_limit 17 ∷ []) ∷ (fill_event (mender_of also_limit 17) 17 ∷ []) ∷ []) log2
    → (index : ℕ) × AddsEvents log2 (fill_event index 20 ∷ []) log3 → HasTakenSteps limit log0 log3
taken follow nothing limit also_limit log0 log1 log2 log3 same looked mends fills =
    let m : Adds log1 ((mend_event limit 17 ∷ []) ∷ (fill_event (mender_of limit 17) 17 ∷ []) ∷ []) log2 =
    subst (λ (n : ℕ). Adds log1 ((mend_event n 17 ∷ []) ∷ (fill_event (mender_of n 17) 17 ∷ []) ∷ []) log2) same mends in
    let mid : Log = m.2.0 in
    let last : AddsEvents mid (fill_event fills.0 20 ∷ []) log3 = follow mid log2 log3 [] (fill_event fills.0 20 ∷ []) ((nothing mid log2).1 m.2.2) fills.1 in
    (fills.0, (log1, looked, (m.0, m.1, (mid, m.2.1, alone mid log3 (fill_event fills.0 20 ∷ []) last))))
