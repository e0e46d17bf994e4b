-- Places in a history, by its fills and looks; and histories that are parts of one.
use Rattle.std.proofs.Common.{◌≡◌, ◌⊎◌, ℕ, zero, suc, ◌+◌, ◌<◌, ◌≤◌, ◌==◌, if◌then◌else◌, Bool, true, false, get_or, List, [], ◌∷◌, ◌++◌, length, replicate, Option, Some, None, slice_get, ap, sym, ◌∙◌, subst, inl, inr, ⊎_elim, append_assoc, arith}
use Rattle.std.specs.List.{Contains}
use Rattle.std.proofs.lemmas.Bool.{cases_lt}
use Rattle.std.proofs.lemmas.Bool.Decides.{eqb_tells}
use Rattle.std.proofs.lemmas.List.{length-append, length-replicate}
use Rattle.std.proofs.lemmas.List.Elements.{Contains-append_left, Contains-append_right}
use Rattle.std.proofs.lemmas.List.FromFn.{length-map-range_with_len}
use Rattle.std.proofs.lemmas.Option.{none-some, same_Some, slice_get_past}
use Rattle.book_core.specs.declared.cells.Cell.{Cell}
use Rattle.book_core.specs.declared.cells.Cell.TheVariants.{Pending, Filled, Broken}
use Rattle.book_core.specs.declared.events.Event.{Event}
use Rattle.book_core.specs.declared.events.Event.TheVariants.{Finish, Mend, Look}
use Rattle.book_core.specs.declared.events.Reply.{Reply}
use Rattle.book_core.specs.declared.events.Reply.TheVariants as replies
use Rattle.book_core.specs.Cells.{CellList, with_cell, is_broken, reply_of_look, apply_event}
use Rattle.book_core.specs.History.{IsHistory, IsLegalFrom}
use Rattle.book_core.proofs.EventEffects.{IsWriteOf, ChangesNothing, AppendsRun, WritesCell, event_does}
use Rattle.book_core.proofs.Histories.{IsHistory-split, finishes_fill, filled_cells_stay}
use Rattle.book_core.proofs.Lists.{get_other, get_set, get_appended}
use Rattle.claim_core.specs.History.{Log, value_cell, broken_cell, first_cell, first_list, fill_event}
use Rattle.claim_core.specs.Laws.{FinishedPlacesAreFound, OpenedValuesAreFound, OpenedValuesAreNotMended, FirstStagesGoInOrder, ShownPlacesAreFinished, HistoriesAreOne}
use Rattle.tie_core.specs.Tie.{Stage, stages_from}
use Rattle.claim_core.specs.Ties.{opened_stage}
use Rattle.claim_core.proofs.Logged.{first_at_place}
use Rattle.claim_core.proofs.FillLaws.{front_get}
use Rattle.claim_core.proofs.Prefixes.{prefix_shorter}

-- ---- Looks

-- the reply of a look is what the list has at the place
look_tells : (v : CellList) (place : ℕ) (w : CellList) (reply : Reply) → apply_event v (Look 0 place) ≡ Some (w, reply)
    → reply_of_look (length v.cells) (slice_get v.cells place) ≡ reply
look_tells v place w reply applies =
    ap (λ (x : CellList × Reply). x.1) (same_Some (v, reply_of_look (length v.cells) (slice_get v.cells place)) (w, reply) applies)

pub finished_places_are_found : FinishedPlacesAreFound
finished_places_are_found limit base actor place filled old new reply fills (mid, added, (rest, is)) history =
    let first = first_list limit base filled in
    let es : Log = old ++ added.since in
    let look : Log = (Look 0 place, reply) ∷ [] in
    let all : new ≡ es ++ (look ++ rest) = sym is ∙ (ap (λ (l : Log). l ++ rest) added.is ∙ append_assoc es look rest) in
    let legal : IsLegalFrom first (es ++ (look ++ rest)) = subst (IsLegalFrom first) all history.legal in
    let (before, one, (next, applies, others)) = IsHistory-split first es (look ++ rest) legal.0 legal.1 in
    let there : Contains es (fill_event actor place) = Contains-append_left old added.since (fill_event actor place) fills in
    let here : slice_get before.cells place ≡ Some (value_cell place) = finishes_fill first before es actor place place one there in
    sym (look_tells before place next reply applies) ∙ ap (reply_of_look (length before.cells)) here

-- a place that a word begins with, with a value, has it in each list that a history leads to
opened_stays : (limit base place : ℕ) (filled : List Bool) (es : Log) (v : CellList) → place < base → get_or filled place false ≡ true
    → IsHistory (first_list limit base filled) es v → slice_get v.cells place ≡ Some (value_cell place)
opened_stays limit base place filled es v below has history =
    filled_cells_stay (first_list limit base filled) v es place place history
    (first_at_place base filled place below ∙ ap (λ b. Some (if b then value_cell place else broken_cell)) has)

pub opened_values_are_found : OpenedValuesAreFound
opened_values_are_found limit base place filled old new reply below has (mid, added, (rest, is)) history =
    let first = first_list limit base filled in
    let es : Log = old ++ added.since in
    let look : Log = (Look 0 place, reply) ∷ [] in
    let all : new ≡ es ++ (look ++ rest) = sym is ∙ (ap (λ (l : Log). l ++ rest) added.is ∙ append_assoc es look rest) in
    let legal : IsLegalFrom first (es ++ (look ++ rest)) = subst (IsLegalFrom first) all history.legal in
    let (before, one, (next, applies, others)) = IsHistory-split first es (look ++ rest) legal.0 legal.1 in
    let here : slice_get before.cells place ≡ Some (value_cell place) = opened_stays limit base place filled es before below has one in
    sym (look_tells before place next reply applies) ∙ ap (reply_of_look (length before.cells)) here

-- a place with a value is not mended
not_mended : (v : CellList) (actor place : ℕ) (cell : Option Cell) (told : CellList × Reply) → cell ≡ Some (value_cell place)
    → (if is_broken cell then Some (with_cell v place (Pending actor), replies.Done) else None) ≡ Some told → ⊥
not_mended v actor place cell told here applies =
    none-some told (sym (ap (λ o. if is_broken o then Some (with_cell v place (Pending actor), replies.Done) else None) here) ∙ applies)

pub opened_values_are_not_mended : OpenedValuesAreNotMended
opened_values_are_not_mended limit base actor place filled old new reply below has (mid, added, (rest, is)) history =
    let first = first_list limit base filled in
    let es : Log = old ++ added.since in
    let mend : Log = (Mend actor place, reply) ∷ [] in
    let all : new ≡ es ++ (mend ++ rest) = sym is ∙ (ap (λ (l : Log). l ++ rest) added.is ∙ append_assoc es mend rest) in
    let legal : IsLegalFrom first (es ++ (mend ++ rest)) = subst (IsLegalFrom first) all history.legal in
    let (before, one, (next, applies, others)) = IsHistory-split first es (mend ++ rest) legal.0 legal.1 in
    not_mended before actor place (slice_get before.cells place) (next, reply) (opened_stays limit base place filled es before below has one) applies

-- a look that shows a value found it in the list
value_there : (size value : ℕ) (cell : Option Cell) → reply_of_look size cell ≡ replies.Value value → cell ≡ Some (Filled value)
value_there size value (Some (Pending owner)) is = absurd (cc is)
value_there size value (Some (Filled x)) is = cc is
value_there size value (Some Broken) is = absurd (cc is)
value_there size value None is = absurd (cc is)

-- ---- A place that has a value was filled, unless it had it before

module _ (v : CellList) (event : Event) (w : CellList) (reply : Reply) (place value : ℕ) (here : slice_get w.cells place ≡ Some (Filled value)) where
  -- it had it before the event, or the event is the fill
  abbrev Was : Type 0
  Was = (slice_get v.cells place ≡ Some (Filled value)) ⊎ ((actor : ℕ) × (event ≡ Finish actor place value) × (reply ≡ replies.Done))

  nothing_fills : ChangesNothing v event w reply → Was
  nothing_fills nothing = inl (ap (λ (x : CellList). slice_get x.cells place) (sym nothing.list) ∙ here)

  no_claim_fills : AppendsRun v event w reply → Was
  no_claim_fills run =
      let back = replicate run.n (Pending run.actor) in
      let all = v.cells ++ back in
      let now : slice_get all place ≡ Some (Filled value) = ap (λ (x : CellList). slice_get x.cells place) (sym run.list) ∙ here in
      let long : length all ≡ length v.cells + run.n = length-append v.cells back ∙ ap (λ n. length v.cells + n) (length-replicate run.n (Pending run.actor)) in
      ⊎_elim
      (λ (before : place < length v.cells). inl (front_get v.cells back place before ∙ now))
      (λ (past : length v.cells ≤ place).
      ⊎_elim
      (λ (inside : place < length v.cells + run.n). absurd (cc (get_appended v.cells run.n place (Pending run.actor) past inside, now)))
      (λ (beyond : length v.cells + run.n ≤ place). absurd (none-some (Filled value) (sym (slice_get_past all place (omega arith)) ∙ now)))
      (cases_lt place (length v.cells + run.n)))
      (cases_lt place (length v.cells))

  write_fills : WritesCell v event w reply → Was
  write_fills write =
      let now : slice_get (with_cell v write.at write.cell).cells place ≡ Some (Filled value) =
      ap (λ (x : CellList). slice_get x.cells place) (sym write.list) ∙ here in
      ⊎_elim
      (λ (c : ((place == write.at) ≡ true) × (place ≡ write.at)).
      let set_now : Some write.cell ≡ Some (Filled value) =
      sym (get_set v.cells write.at _ write.cell write.found) ∙ (ap (slice_get (with_cell v write.at write.cell).cells) (sym (c.1)) ∙ now) in
      let by : (event ≡ Finish write.actor write.at value) × (reply ≡ replies.Done) =
      subst (λ (x : Cell). IsWriteOf write.actor write.at x event reply) (same_Some write.cell (Filled value) set_now) write.write in
      inr (write.actor, by.0 ∙ ap (λ (p : ℕ). Finish write.actor p value) (sym (c.1)), by.1))
      (λ (c : ((place == write.at) ≡ false) × (place ≡ write.at → ⊥)). inl (sym (get_other v.cells write.at place write.cell (c.1)) ∙ now))
      (eqb_tells place write.at)

  event_fills : apply_event v event ≡ Some (w, reply) → Was
  event_fills is = elim (event_does v event w reply is) [
    | inl nothing ↦ nothing_fills nothing
    | inr (inl run) ↦ no_claim_fills run
    | inr (inr write) ↦ write_fills write
  ]

-- of each history
pub filled_was_finished : (old : CellList) (es : Log) (new : CellList) (place value : ℕ) → IsHistory old es new
    → slice_get new.cells place ≡ Some (Filled value)
    → (slice_get old.cells place ≡ Some (Filled value)) ⊎ ((actor : ℕ) × Contains es (Finish actor place value, replies.Done))
filled_was_finished old [] new place value history here = inl (ap (λ (x : CellList). slice_get x.cells place) (sym history) ∙ here)
filled_was_finished old (e ∷ es) new place value (mid, first, others) here =
    ⊎_elim
    (λ (was : slice_get mid.cells place ≡ Some (Filled value)).
    ⊎_elim
    (λ (before : slice_get old.cells place ≡ Some (Filled value)). inl before)
    (λ (now : (actor : ℕ) × (e.0 ≡ Finish actor place value) × (e.1 ≡ replies.Done)).
    inr (now.0, (0, omega arith, λ i. (now.1 i, now.2 i))))
    (event_fills old (e.0) mid (e.1) place value was first))
    (λ (later : (actor : ℕ) × Contains es (Finish actor place value, replies.Done)).
    inr (later.0, Contains-append_right (e ∷ []) es (Finish later.0 place value, replies.Done) later.1))
    (filled_was_finished mid es new place value others here)

pub shown_places_are_finished : ShownPlacesAreFinished
shown_places_are_finished limit base place filled before after past history =
    let first = first_list limit base filled in
    let look : Event × Reply = (Look 0 place, replies.Value place) in
    let (mid, one, (next, applies, rest)) = IsHistory-split first before (look ∷ after) history.legal.0 history.legal.1 in
    let shown : slice_get mid.cells place ≡ Some (Filled place) =
    value_there (length mid.cells) place (slice_get mid.cells place) (look_tells mid place next (replies.Value place) applies) in
    let long : length first.cells ≡ base = length-map-range_with_len (first_cell filled) 0 base in
    ⊎_elim
    (λ (began : slice_get first.cells place ≡ Some (Filled place)). absurd (none-some (Filled place) (sym (slice_get_past first.cells place (omega (arith, long, past))) ∙ began)))
    (λ (was : (actor : ℕ) × Contains before (Finish actor place place, replies.Done)). was)
    (filled_was_finished first before mid place place one shown)

-- ---- The cells that a word is opened with

stage_at : (f : ℕ → Stage) (from n i : ℕ) → i < n → slice_get (stages_from f from n) i ≡ Some (f (from + i))
stage_at f from zero i less = absurd (omega arith)
stage_at f from (suc n) zero less = let same : from ≡ from + 0 = omega arith in ap (λ (p : ℕ). Some (f p)) same
stage_at f from (suc n) (suc i) less =
    let same : (from + 1) + i ≡ from + suc i = omega arith in
    stage_at f (from + 1) n i (omega arith) ∙ ap (λ (p : ℕ). Some (f p)) same

pub first_stages_go_in_order : FirstStagesGoInOrder
first_stages_go_in_order base filled from n i less = stage_at (opened_stage base filled) from n i less

-- ---- Parts of one history

pub histories_are_one : HistoriesAreOne
histories_are_one a b all p q =
    ⊎_elim
    (λ (shorter : length a < length b). inl (prefix_shorter a b all p q (omega arith)))
    (λ (longer : length b ≤ length a). inr (prefix_shorter b a all q p longer))
    (cases_lt (length a) (length b))
