-- Histories in parts; and what every history keeps, since each event does: the limit, tiling runs, finished
-- cells.
use Rattle.std.proofs.Common.{arith, ◌≡◌, ◌↔◌, ℕ, ◌+◌, ◌<◌, ◌==◌, true, false, zero, suc, if◌then◌else◌, List, [], ◌∷◌, ◌++◌, length, replicate, drop, get_or, drop-cons, add-one, slice_get, ap, refl, sym, ◌∙◌, subst, Option, Some, None, inl, inr}
use Rattle.std.specs.List.{Contains}
use Rattle.std.proofs.lemmas.Bool.Decides.{nat_tests}
use Rattle.std.proofs.lemmas.List.{length-append, length-replicate, length-set}
use Rattle.std.proofs.lemmas.List.Elements.{Contains-append_left, Contains-append_right}
use Rattle.std.proofs.lemmas.Option.{none-some, same_Some}
use Rattle.book_core.specs.declared.cells.Cell.{Cell}
use Rattle.book_core.specs.declared.cells.Cell.TheVariants.{Pending, Filled, Broken}
use Rattle.book_core.specs.declared.events.Event.{Event}
use Rattle.book_core.specs.declared.events.Event.TheVariants.{Finish, Mend}
use Rattle.book_core.specs.declared.events.Reply.{Reply}
use Rattle.book_core.specs.declared.events.Reply.TheVariants as replies
use Rattle.book_core.specs.Cells.{CellList, with_cell, is_pending_for, apply_event}
use Rattle.book_core.specs.Events.{write_in}
use Rattle.book_core.specs.History.{IsHistory, IsLegalFrom, run_of, runs_of, Tile, writes_of}
use Rattle.book_core.specs.Laws.{HistoriesSplit, RunsAreApart, HistoriesTile, FilledCellsStay, BrokenCellsStay, FinishesFill}
use Rattle.book_core.proofs.EventEffects.{Does, WritesCell, IsWriteOf, found_by, pending_is, event_does}
use Rattle.book_core.proofs.Lists.{get_before, get_other, get_set}
use Rattle.book_core.proofs.Runs.{tile-append, runs_within}

-- the entry at an index, and those after it
first_left : (es : List (Event × Reply)) (i : ℕ) (d : Event × Reply) → i < length es
    → drop i es ≡ get_or es i d ∷ drop (i + 1) es
first_left es i d inside = rw (add-one, drop-cons es i d) refl

-- an event that leads to one list, with one reply, leads to no other
same_after : (o : Option (CellList × Reply)) (mid other : CellList) (reply : Reply) → o ≡ Some (mid, reply)
    → o ≡ Some (other, reply) → other ≡ mid
same_after o mid other reply here there = ap (λ (after : CellList × Reply). after.0) (same_Some (other, reply) (mid, reply) (sym there ∙ here))

-- after the next event, what is left is legal exactly if it was with that event
pub after_next : (old mid : CellList) (es : List (Event × Reply)) (i : ℕ) (d : Event × Reply) (whole : Type 0)
    → i < length es → (IsLegalFrom old (drop i es) ↔ whole)
    → apply_event old (get_or es i d).0 ≡ Some (mid, (get_or es i d).1)
    → (IsLegalFrom mid (drop (i + 1) es) ↔ whole)
after_next old mid es i d whole inside so_far happens =
    let split : IsLegalFrom old (get_or es i d ∷ drop (i + 1) es) ↔ whole = subst (λ left. IsLegalFrom old left ↔ whole) (first_left es i d inside) so_far in (
      (λ legal. split.0 (legal.0, (mid, happens, legal.1))),
      (λ is.
          let legal : IsLegalFrom old (get_or es i d ∷ drop (i + 1) es) = split.1 is in
          (legal.0, subst (λ from. IsHistory from (drop (i + 1) es) legal.0) (same_after _ mid legal.1.0 _ happens legal.1.1) legal.1.2)),
    )

-- ---- Histories one after the other

pub IsHistory-append : (old : CellList) (es fs : List (Event × Reply)) (mid new : CellList) → IsHistory old es mid
    → IsHistory mid fs new → IsHistory old (es ++ fs) new
IsHistory-append old [] fs mid new first second = subst (λ v. IsHistory v fs new) first second
IsHistory-append old (e ∷ es) fs mid new (next, is, others) second = (next, is, IsHistory-append next es fs mid new others second)

-- a history in two parts is two histories
pub IsHistory-split : (old : CellList) (es fs : List (Event × Reply)) (new : CellList)
    → IsHistory old (es ++ fs) new → (mid : CellList) × IsHistory old es mid × IsHistory mid fs new
IsHistory-split old [] fs new history = (old, refl, history)
IsHistory-split old (e ∷ es) fs new (next, is, others) =
    let (mid, first, second) = IsHistory-split next es fs new others in
    (mid, (next, is, first), second)

-- one more event goes at the end of a history
pub IsHistory-push : (old : CellList) (es : List (Event × Reply)) (mid new : CellList) (event : Event) (reply : Reply)
    → IsHistory old es mid → apply_event mid event ≡ Some (new, reply)
    → IsHistory old (es ++ (event, reply) ∷ []) new
IsHistory-push old es mid new event reply history applies = IsHistory-append old es ((event, reply) ∷ []) mid new history (new, applies, refl)

pub histories_split : HistoriesSplit
histories_split old new es fs =
    (IsHistory-split old es fs new, λ (mid, first, second). IsHistory-append old es fs mid new first second)

-- ---- What every event keeps, every history keeps

-- no event moves the limit
limit_kept : (v : CellList) (event : Event) (w : CellList) (reply : Reply) → Does v event w reply → w.limit ≡ v.limit
limit_kept v event w reply does = elim does [
  | inl nothing ↦ ap (λ (x : CellList). x.limit) nothing.list
  | inr (inl run) ↦ ap (λ (x : CellList). x.limit) run.list
  | inr (inr write) ↦ ap (λ (x : CellList). x.limit) write.list
]

pub history_limit : (old : CellList) (es : List (Event × Reply)) (new : CellList) → IsHistory old es new
    → new.limit ≡ old.limit
history_limit old [] new is = ap (λ (v : CellList). v.limit) is
history_limit old (e ∷ es) new (mid, first, others) =
    history_limit mid es new others ∙ limit_kept old e.0 mid e.1 (event_does old e.0 mid e.1 first)

-- the run of an event tiles the places that it appends
run_tiles : (v : CellList) (event : Event) (w : CellList) (reply : Reply) → Does v event w reply
    → Tile (length v.cells) (run_of event reply) (length w.cells)
run_tiles v event w reply does = elim does [
  | inl nothing ↦ subst (λ runs. Tile (length v.cells) runs (length w.cells)) (sym nothing.run) (ap (λ (x : CellList). length x.cells) (sym nothing.list))
  | inr (inl run) ↦
      subst (λ runs. Tile (length v.cells) runs (length w.cells)) (sym run.run)
      (refl, sym (ap (λ (x : CellList). length x.cells) run.list ∙ length-append v.cells (replicate run.n (Pending run.actor)) ∙ ap (λ k. length v.cells + k) (length-replicate run.n (Pending run.actor))))
  | inr (inr write) ↦
      subst (λ runs. Tile (length v.cells) runs (length w.cells)) (sym write.run)
      (sym (ap (λ (x : CellList). length x.cells) write.list ∙ length-set v.cells write.at write.cell))
]

pub runs_tile : HistoriesTile
runs_tile old new [] is = ap (λ (v : CellList). length v.cells) (sym is)
runs_tile old new (e ∷ es) (mid, first, others) =
    tile-append (length old.cells) (length mid.cells) (length new.cells) (run_of e.0 e.1) (runs_of es)
    (run_tiles old e.0 mid e.1 (event_does old e.0 mid e.1 first)) (runs_tile mid new es others)

pub runs_are_apart : RunsAreApart
runs_are_apart old mid new es fs run later first second is_first is_later =
    let ends = runs_within (length old.cells) (length mid.cells) (runs_of es) run (runs_tile old mid es first) is_first in
    let begins = runs_within (length mid.cells) (length new.cells) (runs_of fs) later (runs_tile mid new fs second) is_later in
    omega arith

-- ---- Filled and broken cells

-- a cell stays if the event doesn't write its place
pub untouched : (v : CellList) (event : Event) (w : CellList) (reply : Reply) (place : ℕ) (cell : Cell)
    → Does v event w reply → ((write : WritesCell v event w reply) → write.at ≡ place → ⊥)
    → slice_get v.cells place ≡ Some cell → slice_get w.cells place ≡ Some cell
untouched v event w reply place cell does apart here = elim does [
  | inl nothing ↦ ap (λ (x : CellList). slice_get x.cells place) nothing.list ∙ here
  | inr (inl run) ↦
      ap (λ (x : CellList). slice_get x.cells place) run.list
      ∙ get_before v.cells (replicate run.n (Pending run.actor)) place cell here
  | inr (inr write) ↦
      ap (λ (x : CellList). slice_get x.cells place) write.list
      ∙ get_other v.cells write.at place write.cell (λ same. apart write (sym same))
      ∙ here
]

-- the cell is filled
abbrev IsFilled : Cell → Type 0
IsFilled (Pending owner) = ⊥
IsFilled (Filled value) = Unit {0}
IsFilled Broken = ⊥

-- nobody writes to a filled place
filled_not_found : (actor : ℕ) (cell : Cell) → IsFilled (found_by actor cell) → ⊥
filled_not_found actor (Pending mender) is = is
filled_not_found actor (Filled value) is = is
filled_not_found actor Broken is = is

-- the cell is broken
abbrev IsBroken : Cell → Type 0
IsBroken (Pending owner) = ⊥
IsBroken (Filled value) = ⊥
IsBroken Broken = Unit {0}

-- an actor that writes to a broken place mends it
broken_mended : (actor at : ℕ) (cell : Cell) (event : Event) (reply : Reply) → IsWriteOf actor at cell event reply
    → IsBroken (found_by actor cell) → event ≡ Mend actor at
broken_mended actor at (Pending mender) event reply write is = write.1
broken_mended actor at (Filled value) event reply write is = absurd is
broken_mended actor at Broken event reply write is = absurd is

-- a write finds the cell of its place
found_here : {v : CellList} {event : Event} {w : CellList} {reply : Reply} (write : WritesCell v event w reply) (place : ℕ) (cell : Cell)
    → write.at ≡ place → slice_get v.cells place ≡ Some cell → cell ≡ found_by write.actor write.cell
found_here {v = v} write place cell same here =
    same_Some cell (found_by write.actor write.cell) (sym (ap (λ q. slice_get v.cells q) same ∙ here) ∙ write.found)

filled_stays : (v : CellList) (event : Event) (w : CellList) (reply : Reply) (place value : ℕ) → Does v event w reply
    → slice_get v.cells place ≡ Some (Filled value) → slice_get w.cells place ≡ Some (Filled value)
filled_stays v event w reply place value does here =
    untouched v event w reply place (Filled value) does
    (λ write same. filled_not_found write.actor write.cell (subst (λ c. IsFilled c) (found_here write place (Filled value) same here) tt)) here

pub filled_cells_stay : FilledCellsStay
filled_cells_stay old new [] place value is here = ap (λ (v : CellList). slice_get v.cells place) is ∙ here
filled_cells_stay old new (e ∷ es) place value (mid, first, others) here =
    filled_cells_stay mid new es place value others
    (filled_stays old e.0 mid e.1 place value (event_does old e.0 mid e.1 first) here)

-- an event that writes a place is what it does there
written_there : {v : CellList} {event : Event} {w : CellList} {reply : Reply} (write : WritesCell v event w reply) (place : ℕ)
    → write.at ≡ place → write_in place event ≡ event ∷ []
written_there {event = event} write place same =
    let here : (write.at == place) ≡ true = grind (arith, nat_tests) in
    write.writes place ∙ ap (λ b. if b then event ∷ [] else []) here

broken_stays : (v : CellList) (event : Event) (w : CellList) (reply : Reply) (place : ℕ) → Does v event w reply
    → ((actor : ℕ) → Contains (write_in place event) (Mend actor place) → ⊥)
    → slice_get v.cells place ≡ Some Broken → slice_get w.cells place ≡ Some Broken
broken_stays v event w reply place does unmended here =
    untouched v event w reply place Broken does
    (λ write same.
    let mends : event ≡ Mend write.actor place =
    broken_mended write.actor write.at write.cell event reply write.write (subst (λ c. IsBroken c) (found_here write place Broken same here) tt)
    ∙ ap (Mend write.actor) same
    in
    unmended write.actor (subst (λ xs. Contains xs (Mend write.actor place)) (sym (written_there write place same)) (0, omega arith, mends)))
    here

pub broken_cells_stay : BrokenCellsStay
broken_cells_stay old new [] place is unmended here = ap (λ (v : CellList). slice_get v.cells place) is ∙ here
broken_cells_stay old new (e ∷ es) place (mid, first, others) unmended here =
    broken_cells_stay mid new es place others
    (λ actor mended. unmended actor (Contains-append_right (write_in place e.0) (writes_of place es) (Mend actor place) mended))
    (broken_stays old e.0 mid e.1 place (event_does old e.0 mid e.1 first)
    (λ actor mended. unmended actor (Contains-append_left (write_in place e.0) (writes_of place es) (Mend actor place) mended)) here)

-- ---- What fills a place leaves it filled

filled_there : (v : CellList) (actor place value : ℕ) (w : CellList) (reply : Reply)
    → apply_event v (Finish actor place value) ≡ Some (w, reply) → slice_get w.cells place ≡ Some (Filled value)
filled_there v actor place value w reply applies =
    let after : CellList × Reply = (with_cell v place (Filled value), replies.Done) in
    let told : CellList × Reply = (w, reply) in
    elim (is_pending_for actor (slice_get v.cells place)) as (λ b. is_pending_for actor (slice_get v.cells place) ≡ b → (if b then Some after else None) ≡ Some told → slice_get w.cells place ≡ Some (Filled value)) [
      | true ↦ (λ pending is.
          ap (λ (x : CellList × Reply). slice_get x.0.cells place) (sym (same_Some after told is))
          ∙ get_set v.cells place (Pending actor) (Filled value) (pending_is actor (slice_get v.cells place) pending))
      | false ↦ (λ _ is. absurd (none-some told is))
    ]
    refl applies

pub finishes_fill : FinishesFill
finishes_fill old new [] actor place value history (i, inside, is) = absurd (omega arith)
finishes_fill old new (e ∷ es) actor place value (mid, first, others) (zero, inside, is) =
    filled_cells_stay mid new es place value others
    (filled_there old actor place value mid e.1 (subst (λ event. apply_event old event ≡ Some (mid, e.1)) (ap (λ (x : Event × Reply). x.0) is) first))
finishes_fill old new (e ∷ es) actor place value (mid, first, others) (suc i, inside, is) =
    finishes_fill mid new es actor place value others (i, omega arith, is)
