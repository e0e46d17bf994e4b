-- What fills places in a legal history.
use Rattle.std.proofs.Common.{◌≡◌, ◌⊎◌, ℕ, zero, suc, get_or, ◌+◌, ◌<◌, ◌≤◌, ◌==◌, Bool, true, false, if◌then◌else◌, List, [], ◌∷◌, ◌++◌, length, replicate, Option, Some, None, slice_get, refl, ap, sym, ◌∙◌, subst, inl, inr, ⊎_elim, append_assoc, arith}
use Rattle.std.specs.List.{Contains}
use Rattle.std.proofs.lemmas.Bool.{cases_lt}
use Rattle.std.proofs.lemmas.Bool.Decides.{eqb_tells}
use Rattle.std.proofs.lemmas.List.{append-nil, length-append, length-replicate}
use Rattle.std.proofs.lemmas.List.Elements.{Contains-append_left, Contains-append_right}
use Rattle.std.proofs.lemmas.List.FromFn.{length-map-range_with_len}
use Rattle.std.proofs.lemmas.Option.{none-some, same_Some, slice_get_past}
use Rattle.book_core.specs.declared.cells.Cell.{Cell}
use Rattle.book_core.specs.declared.cells.Cell.TheVariants.{Pending, Filled, Broken}
use Rattle.book_core.specs.declared.events.Event.{Event}
use Rattle.book_core.specs.declared.events.Event.TheVariants.{Finish, Break, Mend}
use Rattle.book_core.specs.declared.events.Reply.{Reply}
use Rattle.book_core.specs.declared.events.Reply.TheVariants as replies
use Rattle.book_core.specs.Cells.{CellList, with_cell, is_pending_for, apply_event}
use Rattle.book_core.specs.History.{IsHistory, IsLegalFrom, runs_of, owner_of}
use Rattle.book_core.proofs.EventEffects.{IsWriteOf, ChangesNothing, AppendsRun, WritesCell, pending_is, event_does}
use Rattle.book_core.proofs.Histories.{IsHistory-push, IsHistory-split, runs_tile, finishes_fill}
use Rattle.book_core.proofs.Lists.{get_other, get_set, get_appended}
use Rattle.book_core.proofs.Runs.{has_place-true, owner_kept, owner_new, none_past, runs_of-append}
use Rattle.claim_core.specs.History.{Log, value_cell, broken_cell, first_cell, first_list, fill_event, break_event}
use Rattle.claim_core.specs.Laws.{FilledPlacesStay, FillsAreOnce, FillsHaveOwners, BreaksHaveOwners}
use Rattle.claim_core.proofs.Logged.{first_at_place}

pub filled_places_stay : FilledPlacesStay
filled_places_stay limit base actor place filled before after list history =
    finishes_fill (first_list limit base filled) list (before ++ fill_event actor place ∷ after) actor place place history
    (Contains-append_right before (fill_event actor place ∷ after) (fill_event actor place) (0, omega arith, refl))

-- what a write by the actor of a pending place needs
pending_by : (v : CellList) (actor place : ℕ) (after : CellList × Reply) (told : CellList × Reply)
    → (if is_pending_for actor (slice_get v.cells place) then Some after else None) ≡ Some told
    → slice_get v.cells place ≡ Some (Pending actor)
pending_by v actor place after told applies =
    elim (is_pending_for actor (slice_get v.cells place)) as (λ b. is_pending_for actor (slice_get v.cells place) ≡ b → (if b then Some after else None) ≡ Some told → slice_get v.cells place ≡ Some (Pending actor)) [
      | true ↦ (λ pending is. pending_is actor (slice_get v.cells place) pending)
      | false ↦ (λ _ is. absurd (none-some told is))
    ]
    refl applies

-- what a fill needs, and a break
filled_by : (v : CellList) (actor place : ℕ) (w : CellList) (reply : Reply) → apply_event v (Finish actor place place) ≡ Some (w, reply)
    → slice_get v.cells place ≡ Some (Pending actor)
filled_by v actor place w reply applies =
    pending_by v actor place (with_cell v place (Filled place), replies.Done) (w, reply) applies

broken_by : (v : CellList) (actor place : ℕ) (w : CellList) (reply : Reply) → apply_event v (Break actor place) ≡ Some (w, reply)
    → slice_get v.cells place ≡ Some (Pending actor)
broken_by v actor place w reply applies =
    pending_by v actor place (with_cell v place Broken, replies.Done) (w, reply) applies

-- a filled place is not pending
filled_or_pending : (place k : ℕ) (cell : Option Cell) → cell ≡ Some (value_cell place) → cell ≡ Some (Pending k) → ⊥
filled_or_pending place k cell filled pending = cc (filled, pending)

pub fills_are_once : FillsAreOnce
fills_are_once limit base actor other place filled before between after history =
    let first = first_list limit base filled in
    let es : Log = before ++ fill_event actor place ∷ between in
    let legal : IsLegalFrom first (es ++ fill_event other place ∷ after) =
    subst (IsLegalFrom first) (sym (append_assoc before (fill_event actor place ∷ between) (fill_event other place ∷ after))) history.legal in
    let (mid, one, (next, applies, rest)) = IsHistory-split first es (fill_event other place ∷ after) legal.0 legal.1 in
    let here : slice_get mid.cells place ≡ Some (value_cell place) = filled_places_stay limit base actor place filled before between mid one in
    let pending = filled_by mid other place next replies.Done applies in
    filled_or_pending place other (slice_get mid.cells place) here pending

-- ---- Whose each pending place is

-- a pending place is its claim's, or its mender's
abbrev Owes : Log → CellList → Type 0
Owes es v =
    (place k : ℕ) → slice_get v.cells place ≡ Some (Pending k)
    → (owner_of (runs_of es) place ≡ Some k) ⊎ Contains es (Mend k place, replies.Done)

-- what was owed is owed after one more event
owed_still : (es : Log) (e : Event × Reply) (place k : ℕ)
    → (owner_of (runs_of es) place ≡ Some k) ⊎ Contains es (Mend k place, replies.Done)
    → (owner_of (runs_of (es ++ e ∷ [])) place ≡ Some k) ⊎ Contains (es ++ e ∷ []) (Mend k place, replies.Done)
owed_still es e place k was =
    ⊎_elim
    (λ (owned : owner_of (runs_of es) place ≡ Some k).
    inl (ap (λ rs. owner_of rs place) (runs_of-append es (e ∷ [])) ∙ owner_kept (runs_of es) (runs_of (e ∷ [])) place k owned))
    (λ (mended : Contains es (Mend k place, replies.Done)). inr (Contains-append_left es (e ∷ []) (Mend k place, replies.Done) mended))
    was

-- the actor of a pending cell
pending_one : (j k : ℕ) → Some (Pending j) ≡ Some (Pending k) → j ≡ k
pending_one j k is = let e : Pending j ≡ Pending k = same_Some (Pending j) (Pending k) is in cc e

-- a place before an end
pub front_get : {X : Type 0} (front back : List X) (place : ℕ) → place < length front → slice_get front place ≡ slice_get (front ++ back) place
front_get [] back place lt = absurd (omega arith)
front_get (x ∷ front) back zero lt = refl
front_get (x ∷ front) back (suc place) lt = front_get front back place (omega arith)

module _ (start : CellList) (es : Log) (v : CellList) (so_far : IsHistory start es v) (owes : Owes es v) (event : Event) (w : CellList) (reply : Reply) where
  abbrev e : Event × Reply
  e = (event, reply)

  -- no place is written
  nothing_owes : ChangesNothing v event w reply → Owes (es ++ e ∷ []) w
  nothing_owes nothing place k here =
      owed_still es e place k (owes place k (ap (λ (x : CellList). slice_get x.cells place) (sym nothing.list) ∙ here))

  -- places are appended
  appended_owes : (run : AppendsRun v event w reply) → Owes (es ++ e ∷ []) w
  appended_owes run place k here =
      let all = v.cells ++ replicate run.n (Pending run.actor) in
      let now : slice_get all place ≡ Some (Pending k) = ap (λ (x : CellList). slice_get x.cells place) (sym run.list) ∙ here in
      let long : length all ≡ length v.cells + run.n =
      length-append v.cells (replicate run.n (Pending run.actor)) ∙ ap (λ n. length v.cells + n) (length-replicate run.n (Pending run.actor)) in
      ⊎_elim
      (λ (before : place < length v.cells). owed_still es e place k (owes place k (front_get v.cells (replicate run.n (Pending run.actor)) place before ∙ now)))
      (λ (past : length v.cells ≤ place).
      ⊎_elim
      (λ (inside : place < length v.cells + run.n).
      let is : run.actor ≡ k = pending_one run.actor k (sym (get_appended v.cells run.n place (Pending run.actor) past inside) ∙ now) in
      inl (ap (λ rs. owner_of rs place) (runs_of-append es (e ∷ []) ∙ ap (λ rs. runs_of es ++ (rs ++ [])) run.run)
      ∙ (owner_new (runs_of es) (record { owner = run.actor; from = length v.cells; n = run.n } ∷ []) place
      (none_past (length start.cells) (length v.cells) (runs_of es) place (runs_tile start v es so_far) past)
      ∙ (ap (λ b. if b then Some run.actor else None) (has_place-true (record { owner = run.actor; from = length v.cells; n = run.n }) place past inside)
      ∙ ap Some is))))
      (λ (beyond : length v.cells + run.n ≤ place). absurd (none-some (Pending k) (sym (slice_get_past all place (omega arith)) ∙ now)))
      (cases_lt place (length v.cells + run.n)))
      (cases_lt place (length v.cells))

  -- a write that leaves the place pending is a mend
  mended : (write : WritesCell v event w reply) (place k : ℕ) → place ≡ write.at → write.cell ≡ Pending k
      → Contains (es ++ e ∷ []) (Mend k place, replies.Done)
  mended write place k at is =
      let by : (k ≡ write.actor) × (event ≡ Mend write.actor write.at) × (reply ≡ replies.Done) =
      subst (λ (c : Cell). IsWriteOf write.actor write.at c event reply) is write.write in
      let is_event : event ≡ Mend k place =
      by.1 ∙ (ap (λ (j : ℕ). Mend j write.at) (sym (by.0)) ∙ ap (λ (p : ℕ). Mend k p) (sym at)) in
      let is_reply : reply ≡ replies.Done = by.2 in
      Contains-append_right es (e ∷ []) (Mend k place, replies.Done) (0, omega arith, λ i. (is_event i, is_reply i))

  -- a place is written
  written_owes : (write : WritesCell v event w reply) → Owes (es ++ e ∷ []) w
  written_owes write place k here =
      let now : slice_get (with_cell v write.at write.cell).cells place ≡ Some (Pending k) =
      ap (λ (x : CellList). slice_get x.cells place) (sym write.list) ∙ here in
      ⊎_elim
      (λ (c : ((place == write.at) ≡ true) × (place ≡ write.at)).
      let set_now : Some write.cell ≡ Some (Pending k) =
      sym (get_set v.cells write.at _ write.cell write.found) ∙ (ap (slice_get (with_cell v write.at write.cell).cells) (sym (c.1)) ∙ now) in
      inr (mended write place k (c.1) (same_Some write.cell (Pending k) set_now)))
      (λ (c : ((place == write.at) ≡ false) × (place ≡ write.at → ⊥)).
      owed_still es e place k (owes place k (sym (get_other v.cells write.at place write.cell (c.1)) ∙ now)))
      (eqb_tells place write.at)

  pub event_owes : apply_event v event ≡ Some (w, reply) → Owes (es ++ e ∷ []) w
  event_owes is = elim (event_does v event w reply is) [
    | inl nothing ↦ nothing_owes nothing
    | inr (inl run) ↦ appended_owes run
    | inr (inr write) ↦ written_owes write
  ]

-- of each history that goes on
history_owes : (start : CellList) (done : Log) (v : CellList) (es : Log) (w : CellList) → IsHistory start done v → Owes done v
    → IsHistory v es w → Owes (done ++ es) w
history_owes start done v [] w so_far owes is =
    subst (λ (xs : Log). Owes xs w) (sym (append-nil done)) (subst (Owes done) (sym is) owes)
history_owes start done v (e ∷ es) w so_far owes (mid, first, others) =
    subst (λ (xs : Log). Owes xs w) (append_assoc done (e ∷ []) es)
    (history_owes start (done ++ e ∷ []) mid es w (IsHistory-push start done v mid (e.0) (e.1) so_far first)
    (event_owes start done v so_far owes (e.0) mid (e.1) first) others)

-- no place that a word begins with is pending
first_done : (filled : List Bool) (place k : ℕ) (b : Bool) → (if b then value_cell place else broken_cell) ≡ Pending k → ⊥
first_done filled place k true is = cc is
first_done filled place k false is = cc is

first_owes : (limit base : ℕ) (filled : List Bool) → Owes [] (first_list limit base filled)
first_owes limit base filled place k here =
    ⊎_elim
    (λ (below : place < base). absurd (first_done filled place k (get_or filled place false) (same_Some (first_cell filled place) (Pending k) (sym (first_at_place base filled place below) ∙ here))))
    (λ (past : base ≤ place).
    let long : length (first_list limit base filled).cells ≡ base = length-map-range_with_len (first_cell filled) 0 base in
    absurd (none-some (Pending k) (sym (slice_get_past (first_list limit base filled).cells place (omega (arith, long, past))) ∙ here)))
    (cases_lt place base)

-- who owes a place, before an event of a legal history
owed_before : (limit base : ℕ) (filled : List Bool) (before : Log) (mid : CellList) → IsHistory (first_list limit base filled) before mid
    → Owes before mid
owed_before limit base filled before mid one =
    let first = first_list limit base filled in
    history_owes first [] first before mid refl (first_owes limit base filled) one

pub fills_have_owners : FillsHaveOwners
fills_have_owners limit base actor place filled before after history =
    let (mid, one, (next, applies, rest)) = IsHistory-split (first_list limit base filled) before (fill_event actor place ∷ after) history.legal.0 history.legal.1 in
    owed_before limit base filled before mid one place actor (filled_by mid actor place next replies.Done applies)

pub breaks_have_owners : BreaksHaveOwners
breaks_have_owners limit base actor place filled before after history =
    let (mid, one, (next, applies, rest)) = IsHistory-split (first_list limit base filled) before (break_event actor place ∷ after) history.legal.0 history.legal.1 in
    owed_before limit base filled before mid one place actor (broken_by mid actor place next replies.Done applies)
