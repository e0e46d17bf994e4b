-- What a read or a mend logs, and what it returns of a place that its hand had seen finished, or that has a value in the
-- opened list.
use Rattle.std.proofs.Common.{◌≡◌, ℕ, zero, suc, List, [], ◌∷◌, ◌++◌, ◌<◌, if◌then◌else◌, Option, Some, None, length, refl, sym, ap, ◌∙◌, subst, arith, append_assoc}
use Rattle.std.specs.Prelude.{Bool, true, false, Result, Ok, Err, IfErr, IsErrAnd, IsOk, get_or, is_some, slice_get}
use Rattle.std.specs.List.{Contains}
use Rattle.std.proofs.lemmas.List.Elements.{Contains-append_left}
use Rattle.std.proofs.lemmas.Option.{none-some}
use Rattle.book_core.specs.declared.cells.Cell.{Cell}
use Rattle.book_core.specs.declared.cells.Cell.TheVariants.{Pending, Filled}
use Rattle.book_core.specs.declared.events.Event.TheVariants.{Look, Mend}
use Rattle.book_core.specs.declared.events.Reply.{Reply}
use Rattle.book_core.specs.declared.events.Reply.TheVariants as replies
use Rattle.book_core.specs.Cells.{CellList, with_cell, is_broken, apply_event}
use Rattle.book_core.specs.History.{IsLegalFrom}
use Rattle.book_core.proofs.Histories.{IsHistory-split, finishes_fill}
use Rattle.claim_core.specs.Hand.{HandView, seen_size}
use mathlib.Core.List.{IsPrefix}
use Rattle.claim_core.specs.History.{Log, Adds, AddsEvents, IsHistoryOf, first_list, value_cell, fill_event, mend_event, mender_of, past_event}
use Rattle.claim_core.specs.Laws.{FinishedPlacesAreFound, OpenedValuesAreFound, OpenedValuesAreNotMended}
use Rattle.claim_core.specs.Word.{WordView}
use Rattle.grow_core.specs.declared.errors.AtError.{AtError}
use Rattle.grow_core.specs.declared.errors.AtError.TheVariants as at
use Rattle.grow_core.specs.declared.errors.MendError.{MendError}
use Rattle.grow_core.specs.declared.errors.MendError.TheVariants as mend
use Rattle.grow_core.specs.declared.read.At.{At}
use Rattle.grow_core.specs.Logs.{IsFinishedIn, LogsMend, LogsMendRefusal, LogsNoMend, LogsRead, fill_steps, step_of, mend_steps, pending_look, broken_look}
use Rattle.grow_core.specs.Mend.{IsMendDue, IsSeen, IsUnmendedAt, SaysFilled, TellsNoOther, TellsValue}
use Rattle.grow_core.specs.Parts.{filled_in}
use Rattle.grow_core.specs.Read.{ShowsNoOther, ShowsValue}
use Rattle.grow_core.specs.Shown.{LogsShown, unmended_steps}
use Rattle.grow_core.specs.declared.read.Shown.{Shown}
use Rattle.grow_core.specs.declared.read.Shown.TheVariants as shown
use Rattle.grow_core.specs.Token.{PlacedView}
use Rattle.grow_core.specs.Vector.{VectorView, IsOpenedAt}
use Rattle.grow_core.proofs.Adds.{one_step, steps_after, steps_go_on, steps_join}
use Rattle.grow_core.proofs.Logs.{events_after}
use Rattle.grow_core.proofs.Places.{within_length}

-- The hand had seen the place filled
module _ (old new : HandView) (place : ℕ) (done : IsFinishedIn old.log place) (history : IsHistoryOf new.of.limit new.of.base new.of.filled new.log) where
  -- so each look shows its value
  shows_value : FinishedPlacesAreFound → (reply : Reply) → Adds old.log (step_of (Look 0 place, reply)) new.log → reply ≡ replies.Value place
  shows_value law reply adds = law new.of.limit new.of.base done.0 place new.of.filled old.log new.log reply done.1 adds history

  pub not_past : FinishedPlacesAreFound → (size : ℕ) → AddsEvents old.log (past_event place size ∷ []) new.log → ⊥
  not_past law size adds = let is = shows_value law (replies.OutOfRange size) (one_step old.log new.log (past_event place size ∷ []) adds) in cc

  pub not_pending : FinishedPlacesAreFound → Adds old.log (step_of (pending_look place)) new.log → ⊥
  not_pending law adds = let is = shows_value law replies.Pending adds in cc

  pub not_broken : FinishedPlacesAreFound → Adds old.log (step_of (broken_look place)) new.log → ⊥
  not_broken law adds = let is = shows_value law replies.Broken adds in cc

-- no event mends a place that has a value
no_mend_there : (v w : CellList) (actor place value : ℕ) (reply : Reply) → slice_get v.cells place ≡ Some (Filled value)
    → apply_event v (Mend actor place) ≡ Some (w, reply) → ⊥
no_mend_there v w actor place value reply here applies =
    let none : apply_event v (Mend actor place) ≡ None =
    ap (λ (c : Option Cell). if is_broken c then Some (with_cell v place (Pending actor), replies.Done) else None) here in
    none-some (w, reply) (sym none ∙ applies)

-- so no mend of the place is logged
module _ (old new : HandView) (place : ℕ) (done : IsFinishedIn old.log place) (history : IsHistoryOf new.of.limit new.of.base new.of.filled new.log) where
  pub not_mended : (limit : ℕ) (rest : List Log) → Adds old.log (step_of (mend_event limit place) ++ rest) new.log → ⊥
  not_mended limit rest (mid, added, others) =
      let first = first_list new.of.limit new.of.base new.of.filled in
      let es : Log = old.log ++ added.since in let mend : Log = mend_event limit place ∷ [] in
      let goes = steps_go_on mid new.log rest others in
      let all : new.log ≡ es ++ (mend ++ goes.0) = sym goes.1 ∙ (ap (λ (l : Log). l ++ goes.0) added.is ∙ append_assoc es mend goes.0) in
      let legal : IsLegalFrom first (es ++ (mend ++ goes.0)) = subst (IsLegalFrom first) all history.legal in
      let (before, one, (next, applies, later)) = IsHistory-split first es (mend ++ goes.0) legal.0 legal.1 in
      let there : Contains es (fill_event done.0 place) = Contains-append_left old.log added.since (fill_event done.0 place) done.1 in
      let here : slice_get before.cells place ≡ Some (value_cell place) = finishes_fill first before es done.0 place place one there in
      no_mend_there before next (mender_of limit place) place place replies.Done here applies

-- ---- What a read or a mend returns of such a place

module _ (law : FinishedPlacesAreFound) {T : Type 0} (vector : VectorView T) (place : ℕ) (old new : HandView) (done : IsFinishedIn old.log place)
    (history : IsHistoryOf new.of.limit new.of.base new.of.filled new.log) where
  pub finished_read : (result : Result (At T) AtError) → LogsRead place old new result → IsOk result
  finished_read (Ok found) logs = refl
  finished_read (Err (at.OutOfRange size)) logs = absurd (not_past old new place done history law size logs)
  finished_read (Err at.Pending) logs = absurd (not_pending old new place done history law logs)
  finished_read (Err (at.Broken spoilt)) logs = absurd (not_broken old new place done history law logs)

  pub finished_mend : (result : Result (PlacedView T) (MendError T × T)) → LogsMend vector place old new result → IsErrAnd result (λ r. SaysFilled r.0)
  finished_mend (Ok placed) logs = absurd (not_mended old new place done history vector.word.limit (fill_steps (mender_of vector.word.limit place) place 1) logs)
  finished_mend (Err (mend.OutOfRange size, back)) logs = absurd (not_past old new place done history law size logs)
  finished_mend (Err (mend.Pending, back)) logs = absurd (not_pending old new place done history law logs)
  finished_mend (Err (mend.Filled placed, back)) logs = tt

-- ---- What they return of a place that has a value in the opened list

-- which members have a value
filled_there : {X : Type 0} (members : List (Option X)) (place : ℕ) (x : X) → slice_get members place ≡ Some (Some x) → get_or (filled_in members) place false ≡ true
filled_there [] place x at = absurd (let z = at in cc)
filled_there {X} (member ∷ members) zero x at = let same : member ≡ Some x = (let z = at in cc) in ap (λ (m : Option X). is_some m) same
filled_there (member ∷ members) (suc place) x at = filled_there members place x at

module _ {T : Type 0} (vector : VectorView T) (place : ℕ) (x : T) (is : IsOpenedAt vector place x) (below : length vector.opened ≡ vector.word.base)
    (filled : vector.word.filled ≡ filled_in vector.opened) (old new : HandView) (ours : new.of ≡ vector.word) (history : IsHistoryOf new.of.limit new.of.base new.of.filled new.log) where
  opened_below : place < new.of.base
  opened_below = let near = within_length vector.opened place (Some x) is in let base = ap (λ (w : WordView). w.base) ours in omega (arith, near, below, base)

  opened_filled : get_or new.of.filled place false ≡ true
  opened_filled = ap (λ (w : WordView). get_or w.filled place false) ours ∙ ap (λ (l : List Bool). get_or l place false) filled ∙ filled_there vector.opened place x is

  -- each look shows its value
  opened_look : OpenedValuesAreFound → (reply : Reply) → Adds old.log (step_of (Look 0 place, reply)) new.log → reply ≡ replies.Value place
  opened_look law reply adds = law new.of.limit new.of.base place new.of.filled old.log new.log reply opened_below opened_filled adds history

  pub opened_shown : OpenedValuesAreFound → (found : Shown T) → LogsShown place old new found → ShowsNoOther x found → ShowsValue x found
  opened_shown law shown.Pending logs other = absurd (let same = opened_look law replies.Pending logs in cc)
  opened_shown law (shown.Filled at) logs other = other
  opened_shown law (shown.Broken spoilt) logs other = absurd (let same = opened_look law replies.Broken logs in cc)

  pub opened_mended : OpenedValuesAreFound → OpenedValuesAreNotMended → (result : Result (PlacedView T) (MendError T × T)) → LogsMend vector place old new result
      → IfErr result (λ r. TellsNoOther x r.0) → IfErr result (λ r. IsUnmendedAt vector place r.0) → IsErrAnd result (λ r. TellsValue x r.0)
  opened_mended law stay (Ok placed) (mid, added, others) other seen = absurd
      (stay new.of.limit new.of.base (mender_of vector.word.limit place) place new.of.filled old.log new.log replies.Done opened_below opened_filled
      (mid, added, steps_go_on mid new.log (fill_steps (mender_of vector.word.limit place) place 1) others) history)
  opened_mended law stay (Err (mend.OutOfRange size, back)) logs other seen = absurd seen
  opened_mended law stay (Err (mend.Pending, back)) logs other seen = absurd (let same = opened_look law replies.Pending logs in cc)
  opened_mended law stay (Err (mend.Filled placed, back)) logs other seen = other

-- ---- A mend by a hand that has seen more before

module _ {T : Type 0} (vector : VectorView T) (place : ℕ) (a b c : HandView) (more : IsPrefix a.log b.log) where
  pub mend_after : (result : Result (PlacedView T) (MendError T × T)) → LogsMend vector place b c result → LogsMend vector place a c result
  mend_after (Ok placed) logs = steps_after a.log b.log c.log (mend_steps vector.word.limit place) more logs
  mend_after (Err (mend.OutOfRange size, back)) logs = events_after a.log b.log c.log (past_event place size ∷ []) more logs
  mend_after (Err (mend.Pending, back)) logs = steps_after a.log b.log c.log (unmended_steps {T = T} place mend.Pending) more logs
  mend_after (Err (mend.Filled placed, back)) logs = steps_after a.log b.log c.log (unmended_steps place (mend.Filled placed)) more logs

-- a place was not mended, and the look that says why is logged
pub no_mend : {T : Type 0} (vector : VectorView T) (place spot : ℕ) (old new : HandView) (error : MendError T) (back : T) → IsUnmendedAt vector spot error
    → Adds old.log (unmended_steps place error) new.log → LogsNoMend place old new (error, back)
no_mend vector place spot old new (mend.OutOfRange size) back is logs = absurd is
no_mend vector place spot old new mend.Pending back is logs = logs
no_mend vector place spot old new (mend.Filled placed) back is logs = logs

-- it is below the size
pub mend_due : {T : Type 0} (vector : VectorView T) (place : ℕ) (old new : HandView) (error : MendError T) → IsUnmendedAt vector place error → place < seen_size new
    → IsMendDue vector place old new error
mend_due vector place old new (mend.OutOfRange size) is below = absurd is
mend_due vector place old new mend.Pending is below = below
mend_due vector place old new (mend.Filled placed) is below = (below, is.0, is.1)

pub mend_seen : {T : Type 0} (vector : VectorView T) (place : ℕ) (error : MendError T) → IsUnmendedAt vector place error → IsSeen error
mend_seen vector place (mend.OutOfRange size) is = absurd is
mend_seen vector place mend.Pending is = tt
mend_seen vector place (mend.Filled placed) is = tt

pub mend_refusal : {T : Type 0} (vector : VectorView T) (place spot : ℕ) (old new : HandView) (error : MendError T) → IsUnmendedAt vector place error → IsPrefix old.log new.log
    → LogsMendRefusal spot old new error
mend_refusal vector place spot old new (mend.OutOfRange size) is more = absurd is
mend_refusal vector place spot old new mend.Pending is more = more
mend_refusal vector place spot old new (mend.Filled placed) is more = more

-- a place was mended, by the step that took it and the one that filled it
pub mended_steps : (a b c : Log) (limit place : ℕ) → Adds a (step_of (mend_event limit place)) b → Adds b (step_of (fill_event (mender_of limit place) place)) c
    → Adds a (mend_steps limit place) c
mended_steps a b c limit place took filled = steps_join a b c (step_of (mend_event limit place)) (step_of (fill_event (mender_of limit place) place)) took filled
