-- The events of steps on cells are legal where the list shows what the cells are at.
use Rattle.std.proofs.Common.{◌≡◌, ◌≢◌, ◌⊎◌, ℕ, ◌<◌, List, [], ◌∷◌, length, Option, Some, None, slice_get, refl, ap, sym, ◌∙◌, inl, inr, ⊎_elim, arith}
use Rattle.std.proofs.lemmas.Option.{none-some, slice_get-get_or}
use Rattle.book_core.specs.declared.cells.Cell.{Cell}
use Rattle.book_core.specs.declared.cells.Cell.TheVariants.{Pending}
use Rattle.book_core.specs.declared.events.Reply.{Reply}
use Rattle.book_core.specs.Cells.{CellList, with_cell, reply_of_look}
use Rattle.book_core.specs.History.{IsHistory}
use Rattle.book_core.proofs.EventRows.{finish_applies, break_applies, mend_applies, look_applies}
use Rattle.claim_core.specs.declared.role.CellStage.{CellStage}
use Rattle.claim_core.specs.declared.role.CellStage.TheVariants as stages
use Rattle.claim_core.specs.Lengths.{InRun}
use Rattle.claim_core.specs.History.{value_cell, broken_cell, mender_of, fill_event, break_event, mend_event}
use Rattle.claim_core.specs.SeatSteps.{look_reply, look_event, writer_of, try_event, IsHeldAt}
use Rattle.claim_core.specs.Ties.{Owed, Matches}
use Rattle.claim_core.proofs.Tiles.{run_apart}

-- ---- Stages

-- a cell is idle, or it is not
pub idle_or_not : (a : CellStage) → (a ≡ stages.Idle) ⊎ (a ≢ stages.Idle)
idle_or_not stages.Idle = inl refl
idle_or_not stages.Begun = inr (λ e. cc e)
idle_or_not stages.Mending = inr (λ e. cc e)
idle_or_not stages.Filled = inr (λ e. cc e)
idle_or_not stages.Broken = inr (λ e. cc e)

-- these stages are not idle
pub begun_is_busy : stages.Begun ≢ stages.Idle
begun_is_busy e = cc e

pub mending_is_busy : stages.Mending ≢ stages.Idle
mending_is_busy e = cc e

pub filled_is_busy : stages.Filled ≢ stages.Idle
filled_is_busy e = cc e

pub broken_is_busy : stages.Broken ≢ stages.Idle
broken_is_busy e = cc e

pub held_is_busy : (a : CellStage) → IsHeldAt a → a ≢ stages.Idle
held_is_busy a held idle =
    ⊎_elim (λ (is : a ≡ stages.Begun). begun_is_busy (sym is ∙ idle)) (λ (is : a ≡ stages.Mending). mending_is_busy (sym is ∙ idle)) held

-- a try that leaves what it finds is a look
pub try_leaves : (limit place : ℕ) (a : CellStage) → try_event limit place a a ≡ look_event place a
try_leaves limit place stages.Idle = refl
try_leaves limit place stages.Begun = refl
try_leaves limit place stages.Mending = refl
try_leaves limit place stages.Filled = refl
try_leaves limit place stages.Broken = refl

-- ---- A place that is claimed

pub claimed : (list : CellList) (place : ℕ) → place < length list.cells → slice_get list.cells place ≡ None → ⊥
claimed list place below none =
    none-some _ (sym none ∙ slice_get-get_or list.cells place broken_cell below)

-- an idle place that is claimed is owed by the growth whose run has it
pub idle_owed : (limit base : ℕ) (lengths : List ℕ) (list : CellList) (place : ℕ) → place < length list.cells
    → Matches limit base lengths place (slice_get list.cells place) stages.Idle → Owed base lengths place (slice_get list.cells place)
idle_owed limit base lengths list place below m =
    ⊎_elim
    (λ (none : slice_get list.cells place ≡ None). absurd (claimed list place below none))
    (λ (owed : Owed base lengths place (slice_get list.cells place)). owed)
    m

shown_reply : (limit base size : ℕ) (lengths : List ℕ) (place : ℕ) (cell : Option Cell) (a : CellStage) → (cell ≡ None → ⊥)
    → Matches limit base lengths place cell a → reply_of_look size cell ≡ look_reply place a
shown_reply limit base size lengths place cell stages.Idle there (inl none) = absurd (there none)
shown_reply limit base size lengths place cell stages.Idle there (inr owed) = ap (reply_of_look size) (owed.2)
shown_reply limit base size lengths place cell stages.Begun there m = ap (reply_of_look size) (m.2)
shown_reply limit base size lengths place cell stages.Mending there m = ap (reply_of_look size) m
shown_reply limit base size lengths place cell stages.Filled there m = ap (reply_of_look size) m
shown_reply limit base size lengths place cell stages.Broken there m = ap (reply_of_look size) m

-- a look
pub look_legal : (limit base : ℕ) (lengths : List ℕ) (list : CellList) (place : ℕ) (a : CellStage) → place < length list.cells
    → Matches limit base lengths place (slice_get list.cells place) a → IsHistory list (look_event place a ∷ []) list
look_legal limit base lengths list place a below m = (
  list,
  look_applies list 0 place (slice_get list.cells place) refl
      ∙ ap (λ (r : Reply). Some (list, r))
      (shown_reply limit base (length list.cells) lengths place (slice_get list.cells place) a (claimed list place below) m),
  refl,
)

-- ---- Who may write a place

-- the run of this index has it, or none, if it is one that the word began with
pub pending_for : (limit base : ℕ) (lengths : List ℕ) (index place : ℕ) (cell : Option Cell) (a : CellStage)
    → InRun base lengths index place ⊎ (place < base) → IsHeldAt a → Matches limit base lengths place cell a
    → cell ≡ Some (Pending (writer_of limit index place a))
pending_for limit base lengths index place cell stages.Idle known held m = absurd (held_is_busy stages.Idle held refl)
pending_for limit base lengths index place cell stages.Begun known held m =
    ⊎_elim
    (λ (in_run : InRun base lengths index place).
    m.2 ∙ ap (λ (k : ℕ). Some (Pending k)) (run_apart base lengths (m.0) index place (m.1) in_run))
    (λ (first : place < base). let after = (m.1).after in absurd (omega arith))
    known
pending_for limit base lengths index place cell stages.Mending known held m = m
pending_for limit base lengths index place cell stages.Filled known held m =
    absurd (⊎_elim (λ (is : stages.Filled ≡ stages.Begun). cc is) (λ (is : stages.Filled ≡ stages.Mending). cc is) held)
pending_for limit base lengths index place cell stages.Broken known held m =
    absurd (⊎_elim (λ (is : stages.Broken ≡ stages.Begun). cc is) (λ (is : stages.Broken ≡ stages.Mending). cc is) held)

pub fill_legal : (list : CellList) (actor place : ℕ) → slice_get list.cells place ≡ Some (Pending actor)
    → IsHistory list (fill_event actor place ∷ []) (with_cell list place (value_cell place))
fill_legal list actor place pending = (with_cell list place (value_cell place), finish_applies list actor place place pending, refl)

pub break_legal : (list : CellList) (actor place : ℕ) → slice_get list.cells place ≡ Some (Pending actor)
    → IsHistory list (break_event actor place ∷ []) (with_cell list place broken_cell)
break_legal list actor place pending = (with_cell list place broken_cell, break_applies list actor place pending, refl)

pub mend_legal : (limit : ℕ) (list : CellList) (place : ℕ) → slice_get list.cells place ≡ Some broken_cell
    → IsHistory list (mend_event limit place ∷ []) (with_cell list place (Pending (mender_of limit place)))
mend_legal limit list place broken =
    (with_cell list place (Pending (mender_of limit place)), mend_applies list (mender_of limit place) place broken, refl)
