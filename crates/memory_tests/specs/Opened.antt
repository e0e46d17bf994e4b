-- A list that an owner made in one block, and a hand that goes on after a step.
use Rattle.std.specs.Prelude.{◌≡◌, ℕ, ◌<◌, ◌≤◌, if◌then◌else◌, is_some, slice_get, map, Bool, Option, Some, None, List, [], ◌∷◌, ◌++◌, length}
use base.Fml.{Lft}
use Rattle.tie_core.specs.Tie.{Stage, Idle, Filled, Broken}
use Rattle.cell_core.specs.Block.{BlockView, block_len, cell_at}
use Rattle.cell_core.specs.Fixed.{stage_in}
use Rattle.cell_core.specs.Member.{MemberView, HasNames}
use Rattle.claim_core.specs.declared.role.CellStage.TheVariants as stages
use Rattle.claim_core.specs.History.{Log, Adds, fill_event, mend_event, mender_of}
use Rattle.claim_core.specs.Hand.{HandView}
use Rattle.claim_core.specs.SeatSteps.{look_event}

-- the stage of the cell of a place: filled or broken as its member is, and idle if there is none
abbrev pub member_stage : {T : Type 0} → Option (MemberView T) → Stage
member_stage None = Idle
member_stage (Some m) = if is_some m.value then Filled else Broken

-- which members have a value
abbrev pub values_of : {T : Type 0} → List (MemberView T) → List Bool
values_of row = map (λ m. is_some m.value) row

-- the row has one more member, with this value or none
abbrev pub HasMore : {T : Type 0} → List (MemberView T) → List (MemberView T) → Option T → Type 0
HasMore {T} old new value = (m : MemberView T) × (new ≡ old ++ m ∷ []) × (m.value ≡ value)

-- Each cell of the block is fixed at the stage of its place, and what the row knows of each place is true of its cell. A
-- member without a value is broken for as long as the epoch lasts
pub record IsListIn {T : Type 0} (block : BlockView) (row : List (MemberView T)) (epoch : Lft) : Type 0 where
  pub fits : length row ≤ block_len block
  pub staged : (i : ℕ) → i < block_len block → stage_in (cell_at block i) ≡ Some (member_stage (slice_get row i))
  pub known : (i : ℕ) (m : MemberView T) → slice_get row i ≡ Some m → HasNames (cell_at block i) m.value m.name m.epoch
  pub broken : (i : ℕ) (m : MemberView T) → slice_get row i ≡ Some m → m.value ≡ None → m.epoch ≡ epoch

-- the hand is one of the same word, with the same shares and runs; it knows the same rows, and the same places begun
pub record GoesOn (old new : HandView) : Type 0 where
  pub of : new.of ≡ old.of
  pub seen : new.seen ≡ old.seen
  pub mine : new.mine ≡ old.mine
  pub shares : new.shares ≡ old.shares
  pub begun : new.begun ≡ old.begun
  pub rows : new.rows ≡ old.rows

-- a look at the first place found its value, place 17 was mended, and place 20 filled
abbrev pub HasTakenSteps : ℕ → Log → Log → Type 0
HasTakenSteps limit old new =
    (index : ℕ) × Adds old
    ((look_event 0 stages.Filled ∷ []) ∷ (mend_event limit 17 ∷ []) ∷ (fill_event (mender_of limit 17) 17 ∷ [])
    ∷ (fill_event index 20 ∷ []) ∷ [])
    new
