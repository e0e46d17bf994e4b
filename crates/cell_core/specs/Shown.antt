-- What the calls of a block return about a cell.
use Rattle.std.specs.Prelude.{◌≡◌, ◌≢◌, ◌<◌, ℕ}
use Rattle.cell_core.specs.declared.block.shown.Found.{Found}
use Rattle.cell_core.specs.declared.block.shown.Found.TheVariants as found
use Rattle.cell_core.specs.declared.block.shown.Look.{Look}
use Rattle.cell_core.specs.declared.block.shown.Look.TheVariants as look
use Rattle.cell_core.specs.Block.{BlockView, IsPlacedAt, IsSpoiltAt, IsBegunAt}
use Rattle.cell_core.specs.Slot.{empty_state, busy_state, filled_state}

-- what a call found in the cell at the offset
abbrev pub IsFoundIn : {T : Type 0} → BlockView → ℕ → Found T → Type 0
IsFoundIn block offset found.Empty = Unit {0}
IsFoundIn block offset (found.Busy begun) = IsBegunAt block offset begun
IsFoundIn block offset (found.Filled placed) = IsPlacedAt block offset placed
IsFoundIn block offset (found.Broken spoilt) = IsSpoiltAt block offset spoilt

-- the state that a call found is that of what it returned
abbrev pub IsFoundOf : {T : Type 0} → ℕ → Found T → Type 0
IsFoundOf n found.Empty = n ≡ empty_state
IsFoundOf n (found.Busy begun) = n ≡ busy_state
IsFoundOf n (found.Filled placed) = n ≡ filled_state
IsFoundOf n (found.Broken spoilt) = (busy_state < n) × (n ≢ filled_state)

-- the call found the cell not broken
abbrev pub IsNotBroken : {T : Type 0} → Found T → Type 0
IsNotBroken found.Empty = Unit {0}
IsNotBroken (found.Busy begun) = Unit {0}
IsNotBroken (found.Filled placed) = Unit {0}
IsNotBroken (found.Broken spoilt) = ⊥

-- the call found a value, and it is this one
abbrev pub ShowsFilled : {T : Type 0} → T → Found T → Type 0
ShowsFilled x found.Empty = ⊥
ShowsFilled x (found.Busy begun) = ⊥
ShowsFilled x (found.Filled placed) = placed.value ≡ x
ShowsFilled x (found.Broken spoilt) = ⊥

-- the call found the cell not empty
abbrev pub IsNotEmpty : {T : Type 0} → Found T → Type 0
IsNotEmpty found.Empty = ⊥
IsNotEmpty (found.Busy begun) = Unit {0}
IsNotEmpty (found.Filled placed) = Unit {0}
IsNotEmpty (found.Broken spoilt) = Unit {0}

-- what the cell at the offset may show: a value with a token of that value
abbrev pub IsLookAt : {T : Type 0} → BlockView → ℕ → Look T → Type 0
IsLookAt block offset look.Empty = Unit {0}
IsLookAt block offset look.Busy = Unit {0}
IsLookAt block offset (look.Filled value placed) = IsPlacedAt block offset placed × (placed.value ≡ value.now)
IsLookAt block offset (look.Broken spoilt) = IsSpoiltAt block offset spoilt

-- the state that a look found shows this
abbrev pub IsLookOf : {T : Type 0} → ℕ → Look T → Type 0
IsLookOf n look.Empty = n ≡ empty_state
IsLookOf n look.Busy = n ≡ busy_state
IsLookOf n (look.Filled value placed) = n ≡ filled_state
IsLookOf n (look.Broken spoilt) = (busy_state < n) × (n ≢ filled_state)
