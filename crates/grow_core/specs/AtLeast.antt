-- What a growth up to a size leaves, won or refused.
use Rattle.std.specs.Prelude.{◌≡◌, ℕ, ◌+◌, ◌<◌, ◌≤◌, Result}
use Rattle.claim_core.specs.Hand.{HandView, SeesSize, seen_size}
use Rattle.grow_core.specs.declared.errors.GrowError.{GrowError}
use Rattle.grow_core.specs.declared.errors.GrowError.TheVariants.{NoMemory, Full, Moved, Refused, Taken}
use Rattle.grow_core.specs.declared.grow_to_at_least.AtLeast.{AtLeast}
use Rattle.grow_core.specs.declared.grow_to_at_least.AtLeast.TheVariants.{Ran, Enough}
use Rattle.grow_core.specs.declared.grow_to_at_least.Reached.{Reached}
use Rattle.grow_core.specs.declared.grow_to_at_least.Reached.TheVariants as reached
use Rattle.grow_core.specs.Vector.{VectorView, SeesMore, limit_of}
use Rattle.grow_core.specs.Growth.{KeepsMade}
use Rattle.grow_core.specs.Grown.{values_of}
use Rattle.grow_core.specs.Steps.{IsNewRun}
use Rattle.grow_core.specs.Making.{IsClaimed, Makes, WonMade}

-- the size was large enough: the hand has then seen it, and nothing else of the hand has changed
abbrev pub IsEnough : ℕ → HandView → HandView → ℕ → Type 0
IsEnough to old new size = (to ≤ size) × SeesSize old new size

-- the result of a growth up to a size: a run that ends there, of what the maker returned for 0, 1, 2 and so
-- on; or none was needed
abbrev pub WonAtLeast : {F T E : Type 0} → (F → ℕ → Result T E → F → Type 0) → F → VectorView T → ℕ → HandView
    → HandView → AtLeast T → Type 0
WonAtLeast step maker vector to old new (Ran grown) =
    (grown.run.from + grown.run.n ≡ to) × (0 < grown.run.n) × WonMade step maker vector grown.run.n old new grown
WonAtLeast step maker vector to old new (Enough size) = IsEnough to old new size

-- what a growth up to a size leaves of its maker: it was asked for the values of the run alone, or not at all
abbrev pub MadeUpTo : {F T E : Type 0} → (F → ℕ → Result T E → F → Type 0) → F → F → AtLeast T → Type 0
MadeUpTo step maker end (Ran grown) = Makes step maker (values_of grown) end
MadeUpTo step maker end (Enough size) = end ≡ maker

-- nothing was appended
abbrev pub SaysEnough : {T : Type 0} → AtLeast T → Type 0
SaysEnough (Ran grown) = ⊥
SaysEnough (Enough size) = Unit {0}

-- a claim up to a size came to this: a run that ends there, or none was needed
abbrev pub ReachesSize : {T : Type 0} → VectorView T → ℕ → HandView → HandView → Reached → Type 0
ReachesSize vector to old new (reached.Won run) =
    (run.from + run.n ≡ to) × (0 < run.n) × IsClaimed vector run.n old new run
ReachesSize vector to old new (reached.Enough size) = IsEnough to old new size

-- nothing was claimed, since the size was large enough
abbrev pub IsSpared : Reached → Type 0
IsSpared (reached.Won run) = ⊥
IsSpared (reached.Enough size) = Unit {0}

-- a run that the hand has claimed is the last that it has seen, and it knows no place of it begun
abbrev pub IsNewIn : HandView → Reached → Type 0
IsNewIn hand (reached.Won run) = IsNewRun hand run
IsNewIn hand (reached.Enough size) = Unit {0}

-- when each refusal of a growth up to a size comes, by what the hand had seen before the call
abbrev pub IsDueUpTo : {T V E : Type 0} → VectorView T → ℕ → HandView → GrowError T V E → Type 0
IsDueUpTo vector to old (NoMemory back) = (seen_size old < to) × (to ≤ limit_of vector)
IsDueUpTo vector to old (Full size back) = limit_of vector < to
IsDueUpTo vector to old (Moved size back) = ⊥
IsDueUpTo vector to old (Refused run made cause) = Unit {0}
IsDueUpTo vector to old (Taken place found) = ⊥

-- what each refusal leaves of the hand: a run that was claimed ends at the size asked for
abbrev pub LeavesUpTo : {T V E : Type 0} → VectorView T → ℕ → HandView → HandView → GrowError T V E → Type 0
LeavesUpTo vector to old new (NoMemory back) = SeesMore old new × (seen_size new < to)
LeavesUpTo vector to old new (Full size back) = SeesSize old new size
LeavesUpTo vector to old new (Moved size back) = ⊥
LeavesUpTo vector to old new (Refused run made cause) =
    (run.from + run.n ≡ to) × KeepsMade vector run.n old new run made
LeavesUpTo vector to old new (Taken place found) = ⊥

-- a growth up to a size was refused: when this refusal comes, and what it leaves of the hand
pub record RefusesAtLeast {T V E : Type 0} (vector : VectorView T) (to : ℕ) (old new : HandView)
    (refusal : GrowError T V E) : Type 0 where
  pub due : IsDueUpTo vector to old refusal
  pub left : LeavesUpTo vector to old new refusal
