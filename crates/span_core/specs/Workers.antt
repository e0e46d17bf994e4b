-- The results of a range of workers.
use Rattle.std.specs.Prelude.{◌≡◌, ℕ, ◌+◌, ◌<◌, ◌≤◌, ◌⊎◌, List, length}
use Rattle.span_core.specs.declared.errors.Refusal.{Refusal}
use Rattle.span_core.specs.declared.errors.Refusal.TheVariants.{NoMemory, NoThread, Stuck, Worker}
use Rattle.span_core.specs.Each.{EachFrom}

-- each worker that was let through is ready to work
abbrev pub AreReadyBy : (ℕ → Type 0) → (ℕ → Type 0) → Type 0
AreReadyBy through ready = (worker : ℕ) → through worker → ready worker

-- one result of each worker of the range, in order
abbrev pub EachGives : {A : Type 0} → (ℕ → A → Type 0) → ℕ → ℕ → List A → Type 0
EachGives gives first count answers = EachFrom gives first answers × (length answers ≡ count)

-- the gate may refuse some worker of the range
abbrev pub MayRefuseOne : (ℕ → Type 0) → ℕ → ℕ → Type 0
MayRefuseOne may_refuse first count = (worker : ℕ) × (first ≤ worker) × (worker < first + count) × may_refuse worker

-- the workers of the range returned these results up to one that the gate may refuse
abbrev pub RefusesLowest : {A : Type 0} → (ℕ → A → Type 0) → (ℕ → Type 0) → ℕ → ℕ → Type 0
RefusesLowest {A} gives may_refuse first count =
    (lower : List A) × EachFrom gives first lower × (length lower < count) × may_refuse (first + length lower)

-- why a range of workers has no result, if each may refuse in this way and the gate may refuse these. A thread
-- that could not be started counts as memory that was refused
abbrev pub IsOfRange : {A E : Type 0} → (ℕ → A → Type 0) → (ℕ → E → Type 0) → (ℕ → Type 0) → ℕ → ℕ → Refusal E → Type 0
IsOfRange gives refuses may_refuse first count NoMemory = Unit {0}
IsOfRange gives refuses may_refuse first count NoThread = ⊥
IsOfRange gives refuses may_refuse first count Stuck = RefusesLowest gives may_refuse first count
IsOfRange gives refuses may_refuse first count (Worker e) = RefusesLowest gives (λ worker. refuses worker e) first count

-- not a number of workers from 1 to 64
abbrev pub IsBadNumber : ℕ → Type 0
IsBadNumber workers = (workers ≡ 0) ⊎ (64 < workers)
