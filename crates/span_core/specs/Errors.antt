-- How refusals are shown.
use Rattle.std.specs.Prelude.{ℕ, List, Option, Some, codes}
use Rattle.span_core.specs.declared.errors.ParError.{ParError}
use Rattle.span_core.specs.declared.errors.ParError.TheVariants.{NoMemory, BadWorkers, Stuck}
use Rattle.span_core.specs.declared.errors.Refusal.{Refusal}
use Rattle.span_core.specs.declared.errors.Refusal.TheVariants as refusal

-- why a loop has no result
abbrev pub par_error_text : ParError → List ℕ
par_error_text NoMemory = codes "out of memory"
par_error_text BadWorkers = codes "the number of workers is not from 1 to 64"
par_error_text Stuck = codes "the gate refused a worker"

-- why a range of workers has no result; a worker's refusal is shown as its own text
abbrev pub refusal_text : {E : Type 0} → (E → Option (List ℕ)) → Refusal E → Option (List ℕ)
refusal_text of refusal.NoMemory = Some (codes "out of memory")
refusal_text of refusal.NoThread = Some (codes "a thread could not be started")
refusal_text of refusal.Stuck = Some (codes "the gate refused a worker")
refusal_text of (refusal.Worker error) = of error
