use Rattle.std.specs.List.{All}
use Rattle.grow_core.specs.Vector.{IsHandOf}
use Rattle.costs.proofs.stress.jobs_for.Given as goal

abbrev pub invariant-loop-thread : goal.invariant-loop-thread
invariant-loop-thread l = IsHandOf l.vector l.hand × All (λ job. IsHandOf l.vector job.hand) l.jobs.items
