use Rattle.std.proofs.Common.{arith}
use Rattle.span_core.proofs.CrewLemmas.{some_parts}
use Rattle.span_core.proofs.writers.WriterWorkersForkJoinHandLeftNever.cut.Goals as goal

pub split-upper-requires : goal.split-upper-requires
split-upper-requires g c =
    let upper = some_parts c.args.high c.args.self.now.shares c.requires.2 c.requires.0.3 in
    let lower = some_parts c.args.low c.args.self.now.shares c.requires.1 c.requires.0.3 in
    let all = c.requires.0.2 in
    (omega arith, (c.requires.0.0, (upper, omega arith)))
