use Rattle.std.proofs.Common.{sym, subst}
use Rattle.claim_core.specs.declared.run.Run.{Run}
use Rattle.grow_core.specs.Logs.{LogsAtLeast}
use Rattle.grow_core.specs.declared.grow_to_at_least.AtLeast.{AtLeast}
use Rattle.grow_core.specs.declared.grow_to_at_least.AtLeast.TheVariants.{Ran}
use Rattle.caller_core.specs.Caller.{CallerView}
use Rattle.caller_core.specs.Grows.{LogsUpTo}
use Rattle.caller_core.proofs.Kept.{logs_up_to, some_ran}
use Rattle.caller_core.proofs.caller.Caller.grow_to_at_least.Goals as goal

pub returns-in-Ok-Ran-clause-logs : goal.returns-in-Ok-Ran-clause-logs
returns-in-Ok-Ran-clause-logs g c =
    let new = c.grow_to_at_least-reached.new.hand in
    subst (λ (run : Run). LogsUpTo c.args.size c.args.self.now.hand new c.keep_last.result run.n)
    (sym c.run-n.ensures)
    (logs_up_to _ _ _ c.in-Ok-Ran.grown.run _ (some_ran _ _ _ _ _ _ _ _ c.in-Ok-Ran.field-0-is c.in-Ok-Ran.ensures.won) (sym c.keep_last.ensures.place)
    (subst (λ (w : CallerView _). LogsAtLeast c.args.size w.hand new (Ran c.in-Ok-Ran.grown))
    c.self.view_is
    (subst (λ (at : AtLeast g.row.T.Denot). LogsAtLeast c.args.size c.self.inside.hand new at)
    c.in-Ok-Ran.field-0-is c.in-Ok-Ran.ensures.logs)))
