use Rattle.std.proofs.Common.{sym, subst}
use Rattle.caller_core.specs.Caller.{CallerView}
use Rattle.claim_core.specs.declared.run.Run.{Run}
use Rattle.grow_core.specs.Logs.{AllFilled, LogsGrowth}
use Rattle.caller_core.proofs.Kept.{run_is}
use Rattle.caller_core.proofs.caller.Caller.grow_source.Goals as goal

pub returns-clause-logs : goal.returns-clause-logs
returns-clause-logs g c =
    subst (λ (r : Run). LogsGrowth AllFilled c.args.self.now.hand c.try_grow_source.new.hand r)
    (run_is c.in_ok-grown.grown.run c.keep_last.result _ (sym c.keep_last.ensures.place) (c.in_ok-grown.ensures.won.n))
    (subst (λ (w : CallerView _). LogsGrowth AllFilled w.hand c.try_grow_source.new.hand c.in_ok-grown.grown.run)
    c.self.view_is
    c.in_ok-grown.ensures.logs)
