use Rattle.std.proofs.Common.{sym, subst, length}
use Rattle.grow_core.specs.Growth.{WonRun}
use Rattle.caller_core.specs.Caller.{CallerView}
use Rattle.caller_core.specs.Grows.{TellsLast}
use Rattle.claim_core.specs.declared.run.Run.{Run}
use Rattle.grow_core.specs.Logs.{AllFilled, LogsGrowth}
use Rattle.caller_core.proofs.Kept.{run_is}
use Rattle.caller_core.proofs.caller.Caller.grow.Goals as goal

pub returns-clause-grown : goal.returns-clause-grown
returns-clause-grown g c =
    record {
      grown = c.in_ok-grown.grown;
      here = sym c.keep_last.ensures.place;
      won =
          subst (λ (w : CallerView _). WonRun w.vector c.args.values.now w.hand c.try_grow_from.new.hand c.in_ok-grown.grown)
          c.self.view_is
          (subst (λ h. WonRun h.vector c.args.values.now c.self.inside.hand c.try_grow_from.new.hand c.in_ok-grown.grown)
          c.deref.ensures c.in_ok-grown.ensures.won);
      last =
          subst (λ (w : CallerView _). TellsLast c.in_ok-grown.grown w.last c.keep_last.new.last)
          c.self.view_is c.keep_last.ensures.last;
    }

pub returns-clause-logs : goal.returns-clause-logs
returns-clause-logs g c =
    subst (λ (r : Run). LogsGrowth AllFilled c.args.self.now.hand c.try_grow_from.new.hand r)
    (run_is c.in_ok-grown.grown.run c.keep_last.result (length c.args.values.now) (sym c.keep_last.ensures.place) (c.in_ok-grown.ensures.won.n))
    (subst (λ (w : CallerView _). LogsGrowth AllFilled w.hand c.try_grow_from.new.hand c.in_ok-grown.grown.run)
    c.self.view_is
    c.in_ok-grown.ensures.logs)
