use Rattle.std.proofs.Common.{sym, subst}
use Rattle.grow_core.specs.Making.{WonMade}
use Rattle.caller_core.specs.Caller.{CallerView}
use Rattle.caller_core.specs.Grows.{TellsLast}
use Rattle.claim_core.specs.declared.run.Run.{Run}
use Rattle.grow_core.specs.Logs.{AllFilled, LogsGrowth}
use Rattle.caller_core.proofs.Kept.{run_is}
use Rattle.caller_core.proofs.caller.Caller.grow_made.Goals as goal

pub returns-clause-grown : goal.returns-clause-grown
returns-clause-grown g c =
    record {
      grown = c.in_ok-grown.grown;
      here = sym c.keep_last.ensures.place;
      won =
          subst (λ (w : CallerView _). WonMade (goal.F-step g) c.args.make w.vector c.args.n w.hand c.try_grow_with.new.hand c.in_ok-grown.grown)
          c.self.view_is
          (subst (λ h. WonMade (goal.F-step g) c.args.make h.vector c.args.n c.self.inside.hand c.try_grow_with.new.hand c.in_ok-grown.grown)
          c.deref.ensures c.in_ok-grown.ensures.won);
      last =
          subst (λ (w : CallerView _). TellsLast c.in_ok-grown.grown w.last c.keep_last.new.last)
          c.self.view_is c.keep_last.ensures.last;
    }

pub returns-clause-logs : goal.returns-clause-logs
returns-clause-logs g c =
    subst (λ (r : Run). LogsGrowth AllFilled c.args.self.now.hand c.try_grow_with.new.hand r)
    (run_is c.in_ok-grown.grown.run c.keep_last.result (c.args.n) (sym c.keep_last.ensures.place) (c.in_ok-grown.ensures.won.n))
    (subst (λ (w : CallerView _). LogsGrowth AllFilled w.hand c.try_grow_with.new.hand c.in_ok-grown.grown.run)
    c.self.view_is
    c.in_ok-grown.ensures.logs)
