use Rattle.std.proofs.Common.{IfOk, IfErr, sym, subst}
use Rattle.caller_core.specs.Caller.{CallerView, HasLast, IsLastAt}
use Rattle.grow_core.specs.Logs.{LogsNoValue, LogsValue}
use Rattle.caller_core.proofs.caller.Caller.at.Goals as goal

pub returns-clause-own : goal.returns-clause-own
returns-clause-own g c x last =
    c.copy_at.ensures.own x
    (subst (λ (w : CallerView _). HasLast c.args.place x w.last) (sym c.self.view_is) last)

pub returns-clause-looks : goal.returns-clause-looks
returns-clause-looks g c =
    subst (λ (w : CallerView _). (IsLastAt c.args.place w.last → ⊥) → IfOk c.copy_at.result (λ _. LogsValue c.args.place w.hand c.copy_at.new.hand))
    c.self.view_is
    c.copy_at.ensures.looks

pub returns-clause-looks_refusal : goal.returns-clause-looks_refusal
returns-clause-looks_refusal g c =
    subst (λ (w : CallerView _). (IsLastAt c.args.place w.last → ⊥) → IfErr c.copy_at.result (LogsNoValue c.args.place w.hand c.copy_at.new.hand))
    c.self.view_is
    c.copy_at.ensures.looks_refusal
