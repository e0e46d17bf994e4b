use Rattle.std.proofs.Common.{◌∙◌, sym, arith, refl}
use Rattle.script_core.proofs.Cuts.{cut_at_place, cut_none}
use Rattle.script_core.proofs.cut.cut_at.Goals as goal

pub returns-then-starts_with-clause-cut : goal.returns-then-starts_with-clause-cut
returns-then-starts_with-clause-cut c =
    cut_at_place c.args.separator.now c.args.text.now c.loop-i.i _ _ c.loop-i-test.true c.loop-i.invariant refl (sym c.starts_with.ensures.value ∙ c.if-starts_with.true) refl

pub returns-clause-cut : goal.returns-clause-cut
returns-clause-cut c = sym (cut_none c.args.separator.now c.args.text.now (λ k h. c.loop-i.invariant k (omega arith)))
