use Rattle.std.proofs.Common.{◌++◌, ◌∷◌, [], ◌∙◌, sym, ap, arith}
use Rattle.grow_core.proofs.Copying.{values_from_next}
use Rattle.grow_core.proofs.copy_run.write_from.Goals as goal

pub overflow_add-first : goal.overflow_add-first
overflow_add-first g c = omega (arith, c.requires.small)

pub loop-i-preserved : goal.loop-i-preserved
loop-i-preserved g c =
    let at = c.loop-i in let x = c.value.result in let pen = c.write-pen.ensures in
    let next = values_from_next (g.S.Source.values c.args.source.now) c.args.first at.i x c.value.ensures in
    (pen.offset ∙ at.invariant.0, pen.cells ∙ at.invariant.1, pen.values ∙ ap (λ vs. vs ++ x ∷ []) at.invariant.2 ∙ sym next)
