use Rattle.std.proofs.Common.{refl, ap, ◌∙◌, arith}
use Rattle.std.proofs.lemmas.List.Filters.{FiltersInPlace-all}
use Rattle.grow_core.specs.Parts.{PartsView}
use Rattle.quiet_core.proofs.Compacted.{values_begin, values_next}
use Rattle.quiet_core.proofs.room.close_up.Goals as goal

pub loop-place-init : goal.loop-place-init
loop-place-init g c = (values_begin c.args.parts.now.members c.args.first c.requires, refl)

pub loop-place-preserved : goal.loop-place-preserved
loop-place-preserved g c =
    let at = c.loop-place in let moved = c.move_down-values in let long = at.invariant.0.long in (
      values_next c.args.parts.now.members at.parts.members at.values at.place at.invariant.0 (omega (arith, c.loop-place-test.true, long, c.len-place-end.ensures.value))
          moved.new.parts.members moved.result moved.ensures.moved moved.ensures.broken,
      moved.ensures.rest_kept ∙ ap (λ (p : PartsView _). record p { members = moved.new.parts.members; closed = moved.new.parts.closed }) at.invariant.1,
    )

pub returns-clause-values : goal.returns-clause-values
returns-clause-values g c = FiltersInPlace-all c.loop-place.invariant.0 (omega (arith, c.loop-place-test.false, c.len-place-end.ensures.value))
