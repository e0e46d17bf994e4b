use Rattle.std.proofs.Common.{◌≡◌, ◌+◌, ap, ◌∙◌, arith}
use Rattle.std.specs.Prelude.{slice_get}
use Rattle.grow_core.proofs.FoundFilled.{known_later, settled_none, settled_on}
use Rattle.grow_core.proofs.settle_cells.settle_cells.Goals as goal

pub stretches-init : goal.stretches-init
stretches-init g c =
    (omega arith, settled_none c.args.block.now c.args.offset c.args.opened.now c.args.place c.args.row.now c.args.epoch.now, omega arith, omega arith)

pub settle_stretch-counts-requires-clause-known : goal.settle_stretch-counts-requires-clause-known
settle_stretch-counts-requires-clause-known g c i m less there =
    let at = c.stretches in let same : c.args.place + (at.done + i) ≡ c.args.place + at.done + i = omega arith in
    known_later c.args.block.now at.block c.args.offset c.args.opened.now c.args.place c.args.row.now at.row c.args.epoch.now at.done at.invariant.1 i m
    (c.requires.known (at.done + i) m (omega (arith, less)) (ap (slice_get c.args.opened.now) same ∙ there))

pub stretches-preserved : goal.stretches-preserved
stretches-preserved g c =
    let at = c.stretches in let next = c.settle_stretch-counts in (
      omega (arith, next.ensures.most),
      settled_on c.args.block.now at.block c.args.offset c.args.opened.now c.args.place c.args.row.now at.row c.args.epoch.now at.done at.invariant.1
          next.new.block next.new.row next.result.settled next.ensures.settled,
      omega (arith, at.invariant.2, next.ensures.broken),
      omega (arith, at.invariant.3, next.ensures.few),
    )
