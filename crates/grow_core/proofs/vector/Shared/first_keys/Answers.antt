use Rattle.std.proofs.Common.{rules, ◌≡◌, ◌+◌, ◌<◌, Some, refl, sym, ◌∙◌, subst, arith}
use Rattle.std.specs.Prelude.{slice_set}
use Rattle.grow_core.specs.Keys.{KeyRow}
use Rattle.grow_core.specs.Closing.{AreKnown}
use Rattle.grow_core.proofs.LastKeys.{known_on, none_first, none_known, row_on}
use Rattle.grow_core.proofs.Settled.{AreFirst, first_more}
use Rattle.grow_core.proofs.Works.{finds_none, finds_on}
use Rattle.grow_core.proofs.vector.Shared.first_keys.Goals as goal

pub loop-segment-init : goal.loop-segment-init
loop-segment-init g c =
    let segments = c.args.self.now.segments in let keys = c.no_keys-keys in (
      none_first segments.layout segments.names c.args.opened.now keys.result (search rules) keys.ensures,
      none_known segments c.args.hand.now keys.result keys.ensures,
      finds_none c.args.hand.now,
      refl,
    )

pub loop-segment-preserved : goal.loop-segment-preserved
loop-segment-preserved g c =
    let segments = c.args.self.now.segments in let at = c.loop-segment in let last = c.last_key in let key = c.in-Some.key in let is = c.in-Some.ensures in let are = at.invariant in
    let small : at.segment < 40 = omega (arith, c.f-f.ensures.layout.0) in
    let keys : c.set.new.self ≡ slice_set at.keys at.segment (Some key) = c.set.ensures.set in (
      subst (λ (r : KeyRow). AreFirst segments.layout segments.names c.args.opened.now r (at.segment + 1)) (sym keys)
          (first_more segments.layout segments.names c.args.opened.now at.keys at.segment key are.0 small is.key is.long (λ has. sym c.in-Some.is ∙ last.ensures.first has)),
      subst (λ (r : KeyRow). AreKnown segments last.new.hand r) (sym keys)
          (known_on segments at.hand last.new.hand at.keys at.segment key are.1 last.ensures.finds (omega (arith, small, are.0.rows)) is.by is.row),
      finds_on c.args.hand.now at.hand last.new.hand are.2 last.ensures.finds,
      last.ensures.log ∙ are.3,
    )

pub returns-in_default-clause-rows : goal.returns-in_default-clause-rows
returns-in_default-clause-rows g c s key low at =
    let was = c.loop-segment.invariant.1 s key low at in (was.0, row_on c.loop-segment.hand c.last_key.new.hand c.last_key.ensures.finds s key.block was.1)
