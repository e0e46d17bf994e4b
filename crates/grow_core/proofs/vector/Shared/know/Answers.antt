use Rattle.std.proofs.Common.{◌<◌, ◌∙◌, subst, arith}
use Rattle.seg_core.specs.Segment.{IsLayout, most_segments}
use Rattle.grow_core.specs.Vector.{VectorView, layout_of}
use Rattle.grow_core.proofs.KnownPlaces.{known_next}
use Rattle.grow_core.proofs.vector.Shared.know.Goals as goal

pub with-keys-requires : goal.with-keys-requires
with-keys-requires g c =
    let is = c.requires.3 in
    let layout = subst (λ (v : VectorView g.row.T.Denot). IsLayout (layout_of v)) c.self.view_is c.layout-layout.ensures.layout in
    let small : c.args.stretch.key.segment < most_segments = omega (arith, is.next.key.within, layout) in
    record { within = small; named = is.known.names c.args.stretch.key.segment small ∙ is.next.key.named }

pub returns : goal.returns
returns g c from done values is =
    let layout = subst (λ (v : VectorView g.row.T.Denot). IsLayout (layout_of v)) c.self.view_is c.layout-layout.ensures.layout in
    rw c.append.ensures (known_next c.args.self.now from done values c.args.filled c.args.stretch c.with-keys.result layout is.known is.next c.with-keys.ensures)
