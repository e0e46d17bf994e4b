use Rattle.std.proofs.Common.{◌≡◌, ◌<◌, sym, subst, slice_index}
use Rattle.seg_core.specs.Segment.{most_segments}
use Rattle.table_core.specs.Table.{KeyView, KeySetView}
use Rattle.table_core.proofs.KeySets.{set_of, adds_key}
use Rattle.table_core.proofs.table.key_set.KeySet.with.Goals as goal

pub returns : goal.returns
returns c =
    let old = set_of c.self.inside.layout c.self.inside.sights in
    let named = subst (λ (s : KeySetView). slice_index s.names c.args.key.now.segment ≡ c.args.key.now.name) (sym c.self.view_is) c.requires.named in
    rw (← c.self.view_is, ← c.key.view_is)
    (adds_key c.self.inside.layout c.self.inside.sights c.sights_with-sights.result c.key.inside.layout c.key.inside.segment c.key.inside.sight c.sight_at.result
    (subst (λ (k : KeyView). k.segment < most_segments) (sym c.key.view_is) c.requires.within)
    (subst (λ (k : KeyView). slice_index old.names k.segment ≡ k.name) (sym c.key.view_is) named)
    c.sights_with-sights.ensures.here c.sights_with-sights.ensures.others c.sight_at.ensures c.agrees.ensures c.key.invariant)
