use Rattle.std.proofs.Common.{◌≡◌, ℕ, sym, ap, ◌∙◌, subst, arith}
use Rattle.seg_core.specs.Segment.{segment_start}
use Rattle.tie_core.specs.Tags.{TagView, tag_of}
use Rattle.tie_core.specs.Visit.{EntryTie}
use Rattle.table_core.specs.Table.{IsTiedBy, IsLengthOf}
use Rattle.grow_core.proofs.TiedSegments.{entry_tied}
use Rattle.grow_core.proofs.Places.{starts_le}
use Rattle.grow_core.proofs.opening.tie_entry.Goals as goal

pub returns-clause-opening : goal.returns-clause-opening
returns-clause-opening g c =
    let o = c.requires.opening in let t = c.args.table.now in let f : ℕ = t.layout in let n : ℕ = c.len.result in
    let starts : c.first.result ≡ segment_start f c.args.segment = c.first.ensures ∙ ap (λ (k : ℕ). segment_start k c.args.segment) c.layout-layout.ensures.value in
    let long : IsLengthOf f c.args.segment n = subst (λ (k : ℕ). IsLengthOf k c.args.segment n) c.layout-layout.ensures.value c.len.ensures in
    let entry = c.enter-seat.ensures.entry in let own = c.enter-seat.result.1 in
    let tag : TagView = tag_of own.tie own.from own.n in
    entry_tied c.args.word.now c.args.claims.now c.enter-seat.new.hand t c.tie.new.self c.args.keys.now c.set.new.self c.args.list.now.row c.args.list.now.count c.args.cells.now.tie c.args.tags.now c.push.new.self
    c.args.segment c.first.result n tag o c.tie.ensures.layout c.tie.ensures.others c.tie.ensures.bonds starts long c.enter-seat.ensures.ends
    (record {
      by = subst (λ (u : EntryTie). IsTiedBy c.tie.new.self c.args.segment u c.args.cells.now.tie) entry.1 c.tie.ensures.tied;
      of = entry.0;
      from = entry.2 ∙ starts ∙ ap (λ (k : ℕ). segment_start k c.args.segment) (sym c.tie.ensures.layout);
      n = subst (λ (u : ℕ × ℕ). IsLengthOf u.0 c.args.segment u.1) (λ i. (sym c.tie.ensures.layout i, sym entry.3 i)) long;
    })
    c.push.ensures c.requires.past c.set.ensures.set c.set.ensures.put

-- the list lies in its own segments
pub enter-seat-requires-clause-past : goal.enter-seat-requires-clause-past
enter-seat-requires-clause-past g c =
    let o = c.requires.opening in let f : ℕ = c.args.table.now.layout in let whole = o.whole in let inside = whole.inside in
    let starts : c.first.result ≡ segment_start f c.args.segment = c.first.ensures ∙ ap (λ (k : ℕ). segment_start k c.args.segment) c.layout-layout.ensures.value in
    let after = starts_le f c.args.list.now.count c.args.segment c.requires.past in omega (arith, inside, starts, after)
