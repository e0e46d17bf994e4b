use Rattle.std.proofs.Common.{◌≡◌, ℕ, ◌+◌, ◌<◌, sym, ap, ◌∙◌, subst, arith}
use Rattle.std.specs.Prelude.{Some}
use Rattle.seg_core.specs.Segment.{segment_start, segment_end, segment_count}
use Rattle.tie_core.specs.Tie.{Tie, row_of}
use Rattle.tie_core.specs.Tags.{TagView, tag_of}
use Rattle.tie_core.specs.Visit.{EntryTie}
use Rattle.cell_core.specs.Block.{BlockView, block_len, cell_at}
use Rattle.cell_core.specs.Mould.{last_seat, mould_of, row_mould}
use Rattle.cell_core.specs.Slot.{AreTied}
use Rattle.cell_core.specs.Fixed.{stage_in, untied_cell}
use Rattle.table_core.specs.Table.{IsBlockOf, IsTiedBy, IsLengthOf}
use Rattle.grow_core.specs.Keys.{key_at}
use Rattle.grow_core.proofs.Entries.{rises}
use Rattle.grow_core.proofs.TiedSegments.{cells_broken, cells_fixed, segment_tied}
use Rattle.grow_core.proofs.opening.tie_segment.Goals as goal

pub tie_now-requires-clause-fixed : goal.tie_now-requires-clause-fixed
tie_now-requires-clause-fixed g c i s got =
    let o = c.requires.opening in let t = c.args.table.now in let f : ℕ = t.layout in let known = c.args.list.now.row in let key = c.in-Some.key in let word = c.args.word.now in
    let at : key_at c.args.keys.now c.args.segment ≡ Some key = sym c.key_of.ensures ∙ c.in-Some.is in
    let same : c.deref_mut.result.now ≡ key.block = c.deref_mut.ensures.value ∙ c.detach-block.ensures.block in
    let starts : c.first-from.result ≡ segment_start f c.args.segment = c.first-from.ensures ∙ ap (λ (k : ℕ). segment_start k c.args.segment) c.layout-layout.ensures.value in
    let long : IsLengthOf f c.args.segment c.len.result = subst (λ (k : ℕ). IsLengthOf k c.args.segment c.len.result) c.layout-layout.ensures.value c.len.ensures in
    let whole = o.whole in let few = whole.few in let small = whole.layout.0 in let less = c.requires.within in
    let is_long : IsBlockOf f c.args.segment key.block = whole.long c.args.segment key (omega (arith, less, few, small)) at in
    subst (λ (b : BlockView). stage_in (cell_at b i) ≡ Some s) (sym same)
    (cells_fixed f c.args.keys.now known c.args.list.now.count c.args.segment key at less o.staged c.first_stages_go_in_order.ensures word.base word.filled c.first-from.result c.len.result whole.all o.filled starts
    (omega (arith, long, is_long)) c.adopt-seats.result.0.stages c.adopt-seats.ensures.stages.0 c.adopt-seats.ensures.stages.1 i s got)

pub tie_now-requires-clause-broken : goal.tie_now-requires-clause-broken
tie_now-requires-clause-broken g c i got =
    let o = c.requires.opening in let word = c.args.word.now in
    cells_broken c.first_stages_go_in_order.ensures c.args.list.now.row c.args.list.now.ended word.base word.filled c.first-from.result c.len.result c.requires.broken o.whole.all o.filled
    c.adopt-seats.result.0.stages c.adopt-seats.ensures.stages.0 c.adopt-seats.ensures.stages.1 i got

pub attach_placed-requires : goal.attach_placed-requires
attach_placed-requires g c =
    let o = c.requires.opening in let t = c.args.table.now in let f : ℕ = t.layout in let block = c.tie_now.new.self in let n : ℕ = c.len.result in let tie = c.adopt-seats.result.1.tie in
    let whole = o.whole in let few = whole.few in let less = c.requires.within in let key = c.in-Some.key in
    let at : key_at c.args.keys.now c.args.segment ≡ Some key = sym c.key_of.ensures ∙ c.in-Some.is in
    let small = whole.layout.0 in
    let is_key = whole.named c.args.segment key (omega (arith, less, few, small)) at in
    let long : IsLengthOf f c.args.segment n = subst (λ (k : ℕ). IsLengthOf k c.args.segment n) c.layout-layout.ensures.value c.len.ensures in
    let is_long : IsBlockOf f c.args.segment key.block = whole.long c.args.segment key (omega (arith, less, few, small)) at in
    let same : c.deref_mut.result.now ≡ key.block = c.deref_mut.ensures.value ∙ c.detach-block.ensures.block in
    let len : block_len block ≡ n = c.tie_now.ensures.len ∙ ap block_len same ∙ omega (arith, long, is_long) in
    let is : c.deref-2.result.now ≡ block = c.deref-2.ensures in
    let tied : AreTied (row_of tie n) c.deref-2.result.now.cells = subst (λ (b : BlockView). AreTied (row_of tie n) b.cells) (sym is) (subst (λ ties. AreTied ties block.cells) c.adopt-seats.ensures.seats.0 c.tie_now.ensures.ties) in
    let alike = c.agrees.ensures c.args.word.now.table c.args.word.now.floor 0 c.adopt-seats.ensures.tied o.tied.cells_of in
    let some : 0 < n = (let more = rises f c.args.segment in omega (arith, more, long)) in (
      omega arith,
      (
        subst (λ (k : ℕ). c.args.segment < segment_count k) (sym c.detach-block.ensures.layout) (omega (arith, less, few)),
        (
          subst (λ (u : ℕ × ℕ). segment_start u.0 c.args.segment + u.1 ≡ segment_end u.0 c.args.segment) (λ j. (sym c.detach-block.ensures.layout j, sym len j)) long,
          (
            ap (λ (b : BlockView). mould_of b.cells) (sym is) ∙ c.ties_laws-2.ensures.mould tie n tied ∙ ap (λ (u : Tie). row_of u n) alike ∙ ap (λ (m : ℕ). row_mould c.args.cells.now.tie m) (sym len),
            (c.adopt-seats.ensures.entry.4 ∙ sym (c.ties_laws-2.ensures.last tie n tied some) ∙ ap (λ (b : BlockView). last_seat b.cells) is, c.detach-block.ensures.none_lent),
          ),
        ),
      ),
    )

pub returns-clause-opening : goal.returns-clause-opening
returns-clause-opening g c =
    let o = c.requires.opening in let t = c.args.table.now in let f : ℕ = t.layout in let block = c.tie_now.new.self in let n : ℕ = c.len.result in let key = c.in-Some.key in
    let whole = o.whole in let few = whole.few in let less = c.requires.within in let small = whole.layout.0 in
    let at : key_at c.args.keys.now c.args.segment ≡ Some key = sym c.key_of.ensures ∙ c.in-Some.is in
    let same : c.deref_mut.result.now ≡ key.block = c.deref_mut.ensures.value ∙ c.detach-block.ensures.block in
    let starts : c.first-from.result ≡ segment_start f c.args.segment = c.first-from.ensures ∙ ap (λ (k : ℕ). segment_start k c.args.segment) c.layout-layout.ensures.value in
    let long : IsLengthOf f c.args.segment n = subst (λ (k : ℕ). IsLengthOf k c.args.segment n) c.layout-layout.ensures.value c.len.ensures in
    let layout : c.attach_placed.new.self.layout ≡ f = c.attach_placed.ensures.layout ∙ c.detach-block.ensures.layout in
    let is_key = whole.named c.args.segment key (omega (arith, less, few, small)) at in
    let entry = c.adopt-seats.ensures.entry in let own = c.adopt-seats.result.3 in
    let tag : TagView = tag_of own.tie own.from own.n in
    segment_tied c.args.word.now c.args.claims.now c.adopt-seats.new.hand t c.attach_placed.new.self c.args.keys.now c.set.new.self c.args.list.now.row c.args.list.now.count c.args.cells.now.tie c.args.tags.now c.push.new.self
    c.args.segment c.first-from.result n tag o layout
    (λ j other. c.attach_placed.ensures.others j other ∙ c.detach-block.ensures.others j (λ e. other (e ∙ is_key.at)))
    (λ j other. c.attach_placed.ensures.bonds j other ∙ c.detach-block.ensures.bonds j (λ e. other (e ∙ is_key.at)))
    starts long c.adopt-seats.ensures.ends
    (record {
      by = subst (λ (u : EntryTie). IsTiedBy c.attach_placed.new.self c.args.segment u c.args.cells.now.tie) entry.1 c.attach_placed.ensures.tied;
      of = entry.0;
      from = entry.2 ∙ starts ∙ ap (λ (k : ℕ). segment_start k c.args.segment) (sym layout);
      n = subst (λ (u : ℕ × ℕ). IsLengthOf u.0 c.args.segment u.1) (λ i. (sym layout i, sym entry.3 i)) long;
    })
    c.push.ensures key c.attach_placed.result block less at c.attach_placed.ensures.key
    (c.tie_now.ensures.len ∙ ap block_len same) (λ q. c.tie_now.ensures.names q ∙ ap (λ (b : BlockView). untied_cell (cell_at b q)) same) c.set.ensures.set
