use Rattle.std.proofs.Common.{rules, ◌≡◌, ◌<◌, ℕ, List, length, get_or, sym, ap, subst, ◌∙◌, arith}
use Rattle.seg_core.specs.Segment.{segment_count}
use Rattle.table_core.specs.Entry.{EntryView}
use Rattle.table_core.specs.Table.{TableView}
use Rattle.table_core.proofs.Bonds.{still_there}
use Rattle.table_core.proofs.PlainBlocks.{taken_plain}
use Rattle.table_core.proofs.table.Table.take_out.Goals as goal

pub returns-clause-plain : goal.returns-clause-plain
returns-clause-plain g c plain =
    let k : ℕ = c.args.segment in let entries : List EntryView = c.self.inside.entries in let f : ℕ = c.self.inside.layout in
    let near : k < length entries = first_of (search rules, grind arith) in
    let layout : c.args.self.now.layout ≡ f = first_of (search rules, grind arith) in
    let bonds = sym c.put_back.ensures.bonds ∙ sym (ap (λ (t : TableView). t.bonds) c.self.view_is) in
    let within : k < segment_count f = subst (λ (g : ℕ). k < segment_count g) layout c.requires.within in
    let is = still_there entries k c.index-self-segment.result c.rename.new.other c.index-self-segment-2.result near c.index-self-segment.is (c.rename.ensures.5 ∙ sym c.index-self-segment.is) c.index-self-segment-2.is in
    let took : c.replace.result ≡ c.index-self-segment-2.result = c.replace.ensures.value ∙ sym c.index-self-segment-2.is in
    let here = subst (λ (u : EntryView). u ≡ get_or entries k u) (sym took) is in
    taken_plain (λ b. b.value) c.into_box.result f entries k c.replace.result c.args.self.now layout bonds c.self.invariant.1 within near here c.into_box.ensures.length c.into_box.ensures.cast plain
