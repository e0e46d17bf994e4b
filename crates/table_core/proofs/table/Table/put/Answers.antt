use Rattle.std.proofs.Common.{rules, ◌≡◌, ◌<◌, ℕ, None, List, length, sym, subst, arith}
use Rattle.seg_core.specs.Segment.{segment_count}
use Rattle.table_core.specs.Entry.{EntryView}
use Rattle.table_core.specs.Table.{TableView, IsBlockOf, entry_tie}
use Rattle.table_core.proofs.PlainBlocks.{put_fits}
use Rattle.table_core.proofs.table.Table.put.Goals as goal

pub set-back-requires-clause-cast : goal.set-back-requires-clause-cast
set-back-requires-clause-cast g c =
    let k : ℕ = c.args.segment in let entries : List EntryView = c.self.inside.entries in let f : ℕ = c.self.inside.layout in
    let near : k < length entries = first_of (search rules, grind arith) in
    let within = subst (λ (t : TableView). k < segment_count t.layout) (sym c.self.view_is) c.requires.within in
    let untied = subst (λ (t : TableView). entry_tie t k ≡ None) (sym c.self.view_is) c.requires.untied in
    let long = subst (λ (t : TableView). IsBlockOf t.layout k c.args.block) (sym c.self.view_is) c.requires.length in
    put_fits _ _ _ entries k c.index-self-segment.result c.args.block c.in_ok-new.field-0.value c.self.invariant.2 c.self.invariant.1 within near c.index-self-segment.is untied long c.requires.plain (first_of (search rules, grind arith))
