use Rattle.std.proofs.Common.{rules, ◌≡◌, ◌<◌, ℕ, None, List, length, sym, subst, ◌∙◌, arith}
use Rattle.seg_core.specs.Segment.{segment_count}
use Rattle.cell_core.specs.Block.{BlockView, block_len}
use Rattle.cell_core.specs.Mould.{mould_of}
use Rattle.table_core.specs.Entry.{EntryView, IsCast, length_of, tie_of}
use Rattle.table_core.specs.Table.{IsLengthOf}
use Rattle.table_core.proofs.Bonds.{cast_lent, plain_lent}
use Rattle.table_core.proofs.table.Table.put_back.Goals as goal

pub set-requires-clause-cast : goal.set-requires-clause-cast
set-requires-clause-cast g c =
    let k : ℕ = c.in-Some-Some.segment in let entries : List EntryView = c.self.inside.entries in let e : EntryView = c.index-self-segment.result in
    let block : BlockView = c.in-Some-Some.field-0-1.block.value in
    let out = sym c.take-out.ensures.value ∙ c.in-Some-Some.is-0 in
    let near : k < length entries = first_of (search rules, grind arith) in
    let within : k < segment_count c.self.inside.layout = first_of (search rules, grind arith) in
    let here : IsLengthOf c.self.inside.layout k (length_of e) = subst (λ (u : EntryView). IsLengthOf c.self.inside.layout k (length_of u)) (sym c.index-self-segment.is) (c.self.invariant.1 k e within) in
    let long : block_len block ≡ length_of e = first_of (search rules, grind (arith, here)) in
    subst (λ (u : EntryView). IsCast block_len (λ (b : BlockView). mould_of b.cells) u block) c.index-self-segment.is
    (cast_lent _ _ _ entries k e block c.self.invariant.2 out near c.index-self-segment.is long)

pub set-requires-clause-plain : goal.set-requires-clause-plain
set-requires-clause-plain g c =
    let k : ℕ = c.in-Some-Some.segment in let entries : List EntryView = c.self.inside.entries in
    let out = sym c.take-out.ensures.value ∙ c.in-Some-Some.is-0 in
    let near : k < length entries = first_of (search rules, grind arith) in
    subst (λ (u : EntryView). tie_of u ≡ None) c.index-self-segment.is
    (plain_lent _ _ _ entries k c.index-self-segment.result c.self.invariant.2 out near c.index-self-segment.is)
