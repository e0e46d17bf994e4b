use Rattle.std.proofs.Common.{◌≡◌, ℕ, ◌+◌, ◌<◌, [], ◌∷◌, sym, ap, ◌∙◌, subst, arith}
use Rattle.seg_core.specs.Segment.{segment_count}
use Rattle.tie_core.specs.Tie.{Tie, row_of}
use Rattle.claim_core.specs.Plays.{block_view}
use Rattle.cell_core.specs.Block.{BlockView, block_len}
use Rattle.cell_core.specs.Mould.{first_seat, last_seat, mould_of}
use Rattle.cell_core.specs.Slot.{AreTied}
use Rattle.table_core.specs.Table.{IsLengthOf, IsTiedBlockOf, entry_mould}
use Rattle.grow_core.specs.Vector.{VectorView, layout_of}
use Rattle.grow_core.proofs.Entries.{rises, tagged}
use Rattle.grow_core.proofs.vector.Shared.make_block.Goals as goal

pub returns-clause-block : goal.returns-clause-block
returns-clause-block g c =
    let segments = c.self.inside.table in let f : ℕ = segments.layout in let segment : ℕ = c.args.segment in let n : ℕ = c.len-n.result in
    let tie = c.lay-seats.result.1.tie in let block = c.in_ok-block.block in
    let tied : AreTied (row_of tie n) block.cells = subst (λ ties. AreTied ties block.cells) c.lay-seats.ensures.seats.0 c.in_ok-block.ensures.ties in
    let within = subst (λ (v : VectorView g.row.T.Denot). segment < segment_count (layout_of v)) (sym c.self.view_is) c.requires in
    let at = tagged c.self.inside.word segments c.self.inside.cells.tie c.self.inside.tags segment c.self.invariant.tied within in
    let long : IsLengthOf f segment n = subst (λ (k : ℕ). IsLengthOf k segment n) c.layout.ensures.value c.len-n.ensures in
    let alike = c.agrees.ensures c.self.inside.word.table c.self.inside.word.floor 0 c.lay-seats.ensures.tied c.self.invariant.tied.cells_of in
    let mould : mould_of block.cells ≡ entry_mould segments segment = c.ties_laws.ensures.mould tie n tied ∙ (ap (λ (t : Tie). row_of t n) alike ∙ sym (at.1.by.mould n long)) in
    subst (λ (b : BlockView). IsTiedBlockOf c.args.self.now.segments segment b) (sym c.in_ok-new.ensures.ok)
    (subst (λ (v : VectorView g.row.T.Denot). IsTiedBlockOf v.segments segment block) c.self.view_is (record { length = omega (arith, long, c.in_ok-block.ensures.len); mould = mould }))

pub returns-clause-seat : goal.returns-clause-seat
returns-clause-seat g c =
    let tie = c.lay-seats.result.1.tie in let n : ℕ = c.len-n.result in let block = c.in_ok-block.block in let seat = c.lay-seats.ensures.block in
    let tied : AreTied (row_of tie n) block.cells = subst (λ ties. AreTied ties block.cells) c.lay-seats.ensures.seats.0 c.in_ok-block.ensures.ties in
    let some : 0 < n = omega (arith, rises c.layout.result c.args.segment, c.len-n.ensures) in
    let last : last_seat block.cells ≡ tie.id + n = c.ties_laws.ensures.last tie n tied some in
    let first : first_seat block.cells ≡ tie.id = omega (arith, last, c.in_ok-block.ensures.len) in
    subst (λ (b : BlockView). (c.lay-seats.new.block.table_id ≡ c.args.self.now.word.table) × (c.lay-seats.new.block.id ≡ last_seat b.cells)
    × (c.lay-seats.new.block.views ≡ block_view (first_seat b.cells) (block_len b) ∷ [])) (sym c.in_ok-new.ensures.ok)
    (seat.0 ∙ ap (λ (v : VectorView g.row.T.Denot). v.word.table) c.self.view_is, seat.1 ∙ sym last, seat.2 ∙ (λ i. block_view (sym first i) (sym c.in_ok-block.ensures.len i) ∷ []))
