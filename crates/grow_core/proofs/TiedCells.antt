-- The cells of a vector: how they are tied, and that a hand finds them by the rows that it knows.
use Rattle.std.proofs.Common.{◌≡◌, ℕ, zero, suc, ◌+◌, ◌-◌, ◌<◌, ◌≤◌, List, [], ◌∷◌, refl, sym, ap, ◌∙◌, subst, arith}
use Rattle.std.specs.Prelude.{Some, length, slice_get, slice_index}
use Rattle.std.specs.List.{Contains}
use Rattle.seg_core.specs.Segment.{segment_start, segment_count}
use Rattle.tie_core.specs.Tie.{Tie}
use Rattle.claim_core.specs.declared.run.Run.{Run}
use Rattle.claim_core.specs.Lengths.{run_start}
use Rattle.claim_core.specs.Laws.{SeenRunsAreWithin}
use Rattle.claim_core.specs.Word.{WordView}
use Rattle.claim_core.specs.Hand.{HandView, seen_size}
use Rattle.claim_core.specs.Ties.{Finds, FindsRun}
use Rattle.cell_core.specs.Block.{BlockView, block_len}
use Rattle.cell_core.specs.Mould.{mould_of, row_mould, first_seat}
use Rattle.table_core.specs.Table.{TableView, KeyView, IsTiedBlockOf}
use Rattle.grow_core.specs.Keys.{OwnsPlacesOf, layout_in, mark_of}
use Rattle.grow_core.specs.Ties.{TagRow, AreTiedTo, IsCellOf, IsTagOf, IsTiedBlock, KnowsRow, row_at}
use Rattle.grow_core.specs.declared.fill.Segment.{Segment}
use Rattle.grow_core.specs.Segment.{IsSegmentOf, KnowsSegment}
use Rattle.grow_core.specs.Vector.{VectorView, IsHandOf, layout_of}

-- a list has something at each index
there_is : {X : Type 0} (xs : List X) (i : ℕ) → i < length xs → (x : X) × (slice_get xs i ≡ Some x)
there_is [] i less = absurd (omega (arith, less))
there_is (x ∷ xs) zero less = (x, refl)
there_is (x ∷ xs) (suc i) less = there_is xs i (omega (arith, less))

-- All entries are tied
module _ (word : WordView) (table : TableView) (cells : Tie) (tags : TagRow) (are : AreTiedTo word table cells tags) where
  mould_in : (segment : ℕ) (block : BlockView) → segment < segment_count table.layout → IsTiedBlockOf table segment block
      → mould_of block.cells ≡ row_mould cells (block_len block)
  mould_in segment block within of =
      let tag = there_is tags segment (omega (arith, are.all, within)) in
      let is : IsTagOf word table cells segment tag.0 = are.each segment tag.0 tag.1 in
      of.mould ∙ is.by.mould (block_len block) of.length

  -- so the cells of a block have seats with numbers in a row
  pub mould_is : (key : KeyView) (block : BlockView) (place offset : ℕ) → IsCellOf table key block place offset
      → mould_of block.cells ≡ row_mould cells (block_len block)
  mould_is key block place offset cell =
      subst (λ (b : BlockView). mould_of b.cells ≡ row_mould cells (block_len b)) (sym cell.block) (mould_in key.segment key.block cell.key.within cell.by)

-- what a hand takes for the layout is that of its vector
pub layout_is : {T : Type 0} (vector : VectorView T) (hand : HandView) → vector.word.mark ≡ mark_of vector.segments → IsHandOf vector hand
    → layout_in hand.of.mark ≡ layout_of vector
layout_is vector hand mark ours = ap (λ (w : WordView). layout_in w.mark) ours ∙ ap layout_in mark

-- A hand that knows the row of a block finds the places of its cells
module _ (hand : HandView) (f segment : ℕ) (block : BlockView) (place offset seat : ℕ) (layout : layout_in hand.of.mark ≡ f) (knows : KnowsRow hand segment block)
    (tied : IsTiedBlock block) (at : place ≡ segment_start f segment + offset) (is : seat ≡ first_seat block.cells + offset) where
  its_row : Contains hand.rows (row_at f segment block)
  its_row = subst (λ (k : ℕ). Contains hand.rows (row_at k segment block)) layout (knows tied)

  pub finds_cell : offset < block_len block → Finds hand.rows place seat
  finds_cell within = (row_at f segment block, its_row, record { i = offset; less = within; at = at; in_seat = is })

  pub finds_cells : (n : ℕ) → offset + n ≤ block_len block → FindsRun hand.rows place n seat
  finds_cells n within i less =
      let inside : offset + i < block_len block = omega (arith, within, less) in
      let here : place + i ≡ segment_start f segment + (offset + i) = omega (arith, at) in
      let there : seat + i ≡ first_seat block.cells + (offset + i) = omega (arith, is) in
      (row_at f segment block, its_row, record { i = offset + i; less = inside; at = here; in_seat = there })

-- A place of a segment, at its offset there
module _ {T : Type 0} (vector : VectorView T) (segment : Segment T) (is : IsSegmentOf vector segment) (place : ℕ) (from : segment.from ≤ place) where
  pub cell_here : place < segment.end → IsCellOf vector.segments segment.key segment.block.now place (place - segment.from)
  cell_here before =
      let within : place - segment.from < block_len segment.key.block = omega (arith, before, from, is.last, is.first, is.long) in
      let here : place ≡ segment_start vector.segments.layout segment.key.segment + (place - segment.from) = omega (arith, from, is.first) in
      record { key = is.key; block = is.block; long = is.long; by = is.by; within = within; place = here }

  -- places from it on that are there
  pub cells_here : (n : ℕ) → place + n ≤ segment.end → (place - segment.from) + n ≤ block_len segment.block.now
  cells_here n within =
      subst (λ (b : BlockView). (place - segment.from) + n ≤ block_len b) (sym is.block) (omega (arith, within, from, is.last, is.first, is.long))

-- a hand that knows a segment knows the row of its block
pub row_here : {T : Type 0} (vector : VectorView T) (segment : Segment T) (hand : HandView) → IsSegmentOf vector segment → KnowsSegment hand segment
    → KnowsRow hand segment.key.segment segment.block.now
row_here vector segment hand is knows = subst (λ (b : BlockView). KnowsRow hand segment.key.segment b) (sym is.block) knows

-- places of the hand's own lie past the opened list, and below the size that the hand has seen
pub owned_within : SeenRunsAreWithin → (hand : HandView) (place n : ℕ) → 0 < n → OwnsPlacesOf hand (record { from = place; n = n })
    → (hand.of.base ≤ place) × (place + n ≤ seen_size hand)
owned_within law hand place n some owns =
    let first = owns place (omega arith, omega (arith, some)) in
    let last = owns (place + n - 1) (omega (arith, some), omega (arith, some)) in
    let run : ℕ → Run = λ index. record { from = run_start hand.of.base hand.seen index; n = slice_index hand.seen index } in
    let low = law hand first.0 (run first.0) (record { there = first.2.there; from = refl; n = refl }) in
    let high = law hand last.0 (run last.0) (record { there = last.2.there; from = refl; n = refl }) in
    (omega (arith, low.0, first.2.after), omega (arith, last.2.before, high.1, some))
