-- One place is one cell.
use Rattle.std.proofs.Common.{◌≡◌, ℕ, ◌+◌, ◌^◌, ◌<◌, ◌≤◌, sym, ◌∙◌, subst, arith, lit<}
use Rattle.std.proofs.Math.Nat.{pow-le-pow_right}
use Rattle.seg_core.specs.Segment.{segment_end, segment_count, most_places}
use Rattle.seg_core.specs.Laws.{OnePlace}
use Rattle.cell_core.specs.Block.{BlockView, IsPlacedIn, IsSpoiltIn, block_len}
use Rattle.table_core.specs.Table.{TableView, KeyView, IsBlockOf, IsKeyIn}
use Rattle.grow_core.specs.Token.{PlacedView, SpoiltView, AreSmall, place_in}
use Rattle.grow_core.specs.Vector.{VectorView, IsPlacedOf, IsSpoiltOf, layout_of}

-- a segment of a layout ends at 2^40 or below
pub ends_within : (f k : ℕ) → k < segment_count f → segment_end f k ≤ most_places
ends_within f k few = let up : k + f ≤ 40 = omega arith in let z : 2 ^ (k + f) ≤ 2 ^ 40 = pow-le-pow_right (lit< tt) up in z

-- so the numbers of a segment and of a cell there are small
pub small_cell : (table : TableView) (key : KeyView) (offset : ℕ) → IsKeyIn table key → IsBlockOf table.layout key.segment key.block
    → offset < block_len key.block → AreSmall key.layout key.segment offset
small_cell table key offset inside long within =
    let all = ends_within table.layout key.segment inside.within in
    subst (λ (f : ℕ). AreSmall f key.segment offset) (sym inside.layout) (record { few = inside.within; within = omega (arith, long, within, all) })

one_cell : (f : ℕ) → OnePlace → (j k i o : ℕ) (a b : BlockView) → IsBlockOf f j a → IsBlockOf f k b → i < block_len a → o < block_len b
    → place_in f j i ≡ place_in f k o → (j ≡ k) × (i ≡ o)
one_cell f law j k i o a b long also_long within also_within same = law f j k i o (omega arith) (omega arith) same

module _ {T : Type 0} (law : OnePlace) (vector : VectorView T) (a : PlacedView T) (is : IsPlacedOf vector a) where
  module _ (b : PlacedView T) (also_is : IsPlacedOf vector b) (same : a.place ≡ b.place) where
    -- two tokens of one place are of one cell
    pub same_cell : (a.key.segment ≡ b.key.segment) × (a.cell.offset ≡ b.cell.offset)
    same_cell =
        one_cell (layout_of vector) law a.key.segment b.key.segment a.cell.offset b.cell.offset a.key.block b.key.block is.long also_is.long is.cell.within also_is.cell.within
        (sym is.place ∙ (same ∙ also_is.place))

    -- and so of one block
    pub same_block : (a.key.segment ≡ b.key.segment → a.key.block ≡ b.key.block) → IsPlacedIn a.key.block b.cell
    same_block one = subst (λ block. IsPlacedIn block b.cell) (sym (one same_cell.0)) also_is.cell

  module _ (b : SpoiltView) (also_is : IsSpoiltOf vector b) (same : a.place ≡ b.place) where
    -- the same where the other says that the place is broken
    pub same_broken_cell : (a.key.segment ≡ b.key.segment) × (a.cell.offset ≡ b.cell.offset)
    same_broken_cell =
        one_cell (layout_of vector) law a.key.segment b.key.segment a.cell.offset b.cell.offset a.key.block b.key.block is.long also_is.long is.cell.within also_is.cell.within
        (sym is.place ∙ (same ∙ also_is.place))

    pub same_broken_block : (a.key.segment ≡ b.key.segment → a.key.block ≡ b.key.block) → IsSpoiltIn a.key.block b.cell
    same_broken_block one = subst (λ block. IsSpoiltIn block b.cell) (sym (one same_broken_cell.0)) also_is.cell
