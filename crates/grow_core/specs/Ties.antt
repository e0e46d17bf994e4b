-- What ties the segments of a vector to its claim word, and what a hand knows of them.
use Rattle.std.specs.Prelude.{◌≡◌, ℕ, ◌<◌, List, Some, slice_get, length}
use Rattle.std.specs.List.{Contains}
use Rattle.seg_core.specs.Segment.{segment_start, segment_count, most_segments}
use Rattle.tie_core.specs.Tie.{Tie, IsTied}
use Rattle.tie_core.specs.Tags.{TagView}
use Rattle.claim_core.specs.declared.role.RowAt.{RowAt}
use Rattle.claim_core.specs.Word.{WordView}
use Rattle.claim_core.specs.Gain.{IsTiedTo, IsEntryTo}
use Rattle.claim_core.specs.Hand.{HandView}
use Rattle.cell_core.specs.Block.{BlockView, block_len, cell_at}
use Rattle.cell_core.specs.Mould.{first_seat}
use Rattle.table_core.specs.Table.{TableView, KeyView, IsKeyIn, IsBlockOf, IsLengthOf, IsTiedBlockOf, IsTiedBy}
use Rattle.grow_core.specs.Token.{place_in}
use Rattle.grow_core.specs.Keys.{KeyRow, key_at, layout_in}

-- the tags of entries, in order
abbrev pub TagRow : Type 0
TagRow = List TagView

-- a tag is of the entry of this segment, which is tied to the word's table; the entry's block has cells with seats in a
-- row, with the codes of the tie `cells`
pub record IsTagOf (word : WordView) (segments : TableView) (cells : Tie) (segment : ℕ) (tag : TagView) : Type 0 where
  pub by : IsTiedBy segments segment tag.tie cells
  pub of : IsEntryTo word tag.tie
  pub from : tag.from ≡ segment_start segments.layout segment
  pub n : IsLengthOf segments.layout segment tag.n

-- the same, whatever the codes of the cells are
abbrev pub IsTagFor : WordView → TableView → ℕ → TagView → Type 0
IsTagFor word segments segment tag = (cells : Tie) × IsTagOf word segments cells segment tag

-- the entries of the first `n` segments are tied, each by its tag, and their cells by the codes of one tie
pub record AreTiedBelow (word : WordView) (segments : TableView) (cells : Tie) (tags : TagRow) (n : ℕ) : Type 0 where
  pub cells_of : IsTiedTo word cells
  pub all : length tags ≡ n
  pub each : (segment : ℕ) (tag : TagView) → slice_get tags segment ≡ Some tag → IsTagOf word segments cells segment tag

-- the entries of all segments are
abbrev pub AreTiedTo : WordView → TableView → Tie → TagRow → Type 0
AreTiedTo word segments cells tags = AreTiedBelow word segments cells tags (segment_count segments.layout)

-- the row of a segment that has this block: the cells of its places have seats in a row
abbrev pub row_at : ℕ → ℕ → BlockView → RowAt
row_at f segment block =
    record { from = segment_start f segment; n = block_len block; seat = first_seat block.cells }

-- the cells of the block are tied, if it has any
abbrev pub IsTiedBlock : BlockView → Type 0
IsTiedBlock block = IsTied (cell_at block 0).tied

-- A cell of the vector: the key is that of its segment, whose block this is, and the place is at this offset there
pub record IsCellOf (segments : TableView) (k : KeyView) (b : BlockView) (p i : ℕ) : Type 0 where
  pub key : IsKeyIn segments k
  pub block : b ≡ k.block
  pub long : IsBlockOf segments.layout k.segment k.block
  pub by : IsTiedBlockOf segments k.segment k.block
  pub within : i < block_len k.block
  pub place : p ≡ place_in segments.layout k.segment i

-- of each segment whose key is in the row, the hand knows where the places stand, since their cells are tied
abbrev pub KnowsRows : HandView → KeyRow → Type 0
KnowsRows hand row =
    (segment : ℕ) (key : KeyView) → segment < most_segments → key_at row segment ≡ Some key → IsTiedBlock key.block
    → Contains hand.rows (row_at (layout_in hand.of.mark) segment key.block)

-- the same of one segment
abbrev pub KnowsRow : HandView → ℕ → BlockView → Type 0
KnowsRow hand segment block = IsTiedBlock block → Contains hand.rows (row_at (layout_in hand.of.mark) segment block)
