use Rattle.seg_core.specs.Segment.{segment_start}
use Rattle.cell_core.specs.Block.{block_len}
use Rattle.cell_core.specs.Mould.{first_seat}
use Rattle.grow_core.specs.Vector.{layout_of}
use Rattle.grow_core.proofs.vector.Shared.install_tied.Given as goal

-- the entry has the places of its segment, and the seat of the block's first cell is this one
abbrev pub ghosts-publish_block : goal.ghosts-publish_block
ghosts-publish_block g a = record { from = segment_start (layout_of a.self.now) a.segment; n = block_len a.block.value; first = first_seat a.block.value.cells }
