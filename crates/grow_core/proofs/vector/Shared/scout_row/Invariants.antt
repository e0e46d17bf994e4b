use Rattle.std.proofs.Common.{◌-◌}
use Rattle.seg_core.specs.Segment.{segment_start, segment_end}
use Rattle.grow_core.specs.Vector.{layout_of}
use Rattle.grow_core.proofs.vector.Shared.scout_row.Given as goal

-- the entry has the places of its segment
abbrev pub ghosts-scout_entry : goal.ghosts-scout_entry
ghosts-scout_entry g a = let f = layout_of a.self.now in record { from = segment_start f a.segment; n = segment_end f a.segment - segment_start f a.segment; first = 0 }
