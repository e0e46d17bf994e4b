use Rattle.std.proofs.Common.{◌-◌}
use Rattle.seg_core.specs.Segment.{segment_start, segment_end}
use Rattle.grow_core.specs.Vector.{layout_of}
use Rattle.grow_core.proofs.vector.Shared.learn_row.Given as goal

-- the entry has the places of its segment
abbrev pub ghosts-learn_entry : goal.ghosts-learn_entry
ghosts-learn_entry g a =
    let f = layout_of a.self.now in let segment = a.key.now.segment in record { from = segment_start f segment; n = segment_end f segment - segment_start f segment; first = 0 }
