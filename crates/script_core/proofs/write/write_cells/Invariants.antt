use Rattle.std.proofs.Common.{◌++◌, length, take}
use Rattle.std.specs.Prelude.{codes, decimal}
use Rattle.std.specs.List.{flat_map}
use Rattle.std.specs.Io.KnownBytes.{Appends}
use Rattle.script_core.specs.Text.{cell_text}
use Rattle.script_core.proofs.write.write_cells.Given as goal

abbrev pub invariant-loop-cell : goal.invariant-loop-cell
invariant-loop-cell g l =
    Appends (g.W.Write.contents l.fn.w) (g.W.Write.contents l.w) ((codes "size " ++ decimal (length l.cells) ++ codes ":") ++ flat_map (λ cell. codes " " ++ cell_text cell) (take l.cell-index l.cells))
