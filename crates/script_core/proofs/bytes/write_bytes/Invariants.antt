-- the writer has taken the bytes up to here
use Rattle.std.proofs.Common.{◌+◌, ◌-◌, ◌≤◌, ◌<◌, length, take}
use Rattle.std.specs.Io.KnownBytes.{Appends}
use Rattle.script_core.proofs.bytes.write_bytes.Given as goal

abbrev pub invariant-loop-at : goal.invariant-loop-at
invariant-loop-at g l = record {
  taken : Appends (g.W.Write.contents l.fn.writer) (g.W.Write.contents l.writer) (take l.at l.bytes);
  within : l.at ≤ length l.bytes;
  patience : 0 < l.patience;
}

abbrev pub decreases-loop-at : goal.decreases-loop-at
decreases-loop-at g l = (length l.bytes - l.at) + l.patience
