use Rattle.std.proofs.Common.{◌≡◌, length}
use Rattle.span_core.specs.Writer.{AddsPlaces, LogsPushes}
use Rattle.span_core.proofs.shared_writer.SharedWriter.push_all.Given as goal

abbrev pub invariant-loop-item : goal.invariant-loop-item
invariant-loop-item g l =
    (l.self.vector ≡ l.fn.self.vector) × AddsPlaces l.fn.self.hand l.self.hand l.n × (l.n ≡ length l.yielded)
    × LogsPushes l.fn.self.hand l.self.hand l.n
