use Rattle.std.proofs.Common.{◌≡◌}
use Rattle.grow_core.specs.Closing.{AreKnown}
use Rattle.grow_core.specs.Steps.{FindsMore}
use Rattle.grow_core.proofs.Settled.{AreFirst}
use Rattle.grow_core.proofs.vector.Shared.first_keys.Given as goal

abbrev pub invariant-loop-segment : goal.invariant-loop-segment
invariant-loop-segment g l =
    AreFirst l.self.segments.layout l.self.segments.names l.opened l.keys l.segment
    × AreKnown l.self.segments l.hand l.keys
    × FindsMore l.fn.hand l.hand
    × (l.hand.log ≡ l.fn.hand.log)
