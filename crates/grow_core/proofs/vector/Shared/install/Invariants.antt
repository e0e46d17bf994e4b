use Rattle.std.proofs.Common.{◌≤◌}
use Rattle.grow_core.specs.Keys.{AreKeys, mark_of}
use Rattle.grow_core.specs.Steps.{FindsMore}
use Rattle.grow_core.specs.Ties.{KnowsRows}
use Rattle.grow_core.proofs.KeyRows.{Walked}
use Rattle.grow_core.proofs.vector.Shared.install.Given as goal

abbrev pub invariant-loop-segment : goal.invariant-loop-segment
invariant-loop-segment g l =
    AreKeys (mark_of l.self.segments) l.keys
    × Walked (λ segment. l.first ≤ segment) l.initial.keys l.keys l.segment
    × KnowsRows l.claims l.keys
    × FindsMore l.fn.claims l.claims
