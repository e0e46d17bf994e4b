use Rattle.span_core.specs.Span.{size_of}
use Rattle.span_core.proofs.span.+push_leaves.Given as goal

abbrev pub decreases-push_leaves : goal.decreases-push_leaves
decreases-push_leaves l = size_of l.span
