use Rattle.std.proofs.Common.{rules, [], ◌∷◌, ◌++◌, List, ◌∙◌, ap, subst, append_assoc, arith}
use Rattle.span_core.specs.Span.{Interval, AreLeaves}
use Rattle.span_core.specs.Span.AreLeaves.{itself, halves}
use Rattle.span_core.proofs.span.+push_leaves.Goals as goal

pub returns-then-not-is_divisible : goal.returns-then-not-is_divisible
returns-then-not-is_divisible d c =
    (c.args.span ∷ [], c.in_ok-push.ensures.items, itself c.args.span (grind (arith, c.is_divisible.ensures, c.if-not-is_divisible.true)))

pub returns : goal.returns
returns d c =
    let a = c.in_ok-push_leaves.ensures in
    let b = c.in_ok-push_leaves-2.ensures in
    let P : List Interval → Interval → Type 0 = λ xs s. AreLeaves s xs in
    (a.0 ++ b.0, b.1 ∙ ap (λ xs. xs ++ b.0) a.1 ∙ append_assoc c.args.leaves.now.items a.0 b.0, halves c.args.span a.0 b.0 (search rules) (subst (P a.0) c.split-upper.ensures.kept a.2) (subst (P b.0) c.split-upper.ensures.given b.2))
