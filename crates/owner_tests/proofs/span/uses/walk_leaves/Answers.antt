use Rattle.std.proofs.Common.{ℕ, List, sym, subst}
use Rattle.span_core.specs.Span.{Interval}
use Rattle.owner_tests.proofs.Leaves.{Tiles, leaves-tile}
use Rattle.owner_tests.proofs.span.uses.walk_leaves.Goals as goal

pub loop-leaf-init : goal.loop-leaf-init
loop-leaf-init c =
    let M : List Interval → Type 0 = λ xs. Tiles c.from-next.result c.args.span.to xs in
    let N : ℕ → Type 0 = λ n. Tiles n c.args.span.to c.in_ok-leaves.leaves.items in
    subst M (sym c.as_slice-leaf-items.ensures.value) (subst N (sym c.from-next.ensures.value) (leaves-tile c.args.span c.in_ok-leaves.leaves.items c.in_ok-leaves.ensures))
