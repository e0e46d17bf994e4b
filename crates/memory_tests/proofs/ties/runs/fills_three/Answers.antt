-- By the rule for tests.
use Rattle.std.proofs.Common.{◌≡◌, ℕ, ◌+◌, sym, ap, arith}
use Rattle.tie_core.specs.Tie.{Tie}
use Rattle.memory_tests.specs.InOrder.{idle_from}
use Rattle.memory_tests.proofs.InOrder.{begins_in_order, fills_in_order, one_back}
use Rattle.memory_tests.proofs.ties.runs.fills_three.Goals as goal

pub offer_run-offer-requires-clause-permits : goal.offer_run-offer-requires-clause-permits
offer_run-offer-requires-clause-permits c =
    let first : ℕ = c.args.tag.now.tie.id in let k : ℕ = c.further-first.result.tie.id in
    let further : k ≡ first + 0 = ap (λ (t : Tie). t.id) c.further-first.ensures.tie in let is : k ≡ first = omega (arith, further) in
    (idle_from first, c.requires.seat.2, begins_in_order c.args.badge.now.id (idle_from first) k 3 (ap idle_from (sym is)) (omega (arith, is, c.requires.seat.1)))

pub offer_run-offer-requires-2-clause-permits : goal.offer_run-offer-requires-2-clause-permits
offer_run-offer-requires-2-clause-permits c =
    let back = one_back _ _ c.back.new.badge.views c.back.ensures.view in
    (back.0, back.1, fills_in_order c.back.new.badge.id back.0 c.further-first.result.tie.id 3)
