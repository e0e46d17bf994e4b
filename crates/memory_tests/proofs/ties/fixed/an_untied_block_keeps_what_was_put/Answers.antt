-- By the public clauses of the desk and of the block.
use Rattle.std.proofs.Common.{Option, List, ap, ◌∙◌, subst, arith}
use Rattle.tie_core.specs.Tie.{Tie, tie_further}
use Rattle.cell_core.specs.Slot.{Names, AreTied}
use Rattle.memory_tests.proofs.ties.fixed.an_untied_block_keeps_what_was_put.Goals as goal

pub filled_when_untied-filled-requires-clause-tie :
    goal.filled_when_untied-filled-requires-clause-tie
filled_when_untied-filled-requires-clause-tie g c =
    let t : Tie = c.lay-seats.result.1.tie in
    let tied = subst (λ (ts : List (Option Tie)). AreTied ts c.in_ok-cells.cells.cells) c.lay-seats.ensures.seats.0 c.in_ok-cells.ensures.ties in
    let kept = c.keeps_what_is_put-kept.ensures.others 2 (λ same. omega (arith, same)) in
    (tie_further t 2, ap (λ (γ : Names). γ.tied) kept ∙ c.ties_laws.ensures.row t 3 2 tied (omega arith))
