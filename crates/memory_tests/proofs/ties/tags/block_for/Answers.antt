-- By the public clauses of the desk and of the block.
use Rattle.std.proofs.Common.{◌≡◌, ℕ, Option, List, refl, sym, ap, ◌∙◌, subst}
use Rattle.atomic_table.specs.Seated.{TableId}
use Rattle.cell_core.specs.Slot.{AreTied}
use Rattle.table_core.specs.Table.{IsLengthOf}
use Rattle.tie_core.specs.Tie.{Tie, row_of, tie_numbered}
use Rattle.tie_core.specs.Desk.{IsTieOf}
use Rattle.memory_tests.proofs.ties.tags.block_for.Goals as goal

pub returns-clause-block : goal.returns-clause-block
returns-clause-block c =
    let t : Tie = c.lay-seats.result.1.tie in let u : Tie = c.args.any.now.tie in
    let tied : AreTied (row_of t 2) c.in_ok-block.block.cells = subst (λ (ts : List (Option Tie)). AreTied ts c.in_ok-block.block.cells) c.lay-seats.ensures.seats.0 c.in_ok-block.ensures.ties in
    let any = subst (λ (z : TableId). IsTieOf z c.args.desk.now.floor u) c.requires.desk c.requires.any in
    let alike : tie_numbered t 0 ≡ tie_numbered u 0 = c.agrees.ensures c.args.table.now.table_id c.args.desk.now.floor 0 c.lay-seats.ensures.tie any in
    let long : IsLengthOf c.args.segments.now.layout 1 2 = subst (λ (f : ℕ). IsLengthOf f 1 2) (sym c.requires.layout) refl in
    record {
      length = subst (λ (n : ℕ). IsLengthOf c.args.segments.now.layout 1 n) (sym c.in_ok-block.ensures.len) long;
      mould = c.ties_laws.ensures.mould t 2 tied ∙ (ap (λ (x : Tie). row_of x 2) alike ∙ sym (c.requires.tied.1.mould 2 long));
    }
