-- By how many cells there are, and how they are tied.
use Rattle.std.proofs.Common.{rules, ◌≡◌, ℕ, ◌+◌, ap, ◌∙◌, subst, arith}
use Rattle.tie_core.specs.Tie.{row_of}
use Rattle.cell_core.specs.Block.{block_len}
use Rattle.cell_core.specs.Slot.{AreTied}
use Rattle.memory_tests.proofs.opened.drops.drop_table.Goals as goal

pub attach-key-requires : goal.attach-key-requires
attach-key-requires c =
    let long : block_len c.deref_mut.result.now ≡ 32 = search rules in (
      omega arith,
      (
        c.new_for-table.ensures.layout ∙ c.layout.ensures,
        (
          c.adopt-cell.ensures.len ∙ long,
          (
            subst (λ (n : ℕ). AreTied (row_of c.adopt-cell.result.0.tie n) c.adopt-cell.new.cells.cells) long c.adopt-cell.ensures.ties,
            (
              c.adopt-cell.ensures.number ∙ ap (λ (n : ℕ). c.adopt-cell.result.0.tie.id + n) long,
              c.new_for-table.ensures.none_lent,
            ),
          ),
        ),
      ),
    )
