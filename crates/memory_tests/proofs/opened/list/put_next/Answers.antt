-- By the public clauses of the block and of its members.
use Rattle.std.proofs.Common.{ℕ, List, ap, sym, ◌∙◌, subst}
use Rattle.cell_core.specs.Block.{cell_at}
use Rattle.cell_core.specs.Member.{MemberView}
use Rattle.memory_tests.specs.Opened.{IsListIn}
use Rattle.memory_tests.proofs.ListsOpened.{filled_at}
use Rattle.memory_tests.proofs.opened.list.put_next.Goals as goal

pub returns-clause-list : goal.returns-clause-list
returns-clause-list g c =
    let new = c.put_now-placed.new.self in let placed = c.put_now-placed.ensures.placed in
    subst (λ (row : List (MemberView g.row.T.Denot)). IsListIn new row c.args.epoch.now) (sym c.push.ensures)
    (filled_at c.args.cells.now new c.args.row.now c.args.epoch.now c.of.result c.put_now-placed.result.0.value c.args.offset c.requires.next.0 c.requires.list
    c.requires.next.1 c.put_now-placed.ensures.len c.put_now-placed.ensures.others c.put_now-placed.ensures.fixed c.of.ensures.value
    (c.of.ensures.name ∙ placed.of.named ∙ ap (λ (k : ℕ). (cell_at new k).value_name) placed.at))
