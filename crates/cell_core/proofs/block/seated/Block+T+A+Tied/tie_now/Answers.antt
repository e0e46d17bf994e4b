use Rattle.std.proofs.Common.{◌≡◌, ◌∙◌, length, ap, sym, subst}
use base.Fml.{Lft}
use Rattle.cell_core.specs.Block.{BlockView, block_len}
use Rattle.cell_core.specs.Fixed.{AreAtStages, AreBrokenFor}
use Rattle.cell_core.specs.Member.{KnowsCells}
use Rattle.cell_core.proofs.NewTies.{members_broken}
use Rattle.cell_core.proofs.block.seated.Block+T+A+Tied.tie_now.Goals as goal

pub retie-requires : goal.retie-requires
retie-requires g c =
    let many : length c.args.seats.ties ≡ length c.self.inside.laid.cells = c.requires.ties.0 ∙ sym (ap block_len c.self.view_is) in
    let long : length c.args.seats.stages ≡ length c.self.inside.laid.cells = c.requires.stages ∙ sym (ap block_len c.self.view_is) in
    let known : KnowsCells c.args.row.now c.args.from c.self.inside.laid.cells = subst (λ (b : BlockView). KnowsCells c.args.row.now c.args.from b.cells) (sym c.self.view_is) c.requires.known in (
      many,
      long,
      c.requires.ties.1,
      subst (λ (b : BlockView). AreAtStages c.args.seats.stages b.cells) (sym c.self.view_is) c.requires.fixed,
      subst (λ (ε : Lft). AreBrokenFor c.args.seats.stages c.self.inside.laid.cells ε) (sym c.ended.view_is)
          (members_broken c.args.seats.stages c.self.inside.laid.cells c.args.row.now c.args.from c.args.ended.now long known c.requires.broken),
    )
