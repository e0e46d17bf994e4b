use Rattle.std.proofs.Common.{◌≡◌, ◌≤◌, ◌%◌, ℕ, List, length, sym, ap, ◌∙◌, subst, arith}
use Rattle.cell_core.specs.Block.{BlockView, AreFilledFrom}
use Rattle.cell_core.specs.Slot.{Names}
use Rattle.cell_core.specs.Member.{MemberView}
use Rattle.cell_core.specs.Run.{AreFilledIn, cells_from, members_of}
use Rattle.cell_core.specs.Fixed.{ShowStages}
use Rattle.cell_core.proofs.RunParts.{from_length}
use Rattle.cell_core.proofs.StageRows.{run_at_filled, run_other_after}
use Rattle.cell_core.proofs.SliceParts.{are_filled, members_count}
use Rattle.cell_core.proofs.block.Block.filled_run.Goals as goal

pub filled-row-requires : goal.filled-row-requires
filled-row-requires g c =
    let cells = c.self.inside.laid.cells in let seen = c.sight-word.result.1 in let count = c.filled_in-count.result in
    let named : seen.of ≡ cells_from c.args.n c.args.offset cells = c.sight-word.ensures.0 ∙ c.cells-cells.ensures.0 in
    let index : seen.index ≡ c.args.offset % 16 = c.sight-word.ensures.1 ∙ c.cells-cells.ensures.1 in (
      omega (arith, ap length named, from_length c.args.n c.args.offset cells, c.filled_in-count.ensures.0),
      subst (λ (u : ℕ × ℕ). AreFilledIn u.0 u.1 count) (λ i. (sym c.sight-word.ensures.2 i, sym index i)) c.filled_in-count.ensures.1,
    )

pub returns-clause-row : goal.returns-clause-row
returns-clause-row g c =
    let cells = c.self.inside.laid.cells in let seen = c.sight-word.result.1 in let got = c.filled-row.ensures in
    let named : seen.of ≡ cells_from c.args.n c.args.offset cells = c.sight-word.ensures.0 ∙ c.cells-cells.ensures.0 in
    let few : length got.0 ≤ length seen.of = omega (arith, ap length named, from_length c.args.n c.args.offset cells, got.1, c.filled_in-count.ensures.0) in
    ap length got.2 ∙ members_count seen.of got.0 few ∙ got.1

pub returns-clause-filled : goal.returns-clause-filled
returns-clause-filled g c =
    let block = c.args.self.now in let n = c.args.n in let offset = c.args.offset in let cells = c.self.inside.laid.cells in let seen = c.sight-word.result.1 in let got = c.filled-row.ensures in
    let named : seen.of ≡ cells_from n offset cells = c.sight-word.ensures.0 ∙ c.cells-cells.ensures.0 in
    let whole : seen.of ≡ cells_from n offset block.cells = named ∙ ap (λ (b : BlockView). cells_from n offset b.cells) c.self.view_is in
    let is : c.filled-row.result.of ≡ members_of (cells_from n offset block.cells) got.0 = got.2 ∙ ap (λ (γs : List Names). members_of γs got.0) whole in
    subst (λ (ms : List (MemberView g.row.T.Denot)). AreFilledFrom block offset ms) (sym is) (are_filled block n offset got.0 c.requires.within)

pub returns-clause-stages : goal.returns-clause-stages
returns-clause-stages g c =
    let block = c.args.self.now in let n = c.args.n in let offset = c.args.offset in let cells = c.self.inside.laid.cells in let seen = c.cells-cells.result in let word = c.sight-word.result.0 in
    let whole : seen.of ≡ cells_from n offset block.cells = c.cells-cells.ensures.0 ∙ ap (λ (b : BlockView). cells_from n offset b.cells) c.self.view_is in
    let shown : ShowStages (cells_from n offset block.cells) (offset % 16) word = subst (λ (u : List Names × ℕ). ShowStages u.0 u.1 word) (λ i. (whole i, c.cells-cells.ensures.1 i)) c.sight-word.ensures.3 in
    run_at_filled block offset n (offset % 16) word c.filled_in-count.result c.filled_in-count.ensures.0 c.filled_in-count.ensures.1 shown

pub returns-clause-next : goal.returns-clause-next
returns-clause-next g c =
    let block = c.args.self.now in let n = c.args.n in let offset = c.args.offset in let cells = c.self.inside.laid.cells in let seen = c.cells-cells.result in let word = c.sight-word.result.0 in
    let whole : seen.of ≡ cells_from n offset block.cells = c.cells-cells.ensures.0 ∙ ap (λ (b : BlockView). cells_from n offset b.cells) c.self.view_is in
    let shown : ShowStages (cells_from n offset block.cells) (offset % 16) word = subst (λ (u : List Names × ℕ). ShowStages u.0 u.1 word) (λ i. (whole i, c.cells-cells.ensures.1 i)) c.sight-word.ensures.3 in
    run_other_after block offset n (offset % 16) word c.filled_in-count.result c.filled_in-count.ensures.2 shown
