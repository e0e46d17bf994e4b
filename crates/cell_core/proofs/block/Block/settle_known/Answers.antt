use Rattle.std.proofs.Common.{◌≡◌, ℕ, ◌%◌, sym, ◌∙◌, subst}
use Rattle.std.specs.Prelude.{Option}
use Rattle.cell_core.specs.Slot.{Names}
use Rattle.cell_core.specs.Block.{cell_at}
use Rattle.cell_core.specs.Fixed.{HasValueByStage, ShowsStage}
use Rattle.cell_core.specs.Fields.{field}
use Rattle.cell_core.proofs.Stages.{value_by_state}
use Rattle.cell_core.proofs.block.Block.settle_known.Goals as goal

pub returns-in-3-clause-stage : goal.returns-in-3-clause-stage
returns-in-3-clause-stage g c =
    let slot = c.cell.result in let word : ℕ = c.known-word.result.0 in let γ : Names = cell_at c.args.self.now c.args.offset in let offset = c.args.offset in
    let shown : ShowsStage γ (field word (offset % 16)) = subst (λ (u : Names × ℕ). ShowsStage u.0 (field word u.1)) (λ i. (c.cell.ensures.0 i, c.cell.ensures.1 i)) c.known-word.ensures.3 in
    let three : field word (offset % 16) ≡ 3 = sym c.state_in.ensures ∙ c.in-3.is in
    subst (λ (v : Option g.row.T.Denot). HasValueByStage γ v) (sym c.of.ensures.value) (value_by_state γ (field word (offset % 16)) c.written-written.result.value three shown)
