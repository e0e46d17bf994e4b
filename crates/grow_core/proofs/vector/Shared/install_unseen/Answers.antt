use Rattle.std.proofs.Common.{◌≡◌, ℕ, [], ◌∷◌, sym, ap, ◌∙◌, arith}
use Rattle.claim_core.specs.Plays.{block_view}
use Rattle.cell_core.specs.Block.{block_len}
use Rattle.cell_core.specs.Mould.{first_seat}
use Rattle.grow_core.specs.Vector.{VectorView}
use Rattle.grow_core.proofs.vector.Shared.install_unseen.Goals as goal

-- the block has the places of its segment
pub visit_publish_unseen-visit-requires-clause-block : goal.visit_publish_unseen-visit-requires-clause-block
visit_publish_unseen-visit-requires-clause-block g c =
    let made = c.in_ok-block in let seat = made.ensures.seat in
    let same : block_len made.block.value ≡ c.entry_tag-tag.result.n = omega (arith, made.ensures.block.length, c.entry_tag-tag.ensures.1.n) in (
      seat.0 ∙ sym (ap (λ (v : VectorView g.row.T.Denot). v.word.table) c.self.view_is),
      (first_seat made.block.value.cells, seat.2 ∙ ap (λ (n : ℕ). block_view (first_seat made.block.value.cells) n ∷ []) same),
    )
