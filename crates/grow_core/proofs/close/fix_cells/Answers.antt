use Rattle.std.proofs.Common.{ℕ, ◌+◌, Some, refl, sym, ap, ◌∙◌, subst, arith}
use Rattle.tie_core.specs.Tie.{Tie, IsTied, tie_further, tie_numbered}
use Rattle.claim_core.specs.Gain.{IsLent}
use Rattle.claim_core.specs.Hand.{HandView}
use Rattle.claim_core.specs.Plays.{ShowsAt, cell_stage}
use Rattle.claim_core.specs.Ties.{Finds}
use Rattle.cell_core.specs.Block.{block_len}
use Rattle.cell_core.specs.Mould.{first_seat}
use Rattle.cell_core.specs.Slot.{Names}
use Rattle.grow_core.proofs.Fixing.{all_fixed, all_told, fixed_more, found_in, none_fixed, read_shows}
use Rattle.grow_core.proofs.close.fix_cells.Goals as goal

pub loop-i-init : goal.loop-i-init
loop-i-init g c = (none_fixed c.args.claims.now c.args.layout c.args.segment c.args.block.now, refl)

pub offer_read-offer-requires-clause-found : goal.offer_read-offer-requires-clause-found
offer_read-offer-requires-clause-found g c =
    let at = c.loop-i in let block = c.args.block.now in let f : ℕ = c.args.layout in let segment : ℕ = c.args.segment in
    let tied = c.ties_laws.ensures.tied c.args.cells.now.tie (block_len block) c.requires.by in
    let first = c.ties_laws.ensures.row (tie_numbered c.args.cells.now.tie (first_seat block.cells)) (block_len block) 0 tied (omega (arith, c.len-n.ensures)) in
    subst (λ (h : HandView). Finds h.rows (c.first-from.result + at.i) c.further.result.tie.id) (sym at.invariant.1)
    (found_in c.args.claims.now f segment block at.i (c.first-from.result + at.i) c.further.result.tie.id c.requires.mark c.requires.row (subst IsTied (sym first) tt) (omega (arith, c.len-n.ensures))
    (ap (λ (n : ℕ). n + at.i) c.first-from.ensures) (ap (λ (t : Tie). t.id) (c.further.ensures.tie ∙ ap (λ (t : Tie). tie_further t at.i) c.numbered-tag.ensures.tie)))

pub fix_for-offer-requires-clause-tie : goal.fix_for-offer-requires-clause-tie
fix_for-offer-requires-clause-tie g c =
    let at = c.loop-i in let block = c.args.block.now in let f : ℕ = c.args.layout in let segment : ℕ = c.args.segment in
    let tied = c.ties_laws.ensures.tied c.args.cells.now.tie (block_len block) c.requires.by in
    let first = c.ties_laws.ensures.row (tie_numbered c.args.cells.now.tie (first_seat block.cells)) (block_len block) at.i tied (omega (arith, c.len-n.ensures)) in
    ap (λ (γ : Names). γ.tied) (at.invariant.0.rest at.i (omega arith)) ∙ first
    ∙ ap (λ (t : Tie). Some t) (sym (c.offer_read-offer.ensures.offer.0 ∙ c.further.ensures.tie ∙ ap (λ (t : Tie). tie_further t at.i) c.numbered-tag.ensures.tie))

pub loop-i-preserved : goal.loop-i-preserved
loop-i-preserved g c =
    let at = c.loop-i in let lend = c.offer_read-offer in let fix = c.fix_for-offer in let back = c.take_back_read in let len = at.invariant.0.len in
    let about = fix.ensures.offer.1 in let s = fix.ensures.fixed.0 in
    let lent = subst (λ a. IsLent a.table_id a.view at.claims lend.new.self) (sym about) lend.ensures.lent in
    let read = read_shows at.claims back.new.self fix.result.about.told (c.first-from.result + at.i) fix.result.made s (back.ensures.read at.claims lent) fix.ensures.fixed.2 (ap (λ a. a.told) about ∙ lend.ensures.offer.3) in (
      fixed_more c.args.claims.now c.args.layout c.args.segment c.args.block.now at.block fix.new.self at.i (c.first-from.result + at.i) s at.invariant.0 (omega (arith, len, c.len-n.ensures)) fix.ensures.fixed.1 fix.ensures.others fix.ensures.len
          (ap (λ (n : ℕ). n + at.i) c.first-from.ensures) (subst (λ (h : HandView). ShowsAt h (c.first-from.result + at.i) (cell_stage s)) at.invariant.1 read.1),
      read.0 ∙ at.invariant.1,
    )

pub returns-clause-fixed : goal.returns-clause-fixed
returns-clause-fixed g c = all_fixed c.args.claims.now c.args.layout c.args.segment c.args.block.now c.loop-i.block c.loop-i.i c.loop-i.invariant.0 (omega (arith, c.len-n.ensures))

pub returns-clause-told : goal.returns-clause-told
returns-clause-told g c = all_told c.args.claims.now c.args.layout c.args.segment c.args.block.now c.loop-i.block c.loop-i.i c.loop-i.invariant.0 (omega (arith, c.len-n.ensures))
