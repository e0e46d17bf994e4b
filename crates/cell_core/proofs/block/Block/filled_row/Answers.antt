use Rattle.std.proofs.Common.{ℕ, ◌+◌, List, length, length-append, sym, ap, ◌∙◌, subst, arith}
use Rattle.cell_core.specs.Block.{AreAtFilled, AreFilledFrom, IsOtherAfter}
use Rattle.cell_core.specs.Member.{MemberView}
use Rattle.cell_core.proofs.SliceParts.{filled_more}
use Rattle.cell_core.proofs.StageRows.{at_filled_more, other_after_more}
use Rattle.cell_core.proofs.block.Block.filled_row.Goals as goal
use Rattle.cell_core.proofs.block.Block.filled_row.Goals.{else-words-test, then-words-test+then-found-asked}

pub words-preserved : goal.words-preserved
words-preserved g c =
    let old = c.words.row in let more = c.filled_word-asked.result.2 in let all = c.append.new.self in let is = c.append.ensures in
    let long = ap length is ∙ length-append old more in (
      omega (arith, c.filled_word-asked.ensures.asked),
      omega (arith, long, c.words.invariant.1, c.filled_word-asked.ensures.row, c.filled_word-asked.ensures.most),
      filled_more c.args.self.now c.args.offset c.words.count old more all c.words.invariant.1 is c.words.invariant.2 c.filled_word-asked.ensures.filled,
      at_filled_more c.args.self.now c.args.offset c.words.count c.filled_word-asked.result.1 (c.words.count + c.filled_word-asked.result.0) c.words.invariant.3 c.filled_word-asked.ensures.stages
          (omega (arith, c.if-found-asked.false)),
    )

pub returns-clause-filled : goal.returns-clause-filled
returns-clause-filled g c =
    let block = c.args.self.now in let offset = c.args.offset in let old = c.words.row in
    elim c.words-test.branch [
      | else-words-test w ↦ subst (λ (us : List (MemberView g.row.T.Denot)). AreFilledFrom block offset us) (sym w.row-is) c.words.invariant.2
      | then-words-test+then-found-asked w ↦ subst (λ (us : List (MemberView g.row.T.Denot)). AreFilledFrom block offset us) (sym w.row-is)
          (filled_more block offset c.words.count old w.filled_word-asked.result.2 w.append.new.self c.words.invariant.1 w.append.ensures c.words.invariant.2 w.filled_word-asked.ensures.filled)
    ]

pub returns-clause-stages : goal.returns-clause-stages
returns-clause-stages g c =
    let block = c.args.self.now in let offset = c.args.offset in
    elim c.words-test.branch [
      | else-words-test w ↦ subst (λ (k : ℕ). AreAtFilled block offset k) (sym w.count-is) c.words.invariant.3
      | then-words-test+then-found-asked w ↦ subst (λ (k : ℕ). AreAtFilled block offset k) (sym w.count-is)
          (at_filled_more block offset c.words.count w.filled_word-asked.result.1 (c.words.count + w.filled_word-asked.result.1) c.words.invariant.3 w.filled_word-asked.ensures.stages (omega arith))
    ]

pub returns-clause-next : goal.returns-clause-next
returns-clause-next g c =
    let block = c.args.self.now in let offset = c.args.offset in
    elim c.words-test.branch [
      | else-words-test w ↦ λ less. absurd (omega (arith, w.count-is, less))
      | then-words-test+then-found-asked w ↦ subst (λ (k : ℕ). IsOtherAfter block offset k c.args.n) (sym w.count-is)
          (other_after_more block offset c.words.count w.filled_word-asked.result.1 w.filled_word-asked.result.0 c.args.n w.filled_word-asked.ensures.next (omega arith))
    ]
