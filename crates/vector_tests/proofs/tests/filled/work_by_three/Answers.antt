use Rattle.std.proofs.Common.{rules, subst, ◌≡◌}
use Rattle.claim_core.specs.Word.{WordView}
use Rattle.claim_core.specs.History.{IsHistoryOf}
use Rattle.vector_tests.proofs.Filled.{still_done}
use Rattle.vector_tests.proofs.tests.filled.work_by_three.Goals as goal

pub returns : goal.returns
returns g c =
    let law = c.steps_stay.ensures in
    let of : c.join.new.hand.of ≡ c.args.vector.word = search rules in
    let others = c.join-all.ensures.second.1.1 in (
      c.join.new.hand.log,
      subst (λ (w : WordView). IsHistoryOf w.limit w.base w.filled c.join.new.hand.log) of c.laws.ensures.history,
      still_done law _ _ _ 2 _ _ _ _ _ _ c.join-all.ensures.first.1.1 c.join.ensures.begins_log,
      still_done law _ _ _ 2 _ _ _ _ _ _ others.0 c.join.ensures.also_begins_log,
      still_done law _ _ _ 2 _ _ _ _ _ _ others.1 c.join.ensures.also_begins_log,
      c.into_parts.ensures.history,
    )
