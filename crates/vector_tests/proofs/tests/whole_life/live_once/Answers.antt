use Rattle.std.proofs.Common.{rules, subst, ◌≡◌}
use Rattle.claim_core.specs.Word.{WordView}
use Rattle.claim_core.specs.History.{IsHistoryOf}
use Rattle.vector_tests.proofs.WholeLife.{kept_if_any, below_if_kept}
use Rattle.vector_tests.proofs.tests.whole_life.live_once.Goals as goal

pub recalled-requires-clause-below : goal.recalled-requires-clause-below
recalled-requires-clause-below g c =
    below_if_kept c.args.vector c.join.new.hand 5 _ _ c.into_parts-parts.ensures.length
    (kept_if_any c.args.vector _ c.join.new.hand 5 _ (search rules) c.join.ensures.begins c.join.ensures.begins_log c.join-all.ensures.first.1.1)

pub recalled-requires-2-clause-below : goal.recalled-requires-2-clause-below
recalled-requires-2-clause-below g c =
    below_if_kept c.args.vector c.join.new.hand 6 _ _ c.into_parts-parts.ensures.length
    (kept_if_any c.args.vector _ c.join.new.hand 6 _ (search rules) c.join.ensures.also_begins c.join.ensures.also_begins_log
    c.join-all.ensures.second.1.1.0)

pub recalled-requires-3-clause-below : goal.recalled-requires-3-clause-below
recalled-requires-3-clause-below g c =
    below_if_kept c.args.vector c.join.new.hand 7 _ _ c.into_parts-parts.ensures.length
    (kept_if_any c.args.vector _ c.join.new.hand 7 _ (search rules) c.join.ensures.also_begins c.join.ensures.also_begins_log
    c.join-all.ensures.second.1.1.1)

pub returns-clause-history : goal.returns-clause-history
returns-clause-history g c =
    let of : c.join.new.hand.of ≡ c.args.vector.word = search rules in record {
      log = c.join.new.hand.log;
      legal = subst (λ (w : WordView). IsHistoryOf w.limit w.base w.filled c.join.new.hand.log) of c.laws.ensures.history;
      list = c.into_parts-parts.ensures.history;
    }
