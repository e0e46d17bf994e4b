use Rattle.std.proofs.Common.{◌≡◌, ◌∙◌, refl, arith}
use Rattle.std.proofs.lemmas.Result.{err_from_is_err_and}
use Rattle.claim_core.specs.declared.run.Run.{Run}
use Rattle.claim_core.specs.Hand.{IsWholeHand, seen_size}
use Rattle.grow_core.proofs.Later.{more_of_size, adds_after, refuses_after}
use Rattle.claim_core.specs.History.{claim_event}
use Rattle.grow_core.proofs.Wins.{claim_after, claim_of, refusal_after}
use Rattle.grow_core.proofs.vector.Shared.claim_run.Goals as goal

pub returns-in_err-value-clause-refused : goal.returns-in_err-value-clause-refused
returns-in_err-value-clause-refused g c =
    let p = err_from_is_err_and c.from_residual.result c.from_residual.ensures.1 in
    let size = c.size_for-from.ensures in
    let seen = more_of_size c.args.hand.now c.size_for-from.new.hand c.size_for-from.result size.seen in
    let still : IsWholeHand c.args.hand.now → seen_size c.size_for-from.new.hand ≡ seen_size c.args.hand.now = λ whole. size.seen.ends ∙ size.whole whole in
    rw (p.1, p.2)
    (refuses_after c.args.self.now c.args.n c.args.value c.args.hand.now c.size_for-from.new.hand c.claim.new.hand c.in_err-value.field-0.0 seen still c.in_err-value.ensures.refused)

pub returns-clause-claimed : goal.returns-clause-claimed
returns-clause-claimed g c =
    let size = c.size_for-from.ensures in
    let run : Run = record { from = c.size_for-from.result; n = c.args.n } in
    let seen = more_of_size c.args.hand.now c.size_for-from.new.hand c.size_for-from.result size.seen in record {
      n = refl;
      grows = record {
        claimed = λ _. adds_after c.args.hand.now c.size_for-from.new.hand c.claim.new.hand run seen c.in_ok-value.ensures.run;
        empty = λ none. absurd (omega (arith, none));
      };
      owned = λ _. c.added_runs_are_owned.ensures _ _ _ c.in_ok-value.ensures.run;
      places = c.in_ok-value.ensures.owned;
      not_below = size.grows;
      alone = size.whole;
      within = omega arith;
    }

pub returns-in_err-value-clause-logs_refusal : goal.returns-in_err-value-clause-logs_refusal
returns-in_err-value-clause-logs_refusal g c =
    let p = err_from_is_err_and c.from_residual.result c.from_residual.ensures.1 in
    rw (p.1, p.2)
    (refusal_after c.args.hand.now c.size_for-from.new.hand c.claim.new.hand c.size_for-from.ensures.goes_on c.args.n c.in_err-value.field-0.0
    c.in_err-value.ensures.logs_refusal)

-- a growth by no places claims no run
pub returns-then-n-eq0-clause-new_run : goal.returns-then-n-eq0-clause-new_run
returns-then-n-eq0-clause-new_run g c = record {
  owned = λ some_places. absurd (omega (arith, some_places, c.if-n-eq0.true));
  fresh = λ place above below it. omega (arith, above, below, c.if-n-eq0.true);
}

pub returns-clause-logs : goal.returns-clause-logs
returns-clause-logs g c =
    let run : Run = record { from = c.size_for-from.result; n = c.args.n } in record {
      some = λ _.
          claim_after c.args.hand.now c.size_for-from.new.hand c.claim.new.hand c.size_for-from.ensures.goes_on (λ index. claim_event index run)
          (claim_of (λ index. claim_event index run) c.size_for-from.new.hand c.claim.new.hand c.in_ok-value.ensures.logs.index c.in_ok-value.ensures.logs.last
          c.in_ok-value.ensures.logs.adds);
      empty = λ none. absurd (omega (arith, none));
    }
