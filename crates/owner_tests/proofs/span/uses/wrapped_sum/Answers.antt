use Rattle.std.proofs.Common.{◌≡◌, ℕ, Option, List, rules, unwrap_or, fold, subst}
use Rattle.std.proofs.lemmas.Result.{IfOk-weaker}
use Rattle.span_core.specs.Loops.{wrapping_sum}
use Rattle.owner_tests.proofs.span.uses.wrapped_sum.Goals as goal

pub returns : goal.returns
returns g c =
    IfOk-weaker c.par_reduce.result _ _
    (λ sum folds. let same = c.answers_are_the_map.ensures (λ (m : Option ℕ). unwrap_or m 0) c.args.list.now.members c.new-span.result folds.0 (λ place item answer p. p.1) (search rules) (search rules) folds.1 in
    let P : List ℕ → Type 0 = λ answers. sum ≡ fold wrapping_sum 0 answers in subst P same (folds.2 wrapping_sum (c.sums_wrap.ensures (λ a b r p. p))))
    c.par_reduce.ensures.fold
