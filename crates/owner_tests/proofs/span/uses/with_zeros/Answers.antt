use Rattle.std.proofs.Common.{rules, ℕ, Option, unwrap_or}
use Rattle.std.proofs.lemmas.Result.{IfOk-weaker}
use Rattle.owner_tests.proofs.span.uses.with_zeros.Goals as goal

pub returns : goal.returns
returns g c =
    IfOk-weaker c.par_map.result _ _
    (λ all answers. c.answers_are_the_map.ensures (λ (m : Option ℕ). unwrap_or m 0) c.args.list.now.members c.new-span.result all.items (λ place item answer p. p.1) (search rules) (search rules) answers)
    c.par_map.ensures.answers
