use Rattle.std.proofs.Common.{◌≡◌, List, rules, fold, subst}
use Rattle.std.proofs.lemmas.Result.{IfOk-weaker}
use Rattle.owner_tests.specs.Matrix.{MatrixView, identity, step_of, times}
use Rattle.owner_tests.proofs.Matrix.{products_join}
use Rattle.owner_tests.proofs.span.uses.product.Goals as goal

pub returns : goal.returns
returns g c =
    IfOk-weaker c.par_reduce.result _ _
    (λ all folds. let same = c.answers_are_the_map.ensures step_of c.args.list.now.members c.new-span.result folds.0 (λ place item answer p. p.1) (search rules) (search rules) folds.1 in
    let P : List MatrixView → Type 0 = λ answers. all ≡ fold times identity answers in
    let unit : c.identity.result ≡ identity = c.identity.ensures in
    let made = folds.2 times (products_join _ _ unit (λ m n r p. p)) in
    subst P same (subst (λ (unit : MatrixView). all ≡ fold times unit folds.0) unit made))
    c.par_reduce.ensures.fold
