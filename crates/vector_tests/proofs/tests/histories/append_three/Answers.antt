use Rattle.std.proofs.Common.{ℕ, List, [], ◌∷◌, ◌++◌, Option, Some, None, ap, ◌∙◌}
use Rattle.vector_tests.proofs.tests.histories.append_three.Goals as goal

pub returns : goal.returns
returns c =
    let one = c.append.ensures.members ∙ ap (λ (l : List (Option ℕ)). l ++ Some c.args.value ∷ []) c.requires.empty in
    let two = c.append-2.ensures.members ∙ ap (λ (l : List (Option ℕ)). l ++ None ∷ []) one in
    c.append-3.ensures.members ∙ ap (λ (l : List (Option ℕ)). l ++ None ∷ []) two
