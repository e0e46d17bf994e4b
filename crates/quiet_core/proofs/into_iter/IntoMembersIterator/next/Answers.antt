use Rattle.std.proofs.Common.{ℕ, ◌+◌, List, Option, ◌∷◌, drop, sym, ap, ◌∙◌}
use Rattle.quiet_core.proofs.Betweens.{drop_first, drop_set}
use Rattle.quiet_core.proofs.into_iter.IntoMembersIterator.next.Goals as goal

pub returns-clause-steps : goal.returns-clause-steps
returns-clause-steps g c =
    let parts = c.self.inside.parts in let from : ℕ = c.self.inside.from in
    sym c.self.view_is ∙ drop_first parts.members from c.replace-first.result c.replace-first.ensures.member
    ∙ ap (λ (xs : List (Option g.row.T.Denot)). c.replace-first.result ∷ xs) (sym (drop_set parts.members from Rattle.std.proofs.Common.None) ∙ ap (drop (from + 1)) (sym c.replace-first.ensures.members))
