use Rattle.std.proofs.Common.{List, Option, sym, ◌∙◌, subst}
use Rattle.grow_core.specs.PopSegment.{IsUnbroken}
use Rattle.quiet_core.proofs.Compacted.{all_values, values_unbroken}
use Rattle.quiet_core.proofs.quiet.Quiet.compact.Goals as goal

pub returns-in-Some-clause-unbroken : goal.returns-in-Some-clause-unbroken
returns-in-Some-clause-unbroken g c =
    subst (λ (l : List (Option g.row.T.Denot)). IsUnbroken l) (sym (c.cut_to.ensures.members ∙ c.close_up-values.ensures.values)) (values_unbroken c.self.inside.parts.members)

pub returns-in_default-clause-members : goal.returns-in_default-clause-members
returns-in_default-clause-members g c = all_values c.args.self.now.members c.in_default.ensures
