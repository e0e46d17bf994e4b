use Rattle.std.proofs.Common.{sym, subst}
use Rattle.std.proofs.lemmas.Option.{none-some}
use Rattle.table_core.specs.Table.{TableView, IsBlockOf, IsLengthOf}
use Rattle.table_core.proofs.Bonds.{fit_set, kind_set}
use Rattle.table_core.proofs.table.Table.attach.Goals as goal

pub invariant_of-self : goal.invariant_of-self
invariant_of-self g c =
    let long = subst (λ (t : TableView). IsBlockOf t.layout c.args.segment c.args.block.value) (sym c.self.view_is) c.requires.length in
    let here = subst (IsLengthOf c.self.inside.layout c.args.segment) (sym c.filled-entry.ensures.length) long in (
      c.self.invariant.0,
      fit_set c.self.inside.layout c.self.inside.entries c.args.segment c.filled-entry.result.0 c.self.invariant.1 here,
      kind_set _ _ _ c.self.inside.entries c.args.segment c.filled-entry.result.0 c.self.invariant.2 c.filled-entry.ensures.loose,
      λ held none. absurd (none-some held none),
    )
