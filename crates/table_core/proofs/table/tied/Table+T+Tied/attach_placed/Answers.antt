use Rattle.std.proofs.Common.{◌≡◌, ℕ, ◌<◌, length, sym, ap, ◌∙◌, subst, arith, rules}
use Rattle.std.proofs.lemmas.Option.{none-some}
use Rattle.cell_core.specs.Block.{block_len}
use Rattle.cell_core.specs.Mould.{row_mould}
use Rattle.table_core.specs.Entry.{mould_in, tie_in}
use Rattle.table_core.specs.Table.{TableView, IsBlockOf, IsLengthOf}
use Rattle.table_core.proofs.Bonds.{bond_there, fit_set, tied_kind_set}
use Rattle.table_core.proofs.table.tied.Table+T+Tied.attach_placed.Goals as goal

pub invariant_of-self : goal.invariant_of-self
invariant_of-self g c =
    let long = subst (λ (t : TableView). IsBlockOf t.layout c.args.segment c.args.block.value) (sym c.self.view_is) c.requires.length in
    let here = subst (IsLengthOf c.self.inside.layout c.args.segment) (sym c.filled_placed-entry.ensures.length) long in
    let back = ap (λ (t : TableView). t.lent) c.self.view_is ∙ c.requires.none_lent in (
      c.self.invariant.0,
      fit_set c.self.inside.layout c.self.inside.entries c.args.segment c.filled_placed-entry.result.0 c.self.invariant.1 here,
      tied_kind_set _ _ c.self.inside.entries c.args.segment c.filled_placed-entry.result.0 c.args.seat.tie c.self.invariant.2 back c.filled_placed-entry.ensures.tie.0,
      λ held none. absurd (none-some held none),
    )

pub returns-clause-tied : goal.returns-clause-tied
returns-clause-tied g c =
    let near : c.args.segment < length c.self.inside.entries = first_of (search rules, grind arith) in
    let put = bond_there c.self.inside.entries c.args.segment c.filled_placed-entry.result.0 near in
    record {
      tie = ap tie_in put ∙ c.filled_placed-entry.ensures.tie.0;
      mould = λ n is.
          let long = subst (λ (t : TableView). IsBlockOf t.layout c.args.segment c.args.block.value) (sym c.self.view_is) c.requires.length in
          let same : block_len c.args.block.value ≡ n = omega (arith, is, long) in
          ap mould_in put ∙ c.filled_placed-entry.ensures.tie.1 ∙ c.requires.mould ∙ ap (λ (m : ℕ). row_mould c.args.cells.now.tie m) same;
    }
