use Rattle.std.proofs.Common.{◌≡◌, ℕ, ◌<◌, length, ap, ◌∙◌, arith, rules}
use Rattle.cell_core.specs.Mould.{row_mould}
use Rattle.table_core.specs.Entry.{mould_at, tie_of}
use Rattle.table_core.proofs.Bonds.{mould_replaced, tied_replaced}
use Rattle.table_core.proofs.table.tied.Table+T+Tied.tie.Goals as goal

pub returns-clause-tied : goal.returns-clause-tied
returns-clause-tied g c =
    let near : c.args.segment < length c.self.inside.entries = first_of (search rules, grind arith) in
    let put = c.replace.ensures.after in
    record {
      tie = tied_replaced c.self.inside.entries c.args.segment _ _ c.args.seat.tie near (ap tie_of put ∙ c.rename.ensures.2 ∙ c.new_for-new.ensures.1);
      mould = λ n is.
          let same : c.len-len.result ≡ n = omega (arith, is, c.len-len.ensures) in
          mould_replaced c.self.inside.entries c.args.segment _ _ (row_mould c.args.cells.now.tie n) near
          (ap mould_at put ∙ c.rename.ensures.3 ∙ c.new_for-new.ensures.2 ∙ ap (λ (m : ℕ). row_mould c.args.cells.now.tie m) same);
    }
