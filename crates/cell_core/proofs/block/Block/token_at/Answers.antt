use Rattle.std.proofs.Common.{◌+◌, Some, ap, ◌∙◌, arith, sym}
use Rattle.cell_core.specs.Block.{block_len, cell_at}
use Rattle.cell_core.proofs.SliceParts.{name_of, value_at}
use Rattle.cell_core.proofs.block.Block.token_at.Goals as goal

pub overflow_add-offset : goal.overflow_add-offset
overflow_add-offset g c =
    let it = c.requires.filled c.args.index c.at-member.result c.at-member.ensures in
    let long = ap block_len c.self.view_is in record { fits = omega (arith, it.0.within, long) }

pub placed-requires : goal.placed-requires
placed-requires g c = (c.requires.filled c.args.index c.at-member.result c.at-member.ensures).1

pub returns-clause-placed : goal.returns-clause-placed
returns-clause-placed g c =
    let block = c.args.self.now in let place = c.args.offset + c.args.index in let member = c.at-member.result in
    let it = c.requires.filled c.args.index member c.at-member.ensures in let told = c.placed.ensures in
    let named = told.name ∙ name_of (cell_at block place) member c.placed.result.value it.0.known told.value in
    record {
      of = record {
        within = omega (arith, it.0.within, told.offset);
        named = named ∙ ap (λ l. (cell_at block l).value_name) (sym told.offset);
      };
      at = told.offset;
    }

pub returns-clause-value : goal.returns-clause-value
returns-clause-value g c =
    value_at c.args.row.now c.args.index c.at-member.result c.at-member.ensures ∙ ap Some (sym c.placed.ensures.value)
