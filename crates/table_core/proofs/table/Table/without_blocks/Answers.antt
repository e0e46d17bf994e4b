use Rattle.std.proofs.Common.{rules, ◌<◌, length, refl, arith}
use Rattle.std.proofs.lemmas.Option.{none-some}
use Rattle.table_core.proofs.Bonds.{plain_kind}
use Rattle.table_core.proofs.PlainBlocks.{plain_at}
use Rattle.table_core.proofs.table.Table.without_blocks.Goals as goal

pub invariant_of-result : goal.invariant_of-result
invariant_of-result g c = (
  c.f-f.ensures.layout,
  c.empty_entries-entries.ensures.fit,
  plain_kind _ _ _ c.empty_entries-entries.ensures.plain,
  λ held none. absurd (none-some held none),
)

pub returns-clause-plain : goal.returns-clause-plain
returns-clause-plain g c k less =
    let near : k < length c.empty_entries-entries.result = first_of (search rules, grind arith) in
    plain_at c.args.layout c.empty_entries-entries.result k _ refl refl near c.empty_entries-entries.ensures.fit c.empty_entries-entries.ensures.plain less
