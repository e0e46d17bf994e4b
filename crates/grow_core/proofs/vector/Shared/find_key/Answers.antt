use Rattle.std.proofs.Common.{sym, subst}
use Rattle.table_core.specs.Table.{KeyView}
use Rattle.grow_core.specs.Keys.{IsKeyAt, mark_of}
use Rattle.grow_core.specs.Ties.{KnowsRow}
use Rattle.grow_core.proofs.Entries.{rows_put}
use Rattle.grow_core.proofs.vector.Shared.find_key.Goals as goal

pub returns-clause-keys : goal.returns-clause-keys
returns-clause-keys g c =
    let mark = mark_of c.args.self.now.segments in
    c.put_key.ensures.keys mark c.requires.keys (subst (λ (k : KeyView). IsKeyAt mark c.args.segment k) (sym c.again.ensures) c.in_ok-key.ensures.key)

pub returns-clause-rows : goal.returns-clause-rows
returns-clause-rows g c =
    rows_put c.args.claims.now c.install_tied.new.claims c.args.keys.now c.put_key.new.row c.args.segment c.again.result c.install_tied.ensures.finds c.requires.rows
    (subst (λ (k : KeyView). KnowsRow c.install_tied.new.claims c.args.segment k.block) (sym c.again.ensures) c.in_ok-key.ensures.row) c.put_key.ensures.puts c.put_key.ensures.there
