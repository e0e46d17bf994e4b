use Rattle.std.proofs.Common.{◌≡◌, ◌+◌, ◌*◌, ◌<◌, ◌≤◌, ℕ, List, Some, None, length, drop, sym, ◌∙◌, subst, arith}
use Rattle.std.specs.Prelude.{slice_get}
use Rattle.std.proofs.lemmas.Nat.{row_fits}
use Rattle.std.proofs.lemmas.Option.{slice_get_within}
use Rattle.quiet_core.specs.QuietAt.{IsRefusalAt}
use Rattle.handle_core.specs.Calls.{elements_in}
use Rattle.handle_core.proofs.Chunks.{elements_at, elements_length, parts_count, written_parts}
use Rattle.handle_core.proofs.members.copy_values.Goals as goal

pub write_element-requires : goal.write_element-requires
write_element-requires g c =
    omega (arith, row_fits c.loop-i.i g.row.N c.args.n g.row.N c.loop-i-test.true (omega arith))

pub unreachable-requires : goal.unreachable-requires
unreachable-requires g c =
    let there = c.requires.members c.loop-i.i c.loop-i-test.true in
    let broken : slice_get c.args.list.now.members (c.args.place + c.loop-i.i) ≡ Some None =
    subst (λ why. IsRefusalAt c.args.list.now.members (c.args.place + c.loop-i.i) why)
    c.in-Err-Broken.field-0-is c.in-Err-Broken.ensures.refused in
    let wrong : Some None ≡ Some (Some there.0) = sym broken ∙ there.1 in
    absurd (cc)

pub loop-i-preserved : goal.loop-i-preserved
loop-i-preserved g c =
    let v = c.loop-i.values in
    let fits : c.loop-i.i * g.row.N + g.row.N ≤ length v =
    omega (arith, row_fits c.loop-i.i g.row.N c.args.n g.row.N c.loop-i-test.true (omega arith)) in
    let long : length v ≡ length c.args.values.now = c.loop-i.invariant.1 in
    let written = c.write_element.ensures.written in (
      written_parts (λ j ws. slice_get c.args.list.now.members (c.args.place + j) ≡ Some (Some ws))
          v c.in-Ok.words.now (drop (c.loop-i.i * g.row.N + g.row.N) v) c.write_element.new.values g.row.N c.loop-i.i
          c.write_element.ensures.long fits written c.loop-i.invariant.0 c.in-Ok.ensures.value,
      omega (arith, c.write_element.auto.values, long),
    )

pub returns-clause-copied : goal.returns-clause-copied
returns-clause-copied g c i x at =
    let within = slice_get_within (elements_in g.row.N c.loop-i.values) i x at in
    let below : i < c.loop-i.i =
    omega (arith, within, elements_length g.row.N c.loop-i.values, parts_count c.args.n g.row.N (length c.loop-i.values) c.requires.some (omega arith)) in
    subst (λ (ws : List ℕ). slice_get c.args.list.now.members (c.args.place + i) ≡ Some (Some ws))
    (sym (elements_at g.row.N i c.loop-i.values x at)) (c.loop-i.invariant.0 i below)
