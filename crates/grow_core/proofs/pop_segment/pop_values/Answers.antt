use Rattle.std.proofs.Common.{◌≡◌, ◌+◌, ◌-◌, ℕ, Some, sym, ap, ◌∙◌, length, [], ◌∷◌, length-append, subst, arith}
use Rattle.cell_core.specs.Block.{KeepsOtherCells}
use Rattle.cell_core.specs.Member.{MemberView}
use Rattle.grow_core.proofs.PopSegment.{last_is, member_here, placed_there, popped_length, popped_more}
use Rattle.grow_core.proofs.pop_segment.pop_values.Goals as goal

pub placed-requires : goal.placed-requires
placed-requires g c =
    (member_here c.args.block.now c.loop-i.block c.args.n c.loop-i.i c.args.len c.args.row.now c.loop-i.row c.args.values.now.items c.loop-i.values.items c.at-member.result
    c.loop-i.invariant.0 c.loop-i-test.true c.requires.few c.requires.len c.at-member.ensures c.requires.members).1

pub take_value-value-requires : goal.take_value-value-requires
take_value-value-requires g c =
    let here = member_here c.args.block.now c.loop-i.block c.args.n c.loop-i.i c.args.len c.args.row.now c.loop-i.row c.args.values.now.items c.loop-i.values.items c.at-member.result
    c.loop-i.invariant.0 c.loop-i-test.true c.requires.few c.requires.len c.at-member.ensures c.requires.members in
    placed_there c.loop-i.block (c.args.n - 1 - c.loop-i.i) c.at-member.result c.placed.result here.0 here.1 c.placed.ensures.offset c.placed.ensures.name

pub loop-i-preserved : goal.loop-i-preserved
loop-i-preserved g c =
    let at = c.loop-i in let was = at.invariant.0 in let last = c.pop.ensures.0 in let m = c.at-member.result in let taken = c.take_value-value in
    let count = popped_length c.args.block.now at.block c.args.n at.i c.args.row.now at.row c.args.values.now.items at.values.items was in
    let fewer : length c.pop.new.self + 1 ≡ length at.row = sym (length-append c.pop.new.self (last ∷ [])) ∙ ap length (sym c.pop.ensures.1) in
    let same = last_is at.row c.pop.new.self last m (c.args.len - 1 - at.i) c.pop.ensures.1 (omega (arith, fewer, count, c.requires.len)) c.at-member.ensures in
    let value = ap (λ (u : MemberView _). u.value) same ∙ sym c.placed.ensures.value ∙ ap (λ v. Some v) (sym taken.ensures.value) in
    let others = subst (λ (o : ℕ). KeepsOtherCells at.block taken.new.self o) c.placed.ensures.offset taken.ensures.others in (
      rw c.push_reserved.ensures.items (popped_more c.args.block.now at.block taken.new.self c.args.n at.i c.args.row.now at.row c.pop.new.self c.args.values.now.items at.values.items last taken.result
          was c.loop-i-test.true c.pop.ensures.1 value taken.ensures.len others),
      omega (arith, c.push_reserved.ensures.len, at.invariant.1),
      c.push_reserved.ensures.capacity ∙ at.invariant.2,
    )
