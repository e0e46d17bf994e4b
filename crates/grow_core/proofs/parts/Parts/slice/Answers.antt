use Rattle.std.proofs.Common.{ℕ, ◌+◌, ◌≤◌, List, Option, length, take, drop, ◌∙◌, sym, ap, subst, arith}
use Rattle.std.proofs.lemmas.List.{length-map}
use Rattle.seg_core.specs.Segment.{segment_end, segment_of}
use Rattle.cell_core.specs.Block.{AreFilledFrom}
use Rattle.cell_core.specs.Member.{MemberView}
use Rattle.grow_core.specs.Parts.{PartsView, values_in}
use Rattle.grow_core.specs.Slices.{HasBroken}
use Rattle.grow_core.proofs.Broken.{filled_part, part_length, values_part}
use Rattle.grow_core.proofs.Sides.{member_in}
use Rattle.grow_core.proofs.parts.Parts.slice.Goals as goal

pub has_broken-requires-clause-within : goal.has_broken-requires-clause-within
has_broken-requires-clause-within g c =
    let p = c.self.inside in let long = length-map p.row (λ (u : MemberView g.row.T.Denot). u.value) in
    let are = ap (λ (v : PartsView g.row.T.Denot). length v.members) c.self.view_is in omega (arith, long, are, c.requires.within)

pub has_broken-requires-clause-places : goal.has_broken-requires-clause-places
has_broken-requires-clause-places g c = let whole = c.self.invariant.0 in omega (arith, whole.all, whole.within, whole.limited.1)

pub has_broken-requires-clause-known : goal.has_broken-requires-clause-known
has_broken-requires-clause-known g c i m less at =
    let cell = c.cell_of-offset in let p = c.self.inside in let place = c.args.place in
    let same = ap (λ (v : PartsView g.row.T.Denot). v.layout) c.self.view_is in
    let ends = subst (λ (f : ℕ). place + c.args.n ≤ segment_end f (segment_of f place)) (sym same) c.requires.segment in
    rw c.known-block.ensures.block (member_in _ _ _ p.row _ _ _ c.self.invariant.0 cell.result.0 cell.result.1 place i c.args.n cell.result.2 m
    cell.ensures.small cell.ensures.key cell.ensures.number cell.ensures.place ends less at)

pub returns-then-has_broken : goal.returns-then-has_broken
returns-then-has_broken g c =
    let are = ap (λ (v : PartsView g.row.T.Denot). v.members) c.self.view_is in
    subst (λ (ms : List (Option g.row.T.Denot)). HasBroken (take c.args.n (drop c.args.place ms))) are (c.has_broken.ensures.some c.if-has_broken.true)

pub values-requires-clause-n : goal.values-requires-clause-n
values-requires-clause-n g c =
    let p = c.self.inside in let long = length-map p.row (λ (u : MemberView g.row.T.Denot). u.value) in
    let are = ap (λ (v : PartsView g.row.T.Denot). length v.members) c.self.view_is in
    ap length c.part_of-row.ensures ∙ part_length p.row c.args.place c.args.n (omega (arith, long, are, c.requires.within))

pub values-requires-clause-filled : goal.values-requires-clause-filled
values-requires-clause-filled g c =
    let cell = c.cell_of-offset in let p = c.self.inside in let place = c.args.place in let block = c.known-block.result.now in
    let same = ap (λ (v : PartsView g.row.T.Denot). v.layout) c.self.view_is in
    let ends = subst (λ (f : ℕ). place + c.args.n ≤ segment_end f (segment_of f place)) (sym same) c.requires.segment in
    subst (λ (ms : List (MemberView g.row.T.Denot)). AreFilledFrom block cell.result.1 ms) (sym c.part_of-row.ensures)
    (filled_part block cell.result.1 p.row place c.args.n
    (λ i m less at. rw c.known-block.ensures.block (member_in _ _ _ p.row _ _ _ c.self.invariant.0 cell.result.0 cell.result.1 place i c.args.n cell.result.2 m
    cell.ensures.small cell.ensures.key cell.ensures.number cell.ensures.place ends less at))
    (c.has_broken.ensures.none c.if-has_broken.false))

pub returns : goal.returns
returns g c =
    let p = c.self.inside in let are = ap (λ (v : PartsView g.row.T.Denot). v.members) c.self.view_is in
    c.values.ensures ∙ ap (λ (ms : List (MemberView g.row.T.Denot)). values_in ms) c.part_of-row.ensures
    ∙ values_part p.row c.args.place c.args.n ∙ ap (λ (ms : List (Option g.row.T.Denot)). take c.args.n (drop c.args.place ms)) are
