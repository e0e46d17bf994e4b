use Rattle.std.proofs.Common.{◌≡◌, ◌≢◌, ℕ, ◌<◌, List, Option, length, length-set, sym, ap, ◌∙◌, subst, arith}
use Rattle.std.proofs.lemmas.List.{length-map}
use Rattle.std.specs.Prelude.{Some, slice_get, slice_set, slice_index}
use Rattle.seg_core.specs.Segment.{segment_end}
use Rattle.tie_core.specs.Tie.{Idle}
use Rattle.cell_core.specs.Block.{BlockView, FixesTie, IsMemberAt, KeepsOtherCells, block_len}
use Rattle.cell_core.specs.Member.{MemberView}
use Rattle.table_core.specs.Table.{KeyView, IsKeyOf}
use Rattle.grow_core.specs.Keys.{KeyRow, key_at}
use Rattle.grow_core.specs.Token.{place_in}
use Rattle.grow_core.specs.Parts.{PartsView, AreBrokenIn, AreStaged, AreWhole, RestagesCell, member_stage, values_in, one_if_broken}
use Rattle.grow_core.proofs.Broken.{counted_there, few_in_all, one_at_most, row_set}
use Rattle.grow_core.proofs.Places.{written_whole, broken_at, broken_set, set_there, set_elsewhere, value_at, values_set}
use Rattle.grow_core.proofs.Staged.{restaged, staged_written}
use Rattle.grow_core.proofs.parts.Parts.replace.Goals as goal

pub invariant_of-self : goal.invariant_of-self
invariant_of-self g c =
    let f : ℕ = c.self.inside.table.layout in let names : List ℕ = c.self.inside.table.names in let row : KeyRow = c.self.inside.keys in let known = c.self.inside.row in let len : ℕ = c.self.inside.len in
    let taken = c.take_block-segment in let segment : ℕ = taken.result.0 in let offset : ℕ = taken.result.1 in let key : KeyView = taken.ensures.block.0 in let has : key_at row segment ≡ Some key = taken.ensures.block.1 in let place : ℕ = c.args.place in
    let small : segment < 40 = taken.ensures.small in let at_place : place_in f segment offset ≡ place = taken.ensures.place in
    let inside : place_in f segment offset < segment_end f segment = subst (λ (p : ℕ). p < segment_end f segment) (sym at_place) taken.ensures.within in
    let whole = c.self.invariant.0 in
    let block : BlockView = c.write-member.new.block in let m = c.write-member.result.0 in let put = c.put_block.ensures.put in let key' : KeyView = put.0 in
    let start : c.deref_mut.result.now ≡ key.block = c.deref_mut.ensures.value ∙ sym taken.ensures.block.2 in
    let between : c.deref_mut-2.result.now ≡ c.take_member-held.new.self = c.deref_mut-2.ensures.value in
    let of : IsKeyOf c.put_block.new.table segment block key' = put.1 in
    let others : (j : ℕ) → j ≢ segment → slice_index c.put_block.new.table.names j ≡ slice_index names j = (λ j other. c.put_block.ensures.others j other ∙ taken.ensures.others j other) in
    let changed : c.set.new.self ≡ slice_set known place m = c.set.ensures in
    let counted : length (values_in known) ≡ len = length-map known (λ (u : MemberView _). u.value) ∙ whole.all in
    let below : place < len = subst (λ (n : ℕ). place < n) counted (subst (λ (v : PartsView _). place < length v.members) (sym c.self.view_is) c.requires) in
    let near : place < length known = subst (λ (n : ℕ). place < n) (sym whole.all) below in
    let long = whole.long segment key small has in let inner : offset < block_len key.block = omega (arith, long, inside) in
    let same_layout : c.put_block.new.table.layout ≡ f = c.put_block.ensures.layout ∙ taken.ensures.layout in
    let there : slice_get c.set.new.self (place_in f segment offset) ≡ Some m = ap (λ (xs : List (MemberView _)). slice_get xs (place_in f segment offset)) changed ∙ (ap (slice_get (slice_set known place m)) at_place ∙ set_there known m place near) in
    let lens : block_len block ≡ block_len key.block = c.write-member.ensures.len ∙ ap block_len between ∙ c.take_member-held.ensures.len ∙ ap block_len start in
    let cells : KeepsOtherCells key.block block offset = (λ q other. c.write-member.ensures.others q other ∙ ap (λ (b : BlockView). Rattle.cell_core.specs.Block.cell_at b q) between ∙ c.take_member-held.ensures.others q other ∙ ap (λ (b : BlockView). Rattle.cell_core.specs.Block.cell_at b q) start) in (
      subst (λ (r : KeyRow). AreWhole c.put_block.new.table.layout c.put_block.new.table.names r c.set.new.self len c.self.inside.limit c.self.inside.count) (sym put.2) (written_whole f names c.put_block.new.table row known c.set.new.self segment offset len len c.self.inside.limit c.self.inside.count key key' block whole (c.put_block.ensures.layout ∙ taken.ensures.layout) small taken.ensures.segment inside has others of lens cells
          (λ q other. ap (λ (xs : List (MemberView _)). slice_get xs q) changed ∙ set_elsewhere known m place q (λ e. other (e ∙ sym at_place)))
          (λ n is. let here : slice_get (slice_set known place m) (place_in f segment offset) ≡ Some m = ap (slice_get (slice_set known place m)) at_place ∙ set_there known m place near in
          let both : Some m ≡ Some n = sym here ∙ ap (λ (xs : List (MemberView _)). slice_get xs (place_in f segment offset)) (sym changed) ∙ is in
          subst (λ (u : MemberView _). IsMemberAt block offset u) (let z = both in cc) c.write-member.ensures.member)
          (ap length changed ∙ length-set known place m ∙ whole.all) whole.within whole.inside),
      tt,
      subst (AreBrokenIn c.self.inside.epoch) (sym changed) (broken_set c.self.inside.epoch known place m c.self.invariant.2 c.write-member.ensures.broken),
      (let set = row_set known c.set.new.self place c.at.result m changed c.at.ensures in let old = ap (λ (v : Option g.row.T.Denot). one_if_broken v) c.take_member-held.ensures.value in
          let new = ap (λ (v : Option g.row.T.Denot). one_if_broken v) c.write-member.ensures.value in omega (arith, c.self.invariant.3, c.count_broken.ensures, c.count_broken-2.ensures, set, old, new)),
      subst (λ (u : ℕ × KeyRow). AreStaged u.0 u.1 c.set.new.self c.self.inside.count) (λ i. (sym same_layout i, sym put.2 i))
          (staged_written f row known c.set.new.self c.self.inside.count segment offset key key' block c.self.invariant.4 whole.long (omega (arith, whole.few, whole.layout.0)) taken.ensures.first (omega (arith, small, whole.rows)) inner has of.of lens cells
          (subst (λ (b : BlockView). RestagesCell b block offset (member_stage (Some m))) between c.write-member.ensures.staged Idle
          (restaged key.block c.take_member-held.new.self offset Idle (subst (λ (b : BlockView). FixesTie b c.take_member-held.new.self offset Idle) start c.take_member-held.ensures.fixed) (member_stage (slice_get known (place_in f segment offset))) (c.self.invariant.4 segment offset key taken.ensures.first has inner))
          ∙ ap (λ (u : Option (MemberView _)). Some (member_stage u)) (sym there))
          (λ q other. ap (λ (xs : List (MemberView _)). slice_get xs q) changed ∙ set_elsewhere known m place q (λ e. other (e ∙ sym at_place)))),
    )

pub take_member-held-requires-clause-epoch : goal.take_member-held-requires-clause-epoch
take_member-held-requires-clause-epoch g c = broken_at c.self.inside.epoch c.self.inside.row c.args.place c.at.result c.self.invariant.2 c.at.ensures

pub returns-clause-members : goal.returns-clause-members
returns-clause-members g c =
    ap (λ (xs : List (MemberView _)). values_in xs) c.set.ensures ∙ values_set c.self.inside.row c.args.place c.write-member.result.0
    ∙ (λ i. slice_set ((c.self.view_is i).members) c.args.place (c.write-member.ensures.value i))

pub returns-clause-member : goal.returns-clause-member
returns-clause-member g c =
    ap (λ (v : PartsView _). slice_get v.members c.args.place) (sym c.self.view_is) ∙ value_at c.self.inside.row c.args.place c.at.result c.at.ensures ∙ ap Some (sym c.take_member-held.ensures.value)

pub overflow_add-self : goal.overflow_add-self
overflow_add-self g c =
    let p = c.self.inside in let whole = c.self.invariant.0 in
    let few = few_in_all p.row in let one = one_at_most c.args.value in
    record { fits = omega (arith, few, one, whole.all, whole.within, whole.limited.1, c.self.invariant.3, c.count_broken.ensures) }

pub overflow_sub-self : goal.overflow_sub-self
overflow_sub-self g c =
    let p = c.self.inside in let some = counted_there p.row c.args.place c.at.result c.at.ensures in
    let old = ap (λ (v : Option g.row.T.Denot). one_if_broken v) c.take_member-held.ensures.value in
    omega (arith, some, old, c.self.invariant.3, c.count_broken-2.ensures)
