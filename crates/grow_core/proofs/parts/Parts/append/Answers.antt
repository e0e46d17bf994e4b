use Rattle.std.proofs.Common.{◌≡◌, ◌≢◌, ℕ, ◌+◌, ◌<◌, List, [], ◌∷◌, ◌++◌, Option, length, length-append, sym, ap, ◌∙◌, subst, arith}
use Rattle.std.proofs.lemmas.List.{length-map}
use Rattle.std.specs.Prelude.{Some, slice_get, slice_index}
use Rattle.seg_core.specs.Segment.{segment_start, segment_end}
use Rattle.cell_core.specs.Block.{BlockView, IsMemberAt, KeepsOtherCells, block_len}
use Rattle.cell_core.specs.Member.{MemberView}
use Rattle.table_core.specs.Table.{KeyView, IsKeyOf}
use Rattle.grow_core.specs.Keys.{KeyRow, key_at}
use Rattle.grow_core.specs.Token.{place_in}
use Rattle.grow_core.specs.Parts.{PartsView, AreBrokenIn, AreStaged, AreWhole, RestagesCell, member_stage, values_in, capacity_of, one_if_broken}
use Rattle.grow_core.proofs.Broken.{few_in_all, one_at_most, row_more}
use Rattle.grow_core.proofs.Places.{written_whole, broken_more, pushed_there, pushed_elsewhere}
use Rattle.grow_core.proofs.Staged.{staged_written}
use Rattle.grow_core.proofs.parts.Parts.append.Goals as goal

pub invariant_of-self : goal.invariant_of-self
invariant_of-self g c =
    let f : ℕ = c.self.inside.table.layout in let names : List ℕ = c.self.inside.table.names in let row : KeyRow = c.self.inside.keys in let known = c.self.inside.row in let len : ℕ = c.self.inside.len in
    let taken = c.take_block-segment in let segment : ℕ = taken.result.0 in let offset : ℕ = taken.result.1 in let key : KeyView = taken.ensures.block.0 in let has : key_at row segment ≡ Some key = taken.ensures.block.1 in
    let small : segment < 40 = taken.ensures.small in let at_len : place_in f segment offset ≡ len = taken.ensures.place in
    let inside : place_in f segment offset < segment_end f segment = subst (λ (p : ℕ). p < segment_end f segment) (sym at_len) taken.ensures.within in
    let whole = c.self.invariant.0 in
    let block : BlockView = c.write-member.new.block in let m = c.write-member.result.0 in let put = c.put_block.ensures.put in let key' : KeyView = put.0 in
    let start : c.deref_mut.result.now ≡ key.block = c.deref_mut.ensures.value ∙ sym taken.ensures.block.2 in
    let of : IsKeyOf c.put_block.new.table segment block key' = put.1 in
    let others : (j : ℕ) → j ≢ segment → slice_index c.put_block.new.table.names j ≡ slice_index names j = (λ j other. c.put_block.ensures.others j other ∙ taken.ensures.others j other) in
    let pushed : c.push.new.self ≡ known ++ m ∷ [] = c.push.ensures in
    let counted : length (values_in known) ≡ len = length-map known (λ (u : MemberView _). u.value) ∙ whole.all in
    let below : len < c.self.inside.limit = subst (λ (n : ℕ). n < c.self.inside.limit) counted (subst (λ (v : PartsView _). length v.members < v.limit) (sym c.self.view_is) c.requires.below) in
    let long = whole.long segment key small has in let near : offset < block_len key.block = omega (arith, long, inside) in
    let same_layout : c.put_block.new.table.layout ≡ f = c.put_block.ensures.layout ∙ taken.ensures.layout in
    let there : slice_get c.push.new.self (place_in f segment offset) ≡ Some m = ap (λ (xs : List (MemberView _)). slice_get xs (place_in f segment offset)) pushed ∙ (ap (slice_get (known ++ m ∷ [])) (at_len ∙ sym whole.all) ∙ pushed_there known m) in
    let room : len < segment_start f c.self.inside.count = subst (λ (n : ℕ). n < segment_start f c.self.inside.count) counted (subst (λ (v : PartsView _). length v.members < capacity_of v) (sym c.self.view_is) c.requires.room) in (
      subst (λ (r : KeyRow). AreWhole c.put_block.new.table.layout c.put_block.new.table.names r c.push.new.self (len + 1) c.self.inside.limit c.self.inside.count) (sym put.2) (written_whole f names c.put_block.new.table row known c.push.new.self segment offset len (len + 1) c.self.inside.limit c.self.inside.count key key' block whole (c.put_block.ensures.layout ∙ taken.ensures.layout) small taken.ensures.segment inside has others of
          (c.write-member.ensures.len ∙ ap block_len start) (subst (λ (b : BlockView). KeepsOtherCells b block offset) start c.write-member.ensures.others)
          (λ q other. ap (λ (xs : List (MemberView _)). slice_get xs q) pushed ∙ pushed_elsewhere known m q (λ e. other (e ∙ whole.all ∙ sym at_len)))
          (λ n is. let last : slice_get (known ++ m ∷ []) (place_in f segment offset) ≡ Some m = ap (slice_get (known ++ m ∷ [])) (at_len ∙ sym whole.all) ∙ pushed_there known m in
          let both : Some m ≡ Some n = sym last ∙ ap (λ (xs : List (MemberView _)). slice_get xs (place_in f segment offset)) (sym pushed) ∙ is in
          subst (λ (u : MemberView _). IsMemberAt block offset u) (let z = both in cc) c.write-member.ensures.member)
          (ap length pushed ∙ length-append known (m ∷ []) ∙ ap (λ (n : ℕ). n + 1) whole.all) (omega (arith, below)) (omega (arith, room))),
      tt,
      subst (AreBrokenIn c.self.inside.epoch) (sym pushed) (broken_more c.self.inside.epoch known m c.self.invariant.2 c.write-member.ensures.broken),
      (let more = row_more known c.push.new.self m pushed in let one = ap (λ (v : Option g.row.T.Denot). one_if_broken v) c.write-member.ensures.value in
          omega (arith, c.self.invariant.3, c.count_broken.ensures, more, one)),
      subst (λ (u : ℕ × KeyRow). AreStaged u.0 u.1 c.push.new.self c.self.inside.count) (λ i. (sym same_layout i, sym put.2 i))
          (staged_written f row known c.push.new.self c.self.inside.count segment offset key key' block c.self.invariant.4 whole.long (omega (arith, whole.few, whole.layout.0)) taken.ensures.first (omega (arith, small, whole.rows)) near has of.of
          (c.write-member.ensures.len ∙ ap block_len start) (subst (λ (b : BlockView). KeepsOtherCells b block offset) start c.write-member.ensures.others)
          (subst (λ (b : BlockView). RestagesCell b block offset (member_stage (Some m))) start c.write-member.ensures.staged (member_stage (slice_get known (place_in f segment offset))) (c.self.invariant.4 segment offset key taken.ensures.first has near)
          ∙ ap (λ (u : Option (MemberView _)). Some (member_stage u)) (sym there))
          (λ q other. ap (λ (xs : List (MemberView _)). slice_get xs q) pushed ∙ pushed_elsewhere known m q (λ e. other (e ∙ whole.all ∙ sym at_len)))),
    )

pub overflow_add-self : goal.overflow_add-self
overflow_add-self g c =
    let p = c.self.inside in let whole = c.self.invariant.0 in
    let few = few_in_all p.row in let one = one_at_most c.args.value in
    record { fits = omega (arith, few, one, whole.all, whole.within, whole.limited.1, c.self.invariant.3, c.count_broken.ensures) }
