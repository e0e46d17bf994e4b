use Rattle.std.proofs.Common.{◌≡◌, ◌≢◌, ℕ, ◌+◌, ◌-◌, ◌<◌, List, [], ◌∷◌, ◌++◌, Option, length, length-append, map, sym, ap, ◌∙◌, subst, arith}
use Rattle.std.proofs.lemmas.List.{map-append}
use Rattle.std.specs.Prelude.{Some, None, slice_get, slice_index}
use Rattle.seg_core.specs.Segment.{segment_end}
use Rattle.tie_core.specs.Tie.{Idle}
use Rattle.cell_core.specs.Block.{BlockView, FixesTie, KeepsOtherCells, block_len}
use Rattle.cell_core.specs.Member.{MemberView}
use Rattle.table_core.specs.Table.{KeyView, IsKeyOf}
use Rattle.grow_core.specs.Keys.{KeyRow, key_at}
use Rattle.grow_core.specs.Token.{place_in}
use Rattle.grow_core.specs.Parts.{PartsView, AreBrokenIn, AreStaged, AreWhole, member_stage, one_if_broken}
use Rattle.grow_core.proofs.Broken.{popped_value, row_more}
use Rattle.grow_core.proofs.Places.{written_whole, broken_at, broken_fewer, pushed_there, pushed_elsewhere, none_past}
use Rattle.grow_core.proofs.Staged.{restaged, staged_written}
use Rattle.grow_core.proofs.parts.Parts.pop.Goals as goal

pub invariant_of-self : goal.invariant_of-self
invariant_of-self g c =
    let f : ℕ = c.self.inside.table.layout in let names : List ℕ = c.self.inside.table.names in let row : KeyRow = c.self.inside.keys in let known = c.self.inside.row in let len : ℕ = c.self.inside.len in
    let taken = c.take_block-segment in let segment : ℕ = taken.result.0 in let offset : ℕ = taken.result.1 in let key : KeyView = taken.ensures.block.0 in let has : key_at row segment ≡ Some key = taken.ensures.block.1 in
    let small : segment < 40 = taken.ensures.small in let at_last : place_in f segment offset ≡ len - 1 = taken.ensures.place in
    let inside : place_in f segment offset < segment_end f segment = subst (λ (p : ℕ). p < segment_end f segment) (sym at_last) taken.ensures.within in
    let whole = c.self.invariant.0 in
    let block : BlockView = c.take_member-value.new.self in let put = c.put_block.ensures.put in let key' : KeyView = put.0 in let known' = c.pop.new.self in
    let start : c.deref_mut.result.now ≡ key.block = c.deref_mut.ensures.value ∙ sym taken.ensures.block.2 in
    let of : IsKeyOf c.put_block.new.table segment block key' = put.1 in
    let others : (j : ℕ) → j ≢ segment → slice_index c.put_block.new.table.names j ≡ slice_index names j = (λ j other. c.put_block.ensures.others j other ∙ taken.ensures.others j other) in
    let last = c.pop.ensures.0 in let popped : known ≡ known' ++ last ∷ [] = c.pop.ensures.1 in
    let fewer : length known' + 1 ≡ len = sym (length-append known' (last ∷ [])) ∙ ap length (sym popped) ∙ whole.all in
    let here : length known' ≡ place_in f segment offset = omega (arith, fewer, at_last) in
    let long = whole.long segment key small has in let near : offset < block_len key.block = omega (arith, long, inside) in
    let same_layout : c.put_block.new.table.layout ≡ f = c.put_block.ensures.layout ∙ taken.ensures.layout in
    let gone : slice_get known' (place_in f segment offset) ≡ None = ap (slice_get known') (sym here) ∙ none_past known' in
    let within = whole.within in let inner = whole.inside in (
      subst (λ (r : KeyRow). AreWhole c.put_block.new.table.layout c.put_block.new.table.names r known' (len - 1) c.self.inside.limit c.self.inside.count) (sym put.2) (written_whole f names c.put_block.new.table row known known' segment offset len (len - 1) c.self.inside.limit c.self.inside.count key key' block whole (c.put_block.ensures.layout ∙ taken.ensures.layout) small taken.ensures.segment inside has others of
          (c.take_member-value.ensures.len ∙ ap block_len start) (subst (λ (b : BlockView). KeepsOtherCells b block offset) start c.take_member-value.ensures.others)
          (λ q other. sym (pushed_elsewhere known' last q (λ e. other (e ∙ here))) ∙ ap (λ (xs : List (MemberView _)). slice_get xs q) (sym popped))
          (λ n is. let none = sym (none_past known') ∙ ap (slice_get known') here ∙ is in absurd (let z = none in cc))
          (omega (arith, fewer)) (omega (arith, fewer, within)) (omega (arith, fewer, inner))),
      tt,
      broken_fewer c.self.inside.epoch known' last (subst (AreBrokenIn c.self.inside.epoch) popped c.self.invariant.2),
      (let more = row_more known' known last popped in let one = popped_value known known' last c.at.result (len - 1) popped (omega (arith, fewer)) c.at.ensures in
          let same = ap (λ (v : Option g.row.T.Denot). one_if_broken v) (one ∙ sym c.take_member-value.ensures.value) in omega (arith, c.self.invariant.3, c.count_broken.ensures, more, same)),
      subst (λ (u : ℕ × KeyRow). AreStaged u.0 u.1 known' c.self.inside.count) (λ i. (sym same_layout i, sym put.2 i))
          (staged_written f row known known' c.self.inside.count segment offset key key' block c.self.invariant.4 whole.long (omega (arith, whole.few, whole.layout.0)) taken.ensures.first (omega (arith, small, whole.rows)) near has of.of
          (c.take_member-value.ensures.len ∙ ap block_len start) (subst (λ (b : BlockView). KeepsOtherCells b block offset) start c.take_member-value.ensures.others)
          (restaged key.block block offset Idle (subst (λ (b : BlockView). FixesTie b block offset Idle) start c.take_member-value.ensures.fixed) (member_stage (slice_get known (place_in f segment offset))) (c.self.invariant.4 segment offset key taken.ensures.first has near)
          ∙ ap (λ (u : Option (MemberView _)). Some (member_stage u)) (sym gone))
          (λ q other. sym (pushed_elsewhere known' last q (λ e. other (e ∙ here))) ∙ ap (λ (xs : List (MemberView _)). slice_get xs q) (sym popped))),
    )

pub take_member-value-requires-clause-epoch : goal.take_member-value-requires-clause-epoch
take_member-value-requires-clause-epoch g c = broken_at c.self.inside.epoch c.self.inside.row (c.self.inside.len - 1) c.at.result c.self.invariant.2 c.at.ensures

pub returns-clause-member : goal.returns-clause-member
returns-clause-member g c =
    let known = c.self.inside.row in let known' = c.pop.new.self in let len : ℕ = c.self.inside.len in let value = λ (u : MemberView _). u.value in
    let last = c.pop.ensures.0 in let popped : known ≡ known' ++ last ∷ [] = c.pop.ensures.1 in
    let fewer : length known' + 1 ≡ len = sym (length-append known' (last ∷ [])) ∙ ap length (sym popped) ∙ c.self.invariant.0.all in
    let there : slice_get (known' ++ last ∷ []) (len - 1) ≡ Some last = ap (slice_get (known' ++ last ∷ [])) (let e : len - 1 ≡ length known' = omega (arith, fewer) in e) ∙ pushed_there known' last in
    let both : Some last ≡ Some c.at.result = sym there ∙ ap (λ (xs : List (MemberView _)). slice_get xs (len - 1)) (sym popped) ∙ c.at.ensures in
    let same : last ≡ c.at.result = (let z = both in cc) in
    ap (λ (v : PartsView _). v.members) (sym c.self.view_is) ∙ ap (map value) popped ∙ map-append value known' (last ∷ []) ∙ ap (λ x. map value known' ++ x ∷ []) (ap value same ∙ sym c.take_member-value.ensures.value)

pub overflow_sub-self-2 : goal.overflow_sub-self-2
overflow_sub-self-2 g c =
    let known = c.self.inside.row in let known' = c.pop.new.self in let len : ℕ = c.self.inside.len in
    let last = c.pop.ensures.0 in let popped : known ≡ known' ++ last ∷ [] = c.pop.ensures.1 in
    let fewer : length known' + 1 ≡ len = sym (length-append known' (last ∷ [])) ∙ ap length (sym popped) ∙ c.self.invariant.0.all in
    let more = row_more known' known last popped in let one = popped_value known known' last c.at.result (len - 1) popped (omega (arith, fewer)) c.at.ensures in
    let same = ap (λ (v : Option g.row.T.Denot). one_if_broken v) (one ∙ sym c.take_member-value.ensures.value) in
    omega (arith, c.self.invariant.3, c.count_broken.ensures, more, same)
