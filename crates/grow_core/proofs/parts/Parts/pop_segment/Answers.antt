use Rattle.std.proofs.Common.{◌≡◌, ℕ, ◌+◌, ◌-◌, ◌<◌, List, length, map, reverse, sym, ap, ◌∙◌, subst, arith, Some}
use Rattle.std.proofs.lemmas.List.{length-map}
use Rattle.std.specs.Prelude.{None, slice_get, slice_set}
use Rattle.seg_core.specs.Segment.{segment_end, segment_start, HasPlace}
use Rattle.cell_core.specs.Block.{BlockView}
use Rattle.cell_core.specs.Member.{MemberView}
use Rattle.table_core.specs.Table.{KeyView}
use Rattle.grow_core.specs.Keys.{KeyRow}
use Rattle.grow_core.specs.Token.{place_in}
use Rattle.grow_core.specs.Parts.{PartsView, AreBrokenIn, AreStaged, AreWhole, values_in}
use Rattle.grow_core.specs.PopSegment.{IsUnbroken, PopsValues}
use Rattle.grow_core.proofs.Broken.{row_append, unbroken_count}
use Rattle.grow_core.proofs.Places.{cut_whole, value_at}
use Rattle.grow_core.proofs.PopSegment.{broken_first, fewer_whole, last_segment, popped_length, unbroken_first}
use Rattle.grow_core.proofs.Staged.{staged_fewer}
use Rattle.grow_core.proofs.parts.Parts.pop_segment.Goals as goal

pub pop_values-requires-clause-members : goal.pop_values-requires-clause-members
pop_values-requires-clause-members g c i m near is =
    let inside = c.self.inside in let whole = c.self.invariant.0 in let f : ℕ = inside.table.layout in
    let taken = c.take_block-segment in let segment : ℕ = taken.result.0 in let last : ℕ = taken.result.1 in let key : KeyView = taken.ensures.block.0 in let has = taken.ensures.block.1 in
    let at_last : place_in f segment last ≡ inside.len - 1 = taken.ensures.place in
    let start : c.deref_mut.result.now ≡ key.block = c.deref_mut.ensures.value ∙ sym taken.ensures.block.2 in
    let some = subst (λ (v : PartsView _). 0 < length v.members) (sym c.self.view_is) c.requires.some in
    let counted : length (values_in inside.row) ≡ inside.len = length-map inside.row (λ (u : MemberView _). u.value) ∙ whole.all in
    let here : place_in f segment i ≡ inside.len - (last + 1) + i = omega (arith, at_last, near, some, counted) in
    let inner : place_in f segment i < segment_end f segment = (let w = taken.ensures.within in omega (arith, at_last, near, w, some, counted)) in
    let there : slice_get inside.row (place_in f segment i) ≡ Some m = ap (slice_get inside.row) here ∙ is in
    let unbroken = subst (λ (v : PartsView _). IsUnbroken v.members) (sym c.self.view_is) c.requires.unbroken in
    (rw start (whole.of segment i key m taken.ensures.small has inner there), λ none. unbroken (place_in f segment i) (value_at inside.row (place_in f segment i) m there ∙ ap Some none))

pub invariant_of-self : goal.invariant_of-self
invariant_of-self g c =
    let inside = c.self.inside in let f : ℕ = inside.table.layout in let names : List ℕ = inside.table.names in let row : KeyRow = inside.keys in let known = inside.row in let len : ℕ = inside.len in
    let whole = c.self.invariant.0 in
    let taken = c.take_block-segment in let segment : ℕ = taken.result.0 in let last : ℕ = taken.result.1 in let key : KeyView = taken.ensures.block.0 in
    let at_last : place_in f segment last ≡ len - 1 = taken.ensures.place in let n : ℕ = last + 1 in
    let some = subst (λ (v : PartsView _). 0 < length v.members) (sym c.self.view_is) c.requires.some in
    let each = subst (λ (v : PartsView _). (k : ℕ) → k < v.segments → segment_start v.layout k < length v.members) (sym c.self.view_is) c.requires.last in
    let counted : length (values_in known) ≡ len = length-map known (λ (u : MemberView _). u.value) ∙ whole.all in
    let block : BlockView = c.pop_values.new.block in let known' = c.pop_values.new.row in
    let start : c.deref_mut.result.now ≡ key.block = c.deref_mut.ensures.value ∙ sym taken.ensures.block.2 in
    let had = c.args.values.now.items in let got = c.pop_values.new.values.items in
    let popped : PopsValues key.block block n known known' had got n = subst (λ (b : BlockView). PopsValues b block n known known' had got n) start c.pop_values.ensures.popped in
    let fewer : length known' + n ≡ length known = popped_length key.block block n n known known' had got popped in
    let there : HasPlace f segment (len - 1) = record { from = omega (arith, at_last); before = taken.ensures.within } in
    let all = whole.all in
    let one : segment + 1 ≡ inside.count = last_segment f segment inside.count len there (omega (arith, some, counted)) whole.inside
    (λ k low. subst (λ (l : ℕ). segment_start f k < l) counted (each k low)) in
    let small : AreWhole f names row known' (len - n) inside.limit inside.count = fewer_whole f names row known known' popped.popped len (len - n) inside.limit inside.count whole popped.row
    (omega (arith, fewer, all)) (omega arith) in (
      rw c.set.ensures.set (subst (λ (l : ℕ). AreWhole l c.take_block-segment.new.table.names (slice_set row segment None) known' (len - n) inside.limit segment) (sym taken.ensures.layout)
          (cut_whole f names c.take_block-segment.new.table.names row known' (len - n) inside.limit segment
          (subst (λ (k : ℕ). AreWhole f names row known' (len - n) inside.limit k) (sym one) small) (omega (arith, at_last, some, counted)) taken.ensures.others)),
      tt,
      broken_first inside.epoch known' popped.popped (subst (AreBrokenIn inside.epoch) popped.row c.self.invariant.2),
      (let none = unbroken_count (values_in known) (subst (λ (v : PartsView _). IsUnbroken v.members) (sym c.self.view_is) c.requires.unbroken) in
          let more = row_append known' popped.popped known popped.row in omega (arith, c.self.invariant.3, none, more)),
      subst (λ (u : ℕ × KeyRow). AreStaged u.0 u.1 known' segment) (λ i. (sym taken.ensures.layout i, sym c.set.ensures.set i))
          (staged_fewer f row known known' popped.popped inside.count segment c.self.invariant.4 whole.long (omega (arith, whole.few, whole.layout.0)) (omega (arith, one)) popped.row (omega (arith, fewer, all, at_last, some, counted))),
    )

pub returns-clause-unbroken : goal.returns-clause-unbroken
returns-clause-unbroken g c =
    let unbroken = subst (λ (v : PartsView _). IsUnbroken v.members) (sym c.self.view_is) c.requires.unbroken in let moved = c.pop_values.ensures.popped.moved in
    unbroken_first (values_in c.pop_values.new.row) (map Some (reverse moved.0)) (subst IsUnbroken moved.2 unbroken)
