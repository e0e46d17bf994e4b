use Rattle.std.proofs.Common.{◌≡◌, ℕ, ◌+◌, ◌<◌, ◌≤◌, length-set, sym, ap, ◌∙◌, subst, arith}
use Rattle.std.specs.Prelude.{None, Some, length, slice_set}
use Rattle.seg_core.specs.Segment.{segment_count, segment_start}
use Rattle.tie_core.specs.Tie.{Idle}
use Rattle.cell_core.specs.Block.{BlockView, block_len, cell_at}
use Rattle.cell_core.specs.Fixed.{stage_in}
use Rattle.table_core.specs.Table.{KeyView, IsKeyOf, IsBlockOf, IsLengthOf}
use Rattle.grow_core.specs.Keys.{KeyRow}
use Rattle.grow_core.specs.Parts.{PartsView, AreStaged, AreWhole}
use Rattle.grow_core.proofs.Places.{cleared_whole, grown_whole, key_here}
use Rattle.grow_core.proofs.Staged.{staged_grown, staged_less}
use Rattle.grow_core.proofs.parts.Parts.add_segment.Goals as goal

pub invariant_of-self-in_err-block : goal.invariant_of-self-in_err-block
invariant_of-self-in_err-block g c =
    let inside = c.self.inside in let clear = c.clear_entry.ensures in
    let small : inside.count < segment_count inside.table.layout = subst (λ (v : PartsView _). v.segments < segment_count v.layout) (sym c.self.view_is) c.requires in (
      rw clear.keys (subst (λ (l : ℕ). AreWhole l c.clear_entry.new.table.names (slice_set inside.keys inside.count None) inside.row inside.len inside.limit inside.count) (sym clear.layout)
          (cleared_whole inside.table.layout inside.table.names c.clear_entry.new.table.names inside.keys inside.row inside.len inside.limit inside.count c.self.invariant.0 small clear.others)),
      tt,
      c.self.invariant.2,
      c.self.invariant.3,
      subst (λ (u : ℕ × KeyRow). AreStaged u.0 u.1 inside.row inside.count) (λ i. (sym clear.layout i, sym clear.keys i))
          (staged_less inside.table.layout inside.keys inside.row inside.count inside.count c.self.invariant.4 (omega arith)),
    )

pub invariant_of-self-2 : goal.invariant_of-self-2
invariant_of-self-2 g c =
    let inside = c.self.inside in let f : ℕ = inside.table.layout in let clear = c.clear_entry.ensures in let whole = c.self.invariant.0 in
    let small : inside.count < segment_count f = subst (λ (v : PartsView _). v.segments < segment_count v.layout) (sym c.self.view_is) c.requires in
    let table' = c.put_block.new.table in let put = c.put_block.ensures.put in let key : KeyView = put.0 in
    let cleared : KeyRow = slice_set inside.keys inside.count None in
    let block : BlockView = c.in_ok-new_idle.field-0 in
    let of : IsKeyOf table' inside.count block key = subst (λ (b : BlockView). IsKeyOf table' inside.count b key) c.in_ok-block.ensures.ok put.1 in
    let same_layout : table'.layout ≡ f = c.put_block.ensures.layout ∙ clear.layout in
    let fits : inside.count < segment_count table'.layout = subst (λ (l : ℕ). inside.count < segment_count l) (sym same_layout) small in
    let row_is : c.put_block.new.keys ≡ slice_set cleared inside.count (Some key) = put.2 ∙ ap (λ (r : KeyRow). slice_set r inside.count (Some key)) clear.keys in
    let before : AreWhole table'.layout table'.names cleared inside.row inside.len inside.limit inside.count =
    subst (λ (l : ℕ). AreWhole l table'.names cleared inside.row inside.len inside.limit inside.count) (sym same_layout)
    (cleared_whole f inside.table.names table'.names inside.keys inside.row inside.len inside.limit inside.count whole small (λ j other. c.put_block.ensures.others j other ∙ clear.others j other)) in
    let layout_is : c.layout.result ≡ f = c.layout.ensures.value ∙ clear.layout in
    let long : IsBlockOf f inside.count block = subst (λ (u : ℕ × ℕ). IsLengthOf u.0 inside.count u.1) (λ i. (layout_is i, sym c.in_ok-new_idle.ensures.len i)) c.len-n.ensures in
    let idle : (o : ℕ) → o < block_len key.block → stage_in (cell_at key.block o) ≡ Some Idle =
    subst (λ (b : BlockView). (o : ℕ) → o < block_len b → stage_in (cell_at b o) ≡ Some Idle) (sym of.of) (λ o low. c.in_ok-new_idle.ensures.each o (let len = c.in_ok-new_idle.ensures.len in omega (arith, low, len))) in
    let past : length inside.row ≤ segment_start f inside.count = (let all = whole.all in let inner = whole.inside in omega (arith, all, inner)) in
    let rows : length cleared ≡ 40 = length-set inside.keys inside.count None ∙ whole.rows in (
      subst (λ (r : KeyRow). AreWhole table'.layout table'.names r inside.row inside.len inside.limit (inside.count + 1)) (sym row_is)
          (grown_whole table'.layout table'.names cleared inside.row inside.len inside.limit inside.count key before fits (key_here table' inside.count block key fits of)
          (subst (λ (u : ℕ × BlockView). IsBlockOf u.0 inside.count u.1) (λ i. (sym same_layout i, sym of.of i)) long)),
      tt,
      c.self.invariant.2,
      c.self.invariant.3,
      subst (λ (u : ℕ × KeyRow). AreStaged u.0 u.1 inside.row (inside.count + 1)) (λ i. (sym same_layout i, sym row_is i))
          (staged_grown f cleared inside.row inside.count key (staged_less f inside.keys inside.row inside.count inside.count c.self.invariant.4 (omega arith)) past (omega (arith, small, rows, whole.layout.0)) idle),
    )
