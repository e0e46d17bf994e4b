use Rattle.std.proofs.Common.{◌≡◌, ℕ, ◌+◌, ◌<◌, false, true, Some, sym, ap, ◌∙◌, subst, arith}
use Rattle.std.specs.Prelude.{slice_get, IsSome}
use mathlib.Core.Logic.{dite}
use native.Mathlib.Decide.{dec_lt}
use Rattle.seg_core.specs.Segment.{segment_end}
use Rattle.cell_core.specs.Block.{cell_at}
use Rattle.table_core.specs.Table.{IsBlockOf}
use Rattle.grow_core.specs.Token.{place_in}
use Rattle.grow_core.specs.Parts.{values_in}
use Rattle.grow_core.specs.Vector.{VectorView, IsOpenedAt}
use Rattle.grow_core.proofs.Places.{value_at}
use Rattle.grow_core.proofs.Settled.{opened_is}
use Rattle.grow_core.proofs.vector.Shared.opened_cells_agree.Goals as goal
use Rattle.grow_core.proofs.vector.Shared.opened_cells_agree.Goals.{in-Some, in_default}

pub loop-i-preserved : goal.loop-i-preserved
loop-i-preserved g c j x less there = elim c.match-find_cell.branch [
  | in-Some w ↦ (
      let i : ℕ = c.loop-i.i in let place : ℕ = c.args.place + i in dite (dec_lt j i)
      (λ low. c.loop-i.invariant j x low there)
      (λ high. let same : j ≡ i = omega (arith, less) in
      let here = w.in-Some in let whole = c.self.invariant.whole in let f : ℕ = c.self.inside.table.layout in let segment : ℕ = here._segment in let offset : ℕ = here._offset in let key = here.known in
      let m = w.at.result in let token = w.token_at.result in let placed = w.token_at.ensures.placed in
      let here_at : IsOpenedAt c.args.self.now place x = subst (λ (k : ℕ). IsOpenedAt c.args.self.now (c.args.place + k) x) same there in
      let layout : f ≡ c.args.self.now.segments.layout = ap (λ (v : VectorView g.row.T.Denot). v.segments.layout) c.self.view_is in let at : ℕ = c.args.key.now.segment in
      let long = subst (λ (l : ℕ). IsBlockOf l at c.args.block.now) (sym layout) c.requires.long in
      let first = subst (λ (l : ℕ). place_in l at c.args.offset ≡ c.args.place) (sym layout) c.requires.here in
      let near = placed.of.within in let is_at = placed.at in let there_in : place_in f at (c.args.offset + i) ≡ place = omega (arith, first) in
      let one = c.places.ensures.one_place f segment at offset (c.args.offset + i) (let p = here.ensures.place in let w = here.ensures.within in omega (arith, p, w)) (omega (arith, long, near, is_at)) (here.ensures.place ∙ sym there_in) in
      let key_is = whole.named segment key here.ensures.small here.ensures.key in
      let block : key.block ≡ c.args.key.now.block = w.agree.ensures (key_is.at ∙ one.0) in
      let known : slice_get c.self.inside.row (place_in f segment offset) ≡ Some m = ap (slice_get c.self.inside.row) here.ensures.place ∙ w.at.ensures in
      let inside : place_in f segment offset < segment_end f segment = subst (λ (p : ℕ). p < segment_end f segment) (sym here.ensures.place) here.ensures.within in
      let member = whole.of segment offset key m here.ensures.small here.ensures.key inside known in
      let opened : Some m.value ≡ Some (Some x) = sym (value_at c.self.inside.row place m w.at.ensures) ∙ ap (λ (v : VectorView g.row.T.Denot). slice_get v.opened place) c.self.view_is ∙ here_at in
      let is : m.value ≡ Some x = (let z = opened in cc) in
      let same_block : c.args.block.now ≡ key.block = c.requires.block ∙ sym block in let same_offset : token.offset ≡ offset = placed.at ∙ sym one.1 in
      let named : token.name ≡ (cell_at key.block offset).value_name = placed.of.named ∙ (λ k. (cell_at (same_block k) (same_offset k)).value_name) in
      let value : token.value ≡ x = opened_is key.block offset m token.name token.value x member is named w.agree-in-Some.ensures in
      ap (slice_get (values_in c.args.found.now)) same ∙ w.token_at.ensures.value ∙ ap (λ (v : g.row.T.Denot). Some (Some v)) value))
  | in_default w ↦ absurd (let lost : false ≡ true = subst IsSome w.in_default.is c.find_cell.ensures.some in let z = lost in cc)
]
