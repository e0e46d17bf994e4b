use Rattle.std.proofs.Common.{◌≡◌, ℕ, ◌+◌, ◌-◌, ◌<◌, ◌≤◌, length, sym, ◌∙◌, subst, arith}
use Rattle.std.specs.Prelude.{None, slice_set}
use Rattle.std.proofs.lemmas.List.{length-map}
use Rattle.seg_core.specs.Segment.{segment_start}
use Rattle.cell_core.specs.Member.{MemberView}
use Rattle.grow_core.specs.Keys.{KeyRow}
use Rattle.grow_core.specs.Parts.{PartsView, AreStaged, AreWhole, IsSpare, values_in}
use Rattle.grow_core.proofs.Places.{cut_whole}
use Rattle.grow_core.proofs.Staged.{staged_less}
use Rattle.grow_core.proofs.parts.Parts.drop_segment.Goals as goal

pub invariant_of-self : goal.invariant_of-self
invariant_of-self g c =
    let inside = c.self.inside in let whole = c.self.invariant.0 in
    let spare : (0 < inside.count) × (length (values_in inside.row) ≤ segment_start inside.table.layout (inside.count - 1)) = subst (λ (v : PartsView _). IsSpare v) (sym c.self.view_is) c.requires in
    let some = spare.0 in let counted : length (values_in inside.row) ≡ inside.len = length-map inside.row (λ (u : MemberView _). u.value) ∙ whole.all in
    let one : inside.count ≡ (inside.count - 1) + 1 = omega (arith, some) in (
      rw c.set.ensures.set (subst (λ (l : ℕ). AreWhole l c.give_up.new.self.names (slice_set inside.keys (inside.count - 1) None) inside.row inside.len inside.limit (inside.count - 1)) (sym c.give_up.ensures.layout)
          (cut_whole inside.table.layout inside.table.names c.give_up.new.self.names inside.keys inside.row inside.len inside.limit (inside.count - 1)
          (subst (λ (n : ℕ). AreWhole inside.table.layout inside.table.names inside.keys inside.row inside.len inside.limit n) one whole) (subst (λ (n : ℕ). n ≤ segment_start inside.table.layout (inside.count - 1)) counted spare.1)
          c.give_up.ensures.others)),
      tt,
      c.self.invariant.2,
      c.self.invariant.3,
      subst (λ (u : ℕ × KeyRow). AreStaged u.0 u.1 inside.row (inside.count - 1)) (λ i. (sym c.give_up.ensures.layout i, sym c.set.ensures.set i))
          (staged_less inside.table.layout inside.keys inside.row inside.count (inside.count - 1) c.self.invariant.4 (omega arith)),
    )
