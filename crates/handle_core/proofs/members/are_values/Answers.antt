use Rattle.std.proofs.Common.{◌≡◌, ◌+◌, ℕ, List, Some}
use Rattle.std.specs.Prelude.{slice_get}
use borrow.Author.Count.{below_more}
use Rattle.handle_core.proofs.members.are_values.Goals as goal

pub loop-i-preserved : goal.loop-i-preserved
loop-i-preserved g c =
    below_more (λ i. (x : List ℕ) × (slice_get c.args.list.now.members (c.args.place + i) ≡ Some (Some x)))
    c.loop-i.i c.loop-i.invariant (c.in-Ok.field-0.now, c.in-Ok.ensures.value)
