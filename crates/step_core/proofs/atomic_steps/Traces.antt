-- Each row of a trace is of the step that its item takes in the play of those before it.
use Rattle.std.proofs.Common.{◌≡◌, ℕ, zero, suc, List, [], ◌∷◌, take, slice_get, refl}
use Rattle.std.specs.Option.{option_map}
use Rattle.book_core.specs.declared.commands.Item.{Item}
use Rattle.step_core.specs.machine.Step.{step_of}
use Rattle.step_core.specs.machine.Play.{Play, empty_play, with_step, after_items}
use Rattle.step_core.specs.machine.Trace.{traced_item, trace_from, EveryItemIsTraced}

-- from any play on
row_at : (p : Play) (items : List Item) (i : ℕ)
    → slice_get (trace_from p.at items) i ≡ option_map (traced_item (after_items p (take i items)).at) (slice_get items i)
row_at p [] i = refl
row_at p (item ∷ items) zero = refl
row_at p (item ∷ items) (suc i) = row_at (with_step p (step_of p.at item.actor item.memory)) items i

pub every_item_is_traced : EveryItemIsTraced
every_item_is_traced f limit programs items i = row_at (empty_play f limit programs) items i
