-- The rows of a trace: one for each item.
use Rattle.std.proofs.Common.{take, refl, ap, ◌∙◌}
use Rattle.std.specs.Option.{option_map}
use Rattle.step_core.specs.machine.Play.{play_of}
use Rattle.step_core.specs.machine.Trace.{traced_item, EveryItemIsTraced}
use Rattle.model_tests.specs.Traces.{EveryItemHasItsRow}

pub items_have_their_rows : EveryItemIsTraced → EveryItemHasItsRow
items_have_their_rows law f limit programs items i item is =
    let at = (play_of f limit programs (take i items)).at in
    record {
      row = traced_item at item;
      there = law f limit programs items i ∙ ap (option_map (traced_item at)) is;
      actor = refl;
      size = refl;
    }
