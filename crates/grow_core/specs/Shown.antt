-- The steps that log what a cell showed to a hand.
use Rattle.std.specs.Prelude.{ℕ, List, Result, Ok, Err}
use Rattle.cell_core.specs.declared.block.shown.Look.{Look}
use Rattle.cell_core.specs.declared.block.shown.Look.TheVariants as look
use Rattle.cell_core.specs.declared.block.shown.Found.{Found}
use Rattle.cell_core.specs.declared.block.shown.Found.TheVariants as found
use Rattle.claim_core.specs.History.{Log, Adds, mend_event, past_event}
use Rattle.claim_core.specs.Hand.{HandView}
use Rattle.grow_core.specs.declared.errors.MendError.{MendError}
use Rattle.grow_core.specs.declared.errors.MendError.TheVariants as mend
use Rattle.grow_core.specs.declared.read.Shown.{Shown}
use Rattle.grow_core.specs.declared.read.Shown.TheVariants as shown
use Rattle.grow_core.specs.Logs.{step_of, pending_look, value_look, broken_look}

-- a look: a place that nobody has finished is pending
abbrev pub look_steps : {T : Type 0} → ℕ → Look T → List Log
look_steps place look.Empty = step_of (pending_look place)
look_steps place look.Busy = step_of (pending_look place)
look_steps place (look.Filled value placed) = step_of (value_look place)
look_steps place (look.Broken spoilt) = step_of (broken_look place)

-- a try to mend: the mend, or what a look shows
abbrev pub try_steps : {P T : Type 0} → ℕ → ℕ → Result P (Found T) → List Log
try_steps limit place (Ok pen) = step_of (mend_event limit place)
try_steps limit place (Err found.Empty) = step_of (pending_look place)
try_steps limit place (Err (found.Busy begun)) = step_of (pending_look place)
try_steps limit place (Err (found.Filled placed)) = step_of (value_look place)
try_steps limit place (Err (found.Broken spoilt)) = step_of (broken_look place)

-- what a try found that did not take the place, as a look
abbrev pub found_steps : {T : Type 0} → ℕ → Found T → List Log
found_steps place found.Empty = step_of (pending_look place)
found_steps place (found.Busy begun) = step_of (pending_look place)
found_steps place (found.Filled placed) = step_of (value_look place)
found_steps place (found.Broken spoilt) = step_of (broken_look place)

-- why a place was not mended, as a look
abbrev pub unmended_steps : {T : Type 0} → ℕ → MendError T → List Log
unmended_steps place (mend.OutOfRange size) = step_of (past_event place size)
unmended_steps place mend.Pending = step_of (pending_look place)
unmended_steps place (mend.Filled placed) = step_of (value_look place)

-- what a place showed, as a look
abbrev pub shown_steps : {T : Type 0} → ℕ → Shown T → List Log
shown_steps place shown.Pending = step_of (pending_look place)
shown_steps place (shown.Filled at) = step_of (value_look place)
shown_steps place (shown.Broken spoilt) = step_of (broken_look place)

-- the hand has looked at a place, and this is what the look showed
abbrev pub LogsShown : {T : Type 0} → ℕ → HandView → HandView → Shown T → Type 0
LogsShown place old new shown = Adds old.log (shown_steps place shown) new.log
