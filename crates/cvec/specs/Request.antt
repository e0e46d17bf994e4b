-- What becomes of a command line that names no engine.
use Rattle.std.specs.Prelude.{⊤, ℕ, ◌≤◌, Bool, true, false}
use Rattle.engine_core.specs.declared.engine.Engine.{Engine}
use Rattle.engine_core.specs.declared.engine.Engine.TheVariants.{Steps, Counted, Traced, TracedCounted}
use Rattle.cvec.specs.declared.command_line.Request.{Request}
use Rattle.cvec.specs.declared.command_line.Request.TheVariants.{Play, PlayExplained, Race, Sweep, Schedule, Show, Refuse, NoMemory}

-- a text is shown, or there is no memory for it
abbrev pub IsShown : Request → Type 0
IsShown (Play engine) = ⊥
IsShown (PlayExplained engine) = ⊥
IsShown (Race workers each) = ⊥
IsShown (Sweep seed count len) = ⊥
IsShown (Schedule seed number len) = ⊥
IsShown (Show text) = ⊤
IsShown (Refuse text) = ⊥
IsShown NoMemory = ⊤

-- it is refused with a text, or there is no memory for it
abbrev pub IsRefused : Request → Type 0
IsRefused (Play engine) = ⊥
IsRefused (PlayExplained engine) = ⊥
IsRefused (Race workers each) = ⊥
IsRefused (Sweep seed count len) = ⊥
IsRefused (Schedule seed number len) = ⊥
IsRefused (Show text) = ⊥
IsRefused (Refuse text) = ⊤
IsRefused NoMemory = ⊤

-- a race or a sweep is asked for
abbrev pub StartsThreads : Request → Type 0
StartsThreads (Play engine) = ⊥
StartsThreads (PlayExplained engine) = ⊥
StartsThreads (Race workers each) = ⊤
StartsThreads (Sweep seed count len) = ⊤
StartsThreads (Schedule seed number len) = ⊥
StartsThreads (Show text) = ⊥
StartsThreads (Refuse text) = ⊥
StartsThreads NoMemory = ⊥

-- a sweep may have these numbers of schedules and of items
abbrev pub IsSweep : ℕ → ℕ → Type 0
IsSweep count len = ((1 ≤ count) × (count ≤ 10000)) × ((1 ≤ len) × (len ≤ 1000))

-- if a sweep is asked for, its numbers are allowed
abbrev pub IsInRange : Request → Type 0
IsInRange (Play engine) = ⊤
IsInRange (PlayExplained engine) = ⊤
IsInRange (Race workers each) = ⊤
IsInRange (Sweep seed count len) = IsSweep count len
IsInRange (Schedule seed number len) = ⊤
IsInRange (Show text) = ⊤
IsInRange (Refuse text) = ⊤
IsInRange NoMemory = ⊤

-- the engine of atomic steps that traces or does not, and counts or does not
abbrev pub steps_engine : Bool → Bool → Engine
steps_engine false false = Steps
steps_engine false true = Counted
steps_engine true false = Traced
steps_engine true true = TracedCounted
