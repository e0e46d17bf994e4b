-- The script of a schedule of a sweep.
use Rattle.std.specs.Prelude.{ℕ, List, true, false, codes}
use Rattle.script_core.specs.declared.script.Script.{Script}
use Rattle.script_core.specs.Spelling.{text_of}
use Rattle.sweep_core.specs.Sweep.{sampled_limit, sampled_programs, items_of, seed_of}

-- the letters of its actors
abbrev pub letters : List ℕ
letters = codes "abc"

-- the schedule of this number that a sweep of the seed plays, as a script
abbrev pub schedule_script : ℕ → ℕ → ℕ → Script
schedule_script seed number len = record {
  limit = sampled_limit;
  first = 1;
  names = letters;
  programs = sampled_programs;
  items = items_of (seed_of seed number) len;
}

-- its text: without a layout line, and with the last LF
abbrev pub schedule_text : ℕ → ℕ → ℕ → List ℕ
schedule_text seed number len = text_of (schedule_script seed number len) false true
