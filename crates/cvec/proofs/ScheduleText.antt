-- The text of a schedule, by its parts.
use Rattle.std.proofs.Common.{◌≡◌, ℕ, ◌++◌, refl}
use Rattle.std.specs.Fmt.{digits}
use Rattle.std.specs.Prelude.{codes}
use Rattle.std.specs.List.{flat_map}
use Rattle.script_core.specs.Spelling.{item_text}
use Rattle.sweep_core.specs.Sweep.{items_of, seed_of}
use Rattle.cvec.specs.Schedule.{letters, schedule_text}

-- the lines before the items, the items, and the last LF
pub by_parts : (seed number len : ℕ)
    → (codes "limit 16\nactor a push 1, grow 3 2, atleast 9 3\nactor b fail 4 5 2, read 0, push 6\nactor c atleast 5 7, size, grow 2 8\nsteps"
    ++ flat_map (item_text letters) (items_of (seed_of seed number) len)) ++ codes "\n"
    ≡ schedule_text seed number len
unfolding digits
by_parts seed number len = refl
