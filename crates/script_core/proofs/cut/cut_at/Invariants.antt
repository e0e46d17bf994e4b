use Rattle.std.proofs.Common.{◌≡◌, ℕ, ◌<◌, false, eqb, drop}
use Rattle.std.specs.List.{starts_with}
use Rattle.script_core.proofs.cut.cut_at.Given as goal

abbrev pub invariant-loop-i : goal.invariant-loop-i
invariant-loop-i l = (k : ℕ) → k < l.i → starts_with eqb (drop k l.text) l.separator ≡ false
