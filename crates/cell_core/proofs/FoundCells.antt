-- What a call that did not get a cell found there.
use Rattle.std.proofs.Common.{◌≡◌, ℕ, ◌<◌, ◌≤◌, arith}
use Rattle.std.specs.Prelude.{Option, Some, None}
use Rattle.tie_core.specs.Tie.{Stage, Idle, Begun, Mending, Filled, Broken, Made, Shows, HasMade, mends}
use Rattle.cell_core.specs.declared.block.shown.Found.{Found}
use Rattle.cell_core.specs.declared.block.shown.Found.TheVariants as found
use Rattle.cell_core.specs.Slot.{filled_state}
use Rattle.cell_core.specs.Shown.{IsFoundOf, IsNotBroken}

-- no stage has this state
no_stage_at_two : (s : Stage) (n : ℕ) → Shows s n → n ≡ 2 → ⊥
no_stage_at_two Idle n shows two = let z : n ≡ 0 = shows in omega (arith, z, two)
no_stage_at_two Begun n shows two = let z : n ≡ 0 = shows in omega (arith, z, two)
no_stage_at_two Mending n shows two = let z : n ≡ 1 = shows in omega (arith, z, two)
no_stage_at_two Filled n shows two = let z : n ≡ 3 = shows in omega (arith, z, two)
no_stage_at_two Broken n shows two = let z : 3 < n = shows in omega (arith, z, two)

made_at_two : (n : ℕ) (made : Option Made) → HasMade mends n made → n ≡ 2 → ⊥
made_at_two n None has two = absurd has
made_at_two n (Some m) has two = no_stage_at_two m.0 n has.0.0 two

-- a mender that lost did not find the cell broken
pub not_broken : {T : Type 0} (n : ℕ) (made : Option Made) (it : Found T) → HasMade mends n made → n ≤ filled_state → IsFoundOf n it → IsNotBroken it
not_broken n made found.Empty has low of = tt
not_broken n made (found.Busy begun) has low of = tt
not_broken n made (found.Filled placed) has low of = tt
not_broken n made (found.Broken spoilt) has low of = absurd (made_at_two n made has (let few = of.0 in let other = of.1 in omega (arith, few, other, low)))
