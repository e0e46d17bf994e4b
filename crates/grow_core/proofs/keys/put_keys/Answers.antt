use Rattle.std.proofs.Common.{inr, ⊎_elim, arith}
use Rattle.grow_core.proofs.KeyRows.{walked_on}
use Rattle.grow_core.proofs.keys.put_keys.Goals as goal

pub loop-segment-preserved : goal.loop-segment-preserved
loop-segment-preserved c =
    let put = c.put_other.ensures in (
      walked_on c.loop-segment.invariant.0 (omega arith) put.kept put.put,
      λ mark old other. put.keys mark (c.loop-segment.invariant.1 mark old other) other,
      λ segment key small is. ⊎_elim (λ was. c.loop-segment.invariant.2 segment key small was) (λ also. inr also) (put.either segment key small is),
    )
