use Rattle.std.proofs.Common.{◌+◌, ◌-◌, arith}
use Rattle.grow_core.proofs.Works.{works_within}
use Rattle.grow_core.proofs.vector.Shared.break_places.Goals as goal

pub break_rest-requires : goal.break_rest-requires
break_rest-requires g c =
    let all = c.requires in
    (omega arith, (all.ours, (all.owned, ((λ place low high it. all.fresh place (omega (arith, low)) (omega (arith, high)) it), (all.within, (omega arith, all.callable))))))

pub returns-clause-works : goal.returns-clause-works
returns-clause-works g c =
    let run = c.args.run in
    works_within c.args.hand.now c.break_rest.new.hand (run.from + 0) (run.n - 0) run.from run.n (omega arith) (omega arith) c.break_rest.ensures.works
