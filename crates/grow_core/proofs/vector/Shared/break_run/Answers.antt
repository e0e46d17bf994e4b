use Rattle.grow_core.specs.Logs.{AllBroken}
use Rattle.grow_core.proofs.Wins.{growth_of}
use Rattle.grow_core.proofs.vector.Shared.break_run.Goals as goal

pub returns-clause-logs : goal.returns-clause-logs
returns-clause-logs g c =
    let run = c.in_ok-run.run' in let won = c.in_ok-run.ensures in let broken = c.break_places.ensures in
    growth_of c.args.hand.now c.claim_again.new.hand c.break_places.new.hand run won.logs won.new_run broken.works AllBroken broken.adds
