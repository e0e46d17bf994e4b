use Rattle.grow_core.proofs.Wins.{grown_logged}
use Rattle.grow_core.proofs.vector.Shared.grow_from.Goals as goal

pub returns-clause-logs : goal.returns-clause-logs
returns-clause-logs g c =
    let run = c.in_ok-run.run' in let won = c.in_ok-run.ensures in let filled = c.copy_run.ensures in
    grown_logged c.args.hand.now c.claim_again.new.hand c.copy_run.new.hand run won.logs won.new_run filled.works c.copy_run.result.run filled.run filled.adds
