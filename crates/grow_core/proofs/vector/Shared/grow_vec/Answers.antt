use Rattle.grow_core.proofs.Wins.{grown_logged}
use Rattle.grow_core.proofs.vector.Shared.grow_vec.Goals as goal

pub returns-clause-logs : goal.returns-clause-logs
returns-clause-logs g c =
    let run = c.in_ok-run.run' in let won = c.in_ok-run.ensures in let filled = c.fill_run.ensures in
    grown_logged c.args.hand.now c.claim_again.new.hand c.fill_run.new.hand run won.logs won.new_run filled.works c.fill_run.result.run filled.run filled.adds
