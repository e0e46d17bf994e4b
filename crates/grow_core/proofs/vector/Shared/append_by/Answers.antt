use Rattle.grow_core.specs.Logs.{AllFilled}
use Rattle.grow_core.proofs.Wins.{growth_of}
use Rattle.grow_core.proofs.vector.Shared.append_by.Goals as goal

pub returns-clause-logs : goal.returns-clause-logs
returns-clause-logs g c =
    let won = c.in_ok-won.ensures in let filled = c.place_run.ensures in
    growth_of c.args.hand.now c.claim_again.new.hand c.place_run.new.hand c.in_ok-won.won won.logs won.new_run filled.works AllFilled filled.adds
