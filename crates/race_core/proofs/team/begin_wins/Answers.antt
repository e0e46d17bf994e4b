use Rattle.std.proofs.Common.{rules}
use Rattle.race_core.specs.Race.{Team, team_of}
use Rattle.race_core.proofs.Teams.{team_new}
use Rattle.race_core.proofs.team.begin_wins.Goals as goal

pub returns-clause-team : goal.returns-clause-team
returns-clause-team c = λ from.
    let team : Team = team_of c.args.hand.now c.new.result.items in
    team_new from team c.requires (search rules)
