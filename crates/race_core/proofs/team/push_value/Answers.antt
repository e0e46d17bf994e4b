use Rattle.std.proofs.Common.{rules, ◌≡◌, subst}
use Rattle.grow_core.specs.Logs.{LogsPush}
use Rattle.race_core.specs.declared.team.Win.{Win}
use Rattle.race_core.specs.Race.{Team, team_of}
use Rattle.race_core.proofs.Teams.{team_told}
use Rattle.race_core.proofs.WinLogs.{one_win}
use Rattle.race_core.proofs.team.push_value.Goals as goal

pub returns-in-Ok-push-clause-team : goal.returns-in-Ok-push-clause-team
returns-in-Ok-push-clause-team g c = λ shares from team.
    let old : Team = team_of c.args.hand.now c.args.wins.now.items in
    let new : Team = team_of c.push_back.new.hand c.push.new.self.items in
    let win : Win = record { worker = c.args.worker; place = c.place.result; value = c.get.result.now } in
    team_told c.added_runs_are_last.ensures c.places_stay.ensures c.seen_runs_stay.ensures c.args.vector.now.word shares from c.args.value c.in-Ok.placed.place old new win
    (search rules) (search rules) team c.laws.ensures.below c.in-Ok.ensures.won.run c.in-Ok-push.ensures.items

pub returns-in-Ok-push-clause-logs : goal.returns-in-Ok-push-clause-logs
returns-in-Ok-push-clause-logs g c =
    let win : Win = record { worker = c.args.worker; place = c.place.result; value = c.get.result.now } in
    let here : c.in-Ok.placed.place ≡ c.place.result = search rules in
    let push = subst (LogsPush c.args.hand.now c.push_back.new.hand) here c.in-Ok.ensures.logs in
    one_win c.args.hand.now c.push_back.new.hand c.args.wins.now.items c.push.new.self.items win push c.in-Ok-push.ensures.items
