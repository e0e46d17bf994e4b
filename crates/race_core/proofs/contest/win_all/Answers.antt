use Rattle.std.proofs.Common.{rules, ◌∙◌, ap, subst, sym}
use Rattle.claim_core.specs.Hand.{HandView, SeesOwn}
use Rattle.grow_core.specs.Vector.{VectorView}
use Rattle.race_core.specs.Race.{IsTeam, IsTeamOf, team_of}
use Rattle.race_core.proofs.AllTeams.{all_team}
use Rattle.race_core.proofs.contest.win_all.Goals as goal

pub returns-clause-team : goal.returns-clause-team
returns-clause-team g c =
    let vector = c.args.vector.now in
    let each = c.args.each in
    let new = c.with_hands.new.hand in
    let wins = c.in_ok-wins.wins.items in
    let all = c.in_ok-teams.ensures in
    let opened = c.requires.new in
    let team = all_team (λ v. v.items) vector.word each c.args.hand.now new c.args.workers 65536 c.in_ok-teams.teams.items wins all.answers
    (λ worker own v (shown, old, last, same, fresh, met, is).
    let told : IsTeamOf shown.now.word each worker (team_of last.now v.items) = search rules in
    let sees : SeesOwn last.now = search rules in (
      subst (λ h. IsTeamOf vector.word each worker (team_of h v.items)) is (subst (λ (w : VectorView _). IsTeamOf w.word each worker (team_of last.now v.items)) same told),
      subst SeesOwn is sees,
    ))
    c.places_stay.ensures c.seen_runs_stay.ensures (ap (λ (h : HandView). h.mine) opened) (all.of ∙ ap (λ (h : HandView). h.of) opened)
    (all.shares ∙ ap (λ (h : HandView). h.shares) opened) c.laws.ensures.below c.in_ok-wins.ensures in
    subst (λ n. IsTeam vector.word 65536 0 n (team_of new wins)) (sym c.requires.size) team
