use Rattle.std.proofs.Common.{◌≡◌, ◌∙◌, refl, arith, subst}
use Rattle.race_core.specs.Race.{IsTeam, team_of}
use Rattle.race_core.proofs.WinLogs.{no_win, more_wins}
use Rattle.race_core.proofs.team.push_all.Goals as goal

pub loop-value-init : goal.loop-value-init
loop-value-init g c = (c.requires.ours, refl, refl, λ shares start. start, no_win _ _)

pub loop-value-preserved : goal.loop-value-preserved
loop-value-preserved g c = (
  c.push_value.ensures.of ∙ c.loop-value.invariant.0,
  c.push_value.ensures.of ∙ c.loop-value.invariant.1,
  c.push_value.ensures.shares ∙ c.loop-value.invariant.2,
  λ shares start. c.in_ok-push_value.ensures.team shares c.args.from (c.loop-value.invariant.3 shares start),
  more_wins c.args.hand.now _ _ c.args.wins.now.items _ _ c.loop-value.invariant.4 c.in_ok-push_value.ensures.logs,
)

pub returns-clause-team : goal.returns-clause-team
returns-clause-team g c = λ shares start.
    let end : c.loop-value.value ≡ c.args.to = omega (arith, c.loop-value-test.false, c.loop-value.auto.value-end, c.requires.order) in
    subst (λ v. IsTeam c.args.vector.now.word shares c.args.from v (team_of c.loop-value.hand c.loop-value.wins.items)) end (c.loop-value.invariant.3 shares start)
