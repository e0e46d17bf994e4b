use Rattle.std.proofs.Common.{rules, ◌≡◌, ◌+◌, ◌*◌, subst}
use Rattle.claim_core.specs.Word.{WordView}
use Rattle.race_core.specs.Race.{Team, IsTeam, team_of}
use Rattle.race_core.proofs.WinLogs.{all_wins}
use Rattle.race_core.proofs.workers.append_each.Goals as goal

pub returns-clause-answer : goal.returns-clause-answer
returns-clause-answer g c =
    let word = c.args.vector.now.word in
    let hand = c.args.hand.now in
    let each = c.args.each in
    let from = c.from.result * each in
    let none : Team = team_of hand c.begin_wins-wins.result.items in
    let new : Team = team_of c.push_all-pushed.new.hand c.push_all-pushed.new.wins.items in
    let starts : IsTeam word 1 from from none =
    subst (λ n. IsTeam word n from from none) c.requires.unused.1
    (subst (λ (w : WordView). IsTeam w hand.shares from from none) c.requires.unused.0.0 (c.begin_wins-wins.ensures.team from))
    in
    let done : IsTeam word 1 from ((c.from-2.result + 1) * each) new = c.in_ok-pushed.ensures.team 1 starts in
    let first : c.from.result ≡ c.args.worker = search rules in
    let second : c.from-2.result ≡ c.args.worker = search rules in
    subst (λ n. IsTeam word 1 (n * each) ((c.args.worker + 1) * each) new) first
    (subst (λ n. IsTeam word 1 from ((n + 1) * each) new) second done)

pub returns-clause-logs : goal.returns-clause-logs
returns-clause-logs g c =
    all_wins c.args.hand.now c.push_all-pushed.new.hand _ _ c.begin_wins-wins.ensures.none c.in_ok-pushed.ensures.logs
