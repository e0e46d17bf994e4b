use Rattle.std.proofs.Common.{ℕ, ◌^◌, ◌<◌, List, arith, subst, sym, ap}
use Rattle.claim_core.specs.Word.{WordView}
use Rattle.std.specs.List.{sum_by}
use Rattle.race_core.specs.declared.team.Win.{Win}
use Rattle.race_core.specs.Race.{AreAllPlaces, AreBelow}
use Rattle.race_core.proofs.Teams.{all_below, all_won, sum_is_small}
use Rattle.race_core.proofs.report.report_of.Goals as goal

pub sort_wins-requires-clause-all : goal.sort_wins-requires-clause-all
sort_wins-requires-clause-all c =
    let team = c.requires.team in
    let base = ap (λ (w : WordView). w.base) team.of in
    subst (λ (u : ℕ × List Win). AreAllPlaces u.0 u.1) (λ i. (sym c.closed_size-size.ensures i, sym c.deref-2.ensures.value i))
    (all_won c.args.hand c.args.wins.items (omega (arith, base, c.requires.base)) c.whole_laws.ensures.tiles team.wins)

pub sort_wins-requires-clause-below : goal.sort_wins-requires-clause-below
sort_wins-requires-clause-below c =
    subst (λ (u : ℕ × List Win). AreBelow u.0 u.1) (λ i. (sym c.closed_size-size.ensures i, sym c.deref-2.ensures.value i))
    (all_below c.seen_runs_are_within.ensures c.args.hand c.args.wins.items c.requires.team.seen)

pub sum_of-sum-requires : goal.sum_of-sum-requires
sum_of-sum-requires c =
    let small = sum_is_small c.args.size c.requires.limits.1 in
    let sum = c.requires.team.sum in
    subst (λ (wins : List Win). sum_by (λ (win : Win). win.value) wins < 2 ^ 64) (sym c.deref.ensures.value) (omega (arith, small, sum, c.requires.limits.1))
