use Rattle.std.proofs.Common.{◌≡◌, ◌-◌, ap, ◌∙◌, arith}
use Rattle.std.specs.List.{range_with_len}
use Rattle.rayon.specs.Numbers.{nat_range}
use Rattle.rayon.proofs.Reducing.{Reduces-elim}
use Rattle.sweep_core.specs.Sweep.{seed_of}
use Rattle.sweep_core.specs.Sums.{report_of}
use Rattle.sweep_core.proofs.Totals.{IsTotal, none_total, more_total, join_total, total_is}
use Rattle.sweep_core.proofs.schedule_shares.sum_reports.Goals as goal

pub returns : goal.returns
returns g c =
    let done = rw (c.map.ensures.base, c.map.ensures.f, c.with_min_len.ensures.base) at c.reduce.ensures in
    let ends = c.into_par_iter.ensures in
    let n = c.args.count in
    let whole : n - 0 ≡ n = omega arith in
    let numbers = done.1.1 ∙ (λ i. nat_range (ends.0 i) (ends.1 i)) ∙ ap (range_with_len 0) whole in
    rw (← numbers) (total_is (λ number. report_of c.args.len (seed_of c.args.seed number)) done.1.0 done.0 c.reduce.result done.1.2
    (Reduces-elim _ _ IsTotal none_total more_total join_total done.0 c.reduce.result done.2))
