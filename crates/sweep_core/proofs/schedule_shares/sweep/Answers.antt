use Rattle.sweep_core.specs.Sums.{reports_of, total_of}
use Rattle.sweep_core.proofs.Totals.{of_ok, total_schedules, total_legal, total_events, total_ended}
use Rattle.sweep_core.proofs.schedule_shares.sweep.Goals as goal

pub returns-clause-schedules : goal.returns-clause-schedules
returns-clause-schedules g c =
    let a = c.args in
    of_ok (λ report. report.schedules) c.sum_reports.result (total_of (reports_of a.seed a.count a.len)) a.count
    (total_schedules a.seed a.count a.len c.requires.schedules.1 c.requires.items.1) c.sum_reports.ensures

pub returns-clause-legal : goal.returns-clause-legal
returns-clause-legal g c =
    let a = c.args in
    of_ok (λ report. report.legal) c.sum_reports.result (total_of (reports_of a.seed a.count a.len)) a.count
    (total_legal a.seed a.count a.len c.requires.schedules.1 c.requires.items.1) c.sum_reports.ensures

pub returns-clause-events : goal.returns-clause-events
returns-clause-events g c =
    let a = c.args in
    of_ok (λ report. report.events) c.sum_reports.result (total_of (reports_of a.seed a.count a.len)) _
    (total_events a.seed a.count a.len c.requires.schedules.1 c.requires.items.1) c.sum_reports.ensures

pub returns-clause-ended : goal.returns-clause-ended
returns-clause-ended g c =
    let a = c.args in
    of_ok (λ report. report.ended) c.sum_reports.result (total_of (reports_of a.seed a.count a.len)) _
    (total_ended a.seed a.count a.len c.requires.schedules.1 c.requires.items.1) c.sum_reports.ensures
