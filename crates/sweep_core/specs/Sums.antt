-- Reports of some schedules, and of two such lots together.
use Rattle.std.specs.Prelude.{ℕ, ◌+◌, ◌%◌, ◌^◌, List, length, map, Result, Ok, Err}
use Rattle.std.specs.List.{range_with_len, sum_by}
use Rattle.std.specs.declared.alloc.AllocError.{AllocError}
use Rattle.sweep_core.specs.declared.report.SweepReport.{SweepReport}
use Rattle.sweep_core.specs.Sweep.{sampled_play, seed_of}

-- of no schedule
abbrev pub no_report : SweepReport
no_report = record { schedules = 0; legal = 0; events = 0; ended = 0 }

-- of the schedule of a seed
abbrev pub report_of : ℕ → ℕ → SweepReport
report_of len seed = record {
  schedules = 1;
  legal = 1;
  events = length (sampled_play seed len).events;
  ended = length (sampled_play seed len).ended;
}

-- of two reports together; each number wraps
abbrev pub plus : SweepReport → SweepReport → SweepReport
plus a b = record {
  schedules = (a.schedules + b.schedules) % 2 ^ 64;
  legal = (a.legal + b.legal) % 2 ^ 64;
  events = (a.events + b.events) % 2 ^ 64;
  ended = (a.ended + b.ended) % 2 ^ 64;
}

-- the same if memory may have been refused to either
abbrev pub sum_of_results : Result SweepReport AllocError → Result SweepReport AllocError
    → Result SweepReport AllocError
sum_of_results (Ok a) (Ok b) = Ok (plus a b)
sum_of_results (Ok a) (Err e) = Err e
sum_of_results (Err e) b = Err e

-- of all these reports; each number wraps
abbrev pub total_of : List SweepReport → SweepReport
total_of reports = record {
  schedules = sum_by (λ (report : SweepReport). report.schedules) reports % 2 ^ 64;
  legal = sum_by (λ (report : SweepReport). report.legal) reports % 2 ^ 64;
  events = sum_by (λ (report : SweepReport). report.events) reports % 2 ^ 64;
  ended = sum_by (λ (report : SweepReport). report.ended) reports % 2 ^ 64;
}

-- of `count` schedules from a seed on
abbrev pub reports_of : ℕ → ℕ → ℕ → List SweepReport
reports_of seed count len = map (λ number. report_of len (seed_of seed number)) (range_with_len 0 count)
