-- The runs of a play, wherever its history is cut in two.
use Rattle.std.proofs.Common.{◌≡◌, ℕ, List, Result, Ok, Err, IfOk, OnOk, sym, subst}
use Rattle.book_core.specs.declared.commands.Command.{Command}
use Rattle.book_core.specs.declared.commands.Item.{Item}
use Rattle.seg_core.specs.Segment.{IsLayout, IsLimit}
use Rattle.book_core.specs.Cells.{empty_list}
use Rattle.book_core.specs.Commands.{AreSound}
use Rattle.book_core.specs.History.{IsHistory}
use Rattle.book_core.specs.Laws.{HistoriesSplit, RunsAreApart}
use Rattle.step_core.specs.declared.errors.PlayError.{PlayError}
use Rattle.step_core.specs.declared.programs.Played.{Played}
use Rattle.step_core.specs.machine.Play.{Play, play_of}
use Rattle.step_core.specs.machine.Work.{play_shown}
use Rattle.step_core.specs.machine.Legal.{list_seen}
use Rattle.step_core.specs.machine.Headline.{IsSequential, EveryInterleavingIsSequential}
use Rattle.model_tests.specs.Uses.{LaterRunsLiePast}

later_runs : (limit : ℕ) (programs : List (List Command)) (p : Play) → HistoriesSplit → RunsAreApart
    → IsSequential limit programs p → LaterRunsLiePast p.events
later_runs limit programs p split apart is before after run later cut first second =
    let whole = subst (λ es. IsHistory (empty_list limit) es (list_seen limit p)) cut is.legal in
    let parts = (split (empty_list limit) (list_seen limit p) before after).0 whole in
    apart (empty_list limit) parts.0 (list_seen limit p) before after run later parts.1 parts.2 first second

-- the same holds for the result of a play
pub later_runs_of : (r : Result Played PlayError) (f limit : ℕ) (programs : List (List Command)) (items : List Item)
    → HistoriesSplit → RunsAreApart → EveryInterleavingIsSequential
    → IfOk r (λ played. played ≡ play_shown f limit programs items) → OnOk r (IsLayout f) → OnOk r (IsLimit limit)
    → OnOk r (AreSound programs) → IfOk r (λ played. LaterRunsLiePast played.events)
later_runs_of (Ok played) f limit programs items split apart law is is_layout is_limit sound =
    subst (λ (x : Played). LaterRunsLiePast x.events) (sym is) (later_runs limit programs (play_of f limit programs items) split apart (law f is_layout limit programs items is_limit sound))
later_runs_of (Err e) f limit programs items split apart law is is_layout is_limit sound = tt
