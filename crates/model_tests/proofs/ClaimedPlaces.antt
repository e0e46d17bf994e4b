-- Claimed places: how many there are, whose they are, and who still has to finish them.
use Rattle.std.proofs.Common.{◌≡◌, ℕ, ◌+◌, true, List, [], ◌∷◌, length, Some, Option, IsSome, None, refl, ap, sym, ◌∙◌, subst, arith, inl, inr}
use Rattle.std.specs.List.{Contains}
use Rattle.std.specs.FinSet as set
use Rattle.std.proofs.lemmas.Bool.{false≢true}
use Rattle.std.proofs.lemmas.List.Elements.{Contains-push}
use Rattle.std.proofs.lemmas.List.Sums.{sum_by-cons}
use Rattle.std.proofs.lemmas.Option.{same_Some}
use Rattle.seg_core.specs.Segment.{segment_of}
use Rattle.book_core.specs.declared.events.Event.TheVariants.{Mend}
use Rattle.book_core.specs.Cells.{empty_list}
use Rattle.book_core.specs.History.{OwnedRun, runs_of, Tile}
use Rattle.book_core.specs.Laws.{HistoriesTile}
use Rattle.step_core.specs.declared.machine.phase.Actor.{Actor}
use Rattle.step_core.specs.declared.programs.Played.{Played}
use Rattle.step_core.specs.calls.Laws.{CallsPlay, CallsAreLegal}
use Rattle.step_core.specs.calls.Play.{calls_played}
use Rattle.step_core.specs.machine.Play.{Play, play_of, PlaysKeepTheLayout}
use Rattle.step_core.specs.machine.Tiling.{IsWonOrMended, Owes, RunsTile, DebtsAreApart, DebtsArePending, DebtsAreOfHistory, EveryPlayIsTiled}
use Rattle.model_tests.specs.Places.{OfEveryPlay, places_in, SizeIsTheSumOfRuns, EveryClaimedPlaceIsHeld, WholeCallsClaimTheirCells, PendingPlacesHaveOneDebtor, HistoriesNameTheDebtor, DebtorsOwnOrMended, EndedCallsLeaveNoDebt}

-- ---- The size

-- the places of runs that follow each other are those between their ends
tiled_places : (start end : ℕ) (runs : List OwnedRun) → Tile start runs end → start + places_in runs ≡ end
tiled_places start end [] tile = omega arith
tiled_places start end (run ∷ runs) (first, others) =
    let rest = tiled_places (start + run.n) end runs others in
    let sum = sum_by-cons (λ (run : OwnedRun). run.n) run runs in
    omega arith

places_of_tiles : (end : ℕ) (runs : List OwnedRun) → Tile 0 runs end → end ≡ places_in runs
places_of_tiles end runs tile = let all = tiled_places 0 end runs tile in omega arith

pub size_is_the_sum : (p : Play) → RunsTile p → SizeIsTheSumOfRuns p
size_is_the_sum p tile = places_of_tiles p.at.storage.size (runs_of p.events) tile

pub sizes_are_sums : EveryPlayIsTiled → OfEveryPlay SizeIsTheSumOfRuns
sizes_are_sums law f is_layout limit programs items is_limit =
    size_is_the_sum (play_of f limit programs items) (law f is_layout limit programs items is_limit).runs_tile

pub claimed_places_are_held : EveryPlayIsTiled → PlaysKeepTheLayout → EveryClaimedPlaceIsHeld
claimed_places_are_held law keeps f is_layout limit programs items is_limit place inside =
    let p = play_of f limit programs items in
    let tiled = law f is_layout limit programs items is_limit in
    let owner = tiled.owned place inside in
    record {
      owner = owner.0;
      owns = owner.1;
      installed = subst (λ layout. set.contains p.at.storage.installed (segment_of layout place) ≡ true) (keeps f limit programs items)
          (tiled.segments_there place inside);
    }

-- the play of whole calls that there is
some_play : (o : Option Played) → IsSome o → (played : Played) × (o ≡ Some played)
some_play (Some played) is = (played, refl)
some_play None is = absurd (false≢true is)

pub whole_calls_claim : CallsPlay → CallsAreLegal → HistoriesTile → WholeCallsClaimTheirCells
whole_calls_claim plays legal tile limit programs items sound =
    let is = some_play (calls_played limit programs items) (plays limit programs items sound) in
    let history = legal limit programs items is.0 is.1 in
    (is.0, is.1, places_of_tiles (length is.0.cells) (runs_of is.0.events) (tile (empty_list limit) (record { limit = limit; cells = is.0.cells }) is.0.events history))

-- ---- Debts

one_debtor : (p : Play) → DebtsAreApart p → DebtsArePending p → PendingPlacesHaveOneDebtor p
one_debtor p apart pending place = (
  (λ is.
      let owes = (pending place).0 is in
      (owes.0, record { owes = owes.1; alone = λ other others. apart other owes.0 place others owes.1 })),
  (λ debtor. (pending place).1 (debtor.0, debtor.1.owes)),
)

pub pending_places_have_one_debtor : EveryPlayIsTiled → OfEveryPlay PendingPlacesHaveOneDebtor
pending_places_have_one_debtor law f is_layout limit programs items is_limit =
    let tiled = law f is_layout limit programs items is_limit in
    one_debtor (play_of f limit programs items) tiled.debts_apart tiled.debts_pending

named_debtor : (p : Play) → DebtsAreApart p → DebtsAreOfHistory p → HistoriesNameTheDebtor p
named_debtor p apart history actor place its =
    let owes : Owes p.at actor place = (history actor place).1 its in
    record { owes = owes; alone = λ other others. apart other actor place others owes }

pub histories_name_the_debtor : EveryPlayIsTiled → OfEveryPlay HistoriesNameTheDebtor
histories_name_the_debtor law f is_layout limit programs items is_limit =
    let tiled = law f is_layout limit programs items is_limit in
    named_debtor (play_of f limit programs items) tiled.debts_apart tiled.debts_of_history

debtor_owns : (p : Play) → DebtsAreOfHistory p → DebtorsOwnOrMended p
debtor_owns p history actor place owes = elim ((history actor place).0 owes) [
  | inl owns ↦ inl owns.0
  | inr mended ↦ inr (subst (λ writes. Contains writes (Mend actor place)) (sym mended.1) (Contains-push mended.0 (Mend actor place)))
]

pub debtors_own_or_mended : EveryPlayIsTiled → OfEveryPlay DebtorsOwnOrMended
debtors_own_or_mended law f is_layout limit programs items is_limit =
    debtor_owns (play_of f limit programs items) (law f is_layout limit programs items is_limit).debts_of_history

no_debt_left : (p : Play) → DebtsAreOfHistory p → EndedCallsLeaveNoDebt p
no_debt_left p history actor place state there at_load owns none =
    let owes : Owes p.at actor place = (history actor place).1 (inl (owns, none)) in
    let same : owes.state ≡ state = same_Some owes.state state (sym owes.there ∙ there) in
    subst (λ phase. IsWonOrMended phase place) (ap (λ (s : Actor). s.phase) same ∙ at_load) owes.its

pub ended_calls_leave_no_debt : EveryPlayIsTiled → OfEveryPlay EndedCallsLeaveNoDebt
ended_calls_leave_no_debt law f is_layout limit programs items is_limit =
    no_debt_left (play_of f limit programs items) (law f is_layout limit programs items is_limit).debts_of_history
