-- A race: workers append to one shared vector, and what each of them won becomes a history.
use Rattle.std.specs.Prelude.{◌≡◌, ℕ, zero, suc, ◌+◌, ◌*◌, ◌<◌, ◌≤◌, ◌⊎◌, Bool, true, false, List, [], ◌∷◌, ◌++◌, length, slice_index_or, Option, Some, None, codes, decimal}
use Rattle.std.specs.List.{Contains, sum_by}
use Rattle.book_core.specs.declared.events.Event.{Event}
use Rattle.book_core.specs.declared.events.Event.TheVariants.{Claim, Finish}
use Rattle.book_core.specs.declared.events.Reply.{Reply}
use Rattle.book_core.specs.declared.events.Reply.TheVariants as replies
use Rattle.claim_core.specs.Word.{WordView}
use Rattle.claim_core.specs.Hand.{HandView, SeesRun, own_places}
use Rattle.grow_core.specs.Vector.{VectorView, IsHandOf}
use Rattle.grow_core.specs.Growth.{single, IsDue}
use Rattle.grow_core.specs.Logs.{LogsNothing, LogsPush}
use Rattle.grow_core.specs.declared.errors.GrowError.{GrowError}
use Rattle.grow_core.specs.declared.errors.GrowError.TheVariants as grows
use Rattle.grow_core.specs.declared.errors.Never.{Never}
use Rattle.span_core.specs.declared.errors.Refusal.{Refusal}
use Rattle.span_core.specs.declared.errors.Refusal.TheVariants as refusals
use Rattle.span_core.specs.Workers.{IsBadNumber}
use Rattle.race_core.specs.declared.team.Win.{Win}
use Rattle.race_core.specs.declared.report.RaceReport.{RaceReport}
use Rattle.race_core.specs.declared.refusal.RaceError.{RaceError}
use Rattle.race_core.specs.declared.refusal.RaceError.TheVariants.{NoMemory, BadSize, Stuck, Grow}

-- the number of each refusal
abbrev pub race_number : RaceError → ℕ
race_number NoMemory = 1
race_number BadSize = 2
race_number Stuck = 3
race_number (Grow number) = 4

-- the sum of the numbers below n
abbrev pub sum_below : ℕ → ℕ
sum_below zero = 0
sum_below (suc n) = sum_below n + n

-- not from 1 to 64 workers, or not from 1 to 100000 values of each
abbrev pub IsBadSize : ℕ → ℕ → Type 0
IsBadSize workers each = IsBadNumber workers ⊎ ((each ≡ 0) ⊎ (100000 < each))

-- a growth that was refused since the vector was full, or since a place was taken
abbrev pub IsGrowth : ℕ → Type 0
IsGrowth number = (number ≡ 2) ⊎ (number ≡ 5)

-- what a race reports of each refusal of a growth that tries until it wins
abbrev pub IsReportedAs : {T V E : Type 0} → GrowError T V E → RaceError → Type 0
IsReportedAs (grows.NoMemory back) reported = reported ≡ NoMemory
IsReportedAs (grows.Full size back) reported = reported ≡ Grow 2
IsReportedAs (grows.Moved size back) reported = ⊥
IsReportedAs (grows.Refused run made cause) reported = ⊥
IsReportedAs (grows.Taken place found) reported = reported ≡ Grow 5

-- why a worker that passed the gate was refused
abbrev pub IsWorkers : RaceError → Type 0
IsWorkers NoMemory = Unit {0}
IsWorkers BadSize = ⊥
IsWorkers Stuck = ⊥
IsWorkers (Grow number) = IsGrowth number

-- why a value was not appended: its growth was refused when that was due, or there was no memory for the win
abbrev pub IsPushRefusal : VectorView ℕ → HandView → RaceError → Type 0
IsPushRefusal vector hand reported =
    (reported ≡ NoMemory) ⊎ ((error : GrowError ℕ ℕ Never) × IsDue vector 1 hand error × IsReportedAs error reported)

-- why a race is refused whose gate refuses nobody
abbrev pub IsFreeRefusal : ℕ → ℕ → RaceError → Type 0
IsFreeRefusal workers each NoMemory = Unit {0}
IsFreeRefusal workers each BadSize = IsBadSize workers each
IsFreeRefusal workers each Stuck = ⊥
IsFreeRefusal workers each (Grow number) = IsGrowth number

-- the place of a win is the hand's run of this index
abbrev pub HasWin : HandView → List Win → ℕ → Type 0
HasWin hand wins index = (win : Win) × Contains wins win × SeesRun hand index (single win.place)

-- the place of a win is a run that the hand has seen
abbrev pub IsSeen : HandView → Win → Type 0
IsSeen hand win = (index : ℕ) × SeesRun hand index (single win.place)

-- what some workers have won together: their hand, and their places
pub record Team : Type 0 where
  pub hand : HandView
  pub wins : List Win

abbrev pub team_of : HandView → List Win → Team
team_of hand wins = record { hand = hand; wins = wins }

-- the values from one number up to another were appended, one in each run that the hand owns
pub record IsTeam (word : WordView) (shares from to : ℕ) (team : Team) : Type 0 where
  pub of : team.hand.of ≡ word
  pub part : team.hand.shares ≡ shares
  pub places : own_places team.hand + from ≡ to
  pub wins : (index : ℕ) → Contains team.hand.mine index → HasWin team.hand team.wins index
  pub seen : (win : Win) → Contains team.wins win → IsSeen team.hand win
  pub sum : sum_by (λ win. win.value) team.wins + sum_below from ≡ sum_below to

-- the values of this worker were appended, by a hand with one share
abbrev pub IsTeamOf : WordView → ℕ → ℕ → Team → Type 0
IsTeamOf word each worker = IsTeam word 1 (worker * each) ((worker + 1) * each)

-- the history gets the claim and the fill of each win's place, in order
abbrev pub LogsWins : HandView → HandView → List Win → Type 0
LogsWins old new [] = LogsNothing old new
LogsWins old new (win ∷ wins) = (mid : HandView) × LogsPush old mid win.place × LogsWins mid new wins

-- these wins come behind the others, and the history gets theirs
abbrev pub LogsMoreWins : HandView → HandView → List Win → List Win → Type 0
LogsMoreWins old new before after = (won : List Win) × (after ≡ before ++ won) × LogsWins old new won

-- what a race reports of a range of workers that has no result
abbrev pub race_refusal : Refusal RaceError → RaceError
race_refusal refusals.NoMemory = NoMemory
race_refusal refusals.NoThread = NoMemory
race_refusal refusals.Stuck = Stuck
race_refusal (refusals.Worker e) = e

-- a hand of this vector that has won nothing yet
abbrev pub IsUnusedHand : VectorView ℕ → HandView → Type 0
IsUnusedHand vector hand = IsHandOf vector hand × (hand.mine ≡ [])

-- the number of workers is at most this one, and so is that of their values
abbrev pub AreFew : ℕ → ℕ → Type 0
AreFew workers each = (workers ≤ 64) × (each ≤ 100000)

-- each place below the size was won
abbrev pub AreAllPlaces : ℕ → List Win → Type 0
AreAllPlaces size wins = (place : ℕ) → place < size → (win : Win) × Contains wins win × (win.place ≡ place)

-- each win is of a place below the size
abbrev pub AreBelow : ℕ → List Win → Type 0
AreBelow size wins = (win : Win) → Contains wins win → win.place < size

-- there is a win, and it is of this place
abbrev pub IsWinOf : ℕ → Option Win → Type 0
IsWinOf place (Some win) = win.place ≡ place
IsWinOf place None = ⊥

-- the wins of all places, in order of place
abbrev pub AreInOrder : ℕ → List (Option Win) → Type 0
AreInOrder size slots =
    (length slots ≡ size) × ((place : ℕ) → place < size → IsWinOf place (slice_index_or slots place None))

-- the place was claimed by the worker that won it, and filled with its value
abbrev pub events_of_win : Win → List (Event × Reply)
events_of_win win =
    (Claim win.worker 1, replies.Run win.place 1) ∷ (Finish win.worker win.place win.value, replies.Done) ∷ []

-- the text that says whether a history is legal
abbrev pub verdict_of : Bool → List ℕ
verdict_of true = codes "legal"
verdict_of false = codes "not legal"

-- how a report is shown
abbrev pub report_text : RaceReport → List ℕ
report_text report =
    codes "size " ++ decimal report.size ++ codes "\nsum " ++ decimal report.sum ++ codes "\n"
    ++ verdict_of report.legal ++ codes "\n"

-- the text of a race of this many values
abbrev pub race_text : ℕ → List ℕ
race_text size = report_text (record { size = size; sum = sum_below size; legal = true })
