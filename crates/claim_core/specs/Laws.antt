-- What follows from the definitions of runs and hands alone.
use Rattle.std.specs.Prelude.{◌≡◌, ℕ, ◌+◌, ◌<◌, ◌≤◌, ◌≢◌, ◌↔◌, ◌⊎◌, Bool, true, false, get_or, List, [], ◌∷◌, ◌++◌, length, replicate, Some, slice_get}
use Rattle.std.specs.List.{Contains}
use mathlib.Core.List.{IsPrefix}
use Rattle.tie_core.specs.Tie.{Begun, Filled}
use Rattle.claim_core.specs.declared.run.Run.{Run}
use Rattle.claim_core.specs.Lengths.{InRun, places_in, runs_end}
use Rattle.book_core.specs.declared.events.Event.TheVariants.{Look, Mend}
use Rattle.book_core.specs.declared.events.Reply.{Reply}
use Rattle.book_core.specs.declared.events.Reply.TheVariants as replies
use Rattle.book_core.specs.Cells.{CellList}
use Rattle.book_core.specs.History.{IsHistory, runs_of, owner_of}
use Rattle.claim_core.specs.History.{Log, AddsEvents, Adds, IsHistoryOf, first_list, value_cell, fill_event, fill_steps, break_event, first_cell, lengths_of, claim_event, size_event, IsNote, no_note, full_note, growth_note, reach_note, range_note}
use Rattle.claim_core.specs.Word.{WordView, first_at}
use Rattle.claim_core.specs.Hand.{HandView, KeepsOwn, KeepsCells, SeesBegun, AddsRun, SeesRun, OwnsRun, OwnsPlace, SeesOwn, GainsRun, OwnApart, IsOwnRun, IsPlaceOf, AreDisjoint, single, seen_size, own_places}
use Rattle.claim_core.specs.Ties.{opened_stage, first_stages}
use Rattle.claim_core.specs.Plays.{fills_by, places_back}

-- a run stays where it is when the list goes on
abbrev pub RunsStay : Type 0
RunsStay =
    (base : ℕ) (before after : List ℕ) (k place : ℕ) → IsPrefix before after → InRun base before k place
    → InRun base after k place

-- a run of the longer list, whose index is below the length of the shorter one, is a run of the shorter one
abbrev pub RunsWereThere : Type 0
RunsWereThere =
    (base : ℕ) (before after : List ℕ) (k place : ℕ)
    → IsPrefix before after → k < length before → InRun base after k place → InRun base before k place

-- two runs of one list that share a place are one
abbrev pub RunsAreApart : Type 0
RunsAreApart =
    (base : ℕ) (lengths : List ℕ) (j k place : ℕ) → InRun base lengths j place → InRun base lengths k place → j ≡ k

-- the runs of these indices keep their number of places when the list grows
abbrev pub PlacesStay : Type 0
PlacesStay =
    (before after indices : List ℕ) → IsPrefix before after → ((k : ℕ) → Contains indices k → k < length before)
    → places_in after indices ≡ places_in before indices

-- a run that a step adds is the hand's own
abbrev pub AddedRunsAreOwned : Type 0
AddedRunsAreOwned = (old new : HandView) (run : Run) → AddsRun old new run → OwnsRun new run

-- a run that a step adds has the last index, which is new to the hand
abbrev pub AddedRunsAreLast : Type 0
AddedRunsAreLast = (old new : HandView) (run : Run) → AddsRun old new run → (index : ℕ) × GainsRun old new index run

-- a run that was seen is the same run in all that is seen later
abbrev pub SeenRunsStay : Type 0
SeenRunsStay =
    (old new : HandView) (index : ℕ) (run : Run) → new.of ≡ old.of → IsPrefix old.seen new.seen
    → SeesRun old index run → SeesRun new index run

-- a run that is seen later, whose index was seen before, is the run that was seen
abbrev pub SeenRunsWereThere : Type 0
SeenRunsWereThere =
    (old new : HandView) (index : ℕ) (run : Run) → new.of ≡ old.of → IsPrefix old.seen new.seen
    → index < length old.seen → SeesRun new index run → SeesRun old index run

-- a run that was seen lies between the base and the size that was seen
abbrev pub SeenRunsAreWithin : Type 0
SeenRunsAreWithin =
    (hand : HandView) (index : ℕ) (run : Run) → SeesRun hand index run
    → (hand.of.base ≤ run.from) × (run.from + run.n ≤ seen_size hand)

-- a place is one of a run that was seen exactly if it lies in the run of that index
abbrev pub SeenRunsHavePlaces : Type 0
SeenRunsHavePlaces =
    (hand : HandView) (index : ℕ) (run : Run) (place : ℕ) → SeesRun hand index run
    → (IsPlaceOf run place ↔ InRun hand.of.base hand.seen index place)

-- two hands that own no run in common, and have seen the same, have disjoint runs
abbrev pub OwnersAreApart : Type 0
OwnersAreApart =
    (a b : HandView) (x y : Run) → b.of ≡ a.of → b.seen ≡ a.seen → OwnApart a b
    → OwnsRun a x → OwnsRun b y → AreDisjoint x y

-- two hands that own no run in common, and have seen prefixes of one list, have disjoint runs
abbrev pub JoinedOwnersAreApart : Type 0
JoinedOwnersAreApart =
    (a b : HandView) (lengths : List ℕ) (x y : Run)
    → b.of ≡ a.of → IsPrefix a.seen lengths → IsPrefix b.seen lengths → OwnApart a b
    → OwnsRun a x → OwnsRun b y → AreDisjoint x y

-- a hand that has seen more owns the runs that it owned
abbrev pub OwnRunsStay : Type 0
OwnRunsStay =
    (old new : HandView) (run : Run) → KeepsOwn old new → IsPrefix old.seen new.seen → OwnsRun old run → OwnsRun new run

-- a hand that has seen more owns no other places
abbrev pub OwnPlacesStay : Type 0
OwnPlacesStay =
    (old new : HandView) (place : ℕ) → SeesOwn old → KeepsOwn old new → IsPrefix old.seen new.seen
    → OwnsPlace new place → OwnsPlace old place

-- a hand that has seen more owns the same number of places
abbrev pub OwnCountsStay : Type 0
OwnCountsStay =
    (old new : HandView) → SeesOwn old → KeepsOwn old new → IsPrefix old.seen new.seen → own_places new ≡ own_places old

-- a hand that has one more run owns the places that it owned, and those of the run
abbrev pub AddedPlacesAreOfTheRun : Type 0
AddedPlacesAreOfTheRun =
    (old new : HandView) (run : Run) (place : ℕ) → SeesOwn old → AddsRun old new run
    → OwnsPlace new place → OwnsPlace old place ⊎ IsPlaceOf run place

-- a hand owns the places of a run that a step adds
abbrev pub AddedPlacesAreOwned : Type 0
AddedPlacesAreOwned =
    (old new : HandView) (run : Run) (place : ℕ) → AddsRun old new run → IsPlaceOf run place → OwnsPlace new place

-- a hand that two were joined into owns the places that one of them owned
abbrev pub JoinedPlacesAreOfEither : Type 0
JoinedPlacesAreOfEither =
    (a b new : HandView) (place : ℕ) → SeesOwn a → SeesOwn b → new.of ≡ a.of → new.of ≡ b.of
    → IsPrefix a.seen new.seen → IsPrefix b.seen new.seen → new.mine ≡ a.mine ++ b.mine
    → OwnsPlace new place → OwnsPlace a place ⊎ OwnsPlace b place

-- a hand with an added run owns that run's number of places more
abbrev pub AddedPlacesAddUp : Type 0
AddedPlacesAddUp =
    (old new : HandView) (run : Run) → SeesOwn old → AddsRun old new run → own_places new ≡ own_places old + run.n

-- a joined hand owns as many places as the two hands together
abbrev pub JoinedPlacesAddUp : Type 0
JoinedPlacesAddUp =
    (a b new : HandView) → SeesOwn a → SeesOwn b → IsPrefix a.seen new.seen → IsPrefix b.seen new.seen
    → new.mine ≡ a.mine ++ b.mine → own_places new ≡ own_places a + own_places b

-- a hand that two were joined into owns the runs that one of them owned
abbrev pub JoinedHandsOwnRuns : Type 0
JoinedHandsOwnRuns =
    (a b new : HandView) (run : Run) → new.of ≡ a.of → new.of ≡ b.of → IsPrefix a.seen new.seen
    → IsPrefix b.seen new.seen
    → new.mine ≡ a.mine ++ b.mine → OwnsRun a run ⊎ OwnsRun b run → OwnsRun new run

-- single places of two hands that own no run in common, and have seen the same, differ
abbrev pub SinglePlacesDiffer : Type 0
SinglePlacesDiffer =
    (a b : HandView) (x y : ℕ) → b.of ≡ a.of → b.seen ≡ a.seen → OwnApart a b
    → OwnsRun a (single x) → OwnsRun b (single y) → x ≢ y

-- that a hand owns a run can be said without its index
abbrev pub OwnRunsAreFacts : Type 0
OwnRunsAreFacts = (hand : HandView) (run : Run) → (OwnsRun hand run ↔ IsOwnRun hand run)

-- what is added to a history in two steps: the events of the first count as some of those before the second's
abbrev pub EventsFollow : Type 0
EventsFollow = (a b c es fs : Log) → AddsEvents a es b → AddsEvents b fs c → AddsEvents a fs c

-- a history goes on exactly if no event is added to it in this sense
abbrev pub PrefixesAddNothing : Type 0
PrefixesAddNothing = (a b : Log) → (AddsEvents a [] b ↔ IsPrefix a b)

-- one more step
abbrev pub StepsGoOn : Type 0
StepsGoOn =
    (old mid new : Log) (steps : List Log) (es : Log) → Adds old steps mid → AddsEvents mid es new
    → Adds old (steps ++ es ∷ []) new

-- what was added stays in each history that goes on, as that of hands that met or were joined
abbrev pub StepsStay : Type 0
StepsStay = (old mid new : Log) (steps : List Log) → Adds old steps mid → IsPrefix mid new → Adds old steps new

-- a step may log nothing
abbrev pub NothingIsNote : Type 0
NothingIsNote = (limit : ℕ) → IsNote limit no_note

-- or for the refusal of a growth by n places
abbrev pub FullIsNote : Type 0
FullIsNote = (limit n : ℕ) → IsNote limit (full_note limit n)

-- or for a growth by none, if n is 0
abbrev pub GrowthIsNote : Type 0
GrowthIsNote = (limit n : ℕ) → IsNote limit (growth_note limit n)

-- or for a growth up to a size that is not needed, or not possible
abbrev pub ReachIsNote : Type 0
ReachIsNote = (limit to : ℕ) → IsNote limit (reach_note limit to)

-- or for a look at a place that is not below the size
abbrev pub RangeIsNote : Type 0
RangeIsNote = (limit place : ℕ) → IsNote limit (range_note place)

-- a history begins with each place below the word's base, which has a value or is broken
abbrev pub FirstPlacesAreTold : Type 0
FirstPlacesAreTold =
    (word : WordView) (place : ℕ) → place < word.base
    → first_at word place ≡ Some (first_cell word.filled place)

-- a size in a legal history is that of the list before it: where it began, and all claims so far
abbrev pub SizesCountClaims : Type 0
SizesCountClaims =
    (limit base size : ℕ) (filled : List Bool) (before after : Log)
    → IsHistoryOf limit base filled (before ++ size_event size ∷ after)
    → size ≡ runs_end base (lengths_of before)

-- a claim of some places begins there too
abbrev pub ClaimsBeginAtTheSize : Type 0
ClaimsBeginAtTheSize =
    (limit base index : ℕ) (filled : List Bool) (run : Run) (before after : Log)
    → IsHistoryOf limit base filled (before ++ claim_event index run ∷ after)
    → run.from ≡ runs_end base (lengths_of before)

-- no claim is in a history twice, since each has the index that is its turn
abbrev pub ClaimsHaveTheirTurn : Type 0
ClaimsHaveTheirTurn =
    (limit base index : ℕ) (filled : List Bool) (run : Run) (before after : Log) → 0 < run.n
    → IsHistoryOf limit base filled (before ++ claim_event index run ∷ after)
    → index ≡ length (lengths_of before)

-- a place that a history fills has its value from then on
abbrev pub FilledPlacesStay : Type 0
FilledPlacesStay =
    (limit base actor place : ℕ) (filled : List Bool) (before after : Log) (list : CellList)
    → IsHistory (first_list limit base filled) (before ++ fill_event actor place ∷ after) list
    → slice_get list.cells place ≡ Some (value_cell place)

-- no place is filled twice
abbrev pub FillsAreOnce : Type 0
FillsAreOnce =
    (limit base actor other place : ℕ) (filled : List Bool) (before between after : Log)
    → IsHistoryOf limit base filled (before ++ fill_event actor place ∷ (between ++ fill_event other place ∷ after)) → ⊥

-- what fills a place is the claim whose run has it, or an actor that took it for mending
abbrev pub FillsHaveOwners : Type 0
FillsHaveOwners =
    (limit base actor place : ℕ) (filled : List Bool) (before after : Log)
    → IsHistoryOf limit base filled (before ++ fill_event actor place ∷ after)
    → (owner_of (runs_of before) place ≡ Some actor) ⊎ Contains before (Mend actor place, replies.Done)

-- so is what breaks a place
abbrev pub BreaksHaveOwners : Type 0
BreaksHaveOwners =
    (limit base actor place : ℕ) (filled : List Bool) (before after : Log)
    → IsHistoryOf limit base filled (before ++ break_event actor place ∷ after)
    → (owner_of (runs_of before) place ≡ Some actor) ⊎ Contains before (Mend actor place, replies.Done)

-- a look that comes after a place was filled shows its value
abbrev pub FinishedPlacesAreFound : Type 0
FinishedPlacesAreFound =
    (limit base actor place : ℕ) (filled : List Bool) (old new : Log) (reply : Reply) → Contains old (fill_event actor place)
    → Adds old (((Look 0 place, reply) ∷ []) ∷ []) new → IsHistoryOf limit base filled new → reply ≡ replies.Value place

-- a look shows the value of each place that a word begins with and that has one
abbrev pub OpenedValuesAreFound : Type 0
OpenedValuesAreFound =
    (limit base place : ℕ) (filled : List Bool) (old new : Log) (reply : Reply) → place < base
    → get_or filled place false ≡ true
    → Adds old (((Look 0 place, reply) ∷ []) ∷ []) new → IsHistoryOf limit base filled new → reply ≡ replies.Value place

-- nobody takes such a place for mending
abbrev pub OpenedValuesAreNotMended : Type 0
OpenedValuesAreNotMended =
    (limit base actor place : ℕ) (filled : List Bool) (old new : Log) (reply : Reply) → place < base
    → get_or filled place false ≡ true
    → Adds old (((Mend actor place, reply) ∷ []) ∷ []) new → IsHistoryOf limit base filled new → ⊥

-- each cell of those that a word is opened with is at the first stage of its place
abbrev pub FirstStagesGoInOrder : Type 0
FirstStagesGoInOrder =
    (base : ℕ) (filled : List Bool) (from n i : ℕ) → i < n
    → slice_get (first_stages base filled from n) i ≡ Some (opened_stage base filled (from + i))

-- a look that shows a value comes after the place was filled, if a word did not begin with the place
abbrev pub ShownPlacesAreFinished : Type 0
ShownPlacesAreFinished =
    (limit base place : ℕ) (filled : List Bool) (before after : Log) → base ≤ place
    → IsHistoryOf limit base filled (before ++ (Look 0 place, replies.Value place) ∷ after)
    → (actor : ℕ) × Contains before (fill_event actor place)

-- if one history goes on from each of two others, one of these goes on from the other
abbrev pub HistoriesAreOne : Type 0
HistoriesAreOne = (a b all : Log) → IsPrefix a all → IsPrefix b all → IsPrefix a b ⊎ IsPrefix b a

-- a step that fills n begun cells adds a fill of each place, in order, by the claim whose index their run has
abbrev pub BegunRunsAreFilled : Type 0
BegunRunsAreFilled =
    (limit index place n : ℕ) → fills_by limit index place (replicate n (Begun, Filled)) ≡ fill_steps index place n

-- the places that a step on a run begins are those of the run
abbrev pub BegunPlacesAreOfTheRun : Type 0
BegunPlacesAreOfTheRun = (place n q : ℕ) → Contains (places_back place n) q → (place ≤ q) × (q < place + n)

-- of a run that a step adds, the hand knows no place begun
abbrev pub AddedPlacesAreNotBegun : Type 0
AddedPlacesAreNotBegun =
    (old new : HandView) (run : Run) (place : ℕ) → SeesBegun old → KeepsCells old new → AddsRun old new run
    → IsPlaceOf run place → Contains new.begun place → ⊥
