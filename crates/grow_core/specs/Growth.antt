-- What a growth of n places leaves, won or refused.
use Rattle.std.specs.Prelude.{◌≡◌, ℕ, ◌+◌, ◌<◌, ◌≤◌, List, length}
use Rattle.claim_core.specs.declared.run.Run.{Run}
use Rattle.claim_core.specs.Hand.{HandView, AddsRun, OwnsRun, SeesSize, IsWholeHand, seen_size}
pub use Rattle.claim_core.specs.Hand.{single}
use Rattle.grow_core.specs.declared.errors.GrowError.{GrowError}
use Rattle.grow_core.specs.declared.errors.GrowError.TheVariants.{NoMemory, Full, Moved, Refused, Taken}
use Rattle.grow_core.specs.Vector.{VectorView, IsPlacedOf, SeesMore, limit_of}
use Rattle.grow_core.specs.Token.{PlacedView}
use Rattle.grow_core.specs.Grown.{GrownView, IsGrownOf, values_of}

-- the growth won the run: it is the hand's own, or it is empty, and begins at the size that the hand has seen
pub record Grows (old new : HandView) (run : Run) : Type 0 where
  pub claimed : 0 < run.n → AddsRun old new run
  pub empty : run.n ≡ 0 → SeesSize old new run.from

-- a push won: the place is the hand's own, and its token has the value
pub record WonPlace {T : Type 0} (vector : VectorView T) (given : T) (old new : HandView)
    (placed : PlacedView T) : Type 0 where
  pub run : AddsRun old new (single placed.place)
  pub owned : OwnsRun new (single placed.place)
  pub not_below : seen_size old ≤ placed.place
  pub alone : IsWholeHand old → placed.place ≡ seen_size old
  pub token : IsPlacedOf vector placed
  pub value : placed.value ≡ given

-- a growth won: the run is the hand's own, and the tokens of its places have the values, in order
pub record WonRun {T : Type 0} (vector : VectorView T) (given : List T) (old new : HandView)
    (grown : GrownView T) : Type 0 where
  pub n : grown.run.n ≡ length given
  pub run : Grows old new grown.run
  pub owned : 0 < grown.run.n → OwnsRun new grown.run
  pub not_below : seen_size old ≤ grown.run.from
  pub alone : IsWholeHand old → grown.run.from ≡ seen_size old
  pub tokens : IsGrownOf vector grown
  pub values : values_of grown ≡ given

-- a growth of `wanted` places won without tokens: the run is the hand's own
pub record WonPlaces (wanted : ℕ) (old new : HandView) (won : Run) : Type 0 where
  pub n : won.n ≡ wanted
  pub run : Grows old new won
  pub owned : 0 < won.n → OwnsRun new won
  pub not_below : seen_size old ≤ won.from
  pub alone : IsWholeHand old → won.from ≡ seen_size old

-- the hand owns one more run, of n places, and the first of them have the values that were made. The run
-- begins at or above the size that the hand had seen, and there when the hand is whole
pub record KeepsMade {T : Type 0} (vector : VectorView T) (n : ℕ) (old new : HandView) (run : Run)
    (made : GrownView T) : Type 0 where
  pub claimed : AddsRun old new run
  pub all : run.n ≡ n
  pub not_below : seen_size old ≤ run.from
  pub alone : IsWholeHand old → run.from ≡ seen_size old
  pub first : made.run.from ≡ run.from
  pub fewer : made.run.n < n
  pub tokens : IsGrownOf vector made

-- what the hand has seen leaves no room for n more places
abbrev pub HasNoRoom : {T : Type 0} → VectorView T → ℕ → HandView → Type 0
HasNoRoom vector n hand = limit_of vector < seen_size hand + n

-- another caller claimed first: the size is above what the hand had seen, and there is still room. A whole
-- hand is alone
pub record IsOvertaken {T : Type 0} (vector : VectorView T) (n : ℕ) (old : HandView) (size : ℕ) : Type 0 where
  pub further : seen_size old < size
  pub room : size + n ≤ limit_of vector
  pub others : ¬ IsWholeHand old

-- what the hand has seen leaves room for n more places
abbrev pub HasRoom : {T : Type 0} → VectorView T → ℕ → HandView → Type 0
HasRoom vector n hand = seen_size hand + n ≤ limit_of vector

-- nothing of the hand has changed but what it has seen, and that leaves room still
pub record LacksMemory {T : Type 0} (vector : VectorView T) (n : ℕ) (old new : HandView) : Type 0 where
  pub more : SeesMore old new
  pub room : HasRoom vector n new

-- when each refusal comes, by what the hand had seen before the call. No place of a run that a hand has won is taken
abbrev pub IsDue : {T V E : Type 0} → VectorView T → ℕ → HandView → GrowError T V E → Type 0
IsDue vector n old (NoMemory back) = HasRoom vector n old
IsDue vector n old (Full size back) = limit_of vector < size + n
IsDue vector n old (Moved size back) = IsOvertaken vector n old size
IsDue vector n old (Refused run made cause) = Unit {0}
IsDue vector n old (Taken place found) = ⊥

-- what each refusal leaves of the hand, and shows of the vector
abbrev pub Leaves : {T V E : Type 0} → VectorView T → ℕ → HandView → HandView → GrowError T V E → Type 0
Leaves vector n old new (NoMemory back) = LacksMemory vector n old new
Leaves vector n old new (Full size back) = SeesSize old new size
Leaves vector n old new (Moved size back) = SeesSize old new size
Leaves vector n old new (Refused run made cause) = KeepsMade vector n old new run made
Leaves vector n old new (Taken place found) = ⊥

-- a refusal that claims nothing gives back what was moved in
abbrev pub GivesBack : {T V E : Type 0} → V → GrowError T V E → Type 0
GivesBack value (NoMemory back) = back ≡ value
GivesBack value (Full size back) = back ≡ value
GivesBack value (Moved size back) = back ≡ value
GivesBack value (Refused run made cause) = Unit {0}
GivesBack value (Taken place found) = Unit {0}

-- a growth of n places was refused: when this refusal comes, what it leaves of the hand, and what comes back
pub record Refuses {T V E : Type 0} (vector : VectorView T) (n : ℕ) (given : V) (old new : HandView)
    (refusal : GrowError T V E) : Type 0 where
  pub some_places : 0 < n
  pub due : IsDue vector n old refusal
  pub left : Leaves vector n old new refusal
  pub back : GivesBack given refusal

-- the refusal is that there is no room
abbrev pub SaysFull : {T V E : Type 0} → GrowError T V E → Type 0
SaysFull (Full size back) = Unit {0}
SaysFull refusal = ⊥

-- nothing was claimed
abbrev pub ClaimsNothing : {T V E : Type 0} → GrowError T V E → Type 0
ClaimsNothing (Refused run made cause) = ⊥
ClaimsNothing (Taken place found) = ⊥
ClaimsNothing refusal = Unit {0}

-- the call does not stop at a lost exchange
abbrev pub IsNotMoved : {T V E : Type 0} → GrowError T V E → Type 0
IsNotMoved (Moved size back) = ⊥
IsNotMoved refusal = Unit {0}
