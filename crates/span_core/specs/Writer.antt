-- A vector and a hand of it, as one value.
use Rattle.std.specs.Prelude.{◌≡◌, ℕ, zero, suc, ◌+◌, List, ◌++◌, Option, Some, None, length}
use Rattle.std.specs.Iterator.{Drains, YieldsThen}
use mathlib.Core.List.{IsPrefix}
use base.Stored.{Coded, coded×, coded_via}
use Rattle.claim_core.specs.Word.{WordView}
use Rattle.claim_core.specs.Hand.{HandView, AddsRun, hand_coded, own_places, single}
use Rattle.grow_core.specs.Vector.{VectorView, vector_coded}
use Rattle.grow_core.specs.Growth.{Refuses}
use Rattle.grow_core.specs.Logs.{LogsNothing, LogsPush, LogsRefusal}
use Rattle.grow_core.specs.declared.errors.GrowError.{GrowError}

-- the vector, and the hand of it
pub record WriterView (T : Type 0) : Type 0 where
  pub vector : VectorView T
  pub hand : HandView

-- how that is stored
abbrev pub writer_coded : {T : Type 0} → Coded T → Coded (WriterView T)
writer_coded {T} c =
    coded_via (coded× (vector_coded c) hand_coded) (λ (w : WriterView T). (w.vector, w.hand))
    (λ x y e i. record { vector = (e i).0; hand = (e i).1 })

-- a writer whose type allows one word alone is of a vector with that word
abbrev pub IsTied : {T : Type 0} → Option WordView → VectorView T → Type 0
IsTied None vector = Unit {0}
IsTied (Some word) vector = vector.word ≡ word

-- the writer is of the same vector, and its hand has the same shares
pub record KeepsWriter {T : Type 0} (old new : WriterView T) : Type 0 where
  pub vector : new.vector ≡ old.vector
  pub shares : new.hand.shares ≡ old.hand.shares

-- the writer, with this hand
abbrev pub with_hand : {T : Type 0} → WriterView T → HandView → WriterView T
with_hand writer hand = record writer { hand = hand }

-- the hand owns n more places, which it won one at a time, and keeps its word and its shares
pub record AddsPlaces (old new : HandView) (n : ℕ) : Type 0 where
  pub of : new.of ≡ old.of
  pub shares : new.shares ≡ old.shares
  pub seen : IsPrefix old.seen new.seen
  pub mine : (added : List ℕ) × (new.mine ≡ added ++ old.mine) × (length added ≡ n)
  pub places : own_places new ≡ own_places old + n

-- an iterator yielded n values and ended, and n places were won, one at a time
abbrev pub AppendsAll : {S T : Type 0} → (S → Option T → S → Type 0) → S → HandView → HandView → ℕ → Type 0
AppendsAll {S} {T} steps items old new n =
    (values : List T) × Drains steps items values × (length values ≡ n) × AddsPlaces old new n

-- it yielded n values, and n places were won; the value that it yielded next was refused
abbrev pub StopsAppending : {S T E : Type 0} → (S → Option T → S → Type 0) → S → VectorView T → HandView
    → HandView → ℕ × GrowError T T E → Type 0
StopsAppending {S} {T} steps items vector old new stop =
    (values : List T) × (value : T) × (rest : S) × (between : HandView)
    × YieldsThen steps items values (Some value) rest × (length values ≡ stop.0)
    × AddsPlaces old between stop.0 × Refuses vector 1 value between new stop.1

-- n pushes: the hand owns one more place after each, and the history gets its claim and its fill
abbrev pub LogsPushes : HandView → HandView → ℕ → Type 0
LogsPushes old new zero = LogsNothing old new
LogsPushes old new (suc n) =
    (mid : HandView) × (place : ℕ) × LogsPushes old mid n × AddsRun mid new (single place)
    × LogsPush mid new place

-- n pushes, and then one that was refused
abbrev pub StopsPushing : {T E : Type 0} → VectorView T → HandView → HandView → ℕ × GrowError T T E → Type 0
StopsPushing {T} vector old new stop =
    (between : HandView) × (value : T) × LogsPushes old between stop.0
    × Refuses vector 1 value between new stop.1 × LogsRefusal 1 between new stop.1
