-- What the calls leave of a caller that append several values, mend, look, and open a list again.
use Rattle.std.specs.Prelude.{◌≡◌, ℕ, ◌+◌, ◌-◌, ◌<◌, ◌≤◌, List, [], ◌∷◌, Option, Some, None, Result, length, slice_get}
use Rattle.claim_core.specs.declared.run.Run.{Run}
use Rattle.claim_core.specs.Hand.{HandView, IsWholeHand, SeesSize, seen_size}
use Rattle.claim_core.specs.History.{AddsEvents, enough_event, raise_event}
use Rattle.grow_core.specs.Vector.{VectorView, SeesMore, limit_of, layout_of}
use Rattle.grow_core.specs.Token.{PlacedView}
use Rattle.grow_core.specs.Grown.{GrownView, values_of}
use Rattle.grow_core.specs.Growth.{WonRun, WonPlaces}
use Rattle.grow_core.specs.Making.{WonMade}
use Rattle.grow_core.specs.Logs.{Fate, AllFilled, LogsGrowth, LogsWin}
use Rattle.grow_core.specs.Closing.{KeepsValues}
use Rattle.grow_core.specs.Slices.{IsInOneSegment}
use Rattle.quiet_core.specs.QuietList.{QuietList}
use Rattle.caller_core.specs.Caller.{CallerView, HasLast}

-- after a growth of this run the last token is of its last place, and has the last of its values; without a place it is
-- as it was
pub record TellsLast {T : Type 0} (grown : GrownView T) (old new : Option (PlacedView T)) : Type 0 where
  pub none : grown.run.n ≡ 0 → new ≡ old
  pub some : (x : T) → slice_get (values_of grown) (grown.run.n - 1) ≡ Some x
      → HasLast (grown.run.from + (grown.run.n - 1)) x new

-- a growth won the places from this one on and filled them with these values, in order
pub record GrowsBy {T : Type 0} (values : List T) (old new : CallerView T) (place : ℕ) : Type 0 where
  pub grown : GrownView T
  pub here : grown.run.from ≡ place
  pub won : WonRun old.vector values old.hand new.hand grown
  pub last : TellsLast grown old.last new.last

-- the same of n values that a maker returned for 0, 1, 2 and so on
pub record GrowsMade {F T E : Type 0} (step : F → ℕ → Result T E → F → Type 0) (maker : F) (n : ℕ)
    (old new : CallerView T) (place : ℕ) : Type 0 where
  pub grown : GrownView T
  pub here : grown.run.from ≡ place
  pub won : WonMade step maker old.vector n old.hand new.hand grown
  pub last : TellsLast grown old.last new.last

-- there is no place
abbrev pub IsNoPlace : ℕ → Type 0
IsNoPlace n = n ≡ 0

-- a growth up to a size won n places from this one on, which end there; or the size was large enough, and n is 0
pub record GrowsUpTo {F T E : Type 0} (step : F → ℕ → Result T E → F → Type 0) (maker : F) (size : ℕ)
    (old new : CallerView T) (place n : ℕ) : Type 0 where
  pub some : 0 < n → (place + n ≡ size) × GrowsMade step maker n old new place
  pub none : n ≡ 0 → (size ≤ place) × SeesSize old.hand new.hand place × (new.last ≡ old.last)

-- a growth won n places from this one on
pub record WinsPlaces {T : Type 0} (n : ℕ) (old new : CallerView T) (place : ℕ) : Type 0 where
  pub run : Run
  pub here : run.from ≡ place
  pub won : WonPlaces n old.hand new.hand run

-- the history gets the claim of n places from this one on, and what became of each
abbrev pub LogsRunFrom : Fate → ℕ → HandView → HandView → ℕ → Type 0
LogsRunFrom fate n old new place = LogsGrowth fate old new (record { from = place; n = n })

-- it gets the claim up to a size of n places from this one on, and their fills; or that the size, which this is, was enough
pub record LogsUpTo (size : ℕ) (old new : HandView) (place n : ℕ) : Type 0 where
  pub some : 0 < n
      → LogsWin (λ index. raise_event index size (record { from = place; n = n })) AllFilled (record { from = place; n = n }) old new
  pub none : n ≡ 0 → AddsEvents old.log (enough_event size place ∷ []) new.log

-- the caller mended the place: its last token has the place and the value
pub record Mends {T : Type 0} (place : ℕ) (value : T) (old new : CallerView T) : Type 0 where
  pub last : HasLast place value new.last
  pub below : place < seen_size new.hand
  pub hand : SeesMore old.hand new.hand

-- there are n places of one segment from this one on, at least one
pub record AreSideBySide {T : Type 0} (vector : VectorView T) (place n : ℕ) : Type 0 where
  pub some : 0 < n
  pub within : place + n ≤ limit_of vector
  pub segment : IsInOneSegment (layout_of vector) place n

-- the caller has a vector that was opened on the list, and all its shares
pub record OpensList {T : Type 0} (list : QuietList T) (caller : CallerView T) : Type 0 where
  pub opened : caller.vector.opened ≡ list.members
  pub limit : limit_of caller.vector ≡ list.limit
  pub layout : layout_of caller.vector ≡ list.layout
  pub whole : IsWholeHand caller.hand
  pub seen : seen_size caller.hand ≡ length list.members
  pub last : caller.last ≡ None

-- the list is as long as the old one, with each of its values, and has the same limit and segments
pub record IsSameList {T : Type 0} (old new : QuietList T) : Type 0 where
  pub len : length new.members ≡ length old.members
  pub values : KeepsValues old.members new.members
  pub limit : new.limit ≡ old.limit
  pub layout : new.layout ≡ old.layout
