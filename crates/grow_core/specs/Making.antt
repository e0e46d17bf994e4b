-- What a maker returns, and what a growth leaves whose values a maker makes.
use Rattle.std.specs.Prelude.{◌≡◌, ℕ, ◌+◌, ◌<◌, ◌≤◌, List, All, Result, Ok, Err, Some, slice_get, length, replicate}
use Rattle.std.specs.List.{FoldsTo}
use Rattle.claim_core.specs.declared.run.Run.{Run}
use Rattle.claim_core.specs.Hand.{HandView, OwnsRun, IsWholeHand, seen_size}
use Rattle.grow_core.specs.declared.errors.GrowError.{GrowError}
use Rattle.grow_core.specs.declared.errors.GrowError.TheVariants.{Refused, Taken}
use Rattle.grow_core.specs.Vector.{VectorView, limit_of}
use Rattle.grow_core.specs.Keys.{OwnsPlacesOf}
use Rattle.grow_core.specs.Grown.{GrownView, IsGrownOf, values_of}
use Rattle.grow_core.specs.Growth.{Grows, WonRun}

-- asked for 0, 1, .. in turn, the maker made these values, and is then the last one. A step of it has the
-- maker before, the number, the result and the maker after
abbrev pub Makes : {F T E : Type 0} → (F → ℕ → Result T E → F → Type 0) → F → List T → F → Type 0
Makes {F} step maker values last =
    FoldsTo {P = ℕ × F} (λ p x q. (q.0 ≡ p.0 + 1) × step p.1 p.0 (Ok x) q.1) (0, maker) values (length values, last)

-- the first of the values that a maker made is its result for 0
abbrev pub FirstIsForZero : {F T E : Type 0} → (F → ℕ → Result T E → F → Type 0) → Type 0
FirstIsForZero {F} {T} step =
    (maker : F) (values : List T) (last : F) (x : T) → Makes step maker values last → slice_get values 0 ≡ Some x
    → (next : F) × step maker 0 (Ok x) next

-- the maker made these values, its next result was the cause, and it is then `end`: it was not asked again
abbrev pub StopsAt : {F T E : Type 0} → (F → ℕ → Result T E → F → Type 0) → F → List T → E → F → Type 0
StopsAt {F} step maker values cause end =
    (last : F) × Makes step maker values last × step last (length values) (Err cause) end

-- the maker made these values, and its next result was the cause
abbrev pub StopsAfter : {F T E : Type 0} → (F → ℕ → Result T E → F → Type 0) → F → List T → E → Type 0
StopsAfter {F} step maker values cause =
    (last : F) × Makes step maker values last × ((end : F) × step last (length values) (Err cause) end)

-- what a refused growth leaves of its maker: it was asked up to its refusal, or not at all
abbrev pub LeavesMaker : {F T V E : Type 0} → (F → ℕ → Result T E → F → Type 0) → F → F → GrowError T V E → Type 0
LeavesMaker step maker end (Refused run made cause) = StopsAt step maker (values_of made) cause end
LeavesMaker step maker end (Taken place found) = ⊥
LeavesMaker step maker end refusal = end ≡ maker

-- a growth of `wanted` places won: its values are what the maker returned for 0, 1, 2 and so on
pub record WonMade {F T E : Type 0} (step : F → ℕ → Result T E → F → Type 0) (maker : F) (vector : VectorView T)
    (wanted : ℕ) (old new : HandView) (grown : GrownView T) : Type 0 where
  pub won : WonRun vector (values_of grown) old new grown
  pub n : grown.run.n ≡ wanted
  pub made : (last : F) × Makes step maker (values_of grown) last

-- a growth of `wanted` places won: its values are clones of the given one, and they are the given one if a
-- clone equals its original
pub record WonClones {T : Type 0} (is_clone : T → T → Type 0) (given : T) (vector : VectorView T) (wanted : ℕ)
    (old new : HandView) (grown : GrownView T) : Type 0 where
  pub won : WonRun vector (values_of grown) old new grown
  pub n : grown.run.n ≡ wanted
  pub clones : All (is_clone given) (values_of grown)
  pub same : ((x : T) → is_clone given x → x ≡ given) → values_of grown ≡ replicate wanted given

-- a refused construction carries the values that were made before it, and its cause
abbrev pub IsRefusedBy : {T V E : Type 0} → (List T → E → Type 0) → GrowError T V E → Type 0
IsRefusedBy is_end (Refused run made cause) = is_end (values_of made) cause
IsRefusedBy is_end refusal = Unit {0}

-- the hand has claimed a run of `wanted` places, or has none to claim
pub record IsClaimed {T : Type 0} (vector : VectorView T) (wanted : ℕ) (old new : HandView) (run : Run) : Type 0 where
  pub n : run.n ≡ wanted
  pub grows : Grows old new run
  pub owned : 0 < run.n → OwnsRun new run
  pub places : OwnsPlacesOf new run
  pub not_below : seen_size old ≤ run.from
  pub alone : IsWholeHand old → run.from ≡ seen_size old
  pub within : run.from + run.n ≤ limit_of vector

-- a run that is claimed could not be filled: a construction was refused
abbrev pub StopsIn : {T V E : Type 0} → VectorView T → Run → GrowError T V E → Type 0
StopsIn vector run (Refused of made cause) =
    (of ≡ run) × (made.run.from ≡ run.from) × (made.run.n < run.n) × IsGrownOf vector made
StopsIn vector run refusal = ⊥

-- if a construction was refused, that was after this number of values
abbrev pub IsRefusedAfter : {T V E : Type 0} → ℕ → GrowError T V E → Type 0
IsRefusedAfter n (Refused run made cause) = made.run.n ≡ n
IsRefusedAfter n refusal = Unit {0}
