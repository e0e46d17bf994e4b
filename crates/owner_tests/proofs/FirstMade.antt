-- The first value of a growth that was refused.
use Rattle.std.proofs.Common.{◌≡◌, ℕ, Some, Result, Ok, Err, IfOk, IfErr, slice_get, subst}
use Rattle.grow_core.specs.declared.errors.GrowError.{GrowError}
use Rattle.grow_core.specs.declared.errors.GrowError.TheVariants.{Refused}
use Rattle.grow_core.specs.Hand.{HandView}
use Rattle.grow_core.specs.Vector.{VectorView}
use Rattle.grow_core.specs.Grown.{GrownView, values_of}
use Rattle.grow_core.specs.Making.{FirstIsForZero, StopsAfter, WonMade, IsRefusedBy}

-- it is what every result of the maker for 0 is
pub first_of_refused : {F T V E : Type 0} (step : F → ℕ → Result T E → F → Type 0) (maker : F) (vector : VectorView T) (n : ℕ) (old new : HandView)
    (result : Result (GrownView T) (GrowError T V E)) (run : _) (made : GrownView T) (cause : E) (x : T) (P : T → Type 0)
    → IfOk result (WonMade step maker vector n old new) → IfErr result (IsRefusedBy (StopsAfter step maker)) → FirstIsForZero step
    → result ≡ Err (Refused run made cause) → slice_get (values_of made) 0 ≡ Some x
    → ((y : T) (next : F) → step maker 0 (Ok y) next → P y) → P x
first_of_refused step maker vector n old new result run made cause x P won refused first is here on =
    let stopped : StopsAfter step maker (values_of made) cause = subst (λ r. IfErr r (IsRefusedBy (StopsAfter step maker))) is refused in
    let made_first = first maker (values_of made) stopped.0 x stopped.1 here in
    on x made_first.0 made_first.1
