-- What an option has that has something.
use mathlib.Core.Path.{◌≡◌, refl, subst}
use mathlib.Core.Bool.{Bool, true, false}
use Rattle.core.specs.declared.option.Option.{Option}
use Rattle.core.specs.declared.option.Option.TheVariants.{Some, None}
use Rattle.std.specs.Prelude.{IsSome}

abbrev not_true : Bool → Type 0
not_true true = ⊥
not_true false = Unit {0}

pub there_of : {X : Type 0} (o : Option X) → IsSome o → X
there_of (Some x) t = x
there_of None t = absurd (subst not_true t tt)

pub is_there : {X : Type 0} (o : Option X) (t : IsSome o) → o ≡ Some (there_of o t)
unfolding there_of
is_there (Some x) t = refl
is_there None t = absurd (subst not_true t tt)
