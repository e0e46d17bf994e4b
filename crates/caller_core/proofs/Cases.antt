-- A token that may be there.
use Rattle.std.specs.Prelude.{Option, Some, None, IfSome, IsSomeAnd}

-- what is there has both properties
pub of_both : {X G : Type 0} {P Q : X → Type 0} (o : Option X) → ((x : X) → P x → Q x → G) → IsSomeAnd o P → IfSome o Q → G
of_both (Some x) k p q = k x p q
of_both None k p q = absurd p
