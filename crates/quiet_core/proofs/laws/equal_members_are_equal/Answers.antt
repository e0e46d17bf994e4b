use Rattle.std.proofs.Common.{◌≡◌, true, subst}
use Rattle.std.specs.Option.{option_eq}
use Rattle.std.specs.Cmp.Lexicographic.{lists_equiv, options_equiv, pointwise}
use Rattle.quiet_core.proofs.laws.equal_members_are_equal.Goals as goal

pub returns : goal.returns
returns g c = λ a b same.
    subst (λ members. pointwise (option_eq g.T.PartialEq.eq) a.members members ≡ true) same
    ((lists_equiv (options_equiv g.met.T.Eq.laws)).refl a.members)
