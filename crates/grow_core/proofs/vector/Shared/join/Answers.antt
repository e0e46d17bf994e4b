use Rattle.std.proofs.Common.{◌≡◌, subst}
use Rattle.claim_core.specs.Hand.{HandView, OwnApart}
use Rattle.grow_core.proofs.Entries.{rows_of_either}
use Rattle.grow_core.proofs.KeyRows.{keyed_joins}
use Rattle.grow_core.proofs.vector.Shared.join.Goals as goal

pub returns-clause-apart : goal.returns-clause-apart
returns-clause-apart g c =
    subst (λ (h : HandView). OwnApart h c.args.other) c.hand.view_is
    (subst (λ (h : HandView). OwnApart c.hand.inside.claims h) c.other.view_is c.join.ensures.apart)

pub invariant_of-hand : goal.invariant_of-hand
invariant_of-hand g c =
    let joined = c.join.ensures in
    let put = c.put_keys.ensures in
    let a = c.hand.inside.claims in let b = c.other.inside.claims in let new = c.join.new.hand in
    let also : new.of ≡ b.of = cc (joined.of, c.requires.ours, c.requires.also_ours, c.hand.view_is, c.other.view_is) in (
      keyed_joins c.joined_places_are_of_either.ensures a b new _ _ _ c.laws.ensures.below c.laws-2.ensures.below
          joined.of also joined.begins joined.also_begins joined.mine c.hand.invariant.0 c.other.invariant.0 put.keys put.kept put.put,
      rows_of_either a b new joined.cells joined.of also c.hand.inside.keys c.other.inside.keys c.put_keys.new.row put.either c.hand.invariant.1 c.other.invariant.1,
    )
