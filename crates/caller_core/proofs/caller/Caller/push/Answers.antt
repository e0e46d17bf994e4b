use Rattle.std.proofs.Common.{refl, sym, subst}
use Rattle.grow_core.specs.Growth.{WonPlace}
use Rattle.caller_core.specs.Caller.{CallerView}
use Rattle.caller_core.proofs.caller.Caller.push.Goals as goal

pub returns-clause-pushed : goal.returns-clause-pushed
returns-clause-pushed g c =
    record {
      token = c.in_ok-placed.placed;
      last = refl;
      here = sym c.place-place.ensures;
      won =
          subst (λ (w : CallerView _). WonPlace w.vector c.args.value w.hand c.try_push_near.new.hand c.in_ok-placed.placed)
          c.self.view_is
          (subst (λ h. WonPlace h.vector c.args.value c.self.inside.hand c.try_push_near.new.hand c.in_ok-placed.placed)
          c.deref.ensures c.in_ok-placed.ensures.won);
    }
