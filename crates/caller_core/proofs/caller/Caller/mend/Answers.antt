use Rattle.std.proofs.Common.{subst}
use Rattle.claim_core.specs.History.{Adds}
use Rattle.grow_core.specs.Logs.{mend_steps}
use Rattle.grow_core.specs.Mend.{IsMendDue}
use Rattle.grow_core.specs.Vector.{limit_of}
use Rattle.caller_core.specs.Caller.{CallerView}
use Rattle.caller_core.proofs.caller.Caller.mend.Goals as goal

pub returns-in-Ok-clause-mends : goal.returns-in-Ok-clause-mends
returns-in-Ok-clause-mends g c =
    subst (λ (w : CallerView _). Adds w.hand.log (mend_steps (limit_of w.vector) c.args.place) c.mend.new.hand.log)
    c.self.view_is
    (subst (λ h. Adds c.self.inside.hand.log (mend_steps (limit_of h.vector) c.args.place) c.mend.new.hand.log)
    c.deref.ensures c.in-Ok.ensures.mends)

pub returns-in-Err-clause-refused : goal.returns-in-Err-clause-refused
returns-in-Err-clause-refused g c =
    subst (λ (w : CallerView _). IsMendDue w.vector c.args.place w.hand c.mend.new.hand c.in-Err.refused.0)
    c.self.view_is
    (subst (λ h. IsMendDue h.vector c.args.place c.self.inside.hand c.mend.new.hand c.in-Err.refused.0)
    c.deref.ensures c.in-Err.ensures.refused)
