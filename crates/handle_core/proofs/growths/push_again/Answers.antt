use Rattle.std.proofs.Common.{subst}
use Rattle.caller_core.specs.Caller.{Pushes}
use Rattle.handle_core.proofs.Again.{pushes_after}
use Rattle.handle_core.proofs.growths.push_again.Goals as goal

pub returns-in-Ok-clause-pushed : goal.returns-in-Ok-clause-pushed
returns-in-Ok-clause-pushed g c =
    record {
      done = λ _.
          pushes_after (g.E.Element.element_of c.args.words.now) c.args.caller.now c.loop-try.caller c.push.new.self c.in-Ok.at
          c.loop-try.invariant.0 c.loop-try.invariant.1
          (subst (λ x. Pushes x c.loop-try.caller c.push.new.self c.in-Ok.at) c.loop-try.invariant.2 c.in-Ok.ensures.pushed);
    }

pub returns-in-Ok-push-clause-pushed : goal.returns-in-Ok-push-clause-pushed
returns-in-Ok-push-clause-pushed g c =
    record {
      done = λ _.
          pushes_after (g.E.Element.element_of c.args.words.now) c.args.caller.now c.loop-try.caller c.push-2.new.self c.in-Ok-push.at
          c.loop-try.invariant.0 c.loop-try.invariant.1
          (subst (λ x. Pushes x c.loop-try.caller c.push-2.new.self c.in-Ok-push.at) c.loop-try.invariant.2 c.in-Ok-push.ensures.pushed);
    }
