use Rattle.std.proofs.Common.{subst}
use Rattle.grow_core.specs.Growth.{Refuses}
use Rattle.handle_core.proofs.Again.{pushes_after, trying_self, trying_more}
use Rattle.handle_core.proofs.Codes.{done_as_called}
use Rattle.handle_core.proofs.growths.push_element.Goals as goal

pub returns-in-Err-Moved-clause-pushed : goal.returns-in-Err-Moved-clause-pushed
returns-in-Err-Moved-clause-pushed g c =
    let a = c.args.caller.now in let b = c.push.new.self in
    let refused = subst (λ error. Refuses a.vector 1 c.in-Some.element a.hand b.hand error)
    c.in-Err-Moved.field-0-is c.in-Err-Moved.ensures.refused in
    done_as_called _ _ c.push_again.type_inv
    (record {
      done = λ done.
          pushes_after (g.E.Element.element_of c.args.words.now) a b c.push_again.new.caller c.push_again.new.place
          c.in-Err-Moved.ensures.kept
          (trying_more a.vector 1 c.in-Some.element a.hand a.hand b.hand _ _ (trying_self a.hand) refused)
          (c.push_again.ensures.pushed.done done);
    })
