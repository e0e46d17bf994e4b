use Rattle.std.proofs.Common.{◌≡◌}
use Rattle.caller_core.specs.Caller.{KeepsCaller}
use Rattle.handle_core.proofs.Again.{IsTrying}
use Rattle.handle_core.proofs.growths.push_again.Given as goal

-- each try so far was overtaken, and the element is still there
abbrev pub invariant-loop-try : goal.invariant-loop-try
invariant-loop-try g l =
    KeepsCaller l.fn.caller l.caller
    × IsTrying l.fn.caller.hand l.caller.hand
    × (l.element ≡ g.E.Element.element_of l.fn.words)
