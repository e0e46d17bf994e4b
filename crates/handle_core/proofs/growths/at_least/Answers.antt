use Rattle.std.proofs.Common.{rules, subst}
use Rattle.handle_core.specs.Calls.{HasLastElement}
use Rattle.handle_core.proofs.Made.{last_of}
use Rattle.handle_core.proofs.growths.at_least.Goals as goal

pub returns-in-Ok-clause-last : goal.returns-in-Ok-clause-last
returns-in-Ok-clause-last g c =
    let e = c.new-elements.result in
    subst (λ words. HasLastElement g.E.Element.element_of g.E.Element.width words c.in-Ok.place c.in-Ok.n c.grow_to_at_least.new.self)
    c.new-elements.ensures.words
    (last_of _ g.E.Element.element_of g.E.Element.width e.words.now e.count _ (λ i x next call. search rules)
    c.args.size c.args.caller.now c.grow_to_at_least.new.self c.in-Ok.place c.in-Ok.n e.all c.in-Ok.ensures.grown)
