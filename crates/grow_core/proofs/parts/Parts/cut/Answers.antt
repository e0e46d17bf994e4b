use Rattle.std.proofs.Common.{length}
use Rattle.grow_core.proofs.Places.{none_spare}
use Rattle.grow_core.proofs.parts.Parts.cut.Goals as goal

pub returns-clause-least : goal.returns-clause-least
returns-clause-least g c = λ k below. none_spare c.loop-self.self.layout c.loop-self.self.segments k (length c.loop-self.self.members) (λ spare. c.has_spare.ensures.none c.loop-self-test.false spare) below
