use Rattle.grow_core.proofs.Places.{broken_at}
use Rattle.grow_core.proofs.parts.Parts.get.Goals as goal

pub member-requires-clause-epoch : goal.member-requires-clause-epoch
member-requires-clause-epoch g c = broken_at c.self.inside.epoch c.self.inside.row c.args.place c.at.result c.self.invariant.2 c.at.ensures
