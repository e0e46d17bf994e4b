use Rattle.std.proofs.Common.{rules}
use Rattle.grow_core.proofs.Made.{won_clones, made_clones}
use Rattle.grow_core.proofs.vector.Shared.grow_by.Goals as goal

pub returns-clause-won : goal.returns-clause-won
returns-clause-won g c =
    won_clones _ g.T.Clone.is_clone c.args.value.now _ (λ i x next call. search rules) c.args.self.now c.args.n c.args.hand.now c.grow_with.new.hand c.grow_with.result c.grow_with.ensures.won

pub returns-clause-made : goal.returns-clause-made
returns-clause-made g c =
    made_clones _ (g.T.Clone.is_clone c.args.value.now) _ c.args.self.now c.args.n c.args.hand.now c.grow_with.new.hand c.grow_with.result
    c.grow_with.ensures.won c.grow_with.ensures.cause (λ i x next call. search rules)
