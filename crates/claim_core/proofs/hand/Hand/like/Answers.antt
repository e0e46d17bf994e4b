use Rattle.std.proofs.Common.{ℕ, List, ap, ◌∙◌}
use Rattle.claim_core.specs.Seat.{floor_in, hand_view}
use Rattle.claim_core.proofs.Badges.{floor_is}
use Rattle.claim_core.proofs.hand.Hand.like.Goals as goal

pub returns : goal.returns
returns c =
    let i = c.self.inside in
    let floor = floor_is (floor_in i.floor.numbers) i.badge.table_id i.badge.views i.shares i.seen _ c.self.invariant c.self.view_is in
    c.around.ensures
    ∙ ap (λ (f : ℕ). hand_view f c.args.seat) (ap (λ (ns : List ℕ). floor_in ns) c.again.ensures.0 ∙ floor)
