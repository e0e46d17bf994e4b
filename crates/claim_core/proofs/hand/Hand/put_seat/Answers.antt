use Rattle.std.proofs.Common.{ℕ, sym, subst}
use Rattle.claim_core.specs.Seat.{floor_in, IsHeld}
use Rattle.claim_core.proofs.Badges.{kept_seat, puts, share_is}
use Rattle.claim_core.proofs.hand.Hand.put_seat.Goals as goal

pub invariant_of-self : goal.invariant_of-self
invariant_of-self c =
    let i = c.self.inside in
    let share = share_is (floor_in i.floor.numbers) i.badge.table_id i.badge.views i.shares i.seen _ c.self.invariant c.self.view_is in
    kept_seat (subst (λ (s : ℕ). IsHeld c.args.seat s c.args.seen) (sym share) c.requires) c.into_badge.ensures.2

pub returns : goal.returns
returns c =
    let i = c.self.inside in
    puts (floor_in i.floor.numbers) i.badge.table_id i.badge.views i.shares i.seen _ c.self.invariant c.self.view_is
    _ _ _ _ c.args.seat c.into_badge.ensures.0 c.into_badge.ensures.2
