use Rattle.claim_core.specs.Seat.{floor_in}
use Rattle.claim_core.proofs.Badges.{sound_whole}
use Rattle.claim_core.proofs.Tiles.{all_tile}
use Rattle.claim_core.proofs.hand.Hand.whole_laws.Goals as goal

pub returns-clause-all : goal.returns-clause-all
returns-clause-all c =
    let i = c.self.inside in
    (sound_whole (floor_in i.floor.numbers) i.badge.table_id i.badge.views i.shares i.seen _ c.self.invariant c.self.view_is c.requires.whole).all

pub returns-clause-size : goal.returns-clause-size
returns-clause-size c =
    let i = c.self.inside in
    (sound_whole (floor_in i.floor.numbers) i.badge.table_id i.badge.views i.shares i.seen _ c.self.invariant c.self.view_is c.requires.whole).size

pub returns-clause-claims : goal.returns-clause-claims
returns-clause-claims c =
    let i = c.self.inside in
    (sound_whole (floor_in i.floor.numbers) i.badge.table_id i.badge.views i.shares i.seen _ c.self.invariant c.self.view_is c.requires.whole).claims

pub returns-clause-tiles : goal.returns-clause-tiles
returns-clause-tiles c =
    let i = c.self.inside in
    all_tile _ _ _
    (sound_whole (floor_in i.floor.numbers) i.badge.table_id i.badge.views i.shares i.seen _ c.self.invariant c.self.view_is c.requires.whole).all
