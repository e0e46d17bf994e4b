use Rattle.std.proofs.Common.{◌+◌, arith, subst, sym, length}
use Rattle.race_core.specs.Race.{IsWinOf}
use Rattle.race_core.proofs.Wins.{LeadsTo, leads_on}
use Rattle.race_core.proofs.history.history_of.Goals as goal

pub loop-slot-preserved : goal.loop-slot-preserved
loop-slot-preserved c =
    let i = c.loop-slot.slot-index in
    let n = length c.args.slots.now in
    let here = subst (IsWinOf i) c.in-Some.is (c.requires.places.1 i c.loop-slot-test.true) in
    subst (λ h. LeadsTo n h (i + 1)) (sym c.in_ok-push_events.ensures)
    (leads_on c.histories_split.ensures c.claims_append.ensures c.owners_write.ensures.fill n i c.loop-slot.history.items c.in-Some.win c.loop-slot.invariant here (omega (arith, c.loop-slot-test.true)))
