use Rattle.std.proofs.Common.{rules, ◌≤◌, ◌∙◌}
use Rattle.grow_core.proofs.FinishedPlaces.{finished_mend, mend_after, not_past, opened_mended}
use Rattle.grow_core.proofs.vector.Shared.mend.Goals as goal

pub returns-then-place-size-clause-finished : goal.returns-then-place-size-clause-finished
returns-then-place-size-clause-finished g c done =
    let past : c.size_past-size.result ≤ c.args.place = search rules in
    absurd (not_past c.args.hand.now c.size_past-size.new.hand c.args.place done c.laws.ensures.history c.finished_places_are_found.ensures c.size_past-size.result (c.size_past-size.ensures.past past))

pub returns-clause-mends : goal.returns-clause-mends
returns-clause-mends g c =
    mend_after c.args.self.now c.args.place c.args.hand.now c.size_past-size.new.hand c.mend_seen-mended.new.hand c.size_past-size.ensures.goes_on c.mend_seen-mended.result c.mend_seen-mended.ensures.mends

pub returns-clause-finished : goal.returns-clause-finished
returns-clause-finished g c done =
    finished_mend c.finished_places_are_found.ensures c.args.self.now c.args.place c.args.hand.now c.mend_seen-mended.new.hand done c.laws-4.ensures.history c.mend_seen-mended.result
    (mend_after c.args.self.now c.args.place c.args.hand.now c.size_past-size.new.hand c.mend_seen-mended.new.hand c.size_past-size.ensures.goes_on c.mend_seen-mended.result c.mend_seen-mended.ensures.mends)

-- a value of the opened list is found at its place
pub returns-clause-opened : goal.returns-clause-opened
returns-clause-opened g c x is =
    opened_mended c.args.self.now c.args.place x is c.laws-2.ensures.opened c.laws-2.ensures.filled c.args.hand.now c.mend_seen-mended.new.hand
    (c.mend_seen-mended.ensures.finds.keeps.own.of ∙ c.size_past-size.ensures.seen.own.of ∙ c.requires.ours) c.laws-4.ensures.history
    c.opened_values_are_found.ensures.found c.opened_values_are_found.ensures.not_mended c.mend_seen-mended.result (returns-clause-mends g c)
    (c.mend_seen-mended.ensures.opened x is) c.mend_seen-mended.ensures.refused
