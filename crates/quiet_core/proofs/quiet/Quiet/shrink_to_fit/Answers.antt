use Rattle.std.proofs.Common.{◌≡◌, ◌≤◌, ℕ, length, ap, ◌∙◌, subst}
use Rattle.seg_core.specs.Segment.{segment_start}
use Rattle.grow_core.specs.Parts.{PartsView}
use Rattle.quiet_core.specs.QuietList.{QuietList, IsCapacityFor}
use Rattle.quiet_core.proofs.Whole.{fewest_left}
use Rattle.quiet_core.proofs.quiet.Quiet.shrink_to_fit.Goals as goal

pub returns-clause-capacity : goal.returns-clause-capacity
returns-clause-capacity g c =
    let after = c.cut.new.self in
    let same : length after.members ≡ length c.args.self.now.members = ap length (ap (λ (p : PartsView _). p.members) c.cut.ensures.rest_kept ∙ ap (λ (q : QuietList g.row.T.Denot). q.members) c.self.view_is) in
    let layout : after.layout ≡ c.args.self.now.layout = ap (λ (p : PartsView _). p.layout) c.cut.ensures.rest_kept ∙ ap (λ (q : QuietList g.row.T.Denot). q.layout) c.self.view_is in
    let room : length after.members ≤ segment_start after.layout after.segments = subst (λ (n : ℕ). length after.members ≤ n) c.capacity-room.ensures.value c.capacity-room.ensures.room in
    subst (λ (u : ℕ × ℕ). IsCapacityFor u.0 u.1 (segment_start after.layout after.segments)) (λ i. (layout i, same i))
    (fewest_left after.layout (length after.members) after.segments room c.cut.ensures.least)
