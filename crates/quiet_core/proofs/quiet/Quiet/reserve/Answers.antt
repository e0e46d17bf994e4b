use Rattle.std.proofs.Common.{◌≡◌, ℕ, ◌<◌, OnOk, OnErr, sym, ap, ◌∙◌, subst, arith}
use Rattle.std.proofs.lemmas.Bool.Decides.{nat_tests}
use Rattle.seg_core.specs.Segment.{segment_start}
use Rattle.grow_core.specs.Parts.{PartsView}
use Rattle.grow_core.proofs.Places.{starts_le}
use Rattle.quiet_core.specs.QuietList.{QuietList, IsCapacityFor, GrowsFor, IsUnchanged, list_of}
use Rattle.quiet_core.proofs.Whole.{grown_for}
use Rattle.quiet_core.proofs.quiet.Quiet.reserve.Goals.{in-Ok, in-Err}
use Rattle.quiet_core.proofs.quiet.Quiet.reserve.Goals as goal

pub returns-clause-capacity : goal.returns-clause-capacity
returns-clause-capacity g c =
    let old = c.self.inside.parts in let new = c.room.new.self in let f : ℕ = old.layout in
    let layout : f ≡ c.args.self.now.layout = ap (λ (q : QuietList g.row.T.Denot). q.layout) c.self.view_is in
    let had : segment_start f old.segments ≡ c.args.self.now.capacity = ap (λ (q : QuietList g.row.T.Denot). q.capacity) c.self.view_is in
    let now : segment_start f new.segments ≡ segment_start new.layout new.segments = ap (λ (l : ℕ). segment_start l new.segments) (sym (ap (λ (p : PartsView _). p.layout) c.room.ensures.rest_kept)) in
    let test : c.capacity.result < c.places_for.result = grind (arith, nat_tests) in
    let value = c.capacity.ensures.value in
    let fewest : IsCapacityFor f c.args.n c.places_for.result = subst (λ (l : ℕ). IsCapacityFor l c.args.n c.places_for.result) (c.layout.ensures ∙ sym layout) c.places_for.ensures in
    elim c.match-room.branch [
      | in-Ok w ↦ let room = w.in-Ok.ensures.room in
          subst (λ r. OnOk r (GrowsFor c.args.self.now.layout c.args.n c.args.self.now.capacity (segment_start new.layout new.segments))) (sym w.result-is)
          (subst (λ (u : ℕ × ℕ × ℕ). GrowsFor u.0 c.args.n u.1 u.2) (λ i. (layout i, had i, now i))
          (grown_for f c.args.n old.segments new.segments c.places_for.result fewest (omega (arith, test, value, had)) (omega (arith, room, now)) c.room.ensures.least))
      | in-Err w ↦ subst (λ r. OnOk r (GrowsFor c.args.self.now.layout c.args.n c.args.self.now.capacity (segment_start new.layout new.segments))) (sym w.result-is) tt
    ]

pub returns-clause-unchanged : goal.returns-clause-unchanged
returns-clause-unchanged g c =
    let old = c.self.inside.parts in let new = c.room.new.self in let view = c.self.view_is in let f : ℕ = old.layout in
    let had : segment_start f old.segments ≡ c.args.self.now.capacity = ap (λ (q : QuietList g.row.T.Denot). q.capacity) view in
    let now : segment_start f new.segments ≡ segment_start new.layout new.segments = ap (λ (l : ℕ). segment_start l new.segments) (sym (ap (λ (p : PartsView _). p.layout) c.room.ensures.rest_kept)) in
    let more = starts_le f old.segments new.segments c.room.ensures.kept in
    elim c.match-room.branch [
      | in-Ok w ↦ subst (λ r. OnErr r (IsUnchanged c.args.self.now (list_of new))) (sym w.result-is) tt
      | in-Err w ↦ subst (λ r. OnErr r (IsUnchanged c.args.self.now (list_of new))) (sym w.result-is) (record {
        members = ap (λ (p : PartsView _). p.members) c.room.ensures.rest_kept ∙ ap (λ (q : QuietList g.row.T.Denot). q.members) view;
        limit = ap (λ (p : PartsView _). p.limit) c.room.ensures.rest_kept ∙ ap (λ (q : QuietList g.row.T.Denot). q.limit) view;
        layout = ap (λ (p : PartsView _). p.layout) c.room.ensures.rest_kept ∙ ap (λ (q : QuietList g.row.T.Denot). q.layout) view;
        capacity = omega (arith, more, had, now);
      })
    ]
