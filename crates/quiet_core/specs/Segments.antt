-- A walk over the members of a list, segment by segment.
use Rattle.std.specs.Prelude.{◌≡◌, ℕ, ◌+◌, ◌<◌, ◌≤◌, Option, Some, None, length, map, take, drop}
use base.Stored.{Coded, coded×, coded_ℕ, coded_via}
use Rattle.grow_core.specs.Slices.{IsInOneSegment, IsToTheEnd, HasBroken}
use Rattle.quiet_core.specs.declared.segments.MemberSegment.{MemberSegment}
use Rattle.quiet_core.specs.declared.segments.MemberSegment.TheVariants.{Values, Broken}
use Rattle.quiet_core.specs.QuietList.{QuietList, quiet_code}

-- the list, and the first place that is left
pub record SegmentsView (T : Type 0) : Type 0 where
  pub list : QuietList T
  pub from : ℕ

-- how that is stored
abbrev pub segments_coded : {T : Type 0} → Coded T → Coded (SegmentsView T)
segments_coded {T} c =
    coded_via (coded× (quiet_code c) coded_ℕ) (λ (s : SegmentsView T). (s.list, s.from))
    (λ x y e i. record { list = (e i).0; from = (e i).1 })

-- there are n members of one segment from a place on, up to its end or that of the list
pub record AreOfOneSegment {T : Type 0} (list : QuietList T) (from n : ℕ) : Type 0 where
  pub some : 0 < n
  pub within : from + n ≤ length list.members
  pub one : IsInOneSegment list.layout from n
  pub most : IsToTheEnd list.layout from n (length list.members)

-- a walk goes on by the members of one segment, and lends their values unless one is broken; or it is at the end
abbrev pub WalksBySegment : {T : Type 0} → SegmentsView T → Option (MemberSegment T) → SegmentsView T → Type 0
WalksBySegment old None new = (old.from ≡ length old.list.members) × (new ≡ old)
WalksBySegment old (Some (Values values)) new =
    AreOfOneSegment old.list old.from (length values.now)
    × (map Some values.now ≡ take (length values.now) (drop old.from old.list.members))
    × (new ≡ record old { from = old.from + length values.now })
WalksBySegment old (Some (Broken from n)) new =
    (from ≡ old.from) × AreOfOneSegment old.list from n × HasBroken (take n (drop from old.list.members))
    × (new ≡ record old { from = from + n })
