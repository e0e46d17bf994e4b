-- What an exclusive owner holds of a vector.
use Rattle.std.specs.Prelude.{◌≡◌, ℕ, ◌+◌, ◌-◌, ◌<◌, ◌≤◌, Bool, List, [], ◌∷◌, Option, Some, None, IsSome, is_some, if◌then◌else◌, length, map, slice_get}
use Rattle.std.specs.Coded.{coded_option}
use base.Fml.{Lft}
use base.Stored.{Coded, coded×, coded_ℕ, coded_list, coded_via}
use Rattle.seg_core.specs.Segment.{segment_start, segment_end, segment_count, IsLayout, IsLimit, most_segments}
use Rattle.tie_core.specs.Tie.{Stage, Idle, Filled, Broken}
use Rattle.cell_core.specs.Block.{BlockView, IsMemberAt, block_len, cell_at}
use Rattle.cell_core.specs.Fixed.{stage_in}
use Rattle.cell_core.specs.Member.{MemberView}
use Rattle.table_core.specs.Table.{KeyView, IsBlockOf}
use Rattle.grow_core.specs.Keys.{KeyRow, AreKeys, key_at}
use Rattle.grow_core.specs.Token.{place_in}

-- each member is a value or broken (`None`); the greatest length; the layout of the segments, and the number
-- of installed ones, from the first on; and, if the list was closed from a vector and is unchanged since, the
-- mark of that vector's segments
pub record PartsView (T : Type 0) : Type 0 where
  pub members : List (Option T)
  pub limit : ℕ
  pub layout : ℕ
  pub segments : ℕ
  pub closed : Option (List ℕ)

-- how that is stored
abbrev pub parts_coded : {T : Type 0} → Coded T → Coded (PartsView T)
parts_coded {T} c =
    coded_via (coded× (coded_list (coded_option c))
    (coded× coded_ℕ (coded× coded_ℕ (coded× coded_ℕ (coded_option (coded_list coded_ℕ))))))
    (λ (p : PartsView T). (p.members, (p.limit, (p.layout, (p.segments, p.closed)))))
    (λ x y e i. record {
      members = (e i).0;
      limit = (e i).1.0;
      layout = (e i).1.1.0;
      segments = (e i).1.1.1.0;
      closed = (e i).1.1.1.1;
    })

-- the places of the segments that are there
abbrev pub capacity_of : {T : Type 0} → PartsView T → ℕ
capacity_of parts = segment_start parts.layout parts.segments

-- the last segment has no member
abbrev pub IsSpare : {T : Type 0} → PartsView T → Type 0
IsSpare parts = (0 < parts.segments) × (length parts.members ≤ segment_start parts.layout (parts.segments - 1))

-- the values that are known, in order
abbrev pub values_in : {T : Type 0} → List (MemberView T) → List (Option T)
values_in row = map (λ m. m.value) row

-- which of the members have a value
abbrev pub filled_in : {T : Type 0} → List (Option T) → List Bool
filled_in members = map (λ member. is_some member) members

-- 1 if the member is broken, otherwise 0
abbrev pub one_if_broken : {T : Type 0} → Option T → ℕ
one_if_broken None = 1
one_if_broken (Some x) = 0

-- how many of the members are broken
abbrev pub broken_count : {T : Type 0} → List (Option T) → ℕ
broken_count [] = 0
broken_count (member ∷ members) = one_if_broken member + broken_count members

-- each key of the row is of a block as long as its segment
abbrev pub AreLong : ℕ → KeyRow → Type 0
AreLong f row =
    (segment : ℕ) (key : KeyView) → segment < most_segments → key_at row segment ≡ Some key
    → IsBlockOf f segment key.block

-- the row has the keys of the first n segments
abbrev pub HasFirstKeys : KeyRow → ℕ → Type 0
HasFirstKeys row count = (segment : ℕ) → segment < count → IsSome (key_at row segment)

-- what is known of a place is known of its cell, by the key of its segment
abbrev pub AreMembers : {T : Type 0} → ℕ → KeyRow → List (MemberView T) → Type 0
AreMembers {T} f row known =
    (segment offset : ℕ) (key : KeyView) (m : MemberView T) → segment < most_segments → key_at row segment ≡ Some key
    → place_in f segment offset < segment_end f segment → slice_get known (place_in f segment offset) ≡ Some m
    → IsMemberAt key.block offset m

-- a member without a value is broken for as long as this epoch lasts
abbrev pub IsBrokenIn : {T : Type 0} → Lft → MemberView T → Type 0
IsBrokenIn epoch m = m.value ≡ None → m.epoch ≡ epoch

-- so it is of each of these members
abbrev pub AreBrokenIn : {T : Type 0} → Lft → List (MemberView T) → Type 0
AreBrokenIn epoch [] = Unit {0}
AreBrokenIn epoch (m ∷ known) = IsBrokenIn epoch m × AreBrokenIn epoch known

-- what holds of the parts of a vector at all times
pub record AreWhole {T : Type 0} (f : ℕ) (names : List ℕ) (row : KeyRow) (known : List (MemberView T))
    (len limit count : ℕ) : Type 0 where
  pub layout : IsLayout f
  pub limited : IsLimit limit
  pub within : len ≤ limit
  pub all : length known ≡ len
  pub rows : length row ≡ most_segments
  pub few : count ≤ segment_count f
  pub inside : len ≤ segment_start f count
  pub named : AreKeys (f ∷ names) row
  pub long : AreLong f row
  pub there : HasFirstKeys row count
  pub of : AreMembers f row known

-- ---- How the cells of a list are fixed

-- the stage that a cell is fixed at: filled or broken as its member is, and idle if there is none
abbrev pub member_stage : {T : Type 0} → Option (MemberView T) → Stage
member_stage None = Idle
member_stage (Some m) = if is_some m.value then Filled else Broken

-- the cell at the offset was fixed at no stage, or is fixed at this one now
abbrev pub RestagesCell : BlockView → BlockView → ℕ → Stage → Type 0
RestagesCell old new offset stage =
    (s : Stage) → stage_in (cell_at old offset) ≡ Some s → stage_in (cell_at new offset) ≡ Some stage

-- the cells of the first `count` segments are fixed at the stages of the members, and of the places past them
abbrev pub AreStaged : {T : Type 0} → ℕ → KeyRow → List (MemberView T) → ℕ → Type 0
AreStaged {T} f row known count =
    (segment offset : ℕ) (key : KeyView) → segment < count → key_at row segment ≡ Some key → offset < block_len key.block
    → stage_in (cell_at key.block offset) ≡ Some (member_stage (slice_get known (place_in f segment offset)))
