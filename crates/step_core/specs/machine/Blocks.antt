-- What the machine's blocks show: the installed segments, and the slots that aren't empty.
use Rattle.std.specs.Prelude.{◌≡◌, ℕ, zero, suc, ◌+◌, ◌-◌, ◌≤◌, Bool, if◌then◌else◌, List, length, Option, Some, None, is_some, slice_get, refl}
use Rattle.std.specs.Ordering.{nat_cmp}
use Rattle.std.specs.FinMap as map
use Rattle.std.specs.FinSet as set
use Rattle.std.specs.Coded.{Coded, code_by, coded×, coded_ℕ}
use Rattle.seg_core.specs.Segment.{IsLayout, most_places, most_segments, segment_count, segment_start, segment_end, segment_of}
use Rattle.step_core.specs.declared.machine.phase.CellSlot.{CellSlot}
use Rattle.step_core.specs.contracts.machine.phase.CellSlot as slot

-- what is seen of blocks: their layout, the installed segments, and the slots that aren't empty
pub record Shown : Type 0 where
  pub layout : ℕ
  pub installed : set.FinSet nat_cmp
  pub slots : map.FinMap nat_cmp CellSlot

-- it is stored as its fields
abbrev pub shown_code : Coded Shown
shown_code =
    code_by (ℕ × (set.FinSet nat_cmp × map.FinMap nat_cmp CellSlot))
    (coded× coded_ℕ (coded× (set.code coded_ℕ) (map.code coded_ℕ slot.the_row.coded)))
    (λ b. (b.layout, (b.installed, b.slots)))
    (λ p. record { layout = p.0; installed = p.1.0; slots = p.1.1 })
    (λ _. refl)

-- the segment is installed now
abbrev pub shown_with_segment : Shown → ℕ → Shown
shown_with_segment seen segment =
    record { layout = seen.layout; installed = set.insert seen.installed segment; slots = seen.slots }

-- the slot of the place holds this now
abbrev pub shown_with_slot : Shown → ℕ → CellSlot → Shown
shown_with_slot seen place slot =
    record { layout = seen.layout; installed = seen.installed; slots = map.insert seen.slots place slot }

-- what is inside, if both are there
abbrev pub flattened : {X : Type 0} → Option (Option X) → Option X
flattened None = None
flattened (Some inner) = inner

-- the slots of one segment, in the order of its places: what a block is
abbrev pub Slots : Type 0
Slots = List (Option CellSlot)

-- the entries of the segments, each empty or a block
abbrev pub Entries : Type 0
Entries = List (Option Slots)

-- the block of a segment, if it is installed
abbrev pub block_of : Entries → ℕ → Option Slots
block_of entries segment = flattened (slice_get entries segment)

-- what a block has at an offset
abbrev pub slot_in : Option Slots → ℕ → Option CellSlot
slot_in None offset = None
slot_in (Some block) offset = flattened (slice_get block offset)

-- what the slot of a place holds: it lies in the block of its segment, as far from the front as the place
-- from the segment's first
abbrev pub slot_at : ℕ → Entries → ℕ → Option CellSlot
slot_at f entries place = slot_in (block_of entries (segment_of f place)) (place - segment_start f (segment_of f place))

-- a key with its value, if there is one
abbrev pub with_value : map.FinMap nat_cmp CellSlot → ℕ → Option CellSlot → map.FinMap nat_cmp CellSlot
with_value m key None = m
with_value m key (Some value) = map.insert m key value

-- the finite map of what a function has below a bound
unfoldable pub map_below : (ℕ → Option CellSlot) → ℕ → map.FinMap nat_cmp CellSlot
map_below f zero = map.empty
map_below f (suc bound) = with_value (map_below f bound) bound (f bound)

-- the finite set of the numbers below a bound that pass a test
unfoldable pub set_below : (ℕ → Bool) → ℕ → set.FinSet nat_cmp
set_below f zero = set.empty
set_below f (suc bound) = if f bound then set.insert (set_below f bound) bound else set_below f bound

-- what the entries show
abbrev pub shown : ℕ → Entries → Shown
shown f entries = record {
  layout = f;
  installed = set_below (λ segment. is_some (block_of entries segment)) (segment_count f);
  slots = map_below (slot_at f entries) most_places;
}

-- each segment of the layout has an entry, no other entry has a block, and a block has as many slots as its
-- segment has places
pub record AreBlocks (f : ℕ) (entries : Entries) : Type 0 where
  pub layout : IsLayout f
  pub count : length entries ≡ most_segments
  pub ends : (segment : ℕ) → segment_count f ≤ segment → block_of entries segment ≡ None
  pub whole :
      (segment : ℕ) (block : Slots) → block_of entries segment ≡ Some block
      → segment_start f segment + length block ≡ segment_end f segment
