-- What blocks show, segment by segment and place by place.
use Rattle.std.proofs.Common.{◌≡◌, ◌≢◌, ℕ, ◌+◌, ◌-◌, ◌^◌, ◌<◌, ◌≤◌, ◌||◌, Bool, true, false, cond, if◌then◌else◌, length, replicate, Option, Some, None, is_some, slice_get, slice_set, slice_index_or, refl, ap, sym, ◌∙◌, subst, arith, inl, inr, zero, suc}
use Rattle.std.proofs.Math.Nat.{le_refl}
use Rattle.std.proofs.Math.ListN.{length-set}
use Rattle.std.proofs.lemmas.Bool.{cases_lt, false≢true}
use Rattle.std.proofs.lemmas.Bool.Decides.{eqb_tells}
use Rattle.std.proofs.lemmas.Option.{none-some, same_Some, slice_get_past, slice_get_read, slice_get-get_or}
use Rattle.std.specs.Option.{option_map, IfSome}
use Rattle.std.specs.Ordering.{nat_cmp}
use Rattle.std.specs.Cmp.{nat_cmp_total}
use Rattle.std.specs.FinMap as map
use Rattle.std.specs.FinSet as set
use Rattle.seg_core.specs.Segment.{IsLayout, most_places, most_segments, segment_count, HasPlace, segment_start, segment_end, segment_of}
use Rattle.seg_core.proofs.Doubling.{segment_of_has, is_segment_of, segment_end-le}
use Rattle.book_core.proofs.Lists.{get_other, get_set}
use Rattle.step_core.specs.declared.machine.phase.CellSlot.{CellSlot}
use Rattle.step_core.proofs.atomic_steps.Keys.{same_key, other_key}
use Rattle.step_core.specs.machine.Blocks.{Shown, Slots, Entries, flattened, block_of, slot_in, slot_at, with_value, map_below, set_below, shown, AreBlocks}

-- ---- The map and the set below a bound

-- at another key nothing changes
given_elsewhere : (m : map.FinMap nat_cmp CellSlot) (key : ℕ) (o : Option CellSlot) (q : ℕ) → q ≢ key
    → map.get (with_value m key o) q ≡ map.get m q
given_elsewhere m key None q apart = refl
given_elsewhere m key (Some v) q apart =
    map.get-insert nat_cmp_total m key v q ∙ ap (λ b. cond b (Some v) (map.get m q)) (other_key q key apart)

-- at a new key there is what was given
given_here : (m : map.FinMap nat_cmp CellSlot) (key : ℕ) (o : Option CellSlot) → map.get m key ≡ None
    → map.get (with_value m key o) key ≡ o
given_here m key None none = none
given_here m key (Some v) none =
    map.get-insert nat_cmp_total m key v key ∙ ap (λ b. cond b (Some v) (map.get m key)) (same_key key)

-- the map has nothing from its bound on
none_past : (f : ℕ → Option CellSlot) (n q : ℕ) → n ≤ q → map.get (map_below f n) q ≡ None
unfolding map_below
none_past f zero q past = map.get-empty nat_cmp q
none_past f (suc n) q past =
    given_elsewhere (map_below f n) n (f n) q (λ same. omega arith) ∙ none_past f n q (omega arith)

-- below its bound it has what the function has
given_within : (f : ℕ → Option CellSlot) (n q : ℕ) → q < n → map.get (map_below f n) q ≡ f q
unfolding map_below
given_within f zero q inside = absurd (omega arith)
given_within f (suc n) q inside =
    elim (eqb_tells q n) [
      | inl same ↦ subst (λ k. map.get (with_value (map_below f n) n (f n)) k ≡ f k) (sym same.1) (given_here (map_below f n) n (f n) (none_past f n n (le_refl n)))
      | inr apart ↦ given_elsewhere (map_below f n) n (f n) q apart.1 ∙ given_within f n q (let ne : q ≢ n = apart.1 in omega arith)
    ]

-- if a function has nothing from the bound on, the map has what the function has
get_map_below : (f : ℕ → Option CellSlot) (n : ℕ) → ((q : ℕ) → n ≤ q → f q ≡ None) → (q : ℕ)
    → map.get (map_below f n) q ≡ f q
get_map_below f n nothing q =
    elim (cases_lt q n) [ inl inside ↦ given_within f n q inside | inr past ↦ none_past f n q past ∙ sym (nothing q past) ]

-- the set has nothing from its bound on
false_past : (f : ℕ → Bool) (n q : ℕ) → n ≤ q → set.contains (set_below f n) q ≡ false
unfolding set_below
false_past f zero q past = set.contains-empty nat_cmp q
false_past f (suc n) q past =
    elim (f n) as (λ b. set.contains (if b then set.insert (set_below f n) n else set_below f n) q ≡ false) [
      | true ↦ set.contains-insert nat_cmp_total (set_below f n) n q
          ∙ ap (λ b. b || set.contains (set_below f n) q) (other_key q n (λ same. omega arith)) ∙ false_past f n q (omega arith)
      | false ↦ false_past f n q (omega arith)
    ]

-- a number that was not there is there where it passes
tested_last : (s : set.FinSet nat_cmp) (n : ℕ) (b : Bool) → set.contains s n ≡ false
    → set.contains (if b then set.insert s n else s) n ≡ b
tested_last s n true none =
    set.contains-insert nat_cmp_total s n n ∙ ap (λ b. b || set.contains s n) (same_key n)
tested_last s n false none = none

-- any other number is there as before
tested_before : (s : set.FinSet nat_cmp) (n q : ℕ) (b : Bool) → q ≢ n
    → set.contains (if b then set.insert s n else s) q ≡ set.contains s q
tested_before s n q true apart =
    set.contains-insert nat_cmp_total s n q ∙ ap (λ b. b || set.contains s q) (other_key q n apart)
tested_before s n q false apart = refl

-- below its bound the set has what passes
tested_within : (f : ℕ → Bool) (n q : ℕ) → q < n → set.contains (set_below f n) q ≡ f q
unfolding set_below
tested_within f zero q inside = absurd (omega arith)
tested_within f (suc n) q inside =
    elim (eqb_tells q n) [
      | inl same ↦ subst (λ k. set.contains (if f n then set.insert (set_below f n) n else set_below f n) k ≡ f k) (sym same.1) (tested_last (set_below f n) n (f n) (false_past f n n (le_refl n)))
      | inr apart ↦ tested_before (set_below f n) n q (f n) apart.1 ∙ tested_within f n q (let ne : q ≢ n = apart.1 in omega arith)
    ]

-- if a test fails from the bound on, the set has what passes
contains_set_below : (f : ℕ → Bool) (n : ℕ) → ((q : ℕ) → n ≤ q → f q ≡ false) → (q : ℕ)
    → set.contains (set_below f n) q ≡ f q
contains_set_below f n nothing q =
    elim (cases_lt q n) [ inl inside ↦ tested_within f n q inside | inr past ↦ false_past f n q past ∙ sym (nothing q past) ]

-- ---- What entries show

-- a place past all segments has a segment past all
segment_past : (f place : ℕ) → most_places ≤ place → segment_count f ≤ segment_of f place
segment_past f place past =
    elim (cases_lt (segment_of f place) (segment_count f)) [
      | inl small ↦ absurd (
          let has = segment_of_has f place in
          let before : place < segment_end f (segment_of f place) = has.before in
          let ends : segment_end f (segment_of f place) ≤ segment_end f (40 - f) = segment_end-le f (segment_of f place) (40 - f) (omega arith) in
          let top : segment_end f (40 - f) ≡ 2 ^ 40 = ap (λ e. 2 ^ e) (let e : 40 - f + f ≡ 40 = omega arith in e) in
          omega arith)
      | inr large ↦ large
    ]

-- there is no block past all entries
no_block : (entries : Entries) (segment : ℕ) → length entries ≤ segment → block_of entries segment ≡ None
no_block entries segment past = ap flattened (slice_get_past entries segment past)

-- no entry past the segments of the layout has a block
abbrev EndsAt : ℕ → Entries → Type 0
EndsAt f entries = (k : ℕ) → segment_count f ≤ k → block_of entries k ≡ None

-- the segments that are seen are those with a block
contains_shown : (f : ℕ) (entries : Entries) → EndsAt f entries → (segment : ℕ)
    → set.contains (shown f entries).installed segment ≡ is_some (block_of entries segment)
contains_shown f entries ends segment =
    contains_set_below (λ k. is_some (block_of entries k)) (segment_count f) (λ k past. ap is_some (ends k past)) segment

-- the slots that are seen are those of the blocks
get_shown : (f : ℕ) (entries : Entries) → EndsAt f entries → (place : ℕ)
    → map.get (shown f entries).slots place ≡ slot_at f entries place
get_shown f entries ends place =
    get_map_below (slot_at f entries) most_places
    (λ q past. ap (λ b. slot_in b (q - segment_start f (segment_of f q))) (ends (segment_of f q) (segment_past f q past))) place

-- entries show what has the same segments and slots
shown_is : (f : ℕ) (entries : Entries) → EndsAt f entries
    → (segments : set.FinSet nat_cmp) (slots : map.FinMap nat_cmp CellSlot)
    → ((k : ℕ) → is_some (block_of entries k) ≡ set.contains segments k)
    → ((q : ℕ) → slot_at f entries q ≡ map.get slots q)
    → shown f entries ≡ record { layout = f; installed = segments; slots = slots }
shown_is f entries ends segments slots same_segments same_slots =
    let installed : (shown f entries).installed ≡ segments = set.same_set nat_cmp_total set.nat_cmp-IsAntisymmetric _ _ (λ k. contains_shown f entries ends k ∙ same_segments k) in
    let there : (shown f entries).slots ≡ slots = map.same_map nat_cmp_total map.nat_cmp-IsAntisymmetric _ _ (λ q. get_shown f entries ends q ∙ same_slots q) in
    λ i. record { layout = f; installed = installed i; slots = there i }

-- entries without a block show nothing
pub shows_nothing : (f : ℕ) (entries : Entries) → ((k : ℕ) → block_of entries k ≡ None)
    → shown f entries ≡ record { layout = f; installed = set.empty; slots = map.empty }
shows_nothing f entries none =
    shown_is f entries (λ k past. none k) set.empty map.empty
    (λ k. ap is_some (none k) ∙ sym (set.contains-empty nat_cmp k))
    (λ q. ap (λ b. slot_in b (q - segment_start f (segment_of f q))) (none (segment_of f q)) ∙ sym (map.get-empty nat_cmp q))

-- entries without a block are whole
pub nothing_is_blocks : (f : ℕ) (entries : Entries) → IsLayout f → length entries ≡ most_segments
    → ((k : ℕ) → block_of entries k ≡ None) → AreBlocks f entries
nothing_is_blocks f entries is_layout long none = record {
  layout = is_layout;
  count = long;
  ends = λ k past. none k;
  whole = λ k block is. absurd (none-some block (sym (none k) ∙ is));
}

-- each segment of the layout has an entry
entry_inside : (f : ℕ) (entries : Entries) → AreBlocks f entries → (k : ℕ) → k < segment_count f → k < length entries
entry_inside f entries blocks k inside =
    let low : 1 ≤ f = blocks.layout.0 in let count : length entries ≡ most_segments = blocks.count in omega arith

-- ---- An entry that is set

module _ (entries : Entries) (k : ℕ) (new : Slots) (inside : k < length entries) where
  -- the entry that is set has the new block
  block_set_here : block_of (slice_set entries k (Some new)) k ≡ Some new
  block_set_here = ap flattened (get_set entries k (slice_index_or entries k None) (Some new) (slice_get-get_or entries k None inside))

  -- any other has the block that it had
  block_set_there : (j : ℕ) → j ≢ k → block_of (slice_set entries k (Some new)) j ≡ block_of entries j
  block_set_there j apart = ap flattened (get_other entries k j (Some new) apart)

  -- past the segments of the layout there is no block as before
  ends_set : (f : ℕ) → EndsAt f entries → k < segment_count f → EndsAt f (slice_set entries k (Some new))
  ends_set f ends within j past = block_set_there j (λ same. omega arith) ∙ ends j past

  -- a whole block keeps the entries whole
  blocks_set : (f : ℕ) → AreBlocks f entries → k < segment_count f → segment_start f k + length new ≡ segment_end f k
      → AreBlocks f (slice_set entries k (Some new))
  blocks_set f blocks within long = record {
    layout = blocks.layout;
    count = length-set entries k (Some new) ∙ blocks.count;
    ends = ends_set f blocks.ends within;
    whole = λ j block is. elim (eqb_tells j k) [
      | inl same ↦ (
          let here : Some new ≡ Some block = sym block_set_here ∙ subst (λ i. block_of (slice_set entries k (Some new)) i ≡ Some block) same.1 is in
          let new_is : new ≡ block = same_Some new block here in
          subst (λ i. segment_start f i + length block ≡ segment_end f i) (sym same.1) (subst (λ xs. segment_start f k + length xs ≡ segment_end f k) new_is long))
      | inr apart ↦ blocks.whole j block (sym (block_set_there j apart.1) ∙ is)
    ];
  }

-- a new block is empty at each offset
empty_block : (n o : ℕ) → slot_in (Some (replicate n None)) o ≡ None
empty_block zero o = refl
empty_block (suc n) zero = refl
empty_block (suc n) (suc o) = empty_block n o

-- a new block in an empty entry shows a further segment
pub shows_block : (f : ℕ) (entries : Entries) (k n : ℕ) → AreBlocks f entries → k < segment_count f
    → block_of entries k ≡ None
    → shown f (slice_set entries k (Some (replicate n None))) ≡ record { layout = f; installed = set.insert (shown f entries).installed k; slots = (shown f entries).slots }
shows_block f entries k n blocks inside none =
    let new : Slots = replicate n None in
    let entries' : Entries = slice_set entries k (Some new) in
    let within : k < length entries = entry_inside f entries blocks k inside in
    let here = block_set_here entries k new within in
    shown_is f entries' (ends_set entries k new within f blocks.ends inside) (set.insert (shown f entries).installed k) (shown f entries).slots
    (λ j. elim (eqb_tells j k) [
      | inl same ↦ subst (λ i. is_some (block_of entries' i) ≡ set.contains (set.insert (shown f entries).installed k) i) (sym same.1)
          (ap is_some here ∙ sym (set.contains-insert nat_cmp_total (shown f entries).installed k k ∙ ap (λ b. b || set.contains (shown f entries).installed k) (same_key k)))
      | inr apart ↦ ap is_some (block_set_there entries k new within j apart.1)
          ∙ sym (set.contains-insert nat_cmp_total (shown f entries).installed k j ∙ ap (λ b. b || set.contains (shown f entries).installed j) (other_key j k apart.1) ∙ contains_shown f entries blocks.ends j)
    ])
    (λ q. elim (eqb_tells (segment_of f q) k) [
      | inl same ↦ ap (λ b. slot_in b (q - segment_start f (segment_of f q))) (ap (block_of entries') same.1 ∙ here)
          ∙ empty_block n (q - segment_start f (segment_of f q))
          ∙ sym (get_shown f entries blocks.ends q ∙ ap (λ b. slot_in b (q - segment_start f (segment_of f q))) (ap (block_of entries) same.1 ∙ none))
      | inr apart ↦ ap (λ b. slot_in b (q - segment_start f (segment_of f q))) (block_set_there entries k new within (segment_of f q) apart.1) ∙ sym (get_shown f entries blocks.ends q)
    ])

-- at another offset, or in another block, the slot is as it was
slot_elsewhere : (f : ℕ) (entries entries' : Entries) (k o : ℕ) (block : Slots) (slot : CellSlot) (q : ℕ)
    → (segment_of f q ≢ k → block_of entries' (segment_of f q) ≡ block_of entries (segment_of f q))
    → block_of entries' k ≡ Some (slice_set block o (Some slot)) → block_of entries k ≡ Some block
    → (segment_of f q ≡ k → q - segment_start f (segment_of f q) ≢ o) → slot_at f entries' q ≡ slot_at f entries q
slot_elsewhere f entries entries' k o block slot q elsewhere new old other =
    let at : ℕ = q - segment_start f (segment_of f q) in
    elim (eqb_tells (segment_of f q) k) [
      | inl same ↦ ap (λ b. slot_in b at) (ap (block_of entries') same.1 ∙ new)
          ∙ ap flattened (get_other block o at (Some slot) (other same.1))
          ∙ sym (ap (λ b. slot_in b at) (ap (block_of entries) same.1 ∙ old))
      | inr apart ↦ ap (λ b. slot_in b at) (elsewhere apart.1)
    ]

-- a slot that is set in the block of a place shows one slot changed
shows_slot : (f : ℕ) (entries : Entries) (k o place : ℕ) (block : Slots) (slot : CellSlot) → AreBlocks f entries
    → k < segment_count f → HasPlace f k place → segment_start f k + o ≡ place → block_of entries k ≡ Some block → o < length block
    → shown f (slice_set entries k (Some (slice_set block o (Some slot)))) ≡ record { layout = f; installed = (shown f entries).installed; slots = map.insert (shown f entries).slots place slot }
shows_slot f entries k o place block slot blocks inside has lies is room =
    let new : Slots = slice_set block o (Some slot) in
    let entries' : Entries = slice_set entries k (Some new) in
    let within : k < length entries = entry_inside f entries blocks k inside in
    let here = block_set_here entries k new within in
    let slots = (shown f entries).slots in
    let number : k ≡ segment_of f place = is_segment_of f k place has in
    shown_is f entries' (ends_set entries k new within f blocks.ends inside) (shown f entries).installed (map.insert slots place slot)
    (λ j. elim (eqb_tells j k) [
      | inl same ↦ subst (λ i. is_some (block_of entries' i) ≡ set.contains (shown f entries).installed i) (sym same.1)
          (ap is_some here ∙ sym (contains_shown f entries blocks.ends k ∙ ap is_some is))
      | inr apart ↦ ap is_some (block_set_there entries k new within j apart.1) ∙ sym (contains_shown f entries blocks.ends j)
    ])
    (λ q. elim (eqb_tells q place) [
      | inl same ↦ subst (λ p. slot_at f entries' p ≡ map.get (map.insert slots place slot) p) (sym same.1)
          (ap (λ i. slot_in (block_of entries' i) (place - segment_start f i)) (sym number)
          ∙ ap (λ b. slot_in b (place - segment_start f k)) here
          ∙ ap (λ i. flattened (slice_get new i)) (let e : place - segment_start f k ≡ o = omega arith in e)
          ∙ ap flattened (get_set block o (slice_index_or block o None) (Some slot) (slice_get-get_or block o None room))
          ∙ sym (map.get-insert nat_cmp_total slots place slot place ∙ ap (λ b. cond b (Some slot) (map.get slots place)) (same_key place)))
      | inr apart ↦
          slot_elsewhere f entries entries' k o block slot q
          (λ other. block_set_there entries k new within (segment_of f q) other)
          here is
          (λ same. let has_q = segment_of_has f q in let low : segment_start f (segment_of f q) ≤ q = has_q.from in let ne : q ≢ place = apart.1 in let at : segment_start f (segment_of f q) ≡ segment_start f k = ap (segment_start f) same in λ e. ne (omega arith))
          ∙ sym (map.get-insert nat_cmp_total slots place slot q ∙ ap (λ b. cond b (Some slot) (map.get slots q)) (other_key q place apart.1) ∙ get_shown f entries blocks.ends q)
    ])

-- ---- As the program reads it

-- to install a segment that is there changes nothing
pub installed_already : (seen : Shown) (k : ℕ) → set.contains seen.installed k ≡ true
    → seen ≡ record { layout = seen.layout; installed = set.insert seen.installed k; slots = seen.slots }
installed_already seen k there =
    let same : seen.installed ≡ set.insert seen.installed k = set.same_set nat_cmp_total set.nat_cmp-IsAntisymmetric _ _
    (λ q. elim (eqb_tells q k) [
      | inl is ↦ subst (λ i. set.contains seen.installed i ≡ set.contains (set.insert seen.installed k) i) (sym is.1)
          (there ∙ sym (set.contains-insert nat_cmp_total seen.installed k k ∙ ap (λ b. b || set.contains seen.installed k) (same_key k)))
      | inr apart ↦ sym (set.contains-insert nat_cmp_total seen.installed k q ∙ ap (λ b. b || set.contains seen.installed q) (other_key q k apart.1))
    ]) in
    λ i. record { layout = seen.layout; installed = same i; slots = seen.slots }

module _ {f : ℕ} {entries : Entries} {seen : Shown} (view : shown f entries ≡ seen) (blocks : AreBlocks f entries) where
  -- the layout that is seen is theirs
  layout_is : f ≡ seen.layout
  layout_is = ap (λ (s : Shown). s.layout) view

  -- so a segment of the layout that is seen is one of theirs
  pub segment_inside : (k : ℕ) → k < segment_count seen.layout → k < segment_count f
  segment_inside k inside = subst (λ l. k < segment_count l) (sym layout_is) inside

  -- and it has an entry
  pub index_inside : (k : ℕ) → k < segment_count seen.layout → k < most_segments
  index_inside k inside =
      let low : 1 ≤ f = blocks.layout.0 in let within : k < segment_count f = segment_inside k inside in omega arith

  -- past all segments no slot is there
  pub slot_past : (place : ℕ) → most_places ≤ place → map.get seen.slots place ≡ None
  slot_past place past =
      ap (λ (s : Shown). map.get s.slots place) (sym view)
      ∙ get_shown f entries blocks.ends place
      ∙ ap (λ b. slot_in b (place - segment_start f (segment_of f place))) (blocks.ends (segment_of f place) (segment_past f place past))

  -- the slot of a place, at its offset in the entry of its segment
  pub slot_in_entry : (place k o : ℕ) (read entry : Option Slots) → k ≡ segment_of f place → k < segment_count f
      → segment_start f k + o ≡ place → read ≡ slice_index_or entries k read → slice_index_or entries k read ≡ entry
      → map.get seen.slots place ≡ slot_in entry o
  slot_in_entry place k o read entry number inside lies is entry_is =
      ap (λ (s : Shown). map.get s.slots place) (sym view)
      ∙ get_shown f entries blocks.ends place
      ∙ ap (λ i. slot_in (block_of entries i) (place - segment_start f i)) (sym number)
      ∙ ap (λ i. slot_in (block_of entries k) i) (let e : place - segment_start f k ≡ o = omega arith in e)
      ∙ ap (λ e. slot_in (flattened e) o) (slice_get_read entries (length entries) k read refl (entry_inside f entries blocks k inside) is)
      ∙ ap (λ e. slot_in e o) (is ∙ entry_is)

  -- an entry that is read is the block of its segment
  entry_is : (k : ℕ) {read : Option Slots} → k < segment_count f → read ≡ slice_index_or entries k read
      → block_of entries k ≡ read
  entry_is k {read = read} inside is =
      ap flattened (slice_get_read entries (length entries) k read refl (entry_inside f entries blocks k inside) is)

  -- whether an entry that is read has a block
  pub installed_is : (k : ℕ) {read : Option Slots} → k < segment_count f → read ≡ slice_index_or entries k read
      → set.contains seen.installed k ≡ is_some read
  installed_is k inside is =
      ap (λ (s : Shown). set.contains s.installed k) (sym view)
      ∙ contains_shown f entries blocks.ends k ∙ ap is_some (entry_is k inside is)

  -- a segment that is not installed has no block
  pub no_block_there : (k : ℕ) → set.contains seen.installed k ≡ false → block_of entries k ≡ None
  no_block_there k none =
      elim (block_of entries k) as (λ o. block_of entries k ≡ o → o ≡ None) [
        | None ↦ (λ _. refl)
        | Some block ↦ (λ is. absurd (false≢true (sym none ∙ ap (λ (s : Shown). set.contains s.installed k) (sym view) ∙ contains_shown f entries blocks.ends k ∙ ap is_some is)))
      ]
      refl

  -- ---- A slot that is set in the entry that was read

  module _ {place k : ℕ} (has : HasPlace f k place) (inside : k < segment_count f) (o : ℕ) (lies : segment_start f k + o ≡ place) {read : Option Slots} (is : read ≡ slice_index_or entries k read) where
    -- the entry has a block where the segment of its place is installed
    pub entry_there : set.contains seen.installed (segment_of seen.layout place) ≡ true
        → is_some (slice_index_or entries k read) ≡ true
    entry_there there =
        ap is_some (sym is) ∙ sym (installed_is k inside is)
        ∙ ap (set.contains seen.installed) (is_segment_of f k place has ∙ ap (λ l. segment_of l place) layout_is) ∙ there

    -- its block reaches past the offset of its place
    pub entry_reaches : IfSome (slice_index_or entries k read) (λ block. o < length block)
    entry_reaches =
        elim (slice_index_or entries k read) as (λ r. block_of entries k ≡ r → IfSome r (λ block. o < length block)) [
          | None ↦ (λ _. tt)
          | Some block ↦ (λ e.
              let ends = blocks.whole k block e in
              let before : place < segment_end f k = has.before in
              omega arith)
        ]
        (entry_is k inside is ∙ is)

    -- the entries stay whole where the slot is set
    pub set_is_blocks : (slot : CellSlot) → set.contains seen.installed (segment_of seen.layout place) ≡ true
        → AreBlocks f (slice_set entries k (option_map (λ block. slice_set block o (Some slot)) (slice_index_or entries k read)))
    set_is_blocks slot there =
        elim (slice_index_or entries k read) as (λ r. block_of entries k ≡ r → is_some r ≡ true → AreBlocks f (slice_set entries k (option_map (λ block. slice_set block o (Some slot)) r))) [
          | None ↦ (λ _ no. absurd (false≢true no))
          | Some block ↦ (λ e _.
              blocks_set entries k (slice_set block o (Some slot)) (entry_inside f entries blocks k inside) f blocks inside
              (ap (λ n. segment_start f k + n) (length-set block o (Some slot)) ∙ blocks.whole k block e))
        ]
        (entry_is k inside is ∙ is) (entry_there there)

    -- they show one slot changed
    pub set_shows : (slot : CellSlot) → set.contains seen.installed (segment_of seen.layout place) ≡ true
        → shown f (slice_set entries k (option_map (λ block. slice_set block o (Some slot)) (slice_index_or entries k read))) ≡ record { layout = seen.layout; installed = seen.installed; slots = map.insert seen.slots place slot }
    set_shows slot there =
        elim (slice_index_or entries k read) as (λ r. block_of entries k ≡ r → is_some r ≡ true → IfSome r (λ block. o < length block) → shown f (slice_set entries k (option_map (λ block. slice_set block o (Some slot)) r)) ≡ record { layout = seen.layout; installed = seen.installed; slots = map.insert seen.slots place slot }) [
          | None ↦ (λ _ no _. absurd (false≢true no))
          | Some block ↦ (λ e _ room.
              shows_slot f entries k o place block slot blocks inside has lies e room
              ∙ ap (λ (s : Shown). record { layout = s.layout; installed = s.installed; slots = map.insert s.slots place slot }) view)
        ]
        (entry_is k inside is ∙ is) (entry_there there) entry_reaches

-- entries that are all read empty are no blocks
pub none_read : (entries : Entries) → length entries ≡ most_segments
    → ((i : ℕ) (e : Option Slots) → i < most_segments → slice_index_or entries i e ≡ None) → (k : ℕ)
    → block_of entries k ≡ None
none_read entries long none k =
    elim (cases_lt k (length entries)) [
      | inl inside ↦ ap flattened (slice_get-get_or entries k None inside) ∙ none k None (omega arith)
      | inr past ↦ no_block entries k past
    ]
