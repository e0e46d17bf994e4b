-- The exclusive list: what one owner has when nobody else has the vector.
use Rattle.std.specs.Prelude.{◌≡◌, ℕ, ◌≤◌, ◌⊎◌, max, Bool, true, Option, List, length, refl}
use Rattle.std.specs.Option.{option_eq, option_partial_cmp, option_cmp}
use Rattle.std.specs.Cmp.Lexicographic.{pointwise, slice_partial_cmp, slice_cmp}
use Rattle.std.specs.Coded.{Coded, code_by, coded×, coded_ℕ, coded_list, coded_option}
use Rattle.std.specs.declared.cmp.Ordering.{Ordering}
use Rattle.seg_core.specs.Segment.{segment_end}
use Rattle.grow_core.specs.Parts.{PartsView, capacity_of}

-- each member is a value or broken (`None`); the greatest length; the layout of the segments; the places of
-- the installed ones; and, if the list was closed from a vector and is unchanged since, the mark of that
-- vector's segments
pub record QuietList (T : Type 0) : Type 0 where
  pub members : List (Option T)
  pub limit : ℕ
  pub layout : ℕ
  pub capacity : ℕ
  pub closed : Option (List ℕ)

-- a list is stored as the tuple of its fields
abbrev pub quiet_code : {T : Type 0} → Coded T → Coded (QuietList T)
quiet_code {T} code =
    code_by
    (List (Option T) × (ℕ × (ℕ × (ℕ × Option (List ℕ)))))
    (coded× (coded_list (coded_option code))
    (coded× coded_ℕ (coded× coded_ℕ (coded× coded_ℕ (coded_option (coded_list coded_ℕ))))))
    (λ q. (q.members, (q.limit, (q.layout, (q.capacity, q.closed)))))
    (λ p. record { members = p.0; limit = p.1.0; layout = p.1.1.0; capacity = p.1.1.1.0; closed = p.1.1.1.1 })
    (λ _. refl)

-- what an owner holds of a vector, as a list
abbrev pub list_of : {T : Type 0} → PartsView T → QuietList T
list_of parts =
    record {
      members = parts.members;
      limit = parts.limit;
      layout = parts.layout;
      capacity = capacity_of parts;
      closed = parts.closed;
    }

-- a number of places that fill whole segments of a layout: none, or all up to the end of a segment
abbrev pub IsWhole : ℕ → ℕ → Type 0
IsWhole f places = (places ≡ 0) ⊎ ((segment : ℕ) × (places ≡ segment_end f segment))

-- the fewest whole segments with places for n members
pub record IsCapacityFor (f n capacity : ℕ) : Type 0 where
  pub whole : IsWhole f capacity
  pub room : n ≤ capacity
  pub least : (other : ℕ) → IsWhole f other → n ≤ other → capacity ≤ other

-- the new capacity is the greater of the old one and the one for n members
abbrev pub GrowsFor : ℕ → ℕ → ℕ → ℕ → Type 0
GrowsFor f n old new = (needed : ℕ) × IsCapacityFor f n needed × (new ≡ max old needed)

module _ {T : Type 0} where
  -- no more member fits below the limit
  abbrev pub IsAtLimit : QuietList T → Type 0
  IsAtLimit list = length list.members ≡ list.limit

  -- the members, the limit and the layout are the same, and no segment is given up
  pub record IsUnchanged (old new : QuietList T) : Type 0 where
    pub members : new.members ≡ old.members
    pub limit : new.limit ≡ old.limit
    pub layout : new.layout ≡ old.layout
    pub capacity : old.capacity ≤ new.capacity

  -- two members are equal if both are broken, or both are equal values
  abbrev pub same_members : (T → T → Bool) → QuietList T → QuietList T → Bool
  same_members eq a b = pointwise (option_eq eq) a.members b.members

  -- lists with the same members are equal
  abbrev pub EqualMembersAreEqual : (T → T → Bool) → Type 0
  EqualMembersAreEqual eq = (a b : QuietList T) → a.members ≡ b.members → same_members eq a b ≡ true

  -- the order of the first members that differ, broken below every value; otherwise the shorter list is less
  abbrev pub partial_order : (T → T → Option Ordering) → QuietList T → QuietList T → Option Ordering
  partial_order cmp a b = slice_partial_cmp (option_partial_cmp cmp) a.members b.members

  -- the same if any two values can be compared
  abbrev pub order : (T → T → Ordering) → QuietList T → QuietList T → Ordering
  order cmp a b = slice_cmp (option_cmp cmp) a.members b.members
