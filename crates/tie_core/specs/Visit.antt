-- What ties an entry to a table of `atomic_table`: while the entry is empty it holds a seat of its own; once a block is
-- published there, that seat is spent, and the entry holds the block's seat. The codes of both are fixed from the
-- start.
use Rattle.std.specs.Prelude.{◌≡◌, ℕ, Option, Some, None, List, [], ◌∷◌, ◌++◌, slice_set}
use Rattle.std.specs.Coded.{coded_option}
use mathlib.Core.Option.{some}
use lib.ListN.{get_elem?}
use base.Share.{three_quarters}
use base.Stored.{Gv, Coded, coded×, coded_ℕ, coded_via}
use base.Fml.{GName, Lft, Fml, ftrue, fsep, fex, fall, fwand, fupd, fbor, fnamed}
use base.Before.{before}
use Rattle.atomic_table.specs.Table.{State}
use Rattle.atomic_table.specs.Seated.{TableId, itself, seen}
use Rattle.tie_core.specs.Permits.{with_views, PermitsLook, PermitsTrade}

-- an entry: the name of the table's views, the number of its invariant, the number of the entry's own seat, the code of
-- that seat while the entry is empty, and the code of a block's seat that is published there
pub record EntryTie : Type 0 where
  pub views : GName
  pub floor : ℕ
  pub own : ℕ
  pub empty : Gv
  pub placed : Gv

-- how it is stored
abbrev pub entry_tie_coded : Coded EntryTie
entry_tie_coded =
    coded_via (coded× coded_ℕ (coded× coded_ℕ (coded× coded_ℕ (coded× itself itself))))
    (λ (t : EntryTie). (t.views, (t.floor, (t.own, (t.empty, t.placed)))))
    (λ x y e i. record {
      views = (e i).0;
      floor = (e i).1.0;
      own = (e i).1.1.0;
      empty = (e i).1.1.1.0;
      placed = (e i).1.1.1.1;
    })

-- what an entry holds: nothing, or a block, by the number of its seat
abbrev pub Content : Type 0
Content = Option ℕ

-- how it is stored, and what a step found, if it has run
abbrev pub brought_coded : Coded Content
brought_coded = coded_option coded_ℕ

abbrev pub content_coded : Coded (Option Content)
content_coded = coded_option brought_coded

-- the seat of an entry with this content
abbrev pub entry_seat_of : EntryTie → Content → Fml
entry_seat_of t None = seen (λ (g : Gv). g) t.views t.own three_quarters t.empty
entry_seat_of t (Some k) = seen (λ (g : Gv). g) t.views k three_quarters t.placed

-- the seat of an entry that may be tied
abbrev pub entry_seat : Option EntryTie → Content → Fml
entry_seat None v = ftrue
entry_seat (Some t) v = entry_seat_of t v

-- the number of the table's invariant
abbrev pub entry_floor : Option EntryTie → ℕ
entry_floor None = 0
entry_floor (Some t) = t.floor

-- what a step leaves that brings a block, or none: only an empty entry takes it
abbrev pub content_after : Content → Content → Content
content_after None v = v
content_after (Some k) None = Some k
content_after (Some k) (Some j) = Some j

-- a table's lifetime, what its invariant holds, what a caller has once its update has run, and the block that it brings
module _ (age : Lft) (inner : Fml) (gain : Content → Fml) (t : EntryTie) (brought : Content) where
  -- what the update leaves
  abbrev pub visited : Content → Fml
  visited v = fsep (entry_seat (Some t) (content_after brought v)) (fsep inner (gain v))

  -- whatever the entry holds, its seat and the table go along
  abbrev pub visit : Fml
  visit = fall Content (λ v. fwand (fsep (entry_seat (Some t) v) inner) (fupd (visited v)))

  -- a visit: while the table lasts, its update; or the gain, by the content that the step found
  abbrev pub visit_owns : Lft → Option Content → Fml
  visit_owns κ None = fsep (before κ age) (fsep (fnamed t.floor (fbor age inner)) visit)
  visit_owns κ (Some v) = gain v

-- the codes of an entry are those of two views
pub record HasEntryCodes {V : Type 0} (c : V → Gv) (none block : V) (t : EntryTie) : Type 0 where
  pub empty : t.empty ≡ c none
  pub placed : t.placed ≡ c block

-- the same, as a formula
abbrev pub entry_tagged : {V : Type 0} → (V → Gv) → V → V → EntryTie → Fml
entry_tagged c empty placed t = fex (HasEntryCodes c empty placed t) (λ _. ftrue)

-- the entry is tied to this table, whose invariant has this number
pub record IsEntryOf (z : TableId) (number : ℕ) (t : EntryTie) : Type 0 where
  pub views : t.views ≡ z.views_name
  pub floor : t.floor ≡ number

-- an update of an entry has run
abbrev pub HasVisited : Option Content → Type 0
HasVisited None = ⊥
HasVisited (Some v) = Unit {0}

-- the seat is back, and what the step told holds of its view
abbrev pub IsBackFrom : {V : Type 0} → (Content → V → Type 0) → Option Content → List V → Type 0
IsBackFrom then None views = ⊥
IsBackFrom {V} then (Some v) views = (u : V) × (views ≡ u ∷ []) × then v u

-- the caller's seat goes along with a look at an entry, whatever it holds
pub record PermitsVisit {S V : Type 0} (holds : State S V → Type 0) (id : ℕ) (v : V) (t : EntryTie) (empty placed : V)
    (then : Content → V → Type 0) : Type 0 where
  pub at_none : PermitsLook holds id v t.own empty (then None)
  pub at_block : (k : ℕ) → PermitsLook holds id v k placed (then (Some k))

-- the same with an exchange that publishes a block whose seat is j, at the view y: an empty entry's own seat is spent
pub record PermitsPublish {S V : Type 0} (holds : State S V → Type 0) (id : ℕ) (v : V) (t : EntryTie)
    (empty spent placed : V) (j : ℕ) (y : V) (then : Content → V → Type 0) : Type 0 where
  pub at_none : PermitsTrade holds id v t.own empty spent j y placed (then None)
  pub at_block : (k : ℕ) → PermitsLook holds id v k placed (then (Some k))

-- a new entry may come with a step of the caller's seat
abbrev pub PermitsEntry : {S V : Type 0} → (State S V → Type 0) → ℕ → V → V → (V → Type 0) → Type 0
PermitsEntry {S} {V} holds id v empty then = (s : State S V) → holds s → get_elem? s.views id ≡ some v
    → (u : V) × holds (with_views s (slice_set s.views id u ++ empty ∷ [])) × then u
