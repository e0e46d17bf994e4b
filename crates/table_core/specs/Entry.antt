-- An entry as contracts see it, and the blocks that fit it: those that are as long as the entry says, and whose cells
-- are tied as it says, if it says so.
use Rattle.std.specs.Prelude.{◌≡◌, ◌⊎◌, ℕ, zero, suc, List, [], ◌∷◌, IfSome}
use Rattle.std.specs.Coded.{coded_option}
use base.Stored.{Coded, coded×, coded_ℕ, coded_list, coded_via, gnil, gcons}
use base.Fml.{Fml, ftrue, fex, fres}
use denote.RattleType.{RattleType}
use denote.Model.{ByFields}
use denote.Sharing.{said}
use Rattle.std.specs.declared.option.Option.{Option}
use Rattle.std.specs.declared.option.Option.TheVariants.{None, Some}
use Rattle.std.specs.declared.alloc.Global.{Global}
use Rattle.std.specs.contracts.alloc.Global as heap
use Rattle.tie_core.specs.Tie.{Tie, tie_coded}
use Rattle.tie_core.specs.Visit.{EntryTie, entry_tie_coded}

-- how the cells of a block are tied, by numbers that begin at the first cell's seat
abbrev pub Mould : Type 0
Mould = List (Option Tie)

-- the mould of n cells that are not tied
abbrev pub plain_mould : ℕ → Mould
plain_mould zero = []
plain_mould (suc n) = None ∷ plain_mould n

-- what ties an entry: its tie, if it has one, and the mould of its block
abbrev pub Bond : Type 0
Bond = Option EntryTie × Mould

-- an entry: the allocator's handle, how long its block is, its name, and what ties it
abbrev pub EntryView : Type 0
EntryView = Global × ℕ × ℕ × Option Bond

-- how that is stored
abbrev pub bond_coded : Coded (Option Bond)
bond_coded =
    coded_option (coded_via (coded× (coded_option entry_tie_coded) (coded_list (coded_option tie_coded)))
    (λ (u : Bond). (u.0, u.1))
    (λ x y e i. ((e i).0, (e i).1)))

abbrev pub entry_coded : Coded EntryView
entry_coded =
    coded_via (coded× heap.the_row.coded (coded× coded_ℕ (coded× coded_ℕ bond_coded)))
    (λ (e : EntryView). (e.0, (e.1, (e.2, e.3))))
    (λ x y e i. ((e i).0, (e i).1.0, (e i).1.1.0, (e i).1.1.1))

abbrev pub length_of : EntryView → ℕ
length_of e = e.1

abbrev pub name_of : EntryView → ℕ
name_of e = e.2

abbrev pub bond_of : EntryView → Option Bond
bond_of e = e.3

abbrev pub tie_in : Option Bond → Option EntryTie
tie_in None = None
tie_in (Some u) = u.0

abbrev pub mould_in : Option Bond → Mould
mould_in None = []
mould_in (Some u) = u.1

abbrev pub tie_of : EntryView → Option EntryTie
tie_of e = tie_in e.3

-- how the cells of its block are tied; nothing if the entry does not say so
abbrev pub mould_at : EntryView → Mould
mould_at e = mould_in e.3

-- the mould is the one that the entry says, if it is tied
abbrev pub FitsEntry : EntryView → Mould → Type 0
FitsEntry e m = (t : EntryTie) → tie_of e ≡ Some t → m ≡ mould_at e

-- the block x is the one that is known, if any is
abbrev pub Agrees : {X : Type 0} → Option X → X → Type 0
Agrees k x = IfSome k (λ y. y ≡ x)

-- what a sight that knows k holds of the entry of this name
abbrev pub noted : (R : RattleType) → ℕ → Option R.Denot → Fml
noted R γ None = ftrue
noted R γ (Some x) = fres γ (gcons gnil (R.coded.code x))

module _ (R : RattleType) {N : Type 0} (measure : R.Denot → N) where
  -- a block is of this measure, mostly its length
  abbrev pub fits : N → R.Denot → Fml
  fits n x = fex (measure x ≡ n) (λ _. ftrue)

  -- the type of the blocks of this measure
  abbrev pub Fit : N → RattleType
  Fit n = ByFields R R.Denot R.coded (λ x. x) (fits n) (λ x b o. said (fits n x))

-- what an entry sees of a block: its length, and its mould if the entry has one
abbrev pub seen_as : {X : Type 0} → (X → ℕ) → (X → Mould) → Option Bond → X → ℕ × Mould
seen_as measure mould None x = (measure x, [])
seen_as measure mould (Some u) x = (measure x, mould x)

-- the type of the blocks that fit an entry
abbrev pub Cast : (R : RattleType) → (R.Denot → ℕ) → (R.Denot → Mould) → EntryView → RattleType
Cast R measure mould e = Fit R (seen_as measure mould e.3) (length_of e, mould_in e.3)

-- the block fits the entry
abbrev pub IsCast : {X : Type 0} → (X → ℕ) → (X → Mould) → EntryView → X → Type 0
IsCast measure mould e x = seen_as measure mould e.3 x ≡ (length_of e, mould_in e.3)

-- the entry is for blocks whose cells are not tied, and is not tied itself
abbrev pub IsPlainEntry : EntryView → Type 0
IsPlainEntry e = bond_of e ≡ Some (None, plain_mould (length_of e))

-- an entry that is not tied is for blocks whose cells are not tied, or says nothing of them
abbrev pub IsSoft : EntryView → Type 0
IsSoft e = tie_of e ≡ None → (bond_of e ≡ None) ⊎ IsPlainEntry e
