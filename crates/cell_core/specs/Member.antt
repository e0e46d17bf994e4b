-- What is known of a cell, and of each cell of a row.
use Rattle.std.specs.Prelude.{◌≡◌, ◌≢◌, ℕ, suc, ◌+◌, ◌<◌, Option, Some, None, List, [], ◌∷◌, ◌++◌, length, slice_get, slice_set}
use Rattle.std.specs.Coded.{coded_option}
use base.Stored.{Gv, Coded, gnil, gcons, gnum, coded×, coded_ℕ, coded_list, coded_via}
use base.Fml.{Lft, GName, Fml, ftrue, fsep, fex, fauth, finv}
use denote.RattleType.{RattleType}
use Rattle.cell_core.specs.Slot.{Names, IsPlain, cell_in, fact, written, filled_state, owner_broken_state}
use Rattle.cell_core.specs.Laid.{IsAnother}
use Rattle.cell_core.specs.Fixed.{stage_in, untied_cell}
use Rattle.tie_core.specs.Tie.{Stage, Begun, Broken}

-- what is known of a cell: the value that it always keeps and the value's name; or otherwise the epoch in
-- which it stays broken, and that the name never gets a value
pub record MemberView (T : Type 0) : Type 0 where
  pub value : Option T
  pub name : ℕ
  pub epoch : Lft

-- how that is stored
abbrev pub member_coded : {T : Type 0} → Coded T → Coded (MemberView T)
member_coded {T} c =
    coded_via (coded× (coded_option c) (coded× coded_ℕ (coded_list coded_ℕ)))
    (λ (m : MemberView T). (m.value, (m.name, m.epoch)))
    (λ x y e i. record { value = (e i).0; name = (e i).1.0; epoch = (e i).1.1 })

-- a name that has this has no value
abbrev pub IsUnset : Gv → Type 0
IsUnset gnil = Unit {0}
IsUnset (gcons x y) = ⊥
IsUnset (gnum n) = Unit {0}

-- what shows that a name never gets a value
abbrev pub unfilled : GName → Fml
unfilled γ = fex Gv (λ v. fsep (fact (IsUnset v)) (finv (fauth γ v)))

module _ (R : RattleType) where
  -- what shows what is known
  abbrev pub known_as : Option R.Denot → GName → Fml
  known_as (Some x) γ = written R γ x
  known_as None γ = unfilled γ

  -- the same of a cell
  abbrev pub member : MemberView R.Denot → Fml
  member m = known_as m.value m.name

  -- the same of each cell of a row
  abbrev pub members : List (MemberView R.Denot) → Fml
  members [] = ftrue
  members (m ∷ ms) = fsep (member m) (members ms)

-- what is known by these names is known of the cell
abbrev pub HasNames : {T : Type 0} → Names → Option T → ℕ → Lft → Type 0
HasNames γ (Some x) name epoch = name ≡ γ.value_name
HasNames γ None name epoch = epoch ≡ γ.epoch

-- the state of a cell by what is known of it, while its epoch lasts
abbrev pub IsStateOf : {T : Type 0} → Option T → ℕ → Type 0
IsStateOf (Some x) state = state ≡ filled_state
IsStateOf None state = state ≡ owner_broken_state

-- the same at any time: a cell that is not known to have a value may be in any state
abbrev pub MayBeStateOf : {T : Type 0} → Option T → ℕ → Type 0
MayBeStateOf (Some x) state = state ≡ filled_state
MayBeStateOf None state = Unit {0}

-- the epoch is that of a cell that is not known to have a value
abbrev pub IsEpochOf : {T : Type 0} → Option T → Lft → Lft → Type 0
IsEpochOf value own epoch = value ≡ None → own ≡ epoch

-- what settling the cell at an index leaves: a cell with a value stays, and any other is broken for the
-- epoch, under new names
abbrev pub Settles : {T : Type 0} → List Names → ℕ → List Names → Option T → Lft → Type 0
Settles old i new (Some x) epoch = new ≡ old
Settles old i new None epoch = (c : Names) × IsAnother (cell_in old i) c × (new ≡ slice_set old i c) × (epoch ≡ c.epoch)

-- what a row knows of its members from an index on is true of these cells
abbrev pub KnowsCells : {T : Type 0} → List (MemberView T) → ℕ → List Names → Type 0
KnowsCells {T} ms j γs =
    (i : ℕ) (m : MemberView T) → i < length γs → slice_get ms (j + i) ≡ Some m
    → HasNames (cell_in γs i) m.value m.name m.epoch

-- each cell that is broken by its stage of these is a member without a value, broken for this epoch; the first cell is
-- the member at an index
abbrev pub AreBrokenMembers : {T : Type 0} → List Stage → List (MemberView T) → ℕ → Lft → Type 0
AreBrokenMembers {T} stages ms j epoch =
    (i : ℕ) → slice_get stages i ≡ Some Broken
    → (m : MemberView T) × (slice_get ms (j + i) ≡ Some m) × (m.value ≡ None) × (m.epoch ≡ epoch)

-- The same cell without its tie. The name of its value may be another one, but only if the cell may be begun: not if it
-- was not tied, or was fixed at another stage
pub record IsUntied (old new : Names) : Type 0 where
  pub plain : IsPlain new
  pub broken : new.broken_name ≡ old.broken_name
  pub epoch : new.epoch ≡ old.epoch
  pub kept : IsPlain old → new ≡ old
  pub same : (s : Stage) → stage_in old ≡ Some s → s ≢ Begun → new ≡ untied_cell old

-- the same of each of some cells
abbrev pub AreUntied : List Names → List Names → Type 0
AreUntied [] [] = Unit {0}
AreUntied [] (γ' ∷ γs') = ⊥
AreUntied (γ ∷ γs) [] = ⊥
AreUntied (γ ∷ γs) (γ' ∷ γs') = IsUntied γ γ' × AreUntied γs γs'

-- the new list is the old one without its last member
abbrev pub HasOneLess : {T : Type 0} → List (MemberView T) → List (MemberView T) → Type 0
HasOneLess {T} old new = (last : MemberView T) × (old ≡ new ++ last ∷ [])

-- the cells from an index on have these values, by what is known of each
abbrev pub HaveValues : {T : Type 0} → List Names → ℕ → List (MemberView T) → List T → Type 0
HaveValues γs j [] [] = Unit {0}
HaveValues γs j [] (x ∷ xs) = ⊥
HaveValues γs j (m ∷ ms) [] = ⊥
HaveValues γs j (m ∷ ms) (x ∷ xs) =
    (m.value ≡ Some x) × (m.name ≡ (cell_in γs j).value_name) × HaveValues γs (suc j) ms xs
