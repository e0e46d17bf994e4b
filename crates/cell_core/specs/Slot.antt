-- What a raw cell owns and lends. A cell has a field of its own in a word that it shares with its neighbours, and a
-- room for its value. Each time the word is lent, its cells take a turn: a lifetime, and a name for each cell that
-- tracks what the cell's room holds. One invariant holds the word, and of each cell the right to write or the shared
-- value. A cell has an epoch too, a lifetime. It has ended for all cells but those that an owner broke: such a cell
-- stays broken as long as its epoch lasts, and has a seat only once it has ended.
use Rattle.std.specs.Prelude.{◌≡◌, ◌≢◌, ℕ, zero, suc, ◌+◌, ◌<◌, ◌≤◌, Bool, true, false, eqb, Option, Some, None, List, [], ◌∷◌, length, get_or}
use Rattle.std.specs.Coded.{coded_option}
use mir.Syntax.{w64, ty_int}
use mir.Raw.{raw}
use mir.Val.{vint}
use base.Fraction.{full_share}
use base.Stored.{Gv, Coded, gnil, gcons, gnum, coded×, coded_ℕ, coded_list, coded_via}
use base.Fml.{Lft, GName, Fml, ftrue, ffalse, fsep, fex, fat, fobs, fauth, fres, froom, fbor, fdead, fnamed}
use base.Before.{before}
use prog.Memory.{size}
use denote.RattleType.{RattleType}
use denote.Memory.{lone, part_at, shared_of}
use denote.RawPtr.{Ptr, block_ptr, null_ptr}
use Rattle.cell_core.specs.Fields.{pack}
use Rattle.tie_core.specs.Tie.{Tie, tie_coded, Stage, Idle, Begun, Mending, Filled, Broken, IsTied, seat_at, floor_of}

-- the names of a cell: one gets the value that fills it, another is set when it breaks; its epoch, and its tie
pub record Names : Type 0 where
  pub value_name : GName
  pub broken_name : GName
  pub epoch : Lft
  pub tied : Option Tie

-- how the names are stored
abbrev pub names_coded : Coded Names
names_coded =
    coded_via (coded× coded_ℕ (coded× coded_ℕ (coded× (coded_list coded_ℕ) (coded_option tie_coded))))
    (λ (n : Names). (n.value_name, (n.broken_name, (n.epoch, n.tied))))
    (λ x y e i. record {
      value_name = (e i).0;
      broken_name = (e i).1.0;
      epoch = (e i).1.1.0;
      tied = (e i).1.1.1;
    })

-- the names of the cell at an index
abbrev pub cell_in : List Names → ℕ → Names
cell_in γs i = get_or γs i (record { value_name = 0; broken_name = 0; epoch = []; tied = None })

-- the cell is not tied
abbrev pub IsPlain : Names → Type 0
IsPlain γ = γ.tied ≡ None

-- the same of each of some cells
abbrev pub ArePlain : List Names → Type 0
ArePlain [] = Unit {0}
ArePlain (γ ∷ γs) = IsPlain γ × ArePlain γs

-- some cells have these ties
abbrev pub AreTied : List (Option Tie) → List Names → Type 0
AreTied [] [] = Unit {0}
AreTied [] (γ ∷ γs) = ⊥
AreTied (τ ∷ τs) [] = ⊥
AreTied (τ ∷ τs) (γ ∷ γs) = (γ.tied ≡ τ) × AreTied τs γs

-- the cell has no seat: it is not tied, or its tie is fixed
abbrev pub HasNoSeat : Option Tie → Type 0
HasNoSeat None = Unit {0}
HasNoSeat (Some t) = t.fixed ≢ None

-- a number above those of the invariants that some cells are tied to
abbrev pub floors : List Names → ℕ
floors [] = 0
floors (γ ∷ γs) = floor_of γ.tied + floors γs

-- a cell is free, begun, busy with one writer, full, broken, or broken by an owner for its epoch; only a tied cell is
-- begun, and a busy one that is tied is being mended
pub data Phase (X : Type 0) : Type 0 where
  free : Phase X
  begun : Phase X
  busy : Phase X
  full : X → Phase X
  broken : Phase X
  broken_by_owner : Phase X

-- the state of a cell that is empty, that one writer has, that is filled, that is broken, and that an owner broke
abbrev pub empty_state : ℕ
empty_state = 0

abbrev pub busy_state : ℕ
busy_state = 1

abbrev pub filled_state : ℕ
filled_state = 3

abbrev pub broken_state : ℕ
broken_state = 5

abbrev pub owner_broken_state : ℕ
owner_broken_state = 9

-- what a mender of a cell with a seat sought, by what it found: it takes a broken cell whoever broke it
abbrev pub mender_sought : ℕ → ℕ
mender_sought zero = broken_state
mender_sought (suc zero) = broken_state
mender_sought (suc (suc zero)) = broken_state
mender_sought (suc (suc (suc zero))) = broken_state
mender_sought (suc (suc (suc (suc n)))) = suc (suc (suc (suc n)))

-- a mender found what it sought exactly if it found a broken cell
abbrev pub SeeksBroken : ℕ → ℕ → Type 0
SeeksBroken found sought = (filled_state < found → found ≡ sought) × (found ≤ filled_state → found ≢ sought)

-- what makes a cell filled, and broken, that its writer has: by whether it is begun and not busy
abbrev pub fill_added : Bool → ℕ
fill_added true = 3
fill_added false = 2

abbrev pub break_added : Bool → ℕ
break_added true = 5
break_added false = 4

-- the state of a cell that its writer has, and how far the cell is: by whether it is begun and not busy
abbrev pub writer_state : Bool → ℕ
writer_state true = empty_state
writer_state false = busy_state

abbrev pub writer_stage : Bool → Stage
writer_stage true = Begun
writer_stage false = Mending

-- the state of each phase
abbrev pub state : {X : Type 0} → Phase X → ℕ
state free = empty_state
state begun = empty_state
state busy = busy_state
state (full x) = filled_state
state broken = broken_state
state broken_by_owner = owner_broken_state

-- how far a cell is, in each phase
abbrev pub stage : {X : Type 0} → Phase X → Stage
stage free = Idle
stage begun = Begun
stage busy = Mending
stage (full x) = Filled
stage broken = Broken
stage broken_by_owner = Broken

-- what the room holds, and the phase
abbrev pub Rest : Type 0 → Type 0
Rest X = Option X × Phase X

-- a turn: the lifetime of the lending, and the names that track what each room holds
abbrev pub Turn : Type 0
Turn = Lft × (ℕ → GName)

-- a cell of some that are lent: the names of all, their turn, and where their rooms begin
abbrev pub Spot : Type 0
Spot = List Names × Turn × ℕ

-- a fact, as a formula
abbrev pub fact : Type 0 → Fml
fact φ = fex φ (λ _. ftrue)

-- the word at a place of memory
abbrev pub word : ℕ → ℕ → ℕ → Fml
word b o n = fat full_share (ty_int w64) b o (vint w64 n)

-- an invariant whose number is above another
abbrev pub above : ℕ → Fml → Fml
above m P = fex ℕ (λ n. fsep (fact (m < n)) (fnamed n P))

-- what the second name has once the cell was broken
abbrev pub broken_mark : Gv
broken_mark = gcons gnil gnil

-- what shows that a cell was once broken
abbrev pub was_broken : GName → Fml
was_broken δ = fres δ broken_mark

-- the second name of a cell that was broken once, and of one that never was
abbrev pub broken_once : GName → Bool → Fml
broken_once δ true = fsep (was_broken δ) (fauth δ broken_mark)
broken_once δ false = fsep (fobs δ gnil) (fauth δ gnil)

module _ (R : RattleType) where
  -- how what the room holds is stored
  abbrev pub content : Coded (Option R.Denot)
  content = coded_option R.coded

  -- how far two rooms lie apart
  abbrev pub step : ℕ
  step = size (lone R.mir)

  -- the offset of the room at an index, of the rooms that begin at an offset
  abbrev pub room_at : ℕ → ℕ → ℕ
  room_at e zero = e
  room_at e (suc i) = room_at (e + step) i

  -- what the first name has in each phase
  abbrev pub mark : Phase R.Denot → Gv
  mark free = gnil
  mark begun = gnum 0
  mark busy = gnil
  mark (full x) = gcons (R.coded.code x) gnil
  mark broken = gnil
  mark broken_by_owner = gnil

  -- what shows that a cell holds a value
  abbrev pub written : GName → R.Denot → Fml
  written γ x = fres γ (mark (full x))

  -- what the room holds: nothing yet, or a value
  abbrev pub place : Option R.Denot → ℕ → ℕ → Fml
  place None b e = froom (raw (lone R.mir)) b e
  place (Some x) b e = part_at R full_share x b e

  -- what the room holds in each phase
  abbrev pub Lies : Option R.Denot → Phase R.Denot → Type 0
  Lies v free = v ≡ None
  Lies v begun = Unit {0}
  Lies v busy = Unit {0}
  Lies v (full x) = v ≡ Some x
  Lies v broken = v ≡ None
  Lies v broken_by_owner = v ≡ None

  module _ (γ : Names) where
    -- both names, as the phase has them
    abbrev pub auths : Phase R.Denot → Fml
    auths s = fsep (fauth γ.value_name (mark s)) (fex Bool (broken_once γ.broken_name))

    -- the right to set the first name
    abbrev pub unset : Fml
    unset = fobs γ.value_name gnil

    -- the cell's epoch has ended
    abbrev pub over : Fml
    over = fdead γ.epoch

    -- the right to write needs both
    abbrev pub settable : Fml
    settable = fsep over unset

    -- the right to set the first name of a begun cell
    abbrev pub reserved : Fml
    reserved = fobs γ.value_name (mark begun)

    -- the right to set the first name, by whether the cell is begun and not busy
    abbrev pub setting : Bool → Fml
    setting true = reserved
    setting false = unset

    -- what a broken cell has: what shows that it is, and the right to set the first name
    abbrev pub broken_unset : Fml
    broken_unset = fsep (was_broken γ.broken_name) unset

    -- what keeps others from a cell that an owner broke while its epoch lasts: it has no seat until the epoch has ended
    abbrev pub ended_or_seatless : Bool → Fml
    ended_or_seatless true = over
    ended_or_seatless false = fact (HasNoSeat γ.tied)

    -- what a cell has that an owner broke
    abbrev pub broken_for_epoch : Fml
    broken_for_epoch = fsep broken_unset (fex Bool ended_or_seatless)

    -- what goes with each phase
    abbrev pub told : Phase R.Denot → Fml
    told free = settable
    told begun = fsep over (fact (IsTied γ.tied))
    told busy = over
    told (full x) = fsep over (written γ.value_name x)
    told broken = fsep over broken_unset
    told broken_by_owner = broken_for_epoch

    -- the seat, as the phase has it
    abbrev pub seat : Phase R.Denot → Fml
    seat s = seat_at γ.tied (stage s)

    -- what goes with each phase, and the seat
    abbrev pub told_tied : Phase R.Denot → Fml
    told_tied s = fsep (told s) (seat s)

    -- the names, and what goes with the phase
    abbrev pub named : Phase R.Denot → Fml
    named s = fsep (auths s) (told_tied s)

    -- a cell that is not lent: its names, and what its room holds
    abbrev pub resting : Rest R.Denot → Fml
    resting s = fsep (named s.1) (fact (Lies s.0 s.1))

    -- a value that is known to be there
    abbrev pub known : Option R.Denot → Fml
    known (Some x) = written γ.value_name x
    known None = ffalse

    -- what a state shows: that there is a value, or that the cell is broken, or nothing
    abbrev pub sighted : ℕ → Option R.Denot → Fml
    sighted zero v = ftrue
    sighted (suc zero) v = ftrue
    sighted (suc (suc zero)) v = was_broken γ.broken_name
    sighted (suc (suc (suc zero))) v = known v
    sighted (suc (suc (suc (suc n)))) v = was_broken γ.broken_name

    -- the same, for some value
    abbrev pub sights : ℕ → Fml
    sights n = fex (Option R.Denot) (sighted n)

    -- a cell in a turn: the lifetime, the name that tracks its room, and the offset of its room
    module _ (α : Lft) (δ : GName) (b e : ℕ) where
      -- the room, with what it holds passed to the turn
      abbrev pub inside : Option R.Denot → Fml
      inside v = fsep (place v b e) (fauth δ (content.code v))

      -- the room, whatever it holds
      abbrev pub Room : Fml
      Room = fex (Option R.Denot) inside

      -- the room is empty, and may be written
      abbrev pub empty : Fml
      empty = fobs δ (content.code None)

      -- what the invariant knows of the room in each phase
      abbrev pub tie : Phase R.Denot → Fml
      tie free = empty
      tie begun = ftrue
      tie busy = ftrue
      tie (full x) = fres δ (content.code (Some x))
      tie broken = empty
      tie broken_by_owner = empty

      -- what the invariant has of the room in each phase
      abbrev pub lent : Phase R.Denot → Fml
      lent free = fbor α Room
      lent begun = ftrue
      lent busy = ftrue
      lent (full x) = shared_of R x b e α
      lent broken = fbor α Room
      lent broken_by_owner = fbor α Room

      -- all that the invariant has of the cell, but its state and its seat
      abbrev pub bare : Phase R.Denot → Fml
      bare s = fsep (auths s) (fsep (told s) (fsep (tie s) (lent s)))

      -- the same with its seat
      abbrev pub cell : Phase R.Denot → Fml
      cell s = fsep (auths s) (fsep (told_tied s) (fsep (tie s) (lent s)))

      -- the right to write
      abbrev pub Right : Fml
      Right = fsep settable (fsep empty (fbor α Room))

      -- the right to write a begun cell
      abbrev pub FirstRight : Fml
      FirstRight = fsep (fsep over reserved) (fsep empty (fbor α Room))

      -- the right to write, by whether the cell is begun and not busy
      abbrev pub right_of : Bool → Fml
      right_of first = fsep (fsep over (setting first)) (fsep empty (fbor α Room))

      -- what a step gains if it found n: the right to write, if it found what it sought; otherwise what n shows
      abbrev pub gained : Bool → Bool → ℕ → Fml
      gained first true n = right_of first
      gained first false n = sights n

      abbrev pub won : Bool → ℕ → ℕ → Fml
      won first sought n = gained first (eqb n sought) n

  -- the same of a row of cells, whose rooms begin at an offset
  abbrev pub cells : List Names → Lft → (ℕ → GName) → ℕ → ℕ → (ℕ → Phase R.Denot) → Fml
  cells [] α δ b e s = ftrue
  cells (γ ∷ γs) α δ b e s = fsep (cell γ α (δ 0) b e (s 0)) (cells γs α (λ i. δ (suc i)) b (e + step) (λ i. s (suc i)))

  -- some cells whose states lie in the word at (b, o), and whose rooms begin at (c, e)
  module _ (γs : List Names) (t : Turn) (b o c e : ℕ) where
    -- the word, and what the invariant has of each cell
    abbrev pub standing : (ℕ → Phase R.Denot) → Fml
    standing s = fsep (word b o (pack γs (λ i. state (s i)))) (cells γs t.0 t.1 c e s)

    -- the whole invariant
    abbrev pub Cells : Fml
    Cells = fex (ℕ → Phase R.Denot) standing

    -- a lending of the cells that is valid for a while
    abbrev pub kept : Lft → Fml
    kept κ = fsep (before κ t.0) (above (floors γs) (fbor t.0 Cells))

  -- what a `&` to the cells holds
  abbrev pub shared_at : List Names → ℕ → ℕ → ℕ → ℕ → Lft → Fml
  shared_at γs b o c e κ = fex Turn (λ t. kept γs t b o c e κ)

  -- the cell with these names is at an index of the spot, and its room lies at an offset
  abbrev pub IsAt : Names → ℕ → ℕ → Spot → Type 0
  IsAt γ i r z = (i < length z.0) × (length z.0 ≤ 16) × (cell_in z.0 i ≡ γ) × (room_at z.2 i ≡ r)

  -- a lending of the cell for κ, whose state is in a field of the word, and whose room lies at the second pointer
  abbrev pub slot_owned : Names → Lft → Ptr → Ptr → ℕ → Fml
  slot_owned γ κ (block_ptr b o) (block_ptr c r) i =
      fex Spot (λ z. fsep (fact (IsAt γ i r z)) (kept z.0 z.1 b o c z.2 κ))
  slot_owned γ κ (block_ptr b o) null_ptr i = ffalse
  slot_owned γ κ null_ptr q i = ffalse

  -- what a pen owns, in a cell that is lent for κ
  abbrev pub pen_owned : Names → Lft → Ptr → Ptr → ℕ → Bool → ℕ → ℕ → Fml
  pen_owned γ κ (block_ptr b o) (block_ptr c r) i first sought found =
      fex Spot (λ z. fsep (fact (IsAt γ i r z))
      (fsep (kept z.0 z.1 b o c z.2 κ) (won γ z.1.0 (z.1.1 i) c r first sought found)))
  pen_owned γ κ (block_ptr b o) null_ptr i first sought found = ffalse
  pen_owned γ κ null_ptr q i first sought found = ffalse
