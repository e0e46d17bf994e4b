-- What ties a cell to a table of `atomic_table`: a seat of the table, whose view shows how far the cell is.
use Rattle.std.specs.Prelude.{◌≡◌, ℕ, zero, suc, ◌+◌, ◌<◌, ◌≤◌, Option, Some, None, List, [], ◌∷◌}
use Rattle.std.specs.Coded.{coded_option}
use Rattle.std.proofs.Common.{refl, sym, ap, ◌∙◌}
use base.Share.{three_quarters}
use base.Stored.{Gv, gnil, Coded, coded×, coded_ℕ, coded_via}
use base.Fml.{GName, Lft, Fml, ftrue, fsep, fex, fall, fwand, fupd, fbor, fnamed}
use base.Before.{before}
use Rattle.atomic_table.specs.Seated.{itself, seen}

-- how far a cell is: nobody has begun it, it is begun, a mender has it, it is filled, or it is broken
pub data Stage : Type 0 where
  Idle : Stage
  Begun : Stage
  Mending : Stage
  Filled : Stage
  Broken : Stage

-- how a stage is stored
abbrev pub stage_number : Stage → ℕ
stage_number Idle = 0
stage_number Begun = 1
stage_number Mending = 2
stage_number Filled = 3
stage_number Broken = 4

abbrev pub stage_numbered : ℕ → Stage
stage_numbered zero = Idle
stage_numbered (suc zero) = Begun
stage_numbered (suc (suc zero)) = Mending
stage_numbered (suc (suc (suc zero))) = Filled
stage_numbered (suc (suc (suc (suc n)))) = Broken

pub stage_back : (s : Stage) → stage_numbered (stage_number s) ≡ s
stage_back Idle = refl
stage_back Begun = refl
stage_back Mending = refl
stage_back Filled = refl
stage_back Broken = refl

abbrev pub stage_coded : Coded Stage
stage_coded = coded_via coded_ℕ stage_number (λ x y e. sym (stage_back x) ∙ ap stage_numbered e ∙ stage_back y)

-- A seat of a table: the name of the table's views, the seat's number, the number of the table's invariant, and the
-- code of the view that shows each stage. A tie that is fixed at a stage has no seat: it only says what the stage is.
pub record Tie : Type 0 where
  pub views : GName
  pub id : ℕ
  pub floor : ℕ
  pub idle : Gv
  pub begun : Gv
  pub mending : Gv
  pub filled : Gv
  pub broken : Gv
  pub fixed : Option Stage

-- how a tie is stored
abbrev pub tie_coded : Coded Tie
tie_coded =
    coded_via
    (coded× coded_ℕ (coded× coded_ℕ (coded× coded_ℕ
    (coded× itself (coded× itself (coded× itself (coded× itself (coded× itself (coded_option stage_coded)))))))))
    (λ (t : Tie). (t.views, (t.id, (t.floor, (t.idle, (t.begun, (t.mending, (t.filled, (t.broken, t.fixed)))))))))
    (λ x y e i. record {
      views = (e i).0;
      id = (e i).1.0;
      floor = (e i).1.1.0;
      idle = (e i).1.1.1.0;
      begun = (e i).1.1.1.1.0;
      mending = (e i).1.1.1.1.1.0;
      filled = (e i).1.1.1.1.1.1.0;
      broken = (e i).1.1.1.1.1.1.1.0;
      fixed = (e i).1.1.1.1.1.1.1.1;
    })

-- the code of the view that shows a stage
abbrev pub code_at : Tie → Stage → Gv
code_at t Idle = t.idle
code_at t Begun = t.begun
code_at t Mending = t.mending
code_at t Filled = t.filled
code_at t Broken = t.broken

-- the seat, at the view that shows a stage; or only that this is the stage
abbrev pub seat_of : Tie → Option Stage → Stage → Fml
seat_of t None s = seen (λ (g : Gv). g) t.views t.id three_quarters (code_at t s)
seat_of t (Some a) s = fex (s ≡ a) (λ _. ftrue)

-- the seat of a cell that may be tied
abbrev pub seat_at : Option Tie → Stage → Fml
seat_at None s = ftrue
seat_at (Some t) s = seat_of t t.fixed s

-- the seats of some cells that nobody has begun
abbrev pub seats : List (Option Tie) → Fml
seats [] = ftrue
seats (τ ∷ τs) = fsep (seat_at τ Idle) (seats τs)

-- the seats of some cells that are at these stages, in order
abbrev pub seats_at : List (Option Tie) → List Stage → Fml
seats_at [] stages = ftrue
seats_at (τ ∷ τs) [] = ftrue
seats_at (τ ∷ τs) (s ∷ stages) = fsep (seat_at τ s) (seats_at τs stages)

-- the tie of a cell of an owner's, which nobody has begun: it has no seat, and no table
abbrev pub idle_tie : Tie
idle_tie = record {
  views = 0;
  id = 0;
  floor = 0;
  idle = gnil;
  begun = gnil;
  mending = gnil;
  filled = gnil;
  broken = gnil;
  fixed = Some Idle;
}

-- the ties of n such cells
abbrev pub idle_ties : ℕ → List (Option Tie)
idle_ties zero = []
idle_ties (suc n) = Some idle_tie ∷ idle_ties n

-- the stages of the cells of n places from one on, by what the stage of each place is
abbrev pub stages_from : (ℕ → Stage) → ℕ → ℕ → List Stage
stages_from f from zero = []
stages_from f from (suc n) = f from ∷ stages_from f (from + 1) n

-- the tie of the seat that is n seats further
abbrev pub tie_further : Tie → ℕ → Tie
tie_further t n = record t { id = t.id + n }

-- the tie of the seat with this number, which has the same codes
abbrev pub tie_numbered : Tie → ℕ → Tie
tie_numbered t k = record t { id = k }

-- the ties of n seats with numbers in a row, of which this is the first
abbrev pub row_of : Tie → ℕ → List (Option Tie)
row_of t zero = []
row_of t (suc n) = Some t ∷ row_of (tie_further t 1) n

-- the same tie, fixed at a stage
abbrev pub fixed_at : Option Tie → Stage → Option Tie
fixed_at None s = None
fixed_at (Some t) s = Some (record t { fixed = Some s })

-- the cell is tied
abbrev pub IsTied : Option Tie → Type 0
IsTied None = ⊥
IsTied (Some t) = Unit {0}

-- the number of the table's invariant
abbrev pub floor_of : Option Tie → ℕ
floor_of None = 0
floor_of (Some t) = t.floor

-- the steps on a cell that an offer may go with
pub data Step : Type 0 where
  looks : Step
  begins : Step
  fills : Step
  breaks : Step
  mends : Step

-- how a step is stored
abbrev pub step_number : Step → ℕ
step_number looks = 0
step_number begins = 1
step_number fills = 2
step_number breaks = 3
step_number mends = 4

abbrev pub step_numbered : ℕ → Step
step_numbered zero = looks
step_numbered (suc zero) = begins
step_numbered (suc (suc zero)) = fills
step_numbered (suc (suc (suc zero))) = breaks
step_numbered (suc (suc (suc (suc n)))) = mends

pub step_back : (s : Step) → step_numbered (step_number s) ≡ s
step_back looks = refl
step_back begins = refl
step_back fills = refl
step_back breaks = refl
step_back mends = refl

abbrev pub step_coded : Coded Step
step_coded = coded_via coded_ℕ step_number (λ x y e. sym (step_back x) ∙ ap step_numbered e ∙ step_back y)

-- the state n in the word shows that the cell may be at this stage
abbrev pub Shows : Stage → ℕ → Type 0
Shows Idle n = n ≡ 0
Shows Begun n = n ≡ 0
Shows Mending n = n ≡ 1
Shows Filled n = n ≡ 3
Shows Broken n = 3 < n

-- one call has the cell
abbrev pub IsHeld : Stage → Type 0
IsHeld Idle = ⊥
IsHeld Begun = Unit {0}
IsHeld Mending = Unit {0}
IsHeld Filled = ⊥
IsHeld Broken = ⊥

-- what a step does that finds the state n: the stage before it, and after it
abbrev pub Moves : Step → ℕ → Stage → Stage → Type 0
Moves looks n s s' = Shows s n × (s' ≡ s)
Moves begins n s s' = Shows s n × (s' ≡ Begun)
Moves fills n s s' = Shows s n × IsHeld s × (s' ≡ Filled)
Moves breaks n s s' = Shows s n × IsHeld s × (s' ≡ Broken)
Moves mends n s s' = Shows s n × (3 < n → s' ≡ Mending) × (n ≤ 3 → s' ≡ s)

-- what an update must show of the stage before the step: a begin finds the cell idle
abbrev pub Gives : Step → Stage → Type 0
Gives looks s = Unit {0}
Gives begins s = s ≡ Idle
Gives fills s = Unit {0}
Gives breaks s = Unit {0}
Gives mends s = Unit {0}

-- what an update made: the stages before and after the step
abbrev pub Made : Type 0
Made = Stage × Stage

-- how it is stored
abbrev pub made_coded : Coded (Option Made)
made_coded = coded_option
    (coded_via (coded× stage_coded stage_coded) (λ (m : Made). (m.0, m.1)) (λ x y e i. ((e i).0, (e i).1)))

-- the step found the state n, and its update has run
abbrev pub HasMade : Step → ℕ → Option Made → Type 0
HasMade step n None = ⊥
HasMade step n (Some m) = Moves step n m.0 m.1 × Gives step m.0

-- an update has run
abbrev pub IsMade : Option Made → Type 0
IsMade None = ⊥
IsMade (Some m) = Unit {0}

-- a table's lifetime, what its invariant holds, and what a caller has once its update has run
module _ (age : Lft) (inner : Fml) (gain : Stage → Stage → Fml) (t : Tie) (step : Step) where
  -- what the update leaves
  abbrev pub left : Stage → Stage → Fml
  left s s' = fsep (seat_at (Some t) s') (fsep inner (fsep (gain s s') (fex (Gives step s) (λ _. ftrue))))

  -- whatever the step does, the seat and the table go along
  abbrev pub update : Fml
  update = fall (ℕ × Stage × Stage) (λ m.
      fall (Moves step m.0 m.1 m.2) (λ _. fwand (fsep (seat_at (Some t) m.1) inner) (fupd (left m.1 m.2))))

  -- the gain of an update that has run
  abbrev pub gained_by : Made → Fml
  gained_by m = gain m.0 m.1

  -- an offer: while the table lasts, its update; or the gain
  abbrev pub offer_owns : Lft → Option Made → Fml
  offer_owns κ None = fsep (before κ age) (fsep (fnamed t.floor (fbor age inner)) update)
  offer_owns κ (Some m) = gained_by m
