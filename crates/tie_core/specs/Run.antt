-- What ties a run of cells to a table: one step changes them all, and the cells' seats go along one after the other.
use Rattle.std.specs.Prelude.{◌≡◌, ℕ, zero, suc, ◌+◌, ◌<◌, Option, Some, None, List, [], ◌∷◌, ◌++◌, length}
use Rattle.std.specs.Coded.{coded_option}
use base.Stored.{Coded, coded×, coded_list, coded_via}
use base.Fml.{Lft, Fml, fsep, fbor, fnamed}
use base.Before.{before}
use Rattle.atomic_table.specs.Table.{State}
use Rattle.tie_core.specs.Tie.{Tie, Stage, stage_coded, Step, Made, tie_further, update}
use Rattle.tie_core.specs.Permits.{PermitsCell}

-- the ties of n seats with numbers in a row, of which this is the first
abbrev pub run_of : Tie → ℕ → List Tie
run_of t zero = []
run_of t (suc n) = t ∷ run_of (tie_further t 1) n

-- the number of the invariant of the first one's table
abbrev pub run_floor : List Tie → ℕ
run_floor [] = 0
run_floor (t ∷ ts) = t.floor

-- how the stages of each cell before and after a step are stored, in order
abbrev pub run_made_coded : Coded (Option (List Made))
run_made_coded = coded_option
    (coded_list (coded_via (coded× stage_coded stage_coded) (λ (m : Made). (m.0, m.1)) (λ x y e i. ((e i).0, (e i).1))))

-- the updates of a run have run
abbrev pub IsRunMade : Option (List Made) → Type 0
IsRunMade None = ⊥
IsRunMade (Some ms) = Unit {0}

-- a table's lifetime, what its invariant holds, and the step on each cell
module _ (age : Lft) (inner : Fml) (step : Step) where
  -- the updates of the cells, one after the other; what they leave is a gain by the stages of all cells
  abbrev pub updates : List Tie → (List Made → Fml) → Fml
  updates [] gain = gain []
  updates (t ∷ ts) gain = update age inner (λ s s'. updates ts (λ ms. gain ((s, s') ∷ ms))) t step

  -- an offer for a run: while the table lasts, its updates; or the gain
  abbrev pub run_offer_owns : List Tie → (List Made → Fml) → Lft → Option (List Made) → Fml
  run_offer_owns ts gain κ None = fsep (before κ age) (fsep (fnamed (run_floor ts) (fbor age inner)) (updates ts gain))
  run_offer_owns ts gain κ (Some ms) = gain ms

-- the seat is back, and what the steps told holds of its view
abbrev pub IsBackWith : {V : Type 0} → (List Made → V → Type 0) → Option (List Made) → List V → Type 0
IsBackWith then None views = ⊥
IsBackWith {V} then (Some ms) views = (u : V) × (views ≡ u ∷ []) × then ms u

-- The seat `id`, at the view v, goes along with a step on each of n cells, one after the other, whose seats have
-- numbers in a row from k on: `then` holds of no step and of v; and if it holds of some steps and of a view, the rule
-- permits the next one, after which it holds too.
pub record PermitsRun {S V : Type 0} (holds : State S V → Type 0) (shows : Stage → V) (step : Step) (id : ℕ) (v : V)
    (k n : ℕ) (then : List Made → V → Type 0) : Type 0 where
  pub start : then [] v
  pub next : (ms : List Made) (u : V) → length ms < n → then ms u
      → PermitsCell holds shows step id u (k + length ms) (λ a b w. then (ms ++ (a, b) ∷ []) w)
