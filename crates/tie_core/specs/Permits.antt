-- What the rule of a table must allow, so that seats of it move in one step on a cell or an entry, or are made.
use Rattle.std.specs.Prelude.{◌≡◌, ◌≢◌, ℕ, List, [], ◌∷◌, ◌++◌, length, map, slice_set}
use mathlib.Core.Option.{some}
use lib.ListN.{get_elem?, replicate}
use Rattle.atomic_table.specs.Table.{State}
use Rattle.tie_core.specs.Tie.{Stage, Idle, Step, Moves, Gives}

-- the same table with these views
abbrev pub with_views : {S V : Type 0} → State S V → List V → State S V
with_views s views = record { words = s.words; homes = s.homes; views = views }

module _ {S V : Type 0} (holds : State S V → Type 0) where
  -- The seat `id`, at the view v, goes along with a step on the cell whose seat is k: whatever the table is and the
  -- step finds, there is a view u that keeps the rule, and `then` holds of the stages before and after it, and of u.
  abbrev pub PermitsCell : (Stage → V) → Step → ℕ → V → ℕ → (Stage → Stage → V → Type 0) → Type 0
  PermitsCell shows step id v k then = (s : State S V) (n : ℕ) (a b : Stage) → holds s → get_elem? s.views id ≡ some v
      → k ≢ id
      → get_elem? s.views k ≡ some (shows a) → Moves step n a b
      → (u : V) × holds (with_views s (slice_set (slice_set s.views id u) k (shows b))) × Gives step a × then a b u

  -- The seat `id`, at the view v, goes along with a look at a cell that has no seat.
  abbrev pub PermitsAlone : ℕ → V → (V → Type 0) → Type 0
  PermitsAlone id v then = (s : State S V) → holds s → get_elem? s.views id ≡ some v
      → (u : V) × holds (with_views s (slice_set s.views id u)) × then u

  -- The seat `id`, at the view v, goes along with a step on an entry that leaves its seat k, at the view x.
  abbrev pub PermitsLook : ℕ → V → ℕ → V → (V → Type 0) → Type 0
  PermitsLook id v k x then = (s : State S V) → holds s → get_elem? s.views id ≡ some v → k ≢ id
      → get_elem? s.views k ≡ some x
      → (u : V) × holds (with_views s (slice_set s.views id u)) × then u

  -- Three seats move at once: the caller's `id`, from v; an entry's own, k, from x to x'; and that of a new block, j,
  -- from y to y'.
  abbrev pub PermitsTrade : ℕ → V → ℕ → V → V → ℕ → V → V → (V → Type 0) → Type 0
  PermitsTrade id v k x x' j y y' then = (s : State S V) → holds s → get_elem? s.views id ≡ some v → k ≢ id → j ≢ id
      → j ≢ k
      → get_elem? s.views k ≡ some x → get_elem? s.views j ≡ some y
      → (u : V) × holds (with_views s (slice_set (slice_set (slice_set s.views id u) k x') j y')) × then u

  -- The rule tells this of two seats: `id`, at the view v, and k, at the view x.
  abbrev pub TellsOfBoth : ℕ → V → ℕ → V → Type 0 → Type 0
  TellsOfBoth id v k x told = (s : State S V) → holds s → get_elem? s.views id ≡ some v → k ≢ id
      → get_elem? s.views k ≡ some x → told

  -- New seats may come: n that show idle cells, and one behind them, whose view is made of the first one's number and
  -- n.
  abbrev pub PermitsRow : (Stage → V) → (ℕ → ℕ → V) → ℕ → Type 0
  PermitsRow shows owner n = (s : State S V) → holds s
      → holds (with_views s ((s.views ++ replicate n (shows Idle)) ++ owner (length s.views) n ∷ []))

  -- New seats may come with a step of the caller's seat `id`, at the view v: those of cells that are there already,
  -- which show these stages, and one behind them, at the view x.
  abbrev pub PermitsAdoption : ℕ → V → (Stage → V) → List Stage → V → (V → Type 0) → Type 0
  PermitsAdoption id v shows stages x then = (s : State S V) → holds s → get_elem? s.views id ≡ some v
      → (u : V) × holds (with_views s ((slice_set s.views id u ++ map shows stages) ++ x ∷ [])) × then u
