-- The steps that make the size larger, as others count them.
use Rattle.std.proofs.Common.{◌≡◌, ◌≢◌, ◌⊎◌, ℕ, ◌+◌, ◌-◌, ◌<◌, ◌≤◌, ◌==◌, ◌&&◌, nat_lt, not, Bool, true, false, List, [], ◌∷◌, ◌++◌, length, drop, Option, Some, None, refl, ap, ◌∙◌, arith, inl, inr}
use Rattle.std.proofs.lemmas.List.{length-append, drop-append-le}
use Rattle.std.proofs.lemmas.List.Elements.{filter-append}
use Rattle.std.proofs.lemmas.Bool.{ne_eqb, lt-ltb}
use Rattle.std.specs.List.{filter}
use Rattle.std.specs.Option.{option_to_list}
use Rattle.std.specs.FinMap as map
use Rattle.book_core.specs.declared.events.Event.{Event}
use Rattle.book_core.specs.declared.events.Reply.{Reply}
use Rattle.book_core.specs.declared.commands.Command.{Command}
use Rattle.book_core.specs.declared.commands.Command.TheVariants as commands
use Rattle.book_core.specs.History.{OwnedRun, runs_of}
use Rattle.book_core.proofs.Runs.{runs_of-append}
use Rattle.step_core.specs.declared.machine.phase.CellSlot.{CellSlot}
use Rattle.step_core.specs.declared.machine.phase.CellSlot.TheVariants.{Busy, Filled, Broken}
use Rattle.step_core.specs.declared.machine.phase.Phase.{Phase}
use Rattle.step_core.specs.declared.machine.phase.Phase.TheVariants.{Load, Scout, Put, Exchange, Raise, Begin, Fill, Spoil, Mend, FillMended, Look}
use Rattle.step_core.specs.machine.Storage.{Storage}
use Rattle.step_core.specs.machine.Step.{Outcome, load_growth, load, begin_at, mend_at, look_at, outcome_of}
use Rattle.step_core.specs.machine.Bounds.{IsWithin}
use Rattle.step_core.specs.machine.Work.{growths_of_others}
use Rattle.step_core.proofs.atomic_steps.Cases.{growth_cases, at_least_cases, load_place_cases, exchange_cases, raise_cases, scout_cases}

-- ---- Growths of others

growths-append : (actor : ℕ) (xs ys : List (Event × Reply))
    → growths_of_others actor (xs ++ ys) ≡ growths_of_others actor xs + growths_of_others actor ys
growths-append actor xs ys =
    let counts = (λ (run : OwnedRun). not (run.owner == actor) && nat_lt 0 run.n) in
    ap (λ rs. length (filter counts rs)) (runs_of-append xs ys)
    ∙ ap length (filter-append counts (runs_of xs) (runs_of ys))
    ∙ length-append (filter counts (runs_of xs)) (filter counts (runs_of ys))

-- those since a moment, where events follow
pub growths_since : (actor begun : ℕ) (xs ys : List (Event × Reply)) → begun ≤ length xs
    → growths_of_others actor (drop begun (xs ++ ys)) ≡ growths_of_others actor (drop begun xs) + growths_of_others actor ys
growths_since actor begun xs ys within =
    ap (growths_of_others actor) (drop-append-le begun xs ys within) ∙ growths-append actor (drop begun xs) ys

-- ---- Steps that move the size

-- the step leaves the size, or it is a growth by its actor
abbrev pub Moves : Storage → ℕ → Outcome → Type 0
Moves m actor o =
    (o.storage.size ≡ m.size)
    ⊎ ((n : ℕ) × (0 < n) × (o.storage.size ≡ m.size + n) × (runs_of (option_to_list o.event) ≡ record { owner = actor; from = m.size; n = n } ∷ []))

module _ (limit : ℕ) (m : Storage) (actor : ℕ) where
  growth_moves : (n : ℕ) → Moves m actor (load_growth limit m actor n)
  growth_moves n = growth_cases (Moves m actor) m actor limit n (λ _. inl refl) (λ _ _. inl refl) (λ _. inl refl)

  load_moves : (command : Command) → Moves m actor (load limit m actor command)
  load_moves (commands.Push value) = growth_moves 1
  load_moves (commands.Grow n value) = growth_moves n
  load_moves (commands.AtLeast to value) =
      at_least_cases (Moves m actor) m actor limit to (λ _. inl refl) (λ _ _. inl refl) (λ _ _. inl refl)
  load_moves (commands.Fail n value at) = growth_moves n
  load_moves (commands.Mend place value) =
      load_place_cases (Moves m actor) m actor place (Mend place) (λ _. inl refl) (λ _. inl refl)
  load_moves (commands.Read place) =
      load_place_cases (Moves m actor) m actor place (Look place) (λ _. inl refl) (λ _. inl refl)
  load_moves commands.Size = inl refl

  begin_moves : (command : Command) (from n place : ℕ) (slot : Option CellSlot) → Moves m actor (begin_at m actor command from n place slot)
  begin_moves command from n place None = inl refl
  begin_moves command from n place (Some slot) = inl refl

  look_moves : (place : ℕ) (slot : Option CellSlot) → Moves m actor (look_at m actor place slot)
  look_moves place None = inl refl
  look_moves place (Some (Busy owner)) = inl refl
  look_moves place (Some (Filled value)) = inl refl
  look_moves place (Some Broken) = inl refl

  mend_moves : (place : ℕ) (slot : Option CellSlot) → Moves m actor (mend_at m actor place slot)
  mend_moves place None = inl refl
  mend_moves place (Some (Busy owner)) = inl refl
  mend_moves place (Some (Filled value)) = inl refl
  mend_moves place (Some Broken) = inl refl

  -- each row of the step table
  pub row_moves : (command : Command) (memory : Bool) (phase : Phase) → IsWithin m.layout limit command phase
      → Moves m actor (outcome_of limit m actor command memory phase)
  row_moves command memory Load within = load_moves command
  row_moves command memory (Scout from n segment) within =
      scout_cases (Moves m actor) m command from n segment (λ _. inl refl) (inl refl)
  row_moves command true (Put from n segment) within = inl refl
  row_moves command false (Put from n segment) within = inl refl
  row_moves command memory (Exchange from n) (some, room, exchanges) =
      exchange_cases (Moves m actor) m actor limit from n (λ _. inr (n, some, refl, refl)) (λ _. inl refl) (λ _. inl refl)
  row_moves command memory (Raise to) within =
      raise_cases (Moves m actor) m actor to (λ _. inl refl) (λ more. inr (to - m.size, omega arith, refl, refl))
  row_moves command memory (Begin from n place) within = begin_moves command from n place (map.get m.slots place)
  row_moves command memory (Fill from n place) within = inl refl
  row_moves command memory (Spoil from n place) within = inl refl
  row_moves command memory (Mend place) within = mend_moves place (map.get m.slots place)
  row_moves command memory (FillMended place) within = inl refl
  row_moves command memory (Look place) within = look_moves place (map.get m.slots place)

-- no step makes the size smaller
pub moves_up : (m : Storage) (actor : ℕ) (o : Outcome) → Moves m actor o → m.size ≤ o.storage.size
moves_up m actor o (inl same) = omega arith
moves_up m actor o (inr (n, some, more, runs)) = omega arith

-- and where it makes it larger, each other actor counts a growth
pub moves_count : (m : Storage) (actor other : ℕ) (o : Outcome) → actor ≢ other → Moves m actor o
    → o.storage.size ≢ m.size → 0 < growths_of_others other (option_to_list o.event)
moves_count m actor other o apart (inl same) moved = absurd (moved same)
moves_count m actor other o apart (inr (n, some, more, runs)) moved =
    let counts : (not (actor == other) && nat_lt 0 n) ≡ true = rw (ne_eqb actor other apart, lt-ltb 0 n some) refl in
    rw (runs, counts) (omega arith)
