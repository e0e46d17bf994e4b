-- No step changes the layout.
use Rattle.std.proofs.Common.{◌≡◌, ℕ, Bool, true, false, List, [], ◌∷◌, Option, Some, None, refl, ◌∙◌}
use Rattle.std.specs.FinMap as map
use Rattle.book_core.specs.declared.commands.Command.{Command}
use Rattle.book_core.specs.declared.commands.Command.TheVariants as commands
use Rattle.book_core.specs.declared.commands.Item.{Item}
use Rattle.step_core.specs.declared.machine.phase.CellSlot.{CellSlot}
use Rattle.step_core.specs.declared.machine.phase.CellSlot.TheVariants.{Busy, Filled, Broken}
use Rattle.step_core.specs.declared.machine.phase.Phase.{Phase}
use Rattle.step_core.specs.declared.machine.phase.Phase.TheVariants.{Load, Scout, Put, Exchange, Raise, Begin, Fill, Spoil, Mend, FillMended, Look}
use Rattle.step_core.specs.machine.Storage.{Storage}
use Rattle.step_core.specs.machine.Step.{Configuration, Outcome, load_growth, load, begin_at, mend_at, look_at, outcome_of, step_of}
use Rattle.step_core.specs.machine.Play.{Play, empty_play, with_step, after_items, PlaysKeepTheLayout}
use Rattle.step_core.proofs.atomic_steps.Cases.{growth_cases, at_least_cases, load_place_cases, exchange_cases, raise_cases, scout_cases, step_cases}

-- the outcome is of the same layout
abbrev Keeps : Storage → Outcome → Type 0
Keeps m outcome = outcome.storage.layout ≡ m.layout

module _ (limit : ℕ) (m : Storage) (actor : ℕ) where
  growth_keeps : (n : ℕ) → Keeps m (load_growth limit m actor n)
  growth_keeps n = growth_cases (Keeps m) m actor limit n (λ _. refl) (λ _ _. refl) (λ _. refl)

  load_keeps : (command : Command) → Keeps m (load limit m actor command)
  load_keeps (commands.Push value) = growth_keeps 1
  load_keeps (commands.Grow n value) = growth_keeps n
  load_keeps (commands.AtLeast to value) =
      at_least_cases (Keeps m) m actor limit to (λ _. refl) (λ _ _. refl) (λ _ _. refl)
  load_keeps (commands.Fail n value at) = growth_keeps n
  load_keeps (commands.Mend place value) = load_place_cases (Keeps m) m actor place (Mend place) (λ _. refl) (λ _. refl)
  load_keeps (commands.Read place) = load_place_cases (Keeps m) m actor place (Look place) (λ _. refl) (λ _. refl)
  load_keeps commands.Size = refl

  begin_keeps : (command : Command) (from n place : ℕ) (slot : Option CellSlot) → Keeps m (begin_at m actor command from n place slot)
  begin_keeps command from n place None = refl
  begin_keeps command from n place (Some slot) = refl

  look_keeps : (place : ℕ) (slot : Option CellSlot) → Keeps m (look_at m actor place slot)
  look_keeps place None = refl
  look_keeps place (Some (Busy owner)) = refl
  look_keeps place (Some (Filled value)) = refl
  look_keeps place (Some Broken) = refl

  mend_keeps : (place : ℕ) (slot : Option CellSlot) → Keeps m (mend_at m actor place slot)
  mend_keeps place None = refl
  mend_keeps place (Some (Busy owner)) = refl
  mend_keeps place (Some (Filled value)) = refl
  mend_keeps place (Some Broken) = refl

  -- each row of the step table
  pub row_keeps_layout : (command : Command) (memory : Bool) (phase : Phase)
      → (outcome_of limit m actor command memory phase).storage.layout ≡ m.layout
  row_keeps_layout command memory Load = load_keeps command
  row_keeps_layout command memory (Scout from n segment) = scout_cases (Keeps m) m command from n segment (λ _. refl) refl
  row_keeps_layout command true (Put from n segment) = refl
  row_keeps_layout command false (Put from n segment) = refl
  row_keeps_layout command memory (Exchange from n) =
      exchange_cases (Keeps m) m actor limit from n (λ _. refl) (λ _. refl) (λ _. refl)
  row_keeps_layout command memory (Raise to) = raise_cases (Keeps m) m actor to (λ _. refl) (λ _. refl)
  row_keeps_layout command memory (Begin from n place) = begin_keeps command from n place (map.get m.slots place)
  row_keeps_layout command memory (Fill from n place) = refl
  row_keeps_layout command memory (Spoil from n place) = refl
  row_keeps_layout command memory (Mend place) = mend_keeps place (map.get m.slots place)
  row_keeps_layout command memory (FillMended place) = refl
  row_keeps_layout command memory (Look place) = look_keeps place (map.get m.slots place)

-- so does a step
step_keeps_layout : (c : Configuration) (actor : ℕ) (memory : Bool)
    → (step_of c actor memory).to.storage.layout ≡ c.storage.layout
step_keeps_layout c actor memory =
    step_cases (λ step. step.to.storage.layout ≡ c.storage.layout) c actor memory refl
    (λ state command there is. row_keeps_layout c.limit c.storage actor command memory state.phase)

-- and so do items
items_keep_layout : (p : Play) (items : List Item) → (after_items p items).at.storage.layout ≡ p.at.storage.layout
items_keep_layout p [] = refl
items_keep_layout p (item ∷ items) =
    items_keep_layout (with_step p (step_of p.at item.actor item.memory)) items
    ∙ step_keeps_layout p.at item.actor item.memory

pub plays_keep_the_layout : PlaysKeepTheLayout
plays_keep_the_layout f limit programs items = items_keep_layout (empty_play f limit programs) items
