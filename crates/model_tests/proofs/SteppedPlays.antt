-- A machine that takes the steps of a schedule, one after another.
use Rattle.std.proofs.Common.{◌≡◌, ℕ, ◌+◌, ◌<◌, ◌≤◌, false, List, [], ◌∷◌, ◌++◌, length, get_or, take, Result, Ok, Err, IfOk, add-one, ap, sym, ◌∙◌, arith}
use Rattle.std.specs.Result.{is_err}
use Rattle.std.proofs.Math.Seq.{take-suc, take-length}
use Rattle.std.proofs.lemmas.Bool.{false≢true}
use Rattle.book_core.specs.declared.commands.Command.{Command}
use Rattle.book_core.specs.declared.commands.Item.{Item}
use Rattle.step_core.specs.declared.machine.Stepped.{Stepped}
use Rattle.step_core.specs.machine.Step.{Configuration, Step, IsStepped, step_of}
use Rattle.step_core.specs.machine.Play.{Play, play_of, PlaysGoOnByAStep}

-- if a step did not run out of memory, the machine is at the step's result
pub is_stepped : {E : Type 0} (r : Result Stepped E) (step : Step) (to : Configuration) → is_err r ≡ false
    → IfOk r (λ stepped. IsStepped step to stepped) → to ≡ step.to
is_stepped (Ok stepped) step to fine is = is.0
is_stepped (Err e) step to fine is = absurd (false≢true (sym fine))

module _ (f limit : ℕ) (programs : List (List Command)) (items : List Item) (i : ℕ) where
  -- after an added item it is in the configuration of the play with that item
  pub at_next_item : PlaysGoOnByAStep → (d : Item) (before after : Configuration) → i < length items
      → before ≡ (play_of f limit programs (take i items)).at
      → after ≡ (step_of before (get_or items i d).actor (get_or items i d).memory).to
      → after ≡ (play_of f limit programs (take (i + 1) items)).at
  at_next_item law d before after inside here stepped =
      let item : Item = get_or items i d in
      let longer : take (i + 1) items ≡ take i items ++ item ∷ [] = ap (λ n. take n items) (add-one i) ∙ take-suc items i d inside in
      stepped
      ∙ ap (λ (c : Configuration). (step_of c item.actor item.memory).to) here
      ∙ ap (λ (p : Play). p.at) (sym (law f limit programs (take i items) item))
      ∙ ap (λ xs. (play_of f limit programs xs).at) (sym longer)

  -- after the last item it is at that of the whole play
  pub at_the_end : (machine : Configuration) → length items ≤ i → i ≤ length items
      → machine ≡ (play_of f limit programs (take i items)).at → machine ≡ (play_of f limit programs items).at
  at_the_end machine past within here =
      let last : i ≡ length items = omega arith in
      here ∙ ap (λ xs. (play_of f limit programs xs).at) (ap (λ n. take n items) last ∙ take-length items)
