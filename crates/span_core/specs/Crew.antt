-- What workers with a writer each bring and leave.
use Rattle.std.specs.Prelude.{◌≡◌, ℕ, ◌*◌, ◌<◌, ◌≤◌, ◌⊎◌, Option, Some, List, [], Result, Vec, IfOk, IfErr, length}
use Rattle.std.specs.declared.alloc.Global.{Global}
use Rattle.claim_core.specs.Word.{WordView}
use Rattle.claim_core.specs.Hand.{HandView}
use Rattle.grow_core.specs.Vector.{VectorView}
use Rattle.span_core.specs.declared.errors.Refusal.{Refusal}
use Rattle.span_core.specs.declared.errors.Refusal.TheVariants.{NoThread}
use Rattle.span_core.specs.Workers.{IsOfRange}
use Rattle.span_core.specs.Hands.{HaveAnswered, SaysOfPart, SayInTurn, even_share, of_answer, of_refusal}

-- a worker began with a hand of this vector that owned nothing and had these shares. It may return this, and
-- leave its writer this hand
abbrev pub LeavesPart : {T R : Type 0} → (VectorView T → ℕ → HandView → HandView → R → Type 0) → VectorView T
    → ℕ → ℕ → HandView → R → Type 0
LeavesPart {T} {R} says vector shares worker own result =
    (old : HandView) × (old.of ≡ vector.word) × (old.mine ≡ []) × (old.shares ≡ shares)
    × says vector worker old own result

-- why a crew has no result: a thread could not be started, or as a range of workers that all were
abbrev pub IsOfCrew : {A E : Type 0} → (ℕ → A → Type 0) → (ℕ → E → Type 0) → (ℕ → Type 0) → ℕ → ℕ → Refusal E → Type 0
IsOfCrew {A} {E} gives refuses may_refuse first count e =
    (e ≡ NoThread) ⊎ IsOfRange gives refuses may_refuse first count e

-- the workers of a crew returned in turn, each with a writer that had an equal part of the old hand's shares
abbrev pub HaveWritten : {T A E : Type 0} → (VectorView T → ℕ → HandView → HandView → Result A E → Type 0)
    → VectorView T → HandView → HandView → ℕ → List A → Type 0
HaveWritten says vector old new workers answers =
    HaveAnswered (of_answer (LeavesPart says vector (even_share old workers))) old new workers answers

-- why such a crew has no results: each worker below the one that was refused has returned, and left a hand that
-- is part of the new one
abbrev pub IsOfWriters : {T A E : Type 0} → (VectorView T → ℕ → HandView → HandView → Result A E → Type 0)
    → VectorView T → HandView → HandView → (ℕ → Type 0) → ℕ → Refusal E → Type 0
IsOfWriters says vector old new may_refuse workers e =
    IsOfCrew (SaysOfPart (of_answer (LeavesPart says vector (even_share old workers))) new)
    (SaysOfPart (of_refusal (LeavesPart says vector (even_share old workers))) new) may_refuse 0 workers e

-- a part of a crew brings a hand of the vector that owns nothing, with the same shares for each worker. Its
-- writers may be of this vector alone
abbrev pub BringsParts : {T : Type 0} → Option WordView → VectorView T → ℕ → ℕ → HandView → Type 0
BringsParts tied vector shares count hand =
    (hand.of ≡ vector.word) × (hand.mine ≡ []) × (hand.shares ≡ count * shares) × (0 < shares)
    × (tied ≡ Some vector.word)

-- what a part of a crew leaves: one hand of all its runs, with a share of each worker at least; and the
-- results, or why there are none
pub record IsLeftBy {A E : Type 0} (says : ℕ → HandView → Result A E → Type 0) (may_refuse : ℕ → Type 0)
    (word : WordView) (first count : ℕ) (hand : HandView) (answers : Result (Vec A Global) (Refusal E)) : Type 0 where
  pub of : hand.of ≡ word
  pub shares : count ≤ hand.shares
  pub answered : IfOk answers
      (λ all. SayInTurn (of_answer says) hand first all.items hand.mine × (length all.items ≡ count))
  pub refused : IfErr answers
      (IsOfCrew (SaysOfPart (of_answer says) hand) (SaysOfPart (of_refusal says) hand) may_refuse first count)

-- what a part of a crew leaves, if each worker returns what it may
abbrev pub LeavesParts : {T A E : Type 0} → (VectorView T → ℕ → HandView → HandView → Result A E → Type 0)
    → (ℕ → Type 0) → VectorView T → ℕ → ℕ → ℕ → HandView → Result (Vec A Global) (Refusal E) → Type 0
LeavesParts says may_refuse vector shares first count hand answers =
    IsLeftBy (LeavesPart says vector shares) may_refuse vector.word first count hand answers
