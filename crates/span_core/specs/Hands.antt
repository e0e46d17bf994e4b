-- What workers with a hand each leave.
use Rattle.std.specs.Prelude.{◌≡◌, ℕ, ◌+◌, ◌/◌, ◌<◌, ◌≤◌, List, [], ◌∷◌, ◌++◌, Result, Ok, Err, Vec, IfOk, IfErr, length}
use Rattle.std.specs.List.{Contains}
use Rattle.std.specs.Borrow.{Bor, MutBor}
use Rattle.std.specs.declared.alloc.Global.{Global}
use mathlib.Core.List.{IsPrefix}
use Rattle.claim_core.specs.Word.{WordView}
use Rattle.claim_core.specs.Hand.{HandView}
use Rattle.grow_core.specs.Vector.{VectorView}
use Rattle.span_core.specs.declared.errors.Refusal.{Refusal}
use Rattle.span_core.specs.Workers.{IsOfRange}

-- a worker begins with a hand of this word that owns nothing, and has one share
pub record IsNewHandOf (word : WordView) (hand : HandView) : Type 0 where
  pub of : hand.of ≡ word
  pub mine : hand.mine ≡ []
  pub shares : hand.shares ≡ 1

-- the shares of each of n hands that are split off one, which keeps at least as many
abbrev pub even_share : HandView → ℕ → ℕ
even_share hand n = hand.shares / (n + 1)

-- a hand with `shares` shares that is split off another: it has seen the same, and owns nothing
abbrev pub split_off : HandView → ℕ → HandView
split_off hand shares = record hand { mine = []; shares = shares }

-- the hand is of the same word, and has the same shares
pub record KeepsShares (old new : HandView) : Type 0 where
  pub of : new.of ≡ old.of
  pub shares : new.shares ≡ old.shares

-- each worker that was let through may be called with this vector and such a hand
abbrev pub AreCallable : {T : Type 0} → (Bor (VectorView T) → ℕ → MutBor HandView → Type 0) → (ℕ → Type 0)
    → VectorView T → ℕ → Type 0
AreCallable {T} pre through vector workers =
    (shown : Bor (VectorView T)) (worker : ℕ) (hand : MutBor HandView) → shown.now ≡ vector → worker < workers
    → through worker
    → IsNewHandOf shown.now.word hand.now → pre shown worker hand

-- each of them leaves its hand with its shares
abbrev pub KeepHands : {T R : Type 0} → (Bor (VectorView T) → ℕ → MutBor HandView → R → MutBor HandView → Type 0)
    → VectorView T → ℕ → Type 0
KeepHands {T} {R} post vector workers =
    (shown : Bor (VectorView T)) (worker : ℕ) (old : MutBor HandView) (result : R) (new : MutBor HandView)
    → shown.now ≡ vector
    → worker < workers → IsNewHandOf shown.now.word old.now → post shown worker old result new
    → KeepsShares old.now new.now

-- a worker may return this, and leave this hand
abbrev pub Leaves : {T R : Type 0} → (Bor (VectorView T) → ℕ → MutBor HandView → R → MutBor HandView → Type 0)
    → VectorView T → ℕ → HandView → R → Type 0
Leaves {T} {R} post vector worker own result =
    (shown : Bor (VectorView T)) × (old : MutBor HandView) × (new : MutBor HandView) × (shown.now ≡ vector)
    × IsNewHandOf shown.now.word old.now × post shown worker old result new × (new.now ≡ own)

-- all that a hand owns and has seen is the other one's too
pub record IsWithinHand (own all : HandView) : Type 0 where
  pub of : own.of ≡ all.of
  pub seen : IsPrefix own.seen all.seen
  pub mine : (k : ℕ) → Contains own.mine k → Contains all.mine k
  pub log : IsPrefix own.log all.log

-- a worker said so of a hand that is part of this one
abbrev pub SaysOfPart : {X : Type 0} → (ℕ → HandView → X → Type 0) → HandView → ℕ → X → Type 0
SaysOfPart says all worker x = (own : HandView) × says worker own x × IsWithinHand own all

-- what workers from this one on said, each of a hand that is part of this one; their own runs together are
-- these
abbrev pub SayInTurn : {X : Type 0} → (ℕ → HandView → X → Type 0) → HandView → ℕ → List X → List ℕ → Type 0
SayInTurn says all worker [] mine = mine ≡ []
SayInTurn says all worker (x ∷ xs) mine =
    (own : HandView) × (rest : List ℕ) × says worker own x × IsWithinHand own all × (mine ≡ own.mine ++ rest)
    × SayInTurn says all (worker + 1) xs rest

-- the workers returned in turn, and the hand owns their runs after those that it had
abbrev pub HaveAnswered : {A : Type 0} → (ℕ → HandView → A → Type 0) → HandView → HandView → ℕ → List A → Type 0
HaveAnswered gives old new workers answers =
    (mine : List ℕ) × (new.mine ≡ old.mine ++ mine) × SayInTurn gives new 0 answers mine × (length answers ≡ workers)

-- what is said of a result, and of a refusal
abbrev pub of_answer : {A E : Type 0} → (ℕ → HandView → Result A E → Type 0) → ℕ → HandView → A → Type 0
of_answer says worker own answer = says worker own (Ok answer)

abbrev pub of_refusal : {A E : Type 0} → (ℕ → HandView → Result A E → Type 0) → ℕ → HandView → E → Type 0
of_refusal says worker own e = says worker own (Err e)

-- why a range of workers with a hand each has no results: each below the one that was refused has returned, and
-- left a hand that is part of this one
abbrev pub IsOfHands : {A E : Type 0} → (ℕ → HandView → Result A E → Type 0) → HandView → (ℕ → Type 0) → ℕ → ℕ
    → Refusal E → Type 0
IsOfHands says hand may_refuse first count e =
    IsOfRange (SaysOfPart (of_answer says) hand) (SaysOfPart (of_refusal says) hand) may_refuse first count e

-- what a range of workers leaves: one hand of all its runs, with a share of each; and the results, or why
-- there are none
pub record IsLeft {A E : Type 0} (says : ℕ → HandView → Result A E → Type 0) (may_refuse : ℕ → Type 0)
    (word : WordView) (first count : ℕ) (hand : HandView) (answers : Result (Vec A Global) (Refusal E)) : Type 0 where
  pub of : hand.of ≡ word
  pub shares : hand.shares ≡ count
  pub answered : IfOk answers
      (λ all. SayInTurn (of_answer says) hand first all.items hand.mine × (length all.items ≡ count))
  pub refused : IfErr answers (IsOfHands says hand may_refuse first count)

-- what a range of workers brings: a hand of the vector that owns nothing, with a share for each. Each worker
-- that was let through may be called, and leaves its hand with its shares
abbrev pub BringsHand : {T R : Type 0} → (Bor (VectorView T) → ℕ → MutBor HandView → Type 0)
    → (Bor (VectorView T) → ℕ → MutBor HandView → R → MutBor HandView → Type 0) → (ℕ → Type 0) → VectorView T → ℕ
    → ℕ → ℕ → HandView → Type 0
BringsHand pre post through vector workers first count hand =
    (hand.of ≡ vector.word) × (hand.mine ≡ []) × (hand.shares ≡ count) × AreCallable pre through vector workers
    × KeepHands post vector workers × (first + count ≤ workers)

-- what a range of workers leaves, if each returns what it may
abbrev pub LeavesHand : {T A E : Type 0}
    → (Bor (VectorView T) → ℕ → MutBor HandView → Result A E → MutBor HandView → Type 0) → (ℕ → Type 0)
    → VectorView T → ℕ → ℕ → HandView → Result (Vec A Global) (Refusal E) → Type 0
LeavesHand post may_refuse vector first count hand answers =
    IsLeft (Leaves post vector) may_refuse vector.word first count hand answers
