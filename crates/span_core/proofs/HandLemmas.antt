-- Hands of workers, put together.
use Rattle.std.proofs.Common.{◌≡◌, ℕ, ◌+◌, ◌⊎◌, List, [], ◌∷◌, ◌++◌, length, Result, Ok, Err, IfOk, IfErr, subst, sym, ap, refl, ◌∙◌, arith, append_assoc, length-append}
use Rattle.std.proofs.lemmas.List.{append-nil}
use Rattle.std.proofs.lemmas.List.Elements.{Contains-append_left, Contains-append_right}
use Rattle.std.proofs.lemmas.Result.{IfOk-weaker, IfOk-at_ok, IfErr-weaker}
use Rattle.std.specs.List.{Contains}
use mathlib.Core.List.{IsPrefix}
use Rattle.claim_core.specs.Hand.{HandView}
use Rattle.span_core.specs.Each.{EachFrom}
use Rattle.span_core.specs.Workers.{EachGives, IsOfRange}
use Rattle.span_core.specs.Hands.{IsWithinHand, SaysOfPart, SayInTurn, HaveAnswered, of_answer, of_refusal}
use Rattle.span_core.specs.declared.errors.Refusal.{Refusal}
use Rattle.span_core.specs.declared.errors.Refusal.TheVariants.{NoMemory, NoThread, Stuck, Worker}
use Rattle.span_core.proofs.Ranges.{both-refused}

-- a prefix of a prefix is a prefix
pub prefix_trans : {A : Type 0} (xs ys zs : List A) → IsPrefix xs ys → IsPrefix ys zs → IsPrefix xs zs
prefix_trans xs ys zs p q = (p.0 ++ q.0, sym (append_assoc xs p.0 q.0) ∙ (ap (λ w. w ++ q.0) p.1 ∙ q.1))

-- each hand is part of itself
pub part_self : (a : HandView) → IsWithinHand a a
part_self a = record { of = refl; seen = ([], append-nil a.seen); mine = λ k own. own; log = ([], append-nil a.log) }

part_trans : (a b c : HandView) → IsWithinHand a b → IsWithinHand b c → IsWithinHand a c
part_trans a b c p q =
    record {
      of = p.of ∙ q.of;
      seen = prefix_trans a.seen b.seen c.seen p.seen q.seen;
      mine = λ k own. q.mine k (p.mine k own);
      log = prefix_trans a.log b.log c.log p.log q.log;
    }

-- two hands that were joined are parts of what they are now
pub part_left : (a b c : HandView) → c.of ≡ a.of → IsPrefix a.seen c.seen → IsPrefix a.log c.log → c.mine ≡ a.mine ++ b.mine → IsWithinHand a c
part_left a b c of seen log mine = record {
  of = sym of;
  seen = seen;
  mine = λ k own. subst (λ m. Contains m k) (sym mine) (Contains-append_left a.mine b.mine k own);
  log = log;
}

pub part_right : (a b c : HandView) → c.of ≡ b.of → IsPrefix b.seen c.seen → IsPrefix b.log c.log → c.mine ≡ a.mine ++ b.mine → IsWithinHand b c
part_right a b c of seen log mine = record {
  of = sym of;
  seen = seen;
  mine = λ k own. subst (λ m. Contains m k) (sym mine) (Contains-append_right a.mine b.mine k own);
  log = log;
}

-- what is left of a hand is of its word, and owns the same
pub rest_of : (old rest : HandView) (shares : ℕ) → rest ≡ record old { shares = shares } → rest.of ≡ old.of
rest_of old rest shares kept = ap (λ (h : HandView). h.of) kept

pub rest_mine : (old rest own new : HandView) (shares : ℕ) → rest ≡ record old { shares = shares } → new.mine ≡ rest.mine ++ own.mine
    → new.mine ≡ old.mine ++ own.mine
rest_mine old rest own new shares kept mine = mine ∙ ap (λ (h : HandView). h.mine ++ own.mine) kept

module _ {X : Type 0} (says : ℕ → HandView → X → Type 0) where
  -- what is said of a part of a part
  says-more : (a b : HandView) → IsWithinHand a b → (worker : ℕ) (x : X) → SaysOfPart says a worker x → SaysOfPart says b worker x
  says-more a b part worker x said = (said.0, said.1, part_trans said.0 a b said.2 part)

  pub turn-more : (a b : HandView) (worker : ℕ) (xs : List X) (mine : List ℕ) → IsWithinHand a b → SayInTurn says a worker xs mine
      → SayInTurn says b worker xs mine
  turn-more a b worker [] mine part said = said
  turn-more a b worker (x ∷ xs) mine part (own, rest, one, within, all, others) =
      (own, rest, one, part_trans own a b within part, all, turn-more a b (worker + 1) xs rest part others)

  -- what follows goes on with the workers
  turn-append : (all : HandView) (first next : ℕ) (xs ys : List X) (mine more : List ℕ) → first + length xs ≡ next
      → SayInTurn says all first xs mine → SayInTurn says all next ys more → SayInTurn says all first (xs ++ ys) (mine ++ more)
  turn-append all first next [] ys mine more meets p q =
      let same : next ≡ first = omega (arith, meets) in
      let none : more ≡ mine ++ more = ap (λ m. m ++ more) (sym p) in
      subst (λ m. SayInTurn says all first ys m) none (subst (λ n. SayInTurn says all n ys more) same q)
  turn-append all first next (x ∷ xs) ys mine more meets (own, rest, one, within, split, others) q = (
    own,
    rest ++ more,
    one,
    within,
    ap (λ m. m ++ more) split ∙ append_assoc own.mine rest more,
    turn-append all (first + 1) next xs ys rest more (omega (arith, meets)) others q,
  )

  -- each of them said so of a part
  pub turn-each : (all : HandView) (worker : ℕ) (xs : List X) (mine : List ℕ) → SayInTurn says all worker xs mine
      → EachFrom (SaysOfPart says all) worker xs
  turn-each all worker [] mine said = tt
  turn-each all worker (x ∷ xs) mine (own, rest, one, within, split, others) =
      ((own, one, within), turn-each all (worker + 1) xs rest others)

each-all : {X : Type 0} (P Q : ℕ → X → Type 0) → ((k : ℕ) (x : X) → P k x → Q k x) → (i : ℕ) (xs : List X) → EachFrom P i xs → EachFrom Q i xs
each-all P Q more i [] each = tt
each-all P Q more i (x ∷ xs) each = (more i x each.0, each-all P Q more (i + 1) xs each.1)

module _ {A E : Type 0} (gives : ℕ → HandView → A → Type 0) (refuses : ℕ → HandView → E → Type 0) (may_refuse : ℕ → Type 0) where
  -- why a range has no result, of a larger hand
  pub range-more : (a b : HandView) (first count : ℕ) (e : Refusal E) → IsWithinHand a b
      → IsOfRange (SaysOfPart gives a) (SaysOfPart refuses a) may_refuse first count e
      → IsOfRange (SaysOfPart gives b) (SaysOfPart refuses b) may_refuse first count e
  range-more a b first count NoMemory part is = is
  range-more a b first count NoThread part is = is
  range-more a b first count Stuck part is =
      (is.0, each-all (SaysOfPart gives a) (SaysOfPart gives b) (says-more gives a b part) first is.0 is.1, is.2, is.3)
  range-more a b first count (Worker e) part is =
      (is.0, each-all (SaysOfPart gives a) (SaysOfPart gives b) (says-more gives a b part) first is.0 is.1, is.2, says-more refuses a b part (first + length is.0) e is.3)

module _ {A V E : Type 0} (items : V → List A) (gives : ℕ → HandView → A → Type 0) (refuses : ℕ → HandView → E → Type 0) (may_refuse : ℕ → Type 0) where
  -- the results of a range whose own runs are all those of the hand
  abbrev pub AreAnswers : HandView → ℕ → ℕ → V → Type 0
  AreAnswers all first count v = SayInTurn gives all first (items v) all.mine × (length (items v) ≡ count)

  abbrev pub AreRefused : HandView → ℕ → ℕ → Refusal E → Type 0
  AreRefused all first count e = IsOfRange (SaysOfPart gives all) (SaysOfPart refuses all) may_refuse first count e

  -- the results of both halves, in order
  pub both-answer : (a b c : HandView) (first low middle high : ℕ) (lower upper all : Result V (Refusal E)) → first + low ≡ middle
      → IsWithinHand a c → IsWithinHand b c → c.mine ≡ a.mine ++ b.mine
      → IfOk lower (AreAnswers a first low) → IfOk upper (AreAnswers b middle high)
      → IfOk all (λ v. (xs : V) × (ys : V) × (lower ≡ Ok xs) × (upper ≡ Ok ys) × (items v ≡ items xs ++ items ys))
      → IfOk all (AreAnswers c first (low + high))
  both-answer a b c first low middle high lower upper all meets left right mine p q both =
      IfOk-weaker all _ (AreAnswers c first (low + high)) joined both
    where
      joined : (v : V) → (xs : V) × (ys : V) × (lower ≡ Ok xs) × (upper ≡ Ok ys) × (items v ≡ items xs ++ items ys)
          → AreAnswers c first (low + high) v
      joined v (xs, ys, was, next, made) =
          let x = IfOk-at_ok (AreAnswers a first low) was p in
          let y = IfOk-at_ok (AreAnswers b middle high) next q in
          let n = x.1 in
          let turn = turn-append gives c first middle (items xs) (items ys) a.mine b.mine (omega (arith, meets, n)) (turn-more gives a c first (items xs) a.mine left x.0) (turn-more gives b c middle (items ys) b.mine right y.0) in (
            subst (λ m. SayInTurn gives c first (items v) m) (sym mine) (subst (λ zs. SayInTurn gives c first zs (a.mine ++ b.mine)) (sym made) turn),
            omega (arith, x.1, y.1, ap length made, length-append (items xs) (items ys)),
          )

  -- why they have none together
  pub both-refuse : (a b c : HandView) (first low middle high : ℕ) (lower upper all : Result V (Refusal E)) → first + low ≡ middle
      → IsWithinHand a c → IsWithinHand b c
      → IfOk lower (AreAnswers a first low) → IfErr lower (AreRefused a first low) → IfErr upper (AreRefused b middle high)
      → IfErr all (λ e. (e ≡ NoMemory) ⊎ ((lower ≡ Err e) ⊎ ((xs : V) × (lower ≡ Ok xs) × (upper ≡ Err e))))
      → IfErr all (AreRefused c first (low + high))
  both-refuse a b c first low middle high lower upper all meets left right answered below above ends =
      both-refused items (SaysOfPart gives c) (SaysOfPart refuses c) may_refuse first low middle high lower upper all meets
      (IfOk-weaker lower (AreAnswers a first low) (λ v. EachGives (SaysOfPart gives c) first low (items v)) (λ v x. (turn-each gives c first (items v) a.mine (turn-more gives a c first (items v) a.mine left x.0), x.1)) answered)
      (IfErr-weaker lower (AreRefused a first low) (AreRefused c first low) (λ e is. range-more gives refuses may_refuse a c first low e left is) below)
      (IfErr-weaker upper (AreRefused b middle high) (AreRefused c middle high) (λ e is. range-more gives refuses may_refuse b c middle high e right is) above)
      ends

  -- the caller's hand is joined with that of all workers
  pub all-answer : (old b c : HandView) (workers : ℕ) (all : Result V (Refusal E)) → IsWithinHand b c → c.mine ≡ old.mine ++ b.mine
      → IfOk all (AreAnswers b 0 workers) → IfOk all (λ v. HaveAnswered gives old c workers (items v))
  all-answer old b c workers all part mine answered =
      IfOk-weaker all (AreAnswers b 0 workers) (λ v. HaveAnswered gives old c workers (items v)) (λ v x. (b.mine, mine, turn-more gives b c 0 (items v) b.mine part x.0, x.1)) answered

  pub all-refuse : (b c : HandView) (workers : ℕ) (all : Result V (Refusal E)) → IsWithinHand b c
      → IfErr all (AreRefused b 0 workers) → IfErr all (AreRefused c 0 workers)
  all-refuse b c workers all part refused =
      IfErr-weaker all (AreRefused b 0 workers) (AreRefused c 0 workers) (λ e is. range-more gives refuses may_refuse b c 0 workers e part is) refused

-- what one worker said, as that of a range
module _ {A V E : Type 0} (items : V → List A) (says : ℕ → HandView → Result A E → Type 0) (may_refuse : ℕ → Type 0) where
  abbrev pub Answered : HandView → ℕ → Result V (Refusal E) → Type 0
  Answered own worker told = IfOk told (AreAnswers items (of_answer says) (of_refusal says) may_refuse own worker 1)

  abbrev pub Refused : HandView → ℕ → Result V (Refusal E) → Type 0
  Refused own worker told = IfErr told (AreRefused items (of_answer says) (of_refusal says) may_refuse own worker 1)

  one-answers : (own : HandView) (worker : ℕ) (answer : A) (v : V) → says worker own (Ok answer) → items v ≡ answer ∷ []
      → AreAnswers items (of_answer says) (of_refusal says) may_refuse own worker 1 v
  one-answers own worker answer v given is =
      let turn : SayInTurn (of_answer says) own worker (answer ∷ []) own.mine = (own, [], given, part_self own, sym (append-nil own.mine), refl) in
      (subst (λ xs. SayInTurn (of_answer says) own worker xs own.mine) (sym is) turn, ap length is)

  one-stops : (own : HandView) (worker : ℕ) (e : E) → says worker own (Err e) → AreRefused items (of_answer says) (of_refusal says) may_refuse own worker 1 (Worker e)
  one-stops own worker e given =
      let same : worker ≡ worker + 0 = omega arith in
      ([], tt, omega arith, subst (λ w. SaysOfPart (of_refusal says) own w e) same (own, given, part_self own))

  pub one-told : (own : HandView) (worker : ℕ) (answer : Result A E) (told : Result V (Refusal E)) → says worker own answer
      → ((a : A) → answer ≡ Ok a → IfOk told (λ v. items v ≡ a ∷ []))
      → ((a : A) → answer ≡ Ok a → IfErr told (λ e. e ≡ NoMemory))
      → ((e : E) → answer ≡ Err e → told ≡ Err (Worker e))
      → Answered own worker told × Refused own worker told
  one-told own worker (Ok a) told given answers memory refused = (
    IfOk-weaker told _ (AreAnswers items (of_answer says) (of_refusal says) may_refuse own worker 1) (λ v is. one-answers own worker a v given is) (answers a refl),
    IfErr-weaker told _ (AreRefused items (of_answer says) (of_refusal says) may_refuse own worker 1) (λ e is. subst (AreRefused items (of_answer says) (of_refusal says) may_refuse own worker 1) (sym is) tt) (memory a refl),
  )
  one-told own worker (Err e) told given answers memory refused =
      let is = refused e refl in
      let P : Result V (Refusal E) → Type 0 = λ r. Answered own worker r × Refused own worker r in
      subst P (sym is) (tt, one-stops own worker e given)
