-- The results of a function that a caller knows.
use Rattle.std.proofs.Common.{◌≡◌, ℕ, ◌+◌, Option, None, List, length, map, get_or, subst, ap, ◌∙◌, arith}
use Rattle.std.specs.Option.{option_copied}
use Rattle.std.specs.Borrow.{Bor}
use Rattle.span_core.specs.Each.{EachFrom}
use Rattle.span_core.specs.Span.{Interval}
use Rattle.span_core.specs.Loops.{AnswersAt, AnswersOver}
use Rattle.span_core.proofs.Each.{EachFrom-weaker, EachFrom-map}

module _ {T U : Type 0} (post : ℕ → Option (Bor T) → U → Type 0) (v : Option T → U) where
  -- a function that returns v of a member returns v of all members in order
  pub answers-mapped : ((place : ℕ) (item : Option (Bor T)) (answer : U) → post place item answer → answer ≡ v (option_copied item))
      → (members : List (Option T)) (span : Interval) (all : List U) → span.from ≡ 0 → span.to ≡ length members
      → AnswersOver post members span all → all ≡ map v members
  answers-mapped does members span all first last answers =
      let P : ℕ → U → Type 0 = AnswersAt post members in
      let Q : ℕ → U → Type 0 = λ place answer. answer ≡ v (get_or members place None) in
      let each : EachFrom P 0 all = subst (λ from. EachFrom P from all) first answers.0 in
      let known : EachFrom Q 0 all = EachFrom-weaker P Q 0 0 all (λ place answer given. does (0 + place) given.0 answer given.2 ∙ ap v given.1) each in
      EachFrom-map v None members 0 all known (omega (arith, first, last, answers.1))
