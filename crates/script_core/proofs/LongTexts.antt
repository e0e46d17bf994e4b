-- A text is read as its first 1,048,577 bytes are.
use Rattle.std.proofs.Common.{◌≡◌, ℕ, ◌+◌, ◌<◌, eqb, inl, inr, List, length, take, count_by, Err, arith, sym, ap, ◌∙◌}
use Rattle.std.proofs.lemmas.Bool.{cases_lt}
use Rattle.std.proofs.lemmas.List.{take_all, take-take, length-take}
use Rattle.script_core.specs.declared.error.ScriptError.TheVariants.{TooMany}
use Rattle.script_core.specs.Grammar.{script_of}
use Rattle.script_core.proofs.LineByLine.{long_text}

pub script_of-take : (text : List ℕ) → script_of (take 1048577 text) ≡ script_of text
script_of-take text = elim (cases_lt 1048577 (length text)) [
  | inl long ↦
      let front_long : 1048576 < length (take 1048577 text) = omega (arith, length-take 1048577 text) in
      let same : take 1048576 (take 1048577 text) ≡ take 1048576 text = take-take 1048576 1048577 text (omega arith) in
      long_text (take 1048577 text) front_long
      ∙ ap (λ (front : List ℕ). Err (TooMany (1 + count_by (λ b. eqb b 10) front))) same
      ∙ sym (long_text text (omega arith))
  | inr short ↦ ap script_of (take_all 1048577 text short)
]
