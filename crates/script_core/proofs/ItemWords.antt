-- An item by the length of its word.
use Rattle.std.proofs.Common.{◌≡◌, ℕ, true, false, eqb, List, [], ◌∷◌, length, get_or, refl, arith}
use Rattle.std.specs.List.{position}
use Rattle.std.proofs.lemmas.Bool.{eq-eqb}
use Rattle.script_core.specs.Grammar.{parsed_item, item_from}

pub item_alone : (names word : List ℕ) → length word ≡ 1
    → item_from (position (λ n. eqb n (get_or word 0 0)) names) true ≡ parsed_item names word
unfolding parsed_item
item_alone names [] e = absurd (omega arith)
item_alone names (name ∷ []) e = refl
item_alone names (name ∷ b ∷ more) e = absurd (omega arith)

pub item_marked : (names word : List ℕ) → length word ≡ 2 → get_or word 1 0 ≡ 33
    → item_from (position (λ n. eqb n (get_or word 0 0)) names) false ≡ parsed_item names word
unfolding parsed_item
item_marked names [] e mark = absurd (omega arith)
item_marked names (name ∷ []) e mark = absurd (omega arith)
item_marked names (name ∷ b ∷ []) e mark = rw (eq-eqb b 33 mark) refl
item_marked names (name ∷ b ∷ c ∷ more) e mark = absurd (omega arith)
