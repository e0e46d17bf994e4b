-- Digits and the number that they spell.
use Rattle.std.proofs.Common.{◌≡◌, ℕ, zero, suc, ◌+◌, ◌*◌, ◌-◌, ◌<◌, ◌≤◌, true, cond, ltb, leb, Some, None, List, [], ◌∷◌, length, get_or, drop, refl, sym, ap, ◌∙◌, arith, add-one}
use Rattle.std.specs.Char.{digit_value, is_ascii_digit}
use Rattle.std.specs.List.{list_all}
use Rattle.std.specs.Str.Parse.{digits_value_after}
use Rattle.std.proofs.lemmas.Bool.{and_parts, lt-ltb, le-ltb, cond-true, cond-false, leb-true}
use Rattle.std.proofs.lemmas.List.{nil_from_length, length-drop}

-- digits that follow a number only make it larger
value_grows : (n : ℕ) (ds : List ℕ) → n ≤ digits_value_after 10 n ds
value_grows n [] = omega arith
value_grows n (d ∷ ds) = omega (arith, value_grows (n * 10 + digit_value d) ds)

-- each of the bytes is a digit
pub digit_at_place : (ds : List ℕ) (i : ℕ) → list_all is_ascii_digit ds ≡ true → i < length ds
    → is_ascii_digit (get_or ds i 0) ≡ true
digit_at_place [] i all lt = absurd (omega arith)
digit_at_place (d ∷ ds) zero all lt = (and_parts (is_ascii_digit d) (list_all is_ascii_digit ds) all).0
digit_at_place (d ∷ ds) (suc i) all lt = digit_at_place ds i (and_parts (is_ascii_digit d) (list_all is_ascii_digit ds) all).1 (omega arith)

-- a digit's value is its distance from the digit 0
pub digit_is : (c : ℕ) → is_ascii_digit c ≡ true → (digit_value c ≡ c - 48) × (48 ≤ c) × (c ≤ 57)
digit_is c h =
    let p = and_parts (leb 48 c) (leb c 57) h in
    let low : 48 ≤ c = leb-true 48 c p.0 in
    let high : c ≤ 57 = leb-true c 57 p.1 in
    let one = cond-false (ltb c 48) 36 (cond (ltb c 58) (c - 48) (cond (ltb c 65) 36 (cond (ltb c 91) (c - 55) (cond (ltb c 97) 36 (cond (ltb c 123) (c - 87) 36))))) (le-ltb c 48 low) in
    let two = cond-true (ltb c 58) (c - 48) (cond (ltb c 65) 36 (cond (ltb c 91) (c - 55) (cond (ltb c 97) 36 (cond (ltb c 123) (c - 87) 36)))) (lt-ltb c 58 (omega arith)) in
    (one ∙ two, low, high)

value_step : (v : ℕ) (ds : List ℕ) (i : ℕ) → i < length ds
    → digits_value_after 10 v (drop i ds) ≡ digits_value_after 10 (v * 10 + digit_value (get_or ds i 0))
    (drop (suc i) ds)
value_step v [] i lt = absurd (omega arith)
value_step v (d ∷ ds) zero lt = refl
value_step v (d ∷ ds) (suc i) lt = value_step v ds i (omega arith)

-- one more digit
pub value_next : (v w : ℕ) (ds : List ℕ) (i total : ℕ) → i < length ds → list_all is_ascii_digit ds ≡ true
    → w ≡ v * 10 + (get_or ds i 0 - 48) → digits_value_after 10 v (drop i ds) ≡ total
    → digits_value_after 10 w (drop (i + 1) ds) ≡ total
value_next v w ds i total lt all made so_far =
    let d = (digit_is (get_or ds i 0) (digit_at_place ds i all lt)).0 in
    let e : w ≡ v * 10 + digit_value (get_or ds i 0) = made ∙ ap (λ (x : ℕ). v * 10 + x) (sym d) in
    rw (add-one, e) (sym (value_step v ds i lt) ∙ so_far)

-- a number that is too large already stays so
pub value_too_large : (v : ℕ) (ds : List ℕ) (i total : ℕ) → i < length ds → list_all is_ascii_digit ds ≡ true
    → 18446744073709551616 ≤ v * 10 + (get_or ds i 0 - 48) → digits_value_after 10 v (drop i ds) ≡ total
    → None ≡ cond (ltb total 18446744073709551616) (Some total) None
value_too_large v ds i total lt all large so_far =
    let w : ℕ = v * 10 + (get_or ds i 0 - 48) in
    let next = value_next v (v * 10 + (get_or ds i 0 - 48)) ds i total lt all refl so_far in
    sym (cond-false (ltb total 18446744073709551616) (Some total) None (le-ltb total 18446744073709551616 (omega (arith, next, large, value_grows (v * 10 + (get_or ds i 0 - 48)) (drop (i + 1) ds)))))

drop-all : (i : ℕ) (ds : List ℕ) → length ds ≤ i → drop i ds ≡ []
drop-all i ds le = nil_from_length (drop i ds) (omega (arith, length-drop i ds))

-- all digits are read
pub value_done : (v : ℕ) (ds : List ℕ) (i total : ℕ) → length ds ≤ i → v < 18446744073709551616
    → digits_value_after 10 v (drop i ds) ≡ total → Some v ≡ cond (ltb total 18446744073709551616) (Some total) None
value_done v ds i total le small so_far =
    let e : v ≡ total = ap (digits_value_after 10 v) (sym (drop-all i ds le)) ∙ so_far in
    sym (cond-true (ltb total 18446744073709551616) (Some total) None (lt-ltb total 18446744073709551616 (omega arith)) ∙ ap (λ (x : ℕ). Some x) (sym e))
