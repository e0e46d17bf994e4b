-- Numbers and commands: what is read is spelled so, and what is spelled so is read.
use Rattle.std.proofs.Common.{◌≡◌, ℕ, ◌^◌, ◌<◌, Bool, true, false, not, ◌&&◌, cond, eqb, leb, ltb, List, [], ◌∷◌, ◌++◌, length, get_or, Result, Ok, Err, refl, sym, ap, subst, ◌∙◌, arith, inl, inr}
use Rattle.std.specs.Prelude.{decimal, All}
use Rattle.std.specs.Char.{is_ascii_digit}
use Rattle.std.specs.List.{list_all, slice_split, AllByRecursion}
use Rattle.std.specs.Str.Parse.{AllDigits, digits_value}
use Rattle.std.proofs.lemmas.Bool.{cases_eq, and_parts, and_from, eqb-true, eq-eqb, ne_eqb, ltb-true, lt-ltb, le-leb, cond-true, cond-false, not-true, not_from_false}
use Rattle.std.proofs.lemmas.Fmt.{decimal_is_IsNumeral, decimal-digits_value, decimal_digit, first_decimal}
use Rattle.std.proofs.lemmas.List.{nil_from_length}
use Rattle.std.proofs.lemmas.List.Elements.{All-from_recursion}
use Rattle.std.proofs.lemmas.List.Splits.{slice_split_none, slice_split_at}
use Rattle.std.proofs.lemmas.Str.Parse.{IsNumeralModel, numerals_by_value, tells_digits, digit_from_value}
use Rattle.script_core.specs.declared.error.Fault.{Fault}
use Rattle.script_core.specs.declared.error.Fault.TheVariants.{NumberTooLarge}
use Rattle.script_core.specs.Grammar.{◌>>=◌, is_number, number_or}
use Rattle.script_core.proofs.Digits.{digit_is}

-- the value of a step that did not fail
pub bind_ok : {A B E : Type 0} (r : Result A E) (f : A → Result B E) (y : B) → (r >>= f) ≡ Ok y
    → (x : A) × (r ≡ Ok x) × (f x ≡ Ok y)
bind_ok (Ok x) f y e = (x, refl, e)
bind_ok (Err d) f y e = absurd cc

-- a test that did not fail
pub test_ok : {A E : Type 0} (b : Bool) (r : Result A E) (d : E) (y : A) → cond b r (Err d) ≡ Ok y
    → (b ≡ true) × (r ≡ Ok y)
test_ok true r d y e = (refl, e)
test_ok false r d y e = absurd cc

pub refusal_ok : {A E : Type 0} (b : Bool) (r : Result A E) (d : E) (y : A) → cond b (Err d) r ≡ Ok y
    → (b ≡ false) × (r ≡ Ok y)
refusal_ok true r d y e = absurd cc
refusal_ok false r d y e = (refl, e)

abbrev done : {A : Type 0} → A → Result A Fault
done x = Ok x

pub ok_is : {A : Type 0} (x y : A) → done x ≡ done y → x ≡ y
ok_is x y e = cc

-- ---- Numbers

own : IsNumeralModel (AllDigits 10) (digits_value 10)
own = numerals_by_value (AllDigits 10) tells_digits

all_digits : (ds : List ℕ) → list_all is_ascii_digit ds ≡ true → AllDigits 10 ds
all_digits [] h = tt
all_digits (d ∷ ds) h =
    let p = and_parts (is_ascii_digit d) (list_all is_ascii_digit ds) h in
    let is = digit_is d p.0 in
    (omega arith, all_digits ds p.1)

digits_all : (ds : List ℕ) → AllDigits 10 ds → list_all is_ascii_digit ds ≡ true
digits_all [] h = refl
digits_all (d ∷ ds) h =
    let range = digit_from_value d h.0 in
    and_from (is_ascii_digit d) (list_all is_ascii_digit ds) (and_from (leb 48 d) (leb d 57) (le-leb 48 d range.0) (le-leb d 57 range.1)) (digits_all ds h.1)

-- a number in digits is one spelling
number_spelled : (word : List ℕ) → is_number word ≡ true → digits_value 10 word < 2 ^ 64
    → word ≡ decimal (digits_value 10 word)
number_spelled [] h small = absurd cc
number_spelled (d ∷ ds) h small =
    elim (cases_eq d 48) [
      | inl zero_digit ↦
          let alone : eqb (length ds) 0 ≡ true = sym (cond-true (eqb d 48) (eqb (length ds) 0) (is_ascii_digit d && list_all is_ascii_digit ds) (eq-eqb d 48 zero_digit)) ∙ h in
          let nothing : ds ≡ [] = nil_from_length ds (eqb-true _ _ alone) in
          let is : AllDigits 10 (d ∷ ds) = rw (zero_digit, nothing) (omega arith, tt) in
          sym (decimal-digits_value own (d ∷ ds) is (omega arith) (λ e. omega (arith, ap length nothing)) small)
      | inr other ↦
          let p = and_parts (is_ascii_digit d) (list_all is_ascii_digit ds) (sym (cond-false (eqb d 48) (eqb (length ds) 0) (is_ascii_digit d && list_all is_ascii_digit ds) (ne_eqb d 48 other)) ∙ h) in
          let is = digit_is d p.0 in
          sym (decimal-digits_value own (d ∷ ds) (omega arith, all_digits ds p.1) (omega arith) (λ e. absurd (other e)) small)
    ]

-- what is read as a number is its one spelling
pub number_takes : (otherwise : Fault) (word : List ℕ) (n : ℕ) → number_or otherwise word ≡ Ok n
    → (word ≡ decimal n) × (n < 2 ^ 64)
unfolding number_or
number_takes otherwise word n h =
    let p = test_ok (is_number word) _ otherwise n h in
    let q = test_ok (ltb (digits_value 10 word) (2 ^ 64)) (Ok (digits_value 10 word)) NumberTooLarge n p.1 in
    let small = ltb-true _ _ q.0 in
    let is : digits_value 10 word ≡ n = ok_is _ _ q.1 in
    (number_spelled word p.0 small ∙ ap decimal is, rw (← is) small)

decimal_is_number : (n : ℕ) (ds : List ℕ) → n < 2 ^ 64 → decimal n ≡ ds → is_number ds ≡ true
decimal_is_number n [] small e = absurd (omega (arith, (decimal_is_IsNumeral n small).0.0, ap length e))
decimal_is_number n (d ∷ ds) small e =
    let all : AllDigits 10 (d ∷ ds) = subst (AllDigits 10) e (decimal_is_IsNumeral n small).0.1 in
    let range = digit_from_value d all.0 in
    elim (cases_eq n 0) [
      | inl nothing ↦
          let is : (48 ∷ []) ≡ d ∷ ds = sym (decimal_digit 0 (omega arith)) ∙ ap decimal (sym nothing) ∙ e in
          subst (λ (w : List ℕ). is_number w ≡ true) is refl
      | inr some ↦
          let first : 48 < d = subst (λ (w : List ℕ). 48 < get_or w 0 0) e (first_decimal n (omega arith) small) in
          cond-false (eqb d 48) (eqb (length ds) 0) (is_ascii_digit d && list_all is_ascii_digit ds) (ne_eqb d 48 (λ z. absurd (omega arith)))
          ∙ and_from (is_ascii_digit d) (list_all is_ascii_digit ds) (and_from (leb 48 d) (leb d 57) (le-leb 48 d range.0) (le-leb d 57 range.1)) (digits_all ds all.1)
    ]

-- the spelling of a number is read as the number
pub number_again : (otherwise : Fault) (n : ℕ) → n < 2 ^ 64 → number_or otherwise (decimal n) ≡ Ok n
unfolding number_or
number_again otherwise n small =
    let is = decimal_is_number n (decimal n) small refl in
    let value = (decimal_is_IsNumeral n small).1 in
    rw (is, value, lt-ltb n (2 ^ 64) small) refl

-- ---- Bytes that a text lacks

-- the byte stands nowhere in the text
abbrev pub lacks : ℕ → List ℕ → Bool
lacks b xs = list_all (λ d. not (eqb d b)) xs

each_lacks : (b : ℕ) (xs : List ℕ) → lacks b xs ≡ true → AllByRecursion (λ d. eqb d b ≡ false) xs
each_lacks b [] h = tt
each_lacks b (x ∷ xs) h =
    let p = and_parts (not (eqb x b)) (lacks b xs) h in
    (not-true (eqb x b) p.0, each_lacks b xs p.1)

all_lacks : (b : ℕ) (xs : List ℕ) → lacks b xs ≡ true → All (λ d. eqb d b ≡ false) xs
all_lacks b xs h = All-from_recursion (λ d. eqb d b ≡ false) xs (each_lacks b xs h)

pub lacks-append : (b : ℕ) (xs ys : List ℕ) → lacks b xs ≡ true → lacks b ys ≡ true → lacks b (xs ++ ys) ≡ true
lacks-append b [] ys h k = k
lacks-append b (x ∷ xs) ys h k =
    let p = and_parts (not (eqb x b)) (lacks b xs) h in
    and_from (not (eqb x b)) (lacks b (xs ++ ys)) p.0 (lacks-append b xs ys p.1 k)

digits_lack : (b : ℕ) (ds : List ℕ) → b < 48 → AllDigits 10 ds → lacks b ds ≡ true
digits_lack b [] low all = refl
digits_lack b (d ∷ ds) low all =
    let range = digit_from_value d all.0 in
    and_from (not (eqb d b)) (lacks b ds) (not_from_false (eqb d b) (ne_eqb d b (λ e. absurd (omega (arith, range))))) (digits_lack b ds low all.1)

-- no digit is a byte below 48
pub decimal_lacks : (b n : ℕ) → b < 48 → n < 2 ^ 64 → lacks b (decimal n) ≡ true
decimal_lacks b n low small = digits_lack b (decimal n) low (decimal_is_IsNumeral n small).0.1

-- what is split at a byte that the front lacks
pub split_front : (b : ℕ) (xs ys : List ℕ) → lacks b xs ≡ true
    → slice_split (λ d. eqb d b) (xs ++ b ∷ ys) ≡ xs ∷ slice_split (λ d. eqb d b) ys
split_front b xs ys h = slice_split_at (λ d. eqb d b) xs b ys (all_lacks b xs h) (eq-eqb b b refl)

pub split_whole : (b : ℕ) (xs : List ℕ) → lacks b xs ≡ true → slice_split (λ d. eqb d b) xs ≡ xs ∷ []
split_whole b xs h = slice_split_none (λ d. eqb d b) xs (all_lacks b xs h)
