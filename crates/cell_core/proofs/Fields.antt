-- Steps on a number change the fields of a word apart.
use Rattle.std.proofs.Common.{◌≡◌, ℕ, zero, suc, ◌+◌, ◌-◌, ◌*◌, ◌/◌, ◌%◌, ◌^◌, ◌<◌, ◌≤◌, max, min, List, [], ◌∷◌, length, refl, sym, ap, ap₂, subst, ◌∙◌, arith, div-one, add-zero}
use lib.Bits.{bit_and, bit_or, or_step, and_step, and_mask, or_zero_r, and_zero_r, and_zero_l}
use native.Mathlib.Nat.{le_trans, le_of_eq, lt_of_lt_of_le, mod-eq_of_lt, eq_of_mul-eq-mul_right, zero-add, mul_left_comm, pow-succ', div-div-eq-div-mul}
use lib.Pow.{pow-add, pow_pos, pow_mono}
use Rattle.cell_core.specs.Fields.{pack, field, put}

-- all fields are below 16
abbrev pub Fit : (ℕ → ℕ) → Type 0
Fit f = (i : ℕ) → f i < 16

quarter : (m : ℕ) → m / 2 / 2 / 2 / 2 ≡ m / 16
quarter m = omega arith

or_bits : (m n : ℕ) → bit_or m n ≡ bit_or (m / 16) (n / 16) * 16 + max (m / 2 / 2 / 2 % 2) (n / 2 / 2 / 2 % 2) * 8 + max (m / 2 / 2 % 2) (n / 2 / 2 % 2) * 4 + max (m / 2 % 2) (n / 2 % 2) * 2 + max (m % 2) (n % 2)
or_bits m n =
    let a = or_step m n in let b = or_step (m / 2) (n / 2) in let c = or_step (m / 2 / 2) (n / 2 / 2) in let d = or_step (m / 2 / 2 / 2) (n / 2 / 2 / 2) in
    let e = ap₂ bit_or (quarter m) (quarter n) in
    omega (arith, a, b, c, d, e)

and_bits : (m n : ℕ) → bit_and m n ≡ bit_and (m / 16) (n / 16) * 16 + min (m / 2 / 2 / 2 % 2) (n / 2 / 2 / 2 % 2) * 8 + min (m / 2 / 2 % 2) (n / 2 / 2 % 2) * 4 + min (m / 2 % 2) (n / 2 % 2) * 2 + min (m % 2) (n % 2)
and_bits m n =
    let a = and_step m n in let b = and_step (m / 2) (n / 2) in let c = and_step (m / 2 / 2) (n / 2 / 2) in let d = and_step (m / 2 / 2 / 2) (n / 2 / 2 / 2) in
    let e = ap₂ bit_and (quarter m) (quarter n) in
    omega (arith, a, b, c, d, e)

-- the bits of a lowest field
low : (x m : ℕ) → x < 16 → ((x + 16 * m) / 16 ≡ m) × ((x + 16 * m) % 2 ≡ x % 2) × ((x + 16 * m) / 2 % 2 ≡ x / 2 % 2) × ((x + 16 * m) / 2 / 2 % 2 ≡ x / 2 / 2 % 2) × ((x + 16 * m) / 2 / 2 / 2 % 2 ≡ x / 2 / 2 / 2 % 2)
low x m fits = (omega arith, omega arith, omega arith, omega arith, omega arith)

none_or : (m n : ℕ) → m ≡ 0 → n ≡ 0 → bit_or m n ≡ 0
none_or m n e f = ap₂ bit_or e f ∙ or_zero_r 0

or_low : (x y m n : ℕ) → x < 16 → y < 16 → bit_or (x + 16 * m) (y + 16 * n) ≡ bit_or x y + 16 * bit_or m n
or_low x y m n p q =
    let a = low x m p in let b = low y n q in let z : bit_or (x / 16) (y / 16) ≡ 0 = none_or (x / 16) (y / 16) (omega arith) (omega arith) in
    let e0 = ap₂ bit_or a.0 b.0 in let e1 = ap₂ max a.1 b.1 in let e2 = ap₂ max a.2 b.2 in let e3 = ap₂ max a.3 b.3 in let e4 = ap₂ max a.4 b.4 in
    omega (arith, or_bits (x + 16 * m) (y + 16 * n), or_bits x y, z, e0, e1, e2, e3, e4)

and_low : (x y m n : ℕ) → x < 16 → y < 16 → bit_and (x + 16 * m) (y + 16 * n) ≡ bit_and x y + 16 * bit_and m n
and_low x y m n p q =
    let a = low x m p in let b = low y n q in let z : bit_and (x / 16) (y / 16) ≡ 0 = ap₂ bit_and {y = 0} {v = 0} (omega arith) (omega arith) ∙ and_zero_r 0 in
    let e0 = ap₂ bit_and a.0 b.0 in let e1 = ap₂ min a.1 b.1 in let e2 = ap₂ min a.2 b.2 in let e3 = ap₂ min a.3 b.3 in let e4 = ap₂ min a.4 b.4 in
    omega (arith, and_bits (x + 16 * m) (y + 16 * n), and_bits x y, z, e0, e1, e2, e3, e4)

pub or_fields : {A : Type 0} (xs : List A) (f g : ℕ → ℕ) → Fit f → Fit g → bit_or (pack xs f) (pack xs g) ≡ pack xs (λ i. bit_or (f i) (g i))
or_fields [] f g p q = or_zero_r 0
or_fields (x ∷ xs) f g p q = or_low (f 0) (g 0) (pack xs (λ i. f (suc i))) (pack xs (λ i. g (suc i))) (p 0) (q 0)
    ∙ ap (λ (m : ℕ). bit_or (f 0) (g 0) + 16 * m) (or_fields xs (λ i. f (suc i)) (λ i. g (suc i)) (λ i. p (suc i)) (λ i. q (suc i)))

pub add_fields : {A : Type 0} (xs : List A) (f g : ℕ → ℕ) → pack xs f + pack xs g ≡ pack xs (λ i. f i + g i)
add_fields [] f g = refl
add_fields (x ∷ xs) f g = let e = add_fields xs (λ i. f (suc i)) (λ i. g (suc i)) in omega (arith, e)

-- a number whose fields are looked at one after the other
pub field_first : (m : ℕ) → m % 16 ≡ field m 0
field_first m = ap (λ (n : ℕ). n % 16) (sym (div-one m))

pub field_next : (m i : ℕ) → field (m / 16) i ≡ field m (suc i)
field_next m i = ap (λ (n : ℕ). n % 16) (div-div-eq-div-mul m 16 (16 ^ i) ∙ ap (λ (n : ℕ). m / n) (sym (pow-succ' 16 i)))

pub pack_ap : {A : Type 0} (xs : List A) {f g : ℕ → ℕ} → ((i : ℕ) → f i ≡ g i) → pack xs f ≡ pack xs g
pack_ap xs e = ap (pack xs) (λ j i. e i j)

pub and_fields : {A : Type 0} (xs : List A) (f : ℕ → ℕ) (m : ℕ) → Fit f → bit_and (pack xs f) m ≡ pack xs (λ i. bit_and (f i) (field m i))
and_fields [] f m p = and_zero_l m
and_fields (x ∷ xs) f m p =
    let r : m % 16 < 16 = omega arith in let e : m ≡ m % 16 + 16 * (m / 16) = omega arith in let q : ℕ = pack xs (λ i. f (suc i)) in
    ap (λ (n : ℕ). bit_and (f 0 + 16 * q) n) e ∙ and_low (f 0) (m % 16) q (m / 16) (p 0) r
    ∙ ap₂ (λ (a b : ℕ). bit_and (f 0) a + 16 * b) (field_first m) (and_fields xs (λ i. f (suc i)) (m / 16) (λ i. p (suc i)) ∙ pack_ap xs (λ i. ap (λ (n : ℕ). bit_and (f (suc i)) n) (field_next m i)))

pub packed_below : {A : Type 0} (xs : List A) (f : ℕ → ℕ) → Fit f → pack xs f < 16 ^ length xs
packed_below [] f p = omega arith
packed_below (x ∷ xs) f p = let e = pow-succ' 16 (length xs) in let q = packed_below xs (λ i. f (suc i)) (λ i. p (suc i)) in let r = p 0 in omega (arith, e)

pub field_of : {A : Type 0} (xs : List A) (f : ℕ → ℕ) (i : ℕ) → Fit f → i < length xs → field (pack xs f) i ≡ f i
field_of [] f i p less = absurd (omega arith)
field_of (x ∷ xs) f zero p less = let r = p 0 in sym (field_first (pack (x ∷ xs) f)) ∙ omega arith
field_of (x ∷ xs) f (suc i) p less = let q : ℕ = pack xs (λ j. f (suc j)) in let r = p 0 in let e : (f 0 + 16 * q) / 16 ≡ q = omega arith in
    sym (field_next (f 0 + 16 * q) i) ∙ ap (λ (n : ℕ). field n i) e ∙ field_of xs (λ j. f (suc j)) i (λ j. p (suc j)) (omega arith)

-- one field apart
abbrev pub alone : ℕ → ℕ → ℕ → ℕ
alone i k = put i k (λ _. 0)

pub packed_none : {A : Type 0} (xs : List A) → pack xs (λ _. 0) ≡ 0
packed_none [] = refl
packed_none (x ∷ xs) = let e = packed_none xs in omega arith

pub packed_alone : {A : Type 0} (xs : List A) (i k : ℕ) → i < length xs → pack xs (alone i k) ≡ k * 16 ^ i
packed_alone [] i k less = absurd (omega arith)
packed_alone (x ∷ xs) zero k less = let e = packed_none xs in omega arith
packed_alone (x ∷ xs) (suc i) k less =
    let m : 16 * pack xs (alone i k) ≡ k * 16 ^ suc i = ap (λ (n : ℕ). 16 * n) (packed_alone xs i k (omega arith)) ∙ mul_left_comm 16 k (16 ^ i) ∙ ap (λ (n : ℕ). k * n) (sym (pow-succ' 16 i)) in omega (arith, m)

pub put_other : {A : Type 0} (h : A → ℕ → A) → ((x : A) → h x 0 ≡ x) → (i k : ℕ) (f : ℕ → A) (j : ℕ) → h (f j) (alone i k j) ≡ put i (h (f i) k) f j
put_other h same zero k f zero = refl
put_other h same zero k f (suc j) = same (f (suc j))
put_other h same (suc i) k f zero = same (f 0)
put_other h same (suc i) k f (suc j) = put_other h same i k (λ j. f (suc j)) j

pub put_fits : (i x : ℕ) (f : ℕ → ℕ) → x < 16 → Fit f → Fit (put i x f)
put_fits zero x f less p zero = less
put_fits zero x f less p (suc j) = p (suc j)
put_fits (suc i) x f less p zero = p 0
put_fits (suc i) x f less p (suc j) = put_fits i x (λ j. f (suc j)) less (λ j. p (suc j)) j

alone_fits : (i k : ℕ) → k < 16 → Fit (alone i k)
alone_fits i k less = put_fits i k (λ _. 0) less (λ _. omega arith)

-- an `or` at one field
pub or_field : {A : Type 0} (xs : List A) (f : ℕ → ℕ) (i k : ℕ) → Fit f → k < 16 → i < length xs → bit_or (pack xs f) (k * 16 ^ i) ≡ pack xs (put i (bit_or (f i) k) f)
or_field xs f i k p less within = ap (bit_or (pack xs f)) (sym (packed_alone xs i k within)) ∙ or_fields xs f (alone i k) p (alone_fits i k less) ∙ pack_ap xs (put_other bit_or or_zero_r i k f)

-- an addition at one field
pub add_field : {A : Type 0} (xs : List A) (f : ℕ → ℕ) (i k : ℕ) → i < length xs → pack xs f + k * 16 ^ i ≡ pack xs (put i (f i + k) f)
add_field xs f i k within = ap (λ (n : ℕ). pack xs f + n) (sym (packed_alone xs i k within)) ∙ add_fields xs f (alone i k) ∙ pack_ap xs (put_other (λ a b. a + b) add-zero i k f)

-- all fields but one full, and that one without k
abbrev pub all_but : ℕ → ℕ → ℕ → ℕ
all_but i k = put i (15 - k) (λ _. 15)

-- sixteen members, to pack a whole word
abbrev pub sixteen : List ℕ
sixteen = 0 ∷ 0 ∷ 0 ∷ 0 ∷ 0 ∷ 0 ∷ 0 ∷ 0 ∷ 0 ∷ 0 ∷ 0 ∷ 0 ∷ 0 ∷ 0 ∷ 0 ∷ 0 ∷ []

put_sum : (i k : ℕ) → k < 16 → (j : ℕ) → all_but i k j + alone i k j ≡ 15
put_sum zero k less zero = omega arith
put_sum zero k less (suc j) = refl
put_sum (suc i) k less zero = refl
put_sum (suc i) k less (suc j) = put_sum i k less j

-- what `!(k << 4 * i)` is
flipped : (i k : ℕ) → i < 16 → k < 16 → 2 ^ 64 - 1 - k * 16 ^ i ≡ pack sixteen (all_but i k)
flipped i k within less =
    let sum : pack sixteen (all_but i k) + pack sixteen (alone i k) ≡ 2 ^ 64 - 1 = add_fields sixteen (all_but i k) (alone i k) ∙ pack_ap sixteen (put_sum i k less) in
    let one = packed_alone sixteen i k within in omega (arith, sum, one)

kept_all : (x : ℕ) → x < 16 → bit_and x 15 ≡ x
kept_all x less = let e = and_mask x 4 in omega (arith, e)

put_at : (m : ℕ → ℕ) (i k : ℕ) (f : ℕ → ℕ) → Fit f → (n : ℕ) → i < n → ((j : ℕ) → j < n → m j ≡ all_but i k j)
    → (j : ℕ) → j < n → bit_and (f j) (m j) ≡ put i (bit_and (f i) (15 - k)) f j
put_at m zero k f p n within is zero less = ap (bit_and (f 0)) (is 0 less)
put_at m zero k f p n within is (suc j) less = ap (bit_and (f (suc j))) (is (suc j) less) ∙ kept_all (f (suc j)) (p (suc j))
put_at m (suc i) k f p n within is zero less = ap (bit_and (f 0)) (is 0 less) ∙ kept_all (f 0) (p 0)
put_at m (suc i) k f p zero within is (suc j) less = absurd (omega arith)
put_at m (suc i) k f p (suc n) within is (suc j) less = put_at (λ l. m (suc l)) i k (λ l. f (suc l)) (λ l. p (suc l)) n (omega arith) (λ l q. is (suc l) (omega arith)) j (omega arith)

pack_below : {A : Type 0} (xs : List A) (f g : ℕ → ℕ) → ((j : ℕ) → j < length xs → f j ≡ g j) → pack xs f ≡ pack xs g
pack_below [] f g same = refl
pack_below (x ∷ xs) f g same = let e = same 0 (omega arith) in let t = pack_below xs (λ j. f (suc j)) (λ j. g (suc j)) (λ j less. same (suc j) (omega arith)) in omega (arith, e, t)

-- an `and` that clears bits of one field
pub and_field : {A : Type 0} (xs : List A) (f : ℕ → ℕ) (i k : ℕ) → Fit f → k < 16 → i < length xs → length xs ≤ 16
    → bit_and (pack xs f) (2 ^ 64 - 1 - k * 16 ^ i) ≡ pack xs (put i (bit_and (f i) (15 - k)) f)
and_field xs f i k p less within short =
    let m : ℕ = 2 ^ 64 - 1 - k * 16 ^ i in let at : i < 16 = omega arith in
    let fits : Fit (all_but i k) = put_fits i (15 - k) (λ _. 15) (omega arith) (λ _. omega arith) in
    and_fields xs f m p ∙ pack_below xs (λ j. bit_and (f j) (field m j)) (put i (bit_and (f i) (15 - k)) f) (put_at (field m) i k f p (length xs) within
    (λ j q. ap (λ (n : ℕ). field n j) (flipped i k at less) ∙ field_of sixteen (all_but i k) j fits (omega arith)))

-- a shift by four bits for each field before it
pub sixteens : (i : ℕ) → 2 ^ (4 * i) ≡ 16 ^ i
sixteens zero = refl
sixteens (suc i) = ap (λ (n : ℕ). 2 ^ n) (let e : 4 * suc i ≡ 4 + 4 * i = omega arith in e) ∙ pow-add 2 4 (4 * i) ∙ ap (λ (n : ℕ). 16 * n) (sixteens i) ∙ sym (pow-succ' 16 i)

-- what a shift and a mask find
pub is_field : (n j : ℕ) → bit_and (n / 2 ^ (4 * (j % 16))) 15 ≡ field n (j % 16)
is_field n j = and_mask (n / 2 ^ (4 * (j % 16))) 4 ∙ ap (λ (m : ℕ). n / m % 16) (sixteens (j % 16))

-- a state that is moved to its field fits there
pub moved_fits : (x i : ℕ) → x < 16 → i < 16 → x * 16 ^ i < 2 ^ 64
moved_fits x i less within = let e = packed_alone sixteen i x within in let l = packed_below sixteen (alone i x) (alone_fits i x less) in omega (arith, e, l)

pub is_moved : (x j : ℕ) → x < 16 → (x * 2 ^ (4 * (j % 16))) % 2 ^ 64 ≡ x * 16 ^ (j % 16)
is_moved x j less = let e = ap (λ (n : ℕ). x * n) (sixteens (j % 16)) in let l = moved_fits x (j % 16) less (omega arith) in let m = mod-eq_of_lt l in ap (λ (n : ℕ). n % 2 ^ 64) e ∙ m

pub put_own : {A : Type 0} (i : ℕ) (f : ℕ → A) (j : ℕ) → f j ≡ put i (f i) f j
put_own zero f zero = refl
put_own zero f (suc j) = refl
put_own (suc i) f zero = refl
put_own (suc i) f (suc j) = put_own i (λ l. f (suc l)) j

pub put_put : {A : Type 0} (i : ℕ) (x y : A) (f : ℕ → A) (j : ℕ) → put i x (put i y f) j ≡ put i x f j
put_put zero x y f zero = refl
put_put zero x y f (suc j) = refl
put_put (suc i) x y f zero = refl
put_put (suc i) x y f (suc j) = put_put i x y (λ l. f (suc l)) j

pub put_here : {A : Type 0} (i : ℕ) (x : A) (f : ℕ → A) → put i x f i ≡ x
put_here zero x f = refl
put_here (suc i) x f = put_here i x (λ l. f (suc l))

-- a function of what is put
pub put_of : {A : Type 0} (g : A → ℕ) (i : ℕ) (x : A) (f : ℕ → A) (j : ℕ) → put i (g x) (λ l. g (f l)) j ≡ g (put i x f j)
put_of g zero x f zero = refl
put_of g zero x f (suc j) = refl
put_of g (suc i) x f zero = refl
put_of g (suc i) x f (suc j) = put_of g i x (λ l. f (suc l)) j

-- the members do not matter
pub pack_alike : {A B : Type 0} (xs : List A) (ys : List B) (f : ℕ → ℕ) → length xs ≡ length ys → pack xs f ≡ pack ys f
pack_alike [] [] f same = refl
pack_alike [] (y ∷ ys) f same = absurd (omega arith)
pack_alike (x ∷ xs) [] f same = absurd (omega arith)
pack_alike (x ∷ xs) (y ∷ ys) f same = let e = pack_alike xs ys (λ i. f (suc i)) (omega arith) in omega (arith, e)

-- an owner's steps at one field
module _ {A : Type 0} (xs : List A) (f : ℕ → ℕ) (i : ℕ) (fits : Fit f) (within : i < length xs) (short : length xs ≤ 16) where
  abbrev keep : ℕ
  keep = 2 ^ 64 - 1 - 15 * 16 ^ i

  pub clears_field : bit_and (pack xs f) keep ≡ pack xs (put i 0 f)
  clears_field = and_field xs f i 15 fits (omega arith) within short ∙ pack_ap xs (λ j. ap (λ (y : ℕ). put i y f j) (and_zero_r (f i)))

  pub sets_field : (n : ℕ) → bit_and (pack xs f) keep + n * 16 ^ i ≡ pack xs (put i n f)
  sets_field n = ap (λ (m : ℕ). m + n * 16 ^ i) clears_field ∙ add_field xs (put i 0 f) i n within
      ∙ pack_ap xs (λ j. ap (λ (y : ℕ). put i (y + n) (put i 0 f) j) (put_here i 0 f) ∙ put_put i (0 + n) 0 f j ∙ ap (λ (y : ℕ). put i y f j) (zero-add n))

  -- what is cleared is the field
  pub own_field : pack xs f ≡ bit_and (pack xs f) keep + f i * 16 ^ i
  own_field = pack_ap xs (put_own i f) ∙ sym (sets_field (f i))

  pub cleared_is : pack xs f - bit_and (pack xs f) keep ≡ f i * 16 ^ i
  cleared_is = let e = own_field in omega (arith, e)

  pub cleared_below : bit_and (pack xs f) keep ≤ pack xs f
  cleared_below = let e = own_field in omega (arith, e)

  pub sets_small : (n : ℕ) → n < 16 → bit_and (pack xs f) keep + n * 16 ^ i < 2 ^ 64
  sets_small n less = let p = packed_below xs (put i n f) (put_fits i n f less fits) in let w : 16 ^ length xs ≤ 2 ^ 64 = le_trans (le_of_eq (sym (sixteens (length xs)))) (pow_mono (let l : 4 * length xs ≤ 64 = omega arith in l)) in
      subst (λ (m : ℕ). m < 2 ^ 64) (sym (sets_field n)) (lt_of_lt_of_le p w)

-- two states that are equal once they are moved to a field are equal
pub moved_apart : (i x y : ℕ) → x * 16 ^ i ≡ y * 16 ^ i → x ≡ y
moved_apart i x y e = eq_of_mul-eq-mul_right (16 ^ i) (subst (λ (n : ℕ). 0 < n) (sixteens i) (pow_pos (4 * i))) x y e
