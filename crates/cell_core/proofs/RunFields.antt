-- The same number in several fields of a word.
use Rattle.std.proofs.Common.{true, eqb, eqb-true, lit<, lt_of_le_of_lt, ◌≡◌, ◌≢◌, ℕ, zero, suc, ◌+◌, ◌-◌, ◌*◌, ◌/◌, ◌%◌, ◌^◌, ◌<◌, ◌≤◌, refl, sym, ap, ◌∙◌, subst, arith, mul-one, mul-zero, mul-add, one-mul, div-add-mod', div-le_self, mod-eq_of_lt, lt_of_lt_of_le, mul-lt-mul_of_pos_right, mul-le-mul_right}
use native.Mathlib.Nat.{mul_left_comm, pow-succ', div-div-eq-div-mul, mul_assoc, mul_comm}
use mathlib.Core.Logic.{dite}
use native.Mathlib.Decide.{dec_lt}
use lib.Pow.{pow-add, pow_pos, pow_mono}
use lib.Count.{count_trailing_zeros, trailing_le, under}
use Rattle.cell_core.specs.Fields.{field, sums}
use Rattle.cell_core.specs.Run.{AreEmptyIn, AreFilledIn}
use Rattle.cell_core.proofs.Fields.{field_first, field_next, sixteens}

-- a field of what follows in a word
field_past : (w i l : ℕ) → field (w / 16 ^ i) l ≡ field w (i + l)
field_past w i l = ap (λ (n : ℕ). n % 16) (div-div-eq-div-mul w (16 ^ i) (16 ^ l) ∙ ap (λ (n : ℕ). w / n) (sym (pow-add 16 i l)))

shifted : (n q : ℕ) → 16 ^ suc n * q ≡ 16 * (16 ^ n * q)
shifted n q = ap (λ (m : ℕ). m * q) (pow-succ' 16 n) ∙ mul_assoc 16 (16 ^ n) q

none_from : (n q l : ℕ) → l < n → field (16 ^ n * q) l ≡ 0
none_from zero q l less = absurd (omega arith)
none_from (suc n) q zero less = let e = shifted n q in sym (field_first (16 ^ suc n * q)) ∙ omega (arith, e)
none_from (suc n) q (suc l) less = let e = shifted n q in let h : 16 ^ suc n * q / 16 ≡ 16 ^ n * q = omega (arith, e) in
    sym (field_next (16 ^ suc n * q) l) ∙ ap (λ (m : ℕ). field m l) h ∙ none_from n q l (omega arith)

-- a word whose fields are all 0 from one on
pub empties : (w i n : ℕ) → w / 16 ^ i % 16 ^ n ≡ 0 → AreEmptyIn w i n
empties w i n none j low high = let l : ℕ = j - i in let is : i + l ≡ j = omega arith in let m : ℕ = w / 16 ^ i in let q : ℕ = m / 16 ^ n in
    let d = div-add-mod' m (16 ^ n) in let whole : m ≡ 16 ^ n * q = (let c = mul_comm (16 ^ n) q in omega (arith, d, c, none)) in
    ap (λ (k : ℕ). field w k) (sym is) ∙ sym (field_past w i l) ∙ ap (λ (k : ℕ). field k l) whole ∙ none_from n q l (omega arith)

sums_next : (k n i : ℕ) → sums k n (suc i) ≡ 16 * sums k n i
sums_next k zero i = refl
sums_next k (suc n) i = let e = sums_next k n (suc i) in let m : k * 16 ^ suc i ≡ 16 * (k * 16 ^ i) = ap (λ (x : ℕ). k * x) (pow-succ' 16 i) ∙ mul_left_comm k 16 (16 ^ i) in omega (arith, e, m)

sums_at : (k n i : ℕ) → sums k n i ≡ sums k n 0 * 16 ^ i
sums_at k n zero = sym (mul-one (sums k n 0))
sums_at k n (suc i) = let s : ℕ = sums k n 0 in sums_next k n i ∙ ap (λ (x : ℕ). 16 * x) (sums_at k n i) ∙ mul_left_comm 16 s (16 ^ i) ∙ ap (λ (x : ℕ). s * x) (sym (pow-succ' 16 i))

sums_of : (k n i : ℕ) → sums k n i ≡ k * sums 1 n i
sums_of k zero i = sym (mul-zero k)
sums_of k (suc n) i = let e = sums_of k n (suc i) in let o = one-mul (16 ^ i) in let a = mul-add k (16 ^ i) (sums 1 n (suc i)) in
    omega (arith, e, a) ∙ ap (λ (x : ℕ). k * (x + sums 1 n (suc i))) (sym o)

all_ones : (n : ℕ) → 15 * sums 1 n 0 + 1 ≡ 16 ^ n
all_ones zero = refl
all_ones (suc n) = let e = all_ones n in let s = sums_next 1 n 0 in let p = pow-succ' 16 n in omega (arith, e, s, p)

-- a word of ones, as far as it goes
each_is : (n : ℕ) → n ≤ 16 → 1229782938247303441 / 2 ^ (4 * (16 - n)) ≡ sums 1 n 0
each_is zero less = refl
each_is (suc zero) less = refl
each_is (suc (suc zero)) less = refl
each_is (suc (suc (suc zero))) less = refl
each_is (suc (suc (suc (suc zero)))) less = refl
each_is (suc (suc (suc (suc (suc zero))))) less = refl
each_is (suc (suc (suc (suc (suc (suc zero)))))) less = refl
each_is (suc (suc (suc (suc (suc (suc (suc zero))))))) less = refl
each_is (suc (suc (suc (suc (suc (suc (suc (suc zero)))))))) less = refl
each_is (suc (suc (suc (suc (suc (suc (suc (suc (suc zero))))))))) less = refl
each_is (suc (suc (suc (suc (suc (suc (suc (suc (suc (suc zero)))))))))) less = refl
each_is (suc (suc (suc (suc (suc (suc (suc (suc (suc (suc (suc zero))))))))))) less = refl
each_is (suc (suc (suc (suc (suc (suc (suc (suc (suc (suc (suc (suc zero)))))))))))) less = refl
each_is (suc (suc (suc (suc (suc (suc (suc (suc (suc (suc (suc (suc (suc zero))))))))))))) less = refl
each_is (suc (suc (suc (suc (suc (suc (suc (suc (suc (suc (suc (suc (suc (suc zero)))))))))))))) less = refl
each_is (suc (suc (suc (suc (suc (suc (suc (suc (suc (suc (suc (suc (suc (suc (suc zero))))))))))))))) less = refl
each_is (suc (suc (suc (suc (suc (suc (suc (suc (suc (suc (suc (suc (suc (suc (suc (suc zero)))))))))))))))) less = refl
each_is (suc (suc (suc (suc (suc (suc (suc (suc (suc (suc (suc (suc (suc (suc (suc (suc (suc n))))))))))))))))) less = absurd (omega arith)

sums_fit : (k n i : ℕ) → k ≤ 15 → i + n ≤ 16 → sums k n 0 * 16 ^ i < 2 ^ 64
sums_fit k n i low near = let s : ℕ = sums 1 n 0 in let e = all_ones n in let o = sums_of k n 0 in
    let small : sums k n 0 < 16 ^ n = (let c : k * s ≤ 15 * s = mul-le-mul_right s low in omega (arith, e, o, c)) in
    let pos : 0 < 16 ^ i = subst (λ (x : ℕ). 0 < x) (sixteens i) (pow_pos (4 * i)) in
    let joined : 16 ^ n * 16 ^ i ≡ 2 ^ (4 * (n + i)) = sym (pow-add 16 n i) ∙ sym (sixteens (n + i)) in
    lt_of_lt_of_le (subst (λ (x : ℕ). sums k n 0 * 16 ^ i < x) joined (mul-lt-mul_of_pos_right small pos)) (pow_mono (let l : 4 * (n + i) ≤ 64 = omega arith in l))

pub ones_fit : (k n : ℕ) → k ≤ 15 → n ≤ 16 → 1229782938247303441 / 2 ^ (4 * (16 - n)) * k < 2 ^ 64
ones_fit k n low near = let e = each_is n near in let o = sums_of k n 0 in let c = mul_comm (sums 1 n 0) k in
    subst (λ (x : ℕ). x * k < 2 ^ 64) (sym e) (subst (λ (x : ℕ). x < 2 ^ 64) (mul-one (sums k n 0) ∙ o ∙ sym c) (sums_fit k n 0 low (omega arith)))

pub are_moved : (k n j : ℕ) → k ≤ 15 → j % 16 + n ≤ 16 → 1229782938247303441 / 2 ^ (4 * (16 - n)) * k * 2 ^ (4 * (j % 16)) % 2 ^ 64 ≡ sums k n (j % 16)
are_moved k n j low near = let i : ℕ = j % 16 in let e : 1229782938247303441 / 2 ^ (4 * (16 - n)) * k ≡ sums k n 0 = ap (λ (x : ℕ). x * k) (each_is n (omega arith)) ∙ mul_comm (sums 1 n 0) k ∙ sym (sums_of k n 0) in
    ap (λ (x : ℕ). x * 2 ^ (4 * i) % 2 ^ 64) e ∙ ap (λ (x : ℕ). sums k n 0 * x % 2 ^ 64) (sixteens i) ∙ mod-eq_of_lt (sums_fit k n i low near) ∙ sym (sums_at k n i)

pub finds_empty : (w n j : ℕ) → j % 16 + n ≤ 16 → n ≢ 16 → eqb (w / 2 ^ (4 * (j % 16)) % (1 * 2 ^ (4 * n) % 18446744073709551616)) 0 ≡ true → AreEmptyIn w (j % 16) n
finds_empty w n j near few none = let i : ℕ = j % 16 in let x : ℕ = 2 ^ (4 * n) in let less : n ≤ 15 = omega (arith, few) in
    let small : x ≤ 2 ^ 60 = pow_mono (let l : 4 * n ≤ 60 = omega arith in l) in let one : 1 * x % 18446744073709551616 ≡ x = ap (λ (m : ℕ). m % 18446744073709551616) (one-mul x) ∙ mod-eq_of_lt (lt_of_le_of_lt small (lit< tt)) in
    empties w i n (ap (λ (u : ℕ × ℕ). w / u.0 % u.1) (λ l. (sym (sixteens i) l, (sym (sixteens n) l))) ∙ ap (λ (m : ℕ). w / 2 ^ (4 * i) % m) (sym one) ∙ eqb-true (w / 2 ^ (4 * i) % (1 * x % 18446744073709551616)) 0 none)

-- a number ends in as many zeros as are counted
ends_by : (d t n : ℕ) → n % 2 ≡ d → (q : ℕ) × (n / 2 ≡ 2 ^ t * q) → (q : ℕ) × (n ≡ 2 ^ under d t * q)
ends_by zero t n even (q, half) = let s : 2 ^ suc t * q ≡ 2 * (2 ^ t * q) = ap (λ (m : ℕ). m * q) (pow-succ' 2 t) ∙ mul_assoc 2 (2 ^ t) q in (q, omega (arith, s))
ends_by (suc d) t n odd rest = (n, sym (one-mul n))

ends_in : (k n : ℕ) → (q : ℕ) × (n ≡ 2 ^ count_trailing_zeros k n * q)
unfolding count_trailing_zeros
ends_in zero n = (n, sym (one-mul n))
ends_in (suc k) n = ends_by (n % 2) (count_trailing_zeros k (n / 2)) n refl (ends_in k (n / 2))

-- the low fields that are 0 in the difference of a number to a word of 3 in each field are 3 in the number
threes : (n m e q w : ℕ) → n ≤ m → 16 ^ n * e + sums 3 m 0 ≡ w + q * 16 ^ m → (l : ℕ) → l < n → field w l ≡ 3
threes zero m e q w le is l less = absurd (omega arith)
threes (suc n) zero e q w le is l less = absurd (omega arith)
threes (suc n) (suc m) e q w le is zero less =
    let a = shifted n e in let s = sums_next 3 m 0 in let b : q * 16 ^ suc m ≡ 16 * (q * 16 ^ m) = ap (λ (x : ℕ). q * x) (pow-succ' 16 m) ∙ mul_left_comm q 16 (16 ^ m) in
    sym (field_first w) ∙ omega (arith, a, s, b, is)
threes (suc n) (suc m) e q w le is (suc l) less =
    let a = shifted n e in let s = sums_next 3 m 0 in let b : q * 16 ^ suc m ≡ 16 * (q * 16 ^ m) = ap (λ (x : ℕ). q * x) (pow-succ' 16 m) ∙ mul_left_comm q 16 (16 ^ m) in
    let next : 16 ^ n * e + sums 3 m 0 ≡ w / 16 + q * 16 ^ m = omega (arith, a, s, b, is) in
    sym (field_next w l) ∙ threes n m e q (w / 16) (omega arith) next l (omega arith)

-- the difference of a word to one of 3 in each field
abbrev pub difference : ℕ → ℕ
difference f = (f + (2 ^ 64 - 3689348814741910323)) % 2 ^ 64

-- a power of 2 has whole fields
whole_fields : (z e : ℕ) → 2 ^ z * e ≡ 16 ^ (z / 4) * (2 ^ (z % 4) * e)
whole_fields z e = let is : z ≡ 4 * (z / 4) + z % 4 = omega arith in
    ap (λ (x : ℕ). x * e) (ap (λ (x : ℕ). 2 ^ x) is ∙ pow-add 2 (4 * (z / 4)) (z % 4) ∙ ap (λ (x : ℕ). x * 2 ^ (z % 4)) (sixteens (z / 4))) ∙ mul_assoc (16 ^ (z / 4)) (2 ^ (z % 4)) e

-- it ends in as many fields of 0 as the word begins with fields of 3
begins_filled : (f : ℕ) → f < 2 ^ 64 → (l : ℕ) → l < count_trailing_zeros 64 (difference f) / 4 → field f l ≡ 3
begins_filled f fits l less = let d : ℕ = difference f in let z : ℕ = count_trailing_zeros 64 d in let end = ends_in 64 d in let low = trailing_le 64 d in let e : ℕ = 2 ^ (z % 4) * end.0 in
    let more : d + 3689348814741910323 ≡ f + (1 - (f + (2 ^ 64 - 3689348814741910323)) / 2 ^ 64) * 2 ^ 64 = omega arith in
    let is : d ≡ 16 ^ (z / 4) * e = end.1 ∙ whole_fields z end.0 in
    threes (z / 4) 16 e (1 - (f + (2 ^ 64 - 3689348814741910323)) / 2 ^ 64) f (omega (arith, low)) (ap (λ (x : ℕ). x + 3689348814741910323) (sym is) ∙ more) l less

pub finds_filled : (w j k : ℕ) → w < 2 ^ 64 → k ≤ count_trailing_zeros 64 (difference (w / 2 ^ (4 * (j % 16)))) / 4 → AreFilledIn w (j % 16) k
finds_filled w j k fits few l near far = let i : ℕ = j % 16 in let f : ℕ = w / 2 ^ (4 * i) in let m : ℕ = l - i in let is : i + m ≡ l = omega arith in
    ap (λ (x : ℕ). field w x) (sym is) ∙ sym (field_past w i m) ∙ ap (λ (x : ℕ). field (w / x) m) (sym (sixteens i))
    ∙ begins_filled f (lt_of_le_of_lt (div-le_self w (2 ^ (4 * i))) fits) m (omega (arith, few, is, far))

-- the digit after the zeros that are counted is set, if there is one
set_by : (d t k n : ℕ) → n % 2 ≡ d → under d t < suc k → (t < k → (q : ℕ) × (n / 2 ≡ 2 ^ t * q) × (q % 2 ≡ 1)) → (q : ℕ) × (n ≡ 2 ^ under d t * q) × (q % 2 ≡ 1)
set_by zero t k n even less rest = let r = rest (omega (arith, less)) in let half = r.1 in let s : 2 ^ suc t * r.0 ≡ 2 * (2 ^ t * r.0) = ap (λ (m : ℕ). m * r.0) (pow-succ' 2 t) ∙ mul_assoc 2 (2 ^ t) r.0 in
    (r.0, omega (arith, s, half, even), r.2)
set_by (suc d) t k n odd less rest = (n, sym (one-mul n), omega (arith, odd))

ends_set : (k n : ℕ) → count_trailing_zeros k n < k → (q : ℕ) × (n ≡ 2 ^ count_trailing_zeros k n * q) × (q % 2 ≡ 1)
unfolding count_trailing_zeros
ends_set zero n less = absurd (omega (arith, less))
ends_set (suc k) n less = set_by (n % 2) (count_trailing_zeros k (n / 2)) k n refl less (ends_set k (n / 2))

-- fewer zeros than a field has are no whole field
not_whole : (r q : ℕ) → r < 4 → q % 2 ≡ 1 → 2 ^ r * q % 16 ≢ 0
not_whole zero q less odd none = let o = one-mul q in omega (arith, o, odd, none)
not_whole (suc zero) q less odd none = omega (arith, odd, none)
not_whole (suc (suc zero)) q less odd none = omega (arith, odd, none)
not_whole (suc (suc (suc zero))) q less odd none = omega (arith, odd, none)
not_whole (suc (suc (suc (suc r)))) q less odd none = omega (arith, less)

-- the next field of the difference is not 0, and so the number has no 3 there
other : (n m e q w : ℕ) → n < m → 16 ^ n * e + sums 3 m 0 ≡ w + q * 16 ^ m → e % 16 ≢ 0 → field w n ≢ 3
other n zero e q w less is odd three = omega (arith, less)
other zero (suc m) e q w less is odd three =
    let o = one-mul e in let s = sums_next 3 m 0 in let b : q * 16 ^ suc m ≡ 16 * (q * 16 ^ m) = ap (λ (x : ℕ). q * x) (pow-succ' 16 m) ∙ mul_left_comm q 16 (16 ^ m) in
    let first : w % 16 ≡ 3 = field_first w ∙ three in odd (omega (arith, o, s, b, is, first))
other (suc n) (suc m) e q w less is odd three =
    let a = shifted n e in let s = sums_next 3 m 0 in let b : q * 16 ^ suc m ≡ 16 * (q * 16 ^ m) = ap (λ (x : ℕ). q * x) (pow-succ' 16 m) ∙ mul_left_comm q 16 (16 ^ m) in
    let next : 16 ^ n * e + sums 3 m 0 ≡ w / 16 + q * 16 ^ m = omega (arith, a, s, b, is) in
    other n m e q (w / 16) (omega (arith, less)) next odd (field_next w n ∙ three)

ends_filled : (f : ℕ) → f < 2 ^ 64 → count_trailing_zeros 64 (difference f) / 4 < 16 → field f (count_trailing_zeros 64 (difference f) / 4) ≢ 3
ends_filled f fits less = let d : ℕ = difference f in let z : ℕ = count_trailing_zeros 64 d in let end = ends_set 64 d (omega (arith, less)) in let e : ℕ = 2 ^ (z % 4) * end.0 in
    let more : d + 3689348814741910323 ≡ f + (1 - (f + (2 ^ 64 - 3689348814741910323)) / 2 ^ 64) * 2 ^ 64 = omega arith in
    let is : d ≡ 16 ^ (z / 4) * e = end.1 ∙ whole_fields z end.0 in
    other (z / 4) 16 e (1 - (f + (2 ^ 64 - 3689348814741910323)) / 2 ^ 64) f less (ap (λ (x : ℕ). x + 3689348814741910323) (sym is) ∙ more) (not_whole (z % 4) end.0 (omega arith) end.2)

-- a number of 64 bits has no more than 16 fields
past_all : (f : ℕ) → f < 2 ^ 64 → field f 16 ≢ 3
past_all f fits three = let none : f / 2 ^ 64 ≡ 0 = omega (arith, fits) in let same : f / 16 ^ 16 ≡ f / 2 ^ 64 = refl in omega (arith, three, same, none)

ends_at : (f k : ℕ) → f < 2 ^ 64 → k ≡ count_trailing_zeros 64 (difference f) / 4 → field f k ≢ 3
ends_at f k fits is three = let low = trailing_le 64 (difference f) in dite (dec_lt k 16)
    (λ less. ends_filled f fits (subst (λ (n : ℕ). n < 16) is less) (ap (field f) (sym is) ∙ three))
    (λ far. let whole : k ≡ 16 = omega (arith, low, is, far) in past_all f fits (ap (field f) (sym whole) ∙ three))

-- the field after those that are found filled is not one of a filled cell
pub finds_other : (w j k : ℕ) → w < 2 ^ 64 → k ≡ count_trailing_zeros 64 (difference (w / 2 ^ (4 * (j % 16)))) / 4 → field w (j % 16 + k) ≢ 3
finds_other w j k fits is three = let i : ℕ = j % 16 in let f : ℕ = w / 2 ^ (4 * i) in
    ends_at f k (lt_of_le_of_lt (div-le_self w (2 ^ (4 * i))) fits) is (ap (λ (x : ℕ). field (w / x) k) (sixteens i) ∙ field_past w i k ∙ three)
