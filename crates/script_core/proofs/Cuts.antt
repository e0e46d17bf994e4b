-- Cuts, byte by byte, and the lines, words and pieces that they take off.
use Rattle.std.proofs.Common.{◌≡◌, ℕ, zero, suc, ◌-◌, ◌+◌, ◌<◌, Bool, true, false, ◌&&◌, eqb, List, [], ◌∷◌, length, take, drop, Option, Some, None, Bor, refl, sym, ap, ◌∙◌, arith, inl, inr}
use Rattle.std.specs.Option.{option_copied, is_some}
use Rattle.std.specs.List.{starts_with, slice_split}
use Rattle.std.proofs.lemmas.Bool.{cases_Bool, cases_eq, cond-true, cond-false, eq-eqb, ne_eqb, and_right}
use Rattle.std.proofs.lemmas.List.{take_all, length-take, length-drop, drop-drop, nil_from_length}
use Rattle.script_core.specs.Grammar.{cut, lines, lines_of_parts, words, pieces}

-- a slice up to the end is what is left of the list
drop_whole : {A : Type 0} (i n : ℕ) (l : List A) → n ≡ length l - i → take n (drop i l) ≡ drop i l
drop_whole i n l e = take_all n (drop i l) (omega (arith, length-drop i l))

-- nothing stands after the end
pub drop_all : {A : Type 0} (i n : ℕ) (l : List A) → n ≡ length l → take i (drop n l) ≡ []
drop_all i n l e = nil_from_length (take i (drop n l)) (omega (arith, length-take i (drop n l), length-drop n l))

-- the first place where the separator stands
cut_found : (separator text : List ℕ) (i : ℕ) → i < length text
    → ((k : ℕ) → k < i → starts_with eqb (drop k text) separator ≡ false)
    → starts_with eqb (drop i text) separator ≡ true
    → cut separator text ≡ (take i text, Some (drop (length separator) (drop i text)))
unfolding cut
cut_found separator [] i lt before here = absurd (omega arith)
cut_found separator (b ∷ bs) zero lt before here = cond-true (starts_with eqb (b ∷ bs) separator) _ _ here
cut_found separator (b ∷ bs) (suc i) lt before here =
    let rest = cut_found separator bs i (omega arith) (λ k h. before (suc k) (omega arith)) here in
    cond-false (starts_with eqb (b ∷ bs) separator) _ _ (before 0 (omega arith)) ∙ ap (λ (p : List ℕ × Option (List ℕ)). (b ∷ p.0, p.1)) rest

-- the same, with the bytes after it as a slice up to the end
pub cut_at_place : (separator text : List ℕ) (i m n : ℕ) → i < length text
    → ((k : ℕ) → k < i → starts_with eqb (drop k text) separator ≡ false) → m ≡ length text - i
    → starts_with eqb (take m (drop i text)) separator ≡ true → n ≡ length text - (i + length separator)
    → (take i text, Some (take n (drop (i + length separator) text))) ≡ cut separator text
cut_at_place separator text i m n lt before me here ne =
    let test : starts_with eqb (drop i text) separator ≡ true = rw (← drop_whole i m text me) here in
    let after : drop (length separator) (drop i text) ≡ take n (drop (i + length separator) text) = drop-drop (length separator) i text ∙ sym (drop_whole (i + length separator) n text ne) in
    sym (cut_found separator text i lt before test ∙ ap (λ (r : List ℕ). (take i text, Some r)) after)

-- the separator stands nowhere
pub cut_none : (separator text : List ℕ)
    → ((k : ℕ) → k < length text → starts_with eqb (drop k text) separator ≡ false)
    → cut separator text ≡ (text, None)
unfolding cut
cut_none separator [] before = refl
cut_none separator (b ∷ bs) before =
    let rest = cut_none separator bs (λ k h. before (suc k) (omega arith)) in
    cond-false (starts_with eqb (b ∷ bs) separator) _ _ (before 0 (omega arith)) ∙ ap (λ (p : List ℕ × Option (List ℕ)). (b ∷ p.0, p.1)) rest

-- if there is no separator, the front is the whole text
cut_whole : (separator text : List ℕ) → (cut separator text).1 ≡ None → (cut separator text).0 ≡ text
unfolding cut
cut_whole separator [] none = refl
cut_whole separator (b ∷ bs) none =
    elim (cases_Bool (starts_with eqb (b ∷ bs) separator)) [
      | inl hit ↦ let e = ap (λ (p : List ℕ × Option (List ℕ)). p.1) (sym (cond-true (starts_with eqb (b ∷ bs) separator) ([], Some (drop (length separator) (b ∷ bs))) (b ∷ (cut separator bs).0, (cut separator bs).1) hit)) ∙ none in absurd cc
      | inr miss ↦
          let whole = cond-false (starts_with eqb (b ∷ bs) separator) ([], Some (drop (length separator) (b ∷ bs))) (b ∷ (cut separator bs).0, (cut separator bs).1) miss in
          let rest = cut_whole separator bs (ap (λ (p : List ℕ × Option (List ℕ)). p.1) (sym whole) ∙ none) in
          ap (λ (p : List ℕ × Option (List ℕ)). p.0) whole ∙ ap (λ (r : List ℕ). b ∷ r) rest
    ]

-- an option that is some, and one that isn't
pub none_from : {A : Type 0} (o : Option A) → is_some o ≡ false → o ≡ None
none_from None h = refl
none_from (Some x) h = absurd cc

pub some_from : {A : Type 0} (o : Option A) → is_some o ≡ true → (x : A) × (o ≡ Some x)
some_from None h = absurd cc
some_from (Some x) h = (x, refl)

-- ---- Words and lines

eqb_swap : (b c : ℕ) → eqb c b ≡ eqb b c
eqb_swap b c = elim (cases_eq b c) [
  | inl e ↦ eq-eqb c b (sym e) ∙ sym (eq-eqb b c e)
  | inr ne ↦ ne_eqb c b (λ e. ne (sym e)) ∙ sym (ne_eqb b c ne)
]

and_true : (b : Bool) → (b && true) ≡ b
and_true true = refl
and_true false = refl

abbrev parts_after : (ℕ → Bool) → Option (List ℕ) → List (List ℕ)
parts_after p None = []
parts_after p (Some rest) = slice_split p rest

split_cut : (c : ℕ) (text : List ℕ)
    → slice_split (λ b. eqb b c) text ≡ (cut (c ∷ []) text).0 ∷ parts_after (λ b. eqb b c) (cut (c ∷ []) text).1
unfolding cut
split_cut c [] = refl
split_cut c (b ∷ bs) =
    let test : starts_with eqb (b ∷ bs) (c ∷ []) ≡ eqb b c = and_true (eqb c b) ∙ eqb_swap b c in
    elim (cases_Bool (eqb b c)) [
      | inl hit ↦ rw (test, hit) refl
      | inr miss ↦ rw (test, miss, split_cut c bs) refl
    ]

module _ (by text : List ℕ) (r : Bor (List ℕ) × Option (Bor (List ℕ))) (e : (r.0.now, option_copied r.1) ≡ cut by text) where
  -- what stands before a cut
  cut_front : (cut by text).0 ≡ r.0.now
  cut_front = ap (λ (p : List ℕ × Option (List ℕ)). p.0) (sym e)

  -- what stands after it
  cut_after : (rest : Option (Bor (List ℕ))) → r.1 ≡ rest → (cut by text).1 ≡ option_copied rest
  cut_after rest is = ap (λ (p : List ℕ × Option (List ℕ)). p.1) (sym e) ∙ ap option_copied is

module _ (text : List ℕ) (r : Bor (List ℕ) × Option (Bor (List ℕ))) where
  -- if no separator is left, one word is
  pub words_last : (r.0.now, option_copied r.1) ≡ cut (32 ∷ []) text → r.1 ≡ None → words text ≡ r.0.now ∷ []
  unfolding words
  words_last e none = rw (split_cut 32 text, cut_after (32 ∷ []) text r e None none, cut_front (32 ∷ []) text r e) refl

  -- after a separator come the words of the rest
  pub words_more : (rest : Bor (List ℕ)) → (r.0.now, option_copied r.1) ≡ cut (32 ∷ []) text → r.1 ≡ Some rest
      → words text ≡ r.0.now ∷ words rest.now
  unfolding words
  words_more rest e some =
      rw (split_cut 32 text, cut_after (32 ∷ []) text r e (Some rest) some, cut_front (32 ∷ []) text r e) refl

  -- what stands before the cut is the first word
  pub words_first : (r.0.now, option_copied r.1) ≡ cut (32 ∷ []) text → (others : List (List ℕ)) × (words text ≡ r.0.now ∷ others)
  unfolding words
  words_first e = (parts_after (λ b. eqb b 32) (cut (32 ∷ []) text).1, rw (split_cut 32 text, cut_front (32 ∷ []) text r e) refl)

-- any bytes have at least one word
pub some_words : (text : List ℕ) → 0 < length (words text)
unfolding words
some_words text = rw (split_cut 32 text) (omega arith)

module _ (text : List ℕ) (r : Bor (List ℕ) × Option (Bor (List ℕ))) where
  -- if no end of a line is left, one line is
  pub line_last : 0 < length text → (r.0.now, option_copied r.1) ≡ cut (10 ∷ []) text → r.1 ≡ None
      → lines text ≡ r.0.now ∷ lines []
  unfolding lines
  line_last some e none =
      let after : (cut (10 ∷ []) text).1 ≡ None = cut_after (10 ∷ []) text r e None none in
      let front = cut_front (10 ∷ []) text r e in
      let all : (cut (10 ∷ []) text).0 ≡ text = cut_whole (10 ∷ []) text after in
      let long : eqb (length r.0.now) 0 ≡ false = ne_eqb _ _ (λ z. absurd (omega (arith, ap length (sym front ∙ all)))) in
      rw (split_cut 10 text, after, front, long) refl

  -- after the end of a line come the lines of the rest
  pub line_more : (rest : Bor (List ℕ)) → (r.0.now, option_copied r.1) ≡ cut (10 ∷ []) text → r.1 ≡ Some rest
      → lines text ≡ r.0.now ∷ lines rest.now
  unfolding lines
  line_more rest e some =
      rw (split_cut 10 text, cut_after (10 ∷ []) text r e (Some rest) some, cut_front (10 ∷ []) text r e, split_cut 10 rest.now) refl

lines_by_cut : (text : List ℕ) → 0 < length text → (rest : Option (List ℕ)) → (cut (10 ∷ []) text).1 ≡ rest
    → (first : List ℕ) × (others : List (List ℕ)) × (lines_of_parts (slice_split (λ b. eqb b 10) text) ≡ first ∷ others)
lines_by_cut text some None none =
    let all : (cut (10 ∷ []) text).0 ≡ text = cut_whole (10 ∷ []) text none in
    let long : eqb (length text) 0 ≡ false = ne_eqb _ _ (λ z. absurd (omega arith)) in
    (text, [], rw (split_cut 10 text, none, all, long) refl)
lines_by_cut text some (Some rest) here =
    ((cut (10 ∷ []) text).0, lines_of_parts (slice_split (λ b. eqb b 10) rest), rw (split_cut 10 text, here, split_cut 10 rest) refl)

-- some bytes have a line
pub some_lines : (text : List ℕ) → 0 < length text
    → (first : List ℕ) × (rest : List (List ℕ)) × (lines text ≡ first ∷ rest)
unfolding lines
some_lines text some =
    let p : (rest : Option (List ℕ)) → (cut (10 ∷ []) text).1 ≡ rest → (first : List ℕ) × (others : List (List ℕ)) × (lines_of_parts (slice_split (λ b. eqb b 10) text) ≡ first ∷ others) = lines_by_cut text some in
    p (cut (10 ∷ []) text).1 refl

-- ---- Pieces

abbrev pieces_after : Option (List ℕ) → List (List ℕ)
pieces_after None = []
pieces_after (Some rest) = pieces rest

pieces_cut : (text : List ℕ) → pieces text ≡ (cut (44 ∷ 32 ∷ []) text).0 ∷ pieces_after (cut (44 ∷ 32 ∷ []) text).1
unfolding cut pieces
pieces_cut [] = refl
pieces_cut (b ∷ []) =
    let test : starts_with eqb (b ∷ []) (44 ∷ 32 ∷ []) ≡ false = and_right (eqb 44 b) false refl in
    rw test refl
pieces_cut (b ∷ c ∷ bs) =
    let test : starts_with eqb (b ∷ c ∷ bs) (44 ∷ 32 ∷ []) ≡ (eqb b 44 && eqb c 32) = rw (and_true (eqb 32 c), eqb_swap b 44, eqb_swap c 32) refl in
    elim (cases_Bool (eqb b 44 && eqb c 32)) [
      | inl hit ↦ rw (test, hit) refl
      | inr miss ↦ rw (test, miss, pieces_cut (c ∷ bs)) refl
    ]

pub pieces_last : (text : List ℕ) (r : Bor (List ℕ) × Option (Bor (List ℕ)))
    → (r.0.now, option_copied r.1) ≡ cut (44 ∷ 32 ∷ []) text → r.1 ≡ None → pieces text ≡ r.0.now ∷ []
pieces_last text r e none =
    let after : (cut (44 ∷ 32 ∷ []) text).1 ≡ None = ap (λ (p : List ℕ × Option (List ℕ)). p.1) (sym e) ∙ ap option_copied none in
    let front : (cut (44 ∷ 32 ∷ []) text).0 ≡ r.0.now = ap (λ (p : List ℕ × Option (List ℕ)). p.0) (sym e) in
    rw (pieces_cut text, after, front) refl

pub pieces_more : (text : List ℕ) (r : Bor (List ℕ) × Option (Bor (List ℕ))) (rest : Bor (List ℕ))
    → (r.0.now, option_copied r.1) ≡ cut (44 ∷ 32 ∷ []) text → r.1 ≡ Some rest
    → pieces text ≡ r.0.now ∷ pieces rest.now
pieces_more text r rest e some =
    let after : (cut (44 ∷ 32 ∷ []) text).1 ≡ Some rest.now = ap (λ (p : List ℕ × Option (List ℕ)). p.1) (sym e) ∙ ap option_copied some in
    let front : (cut (44 ∷ 32 ∷ []) text).0 ≡ r.0.now = ap (λ (p : List ℕ × Option (List ℕ)). p.0) (sym e) in
    rw (pieces_cut text, after, front) refl

pub pieces_first : (text : List ℕ) (r : Bor (List ℕ) × Option (Bor (List ℕ)))
    → (r.0.now, option_copied r.1) ≡ cut (44 ∷ 32 ∷ []) text
    → (others : List (List ℕ)) × (pieces text ≡ r.0.now ∷ others)
pieces_first text r e =
    let front : (cut (44 ∷ 32 ∷ []) text).0 ≡ r.0.now = ap (λ (p : List ℕ × Option (List ℕ)). p.0) (sym e) in
    (pieces_after (cut (44 ∷ 32 ∷ []) text).1, rw (pieces_cut text, front) refl)

-- any bytes have at least one piece
pub some_pieces : (text : List ℕ) → 0 < length (pieces text)
some_pieces text = rw (pieces_cut text) (omega arith)
