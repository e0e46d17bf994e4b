-- A prefix of a text, among texts that were written whole.
use Rattle.std.proofs.Common.{◌≡◌, ℕ, zero, suc, ◌+◌, ◌<◌, inl, inr, List, [], ◌∷◌, ◌++◌, length, take, drop, get_or, Option, refl, sym, ap, subst, ◌∙◌, arith, append_assoc}
use Rattle.std.specs.List.{flat_map}
use Rattle.std.specs.Io.KnownBytes.{Appends}
use Rattle.std.proofs.KnownBytes.{Appends-trans}
use Rattle.std.proofs.Math.Seq.{take-append_seam, take-append-add}
use Rattle.std.proofs.lemmas.Bool.{cases_lt}
use Rattle.std.proofs.lemmas.List.{take_all, take-append-le}
use Rattle.script_core.specs.Text.{AppendsPrefix}

-- a prefix of the front is a prefix of the whole
pub prefix_front : (a b : Option (List ℕ)) (x rest whole : List ℕ) → AppendsPrefix a b x → whole ≡ x ++ rest
    → AppendsPrefix a b whole
prefix_front a b x rest whole p e =
    elim (cases_lt (length x) p.0) [
      | inl long ↦
          let all : take p.0 x ≡ take (length x) whole = take_all p.0 x (omega arith) ∙ sym (take-append_seam x rest) ∙ ap (take (length x)) (sym e) in
          (length x, subst (Appends a b) all p.1)
      | inr short ↦
          let some : take p.0 x ≡ take p.0 whole = sym (take-append-le p.0 x rest short) ∙ ap (take p.0) (sym e) in
          (p.0, subst (Appends a b) some p.1)
    ]

-- the front, and a prefix of what follows it
pub prefix_after : (a b c : Option (List ℕ)) (x y rest whole : List ℕ) → Appends a b x → AppendsPrefix b c y
    → whole ≡ x ++ (y ++ rest) → AppendsPrefix a c whole
prefix_after a b c x y rest whole h p e =
    let q = prefix_front b c y rest (y ++ rest) p refl in
    let more : x ++ take q.0 (y ++ rest) ≡ take (length x + q.0) whole = sym (take-append-add x (y ++ rest) q.0) ∙ ap (take (length x + q.0)) (sym e) in
    (length x + q.0, subst (Appends a c) more (Appends-trans a b c x (take q.0 (y ++ rest)) h q.1))

-- the texts of a list, up to one of its elements, its own, and those after it
pub flat_map_at : {X : Type 0} (f : X → List ℕ) (xs : List X) (i : ℕ) (x : X) → i < length xs → x ≡ get_or xs i x
    → flat_map f xs ≡ flat_map f (take i xs) ++ (f x ++ flat_map f (drop (suc i) xs))
flat_map_at f [] i x lt e = absurd (omega arith)
flat_map_at f (y ∷ ys) zero x lt e = ap (λ (z : _). f z ++ flat_map f ys) (sym e)
flat_map_at f (y ∷ ys) (suc i) x lt e =
    ap (λ (l : List ℕ). f y ++ l) (flat_map_at f ys i x (omega arith) e)
    ∙ sym (append_assoc (f y) (flat_map f (take i ys)) (f x ++ flat_map f (drop (suc i) ys)))
