-- Cells of a block are begun in order, and filled, by the rule for tests.
use Rattle.std.proofs.Common.{◌≡◌, ◌⊎◌, ℕ, zero, suc, ◌+◌, ◌<◌, ◌≤◌, List, [], ◌∷◌, ◌++◌, length, length-append, set, replicate, refl, sym, ap, ◌∙◌, subst, inl, inr, ⊎_elim, arith}
use Rattle.std.specs.Prelude.{Option, Some, None}
use mathlib.Core.Option.{some, some-injective, some-ne-none}
use mathlib.Core.Logic.{dite}
use native.Mathlib.Decide.{dec_lt}
use lib.ListN.{get_elem?}
use Rattle.atomic_table.specs.Table.{State}
use Rattle.atomic_table.proofs.Lists.{at_set, set_again}
use Rattle.tie_core.specs.Tie.{Stage, Idle, Begun, Mending, Filled, Broken, stage_number, Made, IsHeld, begins, fills}
use Rattle.tie_core.specs.Desk.{IsBack}
use Rattle.tie_core.specs.Permits.{PermitsRow}
use Rattle.tie_core.specs.Run.{PermitsRun, IsBackWith}
use Rattle.memory_tests.specs.InOrder.{idle_from, AreInOrder}

-- an element of two lists is of the first or of the second
parts : (vs ys : List ℕ) (j b : ℕ) → get_elem? (vs ++ ys) j ≡ some b → ((j < length vs) × (get_elem? vs j ≡ some b)) ⊎ ((i : ℕ) × (j ≡ length vs + i) × (get_elem? ys i ≡ some b))
parts [] ys j b e = inr (j, omega arith, e)
parts (v ∷ vs) ys zero b e = inl (omega arith, e)
parts (v ∷ vs) ys (suc j) b e = ⊎_elim (λ t. inl (let l = t.0 in omega (arith, l), t.1)) (λ t. inr (t.0, (let l = t.1 in omega (arith, l)), t.2)) (parts vs ys j b e)

zeros : (n i x : ℕ) → get_elem? (replicate n 0) i ≡ some x → x ≡ 0
zeros zero i x e = absurd (some-ne-none x (sym e))
zeros (suc n) zero x e = sym (some-injective 0 x e)
zeros (suc n) (suc i) x e = zeros n i x e

last_only : (a i b : ℕ) → get_elem? (a ∷ []) i ≡ some b → (i ≡ 0) × (a ≡ b)
last_only a zero b e = (refl, some-injective a b e)
last_only a (suc i) b e = absurd (some-ne-none b (sym e))

pub opened : AreInOrder (0 ∷ [])
opened j from k x at low high seen = let e = (last_only 0 j (idle_from from) at).1 in absurd (omega (arith, e))

-- new cells are idle, and their block's seat says so
laid_in_order : (vs : List ℕ) (n : ℕ) → AreInOrder vs → AreInOrder ((vs ++ replicate n 0) ++ idle_from (length vs) ∷ [])
laid_in_order vs n are j from k x at low high seen = let rs : List ℕ = replicate n 0 in let ws : List ℕ = vs ++ rs in let l : ℕ = length vs in
    ⊎_elim
    (λ old. ⊎_elim
    (λ here. ⊎_elim (λ s. ⊎_elim (λ t. are j from k x here.1 low high t.1) (λ t. zeros n t.0 x t.2) (parts vs rs k x s.1))
    (λ s. absurd (let a = old.0 in let b = s.1 in omega (arith, a, b))) (parts ws (idle_from l ∷ []) k x seen))
    (λ new. absurd (let z = zeros n new.0 (idle_from from) new.2 in omega (arith, z)))
    (parts vs rs j (idle_from from) old.1))
    (λ last. let is = last_only (idle_from l) last.0 (idle_from from) last.2 in
    ⊎_elim (λ s. ⊎_elim (λ t. absurd (let a = t.0 in let b = is.1 in omega (arith, a, b))) (λ t. zeros n t.0 x t.2) (parts vs rs k x s.1))
    (λ s. absurd (let a = last.1 in let b = s.1 in let c = is.0 in omega (arith, a, b, c))) (parts ws (idle_from l ∷ []) k x seen))
    (parts ws (idle_from l ∷ []) j (idle_from from) at)

pub lays_in_order : {S : Type 0} (n : ℕ) → PermitsRow (λ (s : State S ℕ). AreInOrder s.views) stage_number (λ first _. idle_from first) n
lays_in_order n s are = laid_in_order s.views n are

idle_at_zero : (a : Stage) → stage_number a ≡ 0 → a ≡ Idle
idle_at_zero Idle e = refl
idle_at_zero Begun e = absurd (let z : 1 ≡ 0 = e in omega (arith, z))
idle_at_zero Mending e = absurd (let z : 2 ≡ 0 = e in omega (arith, z))
idle_at_zero Filled e = absurd (let z : 3 ≡ 0 = e in omega (arith, z))
idle_at_zero Broken e = absurd (let z : 4 ≡ 0 = e in omega (arith, z))

-- the first idle cell of a block is begun
begun_next : (vs : List ℕ) (id k : ℕ) → AreInOrder vs → get_elem? vs id ≡ some (idle_from k) → k < id → AreInOrder (set (set vs id (idle_from (suc k))) k 1)
begun_next vs id k are at near j from l x here low high seen =
    let u : ℕ = idle_from (suc k) in let us : List ℕ = set vs id u in
    let owned : id < j → from ≤ id → ⊥ = (λ far within. ⊎_elim
    (λ t. let e = t.1 in omega (arith, e))
    (λ t. ⊎_elim (λ s. let e = s.0 in omega (arith, e, far)) (λ s. let z = are j from id (idle_from k) s.1 within far at in omega (arith, z)) (at_set vs id j u (idle_from from) t.1))
    (at_set us k j 1 (idle_from from) here)) in
    ⊎_elim
    (λ t. absurd (let e = t.1 in omega (arith, e)))
    (λ t. ⊎_elim
    (λ s. let first : suc k ≤ l = (let e = s.1 in omega (arith, e, low)) in
    ⊎_elim (λ r. absurd (let e = r.0 in omega (arith, e, first)))
    (λ r. ⊎_elim (λ q. absurd (let e = q.0 in let f = s.0 in omega (arith, e, f, high))) (λ q. are id k l x at (omega (arith, first)) (let f = s.0 in omega (arith, f, high)) q.1) (at_set vs id l u x r.1))
    (at_set us k l 1 x seen))
    (λ s. ⊎_elim
    (λ r. absurd (let e = r.0 in dite (dec_lt j id)
    (λ less. let z = are id k j (idle_from from) at (omega (arith, e, high)) less s.1 in omega (arith, z))
    (λ more. let n = s.0 in owned (dite (dec_lt id j) (λ h. h) (λ h. absurd (n (omega (arith, more, h))))) (omega (arith, e, low, near)))))
    (λ r. ⊎_elim (λ q. absurd (let e = q.0 in owned (omega (arith, e, high)) (omega (arith, e, low)))) (λ q. are j from l x s.1 low high q.1) (at_set vs id l u x r.1))
    (at_set us k l 1 x seen))
    (at_set vs id j u (idle_from from) t.1))
    (at_set us k j 1 (idle_from from) here)

-- the cells of a block are begun one after the other, by the block's seat
pub begins_in_order : {S : Type 0} (id v k n : ℕ) → v ≡ idle_from k → k + n ≤ id → PermitsRun (λ (s : State S ℕ). AreInOrder s.views) stage_number begins id v k n (λ ms u. u ≡ v + length ms)
begins_in_order id v k n first whole = record {
  start = omega arith;
  next = λ ms u less is s m a b are at apart seen moves.
      let i : ℕ = k + length ms in let now : u ≡ idle_from i = omega (arith, is, first) in let here : get_elem? s.views id ≡ some (idle_from i) = at ∙ ap some now in
      let near : i < id = omega (arith, less, whole) in let none : stage_number a ≡ 0 = are id i i (stage_number a) here (omega arith) near seen in
      let more : length (ms ++ (a, b) ∷ []) ≡ length ms + 1 = length-append ms ((a, b) ∷ []) in (
        idle_from (suc i),
        subst (λ (x : ℕ). AreInOrder (set (set s.views id (idle_from (suc i))) i x)) (sym (ap stage_number moves.1)) (begun_next s.views id i are here near),
        idle_at_zero a none,
        omega (arith, more, first),
      );
}

-- a cell that is not idle is filled
filled_next : (vs : List ℕ) (k : ℕ) (a : Stage) → AreInOrder vs → get_elem? vs k ≡ some (stage_number a) → (a ≡ Idle → ⊥) → AreInOrder (set vs k 3)
filled_next vs k a are at held j from l x here low high seen = ⊎_elim
    (λ t. absurd (let e = t.1 in omega (arith, e)))
    (λ t. ⊎_elim
    (λ r. absurd (held (idle_at_zero a (are j from k (stage_number a) t.1 (let e = r.0 in omega (arith, e, low)) (let e = r.0 in omega (arith, e, high)) at))))
    (λ r. are j from l x t.1 low high r.1) (at_set vs k l 3 x seen))
    (at_set vs k j 3 (idle_from from) here)

held_is_not_idle : (a : Stage) → IsHeld a → a ≡ Idle → ⊥
held_is_not_idle a held idle = subst IsHeld idle held

-- cells that are begun are filled one after the other, by any other seat
pub fills_in_order : {S : Type 0} (id v k n : ℕ) → PermitsRun (λ (s : State S ℕ). AreInOrder s.views) stage_number fills id v k n (λ ms u. u ≡ v)
fills_in_order id v k n = record {
  start = refl;
  next = λ ms u less is s m a b are at apart seen moves.
      let i : ℕ = k + length ms in let same : set s.views id u ≡ s.views = set_again s.views id u at in
      (u, subst (λ (w : List ℕ × ℕ). AreInOrder (set w.0 i w.1)) (λ l. (sym same l, ap stage_number (sym moves.2) l)) (filled_next s.views i a are seen (held_is_not_idle a moves.1)), tt, is);
}

-- a badge that is given back has one view
pub one_view : (then : Stage → Stage → ℕ → Type 0) (made : Option Made) (views : List ℕ) → IsBack then made views → (u : ℕ) × (views ≡ u ∷ [])
one_view then None views is = absurd is
one_view then (Some m) views is = (is.0, is.1)

pub one_back : (then : List Made → ℕ → Type 0) (made : Option (List Made)) (views : List ℕ) → IsBackWith then made views → (u : ℕ) × (views ≡ u ∷ [])
one_back then None views is = absurd is
one_back then (Some ms) views is = (is.0, is.1)
