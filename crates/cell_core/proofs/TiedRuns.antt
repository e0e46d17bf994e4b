-- The effect of one step on each cell of a tied run, which runs the updates of its caller in order. Assumes `Logic`.
use Rattle.std.proofs.Common.{true, ◌≡◌, ◌≢◌, ℕ, suc, ◌+◌, ◌%◌, ◌^◌, ◌<◌, ◌≤◌, mod-eq_of_lt, List, [], ◌∷◌, length, replicate, sym, refl, ap, ◌∙◌, subst, arith}
use seplogic.Ra.Ura.{Ura}
use base.Logic.{SProp, ent, sep, ex, emp, guard, upd, upd_i}
use base.Fml.{Lft, Fml, ftrue, fsep}
use types.Logic.{Logic, sem}
use types.Kit.{‵, raw, ◌⊛◌, some, given, ◌$◌, ◌∵◌, !, qed, move, drop, use2, use3, split, join, check, fsplit, fsplit3, fjoin, fpick, pick, learn, show, suffices, rewrite, settle, done}
use denote.RattleType.{RattleType}
use denote.Steps.{nothing}
use Rattle.tie_core.specs.Tie.{Tie, Stage, Idle, Begun, Filled, Made, Shows, begins, fills, floor_of, update}
use Rattle.tie_core.specs.Run.{run_floor, updates}
use Rattle.cell_core.specs.Fields.{put, sums}
use Rattle.cell_core.specs.Slot.{Names, Turn, free, begun, busy, full, broken, broken_by_owner, state, cell_in, floors, room_at, over, setting, written, FirstRight}
use Rattle.cell_core.specs.Run.{AreAt, AreTiedTo, held, all_written}
use Rattle.cell_core.proofs.WordSteps.{S, Law, Row, lifts, floor_within}
use Rattle.cell_core.proofs.CellSteps.{held_at_zero}
use Rattle.cell_core.proofs.CellSteps as steps
use Rattle.cell_core.proofs.RunSteps as runs

-- the number of the table's invariant is not above that of the word's
pub run_within : (γs : List Names) (i : ℕ) (Γs : List Names) (ts : List Tie) → AreAt γs i Γs → AreTiedTo ts γs → 0 < length γs → run_floor ts ≤ floors Γs
run_within [] i Γs ts at tied near = absurd (omega (arith, near))
run_within (γ ∷ γs) i Γs [] at tied near = absurd tied
run_within (γ ∷ γs) i Γs (t ∷ ts) at tied near = let within = floor_within Γs i at.0 in let same : floor_of (cell_in Γs i).tied ≡ t.floor = ap (λ (n : Names). floor_of n.tied) at.1 ∙ ap floor_of tied.0 in let low : t.floor ≤ floors Γs = omega (arith, within, same) in low

-- a number that is no state
no_state : (R : RattleType) (y : S R) (n : ℕ) → state y ≡ n → 3 < n → n ≢ 5 → n ≢ 9 → ⊥
no_state R free n is more a b = let z : 0 ≡ n = is in omega (arith, z, more)
no_state R begun n is more a b = let z : 0 ≡ n = is in omega (arith, z, more)
no_state R busy n is more a b = let z : 1 ≡ n = is in omega (arith, z, more)
no_state R (full x) n is more a b = let z : 3 ≡ n = is in omega (arith, z, more)
no_state R broken n is more a b = a (sym is)
no_state R broken_by_owner n is more a b = b (sym is)

-- only the state of an empty cell and 3 are the state of a cell
from_zero : (R : RattleType) (s y : S R) → state y ≡ state s + 3 → state s ≡ 0
from_zero R free y is = refl
from_zero R begun y is = refl
from_zero R busy y is = absurd (no_state R y 4 is (omega arith) (λ z. omega (arith, z)) (λ z. omega (arith, z)))
from_zero R (full x) y is = absurd (no_state R y 6 is (omega arith) (λ z. omega (arith, z)) (λ z. omega (arith, z)))
from_zero R broken y is = absurd (no_state R y 8 is (omega arith) (λ z. omega (arith, z)) (λ z. omega (arith, z)))
from_zero R broken_by_owner y is = absurd (no_state R y 12 is (omega arith) (λ z. omega (arith, z)) (λ z. omega (arith, z)))

module _ {M : Type 1} {𝓤 : Ura M} (𝓛 : Logic 𝓤) (R : RattleType) (Γs : List Names) (t : Turn) (c e : ℕ) (age : Lft) (J : Fml) where
  abbrev Pr : Type 2
  Pr = SProp 𝓤

  abbrev ⟦◌⟧ : Fml → Pr
  ⟦ P ⟧ = sem 𝓛 P

  abbrev α : Lft
  α = t.0

  abbrev number : (ℕ → S R) → ℕ
  number = runs.number 𝓛 R Γs t c e

  abbrev Cells : (ℕ → S R) → Fml
  Cells = runs.Cells 𝓛 R Γs t c e

  abbrev Whole : (ℕ → ℕ) → (ℕ → Fml) → (ℕ → S R) → (ℕ → S R) → Pr
  Whole = runs.Whole 𝓛 R Γs t c e

  -- what the step that begins a run leaves: the right to write each cell, and the gain
  abbrev pub Begins : List Names → ℕ → (List Made → Fml) → Fml
  Begins γs i gain = fsep (held R true t c e γs i []) (gain (replicate (length γs) (Idle, Begun)))

  abbrev pub Loaded : List Names → ℕ → (List Made → Fml) → (ℕ → S R) → (ℕ → S R) → Pr
  Loaded γs i gain = Whole (λ n. n) (λ _. fsep J (Begins γs i gain))

  pub begins_for : (γs : List Names) (i : ℕ) → AreAt γs i Γs → (ts : List Tie) → AreTiedTo ts γs → (gain : List Made → Fml) → (s : ℕ → S R)
      → ent 𝓤 (sep 𝓤 ⟦ Cells s ⟧ (sep 𝓤 ⟦ J ⟧ ⟦ updates age J begins ts gain ⟧)) (upd 𝓤 (ex 𝓤 (Loaded γs i gain s)))
  begins_for [] i at [] tied gain s = let Z : Pr = ex 𝓤 (Loaded [] i gain s) in qed 𝓛 (‵ (Cells s) ∷ ‵ J ∷ ‵ (gain []) ∷ []) ∵ suffices ! _ (upd_i 𝓤 Z) $ nothing ! $
      move ! (0 ∷ 3 ∷ []) $ fjoin ! $ move ! (2 ∷ 0 ∷ []) $ fjoin ! $ move ! (1 ∷ 0 ∷ []) $ show ! (Loaded [] i gain s) s $ check ! refl $ done !
  begins_for [] i at (τ ∷ ts) tied gain s = absurd tied
  begins_for (γ ∷ γs) i at [] tied gain s = absurd tied
  begins_for (γ ∷ γs) i at (τ ∷ ts) tied gain s =
      let x : Made = (Idle, Begun) in let next : List Made → Fml = λ ms. gain (x ∷ ms) in let given_by : Stage → Stage → Fml = λ a b. updates age J begins ts (λ ms. gain ((a, b) ∷ ms)) in
      let δ = t.1 i in let r : ℕ = room_at R e i in let First : Fml = FirstRight R γ α δ c r in let Update : Fml = update age J given_by τ begins in
      let after : ℕ → Fml = λ n. fsep J (fsep First (steps.ran 𝓛 R γ α δ c r age J given_by τ begins n)) in let X : Pr = sep 𝓤 ⟦ J ⟧ (sep 𝓤 ⟦ Update ⟧ (emp 𝓤)) in
      let law : Law 𝓛 R α c (cell_in Γs i) δ r (λ n. n) after X = subst (λ (n : Names). Law 𝓛 R α c n δ r (λ k. k) after X) (sym at.1) (steps.begins_by 𝓛 R γ α δ c r age J given_by τ tied.0) in
      let Z : Pr = ex 𝓤 (Loaded (γ ∷ γs) i gain s) in let Rest : Fml = Begins γs (suc i) next in
      qed 𝓛 (‵ (Cells s) ∷ ‵ J ∷ ‵ Update ∷ []) ∵ nothing ! $ move ! (3 ∷ 0 ∷ []) $ join ! $ move ! (2 ∷ 0 ∷ []) $ join ! $ move ! (1 ∷ 0 ∷ []) $
      use2 𝓛 (raw (upd 𝓤 (ex 𝓤 (Row 𝓛 R α c Γs t.1 e i (λ n. n) after s)))) (lifts 𝓛 R α c Γs t.1 e i at.0 (λ n. n) after X law s) $
      settle 𝓛 Z (some (λ (y : S R). given (state y ≡ state (s i)) (‵ (Cells (put i y s)) ⊛ ‵ (after (state (s i)))))) $ pick ! (λ y. learn ! (λ is. split ! $ let u : ℕ → S R = put i y s in
      -- [the cells; what the step leaves]
      move ! (1 ∷ []) $ fsplit3 ! $ move ! (2 ∷ []) $ fpick ! (λ m. fsplit ! $ move ! (1 ∷ []) $ fpick ! (λ has. drop ! $
      -- [the other updates; the table; the right; the cells]
      rewrite ! 0 (λ (v : Made). ‵ (given_by v.0 v.1)) (λ j. (has.1 j, has.0.1 j)) refl $ move ! (3 ∷ 1 ∷ 0 ∷ []) $
      use3 𝓛 (raw (upd 𝓤 (ex 𝓤 (Loaded γs (suc i) next u)))) (begins_for γs (suc i) at.2 ts tied.1 next u) $
      settle 𝓛 Z (some (λ (z : ℕ → S R). given (number z ≡ number u) (‵ (Cells z) ⊛ ‵ (fsep J Rest)))) $ pick ! (λ z. learn ! (λ so. split ! $ suffices ! _ (upd_i 𝓤 Z) $
      -- [the cells; what is left; the right]
      move ! (1 ∷ []) $ fsplit3 ! $ move ! (4 ∷ 1 ∷ []) $ fjoin ! $ move ! (0 ∷ 2 ∷ []) $ fjoin ! $ move ! (1 ∷ 0 ∷ []) $ fjoin ! $ move ! (1 ∷ 0 ∷ []) $
      show ! (Loaded (γ ∷ γs) i gain s) z $ check ! (so ∙ runs.same_number 𝓛 R Γs t c e s i y is) $ done !))))))

  -- what the step that publishes a run leaves: what shows the values, and the gain
  abbrev pub Fills : List Names → List R.Denot → (List Made → Fml) → Fml
  Fills γs xs gain = fsep (all_written R γs xs) (gain (replicate (length γs) (Begun, Filled)))

  abbrev Added : List Names → ℕ → List R.Denot → (List Made → Fml) → (ℕ → S R) → (ℕ → S R) → Pr
  Added γs i xs gain s z = guard 𝓤 (number z ≡ number s + sums 3 (length γs) i) (sep 𝓤 ⟦ Cells z ⟧ ⟦ fsep J (Fills γs xs gain) ⟧)

  publishes_for : (γs : List Names) (i : ℕ) → AreAt γs i Γs → (ts : List Tie) → AreTiedTo ts γs → (xs : List R.Denot) → length xs ≡ length γs → (gain : List Made → Fml) → (s : ℕ → S R)
      → ent 𝓤 (sep 𝓤 ⟦ Cells s ⟧ (sep 𝓤 ⟦ J ⟧ (sep 𝓤 ⟦ updates age J fills ts gain ⟧ ⟦ held R true t c e γs i xs ⟧))) (upd 𝓤 (ex 𝓤 (Added γs i xs gain s)))
  publishes_for [] i at [] tied xs same gain s = let Z : Pr = ex 𝓤 (Added [] i xs gain s) in qed 𝓛 (‵ (Cells s) ∷ ‵ J ∷ ‵ (gain []) ∷ ‵ ftrue ∷ []) ∵ suffices ! _ (upd_i 𝓤 Z) $
      move ! (3 ∷ 2 ∷ []) $ fjoin ! $ move ! (2 ∷ 0 ∷ []) $ fjoin ! $ move ! (1 ∷ 0 ∷ []) $ show ! (Added [] i xs gain s) s $ check ! (omega arith) $ done !
  publishes_for [] i at (τ ∷ ts) tied xs same gain s = absurd tied
  publishes_for (γ ∷ γs) i at [] tied xs same gain s = absurd tied
  publishes_for (γ ∷ γs) i at (τ ∷ ts) tied [] same gain s = absurd (omega (arith, same))
  publishes_for (γ ∷ γs) i at (τ ∷ ts) tied (x ∷ xs) same gain s =
      let m' : Made = (Begun, Filled) in let next : List Made → Fml = λ ms. gain (m' ∷ ms) in let given_by : Stage → Stage → Fml = λ a b. updates age J fills ts (λ ms. gain ((a, b) ∷ ms)) in
      let δ = t.1 i in let r : ℕ = room_at R e i in let F : Fml = steps.frozen 𝓛 R γ α δ c r x in let Update : Fml = update age J given_by τ fills in let Shown : ℕ → Fml = λ _. written R γ.value_name x in let g : ℕ → ℕ = λ n. n + 3 in
      let after : ℕ → Fml = λ n. fsep J (fsep (Shown n) (steps.ran 𝓛 R γ α δ c r age J given_by τ fills n)) in
      let W : Pr = sep 𝓤 ⟦ setting R γ true ⟧ (sep 𝓤 ⟦ over R γ ⟧ ⟦ F ⟧) in let X : Pr = sep 𝓤 ⟦ J ⟧ (sep 𝓤 ⟦ Update ⟧ W) in
      let law : Law 𝓛 R α c (cell_in Γs i) δ r g after X = subst (λ (n : Names). Law 𝓛 R α c n δ r g after X) (sym at.1) (steps.asks_by 𝓛 R γ α δ c r age J given_by τ fills g Shown W tied.0 (steps.publishes_by 𝓛 R γ α δ c r true x)) in
      let Z : Pr = ex 𝓤 (Added (γ ∷ γs) i (x ∷ xs) gain s) in let Rest : Fml = Fills γs xs next in let Held : Fml = held R true t c e γs (suc i) xs in
      qed 𝓛 (‵ (Cells s) ∷ ‵ J ∷ ‵ Update ∷ ‵ (held R true t c e (γ ∷ γs) i (x ∷ xs)) ∷ []) ∵ move ! (3 ∷ []) $ fsplit ! $ fsplit ! $ fsplit ! $
      -- [the epoch has ended; the right to set; the frozen value; the other cells of the run; the cells; the table; the update]
      move ! (0 ∷ 2 ∷ []) $ join ! $ move ! (1 ∷ 0 ∷ []) $ join ! $ move ! (4 ∷ 0 ∷ []) $ join ! $ move ! (3 ∷ 0 ∷ []) $ join ! $ move ! (2 ∷ 0 ∷ []) $
      use2 𝓛 (raw (upd 𝓤 (ex 𝓤 (Row 𝓛 R α c Γs t.1 e i g after s)))) (lifts 𝓛 R α c Γs t.1 e i at.0 g after X law s) $
      settle 𝓛 Z (some (λ (y : S R). given (state y ≡ g (state (s i))) (‵ (Cells (put i y s)) ⊛ ‵ (after (state (s i)))))) $ pick ! (λ y. learn ! (λ so. split ! $ let u : ℕ → S R = put i y s in
      -- [the cells; what the step leaves; the other cells of the run]
      move ! (1 ∷ []) $ fsplit3 ! $ move ! (2 ∷ []) $ fpick ! (λ m. fsplit ! $ move ! (1 ∷ []) $ fpick ! (λ has. drop ! $
      let none : state (s i) ≡ 0 = from_zero R (s i) y so in let from : m.0 ≡ Begun = held_at_zero m.0 (subst (λ (n : ℕ). Shows m.0 n) none has.0.0) has.0.1 in
      -- [the other updates; the table; written; the cells; the other cells of the run]
      rewrite ! 0 (λ (v : Made). ‵ (given_by v.0 v.1)) (λ j. (from j, has.0.2 j)) refl $ move ! (0 ∷ 4 ∷ []) $ join ! $ move ! (3 ∷ 1 ∷ 0 ∷ []) $
      use3 𝓛 (raw (upd 𝓤 (ex 𝓤 (Added γs (suc i) xs next u)))) (publishes_for γs (suc i) at.2 ts tied.1 xs (omega (arith, same)) next u) $
      settle 𝓛 Z (some (λ (z : ℕ → S R). given (number z ≡ number u + sums 3 (length γs) (suc i)) (‵ (Cells z) ⊛ ‵ (fsep J Rest)))) $ pick ! (λ z. learn ! (λ is. split ! $ suffices ! _ (upd_i 𝓤 Z) $
      -- [the cells; what is left; written]
      move ! (1 ∷ []) $ fsplit3 ! $ move ! (4 ∷ 1 ∷ []) $ fjoin ! $ move ! (0 ∷ 2 ∷ []) $ fjoin ! $ move ! (1 ∷ 0 ∷ []) $ fjoin ! $ move ! (1 ∷ 0 ∷ []) $
      show ! (Added (γ ∷ γs) i (x ∷ xs) gain s) z $ check ! (let l = runs.more 𝓛 R Γs t c e s i 3 at.0 y so in omega (arith, l, is)) $ done !))))))

  module _ (γs : List Names) (i : ℕ) (at : AreAt γs i Γs) (short : length Γs ≤ 16) (ts : List Tie) (tied : AreTiedTo ts γs) (xs : List R.Denot) (same : length xs ≡ length γs) (gain : List Made → Fml) (k : ℕ) (sum : k ≡ sums 3 (length γs) i) where
    abbrev Adds : ℕ → ℕ
    Adds n = (n + k) % 2 ^ 64

    abbrev After : ℕ → Fml
    After n = fsep J (Fills γs xs gain)

    pub shows_for : (s : ℕ → S R)
        → ent 𝓤 (sep 𝓤 ⟦ Cells s ⟧ (sep 𝓤 ⟦ J ⟧ (sep 𝓤 ⟦ updates age J fills ts gain ⟧ ⟦ held R true t c e γs i xs ⟧))) (upd 𝓤 (ex 𝓤 (Whole Adds After s)))
    shows_for s = let Z : Pr = ex 𝓤 (Whole Adds After s) in
        qed 𝓛 (‵ (Cells s) ∷ ‵ J ∷ (‵ (updates age J fills ts gain) ⊛ ‵ (held R true t c e γs i xs)) ∷ []) ∵ use3 𝓛 (raw (upd 𝓤 (ex 𝓤 (Added γs i xs gain s)))) (publishes_for γs i at ts tied xs same gain s) $
        settle 𝓛 Z (some (λ (z : ℕ → S R). given (number z ≡ number s + sums 3 (length γs) i) (‵ (Cells z) ⊛ ‵ (fsep J (Fills γs xs gain))))) $ pick ! (λ z. learn ! (λ so. split ! $
        let is : number z ≡ number s + k = so ∙ ap (λ (n : ℕ). number s + n) (sym sum) in
        let fits : number s + k < 2 ^ 64 = subst (λ (n : ℕ). n < 2 ^ 64) is (runs.below 𝓛 R Γs t c e short z) in
        suffices ! _ (upd_i 𝓤 Z) $ show ! (Whole Adds After s) z $ check ! (is ∙ sym (mod-eq_of_lt fits)) $ done !))
