-- A step on a word that holds a pointer opens the word's invariant and a second one. Both hold borrows. Assumes `Logic`.
use mathlib.Core.Path.{◌≡◌, subst}
use mathlib.Core.Bool.{Bool, cond}
use mathlib.Core.List.{List, [], ◌∷◌, Mem, mem-cons, not-mem-nil}
use mathlib.Core.Logic.Or
use mathlib.Core.HLevel.{⊥_prop}
use Prim.Native.Nat.{ℕ}
use seplogic.Ra.Ura.{Ura}
use base.Logic.{SProp, ent, sep, wand, ex, guard, upd, apply∗, ex_i, upd_i}
use base.Fml.{Lft, Share, Fml, fsep, flft, fbor, fnamed}
use types.Logic.{Logic, sem}
use types.Kit.{‵, raw, ◌⊛◌, some, ◌$◌, ◌∵◌, !, qed, move, split, split3, join, pick, show, check, frame, assume, suffices, settle, done, use2, use3}
use denote.RawPtr.{Ptr, block_ptr}
use Rattle.core.specs.Sync.RawAtomic.{Shift, rests, opens, shuts, enters, leaves, along, if_none}
use Rattle.core.specs.Sync.RawAtomic.Pointer.{cell, alike, found_ptr, asks_by_cases, compares}
use Rattle.core.proofs.raw_atomic.Asked.{PtrLies, PtrAgain}

module _ {M : Type 1} {𝓤 : Ura M} (𝓛 : Logic 𝓤) (κ μ : Lft) (q r : Share) (I J : Fml) (b o : ℕ) where
  open 𝓛 use {A}

  abbrev Pr : Type 2
  Pr = SProp 𝓤

  abbrev ◌∗◌ : Pr → Pr → Pr
  P ∗ Q = sep 𝓤 P Q

  abbrev ◌-∗◌ : Pr → Pr → Pr
  P -∗ Q = wand 𝓤 P Q

  abbrev ⟦◌⟧ : Fml → Pr
  ⟦ P ⟧ = sem 𝓛 P

  infixr 35 ◌∗◌
  infixr 30 ◌-∗◌
  -- the two tokens, and what is left
  abbrev pub with_tokens : Fml → Fml
  with_tokens P = fsep (flft κ q) (fsep (flft μ r) P)

  module _ (C : Type 0) (was new : C → Ptr) (tells after : C → Fml) where
    -- what the step leaves, the content of the other invariant too
    abbrev pub also : C → Fml
    also p = fsep J (after p)

    abbrev pub then : C → Fml
    then p = with_tokens (after p)

    pub borrowed_ptr_both : (i j : ℕ) → ¬ (j ≡ i) → (X : Pr) → ent 𝓤 (⟦ I ⟧ ∗ ⟦ J ⟧ ∗ X) (upd 𝓤 (ex 𝓤 (PtrLies 𝓛 κ q I b o C was new tells also)))
        → ent 𝓤 (A.named i (fbor κ I) ∗ A.named j (fbor μ J) ∗ A.lft κ q ∗ A.lft μ r ∗ X) (asks_by_cases 𝓛 C was new tells then (block_ptr b o))
    borrowed_ptr_both i j apart X h = let P : Fml = fbor κ I in let Q : Fml = fbor μ J in let L : List (ℕ × Fml) = (j, Q) ∷ (i, P) ∷ [] in let K : List (ℕ × Fml) → Pr = λ l. ex 𝓤 (found_ptr 𝓛 C was new tells then l b o) in let F : Pr = K L in
        let O : Pr = A.obor κ q I in let O' : Pr = A.obor μ r J in let Inner : Pr = (A.bor μ J ∗ A.lft μ r) ∗ ((O' ∗ ⟦ J ⟧) -∗ upd 𝓤 F) in let Opened : Pr = (A.bor κ I ∗ A.lft κ q) ∗ ((O ∗ ⟦ I ⟧) -∗ upd 𝓤 Inner) in
        let Second : Pr = guard 𝓤 (¬ Mem j (i ∷ [])) (A.named j Q ∗ (⟦ Q ⟧ -∗ upd 𝓤 Opened)) in let U : C → Pr = PtrAgain 𝓛 κ q I b o C was new tells also in
        qed 𝓛 (‵ (fnamed i P) ∷ ‵ (fnamed j Q) ∷ raw (A.lft κ q) ∷ raw (A.lft μ r) ∷ raw X ∷ []) ∵ suffices ! _ (ex_i 𝓤 (λ (s : Shift). along 𝓛 s K []) (enters i P (enters j Q (opens κ q I (opens μ r J rests))))) $
        suffices ! _ (upd_i 𝓤 (guard 𝓤 (¬ Mem i []) (A.named i P ∗ (⟦ P ⟧ -∗ upd 𝓤 Second)))) $ check ! (λ m. not-mem-nil m) $ frame ! $ assume ! (‵ P) $ suffices ! _ (upd_i 𝓤 Second) $
        check ! (λ m. Or.elim ⊥_prop ((mem-cons {a = j} {b = i} {l = []}).0 m) apart (λ x. not-mem-nil x)) $ move ! (1 ∷ []) $ frame ! $ assume ! (‵ Q) $ suffices ! _ (upd_i 𝓤 Opened) $
        -- [the other borrow; the word's; its token; the other token; X]
        move ! (1 ∷ 2 ∷ []) $ join ! $ frame ! $ assume ! (raw O ⊛ ‵ I) $ suffices ! _ (upd_i 𝓤 Inner) $ move ! (1 ∷ 2 ∷ []) $ join ! $ frame ! $ assume ! (raw O' ⊛ ‵ J) $ split ! $ move ! (2 ∷ []) $ split ! $
        -- [the word's is open; its content; the other is open; its content; X]
        move ! (1 ∷ 3 ∷ 4 ∷ []) $ use3 𝓛 (raw (upd 𝓤 (ex 𝓤 (PtrLies 𝓛 κ q I b o C was new tells also)))) h $ settle 𝓛 F (some (λ (p : C). ‵ (cell b o (was p)) ⊛ ‵ (tells p) ⊛ raw (U p))) $ suffices ! _ (upd_i 𝓤 F) $ pick ! (λ p. split3 ! $
        show ! (found_ptr 𝓛 C was new tells then L b o) p $ frame ! $ frame ! $ assume ! (‵ (cell b o (new p))) $
        let T : Pr = ⟦ then p ⟧ in let R : Pr = ⟦ I ⟧ ∗ ⟦ J ⟧ ∗ ⟦ after p ⟧ in let Closed : Pr = ⟦ Q ⟧ ∗ upd 𝓤 (⟦ P ⟧ ∗ upd 𝓤 T) in
        let Late : Pr = (O' ∗ ⟦ J ⟧) ∗ ((A.bor μ J ∗ A.lft μ r) -∗ upd 𝓤 Closed) in let Early : Pr = (O ∗ ⟦ I ⟧) ∗ ((A.bor κ I ∗ A.lft κ q) -∗ upd 𝓤 Late) in
        use2 𝓛 (raw (upd 𝓤 R)) (apply∗ 𝓤 ⟦ cell b o (new p) ⟧ (upd 𝓤 R)) $ suffices ! _ (ex_i 𝓤 (λ (s : Shift). along 𝓛 s (if_none 𝓛 T) L) (shuts κ q I (shuts μ r J (leaves (leaves rests))))) $
        settle 𝓛 Early (‵ I ⊛ ‵ J ⊛ ‵ (after p)) $ suffices ! _ (upd_i 𝓤 Early) $ split3 ! $
        -- [the word's content; the other one's; what is left; the word's is open; the other is open]
        move ! (3 ∷ 0 ∷ []) $ join ! $ frame ! $ assume ! (‵ P ⊛ ‵ (flft κ q)) $ suffices ! _ (upd_i 𝓤 Late) $ move ! (3 ∷ 1 ∷ []) $ join ! $ frame ! $ assume ! (‵ Q ⊛ ‵ (flft μ r)) $
        suffices ! _ (upd_i 𝓤 Closed) $ split ! $ frame ! $ suffices ! _ (upd_i 𝓤 (⟦ P ⟧ ∗ upd 𝓤 T)) $ move ! (1 ∷ []) $ split ! $ frame ! $ suffices ! _ (upd_i 𝓤 T) $ done !)

  both_sides : (y : Bool) (P Q : Fml) → with_tokens (cond y P Q) ≡ cond y (with_tokens P) (with_tokens Q)
  both_sides mathlib.Core.Bool.true P Q = mathlib.Core.Path.refl
  both_sides mathlib.Core.Bool.false P Q = mathlib.Core.Path.refl

  -- the same of an exchange
  module _ (current new : Ptr) (won lost : Ptr → Fml) where
    abbrev pub outcome : Ptr × Bool → Fml
    outcome i = cond i.1 (won i.0) (lost i.0)

    abbrev pub Compared_both : Ptr × Bool → Pr
    Compared_both = PtrLies 𝓛 κ q I b o (Ptr × Bool) (λ i. i.0) (λ i. cond i.1 new i.0) (λ i. alike i.0 current i.1) (λ i. fsep J (outcome i))

    pub borrowed_compares_both : (i j : ℕ) → ¬ (j ≡ i) → (X : Pr) → ent 𝓤 (⟦ I ⟧ ∗ ⟦ J ⟧ ∗ X) (upd 𝓤 (ex 𝓤 Compared_both))
        → ent 𝓤 (A.named i (fbor κ I) ∗ A.named j (fbor μ J) ∗ A.lft κ q ∗ A.lft μ r ∗ X) (compares 𝓛 (block_ptr b o) current new (λ p. with_tokens (won p)) (λ p. with_tokens (lost p)))
    borrowed_compares_both i j apart X h =
        subst (λ (F : Ptr × Bool → Fml). ent 𝓤 (A.named i (fbor κ I) ∗ A.named j (fbor μ J) ∗ A.lft κ q ∗ A.lft μ r ∗ X) (asks_by_cases 𝓛 (Ptr × Bool) (λ c. c.0) (λ c. cond c.1 new c.0) (λ c. alike c.0 current c.1) F (block_ptr b o)))
        (λ k c. both_sides c.1 (won c.0) (lost c.0) k)
        (borrowed_ptr_both (Ptr × Bool) (λ c. c.0) (λ c. cond c.1 new c.0) (λ c. alike c.0 current c.1) outcome i j apart X h)
