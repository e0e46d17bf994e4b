-- A step opens a word's invariant and a second one: a step on that word, or one on a word of the caller's own. Both hold borrows.
-- Assumes `Logic`.
use mathlib.Core.Path.{◌≡◌}
use mathlib.Core.List.{List, [], ◌∷◌, Mem, mem-cons, not-mem-nil}
use mathlib.Core.Logic.Or
use mathlib.Core.HLevel.{⊥_prop}
use Prim.Native.Nat.{ℕ}
use seplogic.Ra.Ura.{Ura}
use base.Logic.{SProp, ent, sep, wand, ex, all, guard, upd, apply∗, ex_i, all_e, upd_i}
use base.Fml.{Lft, Share, Fml, fsep, flft, fbor, fnamed}
use types.Logic.{Logic, sem}
use types.Kit.{‵, raw, ◌⊛◌, some, ◌$◌, ◌∵◌, !, qed, move, split, split3, join, fjoin, pick, show, check, frame, each, assume, suffices, settle, done, use1, use2, use3}
use denote.RawPtr.{block_ptr}
use Rattle.core.specs.Sync.RawAtomic.{Shift, rests, opens, shuts, enters, leaves, word, always, along, if_none, back, found, asks}
use Rattle.core.proofs.raw_atomic.Asked.{Lies, Again}

module _ {M : Type 1} {𝓤 : Ura M} (𝓛 : Logic 𝓤) (κ μ : Lft) (q r : Share) (I J : Fml) (b o : ℕ) where
  open 𝓛 use {A}

  abbrev Pr : Type 2
  Pr = SProp 𝓤

  abbrev ◌∗◌ : Pr → Pr → Pr
  P ∗ Q = sep 𝓤 P Q

  abbrev ◌-∗◌ : Pr → Pr → Pr
  P -∗ Q = wand 𝓤 P Q

  abbrev ⟦◌⟧ : Fml → Pr
  ⟦ P ⟧ = sem 𝓛 P

  infixr 35 ◌∗◌
  infixr 30 ◌-∗◌
  module _ (f : ℕ → ℕ) (after : ℕ → Fml) where
    -- what the step leaves, the content of the other invariant too
    abbrev pub also : ℕ → Fml
    also n = fsep J (after n)

    abbrev pub then : ℕ → Fml
    then n = fsep (flft κ q) (fsep (flft μ r) (after n))

    pub borrowed_both : (i j : ℕ) → ¬ (j ≡ i) → (X : Pr) → ent 𝓤 (⟦ I ⟧ ∗ ⟦ J ⟧ ∗ X) (upd 𝓤 (ex 𝓤 (Lies 𝓛 κ q I b o f always also)))
        → ent 𝓤 (A.named i (fbor κ I) ∗ A.named j (fbor μ J) ∗ A.lft κ q ∗ A.lft μ r ∗ X) (asks 𝓛 (block_ptr b o) f always then)
    borrowed_both i j apart X h = let P : Fml = fbor κ I in let Q : Fml = fbor μ J in let L : List (ℕ × Fml) = (j, Q) ∷ (i, P) ∷ [] in let K : List (ℕ × Fml) → Pr = λ l. ex 𝓤 (found 𝓛 l b o f always then) in let F : Pr = K L in
        let O : Pr = A.obor κ q I in let O' : Pr = A.obor μ r J in let Inner : Pr = (A.bor μ J ∗ A.lft μ r) ∗ ((O' ∗ ⟦ J ⟧) -∗ upd 𝓤 F) in let Opened : Pr = (A.bor κ I ∗ A.lft κ q) ∗ ((O ∗ ⟦ I ⟧) -∗ upd 𝓤 Inner) in
        let Second : Pr = guard 𝓤 (¬ Mem j (i ∷ [])) (A.named j Q ∗ (⟦ Q ⟧ -∗ upd 𝓤 Opened)) in let U : ℕ → Pr = Again 𝓛 κ q I b o f always also in
        qed 𝓛 (‵ (fnamed i P) ∷ ‵ (fnamed j Q) ∷ raw (A.lft κ q) ∷ raw (A.lft μ r) ∷ raw X ∷ []) ∵ suffices ! _ (ex_i 𝓤 (λ (s : Shift). along 𝓛 s K []) (enters i P (enters j Q (opens κ q I (opens μ r J rests))))) $
        suffices ! _ (upd_i 𝓤 (guard 𝓤 (¬ Mem i []) (A.named i P ∗ (⟦ P ⟧ -∗ upd 𝓤 Second)))) $ check ! (λ m. not-mem-nil m) $ frame ! $ assume ! (‵ P) $ suffices ! _ (upd_i 𝓤 Second) $
        check ! (λ m. Or.elim ⊥_prop ((mem-cons {a = j} {b = i} {l = []}).0 m) apart (λ x. not-mem-nil x)) $ move ! (1 ∷ []) $ frame ! $ assume ! (‵ Q) $ suffices ! _ (upd_i 𝓤 Opened) $
        -- [the other borrow; the word's; its token; the other token; X]
        move ! (1 ∷ 2 ∷ []) $ join ! $ frame ! $ assume ! (raw O ⊛ ‵ I) $ suffices ! _ (upd_i 𝓤 Inner) $ move ! (1 ∷ 2 ∷ []) $ join ! $ frame ! $ assume ! (raw O' ⊛ ‵ J) $ split ! $ move ! (2 ∷ []) $ split ! $
        -- [the word's is open; its content; the other is open; its content; X]
        move ! (1 ∷ 3 ∷ 4 ∷ []) $ use3 𝓛 (raw (upd 𝓤 (ex 𝓤 (Lies 𝓛 κ q I b o f always also)))) h $ settle 𝓛 F (some (λ (n : ℕ). ‵ (word b o n) ⊛ raw (all 𝓤 (λ (_ : always n). U n)))) $ suffices ! _ (upd_i 𝓤 F) $ pick ! (λ n. split ! $
        show ! (found 𝓛 L b o f always then) n $ frame ! $ each ! (λ (_ : always n). back 𝓛 L b o f then n) (λ y. use1 𝓛 (raw (U n)) (all_e 𝓤 (λ (_ : always n). U n) y) $ assume ! (‵ (word b o (f n))) $
        let T : Pr = ⟦ then n ⟧ in let R : Pr = ⟦ I ⟧ ∗ ⟦ J ⟧ ∗ ⟦ after n ⟧ in let Closed : Pr = ⟦ Q ⟧ ∗ upd 𝓤 (⟦ P ⟧ ∗ upd 𝓤 T) in
        let Late : Pr = (O' ∗ ⟦ J ⟧) ∗ ((A.bor μ J ∗ A.lft μ r) -∗ upd 𝓤 Closed) in let Early : Pr = (O ∗ ⟦ I ⟧) ∗ ((A.bor κ I ∗ A.lft κ q) -∗ upd 𝓤 Late) in
        use2 𝓛 (raw (upd 𝓤 R)) (apply∗ 𝓤 ⟦ word b o (f n) ⟧ (upd 𝓤 R)) $ suffices ! _ (ex_i 𝓤 (λ (s : Shift). along 𝓛 s (if_none 𝓛 T) L) (shuts κ q I (shuts μ r J (leaves (leaves rests))))) $
        settle 𝓛 Early (‵ I ⊛ ‵ J ⊛ ‵ (after n)) $ suffices ! _ (upd_i 𝓤 Early) $ split3 ! $
        -- [the word's content; the other one's; what is left; the word's is open; the other is open]
        move ! (3 ∷ 0 ∷ []) $ join ! $ frame ! $ assume ! (‵ P ⊛ ‵ (flft κ q)) $ suffices ! _ (upd_i 𝓤 Late) $ move ! (3 ∷ 1 ∷ []) $ join ! $ frame ! $ assume ! (‵ Q ⊛ ‵ (flft μ r)) $
        suffices ! _ (upd_i 𝓤 Closed) $ split ! $ frame ! $ suffices ! _ (upd_i 𝓤 (⟦ P ⟧ ∗ upd 𝓤 T)) $ move ! (1 ∷ []) $ split ! $ frame ! $ suffices ! _ (upd_i 𝓤 T) $ done !))

  -- the same in a step on another word, which is the caller's own and stays as it is
  module _ (n : ℕ) (after : Fml) where
    abbrev pub beside : ℕ → Fml
    beside m = fsep (flft κ q) (fsep (flft μ r) (fsep (word b o m) after))

    pub borrowed_beside : (i j : ℕ) → ¬ (j ≡ i) → (X : Pr) → ent 𝓤 (⟦ I ⟧ ∗ ⟦ J ⟧ ∗ X) (upd 𝓤 (⟦ I ⟧ ∗ ⟦ J ⟧ ∗ ⟦ after ⟧))
        → ent 𝓤 (A.named i (fbor κ I) ∗ A.named j (fbor μ J) ∗ A.lft κ q ∗ A.lft μ r ∗ ⟦ word b o n ⟧ ∗ X) (asks 𝓛 (block_ptr b o) (λ m. m) always beside)
    borrowed_beside i j apart X h = let P : Fml = fbor κ I in let Q : Fml = fbor μ J in let L : List (ℕ × Fml) = (j, Q) ∷ (i, P) ∷ [] in let f : ℕ → ℕ = λ m. m in let K : List (ℕ × Fml) → Pr = λ l. ex 𝓤 (found 𝓛 l b o f always beside) in let F : Pr = K L in
        let O : Pr = A.obor κ q I in let O' : Pr = A.obor μ r J in let Inner : Pr = (A.bor μ J ∗ A.lft μ r) ∗ ((O' ∗ ⟦ J ⟧) -∗ upd 𝓤 F) in let Opened : Pr = (A.bor κ I ∗ A.lft κ q) ∗ ((O ∗ ⟦ I ⟧) -∗ upd 𝓤 Inner) in
        let Second : Pr = guard 𝓤 (¬ Mem j (i ∷ [])) (A.named j Q ∗ (⟦ Q ⟧ -∗ upd 𝓤 Opened)) in
        qed 𝓛 (‵ (fnamed i P) ∷ ‵ (fnamed j Q) ∷ raw (A.lft κ q) ∷ raw (A.lft μ r) ∷ (‵ (word b o n) ⊛ raw X) ∷ []) ∵ suffices ! _ (ex_i 𝓤 (λ (s : Shift). along 𝓛 s K []) (enters i P (enters j Q (opens κ q I (opens μ r J rests))))) $
        suffices ! _ (upd_i 𝓤 (guard 𝓤 (¬ Mem i []) (A.named i P ∗ (⟦ P ⟧ -∗ upd 𝓤 Second)))) $ check ! (λ m. not-mem-nil m) $ frame ! $ assume ! (‵ P) $ suffices ! _ (upd_i 𝓤 Second) $
        check ! (λ m. Or.elim ⊥_prop ((mem-cons {a = j} {b = i} {l = []}).0 m) apart (λ x. not-mem-nil x)) $ move ! (1 ∷ []) $ frame ! $ assume ! (‵ Q) $ suffices ! _ (upd_i 𝓤 Opened) $
        -- [the other borrow; the first; its token; the other token; the own word and X]
        move ! (1 ∷ 2 ∷ []) $ join ! $ frame ! $ assume ! (raw O ⊛ ‵ I) $ suffices ! _ (upd_i 𝓤 Inner) $ move ! (1 ∷ 2 ∷ []) $ join ! $ frame ! $ assume ! (raw O' ⊛ ‵ J) $ split ! $ move ! (2 ∷ []) $ split ! $ move ! (4 ∷ []) $ split ! $
        -- [the own word; X; the first is open; its content; the other is open; its content]
        move ! (3 ∷ 5 ∷ 1 ∷ []) $ use3 𝓛 (raw (upd 𝓤 (⟦ I ⟧ ∗ ⟦ J ⟧ ∗ ⟦ after ⟧))) h $ settle 𝓛 F (‵ I ⊛ ‵ J ⊛ ‵ after) $ suffices ! _ (upd_i 𝓤 F) $
        -- [both contents and what is left; the own word; the first is open; the other is open]
        show ! (found 𝓛 L b o f always beside) n $ move ! (1 ∷ []) $ frame ! $ each ! (λ (_ : always n). back 𝓛 L b o f beside n) (λ y. assume ! (‵ (word b o n)) $
        let T : Pr = ⟦ beside n ⟧ in let Closed : Pr = ⟦ Q ⟧ ∗ upd 𝓤 (⟦ P ⟧ ∗ upd 𝓤 T) in
        let Late : Pr = (O' ∗ ⟦ J ⟧) ∗ ((A.bor μ J ∗ A.lft μ r) -∗ upd 𝓤 Closed) in let Early : Pr = (O ∗ ⟦ I ⟧) ∗ ((A.bor κ I ∗ A.lft κ q) -∗ upd 𝓤 Late) in
        suffices ! _ (ex_i 𝓤 (λ (s : Shift). along 𝓛 s (if_none 𝓛 T) L) (shuts κ q I (shuts μ r J (leaves (leaves rests))))) $ suffices ! _ (upd_i 𝓤 Early) $ move ! (1 ∷ []) $ split3 ! $
        -- [the first's content; the other one's; what is left; the own word; the first is open; the other is open]
        move ! (3 ∷ 2 ∷ []) $ fjoin ! $ move ! (3 ∷ 1 ∷ []) $ join ! $ frame ! $ assume ! (‵ P ⊛ ‵ (flft κ q)) $ suffices ! _ (upd_i 𝓤 Late) $ move ! (3 ∷ 2 ∷ []) $ join ! $ frame ! $ assume ! (‵ Q ⊛ ‵ (flft μ r)) $
        suffices ! _ (upd_i 𝓤 Closed) $ split ! $ frame ! $ suffices ! _ (upd_i 𝓤 (⟦ P ⟧ ∗ upd 𝓤 T)) $ move ! (1 ∷ []) $ split ! $ frame ! $ suffices ! _ (upd_i 𝓤 T) $ done !)
