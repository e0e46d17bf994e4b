-- A step on the word of some cells is a step on one of them. Assumes `Logic`.
use Rattle.std.proofs.Common.{◌≡◌, ℕ, zero, suc, ◌+◌, ◌-◌, ◌*◌, ◌%◌, ◌<◌, ◌≤◌, ◌^◌, List, [], ◌∷◌, length, sym, refl, ap, ◌∙◌, subst, arith, mod-eq_of_lt, lt_of_lt_of_le, le_trans, le_of_eq}
use mathlib.Core.List.{not-mem-nil}
use seplogic.Ra.Ura.{Ura}
use lib.Bits.{bit_and, bit_or}
use lib.Pow.{pow_mono}
use base.Logic.{SProp, ent, sep, ex, guard, upd, upd_i}
use base.Fml.{Lft, GName, Share, Fml, ftrue, fex, fsep, flft, finv, fnamed, fbor}
use base.Before.{before}
use types.Na.{before_dup}
use denote.Steps.{nothing}
use denote.Sharing.{ShrLaws}
use denote.SharingLaws.{ends_shr_laws}
use types.Logic.{Logic, sem}
use types.Kit.{‵, raw, ◌⊛◌, some, given, ◌$◌, ◌∵◌, !, qed, by, move, drop, use1, use2, split, check, fsplit, fjoin, fpick, fpack, pick, learn, show, frame, each, assume, suffices, rewrite, settle, done}
use denote.RattleType.{RattleType}
use denote.RawPtr.{block_ptr}
use Rattle.core.specs.Sync.RawAtomic.{asks, always}
use Rattle.core.proofs.raw_atomic.Asked.{borrowed, Lies, Again}
use Rattle.cell_core.specs.Fields.{pack, field, put}
use Rattle.tie_core.specs.Tie.{floor_of}
use Rattle.cell_core.specs.Slot.{Names, cell_in, Phase, free, begun, busy, full, broken, broken_by_owner, state, Turn, step, room_at, word, cell, cells, standing, Cells, kept, shared_at, Spot, IsAt, above, floors, fact}
use Rattle.cell_core.proofs.Both.{borrowed_both, borrowed_beside}
use Rattle.cell_core.proofs.Fields.{Fit, field_of, pack_ap, or_field, and_field, add_field, packed_below, put_fits, put_own, sixteens}

module _ (R : RattleType) where
  abbrev pub S : Type 0
  S = Phase R.Denot

  pub state_small : (s : S) → state s < 10
  state_small free = omega arith
  state_small begun = omega arith
  state_small busy = omega arith
  state_small (full x) = omega arith
  state_small broken = omega arith
  state_small broken_by_owner = omega arith

  pub states_fit : (s : ℕ → S) → Fit (λ i. state (s i))
  states_fit s i = let less = state_small (s i) in omega arith

  pub put_state : (i : ℕ) (x : S) (s : ℕ → S) (j : ℕ) → put i (state x) (λ l. state (s l)) j ≡ state (put i x s j)
  put_state zero x s zero = refl
  put_state zero x s (suc j) = refl
  put_state (suc i) x s zero = refl
  put_state (suc i) x s (suc j) = put_state i x (λ l. s (suc l)) j

module _ {M : Type 1} {𝓤 : Ura M} (𝓛 : Logic 𝓤) (R : RattleType) (α : Lft) (b : ℕ) where
  abbrev Pr : Type 2
  Pr = SProp 𝓤

  abbrev ◌⊢◌ : Pr → Pr → Type 1
  P ⊢ Q = ent 𝓤 P Q

  abbrev ◌∗◌ : Pr → Pr → Pr
  P ∗ Q = sep 𝓤 P Q

  abbrev ⟦◌⟧ : Fml → Pr
  ⟦ P ⟧ = sem 𝓛 P

  infix 26 ◌⊢◌
  infixr 35 ◌∗◌
  -- what a step leaves of a cell: a phase whose state is g of what it was
  abbrev pub Next : Names → GName → ℕ → (ℕ → ℕ) → (ℕ → Fml) → S R → S R → Pr
  Next γ δ e g after s x = guard 𝓤 (state x ≡ g (state s)) (⟦ cell R γ α δ b e x ⟧ ∗ ⟦ after (state s) ⟧)

  -- what a step does to a cell
  abbrev pub Law : Names → GName → ℕ → (ℕ → ℕ) → (ℕ → Fml) → Pr → Type 1
  Law γ δ e g after X = (s : S R) → ⟦ cell R γ α δ b e s ⟧ ∗ X ⊢ upd 𝓤 (ex 𝓤 (Next γ δ e g after s))

  -- what it leaves of a row
  abbrev pub Row : List Names → (ℕ → GName) → ℕ → ℕ → (ℕ → ℕ) → (ℕ → Fml) → (ℕ → S R) → S R → Pr
  Row γs δ e i g after s x = guard 𝓤 (state x ≡ g (state (s i))) (⟦ cells R γs α δ b e (put i x s) ⟧ ∗ ⟦ after (state (s i)) ⟧)

  pub lifts : (γs : List Names) (δ : ℕ → GName) (e i : ℕ) → i < length γs → (g : ℕ → ℕ) (after : ℕ → Fml) (X : Pr)
      → Law (cell_in γs i) (δ i) (room_at R e i) g after X → (s : ℕ → S R) → ⟦ cells R γs α δ b e s ⟧ ∗ X ⊢ upd 𝓤 (ex 𝓤 (Row γs δ e i g after s))
  lifts [] δ e i less g after X law s = absurd (omega arith)
  lifts (γ ∷ γs) δ e zero less g after X law s = let Z : Pr = ex 𝓤 (Row (γ ∷ γs) δ e 0 g after s) in
      qed 𝓛 (‵ (cells R (γ ∷ γs) α δ b e s) ∷ raw X ∷ []) ∵ fsplit ! $ move ! (0 ∷ 2 ∷ []) $
      use2 𝓛 (raw (upd 𝓤 (ex 𝓤 (Next γ (δ 0) e g after (s 0))))) (law (s 0)) $
      settle 𝓛 Z (some (λ (x : S R). given (state x ≡ g (state (s 0))) (‵ (cell R γ α (δ 0) b e x) ⊛ ‵ (after (state (s 0)))))) $ pick ! (λ x. learn ! (λ is. split ! $
      suffices ! _ (upd_i 𝓤 Z) $ move ! (0 ∷ 2 ∷ []) $ fjoin ! $ show ! (Row (γ ∷ γs) δ e 0 g after s) x $ check ! is $ done !))
  lifts (γ ∷ γs) δ e (suc i) less g after X law s = let Z : Pr = ex 𝓤 (Row (γ ∷ γs) δ e (suc i) g after s) in let σ : ℕ → S R = λ l. s (suc l) in
      qed 𝓛 (‵ (cells R (γ ∷ γs) α δ b e s) ∷ raw X ∷ []) ∵ fsplit ! $ move ! (1 ∷ 2 ∷ []) $
      use2 𝓛 (raw (upd 𝓤 (ex 𝓤 (Row γs (λ l. δ (suc l)) (e + step R) i g after σ)))) (lifts γs (λ l. δ (suc l)) (e + step R) i (omega arith) g after X law σ) $
      settle 𝓛 Z (some (λ (x : S R). given (state x ≡ g (state (σ i))) (‵ (cells R γs α (λ l. δ (suc l)) b (e + step R) (put i x σ)) ⊛ ‵ (after (state (σ i)))))) $ pick ! (λ x. learn ! (λ is. split ! $
      suffices ! _ (upd_i 𝓤 Z) $ move ! (2 ∷ 0 ∷ []) $ fjoin ! $ show ! (Row (γ ∷ γs) δ e (suc i) g after s) x $ check ! is $ done !))

-- the number of the invariant that a cell is tied to is not above that of all
pub floor_within : (γs : List Names) (i : ℕ) → i < length γs → floor_of (cell_in γs i).tied ≤ floors γs
floor_within [] i less = absurd (omega arith)
floor_within (γ ∷ γs) zero less = omega arith
floor_within (γ ∷ γs) (suc i) less = let within = floor_within γs i (omega arith) in omega (arith, within)

-- a step f on a word is a step g on one of its fields
abbrev pub Turns : RattleType → List Names → ℕ → (ℕ → ℕ) → (ℕ → ℕ) → Type 0
Turns R γs i f g = (s : ℕ → S R) → f (pack γs (λ j. state (s j))) ≡ pack γs (put i (g (state (s i))) (λ j. state (s j)))

module _ (R : RattleType) (γs : List Names) (i : ℕ) (within : i < length γs) (short : length γs ≤ 16) where
  pub turns_same : Turns R γs i (λ n. n) (λ c. c)
  turns_same s = pack_ap γs (put_own i (λ j. state (s j)))

  pub turns_or : (k : ℕ) → k < 16 → Turns R γs i (λ n. bit_or n (k * 16 ^ i)) (λ c. bit_or c k)
  turns_or k less s = or_field γs (λ j. state (s j)) i k (states_fit R s) less within

  pub turns_and : (k : ℕ) → k < 16 → Turns R γs i (λ n. bit_and n (2 ^ 64 - 1 - k * 16 ^ i)) (λ c. bit_and c (15 - k))
  turns_and k less s = and_field γs (λ j. state (s j)) i k (states_fit R s) less within short

  pub turns_add : (k : ℕ) → k < 7 → Turns R γs i (λ n. (n + k * 16 ^ i) % 2 ^ 64) (λ c. c + k)
  turns_add k less s = let f : ℕ → ℕ = λ j. state (s j) in let e = add_field γs f i k within in let small = state_small R (s i) in
      let fits = packed_below γs (put i (f i + k) f) (put_fits i (f i + k) f (omega arith) (states_fit R s)) in
      let wide : 16 ^ length γs ≤ 2 ^ 64 = le_trans (le_of_eq (sym (sixteens (length γs)))) (pow_mono (let l : 4 * length γs ≤ 64 = omega arith in l)) in
      ap (λ (n : ℕ). n % 2 ^ 64) e ∙ mod-eq_of_lt (lt_of_lt_of_le fits wide)

module _ {M : Type 1} {𝓤 : Ura M} (𝓛 : Logic 𝓤) (m : ℕ) (P : Fml) where
  open 𝓛 use {A}

  pub above_dup : ent 𝓤 (sem 𝓛 (above m P)) (sep 𝓤 (sem 𝓛 (above m P)) (sem 𝓛 (above m P)))
  above_dup = let F : ℕ → Fml = λ k. fsep (fact (m < k)) (fnamed k P) in
      qed 𝓛 (‵ (above m P) ∷ []) ∵ fpick ! (λ n. fsplit ! $ fpick ! (λ more. drop ! $ use1 𝓛 (‵ (fnamed n P) ⊛ ‵ (fnamed n P)) (𝓛.invs.named_dup n P) $ split ! $
      nothing ! $ fpack ! (m < n) (λ _. ftrue) more $ fjoin ! $ fpack ! ℕ F n $ frame ! $ nothing ! $ fpack ! (m < n) (λ _. ftrue) more $ fjoin ! $ fpack ! ℕ F n $ done !))

  pub above_inv : ent 𝓤 (sem 𝓛 (above m P)) (A.inv P)
  above_inv = qed 𝓛 (‵ (above m P) ∷ []) ∵ fpick ! (λ n. fsplit ! $ drop ! $ by ! (𝓛.invs.named_inv n P))

module _ {M : Type 1} {𝓤 : Ura M} (𝓛 : Logic 𝓤) (R : RattleType) (γs : List Names) (t : Turn) (b o c e : ℕ) where
  open 𝓛 use {H, A}

  abbrev α : Lft
  α = t.0

  abbrev I : Fml
  I = Cells R γs t b o c e

  abbrev number : (ℕ → S R) → ℕ
  number s = pack γs (λ j. state (s j))

  -- the invariant of the word
  abbrev pub Open : Fml
  Open = above (floors γs) (fbor α I)

  -- what a step that does this to the cell at an index, and to its field, does to the word
  turned : (i : ℕ) → i < length γs → (q : Share) (f g : ℕ → ℕ) → Turns R γs i f g → (after : ℕ → Fml) (X : SProp 𝓤)
      → Law 𝓛 R α c (cell_in γs i) (t.1 i) (room_at R e i) g after X
      → ent 𝓤 (sep 𝓤 (sem 𝓛 I) X) (upd 𝓤 (ex 𝓤 (Lies 𝓛 α q I b o f always (λ n. after (field n i)))))
  turned i less q f g turns after X law = let u : ℕ = o in let shown : ℕ → Fml = λ n. after (field n i) in let G : SProp 𝓤 = ex 𝓤 (Lies 𝓛 α q I b u f always shown) in
      qed 𝓛 (‵ I ∷ raw X ∷ []) ∵ suffices ! _ (upd_i 𝓤 G) $ fpick ! (λ s. let n : ℕ = number s in let Z : SProp 𝓤 = sep 𝓤 (sem 𝓛 I) (sem 𝓛 (shown n)) in
      let is : field n i ≡ state (s i) = field_of γs (λ j. state (s j)) i (states_fit R s) less in fsplit ! $
      show ! (Lies 𝓛 α q I b u f always shown) n $ frame ! $ each ! (λ (_ : Unit {0}). Again 𝓛 α q I b u f always shown n) (λ _. assume ! (‵ (word b u (f n))) $
      move ! (1 ∷ 2 ∷ []) $ use2 𝓛 (raw (upd 𝓤 (ex 𝓤 (Row 𝓛 R α c γs t.1 e i g after s)))) (lifts 𝓛 R α c γs t.1 e i less g after X law s) $
      settle 𝓛 Z (some (λ (x : S R). given (state x ≡ g (state (s i))) (‵ (cells R γs α t.1 c e (put i x s)) ⊛ ‵ (after (state (s i)))))) $ pick ! (λ x. learn ! (λ so. split ! $
      let new : f n ≡ number (put i x s) = turns s ∙ pack_ap γs (λ j. ap (λ (y : ℕ). put i y (λ l. state (s l)) j) (sym so) ∙ put_state R i x s j) in
      rewrite ! 1 (λ (y : ℕ). ‵ (after y)) (sym is) refl $ rewrite ! 2 (λ (y : ℕ). ‵ (word b u y)) new refl $
      move ! (2 ∷ 0 ∷ []) $ fjoin ! $ fpack ! (ℕ → S R) (standing R γs t b o c e) (put i x s) $ suffices ! _ (upd_i 𝓤 Z) $ done !))))

  -- such a step can be done on the word
  pub stepped : (i : ℕ) → i < length γs → (q : Share) (f g : ℕ → ℕ) → Turns R γs i f g → (after : ℕ → Fml) (X : SProp 𝓤)
      → Law 𝓛 R α c (cell_in γs i) (t.1 i) (room_at R e i) g after X
      → ent 𝓤 (sep 𝓤 (sem 𝓛 Open) (sep 𝓤 (A.lft α q) X)) (asks 𝓛 (block_ptr b o) f always (λ n. fsep (flft α q) (after (field n i))))
  stepped i less q f g turns after X law = let shown : ℕ → Fml = λ n. after (field n i) in
      qed 𝓛 (‵ Open ∷ ‵ (flft α q) ∷ raw X ∷ []) ∵ use1 𝓛 (‵ (finv (fbor α I))) (above_inv 𝓛 (floors γs) (fbor α I)) $ by ! (borrowed 𝓛 α q I b o f always shown X (turned i less q f g turns after X law))

  -- the same with another invariant open, whose number is lower
  pub stepped_both : (i : ℕ) → i < length γs → (q : Share) (f g : ℕ → ℕ) → Turns R γs i f g → (n : ℕ) (μ : Lft) (p : Share) (J : Fml) → n ≤ floors γs → (after : ℕ → Fml) (X : SProp 𝓤)
      → Law 𝓛 R α c (cell_in γs i) (t.1 i) (room_at R e i) g (λ m. fsep J (after m)) (sep 𝓤 (sem 𝓛 J) X)
      → ent 𝓤 (sep 𝓤 (sem 𝓛 Open) (sep 𝓤 (A.named n (fbor μ J)) (sep 𝓤 (A.lft α q) (sep 𝓤 (A.lft μ p) X))))
      (asks 𝓛 (block_ptr b o) f always (λ m. fsep (flft α q) (fsep (flft μ p) (after (field m i)))))
  stepped_both i less q f g turns n μ p J low after X law = let shown : ℕ → Fml = λ m. after (field m i) in let P : Fml = fbor α I in let Q : Fml = fbor μ J in
      qed 𝓛 (‵ Open ∷ ‵ (fnamed n Q) ∷ ‵ (flft α q) ∷ ‵ (flft μ p) ∷ raw X ∷ []) ∵ fpick ! (λ k. fsplit ! $ fpick ! (λ more. drop ! $
      by ! (borrowed_both 𝓛 α μ q p I J b o f shown k n (λ same. omega arith) X (turned i less q f g turns (λ m. fsep J (after m)) (sep 𝓤 (sem 𝓛 J) X) law))))

  -- a step on another word, which is the caller's own, leaves this word as it is
  turned_beside : (i : ℕ) → i < length γs → (J : Fml) (after : ℕ → Fml) (X : SProp 𝓤)
      → Law 𝓛 R α c (cell_in γs i) (t.1 i) (room_at R e i) (λ n. n) (λ n. fsep J (after n)) (sep 𝓤 (sem 𝓛 J) X)
      → ent 𝓤 (sep 𝓤 (sem 𝓛 I) (sep 𝓤 (sem 𝓛 J) X)) (upd 𝓤 (sep 𝓤 (sem 𝓛 I) (sep 𝓤 (sem 𝓛 J) (sem 𝓛 (fex ℕ after)))))
  turned_beside i less J after X law = let Left : ℕ → Fml = λ n. fsep J (after n) in let G : SProp 𝓤 = sep 𝓤 (sem 𝓛 I) (sep 𝓤 (sem 𝓛 J) (sem 𝓛 (fex ℕ after))) in
      qed 𝓛 (‵ I ∷ (‵ J ⊛ raw X) ∷ []) ∵ fpick ! (λ s. fsplit ! $
      -- [the word; its cells; the other content and X]
      move ! (1 ∷ 2 ∷ []) $ use2 𝓛 (raw (upd 𝓤 (ex 𝓤 (Row 𝓛 R α c γs t.1 e i (λ n. n) Left s)))) (lifts 𝓛 R α c γs t.1 e i less (λ n. n) Left (sep 𝓤 (sem 𝓛 J) X) law s) $
      settle 𝓛 G (some (λ (x : S R). given (state x ≡ state (s i)) (‵ (cells R γs α t.1 c e (put i x s)) ⊛ ‵ (Left (state (s i)))))) $ pick ! (λ x. learn ! (λ so. split ! $ suffices ! _ (upd_i 𝓤 G) $
      let new : number s ≡ number (put i x s) = pack_ap γs (λ j. put_own i (λ l. state (s l)) j ∙ ap (λ (y : ℕ). put i y (λ l. state (s l)) j) (sym so) ∙ put_state R i x s j) in
      rewrite ! 2 (λ (y : ℕ). ‵ (word b o y)) new refl $ move ! (2 ∷ 0 ∷ []) $ fjoin ! $ fpack ! (ℕ → S R) (standing R γs t b o c e) (put i x s) $
      -- [the invariant; the other content and what is left]
      move ! (1 ∷ []) $ fsplit ! $ move ! (1 ∷ []) $ fpack ! ℕ after (state (s i)) $ move ! (2 ∷ 1 ∷ 0 ∷ []) $ done !)))

  -- the same with another invariant open, whose number is lower
  pub stepped_beside : (i : ℕ) → i < length γs → (q : Share) (n : ℕ) (μ : Lft) (p : Share) (J : Fml) → n ≤ floors γs → (after : ℕ → Fml) (X : SProp 𝓤)
      → Law 𝓛 R α c (cell_in γs i) (t.1 i) (room_at R e i) (λ m. m) (λ m. fsep J (after m)) (sep 𝓤 (sem 𝓛 J) X) → (b' o' m : ℕ)
      → ent 𝓤 (sep 𝓤 (sem 𝓛 Open) (sep 𝓤 (A.named n (fbor μ J)) (sep 𝓤 (A.lft α q) (sep 𝓤 (A.lft μ p) (sep 𝓤 (sem 𝓛 (word b' o' m)) X)))))
      (asks 𝓛 (block_ptr b' o') (λ k. k) always (λ k. fsep (flft α q) (fsep (flft μ p) (fsep (word b' o' k) (fex ℕ after)))))
  stepped_beside i less q n μ p J low after X law b' o' m = let P : Fml = fbor α I in let Q : Fml = fbor μ J in
      qed 𝓛 (‵ Open ∷ ‵ (fnamed n Q) ∷ ‵ (flft α q) ∷ ‵ (flft μ p) ∷ ‵ (word b' o' m) ∷ raw X ∷ []) ∵ fpick ! (λ k. fsplit ! $ fpick ! (λ more. drop ! $
      by ! (borrowed_beside 𝓛 α μ q p I J b' o' m (fex ℕ after) k n (λ same. omega arith) X (turned_beside i less J after X law))))

  pub kept_dup : (κ : Lft) → ent 𝓤 (sem 𝓛 (kept R γs t b o c e κ)) (sep 𝓤 (sem 𝓛 (kept R γs t b o c e κ)) (sem 𝓛 (kept R γs t b o c e κ)))
  kept_dup κ = qed 𝓛 (‵ (kept R γs t b o c e κ) ∷ []) ∵ fsplit ! $ use1 𝓛 (‵ (before κ α) ⊛ ‵ (before κ α)) (before_dup 𝓛 κ α) $ split ! $ move ! (2 ∷ []) $
      use1 𝓛 (‵ Open ⊛ ‵ Open) (above_dup 𝓛 (floors γs) (fbor α I)) $ split ! $ move ! (2 ∷ 0 ∷ []) $ fjoin ! $ move ! (2 ∷ 1 ∷ []) $ fjoin ! $ done !

  -- what can be had next to a cell, and changes nothing, is had without a step
  pub reads : (i : ℕ) → i < length γs → (q : Share) (after : Fml) (X : SProp 𝓤)
      → Law 𝓛 R α c (cell_in γs i) (t.1 i) (room_at R e i) (λ n. n) (λ _. after) X
      → ent 𝓤 (sep 𝓤 (sem 𝓛 Open) (sep 𝓤 (A.lft α q) X)) (H.⇛ (sep 𝓤 (sem 𝓛 after) (A.lft α q)))
  reads i less q after X law = let P : Fml = fbor α I in let Q : SProp 𝓤 = sem 𝓛 after in
      qed 𝓛 (‵ Open ∷ ‵ (flft α q) ∷ raw X ∷ []) ∵ use1 𝓛 (‵ (finv P)) (above_inv 𝓛 (floors γs) P) $ use1 𝓛 (some (λ (j : ℕ). ‵ (fnamed j P))) (𝓛.invs.inv_named P) $ pick ! (λ j. suffices ! _ (𝓛.invs.invs_bor_acc j α q I [] Q ((λ m. not-mem-nil m), tt)) $
      nothing ! $ move ! (1 ∷ 0 ∷ []) $ fjoin ! $ frame ! $ frame ! $ let G : SProp 𝓤 = sep 𝓤 (sem 𝓛 I) (sep 𝓤 (sem 𝓛 ftrue) Q) in
      assume ! (‵ I ⊛ ‵ ftrue) $ split ! $ fpick ! (λ s. fsplit ! $ move ! (1 ∷ 3 ∷ []) $
      use2 𝓛 (raw (upd 𝓤 (ex 𝓤 (Row 𝓛 R α c γs t.1 e i (λ n. n) (λ _. after) s)))) (lifts 𝓛 R α c γs t.1 e i less (λ n. n) (λ _. after) X law s) $
      settle 𝓛 G (some (λ (x : S R). given (state x ≡ state (s i)) (‵ (cells R γs α t.1 c e (put i x s)) ⊛ ‵ after))) $ pick ! (λ x. learn ! (λ so. split ! $ suffices ! _ (upd_i 𝓤 G) $
      let new : number s ≡ number (put i x s) = pack_ap γs (λ j. put_own i (λ l. state (s l)) j ∙ ap (λ (y : ℕ). put i y (λ l. state (s l)) j) (sym so) ∙ put_state R i x s j) in
      rewrite ! 2 (λ (y : ℕ). ‵ (word b o y)) new refl $ move ! (2 ∷ 0 ∷ []) $ fjoin ! $ fpack ! (ℕ → S R) (standing R γs t b o c e) (put i x s) $ frame ! $ move ! (1 ∷ 0 ∷ []) $ done !))))

-- what a `&` to some cells holds can be had twice
pub shared_laws : (R : RattleType) (γs : List Names) (b o c e : ℕ) → ShrLaws (shared_at R γs b o c e)
shared_laws R γs b o c e = record {
  contraction = λ M 𝓤 𝓛 κ. qed 𝓛 (‵ (shared_at R γs b o c e κ) ∷ []) ∵ fpick ! (λ t. use1 𝓛 (‵ (kept R γs t b o c e κ) ⊛ ‵ (kept R γs t b o c e κ)) (kept_dup 𝓛 R γs t b o c e κ) $ split ! $
      fpack ! Turn (λ u. kept R γs u b o c e κ) t $ move ! (1 ∷ []) $ fpack ! Turn (λ u. kept R γs u b o c e κ) t $ done !);
  mono = λ M 𝓤 𝓛 κ' κ. qed 𝓛 (‵ (before κ' κ) ∷ ‵ (shared_at R γs b o c e κ) ∷ []) ∵ move ! (1 ∷ []) $ fpick ! (λ t. fsplit ! $ move ! (2 ∷ 0 ∷ []) $
      use2 𝓛 (‵ (before κ' t.0)) ((ends_shr_laws t.0).mono M 𝓤 𝓛 κ' κ) $ fjoin ! $ fpack ! Turn (λ u. kept R γs u b o c e κ') t $ done !);
}

-- the same of a cell at a spot, by its names and where its room lies
module _ {M : Type 1} {𝓤 : Ura M} (𝓛 : Logic 𝓤) (R : RattleType) (γ : Names) (b o c r i : ℕ) (z : Spot) (at : IsAt R γ i r z) where
  open 𝓛 use {H, A}

  law_at : (g : ℕ → ℕ) (after : ℕ → Fml) (X : SProp 𝓤) → Law 𝓛 R z.1.0 c γ (z.1.1 i) r g after X → Law 𝓛 R z.1.0 c (cell_in z.0 i) (z.1.1 i) (room_at R z.2 i) g after X
  law_at g after X = subst (λ (v : Names × ℕ). Law 𝓛 R z.1.0 c v.0 (z.1.1 i) v.1 g after X) (λ j. (sym at.2 j, sym at.3 j))

  pub stepped_at : (q : Share) (f g : ℕ → ℕ) → (i < length z.0 → length z.0 ≤ 16 → Turns R z.0 i f g) → (after : ℕ → Fml) (X : SProp 𝓤) → Law 𝓛 R z.1.0 c γ (z.1.1 i) r g after X
      → ent 𝓤 (sep 𝓤 (sem 𝓛 (above (floors z.0) (fbor z.1.0 (Cells R z.0 z.1 b o c z.2)))) (sep 𝓤 (A.lft z.1.0 q) X)) (asks 𝓛 (block_ptr b o) f always (λ n. fsep (flft z.1.0 q) (after (field n i))))
  stepped_at q f g turns after X law = stepped 𝓛 R z.0 z.1 b o c z.2 i at.0 q f g (turns at.0 at.1) after X (law_at g after X law)

  pub reads_at : (q : Share) (after : Fml) (X : SProp 𝓤) → Law 𝓛 R z.1.0 c γ (z.1.1 i) r (λ n. n) (λ _. after) X
      → ent 𝓤 (sep 𝓤 (sem 𝓛 (above (floors z.0) (fbor z.1.0 (Cells R z.0 z.1 b o c z.2)))) (sep 𝓤 (A.lft z.1.0 q) X)) (H.⇛ (sep 𝓤 (sem 𝓛 after) (A.lft z.1.0 q)))
  reads_at q after X law = reads 𝓛 R z.0 z.1 b o c z.2 i at.0 q after X (law_at (λ n. n) (λ _. after) X law)

  pub stepped_both_at : (q : Share) (f g : ℕ → ℕ) → (i < length z.0 → length z.0 ≤ 16 → Turns R z.0 i f g) → (n : ℕ) (μ : Lft) (p : Share) (J : Fml) → n ≤ floor_of γ.tied → (after : ℕ → Fml) (X : SProp 𝓤)
      → Law 𝓛 R z.1.0 c γ (z.1.1 i) r g (λ m. fsep J (after m)) (sep 𝓤 (sem 𝓛 J) X)
      → ent 𝓤 (sep 𝓤 (sem 𝓛 (above (floors z.0) (fbor z.1.0 (Cells R z.0 z.1 b o c z.2)))) (sep 𝓤 (A.named n (fbor μ J)) (sep 𝓤 (A.lft z.1.0 q) (sep 𝓤 (A.lft μ p) X))))
      (asks 𝓛 (block_ptr b o) f always (λ m. fsep (flft z.1.0 q) (fsep (flft μ p) (after (field m i)))))
  stepped_both_at q f g turns n μ p J low after X law = let same = ap (λ (u : Names). floor_of u.tied) at.2 in let within = floor_within z.0 i at.0 in
      stepped_both 𝓛 R z.0 z.1 b o c z.2 i at.0 q f g (turns at.0 at.1) n μ p J (omega (arith, same, within)) after X (law_at g (λ m. fsep J (after m)) (sep 𝓤 (sem 𝓛 J) X) law)

  pub stepped_beside_at : (q : Share) (n : ℕ) (μ : Lft) (p : Share) (J : Fml) → n ≤ floor_of γ.tied → (after : ℕ → Fml) (X : SProp 𝓤)
      → Law 𝓛 R z.1.0 c γ (z.1.1 i) r (λ m. m) (λ m. fsep J (after m)) (sep 𝓤 (sem 𝓛 J) X) → (b' o' m : ℕ)
      → ent 𝓤 (sep 𝓤 (sem 𝓛 (above (floors z.0) (fbor z.1.0 (Cells R z.0 z.1 b o c z.2)))) (sep 𝓤 (A.named n (fbor μ J)) (sep 𝓤 (A.lft z.1.0 q) (sep 𝓤 (A.lft μ p) (sep 𝓤 (sem 𝓛 (word b' o' m)) X)))))
      (asks 𝓛 (block_ptr b' o') (λ k. k) always (λ k. fsep (flft z.1.0 q) (fsep (flft μ p) (fsep (word b' o' k) (fex ℕ after)))))
  stepped_beside_at q n μ p J low after X law = let same = ap (λ (u : Names). floor_of u.tied) at.2 in let within = floor_within z.0 i at.0 in
      stepped_beside 𝓛 R z.0 z.1 b o c z.2 i at.0 q n μ p J (omega (arith, same, within)) after X (law_at (λ m. m) (λ m. fsep J (after m)) (sep 𝓤 (sem 𝓛 J) X) law)
