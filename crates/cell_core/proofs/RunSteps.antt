-- The effect of one step on each cell of a run. Assumes `Logic`.
use Rattle.std.proofs.Common.{Bool, true, false, ◌≡◌, ℕ, zero, suc, ◌+◌, ◌*◌, ◌%◌, ◌^◌, ◌<◌, ◌≤◌, eqb, eqb-true, mod-eq_of_lt, lt_of_lt_of_le, le_trans, le_of_eq, List, [], ◌∷◌, ◌++◌, length, sym, refl, ap, ◌∙◌, subst, arith}
use lib.Bits.{bit_or}
use lib.Pow.{pow_mono}
use prog.Atomic.{either}
use seplogic.Ra.Ura.{Ura}
use base.Logic.{SProp, ent, sep, ex, emp, guard, upd, upd_i, wand, apply∗}
use base.Fml.{Lft, Share, Fml, ftrue, fsep, flft, fbor, finv, fnamed}
use types.Logic.{Logic, sem}
use types.Kit.{‵, raw, ◌⊛◌, some, given, ◌$◌, ◌∵◌, !, qed, move, keep, drop, by, use1, use2, use3, split, join, check, fsplit, fjoin, fpick, fpack, frame, each, assume, pick, learn, show, suffices, rewrite, settle, done}
use denote.RattleType.{RattleType}
use denote.RawPtr.{block_ptr}
use denote.Steps.{nothing}
use Rattle.core.specs.Sync.RawAtomic.{asks, always}
use Rattle.core.proofs.raw_atomic.Asked.{borrowed, Lies, Again}
use Rattle.cell_core.specs.Fields.{pack, field, put, sums}
use Rattle.cell_core.specs.Slot.{Names, ArePlain, fact, above, floors, Turn, cell_in, state, room_at, word, cells, standing, over, unset, sights, written, right_of, won}
use Rattle.cell_core.specs.Slot.{Cells as all_cells}
use Rattle.cell_core.specs.Run.{AreAt, AreEmptyIn, Ready, held, all_written, if_won, sights_owned}
use Rattle.cell_core.specs.Fixed.{ShowStages}
use Rattle.cell_core.proofs.Both.{borrowed_both, borrowed_beside}
use Rattle.cell_core.proofs.Fields.{pack_ap, put_own, add_field, field_of, packed_below, sixteens}
use Rattle.cell_core.proofs.WordSteps.{S, Law, Row, lifts, put_state, states_fit, above_inv}
use Rattle.cell_core.proofs.Stages.{also, also_stage}
use Rattle.cell_core.proofs.CellSteps as steps

-- a function that is changed at one place is the same at later ones
pub put_later : {A : Type 0} (i : ℕ) (x : A) (f : ℕ → A) (j : ℕ) → i < j → put i x f j ≡ f j
put_later zero x f zero less = absurd (omega arith)
put_later zero x f (suc j) less = refl
put_later (suc i) x f zero less = absurd (omega arith)
put_later (suc i) x f (suc j) less = put_later i x (λ l. f (suc l)) j (omega arith)

module _ {M : Type 1} {𝓤 : Ura M} (𝓛 : Logic 𝓤) (R : RattleType) (Γs : List Names) (t : Turn) (c e : ℕ) where
  abbrev Pr : Type 2
  Pr = SProp 𝓤

  abbrev ⟦◌⟧ : Fml → Pr
  ⟦ P ⟧ = sem 𝓛 P

  abbrev α : Lft
  α = t.0

  abbrev pub number : (ℕ → S R) → ℕ
  number s = pack Γs (λ j. state (s j))

  abbrev pub Cells : (ℕ → S R) → Fml
  Cells s = cells R Γs α t.1 c e s

  -- a field that has k more
  pub more : (s : ℕ → S R) (i k : ℕ) → i < length Γs → (x : S R) → state x ≡ state (s i) + k → number (put i x s) ≡ number s + k * 16 ^ i
  more s i k less x so = sym (add_field Γs (λ j. state (s j)) i k less ∙ pack_ap Γs (λ j. ap (λ (y : ℕ). put i y (λ l. state (s l)) j) (sym so) ∙ put_state R i x s j))

  -- what a step leaves of the cells of a word, if it adds k to each field of a run
  abbrev pub Left : ℕ → List Names → ℕ → Fml → (ℕ → S R) → (ℕ → S R) → Pr
  Left k γs i P s z = guard 𝓤 (number z ≡ number s + sums k (length γs) i) (sep 𝓤 ⟦ Cells z ⟧ ⟦ P ⟧)

  pub publishes_run : (γs : List Names) (i : ℕ) → AreAt γs i Γs → ArePlain γs → (xs : List R.Denot) → length xs ≡ length γs → (s : ℕ → S R)
      → ent 𝓤 (sep 𝓤 ⟦ Cells s ⟧ ⟦ held R false t c e γs i xs ⟧) (upd 𝓤 (ex 𝓤 (Left 2 γs i (all_written R γs xs) s)))
  publishes_run [] i at plain xs same s = let Z : Pr = ex 𝓤 (Left 2 [] i ftrue s) in qed 𝓛 (‵ (Cells s) ∷ ‵ ftrue ∷ []) ∵ suffices ! _ (upd_i 𝓤 Z) $ show ! (Left 2 [] i ftrue s) s $ check ! (omega arith) $ done !
  publishes_run (γ ∷ γs) i at plain [] same s = absurd (omega arith)
  publishes_run (γ ∷ γs) i at plain (x ∷ xs) same s =
      let X : Pr = sep 𝓤 ⟦ unset R γ ⟧ (sep 𝓤 ⟦ over R γ ⟧ ⟦ steps.frozen 𝓛 R γ α (t.1 i) c (room_at R e i) x ⟧) in let g : ℕ → ℕ = λ n. n + 2 in let after : ℕ → Fml = λ _. written R γ.value_name x in
      let law : Law 𝓛 R α c (cell_in Γs i) (t.1 i) (room_at R e i) g after X = subst (λ (n : Names). Law 𝓛 R α c n (t.1 i) (room_at R e i) g after X) (sym at.1) (steps.publishes 𝓛 R γ α (t.1 i) c (room_at R e i) plain.0 x) in
      let P : Fml = all_written R (γ ∷ γs) (x ∷ xs) in let Z : Pr = ex 𝓤 (Left 2 (γ ∷ γs) i P s) in
      qed 𝓛 (‵ (Cells s) ∷ ‵ (held R false t c e (γ ∷ γs) i (x ∷ xs)) ∷ []) ∵ move ! (1 ∷ []) $ fsplit ! $ fsplit ! $ fsplit ! $
      -- [the epoch has ended; the right to set; the frozen value; the other cells of the run; the cells]
      move ! (0 ∷ 2 ∷ []) $ join ! $ move ! (1 ∷ 0 ∷ []) $ join ! $ move ! (2 ∷ 0 ∷ []) $
      use2 𝓛 (raw (upd 𝓤 (ex 𝓤 (Row 𝓛 R α c Γs t.1 e i g after s)))) (lifts 𝓛 R α c Γs t.1 e i at.0 g after X law s) $
      settle 𝓛 Z (some (λ (y : S R). given (state y ≡ g (state (s i))) (‵ (Cells (put i y s)) ⊛ ‵ (after (state (s i)))))) $ pick ! (λ y. learn ! (λ so. split ! $ let u : ℕ → S R = put i y s in
      move ! (0 ∷ 2 ∷ []) $ use2 𝓛 (raw (upd 𝓤 (ex 𝓤 (Left 2 γs (suc i) (all_written R γs xs) u)))) (publishes_run γs (suc i) at.2 plain.1 xs (omega arith) u) $
      settle 𝓛 Z (some (λ (z : ℕ → S R). given (number z ≡ number u + sums 2 (length γs) (suc i)) (‵ (Cells z) ⊛ ‵ (all_written R γs xs)))) $ pick ! (λ z. learn ! (λ is. split ! $
      suffices ! _ (upd_i 𝓤 Z) $ move ! (2 ∷ 1 ∷ []) $ fjoin ! $ move ! (1 ∷ 0 ∷ []) $ show ! (Left 2 (γ ∷ γs) i P s) z $ check ! (let m = more s i 2 at.0 y so in omega (arith, m, is)) $ done !))))

  -- the cells of a run are empty
  abbrev pub Free : List Names → ℕ → (ℕ → S R) → Type 0
  Free γs i s = (j : ℕ) → i ≤ j → j < i + length γs → state (s j) ≡ 0

  pub begins_run : (γs : List Names) (i : ℕ) → AreAt γs i Γs → ArePlain γs → (s : ℕ → S R) → Free γs i s → ent 𝓤 ⟦ Cells s ⟧ (upd 𝓤 (ex 𝓤 (Left 1 γs i (held R false t c e γs i []) s)))
  begins_run [] i at plain s is-free = let Z : Pr = ex 𝓤 (Left 1 [] i ftrue s) in qed 𝓛 (‵ (Cells s) ∷ []) ∵ suffices ! _ (upd_i 𝓤 Z) $ nothing ! $ move ! (1 ∷ 0 ∷ []) $ show ! (Left 1 [] i ftrue s) s $ check ! (omega arith) $ done !
  begins_run (γ ∷ γs) i at plain s is-free =
      let g : ℕ → ℕ = λ n. bit_or n 1 in let after : ℕ → Fml = won R γ α (t.1 i) c (room_at R e i) false 0 in let none : state (s i) ≡ 0 = is-free i (omega arith) (omega arith) in
      let law : Law 𝓛 R α c (cell_in Γs i) (t.1 i) (room_at R e i) g after (emp 𝓤) = subst (λ (n : Names). Law 𝓛 R α c n (t.1 i) (room_at R e i) g after (emp 𝓤)) (sym at.1) (steps.begins 𝓛 R γ α (t.1 i) c (room_at R e i) plain.0) in
      let P : Fml = held R false t c e (γ ∷ γs) i [] in let Z : Pr = ex 𝓤 (Left 1 (γ ∷ γs) i P s) in
      qed 𝓛 (‵ (Cells s) ∷ []) ∵ nothing ! $ move ! (1 ∷ 0 ∷ []) $
      use2 𝓛 (raw (upd 𝓤 (ex 𝓤 (Row 𝓛 R α c Γs t.1 e i g after s)))) (lifts 𝓛 R α c Γs t.1 e i at.0 g after (emp 𝓤) law s) $
      settle 𝓛 Z (some (λ (y : S R). given (state y ≡ g (state (s i))) (‵ (Cells (put i y s)) ⊛ ‵ (after (state (s i)))))) $ pick ! (λ y. learn ! (λ is. split ! $ let u : ℕ → S R = put i y s in
      let one : state y ≡ state (s i) + 1 = is ∙ ap g none ∙ sym (ap (λ (n : ℕ). n + 1) none) in rewrite ! 1 (λ (n : ℕ). ‵ (after n)) none refl $
      use1 𝓛 (raw (upd 𝓤 (ex 𝓤 (Left 1 γs (suc i) (held R false t c e γs (suc i) []) u)))) (begins_run γs (suc i) at.2 plain.1 u (λ j low high. ap state (put_later i y s j (omega arith)) ∙ is-free j (omega arith) (omega arith))) $
      settle 𝓛 Z (some (λ (z : ℕ → S R). given (number z ≡ number u + sums 1 (length γs) (suc i)) (‵ (Cells z) ⊛ ‵ (held R false t c e γs (suc i) [])))) $ pick ! (λ z. learn ! (λ so. split ! $
      suffices ! _ (upd_i 𝓤 Z) $ move ! (2 ∷ 1 ∷ []) $ fjoin ! $ move ! (1 ∷ 0 ∷ []) $ show ! (Left 1 (γ ∷ γs) i P s) z $ check ! (let m = more s i 1 at.0 y one in omega (arith, m, so)) $ done !))))

  -- a cell of the same state leaves the word as it is
  pub same_number : (s : ℕ → S R) (i : ℕ) (x : S R) → state x ≡ state (s i) → number (put i x s) ≡ number s
  same_number s i x so = sym (pack_ap Γs (λ j. put_own i (λ l. state (s l)) j ∙ ap (λ (y : ℕ). put i y (λ l. state (s l)) j) (sym so) ∙ put_state R i x s j))

  -- the cells of a run have their states in a word
  abbrev pub HaveStatesIn : ℕ → List Names → ℕ → (ℕ → S R) → Type 0
  HaveStatesIn n γs i s = (j : ℕ) → i ≤ j → j < i + length γs → field n j ≡ state (s j)

  -- what a load of a word shows of a run: of each cell what its state shows, and that the state is one of its stage
  abbrev pub Shown : List Names → ℕ → ℕ → Fml
  Shown γs i n = fsep (sights_owned R γs i n) (fact (ShowStages γs i n))

  -- what it leaves of the word's cells, and what it shows
  abbrev pub Seen : ℕ → List Names → ℕ → (ℕ → S R) → (ℕ → S R) → Pr
  Seen n γs i s z = guard 𝓤 (number z ≡ number s) (sep 𝓤 ⟦ Cells z ⟧ ⟦ Shown γs i n ⟧)

  pub looks_run : (n : ℕ) (γs : List Names) (i : ℕ) → AreAt γs i Γs → (s : ℕ → S R) → HaveStatesIn n γs i s → ent 𝓤 ⟦ Cells s ⟧ (upd 𝓤 (ex 𝓤 (Seen n γs i s)))
  looks_run n [] i at s has = let Z : Pr = ex 𝓤 (Seen n [] i s) in qed 𝓛 (‵ (Cells s) ∷ []) ∵ suffices ! _ (upd_i 𝓤 Z) $ nothing ! $ nothing ! $ fpack ! (ShowStages [] i n) (λ _. ftrue) tt $
      move ! (1 ∷ 0 ∷ []) $ fjoin ! $ move ! (1 ∷ 0 ∷ []) $ show ! (Seen n [] i s) s $ check ! refl $ done !
  looks_run n (γ ∷ γs) i at s has =
      let g : ℕ → ℕ = λ k. k in let r : ℕ = room_at R e i in let after : ℕ → Fml = also 𝓛 R γ α (t.1 i) c r (sights R γ) in
      let law : Law 𝓛 R α c (cell_in Γs i) (t.1 i) r g after (emp 𝓤) = subst (λ (m : Names). Law 𝓛 R α c m (t.1 i) r g after (emp 𝓤)) (sym at.1)
      (also_stage 𝓛 R γ α (t.1 i) c r (sights R γ) (emp 𝓤) (steps.looks 𝓛 R γ α (t.1 i) c r)) in
      let Z : Pr = ex 𝓤 (Seen n (γ ∷ γs) i s) in
      qed 𝓛 (‵ (Cells s) ∷ []) ∵ nothing ! $ move ! (1 ∷ 0 ∷ []) $
      use2 𝓛 (raw (upd 𝓤 (ex 𝓤 (Row 𝓛 R α c Γs t.1 e i g after s)))) (lifts 𝓛 R α c Γs t.1 e i at.0 g after (emp 𝓤) law s) $
      settle 𝓛 Z (some (λ (y : S R). given (state y ≡ g (state (s i))) (‵ (Cells (put i y s)) ⊛ ‵ (after (state (s i)))))) $ pick ! (λ y. learn ! (λ is. split ! $ let u : ℕ → S R = put i y s in
      rewrite ! 1 (λ (k : ℕ). ‵ (after k)) (sym (has i (omega arith) (omega arith))) refl $ move ! (1 ∷ []) $ fsplit ! $ move ! (1 ∷ []) $ fpick ! (λ one. drop ! $
      -- [what the state shows; the cells]
      move ! (1 ∷ []) $ use1 𝓛 (raw (upd 𝓤 (ex 𝓤 (Seen n γs (suc i) u)))) (looks_run n γs (suc i) at.2 u (λ j low high. has j (omega arith) (omega arith) ∙ sym (ap state (put_later i y s j (omega arith))))) $
      settle 𝓛 Z (some (λ (z : ℕ → S R). given (number z ≡ number u) (‵ (Cells z) ⊛ ‵ (Shown γs (suc i) n)))) $ pick ! (λ z. learn ! (λ so. split ! $
      suffices ! _ (upd_i 𝓤 Z) $ move ! (1 ∷ []) $ fsplit ! $ move ! (1 ∷ []) $ fpick ! (λ others. drop ! $
      -- [what is shown of the others; the cells; what the state shows]
      move ! (2 ∷ 0 ∷ []) $ fjoin ! $ nothing ! $ fpack ! (ShowStages (γ ∷ γs) i n) (λ _. ftrue) (one, others) $ move ! (1 ∷ 0 ∷ []) $ fjoin ! $ move ! (1 ∷ 0 ∷ []) $
      show ! (Seen n (γ ∷ γs) i s) z $ check ! (so ∙ same_number s i y is) $ done !))))))

  number_is : (s : ℕ → S R) (j : ℕ) → j < length Γs → field (number s) j ≡ state (s j)
  number_is s j less = field_of Γs (λ l. state (s l)) j (states_fit R s) less

  -- the run's cells are within the word
  ends : (γs : List Names) (i : ℕ) → AreAt γs i Γs → i ≤ length Γs → i + length γs ≤ length Γs
  ends [] i at le = omega arith
  ends (γ ∷ γs) i at le = let r = ends γs (suc i) at.2 (let l = at.0 in omega arith) in omega (arith, r)

  reaches : (γs : List Names) (i : ℕ) → AreAt γs i Γs → (j : ℕ) → i ≤ j → j < i + length γs → j < length Γs
  reaches [] i at j low high = absurd (omega arith)
  reaches (γ ∷ γs) i at j low high = let r = ends (γ ∷ γs) i at (let l = at.0 in omega arith) in omega (arith, r)

  finds_free : (γs : List Names) (i : ℕ) → AreAt γs i Γs → (s : ℕ → S R) → AreEmptyIn (number s) i (length γs) → Free γs i s
  finds_free γs i at s none j low high = sym (number_is s j (reaches γs i at j low high)) ∙ none j low high

  pub below : length Γs ≤ 16 → (z : ℕ → S R) → number z < 2 ^ 64
  below short z = let wide : 16 ^ length Γs ≤ 2 ^ 64 = le_trans (le_of_eq (sym (sixteens (length Γs)))) (pow_mono (let l : 4 * length Γs ≤ 64 = omega arith in l)) in
      lt_of_lt_of_le (packed_below Γs (λ j. state (z j)) (states_fit R z)) wide

  -- what the exchange does to the cells of the word
  abbrev Swaps : ℕ → ℕ → ℕ → ℕ
  Swaps sought new n = either (eqb n sought) new n

  -- what a step leaves of the cells of a word, and what it gains, by the word that it found
  abbrev pub Whole : (ℕ → ℕ) → (ℕ → Fml) → (ℕ → S R) → (ℕ → S R) → Pr
  Whole f after s z = guard 𝓤 (number z ≡ f (number s)) (sep 𝓤 ⟦ Cells z ⟧ ⟦ after (number s) ⟧)

  module _ (γs : List Names) (i : ℕ) (at : AreAt γs i Γs) (plain : ArePlain γs) (sought new : ℕ) (short : length Γs ≤ 16) (none : AreEmptyIn sought i (length γs)) (sum : new ≡ (sought + sums 1 (length γs) i) % 2 ^ 64) where
    abbrev pub Won : ℕ → Fml
    Won n = if_won (eqb n sought) (held R false t c e γs i [])

    wins_by : (s : ℕ → S R) (h : Bool) → eqb (number s) sought ≡ h → ent 𝓤 ⟦ Cells s ⟧ (upd 𝓤 (ex 𝓤 (Whole (Swaps sought new) Won s)))
    wins_by s true is = let same : number s ≡ sought = eqb-true (number s) sought is in let Z : Pr = ex 𝓤 (Whole (Swaps sought new) Won s) in
        let free : Free γs i s = finds_free γs i at s (subst (λ (n : ℕ). AreEmptyIn n i (length γs)) (sym same) none) in
        qed 𝓛 (‵ (Cells s) ∷ []) ∵ use1 𝓛 (raw (upd 𝓤 (ex 𝓤 (Left 1 γs i (held R false t c e γs i []) s)))) (begins_run γs i at plain s free) $
        settle 𝓛 Z (some (λ (z : ℕ → S R). given (number z ≡ number s + sums 1 (length γs) i) (‵ (Cells z) ⊛ ‵ (held R false t c e γs i [])))) $ pick ! (λ z. learn ! (λ so. split ! $
        suffices ! _ (upd_i 𝓤 Z) $ rewrite ! 1 (λ (h : Bool). ‵ (if_won h (held R false t c e γs i []))) (sym is) refl $ show ! (Whole (Swaps sought new) Won s) z $
        let sum' : number z ≡ sought + sums 1 (length γs) i = so ∙ ap (λ (n : ℕ). n + sums 1 (length γs) i) same in
        let whole : new ≡ sought + sums 1 (length γs) i = sum ∙ mod-eq_of_lt (subst (λ (n : ℕ). n < 2 ^ 64) sum' (below short z)) in
        check ! (sum' ∙ sym whole ∙ ap (λ (h : Bool). either h new (number s)) (sym is)) $ done !))
    wins_by s false is = let Z : Pr = ex 𝓤 (Whole (Swaps sought new) Won s) in qed 𝓛 (‵ (Cells s) ∷ []) ∵ nothing ! $ move ! (1 ∷ 0 ∷ []) $
        suffices ! _ (upd_i 𝓤 Z) $ rewrite ! 1 (λ (h : Bool). ‵ (if_won h (held R false t c e γs i []))) (sym is) refl $ show ! (Whole (Swaps sought new) Won s) s $
        check ! (ap (λ (h : Bool). either h new (number s)) (sym is)) $ done !

    pub wins : (s : ℕ → S R) → ent 𝓤 (sep 𝓤 ⟦ Cells s ⟧ (emp 𝓤)) (upd 𝓤 (ex 𝓤 (Whole (Swaps sought new) Won s)))
    wins s = qed 𝓛 (‵ (Cells s) ∷ raw (emp 𝓤) ∷ []) ∵ keep ! (0 ∷ []) $ by ! (wins_by s (eqb (number s) sought) refl)

  module _ (γs : List Names) (i : ℕ) (at : AreAt γs i Γs) (plain : ArePlain γs) (short : length Γs ≤ 16) (xs : List R.Denot) (same : length xs ≡ length γs) (k : ℕ) (sum : k ≡ sums 2 (length γs) i) where
    abbrev Adds : ℕ → ℕ
    Adds n = (n + k) % 2 ^ 64

    shows_all : (s : ℕ → S R) → ent 𝓤 (sep 𝓤 ⟦ Cells s ⟧ ⟦ held R false t c e γs i xs ⟧) (upd 𝓤 (ex 𝓤 (Whole Adds (λ _. all_written R γs xs) s)))
    shows_all s = let Z : Pr = ex 𝓤 (Whole Adds (λ _. all_written R γs xs) s) in
        qed 𝓛 (‵ (Cells s) ∷ ‵ (held R false t c e γs i xs) ∷ []) ∵ use2 𝓛 (raw (upd 𝓤 (ex 𝓤 (Left 2 γs i (all_written R γs xs) s)))) (publishes_run γs i at plain xs same s) $
        settle 𝓛 Z (some (λ (z : ℕ → S R). given (number z ≡ number s + sums 2 (length γs) i) (‵ (Cells z) ⊛ ‵ (all_written R γs xs)))) $ pick ! (λ z. learn ! (λ so. split ! $
        let is : number z ≡ number s + k = so ∙ ap (λ (n : ℕ). number s + n) (sym sum) in
        let fits : number s + k < 2 ^ 64 = subst (λ (n : ℕ). n < 2 ^ 64) is (below short z) in
        suffices ! _ (upd_i 𝓤 Z) $ show ! (Whole Adds (λ _. all_written R γs xs) s) z $ check ! (is ∙ sym (mod-eq_of_lt fits)) $ done !))

  module _ (γs : List Names) (i : ℕ) (at : AreAt γs i Γs) where
    looks_by : (s : ℕ → S R) → ent 𝓤 (sep 𝓤 ⟦ Cells s ⟧ (emp 𝓤)) (upd 𝓤 (ex 𝓤 (Whole (λ n. n) (Shown γs i) s)))
    looks_by s = qed 𝓛 (‵ (Cells s) ∷ raw (emp 𝓤) ∷ []) ∵ keep ! (0 ∷ []) $ by ! (looks_run (number s) γs i at s (λ j low high. number_is s j (reaches γs i at j low high)))

  module _ (b o : ℕ) where
    open 𝓛 use {A}

    abbrev I : Fml
    I = all_cells R Γs t b o c e

    abbrev Opened : Fml
    Opened = above (floors Γs) (fbor α I)

    -- what a step that does this to the cells does to their word
    turned_all : (q : Share) (f : ℕ → ℕ) (after : ℕ → Fml) (X : Pr) → ((s : ℕ → S R) → ent 𝓤 (sep 𝓤 ⟦ Cells s ⟧ X) (upd 𝓤 (ex 𝓤 (Whole f after s))))
        → ent 𝓤 (sep 𝓤 ⟦ I ⟧ X) (upd 𝓤 (ex 𝓤 (Lies 𝓛 α q I b o f always after)))
    turned_all q f after X law = let G : Pr = ex 𝓤 (Lies 𝓛 α q I b o f always after) in
        qed 𝓛 (‵ I ∷ raw X ∷ []) ∵ suffices ! _ (upd_i 𝓤 G) $ fpick ! (λ s. let n : ℕ = number s in let Z : Pr = sep 𝓤 ⟦ I ⟧ ⟦ after n ⟧ in fsplit ! $
        show ! (Lies 𝓛 α q I b o f always after) n $ frame ! $ each ! (λ (_ : Unit {0}). Again 𝓛 α q I b o f always after n) (λ _. assume ! (‵ (word b o (f n))) $
        move ! (1 ∷ 2 ∷ []) $ use2 𝓛 (raw (upd 𝓤 (ex 𝓤 (Whole f after s)))) (law s) $
        settle 𝓛 Z (some (λ (z : ℕ → S R). given (number z ≡ f n) (‵ (Cells z) ⊛ ‵ (after n)))) $ pick ! (λ z. learn ! (λ so. split ! $
        rewrite ! 2 (λ (y : ℕ). ‵ (word b o y)) (sym so) refl $ move ! (2 ∷ 0 ∷ []) $ fjoin ! $ fpack ! (ℕ → S R) (standing R Γs t b o c e) z $ suffices ! _ (upd_i 𝓤 Z) $ done !))))

    -- such a step can be done on the word
    stepped_all : (q : Share) (f : ℕ → ℕ) (after : ℕ → Fml) (X : Pr) → ((s : ℕ → S R) → ent 𝓤 (sep 𝓤 ⟦ Cells s ⟧ X) (upd 𝓤 (ex 𝓤 (Whole f after s))))
        → ent 𝓤 (sep 𝓤 ⟦ Opened ⟧ (sep 𝓤 (A.lft α q) X)) (asks 𝓛 (block_ptr b o) f always (λ n. fsep (flft α q) (after n)))
    stepped_all q f after X law =
        qed 𝓛 (‵ Opened ∷ ‵ (flft α q) ∷ raw X ∷ []) ∵ use1 𝓛 (‵ (finv (fbor α I))) (above_inv 𝓛 (floors Γs) (fbor α I)) $ by ! (borrowed 𝓛 α q I b o f always after X (turned_all q f after X law))

    -- the same with another invariant open, whose number is lower
    pub stepped_all_both : (q : Share) (f : ℕ → ℕ) (n : ℕ) (μ : Lft) (p : Share) (J : Fml) → n ≤ floors Γs → (after : ℕ → Fml) (X : Pr)
        → ((s : ℕ → S R) → ent 𝓤 (sep 𝓤 ⟦ Cells s ⟧ (sep 𝓤 ⟦ J ⟧ X)) (upd 𝓤 (ex 𝓤 (Whole f (λ m. fsep J (after m)) s))))
        → ent 𝓤 (sep 𝓤 ⟦ Opened ⟧ (sep 𝓤 (A.named n (fbor μ J)) (sep 𝓤 (A.lft α q) (sep 𝓤 (A.lft μ p) X)))) (asks 𝓛 (block_ptr b o) f always (λ m. fsep (flft α q) (fsep (flft μ p) (after m))))
    stepped_all_both q f n μ p J low after X law = let P : Fml = fbor α I in let Q : Fml = fbor μ J in
        qed 𝓛 (‵ Opened ∷ ‵ (fnamed n Q) ∷ ‵ (flft α q) ∷ ‵ (flft μ p) ∷ raw X ∷ []) ∵ fpick ! (λ k. fsplit ! $ fpick ! (λ above. drop ! $
        by ! (borrowed_both 𝓛 α μ q p I J b o f after k n (λ same. omega arith) X (turned_all q f (λ m. fsep J (after m)) (sep 𝓤 ⟦ J ⟧ X) law))))

    -- a step on another word, which is the caller's own, leaves this word as it is
    turned_beside : (J after : Fml) (X : Pr) → ((s : ℕ → S R) → ent 𝓤 (sep 𝓤 ⟦ Cells s ⟧ (sep 𝓤 ⟦ J ⟧ X)) (upd 𝓤 (ex 𝓤 (Whole (λ m. m) (λ _. fsep J after) s))))
        → ent 𝓤 (sep 𝓤 ⟦ I ⟧ (sep 𝓤 ⟦ J ⟧ X)) (upd 𝓤 (sep 𝓤 ⟦ I ⟧ (sep 𝓤 ⟦ J ⟧ ⟦ after ⟧)))
    turned_beside J after X law = let G : Pr = sep 𝓤 ⟦ I ⟧ (sep 𝓤 ⟦ J ⟧ ⟦ after ⟧) in
        qed 𝓛 (‵ I ∷ ‵ J ∷ raw X ∷ []) ∵ fpick ! (λ s. fsplit ! $
        -- [the word; its cells; the other content; X]
        move ! (1 ∷ 2 ∷ 3 ∷ []) $ use3 𝓛 (raw (upd 𝓤 (ex 𝓤 (Whole (λ m. m) (λ _. fsep J after) s)))) (law s) $
        settle 𝓛 G (some (λ (z : ℕ → S R). given (number z ≡ number s) (‵ (Cells z) ⊛ ‵ (fsep J after)))) $ pick ! (λ z. learn ! (λ so. split ! $
        rewrite ! 2 (λ (y : ℕ). ‵ (word b o y)) (sym so) refl $ move ! (2 ∷ 0 ∷ []) $ fjoin ! $ fpack ! (ℕ → S R) (standing R Γs t b o c e) z $
        suffices ! _ (upd_i 𝓤 G) $ move ! (1 ∷ []) $ fsplit ! $ move ! (2 ∷ []) $ done !)))

    -- the same with another invariant open, whose number is lower
    pub stepped_beside : (q : Share) (n : ℕ) (μ : Lft) (p : Share) (J : Fml) → n ≤ floors Γs → (after : Fml) (X : Pr)
        → ((s : ℕ → S R) → ent 𝓤 (sep 𝓤 ⟦ Cells s ⟧ (sep 𝓤 ⟦ J ⟧ X)) (upd 𝓤 (ex 𝓤 (Whole (λ m. m) (λ _. fsep J after) s)))) → (b' o' m : ℕ)
        → ent 𝓤 (sep 𝓤 ⟦ Opened ⟧ (sep 𝓤 (A.named n (fbor μ J)) (sep 𝓤 (A.lft α q) (sep 𝓤 (A.lft μ p) (sep 𝓤 ⟦ word b' o' m ⟧ X)))))
        (asks 𝓛 (block_ptr b' o') (λ k. k) always (λ k. fsep (flft α q) (fsep (flft μ p) (fsep (word b' o' k) after))))
    stepped_beside q n μ p J low after X law b' o' m = let P : Fml = fbor α I in let Q : Fml = fbor μ J in
        qed 𝓛 (‵ Opened ∷ ‵ (fnamed n Q) ∷ ‵ (flft α q) ∷ ‵ (flft μ p) ∷ ‵ (word b' o' m) ∷ raw X ∷ []) ∵ fpick ! (λ k. fsplit ! $ fpick ! (λ above. drop ! $
        by ! (borrowed_beside 𝓛 α μ q p I J b' o' m after k n (λ same. omega arith) X (turned_beside J after X law))))

    pub begins_all : (γs : List Names) (i : ℕ) → AreAt γs i Γs → ArePlain γs → length Γs ≤ 16 → (sought new : ℕ) → AreEmptyIn sought i (length γs) → new ≡ (sought + sums 1 (length γs) i) % 2 ^ 64 → (q : Share)
        → ent 𝓤 (sep 𝓤 ⟦ Opened ⟧ (sep 𝓤 (A.lft α q) (emp 𝓤))) (asks 𝓛 (block_ptr b o) (Swaps sought new) always (λ n. fsep (flft α q) (if_won (eqb n sought) (held R false t c e γs i []))))
    begins_all γs i at plain short sought new none sum q = stepped_all q (Swaps sought new) (λ n. if_won (eqb n sought) (held R false t c e γs i [])) (emp 𝓤) (wins γs i at plain sought new short none sum)

    pub looks_all : (γs : List Names) (i : ℕ) → AreAt γs i Γs → (q : Share)
        → ent 𝓤 (sep 𝓤 ⟦ Opened ⟧ (sep 𝓤 (A.lft α q) (emp 𝓤))) (asks 𝓛 (block_ptr b o) (λ n. n) always (λ n. fsep (flft α q) (Shown γs i n)))
    looks_all γs i at q = stepped_all q (λ n. n) (Shown γs i) (emp 𝓤) (looks_by γs i at)

    pub publishes_all : (γs : List Names) (i : ℕ) → AreAt γs i Γs → ArePlain γs → length Γs ≤ 16 → (xs : List R.Denot) → length xs ≡ length γs → (k : ℕ) → k ≡ sums 2 (length γs) i → (q : Share)
        → ent 𝓤 (sep 𝓤 ⟦ Opened ⟧ (sep 𝓤 (A.lft α q) ⟦ held R false t c e γs i xs ⟧)) (asks 𝓛 (block_ptr b o) (λ n. (n + k) % 2 ^ 64) always (λ _. fsep (flft α q) (all_written R γs xs)))
    publishes_all γs i at plain short xs same k sum q = stepped_all q (λ n. (n + k) % 2 ^ 64) (λ _. all_written R γs xs) ⟦ held R false t c e γs i xs ⟧ (shows_all γs i at plain short xs same k sum)

-- the index of the first cell of a run that has no value yet
abbrev pub next : {X : Type 0} → ℕ → List X → ℕ
next i [] = i
next i (x ∷ xs) = next (suc i) xs

pub next_is : {X : Type 0} (i : ℕ) (xs : List X) → next i xs ≡ i + length xs
next_is i [] = omega arith
next_is i (x ∷ xs) = next_is (suc i) xs ∙ omega arith

-- some cells without the first
abbrev pub others : List Names → List Names
others [] = []
others (γ ∷ γs) = γs

module _ {M : Type 1} {𝓤 : Ura M} (𝓛 : Logic 𝓤) (R : RattleType) (first : Bool) (t : Turn) (c e : ℕ) where
  abbrev pub Next_right : List Names → ℕ → List R.Denot → Fml
  Next_right γs i xs = let k : ℕ = next i xs in right_of R (cell_in γs (length xs)) t.0 (t.1 k) c (room_at R e k) first

  abbrev pub Next_ready : List Names → ℕ → List R.Denot → R.Denot → Fml
  Next_ready γs i xs x = let k : ℕ = next i xs in Ready R first (cell_in γs (length xs)) t.0 (t.1 k) c (room_at R e k) x

  abbrev pub Written : List Names → ℕ → List R.Denot → R.Denot → SProp 𝓤
  Written γs i xs x = wand 𝓤 (sem 𝓛 (Next_ready γs i xs x)) (sem 𝓛 (held R first t c e γs i (xs ++ x ∷ [])))

  -- the first cell that has no value yet can be written
  pub held_next : (γs : List Names) (i : ℕ) (xs : List R.Denot) → length xs < length γs → (x : R.Denot)
      → ent 𝓤 (sem 𝓛 (held R first t c e γs i xs)) (sep 𝓤 (sem 𝓛 (Next_right γs i xs)) (Written γs i xs x))
  held_next [] i xs less x = absurd (omega arith)
  held_next (γ ∷ γs) i [] less x = qed 𝓛 (‵ (held R first t c e (γ ∷ γs) i []) ∷ []) ∵ fsplit ! $ frame ! $ assume ! (‵ (Next_ready (γ ∷ γs) i [] x)) $ fjoin ! $ done !
  held_next (γ ∷ γs) i (y ∷ xs) less x = qed 𝓛 (‵ (held R first t c e (γ ∷ γs) i (y ∷ xs)) ∷ []) ∵ fsplit ! $ move ! (1 ∷ []) $
      use1 𝓛 (‵ (Next_right γs (suc i) xs) ⊛ raw (Written γs (suc i) xs x)) (held_next γs (suc i) xs (omega arith) x) $ split ! $ frame ! $ assume ! (‵ (Next_ready γs (suc i) xs x)) $
      use2 𝓛 (‵ (held R first t c e γs (suc i) (xs ++ x ∷ []))) (apply∗ 𝓤 (sem 𝓛 (Next_ready γs (suc i) xs x)) (sem 𝓛 (held R first t c e γs (suc i) (xs ++ x ∷ [])))) $ move ! (1 ∷ 0 ∷ []) $ fjoin ! $ done !

  -- the right to write the first cell, and what the run has of the others
  pub held_first : (γs : List Names) (i : ℕ) → 0 < length γs
      → ent 𝓤 (sem 𝓛 (held R first t c e γs i [])) (sep 𝓤 (sem 𝓛 (right_of R (cell_in γs 0) t.0 (t.1 i) c (room_at R e i) first)) (sem 𝓛 (held R first t c e (others γs) (suc i) [])))
  held_first [] i less = absurd (omega arith)
  held_first (γ ∷ γs) i less = qed 𝓛 (‵ (held R first t c e (γ ∷ γs) i []) ∷ []) ∵ fsplit ! $ done !

-- the first of some cells and the others are all of them
pub first_again : (γs : List Names) → 0 < length γs → cell_in γs 0 ∷ others γs ≡ γs
first_again [] less = absurd (omega arith)
first_again (γ ∷ γs) less = refl

pub first_at : (γs : List Names) (i : ℕ) (Γs : List Names) → 0 < length γs → AreAt γs i Γs → (i < length Γs) × (cell_in Γs i ≡ cell_in γs 0) × AreAt (others γs) (suc i) Γs
first_at [] i Γs less at = absurd (omega arith)
first_at (γ ∷ γs) i Γs less at = at

pub others_fewer : (γs : List Names) → length (others γs) ≤ length γs
others_fewer [] = omega arith
others_fewer (γ ∷ γs) = omega arith
