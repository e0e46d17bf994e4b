-- The parts of the rows of a block: the cell at an index, more cells, and what a `&` to them shows. Assumes `Logic`.
use Rattle.std.proofs.Common.{Bool, false, ◌≡◌, ℕ, zero, suc, ◌+◌, ◌-◌, ◌*◌, ◌/◌, ◌%◌, ◌^◌, ◌<◌, ◌≤◌, List, [], ◌∷◌, ◌++◌, length, take, drop, set, length-set, length-take, length-drop, length-append, get_or-take, get_or-drop, sym, refl, ap, ◌∙◌, subst, arith, suc-mul, zero-mul, add-mul, mul-le-mul_right, w64}
use Rattle.std.specs.Prelude.{Option, None}
use Rattle.tie_core.specs.Tie.{Tie, seats}
use lib.Seq.{take-set-lt, drop-set-lt}
use Rattle.std.proofs.lemmas.List.{take-set-le, drop-set-add, take-append-le, drop-append-le, take_all}
use seplogic.Ra.Ura.{Ura}
use mathlib.Core.Logic.{dite}
use native.Mathlib.Decide.{dec_lt}
use mir.Syntax.{Ty, ty_int, ty_array}
use mir.Raw.{raw as bare}
use prog.Memory.{size}
use prog.RawLaws.{size-raw}
use base.Stored.{gnil}
use base.Logic.{SProp, ent, sep, ex, emp, wand, all, all_e, guard, apply∗, id⊢}
use base.Fml.{Lft, Incl, Fml, ftrue, fsep, froom}
use types.Logic.{Logic, sem}
use types.Kit as Kit
use types.Tokens.{lft_new, lft_end, name_new}
use types.Kit.{‵, ◌⊛◌, given, some, later, updating, await, now, ◌$◌, ◌∵◌, !, qed, by, move, keep, drop as toss, use1, use2, split, fsplit, fsplit3, fjoin, fjoin3, fpick, fpack, pick, learn, show, check, frame, each, assume, rewrite, use0, done}
use denote.RattleType.{RattleType}
use denote.Memory.{lone}
use denote.RawPtr.{Ptr, block_ptr, block_of, count_of, InBlock}
use denote.Steps.{nothing}
use denote.Builtin.{u64}
use denote.Param.{param, layout}
use denote.Param.Laws.{Laws}
use denote.Struct.Lending.{Lends, Lends-both, Lends-nothing, Lends-said, Lends-first}
use mir.Val.{vint}
use denote.Sharing.{ShrLaws, said}
use denote.SharingLaws.{beside_shr_laws, nothing_shr_laws, said_shr_laws}
use Rattle.cell_core.specs.Fields.{pack, put}
use Rattle.cell_core.specs.Slot.{Names, ArePlain, AreTied, cell_in, state, free, broken_once, Rest, fact, word, step, room_at, Spot, IsAt, kept, shared_at, slot_owned}
use Rattle.cell_core.specs.Laid.{Extent, words_ty, rooms_ty, Lies, FitsMemory, lying, rests, still, along, along_lent, laid, laid_lent, rooms_owned}
use Rattle.cell_core.proofs.Fields.{pack_ap, pack_alike, put_of, packed_none}
use Rattle.cell_core.proofs.RestParts.{emptied}
use Rattle.cell_core.proofs.CellLends.{lends_word}
use Rattle.cell_core.proofs.WordSteps.{shared_laws}

module _ (R : RattleType) where
  -- what a `&` to the cells of each word holds can be had twice
  pub along_laws : (k : ℕ) (γs : List Names) (b o c e : ℕ) → ShrLaws (along_lent R k γs b o c e)
  along_laws zero γs b o c e = nothing_shr_laws
  along_laws (suc k) γs b o c e = let W : List Names = take 16 γs in let Ws : List Names = drop 16 γs in
      beside_shr_laws (shared_at R W b o c e) (along_lent R k Ws b (o + 8) c (e + 16 * step R)) (shared_laws R W b o c e) (along_laws k Ws b (o + 8) c (e + 16 * step R))

  -- what a `&` to the rows holds can be had twice
  pub laid_laws : (x : Extent) (γs : List Names) → ShrLaws (laid_lent R x γs)
  laid_laws x γs = let F : Fml = fact (Lies R x (length γs)) in let b : ℕ = block_of x.at in let o : ℕ = count_of x.at in let c : ℕ = block_of x.rooms in let e : ℕ = count_of x.rooms in
      beside_shr_laws (said F) (along_lent R x.words γs b o c e) (said_shr_laws F (λ _. tt)) (along_laws x.words γs b o c e)

  -- the offset of the room at an index
  pub room_is : (e i : ℕ) → room_at R e i ≡ i * step R + e
  room_is e zero = let z = zero-mul (step R) in omega arith
  room_is e (suc i) = let z = suc-mul i (step R) in room_is (e + step R) i ∙ omega arith

  -- the cell at an index of a row lies in its memory
  pub within : (i n : ℕ) → i ≤ n → FitsMemory R n → i * step R < 2 ^ 63
  within i n le fits = let a : i * step R ≤ n * step R = mul-le-mul_right (step R) le in let b : n * step R < 2 ^ 63 = fits in omega arith

  -- a word of the cells has the cell at index j, and these are its names, and where its first room lies
  pub record IsIn (γs : List Names) (e j : ℕ) (z : List Names × ℕ) : Type 0 where
    pub near : j % 16 < length z.0
    pub short : length z.0 ≤ 16
    pub names : cell_in z.0 (j % 16) ≡ cell_in γs j
    pub lies : room_at R z.1 (j % 16) ≡ j * step R + e

  abbrev nobody : Names
  nobody = record { value_name = 0; broken_name = 0; epoch = []; tied = None }

  first_in : (γs : List Names) (e j : ℕ) → j < length γs → j < 16 → IsIn γs e j (take 16 γs, e)
  first_in γs e j near low = let m = length-take 16 γs in let same : j % 16 ≡ j = omega arith in record {
    near = omega (arith, m);
    short = omega (arith, m);
    names = ap (cell_in (take 16 γs)) same ∙ get_or-take 16 γs j nobody low;
    lies = ap (room_at R e) same ∙ room_is e j;
  }

  later_in : (γs : List Names) (e i : ℕ) (z : List Names × ℕ) → IsIn (drop 16 γs) (e + 16 * step R) i z → IsIn γs e (16 + i) z
  later_in γs e i z is = let same : (16 + i) % 16 ≡ i % 16 = omega arith in let far : (16 + i) * step R ≡ 16 * step R + i * step R = add-mul 16 i (step R) in record {
    near = subst (λ (n : ℕ). n < length z.0) (sym same) is.near;
    short = is.short;
    names = ap (cell_in z.0) same ∙ is.names ∙ get_or-drop 16 γs i nobody;
    lies = ap (room_at R z.1) same ∙ is.lies ∙ omega (arith, far);
  }

module _ {M : Type 1} {𝓤 : Ura M} (𝓛 : Logic 𝓤) (R : RattleType) where
  open 𝓛 use {H, A}

  abbrev Pr : Type 2
  Pr = SProp 𝓤

  abbrev ◌⊢◌ : Pr → Pr → Type 1
  P ⊢ Q = ent 𝓤 P Q

  abbrev ◌∗◌ : Pr → Pr → Pr
  P ∗ Q = sep 𝓤 P Q

  abbrev ◌-∗◌ : Pr → Pr → Pr
  P -∗ Q = wand 𝓤 P Q

  abbrev ⟦◌⟧ : Fml → Pr
  ⟦ P ⟧ = sem 𝓛 P

  infix 26 ◌⊢◌
  infixr 35 ◌∗◌
  infixr 30 ◌-∗◌
  abbrev Back : ℕ → List Names → ℕ → ℕ → ℕ → ℕ → ℕ → List Names × ℕ → Names → Pr
  Back k γs b o c e j z γ = ⟦ still R (set z.0 (j % 16) γ) b (j / 16 * 8 + o) c z.1 ⟧ -∗ ⟦ along R k (set γs j γ) b o c e ⟧

  abbrev Found : ℕ → List Names → ℕ → ℕ → ℕ → ℕ → ℕ → List Names × ℕ → Pr
  Found k γs b o c e j z = guard 𝓤 (IsIn R γs e j z) (⟦ still R z.0 b (j / 16 * 8 + o) c z.1 ⟧ ∗ all 𝓤 (Back k γs b o c e j z))

  -- the word of the cell at an index, and the way back under another name of the cell
  along_at : (k : ℕ) (γs : List Names) (b o c e j : ℕ) → j < length γs → length γs ≤ k * 16 → ⟦ along R k γs b o c e ⟧ ⊢ ex 𝓤 (Found k γs b o c e j)
  along_at zero γs b o c e j near few = absurd (omega arith)
  along_at (suc k) γs b o c e j near few = dite (dec_lt j 16)
      (λ low. let z : List Names × ℕ = (take 16 γs, e) in let same : j % 16 ≡ j = omega arith in let here : j / 16 * 8 + o ≡ o = omega arith in
      qed 𝓛 (‵ (along R (suc k) γs b o c e) ∷ []) ∵ fsplit ! $ show ! (Found (suc k) γs b o c e j) z $ check ! (first_in R γs e j near low) $ rewrite ! 0 (λ (i : ℕ). ‵ (still R (take 16 γs) b i c e)) (sym here) refl $ frame ! $
      each ! (Back (suc k) γs b o c e j z) (λ γ. assume ! (‵ (still R (set (take 16 γs) (j % 16) γ) b (j / 16 * 8 + o) c e)) $
      let front : set (take 16 γs) (j % 16) γ ≡ take 16 (set γs j γ) = ap (λ (i : ℕ). set (take 16 γs) i γ) same ∙ sym (take-set-lt 16 γs j γ low) in
      rewrite ! 0 (λ (u : List Names × ℕ). ‵ (still R u.0 b u.1 c e)) (λ i. (front i, here i)) refl $ rewrite ! 1 (λ (u : List Names). ‵ (along R k u b (o + 8) c (e + 16 * step R))) (sym (drop-set-lt 16 γs j γ low)) refl $ fjoin ! $ done !))
      (λ high. let i : ℕ = j - 16 in let is : j ≡ 16 + i = omega arith in let m = length-drop 16 γs in let o' : ℕ = o + 8 in let e' : ℕ = e + 16 * step R in let Ws : List Names = drop 16 γs in
      let there : i / 16 * 8 + o' ≡ j / 16 * 8 + o = omega arith in let same : i % 16 ≡ j % 16 = omega arith in
      qed 𝓛 (‵ (along R (suc k) γs b o c e) ∷ []) ∵ fsplit ! $ move ! (1 ∷ []) $
      use1 𝓛 (some (λ (z : List Names × ℕ). given (IsIn R Ws e' i z) (‵ (still R z.0 b (i / 16 * 8 + o') c z.1) ⊛ Kit.raw (all 𝓤 (Back k Ws b o' c e' i z))))) (along_at k Ws b o' c e' i (omega (arith, m)) (omega (arith, m))) $
      pick ! (λ z. learn ! (λ so. split ! $ show ! (Found (suc k) γs b o c e j) z $ check ! (subst (λ (l : ℕ). IsIn R γs e l z) (sym is) (later_in R γs e i z so)) $
      rewrite ! 0 (λ (a : ℕ). ‵ (still R z.0 b a c z.1)) there refl $ frame ! $
      each ! (Back (suc k) γs b o c e j z) (λ γ. assume ! (‵ (still R (set z.0 (j % 16) γ) b (j / 16 * 8 + o) c z.1)) $
      rewrite ! 0 (λ (u : ℕ × ℕ). ‵ (still R (set z.0 u.0 γ) b u.1 c z.1)) (λ a. (sym same a, sym there a)) refl $ move ! (1 ∷ []) $ use1 𝓛 (Kit.raw (Back k Ws b o' c e' i z γ)) (all_e 𝓤 (Back k Ws b o' c e' i z) γ) $ move ! (1 ∷ 0 ∷ []) $
      use2 𝓛 (‵ (along R k (set Ws i γ) b o' c e')) (apply∗ 𝓤 ⟦ still R (set z.0 (i % 16) γ) b (i / 16 * 8 + o') c z.1 ⟧ ⟦ along R k (set Ws i γ) b o' c e' ⟧) $
      let rest : set Ws i γ ≡ drop 16 (set γs j γ) = sym (ap (λ (l : ℕ). drop 16 (set γs l γ)) is ∙ drop-set-add 16 γs i γ) in
      rewrite ! 0 (λ (u : List Names). ‵ (along R k u b o' c e')) rest refl $ rewrite ! 1 (λ (u : List Names). ‵ (still R u b o c e)) (sym (take-set-le 16 γs j γ (omega arith))) refl $ move ! (1 ∷ 0 ∷ []) $ fjoin ! $ done !))))

  module _ (token : Ty → Ptr → Fml) where
    abbrev pub Put : Extent → List Names → ℕ → List Names × ℕ → Names → Pr
    Put x γs j z γ = ⟦ still R (set z.0 (j % 16) γ) (block_of x.at) (j / 16 * 8 + count_of x.at) (block_of x.rooms) z.1 ⟧ -∗ ⟦ laid R token x (set γs j γ) ⟧

    abbrev pub Taken : Extent → List Names → ℕ → List Names × ℕ → Pr
    Taken x γs j z = guard 𝓤 (IsIn R γs (count_of x.rooms) j z) (⟦ still R z.0 (block_of x.at) (j / 16 * 8 + count_of x.at) (block_of x.rooms) z.1 ⟧ ∗ all 𝓤 (Put x γs j z))

    -- what an offset into the rows may be
    abbrev pub Near : Extent → ℕ → Type 0
    Near x j = (j / 16 * 8 < 2 ^ 63) × (j * step R < 2 ^ 63)

    pub near_of : (x : Extent) (γs : List Names) (j : ℕ) → j < length γs → Lies R x (length γs) → Near x j
    near_of x γs j near so = (omega (arith, so.2, so.4), within R j (length γs + x.left) (omega arith) so.3)

    -- the word of the cell at an index of the rows, and the way back under another name of the cell
    pub laid_at : (x : Extent) (γs : List Names) (j : ℕ) → j < length γs → ⟦ laid R token x γs ⟧ ⊢ guard 𝓤 (Near x j) (ex 𝓤 (Taken x γs j))
    laid_at x γs j near = let b : ℕ = block_of x.at in let o : ℕ = count_of x.at in let c : ℕ = block_of x.rooms in let e : ℕ = count_of x.rooms in let k : ℕ = x.words in
        let Rest : ℕ → Fml = λ n. fsep (fsep (froom (ty_array (ty_int w64) x.more) b (k * 8 + o)) (froom (ty_array (bare (lone R.mir)) x.left) c (n * step R + e))) (fsep (token (words_ty (k + x.more)) x.at) (token (rooms_ty R (n + x.left)) x.rooms)) in
        qed 𝓛 (‵ (laid R token x γs) ∷ []) ∵ fsplit ! $ fpick ! (λ so. toss ! $ check ! (near_of x γs j near so) $ fsplit ! $
        use1 𝓛 (some (λ (z : List Names × ℕ). given (IsIn R γs e j z) (‵ (still R z.0 b (j / 16 * 8 + o) c z.1) ⊛ Kit.raw (all 𝓤 (Back k γs b o c e j z))))) (along_at k γs b o c e j near so.4) $
        pick ! (λ z. learn ! (λ is. split ! $ show ! (Taken x γs j) z $ check ! is $ frame ! $ each ! (Put x γs j z) (λ γ. let same : length γs ≡ length (set γs j γ) = sym (length-set γs j γ) in
        assume ! (‵ (still R (set z.0 (j % 16) γ) b (j / 16 * 8 + o) c z.1)) $ move ! (1 ∷ []) $ use1 𝓛 (Kit.raw (Back k γs b o c e j z γ)) (all_e 𝓤 (Back k γs b o c e j z) γ) $ move ! (1 ∷ 0 ∷ []) $
        use2 𝓛 (‵ (along R k (set γs j γ) b o c e)) (apply∗ 𝓤 ⟦ still R (set z.0 (j % 16) γ) b (j / 16 * 8 + o) c z.1 ⟧ ⟦ along R k (set γs j γ) b o c e ⟧) $
        rewrite ! 1 (λ (n : ℕ). ‵ (Rest n)) same refl $ fjoin ! $ nothing ! $ fpack ! (Lies R x (length (set γs j γ))) (λ _. ftrue) (subst (Lies R x) same so) $ fjoin ! $ done !))))

  abbrev pub Rested : List Names → ℕ → ℕ → (ℕ → Rest R.Denot) → ℕ → Names × Rest R.Denot → Pr
  Rested γs c e s i v = ⟦ lying R c (room_at R e i) v.0 v.1 ⟧ -∗ ⟦ rests R (set γs i v.0) c e (put i v.1 s) ⟧

  -- a cell of a word, and the way back
  pub rests_at : (γs : List Names) (c e : ℕ) (s : ℕ → Rest R.Denot) (i : ℕ) → i < length γs
      → ⟦ rests R γs c e s ⟧ ⊢ ⟦ lying R c (room_at R e i) (cell_in γs i) (s i) ⟧ ∗ all 𝓤 (Rested γs c e s i)
  rests_at [] c e s i near = absurd (omega arith)
  rests_at (γ ∷ γs) c e s zero near = qed 𝓛 (‵ (rests R (γ ∷ γs) c e s) ∷ []) ∵ fsplit ! $ frame ! $ each ! (Rested (γ ∷ γs) c e s 0) (λ v. assume ! (‵ (lying R c e v.0 v.1)) $ fjoin ! $ done !)
  rests_at (γ ∷ γs) c e s (suc i) near = let σ : ℕ → Rest R.Denot = λ l. s (suc l) in let e' : ℕ = e + step R in let B : Names × Rest R.Denot → Pr = Rested γs c e' σ i in
      qed 𝓛 (‵ (rests R (γ ∷ γs) c e s) ∷ []) ∵ fsplit ! $ move ! (1 ∷ []) $ use1 𝓛 (‵ (lying R c (room_at R e' i) (cell_in γs i) (σ i)) ⊛ Kit.raw (all 𝓤 B)) (rests_at γs c e' σ i (omega arith)) $ split ! $ frame ! $
      each ! (Rested (γ ∷ γs) c e s (suc i)) (λ v. assume ! (‵ (lying R c (room_at R e' i) v.0 v.1)) $ move ! (1 ∷ []) $ use1 𝓛 (Kit.raw (B v)) (all_e 𝓤 B v) $ move ! (1 ∷ 0 ∷ []) $
      use2 𝓛 (‵ (rests R (set γs i v.0) c e' (put i v.1 σ))) (apply∗ 𝓤 ⟦ lying R c (room_at R e' i) v.0 v.1 ⟧ ⟦ rests R (set γs i v.0) c e' (put i v.1 σ) ⟧) $ move ! (1 ∷ 0 ∷ []) $ fjoin ! $ done !)

  -- a word whose field at an index is that of the cell that is put there
  pub closes_word : (γs : List Names) (b o c e : ℕ) (s : ℕ → Rest R.Denot) (i : ℕ) (γ : Names) (u : Rest R.Denot) (n : ℕ) → n ≡ pack γs (put i (state u.1) (λ l. state (s l).1))
      → ⟦ word b o n ⟧ ∗ ⟦ lying R c (room_at R e i) γ u ⟧ ∗ all 𝓤 (Rested γs c e s i) ⊢ ⟦ still R (set γs i γ) b o c e ⟧
  closes_word γs b o c e s i γ u n is = let B : Names × Rest R.Denot → Pr = Rested γs c e s i in let S : ℕ → Rest R.Denot = put i u s in
      let same : n ≡ pack (set γs i γ) (λ l. state (S l).1) = is ∙ pack_ap γs (put_of (λ (r : Rest R.Denot). state r.1) i u s) ∙ pack_alike γs (set γs i γ) (λ l. state (S l).1) (sym (length-set γs i γ)) in
      qed 𝓛 (‵ (word b o n) ∷ ‵ (lying R c (room_at R e i) γ u) ∷ Kit.raw (all 𝓤 B) ∷ []) ∵ move ! (2 ∷ []) $ use1 𝓛 (Kit.raw (B (γ, u))) (all_e 𝓤 B (γ, u)) $ move ! (2 ∷ 0 ∷ []) $
      use2 𝓛 (‵ (rests R (set γs i γ) c e S)) (apply∗ 𝓤 ⟦ lying R c (room_at R e i) γ u ⟧ ⟦ rests R (set γs i γ) c e S ⟧) $ rewrite ! 1 (λ (m : ℕ). ‵ (word b o m)) same refl $ move ! (1 ∷ 0 ∷ []) $ fjoin ! $
      fpack ! (ℕ → Rest R.Denot) (λ r. fsep (word b o (pack (set γs i γ) (λ l. state (r l).1))) (rests R (set γs i γ) c e r)) S $ done !

  -- what a `&` to the rows shows of the cell at an index
  slot_of : (γs : List Names) (b o c e : ℕ) (κ : Lft) (j : ℕ) → j < length γs → j < 16
      → ⟦ shared_at R (take 16 γs) b o c e κ ⟧ ⊢ ⟦ slot_owned R (cell_in γs j) κ (block_ptr b o) (block_ptr c (j * step R + e)) j ⟧
  slot_of γs b o c e κ j near low = let W : List Names = take 16 γs in let is = first_in R γs e j near low in let same : j % 16 ≡ j = omega arith in
      qed 𝓛 (‵ (shared_at R W b o c e κ) ∷ []) ∵ fpick ! (λ t. let z : Spot = (W, t, e) in nothing ! $
      fpack ! (IsAt R (cell_in γs j) j (j * step R + e) z) (λ _. ftrue) (subst (λ (i : ℕ). i < length W) same is.near, is.short, ap (cell_in W) (sym same) ∙ is.names, room_is R e j) $ fjoin ! $
      fpack ! Spot (λ y. fsep (fact (IsAt R (cell_in γs j) j (j * step R + e) y)) (kept R y.0 y.1 b o c y.2 κ)) z $ done !)

  pub cell_shown : (k : ℕ) (γs : List Names) (b o c e : ℕ) (κ : Lft) (j : ℕ) → j < length γs → length γs ≤ k * 16
      → ⟦ along_lent R k γs b o c e κ ⟧ ⊢ ⟦ slot_owned R (cell_in γs j) κ (block_ptr b (j / 16 * 8 + o)) (block_ptr c (j * step R + e)) (j % 16) ⟧
  cell_shown zero γs b o c e κ j near few = absurd (omega arith)
  cell_shown (suc k) γs b o c e κ j near few = dite (dec_lt j 16)
      (λ low. let same : j % 16 ≡ j = omega arith in let here : j / 16 * 8 + o ≡ o = omega arith in
      qed 𝓛 (‵ (along_lent R (suc k) γs b o c e κ) ∷ []) ∵ fsplit ! $ keep ! (0 ∷ []) $ use1 𝓛 (‵ (slot_owned R (cell_in γs j) κ (block_ptr b o) (block_ptr c (j * step R + e)) j)) (slot_of γs b o c e κ j near low) $
      rewrite ! 0 (λ (u : ℕ × ℕ). ‵ (slot_owned R (cell_in γs j) κ (block_ptr b u.0) (block_ptr c (j * step R + e)) u.1)) (λ i. (sym here i, sym same i)) refl $ done !)
      (λ high. let i : ℕ = j - 16 in let is : j ≡ 16 + i = omega arith in let m = length-drop 16 γs in let o' : ℕ = o + 8 in let e' : ℕ = e + 16 * step R in let Ws : List Names = drop 16 γs in
      let far = add-mul 16 i (step R) in let there : i / 16 * 8 + o' ≡ j / 16 * 8 + o = omega arith in let same : i % 16 ≡ j % 16 = omega arith in
      let names : cell_in Ws i ≡ cell_in γs j = get_or-drop 16 γs i (record { value_name = 0; broken_name = 0; epoch = []; tied = None }) ∙ ap (cell_in γs) (sym is) in
      let room : i * step R + e' ≡ j * step R + e = omega (arith, far, ap (λ (l : ℕ). l * step R) is) in
      qed 𝓛 (‵ (along_lent R (suc k) γs b o c e κ) ∷ []) ∵ fsplit ! $ keep ! (1 ∷ []) $
      use1 𝓛 (‵ (slot_owned R (cell_in Ws i) κ (block_ptr b (i / 16 * 8 + o')) (block_ptr c (i * step R + e')) (i % 16))) (cell_shown k Ws b o' c e' κ i (omega (arith, m)) (omega (arith, m))) $
      rewrite ! 0 (λ (u : Names × (ℕ × (ℕ × ℕ))). ‵ (slot_owned R u.0 κ (block_ptr b u.1.0) (block_ptr c u.1.1.0) u.1.1.1)) (λ l. (names l, (there l, (room l, same l)))) refl $ done !)

  -- the room of a value
  abbrev τ : Ty
  τ = bare (lone R.mir)

  τ_size : size τ ≡ step R
  τ_size = size-raw (lone R.mir)

  -- n rooms that lie side by side
  abbrev pub empties : ℕ → ℕ → ℕ → Fml
  empties zero c e = ftrue
  empties (suc n) c e = fsep (froom τ c e) (empties n c (e + step R))

  -- some are taken from the front of a row of room
  takes_rooms : (n left c e : ℕ) → n ≤ left → H.room (ty_array τ left) c e ⊢ ⟦ empties n c e ⟧ ∗ H.room (ty_array τ (left - n)) c (n * step R + e)
  takes_rooms zero left c e few = let z = zero-mul (step R) in let same : e ≡ 0 * step R + e = omega arith in
      qed 𝓛 (‵ (froom (ty_array τ left) c e) ∷ []) ∵ nothing ! $ rewrite ! 1 (λ (u : ℕ × ℕ). ‵ (froom (ty_array τ u.0) c u.1)) (λ i. ((let r : left ≡ left - 0 = omega arith in r) i, same i)) refl $ done !
  takes_rooms (suc n) zero c e few = absurd (omega arith)
  takes_rooms (suc n) (suc left) c e few = let m = suc-mul n (step R) in let e' : ℕ = e + step R in
      qed 𝓛 (‵ (froom (ty_array τ (suc left)) c e) ∷ []) ∵ use1 𝓛 (‵ (froom τ c e) ⊛ ‵ (froom (ty_array τ left) c (e + size τ))) (𝓛.laws.room_uncons τ left c e) $ split ! $ move ! (1 ∷ []) $
      rewrite ! 0 (λ (i : ℕ). ‵ (froom (ty_array τ left) c (e + i))) τ_size refl $
      use1 𝓛 (‵ (empties n c e') ⊛ ‵ (froom (ty_array τ (left - n)) c (n * step R + e'))) (takes_rooms n left c e' (omega arith)) $ split ! $ move ! (2 ∷ 0 ∷ []) $ fjoin ! $ frame ! $
      rewrite ! 0 (λ (u : ℕ × ℕ). ‵ (froom (ty_array τ u.0) c u.1)) (λ i. ((let r : left - n ≡ suc left - suc n = omega arith in r) i, (let r : n * step R + e' ≡ suc n * step R + e = omega arith in r) i)) refl $ done !

  abbrev Laying : List (Option Tie) → ℕ → ℕ → List Names → Pr
  Laying τs c e ns = guard 𝓤 ((length ns ≡ length τs) × AreTied τs ns) ⟦ rests R ns c e (λ _. (None, free)) ⟧

  -- cells without a value get names, an epoch that has ended, and the ties that are given
  pub lays : (τs : List (Option Tie)) (c e : ℕ) → ⟦ empties (length τs) c e ⟧ ∗ ⟦ seats τs ⟧ ⊢ H.⇛ (ex 𝓤 (Laying τs c e))
  lays [] c e = qed 𝓛 (‵ ftrue ∷ ‵ ftrue ∷ []) ∵ updating ! $ toss ! $ now ! $ show ! (Laying [] c e) [] $ check ! (refl, tt) $ done !
  lays (u ∷ τs) c e = let e' : ℕ = e + step R in
      qed 𝓛 (‵ (empties (length (u ∷ τs)) c e) ∷ ‵ (seats (u ∷ τs)) ∷ []) ∵ updating ! $ fsplit ! $ move ! (2 ∷ []) $ fsplit ! $ move ! (3 ∷ 1 ∷ []) $
      use2 𝓛 (later (some (λ (ns : List Names). given ((length ns ≡ length τs) × AreTied τs ns) (‵ (rests R ns c e' (λ _. (None, free))))))) (lays τs c e') $ await ! tt $ pick ! (λ ns. learn ! (λ long.
      name_new ! tt gnil (λ γv. name_new ! tt gnil (λ γb. lft_new ! tt (λ ν. lft_end ! tt $ let γ : Names = record { value_name = γv; broken_name = γb; epoch = ν ∷ []; tied = u } in now ! $
      -- [the epoch has ended; the right to break; its name; the right to fill; its name; the others; the seat; the room]
      move ! (1 ∷ 2 ∷ []) $ fjoin ! $ fpack ! Bool (broken_once γb) false $ move ! (3 ∷ 0 ∷ []) $ fjoin ! $ move ! (1 ∷ 2 ∷ []) $ fjoin ! $ move ! (0 ∷ 3 ∷ []) $ fjoin ! $ move ! (1 ∷ 0 ∷ []) $ fjoin ! $ nothing ! $ fpack ! (Rattle.cell_core.specs.Slot.Lies R None free) (λ _. ftrue) refl $ move ! (1 ∷ 0 ∷ []) $ fjoin ! $
      -- [what rests; the others; the room]
      move ! (2 ∷ 0 ∷ []) $ fjoin ! $ fjoin ! $ show ! (Laying (u ∷ τs) c e) (γ ∷ ns) $ check ! (ap suc long.0, (refl, long.1)) $ done !)))))

  -- the seats of the first cells, and of the others
  pub seats_split : (n : ℕ) (τs : List (Option Tie)) → ⟦ seats τs ⟧ ⊢ ⟦ seats (take n τs) ⟧ ∗ ⟦ seats (drop n τs) ⟧
  seats_split zero τs = qed 𝓛 (‵ (seats τs) ∷ []) ∵ nothing ! $ done !
  seats_split (suc n) [] = qed 𝓛 (‵ ftrue ∷ []) ∵ nothing ! $ done !
  seats_split (suc n) (u ∷ τs) = qed 𝓛 (‵ (seats (u ∷ τs)) ∷ []) ∵ fsplit ! $ move ! (1 ∷ []) $ use1 𝓛 (‵ (seats (take n τs)) ⊛ ‵ (seats (drop n τs))) (seats_split n τs) $ split ! $ move ! (2 ∷ 0 ∷ []) $ fjoin ! $ done !

  -- no ties
  abbrev pub nones : ℕ → List (Option Tie)
  nones zero = []
  nones (suc n) = None ∷ nones n

  nones_length : (n : ℕ) → length (nones n) ≡ n
  nones_length zero = refl
  nones_length (suc n) = ap suc (nones_length n)

  no_seats : (n : ℕ) → emp 𝓤 ⊢ ⟦ seats (nones n) ⟧
  no_seats zero = id⊢ 𝓤 _
  no_seats (suc n) = qed 𝓛 [] ∵ use0 𝓛 (‵ (seats (nones n))) (no_seats n) $ nothing ! $ fjoin ! $ done !

  are_plain : (n : ℕ) (ns : List Names) → AreTied (nones n) ns → ArePlain ns
  are_plain zero [] at = tt
  are_plain zero (γ ∷ ns) at = absurd at
  are_plain (suc n) [] at = absurd at
  are_plain (suc n) (γ ∷ ns) at = (at.0, are_plain n ns at.1)

  abbrev LayingPlain : ℕ → ℕ → ℕ → List Names → Pr
  LayingPlain n c e ns = guard 𝓤 ((length ns ≡ n) × ArePlain ns) ⟦ rests R ns c e (λ _. (None, free)) ⟧

  pub lays_plain : (n c e : ℕ) → ⟦ empties n c e ⟧ ⊢ H.⇛ (ex 𝓤 (LayingPlain n c e))
  lays_plain n c e = let τs : List (Option Tie) = nones n in qed 𝓛 (‵ (empties n c e) ∷ []) ∵ updating ! $ rewrite ! 0 (λ (m : ℕ). ‵ (empties m c e)) (sym (nones_length n)) refl $ use0 𝓛 (‵ (seats τs)) (no_seats n) $ move ! (1 ∷ 0 ∷ []) $
      use2 𝓛 (later (some (λ (ns : List Names). given ((length ns ≡ length τs) × AreTied τs ns) (‵ (rests R ns c e (λ _. (None, free))))))) (lays τs c e) $ await ! tt $ pick ! (λ ns. learn ! (λ so. now ! $
      show ! (LayingPlain n c e) ns $ check ! (so.0 ∙ nones_length n, are_plain n ns so.1) $ done !))

  -- a word of new cells
  pub laid_word : (ns : List Names) (b o c e : ℕ) → ⟦ word b o 0 ⟧ ∗ ⟦ rests R ns c e (λ _. (None, free)) ⟧ ⊢ ⟦ still R ns b o c e ⟧
  laid_word ns b o c e = let s : ℕ → Rest R.Denot = λ _. (None, free) in qed 𝓛 (‵ (word b o 0) ∷ ‵ (rests R ns c e s) ∷ []) ∵ rewrite ! 0 (λ (n : ℕ). ‵ (word b o n)) (sym (packed_none ns)) refl $ fjoin ! $
      fpack ! (ℕ → Rest R.Denot) (λ z. fsep (word b o (pack ns (λ l. state (z l).1))) (rests R ns c e z)) s $ done !

  -- a word put after the others, which are whole
  along_more : (k : ℕ) (γs ns : List Names) (b o c e : ℕ) → length γs ≡ k * 16 → length ns ≤ 16
      → ⟦ along R k γs b o c e ⟧ ∗ ⟦ still R ns b (k * 8 + o) c (length γs * step R + e) ⟧ ⊢ ⟦ along R (suc k) (γs ++ ns) b o c e ⟧
  along_more zero [] ns b o c e long short = let z = zero-mul (step R) in
      qed 𝓛 (‵ ftrue ∷ ‵ (still R ns b (0 * 8 + o) c (0 * step R + e)) ∷ []) ∵ rewrite ! 1 (λ (u : List Names × (ℕ × ℕ)). ‵ (still R u.0 b u.1.0 c u.1.1)) (λ i. (sym (take_all 16 ns short) i, ((let r : 0 * 8 + o ≡ o = omega arith in r) i, (let r : 0 * step R + e ≡ e = omega arith in r) i))) refl $ move ! (1 ∷ 0 ∷ []) $ fjoin ! $ done !
  along_more zero (γ ∷ γs) ns b o c e long short = absurd (omega arith)
  along_more (suc k) γs ns b o c e long short = let n : ℕ = length γs in let o' : ℕ = o + 8 in let e' : ℕ = e + 16 * step R in let Ws : List Names = drop 16 γs in let m = length-drop 16 γs in let few : 16 ≤ n = omega arith in
      let len : length Ws ≡ k * 16 = omega (arith, m) in let split16 = ap (λ (z : ℕ). z * step R) (let r : n ≡ length Ws + 16 = omega (arith, m) in r) ∙ add-mul (length Ws) 16 (step R) in
      qed 𝓛 (‵ (along R (suc k) γs b o c e) ∷ ‵ (still R ns b (suc k * 8 + o) c (n * step R + e)) ∷ []) ∵ fsplit ! $ move ! (1 ∷ 2 ∷ []) $
      rewrite ! 1 (λ (u : ℕ × ℕ). ‵ (still R ns b u.0 c u.1)) (λ i. ((let r : suc k * 8 + o ≡ k * 8 + o' = omega arith in r) i, (let r : n * step R + e ≡ length Ws * step R + e' = omega (arith, split16) in r) i)) refl $
      use2 𝓛 (‵ (along R (suc k) (Ws ++ ns) b o' c e')) (along_more k Ws ns b o' c e' len short) $
      rewrite ! 0 (λ (u : List Names). ‵ (along R (suc k) u b o' c e')) (sym (drop-append-le 16 γs ns few)) refl $ rewrite ! 1 (λ (u : List Names). ‵ (still R u b o c e)) (sym (take-append-le 16 γs ns few)) refl $ move ! (1 ∷ 0 ∷ []) $ fjoin ! $ done !

  module _ (token : Ty → Ptr → Fml) where
    -- one word more, of n cells
    abbrev pub longer : Extent → ℕ → Extent
    longer x n = record { at = x.at; rooms = x.rooms; words = x.words + 1; more = x.more - 1; left = x.left - n }

    abbrev pub Longer : Extent → List Names → (n : ℕ) → (ns : List Names) × (length ns ≡ n) → Pr
    Longer x γs n z = ⟦ still R z.0 (block_of x.at) (x.words * 8 + count_of x.at) (block_of x.rooms) (length γs * step R + count_of x.rooms) ⟧ -∗ ⟦ laid R token (longer x n) (γs ++ z.0) ⟧

    -- room for a further word, and for its cells
    pub next_word : (x : Extent) (γs : List Names) (n : ℕ) → length γs ≡ x.words * 16 → 0 < x.more → n ≤ 16 → n ≤ x.left
        → ⟦ laid R token x γs ⟧ ⊢ guard 𝓤 (x.words * 8 < 2 ^ 63) (⟦ froom (ty_int w64) (block_of x.at) (x.words * 8 + count_of x.at) ⟧ ∗ ⟦ empties n (block_of x.rooms) (length γs * step R + count_of x.rooms) ⟧ ∗ all 𝓤 (Longer x γs n))
    next_word x γs n long some_more short few = let b : ℕ = block_of x.at in let o : ℕ = count_of x.at in let c : ℕ = block_of x.rooms in let e : ℕ = count_of x.rooms in let k : ℕ = x.words in let m : ℕ = x.more - 1 in let l : ℕ = length γs in let e' : ℕ = l * step R + e in
        let is : x.more ≡ suc m = omega arith in
        qed 𝓛 (‵ (laid R token x γs) ∷ []) ∵ fsplit3 ! $ fpick ! (λ so. toss ! $ check ! (omega (arith, so.2)) $ move ! (1 ∷ []) $ fsplit ! $ fsplit ! $
        rewrite ! 0 (λ (i : ℕ). ‵ (froom (ty_array (ty_int w64) i) b (k * 8 + o))) is refl $ use1 𝓛 (‵ (froom (ty_int w64) b (k * 8 + o)) ⊛ ‵ (froom (ty_array (ty_int w64) m) b (k * 8 + o + 8))) (𝓛.laws.room_uncons (ty_int w64) m b (k * 8 + o)) $ split ! $ frame ! $
        move ! (1 ∷ []) $ use1 𝓛 (‵ (empties n c e') ⊛ ‵ (froom (ty_array τ (x.left - n)) c (n * step R + e'))) (takes_rooms n x.left c e' few) $ split ! $ frame ! $
        each ! (Longer x γs n) (λ z. let ns : List Names = z.0 in let all_of : length (γs ++ ns) ≡ l + n = length-append γs ns ∙ ap (λ (i : ℕ). l + i) z.1 in let far = ap (λ (i : ℕ). i * step R) all_of ∙ add-mul l n (step R) in
        assume ! (‵ (still R ns b (k * 8 + o) c e')) $ move ! (4 ∷ 0 ∷ []) $ use2 𝓛 (‵ (along R (suc k) (γs ++ ns) b o c e)) (along_more k γs ns b o c e long (omega (arith, z.1))) $
        -- [the cells; the room left; the words left; the rights]
        let y : Extent = longer x n in let next : suc k ≡ k + 1 = omega arith in let N : ℕ = length (γs ++ ns) in
        rewrite ! 0 (λ (i : ℕ). ‵ (along R i (γs ++ ns) b o c e)) next refl $ rewrite ! 1 (λ (i : ℕ). ‵ (froom (ty_array τ (x.left - n)) c i)) (let r : n * step R + e' ≡ N * step R + e = omega (arith, far) in r) refl $
        rewrite ! 2 (λ (i : ℕ). ‵ (froom (ty_array (ty_int w64) m) b i)) (let r : k * 8 + o + 8 ≡ (k + 1) * 8 + o = omega arith in r) refl $
        rewrite ! 3 (λ (u : ℕ × ℕ). ‵ (fsep (token (words_ty u.0) x.at) (token (rooms_ty R u.1) x.rooms))) (λ i. ((let r : k + x.more ≡ k + 1 + m = omega arith in r) i, (let r : l + x.left ≡ N + (x.left - n) = omega (arith, all_of) in r) i)) refl $
        move ! (2 ∷ 1 ∷ []) $ fjoin ! $ move ! (1 ∷ 0 ∷ 2 ∷ []) $ fjoin3 ! $ nothing ! $
        fpack ! (Lies R y N) (λ _. ftrue) (so.0, so.1, omega (arith, so.2), subst (λ (i : ℕ). i * step R < 2 ^ 63) (let r : l + x.left ≡ N + (x.left - n) = omega (arith, all_of) in r) so.3, omega (arith, so.4, all_of)) $ fjoin ! $ done !))

    -- two rows of room are rows without a cell
    pub fresh : (p q : Ptr) (k n : ℕ) → ⟦ rooms_owned u64 token p k ⟧ ∗ ⟦ rooms_owned R token q n ⟧ ⊢ ⟦ laid R token (record { at = p; rooms = q; words = 0; more = k; left = n }) [] ⟧
    fresh p q k n = let x : Extent = record { at = p; rooms = q; words = 0; more = k; left = n } in let z = zero-mul (step R) in let b : ℕ = block_of p in let o : ℕ = count_of p in let c : ℕ = block_of q in let e : ℕ = count_of q in
        qed 𝓛 (‵ (rooms_owned u64 token p k) ∷ ‵ (rooms_owned R token q n) ∷ []) ∵ fsplit3 ! $ fpick ! (λ so. toss ! $ move ! (2 ∷ []) $ fsplit3 ! $ fpick ! (λ also. toss ! $
        -- [the rooms; the right to free them; the words; the right to free them]
        rewrite ! 0 (λ (i : ℕ). ‵ (froom (ty_array τ n) c i)) (let r : e ≡ 0 * step R + e = omega arith in r) refl $ rewrite ! 2 (λ (i : ℕ). ‵ (froom (ty_array (ty_int w64) k) b i)) (let r : o ≡ 0 * 8 + o = omega arith in r) refl $
        rewrite ! 1 (λ (i : ℕ). ‵ (token (rooms_ty R i) q)) (let r : n ≡ 0 + n = omega arith in r) refl $ rewrite ! 3 (λ (i : ℕ). ‵ (token (words_ty i) p)) (let r : k ≡ 0 + k = omega arith in r) refl $
        move ! (3 ∷ 1 ∷ []) $ fjoin ! $ move ! (2 ∷ 1 ∷ []) $ fjoin ! $ nothing ! $ move ! (0 ∷ 1 ∷ 2 ∷ []) $ fjoin3 ! $ nothing ! $
        fpack ! (Lies R x 0) (λ _. ftrue) (so.0, also.0, omega (arith, so.1), subst (λ (i : ℕ). i * step R < 2 ^ 63) (let r : n ≡ 0 + n = omega arith in r) also.1, omega arith) $ fjoin ! $ done !))

    -- a borrow of each word makes a `&` to its cells
    lends_along : (L : Laws R) (l : Lft) → Incl l R.lives → (k : ℕ) (γs : List Names) (b o c e : ℕ) → Lends 𝓛 (along R k γs b o c e) (along_lent R k γs b o c e) l
    lends_along L l inc zero γs b o c e = Lends-nothing 𝓛 ftrue l
    lends_along L l inc (suc k) γs b o c e = let W : List Names = take 16 γs in let Ws : List Names = drop 16 γs in let o' : ℕ = o + 8 in let e' : ℕ = e + 16 * step R in
        Lends-both 𝓛 (still R W b o c e) (along R k Ws b o' c e') (shared_at R W b o c e) (along_lent R k Ws b o' c e') l (lends_word R L W 𝓛 b o c e l inc) (lends_along L l inc k Ws b o' c e')

    -- a borrow of the rows makes a `&` to them
    pub lends_laid : (L : Laws R) (l : Lft) → Incl l R.lives → (x : Extent) (γs : List Names) → Lends 𝓛 (laid R token x γs) (laid_lent R x γs) l
    lends_laid L l inc x γs = let b : ℕ = block_of x.at in let o : ℕ = count_of x.at in let c : ℕ = block_of x.rooms in let e : ℕ = count_of x.rooms in let k : ℕ = x.words in let n : ℕ = length γs in let F : Fml = fact (Lies R x n) in let Cells : Fml = along R k γs b o c e in
        let Rest : Fml = fsep (fsep (froom (ty_array (ty_int w64) x.more) b (k * 8 + o)) (froom (ty_array τ x.left) c (n * step R + e))) (fsep (token (words_ty (k + x.more)) x.at) (token (rooms_ty R (n + x.left)) x.rooms)) in
        Lends-both 𝓛 F (fsep Cells Rest) (said F) (along_lent R k γs b o c e) l (Lends-said 𝓛 F (λ _. tt) l) (Lends-first 𝓛 Cells Rest (along_lent R k γs b o c e) l (lends_along L l inc k γs b o c e))

module _ (T : RattleType) (L : Laws T) {M : Type 1} {𝓤 : Ura M} (𝓛 : Logic 𝓤) (token : Ty → Ptr → Fml) where
  open 𝓛 use {H}

  abbrev R : RattleType
  R = param 0 T

  abbrev υ : Ty
  υ = bare (layout T)

  -- the rooms of some cells are room, whatever they hold
  vacates : (γs : List Names) (c e : ℕ) (s : ℕ → Rest R.Denot) → ent 𝓤 (sem 𝓛 (rests R γs c e s)) (sem 𝓛 (empties 𝓛 R (length γs) c e))
  vacates [] c e s = id⊢ 𝓤 _
  vacates (γ ∷ γs) c e s = let N : Fml = empties 𝓛 R (length γs) c (e + step R) in qed 𝓛 (‵ (rests R (γ ∷ γs) c e s) ∷ []) ∵ fsplit ! $ fsplit ! $ use1 𝓛 (‵ (froom υ c e)) (emptied T L 𝓛 c e (s 0).0) $
      move ! (2 ∷ []) $ use1 𝓛 (‵ N) (vacates γs c (e + step R) (λ i. s (suc i))) $ move ! (1 ∷ 0 ∷ []) $ fjoin ! $ keep ! (0 ∷ []) $ done !

  -- rooms that lie side by side before others are a row of room
  gathers_rooms : (n m c e : ℕ) → ent 𝓤 (sep 𝓤 (sem 𝓛 (empties 𝓛 R n c e)) (H.room (ty_array υ m) c (n * step R + e))) (H.room (ty_array υ (n + m)) c e)
  gathers_rooms zero m c e = let z = zero-mul (step R) in qed 𝓛 (‵ ftrue ∷ ‵ (froom (ty_array υ m) c (0 * step R + e)) ∷ []) ∵ toss ! $
      rewrite ! 0 (λ (u : ℕ × ℕ). ‵ (froom (ty_array υ u.0) c u.1)) (λ i. ((let r : m ≡ 0 + m = omega arith in r) i, (let r : 0 * step R + e ≡ e = omega arith in r) i)) refl $ done !
  gathers_rooms (suc n) m c e = let s = suc-mul n (step R) in let e' : ℕ = e + step R in qed 𝓛 (‵ (empties 𝓛 R (suc n) c e) ∷ ‵ (froom (ty_array υ m) c (suc n * step R + e)) ∷ []) ∵ fsplit ! $
      move ! (1 ∷ 2 ∷ []) $ rewrite ! 1 (λ (i : ℕ). ‵ (froom (ty_array υ m) c i)) (let r : suc n * step R + e ≡ n * step R + e' = omega arith in r) refl $ use2 𝓛 (‵ (froom (ty_array υ (n + m)) c e')) (gathers_rooms n m c e') $
      rewrite ! 0 (λ (i : ℕ). ‵ (froom (ty_array υ (n + m)) c (e + i))) (sym (size-raw (layout T))) refl $ move ! (1 ∷ 0 ∷ []) $
      use2 𝓛 (‵ (froom (ty_array υ (suc (n + m))) c e)) (𝓛.laws.room_cons υ (n + m) c e) $ rewrite ! 0 (λ (i : ℕ). ‵ (froom (ty_array υ i) c e)) (let r : suc (n + m) ≡ suc n + m = omega arith in r) refl $ done !

  -- a word and its rooms are room
  clears_word : (γs : List Names) (b o c e : ℕ) → ent 𝓤 (sem 𝓛 (still R γs b o c e)) (sep 𝓤 (H.room (ty_int w64) b o) (sem 𝓛 (empties 𝓛 R (length γs) c e)))
  clears_word γs b o c e = qed 𝓛 (‵ (still R γs b o c e) ∷ []) ∵ fpick ! (λ s. fsplit ! $ use1 𝓛 (‵ (froom (ty_int w64) b o)) (𝓛.laws.at_room (ty_int w64) b o (vint w64 (pack γs (λ l. state (s l).1)))) $
      frame ! $ by ! (vacates γs c e s))

  joins_rooms : (n m c e : ℕ) → ent 𝓤 (sep 𝓤 (sem 𝓛 (empties 𝓛 R n c e)) (sem 𝓛 (empties 𝓛 R m c (n * step R + e)))) (sem 𝓛 (empties 𝓛 R (n + m) c e))
  joins_rooms zero m c e = let z = zero-mul (step R) in qed 𝓛 (‵ ftrue ∷ ‵ (empties 𝓛 R m c (0 * step R + e)) ∷ []) ∵ toss ! $
      rewrite ! 0 (λ (u : ℕ × ℕ). ‵ (empties 𝓛 R u.0 c u.1)) (λ i. ((let r : m ≡ 0 + m = omega arith in r) i, (let r : 0 * step R + e ≡ e = omega arith in r) i)) refl $ done !
  joins_rooms (suc n) m c e = let s = suc-mul n (step R) in let e' : ℕ = e + step R in qed 𝓛 (‵ (empties 𝓛 R (suc n) c e) ∷ ‵ (empties 𝓛 R m c (suc n * step R + e)) ∷ []) ∵ fsplit ! $
      move ! (1 ∷ 2 ∷ []) $ rewrite ! 1 (λ (i : ℕ). ‵ (empties 𝓛 R m c i)) (let r : suc n * step R + e ≡ n * step R + e' = omega arith in r) refl $ use2 𝓛 (‵ (empties 𝓛 R (n + m) c e')) (joins_rooms n m c e') $
      move ! (1 ∷ 0 ∷ []) $ fjoin ! $ rewrite ! 0 (λ (i : ℕ). ‵ (empties 𝓛 R i c e)) (let r : suc (n + m) ≡ suc n + m = omega arith in r) refl $ done !

  -- the rooms of the first word's cells, and those of the others
  joins_words : (γs : List Names) (c e : ℕ)
      → ent 𝓤 (sep 𝓤 (sem 𝓛 (empties 𝓛 R (length (take 16 γs)) c e)) (sem 𝓛 (empties 𝓛 R (length (drop 16 γs)) c (e + 16 * step R)))) (sem 𝓛 (empties 𝓛 R (length γs) c e))
  joins_words γs c e = let n : ℕ = length (take 16 γs) in let m : ℕ = length (drop 16 γs) in let ln = length-take 16 γs in let lm = length-drop 16 γs in
      qed 𝓛 (‵ (empties 𝓛 R n c e) ∷ ‵ (empties 𝓛 R m c (e + 16 * step R)) ∷ []) ∵ dite (dec_lt (length γs) 16)
      (λ few. let none : m ≡ 0 = omega (arith, lm) in let all_of : n ≡ length γs = omega (arith, ln) in rewrite ! 1 (λ (i : ℕ). ‵ (empties 𝓛 R i c (e + 16 * step R))) none refl $ rewrite ! 0 (λ (i : ℕ). ‵ (empties 𝓛 R i c e)) all_of refl $ keep ! (0 ∷ []) $ done !)
      (λ many. let whole : n ≡ 16 = omega (arith, ln) in let far = ap (λ (i : ℕ). i * step R) whole in
      rewrite ! 1 (λ (i : ℕ). ‵ (empties 𝓛 R m c i)) (let r : e + 16 * step R ≡ n * step R + e = omega (arith, far) in r) refl $ use2 𝓛 (‵ (empties 𝓛 R (n + m) c e)) (joins_rooms n m c e) $
      rewrite ! 0 (λ (i : ℕ). ‵ (empties 𝓛 R i c e)) (let r : n + m ≡ length γs = omega (arith, ln, lm) in r) refl $ done !)

  -- words and their rooms, before room for more words, are room
  clears : (k : ℕ) (γs : List Names) (m b o c e : ℕ) → length γs ≤ k * 16
      → ent 𝓤 (sep 𝓤 (sem 𝓛 (along R k γs b o c e)) (H.room (ty_array (ty_int w64) m) b (k * 8 + o))) (sep 𝓤 (H.room (ty_array (ty_int w64) (k + m)) b o) (sem 𝓛 (empties 𝓛 R (length γs) c e)))
  clears zero [] m b o c e few = qed 𝓛 (‵ ftrue ∷ ‵ (froom (ty_array (ty_int w64) m) b (0 * 8 + o)) ∷ []) ∵
      rewrite ! 1 (λ (u : ℕ × ℕ). ‵ (froom (ty_array (ty_int w64) u.0) b u.1)) (λ i. ((let r : m ≡ 0 + m = omega arith in r) i, (let r : 0 * 8 + o ≡ o = omega arith in r) i)) refl $ move ! (1 ∷ 0 ∷ []) $ done !
  clears zero (γ ∷ γs) m b o c e few = absurd (omega arith)
  clears (suc k) γs m b o c e few = let W : List Names = take 16 γs in let Ws : List Names = drop 16 γs in let lm = length-drop 16 γs in let o' : ℕ = o + 8 in let e' : ℕ = e + 16 * step R in
      qed 𝓛 (‵ (along R (suc k) γs b o c e) ∷ ‵ (froom (ty_array (ty_int w64) m) b (suc k * 8 + o)) ∷ []) ∵ fsplit ! $ move ! (1 ∷ 2 ∷ []) $
      rewrite ! 1 (λ (i : ℕ). ‵ (froom (ty_array (ty_int w64) m) b i)) (let r : suc k * 8 + o ≡ k * 8 + o' = omega arith in r) refl $
      use2 𝓛 (‵ (froom (ty_array (ty_int w64) (k + m)) b o') ⊛ ‵ (empties 𝓛 R (length Ws) c e')) (clears k Ws m b o' c e' (omega (arith, lm))) $ split ! $ move ! (2 ∷ []) $
      use1 𝓛 (‵ (froom (ty_int w64) b o) ⊛ ‵ (empties 𝓛 R (length W) c e)) (clears_word W b o c e) $ split ! $
      -- [the word; its rooms; the other words; their rooms]
      move ! (0 ∷ 2 ∷ []) $ use2 𝓛 (‵ (froom (ty_array (ty_int w64) (suc (k + m))) b o)) (𝓛.laws.room_cons (ty_int w64) (k + m) b o) $ rewrite ! 0 (λ (i : ℕ). ‵ (froom (ty_array (ty_int w64) i) b o)) (let r : suc (k + m) ≡ suc k + m = omega arith in r) refl $ frame ! $
      by ! (joins_words γs c e)

  -- rows whose cells are given up are two rows of room
  pub forgotten : (x : Extent) (γs : List Names)
      → ent 𝓤 (sem 𝓛 (laid R token x γs)) (sep 𝓤 (sem 𝓛 (rooms_owned u64 token x.at (x.words + x.more))) (sem 𝓛 (rooms_owned R token x.rooms (length γs + x.left))))
  forgotten x γs = let b : ℕ = block_of x.at in let o : ℕ = count_of x.at in let c : ℕ = block_of x.rooms in let e : ℕ = count_of x.rooms in let k : ℕ = x.words in let n : ℕ = length γs in
      qed 𝓛 (‵ (laid R token x γs) ∷ []) ∵ fsplit3 ! $ fpick ! (λ so. toss ! $ move ! (1 ∷ []) $ fsplit ! $ fsplit ! $
      -- [the words left; the rooms left; the rights; the cells]
      move ! (3 ∷ 0 ∷ []) $ use2 𝓛 (‵ (froom (ty_array (ty_int w64) (k + x.more)) b o) ⊛ ‵ (empties 𝓛 R n c e)) (clears k γs x.more b o c e so.4) $ split ! $ move ! (1 ∷ 2 ∷ []) $
      use2 𝓛 (‵ (froom (ty_array υ (n + x.left)) c e)) (gathers_rooms n x.left c e) $
      -- [the rooms; the words; the rights]
      move ! (2 ∷ []) $ fsplit ! $ move ! (3 ∷ 0 ∷ []) $ fjoin ! $ nothing ! $ fpack ! (InBlock x.at × FitsMemory u64 (k + x.more)) (λ _. ftrue) (so.0, so.2) $ fjoin ! $ frame ! $
      move ! (1 ∷ 0 ∷ []) $ fjoin ! $ nothing ! $ fpack ! (InBlock x.rooms × FitsMemory R (n + x.left)) (λ _. ftrue) (so.1, so.3) $ fjoin ! $ done !)
