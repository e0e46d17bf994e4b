-- A `&` to some cells is made of a borrow of them: they take a turn. Assumes `Logic`.
use Rattle.std.proofs.Common.{◌≡◌, ℕ, zero, suc, ◌+◌, ◌<◌, ◌≤◌, arith, List, [], ◌∷◌, sym, subst}
use Rattle.std.specs.Prelude.{Option, Some, None}
use seplogic.Ra.Ura.{Ura}
use base.Fraction.{full_share}
use base.Share
use base.Logic.{SProp, ent, sep, ex, wand, emp, upd_i, apply∗, id⊢, wand_i, snd∗}
use base.Fml.{Lft, GName, Share, Incl, Fml, ftrue, fsep, fseps, fex, fwand, fupd, fdead, fauth, fobs, fres, fbor, flft, fnamed, Incl-refl, Incl-trans}
use base.Before.{before}
use ghost.Rules.{Toks, span, bors}
use types.Logic.{Logic, sem, lfts}
use types.Owned.{named_past}
use types.Kit.{Item, mean, ‵, raw, ◌⊛◌, some, given, learn, later, ◌$◌, ◌∵◌, !, qed, by, move, keep, drop, use0, use1, use2, use3, split, split3, join, fsplit, fsplit3, fjoin, fjoin3, fpick, fpack, pick, show, assume, suffices, await, updating, now, done}
use types.Tokens.{bor_open, obor_alter, name_new, name_agree, res_agree, res_dup, one_token}
use types.Na.{before-Incl}
use denote.RattleType.{RattleType}
use denote.Memory.{part_at, shared_of}
use denote.Steps.{nothing, heard}
use denote.Param.Laws.{Laws}
use denote.Struct.Lending.{Lends}
use contract.Monad as monad
use Rattle.core.proofs.cell.Borrows.{by_one}
use Rattle.cell_core.specs.Fields.{pack}
use Rattle.cell_core.specs.Slot.{Names, Phase, fact, floors, free, begun, busy, full, broken, broken_by_owner, state, Rest, Turn, step, content, Lies, word, named, inside, Room, tie, lent, cells, standing, Cells, kept, shared_at}
use Rattle.cell_core.specs.Laid.{rests, still}
use Rattle.cell_core.proofs.CellSteps.{pins}

-- a function with another value before the others
abbrev first_then : {A : Type 0} → A → (ℕ → A) → ℕ → A
first_then x f zero = x
first_then x f (suc i) = f i

module _ (T : RattleType) (L : Laws T) {M : Type 1} {𝓤 : Ura M} (𝓛 : Logic 𝓤) (c : ℕ) (κ : Lft) where
  open 𝓛 use {H, A}

  abbrev Pr : Type 2
  Pr = SProp 𝓤

  abbrev ◌⊢◌ : Pr → Pr → Type 1
  P ⊢ Q = ent 𝓤 P Q

  abbrev ◌∗◌ : Pr → Pr → Pr
  P ∗ Q = sep 𝓤 P Q

  abbrev ◌-∗◌ : Pr → Pr → Pr
  P -∗ Q = wand 𝓤 P Q

  abbrev ⟦◌⟧ : Fml → Pr
  ⟦ P ⟧ = sem 𝓛 P

  infix 26 ◌⊢◌
  infixr 35 ◌∗◌
  infixr 30 ◌-∗◌
  abbrev X : Type 0
  X = Option T.Denot

  abbrev S : Type 0
  S = Phase T.Denot

  abbrev code : X → base.Stored.Gv
  code = (content T).code

  module _ (γ : Names) (η : GName) (e : ℕ) where
    abbrev V : Fml
    V = Room T γ κ η c e

    abbrev Tie : S → Fml
    Tie = tie T γ κ η c e

    lies : (s : S) (v : X) → ⟦ Tie s ⟧ ∗ A.auth η (code v) ⊢ monad.fact 𝓤 (Lies T v s)
    lies free v = qed 𝓛 (‵ (fobs η (code None)) ∷ ‵ (fauth η (code v)) ∷ []) ∵ name_agree ! (content T) {x = None} {y = v} (λ z. by ! (monad.fact_i 𝓤 (v ≡ None) _ (sym z)))
    lies begun v = monad.fact_i 𝓤 (Unit {0}) _ tt
    lies busy v = monad.fact_i 𝓤 (Unit {0}) _ tt
    lies (full x) v = qed 𝓛 (‵ (fres η (code (Some x))) ∷ ‵ (fauth η (code v)) ∷ []) ∵ res_agree ! (content T) {x = Some x} {y = v} (λ z. by ! (monad.fact_i 𝓤 (v ≡ Some x) _ (sym z)))
    lies broken_by_owner v = qed 𝓛 (‵ (fobs η (code None)) ∷ ‵ (fauth η (code v)) ∷ []) ∵ name_agree ! (content T) {x = None} {y = v} (λ z. by ! (monad.fact_i 𝓤 (v ≡ None) _ (sym z)))
    lies broken v = qed 𝓛 (‵ (fobs η (code None)) ∷ ‵ (fauth η (code v)) ∷ []) ∵ name_agree ! (content T) {x = None} {y = v} (λ z. by ! (monad.fact_i 𝓤 (v ≡ None) _ (sym z)))

    ties : (s : S) (v : X) → Lies T v s → A.obs η (code v) ⊢ ⟦ Tie s ⟧
    ties free v so = subst (λ (u : X). A.obs η (code v) ⊢ A.obs η (code u)) so (id⊢ 𝓤 _)
    ties begun v so = qed 𝓛 (‵ (fobs η (code v)) ∷ []) ∵ drop ! $ done !
    ties busy v so = qed 𝓛 (‵ (fobs η (code v)) ∷ []) ∵ drop ! $ done !
    ties (full x) v so = subst (λ (u : X). A.obs η (code v) ⊢ A.res η (code u)) so (𝓛.names.obs-res η (code v))
    ties broken_by_owner v so = subst (λ (u : X). A.obs η (code v) ⊢ A.obs η (code u)) so (id⊢ 𝓤 _)
    ties broken v so = subst (λ (u : X). A.obs η (code v) ⊢ A.obs η (code u)) so (id⊢ 𝓤 _)

    lends : (ts : Toks) → Incl (span ts) T.lives → Incl (span ts) κ → (s : S)
        → ⟦ Tie s ⟧ ∗ A.bor κ V ∗ lfts 𝓛 ts ⊢ H.⇛ (⟦ Tie s ⟧ ∗ ⟦ lent T γ κ η c e s ⟧ ∗ lfts 𝓛 ts)
    lends ts inc sp free = 𝓛.laws.⇛_intro _
    lends ts inc sp broken_by_owner = 𝓛.laws.⇛_intro _
    lends ts inc sp broken = 𝓛.laws.⇛_intro _
    lends ts inc sp begun = qed 𝓛 (‵ ftrue ∷ ‵ (fbor κ V) ∷ raw (lfts 𝓛 ts) ∷ []) ∵ updating ! $ now ! $ nothing ! $ keep ! (0 ∷ 1 ∷ 3 ∷ []) $ done !
    lends ts inc sp busy = qed 𝓛 (‵ ftrue ∷ ‵ (fbor κ V) ∷ raw (lfts 𝓛 ts) ∷ []) ∵ updating ! $ now ! $ nothing ! $ keep ! (0 ∷ 1 ∷ 3 ∷ []) $ done !
    lends ts inc sp (full y) = let Q : Fml = part_at T full_share y c e in let k = code (Some y) in
        qed 𝓛 (‵ (fres η k) ∷ ‵ (fbor κ V) ∷ raw (lfts 𝓛 ts) ∷ []) ∵ updating ! $ res_dup ! $ move ! (0 ∷ 2 ∷ []) $ join ! $ move ! (0 ∷ 2 ∷ []) $
        use2 𝓛 (later (‵ (fbor κ Q) ⊛ raw (lfts 𝓛 ts))) (by_one 𝓛 κ ts sp (A.res η k ∗ A.bor κ V) (A.bor κ Q) (pins 𝓛 T γ κ η c e y)) $ await ! tt $
        use1 𝓛 (later (‵ (shared_of T y c e κ) ⊛ raw (lfts 𝓛 ts))) (L.shares 𝓛 y κ ts c e inc sp) $ await ! tt $ split ! $ now ! $ move ! (2 ∷ []) $ done !

  -- of each cell its names, and what is known of its room
  abbrev tieds : List Names → (ℕ → GName) → ℕ → (ℕ → S) → Fml
  tieds [] η e s = ftrue
  tieds (γ ∷ γs) η e s = fsep (fsep (named T γ (s 0)) (Tie γ (η 0) e (s 0))) (tieds γs (λ i. η (suc i)) (e + step T) (λ i. s (suc i)))

  -- each room, with what it holds passed to the turn
  abbrev rooms : List Names → (ℕ → GName) → ℕ → List Fml
  rooms [] η e = []
  rooms (γ ∷ γs) η e = V γ (η 0) e ∷ rooms γs (λ i. η (suc i)) (e + step T)

  abbrev Cut : List Names → ℕ → (ℕ → Rest T.Denot) → (ℕ → GName) → Pr
  Cut γs e s η = ⟦ tieds γs η e (λ i. (s i).1) ⟧ ∗ ⟦ fseps (rooms γs η e) ⟧

  -- what rests in the rooms is passed to names of a turn
  names_rooms : (γs : List Names) (e : ℕ) (s : ℕ → Rest T.Denot) → ⟦ rests T γs c e s ⟧ ⊢ H.⇛ (ex 𝓤 (Cut γs e s))
  unfolding fseps
  names_rooms [] e s = qed 𝓛 (‵ ftrue ∷ []) ∵ updating ! $ nothing ! $ now ! $ show ! (Cut [] e s) (λ _. 0) $ done !
  names_rooms (γ ∷ γs) e s = let σ : ℕ → Rest T.Denot = λ i. s (suc i) in let e' : ℕ = e + step T in let v : X = (s 0).0 in let p : S = (s 0).1 in
      qed 𝓛 (‵ (rests T (γ ∷ γs) c e s) ∷ []) ∵ updating ! $ fsplit ! $ move ! (1 ∷ []) $ use1 𝓛 (later (some (λ (η : ℕ → GName). ‵ (tieds γs η e' (λ i. (σ i).1)) ⊛ ‵ (fseps (rooms γs η e'))))) (names_rooms γs e' σ) $ await ! tt $ pick ! (λ η. split ! $ move ! (2 ∷ []) $
      fsplit ! $ move ! (1 ∷ []) $ fsplit ! $ move ! (1 ∷ []) $ fpick ! (λ so. drop ! $ name_new ! tt (code v) (λ η₀. use1 𝓛 (‵ (Tie γ η₀ e p)) (ties γ η₀ e p v so) $
      -- [the tie; the room's name; the cell's names; what lies there; the other ties; the other rooms]
      now ! $ move ! (2 ∷ 0 ∷ []) $ fjoin ! $ move ! (2 ∷ 1 ∷ []) $ fjoin ! $ fpack ! X (inside T γ κ η₀ c e) v $ move ! (1 ∷ 2 ∷ []) $ fjoin ! $ move ! (1 ∷ 2 ∷ []) $ fjoin ! $
      show ! (Cut (γ ∷ γs) e s) (first_then η₀ η) $ move ! (1 ∷ 0 ∷ []) $ done !)))

  abbrev Whole : List Names → ℕ → (ℕ → S) → (ℕ → X) → Pr
  Whole γs e s v = ⟦ rests T γs c e (λ i. (v i, s i)) ⟧

  -- the way back
  gives_back : (γs : List Names) (η : ℕ → GName) (e : ℕ) (s : ℕ → S) → ⟦ tieds γs η e s ⟧ ∗ ⟦ fseps (rooms γs η e) ⟧ ⊢ ex 𝓤 (Whole γs e s)
  unfolding fseps
  gives_back [] η e s = qed 𝓛 (‵ ftrue ∷ ‵ ftrue ∷ []) ∵ drop ! $ show ! (Whole [] e s) (λ _. None) $ done !
  gives_back (γ ∷ γs) η e s = let σ : ℕ → S = λ i. s (suc i) in let η' : ℕ → GName = λ i. η (suc i) in let e' : ℕ = e + step T in
      qed 𝓛 (‵ (tieds (γ ∷ γs) η e s) ∷ ‵ (fseps (rooms (γ ∷ γs) η e)) ∷ []) ∵ fsplit ! $ move ! (2 ∷ []) $ fsplit ! $ move ! (3 ∷ 1 ∷ []) $
      use2 𝓛 (some (λ (v : ℕ → X). ‵ (rests T γs c e' (λ i. (v i, σ i))))) (gives_back γs η' e' σ) $ pick ! (λ v. move ! (1 ∷ []) $ fpick ! (λ u. fsplit ! $ move ! (3 ∷ []) $ fsplit ! $
      -- [the names; the tie; what lies there; the room's name; the others]
      move ! (1 ∷ 3 ∷ []) $ use2 𝓛 (raw (monad.fact 𝓤 (Lies T u (s 0)))) (lies γ (η 0) e (s 0) u) $ heard ! (Lies T u (s 0)) (λ so.
      nothing ! $ fpack ! (Lies T u (s 0)) (λ _. ftrue) so $ move ! (1 ∷ 0 ∷ []) $ fjoin ! $ move ! (1 ∷ 0 ∷ []) $ fjoin ! $ fjoin ! $
      show ! (Whole (γ ∷ γs) e s) (first_then u v) $ done !)))

  -- each room is lent as its cell's phase has it
  lends_rooms : (ts : Toks) → Incl (span ts) T.lives → Incl (span ts) κ → (γs : List Names) (η : ℕ → GName) (e : ℕ) (s : ℕ → S)
      → ⟦ tieds γs η e s ⟧ ∗ bors 𝓤 H A κ (rooms γs η e) ∗ lfts 𝓛 ts ⊢ H.⇛ (⟦ cells T γs κ η c e s ⟧ ∗ lfts 𝓛 ts)
  lends_rooms ts inc sp [] η e s = qed 𝓛 (‵ ftrue ∷ raw (emp 𝓤) ∷ raw (lfts 𝓛 ts) ∷ []) ∵ updating ! $ now ! $ keep ! (0 ∷ 2 ∷ []) $ done !
  lends_rooms ts inc sp (γ ∷ γs) η e s = let σ : ℕ → S = λ i. s (suc i) in let η' : ℕ → GName = λ i. η (suc i) in let e' : ℕ = e + step T in let Bs : Pr = bors 𝓤 H A κ (rooms γs η' e') in let p : S = s 0 in
      qed 𝓛 (‵ (tieds (γ ∷ γs) η e s) ∷ (‵ (fbor κ (V γ (η 0) e)) ⊛ raw Bs) ∷ raw (lfts 𝓛 ts) ∷ []) ∵ updating ! $ fsplit ! $ move ! (2 ∷ []) $ split ! $ move ! (3 ∷ 1 ∷ 4 ∷ []) $
      use3 𝓛 (later (‵ (cells T γs κ η' c e' σ) ⊛ raw (lfts 𝓛 ts))) (lends_rooms ts inc sp γs η' e' σ) $ await ! tt $ split ! $ move ! (3 ∷ []) $ fsplit ! $
      -- [the names; the tie; the other cells; the tokens; the room]
      move ! (1 ∷ 4 ∷ 3 ∷ []) $ use3 𝓛 (later (‵ (Tie γ (η 0) e p) ⊛ ‵ (lent T γ κ (η 0) c e p) ⊛ raw (lfts 𝓛 ts))) (lends γ (η 0) e ts inc sp p) $ await ! tt $ split3 ! $
      now ! $ fjoin ! $ move ! (2 ∷ []) $ fsplit ! $ move ! (0 ∷ 1 ∷ 2 ∷ []) $ fjoin3 ! $ move ! (0 ∷ 2 ∷ []) $ fjoin ! $ done !

  -- what a turn keeps when it has ended
  only_tied : (γs : List Names) (η : ℕ → GName) (e : ℕ) (s : ℕ → S) → ⟦ cells T γs κ η c e s ⟧ ⊢ ⟦ tieds γs η e s ⟧
  only_tied [] η e s = id⊢ 𝓤 _
  only_tied (γ ∷ γs) η e s = qed 𝓛 (‵ (cells T (γ ∷ γs) κ η c e s) ∷ []) ∵ fsplit ! $ move ! (1 ∷ []) $ use1 𝓛 (‵ (tieds γs (λ i. η (suc i)) (e + step T) (λ i. s (suc i)))) (only_tied γs (λ i. η (suc i)) (e + step T) (λ i. s (suc i))) $
      move ! (1 ∷ []) $ fsplit3 ! $ move ! (2 ∷ []) $ fsplit ! $ move ! (2 ∷ 3 ∷ []) $ fjoin ! $ move ! (0 ∷ 1 ∷ []) $ fjoin ! $ move ! (0 ∷ 2 ∷ []) $ fjoin ! $ keep ! (0 ∷ []) $ done !

  module _ (γs : List Names) (b o e : ℕ) where
    abbrev P : Fml
    P = still T γs b o c e

    module _ (η : ℕ → GName) where
      abbrev t : Turn
      t = (κ, η)

      abbrev Tied : (ℕ → S) → Fml
      Tied s = fsep (word b o (pack γs (λ i. state (s i)))) (tieds γs η e s)

      abbrev All : Fml
      All = fex (ℕ → S) Tied

      abbrev Qs : List Fml
      Qs = All ∷ rooms γs η e

      abbrev I : Fml
      I = Cells T γs t b o c e

      way_back : emp 𝓤 ⊢ ⟦ fwand (fsep (fdead κ) (fseps Qs)) (fupd P) ⟧
      unfolding fseps
      way_back = qed 𝓛 [] ∵ assume ! (‵ (fsep (fdead κ) (fseps Qs))) $ suffices ! ⟦ P ⟧ (upd_i 𝓤 ⟦ P ⟧) $ fsplit ! $ drop ! $ fsplit ! $ fpick ! (λ s. fsplit ! $ move ! (1 ∷ 2 ∷ []) $
          use2 𝓛 (some (λ (v : ℕ → X). ‵ (rests T γs c e (λ i. (v i, s i))))) (gives_back γs η e s) $ pick ! (λ v. let r : ℕ → Rest T.Denot = λ i. (v i, s i) in
          move ! (1 ∷ 0 ∷ []) $ fjoin ! $ fpack ! (ℕ → Rest T.Denot) (λ z. fsep (word b o (pack γs (λ i. state (z i).1))) (rests T γs c e z)) r $ done !))

      cells_back : emp 𝓤 ⊢ ⟦ fwand (fsep (fdead κ) (fseps (I ∷ []))) (fupd All) ⟧
      unfolding fseps
      cells_back = qed 𝓛 [] ∵ assume ! (‵ (fsep (fdead κ) (fsep I ftrue))) $ suffices ! ⟦ All ⟧ (upd_i 𝓤 ⟦ All ⟧) $ fsplit3 ! $ keep ! (1 ∷ []) $ fpick ! (λ s. fsplit ! $
          move ! (1 ∷ []) $ use1 𝓛 (‵ (tieds γs η e s)) (only_tied γs η e s) $ move ! (1 ∷ 0 ∷ []) $ fjoin ! $ fpack ! (ℕ → S) Tied s $ done !)

      -- one part of the token opens the word, and the other shares the values
      guarded : (μ : Lft) (q : Share) → Incl μ T.lives → Incl μ κ
          → (A.bor κ All ∗ bors 𝓤 H A κ (rooms γs η e)) ∗ A.lft μ q ⊢ H.⇛ (⟦ kept T γs t b o c e κ ⟧ ∗ A.lft μ q)
      unfolding fseps
      guarded μ q inc sp = let l : Share = Share.left q in let r : Share = Share.right q in let Way : Fml = fwand (fsep (fdead κ) (fseps (I ∷ []))) (fupd All) in let Bs : Pr = bors 𝓤 H A κ (rooms γs η e) in
          let Closed : Pr = H.⇛ ((A.bor κ I ∗ emp 𝓤) ∗ A.lft μ l ∗ (A.dead κ -∗ A.bor κ All)) in let Asks : Pr = ⟦ fseps (I ∷ []) ⟧ ∗ ⟦ Way ⟧ ∗ (A.dead κ -∗ A.dead κ) in
          qed 𝓛 ((‵ (fbor κ All) ⊛ raw Bs) ∷ ‵ (flft μ q) ∷ []) ∵ updating ! $ split ! $ move ! (2 ∷ []) $ use1 𝓛 (‵ (flft μ l) ⊛ ‵ (flft μ r)) (𝓛.lfts.lft_split μ q) $ split ! $ move ! (2 ∷ 0 ∷ []) $
          use2 𝓛 (later (‵ All ⊛ raw (Asks -∗ Closed))) (𝓛.more.bor_acc_to κ κ ((μ, l) ∷ []) All (I ∷ []) sp) $ await ! tt $ split ! $ fpick ! (λ s. fsplit ! $
          -- [the word; the ties; the way to close; the other part of the token; the rooms]
          move ! (1 ∷ 4 ∷ 3 ∷ []) $
          use3 𝓛 (later (‵ (cells T γs κ η c e s) ⊛ ‵ (flft μ r))) (lends_rooms ((μ, r) ∷ []) inc sp γs η e s) $ await ! tt $ split ! $ move ! (2 ∷ 0 ∷ []) $ fjoin ! $
          fpack ! (ℕ → S) (standing T γs t b o c e) s $ nothing ! $ move ! (1 ∷ 0 ∷ []) $ fjoin ! $ use0 𝓛 (raw (A.dead κ -∗ A.dead κ)) (wand_i 𝓤 (emp 𝓤) (A.dead κ) (A.dead κ) (snd∗ 𝓤 (emp 𝓤) (A.dead κ))) $
          use0 𝓛 (‵ Way) cells_back $ join ! $ move ! (1 ∷ 0 ∷ []) $ join ! $ move ! (0 ∷ 2 ∷ []) $
          use2 𝓛 (later ((‵ (fbor κ I) ⊛ ‵ ftrue) ⊛ ‵ (flft μ l) ⊛ raw (A.dead κ -∗ A.bor κ All))) (apply∗ 𝓤 Asks Closed) $ await ! tt $ split3 ! $ split ! $
          use1 𝓛 (later (some (λ (n : ℕ). given (floors γs + 1 ≤ n) (‵ (fnamed n (fbor κ I)))))) (named_past 𝓛 (floors γs + 1) (fbor κ I)) $ await ! tt $ pick ! (λ n. learn ! (λ far.
          nothing ! $ fpack ! (floors γs < n) (λ _. ftrue) (let more : floors γs < n = omega arith in more) $ fjoin ! $ fpack ! ℕ (λ k. fsep (fact (floors γs < k)) (fnamed k (fbor κ I))) n $ use0 𝓛 (‵ (before κ κ)) (before-Incl 𝓛 κ κ (Incl-refl κ)) $ fjoin ! $
          move ! (2 ∷ 4 ∷ []) $ use2 𝓛 (‵ (flft μ q)) (𝓛.lfts.lft_join μ q) $ now ! $ keep ! (1 ∷ 0 ∷ []) $ done !)))

    abbrev Cuts : Item 𝓤
    Cuts = some (λ (η : ℕ → GName). ‵ (fbor κ (All η)) ⊛ raw (bors 𝓤 H A κ (rooms γs η e)))

    cuts : (q : Share) → A.bor κ P ∗ A.lft κ q ⊢ H.⇛ (mean 𝓛 Cuts ∗ A.lft κ q)
    unfolding fseps
    cuts q = qed 𝓛 (‵ (fbor κ P) ∷ ‵ (flft κ q) ∷ []) ∵ updating ! $ bor_open ! tt $ move ! (1 ∷ []) $ fpick ! (λ s. fsplit ! $ move ! (1 ∷ []) $
        use1 𝓛 (later (some (λ (η : ℕ → GName). ‵ (tieds γs η e (λ i. (s i).1)) ⊛ ‵ (fseps (rooms γs η e))))) (names_rooms γs e s) $ await ! tt $ pick ! (λ η. split ! $
        -- [the ties; the rooms; the word; open]
        move ! (2 ∷ 0 ∷ []) $ fjoin ! $ fpack ! (ℕ → S) (Tied η) (λ i. (s i).1) $ fjoin ! $
        use0 𝓛 (‵ (fwand (fsep (fdead κ) (fseps (Qs η))) (fupd P))) (way_back η) $ move ! (2 ∷ 1 ∷ 0 ∷ []) $ obor_alter ! tt (Qs η) $
        use1 𝓛 (‵ (fbor κ (All η)) ⊛ raw (bors 𝓤 H A κ (rooms γs η e))) (id⊢ 𝓤 _) $ use1 𝓛 Cuts (base.Logic.ex_i 𝓤 (λ (z : ℕ → GName). A.bor κ (All z) ∗ bors 𝓤 H A κ (rooms γs z e)) η) $ now ! $ done !))

    made : (ts : Toks) → Incl (span ts) T.lives → Incl (span ts) κ → A.bor κ P ∗ lfts 𝓛 ts ⊢ H.⇛ (⟦ shared_at T γs b o c e κ ⟧ ∗ lfts 𝓛 ts)
    made ts inc sp = let μ : Lft = span ts in qed 𝓛 (‵ (fbor κ P) ∷ raw (lfts 𝓛 ts) ∷ []) ∵ updating ! $ use2 𝓛 (later (Cuts ⊛ raw (lfts 𝓛 ts))) (by_one 𝓛 κ ts sp (A.bor κ P) (mean 𝓛 Cuts) cuts) $ await ! tt $ split ! $ pick ! (λ η.
        move ! (1 ∷ []) $ use1 𝓛 (some (λ (q : Share). ‵ (flft μ q) ⊛ raw (A.lft μ q -∗ lfts 𝓛 ts))) (one_token 𝓛 ts) $ pick ! (λ q. split ! $ move ! (2 ∷ 0 ∷ []) $
        use2 𝓛 (later (‵ (kept T γs (t η) b o c e κ) ⊛ ‵ (flft μ q))) (guarded η μ q inc sp) $ await ! tt $ split ! $ fpack ! Turn (λ u. kept T γs u b o c e κ) (t η) $ move ! (1 ∷ 2 ∷ []) $
        use2 𝓛 (raw (lfts 𝓛 ts)) (apply∗ 𝓤 (A.lft μ q) (lfts 𝓛 ts)) $ now ! $ move ! (1 ∷ 0 ∷ []) $ done !))

pub lends_word : (T : RattleType) (L : Laws T) (γs : List Names) {M : Type 1} {𝓤 : Ura M} (𝓛 : Logic 𝓤) (b o c e : ℕ) (l : Lft)
    → Incl l T.lives → Lends 𝓛 (still T γs b o c e) (shared_at T γs b o c e) l
lends_word T L γs 𝓛 b o c e l le κ ts inc sp = made T L 𝓛 c κ γs b o e ts (Incl-trans inc le) sp
