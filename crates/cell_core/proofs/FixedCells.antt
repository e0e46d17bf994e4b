-- A cell that nobody shares gives up its seat, and an update runs at its stage. Assumes `Logic`.
use Rattle.std.proofs.Common.{Bool, false, ◌≡◌, ℕ, ◌<◌, List, [], ◌∷◌, length, set, get_or-set_same, sym, refl, ap, ◌∙◌, subst}
use Rattle.std.specs.Prelude.{Option, Some, None}
use mathlib.Core.List.{not-mem-nil}
use seplogic.Ra.Ura.{Ura}
use base.Logic.{SProp, ent, sep, wand, all, all_e, apply∗, guard, upd, upd_i, id⊢}
use base.Fml.{Lft, Share, Fml, ftrue, fbor, flft, fnamed}
use types.Logic.{Logic, sem}
use types.Kit.{‵, raw, ◌⊛◌, given, later, updating, await, now, ◌$◌, ◌∵◌, !, qed, move, keep, use0, use1, use2, use3, split, join, check, fsplit, fsplit3, fjoin, fpack, frame, assume, learn, suffices, rewrite, settle, done}
use denote.RattleType.{RattleType}
use denote.Steps.{nothing}
use Rattle.tie_core.specs.Tie.{Tie, Stage, Begun, Broken, looks, Moves, IsTied, fixed_at, seat_at, left, update}
use Rattle.cell_core.specs.Slot.{Names, Phase, Rest, HasNoSeat, cell_in, free, begun, busy, full, broken, broken_by_owner, state, stage, ended_or_seatless, told}
use Rattle.cell_core.specs.Laid.{lying}
use Rattle.cell_core.specs.Fixed.{FixesOne, fixed_cell, fixed_in, stage_in}
use Rattle.cell_core.proofs.RestParts.{fixed_seat, no_seat}
use Rattle.cell_core.proofs.Stages.{AgreesAt, seat_told, stage_shown}

-- the tie of such a cell is fixed at the stage
fixed_is : (τ : Option Tie) (t : Tie) (a : Stage) → τ ≡ Some t → fixed_in (fixed_at τ a) ≡ Some a
fixed_is τ t a is = ap (λ (u : Option Tie). fixed_in (fixed_at u a)) is

pub fixes_one : (γs : List Names) (i : ℕ) (t : Tie) (a : Stage) → i < length γs → (cell_in γs i).tied ≡ Some t → FixesOne γs i (set γs i (fixed_cell (cell_in γs i) a)) a
fixes_one γs i t a near is = let γ' : Names = fixed_cell (cell_in γs i) a in
    let there : cell_in (set γs i γ') i ≡ γ' = get_or-set_same γs i γ' (record { value_name = 0; broken_name = 0; epoch = []; tied = None }) near in record {
      cells = refl;
      tie = ap (λ (u : Names). u.tied) there;
      stage = ap stage_in there ∙ fixed_is (cell_in γs i).tied t a is;
    }

still_tied : (τ : Option Tie) (t : Tie) (a : Stage) → τ ≡ Some t → IsTied (fixed_at τ a)
still_tied τ t a is = subst (λ (u : Option Tie). IsTied (fixed_at u a)) (sym is) tt

module _ {M : Type 1} {𝓤 : Ura M} (𝓛 : Logic 𝓤) where
  open 𝓛 use {H, A}

  abbrev Pr : Type 2
  Pr = SProp 𝓤

  abbrev ◌⊢◌ : Pr → Pr → Type 1
  P ⊢ Q = ent 𝓤 P Q

  abbrev ◌∗◌ : Pr → Pr → Pr
  P ∗ Q = sep 𝓤 P Q

  abbrev ⟦◌⟧ : Fml → Pr
  ⟦ P ⟧ = sem 𝓛 P

  infix 26 ◌⊢◌
  infixr 35 ◌∗◌
  module _ (age : Lft) (J : Fml) (gain : Stage → Stage → Fml) (t : Tie) where
    abbrev Update : Fml
    Update = update age J gain t looks

    abbrev Turned : ℕ × Stage × Stage → Pr
    Turned m = wand 𝓤 (⟦ seat_at (Some t) m.1 ⟧ ∗ ⟦ J ⟧) (upd 𝓤 ⟦ left age J gain t looks m.1 m.2 ⟧)

    -- the update of a look, while the table's content is at hand; the seat is given up
    turns : (n : ℕ) (p : Stage) → Moves looks n p p → ⟦ J ⟧ ∗ ⟦ seat_at (Some t) p ⟧ ∗ ⟦ Update ⟧ ⊢ upd 𝓤 (⟦ J ⟧ ∗ ⟦ gain p p ⟧)
    turns n p moves = let Z : Pr = ⟦ J ⟧ ∗ ⟦ gain p p ⟧ in
        qed 𝓛 (‵ J ∷ ‵ (seat_at (Some t) p) ∷ ‵ Update ∷ []) ∵ move ! (2 ∷ []) $
        use1 𝓛 (raw (all 𝓤 (λ (_ : Moves looks n p p). Turned (n, p, p)))) (all_e 𝓤 (λ (m : ℕ × Stage × Stage). all 𝓤 (λ (_ : Moves looks m.0 m.1 m.2). Turned m)) (n, p, p)) $
        use1 𝓛 (raw (Turned (n, p, p))) (all_e 𝓤 (λ (_ : Moves looks n p p). Turned (n, p, p)) moves) $
        -- [the update; the table; the seat]
        move ! (2 ∷ 1 ∷ []) $ join ! $ use2 𝓛 (raw (upd 𝓤 ⟦ left age J gain t looks p p ⟧)) (apply∗ 𝓤 (⟦ seat_at (Some t) p ⟧ ∗ ⟦ J ⟧) (upd 𝓤 ⟦ left age J gain t looks p p ⟧)) $
        settle 𝓛 Z (‵ (left age J gain t looks p p)) $ fsplit3 ! $ move ! (2 ∷ []) $ fsplit ! $ suffices ! _ (upd_i 𝓤 Z) $
        -- [the gain; what a look must show; the seat; the table]
        keep ! (3 ∷ 0 ∷ []) $ done !

    -- the same, without a step
    turns_now : (n : ℕ) (p : Stage) (q : Share) → Moves looks n p p → ⟦ fnamed t.floor (fbor age J) ⟧ ∗ A.lft age q ∗ (⟦ seat_at (Some t) p ⟧ ∗ ⟦ Update ⟧) ⊢ H.⇛ (⟦ gain p p ⟧ ∗ A.lft age q)
    turns_now n p q moves = let P : Fml = fbor age J in let Q : Pr = ⟦ gain p p ⟧ in
        qed 𝓛 (‵ (fnamed t.floor P) ∷ ‵ (flft age q) ∷ (‵ (seat_at (Some t) p) ⊛ ‵ Update) ∷ []) ∵ suffices ! _ (𝓛.invs.invs_bor_acc t.floor age q J [] Q ((λ m. not-mem-nil m), tt)) $
        nothing ! $ move ! (1 ∷ 0 ∷ []) $ fjoin ! $ frame ! $ frame ! $ let G : Pr = sep 𝓤 ⟦ J ⟧ (sep 𝓤 ⟦ ftrue ⟧ Q) in
        assume ! (‵ J ⊛ ‵ ftrue) $ split ! $ move ! (2 ∷ []) $ split ! $
        -- [the seat; the update; the table; true]
        move ! (2 ∷ 0 ∷ 1 ∷ []) $ use3 𝓛 (raw (upd 𝓤 (⟦ J ⟧ ∗ ⟦ gain p p ⟧))) (turns n p moves) $ settle 𝓛 G (‵ J ⊛ ‵ (gain p p)) $ split ! $ suffices ! _ (upd_i 𝓤 G) $
        frame ! $ move ! (1 ∷ 0 ∷ []) $ done !

    module _ (R : RattleType) where
      -- what goes with a phase stays with the tie fixed
      told_fixed : (γ : Names) (s : Phase R.Denot) → γ.tied ≡ Some t → ⟦ told R γ s ⟧ ⊢ ⟦ told R (fixed_cell γ (stage s)) s ⟧
      told_fixed γ free is = id⊢ 𝓤 _
      told_fixed γ begun is = qed 𝓛 (‵ (told R γ begun) ∷ []) ∵ fsplit ! $ keep ! (0 ∷ []) $
          nothing ! $ fpack ! (IsTied (fixed_at γ.tied Begun)) (λ _. ftrue) (still_tied γ.tied t Begun is) $ move ! (1 ∷ 0 ∷ []) $ fjoin ! $ done !
      told_fixed γ busy is = id⊢ 𝓤 _
      told_fixed γ (full x) is = id⊢ 𝓤 _
      told_fixed γ broken is = id⊢ 𝓤 _
      told_fixed γ broken_by_owner is = qed 𝓛 (‵ (told R γ broken_by_owner) ∷ []) ∵ fsplit ! $ keep ! (0 ∷ []) $
          nothing ! $ fpack ! (HasNoSeat (fixed_at γ.tied Broken)) (λ _. ftrue) (no_seat γ.tied Broken) $ fpack ! Bool (ended_or_seatless R (fixed_cell γ Broken)) false $ move ! (1 ∷ 0 ∷ []) $ fjoin ! $ done !

      -- a cell gives up its seat, and the update runs at its stage
      pub fixes : (γ : Names) (u : Rest R.Denot) (c e : ℕ) (q : Share) → γ.tied ≡ Some t → let a : Stage = stage u.1 in
          ⟦ lying R c e γ u ⟧ ∗ ⟦ fnamed t.floor (fbor age J) ⟧ ∗ (A.lft age q ∗ ⟦ Update ⟧) ⊢ H.⇛ (⟦ lying R c e (fixed_cell γ a) u ⟧ ∗ ⟦ gain a a ⟧ ∗ A.lft age q)
      fixes γ u c e q is = let s : Phase R.Denot = u.1 in let a : Stage = stage s in let γ' : Names = fixed_cell γ a in
          qed 𝓛 (‵ (lying R c e γ u) ∷ ‵ (fnamed t.floor (fbor age J)) ∷ (‵ (flft age q) ⊛ ‵ Update) ∷ []) ∵ updating ! $ fsplit ! $ move ! (1 ∷ []) $ fsplit ! $ fsplit ! $ move ! (1 ∷ []) $ fsplit ! $
          use1 𝓛 (‵ (told R γ' s)) (told_fixed γ s is) $ rewrite ! 1 (λ (τ : Option Tie). ‵ (seat_at τ a)) is refl $
          -- [what goes with the phase; the seat; the names; that it lies there; the room; the invariant; the token and the update]
          move ! (6 ∷ []) $ split ! $
          -- [the token; the update; what goes with the phase; the seat; the names; that it lies there; the room; the invariant]
          move ! (3 ∷ 1 ∷ []) $ join ! $ move ! (6 ∷ 1 ∷ 0 ∷ []) $
          use3 𝓛 (later (‵ (gain a a) ⊛ ‵ (flft age q))) (turns_now (state s) a q (stage_shown s, refl)) $ await ! tt $ split ! $
          -- [the gain; the token; what goes with the phase; the names; that it lies there; the room]
          use0 𝓛 (‵ (seat_at γ'.tied a)) (fixed_seat 𝓛 R γ.tied a) $ move ! (3 ∷ 0 ∷ []) $ fjoin ! $ move ! (3 ∷ 0 ∷ []) $ fjoin ! $ move ! (0 ∷ 3 ∷ []) $ fjoin ! $ move ! (3 ∷ 0 ∷ []) $ fjoin ! $ now ! $ done !

-- a cell tells whether its tie is fixed at another stage than its own
module _ {M : Type 1} {𝓤 : Ura M} (𝓛 : Logic 𝓤) (R : RattleType) where
  pub still_at : (γ : Names) (u : Rest R.Denot) (c e : ℕ) → ent 𝓤 (sem 𝓛 (lying R c e γ u)) (guard 𝓤 (AgreesAt γ.tied (stage u.1)) (sem 𝓛 (lying R c e γ u)))
  still_at γ u c e = let a : Stage = stage u.1 in qed 𝓛 (‵ (lying R c e γ u) ∷ []) ∵ fsplit ! $ move ! (1 ∷ []) $ fsplit ! $ fsplit ! $ move ! (1 ∷ []) $ fsplit ! $ move ! (1 ∷ []) $
      -- [the seat; what goes with the phase; the names; that it lies there; the room]
      use1 𝓛 (given (AgreesAt γ.tied a) (‵ (seat_at γ.tied a))) (seat_told 𝓛 γ.tied a) $ learn ! (λ at. check ! at $
      move ! (1 ∷ 0 ∷ []) $ fjoin ! $ move ! (1 ∷ 0 ∷ []) $ fjoin ! $ fjoin ! $ move ! (1 ∷ 0 ∷ []) $ fjoin ! $ done !)
