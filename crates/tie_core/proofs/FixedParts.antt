-- The update of a look at a cell whose tie is fixed at a stage: the caller's seat moves alone. Assumes `Logic`.
use Rattle.std.proofs.Common.{◌≡◌, ℕ, [], ◌∷◌, refl, sym, ◌∙◌}
use Rattle.std.specs.Prelude.{Option, Some}
use seplogic.Ra.Ura.{Ura}
use base.Stored.{Coded}
use base.Logic.{SProp, ent, sep, wand, all, upd, upd_i}
use base.Fml.{Fml, ftrue}
use types.Logic.{Logic, sem}
use types.Kit.{‵, raw, ◌⊛◌, ◌$◌, ◌∵◌, !, qed, move, drop, use2, split, fjoin, fpack, fpick, each, assume, suffices, rewrite, settle, done}
use denote.RattleType.{RattleType}
use denote.RawPtr.{Ptr}
use denote.Steps.{nothing}
use Rattle.atomic_table.specs.Table.{State}
use Rattle.atomic_table.specs.Seated.{TableId, age}
use Rattle.tie_core.specs.Tie.{Tie, Stage, looks, Moves, Gives, seat_of, seat_at, left, update}
use Rattle.tie_core.specs.Desk.{gone}
use Rattle.tie_core.specs.Permits.{PermitsAlone}
use Rattle.tie_core.proofs.SeatSteps as seats

module _ {M : Type 1} {𝓤 : Ura M} (𝓛 : Logic 𝓤) (R : RattleType) {V : Type 0} (cv : Coded V) (holds : State R.Denot V → Type 0) (w : Ptr) (z : TableId) where
  abbrev Pr : Type 2
  Pr = SProp 𝓤

  abbrev ⟦◌⟧ : Fml → Pr
  ⟦ P ⟧ = sem 𝓛 P

  abbrev J : Fml
  J = seats.J 𝓛 R cv holds w z

  abbrev half : ℕ → V → Fml
  half = seats.half 𝓛 R cv holds w z

  module _ (t : Tie) (a : Stage) (id : ℕ) (v : V) (then : Stage → Stage → V → Type 0) where
    abbrev Gain : Stage → Stage → Fml
    Gain s s' = gone cv.code z id (then s s')

    abbrev Turned : ℕ × Stage × Stage → Pr
    Turned m = wand 𝓤 (sep 𝓤 ⟦ seat_at (Some t) m.1 ⟧ ⟦ J ⟧) (upd 𝓤 ⟦ left (age z) J Gain t looks m.1 m.2 ⟧)

    pub looks_fixed : t.fixed ≡ Some a → PermitsAlone holds id v (then a a) → ent 𝓤 ⟦ half id v ⟧ ⟦ update (age z) J Gain t looks ⟧
    looks_fixed fixed law = qed 𝓛 (‵ (half id v) ∷ []) ∵
        each ! (λ (m : ℕ × Stage × Stage). all 𝓤 (λ (_ : Moves looks m.0 m.1 m.2). Turned m)) (λ m. each ! (λ (_ : Moves looks m.0 m.1 m.2). Turned m) (λ moves.
        let s : Stage = m.1 in let s' : Stage = m.2 in let Z : Pr = ⟦ left (age z) J Gain t looks s s' ⟧ in let Moved : Fml = gone cv.code z id (then a a) in
        assume ! (‵ (seat_at (Some t) s) ⊛ ‵ J) $ split ! $ rewrite ! 0 (λ (f : Option Stage). ‵ (seat_of t f s)) fixed refl $ fpick ! (λ is. drop ! $
        -- [the table; the caller's seat]
        use2 𝓛 (raw (upd 𝓤 (sep 𝓤 ⟦ J ⟧ ⟦ Moved ⟧))) (seats.moves_alone 𝓛 R cv holds w z id v (then a a) law) $ settle 𝓛 Z (‵ J ⊛ ‵ Moved) $ split ! $ suffices ! _ (upd_i 𝓤 Z) $
        let now : s' ≡ a = moves.1 ∙ is in
        rewrite ! 1 (λ (u : Stage × Stage). ‵ (gone cv.code z id (then u.0 u.1))) (λ i. (sym is i, sym now i)) refl $
        nothing ! $ fpack ! (Gives looks s) (λ _. ftrue) tt $ move ! (2 ∷ 0 ∷ []) $ fjoin ! $ move ! (1 ∷ 0 ∷ []) $ fjoin ! $
        nothing ! $ fpack ! (s' ≡ a) (λ _. ftrue) now $ rewrite ! 0 (λ (f : Option Stage). ‵ (seat_of t f s')) (sym fixed) refl $ fjoin ! $ done !)))
