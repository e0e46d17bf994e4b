-- The values of cells next to each other, lent together. Assumes `Logic`.
use Rattle.std.proofs.Common.{◌≡◌, ℕ, suc, ◌+◌, ◌*◌, ◌/◌, ◌%◌, ◌≤◌, List, [], ◌∷◌, length, Option, refl, suc-mul, arith}
use seplogic.Ra.Ura.{Ura}
use base.Logic.{SProp, ent, sep, wand, apply∗}
use base.Fml.{Lft, Share, Fml, ftrue, flft}
use base.Before.{before}
use types.Logic.{Logic, sem}
use types.Na.{before_dup}
use types.Kit.{‵, raw, ◌⊛◌, some, later, updating, await, now, ◌$◌, ◌∵◌, !, qed, move, drop, use1, use2, use3, split, fsplit, fjoin, fpick, pick, rewrite, frame, done}
use prog.Model.{Model}
use contract.Running.{Running}
use contract.Shared.{Lends-one}
use denote.RattleType.{RattleType, RowLaws}
use denote.Memory.{shared_of, each_shared}
use denote.RawPtr.{block_ptr}
use Rattle.cell_core.specs.Slot.{Names, Turn, cell_in, step, written, slot_owned}
use Rattle.cell_core.specs.Laid.{along_lent}
use Rattle.cell_core.specs.Member.{MemberView, HaveValues, known_as, members}
use Rattle.cell_core.proofs.LaidParts.{along_laws, cell_shown}
use Rattle.cell_core.proofs.WordSteps.{reads_at}
use Rattle.cell_core.proofs.CellSteps as steps

module _ {M : Type 1} {𝓤 : Ura M} (𝓛 : Logic 𝓤) (𝓜 : Model 𝓤 𝓛.H) (𝓡 : Running 𝓤 𝓛.H 𝓜) (R : RattleType) (L : RowLaws R) where
  open 𝓛 use {H, A}

  abbrev ⟦◌⟧ : Fml → SProp 𝓤
  ⟦ P ⟧ = sem 𝓛 P

  -- one cell that holds a value shows it for as long as it is lent
  cell_value : (β : Lft) (q : Share) (γ : Names) (b o d r i : ℕ) (x : R.Denot)
      → ent 𝓤 (sep 𝓤 ⟦ slot_owned R γ β (block_ptr b o) (block_ptr d r) i ⟧ (sep 𝓤 ⟦ written R γ.value_name x ⟧ (A.lft β q))) (H.⇛ (sep 𝓤 ⟦ shared_of R x d r β ⟧ (A.lft β q)))
  cell_value β q γ b o d r i x =
      qed 𝓛 (‵ (slot_owned R γ β (block_ptr b o) (block_ptr d r) i) ∷ ‵ (written R γ.value_name x) ∷ ‵ (flft β q) ∷ []) ∵ updating ! $
      fpick ! (λ s. fsplit ! $ fpick ! (λ at. drop ! $ let t : Turn = s.1 in let α : Lft = t.0 in fsplit ! $ use1 𝓛 (‵ (before β α) ⊛ ‵ (before β α)) (before_dup 𝓛 β α) $ split ! $
      -- [before, twice; the invariant; written; the token]
      move ! (0 ∷ 4 ∷ []) $ use2 𝓛 (later (some (λ (w : Share). ‵ (flft α w) ⊛ raw (wand 𝓤 (A.lft α w) (H.⇛ (A.lft β q)))))) (Lends-one 𝓛 𝓜 𝓡 β α q) $ await ! tt $ pick ! (λ w. split ! $
      -- [the turn's token; the way back; before; the invariant; written]
      let There : Fml = shared_of R x d r α in move ! (3 ∷ 0 ∷ 4 ∷ []) $
      use3 𝓛 (later (‵ There ⊛ ‵ (flft α w))) (reads_at 𝓛 R γ b o d r i s at w There (sem 𝓛 (written R γ.value_name x)) (steps.finds_written 𝓛 R γ α (t.1 i) d r L x)) $ await ! tt $ split ! $
      -- [the value; the turn's token; the way back; before]
      move ! (1 ∷ 2 ∷ []) $ use2 𝓛 (later (‵ (flft β q))) (apply∗ 𝓤 (A.lft α w) (H.⇛ (A.lft β q))) $ await ! tt $
      -- [the token; the value; before]
      move ! (2 ∷ 1 ∷ []) $ use2 𝓛 (‵ (shared_of R x d r β)) ((L x d r).mono M 𝓤 𝓛 β α) $ now ! $ frame ! $ done !)))

  -- and so do cells next to each other, together
  pub all_values : (k : ℕ) (γs : List Names) (b o c e : ℕ) (β : Lft) (q : Share) (ms : List (MemberView R.Denot)) (xs : List R.Denot) (j : ℕ)
      → HaveValues γs j ms xs → j + length xs ≤ length γs → length γs ≤ k * 16
      → ent 𝓤 (sep 𝓤 ⟦ along_lent R k γs b o c e β ⟧ (sep 𝓤 ⟦ members R ms ⟧ (A.lft β q)))
      (H.⇛ (sep 𝓤 ⟦ each_shared xs (shared_of R) (step R) c (j * step R + e) β ⟧ (A.lft β q)))
  all_values k γs b o c e β q [] [] j is near few =
      qed 𝓛 (‵ (along_lent R k γs b o c e β) ∷ ‵ ftrue ∷ ‵ (flft β q) ∷ []) ∵ updating ! $ drop ! $ now ! $ frame ! $ done !
  all_values k γs b o c e β q [] (x ∷ xs) j is near few = absurd is
  all_values k γs b o c e β q (m ∷ ms) [] j is near few = absurd is
  all_values k γs b o c e β q (m ∷ ms) (x ∷ xs) j is near few =
      let All : Fml = along_lent R k γs b o c e β in let r : ℕ = j * step R + e in let γ : Names = cell_in γs j in let o' : ℕ = j / 16 * 8 + o in
      let n = suc-mul j (step R) in let next : suc j * step R + e ≡ r + step R = omega arith in
      qed 𝓛 (‵ All ∷ ‵ (members R (m ∷ ms)) ∷ ‵ (flft β q) ∷ []) ∵ updating ! $
      use1 𝓛 (‵ All ⊛ ‵ All) ((along_laws R k γs b o c e).contraction M 𝓤 𝓛 β) $ split ! $
      -- [all cells, twice; what is known of them; the token]
      use1 𝓛 (‵ (slot_owned R γ β (block_ptr b o') (block_ptr c r) (j % 16))) (cell_shown 𝓛 R k γs b o c e β j (omega arith) few) $
      move ! (2 ∷ []) $ fsplit ! $ rewrite ! 0 (λ (v : Option R.Denot). ‵ (known_as R v m.name)) is.0 refl $ rewrite ! 0 (λ (l : ℕ). ‵ (written R l x)) is.1 refl $
      -- [written; what is known of the others; the cell; all cells; the token]
      move ! (2 ∷ 0 ∷ 4 ∷ []) $ use3 𝓛 (later (‵ (shared_of R x c r β) ⊛ ‵ (flft β q))) (cell_value β q γ b o' c r (j % 16) x) $ await ! tt $ split ! $
      -- [the value; the token; what is known of the others; all cells]
      move ! (3 ∷ 2 ∷ 1 ∷ []) $ use3 𝓛 (later (‵ (each_shared xs (shared_of R) (step R) c (suc j * step R + e) β) ⊛ ‵ (flft β q)))
      (all_values k γs b o c e β q ms xs (suc j) is.2 (omega arith) few) $ await ! tt $ split ! $
      rewrite ! 0 (λ (i : ℕ). ‵ (each_shared xs (shared_of R) (step R) c i β)) next refl $ now ! $ move ! (2 ∷ 0 ∷ []) $ fjoin ! $ frame ! $ done !
