-- What is shared of a block, and what is known of an entry's name, as in `once_cell`. Assumes `Logic`.
use Rattle.std.proofs.Common.{◌≡◌, ℕ, [], ◌∷◌, refl, subst, ap}
use seplogic.Ra.Ura.{Ura}
use base.Share
use base.Stored.{Gv, gnil, gnum, gcons}
use base.Logic.{SProp, ent, sep, guard}
use base.Fml.{Lft, Share, Fml, ftrue, flft, fauth, fres}
use types.Logic.{Logic, sem}
use types.Kit.{‵, ◌⊛◌, given, ◌$◌, ◌∵◌, !, qed, move, keep, drop, split, fsplit, fsplit3, fjoin, fjoin3, learn, check, frame, done, use1, use2}
use types.Tokens.{res_dup}
use denote.RattleType.{RattleType}
use denote.RawPtr.{Ptr}
use denote.Param.Laws.{Laws}
use denote.Struct.Lending.{lent_at, lent_at_shr_laws}
use Rattle.std.specs.declared.alloc.Global.{Global}
use Rattle.std.specs.declared.option.Option.{Option}
use Rattle.std.specs.declared.option.Option.TheVariants.{None, Some}
use Rattle.once_cell.specs.Once.{Agrees, mark, pending, settled, noted, lent}
use Rattle.once_cell.proofs.Moves.{part, second}

abbrev IsPair : Gv → Type 0
IsPair gnil = ⊥
IsPair (gnum n) = ⊥
IsPair (gcons x y) = Unit {0}

module _ {M : Type 1} {𝓤 : Ura M} (𝓛 : Logic 𝓤) (R : RattleType) (L : Laws R) (a : Global) (γ : ℕ) where
  open 𝓛 use {H, A}

  abbrev Pr : Type 2
  Pr = SProp 𝓤

  abbrev ◌⊢◌ : Pr → Pr → Type 1
  P ⊢ Q = ent 𝓤 P Q

  abbrev ◌∗◌ : Pr → Pr → Pr
  P ∗ Q = sep 𝓤 P Q

  abbrev ⟦◌⟧ : Fml → Pr
  ⟦ P ⟧ = sem 𝓛 P

  infix 26 ◌⊢◌
  infixr 35 ◌∗◌
  abbrev Sight : Type 0
  Sight = R.Denot × ℕ × Share

  -- a block that is shared, in two parts
  pub halved : (α : Lft) (p : Ptr) (u : Sight) → ⟦ lent R a α p u ⟧ ⊢ ⟦ lent R a α p (u.0, u.1, Share.left u.2) ⟧ ∗ ⟦ part 𝓛 R L a α p (u.0, u.1, Share.right u.2) ⟧
  halved α p u = qed 𝓛 (‵ (lent R a α p u) ∷ []) ∵ fsplit3 ! $ use1 𝓛 (‵ (flft (u.1 ∷ []) (Share.left u.2)) ⊛ ‵ (flft (u.1 ∷ []) (Share.right u.2))) (𝓛.lfts.lft_split (u.1 ∷ []) u.2) $ split ! $ move ! (2 ∷ []) $
      use1 𝓛 (‵ (lent_at R p u.0 (u.1 ∷ α)) ⊛ ‵ (lent_at R p u.0 (u.1 ∷ α))) ((lent_at_shr_laws R L.shr_laws p u.0).contraction M 𝓤 𝓛 (u.1 ∷ α)) $ split ! $
      move ! (2 ∷ 0 ∷ 4 ∷ []) $ fjoin3 ! $ frame ! $ move ! (1 ∷ []) $ done !

  -- nothing is known of a name that is not set
  pub unseen : (k : Option R.Denot) → ⟦ pending R γ ⟧ ∗ ⟦ noted R γ k ⟧ ⊢ guard 𝓤 (k ≡ None) ⟦ pending R γ ⟧
  unseen None = qed 𝓛 (‵ (pending R γ) ∷ ‵ ftrue ∷ []) ∵ check ! refl $ keep ! (0 ∷ []) $ done !
  unseen (Some x) = qed 𝓛 (‵ (pending R γ) ∷ ‵ (fres γ (mark R γ x)) ∷ []) ∵ fsplit ! $ move ! (2 ∷ 1 ∷ []) $
      use2 𝓛 (given (mark R γ x ≡ gnil) (‵ (fres γ (mark R γ x)) ⊛ ‵ (fauth γ gnil))) (𝓛.names.res_agree γ (mark R γ x) gnil) $ learn ! (λ e. absurd (subst IsPair e tt))

  -- what is known of a name is its value
  pub agreed : (k : Option R.Denot) (x : R.Denot) → ⟦ settled R γ x ⟧ ∗ ⟦ noted R γ k ⟧ ⊢ guard 𝓤 (Agrees k x) (⟦ settled R γ x ⟧ ∗ ⟦ noted R γ (Some x) ⟧)
  agreed None x = qed 𝓛 (‵ (settled R γ x) ∷ ‵ ftrue ∷ []) ∵ check ! tt $ fsplit ! $ move ! (1 ∷ []) $ res_dup ! $ move ! (2 ∷ 0 ∷ []) $ fjoin ! $ keep ! (0 ∷ 1 ∷ []) $ done !
  agreed (Some y) x = let m = mark R γ x in qed 𝓛 (‵ (settled R γ x) ∷ ‵ (fres γ (mark R γ y)) ∷ []) ∵ fsplit ! $ move ! (2 ∷ 0 ∷ []) $
      use2 𝓛 (given (mark R γ y ≡ m) (‵ (fres γ (mark R γ y)) ⊛ ‵ (fauth γ m))) (𝓛.names.res_agree γ (mark R γ y) m) $ learn ! (λ e. check ! (R.coded.inj y x (ap second e)) $ split ! $ drop ! $
      move ! (1 ∷ []) $ res_dup ! $ move ! (2 ∷ 0 ∷ []) $ fjoin ! $ done !)
