-- The ghost steps of an entry that leave its seat: a look at any entry, and the exchange of one that is not tied. They are
-- those of `once_cell`, whose answers they share. Assumes `Logic`.
use Rattle.std.proofs.Common.{◌≡◌, ℕ, Bool, true, false, [], ◌∷◌, lit<}
use seplogic.Ra.Ura.{Ura}
use base.Share
use base.Stored.{gnil}
use base.Fraction.{full_share}
use base.Logic.{SProp, ent, sep, ex, guard, upd, upd_i}
use base.Fml.{Lft, Share, Fml, ftrue, fsep, fobs, fauth, fres, flft, fbor}
use types.Logic.{Logic, sem}
use types.Kit.{‵, raw, ◌⊛◌, given, ◌$◌, ◌∵◌, !, qed, by, move, drop, split, fsplit, fjoin, fjoin3, fpick, fpack, learn, check, show, frame, assume, suffices, settle, done, use0, use1, use2}
use types.Tokens.{res_dup}
use denote.RattleType.{RattleType}
use denote.RawPtr.{Ptr, block_ptr, null_ptr, Testable}
use denote.Steps.{nothing}
use denote.Param.Laws.{Laws}
use Rattle.core.specs.Sync.RawAtomic.Pointer.{cell, alike, asks_ptr, compares}
use Rattle.core.proofs.raw_atomic.Asked.{borrowed_ptr, borrowed_compares, PtrLies, Compared, alike_null}
use Rattle.std.specs.declared.alloc.Global.{Global}
use Rattle.std.specs.declared.option.Option.{Option}
use Rattle.std.specs.declared.option.Option.TheVariants.{None, Some}
use Rattle.once_cell.specs.Once.{Agrees, mark, pending, settled, noted, lent}
use Rattle.once_cell.proofs.Moves as moves
use Rattle.tie_core.specs.Visit.{EntryTie}
use Rattle.table_core.specs.TiedEntry.{published, tied_shown, tied_at, Tied_held}
use Rattle.table_core.proofs.BlockParts as parts

module _ {M : Type 1} {𝓤 : Ura M} (𝓛 : Logic 𝓤) (R : RattleType) (L : Laws R) (number : R.Denot → ℕ) (a : Global) (γ : ℕ) (k : Option R.Denot) (α : Lft) where
  open 𝓛 use {H, A}

  abbrev Pr : Type 2
  Pr = SProp 𝓤

  abbrev ◌⊢◌ : Pr → Pr → Type 1
  P ⊢ Q = ent 𝓤 P Q

  abbrev ◌∗◌ : Pr → Pr → Pr
  P ∗ Q = sep 𝓤 P Q

  abbrev ⟦◌⟧ : Fml → Pr
  ⟦ P ⟧ = sem 𝓛 P

  infix 26 ◌⊢◌
  infixr 35 ◌∗◌
  abbrev Sight : Type 0
  Sight = R.Denot × ℕ × Share

  abbrev Shown : Option EntryTie → Ptr → Fml
  Shown τ = tied_shown R number a γ τ α

  abbrev glimpse : Fml → Ptr → Fml
  glimpse = moves.glimpse 𝓛 R L a γ k α

  abbrev unknown : Fml
  unknown = moves.unknown 𝓛 R L a γ k α

  peek_at : (τ : Option EntryTie) (b o : ℕ) → ⟦ Shown τ (block_ptr b o) ⟧ ∗ ⟦ noted R γ k ⟧ ⊢ guard 𝓤 (Testable (block_ptr b o)) (⟦ Shown τ (block_ptr b o) ⟧ ∗ ⟦ glimpse ftrue (block_ptr b o) ⟧)
  peek_at τ b o = let p : Ptr = block_ptr b o in qed 𝓛 (‵ (Shown τ p) ∷ ‵ (noted R γ k) ∷ []) ∵ fsplit ! $ fpick ! (λ e. drop ! $ check ! e $ fpick ! (λ u. fsplit ! $ fsplit ! $
      let u₁ : Sight = (u.0, u.1, Share.left u.2) in let u₂ : Sight = (u.0, u.1, Share.right u.2) in
      -- [the block; the name; the seat; what is known]
      use1 𝓛 (‵ (lent R a α p u₁) ⊛ ‵ (moves.part 𝓛 R L a α p u₂)) (parts.halved 𝓛 R L a γ α p u) $ split ! $ move ! (2 ∷ 4 ∷ []) $
      use2 𝓛 (given (Agrees k u.0) (‵ (settled R γ u.0) ⊛ ‵ (noted R γ (Some u.0)))) (parts.agreed 𝓛 R L a γ k u.0) $ learn ! (λ so. split ! $
      move ! (2 ∷ 0 ∷ []) $ fjoin ! $ move ! (0 ∷ 3 ∷ []) $ fjoin ! $ fpack ! Sight (published R number a γ τ α p) u₁ $ nothing ! $ fpack ! (Testable p) (λ _. ftrue) e $ fjoin ! $ frame ! $
      nothing ! $ fpack ! (Agrees k u.0) (λ _. ftrue) so $ move ! (2 ∷ 1 ∷ 0 ∷ []) $ fjoin3 ! $ fpack ! Sight (moves.sight 𝓛 R L a γ k α p) u₂ $ nothing ! $ fpack ! (Testable p) (λ _. ftrue) e $ done !)))

  peek : (τ : Option EntryTie) (p : Ptr) → ⟦ Shown τ p ⟧ ∗ ⟦ noted R γ k ⟧ ⊢ ⟦ Shown τ p ⟧ ∗ ⟦ glimpse unknown p ⟧
  peek τ null_ptr = qed 𝓛 (‵ (Shown τ null_ptr) ∷ ‵ (noted R γ k) ∷ []) ∵ fsplit ! $ move ! (0 ∷ 2 ∷ []) $ use2 𝓛 (given (k ≡ None) (‵ (pending R γ))) (parts.unseen 𝓛 R L a γ k) $ learn ! (λ e. fjoin ! $ frame ! $ nothing ! $ fpack ! (k ≡ None) (λ _. ftrue) e $ done !)
  peek τ (block_ptr b o) = let p : Ptr = block_ptr b o in qed 𝓛 (‵ (Shown τ p) ∷ ‵ (noted R γ k) ∷ []) ∵ use2 𝓛 (given (Testable p) (‵ (Shown τ p) ⊛ ‵ (glimpse ftrue p))) (peek_at τ b o) $ learn ! (λ _. done !)

  module _ (b o : ℕ) (s : Share) where
    -- what the invariant of a tied entry holds
    abbrev Iτ : Option EntryTie → Fml
    Iτ τ = Tied_held R number a γ τ α b o

    abbrev I : Fml
    I = Iτ None

    pub reads_plain : (τ : Option EntryTie) → A.inv (fbor α (Iτ τ)) ∗ (A.lft α s ∗ ⟦ noted R γ k ⟧) ⊢ asks_ptr 𝓛 (block_ptr b o) (λ p. p) (λ p. fsep (flft α s) (glimpse unknown p))
    reads_plain τ = let I' : Fml = Iτ τ in let F : Ptr → Pr = PtrLies 𝓛 α s I' b o Ptr (λ p. p) (λ p. p) (λ _. ftrue) (glimpse unknown) in
        borrowed_ptr 𝓛 α s I' b o Ptr (λ p. p) (λ p. p) (λ _. ftrue) (glimpse unknown) ⟦ noted R γ k ⟧ (qed 𝓛 (‵ I' ∷ ‵ (noted R γ k) ∷ []) ∵ suffices ! _ (upd_i 𝓤 (ex 𝓤 F)) $ fpick ! (λ p. fsplit ! $ show ! F p $ frame ! $ nothing ! $ frame ! $
        assume ! (‵ (cell b o p)) $ suffices ! _ (upd_i 𝓤 (⟦ I' ⟧ ∗ ⟦ glimpse unknown p ⟧)) $ move ! (1 ∷ 2 ∷ []) $ use2 𝓛 (‵ (Shown τ p) ⊛ ‵ (glimpse unknown p)) (peek τ p) $ split ! $
        move ! (2 ∷ 0 ∷ []) $ fjoin ! $ fpack ! Ptr (tied_at R number a γ τ α b o) p $ done !))

    module _ (nb no ν : ℕ) (x : R.Denot) (good : Testable (block_ptr nb no)) where
      abbrev new : Ptr
      new = block_ptr nb no

      abbrev mine : Fml
      mine = moves.mine 𝓛 R L a γ k α b o s nb no ν x good

      abbrev won : Ptr → Fml
      won = moves.won 𝓛 R L a γ k α b o s nb no ν x good

      abbrev lost : Ptr → Fml
      lost = moves.lost 𝓛 R L a γ k α b o s nb no ν x good

      abbrev F : Ptr × Bool → Pr
      F = Compared 𝓛 α s I b o null_ptr new won lost

      found : (p : Ptr) → ⟦ cell b o p ⟧ ∗ ⟦ Shown None p ⟧ ∗ ⟦ mine ⟧ ∗ ⟦ noted R γ k ⟧ ⊢ ex 𝓤 F
      found null_ptr = let m = mark R γ x in let G : Pr = ⟦ I ⟧ ∗ ⟦ won null_ptr ⟧ in let u₁ : Sight = (x, ν, Share.left full_share) in
          qed 𝓛 (‵ (cell b o null_ptr) ∷ ‵ (Shown None null_ptr) ∷ ‵ mine ∷ ‵ (noted R γ k) ∷ []) ∵ show ! F (null_ptr, true) $ frame ! $ use0 𝓛 (‵ (alike null_ptr null_ptr true)) (alike_null 𝓛 null_ptr (lit< tt)) $ frame ! $
          fsplit ! $ move ! (0 ∷ 3 ∷ []) $ use2 𝓛 (given (k ≡ None) (‵ (pending R γ))) (parts.unseen 𝓛 R L a γ k) $ learn ! (λ e. assume ! (‵ (cell b o new)) $ move ! (1 ∷ []) $
          use1 𝓛 (raw (upd 𝓤 (A.obs γ m ∗ A.auth γ m))) (𝓛.names.name_set_upd γ gnil gnil m) $ settle 𝓛 G (‵ (fobs γ m) ⊛ ‵ (fauth γ m)) $ suffices ! _ (upd_i 𝓤 G) $ split ! $
          use1 𝓛 (‵ (fres γ m)) (𝓛.names.obs-res γ m) $ res_dup ! $ move ! (2 ∷ 0 ∷ []) $ fjoin ! $
          -- [the name; what is known; the word; the seat; the block]
          move ! (4 ∷ []) $ use1 𝓛 (‵ (lent R a α new u₁) ⊛ ‵ (moves.part 𝓛 R L a α new (x, ν, Share.right full_share))) (parts.halved 𝓛 R L a γ α new (x, ν, full_share)) $ split ! $
          -- [the block; a part of it; the name; what is known; the word; the seat]
          move ! (0 ∷ 2 ∷ []) $ fjoin ! $ move ! (0 ∷ 4 ∷ []) $ fjoin ! $ fpack ! Sight (published R number a γ None α new) u₁ $ nothing ! $ fpack ! (Testable new) (λ _. ftrue) good $ fjoin ! $
          -- [what is shown; a part of the block; what is known; the word]
          move ! (3 ∷ 0 ∷ []) $ fjoin ! $ fpack ! Ptr (tied_at R number a γ None α b o) new $ frame ! $
          frame ! $ frame ! $ nothing ! $ fpack ! (k ≡ None) (λ _. ftrue) e $ done !)
      found (block_ptr pb po) = let p : Ptr = block_ptr pb po in qed 𝓛 (‵ (cell b o p) ∷ ‵ (Shown None p) ∷ ‵ mine ∷ ‵ (noted R γ k) ∷ []) ∵ show ! F (p, false) $ frame ! $ move ! (0 ∷ 2 ∷ []) $
          use2 𝓛 (given (Testable p) (‵ (Shown None p) ⊛ ‵ (glimpse ftrue p))) (peek_at None pb po) $ learn ! (λ u. split ! $ use0 𝓛 (‵ (alike p null_ptr false)) (alike_null 𝓛 p u) $ frame ! $
          assume ! (‵ (cell b o p)) $ suffices ! _ (upd_i 𝓤 (⟦ I ⟧ ∗ ⟦ lost p ⟧)) $ fjoin ! $ fpack ! Ptr (tied_at R number a γ None α b o) p $ frame ! $ move ! (1 ∷ []) $ done !)

      pub offers_plain : A.inv (fbor α I) ∗ (A.lft α s ∗ (⟦ mine ⟧ ∗ ⟦ noted R γ k ⟧)) ⊢ compares 𝓛 (block_ptr b o) null_ptr new (λ p. fsep (flft α s) (won p)) (λ p. fsep (flft α s) (lost p))
      offers_plain = borrowed_compares 𝓛 α s I b o null_ptr new won lost (⟦ mine ⟧ ∗ ⟦ noted R γ k ⟧) (qed 𝓛 (‵ I ∷ ‵ mine ∷ ‵ (noted R γ k) ∷ []) ∵ suffices ! _ (upd_i 𝓤 (ex 𝓤 F)) $ fpick ! (λ p. fsplit ! $ by ! (found p)))
