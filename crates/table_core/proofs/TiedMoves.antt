-- The ghost steps of a tied entry: what a look and an exchange do, with the update that their caller brings. They are
-- those of `once_cell`, with the seat. Assumes `Logic`.
use Rattle.std.proofs.Common.{◌≡◌, ℕ, Bool, true, false, [], ◌∷◌, refl, lit<}
use seplogic.Ra.Ura.{Ura}
use base.Share
use base.Stored.{gnil}
use base.Fraction.{full_share}
use base.Logic.{SProp, ent, sep, wand, ex, upd, apply∗, all_e, upd_i}
use base.Fml.{Lft, Share, Fml, ftrue, ffalse, fsep, fex, fobs, fauth, fres, flft, fbor}
use types.Logic.{Logic, sem}
use types.Kit.{‵, raw, ◌⊛◌, given, ◌$◌, ◌∵◌, !, qed, by, move, drop, split, split3, join, fsplit, fsplit3, fjoin, fjoin3, fpick, fpack, learn, show, frame, assume, suffices, settle, done, use0, use1, use2, use3, rewrite}
use types.Tokens.{res_dup}
use denote.RattleType.{RattleType}
use denote.RawPtr.{Ptr, block_ptr, null_ptr, Testable}
use denote.Steps.{nothing}
use denote.Param.Laws.{Laws}
use Rattle.core.specs.Sync.RawAtomic.Pointer.{cell, alike, asks_ptr, compares}
use Rattle.core.proofs.raw_atomic.Asked.{PtrLies, alike_null}
use Rattle.std.specs.declared.alloc.Global.{Global}
use Rattle.std.specs.declared.option.Option.{Option}
use Rattle.std.specs.declared.option.Option.TheVariants.{None, Some}
use Rattle.once_cell.specs.Once.{Agrees, mark, pending, settled, noted, testable, lent}
use Rattle.once_cell.proofs.Moves.{part}
use Rattle.tie_core.specs.Visit.{EntryTie, Content, content_after, entry_seat, visited, visit}
use Rattle.table_core.specs.TiedEntry.{published, tied_shown, tied_at, Tied_held}
use Rattle.table_core.proofs.BlockParts as parts
use Rattle.table_core.proofs.EntryBoth as both

module _ {M : Type 1} {𝓤 : Ura M} (𝓛 : Logic 𝓤) (R : RattleType) (L : Laws R) (number : R.Denot → ℕ) (a : Global) (γ : ℕ) (t : EntryTie) (age : Lft) (J : Fml) (gain : Content → Fml) where
  open 𝓛 use {H, A}

  abbrev Pr : Type 2
  Pr = SProp 𝓤

  abbrev ◌⊢◌ : Pr → Pr → Type 1
  P ⊢ Q = ent 𝓤 P Q

  abbrev ◌∗◌ : Pr → Pr → Pr
  P ∗ Q = sep 𝓤 P Q

  abbrev ⟦◌⟧ : Fml → Pr
  ⟦ P ⟧ = sem 𝓛 P

  infix 26 ◌⊢◌
  infixr 35 ◌∗◌
  abbrev τ : Option EntryTie
  τ = Some t

  abbrev Sight : Type 0
  Sight = R.Denot × ℕ × Share

  -- the update of a visit, at what the entry holds
  runs : (brought v : Content) → ⟦ entry_seat τ v ⟧ ∗ ⟦ J ⟧ ∗ ⟦ visit age J gain t brought ⟧ ⊢ upd 𝓤 (⟦ entry_seat τ (content_after brought v) ⟧ ∗ ⟦ J ⟧ ∗ ⟦ gain v ⟧)
  runs brought v = let Turned : Content → Pr = λ c. wand 𝓤 (⟦ entry_seat τ c ⟧ ∗ ⟦ J ⟧) (upd 𝓤 ⟦ visited age J gain t brought c ⟧) in let Z : Pr = ⟦ entry_seat τ (content_after brought v) ⟧ ∗ ⟦ J ⟧ ∗ ⟦ gain v ⟧ in
      qed 𝓛 (‵ (entry_seat τ v) ∷ ‵ J ∷ ‵ (visit age J gain t brought) ∷ []) ∵ move ! (2 ∷ []) $ use1 𝓛 (raw (Turned v)) (all_e 𝓤 Turned v) $ move ! (1 ∷ 2 ∷ []) $ join ! $
      use2 𝓛 (raw (upd 𝓤 ⟦ visited age J gain t brought v ⟧)) (apply∗ 𝓤 (⟦ entry_seat τ v ⟧ ∗ ⟦ J ⟧) (upd 𝓤 ⟦ visited age J gain t brought v ⟧)) $ settle 𝓛 Z (‵ (visited age J gain t brought v)) $ fsplit3 ! $ suffices ! _ (upd_i 𝓤 Z) $ done !

  module _ (k : Option R.Denot) (α : Lft) where
    abbrev Shown : Ptr → Fml
    Shown = tied_shown R number a γ τ α

    -- what a reader takes away of a block, and what its caller's seat gained
    abbrev pub sight_for : Ptr → Sight → Fml
    sight_for p u = fsep (fsep (part 𝓛 R L a α p u) (fsep (noted R γ (Some u.0)) (fex (Agrees k u.0) (λ _. ftrue)))) (gain (Some (number u.0)))

    -- the same of an entry; `none` is at null
    abbrev pub glimpse_for : Fml → Ptr → Fml
    glimpse_for none null_ptr = none
    glimpse_for none (block_ptr b o) = fsep (testable R a (block_ptr b o)) (fex Sight (sight_for (block_ptr b o)))

    -- nothing was known, and the entry was empty
    abbrev pub nothing_for : Fml
    nothing_for = fsep (fex (k ≡ None) (λ _. ftrue)) (gain None)

    -- a look at a block, by an update that leaves it
    peek_block : (brought : Content) → ((j : ℕ) → content_after brought (Some j) ≡ Some j) → (none : Fml) (b o : ℕ)
        → ⟦ Shown (block_ptr b o) ⟧ ∗ ⟦ noted R γ k ⟧ ∗ (⟦ J ⟧ ∗ ⟦ visit age J gain t brought ⟧) ⊢ upd 𝓤 (⟦ Shown (block_ptr b o) ⟧ ∗ ⟦ J ⟧ ∗ ⟦ glimpse_for none (block_ptr b o) ⟧)
    peek_block brought stays none b o = let p : Ptr = block_ptr b o in let V : Fml = visit age J gain t brought in let Z : Pr = ⟦ Shown p ⟧ ∗ ⟦ J ⟧ ∗ ⟦ glimpse_for none p ⟧ in
        qed 𝓛 (‵ (Shown p) ∷ ‵ (noted R γ k) ∷ ‵ J ∷ ‵ V ∷ []) ∵ fsplit ! $ fpick ! (λ e. drop ! $ fpick ! (λ u. fsplit ! $ fsplit ! $
        let u₁ : Sight = (u.0, u.1, Share.left u.2) in let u₂ : Sight = (u.0, u.1, Share.right u.2) in let n : Content = Some (number u.0) in
        -- [the block; the name; the seat; what is known; the table; the update]
        use1 𝓛 (‵ (lent R a α p u₁) ⊛ ‵ (part 𝓛 R L a α p u₂)) (parts.halved 𝓛 R L a γ α p u) $ split ! $ move ! (2 ∷ 4 ∷ []) $
        use2 𝓛 (given (Agrees k u.0) (‵ (settled R γ u.0) ⊛ ‵ (noted R γ (Some u.0)))) (parts.agreed 𝓛 R L a γ k u.0) $ learn ! (λ so. split ! $ move ! (4 ∷ 5 ∷ 6 ∷ []) $
        use3 𝓛 (raw (upd 𝓤 (⟦ entry_seat τ (content_after brought n) ⟧ ∗ ⟦ J ⟧ ∗ ⟦ gain n ⟧))) (runs brought n) $ settle 𝓛 Z (‵ (entry_seat τ (content_after brought n)) ⊛ ‵ J ⊛ ‵ (gain n)) $ split3 ! $
        rewrite ! 0 (λ (v : Content). ‵ (entry_seat τ v)) (stays (number u.0)) refl $ suffices ! _ (upd_i 𝓤 Z) $
        -- [the seat; the table; the gain; the name; what is known; the block; a part of it]
        move ! (5 ∷ 3 ∷ []) $ fjoin ! $ fjoin ! $ fpack ! Sight (published R number a γ τ α p) u₁ $ nothing ! $ fpack ! (Testable p) (λ _. ftrue) e $ fjoin ! $
        nothing ! $ fpack ! (Agrees k u.0) (λ _. ftrue) so $ move ! (5 ∷ 4 ∷ 0 ∷ []) $ fjoin3 ! $ move ! (0 ∷ 3 ∷ []) $ fjoin ! $ fpack ! Sight (sight_for p) u₂ $ nothing ! $ fpack ! (Testable p) (λ _. ftrue) e $ fjoin ! $
        move ! (1 ∷ 2 ∷ 0 ∷ []) $ done !)))

    -- a look
    peek_for : (p : Ptr) → ⟦ Shown p ⟧ ∗ ⟦ noted R γ k ⟧ ∗ (⟦ J ⟧ ∗ ⟦ visit age J gain t None ⟧) ⊢ upd 𝓤 (⟦ Shown p ⟧ ∗ ⟦ J ⟧ ∗ ⟦ glimpse_for nothing_for p ⟧)
    peek_for (block_ptr b o) = peek_block None (λ j. refl) nothing_for b o
    peek_for null_ptr = let Z : Pr = ⟦ Shown null_ptr ⟧ ∗ ⟦ J ⟧ ∗ ⟦ nothing_for ⟧ in
        qed 𝓛 (‵ (Shown null_ptr) ∷ ‵ (noted R γ k) ∷ ‵ J ∷ ‵ (visit age J gain t None) ∷ []) ∵ fsplit ! $ move ! (0 ∷ 2 ∷ []) $ use2 𝓛 (given (k ≡ None) (‵ (pending R γ))) (parts.unseen 𝓛 R L a γ k) $ learn ! (λ e. move ! (1 ∷ 2 ∷ 3 ∷ []) $
        use3 𝓛 (raw (upd 𝓤 (⟦ entry_seat τ None ⟧ ∗ ⟦ J ⟧ ∗ ⟦ gain None ⟧))) (runs None None) $ settle 𝓛 Z (‵ (entry_seat τ None) ⊛ ‵ J ⊛ ‵ (gain None)) $ split3 ! $ suffices ! _ (upd_i 𝓤 Z) $
        -- [the seat; the table; the gain; the name]
        move ! (3 ∷ 0 ∷ []) $ fjoin ! $ nothing ! $ fpack ! (k ≡ None) (λ _. ftrue) e $ move ! (0 ∷ 3 ∷ []) $ fjoin ! $ move ! (1 ∷ 2 ∷ 0 ∷ []) $ done !)

    module _ (b o : ℕ) (s r : Share) where
      abbrev I : Fml
      I = Tied_held R number a γ τ α b o

      -- the look's step
      pub reads_for : (i j : ℕ) → ¬ (j ≡ i) → A.named i (fbor α I) ∗ A.named j (fbor age J) ∗ A.lft α s ∗ A.lft age r ∗ (⟦ noted R γ k ⟧ ∗ ⟦ visit age J gain t None ⟧)
          ⊢ asks_ptr 𝓛 (block_ptr b o) (λ p. p) (λ p. fsep (flft α s) (fsep (flft age r) (glimpse_for nothing_for p)))
      reads_for i j apart = let also : Ptr → Fml = λ p. fsep J (glimpse_for nothing_for p) in let F : Ptr → Pr = PtrLies 𝓛 α s I b o Ptr (λ p. p) (λ p. p) (λ _. ftrue) also in
          both.borrowed_ptr_both 𝓛 α age s r I J b o Ptr (λ p. p) (λ p. p) (λ _. ftrue) (glimpse_for nothing_for) i j apart (⟦ noted R γ k ⟧ ∗ ⟦ visit age J gain t None ⟧)
          (qed 𝓛 (‵ I ∷ ‵ J ∷ ‵ (noted R γ k) ∷ ‵ (visit age J gain t None) ∷ []) ∵ suffices ! _ (upd_i 𝓤 (ex 𝓤 F)) $ fpick ! (λ p. fsplit ! $ show ! F p $ frame ! $ nothing ! $ frame ! $
          assume ! (‵ (cell b o p)) $ let Z : Pr = ⟦ I ⟧ ∗ ⟦ also p ⟧ in
          -- [the word; what is shown; the table; what is known; the update]
          move ! (2 ∷ 4 ∷ []) $ join ! $ move ! (2 ∷ 3 ∷ 0 ∷ []) $ use3 𝓛 (raw (upd 𝓤 (⟦ Shown p ⟧ ∗ ⟦ J ⟧ ∗ ⟦ glimpse_for nothing_for p ⟧))) (peek_for p) $
          settle 𝓛 Z (‵ (Shown p) ⊛ ‵ J ⊛ ‵ (glimpse_for nothing_for p)) $ split3 ! $ suffices ! _ (upd_i 𝓤 Z) $ move ! (3 ∷ 0 ∷ []) $ fjoin ! $ fpack ! Ptr (tied_at R number a γ τ α b o) p $
          move ! (1 ∷ 2 ∷ []) $ fjoin ! $ move ! (1 ∷ 0 ∷ []) $ done !))

      module _ (nb no ν : ℕ) (x : R.Denot) (good : Testable (block_ptr nb no)) where
        abbrev new : Ptr
        new = block_ptr nb no

        -- the block that is brought, and its seat's number
        abbrev pub mine : Fml
        mine = lent R a α new (x, ν, full_share)

        abbrev brought : Content
        brought = Some (number x)

        abbrev V : Fml
        V = visit age J gain t brought

        abbrev pub won : Ptr → Fml
        won p = fsep (part 𝓛 R L a α new (x, ν, Share.right full_share)) (fsep (noted R γ (Some x)) nothing_for)

        abbrev pub lost : Ptr → Fml
        lost p = fsep mine (glimpse_for ffalse p)

        abbrev F : Ptr × Bool → Pr
        F = both.Compared_both 𝓛 α age s r I J b o null_ptr new won lost

        found : (p : Ptr) → ⟦ cell b o p ⟧ ∗ ⟦ Shown p ⟧ ∗ ⟦ J ⟧ ∗ ⟦ mine ⟧ ∗ ⟦ noted R γ k ⟧ ∗ ⟦ V ⟧ ⊢ ex 𝓤 F
        found null_ptr = let m = mark R γ x in let G : Pr = ⟦ I ⟧ ∗ ⟦ fsep J (won null_ptr) ⟧ in let u₁ : Sight = (x, ν, Share.left full_share) in
            qed 𝓛 (‵ (cell b o null_ptr) ∷ ‵ (Shown null_ptr) ∷ ‵ J ∷ ‵ mine ∷ ‵ (noted R γ k) ∷ ‵ V ∷ []) ∵ show ! F (null_ptr, true) $ frame ! $ use0 𝓛 (‵ (alike null_ptr null_ptr true)) (alike_null 𝓛 null_ptr (lit< tt)) $ frame ! $
            fsplit ! $ move ! (0 ∷ 4 ∷ []) $ use2 𝓛 (given (k ≡ None) (‵ (pending R γ))) (parts.unseen 𝓛 R L a γ k) $ learn ! (λ e. assume ! (‵ (cell b o new)) $ move ! (1 ∷ []) $
            use1 𝓛 (raw (upd 𝓤 (A.obs γ m ∗ A.auth γ m))) (𝓛.names.name_set_upd γ gnil gnil m) $ settle 𝓛 G (‵ (fobs γ m) ⊛ ‵ (fauth γ m)) $ split ! $
            use1 𝓛 (‵ (fres γ m)) (𝓛.names.obs-res γ m) $ res_dup ! $ move ! (2 ∷ 0 ∷ []) $ fjoin ! $
            -- [the name; what is known; the word; the seat; the table; the block; the update]
            move ! (3 ∷ 4 ∷ 6 ∷ []) $ use3 𝓛 (raw (upd 𝓤 (⟦ entry_seat τ brought ⟧ ∗ ⟦ J ⟧ ∗ ⟦ gain None ⟧))) (runs brought None) $ settle 𝓛 G (‵ (entry_seat τ brought) ⊛ ‵ J ⊛ ‵ (gain None)) $ split3 ! $ suffices ! _ (upd_i 𝓤 G) $
            -- [the seat; the table; the gain; the name; what is known; the word; the block]
            move ! (6 ∷ []) $ use1 𝓛 (‵ (lent R a α new u₁) ⊛ ‵ (part 𝓛 R L a α new (x, ν, Share.right full_share))) (parts.halved 𝓛 R L a γ α new (x, ν, full_share)) $ split ! $
            move ! (0 ∷ 5 ∷ []) $ fjoin ! $ move ! (0 ∷ 2 ∷ []) $ fjoin ! $ fpack ! Sight (published R number a γ τ α new) u₁ $ nothing ! $ fpack ! (Testable new) (λ _. ftrue) good $ fjoin ! $
            -- [what is shown; a part of the block; the table; the gain; what is known; the word]
            move ! (5 ∷ 0 ∷ []) $ fjoin ! $ fpack ! Ptr (tied_at R number a γ τ α b o) new $ frame ! $
            nothing ! $ fpack ! (k ≡ None) (λ _. ftrue) e $ move ! (0 ∷ 3 ∷ []) $ fjoin ! $ move ! (3 ∷ 0 ∷ []) $ fjoin ! $ move ! (1 ∷ 0 ∷ []) $ fjoin ! $ move ! (1 ∷ 0 ∷ []) $ fjoin ! $ done !)
        found (block_ptr pb po) = let p : Ptr = block_ptr pb po in let G : Pr = ⟦ I ⟧ ∗ ⟦ fsep J (lost p) ⟧ in
            qed 𝓛 (‵ (cell b o p) ∷ ‵ (Shown p) ∷ ‵ J ∷ ‵ mine ∷ ‵ (noted R γ k) ∷ ‵ V ∷ []) ∵ show ! F (p, false) $ frame ! $
            fsplit ! $ fpick ! (λ e. drop ! $ use0 𝓛 (‵ (alike p null_ptr false)) (alike_null 𝓛 p e) $ frame ! $ nothing ! $ fpack ! (Testable p) (λ _. ftrue) e $ fjoin ! $ assume ! (‵ (cell b o p)) $
            -- [the word; what is shown; the table; the block; what is known; the update]
            move ! (2 ∷ 5 ∷ []) $ join ! $ move ! (2 ∷ 4 ∷ 0 ∷ []) $ use3 𝓛 (raw (upd 𝓤 (⟦ Shown p ⟧ ∗ ⟦ J ⟧ ∗ ⟦ glimpse_for ffalse p ⟧))) (peek_block brought (λ j. refl) ffalse pb po) $
            settle 𝓛 G (‵ (Shown p) ⊛ ‵ J ⊛ ‵ (glimpse_for ffalse p)) $ split3 ! $ suffices ! _ (upd_i 𝓤 G) $ move ! (3 ∷ 0 ∷ []) $ fjoin ! $ fpack ! Ptr (tied_at R number a γ τ α b o) p $ frame ! $
            move ! (2 ∷ 1 ∷ []) $ fjoin ! $ move ! (1 ∷ 0 ∷ []) $ fjoin ! $ done !)

        -- the exchange's step
        pub offers_for : (i j : ℕ) → ¬ (j ≡ i) → A.named i (fbor α I) ∗ A.named j (fbor age J) ∗ A.lft α s ∗ A.lft age r ∗ (⟦ mine ⟧ ∗ ⟦ noted R γ k ⟧ ∗ ⟦ V ⟧)
            ⊢ compares 𝓛 (block_ptr b o) null_ptr new (λ p. fsep (flft α s) (fsep (flft age r) (won p))) (λ p. fsep (flft α s) (fsep (flft age r) (lost p)))
        offers_for i j apart = both.borrowed_compares_both 𝓛 α age s r I J b o null_ptr new won lost i j apart (⟦ mine ⟧ ∗ ⟦ noted R γ k ⟧ ∗ ⟦ V ⟧)
            (qed 𝓛 (‵ I ∷ ‵ J ∷ ‵ mine ∷ ‵ (noted R γ k) ∷ ‵ V ∷ []) ∵ suffices ! _ (upd_i 𝓤 (ex 𝓤 F)) $ fpick ! (λ p. fsplit ! $ by ! (found p)))
