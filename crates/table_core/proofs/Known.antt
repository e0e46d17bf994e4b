-- Knowledge of an entry that is owned whole, and of one that is set from the start. Assumes `Logic`.
use Rattle.std.proofs.Common.{◌≡◌, ℕ, List, [], ◌∷◌, refl, ap}
use seplogic.Ra.Ura.{Ura}
use base.Stored.{Gv, gnil, gcons}
use base.Logic.{ent, sep}
use base.Fml.{Lft, ftrue, fsep, fauth, fres}
use types.Logic.{Logic, sem}
use types.Kit.{Item, Goal, Soaks, Seq, ‵, ◌⊛◌, given, ◌$◌, ◌∵◌, !, qed, move, drop, learn, updating, now, split, fsplit, fjoin, fpick, fpack, use1, use2, done}
use types.Tokens.{lft_new, lft_end, bor_new, lent_back}
use denote.RattleType.{RattleType}
use denote.RawPtr.{Ptr, block_ptr, null_ptr, Testable}
use denote.Param.Laws.{Laws}
use denote.Steps.{nothing}
use Rattle.std.specs.declared.alloc.Global.{Global}
use Rattle.std.specs.declared.option.Option.{Option}
use Rattle.std.specs.declared.option.Option.TheVariants.{None, Some}
use Rattle.once_cell.specs.Once.{boxed, resting, settled, mark}
use Rattle.once_cell.proofs.Moves.{second, tested}
use Rattle.tie_core.specs.Visit.{EntryTie, entry_seat}
use Rattle.table_core.specs.Entry.{Agrees, Fit, noted}
use Rattle.table_core.specs.TiedEntry.{tied_kept}
use Rattle.table_core.proofs.Fits.{fit_in}

some_apart : (x y : Gv) → gcons x y ≡ gnil → ⊥
some_apart x y same = cc

module _ (R : RattleType) {N : Type 0} (measure : R.Denot → N) (n : N) (number : R.Denot → ℕ) (τ : Option EntryTie) (a : Global) (γ : ℕ) where
  abbrev F : RattleType
  F = Fit R measure n

  module _ {M : Type 1} {𝓤 : Ura M} {𝓛 : Logic 𝓤} {K : Type 0} {Γ : List (Item 𝓤)} {G : Goal 𝓤 𝓛.H} where
    -- the word is null only to a sight that knows nothing, otherwise the box is that of the block that is
    -- known
    pub either_known : K → Soaks G → (p : Ptr) (k : Option R.Denot) → (p ≡ null_ptr → k ≡ None → Seq K 𝓛 Γ G)
        → ((b o : ℕ) (x : R.Denot) → p ≡ block_ptr b o → Testable (block_ptr b o) → Agrees k x → Seq K 𝓛 (‵ (boxed F a (block_ptr b o) x) ∷ Γ) G)
        → Seq K 𝓛 (‵ (tied_kept F number a γ τ p) ∷ ‵ (noted R γ k) ∷ Γ) G
    either_known t z null_ptr None none one = drop t $ drop t $ none refl refl
    either_known t z null_ptr (Some y) none one = let m : Gv = gcons gnil (R.coded.code y) in fsplit t $ fsplit t $ move t (3 ∷ 1 ∷ []) $
        use2 𝓛 (given (m ≡ gnil) (‵ (fres γ m) ⊛ ‵ (fauth γ gnil))) (𝓛.names.res_agree γ m gnil) $ learn t (λ e. absurd (some_apart gnil (R.coded.code y) e))
    either_known t z (block_ptr b o) None none one = fsplit t $ fpick t (λ e. drop t $ fpick t (λ s. fsplit t $ fsplit t $ move t (1 ∷ []) $ drop t $ move t (1 ∷ []) $ drop t $ move t (1 ∷ []) $ drop t $ fsplit t $ lent_back t z $ one b o s.0 refl e tt))
    either_known t z (block_ptr b o) (Some y) none one = let m : Gv = gcons gnil (R.coded.code y) in fsplit t $ fpick t (λ e. drop t $ fpick t (λ s. let m' : Gv = mark F γ s.0 in fsplit t $ fsplit t $ move t (1 ∷ []) $ fsplit t $ move t (4 ∷ 0 ∷ []) $
        -- [known; the name; the value; what rests; the seat; ..]
        use2 𝓛 (given (m ≡ m') (‵ (fres γ m) ⊛ ‵ (fauth γ m'))) (𝓛.names.res_agree γ m m') $ learn t (λ same. split t $ drop t $ drop t $ drop t $ move t (1 ∷ []) $ drop t $ fsplit t $ lent_back t z $ one b o s.0 refl e (R.coded.inj y s.0 (ap second same)))))

  module _ {M : Type 1} {𝓤 : Ura M} (𝓛 : Logic 𝓤) where
    open 𝓛 use {H}

    -- an entry that is set from the start, under a name that has its value, with the block's seat
    pub kept_made : (L : Laws R) (b o : ℕ) (x : R.Denot) → measure x ≡ n
        → ent 𝓤 (sep 𝓤 (sem 𝓛 (boxed R a (block_ptr b o) x)) (sep 𝓤 (sem 𝓛 (settled F γ x)) (sem 𝓛 (entry_seat τ (Some (number x)))))) (H.⇛ (sem 𝓛 (tied_kept F number a γ τ (block_ptr b o))))
    kept_made L b o x so = let p : Ptr = block_ptr b o in qed 𝓛 (‵ (boxed R a p x) ∷ ‵ (settled F γ x) ∷ ‵ (entry_seat τ (Some (number x))) ∷ []) ∵ updating ! $
        use1 𝓛 (given (Testable p) (‵ (boxed R a p x))) (tested 𝓛 R L a p x) $ learn ! (λ e. use1 𝓛 (‵ (boxed F a p x)) (fit_in R measure n 𝓛 a p x so) $
        lft_new ! tt (λ ν. move ! (1 ∷ []) $ bor_new ! tt (ν ∷ []) $ drop ! $ move ! (1 ∷ []) $ lft_end ! tt $ now ! $
        -- [the lifetime's end; the box; settled; the seat]
        fjoin ! $ fjoin ! $ fjoin ! $ fpack ! (F.Denot × Lft) (λ s. fsep (fsep (resting F a p s) (settled F γ s.0)) (entry_seat τ (Some (number s.0)))) (x, ν ∷ []) $ nothing ! $ fpack ! (Testable p) (λ _. ftrue) e $ fjoin ! $ done !))
