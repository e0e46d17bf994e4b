-- An entry that is owned takes a name that another entry has not. Assumes `Logic`.
use Rattle.std.proofs.Common.{◌≡◌, ◌≢◌, ℕ, List, [], ◌∷◌, refl, sym}
use seplogic.Ra.Ura.{Ura}
use mathlib.Core.Logic.{dite}
use native.Mathlib.Decide.{ℕ_discrete}
use mir.Val.{Val}
use base.Stored.{Gv, gnil, gcons, gnum}
use base.Logic.{SProp, ent, sep, guard}
use base.Fml.{Lft, Fml, ftrue, fsep, fex, fobs, fauth}
use types.Logic.{Logic, sem}
use types.Kit.{‵, ◌⊛◌, given, later, ◌$◌, ◌∵◌, !, qed, move, keep, drop, check, learn, await, updating, now, split, split3, fsplit, fjoin, fpick, fpack, use2, use3, rewrite, done}
use types.Tokens.{name_new, name_done}
use denote.RattleType.{RattleType}
use denote.RawPtr.{Ptr, block_ptr, null_ptr}
use denote.Steps.{nothing}
use Rattle.core.specs.Sync.Atomic.Pointer.{atomic_ptr_holding}
use Rattle.std.specs.declared.alloc.Global.{Global}
use Rattle.once_cell.specs.Once.{resting, settled, mark}
use Rattle.std.specs.declared.option.Option.{Option}
use Rattle.std.specs.declared.option.Option.TheVariants.{Some}
use Rattle.tie_core.specs.Visit.{EntryTie, entry_seat}
use Rattle.table_core.specs.Entry.{EntryView, name_of, tie_of, Cast}
use Rattle.table_core.specs.TiedEntry.{tied_kept}
use Rattle.table_core.specs.declared.entry.steps.Measured.{Ghosts}
use Rattle.table_core.specs.contracts.entry.steps.Entry as entry
use Rattle.table_core.specs.contracts.entry.steps.Entry.TheInside as inside

nil_apart : (x y : Gv) → gnil ≡ gcons x y → ⊥
nil_apart x y same = cc

num_apart : gnum 0 ≡ gnil → ⊥
num_apart same = cc

module _ {M : Type 1} {𝓤 : Ura M} (𝓛 : Logic 𝓤) where
  open 𝓛 use {H, A}

  module _ (F : RattleType) (number : F.Denot → ℕ) (a : Global) (γ : ℕ) (τ : Option EntryTie) (δ : ℕ) (u : Gv) where
    abbrev Kept : Ptr → Fml
    Kept = tied_kept F number a γ τ

    -- a name that can be set is not that of an entry that is owned
    clashes : (p : Ptr) (X : SProp 𝓤) → δ ≡ γ → ent 𝓤 (sep 𝓤 (A.obs δ u) (sep 𝓤 (A.auth δ u) (sem 𝓛 (Kept p)))) (H.⇛ X)
    clashes null_ptr X same = let c : Gv = gnum 0 in qed 𝓛 (‵ (fobs δ u) ∷ ‵ (fauth δ u) ∷ ‵ (Kept null_ptr) ∷ []) ∵ updating ! $
        use2 𝓛 (later (‵ (fobs δ c) ⊛ ‵ (fauth δ c))) (𝓛.names.name_set δ u u c) $ await ! tt $ split ! $ move ! (2 ∷ []) $ fsplit ! $ fsplit ! $
        rewrite ! 1 (λ (k : ℕ). ‵ (fauth k gnil)) (sym same) refl $ move ! (3 ∷ 1 ∷ []) $
        use2 𝓛 (given (c ≡ gnil) (‵ (fobs δ c) ⊛ ‵ (fauth δ gnil))) (𝓛.names.name_agree δ c gnil) $ learn ! (λ e. absurd (num_apart e))
    clashes (block_ptr b o) X same = let c : Gv = gnil in qed 𝓛 (‵ (fobs δ u) ∷ ‵ (fauth δ u) ∷ ‵ (Kept (block_ptr b o)) ∷ []) ∵ updating ! $
        use2 𝓛 (later (‵ (fobs δ c) ⊛ ‵ (fauth δ c))) (𝓛.names.name_set δ u u c) $ await ! tt $ split ! $ move ! (2 ∷ []) $ fsplit ! $ move ! (1 ∷ []) $ fpick ! (λ s. fsplit ! $ fsplit ! $ move ! (1 ∷ []) $ fsplit ! $
        let d : Gv = mark F γ s.0 in rewrite ! 0 (λ (k : ℕ). ‵ (fauth k d)) (sym same) refl $ move ! (5 ∷ 0 ∷ []) $
        use2 𝓛 (given (c ≡ d) (‵ (fobs δ c) ⊛ ‵ (fauth δ d))) (𝓛.names.name_agree δ c d) $ learn ! (λ e. absurd (nil_apart gnil (F.coded.code s.0) e)))

    is_new : (p : Ptr) → ent 𝓤 (sep 𝓤 (A.obs δ u) (sep 𝓤 (A.auth δ u) (sem 𝓛 (Kept p))))
        (H.⇛ (guard 𝓤 (δ ≢ γ) (sep 𝓤 (A.obs δ u) (sep 𝓤 (A.auth δ u) (sem 𝓛 (Kept p))))))
    is_new p = dite (ℕ_discrete δ γ) (λ same. clashes p _ same)
        (λ other. qed 𝓛 (‵ (fobs δ u) ∷ ‵ (fauth δ u) ∷ ‵ (Kept p) ∷ []) ∵ updating ! $ now ! $ check ! other $ done !)

  module _ (F : RattleType) (number : F.Denot → ℕ) (a : Global) (γ : ℕ) (τ : Option EntryTie) (F' : RattleType) (number' : F'.Denot → ℕ) (a' : Global) (γ' : ℕ) (τ' : Option EntryTie) (p' : Ptr) where
    -- what an entry owns under a name
    abbrev Under : ℕ → Ptr → Fml
    Under δ p = tied_kept F number a δ τ p

    -- what the other one owns
    abbrev Other : Fml
    Other = tied_kept F' number' a' γ' τ' p'

    -- what an entry owns under a name that is not γ'
    abbrev Anew : Ptr → Fml
    Anew p = fex ℕ (λ δ. fsep (fex (δ ≢ γ') (λ _. ftrue)) (Under δ p))

    renewed : (p : Ptr) → ent 𝓤 (sep 𝓤 (sem 𝓛 (Under γ p)) (sem 𝓛 Other))
        (H.⇛ (sep 𝓤 (sem 𝓛 (Anew p)) (sem 𝓛 Other)))
    renewed null_ptr = qed 𝓛 (‵ (Under γ null_ptr) ∷ ‵ Other ∷ []) ∵ updating ! $ name_new ! tt gnil (λ δ. move ! (0 ∷ 1 ∷ 3 ∷ []) $
        use3 𝓛 (later (given (δ ≢ γ') (‵ (fobs δ gnil) ⊛ ‵ (fauth δ gnil) ⊛ ‵ Other))) (is_new F' number' a' γ' τ' δ gnil p') $ await ! tt $ learn ! (λ apart. split3 ! $ now ! $
        -- [the new name; the other entry; the entry]
        fjoin ! $ move ! (2 ∷ []) $ fsplit ! $ drop ! $ move ! (1 ∷ 0 ∷ []) $ fjoin ! $ nothing ! $ fpack ! (δ ≢ γ') (λ _. ftrue) apart $ fjoin ! $ fpack ! ℕ (λ k. fsep (fex (k ≢ γ') (λ _. ftrue)) (Under k null_ptr)) δ $ keep ! (0 ∷ 1 ∷ []) $ done !))
    renewed (block_ptr b o) = let p : Ptr = block_ptr b o in qed 𝓛 (‵ (Under γ p) ∷ ‵ Other ∷ []) ∵ updating ! $ fsplit ! $ move ! (1 ∷ []) $ fpick ! (λ s. fsplit ! $ fsplit ! $
        -- [what rests; the old name; the seat; the pointer; the other entry]
        let m : Gv = mark F γ s.0 in name_new ! tt m (λ δ. move ! (0 ∷ 1 ∷ 6 ∷ []) $
        use3 𝓛 (later (given (δ ≢ γ') (‵ (fobs δ m) ⊛ ‵ (fauth δ m) ⊛ ‵ Other))) (is_new F' number' a' γ' τ' δ m p') $ await ! tt $ learn ! (λ apart. split3 ! $ name_done ! tt $ now ! $
        move ! (1 ∷ 0 ∷ []) $ fjoin ! $ move ! (2 ∷ 0 ∷ []) $ fjoin ! $ move ! (0 ∷ 3 ∷ []) $ fjoin ! $
        fpack ! (F.Denot × Lft) (λ r. fsep (fsep (resting F a p r) (settled F δ r.0)) (entry_seat τ (Some (number r.0)))) s $ move ! (3 ∷ 0 ∷ []) $ fjoin ! $
        nothing ! $ fpack ! (δ ≢ γ') (λ _. ftrue) apart $ fjoin ! $ fpack ! ℕ (λ k. fsep (fex (k ≢ γ') (λ _. ftrue)) (Under k p)) δ $ keep ! (0 ∷ 1 ∷ []) $ done !)))

  module _ (R : RattleType) (g : Ghosts R.Denot) where
    abbrev pub Row : RattleType
    Row = entry.the_row R g

    -- the fields of an entry whose word is the pointer
    abbrev Fields : EntryView → List Val → Ptr → Fml
    Fields e vs p = (inside.the_row R g).own_val (record { word = atomic_ptr_holding p; alloc = e.0 }) vs

    -- the entry under a name that the other has not
    abbrev pub Renamed : EntryView → EntryView → List Val → Fml
    Renamed e d vs = fex ℕ (λ γ. fsep (fex (γ ≢ name_of d) (λ _. ftrue)) (Row.own_val (e.0, e.1, γ, e.3) vs))

    pub renames : (e d : EntryView) (vs ws : List Val) → ent 𝓤 (sep 𝓤 (sem 𝓛 (Row.own_val e vs)) (sem 𝓛 (Row.own_val d ws)))
        (H.⇛ (sep 𝓤 (sem 𝓛 (Renamed e d vs)) (sem 𝓛 (Row.own_val d ws))))
    renames e d vs ws = let F : RattleType = Cast R g.measure g.mould e in let F' : RattleType = Cast R g.measure g.mould d in let τ : Option EntryTie = tie_of e in let τ' : Option EntryTie = tie_of d in
        qed 𝓛 (‵ (Row.own_val e vs) ∷ ‵ (Row.own_val d ws) ∷ []) ∵ updating ! $ fsplit ! $ move ! (1 ∷ []) $ fpick ! (λ p. fsplit ! $ move ! (3 ∷ []) $ fsplit ! $ move ! (1 ∷ []) $ fpick ! (λ p'. fsplit ! $
        -- [the other's fields; its name; its type; the fields; the name; the type]
        move ! (4 ∷ 1 ∷ []) $ use2 𝓛 (later (‵ (Anew F g.seat e.0 (name_of e) τ F' g.seat d.0 (name_of d) τ' p' p) ⊛ ‵ (tied_kept F' g.seat d.0 (name_of d) τ' p'))) (renewed F g.seat e.0 (name_of e) τ F' g.seat d.0 (name_of d) τ' p' p) $ await ! tt $ split ! $ now ! $
        fpick ! (λ γ. fsplit ! $ move ! (5 ∷ 1 ∷ []) $ fjoin ! $ fpack ! Ptr (λ x. fsep (Fields e vs x) (tied_kept F g.seat e.0 γ τ x)) p $ move ! (5 ∷ 0 ∷ []) $ fjoin ! $ move ! (1 ∷ 0 ∷ []) $ fjoin ! $
        fpack ! ℕ (λ k. fsep (fex (k ≢ name_of d) (λ _. ftrue)) (Row.own_val (e.0, e.1, k, e.3) vs)) γ $ move ! (2 ∷ 1 ∷ []) $ fjoin ! $ fpack ! Ptr (λ x. fsep (Fields d ws x) (tied_kept F' g.seat d.0 (name_of d) τ' x)) p' $ move ! (2 ∷ 0 ∷ []) $ fjoin ! $ move ! (1 ∷ 0 ∷ []) $ done !)))
