-- A block of the entry's length, or of another measure, as a type. Assumes `Logic`.
use Rattle.std.proofs.Common.{◌≡◌, ℕ, List, [], ◌∷◌, ap}
use Rattle.std.proofs.lemmas.Option.{none-some}
use seplogic.Ra.Ura.{Ura}
use mir.Val.{Val}
use base.Fraction.{full_share}
use base.Logic.{ent, guard, never_e}
use base.Fml.{Lft, ftrue, fsep}
use types.Logic.{Logic, sem}
use types.Kit.{‵, ◌$◌, ◌∵◌, !, qed, by, move, keep, drop, check, fsplit, fjoin, fpick, fpack, done}
use denote.RattleType.{RattleType}
use denote.Memory.{part_of, cell_raw, raw_all, shared_of}
use denote.RawPtr.{Ptr, block_ptr, null_ptr}
use denote.Steps.{nothing}
use denote.Sharing.{said}
use denote.SharingLaws.{said_shr_laws}
use denote.Param.Laws.{Laws}
use denote.Model.Laws.{by_fields_laws}
use denote.Struct.Lending.{lent_at, Lends-said}
use Rattle.std.specs.declared.alloc.Global.{Global}
use Rattle.std.specs.declared.option.Option.{Option}
use Rattle.std.specs.declared.option.Option.TheVariants.{None, Some}
use Rattle.once_cell.specs.Once.{boxed}
use Rattle.once_cell.specs.Once as once
use Rattle.tie_core.specs.Visit.{EntryTie}
use Rattle.table_core.specs.Entry.{Bond, Mould, tie_in, mould_in, seen_as, noted, fits, Fit}

module _ (R : RattleType) {N : Type 0} (measure : R.Denot → N) (n : N) where
  -- such blocks have the laws of all blocks
  pub fit_laws : Laws R → Laws (Fit R measure n)
  fit_laws L = by_fields_laws R R.Denot R.coded (λ x. x) (fits R measure n) (λ x b o. said (fits R measure n x)) L
      (λ M 𝓤 𝓛 x b o. Lends-said 𝓛 (fits R measure n x) (λ _. tt) R.lives) (λ x b o. said_shr_laws (fits R measure n x) (λ _. tt))

  -- what is known of an entry is known of a cell of such blocks
  pub fit_noted : {M : Type 1} {𝓤 : Ura M} (𝓛 : Logic 𝓤) (γ : ℕ) (k : Option R.Denot)
      → ent 𝓤 (sem 𝓛 (noted R γ k)) (sem 𝓛 (once.noted (Fit R measure n) γ k))
  fit_noted 𝓛 γ None = qed 𝓛 (‵ ftrue ∷ []) ∵ done !
  fit_noted 𝓛 γ (Some x) = qed 𝓛 (‵ (noted R γ (Some x)) ∷ []) ∵ done !

  module _ {M : Type 1} {𝓤 : Ura M} (𝓛 : Logic 𝓤) (a : Global) where
    -- a box of a block of the measure is a box of such a block
    pub fit_in : (p : Ptr) (x : R.Denot) → measure x ≡ n → ent 𝓤 (sem 𝓛 (boxed R a p x)) (sem 𝓛 (boxed (Fit R measure n) a p x))
    unfolding part_of
    fit_in null_ptr x so = qed 𝓛 (‵ (boxed R a null_ptr x) ∷ []) ∵ done !
    fit_in (block_ptr b o) x so = qed 𝓛 (‵ (boxed R a (block_ptr b o) x) ∷ []) ∵ fsplit ! $ fpick ! (λ vs. fsplit ! $ move ! (1 ∷ []) $
        nothing ! $ fpack ! (measure x ≡ n) (λ _. ftrue) so $ move ! (1 ∷ 0 ∷ []) $ fjoin ! $ move ! (1 ∷ 0 ∷ []) $ fjoin ! $
        fpack ! (List Val) (λ us. fsep (cell_raw full_share (raw_all R.mir) us b o) ((Fit R measure n).own_val x us)) vs $ fjoin ! $ done !)

    -- and the way back, which tells the measure
    pub fit_out : (p : Ptr) (x : R.Denot) → ent 𝓤 (sem 𝓛 (boxed (Fit R measure n) a p x)) (guard 𝓤 (measure x ≡ n) (sem 𝓛 (boxed R a p x)))
    unfolding part_of
    fit_out null_ptr x = qed 𝓛 (‵ (boxed (Fit R measure n) a null_ptr x) ∷ []) ∵ fsplit ! $ keep ! (0 ∷ []) $ by ! (never_e 𝓤 _)
    fit_out (block_ptr b o) x = qed 𝓛 (‵ (boxed (Fit R measure n) a (block_ptr b o) x) ∷ []) ∵ fsplit ! $ fpick ! (λ vs. fsplit ! $ move ! (1 ∷ []) $ fsplit ! $ move ! (1 ∷ []) $
        fpick ! (λ so. drop ! $ check ! so $ move ! (1 ∷ 0 ∷ []) $ fjoin ! $
        fpack ! (List Val) (λ us. fsep (cell_raw full_share (raw_all R.mir) us b o) (R.own_val x us)) vs $ fjoin ! $ done !))

    -- a `&` to such a block is a `&` to a block, and tells its measure
    pub fit_lent : (b o : ℕ) (x : R.Denot) (κ : Lft)
        → ent 𝓤 (sem 𝓛 (lent_at (Fit R measure n) (block_ptr b o) x κ)) (guard 𝓤 (measure x ≡ n) (sem 𝓛 (shared_of R x b o κ)))
    fit_lent b o x κ = qed 𝓛 (‵ (lent_at (Fit R measure n) (block_ptr b o) x κ) ∷ []) ∵ fsplit ! $ drop ! $ fsplit ! $ move ! (1 ∷ []) $ fpick ! (λ so. drop ! $ check ! so $ done !)

-- what an entry sees of a block has the block's length
pub length_seen : {X : Type 0} (measure : X → ℕ) (mould : X → Mould) (β : Option Bond) (x : X) (n : ℕ) (m : Mould)
    → seen_as measure mould β x ≡ (n, m) → measure x ≡ n
length_seen measure mould None x n m e = ap (λ (u : ℕ × Mould). u.0) e
length_seen measure mould (Some u) x n m e = ap (λ (u : ℕ × Mould). u.0) e

-- a block of the length and the mould fits an entry that is tied
pub fits_tied : {X : Type 0} (measure : X → ℕ) (mould : X → Mould) (β : Option Bond) (x : X) (n : ℕ) (t : EntryTie)
    → tie_in β ≡ Some t → measure x ≡ n → mould x ≡ mould_in β → seen_as measure mould β x ≡ (n, mould_in β)
fits_tied measure mould None x n t tied e f = absurd (none-some t tied)
fits_tied measure mould (Some u) x n t tied e f = λ i. (e i, f i)

-- what a tied entry sees of a block has the block's mould
pub mould_seen : {X : Type 0} (measure : X → ℕ) (mould : X → Mould) (β : Option Bond) (x : X) (n : ℕ) (t : EntryTie)
    → tie_in β ≡ Some t → seen_as measure mould β x ≡ (n, mould_in β) → mould x ≡ mould_in β
mould_seen measure mould None x n t tied e = absurd (none-some t tied)
mould_seen measure mould (Some u) x n t tied e = ap (λ (v : ℕ × Mould). v.1) e
