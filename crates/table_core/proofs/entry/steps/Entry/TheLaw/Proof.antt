-- A `&` to an entry is made of a borrow of it: the word goes into an invariant, and the block is shared.
-- Assumes `Logic`.
use Rattle.std.proofs.Common.{ℕ, ◌+◌, List, [], ◌∷◌, ◌++◌}
use seplogic.Ra.Ura.{Ura}
use mir.Val.{Val}
use base.Fraction.{full_share}
use base.Logic.{SProp, ent, sep, wand, ex, all_e, upd_i, apply∗, id⊢, snd∗}
use base.Fml.{Lft, Share, Fml, ftrue, fsep, fseps, fwand, fupd, fdead, fbor, flft, Incl-refl, Incl-trans}
use ghost.Rules.{span, thinned}
use base.Before.{before}
use types.Logic.{Logic, sem}
use types.Kit.{‵, raw, ◌⊛◌, some, later, ◌$◌, ◌∵◌, !, qed, by, move, keep, use0, use1, use2, use3, split, split3, fsplit, fsplit3, fjoin, fjoin3, fpick, fpack, pick, show, assume, suffices, await, updating, now, done}
use types.Tokens.{bor_open, obor_alter}
use types.Na.{before-Incl}
use contract.BorrowLft.{◌⊑◌, meet_⊑_left}
use denote.RattleType.{RattleType, Denots}
use denote.Memory.{part_of, part_at, cell_at, shared_of, lone}
use denote.RawPtr.{Ptr, block_ptr, null_ptr}
use denote.Steps.{nothing}
use denote.Sharing as lent
use denote.SharingLaws.{some_shr_laws, beside_shr_laws, ends_shr_laws}
use denote.Param.Laws.{Laws}
use denote.Struct.Struct.{Struct}
use denote.Struct.Members.{Member, rows_of, parts_at}
use denote.Struct.Parts.{shape_of, PartsBack, Struct-parts}
use Rattle.core.specs.Sync.Atomic.Pointer.{atomic_ptr_holding}
use Rattle.core.specs.Sync.RawAtomic.Pointer.{cell}
use Rattle.core.specs.contracts.atomic.ptr.AtomicPtr as atomic
use Rattle.core.proofs.atomic.ptr.AtomicPtr.TheLaws as atomic_laws
use Rattle.core.proofs.atomic.Lent as pointer
use Rattle.core.proofs.atomic.Lent.{rest, Way}
use Rattle.core.proofs.cell.Borrows.{by_one}
use Rattle.std.specs.declared.alloc.Global.{Global}
use Rattle.std.specs.contracts.alloc.Global as heap
use Rattle.std.proofs.alloc.Global.TheLaws as heap_laws
use Rattle.std.specs.declared.option.Option.{Option}
use Rattle.tie_core.specs.Visit.{EntryTie, entry_floor}
use Rattle.table_core.specs.Entry.{EntryView, Cast, length_of, name_of, tie_of, mould_in, seen_as}
use Rattle.table_core.specs.TiedEntry.{past, tied_kept, tied_shown, Tied_held, entry_shared}
use Rattle.table_core.specs.declared.entry.steps.Measured.{Ghosts}
use Rattle.table_core.specs.contracts.entry.steps.Entry as C
use Rattle.table_core.proofs.Fits.{fit_laws}
use Rattle.table_core.proofs.entry.steps.Entry.TheLaw.Statement.{statement}
use Rattle.table_core.proofs.TiedRests.{wakes, rests, past_new, past_dup}

module _ (R : RattleType) (g : Ghosts R.Denot) (L : Laws R) {M : Type 1} {𝓤 : Ura M} (𝓛 : Logic 𝓤) (e : EntryView) (b o : ℕ) (κ : Lft) where
  open 𝓛 use {H, A}

  abbrev a : Global
  a = e.0

  abbrev γ : ℕ
  γ = name_of e

  abbrev F : RattleType
  F = Cast R g.measure g.mould e

  LF : Laws F
  LF = fit_laws R (seen_as g.measure g.mould e.3) (length_of e, mould_in e.3) L

  abbrev τ : Option EntryTie
  τ = tie_of e

  abbrev Kept : Ptr → Fml
  Kept = tied_kept F g.seat a γ τ

  abbrev Shown : Ptr → Fml
  Shown = tied_shown F g.seat a γ τ κ

  -- what the invariant is made of, at a lifetime
  abbrev Held : Lft → Fml
  Held s = Tied_held F g.seat a γ τ s b (o + 0)

  abbrev ⟦◌⟧ : Fml → SProp 𝓤
  ⟦ P ⟧ = sem 𝓛 P

  abbrev ms : List Member
  ms = record { row = atomic.the_row R; ty = lone (atomic.the_row R).mir } ∷ record { row = heap.the_row; ty = lone heap.the_row.mir } ∷ []

  abbrev Data : RattleType
  Data = Struct (shape_of [] ms)

  abbrev P : Fml
  P = part_at (C.the_written R g) full_share e b o

  abbrev Fields : Ptr → Fml
  Fields p = part_at Data full_share (atomic_ptr_holding p, (a, tt)) b o

  abbrev Handle : Fml
  Handle = fsep (part_at heap.the_row full_share a b (o + 8)) ftrue

  abbrev J : Fml
  J = Held κ

  abbrev Parts : List Fml
  Parts = J ∷ rest b (o + 0) ∷ []

  out : ent 𝓤 ⟦ P ⟧ (ex 𝓤 (λ (p : Ptr). sep 𝓤 ⟦ Fields p ⟧ ⟦ Kept p ⟧))
  unfolding part_of
  out = qed 𝓛 (‵ P ∷ []) ∵ fpick ! (λ vs. fsplit ! $ move ! (1 ∷ []) $ fpick ! (λ p. fsplit ! $ move ! (2 ∷ 0 ∷ []) $ fjoin ! $
      fpack ! (List Val) (λ us. fsep (cell_at full_share Data.mir us b o) (Data.own_val (atomic_ptr_holding p, (a, tt)) us)) vs $ show ! (λ (r : Ptr). sep 𝓤 ⟦ Fields r ⟧ ⟦ Kept r ⟧) p $ done !))

  back : (p : Ptr) → ent 𝓤 (sep 𝓤 ⟦ Fields p ⟧ ⟦ Kept p ⟧) ⟦ P ⟧
  unfolding part_of
  back p = qed 𝓛 (‵ (Fields p) ∷ ‵ (Kept p) ∷ []) ∵ fpick ! (λ vs. fsplit ! $ move ! (1 ∷ 2 ∷ []) $ fjoin ! $ fpack ! Ptr (λ r. fsep (Data.own_val (atomic_ptr_holding r, (a, tt)) vs) (Kept r)) p $ move ! (1 ∷ 0 ∷ []) $ fjoin ! $
      fpack ! (List Val) (λ us. fsep (cell_at full_share Data.mir us b o) ((C.the_written R g).own_val e us)) vs $ done !)

  way_back : ent 𝓤 (sep 𝓤 (Way 𝓛 R b (o + 0)) (sep 𝓤 ⟦ Handle ⟧ (PartsBack 𝓛 full_share [] ms b o))) ⟦ fwand (fsep (fdead κ) (fseps Parts)) (fupd P) ⟧
  unfolding fseps
  way_back = qed 𝓛 (raw (Way 𝓛 R b (o + 0)) ∷ ‵ Handle ∷ raw (PartsBack 𝓛 full_share [] ms b o) ∷ []) ∵ assume ! (‵ (fsep (fdead κ) (fseps Parts))) $ suffices ! ⟦ P ⟧ (upd_i 𝓤 ⟦ P ⟧) $
      fsplit3 ! $ move ! (1 ∷ []) $ fpick ! (λ p. let x : Denots (rows_of ms) = (atomic_ptr_holding p, (a, tt)) in fsplit ! $ move ! (2 ∷ 1 ∷ []) $ use2 𝓛 (‵ (Kept p)) (rests 𝓛 F LF g.seat a γ τ κ p) $ move ! (2 ∷ []) $ fsplit ! $ move ! (3 ∷ 0 ∷ 4 ∷ []) $
      use3 𝓛 (‵ (part_at (atomic.the_row R) full_share (atomic_ptr_holding p) b (o + 0))) (pointer.shuts 𝓛 R b (o + 0) p) $ keep ! (0 ∷ 3 ∷ 4 ∷ 2 ∷ []) $ fjoin ! $ move ! (1 ∷ []) $
      use1 𝓛 (raw (wand 𝓤 ⟦ parts_at full_share ms 0 x b o ⟧ ⟦ Fields p ⟧)) (all_e 𝓤 (λ (y : Denots (rows_of ms)). wand 𝓤 ⟦ parts_at full_share ms 0 y b o ⟧ ⟦ part_at Data full_share y b o ⟧) x) $ move ! (1 ∷ 0 ∷ []) $
      use2 𝓛 (‵ (Fields p)) (apply∗ 𝓤 ⟦ parts_at full_share ms 0 x b o ⟧ ⟦ Fields p ⟧) $ by ! (back p))

  lends : (q : Share) (μ : Lft) (r : Share) → μ ⊑ R.lives → ent 𝓤 (sep 𝓤 (A.bor κ P) (sep 𝓤 (A.lft κ q) (A.lft μ r))) (H.⇛ (sep 𝓤 ⟦ entry_shared R g.measure g.mould g.seat e (block_ptr b o) κ ⟧ (sep 𝓤 (A.lft κ q) (A.lft μ r))))
  unfolding fseps
  lends q μ r within = let h = base.Fraction.left q in let h' = base.Fraction.right q in qed 𝓛 (‵ (fbor κ P) ∷ ‵ (flft κ q) ∷ ‵ (flft μ r) ∷ []) ∵ updating ! $ move ! (1 ∷ []) $
      use1 𝓛 (‵ (flft κ h) ⊛ ‵ (flft κ h')) (𝓛.lfts.lft_split κ q) $ split ! $ move ! (2 ∷ 0 ∷ []) $ bor_open ! tt $ move ! (1 ∷ []) $ use1 𝓛 (some (λ (p : Ptr). ‵ (Fields p) ⊛ ‵ (Kept p))) out $ pick ! (λ p. split ! $
      use1 𝓛 ((‵ (part_at (atomic.the_row R) full_share (atomic_ptr_holding p) b (o + 0)) ⊛ ‵ Handle) ⊛ raw (PartsBack 𝓛 full_share [] ms b o))
      (Struct-parts 𝓛 full_share [] ms ((atomic_laws.the_row_laws R L).lawful 𝓛, (heap_laws.the_row_laws.lawful 𝓛, tt)) (atomic_ptr_holding p, (a, tt)) b o) $ split ! $ split ! $
      use1 𝓛 (‵ (cell b (o + 0) p) ⊛ ‵ (rest b (o + 0)) ⊛ raw (Way 𝓛 R b (o + 0))) (pointer.opens 𝓛 R b (o + 0) p) $ split3 ! $ move ! (5 ∷ 7 ∷ 8 ∷ []) $
      use3 𝓛 (later (‵ (Shown p) ⊛ ‵ (flft κ h') ⊛ ‵ (flft μ r))) (wakes 𝓛 F LF g.seat a γ τ κ h' μ r within p) $ await ! tt $ split3 ! $ move ! (3 ∷ 0 ∷ []) $ fjoin ! $ fpack ! Ptr (λ s. fsep (cell b (o + 0) s) (Shown s)) p $
      nothing ! $ move ! (1 ∷ 4 ∷ 0 ∷ []) $ fjoin3 ! $ move ! (3 ∷ 4 ∷ 5 ∷ []) $ use3 𝓛 (‵ (fwand (fsep (fdead κ) (fseps Parts)) (fupd P))) way_back $ move ! (4 ∷ 1 ∷ 0 ∷ []) $ obor_alter ! tt Parts $
      use1 𝓛 (‵ (fbor κ J) ⊛ ‵ (fbor κ (rest b (o + 0))) ⊛ ‵ ftrue) (id⊢ 𝓤 _) $ split3 ! $ use1 𝓛 (later (‵ (past (entry_floor τ) (fbor κ J)))) (past_new 𝓛 (entry_floor τ) (fbor κ J)) $ await ! tt $
      use0 𝓛 (‵ (before κ κ)) (before-Incl 𝓛 κ κ (Incl-refl κ)) $ fjoin ! $ fpack ! Lft (λ s. fsep (before κ s) (past (entry_floor τ) (fbor s (Held s)))) κ $ move ! (1 ∷ 3 ∷ []) $
      use2 𝓛 (later (‵ (shared_of (atomic.the_row R) (atomic_ptr_holding null_ptr) b (o + 0) κ) ⊛ ‵ (flft κ h))) (pointer.rest_shared 𝓛 R b (o + 0) null_ptr κ ((κ, h) ∷ []) (Incl-refl κ)) $ await ! tt $ split ! $
      move ! (2 ∷ 0 ∷ []) $ fjoin ! $ move ! (1 ∷ 3 ∷ []) $ use2 𝓛 (‵ (flft κ q)) (𝓛.lfts.lft_join κ q) $ now ! $ keep ! (1 ∷ 0 ∷ 3 ∷ []) $ done !)

  lends_by : (μ : Lft) → μ ⊑ R.lives → μ ⊑ κ → (q : Share) → ent 𝓤 (sep 𝓤 (A.bor κ P) (A.lft μ q)) (H.⇛ (sep 𝓤 ⟦ entry_shared R g.measure g.mould g.seat e (block_ptr b o) κ ⟧ (A.lft μ q)))
  lends_by μ within sp q = let h = base.Fraction.left q in let h' = base.Fraction.right q in let s = thinned κ h in qed 𝓛 (‵ (fbor κ P) ∷ ‵ (flft μ q) ∷ []) ∵ updating ! $ move ! (1 ∷ []) $
      use1 𝓛 (‵ (flft μ h) ⊛ ‵ (flft μ h')) (𝓛.lfts.lft_split μ q) $ split ! $ use1 𝓛 (‵ (flft κ s) ⊛ raw (wand 𝓤 (A.lft κ s) (A.lft μ h))) (𝓛.lfts.lft-incl μ κ h sp) $ split ! $ move ! (3 ∷ 0 ∷ 2 ∷ []) $
      use3 𝓛 (later (‵ (entry_shared R g.measure g.mould g.seat e (block_ptr b o) κ) ⊛ ‵ (flft κ s) ⊛ ‵ (flft μ h'))) (lends s μ h' within) $ await ! tt $ split3 ! $ move ! (1 ∷ 3 ∷ []) $
      use2 𝓛 (‵ (flft μ h)) (apply∗ 𝓤 (A.lft κ s) (A.lft μ h)) $ move ! (0 ∷ 2 ∷ []) $ use2 𝓛 (‵ (flft μ q)) (𝓛.lfts.lft_join μ q) $ now ! $ move ! (1 ∷ []) $ done !

pub shares : (T : RattleType) (g : Ghosts T.Denot) (L : Laws T) → statement T g L
shares T g L = record {
  shr_laws = λ e b o. let m : ℕ = entry_floor (tie_of e) in let J : Lft → Fml = λ α. fbor α (Tied_held (Cast T g.measure g.mould e) g.seat e.0 (name_of e) (tie_of e) α b (o + 0)) in let I : Lft → Lft → Fml = λ α. lent.beside (lent.ends α) (lent.said (past m (J α))) in
      beside_shr_laws (lent.some Lft I) _ (some_shr_laws Lft I (λ α. beside_shr_laws _ _ (ends_shr_laws α) (record { contraction = λ M 𝓤 𝓛 κ. past_dup 𝓛 m (J α); mono = λ M 𝓤 𝓛 κ' κ. snd∗ 𝓤 (sem 𝓛 (before κ' κ)) (sem 𝓛 (past m (J α))) }))) ((atomic_laws.the_row_laws T L).shr_laws (atomic_ptr_holding null_ptr) b (o + 0));
  shares = λ M 𝓤 𝓛 e κ ts b o inc sp. by_one 𝓛 (span ts) ts (Incl-refl (span ts)) (𝓛.A.bor κ (part_at (C.the_written T g) full_share e b o)) (sem 𝓛 (entry_shared T g.measure g.mould g.seat e (block_ptr b o) κ))
      (lends_by T g L 𝓛 e b o κ (span ts) (Incl-trans inc (Incl-trans (meet_⊑_left (T.lives ++ []) _) (meet_⊑_left T.lives []))) sp);
}
