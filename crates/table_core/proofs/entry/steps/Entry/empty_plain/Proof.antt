-- `empty_plain` puts the two fields together like `empty`. The entry has the mould of cells that are not tied.
use Rattle.std.proofs.Common.{◌≡◌, ℕ, List, [], ◌∷◌, ◌++◌, refl, sym, subst}
use mir.Syntax.{dcons, dnil, a_type, w64}
use mir.Val.{Val, vint, has_ty}
use mir.MapTy.{inst_fn}
use base.Logic.{SProp, ent, emp, id⊢}
use base.Fml.{ftrue, fsep}
use prog.Wp.{WpFn}
use types.Kit.{‵, raw, ◌⊛◌, ◌$◌, ◌∵◌, !, qed, by, move, keep, split, fsplit3, fjoin, fpack, suffices, rewrite, use0}
use base.Stored.{gnil}
use types.Tokens.{name_new}
use types.Run.{of_opd, no_more, and_then, returns, enter}
use types.ByLocal.{alloc_all, pass_all, free_all, look_at, get, sets}
use types.Part.{agg}
use contract.Monad.{fact, fact_i}
use contract.BorrowLft.{◌⊑◌}
use contract.Running.{tables}
use denote.Exit.{yes, no}
use denote.RattleType.{RattleType, owns}
use denote.Laws.{Typed}
use denote.Signature.{types_at, type_at, plain}
use denote.Builtin.{u64}
use denote.RawPtr.{Ptr, null_ptr}
use denote.Steps.{nothing, heard}
use denote.Param.{param, layout, bounded}
use denote.Param.Laws.{param_laws}
use denote.Triple.Walked.{Stays, stay_dropped, walk_of, Goes-dropped}
use Rattle.core.specs.Sync.Atomic.Pointer.{atomic_ptr_value, atomic_ptr_holding}
use Rattle.core.specs.contracts.atomic.ptr.AtomicPtr as atomic
use Rattle.core.proofs.atomic.ptr.AtomicPtr.TheLaws as atomic_laws
use Rattle.core.proofs.alloc.Calls.{Goes-blank}
use Rattle.core.proofs.cell.Inside.{Good, one}
use Rattle.std.specs.contracts.alloc.Global as heap
use Rattle.std.proofs.alloc.Global.TheLaws as heap_laws
use Rattle.std.specs.declared.option.Option.TheVariants.{None, Some}
use denote.Triple.Entry.{alive}
use Rattle.table_core.specs.Entry.{EntryView, Cast, IsPlainEntry, plain_mould}
use Rattle.table_core.specs.TiedEntry.{tied_kept}
use Rattle.table_core.specs.contracts.entry.steps.Entry.TheInside as inside
use Rattle.table_core.proofs.Values.{both_tt}
use Rattle.std.proofs.raw_atomic.Walks.{proved_at, leaves}
use Rattle.table_core.proofs.Values.{both, two_in}
use Rattle.table_core.specs.contracts.entry.steps.Entry.empty_plain.{ended, clauses}
use Rattle.table_core.specs.contracts.entry.steps.Entry.empty_plain.Key.{name as #self}
use Rattle.table_core.proofs.entry.steps.Entry.empty_plain.Statement.{statement}
use Rattle.table_core.proofs.entry.steps.Entry.empty_plain.Code as code

pub empty_plain_spec : {M : Type 1} → statement M
empty_plain_spec 𝓤 𝓛 𝓜 𝓡 wired T L g d _ =
    let H = 𝓛.H in let 𝓣 = tables 𝓤 H 𝓜 𝓡 𝓡.env in let R : RattleType = param 0 T in let LR = param_laws 0 T L in let En = ended T g d in let c = clauses T g d 𝓛 𝓜.mem 𝓡.returns in
    let inst = bounded (a_type ∷ []) (T, tt) (dcons d dnil) in let fn = inst_fn inst code.function in let Z : RattleType = heap.the_row in let LZ = heap_laws.the_row_laws in let P : RattleType = atomic.the_row R in let LP = atomic_laws.the_row_laws R LR in
    let hs : Stays En.signature.params En.kept = (stay_dropped (plain (λ _. P)) no, (stay_dropped (plain (λ _. Z)) yes, (stay_dropped (plain (λ _. u64)) yes, tt))) in
    proved_at 𝓛 En hs c 𝓜 𝓡 (Goes-blank 𝓛 1 (plain (λ _. P)) no (λ κs x f. tt), (Goes-dropped 𝓛 1 (plain (λ _. Z)) yes (λ κs x f. refl), (Goes-dropped 𝓛 1 (plain (λ _. u64)) yes (λ κs x f. refl), tt))) (#self inst) fn (code.unfolded 𝓤 H 𝓜 𝓡 wired (T, tt) d) (λ z are.
    let κs = z.0.0 in let qs = z.0.1 in let Post : Val → SProp 𝓤 = (walk_of 𝓛 En hs c).post z in let Run : List Val → SProp 𝓤 = λ ws. WpFn 𝓤 H 𝓣.C 𝓣.Λ fn ws Post in let Out : RattleType = type_at En.signature.result κs in
    let x = z.0.3.0 in let a = z.0.3.1.0 in let n : ℕ = z.0.3.1.1.0 in let len : Val = vint w64 n in
    let v = one (layout P) z.0.4.0 ((LP.lawful 𝓛).typed x z.0.4.0 are.0) in let h = one (layout Z) z.0.4.1.0 ((LZ.lawful 𝓛).typed a z.0.4.1.0 are.1.0) in let w : Val = both v.0 h.0 in
    let good : Good (layout Out) w = (both_tt (has_ty (layout P) v.0) (has_ty (layout Z) h.0) v.2.0 h.2.0, (v.2.1, (h.2.1, tt))) in
    qed 𝓛 ((raw (alive 𝓛 En.signature κs qs) ⊛ ‵ (owns (types_at En.signature.params κs) z.0.3 z.0.4)) ∷ raw (fact 𝓤 (κs.0 ⊑ T.lives)) ∷ raw (fact 𝓤 (atomic_ptr_value x ≡ null_ptr)) ∷ []) ∵
    move ! (2 ∷ []) $ heard ! (atomic_ptr_value x ≡ null_ptr) (λ empty. split ! $ move ! (1 ∷ []) $ fsplit3 ! $
    rewrite ! 0 (λ (us : List Val). ‵ (P.own_val x us)) v.1 refl $ rewrite ! 1 (λ (us : List Val). ‵ (Z.own_val a us)) h.1 refl $ rewrite ! 0 (λ (p : Ptr). ‵ (P.own_val (atomic_ptr_holding p) (v.0 ∷ []))) empty refl $
    two_in P Z (atomic_ptr_holding null_ptr) a ! v.0 h.0 $
    suffices ! (Run (v.0 ∷ h.0 ∷ len ∷ [])) (subst (λ (us : List Val). ent 𝓤 (Run (v.0 ∷ h.0 ∷ len ∷ [])) (Run us)) (sym (λ i. v.1 i ++ (h.1 i ++ (are.1.1.0.0 i ++ [])))) (id⊢ 𝓤 (Run (v.0 ∷ h.0 ∷ len ∷ [])))) $
    enter ! 𝓣.C 𝓣.Λ fn (v.0 ∷ h.0 ∷ len ∷ []) Post $ alloc_all ! (λ l. pass_all ! refl (v.2, (h.2, ((tt, record { fits = are.1.1.0.1 }), tt))) $ name_new ! tt gnil (λ γ. let e : EntryView = (a, n, γ, Some (None, plain_mould n)) in fjoin ! $ nothing ! $ move ! (1 ∷ 0 ∷ []) $ fjoin ! $ move ! (1 ∷ 0 ∷ []) $ fjoin ! $
    fpack ! Ptr (λ p. fsep ((inside.the_row R g).own_val (record { word = atomic_ptr_holding p; alloc = a }) (w ∷ [])) (tied_kept (Cast R g.measure g.mould e) g.seat a γ None p)) null_ptr $ nothing ! $ fpack ! (Typed Out.mir (w ∷ [])) (λ _. ftrue) (good, tt) $ fjoin ! $ sets ! (of_opd ! (get ! refl)) refl v.2 $
    sets ! (agg ! (and_then ! (get ! refl) (and_then ! (get ! refl) (no_more !)))) refl good $
    use0 𝓛 (raw (fact 𝓤 ((n ≡ n) × IsPlainEntry e))) (fact_i 𝓤 ((n ≡ n) × IsPlainEntry e) (emp 𝓤) (refl, refl)) $ nothing ! $ nothing ! $ fjoin ! $ nothing ! $ fjoin ! $ nothing ! $ fjoin ! $
    returns ! (look_at ! 0 refl) $ free_all ! refl $ keep ! (4 ∷ 0 ∷ 2 ∷ 1 ∷ []) $ by ! (leaves 𝓛 En hs c z w e (_, (tt, (tt, tt))) (tt, (tt, (tt, tt))))))))
