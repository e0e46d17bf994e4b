-- `into_loose` reads the word, and has the box back from the lifetime that ended: the one that is known.
use Rattle.std.proofs.Common.{◌≡◌, ℕ, List, [], ◌∷◌, ◌++◌, refl, sym, ap, ◌∙◌, subst, lit<}
use mir.Syntax.{dcons, dnil, a_type, named}
use mir.Val.{Val, vptr, vcons, vnil}
use mir.MapTy.{inst_fn}
use base.Logic.{SProp, ent, emp, id⊢}
use base.Fml.{ftrue, flft}
use prog.Wp.{WpFn}
use types.Kit.{rewrite, ‵, raw, ◌⊛◌, some, given, later, at_ret, ◌$◌, ◌∵◌, !, qed, by, move, keep, drop, split, join, fsplit, fsplit3, fjoin, fpick, pick, learn, suffices, use0, use1, await, feq_l}
use types.Run.{stop, fld, lit, of_opd, bin, no_more, and_then, first, branches, exec, returns, enter}
use types.ByLocal.{alloc_all, pass_all, free_all, look_at, get, get_in, sets, sets_last, lands_as, env}
use types.Part.{agg, sub, whole}
use types.Match.{live}
use contract.Monad.{fact, fact_i}
use contract.Running.{tables}
use denote.Exit.{yes, no}
use denote.RattleType.{RattleType, owns}
use denote.Laws.{Typed}
use denote.Signature.{types_at, type_at, plain}
use denote.Builtin.{RawPtr, RefOf}
use denote.RawPtr.{Ptr, block_ptr, null_ptr, ptr_val, tests_null}
use denote.Steps.{nothing, only, heard}
use denote.Param.{param, layout, bounded}
use denote.Param.Laws.{param_laws}
use denote.Triple.Clauses.{Lasts, lasts}
use denote.Triple.Spec.{triple_of}
use denote.Triple.Call.{calls_at}
use denote.Triple.Walked.{Stays, stay_dropped, walk_of, Goes-dropped}
use Rattle.core.specs.Sync.Atomic.Pointer.{atomic_ptr_holding}
use Rattle.core.specs.declared.option.Option.TheVariants.{None, Some}
use Rattle.core.specs.contracts.atomic.ptr.AtomicPtr as atomic
use Rattle.core.proofs.atomic.ptr.AtomicPtr.TheLaws as atomic_laws
use Rattle.core.proofs.alloc.Shapes.{after}
use Rattle.core.proofs.atomic.Steps.{Ptr-Good, fm}
use Rattle.core.proofs.cell.Inside.{Good}
use Rattle.core.proofs.option.Made.{Some-of, none_of}
use Rattle.std.specs.contracts.alloc.Global as heap
use Rattle.std.proofs.alloc.Global.TheLaws as heap_laws
use Rattle.std.specs.contracts.impls.GlobalAllocator.TheImpl.{ghosts}
use Rattle.std_alloc.proofs.ResultValues.{and_tt}
use Rattle.table_core.specs.contracts.entry.steps.Entry as entry
use Rattle.std.proofs.raw_atomic.Walks.{proved_at, leaves}
use Rattle.table_core.proofs.Values.{both, Loose, loose_good, loose_in, two_out}
use Rattle.table_core.specs.contracts.entry.steps.EntrySight as sight
use denote.Opens.{unhide}
use denote.Ref.{shr_Tells}
use Rattle.core.specs.contracts.atomic.ptr.AtomicPtr.into_inner as callee
use Rattle.core.proofs.atomic.ptr.AtomicPtr.into_inner.Met.{met}
use Rattle.once_cell.specs.Once.{boxed}
use Rattle.table_core.proofs.Known.{either_known}
use Rattle.table_core.specs.Entry.{EntryView, Mould, Agrees, mould_in, seen_as, tie_of, noted}
use Rattle.table_core.proofs.Fits.{fit_out, length_seen}
use Rattle.table_core.specs.contracts.entry.steps.Entry.into_loose.{ended, clauses}
use Rattle.table_core.specs.contracts.entry.steps.Entry.into_loose.Key.{name as #self}
use Rattle.table_core.proofs.entry.steps.Entry.into_loose.Statement.{statement}
use Rattle.table_core.proofs.entry.steps.Entry.into_loose.Code as code

pub into_loose_spec : {M : Type 1} → statement M
into_loose_spec 𝓤 𝓛 𝓜 𝓡 wired T L g d _ =
    let H = 𝓛.H in let 𝓣 = tables 𝓤 H 𝓜 𝓡 𝓡.env in let R : RattleType = param 0 T in let LR = param_laws 0 T L in let En = ended T g d in let c = clauses T g d 𝓛 𝓜.mem 𝓡.returns in
    let inst = bounded (a_type ∷ []) (T, tt) (dcons d dnil) in let fn = inst_fn inst code.function in let Z : RattleType = heap.the_row in let LZ = heap_laws.the_row_laws in let P : RattleType = atomic.the_row R in let LP = atomic_laws.the_row_laws R LR in
    let Lr : RattleType = Loose R Z LZ ghosts in let S : RattleType = sight.the_row R in let token = RefOf (0 ∷ []) tt (plain (λ _. S)) (λ _. tt) in let hs : Stays En.signature.params En.kept = (stay_dropped (plain (λ _. entry.the_row R g)) no, (stay_dropped token yes, tt)) in
    proved_at 𝓛 En hs c 𝓜 𝓡 (Goes-dropped 𝓛 2 (plain (λ _. entry.the_row R g)) no (λ κs x f. refl), (Goes-dropped 𝓛 2 token yes (λ κs x f. refl), tt)) (#self inst) fn (code.unfolded 𝓤 H 𝓜 𝓡 wired (T, tt) d) (λ z are.
    let κs = z.0.0 in let qs = z.0.1 in let Post : Val → SProp 𝓤 = (walk_of 𝓛 En hs c).post z in let Run : List Val → SProp 𝓤 = λ ws. WpFn 𝓤 H 𝓣.C 𝓣.Λ fn ws Post in let Out : RattleType = type_at En.signature.result κs in
    let a = z.0.3.0.0 in let long : ℕ = z.0.3.0.1 in let γ : ℕ = z.0.3.0.2 in let e₀ : EntryView = z.0.3.0 in let look : R.Denot → ℕ × Mould = seen_as g.measure g.mould e₀.3 in let size : ℕ × Mould = (long, mould_in e₀.3) in let toks = ‵ (flft κs.1.0 qs.1.0) ⊛ ‵ ftrue in let k = triple_of 𝓛 (callee.signature T) (callee.spec T 𝓛 𝓜.mem 𝓡.returns) in
    let known = z.0.3.1.0.now.known in let q : Val = vptr z.0.3.1.0.ref_ptr.0 z.0.3.1.0.ref_ptr.1 in let Asked : Type 0 = z.0.3.1.0.now.of ≡ γ in
    qed 𝓛 (((‵ (flft κs.0 qs.0) ⊛ toks) ⊛ ‵ (owns (types_at En.signature.params κs) z.0.3 z.0.4)) ∷ raw (fact 𝓤 _) ∷ raw (fact 𝓤 Asked) ∷ []) ∵ keep ! (2 ∷ 0 ∷ 1 ∷ []) $ heard ! Asked (λ asked. split ! $ split ! $ move ! (2 ∷ []) $ fsplit3 ! $
    -- [the entry; the sight; ..]
    move ! (1 ∷ []) $ fsplit ! $ move ! (1 ∷ []) $ unhide ! $ fsplit ! $ drop ! $ rewrite ! 0 (λ (i : ℕ). ‵ (noted R i known)) asked refl $ keep ! (2 ∷ 0 ∷ 4 ∷ 5 ∷ 6 ∷ []) $
    -- [the entry; what is known; the sight's token; T's token; T's bound]
    fsplit ! $ fpick ! (λ laid. drop ! $ fpick ! (λ p. fsplit ! $
    two_out P Z (atomic_ptr_holding p) a ! refl refl (LP.lawful 𝓛) (LZ.lawful 𝓛) z.0.4.0 (λ v h gv gh ws.
    let w : Val = both v h in let y : k.Ghost = ((κs.1, qs.1, tt, (atomic_ptr_holding p, tt), (v ∷ [], tt)), tt) in
    nothing ! $ move ! (1 ∷ 0 ∷ []) $ fjoin ! $ move ! (5 ∷ 0 ∷ []) $ join ! $ nothing ! $ move ! (6 ∷ 0 ∷ []) $ join ! $ move ! (1 ∷ 0 ∷ []) $ join ! $ use1 𝓛 (raw (k.pre y)) (id⊢ 𝓤 _) $
    suffices ! (Run (w ∷ q ∷ [])) (subst (λ (us : List Val). ent 𝓤 (Run (w ∷ q ∷ [])) (Run us)) (sym (λ i. ws i ++ (shr_Tells (named 0) κs.0 S z.0.3.1.0 z.0.4.1.0 are.1.0 i ++ []))) (id⊢ 𝓤 (Run (w ∷ q ∷ [])))) $
    enter ! 𝓣.C 𝓣.Λ fn (w ∷ q ∷ []) Post $ alloc_all ! (λ l. pass_all ! refl ((subst (Typed (entry.the_row R g).mir) ws laid).0, ((tt, tt), tt)) $ let Ev = env fn.locals l in
    sets ! (of_opd ! (get_in ! (fld ! refl (stop !)) (sub ! 0 refl (whole !)))) refl gv $ sets ! (of_opd ! (get_in ! (fld ! refl (stop !)) (sub ! 1 refl (whole !)))) refl gh $ sets ! (of_opd ! (get ! refl)) refl gv $ calls_at ! (fm 𝓛 𝓜 𝓡) k (met 𝓤 𝓛 𝓜 𝓡 (code.calls-core::atomic::ptr::AtomicPtr::into_inner 𝓡.env wired) T L) y (and_then ! (get ! refl) (no_more !)) (λ u.
    use1 𝓛 (later (some (λ (r : Ptr). (toks ⊛ ‵ (RawPtr.own_val r (u ∷ []))) ⊛ some (λ (ls : Lasts (callee.ended T) κs.1 y.0.3). ‵ (lasts (callee.ended T) κs.1 y.0.3 ls) ⊛ raw (fact 𝓤 (r ≡ p)))))) (id⊢ 𝓤 (k.post y u)) $
    await ! tt $ pick ! (λ r. split ! $ move ! (1 ∷ []) $ pick ! (λ _. split ! $ drop ! $ heard ! (r ≡ p) (λ same. split ! $ move ! (1 ∷ []) $ feq_l ! (λ e.
    -- [T's token; the allocator; the word; what is known; the sight's token]
    move ! (4 ∷ 0 ∷ []) $ join ! $ move ! (2 ∷ 3 ∷ []) $
    let told : u ≡ ptr_val p = ap only e ∙ ap ptr_val same in either_known R look size g.seat (tie_of e₀) a γ ! tt p known
    (λ is none. lands_as ! (told ∙ ap ptr_val is) refl (Ptr-Good null_ptr) $ sets ! (bin ! (get ! refl) (lit ! tt) tt) refl (tt, tt) $ first ! $ branches ! (get ! refl)
    (λ _. sets_last ! (agg ! (and_then ! (lit ! tt) (no_more !))) refl (tt, (record { fits = lit< tt }, tt)) $ exec ! 𝓣.C 𝓣.Λ Ev (after 6 fn.body) (at_ret Ev Post) $ sets ! (of_opd ! (get ! refl)) refl (tt, (record { fits = lit< tt }, tt)) $
    use0 𝓛 (‵ (Out.own_val None (live 0 vnil ∷ []))) (none_of 𝓛 Lr) $ use0 𝓛 (raw (fact 𝓤 (known ≡ None))) (fact_i 𝓤 (known ≡ None) (emp 𝓤) none) $ use0 𝓛 (raw (fact 𝓤 (Unit {0}))) (fact_i 𝓤 (Unit {0}) (emp 𝓤) tt) $ join ! $ use0 𝓛 (raw (fact 𝓤 (Unit {0}))) (fact_i 𝓤 (Unit {0}) (emp 𝓤) tt) $ join ! $ nothing ! $ nothing ! $ fjoin ! $ nothing ! $ fjoin ! $
    returns ! (look_at ! 0 refl) $ free_all ! refl $ keep ! (3 ∷ 0 ∷ 2 ∷ 1 ∷ []) $ by ! (leaves 𝓛 En hs c z (live 0 vnil) None (tt, (tt, tt)) (tt, (tt, tt)))) (λ wrong. absurd wrong))
    (λ b o x is t agrees. use1 𝓛 (given (look x ≡ size) (‵ (boxed R a (block_ptr b o) x))) (fit_out R look size 𝓛 a (block_ptr b o) x) $ learn ! (λ so_cast. let so_long : g.measure x ≡ long = length_seen g.measure g.mould e₀.3 x long (mould_in e₀.3) so_cast in let made : Val = both (vptr b o) h in let typed = loose_good R Z LZ ghosts b o h gh in let v₁ : Val = live 1 (vcons made vnil) in let d : Lr.Denot = record { at = block_ptr b o; alloc = a; value = x } in
    let good : Good (layout Out) v₁ = (and_tt _ typed.0, (record { fits = lit< tt }, (typed.1, tt))) in
    lands_as ! (told ∙ ap ptr_val is) refl (tt, tt) $ sets ! (bin ! (get ! refl) (lit ! tt) (tests_null (block_ptr b o) t)) refl (tt, tt) $ first ! $ branches ! (get ! refl) (λ wrong. absurd wrong) (λ _.
    sets ! (agg ! (and_then ! (get ! refl) (and_then ! (get ! refl) (no_more !)))) refl typed $ sets_last ! (agg ! (and_then ! (lit ! tt) (and_then ! (get ! refl) (no_more !)))) refl good $
    exec ! 𝓣.C 𝓣.Λ Ev (after 6 fn.body) (at_ret Ev Post) $ sets ! (of_opd ! (get ! refl)) refl good $ move ! (0 ∷ 2 ∷ []) $ loose_in R Z LZ ghosts ! b o h a x $
    use1 𝓛 (‵ (Out.own_val (Some d) (v₁ ∷ []))) (Some-of 𝓛 Lr d made) $ use0 𝓛 (raw (fact 𝓤 (Agrees known x))) (fact_i 𝓤 (Agrees known x) (emp 𝓤) agrees) $ use0 𝓛 (raw (fact 𝓤 (look x ≡ size))) (fact_i 𝓤 (look x ≡ size) (emp 𝓤) so_cast) $ join ! $ use0 𝓛 (raw (fact 𝓤 (g.measure x ≡ long))) (fact_i 𝓤 (g.measure x ≡ long) (emp 𝓤) so_long) $ join ! $ nothing ! $ nothing ! $ fjoin ! $ nothing ! $ fjoin ! $
    returns ! (look_at ! 0 refl) $ free_all ! refl $ keep ! (3 ∷ 0 ∷ 2 ∷ 1 ∷ []) $ by ! (leaves 𝓛 En hs c z v₁ (Some d) (tt, (tt, tt)) (tt, (tt, tt)))))))))))))))))
