-- `look` loads the word, takes a part of what keeps the block shared, and holds the sight to the entry's
-- name.
use Rattle.std.proofs.Common.{◌≡◌, ℕ, ◌+◌, List, [], ◌∷◌, ◌++◌, refl, sym, subst, lit<}
use mir.Syntax.{dcons, dnil, Body, seq, assign, place, rv_opd, copy, aggregate, int, w8, a_type, named}
use mir.Val.{Val, vptr, vcons, vnil}
use mir.MapTy.{inst_fn}
use base.Fraction.{left, right}
use base.Logic.{SProp, ent, wand, emp, id⊢, apply∗, all, all_e}
use base.Fml.{Lft, Share, Fml, ftrue, fsep, flft, fbor, finv}
use base.Before.{before}
use prog.Wp.{WpFn, Wp, after_seq, at_return}
use types.Logic.{sem}
use types.Na.{before_dup}
use types.Kit.{‵, raw, ◌⊛◌, some, given, later, mean, at_ret, any_q, ◌$◌, ◌∵◌, !, qed, by, move, keep, drop, split, split3, join, fsplit, fsplit3, fjoin, fpick, pick, learn, suffices, use0, use1, use2, use3, await, rewrite, feq_i}
use types.Run.{stop, fld, addr, lit, of_opd, bin, no_more, and_then, first, blocks, branches, exec, Calls-last, returns, enter}
use types.ByLocal.{alloc_all, pass_all, free_all, look_at, get, through, sets, sets_last, lands_last, env}
use types.Part.{agg}
use types.Match.{live}
use contract.Monad.{fact, fact_i}
use contract.BorrowLft.{◌⊑◌}
use contract.Running.{tables}
use contract.Shared.{Lends-one}
use denote.Exit.{yes}
use denote.RattleType.{RattleType, owns}
use denote.Signature.{types_at, type_at, plain}
use denote.Builtin.{RefOf}
use denote.Ref.{ShrRef}
use denote.RawPtr.{Ptr, block_ptr, null_ptr, tests_null}
use denote.Opens.{unhide, hide}
use denote.Steps.{nothing, heard}
use denote.Memory.{shared_of}
use denote.Param.{param, layout, bounded}
use denote.Param.Laws.{param_laws}
use denote.Struct.Lending.{lent_at}
use denote.Triple.Walked.{Stays, stay_dropped, walk_of, Goes-dropped, stay_ref, Goes-ref}
use Rattle.core.specs.declared.option.Option.TheVariants.{None, Some}
use Rattle.core.specs.contracts.atomic.ptr.AtomicPtr as atomic
use Rattle.core.proofs.atomic.ptr.AtomicPtr.TheLaws as atomic_laws
use Rattle.core.proofs.alloc.Shapes.{after}
use Rattle.core.proofs.atomic.Steps.{Ptr-Good, fm}
use Rattle.core.proofs.cell.Inside.{Good}
use Rattle.core.proofs.option.Made.{Some-of, none_of}
use Rattle.std.specs.contracts.alloc.Global as heap
use Rattle.std.proofs.alloc.Global.TheLaws as heap_laws
use Rattle.once_cell.specs.Once as once
use Rattle.tie_core.specs.Visit.{entry_floor}
use Rattle.table_core.specs.Entry.{EntryView, Mould, Agrees, Cast, FitsEntry, tie_of, mould_in, seen_as, noted}
use Rattle.table_core.specs.TiedEntry.{Tied_held}
use Rattle.table_core.proofs.Fits.{fit_laws, fit_noted, fit_lent, length_seen, mould_seen}
use Rattle.table_core.proofs.PlainMoves.{reads_plain}
use Rattle.table_core.proofs.TiedRests.{past_inv}
use Rattle.table_core.specs.contracts.entry.steps.Entry as entry
use Rattle.std.proofs.raw_atomic.Walks.{proved_at, leaves}
use Rattle.std.proofs.raw_atomic.PtrCalls as calls
use Rattle.std.proofs.raw_atomic.PtrMethods as methods
use Rattle.std.proofs.raw_atomic.Calls.{seq_cst}
use Rattle.std.proofs.raw_atomic.PtrCalls.{seq_cst_good}
use Rattle.once_cell.proofs.Moves as moves
use Rattle.table_core.proofs.Sights as sights
use Rattle.table_core.proofs.Sights.{EntrySight}
use Rattle.core.specs.Sync.RawAtomic.Pointer.{asks_ptr}
use Rattle.table_core.specs.contracts.entry.steps.Entry.look.{ended, clauses}
use Rattle.table_core.specs.contracts.entry.steps.Entry.look.Key.{name as #self}
use Rattle.table_core.proofs.entry.steps.Entry.look.Statement.{statement}
use Rattle.table_core.proofs.entry.steps.Entry.look.Code as code

-- the rest of the branch that found a pointer
abbrev wraps : Body
wraps = seq (assign (place 10 []) (rv_opd (copy (place 11 [])))) (assign (place 9 []) (aggregate (int w8 1 ∷ copy (place 10 []) ∷ [])))

pub look_spec : {M : Type 1} → statement M
look_spec 𝓤 𝓛 𝓜 𝓡 wired T L g d _ =
    let H = 𝓛.H in let 𝓣 = tables 𝓤 H 𝓜 𝓡 𝓡.env in let R : RattleType = param 0 T in let LR = param_laws 0 T L in let En = ended T g d in let c = clauses T g d 𝓛 𝓜.mem 𝓡.returns in
    let inst = bounded (a_type ∷ []) (T, tt) (dcons d dnil) in let fn = inst_fn inst code.function in let Z : RattleType = heap.the_row in let LZ = heap_laws.the_row_laws in let P : RattleType = atomic.the_row R in let LP = atomic_laws.the_row_laws R LR in
    let hs : Stays En.signature.params En.kept = (stay_dropped (RefOf (0 ∷ []) tt (plain (λ _. entry.the_row R g)) (λ _. tt)) yes, (stay_ref (1 ∷ []) tt (plain (λ _. EntrySight 𝓛 R)), tt)) in
    proved_at 𝓛 En hs c 𝓜 𝓡 (Goes-dropped 𝓛 3 (RefOf (0 ∷ []) tt (plain (λ _. entry.the_row R g)) (λ _. tt)) yes (λ κs x f. refl), (Goes-ref 𝓛 3 1 tt (plain (λ _. EntrySight 𝓛 R)), tt)) (#self inst) fn (code.unfolded 𝓤 H 𝓜 𝓡 wired (T, tt) d) (λ z are.
    let κs = z.0.0 in let qs = z.0.1 in let Post : Val → SProp 𝓤 = (walk_of 𝓛 En hs c).post z in let Run : List Val → SProp 𝓤 = λ ws. WpFn 𝓤 H 𝓣.C 𝓣.Λ fn ws Post in let Out : RattleType = type_at En.signature.result κs in
    let b : ℕ = z.0.3.0.ref_ptr.0 in let o : ℕ = z.0.3.0.ref_ptr.1 in let a = z.0.3.0.now.0 in let long : ℕ = z.0.3.0.now.1 in let γ : ℕ = z.0.3.0.now.2 in let e₀ : EntryView = z.0.3.0.now in let look : R.Denot → ℕ × Mould = seen_as g.measure g.mould e₀.3 in let size : ℕ × Mould = (long, mould_in e₀.3) in let F : RattleType = Cast R g.measure g.mould e₀ in let LF = fit_laws R look size LR in let κ : Lft = κs.0 in let q : Share = qs.0 in let μ : Lft = κs.1.1.0 in let r : Share = qs.1.1.0 in
    let κ' : Lft = κs.1.0 in let q' : Share = qs.1.0 in let m = z.0.3.1.0 in let nb₀ : ℕ = m.ref_ptr.0 in let no₀ : ℕ = m.ref_ptr.1 in let ν₀ : ℕ = m.ghost_name in let k = m.now.known in
    let Closes = sights.Closes 𝓛 R κ' q' nb₀ no₀ ν₀ in let Ref : RattleType = ShrRef (named 0) κ R in let Again : SProp 𝓤 = H.⇛ (𝓛.A.lft κ (right q)) in
    qed 𝓛 (((‵ (flft κ q) ⊛ ‵ (flft κ' q') ⊛ ‵ (flft μ r) ⊛ ‵ ftrue) ⊛ ‵ (owns (types_at En.signature.params κs) z.0.3 z.0.4)) ∷ raw (fact 𝓤 (μ ⊑ T.lives)) ∷ raw (fact 𝓤 (m.now.of ≡ γ)) ∷ []) ∵
    move ! (2 ∷ []) $ heard ! (m.now.of ≡ γ) (λ same. keep ! (0 ∷ []) $ split ! $ split3 ! $ move ! (2 ∷ []) $ split ! $ move ! (4 ∷ []) $ fsplit3 ! $ move ! (1 ∷ []) $ fsplit ! $ keep ! (1 ∷ 2 ∷ 6 ∷ 7 ∷ 4 ∷ []) $
    suffices ! (Run (vptr b o ∷ vptr nb₀ no₀ ∷ [])) (subst (λ (us : List Val). ent 𝓤 (Run (vptr b o ∷ vptr nb₀ no₀ ∷ [])) (Run us)) (sym (λ i. are.0.0 i ++ (are.1.0.0 i ++ []))) (id⊢ 𝓤 (Run (vptr b o ∷ vptr nb₀ no₀ ∷ [])))) $
    enter ! 𝓣.C 𝓣.Λ fn (vptr b o ∷ vptr nb₀ no₀ ∷ []) Post $ alloc_all ! (λ l. pass_all ! refl ((tt, tt), ((tt, tt), tt)) $ let Ev = env fn.locals l in
    move ! (0 ∷ 3 ∷ []) $ use2 𝓛 (later (‵ (noted R m.now.of k) ⊛ raw (all 𝓤 Closes))) (sights.sight_opens 𝓛 R κ' q' nb₀ no₀ ν₀ m.now) $ await ! tt $ split ! $ rewrite ! 0 (λ (n : ℕ). ‵ (noted R n k)) same refl $ use1 𝓛 (‵ (once.noted F γ k)) (fit_noted R look size 𝓛 γ k) $ move ! (2 ∷ []) $ fsplit ! $ drop ! $ unhide ! $ fsplit ! $ fpick ! (λ α. fsplit ! $ move ! (1 ∷ []) $ let I : Fml = Tied_held F g.seat a γ (tie_of e₀) α b (o + 0) in use1 𝓛 (‵ (finv (fbor α I))) (past_inv 𝓛 (entry_floor (tie_of e₀)) (fbor α I)) $ move ! (1 ∷ []) $
    use1 𝓛 (‵ (before κ α) ⊛ ‵ (before κ α)) (before_dup 𝓛 κ α) $ split ! $ move ! (6 ∷ []) $ use1 𝓛 (‵ (flft κ (left q)) ⊛ ‵ (flft κ (right q))) (𝓛.lfts.lft_split κ q) $ split ! $ move ! (2 ∷ 1 ∷ []) $
    use2 𝓛 (later (some (λ (s : Share). ‵ (flft α s) ⊛ raw (wand 𝓤 (𝓛.A.lft α s) Again)))) (Lends-one 𝓛 𝓜 𝓡 κ α (right q)) $ await ! tt $ pick ! (λ s. split ! $
    -- [α's token; the way back; the left half; before; the invariant; what the field's `&` holds; the note;
    -- its way back; μ's token]
    let none : Fml = moves.unknown 𝓛 F LF a γ k α in let out₀ : Ptr → Fml = λ p. fsep (flft α s) (moves.glimpse 𝓛 F LF a γ k α none p) in let out : Ptr → Fml = λ p. fsep (flft κ (left q)) (out₀ p) in
    first ! $ blocks ! $ sets ! (addr ! (through ! refl (fld ! refl (stop !)))) refl (tt, tt) $ sets ! (agg ! (and_then ! (lit ! tt) (no_more !))) refl seq_cst_good $ move ! (4 ∷ 0 ∷ 6 ∷ []) $
    use3 𝓛 (raw (asks_ptr 𝓛 (block_ptr b (o + 0)) (λ p. p) out₀)) (reads_plain 𝓛 F LF g.seat a γ k α b (o + 0) s (tie_of e₀)) $ move ! (2 ∷ 4 ∷ 0 ∷ []) $
    use3 𝓛 (raw (𝓣.C _ (vptr b (o + 0) ∷ seq_cst ∷ []) (λ u. mean 𝓛 (calls.found 𝓛 out u)))) (methods.loads 𝓛 𝓜 𝓡 T L κ (left q) b (o + 0) (code.calls-core::atomic::ptr::AtomicPtr::load 𝓡.env wired) out₀) $
    Calls-last ! (fm 𝓛 𝓜 𝓡) (calls.found 𝓛 out) (and_then ! (get ! refl) (and_then ! (get ! refl) (no_more !))) (λ u. calls.finds_either ! out
    (lands_last ! refl (Ptr-Good null_ptr) $ exec ! 𝓣.C 𝓣.Λ Ev (after 1 fn.body) (at_ret Ev Post) $ fsplit3 ! $ move ! (1 ∷ 3 ∷ []) $ use2 𝓛 (later (‵ (flft κ (right q)))) (apply∗ 𝓤 (𝓛.A.lft α s) Again) $ await ! tt $ move ! (1 ∷ 0 ∷ []) $ use2 𝓛 (‵ (flft κ q)) (𝓛.lfts.lft_join κ q) $ move ! (1 ∷ []) $
    fpick ! (λ e. let n : (EntrySight 𝓛 R).Denot = record { marker = m.now.marker; of = γ; known = None } in move ! (3 ∷ []) $ use1 𝓛 (raw (Closes n)) (all_e 𝓤 Closes n) $ move ! (1 ∷ 0 ∷ []) $ use2 𝓛 (later (‵ (sights.lent 𝓛 R κ' q' nb₀ no₀ ν₀ n) ⊛ ‵ (flft κ' q'))) (apply∗ 𝓤 (sem 𝓛 (noted R γ n.known)) _) $ await ! tt $ split ! $
    feq_i ! (List Val) z.0.4.1.0 (vptr nb₀ no₀ ∷ []) are.1.0.0 $ fjoin ! $
    sets ! (of_opd ! (get ! refl)) refl (Ptr-Good null_ptr) $ sets ! (of_opd ! (get ! refl)) refl (Ptr-Good null_ptr) $ sets ! (bin ! (get ! refl) (lit ! tt) tt) refl (tt, tt) $ first ! $ branches ! (get ! refl)
    (λ _. sets_last ! (agg ! (and_then ! (lit ! tt) (no_more !))) refl (tt, (record { fits = lit< tt }, tt)) $ exec ! 𝓣.C 𝓣.Λ Ev (after 5 fn.body) (at_ret Ev Post) $ sets ! (of_opd ! (get ! refl)) refl (tt, (record { fits = lit< tt }, tt)) $
    use0 𝓛 (‵ (Out.own_val None (live 0 vnil ∷ []))) (none_of 𝓛 Ref) $ move ! (1 ∷ 2 ∷ 0 ∷ 3 ∷ 5 ∷ []) $
    nothing ! $ move ! (1 ∷ 0 ∷ []) $ fjoin ! $ nothing ! $ fjoin ! $ move ! (1 ∷ 4 ∷ []) $ nothing ! $ move ! (2 ∷ 0 ∷ []) $ join ! $ move ! (1 ∷ 0 ∷ []) $ join ! $ move ! (3 ∷ 0 ∷ []) $ join ! $
    use0 𝓛 (raw (fact 𝓤 (Unit {0}))) (fact_i 𝓤 (Unit {0}) (emp 𝓤) tt) $ use0 𝓛 (raw (fact 𝓤 (Unit {0}))) (fact_i 𝓤 (Unit {0}) (emp 𝓤) tt) $ join ! $ use0 𝓛 (raw (fact 𝓤 (Unit {0}))) (fact_i 𝓤 (Unit {0}) (emp 𝓤) tt) $ join ! $ use0 𝓛 (raw (fact 𝓤 ((k ≡ None) × (n.known ≡ None)))) (fact_i 𝓤 ((k ≡ None) × (n.known ≡ None)) (emp 𝓤) (e, refl)) $ join ! $ use0 𝓛 (raw (fact 𝓤 (γ ≡ m.now.of))) (fact_i 𝓤 (γ ≡ m.now.of) (emp 𝓤) (sym same)) $ join ! $ returns ! (look_at ! 0 refl) $ free_all ! refl $ keep ! (1 ∷ 2 ∷ 3 ∷ 0 ∷ []) $ by ! (leaves 𝓛 En hs c z (live 0 vnil) None (tt, (n, tt)) (tt, (tt, tt)))) (λ wrong. absurd wrong)))
    (λ pb po. lands_last ! refl (tt, tt) $ exec ! 𝓣.C 𝓣.Λ Ev (after 1 fn.body) (at_ret Ev Post) $ fsplit3 ! $ move ! (1 ∷ 3 ∷ []) $ use2 𝓛 (later (‵ (flft κ (right q)))) (apply∗ 𝓤 (𝓛.A.lft α s) Again) $ await ! tt $ move ! (1 ∷ 0 ∷ []) $ use2 𝓛 (‵ (flft κ q)) (𝓛.lfts.lft_join κ q) $ move ! (1 ∷ []) $
    fsplit ! $ fpick ! (λ t. drop ! $ fpick ! (λ y. fsplit3 ! $ move ! (2 ∷ []) $ fpick ! (λ so. drop ! $ move ! (0 ∷ 3 ∷ []) $
    use2 𝓛 (later (‵ (lent_at F (block_ptr pb po) y.0 κ))) (moves.reaches 𝓛 F LF a κ α (block_ptr pb po) y) $ await ! tt $ use1 𝓛 (given (look y.0 ≡ size) (‵ (shared_of R y.0 pb po κ))) (fit_lent R look size 𝓛 a pb po y.0 κ) $ learn ! (λ so_cast. let so_long : g.measure y.0 ≡ long = length_seen g.measure g.mould e₀.3 y.0 long (mould_in e₀.3) so_cast in hide ! $ move ! (1 ∷ []) $
    let n : (EntrySight 𝓛 R).Denot = record { marker = m.now.marker; of = γ; known = Some y.0 } in move ! (3 ∷ []) $ use1 𝓛 (raw (Closes n)) (all_e 𝓤 Closes n) $ move ! (1 ∷ 0 ∷ []) $ use2 𝓛 (later (‵ (sights.lent 𝓛 R κ' q' nb₀ no₀ ν₀ n) ⊛ ‵ (flft κ' q'))) (apply∗ 𝓤 (sem 𝓛 (noted R γ n.known)) _) $ await ! tt $ split ! $
    feq_i ! (List Val) z.0.4.1.0 (vptr nb₀ no₀ ∷ []) are.1.0.0 $ fjoin ! $
    sets ! (of_opd ! (get ! refl)) refl (tt, tt) $ sets ! (of_opd ! (get ! refl)) refl (tt, tt) $ sets ! (bin ! (get ! refl) (lit ! tt) (tests_null (block_ptr pb po) t)) refl (tt, tt) $ first ! $ branches ! (get ! refl) (λ wrong. absurd wrong) (λ _.
    let Then = any_q (after_seq 𝓤 H (Wp 𝓤 H 𝓣.C 𝓣.Λ Ev (after 5 fn.body) (at_return 𝓤 H Ev Post)) (at_return 𝓤 H Ev Post)) in
    let x : Ref.Denot = record { ref_ptr = (pb, po); now = y.0 } in let v : Val = live 1 (vcons (vptr pb po) vnil) in let good : Good (layout Out) v = (tt, (record { fits = lit< tt }, (tt, tt))) in
    first ! $ blocks ! $ sets_last ! (addr ! (through ! refl (stop !))) refl (tt, tt) $ exec ! 𝓣.C 𝓣.Λ Ev wraps Then $ sets ! (of_opd ! (get ! refl)) refl (tt, tt) $ sets_last ! (agg ! (and_then ! (lit ! tt) (and_then ! (get ! refl) (no_more !)))) refl good $
    exec ! 𝓣.C 𝓣.Λ Ev (after 5 fn.body) (at_ret Ev Post) $ sets ! (of_opd ! (get ! refl)) refl good $ move ! (2 ∷ []) $ feq_i ! (List Val) (vptr pb po ∷ []) (vptr pb po ∷ []) refl $ fjoin ! $
    use1 𝓛 (‵ (Out.own_val (Some x) (v ∷ []))) (Some-of 𝓛 Ref x (vptr pb po)) $ move ! (1 ∷ 2 ∷ []) $
    nothing ! $ move ! (1 ∷ 0 ∷ []) $ fjoin ! $ nothing ! $ fjoin ! $ move ! (1 ∷ 4 ∷ []) $ nothing ! $ move ! (2 ∷ 0 ∷ []) $ join ! $ move ! (1 ∷ 0 ∷ []) $ join ! $ move ! (3 ∷ 0 ∷ []) $ join ! $
    let E₄ : Type 0 = FitsEntry e₀ (g.mould y.0) in use0 𝓛 (raw (fact 𝓤 (look y.0 ≡ size))) (fact_i 𝓤 (look y.0 ≡ size) (emp 𝓤) so_cast) $ use0 𝓛 (raw (fact 𝓤 E₄)) (fact_i 𝓤 E₄ (emp 𝓤) (λ t is. mould_seen g.measure g.mould e₀.3 y.0 long t is so_cast)) $ join ! $
    use0 𝓛 (raw (fact 𝓤 (g.measure y.0 ≡ long))) (fact_i 𝓤 (g.measure y.0 ≡ long) (emp 𝓤) so_long) $ join ! $ use0 𝓛 (raw (fact 𝓤 ((n.known ≡ Some y.0) × Agrees k y.0))) (fact_i 𝓤 ((n.known ≡ Some y.0) × Agrees k y.0) (emp 𝓤) (refl, so)) $ join ! $ use0 𝓛 (raw (fact 𝓤 (γ ≡ m.now.of))) (fact_i 𝓤 (γ ≡ m.now.of) (emp 𝓤) (sym same)) $ join ! $ returns ! (look_at ! 0 refl) $ free_all ! refl $ keep ! (1 ∷ 2 ∷ 3 ∷ 0 ∷ []) $ by ! (leaves 𝓛 En hs c z v (Some x) (tt, (n, tt)) (tt, (tt, tt)))))))))))))))
