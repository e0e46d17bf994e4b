-- `offer` shares the block for a lifetime of its own, and ends that lifetime if another came first.
use Rattle.std.proofs.Common.{◌≡◌, ℕ, ◌+◌, List, [], ◌∷◌, ◌++◌, refl, sym, ap, subst, lit<}
use mir.Syntax.{dcons, dnil, Body, a_type, named}
use mir.Val.{Val, vnull, vptr, vcons, vnil}
use mir.MapTy.{inst_fn}
use base.Fraction.{full_share, left, right}
use base.Logic.{SProp, ent, wand, emp, never, id⊢, apply∗, all, all_e}
use base.Fml.{Lft, Share, Fml, ftrue, ffalse, fsep, flft, fbor, finv}
use base.Before.{before}
use prog.Wp.{WpFn, Wp, after_seq, at_return}
use types.Logic.{sem}
use types.Na.{before_dup}
use types.Kit.{‵, raw, ◌⊛◌, some, given, later, mean, at_ret, any_q, ◌$◌, ◌∵◌, !, qed, by, move, keep, drop, split, split3, join, fsplit, fsplit3, fjoin, fpick, pick, learn, suffices, use0, use1, use2, use3, await, rewrite, feq_i}
use types.Run.{stop, fld, addr, lit, of_opd, no_more, and_then, first, blocks, switches_on, exec, Calls-last, returns, enter}
use types.ByLocal.{alloc_all, pass_all, free_all, look_at, get, get_in, get_tag, through, sets, sets_last, lands_last, env}
use types.Part.{agg, sub, whole}
use types.Match.{live, vrt, in_variant}
use contract.Monad.{fact, fact_i}
use contract.BorrowLft.{◌⊑◌}
use contract.Running.{tables}
use contract.Shared.{Lends-one}
use denote.Exit.{yes, no}
use denote.RattleType.{RattleType, owns}
use denote.Signature.{types_at, type_at, plain}
use denote.Builtin.{RefOf}
use denote.Ref.{ShrRef}
use denote.RawPtr.{Ptr, block_ptr, null_ptr, ptr_val, in_a_block, Testable}
use denote.Opens.{unhide, hide}
use denote.Steps.{nothing, heard}
use denote.Memory.{shared_of}
use denote.Param.{param, layout, bounded}
use denote.Param.Laws.{param_laws}
use denote.Struct.Lending.{lent_at}
use denote.Triple.Walked.{Stays, stay_dropped, walk_of, Goes-dropped, stay_ref, Goes-ref}
use Rattle.core.specs.declared.option.Option.TheVariants.{None, Some}
use Rattle.core.specs.declared.result.Result.TheVariants.{Ok, Err}
use Rattle.core.specs.contracts.option.Option as option
use Rattle.core.specs.contracts.atomic.ptr.AtomicPtr as atomic
use Rattle.core.proofs.atomic.ptr.AtomicPtr.TheLaws as atomic_laws
use Rattle.core.proofs.alloc.Calls.{Goes-blank}
use Rattle.core.proofs.alloc.Shapes.{after, head, arm_body}
use Rattle.core.proofs.atomic.Steps.{fm}
use Rattle.core.proofs.cell.Inside.{Good}
use Rattle.core.proofs.option.Made.{Some-of, none_of}
use Rattle.std.specs.contracts.alloc.Global as heap
use Rattle.std.proofs.alloc.Global.TheLaws as heap_laws
use Rattle.std.specs.contracts.impls.GlobalAllocator.TheImpl.{ghosts}
use Rattle.std_alloc.proofs.ResultValues.{and_tt}
use Rattle.once_cell.specs.Once.{boxed}
use Rattle.once_cell.specs.Once as once
use Rattle.std.specs.declared.option.Option.{Option}
use Rattle.tie_core.specs.Visit.{EntryTie, entry_floor}
use Rattle.table_core.specs.Entry.{EntryView, Mould, Agrees, Cast, tie_of, mould_in, seen_as, noted}
use Rattle.table_core.specs.TiedEntry.{past, Tied_held}
use Rattle.table_core.proofs.Fits.{fit_laws, fit_noted, fit_in, fit_out, fit_lent, length_seen}
use Rattle.table_core.proofs.PlainMoves.{offers_plain}
use Rattle.table_core.proofs.TiedRests.{past_inv}
use Rattle.table_core.specs.contracts.entry.steps.Entry as entry
use Rattle.std.proofs.raw_atomic.Walks.{proved_at, leaves}
use Rattle.std.proofs.raw_atomic.PtrCalls as calls
use Rattle.std.proofs.raw_atomic.PtrMethods as methods
use Rattle.std.proofs.raw_atomic.Calls.{seq_cst}
use Rattle.std.proofs.raw_atomic.PtrCalls.{seq_cst_good}
use Rattle.once_cell.proofs.Moves as moves
use Rattle.table_core.proofs.Values.{both, Loose, loose_good, loose_out, loose_in, pair_in}
use Rattle.table_core.proofs.Sights as sights
use Rattle.table_core.proofs.Sights.{EntrySight}
use Rattle.core.specs.Sync.RawAtomic.Pointer.{compares}
use Rattle.table_core.specs.contracts.entry.steps.Entry.offer.{ended, clauses}
use Rattle.table_core.specs.contracts.entry.steps.Entry.offer.Key.{name as #self}
use Rattle.table_core.proofs.entry.steps.Entry.offer.Statement.{statement}
use Rattle.table_core.proofs.entry.steps.Entry.offer.Code as code

pub offer_spec : {M : Type 1} → statement M
offer_spec 𝓤 𝓛 𝓜 𝓡 wired T L g d _ =
    let H = 𝓛.H in let 𝓣 = tables 𝓤 H 𝓜 𝓡 𝓡.env in let R : RattleType = param 0 T in let LR = param_laws 0 T L in let En = ended T g d in let c = clauses T g d 𝓛 𝓜.mem 𝓡.returns in
    let inst = bounded (a_type ∷ []) (T, tt) (dcons d dnil) in let fn = inst_fn inst code.function in let Z : RattleType = heap.the_row in let LZ = heap_laws.the_row_laws in let P : RattleType = atomic.the_row R in let LP = atomic_laws.the_row_laws R LR in
    let Lr : RattleType = Loose R Z LZ ghosts in let hs : Stays En.signature.params En.kept = (stay_dropped (RefOf (0 ∷ []) tt (plain (λ _. entry.the_row R g)) (λ _. tt)) yes, (stay_dropped (plain (λ _. Lr)) no, (stay_ref (1 ∷ []) tt (plain (λ _. EntrySight 𝓛 R)), tt))) in
    proved_at 𝓛 En hs c 𝓜 𝓡 (Goes-dropped 𝓛 3 (RefOf (0 ∷ []) tt (plain (λ _. entry.the_row R g)) (λ _. tt)) yes (λ κs x f. refl), (Goes-blank 𝓛 3 (plain (λ _. Lr)) no (λ κs x f. tt), (Goes-ref 𝓛 3 1 tt (plain (λ _. EntrySight 𝓛 R)), tt))) (#self inst) fn (code.unfolded 𝓤 H 𝓜 𝓡 wired (T, tt) d) (λ z are.
    let κs = z.0.0 in let qs = z.0.1 in let Post : Val → SProp 𝓤 = (walk_of 𝓛 En hs c).post z in let Run : List Val → SProp 𝓤 = λ ws. WpFn 𝓤 H 𝓣.C 𝓣.Λ fn ws Post in let Out : RattleType = type_at En.signature.result κs in
    let b : ℕ = z.0.3.0.ref_ptr.0 in let o : ℕ = z.0.3.0.ref_ptr.1 in let a = z.0.3.0.now.0 in let long : ℕ = z.0.3.0.now.1 in let γ : ℕ = z.0.3.0.now.2 in let e₀ : EntryView = z.0.3.0.now in let look : R.Denot → ℕ × Mould = seen_as g.measure g.mould e₀.3 in let size : ℕ × Mould = (long, mould_in e₀.3) in let F : RattleType = Cast R g.measure g.mould e₀ in let LF = fit_laws R look size LR in let κ : Lft = κs.0 in let q : Share = qs.0 in let μ : Lft = κs.1.1.0 in let r : Share = qs.1.1.0 in
    let κ' : Lft = κs.1.0 in let q' : Share = qs.1.0 in let m = z.0.3.1.1.0 in let nb₀ : ℕ = m.ref_ptr.0 in let no₀ : ℕ = m.ref_ptr.1 in let ν₀ : ℕ = m.ghost_name in let k = m.now.known in
    let Closes = sights.Closes 𝓛 R κ' q' nb₀ no₀ ν₀ in let Ref : RattleType = ShrRef (named 0) κ R in let Again : SProp 𝓤 = H.⇛ (𝓛.A.lft κ (right q)) in
    let d = z.0.3.1.0 in let x = d.value in let Back : RattleType = option.the_row Lr in
    qed 𝓛 (((‵ (flft κ q) ⊛ ‵ (flft κ' q') ⊛ ‵ (flft μ r) ⊛ ‵ ftrue) ⊛ ‵ (owns (types_at En.signature.params κs) z.0.3 z.0.4)) ∷ raw (fact 𝓤 (μ ⊑ T.lives)) ∷ (raw (fact 𝓤 (m.now.of ≡ γ)) ⊛ raw (fact 𝓤 (look x ≡ size)) ⊛ raw (fact 𝓤 (tie_of e₀ ≡ None))) ∷ []) ∵
    move ! (1 ∷ 2 ∷ []) $ heard ! (μ ⊑ T.lives) (λ within. split3 ! $ heard ! (m.now.of ≡ γ) (λ same. heard ! (look x ≡ size) (λ fits_in. heard ! (tie_of e₀ ≡ None) (λ plain. split ! $ split3 ! $ move ! (2 ∷ []) $ split ! $ move ! (4 ∷ []) $ fsplit3 ! $ move ! (2 ∷ []) $ fsplit ! $ fsplit ! $ keep ! (4 ∷ 1 ∷ 3 ∷ 7 ∷ 8 ∷ 5 ∷ []) $
    loose_out R Z LZ ghosts ! d z.0.4.1.0 (λ nb no' h e ws fits. let new : Ptr = block_ptr nb no' in let w : Val = both (vptr nb no') h in let typed = loose_good R Z LZ ghosts nb no' h fits in
    use1 𝓛 (given (Testable new) (‵ (boxed R a new x))) (moves.tested 𝓛 R LR a new x) $ learn ! (λ t. use1 𝓛 (‵ (boxed F a new x)) (fit_in R look size 𝓛 a new x fits_in) $
    suffices ! (Run (vptr b o ∷ w ∷ vptr nb₀ no₀ ∷ [])) (subst (λ (us : List Val). ent 𝓤 (Run (vptr b o ∷ w ∷ vptr nb₀ no₀ ∷ [])) (Run us)) (sym (λ i. are.0.0 i ++ (ws i ++ (are.1.1.0.0 i ++ [])))) (id⊢ 𝓤 (Run (vptr b o ∷ w ∷ vptr nb₀ no₀ ∷ [])))) $
    enter ! 𝓣.C 𝓣.Λ fn (vptr b o ∷ w ∷ vptr nb₀ no₀ ∷ []) Post $ alloc_all ! (λ l. pass_all ! refl ((tt, tt), (typed, ((tt, tt), tt))) $ let Ev = env fn.locals l in
    move ! (2 ∷ 5 ∷ []) $ use2 𝓛 (later (‵ (noted R m.now.of k) ⊛ raw (all 𝓤 Closes))) (sights.sight_opens 𝓛 R κ' q' nb₀ no₀ ν₀ m.now) $ await ! tt $ split ! $ rewrite ! 0 (λ (n : ℕ). ‵ (noted R n k)) same refl $ use1 𝓛 (‵ (once.noted F γ k)) (fit_noted R look size 𝓛 γ k) $ move ! (4 ∷ []) $ fsplit ! $ drop ! $ unhide ! $ fsplit ! $ fpick ! (λ α. fsplit ! $ move ! (1 ∷ []) $ rewrite ! 0 (λ (τ : Option EntryTie). ‵ (past (entry_floor τ) (fbor α (Tied_held F g.seat a γ τ α b (o + 0))))) plain refl $
    let I : Fml = Tied_held F g.seat a γ None α b (o + 0) in use1 𝓛 (‵ (finv (fbor α I))) (past_inv 𝓛 0 (fbor α I)) $ move ! (1 ∷ []) $
    use1 𝓛 (‵ (before κ α) ⊛ ‵ (before κ α)) (before_dup 𝓛 κ α) $ split ! $ move ! (8 ∷ []) $ use1 𝓛 (‵ (flft κ (left q)) ⊛ ‵ (flft κ (right q))) (𝓛.lfts.lft_split κ q) $ split ! $ move ! (2 ∷ 1 ∷ []) $
    use2 𝓛 (later (some (λ (s : Share). ‵ (flft α s) ⊛ raw (wand 𝓤 (𝓛.A.lft α s) Again)))) (Lends-one 𝓛 𝓜 𝓡 κ α (right q)) $ await ! tt $ pick ! (λ s. split ! $
    -- [α's token; the way back; the left half; before; the invariant; what the field's `&` holds; the note;
    -- its way back; the box; the handle; μ's token]
    move ! (8 ∷ 0 ∷ 10 ∷ []) $ use3 𝓛 (later (moves.Out 𝓛 F LF a α s μ r new x)) (moves.lend_out 𝓛 F LF a α s μ r within new x) $ await ! tt $ pick ! (λ ν. split3 ! $
    let won₀ : Ptr → Fml = λ p. fsep (flft α s) (moves.won 𝓛 F LF a γ k α b (o + 0) s nb no' ν x t p) in let lost₀ : Ptr → Fml = λ p. fsep (flft α s) (moves.lost 𝓛 F LF a γ k α b (o + 0) s nb no' ν x t p) in
    let won : Ptr → Fml = λ p. fsep (flft κ (left q)) (won₀ p) in let lost : Ptr → Fml = λ p. fsep (flft κ (left q)) (lost₀ p) in
    sets ! (of_opd ! (get_in ! (fld ! refl (stop !)) (sub ! 0 refl (whole !)))) refl (tt, tt) $ first ! $ blocks ! $ sets ! (addr ! (through ! refl (fld ! refl (stop !)))) refl (tt, tt) $ sets ! (of_opd ! (get ! refl)) refl (tt, tt) $ sets ! (agg ! (and_then ! (lit ! tt) (no_more !))) refl seq_cst_good $ sets ! (agg ! (and_then ! (lit ! tt) (no_more !))) refl seq_cst_good $ move ! (0 ∷ 8 ∷ []) $ join ! $ move ! (6 ∷ 1 ∷ 0 ∷ []) $
    use3 𝓛 (raw (compares 𝓛 (block_ptr b (o + 0)) null_ptr new won₀ lost₀)) (offers_plain 𝓛 F LF g.seat a γ k α b (o + 0) s nb no' ν x t) $ move ! (3 ∷ 5 ∷ 0 ∷ []) $
    use3 𝓛 (raw (𝓣.C _ (vptr b (o + 0) ∷ vnull ∷ vptr nb no' ∷ seq_cst ∷ seq_cst ∷ []) (λ u. mean 𝓛 (calls.answered 𝓛 won lost u))))
    (methods.exchanges 𝓛 𝓜 𝓡 T L κ (left q) b (o + 0) (code.calls-core::atomic::ptr::AtomicPtr::compare_exchange 𝓡.env wired) null_ptr new won₀ lost₀) $ move ! (0 ∷ 2 ∷ 3 ∷ 4 ∷ 1 ∷ []) $
    -- [the call; the way back; before; the note's way back; μ's token; the handle]
    let arms : Body = head (after 3 fn.body) in let Then = any_q (after_seq 𝓤 H (Wp 𝓤 H 𝓣.C 𝓣.Λ Ev (after 4 fn.body) (at_return 𝓤 H Ev Post)) (at_return 𝓤 H Ev Post)) in
    Calls-last ! (fm 𝓛 𝓜 𝓡) (calls.answered 𝓛 won lost) (and_then ! (get ! refl) (and_then ! (lit ! tt) (and_then ! (get ! refl) (and_then ! (get ! refl) (and_then ! (get ! refl) (no_more !)))))) (λ u. calls.hears ! won lost
    (λ p. lands_last ! refl (calls.answer_good (Ok p)) $ exec ! 𝓣.C 𝓣.Λ Ev (after 2 fn.body) (at_ret Ev Post) $ sets ! (of_opd ! (get ! refl)) refl (calls.answer_good (Ok p)) $ fsplit3 ! $ move ! (1 ∷ 3 ∷ []) $ use2 𝓛 (later (‵ (flft κ (right q)))) (apply∗ 𝓤 (𝓛.A.lft α s) Again) $ await ! tt $ move ! (1 ∷ 0 ∷ []) $ use2 𝓛 (‵ (flft κ q)) (𝓛.lfts.lft_join κ q) $ move ! (1 ∷ []) $
    fsplit3 ! $ move ! (2 ∷ []) $ fpick ! (λ so. drop ! $ move ! (0 ∷ 3 ∷ []) $
    use2 𝓛 (later (‵ (lent_at F new x κ))) (moves.reaches 𝓛 F LF a κ α new (x, ν, right full_share)) $ await ! tt $ use1 𝓛 (given (look x ≡ size) (‵ (shared_of R x nb no' κ))) (fit_lent R look size 𝓛 a nb no' x κ) $ learn ! (λ so_cast. let so_long : g.measure x ≡ long = length_seen g.measure g.mould e₀.3 x long (mould_in e₀.3) so_cast in hide ! $ move ! (1 ∷ []) $
    let n : (EntrySight 𝓛 R).Denot = record { marker = m.now.marker; of = γ; known = Some x } in move ! (3 ∷ []) $ use1 𝓛 (raw (Closes n)) (all_e 𝓤 Closes n) $ move ! (1 ∷ 0 ∷ []) $ use2 𝓛 (later (‵ (sights.lent 𝓛 R κ' q' nb₀ no₀ ν₀ n) ⊛ ‵ (flft κ' q'))) (apply∗ 𝓤 (sem 𝓛 (noted R γ n.known)) _) $ await ! tt $ split ! $
    feq_i ! (List Val) z.0.4.1.1.0 (vptr nb₀ no₀ ∷ []) are.1.1.0.0 $ fjoin ! $
    let v : Val = both (vptr nb no') (live 0 vnil) in let good : Good (layout Out) v = (tt, (tt, ((record { fits = lit< tt }, tt), tt))) in let ref : Ref.Denot = record { ref_ptr = (nb, no'); now = x } in
    first ! $ switches_on ! (get_tag ! (vrt ! refl (fld ! refl (stop !))) (whole !)) $ exec ! 𝓣.C 𝓣.Λ Ev (arm_body 0 arms) Then $ first ! $ blocks ! $ sets_last ! (addr ! (through ! refl (stop !))) refl (tt, tt) $ exec ! 𝓣.C 𝓣.Λ Ev (after 1 (arm_body 0 arms)) Then $
    sets ! (of_opd ! (get ! refl)) refl (tt, tt) $ sets ! (agg ! (and_then ! (lit ! tt) (no_more !))) refl (tt, (record { fits = lit< tt }, tt)) $ sets_last ! (agg ! (and_then ! (get ! refl) (and_then ! (get ! refl) (no_more !)))) refl good $
    exec ! 𝓣.C 𝓣.Λ Ev (after 4 fn.body) (at_ret Ev Post) $ sets ! (of_opd ! (get ! refl)) refl good $ move ! (2 ∷ []) $ feq_i ! (List Val) (vptr nb no' ∷ []) (vptr nb no' ∷ []) refl $ fjoin ! $
    use0 𝓛 (‵ (Back.own_val None (live 0 vnil ∷ []))) (none_of 𝓛 Lr) $ move ! (1 ∷ []) $ pair_in Ref Back ! ref None (vptr nb no') (live 0 vnil) $ move ! (1 ∷ 2 ∷ []) $
    nothing ! $ move ! (1 ∷ 0 ∷ []) $ fjoin ! $ nothing ! $ fjoin ! $ nothing ! $ fjoin ! $ move ! (1 ∷ 4 ∷ []) $ nothing ! $ move ! (2 ∷ 0 ∷ []) $ join ! $ move ! (1 ∷ 0 ∷ []) $ join ! $ move ! (3 ∷ 0 ∷ []) $ join ! $
    use0 𝓛 (raw (fact 𝓤 (look x ≡ size))) (fact_i 𝓤 (look x ≡ size) (emp 𝓤) so_cast) $ use0 𝓛 (raw (fact 𝓤 (g.measure x ≡ long))) (fact_i 𝓤 (g.measure x ≡ long) (emp 𝓤) so_long) $ join ! $ use0 𝓛 (raw (fact 𝓤 ((x ≡ x) × (k ≡ None)))) (fact_i 𝓤 ((x ≡ x) × (k ≡ None)) (emp 𝓤) (refl, so)) $ join ! $ use0 𝓛 (raw (fact 𝓤 ((n.known ≡ Some x) × Agrees k x))) (fact_i 𝓤 ((n.known ≡ Some x) × Agrees k x) (emp 𝓤) (refl, subst (λ (j : (option.the_row R).Denot). Agrees j x) (sym so) tt)) $ join ! $ use0 𝓛 (raw (fact 𝓤 (γ ≡ m.now.of))) (fact_i 𝓤 (γ ≡ m.now.of) (emp 𝓤) (sym same)) $ join ! $ returns ! (look_at ! 0 refl) $ free_all ! refl $ keep ! (1 ∷ 2 ∷ 3 ∷ 0 ∷ []) $ by ! (leaves 𝓛 En hs c z v (ref, None) (tt, (tt, (n, tt))) (tt, (tt, (tt, tt)))))))
    (λ p. lands_last ! refl (calls.answer_good (Err p)) $ exec ! 𝓣.C 𝓣.Λ Ev (after 2 fn.body) (at_ret Ev Post) $ sets ! (of_opd ! (get ! refl)) refl (calls.answer_good (Err p)) $ fsplit3 ! $ move ! (1 ∷ 3 ∷ []) $ use2 𝓛 (later (‵ (flft κ (right q)))) (apply∗ 𝓤 (𝓛.A.lft α s) Again) $ await ! tt $ move ! (1 ∷ 0 ∷ []) $ use2 𝓛 (‵ (flft κ q)) (𝓛.lfts.lft_join κ q) $ move ! (1 ∷ []) $
    fsplit ! $ use1 𝓛 (later (‵ (boxed F a new x))) (moves.take_back 𝓛 F LF a α new x ν) $ await ! tt $ use1 𝓛 (given (look x ≡ size) (‵ (boxed R a new x))) (fit_out R look size 𝓛 a new x) $ learn ! (λ _. move ! (0 ∷ 6 ∷ []) $ loose_in R Z LZ ghosts ! nb no' h d.alloc x $ move ! (1 ∷ 2 ∷ 3 ∷ 4 ∷ 5 ∷ []) $
    in_a_block ! p (moves.glimpse 𝓛 F LF a γ k α ffalse) (id⊢ 𝓤 (never 𝓤)) (λ pb po is. fsplit ! $ drop ! $ fpick ! (λ y. fsplit3 ! $ move ! (2 ∷ []) $ fpick ! (λ so. drop ! $ move ! (0 ∷ 3 ∷ []) $
    use2 𝓛 (later (‵ (lent_at F (block_ptr pb po) y.0 κ))) (moves.reaches 𝓛 F LF a κ α (block_ptr pb po) y) $ await ! tt $ use1 𝓛 (given (look y.0 ≡ size) (‵ (shared_of R y.0 pb po κ))) (fit_lent R look size 𝓛 a pb po y.0 κ) $ learn ! (λ so_cast. let so_long : g.measure y.0 ≡ long = length_seen g.measure g.mould e₀.3 y.0 long (mould_in e₀.3) so_cast in hide ! $ move ! (1 ∷ []) $
    let n : (EntrySight 𝓛 R).Denot = record { marker = m.now.marker; of = γ; known = Some y.0 } in move ! (3 ∷ []) $ use1 𝓛 (raw (Closes n)) (all_e 𝓤 Closes n) $ move ! (1 ∷ 0 ∷ []) $ use2 𝓛 (later (‵ (sights.lent 𝓛 R κ' q' nb₀ no₀ ν₀ n) ⊛ ‵ (flft κ' q'))) (apply∗ 𝓤 (sem 𝓛 (noted R γ n.known)) _) $ await ! tt $ split ! $
    feq_i ! (List Val) z.0.4.1.1.0 (vptr nb₀ no₀ ∷ []) are.1.1.0.0 $ fjoin ! $
    let back : Val = live 1 (vcons w vnil) in let v : Val = both (vptr pb po) back in let l₀ : Lr.Denot = record { at = new; alloc = d.alloc; value = x } in let ref : Ref.Denot = record { ref_ptr = (pb, po); now = y.0 } in
    let held : Good (layout Back) back = (and_tt _ typed.0, (record { fits = lit< tt }, (typed.1, tt))) in let good : Good (layout Out) v = (and_tt _ held.0, (tt, (held.1, tt))) in
    first ! $ switches_on ! (get_tag ! (vrt ! refl (fld ! refl (stop !))) (whole !)) $ exec ! 𝓣.C 𝓣.Λ Ev (arm_body 1 arms) Then $
    sets ! (types.ByLocal.is ! (of_opd ! (get_in ! (vrt ! refl (fld ! refl (stop !))) (in_variant ! 1 0 refl refl (whole !)))) (ap ptr_val is)) refl (tt, tt) $
    first ! $ blocks ! $ sets_last ! (addr ! (through ! refl (stop !))) refl (tt, tt) $ exec ! 𝓣.C 𝓣.Λ Ev (after 2 (arm_body 1 arms)) Then $
    sets ! (of_opd ! (get ! refl)) refl (tt, tt) $ sets ! (of_opd ! (get ! refl)) refl typed $ sets ! (agg ! (and_then ! (lit ! tt) (and_then ! (get ! refl) (no_more !)))) refl held $ sets_last ! (agg ! (and_then ! (get ! refl) (and_then ! (get ! refl) (no_more !)))) refl good $
    exec ! 𝓣.C 𝓣.Λ Ev (after 4 fn.body) (at_ret Ev Post) $ sets ! (of_opd ! (get ! refl)) refl good $ move ! (2 ∷ []) $ feq_i ! (List Val) (vptr pb po ∷ []) (vptr pb po ∷ []) refl $ fjoin ! $ move ! (5 ∷ []) $
    use1 𝓛 (‵ (Back.own_val (Some l₀) (back ∷ []))) (Some-of 𝓛 Lr l₀ w) $ move ! (1 ∷ []) $ pair_in Ref Back ! ref (Some l₀) (vptr pb po) back $ move ! (1 ∷ 2 ∷ []) $
    nothing ! $ move ! (1 ∷ 0 ∷ []) $ fjoin ! $ nothing ! $ fjoin ! $ nothing ! $ fjoin ! $ move ! (1 ∷ 4 ∷ []) $ nothing ! $ move ! (2 ∷ 0 ∷ []) $ join ! $ move ! (1 ∷ 0 ∷ []) $ join ! $ move ! (3 ∷ 0 ∷ []) $ join ! $
    use0 𝓛 (raw (fact 𝓤 (look y.0 ≡ size))) (fact_i 𝓤 (look y.0 ≡ size) (emp 𝓤) so_cast) $ use0 𝓛 (raw (fact 𝓤 (g.measure y.0 ≡ long))) (fact_i 𝓤 (g.measure y.0 ≡ long) (emp 𝓤) so_long) $ join ! $ use0 𝓛 (raw (fact 𝓤 (x ≡ x))) (fact_i 𝓤 (x ≡ x) (emp 𝓤) refl) $ join ! $ use0 𝓛 (raw (fact 𝓤 ((n.known ≡ Some y.0) × Agrees k y.0))) (fact_i 𝓤 ((n.known ≡ Some y.0) × Agrees k y.0) (emp 𝓤) (refl, so)) $ join ! $ use0 𝓛 (raw (fact 𝓤 (γ ≡ m.now.of))) (fact_i 𝓤 (γ ≡ m.now.of) (emp 𝓤) (sym same)) $ join ! $ returns ! (look_at ! 0 refl) $ free_all ! refl $ keep ! (1 ∷ 2 ∷ 3 ∷ 0 ∷ []) $ by ! (leaves 𝓛 En hs c z v (ref, Some l₀) (tt, (tt, (n, tt))) (tt, (tt, (tt, tt))))))))))))))))))))))
