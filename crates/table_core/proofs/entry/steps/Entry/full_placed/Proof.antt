-- `full_placed` puts the two fields together like `full`, and owns the block's seat. The entry has the block's mould.
use Rattle.std.proofs.Common.{◌≡◌, ℕ, List, [], ◌∷◌, ◌++◌, refl, sym, subst}
use mir.Syntax.{dcons, dnil, a_type}
use mir.Val.{Val, vptr, has_ty}
use mir.MapTy.{inst_fn}
use base.Logic.{SProp, ent, emp, id⊢}
use base.Fml.{ftrue, fsep}
use prog.Wp.{WpFn}
use types.Kit.{join, ‵, raw, ◌⊛◌, ◌$◌, ◌∵◌, !, qed, by, move, keep, split, fsplit, fsplit3, fjoin, fpack, suffices, rewrite, later, await, use0, use1, use3}
use base.Stored.{gnil, gcons}
use types.Tokens.{name_new, name_done, res_dup}
use types.Run.{stop, fld, of_opd, no_more, and_then, returns, enter}
use types.ByLocal.{alloc_all, pass_all, free_all, look_at, get, get_in, sets}
use types.Part.{agg, sub, whole}
use contract.Monad.{fact, fact_i}
use contract.BorrowLft.{◌⊑◌}
use contract.Running.{tables}
use denote.Exit.{yes, no}
use denote.RattleType.{RattleType, owns}
use denote.Laws.{Typed}
use denote.Signature.{types_at, type_at, plain}
use denote.RawPtr.{Ptr, block_ptr}
use denote.Steps.{nothing, heard}
use denote.Param.{param, layout, bounded}
use denote.Param.Laws.{param_laws}
use denote.Triple.Walked.{Stays, stay_dropped, walk_of, Goes-dropped}
use Rattle.core.specs.Sync.Atomic.Pointer.{atomic_ptr_value, atomic_ptr_holding}
use Rattle.core.specs.contracts.atomic.ptr.AtomicPtr as atomic
use Rattle.core.proofs.atomic.ptr.AtomicPtr.TheLaws as atomic_laws
use Rattle.core.proofs.alloc.Calls.{Goes-blank}
use Rattle.core.proofs.cell.Inside.{Good, one}
use Rattle.std.specs.contracts.alloc.Global as heap
use Rattle.std.proofs.alloc.Global.TheLaws as heap_laws
use Rattle.atomic_table.proofs.Fields.{token_val}
use Rattle.tie_core.specs.Visit.{EntryTie, entry_seat}
use Rattle.tie_core.specs.contracts.visit.PlacedSeat as own
use Rattle.tie_core.proofs.VisitParts.{entry_seat_told}
use denote.Triple.Entry.{alive}
use Rattle.table_core.specs.Entry.{EntryView, Mould, Cast, tie_of, mould_at, seen_as}
use Rattle.table_core.specs.TiedEntry.{tied_kept}
use Rattle.table_core.specs.contracts.entry.steps.Entry.TheInside as inside
use Rattle.table_core.proofs.Values.{both_tt}
use Rattle.std.proofs.raw_atomic.Walks.{proved_at, leaves}
use Rattle.table_core.proofs.Values.{both, Loose, loose_good, loose_out, two_in, pair_in}
use Rattle.table_core.proofs.Known.{kept_made}
use Rattle.table_core.proofs.Sights.{sight_made, token}
use Rattle.table_core.specs.contracts.entry.steps.EntrySight as sight
use Rattle.table_core.specs.contracts.entry.steps.Entry as entry
use Rattle.std.specs.contracts.impls.GlobalAllocator.TheImpl.{ghosts}
use Rattle.std.specs.declared.option.Option.{Option}
use Rattle.std.specs.declared.option.Option.TheVariants.{Some}
use Rattle.table_core.specs.contracts.entry.steps.Entry.full_placed.{ended, clauses}
use Rattle.table_core.specs.contracts.entry.steps.Entry.full_placed.Key.{name as #self}
use Rattle.table_core.proofs.entry.steps.Entry.full_placed.Statement.{statement}
use Rattle.table_core.proofs.entry.steps.Entry.full_placed.Code as code

pub full_placed_spec : {M : Type 1} → statement M
full_placed_spec 𝓤 𝓛 𝓜 𝓡 wired T L g d _ =
    let H = 𝓛.H in let 𝓣 = tables 𝓤 H 𝓜 𝓡 𝓡.env in let R : RattleType = param 0 T in let LR = param_laws 0 T L in let En = ended T g d in let c = clauses T g d 𝓛 𝓜.mem 𝓡.returns in
    let inst = bounded (a_type ∷ []) (T, tt) (dcons d dnil) in let fn = inst_fn inst code.function in let Z : RattleType = heap.the_row in let LZ = heap_laws.the_row_laws in let P : RattleType = atomic.the_row R in let LP = atomic_laws.the_row_laws R LR in
    let Lr : RattleType = Loose R Z LZ ghosts in let Sr : RattleType = own.the_row in let E : RattleType = entry.the_row R g in let S : RattleType = sight.the_row R in
    let hs : Stays En.signature.params En.kept = (stay_dropped (plain (λ _. P)) no, (stay_dropped (plain (λ _. Lr)) no, (stay_dropped (plain (λ _. Sr)) yes, tt))) in
    proved_at 𝓛 En hs c 𝓜 𝓡 (Goes-blank 𝓛 1 (plain (λ _. P)) no (λ κs x f. tt), (Goes-dropped 𝓛 1 (plain (λ _. Lr)) no (λ κs x f. refl), (Goes-dropped 𝓛 1 (plain (λ _. Sr)) yes (λ κs x f. refl), tt))) (#self inst) fn (code.unfolded 𝓤 H 𝓜 𝓡 wired (T, tt) d) (λ z are.
    let κs = z.0.0 in let qs = z.0.1 in let Post : Val → SProp 𝓤 = (walk_of 𝓛 En hs c).post z in let Run : List Val → SProp 𝓤 = λ ws. WpFn 𝓤 H 𝓣.C 𝓣.Λ fn ws Post in
    let x = z.0.3.0 in let b = z.0.3.1.0 in let a = b.alloc in let y : T.Denot = b.value in let n : ℕ = g.measure y in let mould : Mould = g.mould y in let j : ℕ = z.0.3.1.1.0.number in let t : EntryTie = z.0.3.1.1.0.tie in let τ : Option EntryTie = Some t in let m = gcons gnil (R.coded.code y) in
    let v = one (layout P) z.0.4.0 ((LP.lawful 𝓛).typed x z.0.4.0 are.0) in let Asked : Type 0 = (atomic_ptr_value x ≡ b.at) × (j ≡ g.seat y) in
    qed 𝓛 ((raw (alive 𝓛 En.signature κs qs) ⊛ ‵ (owns (types_at En.signature.params κs) z.0.3 z.0.4)) ∷ raw (fact 𝓤 (κs.0 ⊑ T.lives)) ∷ raw (fact 𝓤 Asked) ∷ []) ∵
    move ! (2 ∷ []) $ heard ! Asked (λ asked. split ! $ move ! (1 ∷ []) $ fsplit3 ! $ move ! (2 ∷ []) $ fsplit ! $ fsplit ! $ move ! (3 ∷ 4 ∷ 1 ∷ []) $
    -- [the word; the box with the allocator; the seat; its words; ..; the tokens]
    rewrite ! 2 (λ (i : ℕ). ‵ (entry_seat τ (Some i))) asked.1 refl $ rewrite ! 0 (λ (us : List Val). ‵ (P.own_val x us)) v.1 refl $ move ! (1 ∷ []) $
    loose_out R Z LZ ghosts ! b z.0.4.1.0 (λ k o h at ev gh. let p : Ptr = block_ptr k o in let w : Val = both v.0 h in let w' : Val = both (vptr k o) h in
    let good : Good (layout E) w = (both_tt (has_ty (layout P) v.0) (has_ty (layout Z) h) v.2.0 gh.0, (v.2.1, (gh.1, tt))) in
    -- [the box; the allocator; the word; the seat; its words; ..]
    rewrite ! 2 (λ (u : Ptr). ‵ (P.own_val (atomic_ptr_holding u) (v.0 ∷ []))) (mathlib.Core.Path.◌∙◌ asked.0 at) refl $ move ! (2 ∷ 1 ∷ []) $ two_in P Z (atomic_ptr_holding p) a ! v.0 h $
    suffices ! (Run (v.0 ∷ w' ∷ token_val ∷ [])) (subst (λ (us : List Val). ent 𝓤 (Run (v.0 ∷ w' ∷ token_val ∷ [])) (Run us)) (sym (λ i. v.1 i ++ (ev i ++ (entry_seat_told z.0.4.1.1.0 are.1.1.0.0 i ++ [])))) (id⊢ 𝓤 (Run (v.0 ∷ w' ∷ token_val ∷ [])))) $
    enter ! 𝓣.C 𝓣.Λ fn (v.0 ∷ w' ∷ token_val ∷ []) Post $ alloc_all ! (λ l. pass_all ! refl (v.2, (loose_good R Z LZ ghosts k o h gh, ((tt, (tt, tt)), tt))) $ name_new ! tt m (λ γ. name_done ! tt $ res_dup ! $
    -- [the value, twice; the name; the fields; the box; the seat; ..]
    use1 𝓛 (‵ (S.own_val (record { marker = record {}; of = γ; known = Some y }) (token ∷ []))) (sight_made 𝓛 R γ (Some y)) $ move ! (2 ∷ 1 ∷ []) $ fjoin ! $ let e : EntryView = (a, n, γ, Some (τ, mould)) in move ! (3 ∷ 0 ∷ 4 ∷ []) $
    use3 𝓛 (later (‵ (tied_kept (Cast R g.measure g.mould e) g.seat a γ τ p))) (kept_made R (seen_as g.measure g.mould (Some (τ, mould))) (n, mould) g.seat τ a γ 𝓛 LR k o y refl) $ await ! tt $
    -- [the entry's; the sight; the fields; the seat's words; ..]
    move ! (2 ∷ 0 ∷ []) $ fjoin ! $ fpack ! Ptr (λ u. fsep ((inside.the_row R g).own_val (record { word = atomic_ptr_holding u; alloc = a }) (w ∷ [])) (tied_kept (Cast R g.measure g.mould e) g.seat a γ τ u)) p $ nothing ! $ fpack ! (Typed E.mir (w ∷ [])) (λ _. ftrue) (good, tt) $ fjoin ! $
    sets ! (of_opd ! (get_in ! (fld ! refl (stop !)) (sub ! 1 refl (whole !)))) refl gh $ sets ! (agg ! (no_more !)) refl (tt, tt) $ sets ! (agg ! (and_then ! (get ! refl) (no_more !))) refl (tt, (tt, tt)) $
    let k' : S.Denot = record { marker = record {}; of = γ; known = Some y } in let r : Val = both w token in
    let fine : Good (layout (type_at En.signature.result κs)) r = (both_tt (has_ty (layout E) w) (has_ty (layout S) token) good.0 tt, (good.1, ((tt, tt), tt))) in
    sets ! (of_opd ! (get ! refl)) refl v.2 $ sets ! (agg ! (and_then ! (get ! refl) (and_then ! (get ! refl) (no_more !)))) refl good $ sets ! (of_opd ! (get ! refl)) refl (tt, (tt, tt)) $
    sets ! (agg ! (and_then ! (get ! refl) (and_then ! (get ! refl) (no_more !)))) refl fine $ pair_in E S ! e k' w token $
    let Told : Type 0 = (tie_of e ≡ τ) × (mould_at e ≡ mould) in
    use0 𝓛 (raw (fact 𝓤 (Some y ≡ Some y))) (fact_i 𝓤 (Some y ≡ Some y) (emp 𝓤) refl) $ use0 𝓛 (raw (fact 𝓤 (γ ≡ γ))) (fact_i 𝓤 (γ ≡ γ) (emp 𝓤) refl) $ join ! $ use0 𝓛 (raw (fact 𝓤 Told)) (fact_i 𝓤 Told (emp 𝓤) (refl, refl)) $ join ! $ use0 𝓛 (raw (fact 𝓤 (n ≡ n))) (fact_i 𝓤 (n ≡ n) (emp 𝓤) refl) $ join ! $
    nothing ! $ nothing ! $ fjoin ! $ nothing ! $ fjoin ! $ nothing ! $ fjoin ! $ returns ! (look_at ! 0 refl) $ free_all ! refl $ keep ! (5 ∷ 0 ∷ 2 ∷ 1 ∷ []) $ by ! (leaves 𝓛 En hs c z r (e, k') (_, (tt, (tt, tt))) (tt, (tt, (tt, tt)))))))))
