-- `untie` gives up the seats of all cells.
use Rattle.std.proofs.Common.{◌≡◌, ℕ, List, [], ◌∷◌, refl, w64}
use mir.Syntax.{Ty, a_type, dcons, dnil, named}
use mir.Val.{Val, vint, vptr, vunit}
use mir.MapTy.{inst_fn}
use base.Logic.{SProp, emp}
use base.Fml.{Fml, ftrue, fsep, flft}
use types.Kit.{‵, raw, ◌⊛◌, some, given, later, ◌$◌, ◌∵◌, !, qed, by, move, keep, drop, use0, use2, split, join, fsplit, fsplit3, fjoin, fjoin3, pick, learn, await, feq_i}
use types.Run.{of_opd, returns, enter, unit_lit}
use types.ByLocal.{alloc_all, pass_all, free_all, look_at, sets}
use contract.Running.{tables}
use contract.Monad.{fact, fact_i}
use denote.Exit.{yes}
use denote.RattleType.{RattleType, owns}
use denote.Ref.{mut_vals, mut_Tells, shr_vals, shr_Tells}
use denote.Signature.{types_at, plain}
use denote.RawPtr.{Ptr}
use denote.Steps.{nothing, heard, opens, closes}
use denote.Opens.{unhide}
use denote.Param.{param, bounded}
use denote.Builtin.{RefOf, u64}
use denote.Plain.{uint_vals, uint_Tells}
use denote.Triple.Walked.{Stays, stay_dropped, stay_ref, walk_of, Goes-dropped, Goes-ref}
use Rattle.atomic_table.proofs.Walks.{proved, leaves}
use Rattle.cell_core.specs.Slot.{Names}
use Rattle.cell_core.specs.Laid.{Extent, laid}
use Rattle.cell_core.specs.Member.{MemberView, AreUntied, KnowsCells}
use Rattle.cell_core.specs.contracts.block.steps.Laid as loose
use Rattle.cell_core.specs.contracts.slot.member.RawRow as RawRow
use Rattle.cell_core.proofs.Untied.{Knows, knows_of, known_of, rows}
use Rattle.cell_core.specs.contracts.block.steps.Laid.untie.{ended, clauses}
use Rattle.cell_core.specs.contracts.block.steps.Laid.untie.Key.{name as #self}
use Rattle.cell_core.proofs.block.steps.Laid.untie.Statement.{statement}
use Rattle.cell_core.proofs.block.steps.Laid.untie.Code as code

pub untie_spec : {M : Type 1} → statement M
untie_spec 𝓤 𝓛 𝓜 𝓡 wired T Al L _ ga da dd _ _ =
    let H = 𝓛.H in let 𝓣 = tables 𝓤 H 𝓜 𝓡 𝓡.env in let R : RattleType = param 0 T in let Z : RattleType = param 1 Al in let Lo : RattleType = loose.the_row R Z ga in let S : RattleType = RawRow.the_row R in let En = ended T Al ga da dd in let c = clauses T Al ga da dd 𝓛 𝓜.mem 𝓡.returns in
    let inst = bounded (a_type ∷ a_type ∷ []) (T, (Al, tt)) (dcons da (dcons dd dnil)) in let fn = inst_fn inst code.function in
    let self = plain (λ _. Lo) in let known = RefOf (1 ∷ []) tt (plain (λ _. S)) (λ _. tt) in let index = plain (λ _. u64) in
    let hs : Stays En.signature.params En.kept = (stay_ref (0 ∷ []) tt self, (stay_dropped known yes, (stay_dropped index yes, tt))) in
    proved 𝓛 En hs c 𝓜 𝓡 (Goes-ref 𝓛 4 0 tt self, (Goes-dropped 𝓛 4 known yes (λ κs x f. refl), (Goes-dropped 𝓛 4 index yes (λ κs x f. refl), tt))) (#self inst) fn (code.unfolded 𝓤 H 𝓜 𝓡 wired (T, (Al, tt)) da dd)
    (λ κs. (mut_vals, (shr_vals, (uint_vals w64, tt)))) (λ κs. (mut_Tells (named 0) κs.0 Lo, (shr_Tells (named 1) κs.1.0 S, (uint_Tells w64, tt)))) (λ κs qs bounds a gh are.
    let b' : ℕ = a.0.ref_ptr.0 in let o' : ℕ = a.0.ref_ptr.1 in let h : Lo.Denot = a.0.now in let x : Extent = h.rows in let token : Ty → Ptr → Fml = ga.dealloc_token h.heap in let γs : List Names = h.cells in
    let p : Val = vptr a.1.0.ref_ptr.0 a.1.0.ref_ptr.1 in let ms : List (MemberView T.Denot) = a.1.0.now.of in let j : ℕ = a.1.1.0 in
    let Asked : Type 0 = KnowsCells ms j γs in let others : Fml = fsep (flft κs.1.0 qs.1.0) (fsep (flft κs.1.1.0 qs.1.1.0) (fsep (flft κs.1.1.1.0 qs.1.1.1.0) ftrue)) in
    let y : (walk_of 𝓛 En hs c).Ghost = ((κs, qs, bounds, a, (vptr b' o' ∷ [], (p ∷ [], (vint w64 j ∷ [], tt)))), gh) in let Post : Val → SProp 𝓤 = (walk_of 𝓛 En hs c).post y in
    qed 𝓛 (((‵ (flft κs.0 qs.0) ⊛ ‵ others) ⊛ ‵ (owns (types_at En.signature.params κs) a y.0.4)) ∷ raw (fact 𝓤 _) ∷ raw (fact 𝓤 _) ∷ raw (fact 𝓤 Asked) ∷ []) ∵
    keep ! (3 ∷ 0 ∷ []) $ heard ! Asked (λ asked. split ! $ split ! $ move ! (2 ∷ []) $ fsplit ! $ fsplit3 ! $ move ! (3 ∷ []) $ fsplit ! $ fsplit ! $ keep ! (1 ∷ 4 ∷ 5 ∷ 6 ∷ 7 ∷ []) $
    -- [the row of members; the rows, in two parts; their token; the others]
    unhide ! $ fsplit ! $ drop ! $ move ! (1 ∷ 2 ∷ 3 ∷ []) $
    enter ! 𝓣.C 𝓣.Λ fn (vptr b' o' ∷ p ∷ vint w64 j ∷ []) Post $ alloc_all ! (λ l. pass_all ! refl ((tt, tt), ((tt, tt), ((tt, record { fits = are.1.1.0.1 }), tt))) $
    opens ! tt Lo b' o' (λ ts. move ! (1 ∷ []) $ fsplit ! $
    -- [the words; the rows; four of what is open; the row of members; the others]
    move ! (1 ∷ 6 ∷ []) $ use2 𝓛 (later (some (λ (us : List Names). given (AreUntied γs us × Knows ms j us) (‵ (laid R token x us))))) (rows T L 𝓛 token x γs ms j (knows_of ms j γs asked)) $ await ! tt $ pick ! (λ us. learn ! (λ so.
    let h' : Lo.Denot = record { marker = h.marker; heap = h.heap; rows = x; cells = us } in let Told : Type 0 = (h.heap ≡ h.heap) × (x ≡ x) × AreUntied γs us × KnowsCells ms j us in
    sets ! (of_opd ! (unit_lit !)) refl (tt, tt) $ move ! (1 ∷ 0 ∷ []) $ fjoin ! $ move ! (1 ∷ 0 ∷ 2 ∷ 3 ∷ 4 ∷ []) $
    closes ! tt Lo h' ts b' o' $ feq_i ! (List Val) (vptr b' o' ∷ []) (vptr b' o' ∷ []) refl $ fjoin3 ! $ nothing ! $ nothing ! $ fjoin ! $ nothing ! $ fjoin ! $ move ! (1 ∷ 0 ∷ []) $ fjoin ! $ move ! (1 ∷ 2 ∷ []) $ join ! $
    use0 𝓛 (raw (fact 𝓤 Told)) (fact_i 𝓤 Told (emp 𝓤) (refl, refl, so.0, known_of ms j us so.1)) $ feq_i ! (List Val) (vunit ∷ []) (vunit ∷ []) refl $
    returns ! (look_at ! 0 refl) $ free_all ! refl $ keep ! (2 ∷ 3 ∷ 0 ∷ 1 ∷ []) $ by ! (leaves 𝓛 En hs c y vunit tt (h', (tt, (tt, tt))) (tt, (tt, (tt, tt))))))))))
