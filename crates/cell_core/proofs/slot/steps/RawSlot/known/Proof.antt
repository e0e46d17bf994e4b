-- `known` keeps what the state shows, by what is known of the cell.
use Rattle.std.proofs.Common.{◌≡◌, ℕ, ◌^◌, List, [], ◌∷◌, ◌++◌, refl, ap, lit<, w64}
use mir.Syntax.{a_type, named}
use mir.Val.{Val, vint, vptr, vstruct, vcons, vnil, of_list}
use mir.MapTy.{inst_fn}
use base.Logic.{SProp, wand, emp, via, apply∗, guard_i}
use base.Fml.{Lft, Share, Fml, ftrue, fsep, flft, feq}
use types.Logic.{sem}
use types.Kit.{mean, ‵, raw, ◌⊛◌, some, given, later, at_ret, ◌$◌, ◌∵◌, !, qed, by, move, keep, drop, use0, use1, use2, use3, split, join, fsplit, fsplit3, fjoin, fjoin3, fpick, fpack, pick, learn, await, rewrite, feq_i, flt_i}
use types.Run.{stop, fld, lit, of_opd, no_more, and_then, first, blocks, exec, Calls-last, returns, enter}
use types.ByLocal.{alloc_all, pass_all, free_all, look_at, get, get_in, sets, lands_last, is, env}
use types.Part.{agg, sub, whole}
use contract.Running.{tables}
use contract.Monad.{fact, fact_i, fact_use}
use contract.Shared.{Lends-one}
use denote.Exit.{yes, no}
use denote.RattleType.{RattleType, owns, Valss}
use denote.Signature.{types_at, plain, named_lft}
use denote.RawPtr.{Ptr, InBlock, block_ptr, ptr_val, block_of, count_of, at_block}
use denote.Steps.{nothing, heard}
use denote.Param.{param, layouts}
use denote.Builtin.{u64}
use denote.Builtin.{RefOf}
use denote.Ref.{shr_vals, shr_Tells}
use denote.Opens.{unhide}
use Rattle.cell_core.specs.Member.{MemberView, HasNames, MayBeStateOf, known_as}
use Rattle.cell_core.specs.contracts.slot.member.RawMember as RawMember
use denote.Triple.Walked.{Stays, stay_dropped, walk_of, Goes-dropped}
use Rattle.atomic_table.proofs.Walks.{proved, leaves}
use Rattle.atomic_table.proofs.Calls.{fm, seq_cst, found, loads, finds}
use Rattle.core.proofs.atomic.Steps.{tail}
use Rattle.cell_core.specs.Fields.{field}
use Rattle.cell_core.specs.Slot.{Names, Turn, slot_owned}
use Rattle.cell_core.specs.contracts.slot.steps.RawSlot as RawSlot
use Rattle.cell_core.specs.contracts.slot.steps.RawSight as RawSight
use Rattle.cell_core.proofs.CellMade.{pointers_val, pointers_good, token_val, slot_told, slot_placed, sight_made}
use Rattle.cell_core.specs.Fixed.{ShowsStage}
use Rattle.cell_core.proofs.Stages.{also, also_stage}
use Rattle.cell_core.proofs.CellSteps as steps
use Rattle.cell_core.proofs.WordSteps.{stepped_at, turns_same}
use Rattle.cell_core.specs.contracts.slot.steps.RawSlot.known.{ended, clauses}
use Rattle.cell_core.specs.contracts.slot.steps.RawSlot.known.Key.{name as #self}
use Rattle.cell_core.proofs.slot.steps.RawSlot.known.Statement.{statement}
use Rattle.cell_core.proofs.slot.steps.RawSlot.known.Code as code

pub known_spec : {M : Type 1} → statement M
known_spec 𝓤 𝓛 𝓜 𝓡 wired T L =
    let H = 𝓛.H in let A = 𝓛.A in let 𝓣 = tables 𝓤 H 𝓜 𝓡 𝓡.env in let R : RattleType = param 0 T in let En = ended T in let c = clauses T 𝓛 𝓜.mem 𝓡.returns in
    let inst = layouts (a_type ∷ []) (T, tt) in let fn = inst_fn inst code.function in
    let self = plain (λ κs. RawSlot.the_row (named_lft 3 0 tt κs) R) in let token = RefOf (1 ∷ []) tt (plain (λ _. RawMember.the_row R)) (λ _. tt) in let hs : Stays En.signature.params En.kept = (stay_dropped self no, (stay_dropped token yes, tt)) in
    proved 𝓛 En hs c 𝓜 𝓡 (Goes-dropped 𝓛 3 self no (λ κs x f. refl), (Goes-dropped 𝓛 3 token yes (λ κs x f. refl), tt)) (#self inst) fn (code.unfolded 𝓤 H 𝓜 𝓡 wired (T, tt))
    (λ κs. ((λ h. pointers_val h.word h.room ∷ []), (shr_vals, tt))) (λ κs. ((λ h vs so. slot_told (named_lft 3 0 tt κs) R h.word h.room vs so.0), (shr_Tells (named 1) κs.1.0 (RawMember.the_row R), tt))) (λ κs qs bounds a gh are.
    let ℓ = named_lft 3 0 tt κs in let Sr : RattleType = RawSlot.the_row ℓ R in let Hr : RattleType = RawSight.the_row R in let h : Sr.Denot = a.0 in let p : Ptr = h.word in let z : Ptr = h.room in let b : ℕ = block_of p in let o : ℕ = count_of p in let d : ℕ = block_of z in let r : ℕ = count_of z in
    let β : Lft = κs.0 in let q : Share = qs.0 in let γ : Names = h.of in let i : ℕ = h.index in let others : Fml = fsep (flft κs.1.0 qs.1.0) (fsep (flft κs.1.1.0 qs.1.1.0) ftrue) in
    let m : MemberView T.Denot = a.1.0.now.of in let known : Val = vptr a.1.0.ref_ptr.0 a.1.0.ref_ptr.1 in let Asked : Type 0 = HasNames γ m.value m.name m.epoch in
    let y : (walk_of 𝓛 En hs c).Ghost = ((κs, qs, bounds, a, (pointers_val p z ∷ [], (known ∷ [], tt))), gh) in let Post : Val → SProp 𝓤 = (walk_of 𝓛 En hs c).post y in
    qed 𝓛 (((‵ (flft β q) ⊛ ‵ others) ⊛ ‵ (owns (types_at En.signature.params κs) a y.0.4)) ∷ raw (fact 𝓤 _) ∷ raw (fact 𝓤 Asked) ∷ []) ∵
    keep ! (2 ∷ 0 ∷ []) $ heard ! Asked (λ asked. split ! $ split ! $ move ! (2 ∷ []) $ fsplit ! $ move ! (1 ∷ []) $ fsplit ! $ fsplit ! $ move ! (3 ∷ []) $ fsplit ! $ keep ! (3 ∷ 1 ∷ 5 ∷ 6 ∷ []) $ unhide ! $ fsplit ! $ drop ! $ move ! (1 ∷ []) $
    -- [the cell; what is known; the token; the others]
    use1 𝓛 (given (InBlock p × InBlock z) (‵ (slot_owned R γ β p z i))) (fact_use 𝓤 _ (slot_placed 𝓛 R γ β p z i) (guard_i 𝓤 (InBlock p × InBlock z) (sem 𝓛 (slot_owned R γ β p z i)))) $ learn ! (λ inb. let is_at : p ≡ block_ptr b o = at_block p inb.0 in let is_room : z ≡ block_ptr d r = at_block z inb.1 in
    rewrite ! 0 (λ (u : Ptr × Ptr). ‵ (slot_owned R γ β u.0 u.1 i)) (λ l. (is_at l, is_room l)) refl $
    enter ! 𝓣.C 𝓣.Λ fn (pointers_val p z ∷ known ∷ []) Post $ alloc_all ! (λ l. pass_all ! refl (pointers_good p z, ((tt, tt), tt)) $ let Ev = env fn.locals l in
    fpick ! (λ s. fsplit ! $ fpick ! (λ at. drop ! $ let γs : List Names = s.0 in let t : Turn = s.1 in let α : Lft = t.0 in fsplit ! $
    -- [before; the invariant; what is known; the token; the others]
    move ! (0 ∷ 3 ∷ []) $ use2 𝓛 (later (some (λ (w : Share). ‵ (flft α w) ⊛ raw (wand 𝓤 (A.lft α w) (H.⇛ (A.lft β q)))))) (Lends-one 𝓛 𝓜 𝓡 β α q) $ await ! tt $ pick ! (λ w. split ! $
    -- [the turn's token; the way back; the invariant; what is known; the others]
    let Member : ℕ → Fml = steps.Shown 𝓛 R γ α (t.1 i) d r m.value in let Shows : ℕ → Fml = also 𝓛 R γ α (t.1 i) d r Member in let after : ℕ → Fml = λ k. fsep (flft α w) (Shows (field k i)) in
    sets ! (is ! (of_opd ! (get_in ! (fld ! refl (stop !)) (sub ! 0 refl (whole !)))) (ap ptr_val is_at)) refl (tt, tt) $
    first ! $ blocks ! $ move ! (2 ∷ 0 ∷ 3 ∷ []) $
    use3 𝓛 (raw (𝓣.C _ (vptr b o ∷ seq_cst ∷ []) (λ u. mean 𝓛 (found after u))))
    (via 𝓤 _ (stepped_at 𝓛 R γ b o d r i s at w (λ k. k) (λ k. k) (turns_same R γs i) Shows (sem 𝓛 (known_as R m.value m.name))
    (also_stage 𝓛 R γ α (t.1 i) d r Member (sem 𝓛 (known_as R m.value m.name)) (steps.finds_member 𝓛 R γ α (t.1 i) d r m.value m.name m.epoch asked)))
    (loads 𝓛 𝓜 𝓡 (code.calls-core::raw_atomic::load 𝓡.env wired) (block_ptr b o) after)) $
    sets ! (agg ! (and_then ! (lit ! tt) (no_more !))) refl (tt, (record { fits = lit< tt }, tt)) $
    Calls-last ! (fm 𝓛 𝓜 𝓡) (found after) (and_then ! (get ! refl) (and_then ! (get ! refl) (no_more !))) (λ u. finds ! after (λ n fits.
    lands_last ! refl (tt, record { fits = fits }) $ exec ! 𝓣.C 𝓣.Λ Ev (tail (tail fn.body)) (at_ret Ev Post) $ sets ! (of_opd ! (get ! refl)) refl (tt, record { fits = fits }) $
    sets ! (agg ! (no_more !)) refl (tt, tt) $ sets ! (agg ! (and_then ! (get ! refl) (no_more !))) refl (tt, (tt, tt)) $
    sets ! (of_opd ! (get ! refl)) refl (tt, (tt, tt)) $ sets ! (agg ! (and_then ! (get ! refl) (and_then ! (get ! refl) (no_more !)))) refl (tt, (record { fits = fits }, ((tt, tt), tt))) $
    -- [the load's; the way back; the others]
    let k : ℕ = field n i in fsplit3 ! $ move ! (2 ∷ []) $ fpick ! (λ stages. drop ! $ move ! (1 ∷ []) $ fsplit ! $ move ! (1 ∷ []) $ fpick ! (λ so. drop ! $ move ! (1 ∷ 0 ∷ []) $
    move ! (0 ∷ 2 ∷ []) $ use2 𝓛 (later (‵ (flft β q))) (apply∗ 𝓤 (A.lft α w) (H.⇛ (A.lft β q))) $ await ! tt $ move ! (0 ∷ 2 ∷ []) $ join ! $ move ! (1 ∷ []) $ fpick ! (λ v.
    let sees : Hr.Denot = record { marker = record {}; of = γ; found = k; value = v } in let val : Val = vstruct (vcons (vint w64 n) (vcons token_val vnil)) in let Told : Type 0 = (γ ≡ γ) × (k ≡ k) × MayBeStateOf m.value k × ShowsStage γ k in
    use1 𝓛 (‵ (Hr.own_val sees (token_val ∷ []))) (sight_made 𝓛 R γ k v) $ nothing ! $ flt_i ! n (2 ^ 64) fits $ feq_i ! (List Val) (vint w64 n ∷ []) (vint w64 n ∷ []) refl $ fjoin ! $
    move ! (0 ∷ 2 ∷ 1 ∷ []) $ fjoin3 ! $ feq_i ! (List Val) (val ∷ []) (val ∷ []) refl $ fjoin ! $
    fpack ! (Valss (u64 ∷ Hr ∷ [])) (λ uss. fsep (feq (List Val) (val ∷ []) (vstruct (of_list (uss.0 ++ (uss.1.0 ++ []))) ∷ [])) (owns (u64 ∷ Hr ∷ []) (n, (sees, tt)) uss)) (vint w64 n ∷ [], (token_val ∷ [], tt)) $
    use0 𝓛 (raw (fact 𝓤 Told)) (fact_i 𝓤 Told (emp 𝓤) (refl, refl, so, stages)) $ nothing ! $ nothing ! $ fjoin ! $ nothing ! $ fjoin ! $
    returns ! (look_at ! 0 refl) $ free_all ! refl $ keep ! (3 ∷ 0 ∷ 2 ∷ 1 ∷ []) $ by ! (leaves 𝓛 En hs c y val (n, sees) (tt, (tt, tt)) (tt, (tt, tt)))))))))))))))
