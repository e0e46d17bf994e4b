-- `break_for` gives the right to write back, says that the cell is broken, and runs the caller's update.
use Rattle.std.proofs.Common.{Option, Some, None, ◌≤◌, le_refl, ◌++◌, ◌≡◌, ℕ, ◌+◌, ◌*◌, ◌^◌, ◌%◌, List, [], ◌∷◌, refl, sym, ap, subst, lit<, w64}
use mir.Syntax.{a_type, dcons, dnil}
use mir.Val.{Val, vint, vptr, vstruct, vcons, vnil, of_list}
use mir.MapTy.{inst_fn}
use base.Logic.{SProp, sep, wand, emp, via, apply∗, guard_i}
use base.Fml.{Lft, Share, Fml, ftrue, fsep, flft, fbor, feq}
use types.Logic.{sem}
use types.Kit.{mean, ‵, raw, ◌⊛◌, some, given, later, at_ret, ◌$◌, ◌∵◌, !, qed, by, move, keep, drop, use0, use1, use2, use3, split, join, fsplit, fsplit3, fjoin, fpick, pick, learn, await, rewrite, feq_i, split3, fpack}
use types.Run.{stop, fld, lit, of_opd, no_more, and_then, first, blocks, exec, Calls-last, returns, enter}
use types.ByLocal.{alloc_all, pass_all, free_all, look_at, get, get_in, sets, lands_last, is, env}
use types.Part.{agg, sub, whole}
use contract.Running.{tables}
use contract.Monad.{fact, fact_i, fact_use}
use contract.Shared.{Lends-one}
use denote.Exit.{yes, no}
use denote.RattleType.{RattleType, owns, Valss}
use denote.Signature.{types_at, plain, named_lft}
use denote.RawPtr.{Ptr, InBlock, block_ptr, ptr_val, block_of, count_of, at_block}
use denote.Steps.{nothing, heard}
use denote.Param.{param, bounded}
use denote.Builtin.{u64}
use denote.Plain.{uint_vals, uint_Tells}
use denote.Triple.Walked.{Stays, stay_dropped, walk_of, Goes-dropped}
use Rattle.atomic_table.proofs.Walks.{proved, leaves}
use Rattle.atomic_table.proofs.Calls.{fm, seq_cst, found, adds, finds}
use Rattle.core.proofs.atomic.Steps.{tail}
use Rattle.cell_core.specs.Fields.{field}
use Rattle.cell_core.specs.Slot.{Names, setting, break_added, writer_state, writer_stage, Turn, pen_owned, was_broken, over, empty, Room}
use Rattle.cell_core.specs.contracts.slot.steps.RawBroken as RawBroken
use Rattle.cell_core.specs.contracts.slot.steps.RawPen as RawPen
use Rattle.cell_core.proofs.CellMade.{pointers_val, pointers_good, token_val, pen_told, pen_placed, pen_gains, Has, broken_made}
use Rattle.tie_core.specs.contracts.offer.Offer as Offer
use Rattle.tie_core.specs.Tie.{Tie, Step, breaks, Stage, Broken, Made, floor_of, offer_owns, update}
use Rattle.tie_core.proofs.OfferMade.{OfferWords, offer_told, offer_made}
use Rattle.cell_core.proofs.CellSteps.{break_small, found_at, made_broken}
use Rattle.cell_core.proofs.CellSteps as steps
use Rattle.cell_core.proofs.WordSteps.{Turns, stepped_both_at, turns_add}
use Rattle.cell_core.specs.contracts.slot.steps.RawPen.break_for.{ended, clauses}
use Rattle.cell_core.specs.contracts.slot.steps.RawPen.break_for.Key.{name as #self}
use Rattle.cell_core.proofs.slot.steps.RawPen.break_for.Statement.{statement}
use Rattle.cell_core.proofs.slot.steps.RawPen.break_for.Code as code

pub break_for_spec : {M : Type 1} → statement M
break_for_spec 𝓤 𝓛 𝓜 𝓡 wired T X K _ _ _ bk dict _ =
    let H = 𝓛.H in let A = 𝓛.A in let 𝓣 = tables 𝓤 H 𝓜 𝓡 𝓡.env in let R : RattleType = param 0 T in let Xr : RattleType = param 1 X in let Kr : RattleType = param 2 K in let En = ended T X K bk dict in let c = clauses T X K bk dict 𝓛 𝓜.mem 𝓡.returns in
    let inst = bounded (a_type ∷ a_type ∷ a_type ∷ []) (T, (X, (K, tt))) (dcons dict dnil) in let fn = inst_fn inst code.function in
    let self = plain (λ κs. RawPen.the_row (named_lft 5 0 tt κs) R) in let brought = plain (λ κs. Offer.the_row (named_lft 5 1 tt κs) Xr Kr bk) in let hs : Stays En.signature.params En.kept = (stay_dropped self no, (stay_dropped (plain (λ _. u64)) yes, (stay_dropped brought no, tt))) in
    proved 𝓛 En hs c 𝓜 𝓡 (Goes-dropped 𝓛 5 self no (λ κs x f. refl), (Goes-dropped 𝓛 5 (plain (λ _. u64)) yes (λ κs x f. refl), (Goes-dropped 𝓛 5 brought no (λ κs x f. refl), tt))) (#self inst) fn (code.unfolded 𝓤 H 𝓜 𝓡 wired (T, (X, (K, tt))) dict)
    (λ κs. ((λ h. pointers_val h.word h.room ∷ []), (uint_vals w64, ((λ h. token_val ∷ []), tt)))) (λ κs. ((λ h vs so. pen_told (named_lft 5 0 tt κs) R h.word h.room vs so.0), (uint_Tells w64, ((λ h vs so. offer_told (named_lft 5 1 tt κs) Xr Kr bk vs so.0), tt)))) (λ κs qs bounds a gh are.
    let ℓ = named_lft 5 0 tt κs in let ℓ' = named_lft 5 1 tt κs in let Or : RattleType = Offer.the_row ℓ' Xr Kr bk in let up : Or.Denot = a.1.1.0 in let μ : Lft = κs.1.0 in let q' : Share = qs.1.0 in let θ : Lft = bk.age up.about in let J : Fml = bk.inner up.about in let gain : Stage → Stage → Fml = bk.gain up.about in let tie : Tie = up.tie in let Hr : RattleType = RawPen.the_row ℓ R in let S : RattleType = RawBroken.the_row in let h : Hr.Denot = a.0 in let p : Ptr = h.word in let z : Ptr = h.room in let b : ℕ = block_of p in let o : ℕ = count_of p in let d : ℕ = block_of z in let r : ℕ = count_of z in
    let β : Lft = κs.0 in let q : Share = qs.0 in let γ : Names = h.of in let i : ℕ = h.index in let n : ℕ = a.1.0 in let others : Fml = fsep (flft κs.1.1.0 qs.1.1.0) (fsep (flft κs.1.1.1.0 qs.1.1.1.0) (fsep (flft κs.1.1.1.1.0 qs.1.1.1.1.0) ftrue)) in let ν : ℕ = break_added h.first in let Asked : Type 0 = (h.found ≡ h.sought) × (n ≡ ν * 16 ^ i) × (γ.tied ≡ Some tie) × (up.step ≡ breaks) × (up.made ≡ None) in
    let y : (walk_of 𝓛 En hs c).Ghost = ((κs, qs, bounds, a, (pointers_val p z ∷ [], (vint w64 n ∷ [], (token_val ∷ [], tt)))), gh) in let Post : Val → SProp 𝓤 = (walk_of 𝓛 En hs c).post y in let Owned : Ptr × Ptr → Fml = λ u. pen_owned R γ β u.0 u.1 i h.first h.sought h.found in
    qed 𝓛 (((‵ (flft β q) ⊛ ‵ (flft μ q') ⊛ ‵ others) ⊛ ‵ (owns (types_at En.signature.params κs) a y.0.4)) ∷ raw (fact 𝓤 _) ∷ raw (fact 𝓤 _) ∷ raw (fact 𝓤 _) ∷ raw (fact 𝓤 Asked) ∷ []) ∵
    keep ! (4 ∷ 0 ∷ []) $ heard ! Asked (λ asked. split ! $ split3 ! $ move ! (3 ∷ []) $ fsplit ! $ fsplit ! $ move ! (2 ∷ []) $ fsplit3 ! $ move ! (1 ∷ []) $ fsplit ! $ keep ! (5 ∷ 6 ∷ 8 ∷ 1 ∷ 7 ∷ []) $
    -- [the pen; the token; the others; the offer; its token]
    rewrite ! 3 (λ (u : Step × Option Made). ‵ (offer_owns θ J gain tie u.0 μ u.1)) (λ l. (asked.3 l, asked.4 l)) refl $
    use1 𝓛 (given (InBlock p × InBlock z) (‵ (Owned (p, z)))) (fact_use 𝓤 _ (pen_placed 𝓛 R γ β p z i h.first h.sought h.found) (guard_i 𝓤 (InBlock p × InBlock z) (sem 𝓛 (Owned (p, z))))) $ learn ! (λ inb. let is_at : p ≡ block_ptr b o = at_block p inb.0 in let is_room : z ≡ block_ptr d r = at_block z inb.1 in
    rewrite ! 0 (λ (u : Ptr × Ptr). ‵ (Owned u)) (λ l. (is_at l, is_room l)) refl $ use1 𝓛 (‵ (Has 𝓛 R h.first γ β b o d r i)) (pen_gains 𝓛 R γ β b o d r i h.first h.sought h.found asked.0) $
    enter ! 𝓣.C 𝓣.Λ fn (pointers_val p z ∷ vint w64 n ∷ token_val ∷ []) Post $ alloc_all ! (λ l. pass_all ! refl (pointers_good p z, ((tt, record { fits = are.1.0.1 }), ((tt, (tt, tt)), tt))) $ let Ev = env fn.locals l in
    fpick ! (λ s. fsplit3 ! $ fpick ! (λ at. drop ! $ let γs : List Names = s.0 in let t : Turn = s.1 in let α : Lft = t.0 in fsplit ! $
    -- [before; the invariant; the right to write; the token; the others]
    move ! (0 ∷ 3 ∷ []) $ use2 𝓛 (later (some (λ (w : Share). ‵ (flft α w) ⊛ raw (wand 𝓤 (A.lft α w) (H.⇛ (A.lft β q)))))) (Lends-one 𝓛 𝓜 𝓡 β α q) $ await ! tt $ pick ! (λ w. split ! $
    -- [the turn's token; the way back; the invariant; the right to write; the others]
    move ! (3 ∷ []) $ fsplit ! $ fsplit ! $ move ! (0 ∷ 2 ∷ []) $ join ! $ move ! (1 ∷ 0 ∷ []) $ join ! $
    -- [the rights; the turn's token; the way back; the invariant; the others; the offer; its token]
    move ! (5 ∷ []) $ fsplit3 ! $ move ! (0 ∷ 8 ∷ []) $ use2 𝓛 (later (some (λ (v : Share). ‵ (flft θ v) ⊛ raw (wand 𝓤 (A.lft θ v) (H.⇛ (A.lft μ q')))))) (Lends-one 𝓛 𝓜 𝓡 μ θ q') $ await ! tt $ pick ! (λ v'. split ! $
    -- [the table's token; its way back; its invariant; the update; the rights; the turn's token; the way back; the invariant; the others]
    let Update : Fml = update θ J gain tie breaks in let Gone : ℕ → Fml = found_at (was_broken γ.broken_name) (writer_state h.first) in let Shown : ℕ → Fml = λ k. fsep (Gone k) (steps.ran 𝓛 R γ α (t.1 i) d r θ J gain tie breaks k) in let after : ℕ → Fml = λ k. fsep (flft α w) (fsep (flft θ v') (Shown (field k i))) in
    let Free : Fml = fsep (empty R γ α (t.1 i) d r) (fbor α (Room R γ α (t.1 i) d r)) in let W : SProp 𝓤 = sep 𝓤 (sem 𝓛 (setting R γ h.first)) (sep 𝓤 (sem 𝓛 (over R γ)) (sem 𝓛 Free)) in
    sets ! (is ! (of_opd ! (get_in ! (fld ! refl (stop !)) (sub ! 0 refl (whole !)))) (ap ptr_val is_at)) refl (tt, tt) $
    first ! $ blocks ! $ move ! (3 ∷ 4 ∷ []) $ join ! $ move ! (1 ∷ 0 ∷ []) $ join ! $ move ! (3 ∷ 0 ∷ []) $ join ! $ move ! (4 ∷ 2 ∷ 0 ∷ []) $
    use3 𝓛 (raw (𝓣.C _ (vptr b o ∷ vint w64 n ∷ seq_cst ∷ []) (λ u. mean 𝓛 (found after u))))
    (via 𝓤 _ (stepped_both_at 𝓛 R γ b o d r i s at w (λ k. (k + n) % 2 ^ 64) (λ k. k + ν) (λ within short. subst (λ (l : ℕ). Turns R γs i (λ k. (k + l) % 2 ^ 64) (λ k. k + ν)) (sym asked.1) (turns_add R γs i within short ν (break_small h.first))) tie.floor θ v' J (subst (λ (τ : Option Tie). tie.floor ≤ floor_of τ) (sym asked.2) (le_refl tie.floor)) Shown (sep 𝓤 (sem 𝓛 Update) W)
    (steps.asks_by 𝓛 R γ α (t.1 i) d r θ J gain tie breaks (λ k. k + ν) Gone W asked.2 (steps.breaks_at_its 𝓛 R γ α (t.1 i) d r h.first)))
    (adds 𝓛 𝓜 𝓡 (code.calls-core::raw_atomic::fetch_add 𝓡.env wired) (block_ptr b o) n are.1.0.1 after)) $
    sets ! (agg ! (and_then ! (lit ! tt) (no_more !))) refl (tt, (record { fits = lit< tt }, tt)) $
    Calls-last ! (fm 𝓛 𝓜 𝓡) (found after) (and_then ! (get ! refl) (and_then ! (get ! refl) (and_then ! (get ! refl) (no_more !)))) (λ u. finds ! after (λ k fits.
    lands_last ! refl (tt, record { fits = fits }) $ exec ! 𝓣.C 𝓣.Λ Ev (tail (tail fn.body)) (at_ret Ev Post) $
    -- [the step's; the table's way back; the way back; the others]
    fsplit ! $ move ! (0 ∷ 3 ∷ []) $ use2 𝓛 (later (‵ (flft β q))) (apply∗ 𝓤 (A.lft α w) (H.⇛ (A.lft β q))) $ await ! tt $ move ! (1 ∷ []) $ fsplit ! $
    move ! (0 ∷ 3 ∷ []) $ use2 𝓛 (later (‵ (flft μ q'))) (apply∗ 𝓤 (A.lft θ v') (H.⇛ (A.lft μ q'))) $ await ! tt $
    -- [the offer's token; what is shown; the token; the others]
    move ! (0 ∷ 3 ∷ []) $ join ! $ move ! (2 ∷ 0 ∷ []) $ join ! $ move ! (1 ∷ []) $ fsplit ! $ fsplit ! $ move ! (1 ∷ []) $ fpick ! (λ its. drop ! $
    -- [broken; what is told; the tokens]
    let made : S.Denot = record { marker = record {}; of = γ.broken_name } in use1 𝓛 (‵ (S.own_val made (token_val ∷ []))) (broken_made 𝓛 γ.broken_name) $
    move ! (1 ∷ []) $ fpick ! (λ got. fsplit ! $ move ! (1 ∷ []) $ fpick ! (λ has. drop ! $ let up' : Or.Denot = record { marker = record {}; tie = tie; about = up.about; step = up.step; made = Some got } in
    use0 𝓛 (‵ ((OfferWords ℓ' Xr Kr bk).own_val (record {}, tt) (token_val ∷ []))) (offer_made ℓ' Xr Kr bk 𝓛) $ fjoin ! $
    let val : Val = vstruct (vcons token_val (vcons token_val vnil)) in let Told : Type 0 = (γ.broken_name ≡ γ.broken_name) × (tie ≡ tie) × (up.about ≡ up.about) × (up.step ≡ up.step) × (up'.made ≡ Some (writer_stage h.first, Broken)) in
    sets ! (agg ! (no_more !)) refl (tt, tt) $ sets ! (agg ! (and_then ! (get ! refl) (no_more !))) refl (tt, (tt, tt)) $ sets ! (of_opd ! (get ! refl)) refl (tt, (tt, tt)) $ sets ! (of_opd ! (get ! refl)) refl (tt, (tt, tt)) $ sets ! (agg ! (and_then ! (get ! refl) (and_then ! (get ! refl) (no_more !)))) refl (tt, ((tt, tt), ((tt, tt), tt))) $
    nothing ! $ move ! (1 ∷ 0 ∷ []) $ fjoin ! $ move ! (1 ∷ 0 ∷ []) $ fjoin ! $ feq_i ! (List Val) (val ∷ []) (val ∷ []) refl $ fjoin ! $
    fpack ! (Valss (S ∷ Or ∷ [])) (λ uss. fsep (feq (List Val) (val ∷ []) (vstruct (of_list (uss.0 ++ (uss.1.0 ++ []))) ∷ [])) (owns (S ∷ Or ∷ []) (made, (up', tt)) uss)) (token_val ∷ [], (token_val ∷ [], tt)) $
    use0 𝓛 (raw (fact 𝓤 Told)) (fact_i 𝓤 Told (emp 𝓤) (refl, refl, refl, refl, made_broken h.first (field k i) got its has)) $ nothing ! $ nothing ! $ fjoin ! $ nothing ! $ fjoin ! $ nothing ! $ fjoin ! $
    returns ! (look_at ! 0 refl) $ free_all ! refl $ keep ! (3 ∷ 0 ∷ 2 ∷ 1 ∷ []) $ by ! (leaves 𝓛 En hs c y val (made, up') (tt, (tt, (tt, tt))) (tt, (tt, (tt, tt)))))))))))))))))
