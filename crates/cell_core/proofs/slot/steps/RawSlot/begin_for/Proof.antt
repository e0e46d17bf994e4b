-- `begin_for` begins a cell, by the caller's update, in a step on a word of its own.
use Rattle.std.specs.Prelude.{Option, Some, None}
use Rattle.std.proofs.Common.{true, ◌≡◌, ◌≤◌, le_refl, ℕ, List, [], ◌∷◌, ◌++◌, refl, sym, ap, subst, lit<}
use mir.Syntax.{a_type, dcons, dnil}
use mir.Val.{Val, vptr, vstruct, vcons, vnil, of_list}
use mir.MapTy.{inst_fn}
use base.Logic.{SProp, sep, wand, emp, via, apply∗, guard_i}
use base.Fml.{Lft, Share, Fml, ftrue, fex, fsep, flft, feq}
use types.Logic.{sem}
use types.Kit.{mean, ‵, raw, ◌⊛◌, some, given, later, at_ret, ◌$◌, ◌∵◌, !, qed, by, move, keep, drop, use0, use1, use2, use3, split, split3, join, fsplit, fsplit3, fjoin, fpick, fpack, pick, learn, await, rewrite, feq_i}
use types.Run.{stop, from, addr, fld, lit, of_opd, no_more, and_then, first, blocks, exec, Calls-last, returns, enter}
use types.ByLocal.{alloc_all, pass_all, free_all, look_at, take_at, give_at, get, get_in, sets, lands_last, is, env}
use types.Part.{agg, sub, whole}
use contract.Running.{tables}
use contract.Monad.{fact, fact_i, fact_use}
use contract.Shared.{Lends-one}
use denote.Exit.{no}
use denote.RattleType.{RattleType, owns, Valss}
use denote.Signature.{types_at, plain, named_lft}
use denote.RawPtr.{Ptr, InBlock, block_ptr, ptr_val, block_of, count_of, at_block}
use denote.Steps.{nothing, heard}
use denote.Param.{param, bounded}
use denote.Triple.Walked.{Stays, stay_dropped, walk_of, Goes-dropped}
use Rattle.atomic_table.proofs.Walks.{proved, leaves}
use Rattle.atomic_table.proofs.Calls.{fm, seq_cst, found, loads, finds}
use Rattle.core.proofs.atomic.Steps.{tail}
use Rattle.tie_core.specs.Tie.{Tie, Step, begins, Shows, Stage, Made, HasMade, floor_of, offer_owns, update}
use Rattle.cell_core.specs.Slot.{Names, Turn, Spot, IsAt, kept, word, won, FirstRight, slot_owned}
use Rattle.cell_core.specs.Slot.{fact as is_fact}
use Rattle.cell_core.specs.contracts.slot.steps.RawSlot as RawSlot
use Rattle.cell_core.specs.contracts.slot.steps.RawPen as RawPen
use Rattle.tie_core.specs.contracts.offer.Offer as Offer
use Rattle.cell_core.proofs.CellMade.{PenWords, pen_made, pointers_val, pointers_good, token_val, slot_told, slot_placed}
use Rattle.tie_core.proofs.OfferMade.{OfferWords, offer_told, offer_made}
use Rattle.cell_core.proofs.CellSteps as steps
use Rattle.cell_core.proofs.WordSteps.{stepped_beside_at, kept_dup}
use Rattle.cell_core.specs.contracts.slot.steps.RawSlot.begin_for.{ended, clauses}
use Rattle.cell_core.specs.contracts.slot.steps.RawSlot.begin_for.Key.{name as #self}
use Rattle.cell_core.proofs.slot.steps.RawSlot.begin_for.Statement.{statement}
use Rattle.cell_core.proofs.slot.steps.RawSlot.begin_for.Code as code

pub begin_for_spec : {M : Type 1} → statement M
begin_for_spec 𝓤 𝓛 𝓜 𝓡 wired T X K _ _ _ g dict _ =
    let H = 𝓛.H in let A = 𝓛.A in let 𝓣 = tables 𝓤 H 𝓜 𝓡 𝓡.env in let R : RattleType = param 0 T in let Xr : RattleType = param 1 X in let Kr : RattleType = param 2 K in let En = ended T X K g dict in let c = clauses T X K g dict 𝓛 𝓜.mem 𝓡.returns in
    let inst = bounded (a_type ∷ a_type ∷ a_type ∷ []) (T, (X, (K, tt))) (dcons dict dnil) in let fn = inst_fn inst code.function in
    let self = plain (λ κs. RawSlot.the_row (named_lft 5 0 tt κs) R) in let item = plain (λ κs. Offer.the_row (named_lft 5 1 tt κs) Xr Kr g) in
    let hs : Stays En.signature.params En.kept = (stay_dropped self no, (stay_dropped item no, tt)) in
    proved 𝓛 En hs c 𝓜 𝓡 (Goes-dropped 𝓛 5 self no (λ κs x f. refl), (Goes-dropped 𝓛 5 item no (λ κs x f. refl), tt)) (#self inst) fn (code.unfolded 𝓤 H 𝓜 𝓡 wired (T, (X, (K, tt))) dict)
    (λ κs. ((λ h. pointers_val h.word h.room ∷ []), ((λ h. token_val ∷ []), tt))) (λ κs. ((λ h vs so. slot_told (named_lft 5 0 tt κs) R h.word h.room vs so.0), ((λ h vs so. offer_told (named_lft 5 1 tt κs) Xr Kr g vs so.0), tt))) (λ κs qs bounds a gh are.
    let ℓ = named_lft 5 0 tt κs in let ℓ' = named_lft 5 1 tt κs in let Sr : RattleType = RawSlot.the_row ℓ R in let Or : RattleType = Offer.the_row ℓ' Xr Kr g in let Hr : RattleType = RawPen.the_row ℓ R in
    let h : Sr.Denot = a.0 in let f : Or.Denot = a.1.0 in let p : Ptr = h.word in let z : Ptr = h.room in let b : ℕ = block_of p in let o : ℕ = count_of p in let d : ℕ = block_of z in let r : ℕ = count_of z in
    let β : Lft = κs.0 in let q : Share = qs.0 in let μ : Lft = κs.1.0 in let q' : Share = qs.1.0 in let γ : Names = h.of in let i : ℕ = h.index in let others : Fml = fsep (flft κs.1.1.0 qs.1.1.0) (fsep (flft κs.1.1.1.0 qs.1.1.1.0) (fsep (flft κs.1.1.1.1.0 qs.1.1.1.1.0) ftrue)) in
    let θ : Lft = g.age f.about in let J : Fml = g.inner f.about in let gain : Stage → Stage → Fml = g.gain f.about in let tie : Tie = f.tie in
    let Asked : Type 0 = (γ.tied ≡ Some tie) × (f.step ≡ begins) × (f.made ≡ None) in
    let y : (walk_of 𝓛 En hs c).Ghost = ((κs, qs, bounds, a, (pointers_val p z ∷ [], (token_val ∷ [], tt))), gh) in let Post : Val → SProp 𝓤 = (walk_of 𝓛 En hs c).post y in
    qed 𝓛 (((‵ (flft β q) ⊛ ‵ (flft μ q') ⊛ ‵ others) ⊛ ‵ (owns (types_at En.signature.params κs) a y.0.4)) ∷ raw (fact 𝓤 _) ∷ raw (fact 𝓤 _) ∷ raw (fact 𝓤 _) ∷ raw (fact 𝓤 Asked) ∷ []) ∵
    keep ! (4 ∷ 0 ∷ []) $ heard ! Asked (λ asked. split ! $ split3 ! $ move ! (3 ∷ []) $ fsplit ! $ fsplit ! $ move ! (2 ∷ []) $ fsplit ! $ fsplit ! $ keep ! (4 ∷ 1 ∷ 5 ∷ 6 ∷ 7 ∷ []) $
    -- [the cell; the offer; its token; the offer's; the others]
    rewrite ! 1 (λ (u : Step × Option Made). ‵ (offer_owns θ J gain tie u.0 μ u.1)) (λ l. (asked.1 l, asked.2 l)) refl $
    use1 𝓛 (given (InBlock p × InBlock z) (‵ (slot_owned R γ β p z i))) (fact_use 𝓤 _ (slot_placed 𝓛 R γ β p z i) (guard_i 𝓤 (InBlock p × InBlock z) (sem 𝓛 (slot_owned R γ β p z i)))) $ learn ! (λ inb. let is_at : p ≡ block_ptr b o = at_block p inb.0 in let is_room : z ≡ block_ptr d r = at_block z inb.1 in
    rewrite ! 0 (λ (u : Ptr × Ptr). ‵ (slot_owned R γ β u.0 u.1 i)) (λ l. (is_at l, is_room l)) refl $
    enter ! 𝓣.C 𝓣.Λ fn (pointers_val p z ∷ token_val ∷ []) Post $ alloc_all ! (λ l. pass_all ! refl (pointers_good p z, ((tt, (tt, tt)), tt)) $ let Ev = env fn.locals l in
    fpick ! (λ s. fsplit ! $ fpick ! (λ at. drop ! $ let γs : List Names = s.0 in let t : Turn = s.1 in let α : Lft = t.0 in let Kept : Fml = kept R γs t b o d s.2 β in
    use1 𝓛 (‵ Kept ⊛ ‵ Kept) (kept_dup 𝓛 R γs t b o d s.2 β) $ split ! $ move ! (1 ∷ []) $ fsplit ! $
    -- [before; the invariant; the lending; the offer; the token; the offer's; the others]
    move ! (0 ∷ 4 ∷ []) $ use2 𝓛 (later (some (λ (w : Share). ‵ (flft α w) ⊛ raw (wand 𝓤 (A.lft α w) (H.⇛ (A.lft β q)))))) (Lends-one 𝓛 𝓜 𝓡 β α q) $ await ! tt $ pick ! (λ w. split ! $
    -- [the turn's token; the way back; the invariant; the offer; the offer's token; the others]
    move ! (4 ∷ []) $ fsplit3 ! $ move ! (0 ∷ 7 ∷ []) $ use2 𝓛 (later (some (λ (v : Share). ‵ (flft θ v) ⊛ raw (wand 𝓤 (A.lft θ v) (H.⇛ (A.lft μ q')))))) (Lends-one 𝓛 𝓜 𝓡 μ θ q') $ await ! tt $ pick ! (λ v. split ! $
    -- [the table's token; its way back; its invariant; the update; the turn's token; the way back; the invariant; the others]
    let Update : Fml = update θ J gain tie begins in let Shown : ℕ → Fml = λ k. fsep (FirstRight R γ α (t.1 i) d r) (steps.ran 𝓛 R γ α (t.1 i) d r θ J gain tie begins k) in let own : ℕ = l 6 in let after : ℕ → Fml = λ k. fsep (flft α w) (fsep (flft θ v) (fsep (word own 0 k) (fex ℕ Shown))) in
    sets ! (is ! (of_opd ! (get_in ! (fld ! refl (stop !)) (sub ! 0 refl (whole !)))) (ap ptr_val is_at)) refl (tt, tt) $
    sets ! (is ! (of_opd ! (get_in ! (fld ! refl (stop !)) (sub ! 1 refl (whole !)))) (ap ptr_val is_room)) refl (tt, tt) $
    sets ! (of_opd ! (get_in ! (fld ! refl (stop !)) (sub ! 2 refl (whole !)))) refl (tt, tt) $
    sets ! (of_opd ! (lit ! tt)) refl (tt, record { fits = lit< tt }) $
    first ! $ blocks ! $ sets ! (addr ! (from ! (stop !))) refl (tt, tt) $ nothing ! $ move ! (4 ∷ 0 ∷ []) $ join ! $ take_at ! 6 $
    -- [the own word; the update; the table's token; its way back; its invariant; the turn's token; the way back; the invariant; the others]
    move ! (0 ∷ 1 ∷ []) $ join ! $ move ! (1 ∷ 0 ∷ []) $ join ! $ move ! (3 ∷ 0 ∷ []) $ join ! $ move ! (4 ∷ 2 ∷ 0 ∷ []) $
    use3 𝓛 (raw (𝓣.C _ (vptr own 0 ∷ seq_cst ∷ []) (λ u. mean 𝓛 (found after u))))
    (via 𝓤 _ (stepped_beside_at 𝓛 R γ b o d r i s at w tie.floor θ v J (subst (λ (τ : Option Tie). tie.floor ≤ floor_of τ) (sym asked.0) (le_refl tie.floor)) Shown (sep 𝓤 (sem 𝓛 Update) (emp 𝓤))
    (steps.begins_by 𝓛 R γ α (t.1 i) d r θ J gain tie asked.0) own 0 0)
    (loads 𝓛 𝓜 𝓡 (code.calls-core::raw_atomic::load 𝓡.env wired) (block_ptr own 0) after)) $
    sets ! (agg ! (and_then ! (lit ! tt) (no_more !))) refl (tt, (record { fits = lit< tt }, tt)) $
    Calls-last ! (fm 𝓛 𝓜 𝓡) (found after) (and_then ! (get ! refl) (and_then ! (get ! refl) (no_more !))) (λ u. finds ! after (λ n fits.
    lands_last ! refl (tt, record { fits = fits }) $ exec ! 𝓣.C 𝓣.Λ Ev (tail (tail (tail (tail (tail fn.body))))) (at_ret Ev Post) $
    sets ! (of_opd ! (get ! refl)) refl (tt, record { fits = fits }) $
    sets ! (agg ! (and_then ! (get ! refl) (and_then ! (get ! refl) (and_then ! (get ! refl) (no_more !))))) refl (pointers_good (block_ptr b o) (block_ptr d r)) $
    sets ! (of_opd ! (get ! refl)) refl (tt, (tt, tt)) $
    sets ! (agg ! (and_then ! (get ! refl) (and_then ! (get ! refl) (no_more !)))) refl (tt, ((tt, (tt, (tt, tt))), ((tt, tt), tt))) $
    -- [the step's; the table's way back; the way back; the lending; the others]
    fsplit ! $ move ! (0 ∷ 3 ∷ []) $ use2 𝓛 (later (‵ (flft β q))) (apply∗ 𝓤 (A.lft α w) (H.⇛ (A.lft β q))) $ await ! tt $ move ! (1 ∷ []) $ fsplit ! $ move ! (1 ∷ []) $ fsplit ! $ give_at ! 6 $ move ! (1 ∷ []) $
    -- [the table's token; what is shown; the token; its way back; the lending; the others]
    move ! (0 ∷ 3 ∷ []) $ use2 𝓛 (later (‵ (flft μ q'))) (apply∗ 𝓤 (A.lft θ v) (H.⇛ (A.lft μ q'))) $ await ! tt $
    -- [the offer's token; what is shown; the token; the lending; the others]
    move ! (0 ∷ 4 ∷ []) $ join ! $ move ! (2 ∷ 0 ∷ []) $ join ! $ move ! (1 ∷ []) $ fpick ! (λ k. fsplit ! $
    -- [the right; what is told; the tokens; the lending]
    let p' : Ptr = block_ptr b o in let z' : Ptr = block_ptr d r in let pen : Hr.Denot = record { word = p'; room = z'; marker = record {}; of = γ; index = i; first = true; sought = 0; found = 0 } in
    move ! (3 ∷ 0 ∷ []) $ fjoin ! $ nothing ! $ fpack ! (IsAt R γ i r s) (λ _. ftrue) at $ fjoin ! $ fpack ! Spot (λ m. fsep (is_fact (IsAt R γ i r m)) (fsep (kept R m.0 m.1 b o d m.2 β) (won R γ m.1.0 (m.1.1 i) d r true 0 0))) s $
    use0 𝓛 (‵ ((PenWords ℓ R).own_val (p', (z', (tt, tt))) (pointers_val p' z' ∷ []))) (pen_made ℓ R 𝓛 p' z') $ fjoin ! $
    move ! (1 ∷ []) $ fpick ! (λ m. fsplit ! $ move ! (1 ∷ []) $ fpick ! (λ has. drop ! $ let f' : Or.Denot = record { marker = record {}; tie = tie; about = f.about; step = f.step; made = Some m } in
    let none : k ≡ 0 = subst (λ (u : Stage). Shows u k) has.1 has.0.0 in
    use0 𝓛 (‵ ((OfferWords ℓ' Xr Kr g).own_val (record {}, tt) (token_val ∷ []))) (offer_made ℓ' Xr Kr g 𝓛) $ fjoin ! $
    -- [the offer; the pen; the tokens]
    let val : Val = vstruct (vcons (pointers_val p' z') (vcons token_val vnil)) in let Told : Type 0 = (γ ≡ γ) × (i ≡ i) × (true ≡ true) × (0 ≡ 0) × (0 ≡ 0) × (tie ≡ tie) × (f.about ≡ f.about) × (f.step ≡ f.step) × HasMade begins 0 (Some m) in
    nothing ! $ move ! (1 ∷ 0 ∷ []) $ fjoin ! $ move ! (1 ∷ 0 ∷ []) $ fjoin ! $ feq_i ! (List Val) (val ∷ []) (val ∷ []) refl $ fjoin ! $
    fpack ! (Valss (Hr ∷ Or ∷ [])) (λ uss. fsep (feq (List Val) (val ∷ []) (vstruct (of_list (uss.0 ++ (uss.1.0 ++ []))) ∷ [])) (owns (Hr ∷ Or ∷ []) (pen, (f', tt)) uss)) (pointers_val p' z' ∷ [], (token_val ∷ [], tt)) $
    use0 𝓛 (raw (fact 𝓤 Told)) (fact_i 𝓤 Told (emp 𝓤) (refl, refl, refl, refl, refl, refl, refl, refl, subst (λ (u : ℕ). HasMade begins u (Some m)) none has)) $ nothing ! $ nothing ! $ fjoin ! $ nothing ! $ fjoin ! $
    returns ! (look_at ! 0 refl) $ free_all ! refl $ keep ! (3 ∷ 0 ∷ 2 ∷ 1 ∷ []) $ by ! (leaves 𝓛 En hs c y val (pen, f') (tt, (tt, tt)) (tt, (tt, tt))))))))))))))))
