-- `fill_for` writes the room, shares the value and says so, and runs the caller's update.
use Rattle.std.proofs.Common.{◌≡◌, ◌≤◌, le_refl, ◌++◌, ℕ, ◌+◌, ◌*◌, ◌%◌, ◌^◌, List, [], ◌∷◌, sym, refl, ap, subst, lit<, w64, Option, Some}
use mir.Syntax.{a_type, dcons, dnil}
use mir.Val.{Val, vint, vptr, vstruct, vcons, vnil, of_list}
use mir.MapTy.{inst_fn}
use base.Fraction.{full_share}
use base.Logic.{SProp, ent, wand, emp, via, apply∗, guard_i}
use base.Fml.{Lft, Share, Fml, Incl-trans, ftrue, fsep, flft, froom, fat, feq}
use prog.Wp.{WpFn}
use types.Logic.{sem}
use types.Kit.{mean, ‵, raw, ◌⊛◌, some, given, later, at_ret, ◌$◌, ◌∵◌, !, qed, by, move, keep, drop, use0, use1, use2, use3, split, split3, join, fsplit, fsplit3, fjoin, fpick, fpack, pick, learn, await, rewrite, feq_i}
use types.Run.{stop, fld, lit, of_opd, no_more, and_then, first, blocks, exec, Calls-last, returns, enter, init, assigns_last}
use types.ByLocal.{alloc_all, pass_all, free_all, look_at, get, get_in, through, sets, lands_last, is, env}
use types.Part.{agg, sub, whole}
use contract.Running.{tables}
use contract.Monad.{fact, fact_i, fact_use}
use contract.BorrowLft.{◌⊑◌, meet_⊑_left, meet_⊑_right}
use contract.Shared.{Lends-one}
use denote.Exit.{no}
use denote.RattleType.{RattleType, owns, Valss}
use denote.Signature.{types_at, plain, named_lft}
use denote.RawPtr.{block_ptr, Ptr, InBlock, ptr_val, block_of, count_of, at_block}
use denote.Steps.{nothing, heard}
use denote.Param.{param, bounded, layout}
use denote.Param.Laws.{param_laws}
use denote.Triple.Walked.{Stays, stay_dropped, walk_of, Goes-dropped}
use Rattle.atomic_table.proofs.Walks.{proved_at, leaves}
use Rattle.atomic_table.proofs.Calls.{fm, seq_cst, found, adds, finds}
use denote.Builtin.{u64}
use Rattle.cell_core.specs.Fields.{field}
use Rattle.cell_core.proofs.WordSteps.{Turns, stepped_both_at, turns_add}
use denote.Exit.{yes}
use base.Logic.{sep}
use Rattle.core.proofs.atomic.Steps.{tail}
use Rattle.core.proofs.cell.Inside.{Good, one, gather}
use types.Tokens.{bor_open, obor_close}
use mir.Raw.{raw as bare}
use denote.Struct.Members.{Member}
use types.Tokens.{name_agree, name_set}
use Rattle.std.specs.Prelude.{None}
use Rattle.cell_core.specs.Slot.{Names, setting, fill_added, writer_state, writer_stage, Turn, content, written, place, inside, Room, over, pen_owned}
use Rattle.cell_core.specs.contracts.slot.steps.RawPen as RawPen
use Rattle.cell_core.specs.contracts.slot.steps.Written as Written
use Rattle.cell_core.proofs.CellMade.{Has, pen_gains, token_val, pointers_val, pointers_good, pen_told, pen_placed, written_made}
use Rattle.tie_core.specs.contracts.offer.Offer as Offer
use Rattle.tie_core.specs.Tie.{Tie, Step, fills, Stage, Filled, Made, floor_of, offer_owns, update}
use Rattle.tie_core.proofs.OfferMade.{OfferWords, offer_told, offer_made}
use Rattle.cell_core.proofs.CellSteps.{fill_small, found_at, made_filled}
use Rattle.cell_core.proofs.CellSteps as steps
use Rattle.cell_core.specs.contracts.slot.steps.RawPen.fill_for.{ended, clauses}
use Rattle.cell_core.specs.contracts.slot.steps.RawPen.fill_for.Key.{name as #self}
use Rattle.cell_core.proofs.slot.steps.RawPen.fill_for.Statement.{statement}
use Rattle.cell_core.proofs.slot.steps.RawPen.fill_for.Code as code

pub fill_for_spec : {M : Type 1} → statement M
fill_for_spec 𝓤 𝓛 𝓜 𝓡 wired T X K L _ _ bk dict _ =
    let H = 𝓛.H in let A = 𝓛.A in let 𝓣 = tables 𝓤 H 𝓜 𝓡 𝓡.env in let R : RattleType = param 0 T in let Xr : RattleType = param 1 X in let Kr : RattleType = param 2 K in let En = ended T X K bk dict in let c = clauses T X K bk dict 𝓛 𝓜.mem 𝓡.returns in let LP = param_laws 0 T L in let LR = LP.lawful 𝓛 in let m : Member = record { row = R; ty = layout T } in
    let inst = bounded (a_type ∷ a_type ∷ a_type ∷ []) (T, (X, (K, tt))) (dcons dict dnil) in let fn = inst_fn inst code.function in
    let self = plain (λ κs. RawPen.the_row (named_lft 5 0 tt κs) R) in let item = plain (λ _. R) in let brought = plain (λ κs. Offer.the_row (named_lft 5 1 tt κs) Xr Kr bk) in
    let hs : Stays En.signature.params En.kept = (stay_dropped self no, (stay_dropped item no, (stay_dropped (plain (λ _. u64)) yes, (stay_dropped brought no, tt)))) in
    proved_at 𝓛 En hs c 𝓜 𝓡 (Goes-dropped 𝓛 5 self no (λ κs x f. refl), (Goes-dropped 𝓛 5 item no (λ κs x f. refl), (Goes-dropped 𝓛 5 (plain (λ _. u64)) yes (λ κs x f. refl), (Goes-dropped 𝓛 5 brought no (λ κs x f. refl), tt)))) (#self inst) fn (code.unfolded 𝓤 H 𝓜 𝓡 wired (T, (X, (K, tt))) dict) (λ g are.
    let κs = g.0.0 in let qs = g.0.1 in let a = g.0.3 in let ℓ = named_lft 5 0 tt κs in let ℓ' = named_lft 5 1 tt κs in let Or : RattleType = Offer.the_row ℓ' Xr Kr bk in let up : Or.Denot = a.1.1.1.0 in let μ : Lft = κs.1.0 in let q' : Share = qs.1.0 in let θ : Lft = bk.age up.about in let J : Fml = bk.inner up.about in let gain : Stage → Stage → Fml = bk.gain up.about in let tie : Tie = up.tie in let others : Fml = fsep (flft κs.1.1.1.0 qs.1.1.1.0) (fsep (flft κs.1.1.1.1.0 qs.1.1.1.1.0) ftrue) in let Hr : RattleType = RawPen.the_row ℓ R in let h : Hr.Denot = a.0 in let p : Ptr = h.word in let z : Ptr = h.room in let b : ℕ = block_of p in let o : ℕ = count_of p in let d : ℕ = block_of z in let e : ℕ = count_of z in let β : Lft = κs.0 in let q : Share = qs.0 in
    let γ : Names = h.of in let j : ℕ = h.index in let x : T.Denot = a.1.0 in let n : ℕ = a.1.1.0 in let τ : Lft = κs.1.1.0 in let r : Share = qs.1.1.0 in let ν : ℕ = fill_added h.first in let Asked : Type 0 = (h.found ≡ h.sought) × (n ≡ ν * 16 ^ j) × (γ.tied ≡ Some tie) × (up.step ≡ fills) × (up.made ≡ None) in let Owned : Ptr × Ptr → Fml = λ u. pen_owned R γ β u.0 u.1 j h.first h.sought h.found in
    let got = one (layout T) g.0.4.1.0 (LR.typed x g.0.4.1.0 are.1.0) in let vy : Val = got.0 in let fy : Good (layout T) vy = got.2 in
    let At : List Val × (List Val × (List Val × (List Val × Unit {0}))) → (walk_of 𝓛 En hs c).Ghost = λ vss. ((κs, qs, g.0.2, a, vss), g.1) in
    let y : (walk_of 𝓛 En hs c).Ghost = At (pointers_val p z ∷ [], (vy ∷ [], (vint w64 n ∷ [], (token_val ∷ [], tt)))) in let Post : Val → SProp 𝓤 = (walk_of 𝓛 En hs c).post y in let S : RattleType = Written.the_row R in
    subst (λ (vss : List Val × (List Val × (List Val × (List Val × Unit {0})))). ent 𝓤 ((walk_of 𝓛 En hs c).pre (At vss)) (WpFn 𝓤 H 𝓣.C 𝓣.Λ fn ((walk_of 𝓛 En hs c).args (At vss)) ((walk_of 𝓛 En hs c).post (At vss))))
    (λ i. (sym (pen_told ℓ R p z g.0.4.0 are.0.0) i, (sym got.1 i, (sym are.1.1.0.0 i, (sym (offer_told ℓ' Xr Kr bk g.0.4.1.1.1.0 are.1.1.1.0.0) i, tt))))) (
    qed 𝓛 (((‵ (flft β q) ⊛ ‵ (flft μ q') ⊛ ‵ (flft τ r) ⊛ ‵ others) ⊛ ‵ (owns (types_at En.signature.params κs) a y.0.4)) ∷ raw (fact 𝓤 (τ ⊑ T.lives)) ∷ raw (fact 𝓤 _) ∷ raw (fact 𝓤 _) ∷ raw (fact 𝓤 Asked) ∷ []) ∵
    keep ! (1 ∷ 4 ∷ 0 ∷ []) $ heard ! (τ ⊑ T.lives) (λ le. heard ! Asked (λ asked. split ! $ split ! $ move ! (1 ∷ []) $ split3 ! $ move ! (4 ∷ 3 ∷ 0 ∷ 1 ∷ 2 ∷ []) $
    -- [the arguments; the token; the offer's; T's; the others]
    fsplit3 ! $ move ! (2 ∷ []) $ fsplit3 ! $ move ! (1 ∷ []) $ fsplit ! $ move ! (4 ∷ []) $ fsplit ! $ keep ! (1 ∷ 6 ∷ 7 ∷ 9 ∷ 10 ∷ 3 ∷ 8 ∷ []) $
    rewrite ! 5 (λ (u : Step × Option Made). ‵ (offer_owns θ J gain tie u.0 μ u.1)) (λ l. (asked.3 l, asked.4 l)) refl $
    use1 𝓛 (given (InBlock p × InBlock z) (‵ (Owned (p, z)))) (fact_use 𝓤 _ (pen_placed 𝓛 R γ β p z j h.first h.sought h.found) (guard_i 𝓤 (InBlock p × InBlock z) (sem 𝓛 (Owned (p, z))))) $ learn ! (λ inb. let is_at : p ≡ block_ptr b o = at_block p inb.0 in let is_room : z ≡ block_ptr d e = at_block z inb.1 in
    rewrite ! 0 (λ (u : Ptr × Ptr). ‵ (Owned u)) (λ l. (is_at l, is_room l)) refl $ use1 𝓛 (‵ (Has 𝓛 R h.first γ β b o d e j)) (pen_gains 𝓛 R γ β b o d e j h.first h.sought h.found asked.0) $
    enter ! 𝓣.C 𝓣.Λ fn (pointers_val p z ∷ vy ∷ vint w64 n ∷ token_val ∷ []) Post $ alloc_all ! (λ l. pass_all ! refl (pointers_good p z, (fy, ((tt, record { fits = are.1.1.0.1 }), ((tt, (tt, tt)), tt)))) $ let Ev = env fn.locals l in
    fpick ! (λ y'. fsplit3 ! $ fpick ! (λ at. drop ! $ let t : Turn = y'.1 in let α : Lft = t.0 in let δ = t.1 j in let V : Fml = Room R γ α δ d e in fsplit ! $ move ! (2 ∷ []) $ fsplit ! $ move ! (1 ∷ []) $ fsplit ! $
    -- [empty; the room's borrow; settable; before; the invariant; the value; the token; T's token; the rest]
    move ! (3 ∷ 6 ∷ []) $ use2 𝓛 (later (some (λ (s : Share). ‵ (flft α s) ⊛ raw (wand 𝓤 (A.lft α s) (H.⇛ (A.lft β q)))))) (Lends-one 𝓛 𝓜 𝓡 β α q) $ await ! tt $ pick ! (λ s. split ! $
    -- [the turn's token; the way back; empty; the borrow; settable; the invariant; the value; T's token; the
    -- rest]
    move ! (3 ∷ 0 ∷ []) $ bor_open ! tt $ move ! (1 ∷ []) $ fpick ! (λ v. fsplit ! $ move ! (4 ∷ 1 ∷ []) $ name_agree ! (content R) {x = None} {y = v} (λ none.
    -- [empty; what the room holds; the room; open; the way back; settable; the invariant; the value; T's token;
    -- the rest]
    rewrite ! 2 (λ (u : Option T.Denot). ‵ (place R u d e)) (sym none) refl $ name_set ! tt ((content R).code (Some x)) $ move ! (2 ∷ []) $ use1 𝓛 (‵ (froom (layout T) d e)) (𝓛.laws.raw-room (layout T) d e) $
    sets ! (is ! (of_opd ! (get_in ! (fld ! refl (stop !)) (sub ! 0 refl (whole !)))) (ap ptr_val is_at)) refl (tt, tt) $
    sets ! (is ! (of_opd ! (get_in ! (fld ! refl (stop !)) (sub ! 1 refl (whole !)))) (ap ptr_val is_room)) refl (tt, tt) $ first ! $ blocks ! $
    sets ! (of_opd ! (get ! refl)) refl (tt, tt) $ sets ! (of_opd ! (get ! refl)) refl fy $ assigns_last ! (of_opd ! (get ! refl)) (through ! refl (stop !)) (init ! 0 refl fy) $ exec ! 𝓣.C 𝓣.Λ Ev (tail (tail (tail fn.body))) (at_ret Ev Post) $
    use1 𝓛 (‵ (fat full_share (bare (layout T)) d e vy)) (𝓛.laws.at_raw full_share (layout T) d e vy) $ move ! (0 ∷ 7 ∷ []) $ gather m ! x vy d e $
    -- [the value in place; the name, twice; open; the way back; settable; the invariant; T's token; the rest]
    move ! (0 ∷ 2 ∷ []) $ fjoin ! $ fpack ! (Option T.Denot) (inside R γ α δ d e) (Some x) $ move ! (2 ∷ 0 ∷ []) $ obor_close ! tt $
    -- [the borrow; the turn's token; the name; the way back; settable; the invariant; T's token; the rest]
    move ! (1 ∷ 6 ∷ []) $ join ! $ move ! (2 ∷ 1 ∷ 0 ∷ []) $ let F : Fml = steps.frozen 𝓛 R γ α δ d e x in
    use3 𝓛 (later (‵ F ⊛ ‵ (flft α s) ⊛ ‵ (flft τ r))) (steps.freezes 𝓛 R γ α δ d e R.lives (LP.shares 𝓛) ((α, s) ∷ (τ, r) ∷ []) (Incl-trans (meet_⊑_right α τ) le) (meet_⊑_left α τ) x) $ await ! tt $ split3 ! $
    -- [frozen; the turn's token; T's token; the way back; settable; the invariant; the rest]
    move ! (4 ∷ []) $ fsplit ! $ move ! (0 ∷ 2 ∷ []) $ join ! $ move ! (1 ∷ 0 ∷ []) $ join ! $
    -- [what is written; the turn's token; T's token; the way back; the invariant; the rest; the offer; its token]
    move ! (6 ∷ []) $ fsplit3 ! $ move ! (0 ∷ 9 ∷ []) $ use2 𝓛 (later (some (λ (v : Share). ‵ (flft θ v) ⊛ raw (wand 𝓤 (A.lft θ v) (H.⇛ (A.lft μ q')))))) (Lends-one 𝓛 𝓜 𝓡 μ θ q') $ await ! tt $ pick ! (λ v'. split ! $
    -- [the table's token; its way back; its invariant; the update; what is written; the turn's token; T's; the way back; the invariant; the rest]
    let Update : Fml = update θ J gain tie fills in let Wrote : ℕ → Fml = found_at (written R γ.value_name x) (writer_state h.first) in let Shown : ℕ → Fml = λ k. fsep (Wrote k) (steps.ran 𝓛 R γ α δ d e θ J gain tie fills k) in let after : ℕ → Fml = λ k. fsep (flft α s) (fsep (flft θ v') (Shown (field k j))) in
    let W : SProp 𝓤 = sep 𝓤 (sem 𝓛 (setting R γ h.first)) (sep 𝓤 (sem 𝓛 (over R γ)) (sem 𝓛 F)) in
    first ! $ blocks ! $ move ! (3 ∷ 4 ∷ []) $ join ! $ move ! (1 ∷ 0 ∷ []) $ join ! $ move ! (3 ∷ 0 ∷ []) $ join ! $ move ! (5 ∷ 2 ∷ 0 ∷ []) $
    use3 𝓛 (raw (𝓣.C _ (vptr b o ∷ vint w64 n ∷ seq_cst ∷ []) (λ u. mean 𝓛 (found after u))))
    (via 𝓤 _ (stepped_both_at 𝓛 R γ b o d e j y' at s (λ k. (k + n) % 2 ^ 64) (λ k. k + ν) (λ within short. subst (λ (l : ℕ). Turns R y'.0 j (λ k. (k + l) % 2 ^ 64) (λ k. k + ν)) (sym asked.1) (turns_add R y'.0 j within short ν (fill_small h.first))) tie.floor θ v' J (subst (λ (τ : Option Tie). tie.floor ≤ floor_of τ) (sym asked.2) (le_refl tie.floor)) Shown (sep 𝓤 (sem 𝓛 Update) W)
    (steps.asks_by 𝓛 R γ α δ d e θ J gain tie fills (λ k. k + ν) Wrote W asked.2 (steps.publishes_at_its 𝓛 R γ α δ d e h.first x)))
    (adds 𝓛 𝓜 𝓡 (code.calls-core::raw_atomic::fetch_add 𝓡.env wired) (block_ptr b o) n are.1.1.0.1 after)) $
    sets ! (agg ! (and_then ! (lit ! tt) (no_more !))) refl (tt, (record { fits = lit< tt }, tt)) $
    Calls-last ! (fm 𝓛 𝓜 𝓡) (found after) (and_then ! (get ! refl) (and_then ! (get ! refl) (and_then ! (get ! refl) (no_more !)))) (λ u. finds ! after (λ k fits.
    lands_last ! refl (tt, record { fits = fits }) $ exec ! 𝓣.C 𝓣.Λ Ev (tail (tail (tail (tail fn.body)))) (at_ret Ev Post) $
    -- [the step's; the table's way back; T's token; the way back; the rest]
    fsplit ! $ move ! (0 ∷ 4 ∷ []) $ use2 𝓛 (later (‵ (flft β q))) (apply∗ 𝓤 (A.lft α s) (H.⇛ (A.lft β q))) $ await ! tt $ move ! (1 ∷ []) $ fsplit ! $
    -- [the table's token; what is shown; the token; its way back; T's token; the rest]
    move ! (0 ∷ 3 ∷ []) $ use2 𝓛 (later (‵ (flft μ q'))) (apply∗ 𝓤 (A.lft θ v') (H.⇛ (A.lft μ q'))) $ await ! tt $
    -- [the offer's token; what is shown; the token; T's token; the rest]
    move ! (3 ∷ 4 ∷ []) $ join ! $ move ! (1 ∷ 0 ∷ []) $ join ! $ move ! (2 ∷ 0 ∷ []) $ join ! $ move ! (1 ∷ []) $ fsplit ! $ fsplit ! $ move ! (1 ∷ []) $ fpick ! (λ its. drop ! $
    -- [written; what is told; the tokens]
    let made : S.Denot = record { marker = record {}; of = γ.value_name; value = x; found = h.found } in use1 𝓛 (‵ (S.own_val made (token_val ∷ []))) (written_made 𝓛 R γ.value_name x h.found) $
    move ! (1 ∷ []) $ fpick ! (λ got. fsplit ! $ move ! (1 ∷ []) $ fpick ! (λ has. drop ! $ let up' : Or.Denot = record { marker = record {}; tie = tie; about = up.about; step = up.step; made = Some got } in
    use0 𝓛 (‵ ((OfferWords ℓ' Xr Kr bk).own_val (record {}, tt) (token_val ∷ []))) (offer_made ℓ' Xr Kr bk 𝓛) $ fjoin ! $
    let val : Val = vstruct (vcons token_val (vcons token_val vnil)) in let Told : Type 0 = (γ.value_name ≡ γ.value_name) × (x ≡ x) × (h.found ≡ h.found) × (tie ≡ tie) × (up.about ≡ up.about) × (up.step ≡ up.step) × (up'.made ≡ Some (writer_stage h.first, Filled)) in
    sets ! (agg ! (no_more !)) refl (tt, tt) $ sets ! (agg ! (and_then ! (get ! refl) (no_more !))) refl (tt, (tt, tt)) $ sets ! (of_opd ! (get ! refl)) refl (tt, (tt, tt)) $ sets ! (of_opd ! (get ! refl)) refl (tt, (tt, tt)) $ sets ! (agg ! (and_then ! (get ! refl) (and_then ! (get ! refl) (no_more !)))) refl (tt, ((tt, tt), ((tt, tt), tt))) $
    nothing ! $ move ! (1 ∷ 0 ∷ []) $ fjoin ! $ move ! (1 ∷ 0 ∷ []) $ fjoin ! $ feq_i ! (List Val) (val ∷ []) (val ∷ []) refl $ fjoin ! $
    fpack ! (Valss (S ∷ Or ∷ [])) (λ uss. fsep (feq (List Val) (val ∷ []) (vstruct (of_list (uss.0 ++ (uss.1.0 ++ []))) ∷ [])) (owns (S ∷ Or ∷ []) (made, (up', tt)) uss)) (token_val ∷ [], (token_val ∷ [], tt)) $
    use0 𝓛 (raw (fact 𝓤 Told)) (fact_i 𝓤 Told (emp 𝓤) (refl, refl, refl, refl, refl, refl, made_filled h.first (field k j) got its has)) $ nothing ! $ nothing ! $ fjoin ! $ nothing ! $ fjoin ! $ nothing ! $ fjoin ! $ nothing ! $ fjoin ! $
    returns ! (look_at ! 0 refl) $ free_all ! refl $ keep ! (3 ∷ 0 ∷ 2 ∷ 1 ∷ []) $ by ! (leaves 𝓛 En hs c y val (made, up') (tt, (tt, (tt, (tt, tt)))) (tt, (tt, (tt, (tt, tt))))))))))))))))))))))
