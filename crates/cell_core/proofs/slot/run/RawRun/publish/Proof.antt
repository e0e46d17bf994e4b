-- `publish` shows the values of all cells by one step.
use Rattle.std.proofs.Common.{Bool, false, ◌≡◌, ℕ, length, List, [], ◌∷◌, refl, ap, lit<, w64}
use mir.Syntax.{a_type}
use mir.Val.{Val, vint, vptr}
use mir.MapTy.{inst_fn}
use base.Logic.{SProp, wand, emp, via, apply∗, guard_i}
use base.Fml.{Lft, Share, Fml, ftrue, fsep, flft}
use types.Logic.{sem}
use types.Kit.{mean, ‵, raw, ◌⊛◌, some, given, later, at_ret, ◌$◌, ◌∵◌, !, qed, by, move, keep, drop, use0, use1, use2, use3, split, join, fsplit, fsplit3, fjoin, fpick, pick, learn, await, rewrite}
use types.Run.{stop, fld, lit, of_opd, no_more, and_then, first, blocks, exec, Calls-last, returns, enter}
use types.ByLocal.{alloc_all, pass_all, free_all, look_at, get, get_in, sets, lands_last, is, env}
use types.Part.{agg, sub, whole}
use contract.Running.{tables}
use contract.Monad.{fact, fact_i, fact_use}
use contract.Shared.{Lends-one}
use denote.Exit.{yes, no}
use denote.RattleType.{RattleType, owns}
use denote.Signature.{types_at, plain, named_lft}
use denote.RawPtr.{Ptr, InBlock, block_ptr, ptr_val, block_of, count_of, at_block}
use denote.Steps.{nothing, heard}
use denote.Param.{param, layouts}
use denote.Builtin.{u64}
use denote.Plain.{uint_vals, uint_Tells}
use denote.Triple.Walked.{Stays, stay_dropped, walk_of, Goes-dropped}
use Rattle.atomic_table.proofs.Walks.{proved, leaves}
use Rattle.atomic_table.proofs.Calls.{fm, seq_cst, found, adds, finds}
use Rattle.core.proofs.atomic.Steps.{tail}
use Rattle.cell_core.specs.Fields.{sums}
use Rattle.cell_core.specs.Slot.{Names, ArePlain, Turn}
use Rattle.cell_core.specs.Member.{MemberView}
use Rattle.cell_core.specs.Run.{all_written, members_of, run_owned}
use Rattle.cell_core.specs.contracts.slot.member.RawRow as RawRow
use Rattle.cell_core.specs.contracts.slot.run.RawRun as RawRun
use Rattle.cell_core.proofs.CellMade.{pointers_val, pointers_good, token_val}
use Rattle.cell_core.proofs.MemberParts.{row_made}
use Rattle.cell_core.proofs.RunMade.{run_told, run_placed, run_holds, Holds}
use Rattle.cell_core.proofs.RunSteps.{publishes_all}
use Rattle.cell_core.specs.contracts.slot.run.RawRun.publish.{ended, clauses}
use Rattle.cell_core.specs.contracts.slot.run.RawRun.publish.Key.{name as #self}
use Rattle.cell_core.proofs.slot.run.RawRun.publish.Statement.{statement}
use Rattle.cell_core.proofs.slot.run.RawRun.publish.Code as code

pub publish_spec : {M : Type 1} → statement M
publish_spec 𝓤 𝓛 𝓜 𝓡 wired T L =
    let H = 𝓛.H in let A = 𝓛.A in let 𝓣 = tables 𝓤 H 𝓜 𝓡 𝓡.env in let R : RattleType = param 0 T in let En = ended T in let c = clauses T 𝓛 𝓜.mem 𝓡.returns in
    let inst = layouts (a_type ∷ []) (T, tt) in let fn = inst_fn inst code.function in
    let self = plain (λ κs. RawRun.the_row (named_lft 2 0 tt κs) R) in let hs : Stays En.signature.params En.kept = (stay_dropped self no, (stay_dropped (plain (λ _. u64)) yes, tt)) in
    proved 𝓛 En hs c 𝓜 𝓡 (Goes-dropped 𝓛 2 self no (λ κs x f. refl), (Goes-dropped 𝓛 2 (plain (λ _. u64)) yes (λ κs x f. refl), tt)) (#self inst) fn (code.unfolded 𝓤 H 𝓜 𝓡 wired (T, tt))
    (λ κs. ((λ h. pointers_val h.word h.room ∷ []), (uint_vals w64, tt))) (λ κs. ((λ h vs so. run_told (named_lft 2 0 tt κs) R h.word h.room vs so.0), (uint_Tells w64, tt))) (λ κs qs bounds a gh are.
    let ℓ = named_lft 2 0 tt κs in let Hr : RattleType = RawRun.the_row ℓ R in let S : RattleType = RawRow.the_row R in let h : Hr.Denot = a.0 in let p : Ptr = h.word in let z : Ptr = h.room in let b : ℕ = block_of p in let o : ℕ = count_of p in let d : ℕ = block_of z in let r : ℕ = count_of z in
    let β : Lft = κs.0 in let q : Share = qs.0 in let gs : List Names = h.of in let xs : List T.Denot = h.values in let i : ℕ = h.index in let n : ℕ = a.1.0 in let others : Fml = fsep (flft κs.1.0 qs.1.0) ftrue in let Asked : Type 0 = (h.found ≡ h.sought) × (length xs ≡ length gs) × (n ≡ sums 2 (length gs) i) × ArePlain gs × (h.first ≡ false) in
    let y : (walk_of 𝓛 En hs c).Ghost = ((κs, qs, bounds, a, (pointers_val p z ∷ [], (vint w64 n ∷ [], tt))), gh) in let Post : Val → SProp 𝓤 = (walk_of 𝓛 En hs c).post y in let Owned : Ptr × Ptr → Fml = λ u. run_owned R gs β u.0 u.1 i h.first h.sought h.found xs in
    qed 𝓛 (((‵ (flft β q) ⊛ ‵ others) ⊛ ‵ (owns (types_at En.signature.params κs) a y.0.4)) ∷ raw (fact 𝓤 _) ∷ raw (fact 𝓤 Asked) ∷ []) ∵
    keep ! (2 ∷ 0 ∷ []) $ heard ! Asked (λ asked. split ! $ split ! $ move ! (2 ∷ []) $ fsplit ! $ fsplit ! $ keep ! (1 ∷ 3 ∷ 4 ∷ []) $
    use1 𝓛 (given (InBlock p × InBlock z) (‵ (Owned (p, z)))) (fact_use 𝓤 _ (run_placed 𝓛 R gs β p z i h.first h.sought h.found xs) (guard_i 𝓤 (InBlock p × InBlock z) (sem 𝓛 (Owned (p, z))))) $ learn ! (λ inb. let is_at : p ≡ block_ptr b o = at_block p inb.0 in let is_room : z ≡ block_ptr d r = at_block z inb.1 in
    rewrite ! 0 (λ (u : Ptr × Ptr). ‵ (Owned u)) (λ l. (is_at l, is_room l)) refl $ use1 𝓛 (‵ (Holds 𝓛 R gs β b o d r i h.first xs)) (run_holds 𝓛 R gs β b o d r i h.first h.sought h.found xs asked.0) $ rewrite ! 0 (λ (l : Bool). ‵ (Holds 𝓛 R gs β b o d r i l xs)) asked.4 refl $
    enter ! 𝓣.C 𝓣.Λ fn (pointers_val p z ∷ vint w64 n ∷ []) Post $ alloc_all ! (λ l. pass_all ! refl (pointers_good p z, ((tt, record { fits = are.1.0.1 }), tt)) $ let Ev = env fn.locals l in
    fpick ! (λ s. fsplit3 ! $ fpick ! (λ at. drop ! $ let γs : List Names = s.0 in let t : Turn = s.1 in let e : ℕ = s.2 in let α : Lft = t.0 in fsplit ! $
    -- [before; the invariant; what the run holds; the token; the others]
    move ! (0 ∷ 3 ∷ []) $ use2 𝓛 (later (some (λ (w : Share). ‵ (flft α w) ⊛ raw (wand 𝓤 (A.lft α w) (H.⇛ (A.lft β q)))))) (Lends-one 𝓛 𝓜 𝓡 β α q) $ await ! tt $ pick ! (λ w. split ! $
    -- [the turn's token; the way back; the invariant; what the run holds; the others]
    let after : ℕ → Fml = λ _. fsep (flft α w) (all_written R gs xs) in
    sets ! (is ! (of_opd ! (get_in ! (fld ! refl (stop !)) (sub ! 0 refl (whole !)))) (ap ptr_val is_at)) refl (tt, tt) $
    first ! $ blocks ! $ move ! (2 ∷ 0 ∷ 3 ∷ []) $
    use3 𝓛 (raw (𝓣.C _ (vptr b o ∷ vint w64 n ∷ seq_cst ∷ []) (λ u. mean 𝓛 (found after u))))
    (via 𝓤 _ (publishes_all 𝓛 R γs t d e b o gs i at.0 asked.3 at.1 xs asked.1 n asked.2 w)
    (adds 𝓛 𝓜 𝓡 (code.calls-core::raw_atomic::fetch_add 𝓡.env wired) (block_ptr b o) n are.1.0.1 after)) $
    sets ! (agg ! (and_then ! (lit ! tt) (no_more !))) refl (tt, (record { fits = lit< tt }, tt)) $
    Calls-last ! (fm 𝓛 𝓜 𝓡) (found after) (and_then ! (get ! refl) (and_then ! (get ! refl) (and_then ! (get ! refl) (no_more !)))) (λ u. finds ! after (λ k fits.
    lands_last ! refl (tt, record { fits = fits }) $ exec ! 𝓣.C 𝓣.Λ Ev (tail (tail fn.body)) (at_ret Ev Post) $
    fsplit ! $ move ! (0 ∷ 2 ∷ []) $ use2 𝓛 (later (‵ (flft β q))) (apply∗ 𝓤 (A.lft α w) (H.⇛ (A.lft β q))) $ await ! tt $ move ! (0 ∷ 2 ∷ []) $ join ! $ move ! (1 ∷ []) $
    let ms : List (MemberView T.Denot) = members_of gs xs in let made : S.Denot = record { marker = record {}; of = ms } in let Told : Type 0 = ms ≡ ms in
    use1 𝓛 (‵ (S.own_val made (token_val ∷ []))) (row_made 𝓛 R ms) $
    sets ! (agg ! (no_more !)) refl (tt, tt) $ sets ! (agg ! (and_then ! (get ! refl) (no_more !))) refl (tt, (tt, tt)) $
    use0 𝓛 (raw (fact 𝓤 Told)) (fact_i 𝓤 Told (emp 𝓤) refl) $ nothing ! $ nothing ! $ fjoin ! $ nothing ! $ fjoin ! $
    returns ! (look_at ! 0 refl) $ free_all ! refl $ keep ! (3 ∷ 0 ∷ 2 ∷ 1 ∷ []) $ by ! (leaves 𝓛 En hs c y token_val made (tt, (tt, tt)) (tt, (tt, tt))))))))))))
