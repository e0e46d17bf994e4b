-- `reopen` takes the right to write, if it finds that an owner broke the cell, whose epoch has ended.
use Rattle.std.proofs.Common.{false, ◌≡◌, ℕ, ◌-◌, ◌*◌, ◌^◌, List, [], ◌∷◌, ◌++◌, refl, sym, ap, subst, lit<, w64}
use lib.Bits.{bit_and}
use mir.Syntax.{a_type, named}
use mir.Val.{Val, vint, vptr, vstruct, vcons, vnil, of_list}
use mir.MapTy.{inst_fn}
use base.Logic.{SProp, sep, wand, emp, via, apply∗, guard_i}
use base.Fml.{Lft, Share, Fml, ftrue, fsep, flft, fbor, feq}
use base.Before.{before}
use types.Logic.{sem}
use types.Kit.{mean, ‵, raw, ◌⊛◌, some, given, later, at_ret, ◌$◌, ◌∵◌, !, qed, by, move, keep, drop, use0, use1, use2, use3, split, join, fsplit, fsplit3, fjoin, fjoin3, fpick, fpack, pick, learn, await, rewrite, feq_i, flt_i}
use types.Run.{stop, fld, lit, of_opd, no_more, and_then, first, blocks, exec, Calls-last, returns, enter}
use types.ByLocal.{alloc_all, pass_all, free_all, look_at, get, get_in, sets, lands_last, is, env}
use types.Part.{agg, sub, whole}
use types.Na.{before_dup}
use contract.Running.{tables}
use contract.Monad.{fact, fact_i, fact_use}
use contract.Shared.{Lends-one}
use denote.Exit.{yes, no}
use denote.RattleType.{RattleType, owns, Valss}
use denote.Signature.{types_at, plain, named_lft}
use denote.RawPtr.{Ptr, InBlock, block_ptr, ptr_val, block_of, count_of, at_block}
use denote.Steps.{nothing, heard}
use denote.Param.{param, layouts}
use denote.Builtin.{u64}
use denote.Plain.{uint_vals, uint_Tells}
use denote.Builtin.{RefOf}
use denote.Ref.{shr_vals, shr_Tells}
use denote.Opens.{unhide}
use Rattle.cell_core.specs.Member.{MemberView, HasNames, MayBeStateOf, IsEpochOf, known_as}
use Rattle.cell_core.specs.contracts.slot.member.RawMember as RawMember
use Rattle.cell_core.specs.contracts.slot.epoch.RawEnded as RawEnded
use denote.Triple.Walked.{Stays, stay_dropped, walk_of, Goes-dropped}
use Rattle.atomic_table.proofs.Walks.{proved, leaves}
use Rattle.atomic_table.proofs.Calls.{fm, seq_cst, found, ands, finds}
use Rattle.core.proofs.atomic.Steps.{tail}
use Rattle.cell_core.specs.Fields.{field}
use Rattle.cell_core.specs.Slot.{above, floors, IsPlain, Names, Turn, Spot, IsAt, Cells, kept, won, slot_owned}
use Rattle.cell_core.specs.Slot.{fact as is_fact}
use Rattle.cell_core.specs.contracts.slot.steps.RawSlot as RawSlot
use Rattle.cell_core.specs.contracts.slot.steps.RawPen as RawPen
use Rattle.cell_core.proofs.CellMade.{pointers_val, pointers_good, PenWords, slot_told, slot_placed, pen_made}
use Rattle.cell_core.proofs.CellSteps as steps
use Rattle.cell_core.proofs.WordSteps.{above_dup, Turns, stepped_at, turns_and}
use Rattle.cell_core.specs.contracts.slot.steps.RawSlot.reopen.{ended, clauses}
use Rattle.cell_core.specs.contracts.slot.steps.RawSlot.reopen.Key.{name as #self}
use Rattle.cell_core.proofs.slot.steps.RawSlot.reopen.Statement.{statement}
use Rattle.cell_core.proofs.slot.steps.RawSlot.reopen.Code as code

pub reopen_spec : {M : Type 1} → statement M
reopen_spec 𝓤 𝓛 𝓜 𝓡 wired T L =
    let H = 𝓛.H in let A = 𝓛.A in let 𝓣 = tables 𝓤 H 𝓜 𝓡 𝓡.env in let R : RattleType = param 0 T in let En = ended T in let c = clauses T 𝓛 𝓜.mem 𝓡.returns in
    let inst = layouts (a_type ∷ []) (T, tt) in let fn = inst_fn inst code.function in
    let self = plain (λ κs. RawSlot.the_row (named_lft 4 0 tt κs) R) in let token = RefOf (1 ∷ []) tt (plain (λ _. RawMember.the_row R)) (λ _. tt) in let time = RefOf (2 ∷ []) tt (plain (λ _. RawEnded.the_row)) (λ _. tt) in
    let hs : Stays En.signature.params En.kept = (stay_dropped self no, (stay_dropped (plain (λ _. u64)) yes, (stay_dropped token yes, (stay_dropped time yes, tt)))) in
    proved 𝓛 En hs c 𝓜 𝓡 (Goes-dropped 𝓛 4 self no (λ κs x f. refl), (Goes-dropped 𝓛 4 (plain (λ _. u64)) yes (λ κs x f. refl), (Goes-dropped 𝓛 4 token yes (λ κs x f. refl), (Goes-dropped 𝓛 4 time yes (λ κs x f. refl), tt)))) (#self inst) fn (code.unfolded 𝓤 H 𝓜 𝓡 wired (T, tt))
    (λ κs. ((λ h. pointers_val h.word h.room ∷ []), (uint_vals w64, (shr_vals, (shr_vals, tt))))) (λ κs. ((λ h vs so. slot_told (named_lft 4 0 tt κs) R h.word h.room vs so.0), (uint_Tells w64, (shr_Tells (named 1) κs.1.0 (RawMember.the_row R), (shr_Tells (named 2) κs.1.1.0 RawEnded.the_row, tt))))) (λ κs qs bounds a gh are.
    let ℓ = named_lft 4 0 tt κs in let Sr : RattleType = RawSlot.the_row ℓ R in let Hr : RattleType = RawPen.the_row ℓ R in let h : Sr.Denot = a.0 in let p : Ptr = h.word in let z : Ptr = h.room in let b : ℕ = block_of p in let o : ℕ = count_of p in let d : ℕ = block_of z in let r : ℕ = count_of z in
    let β : Lft = κs.0 in let q : Share = qs.0 in let γ : Names = h.of in let i : ℕ = h.index in let n : ℕ = a.1.0 in let others : Fml = fsep (flft κs.1.0 qs.1.0) (fsep (flft κs.1.1.0 qs.1.1.0) (fsep (flft κs.1.1.1.0 qs.1.1.1.0) ftrue)) in
    let m : MemberView T.Denot = a.1.1.0.now.of in let known : Val = vptr a.1.1.0.ref_ptr.0 a.1.1.0.ref_ptr.1 in let over : Val = vptr a.1.1.1.0.ref_ptr.0 a.1.1.1.0.ref_ptr.1 in let ε : Lft = a.1.1.1.0.now.of ∷ [] in
    let Asked : Type 0 = (n ≡ 2 ^ 64 - 1 - 8 * 16 ^ i) × HasNames γ m.value m.name m.epoch × IsEpochOf m.value m.epoch ε × IsPlain γ in
    let y : (walk_of 𝓛 En hs c).Ghost = ((κs, qs, bounds, a, (pointers_val p z ∷ [], (vint w64 n ∷ [], (known ∷ [], (over ∷ [], tt))))), gh) in let Post : Val → SProp 𝓤 = (walk_of 𝓛 En hs c).post y in
    qed 𝓛 (((‵ (flft β q) ⊛ ‵ others) ⊛ ‵ (owns (types_at En.signature.params κs) a y.0.4)) ∷ raw (fact 𝓤 _) ∷ raw (fact 𝓤 Asked) ∷ []) ∵
    keep ! (2 ∷ 0 ∷ []) $ heard ! Asked (λ asked. split ! $ split ! $ move ! (2 ∷ []) $ fsplit ! $ move ! (1 ∷ []) $ fsplit3 ! $ move ! (2 ∷ []) $ fsplit ! $ fsplit ! $ move ! (4 ∷ []) $ fsplit ! $ move ! (6 ∷ []) $ fsplit ! $ keep ! (5 ∷ 3 ∷ 1 ∷ 8 ∷ 9 ∷ []) $
    unhide ! $ fsplit ! $ drop ! $ move ! (1 ∷ []) $ unhide ! $ fsplit ! $ drop ! $ move ! (2 ∷ []) $
    -- [the cell; what is known; what has ended; the token; the others]
    use1 𝓛 (given (InBlock p × InBlock z) (‵ (slot_owned R γ β p z i))) (fact_use 𝓤 _ (slot_placed 𝓛 R γ β p z i) (guard_i 𝓤 (InBlock p × InBlock z) (sem 𝓛 (slot_owned R γ β p z i)))) $ learn ! (λ inb. let is_at : p ≡ block_ptr b o = at_block p inb.0 in let is_room : z ≡ block_ptr d r = at_block z inb.1 in
    rewrite ! 0 (λ (u : Ptr × Ptr). ‵ (slot_owned R γ β u.0 u.1 i)) (λ l. (is_at l, is_room l)) refl $
    enter ! 𝓣.C 𝓣.Λ fn (pointers_val p z ∷ vint w64 n ∷ known ∷ over ∷ []) Post $ alloc_all ! (λ l. pass_all ! refl (pointers_good p z, ((tt, record { fits = are.1.0.1 }), ((tt, tt), ((tt, tt), tt)))) $ let Ev = env fn.locals l in
    fpick ! (λ s. fsplit ! $ fpick ! (λ at. drop ! $ let γs : List Names = s.0 in let t : Turn = s.1 in let e : ℕ = s.2 in let α : Lft = t.0 in let J : Fml = fbor α (Cells R γs t b o d e) in
    fsplit ! $ use1 𝓛 (‵ (before β α) ⊛ ‵ (before β α)) (before_dup 𝓛 β α) $ split ! $ move ! (2 ∷ []) $
    use1 𝓛 (‵ (above (floors γs) J) ⊛ ‵ (above (floors γs) J)) (above_dup 𝓛 (floors γs) J) $ split ! $ move ! (2 ∷ 0 ∷ []) $ fjoin ! $
    -- [kept; the invariant; before; what is known; what has ended; the token; the others]
    move ! (2 ∷ 5 ∷ []) $ use2 𝓛 (later (some (λ (w : Share). ‵ (flft α w) ⊛ raw (wand 𝓤 (A.lft α w) (H.⇛ (A.lft β q)))))) (Lends-one 𝓛 𝓜 𝓡 β α q) $ await ! tt $ pick ! (λ w. split ! $
    -- [the turn's token; the way back; kept; the invariant; what is known; what has ended; the others]
    let Won : ℕ → Fml = steps.Reopened 𝓛 R γ α (t.1 i) d r m.value in let after : ℕ → Fml = λ k. fsep (flft α w) (Won (field k i)) in
    sets ! (is ! (of_opd ! (get_in ! (fld ! refl (stop !)) (sub ! 0 refl (whole !)))) (ap ptr_val is_at)) refl (tt, tt) $
    sets ! (is ! (of_opd ! (get_in ! (fld ! refl (stop !)) (sub ! 1 refl (whole !)))) (ap ptr_val is_room)) refl (tt, tt) $
    sets ! (of_opd ! (get_in ! (fld ! refl (stop !)) (sub ! 2 refl (whole !)))) refl (tt, tt) $
    first ! $ blocks ! $ move ! (4 ∷ 5 ∷ []) $ join ! $ move ! (4 ∷ 1 ∷ 0 ∷ []) $
    use3 𝓛 (raw (𝓣.C _ (vptr b o ∷ vint w64 n ∷ seq_cst ∷ []) (λ u. mean 𝓛 (found after u))))
    (via 𝓤 _ (stepped_at 𝓛 R γ b o d r i s at w (λ k. bit_and k n) (λ k. bit_and k (15 - 8)) (λ within short. subst (λ (m : ℕ). Turns R γs i (λ k. bit_and k m) (λ k. bit_and k (15 - 8))) (sym asked.0) (turns_and R γs i within short 8 (lit< tt))) Won (sep 𝓤 (sem 𝓛 (known_as R m.value m.name)) (A.dead ε)) (steps.reopens 𝓛 R γ α (t.1 i) d r asked.3 m.value m.name m.epoch ε asked.1 asked.2))
    (ands 𝓛 𝓜 𝓡 (code.calls-core::raw_atomic::fetch_and 𝓡.env wired) (block_ptr b o) n are.1.0.1 after)) $
    sets ! (agg ! (and_then ! (lit ! tt) (no_more !))) refl (tt, (record { fits = lit< tt }, tt)) $
    Calls-last ! (fm 𝓛 𝓜 𝓡) (found after) (and_then ! (get ! refl) (and_then ! (get ! refl) (and_then ! (get ! refl) (no_more !)))) (λ u. finds ! after (λ k fits.
    lands_last ! refl (tt, record { fits = fits }) $ exec ! 𝓣.C 𝓣.Λ Ev (tail (tail (tail (tail fn.body)))) (at_ret Ev Post) $
    sets ! (of_opd ! (get ! refl)) refl (tt, record { fits = fits }) $
    sets ! (agg ! (and_then ! (get ! refl) (and_then ! (get ! refl) (and_then ! (get ! refl) (no_more !))))) refl (pointers_good (block_ptr b o) (block_ptr d r)) $
    sets ! (agg ! (and_then ! (get ! refl) (and_then ! (get ! refl) (no_more !)))) refl (tt, (record { fits = fits }, ((tt, (tt, (tt, tt))), tt))) $
    -- [the step's; the way back; kept; the others]
    let v : ℕ = field k i in fsplit3 ! $ move ! (2 ∷ []) $ fpick ! (λ so. drop ! $
    move ! (0 ∷ 2 ∷ []) $ use2 𝓛 (later (‵ (flft β q))) (apply∗ 𝓤 (A.lft α w) (H.⇛ (A.lft β q))) $ await ! tt $ move ! (0 ∷ 3 ∷ []) $ join ! $ move ! (2 ∷ 1 ∷ []) $ fjoin ! $ nothing ! $ fpack ! (IsAt R γ i r s) (λ _. ftrue) at $ fjoin ! $
    fpack ! Spot (λ m. fsep (is_fact (IsAt R γ i r m)) (fsep (kept R m.0 m.1 b o d m.2 β) (won R γ m.1.0 (m.1.1 i) d r false 9 v))) s $
    let p' : Ptr = block_ptr b o in let z' : Ptr = block_ptr d r in let pen : Hr.Denot = record { word = p'; room = z'; marker = record {}; of = γ; index = i; first = false; sought = 9; found = v } in
    let val : Val = vstruct (vcons (vint w64 k) (vcons (pointers_val p' z') vnil)) in let Told : Type 0 = (γ ≡ γ) × (i ≡ i) × (false ≡ false) × (9 ≡ 9) × (v ≡ v) × MayBeStateOf m.value v in
    use0 𝓛 (‵ ((PenWords ℓ R).own_val (p', (z', (tt, tt))) (pointers_val p' z' ∷ []))) (pen_made ℓ R 𝓛 p' z') $ fjoin ! $ nothing ! $ flt_i ! k (2 ^ 64) fits $ feq_i ! (List Val) (vint w64 k ∷ []) (vint w64 k ∷ []) refl $ fjoin ! $
    move ! (0 ∷ 2 ∷ 1 ∷ []) $ fjoin3 ! $ feq_i ! (List Val) (val ∷ []) (val ∷ []) refl $ fjoin ! $
    fpack ! (Valss (u64 ∷ Hr ∷ [])) (λ uss. fsep (feq (List Val) (val ∷ []) (vstruct (of_list (uss.0 ++ (uss.1.0 ++ []))) ∷ [])) (owns (u64 ∷ Hr ∷ []) (k, (pen, tt)) uss)) (vint w64 k ∷ [], (pointers_val p' z' ∷ [], tt)) $
    use0 𝓛 (raw (fact 𝓤 Told)) (fact_i 𝓤 Told (emp 𝓤) (refl, refl, refl, refl, refl, so)) $ nothing ! $ nothing ! $ fjoin ! $ nothing ! $ fjoin ! $ nothing ! $ fjoin ! $ nothing ! $ fjoin ! $
    returns ! (look_at ! 0 refl) $ free_all ! refl $ keep ! (3 ∷ 0 ∷ 2 ∷ 1 ∷ []) $ by ! (leaves 𝓛 En hs c y val (k, pen) (tt, (tt, (tt, (tt, tt)))) (tt, (tt, (tt, (tt, tt)))))))))))))))
