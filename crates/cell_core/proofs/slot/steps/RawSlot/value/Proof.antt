-- `value` lends the room, by a token that shows that it holds a value. It takes no step.
use Rattle.std.proofs.Common.{◌≡◌, ℕ, List, [], ◌∷◌, refl, ap}
use mir.Syntax.{a_type, named}
use mir.Val.{Val, vptr}
use mir.MapTy.{inst_fn}
use base.Logic.{SProp, wand, emp, apply∗, guard_i}
use base.Fml.{Lft, Share, Fml, ftrue, fsep, flft}
use base.Before.{before}
use types.Logic.{sem}
use types.Kit.{‵, raw, ◌⊛◌, some, given, later, at_ret, ◌$◌, ◌∵◌, !, qed, by, move, keep, drop, use0, use1, use2, use3, split, join, fsplit, fjoin, fpick, pick, learn, await, rewrite, feq_i}
use types.Run.{stop, fld, addr, of_opd, first, blocks, exec, returns, enter}
use types.ByLocal.{alloc_all, pass_all, free_all, look_at, get, get_in, through, sets, sets_last, is, env}
use types.Part.{sub, whole}
use types.Na.{before_dup}
use contract.Running.{tables}
use contract.Monad.{fact, fact_i, fact_use}
use contract.Shared.{Lends-one}
use denote.Exit.{yes, no}
use denote.RattleType.{RattleType, owns}
use denote.Signature.{types_at, plain, named_lft}
use denote.RawPtr.{Ptr, InBlock, block_ptr, ptr_val, block_of, count_of, at_block}
use denote.Steps.{nothing, heard}
use denote.Opens.{hide, unhide}
use denote.Memory.{shared_of}
use denote.Param.{param, layouts}
use denote.Param.Laws.{param_laws}
use denote.Builtin.{RefOf}
use denote.Ref.{shr_vals, shr_Tells}
use denote.Triple.Walked.{Stays, stay_dropped, walk_of, Goes-dropped}
use Rattle.atomic_table.proofs.Walks.{proved, leaves}
use Rattle.core.proofs.atomic.Steps.{tail}
use Rattle.cell_core.specs.Slot.{Names, Turn, written, slot_owned}
use Rattle.cell_core.specs.contracts.slot.steps.RawSlot as RawSlot
use Rattle.cell_core.specs.contracts.slot.steps.Written as Written
use Rattle.cell_core.proofs.CellMade.{pointers_val, pointers_good, slot_told, slot_placed}
use Rattle.cell_core.proofs.CellSteps as steps
use Rattle.cell_core.proofs.WordSteps.{reads_at}
use Rattle.cell_core.specs.contracts.slot.steps.RawSlot.value.{ended, clauses}
use Rattle.cell_core.specs.contracts.slot.steps.RawSlot.value.Key.{name as #self}
use Rattle.cell_core.proofs.slot.steps.RawSlot.value.Statement.{statement}
use Rattle.cell_core.proofs.slot.steps.RawSlot.value.Code as code

pub value_spec : {M : Type 1} → statement M
value_spec {M} 𝓤 𝓛 𝓜 𝓡 wired T L =
    let H = 𝓛.H in let A = 𝓛.A in let 𝓣 = tables 𝓤 H 𝓜 𝓡 𝓡.env in let R : RattleType = param 0 T in let LR = param_laws 0 T L in let En = ended T in let c = clauses T 𝓛 𝓜.mem 𝓡.returns in
    let inst = layouts (a_type ∷ []) (T, tt) in let fn = inst_fn inst code.function in
    let self = plain (λ κs. RawSlot.the_row (named_lft 3 0 tt κs) R) in let token = RefOf (1 ∷ []) tt (plain (λ _. Written.the_row R)) (λ _. tt) in let hs : Stays En.signature.params En.kept = (stay_dropped self no, (stay_dropped token yes, tt)) in
    proved 𝓛 En hs c 𝓜 𝓡 (Goes-dropped 𝓛 3 self no (λ κs x f. refl), (Goes-dropped 𝓛 3 token yes (λ κs x f. refl), tt)) (#self inst) fn (code.unfolded 𝓤 H 𝓜 𝓡 wired (T, tt))
    (λ κs. ((λ h. pointers_val h.word h.room ∷ []), (shr_vals, tt))) (λ κs. ((λ h vs so. slot_told (named_lft 3 0 tt κs) R h.word h.room vs so.0), (shr_Tells (named 1) κs.1.0 (Written.the_row R), tt))) (λ κs qs bounds a gh are.
    let ℓ = named_lft 3 0 tt κs in let Sr : RattleType = RawSlot.the_row ℓ R in let h : Sr.Denot = a.0 in let p : Ptr = h.word in let z : Ptr = h.room in let b : ℕ = block_of p in let o : ℕ = count_of p in let d : ℕ = block_of z in let r : ℕ = count_of z in
    let β : Lft = κs.0 in let q : Share = qs.0 in let γ : Names = h.of in let i : ℕ = h.index in let others : Fml = fsep (flft κs.1.0 qs.1.0) (fsep (flft κs.1.1.0 qs.1.1.0) ftrue) in
    let v = a.1.0.now in let x : T.Denot = v.value in let known : Val = vptr a.1.0.ref_ptr.0 a.1.0.ref_ptr.1 in let Asked : Type 0 = v.of ≡ γ.value_name in
    let y : (walk_of 𝓛 En hs c).Ghost = ((κs, qs, bounds, a, (pointers_val p z ∷ [], (known ∷ [], tt))), gh) in let Post : Val → SProp 𝓤 = (walk_of 𝓛 En hs c).post y in
    qed 𝓛 (((‵ (flft β q) ⊛ ‵ others) ⊛ ‵ (owns (types_at En.signature.params κs) a y.0.4)) ∷ raw (fact 𝓤 _) ∷ raw (fact 𝓤 Asked) ∷ []) ∵
    keep ! (2 ∷ 0 ∷ []) $ heard ! Asked (λ same. split ! $ split ! $ move ! (2 ∷ []) $ fsplit ! $ move ! (1 ∷ []) $ fsplit ! $ fsplit ! $ move ! (3 ∷ []) $ fsplit ! $ keep ! (3 ∷ 1 ∷ 5 ∷ 6 ∷ []) $ unhide ! $ fsplit ! $ drop ! $
    rewrite ! 0 (λ (k : ℕ). ‵ (written R k x)) same refl $ move ! (1 ∷ []) $
    -- [the cell; written; the token; the others]
    use1 𝓛 (given (InBlock p × InBlock z) (‵ (slot_owned R γ β p z i))) (fact_use 𝓤 _ (slot_placed 𝓛 R γ β p z i) (guard_i 𝓤 (InBlock p × InBlock z) (sem 𝓛 (slot_owned R γ β p z i)))) $ learn ! (λ inb. let is_at : p ≡ block_ptr b o = at_block p inb.0 in let is_room : z ≡ block_ptr d r = at_block z inb.1 in
    rewrite ! 0 (λ (u : Ptr × Ptr). ‵ (slot_owned R γ β u.0 u.1 i)) (λ l. (is_at l, is_room l)) refl $
    enter ! 𝓣.C 𝓣.Λ fn (pointers_val p z ∷ known ∷ []) Post $ alloc_all ! (λ l. pass_all ! refl (pointers_good p z, ((tt, tt), tt)) $ let Ev = env fn.locals l in
    fpick ! (λ s. fsplit ! $ fpick ! (λ at. drop ! $ let t : Turn = s.1 in let α : Lft = t.0 in fsplit ! $ use1 𝓛 (‵ (before β α) ⊛ ‵ (before β α)) (before_dup 𝓛 β α) $ split ! $
    -- [before, twice; the invariant; written; the token; the others]
    move ! (0 ∷ 4 ∷ []) $ use2 𝓛 (later (some (λ (w : Share). ‵ (flft α w) ⊛ raw (wand 𝓤 (A.lft α w) (H.⇛ (A.lft β q)))))) (Lends-one 𝓛 𝓜 𝓡 β α q) $ await ! tt $ pick ! (λ w. split ! $
    -- [the turn's token; the way back; before; the invariant; written; the others]
    let There : Fml = shared_of R x d r α in move ! (3 ∷ 0 ∷ 4 ∷ []) $
    use3 𝓛 (later (‵ There ⊛ ‵ (flft α w))) (reads_at 𝓛 R γ b o d r i s at w There (sem 𝓛 (written R γ.value_name x)) (steps.finds_written 𝓛 R γ α (t.1 i) d r LR.shr_laws x)) $ await ! tt $ split ! $
    move ! (1 ∷ 2 ∷ []) $ use2 𝓛 (later (‵ (flft β q))) (apply∗ 𝓤 (A.lft α w) (H.⇛ (A.lft β q))) $ await ! tt $ move ! (0 ∷ 3 ∷ []) $ join ! $ move ! (2 ∷ 1 ∷ []) $
    use2 𝓛 (‵ (shared_of R x d r β)) ((LR.shr_laws x d r).mono M 𝓤 𝓛 β α) $ hide ! $ feq_i ! (List Val) (vptr d r ∷ []) (vptr d r ∷ []) refl $ fjoin ! $
    sets ! (is ! (of_opd ! (get_in ! (fld ! refl (stop !)) (sub ! 1 refl (whole !)))) (ap ptr_val is_room)) refl (tt, tt) $ first ! $ blocks ! $
    sets_last ! (addr ! (through ! refl (stop !))) refl (tt, tt) $ exec ! 𝓣.C 𝓣.Λ Ev (tail (tail fn.body)) (at_ret Ev Post) $ sets ! (of_opd ! (get ! refl)) refl (tt, tt) $
    let Told : Type 0 = x ≡ x in use0 𝓛 (raw (fact 𝓤 Told)) (fact_i 𝓤 Told (emp 𝓤) refl) $ nothing ! $ nothing ! $ fjoin ! $ nothing ! $ fjoin ! $
    returns ! (look_at ! 0 refl) $ free_all ! refl $ keep ! (3 ∷ 0 ∷ 2 ∷ 1 ∷ []) $ by ! (leaves 𝓛 En hs c y (vptr d r) (record { ref_ptr = (d, r); now = x }) (tt, (tt, tt)) (tt, (tt, tt))))))))))
