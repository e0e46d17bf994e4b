-- `first` parts the first cell of a run from those after it.
use Rattle.std.proofs.Common.{Bool, eqb, eq-eqb, add-mul, arith, length, ◌<◌, ◌≡◌, ℕ, suc, ◌+◌, ◌*◌, ◌^◌, List, [], ◌∷◌, ◌++◌, sym, refl, ap, subst, w64}
use mir.Syntax.{a_type}
use mir.Val.{Val, vint, vstruct, vcons, vnil, of_list}
use mir.MapTy.{inst_fn}
use base.Logic.{SProp, emp, guard_i}
use base.Fml.{Lft, Fml, ftrue, fsep, fbor, feq}
use base.Before.{before}
use types.Logic.{sem}
use types.Kit.{‵, raw, ◌⊛◌, given, at_ret, ◌$◌, ◌∵◌, !, qed, by, move, keep, drop, use0, use1, split, fsplit, fsplit3, fjoin, fpick, fpack, learn, rewrite, feq_i}
use types.Run.{stop, fld, of_opd, bin, lit, size_word, no_more, and_then, first, blocks, exec, returns, enter}
use types.ByLocal.{alloc_all, pass_all, free_all, look_at, get, get_in, sets, sets_last, is, env}
use types.Part.{agg, sub, whole}
use types.Na.{before_dup}
use contract.Running.{tables}
use contract.Monad.{fact, fact_i, fact_use}
use denote.Exit.{no}
use denote.RattleType.{RattleType, owns, Valss}
use denote.Signature.{types_at, plain, named_lft}
use denote.RawPtr.{Ptr, InBlock, block_ptr, ptr_val, block_of, count_of, at_block}
use denote.Steps.{nothing, heard}
use denote.Param.{param, layouts}
use denote.Triple.Walked.{Stays, stay_dropped, walk_of, Goes-dropped}
use denote.Triple.Entry.{alive}
use Rattle.atomic_table.proofs.Walks.{proved, leaves}
use Rattle.core.proofs.atomic.Steps.{tail}
use Rattle.cell_core.specs.Slot.{above, floors, Names, Turn, Spot, Cells, IsAt, right_of, cell_in, kept, room_at, step, won}
use Rattle.cell_core.specs.Slot.{fact as is_fact}
use Rattle.cell_core.specs.Run.{IsRunAt, held, if_won, run_owned}
use Rattle.cell_core.specs.contracts.slot.run.RawRun as RawRun
use Rattle.cell_core.specs.contracts.slot.steps.RawPen as RawPen
use Rattle.cell_core.proofs.CellMade.{PenWords, pointers_val, pointers_good, pen_made}
use Rattle.cell_core.proofs.LaidMade.{uncapped}
use Rattle.cell_core.proofs.LaidParts.{room_is, within}
use Rattle.cell_core.proofs.RunMade.{RunWords, run_told, run_placed, run_holds, run_made, Holds}
use Rattle.cell_core.proofs.WordSteps.{above_dup}
use Rattle.cell_core.proofs.RunSteps.{held_first, first_again, first_at, others, others_fewer}
use Rattle.cell_core.specs.contracts.slot.run.RawRun.first.{ended, clauses}
use Rattle.cell_core.specs.contracts.slot.run.RawRun.first.Key.{name as #self}
use Rattle.cell_core.proofs.slot.run.RawRun.first.Statement.{statement}
use Rattle.cell_core.proofs.slot.run.RawRun.first.Code as code

pub first_spec : {M : Type 1} → statement M
first_spec 𝓤 𝓛 𝓜 𝓡 wired T L =
    let H = 𝓛.H in let 𝓣 = tables 𝓤 H 𝓜 𝓡 𝓡.env in let R : RattleType = param 0 T in let En = ended T in let c = clauses T 𝓛 𝓜.mem 𝓡.returns in
    let inst = layouts (a_type ∷ []) (T, tt) in let fn = inst_fn inst code.function in
    let self = plain (λ κs. RawRun.the_row (named_lft 2 0 tt κs) R) in let hs : Stays En.signature.params En.kept = (stay_dropped self no, tt) in
    proved 𝓛 En hs c 𝓜 𝓡 (Goes-dropped 𝓛 2 self no (λ κs x f. refl), tt) (#self inst) fn (code.unfolded 𝓤 H 𝓜 𝓡 wired (T, tt))
    (λ κs. ((λ h. pointers_val h.word h.room ∷ []), tt)) (λ κs. ((λ h vs so. run_told (named_lft 2 0 tt κs) R h.word h.room vs so.0), tt)) (λ κs qs bounds a gh are.
    let ℓ = named_lft 2 0 tt κs in let Hr : RattleType = RawRun.the_row ℓ R in let Hp : RattleType = RawPen.the_row ℓ R in let h : Hr.Denot = a.0 in let p : Ptr = h.word in let z : Ptr = h.room in let b : ℕ = block_of p in let o : ℕ = count_of p in let d : ℕ = block_of z in let e : ℕ = count_of z in
    let β : Lft = κs.0 in let gs : List Names = h.of in let i : ℕ = h.index in let way : Bool = h.first in let m : ℕ = h.sought in let k : ℕ = h.found in let xs : List T.Denot = h.values in let none : List T.Denot = [] in let γ : Names = cell_in gs 0 in let rs : List Names = others gs in let e' : ℕ = 1 * step R + e in
    let Asked : Type 0 = (k ≡ m) × (xs ≡ []) × (0 < length gs) in let Owned : Ptr × Ptr → Fml = λ u. run_owned R gs β u.0 u.1 i way m k xs in
    let y : (walk_of 𝓛 En hs c).Ghost = ((κs, qs, bounds, a, (pointers_val p z ∷ [], tt)), gh) in let Post : Val → SProp 𝓤 = (walk_of 𝓛 En hs c).post y in
    qed 𝓛 ((raw (alive 𝓛 En.signature κs qs) ⊛ ‵ (owns (types_at En.signature.params κs) a y.0.4)) ∷ raw (fact 𝓤 _) ∷ raw (fact 𝓤 Asked) ∷ []) ∵
    keep ! (2 ∷ 0 ∷ []) $ heard ! Asked (λ asked. split ! $ move ! (1 ∷ []) $ fsplit ! $ fsplit ! $ keep ! (1 ∷ 3 ∷ []) $
    use1 𝓛 (given (InBlock p × InBlock z) (‵ (Owned (p, z)))) (fact_use 𝓤 _ (run_placed 𝓛 R gs β p z i way m k xs) (guard_i 𝓤 (InBlock p × InBlock z) (sem 𝓛 (Owned (p, z))))) $ learn ! (λ inb. let is_at : p ≡ block_ptr b o = at_block p inb.0 in let is_room : z ≡ block_ptr d e = at_block z inb.1 in
    rewrite ! 0 (λ (u : Ptr × Ptr). ‵ (Owned u)) (λ l. (is_at l, is_room l)) refl $ use1 𝓛 (‵ (Holds 𝓛 R gs β b o d e i way xs)) (run_holds 𝓛 R gs β b o d e i way m k xs asked.0) $
    enter ! 𝓣.C 𝓣.Λ fn (pointers_val p z ∷ []) Post $ alloc_all ! (λ l. pass_all ! refl (pointers_good p z, tt) $ let Ev = env fn.locals l in
    fpick ! (λ s. fsplit3 ! $ fpick ! (λ at. drop ! $ let Γs : List Names = s.0 in let t : Turn = s.1 in let f : ℕ = s.2 in let α : Lft = t.0 in let J : Fml = fbor α (Cells R Γs t b o d f) in let part = first_at gs i Γs asked.2 at.0 in
    let more : room_at R f (suc i) ≡ e' = (let u = room_is R f (suc i) in let v = room_is R f i in let w = add-mul 1 i (step R) in omega (arith, u, v, w, at.2)) in
    let small : 1 * step R < 2 ^ 64 = (let u : 1 * step R < 2 ^ 63 = within R 1 (length gs) asked.2 at.3 in omega arith) in
    let fewer : length rs * step R < 2 ^ 63 = within R (length rs) (length gs) (others_fewer gs) at.3 in
    -- [kept; what the run holds; the lifetimes]
    move ! (1 ∷ []) $ rewrite ! 0 (λ (l : List T.Denot). ‵ (held R way t d f gs i l)) asked.1 refl $
    use1 𝓛 (‵ (right_of R γ α (t.1 i) d (room_at R f i) way) ⊛ ‵ (held R way t d f rs (suc i) none)) (held_first 𝓛 R way t d f gs i asked.2) $ split ! $
    -- [the right; what the run holds of the others; kept; the lifetimes]
    move ! (2 ∷ []) $ fsplit ! $ use1 𝓛 (‵ (before β α) ⊛ ‵ (before β α)) (before_dup 𝓛 β α) $ split ! $ move ! (2 ∷ []) $
    use1 𝓛 (‵ (above (floors Γs) J) ⊛ ‵ (above (floors Γs) J)) (above_dup 𝓛 (floors Γs) J) $ split ! $ move ! (2 ∷ 0 ∷ []) $ fjoin ! $ move ! (2 ∷ 1 ∷ []) $ fjoin ! $
    -- [kept; kept; the right; what the run holds of the others; the lifetimes]
    move ! (2 ∷ []) $ rewrite ! 0 (λ (l : ℕ). ‵ (right_of R γ α (t.1 i) d l way)) at.2 refl $ move ! (1 ∷ 0 ∷ []) $ fjoin ! $ nothing ! $ fpack ! (IsAt R γ i e s) (λ _. ftrue) (part.0, at.1, part.1, at.2) $ fjoin ! $
    fpack ! Spot (λ u. fsep (is_fact (IsAt R γ i e u)) (fsep (kept R u.0 u.1 b o d u.2 β) (won R γ u.1.0 (u.1.1 i) d e way 0 0))) s $
    -- [the pen; kept; what the run holds of the others; the lifetimes]
    move ! (2 ∷ []) $ rewrite ! 0 (λ (l : Bool). ‵ (if_won l (held R way t d f rs (suc i) none))) (sym (eq-eqb m m refl)) refl $ move ! (2 ∷ 0 ∷ []) $ fjoin ! $ nothing ! $ fpack ! (IsRunAt R rs (suc i) e' s) (λ _. ftrue) (part.2, at.1, more, fewer) $ fjoin ! $
    fpack ! Spot (λ u. fsep (is_fact (IsRunAt R rs (suc i) e' u)) (fsep (kept R u.0 u.1 b o d u.2 β) (if_won (eqb m m) (held R way u.1 d u.2 rs (suc i) none)))) s $
    -- [the others; the pen; the lifetimes]
    let p' : Ptr = block_ptr b o in let z' : Ptr = block_ptr d e in let z'' : Ptr = block_ptr d e' in let pen : Hp.Denot = record { word = p'; room = z'; marker = record {}; of = γ; index = i; first = way; sought = 0; found = 0 } in let run : Hr.Denot = record { word = p'; room = z''; marker = record {}; of = rs; index = suc i; first = way; sought = m; found = m; values = none } in
    let val : Val = vstruct (vcons (pointers_val p' z') (vcons (pointers_val p' z'') vnil)) in
    let free : ℕ = 0 in let Told : Type 0 = (γ ∷ rs ≡ gs) × (i ≡ i) × (way ≡ way) × (free ≡ free) × (free ≡ free) × (suc i ≡ i + 1) × (way ≡ way) × (m ≡ m) × (m ≡ m) × (none ≡ none) in
    sets ! (is ! (of_opd ! (get_in ! (fld ! refl (stop !)) (sub ! 0 refl (whole !)))) (ap ptr_val is_at)) refl (tt, tt) $
    sets ! (is ! (of_opd ! (get_in ! (fld ! refl (stop !)) (sub ! 1 refl (whole !)))) (ap ptr_val is_room)) refl (tt, tt) $
    sets ! (of_opd ! (get_in ! (fld ! refl (stop !)) (sub ! 2 refl (whole !)))) refl (tt, tt) $ first ! $ blocks ! $
    sets ! (is ! (bin ! (lit ! tt) (size_word !) (record { fits = subst (λ (l : ℕ). l < 2 ^ 64) (sym (uncapped 1 (step R) small)) small })) (ap (vint w64) (uncapped 1 (step R) small))) refl (tt, record { fits = small }) $
    sets_last ! (bin ! (get ! refl) (get ! refl) tt) refl (tt, tt) $ exec ! 𝓣.C 𝓣.Λ Ev (tail (tail (tail (tail fn.body)))) (at_ret Ev Post) $
    sets ! (of_opd ! (get ! refl)) refl (tt, tt) $
    sets ! (agg ! (and_then ! (get ! refl) (and_then ! (get ! refl) (and_then ! (get ! refl) (no_more !))))) refl (pointers_good p' z') $
    sets ! (agg ! (and_then ! (get ! refl) (and_then ! (get ! refl) (and_then ! (get ! refl) (no_more !))))) refl (pointers_good p' z'') $
    sets ! (agg ! (and_then ! (get ! refl) (and_then ! (get ! refl) (no_more !)))) refl (tt, ((pointers_good p' z').1, ((pointers_good p' z'').1, tt))) $
    use0 𝓛 (‵ ((RunWords ℓ R).own_val (p', (z'', (tt, tt))) (pointers_val p' z'' ∷ []))) (run_made ℓ R 𝓛 p' z'') $ fjoin ! $ nothing ! $ move ! (1 ∷ 0 ∷ []) $ fjoin ! $ move ! (1 ∷ []) $
    use0 𝓛 (‵ ((PenWords ℓ R).own_val (p', (z', (tt, tt))) (pointers_val p' z' ∷ []))) (pen_made ℓ R 𝓛 p' z') $ fjoin ! $ fjoin ! $ feq_i ! (List Val) (val ∷ []) (val ∷ []) refl $ fjoin ! $
    fpack ! (Valss (Hp ∷ Hr ∷ [])) (λ uss. fsep (feq (List Val) (val ∷ []) (vstruct (of_list (uss.0 ++ (uss.1.0 ++ []))) ∷ [])) (owns (Hp ∷ Hr ∷ []) (pen, (run, tt)) uss)) (pointers_val p' z' ∷ [], (pointers_val p' z'' ∷ [], tt)) $
    let next : suc i ≡ i + 1 = omega arith in use0 𝓛 (raw (fact 𝓤 Told)) (fact_i 𝓤 Told (emp 𝓤) (first_again gs asked.2, refl, refl, refl, refl, next, refl, refl, refl, refl)) $ nothing ! $ nothing ! $ fjoin ! $
    returns ! (look_at ! 0 refl) $ free_all ! refl $ keep ! (3 ∷ 0 ∷ 2 ∷ 1 ∷ []) $ by ! (leaves 𝓛 En hs c y val (pen, run) (tt, tt) (tt, tt))))))))
