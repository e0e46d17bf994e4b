-- `sight` keeps what the word shows of each cell.
use Rattle.std.proofs.Common.{◌≡◌, ℕ, ◌^◌, List, [], ◌∷◌, ◌++◌, refl, ap, lit<, w64}
use mir.Syntax.{a_type}
use mir.Val.{Val, vint, vptr, vstruct, vcons, vnil, of_list}
use mir.MapTy.{inst_fn}
use base.Logic.{SProp, wand, emp, via, apply∗, guard_i}
use base.Fml.{Lft, Share, Fml, ftrue, fsep, flft, feq}
use types.Logic.{sem}
use types.Kit.{mean, ‵, raw, ◌⊛◌, some, given, later, at_ret, ◌$◌, ◌∵◌, !, qed, by, move, keep, drop, use0, use1, use2, use3, split, join, fsplit, fsplit3, fjoin, fjoin3, fpick, fpack, pick, learn, await, rewrite, feq_i, flt_i}
use types.Run.{stop, fld, lit, of_opd, no_more, and_then, first, blocks, exec, Calls-last, returns, enter}
use types.ByLocal.{alloc_all, pass_all, free_all, look_at, get, get_in, sets, lands_last, is, env}
use types.Part.{agg, sub, whole}
use contract.Running.{tables}
use contract.Monad.{fact, fact_i, fact_use}
use contract.Shared.{Lends-one}
use denote.Exit.{no}
use denote.RattleType.{RattleType, owns, Valss}
use denote.Signature.{types_at, plain, named_lft}
use denote.RawPtr.{Ptr, InBlock, block_ptr, ptr_val, block_of, count_of, at_block}
use denote.Steps.{nothing}
use denote.Param.{param, layouts}
use denote.Builtin.{u64}
use denote.Triple.Walked.{Stays, stay_dropped, walk_of, Goes-dropped}
use Rattle.atomic_table.proofs.Walks.{proved, leaves}
use Rattle.atomic_table.proofs.Calls.{fm, seq_cst, found, loads, finds}
use Rattle.core.proofs.atomic.Steps.{tail}
use Rattle.cell_core.specs.Slot.{Names, Turn}
use Rattle.cell_core.specs.Slot.{fact as is_fact}
use Rattle.cell_core.specs.Fixed.{ShowStages}
use Rattle.cell_core.specs.Run.{cells_owned, sights_owned}
use Rattle.cell_core.specs.contracts.slot.run.RawCells as RawCells
use Rattle.cell_core.specs.contracts.slot.run.RawSights as RawSights
use Rattle.cell_core.proofs.CellMade.{pointers_val, pointers_good, token_val}
use Rattle.cell_core.proofs.RunMade.{cells_told, cells_placed}
use Rattle.cell_core.proofs.RunSteps.{looks_all}
use Rattle.cell_core.proofs.SightParts.{sights_made}
use Rattle.cell_core.specs.contracts.slot.run.RawCells.sight.{ended, clauses}
use Rattle.cell_core.specs.contracts.slot.run.RawCells.sight.Key.{name as #self}
use Rattle.cell_core.proofs.slot.run.RawCells.sight.Statement.{statement}
use Rattle.cell_core.proofs.slot.run.RawCells.sight.Code as code

pub sight_spec : {M : Type 1} → statement M
sight_spec 𝓤 𝓛 𝓜 𝓡 wired T L =
    let H = 𝓛.H in let A = 𝓛.A in let 𝓣 = tables 𝓤 H 𝓜 𝓡 𝓡.env in let R : RattleType = param 0 T in let En = ended T in let c = clauses T 𝓛 𝓜.mem 𝓡.returns in
    let inst = layouts (a_type ∷ []) (T, tt) in let fn = inst_fn inst code.function in
    let self = plain (λ κs. RawCells.the_row (named_lft 2 0 tt κs) R) in let hs : Stays En.signature.params En.kept = (stay_dropped self no, tt) in
    proved 𝓛 En hs c 𝓜 𝓡 (Goes-dropped 𝓛 2 self no (λ κs x f. refl), tt) (#self inst) fn (code.unfolded 𝓤 H 𝓜 𝓡 wired (T, tt))
    (λ κs. ((λ h. pointers_val h.word h.room ∷ []), tt)) (λ κs. ((λ h vs so. cells_told (named_lft 2 0 tt κs) R h.word h.room vs so.0), tt)) (λ κs qs bounds a gh are.
    let ℓ = named_lft 2 0 tt κs in let Sr : RattleType = RawCells.the_row ℓ R in let Hr : RattleType = RawSights.the_row R in let h : Sr.Denot = a.0 in let p : Ptr = h.word in let z : Ptr = h.room in let b : ℕ = block_of p in let o : ℕ = count_of p in let d : ℕ = block_of z in let r : ℕ = count_of z in
    let β : Lft = κs.0 in let q : Share = qs.0 in let gs : List Names = h.of in let i : ℕ = h.index in let others : Fml = fsep (flft κs.1.0 qs.1.0) ftrue in
    let y : (walk_of 𝓛 En hs c).Ghost = ((κs, qs, bounds, a, (pointers_val p z ∷ [], tt)), gh) in let Post : Val → SProp 𝓤 = (walk_of 𝓛 En hs c).post y in
    qed 𝓛 (((‵ (flft β q) ⊛ ‵ others) ⊛ ‵ (owns (types_at En.signature.params κs) a y.0.4)) ∷ raw ((c κs a).requires gh) ∷ []) ∵
    keep ! (0 ∷ []) $ split ! $ split ! $ move ! (2 ∷ []) $ fsplit ! $ fsplit ! $ keep ! (1 ∷ 3 ∷ 4 ∷ []) $
    use1 𝓛 (given (InBlock p × InBlock z) (‵ (cells_owned R gs β p z i))) (fact_use 𝓤 _ (cells_placed 𝓛 R gs β p z i) (guard_i 𝓤 (InBlock p × InBlock z) (sem 𝓛 (cells_owned R gs β p z i)))) $ learn ! (λ inb. let is_at : p ≡ block_ptr b o = at_block p inb.0 in let is_room : z ≡ block_ptr d r = at_block z inb.1 in
    rewrite ! 0 (λ (u : Ptr × Ptr). ‵ (cells_owned R gs β u.0 u.1 i)) (λ l. (is_at l, is_room l)) refl $
    enter ! 𝓣.C 𝓣.Λ fn (pointers_val p z ∷ []) Post $ alloc_all ! (λ l. pass_all ! refl (pointers_good p z, tt) $ let Ev = env fn.locals l in
    fpick ! (λ s. fsplit ! $ fpick ! (λ at. drop ! $ let γs : List Names = s.0 in let t : Turn = s.1 in let e : ℕ = s.2 in let α : Lft = t.0 in fsplit ! $
    -- [before; the invariant; the token; the others]
    move ! (0 ∷ 2 ∷ []) $ use2 𝓛 (later (some (λ (w : Share). ‵ (flft α w) ⊛ raw (wand 𝓤 (A.lft α w) (H.⇛ (A.lft β q)))))) (Lends-one 𝓛 𝓜 𝓡 β α q) $ await ! tt $ pick ! (λ w. split ! $
    -- [the turn's token; the way back; the invariant; the others]
    let after : ℕ → Fml = λ k. fsep (flft α w) (fsep (sights_owned R gs i k) (is_fact (ShowStages gs i k))) in
    sets ! (is ! (of_opd ! (get_in ! (fld ! refl (stop !)) (sub ! 0 refl (whole !)))) (ap ptr_val is_at)) refl (tt, tt) $
    first ! $ blocks ! $ nothing ! $ move ! (3 ∷ 1 ∷ 0 ∷ []) $
    use3 𝓛 (raw (𝓣.C _ (vptr b o ∷ seq_cst ∷ []) (λ u. mean 𝓛 (found after u))))
    (via 𝓤 _ (looks_all 𝓛 R γs t d e b o gs i at.0 w) (loads 𝓛 𝓜 𝓡 (code.calls-core::raw_atomic::load 𝓡.env wired) (block_ptr b o) after)) $
    sets ! (agg ! (and_then ! (lit ! tt) (no_more !))) refl (tt, (record { fits = lit< tt }, tt)) $
    Calls-last ! (fm 𝓛 𝓜 𝓡) (found after) (and_then ! (get ! refl) (and_then ! (get ! refl) (no_more !))) (λ u. finds ! after (λ n fits.
    lands_last ! refl (tt, record { fits = fits }) $ exec ! 𝓣.C 𝓣.Λ Ev (tail (tail fn.body)) (at_ret Ev Post) $ sets ! (of_opd ! (get ! refl)) refl (tt, record { fits = fits }) $
    sets ! (agg ! (no_more !)) refl (tt, tt) $ sets ! (agg ! (and_then ! (get ! refl) (no_more !))) refl (tt, (tt, tt)) $
    sets ! (of_opd ! (get ! refl)) refl (tt, (tt, tt)) $ sets ! (agg ! (and_then ! (get ! refl) (and_then ! (get ! refl) (no_more !)))) refl (tt, (record { fits = fits }, ((tt, tt), tt))) $
    -- [the turn's token; what is shown; the stages; the way back; the others]
    fsplit3 ! $ move ! (2 ∷ []) $ fpick ! (λ stages. drop ! $ move ! (0 ∷ 2 ∷ []) $ use2 𝓛 (later (‵ (flft β q))) (apply∗ 𝓤 (A.lft α w) (H.⇛ (A.lft β q))) $ await ! tt $ move ! (0 ∷ 2 ∷ []) $ join ! $ move ! (1 ∷ []) $
    let sees : Hr.Denot = record { marker = record {}; of = gs; index = i; word = n } in let val : Val = vstruct (vcons (vint w64 n) (vcons token_val vnil)) in let Told : Type 0 = (gs ≡ gs) × (i ≡ i) × (n ≡ n) × ShowStages gs i n in
    use1 𝓛 (‵ (Hr.own_val sees (token_val ∷ []))) (sights_made 𝓛 R gs i n) $ nothing ! $ flt_i ! n (2 ^ 64) fits $ feq_i ! (List Val) (vint w64 n ∷ []) (vint w64 n ∷ []) refl $ fjoin ! $
    move ! (0 ∷ 2 ∷ 1 ∷ []) $ fjoin3 ! $ feq_i ! (List Val) (val ∷ []) (val ∷ []) refl $ fjoin ! $
    fpack ! (Valss (u64 ∷ Hr ∷ [])) (λ uss. fsep (feq (List Val) (val ∷ []) (vstruct (of_list (uss.0 ++ (uss.1.0 ++ []))) ∷ [])) (owns (u64 ∷ Hr ∷ []) (n, (sees, tt)) uss)) (vint w64 n ∷ [], (token_val ∷ [], tt)) $
    use0 𝓛 (raw (fact 𝓤 Told)) (fact_i 𝓤 Told (emp 𝓤) (refl, refl, refl, stages)) $ nothing ! $ nothing ! $ fjoin ! $
    returns ! (look_at ! 0 refl) $ free_all ! refl $ keep ! (3 ∷ 0 ∷ 2 ∷ 1 ∷ []) $ by ! (leaves 𝓛 En hs c y val (n, sees) (tt, tt) (tt, tt)))))))))))
