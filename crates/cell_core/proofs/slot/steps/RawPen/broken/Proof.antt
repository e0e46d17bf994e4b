-- A lost step found the cell broken.
use Rattle.std.proofs.Common.{◌≢◌, ◌<◌, ◌≡◌, [], ◌∷◌, refl}
use mir.Syntax.{a_type}
use mir.Val.{Val}
use mir.MapTy.{inst_fn}
use base.Logic.{SProp, emp, guard_i}
use base.Fml.{Lft}
use types.Logic.{sem}
use types.Kit.{‵, raw, ◌⊛◌, given, ◌$◌, ◌∵◌, !, qed, by, move, keep, use0, use1, split, fsplit, fjoin, fpick, learn}
use types.Run.{no_more, and_then, returns, enter}
use types.ByLocal.{alloc_all, pass_all, free_all, look_at, get, sets}
use types.Part.{agg}
use contract.Running.{tables}
use contract.Monad.{fact, fact_i, fact_use}
use denote.Exit.{no}
use denote.RattleType.{RattleType, owns}
use denote.Signature.{types_at, plain, named_lft}
use denote.RawPtr.{Ptr, InBlock}
use denote.Steps.{nothing, heard}
use denote.Param.{param, layouts}
use denote.Triple.Walked.{Stays, stay_dropped, walk_of, Goes-dropped}
use Rattle.atomic_table.proofs.Walks.{proved, leaves}
use denote.Triple.Entry.{alive}
use Rattle.cell_core.specs.Slot.{was_broken, Names, sights, pen_owned}
use Rattle.cell_core.specs.contracts.slot.steps.RawPen as RawPen
use Rattle.cell_core.specs.contracts.slot.steps.RawBroken as RawBroken
use Rattle.cell_core.proofs.CellMade.{sight_shows_broken, token_val, pointers_val, pointers_good, pen_told, pen_placed, pen_shows, broken_made}
use Rattle.cell_core.specs.contracts.slot.steps.RawPen.broken.{ended, clauses}
use Rattle.cell_core.specs.contracts.slot.steps.RawPen.broken.Key.{name as #self}
use Rattle.cell_core.proofs.slot.steps.RawPen.broken.Statement.{statement}
use Rattle.cell_core.proofs.slot.steps.RawPen.broken.Code as code

pub broken_spec : {M : Type 1} → statement M
broken_spec 𝓤 𝓛 𝓜 𝓡 wired T L =
    let H = 𝓛.H in let 𝓣 = tables 𝓤 H 𝓜 𝓡 𝓡.env in let R : RattleType = param 0 T in let En = ended T in let c = clauses T 𝓛 𝓜.mem 𝓡.returns in let S : RattleType = RawBroken.the_row in
    let inst = layouts (a_type ∷ []) (T, tt) in let fn = inst_fn inst code.function in
    let self = plain (λ κs. RawPen.the_row (named_lft 2 0 tt κs) R) in let hs : Stays En.signature.params En.kept = (stay_dropped self no, tt) in
    proved 𝓛 En hs c 𝓜 𝓡 (Goes-dropped 𝓛 2 self no (λ κs x f. refl), tt) (#self inst) fn (code.unfolded 𝓤 H 𝓜 𝓡 wired (T, tt))
    (λ κs. ((λ h. pointers_val h.word h.room ∷ []), tt)) (λ κs. ((λ h vs so. pen_told (named_lft 2 0 tt κs) R h.word h.room vs so.0), tt)) (λ κs qs bounds a gh are.
    let ℓ = named_lft 2 0 tt κs in let Hr : RattleType = RawPen.the_row ℓ R in let h : Hr.Denot = a.0 in let p : Ptr = h.word in let z : Ptr = h.room in let β : Lft = κs.0 in let γ : Names = h.of in let Asked : Type 0 = ((1 < h.found) × (h.found ≢ 3)) × (h.found ≢ h.sought) in
    let y : (walk_of 𝓛 En hs c).Ghost = ((κs, qs, bounds, a, (pointers_val p z ∷ [], tt)), gh) in let Post : Val → SProp 𝓤 = (walk_of 𝓛 En hs c).post y in
    qed 𝓛 ((raw (alive 𝓛 En.signature κs qs) ⊛ ‵ (owns (types_at En.signature.params κs) a y.0.4)) ∷ raw (fact 𝓤 _) ∷ raw (fact 𝓤 Asked) ∷ []) ∵
    keep ! (2 ∷ 0 ∷ []) $ heard ! Asked (λ asked. split ! $ move ! (1 ∷ []) $ fsplit ! $ fsplit ! $ keep ! (1 ∷ 3 ∷ []) $
    use1 𝓛 (given (InBlock p × InBlock z) (‵ (pen_owned R γ β p z h.index h.first h.sought h.found))) (fact_use 𝓤 _ (pen_placed 𝓛 R γ β p z h.index h.first h.sought h.found) (guard_i 𝓤 (InBlock p × InBlock z) (sem 𝓛 (pen_owned R γ β p z h.index h.first h.sought h.found)))) $ learn ! (λ inb.
    use1 𝓛 (‵ (sights R γ h.found)) (pen_shows 𝓛 R γ β p z h.index h.first h.sought h.found asked.1) $ fpick ! (λ v. use1 𝓛 (‵ (was_broken γ.broken_name)) (sight_shows_broken 𝓛 R γ h.found v asked.0) $
    let r : S.Denot = record { marker = record {}; of = γ.broken_name } in let Told : Type 0 = γ.broken_name ≡ γ.broken_name in use1 𝓛 (‵ (S.own_val r (token_val ∷ []))) (broken_made 𝓛 γ.broken_name) $
    enter ! 𝓣.C 𝓣.Λ fn (pointers_val p z ∷ []) Post $ alloc_all ! (λ l. pass_all ! refl (pointers_good p z, tt) $
    sets ! (agg ! (no_more !)) refl (tt, tt) $ sets ! (agg ! (and_then ! (get ! refl) (no_more !))) refl (tt, (tt, tt)) $
    use0 𝓛 (raw (fact 𝓤 Told)) (fact_i 𝓤 Told (emp 𝓤) refl) $ nothing ! $ nothing ! $ fjoin ! $
    returns ! (look_at ! 0 refl) $ free_all ! refl $ keep ! (3 ∷ 0 ∷ 2 ∷ 1 ∷ []) $ by ! (leaves 𝓛 En hs c y token_val r (tt, tt) (tt, tt)))))))
