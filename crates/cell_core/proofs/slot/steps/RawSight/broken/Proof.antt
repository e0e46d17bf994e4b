-- A load of more than 2 showed that the cell is broken.
use Rattle.std.proofs.Common.{◌≢◌, ◌<◌, ◌≡◌, [], ◌∷◌, refl}
use mir.Syntax.{a_type}
use mir.Val.{Val}
use mir.MapTy.{inst_fn}
use base.Logic.{SProp, emp}
use types.Kit.{‵, raw, ◌⊛◌, ◌$◌, ◌∵◌, !, qed, by, move, keep, use0, use1, split, fsplit, fjoin}
use types.Run.{no_more, and_then, returns, enter}
use types.ByLocal.{alloc_all, pass_all, free_all, look_at, get, sets}
use types.Part.{agg}
use contract.Running.{tables}
use contract.Monad.{fact, fact_i}
use denote.Exit.{no}
use denote.RattleType.{RattleType, owns}
use denote.Signature.{types_at, plain}
use denote.Steps.{nothing, heard}
use denote.Param.{param, layouts}
use denote.Triple.Walked.{Stays, stay_dropped, walk_of, Goes-dropped}
use Rattle.atomic_table.proofs.Walks.{proved, leaves}
use denote.Triple.Entry.{alive}
use Rattle.cell_core.specs.Slot.{was_broken, Names}
use Rattle.cell_core.specs.contracts.slot.steps.RawSight as RawSight
use Rattle.cell_core.specs.contracts.slot.steps.RawBroken as RawBroken
use Rattle.cell_core.proofs.CellMade.{sight_shows_broken, token_val, sight_told, broken_made}
use Rattle.cell_core.specs.contracts.slot.steps.RawSight.broken.{ended, clauses}
use Rattle.cell_core.specs.contracts.slot.steps.RawSight.broken.Key.{name as #self}
use Rattle.cell_core.proofs.slot.steps.RawSight.broken.Statement.{statement}
use Rattle.cell_core.proofs.slot.steps.RawSight.broken.Code as code

pub broken_spec : {M : Type 1} → statement M
broken_spec 𝓤 𝓛 𝓜 𝓡 wired T L =
    let H = 𝓛.H in let 𝓣 = tables 𝓤 H 𝓜 𝓡 𝓡.env in let R : RattleType = param 0 T in let En = ended T in let Si : RattleType = RawSight.the_row R in let S : RattleType = RawBroken.the_row in
    let inst = layouts (a_type ∷ []) (T, tt) in let fn = inst_fn inst code.function in let c = clauses T 𝓛 𝓜.mem 𝓡.returns in
    let self = plain (λ _. Si) in let hs : Stays En.signature.params En.kept = (stay_dropped self no, tt) in
    proved 𝓛 En hs c 𝓜 𝓡 (Goes-dropped 𝓛 1 self no (λ κs x f. refl), tt) (#self inst) fn (code.unfolded 𝓤 H 𝓜 𝓡 wired (T, tt))
    (λ κs. ((λ _. token_val ∷ []), tt)) (λ κs. ((λ x vs so. sight_told R vs so.0), tt)) (λ κs qs bounds a gh are.
    let h : Si.Denot = a.0 in let γ : Names = h.of in
    let y : (walk_of 𝓛 En hs c).Ghost = ((κs, qs, bounds, a, (token_val ∷ [], tt)), gh) in let Post : Val → SProp 𝓤 = (walk_of 𝓛 En hs c).post y in
    qed 𝓛 ((raw (alive 𝓛 En.signature κs qs) ⊛ ‵ (owns (types_at En.signature.params κs) a y.0.4)) ∷ raw (fact 𝓤 _) ∷ raw (fact 𝓤 ((1 < h.found) × (h.found ≢ 3))) ∷ []) ∵ keep ! (2 ∷ 0 ∷ []) $ heard ! ((1 < h.found) × (h.found ≢ 3)) (λ asked.
    split ! $ move ! (1 ∷ []) $ fsplit ! $ fsplit ! $ keep ! (1 ∷ 3 ∷ []) $ use1 𝓛 (‵ (was_broken γ.broken_name)) (sight_shows_broken 𝓛 R γ h.found h.value asked) $
    let r : S.Denot = record { marker = record {}; of = γ.broken_name } in let Told : Type 0 = γ.broken_name ≡ γ.broken_name in use1 𝓛 (‵ (S.own_val r (token_val ∷ []))) (broken_made 𝓛 γ.broken_name) $
    enter ! 𝓣.C 𝓣.Λ fn (token_val ∷ []) Post $ alloc_all ! (λ l. pass_all ! refl ((tt, (tt, tt)), tt) $
    sets ! (agg ! (no_more !)) refl (tt, tt) $ sets ! (agg ! (and_then ! (get ! refl) (no_more !))) refl (tt, (tt, tt)) $
    use0 𝓛 (raw (fact 𝓤 Told)) (fact_i 𝓤 Told (emp 𝓤) refl) $ nothing ! $ nothing ! $ fjoin ! $
    returns ! (look_at ! 0 refl) $ free_all ! refl $ keep ! (3 ∷ 0 ∷ 2 ∷ 1 ∷ []) $ by ! (leaves 𝓛 En hs c y token_val r (tt, tt) (tt, tt)))))
