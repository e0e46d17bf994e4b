-- A lost step that found neither a value nor a break leaves a token of no bytes.
use Rattle.std.proofs.Common.{◌≡◌, [], ◌∷◌, refl}
use mir.Syntax.{a_type}
use mir.Val.{Val, vstruct, vnil}
use mir.MapTy.{inst_fn}
use base.Logic.{SProp, emp}
use base.Fml.{Fml}
use types.Kit.{‵, raw, ◌⊛◌, ◌$◌, ◌∵◌, !, qed, by, keep, use0, split, fjoin}
use types.Run.{no_more, and_then, returns, enter}
use types.ByLocal.{alloc_all, pass_all, free_all, look_at, get, sets}
use types.Part.{agg}
use contract.Running.{tables}
use contract.Monad.{fact, fact_i}
use denote.Exit.{no}
use denote.RattleType.{RattleType, owns}
use denote.Signature.{types_at, plain, named_lft}
use denote.RawPtr.{Ptr}
use denote.Steps.{nothing}
use denote.Param.{param, layouts}
use denote.Shadow.{makes_shadow}
use denote.Triple.Walked.{Stays, stay_dropped, walk_of, Goes-dropped}
use Rattle.atomic_table.proofs.Walks.{proved, leaves}
use denote.Triple.Entry.{alive}
use Rattle.cell_core.specs.Slot.{Names}
use Rattle.cell_core.specs.contracts.slot.steps.RawPen as RawPen
use Rattle.cell_core.specs.contracts.slot.steps.RawBegun as RawBegun
use Rattle.cell_core.proofs.CellMade.{token_val, pointers_val, pointers_good, pen_told}
use Rattle.cell_core.specs.contracts.slot.steps.RawPen.begun.{ended, clauses}
use Rattle.cell_core.specs.contracts.slot.steps.RawPen.begun.Key.{name as #self}
use Rattle.cell_core.proofs.slot.steps.RawPen.begun.Statement.{statement}
use Rattle.cell_core.proofs.slot.steps.RawPen.begun.Code as code

pub begun_spec : {M : Type 1} → statement M
begun_spec 𝓤 𝓛 𝓜 𝓡 wired T L =
    let H = 𝓛.H in let 𝓣 = tables 𝓤 H 𝓜 𝓡 𝓡.env in let R : RattleType = param 0 T in let En = ended T in let c = clauses T 𝓛 𝓜.mem 𝓡.returns in let S : RattleType = RawBegun.the_row in
    let inst = layouts (a_type ∷ []) (T, tt) in let fn = inst_fn inst code.function in
    let self = plain (λ κs. RawPen.the_row (named_lft 2 0 tt κs) R) in let hs : Stays En.signature.params En.kept = (stay_dropped self no, tt) in
    proved 𝓛 En hs c 𝓜 𝓡 (Goes-dropped 𝓛 2 self no (λ κs x f. refl), tt) (#self inst) fn (code.unfolded 𝓤 H 𝓜 𝓡 wired (T, tt))
    (λ κs. ((λ h. pointers_val h.word h.room ∷ []), tt)) (λ κs. ((λ h vs so. pen_told (named_lft 2 0 tt κs) R h.word h.room vs so.0), tt)) (λ κs qs bounds a gh are.
    let ℓ = named_lft 2 0 tt κs in let Hr : RattleType = RawPen.the_row ℓ R in let h : Hr.Denot = a.0 in let p : Ptr = h.word in let z : Ptr = h.room in let γ : Names = h.of in
    let r : S.Denot = record { marker = record {}; of = γ } in let F : Fml = S.own_val r (token_val ∷ []) in
    let y : (walk_of 𝓛 En hs c).Ghost = ((κs, qs, bounds, a, (pointers_val p z ∷ [], tt)), gh) in let Post : Val → SProp 𝓤 = (walk_of 𝓛 En hs c).post y in
    qed 𝓛 ((raw (alive 𝓛 En.signature κs qs) ⊛ ‵ (owns (types_at En.signature.params κs) a y.0.4)) ∷ raw (fact 𝓤 _) ∷ raw (fact 𝓤 _) ∷ []) ∵ split ! $ keep ! (0 ∷ []) $
    enter ! 𝓣.C 𝓣.Λ fn (pointers_val p z ∷ []) Post $ alloc_all ! (λ l. pass_all ! refl (pointers_good p z, tt) $
    sets ! (agg ! (no_more !)) refl (tt, tt) $ sets ! (agg ! (and_then ! (get ! refl) (no_more !))) refl (tt, (tt, tt)) $
    use0 𝓛 (raw (fact 𝓤 (γ ≡ γ))) (fact_i 𝓤 (γ ≡ γ) (emp 𝓤) refl) $
    use0 𝓛 (‵ F) (makes_shadow 𝓛 F ((λ vss. (tt, ((λ uss. (tt, tt)), tt))), tt) (((vstruct vnil ∷ [], tt), (refl, ((tt, (refl, tt)), tt))), tt)) $ nothing ! $ nothing ! $ fjoin ! $
    returns ! (look_at ! 0 refl) $ free_all ! refl $ keep ! (3 ∷ 0 ∷ 1 ∷ 2 ∷ []) $ by ! (leaves 𝓛 En hs c y token_val r (tt, tt) (tt, tt))))
