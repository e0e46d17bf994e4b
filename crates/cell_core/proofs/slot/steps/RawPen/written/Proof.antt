-- A lost step found a value.
use Rattle.std.proofs.Common.{◌≢◌, ◌≡◌, ℕ, [], ◌∷◌, refl}
use mir.Syntax.{a_type}
use mir.Val.{Val}
use mir.MapTy.{inst_fn}
use base.Logic.{SProp, emp, guard_i}
use base.Fml.{Lft, fex}
use types.Logic.{sem}
use types.Kit.{‵, raw, ◌⊛◌, given, ◌$◌, ◌∵◌, !, qed, by, move, keep, use0, use1, split, fsplit, fjoin, fpick, learn, rewrite}
use types.Run.{no_more, and_then, returns, enter}
use types.ByLocal.{alloc_all, pass_all, free_all, look_at, get, sets}
use types.Part.{agg}
use contract.Running.{tables}
use contract.Monad.{fact, fact_i, fact_use}
use denote.Exit.{no}
use denote.RattleType.{RattleType, owns}
use denote.Signature.{types_at, plain, named_lft}
use denote.RawPtr.{Ptr, InBlock}
use denote.Steps.{nothing, heard}
use denote.Param.{param, layouts}
use denote.Triple.Walked.{Stays, stay_dropped, walk_of, Goes-dropped}
use Rattle.atomic_table.proofs.Walks.{proved, leaves}
use denote.Triple.Entry.{alive}
use Rattle.cell_core.specs.Slot.{Names, written, sights, sighted, pen_owned}
use Rattle.cell_core.specs.contracts.slot.steps.RawPen as RawPen
use Rattle.cell_core.specs.contracts.slot.steps.Written as Written
use Rattle.cell_core.proofs.CellMade.{token_val, pointers_val, pointers_good, pen_told, pen_placed, pen_shows, known_some, written_made}
use Rattle.cell_core.specs.contracts.slot.steps.RawPen.written.{ended, clauses}
use Rattle.cell_core.specs.contracts.slot.steps.RawPen.written.Key.{name as #self}
use Rattle.cell_core.proofs.slot.steps.RawPen.written.Statement.{statement}
use Rattle.cell_core.proofs.slot.steps.RawPen.written.Code as code

pub written_spec : {M : Type 1} → statement M
written_spec 𝓤 𝓛 𝓜 𝓡 wired T L =
    let H = 𝓛.H in let 𝓣 = tables 𝓤 H 𝓜 𝓡 𝓡.env in let R : RattleType = param 0 T in let En = ended T in let c = clauses T 𝓛 𝓜.mem 𝓡.returns in let S : RattleType = Written.the_row R in
    let inst = layouts (a_type ∷ []) (T, tt) in let fn = inst_fn inst code.function in
    let self = plain (λ κs. RawPen.the_row (named_lft 2 0 tt κs) R) in let hs : Stays En.signature.params En.kept = (stay_dropped self no, tt) in
    proved 𝓛 En hs c 𝓜 𝓡 (Goes-dropped 𝓛 2 self no (λ κs x f. refl), tt) (#self inst) fn (code.unfolded 𝓤 H 𝓜 𝓡 wired (T, tt))
    (λ κs. ((λ h. pointers_val h.word h.room ∷ []), tt)) (λ κs. ((λ h vs so. pen_told (named_lft 2 0 tt κs) R h.word h.room vs so.0), tt)) (λ κs qs bounds a gh are.
    let ℓ = named_lft 2 0 tt κs in let Hr : RattleType = RawPen.the_row ℓ R in let h : Hr.Denot = a.0 in let p : Ptr = h.word in let z : Ptr = h.room in let β : Lft = κs.0 in let γ : Names = h.of in let Asked : Type 0 = (h.found ≡ 3) × (h.found ≢ h.sought) in
    let y : (walk_of 𝓛 En hs c).Ghost = ((κs, qs, bounds, a, (pointers_val p z ∷ [], tt)), gh) in let Post : Val → SProp 𝓤 = (walk_of 𝓛 En hs c).post y in
    qed 𝓛 ((raw (alive 𝓛 En.signature κs qs) ⊛ ‵ (owns (types_at En.signature.params κs) a y.0.4)) ∷ raw (fact 𝓤 _) ∷ raw (fact 𝓤 Asked) ∷ []) ∵
    keep ! (2 ∷ 0 ∷ []) $ heard ! Asked (λ asked. split ! $ move ! (1 ∷ []) $ fsplit ! $ fsplit ! $ keep ! (1 ∷ 3 ∷ []) $
    use1 𝓛 (given (InBlock p × InBlock z) (‵ (pen_owned R γ β p z h.index h.first h.sought h.found))) (fact_use 𝓤 _ (pen_placed 𝓛 R γ β p z h.index h.first h.sought h.found) (guard_i 𝓤 (InBlock p × InBlock z) (sem 𝓛 (pen_owned R γ β p z h.index h.first h.sought h.found)))) $ learn ! (λ inb.
    use1 𝓛 (‵ (sights R γ h.found)) (pen_shows 𝓛 R γ β p z h.index h.first h.sought h.found asked.1) $ fpick ! (λ v. rewrite ! 0 (λ (k : ℕ). ‵ (sighted R γ k v)) asked.0 refl $ use1 𝓛 (‵ (fex R.Denot (written R γ.value_name))) (known_some 𝓛 R γ v) $ fpick ! (λ x.
    let r : S.Denot = record { marker = record {}; of = γ.value_name; value = x; found = 0 } in let Told : Type 0 = γ.value_name ≡ γ.value_name in use1 𝓛 (‵ (S.own_val r (token_val ∷ []))) (written_made 𝓛 R γ.value_name x 0) $
    enter ! 𝓣.C 𝓣.Λ fn (pointers_val p z ∷ []) Post $ alloc_all ! (λ l. pass_all ! refl (pointers_good p z, tt) $
    sets ! (agg ! (no_more !)) refl (tt, tt) $ sets ! (agg ! (and_then ! (get ! refl) (no_more !))) refl (tt, (tt, tt)) $
    use0 𝓛 (raw (fact 𝓤 Told)) (fact_i 𝓤 Told (emp 𝓤) refl) $ nothing ! $ nothing ! $ fjoin ! $
    returns ! (look_at ! 0 refl) $ free_all ! refl $ keep ! (3 ∷ 0 ∷ 2 ∷ 1 ∷ []) $ by ! (leaves 𝓛 En hs c y token_val r (tt, tt) (tt, tt))))))))
