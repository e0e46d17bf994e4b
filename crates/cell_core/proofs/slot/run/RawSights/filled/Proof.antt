-- A load showed the values of filled cells.
use Rattle.std.proofs.Common.{◌≡◌, ◌≤◌, ℕ, List, [], ◌∷◌, length, refl, w64}
use mir.Syntax.{a_type}
use mir.Val.{Val, vint}
use mir.MapTy.{inst_fn}
use base.Logic.{SProp, emp}
use base.Fml.{fex}
use types.Kit.{‵, raw, ◌⊛◌, ◌$◌, ◌∵◌, !, qed, by, move, keep, drop, use0, use1, split, fsplit, fjoin, fpick}
use types.Run.{no_more, and_then, returns, enter}
use types.ByLocal.{alloc_all, pass_all, free_all, look_at, get, sets}
use types.Part.{agg}
use contract.Running.{tables}
use contract.Monad.{fact, fact_i}
use denote.Exit.{yes, no}
use denote.RattleType.{RattleType, owns}
use denote.Signature.{types_at, plain}
use denote.Steps.{nothing, heard}
use denote.Param.{param, layouts}
use denote.Builtin.{u64}
use denote.Plain.{uint_vals, uint_Tells}
use denote.Triple.Walked.{Stays, stay_dropped, walk_of, Goes-dropped}
use Rattle.atomic_table.proofs.Walks.{proved, leaves}
use denote.Triple.Entry.{alive}
use Rattle.cell_core.specs.Slot.{Names}
use Rattle.cell_core.specs.Member.{MemberView}
use Rattle.cell_core.specs.Run.{AreFilledIn, members_of}
use Rattle.cell_core.specs.contracts.slot.run.RawSights as RawSights
use Rattle.cell_core.specs.contracts.slot.member.RawRow as RawRow
use Rattle.cell_core.proofs.CellMade.{token_val}
use Rattle.cell_core.proofs.MemberParts.{row_made}
use Rattle.cell_core.proofs.SightParts.{Valued, sights_told, shows_values}
use Rattle.cell_core.specs.contracts.slot.run.RawSights.filled.{ended, clauses}
use Rattle.cell_core.specs.contracts.slot.run.RawSights.filled.Key.{name as #self}
use Rattle.cell_core.proofs.slot.run.RawSights.filled.Statement.{statement}
use Rattle.cell_core.proofs.slot.run.RawSights.filled.Code as code

pub filled_spec : {M : Type 1} → statement M
filled_spec 𝓤 𝓛 𝓜 𝓡 wired T L =
    let H = 𝓛.H in let 𝓣 = tables 𝓤 H 𝓜 𝓡 𝓡.env in let R : RattleType = param 0 T in let En = ended T in let Si : RattleType = RawSights.the_row R in let S : RattleType = RawRow.the_row R in
    let inst = layouts (a_type ∷ []) (T, tt) in let fn = inst_fn inst code.function in let c = clauses T 𝓛 𝓜.mem 𝓡.returns in
    let self = plain (λ _. Si) in let count = plain (λ _. u64) in let hs : Stays En.signature.params En.kept = (stay_dropped self no, (stay_dropped count yes, tt)) in
    proved 𝓛 En hs c 𝓜 𝓡 (Goes-dropped 𝓛 1 self no (λ κs x f. refl), (Goes-dropped 𝓛 1 count yes (λ κs x f. refl), tt)) (#self inst) fn (code.unfolded 𝓤 H 𝓜 𝓡 wired (T, tt))
    (λ κs. ((λ _. token_val ∷ []), (uint_vals w64, tt))) (λ κs. ((λ x vs so. sights_told R vs so.0), (uint_Tells w64, tt))) (λ κs qs bounds a gh are.
    let h : Si.Denot = a.0 in let γs : List Names = h.of in let n : ℕ = a.1.0 in let Asked : Type 0 = (n ≤ length γs) × AreFilledIn h.word h.index n in
    let y : (walk_of 𝓛 En hs c).Ghost = ((κs, qs, bounds, a, (token_val ∷ [], (vint w64 n ∷ [], tt))), gh) in let Post : Val → SProp 𝓤 = (walk_of 𝓛 En hs c).post y in
    qed 𝓛 ((raw (alive 𝓛 En.signature κs qs) ⊛ ‵ (owns (types_at En.signature.params κs) a y.0.4)) ∷ raw (fact 𝓤 _) ∷ raw (fact 𝓤 Asked) ∷ []) ∵ keep ! (2 ∷ 0 ∷ []) $ heard ! Asked (λ asked.
    split ! $ move ! (1 ∷ []) $ fsplit ! $ fsplit ! $ keep ! (1 ∷ 3 ∷ []) $ use1 𝓛 (‵ (fex (List R.Denot) (Valued 𝓛 R γs n))) (shows_values 𝓛 R γs h.index h.word n asked.0 asked.1) $ fpick ! (λ xs. fsplit ! $ fpick ! (λ long. drop ! $
    let ms : List (MemberView T.Denot) = members_of γs xs in let r : S.Denot = record { marker = record {}; of = ms } in
    let Told : Type 0 = (us : List T.Denot) × (length us ≡ n) × (ms ≡ members_of γs us) in use1 𝓛 (‵ (S.own_val r (token_val ∷ []))) (row_made 𝓛 R ms) $
    enter ! 𝓣.C 𝓣.Λ fn (token_val ∷ vint w64 n ∷ []) Post $ alloc_all ! (λ l. pass_all ! refl ((tt, (tt, tt)), ((tt, record { fits = are.1.0.1 }), tt)) $
    sets ! (agg ! (no_more !)) refl (tt, tt) $ sets ! (agg ! (and_then ! (get ! refl) (no_more !))) refl (tt, (tt, tt)) $
    use0 𝓛 (raw (fact 𝓤 Told)) (fact_i 𝓤 Told (emp 𝓤) (xs, long, refl)) $ nothing ! $ nothing ! $ fjoin ! $ nothing ! $ fjoin ! $
    returns ! (look_at ! 0 refl) $ free_all ! refl $ keep ! (3 ∷ 0 ∷ 2 ∷ 1 ∷ []) $ by ! (leaves 𝓛 En hs c y token_val r (tt, (tt, tt)) (tt, (tt, tt))))))))
