-- `joined` knows the cells of both rows.
use Rattle.std.proofs.Common.{◌≡◌, List, [], ◌∷◌, ◌++◌, refl}
use mir.Syntax.{a_type}
use mir.Val.{Val}
use mir.MapTy.{inst_fn}
use base.Logic.{SProp, emp}
use types.Kit.{‵, raw, ◌⊛◌, ◌$◌, ◌∵◌, !, qed, by, move, keep, use0, use1, use2, split, fsplit, fsplit3, fjoin}
use types.Run.{no_more, and_then, returns, enter}
use types.ByLocal.{alloc_all, pass_all, free_all, look_at, get, sets}
use types.Part.{agg}
use contract.Running.{tables}
use contract.Monad.{fact, fact_i}
use denote.Exit.{no}
use denote.RattleType.{RattleType, owns}
use denote.Signature.{types_at, plain}
use denote.Steps.{nothing}
use denote.Param.{param, layouts}
use denote.Triple.Walked.{Stays, stay_dropped, walk_of, Goes-dropped}
use Rattle.atomic_table.proofs.Walks.{proved, leaves}
use denote.Triple.Entry.{alive}
use Rattle.cell_core.specs.Member.{MemberView, members}
use Rattle.cell_core.specs.contracts.slot.member.RawRow as RawRow
use Rattle.cell_core.proofs.CellMade.{token_val}
use Rattle.cell_core.proofs.MemberParts.{members_join, row_made, row_told}
use Rattle.cell_core.specs.contracts.slot.member.RawRow.joined.{ended, clauses}
use Rattle.cell_core.specs.contracts.slot.member.RawRow.joined.Key.{name as #self}
use Rattle.cell_core.proofs.slot.member.RawRow.joined.Statement.{statement}
use Rattle.cell_core.proofs.slot.member.RawRow.joined.Code as code

pub joined_spec : {M : Type 1} → statement M
joined_spec 𝓤 𝓛 𝓜 𝓡 wired T L =
    let H = 𝓛.H in let 𝓣 = tables 𝓤 H 𝓜 𝓡 𝓡.env in let R : RattleType = param 0 T in let En = ended T in let S : RattleType = RawRow.the_row R in
    let inst = layouts (a_type ∷ []) (T, tt) in let fn = inst_fn inst code.function in let c = clauses T 𝓛 𝓜.mem 𝓡.returns in
    let row = plain (λ _. S) in let hs : Stays En.signature.params En.kept = (stay_dropped row no, (stay_dropped row no, tt)) in
    proved 𝓛 En hs c 𝓜 𝓡 (Goes-dropped 𝓛 1 row no (λ κs x f. refl), (Goes-dropped 𝓛 1 row no (λ κs x f. refl), tt)) (#self inst) fn (code.unfolded 𝓤 H 𝓜 𝓡 wired (T, tt))
    (λ κs. ((λ _. token_val ∷ []), ((λ _. token_val ∷ []), tt))) (λ κs. ((λ x vs so. row_told R vs so.0), ((λ x vs so. row_told R vs so.0), tt))) (λ κs qs bounds a gh are.
    let ms : List (MemberView T.Denot) = a.0.of in let ns : List (MemberView T.Denot) = a.1.0.of in let all : List (MemberView T.Denot) = ms ++ ns in
    let r : S.Denot = record { marker = record {}; of = all } in let Told : Type 0 = all ≡ all in
    let y : (walk_of 𝓛 En hs c).Ghost = ((κs, qs, bounds, a, (token_val ∷ [], (token_val ∷ [], tt))), gh) in let Post : Val → SProp 𝓤 = (walk_of 𝓛 En hs c).post y in
    qed 𝓛 ((raw (alive 𝓛 En.signature κs qs) ⊛ ‵ (owns (types_at En.signature.params κs) a y.0.4)) ∷ raw ((c κs a).requires gh) ∷ []) ∵ split ! $ keep ! (1 ∷ 0 ∷ []) $
    fsplit3 ! $ fsplit ! $ move ! (2 ∷ []) $ fsplit ! $
    -- [the other row, and what is known; this row, and what is known; nothing; the tokens]
    keep ! (3 ∷ 1 ∷ 5 ∷ []) $
    use2 𝓛 (‵ (members R all)) (members_join 𝓛 R ms ns) $ use1 𝓛 (‵ (S.own_val r (token_val ∷ []))) (row_made 𝓛 R all) $
    enter ! 𝓣.C 𝓣.Λ fn (token_val ∷ token_val ∷ []) Post $ alloc_all ! (λ l. pass_all ! refl ((tt, (tt, tt)), ((tt, (tt, tt)), tt)) $
    sets ! (agg ! (no_more !)) refl (tt, tt) $ sets ! (agg ! (and_then ! (get ! refl) (no_more !))) refl (tt, (tt, tt)) $
    use0 𝓛 (raw (fact 𝓤 Told)) (fact_i 𝓤 Told (emp 𝓤) refl) $ nothing ! $ nothing ! $ fjoin ! $ nothing ! $ fjoin ! $
    returns ! (look_at ! 0 refl) $ free_all ! refl $ keep ! (3 ∷ 0 ∷ 2 ∷ 1 ∷ []) $ by ! (leaves 𝓛 En hs c y token_val r (tt, (tt, tt)) (tt, (tt, tt)))))
