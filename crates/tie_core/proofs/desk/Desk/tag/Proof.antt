-- `tag` makes a tag of the codes of the views, which are known without the table.
use Rattle.atomic_table.proofs.Names.{[], ◌∷◌, refl, a_type, dcons, dnil, named, Val, vptr, inst_fn, SProp, emp, ftrue, ‵, raw, ◌⊛◌, ◌$◌, ◌∵◌, !, qed, by, keep, split, fjoin, fpack, use0, no_more, and_then, returns, enter, alloc_all, pass_all, free_all, look_at, get, sets, agg, tables, yes, RattleType, owns, types_at, plain, nothing, param, bounded, alive, Stays, stay_dropped, walk_of, Goes-dropped, fact, fact_i, Coded, RefOf, shr_vals, shr_Tells}
use Rattle.atomic_table.proofs.Walks.{proved, leaves}
use Rattle.atomic_table.proofs.Fields.{token_val}
use Rattle.tie_core.specs.Tie.{Tie}
use Rattle.tie_core.specs.Desk.{HasCodes, IsTieOf, tie_at}
use Rattle.tie_core.specs.contracts.desk.Desk as desk
use Rattle.tie_core.specs.contracts.tag.Tag as tag
use Rattle.tie_core.proofs.SeatSteps.{codes_at}
use Rattle.tie_core.proofs.DeskParts.{TagWords, tag_words}
use Rattle.tie_core.specs.contracts.desk.Desk.tag.{ended, clauses}
use Rattle.tie_core.specs.contracts.desk.Desk.tag.Key.{name as #self}
use Rattle.tie_core.proofs.desk.Desk.tag.Statement.{statement}
use Rattle.tie_core.proofs.desk.Desk.tag.Code as code

pub tag_spec : {M : Type 1} → statement M
tag_spec 𝓤 𝓛 𝓜 𝓡 wired T U Q P _ _ _ _ g d g₂ d₂ _ _ =
    let H = 𝓛.H in let 𝓣 = tables 𝓤 H 𝓜 𝓡 𝓡.env in let R : RattleType = param 0 T in let W : RattleType = param 1 U in let X : RattleType = param 2 Q in let Y : RattleType = param 3 P in let En = ended T U Q P g d g₂ d₂ in let c = clauses T U Q P g d g₂ d₂ 𝓛 𝓜.mem 𝓡.returns in
    let inst = bounded (a_type ∷ a_type ∷ a_type ∷ a_type ∷ []) (T, (U, (Q, (P, tt)))) (dcons d (dcons d₂ dnil)) in let fn = inst_fn inst code.function in
    let Dr : RattleType = desk.the_row R W X Y g in let Tr : RattleType = tag.the_row W Y g₂ in let self = RefOf (0 ∷ []) tt (plain (λ _. Dr)) (λ _. tt) in
    let hs : Stays En.signature.params En.kept = (stay_dropped self yes, tt) in
    proved 𝓛 En hs c 𝓜 𝓡 (Goes-dropped 𝓛 5 self yes (λ κs x f. refl), tt) (#self inst) fn (code.unfolded 𝓤 H 𝓜 𝓡 wired (T, (U, (Q, (P, tt)))) d d₂)
    (λ κs. (shr_vals, tt)) (λ κs. (shr_Tells (named 0) κs.0 Dr, tt)) (λ κs qs bounds a gh are.
    let p : Val = vptr a.0.ref_ptr.0 a.0.ref_ptr.1 in let D : Dr.Denot = a.0.now in let cv : Coded U.Denot = W.coded in let t : Tie = tie_at cv.code g₂.shows D.table_id D.floor 0 in let r : Tr.Denot = record { marker = record {}; tie = t } in
    let y : (walk_of 𝓛 En hs c).Ghost = ((κs, qs, bounds, a, (p ∷ [], tt)), gh) in let Post : Val → SProp 𝓤 = (walk_of 𝓛 En hs c).post y in let Told : Type 0 = IsTieOf D.table_id D.floor t in
    qed 𝓛 ((raw (alive 𝓛 En.signature κs qs) ⊛ ‵ (owns (types_at En.signature.params κs) a y.0.4)) ∷ raw ((c κs a).requires gh) ∷ []) ∵ split ! $ keep ! (0 ∷ []) $
    nothing ! $ fpack ! (HasCodes cv.code g₂.shows t) (λ _. ftrue) (codes_at cv.code g₂.shows D.table_id D.floor 0) $ use0 𝓛 (‵ ((TagWords W Y g₂).own_val (tt, tt) (token_val ∷ []))) (tag_words W Y g₂ 𝓛) $ fjoin ! $
    enter ! 𝓣.C 𝓣.Λ fn (p ∷ []) Post $ alloc_all ! (λ l. pass_all ! refl ((tt, tt), tt) $
    sets ! (agg ! (no_more !)) refl (tt, tt) $ sets ! (agg ! (and_then ! (get ! refl) (no_more !))) refl (tt, (tt, tt)) $
    use0 𝓛 (raw (fact 𝓤 Told)) (fact_i 𝓤 Told (emp 𝓤) (record { views = refl; floor = refl; free = refl })) $ nothing ! $ nothing ! $ fjoin ! $
    returns ! (look_at ! 0 refl) $ free_all ! refl $ keep ! (3 ∷ 0 ∷ 2 ∷ 1 ∷ []) $ by ! (leaves 𝓛 En hs c y token_val r (tt, tt) (tt, tt))))
