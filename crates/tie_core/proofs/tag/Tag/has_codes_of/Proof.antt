-- Both tags know that their codes are those of the same views.
use Rattle.atomic_table.proofs.Names.{List, [], ◌∷◌, refl, a_type, dcons, dnil, named, Val, vunit, vptr, inst_fn, SProp, emp, ‵, raw, ◌⊛◌, ◌$◌, ◌∵◌, !, qed, by, move, keep, drop, split, fsplit, fsplit3, fjoin, fpick, use0, feq_i, unit_lit, of_opd, returns, enter, alloc_all, pass_all, free_all, look_at, sets, tables, yes, RattleType, owns, types_at, plain, nothing, param, bounded, alive, Stays, stay_dropped, walk_of, Goes-dropped, fact, fact_i, Coded, RefOf, shr_vals, shr_Tells, unhide}
use Rattle.atomic_table.proofs.Walks.{proved, leaves}
use Rattle.tie_core.specs.Tie.{Tie}
use Rattle.tie_core.specs.Desk.{AreAlike}
use Rattle.tie_core.specs.contracts.tag.Tag as tag
use Rattle.tie_core.proofs.TagParts.{alike}
use Rattle.tie_core.specs.contracts.tag.Tag.has_codes_of.{ended, clauses}
use Rattle.tie_core.specs.contracts.tag.Tag.has_codes_of.Key.{name as #self}
use Rattle.tie_core.proofs.tag.Tag.has_codes_of.Statement.{statement}
use Rattle.tie_core.proofs.tag.Tag.has_codes_of.Code as code

pub has_codes_of_spec : {M : Type 1} → statement M
has_codes_of_spec 𝓤 𝓛 𝓜 𝓡 wired U P _ _ g d _ =
    let H = 𝓛.H in let 𝓣 = tables 𝓤 H 𝓜 𝓡 𝓡.env in let W : RattleType = param 0 U in let Y : RattleType = param 1 P in let En = ended U P g d in let c = clauses U P g d 𝓛 𝓜.mem 𝓡.returns in
    let inst = bounded (a_type ∷ a_type ∷ []) (U, (P, tt)) (dcons d dnil) in let fn = inst_fn inst code.function in
    let Tr : RattleType = tag.the_row W Y g in let self = RefOf (0 ∷ []) tt (plain (λ _. Tr)) (λ _. tt) in let other = RefOf (1 ∷ []) tt (plain (λ _. Tr)) (λ _. tt) in
    let hs : Stays En.signature.params En.kept = (stay_dropped self yes, (stay_dropped other yes, tt)) in
    proved 𝓛 En hs c 𝓜 𝓡 (Goes-dropped 𝓛 4 self yes (λ κs x f. refl), (Goes-dropped 𝓛 4 other yes (λ κs x f. refl), tt)) (#self inst) fn (code.unfolded 𝓤 H 𝓜 𝓡 wired (U, (P, tt)) d)
    (λ κs. (shr_vals, (shr_vals, tt))) (λ κs. (shr_Tells (named 0) κs.0 Tr, (shr_Tells (named 1) κs.1.0 Tr, tt))) (λ κs qs bounds a gh are.
    let p : Val = vptr a.0.ref_ptr.0 a.0.ref_ptr.1 in let p' : Val = vptr a.1.0.ref_ptr.0 a.1.0.ref_ptr.1 in let t : Tie = a.0.now.tie in let t' : Tie = a.1.0.now.tie in let cv : Coded U.Denot = W.coded in let Told : Type 0 = AreAlike t t' in
    let y : (walk_of 𝓛 En hs c).Ghost = ((κs, qs, bounds, a, (p ∷ [], (p' ∷ [], tt))), gh) in let Post : Val → SProp 𝓤 = (walk_of 𝓛 En hs c).post y in
    qed 𝓛 ((raw (alive 𝓛 En.signature κs qs) ⊛ ‵ (owns (types_at En.signature.params κs) a y.0.4)) ∷ raw ((c κs a).requires gh) ∷ []) ∵ split ! $ keep ! (1 ∷ 0 ∷ []) $
    fsplit3 ! $ fsplit ! $ move ! (2 ∷ []) $ fsplit ! $ keep ! (1 ∷ 3 ∷ 5 ∷ []) $
    -- [the other tag; this one; the tokens]
    unhide ! $ fsplit ! $ drop ! $ fpick ! (λ theirs. drop ! $ unhide ! $ fsplit ! $ drop ! $ fpick ! (λ ours. drop ! $
    enter ! 𝓣.C 𝓣.Λ fn (p ∷ p' ∷ []) Post $ alloc_all ! (λ l. pass_all ! refl ((tt, tt), ((tt, tt), tt)) $ use0 𝓛 (raw (fact 𝓤 Told)) (fact_i 𝓤 Told (emp 𝓤) (alike cv.code g.shows t t' ours theirs)) $
    sets ! (of_opd ! (unit_lit !)) refl (tt, tt) $ feq_i ! (List Val) (vunit ∷ []) (vunit ∷ []) refl $ nothing ! $ nothing ! $ fjoin ! $ nothing ! $ fjoin ! $
    returns ! (look_at ! 0 refl) $ free_all ! refl $ keep ! (3 ∷ 0 ∷ 1 ∷ 2 ∷ []) $ by ! (leaves 𝓛 En hs c y vunit tt (tt, (tt, tt)) (tt, (tt, tt)))))))
