-- `numbered` copies what is known of the codes, which are the same for each seat.
use Rattle.atomic_table.proofs.Names.{◌≡◌, ℕ, [], ◌∷◌, refl, a_type, dcons, dnil, named, Val, vptr, inst_fn, SProp, emp, ftrue, ‵, raw, ◌⊛◌, ◌$◌, ◌∵◌, !, qed, by, keep, drop, split, join, fsplit, fsplit3, fjoin, fpick, fpack, use0, no_more, and_then, returns, enter, alloc_all, pass_all, free_all, look_at, get, sets, agg, tables, yes, RattleType, owns, types_at, plain, nothing, param, bounded, alive, Stays, stay_dropped, walk_of, Goes-dropped, fact, fact_i, Coded, RefOf, shr_vals, shr_Tells, unhide}
use Rattle.atomic_table.proofs.Walks.{proved, leaves}
use Rattle.atomic_table.proofs.Fields.{token_val}
use Rattle.tie_core.specs.Tie.{Tie, tie_numbered}
use Rattle.tie_core.specs.Desk.{HasCodes, IsTieOf}
use Rattle.atomic_table.specs.Seated.{TableId}
use Rattle.tie_core.specs.contracts.tag.Tag as tag
use Rattle.tie_core.proofs.DeskParts.{TagWords, tag_words, codes_numbered}
use Rattle.tie_core.specs.contracts.tag.Tag.numbered.{ended, clauses}
use Rattle.tie_core.specs.contracts.tag.Tag.numbered.Key.{name as #self}
use Rattle.tie_core.proofs.tag.Tag.numbered.Statement.{statement}
use Rattle.tie_core.proofs.tag.Tag.numbered.Code as code

pub numbered_spec : {M : Type 1} → statement M
numbered_spec 𝓤 𝓛 𝓜 𝓡 wired U P Bv _ _ _ g d g' d' _ _ =
    let H = 𝓛.H in let 𝓣 = tables 𝓤 H 𝓜 𝓡 𝓡.env in let W : RattleType = param 0 U in let Y : RattleType = param 1 P in let Zr : RattleType = param 2 Bv in let En = ended U P Bv g d g' d' in let c = clauses U P Bv g d g' d' 𝓛 𝓜.mem 𝓡.returns in
    let inst = bounded (a_type ∷ a_type ∷ a_type ∷ []) (U, (P, (Bv, tt))) (dcons d (dcons d' dnil)) in let fn = inst_fn inst code.function in
    let Tr : RattleType = tag.the_row W Y g in let self = RefOf (0 ∷ []) tt (plain (λ _. Tr)) (λ _. tt) in let number = RefOf (1 ∷ []) tt (plain (λ _. Zr)) (λ _. tt) in
    let hs : Stays En.signature.params En.kept = (stay_dropped self yes, (stay_dropped number yes, tt)) in
    proved 𝓛 En hs c 𝓜 𝓡 (Goes-dropped 𝓛 5 self yes (λ κs x f. refl), (Goes-dropped 𝓛 5 number yes (λ κs x f. refl), tt)) (#self inst) fn (code.unfolded 𝓤 H 𝓜 𝓡 wired (U, (P, (Bv, tt))) d d')
    (λ κs. (shr_vals, (shr_vals, tt))) (λ κs. (shr_Tells (named 0) κs.0 Tr, (shr_Tells (named 1) κs.1.0 Zr, tt))) (λ κs qs bounds a gh are.
    let p : Val = vptr a.0.ref_ptr.0 a.0.ref_ptr.1 in let t : Tie = a.0.now.tie in let p' : Val = vptr a.1.0.ref_ptr.0 a.1.0.ref_ptr.1 in let n : ℕ = g'.number a.1.0.now in let cv : Coded U.Denot = W.coded in let r : Tr.Denot = record { marker = record {}; tie = tie_numbered t n } in let E₁ : Type 0 = tie_numbered t n ≡ tie_numbered t n in let E₂ : Type 0 = (z : TableId) (floor : ℕ) → IsTieOf z floor t → IsTieOf z floor (tie_numbered t n) in
    let y : (walk_of 𝓛 En hs c).Ghost = ((κs, qs, bounds, a, (p ∷ [], (p' ∷ [], tt))), gh) in let Post : Val → SProp 𝓤 = (walk_of 𝓛 En hs c).post y in
    qed 𝓛 ((raw (alive 𝓛 En.signature κs qs) ⊛ ‵ (owns (types_at En.signature.params κs) a y.0.4)) ∷ raw ((c κs a).requires gh) ∷ []) ∵ split ! $ keep ! (1 ∷ 0 ∷ []) $
    fsplit3 ! $ fsplit ! $ keep ! (1 ∷ 4 ∷ []) $ unhide ! $ fsplit ! $ drop ! $ fpick ! (λ codes. drop ! $
    nothing ! $ fpack ! (HasCodes cv.code g.shows (tie_numbered t n)) (λ _. ftrue) (codes_numbered cv.code g.shows t n codes) $ use0 𝓛 (‵ ((TagWords W Y g).own_val (tt, tt) (token_val ∷ []))) (tag_words W Y g 𝓛) $ fjoin ! $
    enter ! 𝓣.C 𝓣.Λ fn (p ∷ p' ∷ []) Post $ alloc_all ! (λ l. pass_all ! refl ((tt, tt), ((tt, tt), tt)) $
    sets ! (agg ! (no_more !)) refl (tt, tt) $ sets ! (agg ! (and_then ! (get ! refl) (no_more !))) refl (tt, (tt, tt)) $
    use0 𝓛 (raw (fact 𝓤 E₂)) (fact_i 𝓤 E₂ (emp 𝓤) (λ z floor is. record { views = is.views; floor = is.floor; free = is.free })) $ use0 𝓛 (raw (fact 𝓤 E₁)) (fact_i 𝓤 E₁ (emp 𝓤) refl) $ join ! $ nothing ! $ nothing ! $ fjoin ! $ nothing ! $ fjoin ! $
    returns ! (look_at ! 0 refl) $ free_all ! refl $ keep ! (3 ∷ 0 ∷ 2 ∷ 1 ∷ []) $ by ! (leaves 𝓛 En hs c y token_val r (tt, (tt, tt)) (tt, (tt, tt))))))
