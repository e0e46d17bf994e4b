-- `further` copies what is known of the codes, which are the same for each seat.
use Rattle.atomic_table.proofs.Names.{◌≡◌, ℕ, [], ◌∷◌, refl, w64, a_type, dcons, dnil, named, Val, vint, vptr, inst_fn, SProp, emp, ftrue, ‵, raw, ◌⊛◌, ◌$◌, ◌∵◌, !, qed, by, keep, drop, split, join, fsplit, fsplit3, fjoin, fpick, fpack, use0, no_more, and_then, returns, enter, alloc_all, pass_all, free_all, look_at, get, sets, agg, tables, yes, RattleType, owns, types_at, plain, nothing, param, bounded, alive, Stays, stay_dropped, walk_of, Goes-dropped, fact, fact_i, Coded, RefOf, u64, shr_vals, shr_Tells, uint_vals, uint_Tells, unhide}
use Rattle.atomic_table.proofs.Walks.{proved, leaves}
use Rattle.atomic_table.proofs.Fields.{token_val}
use Rattle.tie_core.specs.Tie.{Tie, tie_further}
use Rattle.tie_core.specs.Desk.{HasCodes, IsTieOf}
use Rattle.atomic_table.specs.Seated.{TableId}
use Rattle.tie_core.specs.contracts.tag.Tag as tag
use Rattle.tie_core.proofs.DeskParts.{TagWords, tag_words, codes_further}
use Rattle.tie_core.specs.contracts.tag.Tag.further.{ended, clauses}
use Rattle.tie_core.specs.contracts.tag.Tag.further.Key.{name as #self}
use Rattle.tie_core.proofs.tag.Tag.further.Statement.{statement}
use Rattle.tie_core.proofs.tag.Tag.further.Code as code

pub further_spec : {M : Type 1} → statement M
further_spec 𝓤 𝓛 𝓜 𝓡 wired U P _ _ g d _ =
    let H = 𝓛.H in let 𝓣 = tables 𝓤 H 𝓜 𝓡 𝓡.env in let W : RattleType = param 0 U in let Y : RattleType = param 1 P in let En = ended U P g d in let c = clauses U P g d 𝓛 𝓜.mem 𝓡.returns in
    let inst = bounded (a_type ∷ a_type ∷ []) (U, (P, tt)) (dcons d dnil) in let fn = inst_fn inst code.function in
    let Tr : RattleType = tag.the_row W Y g in let self = RefOf (0 ∷ []) tt (plain (λ _. Tr)) (λ _. tt) in let number = plain (λ _. u64) in
    let hs : Stays En.signature.params En.kept = (stay_dropped self yes, (stay_dropped number yes, tt)) in
    proved 𝓛 En hs c 𝓜 𝓡 (Goes-dropped 𝓛 3 self yes (λ κs x f. refl), (Goes-dropped 𝓛 3 number yes (λ κs x f. refl), tt)) (#self inst) fn (code.unfolded 𝓤 H 𝓜 𝓡 wired (U, (P, tt)) d)
    (λ κs. (shr_vals, (uint_vals w64, tt))) (λ κs. (shr_Tells (named 0) κs.0 Tr, (uint_Tells w64, tt))) (λ κs qs bounds a gh are.
    let p : Val = vptr a.0.ref_ptr.0 a.0.ref_ptr.1 in let t : Tie = a.0.now.tie in let n : ℕ = a.1.0 in let cv : Coded U.Denot = W.coded in let r : Tr.Denot = record { marker = record {}; tie = tie_further t n } in let E₁ : Type 0 = tie_further t n ≡ tie_further t n in let E₂ : Type 0 = (z : TableId) (floor : ℕ) → IsTieOf z floor t → IsTieOf z floor (tie_further t n) in
    let y : (walk_of 𝓛 En hs c).Ghost = ((κs, qs, bounds, a, (p ∷ [], (vint w64 n ∷ [], tt))), gh) in let Post : Val → SProp 𝓤 = (walk_of 𝓛 En hs c).post y in
    qed 𝓛 ((raw (alive 𝓛 En.signature κs qs) ⊛ ‵ (owns (types_at En.signature.params κs) a y.0.4)) ∷ raw ((c κs a).requires gh) ∷ []) ∵ split ! $ keep ! (1 ∷ 0 ∷ []) $
    fsplit3 ! $ fsplit ! $ keep ! (1 ∷ 4 ∷ []) $ unhide ! $ fsplit ! $ drop ! $ fpick ! (λ codes. drop ! $
    nothing ! $ fpack ! (HasCodes cv.code g.shows (tie_further t n)) (λ _. ftrue) (codes_further cv.code g.shows t n codes) $ use0 𝓛 (‵ ((TagWords W Y g).own_val (tt, tt) (token_val ∷ []))) (tag_words W Y g 𝓛) $ fjoin ! $
    enter ! 𝓣.C 𝓣.Λ fn (p ∷ vint w64 n ∷ []) Post $ alloc_all ! (λ l. pass_all ! refl ((tt, tt), ((tt, record { fits = are.1.0.1 }), tt)) $
    sets ! (agg ! (no_more !)) refl (tt, tt) $ sets ! (agg ! (and_then ! (get ! refl) (no_more !))) refl (tt, (tt, tt)) $
    use0 𝓛 (raw (fact 𝓤 E₂)) (fact_i 𝓤 E₂ (emp 𝓤) (λ z floor is. record { views = is.views; floor = is.floor; free = is.free })) $ use0 𝓛 (raw (fact 𝓤 E₁)) (fact_i 𝓤 E₁ (emp 𝓤) refl) $ join ! $ nothing ! $ nothing ! $ fjoin ! $ nothing ! $ fjoin ! $
    returns ! (look_at ! 0 refl) $ free_all ! refl $ keep ! (3 ∷ 0 ∷ 2 ∷ 1 ∷ []) $ by ! (leaves 𝓛 En hs c y token_val r (tt, (tt, tt)) (tt, (tt, tt))))))
