-- `compare` opens the table's invariant without a step, while two seats are at hand.
use Rattle.atomic_table.proofs.Names.{◌≡◌, ℕ, List, [], ◌∷◌, sym, refl, ◌∙◌, a_type, dcons, dnil, named, Val, vunit, vptr, inst_fn, SProp, emp, Lft, Fml, ftrue, fsep, flft, ‵, raw, ◌⊛◌, given, later, ◌$◌, ◌∵◌, !, qed, by, move, keep, drop, split, split3, join, fsplit, fsplit3, fjoin, fjoin3, learn, use0, use3, await, rewrite, feq_i, unit_lit, of_opd, returns, enter, alloc_all, pass_all, free_all, look_at, sets, tables, yes, RattleType, owns, types_at, plain, Ptr, nothing, heard, param, bounded, Stays, stay_dropped, stay_ref, walk_of, Goes-dropped, Goes-ref, fact, fact_i, Coded, RefOf, mut_vals, mut_Tells, shr_vals, shr_Tells, opens, closes, unhide, shr_bor-open, obor_close, tokens_halve}
use Rattle.atomic_table.proofs.Walks.{proved, leaves}
use Rattle.atomic_table.specs.Seated.{TableId, age, badge_owns}
use Rattle.atomic_table.specs.contracts.shared.Shared as table
use Rattle.atomic_table.specs.contracts.badge.Badge as badge
use Rattle.tie_core.specs.Permits.{TellsOfBoth}
use Rattle.tie_core.specs.contracts.desk.Desk as desk
use Rattle.tie_core.proofs.SeatSteps as seats
use Rattle.tie_core.proofs.DeskParts as parts
use Rattle.tie_core.specs.contracts.desk.Desk.compare.{ended, clauses}
use Rattle.tie_core.specs.contracts.desk.Desk.compare.Key.{name as #self}
use Rattle.tie_core.proofs.desk.Desk.compare.Statement.{statement}
use Rattle.tie_core.proofs.desk.Desk.compare.Code as code

pub compare_spec : {M : Type 1} → statement M
unfolding Rattle.atomic_table.specs.Seated.seal
compare_spec 𝓤 𝓛 𝓜 𝓡 wired T U Q P Mv _ _ _ _ _ g d g' d' _ _ =
    let H = 𝓛.H in let 𝓣 = tables 𝓤 H 𝓜 𝓡 𝓡.env in let R : RattleType = param 0 T in let W : RattleType = param 1 U in let X : RattleType = param 2 Q in let Y : RattleType = param 3 P in
    let En = ended T U Q P Mv g d g' d' in let c = clauses T U Q P Mv g d g' d' 𝓛 𝓜.mem 𝓡.returns in
    let inst = bounded (a_type ∷ a_type ∷ a_type ∷ a_type ∷ a_type ∷ []) (T, (U, (Q, (P, (Mv, tt))))) (dcons d (dcons d' dnil)) in let fn = inst_fn inst code.function in
    let Row : RattleType = table.the_row R W X Y g in let Dr : RattleType = desk.the_row R W X Y g in let Br : RattleType = badge.the_row W in
    let lent = RefOf (0 ∷ []) tt (plain (λ _. Row)) (λ _. tt) in let by_desk = RefOf (1 ∷ []) tt (plain (λ _. Dr)) (λ _. tt) in let seat = plain (λ _. Br) in
    let hs : Stays En.signature.params En.kept = (stay_dropped lent yes, (stay_dropped by_desk yes, (stay_ref (2 ∷ []) tt seat, (stay_ref (3 ∷ []) tt seat, tt)))) in
    proved 𝓛 En hs c 𝓜 𝓡 (Goes-dropped 𝓛 9 lent yes (λ κs x f. refl), (Goes-dropped 𝓛 9 by_desk yes (λ κs x f. refl), (Goes-ref 𝓛 9 2 tt seat, (Goes-ref 𝓛 9 3 tt seat, tt))))
    (#self inst) fn (code.unfolded 𝓤 H 𝓜 𝓡 wired (T, (U, (Q, (P, (Mv, tt))))) d d')
    (λ κs. (shr_vals, (shr_vals, (mut_vals, (mut_vals, tt))))) (λ κs. (shr_Tells (named 0) κs.0 Row, (shr_Tells (named 1) κs.1.0 Dr, (mut_Tells (named 2) κs.1.1.0 Br, (mut_Tells (named 3) κs.1.1.1.0 Br, tt))))) (λ κs qs bounds a gh are.
    let cv : Coded U.Denot = W.coded in
    let z : TableId = a.0.now.table_id in let D : Dr.Denot = a.1.0.now in let zd : TableId = D.table_id in let w : Ptr = D.words in let j : ℕ = D.floor in let holds = g.holds D.key in let α : Lft = age zd in
    let b : ℕ = a.1.1.0.ref_ptr.0 in let o : ℕ = a.1.1.0.ref_ptr.1 in let h : Br.Denot = a.1.1.0.now in let id : ℕ = h.id in let b₂ : ℕ = a.1.1.1.0.ref_ptr.0 in let o₂ : ℕ = a.1.1.1.0.ref_ptr.1 in let k : Br.Denot = a.1.1.1.0.now in
    let A₁ : Type 0 = (zd ≡ z) × (h.table_id ≡ z) × (k.table_id ≡ z) in let A₂ : Type 0 = (v : U.Denot) × (u : U.Denot) × (h.views ≡ v ∷ []) × (k.views ≡ u ∷ []) × TellsOfBoth holds id v k.id u (g'.tells v u) in
    let ps : List Val = vptr a.0.ref_ptr.0 a.0.ref_ptr.1 ∷ vptr a.1.0.ref_ptr.0 a.1.0.ref_ptr.1 ∷ vptr b o ∷ vptr b₂ o₂ ∷ [] in
    let y : (walk_of 𝓛 En hs c).Ghost = ((κs, qs, bounds, a, (vptr a.0.ref_ptr.0 a.0.ref_ptr.1 ∷ [], (vptr a.1.0.ref_ptr.0 a.1.0.ref_ptr.1 ∷ [], (vptr b o ∷ [], (vptr b₂ o₂ ∷ [], tt))))), gh) in let Post : Val → SProp 𝓤 = (walk_of 𝓛 En hs c).post y in
    let others : Fml = fsep (flft κs.1.1.1.1.0 qs.1.1.1.1.0) (fsep (flft κs.1.1.1.1.1.0 qs.1.1.1.1.1.0) (fsep (flft κs.1.1.1.1.1.1.0 qs.1.1.1.1.1.1.0) (fsep (flft κs.1.1.1.1.1.1.1.0 qs.1.1.1.1.1.1.1.0) (fsep (flft κs.1.1.1.1.1.1.1.1.0 qs.1.1.1.1.1.1.1.1.0) ftrue)))) in
    qed 𝓛 (((‵ (flft κs.0 qs.0) ⊛ ‵ (flft κs.1.0 qs.1.0) ⊛ ‵ (flft κs.1.1.0 qs.1.1.0) ⊛ ‵ (flft κs.1.1.1.0 qs.1.1.1.0) ⊛ ‵ others) ⊛ ‵ (owns (types_at En.signature.params κs) a y.0.4)) ∷ raw (fact 𝓤 _) ∷ raw (fact 𝓤 _) ∷ raw (fact 𝓤 _) ∷ raw (fact 𝓤 _) ∷ raw (fact 𝓤 _) ∷ raw (fact 𝓤 A₁) ∷ raw (fact 𝓤 A₂) ∷ []) ∵
    keep ! (6 ∷ 7 ∷ 0 ∷ []) $ heard ! A₁ (λ same. heard ! A₂ (λ asked. let v : U.Denot = asked.0 in let x : U.Denot = asked.1 in let told : Type 0 = g'.tells v x in
    split ! $ split3 ! $ move ! (2 ∷ []) $ split3 ! $
    -- [the badge's token; the other's; the others; the table's; the desk's; what the arguments own]
    move ! (5 ∷ []) $ fsplit3 ! $ fsplit ! $ move ! (2 ∷ []) $ fsplit ! $ move ! (4 ∷ []) $ fsplit3 ! $ fsplit3 ! $ move ! (3 ∷ []) $ fsplit3 ! $ keep ! (10 ∷ 8 ∷ 4 ∷ 5 ∷ 11 ∷ 1 ∷ 2 ∷ 12 ∷ 14 ∷ 15 ∷ 13 ∷ []) $
    -- [the table; the desk; the badge, in two parts; its token; the other badge, in two parts; its token; the table's token; the desk's; the others]
    unhide ! $ fsplit ! $ drop ! $ fsplit ! $ move ! (1 ∷ []) $ drop ! $ move ! (1 ∷ []) $ unhide ! $ fsplit ! $ drop ! $
    enter ! 𝓣.C 𝓣.Λ fn ps Post $ alloc_all ! (λ l. pass_all ! refl ((tt, tt), ((tt, tt), ((tt, tt), ((tt, tt), tt)))) $
    -- [the desk; the lifetime; the badge, in two parts; its token; the other badge, in two parts; its token; the table's token; the desk's; the others]
    move ! (5 ∷ 6 ∷ 7 ∷ []) $ opens ! tt Br b₂ o₂ (λ ts₂. move ! (1 ∷ []) $ fsplit ! $ move ! (1 ∷ []) $
    rewrite ! 0 (λ (u : TableId × List U.Denot). ‵ (badge_owns cv.code u.0 k.id u.1)) (λ i. ((same.2 ∙ sym same.0) i, asked.3 i)) refl $
    -- [the other seat; its badge's words; four of what is open; the desk; the lifetime; the badge, in two parts; its token; the tokens]
    move ! (8 ∷ 9 ∷ 10 ∷ []) $ opens ! tt Br b o (λ ts. move ! (1 ∷ []) $ fsplit ! $ move ! (1 ∷ []) $
    rewrite ! 0 (λ (u : TableId × List U.Denot). ‵ (badge_owns cv.code u.0 id u.1)) (λ i. ((same.1 ∙ sym same.0) i, asked.2 i)) refl $
    -- [the seat; its badge's words; four of what is open; the other seat; its badge's words; four of what is open; the desk; the lifetime; the table's token; the desk's; the others]
    move ! (13 ∷ 14 ∷ []) $ shr_bor-open ! tt (tokens_halve 𝓛 (age z)) (λ s. rewrite ! 1 (λ (u : TableId). ‵ (flft (age u) s)) (sym same.0) refl $ move ! (2 ∷ 8 ∷ []) $ join ! $ move ! (13 ∷ 2 ∷ 0 ∷ []) $
    let mine : Fml = seats.half 𝓛 R cv holds w zd id v in let its : Fml = seats.half 𝓛 R cv holds w zd k.id x in
    use3 𝓛 (later (given told (‵ mine ⊛ ‵ its) ⊛ ‵ (flft α s))) (parts.comparing 𝓛 R cv holds w zd j id v k.id x told asked.4 s) $ await ! tt $ split ! $ learn ! (λ so. split ! $
    -- [the seat; the other; the lifetime's token; what is open; the badge's words; four of what is open; the other's words; four of what is open; the desk's token; the others]
    rewrite ! 2 (λ (u : TableId). ‵ (flft (age u) s)) same.0 refl $ move ! (3 ∷ 2 ∷ []) $ obor_close ! tt $ drop ! $
    -- [the table's token; the seat; the other; the badge's words; four of what is open; the other's words; four of what is open; the desk's token; the others]
    rewrite ! 1 (λ (u : TableId × List U.Denot). ‵ (badge_owns cv.code u.0 id u.1)) (λ i. ((same.0 ∙ sym same.1) i, sym asked.2 i)) refl $
    rewrite ! 2 (λ (u : TableId × List U.Denot). ‵ (badge_owns cv.code u.0 k.id u.1)) (λ i. ((same.0 ∙ sym same.2) i, sym asked.3 i)) refl $
    move ! (3 ∷ 1 ∷ []) $ fjoin ! $ move ! (3 ∷ 0 ∷ 4 ∷ 5 ∷ 6 ∷ []) $ closes ! tt Br h ts b o $ feq_i ! (List Val) (vptr b o ∷ []) (vptr b o ∷ []) refl $ fjoin3 ! $
    -- [the badge; its token; the table's token; the other seat; its badge's words; four of what is open; the desk's token; the others]
    move ! (4 ∷ 3 ∷ []) $ fjoin ! $ move ! (4 ∷ 0 ∷ 5 ∷ 6 ∷ 7 ∷ []) $ closes ! tt Br k ts₂ b₂ o₂ $ feq_i ! (List Val) (vptr b₂ o₂ ∷ []) (vptr b₂ o₂ ∷ []) refl $ fjoin3 ! $
    -- [the other badge; its token; the badge; its token; the table's token; the desk's; the others]
    nothing ! $ move ! (1 ∷ 0 ∷ []) $ fjoin ! $ move ! (2 ∷ 0 ∷ []) $ fjoin ! $ nothing ! $ fjoin ! $ nothing ! $ fjoin ! $
    move ! (1 ∷ 5 ∷ []) $ join ! $ move ! (2 ∷ 0 ∷ []) $ join ! $ move ! (3 ∷ 0 ∷ []) $ join ! $ move ! (2 ∷ 0 ∷ []) $ join ! $
    -- [the tokens; what stays]
    sets ! (of_opd ! (unit_lit !)) refl (tt, tt) $
    let E₁ : Type 0 = (h ≡ h) × (k ≡ k) in let E₂ : Type 0 = (p : U.Denot) × (u : U.Denot) × (h.views ≡ p ∷ []) × (k.views ≡ u ∷ []) × g'.tells p u in
    use0 𝓛 (raw (fact 𝓤 E₂)) (fact_i 𝓤 E₂ (emp 𝓤) (v, x, asked.2, asked.3, so)) $ use0 𝓛 (raw (fact 𝓤 E₁)) (fact_i 𝓤 E₁ (emp 𝓤) (refl, refl)) $ join ! $
    feq_i ! (List Val) (vunit ∷ []) (vunit ∷ []) refl $ returns ! (look_at ! 0 refl) $ free_all ! refl $ keep ! (2 ∷ 3 ∷ 0 ∷ 1 ∷ []) $ by ! (leaves 𝓛 En hs c y vunit tt (tt, (tt, (h, (k, tt)))) (tt, (tt, (tt, (tt, tt)))))))))))))
