-- `offer_look` makes the update of a look at a cell whose tie is fixed, by the caller's seat, which leaves its badge.
use Rattle.atomic_table.proofs.Names.{◌≡◌, ℕ, List, [], ◌∷◌, sym, refl, ◌∙◌, w64, a_type, dcons, dnil, named, Val, vint, vptr, inst_fn, SProp, emp, Lft, Fml, ftrue, fsep, flft, fbor, ‵, raw, ◌⊛◌, ◌$◌, ◌∵◌, !, qed, by, move, keep, drop, split, split3, join, fsplit, fsplit3, fjoin, fjoin3, use0, use1, rewrite, feq_i, no_more, and_then, returns, enter, alloc_all, pass_all, free_all, look_at, get, sets, agg, tables, yes, RattleType, owns, types_at, plain, Ptr, nothing, heard, param, bounded, Stays, stay_dropped, stay_ref, walk_of, Goes-dropped, Goes-ref, fact, fact_i, Coded, RefOf, u64, mut_vals, mut_Tells, shr_vals, shr_Tells, uint_vals, uint_Tells, opens, closes, unhide}
use Rattle.std.specs.Prelude.{None}
use base.Fml.{fnamed}
use base.Before.{before}
use denote.Signature.{named_lft}
use Rattle.atomic_table.proofs.Walks.{proved, leaves}
use Rattle.atomic_table.specs.Seated.{TableId, age, badge_owns}
use Rattle.atomic_table.specs.contracts.shared.Shared as table
use Rattle.atomic_table.specs.contracts.badge.Badge as badge
use Rattle.atomic_table.proofs.Fields.{token_val}
use Rattle.tie_core.specs.Tie.{Tie, Stage, looks, update}
use Rattle.tie_core.specs.Desk.{content, gone, IsFixedTie}
use Rattle.tie_core.specs.Permits.{PermitsAlone}
use Rattle.tie_core.specs.contracts.desk.Desk as desk
use Rattle.tie_core.specs.contracts.offer.Offer as Offer
use Rattle.tie_core.specs.contracts.play.Moving as Moving
use Rattle.tie_core.specs.contracts.play.SeatMove as SeatMove
use Rattle.tie_core.specs.contracts.play.SeatMoveBookMoving.TheImpl.{ghosts}
use Rattle.tie_core.proofs.OfferMade.{OfferWords, offer_made}
use Rattle.tie_core.proofs.DeskParts as parts
use Rattle.tie_core.proofs.FixedParts.{looks_fixed}
use Rattle.tie_core.specs.contracts.desk.Desk.offer_look.{ended, clauses}
use Rattle.tie_core.specs.contracts.desk.Desk.offer_look.Key.{name as #self}
use Rattle.tie_core.proofs.desk.Desk.offer_look.Statement.{statement}
use Rattle.tie_core.proofs.desk.Desk.offer_look.Code as code

pub offer_look_spec : {M : Type 1} → statement M
unfolding Rattle.atomic_table.specs.Seated.seal
offer_look_spec 𝓤 𝓛 𝓜 𝓡 wired T U Q P Mv Bv _ _ _ _ _ _ g d g' d' g₂ d₂ _ _ _ =
    let H = 𝓛.H in let 𝓣 = tables 𝓤 H 𝓜 𝓡 𝓡.env in let R : RattleType = param 0 T in let W : RattleType = param 1 U in let X : RattleType = param 2 Q in let Y : RattleType = param 3 P in let Mr : RattleType = param 4 Mv in let Zr : RattleType = param 5 Bv in
    let En = ended T U Q P Mv Bv g d g' d' g₂ d₂ in let c = clauses T U Q P Mv Bv g d g' d' g₂ d₂ 𝓛 𝓜.mem 𝓡.returns in
    let inst = bounded (a_type ∷ a_type ∷ a_type ∷ a_type ∷ a_type ∷ a_type ∷ []) (T, (U, (Q, (P, (Mv, (Bv, tt)))))) (dcons d (dcons d' (dcons d₂ dnil))) in let fn = inst_fn inst code.function in
    let Row : RattleType = table.the_row R W X Y g in let Dr : RattleType = desk.the_row R W X Y g in let Br : RattleType = badge.the_row W in
    let Xr : RattleType = Moving.the_row W X in let Kr : RattleType = SeatMove.the_row R W X Y Mr in let G = ghosts R W X Y Mr g d g' d' in
    let lent = RefOf (0 ∷ []) tt (plain (λ _. Row)) (λ _. tt) in let by_desk = RefOf (1 ∷ []) tt (plain (λ _. Dr)) (λ _. tt) in let seat = plain (λ _. Br) in let by_cells = RefOf (3 ∷ []) tt (plain (λ _. Zr)) (λ _. tt) in let number = plain (λ _. u64) in
    let hs : Stays En.signature.params En.kept = (stay_dropped lent yes, (stay_dropped by_desk yes, (stay_ref (2 ∷ []) tt seat, (stay_dropped by_cells yes, (stay_dropped number yes, (stay_dropped number yes, tt)))))) in
    proved 𝓛 En hs c 𝓜 𝓡 (Goes-dropped 𝓛 10 lent yes (λ κs x f. refl), (Goes-dropped 𝓛 10 by_desk yes (λ κs x f. refl), (Goes-ref 𝓛 10 2 tt seat, (Goes-dropped 𝓛 10 by_cells yes (λ κs x f. refl), (Goes-dropped 𝓛 10 number yes (λ κs x f. refl), (Goes-dropped 𝓛 10 number yes (λ κs x f. refl), tt))))))
    (#self inst) fn (code.unfolded 𝓤 H 𝓜 𝓡 wired (T, (U, (Q, (P, (Mv, (Bv, tt)))))) d d' d₂)
    (λ κs. (shr_vals, (shr_vals, (mut_vals, (shr_vals, (uint_vals w64, (uint_vals w64, tt)))))))
    (λ κs. (shr_Tells (named 0) κs.0 Row, (shr_Tells (named 1) κs.1.0 Dr, (mut_Tells (named 2) κs.1.1.0 Br, (shr_Tells (named 3) κs.1.1.1.0 Zr, (uint_Tells w64, (uint_Tells w64, tt))))))) (λ κs qs bounds a gh are.
    let ℓ = named_lft 10 0 tt κs in let Or : RattleType = Offer.the_row ℓ Xr Kr G in let κ : Lft = κs.0 in let cv : Coded U.Denot = W.coded in
    let z : TableId = a.0.now.table_id in let D : Dr.Denot = a.1.0.now in let zd : TableId = D.table_id in let w : Ptr = D.words in let j : ℕ = D.floor in let J : Fml = content R cv.code (g.holds D.key) w zd in
    let b : ℕ = a.1.1.0.ref_ptr.0 in let o : ℕ = a.1.1.0.ref_ptr.1 in let h : Br.Denot = a.1.1.0.now in let id : ℕ = h.id in let m : ℕ = a.1.1.1.1.0 in let t : Tie = g₂.tie_at a.1.1.1.0.now m in let n : ℕ = a.1.1.1.1.1.0 in
    let A₁ : Type 0 = (zd ≡ z) × (h.table_id ≡ z) in let A₂ : Type 0 = (s : Stage) × (v : U.Denot) × IsFixedTie j s t × (h.views ≡ v ∷ []) × PermitsAlone (g.holds D.key) id v (g'.then n v s s) in
    let ps : List Val = vptr a.0.ref_ptr.0 a.0.ref_ptr.1 ∷ vptr a.1.0.ref_ptr.0 a.1.0.ref_ptr.1 ∷ vptr b o ∷ vptr a.1.1.1.0.ref_ptr.0 a.1.1.1.0.ref_ptr.1 ∷ vint w64 m ∷ vint w64 n ∷ [] in
    let y : (walk_of 𝓛 En hs c).Ghost = ((κs, qs, bounds, a, (vptr a.0.ref_ptr.0 a.0.ref_ptr.1 ∷ [], (vptr a.1.0.ref_ptr.0 a.1.0.ref_ptr.1 ∷ [], (vptr b o ∷ [], (vptr a.1.1.1.0.ref_ptr.0 a.1.1.1.0.ref_ptr.1 ∷ [], (vint w64 m ∷ [], (vint w64 n ∷ [], tt))))))), gh) in let Post : Val → SProp 𝓤 = (walk_of 𝓛 En hs c).post y in
    let others : Fml = fsep (flft κs.1.1.1.0 qs.1.1.1.0) (fsep (flft κs.1.1.1.1.0 qs.1.1.1.1.0) (fsep (flft κs.1.1.1.1.1.0 qs.1.1.1.1.1.0) (fsep (flft κs.1.1.1.1.1.1.0 qs.1.1.1.1.1.1.0) (fsep (flft κs.1.1.1.1.1.1.1.0 qs.1.1.1.1.1.1.1.0) (fsep (flft κs.1.1.1.1.1.1.1.1.0 qs.1.1.1.1.1.1.1.1.0) (fsep (flft κs.1.1.1.1.1.1.1.1.1.0 qs.1.1.1.1.1.1.1.1.1.0) ftrue)))))) in
    qed 𝓛 (((‵ (flft κs.0 qs.0) ⊛ ‵ (flft κs.1.0 qs.1.0) ⊛ ‵ (flft κs.1.1.0 qs.1.1.0) ⊛ ‵ others) ⊛ ‵ (owns (types_at En.signature.params κs) a y.0.4)) ∷ raw (fact 𝓤 _) ∷ raw (fact 𝓤 _) ∷ raw (fact 𝓤 _) ∷ raw (fact 𝓤 _) ∷ raw (fact 𝓤 _) ∷ raw (fact 𝓤 _) ∷ raw (fact 𝓤 A₁) ∷ raw (fact 𝓤 A₂) ∷ []) ∵
    keep ! (7 ∷ 8 ∷ 0 ∷ []) $ heard ! A₁ (λ same. heard ! A₂ (λ asked. let s : Stage = asked.0 in let v : U.Denot = asked.1 in let of : IsFixedTie j s t = asked.2 in let then : Stage → Stage → U.Denot → Type 0 = g'.then n v in let gain : Stage → Stage → Fml = λ x x'. gone cv.code zd id (then x x') in
    split ! $ split3 ! $ move ! (2 ∷ []) $ split ! $
    -- [the badge's token; the others; the table's; the desk's; what the arguments own]
    move ! (4 ∷ []) $ fsplit3 ! $ fsplit ! $ move ! (2 ∷ []) $ fsplit ! $ move ! (4 ∷ []) $ fsplit ! $ fsplit3 ! $ keep ! (7 ∷ 5 ∷ 1 ∷ 2 ∷ 8 ∷ 10 ∷ 11 ∷ 9 ∷ []) $
    -- [the table; the desk; the badge, in two parts; its token; the table's token; the desk's; the others]
    unhide ! $ fsplit ! $ drop ! $ fsplit ! $ use1 𝓛 (‵ (before κ (age z))) (parts.lives 𝓛 z κ) $ move ! (1 ∷ []) $ drop ! $
    rewrite ! 0 (λ (u : TableId). ‵ (before κ (age u))) (sym same.0) refl $ move ! (1 ∷ []) $ unhide ! $ fsplit ! $ drop ! $ rewrite ! 0 (λ (k : ℕ). ‵ (fnamed k (fbor (age zd) J))) (sym of.floor) refl $
    enter ! 𝓣.C 𝓣.Λ fn ps Post $ alloc_all ! (λ l. pass_all ! refl ((tt, tt), ((tt, tt), ((tt, tt), ((tt, tt), ((tt, record { fits = are.1.1.1.1.0.1 }), ((tt, record { fits = are.1.1.1.1.1.0.1 }), tt)))))) $
    -- [the desk; before; the badge, in two parts; its token; the table's token; the desk's; the others]
    move ! (2 ∷ 3 ∷ 4 ∷ []) $ opens ! tt Br b o (λ ts. move ! (1 ∷ []) $ fsplit ! $ move ! (1 ∷ []) $
    rewrite ! 0 (λ (u : TableId × List U.Denot). ‵ (badge_owns cv.code u.0 id u.1)) (λ i. ((same.1 ∙ sym same.0) i, asked.3 i)) refl $
    use1 𝓛 (‵ (update (age zd) J gain t looks)) (looks_fixed 𝓛 R cv (g.holds D.key) w zd t s id v then of.fixed asked.4) $
    -- [the update; the badge's words; four of what is open; the desk; before; the tokens]
    move ! (6 ∷ 0 ∷ []) $ fjoin ! $ move ! (6 ∷ 0 ∷ []) $ fjoin ! $
    -- [the offer's; the badge's words; four of what is open; the tokens]
    let h' : Br.Denot = record h { views = [] } in
    move ! (1 ∷ []) $ nothing ! $ move ! (1 ∷ 0 ∷ []) $ fjoin ! $ move ! (2 ∷ 0 ∷ 3 ∷ 4 ∷ 5 ∷ []) $ closes ! tt Br h' ts b o $ feq_i ! (List Val) (vptr b o ∷ []) (vptr b o ∷ []) refl $ fjoin3 ! $
    -- [the badge; its token; the offer's; the table's token; the desk's; the others]
    nothing ! $ nothing ! $ fjoin ! $ nothing ! $ fjoin ! $ nothing ! $ fjoin ! $ move ! (1 ∷ 0 ∷ []) $ fjoin ! $ nothing ! $ fjoin ! $ nothing ! $ fjoin ! $
    move ! (1 ∷ 5 ∷ []) $ join ! $ move ! (4 ∷ 0 ∷ []) $ join ! $ move ! (3 ∷ 0 ∷ []) $ join ! $ move ! (2 ∷ []) $
    -- [the offer's; the tokens; what stays]
    let ab : Xr.Denot = record { marker = record {}; table_id = zd; key = D.key; words = w; id = id; view = v; told = n } in let f : Or.Denot = record { marker = record {}; tie = t; about = ab; step = looks; made = None } in
    use0 𝓛 (‵ ((OfferWords ℓ Xr Kr G).own_val (record {}, tt) (token_val ∷ []))) (offer_made ℓ Xr Kr G 𝓛) $ fjoin ! $
    sets ! (agg ! (no_more !)) refl (tt, tt) $ sets ! (agg ! (and_then ! (get ! refl) (no_more !))) refl (tt, (tt, tt)) $
    let E₁ : Type 0 = h'.views ≡ [] in let E₂ : Type 0 = (zd ≡ h.table_id) × (id ≡ id) × (h.views ≡ v ∷ []) × (n ≡ n) in let E₃ : Type 0 = (t ≡ t) × (f.step ≡ looks) × (f.made ≡ None) in
    use0 𝓛 (raw (fact 𝓤 E₃)) (fact_i 𝓤 E₃ (emp 𝓤) (refl, refl, refl)) $ use0 𝓛 (raw (fact 𝓤 E₂)) (fact_i 𝓤 E₂ (emp 𝓤) (same.0 ∙ sym same.1, refl, asked.3, refl)) $ join ! $ use0 𝓛 (raw (fact 𝓤 E₁)) (fact_i 𝓤 E₁ (emp 𝓤) refl) $ join ! $
    returns ! (look_at ! 0 refl) $ free_all ! refl $ keep ! (2 ∷ 3 ∷ 1 ∷ 0 ∷ []) $ by ! (leaves 𝓛 En hs c y token_val f (tt, (tt, (h', (tt, (tt, (tt, tt)))))) (tt, (tt, (tt, (tt, (tt, (tt, tt))))))))))))
