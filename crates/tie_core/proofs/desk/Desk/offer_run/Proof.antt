-- `offer_run` makes the updates of the steps on a run, by the caller's seat, which leaves its badge.
use Rattle.atomic_table.proofs.Names.{◌≡◌, ℕ, ◌<◌, List, [], ◌∷◌, length, sym, refl, ap, ◌∙◌, w64, a_type, dcons, dnil, named, Val, vint, vptr, inst_fn, SProp, emp, Lft, Fml, ftrue, fsep, flft, fbor, ‵, raw, ◌⊛◌, ◌$◌, ◌∵◌, !, qed, by, move, keep, drop, split, split3, join, fsplit, fsplit3, fjoin, fjoin3, fpick, use0, use1, rewrite, feq_i, no_more, and_then, returns, enter, alloc_all, pass_all, free_all, look_at, get, sets, agg, tables, yes, RattleType, owns, types_at, plain, Ptr, nothing, heard, param, bounded, Stays, stay_dropped, stay_ref, walk_of, Goes-dropped, Goes-ref, fact, fact_i, Coded, RefOf, u64, mut_vals, mut_Tells, shr_vals, shr_Tells, uint_vals, uint_Tells, opens, closes, unhide}
use Rattle.std.specs.Prelude.{None}
use Rattle.std.proofs.Common.{add-zero, zero-add}
use base.Fml.{fnamed}
use base.Before.{before}
use denote.Signature.{named_lft}
use Rattle.atomic_table.proofs.Walks.{proved, leaves}
use Rattle.atomic_table.specs.Seated.{TableId, age, badge_owns}
use Rattle.atomic_table.specs.contracts.shared.Shared as table
use Rattle.atomic_table.specs.contracts.badge.Badge as badge
use Rattle.atomic_table.proofs.Fields.{token_val}
use Rattle.tie_core.specs.Tie.{Tie, Step, Made}
use Rattle.tie_core.specs.Desk.{content, gone, IsTieOf}
use Rattle.tie_core.specs.Run.{run_of, updates, PermitsRun}
use Rattle.tie_core.specs.contracts.desk.Desk as desk
use Rattle.tie_core.specs.contracts.tag.Tag as tag
use Rattle.tie_core.specs.contracts.run.RunOffer as RunOffer
use Rattle.tie_core.specs.contracts.play.Moving as Moving
use Rattle.tie_core.specs.contracts.run.SeatRun as SeatRun
use Rattle.tie_core.specs.contracts.run.SeatRunRunBookMoving.TheImpl.{ghosts}
use Rattle.tie_core.proofs.RunOfferMade.{RunOfferWords, run_offer_made}
use Rattle.tie_core.proofs.DeskParts as parts
use Rattle.tie_core.specs.contracts.desk.Desk.offer_run.{ended, clauses}
use Rattle.tie_core.specs.contracts.desk.Desk.offer_run.Key.{name as #self}
use Rattle.tie_core.proofs.desk.Desk.offer_run.Statement.{statement}
use Rattle.tie_core.proofs.desk.Desk.offer_run.Code as code

pub offer_run_spec : {M : Type 1} → statement M
unfolding Rattle.atomic_table.specs.Seated.seal
offer_run_spec 𝓤 𝓛 𝓜 𝓡 wired T U Q P Mv _ _ _ _ _ g d g₂ d₂ g' d' _ _ _ =
    let H = 𝓛.H in let 𝓣 = tables 𝓤 H 𝓜 𝓡 𝓡.env in let R : RattleType = param 0 T in let W : RattleType = param 1 U in let X : RattleType = param 2 Q in let Y : RattleType = param 3 P in let Mr : RattleType = param 4 Mv in
    let En = ended T U Q P Mv g d g₂ d₂ g' d' in let c = clauses T U Q P Mv g d g₂ d₂ g' d' 𝓛 𝓜.mem 𝓡.returns in
    let inst = bounded (a_type ∷ a_type ∷ a_type ∷ a_type ∷ a_type ∷ []) (T, (U, (Q, (P, (Mv, tt))))) (dcons d (dcons d₂ (dcons d' dnil))) in let fn = inst_fn inst code.function in
    let Row : RattleType = table.the_row R W X Y g in let Dr : RattleType = desk.the_row R W X Y g in let Br : RattleType = badge.the_row W in let Tr : RattleType = tag.the_row W Y g₂ in
    let Xr : RattleType = Moving.the_row W X in let Kr : RattleType = SeatRun.the_row R W X Y Mr in let G = ghosts R W X Y Mr g d g' d' in
    let lent = RefOf (0 ∷ []) tt (plain (λ _. Row)) (λ _. tt) in let by_desk = RefOf (1 ∷ []) tt (plain (λ _. Dr)) (λ _. tt) in let seat = plain (λ _. Br) in let by_tag = RefOf (3 ∷ []) tt (plain (λ _. Tr)) (λ _. tt) in let number = plain (λ _. u64) in
    let hs : Stays En.signature.params En.kept = (stay_dropped lent yes, (stay_dropped by_desk yes, (stay_ref (2 ∷ []) tt seat, (stay_dropped by_tag yes, (stay_dropped number yes, (stay_dropped number yes, tt)))))) in
    proved 𝓛 En hs c 𝓜 𝓡 (Goes-dropped 𝓛 9 lent yes (λ κs x f. refl), (Goes-dropped 𝓛 9 by_desk yes (λ κs x f. refl), (Goes-ref 𝓛 9 2 tt seat, (Goes-dropped 𝓛 9 by_tag yes (λ κs x f. refl), (Goes-dropped 𝓛 9 number yes (λ κs x f. refl), (Goes-dropped 𝓛 9 number yes (λ κs x f. refl), tt))))))
    (#self inst) fn (code.unfolded 𝓤 H 𝓜 𝓡 wired (T, (U, (Q, (P, (Mv, tt))))) d d₂ d')
    (λ κs. (shr_vals, (shr_vals, (mut_vals, (shr_vals, (uint_vals w64, (uint_vals w64, tt)))))))
    (λ κs. (shr_Tells (named 0) κs.0 Row, (shr_Tells (named 1) κs.1.0 Dr, (mut_Tells (named 2) κs.1.1.0 Br, (shr_Tells (named 3) κs.1.1.1.0 Tr, (uint_Tells w64, (uint_Tells w64, tt))))))) (λ κs qs bounds a gh are.
    let ℓ = named_lft 9 0 tt κs in let Or : RattleType = RunOffer.the_row ℓ Xr Kr G in let κ : Lft = κs.0 in let cv : Coded U.Denot = W.coded in
    let z : TableId = a.0.now.table_id in let D : Dr.Denot = a.1.0.now in let zd : TableId = D.table_id in let w : Ptr = D.words in let j : ℕ = D.floor in let J : Fml = content R cv.code (g.holds D.key) w zd in
    let b : ℕ = a.1.1.0.ref_ptr.0 in let o : ℕ = a.1.1.0.ref_ptr.1 in let h : Br.Denot = a.1.1.0.now in let id : ℕ = h.id in let t : Tie = a.1.1.1.0.now.tie in let n : ℕ = a.1.1.1.1.0 in let m : ℕ = a.1.1.1.1.1.0 in let step : Step = g'.step in let ties : List Tie = run_of t n in
    let A₁ : Type 0 = (zd ≡ z) × (h.table_id ≡ z) in let A₂ : Type 0 = IsTieOf z j t in let A₃ : Type 0 = 0 < n in let A₄ : Type 0 = (v : U.Denot) × (h.views ≡ v ∷ []) × PermitsRun (g.holds D.key) g₂.shows step id v t.id n (g'.then m v) in
    let ps : List Val = vptr a.0.ref_ptr.0 a.0.ref_ptr.1 ∷ vptr a.1.0.ref_ptr.0 a.1.0.ref_ptr.1 ∷ vptr b o ∷ vptr a.1.1.1.0.ref_ptr.0 a.1.1.1.0.ref_ptr.1 ∷ vint w64 n ∷ vint w64 m ∷ [] in
    let y : (walk_of 𝓛 En hs c).Ghost = ((κs, qs, bounds, a, (vptr a.0.ref_ptr.0 a.0.ref_ptr.1 ∷ [], (vptr a.1.0.ref_ptr.0 a.1.0.ref_ptr.1 ∷ [], (vptr b o ∷ [], (vptr a.1.1.1.0.ref_ptr.0 a.1.1.1.0.ref_ptr.1 ∷ [], (vint w64 n ∷ [], (vint w64 m ∷ [], tt))))))), gh) in let Post : Val → SProp 𝓤 = (walk_of 𝓛 En hs c).post y in
    let others : Fml = fsep (flft κs.1.1.1.0 qs.1.1.1.0) (fsep (flft κs.1.1.1.1.0 qs.1.1.1.1.0) (fsep (flft κs.1.1.1.1.1.0 qs.1.1.1.1.1.0) (fsep (flft κs.1.1.1.1.1.1.0 qs.1.1.1.1.1.1.0) (fsep (flft κs.1.1.1.1.1.1.1.0 qs.1.1.1.1.1.1.1.0) (fsep (flft κs.1.1.1.1.1.1.1.1.0 qs.1.1.1.1.1.1.1.1.0) ftrue))))) in
    qed 𝓛 (((‵ (flft κs.0 qs.0) ⊛ ‵ (flft κs.1.0 qs.1.0) ⊛ ‵ (flft κs.1.1.0 qs.1.1.0) ⊛ ‵ others) ⊛ ‵ (owns (types_at En.signature.params κs) a y.0.4)) ∷ raw (fact 𝓤 _) ∷ raw (fact 𝓤 _) ∷ raw (fact 𝓤 _) ∷ raw (fact 𝓤 _) ∷ raw (fact 𝓤 _) ∷ raw (fact 𝓤 A₁) ∷ raw (fact 𝓤 A₂) ∷ raw (fact 𝓤 A₃) ∷ raw (fact 𝓤 A₄) ∷ []) ∵
    keep ! (6 ∷ 7 ∷ 8 ∷ 9 ∷ 0 ∷ []) $ heard ! A₁ (λ same. heard ! A₂ (λ of. heard ! A₃ (λ some. heard ! A₄ (λ asked. let v : U.Denot = asked.0 in let then : List Made → U.Denot → Type 0 = g'.then m v in let gain : List Made → Fml = λ ns. gone cv.code zd id (then ns) in
    split ! $ split3 ! $ move ! (2 ∷ []) $ split ! $
    -- [the badge's token; the others; the table's; the desk's; what the arguments own]
    move ! (4 ∷ []) $ fsplit3 ! $ fsplit ! $ move ! (2 ∷ []) $ fsplit ! $ move ! (4 ∷ []) $ fsplit3 ! $ fsplit3 ! $ move ! (3 ∷ []) $ fsplit ! $ keep ! (9 ∷ 7 ∷ 1 ∷ 3 ∷ 4 ∷ 10 ∷ 12 ∷ 13 ∷ 11 ∷ []) $
    -- [the table; the desk; the tag; the badge, in two parts; its token; the table's token; the desk's; the others]
    unhide ! $ fsplit ! $ drop ! $ fsplit ! $ use1 𝓛 (‵ (before κ (age z))) (parts.lives 𝓛 z κ) $ move ! (1 ∷ []) $ drop ! $
    rewrite ! 0 (λ (u : TableId). ‵ (before κ (age u))) (sym same.0) refl $ move ! (1 ∷ []) $ unhide ! $ fsplit ! $ drop ! $ rewrite ! 0 (λ (k : ℕ). ‵ (fnamed k (fbor (age zd) J))) (sym (parts.run_floor_is t n some ∙ of.floor)) refl $
    move ! (2 ∷ []) $ unhide ! $ fsplit ! $ drop ! $ fpick ! (λ codes. drop ! $
    enter ! 𝓣.C 𝓣.Λ fn ps Post $ alloc_all ! (λ l. pass_all ! refl ((tt, tt), ((tt, tt), ((tt, tt), ((tt, tt), ((tt, record { fits = are.1.1.1.1.0.1 }), ((tt, record { fits = are.1.1.1.1.1.0.1 }), tt)))))) $
    -- [the desk; before; the badge, in two parts; its token; the table's token; the desk's; the others]
    move ! (2 ∷ 3 ∷ 4 ∷ []) $ opens ! tt Br b o (λ ts. move ! (1 ∷ []) $ fsplit ! $ move ! (1 ∷ []) $
    rewrite ! 0 (λ (u : TableId × List U.Denot). ‵ (badge_owns cv.code u.0 id u.1)) (λ i. ((same.1 ∙ sym same.0) i, asked.1 i)) refl $
    use1 𝓛 (‵ (updates (age zd) J step ties gain))
    (parts.run_offers 𝓛 R cv (g.holds D.key) w zd g₂.shows step id t.id n then asked.2.next n t (of.views ∙ ap (λ (u : TableId). u.views_name) (sym same.0)) of.free codes [] (zero-add n) (sym (add-zero t.id)) v asked.2.start) $
    -- [the updates; the badge's words; four of what is open; the desk; before; the tokens]
    move ! (6 ∷ 0 ∷ []) $ fjoin ! $ move ! (6 ∷ 0 ∷ []) $ fjoin ! $
    -- [the offer's; the badge's words; four of what is open; the tokens]
    let h' : Br.Denot = record h { views = [] } in
    move ! (1 ∷ []) $ nothing ! $ move ! (1 ∷ 0 ∷ []) $ fjoin ! $ move ! (2 ∷ 0 ∷ 3 ∷ 4 ∷ 5 ∷ []) $ closes ! tt Br h' ts b o $ feq_i ! (List Val) (vptr b o ∷ []) (vptr b o ∷ []) refl $ fjoin3 ! $
    -- [the badge; its token; the offer's; the table's token; the desk's; the others]
    nothing ! $ nothing ! $ fjoin ! $ nothing ! $ fjoin ! $ nothing ! $ fjoin ! $ move ! (1 ∷ 0 ∷ []) $ fjoin ! $ nothing ! $ fjoin ! $ nothing ! $ fjoin ! $
    move ! (1 ∷ 5 ∷ []) $ join ! $ move ! (4 ∷ 0 ∷ []) $ join ! $ move ! (3 ∷ 0 ∷ []) $ join ! $ move ! (2 ∷ []) $
    -- [the offer's; the tokens; what stays]
    let ab : Xr.Denot = record { marker = record {}; table_id = zd; key = D.key; words = w; id = id; view = v; told = m } in let f : Or.Denot = record { marker = record {}; ties = ties; about = ab; step = step; made = None } in
    use0 𝓛 (‵ ((RunOfferWords ℓ Xr Kr G).own_val (record {}, tt) (token_val ∷ []))) (run_offer_made ℓ Xr Kr G 𝓛) $ fjoin ! $
    sets ! (agg ! (no_more !)) refl (tt, tt) $ sets ! (agg ! (and_then ! (get ! refl) (no_more !))) refl (tt, (tt, tt)) $
    let E₁ : Type 0 = h'.views ≡ [] in let E₂ : Type 0 = (zd ≡ h.table_id) × (id ≡ id) × (h.views ≡ v ∷ []) × (m ≡ m) in let E₃ : Type 0 = (ties ≡ ties) × (length ties ≡ n) × (step ≡ step) × (f.made ≡ None) in
    use0 𝓛 (raw (fact 𝓤 E₃)) (fact_i 𝓤 E₃ (emp 𝓤) (refl, parts.run_length t n, refl, refl)) $ use0 𝓛 (raw (fact 𝓤 E₂)) (fact_i 𝓤 E₂ (emp 𝓤) (same.0 ∙ sym same.1, refl, asked.1, refl)) $ join ! $ use0 𝓛 (raw (fact 𝓤 E₁)) (fact_i 𝓤 E₁ (emp 𝓤) refl) $ join ! $
    returns ! (look_at ! 0 refl) $ free_all ! refl $ keep ! (2 ∷ 3 ∷ 1 ∷ 0 ∷ []) $ by ! (leaves 𝓛 En hs c y token_val f (tt, (tt, (h', (tt, (tt, (tt, tt)))))) (tt, (tt, (tt, (tt, (tt, (tt, tt)))))))))))))))
