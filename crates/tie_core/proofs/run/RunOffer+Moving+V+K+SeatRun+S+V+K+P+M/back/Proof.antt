-- `back` puts the seat, which is the gain of an offer for a run that has run, into a blank badge.
use Rattle.atomic_table.proofs.Names.{◌≡◌, ℕ, List, [], ◌∷◌, sym, refl, subst, a_type, dcons, dnil, named, Val, vunit, vptr, inst_fn, SProp, emp, Lft, Fml, ftrue, fsep, flft, ‵, raw, ◌⊛◌, ◌$◌, ◌∵◌, !, qed, by, move, keep, drop, split, split3, join, fsplit, fsplit3, fjoin, fjoin3, fpick, use0, rewrite, feq_i, unit_lit, of_opd, returns, enter, alloc_all, pass_all, free_all, look_at, sets, tables, no, RattleType, owns, types_at, plain, nothing, heard, param, bounded, Stays, stay_dropped, stay_ref, walk_of, Goes-dropped, Goes-ref, fact, fact_i, Coded, mut_vals, mut_Tells, opens, closes}
use Rattle.std.specs.Prelude.{Option}
use denote.Signature.{named_lft}
use Rattle.atomic_table.proofs.Walks.{proved, leaves}
use Rattle.atomic_table.specs.Seated.{TableId, age}
use Rattle.atomic_table.specs.contracts.badge.Badge as badge
use Rattle.atomic_table.proofs.Fields.{token_val}
use Rattle.tie_core.specs.Tie.{Made}
use Rattle.tie_core.specs.Desk.{content, gone}
use Rattle.tie_core.specs.Run.{IsRunMade, IsBackWith, run_offer_owns}
use Rattle.tie_core.specs.contracts.run.RunOffer as RunOffer
use Rattle.tie_core.specs.contracts.play.Moving as Moving
use Rattle.tie_core.specs.contracts.run.SeatRun as SeatRun
use Rattle.tie_core.specs.contracts.run.SeatRunRunBookMoving.TheImpl.{ghosts}
use Rattle.tie_core.proofs.RunOfferMade.{run_offer_told}
use Rattle.tie_core.proofs.DeskParts.{run_made_of}
use Rattle.tie_core.specs.contracts.run.RunOffer+Moving+V+K+SeatRun+S+V+K+P+M.back.{ended, clauses}
use Rattle.tie_core.specs.contracts.run.RunOffer+Moving+V+K+SeatRun+S+V+K+P+M.back.Key.{name as #self}
use Rattle.tie_core.proofs.run.RunOffer+Moving+V+K+SeatRun+S+V+K+P+M.back.Statement.{statement}
use Rattle.tie_core.proofs.run.RunOffer+Moving+V+K+SeatRun+S+V+K+P+M.back.Code as code

pub back_spec : {M : Type 1} → statement M
back_spec 𝓤 𝓛 𝓜 𝓡 wired T U Q P Mv _ _ _ _ _ g d g' d' _ _ =
    let H = 𝓛.H in let 𝓣 = tables 𝓤 H 𝓜 𝓡 𝓡.env in let R : RattleType = param 0 T in let W : RattleType = param 1 U in let X : RattleType = param 2 Q in let Y : RattleType = param 3 P in let Mr : RattleType = param 4 Mv in
    let En = ended T U Q P Mv g d g' d' in let c = clauses T U Q P Mv g d g' d' 𝓛 𝓜.mem 𝓡.returns in
    let inst = bounded (a_type ∷ a_type ∷ a_type ∷ a_type ∷ a_type ∷ []) (T, (U, (Q, (P, (Mv, tt))))) (dcons d (dcons d' dnil)) in let fn = inst_fn inst code.function in
    let Br : RattleType = badge.the_row W in let Xr : RattleType = Moving.the_row W X in let Kr : RattleType = SeatRun.the_row R W X Y Mr in let G = ghosts R W X Y Mr g d g' d' in
    let item = plain (λ κs. RunOffer.the_row (named_lft 7 0 tt κs) Xr Kr G) in let seat = plain (λ _. Br) in let hs : Stays En.signature.params En.kept = (stay_dropped item no, (stay_ref (1 ∷ []) tt seat, tt)) in
    proved 𝓛 En hs c 𝓜 𝓡 (Goes-dropped 𝓛 7 item no (λ κs x f. refl), (Goes-ref 𝓛 7 1 tt seat, tt)) (#self inst) fn (code.unfolded 𝓤 H 𝓜 𝓡 wired (T, (U, (Q, (P, (Mv, tt))))) d d')
    (λ κs. ((λ h. token_val ∷ []), (mut_vals, tt))) (λ κs. ((λ h vs so. run_offer_told (named_lft 7 0 tt κs) Xr Kr G vs so.0), (mut_Tells (named 1) κs.1.0 Br, tt))) (λ κs qs bounds a gh are.
    let Or : RattleType = RunOffer.the_row (named_lft 7 0 tt κs) Xr Kr G in let f : Or.Denot = a.0 in let ab : Xr.Denot = f.about in let z : TableId = ab.table_id in let cv : Coded U.Denot = W.coded in let κ : Lft = κs.0 in
    let J : Fml = content R cv.code (g.holds ab.key) ab.words z in let then : List Made → U.Denot → Type 0 = g'.then ab.told ab.view in let gain : List Made → Fml = λ ms. gone cv.code z ab.id (then ms) in
    let b : ℕ = a.1.0.ref_ptr.0 in let o : ℕ = a.1.0.ref_ptr.1 in let h : Br.Denot = a.1.0.now in let A₁ : Type 0 = IsRunMade f.made in let A₂ : Type 0 = h.views ≡ [] in
    let y : (walk_of 𝓛 En hs c).Ghost = ((κs, qs, bounds, a, (token_val ∷ [], (vptr b o ∷ [], tt))), gh) in let Post : Val → SProp 𝓤 = (walk_of 𝓛 En hs c).post y in
    let others : Fml = fsep (flft κs.1.1.0 qs.1.1.0) (fsep (flft κs.1.1.1.0 qs.1.1.1.0) (fsep (flft κs.1.1.1.1.0 qs.1.1.1.1.0) (fsep (flft κs.1.1.1.1.1.0 qs.1.1.1.1.1.0) (fsep (flft κs.1.1.1.1.1.1.0 qs.1.1.1.1.1.1.0) ftrue)))) in
    qed 𝓛 (((‵ (flft κs.0 qs.0) ⊛ ‵ (flft κs.1.0 qs.1.0) ⊛ ‵ others) ⊛ ‵ (owns (types_at En.signature.params κs) a y.0.4)) ∷ raw (fact 𝓤 _) ∷ raw (fact 𝓤 _) ∷ raw (fact 𝓤 _) ∷ raw (fact 𝓤 _) ∷ raw (fact 𝓤 _) ∷ raw (fact 𝓤 A₁) ∷ raw (fact 𝓤 A₂) ∷ []) ∵
    keep ! (6 ∷ 7 ∷ 0 ∷ []) $ heard ! A₁ (λ is. heard ! A₂ (λ blank. let made = run_made_of f.made is in split ! $ split3 ! $
    -- [the offer's token; the badge's; the others; what the arguments own]
    move ! (3 ∷ []) $ fsplit ! $ fsplit ! $ move ! (2 ∷ []) $ fsplit ! $ fsplit3 ! $ keep ! (5 ∷ 1 ∷ 2 ∷ 7 ∷ 6 ∷ 8 ∷ []) $
    -- [the offer's; the badge, in two parts; its token; the offer's; the others]
    rewrite ! 0 (λ (u : Option (List Made)). ‵ (run_offer_owns (age z) J f.step f.ties gain κ u)) made.1 refl $ fpick ! (λ u. fsplit ! $ fpick ! (λ so. drop ! $
    enter ! 𝓣.C 𝓣.Λ fn (token_val ∷ vptr b o ∷ []) Post $ alloc_all ! (λ l. pass_all ! refl ((tt, (tt, tt)), ((tt, tt), tt)) $
    -- [the seat; the badge, in two parts; its token; the offer's; the others]
    move ! (1 ∷ 2 ∷ 3 ∷ []) $ opens ! tt Br b o (λ ts. move ! (1 ∷ []) $ fsplit ! $ move ! (1 ∷ []) $ drop ! $ move ! (0 ∷ 5 ∷ []) $ fjoin ! $ move ! (1 ∷ 0 ∷ []) $
    let h' : Br.Denot = record h { table_id = z; id = ab.id; views = u ∷ [] } in
    closes ! tt Br h' ts b o $ feq_i ! (List Val) (vptr b o ∷ []) (vptr b o ∷ []) refl $ fjoin3 ! $
    -- [the badge; its token; the offer's; the others]
    nothing ! $ move ! (1 ∷ 0 ∷ []) $ fjoin ! $ nothing ! $ fjoin ! $ move ! (1 ∷ 3 ∷ []) $ join ! $ move ! (2 ∷ 0 ∷ []) $ join ! $
    sets ! (of_opd ! (unit_lit !)) refl (tt, tt) $
    let E₁ : Type 0 = (z ≡ z) × (ab.id ≡ ab.id) in let E₂ : Type 0 = IsBackWith then f.made (u ∷ []) in
    use0 𝓛 (raw (fact 𝓤 E₂)) (fact_i 𝓤 E₂ (emp 𝓤) (subst (λ (v : Option (List Made)). IsBackWith then v (u ∷ [])) (sym made.1) (u, refl, so))) $ use0 𝓛 (raw (fact 𝓤 E₁)) (fact_i 𝓤 E₁ (emp 𝓤) (refl, refl)) $ join ! $
    feq_i ! (List Val) (vunit ∷ []) (vunit ∷ []) refl $ returns ! (look_at ! 0 refl) $ free_all ! refl $ keep ! (2 ∷ 3 ∷ 0 ∷ 1 ∷ []) $ by ! (leaves 𝓛 En hs c y vunit tt (tt, (h', tt)) (tt, (tt, tt))))))))))
