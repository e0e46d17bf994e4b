-- `adopt` opens the table's invariant without a step, moves the caller's seat, and takes new ones out.
use Rattle.atomic_table.proofs.Names.{◌≡◌, ℕ, ◌+◌, List, [], ◌∷◌, ◌++◌, length, sym, refl, ap, w64, a_type, dcons, dnil, named, Val, Valss, vint, vptr, vstruct, vcons, vnil, of_list, inst_fn, SProp, emp, Lft, Fml, ftrue, fsep, flft, ‵, raw, ◌⊛◌, later, ◌$◌, ◌∵◌, !, qed, by, move, keep, drop, split, split3, join, fsplit, fsplit3, fjoin, fjoin3, fpick, fpack, use0, await, rewrite, feq_i, no_more, and_then, returns, enter, alloc_all, pass_all, free_all, look_at, get, sets, agg, tables, yes, RattleType, owns, types_at, plain, Ptr, nothing, heard, param, bounded, Stays, stay_dropped, stay_ref, walk_of, Goes-dropped, Goes-ref, fact, fact_i, Coded, RefOf, u64, mut_vals, mut_Tells, shr_vals, shr_Tells, uint_vals, uint_Tells, opens, closes, unhide, shr_bor-open, obor_close, tokens_halve, use3, ◌∙◌}
use Rattle.std.specs.Prelude.{None}
use base.Fml.{fex, feq}
use Rattle.atomic_table.proofs.Walks.{proved, leaves}
use Rattle.atomic_table.specs.Seated.{TableId, age, badge_owns}
use Rattle.atomic_table.specs.contracts.shared.Shared as table
use Rattle.atomic_table.specs.contracts.badge.Badge as badge
use Rattle.atomic_table.proofs.Fields.{token_val}
use Rattle.tie_core.specs.Tie.{Tie, Stage, row_of, stages_from}
use Rattle.tie_core.specs.Desk.{content, HasCodes, IsTieOf, tie_at}
use Rattle.tie_core.specs.Permits.{PermitsAdoption}
use Rattle.tie_core.specs.Visit.{EntryTie, HasEntryCodes, IsEntryOf}
use Rattle.tie_core.specs.contracts.desk.Desk as desk
use Rattle.tie_core.specs.contracts.tag.Tag as tag
use Rattle.tie_core.specs.contracts.visit.EntryTag as entry_tag
use Rattle.tie_core.specs.contracts.visit.PlacedSeat as PlacedSeat
use Rattle.tie_core.specs.contracts.seats.StagedSeats as StagedSeats
use Rattle.tie_core.proofs.SeatsMade.{StagedWords, staged_made}
use Rattle.tie_core.proofs.VisitParts as visits
use Rattle.tie_core.proofs.SeatSteps as seats
use Rattle.tie_core.proofs.DeskParts as parts
use Rattle.tie_core.specs.contracts.desk.Desk.adopt.{ended, clauses}
use Rattle.tie_core.specs.contracts.desk.Desk.adopt.Key.{name as #self}
use Rattle.tie_core.proofs.desk.Desk.adopt.Statement.{statement}
use Rattle.tie_core.proofs.desk.Desk.adopt.Code as code

pub adopt_spec : {M : Type 1} → statement M
unfolding Rattle.atomic_table.specs.Seated.seal
adopt_spec 𝓤 𝓛 𝓜 𝓡 wired T U Q P Ov _ _ _ _ _ g d g₂ d₂ g₃ d₃ g₄ d₄ g' d' _ _ _ _ _ =
    let H = 𝓛.H in let 𝓣 = tables 𝓤 H 𝓜 𝓡 𝓡.env in let R : RattleType = param 0 T in let W : RattleType = param 1 U in let X : RattleType = param 2 Q in let Y : RattleType = param 3 P in
    let En = ended T U Q P Ov g d g₂ d₂ g₃ d₃ g₄ d₄ g' d' in let c = clauses T U Q P Ov g d g₂ d₂ g₃ d₃ g₄ d₄ g' d' 𝓛 𝓜.mem 𝓡.returns in
    let inst = bounded (a_type ∷ a_type ∷ a_type ∷ a_type ∷ a_type ∷ []) (T, (U, (Q, (P, (Ov, tt))))) (dcons d (dcons d₂ (dcons d₃ (dcons d₄ (dcons d' dnil))))) in let fn = inst_fn inst code.function in
    let Row : RattleType = table.the_row R W X Y g in let Dr : RattleType = desk.the_row R W X Y g in let Br : RattleType = badge.the_row W in let Tr : RattleType = tag.the_row W Y g₂ in let Er : RattleType = entry_tag.the_row W Y g₃ in let Pr : RattleType = PlacedSeat.the_row in let Sr : RattleType = StagedSeats.the_row in
    let lent = RefOf (0 ∷ []) tt (plain (λ _. Row)) (λ _. tt) in let by_desk = RefOf (1 ∷ []) tt (plain (λ _. Dr)) (λ _. tt) in let seat = plain (λ _. Br) in let number = plain (λ _. u64) in
    let hs : Stays En.signature.params En.kept = (stay_dropped lent yes, (stay_dropped by_desk yes, (stay_ref (2 ∷ []) tt seat, (stay_dropped number yes, (stay_dropped number yes, tt))))) in
    proved 𝓛 En hs c 𝓜 𝓡 (Goes-dropped 𝓛 8 lent yes (λ κs x f. refl), (Goes-dropped 𝓛 8 by_desk yes (λ κs x f. refl), (Goes-ref 𝓛 8 2 tt seat, (Goes-dropped 𝓛 8 number yes (λ κs x f. refl), (Goes-dropped 𝓛 8 number yes (λ κs x f. refl), tt)))))
    (#self inst) fn (code.unfolded 𝓤 H 𝓜 𝓡 wired (T, (U, (Q, (P, (Ov, tt))))) d d₂ d₃ d₄ d')
    (λ κs. (shr_vals, (shr_vals, (mut_vals, (uint_vals w64, (uint_vals w64, tt)))))) (λ κs. (shr_Tells (named 0) κs.0 Row, (shr_Tells (named 1) κs.1.0 Dr, (mut_Tells (named 2) κs.1.1.0 Br, (uint_Tells w64, (uint_Tells w64, tt)))))) (λ κs qs bounds a gh are.
    let cv : Coded U.Denot = W.coded in
    let z : TableId = a.0.now.table_id in let D : Dr.Denot = a.1.0.now in let zd : TableId = D.table_id in let w : Ptr = D.words in let j : ℕ = D.floor in let holds = g.holds D.key in let J : Fml = content R cv.code holds w zd in let α : Lft = age zd in
    let b : ℕ = a.1.1.0.ref_ptr.0 in let o : ℕ = a.1.1.0.ref_ptr.1 in let h : Br.Denot = a.1.1.0.now in let id : ℕ = h.id in let from : ℕ = a.1.1.1.0 in let n : ℕ = a.1.1.1.1.0 in let f : ℕ → Stage = g₄.opened_at D.key in let ss : List Stage = stages_from f from n in let x : U.Denot = g₃.placed from n in
    let A₁ : Type 0 = (zd ≡ z) × (h.table_id ≡ z) in let A₂ : Type 0 = (v : U.Denot) × (h.views ≡ v ∷ []) × PermitsAdoption holds id v g₂.shows ss x (g'.then from v None) in
    let ps : List Val = vptr a.0.ref_ptr.0 a.0.ref_ptr.1 ∷ vptr a.1.0.ref_ptr.0 a.1.0.ref_ptr.1 ∷ vptr b o ∷ vint w64 from ∷ vint w64 n ∷ [] in
    let y : (walk_of 𝓛 En hs c).Ghost = ((κs, qs, bounds, a, (vptr a.0.ref_ptr.0 a.0.ref_ptr.1 ∷ [], (vptr a.1.0.ref_ptr.0 a.1.0.ref_ptr.1 ∷ [], (vptr b o ∷ [], (vint w64 from ∷ [], (vint w64 n ∷ [], tt)))))), gh) in let Post : Val → SProp 𝓤 = (walk_of 𝓛 En hs c).post y in
    let others : Fml = fsep (flft κs.1.1.1.0 qs.1.1.1.0) (fsep (flft κs.1.1.1.1.0 qs.1.1.1.1.0) (fsep (flft κs.1.1.1.1.1.0 qs.1.1.1.1.1.0) (fsep (flft κs.1.1.1.1.1.1.0 qs.1.1.1.1.1.1.0) (fsep (flft κs.1.1.1.1.1.1.1.0 qs.1.1.1.1.1.1.1.0) ftrue)))) in
    qed 𝓛 (((‵ (flft κs.0 qs.0) ⊛ ‵ (flft κs.1.0 qs.1.0) ⊛ ‵ (flft κs.1.1.0 qs.1.1.0) ⊛ ‵ others) ⊛ ‵ (owns (types_at En.signature.params κs) a y.0.4)) ∷ raw (fact 𝓤 _) ∷ raw (fact 𝓤 _) ∷ raw (fact 𝓤 _) ∷ raw (fact 𝓤 _) ∷ raw (fact 𝓤 _) ∷ raw (fact 𝓤 A₁) ∷ raw (fact 𝓤 A₂) ∷ []) ∵
    keep ! (6 ∷ 7 ∷ 0 ∷ []) $ heard ! A₁ (λ same. heard ! A₂ (λ asked. let v : U.Denot = asked.0 in let told : U.Denot → Type 0 = g'.then from v None in split ! $ split3 ! $ move ! (2 ∷ []) $ split ! $
    -- [the badge's token; the others; the table's; the desk's; what the arguments own]
    move ! (4 ∷ []) $ fsplit3 ! $ fsplit ! $ move ! (2 ∷ []) $ fsplit ! $ move ! (4 ∷ []) $ fsplit ! $ fsplit3 ! $ keep ! (7 ∷ 5 ∷ 1 ∷ 2 ∷ 8 ∷ 10 ∷ 11 ∷ 9 ∷ []) $
    -- [the table; the desk; the badge, in two parts; its token; the table's token; the desk's; the others]
    unhide ! $ fsplit ! $ drop ! $ fsplit ! $ move ! (1 ∷ []) $ drop ! $ move ! (1 ∷ []) $ unhide ! $ fsplit ! $ drop ! $
    enter ! 𝓣.C 𝓣.Λ fn ps Post $ alloc_all ! (λ l. pass_all ! refl ((tt, tt), ((tt, tt), ((tt, tt), ((tt, record { fits = are.1.1.1.0.1 }), ((tt, record { fits = are.1.1.1.1.0.1 }), tt))))) $
    -- [the desk; the lifetime; the badge, in two parts; its token; the table's token; the desk's; the others]
    move ! (2 ∷ 3 ∷ 4 ∷ []) $ opens ! tt Br b o (λ ts. move ! (1 ∷ []) $ fsplit ! $ move ! (1 ∷ []) $
    rewrite ! 0 (λ (u : TableId × List U.Denot). ‵ (badge_owns cv.code u.0 id u.1)) (λ i. ((same.1 ∙ sym same.0) i, asked.1 i)) refl $
    -- [the seat; the badge's words; four of what is open; the desk; the lifetime; the table's token; the desk's; the others]
    move ! (7 ∷ 8 ∷ []) $ shr_bor-open ! tt (tokens_halve 𝓛 (age z)) (λ s. rewrite ! 1 (λ (u : TableId). ‵ (flft (age u) s)) (sym same.0) refl $ move ! (8 ∷ 1 ∷ 2 ∷ []) $
    let Made : ℕ → Fml = seats.Adopted 𝓛 R cv holds w zd g₂.shows j f from n id x told in
    use3 𝓛 (later (‵ (fex ℕ Made) ⊛ ‵ (flft α s))) (parts.adopting 𝓛 R cv holds w zd g₂.shows f from n j id v x told asked.2 s) $ await ! tt $ split ! $ fpick ! (λ k. fsplit3 ! $
    -- [the seats of the cells; the block's; the caller's; the lifetime's token; what is open; the badge's words; four of what is open; the desk's token; the others]
    rewrite ! 3 (λ (u : TableId). ‵ (flft (age u) s)) same.0 refl $ move ! (4 ∷ 3 ∷ []) $ obor_close ! tt $ drop ! $ move ! (3 ∷ []) $ fpick ! (λ u. fsplit ! $ fpick ! (λ so. drop ! $
    -- [the caller's seat; the table's token; the seats of the cells; the block's; the badge's words; four of what is open; the desk's token; the others]
    let t : Tie = tie_at cv.code g₂.shows zd j k in let e : EntryTie = record { views = zd.views_name; floor = j; own = k; empty = cv.code (g₃.empty from n); placed = cv.code x } in let h' : Br.Denot = record h { table_id = zd; views = u ∷ [] } in
    move ! (4 ∷ 0 ∷ []) $ fjoin ! $ move ! (4 ∷ 0 ∷ 5 ∷ 6 ∷ 7 ∷ []) $ closes ! tt Br h' ts b o $ feq_i ! (List Val) (vptr b o ∷ []) (vptr b o ∷ []) refl $ fjoin3 ! $
    -- [the badge; its token; the table's; the seats of the cells; the block's; the desk's token; the others]
    nothing ! $ nothing ! $ fjoin ! $ nothing ! $ fjoin ! $ move ! (1 ∷ 0 ∷ []) $ fjoin ! $ nothing ! $ fjoin ! $ nothing ! $ fjoin ! $
    move ! (1 ∷ 6 ∷ []) $ join ! $ move ! (5 ∷ 0 ∷ []) $ join ! $ move ! (2 ∷ 0 ∷ []) $ join ! $ move ! (2 ∷ 3 ∷ []) $
    -- [the seats of the cells; the block's; the tokens; what stays]
    let made : Sr.Denot = record { marker = record {}; ties = row_of t n; stages = ss } in let first : Tr.Denot = record { marker = record {}; tie = t } in
    let block : Pr.Denot = record { marker = record {}; tie = e; number = k + n } in let entry : Er.Denot = record { marker = record {}; tie = e; from = from; n = n } in
    let val : Val = vstruct (vcons token_val (vcons token_val (vcons token_val (vcons token_val vnil)))) in
    use0 𝓛 (‵ (StagedWords.own_val (tt, tt) (token_val ∷ []))) (staged_made 𝓛) $ fjoin ! $ move ! (1 ∷ []) $
    use0 𝓛 (‵ (visits.PlacedSeatWords.own_val (tt, tt) (token_val ∷ []))) (visits.placed_seat_words 𝓛) $ fjoin ! $
    nothing ! $ fpack ! (HasEntryCodes cv.code (g₃.empty from n) x e) (λ _. ftrue) (record { empty = refl; placed = refl }) $ use0 𝓛 (‵ ((visits.EntryTagWords W Y g₃).own_val (tt, tt) (token_val ∷ []))) (visits.entry_tag_words W Y g₃ 𝓛) $ fjoin ! $
    nothing ! $ fpack ! (HasCodes cv.code g₂.shows t) (λ _. ftrue) (seats.codes_at cv.code g₂.shows zd j k) $ use0 𝓛 (‵ ((parts.TagWords W Y g₂).own_val (tt, tt) (token_val ∷ []))) (parts.tag_words W Y g₂ 𝓛) $ fjoin ! $
    -- [the tag; the entry's tag; the block's seat; the cells' seats; the tokens; what stays]
    nothing ! $ move ! (2 ∷ 0 ∷ []) $ fjoin ! $ move ! (2 ∷ 0 ∷ []) $ fjoin ! $ move ! (1 ∷ 0 ∷ []) $ fjoin ! $ move ! (1 ∷ 0 ∷ []) $ fjoin ! $ feq_i ! (List Val) (val ∷ []) (val ∷ []) refl $ fjoin ! $
    fpack ! (Valss (Sr ∷ Tr ∷ Pr ∷ Er ∷ [])) (λ uss. fsep (feq (List Val) (val ∷ []) (vstruct (of_list (uss.0 ++ (uss.1.0 ++ (uss.1.1.0 ++ (uss.1.1.1.0 ++ []))))) ∷ [])) (owns (Sr ∷ Tr ∷ Pr ∷ Er ∷ []) (made, (first, (block, (entry, tt)))) uss))
    (token_val ∷ [], (token_val ∷ [], (token_val ∷ [], (token_val ∷ [], tt)))) $
    -- [the result; the tokens; what stays]
    sets ! (agg ! (no_more !)) refl (tt, tt) $ sets ! (agg ! (and_then ! (get ! refl) (no_more !))) refl (tt, (tt, tt)) $ sets ! (agg ! (no_more !)) refl (tt, tt) $ sets ! (agg ! (and_then ! (get ! refl) (no_more !))) refl (tt, (tt, tt)) $
    sets ! (agg ! (no_more !)) refl (tt, tt) $ sets ! (agg ! (and_then ! (get ! refl) (no_more !))) refl (tt, (tt, tt)) $ sets ! (agg ! (no_more !)) refl (tt, tt) $ sets ! (agg ! (and_then ! (get ! refl) (no_more !))) refl (tt, (tt, tt)) $
    sets ! (agg ! (and_then ! (get ! refl) (and_then ! (get ! refl) (and_then ! (get ! refl) (and_then ! (get ! refl) (no_more !)))))) refl (tt, ((tt, tt), ((tt, tt), ((tt, tt), ((tt, tt), tt))))) $
    let E₁ : Type 0 = (row_of t n ≡ row_of t n) × (length (row_of t n) ≡ n) × (ss ≡ ss) × (length ss ≡ n) in let E₂ : Type 0 = IsTieOf z j t in let E₃ : Type 0 = IsEntryOf z j e × (e ≡ e) × (from ≡ from) × (n ≡ n) × (k + n ≡ t.id + n) in
    let E₄ : Type 0 = (zd ≡ h.table_id) × (id ≡ id) × ((x : U.Denot) × (y : U.Denot) × (h.views ≡ x ∷ []) × (h'.views ≡ y ∷ []) × g'.then from x None y) in
    use0 𝓛 (raw (fact 𝓤 E₄)) (fact_i 𝓤 E₄ (emp 𝓤) (same.0 ∙ sym same.1, refl, (v, u, asked.1, refl, so))) $
    use0 𝓛 (raw (fact 𝓤 E₃)) (fact_i 𝓤 E₃ (emp 𝓤) (record { views = ap (λ (x : TableId). x.views_name) same.0; floor = refl }, refl, refl, refl, refl)) $ join ! $
    use0 𝓛 (raw (fact 𝓤 E₂)) (fact_i 𝓤 E₂ (emp 𝓤) (record { views = ap (λ (u : TableId). u.views_name) same.0; floor = refl; free = refl })) $ join ! $
    use0 𝓛 (raw (fact 𝓤 E₁)) (fact_i 𝓤 E₁ (emp 𝓤) (refl, parts.row_length t n, refl, parts.stages_length f from n)) $ join ! $
    returns ! (look_at ! 0 refl) $ free_all ! refl $ keep ! (2 ∷ 3 ∷ 1 ∷ 0 ∷ []) $ by ! (leaves 𝓛 En hs c y val (made, first, block, entry) (tt, (tt, (h', (tt, (tt, tt))))) (tt, (tt, (tt, (tt, (tt, tt)))))))))))))))
