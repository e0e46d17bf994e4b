-- `fix_for` runs the caller's update at the stage of a cell, which gives up its seat.
use Rattle.std.specs.Prelude.{Option, Some, None}
use Rattle.std.proofs.Common.{◌≡◌, ℕ, ◌+◌, ◌*◌, ◌/◌, ◌%◌, ◌<◌, List, [], ◌∷◌, length, set, refl, w64}
use mir.Syntax.{Ty, a_type, dcons, dnil, named}
use mir.Val.{Val, vint, vptr}
use mir.MapTy.{inst_fn}
use base.Logic.{SProp, wand, emp, apply∗, all, all_e}
use base.Fml.{Lft, Share, Fml, ftrue, fsep, flft}
use types.Logic.{sem}
use types.Kit.{‵, raw, ◌⊛◌, some, given, later, ◌$◌, ◌∵◌, !, qed, by, move, keep, use0, use1, use2, use3, split, split3, join, fsplit, fsplit3, fjoin, fjoin3, fpick, pick, learn, await, rewrite, feq_i}
use types.Run.{of_opd, returns, enter}
use types.ByLocal.{alloc_all, pass_all, free_all, look_at, get, sets}
use contract.Running.{tables}
use contract.Monad.{fact, fact_i}
use contract.Shared.{Lends-one}
use denote.Exit.{yes, no}
use denote.RattleType.{RattleType, owns}
use denote.Ref.{mut_vals, mut_Tells}
use denote.Signature.{types_at, plain, named_lft}
use denote.RawPtr.{Ptr, block_of, count_of}
use denote.Steps.{nothing, heard, opens, closes}
use denote.Param.{param, bounded}
use denote.Builtin.{u64}
use denote.Plain.{uint_vals, uint_Tells}
use denote.Triple.Walked.{Stays, stay_dropped, stay_ref, walk_of, Goes-dropped, Goes-ref}
use Rattle.atomic_table.proofs.Walks.{proved, leaves}
use Rattle.tie_core.specs.Tie.{Tie, Step, looks, Stage, Made, offer_owns}
use Rattle.tie_core.specs.contracts.offer.Offer as Offer
use Rattle.tie_core.proofs.OfferMade.{OfferWords, offer_told, offer_made}
use Rattle.cell_core.specs.Fields.{pack}
use Rattle.cell_core.specs.Slot.{Names, Rest, cell_in, stage, state, room_at}
use Rattle.cell_core.specs.Laid.{Extent, laid, still, lying}
use Rattle.cell_core.specs.Fixed.{FixesOne, fixed_cell}
use Rattle.cell_core.specs.contracts.block.steps.Laid as loose
use Rattle.cell_core.proofs.CellMade.{token_val}
use Rattle.cell_core.proofs.Fields.{pack_ap, put_own}
use Rattle.cell_core.proofs.FixedCells.{fixes, fixes_one}
use Rattle.cell_core.proofs.LaidParts as parts
use Rattle.cell_core.specs.contracts.block.steps.Laid.fix_for.{ended, clauses}
use Rattle.cell_core.specs.contracts.block.steps.Laid.fix_for.Key.{name as #self}
use Rattle.cell_core.proofs.block.steps.Laid.fix_for.Statement.{statement}
use Rattle.cell_core.proofs.block.steps.Laid.fix_for.Code as code

pub fix_for_spec : {M : Type 1} → statement M
fix_for_spec 𝓤 𝓛 𝓜 𝓡 wired T Al X K _ _ _ _ ga da dd g dict _ _ _ =
    let H = 𝓛.H in let A = 𝓛.A in let 𝓣 = tables 𝓤 H 𝓜 𝓡 𝓡.env in let R : RattleType = param 0 T in let Z : RattleType = param 1 Al in let Xr : RattleType = param 2 X in let Kr : RattleType = param 3 K in let Lo : RattleType = loose.the_row R Z ga in
    let En = ended T Al X K ga da dd g dict in let c = clauses T Al X K ga da dd g dict 𝓛 𝓜.mem 𝓡.returns in
    let inst = bounded (a_type ∷ a_type ∷ a_type ∷ a_type ∷ []) (T, (Al, (X, (K, tt)))) (dcons da (dcons dd (dcons dict dnil))) in let fn = inst_fn inst code.function in
    let self = plain (λ _. Lo) in let index = plain (λ _. u64) in let item = plain (λ κs. Offer.the_row (named_lft 6 1 tt κs) Xr Kr g) in
    let hs : Stays En.signature.params En.kept = (stay_ref (0 ∷ []) tt self, (stay_dropped index yes, (stay_dropped item no, tt))) in
    proved 𝓛 En hs c 𝓜 𝓡 (Goes-ref 𝓛 6 0 tt self, (Goes-dropped 𝓛 6 index yes (λ κs x f. refl), (Goes-dropped 𝓛 6 item no (λ κs x f. refl), tt))) (#self inst) fn (code.unfolded 𝓤 H 𝓜 𝓡 wired (T, (Al, (X, (K, tt)))) da dd dict)
    (λ κs. (mut_vals, (uint_vals w64, ((λ f. token_val ∷ []), tt)))) (λ κs. (mut_Tells (named 0) κs.0 Lo, (uint_Tells w64, ((λ f vs so. offer_told (named_lft 6 1 tt κs) Xr Kr g vs so.0), tt)))) (λ κs qs bounds a gh are.
    let Or : RattleType = Offer.the_row (named_lft 6 1 tt κs) Xr Kr g in let b' : ℕ = a.0.ref_ptr.0 in let o' : ℕ = a.0.ref_ptr.1 in let h : Lo.Denot = a.0.now in let x : Extent = h.rows in let token : Ty → Ptr → Fml = ga.dealloc_token h.heap in let cs : List Names = h.cells in
    let j : ℕ = a.1.0 in let i : ℕ = j % 16 in let f : Or.Denot = a.1.1.0 in let tie : Tie = f.tie in let θ : Lft = g.age f.about in let J : Fml = g.inner f.about in let gain : Stage → Stage → Fml = g.gain f.about in
    let μ : Lft = κs.1.0 in let q : Share = qs.1.0 in let γ : Names = cell_in cs j in let b : ℕ = block_of x.at in let o : ℕ = count_of x.at in let d : ℕ = block_of x.rooms in let e : ℕ = count_of x.rooms in
    let Asked : Type 0 = (j < length cs) × (γ.tied ≡ Some tie) × (f.step ≡ looks) × (f.made ≡ None) in
    let others : Fml = fsep (flft κs.1.1.0 qs.1.1.0) (fsep (flft κs.1.1.1.0 qs.1.1.1.0) (fsep (flft κs.1.1.1.1.0 qs.1.1.1.1.0) (fsep (flft κs.1.1.1.1.1.0 qs.1.1.1.1.1.0) ftrue))) in
    let y : (walk_of 𝓛 En hs c).Ghost = ((κs, qs, bounds, a, (vptr b' o' ∷ [], (vint w64 j ∷ [], (token_val ∷ [], tt)))), gh) in let Post : Val → SProp 𝓤 = (walk_of 𝓛 En hs c).post y in
    qed 𝓛 (((‵ (flft κs.0 qs.0) ⊛ ‵ (flft μ q) ⊛ ‵ others) ⊛ ‵ (owns (types_at En.signature.params κs) a y.0.4)) ∷ raw (fact 𝓤 _) ∷ raw (fact 𝓤 _) ∷ raw (fact 𝓤 _) ∷ raw (fact 𝓤 _) ∷ raw (fact 𝓤 Asked) ∷ []) ∵
    keep ! (5 ∷ 0 ∷ []) $ heard ! Asked (λ asked. split ! $ split3 ! $ move ! (3 ∷ []) $ fsplit ! $ fsplit3 ! $ move ! (3 ∷ []) $ fsplit3 ! $ move ! (1 ∷ []) $ fsplit ! $ keep ! (5 ∷ 6 ∷ 7 ∷ 1 ∷ 8 ∷ 9 ∷ []) $
    -- [the rows, in two parts; their token; the offer; its token; the others]
    rewrite ! 3 (λ (u : Step × Option Made). ‵ (offer_owns θ J gain tie u.0 μ u.1)) (λ l. (asked.2 l, asked.3 l)) refl $
    enter ! 𝓣.C 𝓣.Λ fn (vptr b' o' ∷ vint w64 j ∷ token_val ∷ []) Post $ alloc_all ! (λ l. pass_all ! refl ((tt, tt), ((tt, record { fits = are.1.0.1 }), ((tt, (tt, tt)), tt))) $
    opens ! tt Lo b' o' (λ ts. move ! (1 ∷ []) $ fsplit ! $
    -- [the words; the rows; four of what is open; the offer; its token; the others]
    move ! (6 ∷ []) $ fsplit3 ! $ move ! (0 ∷ 9 ∷ []) $ use2 𝓛 (later (some (λ (v : Share). ‵ (flft θ v) ⊛ raw (wand 𝓤 (A.lft θ v) (H.⇛ (A.lft μ q)))))) (Lends-one 𝓛 𝓜 𝓡 μ θ q) $ await ! tt $ pick ! (λ v. split ! $
    -- [the table's token; its way back; the table's invariant; the update; the words; the rows; four of what is open; the others]
    move ! (5 ∷ []) $ let Way : List Names × ℕ → Names → SProp 𝓤 = parts.Put 𝓛 R token x cs j in
    use1 𝓛 (given (parts.Near 𝓛 R token x j) (some (λ (w : List Names × ℕ). given (parts.IsIn R cs e j w) (‵ (still R w.0 b (j / 16 * 8 + o) d w.1) ⊛ raw (all 𝓤 (Way w)))))) (parts.laid_at 𝓛 R token x cs j asked.0) $ learn ! (λ near. pick ! (λ w. learn ! (λ isin. split ! $
    let W : List Names = w.0 in let r : ℕ = w.1 in let O : ℕ = j / 16 * 8 + o in fpick ! (λ s. fsplit ! $ let fields : ℕ → ℕ = λ l. state (s l).1 in let n : ℕ = pack W fields in let a' : Stage = stage (s i).1 in let γ' : Names = fixed_cell γ a' in let Into : Names × Rest R.Denot → SProp 𝓤 = parts.Rested 𝓛 R W d r s i in
    move ! (1 ∷ []) $ use1 𝓛 (‵ (lying R d (room_at R r i) (cell_in W i) (s i)) ⊛ raw (all 𝓤 Into)) (parts.rests_at 𝓛 R W d r s i isin.near) $ split ! $ rewrite ! 0 (λ (u : Names). ‵ (lying R d (room_at R r i) u (s i))) isin.names refl $
    -- [the cell; the way back into the word; the word; the way back; the table's token; its way back; its invariant; the update; the words; four of what is open; the others]
    move ! (4 ∷ 7 ∷ []) $ join ! $ move ! (1 ∷ 6 ∷ 0 ∷ []) $
    use3 𝓛 (later (‵ (lying R d (room_at R r i) γ' (s i)) ⊛ ‵ (gain a' a') ⊛ ‵ (flft θ v))) (fixes 𝓛 θ J gain tie R γ (s i) d (room_at R r i) v asked.1) $ await ! tt $ split3 ! $
    -- [the cell; the gain; the table's token; the way back into the word; the word; the way back; the token's way back; the words; four of what is open; the others]
    move ! (2 ∷ 6 ∷ []) $ use2 𝓛 (later (‵ (flft μ q))) (apply∗ 𝓤 (A.lft θ v) (H.⇛ (A.lft μ q))) $ await ! tt $
    -- [the offer's token; the cell; the gain; the way back into the word; the word; the way back; the words; four of what is open; the others]
    move ! (4 ∷ 1 ∷ 3 ∷ []) $ use3 𝓛 (‵ (still R (set W i γ') b O d r)) (parts.closes_word 𝓛 R W b O d r s i γ' (s i) n (pack_ap W (put_own i fields))) $
    move ! (3 ∷ []) $ use1 𝓛 (raw (Way w γ')) (all_e 𝓤 (Way w) γ') $ move ! (1 ∷ 0 ∷ []) $ use2 𝓛 (‵ (laid R token x (set cs j γ'))) (apply∗ 𝓤 (sem 𝓛 (still R (set W i γ') b O d r)) (sem 𝓛 (laid R token x (set cs j γ')))) $
    -- [the rows; the offer's token; the gain; the words; four of what is open; the others]
    let h' : Lo.Denot = record { marker = h.marker; heap = h.heap; rows = x; cells = set cs j γ' } in
    sets ! (of_opd ! (get ! refl)) refl (tt, (tt, tt)) $ move ! (3 ∷ 0 ∷ []) $ fjoin ! $ move ! (3 ∷ 0 ∷ 4 ∷ 5 ∷ 6 ∷ []) $
    closes ! tt Lo h' ts b' o' $ feq_i ! (List Val) (vptr b' o' ∷ []) (vptr b' o' ∷ []) refl $ fjoin3 ! $ nothing ! $ nothing ! $ fjoin ! $ nothing ! $ fjoin ! $ move ! (1 ∷ 0 ∷ []) $ fjoin ! $
    -- [what stays; the rows' token; the offer's; the gain; the others]
    move ! (2 ∷ 4 ∷ []) $ join ! $ move ! (2 ∷ 0 ∷ []) $ join ! $
    let f' : Or.Denot = record { marker = record {}; tie = tie; about = f.about; step = f.step; made = Some (a', a') } in
    let Told : Type 0 = (h.heap ≡ h.heap) × (x ≡ x) × (tie ≡ tie) × (f.about ≡ f.about) × ((s' : Stage) × FixesOne cs j h'.cells s' × (f'.made ≡ Some (s', s'))) in
    use0 𝓛 (raw (fact 𝓤 Told)) (fact_i 𝓤 Told (emp 𝓤) (refl, refl, refl, refl, (a', fixes_one cs j tie a' asked.0 asked.1, refl))) $
    move ! (3 ∷ []) $ use0 𝓛 (‵ ((OfferWords (named_lft 6 1 tt κs) Xr Kr g).own_val (record {}, tt) (token_val ∷ []))) (offer_made (named_lft 6 1 tt κs) Xr Kr g 𝓛) $ fjoin ! $
    returns ! (look_at ! 0 refl) $ free_all ! refl $ keep ! (2 ∷ 3 ∷ 0 ∷ 1 ∷ []) $ by ! (leaves 𝓛 En hs c y token_val f' (h', (tt, (tt, tt))) (tt, (tt, (tt, tt)))))))))))))
