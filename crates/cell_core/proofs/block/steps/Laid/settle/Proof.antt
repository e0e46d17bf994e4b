-- `settle` keeps a filled cell, and sets the state of a cell that an owner broke in any other, which takes fresh names.
use lib.Seq.{set-get_or}
use Rattle.std.proofs.Common.{◌≡◌, ℕ, ◌+◌, length, set, ◌*◌, ◌/◌, ◌%◌, ◌^◌, ◌<◌, List, [], ◌∷◌, sym, refl, ap, subst, arith, w64, ◌-◌, lit<}
use Rattle.std.specs.Prelude.{None}
use mir.Syntax.{Ty, a_type, dcons, dnil, named}
use mir.Val.{Val, vint, vptr}
use mir.MapTy.{inst_fn}
use base.Logic.{SProp, ent, emp, id⊢, apply∗, all, all_e}
use base.Fml.{Fml, ftrue, fsep, flft, froom}
use mir.Syntax.{ty_int}
use prog.Wp.{WpFn}
use types.Logic.{sem}
use types.Kit.{◌∵◌, ‵, raw, ◌⊛◌, given, some, later, await, pick, at_ret, ◌$◌, !, qed, by, move, keep, use0, use1, use2, use3, split, join, fsplit, fsplit3, fjoin, fjoin3, fpick, learn, suffices, rewrite, feq_i, drop}
use types.Run.{stop, fld, load, look_raw, store, of_opd, bin, first, blocks, exec, returns, enter, assigns_last, lit}
use types.ByLocal.{alloc_all, pass_all, free_all, look_at, get, get_in, through, sets, env}
use types.Part.{sub, whole as all_of_it}
use contract.Running.{tables}
use contract.Monad.{fact, fact_i}
use denote.Exit.{yes, no}
use denote.RattleType.{RattleType, owns}
use denote.Signature.{types_at, plain}
use denote.RawPtr.{Ptr, block_ptr, block_of, count_of}
use denote.Param.{layout}
use mir.Raw.{raw as bare}
use mir.Val.{has_ty, WT}
use base.Fraction.{full_share}
use lib.Bits.{bit_and, and_lt}
use Rattle.cell_core.specs.Fields.{pack}
use Rattle.cell_core.specs.contracts.block.steps.Link as link
use Rattle.cell_core.proofs.CellMade.{pointers_val, pointers_good}
use Rattle.cell_core.proofs.LaidMade.{link_told}
use Rattle.cell_core.proofs.Fields.{Fit, sets_field, sets_small, moved_fits, cleared_is, cleared_below, moved_apart, pack_ap, put_own}
use Rattle.cell_core.proofs.WordSteps.{states_fit}
use Rattle.cell_core.proofs.RestParts as rest
use denote.Steps.{nothing, heard, opens, closes}
use denote.Param.{param, bounded}
use denote.Builtin.{usize, u64}
use denote.Ref.{mut_vals, mut_Tells, shr_vals, shr_Tells}
use denote.Builtin.{RefOf}
use base.Fml.{Lft, fex}
use Rattle.std.specs.Prelude.{Some}
use Rattle.std.proofs.Common.{◌∙◌, ◌≢◌}
use Rattle.cell_core.specs.Slot.{broken_by_owner, written}
use Rattle.cell_core.specs.Member.{MemberView, unfilled, Settles}
use Rattle.cell_core.specs.contracts.slot.epoch.RawEpoch as RawEpoch
use Rattle.cell_core.specs.contracts.slot.member.RawMember as member
use Rattle.cell_core.proofs.MemberParts.{member_made, never_gets}
use Rattle.cell_core.proofs.CellMade.{token_val}
use types.Run.{no_more, and_then, branches, skips}
use types.Part.{agg}
use denote.Plain.{uint_vals, uint_Tells}
use denote.Triple.Walked.{Stays, stay_dropped, stay_ref, walk_of, Goes-dropped, Goes-ref}
use Rattle.core.proofs.atomic.Steps.{tail}
use Rattle.atomic_table.proofs.Walks.{proved, leaves}
use Rattle.cell_core.specs.Slot.{Names, Rest, cell_in, stage, state, step, room_at, word, resting, mark}
use Rattle.cell_core.specs.Laid.{Extent, laid, still, lying, IsLinked, IsFixedAt}
use Rattle.tie_core.specs.Tie.{Broken}
use Rattle.cell_core.specs.Fixed.{HasValueByStage}
use Rattle.cell_core.proofs.Stages.{AgreesAt, shown_at, value_by_state, no_value_by_stage}
use Rattle.cell_core.proofs.FixedCells.{still_at}
use Rattle.cell_core.specs.contracts.block.steps.Laid as loose
use Rattle.cell_core.proofs.LaidParts as parts
use Rattle.cell_core.specs.contracts.block.steps.Laid.settle.{ended, clauses}
use Rattle.cell_core.specs.contracts.block.steps.Laid.settle.Key.{name as #self}
use Rattle.cell_core.proofs.block.steps.Laid.settle.Statement.{statement}
use Rattle.cell_core.proofs.block.steps.Laid.settle.Code as code

pub settle_spec : {M : Type 1} → statement M
settle_spec 𝓤 𝓛 𝓜 𝓡 wired T Al L _ ga da dd _ _ =
    let H = 𝓛.H in let 𝓣 = tables 𝓤 H 𝓜 𝓡 𝓡.env in let R : RattleType = param 0 T in let Z : RattleType = param 1 Al in let Lk : RattleType = link.the_row R in let Lo : RattleType = loose.the_row R Z ga in let En = ended T Al ga da dd in let c = clauses T Al ga da dd 𝓛 𝓜.mem 𝓡.returns in
    let inst = bounded (a_type ∷ a_type ∷ []) (T, (Al, tt)) (dcons da (dcons dd dnil)) in let fn = inst_fn inst code.function in
    let Mb : RattleType = member.the_row R in let time = RefOf (1 ∷ []) tt (plain (λ _. RawEpoch.the_row)) (λ _. tt) in
    let hs : Stays En.signature.params En.kept = (stay_ref (0 ∷ []) tt (plain (λ _. Lo)), (stay_dropped (plain (λ _. Lk)) no, (stay_dropped (plain (λ _. usize)) yes, (stay_dropped (plain (λ _. usize)) yes, (stay_dropped (plain (λ _. u64)) yes, (stay_dropped (plain (λ _. u64)) yes, (stay_dropped (plain (λ _. u64)) yes, (stay_dropped time yes, tt)))))))) in
    proved 𝓛 En hs c 𝓜 𝓡 (Goes-ref 𝓛 4 0 tt (plain (λ _. Lo)), (Goes-dropped 𝓛 4 (plain (λ _. Lk)) no (λ κs x f. refl), (Goes-dropped 𝓛 4 (plain (λ _. usize)) yes (λ κs x f. refl), (Goes-dropped 𝓛 4 (plain (λ _. usize)) yes (λ κs x f. refl), (Goes-dropped 𝓛 4 (plain (λ _. u64)) yes (λ κs x f. refl), (Goes-dropped 𝓛 4 (plain (λ _. u64)) yes (λ κs x f. refl), (Goes-dropped 𝓛 4 (plain (λ _. u64)) yes (λ κs x f. refl), (Goes-dropped 𝓛 4 time yes (λ κs x f. refl), tt)))))))) (#self inst) fn (code.unfolded 𝓤 H 𝓜 𝓡 wired (T, (Al, tt)) da dd)
    (λ κs. (mut_vals, ((λ x. pointers_val x.words x.rooms ∷ []), (uint_vals w64, (uint_vals w64, (uint_vals w64, (uint_vals w64, (uint_vals w64, (shr_vals, tt))))))))) (λ κs. (mut_Tells (named 0) κs.0 (Lo), (link_told R, (uint_Tells w64, (uint_Tells w64, (uint_Tells w64, (uint_Tells w64, (uint_Tells w64, (shr_Tells (named 1) κs.1.0 RawEpoch.the_row, tt))))))))) (λ κs qs bounds a gh are.
    let shown : Val = vptr a.1.1.1.1.1.1.1.0.ref_ptr.0 a.1.1.1.1.1.1.1.0.ref_ptr.1 in let ε : Lft = a.1.1.1.1.1.1.1.0.now.of ∷ [] in
    let p : Ptr = a.1.0.words in let z : Ptr = a.1.0.rooms in let k : ℕ = a.1.1.0 in let j : ℕ = a.1.1.1.0 in let m : ℕ = a.1.1.1.1.0 in let i : ℕ = j % 16 in
    let fd : ℕ = a.1.1.1.1.1.0 in let fd' : ℕ = 3 * 16 ^ i in let st : ℕ = a.1.1.1.1.1.1.0 in let st' : ℕ = 9 * 16 ^ i in
    let y : (walk_of 𝓛 En hs c).Ghost = ((κs, qs, bounds, a, (vptr a.0.ref_ptr.0 a.0.ref_ptr.1 ∷ [], (pointers_val p z ∷ [], (vint w64 k ∷ [], (vint w64 j ∷ [], (vint w64 m ∷ [], (vint w64 fd ∷ [], (vint w64 st ∷ [], (shown ∷ [], tt))))))))), gh) in let Post : Val → SProp 𝓤 = (walk_of 𝓛 En hs c).post y in
    let b' : ℕ = a.0.ref_ptr.0 in let o' : ℕ = a.0.ref_ptr.1 in let h : Lo.Denot = a.0.now in let token : Ty → Ptr → Fml = ga.dealloc_token h.heap in let cs : List Names = h.cells in
    let x : Extent = record { at = p; rooms = z; words = h.rows.words; more = h.rows.more; left = h.rows.left } in let b : ℕ = block_of p in let o : ℕ = count_of p in let d : ℕ = block_of z in let e : ℕ = count_of z in let γ : Names = cell_in cs j in let k' : ℕ = j / 16 in let m' : ℕ = 2 ^ 64 - 1 - 15 * 16 ^ i in
    let Asked : Type 0 = IsLinked h.rows.at p × IsLinked h.rows.rooms z × ((j < length cs) × (k ≡ k') × (m ≡ m')) × (fd ≡ fd') × (st ≡ st') in let others : Fml = fsep (flft κs.1.0 qs.1.0) (fsep (flft κs.1.1.0 qs.1.1.0) (fsep (flft κs.1.1.1.0 qs.1.1.1.0) ftrue)) in
    qed 𝓛 (((‵ (flft κs.0 qs.0) ⊛ ‵ others) ⊛ ‵ (owns (types_at En.signature.params κs) a y.0.4)) ∷ raw (fact 𝓤 _) ∷ raw (fact 𝓤 _) ∷ raw (fact 𝓤 Asked) ∷ []) ∵
    keep ! (3 ∷ 0 ∷ []) $ heard ! Asked (λ asked. split ! $ split ! $ move ! (2 ∷ []) $ fsplit ! $ fsplit3 ! $ keep ! (1 ∷ 2 ∷ 4 ∷ 5 ∷ []) $
    let us : (Ptr × Ptr) × (ℕ × (ℕ × (ℕ × ℕ))) → List Val = λ u. vptr a.0.ref_ptr.0 a.0.ref_ptr.1 ∷ pointers_val u.0.0 u.0.1 ∷ vint w64 u.1.0 ∷ vint w64 j ∷ vint w64 u.1.1.0 ∷ vint w64 u.1.1.1.0 ∷ vint w64 u.1.1.1.1 ∷ shown ∷ [] in let Run : List Val → SProp 𝓤 = λ ws. WpFn 𝓤 H 𝓣.C 𝓣.Λ fn ws Post in let all_of : (Ptr × Ptr) × (ℕ × (ℕ × (ℕ × ℕ))) = ((block_ptr b o, block_ptr d e), (k', (m', (fd', st')))) in
    suffices ! (Run (us all_of)) (subst (λ (u : (Ptr × Ptr) × (ℕ × (ℕ × (ℕ × ℕ)))). ent 𝓤 (Run (us all_of)) (Run (us u))) (λ l. ((sym asked.0.1 l, sym asked.1.1 l), (sym asked.2.1 l, (sym asked.2.2 l, (sym asked.3 l, sym asked.4 l))))) (id⊢ 𝓤 (Run (us all_of)))) $
    let fits_k : k' < 2 ^ 64 = (let f : j < 2 ^ 64 = are.1.1.1.0.1 in omega arith) in let fits_m : m' < 2 ^ 64 = omega arith in let fits_fd : fd' < 2 ^ 64 = moved_fits 3 i (lit< tt) (omega arith) in let fits_st : st' < 2 ^ 64 = moved_fits 9 i (lit< tt) (omega arith) in
    enter ! 𝓣.C 𝓣.Λ fn (us all_of) Post $ alloc_all ! (λ l. pass_all ! refl ((tt, tt), (pointers_good all_of.0.0 all_of.0.1, ((tt, record { fits = fits_k }), ((tt, record { fits = are.1.1.1.0.1 }), ((tt, record { fits = fits_m }), ((tt, record { fits = fits_fd }), ((tt, record { fits = fits_st }), ((tt, tt), tt)))))))) $ let Ev = env fn.locals l in
    opens ! tt Lo b' o' (λ ts. move ! (1 ∷ []) $ fsplit ! $
    rewrite ! 1 (λ (u : Ptr × Ptr). ‵ (laid R token (record { at = u.0; rooms = u.1; words = x.words; more = x.more; left = x.left }) cs)) (λ l. (asked.0.0 l, asked.1.0 l)) refl $ move ! (1 ∷ []) $ let Way : List Names × ℕ → Names → SProp 𝓤 = parts.Put 𝓛 R token x cs j in
    use1 𝓛 (given (parts.Near 𝓛 R token x j) (some (λ (w : List Names × ℕ). given (parts.IsIn R cs e j w) (‵ (still R w.0 b (k' * 8 + o) d w.1) ⊛ raw (all 𝓤 (Way w)))))) (parts.laid_at 𝓛 R token x cs j asked.2.0) $ learn ! (λ near. pick ! (λ w. learn ! (λ isin. split ! $
    let W : List Names = w.0 in let r : ℕ = w.1 in let q : ℕ = room_at R r i in let q' : ℕ = j * step R + e in let O : ℕ = k' * 8 + o in fpick ! (λ s. fsplit ! $ let f : ℕ → ℕ = λ l. state (s l).1 in let n : ℕ = pack W f in let fit : Fit f = states_fit R (λ l. (s l).1) in let Into : Names × Rest R.Denot → SProp 𝓤 = parts.Rested 𝓛 R W d r s i in
    move ! (1 ∷ []) $ use1 𝓛 (‵ (lying R d q (cell_in W i) (s i)) ⊛ raw (all 𝓤 Into)) (parts.rests_at 𝓛 R W d r s i isin.near) $ split ! $ move ! (2 ∷ []) $ rewrite ! 1 (λ (u : Names × ℕ). ‵ (lying R d u.1 u.0 (s i))) (λ l. (isin.names l, isin.lies l)) refl $
    move ! (1 ∷ []) $ use1 𝓛 (given (AgreesAt γ.tied (stage (s i).1)) (‵ (lying R d q' γ (s i)))) (still_at 𝓛 R γ (s i) d q') $ learn ! (λ staged. move ! (1 ∷ 0 ∷ []) $
    -- [the word; the cell; the way back into the word; the way back; ..]
    use1 𝓛 (given (lib.Dec.T (has_ty (ty_int w64) (vint w64 n)) × WT (vint w64 n)) (‵ (word b O n))) (𝓛.laws.at_wt full_share (ty_int w64) b O (vint w64 n)) $ learn ! (λ g. let small : k' * 8 < 2 ^ 64 = (let l : k' * 8 < 2 ^ 63 = near.0 in omega arith) in let wide : j * step R < 2 ^ 64 = (let l : j * step R < 2 ^ 63 = near.1 in omega arith) in
    let n' : ℕ = bit_and n m' in let fits' : n' < 2 ^ 64 = and_lt 64 n m' g.1.fits fits_m in
    first ! $ blocks ! $ sets ! (bin ! (get ! refl) (lit ! tt) (record { fits = small })) refl (tt, record { fits = small }) $ sets ! (bin ! (get_in ! (fld ! refl (stop !)) (sub ! 0 refl (all_of_it !))) (get ! refl) tt) refl (tt, tt) $
    sets ! (of_opd ! (load ! (through ! refl (stop !)) (look_raw ! 0 refl))) refl g $ sets ! (bin ! (get ! refl) (get ! refl) tt) refl (tt, record { fits = fits' }) $
    let own : n - n' ≡ f i * 16 ^ i = cleared_is W f i fit isin.near isin.short in let diff : n - n' < 2 ^ 64 = (let l : n < 2 ^ 64 = g.1.fits in omega arith) in
    sets ! (bin ! (get ! refl) (get ! refl) (cleared_below W f i fit isin.near isin.short)) refl (tt, record { fits = diff }) $
    sets ! (bin ! (get ! refl) (get ! refl) tt) refl (tt, tt) $ branches ! (get ! refl)
    (λ hit. let N : ℕ = n' + st' in let fits_N : N < 2 ^ 64 = sets_small W f i fit isin.near isin.short 9 (lit< tt) in let other : state (s i).1 ≢ 3 = (λ same. rest.is_other (n - n') fd' hit (own ∙ ap (λ (u : ℕ). u * 16 ^ i) same)) in
    sets ! (bin ! (get ! refl) (get ! refl) (record { fits = fits_N })) refl (tt, record { fits = fits_N }) $
    assigns_last ! (of_opd ! (get ! refl)) (through ! refl (stop !)) (store ! 0 refl (tt, record { fits = fits_N })) $ exec ! 𝓣.C 𝓣.Λ Ev (tail fn.body) (at_ret Ev Post) $
    move ! (1 ∷ []) $ fsplit ! $ use1 𝓛 (‵ (froom (bare (layout T)) d q')) (rest.emptied T L 𝓛 d q' (s i).0) $ move ! (1 ∷ []) $ use1 𝓛 (‵ (rest.Blank 𝓛 R γ (s i).1)) (rest.blank_at 𝓛 R γ (s i) other) $ fsplit ! $ move ! (1 ∷ []) $ fpick ! (λ blank. drop ! $
    -- [the names; the room; the word; the way back into the word; the way back; ..]
    use2 𝓛 (later (‵ (rest.Rebroken 𝓛 R γ (s i).1 ε d q'))) (rest.rebroken 𝓛 R γ ε d q' (s i).1) $ await ! tt $ fpick ! (λ γ'. fsplit ! $ fpick ! (λ new. drop ! $ fsplit ! $
    -- [the new cell; the old names; the word; the way back into the word; the way back; ..]
    move ! (1 ∷ []) $ fsplit ! $ use1 𝓛 (later (‵ (unfilled γ.value_name))) (never_gets 𝓛 R γ.value_name (mark R (s i).1) blank) $ await ! tt $
    let mb : MemberView T.Denot = record { value = None; name = γ.value_name; epoch = γ'.epoch } in let made : Mb.Denot = record { marker = record {}; of = mb } in
    use1 𝓛 (‵ (Mb.own_val made (token_val ∷ []))) (member_made 𝓛 R mb) $ sets ! (agg ! (no_more !)) refl (tt, tt) $ sets ! (agg ! (and_then ! (get ! refl) (no_more !))) refl (tt, (tt, tt)) $ move ! (1 ∷ []) $ drop ! $
    -- [the member; the new cell; the word; the way back into the word; the way back; ..]
    move ! (2 ∷ 1 ∷ 3 ∷ []) $ rewrite ! 1 (λ (v : ℕ). ‵ (lying R d v γ' (None, broken_by_owner))) (sym isin.lies) refl $ use3 𝓛 (‵ (still R (set W i γ') b O d r)) (parts.closes_word 𝓛 R W b O d r s i γ' (None, broken_by_owner) N (sets_field W f i fit isin.near isin.short 9)) $
    move ! (2 ∷ []) $ use1 𝓛 (raw (Way w γ')) (all_e 𝓤 (Way w) γ') $ move ! (1 ∷ 0 ∷ []) $
    use2 𝓛 (‵ (laid R token x (set cs j γ'))) (apply∗ 𝓤 (sem 𝓛 (still R (set W i γ') b O d r)) (sem 𝓛 (laid R token x (set cs j γ')))) $
    let h' : Lo.Denot = record { marker = h.marker; heap = h.heap; rows = x; cells = set cs j γ' } in
    let Kept : Type 0 = (h.heap ≡ h.heap) × (x ≡ h.rows) × (γ.value_name ≡ γ.value_name) × Settles cs j h'.cells mb.value mb.epoch × (mb.epoch ≡ ε) × (mb.value ≡ None → IsFixedAt cs j h'.cells Broken) × HasValueByStage γ mb.value in
    move ! (2 ∷ 0 ∷ []) $ fjoin ! $ move ! (2 ∷ 0 ∷ 3 ∷ 4 ∷ 5 ∷ []) $ closes ! tt Lo h' ts b' o' $ feq_i ! (List Val) (vptr b' o' ∷ []) (vptr b' o' ∷ []) refl $ fjoin3 ! $ nothing ! $ nothing ! $ fjoin ! $ nothing ! $ fjoin ! $ nothing ! $ fjoin ! $ nothing ! $ fjoin ! $ nothing ! $ fjoin ! $ nothing ! $ fjoin ! $ nothing ! $ fjoin ! $ move ! (1 ∷ 0 ∷ []) $ fjoin ! $ move ! (1 ∷ 3 ∷ []) $ join ! $
    use0 𝓛 (raw (fact 𝓤 Kept)) (fact_i 𝓤 Kept (emp 𝓤) (refl, (λ l. record { at = sym asked.0.0 l; rooms = sym asked.1.0 l; words = h.rows.words; more = h.rows.more; left = h.rows.left }), refl, (γ', new.0, refl, refl), new.1, (λ _. rest.fixed_set cs j γ' Broken asked.2.0 new.2), no_value_by_stage γ (s i).1 staged other)) $
    returns ! (look_at ! 0 refl) $ free_all ! refl $ keep ! (1 ∷ 2 ∷ 3 ∷ 0 ∷ []) $ by ! (leaves 𝓛 En hs c y token_val made (h', (tt, (tt, (tt, (tt, (tt, (tt, (tt, tt)))))))) (tt, (tt, (tt, (tt, (tt, (tt, (tt, (tt, tt)))))))))))))
    (λ miss. let three : state (s i).1 ≡ 3 = moved_apart i (state (s i).1) 3 (sym own ∙ rest.is_same (n - n') fd' miss) in skips ! $ exec ! 𝓣.C 𝓣.Λ Ev (tail fn.body) (at_ret Ev Post) $
    move ! (1 ∷ []) $ fsplit ! $ move ! (1 ∷ []) $ use1 𝓛 (‵ (resting R γ (s i)) ⊛ ‵ (fex R.Denot (written R γ.value_name))) (rest.full_shown 𝓛 R γ (s i) three) $ split ! $ move ! (2 ∷ 0 ∷ []) $ fjoin ! $
    -- [the cell; its value; the word; the way back into the word; the way back; ..]
    move ! (1 ∷ []) $ fpick ! (λ v. let mb : MemberView T.Denot = record { value = Some v; name = γ.value_name; epoch = ε } in let made : Mb.Denot = record { marker = record {}; of = mb } in
    use1 𝓛 (‵ (Mb.own_val made (token_val ∷ []))) (member_made 𝓛 R mb) $ sets ! (agg ! (no_more !)) refl (tt, tt) $ sets ! (agg ! (and_then ! (get ! refl) (no_more !))) refl (tt, (tt, tt)) $
    move ! (2 ∷ 1 ∷ 3 ∷ []) $ rewrite ! 1 (λ (v : ℕ). ‵ (lying R d v γ (s i))) (sym isin.lies) refl $ use3 𝓛 (‵ (still R (set W i γ) b O d r)) (parts.closes_word 𝓛 R W b O d r s i γ (s i) n (pack_ap W (put_own i f))) $
    move ! (2 ∷ []) $ use1 𝓛 (raw (Way w γ)) (all_e 𝓤 (Way w) γ) $ move ! (1 ∷ 0 ∷ []) $
    use2 𝓛 (‵ (laid R token x (set cs j γ))) (apply∗ 𝓤 (sem 𝓛 (still R (set W i γ) b O d r)) (sem 𝓛 (laid R token x (set cs j γ)))) $
    rewrite ! 0 (λ (u : List Names). ‵ (laid R token x u)) (set-get_or cs j (record { value_name = 0; broken_name = 0; epoch = []; tied = None })) refl $
    let h' : Lo.Denot = record { marker = h.marker; heap = h.heap; rows = x; cells = cs } in
    let Kept : Type 0 = (h.heap ≡ h.heap) × (x ≡ h.rows) × (γ.value_name ≡ γ.value_name) × Settles cs j h'.cells mb.value mb.epoch × (mb.epoch ≡ ε) × (mb.value ≡ None → IsFixedAt cs j h'.cells Broken) × HasValueByStage γ mb.value in
    move ! (2 ∷ 0 ∷ []) $ fjoin ! $ move ! (2 ∷ 0 ∷ 3 ∷ 4 ∷ 5 ∷ []) $ closes ! tt Lo h' ts b' o' $ feq_i ! (List Val) (vptr b' o' ∷ []) (vptr b' o' ∷ []) refl $ fjoin3 ! $ nothing ! $ nothing ! $ fjoin ! $ nothing ! $ fjoin ! $ nothing ! $ fjoin ! $ nothing ! $ fjoin ! $ nothing ! $ fjoin ! $ nothing ! $ fjoin ! $ nothing ! $ fjoin ! $ move ! (1 ∷ 0 ∷ []) $ fjoin ! $ move ! (1 ∷ 3 ∷ []) $ join ! $
    use0 𝓛 (raw (fact 𝓤 Kept)) (fact_i 𝓤 Kept (emp 𝓤) (refl, (λ l. record { at = sym asked.0.0 l; rooms = sym asked.1.0 l; words = h.rows.words; more = h.rows.more; left = h.rows.left }), refl, refl, refl, (λ none. absurd (let z = none in cc)), value_by_state γ (state (s i).1) v three (shown_at γ (s i).1 staged))) $
    returns ! (look_at ! 0 refl) $ free_all ! refl $ keep ! (1 ∷ 2 ∷ 3 ∷ 0 ∷ []) $ by ! (leaves 𝓛 En hs c y token_val made (h', (tt, (tt, (tt, (tt, (tt, (tt, (tt, tt)))))))) (tt, (tt, (tt, (tt, (tt, (tt, (tt, (tt, tt)))))))))))))))))))))
