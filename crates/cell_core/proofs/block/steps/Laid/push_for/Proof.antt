-- `push_for` writes the next word, whose cells take new names, epochs that have ended, and the first ties.
use Rattle.std.proofs.Common.{take, drop, length-take, ◌∙◌, ◌≡◌, ℕ, ◌+◌, length, ◌*◌, ◌^◌, ◌<◌, ◌≤◌, List, [], ◌∷◌, ◌++◌, sym, refl, subst, arith, w64, ◌-◌, lit<}
use Rattle.std.specs.Prelude.{Option, None}
use mir.Syntax.{Ty, a_type, dcons, dnil, named}
use mir.Val.{Val, vint, vptr}
use mir.MapTy.{inst_fn}
use base.Logic.{SProp, ent, emp, id⊢, apply∗, all, all_e}
use base.Fml.{Fml, ftrue, fsep, flft, froom}
use mir.Syntax.{ty_int}
use prog.Wp.{WpFn}
use types.Logic.{sem}
use types.Kit.{◌∵◌, ‵, raw, ◌⊛◌, given, some, later, await, pick, split3, at_ret, ◌$◌, !, qed, by, move, keep, use0, use1, use2, split, join, fsplit, fsplit3, fjoin, fjoin3, learn, suffices, rewrite, feq_i}
use types.Run.{stop, of_opd, bin, first, blocks, exec, returns, enter, init, assigns_last, lit}
use types.ByLocal.{alloc_all, pass_all, free_all, look_at, get, through, sets, env}
use contract.Running.{tables}
use contract.Monad.{fact, fact_i}
use denote.Exit.{yes}
use denote.RattleType.{RattleType, owns}
use denote.Signature.{types_at, plain}
use denote.RawPtr.{Ptr, RawPtr, ptr_val, block_ptr, block_of, count_of}
use denote.Steps.{nothing, heard, opens, closes}
use denote.Param.{param, bounded}
use denote.Builtin.{usize}
use denote.Ref.{mut_vals, mut_Tells}
use denote.Plain.{uint_vals, uint_Tells}
use denote.Triple.Walked.{Stays, stay_dropped, stay_ref, walk_of, Goes-dropped, Goes-ref}
use Rattle.core.proofs.atomic.Steps.{tail}
use Rattle.atomic_table.proofs.Walks.{proved, leaves}
use Rattle.cell_core.specs.Slot.{Names, AreTied, step, free}
use Rattle.tie_core.specs.Tie.{Tie, seats}
use Rattle.tie_core.specs.contracts.seats.Seats as Seats
use Rattle.cell_core.proofs.CellMade.{token_val}
use Rattle.tie_core.proofs.SeatsMade.{SeatWords, seats_told, seats_made, min_of}
use Rattle.cell_core.specs.Laid.{Extent, laid, still, rests, IsLinked, HasMoreTied}
use Rattle.cell_core.specs.contracts.block.steps.Laid as loose
use Rattle.cell_core.proofs.LaidParts as parts
use Rattle.cell_core.specs.contracts.block.steps.Laid.push_for.{ended, clauses}
use Rattle.cell_core.specs.contracts.block.steps.Laid.push_for.Key.{name as #self}
use Rattle.cell_core.proofs.block.steps.Laid.push_for.Statement.{statement}
use Rattle.cell_core.proofs.block.steps.Laid.push_for.Code as code

pub push_for_spec : {M : Type 1} → statement M
push_for_spec 𝓤 𝓛 𝓜 𝓡 wired T Al L _ ga da dd _ _ =
    let H = 𝓛.H in let 𝓣 = tables 𝓤 H 𝓜 𝓡 𝓡.env in let R : RattleType = param 0 T in let Z : RattleType = param 1 Al in let Lo : RattleType = loose.the_row R Z ga in let En = ended T Al ga da dd in let c = clauses T Al ga da dd 𝓛 𝓜.mem 𝓡.returns in
    let inst = bounded (a_type ∷ a_type ∷ []) (T, (Al, tt)) (dcons da (dcons dd dnil)) in let fn = inst_fn inst code.function in
    let brought = plain (λ _. Seats.the_row) in let hs : Stays En.signature.params En.kept = (stay_ref (0 ∷ []) tt (plain (λ _. Lo)), (stay_dropped (plain (λ _. RawPtr)) yes, (stay_dropped (plain (λ _. usize)) yes, (stay_dropped (plain (λ _. usize)) yes, (stay_dropped brought yes, tt))))) in
    proved 𝓛 En hs c 𝓜 𝓡 (Goes-ref 𝓛 3 0 tt (plain (λ _. Lo)), (Goes-dropped 𝓛 3 (plain (λ _. RawPtr)) yes (λ κs x f. refl), (Goes-dropped 𝓛 3 (plain (λ _. usize)) yes (λ κs x f. refl), (Goes-dropped 𝓛 3 (plain (λ _. usize)) yes (λ κs x f. refl), (Goes-dropped 𝓛 3 brought yes (λ κs x f. refl), tt))))) (#self inst) fn (code.unfolded 𝓤 H 𝓜 𝓡 wired (T, (Al, tt)) da dd)
    (λ κs. (mut_vals, ((λ x. ptr_val x ∷ []), (uint_vals w64, (uint_vals w64, ((λ h. token_val ∷ []), tt)))))) (λ κs. (mut_Tells (named 0) κs.0 (Lo), ((λ x vs is. is), (uint_Tells w64, (uint_Tells w64, ((λ h vs so. seats_told vs so.0), tt)))))) (λ κs qs bounds a gh are.
    let p : Ptr = a.1.0 in let k : ℕ = a.1.1.0 in let n : ℕ = a.1.1.1.0 in let S : RattleType = Seats.the_row in let seated : S.Denot = a.1.1.1.1.0 in let τs : List (Option Tie) = seated.ties in let us : List (Option Tie) = take n τs in let ns' : List (Option Tie) = drop n τs in
    let y : (walk_of 𝓛 En hs c).Ghost = ((κs, qs, bounds, a, (vptr a.0.ref_ptr.0 a.0.ref_ptr.1 ∷ [], (ptr_val p ∷ [], (vint w64 k ∷ [], (vint w64 n ∷ [], (token_val ∷ [], tt)))))), gh) in let Post : Val → SProp 𝓤 = (walk_of 𝓛 En hs c).post y in
    let b' : ℕ = a.0.ref_ptr.0 in let o' : ℕ = a.0.ref_ptr.1 in let h : Lo.Denot = a.0.now in let token : Ty → Ptr → Fml = ga.dealloc_token h.heap in let cs : List Names = h.cells in
    let x : Extent = record { at = p; rooms = h.rows.rooms; words = k; more = h.rows.more; left = h.rows.left } in let b : ℕ = block_of p in let o : ℕ = count_of p in let d : ℕ = block_of x.rooms in let e : ℕ = length cs * step R + count_of x.rooms in
    let Asked : Type 0 = IsLinked h.rows.at p × (k ≡ h.rows.words) × (0 < h.rows.more) × (length cs ≡ k * 16) × (n ≤ 16) × (n ≤ h.rows.left) × (n ≤ length τs) in let others : Fml = fsep (flft κs.1.0 qs.1.0) (fsep (flft κs.1.1.0 qs.1.1.0) (ftrue)) in
    qed 𝓛 (((‵ (flft κs.0 qs.0) ⊛ ‵ others) ⊛ ‵ (owns (types_at En.signature.params κs) a y.0.4)) ∷ raw (fact 𝓤 _) ∷ raw (fact 𝓤 _) ∷ raw (fact 𝓤 Asked) ∷ []) ∵
    keep ! (3 ∷ 0 ∷ []) $ heard ! Asked (λ asked. split ! $ split ! $ move ! (2 ∷ []) $ fsplit ! $ fsplit3 ! $ move ! (3 ∷ []) $ fsplit3 ! $ move ! (2 ∷ []) $ fsplit3 ! $ move ! (1 ∷ []) $ fsplit ! $ keep ! (7 ∷ 8 ∷ 9 ∷ 10 ∷ 1 ∷ []) $
    -- [the rows; their token; the others; the seats]
    move ! (4 ∷ []) $ use1 𝓛 (‵ (seats us) ⊛ ‵ (seats ns')) (parts.seats_split 𝓛 R n τs) $ split ! $ move ! (2 ∷ 3 ∷ 4 ∷ 5 ∷ 0 ∷ 1 ∷ []) $
    let args : Ptr → List Val = λ u. vptr a.0.ref_ptr.0 a.0.ref_ptr.1 ∷ ptr_val u ∷ vint w64 k ∷ vint w64 n ∷ token_val ∷ [] in let Run : List Val → SProp 𝓤 = λ ws. WpFn 𝓤 H 𝓣.C 𝓣.Λ fn ws Post in let p' : Ptr = block_ptr (block_of p) (count_of p) in
    suffices ! (Run (args p')) (subst (λ (u : Ptr). ent 𝓤 (Run (args p')) (Run (args u))) (sym asked.0.1) (id⊢ 𝓤 (Run (args p')))) $
    enter ! 𝓣.C 𝓣.Λ fn (args p') Post $ alloc_all ! (λ l. pass_all ! refl ((tt, tt), ((tt, tt), ((tt, record { fits = are.1.1.0.1 }), ((tt, record { fits = are.1.1.1.0.1 }), ((tt, (tt, tt)), tt))))) $ let Ev = env fn.locals l in
    opens ! tt Lo b' o' (λ ts. move ! (1 ∷ []) $ fsplit ! $
    rewrite ! 1 (λ (u : Ptr × ℕ). ‵ (laid R token (record { at = u.0; rooms = x.rooms; words = u.1; more = x.more; left = x.left }) cs)) (λ i. (asked.0.0 i, sym asked.1 i)) refl $ move ! (1 ∷ []) $ let Again = parts.Longer 𝓛 R token x cs n in
    use1 𝓛 (given (k * 8 < 2 ^ 63) (‵ (froom (ty_int w64) b (k * 8 + o)) ⊛ ‵ (parts.empties 𝓛 R n d e) ⊛ raw (all 𝓤 Again))) (parts.next_word 𝓛 R token x cs n asked.3 asked.2 asked.4 asked.5) $ learn ! (λ low. let small : k * 8 < 2 ^ 64 = omega (arith, low) in split3 ! $
    sets ! (of_opd ! (get ! refl)) refl (tt, record { fits = are.1.1.1.0.1 }) $ first ! $ blocks ! $ sets ! (bin ! (get ! refl) (lit ! tt) (record { fits = small })) refl (tt, record { fits = small }) $ sets ! (bin ! (get ! refl) (get ! refl) tt) refl (tt, tt) $
    assigns_last ! (of_opd ! (lit ! tt)) (through ! refl (stop !)) (init ! 0 refl (tt, record { fits = lit< tt })) $ exec ! 𝓣.C 𝓣.Λ Ev (tail (tail fn.body)) (at_ret Ev Post) $ sets ! (of_opd ! (get ! refl)) refl (tt, (tt, tt)) $
    -- [the word; the rooms; the way to more; ..]
    move ! (1 ∷ 9 ∷ []) $ let few : length us ≡ n = length-take n τs ∙ min_of n (length τs) asked.6 in rewrite ! 0 (λ (m : ℕ). ‵ (parts.empties 𝓛 R m d e)) (sym few) refl $
    use2 𝓛 (later (some (λ (ns : List Names). given ((length ns ≡ length us) × AreTied us ns) (‵ (rests R ns d e (λ _. (None, free))))))) (parts.lays 𝓛 R us d e) $ await ! tt $ pick ! (λ ns. learn ! (λ new. let long : length ns ≡ n = new.0 ∙ few in move ! (1 ∷ 0 ∷ []) $
    use2 𝓛 (‵ (still R ns b (k * 8 + o) d e)) (parts.laid_word 𝓛 R ns b (k * 8 + o) d e) $ move ! (1 ∷ []) $ use1 𝓛 (raw (Again (ns, long))) (all_e 𝓤 Again (ns, long)) $ move ! (1 ∷ 0 ∷ []) $ let x' : Extent = parts.longer 𝓛 R token x n in
    use2 𝓛 (‵ (laid R token x' (cs ++ ns))) (apply∗ 𝓤 (sem 𝓛 (still R ns b (k * 8 + o) d e)) (sem 𝓛 (laid R token x' (cs ++ ns)))) $
    let h' : Lo.Denot = record { marker = h.marker; heap = h.heap; rows = x'; cells = cs ++ ns } in move ! (1 ∷ 0 ∷ []) $ fjoin ! $ move ! (1 ∷ 0 ∷ []) $
    closes ! tt Lo h' ts b' o' $ feq_i ! (List Val) (vptr b' o' ∷ []) (vptr b' o' ∷ []) refl $ fjoin3 ! $ nothing ! $ nothing ! $ fjoin ! $ nothing ! $ fjoin ! $ nothing ! $ fjoin ! $ nothing ! $ fjoin ! $ move ! (1 ∷ 0 ∷ []) $ fjoin ! $ move ! (1 ∷ 2 ∷ []) $ join ! $
    let Kept : Type 0 = (h.heap ≡ h.heap) × HasMoreTied cs n h'.cells τs × (x' ≡ record { at = h.rows.at; rooms = h.rows.rooms; words = h.rows.words + 1; more = h.rows.more - 1; left = h.rows.left - n }) × (ns' ≡ ns') in
    use0 𝓛 (raw (fact 𝓤 Kept)) (fact_i 𝓤 Kept (emp 𝓤) (refl, (ns, long, refl, new.1), (λ i. record { at = sym asked.0.0 i; rooms = h.rows.rooms; words = asked.1 i + 1; more = h.rows.more - 1; left = h.rows.left - n }), refl)) $
    move ! (3 ∷ []) $ use0 𝓛 (‵ (SeatWords.own_val (tt, tt) (token_val ∷ []))) (seats_made 𝓛) $ fjoin ! $ let back : S.Denot = record { marker = record {}; ties = ns' } in
    returns ! (look_at ! 0 refl) $ free_all ! refl $ keep ! (2 ∷ 3 ∷ 0 ∷ 1 ∷ []) $ by ! (leaves 𝓛 En hs c y token_val back (h', (tt, (tt, (tt, (tt, tt))))) (tt, (tt, (tt, (tt, (tt, tt)))))))))))))
