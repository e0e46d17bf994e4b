-- `values` lends the rooms of cells next to each other as a slice, by what shows that each has a value.
use Rattle.std.proofs.Common.{◌≡◌, ℕ, ◌+◌, length, ◌*◌, ◌^◌, ◌<◌, ◌≤◌, List, [], ◌∷◌, sym, refl, ap, subst, arith, w64}
use mir.Syntax.{a_type, dcons, dnil, named}
use mir.Val.{Val, vint, vptr}
use mir.MapTy.{inst_fn}
use base.Logic.{SProp, ent, emp, id⊢}
use base.Fml.{Fml, ftrue, fsep, flft, flt, Lft, Share}
use prog.Wp.{WpFn}
use types.Kit.{use3, later, await, feq_i, flt_i, ◌∵◌, ‵, raw, ◌⊛◌, at_ret, ◌$◌, !, qed, by, move, keep, use0, split, join, fsplit, fjoin, suffices, rewrite, drop, fpick}
use types.Run.{stop, fld, no_more, and_then, size_word, of_opd, bin, first, blocks, exec, returns, enter}
use types.ByLocal.{alloc_all, pass_all, free_all, look_at, get, get_in, sets, sets_last, is, env}
use types.Part.{agg, sub, whole as all_of_it}
use contract.Running.{tables}
use contract.Monad.{fact, fact_i}
use denote.Exit.{yes, no}
use denote.RattleType.{RattleType, owns}
use denote.Signature.{types_at, plain}
use denote.RawPtr.{Ptr, block_ptr, block_of, count_of, at_block, InBlock}
use denote.Steps.{nothing, heard}
use denote.Param.{param, bounded}
use denote.Builtin.{usize, RefOf}
use denote.Ref.{shr_vals, shr_Tells}
use denote.Plain.{uint_vals, uint_Tells}
use denote.Triple.Walked.{Stays, stay_dropped, walk_of, Goes-dropped}
use Rattle.core.proofs.atomic.Steps.{tail}
use Rattle.atomic_table.proofs.Walks.{proved, leaves}
use Rattle.cell_core.specs.Slot.{Names, step}
use Rattle.cell_core.specs.Member.{MemberView, HaveValues}
use Rattle.cell_core.specs.Laid.{Extent, along_lent}
use Rattle.cell_core.specs.contracts.block.steps.Link as link
use Rattle.cell_core.specs.contracts.block.steps.Laid as loose
use Rattle.cell_core.proofs.CellMade.{pointers_val, pointers_good}
use Rattle.cell_core.proofs.SliceSteps.{all_values}
use Rattle.cell_core.proofs.LaidMade.{link_told, uncapped}
use Rattle.cell_core.proofs.LaidParts as parts
use denote.Opens.{hide, unhide}
use denote.Memory.{shared_of, each_shared}
use denote.Slice.{slice_val}
use denote.Param.Laws.{param_laws}
use Rattle.cell_core.specs.contracts.slot.member.RawRow as held
use Rattle.cell_core.specs.contracts.block.steps.Laid.values.{ended, clauses}
use Rattle.cell_core.specs.contracts.block.steps.Laid.values.Key.{name as #self}
use Rattle.cell_core.proofs.block.steps.Laid.values.Statement.{statement}
use Rattle.cell_core.proofs.block.steps.Laid.values.Code as code

pub values_spec : {M : Type 1} → statement M
values_spec 𝓤 𝓛 𝓜 𝓡 wired T Al L _ ga da dd _ _ =
    let H = 𝓛.H in let 𝓣 = tables 𝓤 H 𝓜 𝓡 𝓡.env in let R : RattleType = param 0 T in let LR = param_laws 0 T L in let Z : RattleType = param 1 Al in let Lk : RattleType = link.the_row R in let Ro : RattleType = held.the_row R in let Lo : RattleType = loose.the_row R Z ga in let En = ended T Al ga da dd in let c = clauses T Al ga da dd 𝓛 𝓜.mem 𝓡.returns in
    let inst = bounded (a_type ∷ a_type ∷ []) (T, (Al, tt)) (dcons da (dcons dd dnil)) in let fn = inst_fn inst code.function in
    let self = RefOf (0 ∷ []) tt (plain (λ _. Lo)) (λ _. tt) in let known = RefOf (1 ∷ []) tt (plain (λ _. Ro)) (λ _. tt) in
    let hs : Stays En.signature.params En.kept = (stay_dropped self yes, (stay_dropped (plain (λ _. Lk)) no, (stay_dropped (plain (λ _. usize)) yes, (stay_dropped (plain (λ _. usize)) yes, (stay_dropped known yes, tt))))) in
    proved 𝓛 En hs c 𝓜 𝓡 (Goes-dropped 𝓛 4 self yes (λ κs x f. refl), (Goes-dropped 𝓛 4 (plain (λ _. Lk)) no (λ κs x f. refl), (Goes-dropped 𝓛 4 (plain (λ _. usize)) yes (λ κs x f. refl), (Goes-dropped 𝓛 4 (plain (λ _. usize)) yes (λ κs x f. refl), (Goes-dropped 𝓛 4 known yes (λ κs x f. refl), tt))))) (#self inst) fn (code.unfolded 𝓤 H 𝓜 𝓡 wired (T, (Al, tt)) da dd)
    (λ κs. (shr_vals, ((λ x. pointers_val x.words x.rooms ∷ []), (uint_vals w64, (uint_vals w64, (shr_vals, tt)))))) (λ κs. (shr_Tells (named 0) κs.0 Lo, (link_told R, (uint_Tells w64, (uint_Tells w64, (shr_Tells (named 1) κs.1.0 Ro, tt)))))) (λ κs qs bounds a gh are.
    let p : Ptr = a.1.0.words in let z : Ptr = a.1.0.rooms in let j : ℕ = a.1.1.0 in let n : ℕ = a.1.1.1.0 in let ms : List (MemberView R.Denot) = a.1.1.1.1.0.now.of in let κ : Lft = κs.0 in let q : Share = qs.0 in
    let seen : Val = vptr a.1.1.1.1.0.ref_ptr.0 a.1.1.1.1.0.ref_ptr.1 in
    let y : (walk_of 𝓛 En hs c).Ghost = ((κs, qs, bounds, a, (vptr a.0.ref_ptr.0 a.0.ref_ptr.1 ∷ [], (pointers_val p z ∷ [], (vint w64 j ∷ [], (vint w64 n ∷ [], (seen ∷ [], tt)))))), gh) in let Post : Val → SProp 𝓤 = (walk_of 𝓛 En hs c).post y in
    let h : Lo.Denot = a.0.now in let x : Extent = h.rows in let cs : List Names = h.cells in
    let b : ℕ = block_of p in let o : ℕ = count_of p in let d : ℕ = block_of z in let e : ℕ = count_of z in let e' : ℕ = j * step R + e in
    let Asked : Type 0 = (x.at ≡ p) × (x.rooms ≡ z) × (j + n ≤ length cs) × ((xs : List R.Denot) × (length xs ≡ n) × HaveValues cs j ms xs) in let others : Fml = fsep (flft κs.1.0 qs.1.0) (fsep (flft κs.1.1.0 qs.1.1.0) (fsep (flft κs.1.1.1.0 qs.1.1.1.0) ftrue)) in
    qed 𝓛 (((‵ (flft κ q) ⊛ ‵ others) ⊛ ‵ (owns (types_at En.signature.params κs) a y.0.4)) ∷ raw (fact 𝓤 _) ∷ raw (fact 𝓤 _) ∷ raw (fact 𝓤 Asked) ∷ []) ∵
    keep ! (3 ∷ 0 ∷ []) $ heard ! Asked (λ asked. let xs : List R.Denot = asked.3.0 in split ! $ split ! $ move ! (2 ∷ []) $ fsplit ! $ fsplit ! $ move ! (2 ∷ []) $ fsplit ! $ drop ! $ fsplit ! $ drop ! $ fsplit ! $ drop ! $ fsplit ! $ fsplit ! $
    keep ! (1 ∷ 4 ∷ 5 ∷ 6 ∷ []) $ unhide ! $ fsplit ! $ drop ! $ move ! (1 ∷ []) $ unhide ! $ fsplit ! $ drop ! $ fsplit ! $ fpick ! (λ so. drop ! $
    -- [the cells; what is known of them; the token; the others]
    let inb : InBlock p = subst InBlock asked.0 so.0 in let inr : InBlock z = subst InBlock asked.1 so.1 in let long : length xs ≡ n = asked.3.1 in
    let fits : n * step R < 2 ^ 63 = parts.within R n (length cs + x.left) (let u = asked.2 in omega arith) so.3 in let few : n < 2 ^ 64 = are.1.1.1.0.1 in
    let small : j * step R < 2 ^ 64 = (let x : j * step R < 2 ^ 63 = parts.within R j (length cs + x.left) (let u = asked.2 in omega arith) so.3 in omega arith) in
    rewrite ! 0 (λ (u : Ptr × Ptr). ‵ (along_lent R x.words cs (block_of u.0) (count_of u.0) (block_of u.1) (count_of u.1) κ)) (λ i. (asked.0 i, asked.1 i)) refl $
    let us : Ptr × Ptr → List Val = λ u. vptr a.0.ref_ptr.0 a.0.ref_ptr.1 ∷ pointers_val u.0 u.1 ∷ vint w64 j ∷ vint w64 n ∷ seen ∷ [] in let Run : List Val → SProp 𝓤 = λ ws. WpFn 𝓤 H 𝓣.C 𝓣.Λ fn ws Post in let both : Ptr × Ptr = (block_ptr b o, block_ptr d e) in
    suffices ! (Run (us both)) (subst (λ (u : Ptr × Ptr). ent 𝓤 (Run (us both)) (Run (us u))) (λ i. (sym (at_block p inb) i, sym (at_block z inr) i)) (id⊢ 𝓤 (Run (us both)))) $
    enter ! 𝓣.C 𝓣.Λ fn (us both) Post $ alloc_all ! (λ l. pass_all ! refl ((tt, tt), (pointers_good both.0 both.1, ((tt, record { fits = are.1.1.0.1 }), ((tt, record { fits = few }), ((tt, tt), tt))))) $ let Ev = env fn.locals l in
    use3 𝓛 (later (‵ (each_shared xs (shared_of R) (step R) d e' κ) ⊛ ‵ (flft κ q))) (all_values 𝓛 𝓜 𝓡 R LR.shr_laws x.words cs b o d e κ q ms xs j asked.3.2 (let u = asked.2 in omega (arith, long)) so.4) $ await ! tt $ split ! $
    sets ! (of_opd ! (get ! refl)) refl (tt, tt) $ first ! $ blocks ! $
    sets ! (is ! (bin ! (get ! refl) (size_word !) (record { fits = subst (λ (j : ℕ). j < 2 ^ 64) (sym (uncapped j (step R) small)) small })) (ap (vint w64) (uncapped j (step R) small))) refl (tt, record { fits = small }) $
    sets ! (bin ! (get_in ! (fld ! refl (stop !)) (sub ! 1 refl (all_of_it !))) (get ! refl) tt) refl (tt, tt) $
    sets_last ! (agg ! (and_then ! (get ! refl) (and_then ! (get ! refl) (no_more !)))) refl (tt, (tt, (record { fits = few }, tt))) $ exec ! 𝓣.C 𝓣.Λ Ev (tail (tail fn.body)) (at_ret Ev Post) $ sets ! (of_opd ! (get ! refl)) refl (tt, (tt, (record { fits = few }, tt))) $
    let val : Val = slice_val (d, e') n in
    -- [the values; the token; the others]
    move ! (1 ∷ 2 ∷ []) $ join ! $ move ! (1 ∷ 0 ∷ []) $ hide ! $ flt_i ! (n * step R) (2 ^ 63) fits $ flt_i ! n (2 ^ 64) few $ fjoin ! $ rewrite ! 0 (λ (m : ℕ). ‵ (fsep (flt m (2 ^ 64)) (flt (m * step R) (2 ^ 63)))) (sym long) refl $
    feq_i ! (List Val) (val ∷ []) (slice_val (d, e') (length xs) ∷ []) (ap (λ (m : ℕ). slice_val (d, e') m ∷ []) (sym long)) $ fjoin ! $ fjoin ! $
    let Told : Type 0 = HaveValues cs j ms xs in use0 𝓛 (raw (fact 𝓤 Told)) (fact_i 𝓤 Told (emp 𝓤) asked.3.2) $ nothing ! $ nothing ! $ fjoin ! $ nothing ! $ fjoin ! $ nothing ! $ fjoin ! $ nothing ! $ fjoin ! $ nothing ! $ fjoin ! $
    returns ! (look_at ! 0 refl) $ free_all ! refl $ keep ! (3 ∷ 0 ∷ 2 ∷ 1 ∷ []) $ by ! (leaves 𝓛 En hs c y val (record { ref_ptr = (d, e'); now = xs }) (tt, (tt, (tt, (tt, (tt, tt))))) (tt, (tt, (tt, (tt, (tt, tt))))))))))
