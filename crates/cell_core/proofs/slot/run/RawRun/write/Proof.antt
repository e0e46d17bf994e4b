-- `write` writes the room of the first cell that has no value yet.
use Rattle.std.proofs.Common.{Bool, eqb, eq-eqb, add-mul, arith, length, ◌++◌, ◌∙◌, ◌<◌, ◌≡◌, ℕ, ◌+◌, ◌*◌, ◌^◌, List, [], ◌∷◌, sym, refl, ap, subst, w64, Option, Some}
use mir.Syntax.{a_type}
use mir.Val.{Val, vint}
use mir.MapTy.{inst_fn}
use base.Fraction.{full_share}
use base.Logic.{SProp, ent, wand, emp, apply∗, guard_i}
use base.Fml.{Lft, Share, Fml, Incl-trans, ftrue, fsep, flft, froom, fat}
use prog.Wp.{WpFn}
use types.Logic.{sem}
use types.Kit.{‵, raw, ◌⊛◌, some, given, later, at_ret, ◌$◌, ◌∵◌, !, qed, by, move, keep, drop, use0, use1, use2, use3, split, split3, join, fsplit, fsplit3, fjoin, fpick, fpack, pick, learn, await, rewrite}
use types.Run.{stop, fld, of_opd, bin, size_word, no_more, and_then, first, blocks, exec, returns, enter, init, assigns_last}
use types.ByLocal.{alloc_all, pass_all, free_all, look_at, get, get_in, through, sets, is, env}
use types.Part.{agg, sub, whole}
use contract.Running.{tables}
use contract.Monad.{fact, fact_i, fact_use}
use contract.BorrowLft.{◌⊑◌, meet_⊑_left, meet_⊑_right}
use contract.Shared.{Lends-one}
use denote.Exit.{no}
use denote.RattleType.{RattleType, owns}
use denote.Signature.{types_at, plain, named_lft}
use denote.RawPtr.{block_ptr, Ptr, InBlock, ptr_val, block_of, count_of, at_block}
use denote.Steps.{nothing, heard}
use denote.Param.{param, layouts, layout}
use denote.Param.Laws.{param_laws}
use denote.Triple.Walked.{Stays, stay_dropped, walk_of, Goes-dropped}
use Rattle.atomic_table.proofs.Walks.{proved_at, leaves}
use denote.Builtin.{usize}
use types.Na.{before_dup}
use base.Before.{before}
use base.Fml.{fbor}
use denote.Exit.{yes}
use Rattle.core.proofs.atomic.Steps.{tail}
use Rattle.core.proofs.cell.Inside.{Good, one, gather}
use types.Tokens.{bor_open, obor_close}
use mir.Raw.{raw as bare}
use denote.Struct.Members.{Member}
use types.Tokens.{name_agree, name_set}
use Rattle.std.specs.Prelude.{None}
use Rattle.cell_core.specs.Slot.{Names, Turn, Spot, empty, cell_in, step, room_at, content, place, inside, Room, Cells, kept, over, setting}
use Rattle.cell_core.specs.Slot.{fact as is_fact}
use Rattle.cell_core.specs.Run.{IsRunAt, Ready, held, if_won, run_owned}
use Rattle.cell_core.specs.contracts.slot.run.RawRun as RawRun
use Rattle.cell_core.proofs.CellMade.{pointers_val, pointers_good}
use Rattle.cell_core.proofs.LaidMade.{uncapped}
use Rattle.cell_core.proofs.LaidParts.{room_is, within}
use Rattle.cell_core.proofs.RunMade.{RunWords, run_told, run_placed, run_holds, run_made, Holds}
use Rattle.cell_core.proofs.RunSteps.{next, next_is, Next_right, Next_ready, Written, held_next}
use Rattle.cell_core.proofs.CellSteps as steps
use Rattle.cell_core.specs.contracts.slot.run.RawRun.write.{ended, clauses}
use Rattle.cell_core.specs.contracts.slot.run.RawRun.write.Key.{name as #self}
use Rattle.cell_core.proofs.slot.run.RawRun.write.Statement.{statement}
use Rattle.cell_core.proofs.slot.run.RawRun.write.Code as code

pub write_spec : {M : Type 1} → statement M
write_spec 𝓤 𝓛 𝓜 𝓡 wired T L =
    let H = 𝓛.H in let A = 𝓛.A in let 𝓣 = tables 𝓤 H 𝓜 𝓡 𝓡.env in let R : RattleType = param 0 T in let En = ended T in let c = clauses T 𝓛 𝓜.mem 𝓡.returns in let LP = param_laws 0 T L in let LR = LP.lawful 𝓛 in let m : Member = record { row = R; ty = layout T } in
    let inst = layouts (a_type ∷ []) (T, tt) in let fn = inst_fn inst code.function in
    let self = plain (λ κs. RawRun.the_row (named_lft 2 0 tt κs) R) in let item = plain (λ _. R) in
    let hs : Stays En.signature.params En.kept = (stay_dropped self no, (stay_dropped item no, (stay_dropped (plain (λ _. usize)) yes, tt))) in
    proved_at 𝓛 En hs c 𝓜 𝓡 (Goes-dropped 𝓛 2 self no (λ κs x f. refl), (Goes-dropped 𝓛 2 item no (λ κs x f. refl), (Goes-dropped 𝓛 2 (plain (λ _. usize)) yes (λ κs x f. refl), tt))) (#self inst) fn (code.unfolded 𝓤 H 𝓜 𝓡 wired (T, tt)) (λ g are.
    let κs = g.0.0 in let qs = g.0.1 in let a = g.0.3 in let ℓ = named_lft 2 0 tt κs in let Hr : RattleType = RawRun.the_row ℓ R in let h : Hr.Denot = a.0 in let p : Ptr = h.word in let z : Ptr = h.room in let b : ℕ = block_of p in let o : ℕ = count_of p in let d : ℕ = block_of z in let e : ℕ = count_of z in let β : Lft = κs.0 in let q : Share = qs.0 in
    let gs : List Names = h.of in let xs : List T.Denot = h.values in let i : ℕ = h.index in let x : T.Denot = a.1.0 in let n : ℕ = a.1.1.0 in let ys : List T.Denot = xs ++ x ∷ [] in let τ : Lft = κs.1.0 in let r : Share = qs.1.0 in let Asked : Type 0 = (h.found ≡ h.sought) × (n ≡ length xs) × (n < length gs) in let Owned : Ptr × Ptr → Fml = λ u. run_owned R gs β u.0 u.1 i h.first h.sought h.found xs in let way : Bool = h.first in
    let got = one (layout T) g.0.4.1.0 (LR.typed x g.0.4.1.0 are.1.0) in let vy : Val = got.0 in let fy : Good (layout T) vy = got.2 in
    let At : List Val × (List Val × (List Val × Unit {0})) → (walk_of 𝓛 En hs c).Ghost = λ vss. ((κs, qs, g.0.2, a, vss), g.1) in
    let y : (walk_of 𝓛 En hs c).Ghost = At (pointers_val p z ∷ [], (vy ∷ [], (vint w64 n ∷ [], tt))) in let Post : Val → SProp 𝓤 = (walk_of 𝓛 En hs c).post y in
    subst (λ (vss : List Val × (List Val × (List Val × Unit {0}))). ent 𝓤 ((walk_of 𝓛 En hs c).pre (At vss)) (WpFn 𝓤 H 𝓣.C 𝓣.Λ fn ((walk_of 𝓛 En hs c).args (At vss)) ((walk_of 𝓛 En hs c).post (At vss))))
    (λ l. (sym (run_told ℓ R p z g.0.4.0 are.0.0) l, (sym got.1 l, (sym are.1.1.0.0 l, tt)))) (
    qed 𝓛 (((‵ (flft β q) ⊛ ‵ (flft τ r) ⊛ ‵ ftrue) ⊛ ‵ (owns (types_at En.signature.params κs) a y.0.4)) ∷ raw (fact 𝓤 (τ ⊑ T.lives)) ∷ raw (fact 𝓤 Asked) ∷ []) ∵
    move ! (1 ∷ 2 ∷ []) $ heard ! (τ ⊑ T.lives) (λ le. heard ! Asked (λ asked. split ! $ split3 ! $ move ! (3 ∷ []) $ fsplit3 ! $ fsplit ! $ keep ! (1 ∷ 2 ∷ 4 ∷ 5 ∷ 6 ∷ []) $
    use1 𝓛 (given (InBlock p × InBlock z) (‵ (Owned (p, z)))) (fact_use 𝓤 _ (run_placed 𝓛 R gs β p z i way h.sought h.found xs) (guard_i 𝓤 (InBlock p × InBlock z) (sem 𝓛 (Owned (p, z))))) $ learn ! (λ inb. let is_at : p ≡ block_ptr b o = at_block p inb.0 in let is_room : z ≡ block_ptr d e = at_block z inb.1 in
    rewrite ! 0 (λ (u : Ptr × Ptr). ‵ (Owned u)) (λ l. (is_at l, is_room l)) refl $ use1 𝓛 (‵ (Holds 𝓛 R gs β b o d e i way xs)) (run_holds 𝓛 R gs β b o d e i way h.sought h.found xs asked.0) $
    enter ! 𝓣.C 𝓣.Λ fn (pointers_val p z ∷ vy ∷ vint w64 n ∷ []) Post $ alloc_all ! (λ l. pass_all ! refl (pointers_good p z, (fy, ((tt, record { fits = are.1.1.0.1 }), tt))) $ let Ev = env fn.locals l in
    fpick ! (λ s. fsplit3 ! $ fpick ! (λ at. drop ! $ let Γs : List Names = s.0 in let t : Turn = s.1 in let f : ℕ = s.2 in let α : Lft = t.0 in let J : Fml = fbor α (Cells R Γs t b o d f) in let k : ℕ = next i xs in let δ = t.1 k in let γ : Names = cell_in gs (length xs) in
    let e' : ℕ = n * step R + e in let V : Fml = Room R γ α δ d e' in let lies : room_at R f k ≡ e' = (let u = room_is R f k in let v = room_is R f i in let w = next_is i xs in let m = at.2 in let j : (i + n) * step R ≡ i * step R + n * step R = add-mul i n (step R) in
    let ik : k ≡ i + n = w ∙ ap (λ (l : ℕ). i + l) (sym asked.1) in u ∙ ap (λ (l : ℕ). l * step R + f) ik ∙ omega (arith, v, m, j)) in
    let small : n * step R < 2 ^ 64 = (let u : n * step R < 2 ^ 63 = within R n (length gs) (omega arith) at.3 in omega arith) in
    -- [kept; what the run holds; the value; the token; T's token; the rest]
    fsplit ! $ use1 𝓛 (‵ (before β α) ⊛ ‵ (before β α)) (before_dup 𝓛 β α) $ split ! $ move ! (0 ∷ 2 ∷ []) $ fjoin ! $ move ! (2 ∷ []) $
    use1 𝓛 (‵ (Next_right 𝓛 R way t d f gs i xs) ⊛ raw (Written 𝓛 R way t d f gs i xs x)) (held_next 𝓛 R way t d f gs i xs (subst (λ (l : ℕ). l < length gs) asked.1 asked.2) x) $ split ! $
    rewrite ! 0 (λ (l : ℕ). ‵ (fsep (fsep (over R γ) (setting R γ way)) (fsep (empty R γ α δ d l) (fbor α (Room R γ α δ d l))))) lies refl $ fsplit ! $ move ! (1 ∷ []) $ fsplit ! $
    -- [empty; the borrow; settable; the wand; kept; before; the value; the token; T's token; the rest]
    move ! (5 ∷ 7 ∷ []) $ use2 𝓛 (later (some (λ (w : Share). ‵ (flft α w) ⊛ raw (wand 𝓤 (A.lft α w) (H.⇛ (A.lft β q)))))) (Lends-one 𝓛 𝓜 𝓡 β α q) $ await ! tt $ pick ! (λ w. split ! $
    -- [the turn's token; the way back; empty; the borrow; settable; the wand; kept; the value; T's token; the rest]
    move ! (3 ∷ 0 ∷ []) $ bor_open ! tt $ move ! (1 ∷ []) $ fpick ! (λ v. fsplit ! $ move ! (4 ∷ 1 ∷ []) $ name_agree ! (content R) {x = None} {y = v} (λ none.
    -- [empty; what the room holds; the room; open; the way back; settable; the wand; kept; the value; T's token; the rest]
    rewrite ! 2 (λ (u : Option T.Denot). ‵ (place R u d e')) (sym none) refl $ name_set ! tt ((content R).code (Some x)) $ move ! (2 ∷ []) $ use1 𝓛 (‵ (froom (layout T) d e')) (𝓛.laws.raw-room (layout T) d e') $
    sets ! (is ! (of_opd ! (get_in ! (fld ! refl (stop !)) (sub ! 0 refl (whole !)))) (ap ptr_val is_at)) refl (tt, tt) $
    sets ! (is ! (of_opd ! (get_in ! (fld ! refl (stop !)) (sub ! 1 refl (whole !)))) (ap ptr_val is_room)) refl (tt, tt) $
    sets ! (of_opd ! (get_in ! (fld ! refl (stop !)) (sub ! 2 refl (whole !)))) refl (tt, tt) $ first ! $ blocks ! $
    sets ! (is ! (bin ! (get ! refl) (size_word !) (record { fits = subst (λ (l : ℕ). l < 2 ^ 64) (sym (uncapped n (step R) small)) small })) (ap (vint w64) (uncapped n (step R) small))) refl (tt, record { fits = small }) $
    sets ! (bin ! (get ! refl) (get ! refl) tt) refl (tt, tt) $
    sets ! (of_opd ! (get ! refl)) refl (tt, tt) $ sets ! (of_opd ! (get ! refl)) refl fy $ assigns_last ! (of_opd ! (get ! refl)) (through ! refl (stop !)) (init ! 0 refl fy) $ exec ! 𝓣.C 𝓣.Λ Ev (tail (tail (tail (tail fn.body)))) (at_ret Ev Post) $
    use1 𝓛 (‵ (fat full_share (bare (layout T)) d e' vy)) (𝓛.laws.at_raw full_share (layout T) d e' vy) $ move ! (0 ∷ 8 ∷ []) $ gather m ! x vy d e' $
    -- [the value in place; the name, twice; open; the way back; settable; the wand; kept; T's token; the rest]
    move ! (0 ∷ 2 ∷ []) $ fjoin ! $ fpack ! (Option T.Denot) (inside R γ α δ d e') (Some x) $ move ! (2 ∷ 0 ∷ []) $ obor_close ! tt $
    -- [the borrow; the turn's token; the name; the way back; settable; the wand; kept; T's token; the rest]
    move ! (1 ∷ 7 ∷ []) $ join ! $ move ! (2 ∷ 1 ∷ 0 ∷ []) $ let F : Fml = steps.frozen 𝓛 R γ α δ d e' x in
    use3 𝓛 (later (‵ F ⊛ ‵ (flft α w) ⊛ ‵ (flft τ r))) (steps.freezes 𝓛 R γ α δ d e' R.lives (LP.shares 𝓛) ((α, w) ∷ (τ, r) ∷ []) (Incl-trans (meet_⊑_right α τ) le) (meet_⊑_left α τ) x) $ await ! tt $ split3 ! $
    -- [frozen; the turn's token; T's token; the way back; settable; the wand; kept; the rest]
    move ! (4 ∷ 0 ∷ []) $ fjoin ! $ rewrite ! 0 (λ (l : ℕ). ‵ (Ready R way γ α δ d l x)) (sym lies) refl $ move ! (0 ∷ 4 ∷ []) $
    use2 𝓛 (‵ (held R way t d f gs i ys)) (apply∗ 𝓤 (sem 𝓛 (Next_ready 𝓛 R way t d f gs i xs x)) (sem 𝓛 (held R way t d f gs i ys))) $
    -- [what the run holds; the turn's token; T's token; the way back; kept; the rest]
    move ! (1 ∷ 3 ∷ []) $ use2 𝓛 (later (‵ (flft β q))) (apply∗ 𝓤 (A.lft α w) (H.⇛ (A.lft β q))) $ await ! tt $
    -- [the token; what the run holds; T's token; kept; the rest]
    move ! (2 ∷ 4 ∷ []) $ join ! $ move ! (1 ∷ 0 ∷ []) $ join ! $ move ! (1 ∷ 2 ∷ []) $
    rewrite ! 0 (λ (l : Bool). ‵ (if_won l (held R way t d f gs i ys))) (sym (eq-eqb h.found h.sought asked.0)) refl $ move ! (1 ∷ 0 ∷ []) $ fjoin ! $ nothing ! $ fpack ! (IsRunAt R gs i e s) (λ _. ftrue) at $ fjoin ! $
    fpack ! Spot (λ u. fsep (is_fact (IsRunAt R gs i e u)) (fsep (kept R u.0 u.1 b o d u.2 β) (if_won (eqb h.found h.sought) (held R way u.1 d u.2 gs i ys)))) s $
    let p' : Ptr = block_ptr b o in let z' : Ptr = block_ptr d e in let made : Hr.Denot = record { word = p'; room = z'; marker = record {}; of = gs; index = i; first = way; sought = h.sought; found = h.found; values = ys } in
    let Told : Type 0 = (gs ≡ gs) × (i ≡ i) × (way ≡ way) × (h.sought ≡ h.sought) × (h.found ≡ h.found) × (ys ≡ ys) in let val : Val = pointers_val p' z' in
    sets ! (agg ! (and_then ! (get ! refl) (and_then ! (get ! refl) (and_then ! (get ! refl) (no_more !))))) refl (pointers_good p' z') $
    use0 𝓛 (‵ ((RunWords ℓ R).own_val (p', (z', (tt, tt))) (val ∷ []))) (run_made ℓ R 𝓛 p' z') $ fjoin ! $
    use0 𝓛 (raw (fact 𝓤 Told)) (fact_i 𝓤 Told (emp 𝓤) (refl, refl, refl, refl, refl, refl)) $ nothing ! $ nothing ! $ fjoin ! $ nothing ! $ fjoin ! $ nothing ! $ fjoin ! $
    returns ! (look_at ! 0 refl) $ free_all ! refl $ keep ! (3 ∷ 0 ∷ 2 ∷ 1 ∷ []) $ by ! (leaves 𝓛 En hs c y val made (tt, (tt, (tt, tt))) (tt, (tt, (tt, tt)))))))))))))))
