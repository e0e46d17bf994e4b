-- `rename` gives the entry a new name next to the other, which is owned meanwhile.
use Rattle.std.proofs.Common.{◌≡◌, ◌≢◌, ℕ, List, [], ◌∷◌, ◌++◌, refl, sym, subst}
use mir.Syntax.{dcons, dnil, a_type}
use mir.Val.{Val, vptr, vunit}
use mir.MapTy.{inst_fn}
use base.Logic.{SProp, ent, emp, id⊢}
use base.Fml.{Lft, Share, Fml, ftrue, fsep, flft}
use prog.Wp.{WpFn}
use types.Kit.{‵, raw, ◌⊛◌, later, ◌$◌, ◌∵◌, !, qed, by, move, keep, drop, split, split3, join, fsplit, fsplit3, fjoin, fjoin3, fpick, suffices, use0, use2, await, feq_i}
use types.Run.{unit_lit, of_opd, returns, enter}
use types.ByLocal.{alloc_all, pass_all, free_all, look_at, sets, env}
use contract.Monad.{fact, fact_i}
use contract.Running.{tables}
use denote.RattleType.{RattleType, owns}
use denote.Signature.{types_at, plain}
use denote.Param.{param, bounded}
use denote.Steps.{nothing, opens, closes}
use denote.Triple.Walked.{Stays, stay_ref, walk_of, Goes-ref}
use Rattle.std.proofs.raw_atomic.Walks.{proved_at, leaves}
use Rattle.table_core.specs.Entry.{EntryView, bond_of, length_of, name_of, tie_of, mould_at}
use Rattle.table_core.proofs.Renamed.{Row, Renamed, renames}
use Rattle.table_core.specs.contracts.entry.steps.Entry.rename.{ended, clauses}
use Rattle.table_core.specs.contracts.entry.steps.Entry.rename.Key.{name as #self}
use Rattle.table_core.proofs.entry.steps.Entry.rename.Statement.{statement}
use Rattle.table_core.proofs.entry.steps.Entry.rename.Code as code

pub rename_spec : {M : Type 1} → statement M
rename_spec 𝓤 𝓛 𝓜 𝓡 wired T L g d _ =
    let H = 𝓛.H in let 𝓣 = tables 𝓤 H 𝓜 𝓡 𝓡.env in let R : RattleType = param 0 T in let En = ended T g d in let c = clauses T g d 𝓛 𝓜.mem 𝓡.returns in
    let inst = bounded (a_type ∷ []) (T, tt) (dcons d dnil) in let fn = inst_fn inst code.function in let E : RattleType = Row 𝓛 R g in
    let hs : Stays En.signature.params En.kept = (stay_ref (0 ∷ []) tt (plain (λ _. E)), (stay_ref (1 ∷ []) tt (plain (λ _. E)), tt)) in
    proved_at 𝓛 En hs c 𝓜 𝓡 (Goes-ref 𝓛 3 0 tt (plain (λ _. E)), (Goes-ref 𝓛 3 1 tt (plain (λ _. E)), tt)) (#self inst) fn (code.unfolded 𝓤 H 𝓜 𝓡 wired (T, tt) d) (λ z are.
    let κs = z.0.0 in let qs = z.0.1 in let Post : Val → SProp 𝓤 = (walk_of 𝓛 En hs c).post z in let Run : List Val → SProp 𝓤 = λ ws. WpFn 𝓤 H 𝓣.C 𝓣.Λ fn ws Post in
    let κ : Lft = κs.0 in let q : Share = qs.0 in let κ' : Lft = κs.1.0 in let q' : Share = qs.1.0 in let others : Fml = fsep (flft κs.1.1.0 qs.1.1.0) ftrue in
    let m = z.0.3.0 in let b : ℕ = m.ref_ptr.0 in let o : ℕ = m.ref_ptr.1 in let e : EntryView = m.now in
    let m' = z.0.3.1.0 in let b' : ℕ = m'.ref_ptr.0 in let o' : ℕ = m'.ref_ptr.1 in let e' : EntryView = m'.now in
    qed 𝓛 (((‵ (flft κ q) ⊛ ‵ (flft κ' q') ⊛ ‵ others) ⊛ ‵ (owns (types_at En.signature.params κs) z.0.3 z.0.4)) ∷ raw ((c κs z.0.3).requires z.1) ∷ []) ∵
    keep ! (0 ∷ []) $ split ! $ split3 ! $ move ! (3 ∷ []) $ fsplit3 ! $ fsplit3 ! $ move ! (3 ∷ []) $ fsplit3 ! $ keep ! (4 ∷ 5 ∷ 7 ∷ 1 ∷ 2 ∷ 8 ∷ 9 ∷ []) $
    suffices ! (Run (vptr b o ∷ vptr b' o' ∷ [])) (subst (λ (us : List Val). ent 𝓤 (Run (vptr b o ∷ vptr b' o' ∷ [])) (Run us)) (sym (λ i. are.0.0 i ++ (are.1.0.0 i ++ []))) (id⊢ 𝓤 (Run (vptr b o ∷ vptr b' o' ∷ [])))) $
    enter ! 𝓣.C 𝓣.Λ fn (vptr b o ∷ vptr b' o' ∷ []) Post $ alloc_all ! (λ l. pass_all ! refl ((tt, tt), ((tt, tt), tt)) $ let Ev = env fn.locals l in
    opens ! tt E b o (λ ts. move ! (5 ∷ 6 ∷ 7 ∷ []) $ opens ! tt E b' o' (λ us. move ! (6 ∷ 1 ∷ []) $
    use2 𝓛 (later (‵ (Renamed 𝓛 R g e e' ts) ⊛ ‵ (E.own_val e' us))) (renames 𝓛 R g e e' ts us) $ await ! tt $ split ! $ fpick ! (λ γ. fsplit ! $ fpick ! (λ apart. drop ! $
    -- [the entry; the other; the other's memory and names; the entry's memory and names; ..]
    let n : EntryView = (e.0, e.1, γ, e.3) in move ! (6 ∷ 0 ∷ 7 ∷ 8 ∷ 9 ∷ []) $ closes ! tt E n ts b o $ move ! (4 ∷ 3 ∷ 5 ∷ 6 ∷ 7 ∷ []) $ closes ! tt E e' us b' o' $
    feq_i ! (List Val) z.0.4.1.0 (vptr b' o' ∷ []) are.1.0.0 $ fjoin3 ! $ nothing ! $ move ! (1 ∷ 0 ∷ []) $ fjoin ! $
    move ! (2 ∷ 3 ∷ []) $ feq_i ! (List Val) z.0.4.0 (vptr b o ∷ []) are.0.0 $ fjoin3 ! $ fjoin ! $ move ! (1 ∷ 3 ∷ []) $ join ! $ move ! (2 ∷ 0 ∷ []) $ join ! $
    let Kept : Type 0 = (γ ≢ name_of e') × (length_of n ≡ length_of e) × (tie_of n ≡ tie_of e) × (mould_at n ≡ mould_at e) × (bond_of n ≡ bond_of e) × (e' ≡ e') in
    use0 𝓛 (raw (fact 𝓤 Kept)) (fact_i 𝓤 Kept (emp 𝓤) (apart, refl, refl, refl, refl, refl)) $ feq_i ! (List Val) (vunit ∷ []) (vunit ∷ []) refl $
    sets ! (of_opd ! (unit_lit !)) refl (tt, tt) $
    returns ! (look_at ! 0 refl) $ free_all ! refl $ keep ! (2 ∷ 3 ∷ 0 ∷ 1 ∷ []) $ by ! (leaves 𝓛 En hs c z vunit tt (n, (e', tt)) (tt, (tt, tt)))))))))
