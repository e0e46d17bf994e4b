-- `sight` makes a sight that knows nothing.
use Rattle.std.proofs.Common.{◌≡◌, ℕ, List, [], ◌∷◌, ◌++◌, refl, sym, subst}
use mir.Syntax.{dcons, dnil, a_type}
use mir.Val.{Val, vptr}
use mir.MapTy.{inst_fn}
use base.Logic.{SProp, ent, emp, id⊢}
use prog.Wp.{WpFn}
use types.Kit.{‵, raw, ◌⊛◌, ◌$◌, ◌∵◌, !, qed, by, keep, split, fjoin, suffices, use0, use1}
use types.Run.{no_more, and_then, returns, enter}
use types.ByLocal.{alloc_all, pass_all, free_all, look_at, get, sets}
use types.Part.{agg}
use contract.Monad.{fact, fact_i}
use contract.Running.{tables}
use denote.Exit.{yes}
use denote.RattleType.{RattleType, owns}
use denote.Signature.{types_at, type_at, plain}
use denote.Builtin.{RefOf}
use denote.Steps.{nothing}
use denote.Param.{param, bounded}
use denote.Param.Laws.{param_laws}
use denote.Triple.Walked.{Stays, stay_dropped, walk_of, Goes-dropped}
use Rattle.core.specs.declared.option.Option.TheVariants.{None}
use Rattle.core.specs.contracts.atomic.ptr.AtomicPtr as atomic
use Rattle.core.proofs.atomic.ptr.AtomicPtr.TheLaws as atomic_laws
use Rattle.std.specs.contracts.alloc.Global as heap
use Rattle.std.proofs.alloc.Global.TheLaws as heap_laws
use Rattle.table_core.specs.contracts.entry.steps.Entry as entry
use Rattle.std.proofs.raw_atomic.Walks.{proved_at, leaves}
use denote.Triple.Entry.{alive}
use Rattle.table_core.proofs.Sights as sights
use Rattle.table_core.proofs.Sights.{EntrySight, token}
use Rattle.table_core.specs.contracts.entry.steps.Entry.sight.{ended, clauses}
use Rattle.table_core.specs.contracts.entry.steps.Entry.sight.Key.{name as #self}
use Rattle.table_core.proofs.entry.steps.Entry.sight.Statement.{statement}
use Rattle.table_core.proofs.entry.steps.Entry.sight.Code as code

pub sight_spec : {M : Type 1} → statement M
sight_spec 𝓤 𝓛 𝓜 𝓡 wired T L g d _ =
    let H = 𝓛.H in let 𝓣 = tables 𝓤 H 𝓜 𝓡 𝓡.env in let R : RattleType = param 0 T in let LR = param_laws 0 T L in let En = ended T g d in let c = clauses T g d 𝓛 𝓜.mem 𝓡.returns in
    let inst = bounded (a_type ∷ []) (T, tt) (dcons d dnil) in let fn = inst_fn inst code.function in let Z : RattleType = heap.the_row in let LZ = heap_laws.the_row_laws in let P : RattleType = atomic.the_row R in let LP = atomic_laws.the_row_laws R LR in
    let hs : Stays En.signature.params En.kept = (stay_dropped (RefOf (0 ∷ []) tt (plain (λ _. entry.the_row R g)) (λ _. tt)) yes, tt) in
    proved_at 𝓛 En hs c 𝓜 𝓡 (Goes-dropped 𝓛 2 (RefOf (0 ∷ []) tt (plain (λ _. entry.the_row R g)) (λ _. tt)) yes (λ κs x f. refl), tt) (#self inst) fn (code.unfolded 𝓤 H 𝓜 𝓡 wired (T, tt) d) (λ z are.
    let κs = z.0.0 in let qs = z.0.1 in let Post : Val → SProp 𝓤 = (walk_of 𝓛 En hs c).post z in let Run : List Val → SProp 𝓤 = λ ws. WpFn 𝓤 H 𝓣.C 𝓣.Λ fn ws Post in let Out : RattleType = type_at En.signature.result κs in
    let at : Val = vptr z.0.3.0.ref_ptr.0 z.0.3.0.ref_ptr.1 in let γ : ℕ = z.0.3.0.now.2 in let n : Out.Denot = record { marker = record {}; of = γ; known = None } in let Told : Type 0 = (γ ≡ γ) × (n.known ≡ None) in
    qed 𝓛 ((raw (alive 𝓛 En.signature κs qs) ⊛ ‵ (owns (types_at En.signature.params κs) z.0.3 z.0.4)) ∷ raw ((c κs z.0.3).requires z.1) ∷ []) ∵ split ! $ keep ! (0 ∷ []) $
    suffices ! (Run (at ∷ [])) (subst (λ (us : List Val). ent 𝓤 (Run (at ∷ [])) (Run us)) (sym (λ i. are.0.0 i ++ [])) (id⊢ 𝓤 (Run (at ∷ [])))) $
    enter ! 𝓣.C 𝓣.Λ fn (at ∷ []) Post $ alloc_all ! (λ l. pass_all ! refl ((tt, tt), tt) $ nothing ! $ sets ! (agg ! (no_more !)) refl (tt, tt) $ sets ! (agg ! (and_then ! (get ! refl) (no_more !))) refl (tt, (tt, tt)) $ use1 𝓛 (‵ ((EntrySight 𝓛 R).own_val n (token ∷ []))) (sights.sight_made 𝓛 R γ None) $
    use0 𝓛 (raw (fact 𝓤 Told)) (fact_i 𝓤 Told (emp 𝓤) (refl, refl)) $ nothing ! $ nothing ! $ fjoin ! $
    returns ! (look_at ! 0 refl) $ free_all ! refl $ keep ! (3 ∷ 0 ∷ 2 ∷ 1 ∷ []) $ by ! (leaves 𝓛 En hs c z token n (tt, tt) (tt, tt))))
