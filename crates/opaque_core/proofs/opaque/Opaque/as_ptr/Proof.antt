-- `as_ptr` returns the pointer of the reference. Assumes `Logic`.
use Rattle.std.proofs.Common.{◌≡◌, List, [], ◌∷◌, refl}
use mir.Syntax.{Fn, named}
use mir.Val.{Val, vptr}
use mir.MapTy.{inst_fn}
use base.Logic.{emp}
use contract.Monad.{fact, fact_i}
use contract.Running.{tables}
use types.Kit.{‵, raw, ◌⊛◌, ◌$◌, ◌∵◌, !, qed, by, keep, split, fjoin, use0, feq_i}
use types.Run.{stop, addr, of_opd, returns, enter}
use types.ByLocal.{alloc_all, pass_all, free_all, look_at, get, through, sets}
use denote.Exit.{yes}
use denote.RattleType.{RattleType, owns}
use denote.Signature.{types_at, plain}
use denote.Builtin.{RefOf}
use denote.Steps.{nothing}
use denote.Param.{number}
use denote.RawPtr.{Ptr, block_ptr}
use denote.Ref.{shr_vals, shr_Tells}
use denote.Triple.Entry.{alive}
use denote.Triple.Walked.{Stays, stay_dropped, walk_of, Goes-dropped}
use Rattle.std.proofs.raw_atomic.Walks.{proved, leaves}
use Rattle.opaque_core.proofs.Words as words
use Rattle.opaque_core.specs.contracts.opaque.Opaque.{the_row}
use Rattle.opaque_core.specs.contracts.opaque.Opaque.as_ptr.{ended, clauses}
use Rattle.opaque_core.specs.contracts.opaque.Opaque.as_ptr.Key.{name as #self}
use Rattle.opaque_core.proofs.opaque.Opaque.as_ptr.Statement.{statement}
use Rattle.opaque_core.proofs.opaque.Opaque.as_ptr.Code as code

pub as_ptr_spec : {M : Type 1} → statement M
as_ptr_spec 𝓤 𝓛 𝓜 𝓡 wired n _ =
    let H = 𝓛.H in let 𝓣 = tables 𝓤 H 𝓜 𝓡 𝓡.env in
    let Row : RattleType = the_row (words.N n) in let En = ended (number n) in
    let c = clauses (number n) 𝓛 𝓜.mem 𝓡.returns in let fn : Fn = inst_fn (words.args n) code.function in
    let self = RefOf (0 ∷ []) tt (plain (λ _. Row)) (λ _. tt) in
    let hs : Stays En.signature.params En.kept = (stay_dropped self yes, tt) in
    proved 𝓛 En hs c 𝓜 𝓡 (Goes-dropped 𝓛 2 self yes (λ κs x f. refl), tt)
    (#self (words.args n)) fn (code.unfolded 𝓤 H 𝓜 𝓡 wired (number n, tt))
    (λ κs. (shr_vals, tt)) (λ κs. (shr_Tells (named 0) κs.0 Row, tt)) (λ κs qs bounds a g are.
    let z : (walk_of 𝓛 En hs c).Ghost = ((κs, qs, bounds, a, (shr_vals a.0, tt)), g) in
    let v : Val = vptr a.0.ref_ptr.0 a.0.ref_ptr.1 in
    let p : Ptr = block_ptr a.0.ref_ptr.0 a.0.ref_ptr.1 in
    qed 𝓛 ((raw (alive 𝓛 En.signature κs qs) ⊛ ‵ (owns (types_at En.signature.params κs) a (v ∷ [], tt)))
    ∷ raw ((c κs a).requires g) ∷ []) ∵
    -- [the tokens]
    split ! $ keep ! (0 ∷ []) $ enter ! 𝓣.C 𝓣.Λ fn (v ∷ []) ((walk_of 𝓛 En hs c).post z) $
    alloc_all ! (λ l. pass_all ! refl ((tt, tt), tt) $
    sets ! (addr ! (through ! refl (stop !))) refl (tt, tt) $ sets ! (of_opd ! (get ! refl)) refl (tt, tt) $
    returns ! (look_at ! 0 refl) $ free_all ! refl $
    use0 𝓛 (raw (fact 𝓤 (p ≡ p))) (fact_i 𝓤 (p ≡ p) (emp 𝓤) refl) $
    feq_i ! (List Val) (v ∷ []) (v ∷ []) refl $ nothing ! $ nothing ! $ fjoin ! $
    keep ! (3 ∷ 0 ∷ 1 ∷ 2 ∷ []) $ by ! (leaves 𝓛 En hs c z v p (tt, tt) (tt, tt))))
