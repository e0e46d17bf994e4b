-- `from_words` keeps the words. Assumes `Logic`.
use Rattle.std.proofs.Common.{ℕ, List, [], ◌∷◌, ◌++◌, sym, refl, subst}
use mir.Syntax.{Fn}
use mir.Val.{Val}
use mir.MapTy.{inst_fn}
use base.Logic.{SProp, ent, id⊢}
use base.Fml.{ftrue, fsep}
use contract.Running.{tables}
use prog.Wp.{WpFn}
use types.Kit.{‵, raw, ◌⊛◌, ◌$◌, ◌∵◌, !, qed, by, move, keep, split, fsplit, fjoin, fpack, feq_i, rewrite, suffices}
use types.Run.{no_more, and_then, returns, enter}
use types.ByLocal.{alloc_all, pass_all, free_all, look_at, get, sets}
use types.Part.{agg}
use denote.Exit.{yes}
use denote.Laws.{Typed}
use denote.RattleType.{RattleType, Valss}
use denote.Signature.{plain}
use denote.Steps.{nothing}
use denote.Param.{number}
use denote.Struct.Declared.{shape}
use denote.Struct.Struct.{within}
use denote.Triple.Entry.{alive}
use denote.Triple.Walked.{Stays, stay_dropped, walk_of, Goes-dropped}
use Rattle.std.proofs.ResultValues.{and_tt}
use Rattle.std.proofs.raw_atomic.Walks.{proved_at, leaves}
use Rattle.opaque_core.proofs.Words as words
use Rattle.opaque_core.specs.contracts.opaque.Opaque.TheInside as inside
use Rattle.opaque_core.specs.contracts.opaque.Opaque.from_words.{ended, clauses}
use Rattle.opaque_core.specs.contracts.opaque.Opaque.from_words.Key.{name as #self}
use Rattle.opaque_core.proofs.opaque.Opaque.from_words.Statement.{statement}
use Rattle.opaque_core.proofs.opaque.Opaque.from_words.Code as code

pub from_words_spec : {M : Type 1} → statement M
from_words_spec 𝓤 𝓛 𝓜 𝓡 wired n _ =
    let H = 𝓛.H in let 𝓣 = tables 𝓤 H 𝓜 𝓡 𝓡.env in let Words : RattleType = words.Words n in
    let Inside : RattleType = inside.the_row (words.N n) in let En = ended (number n) in
    let c = clauses (number n) 𝓛 𝓜.mem 𝓡.returns in let fn : Fn = inst_fn (words.args n) code.function in
    let item = plain (λ _. Words) in let hs : Stays En.signature.params En.kept = (stay_dropped item yes, tt) in
    proved_at 𝓛 En hs c 𝓜 𝓡 (Goes-dropped 𝓛 1 item yes (λ κs x f. refl), tt)
    (#self (words.args n)) fn (code.unfolded 𝓤 H 𝓜 𝓡 wired (number n, tt)) (λ z are.
    let Post : Val → SProp 𝓤 = (walk_of 𝓛 En hs c).post z in
    let Run : List Val → SProp 𝓤 = λ vs. WpFn 𝓤 H 𝓣.C 𝓣.Λ fn vs Post in
    let ws : List ℕ = z.0.3.0 in let w : Val = words.row n ws in let v : Val = words.element n ws in
    let is_row = words.row_is n 𝓛 ws z.0.4.0 are.0 in let fits = words.row_typed n 𝓛 ws z.0.4.0 are.0 in
    let typed : Typed Inside.mir (v ∷ []) = ((and_tt _ fits.0, (fits.1, tt)), tt) in
    qed 𝓛 ((raw (alive 𝓛 En.signature z.0.0 z.0.1) ⊛ ‵ (fsep (Words.own_val ws z.0.4.0) ftrue))
    ∷ raw ((c z.0.0 z.0.3).requires z.1) ∷ []) ∵
    -- [the words; the tokens]
    keep ! (0 ∷ []) $ split ! $ move ! (1 ∷ []) $ fsplit ! $ keep ! (0 ∷ 2 ∷ []) $
    rewrite ! 0 (λ (us : List Val). ‵ (Words.own_val ws us)) is_row refl $
    nothing ! $ move ! (1 ∷ 0 ∷ []) $ fjoin ! $ feq_i ! (List Val) (v ∷ []) (v ∷ []) refl $ fjoin ! $
    fpack ! (Valss (Words ∷ [])) (within (shape (inside.the_type (words.N n))) (ws, tt) (v ∷ [])) (w ∷ [], tt) $
    fpack ! (List ℕ) (λ xs. Inside.own_val (record { words = xs }) (v ∷ [])) ws $
    nothing ! $ fpack ! (Typed Inside.mir (v ∷ [])) (λ _. ftrue) typed $ fjoin ! $
    -- [the element; the tokens]
    suffices ! (Run (w ∷ [])) (subst (λ (vs : List Val). ent 𝓤 (Run (w ∷ [])) (Run vs))
    (sym (λ i. is_row i ++ [])) (id⊢ 𝓤 (Run (w ∷ [])))) $
    enter ! 𝓣.C 𝓣.Λ fn (w ∷ []) Post $ alloc_all ! (λ l. pass_all ! refl (fits, tt) $
    sets ! (agg ! (and_then ! (get ! refl) (no_more !))) refl typed.0 $
    returns ! (look_at ! 0 refl) $ free_all ! refl $ nothing ! $ nothing ! $ nothing ! $ fjoin ! $
    keep ! (3 ∷ 0 ∷ 2 ∷ 1 ∷ []) $ by ! (leaves 𝓛 En hs c z v tt (tt, tt) (tt, tt))))
