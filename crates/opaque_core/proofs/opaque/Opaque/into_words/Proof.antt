-- `into_words` takes the words, whichever they are. Assumes `Logic`.
use Rattle.std.proofs.Common.{◌≡◌, List, [], ◌∷◌, ◌++◌, sym, refl, subst, ◌∙◌}
use mir.Syntax.{Fn}
use mir.Val.{Val, vstruct, of_list}
use mir.MapTy.{inst_fn}
use base.Logic.{SProp, ent, id⊢}
use base.Fml.{ftrue, fsep}
use contract.Running.{tables}
use prog.Wp.{WpFn}
use types.Kit.{‵, raw, ◌⊛◌, ◌$◌, ◌∵◌, !, qed, by, move, keep, drop, split, fsplit, fjoin, fpick, feq_l, rewrite, suffices}
use types.Run.{stop, fld, of_opd, returns, enter}
use types.ByLocal.{alloc_all, pass_all, free_all, look_at, get, get_in, sets}
use types.Part.{sub, whole}
use denote.Exit.{yes}
use denote.Laws.{Is, Typed, shows}
use denote.RattleType.{RattleType}
use denote.Signature.{plain}
use denote.Steps.{nothing, peeks}
use denote.Param.{number}
use denote.Triple.Entry.{alive}
use denote.Triple.Walked.{Stays, stay_dropped, walk_of, Goes-dropped}
use Rattle.std.proofs.raw_atomic.Walks.{proved_at, leaves}
use Rattle.opaque_core.proofs.Words as words
use Rattle.opaque_core.specs.contracts.opaque.Opaque.{the_row}
use Rattle.opaque_core.specs.contracts.opaque.Opaque.into_words.{ended, clauses}
use Rattle.opaque_core.specs.contracts.opaque.Opaque.into_words.Key.{name as #self}
use Rattle.opaque_core.proofs.opaque.Opaque.into_words.Statement.{statement}
use Rattle.opaque_core.proofs.opaque.Opaque.into_words.Code as code

pub into_words_spec : {M : Type 1} → statement M
into_words_spec 𝓤 𝓛 𝓜 𝓡 wired n _ =
    let H = 𝓛.H in let 𝓣 = tables 𝓤 H 𝓜 𝓡 𝓡.env in let Words : RattleType = words.Words n in
    let Row : RattleType = the_row (words.N n) in let En = ended (number n) in
    let c = clauses (number n) 𝓛 𝓜.mem 𝓡.returns in let fn : Fn = inst_fn (words.args n) code.function in
    let self = plain (λ _. Row) in let hs : Stays En.signature.params En.kept = (stay_dropped self yes, tt) in
    proved_at 𝓛 En hs c 𝓜 𝓡 (Goes-dropped 𝓛 1 self yes (λ κs x f. refl), tt)
    (#self (words.args n)) fn (code.unfolded 𝓤 H 𝓜 𝓡 wired (number n, tt)) (λ z are.
    let Post : Val → SProp 𝓤 = (walk_of 𝓛 En hs c).post z in
    let Run : List Val → SProp 𝓤 = λ vs. WpFn 𝓤 H 𝓣.C 𝓣.Λ fn vs Post in
    qed 𝓛 ((raw (alive 𝓛 En.signature z.0.0 z.0.1) ⊛ ‵ (fsep (Row.own_val z.0.3.0 z.0.4.0) ftrue))
    ∷ raw ((c z.0.0 z.0.3).requires z.1) ∷ []) ∵
    -- [the type of the machine value; the element; nothing; the tokens]
    keep ! (0 ∷ []) $ split ! $ move ! (1 ∷ []) $ fsplit ! $ fsplit ! $ fpick ! (λ typed. drop ! $
    fpick ! (λ ws. fpick ! (λ vss. fsplit ! $ feq_l ! (λ is_struct. fsplit ! $
    peeks ! Words (Is Words) (shows 𝓛 Words) ws vss.0 (λ is.
    let w : Val = words.row n ws in let v : Val = words.element n ws in
    let is_row = words.row_is n 𝓛 ws vss.0 is in let fits = words.row_typed n 𝓛 ws vss.0 is in
    let is_element : z.0.4.0 ≡ v ∷ [] = is_struct ∙ (λ i. vstruct (of_list (is_row i ++ [])) ∷ []) in
    rewrite ! 0 (λ (us : List Val). ‵ (Words.own_val ws us)) is_row refl $ keep ! (0 ∷ 3 ∷ []) $
    suffices ! (Run (v ∷ [])) (subst (λ (vs : List Val). ent 𝓤 (Run (v ∷ [])) (Run vs))
    (sym (λ i. is_element i ++ [])) (id⊢ 𝓤 (Run (v ∷ [])))) $
    enter ! 𝓣.C 𝓣.Λ fn (v ∷ []) Post $
    alloc_all ! (λ l. pass_all ! refl ((subst (Typed Row.mir) is_element typed).0, tt) $
    -- [the words; the tokens]
    sets ! (of_opd ! (get_in ! (fld ! refl (stop !)) (sub ! 0 refl (whole !)))) refl fits $
    sets ! (of_opd ! (get ! refl)) refl fits $
    returns ! (look_at ! 0 refl) $ free_all ! refl $ nothing ! $ nothing ! $ nothing ! $ fjoin ! $
    keep ! (3 ∷ 0 ∷ 2 ∷ 1 ∷ []) $ by ! (leaves 𝓛 En hs c z w ws (tt, tt) (tt, tt)))))))))
