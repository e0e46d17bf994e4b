-- `none` knows nothing.
use Rattle.atomic_table.proofs.Names.{◌≡◌, List, [], ◌∷◌, refl, a_type, dcons, dnil, Val, inst_fn, SProp, emp, ftrue, ‵, raw, ◌⊛◌, ◌$◌, ◌∵◌, !, qed, by, keep, split, fjoin, fpack, use0, no_more, and_then, returns, enter, alloc_all, pass_all, free_all, look_at, get, sets, agg, tables, RattleType, nothing, param, bounded, alive, walk_of, fact, fact_i, Coded}
use Rattle.atomic_table.proofs.Walks.{proved, leaves}
use Rattle.atomic_table.proofs.Fields.{token_val}
use Rattle.tie_core.specs.Tags.{TagView, AreTagged}
use Rattle.tie_core.specs.contracts.tags.RawTags as RawTags
use Rattle.tie_core.proofs.TagParts.{RowWords, row_words}
use Rattle.tie_core.specs.contracts.tags.RawTags.none.{ended, clauses}
use Rattle.tie_core.specs.contracts.tags.RawTags.none.Key.{name as #self}
use Rattle.tie_core.proofs.tags.RawTags.none.Statement.{statement}
use Rattle.tie_core.proofs.tags.RawTags.none.Code as code

pub none_spec : {M : Type 1} → statement M
none_spec 𝓤 𝓛 𝓜 𝓡 wired U P _ _ g d _ =
    let H = 𝓛.H in let 𝓣 = tables 𝓤 H 𝓜 𝓡 𝓡.env in let W : RattleType = param 0 U in let Y : RattleType = param 1 P in let En = ended U P g d in let c = clauses U P g d 𝓛 𝓜.mem 𝓡.returns in
    let inst = bounded (a_type ∷ a_type ∷ []) (U, (P, tt)) (dcons d dnil) in let fn = inst_fn inst code.function in let S : RattleType = RawTags.the_row W Y g in let ts : List TagView = [] in
    proved 𝓛 En tt c 𝓜 𝓡 tt (#self inst) fn (code.unfolded 𝓤 H 𝓜 𝓡 wired (U, (P, tt)) d) (λ κs. tt) (λ κs. tt) (λ κs qs bounds a gh are.
    let cv : Coded U.Denot = W.coded in let y : (walk_of 𝓛 En tt c).Ghost = ((κs, qs, bounds, a, tt), gh) in let Post : Val → SProp 𝓤 = (walk_of 𝓛 En tt c).post y in let r : S.Denot = record { marker = record {}; of = ts } in
    qed 𝓛 ((raw (alive 𝓛 En.signature κs qs) ⊛ ‵ ftrue) ∷ raw ((c κs a).requires gh) ∷ []) ∵ split ! $ keep ! (0 ∷ []) $
    nothing ! $ fpack ! (AreTagged cv.code g.empty g.placed ts) (λ _. ftrue) tt $ use0 𝓛 (‵ ((RowWords W Y g).own_val (tt, tt) (token_val ∷ []))) (row_words W Y g 𝓛) $ fjoin ! $
    enter ! 𝓣.C 𝓣.Λ fn [] Post $ alloc_all ! (λ l. pass_all ! refl tt $
    sets ! (agg ! (no_more !)) refl (tt, tt) $ sets ! (agg ! (and_then ! (get ! refl) (no_more !))) refl (tt, (tt, tt)) $
    use0 𝓛 (raw (fact 𝓤 (ts ≡ ts))) (fact_i 𝓤 (ts ≡ ts) (emp 𝓤) refl) $ nothing ! $
    returns ! (look_at ! 0 refl) $ free_all ! refl $ keep ! (3 ∷ 0 ∷ 2 ∷ 1 ∷ []) $ by ! (leaves 𝓛 En tt c y token_val r tt tt)))
