-- `longer` knows the codes of a further tie.
use Rattle.atomic_table.proofs.Names.{◌≡◌, List, [], ◌∷◌, ◌++◌, refl, a_type, dcons, dnil, named, Val, vptr, inst_fn, SProp, emp, ftrue, ‵, raw, ◌⊛◌, ◌$◌, ◌∵◌, !, qed, by, move, keep, drop, split, fsplit, fsplit3, fjoin, fpick, fpack, use0, no_more, and_then, returns, enter, alloc_all, pass_all, free_all, look_at, get, sets, agg, tables, yes, no, RattleType, owns, types_at, plain, nothing, param, bounded, alive, Stays, stay_dropped, walk_of, Goes-dropped, fact, fact_i, Coded, RefOf, shr_vals, shr_Tells, unhide}
use Rattle.atomic_table.proofs.Walks.{proved, leaves}
use Rattle.atomic_table.proofs.Fields.{token_val}
use Rattle.tie_core.specs.Tags.{TagView, AreTagged, tag_of}
use Rattle.tie_core.specs.contracts.visit.EntryTag as EntryTag
use Rattle.tie_core.specs.contracts.tags.RawTags as RawTags
use Rattle.tie_core.proofs.TagParts.{RowWords, row_told, row_words, tagged_more}
use Rattle.tie_core.specs.contracts.tags.RawTags.longer.{ended, clauses}
use Rattle.tie_core.specs.contracts.tags.RawTags.longer.Key.{name as #self}
use Rattle.tie_core.proofs.tags.RawTags.longer.Statement.{statement}
use Rattle.tie_core.proofs.tags.RawTags.longer.Code as code

pub longer_spec : {M : Type 1} → statement M
longer_spec 𝓤 𝓛 𝓜 𝓡 wired U P _ _ g d _ =
    let H = 𝓛.H in let 𝓣 = tables 𝓤 H 𝓜 𝓡 𝓡.env in let W : RattleType = param 0 U in let Y : RattleType = param 1 P in let En = ended U P g d in let c = clauses U P g d 𝓛 𝓜.mem 𝓡.returns in
    let inst = bounded (a_type ∷ a_type ∷ []) (U, (P, tt)) (dcons d dnil) in let fn = inst_fn inst code.function in let S : RattleType = RawTags.the_row W Y g in let Tr : RattleType = EntryTag.the_row W Y g in
    let self = plain (λ _. S) in let by_tag = RefOf (0 ∷ []) tt (plain (λ _. Tr)) (λ _. tt) in let hs : Stays En.signature.params En.kept = (stay_dropped self no, (stay_dropped by_tag yes, tt)) in
    proved 𝓛 En hs c 𝓜 𝓡 (Goes-dropped 𝓛 3 self no (λ κs x f. refl), (Goes-dropped 𝓛 3 by_tag yes (λ κs x f. refl), tt)) (#self inst) fn (code.unfolded 𝓤 H 𝓜 𝓡 wired (U, (P, tt)) d)
    (λ κs. ((λ _. token_val ∷ []), (shr_vals, tt))) (λ κs. ((λ x vs so. row_told W Y g vs so.0), (shr_Tells (named 0) κs.0 Tr, tt))) (λ κs qs bounds a gh are.
    let p : Val = vptr a.1.0.ref_ptr.0 a.1.0.ref_ptr.1 in let cv : Coded U.Denot = W.coded in let ts : List TagView = a.0.of in let k : Tr.Denot = a.1.0.now in let t : TagView = tag_of k.tie k.from k.n in let all : List TagView = ts ++ t ∷ [] in
    let r : S.Denot = record { marker = record {}; of = all } in let Told : Type 0 = all ≡ all in
    let y : (walk_of 𝓛 En hs c).Ghost = ((κs, qs, bounds, a, (token_val ∷ [], (p ∷ [], tt))), gh) in let Post : Val → SProp 𝓤 = (walk_of 𝓛 En hs c).post y in
    qed 𝓛 ((raw (alive 𝓛 En.signature κs qs) ⊛ ‵ (owns (types_at En.signature.params κs) a y.0.4)) ∷ raw ((c κs a).requires gh) ∷ []) ∵ split ! $ keep ! (1 ∷ 0 ∷ []) $
    fsplit3 ! $ fsplit ! $ move ! (2 ∷ []) $ fsplit ! $ keep ! (1 ∷ 3 ∷ 5 ∷ []) $
    -- [the tag; what the row knows; the tokens]
    unhide ! $ fsplit ! $ drop ! $ fpick ! (λ one. drop ! $ fpick ! (λ known. drop ! $
    nothing ! $ fpack ! (AreTagged cv.code g.empty g.placed all) (λ _. ftrue) (tagged_more cv.code g.empty g.placed ts t known one) $ use0 𝓛 (‵ ((RowWords W Y g).own_val (tt, tt) (token_val ∷ []))) (row_words W Y g 𝓛) $ fjoin ! $
    enter ! 𝓣.C 𝓣.Λ fn (token_val ∷ p ∷ []) Post $ alloc_all ! (λ l. pass_all ! refl ((tt, (tt, tt)), ((tt, tt), tt)) $
    sets ! (agg ! (no_more !)) refl (tt, tt) $ sets ! (agg ! (and_then ! (get ! refl) (no_more !))) refl (tt, (tt, tt)) $
    use0 𝓛 (raw (fact 𝓤 Told)) (fact_i 𝓤 Told (emp 𝓤) refl) $ nothing ! $ nothing ! $ fjoin ! $ nothing ! $ fjoin ! $
    returns ! (look_at ! 0 refl) $ free_all ! refl $ keep ! (3 ∷ 0 ∷ 2 ∷ 1 ∷ []) $ by ! (leaves 𝓛 En hs c y token_val r (tt, (tt, tt)) (tt, (tt, tt)))))))
