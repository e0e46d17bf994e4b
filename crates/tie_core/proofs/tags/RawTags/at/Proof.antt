-- `at` copies what is known of the codes of one tie.
use Rattle.atomic_table.proofs.Names.{◌≡◌, ℕ, ◌<◌, List, [], ◌∷◌, length, refl, w64, a_type, dcons, dnil, named, Val, vint, vptr, inst_fn, SProp, emp, ftrue, ‵, raw, ◌⊛◌, ◌$◌, ◌∵◌, !, qed, by, keep, drop, split, fsplit, fsplit3, fjoin, fpick, fpack, use0, no_more, and_then, returns, enter, alloc_all, pass_all, free_all, look_at, get, sets, agg, tables, yes, RattleType, owns, types_at, plain, nothing, heard, param, bounded, alive, Stays, stay_dropped, walk_of, Goes-dropped, fact, fact_i, Coded, RefOf, u64, shr_vals, shr_Tells, uint_vals, uint_Tells, unhide}
use Rattle.std.specs.Prelude.{Some, slice_get}
use Rattle.atomic_table.proofs.Walks.{proved, leaves}
use Rattle.atomic_table.proofs.Fields.{token_val}
use Rattle.tie_core.specs.Visit.{HasEntryCodes}
use Rattle.tie_core.specs.Tags.{TagView, tag_of}
use Rattle.tie_core.specs.contracts.visit.EntryTag as EntryTag
use Rattle.tie_core.specs.contracts.tags.RawTags as RawTags
use Rattle.tie_core.proofs.VisitParts.{EntryTagWords, entry_tag_words}
use Rattle.tie_core.proofs.TagParts.{tagged_at}
use Rattle.tie_core.specs.contracts.tags.RawTags.at.{ended, clauses}
use Rattle.tie_core.specs.contracts.tags.RawTags.at.Key.{name as #self}
use Rattle.tie_core.proofs.tags.RawTags.at.Statement.{statement}
use Rattle.tie_core.proofs.tags.RawTags.at.Code as code

pub at_spec : {M : Type 1} → statement M
at_spec 𝓤 𝓛 𝓜 𝓡 wired U P _ _ g d _ =
    let H = 𝓛.H in let 𝓣 = tables 𝓤 H 𝓜 𝓡 𝓡.env in let W : RattleType = param 0 U in let Y : RattleType = param 1 P in let En = ended U P g d in let c = clauses U P g d 𝓛 𝓜.mem 𝓡.returns in
    let inst = bounded (a_type ∷ a_type ∷ []) (U, (P, tt)) (dcons d dnil) in let fn = inst_fn inst code.function in let S : RattleType = RawTags.the_row W Y g in let Tr : RattleType = EntryTag.the_row W Y g in
    let self = RefOf (0 ∷ []) tt (plain (λ _. S)) (λ _. tt) in let index = plain (λ _. u64) in let hs : Stays En.signature.params En.kept = (stay_dropped self yes, (stay_dropped index yes, tt)) in
    proved 𝓛 En hs c 𝓜 𝓡 (Goes-dropped 𝓛 3 self yes (λ κs x f. refl), (Goes-dropped 𝓛 3 index yes (λ κs x f. refl), tt)) (#self inst) fn (code.unfolded 𝓤 H 𝓜 𝓡 wired (U, (P, tt)) d)
    (λ κs. (shr_vals, (uint_vals w64, tt))) (λ κs. (shr_Tells (named 0) κs.0 S, (uint_Tells w64, tt))) (λ κs qs bounds a gh are.
    let p : Val = vptr a.0.ref_ptr.0 a.0.ref_ptr.1 in let cv : Coded U.Denot = W.coded in let ts : List TagView = a.0.now.of in let i : ℕ = a.1.0 in let Asked : Type 0 = i < length ts in
    let y : (walk_of 𝓛 En hs c).Ghost = ((κs, qs, bounds, a, (p ∷ [], (vint w64 i ∷ [], tt))), gh) in let Post : Val → SProp 𝓤 = (walk_of 𝓛 En hs c).post y in
    qed 𝓛 ((raw (alive 𝓛 En.signature κs qs) ⊛ ‵ (owns (types_at En.signature.params κs) a y.0.4)) ∷ raw (fact 𝓤 _) ∷ raw (fact 𝓤 _) ∷ raw (fact 𝓤 Asked) ∷ []) ∵ keep ! (3 ∷ 0 ∷ []) $ heard ! Asked (λ asked.
    split ! $ keep ! (1 ∷ 0 ∷ []) $ fsplit3 ! $ fsplit ! $ keep ! (1 ∷ 4 ∷ []) $ unhide ! $ fsplit ! $ drop ! $ fpick ! (λ known. drop ! $
    let got = tagged_at cv.code g.empty g.placed ts i asked known in let t : TagView = got.0 in let r : Tr.Denot = record { marker = record {}; tie = t.tie; from = t.from; n = t.n } in let Told : Type 0 = slice_get ts i ≡ Some (tag_of t.tie t.from t.n) in
    nothing ! $ fpack ! (HasEntryCodes cv.code (g.empty t.from t.n) (g.placed t.from t.n) t.tie) (λ _. ftrue) got.2 $ use0 𝓛 (‵ ((EntryTagWords W Y g).own_val (tt, tt) (token_val ∷ []))) (entry_tag_words W Y g 𝓛) $ fjoin ! $
    enter ! 𝓣.C 𝓣.Λ fn (p ∷ vint w64 i ∷ []) Post $ alloc_all ! (λ l. pass_all ! refl ((tt, tt), ((tt, record { fits = are.1.0.1 }), tt)) $
    sets ! (agg ! (no_more !)) refl (tt, tt) $ sets ! (agg ! (and_then ! (get ! refl) (no_more !))) refl (tt, (tt, tt)) $
    use0 𝓛 (raw (fact 𝓤 Told)) (fact_i 𝓤 Told (emp 𝓤) got.1) $ nothing ! $ nothing ! $ fjoin ! $ nothing ! $ fjoin ! $
    returns ! (look_at ! 0 refl) $ free_all ! refl $ keep ! (3 ∷ 0 ∷ 2 ∷ 1 ∷ []) $ by ! (leaves 𝓛 En hs c y token_val r (tt, (tt, tt)) (tt, (tt, tt)))))))
