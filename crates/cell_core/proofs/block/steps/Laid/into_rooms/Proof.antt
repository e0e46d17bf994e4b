-- `into_rooms` gives up the cells, and makes two rows of room of their rows.
use Rattle.std.proofs.Common.{◌≡◌, ℕ, ◌+◌, List, [], ◌∷◌, ◌++◌, length, refl}
use mir.Syntax.{Ty, a_type, dcons, dnil}
use mir.Val.{Val, vstruct, vcons, vnil, of_list}
use mir.MapTy.{inst_fn}
use base.Logic.{SProp, emp}
use base.Fml.{Fml, fsep, feq}
use types.Kit.{‵, raw, ◌⊛◌, ◌$◌, ◌∵◌, !, qed, by, move, keep, use0, use1, split, fsplit, fjoin, fjoin3, feq_i, fpack}
use types.Run.{no_more, and_then, returns, enter}
use types.ByLocal.{alloc_all, pass_all, free_all, look_at, get, sets}
use types.Part.{agg}
use contract.Running.{tables}
use contract.Monad.{fact, fact_i}
use denote.Exit.{no}
use denote.RattleType.{RattleType, owns, Valss}
use denote.Signature.{types_at, plain}
use denote.RawPtr.{Ptr, RawPtr}
use denote.Steps.{nothing}
use denote.Param.{param, bounded}
use denote.Builtin.{u64}
use denote.Triple.Entry.{alive}
use denote.Triple.Walked.{Stays, stay_dropped, walk_of, Goes-dropped}
use Rattle.atomic_table.proofs.Walks.{proved, leaves}
use Rattle.cell_core.specs.Laid.{Extent, rooms_owned}
use Rattle.cell_core.specs.contracts.block.steps.Rooms as room
use Rattle.cell_core.specs.contracts.block.steps.Laid as loose
use Rattle.cell_core.proofs.CellMade.{token_val}
use Rattle.cell_core.proofs.LaidMade.{Token, token_made, token_told}
use Rattle.cell_core.proofs.LaidParts as parts
use Rattle.cell_core.specs.contracts.block.steps.Laid.into_rooms.{ended, clauses}
use Rattle.cell_core.specs.contracts.block.steps.Laid.into_rooms.Key.{name as #self}
use Rattle.cell_core.proofs.block.steps.Laid.into_rooms.Statement.{statement}
use Rattle.cell_core.proofs.block.steps.Laid.into_rooms.Code as code

pub into_rooms_spec : {M : Type 1} → statement M
into_rooms_spec 𝓤 𝓛 𝓜 𝓡 wired T Al L _ ga da dd _ _ =
    let H = 𝓛.H in let 𝓣 = tables 𝓤 H 𝓜 𝓡 𝓡.env in let R : RattleType = param 0 T in let Z : RattleType = param 1 Al in let Ws : RattleType = room.the_row u64 Z ga in let Rs : RattleType = room.the_row R Z ga in let Lo : RattleType = loose.the_row R Z ga in let En = ended T Al ga da dd in let c = clauses T Al ga da dd 𝓛 𝓜.mem 𝓡.returns in
    let inst = bounded (a_type ∷ a_type ∷ []) (T, (Al, tt)) (dcons da (dcons dd dnil)) in let fn = inst_fn inst code.function in
    let hs : Stays En.signature.params En.kept = (stay_dropped (plain (λ _. Lo)) no, tt) in
    proved 𝓛 En hs c 𝓜 𝓡 (Goes-dropped 𝓛 2 (plain (λ _. Lo)) no (λ κs x f. refl), tt) (#self inst) fn (code.unfolded 𝓤 H 𝓜 𝓡 wired (T, (Al, tt)) da dd)
    (λ κs. ((λ _. token_val ∷ []), tt)) (λ κs. ((λ x vs so. token_told RawPtr vs so.0), tt)) (λ κs qs bounds a gh are.
    let h : Lo.Denot = a.0 in let x : Extent = h.rows in let token : Ty → Ptr → Fml = ga.dealloc_token h.heap in let k : ℕ = x.words + x.more in let n : ℕ = length h.cells + x.left in
    let y : (walk_of 𝓛 En hs c).Ghost = ((κs, qs, bounds, a, (token_val ∷ [], tt)), gh) in let Post : Val → SProp 𝓤 = (walk_of 𝓛 En hs c).post y in
    qed 𝓛 ((raw (alive 𝓛 En.signature κs qs) ⊛ ‵ (owns (types_at En.signature.params κs) a y.0.4)) ∷ raw ((c κs a).requires gh) ∷ []) ∵
    keep ! (0 ∷ []) $ split ! $ move ! (1 ∷ []) $ fsplit ! $ fsplit ! $ keep ! (1 ∷ 3 ∷ []) $
    use1 𝓛 (‵ (rooms_owned u64 token x.at k) ⊛ ‵ (rooms_owned R token x.rooms n)) (parts.forgotten T L 𝓛 token x h.cells) $ split ! $
    enter ! 𝓣.C 𝓣.Λ fn (token_val ∷ []) Post $ alloc_all ! (λ l. pass_all ! refl ((tt, (tt, tt)), tt) $
    let ws : Ws.Denot = record { marker = record {}; heap = h.heap; at = x.at; len = k } in let rs : Rs.Denot = record { marker = record {}; heap = h.heap; at = x.rooms; len = n } in let val : Val = vstruct (vcons token_val (vcons token_val vnil)) in
    let Told : Type 0 = (h.heap ≡ h.heap) × (h.heap ≡ h.heap) × (x.at ≡ x.at) × (k ≡ k) × (x.rooms ≡ x.rooms) × (n ≡ n) in
    sets ! (agg ! (no_more !)) refl (tt, tt) $ sets ! (agg ! (and_then ! (get ! refl) (no_more !))) refl (tt, (tt, tt)) $
    sets ! (agg ! (no_more !)) refl (tt, tt) $ sets ! (agg ! (and_then ! (get ! refl) (no_more !))) refl (tt, (tt, tt)) $
    sets ! (agg ! (and_then ! (get ! refl) (and_then ! (get ! refl) (no_more !)))) refl (tt, ((tt, tt), ((tt, tt), tt))) $
    use0 𝓛 (‵ ((Token RawPtr).own_val (record {}, tt) (token_val ∷ []))) (token_made RawPtr 𝓛) $ fjoin ! $ move ! (1 ∷ []) $
    use0 𝓛 (‵ ((Token RawPtr).own_val (record {}, tt) (token_val ∷ []))) (token_made RawPtr 𝓛) $ fjoin ! $ nothing ! $
    -- [true; the rooms; the words; the tokens]
    move ! (2 ∷ 1 ∷ 0 ∷ []) $ fjoin3 ! $ feq_i ! (List Val) (val ∷ []) (val ∷ []) refl $ fjoin ! $
    fpack ! (Valss (Ws ∷ Rs ∷ [])) (λ uss. fsep (feq (List Val) (val ∷ []) (vstruct (of_list (uss.0 ++ (uss.1.0 ++ []))) ∷ [])) (owns (Ws ∷ Rs ∷ []) (ws, (rs, tt)) uss)) (token_val ∷ [], (token_val ∷ [], tt)) $
    use0 𝓛 (raw (fact 𝓤 Told)) (fact_i 𝓤 Told (emp 𝓤) (refl, refl, refl, refl, refl, refl)) $ nothing ! $ nothing ! $ fjoin ! $
    returns ! (look_at ! 0 refl) $ free_all ! refl $ keep ! (3 ∷ 0 ∷ 2 ∷ 1 ∷ []) $ by ! (leaves 𝓛 En hs c y val (ws, rs) (tt, tt) (tt, tt))))
