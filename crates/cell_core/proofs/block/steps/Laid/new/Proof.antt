-- `new` makes rows without a cell of two rows of room.
use Rattle.std.proofs.Common.{◌≡◌, [], ◌∷◌, refl}
use mir.Syntax.{Ty, a_type, dcons, dnil}
use mir.Val.{Val}
use mir.MapTy.{inst_fn}
use base.Logic.{SProp, emp}
use base.Fml.{Fml}
use types.Kit.{‵, raw, ◌⊛◌, ◌$◌, ◌∵◌, !, qed, by, move, keep, use0, use2, split, fsplit, fjoin, rewrite}
use types.Run.{no_more, and_then, returns, enter}
use types.ByLocal.{alloc_all, pass_all, free_all, look_at, get, sets}
use types.Part.{agg}
use contract.Running.{tables}
use contract.Monad.{fact, fact_i}
use denote.Exit.{no}
use denote.RattleType.{RattleType, owns}
use denote.Signature.{types_at, plain}
use denote.RawPtr.{Ptr, RawPtr}
use denote.Steps.{nothing, heard}
use denote.Param.{param, bounded}
use denote.Builtin.{u64}
use denote.Triple.Entry.{alive}
use denote.Triple.Walked.{Stays, stay_dropped, walk_of, Goes-dropped}
use Rattle.atomic_table.proofs.Walks.{proved, leaves}
use Rattle.cell_core.specs.Laid.{Extent, laid, rooms_owned}
use Rattle.cell_core.specs.contracts.block.steps.Rooms as room
use Rattle.cell_core.specs.contracts.block.steps.Laid as loose
use Rattle.cell_core.proofs.CellMade.{token_val}
use Rattle.cell_core.proofs.LaidMade.{Token, token_made, token_told}
use Rattle.cell_core.proofs.LaidParts as parts
use Rattle.cell_core.specs.contracts.block.steps.Laid.new.{ended, clauses}
use Rattle.cell_core.specs.contracts.block.steps.Laid.new.Key.{name as #self}
use Rattle.cell_core.proofs.block.steps.Laid.new.Statement.{statement}
use Rattle.cell_core.proofs.block.steps.Laid.new.Code as code

pub new_spec : {M : Type 1} → statement M
new_spec 𝓤 𝓛 𝓜 𝓡 wired T Al L _ ga da dd _ _ =
    let H = 𝓛.H in let 𝓣 = tables 𝓤 H 𝓜 𝓡 𝓡.env in let R : RattleType = param 0 T in let Z : RattleType = param 1 Al in let Ws : RattleType = room.the_row u64 Z ga in let Rs : RattleType = room.the_row R Z ga in let Lo : RattleType = loose.the_row R Z ga in let En = ended T Al ga da dd in let c = clauses T Al ga da dd 𝓛 𝓜.mem 𝓡.returns in
    let inst = bounded (a_type ∷ a_type ∷ []) (T, (Al, tt)) (dcons da (dcons dd dnil)) in let fn = inst_fn inst code.function in
    let hs : Stays En.signature.params En.kept = (stay_dropped (plain (λ _. Ws)) no, (stay_dropped (plain (λ _. Rs)) no, tt)) in
    proved 𝓛 En hs c 𝓜 𝓡 (Goes-dropped 𝓛 2 (plain (λ _. Ws)) no (λ κs x f. refl), (Goes-dropped 𝓛 2 (plain (λ _. Rs)) no (λ κs x f. refl), tt)) (#self inst) fn (code.unfolded 𝓤 H 𝓜 𝓡 wired (T, (Al, tt)) da dd)
    (λ κs. ((λ _. token_val ∷ []), ((λ _. token_val ∷ []), tt))) (λ κs. ((λ x vs so. token_told RawPtr vs so.0), ((λ x vs so. token_told RawPtr vs so.0), tt))) (λ κs qs bounds a gh are.
    let ws : Ws.Denot = a.0 in let rs : Rs.Denot = a.1.0 in let token : Ty → Ptr → Fml = ga.dealloc_token rs.heap in let Asked : Type 0 = ws.heap ≡ rs.heap in let x : Extent = record { at = ws.at; rooms = rs.at; words = 0; more = ws.len; left = rs.len } in
    let y : (walk_of 𝓛 En hs c).Ghost = ((κs, qs, bounds, a, (token_val ∷ [], (token_val ∷ [], tt))), gh) in let Post : Val → SProp 𝓤 = (walk_of 𝓛 En hs c).post y in
    qed 𝓛 ((raw (alive 𝓛 En.signature κs qs) ⊛ ‵ (owns (types_at En.signature.params κs) a y.0.4)) ∷ raw (fact 𝓤 _) ∷ raw (fact 𝓤 _) ∷ raw (fact 𝓤 Asked) ∷ []) ∵
    keep ! (3 ∷ 0 ∷ []) $ heard ! Asked (λ asked. split ! $ move ! (1 ∷ []) $ fsplit ! $ fsplit ! $ move ! (2 ∷ []) $ fsplit ! $ fsplit ! $ keep ! (1 ∷ 4 ∷ 5 ∷ []) $
    -- [the rooms; the words; the tokens]
    move ! (1 ∷ []) $ rewrite ! 0 (λ (u : Al.Denot). ‵ (rooms_owned u64 (ga.dealloc_token u) ws.at ws.len)) asked refl $ move ! (0 ∷ 1 ∷ []) $ use2 𝓛 (‵ (laid R token x [])) (parts.fresh 𝓛 R token ws.at rs.at ws.len rs.len) $
    enter ! 𝓣.C 𝓣.Λ fn (token_val ∷ token_val ∷ []) Post $ alloc_all ! (λ l. pass_all ! refl ((tt, (tt, tt)), ((tt, (tt, tt)), tt)) $
    let made : Lo.Denot = record { marker = record {}; heap = rs.heap; rows = x; cells = [] } in let Told : Type 0 = (rs.heap ≡ rs.heap) × (made.cells ≡ made.cells) × (x ≡ x) in
    sets ! (agg ! (no_more !)) refl (tt, tt) $ sets ! (agg ! (and_then ! (get ! refl) (no_more !))) refl (tt, (tt, tt)) $
    use0 𝓛 (‵ ((Token RawPtr).own_val (record {}, tt) (token_val ∷ []))) (token_made RawPtr 𝓛) $ fjoin ! $
    use0 𝓛 (raw (fact 𝓤 Told)) (fact_i 𝓤 Told (emp 𝓤) (refl, refl, refl)) $ nothing ! $ nothing ! $ fjoin ! $ nothing ! $ fjoin ! $
    returns ! (look_at ! 0 refl) $ free_all ! refl $ keep ! (3 ∷ 0 ∷ 2 ∷ 1 ∷ []) $ by ! (leaves 𝓛 En hs c y token_val made (tt, (tt, tt)) (tt, (tt, tt))))))
