-- `retie` gives each cell its seat.
use Rattle.std.proofs.Common.{◌≡◌, ℕ, List, [], ◌∷◌, refl, length}
use Rattle.std.specs.Prelude.{Option}
use mir.Syntax.{Ty, a_type, dcons, dnil, named}
use mir.Val.{Val, vptr}
use mir.MapTy.{inst_fn}
use base.Logic.{SProp, emp}
use base.Fml.{Lft, Fml, ftrue, fsep, flft}
use types.Kit.{‵, raw, ◌⊛◌, ◌$◌, ◌∵◌, !, qed, by, move, keep, drop, use0, use3, split, join, fsplit, fsplit3, fjoin, fjoin3, feq_i}
use types.Run.{of_opd, returns, enter}
use types.ByLocal.{alloc_all, pass_all, free_all, look_at, get, sets}
use contract.Running.{tables}
use contract.Monad.{fact, fact_i}
use denote.Exit.{yes}
use denote.RattleType.{RattleType, owns}
use denote.Ref.{mut_vals, mut_Tells, shr_vals, shr_Tells}
use denote.Signature.{types_at, plain}
use denote.RawPtr.{Ptr}
use denote.Steps.{nothing, heard, opens, closes}
use denote.Opens.{unhide}
use denote.Param.{param, bounded}
use denote.Builtin.{RefOf}
use denote.Triple.Walked.{Stays, stay_dropped, stay_ref, walk_of, Goes-dropped, Goes-ref}
use Rattle.atomic_table.proofs.Walks.{proved, leaves}
use Rattle.tie_core.specs.Tie.{Tie, Stage}
use Rattle.tie_core.specs.contracts.seats.StagedSeats as StagedSeats
use Rattle.tie_core.proofs.SeatsMade.{StagedWords, staged_made}
use Rattle.cell_core.specs.Slot.{Names}
use Rattle.cell_core.specs.Laid.{Extent, laid}
use Rattle.cell_core.specs.Fixed.{tied_cells, AreTies, AreAtStages, AreBrokenFor}
use Rattle.cell_core.specs.contracts.block.steps.Laid as loose
use Rattle.cell_core.specs.contracts.slot.epoch.RawEnded as RawEnded
use Rattle.cell_core.proofs.CellMade.{token_val}
use Rattle.cell_core.proofs.NewTies.{staged_told, fits_of, rows}
use Rattle.cell_core.specs.contracts.block.steps.Laid.retie.{ended, clauses}
use Rattle.cell_core.specs.contracts.block.steps.Laid.retie.Key.{name as #self}
use Rattle.cell_core.proofs.block.steps.Laid.retie.Statement.{statement}
use Rattle.cell_core.proofs.block.steps.Laid.retie.Code as code

pub retie_spec : {M : Type 1} → statement M
retie_spec 𝓤 𝓛 𝓜 𝓡 wired T Al L _ ga da dd _ _ =
    let H = 𝓛.H in let 𝓣 = tables 𝓤 H 𝓜 𝓡 𝓡.env in let R : RattleType = param 0 T in let Z : RattleType = param 1 Al in let Lo : RattleType = loose.the_row R Z ga in let S : RattleType = StagedSeats.the_row in let En = ended T Al ga da dd in let c = clauses T Al ga da dd 𝓛 𝓜.mem 𝓡.returns in
    let inst = bounded (a_type ∷ a_type ∷ []) (T, (Al, tt)) (dcons da (dcons dd dnil)) in let fn = inst_fn inst code.function in
    let self = plain (λ _. Lo) in let brought = plain (λ _. S) in let time = RefOf (1 ∷ []) tt (plain (λ _. RawEnded.the_row)) (λ _. tt) in
    let hs : Stays En.signature.params En.kept = (stay_ref (0 ∷ []) tt self, (stay_dropped brought yes, (stay_dropped time yes, tt))) in
    proved 𝓛 En hs c 𝓜 𝓡 (Goes-ref 𝓛 4 0 tt self, (Goes-dropped 𝓛 4 brought yes (λ κs x f. refl), (Goes-dropped 𝓛 4 time yes (λ κs x f. refl), tt))) (#self inst) fn (code.unfolded 𝓤 H 𝓜 𝓡 wired (T, (Al, tt)) da dd)
    (λ κs. (mut_vals, ((λ h. token_val ∷ []), (shr_vals, tt)))) (λ κs. (mut_Tells (named 0) κs.0 Lo, ((λ h vs so. staged_told vs so.0), (shr_Tells (named 1) κs.1.0 RawEnded.the_row, tt)))) (λ κs qs bounds a gh are.
    let b' : ℕ = a.0.ref_ptr.0 in let o' : ℕ = a.0.ref_ptr.1 in let h : Lo.Denot = a.0.now in let x : Extent = h.rows in let token : Ty → Ptr → Fml = ga.dealloc_token h.heap in let γs : List Names = h.cells in
    let seated : S.Denot = a.1.0 in let τs : List (Option Tie) = seated.ties in let ss : List Stage = seated.stages in let p : Val = vptr a.1.1.0.ref_ptr.0 a.1.1.0.ref_ptr.1 in let ε : Lft = a.1.1.0.now.of ∷ [] in let γs' : List Names = tied_cells τs γs in
    let Asked : Type 0 = (length τs ≡ length γs) × (length ss ≡ length γs) × AreTies τs × AreAtStages ss γs × AreBrokenFor ss γs ε in let others : Fml = fsep (flft κs.1.0 qs.1.0) (fsep (flft κs.1.1.0 qs.1.1.0) (fsep (flft κs.1.1.1.0 qs.1.1.1.0) ftrue)) in
    let y : (walk_of 𝓛 En hs c).Ghost = ((κs, qs, bounds, a, (vptr b' o' ∷ [], (token_val ∷ [], (p ∷ [], tt)))), gh) in let Post : Val → SProp 𝓤 = (walk_of 𝓛 En hs c).post y in
    qed 𝓛 (((‵ (flft κs.0 qs.0) ⊛ ‵ others) ⊛ ‵ (owns (types_at En.signature.params κs) a y.0.4)) ∷ raw (fact 𝓤 _) ∷ raw (fact 𝓤 _) ∷ raw (fact 𝓤 Asked) ∷ []) ∵
    keep ! (3 ∷ 0 ∷ []) $ heard ! Asked (λ asked. split ! $ split ! $ move ! (2 ∷ []) $ fsplit ! $ fsplit3 ! $ move ! (3 ∷ []) $ fsplit3 ! $ fsplit ! $ move ! (2 ∷ []) $ fsplit ! $ keep ! (1 ∷ 3 ∷ 6 ∷ 7 ∷ 8 ∷ 9 ∷ []) $
    -- [what has ended; the seats; the rows, in two parts; their token; the others]
    unhide ! $ fsplit ! $ drop ! $ move ! (2 ∷ 3 ∷ 4 ∷ []) $
    enter ! 𝓣.C 𝓣.Λ fn (vptr b' o' ∷ token_val ∷ p ∷ []) Post $ alloc_all ! (λ l. pass_all ! refl ((tt, tt), ((tt, (tt, tt)), ((tt, tt), tt))) $
    opens ! tt Lo b' o' (λ ts. move ! (1 ∷ []) $ fsplit ! $
    -- [the words; the rows; four of what is open; what has ended; the seats; the others]
    move ! (1 ∷ 7 ∷ 6 ∷ []) $ use3 𝓛 (‵ (laid R token x γs')) (rows 𝓛 R token x τs ss γs ε (fits_of τs ss γs ε asked.0 asked.1 asked.2 asked.3 asked.4)) $
    let h' : Lo.Denot = record { marker = h.marker; heap = h.heap; rows = x; cells = γs' } in let Told : Type 0 = (h.heap ≡ h.heap) × (x ≡ x) × (γs' ≡ γs') in
    sets ! (of_opd ! (get ! refl)) refl (tt, (tt, tt)) $ move ! (1 ∷ 0 ∷ []) $ fjoin ! $ move ! (1 ∷ 0 ∷ 2 ∷ 3 ∷ 4 ∷ []) $
    closes ! tt Lo h' ts b' o' $ feq_i ! (List Val) (vptr b' o' ∷ []) (vptr b' o' ∷ []) refl $ fjoin3 ! $ nothing ! $ nothing ! $ fjoin ! $ nothing ! $ fjoin ! $ move ! (1 ∷ 0 ∷ []) $ fjoin ! $ move ! (1 ∷ 2 ∷ []) $ join ! $
    use0 𝓛 (raw (fact 𝓤 Told)) (fact_i 𝓤 Told (emp 𝓤) (refl, refl, refl)) $ nothing ! $ use0 𝓛 (‵ (StagedWords.own_val (tt, tt) (token_val ∷ []))) (staged_made 𝓛) $ fjoin ! $ let back : S.Denot = record { marker = record {}; ties = []; stages = [] } in
    returns ! (look_at ! 0 refl) $ free_all ! refl $ keep ! (2 ∷ 3 ∷ 0 ∷ 1 ∷ []) $ by ! (leaves 𝓛 En hs c y token_val back (h', (tt, (tt, tt))) (tt, (tt, (tt, tt))))))))
