-- `end` gives up the whole of the lifetime's token: the lifetime has ended.
use Rattle.std.proofs.Common.{◌≡◌, ℕ, [], ◌∷◌, refl}
use mir.Val.{Val}
use base.Logic.{SProp, emp}
use types.Kit.{‵, raw, ◌⊛◌, ◌$◌, ◌∵◌, !, qed, by, keep, use0, use1, split, fsplit, fjoin}
use types.Run.{no_more, and_then, returns, enter}
use types.ByLocal.{alloc_all, pass_all, free_all, look_at, get, sets}
use types.Part.{agg}
use types.Tokens.{lft_end}
use contract.Running.{tables}
use contract.Monad.{fact, fact_i}
use denote.Exit.{yes}
use denote.RattleType.{RattleType, owns}
use denote.Signature.{types_at, plain}
use denote.Steps.{nothing}
use denote.Triple.Entry.{alive}
use denote.Triple.Walked.{Stays, stay_dropped, walk_of, Goes-dropped}
use Rattle.atomic_table.proofs.Walks.{proved, leaves}
use Rattle.cell_core.specs.contracts.slot.epoch.RawEpoch as RawEpoch
use Rattle.cell_core.specs.contracts.slot.epoch.RawEnded as RawEnded
use Rattle.cell_core.proofs.CellMade.{token_val}
use Rattle.cell_core.proofs.Epochs.{epoch_told, ended_made}
use Rattle.cell_core.specs.contracts.slot.epoch.RawEpoch.end.{ended, clauses}
use Rattle.cell_core.specs.contracts.slot.epoch.RawEpoch.end.Key.{name as #self}
use Rattle.cell_core.proofs.slot.epoch.RawEpoch.end.Statement.{statement}
use Rattle.cell_core.proofs.slot.epoch.RawEpoch.end.Code as code

pub end_spec : {M : Type 1} → statement M
end_spec 𝓤 𝓛 𝓜 𝓡 wired =
    let H = 𝓛.H in let 𝓣 = tables 𝓤 H 𝓜 𝓡 𝓡.env in let En = ended in let c = clauses 𝓛 𝓜.mem 𝓡.returns in let fn = code.function in let E : RattleType = RawEpoch.the_row in let S : RattleType = RawEnded.the_row in
    let self = plain (λ _. E) in let hs : Stays En.signature.params En.kept = (stay_dropped self yes, tt) in
    proved 𝓛 En hs c 𝓜 𝓡 (Goes-dropped 𝓛 0 self yes (λ κs x f. refl), tt) #self fn (code.unfolded 𝓤 H 𝓜 𝓡 wired)
    (λ κs. ((λ _. token_val ∷ []), tt)) (λ κs. ((λ x vs so. epoch_told vs so.0), tt)) (λ κs qs bounds a gh are.
    let ν : ℕ = a.0.of in let r : S.Denot = record { marker = record {}; of = ν } in let Told : Type 0 = ν ≡ ν in
    let y : (walk_of 𝓛 En hs c).Ghost = ((κs, qs, bounds, a, (token_val ∷ [], tt)), gh) in let Post : Val → SProp 𝓤 = (walk_of 𝓛 En hs c).post y in
    qed 𝓛 ((raw (alive 𝓛 En.signature κs qs) ⊛ ‵ (owns (types_at En.signature.params κs) a y.0.4)) ∷ raw ((c κs a).requires gh) ∷ []) ∵ split ! $ keep ! (1 ∷ 0 ∷ []) $
    fsplit ! $ fsplit ! $ keep ! (1 ∷ 3 ∷ []) $
    enter ! 𝓣.C 𝓣.Λ fn (token_val ∷ []) Post $ alloc_all ! (λ l. pass_all ! refl ((tt, (tt, tt)), tt) $ lft_end ! tt $ use1 𝓛 (‵ (S.own_val r (token_val ∷ []))) (ended_made 𝓛 ν) $
    sets ! (agg ! (no_more !)) refl (tt, tt) $ sets ! (agg ! (and_then ! (get ! refl) (no_more !))) refl (tt, (tt, tt)) $
    use0 𝓛 (raw (fact 𝓤 Told)) (fact_i 𝓤 Told (emp 𝓤) refl) $ nothing ! $ nothing ! $ fjoin ! $
    returns ! (look_at ! 0 refl) $ free_all ! refl $ keep ! (3 ∷ 0 ∷ 2 ∷ 1 ∷ []) $ by ! (leaves 𝓛 En hs c y token_val r (tt, tt) (tt, tt))))
