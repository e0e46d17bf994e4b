-- `begin` makes a new lifetime.
use Rattle.std.proofs.Common.{[], ◌∷◌, refl}
use mir.Val.{Val}
use base.Logic.{SProp}
use base.Fml.{ftrue}
use types.Kit.{‵, raw, ◌⊛◌, ◌$◌, ◌∵◌, !, qed, by, keep, use1, split}
use types.Run.{no_more, and_then, returns, enter}
use types.ByLocal.{alloc_all, pass_all, free_all, look_at, get, sets}
use types.Part.{agg}
use types.Tokens.{lft_new}
use contract.Running.{tables}
use denote.RattleType.{RattleType}
use denote.Steps.{nothing}
use denote.Triple.Entry.{alive}
use denote.Triple.Walked.{walk_of}
use Rattle.atomic_table.proofs.Walks.{proved, leaves}
use Rattle.cell_core.specs.contracts.slot.epoch.RawEpoch as RawEpoch
use Rattle.cell_core.proofs.CellMade.{token_val}
use Rattle.cell_core.proofs.Epochs.{epoch_made}
use Rattle.cell_core.specs.contracts.slot.epoch.RawEpoch.begin.{ended, clauses}
use Rattle.cell_core.specs.contracts.slot.epoch.RawEpoch.begin.Key.{name as #self}
use Rattle.cell_core.proofs.slot.epoch.RawEpoch.begin.Statement.{statement}
use Rattle.cell_core.proofs.slot.epoch.RawEpoch.begin.Code as code

pub begin_spec : {M : Type 1} → statement M
begin_spec 𝓤 𝓛 𝓜 𝓡 wired =
    let H = 𝓛.H in let 𝓣 = tables 𝓤 H 𝓜 𝓡 𝓡.env in let En = ended in let c = clauses 𝓛 𝓜.mem 𝓡.returns in let fn = code.function in let S : RattleType = RawEpoch.the_row in
    proved 𝓛 En tt c 𝓜 𝓡 tt #self fn (code.unfolded 𝓤 H 𝓜 𝓡 wired) (λ κs. tt) (λ κs. tt) (λ κs qs bounds a gh are.
    let y : (walk_of 𝓛 En tt c).Ghost = ((κs, qs, bounds, a, tt), gh) in let Post : Val → SProp 𝓤 = (walk_of 𝓛 En tt c).post y in
    qed 𝓛 ((raw (alive 𝓛 En.signature κs qs) ⊛ ‵ ftrue) ∷ raw ((c κs a).requires gh) ∷ []) ∵ split ! $ keep ! (0 ∷ []) $
    enter ! 𝓣.C 𝓣.Λ fn [] Post $ alloc_all ! (λ l. pass_all ! refl tt $ lft_new ! tt (λ ν. let r : S.Denot = record { marker = record {}; of = ν } in use1 𝓛 (‵ (S.own_val r (token_val ∷ []))) (epoch_made 𝓛 ν) $
    sets ! (agg ! (no_more !)) refl (tt, tt) $ sets ! (agg ! (and_then ! (get ! refl) (no_more !))) refl (tt, (tt, tt)) $ nothing ! $ nothing ! $
    returns ! (look_at ! 0 refl) $ free_all ! refl $ keep ! (3 ∷ 0 ∷ 2 ∷ 1 ∷ []) $ by ! (leaves 𝓛 En tt c y token_val r tt tt))))
