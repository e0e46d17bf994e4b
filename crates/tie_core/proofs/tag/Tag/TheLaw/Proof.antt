-- A `&` to a tag holds what is known of the codes, which can be had twice. Assumes `Logic`.
use Rattle.std.proofs.Common.{[], ◌∷◌}
use seplogic.Ra.Ura.{Ura}
use base.Logic.{ent, sep, snd∗}
use base.Before.{before}
use base.Fml.{ftrue}
use base.Stored.{Gv}
use types.Logic.{Logic, sem}
use types.Kit.{‵, ◌$◌, ◌∵◌, !, qed, drop, fpick, fpack, frame, done}
use denote.RattleType.{RattleType}
use denote.Steps.{nothing}
use denote.Struct.Tuple.{Tuple}
use denote.Param.Laws.{Laws}
use denote.Param.Shared.{copy_shared}
use denote.Struct.Laws.{field_copy}
use denote.Struct.Lending.{of_Lends}
use Rattle.core.specs.contracts.marker.PhantomData as P
use Rattle.tie_core.specs.Tie.{Tie, Stage}
use Rattle.tie_core.specs.Desk.{HasCodes, tagged}
use Rattle.tie_core.specs.declared.play.Staged.{Ghosts}
use Rattle.tie_core.specs.contracts.tag.Tag as C
use Rattle.tie_core.proofs.Twice.{lends_twice}
use Rattle.tie_core.proofs.tag.Tag.TheLaw.Statement.{statement}

-- what is known of the codes can be had twice
twice : {V : Type 0} (c : V → Gv) (shows : Stage → V) (t : Tie) {M : Type 1} {𝓤 : Ura M} (𝓛 : Logic 𝓤) → ent 𝓤 (sem 𝓛 (tagged c shows t)) (sep 𝓤 (sem 𝓛 (tagged c shows t)) (sem 𝓛 (tagged c shows t)))
twice c shows t 𝓛 = let φ : Type 0 = HasCodes c shows t in qed 𝓛 (‵ (tagged c shows t) ∷ []) ∵ fpick ! (λ codes. drop ! $ nothing ! $ fpack ! φ (λ _. ftrue) codes $ frame ! $ nothing ! $ fpack ! φ (λ _. ftrue) codes $ done !)

pub shares : (U Y : RattleType) (g : Ghosts Y.Denot U.Denot) (L : Laws U) (L' : Laws Y) → statement U Y g L L'
shares U Y g L L' = let Both = Tuple (U ∷ Y ∷ []) in of_Lends (C.struct U Y g) (C.the_codes U.Denot Y.Denot U.coded Y.coded (P.the_row Both).coded) (C.the_heap U Y g) (C.the_lent U Y g)
    (λ d p. record { contraction = λ M 𝓤 𝓛 κ. twice U.coded.code g.shows d.tie 𝓛; mono = λ M 𝓤 𝓛 κ' κ. snd∗ 𝓤 (sem 𝓛 (before κ' κ)) (sem 𝓛 (tagged U.coded.code g.shows d.tie)) })
    (copy_shared (P.the_field Both) (field_copy (P.the_type Both) tt), tt)
    (λ M 𝓤 𝓛 d p. lends_twice 𝓛 (tagged U.coded.code g.shows d.tie) (twice U.coded.code g.shows d.tie 𝓛) (C.the_row U Y g).lives)
