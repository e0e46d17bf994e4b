-- A `&` to a row of tags holds what is known of the codes, which can be had twice. Assumes `Logic`.
use Rattle.std.proofs.Common.{[], ◌∷◌}
use base.Logic.{snd∗}
use base.Before.{before}
use types.Logic.{sem}
use denote.RattleType.{RattleType}
use denote.Struct.Tuple.{Tuple}
use denote.Param.Laws.{Laws}
use denote.Param.Shared.{copy_shared}
use denote.Struct.Laws.{field_copy}
use denote.Struct.Lending.{of_Lends}
use Rattle.core.specs.contracts.marker.PhantomData as P
use Rattle.tie_core.specs.Tags.{row_tagged}
use Rattle.tie_core.specs.declared.visit.Entered.{Ghosts}
use Rattle.tie_core.specs.contracts.tags.RawTags as C
use Rattle.tie_core.proofs.TagParts.{row_twice}
use Rattle.tie_core.proofs.Twice.{lends_twice}
use Rattle.tie_core.proofs.tags.RawTags.TheLaw.Statement.{statement}

pub shares : (U Y : RattleType) (g : Ghosts Y.Denot U.Denot) (L : Laws U) (L' : Laws Y) → statement U Y g L L'
shares U Y g L L' = let Both = Tuple (U ∷ Y ∷ []) in of_Lends (C.struct U Y g) (C.the_codes U.Denot Y.Denot U.coded Y.coded (P.the_row Both).coded) (C.the_heap U Y g) (C.the_lent U Y g)
    (λ d p. record { contraction = λ M 𝓤 𝓛 κ. row_twice U.coded.code g.empty g.placed d.of 𝓛; mono = λ M 𝓤 𝓛 κ' κ. snd∗ 𝓤 (sem 𝓛 (before κ' κ)) (sem 𝓛 (row_tagged U.coded.code g.empty g.placed d.of)) })
    (copy_shared (P.the_field Both) (field_copy (P.the_type Both) tt), tt)
    (λ M 𝓤 𝓛 d p. lends_twice 𝓛 (row_tagged U.coded.code g.empty g.placed d.of) (row_twice U.coded.code g.empty g.placed d.of 𝓛) (C.the_row U Y g).lives)
