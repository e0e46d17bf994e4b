-- A `&` to what a sight owns holds the same, which can be had twice. Assumes `Logic`.
use base.Logic.{snd∗}
use base.Before.{before}
use types.Logic.{sem}
use denote.RattleType.{RattleType}
use denote.Param.Laws.{Laws}
use denote.Param.Shared.{copy_shared}
use denote.Struct.Laws.{field_copy}
use denote.Struct.Lending.{of_Lends}
use Rattle.core.specs.contracts.marker.PhantomData as P
use Rattle.table_core.specs.Entry.{noted}
use Rattle.table_core.specs.contracts.entry.steps.EntrySight as C
use Rattle.table_core.proofs.Sights.{noted_lends, noted_twice}
use Rattle.table_core.proofs.entry.steps.EntrySight.TheLaw.Statement.{statement}

pub shares : (T : RattleType) (L : Laws T) → statement T L
shares T L = of_Lends (C.struct T) (C.the_codes T.Denot T.coded (P.the_row T).coded) (C.the_heap T) (C.the_lent T)
    (λ d p. record { contraction = λ M 𝓤 𝓛 κ. noted_twice 𝓛 T d.of d.known; mono = λ M 𝓤 𝓛 κ' κ. snd∗ 𝓤 (sem 𝓛 (before κ' κ)) (sem 𝓛 (noted T d.of d.known)) })
    (copy_shared (P.the_field T) (field_copy (P.the_type T) tt), tt)
    (λ M 𝓤 𝓛 d p. noted_lends 𝓛 T d.of d.known (C.the_row T).lives)
