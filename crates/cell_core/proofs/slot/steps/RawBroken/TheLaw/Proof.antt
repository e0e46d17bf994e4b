-- A `&` to a `RawBroken` holds what it knows, which can be had twice. Assumes `Logic`.
use base.Logic.{snd∗}
use base.Before.{before}
use types.Logic.{sem}
use denote.Builtin.{u8}
use denote.Param.Shared.{copy_shared}
use denote.Struct.Laws.{field_copy}
use denote.Struct.Lending.{of_Lends}
use Rattle.core.specs.contracts.marker.PhantomData as P
use Rattle.cell_core.specs.Slot.{was_broken, broken_mark}
use Rattle.cell_core.specs.contracts.slot.steps.RawBroken as C
use Rattle.cell_core.proofs.Twice.{lends_twice}
use Rattle.cell_core.proofs.slot.steps.RawBroken.TheLaw.Statement.{statement}

pub shares : statement
shares = of_Lends C.struct (C.the_codes (P.the_row u8).coded) C.the_heap C.the_lent
    (λ d p. record { contraction = λ M 𝓤 𝓛 κ. 𝓛.names.res_dup d.of broken_mark; mono = λ M 𝓤 𝓛 κ' κ. snd∗ 𝓤 (sem 𝓛 (before κ' κ)) (sem 𝓛 (was_broken d.of)) })
    (copy_shared (P.the_field u8) (field_copy (P.the_type u8) tt), tt)
    (λ M 𝓤 𝓛 d p. lends_twice 𝓛 (was_broken d.of) (𝓛.names.res_dup d.of broken_mark) C.the_row.lives)
