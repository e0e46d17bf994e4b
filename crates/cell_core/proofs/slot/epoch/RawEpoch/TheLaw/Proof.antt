-- A `&` to an `RawEpoch` lasts no longer than the epoch. Assumes `Logic`.
use Rattle.std.proofs.Common.{[], ◌∷◌}
use denote.Builtin.{u8}
use denote.Param.Shared.{copy_shared}
use denote.SharingLaws.{ends_shr_laws}
use denote.Struct.Laws.{field_copy}
use denote.Struct.Lending.{of_Lends}
use Rattle.core.specs.contracts.marker.PhantomData as P
use Rattle.cell_core.specs.contracts.slot.epoch.RawEpoch as C
use Rattle.cell_core.proofs.Epochs.{epoch_lends}
use Rattle.cell_core.proofs.slot.epoch.RawEpoch.TheLaw.Statement.{statement}

pub shares : statement
shares = of_Lends C.struct (C.the_codes (P.the_row u8).coded) C.the_heap C.the_lent
    (λ d p. ends_shr_laws (d.of ∷ []))
    (copy_shared (P.the_field u8) (field_copy (P.the_type u8) tt), tt)
    (λ M 𝓤 𝓛 d p. epoch_lends 𝓛 (d.of ∷ []) C.the_row.lives)
