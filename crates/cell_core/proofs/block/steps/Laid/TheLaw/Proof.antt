-- A `&` to a row holds a `&` to each of its cells. Assumes `Logic`.
use mathlib.Core.List.{[], ◌++◌}
use base.Fml.{Incl-trans}
use contract.BorrowLft.{meet_⊑_left}
use denote.RawPtr.{RawPtr}
use denote.RattleType.{RattleType}
use denote.Param.Laws.{Laws}
use denote.Param.Shared.{copy_shared}
use denote.Struct.Laws.{field_copy}
use denote.Struct.Lending.{of_Lends}
use Rattle.core.specs.contracts.marker.PhantomData as P
use Rattle.core.specs.declared.alloc.Allocator as Allocator
use Rattle.cell_core.specs.contracts.block.steps.Laid as C
use Rattle.cell_core.proofs.block.steps.Laid.TheLaw.Statement.{statement}
use Rattle.cell_core.proofs.LaidParts.{laid_laws, lends_laid}

pub shares : (T Z : RattleType) (ga : Allocator.Ghosts Z.Denot) (L : Laws T) (L₁ : Laws Z) → statement T Z ga L L₁
shares T Z ga L L₁ = of_Lends (C.struct T Z ga) (C.the_codes T.Denot Z.Denot T.coded Z.coded (P.the_row RawPtr).coded) (C.the_heap T Z ga) (C.the_lent T Z ga)
    (λ d p. laid_laws T d.rows d.cells)
    (copy_shared (P.the_field RawPtr) (field_copy (P.the_type RawPtr) tt), tt)
    (λ M 𝓤 𝓛 d p. lends_laid 𝓛 T (ga.dealloc_token d.heap) L (C.the_row T Z ga).lives (Incl-trans (meet_⊑_left (T.lives ++ (Z.lives ++ [])) _) (meet_⊑_left T.lives (Z.lives ++ []))) d.rows d.cells)
