-- A `&` to a desk holds the right to name the invariant, which can be had twice. Assumes `Logic`.
use Rattle.std.proofs.Common.{ℕ, [], ◌∷◌}
use seplogic.Ra.Ura.{Ura}
use base.Logic.{ent, sep, snd∗}
use base.Before.{before}
use base.Fml.{fbor}
use base.Stored.{Gv}
use types.Logic.{Logic, sem}
use denote.RattleType.{RattleType}
use denote.RawPtr.{Ptr}
use denote.Struct.Tuple.{Tuple}
use denote.Param.Laws.{Laws}
use denote.Param.Shared.{copy_shared}
use denote.Struct.Laws.{field_copy}
use denote.Struct.Lending.{of_Lends}
use Rattle.core.specs.contracts.marker.PhantomData as P
use Rattle.atomic_table.specs.Table.{State}
use Rattle.atomic_table.specs.Seated.{TableId, age}
use Rattle.atomic_table.specs.declared.shared.TableRule.{Ghosts}
use Rattle.tie_core.specs.Desk.{content, desk_owns}
use Rattle.tie_core.specs.contracts.desk.Desk as C
use Rattle.tie_core.proofs.Twice.{lends_twice}
use Rattle.tie_core.proofs.desk.Desk.TheLaw.Statement.{statement}

-- the right can be had twice
twice : (R : RattleType) {V : Type 0} (c : V → Gv) (holds : State R.Denot V → Type 0) (w : Ptr) (z : TableId) (j : ℕ) {M : Type 1} {𝓤 : Ura M} (𝓛 : Logic 𝓤)
    → ent 𝓤 (sem 𝓛 (desk_owns R c holds w z j)) (sep 𝓤 (sem 𝓛 (desk_owns R c holds w z j)) (sem 𝓛 (desk_owns R c holds w z j)))
unfolding Rattle.atomic_table.specs.Seated.seal
twice R c holds w z j 𝓛 = 𝓛.invs.named_dup j (fbor (age z) (content R c holds w z))

pub shares : (T U X Y : RattleType) (g : Ghosts Y.Denot T.Denot U.Denot X.Denot) (L : Laws T) (L' : Laws U) (K : Laws X) (L'' : Laws Y) → statement T U X Y g L L' K L''
shares T U X Y g L L' K L'' = let All = Tuple (T ∷ U ∷ X ∷ Y ∷ []) in of_Lends (C.struct T U X Y g) (C.the_codes T.Denot U.Denot X.Denot Y.Denot T.coded U.coded X.coded Y.coded (P.the_row All).coded) (C.the_heap T U X Y g) (C.the_lent T U X Y g)
    (λ d p. record { contraction = λ M 𝓤 𝓛 κ. twice T U.coded.code (g.holds d.key) d.words d.table_id d.floor 𝓛; mono = λ M 𝓤 𝓛 κ' κ. snd∗ 𝓤 (sem 𝓛 (before κ' κ)) (sem 𝓛 (desk_owns T U.coded.code (g.holds d.key) d.words d.table_id d.floor)) })
    (copy_shared (P.the_field All) (field_copy (P.the_type All) tt), tt)
    (λ M 𝓤 𝓛 d p. lends_twice 𝓛 (desk_owns T U.coded.code (g.holds d.key) d.words d.table_id d.floor) (twice T U.coded.code (g.holds d.key) d.words d.table_id d.floor 𝓛) (C.the_row T U X Y g).lives)
