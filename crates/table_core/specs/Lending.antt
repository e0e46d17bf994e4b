-- What a table ends as, once a `&mut` to one of its blocks has ended.
use Rattle.std.specs.Prelude.{◌≡◌, ℕ, Option, OnSome}
use Rattle.std.specs.Borrow.{Fml, RattleType, MutBor, LendsSo}
use Rattle.std.specs.contracts.alloc.Global as heap
use Rattle.std.specs.contracts.impls.GlobalAllocator.TheImpl.{ghosts}
use Rattle.cell_core.specs.Block.{BlockView}
use Rattle.cell_core.specs.contracts.block.Block as block
use Rattle.cell_core.specs.declared.block.kind.Kind.{Ghosts}
use Rattle.table_core.specs.Table.{TableView, KeepsOtherBonds, KeepsOtherEntries}
use Rattle.table_core.specs.contracts.table.Table.{the_row}

-- the layout and all entries but this one are those that they were, with their ties
abbrev pub KeepsOthers : TableView → TableView → ℕ → Type 0
KeepsOthers old new k = (new.layout ≡ old.layout) × KeepsOtherEntries old new k × KeepsOtherBonds old new k

-- the table ends with all entries but this one as they were
abbrev pub LendsBlock : (T B : RattleType) → Ghosts B.Denot → MutBor TableView → ℕ → Option (MutBor BlockView) → Fml
LendsBlock T B kind table k r =
    LendsSo (the_row T B kind) (block.the_row T heap.the_row B ghosts kind) table r
    (λ n _. OnSome r (KeepsOthers table.now n k)) (λ n. KeepsOthers table.now n k)
