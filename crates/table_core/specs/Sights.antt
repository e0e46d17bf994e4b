-- What a set of keys knows of its entries.
use Rattle.std.specs.Prelude.{◌≡◌, ℕ, List, slice_index_or}
use Rattle.std.specs.declared.option.Option.TheVariants.{None}
use Rattle.std.specs.declared.alloc.Global.{Global}
use Rattle.cell_core.specs.declared.block.Block.{Block}
use Rattle.cell_core.specs.declared.block.kind.Plain.{Plain}
use Rattle.table_core.specs.declared.entry.steps.EntrySight.{EntrySight}

-- what is seen of an entry
abbrev pub Sight : Type 0
Sight = EntrySight (Block (Unit {0}) Global Plain)

-- both know the same of the same entry
abbrev pub IsSameSight : Sight → Sight → Type 0
IsSameSight a b = (a.of ≡ b.of) × (a.known ≡ b.known)

-- what is seen of the entry with this number
abbrev pub sight_in : List Sight → ℕ → Sight
sight_in sights k = slice_index_or sights k (record { marker = record {}; of = 0; known = None })
