-- What the actors of the machine share.
use Rattle.std.specs.Prelude.{ℕ, refl}
use Rattle.std.specs.Ordering.{nat_cmp}
use Rattle.std.specs.FinMap as map
use Rattle.std.specs.FinSet as set
use Rattle.std.specs.Coded.{Coded, code_by, coded×, coded_ℕ}
use Rattle.step_core.specs.declared.machine.phase.CellSlot.{CellSlot}
use Rattle.step_core.specs.contracts.machine.phase.CellSlot as slot

-- how the places are divided into segments (the first has 2^layout of them); the size, the installed
-- segments, and the slots that are not empty
pub record Storage : Type 0 where
  pub layout : ℕ
  pub size : ℕ
  pub installed : set.FinSet nat_cmp
  pub slots : map.FinMap nat_cmp CellSlot

-- it is stored as its fields
abbrev pub storage_code : Coded Storage
storage_code =
    code_by (ℕ × (ℕ × (set.FinSet nat_cmp × map.FinMap nat_cmp CellSlot)))
    (coded× coded_ℕ (coded× coded_ℕ (coded× (set.code coded_ℕ) (map.code coded_ℕ slot.the_row.coded))))
    (λ m. (m.layout, (m.size, (m.installed, m.slots))))
    (λ p. record { layout = p.0; size = p.1.0; installed = p.1.1.0; slots = p.1.1.1 })
    (λ _. refl)
