-- A handle and the parts own what a box of the same content owns.
use mir.Syntax.{impl, tnil, dnil}
use mathlib.Core.List.{[]}
use denote.Signature.{Slot, plain}
use Rattle.std_alloc.proofs.BoxSteps.Form.{Bx}
use Rattle.std_heap.specs.contracts.Global as Heap
use Rattle.std_heap.specs.contracts.GlobalAllocator.TheImpl.{ghosts, dict}
use Rattle.std_heap.proofs.Global.TheLaws as heap
use Rattle.handle_core.specs.contracts.held.Held as Held
use Rattle.handle_core.proofs.held.Held.TheLaws as held
use Rattle.handle_core.specs.contracts.box_parts.BoxParts as Parts
use Rattle.handle_core.specs.contracts.owned.Owned as Owned

abbrev pub E : Bx
E = record { row = Held.the_row; laws = held.the_row_laws; al = record { row = Heap.the_row; laws = heap.the_row_laws; g = ghosts; d = dict; drops = impl [] tnil dnil } }

abbrev pub FromParts : Slot 0
FromParts = plain (λ _. Parts.the_row Held.the_row Heap.the_row ghosts)

abbrev pub FromOwned : Slot 0
FromOwned = plain (λ _. Owned.the_row)
