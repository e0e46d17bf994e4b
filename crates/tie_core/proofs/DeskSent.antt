-- A desk may go to another thread where what the table's slots hold may.
use Rattle.std.proofs.Common.{ℕ, []}
use base.Stored.{Gv}
use base.Shift.{Keyless}
use denote.RattleType.{RattleType}
use denote.RawPtr.{Ptr}
use denote.Param.Send.{IsSend}
use Rattle.atomic_table.specs.Table.{State}
use Rattle.atomic_table.specs.Seated.{TableId, place}
use Rattle.atomic_table.proofs.Sent.{shares_keyless}
use Rattle.tie_core.specs.Desk.{desk_owns}

pub desk_keyless : (R : RattleType) → IsSend R → {V : Type 0} (c : V → Gv) (holds : State R.Denot V → Type 0) (w : Ptr) (z : TableId) (j : ℕ) → Keyless (desk_owns R c holds w z j)
unfolding Rattle.atomic_table.specs.Seated.seal
desk_keyless R s c holds w z j = (shares_keyless R s c z holds w (place z) []).1.1
