-- What a handle ends with, once a `&mut` to what it has has ended.
use Rattle.std.specs.Prelude.{Some}
use Rattle.std.specs.Borrow.{Fml, MutBor, Lends}
use Rattle.handle_core.specs.declared.held.Held.{Held}
use Rattle.handle_core.specs.contracts.held.Held.{the_row as held_row}
use Rattle.handle_core.specs.declared.owned.Owned.{Owned}
use Rattle.handle_core.specs.contracts.owned.Owned.{the_row}

-- the same box, with this in it
abbrev pub with_held : Owned → Held → Owned
with_held owned held = record owned { held = Some held }

-- the box has then what was last behind the reference
abbrev pub LendsHeld : MutBor Owned → MutBor Held → Fml
LendsHeld owned r = Lends the_row held_row owned r (with_held owned.now)
