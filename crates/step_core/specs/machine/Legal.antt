-- Every play of the machine is a history of the sequential vector.
use Rattle.std.specs.Prelude.{ℕ, List}
use Rattle.book_core.specs.declared.commands.Command.{Command}
use Rattle.book_core.specs.declared.commands.Item.{Item}
use Rattle.seg_core.specs.Segment.{IsLayout, IsLimit}
use Rattle.book_core.specs.Cells.{CellList, empty_list}
use Rattle.book_core.specs.History.{IsHistory}
use Rattle.step_core.specs.machine.Play.{Play, play_of, played_of}

-- the sequential vector that a reader sees in a play
abbrev pub list_seen : ℕ → Play → CellList
list_seen limit p = record { limit = limit; cells = (played_of p).cells }

-- the events with their replies are a legal history from the empty list, and it leads to the cells that a
-- reader sees
abbrev pub IsLegal : ℕ → Play → Type 0
IsLegal limit p = IsHistory (empty_list limit) p.events (list_seen limit p)

-- so it is in every play
abbrev pub EveryPlayIsLegal : Type 0
EveryPlayIsLegal =
    (f : ℕ) → IsLayout f → (limit : ℕ) (programs : List (List Command)) (items : List Item) → IsLimit limit
    → IsLegal limit (play_of f limit programs items)
