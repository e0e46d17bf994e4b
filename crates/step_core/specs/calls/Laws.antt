-- What holds of every play of whole calls.
use Rattle.std.specs.Prelude.{◌≡◌, ℕ, List, Some, IsSome}
use Rattle.book_core.specs.declared.commands.Command.{Command}
use Rattle.book_core.specs.declared.commands.Item.{Item}
use Rattle.book_core.specs.Cells.{empty_list}
use Rattle.book_core.specs.Commands.{AreSound}
use Rattle.book_core.specs.History.{IsHistory}
use Rattle.step_core.specs.declared.programs.Played.{Played}
use Rattle.step_core.specs.calls.Play.{calls_played}

-- each event of each call is legal at its turn, so that a play always gives something
abbrev pub CallsPlay : Type 0
CallsPlay =
    (limit : ℕ) (programs : List (List Command)) (items : List Item) → AreSound programs
    → IsSome (calls_played limit programs items)

-- the events with their replies are a legal history, which leads from the empty list to the play's cells
abbrev pub CallsAreLegal : Type 0
CallsAreLegal =
    (limit : ℕ) (programs : List (List Command)) (items : List Item) (played : Played)
    → calls_played limit programs items ≡ Some played
    → IsHistory (empty_list limit) played.events (record { limit = limit; cells = played.cells })
