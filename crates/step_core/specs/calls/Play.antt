-- Plays of whole calls: the fold of the table of calls over a schedule.
use Rattle.std.specs.Prelude.{ℕ, ◌+◌, List, [], ◌∷◌, ◌++◌, length, replicate, Option, Some, None, slice_get, slice_set, slice_index}
use Rattle.std.specs.Option.{option_map, option_and_then}
use Rattle.book_core.specs.declared.events.Event.{Event}
use Rattle.book_core.specs.declared.events.Reply.{Reply}
use Rattle.book_core.specs.declared.commands.Command.{Command}
use Rattle.book_core.specs.declared.commands.Answer.{Answer}
use Rattle.book_core.specs.declared.commands.Item.{Item}
use Rattle.book_core.specs.declared.commands.Ended.{Ended}
use Rattle.book_core.specs.Cells.{CellList, empty_list, apply_event}
use Rattle.step_core.specs.declared.programs.Played.{Played}
use Rattle.step_core.specs.calls.WholeCall.{call_on}

-- A play so far: the list, how many calls each actor has ended, the events with their replies, and the ended
-- calls.
pub record CallPlay : Type 0 where
  pub list : CellList
  pub counts : List ℕ
  pub events : List (Event × Reply)
  pub ended : List Ended

-- before the first item
abbrev pub empty_call_play : ℕ → List (List Command) → CallPlay
empty_call_play limit programs =
    record { list = empty_list limit; counts = replicate (length programs) 0; events = []; ended = [] }

-- one event happens, and the list replies; nothing if the event isn't legal
abbrev pub with_event : CallPlay → Event → Option CallPlay
with_event s event =
    option_map
    (λ after. record { list = after.0; counts = s.counts; events = s.events ++ (event, after.1) ∷ []; ended = s.ended })
    (apply_event s.list event)

-- events one after another
abbrev pub with_events : CallPlay → List Event → Option CallPlay
with_events s [] = Some s
with_events s (event ∷ events) = option_and_then (λ after. with_events after events) (with_event s event)

-- the actor's call ends with this answer
abbrev pub with_ended : CallPlay → ℕ → Command → Answer → CallPlay
with_ended s call_of command answer =
    record {
      list = s.list;
      counts = slice_set s.counts call_of (slice_index s.counts call_of + 1);
      events = s.events;
      ended = s.ended
          ++ record {
            actor = call_of;
            number = slice_index s.counts call_of + 1;
            command = command;
            answer = answer;
          } ∷ [];
    }

-- the call that an actor comes to next, if one is left
abbrev pub next_call : List (List Command) → List ℕ → ℕ → Option Command
next_call programs counts actor =
    option_and_then (λ program. slice_get program (slice_index counts actor)) (slice_get programs actor)

-- the actor plays this call as a whole; an actor with nothing left changes nothing
abbrev pub with_call : CallPlay → ℕ → Option Command → Option CallPlay
with_call s actor None = Some s
with_call s actor (Some command) =
    option_map
    (λ after. with_ended after actor command (call_on s.list actor command).answer)
    (with_events s (call_on s.list actor command).events)

-- each item plays one whole call of its actor
abbrev pub with_items : List (List Command) → CallPlay → List Item → Option CallPlay
with_items programs s [] = Some s
with_items programs s (item ∷ items) =
    option_and_then
    (λ after. with_items programs after items)
    (with_call s item.actor (next_call programs s.counts item.actor))

-- what a stage shows: its events, its ended calls and its cells; a whole call has no steps to count
abbrev pub played_of_calls : CallPlay → Played
played_of_calls s = record { events = s.events; ended = s.ended; cells = s.list.cells; work = [] }

-- the play of whole calls
abbrev pub calls_played : ℕ → List (List Command) → List Item → Option Played
calls_played limit programs items =
    option_map played_of_calls (with_items programs (empty_call_play limit programs) items)
