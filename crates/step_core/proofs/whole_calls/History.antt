-- The events of a play of whole calls are a legal history.
use Rattle.std.proofs.Common.{◌≡◌, ℕ, List, [], ◌∷◌, ◌++◌, All, Option, Some, None, IsSome, slice_get, slice_index, refl, ap, subst}
use Rattle.std.proofs.lemmas.Option.{none-some, same_Some}
use Rattle.std.specs.Option.{option_and_then, option_map}
use Rattle.book_core.specs.declared.events.Event.{Event}
use Rattle.book_core.specs.declared.events.Reply.{Reply}
use Rattle.book_core.specs.declared.commands.Command.{Command}
use Rattle.book_core.specs.declared.commands.Item.{Item}
use Rattle.book_core.specs.Cells.{CellList, empty_list, apply_event}
use Rattle.book_core.specs.Commands.{IsSound, AreSound}
use Rattle.book_core.specs.History.{IsHistory}
use Rattle.step_core.specs.declared.programs.Played.{Played}
use Rattle.book_core.proofs.Histories.{IsHistory-push, history_limit}
use Rattle.book_core.proofs.Lists.{at_place}
use Rattle.step_core.specs.calls.WholeCall.{call_on}
use Rattle.step_core.specs.calls.Play.{CallPlay, empty_call_play, with_event, with_events, with_ended, with_call, with_items, next_call, played_of_calls}
use Rattle.step_core.specs.calls.Laws.{CallsPlay, CallsAreLegal}
use Rattle.step_core.proofs.whole_calls.Legal.{call_legal}

-- the events so far are a legal history, from the empty list to the list as it is
Told : ℕ → CallPlay → Type 0
Told limit s = IsHistory (empty_list limit) s.events s.list

told_event : (limit : ℕ) (s t : CallPlay) (event : Event) (o : Option (CellList × Reply))
    → apply_event s.list event ≡ o
    → option_map (λ (after : CellList × Reply). record { list = after.0; counts = s.counts; events = s.events ++ (event, after.1) ∷ []; ended = s.ended }) o ≡ Some t
    → Told limit s → Told limit t
unfolding Told
told_event limit s t event None applies is told = absurd (none-some t is)
told_event limit s t event (Some after) applies is told =
    subst (Told limit) (same_Some _ t is) (IsHistory-push (empty_list limit) s.events s.list after.0 event after.1 told applies)

told_events : (limit : ℕ) (s t : CallPlay) (events : List Event) → with_events s events ≡ Some t → Told limit s
    → Told limit t
told_events limit s t [] is told = subst (Told limit) (same_Some s t is) told
told_events limit s t (event ∷ events) is told =
    elim (with_event s event) as (λ o. with_event s event ≡ o → option_and_then (λ after. with_events after events) o ≡ Some t → Told limit t) [
      | None ↦ (λ _ none. absurd (none-some t none))
      | Some mid ↦ (λ happens rest. told_events limit mid t events rest (told_event limit s mid event _ refl happens told))
    ]
    refl is

told_call : (limit : ℕ) (s t : CallPlay) (actor : ℕ) (command : Option Command) → with_call s actor command ≡ Some t
    → Told limit s → Told limit t
unfolding Told
told_call limit s t actor None is told = subst (Told limit) (same_Some s t is) told
told_call limit s t actor (Some command) is told =
    elim (with_events s (call_on s.list actor command).events) as (λ o. with_events s (call_on s.list actor command).events ≡ o → option_map (λ after. with_ended after actor command (call_on s.list actor command).answer) o ≡ Some t → Told limit t) [
      | None ↦ (λ _ none. absurd (none-some t none))
      | Some mid ↦ (λ plays ends. subst (Told limit) (same_Some _ t ends) (told_events limit s mid (call_on s.list actor command).events plays told))
    ]
    refl is

told_items : (limit : ℕ) (programs : List (List Command)) (s t : CallPlay) (items : List Item)
    → with_items programs s items ≡ Some t → Told limit s → Told limit t
told_items limit programs s t [] is told = subst (Told limit) (same_Some s t is) told
told_items limit programs s t (item ∷ items) is told =
    let turn = with_call s item.actor (next_call programs s.counts item.actor) in
    elim turn as (λ o. turn ≡ o → option_and_then (λ after. with_items programs after items) o ≡ Some t → Told limit t) [
      | None ↦ (λ _ none. absurd (none-some t none))
      | Some mid ↦ (λ plays rest. told_items limit programs mid t items rest (told_call limit s mid item.actor _ plays told))
    ]
    refl is

pub calls_are_legal : CallsAreLegal
unfolding Told
calls_are_legal limit programs items played is =
    let played_all = with_items programs (empty_call_play limit programs) items in
    elim played_all as (λ o. played_all ≡ o → option_map played_of_calls o ≡ Some played → IsHistory (empty_list limit) played.events (record { limit = limit; cells = played.cells })) [
      | None ↦ (λ _ none. absurd (none-some played none))
      | Some last ↦ (λ plays shows.
          let told : IsHistory (empty_list limit) last.events last.list = told_items limit programs (empty_call_play limit programs) last items plays refl in
          let same : last.list ≡ record { limit = limit; cells = last.list.cells } = ap (λ k. record { limit = k; cells = last.list.cells }) (history_limit _ _ _ told) in
          subst (λ (p : Played). IsHistory (empty_list limit) p.events (record { limit = limit; cells = p.cells })) (same_Some _ played shows) (subst (IsHistory (empty_list limit) last.events) same told))
    ]
    refl is

-- each command of sound programs is sound
next_is_sound : (programs : List (List Command)) (counts : List ℕ) (actor : ℕ) (command : Command)
    → AreSound programs → next_call programs counts actor ≡ Some command → IsSound command
next_is_sound programs counts actor command sound is =
    elim (slice_get programs actor) as (λ o. slice_get programs actor ≡ o → option_and_then (λ program. slice_get program (slice_index counts actor)) o ≡ Some command → IsSound command) [
      | None ↦ (λ _ none. absurd (none-some command none))
      | Some program ↦ (λ has gets. at_place IsSound program (slice_index counts actor) command (at_place (λ p. All (λ c. IsSound c) p) programs actor program sound has) gets)
    ]
    refl is

-- an actor's next call always plays
call_plays : (programs : List (List Command)) (s : CallPlay) (actor : ℕ) (command : Option Command)
    → AreSound programs → next_call programs s.counts actor ≡ command → IsSome (with_call s actor command)
call_plays programs s actor None sound is = refl
call_plays programs s actor (Some command) sound is =
    let events = (call_on s.list actor command).events in
    elim (with_events s events) as (λ o. IsSome o → IsSome (option_map (λ after. with_ended after actor command (call_on s.list actor command).answer) o))
    [ None ↦ (λ none. none) | Some after ↦ (λ _. refl) ]
    (call_legal s actor command (next_is_sound programs s.counts actor command sound is))

items_play : (programs : List (List Command)) (s : CallPlay) (items : List Item) → AreSound programs
    → IsSome (with_items programs s items)
items_play programs s [] sound = refl
items_play programs s (item ∷ items) sound =
    elim (with_call s item.actor (next_call programs s.counts item.actor)) as (λ o. IsSome o → IsSome (option_and_then (λ after. with_items programs after items) o))
    [ None ↦ (λ none. none) | Some after ↦ (λ _. items_play programs after items sound) ]
    (call_plays programs s item.actor _ sound refl)

pub calls_play : CallsPlay
calls_play limit programs items sound =
    elim (with_items programs (empty_call_play limit programs) items) as (λ o. IsSome o → IsSome (option_map played_of_calls o))
    [ None ↦ (λ none. none) | Some last ↦ (λ _. refl) ]
    (items_play programs (empty_call_play limit programs) items sound)
