-- Whole calls: their events in a row, and that each is legal.
use Rattle.std.proofs.Common.{◌≡◌, ℕ, ◌+◌, ◌-◌, ◌<◌, List, [], ◌∷◌, ◌++◌, length, map, drop, get_or, drop-cons, ap, refl, sym, ◌∙◌, arith, suc, add-one, append_assoc, Option, Some, None, IsSome}
use Rattle.std.specs.List.{range_with_len}
use Rattle.std.specs.Option.{option_and_then, is_some}
use Rattle.step_core.specs.calls.Play.{CallPlay, with_event, with_events}
use Rattle.book_core.specs.declared.events.Event.{Event}

-- the events at the places from p up to e: those before p and p's, and those after it
pub one_more_place : (f : ℕ → Event) (front all : List Event) (p e : ℕ) → p < e
    → front ++ map f (range_with_len p (e - p)) ≡ all
    → (front ++ f p ∷ []) ++ map f (range_with_len (p + 1) (e - (p + 1))) ≡ all
one_more_place f front all p e below so_far =
    let count : e - p ≡ suc (e - (p + 1)) = omega arith in
    let shifted : front ++ map f (range_with_len p (suc (e - (p + 1)))) ≡ all = rw count at so_far in
    rw append_assoc shifted

-- the event at an index, and those after it
first_left : (events : List Event) (i : ℕ) (d : Event) → i < length events
    → drop i events ≡ get_or events i d ∷ drop (i + 1) events
first_left events i d inside = rw (add-one, drop-cons events i d) refl

-- a chain that succeeds succeeds at first
first_legal : (o : Option CallPlay) (f : CallPlay → Option CallPlay) (all : Option CallPlay)
    → option_and_then f o ≡ all → IsSome all → IsSome o
first_legal None f all e legal = ap is_some e ∙ legal
first_legal (Some s) f all e legal = refl

-- where all that is left is legal one after another, what comes first is legal
pub next_is_legal : (s : CallPlay) (events : List Event) (i : ℕ) (d : Event) (all : Option CallPlay)
    → i < length events → with_events s (drop i events) ≡ all → IsSome all
    → IsSome (with_event s (get_or events i d))
next_is_legal s events i d all inside so_far legal =
    let split : with_events s (get_or events i d ∷ drop (i + 1) events) ≡ all = ap (with_events s) (sym (first_left events i d inside)) ∙ so_far in
    first_legal (with_event s (get_or events i d)) (λ after. with_events after (drop (i + 1) events)) all split legal

-- after the next event, the others are left
pub after_next : (s after : CallPlay) (events : List Event) (i : ℕ) (d : Event) (all : Option CallPlay)
    → i < length events → with_events s (drop i events) ≡ all → with_event s (get_or events i d) ≡ Some after
    → with_events after (drop (i + 1) events) ≡ all
after_next s after events i d all inside so_far happens =
    let split : with_events s (get_or events i d ∷ drop (i + 1) events) ≡ all = ap (with_events s) (sym (first_left events i d inside)) ∙ so_far in
    sym (ap (option_and_then (λ after. with_events after (drop (i + 1) events))) happens) ∙ split
