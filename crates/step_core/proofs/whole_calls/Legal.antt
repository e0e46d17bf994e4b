-- Every whole call is legal on the list as it is when the call begins.
use Rattle.std.proofs.Common.{◌≡◌, ℕ, ◌+◌, ◌-◌, ◌≤◌, nat_le, Bool, true, false, List, [], ◌∷◌, ◌++◌, length, map, replicate, slice_get, slice_set, Option, Some, None, IsSome, refl, ap, sym, ◌∙◌, arith, zero, suc, append_assoc, eq-eqb, if◌then◌else◌}
use Rattle.std.proofs.Math.Seq.{set-append_seam}
use Rattle.std.proofs.lemmas.Bool.Decides.{nat_tests}
use Rattle.std.proofs.lemmas.List.{length-append, length-replicate, replicate-append-replicate, append-nil}
use Rattle.std.specs.List.{range_with_len}
use Rattle.std.specs.Option.{option_and_then, option_map}
use Rattle.book_core.specs.declared.cells.Cell.{Cell}
use Rattle.book_core.specs.declared.cells.Cell.TheVariants.{Pending, Filled, Broken}
use Rattle.book_core.specs.declared.events.Event.{Event}
use Rattle.book_core.specs.declared.events.Event.TheVariants.{Claim, Raise, Finish, Break}
use Rattle.book_core.specs.declared.events.Reply.{Reply}
use Rattle.book_core.specs.declared.events.Reply.TheVariants as replies
use Rattle.book_core.specs.declared.commands.Command.{Command}
use Rattle.book_core.specs.declared.commands.Command.TheVariants as commands
use Rattle.book_core.specs.declared.commands.Answer.TheVariants as answers
use Rattle.book_core.specs.Cells.{CellList, with_cell, with_pending, is_pending_for, apply_event}
use Rattle.book_core.specs.Commands.{IsSound}
use Rattle.book_core.proofs.EventRows.{mend_applies, finish_applies}
use Rattle.book_core.proofs.Lists.{get_set}
use Rattle.step_core.specs.calls.WholeCall.{WholeCall, call_on, refused, mend_on}
use Rattle.step_core.specs.calls.Play.{CallPlay, with_event, with_events}
use Rattle.book_core.specs.Events.{finishes, breaks}

-- what stands right behind the front of a list
slice_get-append_seam : (front : List Cell) (x : Cell) (rest : List Cell)
    → slice_get (front ++ x ∷ rest) (length front) ≡ Some x
slice_get-append_seam [] x rest = refl
slice_get-append_seam (y ∷ front) x rest = slice_get-append_seam front x rest

-- events one after another succeed, and leave these cells
record Leads (s : CallPlay) (events : List Event) (cells : List Cell) : Type 0 where
  pub after : CallPlay
  pub plays : with_events s events ≡ Some after
  pub limit : after.list.limit ≡ s.list.limit
  pub cells_are : after.list.cells ≡ cells

-- the event turns a pending place of the actor into this cell
Settles : ℕ → (ℕ → Event) → Cell → Type 0
Settles actor f cell =
    (v : CellList) (place : ℕ) → is_pending_for actor (slice_get v.cells place) ≡ true → apply_event v (f place) ≡ Some (with_cell v place cell, replies.Done)

-- the actor settles all its pending places behind a front, in ascending order
leads_settled : (actor : ℕ) (f : ℕ → Event) (cell : Cell) → Settles actor f cell
    → (n : ℕ) (s : CallPlay) (front rest : List Cell)
    → s.list.cells ≡ front ++ (replicate n (Pending actor) ++ rest)
    → Leads s (map f (range_with_len (length front) n)) (front ++ (replicate n cell ++ rest))
unfolding Settles
leads_settled actor f cell settles zero s front rest is = record { after = s; plays = refl; limit = refl; cells_are = is }
leads_settled actor f cell settles (suc n) s front rest is =
    let at_seam : slice_get s.list.cells (length front) ≡ Some (Pending actor) =
    ap (λ cells. slice_get cells (length front)) is ∙ slice_get-append_seam front (Pending actor) (replicate n (Pending actor) ++ rest)
    in
    let ours : is_pending_for actor (slice_get s.list.cells (length front)) ≡ true =
    ap (is_pending_for actor) at_seam ∙ eq-eqb actor actor refl
    in
    let one : apply_event s.list (f (length front)) ≡ Some (with_cell s.list (length front) cell, replies.Done) = settles s.list (length front) ours in
    let changed : slice_set s.list.cells (length front) cell ≡ (front ++ cell ∷ []) ++ (replicate n (Pending actor) ++ rest) =
    ap (λ cells. slice_set cells (length front) cell) is
    ∙ set-append_seam front (Pending actor) (replicate n (Pending actor) ++ rest) cell
    ∙ sym (append_assoc front (cell ∷ []) (replicate n (Pending actor) ++ rest))
    in
    let next : CallPlay =
    record {
      list = with_cell s.list (length front) cell;
      counts = s.counts;
      events = s.events ++ (f (length front), replies.Done) ∷ [];
      ended = s.ended;
    }
    in
    let others = leads_settled actor f cell settles n next (front ++ cell ∷ []) rest changed in
    let count : length (front ++ cell ∷ []) ≡ length front + 1 = length-append front (cell ∷ []) in
    let happened : with_event s (f (length front)) ≡ Some next =
    ap (option_map (λ (after : CellList × Reply). record { list = after.0; counts = s.counts; events = s.events ++ (f (length front), after.1) ∷ []; ended = s.ended })) one
    in
    record {
      after = others.after;
      plays =
          ap (option_and_then (λ after. with_events after (map f (range_with_len (length front + 1) n)))) happened
          ∙ ap (λ k. with_events next (map f (range_with_len k n))) (sym count)
          ∙ others.plays;
      limit = others.limit;
      cells_are = others.cells_are ∙ append_assoc front (cell ∷ []) (replicate n cell ++ rest);
    }

-- events that follow others happen to what those leave
with_events-append : (s : CallPlay) (xs ys : List Event)
    → with_events s (xs ++ ys) ≡ option_and_then (λ after. with_events after ys) (with_events s xs)
with_events-append s [] ys = refl
with_events-append s (x ∷ xs) ys =
    elim (with_event s x) as (λ o. option_and_then (λ after. with_events after (xs ++ ys)) o ≡ option_and_then (λ after. with_events after ys) (option_and_then (λ after. with_events after xs) o))
    [ None ↦ refl | Some t ↦ with_events-append t xs ys ]

finish_settles : (actor value : ℕ) → Settles actor (λ place. Finish actor place value) (Filled value)
unfolding Settles
finish_settles actor value v place ours = rw ours refl

break_settles : (actor : ℕ) → Settles actor (λ place. Break actor place) Broken
unfolding Settles
break_settles actor v place ours = rw ours refl

-- what leads somewhere succeeds
leads_somewhere : (s : CallPlay) (events : List Event) (cells : List Cell) → Leads s events cells
    → IsSome (with_events s events)
leads_somewhere s events cells leads = rw leads.plays refl

-- a run whose first places are filled, and whose others are broken
run_legal : (t : CallPlay) (actor n made value : ℕ) (front : List Cell) → made ≤ n
    → t.list.cells ≡ front ++ replicate n (Pending actor)
    → IsSome (with_events t (finishes actor (length front) made value ++ breaks actor (length front + made) (n - made)))
run_legal t actor n made value front within is =
    let parts : replicate n (Pending actor) ≡ replicate made (Pending actor) ++ replicate (n - made) (Pending actor) =
    ap (λ k. replicate k (Pending actor)) (let e : n ≡ made + (n - made) = omega arith in e)
    ∙ sym (replicate-append-replicate made (n - made) (Pending actor))
    in
    let filled = leads_settled actor (λ place. Finish actor place value) (Filled value) (finish_settles actor value) made t front (replicate (n - made) (Pending actor)) (is ∙ ap (λ xs. front ++ xs) parts) in
    let there : filled.after.list.cells ≡ (front ++ replicate made (Filled value)) ++ (replicate (n - made) (Pending actor) ++ []) =
    filled.cells_are
    ∙ sym (append_assoc front (replicate made (Filled value)) (replicate (n - made) (Pending actor)))
    ∙ ap (λ xs. (front ++ replicate made (Filled value)) ++ xs) (sym (append-nil (replicate (n - made) (Pending actor))))
    in
    let broken = leads_settled actor (λ place. Break actor place) Broken (break_settles actor) (n - made) filled.after (front ++ replicate made (Filled value)) [] there in
    let count : length (front ++ replicate made (Filled value)) ≡ length front + made =
    length-append front (replicate made (Filled value)) ∙ ap (λ k. length front + k) (length-replicate made (Filled value))
    in
    let breaking : IsSome (with_events filled.after (breaks actor (length front + made) (n - made))) =
    rw (← count) (leads_somewhere _ _ _ broken)
    in
    rw (with_events-append, filled.plays) breaking

module _ (s : CallPlay) (actor : ℕ) where
  -- the list and its events after a claiming event
  claimed : Event → ℕ → CallPlay
  claimed event n = record {
    list = with_pending s.list actor n;
    counts = s.counts;
    events = s.events ++ (event, replies.Run (length s.list.cells) n) ∷ [];
    ended = s.ended;
  }

  -- a growth whose claim succeeds is legal as a whole
  growth_legal : (n made value : ℕ) (claim : Event) → made ≤ n → with_event s claim ≡ Some (claimed claim n)
      → IsSome (with_events s (claim ∷ (finishes actor (length s.list.cells) made value ++ breaks actor (length s.list.cells + made) (n - made))))
  unfolding claimed
  growth_legal n made value claim within happens =
      let run = run_legal (claimed claim n) actor n made value s.list.cells within refl in
      rw happens run

  -- the same where nothing is broken
  filled_legal : (n value : ℕ) (claim : Event) → with_event s claim ≡ Some (claimed claim n)
      → IsSome (with_events s (claim ∷ finishes actor (length s.list.cells) n value))
  unfolding claimed
  filled_legal n value claim happens =
      let filled = leads_settled actor (λ place. Finish actor place value) (Filled value) (finish_settles actor value) n (claimed claim n) s.list.cells [] (ap (λ xs. s.list.cells ++ xs) (sym (append-nil (replicate n (Pending actor))))) in
      rw happens (leads_somewhere _ _ _ filled)

  -- a growth by n is legal where it is legal if its claim succeeds: else it is refused
  growth_or_refusal : (n : ℕ) (call : WholeCall)
      → (with_event s (Claim actor n) ≡ Some (claimed (Claim actor n) n) → IsSome (with_events s call.events))
      → IsSome (with_events s (if nat_le (length s.list.cells + n) s.list.limit then call else refused s.list actor n).events)
  unfolding claimed
  growth_or_refusal n call legal =
      elim (nat_le (length s.list.cells + n) s.list.limit) as (λ b. nat_le (length s.list.cells + n) s.list.limit ≡ b → IsSome (with_events s (if b then call else refused s.list actor n).events)) [
        | true ↦ (λ fits. legal (rw fits refl))
        | false ↦ (λ full. rw full refl)
      ]
      refl

  -- a raise to a size has enough, or claims the new places, or is refused
  raise_legal : (to value : ℕ) → IsSome (with_events s (call_on s.list actor (commands.AtLeast to value)).events)
  unfolding claimed
  raise_legal to value =
      let size = length s.list.cells in
      let more = to - size in
      let grown = λ (b : Bool). if b then record { events = Raise actor to ∷ finishes actor size more value; answer = answers.Run size more } else refused s.list actor more in
      elim (nat_le to size) as (λ b. nat_le to size ≡ b → IsSome (with_events s (if b then record { events = Raise actor to ∷ []; answer = answers.Enough size } else grown (nat_le to s.list.limit)).events)) [
        | true ↦ (λ enough. rw enough refl)
        | false ↦ (λ grows.
            elim (nat_le to s.list.limit) as (λ b. nat_le to s.list.limit ≡ b → IsSome (with_events s (grown b).events)) [
              | true ↦ (λ fits. filled_legal more value (Raise actor to) (rw (grows, fits) refl))
              | false ↦ (λ full.
                  let past : nat_le (size + more) s.list.limit ≡ false = grind (arith, nat_tests) in
                  rw past refl)
            ]
            refl)
      ]
      refl

  -- a mend of a broken place takes it and fills it, and one of any other place reads it
  mend_legal : (place value : ℕ) (cell : Option Cell) → slice_get s.list.cells place ≡ cell
      → IsSome (with_events s (mend_on s.list actor place value cell).events)
  mend_legal place value None is = refl
  mend_legal place value (Some (Pending owner)) is = refl
  mend_legal place value (Some (Filled held)) is = refl
  mend_legal place value (Some Broken) is =
      let taken = mend_applies s.list actor place is in
      let ours = get_set s.list.cells place Broken (Pending actor) is in
      let filled = finish_applies (with_cell s.list place (Pending actor)) actor place value ours in
      rw (taken, filled) refl

  -- every whole call is legal on the list as it is when the call begins
  pub call_legal : (command : Command) → IsSound command → IsSome (with_events s (call_on s.list actor command).events)
  call_legal (commands.Push value) sound = growth_or_refusal 1 _ (filled_legal 1 value (Claim actor 1))
  call_legal (commands.Grow n value) sound = growth_or_refusal n _ (filled_legal n value (Claim actor n))
  call_legal (commands.AtLeast to value) sound = raise_legal to value
  call_legal (commands.Fail n value at) sound =
      growth_or_refusal n _ (growth_legal n at value (Claim actor n) (omega arith))
  call_legal (commands.Mend place value) sound = mend_legal place value (slice_get s.list.cells place) refl
  call_legal (commands.Read place) sound = refl
  call_legal commands.Size sound = refl
