-- The events of a call that won its places: those so far are a beginning of the whole, and the whole is a
-- record.
use Rattle.std.proofs.Common.{◌≡◌, ℕ, ◌+◌, ◌-◌, ◌<◌, ◌≤◌, nat_le, true, false, if◌then◌else◌, List, [], ◌∷◌, ◌++◌, map, refl, ap, sym, ◌∙◌, subst, arith, inl}
use Rattle.std.proofs.Math.Nat.{sub_self}
use Rattle.std.proofs.lemmas.Bool.Decides.{nat_tests}
use Rattle.std.proofs.lemmas.List.{append-nil, map-append}
use Rattle.std.proofs.lemmas.List.FromFn.{map-range_with_len_more}
use Rattle.std.specs.List.{range_with_len}
use Rattle.book_core.specs.declared.events.Event.{Event}
use Rattle.book_core.specs.declared.events.Event.TheVariants.{Claim, Raise, Finish, Break}
use Rattle.book_core.specs.declared.events.Reply.{Reply}
use Rattle.book_core.specs.declared.events.Reply.TheVariants as replies
use Rattle.book_core.specs.declared.commands.Command.{Command}
use Rattle.book_core.specs.declared.commands.Command.TheVariants as commands
use Rattle.book_core.specs.Commands.{IsSound}
use Rattle.book_core.specs.Events.{finishes, breaks}
use Rattle.step_core.specs.machine.Step.{is_refused, value_of, answer_of_run}
use Rattle.step_core.specs.machine.Record.{IsRecord}
use Rattle.step_core.proofs.atomic_steps.Ranges.{map_same, map_parts}

-- the call is a growth, and n is how many places it asks for where it says how many
abbrev pub Asks : Command → ℕ → Type 0
Asks (commands.Push value) n = n ≡ 1
Asks (commands.Grow m value) n = n ≡ m
Asks (commands.AtLeast to value) n = Unit {0}
Asks (commands.Fail m value at) n = n ≡ m
Asks (commands.Mend place value) n = ⊥
Asks (commands.Read place) n = ⊥
Asks commands.Size n = ⊥

-- the event that wins n places for the call
abbrev pub claiming_event : ℕ → Command → ℕ → Event
claiming_event actor (commands.Push value) n = Claim actor n
claiming_event actor (commands.Grow m value) n = Claim actor n
claiming_event actor (commands.AtLeast to value) n = Raise actor to
claiming_event actor (commands.Fail m value at) n = Claim actor n
claiming_event actor (commands.Mend place value) n = Claim actor n
claiming_event actor (commands.Read place) n = Claim actor n
claiming_event actor commands.Size n = Claim actor n

-- how the actor settles a place of its run
abbrev pub settling : ℕ → Command → ℕ → ℕ → Event
settling actor command from place =
    if is_refused command from place then Break actor place else Finish actor place (value_of command)

-- a number of places of the run settled, in ascending order
abbrev pub settled : ℕ → Command → ℕ → ℕ → List (Event × Reply)
settled actor command from count = map (λ event. (event, replies.Done)) (map (settling actor command from) (range_with_len from count))

-- the claim of n places, and a number of them settled
abbrev pub run_so_far : ℕ → Command → ℕ → ℕ → ℕ → List (Event × Reply)
run_so_far actor command from n count = (claiming_event actor command n, replies.Run from n) ∷ settled actor command from count

-- one more place is settled
pub settled_more : (actor : ℕ) (command : Command) (from count place : ℕ) → from + count ≡ place
    → settled actor command from count ++ (settling actor command from place, replies.Done) ∷ [] ≡ settled actor command from (count + 1)
settled_more actor command from count place is =
    sym (ap (map (λ event. (event, replies.Done))) (map-range_with_len_more (settling actor command from) from count place is)
    ∙ map-append (λ event. (event, replies.Done)) (map (settling actor command from) (range_with_len from count)) (settling actor command from place ∷ []))

-- some places settled, and then the others
pub settled_parts : (actor : ℕ) (command : Command) (from k n : ℕ) → k ≤ n
    → settled actor command from n ≡ settled actor command from k ++ map (λ event. (event, replies.Done))
    (map (settling actor command from) (range_with_len (from + k) (n - k)))
settled_parts actor command from k n within =
    ap (map (λ event. (event, replies.Done))) (map_parts (settling actor command from) from k n (omega arith))
    ∙ map-append (λ event. (event, replies.Done)) (map (settling actor command from) (range_with_len from k)) (map (settling actor command from) (range_with_len (from + k) (n - k)))

-- if no place is refused, all are filled and none broken
all_filled : (actor from n value : ℕ)
    → finishes actor from n value ≡ finishes actor from n value ++ breaks actor (from + n) (n - n)
all_filled actor from n value = rw (sub_self n) (sym (append-nil (finishes actor from n value)))

-- if one place is refused, those before it are filled, and then the others broken
filled_up_to : (actor n value at from : ℕ) → at < n
    → map (settling actor (commands.Fail n value at) from)
    (range_with_len from n) ≡ finishes actor from at value ++ breaks actor (from + at) (n - at)
filled_up_to actor n value at from before =
    let f = settling actor (commands.Fail n value at) from in
    map_parts f from at n (omega arith)
    ∙ ap (λ es. es ++ map f (range_with_len (from + at) (n - at)))
    (map_same f (λ place. Finish actor place value) from at (λ place low high.
    let fits : nat_le (from + at) place ≡ false = grind (arith, nat_tests) in
    rw fits refl))
    ∙ ap (λ es. finishes actor from at value ++ es)
    (map_same f (λ place. Break actor place) (from + at) (n - at) (λ place low high.
    let refused : nat_le (from + at) place ≡ true = grind (arith, nat_tests) in
    rw refused refl))

-- a claim with all its places settled is a record
pub run_recorded : (actor : ℕ) (command : Command) (from n : ℕ) → IsSound command → Asks command n
    → IsRecord actor command (run_so_far actor command from n n) (answer_of_run command from n)
run_recorded actor (commands.Push value) from n sound asks =
    subst (λ k. IsRecord actor (commands.Push value) (run_so_far actor (commands.Push value) from k k) (answer_of_run (commands.Push value) from k)) (sym asks)
    (inl (record { from = from; events = refl; answered = refl }))
run_recorded actor (commands.Grow m value) from n sound asks =
    subst (λ k. IsRecord actor (commands.Grow m value) (run_so_far actor (commands.Grow m value) from k k) (answer_of_run (commands.Grow m value) from k)) (sym asks)
    (inl (record { from = from; events = ap (λ es. (Claim actor m, replies.Run from m) ∷ map (λ event. (event, replies.Done)) es) (all_filled actor from m value); answered = refl }))
run_recorded actor (commands.AtLeast to value) from n sound asks =
    inl (record { n = n; grown = record { from = from; events = ap (λ es. (Raise actor to, replies.Run from n) ∷ map (λ event. (event, replies.Done)) es) (all_filled actor from n value); answered = refl } })
run_recorded actor (commands.Fail m value at) from n sound asks =
    subst (λ k. IsRecord actor (commands.Fail m value at) (run_so_far actor (commands.Fail m value at) from k k) (answer_of_run (commands.Fail m value at) from k)) (sym asks)
    (inl (record { from = from; events = ap (λ es. (Claim actor m, replies.Run from m) ∷ map (λ event. (event, replies.Done)) es) (filled_up_to actor m value at from sound); answered = refl }))
run_recorded actor (commands.Mend place value) from n sound asks = absurd asks
run_recorded actor (commands.Read place) from n sound asks = absurd asks
run_recorded actor commands.Size from n sound asks = absurd asks
