-- Two calls that ended at one place are one: each filled that place, and the history has one at most that
-- did.
use Rattle.std.proofs.Common.{append_assoc, ◌≡◌, ◌⊎◌, ℕ, ◌+◌, ◌<◌, ◌≤◌, ◌==◌, ◌&&◌, Bool, true, false, if◌then◌else◌, List, [], ◌∷◌, ◌++◌, length, Option, Some, None, Result, Ok, Err, IfOk, OnOk, slice_get, zero, suc, refl, ap, sym, ◌∙◌, subst, arith, inl, inr}
use Rattle.std.specs.List.{sum_by}
use Rattle.std.proofs.lemmas.Bool.{eqb-true, false≢true, and_parts}
use Rattle.std.proofs.lemmas.Bool.Decides.{nat_tests, eqb_tells}
use Rattle.std.proofs.lemmas.List.{length-append}
use Rattle.std.proofs.lemmas.List.Sums.{sum_by-append}
use Rattle.std.proofs.lemmas.Option.{none-some, same_Some}
use Rattle.book_core.specs.declared.events.Event.{Event}
use Rattle.book_core.specs.declared.events.Event.TheVariants.{Claim, Raise, Finish, Break, Mend, Look, Size, RefusedFull, RefusedMemory}
use Rattle.book_core.specs.declared.events.Reply.{Reply}
use Rattle.book_core.specs.declared.events.Reply.TheVariants as replies
use Rattle.book_core.specs.declared.commands.Command.{Command}
use Rattle.book_core.specs.declared.commands.Command.TheVariants as commands
use Rattle.book_core.specs.declared.commands.Answer.{Answer}
use Rattle.book_core.specs.declared.commands.Answer.TheVariants as answers
use Rattle.book_core.specs.declared.commands.Ended.{Ended}
use Rattle.book_core.specs.Commands.{AreSound, calls_of}
use Rattle.book_core.specs.Events.{actor_of, write_in, finisher_in, finishers_of}
use Rattle.book_core.specs.History.{events_of, writes_of}
use Rattle.book_core.specs.Laws.{WritesSplit}
use Rattle.book_core.specs.declared.commands.Item.{Item}
use Rattle.seg_core.specs.Segment.{IsLayout, IsLimit}
use Rattle.step_core.specs.declared.errors.PlayError.{PlayError}
use Rattle.step_core.specs.declared.programs.Played.{Played}
use Rattle.step_core.specs.machine.Play.{Play, play_of}
use Rattle.step_core.specs.machine.Work.{play_shown}
use Rattle.step_core.specs.machine.Record.{answer_to_look, answer_to_mend, IsRecord, AreCalls, program_of}
use Rattle.step_core.specs.machine.Tiling.{IsWrittenFor}
use Rattle.step_core.specs.machine.Headline.{IsSequential, EveryInterleavingIsSequential}
use Rattle.model_tests.specs.Uses.{PushesAreApart}

-- who filled a place, in the order of the history
abbrev fillers : ℕ → List (Event × Reply) → List ℕ
fillers place es = finishers_of (writes_of place es)

-- those of two lists, one after the other
finishers_append : (xs ys : List Event) → finishers_of (xs ++ ys) ≡ finishers_of xs ++ finishers_of ys
finishers_append [] ys = refl
finishers_append (x ∷ xs) ys = ap (λ l. finisher_in x ++ l) (finishers_append xs ys) ∙ sym (append_assoc (finisher_in x) (finishers_of xs) (finishers_of ys))

fillers_split : WritesSplit → (place : ℕ) (es fs : List (Event × Reply)) → fillers place (es ++ fs) ≡ fillers place es ++ fillers place fs
fillers_split split place es fs = ap finishers_of (split place es fs) ∙ finishers_append (writes_of place es) (writes_of place fs)

-- the place of an answer that has one
unfoldable pub place_in : Answer → Option ℕ
place_in (answers.At place) = Some place
place_in (answers.Run from n) = None
place_in (answers.Enough size) = None
place_in (answers.BrokenRun from n made) = None
place_in (answers.Full size) = None
place_in answers.NoMemory = None
place_in (answers.Value value) = None
place_in answers.Pending = None
place_in answers.Broken = None
place_in (answers.OutOfRange size) = None
place_in (answers.Size size) = None

-- an answer with this place is not one without
pub other_answer : {A : Type 0} (answer other : Answer) (place : ℕ) → answer ≡ answers.At place → answer ≡ other
    → place_in other ≡ None → A
unfolding place_in
other_answer answer other place at is none = absurd (none-some place (sym (sym (ap place_in at) ∙ ap place_in is ∙ none)))

-- no look shows a place
no_place_told : (reply : Reply) (place : ℕ) → answer_to_look reply ≡ Some (answers.At place) → ⊥
unfolding place_in
no_place_told (replies.Run from n) place is = none-some _ is
no_place_told (replies.Enough size) place is = none-some _ is
no_place_told replies.Done place is = none-some _ is
no_place_told (replies.Value value) place is = none-some place (ap place_in (same_Some _ _ is))
no_place_told replies.Pending place is = none-some place (ap place_in (same_Some _ _ is))
no_place_told replies.Broken place is = none-some place (ap place_in (same_Some _ _ is))
no_place_told (replies.OutOfRange size) place is = none-some place (ap place_in (same_Some _ _ is))
no_place_told (replies.Size size) place is = none-some _ is
no_place_told (replies.Full size) place is = none-some _ is
no_place_told replies.NoMemory place is = none-some _ is

-- nor is a mend that found no broken place
pub no_place_found : (reply : Reply) (place : ℕ) → answer_to_mend reply ≡ Some (answers.At place) → ⊥
unfolding place_in
no_place_found (replies.Run from n) place is = none-some _ is
no_place_found (replies.Enough size) place is = none-some _ is
no_place_found replies.Done place is = none-some _ is
no_place_found (replies.Value value) place is = none-some place (ap place_in (same_Some _ _ is))
no_place_found replies.Pending place is = none-some place (ap place_in (same_Some _ _ is))
no_place_found replies.Broken place is = none-some _ is
no_place_found (replies.OutOfRange size) place is = none-some place (ap place_in (same_Some _ _ is))
no_place_found (replies.Size size) place is = none-some _ is
no_place_found (replies.Full size) place is = none-some _ is
no_place_found replies.NoMemory place is = none-some _ is

-- the record of a call that ended with this place has a Finish of it
writes_place : (k : ℕ) (command : Command) (es : List (Event × Reply)) (answer : Answer) (place : ℕ)
    → IsRecord k command es answer → answer ≡ answers.At place → 0 < length (fillers place es)
unfolding place_in
writes_place k (commands.Push value) es answer place is at = elim is [
  | inl grown ↦ (
      let same : grown.from ≡ place = same_Some _ _ (sym (ap place_in grown.answered) ∙ ap place_in at) in
      let itself : (grown.from == place) ≡ true = grind (arith, nat_tests) in
      subst (λ xs. 0 < length (fillers place xs)) (sym grown.events) (rw itself (omega arith)))
  | inr (inl full) ↦ other_answer answer _ place at full.answered refl
  | inr (inr memory) ↦ other_answer answer _ place at memory.answered refl
]
writes_place k (commands.Grow n value) es answer place is at = elim is [
  | inl grown ↦ other_answer answer _ place at grown.answered refl
  | inr (inl full) ↦ other_answer answer _ place at full.answered refl
  | inr (inr memory) ↦ other_answer answer _ place at memory.answered refl
]
writes_place k (commands.AtLeast to value) es answer place is at = elim is [
  | inl raised ↦ other_answer answer _ place at raised.grown.answered refl
  | inr (inl enough) ↦ other_answer answer _ place at enough.answered refl
  | inr (inr (inl full)) ↦ other_answer answer _ place at full.answered refl
  | inr (inr (inr memory)) ↦ other_answer answer _ place at memory.answered refl
]
writes_place k (commands.Fail n value refused) es answer place is at = elim is [
  | inl grown ↦ other_answer answer _ place at grown.answered refl
  | inr (inl full) ↦ other_answer answer _ place at full.answered refl
  | inr (inr memory) ↦ other_answer answer _ place at memory.answered refl
]
writes_place k (commands.Mend mends value) es answer place is at = elim is [
  | inl mended ↦ (
      let same : mends ≡ place = same_Some _ _ (sym (ap place_in mended.answered) ∙ ap place_in at) in
      let itself : (mends == place) ≡ true = grind (arith, nat_tests) in
      subst (λ xs. 0 < length (fillers place xs)) (sym mended.events) (rw itself (omega arith)))
  | inr found ↦ absurd (no_place_found found.reply place (found.answered ∙ ap Some at))
]
writes_place k (commands.Read read) es answer place is at = absurd (no_place_told is.reply place (is.answered ∙ ap Some at))
writes_place k commands.Size es answer place is at = other_answer answer _ place at is.answered refl

-- ---- Counting

same_place : ℕ → Option ℕ → Bool
same_place place None = false
same_place place (Some at) = at == place

-- whether a call is an actor's, and ended at this place
abbrev is_at : ℕ → ℕ → Ended → Bool
is_at k place ended = (ended.actor == k) && same_place place (place_in ended.answer)

-- how many calls of an actor ended at this place
pushed : ℕ → ℕ → List Ended → ℕ
pushed k place [] = 0
pushed k place (ended ∷ calls) = (if is_at k place ended then 1 else 0) + pushed k place calls

here : (k place : ℕ) (ended : Ended) → ended.actor ≡ k → ended.answer ≡ answers.At place → is_at k place ended ≡ true
unfolding same_place place_in
here k place ended its at =
    let one : (ended.actor == k) ≡ true = grind (arith, nat_tests) in
    let itself : (place == place) ≡ true = grind (arith, nat_tests) in
    rw one (ap (λ o. same_place place (place_in o)) at ∙ itself)

-- one call counts once
pushed_once : (k place : ℕ) (calls : List Ended) (i : ℕ) (a : Ended) → slice_get calls i ≡ Some a → a.actor ≡ k
    → a.answer ≡ answers.At place → 1 ≤ pushed k place calls
unfolding pushed
pushed_once k place [] i a is its at = absurd (none-some a is)
pushed_once k place (x ∷ calls) zero a is its at =
    let first : is_at k place x ≡ true = ap (is_at k place) (same_Some x a is) ∙ here k place a its at in
    rw first (omega arith)
pushed_once k place (x ∷ calls) (suc i) a is its at =
    let others = pushed_once k place calls i a is its at in omega arith

-- two calls count twice
pushed_twice : (k place : ℕ) (calls : List Ended) (i j : ℕ) (a b : Ended) → slice_get calls i ≡ Some a
    → slice_get calls j ≡ Some b → a.actor ≡ k → b.actor ≡ k → a.answer ≡ answers.At place
    → b.answer ≡ answers.At place → (i ≡ j) ⊎ (2 ≤ pushed k place calls)
unfolding pushed
pushed_twice k place [] i j a b is_a is_b its_a its_b at_a at_b = absurd (none-some a is_a)
pushed_twice k place (x ∷ calls) zero zero a b is_a is_b its_a its_b at_a at_b = inl refl
pushed_twice k place (x ∷ calls) zero (suc j) a b is_a is_b its_a its_b at_a at_b =
    let first : is_at k place x ≡ true = ap (is_at k place) (same_Some x a is_a) ∙ here k place a its_a at_a in
    let others = pushed_once k place calls j b is_b its_b at_b in
    inr (rw first (omega arith))
pushed_twice k place (x ∷ calls) (suc i) zero a b is_a is_b its_a its_b at_a at_b =
    let first : is_at k place x ≡ true = ap (is_at k place) (same_Some x b is_b) ∙ here k place b its_b at_b in
    let others = pushed_once k place calls i a is_a its_a at_a in
    inr (rw first (omega arith))
pushed_twice k place (x ∷ calls) (suc i) (suc j) a b is_a is_b its_a its_b at_a at_b =
    elim (pushed_twice k place calls i j a b is_a is_b its_a its_b at_a at_b) [
      | inl same ↦ inl (ap suc same)
      | inr twice ↦ inr (omega arith)
    ]

-- the calls of an actor are all that count for it
pushed_own : (k place : ℕ) (calls : List Ended) → pushed k place calls ≡ pushed k place (calls_of k calls)
unfolding pushed
pushed_own k place [] = refl
pushed_own k place (x ∷ calls) =
    elim (x.actor == k) as (λ b. (x.actor == k) ≡ b → pushed k place (x ∷ calls) ≡ pushed k place (if b then x ∷ calls_of k calls else calls_of k calls)) [
      | true ↦ (λ own. ap (λ n. (if is_at k place x then 1 else 0) + n) (pushed_own k place calls))
      | false ↦ (λ other. rw other (let same = pushed_own k place calls in omega arith))
    ]
    refl

-- an answer that has the place is that of a push
answer_at : (place : ℕ) (answer : Answer) → same_place place (place_in answer) ≡ true → answer ≡ answers.At place
unfolding same_place place_in
answer_at place (answers.At at) is = ap answers.At (eqb-true at place is)
answer_at place (answers.Run from n) is = absurd (false≢true is)
answer_at place (answers.Enough size) is = absurd (false≢true is)
answer_at place (answers.BrokenRun from n made) is = absurd (false≢true is)
answer_at place (answers.Full size) is = absurd (false≢true is)
answer_at place answers.NoMemory is = absurd (false≢true is)
answer_at place (answers.Value value) is = absurd (false≢true is)
answer_at place answers.Pending is = absurd (false≢true is)
answer_at place answers.Broken is = absurd (false≢true is)
answer_at place (answers.OutOfRange size) is = absurd (false≢true is)
answer_at place (answers.Size size) is = absurd (false≢true is)

-- each call that ended at a place has a write of it
calls_write : WritesSplit → (k place : ℕ) (program : List Command) (number : ℕ) (calls : List Ended) (es : List (Event × Reply))
    → AreCalls k program number calls es → pushed k place calls ≤ length (fillers place es)
unfolding pushed same_place place_in
calls_write split k place program number [] es are = (let n = length (fillers place es) in omega arith)
calls_write split k place program number (x ∷ calls) es (first, rest, parts, is_call, others) =
    let more = calls_write split k place program (number + 1) calls rest others in
    let whole : length (fillers place es) ≡ length (fillers place first) + length (fillers place rest) =
    ap (λ xs. length (fillers place xs)) parts ∙ ap length (fillers_split split place first rest) ∙ length-append (fillers place first) (fillers place rest)
    in
    elim (is_at k place x) as (λ b. is_at k place x ≡ b → (if b then 1 else 0) + pushed k place calls ≤ length (fillers place es)) [
      | true ↦ (λ at.
          let one = writes_place k is_call.command first x.answer place is_call.recorded (answer_at place x.answer (and_parts (x.actor == k) (same_place place (place_in x.answer)) at).1) in
          omega arith)
      | false ↦ (λ _. omega arith)
    ]
    refl

-- ---- The writes of an actor, and those of all

-- how often an actor is among writers
abbrev how_often : ℕ → List ℕ → ℕ
how_often k writers = sum_by (λ writer. if writer == k then 1 else 0) writers

-- an event of an actor has no other filler
filler_own : (k place : ℕ) (event : Event) → actor_of event ≡ k
    → length (finishers_of (write_in place event)) ≤ how_often k (finishers_of (write_in place event))
filler_own k place (Claim actor n) its = omega arith
filler_own k place (Raise actor to) its = omega arith
filler_own k place (Finish actor at value) its =
    let itself : (actor == k) ≡ true = grind (arith, nat_tests) in
    elim (at == place) as (λ b. length (finishers_of (if b then Finish actor at value ∷ [] else [])) ≤ how_often k (finishers_of (if b then Finish actor at value ∷ [] else [])))
    [ true ↦ rw itself (omega arith) | false ↦ omega arith ]
filler_own k place (Break actor at) its =
    elim (at == place) as (λ b. length (finishers_of (if b then Break actor at ∷ [] else [])) ≤ how_often k (finishers_of (if b then Break actor at ∷ [] else [])))
    [ true ↦ omega arith | false ↦ omega arith ]
filler_own k place (Mend actor at) its =
    elim (at == place) as (λ b. length (finishers_of (if b then Mend actor at ∷ [] else [])) ≤ how_often k (finishers_of (if b then Mend actor at ∷ [] else [])))
    [ true ↦ omega arith | false ↦ omega arith ]
filler_own k place (Look actor at) its = omega arith
filler_own k place (Size actor) its = omega arith
filler_own k place (RefusedFull actor n) its = omega arith
filler_own k place (RefusedMemory actor) its = omega arith

-- the filler of an event, as often as it is this actor's
fills_own : (k place : ℕ) (es : List (Event × Reply)) → length (fillers place (events_of k es)) ≤ how_often k (fillers place es)
fills_own k place [] = omega arith
fills_own k place (e ∷ es) =
    let others = fills_own k place es in let own_fills : List ℕ = finishers_of (write_in place e.0) in
    let all : how_often k (fillers place (e ∷ es)) ≡ how_often k (own_fills ++ fillers place es) = ap (how_often k) (finishers_append (write_in place e.0) (writes_of place es)) in
    let whole : how_often k (own_fills ++ fillers place es) ≡ how_often k own_fills + how_often k (fillers place es) = sum_by-append (λ writer. if writer == k then 1 else 0) own_fills (fillers place es) in
    elim (actor_of e.0 == k) as (λ b. (actor_of e.0 == k) ≡ b → length (fillers place (if b then e ∷ events_of k es else events_of k es)) ≤ how_often k (fillers place (e ∷ es))) [
      | true ↦ (λ own.
          let parts : length (fillers place (e ∷ events_of k es)) ≡ length (own_fills ++ fillers place (events_of k es)) = ap length (finishers_append (write_in place e.0) (writes_of place (events_of k es))) in
          let count : length (own_fills ++ fillers place (events_of k es)) ≡ length own_fills + length (fillers place (events_of k es)) = length-append own_fills (fillers place (events_of k es)) in
          let first = filler_own k place e.0 (eqb-true (actor_of e.0) k own) in
          omega arith)
      | false ↦ (λ _. omega arith)
    ]
    refl

-- a place has one filler, if any
one_filler : (owner place : ℕ) (events : List Event) → IsWrittenFor owner place events
    → (finishers_of events ≡ []) ⊎ ((filler : ℕ) × (finishers_of events ≡ filler ∷ []))
one_filler owner place events (inl (value, is)) = inr (owner, ap finishers_of is)
one_filler owner place events (inr (inl is)) = inl (ap finishers_of is)
one_filler owner place events (inr (inr (inl (mender, is)))) = inl (ap finishers_of is)
one_filler owner place events (inr (inr (inr (mender, value, is)))) = inr (mender, ap finishers_of is)

-- who is no writer but one is that one
only_writer : (k owner : ℕ) → 1 ≤ how_often k (owner ∷ []) → k ≡ owner
only_writer k owner one =
    elim (eqb_tells owner k) [
      | inl same ↦ sym same.1
      | inr apart ↦ absurd (let none : how_often k (owner ∷ []) ≡ 0 = rw apart.0 refl in omega arith)
    ]

once_writer : (k owner : ℕ) → how_often k (owner ∷ []) ≤ 1
once_writer k owner =
    elim (owner == k) as (λ b. 0 + (if b then 1 else 0) ≤ 1) [ true ↦ omega arith | false ↦ omega arith ]

-- calls of a sequential play that ended at one place are one call
pub pushes_are_apart : WritesSplit → (limit : ℕ) (programs : List (List Command)) (p : Play) → IsSequential limit programs p
    → PushesAreApart p.ended
pushes_are_apart split limit programs p is i j place a b is_a is_b at_a at_b =
    let counted : (k : ℕ) → pushed k place p.ended ≤ how_often k (fillers place p.events) = λ k.
    let r = is.recorded k in
    let done = calls_write split k place (program_of programs k) 0 (calls_of k p.ended) r.done r.calls in
    let own = fills_own k place p.events in
    let parts : length (fillers place (events_of k p.events)) ≡ length (fillers place r.done) + length (fillers place r.begun) =
    ap (λ xs. length (fillers place xs)) r.whole ∙ ap length (fillers_split split place r.done r.begun) ∙ length-append (fillers place r.done) (fillers place r.begun)
    in
    let calls = pushed_own k place p.ended in
    omega arith
    in
    let one_a = pushed_once a.actor place p.ended i a is_a refl at_a in
    let one_b = pushed_once b.actor place p.ended j b is_b refl at_b in
    let nobody : fillers place p.events ≡ [] → i ≡ j = λ none. absurd (
    let most = counted a.actor in
    let nothing : how_often a.actor (fillers place p.events) ≡ 0 = ap (how_often a.actor) none in
    omega arith) in
    elim (is.tiled.filled_once place) [
      | inl none ↦ nobody (ap finishers_of none)
      | inr (owner, owns, written) ↦ elim (one_filler owner place (writes_of place p.events) written) [
        | inl none ↦ nobody none
        | inr (filler, once) ↦ (
            let most_a = counted a.actor in
            let most_b = counted b.actor in
            let all_a : how_often a.actor (fillers place p.events) ≡ how_often a.actor (filler ∷ []) = ap (how_often a.actor) once in
            let all_b : how_often b.actor (fillers place p.events) ≡ how_often b.actor (filler ∷ []) = ap (how_often b.actor) once in
            let a_is : a.actor ≡ filler = only_writer a.actor filler (omega arith) in
            let b_is : b.actor ≡ filler = only_writer b.actor filler (omega arith) in
            elim (pushed_twice a.actor place p.ended i j a b is_a is_b refl (b_is ∙ sym a_is) at_a at_b) [
              | inl same ↦ same
              | inr twice ↦ absurd (let single = once_writer a.actor filler in omega arith)
            ])
      ]
    ]

-- the same holds for the result of a play
pub pushes_of : (r : Result Played PlayError) (f limit : ℕ) (programs : List (List Command)) (items : List Item)
    → WritesSplit → EveryInterleavingIsSequential → IfOk r (λ played. played ≡ play_shown f limit programs items)
    → OnOk r (IsLayout f) → OnOk r (IsLimit limit) → OnOk r (AreSound programs) → IfOk r (λ played. PushesAreApart played.ended)
pushes_of (Ok played) f limit programs items split law is is_layout is_limit sound =
    subst (λ (x : Played). PushesAreApart x.ended) (sym is) (pushes_are_apart split limit programs (play_of f limit programs items) (law f is_layout limit programs items is_limit sound))
pushes_of (Err e) f limit programs items split law is is_layout is_limit sound = tt
