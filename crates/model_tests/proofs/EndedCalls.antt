-- Ended calls: they are the first ones of their programs, and the history has a reply for each result.
use Rattle.std.proofs.Common.{◌≡◌, ℕ, ◌+◌, List, [], ◌∷◌, Some, slice_get, zero, suc, refl, ap, sym, ◌∙◌, subst, arith, inl, inr}
use Rattle.std.specs.List.{Contains}
use Rattle.std.proofs.lemmas.List.Elements.{Contains-append_right}
use Rattle.std.proofs.lemmas.Option.{none-some, same_Some}
use Rattle.book_core.specs.declared.events.Event.{Event}
use Rattle.book_core.specs.declared.events.Event.TheVariants.{Claim, Raise, Look, Size, RefusedFull, RefusedMemory}
use Rattle.book_core.specs.declared.events.Reply.{Reply}
use Rattle.book_core.specs.declared.events.Reply.TheVariants as replies
use Rattle.book_core.specs.declared.commands.Command.{Command}
use Rattle.book_core.specs.declared.commands.Command.TheVariants as commands
use Rattle.book_core.specs.declared.commands.Answer.{Answer}
use Rattle.book_core.specs.declared.commands.Answer.TheVariants as answers
use Rattle.book_core.specs.declared.commands.Ended.{Ended}
use Rattle.book_core.specs.Commands.{calls_of}
use Rattle.book_core.specs.Events.{actor_of}
use Rattle.step_core.specs.machine.Play.{Play, play_of}
use Rattle.step_core.specs.machine.Record.{answer_to_look, answer_to_mend, IsRecord, AreCalls, program_of, AreRecorded, EveryPlayIsRecorded}
use Rattle.model_tests.specs.Places.{reply_in, CallsFollowThePrograms, AnswersAreReplies, OfEveryRecord}
use Rattle.model_tests.proofs.ReadValues.{Stands, stands_left, stands_right, stands_in, among_own}

-- ---- Which calls

-- each call of those from a number on is the one of its number
calls_follow : (actor : ℕ) (program : List Command) (number : ℕ) (calls : List Ended) (es : List (Event × Reply))
    (i : ℕ) (ended : Ended) → AreCalls actor program number calls es → slice_get calls i ≡ Some ended
    → (slice_get program (number + i) ≡ Some ended.command) × (ended.number ≡ number + i + 1)
calls_follow actor program number [] es i ended are is = absurd (none-some ended is)
calls_follow actor program number (x ∷ calls) es zero ended (first, rest, parts, is_call, others) is =
    let same : x ≡ ended = same_Some x ended is in
    let command : is_call.command ≡ ended.command = sym (ap (λ (y : Ended). y.command) is_call.is) ∙ ap (λ (y : Ended). y.command) same in
    let its : ended.number ≡ number + 1 = sym (ap (λ (y : Ended). y.number) same) ∙ ap (λ (y : Ended). y.number) is_call.is in
    let here : number + zero ≡ number = omega arith in
    (ap (slice_get program) here ∙ is_call.there ∙ ap Some command, omega arith)
calls_follow actor program number (x ∷ calls) es (suc i) ended (first, rest, parts, is_call, others) is =
    let later = calls_follow actor program (number + 1) calls rest i ended others is in
    let next : number + 1 + i ≡ number + suc i = omega arith in
    (ap (slice_get program) (sym next) ∙ later.0, (let a = later.1 in omega arith))

follow : (programs : List (List Command)) (p : Play) → AreRecorded programs p → CallsFollowThePrograms programs p
follow programs p recorded actor i ended is =
    let r = recorded actor in
    let its = calls_follow actor (program_of programs actor) 0 (calls_of actor p.ended) r.done i ended r.calls is in
    let here : 0 + i ≡ i = omega arith in
    (ap (slice_get (program_of programs actor)) (sym here) ∙ its.0, (let a = its.1 in omega arith))

pub calls_follow_the_programs : EveryPlayIsRecorded → OfEveryRecord CallsFollowThePrograms
calls_follow_the_programs law f is_layout limit programs items is_limit sound =
    follow programs (play_of f limit programs items) (law f is_layout limit programs items is_limit sound)

-- ---- The replies of the history

-- the answer to a read repeats the reply to its look
look_told : (shown : Reply) (answer : Answer) → answer_to_look shown ≡ Some answer → reply_in answer ≡ Some shown
look_told (replies.Run from n) answer is = absurd (none-some answer is)
look_told (replies.Enough size) answer is = absurd (none-some answer is)
look_told replies.Done answer is = absurd (none-some answer is)
look_told (replies.Value value) answer is = ap reply_in (sym (same_Some _ _ is))
look_told replies.Pending answer is = ap reply_in (sym (same_Some _ _ is))
look_told replies.Broken answer is = ap reply_in (sym (same_Some _ _ is))
look_told (replies.OutOfRange size) answer is = ap reply_in (sym (same_Some _ _ is))
look_told (replies.Size size) answer is = absurd (none-some answer is)
look_told (replies.Full size) answer is = absurd (none-some answer is)
look_told replies.NoMemory answer is = absurd (none-some answer is)

-- and so does that to a mend that found no broken place
mend_told : (shown : Reply) (answer : Answer) → answer_to_mend shown ≡ Some answer → reply_in answer ≡ Some shown
mend_told (replies.Run from n) answer is = absurd (none-some answer is)
mend_told (replies.Enough size) answer is = absurd (none-some answer is)
mend_told replies.Done answer is = absurd (none-some answer is)
mend_told (replies.Value value) answer is = ap reply_in (sym (same_Some _ _ is))
mend_told replies.Pending answer is = ap reply_in (sym (same_Some _ _ is))
mend_told replies.Broken answer is = absurd (none-some answer is)
mend_told (replies.OutOfRange size) answer is = ap reply_in (sym (same_Some _ _ is))
mend_told (replies.Size size) answer is = absurd (none-some answer is)
mend_told (replies.Full size) answer is = absurd (none-some answer is)
mend_told replies.NoMemory answer is = absurd (none-some answer is)

-- an event of the actor among these has this reply
abbrev IsTold : ℕ → List (Event × Reply) → Reply → Type 0
IsTold actor es reply = (event : Event) × (actor_of event ≡ actor) × Stands es (event, reply)

-- the first event of a record has the reply that the answer repeats
first_told : (actor : ℕ) (event : Event) (told reply : Reply) (es rest : List (Event × Reply)) (answer : Answer)
    → actor_of event ≡ actor → es ≡ (event, told) ∷ rest → reply_in answer ≡ Some told → reply_in answer ≡ Some reply
    → IsTold actor es reply
first_told actor event told reply es rest answer its parts is repeats =
    (event, its, record { before = []; after = rest; is = parts ∙ ap (λ r. (event, r) ∷ rest) (same_Some told reply (sym is ∙ repeats)) })

-- a call that returned a place repeats no reply
no_reply : {A : Type 0} (answer : Answer) (place : ℕ) (reply : Reply) → answer ≡ answers.At place
    → reply_in answer ≡ Some reply → A
no_reply answer place reply at repeats = absurd (none-some reply (sym (ap reply_in at) ∙ repeats))

record_told : (k : ℕ) (command : Command) (es : List (Event × Reply)) (answer : Answer) (reply : Reply)
    → IsRecord k command es answer → reply_in answer ≡ Some reply → IsTold k es reply
record_told k (commands.Push value) es answer reply is repeats = elim is [
  | inl grown ↦ no_reply answer grown.from reply grown.answered repeats
  | inr (inl full) ↦ first_told k (RefusedFull k 1) (replies.Full full.size) reply es [] answer refl full.events (ap reply_in full.answered) repeats
  | inr (inr memory) ↦ first_told k (RefusedMemory k) replies.NoMemory reply es [] answer refl memory.events (ap reply_in memory.answered) repeats
]
record_told k (commands.Grow n value) es answer reply is repeats = elim is [
  | inl grown ↦ first_told k (Claim k n) (replies.Run grown.from n) reply es _ answer refl grown.events (ap reply_in grown.answered) repeats
  | inr (inl full) ↦ first_told k (RefusedFull k n) (replies.Full full.size) reply es [] answer refl full.events (ap reply_in full.answered) repeats
  | inr (inr memory) ↦ first_told k (RefusedMemory k) replies.NoMemory reply es [] answer refl memory.events (ap reply_in memory.answered) repeats
]
record_told k (commands.AtLeast to value) es answer reply is repeats = elim is [
  | inl raised ↦ first_told k (Raise k to) (replies.Run raised.grown.from raised.n) reply es _ answer refl raised.grown.events (ap reply_in raised.grown.answered) repeats
  | inr (inl enough) ↦ first_told k (Raise k to) (replies.Enough enough.size) reply es [] answer refl enough.events (ap reply_in enough.answered) repeats
  | inr (inr (inl full)) ↦ first_told k _ (replies.Full full.size) reply es [] answer refl full.events (ap reply_in full.answered) repeats
  | inr (inr (inr memory)) ↦ first_told k (RefusedMemory k) replies.NoMemory reply es [] answer refl memory.events (ap reply_in memory.answered) repeats
]
record_told k (commands.Fail n value at) es answer reply is repeats = elim is [
  | inl grown ↦ first_told k (Claim k n) (replies.Run grown.from n) reply es _ answer refl grown.events (ap reply_in grown.answered) repeats
  | inr (inl full) ↦ first_told k (RefusedFull k n) (replies.Full full.size) reply es [] answer refl full.events (ap reply_in full.answered) repeats
  | inr (inr memory) ↦ first_told k (RefusedMemory k) replies.NoMemory reply es [] answer refl memory.events (ap reply_in memory.answered) repeats
]
record_told k (commands.Mend place value) es answer reply is repeats = elim is [
  | inl mended ↦ no_reply answer place reply mended.answered repeats
  | inr found ↦ first_told k (Look k place) found.reply reply es [] answer refl found.events (mend_told found.reply answer found.answered) repeats
]
record_told k (commands.Read place) es answer reply is repeats =
    first_told k (Look k place) is.reply reply es [] answer refl is.events (look_told is.reply answer is.answered) repeats
record_told k commands.Size es answer reply is repeats =
    first_told k (Size k) (replies.Size is.size) reply es [] answer refl is.events (ap reply_in is.answered) repeats

-- so the events of its actor have it
call_told : (k : ℕ) (program : List Command) (number : ℕ) (calls : List Ended) (es : List (Event × Reply)) (i : ℕ)
    (ended : Ended) (reply : Reply) → AreCalls k program number calls es → slice_get calls i ≡ Some ended
    → reply_in ended.answer ≡ Some reply → IsTold k es reply
call_told k program number [] es i ended reply are is repeats = absurd (none-some ended is)
call_told k program number (x ∷ calls) es zero ended reply (first, rest, parts, is_call, others) is repeats =
    let same : x ≡ ended = same_Some x ended is in
    let told = record_told k is_call.command first ended.answer reply
    (subst (λ (y : Ended). IsRecord k is_call.command first y.answer) same is_call.recorded) repeats in (
      told.0,
      told.1,
      subst (λ xs. Stands xs (told.0, reply)) (sym parts) (stands_left first rest (told.0, reply) told.2),
    )
call_told k program number (x ∷ calls) es (suc i) ended reply (first, rest, parts, is_call, others) is repeats =
    let told = call_told k program (number + 1) calls rest i ended reply others is repeats in (
      told.0,
      told.1,
      subst (λ xs. Stands xs (told.0, reply)) (sym parts) (stands_right first rest (told.0, reply) told.2),
    )

told : (programs : List (List Command)) (p : Play) → AreRecorded programs p → AnswersAreReplies programs p
told programs p recorded i ended reply there repeats =
    let k = ended.actor in
    let r = recorded k in
    let own = among_own p.ended i ended there in
    let found = call_told k (program_of programs k) 0 (calls_of k p.ended) r.done own.at ended reply r.calls own.is repeats in
    let e : Event × Reply = (found.0, reply) in
    let here : Stands p.events e = stands_in k p.events e (subst (λ xs. Stands xs e) (sym r.whole) (stands_left r.done r.begun e found.2)) in (
      found.0,
      found.1,
      subst (λ xs. Contains xs e) (sym here.is) (Contains-append_right here.before (e ∷ here.after) e (0, omega arith, refl)),
    )

pub answers_are_replies : EveryPlayIsRecorded → OfEveryRecord AnswersAreReplies
answers_are_replies law f is_layout limit programs items is_limit sound =
    told programs (play_of f limit programs items) (law f is_layout limit programs items is_limit sound)
