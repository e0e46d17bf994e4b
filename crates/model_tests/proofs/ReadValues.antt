-- A value that a read found was filled in once, by the owner of its place or by its mender, before that read.
use Rattle.std.proofs.Common.{◌≡◌, ◌⊎◌, ℕ, ◌+◌, ◌==◌, true, false, if◌then◌else◌, List, [], ◌∷◌, ◌++◌, get_or, Option, Some, None, Result, Ok, Err, IfOk, OnOk, slice_get, zero, suc, ap, sym, ◌∙◌, subst, append_assoc, inl, inr, arith}
use Rattle.std.proofs.lemmas.Bool.Decides.{nat_tests}
use Rattle.std.proofs.lemmas.Option.{none-some, same_Some}
use Rattle.book_core.specs.declared.events.Event.{Event}
use Rattle.book_core.specs.declared.events.Event.TheVariants.{Look}
use Rattle.book_core.specs.declared.events.Reply.{Reply}
use Rattle.book_core.specs.declared.events.Reply.TheVariants as replies
use Rattle.book_core.specs.declared.commands.Command.{Command}
use Rattle.book_core.specs.declared.commands.Command.TheVariants as commands
use Rattle.book_core.specs.declared.commands.Answer.{Answer}
use Rattle.book_core.specs.declared.commands.Answer.TheVariants as answers
use Rattle.book_core.specs.declared.commands.Ended.{Ended}
use Rattle.book_core.specs.declared.commands.Item.{Item}
use Rattle.seg_core.specs.Segment.{IsLayout, IsLimit}
use Rattle.book_core.specs.Cells.{empty_list}
use Rattle.book_core.specs.Commands.{AreSound, calls_of}
use Rattle.book_core.specs.Events.{actor_of}
use Rattle.book_core.specs.History.{IsHistory, events_of}
use Rattle.book_core.specs.Laws.{LooksTellTheWritersValue}
use Rattle.step_core.specs.declared.errors.PlayError.{PlayError}
use Rattle.step_core.specs.declared.programs.Played.{Played}
use Rattle.step_core.specs.machine.Play.{Play, play_of}
use Rattle.step_core.specs.machine.Work.{play_shown}
use Rattle.step_core.specs.machine.Legal.{list_seen}
use Rattle.step_core.specs.machine.Record.{answer_to_look, IsLook, IsRecord, AreCalls, program_of}
use Rattle.step_core.specs.machine.Headline.{IsSequential, EveryInterleavingIsSequential}
use Rattle.model_tests.specs.Uses.{ReadsTellTheWriters}

-- an event has a position in a history, between what came before and after it
pub record Stands (es : List (Event × Reply)) (e : Event × Reply) : Type 0 where
  pub before : List (Event × Reply)
  pub after : List (Event × Reply)
  pub is : es ≡ before ++ e ∷ after

-- it has a position in a longer one too
pub stands_left : (es fs : List (Event × Reply)) (e : Event × Reply) → Stands es e → Stands (es ++ fs) e
stands_left es fs e s = record { before = s.before; after = s.after ++ fs; is = ap (λ xs. xs ++ fs) s.is ∙ append_assoc s.before (e ∷ s.after) fs }

pub stands_right : (es fs : List (Event × Reply)) (e : Event × Reply) → Stands fs e → Stands (es ++ fs) e
stands_right es fs e s = record { before = es ++ s.before; after = s.after; is = ap (λ xs. es ++ xs) s.is ∙ sym (append_assoc es s.before (e ∷ s.after)) }

-- a list without its first member
rest_of : List (Event × Reply) → List (Event × Reply)
rest_of [] = []
rest_of (x ∷ xs) = xs

-- a list with a first member has an event there, or in what follows it
cons_parts : (x e : Event × Reply) (xs before after : List (Event × Reply)) → x ∷ xs ≡ before ++ e ∷ after
    → (x ≡ e) ⊎ Stands xs e
unfolding rest_of
cons_parts x e xs [] after is = inl (ap (λ l. get_or l 0 x) is)
cons_parts x e xs (b ∷ before) after is = inr (record { before = before; after = after; is = ap rest_of is })

-- a position among the events of an actor is one in the history
pub stands_in : (k : ℕ) (es : List (Event × Reply)) (e : Event × Reply) → Stands (events_of k es) e → Stands es e
unfolding rest_of
stands_in k [] e s = record { before = s.before; after = s.after; is = s.is }
stands_in k (x ∷ es) e s =
    elim (actor_of x.0 == k) as (λ b. Stands (if b then x ∷ events_of k es else events_of k es) e → Stands (x ∷ es) e) [
      | true ↦ (λ own. elim (cons_parts x e (events_of k es) own.before own.after own.is) [
        | inl same ↦ record { before = []; after = es; is = ap (λ y. y ∷ es) same }
        | inr later ↦ stands_right (x ∷ []) es e (stands_in k es e later)
      ])
      | false ↦ (λ other. stands_right (x ∷ []) es e (stands_in k es e other))
    ]
    s

-- the value of an answer that has one
value_in : Answer → Option ℕ
value_in (answers.At place) = None
value_in (answers.Run from n) = None
value_in (answers.Enough size) = None
value_in (answers.BrokenRun from n made) = None
value_in (answers.Full size) = None
value_in answers.NoMemory = None
value_in (answers.Value value) = Some value
value_in answers.Pending = None
value_in answers.Broken = None
value_in (answers.OutOfRange size) = None
value_in (answers.Size size) = None

-- the look of a read that found a value showed it
value_told : (reply : Reply) (value : ℕ) → answer_to_look reply ≡ Some (answers.Value value)
    → reply ≡ replies.Value value
unfolding value_in
value_told (replies.Run from n) value is = absurd (none-some _ is)
value_told (replies.Enough size) value is = absurd (none-some _ is)
value_told replies.Done value is = absurd (none-some _ is)
value_told (replies.Value told) value is = ap replies.Value (same_Some _ _ (ap value_in (same_Some _ _ is)))
value_told replies.Pending value is = absurd (none-some value (ap value_in (same_Some _ _ is)))
value_told replies.Broken value is = absurd (none-some value (ap value_in (same_Some _ _ is)))
value_told (replies.OutOfRange size) value is = absurd (none-some value (ap value_in (same_Some _ _ is)))
value_told (replies.Size size) value is = absurd (none-some _ is)
value_told (replies.Full size) value is = absurd (none-some _ is)
value_told replies.NoMemory value is = absurd (none-some _ is)

-- the look of a read stands among the events of its actor
call_looks : (k : ℕ) (program : List Command) (number : ℕ) (calls : List Ended) (es : List (Event × Reply))
    (i place value : ℕ) (ended : Ended)
    → AreCalls k program number calls es → slice_get calls i ≡ Some ended → ended.command ≡ commands.Read place
    → ended.answer ≡ answers.Value value → Stands es (Look k place, replies.Value value)
call_looks k program number [] es i place value ended are is reads told = absurd (none-some ended is)
call_looks k program number (x ∷ calls) es zero place value ended (first, rest, parts, is_call, others) is reads told =
    let same : x ≡ ended = same_Some x ended is in
    let command : is_call.command ≡ commands.Read place = sym (ap (λ (y : Ended). y.command) is_call.is) ∙ ap (λ (y : Ended). y.command) same ∙ reads in
    let answer : x.answer ≡ answers.Value value = ap (λ (y : Ended). y.answer) same ∙ told in
    let look : IsLook k place first (answers.Value value) = subst (λ c. IsRecord k c first (answers.Value value)) command (subst (IsRecord k is_call.command first) answer is_call.recorded) in
    let event : first ≡ (Look k place, replies.Value value) ∷ [] = look.events ∙ ap (λ r. (Look k place, r) ∷ []) (value_told look.reply value look.answered) in
    subst (λ xs. Stands xs (Look k place, replies.Value value)) (sym parts)
    (stands_left first rest (Look k place, replies.Value value) (record { before = []; after = []; is = event }))
call_looks k program number (x ∷ calls) es (suc i) place value ended (first, rest, parts, is_call, others) is reads told =
    subst (λ xs. Stands xs (Look k place, replies.Value value)) (sym parts)
    (stands_right first rest (Look k place, replies.Value value) (call_looks k program (number + 1) calls rest i place value ended others is reads told))

-- a call is among those of its actor
pub record IsAmong (calls : List Ended) (ended : Ended) : Type 0 where
  pub at : ℕ
  pub is : slice_get calls at ≡ Some ended

pub among_own : (calls : List Ended) (i : ℕ) (ended : Ended) → slice_get calls i ≡ Some ended
    → IsAmong (calls_of ended.actor calls) ended
among_own [] i ended is = absurd (none-some ended is)
among_own (x ∷ calls) zero ended is =
    let same : x ≡ ended = same_Some x ended is in
    let own : (x.actor == ended.actor) ≡ true = (let e : x.actor ≡ ended.actor = ap (λ (y : Ended). y.actor) same in grind (arith, nat_tests)) in
    record { at = 0; is = rw own (ap Some same) }
among_own (x ∷ calls) (suc i) ended is =
    let others = among_own calls i ended is in
    elim (x.actor == ended.actor) as (λ b. IsAmong (if b then x ∷ calls_of ended.actor calls else calls_of ended.actor calls) ended)
    [ true ↦ record { at = suc others.at; is = others.is } | false ↦ others ]

pub reads_tell : (limit : ℕ) (programs : List (List Command)) (p : Play) → IsSequential limit programs p
    → LooksTellTheWritersValue → ReadsTellTheWriters p.ended p.events
reads_tell limit programs p is law i place value ended there reads told =
    let r = is.recorded ended.actor in
    let own = among_own p.ended i ended there in
    let e : Event × Reply = (Look ended.actor place, replies.Value value) in
    let looked : Stands r.done e = call_looks ended.actor (program_of programs ended.actor) 0 (calls_of ended.actor p.ended) r.done own.at place value ended r.calls own.is reads told in
    let here : Stands p.events e = stands_in ended.actor p.events e (subst (λ xs. Stands xs e) (sym r.whole) (stands_left r.done r.begun e looked)) in
    record {
      before = here.before;
      after = here.after;
      look = here.is;
      filled = law limit (list_seen limit p) here.before here.after ended.actor place value (subst (λ xs. IsHistory (empty_list limit) xs (list_seen limit p)) here.is is.legal);
    }

-- the same holds for the result of a play
pub reads_of : (r : Result Played PlayError) (f limit : ℕ) (programs : List (List Command)) (items : List Item)
    → EveryInterleavingIsSequential → LooksTellTheWritersValue
    → IfOk r (λ played. played ≡ play_shown f limit programs items) → OnOk r (IsLayout f) → OnOk r (IsLimit limit)
    → OnOk r (AreSound programs) → IfOk r (λ played. ReadsTellTheWriters played.ended played.events)
reads_of (Ok played) f limit programs items law looks is is_layout is_limit sound =
    subst (λ (x : Played). ReadsTellTheWriters x.ended x.events) (sym is) (reads_tell limit programs (play_of f limit programs items) (law f is_layout limit programs items is_limit sound) looks)
reads_of (Err e) f limit programs items law looks is is_layout is_limit sound = tt
