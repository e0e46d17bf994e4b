-- What a place holds in every later configuration: a value that was put there, or, until a mend, nothing.
use Rattle.std.proofs.Common.{◌≡◌, ◌⊎◌, ℕ, ◌+◌, ◌==◌, true, false, if◌then◌else◌, List, [], ◌∷◌, Option, Some, None, slice_get, zero, suc, refl, ap, sym, ◌∙◌, subst, arith, inl, inr}
use Rattle.std.specs.List.{Contains}
use Rattle.std.proofs.lemmas.Bool.{eqb-true}
use Rattle.std.proofs.lemmas.Bool.Decides.{nat_tests}
use Rattle.std.proofs.lemmas.List.Elements.{Contains-append_left, Contains-append_right}
use Rattle.std.proofs.lemmas.Option.{none-some, same_Some}
use Rattle.book_core.specs.declared.events.Event.{Event}
use Rattle.book_core.specs.declared.events.Event.TheVariants.{Claim, Raise, Finish, Break, Mend, Look, Size, RefusedFull, RefusedMemory}
use Rattle.book_core.specs.declared.events.Reply.{Reply}
use Rattle.book_core.specs.declared.events.Reply.TheVariants as replies
use Rattle.book_core.specs.declared.commands.Command.{Command}
use Rattle.book_core.specs.declared.commands.Command.TheVariants as commands
use Rattle.book_core.specs.declared.commands.Answer.{Answer}
use Rattle.book_core.specs.declared.commands.Answer.TheVariants as answers
use Rattle.book_core.specs.declared.commands.Ended.{Ended}
use Rattle.book_core.specs.Cells.{empty_list}
use Rattle.book_core.specs.Commands.{calls_of}
use Rattle.book_core.specs.Events.{write_in}
use Rattle.book_core.specs.History.{writes_of}
use Rattle.book_core.specs.Laws.{FinishesFill}
use Rattle.step_core.specs.machine.Headline.{EveryInterleavingIsSequential}
use Rattle.step_core.specs.machine.Kept.{FilledCellsAreKept, BrokenCellsAreKept, EveryPlayKeepsFilledCells, EveryPlayKeepsBrokenCells}
use Rattle.step_core.specs.machine.Legal.{IsLegal, list_seen, EveryPlayIsLegal}
use Rattle.step_core.specs.machine.Play.{Play, after_items, play_of}
use Rattle.step_core.specs.machine.Record.{AreRecorded, IsRecord, AreCalls, program_of, EveryPlayIsRecorded}
use Rattle.step_core.specs.machine.Tiling.{FilledOnce, IsWrittenFor, EveryPlayIsTiled}
use Rattle.model_tests.specs.Places.{OfEveryPlay, OfEverySoundPlay, IsMendedOnce, MendedPlacesAreTheMenders, MendersValuesStay, Puts, AnsweredPlacesKeepTheValue, BrokenPlacesWaitForAMend}
use Rattle.model_tests.proofs.PushPlaces.{place_in, other_answer, no_place_found}
use Rattle.model_tests.proofs.ReadValues.{Stands, stands_left, stands_right, stands_in, among_own}

-- ---- Members of a list

pub first_or_later : {X : Type 0} (x y : X) (xs : List X) → Contains (x ∷ xs) y → (x ≡ y) ⊎ Contains xs y
first_or_later x y xs (zero, inside, is) = inl is
first_or_later x y xs (suc i, inside, is) = inr (i, omega arith, is)

pub none_inside : {X A : Type 0} (y : X) → Contains [] y → A
none_inside y (i, inside, is) = absurd (omega arith)

-- ---- Mends

-- who mends this place by an event
mender_in : ℕ → Event → Option ℕ
mender_in place (Claim actor n) = None
mender_in place (Raise actor to) = None
mender_in place (Finish actor at value) = None
mender_in place (Break actor at) = None
mender_in place (Mend actor at) = if at == place then Some actor else None
mender_in place (Look actor at) = None
mender_in place (Size actor) = None
mender_in place (RefusedFull actor n) = None
mender_in place (RefusedMemory actor) = None

mends : (actor place : ℕ) → mender_in place (Mend actor place) ≡ Some actor
unfolding mender_in
mends actor place = (let itself : (place == place) ≡ true = grind (arith, nat_tests) in ap (λ b. if b then Some actor else None) itself)

-- an event that mends no place is no Mend of it
no_mend : {A : Type 0} (event : Event) (mender place : ℕ) → mender_in place event ≡ None → event ≡ Mend mender place → A
no_mend event mender place none is = absurd (none-some mender (sym none ∙ ap (mender_in place) is ∙ mends mender place))

-- an event that mends the place is its Mend
is_mend : (event : Event) (mender place : ℕ) → mender_in place event ≡ Some mender → event ≡ Mend mender place
unfolding mender_in
is_mend (Claim actor n) mender place is = absurd (none-some mender is)
is_mend (Raise actor to) mender place is = absurd (none-some mender is)
is_mend (Finish actor at value) mender place is = absurd (none-some mender is)
is_mend (Break actor at) mender place is = absurd (none-some mender is)
is_mend (Mend actor at) mender place is =
    elim (at == place) as (λ b. (at == place) ≡ b → (if b then Some actor else None) ≡ Some mender → Mend actor at ≡ Mend mender place) [
      | true ↦ (λ here by. ap (λ q. Mend actor q) (eqb-true at place here) ∙ ap (λ a. Mend a place) (same_Some actor mender by))
      | false ↦ (λ _ by. absurd (none-some mender by))
    ]
    refl is
is_mend (Look actor at) mender place is = absurd (none-some mender is)
is_mend (Size actor) mender place is = absurd (none-some mender is)
is_mend (RefusedFull actor n) mender place is = absurd (none-some mender is)
is_mend (RefusedMemory actor) mender place is = absurd (none-some mender is)

-- somebody mended the place by these events, or nobody did
mended_or_not : (place : ℕ) (events : List Event)
    → ((mender : ℕ) × Contains events (Mend mender place)) ⊎ ((actor : ℕ) → Contains events (Mend actor place) → ⊥)
mended_or_not place [] = inr (λ actor is. none_inside (Mend actor place) is)
mended_or_not place (event ∷ events) =
    elim (mender_in place event) as (λ o. mender_in place event ≡ o → ((mender : ℕ) × Contains (event ∷ events) (Mend mender place)) ⊎ ((actor : ℕ) → Contains (event ∷ events) (Mend actor place) → ⊥)) [
      | Some mender ↦ (λ by. inl (mender, (0, omega arith, is_mend event mender place by)))
      | None ↦ (λ none. elim (mended_or_not place events) [
        | inl (mender, later) ↦ inl (mender, Contains-append_right (event ∷ []) events (Mend mender place) later)
        | inr never ↦ inr (λ actor is. elim (first_or_later event (Mend actor place) events is) [
          | inl first ↦ no_mend event actor place none first
          | inr later ↦ never actor later
        ])
      ])
    ]
    refl

-- ---- Places that were mended

-- of events at a place where none is a Mend after the first of a Break
mended_in : (owner place mender other : ℕ) (after : List Event)
    → Contains (Break owner place ∷ Mend other place ∷ after) (Mend mender place)
    → ((actor : ℕ) → Contains after (Mend actor place) → ⊥) → other ≡ mender
unfolding mender_in
mended_in owner place mender other after is never =
    elim (first_or_later (Break owner place) (Mend mender place) (Mend other place ∷ after) is) [
      | inl first ↦ no_mend (Break owner place) mender place refl first
      | inr later ↦ elim (first_or_later (Mend other place) (Mend mender place) after later) [
        | inl second ↦ same_Some other mender (sym (mends other place) ∙ ap (mender_in place) second ∙ mends mender place)
        | inr third ↦ absurd (never mender third)
      ]
    ]

mended_once : (owner place : ℕ) (events : List Event) (mender : ℕ) → IsWrittenFor owner place events
    → Contains events (Mend mender place) → IsMendedOnce events mender place
unfolding mender_in
mended_once owner place events mender (inl (value, is)) mended =
    elim (first_or_later (Finish owner place value) (Mend mender place) [] (subst (λ es. Contains es (Mend mender place)) is mended))
    [ inl first ↦ no_mend (Finish owner place value) mender place refl first | inr later ↦ none_inside (Mend mender place) later ]
mended_once owner place events mender (inr (inl is)) mended =
    elim (first_or_later (Break owner place) (Mend mender place) [] (subst (λ es. Contains es (Mend mender place)) is mended))
    [ inl first ↦ no_mend (Break owner place) mender place refl first | inr later ↦ none_inside (Mend mender place) later ]
mended_once owner place events mender (inr (inr (inl (other, is)))) mended =
    let same = mended_in owner place mender other [] (subst (λ es. Contains es (Mend mender place)) is mended) (λ actor later. none_inside (Mend actor place) later) in
    record { owner = owner; after = []; is = is ∙ ap (λ m. Break owner place ∷ Mend m place ∷ []) same; filled = inl refl }
mended_once owner place events mender (inr (inr (inr (other, value, is)))) mended =
    let same = mended_in owner place mender other (Finish other place value ∷ []) (subst (λ es. Contains es (Mend mender place)) is mended)
    (λ actor later. elim (first_or_later (Finish other place value) (Mend actor place) [] later)
    [ inl first ↦ no_mend (Finish other place value) actor place refl first | inr past ↦ none_inside (Mend actor place) past ]) in
    record {
      owner = owner;
      after = Finish mender place value ∷ [];
      is = is ∙ ap (λ m. Break owner place ∷ Mend m place ∷ Finish m place value ∷ []) same;
      filled = inr (value, refl);
    }

menders_place : (p : Play) → FilledOnce p → MendedPlacesAreTheMenders p
menders_place p once mender place mended = elim (once place) [
  | inl none ↦ none_inside (Mend mender place) (subst (λ es. Contains es (Mend mender place)) none mended)
  | inr (owner, owns, written) ↦ mended_once owner place (writes_of place p.events) mender written mended
]

pub mended_places_are_the_menders : EveryPlayIsTiled → OfEveryPlay MendedPlacesAreTheMenders
mended_places_are_the_menders law f is_layout limit programs items is_limit =
    menders_place (play_of f limit programs items) (law f is_layout limit programs items is_limit).filled_once

-- ---- Values

-- who fills a place by an event
filler_in : Event → Option ℕ
filler_in (Claim actor n) = None
filler_in (Raise actor to) = None
filler_in (Finish actor at value) = Some actor
filler_in (Break actor at) = None
filler_in (Mend actor at) = None
filler_in (Look actor at) = None
filler_in (Size actor) = None
filler_in (RefusedFull actor n) = None
filler_in (RefusedMemory actor) = None

no_finish : {A : Type 0} (event : Event) (filler place value : ℕ) → filler_in event ≡ None → event ≡ Finish filler place value → A
unfolding filler_in
no_finish event filler place value none is = absurd (none-some filler (sym none ∙ ap filler_in is))

-- an event that fills a place is among what was done there
pub finish_written : (es : List (Event × Reply)) (filler place value : ℕ) (reply : Reply)
    → Contains es (Finish filler place value, reply) → Contains (writes_of place es) (Finish filler place value)
finish_written [] filler place value reply is = none_inside (Finish filler place value, reply) is
finish_written (e ∷ es) filler place value reply is =
    let itself : (place == place) ≡ true = grind (arith, nat_tests) in
    elim (first_or_later e (Finish filler place value, reply) es is) [
      | inl first ↦ Contains-append_left (write_in place e.0) (writes_of place es) (Finish filler place value)
          (subst (λ (x : Event × Reply). Contains (write_in place x.0) (Finish filler place value)) (sym first) (rw itself (0, omega arith, refl)))
      | inr later ↦ Contains-append_right (write_in place e.0) (writes_of place es) (Finish filler place value) (finish_written es filler place value reply later)
    ]

-- who fills a place that was mended is who mended it
filled_by_mender : (writes : List Event) (mender filler place value : ℕ) → IsMendedOnce writes mender place
    → Contains writes (Finish filler place value) → filler ≡ mender
unfolding filler_in
filled_by_mender writes mender filler place value once filled =
    let finish = Finish filler place value in
    elim (first_or_later (Break once.owner place) finish (Mend mender place ∷ once.after) (subst (λ es. Contains es finish) once.is filled)) [
      | inl first ↦ no_finish (Break once.owner place) filler place value refl first
      | inr later ↦ elim (first_or_later (Mend mender place) finish once.after later) [
        | inl second ↦ no_finish (Mend mender place) filler place value refl second
        | inr third ↦ elim once.filled [
          | inl none ↦ none_inside finish (subst (λ es. Contains es finish) none third)
          | inr (held, is) ↦ elim (first_or_later (Finish mender place held) finish [] (subst (λ es. Contains es finish) is third))
              [ inl same ↦ sym (same_Some mender filler (ap filler_in same)) | inr past ↦ none_inside finish past ]
        ]
      ]
    ]

menders_value : (limit : ℕ) (p : Play) → FinishesFill → FilledOnce p → IsLegal limit p → FilledCellsAreKept p → MendersValuesStay p
menders_value limit p law once legal kept mender filler place value more mended filled = (
  filled_by_mender (writes_of place p.events) mender filler place value (menders_place p once mender place mended)
      (finish_written p.events filler place value replies.Done filled),
  kept more place value (law (empty_list limit) (list_seen limit p) p.events filler place value legal filled),
)

pub menders_values_stay : FinishesFill → EveryPlayIsTiled → EveryPlayIsLegal → EveryPlayKeepsFilledCells → OfEveryPlay MendersValuesStay
menders_values_stay law tiling legal kept f is_layout limit programs items is_limit =
    menders_value limit (play_of f limit programs items) law (tiling f is_layout limit programs items is_limit).filled_once
    (legal f is_layout limit programs items is_limit) (kept f is_layout limit programs items is_limit)

-- ---- What a call has put

-- the record of a call that puts a value has its Finish at the place that it returns
record_puts : (k : ℕ) (command : Command) (es : List (Event × Reply)) (answer : Answer) (place value : ℕ) → IsRecord k command es answer
    → Puts command value → answer ≡ answers.At place → Stands es (Finish k place value, replies.Done)
unfolding place_in
record_puts k command es answer place value is (inl pushes) at =
    let push : IsRecord k (commands.Push value) es answer = subst (λ c. IsRecord k c es answer) pushes is in
    elim push [
      | inl grown ↦ (
          let same : grown.from ≡ place = same_Some _ _ (sym (ap place_in grown.answered) ∙ ap place_in at) in
          subst (λ q. Stands es (Finish k q value, replies.Done)) same
          (record { before = (Claim k 1, replies.Run grown.from 1) ∷ []; after = []; is = grown.events }))
      | inr (inl full) ↦ other_answer answer _ place at full.answered refl
      | inr (inr memory) ↦ other_answer answer _ place at memory.answered refl
    ]
record_puts k command es answer place value is (inr (mends_at, mends)) at =
    let mend : IsRecord k (commands.Mend mends_at value) es answer = subst (λ c. IsRecord k c es answer) mends is in
    elim mend [
      | inl mended ↦ (
          let same : mends_at ≡ place = same_Some _ _ (sym (ap place_in mended.answered) ∙ ap place_in at) in
          subst (λ q. Stands es (Finish k q value, replies.Done)) same
          (record { before = (Mend k mends_at, replies.Done) ∷ []; after = []; is = mended.events }))
      | inr found ↦ absurd (no_place_found found.reply place (found.answered ∙ ap Some at))
    ]

-- so the events of its actor have it
call_puts : (k : ℕ) (program : List Command) (number : ℕ) (calls : List Ended) (es : List (Event × Reply))
    (i place value : ℕ) (ended : Ended)
    → AreCalls k program number calls es → slice_get calls i ≡ Some ended → Puts ended.command value
    → ended.answer ≡ answers.At place → Stands es (Finish k place value, replies.Done)
call_puts k program number [] es i place value ended are is puts at = absurd (none-some ended is)
call_puts k program number (x ∷ calls) es zero place value ended (first, rest, parts, is_call, others) is puts at =
    let same : x ≡ ended = same_Some x ended is in
    let command : is_call.command ≡ ended.command = sym (ap (λ (y : Ended). y.command) is_call.is) ∙ ap (λ (y : Ended). y.command) same in
    let recorded : IsRecord k ended.command first ended.answer =
    subst (λ c. IsRecord k c first ended.answer) command (subst (λ (y : Ended). IsRecord k is_call.command first y.answer) same is_call.recorded) in
    subst (λ xs. Stands xs (Finish k place value, replies.Done)) (sym parts)
    (stands_left first rest (Finish k place value, replies.Done) (record_puts k ended.command first ended.answer place value recorded puts at))
call_puts k program number (x ∷ calls) es (suc i) place value ended (first, rest, parts, is_call, others) is puts at =
    subst (λ xs. Stands xs (Finish k place value, replies.Done)) (sym parts)
    (stands_right first rest (Finish k place value, replies.Done) (call_puts k program (number + 1) calls rest i place value ended others is puts at))

-- a member of a history, by its position
stands_inside : (es : List (Event × Reply)) (e : Event × Reply) → Stands es e → Contains es e
stands_inside es e s =
    subst (λ xs. Contains xs e) (sym s.is) (Contains-append_right s.before (e ∷ s.after) e (0, omega arith, refl))

kept_answer : (limit : ℕ) (programs : List (List Command)) (p : Play) → FinishesFill → AreRecorded programs p
    → IsLegal limit p → FilledCellsAreKept p → AnsweredPlacesKeepTheValue p
kept_answer limit programs p law recorded legal kept i place value ended more there puts at =
    let k = ended.actor in
    let r = recorded k in
    let own = among_own p.ended i ended there in
    let e : Event × Reply = (Finish k place value, replies.Done) in
    let put : Stands r.done e = call_puts k (program_of programs k) 0 (calls_of k p.ended) r.done own.at place value ended r.calls own.is puts at in
    let here : Stands p.events e = stands_in k p.events e (subst (λ xs. Stands xs e) (sym r.whole) (stands_left r.done r.begun e put)) in
    kept more place value (law (empty_list limit) (list_seen limit p) p.events k place value legal (stands_inside p.events e here))

pub answered_places_keep_the_value : FinishesFill → EveryInterleavingIsSequential → OfEverySoundPlay AnsweredPlacesKeepTheValue
answered_places_keep_the_value fills law f is_layout limit programs items is_limit sound =
    let is = law f is_layout limit programs items is_limit sound in
    kept_answer limit programs (play_of f limit programs items) fills is.recorded is.legal is.kept

-- so it is by the parts of the headline, each a law
pub answered_places_by_parts : FinishesFill → EveryPlayIsRecorded → EveryPlayIsLegal → EveryPlayKeepsFilledCells
    → OfEverySoundPlay AnsweredPlacesKeepTheValue
answered_places_by_parts fills records legal kept f is_layout limit programs items is_limit sound =
    kept_answer limit programs (play_of f limit programs items) fills (records f is_layout limit programs items is_limit sound)
    (legal f is_layout limit programs items is_limit) (kept f is_layout limit programs items is_limit)

-- ---- Broken places

broken_waits : (p : Play) → BrokenCellsAreKept p → BrokenPlacesWaitForAMend p
broken_waits p kept place more here = elim (mended_or_not place (writes_of place (after_items p more).events)) [
  | inl mended ↦ inr mended
  | inr never ↦ inl (kept more place never here)
]

pub broken_places_wait : EveryPlayKeepsBrokenCells → OfEveryPlay BrokenPlacesWaitForAMend
broken_places_wait law f is_layout limit programs items is_limit =
    broken_waits (play_of f limit programs items) (law f is_layout limit programs items is_limit)

pub broken_places_of_headline_wait : EveryInterleavingIsSequential → OfEverySoundPlay BrokenPlacesWaitForAMend
broken_places_of_headline_wait law f is_layout limit programs items is_limit sound =
    broken_waits (play_of f limit programs items) (law f is_layout limit programs items is_limit sound).stays_broken
