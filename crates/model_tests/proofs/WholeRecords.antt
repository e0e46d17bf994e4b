-- The events of an actor that has done nothing of its call under way.
use Rattle.std.proofs.Common.{◌≡◌, ◌≢◌, ℕ, ◌+◌, List, [], ◌∷◌, ◌++◌, length, suc, refl, ap, sym, ◌∙◌, subst, arith, IfSome}
use Rattle.std.proofs.lemmas.List.{append-nil, length-append}
use Rattle.book_core.specs.declared.commands.Command.{Command}
use Rattle.book_core.specs.declared.commands.Command.TheVariants as commands
use Rattle.book_core.specs.Commands.{calls_of}
use Rattle.book_core.specs.History.{events_of}
use Rattle.step_core.specs.declared.machine.phase.Actor.{Actor}
use Rattle.step_core.specs.machine.Play.{Play, play_of}
use Rattle.step_core.specs.machine.Record.{IsLook, AreCalls, IsBegun, IsUnderWay, AreSoFar, IsRecorded, program_of, AreRecorded, EveryPlayIsRecorded}
use Rattle.model_tests.specs.Places.{HasWholeRecords, HaveWholeRecordsAtLoad, HaveWholeRecordsWhileReading, OfEveryRecord}

-- an actor that has begun nothing has the records of its ended calls alone
whole_record : (programs : List (List Command)) (p : Play) (actor : ℕ) (r : IsRecorded p actor (program_of programs actor))
    → r.begun ≡ [] → HasWholeRecords programs p actor
whole_record programs p actor r none =
    let same : events_of actor p.events ≡ r.done = r.whole ∙ ap (λ xs. r.done ++ xs) none ∙ append-nil r.done in
    subst (λ es. AreCalls actor (program_of programs actor) 0 (calls_of actor p.ended) es) (sym same) r.calls

whole_at_load : (programs : List (List Command)) (p : Play) → AreRecorded programs p → HaveWholeRecordsAtLoad programs p
whole_at_load programs p recorded actor state there at_load =
    let r = recorded actor in
    let so_far : AreSoFar state.phase r.begun = subst (λ o. IfSome o (λ (s : Actor). AreSoFar s.phase r.begun)) there r.so_far in
    whole_record programs p actor r (subst (λ phase. AreSoFar phase r.begun) at_load so_far)

pub records_are_whole_at_load : EveryPlayIsRecorded → OfEveryRecord HaveWholeRecordsAtLoad
records_are_whole_at_load law f is_layout limit programs items is_limit sound =
    whole_at_load programs (play_of f limit programs items) (law f is_layout limit programs items is_limit sound)

-- of one member the proper part at the front is empty
front_of_one : {X : Type 0} (xs ys : List X) (z : X) → xs ++ ys ≡ z ∷ [] → ys ≢ [] → xs ≡ []
front_of_one [] ys z is some = refl
front_of_one (x ∷ xs) [] z is some = absurd (some refl)
front_of_one (x ∷ xs) (y ∷ ys) z is some =
    absurd (
    let whole : suc (length (xs ++ y ∷ ys)) ≡ 1 = ap length is in
    let parts : length (xs ++ y ∷ ys) ≡ length xs + suc (length ys) = length-append xs (y ∷ ys) in
    omega arith)

whole_while_reading : (programs : List (List Command)) (p : Play) → AreRecorded programs p
    → HaveWholeRecordsWhileReading programs p
whole_while_reading programs p recorded actor place call =
    let r = recorded actor in
    let begun : IsBegun actor (commands.Read place) r.begun = subst (λ o. IsUnderWay actor o r.begun) call r.under_way in
    let look : IsLook actor place (r.begun ++ begun.rest) begun.answer = begun.recorded in
    whole_record programs p actor r (front_of_one r.begun begun.rest _ look.events begun.proper)

pub records_are_whole_while_reading : EveryPlayIsRecorded → OfEveryRecord HaveWholeRecordsWhileReading
records_are_whole_while_reading law f is_layout limit programs items is_limit sound =
    whole_while_reading programs (play_of f limit programs items) (law f is_layout limit programs items is_limit sound)
