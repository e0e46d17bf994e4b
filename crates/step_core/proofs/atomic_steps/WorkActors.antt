-- Counts are of actors that have programs.
use Rattle.std.proofs.Common.{◌≡◌, ℕ, ◌<◌, ◌∷◌, List, [], length, map, ap, sym, subst, Result, Ok, Err, IfOk}
use Rattle.std.proofs.lemmas.List.Elements.{All-nil, All-cons, All-head, All-tail}
use Rattle.seg_core.specs.Segment.{IsLayout, IsLimit}
use Rattle.book_core.specs.declared.commands.Command.{Command}
use Rattle.book_core.specs.declared.commands.Item.{Item}
use Rattle.book_core.specs.declared.commands.Ended.{Ended}
use Rattle.book_core.specs.declared.commands.Work.{Work}
use Rattle.book_core.specs.Commands.{HavePrograms, HaveActors}
use Rattle.step_core.specs.declared.programs.Played.{Played}
use Rattle.step_core.specs.machine.Work.{CallWork, AreOfActors, counted_of, work_in, play_shown}
use Rattle.step_core.proofs.atomic_steps.Owners.{play_actors}
use Rattle.step_core.proofs.atomic_steps.Bounded.{every_call_is_bounded}

of_calls : (count : ℕ) (calls : List CallWork) → HaveActors count (map (λ (call : CallWork). call.ended) calls)
    → AreOfActors count (map work_in calls)
of_calls count [] have = All-nil _
of_calls count (call ∷ calls) have =
    let P = λ (ended : Ended). ended.actor < count in
    All-cons (λ (w : Work). w.actor < count) (work_in call) (map work_in calls)
    (All-head P call.ended (map (λ (c : CallWork). c.ended) calls) have)
    (of_calls count calls (All-tail P call.ended (map (λ (c : CallWork). c.ended) calls) have))

pub work_actors : {E : Type 0} (f limit : ℕ) (programs : List (List Command)) (items : List Item) (result : Result Played E)
    → IsLayout f → IsLimit limit → HavePrograms programs items
    → IfOk result (λ played. played ≡ play_shown f limit programs items) → IfOk result (λ played. AreOfActors (length programs) played.work)
work_actors f limit programs items (Ok played) is_layout is_limit have is =
    let counts = (every_call_is_bounded f is_layout limit programs items is_limit).0 in
    let ended : HaveActors (length programs) (map (λ (call : CallWork). call.ended) (counted_of f limit programs items).calls) =
    subst (HaveActors (length programs)) (sym counts.calls) (play_actors f limit programs items have) in
    subst (AreOfActors (length programs)) (sym (ap (λ (p : Played). p.work) is)) (of_calls (length programs) (counted_of f limit programs items).calls ended)
work_actors f limit programs items (Err e) is_layout is_limit have is = tt
