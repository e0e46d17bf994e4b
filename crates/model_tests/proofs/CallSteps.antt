-- The number of steps that calls take, by the growths of others.
use Rattle.std.proofs.Common.{◌≡◌, ℕ, ◌+◌, ◌-◌, ◌*◌, ◌≤◌, ◌==◌, ◌&&◌, nat_lt, not, List, [], ◌∷◌, ◌++◌, length, map, take, drop, All, Some, Result, Ok, Err, IfOk, OnOk, slice_get, zero, suc, refl, ap, sym, ◌∙◌, subst, arith}
use Rattle.std.specs.List.{filter}
use Rattle.std.specs.Option.{option_map}
use Rattle.std.proofs.lemmas.List.{length-append, take-append-drop}
use Rattle.std.proofs.lemmas.List.Elements.{All-weaker, All-get_or, filter-append}
use Rattle.std.proofs.lemmas.Nat.{mul-le}
use Rattle.std.proofs.lemmas.Option.{none-some, same_Some, slice_get-map, slice_get_within, get_or_from_slice_get}
use Rattle.seg_core.specs.Segment.{IsLayout, IsLimit, segment_of}
use Rattle.book_core.specs.declared.events.Event.{Event}
use Rattle.book_core.specs.declared.events.Reply.{Reply}
use Rattle.book_core.specs.declared.commands.Command.{Command}
use Rattle.book_core.specs.declared.commands.Command.TheVariants as commands
use Rattle.book_core.specs.declared.commands.Ended.{Ended}
use Rattle.book_core.specs.declared.commands.Item.{Item}
use Rattle.book_core.specs.declared.commands.Work.{Work}
use Rattle.book_core.specs.History.{OwnedRun, runs_of}
use Rattle.book_core.specs.Laws.{RunsSplit}
use Rattle.step_core.specs.declared.errors.PlayError.{PlayError}
use Rattle.step_core.specs.declared.programs.Played.{Played}
use Rattle.step_core.specs.machine.Play.{Play, play_of}
use Rattle.step_core.specs.machine.Work.{Count, CallWork, Counted, IsTouchable, IsBounded, AreBounded, EveryCallIsBounded, segments_touched, growths_of_others, counted_of, work_in, play_shown}
use Rattle.model_tests.specs.CallSteps.{IsGrowthWithin, IsPushWithin, IsWithin, EndedCallsAreWithin, CallsUnderWayAreWithin, OfEveryCount, PushesTakeFewSteps}

-- ---- One call

-- one place touches one segment
one_more : (segment : ℕ) → segment + 1 - segment ≤ 1
one_more segment = omega arith

one_touches_one : (f from : ℕ) → segments_touched f from 1 ≤ 1
one_touches_one f from =
    let last : from + 1 - 1 ≡ from = omega arith in
    subst (λ place. segment_of f place + 1 - segment_of f from ≤ 1) (sym last) (one_more (segment_of f from))

push_touches : (f limit segments : ℕ) → IsTouchable f limit 1 segments → segments ≤ 1
push_touches f limit segments touched = touched 1 (λ from _. one_touches_one f from)

-- the rounds of a call that lost fewer exchanges, in fewer segments, take fewer steps
rounds_fewer : (lost growths segments q : ℕ) → lost ≤ growths → segments ≤ q
    → (lost + 1) * (2 * segments + 1) ≤ (growths + 1) * (2 * q + 1)
rounds_fewer lost growths segments q fewer below =
    mul-le (lost + 1) (2 * segments + 1) (growths + 1) (2 * q + 1) (omega arith) (omega arith)

steps_fewer : (steps rounds most n : ℕ) → steps ≤ 1 + rounds + 2 * n → rounds ≤ most → steps ≤ 1 + most + 2 * n
steps_fewer steps rounds most n few below = omega arith

push_fewer : (steps rounds growths : ℕ) → steps ≤ 1 + rounds + 2 * 1 → rounds ≤ (growths + 1) * (2 * 1 + 1)
    → steps ≤ 3 + 3 * (growths + 1)
push_fewer steps rounds growths few below = omega arith

-- a growth by n places with this number of lost exchanges
growth_within : (f limit n : ℕ) (count : Count) (growths : ℕ) → count.tally.lost ≤ growths
    → count.tally.steps ≤ 1 + (count.tally.lost + 1) * (2 * count.tally.segments + 1) + 2 * n
    → count.tally.segments ≤ 40 → IsTouchable f limit n count.tally.segments → IsGrowthWithin f limit n count growths
growth_within f limit n count growths fewer few below touched = record {
  lost = fewer;
  segments = below;
  steps = λ q none_passes. steps_fewer count.tally.steps ((count.tally.lost + 1) * (2 * count.tally.segments + 1)) ((growths + 1) * (2 * q + 1)) n few
      (rounds_fewer count.tally.lost growths count.tally.segments q fewer (touched q none_passes));
}

none_lost : (lost : ℕ) → lost ≤ 0 → lost ≡ 0
none_lost lost few = omega arith

call_within : (f limit actor : ℕ) (command : Command) (count : Count) (events : List (Event × Reply))
    → IsBounded f limit actor command count events → IsWithin f limit command count (growths_of_others actor events)
call_within f limit actor (commands.Push value) count events is =
    let growths = growths_of_others actor events in
    let one = push_touches f limit count.tally.segments is.touched in
    record {
      lost = is.lost;
      segments = one;
      steps = push_fewer count.tally.steps ((count.tally.lost + 1) * (2 * count.tally.segments + 1)) growths is.steps
          (rounds_fewer count.tally.lost growths count.tally.segments 1 is.lost one);
    }
call_within f limit actor (commands.Grow n value) count events is =
    growth_within f limit n count (growths_of_others actor events) is.lost is.steps is.segments is.touched
call_within f limit actor (commands.AtLeast to value) count events is =
    let none = none_lost count.tally.lost is.lost in
    let steps = subst (λ lost. count.tally.steps ≤ 1 + (lost + 1) * (2 * count.tally.segments + 1) + 2 * count.wanted) (sym none) is.steps in
    growth_within f limit count.wanted count 0 is.lost steps is.segments is.touched
call_within f limit actor (commands.Fail n value at) count events is =
    growth_within f limit n count (growths_of_others actor events) is.lost is.steps is.segments is.touched
call_within f limit actor (commands.Mend place value) count events is =
    record { lost = none_lost count.tally.lost is.lost; segments = is.touched; steps = is.steps }
call_within f limit actor (commands.Read place) count events is =
    record { lost = none_lost count.tally.lost is.lost; segments = is.touched; steps = is.steps }
call_within f limit actor commands.Size count events is =
    record { lost = none_lost count.tally.lost is.lost; segments = is.touched; steps = is.steps }

-- ---- All calls

-- the events of an ended call, from its first step to its last
abbrev events_in : Counted → CallWork → List (Event × Reply)
events_in k call = drop call.count.begun (take call.until k.play.events)

ended_within : (f limit : ℕ) (k : Counted) → AreBounded f limit k → EndedCallsAreWithin f limit k
ended_within f limit k bounded =
    All-weaker (λ call. IsBounded f limit call.ended.actor call.ended.command call.count (events_in k call))
    (λ call. IsWithin f limit call.ended.command call.count (growths_of_others call.ended.actor (events_in k call)))
    (λ call is. call_within f limit call.ended.actor call.ended.command call.count (events_in k call) is) k.calls bounded.ended

pub ended_calls_are_within : EveryCallIsBounded → OfEveryCount EndedCallsAreWithin
ended_calls_are_within law f is_layout limit programs items is_limit =
    ended_within f limit (counted_of f limit programs items) (law f is_layout limit programs items is_limit).1

under_way_within : (f limit : ℕ) (k : Counted) → AreBounded f limit k → CallsUnderWayAreWithin f limit k
under_way_within f limit k bounded actor state command there call =
    let is = bounded.under_way actor state command there call in
    (is.0, is.1, call_within f limit actor command is.0 (drop is.0.begun k.play.events) is.2)

pub calls_under_way_are_within : EveryCallIsBounded → OfEveryCount CallsUnderWayAreWithin
calls_under_way_are_within law f is_layout limit programs items is_limit =
    under_way_within f limit (counted_of f limit programs items) (law f is_layout limit programs items is_limit).1

-- ---- What a play shows

growths_split : RunsSplit → (actor : ℕ) (xs ys : List (Event × Reply))
    → growths_of_others actor (xs ++ ys) ≡ growths_of_others actor xs + growths_of_others actor ys
growths_split split actor xs ys =
    let counts = (λ (run : OwnedRun). not (run.owner == actor) && nat_lt 0 run.n) in
    ap (λ rs. length (filter counts rs)) (split xs ys)
    ∙ ap length (filter-append counts (runs_of xs) (runs_of ys))
    ∙ length-append (filter counts (runs_of xs)) (filter counts (runs_of ys))

-- a part of a history has no more growths
growths_within : RunsSplit → (actor begun until : ℕ) (es : List (Event × Reply))
    → growths_of_others actor (drop begun (take until es)) ≤ growths_of_others actor es
growths_within split actor begun until es =
    let whole = ap (growths_of_others actor) (sym (take-append-drop until es)) ∙ growths_split split actor (take until es) (drop until es) in
    let first = ap (growths_of_others actor) (sym (take-append-drop begun (take until es))) ∙ growths_split split actor (take begun (take until es)) (drop begun (take until es)) in
    omega arith

-- the counted call whose end is shown in this place
shown_call : (calls : List CallWork) (i : ℕ) (ended : Ended)
    → slice_get (map (λ (call : CallWork). call.ended) calls) i ≡ Some ended
    → (call : CallWork) × (slice_get calls i ≡ Some call) × (call.ended ≡ ended)
shown_call [] i ended is = absurd (none-some ended is)
shown_call (call ∷ calls) zero ended is = (call, refl, same_Some call.ended ended is)
shown_call (call ∷ calls) (suc i) ended is = shown_call calls i ended is

-- what holds of each call holds of the one in this place
call_at : (P : CallWork → Type 0) (calls : List CallWork) (i : ℕ) (call : CallWork) → All P calls → slice_get calls i ≡ Some call
    → P call
call_at P calls i call all is =
    subst P (get_or_from_slice_get calls i call call is) (All-get_or P calls i call (slice_get_within calls i call is) all)

few_more : (steps some all : ℕ) → steps ≤ 3 + 3 * (some + 1) → some ≤ all → steps ≤ 3 + 3 * (all + 1)
few_more steps some all few fewer = omega arith

pushes_few : RunsSplit → EveryCallIsBounded → (f limit : ℕ) (programs : List (List Command)) (items : List Item) → IsLayout f
    → IsLimit limit → PushesTakeFewSteps (play_shown f limit programs items)
pushes_few split law f limit programs items is_layout is_limit i value ended work is_ended is_work pushes =
    let k = counted_of f limit programs items in
    let p = play_of f limit programs items in
    let bounded = law f is_layout limit programs items is_limit in
    let shown = shown_call k.calls i ended (ap (λ es. slice_get es i) bounded.0.calls ∙ is_ended) in
    let call : CallWork = shown.0 in
    let work_is : work_in call ≡ work = same_Some (work_in call) work (sym (slice_get-map work_in k.calls i ∙ ap (option_map work_in) shown.1) ∙ is_work) in
    let of_call = call_at (λ c. IsWithin f limit c.ended.command c.count (growths_of_others c.ended.actor (events_in k c))) k.calls i call (ended_within f limit k bounded.1) shown.1 in
    let command : call.ended.command ≡ commands.Push value = ap (λ (e : Ended). e.command) shown.2 ∙ pushes in
    let push : IsPushWithin call.count (growths_of_others call.ended.actor (events_in k call)) =
    subst (λ c. IsWithin f limit c call.count (growths_of_others call.ended.actor (events_in k call))) command of_call in
    let some = growths_of_others call.ended.actor (events_in k call) in
    let few : call.count.tally.steps ≤ 3 + 3 * (growths_of_others call.ended.actor k.play.events + 1) =
    few_more call.count.tally.steps some (growths_of_others call.ended.actor k.play.events) push.steps
    (growths_within split call.ended.actor call.count.begun call.until k.play.events) in
    let told : work.steps ≤ 3 + 3 * (growths_of_others call.ended.actor k.play.events + 1) =
    subst (λ (w : Work). w.steps ≤ 3 + 3 * (growths_of_others call.ended.actor k.play.events + 1)) work_is few in
    subst (λ (e : Ended). work.steps ≤ 3 + 3 * (growths_of_others e.actor p.events + 1)) shown.2
    (subst (λ (q : Play). work.steps ≤ 3 + 3 * (growths_of_others call.ended.actor q.events + 1)) bounded.0.play told)

-- the same holds for the result of a play
pub few_steps_of : (r : Result Played PlayError) (f limit : ℕ) (programs : List (List Command)) (items : List Item)
    → RunsSplit → EveryCallIsBounded → IfOk r (λ played. played ≡ play_shown f limit programs items)
    → OnOk r (IsLayout f) → OnOk r (IsLimit limit) → IfOk r (λ played. PushesTakeFewSteps played)
few_steps_of (Ok played) f limit programs items split law is is_layout is_limit =
    subst (λ (x : Played). PushesTakeFewSteps x) (sym is) (pushes_few split law f limit programs items is_layout is_limit)
few_steps_of (Err e) f limit programs items split law is is_layout is_limit = tt
