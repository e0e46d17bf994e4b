-- The counted play as the program keeps it: its play, its tallies, and what its calls took.
use Rattle.std.proofs.Common.{◌≡◌, ℕ, ◌+◌, ◌-◌, ◌<◌, ◌≤◌, Bool, true, false, if◌then◌else◌, List, [], ◌∷◌, ◌++◌, length, map, replicate, drop, get_or, Option, Some, None, Result, Ok, Err, IfOk, slice_get, slice_set, unwrap_or, zero, suc, refl, ap, sym, ◌∙◌, subst, arith}
use Rattle.std.proofs.Math.Nat.{le_refl}
use Rattle.std.proofs.lemmas.List.{map-append, drop_more}
use Rattle.std.proofs.lemmas.List.Elements.{All-set}
use Rattle.seg_core.specs.Segment.{IsLayout, IsLimit, segment_of}
use Rattle.seg_core.proofs.Doubling.{segment_of_has, touches_between}
use Rattle.book_core.specs.declared.commands.Command.{Command}
use Rattle.book_core.specs.declared.commands.Ended.{Ended}
use Rattle.book_core.specs.declared.commands.Item.{Item}
use Rattle.book_core.specs.Commands.{HavePrograms, HaveActors}
use Rattle.book_core.proofs.Lists.{at_place}
use Rattle.step_core.specs.declared.machine.counts.Tally.{Tally}
use Rattle.step_core.specs.declared.machine.phase.Phase.{Phase}
use Rattle.step_core.specs.declared.programs.Played.{Played}
use Rattle.step_core.specs.machine.Step.{Step, step_of}
use Rattle.step_core.specs.machine.Play.{Play, empty_play, with_step, after_items, play_of}
use Rattle.step_core.specs.machine.Work.{Count, CallWork, Counted, no_tally, no_count, tally_after, is_lost, first_counted, with_count, next_count, count_step, count_items, counted_of, has_call, work_in, work_of, play_shown}
use Rattle.step_core.specs.machine.Tallies.{Tallied, AreWithin, with_tally, next_tally, tally_step, tally_items, tallied, shown_by_owners}
use Rattle.step_core.specs.machine.Owners.{played_by_owners}
use Rattle.step_core.proofs.atomic_steps.Owners.{shown, play_actors}
use Rattle.step_core.proofs.atomic_steps.Tiling.{every_play_is_tiled}

-- ---- Segments

-- the segment of a run's last place is not before that of its first
pub segments_in_order : (f from n : ℕ) → 0 < n → segment_of f from < segment_of f (from + n - 1) + 1
segments_in_order f from n some =
    (touches_between f (segment_of f from) (segment_of f (from + n - 1)) from n (segment_of f from) (segment_of_has f from) (segment_of_has f (from + n - 1)) some
    (record { place = from; inside = (le_refl from, omega arith); there = segment_of_has f from })).1

-- ---- What is kept is what is counted

-- the tally of an actor, as it is kept
kept_tally : (counts : List Count) (actor : ℕ)
    → unwrap_or (slice_get (map (λ (count : Count). count.tally) counts) actor) no_tally
    ≡ (unwrap_or (slice_get counts actor) no_count).tally
kept_tally [] actor = refl
kept_tally (count ∷ counts) zero = refl
kept_tally (count ∷ counts) (suc actor) = kept_tally counts actor

-- a count that is set, as it is kept
kept_set : (counts : List Count) (actor : ℕ) (count : Count)
    → slice_set (map (λ (c : Count). c.tally) counts) actor count.tally
    ≡ map (λ (c : Count). c.tally) (slice_set counts actor count)
kept_set [] actor count = refl
kept_set (c ∷ counts) zero count = refl
kept_set (c ∷ counts) (suc actor) count = ap (λ xs. c.tally ∷ xs) (kept_set counts actor count)

-- a call goes on, or ends
tallied_count : (k : Counted) (actor : ℕ) (play : Play) (count : Count) (ended : Option Ended)
    → with_tally (tallied k) actor play count.tally ended ≡ tallied (with_count k actor play count ended)
tallied_count k actor play count None =
    ap (λ ts. record { play = play; tallies = ts; work = map work_in k.calls }) (kept_set k.counts actor count)
tallied_count k actor play count (Some ended) =
    let call : CallWork = record { ended = ended; count = count; until = length play.events } in
    ap (λ ts. record { play = play; tallies = ts; work = map work_in k.calls ++ work_in call ∷ [] }) (kept_set k.counts actor no_count)
    ∙ ap (λ w. record { play = play; tallies = map (λ (c : Count). c.tally) (slice_set k.counts actor no_count); work = w }) (sym (map-append work_in k.calls (call ∷ [])))

tallied_step : (k : Counted) (actor : ℕ) (step : Step) (counts : Bool)
    → tally_step (tallied k) actor step counts ≡ tallied (count_step k actor step counts)
tallied_step k actor step false = refl
tallied_step k actor step true =
    let same : next_tally (tallied k) actor step ≡ (next_count k actor step).tally = rw (kept_tally k.counts actor) refl in
    ap (λ tally. with_tally (tallied k) actor (with_step k.play step) tally step.ended) same
    ∙ tallied_count k actor (with_step k.play step) (next_count k actor step) step.ended

tallied_items : (k : Counted) (items : List Item) → tally_items (tallied k) items ≡ tallied (count_items k items)
tallied_items k [] = refl
tallied_items k (item ∷ items) =
    let step = step_of k.play.at item.actor item.memory in
    ap (λ t. tally_items t items) (tallied_step k item.actor step (has_call k.play.at item.actor))
    ∙ tallied_items (count_step k item.actor step (has_call k.play.at item.actor)) items

-- before the first item
map_replicate : (n : ℕ) → map (λ (count : Count). count.tally) (replicate n no_count) ≡ replicate n no_tally
map_replicate zero = refl
map_replicate (suc n) = ap (λ xs. no_tally ∷ xs) (map_replicate n)

tallied_first : (f limit : ℕ) (programs : List (List Command))
    → record { play = empty_play f limit programs; tallies = replicate (length programs) no_tally; work = [] } ≡ tallied (first_counted f limit programs)
tallied_first f limit programs =
    ap (λ ts. record { play = empty_play f limit programs; tallies = ts; work = [] }) (sym (map_replicate (length programs)))

-- one item of those that are left
pub item_played : (t next whole : Tallied) (items : List Item) (i : ℕ) (d : Item) → i < length items
    → tally_items t (drop i items) ≡ whole
    → next ≡ tally_step t (get_or items i d).actor (step_of t.play.at (get_or items i d).actor (get_or items i d).memory) (has_call t.play.at (get_or items i d).actor)
    → tally_items next (drop (i + 1) items) ≡ whole
item_played t next whole items i d inside before is =
    ap (λ s. tally_items s (drop (i + 1) items)) is ∙ ap (tally_items t) (sym (drop_more items i d inside)) ∙ before

-- ---- The play that is counted

pub counted_step_play : (k : Counted) (actor : ℕ) (step : Step) (counts : Bool)
    → (count_step k actor step counts).play ≡ with_step k.play step
counted_step_play k actor step false = refl
counted_step_play k actor step true =
    elim (step.ended) as (λ o. (with_count k actor (with_step k.play step) (next_count k actor step) o).play ≡ with_step k.play step) [
      | None ↦ refl
      | Some ended ↦ refl
    ]

counted_items_play : (k : Counted) (items : List Item) → (count_items k items).play ≡ after_items k.play items
counted_items_play k [] = refl
counted_items_play k (item ∷ items) =
    let step = step_of k.play.at item.actor item.memory in
    counted_items_play (count_step k item.actor step (has_call k.play.at item.actor)) items
    ∙ ap (λ p. after_items p items) (counted_step_play k item.actor step (has_call k.play.at item.actor))

pub counted_play : (f limit : ℕ) (programs : List (List Command)) (items : List Item)
    → (counted_of f limit programs items).play ≡ play_of f limit programs items
counted_play f limit programs items = counted_items_play (first_counted f limit programs) items

-- ---- What the program gives

-- what is kept from the first item on is what is counted
pub from_first : (f limit : ℕ) (programs : List (List Command)) (items : List Item) (t first : Tallied)
    → t ≡ tally_items first items
    → first ≡ record { play = empty_play f limit programs; tallies = replicate (length programs) no_tally; work = [] }
    → t ≡ tallied (counted_of f limit programs items)
from_first f limit programs items t first is opens =
    is ∙ ap (λ s. tally_items s items) (opens ∙ tallied_first f limit programs)
    ∙ tallied_items (first_counted f limit programs) items

shown_in_all : (f limit : ℕ) (programs : List (List Command)) (items : List Item) → IsLayout f → IsLimit limit
    → (t : Tallied) → t ≡ tallied (counted_of f limit programs items) → shown_by_owners t ≡ play_shown f limit programs items
shown_in_all f limit programs items is_layout is_limit t is =
    let work = work_of f limit programs items in
    let tiled = every_play_is_tiled f is_layout limit programs items is_limit in
    ap shown_by_owners is
    ∙ ap (λ p. played_by_owners p work) (counted_play f limit programs items)
    ∙ shown (play_of f limit programs items) work tiled.runs_tile

pub all_shown : {E : Type 0} (f limit : ℕ) (programs : List (List Command)) (items : List Item) (t : Tallied)
    (result : Result Played E)
    → IsLayout f → IsLimit limit → t ≡ tallied (counted_of f limit programs items)
    → IfOk result (λ played. played ≡ shown_by_owners t) → IfOk result (λ played. played ≡ play_shown f limit programs items)
all_shown f limit programs items t (Ok played) is_layout is_limit counted is =
    is ∙ shown_in_all f limit programs items is_layout is_limit t counted
all_shown f limit programs items t (Err e) is_layout is_limit counted is = tt

pub all_actors : {E : Type 0} (f limit : ℕ) (programs : List (List Command)) (items : List Item) (t : Tallied)
    (result : Result Played E)
    → HavePrograms programs items → t ≡ tallied (counted_of f limit programs items)
    → IfOk result (λ played. played ≡ shown_by_owners t) → IfOk result (λ played. HaveActors (length programs) played.ended)
all_actors f limit programs items t (Ok played) have counted is =
    let same : played.ended ≡ (play_of f limit programs items).ended = ap (λ (r : Played). r.ended) is ∙ ap (λ (s : Tallied). s.play.ended) counted ∙ ap (λ (p : Play). p.ended) (counted_play f limit programs items) in
    subst (HaveActors (length programs)) (sym same) (play_actors f limit programs items have)
all_actors f limit programs items t (Err e) have counted is = tt

-- ---- No tally counts more than the steps

abbrev IsTallyWithin : ℕ → Tally → Type 0
IsTallyWithin most tally = (tally.lost ≤ tally.steps) × (tally.steps ≤ most)

-- one step counts once
one_more : (most f : ℕ) (tally : Tally) (before after : Phase) → IsTallyWithin most tally
    → IsTallyWithin (most + 1) (tally_after f tally before after)
one_more most f tally before after (lost, steps) = (
  elim (is_lost before after) as (λ b. (if b then tally.lost + 1 else tally.lost) ≤ tally.steps + 1) [ true ↦ omega arith | false ↦ omega arith ],
  omega arith,
)

-- the tally of an actor that has one, and of one that has none
its_tally : (most actor : ℕ) (tallies : List Tally) → AreWithin most tallies
    → IsTallyWithin most (unwrap_or (slice_get tallies actor) no_tally)
its_tally most actor tallies are =
    elim (slice_get tallies actor) as (λ o. slice_get tallies actor ≡ o → IsTallyWithin most (unwrap_or o no_tally)) [
      | None ↦ (λ _. (omega arith, omega arith))
      | Some tally ↦ (λ is. at_place (IsTallyWithin most) tallies actor tally are is)
    ]
    refl

still_within : (most : ℕ) (tallies : List Tally) → AreWithin most tallies → AreWithin (most + 1) tallies
still_within most tallies are k d inside = let a = are k d inside in (a.0, omega arith)

step_within : (most actor : ℕ) (t : Tallied) (step : Step) (counts : Bool) → AreWithin most t.tallies
    → AreWithin (most + 1) (tally_step t actor step counts).tallies
step_within most actor t step false are = still_within most t.tallies are
step_within most actor t step true are =
    elim (step.ended) as (λ o. AreWithin (most + 1) (with_tally t actor (with_step t.play step) (next_tally t actor step) o).tallies) [
      | None ↦ All-set (IsTallyWithin (most + 1)) t.tallies actor (next_tally t actor step)
          (one_more most t.play.at.storage.layout (unwrap_or (slice_get t.tallies actor) no_tally) _ _ (its_tally most actor t.tallies are))
          (still_within most t.tallies are)
      | Some ended ↦ All-set (IsTallyWithin (most + 1)) t.tallies actor no_tally (omega arith, omega arith) (still_within most t.tallies are)
    ]

pub item_within : (t next : Tallied) (items : List Item) (i : ℕ) (d : Item) (most : ℕ) → AreWithin most t.tallies
    → next ≡ tally_step t (get_or items i d).actor (step_of t.play.at (get_or items i d).actor (get_or items i d).memory) (has_call t.play.at (get_or items i d).actor)
    → AreWithin (most + 1) next.tallies
item_within t next items i d most are is =
    let item = get_or items i d in
    subst (λ (s : Tallied). AreWithin (most + 1) s.tallies) (sym is)
    (step_within most item.actor t (step_of t.play.at item.actor item.memory) (has_call t.play.at item.actor) are)
