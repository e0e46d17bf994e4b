-- Chains of events: what comes before them, after them, and between.
use Rattle.std.proofs.Common.{◌≡◌, ℕ, zero, suc, ◌+◌, List, [], ◌∷◌, ◌++◌, map, ap, ◌∙◌, arith}
use Rattle.std.specs.List.{range_with_len}
use Rattle.std.proofs.lemmas.List.{append-nil}
use Rattle.std.proofs.lemmas.List.FromFn.{map-range_with_len_more}
use mathlib.Core.List.{IsPrefix}
use Rattle.claim_core.specs.History.{Log, AddsEvents, Adds, fill_event, break_event}
use Rattle.grow_core.specs.Logs.{fill_steps, break_steps}
use Rattle.grow_core.proofs.Logs.{log_goes_on, nothing_after, events_after}

-- a history goes on from itself
pub prefix_same : (a : Log) → IsPrefix a a
prefix_same a = ([], append-nil a)

-- steps of a history that goes on from another are steps after that one
pub steps_after : (a b c : Log) (steps : List Log) → IsPrefix a b → Adds b steps c → Adds a steps c
steps_after a b c [] p adds = nothing_after a b c p adds
steps_after a b c (es ∷ rest) p adds = (adds.0, events_after a b adds.0 es p adds.1, adds.2)

-- steps stay in a history that goes on
pub steps_stay : (a b c : Log) (steps : List Log) → Adds a steps b → IsPrefix b c → Adds a steps c
steps_stay a b c [] adds p = nothing_after a b c adds p
steps_stay a b c (es ∷ rest) adds p = (adds.0, adds.1, steps_stay adds.0 b c rest adds.2 p)

-- a history with steps goes on from the one before them
pub steps_go_on : (a b : Log) (steps : List Log) → Adds a steps b → IsPrefix a b
steps_go_on a b [] adds = adds
steps_go_on a b (es ∷ rest) adds = nothing_after a adds.0 b (log_goes_on a es adds.0 adds.1) (steps_go_on adds.0 b rest adds.2)

-- steps, and then others
pub steps_join : (a b c : Log) (xs ys : List Log) → Adds a xs b → Adds b ys c → Adds a (xs ++ ys) c
steps_join a b c [] ys first next = steps_after a b c ys first next
steps_join a b c (es ∷ rest) ys first next = (first.0, first.1, steps_join first.0 b c rest ys first.2 next)

-- one step with these events
pub one_step : (a b es : Log) → AddsEvents a es b → Adds a (es ∷ []) b
one_step a b es added = (b, added, prefix_same b)

-- a further place is filled, or broken
pub one_more_fill : (actor from n next : ℕ) → from + n ≡ next
    → fill_steps actor from (n + 1) ≡ fill_steps actor from n ++ (fill_event actor next ∷ []) ∷ []
one_more_fill actor from n next at = map-range_with_len_more (λ place. fill_event actor place ∷ []) from n next at

pub one_more_break : (actor from n next : ℕ) → from + n ≡ next
    → break_steps actor from (n + 1) ≡ break_steps actor from n ++ (break_event actor next ∷ []) ∷ []
one_more_break actor from n next at = map-range_with_len_more (λ place. break_event actor place ∷ []) from n next at

-- a step for each of m + n places is one for each of the first m and then one for each of the others
runs_join : (f : ℕ → Log) (from m n : ℕ) → map f (range_with_len from (m + n)) ≡ map f (range_with_len from m) ++ map f (range_with_len (from + m) n)
runs_join f from zero n =
    let none : zero + n ≡ n = omega arith in let here : from ≡ from + zero = omega arith in
    ap (λ (k : ℕ). map f (range_with_len from k)) none ∙ ap (λ (k : ℕ). map f (range_with_len k n)) here
runs_join f from (suc m) n =
    let one_more : suc m + n ≡ suc (m + n) = omega arith in let next : (from + 1) + m ≡ from + suc m = omega arith in
    ap (λ (k : ℕ). map f (range_with_len from k)) one_more
    ∙ (ap (λ (steps : List Log). f from ∷ steps) (runs_join f (from + 1) m n)
    ∙ ap (λ (k : ℕ). (f from ∷ map f (range_with_len (from + 1) m)) ++ map f (range_with_len k n)) next)

pub fills_join : (actor from m n next : ℕ) → from + m ≡ next
    → fill_steps actor from (m + n) ≡ fill_steps actor from m ++ fill_steps actor next n
fills_join actor from m n next at =
    runs_join (λ place. fill_event actor place ∷ []) from m n ∙ ap (λ k. fill_steps actor from m ++ fill_steps actor k n) at
