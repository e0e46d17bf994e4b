-- A step for each of a list: what one more element does.
use Rattle.std.proofs.Common.{◌≡◌, ℕ, ◌<◌, ◌≤◌, List, [], ◌∷◌, ◌++◌, length, Result, Ok, Err, refl, sym, ap, ◌∙◌, arith}
use Rattle.std.proofs.lemmas.Bool.{le-leb, lt-leb}
use Rattle.script_core.specs.declared.error.Fault.{Fault}
use Rattle.script_core.specs.declared.error.Fault.TheVariants.{TooMany}
use Rattle.script_core.specs.Grammar.{try_each}

-- there is no room for one more
try_full : {X Y : Type 0} (step : X → Result Y Fault) (most : ℕ) (done : List Y) (xs : List X) → most ≤ length done
    → 0 < length xs → try_each step most done xs ≡ Err TooMany
unfolding try_each
try_full step most done [] le some = absurd (omega arith)
try_full step most done (x ∷ xs) le some = rw (le-leb most (length done) le) refl

-- the step gives one more
try_more : {X Y : Type 0} (step : X → Result Y Fault) (most : ℕ) (done : List Y) (x : X) (xs : List X) (y : Y)
    → length done < most → step x ≡ Ok y → try_each step most done (x ∷ xs) ≡ try_each step most (done ++ y ∷ []) xs
unfolding try_each
try_more step most done x xs y lt e = rw (lt-leb most (length done) lt, e) refl

-- the step finds a fault
try_fault : {X Y : Type 0} (step : X → Result Y Fault) (most : ℕ) (done : List Y) (x : X) (xs : List X) (fault : Fault)
    → length done < most → step x ≡ Err fault → try_each step most done (x ∷ xs) ≡ Err fault
unfolding try_each
try_fault step most done x xs fault lt e = rw (lt-leb most (length done) lt, e) refl

-- a loop over the list stops at a full list, at a fault or at the last element; otherwise it goes on
pub stop_full : {X Y : Type 0} (step : X → Result Y Fault) (most : ℕ) (done : List Y) (all : List X)
    (total : Result (List Y) Fault)
    → most ≤ length done → 0 < length all → try_each step most done all ≡ total → total ≡ Err TooMany
stop_full step most done all total le some so_far = sym so_far ∙ try_full step most done all le some

pub stop_fault : {X Y : Type 0} (step : X → Result Y Fault) (most : ℕ) (done : List Y) (all : List X)
    (total : Result (List Y) Fault) (x : X) (others : List X) (fault : Fault)
    → length done < most → all ≡ x ∷ others → step x ≡ Err fault → try_each step most done all ≡ total
    → total ≡ Err fault
stop_fault step most done all total x others fault lt e f so_far = sym so_far ∙ ap (try_each step most done) e ∙ try_fault step most done x others fault lt f

pub goes_on : {X Y : Type 0} (step : X → Result Y Fault) (most : ℕ) (done new : List Y) (all : List X)
    (total : Result (List Y) Fault) (x : X) (others : List X) (y : Y)
    → length done < most → all ≡ x ∷ others → step x ≡ Ok y → new ≡ done ++ y ∷ []
    → try_each step most done all ≡ total → try_each step most new others ≡ total
goes_on step most done new all total x others y lt e f made so_far = ap (λ (l : List _). try_each step most l others) made ∙ sym (try_more step most done x others y lt f) ∙ sym (ap (try_each step most done) e) ∙ so_far

pub stop_last : {X Y : Type 0} (step : X → Result Y Fault) (most : ℕ) (done new : List Y) (all : List X)
    (total : Result (List Y) Fault) (x : X) (y : Y)
    → length done < most → all ≡ x ∷ [] → step x ≡ Ok y → new ≡ done ++ y ∷ [] → try_each step most done all ≡ total
    → total ≡ Ok new
unfolding try_each
stop_last step most done new all total x y lt e f made so_far = sym (goes_on step most done new all total x [] y lt e f made so_far)
