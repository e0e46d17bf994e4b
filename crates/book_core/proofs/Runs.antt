-- Runs that tile, and the owners of places.
use Rattle.std.proofs.Common.{zero, suc, ◌≡◌, ℕ, ◌+◌, ◌<◌, ◌≤◌, nat_le, nat_lt, ◌&&◌, true, false, if◌then◌else◌, List, [], ◌∷◌, ◌++◌, Some, None, refl, ap, sym, ◌∙◌, subst, arith, inl, inr}
use Rattle.std.proofs.lemmas.Bool.{cases_lt}
use Rattle.std.proofs.lemmas.Bool.Decides.{nat_tests}
use Rattle.std.proofs.lemmas.Option.{none-some}
use Rattle.book_core.specs.declared.events.Event.{Event}
use Rattle.book_core.specs.declared.events.Reply.{Reply}
use Rattle.book_core.specs.History.{OwnedRun, run_of, runs_of, owner_of, Tile, writes_of}
use Rattle.book_core.specs.Events.{write_in}
use Rattle.std.proofs.lemmas.List.{append_assoc}
use Rattle.std.specs.List.{Contains}

-- a run has its places
pub has_place-true : (run : OwnedRun) (place : ℕ) → run.from ≤ place → place < run.from + run.n
    → (nat_le run.from place && nat_lt place (run.from + run.n)) ≡ true
has_place-true run place low high = grind (arith, nat_tests)

-- it has no place past its end
pub has_place-past : (run : OwnedRun) (place : ℕ) → run.from + run.n ≤ place
    → (nat_le run.from place && nat_lt place (run.from + run.n)) ≡ false
has_place-past run place high = grind (arith, nat_tests)

-- a place that has an owner keeps it where runs follow
pub owner_kept : (xs ys : List OwnedRun) (place owner : ℕ) → owner_of xs place ≡ Some owner
    → owner_of (xs ++ ys) place ≡ Some owner
owner_kept [] ys place owner is = absurd (none-some owner is)
owner_kept (x ∷ xs) ys place owner is =
    elim (nat_le x.from place && nat_lt place (x.from + x.n)) as (λ b. (if b then Some x.owner else owner_of xs place) ≡ Some owner → (if b then Some x.owner else owner_of (xs ++ ys) place) ≡ Some owner)
    [ true ↦ (λ e. e) | false ↦ (λ e. owner_kept xs ys place owner e) ]
    is

-- a place without an owner has that of the runs that follow
pub owner_new : (xs ys : List OwnedRun) (place : ℕ) → owner_of xs place ≡ None
    → owner_of (xs ++ ys) place ≡ owner_of ys place
owner_new [] ys place is = refl
owner_new (x ∷ xs) ys place is =
    elim (nat_le x.from place && nat_lt place (x.from + x.n)) as (λ b. (if b then Some x.owner else owner_of xs place) ≡ None → (if b then Some x.owner else owner_of (xs ++ ys) place) ≡ owner_of ys place)
    [ true ↦ (λ e. absurd (none-some x.owner (sym e))) | false ↦ (λ e. owner_new xs ys place e) ]
    is

-- what tiles ends no earlier than it begins
tile_grows : (start end : ℕ) (runs : List OwnedRun) → Tile start runs end → start ≤ end
tile_grows start end [] tile = omega arith
tile_grows start end (run ∷ runs) (begins, others) = let more = tile_grows (start + run.n) end runs others in omega arith

pub tile-append : (start mid end : ℕ) (xs ys : List OwnedRun) → Tile start xs mid → Tile mid ys end
    → Tile start (xs ++ ys) end
tile-append start mid end [] ys first second = subst (λ s. Tile s ys end) (sym first) second
tile-append start mid end (x ∷ xs) ys (begins, others) second = (begins, tile-append (start + x.n) mid end xs ys others second)

-- no place past the end has an owner
pub none_past : (start end : ℕ) (runs : List OwnedRun) (place : ℕ) → Tile start runs end → end ≤ place
    → owner_of runs place ≡ None
none_past start end [] place tile past = refl
none_past start end (run ∷ runs) place (begins, others) past =
    let grows = tile_grows (start + run.n) end runs others in
    let outside = has_place-past run place (omega arith) in
    rw outside (none_past (start + run.n) end runs place others past)

-- each place between has one
pub owned_between : (start end : ℕ) (runs : List OwnedRun) (place : ℕ) → Tile start runs end → start ≤ place
    → place < end → (owner : ℕ) × (owner_of runs place ≡ Some owner)
owned_between start end [] place tile low high = absurd (omega arith)
owned_between start end (run ∷ runs) place (begins, others) low high =
    elim (cases_lt place (start + run.n)) [
      | inl inside ↦ (let here = has_place-true run place (omega arith) (omega arith) in (run.owner, rw here refl))
      | inr after ↦
          let rest = owned_between (start + run.n) end runs place others after high in
          let outside = has_place-past run place (omega arith) in
          (rest.0, rw outside rest.1)
    ]

-- a run lies between the start and the end of what it helps to tile
pub runs_within : (start end : ℕ) (runs : List OwnedRun) (run : OwnedRun) → Tile start runs end → Contains runs run
    → (start ≤ run.from) × (run.from + run.n ≤ end)
runs_within start end [] run tile (i, inside, is) = absurd (omega arith)
runs_within start end (first ∷ runs) run (begins, others) (zero, inside, same) =
    let grows = tile_grows (start + first.n) end runs others in
    subst (λ (r : OwnedRun). (start ≤ r.from) × (r.from + r.n ≤ end)) same (omega arith, omega arith)
runs_within start end (first ∷ runs) run (begins, others) (suc i, inside, is) =
    let rest = runs_within (start + first.n) end runs run others (i, omega arith, is) in
    (omega arith, rest.1)

-- the runs of a history, and what it did at a place, in two parts
pub runs_of-append : (es fs : List (Event × Reply)) → runs_of (es ++ fs) ≡ runs_of es ++ runs_of fs
runs_of-append [] fs = refl
runs_of-append (e ∷ es) fs = ap (λ rs. run_of e.0 e.1 ++ rs) (runs_of-append es fs) ∙ sym (append_assoc (run_of e.0 e.1) (runs_of es) (runs_of fs))

pub writes_of-append : (place : ℕ) (es fs : List (Event × Reply))
    → writes_of place (es ++ fs) ≡ writes_of place es ++ writes_of place fs
writes_of-append place [] fs = refl
writes_of-append place (e ∷ es) fs = ap (λ rs. write_in place e.0 ++ rs) (writes_of-append place es fs) ∙ sym (append_assoc (write_in place e.0) (writes_of place es) (writes_of place fs))
