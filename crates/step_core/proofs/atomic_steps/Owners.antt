-- If the runs of a play follow each other, its cells are those of their owners, place by place.
use Rattle.std.proofs.Common.{◌≡◌, ℕ, ◌+◌, ◌<◌, ◌≤◌, Bool, List, [], ◌∷◌, ◌++◌, length, map, replicate, Option, Some, All, zero, suc, refl, ap, sym, ◌∙◌, subst, arith}
use Rattle.std.proofs.lemmas.List.{length-append, length-replicate}
use Rattle.std.proofs.lemmas.List.Elements.{All-append, All-nil, All-cons}
use Rattle.std.specs.List.{range_with_len}
use Rattle.std.specs.Option.{option_to_list}
use Rattle.std.specs.FinMap.{get}
use Rattle.book_core.specs.declared.commands.Command.{Command}
use Rattle.book_core.specs.declared.commands.Item.{Item}
use Rattle.book_core.specs.declared.commands.Ended.{Ended}
use Rattle.book_core.specs.Commands.{HavePrograms, HaveActors}
use Rattle.book_core.specs.History.{OwnedRun, runs_of, owner_of, Tile}
use Rattle.step_core.specs.declared.machine.phase.CellSlot.{CellSlot}
use Rattle.step_core.specs.declared.machine.phase.Next.{Next}
use Rattle.step_core.specs.declared.machine.phase.Next.TheVariants.{Goes, Ends}
use Rattle.step_core.specs.declared.machine.phase.Actor.{Actor}
use Rattle.step_core.specs.machine.Step.{ended_by, Configuration, step_of, outcome_of}
use Rattle.step_core.specs.machine.Play.{Play, empty_play, with_step, after_items, play_of, cell_of, played_of}
use Rattle.book_core.specs.declared.commands.Work.{Work}
use Rattle.step_core.specs.machine.Owners.{owners_of, cells_from, played_by_owners}
use Rattle.book_core.proofs.Runs.{has_place-true, has_place-past}
use Rattle.step_core.proofs.atomic_steps.Cases.{step_cases}

-- the owners of the places from one on are these, in order
abbrev AreOwners : (ℕ → Option ℕ) → ℕ → List ℕ → Type 0
AreOwners owner place [] = Unit {0}
AreOwners owner place (o ∷ os) = (owner place ≡ Some o) × AreOwners owner (place + 1) os

-- cells by their owners
by_owners : (owner : ℕ → Option ℕ) (slot : ℕ → Option CellSlot) (place : ℕ) (owners : List ℕ)
    → AreOwners owner place owners
    → cells_from slot place owners ≡ map (λ p. cell_of (owner p) (slot p)) (range_with_len place (length owners))
by_owners owner slot place [] are = refl
by_owners owner slot place (o ∷ os) (is, are) = rw (is, by_owners owner slot (place + 1) os are) refl

-- an owner that is the same from a place on
same_owners : (owner other : ℕ → Option ℕ) (place : ℕ) (owners : List ℕ) → ((p : ℕ) → place ≤ p → owner p ≡ other p)
    → AreOwners owner place owners → AreOwners other place owners
same_owners owner other place [] same are = tt
same_owners owner other place (o ∷ os) same (is, are) = (sym (same place (omega arith)) ∙ is, same_owners owner other (place + 1) os (λ p low. same p (omega arith)) are)

-- one owner of n places, and then others
one_owner : (owner : ℕ → Option ℕ) (place n actor : ℕ) (owners : List ℕ)
    → ((p : ℕ) → place ≤ p → p < place + n → owner p ≡ Some actor) → AreOwners owner (place + n) owners
    → AreOwners owner place (replicate n actor ++ owners)
one_owner owner place zero actor owners ours are = subst (λ p. AreOwners owner p owners) (omega arith) are
one_owner owner place (suc n) actor owners ours are = (ours place (omega arith) (omega arith), one_owner owner (place + 1) n actor owners (λ p low high. ours p (omega arith) (omega arith)) (subst (λ p. AreOwners owner p owners) (omega arith) are))

-- the owners of runs that tile
tile_owners : (start end : ℕ) (runs : List OwnedRun) → Tile start runs end
    → AreOwners (owner_of runs) start (owners_of runs)
tile_owners start end [] tile = tt
tile_owners start end (run ∷ runs) (begins, others) =
    one_owner (owner_of (run ∷ runs)) start run.n run.owner (owners_of runs)
    (λ p low high. rw (has_place-true run p (omega arith) (omega arith)) refl)
    (same_owners (owner_of runs) (owner_of (run ∷ runs)) (start + run.n) (owners_of runs) (λ p low. rw (has_place-past run p (omega arith)) refl) (tile_owners (start + run.n) end runs others))

-- and how many there are
tile_length : (start end : ℕ) (runs : List OwnedRun) → Tile start runs end → start + length (owners_of runs) ≡ end
tile_length start end [] tile = (let same : start ≡ end = tile in omega arith)
tile_length start end (run ∷ runs) (begins, others) =
    let rest = tile_length (start + run.n) end runs others in
    let parts : length (replicate run.n run.owner ++ owners_of runs) ≡ run.n + length (owners_of runs) = length-append (replicate run.n run.owner) (owners_of runs) ∙ ap (λ k. k + length (owners_of runs)) (length-replicate run.n run.owner) in
    omega arith

-- what a play shows is what its owners show
pub shown : (p : Play) (work : List Work) → Tile 0 (runs_of p.events) p.at.storage.size
    → played_by_owners p work ≡ record { events = p.events; ended = p.ended; cells = (played_of p).cells; work = work }
shown p work tile =
    let are = by_owners (owner_of (runs_of p.events)) (get p.at.storage.slots) 0 (owners_of (runs_of p.events)) (tile_owners 0 p.at.storage.size (runs_of p.events) tile) in
    let whole : 0 + length (owners_of (runs_of p.events)) ≡ p.at.storage.size = tile_length 0 p.at.storage.size (runs_of p.events) tile in
    let count : length (owners_of (runs_of p.events)) ≡ p.at.storage.size = omega arith in
    ap (λ cells. record { events = p.events; ended = p.ended; cells = cells; work = work }) (are ∙ ap (λ n. map (λ place. cell_of (owner_of (runs_of p.events) place) (get p.at.storage.slots place)) (range_with_len 0 n)) count)

-- ---- Whose calls end

-- a call that ends is its actor's
ended_is_its : (count actor : ℕ) (state : Actor) (command : Command) (next : Next) → actor < count
    → HaveActors count (option_to_list (ended_by actor state command next))
ended_is_its count actor state command (Goes phase) has = All-nil _
ended_is_its count actor state command (Ends answer) has = All-cons (λ (e : Ended). e.actor < count) (record { actor = actor; number = state.ended + 1; command = command; answer = answer }) [] has (All-nil _)

step_actors : (count : ℕ) (c : Configuration) (actor : ℕ) (memory : Bool) → actor < count
    → HaveActors count (option_to_list (step_of c actor memory).ended)
step_actors count c actor memory has =
    step_cases (λ step. HaveActors count (option_to_list step.ended)) c actor memory (All-nil _)
    (λ state command there is. ended_is_its count actor state command (outcome_of c.limit c.storage actor command memory state.phase).next has)

items_actors : (count : ℕ) (p : Play) (items : List Item) → All (λ item. item.actor < count) items
    → HaveActors count p.ended → HaveActors count (after_items p items).ended
items_actors count p [] have actors = actors
items_actors count p (item ∷ items) have actors =
    items_actors count (with_step p (step_of p.at item.actor item.memory)) items (λ k d inside. have (suc k) d (omega arith))
    (All-append (λ (e : Ended). e.actor < count) p.ended (option_to_list (step_of p.at item.actor item.memory).ended) actors (step_actors count p.at item.actor item.memory (have 0 item (omega arith))))

pub play_actors : (f limit : ℕ) (programs : List (List Command)) (items : List Item) → HavePrograms programs items
    → HaveActors (length programs) (play_of f limit programs items).ended
play_actors f limit programs items have = items_actors (length programs) (empty_play f limit programs) items have (All-nil _)
