-- Every play is tiled: what holds between steps holds along every schedule.
pub mod Invariant
pub mod Effects
pub mod Steps
pub mod Rows
use Rattle.std.proofs.Common.{◌≡◌, ℕ, ◌<◌, ◌⊎◌, Bool, List, [], ◌∷◌, ◌++◌, Option, Some, None, slice_get, refl, ap, sym, ◌∙◌, subst, arith, inl, inr}
use Rattle.std.proofs.lemmas.List.{append-nil}
use Rattle.std.proofs.lemmas.Option.{none-some, same_Some, slice_get-map}
use Rattle.std.proofs.lemmas.Bool.{cases_lt}
use Rattle.std.specs.Option.{option_to_list, option_map}
use Rattle.std.specs.Ordering.{nat_cmp}
use Rattle.std.specs.FinMap as finite
use Rattle.book_core.specs.declared.events.Event.{Event}
use Rattle.book_core.specs.declared.events.Event.TheVariants as events
use Rattle.book_core.specs.declared.events.Reply.{Reply}
use Rattle.book_core.specs.declared.commands.Command.{Command}
use Rattle.book_core.specs.declared.commands.Item.{Item}
use Rattle.book_core.specs.History.{OwnedRun, runs_of, owner_of, Tile, writes_of}
use Rattle.book_core.specs.Laws.{IsItsToFinish}
use Rattle.step_core.specs.declared.machine.phase.CellSlot.{CellSlot}
use Rattle.step_core.specs.declared.machine.phase.CellSlot.TheVariants.{Busy, Filled, Broken}
use Rattle.step_core.specs.declared.machine.phase.Phase.{Phase}
use Rattle.step_core.specs.declared.machine.phase.Phase.TheVariants.{Load, Scout, Put, Exchange, Raise, Begin, Fill, Spoil, Mend, FillMended, Look}
use Rattle.step_core.specs.declared.machine.phase.Actor.{Actor}
use Rattle.step_core.specs.machine.Storage.{Storage}
use Rattle.step_core.specs.machine.Step.{Configuration, first_configuration, outcome_of, step_to, step_of}
use Rattle.step_core.specs.machine.Bounds.{IsInLimit}
use Rattle.step_core.specs.machine.Installed.{HasSegments}
use Rattle.step_core.specs.machine.Play.{Play, empty_play, with_step, after_items, play_of}
use Rattle.step_core.specs.machine.Tiling.{IsUnfinished, IsUnfinishedFor, IsWonOrMended, Owes, IsWrittenFor, IsTiled, EveryPlayIsTiled}
use Rattle.step_core.proofs.atomic_steps.Cases.{step_cases}
use Rattle.step_core.proofs.atomic_steps.Bounds.{opening_in_limit, within_at, step_in_limit}
use Rattle.step_core.proofs.atomic_steps.Installed.{first_has_segments, items_have_segments}
use Rattle.book_core.proofs.Runs.{none_past, owned_between, runs_of-append, writes_of-append}
use Rattle.step_core.proofs.atomic_steps.Tiling.Invariant.{IsOpen, one_open, open_for_owner, MendedBy, Knows, Settlement, Holds}
use Rattle.step_core.proofs.atomic_steps.Tiling.Rows.{row_kept}

-- what holds between two steps, of a configuration and its history
abbrev pub HoldsAt : Configuration → List (Event × Reply) → Type 0
HoldsAt c events = Holds c.storage c.actors (runs_of events) (λ q. writes_of q events)

-- what an actor knows, of what was done as it is written in another way
knows_same : (m : Storage) (runs : List OwnedRun) (writes writes' : ℕ → List Event) (actor : ℕ) (phase : Phase)
    → ((q : ℕ) → writes q ≡ writes' q) → Knows m runs writes actor phase → Knows m runs writes' actor phase
knows_same m runs writes writes' actor Load same knows = tt
knows_same m runs writes writes' actor (Scout from n k) same knows = tt
knows_same m runs writes writes' actor (Put from n k) same knows = tt
knows_same m runs writes writes' actor (Exchange from n) same knows = tt
knows_same m runs writes writes' actor (Raise to) same knows = tt
knows_same m runs writes writes' actor (Begin from n place) same knows = knows
knows_same m runs writes writes' actor (Fill from n place) same (won, busy, nothing) = (won, busy, sym (same place) ∙ nothing)
knows_same m runs writes writes' actor (Spoil from n place) same (won, busy, nothing) = (won, busy, sym (same place) ∙ nothing)
knows_same m runs writes writes' actor (Mend place) same inside = inside
knows_same m runs writes writes' actor (FillMended place) same (inside, busy, by) =
    (inside, busy, subst (λ xs. MendedBy runs xs place actor) (same place) by)
knows_same m runs writes writes' actor (Look place) same inside = inside

-- the same with the history in two parts
joined : (m : Storage) (actors : List Actor) (es fs : List (Event × Reply))
    → Holds m actors (runs_of es ++ runs_of fs) (λ q. writes_of q es ++ writes_of q fs)
    → Holds m actors (runs_of (es ++ fs)) (λ q. writes_of q (es ++ fs))
joined m actors es fs holds =
    let runs_are : runs_of es ++ runs_of fs ≡ runs_of (es ++ fs) = sym (runs_of-append es fs) in
    record {
      tile = subst (λ rs. Tile 0 rs m.size) runs_are holds.tile;
      taken = holds.taken;
      settled = λ q. subst (λ xs. Settlement (runs_of (es ++ fs)) xs q (finite.get m.slots q)) (sym (writes_of-append q es fs)) (subst (λ rs. Settlement rs (writes_of q es ++ writes_of q fs) q (finite.get m.slots q)) runs_are (holds.settled q));
      knows = λ actor state there. knows_same m (runs_of (es ++ fs)) (λ q. writes_of q es ++ writes_of q fs) (λ q. writes_of q (es ++ fs)) actor state.phase (λ q. sym (writes_of-append q es fs)) (subst (λ rs. Knows m rs (λ q. writes_of q es ++ writes_of q fs) actor state.phase) runs_are (holds.knows actor state there));
      owed = holds.owed;
    }

-- every step keeps what holds
pub step_holds : (c : Configuration) (events : List (Event × Reply)) (actor : ℕ) (memory : Bool) → IsInLimit c
    → HoldsAt c events → HoldsAt (step_of c actor memory).to (events ++ option_to_list (step_of c actor memory).event)
step_holds c events actor memory in_limit holds =
    step_cases (λ step. HoldsAt step.to (events ++ option_to_list step.event)) c actor memory
    (subst (HoldsAt c) (sym (append-nil events)) holds)
    (λ state command there is.
    let outcome = outcome_of c.limit c.storage actor command memory state.phase in
    joined outcome.storage (step_to c actor state command outcome).to.actors events (option_to_list outcome.event)
    (row_kept c.limit command memory state.phase (within_at c in_limit actor state command there is) (holds.knows actor state there) (record { holds = holds; there = there; stands = refl })))

-- so do items
pub items_hold : (p : Play) (items : List Item) → IsInLimit p.at → HoldsAt p.at p.events
    → HoldsAt (after_items p items).at (after_items p items).events
items_hold p [] in_limit holds = holds
items_hold p (item ∷ items) in_limit holds =
    items_hold (with_step p (step_of p.at item.actor item.memory)) items (step_in_limit p.at in_limit item.actor item.memory) (step_holds p.at p.events item.actor item.memory in_limit holds)

-- before the first step each actor is at Load
at_load : (programs : List (List Command)) (actor : ℕ) (state : Actor)
    → slice_get (first_configuration 0 0 programs).actors actor ≡ Some state → state.phase ≡ Load
at_load programs actor state is =
    elim (slice_get programs actor) as (λ o. option_map (λ program. record { program = program; ended = 0; phase = Load }) o ≡ Some state → state.phase ≡ Load)
    [ None ↦ (λ none. absurd (none-some state none)) | Some program ↦ (λ some. ap (λ (a : Actor). a.phase) (sym (same_Some _ state some))) ]
    (sym (slice_get-map (λ program. record { program = program; ended = 0; phase = Load }) programs actor) ∙ is)

empty_slot : (q : ℕ) → finite.get (first_configuration 0 0 []).storage.slots q ≡ None
empty_slot q = finite.get-empty nat_cmp q

pub opening_holds : (f limit : ℕ) (programs : List (List Command)) → HoldsAt (first_configuration f limit programs) []
opening_holds f limit programs = record {
  tile = refl;
  taken = λ q slot is. absurd (none-some slot (sym (empty_slot q) ∙ is));
  settled = λ q. subst (Settlement [] [] q) (sym (empty_slot q)) refl;
  knows = λ actor state is. subst (Knows (first_configuration f limit programs).storage [] (λ q. []) actor) (sym (at_load programs actor state is)) tt;
  owed = λ q inside. absurd (omega arith);
}

-- ---- The clauses

-- a place that an actor owes is its own to fill, and claimed
owes_open : (m : Storage) (runs : List OwnedRun) (writes : ℕ → List Event) (actor : ℕ) (phase : Phase) (q : ℕ)
    → Knows m runs writes actor phase
    → IsWonOrMended phase q → IsUnfinishedFor actor (finite.get m.slots q)
    → IsOpen runs actor q (finite.get m.slots q) × (q < m.size)
owes_open m runs writes actor Load q knows its its_own = absurd its
owes_open m runs writes actor (Scout from n k) q knows its its_own = absurd its
owes_open m runs writes actor (Put from n k) q knows its its_own = absurd its
owes_open m runs writes actor (Exchange from n) q knows its its_own = absurd its
owes_open m runs writes actor (Raise to) q knows its its_own = absurd its
owes_open m runs writes actor (Begin from n place) q (won, empty) (low, high) its_own =
    (open_for_owner runs actor q (finite.get m.slots q) (won.owned q low high) its_own, (let a = won.claimed in omega arith))
owes_open m runs writes actor (Fill from n place) q (won, busy, nothing) (low, high) its_own =
    (open_for_owner runs actor q (finite.get m.slots q) (won.owned q low high) its_own, (let a = won.claimed in omega arith))
owes_open m runs writes actor (Spoil from n place) q (won, busy, nothing) (low, high) its_own =
    (open_for_owner runs actor q (finite.get m.slots q) (won.owned q low high) its_own, (let a = won.claimed in omega arith))
owes_open m runs writes actor (Mend place) q knows its its_own = absurd its
owes_open m runs writes actor (FillMended place) q (inside, busy, by) same its_own =
    (subst (λ p. IsOpen runs actor p (finite.get m.slots p)) (sym same) (subst (IsOpen runs actor place) (sym busy) refl), subst (λ p. p < m.size) (sym same) inside)
owes_open m runs writes actor (Look place) q knows its its_own = absurd its

-- what was done at a place is as its slot says
filled_once_settled : (runs : List OwnedRun) (writes : List Event) (q : ℕ) (slot : Option CellSlot)
    → Settlement runs writes q slot
    → (writes ≡ []) ⊎ ((owner : ℕ) × (owner_of runs q ≡ Some owner) × IsWrittenFor owner q writes)
filled_once_settled runs writes q None is = inl is
filled_once_settled runs writes q (Some (Busy actor)) is = elim is [
  | inl (owns, nothing) ↦ inl nothing
  | inr by ↦ inr (by.owner, by.owns, inr (inr (inl (actor, by.is))))
]
filled_once_settled runs writes q (Some (Filled value)) is = elim is [
  | inl by ↦ inr (by.owner, by.owns, inl (value, by.is))
  | inr by ↦ inr (by.owner, by.owns, inr (inr (inr (by.mender, value, by.is))))
]
filled_once_settled runs writes q (Some Broken) is = inr (is.owner, is.owns, inr (inl is.is))

-- ---- Whose a place is to finish, by what was done there

-- who may finish a place after this event
after_write : Event → Option ℕ
after_write (events.Claim actor n) = None
after_write (events.Raise actor to) = None
after_write (events.Finish actor place value) = None
after_write (events.Break actor place) = None
after_write (events.Mend actor place) = Some actor
after_write (events.Look actor place) = None
after_write (events.Size actor) = None
after_write (events.RefusedFull actor n) = None
after_write (events.RefusedMemory actor) = None

-- who may finish a place after these events, if before them this actor might
finisher_after : Option ℕ → List Event → Option ℕ
finisher_after before [] = before
finisher_after before (event ∷ others) = finisher_after (after_write event) others

-- after a mend it is who mended
mender_finishes : (before : Option ℕ) (writes : List Event) (actor place : ℕ)
    → finisher_after before (writes ++ events.Mend actor place ∷ []) ≡ Some actor
unfolding finisher_after after_write
mender_finishes before [] actor place = refl
mender_finishes before (event ∷ others) actor place = mender_finishes (after_write event) others actor place

-- the actor whose a place is to finish
its_finisher : (es : List (Event × Reply)) (place actor : ℕ) (writes : List Event) → IsItsToFinish es place actor writes
    → finisher_after (owner_of (runs_of es) place) writes ≡ Some actor
unfolding finisher_after
its_finisher es place actor writes its = elim its [
  | inl (owns, nothing) ↦ ap (finisher_after (owner_of (runs_of es) place)) nothing ∙ owns
  | inr (before, is) ↦ ap (finisher_after (owner_of (runs_of es) place)) is ∙ mender_finishes (owner_of (runs_of es) place) before actor place
]

-- a place that is an actor's to finish by what was done there is its own to fill by its slot
finisher_open : (runs : List OwnedRun) (writes : List Event) (place actor : ℕ) (slot : Option CellSlot)
    → Settlement runs writes place slot → finisher_after (owner_of runs place) writes ≡ Some actor
    → IsOpen runs actor place slot
unfolding finisher_after after_write
finisher_open runs writes place actor None is finishes = sym (ap (finisher_after (owner_of runs place)) is) ∙ finishes
finisher_open runs writes place actor (Some (Busy other)) is finishes = elim is [
  | inl (owns, nothing) ↦ same_Some other actor (sym owns ∙ sym (ap (finisher_after (owner_of runs place)) nothing) ∙ finishes)
  | inr by ↦ same_Some other actor (sym (ap (finisher_after (owner_of runs place)) by.is) ∙ finishes)
]
finisher_open runs writes place actor (Some (Filled value)) is finishes = elim is [
  | inl by ↦ absurd (none-some actor (sym (ap (finisher_after (owner_of runs place)) by.is) ∙ finishes))
  | inr by ↦ absurd (none-some actor (sym (ap (finisher_after (owner_of runs place)) by.is) ∙ finishes))
]
finisher_open runs writes place actor (Some Broken) is finishes =
    absurd (none-some actor (sym (ap (finisher_after (owner_of runs place)) is.is) ∙ finishes))

-- a place that is an actor's own to fill by its slot is its to finish by what was done there
open_finisher : (es : List (Event × Reply)) (writes : List Event) (place actor : ℕ) (slot : Option CellSlot)
    → Settlement (runs_of es) writes place slot → IsOpen (runs_of es) actor place slot
    → IsItsToFinish es place actor writes
open_finisher es writes place actor None is its_own = inl (its_own, is)
open_finisher es writes place actor (Some (Busy other)) is its_own =
    subst (λ k. IsItsToFinish es place k writes) its_own
    (elim is [ inl (owns, nothing) ↦ inl (owns, nothing) | inr by ↦ inr (events.Break by.owner place ∷ [], by.is) ])
open_finisher es writes place actor (Some (Filled value)) is its_own = absurd its_own
open_finisher es writes place actor (Some Broken) is its_own = absurd its_own

-- a slot that is somebody's to fill is unfinished
open_unfinished : (runs : List OwnedRun) (actor place : ℕ) (slot : Option CellSlot) → IsOpen runs actor place slot
    → IsUnfinished slot
open_unfinished runs actor place None its_own = tt
open_unfinished runs actor place (Some (Busy other)) its_own = tt
open_unfinished runs actor place (Some (Filled value)) its_own = its_own
open_unfinished runs actor place (Some Broken) its_own = its_own

-- so is one that is unfinished for an actor
unfinished_for_one : (actor : ℕ) (slot : Option CellSlot) → IsUnfinishedFor actor slot → IsUnfinished slot
unfinished_for_one actor None is = tt
unfinished_for_one actor (Some (Busy other)) is = tt
unfinished_for_one actor (Some (Filled value)) is = is
unfinished_for_one actor (Some Broken) is = is

module _ (p : Play) (holds : HoldsAt p.at p.events) where
  -- a debt is its actor's to fill
  debt_open : (actor place : ℕ) → Owes p.at actor place
      → IsOpen (runs_of p.events) actor place (finite.get p.at.storage.slots place) × (place < p.at.storage.size)
  debt_open actor place owes =
      owes_open p.at.storage (runs_of p.events) (λ q. writes_of q p.events) actor owes.state.phase place (holds.knows actor owes.state owes.there) owes.its owes.unfinished

  -- an unfinished place is owed
  owed_by : (place : ℕ) → place < p.at.storage.size → IsUnfinished (finite.get p.at.storage.slots place)
      → (actor : ℕ) × Owes p.at actor place
  owed_by place inside unfinished =
      let some = holds.owed place inside unfinished in
      (some.actor, record { state = some.state; there = some.there; its = some.its; unfinished = some.unfinished })

  -- whose a place is to fill, who owes it
  open_owed : (actor place : ℕ) → place < p.at.storage.size
      → IsOpen (runs_of p.events) actor place (finite.get p.at.storage.slots place) → Owes p.at actor place
  open_owed actor place inside its_own =
      let (other, owes) = owed_by place inside (open_unfinished (runs_of p.events) actor place (finite.get p.at.storage.slots place) its_own) in
      subst (λ k. Owes p.at k place) (one_open (runs_of p.events) other actor place (finite.get p.at.storage.slots place) (debt_open other place owes).0 its_own) owes

  -- a place that is somebody's to fill is claimed
  open_claimed : (actor place : ℕ) → IsOpen (runs_of p.events) actor place (finite.get p.at.storage.slots place)
      → place < p.at.storage.size
  open_claimed actor place its_own =
      elim (finite.get p.at.storage.slots place) as (λ o. finite.get p.at.storage.slots place ≡ o → IsOpen (runs_of p.events) actor place o → place < p.at.storage.size) [
        | None ↦ (λ _ owned. elim (cases_lt place p.at.storage.size) [
          | inl below ↦ below
          | inr past ↦ absurd (none-some actor (sym (none_past 0 p.at.storage.size (runs_of p.events) place holds.tile past) ∙ owned))
        ])
        | Some slot ↦ (λ is _. holds.taken place slot is)
      ]
      refl its_own

  -- a place that is an actor's to finish by the history is owed by it
  finisher_owes : (actor place : ℕ) → IsItsToFinish p.events place actor (writes_of place p.events) → Owes p.at actor place
  finisher_owes actor place its =
      let its_own = finisher_open (runs_of p.events) (writes_of place p.events) place actor (finite.get p.at.storage.slots place) (holds.settled place) (its_finisher p.events place actor (writes_of place p.events) its) in
      open_owed actor place (open_claimed actor place its_own) its_own

-- what holds after a play, and its segments, say that it is tiled
tiled : (p : Play) → HoldsAt p.at p.events → HasSegments p.at → IsTiled p
tiled p holds has = record {
  runs_tile = holds.tile;
  owned = λ place inside. owned_between 0 p.at.storage.size (runs_of p.events) place holds.tile (omega arith) inside;
  filled_once = λ place. filled_once_settled (runs_of p.events) (writes_of place p.events) place (finite.get p.at.storage.slots place) (holds.settled place);
  segments_there = has.0;
  begins_empty = λ actor state from n place there phase. (
      let knows : Knows p.at.storage (runs_of p.events) (λ q. writes_of q p.events) actor (Begin from n place) = subst (Knows p.at.storage (runs_of p.events) (λ q. writes_of q p.events) actor) phase (holds.knows actor state there) in knows.1);
  debts_apart = λ a b place owes_a owes_b.
      one_open (runs_of p.events) a b place (finite.get p.at.storage.slots place) (debt_open p holds a place owes_a).0 (debt_open p holds b place owes_b).0;
  debts_pending = λ place. (
    λ (inside, unfinished). owed_by p holds place inside unfinished,
    λ (actor, owes). ((debt_open p holds actor place owes).1, unfinished_for_one actor (finite.get p.at.storage.slots place) owes.unfinished),
  );
  debts_of_history = λ actor place. (
    λ owes. open_finisher p.events (writes_of place p.events) place actor (finite.get p.at.storage.slots place) (holds.settled place) (debt_open p holds actor place owes).0,
    λ its. finisher_owes p holds actor place its,
  );
}

pub every_play_is_tiled : EveryPlayIsTiled
every_play_is_tiled f is_layout limit programs items is_limit =
    let opens = opening_in_limit f limit programs is_layout is_limit in
    let p = empty_play f limit programs in
    tiled (play_of f limit programs items) (items_hold p items opens (opening_holds f limit programs)) (items_have_segments p items opens (first_has_segments f limit programs))
