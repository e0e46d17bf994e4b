-- The invariant of every step: the facts that imply the clauses on tiling, owners, segments and debts.
use Rattle.std.proofs.Common.{◌≡◌, ◌≢◌, ℕ, ◌+◌, ◌<◌, ◌≤◌, ◌⊎◌, cond, List, [], ◌∷◌, Option, Some, None, slice_get, refl, ap, sym, ◌∙◌, subst, arith}
use Rattle.std.proofs.lemmas.Option.{same_Some}
use Rattle.std.specs.Cmp.{nat_cmp_total}
use Rattle.std.specs.FinMap as map
use Rattle.book_core.specs.declared.events.Event.{Event}
use Rattle.book_core.specs.declared.events.Event.TheVariants as events
use Rattle.book_core.specs.History.{OwnedRun, owner_of, Tile}
use Rattle.step_core.specs.declared.machine.phase.CellSlot.{CellSlot}
use Rattle.step_core.specs.declared.machine.phase.CellSlot.TheVariants.{Busy, Filled, Broken}
use Rattle.step_core.specs.declared.machine.phase.Phase.{Phase}
use Rattle.step_core.specs.declared.machine.phase.Phase.TheVariants.{Load, Scout, Put, Exchange, Raise, Begin, Fill, Spoil, Mend, FillMended, Look}
use Rattle.step_core.specs.declared.machine.phase.Actor.{Actor}
use Rattle.step_core.specs.machine.Storage.{Storage}
use Rattle.step_core.specs.machine.Step.{with_slot}
use Rattle.step_core.specs.machine.Tiling.{IsUnfinished, IsUnfinishedFor, IsWonOrMended}
use Rattle.step_core.proofs.atomic_steps.Keys.{same_key, other_key}

-- ---- Slots after a change

-- the slot that was set holds what it was set to
pub get_set_same : (m : Storage) (place : ℕ) (slot : CellSlot) → map.get (with_slot m place slot).slots place ≡ Some slot
get_set_same m place slot =
    map.get-insert nat_cmp_total m.slots place slot place
    ∙ ap (λ b. cond b (Some slot) (map.get m.slots place)) (same_key place)

-- any other slot is as it was
pub get_set_other : (m : Storage) (place : ℕ) (slot : CellSlot) (q : ℕ) → q ≢ place
    → map.get (with_slot m place slot).slots q ≡ map.get m.slots q
get_set_other m place slot q other =
    map.get-insert nat_cmp_total m.slots place slot q
    ∙ ap (λ b. cond b (Some slot) (map.get m.slots q)) (other_key q place other)

-- where what is taken lies below the size, no slot at or past the size is taken
pub empty_past : (m : Storage) → ((q : ℕ) (slot : CellSlot) → map.get m.slots q ≡ Some slot → q < m.size)
    → (q : ℕ) → m.size ≤ q → map.get m.slots q ≡ None
empty_past m taken q past =
    elim (map.get m.slots q) as (λ o. map.get m.slots q ≡ o → o ≡ None)
    [ None ↦ (λ _. refl) | Some slot ↦ (λ is. absurd (let inside = taken q slot is in omega arith)) ]
    refl

-- ---- Whose a place is to fill

-- the place is the actor's to fill: it owns the place, whose slot is empty; or the slot is busy for it
abbrev pub IsOpen : List OwnedRun → ℕ → ℕ → Option CellSlot → Type 0
IsOpen runs actor place None = owner_of runs place ≡ Some actor
IsOpen runs actor place (Some (Busy other)) = other ≡ actor
IsOpen runs actor place (Some (Filled value)) = ⊥
IsOpen runs actor place (Some Broken) = ⊥

-- it is so for one actor alone
pub one_open : (runs : List OwnedRun) (a b place : ℕ) (slot : Option CellSlot) → IsOpen runs a place slot
    → IsOpen runs b place slot → a ≡ b
one_open runs a b place None for_a for_b = same_Some a b (sym for_a ∙ for_b)
one_open runs a b place (Some (Busy other)) for_a for_b = sym for_a ∙ for_b
one_open runs a b place (Some (Filled value)) for_a for_b = absurd for_a
one_open runs a b place (Some Broken) for_a for_b = absurd for_a

-- an owner's unfinished place is its own to fill
pub open_for_owner : (runs : List OwnedRun) (actor place : ℕ) (slot : Option CellSlot) → owner_of runs place ≡ Some actor
    → IsUnfinishedFor actor slot → IsOpen runs actor place slot
open_for_owner runs actor place None owns is = owns
open_for_owner runs actor place (Some (Busy other)) owns is = is
open_for_owner runs actor place (Some (Filled value)) owns is = is
open_for_owner runs actor place (Some Broken) owns is = is

-- ---- What was done at a place

-- its owner filled it, and nothing else was done there
pub record FilledByOwner (runs : List OwnedRun) (writes : List Event) (place value : ℕ) : Type 0 where
  pub owner : ℕ
  pub owns : owner_of runs place ≡ Some owner
  pub is : writes ≡ events.Finish owner place value ∷ []

-- its owner broke it
pub record BrokenByOwner (runs : List OwnedRun) (writes : List Event) (place : ℕ) : Type 0 where
  pub owner : ℕ
  pub owns : owner_of runs place ≡ Some owner
  pub is : writes ≡ events.Break owner place ∷ []

-- then this actor mended it
pub record MendedBy (runs : List OwnedRun) (writes : List Event) (place mender : ℕ) : Type 0 where
  pub owner : ℕ
  pub owns : owner_of runs place ≡ Some owner
  pub is : writes ≡ events.Break owner place ∷ events.Mend mender place ∷ []

-- and who mended it filled it
pub record FilledByMender (runs : List OwnedRun) (writes : List Event) (place value : ℕ) : Type 0 where
  pub owner : ℕ
  pub mender : ℕ
  pub owns : owner_of runs place ≡ Some owner
  pub is : writes ≡ events.Break owner place ∷ events.Mend mender place ∷ events.Finish mender place value ∷ []

-- what was done at a place, by what its slot holds
abbrev pub Settlement : List OwnedRun → List Event → ℕ → Option CellSlot → Type 0
Settlement runs writes place None = writes ≡ []
Settlement runs writes place (Some (Busy actor)) =
    ((owner_of runs place ≡ Some actor) × (writes ≡ [])) ⊎ MendedBy runs writes place actor
Settlement runs writes place (Some (Filled value)) = FilledByOwner runs writes place value ⊎ FilledByMender runs writes place value
Settlement runs writes place (Some Broken) = BrokenByOwner runs writes place

-- ---- What each phase knows

-- the places from one up to an end are won by the actor; up to a place they are finished, and behind it empty
pub record Won (m : Storage) (runs : List OwnedRun) (actor from n place : ℕ) : Type 0 where
  pub within : from ≤ place
  pub before : place < from + n
  pub claimed : from + n ≤ m.size
  pub owned : (q : ℕ) → from ≤ q → q < from + n → owner_of runs q ≡ Some actor
  pub done : (q : ℕ) → from ≤ q → q < place → IsUnfinishedFor actor (map.get m.slots q) → ⊥
  pub ahead : (q : ℕ) → place < q → q < from + n → map.get m.slots q ≡ None

-- what an actor in this phase knows, by what was done at the places
abbrev pub Knows : Storage → List OwnedRun → (ℕ → List Event) → ℕ → Phase → Type 0
Knows m runs writes actor Load = Unit {0}
Knows m runs writes actor (Scout from n k) = Unit {0}
Knows m runs writes actor (Put from n k) = Unit {0}
Knows m runs writes actor (Exchange from n) = Unit {0}
Knows m runs writes actor (Raise to) = Unit {0}
Knows m runs writes actor (Begin from n place) = Won m runs actor from n place × (map.get m.slots place ≡ None)
Knows m runs writes actor (Fill from n place) =
    Won m runs actor from n place × (map.get m.slots place ≡ Some (Busy actor)) × (writes place ≡ [])
Knows m runs writes actor (Spoil from n place) =
    Won m runs actor from n place × (map.get m.slots place ≡ Some (Busy actor)) × (writes place ≡ [])
Knows m runs writes actor (Mend place) = place < m.size
Knows m runs writes actor (FillMended place) =
    (place < m.size) × (map.get m.slots place ≡ Some (Busy actor)) × MendedBy runs (writes place) place actor
Knows m runs writes actor (Look place) = place < m.size

-- an actor has won or mended the place, and not finished it
pub record IsOwedBySome (m : Storage) (actors : List Actor) (place : ℕ) : Type 0 where
  pub actor : ℕ
  pub state : Actor
  pub there : slice_get actors actor ≡ Some state
  pub its : IsWonOrMended state.phase place
  pub unfinished : IsUnfinishedFor actor (map.get m.slots place)

-- what holds between two steps
pub record Holds (m : Storage) (actors : List Actor) (runs : List OwnedRun) (writes : ℕ → List Event) : Type 0 where
  pub tile : Tile 0 runs m.size
  pub taken : (q : ℕ) (slot : CellSlot) → map.get m.slots q ≡ Some slot → q < m.size
  pub settled : (q : ℕ) → Settlement runs (writes q) q (map.get m.slots q)
  pub knows : (actor : ℕ) (state : Actor) → slice_get actors actor ≡ Some state → Knows m runs writes actor state.phase
  pub owed : (q : ℕ) → q < m.size → IsUnfinished (map.get m.slots q) → IsOwedBySome m actors q

-- what a step of an actor does to what is storage, as the others see it: it leaves the places that are theirs
-- to fill, and makes no place theirs
pub record Effect (actor : ℕ) (m m' : Storage) (runs runs' : List OwnedRun) (writes writes' : ℕ → List Event) : Type 0 where
  pub tile : Tile 0 runs' m'.size
  pub taken : (q : ℕ) (slot : CellSlot) → map.get m'.slots q ≡ Some slot → q < m'.size
  pub settled : (q : ℕ) → Settlement runs' (writes' q) q (map.get m'.slots q)
  pub grows : m.size ≤ m'.size
  pub stays_owned : (q owner : ℕ) → owner_of runs q ≡ Some owner → owner_of runs' q ≡ Some owner
  pub others : (q other : ℕ) → other ≢ actor → IsOpen runs other q (map.get m.slots q) → (map.get m'.slots q ≡ map.get m.slots q) × (writes' q ≡ writes q)
  pub gives : (q other : ℕ) → other ≢ actor → IsOpen runs' other q (map.get m'.slots q) → map.get m'.slots q ≡ map.get m.slots q

module _ {actor : ℕ} {m m' : Storage} {runs runs' : List OwnedRun} {writes writes' : ℕ → List Event} (effect : Effect actor m m' runs runs' writes writes') (other : ℕ) (apart : other ≢ actor) where
  -- a slot that is known to be the other's to fill stays, and nothing is done there
  slot_kept : (q : ℕ) (slot : Option CellSlot) → map.get m.slots q ≡ slot → IsOpen runs other q slot
      → (map.get m'.slots q ≡ slot) × (writes' q ≡ writes q)
  slot_kept q slot is its_own =
      let stays = effect.others q other apart (subst (IsOpen runs other q) (sym is) its_own) in
      (stays.0 ∙ is, stays.1)

  -- the places of others stay as they know them
  won_kept : (from n place : ℕ) → Won m runs other from n place → Won m' runs' other from n place
  won_kept from n place won = record {
    within = won.within;
    before = won.before;
    claimed = (let a = won.claimed in let b = effect.grows in omega arith);
    owned = λ q low high. effect.stays_owned q other (won.owned q low high);
    done = λ q low high unfinished. (
        let ours = effect.stays_owned q other (won.owned q low (let a = won.before in omega arith)) in
        let same = effect.gives q other apart (open_for_owner runs' other q (map.get m'.slots q) ours unfinished) in
        won.done q low high (subst (IsUnfinishedFor other) same unfinished));
    ahead = λ q low high. (slot_kept q None (won.ahead q low high) (won.owned q (let a = won.within in omega arith) high)).0;
  }

  -- so stays what they know
  pub knows_kept : (phase : Phase) → Knows m runs writes other phase → Knows m' runs' writes' other phase
  knows_kept Load knows = tt
  knows_kept (Scout from n k) knows = tt
  knows_kept (Put from n k) knows = tt
  knows_kept (Exchange from n) knows = tt
  knows_kept (Raise to) knows = tt
  knows_kept (Begin from n place) (won, empty) =
      (won_kept from n place won, (slot_kept place None empty (won.owned place won.within won.before)).0)
  knows_kept (Fill from n place) (won, busy, nothing) =
      let stays = slot_kept place (Some (Busy other)) busy refl in
      (won_kept from n place won, stays.0, stays.1 ∙ nothing)
  knows_kept (Spoil from n place) (won, busy, nothing) =
      let stays = slot_kept place (Some (Busy other)) busy refl in
      (won_kept from n place won, stays.0, stays.1 ∙ nothing)
  knows_kept (Mend place) inside = (let a = effect.grows in omega arith)
  knows_kept (FillMended place) (inside, busy, mended) =
      let stays = slot_kept place (Some (Busy other)) busy refl in
      ((let a = effect.grows in omega arith), stays.0, record { owner = mended.owner; owns = effect.stays_owned place mended.owner mended.owns; is = stays.1 ∙ mended.is })
  knows_kept (Look place) inside = (let a = effect.grows in omega arith)
