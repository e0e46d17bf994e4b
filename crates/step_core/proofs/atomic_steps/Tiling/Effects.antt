-- The effects of the kinds of step on the storage, and that they keep what holds.
use Rattle.std.proofs.Common.{◌≡◌, ◌≢◌, ℕ, ◌+◌, ◌<◌, ◌⊎◌, List, [], ◌∷◌, ◌++◌, Option, Some, None, slice_get, slice_set, refl, ap, sym, ◌∙◌, subst, arith, inl, inr}
use Rattle.std.proofs.Math.Nat.{le_refl}
use Rattle.std.proofs.lemmas.Bool.Decides.{eqb_tells}
use Rattle.std.proofs.lemmas.List.{append-nil}
use Rattle.std.proofs.lemmas.Option.{same_Some}
use Rattle.std.specs.Ordering.{nat_cmp}
use Rattle.std.specs.FinMap as map
use Rattle.std.specs.FinSet as set
use Rattle.book_core.specs.declared.events.Event.{Event}
use Rattle.book_core.specs.History.{OwnedRun, owner_of}
use Rattle.book_core.proofs.Lists.{get_set, get_other}
use Rattle.book_core.proofs.Runs.{owner_kept, tile-append}
use Rattle.step_core.specs.declared.machine.phase.CellSlot.{CellSlot}
use Rattle.step_core.specs.declared.machine.phase.CellSlot.TheVariants.{Busy, Filled, Broken}
use Rattle.step_core.specs.declared.machine.phase.Phase.{Phase}
use Rattle.step_core.specs.declared.machine.phase.Actor.{Actor}
use Rattle.step_core.specs.machine.Storage.{Storage}
use Rattle.step_core.specs.machine.Step.{with_size, with_slot}
use Rattle.step_core.specs.machine.Tiling.{IsUnfinished, IsUnfinishedFor, IsWonOrMended}
use Rattle.step_core.proofs.atomic_steps.Tiling.Invariant.{get_set_same, get_set_other, IsOpen, one_open, Knows, Settlement, Holds, Effect, knows_kept}

-- an unfinished place after the step: the stepping actor owes it now; or its slot stays, and the actor didn't
-- owe it before
abbrev pub Covered : ℕ → Storage → Storage → Phase → Phase → ℕ → Type 0
Covered actor m m' old next q =
    (IsWonOrMended next q × IsUnfinishedFor actor (map.get m'.slots q))
    ⊎ ((q < m.size) × (map.get m'.slots q ≡ map.get m.slots q) × (IsWonOrMended old q → IsUnfinishedFor actor (map.get m.slots q) → ⊥))

-- the run of n places from the size on
abbrev pub next_run : Storage → ℕ → ℕ → OwnedRun
next_run m actor n = record { owner = actor; from = m.size; n = n }

-- other segments are installed
abbrev pub with_installed : Storage → set.FinSet nat_cmp → Storage
with_installed m segments = record { layout = m.layout; size = m.size; installed = segments; slots = m.slots }

-- what was done at a place is the same where runs follow
settlement_kept : (runs more : List OwnedRun) (writes : List Event) (place : ℕ) (slot : Option CellSlot)
    → Settlement runs writes place slot → Settlement (runs ++ more) writes place slot
settlement_kept runs more writes place None is = is
settlement_kept runs more writes place (Some (Busy actor)) is = elim is [
  | inl (owns, nothing) ↦ inl (owner_kept runs more place actor owns, nothing)
  | inr mended ↦ inr (record { owner = mended.owner; owns = owner_kept runs more place mended.owner mended.owns; is = mended.is })
]
settlement_kept runs more writes place (Some (Filled value)) is = elim is [
  | inl filled ↦ inl (record { owner = filled.owner; owns = owner_kept runs more place filled.owner filled.owns; is = filled.is })
  | inr filled ↦ inr (record { owner = filled.owner; mender = filled.mender; owns = owner_kept runs more place filled.owner filled.owns; is = filled.is })
]
settlement_kept runs more writes place (Some Broken) is = record { owner = is.owner; owns = owner_kept runs more place is.owner is.owns; is = is.is }

module _ {m : Storage} {actors : List Actor} {runs : List OwnedRun} {writes : ℕ → List Event} (holds : Holds m actors runs writes) (actor : ℕ) where
  -- a step keeps what holds
  pub combined : {m' : Storage} {runs' : List OwnedRun} {writes' : ℕ → List Event} (state next : Actor)
      → slice_get actors actor ≡ Some state → Effect actor m m' runs runs' writes writes'
      → Knows m' runs' writes' actor next.phase
      → ((q : ℕ) → q < m'.size → IsUnfinished (map.get m'.slots q) → Covered actor m m' state.phase next.phase q)
      → Holds m' (slice_set actors actor next) runs' writes'
  combined {m' = m'} {runs' = runs'} {writes' = writes'} state next there effect knows covered = record {
    tile = effect.tile;
    taken = effect.taken;
    settled = effect.settled;
    knows = λ other other_state is. elim (eqb_tells other actor) [
      | inl same ↦ (
          let here : slice_get (slice_set actors actor next) actor ≡ Some other_state = subst (λ o. slice_get (slice_set actors actor next) o ≡ Some other_state) same.1 is in
          let state_is : next ≡ other_state = same_Some next other_state (sym (get_set actors actor state next there) ∙ here) in
          subst (λ o. Knows m' runs' writes' o other_state.phase) (sym same.1) (subst (λ (a : Actor). Knows m' runs' writes' actor a.phase) state_is knows))
      | inr apart ↦ knows_kept effect other apart.1 other_state.phase (holds.knows other other_state (sym (get_other actors actor other next apart.1) ∙ is))
    ];
    owed = λ q inside unfinished. elim (covered q inside unfinished) [
      | inl ours ↦ record { actor = actor; state = next; there = get_set actors actor state next there; its = ours.0; unfinished = ours.1 }
      | inr theirs ↦ (
          let before = holds.owed q theirs.0 (subst IsUnfinished theirs.1 unfinished) in
          elim (eqb_tells before.actor actor) [
            | inl same ↦ absurd (
                let state_is : state ≡ before.state = same_Some state before.state (sym there ∙ sym (ap (slice_get actors) same.1) ∙ before.there) in
                theirs.2 (subst (λ (a : Actor). IsWonOrMended a.phase q) (sym state_is) before.its) (subst (λ k. IsUnfinishedFor k (map.get m.slots q)) same.1 before.unfinished))
            | inr apart ↦ record {
              actor = before.actor;
              state = before.state;
              there = get_other actors actor before.actor next apart.1 ∙ before.there;
              its = before.its;
              unfinished = subst (IsUnfinishedFor before.actor) (sym theirs.1) before.unfinished;
            }
          ])
    ];
  }

  -- no place is claimed, begun or finished
  pub quiet_effect : (segments : set.FinSet nat_cmp) → Effect actor m (with_installed m segments) runs runs writes writes
  quiet_effect segments = record {
    tile = holds.tile;
    taken = holds.taken;
    settled = holds.settled;
    grows = le_refl m.size;
    stays_owned = λ q o is. is;
    others = λ q o apart its_own. (refl, refl);
    gives = λ q o apart its_own. refl;
  }

  -- places are claimed
  pub claim_effect : (n : ℕ) → Effect actor m (with_size m (m.size + n)) runs (runs ++ next_run m actor n ∷ []) writes writes
  claim_effect n = record {
    tile = tile-append 0 m.size (m.size + n) runs (next_run m actor n ∷ []) holds.tile (refl, refl);
    taken = λ q slot is. (let a = holds.taken q slot is in omega arith);
    settled = λ q. settlement_kept runs (next_run m actor n ∷ []) (writes q) q (map.get m.slots q) (holds.settled q);
    grows = omega arith;
    stays_owned = λ q owner is. owner_kept runs (next_run m actor n ∷ []) q owner is;
    others = λ q o apart its_own. (refl, refl);
    gives = λ q o apart its_own. refl;
  }

  -- The slot of a place is set that the actor may fill, or that was broken; it is no other's to fill then,
  -- and what was done at other places stays.
  pub set_effect : (place : ℕ) (slot : CellSlot) (writes' : ℕ → List Event) → place < m.size
      → (IsOpen runs actor place (map.get m.slots place) ⊎ (map.get m.slots place ≡ Some Broken))
      → ((other : ℕ) → IsOpen runs other place (Some slot) → other ≡ actor)
      → Settlement runs (writes' place) place (Some slot) → ((q : ℕ) → q ≢ place → writes' q ≡ writes q)
      → Effect actor m (with_slot m place slot) runs runs writes writes'
  set_effect place slot writes' inside before after here kept = record {
    tile = holds.tile;
    taken = λ q other is. elim (eqb_tells q place) [
      | inl same ↦ (let e : q ≡ place = same.1 in omega arith)
      | inr apart ↦ holds.taken q other (sym (get_set_other m place slot q apart.1) ∙ is)
    ];
    settled = λ q. elim (eqb_tells q place) [
      | inl same ↦ subst (λ p. Settlement runs (writes' p) p (map.get (with_slot m place slot).slots p)) (sym same.1)
          (subst (Settlement runs (writes' place) place) (sym (get_set_same m place slot)) here)
      | inr apart ↦ subst (Settlement runs (writes' q) q) (sym (get_set_other m place slot q apart.1))
          (subst (λ xs. Settlement runs xs q (map.get m.slots q)) (sym (kept q apart.1)) (holds.settled q))
    ];
    grows = le_refl m.size;
    stays_owned = λ q o is. is;
    others = λ q other not_ours its_own. elim (eqb_tells q place) [
      | inl same ↦ absurd (
          let there : IsOpen runs other place (map.get m.slots place) = subst (λ p. IsOpen runs other p (map.get m.slots p)) same.1 its_own in
          elim before [
            | inl ours ↦ not_ours (one_open runs other actor place (map.get m.slots place) there ours)
            | inr broken ↦ subst (IsOpen runs other place) broken there
          ])
      | inr apart ↦ (get_set_other m place slot q apart.1, kept q apart.1)
    ];
    gives = λ q other not_ours its_own. elim (eqb_tells q place) [
      | inl same ↦ absurd (not_ours (after other (subst (IsOpen runs other place) (get_set_same m place slot) (subst (λ p. IsOpen runs other p (map.get (with_slot m place slot).slots p)) same.1 its_own))))
      | inr apart ↦ get_set_other m place slot q apart.1
    ];
  }

  -- the owner begins its place
  pub begin_effect : (place : ℕ) → place < m.size → owner_of runs place ≡ Some actor → map.get m.slots place ≡ None
      → Effect actor m (with_slot m place (Busy actor)) runs runs writes writes
  begin_effect place inside ours empty =
      set_effect place (Busy actor) writes inside (inl (subst (IsOpen runs actor place) (sym empty) ours)) (λ other its_own. sym its_own)
      (inl (ours, subst (Settlement runs (writes place) place) empty (holds.settled place))) (λ q apart. refl)

  -- an event is the first or the next at a place whose slot is set, and no event at any other
  pub write_effect : (place : ℕ) (slot : CellSlot) (event : Event) (gained : ℕ → List Event) → place < m.size
      → (IsOpen runs actor place (map.get m.slots place) ⊎ (map.get m.slots place ≡ Some Broken))
      → ((other : ℕ) → IsOpen runs other place (Some slot) → other ≡ actor)
      → Settlement runs (writes place ++ event ∷ []) place (Some slot) → gained place ≡ event ∷ []
      → ((q : ℕ) → q ≢ place → gained q ≡ [])
      → Effect actor m (with_slot m place slot) runs runs writes (λ q. writes q ++ gained q)
  write_effect place slot event gained inside before after here gains nothing =
      set_effect place slot (λ q. writes q ++ gained q) inside before after
      (subst (λ xs. Settlement runs (writes place ++ xs) place (Some slot)) (sym gains) here)
      (λ q apart. ap (λ xs. writes q ++ xs) (nothing q apart) ∙ append-nil (writes q))
