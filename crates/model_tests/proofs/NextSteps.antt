-- The effect of an actor's next step: the slot that it takes, and how it moves the size.
use Rattle.std.proofs.Common.{◌≡◌, ℕ, ◌+◌, ◌-◌, ◌<◌, ◌≢◌, ◌==◌, true, [], ◌∷◌, ◌++◌, cond, Some, slice_get, refl, ap, sym, ◌∙◌, subst, arith, inl, inr}
use Rattle.std.specs.Option.{option_to_list}
use Rattle.std.specs.FinMap as map
use Rattle.std.specs.Ordering.{nat_cmp, eq_by_cmp}
use Rattle.std.specs.Cmp.{nat_cmp_total, unsigned_tied}
use Rattle.std.proofs.lemmas.Bool.Decides.{eqb_tells, nat_tests}
use Rattle.std.proofs.lemmas.Option.{none-some, same_Some}
use Rattle.book_core.specs.declared.events.Event.{Event}
use Rattle.book_core.specs.declared.events.Event.TheVariants.{Claim, Raise}
use Rattle.book_core.specs.declared.events.Reply.TheVariants.{Run}
use Rattle.book_core.specs.declared.commands.Command.{Command}
use Rattle.book_core.specs.declared.commands.Command.TheVariants as commands
use Rattle.book_core.specs.declared.commands.Item.{Item}
use Rattle.book_core.specs.History.{OwnedRun, run_of, runs_of, Tile}
use Rattle.step_core.specs.declared.machine.phase.Actor.{Actor}
use Rattle.step_core.specs.declared.machine.phase.CellSlot.{CellSlot}
use Rattle.step_core.specs.declared.machine.phase.CellSlot.TheVariants.{Busy}
use Rattle.step_core.specs.machine.Claims.{claim_of, IsOwnClaim, MovesAtClaims, MovesAreOwnClaims, NothingIsClaimedAtLoad}
use Rattle.step_core.specs.machine.Headline.{EveryInterleavingIsSequential}
use Rattle.step_core.specs.machine.Step.{Step, begin_at, outcome_of, step_to, step_in, step_as}
use Rattle.step_core.specs.machine.Play.{Play, play_of}
use Rattle.step_core.specs.machine.Tiling.{BeginsMeetEmptySlots, EveryPlayIsTiled}
use Rattle.model_tests.specs.Places.{OfEveryPlay, OfEverySoundPlay, IsUnderWay, next_step, BeginsTakeTheSlot, MovesAreTheActorsClaims, NothingIsClaimedByNothing}

-- ---- Begin

-- the step of a call under way is its row of the table
step_is : (p : Play) (item : Item) (state : Actor) (command : Command) → IsUnderWay p item state command
    → next_step p item ≡ step_to p.at item.actor state command (outcome_of p.at.limit p.at.storage item.actor command item.memory state.phase)
step_is p item state command under =
    ap (step_as p.at item.actor item.memory) under.there ∙ ap (step_in p.at item.actor item.memory state) under.call

-- a key that was inserted has its value
inserted : (m : map.FinMap nat_cmp CellSlot) (place : ℕ) (slot : CellSlot) → map.get (map.insert m place slot) place ≡ Some slot
inserted m place slot =
    let key : eq_by_cmp nat_cmp place place ≡ true = unsigned_tied place place ∙ (let e : (place == place) ≡ true = grind (arith, nat_tests) in e) in
    map.get-insert nat_cmp_total m place slot place ∙ ap (λ b. cond b (Some slot) (map.get m place)) key

begin_takes : (p : Play) → BeginsMeetEmptySlots p → BeginsTakeTheSlot p
begin_takes p empty item state command from n place under at_begin =
    let none = empty item.actor state from n place under.there at_begin in
    ap (λ (step : Step). map.get step.to.storage.slots place) (step_is p item state command under)
    ∙ ap (λ phase. map.get (outcome_of p.at.limit p.at.storage item.actor command item.memory phase).storage.slots place) at_begin
    ∙ ap (λ slot. map.get (begin_at p.at.storage item.actor command from n place slot).storage.slots place) none
    ∙ inserted p.at.storage.slots place (Busy item.actor)

pub begins_take_the_slot : EveryPlayIsTiled → OfEveryPlay BeginsTakeTheSlot
begins_take_the_slot law f is_layout limit programs items is_limit =
    begin_takes (play_of f limit programs items) (law f is_layout limit programs items is_limit).begins_empty

-- ---- The size

-- the run of a call's own claim
own_run : (actor : ℕ) (command : Command) (claim : Event) (from n : ℕ) → claim_of actor command ≡ Some claim
    → run_of claim (Run from n) ≡ record { owner = actor; from = from; n = n } ∷ []
own_run actor (commands.Push value) claim from n own = ap (λ e. run_of e (Run from n)) (sym (same_Some (Claim actor 1) claim own))
own_run actor (commands.Grow m value) claim from n own = ap (λ e. run_of e (Run from n)) (sym (same_Some (Claim actor m) claim own))
own_run actor (commands.AtLeast to value) claim from n own = ap (λ e. run_of e (Run from n)) (sym (same_Some (Raise actor to) claim own))
own_run actor (commands.Fail m value at) claim from n own = ap (λ e. run_of e (Run from n)) (sym (same_Some (Claim actor m) claim own))
own_run actor (commands.Mend place value) claim from n own = absurd (none-some claim own)
own_run actor (commands.Read place) claim from n own = absurd (none-some claim own)
own_run actor commands.Size claim from n own = absurd (none-some claim own)

-- what a step moves the size by is the run of its event
moved_by : (p : Play) (item : Item) (claim : Event) (run : OwnedRun) → MovesAtClaims p
    → (next_step p item).event ≡ Some (claim, Run run.from run.n) → run_of claim (Run run.from run.n) ≡ run ∷ []
    → (next_step p item).to.storage.size ≡ p.at.storage.size + run.n
moved_by p item claim run at event is_run =
    let told : Tile p.at.storage.size (runs_of (option_to_list (Some (claim, Run run.from run.n)))) (next_step p item).to.storage.size =
    subst (λ e. Tile p.at.storage.size (runs_of (option_to_list e)) (next_step p item).to.storage.size) event (at item) in
    let tile : Tile p.at.storage.size (run ∷ []) (next_step p item).to.storage.size =
    subst (λ runs. Tile p.at.storage.size (runs ++ []) (next_step p item).to.storage.size) is_run told in
    sym tile.1

its_claim : (p : Play) → MovesAtClaims p → MovesAreOwnClaims p → MovesAreTheActorsClaims p
its_claim p at own item state command under =
    let before = p.at.storage.size in
    let after = (next_step p item).to.storage.size in
    elim (eqb_tells after before) [
      | inl same ↦ inl same.1
      | inr apart ↦ inr (
          let is : IsOwnClaim p.at item.actor (next_step p item) = own item apart.1 in
          let state_is : is.state ≡ state = same_Some is.state state (sym is.there ∙ under.there) in
          let call : slice_get state.program state.ended ≡ Some is.command = subst (λ (s : Actor). slice_get s.program s.ended ≡ Some is.command) state_is is.under_way in
          let command_is : is.command ≡ command = same_Some is.command command (sym call ∙ under.call) in
          let moved = moved_by p item is.claim (record { owner = item.actor; from = before; n = after - before }) at is.event
          (own_run item.actor is.command is.claim before (after - before) is.own) in
          let larger : before < after = (let other : after ≢ before = apart.1 in omega arith) in
          record {
            claim = is.claim;
            n = after - before;
            own = ap (claim_of item.actor) (sym command_is) ∙ is.own;
            event = is.event;
            some = omega arith;
            size = moved;
          })
    ]

pub moves_are_the_actors_claims : EveryInterleavingIsSequential → OfEverySoundPlay MovesAreTheActorsClaims
moves_are_the_actors_claims law f is_layout limit programs items is_limit sound =
    let is = law f is_layout limit programs items is_limit sound in
    its_claim (play_of f limit programs items) is.at_claims is.own_claims

claims_nothing : (p : Play) → MovesAtClaims p → NothingIsClaimedAtLoad p → NothingIsClaimedByNothing p
claims_nothing p at load item state value under =
    let is = load item state value under.there under.call in
    let moved = moved_by p item (Claim item.actor 0) (record { owner = item.actor; from = p.at.storage.size; n = 0 }) at is.1 refl in
    (is.0, omega arith)

pub nothing_is_claimed_by_nothing : EveryInterleavingIsSequential → OfEverySoundPlay NothingIsClaimedByNothing
nothing_is_claimed_by_nothing law f is_layout limit programs items is_limit sound =
    let is = law f is_layout limit programs items is_limit sound in
    claims_nothing (play_of f limit programs items) is.at_claims is.nothing_at_load
