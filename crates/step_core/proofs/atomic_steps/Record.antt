-- Every play is recorded: the events of each actor are the records of its ended calls, and a beginning of one
-- more.
pub mod Settled
pub mod Rows
use Rattle.std.proofs.Common.{◌≡◌, ◌≢◌, ℕ, ◌+◌, ◌==◌, Bool, List, [], ◌∷◌, ◌++◌, length, All, Option, Some, None, IfSome, unwrap_or, slice_get, slice_set, refl, ap, sym, ◌∙◌, subst, arith, inl, inr, append_assoc, eq-eqb}
use Rattle.std.proofs.lemmas.Bool.{ne_eqb}
use Rattle.std.proofs.lemmas.Bool.Decides.{eqb_tells}
use Rattle.std.proofs.lemmas.List.{append-nil, length-append}
use Rattle.std.proofs.lemmas.List.Elements.{filter-append}
use Rattle.std.proofs.lemmas.Option.{slice_get-map}
use Rattle.std.specs.Option.{option_to_list, option_map}
use Rattle.book_core.specs.declared.events.Event.{Event}
use Rattle.book_core.specs.declared.events.Reply.{Reply}
use Rattle.book_core.specs.declared.commands.Command.{Command}
use Rattle.book_core.specs.declared.commands.Answer.{Answer}
use Rattle.book_core.specs.declared.commands.Ended.{Ended}
use Rattle.book_core.specs.declared.commands.Item.{Item}
use Rattle.book_core.specs.Commands.{IsSound, AreSound, calls_of}
use Rattle.step_core.specs.declared.machine.phase.Phase.{Phase}
use Rattle.step_core.specs.declared.machine.phase.Phase.TheVariants.{Load}
use Rattle.step_core.specs.declared.machine.phase.Next.{Next}
use Rattle.step_core.specs.declared.machine.phase.Next.TheVariants.{Goes, Ends}
use Rattle.step_core.specs.declared.machine.phase.Actor.{Actor}
use Rattle.step_core.specs.machine.Step.{actor_after, ended_by, Configuration, Outcome, first_configuration, outcome_of, step_to, step_of}
use Rattle.step_core.specs.machine.Bounds.{IsWithin, IsInLimit}
use Rattle.step_core.specs.machine.Play.{Play, empty_play, with_step, after_items, play_of}
use Rattle.step_core.specs.machine.Record.{IsRecord, AreCalls, IsUnderWay, AreSoFar, IsRecorded, EveryPlayIsRecorded, program_of}
use Rattle.book_core.specs.Events.{actor_of}
use Rattle.book_core.specs.History.{events_of}
use Rattle.book_core.proofs.Lists.{at_place, get_set, get_other}
use Rattle.step_core.proofs.atomic_steps.Cases.{step_cases}
use Rattle.step_core.proofs.atomic_steps.Bounds.{opening_in_limit, actor_at, within_at, step_in_limit}
use Rattle.step_core.proofs.atomic_steps.Legal.{items_in_limit}
use Rattle.step_core.proofs.atomic_steps.Record.Rows.{StageOf, Told, IsOf, Tells, row_told, stage_begun, stage_so_far}

-- what a phase says of the call under way and of its events so far; without a call there are none
abbrev pub OfStage : ℕ → Option Command → Phase → List (Event × Reply) → Type 0
OfStage actor None phase now = (now ≡ []) × (phase ≡ Load)
OfStage actor (Some command) phase now = StageOf actor command phase now

-- an actor with these events and these ended calls
pub record Standing (programs : List (List Command)) (actor : ℕ) (state : Actor) (es : List (Event × Reply)) (calls : List Ended) : Type 0 where
  pub program : slice_get programs actor ≡ Some state.program
  pub done : List (Event × Reply)
  pub now : List (Event × Reply)
  pub whole : es ≡ done ++ now
  pub ended : AreCalls actor state.program 0 calls done
  pub count : length calls ≡ state.ended
  pub stage : OfStage actor (slice_get state.program state.ended) state.phase now

-- who is no actor has no program, no events and no calls
abbrev pub Stands : List (List Command) → ℕ → Option Actor → List (Event × Reply) → List Ended → Type 0
Stands programs actor None es calls = (slice_get programs actor ≡ None) × (es ≡ []) × (calls ≡ [])
Stands programs actor (Some state) es calls = Standing programs actor state es calls

-- so it is of everybody
abbrev pub AllStand : List (List Command) → List Actor → List (Event × Reply) → List Ended → Type 0
AllStand programs actors events ended = (actor : ℕ) → Stands programs actor (slice_get actors actor) (events_of actor events) (calls_of actor ended)

-- ---- One more event, and one more call

module _ (actor : ℕ) (events : List (Event × Reply)) (event : Option (Event × Reply)) (its : IsOf actor event) where
  -- an event of this actor goes behind its events
  events_own : events_of actor (events ++ option_to_list event) ≡ events_of actor events ++ option_to_list event
  events_own =
      elim event as (λ o. IsOf actor o → events_of actor (events ++ option_to_list o) ≡ events_of actor events ++ option_to_list o) [
        | None ↦ (λ _. filter-append (λ e. actor_of e.0 == actor) events [])
        | Some e ↦ (λ is.
            filter-append (λ e. actor_of e.0 == actor) events (e ∷ [])
            ∙ ap (λ es. events_of actor events ++ es) (rw (eq-eqb (actor_of e.0) actor is) refl))
      ]
      its

  -- to another's events it adds nothing
  events_other : (other : ℕ) → other ≢ actor → events_of other (events ++ option_to_list event) ≡ events_of other events
  events_other other apart =
      elim event as (λ o. IsOf actor o → events_of other (events ++ option_to_list o) ≡ events_of other events) [
        | None ↦ (λ _. ap (events_of other) (append-nil events))
        | Some e ↦ (λ is.
            let none : events_of other (e ∷ []) ≡ [] = rw (ne_eqb (actor_of e.0) other (λ same. apart (sym same ∙ is))) refl in
            filter-append (λ e. actor_of e.0 == other) events (e ∷ [])
            ∙ ap (λ es. events_of other events ++ es) none
            ∙ append-nil (events_of other events))
      ]
      its

module _ (actor : ℕ) (state : Actor) (command : Command) (ended : List Ended) where
  -- a call of this actor that ends goes behind its ended calls
  calls_own : (next : Next)
      → calls_of actor (ended ++ option_to_list (ended_by actor state command next)) ≡ calls_of actor ended ++ option_to_list (ended_by actor state command next)
  calls_own (Goes phase) = filter-append (λ (e : Ended). e.actor == actor) ended []
  calls_own (Ends answer) =
      filter-append (λ (e : Ended). e.actor == actor) ended (option_to_list (ended_by actor state command (Ends answer)))
      ∙ ap (λ es. calls_of actor ended ++ es) (rw (eq-eqb actor actor refl) refl)

  -- to another's calls it adds nothing
  calls_other : (other : ℕ) (next : Next) → other ≢ actor
      → calls_of other (ended ++ option_to_list (ended_by actor state command next)) ≡ calls_of other ended
  calls_other other (Goes phase) apart = ap (calls_of other) (append-nil ended)
  calls_other other (Ends answer) apart =
      let none : calls_of other (option_to_list (ended_by actor state command (Ends answer))) ≡ [] = rw (ne_eqb actor other (λ same. apart (sym same))) refl in
      filter-append (λ (e : Ended). e.actor == other) ended (option_to_list (ended_by actor state command (Ends answer)))
      ∙ ap (λ es. calls_of other ended ++ es) none
      ∙ append-nil (calls_of other ended)

-- the next call of the program goes behind the ended ones, with its record
calls_more : (actor : ℕ) (program : List Command) (number last : ℕ) (calls : List Ended)
    (es now : List (Event × Reply)) (command : Command) (answer : Answer)
    → AreCalls actor program number calls es → number + length calls ≡ last → slice_get program last ≡ Some command
    → IsRecord actor command now answer
    → AreCalls actor program number (calls ++ record { actor = actor; number = last + 1; command = command; answer = answer } ∷ []) (es ++ now)
calls_more actor program number last [] es now command answer are is_last there recorded =
    let same : last ≡ number = omega arith in (
      now,
      [],
      ap (λ xs. xs ++ now) are ∙ sym (append-nil now),
      record {
        command = command;
        there = subst (λ k. slice_get program k ≡ Some command) same there;
        is = ap (λ k. record { actor = actor; number = k + 1; command = command; answer = answer }) same;
        recorded = recorded;
      },
      refl,
    )
calls_more actor program number last (call ∷ calls) es now command answer (first, rest, parts, is_call, others) is_last there recorded = (
  first,
  rest ++ now,
  ap (λ xs. xs ++ now) parts ∙ append_assoc first rest now,
  is_call,
  calls_more actor program (number + 1) last calls rest now command answer others (omega arith) there recorded,
)

-- ---- One step

-- at Load nothing has happened yet
load_stage : (actor : ℕ) (command : Option Command) → OfStage actor command Load []
load_stage actor None = (refl, refl)
load_stage actor (Some command) = refl

-- the actor that took the step
standing_after : (programs : List (List Command)) (actor : ℕ) (state : Actor) (command : Command)
    (es added : List (Event × Reply)) (calls : List Ended) (next : Next)
    → (s : Standing programs actor state es calls) → slice_get state.program state.ended ≡ Some command
    → Told actor command (s.now ++ added) next
    → Standing programs actor (actor_after state next) (es ++ added)
    (calls ++ option_to_list (ended_by actor state command next))
standing_after programs actor state command es added calls (Goes phase) s is told = record {
  program = s.program;
  done = s.done;
  now = s.now ++ added;
  whole = ap (λ xs. xs ++ added) s.whole ∙ append_assoc s.done s.now added;
  ended = subst (λ cs. AreCalls actor state.program 0 cs s.done) (sym (append-nil calls)) s.ended;
  count = ap length (append-nil calls) ∙ s.count;
  stage = subst (λ o. OfStage actor o phase (s.now ++ added)) (sym is) told;
}
standing_after programs actor state command es added calls (Ends answer) s is told = record {
  program = s.program;
  done = s.done ++ (s.now ++ added);
  now = [];
  whole = ap (λ xs. xs ++ added) s.whole ∙ append_assoc s.done s.now added ∙ sym (append-nil (s.done ++ (s.now ++ added)));
  ended = calls_more actor state.program 0 state.ended calls s.done (s.now ++ added) command answer s.ended (let count = s.count in omega arith) is told;
  count = length-append calls (option_to_list (ended_by actor state command (Ends answer))) ∙ ap (λ k. k + 1) s.count;
  stage = load_stage actor (slice_get state.program (state.ended + 1));
}

-- each command of sound programs is sound
command_is_sound : (programs : List (List Command)) (program : List Command) (actor number : ℕ) (command : Command)
    → AreSound programs → slice_get programs actor ≡ Some program → slice_get program number ≡ Some command
    → IsSound command
command_is_sound programs program actor number command sound there is =
    at_place IsSound program number command (at_place (λ p. All (λ c. IsSound c) p) programs actor program sound there) is

module _ (programs : List (List Command)) (c : Configuration) (events : List (Event × Reply)) (ended : List Ended) (stand : AllStand programs c.actors events ended) (actor : ℕ) where
  -- the actors after a step of one of them
  all_stand_after : (state : Actor) (command : Command) (outcome : Outcome)
      → slice_get c.actors actor ≡ Some state → slice_get state.program state.ended ≡ Some command
      → (s : Standing programs actor state (events_of actor events) (calls_of actor ended))
      → Tells actor command s.now outcome
      → AllStand programs (step_to c actor state command outcome).to.actors (events ++ option_to_list outcome.event)
      (ended ++ option_to_list (ended_by actor state command outcome.next))
  all_stand_after state command outcome there is s tells =
      let new = actor_after state outcome.next in
      let call = option_to_list (ended_by actor state command outcome.next) in
      let stepped = standing_after programs actor state command (events_of actor events) (option_to_list outcome.event) (calls_of actor ended) outcome.next s is tells.told in
      λ other. elim (eqb_tells other actor) [
        | inl same ↦
            subst (λ k. Stands programs k (slice_get (slice_set c.actors actor new) k) (events_of k (events ++ option_to_list outcome.event)) (calls_of k (ended ++ call))) (sym same.1)
            (rw (get_set c.actors actor state new there, events_own actor events outcome.event tells.its, calls_own actor state command ended outcome.next) stepped)
        | inr apart ↦
            rw (get_other c.actors actor other new apart.1, events_other actor events outcome.event tells.its other apart.1, calls_other actor state command ended other outcome.next apart.1) (stand other)
      ]

  -- any step
  step_stands : (memory : Bool) → AreSound programs → IsInLimit c
      → AllStand programs (step_of c actor memory).to.actors (events ++ option_to_list (step_of c actor memory).event)
      (ended ++ option_to_list (step_of c actor memory).ended)
  step_stands memory sound in_limit =
      step_cases (λ step. AllStand programs step.to.actors (events ++ option_to_list step.event) (ended ++ option_to_list step.ended)) c actor memory
      (subst (λ es. AllStand programs c.actors es (ended ++ [])) (sym (append-nil events)) (subst (AllStand programs c.actors events) (sym (append-nil ended)) stand))
      (λ state command there is.
      let s : Standing programs actor state (events_of actor events) (calls_of actor ended) = subst (λ o. Stands programs actor o (events_of actor events) (calls_of actor ended)) there (stand actor) in
      let staged : StageOf actor command state.phase s.now = subst (λ o. OfStage actor o state.phase s.now) is s.stage in
      let is_sound = command_is_sound programs state.program actor state.ended command sound s.program is in
      all_stand_after state command (outcome_of c.limit c.storage actor command memory state.phase) there is s
      (row_told c.limit c.storage actor command memory state.phase s.now is_sound (within_at c in_limit actor state command there is) staged))

-- ---- A play

-- any items
pub items_stand : (programs : List (List Command)) (p : Play) (items : List Item) → AreSound programs
    → IsInLimit p.at → AllStand programs p.at.actors p.events p.ended
    → AllStand programs (after_items p items).at.actors (after_items p items).events (after_items p items).ended
items_stand programs p [] sound in_limit stand = stand
items_stand programs p (item ∷ items) sound in_limit stand =
    items_stand programs (with_step p (step_of p.at item.actor item.memory)) items sound (step_in_limit p.at in_limit item.actor item.memory) (step_stands programs p.at p.events p.ended stand item.actor item.memory sound in_limit)

-- before the first step
pub opening_stands : (f limit : ℕ) (programs : List (List Command))
    → AllStand programs (first_configuration f limit programs).actors [] []
opening_stands f limit programs actor =
    let first : List Command → Actor = λ program. record { program = program; ended = 0; phase = Load } in
    subst (λ o. Stands programs actor o [] []) (sym (slice_get-map first programs actor))
    (elim (slice_get programs actor) as (λ o. slice_get programs actor ≡ o → Stands programs actor (option_map first o) [] []) [
      | None ↦ (λ none. (none, refl, refl))
      | Some program ↦ (λ there. record { program = there; done = []; now = []; whole = refl; ended = refl; count = refl; stage = load_stage actor (slice_get program 0) })
    ]
    refl)

-- what is under way of a sound call is begun
under_way : (f limit actor : ℕ) (command : Option Command) (phase : Phase) (now : List (Event × Reply))
    → IfSome command (λ c. IsSound c) → IfSome command (λ c. IsWithin f limit c phase) → OfStage actor command phase now
    → IsUnderWay actor command now
under_way f limit actor None phase now sound within staged = staged.0
under_way f limit actor (Some command) phase now sound within staged = stage_begun actor command now f limit phase sound within staged

-- and it is as far as its phase
so_far : (f limit actor : ℕ) (command : Option Command) (phase : Phase) (now : List (Event × Reply))
    → IfSome command (λ c. IsWithin f limit c phase) → OfStage actor command phase now → AreSoFar phase now
so_far f limit actor None phase now within (none, at_load) = subst (λ p. AreSoFar p now) (sym at_load) none
so_far f limit actor (Some command) phase now within staged = stage_so_far actor command now f limit phase within staged

-- a command of a sound program, if there is one
sound_if_there : (programs : List (List Command)) (program : List Command) (actor number : ℕ) → AreSound programs
    → slice_get programs actor ≡ Some program → IfSome (slice_get program number) (λ c. IsSound c)
sound_if_there programs program actor number sound there =
    elim (slice_get program number) as (λ o. slice_get program number ≡ o → IfSome o (λ c. IsSound c))
    [ None ↦ (λ _. tt) | Some command ↦ (λ is. command_is_sound programs program actor number command sound there is) ]
    refl

-- what is known of an actor says that its events are recorded
stands_recorded : (programs : List (List Command)) (p : Play) (actor : ℕ) (o : Option Actor) → AreSound programs
    → IsInLimit p.at → slice_get p.at.actors actor ≡ o
    → Stands programs actor o (events_of actor p.events) (calls_of actor p.ended)
    → IsRecorded p actor (program_of programs actor)
stands_recorded programs p actor None sound in_limit there (none, no_events, no_calls) =
    let program : program_of programs actor ≡ [] = ap (λ o. unwrap_or o []) none in
    record {
      done = [];
      begun = [];
      whole = no_events;
      calls = subst (λ cs. AreCalls actor (program_of programs actor) 0 cs []) (sym no_calls) refl;
      under_way = subst (λ commands. IsUnderWay actor (slice_get commands (length (calls_of actor p.ended))) []) (sym program) refl;
      so_far = subst (λ o. IfSome o (λ (state : Actor). AreSoFar state.phase [])) (sym there) tt;
    }
stands_recorded programs p actor (Some state) sound in_limit there s =
    let program : state.program ≡ program_of programs actor = sym (ap (λ o. unwrap_or o []) s.program) in
    let begun : IsUnderWay actor (slice_get state.program state.ended) s.now =
    under_way p.at.storage.layout p.at.limit actor (slice_get state.program state.ended) state.phase s.now
    (sound_if_there programs state.program actor state.ended sound s.program)
    (actor_at p.at in_limit actor state there)
    s.stage
    in
    record {
      done = s.done;
      begun = s.now;
      whole = s.whole;
      calls = subst (λ commands. AreCalls actor commands 0 (calls_of actor p.ended) s.done) program s.ended;
      under_way = subst (λ commands. IsUnderWay actor (slice_get commands (length (calls_of actor p.ended))) s.now) program (subst (λ k. IsUnderWay actor (slice_get state.program k) s.now) (sym s.count) begun);
      so_far = subst (λ o. IfSome o (λ (state : Actor). AreSoFar state.phase s.now)) (sym there)
          (so_far p.at.storage.layout p.at.limit actor (slice_get state.program state.ended) state.phase s.now (actor_at p.at in_limit actor state there) s.stage);
    }

pub every_play_is_recorded : EveryPlayIsRecorded
every_play_is_recorded f is_layout limit programs items is_limit sound actor =
    let opens = opening_in_limit f limit programs is_layout is_limit in
    let stand = items_stand programs (empty_play f limit programs) items sound opens (opening_stands f limit programs) in
    stands_recorded programs (play_of f limit programs items) actor (slice_get (play_of f limit programs items).at.actors actor) sound (items_in_limit (empty_play f limit programs) items opens) refl (stand actor)
