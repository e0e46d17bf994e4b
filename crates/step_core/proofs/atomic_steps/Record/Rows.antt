-- The rows of the step table: the events of a call so far are a beginning of a record, and a record if the
-- call ends.
use Rattle.std.proofs.Common.{◌≡◌, ◌≢◌, ℕ, ◌+◌, ◌-◌, ◌<◌, ◌≤◌, Bool, true, false, List, [], ◌∷◌, ◌++◌, length, map, Option, Some, None, zero, suc, refl, ap, sym, ◌∙◌, subst, arith, inl, inr}
use Rattle.std.proofs.Math.Nat.{sub_self}
use Rattle.std.proofs.lemmas.List.{append-nil, length-map}
use Rattle.std.proofs.lemmas.List.FromFn.{length-map-range_with_len}
use Rattle.std.specs.Option.{option_to_list}
use Rattle.std.specs.List.{range_with_len}
use Rattle.std.specs.FinMap as finite
use Rattle.book_core.specs.declared.events.Event.{Event}
use Rattle.book_core.specs.declared.events.Event.TheVariants as events
use Rattle.book_core.specs.declared.events.Reply.{Reply}
use Rattle.book_core.specs.declared.events.Reply.TheVariants as replies
use Rattle.book_core.specs.declared.commands.Command.{Command}
use Rattle.book_core.specs.declared.commands.Command.TheVariants as commands
use Rattle.book_core.specs.declared.commands.Answer.TheVariants as answers
use Rattle.book_core.specs.Commands.{IsSound}
use Rattle.step_core.specs.declared.machine.phase.CellSlot.{CellSlot}
use Rattle.step_core.specs.declared.machine.phase.CellSlot.TheVariants.{Busy, Filled, Broken}
use Rattle.step_core.specs.declared.machine.phase.Phase.{Phase}
use Rattle.step_core.specs.declared.machine.phase.Phase.TheVariants.{Load, Scout, Put, Exchange, Raise, Begin, Fill, Spoil, Mend, FillMended, Look}
use Rattle.step_core.specs.declared.machine.phase.Next.{Next}
use Rattle.step_core.specs.declared.machine.phase.Next.TheVariants.{Goes, Ends}
use Rattle.step_core.specs.machine.Storage.{Storage}
use Rattle.step_core.specs.machine.Step.{Outcome, with_slot, load_growth, load_at_least, load_place, load, after_segment, put, exchange, raise, begin_at, is_refused, value_of, answer_of_run, after_place, mend_at, fill_mended, look_at, outcome_of}
use Rattle.step_core.specs.machine.Bounds.{Exchanges, IsWithin}
use Rattle.step_core.specs.machine.Record.{IsRecord, IsBegun, IsClaimedUpTo, AreSoFar}
use Rattle.book_core.specs.Events.{actor_of}
use Rattle.step_core.proofs.atomic_steps.Cases.{IsRaise, enough, won_growth, growth_cases, at_least_cases, load_place_cases, exchange_cases, raise_cases, begin_cases, scout_cases, claiming_cases, segment_cases, place_cases}
use Rattle.step_core.proofs.atomic_steps.Record.Settled.{Asks, claiming_event, settling, settled, run_so_far, run_recorded, settled_more, settled_parts}

-- the call is a read of this place
abbrev IsReadOf : Command → ℕ → Type 0
IsReadOf (commands.Push value) at = ⊥
IsReadOf (commands.Grow n value) at = ⊥
IsReadOf (commands.AtLeast to value) at = ⊥
IsReadOf (commands.Fail n value place) at = ⊥
IsReadOf (commands.Mend place value) at = ⊥
IsReadOf (commands.Read place) at = place ≡ at
IsReadOf commands.Size at = ⊥

-- the call is a mend of this place
abbrev IsMendOf : Command → ℕ → Type 0
IsMendOf (commands.Push value) at = ⊥
IsMendOf (commands.Grow n value) at = ⊥
IsMendOf (commands.AtLeast to value) at = ⊥
IsMendOf (commands.Fail n value place) at = ⊥
IsMendOf (commands.Mend place value) at = place ≡ at
IsMendOf (commands.Read place) at = ⊥
IsMendOf commands.Size at = ⊥

-- what a phase says of its call, and of the call's events so far
abbrev pub StageOf : ℕ → Command → Phase → List (Event × Reply) → Type 0
StageOf actor command Load now = now ≡ []
StageOf actor command (Scout from n segment) now = (now ≡ []) × Asks command n
StageOf actor command (Put from n segment) now = (now ≡ []) × Asks command n
StageOf actor command (Exchange from n) now = (now ≡ []) × Asks command n
StageOf actor command (Raise to) now = (now ≡ []) × IsRaise command to
StageOf actor command (Begin from n place) now = (now ≡ run_so_far actor command from n (place - from)) × Asks command n
StageOf actor command (Fill from n place) now =
    (now ≡ run_so_far actor command from n (place - from)) × Asks command n × (is_refused command from place ≡ false)
StageOf actor command (Spoil from n place) now =
    (now ≡ run_so_far actor command from n (place - from)) × Asks command n × (is_refused command from place ≡ true)
StageOf actor command (Mend place) now = (now ≡ []) × IsMendOf command place
StageOf actor command (FillMended place) now =
    (now ≡ (events.Mend actor place, replies.Done) ∷ []) × IsMendOf command place
StageOf actor command (Look place) now = (now ≡ []) × IsReadOf command place

-- the events so far are those of what follows: of the phase, or of the call that ends
abbrev pub Told : ℕ → Command → List (Event × Reply) → Next → Type 0
Told actor command now (Goes phase) = StageOf actor command phase now
Told actor command now (Ends answer) = IsRecord actor command now answer

-- an event, if there is one, is this actor's
abbrev pub IsOf : ℕ → Option (Event × Reply) → Type 0
IsOf actor None = Unit {0}
IsOf actor (Some e) = actor_of e.0 ≡ actor

-- what a step gives goes behind the events so far
pub record Tells (actor : ℕ) (command : Command) (now : List (Event × Reply)) (o : Outcome) : Type 0 where
  pub its : IsOf actor o.event
  pub told : Told actor command (now ++ option_to_list o.event) o.next

-- ---- Records of one event

-- a growth past the limit
full_recorded : (actor : ℕ) (command : Command) (n size : ℕ) → Asks command n → Exchanges command
    → IsRecord actor command ((events.RefusedFull actor n, replies.Full size) ∷ []) (answers.Full size)
full_recorded actor (commands.Push value) n size asks exchanges = inr (inl (record { size = size; events = ap (λ k. (events.RefusedFull actor k, replies.Full size) ∷ []) asks; answered = refl }))
full_recorded actor (commands.Grow m value) n size asks exchanges = inr (inl (record { size = size; events = ap (λ k. (events.RefusedFull actor k, replies.Full size) ∷ []) asks; answered = refl }))
full_recorded actor (commands.AtLeast to value) n size asks exchanges = absurd exchanges
full_recorded actor (commands.Fail m value at) n size asks exchanges = inr (inl (record { size = size; events = ap (λ k. (events.RefusedFull actor k, replies.Full size) ∷ []) asks; answered = refl }))
full_recorded actor (commands.Mend place value) n size asks exchanges = absurd asks
full_recorded actor (commands.Read place) n size asks exchanges = absurd asks
full_recorded actor commands.Size n size asks exchanges = absurd asks

-- a growth that was refused memory
memory_recorded : (actor : ℕ) (command : Command) (n : ℕ) → Asks command n
    → IsRecord actor command ((events.RefusedMemory actor, replies.NoMemory) ∷ []) answers.NoMemory
memory_recorded actor (commands.Push value) n asks = inr (inr (record { events = refl; answered = refl }))
memory_recorded actor (commands.Grow m value) n asks = inr (inr (record { events = refl; answered = refl }))
memory_recorded actor (commands.AtLeast to value) n asks = inr (inr (inr (record { events = refl; answered = refl })))
memory_recorded actor (commands.Fail m value at) n asks = inr (inr (record { events = refl; answered = refl }))
memory_recorded actor (commands.Mend place value) n asks = absurd asks
memory_recorded actor (commands.Read place) n asks = absurd asks
memory_recorded actor commands.Size n asks = absurd asks

-- a growth by no places
nothing_recorded : (actor : ℕ) (command : Command) (n size : ℕ) → IsSound command → Asks command n → Exchanges command
    → n ≡ 0 → IsRecord actor command ((events.Claim actor 0, replies.Run size 0) ∷ []) (answers.Run size 0)
nothing_recorded actor (commands.Push value) n size sound asks exchanges none = absurd (let one : n ≡ 1 = asks in omega arith)
nothing_recorded actor (commands.Grow m value) n size sound asks exchanges none =
    subst (λ k. IsRecord actor (commands.Grow k value) ((events.Claim actor 0, replies.Run size 0) ∷ []) (answers.Run size 0)) (sym none ∙ asks)
    (inl (record { from = size; events = refl; answered = refl }))
nothing_recorded actor (commands.AtLeast to value) n size sound asks exchanges none = absurd exchanges
nothing_recorded actor (commands.Fail m value at) n size sound asks exchanges none = absurd (let same : n ≡ m = asks in let inside : at < m = sound in omega arith)
nothing_recorded actor (commands.Mend place value) n size sound asks exchanges none = absurd asks
nothing_recorded actor (commands.Read place) n size sound asks exchanges none = absurd asks
nothing_recorded actor commands.Size n size sound asks exchanges none = absurd asks

-- ---- Steps of a call that has no events so far

-- behind a segment comes the next one, or the claim
segment_told : (actor : ℕ) (command : Command) (f from n segment : ℕ) → Asks command n
    → StageOf actor command (after_segment f command from n segment) []
segment_told actor command f from n segment asks =
    segment_cases (λ phase. StageOf actor command phase []) command from n f segment
    (λ _. (refl, asks))
    (λ _. claiming_cases (λ phase. StageOf actor command phase []) command from n (λ _. (refl, asks)) (λ to is. (refl, is)))

-- a growth that claims by an exchange claims by its count
claimed_by_exchange : (actor : ℕ) (command : Command) (n : ℕ) → Exchanges command
    → events.Claim actor n ≡ claiming_event actor command n
claimed_by_exchange actor (commands.Push value) n exchanges = refl
claimed_by_exchange actor (commands.Grow m value) n exchanges = refl
claimed_by_exchange actor (commands.AtLeast to value) n exchanges = absurd exchanges
claimed_by_exchange actor (commands.Fail m value at) n exchanges = refl
claimed_by_exchange actor (commands.Mend place value) n exchanges = refl
claimed_by_exchange actor (commands.Read place) n exchanges = refl
claimed_by_exchange actor commands.Size n exchanges = refl

module _ (m : Storage) (actor : ℕ) where
  -- a growth by a number of places is loaded
  growth_told : (limit n : ℕ) (command : Command) → IsSound command → Asks command n → Exchanges command
      → Tells actor command [] (load_growth limit m actor n)
  growth_told limit n command sound asks exchanges =
      growth_cases (Tells actor command []) m actor limit n
      (λ none. record { its = refl; told = nothing_recorded actor command n m.size sound asks exchanges none })
      (λ _ _. record { its = tt; told = (refl, asks) })
      (λ _. record { its = refl; told = full_recorded actor command n m.size asks exchanges })

  -- a growth to at least a size finds it large enough
  enough_told : (to value : ℕ) → Tells actor (commands.AtLeast to value) [] (enough m actor to)
  enough_told to value =
      record { its = refl; told = inr (inl (record { size = m.size; events = refl; answered = refl })) }

  -- a growth to at least a size is loaded
  at_least_told : (limit to value : ℕ) → Tells actor (commands.AtLeast to value) [] (load_at_least limit m actor to)
  at_least_told limit to value =
      at_least_cases (Tells actor (commands.AtLeast to value) []) m actor limit to
      (λ _. enough_told to value)
      (λ _ _. record { its = tt; told = (refl, tt) })
      (λ _ _. record { its = refl; told = inr (inr (inl (record { size = m.size; events = refl; answered = refl }))) })

  -- a read is loaded
  read_told : (place : ℕ) → Tells actor (commands.Read place) [] (load_place m actor place (Look place))
  read_told place =
      load_place_cases (Tells actor (commands.Read place) []) m actor place (Look place)
      (λ _. record { its = tt; told = (refl, refl) })
      (λ _. record { its = refl; told = record { reply = replies.OutOfRange m.size; events = refl; answered = refl } })

  -- a mend is loaded
  mend_loaded : (place value : ℕ) → Tells actor (commands.Mend place value) [] (load_place m actor place (Mend place))
  mend_loaded place value =
      load_place_cases (Tells actor (commands.Mend place value) []) m actor place (Mend place)
      (λ _. record { its = tt; told = (refl, refl) })
      (λ _. record { its = refl; told = inr (record { reply = replies.OutOfRange m.size; events = refl; answered = refl }) })

  -- every call is loaded
  load_told : (limit : ℕ) (command : Command) → IsSound command → Tells actor command [] (load limit m actor command)
  load_told limit (commands.Push value) sound = growth_told limit 1 (commands.Push value) sound refl tt
  load_told limit (commands.Grow n value) sound = growth_told limit n (commands.Grow n value) sound refl tt
  load_told limit (commands.AtLeast to value) sound = at_least_told limit to value
  load_told limit (commands.Fail n value at) sound = growth_told limit n (commands.Fail n value at) sound refl tt
  load_told limit (commands.Mend place value) sound = mend_loaded place value
  load_told limit (commands.Read place) sound = read_told place
  load_told limit commands.Size sound =
      record { its = refl; told = record { size = m.size; events = refl; answered = refl } }

  -- a segment is put, or memory is refused
  put_told : (command : Command) (memory : Bool) (from n segment : ℕ) → Asks command n
      → Tells actor command [] (put m actor command memory from n segment)
  put_told command true from n segment asks = record { its = tt; told = segment_told actor command m.layout from n segment asks }
  put_told command false from n segment asks = record { its = refl; told = memory_recorded actor command n asks }

  -- a claim of the call's own, by the event that wins n places for it
  won_told : (command : Command) (n : ℕ) (event : Event) → actor_of event ≡ actor
      → event ≡ claiming_event actor command n → Asks command n → Tells actor command [] (won_growth m event n)
  won_told command n event its is asks =
      let alone : (event, replies.Run m.size n) ∷ [] ≡ run_so_far actor command m.size n (m.size - m.size) =
      ap (λ e. (e, replies.Run m.size n) ∷ []) is ∙ ap (run_so_far actor command m.size n) (sym (sub_self m.size)) in
      record { its = its; told = (alone, asks) }

  -- an exchange claims the places, or begins again, or is past the limit
  exchange_told : (limit : ℕ) (command : Command) (from n : ℕ) → Asks command n → Exchanges command
      → Tells actor command [] (exchange limit m actor from n)
  exchange_told limit command from n asks exchanges =
      exchange_cases (Tells actor command []) m actor limit from n
      (λ _. won_told command n (events.Claim actor n) refl (claimed_by_exchange actor command n exchanges) asks)
      (λ _. record { its = tt; told = (refl, asks) })
      (λ _. record { its = refl; told = full_recorded actor command n m.size asks exchanges })

  -- the raise of a growth to at least a size
  at_least_raised : (to value : ℕ) → Tells actor (commands.AtLeast to value) [] (raise m actor to)
  at_least_raised to value =
      raise_cases (Tells actor (commands.AtLeast to value) []) m actor to
      (λ _. enough_told to value)
      (λ _. won_told (commands.AtLeast to value) (to - m.size) (events.Raise actor to) refl refl tt)

  -- only a growth to at least a size raises
  raise_told : (command : Command) (to : ℕ) → IsRaise command to → Tells actor command [] (raise m actor to)
  raise_told (commands.Push value) to is = absurd is
  raise_told (commands.Grow n value) to is = absurd is
  raise_told (commands.AtLeast size value) to is =
      subst (λ k. Tells actor (commands.AtLeast size value) [] (raise m actor k)) is (at_least_raised size value)
  raise_told (commands.Fail n value at) to is = absurd is
  raise_told (commands.Mend place value) to is = absurd is
  raise_told (commands.Read place) to is = absurd is
  raise_told commands.Size to is = absurd is

  -- a read ends by what the slot holds
  read_looked : (place : ℕ) (slot : Option CellSlot) → Tells actor (commands.Read place) [] (look_at m actor place slot)
  read_looked place None =
      record { its = refl; told = record { reply = replies.Pending; events = refl; answered = refl } }
  read_looked place (Some (Busy owner)) =
      record { its = refl; told = record { reply = replies.Pending; events = refl; answered = refl } }
  read_looked place (Some (Filled value)) =
      record { its = refl; told = record { reply = replies.Value value; events = refl; answered = refl } }
  read_looked place (Some Broken) =
      record { its = refl; told = record { reply = replies.Broken; events = refl; answered = refl } }

  -- only a read looks
  look_told : (command : Command) (place : ℕ) (slot : Option CellSlot) → IsReadOf command place
      → Tells actor command [] (look_at m actor place slot)
  look_told (commands.Push value) place slot is = absurd is
  look_told (commands.Grow n value) place slot is = absurd is
  look_told (commands.AtLeast to value) place slot is = absurd is
  look_told (commands.Fail n value at) place slot is = absurd is
  look_told (commands.Mend at value) place slot is = absurd is
  look_told (commands.Read at) place slot is =
      subst (λ k. Tells actor (commands.Read at) [] (look_at m actor k slot)) is (read_looked at slot)
  look_told commands.Size place slot is = absurd is

  -- a mend takes a broken slot, or ends by what the slot holds
  slot_mended : (place value : ℕ) (slot : Option CellSlot)
      → Tells actor (commands.Mend place value) [] (mend_at m actor place slot)
  slot_mended place value None =
      record { its = refl; told = inr (record { reply = replies.Pending; events = refl; answered = refl }) }
  slot_mended place value (Some (Busy owner)) =
      record { its = refl; told = inr (record { reply = replies.Pending; events = refl; answered = refl }) }
  slot_mended place value (Some (Filled held)) =
      record { its = refl; told = inr (record { reply = replies.Value held; events = refl; answered = refl }) }
  slot_mended place value (Some Broken) = record { its = refl; told = (refl, refl) }

  -- only a mend mends
  mend_told : (command : Command) (place : ℕ) (slot : Option CellSlot) → IsMendOf command place
      → Tells actor command [] (mend_at m actor place slot)
  mend_told (commands.Push value) place slot is = absurd is
  mend_told (commands.Grow n value) place slot is = absurd is
  mend_told (commands.AtLeast to value) place slot is = absurd is
  mend_told (commands.Fail n value at) place slot is = absurd is
  mend_told (commands.Mend at value) place slot is =
      subst (λ k. Tells actor (commands.Mend at value) [] (mend_at m actor k slot)) is (slot_mended at value slot)
  mend_told (commands.Read at) place slot is = absurd is
  mend_told commands.Size place slot is = absurd is

  -- the mended slot is filled
  mended_told : (command : Command) (place : ℕ) → IsMendOf command place
      → Tells actor command ((events.Mend actor place, replies.Done) ∷ []) (fill_mended m actor command place)
  mended_told (commands.Push value) place is = absurd is
  mended_told (commands.Grow n value) place is = absurd is
  mended_told (commands.AtLeast to value) place is = absurd is
  mended_told (commands.Fail n value at) place is = absurd is
  mended_told (commands.Mend at value) place is =
      subst (λ k. Tells actor (commands.Mend at value) ((events.Mend actor k, replies.Done) ∷ []) (fill_mended m actor (commands.Mend at value) k)) is
      (record { its = refl; told = inl (record { events = refl; answered = refl }) })
  mended_told (commands.Read at) place is = absurd is
  mended_told commands.Size place is = absurd is

-- ---- Steps of a call that won its places

-- an empty slot is taken, or the step changes nothing
begin_told : (m : Storage) (actor : ℕ) (command : Command) (from n place : ℕ) (slot : Option CellSlot) → Asks command n
    → Tells actor command (run_so_far actor command from n (place - from)) (begin_at m actor command from n place slot)
begin_told m actor command from n place None asks =
    let now = run_so_far actor command from n (place - from) in
    begin_cases (Tells actor command now) m actor command from n place
    (λ refused. record { its = tt; told = (append-nil now, asks, refused) })
    (λ fits. record { its = tt; told = (append-nil now, asks, fits) })
begin_told m actor command from n place (Some slot) asks =
    record { its = tt; told = (append-nil (run_so_far actor command from n (place - from)), asks) }

-- one more place of the run is settled: the call goes on, or ends behind the last
settle_told : (actor : ℕ) (command : Command) (from n place : ℕ) (storage : Storage) (event : Event)
    → IsSound command → Asks command n → from ≤ place → place < from + n → actor_of event ≡ actor
    → settling actor command from place ≡ event
    → Tells actor command (run_so_far actor command from n (place - from)) (record { storage = storage; event = Some (event, replies.Done); next = after_place command from n place })
settle_told actor command from n place storage event sound asks low high its is =
    let now = run_so_far actor command from n (place - from) ++ (event, replies.Done) ∷ [] in
    let more : now ≡ run_so_far actor command from n (place - from + 1) =
    ap (λ e. run_so_far actor command from n (place - from) ++ (e, replies.Done) ∷ []) (sym is)
    ∙ ap (λ es. (claiming_event actor command n, replies.Run from n) ∷ es) (settled_more actor command from (place - from) place (omega arith)) in
    let told : Told actor command now (after_place command from n place) =
    place_cases (Told actor command now) command from n place
    (λ _. (more ∙ ap (run_so_far actor command from n) (omega arith), asks))
    (λ last.
    let whole : n ≡ place - from + 1 = omega arith in
    subst (λ es. IsRecord actor command es (answer_of_run command from n)) (ap (run_so_far actor command from n) whole ∙ sym more) (run_recorded actor command from n sound asks)) in
    record { its = its; told = told }

-- ---- Every row

-- the same of events that are known
after : {actor : ℕ} {command : Command} {o : Outcome} {now known : List (Event × Reply)}
    → now ≡ known → Tells actor command known o → Tells actor command now o
after {actor = actor} {command = command} {o = o} is tells = subst (λ es. Tells actor command es o) (sym is) tells

module _ (limit : ℕ) (m : Storage) (actor : ℕ) (command : Command) (memory : Bool) where
  -- every step
  pub row_told : (phase : Phase) (now : List (Event × Reply)) → IsSound command → IsWithin m.layout limit command phase
      → StageOf actor command phase now → Tells actor command now (outcome_of limit m actor command memory phase)
  row_told Load now sound within none = after none (load_told m actor limit command sound)
  row_told (Scout from n segment) now sound within (none, asks) =
      after none (scout_cases (Tells actor command []) m command from n segment
      (λ _. record { its = tt; told = segment_told actor command m.layout from n segment asks })
      (record { its = tt; told = (refl, asks) }))
  row_told (Put from n segment) now sound within (none, asks) =
      after none (put_told m actor command memory from n segment asks)
  row_told (Exchange from n) now sound (some, room, exchanges) (none, asks) =
      after none (exchange_told m actor limit command from n asks exchanges)
  row_told (Raise to) now sound within (none, is) = after none (raise_told m actor command to is)
  row_told (Begin from n place) now sound within (so_far, asks) =
      after so_far (begin_told m actor command from n place (finite.get m.slots place) asks)
  row_told (Fill from n place) now sound (low, high, room) (so_far, asks, fits) =
      after so_far (settle_told actor command from n place (with_slot m place (Filled (value_of command))) (events.Finish actor place (value_of command)) sound asks low high refl (rw fits refl))
  row_told (Spoil from n place) now sound (low, high, room) (so_far, asks, refused) =
      after so_far (settle_told actor command from n place (with_slot m place Broken) (events.Break actor place) sound asks low high refl (rw refused refl))
  row_told (Mend place) now sound within (none, is) =
      after none (mend_told m actor command place (finite.get m.slots place) is)
  row_told (FillMended place) now sound within (so_far, is) = after so_far (mended_told m actor command place is)
  row_told (Look place) now sound within (none, is) =
      after none (look_told m actor command place (finite.get m.slots place) is)

-- ---- A call under way

-- a list with a first event is not the empty one
cons_is_some : (e : Event × Reply) (es : List (Event × Reply)) → e ∷ es ≢ []
cons_is_some e es is = absurd (let none : suc (length es) ≡ 0 = ap length is in omega arith)

-- where places are left, their events are left
some_left : (f : ℕ → Event) (from left : ℕ) → 0 < left
    → map {B = Event × Reply} (λ event. (event, replies.Done)) (map f (range_with_len from left)) ≢ []
some_left f from zero some = absurd (omega arith)
some_left f from (suc left) some =
    cons_is_some (f from, replies.Done) (map (λ event. (event, replies.Done)) (map f (range_with_len (from + 1) left)))

-- a growth may be refused memory
growth_begun : (actor : ℕ) (command : Command) (n : ℕ) → Asks command n → IsBegun actor command []
growth_begun actor command n asks = record {
  rest = (events.RefusedMemory actor, replies.NoMemory) ∷ [];
  answer = answers.NoMemory;
  recorded = memory_recorded actor command n asks;
  proper = cons_is_some _ [];
}

-- every call has a record with an event
some_begun : (actor : ℕ) (command : Command) → IsBegun actor command []
some_begun actor (commands.Push value) = growth_begun actor (commands.Push value) 1 refl
some_begun actor (commands.Grow n value) = growth_begun actor (commands.Grow n value) n refl
some_begun actor (commands.AtLeast to value) = growth_begun actor (commands.AtLeast to value) 0 tt
some_begun actor (commands.Fail n value at) = growth_begun actor (commands.Fail n value at) n refl
some_begun actor (commands.Mend place value) = record {
  rest = (events.Look actor place, replies.Pending) ∷ [];
  answer = answers.Pending;
  recorded = inr (record { reply = replies.Pending; events = refl; answered = refl });
  proper = cons_is_some _ [];
}
some_begun actor (commands.Read place) = record {
  rest = (events.Look actor place, replies.Pending) ∷ [];
  answer = answers.Pending;
  recorded = record { reply = replies.Pending; events = refl; answered = refl };
  proper = cons_is_some _ [];
}
some_begun actor commands.Size = record {
  rest = (events.Size actor, replies.Size 0) ∷ [];
  answer = answers.Size 0;
  recorded = record { size = 0; events = refl; answered = refl };
  proper = cons_is_some _ [];
}

-- a mend that has its place, and has not filled it, is begun
mend_begun : (actor : ℕ) (command : Command) (place : ℕ) → IsMendOf command place
    → IsBegun actor command ((events.Mend actor place, replies.Done) ∷ [])
mend_begun actor (commands.Push value) place is = absurd is
mend_begun actor (commands.Grow n value) place is = absurd is
mend_begun actor (commands.AtLeast to value) place is = absurd is
mend_begun actor (commands.Fail n value at) place is = absurd is
mend_begun actor (commands.Mend at value) place is =
    subst (λ k. IsBegun actor (commands.Mend at value) ((events.Mend actor k, replies.Done) ∷ [])) is (record {
      rest = (events.Finish actor at value, replies.Done) ∷ [];
      answer = answers.At at;
      recorded = inl (record { events = refl; answered = refl });
      proper = cons_is_some _ [];
    })
mend_begun actor (commands.Read at) place is = absurd is
mend_begun actor commands.Size place is = absurd is

module _ (actor : ℕ) (command : Command) (now : List (Event × Reply)) where
  -- a call without events is begun
  none_begun : now ≡ [] → IsBegun actor command now
  none_begun none = subst (IsBegun actor command) (sym none) (some_begun actor command)

  -- a call with some of its places settled, and some left, is begun
  run_begun : (from n k : ℕ) → IsSound command → Asks command n → k < n → now ≡ run_so_far actor command from n k
      → IsBegun actor command now
  run_begun from n k sound asks within so_far =
      subst (IsBegun actor command) (sym so_far) (record {
        rest = map (λ event. (event, replies.Done)) (map (settling actor command from) (range_with_len (from + k) (n - k)));
        answer = answer_of_run command from n;
        recorded = subst (λ es. IsRecord actor command ((claiming_event actor command n, replies.Run from n) ∷ es) (answer_of_run command from n)) (settled_parts actor command from k n (omega arith)) (run_recorded actor command from n sound asks);
        proper = some_left (settling actor command from) (from + k) (n - k) (omega arith);
      })

  -- the claim, and the places settled before this one
  up_to : (from n place : ℕ) → from ≤ place → now ≡ run_so_far actor command from n (place - from)
      → IsClaimedUpTo from n place now
  up_to from n place low so_far = record {
    claim = claiming_event actor command n;
    writes = settled actor command from (place - from);
    events = so_far;
    up_to = ap (λ k. from + k) (length-map (map (settling actor command from) (range_with_len from (place - from))) (λ event. (event, replies.Done)) ∙ length-map-range_with_len (settling actor command from) from (place - from)) ∙ (let whole : from + (place - from) ≡ place = omega arith in whole);
  }

  -- a call under way is begun, whatever its phase
  pub stage_begun : (f limit : ℕ) (phase : Phase) → IsSound command → IsWithin f limit command phase
      → StageOf actor command phase now → IsBegun actor command now
  stage_begun f limit Load sound within none = none_begun none
  stage_begun f limit (Scout from n segment) sound within (none, asks) = none_begun none
  stage_begun f limit (Put from n segment) sound within (none, asks) = none_begun none
  stage_begun f limit (Exchange from n) sound within (none, asks) = none_begun none
  stage_begun f limit (Raise to) sound within (none, is) = none_begun none
  stage_begun f limit (Begin from n place) sound (low, high, room) (so_far, asks) =
      run_begun from n (place - from) sound asks (omega arith) so_far
  stage_begun f limit (Fill from n place) sound (low, high, room) (so_far, asks, fits) =
      run_begun from n (place - from) sound asks (omega arith) so_far
  stage_begun f limit (Spoil from n place) sound (low, high, room) (so_far, asks, refused) =
      run_begun from n (place - from) sound asks (omega arith) so_far
  stage_begun f limit (Mend place) sound within (none, is) = none_begun none
  stage_begun f limit (FillMended place) sound within (so_far, is) =
      subst (IsBegun actor command) (sym so_far) (mend_begun actor command place is)
  stage_begun f limit (Look place) sound within (none, is) = none_begun none

  -- so the events so far are what the phase says
  pub stage_so_far : (f limit : ℕ) (phase : Phase) → IsWithin f limit command phase → StageOf actor command phase now
      → AreSoFar phase now
  stage_so_far f limit Load within none = none
  stage_so_far f limit (Scout from n segment) within (none, asks) = none
  stage_so_far f limit (Put from n segment) within (none, asks) = none
  stage_so_far f limit (Exchange from n) within (none, asks) = none
  stage_so_far f limit (Raise to) within (none, is) = none
  stage_so_far f limit (Begin from n place) (low, high, room) (so_far, asks) = up_to from n place low so_far
  stage_so_far f limit (Fill from n place) (low, high, room) (so_far, asks, fits) = up_to from n place low so_far
  stage_so_far f limit (Spoil from n place) (low, high, room) (so_far, asks, refused) = up_to from n place low so_far
  stage_so_far f limit (Mend place) within (none, is) = none
  stage_so_far f limit (FillMended place) within (so_far, is) = (actor, so_far)
  stage_so_far f limit (Look place) within (none, is) = none
