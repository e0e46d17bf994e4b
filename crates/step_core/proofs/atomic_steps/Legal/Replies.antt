-- Each row of the step table replies as the sequential vector does, on the cells that a reader sees.
use Rattle.std.proofs.Common.{◌≡◌, ◌≢◌, ℕ, ◌+◌, ◌-◌, ◌<◌, ◌≤◌, Bool, true, false, if◌then◌else◌, List, [], ◌∷◌, ◌++◌, length, map, replicate, Option, Some, None, slice_get, slice_set, refl, ap, sym, ◌∙◌, subst, arith, inl, inr}
use Rattle.std.proofs.lemmas.Bool.Decides.{eqb_tells}
use Rattle.std.proofs.lemmas.List.{append-nil}
use Rattle.std.proofs.lemmas.List.FromFn.{length-map-range_with_len}
use Rattle.std.proofs.lemmas.Option.{slice_get_past}
use Rattle.std.specs.List.{range_with_len}
use Rattle.std.specs.Option.{option_to_list}
use Rattle.std.specs.FinMap as finite
use Rattle.seg_core.specs.Segment.{segment_of}
use Rattle.book_core.specs.declared.cells.Cell.{Cell}
use Rattle.book_core.specs.declared.cells.Cell.TheVariants as cells
use Rattle.book_core.specs.declared.events.Event.{Event}
use Rattle.book_core.specs.declared.events.Event.TheVariants as events
use Rattle.book_core.specs.declared.events.Reply.{Reply}
use Rattle.book_core.specs.declared.events.Reply.TheVariants as replies
use Rattle.book_core.specs.declared.commands.Command.{Command}
use Rattle.book_core.specs.declared.commands.Command.TheVariants as commands
use Rattle.book_core.specs.declared.commands.Answer.{Answer}
use Rattle.book_core.specs.declared.commands.Answer.TheVariants as answers
use Rattle.book_core.specs.Cells.{CellList, with_pending, with_cell, reply_of_look, apply_event}
use Rattle.book_core.specs.History.{IsHistory, OwnedRun, runs_of, owner_of, Tile}
use Rattle.step_core.specs.declared.machine.phase.CellSlot.{CellSlot}
use Rattle.step_core.specs.declared.machine.phase.CellSlot.TheVariants.{Busy, Filled, Broken}
use Rattle.step_core.specs.declared.machine.phase.Phase.{Phase}
use Rattle.step_core.specs.declared.machine.phase.Phase.TheVariants.{Load, Scout, Put, Exchange, Raise, Begin, Fill, Spoil, Mend, FillMended, Look}
use Rattle.step_core.specs.machine.Storage.{Storage}
use Rattle.step_core.specs.machine.Step.{Outcome, goes_on, ends, with_size, with_segment, with_slot, load_growth, load_at_least, load_place, load, after_segment, scout, put, exchange, raise, begin_at, value_of, fill, spoil, mend_at, fill_mended, look_at, outcome_of}
use Rattle.step_core.specs.machine.Play.{cell_of, cells_of}
use Rattle.step_core.specs.machine.Bounds.{IsWithin}
use Rattle.book_core.proofs.Runs.{owner_new, owner_kept, none_past, has_place-true, owned_between}
use Rattle.step_core.proofs.atomic_steps.Tiling.Invariant.{get_set_same, get_set_other, empty_past, Won, Knows}
use Rattle.step_core.proofs.atomic_steps.Cases.{growth_cases, at_least_cases, load_place_cases, exchange_cases, raise_cases, begin_cases, scout_cases}
use Rattle.step_core.proofs.atomic_steps.Ranges.{map_same, map_more, map_all, map_get, map_set}
use Rattle.book_core.proofs.EventRows.{claim_applies, raise_applies, enough_applies, full_applies, size_applies, finish_applies, break_applies, mend_applies, look_applies}

-- the sequential vector as a reader sees it
abbrev pub seen : ℕ → Storage → List OwnedRun → CellList
seen limit m runs = record { limit = limit; cells = cells_of m runs }

-- the cell of a place
abbrev seen_at : Storage → List OwnedRun → ℕ → Cell
seen_at m runs place = cell_of (owner_of runs place) (finite.get m.slots place)

-- the event of a step, if it has one, happens to the vector as it is seen
abbrev Replies : ℕ → Storage → List OwnedRun → Outcome → Type 0
Replies limit m runs o =
    IsHistory (seen limit m runs) (option_to_list o.event) (seen limit o.storage (runs ++ runs_of (option_to_list o.event)))

-- what is true of the runs and the slots
pub record Sees (limit : ℕ) (m : Storage) (runs : List OwnedRun) : Type 0 where
  pub room : m.size ≤ limit
  pub tile : Tile 0 runs m.size
  pub taken : (q : ℕ) (slot : CellSlot) → finite.get m.slots q ≡ Some slot → q < m.size

one_event : (old new : CellList) (event : Event) (reply : Reply) → apply_event old event ≡ Some (new, reply)
    → IsHistory old ((event, reply) ∷ []) new
one_event old new event reply is = (new, is, refl)

module _ (limit : ℕ) (m : Storage) (runs : List OwnedRun) (actor : ℕ) (sees : Sees limit m runs) where
  seen_length : length (cells_of m runs) ≡ m.size
  seen_length = length-map-range_with_len (seen_at m runs) 0 m.size

  -- if no run is added and the cells are the same
  same_seen : (m' : Storage) (added : List OwnedRun) → added ≡ [] → cells_of m' runs ≡ cells_of m runs
      → seen limit m' (runs ++ added) ≡ seen limit m runs
  same_seen m' added none is =
      ap (λ rs. seen limit m' rs) (ap (λ rs. runs ++ rs) none ∙ append-nil runs) ∙ ap (λ cs. record { limit = limit; cells = cs }) is

  -- an event that leaves the vector as it is, and adds no run
  tells : (event : Event) (reply : Reply) (answer : Answer) → runs_of ((event, reply) ∷ []) ≡ []
      → apply_event (seen limit m runs) event ≡ Some (seen limit m runs, reply)
      → Replies limit m runs (ends m event reply answer)
  tells event reply answer none is =
      one_event (seen limit m runs) (seen limit m (runs ++ runs_of ((event, reply) ∷ []))) event reply
      (is ∙ ap (λ v. Some (v, reply)) (sym (same_seen m (runs_of ((event, reply) ∷ [])) none refl)))

  -- no event
  silent : (m' : Storage) (phase : Phase) → cells_of m' runs ≡ cells_of m runs → Replies limit m runs (goes_on m' phase)
  silent m' phase is = same_seen m' [] refl is

  -- the cells where n more places are claimed
  claimed : (n : ℕ)
      → cells_of (with_size m (m.size + n))
      (runs ++ record { owner = actor; from = m.size; n = n } ∷ []) ≡ cells_of m runs ++ replicate n (cells.Pending actor)
  claimed n =
      let run : OwnedRun = record { owner = actor; from = m.size; n = n } in
      let more : List OwnedRun = runs ++ run ∷ [] in
      let before : map (seen_at m more) (range_with_len 0 m.size) ≡ map (seen_at m runs) (range_with_len 0 m.size) =
      map_same (seen_at m more) (seen_at m runs) 0 m.size (λ p low high.
      let owned = owned_between 0 m.size runs p sees.tile (omega arith) (omega arith) in
      ap (λ o. cell_of o (finite.get m.slots p)) (owner_kept runs (run ∷ []) p owned.0 owned.1 ∙ sym owned.1)) in
      let behind : map (seen_at m more) (range_with_len m.size n) ≡ replicate n (cells.Pending actor) =
      map_all (seen_at m more) (cells.Pending actor) m.size n (λ p low high.
      let owner : owner_of more p ≡ Some actor = owner_new runs (run ∷ []) p (none_past 0 m.size runs p sees.tile low) ∙ ap (λ b. if b then Some actor else None) (has_place-true run p low high) in
      ap (λ o. cell_of o (finite.get m.slots p)) owner ∙ ap (λ s. cell_of (Some actor) s) (empty_past m sees.taken p low)) in
      let start : 0 + m.size ≡ m.size = omega arith in
      map_more (seen_at m more) 0 m.size n
      ∙ ap (λ s. map (seen_at m more) (range_with_len 0 m.size) ++ map (seen_at m more) (range_with_len s n)) start
      ∙ ap (λ cs. cs ++ map (seen_at m more) (range_with_len m.size n)) before
      ∙ ap (λ cs. cells_of m runs ++ cs) behind

  -- a claiming event
  claims : (n : ℕ) (event : Event)
      → runs_of ((event, replies.Run m.size n) ∷ []) ≡ record { owner = actor; from = m.size; n = n } ∷ []
      → apply_event (seen limit m runs) event ≡ Some (with_pending (seen limit m runs) actor n, replies.Run m.size n)
      → IsHistory (seen limit m runs) ((event, replies.Run m.size n) ∷ [])
      (seen limit (with_size m (m.size + n)) (runs ++ runs_of ((event, replies.Run m.size n) ∷ [])))
  claims n event run_is is =
      let now : seen limit (with_size m (m.size + n)) (runs ++ runs_of ((event, replies.Run m.size n) ∷ [])) ≡ with_pending (seen limit m runs) actor n =
      ap (λ rs. seen limit (with_size m (m.size + n)) (runs ++ rs)) run_is ∙ ap (λ cs. record { limit = limit; cells = cs }) (claimed n) in
      one_event (seen limit m runs) _ event (replies.Run m.size n) (is ∙ ap (λ v. Some (v, replies.Run m.size n)) (sym now))

  -- ---- Load

  full_told : (n : ℕ) → limit < m.size + n
      → Replies limit m runs (ends m (events.RefusedFull actor n) (replies.Full m.size) (answers.Full m.size))
  full_told n past = tells (events.RefusedFull actor n) (replies.Full m.size) (answers.Full m.size) refl (full_applies (seen limit m runs) actor m.size seen_length n past)

  enough_told : (to : ℕ) → to ≤ m.size
      → Replies limit m runs (ends m (events.Raise actor to) (replies.Enough m.size) (answers.Enough m.size))
  enough_told to had = tells (events.Raise actor to) (replies.Enough m.size) (answers.Enough m.size) refl (enough_applies (seen limit m runs) actor m.size seen_length to had)

  nothing_claimed : Replies limit m runs (ends m (events.Claim actor 0) (replies.Run m.size 0) (answers.Run m.size 0))
  nothing_claimed =
      let all : m.size + 0 ≡ m.size = omega arith in
      let room : m.size + 0 ≤ limit = (let r = sees.room in omega arith) in
      subst (λ size. IsHistory (seen limit m runs) ((events.Claim actor 0, replies.Run m.size 0) ∷ []) (seen limit (with_size m size) (runs ++ runs_of ((events.Claim actor 0, replies.Run m.size 0) ∷ [])))) all
      (claims 0 (events.Claim actor 0) refl (claim_applies (seen limit m runs) actor m.size seen_length 0 room))

  growth_told : (n : ℕ) → Replies limit m runs (load_growth limit m actor n)
  growth_told n =
      growth_cases (Replies limit m runs) m actor limit n
      (λ _. nothing_claimed) (λ _ _. silent m (Scout m.size n (segment_of m.layout m.size)) refl) (λ past. full_told n past)

  at_least_told : (to : ℕ) → Replies limit m runs (load_at_least limit m actor to)
  at_least_told to =
      at_least_cases (Replies limit m runs) m actor limit to
      (λ had. enough_told to had)
      (λ _ _. silent m (Scout m.size (to - m.size) (segment_of m.layout m.size)) refl)
      (λ more past. full_told (to - m.size) (omega arith))

  out_of_range_told : (place : ℕ) → m.size ≤ place
      → Replies limit m runs (ends m (events.Look actor place) (replies.OutOfRange m.size) (answers.OutOfRange m.size))
  out_of_range_told place past =
      let none : slice_get (cells_of m runs) place ≡ None = slice_get_past (cells_of m runs) place (omega (arith, seen_length)) in
      tells (events.Look actor place) (replies.OutOfRange m.size) (answers.OutOfRange m.size) refl
      (look_applies (seen limit m runs) actor place None none ∙ ap (λ k. Some (seen limit m runs, replies.OutOfRange k)) seen_length)

  place_told : (place : ℕ) (phase : Phase) → Replies limit m runs (load_place m actor place phase)
  place_told place phase =
      load_place_cases (Replies limit m runs) m actor place phase (λ _. silent m phase refl) (λ past. out_of_range_told place past)

  load_told : (command : Command) → Replies limit m runs (load limit m actor command)
  load_told (commands.Push value) = growth_told 1
  load_told (commands.Grow n value) = growth_told n
  load_told (commands.AtLeast to value) = at_least_told to
  load_told (commands.Fail n value at) = growth_told n
  load_told (commands.Mend place value) = place_told place (Mend place)
  load_told (commands.Read place) = place_told place (Look place)
  load_told commands.Size = tells (events.Size actor) (replies.Size m.size) (answers.Size m.size) refl (size_applies (seen limit m runs) actor m.size seen_length)

  -- ---- Scout and Put

  scout_told : (command : Command) (from n k : ℕ) → Replies limit m runs (scout m command from n k)
  scout_told command from n k =
      scout_cases (Replies limit m runs) m command from n k
      (λ _. silent m (after_segment m.layout command from n k) refl) (silent m (Put from n k) refl)

  put_told : (command : Command) (memory : Bool) (from n k : ℕ)
      → Replies limit m runs (put m actor command memory from n k)
  put_told command true from n k = silent (with_segment m k) (after_segment m.layout command from n k) refl
  put_told command false from n k = tells (events.RefusedMemory actor) replies.NoMemory answers.NoMemory refl refl

  -- ---- Exchange and Raise

  exchange_told : (from n : ℕ) → from + n ≤ limit → Replies limit m runs (exchange limit m actor from n)
  exchange_told from n room =
      exchange_cases (Replies limit m runs) m actor limit from n
      (λ same. claims n (events.Claim actor n) refl (claim_applies (seen limit m runs) actor m.size seen_length n (omega arith)))
      (λ _. silent m (Scout m.size n (segment_of m.layout m.size)) refl)
      (λ past. full_told n past)

  raise_told : (to : ℕ) → to ≤ limit → Replies limit m runs (raise m actor to)
  raise_told to room =
      raise_cases (Replies limit m runs) m actor to
      (λ had. enough_told to had)
      (λ more. claims (to - m.size) (events.Raise actor to) refl (raise_applies (seen limit m runs) actor m.size seen_length to more room))

  -- ---- Begin, Fill and Spoil

  -- a cell that is seen of a slot that was set
  seen_set : (place : ℕ) (slot : CellSlot)
      → seen_at (with_slot m place slot) runs place ≡ cell_of (owner_of runs place) (Some slot)
  seen_set place slot = ap (λ s. cell_of (owner_of runs place) s) (get_set_same m place slot)

  seen_other : (place : ℕ) (slot : CellSlot) (q : ℕ) → q ≢ place
      → seen_at m runs q ≡ seen_at (with_slot m place slot) runs q
  seen_other place slot q apart = ap (λ s. cell_of (owner_of runs q) s) (sym (get_set_other m place slot q apart))

  begin_told : (command : Command) (from n place : ℕ) (slot : Option CellSlot) → finite.get m.slots place ≡ slot
      → owner_of runs place ≡ Some actor → Replies limit m runs (begin_at m actor command from n place slot)
  begin_told command from n place (Some slot) is ours = silent m (Begin from n place) refl
  begin_told command from n place None is ours =
      let pending : cells.Pending actor ≡ seen_at m runs place =
      sym (ap (λ s. cell_of (owner_of runs place) s) is ∙ ap (λ o. cell_of o None) ours)
      in
      let same : cells_of (with_slot m place (Busy actor)) runs ≡ cells_of m runs =
      map_same (seen_at (with_slot m place (Busy actor)) runs) (seen_at m runs) 0 m.size (λ p low high. elim (eqb_tells p place) [
        | inl same ↦ subst (λ q. seen_at (with_slot m place (Busy actor)) runs q ≡ seen_at m runs q) (sym same.1)
            (seen_set place (Busy actor) ∙ pending)
        | inr apart ↦ sym (seen_other place (Busy actor) p apart.1)
      ]) in
      begin_cases (Replies limit m runs) m actor command from n place
      (λ _. silent (with_slot m place (Busy actor)) (Spoil from n place) same)
      (λ _. silent (with_slot m place (Busy actor)) (Fill from n place) same)

  -- the cells where a slot of a place is finished
  settled : (place : ℕ) (slot : CellSlot) → place < m.size
      → cells_of (with_slot m place slot) runs ≡ slice_set (cells_of m runs) place (cell_of (owner_of runs place) (Some slot))
  settled place slot inside =
      let here : 0 + place ≡ place = omega arith in
      map_set (seen_at m runs) (seen_at (with_slot m place slot) runs) 0 m.size place inside (λ p apart. seen_other place slot p (λ same. apart (same ∙ sym here)))
      ∙ ap (λ p. slice_set (cells_of m runs) place (seen_at (with_slot m place slot) runs p)) here
      ∙ ap (λ c. slice_set (cells_of m runs) place c) (seen_set place slot)

  -- what a reader sees at a place
  seen_there : (place : ℕ) (slot : Option CellSlot) → place < m.size → finite.get m.slots place ≡ slot
      → slice_get (cells_of m runs) place ≡ Some (cell_of (owner_of runs place) slot)
  seen_there place slot inside is =
      let here : 0 + place ≡ place = omega arith in
      map_get (seen_at m runs) 0 m.size place inside ∙ ap (λ p. Some (seen_at m runs p)) here ∙ ap (λ s. Some (cell_of (owner_of runs place) s)) is

  -- the place is pending for the actor that is writing its slot
  pending_there : (place : ℕ) → place < m.size → finite.get m.slots place ≡ Some (Busy actor)
      → slice_get (cells_of m runs) place ≡ Some (cells.Pending actor)
  pending_there place inside busy = seen_there place (Some (Busy actor)) inside busy

  -- what is seen where the slot of a cell is set
  finished : (place : ℕ) (slot : CellSlot) (cell : Cell) (event : Event) → place < m.size
      → cell_of (owner_of runs place) (Some slot) ≡ cell → runs_of ((event, replies.Done) ∷ []) ≡ []
      → seen limit (with_slot m place slot)
      (runs ++ runs_of ((event, replies.Done) ∷ [])) ≡ with_cell (seen limit m runs) place cell
  finished place slot cell event inside is none =
      ap (λ rs. seen limit (with_slot m place slot) rs) (ap (λ rs. runs ++ rs) none ∙ append-nil runs)
      ∙ ap (λ cs. record { limit = limit; cells = cs }) (settled place slot inside ∙ ap (λ c. slice_set (cells_of m runs) place c) is)

  fill_told : (command : Command) (from n place : ℕ) → Won m runs actor from n place
      → finite.get m.slots place ≡ Some (Busy actor) → Replies limit m runs (fill m actor command from n place)
  fill_told command from n place won busy =
      let inside : place < m.size = (let a = won.before in let b = won.claimed in omega arith) in
      let value = value_of command in
      let now = finished place (Filled value) (cells.Filled value) (events.Finish actor place value) inside refl refl in
      one_event (seen limit m runs) _ (events.Finish actor place value) replies.Done
      (finish_applies (seen limit m runs) actor place value (pending_there place inside busy) ∙ ap (λ v. Some (v, replies.Done)) (sym now))

  spoil_told : (command : Command) (from n place : ℕ) → Won m runs actor from n place
      → finite.get m.slots place ≡ Some (Busy actor) → Replies limit m runs (spoil m actor command from n place)
  spoil_told command from n place won busy =
      let inside : place < m.size = (let a = won.before in let b = won.claimed in omega arith) in
      let now = finished place Broken cells.Broken (events.Break actor place) inside refl refl in
      one_event (seen limit m runs) _ (events.Break actor place) replies.Done
      (break_applies (seen limit m runs) actor place (pending_there place inside busy) ∙ ap (λ v. Some (v, replies.Done)) (sym now))

  -- ---- Look

  looks : (place : ℕ) (slot : Option CellSlot) (reply : Reply) (answer : Answer) → place < m.size
      → finite.get m.slots place ≡ slot
      → reply_of_look (length (cells_of m runs)) (Some (cell_of (owner_of runs place) slot)) ≡ reply
      → Replies limit m runs (ends m (events.Look actor place) reply answer)
  looks place slot reply answer inside is told =
      tells (events.Look actor place) reply answer refl
      (look_applies (seen limit m runs) actor place (Some (cell_of (owner_of runs place) slot)) (seen_there place slot inside is) ∙ ap (λ r. Some (seen limit m runs, r)) told)

  look_told : (place : ℕ) (slot : Option CellSlot) → place < m.size → finite.get m.slots place ≡ slot
      → Replies limit m runs (look_at m actor place slot)
  look_told place None inside is = looks place None replies.Pending answers.Pending inside is refl
  look_told place (Some (Busy owner)) inside is = looks place (Some (Busy owner)) replies.Pending answers.Pending inside is refl
  look_told place (Some (Filled value)) inside is = looks place (Some (Filled value)) (replies.Value value) (answers.Value value) inside is refl
  look_told place (Some Broken) inside is = looks place (Some Broken) replies.Broken answers.Broken inside is refl

  -- ---- Mend

  mend_told : (place : ℕ) (slot : Option CellSlot) → place < m.size → finite.get m.slots place ≡ slot
      → Replies limit m runs (mend_at m actor place slot)
  mend_told place None inside is = look_told place None inside is
  mend_told place (Some (Busy owner)) inside is = look_told place (Some (Busy owner)) inside is
  mend_told place (Some (Filled value)) inside is = look_told place (Some (Filled value)) inside is
  mend_told place (Some Broken) inside is =
      let now = finished place (Busy actor) (cells.Pending actor) (events.Mend actor place) inside refl refl in
      one_event (seen limit m runs) _ (events.Mend actor place) replies.Done
      (mend_applies (seen limit m runs) actor place (seen_there place (Some Broken) inside is) ∙ ap (λ v. Some (v, replies.Done)) (sym now))

  mended_told : (command : Command) (place : ℕ) → place < m.size → finite.get m.slots place ≡ Some (Busy actor)
      → Replies limit m runs (fill_mended m actor command place)
  mended_told command place inside busy =
      let value = value_of command in
      let now = finished place (Filled value) (cells.Filled value) (events.Finish actor place value) inside refl refl in
      one_event (seen limit m runs) _ (events.Finish actor place value) replies.Done
      (finish_applies (seen limit m runs) actor place value (pending_there place inside busy) ∙ ap (λ v. Some (v, replies.Done)) (sym now))

  -- ---- The table

  pub row_told : (command : Command) (memory : Bool) (phase : Phase) → IsWithin m.layout limit command phase
      → (writes : ℕ → List Event) → Knows m runs writes actor phase → Replies limit m runs (outcome_of limit m actor command memory phase)
  row_told command memory Load within writes knows = load_told command
  row_told command memory (Scout from n k) within writes knows = scout_told command from n k
  row_told command memory (Put from n k) within writes knows = put_told command memory from n k
  row_told command memory (Exchange from n) (some, room, exchanges) writes knows = exchange_told from n room
  row_told command memory (Raise to) within writes knows = raise_told to within
  row_told command memory (Begin from n place) within writes (won, empty) =
      begin_told command from n place (finite.get m.slots place) refl (won.owned place won.within won.before)
  row_told command memory (Fill from n place) within writes (won, busy, nothing) = fill_told command from n place won busy
  row_told command memory (Spoil from n place) within writes (won, busy, nothing) = spoil_told command from n place won busy
  row_told command memory (Mend place) within writes inside = mend_told place (finite.get m.slots place) inside refl
  row_told command memory (FillMended place) within writes (inside, busy, by) = mended_told command place inside busy
  row_told command memory (Look place) within writes inside = look_told place (finite.get m.slots place) inside refl
