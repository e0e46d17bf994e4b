-- The effect of a legal event on the list: none, or it appends a run of pending places, or it writes one
-- place.
use Rattle.std.proofs.Common.{◌≡◌, ◌⊎◌, ℕ, ◌+◌, ◌-◌, nat_le, ◌==◌, Bool, true, false, if◌then◌else◌, [], ◌∷◌, length, Option, Some, None, slice_get, refl, ap, subst, inl, inr}
use Rattle.std.proofs.lemmas.Bool.{eqb-true, false≢true}
use Rattle.std.proofs.lemmas.Option.{none-some, same_Some}
use Rattle.book_core.specs.declared.cells.Cell.{Cell}
use Rattle.book_core.specs.declared.cells.Cell.TheVariants.{Pending, Filled, Broken}
use Rattle.book_core.specs.declared.events.Event.{Event}
use Rattle.book_core.specs.declared.events.Event.TheVariants.{Claim, Raise, Finish, Break, Mend, Look, Size, RefusedFull, RefusedMemory}
use Rattle.book_core.specs.declared.events.Reply.{Reply}
use Rattle.book_core.specs.declared.events.Reply.TheVariants as replies
use Rattle.book_core.specs.Cells.{CellList, with_pending, with_cell, is_pending_for, is_broken, reply_of_look, apply_event}
use Rattle.book_core.specs.Events.{write_in}
use Rattle.book_core.specs.History.{run_of}

-- the list stays, and the event is neither a claim nor a write
pub record ChangesNothing (v : CellList) (event : Event) (w : CellList) (reply : Reply) : Type 0 where
  pub list : w ≡ v
  pub run : run_of event reply ≡ []
  pub writes : (place : ℕ) → write_in place event ≡ []

-- the event is a claim of n places by an actor
pub record AppendsRun (v : CellList) (event : Event) (w : CellList) (reply : Reply) : Type 0 where
  pub actor : ℕ
  pub n : ℕ
  pub list : w ≡ with_pending v actor n
  pub run : run_of event reply ≡ record { owner = actor; from = length v.cells; n = n } ∷ []
  pub writes : (place : ℕ) → write_in place event ≡ []

-- the event with which an actor writes this cell
abbrev pub IsWriteOf : ℕ → ℕ → Cell → Event → Reply → Type 0
IsWriteOf actor at (Pending mender) event reply = (mender ≡ actor) × (event ≡ Mend actor at) × (reply ≡ replies.Done)
IsWriteOf actor at (Filled value) event reply = (event ≡ Finish actor at value) × (reply ≡ replies.Done)
IsWriteOf actor at Broken event reply = (event ≡ Break actor at) × (reply ≡ replies.Done)

-- what an actor finds when it writes this cell: a broken place that it mends, or its own pending one
abbrev pub found_by : ℕ → Cell → Cell
found_by actor (Pending mender) = Broken
found_by actor (Filled value) = Pending actor
found_by actor Broken = Pending actor

-- the event is a write of a place that its actor may write
pub record WritesCell (v : CellList) (event : Event) (w : CellList) (reply : Reply) : Type 0 where
  pub actor : ℕ
  pub at : ℕ
  pub cell : Cell
  pub write : IsWriteOf actor at cell event reply
  pub found : slice_get v.cells at ≡ Some (found_by actor cell)
  pub list : w ≡ with_cell v at cell
  pub run : run_of event reply ≡ []
  pub writes : (place : ℕ) → write_in place event ≡ (if at == place then event ∷ [] else [])

abbrev pub Does : CellList → Event → CellList → Reply → Type 0
Does v event w reply = ChangesNothing v event w reply ⊎ (AppendsRun v event w reply ⊎ WritesCell v event w reply)

-- what an event does whose row of the table is this one
Row : CellList → Event → Option (CellList × Reply) → Type 0
Row v event after = (w : CellList) (reply : Reply) → after ≡ Some (w, reply) → Does v event w reply

not_legal : (v : CellList) (event : Event) → Row v event None
unfolding Row
not_legal v event w reply is = absurd (none-some (w, reply) is)

legal : (v : CellList) (event : Event) (to : CellList) (told : Reply) → Does v event to told
    → Row v event (Some (to, told))
unfolding Row
legal v event to told does w reply is = subst (λ (a : CellList × Reply). Does v event a.0 a.1) (same_Some _ _ is) does

-- a place that is found pending for an actor
pub pending_is : (actor : ℕ) (cell : Option Cell) → is_pending_for actor cell ≡ true → cell ≡ Some (Pending actor)
pending_is actor (Some (Pending owner)) is = ap (λ k. Some (Pending k)) (eqb-true owner actor is)
pending_is actor (Some (Filled value)) is = absurd (false≢true is)
pending_is actor (Some Broken) is = absurd (false≢true is)
pending_is actor None is = absurd (false≢true is)

-- a place that is found broken
broken_is : (cell : Option Cell) → is_broken cell ≡ true → cell ≡ Some Broken
broken_is (Some (Pending owner)) is = absurd (false≢true is)
broken_is (Some (Filled value)) is = absurd (false≢true is)
broken_is (Some Broken) is = refl
broken_is None is = absurd (false≢true is)

-- a write, if a test finds that the place has what the actor writes to
write_row : (v : CellList) (actor at : ℕ) (cell : Cell) (event : Event) (test : Bool)
    → (test ≡ true → slice_get v.cells at ≡ Some (found_by actor cell)) → IsWriteOf actor at cell event replies.Done
    → run_of event replies.Done ≡ [] → ((place : ℕ) → write_in place event ≡ (if at == place then event ∷ [] else []))
    → Row v event (if test then Some (with_cell v at cell, replies.Done) else None)
write_row v actor at cell event true found write run writes =
    legal v event (with_cell v at cell) replies.Done (inr (inr (record {
      actor = actor;
      at = at;
      cell = cell;
      write = write;
      found = found refl;
      list = refl;
      run = run;
      writes = writes;
    })))
write_row v actor at cell event false found write run writes = not_legal v event

-- an event that changes nothing
same_row : (v : CellList) (event : Event) (told : Reply) → run_of event told ≡ []
    → ((place : ℕ) → write_in place event ≡ []) → Row v event (Some (v, told))
same_row v event told run writes = legal v event v told (inl (record { list = refl; run = run; writes = writes }))

-- a claim
claim_row : (v : CellList) (actor n : ℕ) (event : Event)
    → run_of event (replies.Run (length v.cells) n) ≡ record { owner = actor; from = length v.cells; n = n } ∷ []
    → ((place : ℕ) → write_in place event ≡ [])
    → Row v event (Some (with_pending v actor n, replies.Run (length v.cells) n))
claim_row v actor n event run writes =
    legal v event (with_pending v actor n) (replies.Run (length v.cells) n) (inr (inl (record { actor = actor; n = n; list = refl; run = run; writes = writes })))

row_of : (v : CellList) (event : Event) → Row v event (apply_event v event)
row_of v (Claim actor n) =
    elim (nat_le (length v.cells + n) v.limit) as (λ b. Row v (Claim actor n) (if b then Some (with_pending v actor n, replies.Run (length v.cells) n) else None))
    [ true ↦ claim_row v actor n (Claim actor n) refl (λ _. refl) | false ↦ not_legal v (Claim actor n) ]
row_of v (Raise actor to) =
    elim (nat_le to (length v.cells)) as (λ b. Row v (Raise actor to) (if b then Some (v, replies.Enough (length v.cells)) else if nat_le to v.limit then Some (with_pending v actor (to - length v.cells), replies.Run (length v.cells) (to - length v.cells)) else None)) [
      | true ↦ same_row v (Raise actor to) (replies.Enough (length v.cells)) refl (λ _. refl)
      | false ↦
          elim (nat_le to v.limit) as (λ b. Row v (Raise actor to) (if b then Some (with_pending v actor (to - length v.cells), replies.Run (length v.cells) (to - length v.cells)) else None))
          [ true ↦ claim_row v actor (to - length v.cells) (Raise actor to) refl (λ _. refl) | false ↦ not_legal v (Raise actor to) ]
    ]
row_of v (Finish actor place value) =
    write_row v actor place (Filled value) (Finish actor place value) (is_pending_for actor (slice_get v.cells place))
    (pending_is actor (slice_get v.cells place)) (refl, refl) refl (λ _. refl)
row_of v (Break actor place) =
    write_row v actor place Broken (Break actor place) (is_pending_for actor (slice_get v.cells place))
    (pending_is actor (slice_get v.cells place)) (refl, refl) refl (λ _. refl)
row_of v (Mend actor place) =
    write_row v actor place (Pending actor) (Mend actor place) (is_broken (slice_get v.cells place))
    (broken_is (slice_get v.cells place)) (refl, refl, refl) refl (λ _. refl)
row_of v (Look actor place) = same_row v (Look actor place) (reply_of_look (length v.cells) (slice_get v.cells place)) refl (λ _. refl)
row_of v (Size actor) = same_row v (Size actor) (replies.Size (length v.cells)) refl (λ _. refl)
row_of v (RefusedFull actor n) =
    elim (nat_le (length v.cells + n) v.limit) as (λ b. Row v (RefusedFull actor n) (if b then None else Some (v, replies.Full (length v.cells))))
    [ true ↦ not_legal v (RefusedFull actor n) | false ↦ same_row v (RefusedFull actor n) (replies.Full (length v.cells)) refl (λ _. refl) ]
row_of v (RefusedMemory actor) = same_row v (RefusedMemory actor) replies.NoMemory refl (λ _. refl)

-- what an event does if it is legal
pub event_does : (v : CellList) (event : Event) (w : CellList) (reply : Reply)
    → apply_event v event ≡ Some (w, reply) → Does v event w reply
unfolding Row
event_does v event w reply is = row_of v event w reply is
