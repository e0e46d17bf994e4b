-- Each place's cell was written by the place's owner, or by its mender.
use Rattle.std.proofs.Common.{◌≡◌, ℕ, ◌+◌, ◌<◌, ◌≤◌, ◌==◌, Bool, true, false, if◌then◌else◌, List, [], ◌∷◌, ◌++◌, length, replicate, Option, Some, None, slice_get, refl, ap, sym, ◌∙◌, subst, append_assoc, arith, inl, inr}
use Rattle.std.proofs.lemmas.Bool.{cases_lt, ne_eqb, false≢true}
use Rattle.std.proofs.lemmas.Bool.Decides.{nat_tests, eqb_tells}
use Rattle.std.proofs.lemmas.List.{append-nil, length-append, length-replicate, length-set}
use Rattle.std.proofs.lemmas.List.Elements.{Contains-append_left, Contains-append_right}
use Rattle.std.proofs.lemmas.Option.{slice_get_past, slice_get_cases, same_Some}
use Rattle.book_core.specs.declared.cells.Cell.{Cell}
use Rattle.book_core.specs.declared.cells.Cell.TheVariants.{Pending, Filled, Broken}
use Rattle.book_core.specs.declared.events.Event.{Event}
use Rattle.book_core.specs.declared.events.Event.TheVariants.{Finish, Break, Mend, Look}
use Rattle.book_core.specs.declared.events.Reply.{Reply}
use Rattle.book_core.specs.declared.events.Reply.TheVariants as replies
use Rattle.book_core.specs.Cells.{CellList, empty_list, reply_of_look, apply_event}
use Rattle.book_core.specs.Events.{write_in, finisher_in, finishers_of}
use Rattle.book_core.specs.History.{IsHistory, run_of, runs_of, Tile, owner_of, writes_of}
use Rattle.book_core.specs.Laws.{IsItsToFinish, IsFilledOnce, ValuesHaveOneWriter, LooksTellTheWritersValue}
use Rattle.book_core.proofs.EventEffects.{IsWriteOf, found_by, ChangesNothing, AppendsRun, WritesCell, event_does}
use Rattle.book_core.proofs.Histories.{IsHistory-split}
use Rattle.book_core.proofs.Lists.{get_before, get_other, get_set, get_appended}
use Rattle.book_core.proofs.Runs.{has_place-true, owner_kept, owner_new, none_past, tile-append, runs_of-append, writes_of-append}

-- what a history says of a place, by the cell there
Says : List (Event × Reply) → ℕ → Option Cell → Type 0
Says es place None = writes_of place es ≡ []
Says es place (Some (Pending actor)) =
    IsItsToFinish es place actor (writes_of place es) × (finishers_of (writes_of place es) ≡ [])
Says es place (Some (Filled value)) = IsFilledOnce es place value
Says es place (Some Broken) = finishers_of (writes_of place es) ≡ []

-- what a history says of the list that it leads to
record Tells (es : List (Event × Reply)) (v : CellList) : Type 0 where
  pub tile : Tile 0 (runs_of es) (length v.cells)
  pub says : (place : ℕ) → Says es place (slice_get v.cells place)

-- who finished places in two lists of events
finishers_of-append : (xs ys : List Event) → finishers_of (xs ++ ys) ≡ finishers_of xs ++ finishers_of ys
finishers_of-append [] ys = refl
finishers_of-append (x ∷ xs) ys = ap (λ fs. finisher_in x ++ fs) (finishers_of-append xs ys) ∙ sym (append_assoc (finisher_in x) (finishers_of xs) (finishers_of ys))

-- a place keeps its owner after one more event
owner_stays : (es : List (Event × Reply)) (e : Event × Reply) (place k : ℕ) → owner_of (runs_of es) place ≡ Some k
    → owner_of (runs_of (es ++ e ∷ [])) place ≡ Some k
owner_stays es e place k is =
    ap (λ rs. owner_of rs place) (runs_of-append es (e ∷ [])) ∙ owner_kept (runs_of es) (runs_of (e ∷ [])) place k is

-- it is as much the actor's to finish after one more event, by what was done there before
its_stays : (es : List (Event × Reply)) (e : Event × Reply) (place actor : ℕ) (writes : List Event)
    → IsItsToFinish es place actor writes → IsItsToFinish (es ++ e ∷ []) place actor writes
its_stays es e place actor writes its = elim its [
  | inl (owns, none) ↦ inl (owner_stays es e place actor owns, none)
  | inr mended ↦ inr mended
]

-- what was done at a place, after one more event
writes_of-push : (place : ℕ) (es : List (Event × Reply)) (e : Event × Reply)
    → writes_of place (es ++ e ∷ []) ≡ writes_of place es ++ write_in place e.0
writes_of-push place es e =
    writes_of-append place es (e ∷ []) ∙ ap (λ ws. writes_of place es ++ ws) (append-nil (write_in place e.0))

-- what is said of a place stays where an event doesn't write the place
says_kept : (es : List (Event × Reply)) (e : Event × Reply) (place : ℕ) (cell : Option Cell)
    → write_in place e.0 ≡ [] → Says es place cell → Says (es ++ e ∷ []) place cell
unfolding Says
says_kept es e place cell nothing =
    let writes : writes_of place (es ++ e ∷ []) ≡ writes_of place es = writes_of-push place es e ∙ ap (λ ws. writes_of place es ++ ws) nothing ∙ append-nil (writes_of place es) in
    elim cell as (λ c. Says es place c → Says (es ++ e ∷ []) place c) [
      | None ↦ (λ none. writes ∙ none)
      | Some (Pending k) ↦ (λ (its, none). (subst (IsItsToFinish (es ++ e ∷ []) place k) (sym writes) (its_stays es e place k (writes_of place es) its), ap finishers_of writes ∙ none))
      | Some (Filled value) ↦ (λ filled. record {
        writer = filled.writer;
        filled = Contains-append_left es (e ∷ []) (Finish filled.writer place value, replies.Done) filled.filled;
        before = filled.before;
        last = writes ∙ filled.last;
        its = its_stays es e place filled.writer filled.before filled.its;
        once = ap finishers_of writes ∙ filled.once;
      })
      | Some Broken ↦ (λ none. ap finishers_of writes ∙ none)
    ]

module _ (es : List (Event × Reply)) (v : CellList) (tells : Tells es v) (event : Event) (w : CellList) (reply : Reply) where
  -- the event with its reply
  abbrev e : Event × Reply
  e = (event, reply)

  -- the runs tile the list after the event, if its run tiles what it appends
  tile_after : Tile (length v.cells) (run_of event reply) (length w.cells)
      → Tile 0 (runs_of (es ++ e ∷ [])) (length w.cells)
  tile_after more =
      subst (λ rs. Tile 0 rs (length w.cells)) (sym (runs_of-append es (e ∷ []) ∙ ap (λ rs. runs_of es ++ rs) (append-nil (run_of event reply))))
      (tile-append 0 (length v.cells) (length w.cells) (runs_of es) (run_of event reply) tells.tile more)

  -- of a place that the event neither appends nor writes
  elsewhere : (place : ℕ) → write_in place event ≡ [] → slice_get w.cells place ≡ slice_get v.cells place
      → Says (es ++ e ∷ []) place (slice_get w.cells place)
  elsewhere place nothing same =
      subst (Says (es ++ e ∷ []) place) (sym same)
      (says_kept es e place (slice_get v.cells place) nothing (tells.says place))

  nothing_told : ChangesNothing v event w reply → Tells (es ++ e ∷ []) w
  nothing_told nothing = record {
    tile = tile_after (subst (λ rs. Tile (length v.cells) rs (length w.cells)) (sym nothing.run) (ap (λ (x : CellList). length x.cells) (sym nothing.list)));
    says = λ place. elsewhere place (nothing.writes place) (ap (λ (x : CellList). slice_get x.cells place) nothing.list);
  }

  -- an appended place is its claimer's, and not written
  appended_says : (run : AppendsRun v event w reply) (place : ℕ) → length v.cells ≤ place
      → place < length v.cells + run.n → Says (es ++ e ∷ []) place (slice_get w.cells place)
  unfolding Says
  appended_says run place low high =
      let here : slice_get w.cells place ≡ Some (Pending run.actor) =
      ap (λ (x : CellList). slice_get x.cells place) run.list ∙ get_appended v.cells run.n place (Pending run.actor) low high
      in
      let before : slice_get v.cells place ≡ None = slice_get_past v.cells place low in
      let nothing : writes_of place es ≡ [] = subst (Says es place) before (tells.says place) in
      let still : writes_of place (es ++ e ∷ []) ≡ [] = writes_of-push place es e ∙ ap (λ ws. ws ++ write_in place event) nothing ∙ run.writes place in
      let owner : owner_of (runs_of (es ++ e ∷ [])) place ≡ Some run.actor =
      ap (λ rs. owner_of rs place) (runs_of-append es (e ∷ []) ∙ ap (λ rs. runs_of es ++ (rs ++ [])) run.run)
      ∙ owner_new (runs_of es) (record { owner = run.actor; from = length v.cells; n = run.n } ∷ []) place (none_past 0 (length v.cells) (runs_of es) place tells.tile low)
      ∙ ap (λ b. if b then Some run.actor else None) (has_place-true (record { owner = run.actor; from = length v.cells; n = run.n }) place low high)
      in
      subst (Says (es ++ e ∷ []) place) (sym here) (inl (owner, still), ap finishers_of still)

  appends_told : AppendsRun v event w reply → Tells (es ++ e ∷ []) w
  appends_told run =
      let length_is : length w.cells ≡ length v.cells + run.n =
      ap (λ (x : CellList). length x.cells) run.list ∙ length-append v.cells (replicate run.n (Pending run.actor)) ∙ ap (λ k. length v.cells + k) (length-replicate run.n (Pending run.actor))
      in
      record {
        tile = tile_after (subst (λ rs. Tile (length v.cells) rs (length w.cells)) (sym run.run) (refl, sym length_is));
        says = λ place. elim (cases_lt place (length v.cells)) [
          | inl before ↦ elsewhere place (run.writes place) (
              ap (λ (x : CellList). slice_get x.cells place) run.list
              ∙ elim ((slice_get_cases v.cells place).1) [
                | inl (x, inside, is, _) ↦ get_before v.cells (replicate run.n (Pending run.actor)) place x is ∙ sym is
                | inr (past, _) ↦ absurd (omega arith)
              ])
          | inr past ↦
              elim (cases_lt place (length v.cells + run.n)) [
                | inl inside ↦ appended_says run place past inside
                | inr beyond ↦ elsewhere place (run.writes place)
                    (slice_get_past w.cells place (omega arith) ∙ sym (slice_get_past v.cells place past))
              ]
        ];
      }

  -- what is said of a place that is written, by what its actor found there and what it wrote
  written_by : (actor at : ℕ) (cell : Cell) → IsWriteOf actor at cell event reply
      → writes_of at (es ++ e ∷ []) ≡ writes_of at es ++ event ∷ [] → Says es at (Some (found_by actor cell))
      → Says (es ++ e ∷ []) at (Some cell)
  unfolding Says
  written_by actor at (Pending mender) (is_mender, event_is, reply_is) writes none =
      let grown : writes_of at (es ++ e ∷ []) ≡ writes_of at es ++ Mend actor at ∷ [] = writes ∙ ap (λ x. writes_of at es ++ x ∷ []) event_is in (
        subst (λ k. IsItsToFinish (es ++ e ∷ []) at k (writes_of at (es ++ e ∷ []))) (sym is_mender) (inr (writes_of at es, grown)),
        ap finishers_of grown ∙ finishers_of-append (writes_of at es) (Mend actor at ∷ []) ∙ ap (λ fs. fs ++ []) none,
      )
  written_by actor at (Filled value) (event_is, reply_is) writes (its, none) =
      let grown : writes_of at (es ++ e ∷ []) ≡ writes_of at es ++ Finish actor at value ∷ [] = writes ∙ ap (λ x. writes_of at es ++ x ∷ []) event_is in
      record {
        writer = actor;
        filled = Contains-append_right es (e ∷ []) (Finish actor at value, replies.Done) (0, omega arith, ap (λ k. (k, reply)) event_is ∙ ap (λ r. (Finish actor at value, r)) reply_is);
        before = writes_of at es;
        last = grown;
        its = its_stays es e at actor (writes_of at es) its;
        once = ap finishers_of grown ∙ finishers_of-append (writes_of at es) (Finish actor at value ∷ []) ∙ ap (λ fs. fs ++ actor ∷ []) none;
      }
  written_by actor at Broken (event_is, reply_is) writes (its, none) =
      let grown : writes_of at (es ++ e ∷ []) ≡ writes_of at es ++ Break actor at ∷ [] = writes ∙ ap (λ x. writes_of at es ++ x ∷ []) event_is in
      ap finishers_of grown ∙ finishers_of-append (writes_of at es) (Break actor at ∷ []) ∙ ap (λ fs. fs ++ []) none

  written_says : (write : WritesCell v event w reply) → Says (es ++ e ∷ []) write.at (slice_get w.cells write.at)
  written_says write =
      let here : slice_get w.cells write.at ≡ Some write.cell =
      ap (λ (x : CellList). slice_get x.cells write.at) write.list
      ∙ get_set v.cells write.at (found_by write.actor write.cell) write.cell write.found
      in
      let itself : (write.at == write.at) ≡ true = grind (arith, nat_tests) in
      let writes : writes_of write.at (es ++ e ∷ []) ≡ writes_of write.at es ++ event ∷ [] =
      writes_of-push write.at es e
      ∙ ap (λ ws. writes_of write.at es ++ ws) (write.writes write.at ∙ ap (λ b. if b then event ∷ [] else []) itself)
      in
      subst (Says (es ++ e ∷ []) write.at) (sym here)
      (written_by write.actor write.at write.cell write.write writes
      (subst (Says es write.at) write.found (tells.says write.at)))

  writes_told : WritesCell v event w reply → Tells (es ++ e ∷ []) w
  writes_told write =
      record {
        tile = tile_after (subst (λ rs. Tile (length v.cells) rs (length w.cells)) (sym write.run) (sym (ap (λ (x : CellList). length x.cells) write.list ∙ length-set v.cells write.at write.cell)));
        says = λ place. elim (eqb_tells place write.at) [
          | inl same ↦ subst (λ q. Says (es ++ (event, reply) ∷ []) q (slice_get w.cells q)) (sym same.1) (written_says write)
          | inr apart ↦ elsewhere place
              (write.writes place ∙ ap (λ b. if b then event ∷ [] else []) (let other : (write.at == place) ≡ false = ne_eqb write.at place (λ is. apart.1 (sym is)) in other))
              (ap (λ (x : CellList). slice_get x.cells place) write.list ∙ get_other v.cells write.at place write.cell apart.1)
        ];
      }

  event_told : apply_event v event ≡ Some (w, reply) → Tells (es ++ e ∷ []) w
  event_told is = elim (event_does v event w reply is) [
    | inl nothing ↦ nothing_told nothing
    | inr (inl run) ↦ appends_told run
    | inr (inr write) ↦ writes_told write
  ]

-- what holds of a history holds of what follows it
history_told : (done : List (Event × Reply)) (v : CellList) (es : List (Event × Reply)) (w : CellList)
    → Tells done v → IsHistory v es w → Tells (done ++ es) w
history_told done v [] w tells is = subst (λ xs. Tells xs w) (sym (append-nil done)) (subst (Tells done) (sym is) tells)
history_told done v (e ∷ es) w tells (mid, first, others) =
    subst (λ xs. Tells xs w) (append_assoc done (e ∷ []) es)
    (history_told (done ++ e ∷ []) mid es w (event_told done v tells e.0 mid e.1 first) others)

-- of the empty list there is nothing to say
empty_told : (limit : ℕ) → Tells [] (empty_list limit)
unfolding Says
empty_told limit = record { tile = refl; says = λ place. refl }

pub values_have_one_writer : ValuesHaveOneWriter
unfolding Says
values_have_one_writer limit new es place value history here =
    subst (Says es place) here ((history_told [] (empty_list limit) es new (empty_told limit) history).says place)

-- whether a reply is a value, and which
is_value : Reply → Bool
is_value (replies.Run from n) = false
is_value (replies.Enough size) = false
is_value replies.Done = false
is_value (replies.Value value) = true
is_value replies.Pending = false
is_value replies.Broken = false
is_value (replies.OutOfRange size) = false
is_value (replies.Size size) = false
is_value (replies.Full size) = false
is_value replies.NoMemory = false

value_in : Reply → ℕ
value_in (replies.Run from n) = 0
value_in (replies.Enough size) = 0
value_in replies.Done = 0
value_in (replies.Value value) = value
value_in replies.Pending = 0
value_in replies.Broken = 0
value_in (replies.OutOfRange size) = 0
value_in (replies.Size size) = 0
value_in (replies.Full size) = 0
value_in replies.NoMemory = 0

-- a cell that a look tells a value of holds it
value_told : (size : ℕ) (cell : Option Cell) (value : ℕ) → reply_of_look size cell ≡ replies.Value value
    → cell ≡ Some (Filled value)
unfolding is_value value_in
value_told size (Some (Pending owner)) value is = absurd (false≢true (ap is_value is))
value_told size (Some (Filled held)) value is = ap (λ k. Some (Filled k)) (ap value_in is)
value_told size (Some Broken) value is = absurd (false≢true (ap is_value is))
value_told size None value is = absurd (false≢true (ap is_value is))

pub looks_tell_the_writers_value : LooksTellTheWritersValue
looks_tell_the_writers_value limit new es rest actor place value history =
    let (mid, before, (next, look, after)) = IsHistory-split (empty_list limit) es ((Look actor place, replies.Value value) ∷ rest) new history in
    let told : reply_of_look (length mid.cells) (slice_get mid.cells place) ≡ replies.Value value = ap (λ (a : CellList × Reply). a.1) (same_Some _ _ look) in
    values_have_one_writer limit mid es place value before (value_told (length mid.cells) (slice_get mid.cells place) value told)
