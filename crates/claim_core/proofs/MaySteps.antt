-- What the rule permits, as desks ask it: steps on cells and entries by a hand's seat, from what callers see of the hand.
use Rattle.std.proofs.Common.{◌≡◌, ◌⊎◌, ℕ, ◌+◌, ◌<◌, ◌≤◌, List, [], ◌∷◌, ◌++◌, length, set, None, refl, ap, sym, ◌∙◌, subst, inl, inr, ⊎_elim, arith}
use Rattle.std.proofs.lemmas.Bool.{cases_lt}
use Rattle.std.proofs.lemmas.List.{append-nil}
use Rattle.std.specs.List.{Contains}
use mathlib.Core.Logic.{dite}
use native.Mathlib.Decide.{dec_le}
use Rattle.atomic_table.proofs.Lists.{set_again}
use Rattle.atomic_table.specs.Seated.{TableId}
use Rattle.book_core.specs.declared.events.Event.{Event}
use Rattle.book_core.specs.declared.events.Reply.{Reply}
use Rattle.tie_core.specs.Tie.{Stage, Idle, Begun, Mending, Filled, Broken, Shows, IsHeld, looks, begins, fills, breaks, mends}
use Rattle.tie_core.specs.Permits.{PermitsRow, PermitsAdoption}
use Rattle.tie_core.specs.Visit.{EntryTie, Content, PermitsVisit, PermitsPublish, PermitsEntry}
use Rattle.claim_core.specs.declared.role.CellStage.TheVariants as stages
use Rattle.claim_core.specs.declared.role.RowAt.{RowAt}
use Rattle.claim_core.specs.declared.seat_view.SeatView.{SeatView}
use Rattle.claim_core.specs.declared.terms.Terms.{Terms}
use Rattle.claim_core.specs.Lengths.{InRun, runs_end}
use Rattle.claim_core.specs.History.{Log, fill_event, break_event}
use Rattle.claim_core.specs.Shares.{all_shares}
use Rattle.claim_core.specs.Hand.{HandView, OwnsPlace, seen_size}
use Rattle.claim_core.specs.Lent.{seat_hand}
use Rattle.claim_core.specs.Gain.{no_gain, an_event, a_begin, a_row, HasSeenPlace}
use Rattle.claim_core.specs.Plays.{cell_stage, stage_view, empty_view, placed_view, block_view, look_gains, begin_gains, fill_gains, spoil_gains, mend_gains, fill_mended_gains, spoil_mended_gains, read_gains, found_gain, scout_gain, set_gain, told_by, told_of, unseen, entered, Learns, MayStep}
use Rattle.claim_core.specs.SeatView.{spent_view, Remarks}
use Rattle.claim_core.specs.SeatSteps.{with_views, writer_of, try_event, IsHeldAt, SeesPlace, Begins, LearnsRow, IsStill}
use Rattle.claim_core.specs.Ties.{first_stages, Finds}
use Rattle.claim_core.specs.Rule.{Kept}
use Rattle.claim_core.specs.StepLaws.{IsHandSeat}
use Rattle.claim_core.proofs.Tiles.{find_run}
use Rattle.claim_core.proofs.CellEvents.{begun_is_busy, mending_is_busy, filled_is_busy, broken_is_busy}
use Rattle.claim_core.proofs.CellSteps.{not_begun}
use Rattle.claim_core.proofs.TiedLaws.{whole_leads}
use Rattle.claim_core.proofs.TiedEntries.{adopted_views}
use Rattle.claim_core.proofs.Permits.{permits_laying, permits_look, permits_fill, permits_break, permits_mend, permits_begin, permits_no_entry, permits_nothing, permits_row, still, permits_still, permits_publish, permits_unseen, permits_entry, permits_adoption}

-- ---- Stages

idle_is : (a : Stage) → cell_stage a ≡ stages.Idle → a ≡ Idle
idle_is Idle e = refl
idle_is Begun e = absurd (begun_is_busy e)
idle_is Mending e = absurd (mending_is_busy e)
idle_is Filled e = absurd (filled_is_busy e)
idle_is Broken e = absurd (broken_is_busy e)

held_is : (a : Stage) → IsHeld a → IsHeldAt (cell_stage a)
held_is Idle held = absurd held
held_is Begun held = inl refl
held_is Mending held = inr refl
held_is Filled held = absurd held
held_is Broken held = absurd held

not_more : (n m : ℕ) → n ≡ m → m ≤ 3 → 3 < n → ⊥
not_more n m is low high = omega arith

-- only a broken cell shows more than 3
broken_is : (a : Stage) (n : ℕ) → Shows a n → 3 < n → a ≡ Broken
broken_is Idle n e high = absurd (not_more n 0 e (omega arith) high)
broken_is Begun n e high = absurd (not_more n 0 e (omega arith) high)
broken_is Mending n e high = absurd (not_more n 1 e (omega arith) high)
broken_is Filled n e high = absurd (not_more n 3 e (omega arith) high)
broken_is Broken n e high = refl

-- ---- What a seat learns

remarks_learned : {v w : SeatView} {es : Log} → Remarks v es w → Learns v (record { events = es; begun = []; rows = [] }) w
remarks_learned {v} {w} {es} remarks =
    let same = remarks.same in
    record {
      seen = remarks.seen;
      log = remarks.log;
      alone = remarks.alone;
      begun = same.begun;
      rows = same.rows;
      same = record { limit = same.limit; base = same.base; mark = same.mark; filled = same.filled; mine = same.mine; shares = same.shares; begun = refl; rows = refl; laid = same.laid };
      consistent = remarks.consistent;
    }

event_learned : {v w : SeatView} {e : Event × Reply} → Remarks v (e ∷ []) w → Learns v (an_event e) w
event_learned remarks = remarks_learned remarks

nothing_learned : {v w : SeatView} → Remarks v [] w → Learns v no_gain w
nothing_learned remarks = remarks_learned remarks

begin_learned : {v w : SeatView} {place : ℕ} → Begins v place w → Learns v (a_begin place) w
begin_learned {v} {w} {place} begun =
    let same = begun.same in
    record {
      seen = begun.seen;
      log = begun.log;
      alone = λ whole. begun.alone whole ∙ sym (append-nil v.log);
      begun = begun.begun;
      rows = same.rows;
      same = record { limit = same.limit; base = same.base; mark = same.mark; filled = same.filled; mine = same.mine; shares = same.shares; begun = refl; rows = refl; laid = same.laid };
      consistent = begun.consistent;
    }

row_learned : {v w : SeatView} {row : RowAt} → LearnsRow v row w → Learns v (a_row row) w
row_learned {v} {w} {row} learns =
    let same = learns.same in
    record {
      seen = learns.seen;
      log = learns.log;
      alone = λ whole. learns.alone whole ∙ sym (append-nil v.log);
      begun = same.begun;
      rows = learns.rows;
      same = record { limit = same.limit; base = same.base; mark = same.mark; filled = same.filled; mine = same.mine; shares = same.shares; begun = refl; rows = refl; laid = same.laid };
      consistent = learns.consistent;
    }

-- a seat that is what it was has gained nothing
still_learned : {v : SeatView} → IsStill v v → Learns v no_gain v
still_learned {v} is =
    record {
      seen = refl;
      log = record { since = []; is = sym (append-nil (v.log ++ []) ∙ append-nil v.log) };
      alone = λ whole. sym (append-nil v.log);
      begun = refl;
      rows = refl;
      same = record { limit = refl; base = refl; mark = refl; filled = refl; mine = refl; shares = refl; begun = refl; rows = refl; laid = refl };
      consistent = is.consistent;
    }

-- ---- Steps on cells

-- a place below the end is in a run, or below the base
sees_in : (base : ℕ) (lengths : List ℕ) (place : ℕ) → place < runs_end base lengths
    → (index : ℕ) × (InRun base lengths index place ⊎ (place < base))
sees_in base lengths place below =
    dite (dec_le base place)
    (λ past. let r = find_run base lengths place past below in (r.0, inl r.1))
    (λ first. (0, inr (omega arith)))

module _ (hand : HandView) (place k : ℕ) (found : Finds hand.rows place k) where
  -- the seat knows the row
  finds : (floor : ℕ) (table : TableId) (v : SeatView) → seat_hand floor table v ≡ hand → Finds v.rows place k
  finds floor table v is = subst (λ (rows : List RowAt). Finds rows place k) (sym (ap (λ (h : HandView). h.rows) is)) found

  -- a read moves no seat
  pub may_read : hand.shares ≡ all_shares → MayStep looks (told_by read_gains place) hand k
  may_read whole terms id floor table v at is s n a b holds here other cell moves =
      let all : v.shares ≡ all_shares = subst (λ (h : HandView). h.shares ≡ all_shares) (sym is) whole in
      let same : set (set s.views id v) k (stage_view b) ≡ s.views =
      ap (λ (x : Stage). set (set s.views id v) k (stage_view x)) (moves.1)
      ∙ (ap (λ (vs : List SeatView). set vs k (stage_view a)) (set_again s.views id v here) ∙ set_again s.views k (stage_view a) cell) in
      let leads = whole_leads terms s holds id v here all at.limit at.base at.filled place k (cell_stage a) (finds floor table v is) cell in (
        v,
        subst (λ (vs : List SeatView). Kept terms (with_views s vs)) (sym same) holds,
        tt,
        (no_gain, (refl, all, leads), still_learned (still terms id v at.limit at.base at.filled at.part s holds here)),
      )

  module _ (seen : place < seen_size hand) where
    below : (floor : ℕ) (table : TableId) (v : SeatView) → seat_hand floor table v ≡ hand → SeesPlace v place
    below floor table v is = subst (λ (h : HandView). place < seen_size h) (sym is) seen

    pub may_look : MayStep looks (told_by look_gains place) hand k
    may_look terms id floor table v at is s n a b holds here other cell moves =
        let law =
        permits_look terms id v at.limit at.base at.filled at.part place k (finds floor table v is) (below floor table v is)
        (cell_stage a) (cell_stage b) (ap cell_stage (moves.1)) s holds here cell in
        (law.0, law.1, tt, (_, refl, event_learned law.2))

    pub may_mend : MayStep mends (told_by mend_gains place) hand k
    may_mend terms id floor table v at is s n a b holds here other cell moves =
        let how : ((cell_stage a ≡ stages.Broken) × (cell_stage b ≡ stages.Mending)) ⊎ (cell_stage b ≡ cell_stage a) =
        ⊎_elim
        (λ (high : 3 < n). inl (ap cell_stage (broken_is a n (moves.0) high), ap cell_stage (moves.1 high)))
        (λ (low : n ≤ 3). inr (ap cell_stage (moves.2 low)))
        (cases_lt 3 n) in
        let law =
        permits_mend terms id v at.limit at.base at.filled at.part place k (finds floor table v is) (below floor table v is)
        (cell_stage a) (cell_stage b) how s holds here cell in
        (law.0, law.1, tt, (_, ap (λ (l : ℕ). an_event (try_event l place (cell_stage a) (cell_stage b))) (sym at.limit), event_learned law.2))

    pub may_fill_mended : MayStep fills (told_by fill_mended_gains place) hand k
    may_fill_mended terms id floor table v at is s n a b holds here other cell moves =
        let known = sees_in v.base v.seen place (below floor table v is) in
        let index = known.0 in
        let law =
        permits_fill terms id v at.limit at.base at.filled at.part place k (finds floor table v is) index (known.1)
        (cell_stage a) (cell_stage b) (held_is a (moves.1), ap cell_stage (moves.2)) s holds here cell in
        (law.0, law.1, tt, (_, (index, known.1, ap (λ (l : ℕ). an_event (fill_event (writer_of l index place (cell_stage a)) place)) (sym at.limit)), event_learned law.2))

    pub may_spoil_mended : MayStep breaks (told_by spoil_mended_gains place) hand k
    may_spoil_mended terms id floor table v at is s n a b holds here other cell moves =
        let known = sees_in v.base v.seen place (below floor table v is) in
        let index = known.0 in
        let law =
        permits_break terms id v at.limit at.base at.filled at.part place k (finds floor table v is) index (known.1)
        (cell_stage a) (cell_stage b) (held_is a (moves.1), ap cell_stage (moves.2)) s holds here cell in
        (law.0, law.1, tt, (_, (index, known.1, ap (λ (l : ℕ). an_event (break_event (writer_of l index place (cell_stage a)) place)) (sym at.limit)), event_learned law.2))

  module _ (seen : HasSeenPlace hand place) where
    in_run : (floor : ℕ) (table : TableId) (v : SeatView) → seat_hand floor table v ≡ hand → InRun v.base v.seen seen.0 place
    in_run floor table v is = subst (λ (h : HandView). InRun h.of.base h.seen seen.0 place) (sym is) (seen.1)

    pub may_fill : MayStep fills (told_by fill_gains place) hand k
    may_fill terms id floor table v at is s n a b holds here other cell moves =
        let index = seen.0 in
        let there = in_run floor table v is in
        let law =
        permits_fill terms id v at.limit at.base at.filled at.part place k (finds floor table v is) index (inl there)
        (cell_stage a) (cell_stage b) (held_is a (moves.1), ap cell_stage (moves.2)) s holds here cell in
        (law.0, law.1, tt, (_, (index, there, ap (λ (l : ℕ). an_event (fill_event (writer_of l index place (cell_stage a)) place)) (sym at.limit)), event_learned law.2))

    pub may_spoil : MayStep breaks (told_by spoil_gains place) hand k
    may_spoil terms id floor table v at is s n a b holds here other cell moves =
        let index = seen.0 in
        let there = in_run floor table v is in
        let law =
        permits_break terms id v at.limit at.base at.filled at.part place k (finds floor table v is) index (inl there)
        (cell_stage a) (cell_stage b) (held_is a (moves.1), ap cell_stage (moves.2)) s holds here cell in
        (law.0, law.1, tt, (_, (index, there, ap (λ (l : ℕ). an_event (break_event (writer_of l index place (cell_stage a)) place)) (sym at.limit)), event_learned law.2))

  -- a begin of a place that the hand does not know begun finds it idle, whatever the step is said to find
  pub may_begin : OwnsPlace hand place → (Contains hand.begun place → ⊥) → MayStep begins (told_by begin_gains place) hand k
  may_begin owns unknown terms id floor table v at is s n a b holds here other cell moves =
      let index = owns.0 in
      let own : Contains v.mine index = subst (λ (h : HandView). Contains h.mine index) (sym is) (owns.1) in
      let there : InRun v.base v.seen index place = subst (λ (h : HandView). InRun h.of.base h.seen index place) (sym is) (owns.2) in
      let strange : Contains v.begun place → ⊥ = subst (λ (h : HandView). Contains h.begun place → ⊥) (sym is) unknown in
      let row = finds floor table v is in
      let idle : cell_stage a ≡ stages.Idle =
      not_begun terms s holds id v at.limit at.base at.filled at.part here place k ((holds.tied.each id v here).finds place k row) index own there
      (cell_stage a) cell strange in
      let law =
      permits_begin terms id v at.limit at.base at.filled at.part place k row index own there strange
      (cell_stage a) (cell_stage b) (inl idle, ap cell_stage (moves.1)) s holds here cell in
      (law.0, law.1, idle_is a idle, (_, refl, begin_learned (law.2.1)))

-- ---- Steps on entries

module _ (hand : HandView) (terms : Terms) (id floor : ℕ) (table : TableId) (v : SeatView) (at : IsHandSeat terms v) (is : seat_hand floor table v ≡ hand) (t : EntryTie) (from n : ℕ) where
  pub may_find : (place : ℕ) → from ≤ place → place < from + n → place < seen_size hand
      → PermitsVisit (Kept terms) id v t (empty_view from n) (placed_view from n) (told_of (found_gain from n) place v)
  may_find place low high seen =
      let below : SeesPlace v place = subst (λ (h : HandView). place < seen_size h) (sym is) seen in
      record {
        at_none = λ s holds here other entry.
            let law = permits_no_entry terms id v at.limit at.base at.filled at.part place t.own from n low high below s holds here entry in
            (law.0, law.1, event_learned law.2);
        at_block = λ k s holds here other entry.
            let law = permits_row terms id v at.limit at.base at.filled at.part k from n s holds here entry in
            (law.0, law.1, row_learned law.2);
      }

  pub may_scout : (told : ℕ)
      → PermitsVisit (Kept terms) id v t (empty_view from n) (placed_view from n) (told_of (scout_gain from n) told v)
  may_scout told =
      record {
        at_none = λ s holds here other entry.
            let law = permits_nothing terms id v at.limit at.base at.filled at.part t.own from n s holds here entry in
            (law.0, law.1, nothing_learned law.2);
        at_block = λ k s holds here other entry.
            let law = permits_row terms id v at.limit at.base at.filled at.part k from n s holds here entry in
            (law.0, law.1, row_learned law.2);
      }

  pub may_publish_unseen : (told first j : ℕ)
      → PermitsPublish (Kept terms) id v t (empty_view from n) spent_view (placed_view from n) j (block_view first n) (unseen told v)
  may_publish_unseen told first j =
      record {
        at_none = λ s holds here other apart between entry block.
            permits_unseen terms id v at.limit at.base at.filled at.part t.own j from first n s holds here entry block;
        at_block = λ k s holds here other entry. permits_still terms id v at.limit at.base at.filled at.part s holds here;
      }

  pub may_publish : (told first j : ℕ)
      → PermitsPublish (Kept terms) id v t (empty_view from n) spent_view (placed_view from n) j (block_view first n)
      (told_of (set_gain from n first) told v)
  may_publish told first j =
      record {
        at_none = λ s holds here other apart between entry block.
            let law = permits_publish terms id v at.limit at.base at.filled at.part t.own j from first n s holds here entry block in
            (law.0, law.1, row_learned law.2);
        at_block = λ k s holds here other entry.
            let law = permits_row terms id v at.limit at.base at.filled at.part k from n s holds here entry in
            (law.0, law.1, row_learned law.2);
      }

-- a whole hand may make an entry past all that it knows
module _ (hand : HandView) (terms : Terms) (id floor : ℕ) (table : TableId) (v : SeatView) (at : IsHandSeat terms v) (is : seat_hand floor table v ≡ hand) (from n : ℕ) where
  pub may_enter : hand.shares ≡ all_shares → hand.laid ≤ from → hand.of.base ≤ from → PermitsEntry (Kept terms) id v (empty_view from n) (entered n from v None)
  may_enter whole unlaid past s holds here =
      let all : v.shares ≡ all_shares = subst (λ (h : HandView). h.shares ≡ all_shares) (sym is) whole in
      let free : v.laid ≤ from = subst (λ (h : HandView). h.laid ≤ from) (sym is) unlaid in
      let base : v.base ≤ from = subst (λ (h : HandView). h.of.base ≤ from) (sym is) past in
      permits_entry terms id v at.limit at.base at.filled at.part all from n free base s holds here

  -- or one that is set already, to a block whose cells are as the word was opened
  pub may_adopt : hand.shares ≡ all_shares → hand.laid ≤ from
      → PermitsAdoption (Kept terms) id v stage_view (first_stages terms.base terms.mark.filled from n) (placed_view from n) (entered n from v None)
  may_adopt whole unlaid s holds here =
      let all : v.shares ≡ all_shares = subst (λ (h : HandView). h.shares ≡ all_shares) (sym is) whole in
      let free : v.laid ≤ from = subst (λ (h : HandView). h.laid ≤ from) (sym is) unlaid in
      let law = permits_adoption terms id v at.limit at.base at.filled at.part all from n free s holds here in
      (law.0, subst (λ (vs : List SeatView). Kept terms (with_views s vs)) (adopted_views terms.base terms.mark.filled from n (length s.views) (set s.views id law.0)) law.1, law.2)

pub may_lay : (terms : Terms) (n : ℕ) → PermitsRow (Kept terms) stage_view block_view n
may_lay terms n s holds = permits_laying terms n s holds

-- ---- The places of an entry, under two names

pub find_here : {terms : Terms} {id : ℕ} {v : SeatView} {t : EntryTie} {from n also_from also_n : ℕ} {then : Content → SeatView → Type 0}
    → from ≡ also_from → n ≡ also_n → PermitsVisit (Kept terms) id v t (empty_view from n) (placed_view from n) then
    → PermitsVisit (Kept terms) id v t (empty_view also_from also_n) (placed_view also_from also_n) then
find_here {terms} {id} {v} {t} {from} {n} {also_from} {also_n} {then} same long permits =
    subst (λ (m : ℕ). PermitsVisit (Kept terms) id v t (empty_view also_from m) (placed_view also_from m) then) long
    (subst (λ (f : ℕ). PermitsVisit (Kept terms) id v t (empty_view f n) (placed_view f n) then) same permits)

pub publish_here : {terms : Terms} {id j : ℕ} {v y : SeatView} {t : EntryTie} {from n also_from also_n : ℕ} {then : Content → SeatView → Type 0}
    → from ≡ also_from → n ≡ also_n → PermitsPublish (Kept terms) id v t (empty_view from n) spent_view (placed_view from n) j y then
    → PermitsPublish (Kept terms) id v t (empty_view also_from also_n) spent_view (placed_view also_from also_n) j y then
publish_here {terms} {id} {j} {v} {y} {t} {from} {n} {also_from} {also_n} {then} same long permits =
    subst (λ (m : ℕ). PermitsPublish (Kept terms) id v t (empty_view also_from m) spent_view (placed_view also_from m) j y then) long
    (subst (λ (f : ℕ). PermitsPublish (Kept terms) id v t (empty_view f n) spent_view (placed_view f n) j y then) same permits)

pub enter_here : (from : ℕ) {terms : Terms} {id n also_n : ℕ} {v x : SeatView} → also_n ≡ n
    → PermitsEntry (Kept terms) id v x (entered n from v None) → PermitsEntry (Kept terms) id v x (entered also_n from v None)
enter_here from {terms} {id} {n} {also_n} {v} {x} long permits =
    subst (λ (m : ℕ). PermitsEntry (Kept terms) id v x (entered m from v None)) (sym long) permits

pub adopt_here : (from : ℕ) (all : List Stage) {terms : Terms} {id n also_n : ℕ} {v x : SeatView} → also_n ≡ n
    → PermitsAdoption (Kept terms) id v stage_view all x (entered n from v None) → PermitsAdoption (Kept terms) id v stage_view all x (entered also_n from v None)
adopt_here from all {terms} {id} {n} {also_n} {v} {x} long permits =
    subst (λ (m : ℕ). PermitsAdoption (Kept terms) id v stage_view all x (entered m from v None)) (sym long) permits
