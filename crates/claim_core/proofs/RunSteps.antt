-- What the rule permits for runs of cells, as desks ask it: one step after the other, each by what the seat has learned
-- by those before it.
use Rattle.std.proofs.Common.{◌≡◌, ◌≢◌, ℕ, zero, suc, ◌+◌, ◌<◌, ◌≤◌, List, [], ◌∷◌, ◌++◌, length, refl, ap, sym, ◌∙◌, subst, ⊎_elim, arith, length-append}
use Rattle.std.proofs.lemmas.Bool.{cases_eq}
use Rattle.std.proofs.lemmas.Map.Made.{Contains-tail}
use Rattle.std.proofs.lemmas.List.Elements.{Contains-append_cases}
use Rattle.std.specs.List.{Contains}
use Rattle.atomic_table.specs.Seated.{TableId}
use Rattle.book_core.specs.declared.events.Event.{Event}
use Rattle.book_core.specs.declared.events.Reply.{Reply}
use Rattle.tie_core.specs.Tie.{Made, begins, fills}
use Rattle.claim_core.specs.declared.role.RowAt.{RowAt}
use Rattle.claim_core.specs.declared.seat_view.SeatView.{SeatView}
use Rattle.claim_core.specs.declared.terms.Terms.{Terms}
use Rattle.claim_core.specs.Lengths.{InRun, runs_end}
use Rattle.claim_core.specs.History.{Log, Adds, fill_event}
use Rattle.claim_core.specs.Hand.{HandView, OwnsPlace, seen_size}
use Rattle.claim_core.specs.Lent.{seat_hand}
use Rattle.claim_core.specs.Gain.{Gain, an_event, a_begin, ChainGain, HasSeenPlace, OwnsPlaces, KnowsNoneBegun}
use Rattle.claim_core.specs.Laws.{BegunRunsAreFilled, BegunPlacesAreOfTheRun}
use Rattle.claim_core.specs.Plays.{cell_stage, begin_run_gains, fill_run_gains, places_back, fills_by, Learns, LearnsChain, told_along, MayStepAlong}
use Rattle.claim_core.specs.SeatView.{IsConsistent}
use Rattle.claim_core.specs.SeatSteps.{writer_of}
use Rattle.claim_core.specs.Ties.{Finds, FindsRun}
use Rattle.claim_core.specs.StepLaws.{IsHandSeat}
use Rattle.claim_core.proofs.Prefixes.{prefix_self, prefix_trans}
use Rattle.claim_core.proofs.Additions.{added_begins, steps_go_on}
use Rattle.claim_core.proofs.Tiles.{run_apart, find_run}
use Rattle.claim_core.proofs.MaySteps.{may_begin, may_fill}

-- ---- Lists

-- one more member
length_more : (ms : List Made) (m : Made) → length (ms ++ m ∷ []) ≡ suc (length ms)
length_more ms m = let long : length (ms ++ m ∷ []) ≡ length ms + 1 = length-append ms (m ∷ []) in omega arith

-- the places that a run begins are its own
pub begun_places : BegunPlacesAreOfTheRun
begun_places place zero q there = let less = there.1 in absurd (omega arith)
begun_places place (suc n) q there =
    ⊎_elim
    (λ (same : place + n ≡ q). ((omega arith), (omega arith)))
    (λ (other : place + n ≢ q).
    let rest = begun_places place n q (Contains-tail (place + n) (places_back place n) q other there) in
    let low = rest.0 in
    let high = rest.1 in
    ((omega arith), (omega arith)))
    (cases_eq (place + n) q)

-- the fills of cells that were begun
pub begun_runs : BegunRunsAreFilled
begun_runs limit index place zero = refl
begun_runs limit index place (suc n) =
    ap (λ (l : List Log). (fill_event index place ∷ []) ∷ l) (begun_runs limit index (place + 1) n)

-- the fill of one more place comes last
fills_more : (limit index place : ℕ) (ms : List Made) (m : Made) (last : ℕ) → place + length ms ≡ last
    → fills_by limit index place (ms ++ m ∷ [])
    ≡ fills_by limit index place ms ++ (fill_event (writer_of limit index last (cell_stage m.0)) last ∷ []) ∷ []
fills_more limit index place [] m last is =
    let same : place ≡ last = omega (arith, is) in
    ap (λ (p : ℕ). (fill_event (writer_of limit index p (cell_stage m.0)) p ∷ []) ∷ []) same
fills_more limit index place (x ∷ ms) m last is =
    let rest : (place + 1) + length ms ≡ last = omega (arith, is) in
    ap (λ (l : List Log). (fill_event (writer_of limit index place (cell_stage x.0)) place ∷ []) ∷ l)
    (fills_more limit index (place + 1) ms m last rest)

-- ---- What a seat has learned by some steps

-- by none
chain_start : (v : SeatView) → IsConsistent v → LearnsChain v (record { steps = []; begun = [] }) v
chain_start v consistent =
    record {
      seen = refl;
      log = prefix_self v.log;
      begun = refl;
      same = record { limit = refl; base = refl; mark = refl; filled = refl; mine = refl; shares = refl; begun = refl; rows = refl; laid = refl };
      consistent = consistent;
    }

-- by one more, which shows no row
chain_on : {v u w : SeatView} {gain : ChainGain} {g : Gain} (steps : List Log) (begun : List ℕ) → LearnsChain v gain u → Learns u g w
    → g.rows ≡ [] → Adds v.log steps w.log → w.begun ≡ begun ++ v.begun → LearnsChain v (record { steps = steps; begun = begun }) w
chain_on {v} {u} {w} {gain} {g} steps begun first second no_row log is =
    let a = first.same in
    let b = second.same in
    record {
      seen = second.seen ∙ first.seen;
      log = log;
      begun = is;
      same = record {
        limit = b.limit ∙ a.limit;
        base = b.base ∙ a.base;
        mark = b.mark ∙ a.mark;
        filled = b.filled ∙ a.filled;
        mine = b.mine ∙ a.mine;
        shares = b.shares ∙ a.shares;
        begun = refl;
        rows = second.rows ∙ (ap (λ (rs : List RowAt). rs ++ u.rows) no_row ∙ a.rows);
        laid = b.laid ∙ a.laid;
      };
      consistent = second.consistent;
    }

begins_more : {v u w : SeatView} (place : ℕ) (ms : List Made) (m : Made)
    → LearnsChain v (record { steps = []; begun = places_back place (length ms) }) u → Learns u (a_begin (place + length ms)) w
    → LearnsChain v (record { steps = []; begun = places_back place (length (ms ++ m ∷ [])) }) w
begins_more {v} {u} {w} place ms m first second =
    chain_on [] (places_back place (length (ms ++ m ∷ []))) first second refl
    (prefix_trans v.log u.log w.log first.log (added_begins u.log [] w.log second.log))
    (second.begun
    ∙ (ap (λ (l : List ℕ). (place + length ms) ∷ l) first.begun ∙ ap (λ (n : ℕ). places_back place n ++ v.begun) (sym (length_more ms m))))

logs_more : {v u w : SeatView} {gain : ChainGain} (e : Event × Reply) → LearnsChain v gain u → Learns u (an_event e) w
    → LearnsChain v (record { steps = gain.steps ++ (e ∷ []) ∷ []; begun = gain.begun }) w
logs_more {v} {u} {w} {gain} e first second =
    chain_on (gain.steps ++ (e ∷ []) ∷ []) gain.begun first second refl
    (steps_go_on v.log u.log w.log gain.steps (e ∷ []) first.log second.log) (second.begun ∙ first.begun)

-- ---- The next step, by a seat that has gone along with some

module _
    (hand : HandView) (place k n : ℕ) (found : FindsRun hand.rows place n k) (terms : Terms) (id floor : ℕ) (table : TableId) (v : SeatView)
    (at : IsHandSeat terms v) (is : seat_hand floor table v ≡ hand) where
  module _ (ms : List Made) (less : length ms < n) (u : SeatView) (gain : ChainGain) (learns : LearnsChain v gain u) where
    -- the seat is still a hand's, and knows the next row
    still_hand : IsHandSeat terms u
    still_hand =
        let same = learns.same in
        let part = at.part in
        let shares : u.shares ≡ v.shares = same.shares in
        record { limit = same.limit ∙ at.limit; base = same.base ∙ at.base; filled = same.filled ∙ at.filled; part = omega arith }

    still_found : Finds u.rows (place + length ms) (k + length ms)
    still_found =
        subst (λ (rows : List RowAt). Finds rows (place + length ms) (k + length ms))
        (sym (learns.same.rows ∙ ap (λ (h : HandView). h.rows) is)) (found (length ms) less)

    -- a run of it is where it was
    still_in : (index q : ℕ) → InRun v.base v.seen index q → InRun u.base u.seen index q
    still_in index q in_run =
        subst (λ (b : ℕ). InRun b u.seen index q) (sym learns.same.base) (subst (λ (l : List ℕ). InRun v.base l index q) (sym learns.seen) in_run)

    was_in : (index q : ℕ) → InRun u.base u.seen index q → InRun v.base v.seen index q
    was_in index q in_run =
        subst (λ (b : ℕ). InRun b v.seen index q) learns.same.base (subst (λ (l : List ℕ). InRun u.base l index q) learns.seen in_run)

    still_owns : OwnsPlaces hand place n → OwnsPlace (seat_hand floor table u) (place + length ms)
    still_owns owns =
        let own : OwnsPlace (seat_hand floor table v) (place + length ms) =
        subst (λ (h : HandView). OwnsPlace h (place + length ms)) (sym is) (owns (place + length ms) (omega arith) (omega arith)) in (
          own.0,
          subst (λ (l : List ℕ). Contains l (own.0)) (sym learns.same.mine) (own.1),
          still_in (own.0) (place + length ms) (own.2),
        )

    still_seen : hand.of.base ≤ place → place + n ≤ seen_size hand → HasSeenPlace (seat_hand floor table u) (place + length ms)
    still_seen past seen =
        let low : v.base ≤ place = subst (λ (h : HandView). h.of.base ≤ place) (sym is) past in
        let high : place + n ≤ runs_end v.base v.seen = subst (λ (h : HandView). place + n ≤ seen_size h) (sym is) seen in
        let run = find_run v.base v.seen (place + length ms) (omega arith) (omega arith) in
        (run.0, still_in (run.0) (place + length ms) (run.1))

    still_strange : gain.begun ≡ places_back place (length ms) → KnowsNoneBegun hand place n
        → Contains u.begun (place + length ms) → ⊥
    still_strange begun unknown there =
        let strange : Contains v.begun (place + length ms) → ⊥ =
        subst (λ (h : HandView). Contains h.begun (place + length ms) → ⊥) (sym is) (unknown (place + length ms) (omega arith) (omega arith)) in
        let now : u.begun ≡ places_back place (length ms) ++ v.begun = learns.begun ∙ ap (λ (l : List ℕ). l ++ v.begun) begun in
        ⊎_elim
        (λ (here : Contains (places_back place (length ms)) (place + length ms)).
        let high = (begun_places place (length ms) (place + length ms) here).1 in
        absurd (omega arith))
        (λ (was : Contains v.begun (place + length ms)). strange was)
        (Contains-append_cases (places_back place (length ms)) v.begun (place + length ms)
        (subst (λ (l : List ℕ). Contains l (place + length ms)) now there))

    -- one more fill, if all places so far were in one run
    fills_on : fill_run_gains place v ms gain → (m : Made) (index : ℕ) → InRun u.base u.seen index (place + length ms)
        → fill_run_gains place v (ms ++ m ∷ [])
        (record {
          steps = gain.steps ++ (fill_event (writer_of u.limit index (place + length ms) (cell_stage m.0)) (place + length ms) ∷ []) ∷ [];
          begun = gain.begun;
        })
    fills_on gains m index there = (
      gains.0,
      λ other all.
          let last = place + length ms in
          let long = length_more ms m in
          let same : index ≡ other = run_apart v.base v.seen index other last (was_in index last there) (all (length ms) (omega arith)) in
          let before : gain.steps ≡ fills_by v.limit other place ms = gains.1 other (λ i less_i. all i (omega arith)) in
          let event : fill_event (writer_of u.limit index last (cell_stage m.0)) last ≡ fill_event (writer_of v.limit other last (cell_stage m.0)) last =
          ap (λ (l : ℕ). fill_event (writer_of l index last (cell_stage m.0)) last) learns.same.limit
          ∙ ap (λ (j : ℕ). fill_event (writer_of v.limit j last (cell_stage m.0)) last) same in
          ap (λ (l : List Log). l ++ (fill_event (writer_of u.limit index last (cell_stage m.0)) last ∷ []) ∷ []) before
          ∙ (ap (λ (e : Event × Reply). fills_by v.limit other place ms ++ (e ∷ []) ∷ []) event
          ∙ sym (fills_more v.limit other place ms m last refl)),
    )

module _ (hand : HandView) (place k n : ℕ) (found : FindsRun hand.rows place n k) where
  pub may_begin_run : OwnsPlaces hand place n → KnowsNoneBegun hand place n
      → MayStepAlong begins (told_along begin_run_gains place) hand k n
  may_begin_run owns unknown terms id floor table v at consistent is =
      record {
        start = (record { steps = []; begun = [] }, refl, chain_start v consistent);
        next = λ ms u less told s m a b holds here other cell moves.
            let learns = subst (λ (g : ChainGain). LearnsChain v g u) (told.1) (told.2) in
            let law =
            may_begin (seat_hand floor table u) (place + length ms) (k + length ms)
            (still_found hand place k n found terms id floor table v at is ms less u _ learns)
            (still_owns hand place k n found terms id floor table v at is ms less u _ learns owns)
            (still_strange hand place k n found terms id floor table v at is ms less u _ learns refl unknown)
            terms id floor table u (still_hand hand place k n found terms id floor table v at is ms less u _ learns) refl
            s m a b holds here other cell moves in
            let step = subst (λ (g : Gain). Learns u g (law.0)) (law.3.1) (law.3.2) in (
              law.0,
              law.1,
              law.2,
              (record { steps = []; begun = places_back place (length (ms ++ (a, b) ∷ [])) }, refl, begins_more place ms (a, b) learns step),
            );
      }

  pub may_fill_run : hand.of.base ≤ place → place + n ≤ seen_size hand
      → MayStepAlong fills (told_along fill_run_gains place) hand k n
  may_fill_run past seen terms id floor table v at consistent is =
      record {
        start = (record { steps = []; begun = [] }, (refl, λ index all. refl), chain_start v consistent);
        next = λ ms u less told s m a b holds here other cell moves.
            let learns = told.2 in
            let law =
            may_fill (seat_hand floor table u) (place + length ms) (k + length ms)
            (still_found hand place k n found terms id floor table v at is ms less u _ learns)
            (still_seen hand place k n found terms id floor table v at is ms less u _ learns past seen)
            terms id floor table u (still_hand hand place k n found terms id floor table v at is ms less u _ learns) refl
            s m a b holds here other cell moves in
            let fill = law.3.1 in
            let step = subst (λ (g : Gain). Learns u g (law.0)) (fill.2) (law.3.2) in (
              law.0,
              law.1,
              law.2,
              (
                _,
                fills_on hand place k n found terms id floor table v at is ms less u _ learns (told.1) (a, b) (fill.0) (fill.1),
                logs_more (fill_event (writer_of u.limit (fill.0) (place + length ms) (cell_stage a)) (place + length ms)) learns step,
              ),
            );
      }
