-- Each kind of step keeps the rule, and tells what it tells.
use Rattle.std.proofs.Common.{◌≡◌, ℕ, ◌+◌, ◌-◌, ◌<◌, ◌≤◌, ◌==◌, Bool, true, false, max, nat_lt, List, [], ◌∷◌, ◌++◌, length, get_or, set, refl, ap, sym, ◌∙◌, subst, arith, length-set, get_or-set_same, MatchBool}
use Rattle.std.proofs.lemmas.Bool.Decides.{nat_tests}
use mathlib.Core.Option.{none, some}
use mathlib.Core.List.{IsPrefix}
use lib.ListN.{get_elem?}
use Rattle.atomic_table.proofs.Lists.{set_else}
use Rattle.std.specs.List.{Contains}
use prog.Atomic.{either}
use Rattle.atomic_table.specs.Table.{State, step, keeps, stepped, opening, Allows, Splits, Joins}
use Rattle.claim_core.specs.declared.seat_view.SeatView.{SeatView}
use Rattle.claim_core.specs.declared.terms.Terms.{Terms}
use Rattle.claim_core.specs.Lengths.{runs_end, times}
use Rattle.book_core.specs.declared.events.Event.{Event}
use Rattle.book_core.specs.declared.events.Reply.{Reply}
use Rattle.book_core.specs.Cells.{CellList, with_pending}
use Rattle.book_core.specs.History.{IsHistory, OwnedRun}
use Rattle.book_core.proofs.Histories.{history_limit}
use Rattle.book_core.proofs.EventRows.{claim_applies, raise_applies, enough_applies}
use Rattle.claim_core.specs.declared.role.Role.TheVariants.{Hand}
use Rattle.claim_core.specs.History.{Log, first_list, lengths_of, IsHistoryOf, IsNote, AddsEvents, claim_event, raise_event, enough_event, memory_event, size_note}
use Rattle.claim_core.specs.Ties.{Ties, no_ties, Knows, TiedBy}
use Rattle.claim_core.specs.Rule.{Suits, Fits, Recalls, Logged, Kept, word_count, size_at}
use Rattle.claim_core.specs.SeatView.{Seated, SameOwn, IsConsistent, Looks, Claims, marked, loaded, loaded_as, lacked, marked_as, settled, exchanged_as, raised, longer, joined_view, first_view, spent_view, with_own}
use Rattle.std.proofs.lemmas.List.{append-nil}
use Rattle.claim_core.proofs.Prefixes.{prefix_self, prefix_append, prefix_nil, prefix_trans, prefix_length, longer_begins}
use Rattle.claim_core.proofs.Fits.{begins, at_set_here, consistent, stays, stays_by, grows, splits, joins}
use Rattle.claim_core.proofs.LegalNotes.{size_is_note, memory_note, memory_is_note}
use Rattle.claim_core.proofs.Counts.{times-from_Contains, Contains-from_times}
use Rattle.claim_core.proofs.TiedViews.{tie_hand}
use Rattle.claim_core.proofs.WholeLog.{adds_alone}
use Rattle.claim_core.proofs.TiedWord.{ties_begin, knows_less, tie_claim, tie_cut, tie_join}
use Rattle.claim_core.proofs.Logged.{cells_after, lengths_of-append, lengths_with, notes_go_on, note_lengths, is_enough, claims_next, claim_legal, raise_legal, logs_nothing, story, tells_all, adds, recalls_still, keeps_log, cuts_log, joins_log}

abbrev Table : Type 0
Table = State (Unit {0}) SeatView

-- after a step the word is n, and this list of lengths, this history and these seats fit
placed : (terms : Terms) (s : Table) (kept : Kept terms s) (n id : ℕ) (me : Seated) (w : SeatView) (lengths : List ℕ) (list : CellList)
    → Fits terms.limit terms.base n lengths (set s.views id w) → Logged terms.limit terms.base terms.mark.filled lengths list (set s.views id w)
    → TiedBy terms.limit terms.base terms.mark.filled lengths list kept.ties (set s.views id w)
    → Kept terms (stepped s size_at n id me.1 w keeps)
placed terms s kept n id me w lengths list fits logged tied =
    let all_words = kept.words in
    record {
      words = length-set s.words size_at n ∙ all_words;
      lengths = lengths;
      list = list;
      ties = kept.ties;
      fits = subst (λ size. Fits terms.limit terms.base size lengths (set s.views id w)) (sym (get_or-set_same s.words size_at n 0 (omega arith))) fits;
      logged = logged;
      tied = tied;
    }

-- each seat is consistent
pub settled_in : (terms : Terms) (size : ℕ) (lengths : List ℕ) (list : CellList) (ties : Ties) (views : List SeatView)
    → Fits terms.limit terms.base size lengths views → Logged terms.limit terms.base terms.mark.filled lengths list views
    → TiedBy terms.limit terms.base terms.mark.filled lengths list ties views → (id : ℕ) (w : SeatView) → get_elem? views id ≡ some w
    → w.limit ≡ terms.limit → w.base ≡ terms.base → w.filled ≡ terms.mark.filled → IsConsistent w
settled_in terms size lengths list ties views fits logged tied id w at is_limit is_base is_filled =
    consistent terms.limit terms.base size lengths views fits id w at is_limit is_base terms.mark.filled is_filled
    (story terms.limit terms.base terms.mark.filled lengths list views logged id w at) (logged.each id w at).lengths
    (tells_all terms.limit terms.base terms.mark.filled lengths list views logged id w at) (tied.each id w at).within

-- a prefix of a history goes on with what was added to the whole
pub goes_on_with : (old all es : Log) → IsPrefix old all → AddsEvents old es (all ++ es)
goes_on_with old all es p = record { since = p.0; is = ap (λ (l : Log). l ++ es) (sym p.1) }

pub longer_prefix : (old all es : Log) → IsPrefix old all → IsPrefix old (all ++ es)
longer_prefix old all es p = prefix_trans old all (all ++ es) p (prefix_append all es)

module _ (terms : Terms) (slots id : ℕ) (me : Seated) (is_limit : me.0.limit ≡ terms.limit) (is_base : me.0.base ≡ terms.base) (is_filled : me.0.filled ≡ terms.mark.filled) (part : 0 < me.0.shares) where
  -- the seat is a hand's
  is_hand : (s : Table) (kept : Kept terms s) → get_elem? s.views id ≡ some me.0 → me.0.role ≡ Hand
  is_hand s kept at = (kept.tied.each id me.0 at).hand part

  -- what it knew it knows after a step, if it then has seen these lengths, and nothing else changed
  still_knows : (s : Table) (kept : Kept terms s) → get_elem? s.views id ≡ some me.0 → (w : SeatView) → w.rows ≡ me.0.rows
      → w.begun ≡ me.0.begun → IsPrefix me.0.seen w.seen → w.mine ≡ me.0.mine → w.laid ≡ me.0.laid → w.role ≡ me.0.role
      → TiedBy terms.limit terms.base terms.mark.filled kept.lengths kept.list kept.ties (set s.views id w)
  still_knows s kept at w rows begun seen mine laid role =
      tie_hand terms.limit terms.base terms.mark.filled kept.lengths kept.list kept.ties s.views kept.tied id me.0 at (is_hand s kept at) w
      (role ∙ is_hand s kept at)
      (knows_less terms.base kept.lengths kept.ties me.0 w (kept.tied.each id me.0 at) rows begun seen
      (λ k owned. subst (λ (m : List ℕ). Contains m k) mine owned) laid (λ _. part) role)

  -- a step that finds the size and leaves it: the seat has seen the list of all lengths, and adds events that claim nothing
  looks : (es : Log) (s : Table) (kept : Kept terms s) → get_elem? s.views id ≡ some me.0 → IsHistory kept.list es kept.list
      → IsHistoryOf terms.limit terms.base terms.mark.filled (kept.logged.log ++ es) → lengths_of es ≡ []
      → (w : SeatView) × Kept terms (stepped s size_at (get_or s.words size_at 0) id me.1 w keeps) × Looks me.0 (get_or s.words size_at 0) es w
  looks es s kept at here history nothing =
      let v = me.0 in
      let all = kept.lengths in
      let fits = kept.fits in
      let logged = kept.logged in
      let mine = fits.each id v at in
      let recalls = logged.each id v at in
      let log = logged.log ++ es in
      let w : SeatView = record v { seen = all; one = []; other = []; log = log; one_log = []; other_log = [] } in
      let same : SameOwn v w = record { limit = refl; base = refl; mark = refl; filled = refl; mine = refl; shares = refl; begun = refl; rows = refl; laid = refl } in
      let suits : Suits all w =
      record {
        seen = prefix_self all;
        one = prefix_nil all;
        other = prefix_nil all;
        own = λ k. let le = prefix_length v.seen all mine.seen in let o = mine.own k in omega arith;
        spent = λ none. absurd (omega arith);
      } in
      let fits' = stays terms.limit terms.base (get_or s.words size_at 0) all s.views fits id v at w same suits in
      let claims : lengths_of log ≡ all = lengths_of-append logged.log es ∙ (ap (λ (l : List ℕ). lengths_of logged.log ++ l) nothing ∙ (append-nil (lengths_of logged.log) ∙ logged.claims)) in
      let logged' = adds terms.limit terms.base terms.mark.filled all kept.list s.views logged id v at es all kept.list w here history claims refl (prefix_self all) refl refl part in
      let tied' = still_knows s kept at w refl refl mine.seen refl refl refl in
      let ends = fits.ends in (
        w,
        placed terms s kept (get_or s.words size_at 0) id me w all kept.list fits' logged' tied',
        record {
          size = omega arith;
          seen = mine.seen;
          one = mine.one;
          other = mine.other;
          log = goes_on_with v.log logged.log es recalls.log;
          one_log = longer_prefix v.one_log logged.log es recalls.one;
          other_log = longer_prefix v.other_log logged.log es recalls.other;
          same = same;
          consistent = settled_in terms (get_or s.words size_at 0) all kept.list kept.ties (set s.views id w) fits' logged' tied' id w (at_set_here s.views id v w at) is_limit is_base is_filled;
        },
      )

  -- the history ends at the size
  log_ends : (s : Table) (kept : Kept terms s) → runs_end terms.base (lengths_of kept.logged.log) ≡ get_or s.words size_at 0
  log_ends s kept = ap (runs_end terms.base) kept.logged.claims ∙ sym kept.fits.ends

  -- so does the list that it leads to
  list_ends : (s : Table) (kept : Kept terms s) → length kept.list.cells ≡ get_or s.words size_at 0
  list_ends s kept =
      cells_after terms.limit terms.base terms.mark.filled kept.logged.log kept.list kept.logged.leads ∙ log_ends s kept

  list_limit : (s : Table) (kept : Kept terms s) → kept.list.limit ≡ terms.limit
  list_limit s kept =
      history_limit (first_list terms.limit terms.base terms.mark.filled) kept.logged.log kept.list kept.logged.leads

  -- a step that adds n to the size: the seat has one more run, which this event claims
  claims : (n : ℕ) (event : ℕ → Event × Reply) (s : Table) (kept : Kept terms s) → get_elem? s.views id ≡ some me.0 → 0 < n
      → get_or s.words size_at 0 + n ≤ terms.limit
      → IsHistory kept.list (event (length kept.lengths) ∷ []) (with_pending kept.list (length kept.lengths) n)
      → IsHistoryOf terms.limit terms.base terms.mark.filled (kept.logged.log ++ event (length kept.lengths) ∷ [])
      → lengths_of (kept.logged.log ++ event (length kept.lengths) ∷ []) ≡ kept.lengths ++ n ∷ []
      → (w : SeatView) × Kept terms (stepped s size_at (get_or s.words size_at 0 + n) id me.1 w keeps) × Claims me.0 (get_or s.words size_at 0) n event w
  claims n event s kept at one_place room here history long =
      let v = me.0 in
      let all = kept.lengths in
      let fits = kept.fits in
      let logged = kept.logged in
      let mine = fits.each id v at in
      let recalls = logged.each id v at in
      let es : Log = event (length all) ∷ [] in
      let log = logged.log ++ es in
      let list' = with_pending kept.list (length all) n in
      let w : SeatView = record v { seen = all ++ n ∷ []; mine = length all ∷ v.mine; one = []; other = []; log = log; one_log = []; other_log = [] } in
      let fits' = grows terms.limit terms.base (get_or s.words size_at 0) all s.views fits id v at n w one_place room part refl refl refl refl refl in
      let logged' = adds terms.limit terms.base terms.mark.filled all kept.list s.views logged id v at es (all ++ n ∷ []) list' w here history long refl (prefix_self (all ++ n ∷ [])) refl refl part in
      let tied' =
      tie_claim terms.limit terms.base terms.mark.filled all kept.list kept.ties s.views kept.tied (list_ends s kept ∙ kept.fits.ends) id v at (is_hand s kept at) n w fits.each
      refl refl refl refl refl refl refl in
      let ends = fits.ends in
      let size : runs_end v.base all ≡ get_or s.words size_at 0 = omega arith in (
        w,
        placed terms s kept (get_or s.words size_at 0 + n) id me w (all ++ n ∷ []) list' fits' logged' tied',
        record {
          between = mine.seen.0;
          size = ap (runs_end v.base) mine.seen.1 ∙ size;
          seen = ap (λ l. l ++ n ∷ []) (sym mine.seen.1);
          mine = ap (λ (l : List ℕ). length l ∷ v.mine) (sym mine.seen.1);
          log =
              subst (λ (l : List ℕ). AddsEvents v.log (event (length l) ∷ []) log) (sym mine.seen.1)
              (goes_on_with v.log logged.log es recalls.log);
          same = record { limit = refl; base = refl; mark = refl; filled = refl; mine = refl; shares = refl; begun = refl; rows = refl; laid = refl };
          consistent = settled_in terms (get_or s.words size_at 0 + n) (all ++ n ∷ []) list' kept.ties (set s.views id w) fits' logged' tied' id w (at_set_here s.views id v w at) is_limit is_base is_filled;
        },
      )

  -- a step that finds the size and leaves it logs a note's events of it
  looks_as : (note : ℕ → Log) → IsNote terms.limit note → (s : Table) (kept : Kept terms s) → get_elem? s.views id ≡ some me.0
      → (w : SeatView) × Kept terms (stepped s size_at (get_or s.words size_at 0) id me.1 w keeps) × Looks me.0 (get_or s.words size_at 0) (note (get_or s.words size_at 0)) w
  looks_as note is s kept at =
      let found = get_or s.words size_at 0 in
      looks (note found) s kept at (is.legal found kept.list kept.fits.within (list_limit s kept) (list_ends s kept))
      (notes_go_on terms.limit terms.base terms.mark.filled found kept.logged.log kept.logged.history (log_ends s kept) kept.fits.within note is)
      (note_lengths terms.limit note is found)

  -- a load
  pub loads_as : (note : ℕ → Log) → IsNote terms.limit note
      → Allows (Kept terms) slots id me size_at (λ n. n) (loaded_as note (step slots size_at 0 0 none) me)
  loads_as note is s kept homes at small = let l = looks_as note is s kept at in (l.0, keeps, tt, l.1, (l.2, refl))

  -- one that logs the size being asked for
  pub loads : Allows (Kept terms) slots id me size_at (λ n. n) (loaded (step slots size_at 0 0 none) me)
  loads s kept homes at small = loads_as size_note (size_is_note terms.limit) s kept homes at small

  -- one that logs a growth without memory: the seat learns nothing else
  pub lacks : Allows (Kept terms) slots id me size_at (λ n. n) (lacked (step slots size_at 0 0 none) me)
  lacks s kept homes at small =
      let v = me.0 in
      let all = kept.lengths in
      let fits = kept.fits in
      let logged = kept.logged in
      let mine = fits.each id v at in
      let recalls = logged.each id v at in
      let es : Log = memory_event ∷ [] in
      let log = logged.log ++ es in
      let w : SeatView = record v { one = []; other = []; log = log; one_log = []; other_log = [] } in
      let same : SameOwn v w = record { limit = refl; base = refl; mark = refl; filled = refl; mine = refl; shares = refl; begun = refl; rows = refl; laid = refl } in
      let suits : Suits all w = record { seen = mine.seen; one = prefix_nil all; other = prefix_nil all; own = mine.own; spent = mine.spent } in
      let fits' = stays terms.limit terms.base (get_or s.words size_at 0) all s.views fits id v at w same suits in
      let history = notes_go_on terms.limit terms.base terms.mark.filled (get_or s.words size_at 0) logged.log logged.history (log_ends s kept) fits.within memory_note (memory_is_note terms.limit) in
      let claims : lengths_of log ≡ all = lengths_of-append logged.log es ∙ (append-nil (lengths_of logged.log) ∙ logged.claims) in
      let here : IsHistory kept.list es kept.list = (kept.list, refl, refl) in
      let logged' = adds terms.limit terms.base terms.mark.filled all kept.list s.views logged id v at es all kept.list w here history claims refl mine.seen refl refl part in
      let tied' = still_knows s kept at w refl refl (prefix_self v.seen) refl refl refl in (
        w,
        keeps,
        tt,
        placed terms s kept (get_or s.words size_at 0) id me w all kept.list fits' logged' tied',
        (
          record {
            seen = refl;
            log = goes_on_with v.log logged.log es recalls.log;
            alone = λ whole. adds_alone terms.limit terms.base (get_or s.words size_at 0) terms.mark.filled all kept.list s.views fits logged id v at whole es;
            same = same;
            consistent = settled_in terms (get_or s.words size_at 0) all kept.list kept.ties (set s.views id w) fits' logged' tied' id w (at_set_here s.views id v w at) is_limit is_base is_filled;
          },
          refl,
        ),
      )

  -- one that sets the numbers of the mark: the rule says nothing about them
  pub marks : (numbers : List ℕ) → Allows (Kept terms) slots id me size_at (λ n. n) (marked_as numbers (step slots size_at 0 0 none) me)
  marks numbers s kept homes at small =
      let v = me.0 in
      let all = kept.lengths in
      let mine = kept.fits.each id v at in
      let recalls = kept.logged.each id v at in
      let w : SeatView = marked numbers v in
      let suits : Suits all w = record { seen = mine.seen; one = mine.one; other = mine.other; own = mine.own; spent = mine.spent } in
      let fits' = stays_by terms.limit terms.base (get_or s.words size_at 0) all s.views kept.fits id v at w refl refl suits in
      let still : Recalls kept.logged.log w = record { log = recalls.log; one = recalls.one; other = recalls.other; lengths = recalls.lengths } in
      let logged' = keeps_log terms.limit terms.base terms.mark.filled all kept.list s.views kept.logged id v at w refl (λ more. more) still in
      let tied' = still_knows s kept at w refl refl (prefix_self v.seen) refl refl refl in
      (w, keeps, tt, placed terms s kept (get_or s.words size_at 0) id me w all kept.list fits' logged' tied', (refl, refl))

  -- the event of a claim of n places
  abbrev claiming : ℕ → ℕ → ℕ → Event × Reply
  claiming found n index = claim_event index (record { from = found; n = n })

  abbrev raising : ℕ → ℕ → ℕ → ℕ → Event × Reply
  raising to found n index = raise_event index to (record { from = found; n = n })

  wins : (n : ℕ) (s : Table) (kept : Kept terms s) → get_elem? s.views id ≡ some me.0 → 0 < n → get_or s.words size_at 0 + n ≤ terms.limit
      → (w : SeatView) × Kept terms (stepped s size_at (get_or s.words size_at 0 + n) id me.1 w keeps) × Claims me.0 (get_or s.words size_at 0) n (claiming (get_or s.words size_at 0) n) w
  wins n s kept at one_place room =
      let found = get_or s.words size_at 0 in
      let logged = kept.logged in
      let last : length kept.lengths ≡ length (lengths_of logged.log) = ap length (sym logged.claims) in
      let e = claiming found n (length kept.lengths) in
      let run : OwnedRun = record { owner = length kept.lengths; from = found; n = n } in
      let size = list_ends s kept in
      let limit = list_limit s kept in
      claims n (claiming found n) s kept at one_place room
      (with_pending kept.list (length kept.lengths) n, claim_applies kept.list (length kept.lengths) found size n (omega arith), refl)
      (claims_next terms.limit terms.base terms.mark.filled logged.log logged.history e.0 e.1 run refl one_place last
      (claim_legal terms.limit terms.base terms.mark.filled found logged.log logged.history (log_ends s kept) (length kept.lengths) n room))
      (lengths_with terms.limit terms.base terms.mark.filled logged.log logged.history e.0 e.1 run refl one_place ∙ ap (λ (l : List ℕ). l ++ n ∷ []) logged.claims)

  rises : (to : ℕ) (s : Table) (kept : Kept terms s) → get_elem? s.views id ≡ some me.0 → get_or s.words size_at 0 < to → to ≤ terms.limit
      → (w : SeatView) × Kept terms (stepped s size_at (get_or s.words size_at 0 + (to - get_or s.words size_at 0)) id me.1 w keeps) × Claims me.0 (get_or s.words size_at 0) (to - get_or s.words size_at 0) (raising to (get_or s.words size_at 0) (to - get_or s.words size_at 0)) w
  rises to s kept at less room =
      let found = get_or s.words size_at 0 in
      let n = to - found in
      let logged = kept.logged in
      let last : length kept.lengths ≡ length (lengths_of logged.log) = ap length (sym logged.claims) in
      let e = raising to found n (length kept.lengths) in
      let run : OwnedRun = record { owner = length kept.lengths; from = found; n = n } in
      let one_place : 0 < n = omega arith in
      let size = list_ends s kept in
      let limit = list_limit s kept in
      claims n (raising to found n) s kept at one_place (omega arith)
      (with_pending kept.list (length kept.lengths) n, raise_applies kept.list (length kept.lengths) found size to less (omega arith), refl)
      (claims_next terms.limit terms.base terms.mark.filled logged.log logged.history e.0 e.1 run refl one_place last
      (raise_legal terms.limit terms.base terms.mark.filled found logged.log logged.history (log_ends s kept) (length kept.lengths) to less room))
      (lengths_with terms.limit terms.base terms.mark.filled logged.log logged.history e.0 e.1 run refl one_place ∙ ap (λ (l : List ℕ). l ++ n ∷ []) logged.claims)

  exchange_cases : (note : ℕ → Log) → IsNote terms.limit note → (old new : ℕ) → old < new → new ≤ terms.limit → (s : Table) (kept : Kept terms s)
      → get_elem? s.views id ≡ some me.0
      → (won : Bool) → (get_or s.words size_at 0 == old) ≡ won
      → (w : SeatView) × Kept terms (stepped s size_at (either won new (get_or s.words size_at 0)) id me.1 w keeps) × MatchBool won (Claims me.0 (get_or s.words size_at 0) (new - old) (claiming (get_or s.words size_at 0) (new - old)) w) (Looks me.0 (get_or s.words size_at 0) (note (get_or s.words size_at 0)) w)
  exchange_cases note is_note old new more room s kept at true is =
      let found : get_or s.words size_at 0 ≡ old = grind (arith, nat_tests) in
      let sum : get_or s.words size_at 0 + (new - old) ≡ new = omega arith in
      let c = wins (new - old) s kept at (omega arith) (omega arith) in
      (c.0, subst (λ n. Kept terms (stepped s size_at n id me.1 c.0 keeps)) sum c.1, c.2)
  exchange_cases note is_note old new more room s kept at false is = looks_as note is_note s kept at

  -- an exchange
  pub exchanges : (note : ℕ → Log) → IsNote terms.limit note → (old new : ℕ) → old < new → new ≤ terms.limit
      → Allows (Kept terms) slots id me size_at (λ n. either (n == old) new n) (exchanged_as note (step slots size_at old new none) me)
  exchanges note is_note old new more room s kept homes at small =
      let c = exchange_cases note is_note old new more room s kept at (get_or s.words size_at 0 == old) refl in (c.0, keeps, tt, c.1, (c.2, refl))

  raise_cases : (to : ℕ) → to ≤ terms.limit → (s : Table) (kept : Kept terms s) → get_elem? s.views id ≡ some me.0
      → (won : Bool) → nat_lt (get_or s.words size_at 0) to ≡ won
      → (w : SeatView) × Kept terms (stepped s size_at (max (get_or s.words size_at 0) to) id me.1 w keeps) × MatchBool won (Claims me.0 (get_or s.words size_at 0) (to - get_or s.words size_at 0) (raising to (get_or s.words size_at 0) (to - get_or s.words size_at 0)) w) (Looks me.0 (get_or s.words size_at 0) (enough_event to (get_or s.words size_at 0) ∷ []) w)
  raise_cases to room s kept at true is =
      let found : get_or s.words size_at 0 < to = grind (arith, nat_tests) in
      let sum : get_or s.words size_at 0 + (to - get_or s.words size_at 0) ≡ max (get_or s.words size_at 0) to = omega arith in
      let c = rises to s kept at found room in
      (c.0, subst (λ n. Kept terms (stepped s size_at n id me.1 c.0 keeps)) sum c.1, c.2)
  raise_cases to room s kept at false is =
      let found : to ≤ get_or s.words size_at 0 = grind (arith, nat_tests) in
      let same : get_or s.words size_at 0 ≡ max (get_or s.words size_at 0) to = omega arith in
      let size = list_ends s kept in
      let l = looks (enough_event to (get_or s.words size_at 0) ∷ []) s kept at
      (kept.list, enough_applies kept.list 0 (get_or s.words size_at 0) size to found, refl) (is_enough terms.limit terms.base terms.mark.filled (get_or s.words size_at 0) kept.logged.log kept.logged.history (log_ends s kept) to found) refl in
      (l.0, subst (λ n. Kept terms (stepped s size_at n id me.1 l.0 keeps)) same l.1, l.2)

  -- a greatest-value step
  pub raises : (to : ℕ) → to ≤ terms.limit
      → Allows (Kept terms) slots id me size_at (λ n. max n to) (raised (step slots size_at to 0 none) me)
  raises to room s kept homes at small =
      let c = raise_cases to room s kept at (nat_lt (get_or s.words size_at 0) to) refl in (c.0, keeps, tt, c.1, (c.2, refl))

  -- the load that ends a join
  pub settles : me.0.seen ≡ longer me.0.one me.0.other → me.0.log ≡ longer me.0.one_log me.0.other_log
      → Allows (Kept terms) slots id me size_at (λ n. n) (settled (step slots size_at 0 0 none) me)
  settles is_longer is_longer_log s kept homes at small =
      let v = me.0 in
      let all = kept.lengths in
      let fits = kept.fits in
      let logged = kept.logged in
      let mine = fits.each id v at in
      let recalls = logged.each id v at in
      let w : SeatView = record v { one = []; other = []; one_log = []; other_log = [] } in
      let same : SameOwn v w = record { limit = refl; base = refl; mark = refl; filled = refl; mine = refl; shares = refl; begun = refl; rows = refl; laid = refl } in
      let suits : Suits all w = record { seen = mine.seen; one = prefix_nil all; other = prefix_nil all; own = mine.own; spent = mine.spent } in
      let fits' = stays terms.limit terms.base (get_or s.words size_at 0) all s.views fits id v at w same suits in
      let logged' = keeps_log terms.limit terms.base terms.mark.filled all kept.list s.views logged id v at w refl (λ more. more) (recalls_still terms.limit terms.base terms.mark.filled all kept.list s.views logged id v at w refl refl refl refl) in
      let tied' = still_knows s kept at w refl refl (prefix_self v.seen) refl refl refl in
      let begins = longer_begins v.one v.other all mine.one mine.other in
      let logs = longer_begins v.one_log v.other_log logged.log recalls.one recalls.other in (
        w,
        keeps,
        tt,
        placed terms s kept (get_or s.words size_at 0) id me w all kept.list fits' logged' tied',
        (
          record {
            one = subst (λ l. IsPrefix v.one l) (sym is_longer) begins.0;
            other = subst (λ l. IsPrefix v.other l) (sym is_longer) begins.1;
            seen = refl;
            one_log = subst (λ (l : Log). IsPrefix v.one_log l) (sym is_longer_log) logs.0;
            other_log = subst (λ (l : Log). IsPrefix v.other_log l) (sym is_longer_log) logs.1;
            log = refl;
            same = same;
            consistent = settled_in terms (get_or s.words size_at 0) all kept.list kept.ties (set s.views id w) fits' logged' tied' id w (at_set_here s.views id v w at) is_limit is_base is_filled;
          },
          refl,
        ),
      )

-- the start: one hand has all shares, and nothing was claimed
pub opens : (terms : Terms) (words : List ℕ) → length words ≡ word_count → get_or words size_at 0 ≡ terms.base → terms.base ≤ terms.limit
    → Kept terms (opening words [] (first_view terms))
opens terms words all is room =
    record {
      words = all;
      lengths = [];
      list = first_list terms.limit terms.base terms.mark.filled;
      ties = no_ties terms.base terms.mark.filled;
      fits = subst (λ size. Fits terms.limit terms.base size [] (first_view terms ∷ [])) (sym is) (begins terms room);
      logged = logs_nothing terms.limit terms.base terms.mark.filled (first_view terms) refl refl refl refl (omega arith);
      tied = ties_begin terms;
    }

-- a seat is cut in two
pub cuts : (terms : Terms) (id : ℕ) (v : SeatView) (kept_runs given_runs : List ℕ) (kept_shares given_shares : ℕ)
    → 0 < kept_shares → 0 < given_shares → kept_shares + given_shares ≡ v.shares
    → ((k : ℕ) → times k kept_runs + times k given_runs ≡ times k v.mine)
    → Splits (Kept terms) id v (with_own v kept_runs kept_shares) (with_own v given_runs given_shares)
cuts terms id v kept_runs given_runs kept_shares given_shares some_kept some_given shares runs s kept at =
    let all = kept.lengths in
    let mine = kept.fits.each id v at in
    let all_words = kept.words in
    let suits : (xs : List ℕ) (n : ℕ) → 0 < n → ((k : ℕ) → times k xs ≤ times k v.mine) → Suits all (with_own v xs n) =
    λ xs n more part. record {
      seen = mine.seen;
      one = prefix_nil all;
      other = prefix_nil all;
      own = λ k. let o = mine.own k in let p = part k in omega arith;
      spent = λ none. absurd (omega arith);
    } in
    let hand : v.role ≡ Hand = (kept.tied.each id v at).hand (omega arith) in
    let knows : (xs : List ℕ) (n : ℕ) → ((k : ℕ) → times k xs ≤ times k v.mine) → Knows terms.base all kept.ties (with_own v xs n) =
    λ xs n less. knows_less terms.base all kept.ties v (with_own v xs n) (kept.tied.each id v at) refl refl (prefix_self v.seen)
    (λ k owned. Contains-from_times v.mine k (let t = times-from_Contains xs k owned in let p = less k in omega arith))
    refl (λ _. omega arith) refl in
    record {
      words = all_words;
      lengths = all;
      list = kept.list;
      ties = kept.ties;
      fits =
          splits terms.limit terms.base (get_or s.words size_at 0) all s.views kept.fits id v at (with_own v kept_runs kept_shares) (with_own v given_runs given_shares)
          (suits kept_runs kept_shares some_kept (λ k. let r = runs k in omega arith)) (suits given_runs given_shares some_given (λ k. let r = runs k in omega arith)) runs shares;
      logged =
          let recalls : (xs : List ℕ) (n : ℕ) → Recalls kept.logged.log (with_own v xs n) =
          λ xs n. recalls_still terms.limit terms.base terms.mark.filled all kept.list s.views kept.logged id v at (with_own v xs n) refl refl refl refl in
          cuts_log terms.limit terms.base terms.mark.filled all kept.list s.views kept.logged id v at (with_own v kept_runs kept_shares) (with_own v given_runs given_shares)
          refl (λ _. some_kept) (recalls kept_runs kept_shares) (recalls given_runs given_shares);
      tied =
          tie_cut terms.limit terms.base terms.mark.filled all kept.list kept.ties s.views kept.tied id v at (with_own v kept_runs kept_shares) (with_own v given_runs given_shares)
          hand hand hand (knows kept_runs kept_shares (λ k. let r = runs k in omega arith)) (knows given_runs given_shares (λ k. let r = runs k in omega arith));
    }

-- a seat is joined to another. Both have shares: no cell's seat may be joined away
pub merges : (terms : Terms) (id : ℕ) (v : SeatView) (other : ℕ) (w : SeatView) → 0 < v.shares → 0 < w.shares
    → Joins (Kept terms) id v other w (joined_view v w) spent_view
merges terms id v other w part other_part s kept at apart at' =
    let was : get_elem? s.views other ≡ some w = sym (set_else s.views id other (joined_view v w) apart) ∙ at' in
    record {
      words = kept.words;
      lengths = kept.lengths;
      list = kept.list;
      ties = kept.ties;
      fits = joins terms.limit terms.base (get_or s.words size_at 0) kept.lengths s.views kept.fits id v at other w apart at' part;
      logged = joins_log terms.limit terms.base terms.mark.filled kept.lengths kept.list s.views kept.logged id v at other w apart at' part;
      tied =
          tie_join terms.limit terms.base terms.mark.filled kept.lengths kept.list kept.ties s.views kept.tied id v at other w apart at'
          (kept.fits.each id v at).seen (kept.fits.each other w was).seen part other_part;
    }
