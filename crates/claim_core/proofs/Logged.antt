-- The effect of each kind of step on the history.
use Rattle.std.proofs.Common.{◌≡◌, ◌≢◌, ℕ, zero, suc, ◌+◌, ◌-◌, ◌<◌, ◌≤◌, Bool, true, false, nat_lt, nat_le, List, [], ◌∷◌, ◌++◌, length, map, filter, Some, slice_get, set, refl, ap, sym, ◌∙◌, subst, ⊎_elim, arith, length-append}
use Rattle.std.proofs.lemmas.List.{append-nil, map-append, length-map}
use Rattle.std.proofs.lemmas.List.FromFn.{length-map-range_with_len, get_or-map-range_with_len}
use Rattle.std.proofs.lemmas.Option.{slice_get-get_or}
use Rattle.std.proofs.lemmas.List.Elements.{filter-append}
use Rattle.std.proofs.lemmas.List.Sums.{sum_by-append}
use Rattle.std.proofs.lemmas.Bool.Decides.{nat_tests}
use Rattle.std.specs.List.{sum, range_with_len}
use mathlib.Core.Option.{some, some-injective}
use mathlib.Core.List.{IsPrefix}
use mathlib.Core.Logic.{dite}
use native.Mathlib.Decide.{ℕ_discrete}
use lib.ListN.{get_elem?}
use Rattle.atomic_table.proofs.Lists.{at_longer, set_else}
use Rattle.book_core.specs.declared.cells.Cell.{Cell}
use Rattle.book_core.specs.declared.events.Event.{Event}
use Rattle.book_core.specs.declared.events.Event.TheVariants.{Claim, Raise}
use Rattle.book_core.specs.declared.events.Reply.{Reply}
use Rattle.book_core.specs.declared.events.Reply.TheVariants as replies
use Rattle.book_core.specs.Cells.{CellList, apply_event, with_pending}
use Rattle.book_core.specs.History.{IsHistory, IsLegalFrom, OwnedRun, runs_of, Tile}
use Rattle.book_core.proofs.Histories.{IsHistory-append, IsHistory-push, IsHistory-split, history_limit, runs_tile}
use Rattle.book_core.proofs.Runs.{runs_of-append}
use Rattle.book_core.proofs.EventRows.{claims_append}
use Rattle.claim_core.specs.declared.seat_view.SeatView.{SeatView}
use Rattle.claim_core.specs.Lengths.{runs_end}
use Rattle.claim_core.specs.History.{Log, broken_cell, first_cell, first_list, claims_in, lengths_of, owners_of, IsHistoryOf, IsNote}
use Rattle.claim_core.specs.Rule.{Recalls, Latest, Logged}
use Rattle.claim_core.specs.SeatView.{longer, joined_view, spent_view}
use Rattle.claim_core.proofs.Prefixes.{prefix_self, prefix_append, prefix_nil, prefix_trans, prefix_length, prefix_whole, longer_picks, longer_begins}
use Rattle.claim_core.proofs.Fits.{at_set_here, each_set, each_snoc, each_one}

-- ---- What a history claims, in two parts

claims_in-append : (es fs : Log) → claims_in (es ++ fs) ≡ claims_in es ++ claims_in fs
claims_in-append es fs =
    ap (filter (λ (run : OwnedRun). nat_lt 0 run.n)) (runs_of-append es fs)
    ∙ filter-append (λ (run : OwnedRun). nat_lt 0 run.n) (runs_of es) (runs_of fs)

pub lengths_of-append : (es fs : Log) → lengths_of (es ++ fs) ≡ lengths_of es ++ lengths_of fs
lengths_of-append es fs =
    ap (map (λ (run : OwnedRun). run.n)) (claims_in-append es fs) ∙ map-append (λ (run : OwnedRun). run.n) (claims_in es) (claims_in fs)

pub owners_of-append : (es fs : Log) → owners_of (es ++ fs) ≡ owners_of es ++ owners_of fs
owners_of-append es fs =
    ap (map (λ (run : OwnedRun). run.owner)) (claims_in-append es fs) ∙ map-append (λ (run : OwnedRun). run.owner) (claims_in es) (claims_in fs)

-- what a prefix claims is a prefix of what the whole claims
lengths_begin : (es all : Log) → IsPrefix es all → IsPrefix (lengths_of es) (lengths_of all)
lengths_begin es all p = (lengths_of p.0, sym (lengths_of-append es p.0) ∙ ap lengths_of p.1)

-- ---- The list that a history leads to

abbrev sum_lengths : List OwnedRun → ℕ
sum_lengths runs = sum (map (λ (run : OwnedRun). run.n) (filter (λ (run : OwnedRun). nat_lt 0 run.n) runs))

sum_cons : (x : ℕ) (xs : List ℕ) → sum (x ∷ xs) ≡ x + sum xs
sum_cons x xs = omega (arith, sum_by-append (λ y. y) (x ∷ []) xs)

sum_of_next : (run : OwnedRun) (runs : List OwnedRun) (b : Bool) → nat_lt 0 run.n ≡ b
    → sum_lengths (run ∷ runs) ≡ run.n + sum_lengths runs
sum_of_next run runs true is =
    rw is (sum_cons run.n (map (λ (run : OwnedRun). run.n) (filter (λ (run : OwnedRun). nat_lt 0 run.n) runs)))
sum_of_next run runs false is = let none : run.n ≡ 0 = grind (arith, nat_tests) in rw is (omega arith)

tile_end : (start end : ℕ) (runs : List OwnedRun) → Tile start runs end → end ≡ start + sum_lengths runs
tile_end start end [] tile = omega (arith, tile)
tile_end start end (run ∷ runs) tile =
    let rest = tile_end (start + run.n) end runs tile.1 in
    let next = sum_of_next run runs (nat_lt 0 run.n) refl in
    omega arith

-- the list that a word begins with, at a place below its base
pub first_at_place : (base : ℕ) (filled : List Bool) (place : ℕ) → place < base
    → slice_get (map (first_cell filled) (range_with_len 0 base)) place ≡ Some (first_cell filled place)
first_at_place base filled place below =
    let cell : ℕ → Cell = first_cell filled in
    let cells : List Cell = map cell (range_with_len 0 base) in
    let long : length cells ≡ base = length-map-range_with_len cell 0 base in
    slice_get-get_or cells place broken_cell (omega (arith, long, below))
    ∙ ap (λ (c : Cell). Some c) (get_or-map-range_with_len cell 0 base place place broken_cell below (omega arith))

-- it is as long as the base and all runs together
pub cells_after : (limit base : ℕ) (filled : List Bool) (log : Log) (new : CellList) → IsHistory (first_list limit base filled) log new
    → length new.cells ≡ runs_end base (lengths_of log)
cells_after limit base filled log new history =
    let first : length (first_list limit base filled).cells ≡ base = length-map-range_with_len (first_cell filled) 0 base in
    let end = tile_end (length (first_list limit base filled).cells) (length new.cells) (runs_of log) (runs_tile (first_list limit base filled) new log history) in
    omega arith

-- an event that the list allows goes on a legal history
goes_on : (limit base : ℕ) (filled : List Bool) (size : ℕ) (log : Log) (event : Event) (reply : Reply) → IsLegalFrom (first_list limit base filled) log
    → runs_end base (lengths_of log) ≡ size
    → ((mid : CellList) → length mid.cells ≡ size → mid.limit ≡ limit → (new : CellList) × (apply_event mid event ≡ Some (new, reply)))
    → IsLegalFrom (first_list limit base filled) (log ++ (event, reply) ∷ [])
goes_on limit base filled size log event reply (mid, history) ends applies =
    let (new, is) = applies mid (cells_after limit base filled log mid history ∙ ends) (history_limit (first_list limit base filled) log mid history) in
    (new, IsHistory-push (first_list limit base filled) log mid new event reply history is)

-- ---- The rows of the table that a word's steps are

claim_applies : (limit size index n : ℕ) → size + n ≤ limit → (mid : CellList) → length mid.cells ≡ size → mid.limit ≡ limit
    → (new : CellList) × (apply_event mid (Claim index n) ≡ Some (new, replies.Run size n))
claim_applies limit size index n room mid is is_limit =
    (with_pending mid index n, claims_append mid index n (omega arith) ∙ ap (λ from. Some (with_pending mid index n, replies.Run from n)) is)

raise_cases : (mid : CellList) (index to : ℕ) (enough fits : Bool) → nat_le to (length mid.cells) ≡ enough → nat_le to mid.limit ≡ fits
    → length mid.cells < to → to ≤ mid.limit
    → apply_event mid (Raise index to) ≡ Some (with_pending mid index (to - length mid.cells), replies.Run (length mid.cells) (to - length mid.cells))
raise_cases mid index to true fits is is_fit less room = absurd (grind (arith, nat_tests))
raise_cases mid index to false true is is_fit less room = rw is (rw is_fit refl)
raise_cases mid index to false false is is_fit less room = absurd (grind (arith, nat_tests))

raise_applies : (limit size index to : ℕ) → size < to → to ≤ limit → (mid : CellList) → length mid.cells ≡ size → mid.limit ≡ limit
    → (new : CellList) × (apply_event mid (Raise index to) ≡ Some (new, replies.Run size (to - size)))
raise_applies limit size index to less room mid is is_limit =
    let list = with_pending mid index (to - length mid.cells) in (
      list,
      raise_cases mid index to (nat_le to (length mid.cells)) (nat_le to mid.limit) refl refl (omega arith) (omega arith)
          ∙ ap (λ from. Some (list, replies.Run from (to - from))) is,
    )

enough_cases : (mid : CellList) (to : ℕ) (enough : Bool) → nat_le to (length mid.cells) ≡ enough → to ≤ length mid.cells
    → apply_event mid (Raise 0 to) ≡ Some (mid, replies.Enough (length mid.cells))
enough_cases mid to true is le = rw is refl
enough_cases mid to false is le = absurd (grind (arith, nat_tests))

enough_applies : (size to : ℕ) → to ≤ size → (mid : CellList) → length mid.cells ≡ size
    → (new : CellList) × (apply_event mid (Raise 0 to) ≡ Some (new, replies.Enough size))
enough_applies size to le mid is =
    (mid, enough_cases mid to (nat_le to (length mid.cells)) refl (omega arith) ∙ ap (λ n. Some (mid, replies.Enough n)) is)

-- ---- A history after an event

-- a growth up to a size that is not needed
module _ (limit base : ℕ) (filled : List Bool) (size : ℕ) (log : Log) (history : IsHistoryOf limit base filled log) (ends : runs_end base (lengths_of log) ≡ size) where
  pub is_enough : (to : ℕ) → to ≤ size → IsHistoryOf limit base filled (log ++ (Raise 0 to, replies.Enough size) ∷ [])
  is_enough to le =
      record {
        legal = goes_on limit base filled size log (Raise 0 to) (replies.Enough size) history.legal ends (λ mid is _. enough_applies size to le mid is);
        actors = owners_of-append log _ ∙ (append-nil (owners_of log) ∙ (history.actors
            ∙ ap (λ (l : List ℕ). range_with_len 0 (length l)) (sym (lengths_of-append log _ ∙ append-nil (lengths_of log)))));
      }

-- a note's events claim nothing
pub note_lengths : (limit : ℕ) (note : ℕ → Log) → IsNote limit note → (size : ℕ) → lengths_of (note size) ≡ []
note_lengths limit note is size = ap (map (λ (run : OwnedRun). run.n)) (is.nothing size)

-- events that claim nothing leave the lengths
pub others_lengths : (log es : Log) → claims_in es ≡ [] → lengths_of (log ++ es) ≡ lengths_of log
others_lengths log es nothing =
    lengths_of-append log es
    ∙ (ap (λ (runs : List OwnedRun). lengths_of log ++ map (λ (run : OwnedRun). run.n) runs) nothing ∙ append-nil (lengths_of log))

-- the events that a note has for the size go on the history
pub notes_go_on : (limit base : ℕ) (filled : List Bool) (size : ℕ) (log : Log) → IsHistoryOf limit base filled log → runs_end base (lengths_of log) ≡ size
    → size ≤ limit → (note : ℕ → Log) → IsNote limit note → IsHistoryOf limit base filled (log ++ note size)
notes_go_on limit base filled size log history ends within note is =
    let mid = history.legal.0 in
    let so_far = history.legal.1 in
    let here = is.legal size mid within (history_limit (first_list limit base filled) log mid so_far) (cells_after limit base filled log mid so_far ∙ ends) in
    let owners : owners_of (log ++ note size) ≡ owners_of log =
    owners_of-append log (note size)
    ∙ (ap (λ (runs : List OwnedRun). owners_of log ++ map (λ (run : OwnedRun). run.owner) runs) (is.nothing size) ∙ append-nil (owners_of log)) in
    let lengths : lengths_of (log ++ note size) ≡ lengths_of log =
    lengths_of-append log (note size) ∙ (ap (λ (l : List ℕ). lengths_of log ++ l) (note_lengths limit note is size) ∙ append-nil (lengths_of log)) in
    record {
      legal = (mid, IsHistory-append (first_list limit base filled) log (note size) mid mid so_far here);
      actors = owners ∙ (history.actors ∙ ap (λ (l : List ℕ). range_with_len 0 (length l)) (sym lengths));
    }

-- a claim, and a growth up to a size, are legal if there is room
module _ (limit base : ℕ) (filled : List Bool) (size : ℕ) (log : Log) (history : IsHistoryOf limit base filled log) (ends : runs_end base (lengths_of log) ≡ size) where
  pub claim_legal : (index n : ℕ) → size + n ≤ limit → IsLegalFrom (first_list limit base filled) (log ++ (Claim index n, replies.Run size n) ∷ [])
  claim_legal index n room =
      goes_on limit base filled size log (Claim index n) (replies.Run size n) history.legal ends (λ mid is is_limit. claim_applies limit size index n room mid is is_limit)

  pub raise_legal : (index to : ℕ) → size < to → to ≤ limit → IsLegalFrom (first_list limit base filled) (log ++ (Raise index to, replies.Run size (to - size)) ∷ [])
  raise_legal index to less room =
      goes_on limit base filled size log (Raise index to) (replies.Run size (to - size)) history.legal ends (λ mid is is_limit. raise_applies limit size index to less room mid is is_limit)

-- the actors of claims are counted
count_next : (a n : ℕ) → range_with_len a (suc n) ≡ range_with_len a n ++ (a + n) ∷ []
count_next a zero = ap (λ (k : ℕ). k ∷ []) (omega arith)
count_next a (suc n) =
    ap (λ (l : List ℕ). a ∷ l) (count_next (a + 1) n ∙ ap (λ k. range_with_len (a + 1) n ++ k ∷ []) (omega arith))

count_begins : (a m : ℕ) (xs : List ℕ) → IsPrefix xs (range_with_len a m) → xs ≡ range_with_len a (length xs)
count_begins a m [] p = refl
count_begins a zero (x ∷ xs) p = absurd (cc (p.1))
count_begins a (suc m) (x ∷ xs) p =
    let head : x ≡ a = cc (p.1) in
    let rest = count_begins (a + 1) m xs (p.0, cc (p.1)) in
    cc (head, rest)

pub one_claim : (run : OwnedRun) (b : Bool) → nat_lt 0 run.n ≡ b → 0 < run.n
    → filter (λ (run : OwnedRun). nat_lt 0 run.n) (run ∷ []) ≡ run ∷ []
one_claim run true is more = rw is refl
one_claim run false is more = absurd (grind (arith, nat_tests))

-- an event that claims one run of places
module _
    (limit base : ℕ) (filled : List Bool) (log : Log) (history : IsHistoryOf limit base filled log) (event : Event) (reply : Reply) (run : OwnedRun)
    (is : runs_of ((event, reply) ∷ []) ≡ run ∷ []) (some_places : 0 < run.n) where
  claims_it : claims_in ((event, reply) ∷ []) ≡ run ∷ []
  claims_it = ap (filter (λ (run : OwnedRun). nat_lt 0 run.n)) is ∙ one_claim run (nat_lt 0 run.n) refl some_places

  pub lengths_with : lengths_of (log ++ (event, reply) ∷ []) ≡ lengths_of log ++ run.n ∷ []
  lengths_with = lengths_of-append log ((event, reply) ∷ []) ∙ ap (λ (runs : List OwnedRun). lengths_of log ++ map (λ (run : OwnedRun). run.n) runs) claims_it

  owners_with : owners_of (log ++ (event, reply) ∷ []) ≡ owners_of log ++ run.owner ∷ []
  owners_with = owners_of-append log ((event, reply) ∷ []) ∙ ap (λ (runs : List OwnedRun). owners_of log ++ map (λ (run : OwnedRun). run.owner) runs) claims_it

  pub claims_next : run.owner ≡ length (lengths_of log) → IsLegalFrom (first_list limit base filled) (log ++ (event, reply) ∷ [])
      → IsHistoryOf limit base filled (log ++ (event, reply) ∷ [])
  claims_next last legal =
      let long : length (lengths_of (log ++ (event, reply) ∷ [])) ≡ suc (length (lengths_of log)) =
      ap length lengths_with ∙ (length-append (lengths_of log) (run.n ∷ []) ∙ omega arith) in
      record {
        legal = legal;
        actors = owners_with ∙ (ap (λ (l : List ℕ). l ++ run.owner ∷ []) history.actors
            ∙ (ap (λ k. range_with_len 0 (length (lengths_of log)) ++ k ∷ []) (omega arith)
            ∙ (sym (count_next 0 (length (lengths_of log))) ∙ ap (range_with_len 0) (sym long))));
      }

-- events that claim nothing go on a history, if they are legal after it
pub others_go_on : (limit base : ℕ) (filled : List Bool) (log es : Log) (list list' : CellList) → IsHistoryOf limit base filled log
    → IsHistory (first_list limit base filled) log list → IsHistory list es list' → claims_in es ≡ []
    → IsHistoryOf limit base filled (log ++ es)
others_go_on limit base filled log es list list' history leads here nothing =
    let owners : owners_of (log ++ es) ≡ owners_of log =
    owners_of-append log es
    ∙ (ap (λ (runs : List OwnedRun). owners_of log ++ map (λ (run : OwnedRun). run.owner) runs) nothing ∙ append-nil (owners_of log)) in
    let lengths : lengths_of (log ++ es) ≡ lengths_of log = others_lengths log es nothing in
    record {
      legal = (list', IsHistory-append (first_list limit base filled) log es list list' leads here);
      actors = owners ∙ (history.actors ∙ ap (λ (l : List ℕ). range_with_len 0 (length l)) (sym lengths));
    }

-- what was seen of a history is one
pub begins_history : (limit base : ℕ) (filled : List Bool) (es all : Log) → IsHistoryOf limit base filled all → IsPrefix es all → IsHistoryOf limit base filled es
begins_history limit base filled es all history p =
    let whole : IsLegalFrom (first_list limit base filled) (es ++ p.0) = subst (IsLegalFrom (first_list limit base filled)) (sym p.1) history.legal in
    let (mid, first, _) = IsHistory-split (first_list limit base filled) es p.0 whole.0 whole.1 in
    let owners : IsPrefix (owners_of es) (range_with_len 0 (length (lengths_of all))) =
    (owners_of p.0, sym (owners_of-append es p.0) ∙ (ap owners_of p.1 ∙ history.actors)) in
    let long : length (owners_of es) ≡ length (lengths_of es) = length-map (claims_in es) _ ∙ sym (length-map (claims_in es) _) in
    record {
      legal = (mid, first);
      actors = count_begins 0 (length (lengths_of all)) (owners_of es) owners ∙ ap (range_with_len 0) long;
    }

-- ---- The seats

pub spent_recalls : (log : Log) → Recalls log spent_view
spent_recalls log = record { log = prefix_nil log; one = prefix_nil log; other = prefix_nil log; lengths = prefix_nil [] }

recalls_more : (log es : Log) (v : SeatView) → Recalls log v → Recalls (log ++ es) v
recalls_more log es v recalls =
    let more = prefix_append log es in
    record {
      log = prefix_trans v.log log (log ++ es) recalls.log more;
      one = prefix_trans v.one_log log (log ++ es) recalls.one more;
      other = prefix_trans v.other_log log (log ++ es) recalls.other more;
      lengths = recalls.lengths;
    }

-- the first hand of a word has seen that nothing happened
pub logs_nothing : (limit base : ℕ) (filled : List Bool) (v : SeatView) → v.log ≡ [] → v.one_log ≡ [] → v.other_log ≡ [] → v.seen ≡ [] → 0 < v.shares
    → Logged limit base filled [] (first_list limit base filled) (v ∷ [])
logs_nothing limit base filled v log one other seen part =
    record {
      log = [];
      history = record { legal = (first_list limit base filled, refl); actors = refl };
      leads = refl;
      claims = refl;
      each =
          each_one (Recalls []) v
          (record {
            log = subst (λ (l : Log). IsPrefix l []) (sym log) (prefix_nil []);
            one = subst (λ (l : Log). IsPrefix l []) (sym one) (prefix_nil []);
            other = subst (λ (l : Log). IsPrefix l []) (sym other) (prefix_nil []);
            lengths = subst (λ (l : List ℕ). IsPrefix l (lengths_of v.log)) (sym seen) (prefix_nil (lengths_of v.log));
          });
      latest = record { id = 0; view = v; at = refl; part = part; all = log };
    }

module _
    (limit base : ℕ) (filled : List Bool) (lengths : List ℕ) (list : CellList) (vs : List SeatView) (logged : Logged limit base filled lengths list vs)
    (id : ℕ) (v : SeatView) (at : get_elem? vs id ≡ some v) where
  -- what the seat has seen of the history
  pub story : IsHistoryOf limit base filled v.log
  story = begins_history limit base filled v.log logged.log logged.history (logged.each id v at).log

  -- if it has seen all that was claimed, its history claims just that
  pub tells_all : v.seen ≡ lengths → lengths_of v.log ≡ v.seen
  tells_all all =
      let recalls = logged.each id v at in
      let le = prefix_length (lengths_of v.log) (lengths_of logged.log) (lengths_begin v.log logged.log recalls.log) in
      let same = ap length (logged.claims ∙ sym all) in
      sym (prefix_whole v.seen (lengths_of v.log) recalls.lengths (omega arith))

  -- the seat has seen the whole history, and adds events, which lead to another list; it has seen some of the lengths
  pub adds : (es : Log) (all : List ℕ) (list' : CellList) (w : SeatView) → IsHistory list es list'
      → IsHistoryOf limit base filled (logged.log ++ es) → lengths_of (logged.log ++ es) ≡ all
      → w.log ≡ logged.log ++ es → IsPrefix w.seen all → w.one_log ≡ [] → w.other_log ≡ [] → 0 < w.shares
      → Logged limit base filled all list' (set vs id w)
  adds es all list' w here history claims log seen one other part =
      record {
        log = logged.log ++ es;
        history = history;
        leads = IsHistory-append (first_list limit base filled) logged.log es list list' logged.leads here;
        claims = claims;
        each =
            each_set (Recalls (logged.log ++ es)) vs id w
            (record {
              log = subst (λ (l : Log). IsPrefix l (logged.log ++ es)) (sym log) (prefix_self (logged.log ++ es));
              one = subst (λ (l : Log). IsPrefix l (logged.log ++ es)) (sym one) (prefix_nil (logged.log ++ es));
              other = subst (λ (l : Log). IsPrefix l (logged.log ++ es)) (sym other) (prefix_nil (logged.log ++ es));
              lengths = subst (λ (l : List ℕ). IsPrefix w.seen l) (sym claims ∙ ap lengths_of (sym log)) seen;
            })
            (λ j u here. recalls_more logged.log es u (logged.each j u here));
        latest = record { id = id; view = w; at = at_set_here vs id v w at; part = part; all = log };
      }

  -- some seat has still seen all, if this one keeps what it has seen, and some share if it had one
  still_latest : (w : SeatView) → w.log ≡ v.log → (0 < v.shares → 0 < w.shares) → Latest logged.log (set vs id w)
  still_latest w log part =
      let latest = logged.latest in
      dite (ℕ_discrete latest.id id)
      (λ same.
      let is : v ≡ latest.view = some-injective v latest.view (sym at ∙ (ap (get_elem? vs) (sym same) ∙ latest.at)) in
      record {
        id = id;
        view = w;
        at = at_set_here vs id v w at;
        part = part (let s = ap (λ (u : SeatView). u.shares) is in let p = latest.part in omega arith);
        all = log ∙ (ap (λ (u : SeatView). u.log) is ∙ latest.all);
      })
      (λ other. record {
        id = latest.id;
        view = latest.view;
        at = set_else vs id latest.id w other ∙ latest.at;
        part = latest.part;
        all = latest.all;
      })

  -- the seat keeps what it has seen
  pub recalls_still : (w : SeatView) → w.log ≡ v.log → w.seen ≡ v.seen → w.one_log ≡ [] → w.other_log ≡ [] → Recalls logged.log w
  recalls_still w log seen one other =
      let recalls = logged.each id v at in
      record {
        log = subst (λ (l : Log). IsPrefix l logged.log) (sym log) recalls.log;
        one = subst (λ (l : Log). IsPrefix l logged.log) (sym one) (prefix_nil logged.log);
        other = subst (λ (l : Log). IsPrefix l logged.log) (sym other) (prefix_nil logged.log);
        lengths =
            subst (λ (l : List ℕ). IsPrefix l (lengths_of w.log)) (sym seen)
            (subst (λ (l : Log). IsPrefix v.seen (lengths_of l)) (sym log) recalls.lengths);
      }

  pub keeps_log : (w : SeatView) → w.log ≡ v.log → (0 < v.shares → 0 < w.shares) → Recalls logged.log w
      → Logged limit base filled lengths list (set vs id w)
  keeps_log w log part recalls =
      record {
        log = logged.log;
        history = logged.history;
        leads = logged.leads;
        claims = logged.claims;
        each = each_set (Recalls logged.log) vs id w recalls logged.each;
        latest = still_latest w log part;
      }

  -- the seat is cut in two
  pub cuts_log : (left right : SeatView) → left.log ≡ v.log → (0 < v.shares → 0 < left.shares) → Recalls logged.log left
      → Recalls logged.log right → Logged limit base filled lengths list (set vs id left ++ right ∷ [])
  cuts_log left right log part recalls_left recalls_right =
      let latest = still_latest left log part in
      record {
        log = logged.log;
        history = logged.history;
        leads = logged.leads;
        claims = logged.claims;
        each =
            each_snoc (Recalls logged.log) (set vs id left) right recalls_right
            (each_set (Recalls logged.log) vs id left recalls_left logged.each);
        latest = record {
          id = latest.id;
          view = latest.view;
          at = at_longer (set vs id left) (right ∷ []) latest.id latest.view latest.at;
          part = latest.part;
          all = latest.all;
        };
      }

  -- another seat is joined to the seat
  module _
      (j : ℕ) (w : SeatView) (apart : j ≢ id) (at' : get_elem? (set vs id (joined_view v w)) j ≡ some w) (part : 0 < v.shares) where
    was : get_elem? vs j ≡ some w
    was = sym (set_else vs id j (joined_view v w) apart) ∙ at'

    both_begin : IsPrefix v.log (longer v.log w.log) × IsPrefix w.log (longer v.log w.log) × IsPrefix (longer v.log w.log) logged.log
    both_begin = longer_begins v.log w.log logged.log (logged.each id v at).log (logged.each j w was).log

    joined_lengths : IsPrefix (longer v.seen w.seen) (lengths_of (longer v.log w.log))
    joined_lengths =
        let all = lengths_of (longer v.log w.log) in
        ⊎_elim
        (λ (c : (length w.seen ≤ length v.seen) × (longer v.seen w.seen ≡ v.seen)).
        subst (λ (l : List ℕ). IsPrefix l all) (sym c.1)
        (prefix_trans v.seen (lengths_of v.log) all (logged.each id v at).lengths (lengths_begin v.log (longer v.log w.log) both_begin.0)))
        (λ (c : (length v.seen ≤ length w.seen) × (longer v.seen w.seen ≡ w.seen)).
        subst (λ (l : List ℕ). IsPrefix l all) (sym c.1)
        (prefix_trans w.seen (lengths_of w.log) all (logged.each j w was).lengths (lengths_begin w.log (longer v.log w.log) both_begin.1)))
        (longer_picks v.seen w.seen (nat_le (length w.seen) (length v.seen)) refl)

    -- if one of them had seen all, so has the longer
    all_of_longer : (es : Log) → IsPrefix es (longer v.log w.log) → es ≡ logged.log → longer v.log w.log ≡ logged.log
    all_of_longer es p is =
        let le = prefix_length es (longer v.log w.log) p in
        let same = ap length is in
        prefix_whole (longer v.log w.log) logged.log both_begin.2 (omega arith)

    both_latest : (es : Log) → IsPrefix es (longer v.log w.log) → es ≡ logged.log
        → Latest logged.log (set (set vs id (joined_view v w)) j spent_view)
    both_latest es p is =
        record {
          id = id;
          view = joined_view v w;
          at = set_else (set vs id (joined_view v w)) j id spent_view (λ e. apart (sym e)) ∙ at_set_here vs id v (joined_view v w) at;
          part = omega arith;
          all = all_of_longer es p is;
        }

    join_latest : Latest logged.log (set (set vs id (joined_view v w)) j spent_view)
    join_latest =
        let latest = logged.latest in
        dite (ℕ_discrete latest.id id)
        (λ same.
        let is : v ≡ latest.view = some-injective v latest.view (sym at ∙ (ap (get_elem? vs) (sym same) ∙ latest.at)) in
        both_latest v.log both_begin.0 (ap (λ (u : SeatView). u.log) is ∙ latest.all))
        (λ other. dite (ℕ_discrete latest.id j)
        (λ same.
        let is : w ≡ latest.view = some-injective w latest.view (sym was ∙ (ap (get_elem? vs) (sym same) ∙ latest.at)) in
        both_latest w.log both_begin.1 (ap (λ (u : SeatView). u.log) is ∙ latest.all))
        (λ more. record {
          id = latest.id;
          view = latest.view;
          at = set_else (set vs id (joined_view v w)) j latest.id spent_view more ∙ (set_else vs id latest.id (joined_view v w) other ∙ latest.at);
          part = latest.part;
          all = latest.all;
        }))

    pub joins_log : Logged limit base filled lengths list (set (set vs id (joined_view v w)) j spent_view)
    joins_log =
        record {
          log = logged.log;
          history = logged.history;
          leads = logged.leads;
          claims = logged.claims;
          each =
              each_set (Recalls logged.log) (set vs id (joined_view v w)) j spent_view (spent_recalls logged.log)
              (each_set (Recalls logged.log) vs id (joined_view v w)
              (record {
                log = both_begin.2;
                one = (logged.each id v at).log;
                other = (logged.each j w was).log;
                lengths = joined_lengths;
              })
              logged.each);
          latest = join_latest;
        }
