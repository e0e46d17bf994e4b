-- The rule of the claim word: what holds between any two steps.
use Rattle.std.specs.Prelude.{◌≡◌, ℕ, ◌+◌, ◌<◌, ◌≤◌, Bool, List, [], ◌∷◌, length, slice_index}
use Rattle.std.specs.List.{All}
use mathlib.Core.Option.{some}
use mathlib.Core.List.{IsPrefix}
use lib.ListN.{get_elem?}
use Rattle.atomic_table.specs.Table.{State}
use Rattle.claim_core.specs.declared.seat_view.SeatView.{SeatView}
use Rattle.claim_core.specs.declared.terms.Terms.{Terms}
use Rattle.claim_core.specs.Lengths.{runs_end, times, once_below}
use Rattle.book_core.specs.Cells.{CellList}
use Rattle.book_core.specs.History.{IsHistory}
use Rattle.claim_core.specs.History.{Log, first_list, lengths_of, IsHistoryOf}
use Rattle.claim_core.specs.Ties.{Ties, TiedBy}
use Rattle.claim_core.specs.Shares.{all_shares}

-- a number of each view, added up
abbrev pub total : (SeatView → ℕ) → List SeatView → ℕ
total f [] = 0
total f (v ∷ vs) = f v + total f vs

-- what a seat has seen is a prefix of the list of all lengths. It owns runs that it has seen, each once. With
-- no share it has nothing
pub record Suits (lengths : List ℕ) (v : SeatView) : Type 0 where
  pub seen : IsPrefix v.seen lengths
  pub one : IsPrefix v.one lengths
  pub other : IsPrefix v.other lengths
  pub own : (k : ℕ) → times k v.mine ≤ once_below k (length v.seen)
  pub spent : v.shares ≡ 0 → (v.seen ≡ []) × (v.mine ≡ [])

-- the size is where the lengths end, at most the limit. All seats together own each run once, and have all_shares
-- shares
pub record Fits (limit base size : ℕ) (lengths : List ℕ) (views : List SeatView) : Type 0 where
  pub ends : size ≡ runs_end base lengths
  pub within : size ≤ limit
  pub positive : All (λ n. 0 < n) lengths
  pub each : (id : ℕ) (v : SeatView) → get_elem? views id ≡ some v → Suits lengths v
  pub owned : (k : ℕ) → total (λ v. times k v.mine) views ≡ once_below k (length lengths)
  pub shares : total (λ v. v.shares) views ≡ all_shares

-- what a seat has seen of the history is a prefix of it, and claims what the seat has seen
pub record Recalls (all : Log) (v : SeatView) : Type 0 where
  pub log : IsPrefix v.log all
  pub one : IsPrefix v.one_log all
  pub other : IsPrefix v.other_log all
  pub lengths : IsPrefix v.seen (lengths_of v.log)

-- some seat with shares has seen all of it
pub record Latest (log : Log) (views : List SeatView) : Type 0 where
  pub id : ℕ
  pub view : SeatView
  pub at : get_elem? views id ≡ some view
  pub part : 0 < view.shares
  pub all : view.log ≡ log

-- there is one history, which leads to this list. It is legal, it claims these lengths, each once, and each seat has
-- seen a prefix of it
pub record Logged (limit base : ℕ) (filled : List Bool) (lengths : List ℕ) (list : CellList)
    (views : List SeatView) : Type 0 where
  pub log : Log
  pub history : IsHistoryOf limit base filled log
  pub leads : IsHistory (first_list limit base filled) log list
  pub claims : lengths_of log ≡ lengths
  pub each : (id : ℕ) (v : SeatView) → get_elem? views id ≡ some v → Recalls log v
  pub latest : Latest log views

-- the size is the middle one of 33 words, so that nothing else lies near it
abbrev pub word_count : ℕ
word_count = 33

abbrev pub size_at : ℕ
size_at = 16

-- there is a list of lengths that fits the size and all seats, a history that claims them and leads to a list of
-- cells, and the seats of cells and entries that show this list
pub record Kept (terms : Terms) (s : State (Unit {0}) SeatView) : Type 0 where
  pub words : length s.words ≡ word_count
  pub lengths : List ℕ
  pub list : CellList
  pub ties : Ties
  pub fits : Fits terms.limit terms.base (slice_index s.words size_at) lengths s.views
  pub logged : Logged terms.limit terms.base terms.mark.filled lengths list s.views
  pub tied : TiedBy terms.limit terms.base terms.mark.filled lengths list ties s.views
