-- What one step shows the seat that makes it. Only proofs use it.
use Rattle.std.specs.Prelude.{◌≡◌, ℕ, ◌+◌, ◌-◌, ◌<◌, ◌≤◌, ◌==◌, nat_lt, nat_le, if◌then◌else◌, List, [], ◌∷◌, ◌++◌, length, MatchBool}
use Rattle.std.specs.List.{All, Contains}
use mathlib.Core.List.{IsPrefix}
use Rattle.atomic_table.specs.Table.{Me, Step}
use Rattle.claim_core.specs.declared.seat_view.SeatView.{SeatView}
use Rattle.claim_core.specs.declared.role.Role.TheVariants.{Hand}
use Rattle.claim_core.specs.declared.terms.Terms.{Terms}
use Rattle.book_core.specs.declared.events.Event.{Event}
use Rattle.book_core.specs.declared.events.Reply.{Reply}
use Rattle.claim_core.specs.History.{Log, lengths_of, IsHistoryOf, AddsEvents, claim_event, raise_event, enough_event, size_event, memory_event}
use Rattle.claim_core.specs.Lengths.{runs_end, times, once_below}
use Rattle.claim_core.specs.Shares.{all_shares}

-- the first seat has all shares, and has seen nothing
abbrev pub first_view : Terms → SeatView
first_view terms =
    record {
      limit = terms.limit;
      base = terms.base;
      mark = terms.mark.numbers;
      filled = terms.mark.filled;
      seen = [];
      mine = [];
      shares = all_shares;
      one = [];
      other = [];
      log = [];
      one_log = [];
      other_log = [];
      role = Hand;
      begun = [];
      rows = [];
      laid = 0;
    }

-- a seat that was joined to another has nothing left
abbrev pub spent_view : SeatView
spent_view =
    record {
      limit = 0;
      base = 0;
      mark = [];
      filled = [];
      seen = [];
      mine = [];
      shares = 0;
      one = [];
      other = [];
      log = [];
      one_log = [];
      other_log = [];
      role = Hand;
      begun = [];
      rows = [];
      laid = 0;
    }

-- the longer of two lists, and the first if both have one length
abbrev pub longer : {A : Type 0} → List A → List A → List A
longer xs ys = if nat_le (length ys) (length xs) then xs else ys

-- two views as one. It keeps both lists that were seen, and both histories, until a load shows that both are prefixes
-- of the longer. It knows what either knew
abbrev pub joined_view : SeatView → SeatView → SeatView
joined_view v w =
    record {
      limit = v.limit;
      base = v.base;
      mark = v.mark;
      filled = v.filled;
      seen = longer v.seen w.seen;
      mine = v.mine ++ w.mine;
      shares = v.shares + w.shares;
      one = v.seen;
      other = w.seen;
      log = longer v.log w.log;
      one_log = v.log;
      other_log = w.log;
      role = v.role;
      begun = v.begun ++ w.begun;
      rows = v.rows ++ w.rows;
      laid = v.laid;
    }

-- a view with these runs and shares
abbrev pub with_own : SeatView → List ℕ → ℕ → SeatView
with_own v mine shares =
    record {
      limit = v.limit;
      base = v.base;
      mark = v.mark;
      filled = v.filled;
      seen = v.seen;
      mine = mine;
      shares = shares;
      one = [];
      other = [];
      log = v.log;
      one_log = [];
      other_log = [];
      role = v.role;
      begun = v.begun;
      rows = v.rows;
      laid = v.laid;
    }

-- what a seat keeps that no join has left unsettled
pub record IsConsistent (v : SeatView) : Type 0 where
  pub positive : All (λ n. 0 < n) v.seen
  pub within : runs_end v.base v.seen ≤ v.limit
  pub shares : v.shares ≤ all_shares
  pub own : (k : ℕ) → times k v.mine ≤ once_below k (length v.seen)
  pub whole : v.shares ≡ all_shares → (k : ℕ) → times k v.mine ≡ once_below k (length v.seen)
  pub history : IsHistoryOf v.limit v.base v.filled v.log
  pub lengths : IsPrefix v.seen (lengths_of v.log)
  pub whole_log : v.shares ≡ all_shares → lengths_of v.log ≡ v.seen
  pub begun : (place : ℕ) → Contains v.begun place → place < runs_end v.base v.seen

-- the seat's word, runs and shares stay, and what it knows of cells
pub record SameOwn (v w : SeatView) : Type 0 where
  pub limit : w.limit ≡ v.limit
  pub base : w.base ≡ v.base
  pub mark : w.mark ≡ v.mark
  pub filled : w.filled ≡ v.filled
  pub mine : w.mine ≡ v.mine
  pub shares : w.shares ≡ v.shares
  pub begun : w.begun ≡ v.begun
  pub rows : w.rows ≡ v.rows
  pub laid : w.laid ≡ v.laid

-- the seat has seen the list of all lengths, which ends at the size that was found, and added these events to the
-- history
pub record Looks (v : SeatView) (found : ℕ) (es : Log) (w : SeatView) : Type 0 where
  pub size : runs_end w.base w.seen ≡ found
  pub seen : IsPrefix v.seen w.seen
  pub one : IsPrefix v.one w.seen
  pub other : IsPrefix v.other w.seen
  pub log : AddsEvents v.log es w.log
  pub one_log : IsPrefix v.one_log w.log
  pub other_log : IsPrefix v.other_log w.log
  pub same : SameOwn v w
  pub consistent : IsConsistent w

-- the seat has seen the list of all lengths, and added a run of n places to it, which is its own; and the event of
-- its index to the history
pub record Claims (v : SeatView) (found n : ℕ) (event : ℕ → Event × Reply) (w : SeatView) : Type 0 where
  pub between : List ℕ
  pub size : runs_end w.base (v.seen ++ between) ≡ found
  pub seen : w.seen ≡ (v.seen ++ between) ++ n ∷ []
  pub mine : w.mine ≡ length (v.seen ++ between) ∷ v.mine
  pub log : AddsEvents v.log (event (length (v.seen ++ between)) ∷ []) w.log
  pub same : SameOwn v (record w { mine = v.mine })
  pub consistent : IsConsistent w

-- the two lists and histories of a join are prefixes of what the seat has seen; nothing else is learned
pub record Settles (v w : SeatView) : Type 0 where
  pub one : IsPrefix v.one v.seen
  pub other : IsPrefix v.other v.seen
  pub seen : w.seen ≡ v.seen
  pub one_log : IsPrefix v.one_log v.log
  pub other_log : IsPrefix v.other_log v.log
  pub log : w.log ≡ v.log
  pub same : SameOwn v w
  pub consistent : IsConsistent w

-- the seat has added these events to the history; nothing else is learned. If it has all shares, nobody else adds any
pub record Remarks (v : SeatView) (es : Log) (w : SeatView) : Type 0 where
  pub seen : w.seen ≡ v.seen
  pub log : AddsEvents v.log es w.log
  pub alone : v.shares ≡ all_shares → w.log ≡ v.log ++ es
  pub same : SameOwn v w
  pub consistent : IsConsistent w

-- the same seat, of a word with these numbers in its mark
abbrev pub marked : List ℕ → SeatView → SeatView
marked numbers v = record v { mark = numbers }

-- what a step learns of its seat
abbrev pub Seated : Type 0
Seated = Me (Unit {0}) SeatView

-- a load
abbrev pub loaded : Step (Unit {0}) → Seated → ℕ → Seated → Type 0
loaded step v found w = Looks v.0 found (size_event found ∷ []) w.0 × (w.1 ≡ v.1)

-- a load that logs a note's events of the size that it finds
abbrev pub loaded_as : (ℕ → Log) → Step (Unit {0}) → Seated → ℕ → Seated → Type 0
loaded_as note step v found w = Looks v.0 found (note found) w.0 × (w.1 ≡ v.1)

-- a load that logs a growth without memory
abbrev pub lacked : Step (Unit {0}) → Seated → ℕ → Seated → Type 0
lacked step v found w = Remarks v.0 (memory_event ∷ []) w.0 × (w.1 ≡ v.1)

-- a load that sets the numbers of the mark
abbrev pub marked_as : List ℕ → Step (Unit {0}) → Seated → ℕ → Seated → Type 0
marked_as numbers step v found w = (w.0 ≡ marked numbers v.0) × (w.1 ≡ v.1)

-- the load that ends a join
abbrev pub settled : Step (Unit {0}) → Seated → ℕ → Seated → Type 0
settled step v found w = Settles v.0 w.0 × (w.1 ≡ v.1)

-- an exchange: it wins if it finds what it expected, and otherwise logs a note's events of the size that it finds
abbrev pub exchanged_as : (ℕ → Log) → Step (Unit {0}) → Seated → ℕ → Seated → Type 0
exchanged_as note step v found w =
    MatchBool (found == step.first)
    (Claims v.0 found (step.second - step.first)
    (λ index. claim_event index (record { from = found; n = step.second - step.first })) w.0)
    (Looks v.0 found (note found) w.0)
    × (w.1 ≡ v.1)

-- a greatest-value step: it grows the size if it finds less
abbrev pub raised : Step (Unit {0}) → Seated → ℕ → Seated → Type 0
raised step v found w =
    MatchBool (nat_lt found step.first)
    (Claims v.0 found (step.first - found)
    (λ index. raise_event index step.first (record { from = found; n = step.first - found })) w.0)
    (Looks v.0 found (enough_event step.first found ∷ []) w.0)
    × (w.1 ≡ v.1)
