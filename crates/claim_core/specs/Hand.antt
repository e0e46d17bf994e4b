-- A hand as callers see it, and what one call does to it.
use Rattle.std.specs.Prelude.{◌≡◌, ℕ, ◌+◌, ◌<◌, ◌≤◌, ◌==◌, ◌&&◌, nat_lt, Bool, IsTrue, List, [], ◌∷◌, ◌++◌, length, slice_index}
use Rattle.std.specs.List.{Contains, list_any}
use base.Stored.{Coded, coded×, coded_ℕ, coded_list, coded_via}
use mathlib.Core.List.{IsPrefix}
use Rattle.claim_core.specs.declared.role.RowAt.{RowAt}
use Rattle.claim_core.specs.contracts.role.RowAt as row_at
use Rattle.claim_core.specs.declared.run.Run.{Run}
use Rattle.claim_core.specs.Lengths.{InRun, run_start, runs_end, places_in}
use Rattle.claim_core.specs.Shares.{all_shares}
use Rattle.claim_core.specs.Word.{WordView, word_coded}
use Rattle.claim_core.specs.History.{Log, log_coded, AddsEvents, claim_event, raise_event}

-- The word that it belongs to, the lengths of all runs that it has seen, the indices of its own runs among
-- them, its shares, and the history that it has seen; places that it knows are begun, rows of cells that it knows,
-- and a place from which on no place has an entry
pub record HandView : Type 0 where
  pub of : WordView
  pub seen : List ℕ
  pub mine : List ℕ
  pub shares : ℕ
  pub log : Log
  pub begun : List ℕ
  pub rows : List RowAt
  pub laid : ℕ

-- how that is stored
abbrev pub hand_coded : Coded HandView
hand_coded =
    coded_via
    (coded× word_coded (coded× (coded_list coded_ℕ) (coded× (coded_list coded_ℕ) (coded× coded_ℕ (coded× log_coded
    (coded× (coded_list coded_ℕ) (coded× (coded_list row_at.the_row.coded) coded_ℕ)))))))
    (λ (h : HandView). (h.of, (h.seen, (h.mine, (h.shares, (h.log, (h.begun, (h.rows, h.laid))))))))
    (λ x y e i. record {
      of = (e i).0;
      seen = (e i).1.0;
      mine = (e i).1.1.0;
      shares = (e i).1.1.1.0;
      log = (e i).1.1.1.1.0;
      begun = (e i).1.1.1.1.1.0;
      rows = (e i).1.1.1.1.1.1.0;
      laid = (e i).1.1.1.1.1.1.1;
    })

-- the size that the hand has seen
abbrev pub seen_size : HandView → ℕ
seen_size hand = runs_end hand.of.base hand.seen

-- how many places the hand's own runs have together
abbrev pub own_places : HandView → ℕ
own_places hand = places_in hand.seen hand.mine

-- the hand belongs to the word
abbrev pub IsHandOf : WordView → HandView → Type 0
IsHandOf word hand = hand.of ≡ word

-- the hand has all shares
abbrev pub IsWholeHand : HandView → Type 0
IsWholeHand hand = hand.shares ≡ all_shares

-- the word's first hand has all shares, and has seen nothing; entries may have been made since the word was opened
abbrev pub IsNewHand : WordView → HandView → Type 0
IsNewHand word hand =
    hand
    ≡ record { of = word; seen = []; mine = []; shares = all_shares; log = []; begun = []; rows = []; laid = hand.laid }

-- the hand's word, indices and shares are as before
pub record KeepsOwn (old new : HandView) : Type 0 where
  pub of : new.of ≡ old.of
  pub mine : new.mine ≡ old.mine
  pub shares : new.shares ≡ old.shares

-- what the hand knows of cells and entries is as before
pub record KeepsCells (old new : HandView) : Type 0 where
  pub begun : new.begun ≡ old.begun
  pub rows : new.rows ≡ old.rows
  pub laid : new.laid ≡ old.laid

-- the hand knows of cells and entries what either of two knew, and where entries end as the first knew it
pub record KnowsBoth (a b new : HandView) : Type 0 where
  pub begun : new.begun ≡ a.begun ++ b.begun
  pub rows : new.rows ≡ a.rows ++ b.rows
  pub laid : new.laid ≡ a.laid

-- the places that the hand knows begun are below the size that it has seen
abbrev pub SeesBegun : HandView → Type 0
SeesBegun hand = (place : ℕ) → Contains hand.begun place → place < seen_size hand

-- the hand has one more run. It begins where the runs before it end, all that the hand had seen is a prefix
-- of them, and the size that the hand has seen is then where the run ends
pub record AddsRun (old new : HandView) (run : Run) : Type 0 where
  pub between : List ℕ
  pub begins : run.from ≡ runs_end old.of.base (old.seen ++ between)
  pub positive : 0 < run.n
  pub within : run.from + run.n ≤ old.of.limit
  pub seen : new.seen ≡ (old.seen ++ between) ++ run.n ∷ []
  pub ends : seen_size new ≡ run.from + run.n
  pub mine : new.mine ≡ length (old.seen ++ between) ∷ old.mine
  pub shares : new.shares ≡ old.shares
  pub of : new.of ≡ old.of

-- the run, which the hand has added, is claimed in the history that it has then seen, by the actor of its index
pub record LogsRun (old new : HandView) (run : Run) : Type 0 where
  pub index : ℕ
  pub last : length new.seen ≡ index + 1
  pub adds : AddsEvents old.log (claim_event index run ∷ []) new.log

-- it is claimed so by a growth up to a size
pub record LogsRaise (old new : HandView) (to : ℕ) (run : Run) : Type 0 where
  pub index : ℕ
  pub last : length new.seen ≡ index + 1
  pub adds : AddsEvents old.log (raise_event index to run ∷ []) new.log

-- the hand has seen this size, and nothing else of it has changed
pub record SeesSize (old new : HandView) (size : ℕ) : Type 0 where
  pub seen : IsPrefix old.seen new.seen
  pub ends : seen_size new ≡ size
  pub within : size ≤ old.of.limit
  pub own : KeepsOwn old new

-- no run is owned by both
abbrev pub OwnApart : HandView → HandView → Type 0
OwnApart a b = (k : ℕ) → Contains a.mine k → Contains b.mine k → ⊥

-- the run is the one of this index among those that the hand has seen
pub record SeesRun (hand : HandView) (index : ℕ) (run : Run) : Type 0 where
  pub there : index < length hand.seen
  pub from : run.from ≡ run_start hand.of.base hand.seen index
  pub n : run.n ≡ slice_index hand.seen index

-- the hand has seen the run
abbrev pub HasSeen : HandView → Run → Type 0
HasSeen hand run = (index : ℕ) × SeesRun hand index run

-- the hand has seen the run, and owns it
abbrev pub OwnsRun : HandView → Run → Type 0
OwnsRun hand run = (index : ℕ) × Contains hand.mine index × SeesRun hand index run

-- whether the run is the one of this index among those that the hand has seen
abbrev pub is_run_at : HandView → Run → ℕ → Bool
is_run_at hand run index =
    nat_lt index (length hand.seen)
    && ((run.from == run_start hand.of.base hand.seen index) && (run.n == slice_index hand.seen index))

-- the hand owns the run, said without its index, so that a ghost field can hold it
abbrev pub IsOwnRun : HandView → Run → Type 0
IsOwnRun hand run = IsTrue (list_any (λ index. is_run_at hand run index) hand.mine)

-- the run of one place
abbrev pub single : ℕ → Run
single place = record { from = place; n = 1 }

-- the place lies in a run that the hand owns
abbrev pub OwnsPlace : HandView → ℕ → Type 0
OwnsPlace hand place = (index : ℕ) × Contains hand.mine index × InRun hand.of.base hand.seen index place

-- the hand has seen each run that it owns
abbrev pub SeesOwn : HandView → Type 0
SeesOwn hand = (index : ℕ) → Contains hand.mine index → index < length hand.seen

-- the run has the last index of all that the hand has seen. That index is new to the hand, and is its own
pub record GainsRun (old new : HandView) (index : ℕ) (run : Run) : Type 0 where
  pub last : length new.seen ≡ index + 1
  pub later : length old.seen ≤ index
  pub mine : new.mine ≡ index ∷ old.mine
  pub seen : IsPrefix old.seen new.seen
  pub sees : SeesRun new index run

-- the place is one of the run
abbrev pub IsPlaceOf : Run → ℕ → Type 0
IsPlaceOf run place = (run.from ≤ place) × (place < run.from + run.n)

-- no place is in both runs
abbrev pub AreDisjoint : Run → Run → Type 0
AreDisjoint a b =
    (place : ℕ) → a.from ≤ place → place < a.from + a.n → b.from ≤ place → place < b.from + b.n → ⊥
