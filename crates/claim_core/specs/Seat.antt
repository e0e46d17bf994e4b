-- What a word and a hand keep of their table and seat. Only proofs use it.
use Rattle.std.specs.Prelude.{◌≡◌, ℕ, ◌+◌, ◌<◌, ◌≤◌, nat_eq, List, [], ◌∷◌, length}
use Rattle.std.specs.List.{All, Contains, IsDistinct}
use mathlib.Core.List.{IsPrefix}
use Rattle.atomic_table.specs.Seated.{TableId}
use Rattle.atomic_table.specs.declared.shared.Seat.{Seat}
use Rattle.claim_core.specs.declared.seat_view.SeatView.{SeatView}
use Rattle.claim_core.specs.declared.terms.Terms.{Terms}
use Rattle.claim_core.specs.Lengths.{runs_end, times}
use Rattle.claim_core.specs.Rule.{word_count, size_at}
use Rattle.claim_core.specs.Shares.{all_shares}
use Rattle.claim_core.specs.Word.{WordView, AreBounds}
use Rattle.claim_core.specs.Hand.{HandView, SeesBegun, seen_size, own_places}
use Rattle.claim_core.specs.Lent.{lent_view, seat_hand}
use Rattle.claim_core.specs.History.{IsHistoryOf, lengths_of, size_event}
use Rattle.claim_core.specs.SeatView.{IsConsistent, Looks, joined_view, with_own}

-- what a hand steps with
abbrev pub ClaimSeat : Type 0
ClaimSeat = Seat (Unit {0}) SeatView

-- the table, its terms and the number of its invariant as callers see them
abbrev pub word_view : TableId → Terms → ℕ → WordView
word_view table terms floor =
    record {
      table = table;
      limit = terms.limit;
      base = terms.base;
      mark = terms.mark.numbers;
      filled = terms.mark.filled;
      floor = floor;
    }

-- the table has its words and no slot, and the desk is of this table. Its rule has these terms; only the numbers of the
-- mark may differ
pub record IsOpened (table : TableId) (key terms : Terms) (desk_table : TableId) (desk_key : Terms) : Type 0 where
  pub words : table.words ≡ word_count
  pub slots : table.slots ≡ 0
  pub key_limit : key.limit ≡ terms.limit
  pub key_base : key.base ≡ terms.base
  pub key_filled : key.mark.filled ≡ terms.mark.filled
  pub limit : AreBounds terms.limit terms.base
  pub desk_of : desk_table ≡ table
  pub desk_terms : desk_key ≡ key

-- the number that a hand's mark has
abbrev pub floor_in : List ℕ → ℕ
floor_in [] = 0
floor_in (n ∷ ns) = n

-- the seat as callers see it, in a hand that knows this number of its table's invariant
abbrev pub hand_view : ℕ → ClaimSeat → HandView
hand_view floor seat = seat_hand floor seat.table_id seat.me.0

-- a hand as callers see it, by its badge's table and views, its shares and the size that it has seen
abbrev pub hand_by : ℕ → TableId → List SeatView → ℕ → ℕ → HandView
hand_by floor table [] share size = lent_view floor share size
hand_by floor table (v ∷ vs) share size = seat_hand floor table v

-- the two numbers are those of the seat, which has a share
pub record IsHeld (seat : ClaimSeat) (share size : ℕ) : Type 0 where
  pub no_slot : seat.me.1 ≡ []
  pub shares : share ≡ seat.me.0.shares
  pub seen : size ≡ runs_end seat.me.0.base seat.me.0.seen
  pub positive : 0 < share
  pub consistent : IsConsistent seat.me.0

-- they are those of a view
pub record IsOf (v : SeatView) (share size : ℕ) : Type 0 where
  pub shares : share ≡ v.shares
  pub seen : size ≡ runs_end v.base v.seen
  pub consistent : IsConsistent v

-- a hand has some shares; and if its badge has a view, the two numbers are those of that one
pub record IsKept (views : List SeatView) (share size : ℕ) : Type 0 where
  pub positive : 0 < share
  pub most : share ≤ all_shares
  pub of : (v : SeatView) (vs : List SeatView) → views ≡ v ∷ vs → (vs ≡ []) × IsOf v share size

-- what every hand keeps, also while its seat is lent
pub record IsSound (hand : HandView) : Type 0 where
  pub positive : All (λ n. 0 < n) hand.seen
  pub within : seen_size hand ≤ hand.of.limit
  pub below : (k : ℕ) → Contains hand.mine k → k < length hand.seen
  pub once : (k : ℕ) → times k hand.mine ≤ 1
  pub distinct : IsDistinct nat_eq hand.mine
  pub places : hand.of.base + own_places hand ≤ seen_size hand
  pub some_shares : 0 < hand.shares
  pub not_more : hand.shares ≤ all_shares
  pub history : IsHistoryOf hand.of.limit hand.of.base hand.of.filled hand.log
  pub lengths : IsPrefix hand.seen (lengths_of hand.log)
  pub begun : SeesBegun hand

-- two seats of one table, with its terms, which both have shares
pub record IsPair (table : TableId) (key : Terms) (seat other : ClaimSeat) : Type 0 where
  pub words : size_at < table.words
  pub same : seat.table_id ≡ table
  pub other_same : other.table_id ≡ table
  pub no_slot : other.me.1 ≡ []
  pub limit : seat.me.0.limit ≡ key.limit
  pub base : seat.me.0.base ≡ key.base
  pub filled : seat.me.0.filled ≡ key.mark.filled
  pub part : 0 < seat.me.0.shares
  pub other_part : 0 < other.me.0.shares

-- two seats, while they were one, saw a list that ends at the size found. Each has the runs and shares that
-- it had
pub record SeesAsOne (old_seat old_other : ClaimSeat) (found : ℕ) (seat other : ClaimSeat) : Type 0 where
  pub both : SeatView
  pub looks : Looks (joined_view old_seat.me.0 old_other.me.0) found (size_event found ∷ []) both
  pub same : seat.table_id ≡ old_seat.table_id
  pub other_same : other.table_id ≡ old_seat.table_id
  pub me : seat.me ≡ (with_own both old_seat.me.0.mine old_seat.me.0.shares, old_seat.me.1)
  pub other_me : other.me ≡ (with_own both old_other.me.0.mine old_other.me.0.shares, [])
