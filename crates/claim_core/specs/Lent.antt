-- A hand that has lent its seat, and the hand that a seat makes.
use Rattle.std.specs.Prelude.{ℕ, []}
use Rattle.atomic_table.specs.Seated.{TableId}
use Rattle.claim_core.specs.declared.seat_view.SeatView.{SeatView}
use Rattle.claim_core.specs.Hand.{HandView, seen_size}

-- no word has this table
abbrev pub no_table : TableId
no_table = record { words = 0; slots = 0; views_name = 0; atom = 0; block = 0; offset = 0; slot_names = [] }

-- a hand of no word, with these shares, which has seen this size
abbrev pub lent_view : ℕ → ℕ → ℕ → HandView
lent_view floor share size =
    record {
      of = record { table = no_table; limit = size; base = size; mark = []; filled = []; floor = floor };
      seen = [];
      mine = [];
      shares = share;
      log = [];
      begun = [];
      rows = [];
      laid = 0;
    }

-- The hand while its seat is lent. It keeps its shares and the size that it has seen, and is a hand of no word, so
-- that no call of a word takes it until it has its seat back
abbrev pub lent_hand : HandView → HandView
lent_hand hand = lent_view hand.of.floor hand.shares (seen_size hand)

-- the hand whose seat is one of this table, and has this view
abbrev pub seat_hand : ℕ → TableId → SeatView → HandView
seat_hand floor table v =
    record {
      of = record { table = table; limit = v.limit; base = v.base; mark = v.mark; filled = v.filled; floor = floor };
      seen = v.seen;
      mine = v.mine;
      shares = v.shares;
      log = v.log;
      begun = v.begun;
      rows = v.rows;
      laid = v.laid;
    }
