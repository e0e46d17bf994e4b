-- What the rule permits: steps on cells and entries by a hand that knows enough.
use Rattle.std.proofs.Common.{◌≡◌, ◌≢◌, ℕ, ◌+◌, ◌-◌, ◌<◌, ◌≤◌, List, [], ◌∷◌, ◌++◌, length, map, set, get_or, Some, None, slice_get, refl, ap, sym, ◌∙◌, subst, ⊎_elim, arith, length-set}
use Rattle.std.specs.List.{Contains}
use mathlib.Core.Option.{some}
use lib.ListN.{get_elem?}
use Rattle.std.proofs.Math.Seq.{set_comm}
use Rattle.std.proofs.lemmas.List.{append-nil}
use Rattle.atomic_table.proofs.Lists.{at_longer, set_else, set_again}
use Rattle.claim_core.specs.declared.role.CellStage.{CellStage}
use Rattle.claim_core.specs.declared.role.CellStage.TheVariants as stages
use Rattle.claim_core.specs.declared.role.Role.{Role}
use Rattle.claim_core.specs.declared.role.Role.TheVariants as roles
use Rattle.claim_core.specs.declared.role.RowAt.{RowAt}
use Rattle.claim_core.specs.declared.seat_view.SeatView.{SeatView}
use Rattle.claim_core.specs.declared.terms.Terms.{Terms}
use Rattle.claim_core.specs.Lengths.{InRun}
use Rattle.claim_core.specs.History.{Log, fill_event, break_event, mend_event}
use Rattle.claim_core.specs.Shares.{all_shares}
use Rattle.claim_core.specs.SeatView.{spent_view, Remarks}
use Rattle.claim_core.specs.SeatSteps.{ClaimState, with_views, look_event, writer_of, try_event, MovesByLook, MovesByBegin, MovesByTry, MovesByFill, MovesByBreak, MovesByMend, SeesPlace, SeesIn, Begins, LearnsRow, LearnsEnd, IsStill, PermitsCell, PermitsEntry, PermitsTrade, PermitsBlock, PermitsMore, entry_roles, placed_roles}
use Rattle.claim_core.specs.Ties.{Ties, role_view, cell_view, first_stage, Matches, IsInRow, Finds, Knows, TiedBy}
use Rattle.claim_core.specs.Rule.{Fits, Logged, Kept, size_at}
use Rattle.claim_core.proofs.TiedViews.{at_below, two_seats, each_at, cell_is_no_hand, hand_is_no_block, hand_is_no_entry, entry_is_no_block, tie_hand}
use Rattle.claim_core.proofs.TiedRows.{finds_cases, seat_new, set_front, block_roles, block_seen, tie_block, with_row, with_entry, entry_here, placed_here, knows_published, tie_publish}
use Rattle.claim_core.proofs.TiedEntries.{with_both, others_spent, tie_enter, tie_adopt}
use Rattle.claim_core.proofs.RoleSeats.{fits_role, logged_role, fits_all, logged_all}
use Rattle.claim_core.proofs.Kept.{settled_in}
use Rattle.claim_core.proofs.HandMoves.{noted, Noted, moves_on, learns}
use Rattle.claim_core.proofs.CellEvents.{look_legal}
use Rattle.claim_core.proofs.CellSteps.{looks_at, fills, breaks_at, mends, misses, begins, finds_begun, not_begun, seen_below}

-- a step that has added events
abbrev pub Told : Terms → ClaimState → List SeatView → ℕ → (SeatView → Type 0) → Type 0
Told terms s vs id then = (w : SeatView) × Kept terms (with_views s (set vs id w)) × then w

told_remarks : (terms : Terms) (s : ClaimState) (vs : List SeatView) (id : ℕ) (v : SeatView) (es : Log)
    → Noted terms s vs id v es v.begun v.rows v.laid → Told terms s vs id (Remarks v es)
told_remarks terms s vs id v es step = (
  noted v step.log v.begun v.rows v.laid,
  step.kept,
  record {
    seen = refl;
    log = step.adds_events;
    alone = step.alone;
    same = record { limit = refl; base = refl; mark = refl; filled = refl; mine = refl; shares = refl; begun = refl; rows = refl; laid = refl };
    consistent = step.consistent;
  },
)

told_begins : (terms : Terms) (s : ClaimState) (vs : List SeatView) (id : ℕ) (v : SeatView) (place : ℕ)
    → Noted terms s vs id v [] (place ∷ v.begun) v.rows v.laid → Told terms s vs id (Begins v place)
told_begins terms s vs id v place step = (
  noted v step.log (place ∷ v.begun) v.rows v.laid,
  step.kept,
  record {
    seen = refl;
    log = step.adds_events;
    alone = λ whole. step.alone whole ∙ append-nil v.log;
    begun = refl;
    same = record { limit = refl; base = refl; mark = refl; filled = refl; mine = refl; shares = refl; begun = refl; rows = refl; laid = refl };
    consistent = step.consistent;
  },
)

told_row : (terms : Terms) (s : ClaimState) (vs : List SeatView) (id : ℕ) (v : SeatView) (row : RowAt)
    → Noted terms s vs id v [] v.begun (row ∷ v.rows) v.laid → Told terms s vs id (LearnsRow v row)
told_row terms s vs id v row step = (
  noted v step.log v.begun (row ∷ v.rows) v.laid,
  step.kept,
  record {
    seen = refl;
    log = step.adds_events;
    alone = λ whole. step.alone whole ∙ append-nil v.log;
    rows = refl;
    same = record { limit = refl; base = refl; mark = refl; filled = refl; mine = refl; shares = refl; begun = refl; rows = refl; laid = refl };
    consistent = step.consistent;
  },
)

told_end : (terms : Terms) (s : ClaimState) (vs : List SeatView) (id : ℕ) (v : SeatView) (laid : ℕ) → v.shares ≡ all_shares
    → Noted terms s vs id v [] v.begun v.rows laid → Told terms s vs id (LearnsEnd v laid)
told_end terms s vs id v laid whole step = (
  noted v step.log v.begun v.rows laid,
  step.kept,
  record {
    seen = refl;
    log = step.alone whole ∙ append-nil v.log;
    end = refl;
    same = record { limit = refl; base = refl; mark = refl; filled = refl; mine = refl; shares = refl; begun = refl; rows = refl; laid = refl };
    consistent = step.consistent;
  },
)

-- one other seat has moved, or two
told_seat : (terms : Terms) (s : ClaimState) (k : ℕ) (x : SeatView) (id : ℕ) (then : SeatView → Type 0) → k ≢ id
    → Told terms s (set s.views k x) id then → (w : SeatView) × Kept terms (with_views s (set (set s.views id w) k x)) × then w
told_seat terms s k x id then apart told =
    (told.0, subst (λ (l : List SeatView). Kept terms (with_views s l)) (set_comm s.views k id x (told.0) apart) (told.1), told.2)

told_trade : (terms : Terms) (s : ClaimState) (k : ℕ) (x : SeatView) (j : ℕ) (y : SeatView) (id : ℕ) (then : SeatView → Type 0)
    → k ≢ id → j ≢ id → Told terms s (set (set s.views k x) j y) id then
    → (w : SeatView) × Kept terms (with_views s (set (set (set s.views id w) k x) j y)) × then w
told_trade terms s k x j y id then apart other_apart told =
    let order : set (set (set s.views k x) j y) id (told.0) ≡ set (set (set s.views id (told.0)) k x) j y =
    set_comm (set s.views k x) j id y (told.0) other_apart
    ∙ ap (λ (l : List SeatView). set l j y) (set_comm s.views k id x (told.0) apart) in
    (told.0, subst (λ (l : List SeatView). Kept terms (with_views s l)) order (told.1), told.2)

-- seats were made behind the hand's
told_front : (terms : Terms) (s : ClaimState) (vs ms : List SeatView) (id : ℕ) (then : SeatView → Type 0) → id < length vs
    → Told terms s (vs ++ ms) id then → (w : SeatView) × Kept terms (with_views s (set vs id w ++ ms)) × then w
told_front terms s vs ms id then lt told =
    (told.0, subst (λ (l : List SeatView). Kept terms (with_views s l)) (set_front vs ms id (told.0) lt) (told.1), told.2)

-- a block and its cells are made
pub permits_laying : (terms : Terms) (n : ℕ) → PermitsBlock (Kept terms) n
permits_laying terms n s kept =
    let made = block_roles n (length s.views) in
    let laid : Kept terms (with_views s (s.views ++ map role_view made)) =
    record {
      words = kept.words;
      lengths = kept.lengths;
      list = kept.list;
      ties = kept.ties;
      fits = fits_all terms.limit terms.base (get_or s.words size_at 0) kept.lengths made s.views kept.fits;
      logged = logged_all terms.limit terms.base terms.mark.filled kept.lengths kept.list made s.views kept.logged;
      tied = tie_block terms.limit terms.base terms.mark.filled kept.lengths kept.list kept.ties n s.views kept.tied;
    } in
    subst (λ (l : List SeatView). Kept terms (with_views s l)) (block_seen s.views n (length s.views)) laid

module _
    (terms : Terms) (id : ℕ) (v : SeatView) (is_limit : v.limit ≡ terms.limit) (is_base : v.base ≡ terms.base)
    (is_filled : v.filled ≡ terms.mark.filled) (part : 0 < v.shares) where
  -- ---- Cells

  -- a cell's seat is not the hand's
  cell_apart : (s : ClaimState) (kept : Kept terms s) → get_elem? s.views id ≡ some v → (seat : ℕ) (a : CellStage)
      → get_elem? s.views seat ≡ some (cell_view a) → seat ≢ id
  cell_apart s kept at seat a cell =
      two_seats s.views seat id (cell_view a) v cell at (λ same. cell_is_no_hand a (same ∙ (kept.tied.each id v at).hand part))

  module _ (place seat : ℕ) (found : Finds v.rows place seat) where
    -- the seat is that of the place
    there : (s : ClaimState) (kept : Kept terms s) → get_elem? s.views id ≡ some v → kept.ties.seat_of place ≡ Some seat
    there s kept at = (kept.tied.each id v at).finds place seat found

    -- a look at a place that the hand has seen
    pub permits_look : SeesPlace v place
        → PermitsCell (Kept terms) id v seat MovesByLook (λ a b. Remarks v (look_event place a ∷ []))
    permits_look below a b moves s kept at cell =
        told_seat terms s seat (cell_view b) id (Remarks v (look_event place a ∷ [])) (cell_apart s kept at seat a cell)
        (subst (λ (c : CellStage). Told terms s (set s.views seat (cell_view c)) id (Remarks v (look_event place a ∷ []))) (sym moves)
        (told_remarks terms s (set s.views seat (cell_view a)) id v (look_event place a ∷ [])
        (looks_at terms s kept id v is_limit is_base is_filled part at place seat (there s kept at) a cell below)))

    -- a fill of a cell that one call has, in a run that the hand has seen
    pub permits_fill : (index : ℕ) → SeesIn v index place
        → PermitsCell (Kept terms) id v seat MovesByFill (λ a b. Remarks v (fill_event (writer_of terms.limit index place a) place ∷ []))
    permits_fill index known a b moves s kept at cell =
        let es : Log = fill_event (writer_of terms.limit index place a) place ∷ [] in
        told_seat terms s seat (cell_view b) id (Remarks v es) (cell_apart s kept at seat a cell)
        (subst (λ (c : CellStage). Told terms s (set s.views seat (cell_view c)) id (Remarks v es)) (sym (moves.1))
        (told_remarks terms s (set s.views seat (cell_view stages.Filled)) id v es
        (fills terms s kept id v is_limit is_base is_filled part at place seat (there s kept at) a cell (moves.0) index known)))

    -- a break of such a cell
    pub permits_break : (index : ℕ) → SeesIn v index place
        → PermitsCell (Kept terms) id v seat MovesByBreak (λ a b. Remarks v (break_event (writer_of terms.limit index place a) place ∷ []))
    permits_break index known a b moves s kept at cell =
        let es : Log = break_event (writer_of terms.limit index place a) place ∷ [] in
        told_seat terms s seat (cell_view b) id (Remarks v es) (cell_apart s kept at seat a cell)
        (subst (λ (c : CellStage). Told terms s (set s.views seat (cell_view c)) id (Remarks v es)) (sym (moves.1))
        (told_remarks terms s (set s.views seat (cell_view stages.Broken)) id v es
        (breaks_at terms s kept id v is_limit is_base is_filled part at place seat (there s kept at) a cell (moves.0) index known)))

    -- a broken cell that is taken for mending
    mends_broken : (s : ClaimState) (kept : Kept terms s) → get_elem? s.views id ≡ some v → (a : CellStage)
        → get_elem? s.views seat ≡ some (cell_view a) → a ≡ stages.Broken
        → Told terms s (set s.views seat (cell_view stages.Mending)) id (Remarks v (try_event terms.limit place a stages.Mending ∷ []))
    mends_broken s kept at a cell is_broken =
        subst (λ (x : CellStage). Told terms s (set s.views seat (cell_view stages.Mending)) id (Remarks v (try_event terms.limit place x stages.Mending ∷ []))) (sym is_broken)
        (told_remarks terms s (set s.views seat (cell_view stages.Mending)) id v (mend_event terms.limit place ∷ [])
        (mends terms s kept id v is_limit is_base is_filled part at place seat (there s kept at)
        (subst (λ (x : CellStage). get_elem? s.views seat ≡ some (cell_view x)) is_broken cell)))

    -- a try to mend a place that the hand has seen
    pub permits_mend : SeesPlace v place
        → PermitsCell (Kept terms) id v seat MovesByMend (λ a b. Remarks v (try_event terms.limit place a b ∷ []))
    permits_mend below a b moves s kept at cell =
        told_seat terms s seat (cell_view b) id (Remarks v (try_event terms.limit place a b ∷ [])) (cell_apart s kept at seat a cell)
        (⊎_elim
        (λ (c : (a ≡ stages.Broken) × (b ≡ stages.Mending)).
        subst (λ (y : CellStage). Told terms s (set s.views seat (cell_view y)) id (Remarks v (try_event terms.limit place a y ∷ []))) (sym (c.1))
        (mends_broken s kept at a cell (c.0)))
        (λ (c : b ≡ a).
        subst (λ (y : CellStage). Told terms s (set s.views seat (cell_view y)) id (Remarks v (try_event terms.limit place a y ∷ []))) (sym c)
        (told_remarks terms s (set s.views seat (cell_view a)) id v (try_event terms.limit place a a ∷ [])
        (misses terms s kept id v is_limit is_base is_filled part at place seat (there s kept at) a cell below)))
        moves)

    module _ (index : ℕ) (owned : Contains v.mine index) (in_run : InRun v.base v.seen index place) where
      -- a begin of an idle cell
      begins_idle : (s : ClaimState) (kept : Kept terms s) → get_elem? s.views id ≡ some v → (a b : CellStage)
          → get_elem? s.views seat ≡ some (cell_view a) → a ≡ stages.Idle → b ≡ stages.Begun
          → Told terms s (set s.views seat (cell_view b)) id (Begins v place)
      begins_idle s kept at a b cell is_idle is_begun =
          subst (λ (y : CellStage). Told terms s (set s.views seat (cell_view y)) id (Begins v place)) (sym is_begun)
          (told_begins terms s (set s.views seat (cell_view stages.Begun)) id v place
          (begins terms s kept id v is_limit is_base is_filled part at place seat (there s kept at) index owned in_run
          (subst (λ (x : CellStage). get_elem? s.views seat ≡ some (cell_view x)) is_idle cell)))

      -- a begin that changes no word, of a place of an own run that the hand does not know begun: the cell was idle
      pub permits_begin : (Contains v.begun place → ⊥)
          → PermitsCell (Kept terms) id v seat MovesByBegin (λ a b w. (a ≡ stages.Idle) × Begins v place w)
      permits_begin unknown a b moves s kept at cell =
          let idle : a ≡ stages.Idle =
          not_begun terms s kept id v is_limit is_base is_filled part at place seat (there s kept at) index owned in_run a cell unknown in
          let told =
          told_seat terms s seat (cell_view b) id (Begins v place) (cell_apart s kept at seat a cell) (begins_idle s kept at a b cell idle (moves.1)) in
          (told.0, told.1, (idle, told.2))

      -- a begin by an exchange, won or lost
      pub permits_try : PermitsCell (Kept terms) id v seat MovesByTry (λ a b. Begins v place)
      permits_try a b moves s kept at cell =
          told_seat terms s seat (cell_view b) id (Begins v place) (cell_apart s kept at seat a cell)
          (⊎_elim
          (λ (c : (a ≡ stages.Idle) × (b ≡ stages.Begun)). begins_idle s kept at a b cell (c.0) (c.1))
          (λ (c : (a ≢ stages.Idle) × (b ≡ a)).
          subst (λ (y : CellStage). Told terms s (set s.views seat (cell_view y)) id (Begins v place)) (sym (c.1))
          (told_begins terms s (set s.views seat (cell_view a)) id v place
          (finds_begun terms s kept id v is_limit is_base is_filled part at place seat (there s kept at) index owned in_run a cell (c.0))))
          moves)

  -- ---- Entries

  -- a look that finds no entry for a place that the hand has seen: it is pending
  pub permits_no_entry : (place seat from n : ℕ) → from ≤ place → place < from + n → SeesPlace v place
      → PermitsEntry (Kept terms) id v seat (roles.EmptyEntry from n) (Remarks v (look_event place stages.Idle ∷ []))
  permits_no_entry place seat from n low high below s kept at entry =
      let es : Log = look_event place stages.Idle ∷ [] in
      let is_empty = entry_here kept.ties s.views seat from n (kept.tied.each_role seat (role_view (roles.EmptyEntry from n)) entry) in
      let is : from + (place - from) ≡ place = omega arith in
      let idle : kept.ties.stage place ≡ stages.Idle = ap kept.ties.stage (sym is) ∙ is_empty.idle (place - from) (omega arith) in
      let matches = subst (Matches terms.limit terms.base kept.lengths place (slice_get kept.list.cells place)) idle (kept.tied.shown place) in
      told_remarks terms s s.views id v es
      (learns terms s kept id v is_limit is_base is_filled part at es refl
      (look_legal terms.limit terms.base kept.lengths kept.list place stages.Idle
      (seen_below terms s kept id v is_limit is_base is_filled part at place below) matches)
      v.begun v.rows v.laid
      (λ log.
      let knows = kept.tied.each id v at in
      record { finds = knows.finds; busy = knows.busy; within = knows.within; own = knows.own; unlaid = knows.unlaid; hand = knows.hand }))

  -- a look that finds no entry, and names no place
  pub permits_nothing : (seat from n : ℕ) → PermitsEntry (Kept terms) id v seat (roles.EmptyEntry from n) (Remarks v [])
  permits_nothing seat from n s kept at entry =
      told_remarks terms s s.views id v []
      (learns terms s kept id v is_limit is_base is_filled part at [] refl refl v.begun v.rows v.laid
      (λ log.
      let knows = kept.tied.each id v at in
      record { finds = knows.finds; busy = knows.busy; within = knows.within; own = knows.own; unlaid = knows.unlaid; hand = knows.hand }))

  -- a look that finds an entry: the hand then knows the row
  pub permits_row : (seat from n : ℕ)
      → PermitsEntry (Kept terms) id v seat (roles.Placed from n) (LearnsRow v (record { from = from; n = n; seat = seat - n }))
  permits_row seat from n s kept at entry =
      let row : RowAt = record { from = from; n = n; seat = seat - n } in
      let is_placed = placed_here kept.ties s.views seat from n (kept.tied.each_role seat (role_view (roles.Placed from n)) entry) in
      let ends = is_placed.ends in
      told_row terms s s.views id v row
      (learns terms s kept id v is_limit is_base is_filled part at [] refl refl
      v.begun (row ∷ v.rows) v.laid
      (λ log.
      let knows = kept.tied.each id v at in
      record {
        finds = λ place k found.
            ⊎_elim
            (λ (c : IsInRow row place k).
            let first : is_placed.first + c.i ≡ k = let e = c.in_seat in omega arith in
            ap kept.ties.seat_of c.at ∙ (is_placed.cells c.i c.less ∙ ap Some first))
            (λ (c : Finds v.rows place k). knows.finds place k c)
            (finds_cases row v.rows place k found);
        busy = knows.busy;
        within = knows.within;
        own = knows.own;
        unlaid = knows.unlaid;
        hand = knows.hand;
      }))

  -- what the hand's view is if it stays as it is
  pub still : (s : ClaimState) → Kept terms s → get_elem? s.views id ≡ some v → IsStill v v
  still s kept at =
      record {
        same = refl;
        consistent =
            settled_in terms (get_or s.words size_at 0) kept.lengths kept.list kept.ties s.views kept.fits kept.logged kept.tied id v at
            is_limit is_base is_filled;
      }

  -- the hand may stay as it is
  pub permits_still : (s : ClaimState) → Kept terms s → get_elem? s.views id ≡ some v → Told terms s s.views id (IsStill v)
  permits_still s kept at = (
    v,
    subst (λ (vs : List SeatView). Kept terms (with_views s vs)) (sym (set_again s.views id v at)) kept,
    still s kept at,
  )

  -- a block's entry is set, if it was not
  module _
      (entry seat from first n : ℕ) (s : ClaimState) (kept : Kept terms s) (at : get_elem? s.views id ≡ some v)
      (at_entry : get_elem? s.views entry ≡ some (role_view (roles.EmptyEntry from n)))
      (at_seat : get_elem? s.views seat ≡ some (role_view (roles.Block first n))) where
    -- the views of the entry and of the block after that
    abbrev published : List SeatView
    published = set (set s.views entry spent_view) seat (role_view (roles.Placed from n))

    is_hand : v.role ≡ roles.Hand
    is_hand = (kept.tied.each id v at).hand part

    no_entry : id ≢ entry
    no_entry = two_seats s.views id entry v (role_view (roles.EmptyEntry from n)) at at_entry (λ same. hand_is_no_entry from n (sym is_hand ∙ same))

    no_seat : id ≢ seat
    no_seat = two_seats s.views id seat v (role_view (roles.Block first n)) at at_seat (λ same. hand_is_no_block first n (sym is_hand ∙ same))

    block_at : get_elem? (set s.views entry spent_view) seat ≡ some (role_view (roles.Block first n))
    block_at =
        let apart =
        two_seats s.views entry seat (role_view (roles.EmptyEntry from n)) (role_view (roles.Block first n)) at_entry at_seat
        (λ same. entry_is_no_block from n first n same) in
        set_else s.views entry seat spent_view (λ e. apart (sym e)) ∙ at_seat

    hand_at : get_elem? published id ≡ some v
    hand_at =
        set_else (set s.views entry spent_view) seat id (role_view (roles.Placed from n)) no_seat
        ∙ (set_else s.views entry id spent_view no_entry ∙ at)

    fits_published : Fits terms.limit terms.base (get_or s.words size_at 0) kept.lengths published
    fits_published =
        fits_role terms.limit terms.base (get_or s.words size_at 0) kept.lengths (set s.views entry spent_view)
        (fits_role terms.limit terms.base (get_or s.words size_at 0) kept.lengths s.views kept.fits entry (roles.EmptyEntry from n) roles.Hand at_entry)
        seat (roles.Block first n) (roles.Placed from n) block_at

    logged_published : Logged terms.limit terms.base terms.mark.filled kept.lengths kept.list published
    logged_published =
        logged_role terms.limit terms.base terms.mark.filled kept.lengths kept.list (set s.views entry spent_view)
        (logged_role terms.limit terms.base terms.mark.filled kept.lengths kept.list s.views kept.logged entry (roles.EmptyEntry from n) roles.Hand at_entry)
        seat (roles.Block first n) (roles.Placed from n) block_at

    -- what the hand knew is true still
    still_known : Knows terms.base kept.lengths (with_row kept.ties from n first) v
    still_known =
        knows_published terms.limit terms.base terms.mark.filled kept.lengths kept.list kept.ties s.views kept.tied id v at is_hand entry seat from first n at_entry at_seat v v
        (kept.tied.each id v at)

    -- the hand has a view that knows what is true
    tied_published : (w : SeatView) → w.role ≡ roles.Hand → Knows terms.base kept.lengths (with_row kept.ties from n first) w
        → TiedBy terms.limit terms.base terms.mark.filled kept.lengths kept.list (with_row kept.ties from n first) (set published id w)
    tied_published w also_hand knows =
        tie_publish terms.limit terms.base terms.mark.filled kept.lengths kept.list kept.ties s.views kept.tied id v at is_hand entry seat from first n at_entry at_seat w
        also_hand knows

    -- it knows the row
    publish_row : Told terms s published id (LearnsRow v (record { from = from; n = n; seat = first }))
    publish_row =
        let row : RowAt = record { from = from; n = n; seat = first } in
        told_row terms s published id v row
        (moves_on terms s kept id v is_limit is_base is_filled part published fits_published logged_published hand_at [] refl kept.list refl v.begun (row ∷ v.rows) v.laid
        (with_row kept.ties from n first)
        (λ log.
        tied_published (noted v log v.begun (row ∷ v.rows) v.laid) is_hand
        (record {
          finds = λ place k found.
              ⊎_elim
              (λ (c : IsInRow row place k).
              ap (with_row kept.ties from n first).seat_of c.at ∙ (seat_new kept.ties from n first c.i c.less ∙ ap Some (sym c.in_seat)))
              (λ (c : Finds v.rows place k). still_known.finds place k c)
              (finds_cases row v.rows place k found);
          busy = still_known.busy;
          within = still_known.within;
          own = still_known.own;
          unlaid = still_known.unlaid;
          hand = still_known.hand;
        })))

    -- or it stays as it is
    publish_still : Told terms s published id (IsStill v)
    publish_still =
        let same = set_again published id v hand_at in
        let kept' : Kept terms (with_views s (set published id v)) =
        record {
          words = kept.words;
          lengths = kept.lengths;
          list = kept.list;
          ties = with_row kept.ties from n first;
          fits = subst (Fits terms.limit terms.base (get_or s.words size_at 0) kept.lengths) (sym same) fits_published;
          logged = subst (Logged terms.limit terms.base terms.mark.filled kept.lengths kept.list) (sym same) logged_published;
          tied = tied_published v is_hand still_known;
        } in
        (v, kept', still s kept at)

  -- the hand then knows the row
  pub permits_publish : (entry seat from first n : ℕ)
      → PermitsTrade (Kept terms) id v entry (role_view (roles.EmptyEntry from n)) spent_view seat (role_view (roles.Block first n))
      (role_view (roles.Placed from n)) (LearnsRow v (record { from = from; n = n; seat = first }))
  permits_publish entry seat from first n s kept at at_entry at_seat =
      told_trade terms s entry spent_view seat (role_view (roles.Placed from n)) id (LearnsRow v (record { from = from; n = n; seat = first }))
      (λ e. no_entry entry seat from first n s kept at at_entry at_seat (sym e))
      (λ e. no_seat entry seat from first n s kept at at_entry at_seat (sym e))
      (publish_row entry seat from first n s kept at at_entry at_seat)

  -- the same, if the hand learns nothing
  pub permits_unseen : (entry seat from first n : ℕ)
      → PermitsTrade (Kept terms) id v entry (role_view (roles.EmptyEntry from n)) spent_view seat (role_view (roles.Block first n))
      (role_view (roles.Placed from n)) (IsStill v)
  permits_unseen entry seat from first n s kept at at_entry at_seat =
      told_trade terms s entry spent_view seat (role_view (roles.Placed from n)) id (IsStill v)
      (λ e. no_entry entry seat from first n s kept at at_entry at_seat (sym e))
      (λ e. no_seat entry seat from first n s kept at at_entry at_seat (sym e))
      (publish_still entry seat from first n s kept at at_entry at_seat)

  -- ---- Seats that are made

  -- Seats are made beside a hand that adds no events, and may know another end of the entries
  makes : (s : ClaimState) (kept : Kept terms s) (at : get_elem? s.views id ≡ some v) (made : List Role) (laid : ℕ) (ties' : Ties)
      → ((log : Log) → TiedBy terms.limit terms.base terms.mark.filled kept.lengths kept.list ties'
      (set s.views id (noted v log v.begun v.rows laid) ++ map role_view made))
      → Noted terms s (s.views ++ map role_view made) id v [] v.begun v.rows laid
  makes s kept at made laid ties' tied =
      let ms = map role_view made in
      moves_on terms s kept id v is_limit is_base is_filled part (s.views ++ ms)
      (fits_all terms.limit terms.base (get_or s.words size_at 0) kept.lengths made s.views kept.fits)
      (logged_all terms.limit terms.base terms.mark.filled kept.lengths kept.list made s.views kept.logged)
      (at_longer s.views ms id v at) [] refl kept.list refl v.begun v.rows laid ties'
      (λ log.
      subst (TiedBy terms.limit terms.base terms.mark.filled kept.lengths kept.list ties')
      (sym (set_front s.views ms id (noted v log v.begun v.rows laid) (at_below s.views id v at)))
      (tied log))

  -- the hand with another end of the entries, past the one that it knew
  tied_hand : (s : ClaimState) (kept : Kept terms s) (at : get_elem? s.views id ≡ some v) (laid : ℕ) → v.laid ≤ laid → (log : Log)
      → TiedBy terms.limit terms.base terms.mark.filled kept.lengths kept.list kept.ties (set s.views id (noted v log v.begun v.rows laid))
  tied_hand s kept at laid more log =
      let knows = kept.tied.each id v at in
      let hand : v.role ≡ roles.Hand = knows.hand part in
      tie_hand terms.limit terms.base terms.mark.filled kept.lengths kept.list kept.ties s.views kept.tied id v at hand
      (noted v log v.begun v.rows laid) hand
      (record {
        finds = knows.finds;
        busy = knows.busy;
        within = knows.within;
        own = knows.own;
        unlaid = λ some_part place later. knows.unlaid some_part place (omega arith);
        hand = knows.hand;
      })

  module _ (whole : v.shares ≡ all_shares) (from n : ℕ) (unlaid : v.laid ≤ from) where
    -- no other seat has shares
    only : (s : ClaimState) (kept : Kept terms s) (at : get_elem? s.views id ≡ some v) (w : SeatView) → w.laid ≡ from + n
        → (j : ℕ) (u : SeatView) → get_elem? (set s.views id w) j ≡ some u → 0 < u.shares → from + n ≤ u.laid
    only s kept at w is =
        each_at (λ _ u. 0 < u.shares → from + n ≤ u.laid) s.views id w (λ _. omega (arith, is))
        (λ j u apart here some_part.
        let none = others_spent terms.limit terms.base (get_or s.words size_at 0) kept.lengths s.views kept.fits id j v u at here apart whole in
        absurd (omega arith))

    -- no place there has an entry
    free : (s : ClaimState) (kept : Kept terms s) (at : get_elem? s.views id ≡ some v) (i : ℕ) → i < n
        → kept.ties.entry_of (from + i) ≡ None
    free s kept at i less = (kept.tied.each id v at).unlaid part (from + i) (omega arith)

    -- an entry is made that is not set, past the places that the word began with
    pub permits_entry : v.base ≤ from → PermitsMore (Kept terms) id v (entry_roles from n) (LearnsEnd v (from + n))
    permits_entry past s kept at =
        let made = entry_roles from n (length s.views) in
        told_front terms s s.views (map role_view made) id (LearnsEnd v (from + n)) (at_below s.views id v at)
        (told_end terms s (s.views ++ map role_view made) id v (from + n) whole
        (makes s kept at made (from + n) (with_entry kept.ties from n (length s.views))
        (λ log.
        let w = noted v log v.begun v.rows (from + n) in
        subst (λ (k : ℕ). TiedBy terms.limit terms.base terms.mark.filled kept.lengths kept.list (with_entry kept.ties from n k) (set s.views id w ++ map role_view (entry_roles from n k)))
        (length-set s.views id w)
        (tie_enter terms.limit terms.base terms.mark.filled kept.lengths kept.list kept.ties (set s.views id w)
        (tied_hand s kept at (from + n) (omega arith) log) from n (free s kept at) (only s kept at w refl) (let e = is_base in omega arith)))))

    -- an entry is made that is set to a block, whose cells are as the word was opened
    pub permits_adoption : PermitsMore (Kept terms) id v (placed_roles (first_stage terms.base terms.mark.filled) from n) (LearnsEnd v (from + n))
    permits_adoption s kept at =
        let stage = first_stage terms.base terms.mark.filled in
        let made = placed_roles stage from n (length s.views) in
        told_front terms s s.views (map role_view made) id (LearnsEnd v (from + n)) (at_below s.views id v at)
        (told_end terms s (s.views ++ map role_view made) id v (from + n) whole
        (makes s kept at made (from + n) (with_both kept.ties from n (length s.views))
        (λ log.
        let w = noted v log v.begun v.rows (from + n) in
        let tied = tied_hand s kept at (from + n) (omega arith) log in
        let opened : (i : ℕ) → i < n → kept.ties.stage (from + i) ≡ stage (from + i) =
        λ i less. kept.tied.bare (from + i) (kept.tied.entered (from + i) (free s kept at i less)) in
        subst (λ (k : ℕ). TiedBy terms.limit terms.base terms.mark.filled kept.lengths kept.list (with_both kept.ties from n k) (set s.views id w ++ map role_view (placed_roles stage from n k)))
        (length-set s.views id w)
        (tie_adopt terms.limit terms.base terms.mark.filled kept.lengths kept.list kept.ties (set s.views id w) tied from n (free s kept at) (only s kept at w refl) stage opened))))
