-- Each kind of step on a cell keeps the rule, and logs its event.
use Rattle.std.proofs.Common.{◌≡◌, ◌≢◌, ◌⊎◌, ℕ, zero, suc, ◌<◌, List, [], ◌∷◌, length, get_or, set, Option, Some, None, slice_get, refl, sym, ◌∙◌, subst, inl, inr, ⊎_elim, arith}
use Rattle.std.specs.List.{Contains}
use Rattle.std.proofs.lemmas.Bool.{cases_eq}
use Rattle.std.proofs.lemmas.Map.Made.{Contains-tail}
use mathlib.Core.Option.{some}
use lib.ListN.{get_elem?}
use Rattle.atomic_table.proofs.Lists.{set_else}
use Rattle.book_core.specs.declared.cells.Cell.{Cell}
use Rattle.book_core.specs.declared.cells.Cell.TheVariants.{Pending}
use Rattle.book_core.specs.Cells.{CellList, with_cell}
use Rattle.book_core.specs.History.{IsHistory}
use Rattle.book_core.proofs.Lists.{get_other, get_set}
use Rattle.claim_core.specs.declared.role.CellStage.{CellStage}
use Rattle.claim_core.specs.declared.role.CellStage.TheVariants as stages
use Rattle.claim_core.specs.declared.role.Role.TheVariants as roles
use Rattle.claim_core.specs.declared.seat_view.SeatView.{SeatView}
use Rattle.claim_core.specs.declared.terms.Terms.{Terms}
use Rattle.claim_core.specs.Lengths.{runs_end, InRun, times}
use Rattle.claim_core.specs.History.{Log, claims_in, value_cell, broken_cell, mender_of, fill_event, break_event, mend_event}
use Rattle.claim_core.specs.SeatView.{spent_view}
use Rattle.claim_core.specs.SeatSteps.{ClaimState, look_event, writer_of, try_event, IsHeldAt, SeesIn}
use Rattle.claim_core.specs.Ties.{Ties, cell_view, Matches, Knows}
use Rattle.claim_core.specs.Rule.{Fits, Kept, size_at}
use Rattle.claim_core.proofs.Prefixes.{prefix_sum}
use Rattle.claim_core.proofs.Counts.{times-from_Contains, total-set, member_le}
use Rattle.claim_core.proofs.Tiles.{run_apart, run_stays, run_within}
use Rattle.claim_core.proofs.TiedViews.{seat_apart, seat_shows, with_stage, stage_cases, stage_here, knows_moved, tie_cell}
use Rattle.claim_core.proofs.RoleSeats.{fits_role, logged_role}
use Rattle.claim_core.proofs.HandMoves.{noted, Noted, list_long, moves_on, leaves}
use Rattle.claim_core.proofs.CellEvents.{idle_or_not, begun_is_busy, mending_is_busy, filled_is_busy, broken_is_busy, held_is_busy, try_leaves, idle_owed, look_legal, pending_for, fill_legal, break_legal, mend_legal}

-- ---- Lists of numbers

Contains-first : (x : ℕ) (xs : List ℕ) → Contains (x ∷ xs) x
Contains-first x xs = (zero, omega arith, refl)

Contains-later : (x y : ℕ) (xs : List ℕ) → Contains xs y → Contains (x ∷ xs) y
Contains-later x y xs there = (suc (there.0), (let lt = there.1 in omega arith), there.2)

-- ---- Owners

-- no two seats own one run
pub owners_differ : (limit base size : ℕ) (lengths : List ℕ) (vs : List SeatView) → Fits limit base size lengths vs
    → (id j index : ℕ) (v u : SeatView) → get_elem? vs id ≡ some v → get_elem? vs j ≡ some u → j ≢ id
    → Contains v.mine index → Contains u.mine index → ⊥
owners_differ limit base size lengths vs fits id j index v u at there apart mine theirs =
    let owned : SeatView → ℕ = λ x. times index x.mine in
    let t = total-set owned vs id v spent_view at in
    let m = member_le owned (set vs id spent_view) j u (set_else vs id j spent_view apart ∙ there) in
    let o = fits.owned index in
    let x = times-from_Contains v.mine index mine in
    let y = times-from_Contains u.mine index theirs in
    omega arith

-- a place of a run is below the end of all runs
pub in_run_below : (base : ℕ) (lengths : List ℕ) (index place : ℕ) → InRun base lengths index place
    → place < runs_end base lengths
in_run_below base lengths index place in_run =
    let within = run_within lengths index in_run.there in
    let before = in_run.before in
    omega arith

-- ---- Steps

module _
    (terms : Terms) (s : ClaimState) (kept : Kept terms s) (id : ℕ) (v : SeatView) (is_limit : v.limit ≡ terms.limit)
    (is_base : v.base ≡ terms.base) (is_filled : v.filled ≡ terms.mark.filled) (part : 0 < v.shares)
    (at : get_elem? s.views id ≡ some v) where
  -- the hand knows what it knew
  knows_still : (log : Log) → Knows terms.base kept.lengths kept.ties (noted v log v.begun v.rows v.laid)
  knows_still log =
      let knows = kept.tied.each id v at in
      record { finds = knows.finds; busy = knows.busy; within = knows.within; own = knows.own; unlaid = knows.unlaid; hand = knows.hand }

  -- a place that the hand has seen is below the size
  pub seen_below : (place : ℕ) → place < runs_end v.base v.seen → place < length kept.list.cells
  seen_below place below =
      let long = list_long terms s kept id v is_limit is_base is_filled part in
      let le = prefix_sum v.seen kept.lengths (kept.fits.each id v at).seen in
      omega arith

  -- a run that it has seen is one of all runs
  pub seen_in : (index place : ℕ) → InRun v.base v.seen index place → InRun terms.base kept.lengths index place
  seen_in index place in_run =
      run_stays terms.base v.seen kept.lengths index place (kept.fits.each id v at).seen
      (subst (λ (b : ℕ). InRun b v.seen index place) is_base in_run)

  seen_or_first : (index place : ℕ) → SeesIn v index place → InRun terms.base kept.lengths index place ⊎ (place < terms.base)
  seen_or_first index place known =
      ⊎_elim
      (λ (in_run : InRun v.base v.seen index place). inl (seen_in index place in_run))
      (λ (first : place < v.base). inr (let e = is_base in omega arith))
      known

  module _ (place seat : ℕ) (there : kept.ties.seat_of place ≡ Some seat) where
    -- what the list shows of the place
    matches_at : (a : CellStage) → get_elem? s.views seat ≡ some (cell_view a)
        → Matches terms.limit terms.base kept.lengths place (slice_get kept.list.cells place) a
    matches_at a cell =
        subst (Matches terms.limit terms.base kept.lengths place (slice_get kept.list.cells place))
        (seat_shows terms.limit terms.base terms.mark.filled kept.lengths kept.list kept.ties s.views kept.tied place seat a there cell)
        (kept.tied.shown place)

    stage_is : (a : CellStage) → get_elem? s.views seat ≡ some (cell_view a) → kept.ties.stage place ≡ a
    stage_is a cell = seat_shows terms.limit terms.base terms.mark.filled kept.lengths kept.list kept.ties s.views kept.tied place seat a there cell

    -- The cell moves to a stage that is not idle, the hand adds events, and may know one more place begun
    moves_cell : (a b : CellStage) → get_elem? s.views seat ≡ some (cell_view a) → b ≢ stages.Idle
        → (es : Log) → claims_in es ≡ [] → (list' : CellList) → IsHistory kept.list es list'
        → ((q : ℕ) → q ≢ place → slice_get list'.cells q ≡ slice_get kept.list.cells q)
        → Matches terms.limit terms.base kept.lengths place (slice_get list'.cells place) b
        → (begun : List ℕ)
        → ((log : Log) → Knows terms.base kept.lengths (with_stage kept.ties place b) (noted v log begun v.rows v.laid))
        → ((j : ℕ) (u : SeatView) → j ≢ id → get_elem? s.views j ≡ some u
        → (index : ℕ) → Contains u.mine index → InRun terms.base kept.lengths index place → Contains u.begun place)
        → Noted terms s (set s.views seat (cell_view b)) id v es begun v.rows v.laid
    moves_cell a b cell busy es nothing list' here elsewhere matches begun knows mine =
        let hand : v.role ≡ roles.Hand = (kept.tied.each id v at).hand part in
        let apart = seat_apart terms.limit terms.base terms.mark.filled kept.lengths kept.list kept.ties s.views kept.tied place seat id v there at hand in
        moves_on terms s kept id v is_limit is_base is_filled part (set s.views seat (cell_view b))
        (fits_role terms.limit terms.base (get_or s.words size_at 0) kept.lengths s.views kept.fits seat (roles.Cell a) (roles.Cell b) cell)
        (logged_role terms.limit terms.base terms.mark.filled kept.lengths kept.list s.views kept.logged seat (roles.Cell a) (roles.Cell b) cell)
        (set_else s.views seat id (cell_view b) (λ e. apart (sym e)) ∙ at)
        es nothing list' here begun v.rows v.laid (with_stage kept.ties place b)
        (λ log. tie_cell terms.limit terms.base terms.mark.filled kept.lengths kept.list kept.ties s.views kept.tied id v at hand place seat there b busy
        (noted v log begun v.rows v.laid) list' elsewhere matches hand (knows log) mine)

    -- of a place that is not idle each owner knows that it is begun
    known_begun : (a : CellStage) → get_elem? s.views seat ≡ some (cell_view a) → a ≢ stages.Idle → (j : ℕ) (u : SeatView)
        → get_elem? s.views j ≡ some u → (index : ℕ) → Contains u.mine index → InRun terms.base kept.lengths index place
        → Contains u.begun place
    known_begun a cell busy j u here index owned in_run =
        (kept.tied.each j u here).own index place owned in_run (λ idle. busy (sym (stage_is a cell) ∙ idle))

    -- A cell that is not idle moves to another such stage, and the hand logs an event that writes the place
    writes_cell : (a b : CellStage) → get_elem? s.views seat ≡ some (cell_view a) → a ≢ stages.Idle → b ≢ stages.Idle
        → (es : Log) → claims_in es ≡ [] → (old new : Cell) → slice_get kept.list.cells place ≡ Some old
        → IsHistory kept.list es (with_cell kept.list place new)
        → Matches terms.limit terms.base kept.lengths place (Some new) b
        → Noted terms s (set s.views seat (cell_view b)) id v es v.begun v.rows v.laid
    writes_cell a b cell was_busy busy es nothing old new found here matches =
        let hand : v.role ≡ roles.Hand = (kept.tied.each id v at).hand part in
        moves_cell a b cell busy es nothing (with_cell kept.list place new) here
        (λ q other. get_other kept.list.cells place q new other)
        (subst (λ (c : Option Cell). Matches terms.limit terms.base kept.lengths place c b) (sym (get_set kept.list.cells place old new found)) matches)
        v.begun
        (λ log. knows_moved terms.limit terms.base terms.mark.filled kept.lengths kept.list kept.ties s.views kept.tied id v at hand place seat there b busy
        (noted v log v.begun v.rows v.laid) (knows_still log) (λ index owned in_run. known_begun a cell was_busy id v at index owned in_run))
        (λ j u _ at_j. known_begun a cell was_busy j u at_j)

    -- a look
    pub looks_at : (a : CellStage) → get_elem? s.views seat ≡ some (cell_view a) → place < runs_end v.base v.seen
        → Noted terms s (set s.views seat (cell_view a)) id v (look_event place a ∷ []) v.begun v.rows v.laid
    looks_at a cell below =
        leaves terms s kept id v is_limit is_base is_filled part at seat (cell_view a) cell (look_event place a ∷ []) refl
        (look_legal terms.limit terms.base kept.lengths kept.list place a (seen_below place below) (matches_at a cell))
        v.begun v.rows v.laid knows_still

    -- a fill, by the growth that has the place, or by its mender
    pub fills : (a : CellStage) → get_elem? s.views seat ≡ some (cell_view a) → IsHeldAt a
        → (index : ℕ) → SeesIn v index place
        → Noted terms s (set s.views seat (cell_view stages.Filled)) id v (fill_event (writer_of terms.limit index place a) place ∷ []) v.begun v.rows v.laid
    fills a cell held index known =
        let actor = writer_of terms.limit index place a in
        let found = pending_for terms.limit terms.base kept.lengths index place (slice_get kept.list.cells place) a (seen_or_first index place known) held (matches_at a cell) in
        writes_cell a stages.Filled cell (held_is_busy a held) filled_is_busy (fill_event actor place ∷ []) refl (Pending actor) (value_cell place) found
        (fill_legal kept.list actor place found) refl

    -- a break
    pub breaks_at : (a : CellStage) → get_elem? s.views seat ≡ some (cell_view a) → IsHeldAt a
        → (index : ℕ) → SeesIn v index place
        → Noted terms s (set s.views seat (cell_view stages.Broken)) id v (break_event (writer_of terms.limit index place a) place ∷ []) v.begun v.rows v.laid
    breaks_at a cell held index known =
        let actor = writer_of terms.limit index place a in
        let found = pending_for terms.limit terms.base kept.lengths index place (slice_get kept.list.cells place) a (seen_or_first index place known) held (matches_at a cell) in
        writes_cell a stages.Broken cell (held_is_busy a held) broken_is_busy (break_event actor place ∷ []) refl (Pending actor) broken_cell found
        (break_legal kept.list actor place found) refl

    -- a broken cell is taken for mending
    pub mends : get_elem? s.views seat ≡ some (cell_view stages.Broken)
        → Noted terms s (set s.views seat (cell_view stages.Mending)) id v (mend_event terms.limit place ∷ []) v.begun v.rows v.laid
    mends cell =
        let found : slice_get kept.list.cells place ≡ Some broken_cell = matches_at stages.Broken cell in
        writes_cell stages.Broken stages.Mending cell broken_is_busy mending_is_busy (mend_event terms.limit place ∷ []) refl broken_cell
        (Pending (mender_of terms.limit place)) found (mend_legal terms.limit kept.list place found) refl

    -- a try to mend that leaves what it finds
    pub misses : (a : CellStage) → get_elem? s.views seat ≡ some (cell_view a) → place < runs_end v.base v.seen
        → Noted terms s (set s.views seat (cell_view a)) id v (try_event terms.limit place a a ∷ []) v.begun v.rows v.laid
    misses a cell below =
        subst (λ e. Noted terms s (set s.views seat (cell_view a)) id v (e ∷ []) v.begun v.rows v.laid) (sym (try_leaves terms.limit place a))
        (looks_at a cell below)

    -- ---- Begins

    module _ (index : ℕ) (owned : Contains v.mine index) (in_run : InRun v.base v.seen index place) where
      -- the place is below what the hand has seen
      own_within : place < runs_end terms.base v.seen
      own_within = in_run_below terms.base v.seen index place (subst (λ (b : ℕ). InRun b v.seen index place) is_base in_run)

      -- the hand knows that the place is begun, if it is
      knows_begun : (ties' : Ties) → ((q seat : ℕ) → kept.ties.seat_of q ≡ Some seat → ties'.seat_of q ≡ Some seat)
          → ((q : ℕ) → kept.ties.entry_of q ≡ None → ties'.entry_of q ≡ None) → ties'.stage place ≢ stages.Idle
          → ((q : ℕ) → q ≢ place → ties'.stage q ≡ kept.ties.stage q) → (log : Log)
          → Knows terms.base kept.lengths ties' (noted v log (place ∷ v.begun) v.rows v.laid)
      knows_begun ties' seats entries busy elsewhere log =
          let knows = kept.tied.each id v at in
          record {
            finds = λ q k found. seats q k (knows.finds q k found);
            busy = λ q begun idle.
                ⊎_elim
                (λ (same : place ≡ q). busy (subst (λ (p : ℕ). ties'.stage p ≡ stages.Idle) (sym same) idle))
                (λ (other : place ≢ q).
                knows.busy q (Contains-tail place v.begun q other begun) (sym (elsewhere q (λ e. other (sym e))) ∙ idle))
                (cases_eq place q);
            within = λ q begun.
                ⊎_elim
                (λ (same : place ≡ q). let w = own_within in omega (arith, same))
                (λ (other : place ≢ q). knows.within q (Contains-tail place v.begun q other begun))
                (cases_eq place q);
            own = λ k q mine_k in_k not_idle.
                ⊎_elim
                (λ (same : place ≡ q). subst (Contains (place ∷ v.begun)) same (Contains-first place v.begun))
                (λ (other : place ≢ q).
                Contains-later place q v.begun
                (knows.own k q mine_k in_k (λ idle. not_idle (elsewhere q (λ e. other (sym e)) ∙ idle))))
                (cases_eq place q);
            unlaid = λ has_part q later. entries q (knows.unlaid has_part q later);
            hand = knows.hand;
          }

      -- an idle cell is begun
      pub begins : get_elem? s.views seat ≡ some (cell_view stages.Idle)
          → Noted terms s (set s.views seat (cell_view stages.Begun)) id v [] (place ∷ v.begun) v.rows v.laid
      begins cell =
          let below = in_run_below v.base v.seen index place in_run in
          let owed = idle_owed terms.limit terms.base kept.lengths kept.list place (seen_below place below) (matches_at stages.Idle cell) in
          moves_cell stages.Idle stages.Begun cell begun_is_busy [] refl kept.list refl (λ q _. refl) owed (place ∷ v.begun)
          (knows_begun (with_stage kept.ties place stages.Begun) (λ q k here. here) (λ q none. none)
          (λ idle. begun_is_busy (sym (stage_here kept.ties place stages.Begun) ∙ idle))
          (λ q other.
          ⊎_elim
          (λ (c : (q ≡ place) × ((with_stage kept.ties place stages.Begun).stage q ≡ stages.Begun)). absurd (other (c.0)))
          (λ (c : (q ≢ place) × ((with_stage kept.ties place stages.Begun).stage q ≡ kept.ties.stage q)). c.1)
          (stage_cases kept.ties place q stages.Begun)))
          (λ j u apart here k theirs in_k.
          absurd (owners_differ terms.limit terms.base (get_or s.words size_at 0) kept.lengths s.views kept.fits id j index v u at here apart owned
          (subst (Contains u.mine) (run_apart terms.base kept.lengths k index place in_k (seen_in index place in_run)) theirs)))

      -- a begin that is lost: the cell is not idle, and the hand then knows that
      pub finds_begun : (a : CellStage) → get_elem? s.views seat ≡ some (cell_view a) → a ≢ stages.Idle
          → Noted terms s (set s.views seat (cell_view a)) id v [] (place ∷ v.begun) v.rows v.laid
      finds_begun a cell busy =
          leaves terms s kept id v is_limit is_base is_filled part at seat (cell_view a) cell [] refl refl (place ∷ v.begun) v.rows v.laid
          (knows_begun kept.ties (λ q k here. here) (λ q none. none) (λ idle. busy (sym (stage_is a cell) ∙ idle)) (λ q _. refl))

      -- a place of an own run that the hand does not know begun is idle
      pub not_begun : (a : CellStage) → get_elem? s.views seat ≡ some (cell_view a) → (Contains v.begun place → ⊥) → a ≡ stages.Idle
      not_begun a cell unknown =
          ⊎_elim
          (λ (idle : a ≡ stages.Idle). idle)
          (λ (busy : a ≢ stages.Idle). absurd (unknown (known_begun a cell busy id v at index owned (seen_in index place in_run))))
          (idle_or_not a)
