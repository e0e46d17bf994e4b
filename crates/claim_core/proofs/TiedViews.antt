-- The rule of tied seats after one seat's view changes, after a cell moves, and after a seat is made.
use Rattle.std.proofs.Common.{◌≡◌, ◌≢◌, ◌⊎◌, ℕ, zero, suc, ◌+◌, ◌<◌, ◌==◌, if◌then◌else◌, Bool, true, false, List, [], ◌∷◌, ◌++◌, length, set, Some, None, slice_get, refl, ap, sym, ◌∙◌, subst, inl, inr, ⊎_elim, arith}
use Rattle.std.specs.List.{Contains}
use Rattle.std.proofs.lemmas.Bool.Decides.{nat_tests, eqb_tells}
use Rattle.std.proofs.lemmas.Option.{none-some, same_Some}
use mathlib.Core.Option.{some, some-injective, some-ne-none}
use lib.ListN.{get_elem?}
use Rattle.atomic_table.proofs.Lists.{at_set, at_longer, set_else}
use Rattle.book_core.specs.Cells.{CellList}
use Rattle.claim_core.specs.declared.role.CellStage.{CellStage}
use Rattle.claim_core.specs.declared.role.CellStage.TheVariants as stages
use Rattle.claim_core.specs.declared.role.Role.{Role}
use Rattle.claim_core.specs.declared.role.Role.TheVariants as roles
use Rattle.claim_core.specs.declared.seat_view.SeatView.{SeatView}
use Rattle.claim_core.specs.Lengths.{InRun}
use Rattle.claim_core.specs.Ties.{Ties, role_view, cell_view, Matches, Knows, IsRole, TiedBy}
use Rattle.claim_core.proofs.Fits.{at_set_here}

-- ---- Lists of views

-- a seat that is there has a number below the count
pub at_below : (vs : List SeatView) (j : ℕ) (v : SeatView) → get_elem? vs j ≡ some v → j < length vs
at_below [] j v at = absurd (some-ne-none v (sym at))
at_below (x ∷ xs) zero v at = omega arith
at_below (x ∷ xs) (suc j) v at = let r = at_below xs j v at in omega arith

-- one seat has one view
pub same_view : (vs : List SeatView) (j : ℕ) (x y : SeatView) → get_elem? vs j ≡ some x → get_elem? vs j ≡ some y → x ≡ y
same_view vs j x y here there = some-injective x y (sym here ∙ there)

-- seats whose roles differ are two
pub two_seats : (vs : List SeatView) (j k : ℕ) (x y : SeatView) → get_elem? vs j ≡ some x → get_elem? vs k ≡ some y
    → (x.role ≡ y.role → ⊥) → j ≢ k
two_seats vs j k x y at_j at_k differ same =
    differ (ap (λ (u : SeatView). u.role) (same_view vs k x y (sym (ap (get_elem? vs) same) ∙ at_j) at_k))

-- what holds of the new view and of each other one holds of all after a change, also if it speaks of the number
pub each_at : (F : ℕ → SeatView → Type 0) (vs : List SeatView) (i : ℕ) (w : SeatView) → F i w
    → ((j : ℕ) (v : SeatView) → j ≢ i → get_elem? vs j ≡ some v → F j v)
    → (j : ℕ) (v : SeatView) → get_elem? (set vs i w) j ≡ some v → F j v
each_at F vs i w new old j v at =
    ⊎_elim
    (λ (c : (j ≡ i) × (w ≡ v)). subst (λ (k : ℕ). F k v) (sym c.0) (subst (F i) c.1 new))
    (λ (c : (j ≢ i) × (get_elem? vs j ≡ some v)). old j v c.0 c.1)
    (at_set vs i j w v at)

-- a member of a list with one more is one of the list, or the last
pub at_end : (vs : List SeatView) (w v : SeatView) (j : ℕ) → get_elem? (vs ++ w ∷ []) j ≡ some v
    → (get_elem? vs j ≡ some v) ⊎ ((j ≡ length vs) × (w ≡ v))
at_end [] w v zero at = inr (refl, some-injective w v at)
at_end [] w v (suc j) at = absurd (some-ne-none v (sym at))
at_end (x ∷ xs) w v zero at = inl at
at_end (x ∷ xs) w v (suc j) at =
    ⊎_elim
    (λ (c : get_elem? xs j ≡ some v). inl c)
    (λ (c : (j ≡ length xs) × (w ≡ v)). inr ((let e = c.0 in omega arith), c.1))
    (at_end xs w v j at)

pub each_at_end : (F : ℕ → SeatView → Type 0) (vs : List SeatView) (w : SeatView) → F (length vs) w
    → ((j : ℕ) (v : SeatView) → get_elem? vs j ≡ some v → F j v)
    → (j : ℕ) (v : SeatView) → get_elem? (vs ++ w ∷ []) j ≡ some v → F j v
each_at_end F vs w new old j v at =
    ⊎_elim
    (λ (c : get_elem? vs j ≡ some v). old j v c)
    (λ (c : (j ≡ length vs) × (w ≡ v)). subst (λ (k : ℕ). F k v) (sym c.0) (subst (F (length vs)) c.1 new))
    (at_end vs w v j at)

-- ---- Roles

-- roles of two kinds differ
pub cell_is_no_hand : (stage : CellStage) → roles.Cell stage ≡ roles.Hand → ⊥
cell_is_no_hand stage e = cc e

pub cell_is_no_block : (stage : CellStage) (first n : ℕ) → roles.Cell stage ≡ roles.Block first n → ⊥
cell_is_no_block stage first n e = cc e

pub cell_is_no_entry : (stage : CellStage) (from n : ℕ) → roles.Cell stage ≡ roles.EmptyEntry from n → ⊥
cell_is_no_entry stage from n e = cc e

pub hand_is_no_block : (first n : ℕ) → roles.Hand ≡ roles.Block first n → ⊥
hand_is_no_block first n e = cc e

pub hand_is_no_entry : (from n : ℕ) → roles.Hand ≡ roles.EmptyEntry from n → ⊥
hand_is_no_entry from n e = cc e

pub entry_is_no_block : (from n first m : ℕ) → roles.EmptyEntry from n ≡ roles.Block first m → ⊥
entry_is_no_block from n first m e = cc e

-- two cells at one seat are at one stage
pub same_stage : (a b : CellStage) → cell_view a ≡ cell_view b → a ≡ b
same_stage a b e = let r : roles.Cell a ≡ roles.Cell b = ap (λ (u : SeatView). u.role) e in cc r

-- the roles of hands and cells say nothing
pub hand_role : (ties : Ties) (views : List SeatView) (id : ℕ) → IsRole ties views id roles.Hand
hand_role ties views id = record {
  block = λ first n is. absurd (cc is);
  empty = λ from n is. absurd (cc is);
  placed = λ from n is. absurd (cc is);
}

pub cell_role : (ties : Ties) (views : List SeatView) (id : ℕ) (stage : CellStage) → IsRole ties views id (roles.Cell stage)
cell_role ties views id stage = record {
  block = λ first n is. absurd (cc is);
  empty = λ from n is. absurd (cc is);
  placed = λ from n is. absurd (cc is);
}

pub is_hand_role : (ties : Ties) (views : List SeatView) (id : ℕ) (w : SeatView) → w.role ≡ roles.Hand → IsRole ties views id w.role
is_hand_role ties views id w is = subst (IsRole ties views id) (sym is) (hand_role ties views id)

-- what a role says stays if the seats of places and entries do, the stage of each place without a seat does, and idle
-- cells that belong to no place keep their views
pub role_stays : (ties ties' : Ties) (vs vs' : List SeatView) → ((place : ℕ) → ties'.seat_of place ≡ ties.seat_of place)
    → ((place : ℕ) → ties'.entry_of place ≡ ties.entry_of place)
    → ((place : ℕ) → ties.seat_of place ≡ None → ties'.stage place ≡ ties.stage place)
    → ((seat : ℕ) → get_elem? vs seat ≡ some (cell_view stages.Idle) → ((place : ℕ) → ties.seat_of place ≡ Some seat → ⊥)
    → get_elem? vs' seat ≡ some (cell_view stages.Idle))
    → (id : ℕ) (role : Role) → IsRole ties vs id role → IsRole ties' vs' id role
role_stays ties ties' vs vs' seats entries bares still id role was = record {
  block = λ first n is.
      let b = was.block first n is in
      record {
        ends = b.ends;
        idle = λ i less. still (first + i) (b.idle i less) (λ place there. b.nowhere i place less there);
        nowhere = λ i place less there. b.nowhere i place less (sym (seats place) ∙ there);
      };
  empty = λ from n is.
      let e = was.empty from n is in
      record {
        entry = λ i less. entries (from + i) ∙ e.entry i less;
        bare = λ i less. seats (from + i) ∙ e.bare i less;
        idle = λ i less. bares (from + i) (e.bare i less) ∙ e.idle i less;
      };
  placed = λ from n is.
      let p = was.placed from n is in
      record { first = p.first; ends = p.ends; cells = λ i less. seats (from + i) ∙ p.cells i less };
}

-- a seat without shares that is no hand's knows nothing
pub role_knows : (base : ℕ) (lengths : List ℕ) (ties : Ties) (role : Role) → Knows base lengths ties (role_view role)
role_knows base lengths ties role = record {
  finds = λ place seat found. let t = found.1.1 in absurd (omega arith);
  busy = λ place there. let t = there.1 in absurd (omega arith);
  within = λ place there. let t = there.1 in absurd (omega arith);
  own = λ index place there. let t = there.1 in absurd (omega arith);
  unlaid = λ part. absurd (omega arith);
  hand = λ part. absurd (omega arith);
}

-- ---- A cell at another stage

-- the same seats, and this cell at this stage
abbrev pub with_stage : Ties → ℕ → CellStage → Ties
with_stage ties place stage =
    record {
      seat_of = ties.seat_of;
      entry_of = ties.entry_of;
      stage = λ q. if q == place then stage else ties.stage q;
    }

pub stage_cases : (ties : Ties) (place q : ℕ) (b : CellStage)
    → ((q ≡ place) × ((with_stage ties place b).stage q ≡ b)) ⊎ ((q ≢ place) × ((with_stage ties place b).stage q ≡ ties.stage q))
stage_cases ties place q b =
    ⊎_elim
    (λ (c : ((q == place) ≡ true) × (q ≡ place)). inl (c.1, rw (c.0) refl))
    (λ (c : ((q == place) ≡ false) × (q ≢ place)). inr (c.1, rw (c.0) refl))
    (eqb_tells q place)

pub stage_here : (ties : Ties) (place : ℕ) (b : CellStage) → (with_stage ties place b).stage place ≡ b
stage_here ties place b = let same : (place == place) ≡ true = grind (arith, nat_tests) in rw same refl

-- ---- One seat's view

module _
    (limit base : ℕ) (filled : List Bool) (lengths : List ℕ) (list : CellList) (ties : Ties) (vs : List SeatView)
    (tied : TiedBy limit base filled lengths list ties vs) where
  -- the seat of a place is that of a cell, so it is no hand's
  pub seat_apart : (place seat id : ℕ) (v : SeatView) → ties.seat_of place ≡ Some seat → get_elem? vs id ≡ some v
      → v.role ≡ roles.Hand → seat ≢ id
  seat_apart place seat id v there at is_hand =
      two_seats vs seat id (cell_view (ties.stage place)) v (tied.seats place seat there) at
      (λ same. cell_is_no_hand (ties.stage place) (same ∙ is_hand))

  -- a seat of a place is there once
  pub seat_other : (place q seat k : ℕ) → ties.seat_of place ≡ Some seat → ties.seat_of q ≡ Some k → q ≢ place → k ≢ seat
  seat_other place q seat k there here other same =
      other (tied.apart q place k here (there ∙ ap Some (sym same)))

  -- the view at a place's seat is that of its cell
  pub seat_shows : (place seat : ℕ) (a : CellStage) → ties.seat_of place ≡ Some seat → get_elem? vs seat ≡ some (cell_view a)
      → ties.stage place ≡ a
  seat_shows place seat a there at =
      same_stage (ties.stage place) a (same_view vs seat (cell_view (ties.stage place)) (cell_view a) (tied.seats place seat there) at)

  -- a new seat that knows only what is true, with a role that says only what is true
  pub tie_snoc : (u : SeatView) → Knows base lengths ties u → IsRole ties (vs ++ u ∷ []) (length vs) u.role
      → TiedBy limit base filled lengths list ties (vs ++ u ∷ [])
  tie_snoc u knows role =
      record {
        shown = tied.shown;
        seats = λ place seat there. at_longer vs (u ∷ []) seat (cell_view (ties.stage place)) (tied.seats place seat there);
        apart = tied.apart;
        bare = tied.bare;
        entered = tied.entered;
        each = each_at_end (λ _. Knows base lengths ties) vs u knows tied.each;
        each_role =
            each_at_end (λ j v. IsRole ties (vs ++ u ∷ []) j v.role) vs u role
            (λ j v at. role_stays ties ties vs (vs ++ u ∷ []) (λ _. refl) (λ _. refl) (λ _ _. refl)
            (λ seat idle _. at_longer vs (u ∷ []) seat (cell_view stages.Idle) idle) j v.role (tied.each_role j v at));
      }

  module _ (id : ℕ) (v : SeatView) (at : get_elem? vs id ≡ some v) (is_hand : v.role ≡ roles.Hand) where
    -- a cell's view stays if a hand's changes
    pub cell_stays : (w : SeatView) (seat : ℕ) (stage : CellStage) → get_elem? vs seat ≡ some (cell_view stage)
        → get_elem? (set vs id w) seat ≡ some (cell_view stage)
    cell_stays w seat stage there =
        set_else vs id seat w
        (two_seats vs seat id (cell_view stage) v there at (λ same. cell_is_no_hand stage (same ∙ is_hand)))
        ∙ there

    -- a hand has another view
    pub tie_hand : (w : SeatView) → w.role ≡ roles.Hand → Knows base lengths ties w
        → TiedBy limit base filled lengths list ties (set vs id w)
    tie_hand w also_hand knows =
        record {
          shown = tied.shown;
          seats = λ place seat there. cell_stays w seat (ties.stage place) (tied.seats place seat there);
          apart = tied.apart;
          bare = tied.bare;
          entered = tied.entered;
          each = each_at (λ _. Knows base lengths ties) vs id w knows (λ j u _ here. tied.each j u here);
          each_role =
              each_at (λ j u. IsRole ties (set vs id w) j u.role) vs id w (is_hand_role ties (set vs id w) id w also_hand)
              (λ j u _ here. role_stays ties ties vs (set vs id w) (λ _. refl) (λ _. refl) (λ _ _. refl)
              (λ seat idle _. cell_stays w seat stages.Idle idle) j u.role (tied.each_role j u here));
        }

    -- A cell moves to a stage that is not idle, and the hand has another view. Each other seat whose run has the place
    -- must know that it is begun
    module _ (place seat : ℕ) (there : ties.seat_of place ≡ Some seat) (b : CellStage) (moves : b ≢ stages.Idle) where
      -- what a seat knows stays true
      pub knows_moved : (u : SeatView) → Knows base lengths ties u
          → ((index : ℕ) → Contains u.mine index → InRun base lengths index place → Contains u.begun place)
          → Knows base lengths (with_stage ties place b) u
      knows_moved u knows mine =
          record {
            finds = knows.finds;
            busy = λ q begun idle.
                ⊎_elim
                (λ (c : (q ≡ place) × ((with_stage ties place b).stage q ≡ b)). moves (sym (c.1) ∙ idle))
                (λ (c : (q ≢ place) × ((with_stage ties place b).stage q ≡ ties.stage q)). knows.busy q begun (sym (c.1) ∙ idle))
                (stage_cases ties place q b);
            within = knows.within;
            own = λ index q owned in_run not_idle.
                ⊎_elim
                (λ (c : (q ≡ place) × ((with_stage ties place b).stage q ≡ b)).
                subst (Contains u.begun) (sym (c.0)) (mine index owned (subst (InRun base lengths index) (c.0) in_run)))
                (λ (c : (q ≢ place) × ((with_stage ties place b).stage q ≡ ties.stage q)).
                knows.own index q owned in_run (λ idle. not_idle (c.1 ∙ idle)))
                (stage_cases ties place q b);
            unlaid = knows.unlaid;
            hand = knows.hand;
          }

      module _ (w : SeatView) where
        -- the views after that
        abbrev moved : List SeatView
        moved = set (set vs seat (cell_view b)) id w

        -- the cell's seat has its new view
        seat_moved : get_elem? moved seat ≡ some (cell_view b)
        seat_moved =
            set_else (set vs seat (cell_view b)) id seat w (seat_apart place seat id v there at is_hand)
            ∙ at_set_here vs seat (cell_view (ties.stage place)) (cell_view b) (tied.seats place seat there)

        -- another place's seat keeps its view
        other_stays : (k : ℕ) (a : CellStage) → k ≢ seat → get_elem? vs k ≡ some (cell_view a) → get_elem? moved k ≡ some (cell_view a)
        other_stays k a other here =
            set_else (set vs seat (cell_view b)) id k w
            (two_seats vs k id (cell_view a) v here at (λ same. cell_is_no_hand a (same ∙ is_hand)))
            ∙ (set_else vs seat k (cell_view b) other ∙ here)

        -- idle cells that belong to no place keep their views
        idle_stays : (k : ℕ) → get_elem? vs k ≡ some (cell_view stages.Idle) → ((q : ℕ) → ties.seat_of q ≡ Some k → ⊥)
            → get_elem? moved k ≡ some (cell_view stages.Idle)
        idle_stays k idle nowhere =
            other_stays k stages.Idle (λ same. nowhere place (there ∙ ap Some (sym same))) idle

        seats_moved : (q k : ℕ) → ties.seat_of q ≡ Some k → get_elem? moved k ≡ some (cell_view ((with_stage ties place b).stage q))
        seats_moved q k here =
            ⊎_elim
            (λ (c : (q ≡ place) × ((with_stage ties place b).stage q ≡ b)).
            let same : seat ≡ k = same_Some seat k (sym there ∙ (ap ties.seat_of (sym (c.0)) ∙ here)) in
            subst (λ (j : ℕ). get_elem? moved j ≡ some (cell_view ((with_stage ties place b).stage q))) same
            (seat_moved ∙ ap (λ (a : CellStage). some (cell_view a)) (sym (c.1))))
            (λ (c : (q ≢ place) × ((with_stage ties place b).stage q ≡ ties.stage q)).
            other_stays k (ties.stage q) (seat_other place q seat k there here (c.0)) (tied.seats q k here)
            ∙ ap (λ (a : CellStage). some (cell_view a)) (sym (c.1)))
            (stage_cases ties place q b)

        bare_moved : (q : ℕ) → ties.seat_of q ≡ None → (with_stage ties place b).stage q ≡ ties.stage q
        bare_moved q none =
            ⊎_elim
            (λ (c : (q ≡ place) × ((with_stage ties place b).stage q ≡ b)). absurd (none-some seat (sym none ∙ (ap ties.seat_of (c.0) ∙ there))))
            (λ (c : (q ≢ place) × ((with_stage ties place b).stage q ≡ ties.stage q)). c.1)
            (stage_cases ties place q b)

        shown_moved : (list' : CellList) → ((q : ℕ) → q ≢ place → slice_get list'.cells q ≡ slice_get list.cells q)
            → Matches limit base lengths place (slice_get list'.cells place) b
            → (q : ℕ) → Matches limit base lengths q (slice_get list'.cells q) ((with_stage ties place b).stage q)
        shown_moved list' elsewhere here q =
            ⊎_elim
            (λ (c : (q ≡ place) × ((with_stage ties place b).stage q ≡ b)).
            subst (Matches limit base lengths q (slice_get list'.cells q)) (sym (c.1))
            (subst (λ (p : ℕ). Matches limit base lengths p (slice_get list'.cells p) b) (sym (c.0)) here))
            (λ (c : (q ≢ place) × ((with_stage ties place b).stage q ≡ ties.stage q)).
            subst (Matches limit base lengths q (slice_get list'.cells q)) (sym (c.1))
            (subst (λ cell. Matches limit base lengths q cell (ties.stage q)) (sym (elsewhere q (c.0))) (tied.shown q)))
            (stage_cases ties place q b)

        pub tie_cell : (list' : CellList) → ((q : ℕ) → q ≢ place → slice_get list'.cells q ≡ slice_get list.cells q)
            → Matches limit base lengths place (slice_get list'.cells place) b
            → w.role ≡ roles.Hand → Knows base lengths (with_stage ties place b) w
            → ((j : ℕ) (u : SeatView) → j ≢ id → get_elem? vs j ≡ some u
            → (index : ℕ) → Contains u.mine index → InRun base lengths index place → Contains u.begun place)
            → TiedBy limit base filled lengths list' (with_stage ties place b) moved
        tie_cell list' elsewhere here also_hand knows mine =
            record {
              shown = shown_moved list' elsewhere here;
              seats = seats_moved;
              apart = tied.apart;
              bare = λ q none. bare_moved q none ∙ tied.bare q none;
              entered = tied.entered;
              each =
                  each_at (λ _. Knows base lengths (with_stage ties place b)) (set vs seat (cell_view b)) id w knows
                  (λ j u other after.
                  each_at (λ i x. i ≢ id → Knows base lengths (with_stage ties place b) x) vs seat (cell_view b)
                  (λ _. role_knows base lengths (with_stage ties place b) (roles.Cell b))
                  (λ i x _ was not_id. knows_moved x (tied.each i x was) (mine i x not_id was))
                  j u after other);
              each_role =
                  each_at (λ j u. IsRole (with_stage ties place b) moved j u.role) (set vs seat (cell_view b)) id w
                  (is_hand_role (with_stage ties place b) moved id w also_hand)
                  (λ j u _ after.
                  each_at (λ i x. IsRole (with_stage ties place b) moved i x.role) vs seat (cell_view b)
                  (cell_role (with_stage ties place b) moved seat b)
                  (λ i x _ was. role_stays ties (with_stage ties place b) vs moved (λ _. refl) (λ _. refl) bare_moved idle_stays i x.role (tied.each_role i x was))
                  j u after);
            }
