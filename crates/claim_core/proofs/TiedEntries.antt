-- The rule of tied seats after an entry is made, empty or with a block, by a hand that is whole.
use Rattle.std.proofs.Common.{◌≡◌, ◌≢◌, ◌⊎◌, ℕ, zero, suc, ◌+◌, ◌<◌, ◌≤◌, nat_lt, if◌then◌else◌, Bool, true, false, get_or, List, [], ◌∷◌, ◌++◌, length, map, set, Some, None, refl, ap, sym, ◌∙◌, subst, inl, inr, ⊎_elim, arith, append_assoc, length-append}
use Rattle.std.specs.List.{range_with_len}
use Rattle.std.proofs.lemmas.List.{map-append, length-map}
use Rattle.std.proofs.lemmas.List.FromFn.{length-map-range_with_len}
use Rattle.std.proofs.lemmas.Option.{none-some, same_Some}
use mathlib.Core.Option.{some, some-injective, some-ne-none}
use lib.ListN.{get_elem?}
use Rattle.atomic_table.proofs.Lists.{at_longer, set_else}
use Rattle.tie_core.specs.Tie.{Idle, Filled, Broken}
use Rattle.book_core.specs.Cells.{CellList}
use Rattle.claim_core.specs.declared.role.CellStage.{CellStage}
use Rattle.claim_core.specs.declared.role.CellStage.TheVariants as stages
use Rattle.claim_core.specs.declared.role.Role.TheVariants as roles
use Rattle.claim_core.specs.declared.seat_view.SeatView.{SeatView}
use Rattle.claim_core.specs.Shares.{all_shares}
use Rattle.claim_core.specs.SeatView.{spent_view}
use Rattle.claim_core.specs.SeatSteps.{cell_roles, entry_roles, placed_roles}
use Rattle.claim_core.specs.Plays.{cell_stage, stage_view, placed_view}
use Rattle.claim_core.specs.Ties.{Ties, role_view, cell_view, first_stage, first_stages, Knows, IsRole, TiedBy}
use Rattle.claim_core.specs.Rule.{Fits}
use Rattle.claim_core.proofs.Counts.{total-set, member_le}
use Rattle.claim_core.proofs.TiedViews.{at_below, each_at_end, cell_role, role_knows}
use Rattle.claim_core.proofs.TiedRows.{at_middle, cells_at, stages_at, first_idle, with_row, with_entry, seat_cases, entry_cases, seat_new, entry_new, row_grows, row_apart, row_bare, placed_role, empty_role}

-- ---- Lists of views

-- a member of two lists is one of the first, or of the second
pub at_either : (vs ws : List SeatView) (j : ℕ) (v : SeatView) → get_elem? (vs ++ ws) j ≡ some v
    → (get_elem? vs j ≡ some v) ⊎ ((i : ℕ) × (get_elem? ws i ≡ some v))
at_either [] ws j v at = inr (j, at)
at_either (x ∷ xs) ws zero v at = inl at
at_either (x ∷ xs) ws (suc j) v at = at_either xs ws j v at

-- the views of cells are no others
pub cells_are : (xs : List CellStage) (i : ℕ) (v : SeatView) → get_elem? (map role_view (cell_roles xs)) i ≡ some v
    → (a : CellStage) × (cell_view a ≡ v)
cells_are [] i v at = absurd (some-ne-none v (sym at))
cells_are (x ∷ xs) zero v at = (x, some-injective (cell_view x) v at)
cells_are (x ∷ xs) (suc i) v at = cells_are xs i v at

-- the first stage of a place, as its cell's seat says it
opened_cell : (below has : Bool)
    → (if below then (if has then stages.Filled else stages.Broken) else stages.Idle) ≡ cell_stage (if below then (if has then Filled else Broken) else Idle)
opened_cell true true = refl
opened_cell true false = refl
opened_cell false has = refl

-- the views of the cells of n places when the word is opened
opened_views : (base : ℕ) (filled : List Bool) (from n : ℕ)
    → map role_view (cell_roles (map (first_stage base filled) (range_with_len from n))) ≡ map stage_view (first_stages base filled from n)
opened_views base filled from zero = refl
opened_views base filled from (suc n) = λ i.
    cell_view (opened_cell (nat_lt from base) (get_or filled from false) i) ∷ opened_views base filled (from + 1) n i

-- and with that of their block behind them
pub adopted_views : (base : ℕ) (filled : List Bool) (from n next : ℕ) (vs : List SeatView)
    → vs ++ map role_view (placed_roles (first_stage base filled) from n next) ≡ (vs ++ map stage_view (first_stages base filled from n)) ++ placed_view from n ∷ []
adopted_views base filled from n next vs =
    let cells = cell_roles (map (first_stage base filled) (range_with_len from n)) in
    let block = roles.Placed from n ∷ [] in
    ap (λ (l : List SeatView). vs ++ l) (map-append role_view cells block)
    ∙ (sym (append_assoc vs (map role_view cells) (map role_view block))
    ∙ ap (λ (l : List SeatView). (vs ++ l) ++ map role_view block) (opened_views base filled from n))

-- the cells of these places have the n seats from `first` on, and their entry the seat behind them
abbrev pub with_both : Ties → ℕ → ℕ → ℕ → Ties
with_both ties from n first = with_entry (with_row ties from n first) from n (first + n)

-- a seat beside one that has all shares has none
pub others_spent : (limit base size : ℕ) (lengths : List ℕ) (vs : List SeatView) → Fits limit base size lengths vs
    → (id j : ℕ) (v u : SeatView) → get_elem? vs id ≡ some v → get_elem? vs j ≡ some u → j ≢ id → v.shares ≡ all_shares
    → u.shares ≡ 0
others_spent limit base size lengths vs fits id j v u at there apart whole =
    let share : SeatView → ℕ = λ x. x.shares in
    let t = total-set share vs id v spent_view at in
    let m = member_le share (set vs id spent_view) j u (set_else vs id j spent_view apart ∙ there) in
    let o = fits.shares in
    omega arith

module _
    (limit base : ℕ) (filled : List Bool) (lengths : List ℕ) (list : CellList) (ties : Ties) (vs : List SeatView)
    (tied : TiedBy limit base filled lengths list ties vs) (from n : ℕ) (free : (i : ℕ) → i < n → ties.entry_of (from + i) ≡ None)
    (later : (j : ℕ) (u : SeatView) → get_elem? vs j ≡ some u → 0 < u.shares → from + n ≤ u.laid) where
  -- ---- An empty entry

  -- a place that had an entry has it still
  entry_grows : (entry q j : ℕ) → ties.entry_of q ≡ Some j → (with_entry ties from n entry).entry_of q ≡ Some j
  entry_grows entry q j had =
      ⊎_elim
      (λ (c : (i : ℕ) × (i < n) × (q ≡ from + i) × ((with_entry ties from n entry).entry_of q ≡ Some entry)).
      absurd (none-some j (sym (ap ties.entry_of (c.2) ∙ free (c.0) (c.1)) ∙ had)))
      (λ (c : ((i : ℕ) → i < n → q ≢ from + i) × ((with_entry ties from n entry).entry_of q ≡ ties.entry_of q)). c.1 ∙ had)
      (entry_cases ties from n entry q)

  -- a place without an entry had none
  entry_bare : (entry q : ℕ) → (with_entry ties from n entry).entry_of q ≡ None → ties.entry_of q ≡ None
  entry_bare entry q none =
      ⊎_elim
      (λ (c : (i : ℕ) × (i < n) × (q ≡ from + i) × ((with_entry ties from n entry).entry_of q ≡ Some entry)).
      absurd (none-some entry (sym none ∙ c.3)))
      (λ (c : ((i : ℕ) → i < n → q ≢ from + i) × ((with_entry ties from n entry).entry_of q ≡ ties.entry_of q)). sym (c.1) ∙ none)
      (entry_cases ties from n entry q)

  -- past what a hand knows there is still no entry
  entry_later : (entry j : ℕ) (u : SeatView) → get_elem? vs j ≡ some u → 0 < u.shares → (q : ℕ) → u.laid ≤ q
      → (with_entry ties from n entry).entry_of q ≡ None
  entry_later entry j u here part q past =
      let all = later j u here part in
      ⊎_elim
      (λ (c : (i : ℕ) × (i < n) × (q ≡ from + i) × ((with_entry ties from n entry).entry_of q ≡ Some entry)).
      let less = c.1 in
      let is = c.2 in
      absurd (omega arith))
      (λ (c : ((i : ℕ) → i < n → q ≢ from + i) × ((with_entry ties from n entry).entry_of q ≡ ties.entry_of q)).
      c.1 ∙ (tied.each j u here).unlaid part q past)
      (entry_cases ties from n entry q)

  -- these places have no cells
  row_free : (i : ℕ) → i < n → ties.seat_of (from + i) ≡ None
  row_free i less = tied.entered (from + i) (free i less)

  pub tie_enter : base ≤ from → TiedBy limit base filled lengths list (with_entry ties from n (length vs)) (vs ++ map role_view (entry_roles from n (length vs)))
  tie_enter past =
      let entry = length vs in
      let ties' = with_entry ties from n entry in
      let views = vs ++ role_view (roles.EmptyEntry from n) ∷ [] in
      record {
        shown = tied.shown;
        seats = λ q j there. at_longer vs (role_view (roles.EmptyEntry from n) ∷ []) j (cell_view (ties.stage q)) (tied.seats q j there);
        apart = tied.apart;
        bare = tied.bare;
        entered = λ q none. tied.entered q (entry_bare entry q none);
        each =
            each_at_end (λ _. Knows base lengths ties') vs (role_view (roles.EmptyEntry from n))
            (role_knows base lengths ties' (roles.EmptyEntry from n))
            (λ j u here.
            let knows = tied.each j u here in
            record {
              finds = knows.finds;
              busy = knows.busy;
              within = knows.within;
              own = knows.own;
              unlaid = entry_later entry j u here;
              hand = knows.hand;
            });
        each_role =
            each_at_end (λ j u. IsRole ties' views j u.role) vs (role_view (roles.EmptyEntry from n))
            (empty_role ties' views entry from n (record {
              entry = λ i less. entry_new ties from n entry i less;
              bare = row_free;
              idle = λ i less. tied.bare (from + i) (row_free i less) ∙ first_idle base filled (from + i) (omega arith);
            }))
            (λ j u here.
            let was = tied.each_role j u here in
            record {
              block = λ first' n' is.
                  let b = was.block first' n' is in
                  record {
                    ends = b.ends;
                    idle = λ i less. at_longer vs (role_view (roles.EmptyEntry from n) ∷ []) (first' + i) _ (b.idle i less);
                    nowhere = b.nowhere;
                  };
              empty = λ from' n' is.
                  let e = was.empty from' n' is in
                  record { entry = λ i less. entry_grows entry (from' + i) j (e.entry i less); bare = e.bare; idle = e.idle };
              placed = λ from' n' is.
                  let p = was.placed from' n' is in
                  record { first = p.first; ends = p.ends; cells = p.cells };
            });
      }

  -- ---- An entry with a block, whose cells are at these stages

  module _ (stage : ℕ → CellStage) (opened : (i : ℕ) → i < n → ties.stage (from + i) ≡ stage (from + i)) where
    -- the views of the cells, of all, and the seats
    abbrev cells : List SeatView
    cells = map role_view (cell_roles (map stage (range_with_len from n)))

    abbrev mid : List SeatView
    mid = vs ++ cells

    abbrev adopted : List SeatView
    adopted = mid ++ role_view (roles.Placed from n) ∷ []

    abbrev entered_ties : Ties
    entered_ties = with_both ties from n (length vs)

    cells_long : length cells ≡ n
    cells_long =
        length-map (cell_roles (map stage (range_with_len from n))) role_view
        ∙ (length-map (map stage (range_with_len from n)) _ ∙ length-map-range_with_len stage from n)

    mid_long : length mid ≡ length vs + n
    mid_long = length-append vs cells ∙ ap (λ k. length vs + k) cells_long

    -- the new seats were no place's
    nowhere : (i q : ℕ) → i < n → ties.seat_of q ≡ Some (length vs + i) → ⊥
    nowhere i q less there =
        let lt = at_below vs (length vs + i) (cell_view (ties.stage q)) (tied.seats q (length vs + i) there) in
        absurd (omega arith)

    old_stays : (j : ℕ) (u : SeatView) → get_elem? vs j ≡ some u → get_elem? adopted j ≡ some u
    old_stays j u here = at_longer mid (role_view (roles.Placed from n) ∷ []) j u (at_longer vs cells j u here)

    new_shows : (i : ℕ) → i < n → get_elem? adopted (length vs + i) ≡ some (cell_view (ties.stage (from + i)))
    new_shows i less =
        at_longer mid (role_view (roles.Placed from n) ∷ []) (length vs + i) (cell_view (ties.stage (from + i)))
        (at_middle vs cells i
        ∙ (cells_at (map stage (range_with_len from n)) i (stage (from + i)) (stages_at stage from n i less)
        ∙ ap (λ (a : CellStage). some (cell_view a)) (sym (opened i less))))

    seats_adopted : (q j : ℕ) → (with_row ties from n (length vs)).seat_of q ≡ Some j → get_elem? adopted j ≡ some (cell_view (ties.stage q))
    seats_adopted q j has =
        ⊎_elim
        (λ (c : (i : ℕ) × (i < n) × (q ≡ from + i) × ((with_row ties from n (length vs)).seat_of q ≡ Some (length vs + i))).
        let is : length vs + c.0 ≡ j = same_Some (length vs + c.0) j (sym (c.3) ∙ has) in
        subst (λ (k : ℕ). get_elem? adopted k ≡ some (cell_view (ties.stage q))) is
        (new_shows (c.0) (c.1) ∙ ap (λ (p : ℕ). some (cell_view (ties.stage p))) (sym (c.2))))
        (λ (c : ((i : ℕ) → i < n → q ≢ from + i) × ((with_row ties from n (length vs)).seat_of q ≡ ties.seat_of q)).
        old_stays j (cell_view (ties.stage q)) (tied.seats q j (sym (c.1) ∙ has)))
        (seat_cases ties from n (length vs) q)

    entered_adopted : (q : ℕ) → entered_ties.entry_of q ≡ None → (with_row ties from n (length vs)).seat_of q ≡ None
    entered_adopted q none =
        ⊎_elim
        (λ (c : (i : ℕ) × (i < n) × (q ≡ from + i) × (entered_ties.entry_of q ≡ Some (length vs + n))).
        absurd (none-some (length vs + n) (sym none ∙ c.3)))
        (λ (c : ((i : ℕ) → i < n → q ≢ from + i) × (entered_ties.entry_of q ≡ ties.entry_of q)).
        ⊎_elim
        (λ (d : (i : ℕ) × (i < n) × (q ≡ from + i) × ((with_row ties from n (length vs)).seat_of q ≡ Some (length vs + i))).
        absurd (c.0 (d.0) (d.1) (d.2)))
        (λ (d : ((i : ℕ) → i < n → q ≢ from + i) × ((with_row ties from n (length vs)).seat_of q ≡ ties.seat_of q)).
        d.1 ∙ tied.entered q (sym (c.1) ∙ none))
        (seat_cases ties from n (length vs) q))
        (entry_cases (with_row ties from n (length vs)) from n (length vs + n) q)

    knows_adopted : (j : ℕ) (u : SeatView) → get_elem? vs j ≡ some u → Knows base lengths entered_ties u
    knows_adopted j u here =
        let knows = tied.each j u here in
        record {
          finds = λ q k found. row_grows ties from n (length vs) row_free nowhere tied.apart q k (knows.finds q k found);
          busy = knows.busy;
          within = knows.within;
          own = knows.own;
          unlaid = λ part q past. entry_later (length vs + n) j u here part q past;
          hand = knows.hand;
        }

    role_adopted : (j : ℕ) (u : SeatView) → get_elem? vs j ≡ some u → IsRole entered_ties adopted j u.role
    role_adopted j u here =
        let was = tied.each_role j u here in
        let below = at_below vs j u here in
        record {
          block = λ first' n' is.
              let b = was.block first' n' is in
              record {
                ends = b.ends;
                idle = λ i less. old_stays (first' + i) _ (b.idle i less);
                nowhere = λ i' q less' has.
                    ⊎_elim
                    (λ (c : (i : ℕ) × (i < n) × (q ≡ from + i) × ((with_row ties from n (length vs)).seat_of q ≡ Some (length vs + i))).
                    let is : length vs + c.0 ≡ first' + i' = same_Some (length vs + c.0) (first' + i') (sym (c.3) ∙ has) in
                    let e = b.ends in
                    absurd (omega arith))
                    (λ (c : ((i : ℕ) → i < n → q ≢ from + i) × ((with_row ties from n (length vs)).seat_of q ≡ ties.seat_of q)).
                    b.nowhere i' q less' (sym (c.1) ∙ has))
                    (seat_cases ties from n (length vs) q);
              };
          empty = λ from' n' is.
              let e = was.empty from' n' is in
              record {
                entry = λ i less. entry_grows (length vs + n) (from' + i) j (e.entry i less);
                bare = λ i' less'.
                    ⊎_elim
                    (λ (c : (i : ℕ) × (i < n) × (from' + i' ≡ from + i)
                    × ((with_row ties from n (length vs)).seat_of (from' + i') ≡ Some (length vs + i))).
                    absurd (none-some j (sym (ap ties.entry_of (c.2) ∙ free (c.0) (c.1)) ∙ e.entry i' less')))
                    (λ (c : ((i : ℕ) → i < n → from' + i' ≢ from + i)
                    × ((with_row ties from n (length vs)).seat_of (from' + i') ≡ ties.seat_of (from' + i'))).
                    c.1 ∙ e.bare i' less')
                    (seat_cases ties from n (length vs) (from' + i'));
                idle = e.idle;
              };
          placed = λ from' n' is.
              let p = was.placed from' n' is in
              record {
                first = p.first;
                ends = p.ends;
                cells = λ i less. row_grows ties from n (length vs) row_free nowhere tied.apart (from' + i) (p.first + i) (p.cells i less);
              };
        }

    -- what holds of each seat that was there, and of cells, holds of all but the last
    each_mid : (F : ℕ → SeatView → Type 0) → ((j : ℕ) (u : SeatView) → get_elem? vs j ≡ some u → F j u)
        → ((j : ℕ) (a : CellStage) → F j (cell_view a)) → (j : ℕ) (u : SeatView) → get_elem? mid j ≡ some u → F j u
    each_mid F old new j u at =
        ⊎_elim
        (λ (c : get_elem? vs j ≡ some u). old j u c)
        (λ (c : (i : ℕ) × (get_elem? cells i ≡ some u)).
        let cell = cells_are (map stage (range_with_len from n)) (c.0) u (c.1) in
        subst (F j) (cell.1) (new j (cell.0)))
        (at_either vs cells j u at)

    pub tie_adopt : TiedBy limit base filled lengths list entered_ties (vs ++ map role_view (placed_roles stage from n (length vs)))
    tie_adopt =
        let split : adopted ≡ vs ++ map role_view (placed_roles stage from n (length vs)) =
        append_assoc vs cells (role_view (roles.Placed from n) ∷ [])
        ∙ ap (λ (l : List SeatView). vs ++ l)
        (sym (map-append role_view (cell_roles (map stage (range_with_len from n))) (roles.Placed from n ∷ []))) in
        subst (TiedBy limit base filled lengths list entered_ties) split
        (record {
          shown = tied.shown;
          seats = seats_adopted;
          apart = row_apart ties from n (length vs) row_free nowhere tied.apart;
          bare = λ q none. tied.bare q (row_bare ties from n (length vs) row_free nowhere tied.apart q none);
          entered = entered_adopted;
          each =
              each_at_end (λ _. Knows base lengths entered_ties) mid (role_view (roles.Placed from n))
              (role_knows base lengths entered_ties (roles.Placed from n))
              (each_mid (λ _. Knows base lengths entered_ties) knows_adopted
              (λ j a. role_knows base lengths entered_ties (roles.Cell a)));
          each_role =
              each_at_end (λ j u. IsRole entered_ties adopted j u.role) mid (role_view (roles.Placed from n))
              (placed_role entered_ties adopted (length mid) from n
              (record { first = length vs; ends = sym mid_long; cells = λ i less. seat_new ties from n (length vs) i less }))
              (each_mid (λ j u. IsRole entered_ties adopted j u.role) role_adopted (λ j a. cell_role entered_ties adopted j a));
        })
