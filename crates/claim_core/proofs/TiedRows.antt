-- The rule of tied seats after cells, blocks and entries are made, and after the entry of a block is set.
use Rattle.std.proofs.Common.{◌≡◌, ◌≢◌, ◌⊎◌, ℕ, zero, suc, ◌+◌, ◌-◌, ◌<◌, ◌≤◌, nat_le, nat_lt, ◌&&◌, if◌then◌else◌, Bool, true, false, List, [], ◌∷◌, ◌++◌, length, map, set, replicate, Option, Some, None, refl, ap, sym, ◌∙◌, subst, inl, inr, ⊎_elim, arith, append_assoc, length-append}
use Rattle.std.specs.List.{range_with_len}
use Rattle.std.proofs.lemmas.Bool.{cases_lt}
use Rattle.std.proofs.lemmas.Bool.Decides.{nat_tests}
use Rattle.std.proofs.lemmas.List.{append-nil, map-append, length-map, length-replicate}
use Rattle.std.proofs.lemmas.Option.{none-some, same_Some}
use mathlib.Core.Option.{some, some-injective, some-ne-none}
use lib.ListN.{get_elem?}
use Rattle.atomic_table.proofs.Lists.{at_longer, set_else}
use Rattle.book_core.specs.Cells.{CellList}
use Rattle.claim_core.specs.declared.role.CellStage.{CellStage}
use Rattle.claim_core.specs.declared.role.CellStage.TheVariants as stages
use Rattle.claim_core.specs.declared.role.Role.{Role}
use Rattle.claim_core.specs.declared.role.Role.TheVariants as roles
use Rattle.claim_core.specs.declared.role.RowAt.{RowAt}
use Rattle.claim_core.specs.declared.seat_view.SeatView.{SeatView}
use Rattle.claim_core.specs.SeatView.{spent_view}
use Rattle.claim_core.specs.SeatSteps.{cell_roles}
use Rattle.claim_core.specs.Ties.{Ties, role_view, cell_view, first_stage, IsInRow, Finds, Knows, IsBlock, IsEmptyEntry, IsPlaced, IsRole, TiedBy}
use Rattle.claim_core.proofs.TiedViews.{at_below, same_view, two_seats, each_at, cell_is_no_hand, cell_is_no_block, cell_is_no_entry, hand_role, cell_role, is_hand_role, role_knows, tie_snoc}

-- ---- Lists of views

-- a member of the second of two lists
pub at_middle : (vs ws : List SeatView) (i : ℕ) → get_elem? (vs ++ ws) (length vs + i) ≡ get_elem? ws i
at_middle [] ws i = let same : 0 + i ≡ i = omega arith in ap (get_elem? ws) same
at_middle (v ∷ vs) ws i =
    let next : length (v ∷ vs) + i ≡ suc (length vs + i) = omega arith in
    ap (get_elem? (v ∷ (vs ++ ws))) next ∙ at_middle vs ws i

-- a change in the first of two lists
pub set_front : (vs ws : List SeatView) (i : ℕ) (w : SeatView) → i < length vs → set (vs ++ ws) i w ≡ set vs i w ++ ws
set_front [] ws i w lt = absurd (omega arith)
set_front (v ∷ vs) ws zero w lt = refl
set_front (v ∷ vs) ws (suc i) w lt = ap (λ (l : List SeatView). v ∷ l) (set_front vs ws i w (omega arith))

-- the views of cells, one by one
pub cells_at : (xs : List CellStage) (i : ℕ) (a : CellStage) → get_elem? xs i ≡ some a
    → get_elem? (map role_view (cell_roles xs)) i ≡ some (cell_view a)
cells_at [] i a at = absurd (some-ne-none a (sym at))
cells_at (x ∷ xs) zero a at = ap (λ (b : CellStage). some (cell_view b)) (some-injective x a at)
cells_at (x ∷ xs) (suc i) a at = cells_at xs i a at

pub copies_at : (n i : ℕ) (a : CellStage) → i < n → get_elem? (replicate n a) i ≡ some a
copies_at zero i a lt = absurd (omega arith)
copies_at (suc n) zero a lt = refl
copies_at (suc n) (suc i) a lt = copies_at n i a (omega arith)

pub stages_at : (stage : ℕ → CellStage) (from n i : ℕ) → i < n
    → get_elem? (map stage (range_with_len from n)) i ≡ some (stage (from + i))
stages_at stage from zero i lt = absurd (omega arith)
stages_at stage from (suc n) zero lt = let same : from ≡ from + 0 = omega arith in ap (λ (p : ℕ). some (stage p)) same
stages_at stage from (suc n) (suc i) lt =
    let same : (from + 1) + i ≡ from + suc i = omega arith in
    stages_at stage (from + 1) n i (omega arith) ∙ ap (λ (p : ℕ). some (stage p)) same

-- ---- A row of places

-- the place is one of the n from here on
abbrev pub in_row : ℕ → ℕ → ℕ → Bool
in_row from n place = nat_le from place && nat_lt place (from + n)

row_inside : (from n place : ℕ) → from ≤ place → place < from + n → in_row from n place ≡ true
row_inside from n place after inside = grind (arith, nat_tests)

row_before : (from n place : ℕ) → place < from → in_row from n place ≡ false
row_before from n place before = grind (arith, nat_tests)

row_past : (from n place : ℕ) → from + n ≤ place → in_row from n place ≡ false
row_past from n place past = grind (arith, nat_tests)

-- it is, or is not
pub row_cases : (from n place : ℕ)
    → ((in_row from n place ≡ true) × (from ≤ place) × (place < from + n)) ⊎ ((in_row from n place ≡ false) × ((i : ℕ) → i < n → place ≢ from + i))
row_cases from n place =
    ⊎_elim
    (λ (before : place < from). inr (row_before from n place before, (λ i less is. absurd (omega arith))))
    (λ (after : from ≤ place).
    ⊎_elim
    (λ (inside : place < from + n). inl (row_inside from n place after inside, after, inside))
    (λ (beyond : from + n ≤ place). inr (row_past from n place beyond, (λ i less is. absurd (omega arith))))
    (cases_lt place (from + n)))
    (cases_lt place from)

-- the cells of these places have the seats from `first` on
abbrev pub with_row : Ties → ℕ → ℕ → ℕ → Ties
with_row ties from n first =
    record {
      seat_of = λ q. if in_row from n q then Some (first + (q - from)) else ties.seat_of q;
      entry_of = ties.entry_of;
      stage = ties.stage;
    }

-- the entry of these places is made with this seat
abbrev pub with_entry : Ties → ℕ → ℕ → ℕ → Ties
with_entry ties from n seat =
    record {
      seat_of = ties.seat_of;
      entry_of = λ q. if in_row from n q then Some seat else ties.entry_of q;
      stage = ties.stage;
    }

-- a place is one of the row, or has the seat that it had
pub seat_cases : (ties : Ties) (from n first q : ℕ)
    → ((i : ℕ) × (i < n) × (q ≡ from + i) × ((with_row ties from n first).seat_of q ≡ Some (first + i)))
    ⊎ (((i : ℕ) → i < n → q ≢ from + i) × ((with_row ties from n first).seat_of q ≡ ties.seat_of q))
seat_cases ties from n first q =
    ⊎_elim
    (λ (c : (in_row from n q ≡ true) × (from ≤ q) × (q < from + n)).
    let low = c.1 in
    let high = c.2 in
    inl (q - from, omega arith, omega arith, rw (c.0) refl))
    (λ (c : (in_row from n q ≡ false) × ((i : ℕ) → i < n → q ≢ from + i)). inr (c.1, rw (c.0) refl))
    (row_cases from n q)

pub entry_cases : (ties : Ties) (from n seat q : ℕ)
    → ((i : ℕ) × (i < n) × (q ≡ from + i) × ((with_entry ties from n seat).entry_of q ≡ Some seat))
    ⊎ (((i : ℕ) → i < n → q ≢ from + i) × ((with_entry ties from n seat).entry_of q ≡ ties.entry_of q))
entry_cases ties from n seat q =
    ⊎_elim
    (λ (c : (in_row from n q ≡ true) × (from ≤ q) × (q < from + n)).
    let low = c.1 in
    let high = c.2 in
    inl (q - from, omega arith, omega arith, rw (c.0) refl))
    (λ (c : (in_row from n q ≡ false) × ((i : ℕ) → i < n → q ≢ from + i)). inr (c.1, rw (c.0) refl))
    (row_cases from n q)

-- the seat of a place of the row
pub seat_new : (ties : Ties) (from n first i : ℕ) → i < n → (with_row ties from n first).seat_of (from + i) ≡ Some (first + i)
seat_new ties from n first i less =
    ⊎_elim
    (λ (c : (k : ℕ) × (k < n) × (from + i ≡ from + k) × ((with_row ties from n first).seat_of (from + i) ≡ Some (first + k))).
    let is = c.2 in
    let same : c.0 ≡ i = omega arith in
    c.3 ∙ ap (λ (k : ℕ). Some (first + k)) same)
    (λ (c : ((k : ℕ) → k < n → from + i ≢ from + k) × ((with_row ties from n first).seat_of (from + i) ≡ ties.seat_of (from + i))).
    absurd (c.0 i less refl))
    (seat_cases ties from n first (from + i))

pub entry_new : (ties : Ties) (from n seat i : ℕ) → i < n → (with_entry ties from n seat).entry_of (from + i) ≡ Some seat
entry_new ties from n seat i less =
    ⊎_elim
    (λ (c : (k : ℕ) × (k < n) × (from + i ≡ from + k) × ((with_entry ties from n seat).entry_of (from + i) ≡ Some seat)). c.3)
    (λ (c : ((k : ℕ) → k < n → from + i ≢ from + k) × ((with_entry ties from n seat).entry_of (from + i) ≡ ties.entry_of (from + i))).
    absurd (c.0 i less refl))
    (entry_cases ties from n seat (from + i))

-- places from the base on are idle when the word is opened
pub first_idle : (base : ℕ) (filled : List Bool) (place : ℕ) → base ≤ place → first_stage base filled place ≡ stages.Idle
first_idle base filled place past = let no : nat_lt place base ≡ false = grind (arith, nat_tests) in rw no refl

-- one more row among those that a seat knows
pub finds_cases : (row : RowAt) (rows : List RowAt) (place seat : ℕ) → Finds (row ∷ rows) place seat
    → IsInRow row place seat ⊎ Finds rows place seat
finds_cases row rows place seat (r, (zero, lt, is), there) = inl (subst (λ (x : RowAt). IsInRow x place seat) (sym is) there)
finds_cases row rows place seat (r, (suc i, lt, is), there) = inr (r, (i, omega arith, is), there)

-- ---- Roles

-- the role of a block
pub block_role : (ties : Ties) (views : List SeatView) (id first n : ℕ) → IsBlock ties views id first n
    → IsRole ties views id (roles.Block first n)
block_role ties views id first n is_block = record {
  block = λ f m is.
      let same_first : first ≡ f = cc is in
      let same_n : n ≡ m = cc is in
      subst (λ (k : ℕ). IsBlock ties views id k m) same_first (subst (IsBlock ties views id first) same_n is_block);
  empty = λ from m is. absurd (cc is);
  placed = λ from m is. absurd (cc is);
}

-- the role of a block that an entry is set to
pub placed_role : (ties : Ties) (views : List SeatView) (id from n : ℕ) → IsPlaced ties id from n
    → IsRole ties views id (roles.Placed from n)
placed_role ties views id from n is_placed = record {
  block = λ first m is. absurd (cc is);
  empty = λ f m is. absurd (cc is);
  placed = λ f m is.
      let same_from : from ≡ f = cc is in
      let same_n : n ≡ m = cc is in
      subst (λ (k : ℕ). IsPlaced ties id k m) same_from (subst (IsPlaced ties id from) same_n is_placed);
}

-- the role of an entry that is not set
pub empty_role : (ties : Ties) (views : List SeatView) (id from n : ℕ) → IsEmptyEntry ties id from n
    → IsRole ties views id (roles.EmptyEntry from n)
empty_role ties views id from n is_empty = record {
  block = λ first m is. absurd (cc is);
  empty = λ f m is.
      let same_from : from ≡ f = cc is in
      let same_n : n ≡ m = cc is in
      subst (λ (k : ℕ). IsEmptyEntry ties id k m) same_from (subst (IsEmptyEntry ties id from) same_n is_empty);
  placed = λ f m is. absurd (cc is);
}

-- ---- Blocks

-- the roles of n idle cells, and of the block that they are
abbrev pub block_roles : ℕ → ℕ → List Role
block_roles n first = cell_roles (replicate n stages.Idle) ++ roles.Block first n ∷ []

-- the views of cells that are all at one stage
copies_seen : (n : ℕ) (a : CellStage) → map role_view (cell_roles (replicate n a)) ≡ replicate n (cell_view a)
copies_seen zero a = refl
copies_seen (suc n) a = ap (λ (l : List SeatView). cell_view a ∷ l) (copies_seen n a)

-- the views with those of a block and its cells
pub block_seen : (vs : List SeatView) (n first : ℕ)
    → vs ++ map role_view (block_roles n first) ≡ (vs ++ replicate n (cell_view stages.Idle)) ++ role_view (roles.Block first n) ∷ []
block_seen vs n first =
    let cells = cell_roles (replicate n stages.Idle) in
    let block = roles.Block first n ∷ [] in
    ap (λ (l : List SeatView). vs ++ l) (map-append role_view cells block)
    ∙ (sym (append_assoc vs (map role_view cells) (map role_view block))
    ∙ ap (λ (l : List SeatView). (vs ++ l) ++ map role_view block) (copies_seen n stages.Idle))

module _
    (limit base : ℕ) (filled : List Bool) (lengths : List ℕ) (list : CellList) (ties : Ties) where
  -- cells are made, which belong to no place
  pub tie_cells : (xs : List CellStage) (vs : List SeatView) → TiedBy limit base filled lengths list ties vs
      → TiedBy limit base filled lengths list ties (vs ++ map role_view (cell_roles xs))
  tie_cells [] vs tied = subst (TiedBy limit base filled lengths list ties) (sym (append-nil vs)) tied
  tie_cells (x ∷ xs) vs tied =
      subst (TiedBy limit base filled lengths list ties) (append_assoc vs (cell_view x ∷ []) (map role_view (cell_roles xs)))
      (tie_cells xs (vs ++ cell_view x ∷ [])
      (tie_snoc limit base filled lengths list ties vs tied (cell_view x) (role_knows base lengths ties (roles.Cell x))
      (cell_role ties (vs ++ cell_view x ∷ []) (length vs) x)))

  -- a block is made, and its cells
  pub tie_block : (n : ℕ) (vs : List SeatView) → TiedBy limit base filled lengths list ties vs
      → TiedBy limit base filled lengths list ties (vs ++ map role_view (block_roles n (length vs)))
  tie_block n vs tied =
      let cells = map role_view (cell_roles (replicate n stages.Idle)) in
      let block = role_view (roles.Block (length vs) n) in
      let mid = vs ++ cells in
      let long : length cells ≡ n = length-map (cell_roles (replicate n stages.Idle)) role_view ∙ (length-map (replicate n stages.Idle) _ ∙ length-replicate n stages.Idle) in
      let last : length mid ≡ length vs + n = length-append vs cells ∙ ap (λ k. length vs + k) long in
      let split : mid ++ block ∷ [] ≡ vs ++ map role_view (block_roles n (length vs)) =
      append_assoc vs cells (block ∷ []) ∙ ap (λ (l : List SeatView). vs ++ l) (sym (map-append role_view (cell_roles (replicate n stages.Idle)) (roles.Block (length vs) n ∷ []))) in
      let is_block : IsBlock ties (mid ++ block ∷ []) (length mid) (length vs) n =
      record {
        ends = sym last;
        idle = λ i less.
            at_longer mid (block ∷ []) (length vs + i) (cell_view stages.Idle)
            (at_middle vs cells i ∙ cells_at (replicate n stages.Idle) i stages.Idle (copies_at n i stages.Idle less));
        nowhere = λ i place less there.
            let lt = at_below vs (length vs + i) (cell_view (ties.stage place)) (tied.seats place (length vs + i) there) in
            absurd (omega arith);
      } in
      subst (TiedBy limit base filled lengths list ties) split
      (tie_snoc limit base filled lengths list ties mid (tie_cells (replicate n stages.Idle) vs tied) block
      (role_knows base lengths ties (roles.Block (length vs) n))
      (block_role ties (mid ++ block ∷ []) (length mid) (length vs) n is_block))

-- ---- A row whose cells get seats

module _
    (ties : Ties) (from n first : ℕ) (bare : (i : ℕ) → i < n → ties.seat_of (from + i) ≡ None)
    (nowhere : (i q : ℕ) → i < n → ties.seat_of q ≡ Some (first + i) → ⊥)
    (apart : (q r j : ℕ) → ties.seat_of q ≡ Some j → ties.seat_of r ≡ Some j → q ≡ r) where
  -- the seats after that
  abbrev row : ℕ → Option ℕ
  row = (with_row ties from n first).seat_of

  -- a place that had a seat has it still
  pub row_grows : (q j : ℕ) → ties.seat_of q ≡ Some j → row q ≡ Some j
  row_grows q j had =
      ⊎_elim
      (λ (c : (i : ℕ) × (i < n) × (q ≡ from + i) × (row q ≡ Some (first + i))).
      absurd (none-some j (sym (ap ties.seat_of (c.2) ∙ bare (c.0) (c.1)) ∙ had)))
      (λ (c : ((i : ℕ) → i < n → q ≢ from + i) × (row q ≡ ties.seat_of q)). c.1 ∙ had)
      (seat_cases ties from n first q)

  -- no two places have one seat
  pub row_apart : (q r j : ℕ) → row q ≡ Some j → row r ≡ Some j → q ≡ r
  row_apart q r j has also =
      ⊎_elim
      (λ (c : (i : ℕ) × (i < n) × (q ≡ from + i) × (row q ≡ Some (first + i))).
      let here : first + c.0 ≡ j = same_Some (first + c.0) j (sym (c.3) ∙ has) in
      ⊎_elim
      (λ (d : (i : ℕ) × (i < n) × (r ≡ from + i) × (row r ≡ Some (first + i))).
      let there : first + d.0 ≡ j = same_Some (first + d.0) j (sym (d.3) ∙ also) in
      let x = c.2 in
      let y = d.2 in
      omega arith)
      (λ (d : ((i : ℕ) → i < n → r ≢ from + i) × (row r ≡ ties.seat_of r)).
      absurd (nowhere (c.0) r (c.1) (sym (d.1) ∙ (also ∙ ap Some (sym here)))))
      (seat_cases ties from n first r))
      (λ (c : ((i : ℕ) → i < n → q ≢ from + i) × (row q ≡ ties.seat_of q)).
      ⊎_elim
      (λ (d : (i : ℕ) × (i < n) × (r ≡ from + i) × (row r ≡ Some (first + i))).
      let there : first + d.0 ≡ j = same_Some (first + d.0) j (sym (d.3) ∙ also) in
      absurd (nowhere (d.0) q (d.1) (sym (c.1) ∙ (has ∙ ap Some (sym there)))))
      (λ (d : ((i : ℕ) → i < n → r ≢ from + i) × (row r ≡ ties.seat_of r)). apart q r j (sym (c.1) ∙ has) (sym (d.1) ∙ also))
      (seat_cases ties from n first r))
      (seat_cases ties from n first q)

  -- a place without a seat had none
  pub row_bare : (q : ℕ) → row q ≡ None → ties.seat_of q ≡ None
  row_bare q none =
      ⊎_elim
      (λ (c : (i : ℕ) × (i < n) × (q ≡ from + i) × (row q ≡ Some (first + i))).
      absurd (none-some (first + c.0) (sym none ∙ c.3)))
      (λ (c : ((i : ℕ) → i < n → q ≢ from + i) × (row q ≡ ties.seat_of q)). sym (c.1) ∙ none)
      (seat_cases ties from n first q)

-- ---- The entry of a block is set

-- what an entry is, from its seat
pub entry_here : (ties : Ties) (views : List SeatView) (id from n : ℕ) → IsRole ties views id (roles.EmptyEntry from n)
    → IsEmptyEntry ties id from n
entry_here ties views id from n role = role.empty from n refl

-- what a block is, from its seat
pub block_here : (ties : Ties) (views : List SeatView) (id first n : ℕ) → IsRole ties views id (roles.Block first n)
    → IsBlock ties views id first n
block_here ties views id first n role = role.block first n refl

-- the places of a block, from its seat
pub placed_here : (ties : Ties) (views : List SeatView) (id from n : ℕ) → IsRole ties views id (roles.Placed from n)
    → IsPlaced ties id from n
placed_here ties views id from n role = role.placed from n refl

module _
    (limit base : ℕ) (filled : List Bool) (lengths : List ℕ) (list : CellList) (ties : Ties) (vs : List SeatView)
    (tied : TiedBy limit base filled lengths list ties vs) where
  -- blocks are apart: a seat that is one of two blocks' is a cell's, and so no block's
  pub blocks_apart : (k j first n first' n' i i' : ℕ) → IsBlock ties vs k first n → IsBlock ties vs j first' n'
      → (x y : SeatView) → get_elem? vs k ≡ some x → get_elem? vs j ≡ some y
      → ((a : CellStage) → x.role ≡ roles.Cell a → ⊥) → ((a : CellStage) → y.role ≡ roles.Cell a → ⊥)
      → j ≢ k → i < n → i' < n' → first + i ≡ first' + i' → ⊥
  blocks_apart k j first n first' n' i i' b b' x y at_k at_j no_cell also_no other less less' same =
      let e = b.ends in
      let e' = b'.ends in
      ⊎_elim
      (λ (before : k < j).
      let within : k - first' < n' = omega arith in
      let is : first' + (k - first') ≡ k = omega arith in
      let cell : get_elem? vs k ≡ some (cell_view stages.Idle) = ap (get_elem? vs) (sym is) ∙ b'.idle (k - first') within in
      no_cell stages.Idle (ap (λ (u : SeatView). u.role) (same_view vs k x (cell_view stages.Idle) at_k cell)))
      (λ (after : j ≤ k).
      ⊎_elim
      (λ (less_than : j < k).
      let within : j - first < n = omega arith in
      let is : first + (j - first) ≡ j = omega arith in
      let cell : get_elem? vs j ≡ some (cell_view stages.Idle) = ap (get_elem? vs) (sym is) ∙ b.idle (j - first) within in
      also_no stages.Idle (ap (λ (u : SeatView). u.role) (same_view vs j y (cell_view stages.Idle) at_j cell)))
      (λ (not_less : k ≤ j). other (omega arith))
      (cases_lt j k))
      (cases_lt k j)

  -- The entry of n places, which is not set, is set to a block: the entry's seat is spent, the block's seat says
  -- which places it has, and a hand has another view
  module _
      (id : ℕ) (v : SeatView) (at : get_elem? vs id ≡ some v) (is_hand : v.role ≡ roles.Hand) (entry seat from first n : ℕ)
      (at_entry : get_elem? vs entry ≡ some (role_view (roles.EmptyEntry from n)))
      (at_seat : get_elem? vs seat ≡ some (role_view (roles.Block first n))) (w : SeatView) where
    -- the views and the seats after that
    abbrev published : List SeatView
    published = set (set (set vs entry spent_view) seat (role_view (roles.Placed from n))) id w

    abbrev ties' : Ties
    ties' = with_row ties from n first

    is_empty : IsEmptyEntry ties entry from n
    is_empty = entry_here ties vs entry from n (tied.each_role entry (role_view (roles.EmptyEntry from n)) at_entry)

    is_block : IsBlock ties vs seat first n
    is_block = block_here ties vs seat first n (tied.each_role seat (role_view (roles.Block first n)) at_seat)

    -- views of cells stay
    cells_stay : (j : ℕ) (a : CellStage) → get_elem? vs j ≡ some (cell_view a) → get_elem? published j ≡ some (cell_view a)
    cells_stay j a here =
        set_else (set (set vs entry spent_view) seat (role_view (roles.Placed from n))) id j w
        (two_seats vs j id (cell_view a) v here at (λ same. cell_is_no_hand a (same ∙ is_hand)))
        ∙ (set_else (set vs entry spent_view) seat j (role_view (roles.Placed from n))
        (two_seats vs j seat (cell_view a) (role_view (roles.Block first n)) here at_seat (λ same. cell_is_no_block a first n same))
        ∙ (set_else vs entry j spent_view
        (two_seats vs j entry (cell_view a) (role_view (roles.EmptyEntry from n)) here at_entry (λ same. cell_is_no_entry a from n same))
        ∙ here))

    -- a place that had a seat has it still
    seats_grow : (q j : ℕ) → ties.seat_of q ≡ Some j → ties'.seat_of q ≡ Some j
    seats_grow = row_grows ties from n first is_empty.bare is_block.nowhere tied.apart

    -- the places of the row are idle
    row_idle : (i q : ℕ) → i < n → q ≡ from + i → ties.stage q ≡ stages.Idle
    row_idle i q less is = ap ties.stage is ∙ is_empty.idle i less

    seats_after : (q j : ℕ) → ties'.seat_of q ≡ Some j → get_elem? published j ≡ some (cell_view (ties.stage q))
    seats_after q j has =
        ⊎_elim
        (λ (c : (i : ℕ) × (i < n) × (q ≡ from + i) × (ties'.seat_of q ≡ Some (first + i))).
        let is : first + c.0 ≡ j = same_Some (first + c.0) j (sym (c.3) ∙ has) in
        subst (λ (k : ℕ). get_elem? published k ≡ some (cell_view (ties.stage q))) is
        (cells_stay (first + c.0) stages.Idle (is_block.idle (c.0) (c.1))
        ∙ ap (λ (a : CellStage). some (cell_view a)) (sym (row_idle (c.0) q (c.1) (c.2)))))
        (λ (c : ((i : ℕ) → i < n → q ≢ from + i) × (ties'.seat_of q ≡ ties.seat_of q)).
        cells_stay j (ties.stage q) (tied.seats q j (sym (c.1) ∙ has)))
        (seat_cases ties from n first q)

    entered_after : (q : ℕ) → ties.entry_of q ≡ None → ties'.seat_of q ≡ None
    entered_after q none =
        ⊎_elim
        (λ (c : (i : ℕ) × (i < n) × (q ≡ from + i) × (ties'.seat_of q ≡ Some (first + i))).
        absurd (none-some entry (sym none ∙ (ap ties.entry_of (c.2) ∙ is_empty.entry (c.0) (c.1)))))
        (λ (c : ((i : ℕ) → i < n → q ≢ from + i) × (ties'.seat_of q ≡ ties.seat_of q)). c.1 ∙ tied.entered q none)
        (seat_cases ties from n first q)

    -- what a seat knew is true still
    pub knows_published : (u : SeatView) → Knows base lengths ties u → Knows base lengths ties' u
    knows_published u knows = record {
      finds = λ q j found. seats_grow q j (knows.finds q j found);
      busy = knows.busy;
      within = knows.within;
      own = knows.own;
      unlaid = knows.unlaid;
      hand = knows.hand;
    }

    -- what the roles of other seats say
    role_published : (j : ℕ) (u : SeatView) → j ≢ seat → j ≢ entry → get_elem? vs j ≡ some u → IsRole ties' published j u.role
    role_published j u not_seat not_entry here =
        let was = tied.each_role j u here in
        record {
          block = λ first' n' is.
              let b = was.block first' n' is in
              record {
                ends = b.ends;
                idle = λ i less. cells_stay (first' + i) stages.Idle (b.idle i less);
                nowhere = λ i' q less' has.
                    ⊎_elim
                    (λ (c : (i : ℕ) × (i < n) × (q ≡ from + i) × (ties'.seat_of q ≡ Some (first + i))).
                    blocks_apart seat j first n first' n' (c.0) i' is_block b (role_view (roles.Block first n)) u at_seat here
                    (λ a same. cell_is_no_block a first n (sym same)) (λ a same. cell_is_no_block a first' n' (sym same ∙ is)) not_seat (c.1) less'
                    (same_Some (first + c.0) (first' + i') (sym (c.3) ∙ has)))
                    (λ (c : ((i : ℕ) → i < n → q ≢ from + i) × (ties'.seat_of q ≡ ties.seat_of q)).
                    b.nowhere i' q less' (sym (c.1) ∙ has))
                    (seat_cases ties from n first q);
              };
          empty = λ from' n' is.
              let e = was.empty from' n' is in
              record {
                entry = e.entry;
                bare = λ i' less'.
                    ⊎_elim
                    (λ (c : (i : ℕ) × (i < n) × (from' + i' ≡ from + i) × (ties'.seat_of (from' + i') ≡ Some (first + i))).
                    absurd (not_entry (same_Some j entry
                    (sym (e.entry i' less') ∙ (ap ties.entry_of (c.2) ∙ is_empty.entry (c.0) (c.1))))))
                    (λ (c : ((i : ℕ) → i < n → from' + i' ≢ from + i) × (ties'.seat_of (from' + i') ≡ ties.seat_of (from' + i'))).
                    c.1 ∙ e.bare i' less')
                    (seat_cases ties from n first (from' + i'));
                idle = e.idle;
              };
          placed = λ from' n' is.
              let p = was.placed from' n' is in
              record { first = p.first; ends = p.ends; cells = λ i less. seats_grow (from' + i) (p.first + i) (p.cells i less) };
        }

    pub tie_publish : w.role ≡ roles.Hand → Knows base lengths ties' w
        → TiedBy limit base filled lengths list ties' published
    tie_publish also_hand knows =
        record {
          shown = tied.shown;
          seats = seats_after;
          apart = row_apart ties from n first is_empty.bare is_block.nowhere tied.apart;
          bare = λ q none. tied.bare q (row_bare ties from n first is_empty.bare is_block.nowhere tied.apart q none);
          entered = entered_after;
          each =
              each_at (λ _. Knows base lengths ties') (set (set vs entry spent_view) seat (role_view (roles.Placed from n))) id w knows
              (λ j u _ after.
              each_at (λ _. Knows base lengths ties') (set vs entry spent_view) seat (role_view (roles.Placed from n))
              (role_knows base lengths ties' (roles.Placed from n))
              (λ i x _ before.
              each_at (λ _. Knows base lengths ties') vs entry spent_view (role_knows base lengths ties' roles.Hand)
              (λ k y _ was. knows_published y (tied.each k y was))
              i x before)
              j u after);
          each_role =
              each_at (λ j u. IsRole ties' published j u.role) (set (set vs entry spent_view) seat (role_view (roles.Placed from n))) id w
              (is_hand_role ties' published id w also_hand)
              (λ j u _ after.
              each_at (λ i x. IsRole ties' published i x.role) (set vs entry spent_view) seat (role_view (roles.Placed from n))
              (placed_role ties' published seat from n
              (record { first = first; ends = is_block.ends; cells = λ i less. seat_new ties from n first i less }))
              (λ i x not_seat before.
              each_at (λ k y. k ≢ seat → IsRole ties' published k y.role) vs entry spent_view
              (λ _. hand_role ties' published entry)
              (λ k y not_entry was not_seat. role_published k y not_seat not_entry was)
              i x before not_seat)
              j u after);
        }
