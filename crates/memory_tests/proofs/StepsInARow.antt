-- Steps of a hand on a cell and its entry, by the public laws of the word's rule.
use Rattle.std.proofs.Common.{◌≡◌, ◌≢◌, ℕ, zero, suc, ◌+◌, ◌<◌, ◌≤◌, List, [], ◌∷◌, ◌++◌, length, length-append, set, refl, ap, sym, ◌∙◌, subst, inl, inr, arith}
use mathlib.Core.Option.{some, some-injective, some-ne-none}
use lib.ListN.{get_elem?}
use Rattle.claim_core.specs.declared.role.CellStage.{CellStage}
use Rattle.claim_core.specs.declared.role.CellStage.TheVariants as stages
use Rattle.claim_core.specs.declared.role.Role.{Role}
use Rattle.claim_core.specs.declared.role.Role.TheVariants as roles
use Rattle.claim_core.specs.declared.role.RowAt.{RowAt}
use Rattle.claim_core.specs.declared.seat_view.SeatView.{SeatView}
use Rattle.claim_core.specs.declared.terms.Terms.{Terms}
use Rattle.claim_core.specs.History.{fill_event}
use Rattle.claim_core.specs.Laws.{EventsFollow}
use Rattle.claim_core.specs.Lengths.{InRun}
use Rattle.claim_core.specs.SeatView.{spent_view}
use Rattle.claim_core.specs.SeatSteps.{ClaimState, with_views, SeesIn}
use Rattle.claim_core.specs.Ties.{role_view, cell_view, Finds}
use Rattle.claim_core.specs.Rule.{Kept}
use Rattle.claim_core.specs.StepLaws.{IsHandSeat, FindsPlace, BeginsArePermitted, FillsArePermitted, EntriesArePermitted, LayingIsPermitted, PublishingIsPermitted}
use Rattle.memory_tests.specs.Steps.{Stands, BegunPlacesAreFilled, UnknownPlacesAreNotBegun, PlacesArePublished}

-- a view that was set, and the others
view_here : (vs : List SeatView) (i : ℕ) (v w : SeatView) → get_elem? vs i ≡ some v → get_elem? (set vs i w) i ≡ some w
view_here [] i v w at = absurd (some-ne-none v (sym at))
view_here (x ∷ xs) zero v w at = refl
view_here (x ∷ xs) (suc i) v w at = view_here xs i v w at

view_else : (vs : List SeatView) (i j : ℕ) (w : SeatView) → j ≢ i → get_elem? (set vs i w) j ≡ get_elem? vs j
view_else [] i j w other = refl
view_else (x ∷ xs) zero zero w other = absurd (other refl)
view_else (x ∷ xs) zero (suc j) w other = refl
view_else (x ∷ xs) (suc i) zero w other = refl
view_else (x ∷ xs) (suc i) (suc j) w other = view_else xs i j w (λ e. other (ap suc e))

-- a seat with shares is no cell's
apart : (vs : List SeatView) (id seat : ℕ) (v : SeatView) (stage : CellStage) → 0 < v.shares → get_elem? vs id ≡ some v
    → get_elem? vs seat ≡ some (cell_view stage) → seat ≢ id
apart vs id seat v stage part at cell same =
    let is : v ≡ cell_view stage = some-injective v (cell_view stage) (sym at ∙ (ap (get_elem? vs) (sym same) ∙ cell)) in
    let none : v.shares ≡ 0 = ap (λ (u : SeatView). u.shares) is in
    absurd (omega arith)

-- after a step both seats have their new views
stands_after : (terms : Terms) (s : ClaimState) (id seat : ℕ) (v w : SeatView) (stage after : CellStage) → 0 < v.shares
    → Stands terms s id seat v stage → Kept terms (with_views s (set (set s.views id w) seat (cell_view after)))
    → Stands terms (with_views s (set (set s.views id w) seat (cell_view after))) id seat w after
stands_after terms s id seat v w stage after part stands kept =
    let other = apart s.views id seat v stage part stands.hand stands.cell in
    record {
      kept = kept;
      hand = view_else (set s.views id w) seat id (cell_view after) (λ e. other (sym e)) ∙ view_here s.views id v w stands.hand;
      cell =
          view_here (set s.views id w) seat (cell_view stage) (cell_view after)
          (view_else s.views id seat w other ∙ stands.cell);
    }

pub begun_filled : BeginsArePermitted → FillsArePermitted → EventsFollow → BegunPlacesAreFilled
begun_filled begins fills follow terms s id seat place index v at owns unknown stands =
    let hand = at.hand in
    let first = begins terms id seat place index v at owns unknown stages.Idle stages.Begun (inl refl, refl) s stands.kept stands.hand stands.cell in
    let w = first.0 in
    let begun = first.2.1 in
    let same = begun.same in
    let mid = with_views s (set (set s.views id w) seat (cell_view stages.Begun)) in
    let between = stands_after terms s id seat v w stages.Idle stages.Begun hand.part stands first.1 in
    let now : IsHandSeat terms w =
    record {
      limit = same.limit ∙ hand.limit;
      base = same.base ∙ hand.base;
      filled = same.filled ∙ hand.filled;
      part = subst (λ (n : ℕ). 0 < n) (sym same.shares) hand.part;
    } in
    let found : FindsPlace terms w place seat =
    record { hand = now; found = subst (λ (rs : List RowAt). Finds rs place seat) (sym same.rows) at.found } in
    let sees : SeesIn w index place =
    inl (subst (λ (b : ℕ). InRun b w.seen index place) (sym same.base) (subst (λ (l : List ℕ). InRun v.base l index place) (sym begun.seen) owns.in_run)) in
    let second = fills terms id seat place index w found sees stages.Begun stages.Filled (inl refl, refl) mid between.kept between.hand between.cell in
    record {
      table = with_views mid (set (set mid.views id second.0) seat (cell_view stages.Filled));
      view = second.0;
      stands = stands_after terms mid id seat w second.0 stages.Begun stages.Filled now.part between second.1;
      adds = follow v.log w.log second.0.log [] (fill_event index place ∷ []) begun.log second.2.log;
    }

begun_or_idle : stages.Begun ≡ stages.Idle → ⊥
begun_or_idle e = cc e

pub not_begun : BeginsArePermitted → UnknownPlacesAreNotBegun
not_begun begins terms s id seat place index v at owns unknown stands =
    let first = begins terms id seat place index v at owns unknown stages.Begun stages.Begun (inr refl, refl) s stands.kept stands.hand stands.cell in
    begun_or_idle (first.2.0)

-- ---- A place that is laid and published

view_longer : (vs ms : List SeatView) (i : ℕ) (v : SeatView) → get_elem? vs i ≡ some v → get_elem? (vs ++ ms) i ≡ some v
view_longer [] ms i v at = absurd (some-ne-none v (sym at))
view_longer (x ∷ xs) ms zero v at = at
view_longer (x ∷ xs) ms (suc i) v at = view_longer xs ms i v at

view_last : (vs : List SeatView) (w : SeatView) → get_elem? (vs ++ w ∷ []) (length vs) ≡ some w
view_last [] w = refl
view_last (x ∷ xs) w = view_last xs w

-- a seat with shares is no entry's and no block's
no_role : (vs : List SeatView) (id seat : ℕ) (v : SeatView) (role : Role) → 0 < v.shares → get_elem? vs id ≡ some v
    → get_elem? vs seat ≡ some (role_view role) → id ≢ seat
no_role vs id seat v role part at here same =
    let is : v ≡ role_view role = some-injective v (role_view role) (sym at ∙ (ap (get_elem? vs) same ∙ here)) in
    let none : v.shares ≡ 0 = ap (λ (u : SeatView). u.shares) is in
    absurd (omega arith)

-- a hand's seat stays one with the same terms
hand_stays : (terms : Terms) (v w : SeatView) → IsHandSeat terms v → w.limit ≡ v.limit → w.base ≡ v.base → w.filled ≡ v.filled
    → w.shares ≡ v.shares → IsHandSeat terms w
hand_stays terms v w hand limit base filled shares =
    record {
      limit = limit ∙ hand.limit;
      base = base ∙ hand.base;
      filled = filled ∙ hand.filled;
      part = subst (λ (n : ℕ). 0 < n) (sym shares) hand.part;
    }

pub published : EntriesArePermitted → LayingIsPermitted → PublishingIsPermitted → PlacesArePublished
published enters lays publishes terms s id place v hand whole unlaid past kept at =
    let base : v.base ≤ place = (let b = hand.base in omega (arith, b, past)) in
    let made = enters terms id place 1 v hand whole unlaid base s kept at in
    let w = made.0 in
    let same = made.2.same in
    let now = hand_stays terms v w hand same.limit same.base same.filled same.shares in
    let front = set s.views id w in
    let empty = role_view (roles.EmptyEntry place 1) in
    let one : ClaimState = with_views s (front ++ empty ∷ []) in
    let at_one : get_elem? one.views id ≡ some w = view_longer front (empty ∷ []) id w (view_here s.views id v w at) in
    let entry_one : get_elem? one.views (length front) ≡ some empty = view_last front empty in
    let idle = cell_view stages.Idle in
    let block = role_view (roles.Block (length one.views) 1) in
    let cells = one.views ++ idle ∷ [] in
    let two : ClaimState = with_views one (cells ++ block ∷ []) in
    let laid : Kept terms two = lays terms 1 one made.1 in
    let at_two : get_elem? two.views id ≡ some w = view_longer cells (block ∷ []) id w (view_longer one.views (idle ∷ []) id w at_one) in
    let entry_two : get_elem? two.views (length front) ≡ some empty =
    view_longer cells (block ∷ []) (length front) empty (view_longer one.views (idle ∷ []) (length front) empty entry_one) in
    let cell_two : get_elem? two.views (length one.views) ≡ some idle =
    view_longer cells (block ∷ []) (length one.views) idle (view_last one.views idle) in
    let block_two : get_elem? two.views (length cells) ≡ some block = view_last cells block in
    let first = length one.views in
    let row : RowAt = record { from = place; n = 1; seat = first } in
    let after = publishes terms id (length front) (length cells) place first 1 w now two laid at_two entry_two block_two in
    let u = after.0 in
    let learns = after.2 in
    let hand_now = hand_stays terms w u now learns.same.limit learns.same.base learns.same.filled learns.same.shares in
    let placed = role_view (roles.Placed place 1) in
    let views = set (set two.views id u) (length front) spent_view in
    let long : length one.views ≡ length front + 1 = length-append front (empty ∷ []) in
    let longer : length cells ≡ length one.views + 1 = length-append one.views (idle ∷ []) in
    let no_entry = no_role two.views id (length front) w (roles.EmptyEntry place 1) now.part at_two entry_two in
    let no_block = no_role two.views id (length cells) w (roles.Block first 1) now.part at_two block_two in
    let no_cell = no_role two.views id first w (roles.Cell stages.Idle) now.part at_two cell_two in
    record {
      table = with_views two (set views (length cells) placed);
      seat = first;
      view = u;
      stands = record {
        kept = after.1;
        hand =
            view_else views (length cells) id placed no_block
            ∙ (view_else (set two.views id u) (length front) id spent_view no_entry ∙ view_here two.views id w u at_two);
        cell =
            view_else views (length cells) first placed (λ same. omega arith)
            ∙ (view_else (set two.views id u) (length front) first spent_view (λ same. omega arith)
            ∙ (view_else two.views id first u (λ same. no_cell (sym same)) ∙ cell_two));
      };
      found = record {
        hand = hand_now;
        found =
            subst (λ (rs : List RowAt). Finds rs place first) (sym learns.rows)
            (row, (0, omega arith, refl), record { i = 0; less = omega arith; at = omega arith; in_seat = omega arith });
      };
    }
