-- The rule of tied seats after each kind of step on the word.
use Rattle.std.proofs.Common.{◌≡◌, ◌≢◌, ℕ, ◌+◌, ◌<◌, ◌≤◌, nat_lt, if◌then◌else◌, Bool, true, false, List, [], ◌∷◌, ◌++◌, length, take, get_or, set, replicate, Option, Some, None, slice_get, refl, ap, sym, ◌∙◌, subst, inl, inr, ⊎_elim, arith, length-append}
use Rattle.std.specs.List.{Contains, sum}
use Rattle.std.proofs.Math.Seq.{take-length}
use Rattle.std.proofs.lemmas.Bool.{cases_lt, cases_eq}
use Rattle.std.proofs.lemmas.Bool.Decides.{nat_tests}
use Rattle.std.proofs.lemmas.List.{length-replicate, take-append-le}
use Rattle.std.proofs.lemmas.List.Elements.{Contains-append_cases, Contains-append_left, Contains-append_right}
use Rattle.std.proofs.lemmas.List.FromFn.{length-map-range_with_len}
use Rattle.std.proofs.lemmas.Map.Made.{Contains-tail}
use Rattle.std.proofs.lemmas.Option.{none-some, slice_get_past, slice_get_cases}
use mathlib.Core.Option.{some}
use mathlib.Core.List.{IsPrefix}
use lib.ListN.{get_elem?}
use Rattle.atomic_table.proofs.Lists.{set_else}
use Rattle.book_core.specs.declared.cells.Cell.{Cell}
use Rattle.book_core.specs.declared.cells.Cell.TheVariants.{Pending}
use Rattle.book_core.specs.Cells.{CellList, with_pending}
use Rattle.book_core.proofs.Lists.{get_before, get_appended}
use Rattle.claim_core.specs.declared.role.CellStage.{CellStage}
use Rattle.claim_core.specs.declared.role.CellStage.TheVariants as stages
use Rattle.claim_core.specs.declared.role.Role.TheVariants as roles
use Rattle.claim_core.specs.declared.role.RowAt.{RowAt}
use Rattle.claim_core.specs.declared.seat_view.SeatView.{SeatView}
use Rattle.claim_core.specs.declared.terms.Terms.{Terms}
use Rattle.claim_core.specs.Lengths.{runs_end, InRun}
use Rattle.claim_core.specs.History.{value_cell, broken_cell, first_cell, first_list}
use Rattle.claim_core.specs.SeatView.{longer, first_view, spent_view, joined_view}
use Rattle.claim_core.specs.Ties.{Ties, no_ties, Owed, Matches, Finds, Knows, IsRole, TiedBy}
use Rattle.claim_core.specs.Rule.{Suits}
use Rattle.claim_core.proofs.Prefixes.{prefix_append, prefix_length, prefix_sum, longer_begins}
use Rattle.claim_core.proofs.Counts.{times-from_Contains}
use Rattle.claim_core.proofs.Tiles.{run_stays, run_was_there}
use Rattle.claim_core.proofs.RunLaws.{last_at}
use Rattle.claim_core.proofs.Fits.{each_one}
use Rattle.claim_core.proofs.Logged.{first_at_place}
use Rattle.claim_core.proofs.TiedViews.{each_at, hand_role, is_hand_role, role_stays, role_knows, tie_hand, tie_snoc, cell_stays}

-- ---- The start

first_matches : (limit base place : ℕ) (lengths : List ℕ) (value : Bool)
    → Matches limit base lengths place (Some (if value then value_cell place else broken_cell)) (if value then stages.Filled else stages.Broken)
first_matches limit base place lengths true = refl
first_matches limit base place lengths false = refl

-- the stage that a word begins with matches its list
first_shown : (limit base : ℕ) (filled : List Bool) (place : ℕ) (below : Bool) → nat_lt place base ≡ below
    → Matches limit base [] place (slice_get (first_list limit base filled).cells place)
    (if below then (if get_or filled place false then stages.Filled else stages.Broken) else stages.Idle)
first_shown limit base filled place true is =
    let there : place < base = grind (arith, nat_tests) in
    subst (λ (c : Option Cell). Matches limit base [] place c (if get_or filled place false then stages.Filled else stages.Broken))
    (sym (first_at_place base filled place there))
    (first_matches limit base place [] (get_or filled place false))
first_shown limit base filled place false is =
    let past : base ≤ place = grind (arith, nat_tests) in
    let long : length (first_list limit base filled).cells ≡ base = length-map-range_with_len (first_cell filled) 0 base in
    inl (slice_get_past (first_list limit base filled).cells place (omega (arith, long, past)))

-- a word begins with one hand, and nothing is tied
pub ties_begin : (terms : Terms)
    → TiedBy terms.limit terms.base terms.mark.filled [] (first_list terms.limit terms.base terms.mark.filled) (no_ties terms.base terms.mark.filled)
    (first_view terms ∷ [])
ties_begin terms =
    let ties = no_ties terms.base terms.mark.filled in
    let views : List SeatView = first_view terms ∷ [] in
    record {
      shown = λ place. first_shown terms.limit terms.base terms.mark.filled place (nat_lt place terms.base) refl;
      seats = λ place seat there. absurd (none-some seat there);
      apart = λ place other seat there. absurd (none-some seat there);
      bare = λ place none. refl;
      entered = λ place none. refl;
      each =
          each_one (Knows terms.base [] ties) (first_view terms)
          (record {
            finds = λ place seat found. let t = found.1.1 in absurd (omega arith);
            busy = λ place there. let t = there.1 in absurd (omega arith);
            within = λ place there. let t = there.1 in absurd (omega arith);
            own = λ index place there. let t = there.1 in absurd (omega arith);
            unlaid = λ part place later. refl;
            hand = λ part. refl;
          });
      each_role = λ id v at. each_one (λ u. IsRole ties views id u.role) (first_view terms) (hand_role ties views id) id v at;
    }

-- ---- What a seat knows

-- a seat that knows the same, has seen at least as much, and owns no more
pub knows_less : (base : ℕ) (lengths : List ℕ) (ties : Ties) (v w : SeatView) → Knows base lengths ties v
    → w.rows ≡ v.rows → w.begun ≡ v.begun → IsPrefix v.seen w.seen → ((k : ℕ) → Contains w.mine k → Contains v.mine k)
    → w.laid ≡ v.laid → (0 < w.shares → 0 < v.shares) → w.role ≡ v.role → Knows base lengths ties w
knows_less base lengths ties v w knows rows begun seen mine laid part role =
    record {
      finds = λ place seat found. knows.finds place seat (subst (λ (rs : List RowAt). Finds rs place seat) rows found);
      busy = λ place there. knows.busy place (subst (λ (b : List ℕ). Contains b place) begun there);
      within = λ place there.
          let le = prefix_sum v.seen w.seen seen in
          let lt = knows.within place (subst (λ (b : List ℕ). Contains b place) begun there) in
          omega arith;
      own = λ index place owned in_run busy.
          subst (λ (b : List ℕ). Contains b place) (sym begun) (knows.own index place (mine index owned) in_run busy);
      unlaid = λ has_part place later. knows.unlaid (part has_part) place (let e = laid in omega arith);
      hand = λ has_part. role ∙ knows.hand (part has_part);
    }

-- two hands as one know what either knew
pub knows_both : (base : ℕ) (lengths all : List ℕ) (ties : Ties) (v w : SeatView) → Knows base all ties v → Knows base all ties w
    → IsPrefix v.seen lengths → IsPrefix w.seen lengths → 0 < v.shares → Knows base all ties (joined_view v w)
knows_both base lengths all ties v w knows_v knows_w seen_v seen_w part =
    let begins = longer_begins v.seen w.seen lengths seen_v seen_w in
    record {
      finds = λ place seat found.
          ⊎_elim
          (λ (c : Contains v.rows found.0). knows_v.finds place seat (found.0, c, found.2))
          (λ (c : Contains w.rows found.0). knows_w.finds place seat (found.0, c, found.2))
          (Contains-append_cases v.rows w.rows (found.0) (found.1));
      busy = λ place there.
          ⊎_elim (λ (c : Contains v.begun place). knows_v.busy place c) (λ (c : Contains w.begun place). knows_w.busy place c)
          (Contains-append_cases v.begun w.begun place there);
      within = λ place there.
          ⊎_elim
          (λ (c : Contains v.begun place).
          let le = prefix_sum v.seen (longer v.seen w.seen) (begins.0) in
          let lt = knows_v.within place c in
          omega arith)
          (λ (c : Contains w.begun place).
          let le = prefix_sum w.seen (longer v.seen w.seen) (begins.1) in
          let lt = knows_w.within place c in
          omega arith)
          (Contains-append_cases v.begun w.begun place there);
      own = λ index place owned in_run busy.
          ⊎_elim
          (λ (c : Contains v.mine index). Contains-append_left v.begun w.begun place (knows_v.own index place c in_run busy))
          (λ (c : Contains w.mine index). Contains-append_right v.begun w.begun place (knows_w.own index place c in_run busy))
          (Contains-append_cases v.mine w.mine index owned);
      unlaid = λ _. knows_v.unlaid part;
      hand = λ _. knows_v.hand part;
    }

-- ---- A claim

-- a run that a seat owns is one of those that are claimed
pub owned_below : (lengths : List ℕ) (v : SeatView) → Suits lengths v → (index : ℕ) → Contains v.mine index → index < length lengths
owned_below lengths v suits index owned =
    let t = times-from_Contains v.mine index owned in
    let o = suits.own index in
    let le = prefix_length v.seen lengths suits.seen in
    omega arith

-- a place that is not claimed is idle
pub unclaimed : (limit base : ℕ) (lengths : List ℕ) (place : ℕ) (a : CellStage) → Matches limit base lengths place None a
    → a ≡ stages.Idle
unclaimed limit base lengths place stages.Idle m = refl
unclaimed limit base lengths place stages.Begun m = absurd (none-some (Pending (m.0)) (m.2))
unclaimed limit base lengths place stages.Mending m = absurd (none-some _ m)
unclaimed limit base lengths place stages.Filled m = absurd (none-some _ m)
unclaimed limit base lengths place stages.Broken m = absurd (none-some _ m)

owed_more : (base : ℕ) (lengths : List ℕ) (n place : ℕ) (cell : Option Cell) → Owed base lengths place cell
    → Owed base (lengths ++ n ∷ []) place cell
owed_more base lengths n place cell owed =
    (owed.0, run_stays base lengths (lengths ++ n ∷ []) (owed.0) place (prefix_append lengths (n ∷ [])) (owed.1), owed.2)

matches_more : (limit base : ℕ) (lengths : List ℕ) (n place : ℕ) (cell : Option Cell) (a : CellStage)
    → Matches limit base lengths place cell a → Matches limit base (lengths ++ n ∷ []) place cell a
matches_more limit base lengths n place cell stages.Idle (inl none) = inl none
matches_more limit base lengths n place cell stages.Idle (inr owed) = inr (owed_more base lengths n place cell owed)
matches_more limit base lengths n place cell stages.Begun m = owed_more base lengths n place cell m
matches_more limit base lengths n place cell stages.Mending m = m
matches_more limit base lengths n place cell stages.Filled m = m
matches_more limit base lengths n place cell stages.Broken m = m

-- the run that is added
pub in_last : (base : ℕ) (lengths : List ℕ) (n place : ℕ) → runs_end base lengths ≤ place → place < runs_end base lengths + n
    → InRun base (lengths ++ n ∷ []) (length lengths) place
in_last base lengths n place low high =
    let first : sum (take (length lengths) (lengths ++ n ∷ [])) ≡ sum lengths =
    ap sum (take-append-le (length lengths) lengths (n ∷ []) (omega arith) ∙ take-length lengths) in
    let here = last_at lengths n in
    let long = length-append lengths (n ∷ []) in
    record { there = omega arith; after = omega arith; before = omega arith }

-- a place of the run that is added
from_last : (base : ℕ) (lengths : List ℕ) (n place : ℕ) → InRun base (lengths ++ n ∷ []) (length lengths) place
    → runs_end base lengths ≤ place
from_last base lengths n place in_run =
    let first : sum (take (length lengths) (lengths ++ n ∷ [])) ≡ sum lengths =
    ap sum (take-append-le (length lengths) lengths (n ∷ []) (omega arith) ∙ take-length lengths) in
    let after = in_run.after in
    omega arith

module _
    (limit base : ℕ) (filled : List Bool) (lengths : List ℕ) (list : CellList) (ties : Ties) (vs : List SeatView)
    (tied : TiedBy limit base filled lengths list ties vs) (long : length list.cells ≡ runs_end base lengths) where
  -- places from the size on are idle
  pub later_idle : (place : ℕ) → runs_end base lengths ≤ place → ties.stage place ≡ stages.Idle
  later_idle place past =
      unclaimed limit base lengths place (ties.stage place)
      (subst (λ (c : Option Cell). Matches limit base lengths place c (ties.stage place))
      (slice_get_past list.cells place (omega arith)) (tied.shown place))

  shown_claimed : (n place : ℕ)
      → Matches limit base (lengths ++ n ∷ []) place (slice_get (with_pending list (length lengths) n).cells place) (ties.stage place)
  shown_claimed n place =
      let pending = Pending (length lengths) in
      let all = list.cells ++ replicate n pending in
      ⊎_elim
      (λ (before : place < length list.cells).
      let same : slice_get all place ≡ slice_get list.cells place =
      elim ((slice_get_cases list.cells place).1) [
        | inl (x, inside, is, _) ↦ get_before list.cells (replicate n pending) place x is ∙ sym is
        | inr (past, _) ↦ absurd (omega arith)
      ] in
      subst (λ (c : Option Cell). Matches limit base (lengths ++ n ∷ []) place c (ties.stage place)) (sym same)
      (matches_more limit base lengths n place (slice_get list.cells place) (ties.stage place) (tied.shown place)))
      (λ (past : length list.cells ≤ place).
      subst (Matches limit base (lengths ++ n ∷ []) place (slice_get all place)) (sym (later_idle place (omega arith)))
      (⊎_elim
      (λ (inside : place < length list.cells + n).
      inr (length lengths, in_last base lengths n place (omega arith) (omega arith), get_appended list.cells n place pending past inside))
      (λ (beyond : length list.cells + n ≤ place).
      let ends : length all ≡ length list.cells + n =
      length-append list.cells (replicate n pending) ∙ ap (λ k. length list.cells + k) (length-replicate n pending) in
      inl (slice_get_past all place (omega arith)))
      (cases_lt place (length list.cells + n))))
      (cases_lt place (length list.cells))

  -- what each seat knows, with a run more
  knows_more : (n : ℕ) (u : SeatView) → Suits lengths u → Knows base lengths ties u → Knows base (lengths ++ n ∷ []) ties u
  knows_more n u suits knows =
      record {
        finds = knows.finds;
        busy = knows.busy;
        within = knows.within;
        own = λ index place owned in_run busy.
            knows.own index place owned
            (run_was_there base lengths (lengths ++ n ∷ []) index place (prefix_append lengths (n ∷ [])) (owned_below lengths u suits index owned) in_run)
            busy;
        unlaid = knows.unlaid;
        hand = knows.hand;
      }

  module _ (id : ℕ) (v : SeatView) (at : get_elem? vs id ≡ some v) (is_hand : v.role ≡ roles.Hand) (n : ℕ) where
    -- what the seat knows that has the run
    knows_claimed : (w : SeatView) → Suits lengths v → w.rows ≡ v.rows → w.begun ≡ v.begun → w.laid ≡ v.laid → w.shares ≡ v.shares
        → w.role ≡ v.role → w.seen ≡ lengths ++ n ∷ [] → w.mine ≡ length lengths ∷ v.mine → Knows base (lengths ++ n ∷ []) ties w
    knows_claimed w suits rows begun laid shares role seen mine =
        let knows = tied.each id v at in
        record {
          finds = λ place seat found. knows.finds place seat (subst (λ (rs : List RowAt). Finds rs place seat) rows found);
          busy = λ place there. knows.busy place (subst (λ (b : List ℕ). Contains b place) begun there);
          within = λ place there.
              let le = prefix_sum v.seen lengths suits.seen in
              let more = prefix_sum lengths (lengths ++ n ∷ []) (prefix_append lengths (n ∷ [])) in
              let lt = knows.within place (subst (λ (b : List ℕ). Contains b place) begun there) in
              let e : sum w.seen ≡ sum (lengths ++ n ∷ []) = ap sum seen in
              omega arith;
          own = λ index place owned in_run busy.
              ⊎_elim
              (λ (same : length lengths ≡ index).
              absurd (busy (later_idle place (from_last base lengths n place
              (subst (λ (k : ℕ). InRun base (lengths ++ n ∷ []) k place) (sym same) in_run)))))
              (λ (other : length lengths ≢ index).
              let was : Contains v.mine index =
              Contains-tail (length lengths) v.mine index other (subst (λ (m : List ℕ). Contains m index) mine owned) in
              subst (λ (b : List ℕ). Contains b place) (sym begun) ((knows_more n v suits knows).own index place was in_run busy))
              (cases_eq (length lengths) index);
          unlaid = λ has_part place later.
              knows.unlaid (let e = shares in omega arith) place (let e = laid in omega arith);
          hand = λ has_part. role ∙ is_hand;
        }

    -- the hand has claimed n places
    pub tie_claim : (w : SeatView) → ((j : ℕ) (u : SeatView) → get_elem? vs j ≡ some u → Suits lengths u)
        → w.rows ≡ v.rows → w.begun ≡ v.begun → w.laid ≡ v.laid → w.shares ≡ v.shares → w.role ≡ v.role
        → w.seen ≡ lengths ++ n ∷ [] → w.mine ≡ length lengths ∷ v.mine
        → TiedBy limit base filled (lengths ++ n ∷ []) (with_pending list (length lengths) n) ties (set vs id w)
    tie_claim w suits rows begun laid shares role seen mine =
        record {
          shown = shown_claimed n;
          seats = λ place seat there.
              cell_stays limit base filled lengths list ties vs tied id v at is_hand w seat (ties.stage place) (tied.seats place seat there);
          apart = tied.apart;
          bare = tied.bare;
          entered = tied.entered;
          each =
              each_at (λ _. Knows base (lengths ++ n ∷ []) ties) vs id w
              (knows_claimed w (suits id v at) rows begun laid shares role seen mine)
              (λ j u _ here. knows_more n u (suits j u here) (tied.each j u here));
          each_role =
              each_at (λ j u. IsRole ties (set vs id w) j u.role) vs id w (is_hand_role ties (set vs id w) id w (role ∙ is_hand))
              (λ j u _ here. role_stays ties ties vs (set vs id w) (λ _. refl) (λ _. refl) (λ _ _. refl)
              (λ seat idle _. cell_stays limit base filled lengths list ties vs tied id v at is_hand w seat stages.Idle idle)
              j u.role (tied.each_role j u here));
        }

-- ---- Cuts and joins

module _
    (limit base : ℕ) (filled : List Bool) (lengths : List ℕ) (list : CellList) (ties : Ties) (vs : List SeatView)
    (tied : TiedBy limit base filled lengths list ties vs) (id : ℕ) (v : SeatView) (at : get_elem? vs id ≡ some v) where
  -- a hand is cut in two
  pub tie_cut : (left right : SeatView) → v.role ≡ roles.Hand → left.role ≡ roles.Hand → right.role ≡ roles.Hand
      → Knows base lengths ties left → Knows base lengths ties right
      → TiedBy limit base filled lengths list ties (set vs id left ++ right ∷ [])
  tie_cut left right is_hand left_hand right_hand knows_left knows_right =
      tie_snoc limit base filled lengths list ties (set vs id left)
      (tie_hand limit base filled lengths list ties vs tied id v at is_hand left left_hand knows_left) right knows_right
      (is_hand_role ties (set vs id left ++ right ∷ []) (length (set vs id left)) right right_hand)

  -- another hand is joined to a hand
  pub tie_join : (j : ℕ) (w : SeatView) → j ≢ id → get_elem? (set vs id (joined_view v w)) j ≡ some w
      → IsPrefix v.seen lengths → IsPrefix w.seen lengths → 0 < v.shares → 0 < w.shares
      → TiedBy limit base filled lengths list ties (set (set vs id (joined_view v w)) j spent_view)
  tie_join j w apart at' seen also_seen part other_part =
      let both = joined_view v w in
      let was : get_elem? vs j ≡ some w = sym (set_else vs id j both apart) ∙ at' in
      let knows_v = tied.each id v at in
      let knows_w = tied.each j w was in
      let first =
      tie_hand limit base filled lengths list ties vs tied id v at (knows_v.hand part) both (knows_v.hand part)
      (knows_both base lengths lengths ties v w knows_v knows_w seen also_seen part) in
      tie_hand limit base filled lengths list ties (set vs id both) first j w at' (knows_w.hand other_part) spent_view refl
      (role_knows base lengths ties roles.Hand)
