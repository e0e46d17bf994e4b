-- The effect of each kind of step on a list of lengths that fits.
use Rattle.std.proofs.Common.{◌≡◌, ◌≢◌, ℕ, zero, suc, ◌+◌, ◌<◌, ◌≤◌, Bool, List, [], ◌∷◌, ◌++◌, length, set, refl, ap, sym, ◌∙◌, subst, ⊎_elim, arith, length-append}
use Rattle.std.proofs.lemmas.List.Sums.{sum_by_push}
use Rattle.std.proofs.lemmas.List.Elements.{All-nil, All-push}
use mathlib.Core.Option.{some, some-injective, some-ne-none}
use mathlib.Core.List.{IsPrefix}
use lib.ListN.{get_elem?}
use Rattle.atomic_table.proofs.Lists.{at_set, at_snoc, set_else}
use Rattle.claim_core.specs.declared.seat_view.SeatView.{SeatView}
use Rattle.claim_core.specs.declared.terms.Terms.{Terms}
use Rattle.std.specs.List.{Contains}
use Rattle.claim_core.specs.Lengths.{runs_end, times, once_below}
use Rattle.claim_core.specs.History.{lengths_of, IsHistoryOf}
use Rattle.claim_core.specs.Rule.{Suits, Fits}
use Rattle.claim_core.specs.SeatView.{SameOwn, IsConsistent, longer, joined_view, first_view, spent_view}
use Rattle.claim_core.proofs.Prefixes.{prefix_self, prefix_append, prefix_nil, prefix_trans, prefix_whole, prefix_length, prefix_sum, prefix_All, longer_begins}
use Rattle.claim_core.proofs.Counts.{times-append, once_more, total-set, total-snoc, member_le, alone}

-- how often a seat owns run k, and its shares
abbrev owned : ℕ → SeatView → ℕ
owned k v = times k v.mine

abbrev share : SeatView → ℕ
share v = v.shares

-- what holds of the new member and of each old one holds of all after a change
pub each_set : (F : SeatView → Type 0) (vs : List SeatView) (i : ℕ) (w : SeatView) → F w
    → ((j : ℕ) (v : SeatView) → get_elem? vs j ≡ some v → F v)
    → (j : ℕ) (v : SeatView) → get_elem? (set vs i w) j ≡ some v → F v
each_set F vs i w new old j v at =
    ⊎_elim (λ (c : (j ≡ i) × (w ≡ v)). subst F c.1 new) (λ (c : (j ≢ i) × (get_elem? vs j ≡ some v)). old j v c.1) (at_set vs i j w v at)

pub each_snoc : (F : SeatView → Type 0) (vs : List SeatView) (w : SeatView) → F w
    → ((j : ℕ) (v : SeatView) → get_elem? vs j ≡ some v → F v)
    → (j : ℕ) (v : SeatView) → get_elem? (vs ++ w ∷ []) j ≡ some v → F v
each_snoc F vs w new old j v at = ⊎_elim (λ (c : get_elem? vs j ≡ some v). old j v c) (λ (c : w ≡ v). subst F c new) (at_snoc vs w v j at)

-- what holds of the one member of a list
pub each_one : (F : SeatView → Type 0) (w : SeatView) → F w → (j : ℕ) (v : SeatView) → get_elem? (w ∷ []) j ≡ some v → F v
each_one F w new zero v at = subst F (some-injective w v at) new
each_one F w new (suc j) v at = absurd (some-ne-none v (sym at))

-- one hand with all shares fits if nothing was claimed
pub begins : (terms : Terms) → terms.base ≤ terms.limit
    → Fits terms.limit terms.base terms.base [] (first_view terms ∷ [])
begins terms room =
    record {
      ends = omega arith;
      within = room;
      positive = All-nil (λ n. 0 < n);
      each =
          each_one (Suits []) (first_view terms)
          (record {
            seen = prefix_nil [];
            one = prefix_nil [];
            other = prefix_nil [];
            own = λ k. omega arith;
            spent = λ none. absurd (omega arith);
          });
      owned = λ k. omega arith;
      shares = omega arith;
    }

-- the member after a change of it
pub at_set_here : (vs : List SeatView) (i : ℕ) (v w : SeatView) → get_elem? vs i ≡ some v
    → get_elem? (set vs i w) i ≡ some w
at_set_here [] i v w at = absurd (some-ne-none v (sym at))
at_set_here (x ∷ xs) zero v w at = refl
at_set_here (x ∷ xs) (suc i) v w at = at_set_here xs i v w at

-- what suits a list suits each list that goes on from it
suits_more : (lengths : List ℕ) (n : ℕ) (v : SeatView) → Suits lengths v → Suits (lengths ++ n ∷ []) v
suits_more lengths n v suits =
    let more = prefix_append lengths (n ∷ []) in
    record {
      seen = prefix_trans v.seen lengths (lengths ++ n ∷ []) suits.seen more;
      one = prefix_trans v.one lengths (lengths ++ n ∷ []) suits.one more;
      other = prefix_trans v.other lengths (lengths ++ n ∷ []) suits.other more;
      own = suits.own;
      spent = suits.spent;
    }

pub spent_suits : (lengths : List ℕ) → Suits lengths spent_view
spent_suits lengths =
    record {
      seen = prefix_nil lengths;
      one = prefix_nil lengths;
      other = prefix_nil lengths;
      own = λ k. omega arith;
      spent = λ none. (refl, refl);
    }

module _
    (limit base size : ℕ) (lengths : List ℕ) (vs : List SeatView) (fits : Fits limit base size lengths vs)
    (id : ℕ) (v : SeatView) (at : get_elem? vs id ≡ some v) where
  -- the seat of all shares owns all runs
  whole_owns : v.shares ≡ 65536 → (k : ℕ) → times k v.mine ≡ once_below k (length lengths)
  whole_owns all k =
      let e =
      alone share (owned k) vs id v at (let o = fits.shares in omega arith)
      (λ j w here none. ap (times k) ((fits.each j w here).spent none).1) in
      let o = fits.owned k in omega arith

  -- the seat of all shares has seen all
  pub whole_saw : v.shares ≡ 65536 → v.seen ≡ lengths
  whole_saw all =
      let suits = fits.each id v at in
      let o = whole_owns all (length v.seen) in
      let part = suits.own (length v.seen) in
      prefix_whole v.seen lengths suits.seen (omega arith)

  -- each seat is consistent
  pub consistent : v.limit ≡ limit → v.base ≡ base → (filled : List Bool) → v.filled ≡ filled → IsHistoryOf limit base filled v.log → IsPrefix v.seen (lengths_of v.log)
      → (v.seen ≡ lengths → lengths_of v.log ≡ v.seen) → ((place : ℕ) → Contains v.begun place → place < runs_end base v.seen)
      → IsConsistent v
  consistent is_limit is_base filled is_filled history known tells begun =
      let suits = fits.each id v at in
      record {
        positive = prefix_All (λ n. 0 < n) v.seen lengths suits.seen fits.positive;
        within = let le = prefix_sum v.seen lengths suits.seen in let e = fits.ends in let l = fits.within in omega arith;
        shares = let m = member_le share vs id v at in let o = fits.shares in omega arith;
        own = suits.own;
        whole = λ all k.
            let le = prefix_length v.seen lengths suits.seen in
            let o = whole_owns all k in
            let part = suits.own k in
            omega arith;
        history =
            subst (λ l. IsHistoryOf l v.base v.filled v.log) (sym is_limit)
            (subst (λ b. IsHistoryOf limit b v.filled v.log) (sym is_base)
            (subst (λ (fs : List Bool). IsHistoryOf limit base fs v.log) (sym is_filled) history));
        lengths = known;
        whole_log = λ all. tells (whole_saw all);
        begun = subst (λ b. (place : ℕ) → Contains v.begun place → place < runs_end b v.seen) (sym is_base) begun;
      }

  -- a seat with the same runs and shares, whose lists are prefixes of the list of all lengths
  pub stays_by : (w : SeatView) → w.mine ≡ v.mine → w.shares ≡ v.shares → Suits lengths w
      → Fits limit base size lengths (set vs id w)
  stays_by w mine same_shares suits =
      record {
        ends = fits.ends;
        within = fits.within;
        positive = fits.positive;
        each = each_set (Suits lengths) vs id w suits fits.each;
        owned = λ k.
            let t = total-set (owned k) vs id v w at in
            let e : times k w.mine ≡ times k v.mine = ap (times k) mine in
            let o = fits.owned k in
            omega arith;
        shares = let t = total-set share vs id v w at in let e = same_shares in let o = fits.shares in omega arith;
      }

  pub stays : (w : SeatView) → SameOwn v w → Suits lengths w → Fits limit base size lengths (set vs id w)
  stays w same suits = stays_by w same.mine same.shares suits

  -- the seat has added a run to the list of all lengths
  pub grows : (n : ℕ) (w : SeatView) → 0 < n → size + n ≤ limit → 0 < v.shares → w.shares ≡ v.shares
      → w.mine ≡ length lengths ∷ v.mine
      → w.seen ≡ lengths ++ n ∷ [] → w.one ≡ [] → w.other ≡ [] → Fits limit base (size + n) (lengths ++ n ∷ []) (set vs id w)
  grows n w one_place room part shares mine seen one other =
      let all = lengths ++ n ∷ [] in
      let long : length all ≡ length lengths + 1 = length-append lengths (n ∷ []) in
      let old = fits.each id v at in
      let owns : (k : ℕ) → times k w.mine ≡ times k (length lengths ∷ []) + times k v.mine = λ k. omega (arith, ap (times k) mine) in
      let more : (k : ℕ) → once_below k (length all) ≡ times k (length lengths ∷ []) + once_below k (length lengths) =
      λ k. ap (once_below k) long ∙ once_more k (length lengths) in
      record {
        ends = let e = fits.ends in omega (arith, sum_by_push (λ x. x) lengths n);
        within = room;
        positive = All-push (λ m. 0 < m) lengths n fits.positive one_place;
        each =
            each_set (Suits all) vs id w
            (record {
              seen = subst (λ l. IsPrefix l all) (sym seen) (prefix_self all);
              one = subst (λ l. IsPrefix l all) (sym one) (prefix_nil all);
              other = subst (λ l. IsPrefix l all) (sym other) (prefix_nil all);
              own = λ k.
                  let o = old.own k in
                  let le = prefix_length v.seen lengths old.seen in
                  let a = owns k in
                  let b = more k in
                  let c : once_below k (length w.seen) ≡ once_below k (length all) = ap (λ l. once_below k (length l)) seen in
                  omega arith;
              spent = λ none. absurd (omega arith);
            })
            (λ j u here. suits_more lengths n u (fits.each j u here));
        owned = λ k.
            let t = total-set (owned k) vs id v w at in
            let o = fits.owned k in
            let a = owns k in
            let b = more k in
            omega arith;
        shares = let t = total-set share vs id v w at in let o = fits.shares in omega arith;
      }

  -- the seat is cut in two
  pub splits : (left right : SeatView) → Suits lengths left → Suits lengths right
      → ((k : ℕ) → times k left.mine + times k right.mine ≡ times k v.mine)
      → left.shares + right.shares ≡ v.shares → Fits limit base size lengths (set vs id left ++ right ∷ [])
  splits left right suits_left suits_right runs shares =
      record {
        ends = fits.ends;
        within = fits.within;
        positive = fits.positive;
        each = each_snoc (Suits lengths) (set vs id left) right suits_right (each_set (Suits lengths) vs id left suits_left fits.each);
        owned = λ k.
            let t = total-set (owned k) vs id v left at in
            let u = total-snoc (owned k) (set vs id left) right in
            let o = fits.owned k in
            let r = runs k in
            omega arith;
        shares =
            let t = total-set share vs id v left at in
            let u = total-snoc share (set vs id left) right in
            let o = fits.shares in
            omega arith;
      }

  -- another seat is joined to the seat
  pub joins : (j : ℕ) (w : SeatView) → j ≢ id → get_elem? (set vs id (joined_view v w)) j ≡ some w → 0 < v.shares
      → Fits limit base size lengths (set (set vs id (joined_view v w)) j spent_view)
  joins j w apart at' part =
      let both = joined_view v w in
      let was : get_elem? vs j ≡ some w = sym (set_else vs id j both apart) ∙ at' in
      let mine = fits.each id v at in
      let theirs = fits.each j w was in
      let begins = longer_begins v.seen w.seen lengths mine.seen theirs.seen in
      record {
        ends = fits.ends;
        within = fits.within;
        positive = fits.positive;
        each =
            each_set (Suits lengths) (set vs id both) j spent_view (spent_suits lengths)
            (each_set (Suits lengths) vs id both
            (record {
              seen = begins.2;
              one = mine.seen;
              other = theirs.seen;
              own = λ k.
                  let a = times-append k v.mine w.mine in
                  let t = total-set (owned k) vs id v spent_view at in
                  let m = member_le (owned k) (set vs id spent_view) j w (set_else vs id j spent_view apart ∙ was) in
                  let o = fits.owned k in
                  let x = mine.own k in
                  let y = theirs.own k in
                  let p = prefix_length v.seen (longer v.seen w.seen) begins.0 in
                  let q = prefix_length w.seen (longer v.seen w.seen) begins.1 in
                  omega arith;
              spent = λ none. absurd (omega arith);
            })
            fits.each);
        owned = λ k.
            let t = total-set (owned k) vs id v both at in
            let u = total-set (owned k) (set vs id both) j w spent_view at' in
            let a = times-append k v.mine w.mine in
            let o = fits.owned k in
            omega arith;
        shares =
            let t = total-set share vs id v both at in
            let u = total-set share (set vs id both) j w spent_view at' in
            let o = fits.shares in
            omega arith;
      }
