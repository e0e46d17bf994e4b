-- Laws of the rule about a whole hand, and about a claim.
use Rattle.std.proofs.Common.{◌≡◌, ℕ, ◌≤◌, Bool, List, ◌++◌, get_or, slice_get, sym, subst, arith}
use Rattle.std.specs.List.{Contains}
use mathlib.Core.Option.{some}
use lib.ListN.{get_elem?}
use Rattle.book_core.specs.declared.events.Event.{Event}
use Rattle.book_core.specs.declared.events.Reply.{Reply}
use Rattle.book_core.specs.History.{IsHistory}
use Rattle.claim_core.specs.declared.role.CellStage.{CellStage}
use Rattle.claim_core.specs.declared.seat_view.SeatView.{SeatView}
use Rattle.claim_core.specs.declared.terms.Terms.{Terms}
use Rattle.claim_core.specs.History.{Log, first_list}
use Rattle.claim_core.specs.Shares.{all_shares}
use Rattle.claim_core.specs.SeatView.{IsConsistent, Claims}
use Rattle.claim_core.specs.SeatSteps.{ClaimState}
use Rattle.claim_core.specs.Ties.{cell_view, Matches, LeadsTo, Finds}
use Rattle.claim_core.specs.Rule.{Kept, size_at}
use Rattle.claim_core.specs.StepLaws.{ShowsWhole}
use Rattle.claim_core.proofs.Prefixes.{prefix_append, prefix_sum}
use Rattle.claim_core.proofs.Fits.{whole_saw}
use Rattle.claim_core.proofs.TiedViews.{seat_shows}
use Rattle.claim_core.proofs.WholeLog.{recalls_all}

-- the list of a whole hand's history shows each place of a row that the hand knows as its cell is
pub whole_shows : (terms : Terms) (s : ClaimState) (kept : Kept terms s) (id : ℕ) (v : SeatView) → get_elem? s.views id ≡ some v
    → v.shares ≡ all_shares → ShowsWhole terms s v
whole_shows terms s kept id v at whole =
    let first = first_list terms.limit terms.base terms.mark.filled in
    let size = get_or s.words size_at 0 in
    record {
      lengths = kept.lengths;
      seen = whole_saw terms.limit terms.base size kept.lengths s.views kept.fits id v at whole;
      list = kept.list;
      history =
          subst (λ (l : Log). IsHistory first l kept.list)
          (sym (recalls_all terms.limit terms.base size terms.mark.filled kept.lengths kept.list s.views kept.fits kept.logged id v at whole))
          kept.logged.leads;
      cells = λ place seat a found cell.
          subst (Matches terms.limit terms.base kept.lengths place (slice_get kept.list.cells place))
          (seat_shows terms.limit terms.base terms.mark.filled kept.lengths kept.list kept.ties s.views kept.tied place seat a
          ((kept.tied.each id v at).finds place seat found) cell)
          (kept.tied.shown place);
    }

-- so it does of one place, by what the hand knows alone
pub whole_leads : (terms : Terms) (s : ClaimState) (kept : Kept terms s) (id : ℕ) (v : SeatView) → get_elem? s.views id ≡ some v
    → v.shares ≡ all_shares → v.limit ≡ terms.limit → v.base ≡ terms.base → v.filled ≡ terms.mark.filled
    → (place seat : ℕ) (a : CellStage) → Finds v.rows place seat → get_elem? s.views seat ≡ some (cell_view a)
    → LeadsTo v.limit v.base v.filled v.seen v.log place a
whole_leads terms s kept id v at whole is_limit is_base is_filled place seat a found cell =
    let all = whole_shows terms s kept id v at whole in
    let here : LeadsTo terms.limit terms.base terms.mark.filled all.lengths v.log place a =
    record { list = all.list; history = all.history; shows = all.cells place seat a found cell } in
    subst (λ (l : ℕ). LeadsTo l v.base v.filled v.seen v.log place a) (sym is_limit)
    (subst (λ (b : ℕ). LeadsTo terms.limit b v.filled v.seen v.log place a) (sym is_base)
    (subst (λ (fs : List Bool). LeadsTo terms.limit terms.base fs v.seen v.log place a) (sym is_filled)
    (subst (λ (ns : List ℕ). LeadsTo terms.limit terms.base terms.mark.filled ns v.log place a) (sym all.seen) here)))

-- after a claim the hand knows none of its places begun
pub claim_not_begun : (v w : SeatView) (found n : ℕ) (event : ℕ → Event × Reply) → IsConsistent v → Claims v found n event w
    → (place : ℕ) → found ≤ place → Contains w.begun place → ⊥
claim_not_begun v w found n event consistent claims place after there =
    let was : Contains v.begun place = subst (λ (b : List ℕ). Contains b place) claims.same.begun there in
    let below = consistent.begun place was in
    let le = prefix_sum v.seen (v.seen ++ claims.between) (prefix_append v.seen claims.between) in
    let size = claims.size in
    let base = claims.same.base in
    omega arith
