-- The rule after a hand has moved beside seats that are no hand's. The word stays as it is.
use Rattle.std.proofs.Common.{◌≡◌, ℕ, ◌<◌, List, [], ◌++◌, length, get_or, set, refl, ap, sym, ◌∙◌, subst, arith}
use mathlib.Core.Option.{some}
use lib.ListN.{get_elem?}
use Rattle.atomic_table.proofs.Lists.{set_again}
use Rattle.book_core.specs.Cells.{CellList}
use Rattle.book_core.specs.History.{IsHistory}
use Rattle.claim_core.specs.declared.role.RowAt.{RowAt}
use Rattle.claim_core.specs.declared.role.Role.TheVariants.{Hand}
use Rattle.claim_core.specs.declared.seat_view.SeatView.{SeatView}
use Rattle.claim_core.specs.declared.terms.Terms.{Terms}
use Rattle.claim_core.specs.Lengths.{runs_end}
use Rattle.claim_core.specs.History.{Log, claims_in, AddsEvents}
use Rattle.claim_core.specs.Shares.{all_shares}
use Rattle.claim_core.specs.SeatView.{IsConsistent}
use Rattle.claim_core.specs.SeatSteps.{ClaimState, with_views}
use Rattle.claim_core.specs.Ties.{Ties, Knows, TiedBy}
use Rattle.claim_core.specs.Rule.{Suits, Fits, Logged, Kept, size_at}
use Rattle.claim_core.proofs.Prefixes.{prefix_nil}
use Rattle.claim_core.proofs.Fits.{at_set_here, stays_by}
use Rattle.claim_core.proofs.Logged.{cells_after, others_lengths, others_go_on, adds}
use Rattle.claim_core.proofs.TiedViews.{tie_hand}
use Rattle.claim_core.proofs.WholeLog.{adds_alone}
use Rattle.claim_core.proofs.Kept.{settled_in, goes_on_with}

-- what a hand's seat has after a step that claims nothing: it has seen this history, knows these places begun, these
-- rows and this end of the entries, and no join is left unsettled
abbrev pub noted : SeatView → Log → List ℕ → List RowAt → ℕ → SeatView
noted v log begun rows laid =
    record v { one = []; other = []; log = log; one_log = []; other_log = []; begun = begun; rows = rows; laid = laid }

-- a step has added these events, and the rule holds with these views and the hand's new one. Beside a whole hand nobody
-- else adds events
pub record Noted (terms : Terms) (s : ClaimState) (vs : List SeatView) (id : ℕ) (v : SeatView) (es : Log) (begun : List ℕ) (rows : List RowAt) (laid : ℕ) : Type 0 where
  pub log : Log
  pub adds_events : AddsEvents v.log es log
  pub alone : v.shares ≡ all_shares → log ≡ v.log ++ es
  pub kept : Kept terms (with_views s (set vs id (noted v log begun rows laid)))
  pub consistent : IsConsistent (noted v log begun rows laid)

module _
    (terms : Terms) (s : ClaimState) (kept : Kept terms s) (id : ℕ) (v : SeatView) (is_limit : v.limit ≡ terms.limit)
    (is_base : v.base ≡ terms.base) (is_filled : v.filled ≡ terms.mark.filled) (part : 0 < v.shares) where
  -- the list is as long as the runs say
  pub list_long : length kept.list.cells ≡ runs_end terms.base kept.lengths
  list_long =
      cells_after terms.limit terms.base terms.mark.filled kept.logged.log kept.list kept.logged.leads
      ∙ ap (runs_end terms.base) kept.logged.claims

  -- Other seats have changed, or were made, and all seats still fit and recall the history. The hand adds events that
  -- claim nothing
  pub moves_on : (vs : List SeatView) → Fits terms.limit terms.base (get_or s.words size_at 0) kept.lengths vs
      → Logged terms.limit terms.base terms.mark.filled kept.lengths kept.list vs → get_elem? vs id ≡ some v
      → (es : Log) → claims_in es ≡ [] → (list' : CellList) → IsHistory kept.list es list'
      → (begun : List ℕ) (rows : List RowAt) (laid : ℕ) (ties' : Ties)
      → ((log : Log) → TiedBy terms.limit terms.base terms.mark.filled kept.lengths list' ties' (set vs id (noted v log begun rows laid)))
      → Noted terms s vs id v es begun rows laid
  moves_on vs fits logged at es nothing list' here begun rows laid ties' tied =
      let size = get_or s.words size_at 0 in
      let log = logged.log ++ es in
      let w = noted v log begun rows laid in
      let mine = fits.each id v at in
      let suits : Suits kept.lengths w =
      record {
        seen = mine.seen;
        one = prefix_nil kept.lengths;
        other = prefix_nil kept.lengths;
        own = mine.own;
        spent = λ none. absurd (omega arith);
      } in
      let fits' = stays_by terms.limit terms.base size kept.lengths vs fits id v at w refl refl suits in
      let history = others_go_on terms.limit terms.base terms.mark.filled logged.log es kept.list list' logged.history logged.leads here nothing in
      let claims = others_lengths logged.log es nothing ∙ logged.claims in
      let logged' = adds terms.limit terms.base terms.mark.filled kept.lengths kept.list vs logged id v at es kept.lengths list' w here history claims refl mine.seen refl refl part in
      record {
        log = log;
        adds_events = goes_on_with v.log logged.log es (logged.each id v at).log;
        alone = λ whole. adds_alone terms.limit terms.base size terms.mark.filled kept.lengths kept.list vs fits logged id v at whole es;
        kept = record {
          words = kept.words;
          lengths = kept.lengths;
          list = list';
          ties = ties';
          fits = fits';
          logged = logged';
          tied = tied log;
        };
        consistent = settled_in terms size kept.lengths list' ties' (set vs id w) fits' logged' (tied log) id w (at_set_here vs id v w at) is_limit is_base is_filled;
      }

  -- a step that leaves all other seats: the list stays, and what the hand then knows is true
  pub learns : get_elem? s.views id ≡ some v → (es : Log) → claims_in es ≡ [] → IsHistory kept.list es kept.list
      → (begun : List ℕ) (rows : List RowAt) (laid : ℕ)
      → ((log : Log) → Knows terms.base kept.lengths kept.ties (noted v log begun rows laid))
      → Noted terms s s.views id v es begun rows laid
  learns at es nothing here begun rows laid knows =
      let hand : v.role ≡ Hand = (kept.tied.each id v at).hand part in
      moves_on s.views kept.fits kept.logged at es nothing kept.list here begun rows laid kept.ties
      (λ log. tie_hand terms.limit terms.base terms.mark.filled kept.lengths kept.list kept.ties s.views kept.tied id v at hand (noted v log begun rows laid) hand (knows log))

  -- the same, said of a seat that has the view that it had
  pub leaves : get_elem? s.views id ≡ some v → (seat : ℕ) (x : SeatView) → get_elem? s.views seat ≡ some x
      → (es : Log) → claims_in es ≡ [] → IsHistory kept.list es kept.list → (begun : List ℕ) (rows : List RowAt) (laid : ℕ)
      → ((log : Log) → Knows terms.base kept.lengths kept.ties (noted v log begun rows laid))
      → Noted terms s (set s.views seat x) id v es begun rows laid
  leaves at seat x there es nothing here begun rows laid knows =
      subst (λ (vs : List SeatView). Noted terms s vs id v es begun rows laid) (sym (set_again s.views seat x there))
      (learns at es nothing here begun rows laid knows)
