-- Seats that are no hand's, beside those that fit and those that recall the history.
use Rattle.std.proofs.Common.{◌≡◌, ℕ, Bool, List, [], ◌∷◌, ◌++◌, map, set, refl, sym, subst, arith, append_assoc}
use Rattle.std.proofs.lemmas.List.{append-nil}
use mathlib.Core.Option.{some}
use lib.ListN.{get_elem?}
use Rattle.atomic_table.proofs.Lists.{at_longer}
use Rattle.book_core.specs.Cells.{CellList}
use Rattle.claim_core.specs.declared.role.Role.{Role}
use Rattle.claim_core.specs.declared.seat_view.SeatView.{SeatView}
use Rattle.claim_core.specs.Lengths.{times}
use Rattle.claim_core.specs.History.{Log, lengths_of}
use Rattle.claim_core.specs.Rule.{Suits, Fits, Recalls, Logged}
use Rattle.claim_core.specs.SeatView.{SameOwn}
use Rattle.claim_core.specs.Ties.{role_view}
use Rattle.claim_core.proofs.Prefixes.{prefix_nil}
use Rattle.claim_core.proofs.Counts.{total-snoc}
use Rattle.claim_core.proofs.Fits.{each_snoc, stays}
use Rattle.claim_core.proofs.Logged.{keeps_log}

-- such a seat suits each list, and recalls each history
pub role_suits : (lengths : List ℕ) (role : Role) → Suits lengths (role_view role)
role_suits lengths role =
    record {
      seen = prefix_nil lengths;
      one = prefix_nil lengths;
      other = prefix_nil lengths;
      own = λ k. omega arith;
      spent = λ none. (refl, refl);
    }

pub role_recalls : (log : Log) (role : Role) → Recalls log (role_view role)
role_recalls log role =
    record { log = prefix_nil log; one = prefix_nil log; other = prefix_nil log; lengths = prefix_nil (lengths_of []) }

-- whatever their roles are, two such seats have the same
same_role : (role other : Role) → SameOwn (role_view role) (role_view other)
same_role role other =
    record { limit = refl; base = refl; mark = refl; filled = refl; mine = refl; shares = refl; begun = refl; rows = refl; laid = refl }

-- such a seat gets another role
pub fits_role : (limit base size : ℕ) (lengths : List ℕ) (vs : List SeatView) → Fits limit base size lengths vs
    → (seat : ℕ) (role other : Role) → get_elem? vs seat ≡ some (role_view role) → Fits limit base size lengths (set vs seat (role_view other))
fits_role limit base size lengths vs fits seat role other at =
    stays limit base size lengths vs fits seat (role_view role) at (role_view other) (same_role role other) (role_suits lengths other)

pub logged_role : (limit base : ℕ) (filled : List Bool) (lengths : List ℕ) (list : CellList) (vs : List SeatView)
    → Logged limit base filled lengths list vs → (seat : ℕ) (role other : Role) → get_elem? vs seat ≡ some (role_view role)
    → Logged limit base filled lengths list (set vs seat (role_view other))
logged_role limit base filled lengths list vs logged seat role other at =
    keeps_log limit base filled lengths list vs logged seat (role_view role) at (role_view other) refl (λ more. more)
    (role_recalls logged.log other)

-- such a seat is made
pub fits_more : (limit base size : ℕ) (lengths : List ℕ) (vs : List SeatView) → Fits limit base size lengths vs
    → (role : Role) → Fits limit base size lengths (vs ++ role_view role ∷ [])
fits_more limit base size lengths vs fits role =
    record {
      ends = fits.ends;
      within = fits.within;
      positive = fits.positive;
      each = each_snoc (Suits lengths) vs (role_view role) (role_suits lengths role) fits.each;
      owned = λ k. let t = total-snoc (λ v. times k v.mine) vs (role_view role) in let o = fits.owned k in omega arith;
      shares = let t = total-snoc (λ v. v.shares) vs (role_view role) in let o = fits.shares in omega arith;
    }

pub logged_more : (limit base : ℕ) (filled : List Bool) (lengths : List ℕ) (list : CellList) (vs : List SeatView)
    → Logged limit base filled lengths list vs → (role : Role) → Logged limit base filled lengths list (vs ++ role_view role ∷ [])
logged_more limit base filled lengths list vs logged role =
    let latest = logged.latest in
    record {
      log = logged.log;
      history = logged.history;
      leads = logged.leads;
      claims = logged.claims;
      each = each_snoc (Recalls logged.log) vs (role_view role) (role_recalls logged.log role) logged.each;
      latest = record {
        id = latest.id;
        view = latest.view;
        at = at_longer vs (role_view role ∷ []) latest.id latest.view latest.at;
        part = latest.part;
        all = latest.all;
      };
    }

-- such seats are made, one after the other
pub fits_all : (limit base size : ℕ) (lengths : List ℕ) (made : List Role) (vs : List SeatView) → Fits limit base size lengths vs
    → Fits limit base size lengths (vs ++ map role_view made)
fits_all limit base size lengths [] vs fits = subst (Fits limit base size lengths) (sym (append-nil vs)) fits
fits_all limit base size lengths (role ∷ made) vs fits =
    subst (Fits limit base size lengths) (append_assoc vs (role_view role ∷ []) (map role_view made))
    (fits_all limit base size lengths made (vs ++ role_view role ∷ []) (fits_more limit base size lengths vs fits role))

pub logged_all : (limit base : ℕ) (filled : List Bool) (lengths : List ℕ) (list : CellList) (made : List Role) (vs : List SeatView)
    → Logged limit base filled lengths list vs → Logged limit base filled lengths list (vs ++ map role_view made)
logged_all limit base filled lengths list [] vs logged =
    subst (Logged limit base filled lengths list) (sym (append-nil vs)) logged
logged_all limit base filled lengths list (role ∷ made) vs logged =
    subst (Logged limit base filled lengths list) (append_assoc vs (role_view role ∷ []) (map role_view made))
    (logged_all limit base filled lengths list made (vs ++ role_view role ∷ []) (logged_more limit base filled lengths list vs logged role))
