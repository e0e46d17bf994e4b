-- A whole hand has seen the whole history, so that nobody else has added an event to what it adds.
use Rattle.std.proofs.Common.{◌≡◌, ℕ, Bool, List, ◌++◌, ap, sym, ◌∙◌, arith}
use mathlib.Core.Option.{some}
use mathlib.Core.Logic.{dite}
use native.Mathlib.Decide.{ℕ_discrete}
use lib.ListN.{get_elem?}
use Rattle.book_core.specs.Cells.{CellList}
use Rattle.claim_core.specs.declared.seat_view.SeatView.{SeatView}
use Rattle.claim_core.specs.History.{Log}
use Rattle.claim_core.specs.Shares.{all_shares}
use Rattle.claim_core.specs.Rule.{Fits, Logged}
use Rattle.claim_core.proofs.TiedViews.{same_view}
use Rattle.claim_core.proofs.TiedEntries.{others_spent}

module _
    (limit base size : ℕ) (filled : List Bool) (lengths : List ℕ) (list : CellList) (vs : List SeatView)
    (fits : Fits limit base size lengths vs) (logged : Logged limit base filled lengths list vs) (id : ℕ) (v : SeatView)
    (at : get_elem? vs id ≡ some v) (whole : v.shares ≡ all_shares) where
  -- its history is the whole one
  pub recalls_all : v.log ≡ logged.log
  recalls_all =
      let latest = logged.latest in
      dite (ℕ_discrete latest.id id)
      (λ same.
      let is : latest.view ≡ v = same_view vs id latest.view v (sym (ap (get_elem? vs) same) ∙ latest.at) at in
      sym (ap (λ (u : SeatView). u.log) is) ∙ latest.all)
      (λ other.
      let none = others_spent limit base size lengths vs fits id latest.id v latest.view at latest.at other whole in
      let part = latest.part in
      absurd (omega arith))

  -- so what the whole history gets, its own gets
  pub adds_alone : (es : Log) → logged.log ++ es ≡ v.log ++ es
  adds_alone es = ap (λ (l : Log). l ++ es) (sym recalls_all)
