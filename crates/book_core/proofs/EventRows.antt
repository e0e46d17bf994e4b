-- The rows of the table of events, for a list whose length is known.
use Rattle.std.proofs.Common.{◌≡◌, ℕ, ◌+◌, ◌-◌, ◌<◌, ◌≤◌, nat_le, ◌==◌, true, false, if◌then◌else◌, length, Option, Some, None, slice_get, ap, refl, ◌∙◌, arith}
use Rattle.std.proofs.lemmas.Bool.Decides.{nat_tests}
use Rattle.book_core.specs.declared.cells.Cell.{Cell}
use Rattle.book_core.specs.declared.cells.Cell.TheVariants.{Pending, Filled, Broken}
use Rattle.book_core.specs.declared.events.Event.TheVariants.{Claim, Raise, Look, Size, RefusedFull}
use Rattle.book_core.specs.declared.events.Reply.TheVariants as replies
use Rattle.book_core.specs.Cells.{CellList, with_pending, with_cell, is_pending_for, is_broken, reply_of_look, apply_event}
use Rattle.book_core.specs.Laws.{ClaimsAppend, OwnersFill, OwnersBreak, AnyoneMends}

module _ (v : CellList) (actor size : ℕ) (is : length v.cells ≡ size) where
  pub claim_applies : (n : ℕ) → size + n ≤ v.limit
      → apply_event v (Claim actor n) ≡ Some (with_pending v actor n, replies.Run size n)
  claim_applies n room =
      let fits : nat_le (length v.cells + n) v.limit ≡ true = grind (arith, nat_tests) in
      rw fits (ap (λ k. Some (with_pending v actor n, replies.Run k n)) is)

  pub raise_applies : (to : ℕ) → size < to → to ≤ v.limit
      → apply_event v (Raise actor to) ≡ Some (with_pending v actor (to - size), replies.Run size (to - size))
  raise_applies to more room =
      let grows : nat_le to (length v.cells) ≡ false = grind (arith, nat_tests) in
      let fits : nat_le to v.limit ≡ true = grind (arith, nat_tests) in
      rw (grows, fits) (ap (λ k. Some (with_pending v actor (to - k), replies.Run k (to - k))) is)

  pub enough_applies : (to : ℕ) → to ≤ size → apply_event v (Raise actor to) ≡ Some (v, replies.Enough size)
  enough_applies to had =
      let enough : nat_le to (length v.cells) ≡ true = grind (arith, nat_tests) in
      rw enough (ap (λ k. Some (v, replies.Enough k)) is)

  pub full_applies : (n : ℕ) → v.limit < size + n → apply_event v (RefusedFull actor n) ≡ Some (v, replies.Full size)
  full_applies n past =
      let full : nat_le (length v.cells + n) v.limit ≡ false = grind (arith, nat_tests) in
      rw full (ap (λ k. Some (v, replies.Full k)) is)

  pub size_applies : apply_event v (Size actor) ≡ Some (v, replies.Size size)
  size_applies = ap (λ k. Some (v, replies.Size k)) is

pub claims_append : ClaimsAppend
claims_append v actor n room = claim_applies v actor (length v.cells) refl n room

is_own : (actor : ℕ) → is_pending_for actor (Some (Pending actor)) ≡ true
is_own actor = (let same : (actor == actor) ≡ true = grind (arith, nat_tests) in same)

pub finish_applies : OwnersFill
finish_applies v actor place value pending =
    ap (λ o. if is_pending_for actor o then Some (with_cell v place (Filled value), replies.Done) else None) pending
    ∙ ap (λ b. if b then Some (with_cell v place (Filled value), replies.Done) else None) (is_own actor)

pub break_applies : OwnersBreak
break_applies v actor place pending =
    ap (λ o. if is_pending_for actor o then Some (with_cell v place Broken, replies.Done) else None) pending
    ∙ ap (λ b. if b then Some (with_cell v place Broken, replies.Done) else None) (is_own actor)

pub mend_applies : AnyoneMends
mend_applies v actor place broken =
    ap (λ o. if is_broken o then Some (with_cell v place (Pending actor), replies.Done) else None) broken

pub look_applies : (v : CellList) (actor place : ℕ) (cell : Option Cell) → slice_get v.cells place ≡ cell
    → apply_event v (Look actor place) ≡ Some (v, reply_of_look (length v.cells) cell)
look_applies v actor place cell is = ap (λ o. Some (v, reply_of_look (length v.cells) o)) is
