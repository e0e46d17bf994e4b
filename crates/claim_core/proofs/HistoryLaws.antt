-- The sizes and the claims of a legal history.
use Rattle.std.proofs.Common.{◌≡◌, ℕ, zero, suc, ◌+◌, Bool, true, false, nat_lt, nat_le, if◌then◌else◌, List, [], ◌∷◌, ◌++◌, length, map, Option, Some, None, refl, ap, sym, ◌∙◌, arith}
use Rattle.std.proofs.lemmas.List.{length-map}
use Rattle.std.specs.List.{range_with_len}
use Rattle.book_core.specs.declared.events.Event.{Event}
use Rattle.book_core.specs.declared.events.Reply.{Reply}
use Rattle.book_core.specs.declared.events.Reply.TheVariants as replies
use Rattle.book_core.specs.Cells.{CellList, apply_event, with_pending}
use Rattle.book_core.specs.History.{IsLegalFrom, OwnedRun}
use Rattle.book_core.proofs.Histories.{IsHistory-split}
use Rattle.claim_core.specs.declared.run.Run.{Run}
use Rattle.claim_core.specs.Lengths.{runs_end}
use Rattle.claim_core.specs.History.{Log, first_list, claims_in, lengths_of, owners_of, claim_event, size_event}
use Rattle.claim_core.specs.Laws.{FirstPlacesAreTold, SizesCountClaims, ClaimsBeginAtTheSize, ClaimsHaveTheirTurn}
use Rattle.claim_core.proofs.Logged.{first_at_place, cells_after, owners_of-append, one_claim}

pub first_places : FirstPlacesAreTold
first_places word place below = first_at_place word.base word.filled place below

-- the list before an event of a legal history
module _ (limit base : ℕ) (filled : List Bool) (before after : Log) (event : Event) (reply : Reply) where
  reached : IsLegalFrom (first_list limit base filled) (before ++ (event, reply) ∷ after)
      → (mid : CellList) × (next : CellList) × (length mid.cells ≡ runs_end base (lengths_of before)) × (apply_event mid event ≡ Some (next, reply))
  reached (new, history) =
      let (mid, first, (next, applies, rest)) = IsHistory-split (first_list limit base filled) before ((event, reply) ∷ after) new history in
      (mid, next, cells_after limit base filled before mid first, applies)

-- the number that a reply begins with
abbrev number_in : Reply → ℕ
number_in (replies.Run from n) = from
number_in (replies.Enough size) = size
number_in replies.Done = 0
number_in (replies.Value value) = value
number_in replies.Pending = 0
number_in replies.Broken = 0
number_in (replies.OutOfRange size) = size
number_in (replies.Size size) = size
number_in (replies.Full size) = size
number_in replies.NoMemory = 0

abbrev number_of : Option (CellList × Reply) → ℕ
number_of None = 0
number_of (Some (list, reply)) = number_in reply

pub sizes_count_claims : SizesCountClaims
sizes_count_claims limit base size filled before after history =
    let (mid, next, is, applies) = reached limit base filled before after (size_event size).0 (size_event size).1 history.legal in
    sym (ap number_of applies) ∙ is

abbrev claim_row : (mid : CellList) (index n : ℕ) → Bool → Option (CellList × Reply)
claim_row mid index n fits = if fits then Some (with_pending mid index n, replies.Run (length mid.cells) n) else None

claim_begins : (mid next : CellList) (index : ℕ) (run : Run) (fits : Bool)
    → claim_row mid index run.n fits ≡ Some (next, (claim_event index run).1) → run.from ≡ length mid.cells
claim_begins mid next index run true applies = sym (ap number_of applies)
claim_begins mid next index run false applies = absurd (cc applies)

pub claims_begin : ClaimsBeginAtTheSize
claims_begin limit base index filled run before after history =
    let (mid, next, is, applies) = reached limit base filled before after (claim_event index run).0 (claim_event index run).1 history.legal in
    claim_begins mid next index run (nat_le (length mid.cells + run.n) mid.limit) applies ∙ is

-- a number of a row of numbers that are counted
counted : (a m x : ℕ) (xs ys : List ℕ) → xs ++ x ∷ ys ≡ range_with_len a m → x ≡ a + length xs
counted a zero x [] ys is = absurd (cc is)
counted a (suc m) x [] ys is = let head : x ≡ a = cc is in omega arith
counted a zero x (y ∷ xs) ys is = absurd (cc is)
counted a (suc m) x (y ∷ xs) ys is = let rest = counted (a + 1) m x xs ys (cc is) in omega arith

pub claims_have_their_turn : ClaimsHaveTheirTurn
claims_have_their_turn limit base index filled run before after some_places history =
    let claim = claim_event index run in
    let here : owners_of (claim ∷ after) ≡ index ∷ owners_of after =
    owners_of-append (claim ∷ []) after
    ∙ ap (λ (runs : List OwnedRun). map (λ (run : OwnedRun). run.owner) runs ++ owners_of after)
    (one_claim (record { owner = index; from = run.from; n = run.n }) (nat_lt 0 run.n) refl some_places) in
    let all = sym (ap (λ (l : List ℕ). owners_of before ++ l) here) ∙ (sym (owners_of-append before (claim ∷ after)) ∙ history.actors) in
    let turn = counted 0 _ index (owners_of before) (owners_of after) all in
    let long : length (owners_of before) ≡ length (lengths_of before) = length-map (claims_in before) _ ∙ sym (length-map (claims_in before) _) in
    omega (arith, turn, long)
