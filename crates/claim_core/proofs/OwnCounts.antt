-- How many places a hand's own runs have after a call.
use Rattle.std.proofs.Common.{◌≡◌, ℕ, ◌+◌, ◌<◌, ◌++◌, length, ap, ◌∙◌, arith}
use Rattle.std.specs.List.{Contains}
use Rattle.std.proofs.lemmas.List.Sums.{sum_by-append, sum_by-cons}
use Rattle.std.specs.Prelude.{slice_index}
use mathlib.Core.List.{IsPrefix}
use Rattle.claim_core.specs.Lengths.{places_in}
use Rattle.claim_core.specs.Hand.{HandView, own_places}
use Rattle.claim_core.specs.Laws.{PlacesStay, OwnCountsStay, AddedPlacesAddUp, JoinedPlacesAddUp}
use Rattle.claim_core.proofs.Places.{places_stay}
use Rattle.claim_core.proofs.RunLaws.{added_last}

-- a hand that owns what two hands owned
pub own_places-joined : PlacesStay → (a b new : HandView) → IsPrefix a.seen new.seen → IsPrefix b.seen new.seen
    → new.mine ≡ a.mine ++ b.mine
    → ((k : ℕ) → Contains a.mine k → k < length a.seen) → ((k : ℕ) → Contains b.mine k → k < length b.seen)
    → own_places new ≡ own_places a + own_places b
own_places-joined law a b new seen_a seen_b mine below_a below_b =
    let all = ap (places_in new.seen) mine in
    let both = sum_by-append (λ k. slice_index new.seen k) a.mine b.mine in
    let of_a = law a.seen new.seen a.mine seen_a below_a in
    let of_b = law b.seen new.seen b.mine seen_b below_b in
    omega arith

pub own_counts_stay : OwnCountsStay
own_counts_stay old new sees keeps more = ap (places_in new.seen) keeps.mine ∙ places_stay old.seen new.seen old.mine more sees

pub joined_places_add : JoinedPlacesAddUp
joined_places_add a b new sees also_sees more also_more mine = own_places-joined places_stay a b new more also_more mine sees also_sees

pub added_places_add : AddedPlacesAddUp
added_places_add old new run sees adds =
    let gain = (added_last old new run adds).1 in
    let last = (added_last old new run adds).0 in
    let all = ap (places_in new.seen) gain.mine in
    let more = sum_by-cons (λ k. slice_index new.seen k) last old.mine in
    let stay = places_stay old.seen new.seen old.mine gain.seen sees in
    let n = gain.sees.n in
    omega arith
