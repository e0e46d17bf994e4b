-- A whole hand has seen all that was claimed, and owns it.
use Rattle.std.proofs.Common.{◌≡◌, ℕ, zero, suc, ◌+◌, List, [], ◌∷◌, ◌++◌, length, get_or, refl, ap, sym, ◌∙◌, arith, length-append}
use mathlib.Core.Option.{some, some-injective, some-ne-none}
use lib.ListN.{get_elem?}
use Rattle.atomic_table.specs.Seated.{TableId}
use Rattle.atomic_table.specs.Table.{Seen, Final}
use Rattle.claim_core.specs.declared.seat_view.SeatView.{SeatView}
use Rattle.claim_core.specs.declared.terms.Terms.{Terms}
use Rattle.book_core.specs.declared.events.Event.{Event}
use Rattle.book_core.specs.declared.events.Reply.{Reply}
use Rattle.claim_core.specs.History.{Log}
use Rattle.claim_core.specs.Lengths.{runs_end, times, once_below}
use Rattle.claim_core.specs.Word.{WordView}
use Rattle.claim_core.specs.Hand.{HandView, seen_size}
use Rattle.claim_core.specs.Seat.{ClaimSeat, hand_view, IsHeld}
use Rattle.claim_core.specs.Rule.{Kept, size_at}
use Rattle.claim_core.specs.SeatView.{IsConsistent, Looks, Claims}
use Rattle.claim_core.proofs.Prefixes.{prefix_whole}
use Rattle.claim_core.proofs.Counts.{once_more}
use Rattle.claim_core.proofs.Fits.{whole_saw}
use Rattle.claim_core.proofs.Belongs.{Belongs}

-- a whole hand finds the size that it has seen
Looks-whole : (v w : SeatView) (found : ℕ) (es : Log) → IsConsistent v → Looks v found es w → v.shares ≡ 65536
    → found ≡ runs_end v.base v.seen
Looks-whole v w found es consistent looks all =
    let still : w.shares ≡ 65536 = looks.same.shares ∙ all in
    let before = consistent.whole all (length v.seen) in
    let after = looks.consistent.whole still (length v.seen) in
    let same : times (length v.seen) w.mine ≡ times (length v.seen) v.mine = ap (times (length v.seen)) looks.same.mine in
    let is : v.seen ≡ w.seen = prefix_whole v.seen w.seen looks.seen (omega arith) in
    sym looks.size ∙ (ap (λ b. runs_end b w.seen) looks.same.base ∙ ap (runs_end v.base) (sym is))

Claims-whole : (v w : SeatView) (found n : ℕ) (event : ℕ → Event × Reply) → IsConsistent v → Claims v found n event w → v.shares ≡ 65536
    → found ≡ runs_end v.base v.seen
Claims-whole v w found n event consistent claims all =
    let still : w.shares ≡ 65536 = claims.same.shares ∙ all in
    let front = v.seen ++ claims.between in
    let k = length v.seen in
    let before = consistent.whole all k in
    let after = claims.consistent.whole still k in
    let mine : times k w.mine ≡ times k (length front ∷ []) + times k v.mine = omega (arith, ap (times k) claims.mine) in
    let long : length w.seen ≡ length front + 1 = ap length claims.seen ∙ length-append front (n ∷ []) in
    let more = once_more k (length front) in
    let same : once_below k (length w.seen) ≡ once_below k (length front + 1) = ap (once_below k) long in
    let is : v.seen ≡ front = prefix_whole v.seen front (claims.between, refl) (omega arith) in
    sym claims.size ∙ (ap (λ b. runs_end b front) claims.same.base ∙ ap (runs_end v.base) (sym is))

-- the same, as a caller sees it
pub finds_seen : {seat : ClaimSeat} {share size floor found : ℕ} {es : Log} {w : SeatView} {hand : HandView} → IsHeld seat share size
    → hand_view floor seat ≡ hand
    → Looks seat.me.0 found es w → hand.shares ≡ 65536 → found ≡ seen_size hand
finds_seen {seat} {share} {size} {floor} {found} {es} {w} {hand} held hand_is looks all =
    Looks-whole seat.me.0 w found es held.consistent looks (ap (λ (h : HandView). h.shares) hand_is ∙ all) ∙ ap seen_size hand_is

pub claims_seen : {seat : ClaimSeat} {share size floor found n : ℕ} {event : ℕ → Event × Reply} {w : SeatView} {hand : HandView}
    → IsHeld seat share size → hand_view floor seat ≡ hand
    → Claims seat.me.0 found n event w → hand.shares ≡ 65536 → found ≡ seen_size hand
claims_seen {seat} {share} {size} {floor} {found} {n} {event} {w} {hand} held hand_is claims all =
    Claims-whole seat.me.0 w found n event held.consistent claims (ap (λ (h : HandView). h.shares) hand_is ∙ all) ∙ ap seen_size hand_is

get_or_is : (xs : List ℕ) (i x : ℕ) → get_elem? xs i ≡ some x → get_or xs i 0 ≡ x
get_or_is [] i x at = absurd (some-ne-none x (sym at))
get_or_is (y ∷ ys) zero x at = some-injective y x at
get_or_is (y ∷ ys) (suc i) x at = get_or_is ys i x at

-- the last size is the one that a whole hand has seen
pub closes : {seat : ClaimSeat} {floor : ℕ} {table : TableId} {key : Terms} {word : WordView} {hand : HandView} (words : List ℕ) (slots : List (Unit {0})) (last : ℕ)
    → Belongs seat table key word → hand_view floor seat ≡ hand → Final (Seen (Kept key) seat.id seat.me.0) words slots → get_elem? words size_at ≡ some last
    → hand.shares ≡ 65536 → last ≡ seen_size hand
closes {seat} {floor} {table} {key} {word} {hand} words slots last belong hand_is final at all =
    let s = final.0 in
    let kept = final.1.0 in
    let v = seat.me.0 in
    let found : get_or s.words size_at 0 ≡ last = ap (λ (ws : List ℕ). get_or ws size_at 0) final.2 ∙ get_or_is words size_at last at in
    let saw : v.seen ≡ kept.lengths = whole_saw key.limit key.base (get_or s.words size_at 0) kept.lengths s.views kept.fits seat.id v final.1.1 (ap (λ (h : HandView). h.shares) hand_is ∙ all) in
    sym found ∙ (kept.fits.ends ∙ (ap (λ b. runs_end b kept.lengths) (sym belong.base) ∙ (ap (runs_end v.base) (sym saw) ∙ ap seen_size hand_is)))
