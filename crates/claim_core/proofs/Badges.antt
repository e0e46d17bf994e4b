-- What a hand's badge has: the seat's view, or none while the seat is lent.
use Rattle.std.proofs.Common.{◌≡◌, ℕ, ◌+◌, ◌<◌, ◌≤◌, List, [], ◌∷◌, length, refl, ap, sym, ◌∙◌, subst, arith}
use Rattle.std.proofs.lemmas.List.Elements.{All-nil}
use Rattle.std.specs.List.{Contains}
use Rattle.atomic_table.specs.Seated.{TableId}
use Rattle.claim_core.specs.declared.seat_view.SeatView.{SeatView}
use Rattle.claim_core.specs.History.{first_list, lengths_of}
use Rattle.claim_core.specs.Hand.{HandView, IsWholeHand, seen_size, own_places}
use Rattle.claim_core.specs.Lent.{lent_view, lent_hand, seat_hand}
use Rattle.claim_core.specs.Rule.{word_count}
use Rattle.claim_core.specs.Seat.{ClaimSeat, hand_view, hand_by, IsHeld, IsOf, IsKept, IsSound}
use Rattle.claim_core.specs.SeatView.{IsConsistent}
use Rattle.claim_core.proofs.Prefixes.{prefix_nil}
use Rattle.claim_core.proofs.Places.{places_in-le, places_in-all}
use Rattle.claim_core.proofs.Counts.{times-from_Contains, Contains-from_times, IsDistinct-from_times}

-- ---- Lists

no_cons : {A : Type 0} {x : A} {xs : List A} → [] ≡ x ∷ xs → ⊥
no_cons e = cc e

pub first_same : {A : Type 0} {x y : A} {xs ys : List A} → x ∷ xs ≡ y ∷ ys → x ≡ y
first_same e = cc e

rest_same : {A : Type 0} {x y : A} {xs ys : List A} → x ∷ xs ≡ y ∷ ys → xs ≡ ys
rest_same e = cc e

-- ---- A badge with a seat, and a blank one

-- a badge with this view
pub kept_view : {w : SeatView} {share size : ℕ} {views : List SeatView} → 0 < share → IsOf w share size → views ≡ w ∷ []
    → IsKept views share size
kept_view {w} {share} {size} {views} positive numbers here =
    let shares = numbers.shares in
    let most = numbers.consistent.shares in
    record {
      positive = positive;
      most = omega arith;
      of = λ v vs is.
          let same : w ∷ [] ≡ v ∷ vs = sym here ∙ is in
          (sym (rest_same same), subst (λ (u : SeatView). IsOf u share size) (first_same same) numbers);
    }

-- a badge that a seat went into
pub kept_seat : {seat : ClaimSeat} {share size : ℕ} {views : List SeatView} → IsHeld seat share size → views ≡ seat.me.0 ∷ []
    → IsKept views share size
kept_seat {seat} {share} {size} {views} held here =
    let numbers : IsOf seat.me.0 share size = record { shares = held.shares; seen = held.seen; consistent = held.consistent } in
    kept_view held.positive numbers here

-- the hand is then the seat's
pub put_view : (floor : ℕ) (table : TableId) (views : List SeatView) (share size : ℕ) (seat : ClaimSeat)
    → table ≡ seat.table_id → views ≡ seat.me.0 ∷ [] → hand_by floor table views share size ≡ hand_view floor seat
put_view floor table views share size seat same here =
    ap (λ (z : TableId). hand_by floor z views share size) same
    ∙ ap (λ (vs : List SeatView). hand_by floor seat.table_id vs share size) here

-- a badge that a seat was taken out of
pub kept_blank : {share size : ℕ} {views blank : List SeatView} → IsKept views share size → blank ≡ [] → IsKept blank share size
kept_blank {share} {size} {views} {blank} kept none =
    record { positive = kept.positive; most = kept.most; of = λ v vs is. absurd (no_cons (sym none ∙ is)) }

-- ---- The numbers of a hand

share_by : (floor : ℕ) (table : TableId) (views : List SeatView) (share size : ℕ) → IsKept views share size
    → share ≡ (hand_by floor table views share size).shares
share_by floor table [] share size kept = refl
share_by floor table (v ∷ vs) share size kept = ((kept.of v vs refl).1).shares

size_by : (floor : ℕ) (table : TableId) (views : List SeatView) (share size : ℕ) → IsKept views share size
    → size ≡ seen_size (hand_by floor table views share size)
size_by floor table [] share size kept = omega arith
size_by floor table (v ∷ vs) share size kept = ((kept.of v vs refl).1).seen

floor_by : (floor : ℕ) (table : TableId) (views : List SeatView) (share size : ℕ)
    → floor ≡ (hand_by floor table views share size).of.floor
floor_by floor table [] share size = refl
floor_by floor table (v ∷ vs) share size = refl

module _
    (floor : ℕ) (table : TableId) (views : List SeatView) (share size : ℕ) (hand : HandView) (kept : IsKept views share size)
    (hand_is : hand_by floor table views share size ≡ hand) where
  pub share_is : share ≡ hand.shares
  share_is = share_by floor table views share size kept ∙ ap (λ (h : HandView). h.shares) hand_is

  pub size_is : size ≡ seen_size hand
  size_is = size_by floor table views share size kept ∙ ap seen_size hand_is

  pub floor_is : floor ≡ hand.of.floor
  floor_is = floor_by floor table views share size ∙ ap (λ (h : HandView). h.of.floor) hand_is

  -- once its badge is blank, the hand has lent its seat
  pub lends : (other : TableId) (blank : List SeatView) → blank ≡ [] → hand_by floor other blank share size ≡ lent_hand hand
  lends other blank none =
      ap (λ (vs : List SeatView). hand_by floor other vs share size) none
      ∙ (ap (λ (f : ℕ). lent_view f share size) floor_is
      ∙ (ap (λ (s : ℕ). lent_view hand.of.floor s size) share_is
      ∙ ap (λ (n : ℕ). lent_view hand.of.floor hand.shares n) size_is))

  -- with a seat in its badge it is the seat's
  pub puts : (other : TableId) (now : List SeatView) (more long : ℕ) (seat : ClaimSeat) → other ≡ seat.table_id → now ≡ seat.me.0 ∷ []
      → hand_by floor other now more long ≡ hand_view hand.of.floor seat
  puts other now more long seat same here =
      put_view floor other now more long seat same here ∙ ap (λ (f : ℕ). hand_view f seat) floor_is

-- ---- The seat of a hand

-- the badge has a view, and the hand is that of the view
pub record HasSeat (floor : ℕ) (table : TableId) (views : List SeatView) (share size : ℕ) (hand : HandView) : Type 0 where
  pub view : SeatView
  pub one : views ≡ view ∷ []
  pub is : seat_hand floor table view ≡ hand
  pub numbers : IsOf view share size
  pub part : 0 < view.shares

-- the hand of a word has a seat
pub has_seat : (floor : ℕ) (table : TableId) (views : List SeatView) (share size : ℕ) (hand : HandView) → IsKept views share size
    → hand_by floor table views share size ≡ hand → hand.of.table.words ≡ word_count
    → HasSeat floor table views share size hand
has_seat floor table [] share size hand kept hand_is here =
    let none : 0 ≡ hand.of.table.words = ap (λ (h : HandView). h.of.table.words) hand_is in
    absurd (omega arith)
has_seat floor table (v ∷ vs) share size hand kept hand_is here =
    let known = kept.of v vs refl in
    let positive = kept.positive in
    let shares = known.1.shares in
    record { view = v; one = ap (λ (ws : List SeatView). v ∷ ws) known.0; is = hand_is; numbers = known.1; part = omega arith }

module _
    (floor : ℕ) (table : TableId) (views : List SeatView) (share size : ℕ) (hand : HandView)
    (has : HasSeat floor table views share size hand) where
  view_is : (v : SeatView) → views ≡ v ∷ [] → has.view ≡ v
  view_is v here = first_same (sym has.one ∙ here)

  -- the hand is that of its seat
  pub seat_is : (other : TableId) (v : SeatView) → other ≡ table → views ≡ v ∷ [] → seat_hand hand.of.floor other v ≡ hand
  seat_is other v same here =
      ap (λ (f : ℕ). seat_hand f other v) (sym (ap (λ (h : HandView). h.of.floor) has.is))
      ∙ (ap (λ (z : TableId). seat_hand floor z v) same ∙ (ap (λ (u : SeatView). seat_hand floor table u) (sym (view_is v here)) ∙ has.is))

  -- so it is of a seat that was taken out
  pub taken_view : (seat : ClaimSeat) → seat.table_id ≡ table → views ≡ seat.me.0 ∷ [] → hand_view hand.of.floor seat ≡ hand
  taken_view seat same here = seat_is seat.table_id seat.me.0 same here

  pub taken_held : (seat : ClaimSeat) → seat.table_id ≡ table → views ≡ seat.me.0 ∷ [] → seat.me.1 ≡ [] → IsHeld seat hand.shares (seen_size hand)
  taken_held seat same here none =
      let part = has.part in
      let shares = ap (λ (h : HandView). h.shares) has.is in
      let is = taken_view seat same here in
      record {
        no_slot = none;
        shares = sym (ap (λ (h : HandView). h.shares) is);
        seen = sym (ap seen_size is);
        positive = omega arith;
        consistent = subst IsConsistent (view_is seat.me.0 here) has.numbers.consistent;
      }

-- ---- What holds of each hand

-- of one with its seat: it has seen each run that it owns, and owns none twice, and its runs have no more places than
-- there are from the base to the size that it has seen
seat_sound : (floor : ℕ) (table : TableId) (v : SeatView) → IsConsistent v → 0 < v.shares → IsSound (seat_hand floor table v)
seat_sound floor table v consistent part =
    record {
      positive = consistent.positive;
      within = consistent.within;
      below = λ k there. let t = times-from_Contains v.mine k there in let o = consistent.own k in omega arith;
      once = λ k. let o = consistent.own k in omega arith;
      distinct = IsDistinct-from_times v.mine (λ k. let o = consistent.own k in omega arith);
      places = let p = places_in-le v.seen v.mine consistent.own in omega arith;
      some_shares = part;
      not_more = consistent.shares;
      history = consistent.history;
      lengths = consistent.lengths;
      begun = consistent.begun;
    }

-- of one that has lent it
lent_sound : (floor share size : ℕ) → 0 < share → share ≤ 65536 → IsSound (lent_view floor share size)
lent_sound floor share size part most =
    record {
      positive = All-nil (λ n. 0 < n);
      within = omega arith;
      below = λ k there. let t = there.1 in absurd (omega arith);
      once = λ k. omega arith;
      distinct = IsDistinct-from_times [] (λ k. omega arith);
      places = let p = places_in-le [] [] (λ k. omega arith) in omega arith;
      some_shares = part;
      not_more = most;
      history = record { legal = (first_list size size [], refl); actors = refl };
      lengths = prefix_nil [];
      begun = λ place there. let t = there.1 in absurd (omega arith);
    }

sound_by : (floor : ℕ) (table : TableId) (views : List SeatView) (share size : ℕ) → IsKept views share size
    → IsSound (hand_by floor table views share size)
sound_by floor table [] share size kept = lent_sound floor share size kept.positive kept.most
sound_by floor table (v ∷ vs) share size kept =
    let known = kept.of v vs refl in
    let positive = kept.positive in
    let shares = known.1.shares in
    seat_sound floor table v known.1.consistent (omega arith)

-- a whole hand owns each run that it has seen, and claims just those; where they end is the base and the places of all
-- its runs
pub record SoundWhole (hand : HandView) : Type 0 where
  pub all : (k : ℕ) → k < length hand.seen → Contains hand.mine k
  pub size : seen_size hand ≡ hand.of.base + own_places hand
  pub claims : lengths_of hand.log ≡ hand.seen

whole_by : (floor : ℕ) (table : TableId) (views : List SeatView) (share size : ℕ) → IsKept views share size
    → IsWholeHand (hand_by floor table views share size) → SoundWhole (hand_by floor table views share size)
whole_by floor table [] share size kept all =
    record {
      all = λ k below. absurd (omega arith);
      size = let p = places_in-all [] [] (λ k. omega arith) in omega arith;
      claims = refl;
    }
whole_by floor table (v ∷ vs) share size kept all =
    let consistent = ((kept.of v vs refl).1).consistent in
    record {
      all = λ k below. Contains-from_times v.mine k (let o = consistent.whole all k in omega arith);
      size = let p = places_in-all v.seen v.mine (consistent.whole all) in omega arith;
      claims = consistent.whole_log all;
    }

module _
    (floor : ℕ) (table : TableId) (views : List SeatView) (share size : ℕ) (hand : HandView) (kept : IsKept views share size)
    (hand_is : hand_by floor table views share size ≡ hand) where
  pub sound : IsSound hand
  sound = subst IsSound hand_is (sound_by floor table views share size kept)

  pub sound_whole : IsWholeHand hand → SoundWhole hand
  sound_whole all =
      subst (λ (h : HandView). IsWholeHand h → SoundWhole h) hand_is (whole_by floor table views share size kept) all
