-- What a hand has gained once it has its seat back.
use Rattle.std.proofs.Common.{◌≡◌, ℕ, ◌+◌, Option, Some, None, List, [], ◌∷◌, refl, ap, sym, ◌∙◌, subst, arith}
use Rattle.std.proofs.lemmas.List.{append-nil}
use Rattle.atomic_table.specs.Seated.{TableId}
use Rattle.tie_core.specs.Tie.{Stage, Made}
use Rattle.tie_core.specs.Desk.{IsBack}
use Rattle.tie_core.specs.Run.{IsBackWith}
use Rattle.tie_core.specs.Visit.{Content, IsBackFrom}
use Rattle.claim_core.specs.declared.seat_view.SeatView.{SeatView}
use Rattle.claim_core.specs.Lengths.{runs_end}
use Rattle.claim_core.specs.Hand.{HandView, IsWholeHand, seen_size}
use Rattle.claim_core.specs.Lent.{seat_hand}
use Rattle.claim_core.specs.Seat.{hand_by, IsKept, IsOf}
use Rattle.claim_core.specs.Gain.{Gain, no_gain, Gains, GainsBy, GainsFrom, ChainGain, GainsChain, GainsAlong, EndsAt, IsLent, HasLent}
use Rattle.claim_core.specs.Plays.{cell_stage, read_gains, Learns, LearnsChain, told_by, told_along, told_of, unseen, ShowsAt, ReadsBy}
use Rattle.claim_core.specs.SeatView.{IsConsistent}
use Rattle.claim_core.specs.SeatSteps.{LearnsEnd, IsStill}
use Rattle.claim_core.proofs.Badges.{HasSeat, first_same, seat_is, kept_view, lends, share_is, size_is, floor_is}

-- ---- What is lent

-- the hand whose badge has been left blank has lent its seat
pub lent_by : (floor : ℕ) (table : TableId) (views : List SeatView) (share size : ℕ) (hand : HandView) → IsKept views share size
    → hand_by floor table views share size ≡ hand → HasSeat floor table views share size hand
    → (other about : TableId) (blank : List SeatView) (v : SeatView) → blank ≡ [] → about ≡ table → views ≡ v ∷ []
    → IsLent about v hand (hand_by floor other blank share size)
lent_by floor table views share size hand kept hand_is has other about blank v none same here =
    record {
      seat = seat_is floor table views share size hand has about v same here;
      is = lends floor table views share size hand kept hand_is other blank none;
    }

-- ---- What came back

-- the seat is back at a view that has the numbers of the one that was lent
pub record Came (v : SeatView) (views : List SeatView) : Type 0 where
  pub view : SeatView
  pub one : views ≡ view ∷ []
  pub base : view.base ≡ v.base
  pub seen : view.seen ≡ v.seen
  pub shares : view.shares ≡ v.shares
  pub consistent : IsConsistent view

-- the seat is back at a view which has learned something
pub record Back (v : SeatView) (views : List SeatView) : Type 0 where
  pub view : SeatView
  pub one : views ≡ view ∷ []
  pub gain : Gain
  pub learns : Learns v gain view

abbrev came_by : {v : SeatView} {views : List SeatView} → Back v views → Came v views
came_by b =
    record {
      view = b.view;
      one = b.one;
      base = b.learns.same.base;
      seen = b.learns.seen;
      shares = b.learns.same.shares;
      consistent = b.learns.consistent;
    }

-- the same after steps on a run
pub record BackAlong (v : SeatView) (views : List SeatView) : Type 0 where
  pub view : SeatView
  pub one : views ≡ view ∷ []
  pub gain : ChainGain
  pub learns : LearnsChain v gain view

abbrev came_along : {v : SeatView} {views : List SeatView} → BackAlong v views → Came v views
came_along b =
    record {
      view = b.view;
      one = b.one;
      base = b.learns.same.base;
      seen = b.learns.seen;
      shares = b.learns.same.shares;
      consistent = b.learns.consistent;
    }

-- the same if nothing was learned
pub record BackStill (v : SeatView) (views : List SeatView) : Type 0 where
  pub view : SeatView
  pub one : views ≡ view ∷ []
  pub still : IsStill v view

abbrev came_still : {v : SeatView} {views : List SeatView} → BackStill v views → Came v views
came_still b =
    record {
      view = b.view;
      one = b.one;
      base = ap (λ (u : SeatView). u.base) b.still.same;
      seen = ap (λ (u : SeatView). u.seen) b.still.same;
      shares = ap (λ (u : SeatView). u.shares) b.still.same;
      consistent = b.still.consistent;
    }

-- from an offer, it is what the play says
abbrev pub HasGained : (Stage → Stage → Gain → Type 0) → Option Made → Gain → Type 0
HasGained gains None gain = ⊥
HasGained gains (Some m) gain = gains m.0 m.1 gain

pub back_by : (gains : ℕ → SeatView → Stage → Stage → Gain → Type 0) (told : ℕ) (v : SeatView) (made : Option Made)
    (views : List SeatView) → IsBack (told_by gains told v) made views
    → (b : Back v views) × HasGained (gains told v) made b.gain
back_by gains told v None views back = absurd back
back_by gains told v (Some m) views back =
    let tell = back.2 in
    (record { view = back.0; one = back.1; gain = tell.0; learns = tell.2 }, tell.1)

gains_by : (gains : Stage → Stage → Gain → Type 0) (made : Option Made) (gain : Gain) (old new : HandView)
    → HasGained gains made gain → Gains gain old new → GainsBy gains made old new
gains_by gains None gain old new has is = absurd has
gains_by gains (Some m) gain old new has is = (gain, has, is)

-- from an offer for a run, it is what the play says of all stages
abbrev pub HasGainedAlong : (List Made → ChainGain → Type 0) → Option (List Made) → ChainGain → Type 0
HasGainedAlong gains None gain = ⊥
HasGainedAlong gains (Some ms) gain = gains ms gain

pub back_along : (gains : ℕ → SeatView → List Made → ChainGain → Type 0) (told : ℕ) (v : SeatView) (made : Option (List Made))
    (views : List SeatView) → IsBackWith (told_along gains told v) made views
    → (b : BackAlong v views) × HasGainedAlong (gains told v) made b.gain
back_along gains told v None views back = absurd back
back_along gains told v (Some ms) views back =
    let tell = back.2 in
    (record { view = back.0; one = back.1; gain = tell.0; learns = tell.2 }, tell.1)

gains_along : (gains : List Made → ChainGain → Type 0) (made : Option (List Made)) (gain : ChainGain) (old new : HandView)
    → HasGainedAlong gains made gain → GainsChain gain old new → GainsAlong gains made old new
gains_along gains None gain old new has is = absurd has
gains_along gains (Some ms) gain old new has is = (gain, has, is)

-- from a visit that shows nothing, nothing
pub back_unseen : (told : ℕ) (v : SeatView) (made : Option Content) (views : List SeatView) → IsBackFrom (unseen told v) made views
    → BackStill v views
back_unseen told v None views back = absurd back
back_unseen told v (Some found) views back = record { view = back.0; one = back.1; still = back.2 }

-- from a visit, it is what the play says of what the step found
abbrev pub IsGainOf : (Content → Gain) → Option Content → Gain → Type 0
IsGainOf gain None known = ⊥
IsGainOf gain (Some found) known = known ≡ gain found

pub back_from : (gain : ℕ → Content → Gain) (told : ℕ) (v : SeatView) (made : Option Content) (views : List SeatView)
    → IsBackFrom (told_of gain told v) made views
    → (b : Back v views) × IsGainOf (gain told) made b.gain
back_from gain told v None views back = absurd back
back_from gain told v (Some found) views back =
    (record { view = back.0; one = back.1; gain = gain told found; learns = back.2 }, refl)

gains_from : (gain : Content → Gain) (made : Option Content) (known : Gain) (old new : HandView) → IsGainOf gain made known
    → Gains known old new → GainsFrom gain made old new
gains_from gain None known old new has is = absurd has
gains_from gain (Some found) known old new has is = subst (λ (g : Gain). Gains g old new) has is

-- ---- The hand

-- what its seat has learned, the hand has gained
learned : (floor : ℕ) (table : TableId) (v w : SeatView) (gain : Gain) → Learns v gain w
    → Gains gain (seat_hand floor table v) (seat_hand floor table w)
learned floor table v w gain learns =
    let same = learns.same in
    record {
      of = λ i. record { table = table; limit = same.limit i; base = same.base i; mark = same.mark i; filled = same.filled i; floor = floor };
      seen = learns.seen;
      mine = same.mine;
      shares = same.shares;
      log = learns.log;
      alone = learns.alone;
      begun = learns.begun;
      rows = learns.rows;
      laid = same.laid;
    }

-- the same of what it has learned by steps on a run
learned_along : (floor : ℕ) (table : TableId) (v w : SeatView) (gain : ChainGain) → LearnsChain v gain w
    → GainsChain gain (seat_hand floor table v) (seat_hand floor table w)
learned_along floor table v w gain learns =
    let same = learns.same in
    record {
      of = λ i. record { table = table; limit = same.limit i; base = same.base i; mark = same.mark i; filled = same.filled i; floor = floor };
      seen = learns.seen;
      mine = same.mine;
      shares = same.shares;
      log = learns.log;
      begun = learns.begun;
      rows = same.rows;
      laid = same.laid;
    }

-- the same of where entries end
pub end_learned : (floor : ℕ) (table : TableId) (v w : SeatView) (end : ℕ) → LearnsEnd v end w
    → EndsAt end (seat_hand floor table v) (seat_hand floor table w)
end_learned floor table v w end learns =
    let same = learns.same in
    record {
      of = λ i. record { table = table; limit = same.limit i; base = same.base i; mark = same.mark i; filled = same.filled i; floor = floor };
      seen = learns.seen;
      mine = same.mine;
      shares = same.shares;
      log = learns.log;
      begun = same.begun;
      rows = same.rows;
      laid = learns.end;
    }

-- The hand whose badge was blank, with the two numbers that it kept, and the badge that came back
module _
    (floor : ℕ) (blank_table : TableId) (blank : List SeatView) (share size : ℕ) (lent : HandView) (kept : IsKept blank share size)
    (lent_is : hand_by floor blank_table blank share size ≡ lent) (table : TableId) (v : SeatView) (views : List SeatView) where
  module _ (came : Came v views) where
    -- it keeps the numbers of the view that it lent
    came_kept : HasLent table v lent → IsKept views share size
    came_kept has =
        let hand = has.0 in
        let is = has.1 in
        let w = came.view in
        let share_here : share ≡ lent.shares = share_is floor blank_table blank share size lent kept lent_is in
        let size_here : size ≡ seen_size lent = size_is floor blank_table blank share size lent kept lent_is in
        let share_there : lent.shares ≡ hand.shares = ap (λ (h : HandView). h.shares) is.is in
        let size_there : seen_size lent ≡ seen_size hand = ap seen_size is.is ∙ omega arith in
        let share_seat : v.shares ≡ hand.shares = ap (λ (h : HandView). h.shares) is.seat in
        let size_seat : runs_end v.base v.seen ≡ seen_size hand = ap seen_size is.seat in
        let size_now : runs_end w.base w.seen ≡ runs_end v.base v.seen =
        ap (λ (b : ℕ). runs_end b w.seen) came.base ∙ ap (runs_end v.base) came.seen in
        let numbers : IsOf w share size =
        record {
          shares = share_here ∙ (share_there ∙ (sym share_seat ∙ sym came.shares));
          seen = size_here ∙ (size_there ∙ (sym size_seat ∙ sym size_now));
          consistent = came.consistent;
        } in
        kept_view kept.positive numbers came.one

    -- what holds of the hands of the two views holds of the hand that lent the seat, and of what it is then
    came_as : (P : HandView → HandView → Type 0) (other : TableId) → other ≡ table → (hand : HandView) → IsLent table v hand lent
        → P (seat_hand hand.of.floor table v) (seat_hand hand.of.floor table came.view)
        → P hand (hand_by floor other views share size)
    came_as P other same hand is fact =
        let floor_here : floor ≡ hand.of.floor =
        floor_is floor blank_table blank share size lent kept lent_is ∙ ap (λ (h : HandView). h.of.floor) is.is in
        let now : hand_by floor other views share size ≡ seat_hand hand.of.floor table came.view =
        ap (λ (vs : List SeatView). hand_by floor other vs share size) came.one
        ∙ (ap (λ (f : ℕ). seat_hand f other came.view) floor_here ∙ ap (λ (z : TableId). seat_hand hand.of.floor z came.view) same) in
        subst (λ (h : HandView). P hand h) (sym now)
        (subst (λ (h : HandView). P h (seat_hand hand.of.floor table came.view)) is.seat fact)

  module _ (back : Back v views) where
    pub back_kept : HasLent table v lent → IsKept views share size
    back_kept has = came_kept (came_by back) has

    -- it is the hand that lent the seat, with its gain
    back_gains : (other : TableId) → other ≡ table → (hand : HandView) → IsLent table v hand lent
        → Gains back.gain hand (hand_by floor other views share size)
    back_gains other same hand is =
        came_as (came_by back) (Gains back.gain) other same hand is
        (learned hand.of.floor table v back.view back.gain back.learns)

    pub back_gains_by : (gains : Stage → Stage → Gain → Type 0) (made : Option Made) → HasGained gains made back.gain
        → (other : TableId) → other ≡ table → (hand : HandView) → IsLent table v hand lent
        → GainsBy gains made hand (hand_by floor other views share size)
    back_gains_by gains made has other same hand is =
        gains_by gains made back.gain hand (hand_by floor other views share size) has (back_gains other same hand is)

    pub back_gains_from : (gain : Content → Gain) (made : Option Content) → IsGainOf gain made back.gain
        → (other : TableId) → other ≡ table → (hand : HandView) → IsLent table v hand lent
        → GainsFrom gain made hand (hand_by floor other views share size)
    back_gains_from gain made has other same hand is =
        gains_from gain made back.gain hand (hand_by floor other views share size) has (back_gains other same hand is)

  -- the same after steps on a run
  module _ (back : BackAlong v views) where
    pub along_kept : HasLent table v lent → IsKept views share size
    along_kept has = came_kept (came_along back) has

    pub back_gains_along : (gains : List Made → ChainGain → Type 0) (made : Option (List Made)) → HasGainedAlong gains made back.gain
        → (other : TableId) → other ≡ table → (hand : HandView) → IsLent table v hand lent
        → GainsAlong gains made hand (hand_by floor other views share size)
    back_gains_along gains made has other same hand is =
        gains_along gains made back.gain hand (hand_by floor other views share size) has
        (came_as (came_along back) (GainsChain back.gain) other same hand is
        (learned_along hand.of.floor table v back.view back.gain back.learns))

  -- or if nothing was learned
  module _ (back : BackStill v views) where
    pub still_kept : HasLent table v lent → IsKept views share size
    still_kept has = came_kept (came_still back) has

    pub back_same : (other : TableId) → other ≡ table → (hand : HandView) → IsLent table v hand lent
        → hand_by floor other views share size ≡ hand
    back_same other same hand is =
        came_as (came_still back) (λ (old new : HandView). new ≡ old) other same hand is
        (ap (λ (u : SeatView). seat_hand hand.of.floor table u) back.still.same)

-- ---- A read

-- a whole hand that has gained nothing is what it was
nothing_gained : (old new : HandView) → IsWholeHand old → Gains no_gain old new → new ≡ old
nothing_gained old new whole gains =
    let log : new.log ≡ old.log = gains.alone whole ∙ append-nil old.log in
    λ i. record {
      of = gains.of i;
      seen = gains.seen i;
      mine = gains.mine i;
      shares = gains.shares i;
      log = log i;
      begun = gains.begun i;
      rows = gains.rows i;
      laid = gains.laid i;
    }

pub back_read : {table : TableId} {v : SeatView} {hand lent : HandView} (told : ℕ) (made : Option Made) (new : HandView)
    → IsLent table v hand lent → GainsBy (read_gains told v) made hand new → ReadsBy told made hand new
back_read {table} {v} {hand} {lent} told None new is gains = absurd gains
back_read {table} {v} {hand} {lent} told (Some m) new is gains =
    let read = gains.1 in
    let nothing : Gains no_gain hand new = subst (λ (g : Gain). Gains g hand new) (read.0) (gains.2) in
    let whole : IsWholeHand hand = subst IsWholeHand is.seat (read.1) in
    (nothing_gained hand new whole nothing, subst (λ (h : HandView). ShowsAt h told (cell_stage m.0)) is.seat (read.2))

-- ---- A new entry, of which the hand's seat learns in its badge

pub entered_kept : {floor : ℕ} {table : TableId} {views now : List SeatView} {share size end : ℕ} {hand : HandView} {v w : SeatView}
    → IsKept views share size → HasSeat floor table views share size hand → views ≡ v ∷ [] → now ≡ w ∷ [] → LearnsEnd v end w
    → IsKept now share size
entered_kept {floor} {table} {views} {now} {share} {size} {end} {hand} {v} {w} kept has here there learns =
    let same = learns.same in
    let was : IsOf v share size = subst (λ (u : SeatView). IsOf u share size) (first_same (sym has.one ∙ here)) has.numbers in
    let size_now : runs_end w.base w.seen ≡ runs_end v.base v.seen =
    ap (λ (b : ℕ). runs_end b w.seen) same.base ∙ ap (runs_end v.base) learns.seen in
    let numbers : IsOf w share size =
    record { shares = was.shares ∙ sym same.shares; seen = was.seen ∙ sym size_now; consistent = learns.consistent } in
    kept_view kept.positive numbers there

pub entered_ends : (from : ℕ) {floor n also_n : ℕ} {table other : TableId} {views now : List SeatView} {share size : ℕ} {hand : HandView} {v w : SeatView}
    → also_n ≡ n → HasSeat floor table views share size hand → other ≡ table → views ≡ v ∷ [] → now ≡ w ∷ [] → LearnsEnd v (from + also_n) w
    → EndsAt (from + n) hand (hand_by floor other now share size)
entered_ends from {floor} {n} {also_n} {table} {other} {views} {now} {share} {size} {hand} {v} {w} long has same here there learns =
    let was : seat_hand hand.of.floor table v ≡ hand = seat_is floor table views share size hand has table v refl here in
    let is : hand_by floor other now share size ≡ seat_hand hand.of.floor table w =
    ap (λ (vs : List SeatView). hand_by floor other vs share size) there
    ∙ (ap (λ (f : ℕ). seat_hand f other w) (ap (λ (h : HandView). h.of.floor) has.is) ∙ ap (λ (z : TableId). seat_hand hand.of.floor z w) same) in
    subst (λ (h : HandView). EndsAt (from + n) hand h) (sym is)
    (subst (λ (h : HandView). EndsAt (from + n) h (seat_hand hand.of.floor table w)) was
    (end_learned hand.of.floor table v w (from + n) (subst (λ (m : ℕ). LearnsEnd v (from + m) w) long learns)))
