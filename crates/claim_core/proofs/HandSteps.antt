-- What a step of its seat does to a hand, as callers see it.
use Rattle.std.proofs.Common.{◌≡◌, ◌⊎◌, ℕ, ◌+◌, ◌-◌, ◌<◌, ◌≤◌, max, nat_le, if◌then◌else◌, Bool, true, false, List, [], ◌∷◌, ◌++◌, length, refl, ap, sym, ◌∙◌, subst, inl, inr, ⊎_elim, arith, length-append}
use Rattle.std.specs.List.{sum}
use mathlib.Core.List.{IsPrefix}
use Rattle.atomic_table.specs.Seated.{TableId}
use Rattle.book_core.specs.declared.events.Event.{Event}
use Rattle.book_core.specs.declared.events.Reply.{Reply}
use Rattle.claim_core.specs.declared.run.Run.{Run}
use Rattle.claim_core.specs.declared.seat_view.SeatView.{SeatView}
use Rattle.claim_core.specs.Lengths.{runs_end}
use Rattle.claim_core.specs.Word.{WordView}
use Rattle.claim_core.specs.History.{Log, AddsEvents, claim_event}
use Rattle.claim_core.specs.Hand.{HandView, KeepsOwn, KeepsCells, KnowsBoth, AddsRun, SeesSize, OwnApart, seen_size}
use Rattle.claim_core.specs.Lent.{lent_hand, seat_hand}
use Rattle.claim_core.specs.Seat.{ClaimSeat, hand_view, IsHeld, SeesAsOne}
use Rattle.claim_core.specs.SeatView.{Seated, SameOwn, IsConsistent, Looks, Claims, Remarks, Settles, marked, longer, joined_view, with_own}
use Rattle.claim_core.proofs.Prefixes.{prefix_sum}
use Rattle.claim_core.proofs.Belongs.{put_back, owned_apart, adds_run}

-- a hand whose seat keeps what is its own keeps it too
keeps_own : (floor : ℕ) (seat new : ClaimSeat) → new.table_id ≡ seat.table_id → SameOwn seat.me.0 new.me.0
    → KeepsOwn (hand_view floor seat) (hand_view floor new)
keeps_own floor seat new table same =
    record {
      of = λ i. record { table = table i; limit = same.limit i; base = same.base i; mark = same.mark i; filled = same.filled i; floor = floor };
      mine = same.mine;
      shares = same.shares;
    }

keeps_cells : (floor : ℕ) (seat new : ClaimSeat) → SameOwn seat.me.0 new.me.0
    → KeepsCells (hand_view floor seat) (hand_view floor new)
keeps_cells floor seat new same = record { begun = same.begun; rows = same.rows; laid = same.laid }

-- a fact of two hands, of which the second is the first with a seat put back
pub between : {old lent hand : HandView} (seat new : ClaimSeat) (P : HandView → HandView → Type 0)
    → hand_view old.of.floor seat ≡ old → lent ≡ lent_hand old → hand ≡ hand_view lent.of.floor new
    → P (hand_view old.of.floor seat) (hand_view old.of.floor new) → P old hand
between {old} {lent} {hand} seat new P old_is lent_is hand_is fact =
    subst (λ (h : HandView). P h hand) old_is
    (subst (λ (h : HandView). P (hand_view old.of.floor seat) h) (sym (put_back new old lent_is hand_is)) fact)

-- ---- A look

-- the hand has seen this size, and added these events
pub record Looked (found : ℕ) (es : Log) (old new : HandView) : Type 0 where
  pub sees : SeesSize old new found
  pub grows : seen_size old ≤ found
  pub logs : AddsEvents old.log es new.log
  pub cells : KeepsCells old new

looked : (floor : ℕ) (seat new : ClaimSeat) (found : ℕ) (es : Log) → new.table_id ≡ seat.table_id
    → Looks seat.me.0 found es new.me.0 → Looked found es (hand_view floor seat) (hand_view floor new)
looked floor seat new found es table looks =
    let v = seat.me.0 in
    let w = new.me.0 in
    let size = looks.size in
    let base = looks.same.base in
    let limit = looks.same.limit in
    let within = looks.consistent.within in
    let le = prefix_sum v.seen w.seen looks.seen in
    let ends : runs_end v.base w.seen ≡ found = ap (λ (b : ℕ). runs_end b w.seen) (sym base) ∙ size in
    record {
      sees = record { seen = looks.seen; ends = looks.size; within = omega arith; own = keeps_own floor seat new table looks.same };
      grows = omega arith;
      logs = looks.log;
      cells = keeps_cells floor seat new looks.same;
    }

pub looks_on : (seat new : ClaimSeat) {found : ℕ} {es : Log} {old lent hand : HandView} → hand_view old.of.floor seat ≡ old
    → lent ≡ lent_hand old → hand ≡ hand_view lent.of.floor new → new.table_id ≡ seat.table_id
    → Looks seat.me.0 found es new.me.0 → Looked found es old hand
looks_on seat new {found} {es} {old} {lent} {hand} old_is lent_is hand_is table looks =
    between seat new (Looked found es) old_is lent_is hand_is (looked old.of.floor seat new found es table looks)

-- ---- A step that only logs

pub record Remarked (es : Log) (old new : HandView) : Type 0 where
  pub own : KeepsOwn old new
  pub seen : new.seen ≡ old.seen
  pub logs : AddsEvents old.log es new.log
  pub cells : KeepsCells old new

pub remarks_on : (seat new : ClaimSeat) {es : Log} {old lent hand : HandView} → hand_view old.of.floor seat ≡ old
    → lent ≡ lent_hand old → hand ≡ hand_view lent.of.floor new → new.table_id ≡ seat.table_id
    → Remarks seat.me.0 es new.me.0 → Remarked es old hand
remarks_on seat new {es} {old} {lent} {hand} old_is lent_is hand_is table remarks =
    between seat new (Remarked es) old_is lent_is hand_is
    (record {
      own = keeps_own old.of.floor seat new table remarks.same;
      seen = remarks.seen;
      logs = remarks.log;
      cells = keeps_cells old.of.floor seat new remarks.same;
    })

-- ---- A claim

-- the hand has claimed the run, by this event of its index
pub record Claimed (run : Run) (event : ℕ → Event × Reply) (old new : HandView) : Type 0 where
  pub adds : AddsRun old new run
  pub grows : seen_size old ≤ run.from
  pub index : ℕ
  pub last : length new.seen ≡ index + 1
  pub logs : AddsEvents old.log (event index ∷ []) new.log
  pub cells : KeepsCells old new

claimed : (floor : ℕ) (seat new : ClaimSeat) (found n : ℕ) (event : ℕ → Event × Reply) → new.table_id ≡ seat.table_id → 0 < n
    → Claims seat.me.0 found n event new.me.0
    → Claimed (record { from = found; n = n }) event (hand_view floor seat) (hand_view floor new)
claimed floor seat new found n event table more claims =
    let v = seat.me.0 in
    let w = new.me.0 in
    let front = v.seen ++ claims.between in
    let le = prefix_sum v.seen front (claims.between, refl) in
    let ends : runs_end v.base front ≡ found = ap (λ (b : ℕ). runs_end b front) (sym claims.same.base) ∙ claims.size in
    record {
      adds = adds_run seat new {floor = floor} refl claims table more;
      grows = omega arith;
      index = length front;
      last = ap length claims.seen ∙ length-append front (n ∷ []);
      logs = claims.log;
      cells = record { begun = claims.same.begun; rows = claims.same.rows; laid = claims.same.laid };
    }

pub claims_on : (seat new : ClaimSeat) {found n : ℕ} {event : ℕ → Event × Reply} {old lent hand : HandView}
    → hand_view old.of.floor seat ≡ old → lent ≡ lent_hand old → hand ≡ hand_view lent.of.floor new → new.table_id ≡ seat.table_id
    → 0 < n → Claims seat.me.0 found n event new.me.0 → Claimed (record { from = found; n = n }) event old hand
claims_on seat new {found} {n} {event} {old} {lent} {hand} old_is lent_is hand_is table more claims =
    between seat new (Claimed (record { from = found; n = n }) event) old_is lent_is hand_is
    (claimed old.of.floor seat new found n event table more claims)

-- a won exchange claims the run that was asked for
pub wins_on : (seat new : ClaimSeat) {from n found : ℕ} {old lent hand : HandView}
    → hand_view old.of.floor seat ≡ old → lent ≡ lent_hand old → hand ≡ hand_view lent.of.floor new → new.table_id ≡ seat.table_id
    → 0 < n → found ≡ from
    → Claims seat.me.0 found ((from + n) - from) (λ index. claim_event index (record { from = found; n = (from + n) - from })) new.me.0
    → Claimed (record { from = from; n = n }) (λ index. claim_event index (record { from = from; n = n })) old hand
wins_on seat new {from} {n} {found} {old} {lent} {hand} old_is lent_is hand_is table more found_is claims =
    let long : (from + n) - from ≡ n = omega arith in
    let here : Claims seat.me.0 found n (λ index. claim_event index (record { from = found; n = n })) new.me.0 =
    subst (λ (m : ℕ). Claims seat.me.0 found m (λ index. claim_event index (record { from = found; n = m })) new.me.0) long claims in
    claims_on seat new old_is lent_is hand_is table more
    (subst (λ (f : ℕ). Claims seat.me.0 f n (λ index. claim_event index (record { from = f; n = n })) new.me.0) found_is here)

-- a step that only logs shows no other size
pub stays_seen : {seat : ClaimSeat} (new : ClaimSeat) {share size : ℕ} {es : Log} → IsHeld seat share size → Remarks seat.me.0 es new.me.0
    → size ≡ runs_end new.me.0.base new.me.0.seen
stays_seen {seat} new {share} {size} {es} held remarks =
    held.seen ∙ (ap (λ (b : ℕ). runs_end b seat.me.0.seen) (sym remarks.same.base) ∙ ap (runs_end new.me.0.base) (sym remarks.seen))

-- ---- A step that marks a seat again

-- such a seat is as consistent as it was, and has the same two numbers
pub marked_held : {seat : ClaimSeat} (new : ClaimSeat) {share size : ℕ} (numbers : List ℕ) (more found : ℕ) → IsHeld seat share size
    → new.me.0 ≡ marked numbers seat.me.0 → new.me.1 ≡ seat.me.1 → more ≡ share → found ≡ size → IsHeld new more found
marked_held {seat} new {share} {size} numbers more found held is slots same_share same_size =
    let positive = held.positive in
    let c = held.consistent in
    let still : IsConsistent (marked numbers seat.me.0) =
    record {
      positive = c.positive;
      within = c.within;
      shares = c.shares;
      own = c.own;
      whole = c.whole;
      history = c.history;
      lengths = c.lengths;
      whole_log = c.whole_log;
      begun = c.begun;
    } in
    record {
      no_slot = slots ∙ held.no_slot;
      shares = same_share ∙ (held.shares ∙ sym (ap (λ (v : SeatView). v.shares) is));
      seen = same_size ∙ (held.seen ∙ sym (ap (λ (v : SeatView). runs_end v.base v.seen) is));
      positive = omega arith;
      consistent = subst IsConsistent (sym is) still;
    }

-- its hand has the mark, and is otherwise what it was
pub marks_on : (seat new : ClaimSeat) {old lent hand : HandView} (numbers : List ℕ) → hand_view old.of.floor seat ≡ old
    → lent ≡ lent_hand old → hand ≡ hand_view lent.of.floor new → new.table_id ≡ seat.table_id → new.me.0 ≡ marked numbers seat.me.0
    → hand ≡ record old { of = record old.of { mark = numbers } }
marks_on seat new {old} {lent} {hand} numbers old_is lent_is hand_is table is =
    put_back new old lent_is hand_is
    ∙ (ap (λ (z : TableId). seat_hand old.of.floor z new.me.0) table
    ∙ (ap (λ (v : SeatView). seat_hand old.of.floor seat.table_id v) is
    ∙ ap (λ (h : HandView). record h { of = record h.of { mark = numbers } }) old_is))

-- ---- A seat that is cut in two

-- a hand of one part is the hand of both, with its own runs and shares
cut_view : (seat part : ClaimSeat) {old : HandView} {runs : List ℕ} {shares : ℕ} → hand_view old.of.floor seat ≡ old
    → part.table_id ≡ seat.table_id → part.me.0 ≡ with_own seat.me.0 runs shares
    → hand_view old.of.floor part ≡ record old { mine = runs; shares = shares }
cut_view seat part {old} {runs} {shares} old_is table part_is =
    ap (λ (z : TableId). seat_hand old.of.floor z part.me.0) table
    ∙ (ap (λ (v : SeatView). seat_hand old.of.floor seat.table_id v) part_is
    ∙ ap (λ (h : HandView). record h { mine = runs; shares = shares }) old_is)

-- the part that stays
pub cut_on : (seat new : ClaimSeat) {old lent hand : HandView} {runs : List ℕ} {shares left : ℕ} → hand_view old.of.floor seat ≡ old
    → lent ≡ lent_hand old → hand ≡ hand_view lent.of.floor new → new.table_id ≡ seat.table_id
    → new.me.0 ≡ with_own seat.me.0 runs shares → runs ≡ old.mine → shares ≡ left → hand ≡ record old { shares = left }
cut_on seat new {old} {lent} {hand} {runs} {shares} {left} old_is lent_is hand_is table new_is runs_is shares_is =
    put_back new old lent_is hand_is
    ∙ (cut_view seat new old_is table new_is
    ∙ (ap (λ (r : List ℕ). record old { mine = r; shares = shares }) runs_is ∙ ap (λ (n : ℕ). record old { shares = n }) shares_is))

-- the part that is given away
pub cut_off : (seat new part : ClaimSeat) {old lent hand given : HandView} {runs : List ℕ} {shares left : ℕ}
    → hand_view old.of.floor seat ≡ old → lent ≡ lent_hand old → hand ≡ hand_view lent.of.floor new → given ≡ hand_view hand.of.floor part
    → part.table_id ≡ seat.table_id → part.me.0 ≡ with_own seat.me.0 runs shares → runs ≡ [] → shares ≡ left
    → given ≡ record old { mine = []; shares = left }
cut_off seat new part {old} {lent} {hand} {given} {runs} {shares} {left} old_is lent_is hand_is given_is table part_is runs_is shares_is =
    let floor : hand.of.floor ≡ old.of.floor =
    ap (λ (h : HandView). h.of.floor) hand_is ∙ ap (λ (h : HandView). h.of.floor) lent_is in
    given_is
    ∙ (ap (λ (f : ℕ). hand_view f part) floor
    ∙ (cut_view seat part old_is table part_is
    ∙ (ap (λ (r : List ℕ). record old { mine = r; shares = shares }) runs_is ∙ ap (λ (n : ℕ). record old { mine = []; shares = n }) shares_is)))

-- ---- Two seats that become one

either_list : {A : Type 0} (b : Bool) (xs ys : List A) → ((if b then xs else ys) ≡ xs) ⊎ ((if b then xs else ys) ≡ ys)
either_list true xs ys = inl refl
either_list false xs ys = inr refl

-- the hand has what both had
pub record Joined (a b new : HandView) : Type 0 where
  pub of : new.of ≡ a.of
  pub mine : new.mine ≡ a.mine ++ b.mine
  pub shares : new.shares ≡ a.shares + b.shares
  pub seen : (new.seen ≡ a.seen) ⊎ (new.seen ≡ b.seen)
  pub begins : IsPrefix a.seen new.seen
  pub also_begins : IsPrefix b.seen new.seen
  pub begins_log : IsPrefix a.log new.log
  pub also_begins_log : IsPrefix b.log new.log
  pub cells : KnowsBoth a b new
  pub apart : OwnApart a b

-- a joined seat that has settled has seen whichever is more
saw_either : (v w n : SeatView) → Settles (joined_view v w) n → (n.seen ≡ v.seen) ⊎ (n.seen ≡ w.seen)
saw_either v w n settles =
    ⊎_elim
    (λ (e : longer v.seen w.seen ≡ v.seen). inl (settles.seen ∙ e))
    (λ (e : longer v.seen w.seen ≡ w.seen). inr (settles.seen ∙ e))
    (either_list (nat_le (length w.seen) (length v.seen)) v.seen w.seen)

joined : (floor other_floor : ℕ) (seat other new : ClaimSeat) → new.table_id ≡ seat.table_id
    → Settles (joined_view seat.me.0 other.me.0) new.me.0
    → Joined (hand_view floor seat) (hand_view other_floor other) (hand_view floor new)
joined floor other_floor seat other new table settles =
    let v = seat.me.0 in
    let w = other.me.0 in
    let same = settles.same in
    record {
      of = λ i. record { table = table i; limit = same.limit i; base = same.base i; mark = same.mark i; filled = same.filled i; floor = floor };
      mine = same.mine;
      shares = same.shares;
      seen = saw_either v w new.me.0 settles;
      begins = subst (IsPrefix v.seen) (sym settles.seen) settles.one;
      also_begins = subst (IsPrefix w.seen) (sym settles.seen) settles.other;
      begins_log = subst (IsPrefix v.log) (sym settles.log) settles.one_log;
      also_begins_log = subst (IsPrefix w.log) (sym settles.log) settles.other_log;
      cells = record { begun = same.begun; rows = same.rows; laid = same.laid };
      apart = owned_apart v.mine w.mine settles.consistent same.mine;
    }

pub joins_on : (seat other mid new : ClaimSeat) {a b lent hand : HandView} → hand_view a.of.floor seat ≡ a
    → hand_view b.of.floor other ≡ b → lent ≡ lent_hand a → hand ≡ hand_view lent.of.floor new → mid.table_id ≡ seat.table_id
    → new.table_id ≡ mid.table_id → mid.me.0 ≡ joined_view seat.me.0 other.me.0 → Settles mid.me.0 new.me.0 → Joined a b hand
joins_on seat other mid new {a} {b} {lent} {hand} a_is b_is lent_is hand_is table still mid_is settles =
    between seat new (λ (old now : HandView). Joined old b now) a_is lent_is hand_is
    (subst (λ (h : HandView). Joined (hand_view a.of.floor seat) h (hand_view a.of.floor new)) b_is
    (joined a.of.floor b.of.floor seat other new (still ∙ table)
    (subst (λ (v : SeatView). Settles v new.me.0) mid_is settles)))

-- the two numbers of a hand that another was joined to
pub join_held : {seat other : ClaimSeat} (mid new : ClaimSeat) {share size more long : ℕ} (all end : ℕ) → IsHeld seat share size → IsHeld other more long
    → other.me.0.base ≡ seat.me.0.base → mid.me ≡ (joined_view seat.me.0 other.me.0, seat.me.1) → new.me.1 ≡ mid.me.1
    → Settles mid.me.0 new.me.0 → all ≡ share + more → end ≡ max size long → IsHeld new all end
join_held {seat} {other} mid new {share} {size} {more} {long} all end held other_held base mid_is slots settled all_is end_is =
    let v = seat.me.0 in
    let w = other.me.0 in
    let n = new.me.0 in
    let settles = subst (λ (u : SeatView). Settles u n) (ap {A = Seated} (λ m. m.0) mid_is) settled in
    let shares = settles.same.shares in
    let own = held.shares in
    let given = other_held.shares in
    let positive = held.positive in
    let first = prefix_sum v.seen n.seen (subst (IsPrefix v.seen) (sym settles.seen) settles.one) in
    let second = prefix_sum w.seen n.seen (subst (IsPrefix w.seen) (sym settles.seen) settles.other) in
    let here = held.seen in
    let there = other_held.seen in
    let start = settles.same.base in
    record {
      no_slot = slots ∙ (ap {A = Seated} (λ m. m.1) mid_is ∙ held.no_slot);
      shares = omega arith;
      seen =
          ⊎_elim
          (λ (e : n.seen ≡ v.seen). let same = ap sum e in omega arith)
          (λ (e : n.seen ≡ w.seen). let same = ap sum e in omega arith)
          (saw_either v w n settles);
      positive = omega arith;
      consistent = settles.consistent;
    }

-- ---- Two seats that are shown to each other

pub record Met (a b new also_new : HandView) : Type 0 where
  pub own : KeepsOwn a new
  pub also_own : KeepsOwn b also_new
  pub begins : IsPrefix a.seen new.seen
  pub also_begins : IsPrefix b.seen new.seen
  pub same : also_new.seen ≡ new.seen
  pub begins_log : IsPrefix a.log new.log
  pub also_begins_log : IsPrefix b.log new.log
  pub same_log : also_new.log ≡ new.log
  pub cells : KnowsBoth a b new
  pub also_cells : KnowsBoth a b also_new
  pub apart : OwnApart new also_new

met : (floor other_floor found : ℕ) (seat other new new_other : ClaimSeat)
    → (hand_view floor seat).of ≡ (hand_view other_floor other).of → SeesAsOne seat other found new new_other
    → Met (hand_view floor seat) (hand_view other_floor other) (hand_view floor new) (hand_view other_floor new_other)
met floor other_floor found seat other new new_other same_word sees =
    let v = seat.me.0 in
    let w = other.me.0 in
    let both = sees.both in
    let looks = sees.looks in
    let same = looks.same in
    let one = seat_hand floor seat.table_id (with_own both v.mine v.shares) in
    let two = seat_hand other_floor seat.table_id (with_own both w.mine w.shares) in
    let one_is : hand_view floor new ≡ one =
    ap (λ (z : TableId). seat_hand floor z new.me.0) sees.same
    ∙ ap (λ (u : SeatView). seat_hand floor seat.table_id u) (ap {A = Seated} (λ m. m.0) sees.me) in
    let two_is : hand_view other_floor new_other ≡ two =
    ap (λ (z : TableId). seat_hand other_floor z new_other.me.0) sees.other_same
    ∙ ap (λ (u : SeatView). seat_hand other_floor seat.table_id u) (ap {A = Seated} (λ m. m.0) sees.other_me) in
    let word : WordView =
    record { table = seat.table_id; limit = v.limit; base = v.base; mark = v.mark; filled = v.filled; floor = other_floor } in
    let of_two : two.of ≡ word =
    λ i. record { table = seat.table_id; limit = same.limit i; base = same.base i; mark = same.mark i; filled = same.filled i; floor = other_floor } in
    let fact : Met (hand_view floor seat) (hand_view other_floor other) one two =
    record {
      own = record {
        of = λ i. record { table = seat.table_id; limit = same.limit i; base = same.base i; mark = same.mark i; filled = same.filled i; floor = floor };
        mine = refl;
        shares = refl;
      };
      also_own = record { of = of_two ∙ ap (λ (o : WordView). record o { floor = other_floor }) same_word; mine = refl; shares = refl };
      begins = looks.one;
      also_begins = looks.other;
      same = refl;
      begins_log = looks.one_log;
      also_begins_log = looks.other_log;
      same_log = refl;
      cells = record { begun = same.begun; rows = same.rows; laid = same.laid };
      also_cells = record { begun = same.begun; rows = same.rows; laid = same.laid };
      apart = owned_apart v.mine w.mine looks.consistent same.mine;
    } in
    subst (λ (h : HandView). Met (hand_view floor seat) (hand_view other_floor other) h (hand_view other_floor new_other)) (sym one_is)
    (subst (λ (h : HandView). Met (hand_view floor seat) (hand_view other_floor other) one h) (sym two_is) fact)

pub meets_on : {seat other new new_other : ClaimSeat} {found : ℕ} {a b lent also_lent hand also_hand : HandView}
    → hand_view a.of.floor seat ≡ a → hand_view b.of.floor other ≡ b → lent ≡ lent_hand a → also_lent ≡ lent_hand b
    → hand ≡ hand_view lent.of.floor new → also_hand ≡ hand_view also_lent.of.floor new_other → a.of ≡ b.of
    → SeesAsOne seat other found new new_other → Met a b hand also_hand
meets_on {seat} {other} {new} {new_other} {found} {a} {b} {lent} {also_lent} {hand} {also_hand} a_is b_is lent_is also_lent_is hand_is also_hand_is same sees =
    let same_word : (hand_view a.of.floor seat).of ≡ (hand_view b.of.floor other).of =
    ap (λ (h : HandView). h.of) a_is ∙ (same ∙ sym (ap (λ (h : HandView). h.of) b_is)) in
    between seat new (λ (old now : HandView). Met old b now also_hand) a_is lent_is hand_is
    (between other new_other (λ (old now : HandView). Met (hand_view a.of.floor seat) old (hand_view a.of.floor new) now) b_is also_lent_is also_hand_is
    (met a.of.floor b.of.floor found seat other new new_other same_word sees))

-- a hand that has lent its seat has seen the size that it had seen
pub nothing_more : {size : ℕ} → runs_end size [] ≡ size
nothing_more {size} = omega arith
