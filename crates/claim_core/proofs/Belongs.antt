-- A hand belongs to its word: what each step needs of the two, and what a hand knows of its own runs.
use Rattle.std.proofs.Common.{◌≡◌, ◌≢◌, ℕ, ◌+◌, ◌<◌, ◌≤◌, ◌==◌, Bool, true, false, nat_lt, MatchBool, List, [], ◌++◌, refl, ap, sym, ◌∙◌, subst, arith}
use Rattle.std.proofs.lemmas.List.Sums.{sum_by_push}
use Rattle.std.proofs.lemmas.List.Elements.{All-nil}
use Rattle.std.proofs.lemmas.Bool.Decides.{nat_tests}
use Rattle.std.specs.List.{Contains}
use Rattle.atomic_table.specs.Seated.{TableId}
use Rattle.tie_core.specs.Tie.{Tie, Stage}
use Rattle.tie_core.specs.Desk.{IsTieOf}
use Rattle.tie_core.specs.Visit.{EntryTie, IsEntryOf}
use Rattle.claim_core.specs.declared.seat_view.SeatView.{SeatView}
use Rattle.claim_core.specs.declared.terms.Terms.{Terms}
use Rattle.book_core.specs.declared.events.Event.{Event}
use Rattle.book_core.specs.declared.events.Reply.{Reply}
use Rattle.claim_core.specs.History.{first_list}
use Rattle.claim_core.specs.Lengths.{runs_end, times}
use Rattle.claim_core.specs.Word.{WordView, AreBounds}
use Rattle.claim_core.specs.Hand.{HandView, AddsRun}
use Rattle.claim_core.specs.Lent.{lent_hand, seat_hand}
use Rattle.claim_core.specs.Gain.{IsTiedTo, IsEntryTo}
use Rattle.claim_core.specs.Seat.{ClaimSeat, word_view, IsOpened, hand_view, IsHeld, IsPair, SeesAsOne}
use Rattle.claim_core.specs.Rule.{word_count, size_at}
use Rattle.claim_core.specs.SeatView.{Seated, IsConsistent, Claims, first_view, with_own}
use Rattle.claim_core.specs.Ties.{first_stages}
use Rattle.claim_core.specs.StepLaws.{IsHandSeat}
use Rattle.claim_core.proofs.Prefixes.{prefix_nil}
use Rattle.claim_core.proofs.Counts.{times-from_Contains, times-append}

-- the seat is one of the word's table, and its view has the table's terms
pub record Belongs (seat : ClaimSeat) (table : TableId) (key : Terms) (word : WordView) : Type 0 where
  pub same : seat.table_id ≡ table
  pub words : size_at < table.words
  pub limit : seat.me.0.limit ≡ key.limit
  pub base : seat.me.0.base ≡ key.base
  pub filled : seat.me.0.filled ≡ key.mark.filled
  pub part : 0 < seat.me.0.shares
  pub room : word.limit ≡ key.limit

-- two seats of one word make a pair
pub pairs : {seat other : ClaimSeat} {table : TableId} {key : Terms} {word also_word : WordView} → Belongs seat table key word
    → Belongs other table key also_word → other.me.1 ≡ [] → IsPair table key seat other
pairs {seat} {other} {table} {key} {word} {also_word} b d none =
    record {
      words = b.words;
      same = b.same;
      other_same = d.same;
      no_slot = none;
      limit = b.limit;
      base = b.base;
      filled = b.filled;
      part = b.part;
      other_part = d.part;
    }

-- the table has a word
pub some_words : {n : ℕ} → size_at < n → 0 < n
some_words here = omega (arith, here)

pub belongs : {seat : ClaimSeat} {share size floor number : ℕ} {table desk : TableId} {key terms desk_key : Terms} {word : WordView} {hand : HandView}
    → IsHeld seat share size → IsOpened table key terms desk desk_key → hand_view floor seat ≡ hand → word_view table terms number ≡ word
    → hand.of ≡ word → Belongs seat table key word
belongs {seat} {share} {size} {floor} {number} {table} {desk} {key} {terms} {desk_key} {word} {hand} held opened hand_is word_is ours =
    let same : (hand_view floor seat).of ≡ word_view table terms number = ap (λ (h : HandView). h.of) hand_is ∙ (ours ∙ sym word_is) in
    let one = opened.words in
    let part = held.positive in
    let shares = held.shares in
    record {
      same = ap (λ (w : WordView). w.table) same;
      words = omega arith;
      limit = ap (λ (w : WordView). w.limit) same ∙ sym opened.key_limit;
      base = ap (λ (w : WordView). w.base) same ∙ sym opened.key_base;
      filled = ap (λ (w : WordView). w.filled) same ∙ sym opened.key_filled;
      part = omega arith;
      room = sym (ap (λ (w : WordView). w.limit) word_is) ∙ sym opened.key_limit;
    }

-- a hand of a word has a seat
pub is_here : {number : ℕ} {table desk : TableId} {key terms desk_key : Terms} {word : WordView} (hand : HandView)
    → IsOpened table key terms desk desk_key → word_view table terms number ≡ word → hand.of ≡ word → hand.of.table.words ≡ word_count
is_here hand opened word_is ours = ap (λ (w : WordView). w.table.words) (ours ∙ sym word_is) ∙ opened.words

-- past the places that the word began with is past those of the hand's word
pub base_here : (hand : HandView) {word : WordView} {from : ℕ} → hand.of ≡ word → word.base ≤ from → hand.of.base ≤ from
base_here hand {word} {from} ours past = subst (λ (w : WordView). w.base ≤ from) (sym ours) past

-- its seat is a hand's of this table, with the terms of the table's desk
pub same_table : {number floor : ℕ} {table other : TableId} {terms : Terms} {word : WordView} {hand : HandView} (v : SeatView)
    → word_view table terms number ≡ word → hand.of ≡ word → seat_hand floor other v ≡ hand → other ≡ table
same_table v word_is ours hand_is =
    ap (λ (h : HandView). h.of.table) hand_is ∙ ap (λ (w : WordView). w.table) (ours ∙ sym word_is)

pub hand_seat : {number floor : ℕ} {table desk other : TableId} {key terms desk_key : Terms} {word : WordView} {hand : HandView} (v : SeatView)
    → IsOpened table key terms desk desk_key → word_view table terms number ≡ word → hand.of ≡ word → seat_hand floor other v ≡ hand
    → 0 < v.shares → IsHandSeat desk_key v
hand_seat {number} {floor} {table} {desk} {other} {key} {terms} {desk_key} {word} {hand} v opened word_is ours hand_is part =
    let same : (seat_hand floor other v).of ≡ word_view table terms number = ap (λ (h : HandView). h.of) hand_is ∙ (ours ∙ sym word_is) in
    let key_is = sym opened.desk_terms in
    record {
      limit = ap (λ (w : WordView). w.limit) same ∙ (sym opened.key_limit ∙ ap (λ (t : Terms). t.limit) key_is);
      base = ap (λ (w : WordView). w.base) same ∙ (sym opened.key_base ∙ ap (λ (t : Terms). t.base) key_is);
      filled = ap (λ (w : WordView). w.filled) same ∙ (sym opened.key_filled ∙ ap (λ (t : Terms). t.mark.filled) key_is);
      part = part;
    }

-- a block's seat is one of this table
pub table_here : {number : ℕ} {table other : TableId} {terms : Terms} {word : WordView} → word_view table terms number ≡ word
    → other ≡ word.table → other ≡ table
table_here word_is same = same ∙ sym (ap (λ (w : WordView). w.table) word_is)

-- the tie is of a cell that is tied by the word's desk, or of an entry
pub tied_here : {number : ℕ} {table : TableId} {terms : Terms} {word : WordView} {tie : Tie} → word_view table terms number ≡ word
    → IsTiedTo word tie → IsTieOf table number tie
tied_here {number} {table} {terms} {word} {tie} word_is tied = subst (λ (w : WordView). IsTieOf w.table w.floor tie) (sym word_is) tied

pub entry_here : {number : ℕ} {table : TableId} {terms : Terms} {word : WordView} {tie : EntryTie} → word_view table terms number ≡ word
    → IsEntryTo word tie → IsEntryOf table number tie
entry_here {number} {table} {terms} {word} {tie} word_is tied = subst (λ (w : WordView). IsEntryOf w.table w.floor tie) (sym word_is) tied

-- and the other way round
pub tied_there : {number : ℕ} {table : TableId} {terms : Terms} {word : WordView} {tie : Tie} → word_view table terms number ≡ word
    → IsTieOf table number tie → IsTiedTo word tie
tied_there {number} {table} {terms} {word} {tie} word_is tied = subst (λ (w : WordView). IsTieOf w.table w.floor tie) word_is tied

pub entry_there : {number : ℕ} {table : TableId} {terms : Terms} {word : WordView} {tie : EntryTie} → word_view table terms number ≡ word
    → IsEntryOf table number tie → IsEntryTo word tie
entry_there {number} {table} {terms} {word} {tie} word_is tied = subst (λ (w : WordView). IsEntryOf w.table w.floor tie) word_is tied

-- stages that are the first ones by the terms of the desk are those by the word
pub stages_there : {number : ℕ} {table desk : TableId} {key terms desk_key : Terms} {word : WordView} (from n : ℕ) (all : List Stage)
    → IsOpened table key terms desk desk_key → word_view table terms number ≡ word
    → all ≡ first_stages desk_key.base desk_key.mark.filled from n → all ≡ first_stages word.base word.filled from n
stages_there {number} {table} {desk} {key} {terms} {desk_key} {word} from n all opened word_is are =
    let base : desk_key.base ≡ word.base =
    ap (λ (t : Terms). t.base) opened.desk_terms ∙ (opened.key_base ∙ ap (λ (w : WordView). w.base) word_is) in
    let filled : desk_key.mark.filled ≡ word.filled =
    ap (λ (t : Terms). t.mark.filled) opened.desk_terms ∙ (opened.key_filled ∙ ap (λ (w : WordView). w.filled) word_is) in
    are ∙ (λ i. first_stages (base i) (filled i) from n)

-- two lists of runs that a consistent view has together have none in common
pub owned_apart : {both : SeatView} (xs ys : List ℕ) → IsConsistent both → both.mine ≡ xs ++ ys → (k : ℕ)
    → Contains xs k → Contains ys k → ⊥
owned_apart {both} xs ys consistent is k here there =
    let x = times-from_Contains xs k here in
    let y = times-from_Contains ys k there in
    let e : times k both.mine ≡ times k (xs ++ ys) = ap (times k) is in
    let t = times-append k xs ys in
    let o = consistent.own k in
    omega arith

-- a seat after a step of its own
pub held_on : {seat : ClaimSeat} {share size : ℕ} (new : ClaimSeat) (more found : ℕ) → IsHeld seat share size → new.me.1 ≡ seat.me.1
    → new.me.0.shares ≡ seat.me.0.shares → more ≡ share → found ≡ runs_end new.me.0.base new.me.0.seen → IsConsistent new.me.0
    → IsHeld new more found
held_on {seat} {share} {size} new more found held slots shares same ends consistent =
    let positive = held.positive in
    record {
      no_slot = slots ∙ held.no_slot;
      shares = same ∙ (held.shares ∙ sym shares);
      seen = ends;
      positive = omega arith;
      consistent = consistent;
    }

-- the hand that a seat is put back into is then the seat's
pub put_back : (seat : ClaimSeat) (old : HandView) {lent new : HandView} → lent ≡ lent_hand old → new ≡ hand_view lent.of.floor seat
    → new ≡ hand_view old.of.floor seat
put_back seat old {lent} {new} is now =
    now ∙ ap (λ (f : ℕ). hand_view f seat) (ap (λ (h : HandView). h.of.floor) is)

-- a part of a seat that has not all shares is as consistent as the whole
pub cut_consistent : (v : SeatView) (mine : List ℕ) (shares : ℕ) → IsConsistent v → shares < 65536
    → ((k : ℕ) → times k mine ≤ times k v.mine) → IsConsistent (with_own v mine shares)
cut_consistent v mine shares consistent less part =
    record {
      positive = consistent.positive;
      within = consistent.within;
      shares = omega arith;
      own = λ k. let p = part k in let o = consistent.own k in omega arith;
      whole = λ all. absurd (omega arith);
      history = consistent.history;
      lengths = consistent.lengths;
      whole_log = λ all. absurd (omega arith);
      begun = consistent.begun;
    }

-- a seat that was cut off another one
pub held_cut : (v : SeatView) (seat : ClaimSeat) (mine : List ℕ) (shares share size : ℕ) → IsConsistent v
    → size ≡ runs_end v.base v.seen → seat.me.0 ≡ with_own v mine shares → seat.me.1 ≡ [] → share ≡ shares
    → 0 < shares → shares < 65536 → ((k : ℕ) → times k mine ≤ times k v.mine) → IsHeld seat share size
held_cut v seat mine shares share size consistent ends is none same more less part =
    record {
      no_slot = none;
      shares = same ∙ sym (ap (λ (w : SeatView). w.shares) is);
      seen = ends ∙ sym (ap (λ (w : SeatView). runs_end w.base w.seen) is);
      positive = omega arith;
      consistent = subst IsConsistent (sym is) (cut_consistent v mine shares consistent less part);
    }

-- the first of two seats that were shown to each other, and the second
pub held_shown : {seat other new new_other : ClaimSeat} {found : ℕ} → SeesAsOne seat other found new new_other
    → 0 < other.me.0.shares → seat.me.1 ≡ [] → 0 < seat.me.0.shares → (share : ℕ) → share ≡ seat.me.0.shares → IsHeld new share found
held_shown {seat} {other} {new} {new_other} {found} sees other_part none part share same =
    let looks = sees.looks in
    let shares = looks.same.shares in
    let most = looks.consistent.shares in
    held_cut sees.both new seat.me.0.mine seat.me.0.shares share found looks.consistent (sym looks.size)
    (ap {A = Seated} (λ m. m.0) sees.me) (ap {A = Seated} (λ m. m.1) sees.me ∙ none) same part (omega arith)
    (λ k. let e = ap (times k) looks.same.mine in let t = times-append k seat.me.0.mine other.me.0.mine in omega arith)

pub held_other : {seat other new new_other : ClaimSeat} {found : ℕ} → SeesAsOne seat other found new new_other
    → 0 < seat.me.0.shares → 0 < other.me.0.shares → (share : ℕ) → share ≡ other.me.0.shares → IsHeld new_other share found
held_other {seat} {other} {new} {new_other} {found} sees part other_part share same =
    let looks = sees.looks in
    let shares = looks.same.shares in
    let most = looks.consistent.shares in
    held_cut sees.both new_other other.me.0.mine other.me.0.shares share found looks.consistent (sym looks.size)
    (ap {A = Seated} (λ m. m.0) sees.other_me) (ap {A = Seated} (λ m. m.1) sees.other_me) same other_part (omega arith)
    (λ k. let e = ap (times k) looks.same.mine in let t = times-append k seat.me.0.mine other.me.0.mine in omega arith)

-- a step that grew the size
pub grew : (a b : ℕ) (t : Bool) (P Q : Type 0) → nat_lt a b ≡ t → a < b → MatchBool t P Q → P
grew a b true P Q is less p = p
grew a b false P Q is less q = absurd (grind (arith, nat_tests))

-- a step that found the size that it expected
pub found_it : (a b : ℕ) (t : Bool) (P Q : Type 0) → (a == b) ≡ t → a ≡ b → MatchBool t P Q → P
found_it a b true P Q is same p = p
found_it a b false P Q is same q = absurd (grind (arith, nat_tests))

-- a step that found another size
pub missed : (a b : ℕ) (t : Bool) (P Q : Type 0) → (a == b) ≡ t → a ≢ b → MatchBool t P Q → Q
missed a b true P Q is other p = absurd (grind (arith, nat_tests))
missed a b false P Q is other q = q

-- a step that did not grow the size
pub stayed : (a b : ℕ) (t : Bool) (P Q : Type 0) → nat_lt a b ≡ t → b ≤ a → MatchBool t P Q → Q
stayed a b true P Q is more p = absurd (grind (arith, nat_tests))
stayed a b false P Q is more q = q

-- after a claim the seat has seen the end of its run
pub claims_end : {v w : SeatView} {found n : ℕ} {event : ℕ → Event × Reply} → Claims v found n event w
    → runs_end w.base w.seen ≡ found + n
claims_end {v} {w} {found} {n} {event} claims =
    let size = claims.size in
    let sums = sum_by_push (λ x. x) (v.seen ++ claims.between) n in
    ap (runs_end w.base) claims.seen ∙ omega arith

-- a claim adds its run to the hand
pub adds_run : (seat new : ClaimSeat) {floor found n : ℕ} {event : ℕ → Event × Reply} {hand : HandView} → hand_view floor seat ≡ hand
    → Claims seat.me.0 found n event new.me.0 → new.table_id ≡ seat.table_id → 0 < n
    → AddsRun hand (hand_view floor new) (record { from = found; n = n })
adds_run seat new {floor} {found} {n} {event} {hand} hand_is claims table more =
    subst (λ (h : HandView). AddsRun h (hand_view floor new) (record { from = found; n = n })) hand_is
    (let v = seat.me.0 in
    let w = new.me.0 in
    let front = v.seen ++ claims.between in
    let size : runs_end v.base front ≡ found = ap (λ b. runs_end b front) (sym claims.same.base) ∙ claims.size in
    let sums = sum_by_push (λ x. x) front n in
    let ends : runs_end w.base w.seen ≡ found + n =
    ap (λ b. runs_end b w.seen) claims.same.base ∙ (ap (runs_end v.base) claims.seen ∙ omega arith) in
    let within = claims.consistent.within in
    let limit = claims.same.limit in
    record {
      between = claims.between;
      begins = sym size;
      positive = more;
      within = omega arith;
      seen = claims.seen;
      ends = ends;
      mine = claims.mine;
      shares = claims.same.shares;
      of = λ i. record { table = table i; limit = claims.same.limit i; base = claims.same.base i; mark = claims.same.mark i; filled = claims.same.filled i; floor = floor };
    })

-- the first hand of a word
pub first_held : {seat : ClaimSeat} (terms : Terms) → AreBounds terms.limit terms.base → seat.me ≡ (first_view terms, [])
    → IsHeld seat 65536 terms.base
first_held {seat} terms bounds is =
    let room = bounds.room in
    let consistent : IsConsistent (first_view terms) =
    record {
      positive = All-nil (λ n. 0 < n);
      within = omega arith;
      shares = omega arith;
      own = λ k. omega arith;
      whole = λ all k. omega arith;
      history = record { legal = (first_list terms.limit terms.base terms.mark.filled, refl); actors = refl };
      lengths = prefix_nil [];
      whole_log = λ all. refl;
      begun = λ place there. let t = there.1 in absurd (omega arith);
    } in
    record {
      no_slot = ap {A = Seated} (λ m. m.1) is;
      shares = sym (ap {A = Seated} (λ m. m.0.shares) is);
      seen = sym (ap {A = Seated} (λ m. runs_end m.0.base m.0.seen) is ∙ omega arith);
      positive = omega arith;
      consistent = subst IsConsistent (sym (ap {A = Seated} (λ m. m.0) is)) consistent;
    }
