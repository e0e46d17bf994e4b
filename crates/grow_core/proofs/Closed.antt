-- The cells of a segment that a close has fixed and settled, and what the list of the history has there.
use Rattle.std.proofs.Common.{suc, ⊎_elim, ◌≡◌, ◌≢◌, ℕ, ◌+◌, ◌-◌, ◌<◌, ◌≤◌, List, [], ◌∷◌, length, Option, Some, None, refl, sym, ap, ◌∙◌, subst, inl, inr, arith}
use Rattle.std.proofs.lemmas.Bool.{cases_lt}
use Rattle.std.proofs.lemmas.List.{length-map}
use Rattle.std.specs.Prelude.{slice_get, slice_index, slice_set, ◌↔◌}
use base.Fml.{Lft}
use Rattle.seg_core.specs.Segment.{segment_start, segment_end}
use Rattle.book_core.specs.declared.cells.Cell.{Cell}
use Rattle.book_core.specs.declared.cells.Cell.TheVariants as cells
use Rattle.book_core.specs.Cells.{CellList}
use Rattle.book_core.specs.declared.events.Event.{Event}
use Rattle.book_core.specs.declared.events.Reply.{Reply}
use Rattle.book_core.specs.History.{IsHistory}
use lib.Seq.{get_or-set_same, get_or-set_other}
use mathlib.Core.Logic.{dite}
use native.Mathlib.Decide.{ℕ_discrete}
use Rattle.tie_core.specs.Tie.{Tie, Stage, Idle, Begun, Mending, Filled, Broken}
use Rattle.claim_core.specs.History.{Log, first_list, lengths_of, mender_of}
use Rattle.claim_core.specs.Word.{WordView}
use Rattle.claim_core.specs.Hand.{HandView, seen_size}
use Rattle.claim_core.specs.Lengths.{runs_end}
use Rattle.claim_core.specs.Plays.{cell_stage}
use Rattle.claim_core.specs.Ties.{Matches}
use Rattle.book_core.specs.Laws.{HistoriesTile}
use Rattle.cell_core.specs.Block.{BlockView, block_len, cell_at}
use Rattle.cell_core.specs.Fixed.{stage_in, untied_cell}
use Rattle.cell_core.specs.Member.{MemberView}
use Rattle.table_core.specs.Table.{KeyView}
use Rattle.grow_core.specs.Keys.{KeyRow, key_at}
use Rattle.grow_core.specs.Closing.{IsKeptOf, IsListOfHistory, IsStillOpen, AreFixed, AreSettled, AreToldBy, IsListSoFar, IsMemberOf}
use Rattle.grow_core.specs.Parts.{AreLong, AreStaged, member_stage, values_in}
use Rattle.grow_core.specs.Token.{place_in}
use Rattle.grow_core.specs.Vector.{VectorView}
use Rattle.grow_core.proofs.ListLength.{cells_after}
use Rattle.grow_core.proofs.Places.{value_at, within_length}
use Rattle.grow_core.proofs.Settled.{member_at, nothing_past, settled_before, settled_length, settled_there}
use Rattle.grow_core.proofs.Staged.{idle_stage, staged_next}

-- a history leads to one list
abbrev state_in : CellList → Option (CellList × Reply) → CellList
state_in other None = other
state_in other (Some u) = u.0

same_state : (a b : CellList) (r s : Reply) → ◌≡◌ {A = Option (CellList × Reply)} (Some (a, r)) (Some (b, s)) → a ≡ b
same_state a b r s same = ap (state_in a) same

pub one_list : (es : List (Event × Reply)) (old a b : CellList) → IsHistory old es a → IsHistory old es b → a ≡ b
one_list [] old a b x y = x ∙ sym y
one_list (e ∷ es) old a b x y =
    let same = same_state x.0 y.0 e.1 e.1 (sym x.1 ∙ y.1) in
    one_list es y.0 a b (subst (λ (m : CellList). IsHistory m es a) same x.2) y.2

-- the member at a place whose cell is fixed at a stage
some_not : {X : Type 0} (x : X) → Some x ≢ None
some_not x e = cc

broken_unless : {T : Type 0} (s : Stage) (v : Option T) → (v ≢ None ↔ s ≡ Filled) → s ≢ Filled → v ≡ None
broken_unless s None by other = refl
broken_unless s (Some x) by other = absurd (other (by.0 (some_not x)))

value_if : {T : Type 0} (v : Option T) → v ≢ None → (x : T) × (v ≡ Some x)
value_if None some = absurd (some refl)
value_if (Some x) some = (x, refl)

pending_member : {T : Type 0} (cell : Option Cell) (actor : ℕ) (v : Option T) → cell ≡ Some (cells.Pending actor) → v ≡ None → IsMemberOf cell (Some v)
pending_member {T} cell actor v is none = subst (λ (c : Option Cell). IsMemberOf c (Some v)) (sym is) (ap (λ (o : Option T). Some o) none)

member_shown : {T : Type 0} (limit base : ℕ) (lengths : List ℕ) (place : ℕ) (cell : Option Cell) (s : Stage) (v : Option T) → Matches limit base lengths place cell (cell_stage s)
    → (v ≢ None ↔ s ≡ Filled) → cell ≢ None → IsMemberOf cell (Some v)
member_shown limit base lengths place cell Idle v (inl none) by some = absurd (some none)
member_shown limit base lengths place cell Idle v (inr owed) by some = pending_member cell owed.0 v owed.2 (broken_unless Idle v by (λ e. cc))
member_shown limit base lengths place cell Begun v owed by some = pending_member cell owed.0 v owed.2 (broken_unless Begun v by (λ e. cc))
member_shown limit base lengths place cell Mending v is by some = pending_member cell (mender_of limit place) v is (broken_unless Mending v by (λ e. cc))
member_shown {T} limit base lengths place cell Filled v is by some =
    let x = value_if v (by.1 refl) in subst (λ (c : Option Cell). IsMemberOf c (Some v)) (sym is) (x.0, ap (λ (o : Option T). Some o) x.1)
member_shown {T} limit base lengths place cell Broken v is by some =
    subst (λ (c : Option Cell). IsMemberOf c (Some v)) (sym is) (ap (λ (o : Option T). Some o) (broken_unless Broken v by (λ e. cc)))

-- where the history's list has nothing, a cell is idle
none_some : {X : Type 0} (o : Option X) (x : X) → o ≡ None → o ≡ Some x → ⊥
none_some o x none is = let z : None ≡ Some x = sym none ∙ is in cc

idle_shown : (limit base : ℕ) (lengths : List ℕ) (place : ℕ) (cell : Option Cell) (s : Stage) → cell ≡ None → Matches limit base lengths place cell (cell_stage s) → s ≡ Idle
idle_shown limit base lengths place cell Idle none is = refl
idle_shown limit base lengths place cell Begun none owed = absurd (none_some cell (cells.Pending owed.0) none owed.2)
idle_shown limit base lengths place cell Mending none is = absurd (none_some cell (cells.Pending (mender_of limit place)) none is)
idle_shown limit base lengths place cell Filled none is = absurd (none_some cell (cells.Filled place) none is)
idle_shown limit base lengths place cell Broken none is = absurd (none_some cell cells.Broken none is)

-- and so it is at a place past the size
pub idle_beyond : HistoriesTile → (hand : HandView) (f segment : ℕ) (block : BlockView) → AreToldBy hand f segment block → lengths_of hand.log ≡ hand.seen
    → (q : ℕ) (s : Stage) → q < block_len block → stage_in (cell_at block q) ≡ Some s → seen_size hand ≤ place_in f segment q → s ≡ Idle
idle_beyond law hand f segment block told seen q s low at past =
    let leads = told q s low at in
    let long : length leads.list.cells ≡ seen_size hand = cells_after law hand.of.limit hand.of.base hand.of.filled hand.log leads.list leads.history ∙ ap (runs_end hand.of.base) seen in
    idle_shown hand.of.limit hand.of.base hand.seen (place_in f segment q) (slice_get leads.list.cells (place_in f segment q)) s
    (nothing_past leads.list.cells (place_in f segment q) (omega (arith, long, past))) leads.shows

-- of a segment past the size each cell is idle, and no member is there
pub idle_cells : {T : Type 0} → HistoriesTile → (hand : HandView) (f segment : ℕ) (old new : BlockView) (known : List (MemberView T)) → AreFixed old new → AreToldBy hand f segment new
    → lengths_of hand.log ≡ hand.seen → seen_size hand ≤ segment_start f segment → length known ≤ segment_start f segment
    → (q : ℕ) → q < block_len new → stage_in (cell_at new q) ≡ Some (member_stage (slice_get known (place_in f segment q)))
idle_cells {T} law hand f segment old new known fixed told seen past few q low =
    let stage = fixed.fixed q low in
    stage.1 ∙ ap (λ (s : Stage). Some s)
    (idle_beyond law hand f segment new told seen q stage.0 low stage.1 (omega (arith, past)) ∙ sym (idle_stage known (place_in f segment q) (omega (arith, few))))

module _ {T : Type 0} (hand : HandView) (f segment : ℕ) (b0 b1 b2 : BlockView) (opened known known' : List (MemberView T)) (epoch : Lft) (n : ℕ)
    (fixed : AreFixed b0 b1) (told : AreToldBy hand f segment b1) (run : AreSettled b1 b2 0 opened (length known) known known' epoch n) where
  -- each cell is at the stage of its member, and past the size it is idle
  pub closed_cells : HistoriesTile → lengths_of hand.log ≡ hand.seen → length known ≡ segment_start f segment
      → ((q : ℕ) → n ≤ q → q < block_len b0 → seen_size hand ≤ place_in f segment q)
      → (q : ℕ) → q < block_len b2 → stage_in (cell_at b2 q) ≡ Some (member_stage (slice_get known' (place_in f segment q)))
  closed_cells law seen at beyond q low =
      let len0 = fixed.len in let len1 = run.len in
      let low1 : q < block_len b1 = omega (arith, low, len1) in let stage = fixed.fixed q low1 in
      ⊎_elim
      (λ lt. let m = member_at run.settled q (let all = run.all in omega (arith, all, lt)) in
      let spot : place_in f segment q ≡ length known + q = omega (arith, at) in
      let is : slice_get known' (place_in f segment q) ≡ Some m.0 = ap (slice_get known') spot ∙ (settled_there b1 b2 0 opened (length known) known known' epoch n run q ∙ m.1) in
      let zero : 0 + q ≡ q = omega arith in
      let fixes : stage_in (cell_at b2 (0 + q)) ≡ Some (member_stage (Some m.0)) = run.fixed q m.0 m.1 stage.0 (ap (λ (o : ℕ). stage_in (cell_at b1 o)) zero ∙ stage.1) in
      ap (λ (o : ℕ). stage_in (cell_at b2 o)) (sym zero) ∙ (fixes ∙ ap (λ (u : Option (MemberView T)). Some (member_stage u)) (sym is)))
      (λ ge. let after : cell_at b2 q ≡ cell_at b1 q = run.after q (omega (arith, ge)) in
      let idle : stage.0 ≡ Idle = idle_beyond law hand f segment b1 told seen q stage.0 low1 stage.1 (beyond q ge (omega (arith, low1, len0))) in
      let more : length known' ≡ length known + n = settled_length b1 b2 0 opened (length known) known known' epoch n run in
      ap stage_in after ∙ (stage.1 ∙ ap (λ (s : Stage). Some s) (idle ∙ sym (idle_stage known' (place_in f segment q) (omega (arith, more, at, ge))))))
      (cases_lt q n)

  -- the members are those of the history's list
  pub list_more : HistoriesTile → IsListSoFar hand.of hand.log (values_in known) → lengths_of hand.log ≡ hand.seen → length known ≡ segment_start f segment → n ≤ block_len b0
      → length known + n ≤ seen_size hand → IsListSoFar hand.of hand.log (values_in known')
  list_more law so_far seen at inner below = record {
    list = so_far.list;
    history = so_far.history;
    each = λ place low.
        let more : length known' ≡ length known + n = settled_length b1 b2 0 opened (length known) known known' epoch n run in
        let counted = length-map known (λ (u : MemberView T). u.value) in let counted' = length-map known' (λ (u : MemberView T). u.value) in
        ⊎_elim
        (λ lt. let m = member_at known place lt in
        let was : slice_get (values_in known) place ≡ Some m.0.value = value_at known place m.0 m.1 in
        let now : slice_get (values_in known') place ≡ Some m.0.value = value_at known' place m.0 (settled_before b1 b2 0 opened (length known) known known' epoch n run place lt ∙ m.1) in
        subst (λ (o : Option (Option T)). IsMemberOf (slice_get so_far.list.cells place) o) (was ∙ sym now) (so_far.each place (omega (arith, lt, counted))))
        (λ ge. let i : ℕ = place - length known in let here : place ≡ length known + i = omega (arith, ge) in
        let m = member_at run.settled i (let all = run.all in omega (arith, all, low, more, counted', ge)) in
        let near : i < n = (let all = run.all in let w = within_length run.settled i m.0 m.1 in omega (arith, all, w)) in
        let len1 : i < block_len b1 = (let len = fixed.len in omega (arith, len, near, inner)) in
        let stage = fixed.fixed i len1 in
        let leads = told i stage.0 len1 stage.1 in
        let spot : place_in f segment i ≡ place = omega (arith, here, at) in
        let lists : leads.list ≡ so_far.list = one_list hand.log (first_list hand.of.limit hand.of.base hand.of.filled) leads.list so_far.list leads.history so_far.history in
        let shows = subst (λ (u : CellList × ℕ). Matches hand.of.limit hand.of.base hand.seen u.1 (slice_get u.0.cells u.1) (cell_stage stage.0)) (λ j. (lists j, spot j)) leads.shows in
        let long : length so_far.list.cells ≡ seen_size hand = cells_after law hand.of.limit hand.of.base hand.of.filled hand.log so_far.list so_far.history ∙ ap (runs_end hand.of.base) seen in
        let cell = member_at so_far.list.cells place (omega (arith, long, here, near, below)) in
        let now : slice_get (values_in known') place ≡ Some m.0.value =
        value_at known' place m.0 (ap (slice_get known') here ∙ settled_there b1 b2 0 opened (length known) known known' epoch n run i ∙ m.1) in
        subst (λ (o : Option (Option T)). IsMemberOf (slice_get so_far.list.cells place) o) (sym now)
        (member_shown hand.of.limit hand.of.base hand.seen place (slice_get so_far.list.cells place) stage.0 m.0.value shows (run.stages i m.0 m.1 stage.0 (ap (λ (o : ℕ). stage_in (cell_at b1 o)) (let e : 0 + i ≡ i = omega arith in e) ∙ stage.1))
        (λ none. some_not cell.0 (sym cell.1 ∙ none))))
        (cases_lt place (length known));
  }

-- the next segment is closed: its block has another key
pub still_more : {T : Type 0} (word : WordView) (hand : HandView) (cells : Tie) (f next count size segment : ℕ) (row : KeyRow) (known known' : List (MemberView T)) (key : KeyView)
    → IsStillOpen word hand cells f next count size row known → next ≡ segment → AreLong f row → segment < 40 → length row ≡ 40
    → ((q : ℕ) → q < segment_start f segment → slice_get known' q ≡ slice_get known q)
    → ((q : ℕ) → q < block_len key.block → stage_in (cell_at key.block q) ≡ Some (member_stage (slice_get known' (place_in f segment q))))
    → (length known' < size → length known' ≡ segment_end f segment) → length known' ≤ segment_end f segment
    → IsListSoFar word hand.log (values_in known')
    → IsStillOpen word hand cells f (segment + 1) count size (slice_set row segment (Some key)) known'
still_more word hand cells f next count size segment row known known' key still same long small rows before here at past list = record {
  of = still.of;
  mark = still.mark;
  whole = still.whole;
  sized = still.sized;
  tied = still.tied;
  open_still = λ s k from low is. let other : s ≢ segment = (λ e. omega (arith, e, from)) in
      still.open_still s k (omega (arith, from, same)) low (sym (get_or-set_other row segment s (Some key) None other) ∙ is);
  closed = staged_next f row known known' segment key (subst (λ (k : ℕ). AreStaged f row known k) same still.closed) long small rows before here;
  at = λ less. at less ∙ ap (segment_start f) (let e : suc segment ≡ segment + 1 = omega arith in e);
  past = (let e : segment_start f (segment + 1) ≡ segment_end f segment = ap (segment_start f) (let z : segment + 1 ≡ suc segment = omega arith in z) in omega (arith, e, past));
  list = list;
}

-- a segment past the members has another key, and its cells are the same except for their ties
pub kept_again : {T : Type 0} (f : ℕ) (mark : List ℕ) (before : KeyRow) (names names' : List ℕ) (row : KeyRow) (known : List (MemberView T)) (count segment : ℕ) (key key' : KeyView)
    → IsKeptOf f mark before names row known count → length row ≡ 40 → segment < 40 → segment < count → key_at row segment ≡ Some key
    → ((j : ℕ) → j ≢ segment → slice_index names' j ≡ slice_index names j) → ((q : ℕ) → untied_cell (cell_at key'.block q) ≡ untied_cell (cell_at key.block q))
    → IsKeptOf f mark before names' (slice_set row segment (Some key')) known count
kept_again f mark before names names' row known count segment key key' kept rows small first has others same_cells =
    let row' : KeyRow = slice_set row segment (Some key') in
    let is_there : key_at row' segment ≡ Some key' = get_or-set_same row segment (Some key') None (omega (arith, small, rows)) in
    record {
      layout = kept.layout;
      named = kept.named;
      long = kept.long;
      there = kept.there;
      of = kept.of;
      later = λ s o a b low at at' past. dite (ℕ_discrete s segment)
          (λ same. let both : Some b ≡ Some key' = sym at' ∙ ap (key_at row') same ∙ is_there in let b_is : b ≡ key' = (let z = both in cc) in
          ap (λ (u : KeyView). untied_cell (cell_at u.block o)) b_is ∙ same_cells o ∙ kept.later s o a key low at (ap (key_at row) same ∙ has) past)
          (λ other. kept.later s o a b low at (sym (get_or-set_other row segment s (Some key') None other) ∙ at') past);
      after = λ s low ge. others s (λ same. omega (arith, same, ge, first)) ∙ kept.after s low ge;
    }

-- the list so far is that of the history, if it has all places
pub list_of_history : {T : Type 0} → HistoriesTile → (vector : VectorView T) (hand : HandView) (word : WordView) (log : Log) (members : List (Option T)) → IsListSoFar word log members
    → word ≡ vector.word → log ≡ hand.log → hand.of ≡ vector.word → lengths_of hand.log ≡ hand.seen → length members ≡ seen_size hand
    → IsListOfHistory vector hand.log members
list_of_history {T} law vector hand word log members list is_word is_log ours seen all =
    let so_far : IsListSoFar vector.word hand.log members = subst (λ (u : WordView × Log). IsListSoFar u.0 u.1 members) (λ i. (is_word i, is_log i)) list in
    record {
      so_far = so_far;
      all = cells_after law vector.word.limit vector.word.base vector.word.filled hand.log so_far.list so_far.history ∙ (λ i. runs_end (sym ours i).base (seen i)) ∙ sym all;
    }
