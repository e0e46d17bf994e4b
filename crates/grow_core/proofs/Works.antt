-- The steps of a hand on places next to each other, put together.
use Rattle.std.proofs.Common.{◌≡◌, ℕ, ◌+◌, ◌-◌, ◌<◌, ◌≤◌, List, [], ◌++◌, refl, sym, ap, ◌∙◌, subst, ⊎_elim, inl, inr, arith}
use Rattle.std.specs.Prelude.{length, slice_index}
use Rattle.std.proofs.lemmas.List.{append-nil}
use Rattle.std.specs.List.{Contains}
use mathlib.Core.List.{IsPrefix}
use Rattle.claim_core.specs.declared.role.RowAt.{RowAt}
use Rattle.claim_core.specs.declared.run.Run.{Run}
use Rattle.claim_core.specs.Lengths.{InRun, run_start, runs_end}
use Rattle.cell_core.specs.Block.{BlockView}
use Rattle.claim_core.specs.Word.{WordView}
use Rattle.claim_core.specs.Hand.{HandView, KeepsCells, AddsRun, SeesBegun, OwnsPlace, IsPlaceOf, seen_size}
use Rattle.claim_core.specs.Laws.{AddedPlacesAreNotBegun, SeenRunsHavePlaces}
use Rattle.book_core.specs.declared.events.Event.{Event}
use Rattle.book_core.specs.declared.events.Reply.{Reply}
use Rattle.claim_core.specs.History.{Log, Adds}
use Rattle.seg_core.specs.Segment.{HasPlace}
use Rattle.grow_core.specs.Keys.{KeyRow, AreKeys, IsKeyed, layout_in}
use Rattle.grow_core.specs.Ties.{KnowsRow, KnowsRows, row_at}
use Rattle.grow_core.specs.Logs.{step_of, fill_steps, break_steps, stop_steps}
use Rattle.grow_core.specs.Vector.{SeesMore}
use Rattle.grow_core.specs.Steps.{KeepsHand, FindsMore, WorksIn, AddsAt, AddsAlong, AddsOn, AreFresh, OwnsRunAt, OwnsPlaceAt}
use Rattle.grow_core.proofs.Logs.{nothing_after}
use Rattle.grow_core.proofs.Adds.{prefix_same, steps_after, steps_join, fills_join}

pub keeps_both : (a b c : HandView) → KeepsHand a b → KeepsHand b c → KeepsHand a c
keeps_both a b c p q = record {
  own = record { of = q.own.of ∙ p.own.of; mine = q.own.mine ∙ p.own.mine; shares = q.own.shares ∙ p.own.shares };
  seen = q.seen ∙ p.seen;
}

-- a hand that has seen the same has seen no less
pub more_of_keeps : (a b : HandView) → KeepsHand a b → SeesMore a b
more_of_keeps a b keeps = record { seen = ([], append-nil a.seen ∙ sym keeps.seen); own = keeps.own }

pub size_of_keeps : (a b : HandView) → KeepsHand a b → seen_size b ≡ seen_size a
size_of_keeps a b keeps =
    ap (λ (w : WordView). runs_end w.base b.seen) keeps.own.of ∙ ap (λ (l : List ℕ). runs_end a.of.base l) keeps.seen

module _ (a b : HandView) where
  -- the same
  pub works_none : (from n : ℕ) → n ≡ 0 → a ≡ b → WorksIn a b from n
  works_none from n none same = subst (λ (h : HandView). WorksIn a h from n) same (record {
    keeps = record { own = record { of = refl; mine = refl; shares = refl }; seen = refl };
    rows = refl;
    begun = λ place it. inr it;
    more = prefix_same a.log;
  })

  module _ (from m next n all : ℕ) (at : from + m ≡ next) (sum : m + n ≡ all) where
    -- places, and then those after them
    pub works_on : (c : HandView) → WorksIn a b from m → WorksIn b c next n → WorksIn a c from all
    works_on c p q = record {
      keeps = keeps_both a b c p.keeps q.keeps;
      rows = q.rows ∙ p.rows;
      begun = λ place it.
          ⊎_elim
          (λ (here : (next ≤ place) × (place < next + n)). inl (omega (arith, here.0, at), omega (arith, here.1, at, sum)))
          (λ (before : Contains b.begun place).
          ⊎_elim (λ (there : (from ≤ place) × (place < from + m)). inl (there.0, omega (arith, there.1, sum)))
          (λ (old : Contains a.begun place). inr old) (p.begun place before))
          (q.begun place it);
      more = nothing_after a.log b.log c.log p.more q.more;
    }

    -- the places after those are as little known as they were
    pub still_fresh : WorksIn a b from m → AreFresh a from all → AreFresh b next n
    still_fresh works fresh place above below it =
        ⊎_elim (λ (here : (from ≤ place) × (place < from + m)). absurd (omega (arith, here.1, above, at)))
        (λ (before : Contains a.begun place). fresh place (omega (arith, above, at)) (omega (arith, below, at, sum)) before)
        (works.begun place it)

    -- so are those before them
    pub fresh_before : WorksIn a b next n → AreFresh a from all → AreFresh b from m
    fresh_before works fresh place above below it =
        ⊎_elim (λ (here : (next ≤ place) × (place < next + n)). absurd (omega (arith, here.0, below, at)))
        (λ (before : Contains a.begun place). fresh place above (omega (arith, below, sum)) before) (works.begun place it)

  -- the same places twice
  pub works_twice : (c : HandView) (from n : ℕ) → WorksIn a b from n → WorksIn b c from n → WorksIn a c from n
  works_twice c from n p q = record {
    keeps = keeps_both a b c p.keeps q.keeps;
    rows = q.rows ∙ p.rows;
    begun = λ place it.
        ⊎_elim (λ (here : (from ≤ place) × (place < from + n)). inl here) (λ (before : Contains b.begun place). p.begun place before) (q.begun place it);
    more = nothing_after a.log b.log c.log p.more q.more;
  }

  -- places are some of more places
  pub works_within : (from n first all : ℕ) → first ≤ from → from + n ≤ first + all → WorksIn a b from n → WorksIn a b first all
  works_within from n first all above below p = record {
    keeps = p.keeps;
    rows = p.rows;
    begun = λ place it.
        ⊎_elim
        (λ (here : (from ≤ place) × (place < from + n)). inl (omega (arith, here.0, above), omega (arith, here.1, below)))
        (λ (before : Contains a.begun place). inr before) (p.begun place it);
    more = p.more;
  }

-- ---- What stays of a hand that has seen the same

module _ (a b : HandView) (keeps : KeepsHand a b) where
  in_run : (index place : ℕ) → InRun a.of.base a.seen index place → InRun b.of.base b.seen index place
  in_run index place it =
      subst (λ (w : WordView). InRun w.base b.seen index place) (sym keeps.own.of) (subst (λ (l : List ℕ). InRun a.of.base l index place) (sym keeps.seen) it)

  pub owns_still : (index place : ℕ) → OwnsPlaceAt a index place → OwnsPlaceAt b index place
  owns_still index place it =
      record { owned = subst (λ (l : List ℕ). Contains l index) (sym keeps.own.mine) it.owned; in_run = in_run index place it.in_run }

  pub run_still : (index : ℕ) (run : Run) → OwnsRunAt a index run → OwnsRunAt b index run
  run_still index run it = record {
    owned = subst (λ (l : List ℕ). Contains l index) (sym keeps.own.mine) it.owned;
    sees = record {
      there = subst (λ (l : List ℕ). index < length l) (sym keeps.seen) it.sees.there;
      from = subst (λ (w : WordView). run.from ≡ run_start w.base b.seen index) (sym keeps.own.of)
          (subst (λ (l : List ℕ). run.from ≡ run_start a.of.base l index) (sym keeps.seen) it.sees.from);
      n = subst (λ (l : List ℕ). run.n ≡ slice_index l index) (sym keeps.seen) it.sees.n;
    };
  }

  pub place_still : (place : ℕ) → OwnsPlace a place → OwnsPlace b place
  place_still place it =
      (it.0, subst (λ (l : List ℕ). Contains l it.0) (sym keeps.own.mine) it.1, in_run it.0 place it.2)

  pub place_was : (place : ℕ) → OwnsPlace b place → OwnsPlace a place
  place_was place it = (
    it.0,
    subst (λ (l : List ℕ). Contains l it.0) keeps.own.mine it.1,
    subst (λ (w : WordView). InRun w.base a.seen it.0 place) keeps.own.of (subst (λ (l : List ℕ). InRun b.of.base l it.0 place) keeps.seen it.2),
  )

  -- its keys are still those of its runs
  pub keyed_still : (row : KeyRow) → IsKeyed a row → IsKeyed b row
  keyed_still row keyed = record {
    keys = subst (λ (w : WordView). AreKeys w.mark row) (sym keeps.own.of) keyed.keys;
    own = λ place segment small own there.
        keyed.own place segment small (place_was place own) (subst (λ (w : WordView). HasPlace (layout_in w.mark) segment place) keeps.own.of there);
  }

  -- it knows the rows of its keys, if it knows all rows that it knew
  pub rows_still : ((row : RowAt) → Contains a.rows row → Contains b.rows row) → (row : KeyRow) → KnowsRows a row → KnowsRows b row
  rows_still more row knows segment key small is tied =
      subst (λ (w : WordView). Contains b.rows (row_at (layout_in w.mark) segment key.block)) (sym keeps.own.of)
      (more (row_at (layout_in a.of.mark) segment key.block) (knows segment key small is tied))

  -- so what holds of a hand with its keys still holds
  pub hand_still : ((row : RowAt) → Contains a.rows row → Contains b.rows row) → (row : KeyRow) → IsKeyed a row × KnowsRows a row
      → IsKeyed b row × KnowsRows b row
  hand_still more row holds = (keyed_still row holds.0, rows_still more row holds.1)

  -- and it knows the row of a segment that it knew
  pub segment_still : ((row : RowAt) → Contains a.rows row → Contains b.rows row) → (segment : ℕ) (block : BlockView) → KnowsRow a segment block
      → KnowsRow b segment block
  segment_still more segment block knows tied =
      subst (λ (w : WordView). Contains b.rows (row_at (layout_in w.mark) segment block)) (sym keeps.own.of)
      (more (row_at (layout_in a.of.mark) segment block) (knows tied))

-- a hand of the same word that knows the same rows knows those of the keys
pub rows_kept : (a b : HandView) → b.of ≡ a.of → b.rows ≡ a.rows → (row : KeyRow) → KnowsRows a row → KnowsRows b row
rows_kept a b of same row knows segment key small is tied =
    subst (λ (w : WordView). Contains b.rows (row_at (layout_in w.mark) segment key.block)) (sym of)
    (subst (λ (l : List RowAt). Contains l (row_at (layout_in a.of.mark) segment key.block)) (sym same) (knows segment key small is tied))

pub row_kept : (a b : HandView) → b.of ≡ a.of → b.rows ≡ a.rows → (segment : ℕ) (block : BlockView) → KnowsRow a segment block → KnowsRow b segment block
row_kept a b of same segment block knows tied =
    subst (λ (w : WordView). Contains b.rows (row_at (layout_in w.mark) segment block)) (sym of)
    (subst (λ (l : List RowAt). Contains l (row_at (layout_in a.of.mark) segment block)) (sym same) (knows tied))

-- a hand finds entries, or none, and then others
pub finds_none : (a : HandView) → FindsMore a a
finds_none a = record {
  keeps = record { own = record { of = refl; mine = refl; shares = refl }; seen = refl };
  rows = λ row it. it;
  begun = refl;
  more = prefix_same a.log;
}

pub finds_on : (a b c : HandView) → FindsMore a b → FindsMore b c → FindsMore a c
finds_on a b c p q = record {
  keeps = keeps_both a b c p.keeps q.keeps;
  rows = λ row it. q.rows row (p.rows row it);
  begun = q.begun ∙ p.begun;
  more = nothing_after a.log b.log c.log p.more q.more;
}

-- a hand that has found entries knows no other place begun
pub begun_still : (a b : HandView) → FindsMore a b → SeesBegun a → SeesBegun b
begun_still a b finds sees place it =
    let same = size_of_keeps a b finds.keeps in
    let below = sees place (subst (λ (l : List ℕ). Contains l place) finds.begun it) in omega (arith, same, below)

-- ---- A run that was just claimed

-- none of its places is known begun
pub claimed_fresh : AddedPlacesAreNotBegun → (old new : HandView) (run : Run) → SeesBegun old → KeepsCells old new → AddsRun old new run
    → AreFresh new run.from run.n
claimed_fresh law old new run sees keeps adds place above below it = law old new run place sees keeps adds (above, below) it

-- each of its places is the hand's own under its index
pub claimed_owned : SeenRunsHavePlaces → (hand : HandView) (index : ℕ) (run : Run) → OwnsRunAt hand index run → (place : ℕ) → IsPlaceOf run place
    → OwnsPlaceAt hand index place
claimed_owned law hand index run owns place is_place =
    record { owned = owns.owned; in_run = (law hand index run place owns.sees).0 is_place }

-- ---- What is added on the places of a run of the hand's, one stretch after another

module _ (run : Run) where
  -- nothing is added at first
  pub adds_none : (a b : HandView) (steps : ℕ → List Log) → a ≡ b → ((index : ℕ) → steps index ≡ []) → AddsOn a b run steps
  adds_none a b steps same empty index owns =
      subst (λ (s : List Log). Adds a.log s b.log) (sym (empty index))
      (subst (λ (h : HandView). IsPrefix a.log h.log) same (prefix_same a.log))

  -- places next to each other in the run are of the actor whose index the run has
  pub on_of_along : SeenRunsHavePlaces → (a b : HandView) (from n : ℕ) (steps : ℕ → List Log) → run.from ≤ from → from + n ≤ run.from + run.n
      → AddsAlong a b from n steps → AddsOn a b run steps
  on_of_along law a b from n steps above below along index owns =
      along index (λ i less. claimed_owned law a index run owns (from + i) (omega (arith, above), omega (arith, below, less)))

  -- so is one place
  pub on_of_at : SeenRunsHavePlaces → (a b : HandView) (place : ℕ) (event : ℕ → Event × Reply) → IsPlaceOf run place → AddsAt a b place event
      → AddsOn a b run (λ index. step_of (event index))
  on_of_at law a b place event is_place at index owns = at index (claimed_owned law a index run owns place is_place)

  -- steps on places, and then on those after them
  pub adds_then : (a b c : HandView) (xs ys all : ℕ → List Log) → ((index : ℕ) → all index ≡ xs index ++ ys index) → KeepsHand a b
      → AddsOn a b run xs → AddsOn b c run ys → AddsOn a c run all
  adds_then a b c xs ys all whole keeps first rest index owns =
      subst (λ (s : List Log). Adds a.log s c.log) (sym (whole index))
      (steps_join a.log b.log c.log (xs index) (ys index) (first index owns) (rest index (run_still a b keeps index run owns)))

-- places of a run that a hand begins first and then publishes
pub along_after : (a b c : HandView) (from n : ℕ) (steps : ℕ → List Log) → KeepsHand a b
    → IsPrefix a.log b.log → AddsAlong b c from n steps → AddsAlong a c from n steps
along_after a b c from n steps keeps more along index owns =
    steps_after a.log b.log c.log (steps index) more (along index (λ i less. owns_still a b keeps index (from + i) (owns i less)))

-- ---- The same of fills alone

module _ (run : Run) (law : SeenRunsHavePlaces) (a b c : HandView) (keeps : KeepsHand a b) (from m next n all : ℕ)
    (at : from + m ≡ next) (sum : m + n ≡ all) (above : run.from ≤ from) (below : next + n ≤ run.from + run.n) where
  -- a stretch more is filled
  pub fills_on : AddsOn a b run (λ index. fill_steps index from m) → AddsAlong b c next n (λ index. fill_steps index next n)
      → AddsOn a c run (λ index. fill_steps index from all)
  fills_on first along =
      adds_then run a b c (λ index. fill_steps index from m) (λ index. fill_steps index next n) (λ index. fill_steps index from all)
      (λ index. ap (λ (k : ℕ). fill_steps index from k) (sym sum) ∙ fills_join index from m n next at) keeps first
      (on_of_along run law b c next n (λ index. fill_steps index next n) (omega (arith, at, above)) below along)

-- the first places of a run are filled, and then the others are broken
pub stops_on : (run : Run) (a b c : HandView) (made : ℕ) → KeepsHand a b → AddsOn a b run (λ index. fill_steps index run.from made)
    → AddsOn b c run (λ index. break_steps index (run.from + made) (run.n - made)) → AddsOn a c run (λ index. stop_steps index run made)
stops_on run a b c made keeps first rest =
    adds_then run a b c (λ index. fill_steps index run.from made) (λ index. break_steps index (run.from + made) (run.n - made))
    (λ index. stop_steps index run made) (λ index. refl) keeps first rest

-- a place that a hand begins first and then fills or breaks
pub at_after : (a b c : HandView) (place : ℕ) (event : ℕ → Event × Reply) → WorksIn a b place 1
    → AddsAt b c place event → AddsAt a c place event
at_after a b c place event works at index owns =
    steps_after a.log b.log c.log (step_of (event index)) works.more (at index (owns_still a b works.keeps index place owns))

-- places that are filled in two parts, after a hand has begun some of them
pub along_both : (h a b c : HandView) (from m next n all : ℕ) → from + m ≡ next → m + n ≡ all → KeepsHand h a → IsPrefix h.log a.log → KeepsHand a b
    → AddsAlong a b from m (λ index. fill_steps index from m) → AddsAlong b c next n (λ index. fill_steps index next n)
    → AddsAlong h c from all (λ index. fill_steps index from all)
along_both h a b c from m next n all at sum keeps more keeps' first rest index owns =
    let one = first index (λ i less. owns_still h a keeps index (from + i) (owns i (omega (arith, less, sum)))) in
    let later = λ (i : ℕ) (less : i < n).
    let here : from + (m + i) ≡ next + i = omega (arith, at) in
    subst (λ (place : ℕ). OwnsPlaceAt h index place) here (owns (m + i) (omega (arith, less, sum))) in
    let two = rest index (λ i less. owns_still h b (keeps_both h a b keeps keeps') index (next + i) (later i less)) in
    let whole = ap (λ (k : ℕ). fill_steps index from k) (sym sum) ∙ fills_join index from m n next at in
    subst (λ (s : List Log). Adds h.log s c.log) (sym whole)
    (steps_join h.log b.log c.log (fill_steps index from m) (fill_steps index next n) (steps_after h.log a.log b.log (fill_steps index from m) more one) two)
