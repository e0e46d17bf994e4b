-- A hand after a claim, or a lost one, with the keys that it found before; and after it has worked on what it claimed.
use Rattle.std.proofs.Common.{◌≡◌, ℕ, ◌+◌, ◌-◌, ◌<◌, ◌≤◌, List, sym, ap, ◌∙◌, subst, arith}
use Rattle.std.specs.Prelude.{IsSome, slice_index}
use Rattle.std.specs.List.{Contains}
use mathlib.Core.List.{IsPrefix}
use Rattle.seg_core.specs.Segment.{HasPlace, segment_count, segment_end, segment_start}
use Rattle.seg_core.specs.Laws.{OneSegment}
use Rattle.claim_core.specs.declared.role.RowAt.{RowAt}
use Rattle.claim_core.specs.declared.run.Run.{Run}
use Rattle.claim_core.specs.Hand.{HandView, AddsRun, KeepsCells, KeepsOwn, OwnsRun, SeesOwn, SeesSize, seen_size, single}
use Rattle.claim_core.specs.Laws.{OwnPlacesStay, AddedPlacesAreOfTheRun}
use Rattle.cell_core.specs.Block.{BlockView}
use Rattle.table_core.specs.Table.{KeyView, IsBlockOf, IsTiedBlockOf}
use Rattle.grow_core.specs.Keys.{KeyRow, AreKeys, HasKeysOfRun, IsKeyAt, IsKeyed, KeepsKeys, key_at, layout_in, mark_of}
use Rattle.grow_core.specs.Making.{IsClaimed}
use Rattle.grow_core.specs.Steps.{FindsMore, KeepsHand, WorksIn}
use Rattle.grow_core.specs.Ties.{IsCellOf, KnowsRows}
use Rattle.grow_core.specs.Vector.{VectorView, SeesMore, layout_of}
use Rattle.grow_core.proofs.KeyRows.{keyed_adds, keyed_sees, keys_of_one}
use Rattle.grow_core.proofs.Later.{adds_after, more_after}
use Rattle.grow_core.proofs.Works.{hand_still, more_of_keeps, place_still, rows_kept, run_still, size_of_keeps}

-- what holds of the hand with the keys
abbrev pub Holds : HandView → KeyRow → Type 0
Holds hand row = IsKeyed hand row × KnowsRows hand row

module _ (hand found new : HandView) (row row' : KeyRow) (sees : SeesOwn hand) (holds : Holds hand row) (keys : AreKeys hand.of.mark row')
    (kept : KeepsKeys row row') (finds : FindsMore hand found) (knows : KnowsRows found row') (cells : KeepsCells found new) where
  -- the hand has seen more, and owns what it owned
  pub held_more : OwnPlacesStay → SeesMore found new → Holds new row'
  held_more law more =
      let all = more_after hand found new (more_of_keeps hand found finds.keeps) more in
      (keyed_sees hand new row row' sees holds.0 keys kept law all.own all.seen, rows_kept found new more.own.of cells.rows row' knows)

  -- the hand has one more run, and the row has the keys of its segments
  pub held_run : AddedPlacesAreOfTheRun → (run : Run) → AddsRun found new run → HasKeysOfRun (layout_in hand.of.mark) row' run.from run.n → Holds new row'
  held_run law run adds run_keys =
      let all = adds_after hand found new run (more_of_keeps hand found finds.keeps) adds in
      (keyed_adds hand new row row' sees holds.0 keys kept law run all run_keys, rows_kept found new adds.of cells.rows row' knows)

  -- the run is one place, whose segment's key is in the row
  pub held_place : AddedPlacesAreOfTheRun → OneSegment → (run : Run) (segment place : ℕ) → AddsRun found new run → run ≡ single place
      → HasPlace (layout_in hand.of.mark) segment place → IsSome (key_at row' segment) → Holds new row'
  held_place law one run segment place adds is there put =
      held_run law run adds
      (subst (λ (r : Run). HasKeysOfRun (layout_in hand.of.mark) row' r.from r.n) (sym is) (keys_of_one (layout_in hand.of.mark) one row' segment place there put))

-- a hand that works on places of its own holds its keys still
pub held_still : (a b : HandView) (from n : ℕ) (row : KeyRow) → WorksIn a b from n → Holds a row → Holds b row
held_still a b from n row works holds =
    hand_still a b works.keeps (λ (at : RowAt) it. subst (λ (l : List RowAt). Contains l at) (sym works.rows) it) row holds

-- ---- One push

-- a place is in a segment if one that is not after it is, and if fewer places lie before it there than the segment has
pub near_place : (f segment seen place first n : ℕ) → HasPlace f segment seen → seen ≤ place → first ≡ segment_start f segment
    → segment_start f segment + n ≡ segment_end f segment → place - first < n → HasPlace f segment place × (segment_start f segment + (place - first) ≡ place)
near_place f segment seen place first n here after is long inside = let begin = here.from in
    (record { from = omega (arith, begin, after); before = omega (arith, begin, after, is, long, inside) }, omega (arith, begin, after, is))

-- what the hand knows of cells after two steps that change none of it
pub cells_on : (a b c : HandView) → KeepsCells a b → KeepsCells b c → KeepsCells a c
cells_on a b c p q = record { begun = q.begun ∙ p.begun; rows = q.rows ∙ p.rows; laid = q.laid ∙ p.laid }

module _ {T : Type 0} (vector : VectorView T) where
  -- a place of a segment that the hand has found is a cell of its block
  pub cell_found : (segment place offset : ℕ) (key : KeyView) (block : BlockView) → IsKeyAt (mark_of vector.segments) segment key → block ≡ key.block
      → IsBlockOf (layout_of vector) key.segment key.block → IsTiedBlockOf vector.segments key.segment key.block
      → HasPlace (layout_of vector) segment place → segment_start (layout_of vector) segment + offset ≡ place
      → IsCellOf vector.segments key block place offset
  cell_found segment place offset key block at is long by there sum =
      let there' : HasPlace (layout_of vector) key.segment place = subst (λ (k : ℕ). HasPlace (layout_of vector) k place) (sym at.at) there in
      let sum' : segment_start (layout_of vector) key.segment + offset ≡ place =
      subst (λ (k : ℕ). segment_start (layout_of vector) k + offset ≡ place) (sym at.at) sum in record {
        key = record {
          layout = at.layout;
          within = subst (λ (k : ℕ). k < segment_count (layout_of vector)) (sym at.at) at.within;
          named = ap (λ (k : ℕ). slice_index vector.segments.names k) at.at ∙ at.named;
        };
        block = is;
        long = long;
        by = by;
        within = omega (arith, long, sum', there'.before);
        place = sym sum';
      }

-- ---- A run that was claimed, after the hand has worked on it

module _ (old mid new : HandView) (keeps : KeepsHand mid new) where
  same_size : seen_size new ≡ seen_size mid
  same_size = size_of_keeps mid new keeps

  own_after : KeepsOwn old mid → KeepsOwn old new
  own_after own = record { of = keeps.own.of ∙ own.of; mine = keeps.own.mine ∙ own.mine; shares = keeps.own.shares ∙ own.shares }

  -- it is the hand's own still
  pub adds_still : (run : Run) → AddsRun old mid run → AddsRun old new run
  adds_still run adds = record {
    between = adds.between;
    begins = adds.begins;
    positive = adds.positive;
    within = adds.within;
    seen = keeps.seen ∙ adds.seen;
    ends = same_size ∙ adds.ends;
    mine = keeps.own.mine ∙ adds.mine;
    shares = keeps.own.shares ∙ adds.shares;
    of = keeps.own.of ∙ adds.of;
  }

  sees_still : (size : ℕ) → SeesSize old mid size → SeesSize old new size
  sees_still size sees = record {
    seen = subst (λ (l : List ℕ). IsPrefix old.seen l) (sym keeps.seen) sees.seen;
    ends = same_size ∙ sees.ends;
    within = sees.within;
    own = own_after sees.own;
  }

  owns_run_still : (run : Run) → OwnsRun mid run → OwnsRun new run
  owns_run_still run owns =
      let still = run_still mid new keeps owns.0 run (record { owned = owns.1; sees = owns.2 }) in (owns.0, still.owned, still.sees)

  -- so is all that is known of its claim
  pub claimed_still : {T : Type 0} (vector : VectorView T) (wanted : ℕ) (run : Run) → IsClaimed vector wanted old mid run → IsClaimed vector wanted old new run
  claimed_still vector wanted run it = record {
    n = it.n;
    grows = record { claimed = λ some. adds_still run (it.grows.claimed some); empty = λ none. sees_still run.from (it.grows.empty none) };
    owned = λ some. owns_run_still run (it.owned some);
    places = λ place is_place. place_still mid new keeps place (it.places place is_place);
    not_below = it.not_below;
    alone = it.alone;
    within = it.within;
  }
