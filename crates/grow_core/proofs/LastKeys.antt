-- The keys of the first segments, when a vector is closed.
use Rattle.std.proofs.Common.{⊎_elim, ◌≡◌, ℕ, ◌^◌, ◌<◌, ◌≤◌, List, length, Option, Some, None, sym, ap, ◌∙◌, subst, arith}
use Rattle.std.proofs.lemmas.Bool.{cases_lt}
use Rattle.std.specs.Prelude.{IsSome, slice_index, slice_set}
use Rattle.std.specs.List.{Contains}
use lib.Seq.{get_or-set_same, get_or-set_other}
use mathlib.Core.Logic.{dite}
use native.Mathlib.Decide.{ℕ_discrete}
use Rattle.seg_core.specs.Segment.{segment_start, segment_count, IsLayout, HasPlace}
use Rattle.tie_core.specs.Tie.{Tie}
use Rattle.claim_core.specs.Lengths.{Tiles}
use Rattle.claim_core.specs.Word.{WordView}
use Rattle.claim_core.specs.Hand.{HandView, OwnsPlace, seen_size}
use Rattle.cell_core.specs.Block.{BlockView}
use Rattle.cell_core.specs.Member.{MemberView}
use Rattle.table_core.specs.Table.{TableView, KeyView, IsKeyIn, IsTiedBlockOf}
use Rattle.grow_core.specs.Keys.{KeyRow, IsKeyAt, key_at, layout_in, mark_of}
use Rattle.grow_core.specs.Closing.{AreKnown, AreOpenedKeys}
use Rattle.grow_core.specs.Steps.{FindsMore}
use Rattle.grow_core.specs.Ties.{TagRow, KnowsRow, row_at}
use Rattle.grow_core.specs.Vector.{IsShared, vector_of}
use Rattle.grow_core.proofs.KeyRows.{none_is_none}
use Rattle.grow_core.proofs.Places.{all_places, starts_le}
use Rattle.grow_core.proofs.Settled.{AreFirst, segment_ends_later}

-- the key of a segment is one of the table
pub key_is_in : (table : TableView) (segment : ℕ) (key : KeyView) → IsKeyAt (mark_of table) segment key → IsKeyIn table key
key_is_in table segment key is = record {
  layout = is.layout;
  within = subst (λ (k : ℕ). k < segment_count table.layout) (sym is.at) is.within;
  named = ap (slice_index table.names) is.at ∙ is.named;
}

some_is_not : {X : Type 0} (o : Option X) (x : X) → o ≡ Some x → o ≡ None → ⊥
some_is_not o x is none = let z : Some x ≡ None = sym is ∙ none in cc

-- if the hand finds nothing, no place there was claimed
pub claimed_below : (hand : HandView) (f segment : ℕ) (key : Option KeyView) → Tiles hand.of.base hand.seen hand.mine → hand.of.base ≤ segment_start f segment
    → ((place : ℕ) → OwnsPlace hand place → HasPlace f segment place → IsSome key) → key ≡ None → seen_size hand ≤ segment_start f segment
claimed_below hand f segment key tiles low there none = ⊎_elim
    (λ past. absurd (none_is_none key none (there (segment_start f segment) (tiles.covers (segment_start f segment) low past)
    (record { from = omega arith; before = segment_ends_later f segment }))))
    (λ within. within)
    (cases_lt (segment_start f segment) (seen_size hand))

-- all places lie in the segments of the layout
pub all_within : (f size : ℕ) → IsLayout f → size ≤ 2 ^ 40 → size ≤ segment_start f (segment_count f)
all_within f size layout most = let all = all_places f layout.1 in omega (arith, all, most)

-- a hand that finds more knows the rows that it knew
pub row_on : (a b : HandView) → FindsMore a b → (segment : ℕ) (block : BlockView) → KnowsRow a segment block → KnowsRow b segment block
row_on a b finds segment block knows tied =
    subst (λ (w : WordView). Contains b.rows (row_at (layout_in w.mark) segment block)) (sym finds.keeps.own.of) (finds.rows (row_at (layout_in a.of.mark) segment block) (knows tied))

-- no key is there yet
pub none_first : (f : ℕ) (names : List ℕ) (opened keys : KeyRow) → length keys ≡ 40 → ((s : ℕ) → s < 40 → key_at keys s ≡ None) → AreFirst f names opened keys 0
none_first f names opened keys rows none = record {
  rows = rows;
  named = λ s k low at. absurd (some_is_not (key_at keys s) k at (none s low));
  long = λ s k low at. absurd (some_is_not (key_at keys s) k at (none s low));
  there = λ s low. absurd (omega (arith, low));
  first = λ s low is. absurd (omega (arith, low));
  none = λ s low past. none s low;
}

pub none_known : (segments : TableView) (hand : HandView) (keys : KeyRow) → ((s : ℕ) → s < 40 → key_at keys s ≡ None) → AreKnown segments hand keys
none_known segments hand keys none = λ s key low at. absurd (some_is_not (key_at keys s) key at (none s low))

-- the next key
pub known_on : (segments : TableView) (a b : HandView) (keys : KeyRow) (n : ℕ) (key : KeyView) → AreKnown segments a keys → FindsMore a b → n < length keys
    → IsTiedBlockOf segments n key.block → KnowsRow b n key.block → AreKnown segments b (slice_set keys n (Some key))
known_on segments a b keys n key known finds near by row = λ s k low at. dite (ℕ_discrete s n)
    (λ same. let both : Some k ≡ Some key = sym at ∙ ap (key_at (slice_set keys n (Some key))) same ∙ get_or-set_same keys n (Some key) None near in
    let is : key ≡ k = (let z = sym both in cc) in
    subst (λ (u : ℕ × KeyView). IsTiedBlockOf segments u.0 u.1.block × KnowsRow b u.0 u.1.block) (λ i. (sym same i, is i)) (by, row))
    (λ other. let was = known s k low (sym (get_or-set_other keys n s (Some key) None other) ∙ at) in (was.0, row_on a b finds s k.block was.1))

-- the row that a vector keeps has the keys of the segments of the opened list
pub opened_keys : {T : Type 0} (word : WordView) (segments : TableView) (keys : KeyRow) (known : List (MemberView T)) (count : ℕ) (cells : Tie) (tags : TagRow)
    → IsShared word segments keys known count cells tags → AreOpenedKeys (vector_of word segments known) keys
opened_keys word segments keys known count cells tags own = record {
  named = own.whole.named;
  there = λ segment before. own.whole.there segment
      (⊎_elim (λ low. low) (λ ge. absurd (let le = starts_le segments.layout count segment ge in let inside = own.whole.inside in omega (arith, le, before, inside))) (cases_lt segment count));
}
