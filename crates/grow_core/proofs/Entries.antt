-- The gain of a hand that visits an entry whose cells are tied: it knows where the segment's cells are.
use Rattle.std.proofs.Common.{◌≡◌, ℕ, zero, suc, ◌+◌, ◌-◌, ◌<◌, List, [], ◌∷◌, ◌++◌, refl, sym, ap, ◌∙◌, subst, ⊎_elim, arith}
use Rattle.std.specs.Prelude.{Option, Some, None, IfSome, IfNone, length, option_map, slice_get}
use Rattle.std.specs.Borrow.{Bor}
use Rattle.std.specs.List.{Contains}
use Rattle.std.proofs.Math.Pow.{pow-lt, pow_pos}
use mathlib.Core.Logic.{dite}
use native.Mathlib.Decide.{ℕ_discrete}
use lib.Seq.{get_or-set_other}
use Rattle.std.proofs.lemmas.List.{append-nil}
use Rattle.std.proofs.lemmas.List.Elements.{Contains-append_left, Contains-append_right}
use Rattle.seg_core.specs.Segment.{segment_start, segment_end, segment_count}
use Rattle.tie_core.specs.Tie.{Tie}
use Rattle.tie_core.specs.Tags.{TagView}
use Rattle.tie_core.specs.Visit.{Content}
use Rattle.claim_core.specs.declared.role.RowAt.{RowAt}
use Rattle.claim_core.specs.Word.{WordView}
use Rattle.claim_core.specs.Hand.{HandView, IsWholeHand, KnowsBoth}
use Rattle.claim_core.specs.Gain.{Gain, Gains, GainsFrom}
use Rattle.claim_core.specs.Plays.{found_gain, scout_gain, set_gain}
use Rattle.cell_core.specs.Block.{BlockView, block_len}
use Rattle.cell_core.specs.Mould.{first_seat, last_seat}
use Rattle.table_core.specs.Table.{TableView, KeyView, IsBlockOf, IsLengthOf, IsTiedBlockOf, FitsTie, HasSet, content_in}
use Rattle.grow_core.specs.Keys.{AreOfEither, KeyRow, PutsKey, key_at, layout_in}
use Rattle.grow_core.specs.Logs.{pending_look, step_of}
use Rattle.grow_core.specs.Steps.{FindsMore, LooksAt}
use Rattle.grow_core.specs.Ties.{TagRow, IsTagOf, AreTiedTo, IsTiedBlock, KnowsRow, KnowsRows, row_at}
use Rattle.grow_core.proofs.Adds.{one_step, prefix_same}
use Rattle.grow_core.proofs.Works.{rows_still}
use Rattle.grow_core.proofs.Logs.{log_goes_on}
use Rattle.grow_core.proofs.TiedSteps.{gains_keep, gains_rows}

-- a segment has places
pub rises : (f k : ℕ) → segment_start f k < segment_end f k
rises f zero = pow_pos (0 + f)
rises f (suc k) = pow-lt (let e : k + f < suc k + f = omega arith in e)

-- what a hand has gained that knows no more places begun
pub gains_find : (gain : Gain) (old new : HandView) → gain.begun ≡ [] → Gains gain old new → FindsMore old new
gains_find gain old new none g = record {
  keeps = gains_keep gain old new g;
  rows = gains_rows gain old new g;
  begun = g.begun ∙ ap (λ (xs : List ℕ). xs ++ old.begun) none;
  more = log_goes_on old.log gain.events new.log g.log;
}

-- the row of a segment's block
row_is : (f segment from n : ℕ) (block : BlockView) → from ≡ segment_start f segment → IsLengthOf f segment n → IsBlockOf f segment block
    → record { from = from; n = n; seat = last_seat block.cells - n } ≡ row_at f segment block
row_is f segment from n block starts long blocks =
    let same : n ≡ block_len block = omega (arith, long, blocks) in let seat : last_seat block.cells - n ≡ first_seat block.cells = omega (arith, same) in
    λ i. record { from = starts i; n = same i; seat = seat i }

-- the hand knows the row of a block that it has found
knows_found : (f segment from n : ℕ) (block : BlockView) (gain : Gain) (old new : HandView) → layout_in old.of.mark ≡ f → from ≡ segment_start f segment
    → IsLengthOf f segment n → IsBlockOf f segment block → gain.rows ≡ record { from = from; n = n; seat = last_seat block.cells - n } ∷ [] → Gains gain old new
    → KnowsRow new segment block
knows_found f segment from n block gain old new layout starts long blocks rows g tied =
    let same : layout_in new.of.mark ≡ f = ap (λ (w : _). layout_in w.mark) g.of ∙ layout in
    let at : record { from = from; n = n; seat = last_seat block.cells - n } ≡ row_at (layout_in new.of.mark) segment block =
    row_is f segment from n block starts long blocks ∙ ap (λ (k : ℕ). row_at k segment block) (sym same) in
    subst (λ (l : List RowAt). Contains l (row_at (layout_in new.of.mark) segment block)) (sym g.rows)
    (Contains-append_left gain.rows old.rows _ (subst (λ (l : List RowAt). Contains l (row_at (layout_in new.of.mark) segment block)) (sym rows) (0, omega arith, at)))

-- An entry of these places of a segment, and the history of a hand of the vector
module _ (f segment from n : ℕ) (old new : HandView) (layout : layout_in old.of.mark ≡ f) (starts : from ≡ segment_start f segment) (long : IsLengthOf f segment n) where
  -- a look at it for a place
  pub looked_up : (place : ℕ) (found : Option (Bor BlockView × KeyView)) (made : Option Content) → made ≡ Some (content_in (option_map (λ u. u.0) found))
      → IfSome found (λ u. IsBlockOf f segment u.0.now) → GainsFrom (found_gain from n place) made old new
      → IfSome found (λ u. KnowsRow new segment u.0.now) × FindsMore old new × IfNone found (LooksAt old new (step_of (pending_look place)))
  looked_up place None made is blocks gains =
      let g : Gains (found_gain from n place None) old new = subst (λ (m : Option Content). GainsFrom (found_gain from n place) m old new) is gains in
      let finds = gains_find (found_gain from n place None) old new refl g in
      (tt, finds, record { finds = finds; adds = one_step old.log new.log (pending_look place ∷ []) g.log })
  looked_up place (Some u) made is blocks gains =
      let gain = found_gain from n place (Some (last_seat u.0.now.cells)) in
      let g : Gains gain old new = subst (λ (m : Option Content). GainsFrom (found_gain from n place) m old new) is gains in
      (knows_found f segment from n u.0.now gain old new layout starts long blocks refl g, gains_find gain old new refl g, tt)

  -- a look that names no place
  pub scouted : (told : ℕ) (found : Option (Bor BlockView × KeyView)) (made : Option Content) → made ≡ Some (content_in (option_map (λ u. u.0) found))
      → IfSome found (λ u. IsBlockOf f segment u.0.now) → GainsFrom (scout_gain from n told) made old new
      → IfSome found (λ u. KnowsRow new segment u.0.now) × FindsMore old new × (IsWholeHand old → new.log ≡ old.log)
  scouted told None made is blocks gains =
      let g : Gains (scout_gain from n told None) old new = subst (λ (m : Option Content). GainsFrom (scout_gain from n told) m old new) is gains in
      (tt, gains_find (scout_gain from n told None) old new refl g, λ whole. g.alone whole ∙ append-nil old.log)
  scouted told (Some u) made is blocks gains =
      let gain = scout_gain from n told (Some (last_seat u.0.now.cells)) in
      let g : Gains gain old new = subst (λ (m : Option Content). GainsFrom (scout_gain from n told) m old new) is gains in
      (knows_found f segment from n u.0.now gain old new layout starts long blocks refl g, gains_find gain old new refl g, λ whole. g.alone whole ∙ append-nil old.log)

  -- an exchange that sets it to a block, or finds another
  pub set_to : (told first : ℕ) (brought block : BlockView) (made : Option Content) → HasSet made brought block → IsBlockOf f segment block
      → first ≡ last_seat brought.cells - n → GainsFrom (set_gain from n first told) made old new
      → KnowsRow new segment block × FindsMore old new
  set_to told first brought block made set blocks first_is gains = ⊎_elim
      (λ (mine : (made ≡ Some None) × (block ≡ brought)).
      let gain = set_gain from n first told None in
      let g : Gains gain old new = subst (λ (m : Option Content). GainsFrom (set_gain from n first told) m old new) mine.0 gains in
      let seat : first ≡ last_seat block.cells - n = first_is ∙ ap (λ (b : BlockView). last_seat b.cells - n) (sym mine.1) in
      (knows_found f segment from n block gain old new layout starts long blocks (ap (λ (k : ℕ). record { from = from; n = n; seat = k } ∷ []) seat) g, gains_find gain old new refl g))
      (λ (theirs : made ≡ Some (Some (last_seat block.cells))).
      let gain = set_gain from n first told (Some (last_seat block.cells)) in
      let g : Gains gain old new = subst (λ (m : Option Content). GainsFrom (set_gain from n first told) m old new) theirs gains in
      (knows_found f segment from n block gain old new layout starts long blocks refl g, gains_find gain old new refl g))
      set

-- a row has its tags
tag_there : (tags : TagRow) (i : ℕ) → i < length tags → (tag : TagView) × (slice_get tags i ≡ Some tag)
tag_there [] i less = absurd (omega (arith, less))
tag_there (t ∷ tags) zero less = (t, refl)
tag_there (t ∷ tags) (suc i) less = tag_there tags i (omega (arith, less))

-- an entry of a vector has its tag
pub tagged : (word : WordView) (segments : TableView) (cells : Tie) (tags : TagRow) (segment : ℕ) → AreTiedTo word segments cells tags
    → segment < segment_count segments.layout → (tag : TagView) × IsTagOf word segments cells segment tag
tagged word segments cells tags segment tied within =
    let at = tag_there tags segment (let all = tied.all in omega (arith, all, within)) in (at.0, tied.each segment at.0 at.1)

-- the block of an entry is tied as the entry says
pub tied_block : (word : WordView) (segments : TableView) (cells : Tie) (tags : TagRow) (segment : ℕ) (block : BlockView) → AreTiedTo word segments cells tags
    → segment < segment_count segments.layout → IsBlockOf segments.layout segment block → FitsTie segments segment block → IsTiedBlockOf segments segment block
tied_block word segments cells tags segment block tied within long fits =
    let at = tagged word segments cells tags segment tied within in record { length = long; mould = fits at.0.tie at.1.by.tie }

-- blocks that are tied as their entry says have the length of its segment
pub tied_lengths : (t : TableView) (k : ℕ) (found : Option (Bor BlockView × KeyView)) → IfSome found (λ u. IsTiedBlockOf t k u.0.now)
    → IfSome found (λ u. IsBlockOf t.layout k u.0.now)
tied_lengths t k None is = tt
tied_lengths t k (Some u) is = is.length

-- a hand knows the rows of its keys with one that is put among them
pub rows_put : (a b : HandView) (row row' : KeyRow) (segment : ℕ) (key : KeyView) → FindsMore a b → KnowsRows a row → KnowsRow b segment key.block
    → PutsKey row row' segment key → key_at row' segment ≡ Some key → KnowsRows b row'
rows_put a b row row' segment key finds knows here puts there s k small is tied =
    dite (ℕ_discrete s segment)
    (λ same.
    let both : Some key ≡ Some k = sym there ∙ (ap (key_at row') (sym same) ∙ is) in let one : key ≡ k = (let z = both in cc) in
    subst (λ (j : ℕ). Contains b.rows (row_at (layout_in b.of.mark) j k.block)) (sym same)
    (subst (λ (u : KeyView). IsTiedBlock u.block → Contains b.rows (row_at (layout_in b.of.mark) segment u.block)) one here tied))
    (λ other.
    let old : key_at row s ≡ Some k = sym (ap (λ (r : KeyRow). key_at r s) puts ∙ get_or-set_other row segment s (Some key) None other) ∙ is in
    rows_still a b finds.keeps finds.rows row knows s k small old tied)

-- a hand that has found nothing
pub finds_none : (a : HandView) → FindsMore a a
finds_none a = record {
  keeps = record { own = record { of = refl; mine = refl; shares = refl }; seen = refl };
  rows = λ row it. it;
  begun = refl;
  more = prefix_same a.log;
}

-- a hand that knows what either of two knew
module _ (a b new : HandView) (both : KnowsBoth a b new) where
  pub rows_of_both : new.of ≡ a.of → (row : KeyRow) → KnowsRows a row → KnowsRows new row
  rows_of_both of row knows s key small is tied =
      subst (λ (w : WordView). Contains new.rows (row_at (layout_in w.mark) s key.block)) (sym of)
      (subst (λ (l : List RowAt). Contains l (row_at (layout_in a.of.mark) s key.block)) (sym both.rows) (Contains-append_left a.rows b.rows _ (knows s key small is tied)))

  pub rows_of_other : new.of ≡ b.of → (row : KeyRow) → KnowsRows b row → KnowsRows new row
  rows_of_other of row knows s key small is tied =
      subst (λ (w : WordView). Contains new.rows (row_at (layout_in w.mark) s key.block)) (sym of)
      (subst (λ (l : List RowAt). Contains l (row_at (layout_in b.of.mark) s key.block)) (sym both.rows) (Contains-append_right a.rows b.rows _ (knows s key small is tied)))

  -- and has a row of keys that are all theirs
  pub rows_of_either : new.of ≡ a.of → new.of ≡ b.of → (row other now : KeyRow) → AreOfEither row other now → KnowsRows a row → KnowsRows b other → KnowsRows new now
  rows_of_either of also_of row other now either knows also_knows s key small is tied = ⊎_elim
      (λ (was : key_at row s ≡ Some key). rows_of_both of row knows s key small was tied)
      (λ (was : key_at other s ≡ Some key). rows_of_other also_of other also_knows s key small was tied)
      (either s key small is)
