-- Cells of a block whose ties are fixed, one after another, at the stage that a hand's history shows.
use Rattle.std.proofs.Common.{◌≡◌, ℕ, ◌+◌, ◌<◌, ◌≤◌, List, [], Option, Some, None, refl, sym, ap, ◌∙◌, subst, arith}
use lib.Seq.{get_or-set_same}
use mathlib.Core.Logic.{dite}
use native.Mathlib.Decide.{ℕ_discrete}
use Rattle.seg_core.specs.Segment.{segment_start}
use Rattle.tie_core.specs.Tie.{Stage, IsTied, Made}
use Rattle.claim_core.specs.Hand.{HandView}
use Rattle.claim_core.specs.Plays.{ReadsBy, ShowsAt, cell_stage}
use Rattle.claim_core.specs.Ties.{Finds}
use Rattle.cell_core.specs.Block.{BlockView, FixesCell, KeepsOtherCells, block_len, cell_at}
use Rattle.cell_core.specs.Fixed.{fixed_cell, stage_in, untied_cell}
use Rattle.cell_core.specs.Mould.{first_seat}
use Rattle.cell_core.specs.Slot.{Names}
use Rattle.grow_core.specs.Closing.{AreFixed, AreToldBy}
use Rattle.grow_core.specs.Keys.{layout_in}
use Rattle.grow_core.specs.Ties.{KnowsRow, row_at}
use Rattle.grow_core.specs.Token.{place_in}

-- the first i cells of a segment are fixed, and the history shows the place of each so; the others stay
pub record AreFixedUpTo (hand : HandView) (f segment : ℕ) (old new : BlockView) (i : ℕ) : Type 0 where
  pub len : block_len new ≡ block_len old
  pub cells : (q : ℕ) → untied_cell (cell_at new q) ≡ untied_cell (cell_at old q)
  pub rest : (q : ℕ) → i ≤ q → cell_at new q ≡ cell_at old q
  pub fixed : (q : ℕ) → q < i → (s : Stage) × (stage_in (cell_at new q) ≡ Some s) × ShowsAt hand (place_in f segment q) (cell_stage s)

-- none is fixed yet
pub none_fixed : (hand : HandView) (f segment : ℕ) (block : BlockView) → AreFixedUpTo hand f segment block block 0
none_fixed hand f segment block = record {
  len = refl;
  cells = λ q. refl;
  rest = λ q past. refl;
  fixed = λ q low. absurd (omega (arith, low));
}

-- the seat of a cell is that of its place in the hand's row
pub found_in : (hand : HandView) (f segment : ℕ) (block : BlockView) (i place seat : ℕ) → layout_in hand.of.mark ≡ f → KnowsRow hand segment block → IsTied (cell_at block 0).tied
    → i < block_len block → place ≡ segment_start f segment + i → seat ≡ first_seat block.cells + i → Finds hand.rows place seat
found_in hand f segment block i place seat mark knows tied less at in_seat =
    (row_at (layout_in hand.of.mark) segment block, knows tied, record { i = i; less = less; at = at ∙ ap (λ (l : ℕ). segment_start l segment + i) (sym mark); in_seat = in_seat })

-- the next cell is fixed
pub fixed_more : (hand : HandView) (f segment : ℕ) (old mid new : BlockView) (i place : ℕ) (s : Stage) → AreFixedUpTo hand f segment old mid i → i < block_len mid → FixesCell mid new i s
    → KeepsOtherCells mid new i → block_len new ≡ block_len mid → place ≡ place_in f segment i → ShowsAt hand place (cell_stage s) → AreFixedUpTo hand f segment old new (i + 1)
fixed_more hand f segment old mid new i place s are less fixes others len at shows =
    let here : untied_cell (cell_at new i) ≡ untied_cell (cell_at mid i) =
    ap (λ (γs : List Names). untied_cell (cell_at (record { cells = γs }) i)) fixes.cells
    ∙ ap untied_cell (get_or-set_same mid.cells i (fixed_cell (cell_at mid i) s) (record { value_name = 0; broken_name = 0; epoch = []; tied = None }) less) in
    record {
      len = len ∙ are.len;
      cells = λ q. dite (ℕ_discrete q i)
          (λ same. ap (λ (o : ℕ). untied_cell (cell_at new o)) same ∙ here ∙ ap (λ (o : ℕ). untied_cell (cell_at mid o)) (sym same) ∙ are.cells q)
          (λ other. ap untied_cell (others q other) ∙ are.cells q);
      rest = λ q past. others q (λ e. omega (arith, e, past)) ∙ are.rest q (omega (arith, past));
      fixed = λ q low. dite (ℕ_discrete q i)
          (λ same. subst (λ (o : ℕ). (t : Stage) × (stage_in (cell_at new o) ≡ Some t) × ShowsAt hand (place_in f segment o) (cell_stage t)) (sym same)
          (s, fixes.stage, subst (λ (p : ℕ). ShowsAt hand p (cell_stage s)) at shows))
          (λ other. let was = are.fixed q (omega (arith, low, other)) in (was.0, ap stage_in (others q other) ∙ was.1, was.2));
    }

-- what a read of a cell at a stage shows
pub read_shows : (old new : HandView) (told place : ℕ) (made : Option Made) (s : Stage) → ReadsBy told made old new → made ≡ Some (s, s) → told ≡ place
    → (new ≡ old) × ShowsAt old place (cell_stage s)
read_shows old new told place made s reads is at = subst (λ (u : ℕ × Option Made). ReadsBy u.0 u.1 old new) (λ i. (at i, is i)) reads

-- all cells are fixed
pub all_fixed : (hand : HandView) (f segment : ℕ) (old new : BlockView) (n : ℕ) → AreFixedUpTo hand f segment old new n → block_len old ≤ n → AreFixed old new
all_fixed hand f segment old new n are all = record {
  len = are.len;
  cells = are.cells;
  fixed = λ q low. let len = are.len in let was = are.fixed q (omega (arith, low, len, all)) in (was.0, was.1);
}

pub all_told : (hand : HandView) (f segment : ℕ) (old new : BlockView) (n : ℕ) → AreFixedUpTo hand f segment old new n → block_len old ≤ n → AreToldBy hand f segment new
all_told hand f segment old new n are all q s low at =
    let len = are.len in let was = are.fixed q (omega (arith, low, len, all)) in
    let both : Some was.0 ≡ Some s = sym was.1 ∙ at in let same : was.0 ≡ s = (let z = both in cc) in
    subst (λ (t : Stage). ShowsAt hand (place_in f segment q) (cell_stage t)) same was.2
