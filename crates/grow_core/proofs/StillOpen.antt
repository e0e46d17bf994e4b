-- A vector that is being closed, whose word is open still.
use Rattle.std.proofs.Common.{◌≡◌, ℕ, ◌<◌, ◌≤◌, List, [], length, sym, ap, ◌∙◌, subst, arith}
use Rattle.seg_core.specs.Segment.{segment_count}
use Rattle.tie_core.specs.Tie.{Tie}
use Rattle.claim_core.specs.Word.{WordView}
use Rattle.claim_core.specs.Hand.{HandView, IsWholeHand, seen_size}
use Rattle.claim_core.specs.History.{IsHistoryOf}
use Rattle.cell_core.specs.Block.{BlockView, block_len}
use Rattle.cell_core.specs.Member.{MemberView}
use Rattle.table_core.specs.Table.{TableView, IsTiedBlockOf}
use Rattle.grow_core.specs.Keys.{KeyRow, key_at, layout_in}
use Rattle.grow_core.specs.Parts.{values_in}
use Rattle.grow_core.specs.Closing.{AreKnown, IsListSoFar, IsStillOpen, IsTiedByCells}
use Rattle.grow_core.specs.Ties.{TagRow, AreTiedTo}
use Rattle.grow_core.specs.Vector.{IsShared}
use Rattle.grow_core.proofs.Settled.{member_at}

-- a block that is tied as its entry says is tied by the codes that the tags tell of
tied_by : (word : WordView) (segments : TableView) (cells : Tie) (tags : TagRow) (segment : ℕ) (block : BlockView) → AreTiedTo word segments cells tags
    → segment < segment_count segments.layout → IsTiedBlockOf segments segment block → IsTiedByCells cells block
tied_by word segments cells tags segment block are within by =
    let all = are.all in let tag = member_at tags segment (omega (arith, all, within)) in
    by.mould ∙ (are.each segment tag.0 tag.1).by.mould (block_len block) by.length

-- the state when a vector begins to be closed
pub still_starts : {T : Type 0} (word : WordView) (segments : TableView) (keys : KeyRow) (known : List (MemberView T)) (count : ℕ) (cells : Tie) (tags : TagRow)
    (hand : HandView) (row again : KeyRow) (n size : ℕ) (none : List (MemberView T)) → IsShared word segments keys known count cells tags
    → hand.of ≡ word → IsWholeHand hand → size ≡ seen_size hand → IsHistoryOf hand.of.limit hand.of.base hand.of.filled hand.log → AreKnown segments hand row
    → ((s : ℕ) → s < 40 → key_at again s ≡ key_at row s) → n ≤ segment_count segments.layout → none ≡ []
    → IsStillOpen word hand cells segments.layout 0 n size again none
still_starts {T} word segments keys known count cells tags hand row again n size none own of whole sized history knows twice few empty =
    let small = own.whole.layout.0 in
    record {
      of = of;
      mark = ap (λ (w : WordView). layout_in w.mark) of ∙ ap layout_in own.mark;
      whole = whole;
      sized = sized;
      tied = own.tied.cells_of;
      open_still = λ segment key from low at.
          let is = knows segment key (omega (arith, low, few, small)) (sym (twice segment (omega (arith, low, few, small))) ∙ at) in
          (tied_by word segments cells tags segment key.block own.tied (omega (arith, low, few)) is.0, is.1);
      closed = λ s o key low at inside. absurd (omega (arith, low));
      at = λ below. ap length empty;
      past = omega (arith, ap length empty);
      list = subst (λ (w : WordView). IsListSoFar w hand.log (values_in none)) of (record {
        list = history.legal.0;
        history = history.legal.1;
        each = λ place below. absurd (let no = ap (λ (ms : List (MemberView T)). length (values_in ms)) empty in omega (arith, no, below));
      });
    }
