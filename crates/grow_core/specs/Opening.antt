-- A list that is being opened into a vector: its segments are tied to the vector's word, one after another.
use Rattle.std.specs.Prelude.{◌≡◌, ℕ, ◌<◌, ◌≤◌, List, Some, None, slice_get}
use Rattle.seg_core.specs.Segment.{segment_start}
use Rattle.tie_core.specs.Tie.{Tie}
use Rattle.claim_core.specs.Word.{WordView}
use Rattle.claim_core.specs.Hand.{HandView, IsWholeHand}
use Rattle.cell_core.specs.Block.{block_len, cell_at}
use Rattle.cell_core.specs.Fixed.{stage_in}
use Rattle.cell_core.specs.Member.{MemberView}
use Rattle.table_core.specs.Table.{TableView, KeyView}
use Rattle.grow_core.specs.Keys.{KeyRow, key_at}
use Rattle.grow_core.specs.Parts.{AreWhole, filled_in, member_stage, values_in}
use Rattle.grow_core.specs.Ties.{TagRow, AreTiedBelow}
use Rattle.grow_core.specs.Token.{place_in}

-- The first `next` entries are tied to the word, whose history begins with the list, and the cells of the list's other
-- segments are fixed at the stages of the members still. The hand has all shares, and knows that no place from the next
-- segment on has an entry
pub record IsOpening {T : Type 0} (word : WordView) (hand : HandView) (segments : TableView) (keys : KeyRow)
    (known : List (MemberView T)) (count : ℕ) (cells : Tie) (tags : TagRow) (next : ℕ) : Type 0 where
  pub whole : AreWhole segments.layout segments.names keys known word.base word.limit count
  pub filled : word.filled ≡ filled_in (values_in known)
  pub of : hand.of ≡ word
  pub alone : IsWholeHand hand
  pub laid : hand.laid ≤ segment_start segments.layout next
  pub staged : (segment offset : ℕ) (key : KeyView) → next ≤ segment → segment < count → key_at keys segment ≡ Some key
      → offset < block_len key.block
      → stage_in (cell_at key.block offset) ≡ Some (member_stage (slice_get known (place_in segments.layout segment offset)))
  pub none : (segment : ℕ) → count ≤ segment → segment < next → key_at keys segment ≡ None
  pub tied : AreTiedBelow word segments cells tags next
