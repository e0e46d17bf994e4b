-- How the entries of a table are tied to a word, one after another.
use Rattle.std.proofs.Common.{⊎_elim, ◌≡◌, ◌≢◌, ℕ, suc, ◌+◌, ◌<◌, ◌≤◌, List, [], ◌∷◌, ◌++◌, length, length-append, length-set, Option, Some, None, refl, sym, ap, ◌∙◌, subst, arith}
use Rattle.std.proofs.lemmas.Bool.{cases_lt}
use Rattle.std.specs.Prelude.{slice_get, slice_index, slice_set, IsSome}
use lib.Seq.{get_or-set_other}
use mathlib.Core.Logic.{dite}
use native.Mathlib.Decide.{ℕ_discrete}
use Rattle.seg_core.specs.Segment.{segment_start, segment_end, segment_count}
use Rattle.tie_core.specs.Tie.{Tie}
use Rattle.tie_core.specs.Tags.{TagView}
use Rattle.claim_core.specs.Shares.{all_shares}
use Rattle.claim_core.specs.Word.{WordView}
use Rattle.claim_core.specs.Gain.{EndsAt, IsTiedTo}
use Rattle.claim_core.specs.Hand.{HandView, IsNewHand}
use Rattle.cell_core.specs.Fixed.{untied_cell}
use Rattle.cell_core.specs.Block.{BlockView, block_len, cell_at}
use Rattle.cell_core.specs.Member.{MemberView}
use Rattle.table_core.specs.Table.{TableView, KeyView, IsKeyOf, IsLengthOf, KeepsOtherBonds}
use Rattle.table_core.specs.Entry.{mould_in, tie_in}
use Rattle.grow_core.specs.Keys.{KeyRow, key_at}
use Rattle.grow_core.specs.Parts.{AreWhole}
use Rattle.grow_core.specs.Ties.{TagRow, AreTiedBelow, IsTagOf}
use Rattle.grow_core.proofs.Places.{pushed_there, pushed_elsewhere, within_length, written_cells}
use Rattle.grow_core.proofs.Settled.{segment_ends_later}

-- a tag of another entry is one still
tag_still : (word : WordView) (old new : TableView) (cells : Tie) (k j : ℕ) (tag : TagView) → new.layout ≡ old.layout → KeepsOtherBonds old new k → j ≢ k
    → IsTagOf word old cells j tag → IsTagOf word new cells j tag
tag_still word old new cells k j tag layout bonds other is = record {
  by = record {
    tie = ap tie_in (bonds j other) ∙ is.by.tie;
    mould = λ n long. ap mould_in (bonds j other) ∙ is.by.mould n (subst (λ (f : ℕ). IsLengthOf f j n) layout long);
  };
  of = is.of;
  from = is.from ∙ ap (λ (f : ℕ). segment_start f j) (sym layout);
  n = subst (λ (f : ℕ). IsLengthOf f j tag.n) (sym layout) is.n;
}

-- a segment ends where the next one begins
pub next_start : (f k : ℕ) → segment_start f (k + 1) ≡ segment_end f k
next_start f k = ap (segment_start f) (let e : k + 1 ≡ suc k = omega arith in e)

-- the next entry is tied
pub tied_more : (word : WordView) (table table' : TableView) (cells : Tie) (tags tags' : TagRow) (segment : ℕ) (tag : TagView) → AreTiedBelow word table cells tags segment
    → table'.layout ≡ table.layout → KeepsOtherBonds table table' segment → tags' ≡ tags ++ tag ∷ [] → IsTagOf word table' cells segment tag
    → AreTiedBelow word table' cells tags' (segment + 1)
tied_more word table table' cells tags tags' segment tag are layout bonds pushed here = record {
  cells_of = are.cells_of;
  all = ap length pushed ∙ length-append tags (tag ∷ []) ∙ (let all = are.all in omega (arith, all));
  each = λ k t got. dite (ℕ_discrete k (length tags))
      (λ same. let both : Some tag ≡ Some t = sym (pushed_there tags tag) ∙ ap (slice_get (tags ++ tag ∷ [])) (sym same) ∙ ap (λ (ts : TagRow). slice_get ts k) (sym pushed) ∙ got in
      let is : tag ≡ t = (let z = both in cc) in let spot : segment ≡ k = sym (same ∙ are.all) in
      subst (λ (u : ℕ × TagView). IsTagOf word table' cells u.0 u.1) (λ j. (spot j, is j)) here)
      (λ other. let was_at : slice_get tags k ≡ Some t = sym (pushed_elsewhere tags tag k other) ∙ ap (λ (ts : TagRow). slice_get ts k) (sym pushed) ∙ got in
      tag_still word table table' cells segment k t layout bonds (λ e. other (e ∙ sym are.all)) (are.each k t was_at));
}

-- no entry is tied yet
pub none_tied : (word : WordView) (table : TableView) (cells : Tie) (tags : TagRow) → IsTiedTo word cells → tags ≡ [] → AreTiedBelow word table cells tags 0
none_tied word table cells tags of empty = record {
  cells_of = of;
  all = ap length empty;
  each = λ k t got. absurd (let near = within_length tags k t got in let no = ap length empty in omega (arith, near, no));
}

-- of a hand that makes an entry only where the entries end has changed
pub ends_later : (was now : HandView) (end : ℕ) → EndsAt end was now → now ≡ record was { laid = now.laid }
ends_later was now end ends = λ i. record { of = ends.of i; seen = ends.seen i; mine = ends.mine i; shares = ends.shares i; log = ends.log i; begun = ends.begun i; rows = ends.rows i; laid = now.laid }

pub later_still : (a b c : HandView) → b ≡ record a { laid = b.laid } → c ≡ record b { laid = c.laid } → c ≡ record a { laid = c.laid }
later_still a b c first next = next ∙ ap (λ (h : HandView). record h { laid = c.laid }) first

-- a new hand is new still
pub new_still : (word : WordView) (was now : HandView) → now ≡ record was { laid = now.laid } → IsNewHand word was → IsNewHand word now
new_still word was now same is = same ∙ ap (λ (h : HandView). record h { laid = now.laid }) is

-- the entry of a segment that the list does not have is made anew
pub cleared_whole : {T : Type 0} (f : ℕ) (names names' : List ℕ) (row : KeyRow) (known : List (MemberView T)) (len limit count segment : ℕ) → AreWhole f names row known len limit count
    → count ≤ segment → ((j : ℕ) → j ≢ segment → slice_index names' j ≡ slice_index names j) → key_at (slice_set row segment None) segment ≡ None
    → AreWhole f names' (slice_set row segment None) known len limit count
cleared_whole {T} f names names' row known len limit count segment whole past others gone =
    let row' : KeyRow = slice_set row segment None in
    let away : (k : ℕ) → k ≢ segment → key_at row' k ≡ key_at row k = (λ k other. get_or-set_other row segment k None None other) in
    let another : (k : ℕ) (key : KeyView) → key_at row' k ≡ Some key → k ≢ segment = (λ k key at same. let both : None ≡ Some key = sym (ap (key_at row') same ∙ gone) ∙ at in let z = both in cc) in
    let was : (k : ℕ) (key : KeyView) → key_at row' k ≡ Some key → key_at row k ≡ Some key = (λ k key at. sym (away k (another k key at)) ∙ at) in
    record {
      layout = whole.layout;
      limited = whole.limited;
      within = whole.within;
      all = whole.all;
      rows = length-set row segment None ∙ whole.rows;
      few = whole.few;
      inside = whole.inside;
      named = λ k key low at. let is = whole.named k key low (was k key at) in
          record { layout = is.layout; at = is.at; within = is.within; named = others k (another k key at) ∙ is.named };
      long = λ k key low at. whole.long k key low (was k key at);
      there = λ k low. subst IsSome (sym (away k (λ e. omega (arith, e, low, past)))) (whole.there k low);
      of = λ k offset key m low at inside is. whole.of k offset key m low (was k key at) inside is;
    }

-- the entry of a segment that the list has is made anew, with a block whose cells differ in their ties alone
pub renewed_whole : {T : Type 0} (f : ℕ) (names : List ℕ) (table' : TableView) (row : KeyRow) (known : List (MemberView T)) (segment len limit count : ℕ) (key key' : KeyView) (block : BlockView)
    → AreWhole f names row known len limit count → table'.layout ≡ f → segment < 40 → segment < segment_count f
    → key_at row segment ≡ Some key → ((j : ℕ) → j ≢ segment → slice_index table'.names j ≡ slice_index names j) → IsKeyOf table' segment block key'
    → block_len block ≡ block_len key.block → ((q : ℕ) → untied_cell (cell_at block q) ≡ untied_cell (cell_at key.block q))
    → AreWhole table'.layout table'.names (slice_set row segment (Some key')) known len limit count
renewed_whole f names table' row known segment len limit count key key' block whole same_layout small few has others of same_len cells =
    written_cells f names table' row known known segment 0 0 len len limit count key key' block whole same_layout small few (let more = segment_ends_later f segment in omega (arith, more)) has others of same_len
    (λ q low. absurd (omega (arith, low))) (λ q past. cells q) (λ q low. refl) (λ q past. refl) (λ i m low is. absurd (omega (arith, low))) whole.all whole.within whole.inside

-- a word with another mark has the same table
pub remarked : (word word' : WordView) (mark : List ℕ) (table : TableView) (cells : Tie) (tags : TagRow) (n : ℕ) → word' ≡ record word { mark = mark }
    → AreTiedBelow word table cells tags n → AreTiedBelow word' table cells tags n
remarked word word' mark table cells tags n same are = subst (λ (w : WordView). AreTiedBelow w table cells tags n) (sym same) (record {
  cells_of = are.cells_of;
  all = are.all;
  each = λ i tag at. let is = are.each i tag at in record { by = is.by; of = is.of; from = is.from; n = is.n };
})

-- and its hand is new still
pub remarked_hand : (word word' : WordView) (hand hand' : HandView) → hand' ≡ record hand { of = word' } → IsNewHand word hand → IsNewHand word' hand'
remarked_hand word word' hand hand' same is = same ∙ ap (λ (h : HandView). record h { of = word' }) is ∙ ap (λ (n : ℕ). record { of = word'; seen = []; mine = []; shares = all_shares; log = []; begun = []; rows = []; laid = n })
    (ap (λ (h : HandView). h.laid) (sym same))

none_out : (o : Option KeyView) (k n : ℕ) → n ≤ k → ((key : KeyView) → o ≡ Some key → k < n) → o ≡ None
none_out None k n past within = refl
none_out (Some key) k n past within = absurd (let low = within key refl in omega (arith, past, low))

-- the row has no key of a later segment
pub none_after : {T : Type 0} (f : ℕ) (names : List ℕ) (row : KeyRow) (known : List (MemberView T)) (len limit count : ℕ) → AreWhole f names row known len limit count
    → ((k : ℕ) → count ≤ k → k < segment_count f → key_at row k ≡ None) → (k : ℕ) → k < 40 → count ≤ k → key_at row k ≡ None
none_after f names row known len limit count whole none k low ge = ⊎_elim (λ inner. none k ge inner)
    (λ outer. none_out (key_at row k) k (segment_count f) outer (λ key at. let is = whole.named k key low at in is.within))
    (cases_lt k (segment_count f))
