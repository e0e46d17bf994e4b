-- A segment of a list whose cells get seats: at which stages they are, and what is known of the list afterwards.
use Rattle.std.proofs.Common.{◌≡◌, ◌≢◌, ℕ, zero, suc, ◌+◌, ◌<◌, ◌≤◌, Bool, true, false, nat_lt, if◌then◌else◌, List, [], ◌∷◌, ◌++◌, length, Option, Some, None, refl, sym, ap, ◌∙◌, subst, ⊎_elim, arith}
use Rattle.std.proofs.lemmas.Bool.{cases_lt}
use Rattle.std.proofs.lemmas.Bool.Decides.{nat_tests}
use Rattle.std.specs.Prelude.{get_or, is_some, slice_get, slice_index, slice_set}
use base.Fml.{Lft}
use mathlib.Core.Logic.{dite}
use native.Mathlib.Decide.{ℕ_discrete}
use lib.Seq.{get_or-set_other}
use Rattle.seg_core.specs.Segment.{segment_start, segment_end}
use Rattle.tie_core.specs.Tie.{Tie, Stage, Idle, Filled, Broken}
use Rattle.tie_core.specs.Tags.{TagView}
use Rattle.claim_core.specs.Ties.{opened_stage, first_stages}
use Rattle.claim_core.specs.Laws.{FirstStagesGoInOrder}
use Rattle.claim_core.specs.Word.{WordView}
use Rattle.claim_core.specs.Gain.{EndsAt}
use Rattle.claim_core.specs.Hand.{HandView, IsWholeHand}
use Rattle.cell_core.specs.Block.{BlockView, IsMemberAt, block_len, cell_at}
use Rattle.cell_core.specs.Fixed.{stage_in, untied_cell}
use Rattle.cell_core.specs.Member.{MemberView, KnowsCells}
use Rattle.table_core.specs.Table.{TableView, KeyView, IsBlockOf, IsKeyOf, KeepsOtherBonds}
use Rattle.grow_core.specs.Keys.{KeyRow, key_at}
use Rattle.grow_core.specs.Opening.{IsOpening}
use Rattle.grow_core.specs.Parts.{AreBrokenIn, AreWhole, filled_in, member_stage, values_in}
use Rattle.grow_core.specs.Ties.{TagRow, IsTagOf}
use Rattle.grow_core.specs.Token.{place_in}
use Rattle.grow_core.proofs.Entered.{cleared_whole, next_start, renewed_whole, tied_more}
use Rattle.grow_core.proofs.Places.{broken_at, within_length}
use Rattle.grow_core.proofs.Settled.{member_at}

-- the stage of a place by the test whether it is below the base
stage_below : (base : ℕ) (filled : List Bool) (place : ℕ) (t : Bool) → nat_lt place base ≡ t → place < base
    → (if t then (if get_or filled place false then Filled else Broken) else Idle) ≡ (if get_or filled place false then Filled else Broken)
stage_below base filled place true is less = refl
stage_below base filled place false is less = absurd (grind (arith, nat_tests))

stage_past : (base : ℕ) (filled : List Bool) (place : ℕ) (t : Bool) → nat_lt place base ≡ t → base ≤ place
    → (if t then (if get_or filled place false then Filled else Broken) else Idle) ≡ Idle
stage_past base filled place true is past = absurd (grind (arith, nat_tests))
stage_past base filled place false is past = refl

-- which members have a value
filled_known : {T : Type 0} (known : List (MemberView T)) (place : ℕ) (m : MemberView T) → slice_get known place ≡ Some m → get_or (filled_in (values_in known)) place false ≡ is_some m.value
filled_known [] place m at = absurd (let z = at in cc)
filled_known {T} (h ∷ known) zero m at = let same : h ≡ m = (let z = at in cc) in ap (λ (u : MemberView T). is_some u.value) same
filled_known (h ∷ known) (suc place) m at = filled_known known place m at

-- a place at the stage of a broken one has a member without a value
no_value : {X : Type 0} (v : Option X) → (if is_some v then Filled else Broken) ≡ Broken → v ≡ None
no_value None is = refl
no_value (Some x) is = absurd (let z = is in cc)

broken_member : {T : Type 0} (known : List (MemberView T)) (epoch : Lft) (place : ℕ) (o : Option (MemberView T)) → slice_get known place ≡ o → AreBrokenIn epoch known → member_stage o ≡ Broken
    → (m : MemberView T) × (slice_get known place ≡ Some m) × (m.value ≡ None) × (m.epoch ≡ epoch)
broken_member known epoch place None at broken is = absurd (let z = is in cc)
broken_member known epoch place (Some m) at broken is =
    let none : m.value ≡ None = no_value m.value is in (m, at, none, broken_at epoch known place m broken at none)

-- nothing is known past the members
nothing_past : {X : Type 0} (o : Option X) → ((x : X) → o ≡ Some x → ⊥) → o ≡ None
nothing_past None not = refl
nothing_past (Some x) not = absurd (not x refl)

-- the first stage of a place is that of its member
pub stage_is : {T : Type 0} (known : List (MemberView T)) (base : ℕ) (filled : List Bool) (place : ℕ) → length known ≡ base → filled ≡ filled_in (values_in known)
    → member_stage (slice_get known place) ≡ opened_stage base filled place
stage_is {T} known base filled place all is = ⊎_elim
    (λ less.
    let m = member_at known place (omega (arith, less, all)) in
    let value : get_or filled place false ≡ is_some m.0.value = ap (λ (l : List Bool). get_or l place false) is ∙ filled_known known place m.0 m.1 in
    ap member_stage m.1 ∙ ap (λ (b : Bool). if b then Filled else Broken) (sym value) ∙ sym (stage_below base filled place (nat_lt place base) refl less))
    (λ past. ap member_stage (nothing_past (slice_get known place) (λ m at. let near = within_length known place m at in omega (arith, near, past, all)))
    ∙ sym (stage_past base filled place (nat_lt place base) refl past))
    (cases_lt place base)

-- ---- What a cell that gets a seat was fixed at

module _ {T : Type 0} (f : ℕ) (row : KeyRow) (known : List (MemberView T)) (count segment : ℕ) (key : KeyView) (at : key_at row segment ≡ Some key) (less : segment < count)
    (staged : (s offset : ℕ) (k : KeyView) → segment ≤ s → s < count → key_at row s ≡ Some k → offset < block_len k.block
    → stage_in (cell_at k.block offset) ≡ Some (member_stage (slice_get known (place_in f s offset)))) where
  -- it was fixed at the first stage of its place
  pub cells_fixed : FirstStagesGoInOrder → (base : ℕ) (filled : List Bool) (from n : ℕ) → length known ≡ base → filled ≡ filled_in (values_in known) → from ≡ segment_start f segment
      → n ≡ block_len key.block → (stages : List Stage) → stages ≡ first_stages base filled from n → length stages ≡ n
      → (i : ℕ) (s : Stage) → slice_get stages i ≡ Some s → stage_in (cell_at key.block i) ≡ Some s
  cells_fixed law base filled from n all is starts len stages are count_is i s got =
      let near = within_length stages i s got in let low : i < n = omega (arith, near, count_is) in
      let place : from + i ≡ place_in f segment i = omega (arith, starts) in
      let is_s : Some (opened_stage base filled (from + i)) ≡ Some s = sym (law base filled from n i low) ∙ ap (λ (l : List Stage). slice_get l i) (sym are) ∙ got in
      staged segment i key (omega arith) less at (omega (arith, low, len))
      ∙ ap Some (stage_is known base filled (place_in f segment i) all is ∙ ap (opened_stage base filled) (sym place)) ∙ is_s

-- a cell at the stage of a broken one has a member without a value, whose epoch has ended
pub cells_broken : {T : Type 0} → FirstStagesGoInOrder → (known : List (MemberView T)) (epoch : Lft) (base : ℕ) (filled : List Bool) (from n : ℕ) → AreBrokenIn epoch known → length known ≡ base
    → filled ≡ filled_in (values_in known) → (stages : List Stage) → stages ≡ first_stages base filled from n → length stages ≡ n
    → (i : ℕ) → slice_get stages i ≡ Some Broken → (m : MemberView T) × (slice_get known (from + i) ≡ Some m) × (m.value ≡ None) × (m.epoch ≡ epoch)
cells_broken {T} law known epoch base filled from n broken all is stages are count_is i got =
    let near = within_length stages i Broken got in let low : i < n = omega (arith, near, count_is) in
    let same : Some (opened_stage base filled (from + i)) ≡ Some Broken = sym (law base filled from n i low) ∙ ap (λ (l : List Stage). slice_get l i) (sym are) ∙ got in
    let stage : member_stage (slice_get known (from + i)) ≡ Broken = stage_is known base filled (from + i) all is ∙ (let z = same in cc) in
    broken_member known epoch (from + i) (slice_get known (from + i)) refl broken stage

-- what is known of the members is known of the cells of their segment
pub cells_known : {T : Type 0} (f : ℕ) (names : List ℕ) (row : KeyRow) (known : List (MemberView T)) (len limit count segment : ℕ) (key : KeyView) (block : BlockView) (from : ℕ) → AreWhole f names row known len limit count
    → segment < 40 → key_at row segment ≡ Some key → block ≡ key.block → from ≡ segment_start f segment → IsBlockOf f segment block → KnowsCells known from block.cells
cells_known {T} f names row known len limit count segment key block from whole small at same starts long i m low is =
    let place : from + i ≡ place_in f segment i = omega (arith, starts) in
    let member : IsMemberAt block i m = subst (λ (b : BlockView). IsMemberAt b i m) (sym same) (whole.of segment i key m small at (omega (arith, low, long)) (ap (slice_get known) (sym place) ∙ is)) in
    member.known

-- ---- One more entry is tied

module _ {T : Type 0} (word : WordView) (hand hand' : HandView) (table table' : TableView) (keys keys' : KeyRow) (known : List (MemberView T)) (count : ℕ) (cells : Tie) (tags tags' : TagRow) (segment from n : ℕ) (tag : TagView)
    (opening : IsOpening word hand table keys known count cells tags segment) (layout : table'.layout ≡ table.layout) (others : (j : ℕ) → j ≢ segment → slice_index table'.names j ≡ slice_index table.names j)
    (bonds : KeepsOtherBonds table table' segment) (starts : from ≡ segment_start table.layout segment) (long : segment_start table.layout segment + n ≡ segment_end table.layout segment)
    (ends : EndsAt (from + n) hand hand') (is_tag : IsTagOf word table' cells segment tag) (pushed : tags' ≡ tags ++ tag ∷ []) where
  laid_more : hand'.laid ≤ segment_start table'.layout (segment + 1)
  laid_more = let end = ends.laid in let next = next_start table.layout segment in let same = ap (λ (f : ℕ). segment_start f (segment + 1)) layout in omega (arith, end, starts, long, next, same)

  alone_more : IsWholeHand hand'
  alone_more = ends.shares ∙ opening.alone

  -- the other segments have their keys still
  staged_more : (k : Option KeyView) → keys' ≡ slice_set keys segment k → (s offset : ℕ) (key : KeyView) → segment + 1 ≤ s → s < count → key_at keys' s ≡ Some key → offset < block_len key.block
      → stage_in (cell_at key.block offset) ≡ Some (member_stage (slice_get known (place_in table'.layout s offset)))
  staged_more k set s offset key later less at low =
      let was : key_at keys s ≡ Some key = sym (ap (λ (r : KeyRow). key_at r s) set ∙ get_or-set_other keys segment s k None (λ e. omega (arith, e, later))) ∙ at in
      opening.staged s offset key (omega (arith, later)) less was low ∙ ap (λ (f : ℕ). Some (member_stage (slice_get known (place_in f s offset)))) (sym layout)

  -- that of a segment of the list
  pub segment_tied : (key key' : KeyView) (block : BlockView) → segment < count → key_at keys segment ≡ Some key → IsKeyOf table' segment block key' → block_len block ≡ block_len key.block
      → ((q : ℕ) → untied_cell (cell_at block q) ≡ untied_cell (cell_at key.block q)) → keys' ≡ slice_set keys segment (Some key') → IsOpening word hand' table' keys' known count cells tags' (segment + 1)
  segment_tied key key' block less at of len names set =
      let whole = opening.whole in let few = whole.few in let small = whole.layout.0 in record {
        whole = subst (λ (r : KeyRow). AreWhole table'.layout table'.names r known word.base word.limit count) (sym set)
            (renewed_whole table.layout table.names table' keys known segment word.base word.limit count key key' block whole layout (omega (arith, less, few, small)) (omega (arith, less, few)) at others of len names);
        filled = opening.filled;
        of = ends.of ∙ opening.of;
        alone = alone_more;
        laid = laid_more;
        staged = staged_more (Some key') set;
        none = λ s past low. absurd (omega (arith, past, low, less));
        tied = tied_more word table table' cells tags tags' segment tag opening.tied layout bonds pushed is_tag;
      }

  -- that of one that the list does not have
  pub entry_tied : count ≤ segment → keys' ≡ slice_set keys segment None → key_at keys' segment ≡ None → IsOpening word hand' table' keys' known count cells tags' (segment + 1)
  entry_tied past set gone =
      let gone' : key_at (slice_set keys segment None) segment ≡ None = ap (λ (r : KeyRow). key_at r segment) (sym set) ∙ gone in record {
        whole = subst (λ (u : ℕ × KeyRow). AreWhole u.0 table'.names u.1 known word.base word.limit count) (λ i. (sym layout i, sym set i))
            (cleared_whole table.layout table.names table'.names keys known word.base word.limit count segment opening.whole past others gone');
        filled = opening.filled;
        of = ends.of ∙ opening.of;
        alone = alone_more;
        laid = laid_more;
        staged = staged_more None set;
        none = λ s ge low. dite (ℕ_discrete s segment) (λ same. ap (key_at keys') same ∙ gone)
            (λ other. ap (λ (r : KeyRow). key_at r s) set ∙ get_or-set_other keys segment s None None other ∙ opening.none s ge (omega (arith, low, other)));
        tied = tied_more word table table' cells tags tags' segment tag opening.tied layout bonds pushed is_tag;
      }
