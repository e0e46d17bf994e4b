-- Cells that a close finds filled, and cells that are settled after others.
use Rattle.std.proofs.Common.{suc, ⊎_elim, ◌≡◌, ◌≢◌, ℕ, ◌+◌, ◌<◌, List, [], ◌∷◌, ◌++◌, length, length-append, append_assoc, Option, Some, None, refl, sym, ap, ◌∙◌, subst, arith}
use Rattle.std.proofs.lemmas.List.{append-nil}
use Rattle.std.specs.Prelude.{slice_get}
use base.Fml.{Lft}
use mathlib.Core.Logic.{dite}
use native.Mathlib.Decide.{ℕ_discrete}
use Rattle.cell_core.specs.Slot.{Names}
use Rattle.cell_core.specs.Block.{BlockView, PlacedView, AreAtFilled, AreFilledFrom, IsMemberAt, IsPlacedAt, cell_at}
use Rattle.cell_core.specs.Fixed.{stage_in}
use Rattle.cell_core.specs.Member.{MemberView, HasNames}
use Rattle.tie_core.specs.Tie.{Stage}
use Rattle.grow_core.specs.Parts.{AreBrokenIn, member_stage, values_in}
use Rattle.grow_core.specs.Closing.{AreSettled, KeepsKnown, KeepsKnownFrom}
use Rattle.grow_core.proofs.Filling.{slice_get-append}
use Rattle.grow_core.proofs.Places.{value_at, within_length, kept_at, broken_append}
use Rattle.grow_core.proofs.Staged.{staged_filled}

-- what is known of a cell with a value has the value's name
named_of : {T : Type 0} (γ : Names) (v : Option T) (name : ℕ) (epoch : Lft) → HasNames γ v name epoch → v ≢ None → name ≡ γ.value_name
named_of γ (Some x) name epoch known some = known
named_of γ None name epoch known some = absurd (some refl)

-- and so has a token of it
pub name_of_placed : {T : Type 0} (block : BlockView) (offset : ℕ) (m : MemberView T) (placed : PlacedView T) → IsMemberAt block offset m → m.value ≢ None
    → IsPlacedAt block offset placed → m.name ≡ placed.name
name_of_placed block offset m placed is some at =
    named_of (cell_at block offset) m.value m.name m.epoch is.known some ∙ ap (λ (o : ℕ). (cell_at block o).value_name) (sym at.at) ∙ sym at.of.named

-- what a token says is what is known of its cell
pub value_of_placed : {T : Type 0} (found : List (MemberView T)) (i : ℕ) (m : MemberView T) (x : T) → slice_get found i ≡ Some m
    → slice_get (values_in found) i ≡ Some (Some x) → m.value ≡ Some x
value_of_placed found i m x is there = let both : Some m.value ≡ Some (Some x) = sym (value_at found i m is) ∙ there in let z = both in cc

-- the value of the next place is known still
pub keeps_more : {T : Type 0} (opened : List (MemberView T)) (place : ℕ) (found : List (MemberView T)) (i : ℕ) (x : T)
    → ((j : ℕ) (k m : MemberView T) → j < i → slice_get opened (place + j) ≡ Some k → slice_get found j ≡ Some m → KeepsKnown k.value m.value)
    → ((k : MemberView T) → slice_get opened (place + i) ≡ Some k → KeepsKnown k.value (Some x)) → slice_get (values_in found) i ≡ Some (Some x)
    → (j : ℕ) (k m : MemberView T) → j < i + 1 → slice_get opened (place + j) ≡ Some k → slice_get found j ≡ Some m → KeepsKnown k.value m.value
keeps_more {T} opened place found i x before here there j k m less at got = dite (ℕ_discrete j i)
    (λ same. let value : m.value ≡ Some x = value_of_placed found i m x (ap (slice_get found) (sym same) ∙ got) there in
    subst (λ (v : Option T). KeepsKnown k.value v) (sym value) (here k (ap (λ (n : ℕ). slice_get opened (place + n)) (sym same) ∙ at)))
    (λ other. before j k m (omega (arith, less, other)) at got)

-- members that have values are not broken
none_broken : {T : Type 0} (epoch : Lft) (found : List (MemberView T)) → ((i : ℕ) (m : MemberView T) → slice_get found i ≡ Some m → m.value ≢ None) → AreBrokenIn epoch found
none_broken epoch [] some = tt
none_broken epoch (m ∷ found) some = (λ none. absurd (some 0 m refl none), none_broken epoch found (λ i k got. some (suc i) k got))

-- cells that were found filled are settled as they are
pub settled_found : {T : Type 0} (block : BlockView) (offset : ℕ) (opened : List (MemberView T)) (place : ℕ) (row row' found : List (MemberView T)) (epoch : Lft) (n : ℕ)
    → row' ≡ row ++ found → length found ≡ n → AreFilledFrom block offset found → AreAtFilled block offset n → KeepsKnownFrom opened place found
    → AreSettled block block offset opened place row row' epoch n
settled_found block offset opened place row row' found epoch n is all filled full keeps = record {
  settled = found;
  row = is;
  all = all;
  len = refl;
  members = λ i m got. (filled i m got).0;
  names = λ i m got. named_of (cell_at block (offset + i)) m.value m.name m.epoch (filled i m got).0.known (filled i m got).1;
  values = keeps;
  broken = none_broken epoch found (λ i m got. (filled i m got).1);
  stages = λ i m got s at. ((λ some. full i s (let near = within_length found i m got in omega (arith, near, all)) at), (λ is. (filled i m got).1));
  fixed = λ i m got s at. at ∙ ap (λ (t : Stage). Some t) (full i s (let near = within_length found i m got in omega (arith, near, all)) at ∙ sym (staged_filled m (filled i m got).1));
  before = λ q low. refl;
  after = λ q past. refl;
}

-- no cell is settled yet
pub settled_none : {T : Type 0} (block : BlockView) (offset : ℕ) (opened : List (MemberView T)) (place : ℕ) (row : List (MemberView T)) (epoch : Lft)
    → AreSettled block block offset opened place row row epoch 0
settled_none {T} block offset opened place row epoch =
    let gone : (i : ℕ) (m : MemberView T) → slice_get {X = MemberView T} [] i ≡ Some m → ⊥ = (λ i m is. let z = is in cc) in
    settled_found block offset opened place row row [] epoch 0 (sym (append-nil row)) refl (λ i m is. absurd (gone i m is)) (λ i s less at. absurd (omega (arith, less))) (λ i k m at is. absurd (gone i m is))

module _ {T : Type 0} (old mid : BlockView) (offset : ℕ) (opened : List (MemberView T)) (place : ℕ) (row row' : List (MemberView T)) (epoch : Lft) (n : ℕ)
    (run : AreSettled old mid offset opened place row row' epoch n) where
  -- what was known of a cell that is not settled yet is known still
  pub known_later : (i : ℕ) (m : MemberView T) → IsMemberAt old (offset + (n + i)) m → IsMemberAt mid (offset + n + i) m
  known_later i m was =
      let same : offset + (n + i) ≡ offset + n + i = omega arith in
      subst (λ (o : ℕ). IsMemberAt mid o m) same (kept_at old mid (offset + (n + i)) m run.len (run.after (offset + (n + i)) (omega arith)) was)

  -- the next k cells are settled too
  pub settled_on : (new : BlockView) (row'' : List (MemberView T)) (k : ℕ) → AreSettled mid new (offset + n) opened (place + n) row' row'' epoch k
      → AreSettled old new offset opened place row row'' epoch (n + k)
  settled_on new row'' k next =
      let long : length run.settled ≡ n = run.all in
      let cell : (i j : ℕ) → i ≡ length run.settled + j → offset + n + j ≡ offset + i = (λ i j e. omega (arith, e, long)) in
      let spot : (i j : ℕ) → i ≡ length run.settled + j → place + n + j ≡ place + i = (λ i j e. omega (arith, e, long)) in
      let near : (i : ℕ) (x : MemberView T) → slice_get run.settled i ≡ Some x → offset + i < offset + n = (λ i x got. let w = within_length run.settled i x got in omega (arith, w, long)) in
      record {
        settled = run.settled ++ next.settled;
        row = next.row ∙ ap (λ (xs : List (MemberView T)). xs ++ next.settled) run.row ∙ append_assoc row run.settled next.settled;
        all = let more : length next.settled ≡ k = next.all in let both = length-append run.settled next.settled in omega (arith, long, more, both);
        len = next.len ∙ run.len;
        members = λ i x got. ⊎_elim
            (λ (left : slice_get run.settled i ≡ Some x). kept_at mid new (offset + i) x next.len (next.before (offset + i) (near i x left)) (run.members i x left))
            (λ (right : (j : ℕ) × (i ≡ length run.settled + j) × (slice_get next.settled j ≡ Some x)). subst (λ (o : ℕ). IsMemberAt new o x) (cell i right.0 right.1) (next.members right.0 x right.2))
            (slice_get-append run.settled next.settled i x got);
        names = λ i x got. ⊎_elim
            (λ (left : slice_get run.settled i ≡ Some x). run.names i x left)
            (λ (right : (j : ℕ) × (i ≡ length run.settled + j) × (slice_get next.settled j ≡ Some x)). next.names right.0 x right.2
            ∙ ap (λ (c : Names). c.value_name) (run.after (offset + n + right.0) (omega arith)) ∙ ap (λ (o : ℕ). (cell_at old o).value_name) (cell i right.0 right.1))
            (slice_get-append run.settled next.settled i x got);
        values = λ i u x at got. ⊎_elim
            (λ (left : slice_get run.settled i ≡ Some x). run.values i u x at left)
            (λ (right : (j : ℕ) × (i ≡ length run.settled + j) × (slice_get next.settled j ≡ Some x)). next.values right.0 u x (ap (slice_get opened) (spot i right.0 right.1) ∙ at) right.2)
            (slice_get-append run.settled next.settled i x got);
        broken = broken_append epoch run.settled next.settled run.broken next.broken;
        stages = λ i x got s at. ⊎_elim
            (λ (left : slice_get run.settled i ≡ Some x). run.stages i x left s at)
            (λ (right : (j : ℕ) × (i ≡ length run.settled + j) × (slice_get next.settled j ≡ Some x)). next.stages right.0 x right.2 s
            (ap (λ (c : Names). stage_in c) (run.after (offset + n + right.0) (omega arith)) ∙ ap (λ (o : ℕ). stage_in (cell_at old o)) (cell i right.0 right.1) ∙ at))
            (slice_get-append run.settled next.settled i x got);
        fixed = λ i x got s at. ⊎_elim
            (λ (left : slice_get run.settled i ≡ Some x). ap stage_in (next.before (offset + i) (near i x left)) ∙ run.fixed i x left s at)
            (λ (right : (j : ℕ) × (i ≡ length run.settled + j) × (slice_get next.settled j ≡ Some x)).
            subst (λ (o : ℕ). stage_in (cell_at new o) ≡ Some (member_stage (Some x))) (cell i right.0 right.1)
            (next.fixed right.0 x right.2 s (ap (λ (c : Names). stage_in c) (run.after (offset + n + right.0) (omega arith)) ∙ (ap (λ (o : ℕ). stage_in (cell_at old o)) (cell i right.0 right.1) ∙ at))))
            (slice_get-append run.settled next.settled i x got);
        before = λ q low. next.before q (omega (arith, low)) ∙ run.before q low;
        after = λ q past. next.after q (omega (arith, past)) ∙ run.after q (omega (arith, past));
      }
