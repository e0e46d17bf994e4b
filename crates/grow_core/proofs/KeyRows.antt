-- Each step keeps the fact that a hand has the keys of its own runs.
use Rattle.std.proofs.Common.{◌≡◌, ℕ, ◌+◌, ◌<◌, ◌≤◌, List, ◌++◌, Option, Some, None, sym, ap, ◌∙◌, subst, ⊎_elim, arith}
use Rattle.std.specs.Prelude.{IsSome}
use mathlib.Core.Logic.{dite}
use native.Mathlib.Decide.{ℕ_discrete}
use mathlib.Core.List.{IsPrefix}
use Rattle.seg_core.specs.Segment.{HasPlace}
use Rattle.seg_core.specs.Laws.{OneSegment}
use Rattle.claim_core.specs.declared.run.Run.{Run}
use Rattle.claim_core.specs.Word.{WordView}
use Rattle.claim_core.specs.Hand.{HandView, KeepsOwn, AddsRun, OwnsPlace, SeesOwn, IsPlaceOf}
use Rattle.claim_core.specs.Laws.{OwnPlacesStay, AddedPlacesAreOfTheRun, JoinedPlacesAreOfEither}
use Rattle.cell_core.specs.Member.{MemberView}
use Rattle.table_core.specs.Table.{TableView}
use Rattle.tie_core.specs.Tie.{Tie}
use Rattle.grow_core.specs.Ties.{TagRow}
use Rattle.grow_core.specs.Vector.{VectorView, IsShared, vector_of}
use Rattle.grow_core.specs.Keys.{KeyRow, AreKeys, KeepsKeys, HasKeysOfRun, IsKeyed, key_at, mark_of, layout_in}

module _ (old new : HandView) (row row' : KeyRow) (sees : SeesOwn old) (keyed : IsKeyed old row) (keys : AreKeys old.of.mark row') (kept : KeepsKeys row row') where
  -- the hand has seen more, and owns what it owned
  pub keyed_sees : OwnPlacesStay → KeepsOwn old new → IsPrefix old.seen new.seen → IsKeyed new row'
  keyed_sees law same more = record {
    keys = subst (λ (w : WordView). AreKeys w.mark row') (sym same.of) keys;
    own = λ place segment small own there. kept segment small
        (keyed.own place segment small (law old new place sees same more own) (subst (λ (w : WordView). HasPlace (layout_in w.mark) segment place) same.of there));
  }

  -- the hand has one more run, and the row has the keys of its segments
  pub keyed_adds : AddedPlacesAreOfTheRun → (run : Run) → AddsRun old new run → HasKeysOfRun (layout_in old.of.mark) row' run.from run.n → IsKeyed new row'
  keyed_adds law run adds run_keys = record {
    keys = subst (λ (w : WordView). AreKeys w.mark row') (sym adds.of) keys;
    own = λ place segment small own there.
        let there' = subst (λ (w : WordView). HasPlace (layout_in w.mark) segment place) adds.of there in
        ⊎_elim
        (λ (was : OwnsPlace old place). kept segment small (keyed.own place segment small was there'))
        (λ (is_place : IsPlaceOf run place). run_keys segment small (record { place = place; inside = is_place; there = there' }))
        (law old new run place sees adds own);
  }

-- the row has more keys
pub keyed_more : (hand : HandView) (row row' : KeyRow) → IsKeyed hand row → AreKeys hand.of.mark row'
    → KeepsKeys row row' → IsKeyed hand row'
keyed_more hand row row' keyed keys kept = record {
  keys = keys;
  own = λ place segment small own there. kept segment small (keyed.own place segment small own there);
}

-- two hands are one, and the row has the keys of both
pub keyed_joins : JoinedPlacesAreOfEither → (a b new : HandView) (row_a row_b row : KeyRow) → SeesOwn a → SeesOwn b
    → new.of ≡ a.of → new.of ≡ b.of
    → IsPrefix a.seen new.seen → IsPrefix b.seen new.seen → new.mine ≡ a.mine ++ b.mine → IsKeyed a row_a → IsKeyed b row_b
    → ((mark : List ℕ) → AreKeys mark row_a → AreKeys mark row_b → AreKeys mark row) → KeepsKeys row_a row → KeepsKeys row_b row → IsKeyed new row
keyed_joins law a b new row_a row_b row sees also_sees of also_of more also_more mine keyed also_keyed keys kept put = record {
  keys = keys new.of.mark (subst (λ (w : WordView). AreKeys w.mark row_a) (sym of) keyed.keys) (subst (λ (w : WordView). AreKeys w.mark row_b) (sym also_of) also_keyed.keys);
  own = λ place segment small own there.
      ⊎_elim
      (λ (was : OwnsPlace a place). kept segment small (keyed.own place segment small was (subst (λ (w : WordView). HasPlace (layout_in w.mark) segment place) of there)))
      (λ (was : OwnsPlace b place). put segment small (also_keyed.own place segment small was (subst (λ (w : WordView). HasPlace (layout_in w.mark) segment place) also_of there)))
      (law a b new place sees also_sees of also_of more also_more mine own);
}

-- the row lost no key, and has one for each segment below n that it should have one for
pub record Walked (P : ℕ → Type 0) (old now : KeyRow) (n : ℕ) : Type 0 where
  pub kept : KeepsKeys old now
  pub there : (segment : ℕ) → segment < n → P segment → IsSome (key_at now segment)

-- the same holds after a further segment
pub walked_on : {P : ℕ → Type 0} {old now next : KeyRow} {n : ℕ} → Walked P old now n → n < 40 → KeepsKeys now next
    → (P n → IsSome (key_at next n)) → Walked P old next (n + 1)
walked_on {P} {old} {now} {next} {n} walked small kept here = record {
  kept = λ segment lt was. kept segment lt (walked.kept segment lt was);
  there = λ segment lt p.
      dite (ℕ_discrete segment n)
      (λ same. subst (λ s. IsSome (key_at next s)) (sym same) (here (subst P same p)))
      (λ other. kept segment (omega arith) (walked.there segment (omega arith) p));
}

-- a run of one place touches the place's segment alone
pub keys_of_one : (f : ℕ) → OneSegment → (row : KeyRow) (segment place : ℕ) → HasPlace f segment place → IsSome (key_at row segment) → HasKeysOfRun f row place 1
keys_of_one f law row segment place here key = λ j small touches.
    let same : touches.place ≡ place = omega (arith, touches.inside) in
    let also_here : HasPlace f j place = subst (λ p. HasPlace f j p) same touches.there in
    subst (λ k. IsSome (key_at row k)) (law f segment j place here also_here) key

-- a row that has the keys of a run has those of its later places
pub keys_of_later : (f : ℕ) (row : KeyRow) (from n later m : ℕ) → from ≤ later → later + m ≤ from + n → HasKeysOfRun f row from n → HasKeysOfRun f row later m
keys_of_later f row from n later m above within has = λ segment small touches.
    let first = touches.inside.0 in
    let last = touches.inside.1 in
    has segment small (record { place = touches.place; inside = (omega (arith, above, first), omega (arith, within, last)); there = touches.there })

-- no key is some key
pub none_is_none : {X : Type 0} (o : Option X) → o ≡ None → IsSome o → ⊥
none_is_none None is some = absurd (cc some)
none_is_none (Some x) is some = absurd (cc is)

-- and they know its layout
pub hand_layout : {T : Type 0} {word : WordView} {segments : TableView} {keys : KeyRow} {known : List (MemberView T)} {count : ℕ} {cells : Tie} {tags : TagRow} {vector : VectorView T} (hand : HandView)
    → IsShared word segments keys known count cells tags → vector_of word segments known ≡ vector
    → hand.of ≡ vector.word → segments.layout ≡ layout_in hand.of.mark
hand_layout hand shared view_is ours =
    sym (ap layout_in shared.mark) ∙ (ap (λ (v : VectorView _). layout_in v.word.mark) view_is ∙ sym (ap (λ (w : WordView). layout_in w.mark) ours))

-- a vector's hands are marked with the layout and the names of its segments
pub mark_is : {T : Type 0} {word : WordView} {segments : TableView} {keys : KeyRow} {known : List (MemberView T)} {count : ℕ} {cells : Tie} {tags : TagRow} {vector : VectorView T} {claims hand : HandView}
    → IsShared word segments keys known count cells tags → vector_of word segments known ≡ vector
    → claims ≡ hand → hand.of ≡ vector.word → mark_of segments ≡ claims.of.mark
mark_is shared view_is hand_is ours =
    sym shared.mark ∙ (ap (λ (v : VectorView _). v.word.mark) view_is ∙ (sym (ap (λ (w : WordView). w.mark) ours) ∙ sym (ap (λ (h : HandView). h.of.mark) hand_is)))
