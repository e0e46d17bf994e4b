-- A set of keys with one more.
use Rattle.std.proofs.Common.{◌≡◌, ◌≢◌, ℕ, zero, suc, ◌+◌, ◌<◌, ◌≤◌, List, [], ◌∷◌, map, get_or, Some, refl, sym, ap, ◌∙◌, subst, IfSome, slice_index, slice_index_or, arith}
use denote.Param.Members.{Mut, Called}
use Rattle.core.specs.Array.{IsFromFnResultFrom}
use mathlib.Core.Logic.{dite}
use native.Mathlib.Decide.{ℕ_discrete}
use Rattle.std.specs.declared.option.Option.{Option}
use Rattle.std.specs.declared.option.Option.TheVariants.{None}
use Rattle.seg_core.specs.Segment.{most_segments}
use Rattle.cell_core.specs.Block.{BlockView}
use Rattle.table_core.specs.Entry.{Agrees}
use Rattle.table_core.specs.Table.{KeySetView, AddsKey, block_in, block_or_empty}
use Rattle.table_core.specs.Sights.{Sight, IsSameSight, sight_in}

-- the set of keys that sights are
abbrev pub set_of : ℕ → List Sight → KeySetView
set_of f sights = record { layout = f; names = map (λ (s : Sight). s.of) sights; blocks = map (λ (s : Sight). s.known) sights }

abbrev pub unseen : Sight
unseen = record { marker = record {}; of = 0; known = None }

-- what is seen of an element, also past the end of the list
map_at : {X Y : Type 0} (f : X → Y) (d : X) (xs : List X) (k : ℕ) → get_or (map f xs) k (f d) ≡ f (get_or xs k d)
map_at f d [] k = refl
map_at f d (x ∷ xs) zero = refl
map_at f d (x ∷ xs) (suc k) = map_at f d xs k

pub name_at : (f : ℕ) (sights : List Sight) (k : ℕ) → slice_index (set_of f sights).names k ≡ (sight_in sights k).of
name_at f sights k = map_at (λ (s : Sight). s.of) unseen sights k

pub block_at : (f : ℕ) (sights : List Sight) (k : ℕ) → block_in (set_of f sights) k ≡ (sight_in sights k).known
block_at f sights k = map_at (λ (s : Sight). s.known) unseen sights k

-- what each call says of its result holds of the element, if it keeps what it reads
pub made_at : {F B : Type 0} (g : Mut F (ℕ × Unit {0}) B) (Reads : F → Type 0) (P : ℕ → B → Type 0)
    → ((p q : F) (i : ℕ) (y : B) → Reads p → Called g p (i, tt) y q → P i y × Reads q)
    → (ys : List B) (f : F) (i n : ℕ) → Reads f → IsFromFnResultFrom g f ys i n → (k : ℕ) (d : B) → i ≤ k → k < i + n → P k (slice_index_or ys k d)
made_at g Reads P step ys f i zero reads made k d from less = absurd (omega arith)
made_at g Reads P step ys f i (suc n) reads made k d from less =
    let one = step f made.0 i made.1 reads made.3 in dite (ℕ_discrete k i)
    (λ same. subst (λ (j : ℕ). P j (slice_index_or ys j d)) (sym same) (subst (P i) (sym (made.2.1 d)) one.0))
    (λ other. made_at g Reads P step ys made.0 (i + 1) n one.1 made.4 k d (omega arith) (omega arith))

-- a block that is known is the one that is known of the same entry elsewhere
agreed : (a b : Option BlockView) (x y : BlockView) → IfSome a (Agrees b) → a ≡ Some x → b ≡ Some y → x ≡ y
agreed None b x y told is also = absurd (cc)
agreed (Some u) None x y told is also = absurd (cc)
agreed (Some u) (Some v) x y told is also = let p : u ≡ x = cc in let q : v ≡ y = cc in sym p ∙ sym told ∙ q

module _ (f : ℕ) (old new : List Sight) (layout segment : ℕ) (sight old_sight : Sight) (within : segment < most_segments)
    (named : slice_index (set_of f old).names segment ≡ sight.of)
    (here : IsSameSight (sight_in new segment) sight) (others : (k : ℕ) → k < most_segments → k ≢ segment → IsSameSight (sight_in new k) (sight_in old k))
    (was : IsSameSight old_sight (sight_in old segment)) (told : IfSome sight.known (Agrees old_sight.known)) (set : sight.known ≡ Some (block_or_empty sight.known)) where
  pub adds_key : AddsKey (set_of f old) (set_of f new) (record { layout = layout; segment = segment; block = block_or_empty sight.known; name = sight.of })
  adds_key = record {
    layout = refl;
    names = λ k less. name_at f new k ∙ dite (ℕ_discrete k segment)
        (λ same. let at : sight_in new k ≡ sight_in new segment = ap (sight_in new) same in ap (λ (s : Sight). s.of) at ∙ here.0 ∙ sym named ∙ ap (slice_index (set_of f old).names) (sym same))
        (λ other. (others k less other).0 ∙ sym (name_at f old k));
    has = block_at f new segment ∙ here.1 ∙ set;
    kept = λ k block less is. block_at f new k ∙ dite (ℕ_discrete k segment)
        (λ same.
        let at : sight_in new k ≡ sight_in new segment = ap (sight_in new) same in
        let had : old_sight.known ≡ Some block = was.1 ∙ ap (λ (j : ℕ). (sight_in old j).known) (sym same) ∙ sym (block_at f old k) ∙ is in
        let one : block_or_empty sight.known ≡ block = agreed sight.known old_sight.known (block_or_empty sight.known) block told set had in
        ap (λ (s : Sight). s.known) at ∙ here.1 ∙ set ∙ ap (λ b. Some b) one)
        (λ other. (others k less other).1 ∙ sym (block_at f old k) ∙ is);
  }
