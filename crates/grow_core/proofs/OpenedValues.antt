-- Values of places next to each other, those that are the opened list's, and the steps of a walk over them.
use Rattle.std.proofs.Common.{◌≡◌, ◌≢◌, ℕ, zero, suc, ◌+◌, ◌<◌, ◌≤◌, List, [], ◌∷◌, length, map, Option, Some, None, sym, ap, ◌∙◌, subst, arith}
use Rattle.std.specs.Prelude.{slice_get}
use Rattle.std.specs.Borrow.{Bor}
use Rattle.std.specs.Option.{option_copied}
use Rattle.cell_core.specs.Block as block
use Rattle.cell_core.specs.Block.{BlockView, IsPlacedIn, IsMemberAt, AreFilledFrom, cell_at}
use Rattle.cell_core.specs.Member.{MemberView, HasNames}
use Rattle.grow_core.specs.Vector.{VectorView, IsOpenedAt}
use Rattle.grow_core.specs.Published.{PublishedView, StepsOver}
use Rattle.grow_core.specs.ShownCells.{HoldOpened}
use Rattle.grow_core.proofs.Places.{within_length}

-- the one at a place
pub hold_at : {T : Type 0} (vector : VectorView T) (from i place : ℕ) (values : List T) (x : T) → place ≡ from + i → slice_get values i ≡ Some x → HoldOpened vector from values
    → (y : T) → IsOpenedAt vector place y → Some x ≡ Some y
hold_at vector from i place values x here got hold y there =
    sym got ∙ hold i y (within_length values i x got) (subst (λ (p : ℕ). IsOpenedAt vector p y) here there)

-- no value is left
pub hold_none : {T : Type 0} (vector : VectorView T) (place : ℕ) (all : List T) → length all ≡ 0 → HoldOpened vector place all
hold_none vector place all none i y less there = absurd (omega (arith, none, less))

-- the only one, which is the one that the opened list has there
pub hold_one : {T : Type 0} (vector : VectorView T) (place : ℕ) (values : List T) → length values ≤ 1 → ((x : T) → IsOpenedAt vector place x → values ≡ x ∷ []) → HoldOpened vector place values
hold_one {T} vector place values few is i y less there =
    let first : i ≡ 0 = omega (arith, few, less) in let here : place + i ≡ place = omega (arith, first) in
    ap (λ (l : List T). slice_get l i) (is y (subst (λ (p : ℕ). IsOpenedAt vector p y) here there)) ∙ ap (slice_get (y ∷ [])) first

-- a value that a cell's token shows
pub one_filled : {T : Type 0} (cells : BlockView) (placed : block.PlacedView T) (m : MemberView T) → IsPlacedIn cells placed → m.value ≡ Some placed.value → m.name ≡ placed.name
    → AreFilledFrom cells placed.offset (m ∷ [])
one_filled {T} cells placed m of value name zero k got =
    let same : m ≡ k = cc in let here : placed.offset ≡ placed.offset + 0 = omega arith in
    let known : HasNames (cell_at cells placed.offset) (Some placed.value) m.name m.epoch = name ∙ of.named in
    let member : IsMemberAt cells placed.offset m = record { within = of.within; known = subst (λ (v : Option T). HasNames (cell_at cells placed.offset) v m.name m.epoch) (sym value) known } in
    let some : m.value ≢ None = (λ none. absurd (let no : Some placed.value ≡ None = sym value ∙ none in cc)) in
    (subst (λ (o : ℕ). IsMemberAt cells o k) here (subst (λ (u : MemberView T). IsMemberAt cells placed.offset u) same member), subst (λ (u : MemberView T). u.value ≢ None) same some)
one_filled cells placed m of value name (suc i) k got = absurd (let z = got in cc)

-- a list of one value
pub one_value : {T : Type 0} (values : List T) (x : T) → map Some values ≡ Some x ∷ [] → values ≡ x ∷ []
one_value [] x is = absurd (let z = is in cc)
one_value (y ∷ []) x is = let same : y ≡ x = (let z = is in cc) in ap (λ v. v ∷ []) same
one_value (y ∷ z ∷ more) x is = absurd (let l = ap length is in omega (arith, l))

-- a walk goes on by one place, which shows a value of the opened list
pub steps_over : {T : Type 0} (old : PublishedView T) (vector : VectorView T) (place next end : ℕ) → record { vector = vector; place = place; end = end } ≡ old
    → place < end → next ≡ place + 1 → (item : Option (Bor T)) → ((y : T) → IsOpenedAt vector place y → option_copied item ≡ Some y)
    → StepsOver old item (record { vector = vector; place = next; end = end })
steps_over {T} old vector place next end is near after item shows =
    let at : ℕ → PublishedView T = λ (n : ℕ). record { vector = vector; place = n; end = end } in
    let here = ap (λ (p : PublishedView T). p.place) is in let stop = ap (λ (p : PublishedView T). p.end) is in (
      omega (arith, near, here, stop),
      ap at after ∙ ap (λ (p : PublishedView T). record p { place = p.place + 1 }) is,
      λ y there. shows y (subst (λ (p : PublishedView T). IsOpenedAt p.vector p.place y) (sym is) there),
    )
