-- Cells that are known to have values, as a list of these.
use Rattle.std.proofs.Common.{◌≡◌, ◌≢◌, ℕ, zero, suc, ◌+◌, ◌≤◌, List, [], ◌∷◌, ◌++◌, length, map, Option, Some, None, refl, sym, ap, ap₂, ◌∙◌, subst, arith}
use Rattle.std.specs.Prelude.{slice_get}
use Rattle.cell_core.specs.Slot.{Names, cell_in}
use Rattle.cell_core.specs.Member.{MemberView, HasNames, HaveValues}
use Rattle.cell_core.specs.Block.{BlockView, cell_at, IsMemberAt, AreFilledFrom}
use Rattle.cell_core.specs.Run.{cells_from, members_of}

-- each cell from an index on has a value, by what is known of it
abbrev pub EachHasOne : {T : Type 0} → List Names → ℕ → List (MemberView T) → Type 0
EachHasOne {T} γs j ms =
    (i : ℕ) (m : MemberView T) → slice_get ms i ≡ Some m → HasNames (cell_in γs (j + i)) m.value m.name m.epoch × (m.value ≢ None)

value_of : {T : Type 0} (v : Option T) → v ≢ None → (x : T) × (v ≡ Some x)
value_of (Some x) some = (x, refl)
value_of None some = absurd (some refl)

pub values_of : {T : Type 0} (γs : List Names) (j : ℕ) (ms : List (MemberView T)) → EachHasOne γs j ms
    → (xs : List T) × (length xs ≡ length ms) × HaveValues γs j ms xs
values_of γs j [] each = ([], refl, tt)
values_of {T} γs j (m ∷ ms) each =
    let first = each 0 m refl in let got = value_of m.value first.1 in let here : j + 0 ≡ j = omega arith in
    let named = subst (λ (v : Option T). HasNames (cell_in γs (j + 0)) v m.name m.epoch) got.1 first.0 in
    let rest = values_of γs (suc j) ms (λ i k h. let later : suc j + i ≡ j + suc i = omega arith in let it = each (suc i) k h in
    (subst (λ (l : ℕ). HasNames (cell_in γs l) k.value k.name k.epoch) (sym later) it.0, it.1)) in
    (got.0 ∷ rest.0, ap (λ (l : ℕ). suc l) rest.1, (got.1, named ∙ ap (λ (l : ℕ). (cell_in γs l).value_name) here, rest.2))

pub values_are : {T : Type 0} (γs : List Names) (j : ℕ) (ms : List (MemberView T)) (xs : List T) → HaveValues γs j ms xs → map Some xs ≡ map (λ m. m.value) ms
values_are γs j [] [] is = refl
values_are γs j [] (x ∷ xs) is = absurd is
values_are γs j (m ∷ ms) [] is = absurd is
values_are γs j (m ∷ ms) (x ∷ xs) is = ap₂ (λ v vs. v ∷ vs) (sym is.0) (values_are γs (suc j) ms xs is.2)

-- there is a member for each value
pub members_count : {T : Type 0} (γs : List Names) (xs : List T) → length xs ≤ length γs → length (members_of γs xs) ≡ length xs
members_count [] [] le = refl
members_count [] (x ∷ xs) le = absurd (omega arith)
members_count (γ ∷ γs) [] le = refl
members_count (γ ∷ γs) (x ∷ xs) le = ap (λ (l : ℕ). suc l) (members_count γs xs (omega arith))

-- a member of the cell at an offset that has a value
abbrev IsFilledAt : {T : Type 0} → BlockView → ℕ → MemberView T → Type 0
IsFilledAt block offset m = IsMemberAt block offset m × (m.value ≢ None)

moved : {T : Type 0} (block : BlockView) (j k : ℕ) (m : MemberView T) → j ≡ k → IsFilledAt block j m → IsFilledAt block k m
moved block j k m same it = subst (λ (l : ℕ). IsFilledAt block l m) same it

-- what is known of cells that have values
pub are_filled : {T : Type 0} (block : BlockView) (n j : ℕ) (xs : List T) → j + n ≤ length block.cells → AreFilledFrom block j (members_of (cells_from n j block.cells) xs)
are_filled block zero j xs near i m is = absurd (let z = is in cc)
are_filled block (suc n) j [] near i m is = absurd (let z = is in cc)
are_filled {T} block (suc n) j (x ∷ xs) near zero m is =
    let first : MemberView T = record { value = Some x; name = (cell_at block j).value_name; epoch = [] } in let same : first ≡ m = (let z = is in cc) in
    subst (λ (u : MemberView T). IsFilledAt block (j + 0) u) same
    (moved block j (j + 0) first (omega arith) (record { within = omega arith; known = refl }, λ e. (let z = e in cc)))
are_filled block (suc n) j (x ∷ xs) near (suc i) m is = moved block (suc j + i) (j + suc i) m (omega arith) (are_filled block n (suc j) xs (omega arith) i m is)

-- two rows as one, if the second goes on where the first ends
filled_join : {T : Type 0} (block : BlockView) (j : ℕ) (ms ns : List (MemberView T)) → AreFilledFrom block j ms → AreFilledFrom block (j + length ms) ns
    → AreFilledFrom block j (ms ++ ns)
filled_join block j [] ns first next i m is = moved block (j + 0 + i) (j + i) m (omega arith) (next i m is)
filled_join block j (h ∷ ms) ns first next zero m is = first zero m is
filled_join block j (h ∷ ms) ns first next (suc i) m is = moved block (suc j + i) (j + suc i) m (omega arith)
    (filled_join block (suc j) ms ns (λ k u at. moved block (j + suc k) (suc j + k) u (omega arith) (first (suc k) u at))
    (λ k u at. moved block (j + length (h ∷ ms) + k) (suc j + length ms + k) u (omega arith) (next k u at)) i m is)

pub filled_more : {T : Type 0} (block : BlockView) (j k : ℕ) (ms ns all : List (MemberView T)) → length ms ≡ k → all ≡ ms ++ ns
    → AreFilledFrom block j ms → AreFilledFrom block (j + k) ns → AreFilledFrom block j all
filled_more {T} block j k ms ns all long is first next = subst (λ (us : List (MemberView T)). AreFilledFrom block j us) (sym is)
    (filled_join block j ms ns first (subst (λ (l : ℕ). AreFilledFrom block (j + l) ns) (sym long) next))

-- what is known of a cell with a value has the value's name
pub name_of : {T : Type 0} (γ : Names) (m : MemberView T) (x : T) → HasNames γ m.value m.name m.epoch → Some x ≡ m.value → m.name ≡ γ.value_name
name_of {T} γ m x known is = subst (λ (v : Option T). HasNames γ v m.name m.epoch) (sym is) known

-- the value of the member at an index
pub value_at : {T : Type 0} (ms : List (MemberView T)) (i : ℕ) (m : MemberView T) → slice_get ms i ≡ Some m → slice_get (map (λ u. u.value) ms) i ≡ Some m.value
value_at [] i m is = absurd (let z = is in cc)
value_at {T} (h ∷ ms) zero m is = let same : h ≡ m = (let z = is in cc) in ap (λ (u : MemberView T). Some u.value) same
value_at (h ∷ ms) (suc i) m is = value_at ms i m is
