-- The members and the tokens of a stretch.
use Rattle.std.proofs.Common.{◌≡◌, ◌≢◌, ℕ, zero, suc, ◌+◌, ◌<◌, ◌≤◌, List, [], ◌∷◌, ◌++◌, length, map, take, Option, Some, None, refl, sym, ap, ◌∙◌, subst, arith}
use Rattle.std.specs.Prelude.{slice_get}
use Rattle.std.proofs.lemmas.List.{length-map}
use Rattle.cell_core.specs.Slot.{Names, cell_in}
use Rattle.cell_core.specs.Block as block
use Rattle.cell_core.specs.Block.{block_len}
use Rattle.cell_core.specs.Member.{MemberView, HasNames}
use Rattle.cell_core.specs.Run.{RunView, IsRunPenAt, cells_from, members_of}
use Rattle.table_core.specs.Table.{KeyView, IsKeyIn, IsBlockOf}
use Rattle.grow_core.specs.declared.stretch.Stretch.{Stretch}
use Rattle.grow_core.specs.Token.{placed_view, place_in}
use Rattle.grow_core.specs.Vector.{VectorView, IsPlacedOf, layout_of}
use Rattle.grow_core.specs.Parts.{values_in}
use Rattle.grow_core.specs.Stretch.{IsStretchOf}

take_suc : {X : Type 0} (xs : List X) (i : ℕ) (x : X) → slice_get xs i ≡ Some x → take (suc i) xs ≡ take i xs ++ x ∷ []
take_suc [] i x h = absurd (cc)
take_suc (y ∷ ys) zero x h = let same : y ≡ x = cc in ap (λ v. v ∷ []) same
take_suc (y ∷ ys) (suc i) x h = ap (λ vs. y ∷ vs) (take_suc ys i x h)

-- one more of the first elements
pub take_next : {X : Type 0} (xs : List X) (i : ℕ) (x : X) → slice_get xs i ≡ Some x → take (i + 1) xs ≡ take i xs ++ x ∷ []
take_next xs i x h = let step : i + 1 ≡ suc i = omega arith in ap (λ (n : ℕ). take n xs) step ∙ take_suc xs i x h

pub cells_length : (n o : ℕ) (γs : List Names) → length (cells_from n o γs) ≡ n
cells_length zero o γs = refl
cells_length (suc n) o γs = ap (λ (m : ℕ). suc m) (cells_length n (suc o) γs)

-- what is known of a run's cells is known by their names
members_named : {T : Type 0} (n o : ℕ) (γs : List Names) (xs : List T) (i : ℕ) (m : MemberView T)
    → slice_get (members_of (cells_from n o γs) xs) i ≡ Some m → (i < n) × HasNames (cell_in γs (o + i)) m.value m.name m.epoch
members_named zero o γs xs i m h = absurd (cc)
members_named (suc n) o γs [] i m h = absurd (cc)
members_named {T} (suc n) o γs (x ∷ xs) zero m h =
    let first : MemberView T = record { value = Some x; name = (cell_in γs o).value_name; epoch = [] } in
    let same : first ≡ m = cc in let here : o ≡ o + 0 = omega arith in
    (omega arith, subst (λ (k : MemberView T). HasNames (cell_in γs (o + 0)) k.value k.name k.epoch) same (ap (λ (j : ℕ). (cell_in γs j).value_name) here))
members_named (suc n) o γs (x ∷ xs) (suc i) m h =
    let rest = members_named n (suc o) γs xs i m h in let here : suc o + i ≡ o + suc i = omega arith in
    (omega (arith, rest.0), subst (λ (j : ℕ). HasNames (cell_in γs j) m.value m.name m.epoch) here rest.1)

-- and it is their values
members_hold : {T : Type 0} (γs : List Names) (xs : List T) → length γs ≡ length xs → values_in (members_of γs xs) ≡ map Some xs
members_hold [] [] same = refl
members_hold [] (x ∷ xs) same = absurd (omega (arith, same))
members_hold (γ ∷ γs) [] same = absurd (omega (arith, same))
members_hold (γ ∷ γs) (x ∷ xs) same = ap (λ vs. Some x ∷ vs) (members_hold γs xs (omega (arith, same)))

member_value : {T : Type 0} (row : List (MemberView T)) (xs : List T) (i : ℕ) (m : MemberView T) → values_in row ≡ map Some xs → slice_get row i ≡ Some m
    → (x : T) × (slice_get xs i ≡ Some x) × (m.value ≡ Some x)
member_value [] xs i m hold h = absurd (cc)
member_value (k ∷ row) [] i m hold h = absurd (cc)
member_value {T} (k ∷ row) (x ∷ xs) zero m hold h =
    let same : k ≡ m = cc in let value : k.value ≡ Some x = cc in (x, refl, sym (ap (λ (j : MemberView T). j.value) same) ∙ value)
member_value (k ∷ row) (x ∷ xs) (suc i) m hold h = member_value row xs i m (cc) h

module _ {T : Type 0} (vector : VectorView T) (from : ℕ) (values : List T) (stretch : Stretch T) (is : IsStretchOf vector from values stretch) where
  pub row_length : length stretch.row ≡ stretch.n
  row_length = sym (length-map stretch.row (λ (m : MemberView T). m.value)) ∙ ap length is.hold ∙ length-map values (λ (x : T). Some x) ∙ sym is.n

  module _ (i : ℕ) (m : MemberView T) (at : slice_get stretch.row i ≡ Some m) where
    pub has_value : m.value ≢ None
    has_value none = let held = member_value stretch.row values i m is.hold at in let no : Some held.0 ≡ None = sym held.2 ∙ none in absurd (cc)

    -- a member's token is that of its place
    pub stretch_token : (cell : block.PlacedView T) → cell.offset ≡ stretch.offset + i → Some cell.value ≡ m.value → cell.name ≡ m.name
        → IsPlacedOf vector (placed_view stretch.key cell) × (place_in stretch.key.layout stretch.key.segment cell.offset ≡ from + i)
        × (slice_get values i ≡ Some cell.value)
    stretch_token cell here value name =
        let held = member_value stretch.row values i m is.hold at in
        let member = is.members i m at in
        let same : held.0 ≡ cell.value = (let s : Some held.0 ≡ Some cell.value = sym held.2 ∙ sym value in cc) in
        let known = subst (λ (v : Option T). HasNames (cell_in stretch.key.block.cells (stretch.offset + i)) v m.name m.epoch) held.2 member.known in
        let named : cell.name ≡ (cell_in stretch.key.block.cells cell.offset).value_name = name ∙ known ∙ ap (λ (j : ℕ). (cell_in stretch.key.block.cells j).value_name) (sym here) in
        let layout = is.key.layout in (
          record {
            key = is.key;
            long = is.long;
            cell = record { within = omega (arith, here, member.within); named = named };
            place = ap (λ (f : ℕ). place_in f stretch.key.segment cell.offset) layout;
            value = refl;
          },
          ap (λ (f : ℕ). place_in f stretch.key.segment cell.offset) layout ∙ omega (arith, here, is.place),
          held.1 ∙ ap (λ x. Some x) same,
        )

-- the cells of a run that is published
pub run_stretch : {T : Type 0} (vector : VectorView T) (from : ℕ) (values : List T) (key : KeyView) (offset n : ℕ) (pen : RunView T)
    → IsKeyIn vector.segments key → IsBlockOf (layout_of vector) key.segment key.block → place_in (layout_of vector) key.segment offset ≡ from
    → offset + n ≤ block_len key.block → IsRunPenAt key.block offset n pen → length values ≡ n
    → IsStretchOf vector from values (record { key = key; offset = offset; n = n; row = members_of pen.cells values })
run_stretch {T} vector from values key offset n pen inside long here within at count =
    let cells = at.cells in let many : length pen.cells ≡ n = ap length cells ∙ cells_length n offset key.block.cells in record {
      key = inside;
      long = long;
      place = here;
      n = sym count;
      members = λ i m h.
          let named = members_named n offset key.block.cells values i m (subst (λ (γs : List Names). slice_get (members_of γs values) i ≡ Some m) cells h) in
          record { within = omega (arith, named.0, within); known = named.1 };
      hold = members_hold pen.cells values (many ∙ sym count);
    }
