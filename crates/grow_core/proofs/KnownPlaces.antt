-- Knowledge of filled places, and the tokens that follow from it.
use Rattle.std.proofs.Common.{◌≡◌, ◌≢◌, ℕ, zero, suc, ◌+◌, ◌-◌, ◌<◌, ◌≤◌, List, [], ◌∷◌, ◌++◌, length, map, Option, Some, None, IsSome, refl, sym, ap, ap₂, ◌∙◌, subst, ⊎_elim, arith}
use Rattle.std.specs.Prelude.{slice_get, slice_index}
use Rattle.std.specs.List.{All}
use Rattle.std.proofs.lemmas.List.{map-append, length-map}
use Rattle.std.proofs.lemmas.List.Elements.{All-cons, All-head, All-tail}
use Rattle.claim_core.specs.declared.run.Run.{Run}
use Rattle.seg_core.specs.Segment.{HasPlace, IsLayout, segment_start, segment_count, segment_of, most_segments, most_places}
use Rattle.seg_core.proofs.Doubling.{is_segment_of, segment_of_has}
use Rattle.cell_core.specs.Block as block
use Rattle.cell_core.specs.Block.{BlockView, IsMemberAt, block_len, cell_at}
use Rattle.cell_core.specs.Member.{MemberView, HasNames}
use Rattle.table_core.specs.Table.{KeyView, KeySetView, AddsKey, IsKeyIn, IsBlockOf, block_in, block_or_empty, key_in}
use Rattle.grow_core.specs.declared.filled.Filled.{Filled}
use Rattle.grow_core.specs.declared.stretch.Stretch.{Stretch}
use Rattle.grow_core.specs.Token.{PlacedView, placed_view, place_in}
use Rattle.grow_core.specs.Vector.{VectorView, IsPlacedOf, layout_of}
use Rattle.grow_core.specs.Parts.{values_in}
use Rattle.grow_core.specs.Stretch.{IsStretchOf}
use Rattle.grow_core.specs.Grown.{AreFilled, AreInOrder, IsInOrder, IsKnownRun, token_at, tokens_of, with_token}
use Rattle.grow_core.specs.Filled.{IsFilledOf, IsKnownAt, IsKnownIn}
use Rattle.grow_core.proofs.Filling.{slice_get-append, all_none}

-- an option that is not empty has something
some_of : {X : Type 0} (v : Option X) → v ≢ None → (x : X) × (v ≡ Some x)
some_of None apart = absurd (apart refl)
some_of (Some x) apart = (x, refl)

is_some : {X : Type 0} (v : Option X) (x : X) → v ≡ Some x → IsSome v
is_some v x is = subst IsSome (sym is) refl

-- the cells after the first are filled too
tail_filled : {T : Type 0} (m : MemberView T) (row : List (MemberView T)) → AreFilled (m ∷ row) → AreFilled row
tail_filled m row filled i k at = filled (suc i) k at

-- values that are known fill each cell
pub filled_of_values : {T : Type 0} (row : List (MemberView T)) (xs : List T) → values_in row ≡ map Some xs → AreFilled row
filled_of_values [] xs hold i m at none = absurd (cc)
filled_of_values (k ∷ row) [] hold i m at none = absurd (cc)
filled_of_values {T} (k ∷ row) (x ∷ xs) hold zero m at none =
    let same : k ≡ m = cc in let value : k.value ≡ Some x = cc in
    let apart : Some x ≡ None = sym value ∙ ap (λ (j : MemberView T). j.value) same ∙ none in absurd (cc)
filled_of_values (k ∷ row) (x ∷ xs) hold (suc i) m at none = filled_of_values row xs (cc) i m at none

-- there are as many members as values
pub row_count : {T : Type 0} (row : List (MemberView T)) (xs : List T) → values_in row ≡ map Some xs → length row ≡ length xs
row_count row xs hold = sym (length-map row (λ m. m.value)) ∙ ap length hold ∙ length-map xs (λ x. Some x)

-- a row has a member at each index below its length
member_there : {X : Type 0} (xs : List X) (i : ℕ) → i < length xs → (x : X) × (slice_get xs i ≡ Some x)
member_there [] i less = absurd (omega (arith, less))
member_there (x ∷ xs) zero less = (x, refl)
member_there (x ∷ xs) (suc i) less = member_there xs i (omega (arith, less))

module _ {T : Type 0} (keys : KeySetView) where
  -- the values of the tokens are those that are known
  pub token_values_are : (place : ℕ) (row : List (MemberView T)) (xs : List T) → values_in row ≡ map Some xs
      → map (λ (t : PlacedView T). t.value) (tokens_of keys place row) ≡ xs
  token_values_are place [] [] hold = refl
  token_values_are place [] (x ∷ xs) hold = absurd (cc)
  token_values_are place (m ∷ row) [] hold = absurd (cc)
  token_values_are place (m ∷ row) (x ∷ xs) hold =
      let value : m.value ≡ Some x = cc in let rest : values_in row ≡ map Some xs = cc in
      ap (λ v. map (λ (t : PlacedView T). t.value) (with_token keys place m v (tokens_of keys (suc place) row))) value
      ∙ ap (λ ys. x ∷ ys) (token_values_are (suc place) row xs rest)

  -- there are as many tokens as members
  pub tokens_length : (place : ℕ) (row : List (MemberView T)) → AreFilled row → length (tokens_of keys place row) ≡ length row
  tokens_length place [] filled = refl
  tokens_length place (m ∷ row) filled =
      let value = some_of m.value (filled 0 m refl) in
      ap (λ v. length (with_token keys place m v (tokens_of keys (suc place) row))) value.1
      ∙ ap (λ (n : ℕ). suc n) (tokens_length (suc place) row (tail_filled m row filled))

  -- the token of a place is that of what is known of its cell
  pub token_is : (place : ℕ) (row : List (MemberView T)) → AreFilled row → (i : ℕ) (m : MemberView T) (x : T) → slice_get row i ≡ Some m → m.value ≡ Some x
      → slice_get (tokens_of keys place row) i ≡ Some (token_at keys (place + i) m x)
  token_is place [] filled i m x at value = absurd (cc)
  token_is place (k ∷ row) filled zero m x at value =
      let same : k ≡ m = cc in let here : place ≡ place + 0 = omega arith in
      ap (λ (j : MemberView T). slice_get (with_token keys place j j.value (tokens_of keys (suc place) row)) 0) same
      ∙ ap (λ v. slice_get (with_token keys place m v (tokens_of keys (suc place) row)) 0) value
      ∙ ap (λ (p : ℕ). Some (token_at keys p m x)) here
  token_is place (k ∷ row) filled (suc i) m x at value =
      let had = some_of k.value (filled 0 k refl) in let here : suc place + i ≡ place + suc i = omega arith in
      ap (λ v. slice_get (with_token keys place k v (tokens_of keys (suc place) row)) (suc i)) had.1
      ∙ token_is (suc place) row (tail_filled k row filled) i m x at value
      ∙ ap (λ (p : ℕ). Some (token_at keys p m x)) here

  -- tokens are in order, and so they are with that of the place before them
  order_with : (place : ℕ) (m : MemberView T) (x : T) (more : List (PlacedView T)) → AreInOrder (suc place) more → AreInOrder place (token_at keys place m x ∷ more)
  order_with place m x more rest zero t at = let same : token_at keys place m x ≡ t = cc in omega (arith, ap (λ (u : PlacedView T). u.place) same)
  order_with place m x more rest (suc i) t at = omega (arith, rest i t at)

  tokens_in_order : (place : ℕ) (row : List (MemberView T)) → AreFilled row → AreInOrder place (tokens_of keys place row)
  tokens_in_order place [] filled = λ i t at. absurd (cc)
  tokens_in_order place (m ∷ row) filled =
      let had = some_of m.value (filled 0 m refl) in
      subst (λ v. AreInOrder place (with_token keys place m v (tokens_of keys (suc place) row))) (sym had.1)
      (order_with place m had.0 (tokens_of keys (suc place) row) (tokens_in_order (suc place) row (tail_filled m row filled)))

  -- what a run's token shows
  pub known_in_order : (run : Run) (row : List (MemberView T)) → IsKnownRun run keys row → IsInOrder run (tokens_of keys run.from row)
  known_in_order run row is = record { n = tokens_length run.from row is.filled ∙ is.n; places = tokens_in_order run.from row is.filled }

-- a member of a list is what holds of all its members
pub all_get : {X : Type 0} (P : X → Type 0) (xs : List X) (i : ℕ) (x : X) → All P xs → slice_get xs i ≡ Some x → P x
all_get P [] i x all at = absurd (cc)
all_get P (y ∷ ys) zero x all at = let same : y ≡ x = cc in subst P same (All-head P y ys all)
all_get P (y ∷ ys) (suc i) x all at = all_get P ys i x (All-tail P y ys all) at

-- a member of a mapped list
pub get_map : {X Y : Type 0} (f : X → Y) (xs : List X) (i : ℕ) (x : X) → slice_get xs i ≡ Some x → slice_get (map f xs) i ≡ Some (f x)
get_map f [] i x at = absurd (cc)
get_map f (y ∷ ys) zero x at = let same : y ≡ x = cc in ap (λ u. Some (f u)) same
get_map f (y ∷ ys) (suc i) x at = get_map f ys i x at

-- the token of a place, made anew from a key and a cell's token
module _ {T : Type 0} (keys : KeySetView) (place segment offset : ℕ) (m : MemberView T) (x : T) (cell : block.PlacedView T)
    (number : segment ≡ segment_of keys.layout place) (here : segment_start keys.layout segment + offset ≡ place)
    (at : cell.offset ≡ offset) (value : cell.value ≡ x) (name : cell.name ≡ m.name) where
  abbrev pub made : PlacedView T
  made = placed_view (key_in keys segment) cell

  pub made_of : (v : VectorView T) → IsPlacedOf v (token_at keys place m x) → IsPlacedOf v made
  made_of v is =
      let start : segment_start keys.layout (segment_of keys.layout place) ≡ segment_start keys.layout segment = ap (segment_start keys.layout) (sym number) in
      let same : place - segment_start keys.layout (segment_of keys.layout place) ≡ cell.offset = omega (arith, start, here, at) in
      let key : key_in keys (segment_of keys.layout place) ≡ key_in keys segment = ap (key_in keys) (sym number) in record {
        key = subst (λ k. IsKeyIn v.segments k) key is.key;
        long = subst (λ (k : KeyView). IsBlockOf (layout_of v) k.segment k.block) key is.long;
        cell = record {
          within = subst (λ (k : KeyView). cell.offset < block_len k.block) key (subst (λ (o : ℕ). o < block_len (key_in keys (segment_of keys.layout place)).block) same is.cell.within);
          named = name ∙ is.cell.named ∙ ap (λ (o : ℕ). (cell_at (key_in keys (segment_of keys.layout place)).block o).value_name) same
              ∙ ap (λ (k : KeyView). (cell_at k.block cell.offset).value_name) key;
        };
        place = ap (λ (f : ℕ). place_in f segment cell.offset) is.key.layout;
        value = refl;
      }

-- what is known of a place is known by a set with more keys
known_more : {T : Type 0} (f : ℕ) (old new : KeySetView) (key : KeyView) (segment place : ℕ) (m : MemberView T) → AddsKey old new key → IsKnownIn f old segment place m
    → IsKnownIn f new segment place m
known_more f old new key segment place m adds is = record {
  few = is.few;
  small = is.small;
  block = is.block;
  key = adds.kept segment is.block is.small is.key;
  long = is.long;
  member = is.member;
}

module _ {T : Type 0} (v : VectorView T) (from : ℕ) (done values : List T) (filled : Filled T) (stretch : Stretch T) (keys : KeySetView)
    (layout : IsLayout (layout_of v)) (is : IsFilledOf v from done filled) (next : IsStretchOf v (from + length done) values stretch)
    (adds : AddsKey filled.keys keys stretch.key) where
  -- what is known of a cell of the stretch is known of its place
  next_known : (j : ℕ) (m : MemberView T) → slice_get stretch.row j ≡ Some m → IsKnownAt (layout_of v) keys (from + length done + j) m
  next_known j m at =
      let f = layout_of v in let segment = stretch.key.segment in let member = next.members j m at in let place = from + length done + j in
      let start = segment_start f segment in
      let off : place - start ≡ stretch.offset + j = omega (arith, next.place) in
      let has : HasPlace f segment place = record { from = omega (arith, next.place); before = omega (arith, next.place, next.long, member.within) } in
      subst (λ (s : ℕ). IsKnownIn f keys s place m) (is_segment_of f segment place has) (record {
        few = next.key.within;
        small = omega (arith, next.key.within, layout);
        block = stretch.key.block;
        key = adds.has;
        long = next.long;
        member = subst (λ (o : ℕ). IsMemberAt stretch.key.block o m) (sym off) member;
      })

  -- the places of the stretch are known too
  pub known_next : IsFilledOf v from (done ++ values) (record { keys = keys; row = filled.row ++ stretch.row })
  known_next = record {
    layout = adds.layout ∙ is.layout;
    names = λ segment small. adds.names segment small ∙ is.names segment small;
    members = λ i m at. ⊎_elim
        (λ (left : slice_get filled.row i ≡ Some m). known_more (layout_of v) filled.keys keys stretch.key (segment_of (layout_of v) (from + i)) (from + i) m adds (is.members i m left))
        (λ (right : (j : ℕ) × (i ≡ length filled.row + j) × (slice_get stretch.row j ≡ Some m)).
        let there : from + length done + right.0 ≡ from + i = omega (arith, right.1, row_count filled.row done is.hold) in
        subst (λ (p : ℕ). IsKnownAt (layout_of v) keys p m) there (next_known right.0 m right.2))
        (slice_get-append filled.row stretch.row i m at);
    hold = map-append (λ (m : MemberView T). m.value) filled.row stretch.row ∙ ap₂ (λ xs ys. xs ++ ys) is.hold next.hold ∙ sym (map-append (λ (x : T). Some x) done values);
  }

module _ {T : Type 0} (v : VectorView T) where
  -- the token of a place that is known is one of the vector
  token_of : (keys : KeySetView) → keys.layout ≡ layout_of v
      → ((segment : ℕ) → segment < most_segments → slice_index keys.names segment ≡ slice_index v.segments.names segment)
      → (place : ℕ) (m : MemberView T) (x : T) → IsKnownAt keys.layout keys place m → m.value ≡ Some x → IsPlacedOf v (token_at keys place m x)
  token_of keys layout names place m x known value =
      let f = keys.layout in let segment = segment_of f place in let has = segment_of_has f place in
      let here : block_or_empty (block_in keys segment) ≡ known.block = ap block_or_empty known.key in
      let named = subst (λ o. HasNames (cell_at known.block (place - segment_start f segment)) o m.name m.epoch) value known.member.known in record {
        key = record { layout = layout; within = subst (λ (g : ℕ). segment < segment_count g) layout known.few; named = sym (names segment known.small) };
        long = subst (λ (g : ℕ). IsBlockOf g segment (block_or_empty (block_in keys segment))) layout (subst (IsBlockOf f segment) (sym here) known.long);
        cell = record {
          within = subst (λ (b : BlockView). place - segment_start f segment < block_len b) (sym here) known.member.within;
          named = named ∙ ap (λ (b : BlockView). (cell_at b (place - segment_start f segment)).value_name) (sym here);
        };
        place = let at : place ≡ segment_start f segment + (place - segment_start f segment) = omega (arith, has.from) in
            at ∙ ap (λ (g : ℕ). segment_start g segment + (place - segment_start f segment)) layout;
        value = refl;
      }

  -- so are those of places next to each other
  tokens_of_all : (keys : KeySetView) → keys.layout ≡ layout_of v
      → ((segment : ℕ) → segment < most_segments → slice_index keys.names segment ≡ slice_index v.segments.names segment)
      → (place : ℕ) (row : List (MemberView T)) → AreFilled row
      → ((i : ℕ) (m : MemberView T) → slice_get row i ≡ Some m → IsKnownAt keys.layout keys (place + i) m) → All (IsPlacedOf v) (tokens_of keys place row)
  tokens_of_all keys layout names place [] filled known = all_none (IsPlacedOf v)
  tokens_of_all keys layout names place (m ∷ row) filled known =
      let had = some_of m.value (filled 0 m refl) in let here : place + 0 ≡ place = omega arith in
      let first = token_of keys layout names place m had.0 (subst (λ (p : ℕ). IsKnownAt keys.layout keys p m) here (known 0 m refl)) had.1 in
      let rest = tokens_of_all keys layout names (suc place) row (tail_filled m row filled)
      (λ i k at. let there : place + suc i ≡ suc place + i = omega arith in subst (λ (p : ℕ). IsKnownAt keys.layout keys p k) there (known (suc i) k at)) in
      subst (λ o. All (IsPlacedOf v) (with_token keys place m o (tokens_of keys (suc place) row))) (sym had.1)
      (All-cons (IsPlacedOf v) (token_at keys place m had.0) (tokens_of keys (suc place) row) first rest)

  module _ (from : ℕ) (values : List T) (filled : Filled T) (is : IsFilledOf v from values filled) where
    -- the tokens of the places that are filled
    pub grown_of : All (IsPlacedOf v) (tokens_of filled.keys from filled.row)
    grown_of = tokens_of_all filled.keys is.layout is.names from filled.row (filled_of_values filled.row values is.hold)
        (λ i m at. subst (λ (f : ℕ). IsKnownAt f filled.keys (from + i) m) (sym is.layout) (is.members i m at))

    pub grown_values : map (λ (t : PlacedView T). t.value) (tokens_of filled.keys from filled.row) ≡ values
    grown_values = token_values_are filled.keys from filled.row values is.hold

    -- and they are those of a run
    pub grown_known : (n : ℕ) → length values ≡ n → from + n ≤ most_places → IsKnownRun (record { from = from; n = n }) filled.keys filled.row
    grown_known n count within =
        let long = row_count filled.row values is.hold in record {
          n = long ∙ count;
          within = within;
          filled = filled_of_values filled.row values is.hold;
          keys_there = λ i less. let m = member_there filled.row i (omega (arith, less, long, count)) in
              let known = subst (λ (f : ℕ). IsKnownAt f filled.keys (from + i) m.0) (sym is.layout) (is.members i m.0 m.1) in is_some _ known.block known.key;
        }

-- nothing is known yet
pub known_none : {T : Type 0} (v : VectorView T) (from : ℕ) (filled : Filled T) → filled.keys.layout ≡ layout_of v
    → ((segment : ℕ) → segment < most_segments → slice_index filled.keys.names segment ≡ slice_index v.segments.names segment) → filled.row ≡ []
    → IsFilledOf v from [] filled
known_none {T} v from filled layout names none = record {
  layout = layout;
  names = names;
  members = λ i m at. let no : slice_get {X = MemberView T} [] i ≡ Some m = subst (λ (r : List (MemberView T)). slice_get r i ≡ Some m) none at in absurd (cc);
  hold = ap values_in none;
}
