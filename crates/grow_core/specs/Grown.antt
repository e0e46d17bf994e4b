-- The token of a run.
use Rattle.std.specs.Prelude.{◌≡◌, ◌≢◌, ℕ, suc, ◌+◌, ◌-◌, ◌<◌, ◌≤◌, List, [], ◌∷◌, All, Option, Some, None, IsSome}
use Rattle.std.specs.Prelude.{length, map, slice_get}
use Rattle.std.specs.List.{FoldsTo}
use base.Stored.{Coded, coded×, coded_ℕ, coded_list, coded_via}
use Rattle.claim_core.specs.declared.run.Run.{Run}
use Rattle.seg_core.specs.Segment.{segment_start, segment_of, most_places}
use Rattle.cell_core.specs.Member.{MemberView}
use Rattle.table_core.specs.Table.{KeySetView, block_in, key_in}
use Rattle.grow_core.specs.Token.{PlacedView, placed_coded}
use Rattle.grow_core.specs.Vector.{VectorView, IsPlacedOf}

-- the run, and the token of each of its places in order
pub record GrownView (T : Type 0) : Type 0 where
  pub run : Run
  pub tokens : List (PlacedView T)

abbrev pub grown_coded : {T : Type 0} → Coded T → Coded (GrownView T)
grown_coded {T} c =
    coded_via (coded× coded_ℕ (coded× coded_ℕ (coded_list (placed_coded c))))
    (λ (g : GrownView T). (g.run.from, (g.run.n, g.tokens)))
    (λ x y e i. record { run = record { from = (e i).0; n = (e i).1.0 }; tokens = (e i).1.1 })

-- the token of a place that has this value: the key of its segment is in the set, and this is known of its cell
abbrev pub token_at : {T : Type 0} → KeySetView → ℕ → MemberView T → T → PlacedView T
token_at keys place m x = record {
  place = place;
  value = x;
  key = key_in keys (segment_of keys.layout place);
  cell = record {
    offset = place - segment_start keys.layout (segment_of keys.layout place);
    value = x;
    name = m.name;
    found = 0;
  };
}

-- tokens with that of the place before them, if the place has a value
abbrev pub with_token : {T : Type 0} → KeySetView → ℕ → MemberView T → Option T → List (PlacedView T)
    → List (PlacedView T)
with_token keys place m None more = more
with_token keys place m (Some x) more = token_at keys place m x ∷ more

-- the tokens of the places from this one on, by what is known of each
abbrev pub tokens_of : {T : Type 0} → KeySetView → ℕ → List (MemberView T) → List (PlacedView T)
tokens_of keys place [] = []
tokens_of keys place (m ∷ row) = with_token keys place m m.value (tokens_of keys (suc place) row)

-- each of these cells is known to have a value
abbrev pub AreFilled : {T : Type 0} → List (MemberView T) → Type 0
AreFilled {T} row = (i : ℕ) (m : MemberView T) → slice_get row i ≡ Some m → m.value ≢ None

-- each place of the run is known to have a value, and the key of its segment is there
pub record IsKnownRun {T : Type 0} (run : Run) (keys : KeySetView) (row : List (MemberView T)) : Type 0 where
  pub n : length row ≡ run.n
  pub within : run.from + run.n ≤ most_places
  pub filled : AreFilled row
  pub keys_there : (i : ℕ) → i < run.n → IsSome (block_in keys (segment_of keys.layout (run.from + i)))

-- the tokens are of the places from this one on, in order
abbrev pub AreInOrder : {T : Type 0} → ℕ → List (PlacedView T) → Type 0
AreInOrder {T} from tokens = (i : ℕ) (token : PlacedView T) → slice_get tokens i ≡ Some token → token.place ≡ from + i

-- there is a token for each place of the run, in order
pub record IsInOrder {T : Type 0} (run : Run) (tokens : List (PlacedView T)) : Type 0 where
  pub n : length tokens ≡ run.n
  pub places : AreInOrder run.from tokens

-- the run is one of the vector's
abbrev pub IsGrownOf : {T : Type 0} → VectorView T → GrownView T → Type 0
IsGrownOf vector grown = All (IsPlacedOf vector) grown.tokens

-- the values of the run's places, in order
abbrev pub values_of : {T : Type 0} → GrownView T → List T
values_of grown = map (λ token. token.value) grown.tokens

-- the tokens of places next to each other, from this one on: the places have these values, in order
pub record AreTokensOf {T : Type 0} (vector : VectorView T) (from : ℕ) (values : List T)
    (tokens : List (PlacedView T)) : Type 0 where
  pub of : All (IsPlacedOf vector) tokens
  pub places : AreInOrder from tokens
  pub hold : map (λ token. token.value) tokens ≡ values

-- the same, and they were kept one by one, in order: each step of the keeper has it before, a token, and it after
pub record AreKeptFrom {K T : Type 0} (step : K → PlacedView T → Unit {0} → K → Type 0) (old new : K)
    (vector : VectorView T) (from : ℕ) (values : List T) : Type 0 where
  pub tokens : List (PlacedView T)
  pub kept : FoldsTo (λ k token next. step k token tt next) old tokens new
  pub are : AreTokensOf vector from values tokens
