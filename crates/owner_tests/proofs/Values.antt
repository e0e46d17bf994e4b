-- Lists that were made of values.
use Rattle.std.proofs.Common.{◌≡◌, ℕ, Option, Some, None, List, map, slice_get, sym, ◌∙◌}
use Rattle.std.specs.Prelude.{option_map}
use Rattle.std.proofs.lemmas.Option.{slice_get-map}

module _ {X : Type 0} where
  -- a member that is a value comes from that value
  some_of : (value : Option X) (x : X) → option_map Some value ≡ Some (Some x) → value ≡ Some x
  some_of None x is = cc
  some_of (Some y) x is = cc

  -- no member is broken
  whole_of : (value : Option X) → option_map Some value ≡ Some None → ⊥
  whole_of None is = cc
  whole_of (Some y) is = cc

  -- a list of values has each at its place
  pub value_there : (values : List X) (place : ℕ) (x : X) → slice_get (map Some values) place ≡ Some (Some x)
      → slice_get values place ≡ Some x
  value_there values place x is = some_of (slice_get values place) x (sym (slice_get-map Some values place) ∙ is)

  -- and none of them is broken
  pub not_broken : (values : List X) (place : ℕ) → slice_get (map Some values) place ≡ Some None → ⊥
  not_broken values place is = whole_of (slice_get values place) (sym (slice_get-map Some values place) ∙ is)
