-- A thread's hand of a vector with its vector, and what each call leaves of it.
use Rattle.std.specs.Prelude.{◌≡◌, ℕ, ◌+◌, ◌++◌, ◌⊎◌, [], Option, Some, None}
use Rattle.std.specs.Coded.{coded_option}
use base.Stored.{Coded, coded×, coded_via}
use mathlib.Core.List.{IsPrefix}
use Rattle.claim_core.specs.Hand.{HandView, hand_coded, IsWholeHand, seen_size}
use Rattle.grow_core.specs.Vector.{VectorView, vector_coded, IsHandOf, IsPlacedOf, limit_of, layout_of}
use Rattle.grow_core.specs.Token.{PlacedView, placed_coded}
use Rattle.grow_core.specs.Growth.{WonPlace}

-- the vector, the hand of it, and the token of the last place that the caller filled by itself
pub record CallerView (T : Type 0) : Type 0 where
  pub vector : VectorView T
  pub hand : HandView
  pub last : Option (PlacedView T)

-- how that is stored
abbrev pub caller_coded : {T : Type 0} → Coded T → Coded (CallerView T)
caller_coded {T} c =
    coded_via (coded× (vector_coded c) (coded× hand_coded (coded_option (placed_coded c))))
    (λ (w : CallerView T). (w.vector, (w.hand, w.last)))
    (λ x y e i. record { vector = (e i).0; hand = (e i).1.0; last = (e i).1.1 })

-- the last token, if there is one, is of the vector
abbrev pub IsLastOf : {T : Type 0} → VectorView T → Option (PlacedView T) → Type 0
IsLastOf vector None = Unit {0}
IsLastOf vector (Some placed) = IsPlacedOf vector placed

-- what holds of a caller at all times
pub record IsCaller {T : Type 0} (vector : VectorView T) (hand : HandView) (last : Option (PlacedView T)) : Type 0
  where
    pub ours : IsHandOf vector hand
    pub last_ours : IsLastOf vector last

-- the caller is of the same vector, and its hand has the same shares
pub record KeepsCaller {T : Type 0} (old new : CallerView T) : Type 0 where
  pub vector : new.vector ≡ old.vector
  pub shares : new.hand.shares ≡ old.hand.shares

-- the caller is of a new, empty vector, and has all its shares
pub record IsNewCaller {T : Type 0} (limit layout : ℕ) (caller : CallerView T) : Type 0 where
  pub limit_is : limit_of caller.vector ≡ limit
  pub layout_is : layout_of caller.vector ≡ layout
  pub empty : caller.vector.opened ≡ []
  pub whole : IsWholeHand caller.hand
  pub seen : seen_size caller.hand ≡ 0

-- a push won this place, and the caller's last token has it and the value
pub record Pushes {T : Type 0} (value : T) (old new : CallerView T) (place : ℕ) : Type 0 where
  pub token : PlacedView T
  pub last : new.last ≡ Some token
  pub here : token.place ≡ place
  pub won : WonPlace old.vector value old.hand new.hand token

-- the token is of this place
abbrev pub IsLastAt : {T : Type 0} → ℕ → Option (PlacedView T) → Type 0
IsLastAt place None = ⊥
IsLastAt place (Some placed) = placed.place ≡ place

-- the token of this place has this value
abbrev pub HasLast : {T : Type 0} → ℕ → T → Option (PlacedView T) → Type 0
HasLast place value None = ⊥
HasLast place value (Some placed) = (placed.place ≡ place) × (placed.value ≡ value)

-- the caller has joined the other's runs and shares, and has seen whichever is more of what the two had seen
pub record JoinsCallers {T : Type 0} (old other new : CallerView T) : Type 0 where
  pub vector : new.vector ≡ old.vector
  pub mine : new.hand.mine ≡ old.hand.mine ++ other.hand.mine
  pub shares : new.hand.shares ≡ old.hand.shares + other.hand.shares
  pub seen : (new.hand.seen ≡ old.hand.seen) ⊎ (new.hand.seen ≡ other.hand.seen)
  pub begins : IsPrefix old.hand.seen new.hand.seen
  pub also_begins : IsPrefix other.hand.seen new.hand.seen
  pub begins_log : IsPrefix old.hand.log new.hand.log
  pub also_begins_log : IsPrefix other.hand.log new.hand.log
