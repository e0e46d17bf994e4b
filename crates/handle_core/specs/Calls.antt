-- What each call on a hand leaves, and when each of its refusals comes.
use Rattle.std.specs.Prelude.{◌≡◌, ◌≢◌, ℕ, ◌+◌, ◌-◌, ◌/◌, ◌%◌, ◌<◌, ◌≤◌, ◌⊎◌, min, [], Bool, true, false, List, Option, Some, None, IsSome, length, slice_get, replicate}
use Rattle.std.specs.Simd.{first_chunks}
use Rattle.seg_core.specs.Segment.{IsLimit, IsLayout}
use Rattle.claim_core.specs.Hand.{IsWholeHand, SeesSize, seen_size}
use Rattle.grow_core.specs.Vector.{limit_of}
use Rattle.caller_core.specs.Caller.{CallerView, IsNewCaller, JoinsCallers, Pushes, HasLast}
use Rattle.caller_core.specs.Grows.{GrowsBy, WinsPlaces, Mends}
use Rattle.handle_core.specs.declared.held.Held.{Held}
use Rattle.handle_core.specs.declared.held.Held.TheVariants as held
use Rattle.handle_core.specs.declared.status.Status.{Status}
use Rattle.handle_core.specs.declared.status.Status.TheVariants as status
use Rattle.handle_core.specs.Held.{OnHands, caller_of, words_of, opaque_of, opaque_words}

-- the elements that these words make side by side, as lists of their words
abbrev pub elements_in : ℕ → List ℕ → List (List ℕ)
elements_in width words = first_chunks width (length words / width) words

-- n opaque elements, as contracts see them
abbrev pub unseen : ℕ → List (Unit {0})
unseen n = replicate n tt

-- the hand is of a new vector with this limit and layout, of elements of this many words and of this kind
abbrev pub IsNewHand : ℕ → ℕ → ℕ → Bool → Held → Type 0
IsNewHand limit words layout false (held.Hand any) = IsNewCaller limit layout (caller_of any) × (words_of any ≡ words)
IsNewHand limit words layout true (held.OpaqueHand any) =
    IsNewCaller limit layout (opaque_of any) × (opaque_words any ≡ words)
IsNewHand limit words layout opaque other = ⊥

-- these words were appended at this place: the hand's own last token has the place, and the value if it has one
abbrev pub PushesWords : List ℕ → ℕ → Held → Held → Type 0
PushesWords words place (held.Hand old) (held.Hand new) = Pushes words (caller_of old) (caller_of new) place
PushesWords words place (held.OpaqueHand old) (held.OpaqueHand new) = Pushes tt (opaque_of old) (opaque_of new) place
PushesWords words place old new = ⊥

-- the elements that these words make were appended from this place on, side by side
abbrev pub GrowsByWords : List ℕ → ℕ → Held → Held → Type 0
GrowsByWords words place (held.Hand old) (held.Hand new) =
    GrowsBy (elements_in (words_of old) words) (caller_of old) (caller_of new) place
GrowsByWords words place (held.OpaqueHand old) (held.OpaqueHand new) =
    WinsPlaces (length words / opaque_words old) (opaque_of old) (opaque_of new) place
GrowsByWords words place old new = ⊥

-- n copies of the element that these words make were appended from this place on
abbrev pub GrowsByCopies : ℕ → List ℕ → ℕ → Held → Held → Type 0
GrowsByCopies n words place (held.Hand old) (held.Hand new) =
    GrowsBy (replicate n words) (caller_of old) (caller_of new) place
GrowsByCopies n words place (held.OpaqueHand old) (held.OpaqueHand new) =
    WinsPlaces n (opaque_of old) (opaque_of new) place
GrowsByCopies n words place old new = ⊥

-- n places from this one on were won and broken
abbrev pub WinsPlacesOf : ℕ → ℕ → Held → Held → Type 0
WinsPlacesOf n place = OnHands (λ T old new. WinsPlaces n old new place)

-- the n places that were missing up to this size were won, from this one on, or none was missing
pub record ReachesSize {T : Type 0} (size place n : ℕ) (old new : CallerView T) : Type 0 where
  pub some : 0 < n → (place + n ≡ size) × WinsPlaces n old new place
  pub none : n ≡ 0 → (size ≤ place) × SeesSize old.hand new.hand place

-- the number of the element that is put at the i-th of the places: the i-th, or the only one
abbrev pub source_of : ℕ → ℕ → ℕ
source_of count i = min i (count - 1)

-- the last of n places has the element of its number, of those that the words make
abbrev pub HasLastElement : {T : Type 0} → (List ℕ → T) → ℕ → List ℕ → ℕ → ℕ → CallerView T → Type 0
HasLastElement element_of width words place n caller =
    (ws : List ℕ) → 0 < n → slice_get (elements_in width words) (source_of (length words / width) (n - 1)) ≡ Some ws
    → HasLast (place + (n - 1)) (element_of ws) caller.last

-- the elements that were missing up to this size were appended
abbrev pub GrowsUpToWords : ℕ → List ℕ → ℕ → ℕ → Held → Held → Type 0
GrowsUpToWords size words place n (held.Hand old) (held.Hand new) =
    ReachesSize size place n (caller_of old) (caller_of new)
    × HasLastElement (λ ws. ws) (words_of old) words place n (caller_of new)
GrowsUpToWords size words place n (held.OpaqueHand old) (held.OpaqueHand new) =
    ReachesSize size place n (opaque_of old) (opaque_of new)
GrowsUpToWords size words place n old new = ⊥

-- the place was mended with these words: the hand's own last token has the place, and the value if it has one
abbrev pub MendsWords : ℕ → List ℕ → Held → Held → Type 0
MendsWords place words (held.Hand old) (held.Hand new) = Mends place words (caller_of old) (caller_of new)
MendsWords place words (held.OpaqueHand old) (held.OpaqueHand new) = Mends place tt (opaque_of old) (opaque_of new)
MendsWords place words old new = ⊥

-- the hand's own last place is this one, and its value of this many words is this one
abbrev pub HasLastValue : ℕ → ℕ → List ℕ → Held → Type 0
HasLastValue words place value (held.Hand any) = (words ≡ words_of any) × HasLast place value (caller_of any).last
HasLastValue words place value other = ⊥

-- shares were moved from a hand into another, which has none of its places
pub record SplitsCaller {T : Type 0} (shares : ℕ) (old new other : CallerView T) : Type 0 where
  pub kept : new ≡ record old { hand = record old.hand { shares = old.hand.shares - shares } }
  pub given : other ≡ record old { hand = record old.hand { mine = []; shares = shares }; last = None }
  pub some : 0 < shares
  pub not_all : shares < old.hand.shares

abbrev pub SplitsHeld : ℕ → Held → Held → Held → Type 0
SplitsHeld shares (held.Hand old) (held.Hand new) (held.Hand other) =
    SplitsCaller shares (caller_of old) (caller_of new) (caller_of other)
    × (words_of new ≡ words_of old) × (words_of other ≡ words_of old)
SplitsHeld shares (held.OpaqueHand old) (held.OpaqueHand new) (held.OpaqueHand other) =
    SplitsCaller shares (opaque_of old) (opaque_of new) (opaque_of other)
    × (opaque_words new ≡ opaque_words old) × (opaque_words other ≡ opaque_words old)
SplitsHeld shares old new other = ⊥

-- if both are hands of vectors whose elements are of one kind, they are of one vector
abbrev pub AreOfOne : Held → Held → Type 0
AreOfOne (held.Hand any) (held.Hand other) = (caller_of other).vector ≡ (caller_of any).vector
AreOfOne (held.OpaqueHand any) (held.OpaqueHand other) = (opaque_of other).vector ≡ (opaque_of any).vector
AreOfOne held other = Unit {0}

-- a hand was joined into another
abbrev pub JoinsHeld : Held → Held → Held → Type 0
JoinsHeld (held.Hand old) (held.Hand other) (held.Hand new) =
    JoinsCallers (caller_of old) (caller_of other) (caller_of new) × (words_of new ≡ words_of old)
JoinsHeld (held.OpaqueHand old) (held.OpaqueHand other) (held.OpaqueHand new) =
    JoinsCallers (opaque_of old) (opaque_of other) (opaque_of new) × (opaque_words new ≡ opaque_words old)
JoinsHeld old other new = ⊥

-- the same of handles
abbrev pub SplitsFrom : ℕ → Option Held → Option Held → Option Held → Type 0
SplitsFrom shares (Some old) (Some new) (Some other) = SplitsHeld shares old new other
SplitsFrom shares old new other = ⊥

abbrev pub AreOfOneVector : Option Held → Option Held → Type 0
AreOfOneVector (Some held) (Some other) = AreOfOne held other
AreOfOneVector held other = Unit {0}

abbrev pub JoinsInto : Option Held → Option Held → Option Held → Type 0
JoinsInto (Some old) (Some other) (Some new) = JoinsHeld old other new
JoinsInto old other new = ⊥

-- When each refusal comes. What is due of a hand is said of the words of an element, and of the hand after the call. A
-- status that is not named never comes. A handle without a hand is a bad handle
abbrev pub IsDueOn : ((T : Type 0) → ℕ → CallerView T → Status → Type 0) → Held → Status → Type 0
IsDueOn due (held.Hand any) why = due (List ℕ) (words_of any) (caller_of any) why
IsDueOn due (held.OpaqueHand any) why = due (Unit {0}) (opaque_words any) (opaque_of any) why
IsDueOn due other why = why ≡ status.BadHandle

-- the same of a copy, which there is none of an opaque element
abbrev pub IsCopyDueOn : (ℕ → CallerView (List ℕ) → Status → Type 0) → Held → Status → Type 0
IsCopyDueOn due (held.Hand any) why = due (words_of any) (caller_of any) why
IsCopyDueOn due (held.OpaqueHand any) why = why ≡ status.BadSize
IsCopyDueOn due other why = why ≡ status.BadHandle

-- a growth of n places lacks room, by what the hand has then seen, or is overtaken by another hand; or the words that
-- were given are of a bad size
abbrev pub GrowthDue : ℕ → Type 0 → (T : Type 0) → CallerView T → Status → Type 0
GrowthDue n bad_size T caller status.NoMemory = Unit {0}
GrowthDue n bad_size T caller status.Moved = ¬ IsWholeHand caller.hand
GrowthDue n bad_size T caller status.BadSize = bad_size
GrowthDue n bad_size T caller status.Full = limit_of caller.vector < seen_size caller.hand + n
GrowthDue n bad_size T caller other = ⊥

-- a size that was asked for is above the limit
abbrev pub ReachDue : ℕ → Type 0 → (T : Type 0) → CallerView T → Status → Type 0
ReachDue size bad_size T caller status.NoMemory = Unit {0}
ReachDue size bad_size T caller status.BadSize = bad_size
ReachDue size bad_size T caller status.Full = limit_of caller.vector < size
ReachDue size bad_size T caller other = ⊥

-- the same of room
abbrev pub RoomDue : ℕ → (T : Type 0) → ℕ → CallerView T → Status → Type 0
RoomDue size T width caller status.NoMemory = Unit {0}
RoomDue size T width caller status.Full = limit_of caller.vector < size
RoomDue size T width caller other = ⊥

-- a place has nothing to read, by what the hand has then seen
abbrev pub ReadDue : ℕ → Type 0 → (T : Type 0) → CallerView T → Status → Type 0
ReadDue place bad_size T caller status.BadSize = bad_size
ReadDue place bad_size T caller status.OutOfRange = seen_size caller.hand ≤ place
ReadDue place bad_size T caller status.Pending = place < seen_size caller.hand
ReadDue place bad_size T caller status.Broken = place < seen_size caller.hand
ReadDue place bad_size T caller other = ⊥

-- a place has nothing to mend, by what the hand has then seen
abbrev pub MendDue : ℕ → Type 0 → (T : Type 0) → CallerView T → Status → Type 0
MendDue place bad_size T caller status.BadSize = bad_size
MendDue place bad_size T caller status.OutOfRange = seen_size caller.hand ≤ place
MendDue place bad_size T caller status.Pending = place < seen_size caller.hand
MendDue place bad_size T caller status.Filled = place < seen_size caller.hand
MendDue place bad_size T caller other = ⊥

-- the segment of a place is not there, or there is no such place
abbrev pub StatesDue : (T : Type 0) → ℕ → CallerView T → Status → Type 0
StatesDue T width caller status.Pending = Unit {0}
StatesDue T width caller other = ⊥

-- as many shares cannot be split off
abbrev pub SplitDue : ℕ → (T : Type 0) → ℕ → CallerView T → Status → Type 0
SplitDue shares T width caller status.NoMemory = Unit {0}
SplitDue shares T width caller status.BadNumber = (shares ≡ 0) ⊎ (caller.hand.shares ≤ shares)
SplitDue shares T width caller other = ⊥

-- a vector cannot be closed: not by a hand without all shares. A hand with all shares finds that somebody else owns the
-- vector, which does not come
abbrev pub CloseDue : (T : Type 0) → ℕ → CallerView T → Status → Type 0
CloseDue T width caller status.NotWhole = ¬ IsWholeHand caller.hand
CloseDue T width caller status.Taken = IsWholeHand caller.hand
CloseDue T width caller other = ⊥

-- a call that no hand is refused
abbrev pub NeverDue : (T : Type 0) → ℕ → CallerView T → Status → Type 0
NeverDue T width caller why = ⊥

-- no element has this many words
pub record IsNoSize (words : ℕ) : Type 0 where
  pub one : words ≢ 1
  pub two : words ≢ 2
  pub three : words ≢ 3
  pub four : words ≢ 4
  pub six : words ≢ 6
  pub eight : words ≢ 8

-- a vector was not opened: its limit is none, its first segment has no such length, or its elements no such size
abbrev pub OpenDue : ℕ → ℕ → ℕ → Status → Type 0
OpenDue limit words first status.NoMemory = Unit {0}
OpenDue limit words first status.BadLimit = ¬ IsLimit limit
OpenDue limit words first status.BadNumber = ¬ IsLayout first
OpenDue limit words first status.BadSize = IsNoSize words
OpenDue limit words first other = ⊥

-- this many elements are neither one nor one for each place from what was seen up to a size
abbrev pub AreTooFew : ℕ → ℕ → ℕ → Type 0
AreTooFew count seen size = (count ≡ 0) ⊎ ((1 < count) × (seen + count < size))

-- When each call is refused. `words` is how many words were given
abbrev pub PushDue : ℕ → (T : Type 0) → ℕ → CallerView T → Status → Type 0
PushDue words T width = GrowthDue 1 (words ≢ width) T

abbrev pub GrowDue : ℕ → (T : Type 0) → ℕ → CallerView T → Status → Type 0
GrowDue words T width = GrowthDue (words / width) (words % width ≢ 0) T

abbrev pub FillDue : ℕ → ℕ → (T : Type 0) → ℕ → CallerView T → Status → Type 0
FillDue n words T width = GrowthDue n (words ≢ width) T

abbrev pub LeaveDue : ℕ → (T : Type 0) → ℕ → CallerView T → Status → Type 0
LeaveDue n T width = GrowthDue n ⊥ T

abbrev pub AtLeastDue : ℕ → ℕ → (T : Type 0) → ℕ → CallerView T → Status → Type 0
AtLeastDue size words T width caller =
    ReachDue size ((words % width ≢ 0) ⊎ AreTooFew (words / width) (seen_size caller.hand) size) T caller

abbrev pub AtDue : ℕ → ℕ → ℕ → CallerView (List ℕ) → Status → Type 0
AtDue place words width = ReadDue place (words ≢ width) (List ℕ)

abbrev pub LookDue : ℕ → (T : Type 0) → ℕ → CallerView T → Status → Type 0
LookDue place T width = ReadDue place ⊥ T

abbrev pub MendsDue : ℕ → ℕ → (T : Type 0) → ℕ → CallerView T → Status → Type 0
MendsDue place words T width = MendDue place (words ≢ width) T

-- what a refusal says of the handle: of an empty one, that it is a bad handle
abbrev pub IsDueIn : (Held → Status → Type 0) → Option Held → Status → Type 0
IsDueIn due None why = why ≡ status.BadHandle
IsDueIn due (Some held) why = due held why

-- the same of a call that fills another handle: that one was full already, and so it is a bad handle
abbrev pub IsDueOrFull : (Held → Status → Type 0) → Option Held → Option Held → Status → Type 0
IsDueOrFull due other handle why = (IsSome other × (why ≡ status.BadHandle)) ⊎ IsDueIn due handle why

-- the same of a call that opens a vector into a handle
abbrev pub IsOpenDueIn : (Status → Type 0) → Option Held → Status → Type 0
IsOpenDueIn due handle why = (IsSome handle × (why ≡ status.BadHandle)) ⊎ due why

-- a hand that was joined is of another kind or size; and what has no hand is a bad handle
abbrev pub JoinDue : Held → Held → Status → Type 0
JoinDue (held.Hand any) (held.Hand other) why = why ≡ status.OtherVector
JoinDue (held.Hand any) (held.OpaqueHand other) why = why ≡ status.OtherVector
JoinDue (held.OpaqueHand any) (held.Hand other) why = why ≡ status.OtherVector
JoinDue (held.OpaqueHand any) (held.OpaqueHand other) why = why ≡ status.OtherVector
JoinDue any other why = why ≡ status.BadHandle

abbrev pub IsJoinDue : Option Held → Option Held → Status → Type 0
IsJoinDue (Some any) (Some other) why = JoinDue any other why
IsJoinDue any other why = why ≡ status.BadHandle
