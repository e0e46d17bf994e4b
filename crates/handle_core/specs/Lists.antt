-- What each call on a list leaves, and how a hand becomes a list and a list a hand.
use Rattle.std.specs.Prelude.{◌≡◌, ◌≢◌, ℕ, ◌+◌, ◌/◌, ◌%◌, ◌<◌, ◌≤◌, List, Option, Some, None, length, take, slice_get, slice_set}
use Rattle.claim_core.specs.Hand.{IsWholeHand, seen_size}
use Rattle.grow_core.specs.Vector.{limit_of, layout_of}
use Rattle.grow_core.specs.Closing.{KeepsValues}
use Rattle.quiet_core.specs.QuietList.{QuietList, IsCapacityFor}
use Rattle.caller_core.specs.Caller.{CallerView}
use Rattle.caller_core.specs.Grows.{OpensList, IsSameList}
use Rattle.handle_core.specs.declared.held.Held.{Held}
use Rattle.handle_core.specs.declared.held.Held.TheVariants as held
use Rattle.handle_core.specs.declared.status.Status.{Status}
use Rattle.handle_core.specs.declared.status.Status.TheVariants as status
use Rattle.handle_core.specs.Held.{OnList, caller_of, words_of, opaque_of, opaque_words, list_of, list_words, opaque_list_of, opaque_list_words}
use Rattle.handle_core.specs.Calls.{elements_in}

-- the list has the values of the list that the vector was opened on, and is as long as the size that the hand had seen
pub record ClosesCaller {T : Type 0} (caller : CallerView T) (closed : QuietList T) : Type 0 where
  pub whole : IsWholeHand caller.hand
  pub len : length closed.members ≡ seen_size caller.hand
  pub limit : closed.limit ≡ limit_of caller.vector
  pub layout : closed.layout ≡ layout_of caller.vector
  pub opened : KeepsValues caller.vector.opened closed.members

-- a hand was closed into a list
abbrev pub ClosesHeld : Held → Held → Type 0
ClosesHeld (held.Hand any) (held.List closed) =
    ClosesCaller (caller_of any) (list_of closed) × (list_words closed ≡ words_of any)
ClosesHeld (held.OpaqueHand any) (held.OpaqueList closed) =
    ClosesCaller (opaque_of any) (opaque_list_of closed) × (opaque_list_words closed ≡ opaque_words any)
ClosesHeld old new = ⊥

-- a list was opened into a vector
abbrev pub OpensHeld : Held → Held → Type 0
OpensHeld (held.List old) (held.Hand new) = OpensList (list_of old) (caller_of new) × (words_of new ≡ list_words old)
OpensHeld (held.OpaqueList old) (held.OpaqueHand new) =
    OpensList (opaque_list_of old) (opaque_of new) × (opaque_words new ≡ opaque_list_words old)
OpensHeld old new = ⊥

-- what the handle has is as it was: a list has all its values at their places, since it may have been opened and
-- closed again
abbrev pub KeepsOrReopens : Held → Held → Type 0
KeepsOrReopens (held.List old) (held.List new) = IsSameList (list_of old) (list_of new)
    × (list_words new ≡ list_words old)
KeepsOrReopens (held.OpaqueList old) (held.OpaqueList new) =
    IsSameList (opaque_list_of old) (opaque_list_of new) × (opaque_list_words new ≡ opaque_list_words old)
KeepsOrReopens old new = new ≡ old

-- the same of handles
abbrev pub KeepsList : Option Held → Option Held → Type 0
KeepsList (Some old) (Some new) = KeepsOrReopens old new
KeepsList old new = new ≡ old

-- the member at the place is the element that these words make
abbrev pub HasMember : ℕ → List ℕ → Held → Type 0
HasMember place words (held.List any) = slice_get (list_of any).members place ≡ Some (Some words)
HasMember place words other = ⊥

-- the member at the place has a value
abbrev pub HasValueAt : ℕ → Held → Type 0
HasValueAt place = OnList (λ T list. (x : T) × (slice_get list.members place ≡ Some (Some x)))

-- the member at the place was replaced, or mended, and all else of the list stays
pub record SetsMember {T : Type 0} (place : ℕ) (value : T) (old new : QuietList T) : Type 0 where
  pub before : place < length old.members
  pub set : new.members ≡ slice_set old.members place (Some value)
  pub limit : new.limit ≡ old.limit
  pub layout : new.layout ≡ old.layout

abbrev pub SetsWords : ℕ → List ℕ → Held → Held → Type 0
SetsWords place words (held.List old) (held.List new) = SetsMember place words (list_of old) (list_of new)
SetsWords place words (held.OpaqueList old) (held.OpaqueList new) =
    SetsMember place tt (opaque_list_of old) (opaque_list_of new)
SetsWords place words old new = ⊥

-- the n members from this place on have values
abbrev pub AreValues : {T : Type 0} → ℕ → ℕ → QuietList T → Type 0
AreValues {T} place n list = (i : ℕ) → i < n → (x : T) × (slice_get list.members (place + i) ≡ Some (Some x))

-- one of the n members from this place on is broken
abbrev pub HasBroken : {T : Type 0} → ℕ → ℕ → QuietList T → Type 0
HasBroken place n list = (i : ℕ) × (i < n) × (slice_get list.members (place + i) ≡ Some None)

-- the members from this place on are the elements that these words make, in order
abbrev pub AreMembersFrom : ℕ → ℕ → List ℕ → QuietList (List ℕ) → Type 0
AreMembersFrom width place words list =
    (i : ℕ) (x : List ℕ) → slice_get (elements_in width words) i ≡ Some x
    → slice_get list.members (place + i) ≡ Some (Some x)

abbrev pub AreMembersOf : ℕ → List ℕ → Held → Type 0
AreMembersOf place words (held.List any) = AreMembersFrom (list_words any) place words (list_of any)
AreMembersOf place words other = ⊥

-- the members from this place on were dropped
pub record CutsList {T : Type 0} (size : ℕ) (old new : QuietList T) : Type 0 where
  pub members : new.members ≡ take size old.members
  pub limit : new.limit ≡ old.limit
  pub layout : new.layout ≡ old.layout
  pub capacity : new.capacity ≡ old.capacity

-- the members stay, and there are no more segments than they need
pub record ShrinksList {T : Type 0} (old new : QuietList T) : Type 0 where
  pub members : new.members ≡ old.members
  pub limit : new.limit ≡ old.limit
  pub layout : new.layout ≡ old.layout
  pub capacity : IsCapacityFor old.layout (length old.members) new.capacity

-- When each refusal of a call on a list comes, as for a hand. A handle without a list is a bad handle
abbrev pub IsDueOnList : ((T : Type 0) → ℕ → QuietList T → Status → Type 0) → Held → Status → Type 0
IsDueOnList due (held.List any) why = due (List ℕ) (list_words any) (list_of any) why
IsDueOnList due (held.OpaqueList any) why = due (Unit {0}) (opaque_list_words any) (opaque_list_of any) why
IsDueOnList due other why = why ≡ status.BadHandle

-- the same of a copy, which there is none of an opaque element
abbrev pub IsCopyDueOnList : (ℕ → QuietList (List ℕ) → Status → Type 0) → Held → Status → Type 0
IsCopyDueOnList due (held.List any) why = due (list_words any) (list_of any) why
IsCopyDueOnList due (held.OpaqueList any) why = why ≡ status.BadSize
IsCopyDueOnList due other why = why ≡ status.BadHandle

-- there is no member at the place, or it is broken
abbrev pub MemberDue : ℕ → Type 0 → (T : Type 0) → QuietList T → Status → Type 0
MemberDue place bad_size T list status.BadSize = bad_size
MemberDue place bad_size T list status.OutOfRange = length list.members ≤ place
MemberDue place bad_size T list status.Broken = slice_get list.members place ≡ Some None
MemberDue place bad_size T list other = ⊥

-- there is no member to set at the place
abbrev pub SetDue : ℕ → Type 0 → (T : Type 0) → QuietList T → Status → Type 0
SetDue place bad_size T list status.BadSize = bad_size
SetDue place bad_size T list status.OutOfRange = length list.members ≤ place
SetDue place bad_size T list other = ⊥

-- some of the n members from this place on are not there, or one of them is broken
abbrev pub CopyDue : ℕ → ℕ → Type 0 → (T : Type 0) → QuietList T → Status → Type 0
CopyDue place n bad_size T list status.BadSize = bad_size
CopyDue place n bad_size T list status.OutOfRange = length list.members < place + n
CopyDue place n bad_size T list status.Broken = HasBroken place n list
CopyDue place n bad_size T list other = ⊥

-- a call that no list is refused, except for memory
abbrev pub MemoryDue : (T : Type 0) → ℕ → QuietList T → Status → Type 0
MemoryDue T width list status.NoMemory = Unit {0}
MemoryDue T width list other = ⊥

-- a call that no list is refused
abbrev pub NeverDueOfList : (T : Type 0) → ℕ → QuietList T → Status → Type 0
NeverDueOfList T width list why = ⊥

-- When each call is refused. `words` is how many words were given
abbrev pub GetDue : ℕ → ℕ → ℕ → QuietList (List ℕ) → Status → Type 0
GetDue place words width = MemberDue place (words ≢ width) (List ℕ)

abbrev pub ListLookDue : ℕ → (T : Type 0) → ℕ → QuietList T → Status → Type 0
ListLookDue place T width = MemberDue place ⊥ T

abbrev pub ListSetDue : ℕ → ℕ → (T : Type 0) → ℕ → QuietList T → Status → Type 0
ListSetDue place words T width = SetDue place (words ≢ width) T

abbrev pub ListCopyDue : ℕ → ℕ → ℕ → QuietList (List ℕ) → Status → Type 0
ListCopyDue place words width = CopyDue place (words / width) (words % width ≢ 0) (List ℕ)
