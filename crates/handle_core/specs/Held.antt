-- What a handle has, and what is true of it whatever its elements are.
use Rattle.std.specs.Prelude.{◌≡◌, ℕ, List, Option, Some, None}
use Rattle.quiet_core.specs.QuietList.{QuietList}
use Rattle.caller_core.specs.Caller.{CallerView, KeepsCaller}
use Rattle.handle_core.specs.declared.held.AnyCaller.{AnyCaller}
use Rattle.handle_core.specs.declared.held.AnyCaller.TheVariants as hand
use Rattle.handle_core.specs.declared.held.AnyOpaque.{AnyOpaque}
use Rattle.handle_core.specs.declared.held.AnyOpaque.TheVariants as opaque
use Rattle.handle_core.specs.declared.held.AnyList.{AnyList}
use Rattle.handle_core.specs.declared.held.AnyList.TheVariants as list
use Rattle.handle_core.specs.declared.held.AnyOpaqueList.{AnyOpaqueList}
use Rattle.handle_core.specs.declared.held.AnyOpaqueList.TheVariants as opaque_list
use Rattle.handle_core.specs.declared.held.Held.{Held}
use Rattle.handle_core.specs.declared.held.Held.TheVariants as held

-- the hand, whatever the words of an element: a value element is the list of its words
abbrev pub caller_of : AnyCaller → CallerView (List ℕ)
caller_of (hand.One caller) = caller
caller_of (hand.Two caller) = caller
caller_of (hand.Three caller) = caller
caller_of (hand.Four caller) = caller
caller_of (hand.Six caller) = caller
caller_of (hand.Eight caller) = caller

-- the words of an element
abbrev pub words_of : AnyCaller → ℕ
words_of (hand.One caller) = 1
words_of (hand.Two caller) = 2
words_of (hand.Three caller) = 3
words_of (hand.Four caller) = 4
words_of (hand.Six caller) = 6
words_of (hand.Eight caller) = 8

-- the same of opaque elements
abbrev pub opaque_of : AnyOpaque → CallerView (Unit {0})
opaque_of (opaque.One caller) = caller
opaque_of (opaque.Two caller) = caller
opaque_of (opaque.Three caller) = caller
opaque_of (opaque.Four caller) = caller
opaque_of (opaque.Six caller) = caller
opaque_of (opaque.Eight caller) = caller

abbrev pub opaque_words : AnyOpaque → ℕ
opaque_words (opaque.One caller) = 1
opaque_words (opaque.Two caller) = 2
opaque_words (opaque.Three caller) = 3
opaque_words (opaque.Four caller) = 4
opaque_words (opaque.Six caller) = 6
opaque_words (opaque.Eight caller) = 8

-- the list, whatever the words of an element
abbrev pub list_of : AnyList → QuietList (List ℕ)
list_of (list.One members) = members
list_of (list.Two members) = members
list_of (list.Three members) = members
list_of (list.Four members) = members
list_of (list.Six members) = members
list_of (list.Eight members) = members

-- the words of an element of a list
abbrev pub list_words : AnyList → ℕ
list_words (list.One members) = 1
list_words (list.Two members) = 2
list_words (list.Three members) = 3
list_words (list.Four members) = 4
list_words (list.Six members) = 6
list_words (list.Eight members) = 8

-- the same of opaque elements
abbrev pub opaque_list_of : AnyOpaqueList → QuietList (Unit {0})
opaque_list_of (opaque_list.One members) = members
opaque_list_of (opaque_list.Two members) = members
opaque_list_of (opaque_list.Three members) = members
opaque_list_of (opaque_list.Four members) = members
opaque_list_of (opaque_list.Six members) = members
opaque_list_of (opaque_list.Eight members) = members

abbrev pub opaque_list_words : AnyOpaqueList → ℕ
opaque_list_words (opaque_list.One members) = 1
opaque_list_words (opaque_list.Two members) = 2
opaque_list_words (opaque_list.Three members) = 3
opaque_list_words (opaque_list.Four members) = 4
opaque_list_words (opaque_list.Six members) = 6
opaque_list_words (opaque_list.Eight members) = 8

-- the hand is of the same vector, with elements of the same size, and has the same shares
pub record KeepsAny (old new : AnyCaller) : Type 0 where
  pub caller : KeepsCaller (caller_of old) (caller_of new)
  pub words : words_of new ≡ words_of old

pub record KeepsOpaque (old new : AnyOpaque) : Type 0 where
  pub caller : KeepsCaller (opaque_of old) (opaque_of new)
  pub words : opaque_words new ≡ opaque_words old

-- the handle has such a hand still, or the same list
abbrev pub KeepsHeld : Held → Held → Type 0
KeepsHeld (held.Hand old) (held.Hand new) = KeepsAny old new
KeepsHeld (held.OpaqueHand old) (held.OpaqueHand new) = KeepsOpaque old new
KeepsHeld (held.List old) (held.List new) = new ≡ old
KeepsHeld (held.OpaqueList old) (held.OpaqueList new) = new ≡ old
KeepsHeld held.Empty held.Empty = Unit {0}
KeepsHeld old new = ⊥

-- the handle is as full as it was, of the same vector with the same shares, or of the same list
abbrev pub Keeps : Option Held → Option Held → Type 0
Keeps None None = Unit {0}
Keeps (Some old) (Some new) = KeepsHeld old new
Keeps old new = ⊥

-- there is a hand, and this is true of its vector, its places and its last token, whatever the elements are
abbrev pub OnHand : ((T : Type 0) → CallerView T → Type 0) → Held → Type 0
OnHand says (held.Hand any) = says (List ℕ) (caller_of any)
OnHand says (held.OpaqueHand any) = says (Unit {0}) (opaque_of any)
OnHand says other = ⊥

-- there is a hand of the same elements before and after, and this is true of both
abbrev pub OnHands : ((T : Type 0) → CallerView T → CallerView T → Type 0) → Held → Held → Type 0
OnHands says (held.Hand old) (held.Hand new) = says (List ℕ) (caller_of old) (caller_of new)
OnHands says (held.OpaqueHand old) (held.OpaqueHand new) = says (Unit {0}) (opaque_of old) (opaque_of new)
OnHands says old new = ⊥

-- there is a list, and this is true of it, whatever the elements are
abbrev pub OnList : ((T : Type 0) → QuietList T → Type 0) → Held → Type 0
OnList says (held.List any) = says (List ℕ) (list_of any)
OnList says (held.OpaqueList any) = says (Unit {0}) (opaque_list_of any)
OnList says other = ⊥

abbrev pub OnLists : ((T : Type 0) → QuietList T → QuietList T → Type 0) → Held → Held → Type 0
OnLists says (held.List old) (held.List new) = says (List ℕ) (list_of old) (list_of new)
OnLists says (held.OpaqueList old) (held.OpaqueList new) = says (Unit {0}) (opaque_list_of old) (opaque_list_of new)
OnLists says old new = ⊥

-- the words of an element of what the handle has
abbrev pub width_of : Held → ℕ
width_of (held.Hand any) = words_of any
width_of (held.OpaqueHand any) = opaque_words any
width_of (held.List any) = list_words any
width_of (held.OpaqueList any) = opaque_list_words any
width_of held.Empty = 0

-- the handle is not empty, and this is true of what it has
abbrev pub OnHeld : (Held → Type 0) → Option Held → Type 0
OnHeld says (Some it) = says it
OnHeld says None = ⊥

-- the handle is empty neither before nor after, and this is true of both
abbrev pub OnBoth : (Held → Held → Type 0) → Option Held → Option Held → Type 0
OnBoth says (Some old) (Some new) = says old new
OnBoth says old new = ⊥

-- there is a hand
abbrev pub IsHand : Held → Type 0
IsHand = OnHand (λ T caller. Unit {0})
