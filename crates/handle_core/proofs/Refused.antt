-- A refusal that is due by the content of a handle is due by the handle.
use Rattle.std.proofs.Common.{◌≡◌, sym, subst, inl, inr, refl}
use Rattle.std.specs.Prelude.{ℤ, Option, Some, None, IsSome}
use Rattle.handle_core.specs.declared.status.Status.{Status}
use Rattle.handle_core.specs.declared.status.Status.TheVariants as status
use Rattle.handle_core.specs.declared.held.Held.{Held}
use Rattle.handle_core.specs.Status.{IfRefused}
use Rattle.handle_core.specs.Calls.{IsDueIn, IsDueOrFull, IsOpenDueIn, IsJoinDue, JoinDue}

-- what is due of what the handle has is due of the handle
pub due_in : (due : Held → Status → Type 0) (handle : Option Held) (held : Held) (why : Status)
    → handle ≡ Some held → due held why → IsDueIn due handle why
due_in due handle held why is it = subst (λ (h : Option Held). IsDueIn due h why) (sym is) it

-- the same of the number of a refusal
pub if_due_in : (due : Held → Status → Type 0) (handle : Option Held) (held : Held) (code : ℤ)
    → handle ≡ Some held → IfRefused code (due held) → IfRefused code (IsDueIn due handle)
if_due_in due handle held code is it = record { due = λ why of. due_in due handle held why is (it.due why of) }

-- an empty handle is a bad handle
pub due_empty : (due : Held → Status → Type 0) (handle : Option Held) → handle ≡ None → IsDueIn due handle status.BadHandle
due_empty due handle is = subst (λ (h : Option Held). IsDueIn due h status.BadHandle) (sym is) refl

-- a refusal that is due by a handle is due in a call that also fills a second handle, even if the second one was full
pub due_also_in : (due : Held → Status → Type 0) (other handle : Option Held) (held : Held) (why : Status)
    → handle ≡ Some held → due held why → IsDueOrFull due other handle why
due_also_in due other handle held why is it = inr (due_in due handle held why is it)

pub due_also_empty : (due : Held → Status → Type 0) (other handle : Option Held)
    → handle ≡ None → IsDueOrFull due other handle status.BadHandle
due_also_empty due other handle is = inr (due_empty due handle is)

pub due_full : (due : Held → Status → Type 0) (other handle : Option Held)
    → IsSome other → IsDueOrFull due other handle status.BadHandle
due_full due other handle full = inl (full, refl)

-- the same of a call that opens a vector
pub due_open : (due : Status → Type 0) (handle : Option Held) (why : Status) → due why → IsOpenDueIn due handle why
due_open due handle why it = inr it

pub due_open_full : (due : Status → Type 0) (handle : Option Held) → IsSome handle → IsOpenDueIn due handle status.BadHandle
due_open_full due handle full = inl (full, refl)

-- the same of two hands that are joined
pub due_join : (handle other : Option Held) (held more : Held) (why : Status)
    → handle ≡ Some held → other ≡ Some more → JoinDue held more why → IsJoinDue handle other why
due_join handle other held more why is is_more it =
    subst (λ (h : Option Held). IsJoinDue h other why) (sym is)
    (subst (λ (h : Option Held). IsJoinDue (Some held) h why) (sym is_more) it)

pub due_join_empty : (handle other : Option Held) → handle ≡ None → IsJoinDue handle other status.BadHandle
due_join_empty handle other is = subst (λ (h : Option Held). IsJoinDue h other status.BadHandle) (sym is) refl

pub due_join_other : (handle other : Option Held) (held : Held)
    → handle ≡ Some held → other ≡ None → IsJoinDue handle other status.BadHandle
due_join_other handle other held is is_none =
    subst (λ (h : Option Held). IsJoinDue h other status.BadHandle) (sym is)
    (subst (λ (h : Option Held). IsJoinDue (Some held) h status.BadHandle) (sym is_none) refl)

-- what is due of a handle whose call returns a number, of one that is split, and of one that joins another
pub ruleset due_number = (if_due_in, due_empty)

pub ruleset due_split = (due_also_in, due_also_empty, due_full)

pub ruleset due_joined = (due_join, due_join_empty, due_join_other)
