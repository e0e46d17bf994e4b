-- Statuses have different numbers.
use Rattle.std.proofs.Common.{◌≡◌, ◌∙◌, ◌<◌, ℕ, if◌then◌else◌, refl, sym, ap, subst, arith, w32, to_z, of_z}
use lib.Signed.{mag}
use Rattle.std.proofs.Math.Facts.{to_z-of_z}
use Rattle.std.specs.Prelude.{ℤ, pos, ◌==◌}
use Rattle.handle_core.specs.declared.status.Status.{Status}
use Rattle.handle_core.specs.declared.status.Status.TheVariants as status
use Rattle.handle_core.specs.Status.{IfDone, IfRefused, IsDone, number_of}

-- the number behind an integer that is not negative
abbrev magnitude : ℤ → ℕ
magnitude (pos n) = n
magnitude other = 0

-- the status of a number
abbrev status_at : ℕ → Status
status_at n =
    if n == 1 then status.NoMemory else
    if n == 2 then status.BadLimit else
    if n == 3 then status.Moved else
    if n == 4 then status.BadHandle else
    if n == 5 then status.BadNumber else
    if n == 6 then status.NotWhole else
    if n == 7 then status.BadSize else
    if n == 8 then status.OutOfRange else
    if n == 9 then status.Pending else
    if n == 10 then status.Broken else
    if n == 11 then status.Full else
    if n == 12 then status.Taken else
    if n == 13 then status.Filled else
    status.OtherVector

status_at-number_of : (why : Status) → status_at (number_of why) ≡ why
status_at-number_of status.NoMemory = refl
status_at-number_of status.BadLimit = refl
status_at-number_of status.Moved = refl
status_at-number_of status.BadHandle = refl
status_at-number_of status.BadNumber = refl
status_at-number_of status.NotWhole = refl
status_at-number_of status.BadSize = refl
status_at-number_of status.OutOfRange = refl
status_at-number_of status.Pending = refl
status_at-number_of status.Broken = refl
status_at-number_of status.Full = refl
status_at-number_of status.Taken = refl
status_at-number_of status.Filled = refl
status_at-number_of status.OtherVector = refl

-- no status has the number of a call that did what it was asked
number_of-some : (why : Status) → 0 < number_of why
number_of-some status.NoMemory = omega arith
number_of-some status.BadLimit = omega arith
number_of-some status.Moved = omega arith
number_of-some status.BadHandle = omega arith
number_of-some status.BadNumber = omega arith
number_of-some status.NotWhole = omega arith
number_of-some status.BadSize = omega arith
number_of-some status.OutOfRange = omega arith
number_of-some status.Pending = omega arith
number_of-some status.Broken = omega arith
number_of-some status.Full = omega arith
number_of-some status.Taken = omega arith
number_of-some status.Filled = omega arith
number_of-some status.OtherVector = omega arith

-- a call that did what it was asked was not refused
pub if_done : (code : ℤ) (says : Status → Type 0) → code ≡ pos 0 → IfRefused code says
if_done code says done =
    record {
      due = λ why is.
          let none : 0 ≡ number_of why = ap magnitude (sym done ∙ is) in
          absurd (omega (arith, none, number_of-some why));
    }

-- a number is that of one status
pub same_status : (code : ℤ) (one other : Status) → code ≡ pos (number_of one) → code ≡ pos (number_of other) → one ≡ other
same_status code one other is is_other =
    let same : number_of one ≡ number_of other = ap magnitude (sym is ∙ is_other) in
    sym (status_at-number_of one) ∙ ap status_at same ∙ status_at-number_of other

-- what is true of the status that a call returned is true of each status of that number
pub if_refused : (code : ℤ) (says : Status → Type 0) (why : Status) → code ≡ pos (number_of why) → says why → IfRefused code says
if_refused code says why is true_of_it =
    record { due = λ other is_other. subst says (same_status code why other is is_other) true_of_it }

-- what is true of a call that did what it was asked
pub done_with : (code : ℤ) (says : Type 0) → says → IfDone code says
done_with code says it = record { done = λ _. it }

-- nothing is said of a call that did not
pub not_done : (code : ℤ) (says : Type 0) → ¬ IsDone code → IfDone code says
not_done code says not = record { done = λ done. absurd (not done) }

-- a call that returns the number of another one has done what that one has
pub done_as_called : (code : ℤ) (says : Type 0) → mag code < 2147483648 → IfDone code says → IfDone (to_z w32 (of_z w32 code)) says
done_as_called code says small it = subst (λ z. IfDone z says) (sym (to_z-of_z {w = w32} (record { sfits = small }))) it

-- what a call is proved by that returns a number; and one that returns only those of refusals by itself
pub ruleset codes = (if_done, if_refused, done_with, not_done)

pub ruleset refusals = (if_refused, not_done)
