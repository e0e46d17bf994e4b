-- What a refusal of the crates below says of the status that is made of it.
use Rattle.std.proofs.Common.{◌≡◌, ◌∙◌, ◌+◌, ◌<◌, ◌≤◌, ℕ, Result, refl, sym, subst}
use Rattle.std.specs.Prelude.{Bool, true, false, IsTrue, ◌↔◌, List, length, replicate}
use Rattle.std.proofs.lemmas.List.{length-replicate}
use Rattle.claim_core.specs.Hand.{IsWholeHand, seen_size}
use Rattle.grow_core.specs.declared.errors.GrowError.{GrowError}
use Rattle.grow_core.specs.declared.errors.GrowError.TheVariants as grow
use Rattle.grow_core.specs.declared.errors.Never.{Never}
use Rattle.grow_core.specs.declared.errors.AtError.{AtError}
use Rattle.grow_core.specs.declared.errors.AtError.TheVariants as at
use Rattle.grow_core.specs.declared.errors.MendError.{MendError}
use Rattle.grow_core.specs.declared.errors.MendError.TheVariants as mend
use Rattle.grow_core.specs.declared.errors.ReserveError.{ReserveError}
use Rattle.grow_core.specs.declared.errors.ReserveError.TheVariants as reserve
use Rattle.quiet_core.specs.declared.errors.QuietAt.{QuietAt}
use Rattle.quiet_core.specs.declared.errors.QuietAt.TheVariants as quiet
use Rattle.grow_core.specs.Vector.{limit_of}
use Rattle.grow_core.specs.Growth.{Refuses}
use Rattle.grow_core.specs.AtLeast.{RefusesAtLeast}
use Rattle.grow_core.specs.Read.{IsDueAt}
use Rattle.grow_core.specs.Mend.{IsMendDue}
use Rattle.quiet_core.specs.QuietList.{QuietList}
use Rattle.quiet_core.specs.QuietAt.{IsRefusalAt}
use Rattle.caller_core.specs.Caller.{CallerView, KeepsCaller}
use Rattle.caller_core.specs.Grows.{GrowsBy, GrowsMade, GrowsUpTo, WinsPlaces}
use Rattle.handle_core.specs.declared.status.Status.{Status}
use Rattle.handle_core.specs.declared.status.Status.TheVariants as status
use Rattle.handle_core.specs.Outcomes.{growth_status, read_status, mend_status, reserve_status, close_status, member_status}
use Rattle.handle_core.specs.Calls.{GrowthDue, ReachDue, RoomDue, ReadDue, MendDue, CloseDue, ReachesSize}
use Rattle.handle_core.specs.Lists.{MemberDue}

-- a growth that has no room, or was overtaken; a maker that never refuses is no cause
pub growth_due : {T V : Type 0} (n : ℕ) (bad_size : Type 0) (given : V) (old new : CallerView T) (refused : GrowError T V Never)
    → KeepsCaller old new → Refuses old.vector n given old.hand new.hand refused
    → GrowthDue n bad_size T new (growth_status refused)
growth_due n bad_size given old new (grow.NoMemory back) kept r = tt
growth_due n bad_size given old new (grow.Full size back) kept r =
    subst (λ v. limit_of v < seen_size new.hand + n) (sym kept.vector)
    (subst (λ s. limit_of old.vector < s + n) (sym r.left.ends) r.due)
growth_due n bad_size given old new (grow.Moved size back) kept r = λ whole. r.due.others (sym kept.shares ∙ whole)
growth_due n bad_size given old new (grow.Refused run made cause) kept r = elim cause [ ]
growth_due n bad_size given old new (grow.Taken place found) kept r = absurd r.due

-- what is due of a growth whose words make elements is due of it whether they do or not
pub due_of_good : {T : Type 0} (n : ℕ) (bad_size : Type 0) (caller : CallerView T) (why : Status)
    → GrowthDue n ⊥ T caller why → GrowthDue n bad_size T caller why
due_of_good n bad_size caller status.NoMemory due = due
due_of_good n bad_size caller status.BadLimit due = due
due_of_good n bad_size caller status.Moved due = due
due_of_good n bad_size caller status.BadHandle due = due
due_of_good n bad_size caller status.BadNumber due = due
due_of_good n bad_size caller status.NotWhole due = due
due_of_good n bad_size caller status.BadSize due = absurd due
due_of_good n bad_size caller status.OutOfRange due = due
due_of_good n bad_size caller status.Pending due = due
due_of_good n bad_size caller status.Broken due = due
due_of_good n bad_size caller status.Full due = due
due_of_good n bad_size caller status.Taken due = due
due_of_good n bad_size caller status.Filled due = due
due_of_good n bad_size caller status.OtherVector due = due

-- a growth up to a size that is above the limit
pub reach_due : {T V : Type 0} (size : ℕ) (bad_size : Type 0) (old new : CallerView T) (refused : GrowError T V Never)
    → KeepsCaller old new → RefusesAtLeast old.vector size old.hand new.hand refused
    → ReachDue size bad_size T new (growth_status refused)
reach_due size bad_size old new (grow.NoMemory back) kept r = tt
reach_due size bad_size old new (grow.Full found back) kept r =
    subst (λ v. limit_of v < size) (sym kept.vector) r.due
reach_due size bad_size old new (grow.Moved found back) kept r = absurd r.due
reach_due size bad_size old new (grow.Refused run made cause) kept r = elim cause [ ]
reach_due size bad_size old new (grow.Taken place found) kept r = absurd r.due

-- room that is above the limit
pub room_due : {T : Type 0} (size width : ℕ) (caller : CallerView T) (refused : ReserveError)
    → (refused ≡ reserve.TooLong → limit_of caller.vector < size) → RoomDue size T width caller (reserve_status refused)
room_due size width caller reserve.NoMemory long = tt
room_due size width caller reserve.TooLong long = long refl

-- a read of a place that has nothing to read
pub read_due : {T : Type 0} (place : ℕ) (bad_size : Type 0) (old new : CallerView T) (refused : AtError)
    → IsDueAt old.vector place old.hand new.hand refused → ReadDue place bad_size T new (read_status refused)
read_due place bad_size old new (at.OutOfRange size) due = subst (λ s. s ≤ place) (sym due.1.ends) due.0
read_due place bad_size old new at.Pending due = due
read_due place bad_size old new (at.Broken spoilt) due = due.0

-- a mend of a place that is not broken
pub mend_due : {T : Type 0} (place : ℕ) (bad_size : Type 0) (old new : CallerView T) (refused : MendError T)
    → IsMendDue old.vector place old.hand new.hand refused → MendDue place bad_size T new (mend_status refused)
mend_due place bad_size old new (mend.OutOfRange size) due = subst (λ s. s ≤ place) (sym due.1.ends) due.0
mend_due place bad_size old new mend.Pending due = due
mend_due place bad_size old new (mend.Filled placed) due = due.0

-- a vector that was not closed
pub close_due : {T : Type 0} (width : ℕ) (caller : CallerView T) (whole : Bool) → IsTrue whole ↔ IsWholeHand caller.hand
    → CloseDue T width caller (close_status whole)
close_due width caller true is = is.0 refl
close_due width caller false is = λ all. let wrong : false ≡ true = is.1 all in absurd (cc)

-- a member that is not there, or broken
pub member_due : {T : Type 0} (place : ℕ) (bad_size : Type 0) (list : QuietList T) (refused : QuietAt)
    → IsRefusalAt list.members place refused → MemberDue place bad_size T list (member_status refused)
member_due place bad_size list (quiet.OutOfRange size) due = due.1
member_due place bad_size list quiet.Broken due = due

-- a growth of a list of values wins its places
wins_grown : {T : Type 0} (values : List T) (n : ℕ) (old new : CallerView T) (place : ℕ)
    → n ≡ length values → GrowsBy values old new place → WinsPlaces n old new place
wins_grown values n old new place is g =
    record {
      run = g.grown.run;
      here = g.here;
      won = record {
        n = g.won.n ∙ sym is;
        run = g.won.run;
        owned = g.won.owned;
        not_below = g.won.not_below;
        alone = g.won.alone;
      };
    }

-- a growth of m copies wins m places
pub wins_copies : {T : Type 0} (x : T) (n m : ℕ) (old new : CallerView T) (place : ℕ)
    → n ≡ m → GrowsBy (replicate m x) old new place → WinsPlaces n old new place
wins_copies x n m old new place is g = wins_grown (replicate m x) n old new place (is ∙ sym (length-replicate m x)) g

-- and is refused as any growth of m places is
pub copies_due : {T V : Type 0} (x : T) (n m : ℕ) (bad_size : Type 0) (given : V) (old new : CallerView T) (refused : GrowError T V Never)
    → n ≡ m → KeepsCaller old new → Refuses old.vector (length (replicate m x)) given old.hand new.hand refused
    → GrowthDue n bad_size T new (growth_status refused)
copies_due x n m bad_size given old new refused is kept r =
    growth_due n bad_size given old new refused kept
    (subst (λ k. Refuses old.vector k given old.hand new.hand refused) (length-replicate m x ∙ sym is) r)

-- a growth by a maker wins its places
pub wins_made : {F T E : Type 0} (step : F → ℕ → Result T E → F → Type 0) (maker : F) (n : ℕ) (old new : CallerView T) (place : ℕ)
    → GrowsMade step maker n old new place → WinsPlaces n old new place
wins_made step maker n old new place g =
    record {
      run = g.grown.run;
      here = g.here;
      won = record {
        n = g.won.n;
        run = g.won.won.run;
        owned = g.won.won.owned;
        not_below = g.won.won.not_below;
        alone = g.won.won.alone;
      };
    }

-- the same of a growth up to a size
pub reaches : {F T E : Type 0} (step : F → ℕ → Result T E → F → Type 0) (maker : F) (size : ℕ) (old new : CallerView T) (place n : ℕ)
    → GrowsUpTo step maker size old new place n → ReachesSize size place n old new
reaches step maker size old new place n g =
    record {
      some = λ some. let won = g.some some in (won.0, wins_made step maker n old new place won.1);
      none = λ none. let seen = g.none none in (seen.0, seen.1);
    }
