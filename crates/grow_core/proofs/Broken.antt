-- How many members are broken.
use Rattle.std.proofs.Common.{zero, suc, ◌≡◌, ◌≢◌, ℕ, ◌+◌, ◌<◌, ◌≤◌, List, [], ◌∷◌, ◌++◌, length, take, drop, Option, Some, None, refl, sym, ap, ◌∙◌, arith}
use Rattle.std.specs.Prelude.{slice_get, slice_set}
use Rattle.std.proofs.lemmas.List.{map-append, length-map, length-take, length-take-le, length-drop, take-map, drop-map}
use mathlib.Core.Logic.{dite}
use native.Mathlib.Decide.{ℕ_discrete}
use Rattle.cell_core.specs.Block.{BlockView, IsMemberAt, AreFilledFrom}
use Rattle.cell_core.specs.Member.{MemberView}
use Rattle.grow_core.specs.Parts.{broken_count, one_if_broken, values_in}
use Rattle.grow_core.specs.PopSegment.{IsUnbroken}
use Rattle.grow_core.specs.Slices.{HasBroken}
use Rattle.grow_core.proofs.Places.{value_at, values_set, within_length}
use Rattle.grow_core.proofs.PopSegment.{last_is}
use Rattle.grow_core.proofs.Settled.{member_at}
use Rattle.grow_core.proofs.Stretches.{take_next}
use Rattle.grow_core.proofs.Sides.{get_drop, get_take}

-- a member is counted once at most
pub one_at_most : {X : Type 0} (member : Option X) → one_if_broken member ≤ 1
one_at_most None = omega arith
one_at_most (Some x) = omega arith

-- no more are broken than there are
pub few_broken : {X : Type 0} (members : List (Option X)) → broken_count members ≤ length members
few_broken [] = omega arith
few_broken (member ∷ members) = let one = one_at_most member in let rest = few_broken members in omega (arith, one, rest)

pub count_append : {X : Type 0} (xs ys : List (Option X)) → broken_count (xs ++ ys) ≡ broken_count xs + broken_count ys
count_append [] ys = omega arith
count_append (x ∷ xs) ys = let rest = count_append xs ys in omega (arith, rest)

-- one more
pub count_more : {X : Type 0} (xs : List (Option X)) (x : Option X) → broken_count (xs ++ x ∷ []) ≡ broken_count xs + one_if_broken x
count_more [] x = omega arith
count_more (y ∷ xs) x = let rest = count_more xs x in omega (arith, rest)

-- another member at a place
pub count_set : {X : Type 0} (xs : List (Option X)) (i : ℕ) (old new : Option X) → slice_get xs i ≡ Some old
    → broken_count (slice_set xs i new) + one_if_broken old ≡ broken_count xs + one_if_broken new
count_set [] i old new is = absurd (let z = is in cc)
count_set {X} (y ∷ xs) zero old new is = let same : y ≡ old = (let z = is in cc) in let one = ap (λ (m : Option X). one_if_broken m) same in omega (arith, one)
count_set (y ∷ xs) (suc i) old new is = let rest = count_set xs i old new is in omega (arith, rest)

-- if none is counted, none is broken
pub none_counted : {X : Type 0} (xs : List (Option X)) → broken_count xs ≡ 0 → IsUnbroken xs
none_counted [] none i is = absurd (let z = is in cc)
none_counted {X} (x ∷ xs) none zero is = let same : x ≡ None = (let z = is in cc) in let one = ap (λ (m : Option X). one_if_broken m) same in omega (arith, one, none)
none_counted (x ∷ xs) none (suc i) is = none_counted xs (omega (arith, none)) i is

-- if none is broken, none is counted
pub unbroken_count : {X : Type 0} (xs : List (Option X)) → IsUnbroken xs → broken_count xs ≡ 0
unbroken_count [] none = refl
unbroken_count (None ∷ xs) none = absurd (none 0 refl)
unbroken_count (Some x ∷ xs) none = let rest = unbroken_count xs (λ i is. none (suc i) is) in omega (arith, rest)

-- if some are counted, one is broken
pub some_counted : {X : Type 0} (xs : List (Option X)) → 0 < broken_count xs → HasBroken xs
some_counted [] some = absurd (omega (arith, some))
some_counted (None ∷ xs) some = (0, refl)
some_counted (Some x ∷ xs) some = let rest = some_counted xs (omega (arith, some)) in (suc rest.0, rest.1)

-- what is known after a member was added to a row, or removed from it
pub row_more : {T : Type 0} (known known' : List (MemberView T)) (m : MemberView T) → known' ≡ known ++ m ∷ []
    → broken_count (values_in known') ≡ broken_count (values_in known) + one_if_broken m.value
row_more {T} known known' m is =
    ap (λ (xs : List (MemberView T)). broken_count (values_in xs)) is ∙ ap (λ (xs : List (Option T)). broken_count xs) (map-append (λ (u : MemberView T). u.value) known (m ∷ [])) ∙ count_more (values_in known) m.value

-- no more members of a row are broken than it has
pub few_in_all : {T : Type 0} (known : List (MemberView T)) → broken_count (values_in known) ≤ length known
few_in_all {T} known = let few = few_broken (values_in known) in let long = length-map known (λ (u : MemberView T). u.value) in omega (arith, few, long)

-- or several
pub row_append : {T : Type 0} (known more known' : List (MemberView T)) → known' ≡ known ++ more
    → broken_count (values_in known') ≡ broken_count (values_in known) + broken_count (values_in more)
row_append {T} known more known' is =
    ap (λ (xs : List (MemberView T)). broken_count (values_in xs)) is ∙ ap (λ (xs : List (Option T)). broken_count xs) (map-append (λ (u : MemberView T). u.value) known more) ∙ count_append (values_in known) (values_in more)

-- the value of the member that was removed is the one that was read before
pub popped_value : {T : Type 0} (known known' : List (MemberView T)) (last m : MemberView T) (i : ℕ) → known ≡ known' ++ last ∷ [] → length known' ≡ i → slice_get known i ≡ Some m
    → last.value ≡ m.value
popped_value {T} known known' last m i is here there = ap (λ (u : MemberView T). u.value) (last_is known known' last m i is here there)

-- a member of a row was replaced
pub row_set : {T : Type 0} (known known' : List (MemberView T)) (i : ℕ) (old new : MemberView T) → known' ≡ slice_set known i new → slice_get known i ≡ Some old
    → broken_count (values_in known') + one_if_broken old.value ≡ broken_count (values_in known) + one_if_broken new.value
row_set {T} known known' i old new is at =
    let same = ap (λ (xs : List (MemberView T)). broken_count (values_in xs)) is in let values = ap (λ (xs : List (Option T)). broken_count xs) (values_set known i new) in
    let set = count_set (values_in known) i old.value new.value (value_at known i old at) in omega (arith, same, values, set)

-- a member is counted with the others
count_there : {X : Type 0} (xs : List (Option X)) (i : ℕ) (x : Option X) → slice_get xs i ≡ Some x → one_if_broken x ≤ broken_count xs
count_there [] i x is = absurd (let z = is in cc)
count_there {X} (y ∷ xs) zero x is = let same : y ≡ x = (let z = is in cc) in let one = ap (λ (m : Option X). one_if_broken m) same in omega (arith, one)
count_there (y ∷ xs) (suc i) x is = let rest = count_there xs i x is in omega (arith, rest)

pub counted_there : {T : Type 0} (known : List (MemberView T)) (i : ℕ) (m : MemberView T) → slice_get known i ≡ Some m → one_if_broken m.value ≤ broken_count (values_in known)
counted_there known i m at = count_there (values_in known) i m.value (value_at known i m at)

-- cells that were found filled add none
pub filled_count : {T : Type 0} (block : BlockView) (offset : ℕ) (found : List (MemberView T)) → AreFilledFrom block offset found → broken_count (values_in found) ≡ 0
filled_count {T} block offset found filled = unbroken_count (values_in found) (λ i is.
    let near = within_length (values_in found) i None is in let long = length-map found (λ (u : MemberView T). u.value) in
    let m = member_at found i (omega (arith, near, long)) in
    let both : Some m.0.value ≡ Some None = sym (value_at found i m.0 m.1) ∙ is in let none : m.0.value ≡ None = (let z = both in cc) in (filled i m.0 m.1).1 none)

-- the cells of a stretch: of those that were found filled none is counted, and the one after them is
pub stretch_count : {T : Type 0} (block : BlockView) (offset : ℕ) (row found row' row'' : List (MemberView T)) (m : MemberView T) → AreFilledFrom block offset found
    → row' ≡ row ++ found → row'' ≡ row' ++ m ∷ [] → broken_count (values_in row'') ≡ broken_count (values_in row) + one_if_broken m.value
stretch_count block offset row found row' row'' m filled first next =
    let none = filled_count block offset found filled in let more = row_append row found row' first in let one = row_more row' row'' m next in omega (arith, none, more, one)

-- where none is counted, what is known of a place is its value
pub value_known : {T : Type 0} (known : List (MemberView T)) (i : ℕ) (m : MemberView T) → broken_count (values_in known) ≡ 0 → slice_get known i ≡ Some m → m.value ≢ None
value_known {T} known i m none at = λ no. none_counted (values_in known) none i (value_at known i m at ∙ ap (λ (v : Option T). Some v) no)

-- a member of a part of a list
get_part : {X : Type 0} (xs : List X) (p n i : ℕ) (x : X) → slice_get (take n (drop p xs)) i ≡ Some x → (i < n) × (slice_get xs (p + i) ≡ Some x)
get_part xs p n i x at =
    let near = within_length (take n (drop p xs)) i x at in let long = length-take n (drop p xs) in let less : i < n = omega (arith, near, long) in
    (less, sym (get_drop p xs i) ∙ (sym (get_take n (drop p xs) i less) ∙ at))

pub part_length : {X : Type 0} (xs : List X) (p n : ℕ) → p + n ≤ length xs → length (take n (drop p xs)) ≡ n
part_length xs p n within = let rest = length-drop p xs in length-take-le n (drop p xs) (omega (arith, rest, within))

-- the values of a part of a row
pub values_part : {T : Type 0} (known : List (MemberView T)) (p n : ℕ) → values_in (take n (drop p known)) ≡ take n (drop p (values_in known))
values_part {T} known p n = let value = λ (u : MemberView T). u.value in sym (take-map value n (drop p known)) ∙ ap (take n) (sym (drop-map value p known))

-- the cells of a part have values
pub filled_part : {T : Type 0} (block : BlockView) (offset : ℕ) (known : List (MemberView T)) (p n : ℕ)
    → ((i : ℕ) (m : MemberView T) → i < n → slice_get known (p + i) ≡ Some m → IsMemberAt block (offset + i) m)
    → ((i : ℕ) (m : MemberView T) → i < n → slice_get known (p + i) ≡ Some m → m.value ≢ None) → AreFilledFrom block offset (take n (drop p known))
filled_part block offset known p n are some i m at = let part = get_part known p n i m at in (are i m part.0 part.1, some i m part.0 part.1)

-- one more of the members of a part
pub part_more : {X : Type 0} (xs : List X) (p i : ℕ) (x : X) (part : List X) → part ≡ take i (drop p xs) → slice_get xs (p + i) ≡ Some x → part ++ x ∷ [] ≡ take (i + 1) (drop p xs)
part_more xs p i x part is at = ap (λ us. us ++ x ∷ []) is ∙ sym (take_next (drop p xs) i x (get_drop p xs i ∙ at))

-- the next member is not broken either
pub unbroken_more : {T : Type 0} (row : List (MemberView T)) (place i : ℕ) (m : MemberView T) (x : T) → slice_get row (place + i) ≡ Some m → m.value ≡ Some x
    → ((j : ℕ) (k : MemberView T) → j < i → slice_get row (place + j) ≡ Some k → k.value ≢ None)
    → (j : ℕ) (k : MemberView T) → j < i + 1 → slice_get row (place + j) ≡ Some k → k.value ≢ None
unbroken_more {T} row place i m x at is before j k less there none = dite (ℕ_discrete j i)
    (λ same. let both : Some m ≡ Some k = sym at ∙ (ap (λ (n : ℕ). slice_get row (place + n)) (sym same) ∙ there) in let one : m ≡ k = (let z = both in cc) in
    let gone : Some x ≡ None = sym is ∙ (ap (λ (u : MemberView T). u.value) one ∙ none) in absurd (let z = gone in cc))
    (λ other. before j k (omega (arith, less, other)) there none)
