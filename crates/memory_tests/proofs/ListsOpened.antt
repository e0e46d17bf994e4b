-- A list in one block grows by a place, and its cells get seats.
use Rattle.std.proofs.Common.{◌≡◌, ◌≢◌, ℕ, zero, suc, ◌+◌, ◌<◌, ◌≤◌, Bool, true, false, nat_lt, if◌then◌else◌, List, [], ◌∷◌, ◌++◌, length, length-append, Option, Some, None, refl, sym, ap, ◌∙◌, subst, ⊎_elim, arith}
use Rattle.std.proofs.lemmas.Bool.{cases_lt}
use Rattle.std.proofs.lemmas.Bool.Decides.{nat_tests}
use Rattle.std.specs.Prelude.{get_or, is_some, slice_get}
use base.Fml.{Lft}
use mathlib.Core.Logic.{dite}
use native.Mathlib.Decide.{ℕ_discrete}
use Rattle.tie_core.specs.Tie.{Tie, Stage, Idle, Filled, Broken, fixed_at}
use Rattle.claim_core.specs.Ties.{opened_stage, first_stages}
use Rattle.claim_core.specs.Laws.{FirstStagesGoInOrder}
use Rattle.cell_core.specs.Block.{BlockView, FixesTie, KeepsOtherCells, block_len, cell_at}
use Rattle.cell_core.specs.Fixed.{fixed_in, stage_in}
use Rattle.cell_core.specs.Member.{MemberView, HasNames}
use Rattle.cell_core.specs.Slot.{Names}
use Rattle.memory_tests.specs.Opened.{HasMore, IsListIn, member_stage, values_of}

-- a list with one more member
get_last : {X : Type 0} (xs : List X) (x : X) → slice_get (xs ++ x ∷ []) (length xs) ≡ Some x
get_last [] x = refl
get_last (y ∷ xs) x = get_last xs x

get_other : {X : Type 0} (xs : List X) (x : X) (i : ℕ) → i ≢ length xs → slice_get (xs ++ x ∷ []) i ≡ slice_get xs i
get_other [] x zero other = absurd (other refl)
get_other [] x (suc i) other = refl
get_other (y ∷ xs) x zero other = refl
get_other (y ∷ xs) x (suc i) other = get_other xs x i (λ e. other (ap suc e))

within : {X : Type 0} (xs : List X) (i : ℕ) (x : X) → slice_get xs i ≡ Some x → i < length xs
within [] i x is = absurd (let z = is in cc)
within (h ∷ xs) zero x is = omega arith
within (h ∷ xs) (suc i) x is = let z = within xs i x is in omega (arith, z)

there : {X : Type 0} (xs : List X) (i : ℕ) → i < length xs → (x : X) × (slice_get xs i ≡ Some x)
there [] i near = absurd (omega (arith, near))
there (x ∷ xs) zero near = (x, refl)
there (x ∷ xs) (suc i) near = there xs i (omega (arith, near))

past : {X : Type 0} (xs : List X) (i : ℕ) → length xs ≤ i → slice_get xs i ≡ None
past [] i far = refl
past (x ∷ xs) zero far = absurd (omega (arith, far))
past (x ∷ xs) (suc i) far = past xs i (omega (arith, far))

-- a tie that is fixed at a stage, and then at another
fixed_again : (τ : Option Tie) (s t : Stage) → fixed_in τ ≡ Some t → fixed_in (fixed_at τ s) ≡ Some s
fixed_again None s t at = absurd (let z : None ≡ Some t = at in cc)
fixed_again (Some u) s t at = refl

-- one more place, whose cell is fixed at the stage of its member
module _ {T : Type 0} (old new : BlockView) (row : List (MemberView T)) (epoch : Lft) (m : MemberView T) (list : IsListIn old row epoch)
    (low : length row < block_len old) (len : block_len new ≡ block_len old) (others : KeepsOtherCells old new (length row))
    (fixes : FixesTie old new (length row) (member_stage (Some m))) (names : HasNames (cell_at new (length row)) m.value m.name m.epoch)
    (lasts : m.value ≡ None → m.epoch ≡ epoch) where
  abbrev pub more : List (MemberView T)
  more = row ++ m ∷ []

  staged_here : stage_in (cell_at new (length row)) ≡ Some (member_stage (slice_get more (length row)))
  staged_here =
      ap fixed_in fixes ∙ fixed_again (cell_at old (length row)).tied (member_stage (Some m)) _ (list.staged (length row) low)
      ∙ ap (λ (o : Option (MemberView T)). Some (member_stage o)) (sym (get_last row m))

  staged_else : (i : ℕ) → i < block_len new → i ≢ length row → stage_in (cell_at new i) ≡ Some (member_stage (slice_get more i))
  staged_else i less other =
      ap stage_in (others i other) ∙ list.staged i (omega (arith, less, len))
      ∙ ap (λ (o : Option (MemberView T)). Some (member_stage o)) (sym (get_other row m i other))

  known_here : (u : MemberView T) → slice_get more (length row) ≡ Some u → HasNames (cell_at new (length row)) u.value u.name u.epoch
  known_here u at =
      let same : Some m ≡ Some u = sym (get_last row m) ∙ at in let is : m ≡ u = (let z = same in cc) in
      subst (λ (v : MemberView T). HasNames (cell_at new (length row)) v.value v.name v.epoch) is names

  known_else : (i : ℕ) (u : MemberView T) → slice_get more i ≡ Some u → i ≢ length row → HasNames (cell_at new i) u.value u.name u.epoch
  known_else i u at other =
      subst (λ (c : Names). HasNames c u.value u.name u.epoch) (sym (others i other)) (list.known i u (sym (get_other row m i other) ∙ at))

  broken_here : (u : MemberView T) → slice_get more (length row) ≡ Some u → u.value ≡ None → u.epoch ≡ epoch
  broken_here u at none =
      let same : Some m ≡ Some u = sym (get_last row m) ∙ at in let is : m ≡ u = (let z = same in cc) in
      subst (λ (v : MemberView T). v.value ≡ None → v.epoch ≡ epoch) is lasts none

  pub grown : IsListIn new more epoch
  grown = record {
    fits = let n = length-append row (m ∷ []) in omega (arith, n, low, len);
    staged = λ i less. dite (ℕ_discrete i (length row))
        (λ same. subst (λ (j : ℕ). stage_in (cell_at new j) ≡ Some (member_stage (slice_get more j))) (sym same) staged_here)
        (λ other. staged_else i less other);
    known = λ i u at. dite (ℕ_discrete i (length row))
        (λ same. subst (λ (j : ℕ). HasNames (cell_at new j) u.value u.name u.epoch) (sym same) (known_here u (ap (slice_get more) (sym same) ∙ at)))
        (λ other. known_else i u at other);
    broken = λ i u at none. dite (ℕ_discrete i (length row))
        (λ same. broken_here u (ap (slice_get more) (sym same) ∙ at) none)
        (λ other. list.broken i u (sym (get_other row m i other) ∙ at) none);
  }

-- the same by the number of members
pub grown_at : {T : Type 0} (old new : BlockView) (row : List (MemberView T)) (epoch : Lft) (m : MemberView T) (k : ℕ) → length row ≡ k → IsListIn old row epoch
    → k < block_len old → block_len new ≡ block_len old → KeepsOtherCells old new k → FixesTie old new k (member_stage (Some m))
    → HasNames (cell_at new k) m.value m.name m.epoch → (m.value ≡ None → m.epoch ≡ epoch) → IsListIn new (row ++ m ∷ []) epoch
grown_at {T} old new row epoch m k is list = subst (λ (j : ℕ). j < block_len old → block_len new ≡ block_len old → KeepsOtherCells old new j → FixesTie old new j (member_stage (Some m))
    → HasNames (cell_at new j) m.value m.name m.epoch → (m.value ≡ None → m.epoch ≡ epoch) → IsListIn new (row ++ m ∷ []) epoch)
    is (λ low len others fixes names lasts. grown old new row epoch m list low len others fixes names lasts)

named_value : {T : Type 0} (γ : Names) (v : Option T) (x : T) (name : ℕ) (epoch : Lft) → v ≡ Some x → name ≡ γ.value_name → HasNames γ v name epoch
named_value {T} γ None x name epoch is named = absurd (let z : None ≡ Some x = is in cc)
named_value γ (Some y) x name epoch is named = named

filled_stage : {T : Type 0} (m : MemberView T) (x : T) → m.value ≡ Some x → member_stage (Some m) ≡ Filled
filled_stage {T} m x is = ap (λ (v : Option T). if is_some v then Filled else Broken) is

-- by a place that has a value
pub filled_at : {T : Type 0} (old new : BlockView) (row : List (MemberView T)) (epoch : Lft) (m : MemberView T) (x : T) (k : ℕ) → length row ≡ k → IsListIn old row epoch
    → k < block_len old → block_len new ≡ block_len old → KeepsOtherCells old new k → FixesTie old new k Filled → m.value ≡ Some x → m.name ≡ (cell_at new k).value_name
    → IsListIn new (row ++ m ∷ []) epoch
filled_at {T} old new row epoch m x k is list low len others fixes value named =
    grown_at old new row epoch m k is list low len others (subst (FixesTie old new k) (sym (filled_stage m x value)) fixes)
    (named_value (cell_at new k) m.value x m.name m.epoch value named)
    (λ none. absurd (let z : None ≡ Some x = sym none ∙ value in cc))

-- the first member has its value if it was filled, also with more members
pub first_put : {T : Type 0} (row row' : List (MemberView T)) (x : T) → HasMore row row' (Some x) → (0 < length row → get_or (values_of row) 0 false ≡ true)
    → get_or (values_of row') 0 false ≡ true
first_put {T} [] row' x more prior = ap (λ (r : List (MemberView T)). get_or (values_of r) 0 false) more.1 ∙ ap (λ (v : Option T). is_some v) more.2
first_put {T} (h ∷ row) row' x more prior = ap (λ (r : List (MemberView T)). get_or (values_of r) 0 false) more.1 ∙ prior (omega arith)

pub first_kept : {T : Type 0} (row row' : List (MemberView T)) (v : Option T) → HasMore row row' v → 0 < length row → (0 < length row → get_or (values_of row) 0 false ≡ true)
    → get_or (values_of row') 0 false ≡ true
first_kept [] row' v more some prior = absurd (omega (arith, some))
first_kept {T} (h ∷ row) row' v more some prior = ap (λ (r : List (MemberView T)). get_or (values_of r) 0 false) more.1 ∙ prior some

-- ---- The first stages of the places

stage_below : (base : ℕ) (filled : List Bool) (place : ℕ) (t : Bool) → nat_lt place base ≡ t → place < base
    → (if t then (if get_or filled place false then Filled else Broken) else Idle) ≡ (if get_or filled place false then Filled else Broken)
stage_below base filled place true is less = refl
stage_below base filled place false is less = absurd (grind (arith, nat_tests))

stage_past : (base : ℕ) (filled : List Bool) (place : ℕ) (t : Bool) → nat_lt place base ≡ t → base ≤ place
    → (if t then (if get_or filled place false then Filled else Broken) else Idle) ≡ Idle
stage_past base filled place true is far = absurd (grind (arith, nat_tests))
stage_past base filled place false is far = refl

pub value_at : {T : Type 0} (row : List (MemberView T)) (place : ℕ) (m : MemberView T) → slice_get row place ≡ Some m → get_or (values_of row) place false ≡ is_some m.value
value_at [] place m at = absurd (let z = at in cc)
value_at {T} (h ∷ row) zero m at = let same : h ≡ m = (let z = at in cc) in ap (λ (u : MemberView T). is_some u.value) same
value_at (h ∷ row) (suc place) m at = value_at row place m at

-- the first stage of a place is that of its member
stage_is : {T : Type 0} (row : List (MemberView T)) (base : ℕ) (filled : List Bool) (place : ℕ) → base ≡ length row → filled ≡ values_of row
    → member_stage (slice_get row place) ≡ opened_stage base filled place
stage_is {T} row base filled place all is = ⊎_elim
    (λ less.
    let m = there row place (omega (arith, less, all)) in
    let value : get_or filled place false ≡ is_some m.0.value = ap (λ (l : List Bool). get_or l place false) is ∙ value_at row place m.0 m.1 in
    ap member_stage m.1 ∙ ap (λ (b : Bool). if b then Filled else Broken) (sym value) ∙ sym (stage_below base filled place (nat_lt place base) refl less))
    (λ far. ap member_stage (past row place (omega (arith, far, all))) ∙ sym (stage_past base filled place (nat_lt place base) refl far))
    (cases_lt place base)

no_value : {X : Type 0} (v : Option X) → (if is_some v then Filled else Broken) ≡ Broken → v ≡ None
no_value None is = refl
no_value (Some x) is = absurd (let z = is in cc)

broken_member : {T : Type 0} (row : List (MemberView T)) (epoch : Lft) (place : ℕ) (o : Option (MemberView T)) → slice_get row place ≡ o
    → ((i : ℕ) (m : MemberView T) → slice_get row i ≡ Some m → m.value ≡ None → m.epoch ≡ epoch) → member_stage o ≡ Broken
    → (m : MemberView T) × (slice_get row place ≡ Some m) × (m.value ≡ None) × (m.epoch ≡ epoch)
broken_member row epoch place None at broken is = absurd (let z = is in cc)
broken_member row epoch place (Some m) at broken is = let none : m.value ≡ None = no_value m.value is in (m, at, none, broken place m at none)

-- the cells are fixed at the stages that a word's seats show, which was opened with the list
module _ {T : Type 0} (law : FirstStagesGoInOrder) (block : BlockView) (row : List (MemberView T)) (epoch : Lft) (list : IsListIn block row epoch)
    (base : ℕ) (filled : List Bool) (all : base ≡ length row) (is : filled ≡ values_of row) (n : ℕ) (len : n ≡ block_len block)
    (stages : List Stage) (are : stages ≡ first_stages base filled 0 n) (count : length stages ≡ n) where
  stage_there : (i : ℕ) (s : Stage) → slice_get stages i ≡ Some s → member_stage (slice_get row i) ≡ s
  stage_there i s got =
      let low : i < n = (let near = within stages i s got in omega (arith, near, count)) in
      let same : Some (opened_stage base filled (0 + i)) ≡ Some s = sym (law base filled 0 n i low) ∙ ap (λ (l : List Stage). slice_get l i) (sym are) ∙ got in
      let place : i ≡ 0 + i = omega arith in let stage : opened_stage base filled (0 + i) ≡ s = (let z = same in cc) in
      stage_is row base filled i all is ∙ ap (opened_stage base filled) place ∙ stage

  pub at_stages : (i : ℕ) (s : Stage) → slice_get stages i ≡ Some s → stage_in (cell_at block i) ≡ Some s
  at_stages i s got =
      let low : i < block_len block = (let near = within stages i s got in omega (arith, near, count, len)) in
      list.staged i low ∙ ap (λ (t : Stage). Some t) (stage_there i s got)

  pub broken_for : (i : ℕ) → slice_get stages i ≡ Some Broken
      → (m : MemberView T) × (slice_get row (0 + i) ≡ Some m) × (m.value ≡ None) × (m.epoch ≡ epoch)
  broken_for i got =
      let m = broken_member row epoch i (slice_get row i) refl list.broken (stage_there i Broken got) in
      let place : 0 + i ≡ i = omega arith in (m.0, ap (slice_get row) place ∙ m.1, m.2, m.3)
