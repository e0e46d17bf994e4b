-- Cells stay of their kind, and get the ties that a new block is given.
use Rattle.std.proofs.Common.{Bool, true, false, take, drop, append_assoc, append-nil, take-append-drop, length-append, ◌≡◌, ◌≢◌, ◌<◌, ℕ, zero, suc, List, [], ◌∷◌, ◌++◌, length, set, refl, sym, ap, ◌∙◌, subst, arith}
use Rattle.std.specs.Prelude.{Option, Some, None}
use Rattle.tie_core.specs.Tie.{Tie, Stage, fixed_at}
use Rattle.cell_core.specs.Slot.{Names, IsPlain, ArePlain, AreTied, cell_in}
use Rattle.cell_core.specs.Laid.{IsOfKind, AreOfKind, HasOneRenamed, HasMore, HasMoreTied}
use Rattle.cell_core.specs.Run.{AreRunOfKind, cells_from}
use Rattle.cell_core.specs.Block.{BlockView, RenewsCell, StaysPlain, cell_at}

-- one cell that is renamed, if the former is plain
plain_set : (γs : List Names) (i : ℕ) (c : Names) → (IsPlain (cell_in γs i) → IsPlain c) → ((j : ℕ) → IsPlain (cell_in γs j)) → (j : ℕ) → IsPlain (cell_in (set γs i c) j)
plain_set [] i c so plain j = plain j
plain_set (γ ∷ γs) zero c so plain zero = so (plain 0)
plain_set (γ ∷ γs) zero c so plain (suc j) = plain (suc j)
plain_set (γ ∷ γs) (suc i) c so plain zero = plain 0
plain_set (γ ∷ γs) (suc i) c so plain (suc j) = plain_set γs i c so (λ k. plain (suc k)) j

pub renamed_kind : (tied : Bool) (old : List Names) (i : ℕ) (new : List Names) → HasOneRenamed old i new → AreOfKind tied old → AreOfKind tied new
renamed_kind tied old i new renamed are = record { plain = λ none. subst (λ (γs : List Names). (j : ℕ) → IsPlain (cell_in γs j)) (sym renamed.2) (plain_set old i renamed.0 renamed.1.2 (are.plain none)) }

pub plain_in : (γs : List Names) → ArePlain γs → (j : ℕ) → IsPlain (cell_in γs j)
plain_in [] are j = refl
plain_in (γ ∷ γs) are zero = are.0
plain_in (γ ∷ γs) are (suc j) = plain_in γs are.1 j

plain_more : (old γs : List Names) → ArePlain γs → ((j : ℕ) → IsPlain (cell_in old j)) → (j : ℕ) → IsPlain (cell_in (old ++ γs) j)
plain_more [] γs are plain j = plain_in γs are j
plain_more (γ ∷ old) γs are plain zero = plain 0
plain_more (γ ∷ old) γs are plain (suc j) = plain_more old γs are (λ k. plain (suc k)) j

pub more_kind : (old : List Names) (n : ℕ) (new : List Names) → HasMore old n new → AreOfKind false old → AreOfKind false new
more_kind old n new more are = record { plain = λ none. subst (λ (γs : List Names). (j : ℕ) → IsPlain (cell_in γs j)) (sym more.2) (plain_more old more.0 more.3 (are.plain refl)) }

pub plain_run : (n i : ℕ) (γs : List Names) → ((j : ℕ) → IsPlain (cell_in γs j)) → ArePlain (cells_from n i γs)
plain_run zero i γs plain = tt
plain_run (suc n) i γs plain = (plain i, plain_run n (suc i) γs plain)

pub plain_from : (n i : ℕ) (γs : List Names) → AreOfKind false γs → ArePlain (cells_from n i γs)
plain_from n i γs are = plain_run n i γs (are.plain refl)

pub none_kind : (tied : Bool) → AreOfKind tied []
none_kind tied = record { plain = λ none j. refl }

pub cell_plain : (γs : List Names) (i : ℕ) → AreOfKind false γs → IsPlain (cell_in γs i)
cell_plain γs i are = are.plain refl i

-- cells are not tied if each of them is not
pub plain_each : (γs : List Names) → ((i : ℕ) → i < length γs → IsPlain (cell_in γs i)) → ArePlain γs
plain_each [] plain = tt
plain_each (γ ∷ γs) plain = (plain 0 (omega arith), plain_each γs (λ i near. plain (suc i) (omega (arith, near))))

-- cells of a kind that is not tied are not tied
pub all_plain : (γs : List Names) → AreOfKind false γs → ArePlain γs
all_plain γs are = plain_each γs (λ i near. are.plain refl i)

-- cells that are not tied are of each kind
pub plain_kind : (tied : Bool) (γs : List Names) → AreOfKind false γs → AreOfKind tied γs
plain_kind tied γs are = record { plain = λ none. are.plain refl }

true_is_not : true ≡ false → ⊥
true_is_not e = cc

-- cells that may be tied are of that kind
pub tied_kind : (γs : List Names) → AreOfKind true γs
tied_kind γs = record { plain = λ none. absurd (true_is_not none) }

-- the same of a run of them
pub tied_run_kind : (γs : List Names) → AreRunOfKind true γs
tied_run_kind γs = record { plain = λ none. absurd (true_is_not none) }

-- the first cell of a run of a kind is of that kind, and so are the others
pub run_first : (tied : Bool) (γ : Names) (γs Γs : List Names) → γ ∷ γs ≡ Γs → AreRunOfKind tied Γs → IsOfKind tied γ
run_first tied γ γs Γs is are = record { plain = λ none. (subst ArePlain (sym is) (are.plain none)).0 }

pub run_others : (tied : Bool) (γ : Names) (γs Γs : List Names) → γ ∷ γs ≡ Γs → AreRunOfKind tied Γs → AreRunOfKind tied γs
run_others tied γ γs Γs is are = record { plain = λ none. (subst ArePlain (sym is) (are.plain none)).1 }

-- a tie that is fixed again is fixed at the later stage
pub fixed_again : (τ : Option Tie) (a b : Stage) → fixed_at (fixed_at τ a) b ≡ fixed_at τ b
fixed_again None a b = refl
fixed_again (Some t) a b = refl

-- a cell that is not tied is not tied when its tie is fixed
pub fixed_plain : (τ τ' : Option Tie) (s : Stage) → τ' ≡ fixed_at τ s → τ ≡ None → τ' ≡ None
fixed_plain None τ' s is none = is
fixed_plain (Some t) τ' s is none = absurd (let z = none in cc)

some_value : {X : Type 0} (x : X) → Some x ≡ None → ⊥
some_value x e = cc

-- nor when it is settled: it stays as it is, or gets fresh names
pub settled_plain : {X : Type 0} (old new : BlockView) (offset : ℕ) (v : Option X) → (v ≢ None → new ≡ old) → (v ≡ None → RenewsCell old new offset) → StaysPlain old new offset
settled_plain old new offset None same another plain = (another refl).2 plain
settled_plain old new offset (Some x) same another plain = subst (λ (b : BlockView). IsPlain (cell_at b offset)) (sym (same (some_value x))) plain

-- cells with ties, and more of them
tied_join : (τs us : List (Option Tie)) (γs Γs : List Names) → AreTied τs γs → AreTied us Γs → AreTied (τs ++ us) (γs ++ Γs)
tied_join [] us [] Γs at also = also
tied_join [] us (γ ∷ γs) Γs at also = absurd at
tied_join (τ ∷ τs) us [] Γs at also = absurd at
tied_join (τ ∷ τs) us (γ ∷ γs) Γs at also = (at.0, tied_join τs us γs Γs at.1 also)

-- some cells have the first of some ties, and the others are left
pub record HaveFirst (all : List (Option Tie)) (left : List (Option Tie)) (γs : List Names) : Type 0 where
  pub first : List (Option Tie)
  pub split : all ≡ first ++ left
  pub tied : AreTied first γs

pub first_none : (all : List (Option Tie)) → HaveFirst all all []
first_none all = record { first = []; split = refl; tied = tt }

pub first_more : (all left : List (Option Tie)) (old : List Names) (n : ℕ) (new : List Names) → HaveFirst all left old → HasMoreTied old n new left → HaveFirst all (drop n left) new
first_more all left old n new have more = record {
  first = have.first ++ take n left;
  split = have.split ∙ ap (λ (us : List (Option Tie)). have.first ++ us) (sym (take-append-drop n left)) ∙ sym (append_assoc have.first (take n left) (drop n left));
  tied = subst (λ (γs : List Names). AreTied (have.first ++ take n left) γs) (sym more.2) (tied_join have.first (take n left) old more.0 have.tied more.3);
}

tied_length : (τs : List (Option Tie)) (γs : List Names) → AreTied τs γs → length τs ≡ length γs
tied_length [] [] at = refl
tied_length [] (γ ∷ γs) at = absurd at
tied_length (τ ∷ τs) [] at = absurd at
tied_length (τ ∷ τs) (γ ∷ γs) at = ap suc (tied_length τs γs at.1)

none_left : (left : List (Option Tie)) → length left ≡ 0 → left ≡ []
none_left [] none = refl
none_left (τ ∷ left) none = absurd (omega arith)

pub first_all : (all left : List (Option Tie)) (γs : List Names) → HaveFirst all left γs → length γs ≡ length all → AreTied all γs
first_all all left γs have same =
    let long = ap length have.split ∙ length-append have.first left in let of = tied_length have.first γs have.tied in
    let none : left ≡ [] = none_left left (omega (arith, long, of)) in
    subst (λ (τs : List (Option Tie)). AreTied τs γs) (sym (have.split ∙ ap (λ (us : List (Option Tie)). have.first ++ us) none ∙ append-nil have.first)) have.tied
