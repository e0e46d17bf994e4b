-- A cell whose tie is fixed at a stage is at that stage, and its state is one of that stage. Assumes `Logic`.
use Rattle.std.proofs.Common.{◌≡◌, ◌≢◌, ℕ, zero, suc, ◌+◌, ◌<◌, ◌≤◌, List, [], ◌∷◌, length, refl, sym, ap, ◌∙◌, subst, arith}
use Rattle.std.specs.Prelude.{Option, Some, None}
use seplogic.Ra.Ura.{Ura}
use base.Logic.{SProp, ent, ex, guard, upd, upd_i}
use base.Fml.{Lft, GName, Fml, ftrue, fsep}
use types.Logic.{Logic, sem}
use types.Kit.{‵, raw, ◌⊛◌, some, given, ◌$◌, ◌∵◌, !, qed, move, use1, use2, split, check, fsplit, fsplit3, fjoin, fjoin3, fpick, fpack, pick, learn, show, suffices, settle, done}
use denote.RattleType.{RattleType}
use denote.Steps.{nothing}
use Rattle.tie_core.specs.Tie.{Tie, Stage, Idle, Begun, Mending, Filled, Broken, stage_number, Shows, seat_of, seat_at}
use Rattle.cell_core.specs.Slot.{Names, Phase, free, begun, busy, full, broken, broken_by_owner, state, stage, fact, cell, cell_in}
use Rattle.cell_core.specs.Fixed.{fixed_in, stage_in, HasValueByStage, ShowsStage, ShowStages}
use Rattle.cell_core.specs.Run.{AreFilledIn}
use Rattle.cell_core.specs.Fields.{field}
use Rattle.cell_core.proofs.WordSteps.{S, Next, Law}

none_is_not : (s : Stage) → None ≡ Some s → ⊥
none_is_not s e = cc

some_is_not : {X : Type 0} (x : X) → Some x ≡ None → ⊥
some_is_not x e = cc

abbrev stage_or : Stage → Option Stage → Stage
stage_or d None = d
stage_or d (Some s) = s

some_same : (a b : Stage) → Some a ≡ Some b → a ≡ b
some_same a b e = ap (stage_or a) e

-- the tie is of a cell at this stage, if it is fixed
abbrev pub AgreesAt : Option Tie → Stage → Type 0
AgreesAt τ s = (a : Stage) → fixed_in τ ≡ Some a → s ≡ a

-- a state shows the stage
pub stage_shown : {X : Type 0} (s : Phase X) → Shows (stage s) (state s)
stage_shown free = refl
stage_shown begun = refl
stage_shown busy = refl
stage_shown (full x) = refl
stage_shown broken = omega arith
stage_shown broken_by_owner = omega arith

pub shown_at : {X : Type 0} (γ : Names) (s : Phase X) → AgreesAt γ.tied (stage s) → ShowsStage γ (state s)
shown_at γ s at a is = subst (λ (b : Stage). Shows b (state s)) (at a is) (stage_shown s)

-- the state of a filled cell shows no other stage
pub shows_filled : (s : Stage) → Shows s 3 → s ≡ Filled
shows_filled Idle is = absurd (let z : 3 ≡ 0 = is in omega (arith, z))
shows_filled Begun is = absurd (let z : 3 ≡ 0 = is in omega (arith, z))
shows_filled Mending is = absurd (let z : 3 ≡ 1 = is in omega (arith, z))
shows_filled Filled is = refl
shows_filled Broken is = absurd (let z : 3 < 3 = is in omega (arith, z))

-- a cell at the stage of a filled one is filled
filled_is_three : {X : Type 0} (s : Phase X) → stage s ≡ Filled → state s ≡ 3
filled_is_three free e = absurd (let z : 0 ≡ 3 = ap stage_number e in omega (arith, z))
filled_is_three begun e = absurd (let z : 1 ≡ 3 = ap stage_number e in omega (arith, z))
filled_is_three busy e = absurd (let z : 2 ≡ 3 = ap stage_number e in omega (arith, z))
filled_is_three (full x) e = refl
filled_is_three broken e = absurd (let z : 4 ≡ 3 = ap stage_number e in omega (arith, z))
filled_is_three broken_by_owner e = absurd (let z : 4 ≡ 3 = ap stage_number e in omega (arith, z))

-- a value that the state shows
pub value_by_state : {X : Type 0} (γ : Names) (n : ℕ) (x : X) → n ≡ 3 → ShowsStage γ n → HasValueByStage γ (Some x)
value_by_state γ n x three shows s is = (λ other. shows_filled s (subst (λ (k : ℕ). Shows s k) three (shows s is)), λ same not. some_is_not x not)

-- a cell that is not filled has no value
pub no_value_by_stage : {X Y : Type 0} (γ : Names) (s : Phase X) → AgreesAt γ.tied (stage s) → state s ≢ 3 → HasValueByStage {T = Y} γ None
no_value_by_stage γ s at other a is = (λ other_than. absurd (other_than refl), λ same. absurd (other (filled_is_three s (at a is ∙ same))))

-- cells whose fields have the state of a filled cell are filled by their stages
pub filled_by_word : (γs : List Names) (i w n : ℕ) → n ≤ length γs → AreFilledIn w i n → ShowStages γs i w → (j : ℕ) (s : Stage) → j < n → stage_in (cell_in γs j) ≡ Some s → s ≡ Filled
filled_by_word [] i w n le all shown j s less is = absurd (omega (arith, le, less))
filled_by_word (γ ∷ γs) i w zero le all shown j s less is = absurd (omega (arith, less))
filled_by_word (γ ∷ γs) i w (suc n) le all shown zero s less is = shows_filled s (subst (λ (k : ℕ). Shows s k) (all i (omega arith) (omega arith)) (shown.0 s is))
filled_by_word (γ ∷ γs) i w (suc n) le all shown (suc j) s less is =
    filled_by_word γs (suc i) w n (omega (arith, le)) (λ k low high. all k (omega (arith, low)) (omega (arith, high))) shown.1 j s (omega (arith, less)) is

-- a cell whose field has another state is not filled by its stage
pub other_by_word : (γs : List Names) (i w k : ℕ) → k < length γs → field w (i + k) ≢ 3 → ShowStages γs i w → (s : Stage) → stage_in (cell_in γs k) ≡ Some s → s ≢ Filled
other_by_word [] i w k near other shown s is = absurd (omega (arith, near))
other_by_word (γ ∷ γs) i w zero near other shown s is = let here : i ≡ i + 0 = omega arith in
    λ same. other (ap (field w) (sym here) ∙ subst (λ (a : Stage). Shows a (field w i)) same (shown.0 s is))
other_by_word (γ ∷ γs) i w (suc k) near other shown s is = let there : suc i + k ≡ i + suc k = omega arith in
    other_by_word γs (suc i) w k (omega (arith, near)) (λ three. other (ap (field w) (sym there) ∙ three)) shown.1 s is

module _ {M : Type 1} {𝓤 : Ura M} (𝓛 : Logic 𝓤) where
  -- the seat of a tie that is fixed tells the stage
  seat_by : (t : Tie) (f : Option Stage) (s : Stage) → ent 𝓤 (sem 𝓛 (seat_of t f s)) (guard 𝓤 ((a : Stage) → f ≡ Some a → s ≡ a) (sem 𝓛 (seat_of t f s)))
  seat_by t None s = qed 𝓛 (‵ (seat_of t None s) ∷ []) ∵ check ! (λ a is. absurd (none_is_not a is)) $ done !
  seat_by t (Some b) s = qed 𝓛 (‵ (seat_of t (Some b) s) ∷ []) ∵ fpick ! (λ is. check ! (λ a e. is ∙ some_same b a e) $ fpack ! (s ≡ b) (λ _. ftrue) is $ done !)

  pub seat_told : (τ : Option Tie) (s : Stage) → ent 𝓤 (sem 𝓛 (seat_at τ s)) (guard 𝓤 (AgreesAt τ s) (sem 𝓛 (seat_at τ s)))
  seat_told None s = qed 𝓛 (‵ (seat_at None s) ∷ []) ∵ check ! (λ a is. absurd (none_is_not a is)) $ done !
  seat_told (Some t) s = seat_by t t.fixed s

module _ {M : Type 1} {𝓤 : Ura M} (𝓛 : Logic 𝓤) (R : RattleType) (γ : Names) (α : Lft) (δ : GName) (b e : ℕ) where
  -- so does a cell
  cell_told : (s : S R) → ent 𝓤 (sem 𝓛 (cell R γ α δ b e s)) (guard 𝓤 (AgreesAt γ.tied (stage s)) (sem 𝓛 (cell R γ α δ b e s)))
  cell_told s = qed 𝓛 (‵ (cell R γ α δ b e s) ∷ []) ∵ fsplit3 ! $ move ! (1 ∷ []) $ fsplit ! $ move ! (1 ∷ []) $
      -- [the seat; what goes with the phase; the names; the room]
      use1 𝓛 (given (AgreesAt γ.tied (stage s)) (‵ (seat_at γ.tied (stage s)))) (seat_told 𝓛 γ.tied (stage s)) $ learn ! (λ at. check ! at $
      move ! (1 ∷ 0 ∷ []) $ fjoin ! $ move ! (1 ∷ 0 ∷ 2 ∷ []) $ fjoin3 ! $ done !)

  -- a look tells that its state is one of the stage
  abbrev pub also : (ℕ → Fml) → ℕ → Fml
  also after n = fsep (after n) (fact (ShowsStage γ n))

  pub also_stage : (after : ℕ → Fml) (X : SProp 𝓤) → Law 𝓛 R α b γ δ e (λ c. c) after X → Law 𝓛 R α b γ δ e (λ c. c) (also after) X
  also_stage after X law s = let Z : SProp 𝓤 = ex 𝓤 (Next 𝓛 R α b γ δ e (λ c. c) (also after) s) in
      qed 𝓛 (‵ (cell R γ α δ b e s) ∷ raw X ∷ []) ∵ use1 𝓛 (given (AgreesAt γ.tied (stage s)) (‵ (cell R γ α δ b e s))) (cell_told s) $ learn ! (λ at.
      use2 𝓛 (raw (upd 𝓤 (ex 𝓤 (Next 𝓛 R α b γ δ e (λ c. c) after s)))) (law s) $
      settle 𝓛 Z (some (λ (x : S R). given (state x ≡ state s) (‵ (cell R γ α δ b e x) ⊛ ‵ (after (state s))))) $ pick ! (λ x. learn ! (λ is. split ! $ suffices ! _ (upd_i 𝓤 Z) $
      -- [the cell; what the look leaves]
      nothing ! $ fpack ! (ShowsStage γ (state s)) (λ _. ftrue) (shown_at γ s at) $ move ! (2 ∷ 0 ∷ []) $ fjoin ! $ move ! (1 ∷ 0 ∷ []) $ show ! (Next 𝓛 R α b γ δ e (λ c. c) (also after) s) x $ check ! is $ done !)))
