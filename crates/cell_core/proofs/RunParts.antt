-- Some cells of one word, out of the rows of a block. Assumes `Logic`.
use Rattle.std.proofs.Common.{None, ◌≡◌, ℕ, zero, suc, ◌+◌, ◌-◌, ◌*◌, ◌/◌, ◌%◌, ◌^◌, ◌<◌, ◌≤◌, List, [], ◌∷◌, length, take, drop, length-take, length-drop, get_or-take, get_or-drop, sym, refl, ap, ◌∙◌, arith, add-mul}
use seplogic.Ra.Ura.{Ura}
use mathlib.Core.Logic.{dite}
use native.Mathlib.Decide.{dec_lt}
use base.Logic.{SProp, ent}
use base.Fml.{Lft, Fml, ftrue, fsep}
use types.Logic.{Logic, sem}
use types.Kit.{‵, ◌$◌, ◌∵◌, !, qed, keep, use1, fsplit, fjoin, fpick, fpack, rewrite, done}
use denote.RattleType.{RattleType}
use denote.RawPtr.{block_ptr}
use denote.Steps.{nothing}
use Rattle.cell_core.specs.Slot.{Names, cell_in, fact, step, Spot, kept, shared_at}
use Rattle.cell_core.specs.Laid.{along_lent}
use Rattle.cell_core.specs.Run.{AreAt, cells_from, IsRunAt, cells_owned}
use Rattle.cell_core.proofs.LaidParts.{room_is}

abbrev nobody : Names
nobody = record { value_name = 0; broken_name = 0; epoch = []; tied = None }

pub from_length : (n i : ℕ) (Γs : List Names) → length (cells_from n i Γs) ≡ n
from_length zero i Γs = refl
from_length (suc n) i Γs = ap (λ (m : ℕ). suc m) (from_length n (suc i) Γs)

pub from_at : (n i : ℕ) (Γs : List Names) → i + n ≤ length Γs → AreAt (cells_from n i Γs) i Γs
from_at zero i Γs near = tt
from_at (suc n) i Γs near = (omega arith, refl, from_at n (suc i) Γs (omega arith))

at_take : (gs γs : List Names) (j : ℕ) → AreAt gs j γs → j + length gs ≤ 16 → AreAt gs j (take 16 γs)
at_take [] γs j at low = tt
at_take (γ ∷ gs) γs j at low = let m = length-take 16 γs in let l = at.0 in (omega (arith, m), get_or-take 16 γs j nobody (omega arith) ∙ at.1, at_take gs γs (suc j) at.2 (omega arith))

at_drop : (gs γs : List Names) (i j : ℕ) → j ≡ 16 + i → AreAt gs j γs → AreAt gs i (drop 16 γs)
at_drop [] γs i j is at = tt
at_drop (γ ∷ gs) γs i j is at = let m = length-drop 16 γs in let l = at.0 in (omega (arith, m), get_or-drop 16 γs i nobody ∙ ap (cell_in γs) (sym is) ∙ at.1, at_drop gs γs (suc i) (suc j) (omega arith) at.2)

module _ {M : Type 1} {𝓤 : Ura M} (𝓛 : Logic 𝓤) (R : RattleType) where
  abbrev ◌⊢◌ : SProp 𝓤 → SProp 𝓤 → Type 1
  P ⊢ Q = ent 𝓤 P Q

  abbrev ⟦◌⟧ : Fml → SProp 𝓤
  ⟦ P ⟧ = sem 𝓛 P

  infix 26 ◌⊢◌
  -- the cells of the first word
  cells_of : (γs gs : List Names) (b o c e : ℕ) (κ : Lft) (j : ℕ) → AreAt gs j γs → j + length gs ≤ 16 → length gs * step R < 2 ^ 63
      → ⟦ shared_at R (take 16 γs) b o c e κ ⟧ ⊢ ⟦ cells_owned R gs κ (block_ptr b o) (block_ptr c (j * step R + e)) j ⟧
  cells_of γs gs b o c e κ j at low small = let W : List Names = take 16 γs in
      qed 𝓛 (‵ (shared_at R W b o c e κ) ∷ []) ∵ fpick ! (λ t. let z : Spot = (W, t, e) in nothing ! $
      fpack ! (IsRunAt R gs j (j * step R + e) z) (λ _. ftrue) (at_take gs γs j at low, (let m = length-take 16 γs in omega (arith, m)), room_is R e j, small) $ fjoin ! $
      fpack ! Spot (λ y. fsep (fact (IsRunAt R gs j (j * step R + e) y)) (kept R y.0 y.1 b o c y.2 κ)) z $ done !)

  pub cells_shown : (k : ℕ) (γs gs : List Names) (b o c e : ℕ) (κ : Lft) (j : ℕ) → j < length γs → length γs ≤ k * 16 → AreAt gs j γs → j % 16 + length gs ≤ 16 → length gs * step R < 2 ^ 63
      → ⟦ along_lent R k γs b o c e κ ⟧ ⊢ ⟦ cells_owned R gs κ (block_ptr b (j / 16 * 8 + o)) (block_ptr c (j * step R + e)) (j % 16) ⟧
  cells_shown zero γs gs b o c e κ j near few at one small = absurd (omega arith)
  cells_shown (suc k) γs gs b o c e κ j near few at one small = dite (dec_lt j 16)
      (λ low. let same : j % 16 ≡ j = omega arith in let here : j / 16 * 8 + o ≡ o = omega arith in
      qed 𝓛 (‵ (along_lent R (suc k) γs b o c e κ) ∷ []) ∵ fsplit ! $ keep ! (0 ∷ []) $ use1 𝓛 (‵ (cells_owned R gs κ (block_ptr b o) (block_ptr c (j * step R + e)) j)) (cells_of γs gs b o c e κ j at (omega arith) small) $
      rewrite ! 0 (λ (u : ℕ × ℕ). ‵ (cells_owned R gs κ (block_ptr b u.0) (block_ptr c (j * step R + e)) u.1)) (λ i. (sym here i, sym same i)) refl $ done !)
      (λ high. let i : ℕ = j - 16 in let is : j ≡ 16 + i = omega arith in let m = length-drop 16 γs in let o' : ℕ = o + 8 in let e' : ℕ = e + 16 * step R in let Ws : List Names = drop 16 γs in
      let far = add-mul 16 i (step R) in let there : i / 16 * 8 + o' ≡ j / 16 * 8 + o = omega arith in let same : i % 16 ≡ j % 16 = omega arith in
      let room : i * step R + e' ≡ j * step R + e = omega (arith, far, ap (λ (l : ℕ). l * step R) is) in
      qed 𝓛 (‵ (along_lent R (suc k) γs b o c e κ) ∷ []) ∵ fsplit ! $ keep ! (1 ∷ []) $
      use1 𝓛 (‵ (cells_owned R gs κ (block_ptr b (i / 16 * 8 + o')) (block_ptr c (i * step R + e')) (i % 16))) (cells_shown k Ws gs b o' c e' κ i (omega (arith, m)) (omega (arith, m)) (at_drop gs γs i j is at) (omega arith) small) $
      rewrite ! 0 (λ (u : ℕ × (ℕ × ℕ)). ‵ (cells_owned R gs κ (block_ptr b u.0) (block_ptr c u.1.0) u.1.1)) (λ l. (there l, (room l, same l))) refl $ done !)
