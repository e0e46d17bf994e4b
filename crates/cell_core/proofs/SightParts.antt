-- What a load of a word showed of some of its cells, and what is known of those that are filled. Assumes `Logic`.
use Rattle.std.proofs.Common.{◌≡◌, ℕ, zero, suc, ◌≤◌, List, [], ◌∷◌, ◌++◌, length, refl, ap, ◌∙◌, arith}
use seplogic.Ra.Ura.{Ura}
use mir.Val.{Val, vstruct, vnil, of_list}
use base.Logic.{ent}
use base.Fml.{Fml, ftrue, fsep, fex}
use types.Logic.{Logic, sem}
use types.Kit.{‵, ◌$◌, ◌∵◌, !, qed, use0, use1, move, drop, fsplit, fjoin, fpick, fpack, rewrite, done}
use denote.RattleType.{RattleType}
use denote.Laws.{Is}
use denote.Shadow.{makes_shadow}
use denote.Struct.Struct.{Struct}
use denote.Struct.Owning.{shape}
use denote.Steps.{nothing}
use Rattle.cell_core.specs.Slot.{Names, fact, written, sights}
use Rattle.cell_core.specs.Member.{members}
use Rattle.cell_core.specs.Run.{AreFilledIn, sights_owned, members_of}
use Rattle.cell_core.specs.contracts.slot.run.RawSights as RawSights
use Rattle.cell_core.proofs.CellMade.{token_val, known_some}

pub sights_told : (R : RattleType) (vs : List Val) → Is (Struct (shape (RawSights.the_type R))) (tt, tt) vs → vs ≡ token_val ∷ []
sights_told R vs is = is.1.0 ∙ ap (λ (ws : List Val). vstruct (of_list (ws ++ [])) ∷ []) is.1.1.0.1.0

module _ {M : Type 1} {𝓤 : Ura M} (𝓛 : Logic 𝓤) (R : RattleType) where
  pub sights_made : (γs : List Names) (i n : ℕ)
      → ent 𝓤 (sem 𝓛 (sights_owned R γs i n)) (sem 𝓛 ((RawSights.the_row R).own_val (record { marker = record {}; of = γs; index = i; word = n }) (token_val ∷ [])))
  sights_made γs i n = let F = (Struct (shape (RawSights.the_type R))).own_val (tt, tt) (token_val ∷ []) in
      qed 𝓛 (‵ (sights_owned R γs i n) ∷ []) ∵ use0 𝓛 (‵ F) (makes_shadow 𝓛 F (λ vss. (tt, ((λ uss. (tt, tt)), tt))) ((vstruct vnil ∷ [], tt), (refl, ((tt, (refl, tt)), tt)))) $ done !

  -- the values of the first n of some cells, and what shows them
  abbrev pub Valued : List Names → ℕ → List R.Denot → Fml
  Valued γs n xs = fsep (fact (length xs ≡ n)) (members R (members_of γs xs))

  -- the first n of them, whose fields have the state of a filled cell, have values
  pub shows_values : (γs : List Names) (i w n : ℕ) → n ≤ length γs → AreFilledIn w i n → ent 𝓤 (sem 𝓛 (sights_owned R γs i w)) (sem 𝓛 (fex (List R.Denot) (Valued γs n)))
  shows_values [] i w zero le all = let none : List R.Denot = [] in qed 𝓛 (‵ (sights_owned R [] i w) ∷ []) ∵ drop ! $ nothing ! $ nothing ! $
      fpack ! (length none ≡ 0) (λ _. ftrue) refl $ fjoin ! $ fpack ! (List R.Denot) (Valued [] 0) none $ done !
  shows_values [] i w (suc n) le all = absurd (omega arith)
  shows_values (γ ∷ γs) i w zero le all = let none : List R.Denot = [] in qed 𝓛 (‵ (sights_owned R (γ ∷ γs) i w) ∷ []) ∵ drop ! $ nothing ! $ nothing ! $
      fpack ! (length none ≡ 0) (λ _. ftrue) refl $ fjoin ! $ fpack ! (List R.Denot) (Valued (γ ∷ γs) 0) none $ done !
  shows_values (γ ∷ γs) i w (suc n) le all = qed 𝓛 (‵ (sights_owned R (γ ∷ γs) i w) ∷ []) ∵ fsplit ! $ rewrite ! 0 (λ (k : ℕ). ‵ (sights R γ k)) (all i (omega arith) (omega arith)) refl $
      -- [what is shown of the first; of the others]
      fpick ! (λ v. use1 𝓛 (‵ (fex R.Denot (written R γ.value_name))) (known_some 𝓛 R γ v) $ fpick ! (λ x. move ! (1 ∷ []) $
      use1 𝓛 (‵ (fex (List R.Denot) (Valued γs n))) (shows_values γs (suc i) w n (omega arith) (λ j low high. all j (omega arith) (omega arith))) $ fpick ! (λ xs. fsplit ! $ fpick ! (λ long. drop ! $
      -- [the values of the others; that of the first]
      move ! (1 ∷ 0 ∷ []) $ fjoin ! $ nothing ! $ fpack ! (length (x ∷ xs) ≡ suc n) (λ _. ftrue) (ap (λ (l : ℕ). suc l) long) $ fjoin ! $ fpack ! (List R.Denot) (Valued (γ ∷ γs) (suc n)) (x ∷ xs) $ done !))))
