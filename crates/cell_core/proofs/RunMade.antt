-- What the raw steps on a run hand out, as values. Assumes `Logic`.
use Rattle.std.proofs.Common.{Bool, eq-eqb, ◌≡◌, ℕ, List, [], ◌∷◌, ◌++◌, refl, ap, ◌∙◌}
use seplogic.Ra.Ura.{Ura}
use mir.Val.{Val, vstruct, vnil, of_list}
use base.Logic.{ent, emp, never_e}
use base.Fml.{Lft, Fml, fsep, fex}
use contract.Monad.{fact, fact_i}
use types.Logic.{Logic, sem}
use types.Kit.{‵, ◌$◌, ◌∵◌, !, qed, fsplit3, fjoin3, fpick, fpack, rewrite, done}
use denote.RattleType.{RattleType}
use denote.Laws.{Is}
use denote.Ref.{NamedLft}
use denote.RawPtr.{Ptr, InBlock, block_ptr, null_ptr, ptr_val}
use denote.Shadow.{makes_shadow}
use denote.Struct.Struct.{Struct}
use denote.Struct.Owning.{shape}
use Rattle.cell_core.specs.Slot.{Names, Spot, kept}
use Rattle.cell_core.specs.Slot.{fact as is_fact}
use Rattle.cell_core.specs.Run.{IsRunAt, held, if_won, cells_owned, run_owned}
use Rattle.cell_core.specs.contracts.slot.run.RawCells as RawCells
use Rattle.cell_core.specs.contracts.slot.run.RawRun as RawRun
use Rattle.cell_core.proofs.CellMade.{pointers_val}

module _ (a : NamedLft) (R : RattleType) where
  abbrev pub CellsWords : RattleType
  CellsWords = Struct (shape (RawCells.the_type a R))

  abbrev pub RunWords : RattleType
  RunWords = Struct (shape (RawRun.the_type a R))

  pub cells_told : (p q : Ptr) (vs : List Val) → Is CellsWords (p, (q, (tt, tt))) vs → vs ≡ pointers_val p q ∷ []
  cells_told p q vs is = is.1.0 ∙ ap (λ (ws : List Val). vstruct (of_list (ws ++ (is.0.1.0 ++ (is.0.1.1.0 ++ [])))) ∷ []) is.1.1.0 ∙ ap (λ (ws : List Val). vstruct (of_list (ptr_val p ∷ (ws ++ (is.0.1.1.0 ++ [])))) ∷ []) is.1.1.1.0
      ∙ ap (λ (ws : List Val). vstruct (of_list (ptr_val p ∷ ptr_val q ∷ (ws ++ []))) ∷ []) is.1.1.1.1.0.1.0

  pub run_told : (p q : Ptr) (vs : List Val) → Is RunWords (p, (q, (tt, tt))) vs → vs ≡ pointers_val p q ∷ []
  run_told p q vs is = is.1.0 ∙ ap (λ (ws : List Val). vstruct (of_list (ws ++ (is.0.1.0 ++ (is.0.1.1.0 ++ [])))) ∷ []) is.1.1.0 ∙ ap (λ (ws : List Val). vstruct (of_list (ptr_val p ∷ (ws ++ (is.0.1.1.0 ++ [])))) ∷ []) is.1.1.1.0
      ∙ ap (λ (ws : List Val). vstruct (of_list (ptr_val p ∷ ptr_val q ∷ (ws ++ []))) ∷ []) is.1.1.1.1.0.1.0

  pub cells_made : {M : Type 1} {𝓤 : Ura M} (𝓛 : Logic 𝓤) (p q : Ptr)
      → ent 𝓤 (emp 𝓤) (sem 𝓛 (CellsWords.own_val (p, (q, (tt, tt))) (pointers_val p q ∷ [])))
  cells_made 𝓛 p q = makes_shadow 𝓛 (CellsWords.own_val (p, (q, (tt, tt))) (pointers_val p q ∷ [])) (λ vss. (tt, (tt, (tt, ((λ uss. (tt, tt)), tt))))) ((ptr_val p ∷ [], (ptr_val q ∷ [], (vstruct vnil ∷ [], tt))), (refl, (refl, (refl, ((tt, (refl, tt)), tt)))))

  pub run_made : {M : Type 1} {𝓤 : Ura M} (𝓛 : Logic 𝓤) (p q : Ptr)
      → ent 𝓤 (emp 𝓤) (sem 𝓛 (RunWords.own_val (p, (q, (tt, tt))) (pointers_val p q ∷ [])))
  run_made 𝓛 p q = makes_shadow 𝓛 (RunWords.own_val (p, (q, (tt, tt))) (pointers_val p q ∷ [])) (λ vss. (tt, (tt, (tt, ((λ uss. (tt, tt)), tt))))) ((ptr_val p ∷ [], (ptr_val q ∷ [], (vstruct vnil ∷ [], tt))), (refl, (refl, (refl, ((tt, (refl, tt)), tt)))))

module _ {M : Type 1} {𝓤 : Ura M} (𝓛 : Logic 𝓤) (R : RattleType) where
  -- what some cells and a run own lies in blocks
  pub cells_placed : (γs : List Names) (β : Lft) (p q : Ptr) (i : ℕ) → ent 𝓤 (sem 𝓛 (cells_owned R γs β p q i)) (fact 𝓤 (InBlock p × InBlock q))
  cells_placed γs β (block_ptr b o) (block_ptr c r) i = fact_i 𝓤 (Unit {0} × Unit {0}) _ (tt, tt)
  cells_placed γs β (block_ptr b o) null_ptr i = never_e 𝓤 _
  cells_placed γs β null_ptr q i = never_e 𝓤 _

  pub run_placed : (γs : List Names) (β : Lft) (p q : Ptr) (i : ℕ) (first : Bool) (m n : ℕ) (xs : List R.Denot) → ent 𝓤 (sem 𝓛 (run_owned R γs β p q i first m n xs)) (fact 𝓤 (InBlock p × InBlock q))
  run_placed γs β (block_ptr b o) (block_ptr c r) i first m n xs = fact_i 𝓤 (Unit {0} × Unit {0}) _ (tt, tt)
  run_placed γs β (block_ptr b o) null_ptr i first m n xs = never_e 𝓤 _
  run_placed γs β null_ptr q i first m n xs = never_e 𝓤 _

  -- what a run has that found what it sought
  abbrev pub Holds : List Names → Lft → ℕ → ℕ → ℕ → ℕ → ℕ → Bool → List R.Denot → Fml
  Holds γs β b o c r i first xs = fex Spot (λ z. fsep (is_fact (IsRunAt R γs i r z)) (fsep (kept R z.0 z.1 b o c z.2 β) (held R first z.1 c z.2 γs i xs)))

  pub run_holds : (γs : List Names) (β : Lft) (b o c r i : ℕ) (first : Bool) (m n : ℕ) (xs : List R.Denot) → n ≡ m → ent 𝓤 (sem 𝓛 (run_owned R γs β (block_ptr b o) (block_ptr c r) i first m n xs)) (sem 𝓛 (Holds γs β b o c r i first xs))
  run_holds γs β b o c r i first m n xs same = qed 𝓛 (‵ (run_owned R γs β (block_ptr b o) (block_ptr c r) i first m n xs) ∷ []) ∵ fpick ! (λ z. fsplit3 ! $ rewrite ! 2 (λ (h : Bool). ‵ (if_won h (held R first z.1 c z.2 γs i xs))) (eq-eqb n m same) refl $ fjoin3 ! $
      fpack ! Spot (λ u. fsep (is_fact (IsRunAt R γs i r u)) (fsep (kept R u.0 u.1 b o c u.2 β) (held R first u.1 c u.2 γs i xs))) z $ done !)
