-- What the raw steps on a cell hand out, as values. Assumes `Logic`.
use Rattle.std.proofs.Common.{Bool, false, eq-eqb, ne_eqb, arith, ◌≡◌, ◌≢◌, ◌<◌, ℕ, zero, suc, T, List, [], ◌∷◌, ◌++◌, refl, ap, ◌∙◌}
use Rattle.std.specs.Prelude.{Option, Some, None}
use seplogic.Ra.Ura.{Ura}
use mir.Syntax.{ty_ptr, ty_struct, tcons, tnil}
use mir.Val.{Val, vstruct, vcons, vnil, of_list, has_ty, WT}
use base.Logic.{ent, emp, id⊢, never_e}
use base.Fml.{Lft, Fml, fsep, fex}
use contract.Monad.{fact, fact_i}
use types.Logic.{Logic, sem}
use types.Kit.{‵, ◌$◌, ◌∵◌, !, qed, use0, keep, fsplit3, fjoin3, fpick, fpack, rewrite, done}
use denote.RattleType.{RattleType}
use denote.Laws.{Is}
use denote.Ref.{NamedLft}
use denote.RawPtr.{Ptr, InBlock, block_ptr, null_ptr, ptr_val}
use denote.Shadow.{makes_shadow}
use denote.Struct.Struct.{Struct}
use denote.Struct.Owning.{shape}
use Rattle.cell_core.specs.Slot.{Names, Spot, IsAt, written, was_broken, known, kept, right_of, gained, sights, sighted, slot_owned, pen_owned}
use Rattle.cell_core.specs.Slot.{fact as is_fact}
use Rattle.cell_core.specs.contracts.slot.steps.RawSlot as RawSlot
use Rattle.cell_core.specs.contracts.slot.steps.RawPen as RawPen
use Rattle.cell_core.specs.contracts.slot.steps.RawSight as RawSight
use Rattle.cell_core.specs.contracts.slot.steps.Written as Written
use Rattle.cell_core.specs.contracts.slot.steps.RawBroken as RawBroken

-- a token, whose one field has no bytes
abbrev pub token_val : Val
token_val = vstruct (vcons (vstruct vnil) vnil)

-- two pointers next to a field that has no bytes
abbrev pub pointers_val : Ptr → Ptr → Val
pointers_val p q = vstruct (vcons (ptr_val p) (vcons (ptr_val q) (vcons (vstruct vnil) vnil)))

pointer_good : (p : Ptr) → T (has_ty ty_ptr (ptr_val p)) × WT (ptr_val p)
pointer_good (block_ptr b o) = (tt, tt)
pointer_good null_ptr = (tt, record { fits = omega arith })

pub pointers_good : (p q : Ptr)
    → T (has_ty (ty_struct [] (tcons ty_ptr (tcons ty_ptr (tcons (ty_struct [] tnil) tnil)))) (pointers_val p q)) × WT (pointers_val p q)
pointers_good (block_ptr b o) (block_ptr c r) = (tt, (tt, (tt, (tt, tt))))
pointers_good (block_ptr b o) null_ptr = (tt, (tt, (record { fits = omega arith }, (tt, tt))))
pointers_good null_ptr (block_ptr c r) = (tt, (record { fits = omega arith }, (tt, (tt, tt))))
pointers_good null_ptr null_ptr = (tt, (record { fits = omega arith }, (record { fits = omega arith }, (tt, tt))))

module _ (a : NamedLft) (R : RattleType) where
  abbrev pub PenWords : RattleType
  PenWords = Struct (shape (RawPen.the_type a R))

  abbrev pub SlotWords : RattleType
  SlotWords = Struct (shape (RawSlot.the_type a R))

  pub pen_told : (p q : Ptr) (vs : List Val) → Is PenWords (p, (q, (tt, tt))) vs → vs ≡ pointers_val p q ∷ []
  pen_told p q vs is = is.1.0 ∙ ap (λ (ws : List Val). vstruct (of_list (ws ++ (is.0.1.0 ++ (is.0.1.1.0 ++ [])))) ∷ []) is.1.1.0 ∙ ap (λ (ws : List Val). vstruct (of_list (ptr_val p ∷ (ws ++ (is.0.1.1.0 ++ [])))) ∷ []) is.1.1.1.0
      ∙ ap (λ (ws : List Val). vstruct (of_list (ptr_val p ∷ ptr_val q ∷ (ws ++ []))) ∷ []) is.1.1.1.1.0.1.0

  pub slot_told : (p q : Ptr) (vs : List Val) → Is SlotWords (p, (q, (tt, tt))) vs → vs ≡ pointers_val p q ∷ []
  slot_told p q vs is = is.1.0 ∙ ap (λ (ws : List Val). vstruct (of_list (ws ++ (is.0.1.0 ++ (is.0.1.1.0 ++ [])))) ∷ []) is.1.1.0 ∙ ap (λ (ws : List Val). vstruct (of_list (ptr_val p ∷ (ws ++ (is.0.1.1.0 ++ [])))) ∷ []) is.1.1.1.0
      ∙ ap (λ (ws : List Val). vstruct (of_list (ptr_val p ∷ ptr_val q ∷ (ws ++ []))) ∷ []) is.1.1.1.1.0.1.0

  pub pen_made : {M : Type 1} {𝓤 : Ura M} (𝓛 : Logic 𝓤) (p q : Ptr)
      → ent 𝓤 (emp 𝓤) (sem 𝓛 (PenWords.own_val (p, (q, (tt, tt))) (pointers_val p q ∷ [])))
  pen_made 𝓛 p q = makes_shadow 𝓛 (PenWords.own_val (p, (q, (tt, tt))) (pointers_val p q ∷ [])) (λ vss. (tt, (tt, (tt, ((λ uss. (tt, tt)), tt))))) ((ptr_val p ∷ [], (ptr_val q ∷ [], (vstruct vnil ∷ [], tt))), (refl, (refl, (refl, ((tt, (refl, tt)), tt)))))

  pub slot_made : {M : Type 1} {𝓤 : Ura M} (𝓛 : Logic 𝓤) (p q : Ptr)
      → ent 𝓤 (emp 𝓤) (sem 𝓛 (SlotWords.own_val (p, (q, (tt, tt))) (pointers_val p q ∷ [])))
  slot_made 𝓛 p q = makes_shadow 𝓛 (SlotWords.own_val (p, (q, (tt, tt))) (pointers_val p q ∷ [])) (λ vss. (tt, (tt, (tt, ((λ uss. (tt, tt)), tt))))) ((ptr_val p ∷ [], (ptr_val q ∷ [], (vstruct vnil ∷ [], tt))), (refl, (refl, (refl, ((tt, (refl, tt)), tt)))))

pub sight_told : (R : RattleType) (vs : List Val) → Is (Struct (shape (RawSight.the_type R))) (tt, tt) vs → vs ≡ token_val ∷ []
sight_told R vs is = is.1.0 ∙ ap (λ (ws : List Val). vstruct (of_list (ws ++ [])) ∷ []) is.1.1.0.1.0

module _ {M : Type 1} {𝓤 : Ura M} (𝓛 : Logic 𝓤) (R : RattleType) where
  -- what a cell and a pen own lies in blocks
  pub slot_placed : (γ : Names) (β : Lft) (p q : Ptr) (i : ℕ) → ent 𝓤 (sem 𝓛 (slot_owned R γ β p q i)) (fact 𝓤 (InBlock p × InBlock q))
  slot_placed γ β (block_ptr b o) (block_ptr c r) i = fact_i 𝓤 (Unit {0} × Unit {0}) _ (tt, tt)
  slot_placed γ β (block_ptr b o) null_ptr i = never_e 𝓤 _
  slot_placed γ β null_ptr q i = never_e 𝓤 _

  pub pen_placed : (γ : Names) (β : Lft) (p q : Ptr) (i : ℕ) (first : Bool) (m n : ℕ) → ent 𝓤 (sem 𝓛 (pen_owned R γ β p q i first m n)) (fact 𝓤 (InBlock p × InBlock q))
  pen_placed γ β (block_ptr b o) (block_ptr c r) i first m n = fact_i 𝓤 (Unit {0} × Unit {0}) _ (tt, tt)
  pen_placed γ β (block_ptr b o) null_ptr i first m n = never_e 𝓤 _
  pen_placed γ β null_ptr q i first m n = never_e 𝓤 _

  -- what a lost step showed
  pub pen_shows : (γ : Names) (β : Lft) (p q : Ptr) (i : ℕ) (first : Bool) (m n : ℕ) → n ≢ m → ent 𝓤 (sem 𝓛 (pen_owned R γ β p q i first m n)) (sem 𝓛 (sights R γ n))
  pen_shows γ β (block_ptr b o) (block_ptr c r) i first m n lost = qed 𝓛 (‵ (pen_owned R γ β (block_ptr b o) (block_ptr c r) i first m n) ∷ []) ∵ fpick ! (λ z. fsplit3 ! $ keep ! (2 ∷ []) $ rewrite ! 0 (λ (h : Bool). ‵ (gained R γ z.1.0 (z.1.1 i) c r first h n)) (ne_eqb n m lost) refl $ done !)
  pen_shows γ β (block_ptr b o) null_ptr i first m n lost = never_e 𝓤 _
  pen_shows γ β null_ptr q i first m n lost = never_e 𝓤 _

  -- what one that found what it sought gained
  abbrev pub Has : Bool → Names → Lft → ℕ → ℕ → ℕ → ℕ → ℕ → Fml
  Has first γ β b o c r i = fex Spot (λ z. fsep (is_fact (IsAt R γ i r z)) (fsep (kept R z.0 z.1 b o c z.2 β) (right_of R γ z.1.0 (z.1.1 i) c r first)))

  abbrev pub Held : Names → Lft → ℕ → ℕ → ℕ → ℕ → ℕ → Fml
  Held = Has false

  pub pen_gains : (γ : Names) (β : Lft) (b o c r i : ℕ) (first : Bool) (m n : ℕ) → n ≡ m → ent 𝓤 (sem 𝓛 (pen_owned R γ β (block_ptr b o) (block_ptr c r) i first m n)) (sem 𝓛 (Has first γ β b o c r i))
  pen_gains γ β b o c r i first m n same = qed 𝓛 (‵ (pen_owned R γ β (block_ptr b o) (block_ptr c r) i first m n) ∷ []) ∵ fpick ! (λ z. fsplit3 ! $ rewrite ! 2 (λ (h : Bool). ‵ (gained R γ z.1.0 (z.1.1 i) c r first h n)) (eq-eqb n m same) refl $ fjoin3 ! $
      fpack ! Spot (λ u. fsep (is_fact (IsAt R γ i r u)) (fsep (kept R u.0 u.1 b o c u.2 β) (right_of R γ u.1.0 (u.1.1 i) c r first))) z $ done !)

  -- a state that is not that of an empty, a busy or a filled cell showed that the cell is broken
  pub sight_shows_broken : (γ : Names) (n : ℕ) (v : Option R.Denot) → (1 < n) × (n ≢ 3) → ent 𝓤 (sem 𝓛 (sighted R γ n v)) (sem 𝓛 (was_broken γ.broken_name))
  sight_shows_broken γ zero v more = absurd (let l = more.0 in omega arith)
  sight_shows_broken γ (suc zero) v more = absurd (let l = more.0 in omega arith)
  sight_shows_broken γ (suc (suc zero)) v more = id⊢ 𝓤 _
  sight_shows_broken γ (suc (suc (suc zero))) v more = absurd (more.1 refl)
  sight_shows_broken γ (suc (suc (suc (suc n)))) v more = id⊢ 𝓤 _

  pub sight_made : (γ : Names) (n : ℕ) (v : Option R.Denot)
      → ent 𝓤 (sem 𝓛 (sighted R γ n v)) (sem 𝓛 ((RawSight.the_row R).own_val (record { marker = record {}; of = γ; found = n; value = v }) (token_val ∷ [])))
  sight_made γ n v = let F = (Struct (shape (RawSight.the_type R))).own_val (tt, tt) (token_val ∷ []) in
      qed 𝓛 (‵ (sighted R γ n v) ∷ []) ∵ use0 𝓛 (‵ F) (makes_shadow 𝓛 F (λ vss. (tt, ((λ uss. (tt, tt)), tt))) ((vstruct vnil ∷ [], tt), (refl, ((tt, (refl, tt)), tt)))) $ done !

  pub written_made : (γ : ℕ) (x : R.Denot) (n : ℕ)
      → ent 𝓤 (sem 𝓛 (written R γ x)) (sem 𝓛 ((Written.the_row R).own_val (record { marker = record {}; of = γ; value = x; found = n }) (token_val ∷ [])))
  written_made γ x n = let F = (Struct (shape (Written.the_type R))).own_val (tt, tt) (token_val ∷ []) in
      qed 𝓛 (‵ (written R γ x) ∷ []) ∵ use0 𝓛 (‵ F) (makes_shadow 𝓛 F (λ vss. (tt, ((λ uss. (tt, tt)), tt))) ((vstruct vnil ∷ [], tt), (refl, ((tt, (refl, tt)), tt)))) $ done !

  pub known_some : (γ : Names) (v : Option R.Denot) → ent 𝓤 (sem 𝓛 (known R γ v)) (sem 𝓛 (fex R.Denot (written R γ.value_name)))
  known_some γ (Some x) = qed 𝓛 (‵ (written R γ.value_name x) ∷ []) ∵ fpack ! R.Denot (written R γ.value_name) x $ done !
  known_some γ None = never_e 𝓤 _

pub broken_made : {M : Type 1} {𝓤 : Ura M} (𝓛 : Logic 𝓤) (δ : ℕ)
    → ent 𝓤 (sem 𝓛 (was_broken δ)) (sem 𝓛 (RawBroken.the_row.own_val (record { marker = record {}; of = δ }) (token_val ∷ [])))
broken_made 𝓛 δ = let F = (Struct (shape RawBroken.the_type)).own_val (tt, tt) (token_val ∷ []) in
    qed 𝓛 (‵ (was_broken δ) ∷ []) ∵ use0 𝓛 (‵ F) (makes_shadow 𝓛 F (λ vss. (tt, ((λ uss. (tt, tt)), tt))) ((vstruct vnil ∷ [], tt), (refl, ((tt, (refl, tt)), tt)))) $ done !
