-- What is known of a cell, and of each cell of a row. Assumes `Logic`.
use Rattle.std.proofs.Common.{◌≡◌, ℕ, zero, suc, ◌<◌, ◌≢◌, List, [], ◌∷◌, ◌++◌, length, refl, sym, ap, ◌∙◌, subst, arith}
use Rattle.std.specs.Prelude.{Option, Some, None, slice_get, slice_set}
use mathlib.Core.Logic.{dite}
use native.Mathlib.Decide.{ℕ_discrete}
use seplogic.Ra.Ura.{Ura}
use base.Stored.{Gv, gnil, gcons}
use base.Logic.{SProp, ent, sep, guard, emp, upd_i}
use base.Fml.{Fml, ftrue, fsep, fauth, fres, finv}
use mir.Val.{Val, vstruct, vnil, of_list}
use denote.Laws.{Is}
use types.Logic.{Logic, sem}
use types.Kit.{‵, raw, ◌⊛◌, given, later, await, updating, now, fpick, fpack, ◌$◌, ◌∵◌, !, qed, by, move, keep, drop, frame, assume, suffices, use0, use1, use2, split, learn, fsplit, fjoin, done}
use denote.RattleType.{RattleType}
use denote.Shadow.{makes_shadow}
use denote.Struct.Struct.{Struct}
use denote.Struct.Owning.{shape}
use denote.Steps.{nothing, heard}
use contract.Monad as monad
use base.Fml.{fex}
use Rattle.cell_core.specs.Slot.{fact, written, mark, full}
use Rattle.cell_core.specs.Member.{MemberView, IsUnset, unfilled, known_as, member, members}
use Rattle.cell_core.specs.contracts.slot.member.RawMember as RawMember
use Rattle.cell_core.specs.contracts.slot.member.RawRow as RawRow
use Rattle.cell_core.proofs.CellMade.{token_val}
use Rattle.cell_core.proofs.CellSteps.{one_written}

pub row_told : (R : RattleType) (vs : List Val) → Is (Struct (shape (RawRow.the_type R))) (tt, tt) vs → vs ≡ token_val ∷ []
row_told R vs is = is.1.0 ∙ ap (λ (ws : List Val). vstruct (of_list (ws ++ [])) ∷ []) is.1.1.0.1.0

-- a list that is not empty has a last member
pub last_in : {X : Type 0} (xs : List X) → 0 < length xs → (front : List X) × (x : X) × (xs ≡ front ++ x ∷ [])
last_in [] some = absurd (omega arith)
last_in (x ∷ []) some = ([], x, refl)
last_in {X} (x ∷ y ∷ xs) some = let end = last_in (y ∷ xs) (omega arith) in (x ∷ end.0, end.1, ap (λ (zs : List X). x ∷ zs) end.2)

-- a place within a list has a member
pub member_in : {X : Type 0} (xs : List X) (i : ℕ) → i < length xs → (x : X) × (slice_get xs i ≡ Some x)
member_in [] i near = absurd (omega arith)
member_in (x ∷ xs) zero near = (x, refl)
member_in (x ∷ xs) (suc i) near = member_in xs i (omega arith)

module _ {M : Type 1} {𝓤 : Ura M} (𝓛 : Logic 𝓤) (R : RattleType) where
  open 𝓛 use {H, A}

  abbrev Pr : Type 2
  Pr = SProp 𝓤

  abbrev ◌⊢◌ : Pr → Pr → Type 1
  P ⊢ Q = ent 𝓤 P Q

  abbrev ◌∗◌ : Pr → Pr → Pr
  P ∗ Q = sep 𝓤 P Q

  abbrev ⟦◌⟧ : Fml → Pr
  ⟦ P ⟧ = sem 𝓛 P

  infix 26 ◌⊢◌
  infixr 35 ◌∗◌
  abbrev View : Type 0
  View = MemberView R.Denot

  pub known_twice : (v : Option R.Denot) (γ : ℕ) → ⟦ known_as R v γ ⟧ ⊢ ⟦ known_as R v γ ⟧ ∗ ⟦ known_as R v γ ⟧
  known_twice (Some x) γ = 𝓛.names.res_dup γ (mark R (full x))
  known_twice None γ = let F : Gv → Fml = λ v. fsep (fact (IsUnset v)) (finv (fauth γ v)) in qed 𝓛 (‵ (unfilled γ) ∷ []) ∵ fpick ! (λ v. fsplit ! $ fpick ! (λ none. drop ! $
      use1 𝓛 (‵ (finv (fauth γ v)) ⊛ ‵ (finv (fauth γ v))) (𝓛.invs.inv_dup (fauth γ v)) $ split ! $ nothing ! $ fpack ! (IsUnset v) (λ _. ftrue) none $ fjoin ! $ fpack ! Gv F v $ frame ! $
      nothing ! $ fpack ! (IsUnset v) (λ _. ftrue) none $ fjoin ! $ fpack ! Gv F v $ done !))

  pub members_twice : (ms : List View) → ⟦ members R ms ⟧ ⊢ ⟦ members R ms ⟧ ∗ ⟦ members R ms ⟧
  members_twice [] = qed 𝓛 (‵ ftrue ∷ []) ∵ nothing ! $ done !
  members_twice (m ∷ ms) = qed 𝓛 (‵ (members R (m ∷ ms)) ∷ []) ∵ fsplit ! $ use1 𝓛 (‵ (member R m) ⊛ ‵ (member R m)) (known_twice m.value m.name) $ split ! $ move ! (2 ∷ []) $
      use1 𝓛 (‵ (members R ms) ⊛ ‵ (members R ms)) (members_twice ms) $ split ! $ move ! (2 ∷ 0 ∷ []) $ fjoin ! $ move ! (2 ∷ 1 ∷ []) $ fjoin ! $ done !

  -- one more at the end
  pub members_more : (ms : List View) (m : View) → ⟦ members R ms ⟧ ∗ ⟦ member R m ⟧ ⊢ ⟦ members R (ms ++ m ∷ []) ⟧
  members_more [] m = qed 𝓛 (‵ ftrue ∷ ‵ (member R m) ∷ []) ∵ move ! (1 ∷ 0 ∷ []) $ fjoin ! $ done !
  members_more (h ∷ ms) m = qed 𝓛 (‵ (members R (h ∷ ms)) ∷ ‵ (member R m) ∷ []) ∵ fsplit ! $ move ! (1 ∷ 2 ∷ []) $ use2 𝓛 (‵ (members R (ms ++ m ∷ []))) (members_more ms m) $ move ! (1 ∷ 0 ∷ []) $ fjoin ! $ done !

  -- two rows as one
  pub members_join : (ms ns : List View) → ⟦ members R ms ⟧ ∗ ⟦ members R ns ⟧ ⊢ ⟦ members R (ms ++ ns) ⟧
  members_join [] ns = qed 𝓛 (‵ ftrue ∷ ‵ (members R ns) ∷ []) ∵ drop ! $ done !
  members_join (m ∷ ms) ns = qed 𝓛 (‵ (members R (m ∷ ms)) ∷ ‵ (members R ns) ∷ []) ∵ fsplit ! $ move ! (1 ∷ 2 ∷ []) $ use2 𝓛 (‵ (members R (ms ++ ns))) (members_join ms ns) $ move ! (1 ∷ 0 ∷ []) $ fjoin ! $ done !

  -- the last one given up
  pub members_less : (ms : List View) (m : View) → ⟦ members R (ms ++ m ∷ []) ⟧ ⊢ ⟦ members R ms ⟧
  members_less [] m = qed 𝓛 (‵ (members R (m ∷ [])) ∷ []) ∵ drop ! $ nothing ! $ done !
  members_less (h ∷ ms) m = qed 𝓛 (‵ (members R (h ∷ (ms ++ m ∷ []))) ∷ []) ∵ fsplit ! $ move ! (1 ∷ []) $ use1 𝓛 (‵ (members R ms)) (members_less ms m) $ move ! (1 ∷ 0 ∷ []) $ fjoin ! $ done !

  -- the one at an index
  pub members_at : (ms : List View) (i : ℕ) (m : View) → slice_get ms i ≡ Some m → ⟦ members R ms ⟧ ⊢ ⟦ member R m ⟧
  members_at [] i m is = absurd (let z = is in cc)
  members_at (h ∷ ms) zero m is = qed 𝓛 (‵ (members R (h ∷ ms)) ∷ []) ∵ fsplit ! $ keep ! (0 ∷ []) $ by ! (subst (λ (u : View). ⟦ member R h ⟧ ⊢ ⟦ member R u ⟧) (let same : h ≡ m = (let z = is in cc) in same) (base.Logic.id⊢ 𝓤 ⟦ member R h ⟧))
  members_at (h ∷ ms) (suc i) m is = qed 𝓛 (‵ (members R (h ∷ ms)) ∷ []) ∵ fsplit ! $ keep ! (1 ∷ []) $ by ! (members_at ms i m is)

  -- a name that has no value now gets none
  pub never_gets : (γ : ℕ) (v : Gv) → IsUnset v → A.auth γ v ⊢ H.⇛ ⟦ unfilled γ ⟧
  never_gets γ v none = qed 𝓛 (‵ (fauth γ v) ∷ []) ∵ updating ! $ use1 𝓛 (later (‵ (finv (fauth γ v)))) (𝓛.invs.inv_new (fauth γ v)) $ await ! tt $ now ! $
      nothing ! $ fpack ! (IsUnset v) (λ _. ftrue) none $ fjoin ! $ fpack ! Gv (λ w. fsep (fact (IsUnset w)) (finv (fauth γ w))) v $ done !

  unset_is_not_full : (x y v : Gv) → gcons x y ≡ v → IsUnset v → ⊥
  unset_is_not_full x y v e none = subst IsUnset (sym e) none

  -- a name that never gets a value has none
  pub never_filled : (γ : ℕ) (x : R.Denot) → ⟦ unfilled γ ⟧ ∗ ⟦ written R γ x ⟧ ⊢ H.⇛ (guard 𝓤 ⊥ (emp 𝓤))
  never_filled γ x = let Q : Pr = guard 𝓤 ⊥ (emp 𝓤) in let w : Gv = mark R (full x) in
      qed 𝓛 (‵ (unfilled γ) ∷ ‵ (written R γ x) ∷ []) ∵ fpick ! (λ v. fsplit ! $ fpick ! (λ none. drop ! $ let P : Fml = fauth γ v in let G : Pr = ⟦ P ⟧ ∗ Q in
      suffices ! _ (𝓛.invs.inv_acc P Q) $ frame ! $ assume ! (‵ P) $ suffices ! _ (upd_i 𝓤 G) $ move ! (1 ∷ 0 ∷ []) $
      use2 𝓛 (given (w ≡ v) (‵ (fres γ w) ⊛ ‵ (fauth γ v))) (𝓛.names.res_agree γ w v) $ learn ! (λ z. absurd (unset_is_not_full (R.coded.code x) gnil v z none))))

  -- what is known of a cell with a value is that value
  abbrev pub Valued : Option R.Denot → ℕ → R.Denot → Fml
  Valued v γ x = fsep (fact (Some x ≡ v)) (written R γ x)

  pub valued : (v : Option R.Denot) (γ : ℕ) → v ≢ None → ⟦ known_as R v γ ⟧ ⊢ ⟦ fex R.Denot (Valued v γ) ⟧
  valued (Some x) γ some = qed 𝓛 (‵ (written R γ x) ∷ []) ∵ nothing ! $ fpack ! (Some x ≡ Some x) (λ _. ftrue) refl $ fjoin ! $ fpack ! R.Denot (Valued (Some x) γ) x $ done !
  valued None γ some = absurd (some refl)

  -- what is known by a name is what its token says
  pub value_agrees : (v : Option R.Denot) (γ : ℕ) (x : R.Denot) → ⟦ known_as R v γ ⟧ ∗ ⟦ written R γ x ⟧ ⊢ H.⇛ (monad.fact 𝓤 (v ≡ Some x))
  value_agrees (Some z) γ x = qed 𝓛 (‵ (written R γ z) ∷ ‵ (written R γ x) ∷ []) ∵ updating ! $ use2 𝓛 (raw (monad.fact 𝓤 (z ≡ x))) (one_written 𝓛 R γ z x) $ heard ! (z ≡ x) (λ same. now ! $
      by ! (monad.fact_i 𝓤 (Some z ≡ Some x) (emp 𝓤) (ap Some same)))
  value_agrees None γ x = qed 𝓛 (‵ (unfilled γ) ∷ ‵ (written R γ x) ∷ []) ∵ updating ! $ use2 𝓛 (later (given ⊥ (raw (emp 𝓤)))) (never_filled γ x) $ await ! tt $ learn ! (λ z. absurd z)

  -- the same, of any token: it says something if the names are one
  pub value_agrees_if : (v : Option R.Denot) (γ γ' : ℕ) (x : R.Denot) → ⟦ known_as R v γ ⟧ ∗ ⟦ written R γ' x ⟧ ⊢ H.⇛ (monad.fact 𝓤 (γ ≡ γ' → v ≡ Some x))
  value_agrees_if v γ γ' x = dite (ℕ_discrete γ γ')
      (λ same. subst (λ (k : ℕ). ⟦ known_as R v γ ⟧ ∗ ⟦ written R k x ⟧ ⊢ H.⇛ (monad.fact 𝓤 (γ ≡ k → v ≡ Some x))) same
      (qed 𝓛 (‵ (known_as R v γ) ∷ ‵ (written R γ x) ∷ []) ∵ updating ! $ use2 𝓛 (later (raw (monad.fact 𝓤 (v ≡ Some x)))) (value_agrees v γ x) $ await ! tt $ heard ! (v ≡ Some x) (λ is. now ! $
      by ! (monad.fact_i 𝓤 (γ ≡ γ → v ≡ Some x) (emp 𝓤) (λ _. is)))))
      (λ other. qed 𝓛 (‵ (known_as R v γ) ∷ ‵ (written R γ' x) ∷ []) ∵ updating ! $ keep ! [] $ now ! $ by ! (monad.fact_i 𝓤 (γ ≡ γ' → v ≡ Some x) (emp 𝓤) (λ same. absurd (other same))))

  -- what is known of one cell is another
  pub members_set : (ms : List View) (i : ℕ) (m : View) → ⟦ members R ms ⟧ ∗ ⟦ member R m ⟧ ⊢ ⟦ members R (slice_set ms i m) ⟧
  members_set [] i m = qed 𝓛 (‵ ftrue ∷ ‵ (member R m) ∷ []) ∵ keep ! (0 ∷ []) $ done !
  members_set (h ∷ ms) zero m = qed 𝓛 (‵ (members R (h ∷ ms)) ∷ ‵ (member R m) ∷ []) ∵ fsplit ! $ keep ! (2 ∷ 1 ∷ []) $ fjoin ! $ done !
  members_set (h ∷ ms) (suc i) m = qed 𝓛 (‵ (members R (h ∷ ms)) ∷ ‵ (member R m) ∷ []) ∵ fsplit ! $ move ! (1 ∷ 2 ∷ []) $ use2 𝓛 (‵ (members R (slice_set ms i m))) (members_set ms i m) $ move ! (1 ∷ 0 ∷ []) $ fjoin ! $ done !

  pub member_made : (m : View) → ⟦ member R m ⟧ ⊢ ⟦ (RawMember.the_row R).own_val (record { marker = record {}; of = m }) (token_val ∷ []) ⟧
  member_made m = let F = (Struct (shape (RawMember.the_type R))).own_val (tt, tt) (token_val ∷ []) in
      qed 𝓛 (‵ (member R m) ∷ []) ∵ use0 𝓛 (‵ F) (makes_shadow 𝓛 F (λ vss. (tt, ((λ uss. (tt, tt)), tt))) ((vstruct vnil ∷ [], tt), (refl, ((tt, (refl, tt)), tt)))) $ done !

  pub row_made : (ms : List View) → ⟦ members R ms ⟧ ⊢ ⟦ (RawRow.the_row R).own_val (record { marker = record {}; of = ms }) (token_val ∷ []) ⟧
  row_made ms = let F = (Struct (shape (RawRow.the_type R))).own_val (tt, tt) (token_val ∷ []) in
      qed 𝓛 (‵ (members R ms) ∷ []) ∵ use0 𝓛 (‵ F) (makes_shadow 𝓛 F (λ vss. (tt, ((λ uss. (tt, tt)), tt))) ((vstruct vnil ∷ [], tt), (refl, ((tt, (refl, tt)), tt)))) $ done !
