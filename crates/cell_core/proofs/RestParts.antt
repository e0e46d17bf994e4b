-- What an exclusive owner may do with a cell: its names, and what lies in its room. Assumes `Logic`.
use Rattle.std.proofs.Common.{Bool, true, false, not, T, eqb, eqb→eq, eq-eqb, ◌≡◌, ◌≢◌, ◌<◌, ℕ, List, [], ◌∷◌, length, set, get_or-set_same, sym, refl, ap, ◌∙◌, subst, arith}
use Rattle.std.specs.Prelude.{Option, Some, None}
use seplogic.Ra.Ura.{Ura}
use mathlib.Core.Logic.{dite}
use native.Mathlib.Decide.{ℕ_discrete}
use mir.Raw.{raw as bare}
use base.Fraction.{full_share}
use base.Stored.{Gv, gnil, gcons, gnum}
use base.Logic.{SProp, ent, sep, guard, id⊢}
use base.Fml.{GName, Lft, Fml, ftrue, fsep, fex, fobs, fauth, fres, fdead}
use types.Logic.{Logic, sem}
use types.Kit as Kit
use types.Kit.{‵, ◌⊛◌, given, later, ◌$◌, ◌∵◌, !, qed, by, move, keep, drop, use1, use0, use2, use3, split, split3, check, fsplit, fsplit3, fjoin, fjoin3, fpick, fpack, learn, frame, await, updating, now, rewrite, done}
use types.Tokens.{lft_new, lft_end, name_new, res_dup}
use contract.Monad as monad
use denote.RattleType.{RattleType}
use denote.Memory.{part_at}
use denote.Steps.{nothing, heard}
use denote.Param.{param, layout}
use denote.Param.Laws.{Laws, param_laws}
use denote.Struct.Members.{Member}
use Rattle.core.proofs.cell.Inside.{spread}
use Rattle.cell_core.specs.Slot.{Names, HasNoSeat, cell_in, Phase, free, begun, busy, full, broken, broken_by_owner, state, Lies, Rest, fact, place, resting, mark, broken_mark, broken_once, auths, unset, settable, ended_or_seatless, written, was_broken}
use Rattle.cell_core.specs.Laid.{IsAnother, IsFixedAt, lying}
use Rattle.cell_core.specs.Member.{IsUnset}
use Rattle.tie_core.specs.Tie.{Tie, Stage, Idle, Filled, Broken, seat_at, fixed_at}
use Rattle.cell_core.proofs.CellSteps.{one_written}

-- a cell that is put at an index with the tie of the former one, fixed at a stage
pub fixed_set : (γs : List Names) (i : ℕ) (γ : Names) (s : Stage) → i < length γs → γ.tied ≡ fixed_at (cell_in γs i).tied s → IsFixedAt γs i (set γs i γ) s
fixed_set γs i γ s near is = ap (λ (u : Names). u.tied) (get_or-set_same γs i γ (record { value_name = 0; broken_name = 0; epoch = []; tied = None }) near) ∙ is

some_stage : (s : Stage) → Some s ≡ None → ⊥
some_stage s e = cc

-- a cell whose tie is fixed has no seat
pub no_seat : (τ : Option Tie) (s : Stage) → HasNoSeat (fixed_at τ s)
no_seat None s = tt
no_seat (Some t) s = some_stage s

-- what the room of a cell holds is given up
pub emptied : (T : RattleType) (L : Laws T) {M : Type 1} {𝓤 : Ura M} (𝓛 : Logic 𝓤) (b e : ℕ) (v : Option T.Denot)
    → ent 𝓤 (sem 𝓛 (place (param 0 T) v b e)) (𝓛.H.room (bare (layout T)) b e)
emptied T L {𝓤 = 𝓤} 𝓛 b e None = id⊢ 𝓤 _
emptied T L {𝓤 = 𝓤} 𝓛 b e (Some x) = let m : Member = record { row = param 0 T; ty = layout T } in
    qed 𝓛 (‵ (place (param 0 T) (Some x) b e) ∷ []) ∵ spread m ! ((param_laws 0 T L).lawful 𝓛) x b e (λ v good. move ! (1 ∷ []) $ drop ! $ by ! (𝓛.laws.at_room (bare (layout T)) b e v))

module _ {M : Type 1} {𝓤 : Ura M} (𝓛 : Logic 𝓤) (R : RattleType) where
  open 𝓛 use {H, A}

  abbrev Pr : Type 2
  Pr = SProp 𝓤

  abbrev ◌⊢◌ : Pr → Pr → Type 1
  P ⊢ Q = ent 𝓤 P Q

  abbrev ◌∗◌ : Pr → Pr → Pr
  P ∗ Q = sep 𝓤 P Q

  abbrev ⟦◌⟧ : Fml → Pr
  ⟦ P ⟧ = sem 𝓛 P

  infix 26 ◌⊢◌
  infixr 35 ◌∗◌
  full_is_not_unset : (x y v : Gv) → gcons x y ≡ v → IsUnset v → ⊥
  full_is_not_unset x y v e unset = subst IsUnset (sym e) unset

  -- a tie that is fixed at a stage has no seat
  pub fixed_seat : (τ : Option Tie) (n : Stage) → base.Logic.emp 𝓤 ⊢ ⟦ seat_at (fixed_at τ n) n ⟧
  fixed_seat None n = id⊢ 𝓤 _
  fixed_seat (Some t) n = qed 𝓛 [] ∵ nothing ! $ fpack ! (n ≡ n) (λ _. ftrue) refl $ done !

  -- of a cell that is not tied there is none
  stays_plain : (τ : Option Tie) (n : Stage) → τ ≡ None → fixed_at τ n ≡ None
  stays_plain None n none = refl
  stays_plain (Some t) n none = absurd (let z = none in cc)

  -- a cell that holds a value by a token holds that value
  not_full : (γ : Names) (b e : ℕ) (v : Option R.Denot) (s : Phase R.Denot) (x : R.Denot) → IsUnset (mark R s)
      → ⟦ place R v b e ⟧ ∗ ⟦ resting R γ (v, s) ⟧ ∗ ⟦ written R γ.value_name x ⟧ ⊢ ⟦ part_at R full_share x b e ⟧ ∗ ⟦ auths R γ s ⟧
  not_full γ b e v s x blank = let w : Gv = mark R (full x) in let n : GName = γ.value_name in qed 𝓛 (‵ (place R v b e) ∷ ‵ (resting R γ (v, s)) ∷ ‵ (written R n x) ∷ []) ∵ move ! (1 ∷ []) $ fsplit ! $ fsplit ! $ fsplit ! $ move ! (5 ∷ 0 ∷ []) $
      use2 𝓛 (given (w ≡ mark R s) (‵ (fres n w) ⊛ ‵ (fauth n (mark R s)))) (𝓛.names.res_agree n w (mark R s)) $ learn ! (λ z. absurd (full_is_not_unset (R.coded.code x) gnil (mark R s) z blank))

  pub held_at : (γ : Names) (b e : ℕ) (r : Rest R.Denot) (x : R.Denot)
      → ⟦ place R r.0 b e ⟧ ∗ ⟦ resting R γ r ⟧ ∗ ⟦ written R γ.value_name x ⟧ ⊢ ⟦ part_at R full_share x b e ⟧ ∗ ⟦ auths R γ r.1 ⟧
  held_at γ b e (v, free) x = not_full γ b e v free x tt
  held_at γ b e (v, begun) x = not_full γ b e v begun x tt
  held_at γ b e (v, busy) x = not_full γ b e v busy x tt
  held_at γ b e (v, broken) x = not_full γ b e v broken x tt
  held_at γ b e (v, broken_by_owner) x = not_full γ b e v broken_by_owner x tt
  held_at γ b e (v, full y) x = qed 𝓛 (‵ (place R v b e) ∷ ‵ (resting R γ (v, full y)) ∷ ‵ (written R γ.value_name x) ∷ []) ∵ move ! (1 ∷ []) $ fsplit ! $ fsplit ! $ move ! (1 ∷ []) $ fsplit ! $ fsplit ! $ keep ! (6 ∷ 1 ∷ 3 ∷ 4 ∷ 5 ∷ []) $
      use2 𝓛 (Kit.raw (monad.fact 𝓤 (x ≡ y))) (one_written 𝓛 R γ.value_name x y) $ heard ! (x ≡ y) (λ same. move ! (1 ∷ []) $ fpick ! (λ so.
      -- [true; the names; the room]
      keep ! (2 ∷ 1 ∷ []) $ rewrite ! 0 (λ (u : Option R.Denot). ‵ (place R u b e)) so refl $ rewrite ! 0 (λ (z : R.Denot). ‵ (part_at R full_share z b e)) (sym same) refl $ done !))

  -- a value that is not this one
  abbrev other_than : Gv → Gv
  other_than gnil = gnum 0
  other_than (gcons x y) = gnum 0
  other_than (gnum n) = gnil

  abbrev numbered : Gv → ℕ
  numbered gnil = 0
  numbered (gcons x y) = 0
  numbered (gnum n) = 1

  other_differs : (d : Gv) → other_than d ≢ d
  other_differs gnil e = absurd (let z : 1 ≡ 0 = ap numbered e in omega arith)
  other_differs (gcons x y) e = absurd (let z : 1 ≡ 0 = ap numbered e in omega arith)
  other_differs (gnum n) e = absurd (let z : 0 ≡ 1 = ap numbered e in omega arith)

  -- a name that can be set is not one that is in use
  pub is_new : (γ δ : GName) (d : Gv) → A.obs δ gnil ∗ A.auth δ gnil ∗ A.auth γ d ⊢ H.⇛ (guard 𝓤 (δ ≢ γ) (A.obs δ gnil ∗ A.auth δ gnil ∗ A.auth γ d))
  is_new γ δ d = let c : Gv = other_than d in dite (ℕ_discrete δ γ)
      (λ same. qed 𝓛 (‵ (fobs δ gnil) ∷ ‵ (fauth δ gnil) ∷ ‵ (fauth γ d) ∷ []) ∵ updating ! $ rewrite ! 2 (λ (k : ℕ). ‵ (fauth k d)) (sym same) refl $
      use2 𝓛 (later (‵ (fobs δ c) ⊛ ‵ (fauth δ c))) (𝓛.names.name_set δ gnil gnil c) $ await ! tt $ split ! $ move ! (0 ∷ 2 ∷ []) $
      use2 𝓛 (given (c ≡ d) (‵ (fobs δ c) ⊛ ‵ (fauth δ d))) (𝓛.names.name_agree δ c d) $ learn ! (λ e. absurd (other_differs d e)))
      (λ other. qed 𝓛 (‵ (fobs δ gnil) ∷ ‵ (fauth δ gnil) ∷ ‵ (fauth γ d) ∷ []) ∵ updating ! $ now ! $ check ! other $ done !)

  -- the same of the name that says that a cell was broken
  broken_name_is_new : (γ δ : GName) (once : Bool) → A.obs δ gnil ∗ A.auth δ gnil ∗ ⟦ broken_once γ once ⟧ ⊢ H.⇛ (guard 𝓤 (δ ≢ γ) (A.obs δ gnil ∗ A.auth δ gnil ∗ ⟦ broken_once γ once ⟧))
  broken_name_is_new γ δ true = qed 𝓛 (‵ (fobs δ gnil) ∷ ‵ (fauth δ gnil) ∷ ‵ (broken_once γ true) ∷ []) ∵ updating ! $ move ! (2 ∷ []) $ fsplit ! $ move ! (2 ∷ 3 ∷ 1 ∷ []) $
      use3 𝓛 (later (given (δ ≢ γ) (‵ (fobs δ gnil) ⊛ ‵ (fauth δ gnil) ⊛ ‵ (fauth γ broken_mark)))) (is_new γ δ broken_mark) $ await ! tt $ learn ! (λ apart. split3 ! $ now ! $ check ! apart $
      move ! (3 ∷ 2 ∷ []) $ fjoin ! $ move ! (1 ∷ 2 ∷ 0 ∷ []) $ done !)
  broken_name_is_new γ δ false = qed 𝓛 (‵ (fobs δ gnil) ∷ ‵ (fauth δ gnil) ∷ ‵ (broken_once γ false) ∷ []) ∵ updating ! $ move ! (2 ∷ []) $ fsplit ! $ move ! (2 ∷ 3 ∷ 1 ∷ []) $
      use3 𝓛 (later (given (δ ≢ γ) (‵ (fobs δ gnil) ⊛ ‵ (fauth δ gnil) ⊛ ‵ (fauth γ gnil)))) (is_new γ δ gnil) $ await ! tt $ learn ! (λ apart. split3 ! $ now ! $ check ! apart $
      move ! (3 ∷ 2 ∷ []) $ fjoin ! $ move ! (1 ∷ 2 ∷ 0 ∷ []) $ done !)

  -- names of an epoch; the two that can be set are not the cell's, and the tie is the cell's, fixed at a stage
  abbrev pub IsNew : Names → Stage → Lft → Names → Type 0
  IsNew γ n epoch c = IsAnother γ c × (c.epoch ≡ epoch) × (c.tied ≡ fixed_at γ.tied n)

  abbrev pub NewNames : Names → Phase R.Denot → Stage → Lft → Fml
  NewNames γ s n epoch = fex Names (λ c. fsep (fact (IsNew γ n epoch c)) (fsep (unset R c) (fsep (auths R c free) (auths R γ s))))

  pub new_names : (γ : Names) (s : Phase R.Denot) (n : Stage) (epoch : Lft) → ⟦ auths R γ s ⟧ ⊢ H.⇛ ⟦ NewNames γ s n epoch ⟧
  new_names γ s n epoch = qed 𝓛 (‵ (auths R γ s) ∷ []) ∵ updating ! $ fsplit ! $
      name_new ! tt gnil (λ γv. use3 𝓛 (later (given (γv ≢ γ.value_name) (‵ (fobs γv gnil) ⊛ ‵ (fauth γv gnil) ⊛ ‵ (fauth γ.value_name (mark R s))))) (is_new γ.value_name γv (mark R s)) $ await ! tt $ learn ! (λ nv. split3 ! $ move ! (3 ∷ []) $ fpick ! (λ once.
      name_new ! tt gnil (λ γb. use3 𝓛 (later (given (γb ≢ γ.broken_name) (‵ (fobs γb gnil) ⊛ ‵ (fauth γb gnil) ⊛ ‵ (broken_once γ.broken_name once)))) (broken_name_is_new γ.broken_name γb once) $ await ! tt $ learn ! (λ nb. split3 ! $
      let γ' : Names = record { value_name = γv; broken_name = γb; epoch = epoch; tied = fixed_at γ.tied n } in now ! $
      -- [the right to break; its name; the old one; the right to fill; its name; the old one]
      move ! (0 ∷ 1 ∷ []) $ fjoin ! $ fpack ! Bool (broken_once γb) false $ move ! (1 ∷ []) $ fpack ! Bool (broken_once γ.broken_name) once $ move ! (4 ∷ 0 ∷ []) $ fjoin ! $
      -- [the old names; its name that says that it is broken; the right to fill; its name]
      move ! (3 ∷ 1 ∷ []) $ fjoin ! $ move ! (2 ∷ 0 ∷ 1 ∷ []) $ fjoin3 ! $ nothing ! $ fpack ! (IsNew γ n epoch γ') (λ _. ftrue) ((nv, nb, stays_plain γ.tied n), refl, refl) $ fjoin ! $
      fpack ! Names (λ c. fsep (fact (IsNew γ n epoch c)) (fsep (unset R c) (fsep (auths R c free) (auths R γ s)))) γ' $ done !)))))

  -- the same, of an epoch that has ended
  abbrev pub IsFresh : Names → Stage → Names → Type 0
  IsFresh γ n c = IsAnother γ c × (c.tied ≡ fixed_at γ.tied n)

  abbrev pub FreeNames : Names → Phase R.Denot → Stage → Fml
  FreeNames γ s n = fex Names (λ c. fsep (fact (IsFresh γ n c)) (fsep (settable R c) (auths R c free)))

  pub free_names : (γ : Names) (s : Phase R.Denot) (n : Stage) → ⟦ auths R γ s ⟧ ⊢ H.⇛ ⟦ FreeNames γ s n ⟧
  free_names γ s n = qed 𝓛 (‵ (auths R γ s) ∷ []) ∵ updating ! $ lft_new ! tt (λ ν. lft_end ! tt $ move ! (1 ∷ []) $ use1 𝓛 (later (‵ (NewNames γ s n (ν ∷ [])))) (new_names γ s n (ν ∷ [])) $ await ! tt $ fpick ! (λ γ'. fsplit ! $ fpick ! (λ new. drop ! $ fsplit3 ! $ now ! $
      -- [the right to set; the names; the old ones; the epoch has ended]
      rewrite ! 3 (λ (k : Lft). ‵ (fdead k)) (sym new.1) refl $ move ! (3 ∷ 0 ∷ []) $ fjoin ! $ fjoin ! $ nothing ! $ fpack ! (IsFresh γ n γ') (λ _. ftrue) (new.0, new.2) $ fjoin ! $
      fpack ! Names (λ c. fsep (fact (IsFresh γ n c)) (fsep (settable R c) (auths R c free))) γ' $ keep ! (0 ∷ []) $ done !)))

  -- one whose room is empty gets fresh names, and is free
  abbrev pub Renewed : Names → ℕ → ℕ → Fml
  Renewed γ b e = fex Names (λ γ'. fsep (fact (IsFresh γ Idle γ')) (lying R b e γ' (None, free)))

  seated : (γ c : Names) (n : Stage) → c.tied ≡ fixed_at γ.tied n → base.Logic.emp 𝓤 ⊢ ⟦ seat_at c.tied n ⟧
  seated γ c n is = subst (λ (τ : Option Tie). base.Logic.emp 𝓤 ⊢ ⟦ seat_at τ n ⟧) (sym is) (fixed_seat γ.tied n)

  pub renewed : (γ : Names) (b e : ℕ) (s : Phase R.Denot) → ⟦ auths R γ s ⟧ ∗ ⟦ place R None b e ⟧ ⊢ H.⇛ ⟦ Renewed γ b e ⟧
  renewed γ b e s = qed 𝓛 (‵ (auths R γ s) ∷ ‵ (place R None b e) ∷ []) ∵ updating ! $
      use1 𝓛 (later (‵ (FreeNames γ s Idle))) (free_names γ s Idle) $ await ! tt $ fpick ! (λ γ'. fsplit ! $ fpick ! (λ new. drop ! $ fsplit ! $ now ! $
      -- [the right to set; the names; the room]
      use0 𝓛 (‵ (seat_at γ'.tied Idle)) (seated γ γ' Idle new.1) $ move ! (1 ∷ 0 ∷ []) $ fjoin ! $
      move ! (1 ∷ 0 ∷ []) $ fjoin ! $ nothing ! $ fpack ! (Lies R None free) (λ _. ftrue) refl $ move ! (1 ∷ 0 ∷ []) $ fjoin ! $
      move ! (1 ∷ 0 ∷ []) $ fjoin ! $ nothing ! $ fpack ! (IsFresh γ Idle γ') (λ _. ftrue) new $ fjoin ! $
      fpack ! Names (λ c. fsep (fact (IsFresh γ Idle c)) (lying R b e c (None, free))) γ' $ done !))

  -- one whose room holds a value is filled under fresh names
  abbrev pub Refilled : Names → R.Denot → ℕ → ℕ → Fml
  Refilled γ x b e = fex Names (λ γ'. fsep (fact (IsFresh γ Filled γ')) (fsep (lying R b e γ' (Some x, full x)) (written R γ'.value_name x)))

  pub refilled : (γ : Names) (x : R.Denot) (b e : ℕ) (s : Phase R.Denot) → ⟦ auths R γ s ⟧ ∗ ⟦ place R (Some x) b e ⟧ ⊢ H.⇛ ⟦ Refilled γ x b e ⟧
  refilled γ x b e s = let c : Gv = mark R (full x) in qed 𝓛 (‵ (auths R γ s) ∷ ‵ (place R (Some x) b e) ∷ []) ∵ updating ! $
      use1 𝓛 (later (‵ (FreeNames γ s Filled))) (free_names γ s Filled) $ await ! tt $ fpick ! (λ γ'. fsplit ! $ fpick ! (λ new. drop ! $ fsplit ! $
      -- [the right to set; the names; the room]
      fsplit ! $ move ! (2 ∷ []) $ fsplit ! $ move ! (3 ∷ 0 ∷ []) $ use2 𝓛 (later (‵ (fobs γ'.value_name c) ⊛ ‵ (fauth γ'.value_name c))) (𝓛.names.name_set γ'.value_name gnil gnil c) $ await ! tt $ split ! $ now ! $
      use1 𝓛 (‵ (fres γ'.value_name c)) (𝓛.names.obs-res γ'.value_name c) $ res_dup ! $
      -- [written, twice; the value's name; the name of a break; the epoch has ended; the room]
      move ! (4 ∷ 0 ∷ []) $ fjoin ! $ use0 𝓛 (‵ (seat_at γ'.tied Filled)) (seated γ γ' Filled new.1) $ move ! (1 ∷ 0 ∷ []) $ fjoin ! $ move ! (2 ∷ 3 ∷ []) $ fjoin ! $ move ! (0 ∷ 1 ∷ []) $ fjoin ! $
      nothing ! $ fpack ! (Lies R (Some x) (full x)) (λ _. ftrue) refl $ move ! (1 ∷ 0 ∷ []) $ fjoin ! $
      move ! (2 ∷ 0 ∷ []) $ fjoin ! $ fjoin ! $ nothing ! $ fpack ! (IsFresh γ Filled γ') (λ _. ftrue) new $ fjoin ! $
      fpack ! Names (λ n. fsep (fact (IsFresh γ Filled n)) (fsep (lying R b e n (Some x, full x)) (written R n.value_name x))) γ' $ done !))

  -- the second name says from now on that the cell was broken
  sets_broken : (δ : GName) (once : Bool) → ⟦ broken_once δ once ⟧ ⊢ H.⇛ (⟦ broken_once δ true ⟧ ∗ ⟦ was_broken δ ⟧)
  sets_broken δ true = qed 𝓛 (‵ (broken_once δ true) ∷ []) ∵ updating ! $ fsplit ! $ res_dup ! $ move ! (0 ∷ 2 ∷ []) $ fjoin ! $ now ! $ done !
  sets_broken δ false = qed 𝓛 (‵ (broken_once δ false) ∷ []) ∵ updating ! $ fsplit ! $ use2 𝓛 (later (‵ (fobs δ broken_mark) ⊛ ‵ (fauth δ broken_mark))) (𝓛.names.name_set δ gnil gnil broken_mark) $ await ! tt $ split ! $
      use1 𝓛 (‵ (was_broken δ)) (𝓛.names.obs-res δ broken_mark) $ res_dup ! $ move ! (0 ∷ 2 ∷ []) $ fjoin ! $ now ! $ done !

  -- one whose room is empty is broken for the epoch under fresh names; its old ones stay as they are
  abbrev pub Rebroken : Names → Phase R.Denot → Lft → ℕ → ℕ → Fml
  Rebroken γ s epoch b e = fex Names (λ γ'. fsep (fact (IsNew γ Broken epoch γ')) (fsep (lying R b e γ' (None, broken_by_owner)) (auths R γ s)))

  pub rebroken : (γ : Names) (epoch : Lft) (b e : ℕ) (s : Phase R.Denot) → ⟦ auths R γ s ⟧ ∗ ⟦ place R None b e ⟧ ⊢ H.⇛ ⟦ Rebroken γ s epoch b e ⟧
  rebroken γ epoch b e s = qed 𝓛 (‵ (auths R γ s) ∷ ‵ (place R None b e) ∷ []) ∵ updating ! $
      use1 𝓛 (later (‵ (NewNames γ s Broken epoch))) (new_names γ s Broken epoch) $ await ! tt $ fpick ! (λ γ'. fsplit ! $ fpick ! (λ new. drop ! $ fsplit3 ! $
      -- [the right to set; the names; the old ones; the room]
      move ! (1 ∷ []) $ fsplit ! $ move ! (1 ∷ []) $ fpick ! (λ once. use1 𝓛 (later (‵ (broken_once γ'.broken_name true) ⊛ ‵ (was_broken γ'.broken_name))) (sets_broken γ'.broken_name once) $ await ! tt $ split ! $ now ! $ fpack ! Bool (broken_once γ'.broken_name) true $
      -- [the name of a break; broken; the value's name; the right to set; the old ones; the room]
      move ! (2 ∷ 0 ∷ []) $ fjoin ! $ move ! (1 ∷ 2 ∷ []) $ fjoin ! $ nothing ! $ fpack ! (HasNoSeat γ'.tied) (λ _. ftrue) (subst HasNoSeat (sym new.2) (no_seat γ.tied Broken)) $ fpack ! Bool (ended_or_seatless R γ') false $ move ! (1 ∷ 0 ∷ []) $ fjoin ! $
      -- [what goes with the phase; the value's name and that of a break; the old ones; the room]
      use0 𝓛 (‵ (seat_at γ'.tied Broken)) (seated γ γ' Broken new.2) $ move ! (1 ∷ 0 ∷ []) $ fjoin ! $ move ! (1 ∷ 0 ∷ []) $ fjoin ! $
      nothing ! $ fpack ! (Lies R None broken_by_owner) (λ _. ftrue) refl $ move ! (1 ∷ 0 ∷ []) $ fjoin ! $
      -- [what rests; the old ones; the room]
      move ! (2 ∷ 0 ∷ []) $ fjoin ! $ fjoin ! $ nothing ! $ fpack ! (IsNew γ Broken epoch γ') (λ _. ftrue) new $ fjoin ! $
      fpack ! Names (λ n. fsep (fact (IsNew γ Broken epoch n)) (fsep (lying R b e n (None, broken_by_owner)) (auths R γ s))) γ' $ done !)))

  -- a cell whose state is 3 shows its value
  pub full_shown : (γ : Names) (r : Rest R.Denot) → state r.1 ≡ 3 → ⟦ resting R γ r ⟧ ⊢ ⟦ resting R γ r ⟧ ∗ ⟦ fex R.Denot (written R γ.value_name) ⟧
  full_shown γ (v, free) three = absurd (omega arith)
  full_shown γ (v, begun) three = absurd (omega arith)
  full_shown γ (v, busy) three = absurd (omega arith)
  full_shown γ (v, broken_by_owner) three = absurd (omega arith)
  full_shown γ (v, broken) three = absurd (omega arith)
  full_shown γ (v, full x) three = qed 𝓛 (‵ (resting R γ (v, full x)) ∷ []) ∵ fsplit ! $ fsplit ! $ move ! (1 ∷ []) $ fsplit ! $ fsplit ! $ move ! (1 ∷ []) $ res_dup ! $
      -- [written, twice; the epoch has ended; the seat; the names; the room]
      move ! (2 ∷ 0 ∷ []) $ fjoin ! $ move ! (0 ∷ 2 ∷ []) $ fjoin ! $ move ! (2 ∷ 0 ∷ []) $ fjoin ! $ move ! (0 ∷ 2 ∷ []) $ fjoin ! $ frame ! $ fpack ! R.Denot (written R γ.value_name) x $ done !

  -- of one in another state the first name has no value
  abbrev pub Blank : Names → Phase R.Denot → Fml
  Blank γ s = fsep (auths R γ s) (fact (IsUnset (mark R s)))

  blank_with : (γ : Names) (r : Rest R.Denot) → IsUnset (mark R r.1) → ⟦ resting R γ r ⟧ ⊢ ⟦ Blank γ r.1 ⟧
  blank_with γ r is = qed 𝓛 (‵ (resting R γ r) ∷ []) ∵ fsplit ! $ fsplit ! $ keep ! (0 ∷ []) $ nothing ! $ fpack ! (IsUnset (mark R r.1)) (λ _. ftrue) is $ move ! (1 ∷ 0 ∷ []) $ fjoin ! $ done !

  pub blank_at : (γ : Names) (r : Rest R.Denot) → state r.1 ≢ 3 → ⟦ resting R γ r ⟧ ⊢ ⟦ Blank γ r.1 ⟧
  blank_at γ (v, free) other = blank_with γ (v, free) tt
  blank_at γ (v, begun) other = blank_with γ (v, begun) tt
  blank_at γ (v, busy) other = blank_with γ (v, busy) tt
  blank_at γ (v, broken) other = blank_with γ (v, broken) tt
  blank_at γ (v, broken_by_owner) other = blank_with γ (v, broken_by_owner) tt
  blank_at γ (v, full x) other = absurd (other refl)

not_twice : (b : Bool) → T (not (not b)) → T b
not_twice true h = h
not_twice false h = h

-- what a test of two words says
pub is_other : (n k : ℕ) → T (not (eqb n k)) → n ≢ k
is_other n k h same = subst (λ (b : Bool). T (not b)) (eq-eqb n k same) h

pub is_same : (n k : ℕ) → T (not (not (eqb n k))) → n ≡ k
is_same n k h = eqb→eq n k (not_twice (eqb n k) h)
