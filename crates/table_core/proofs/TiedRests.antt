-- A tied entry that is owned is lent, and one whose lending has ended is owned again: as in `once_cell`, with the seat that
-- goes along. Assumes `Logic`.
use Rattle.std.proofs.Common.{ℕ, ◌+◌, ◌<◌, ◌≤◌, [], ◌∷◌}
use seplogic.Ra.Ura.{Ura}
use base.Fraction.{full_share}
use base.Logic.{SProp, ent, sep, snd∗}
use base.Fml.{Lft, Share, Fml, ftrue, fsep, fex, fdead, flft, fnamed}
use types.Logic.{Logic, sem}
use types.Owned.{named_past}
use types.Kit.{‵, ◌⊛◌, some, given, later, ◌$◌, ◌∵◌, !, qed, by, move, keep, drop, split, split3, fsplit, fsplit3, fjoin, fpick, fpack, pick, learn, frame, done, use1, use3, await, updating, now}
use types.Tokens.{lent_back}
use contract.BorrowLft.{◌⊑◌, meet_⊑_right}
use denote.RattleType.{RattleType}
use denote.RawPtr.{Ptr, block_ptr, null_ptr}
use denote.Steps.{nothing}
use denote.Param.Laws.{Laws}
use native.Mathlib.Omega.{arith}
use Rattle.std.specs.declared.alloc.Global.{Global}
use Rattle.std.specs.declared.option.Option.{Option}
use Rattle.std.specs.declared.option.Option.TheVariants.{Some}
use Rattle.once_cell.specs.Once.{settled, resting}
use Rattle.once_cell.proofs.Moves as moves
use Rattle.tie_core.specs.Visit.{EntryTie, entry_seat}
use Rattle.table_core.specs.TiedEntry.{past, tied_kept, tied_shown, published}

module _ {M : Type 1} {𝓤 : Ura M} (𝓛 : Logic 𝓤) (R : RattleType) (L : Laws R) (number : R.Denot → ℕ) (a : Global) (γ : ℕ) (τ : Option EntryTie) where
  open 𝓛 use {H, A}

  abbrev Pr : Type 2
  Pr = SProp 𝓤

  abbrev ◌⊢◌ : Pr → Pr → Type 1
  P ⊢ Q = ent 𝓤 P Q

  abbrev ◌∗◌ : Pr → Pr → Pr
  P ∗ Q = sep 𝓤 P Q

  abbrev ⟦◌⟧ : Fml → Pr
  ⟦ P ⟧ = sem 𝓛 P

  infix 26 ◌⊢◌
  infixr 35 ◌∗◌
  abbrev Kept : Ptr → Fml
  Kept = tied_kept R number a γ τ

  abbrev Shown : Lft → Ptr → Fml
  Shown = tied_shown R number a γ τ

  -- what an entry keeps of a block that is not lent
  abbrev rested : Ptr → R.Denot × Lft → Fml
  rested p u = fsep (fsep (resting R a p u) (settled R γ u.0)) (entry_seat τ (Some (number u.0)))

  -- the block is shared
  pub wakes : (α : Lft) (s : Share) (μ : Lft) (r : Share) → μ ⊑ R.lives → (p : Ptr) → ⟦ Kept p ⟧ ∗ A.lft α s ∗ A.lft μ r ⊢ H.⇛ (⟦ Shown α p ⟧ ∗ A.lft α s ∗ A.lft μ r)
  wakes α s μ r within null_ptr = 𝓛.laws.⇛_intro _
  wakes α s μ r within (block_ptr b o) = let p : Ptr = block_ptr b o in qed 𝓛 (‵ (Kept p) ∷ ‵ (flft α s) ∷ ‵ (flft μ r) ∷ []) ∵ updating ! $ fsplit ! $ move ! (1 ∷ []) $ fpick ! (λ u. fsplit ! $ fsplit ! $ fsplit ! $ lent_back ! tt $
      -- [the box; the name; the seat; that its address may be tested; the tokens]
      move ! (0 ∷ 4 ∷ 5 ∷ []) $ use3 𝓛 (later (moves.Out 𝓛 R L a α s μ r p u.0)) (moves.lend_out 𝓛 R L a α s μ r within p u.0) $ await ! tt $ pick ! (λ ν. split3 ! $
      -- [the block; the tokens; the name; the seat; that its address may be tested]
      move ! (0 ∷ 3 ∷ []) $ fjoin ! $ move ! (0 ∷ 3 ∷ []) $ fjoin ! $ fpack ! (R.Denot × ℕ × Share) (published R number a γ τ α p) (u.0, ν, full_share) $ move ! (3 ∷ 0 ∷ []) $ fjoin ! $ now ! $ done !))

  -- once the lending has ended, the entry keeps the block
  pub rests : (α : Lft) (p : Ptr) → A.dead α ∗ ⟦ Shown α p ⟧ ⊢ ⟦ Kept p ⟧
  rests α null_ptr = snd∗ 𝓤 (A.dead α) ⟦ Shown α null_ptr ⟧
  rests α (block_ptr b o) = let p : Ptr = block_ptr b o in qed 𝓛 (‵ (fdead α) ∷ ‵ (Shown α p) ∷ []) ∵ move ! (1 ∷ []) $ fsplit ! $ frame ! $ fpick ! (λ u. fsplit ! $ fsplit ! $ fsplit3 ! $ keep ! (5 ∷ 2 ∷ 3 ∷ 4 ∷ []) $
      use1 𝓛 (‵ (fdead (u.1 ∷ α))) (𝓛.lfts.dead-incl (u.1 ∷ α) α (meet_⊑_right (u.1 ∷ []) α)) $ fjoin ! $ fjoin ! $ fjoin ! $ fpack ! (R.Denot × Lft) (rested p) (u.0, u.1 ∷ α) $ done !)

-- an invariant may have a number above any other
pub past_new : {M : Type 1} {𝓤 : Ura M} (𝓛 : Logic 𝓤) (m : ℕ) (P : Fml) → ent 𝓤 (sem 𝓛 P) (𝓛.H.⇛ (sem 𝓛 (past m P)))
past_new 𝓛 m P = qed 𝓛 (‵ P ∷ []) ∵ updating ! $ use1 𝓛 (later (some (λ (j : ℕ). given (m + 1 ≤ j) (‵ (fnamed j P))))) (named_past 𝓛 (m + 1) P) $ await ! tt $ pick ! (λ j. learn ! (λ far. now ! $
    nothing ! $ fpack ! (m < j) (λ _. ftrue) (omega (arith, far)) $ fjoin ! $ fpack ! ℕ (λ n. fsep (fex (m < n) (λ _. ftrue)) (fnamed n P)) j $ done !))

-- it can be had twice
pub past_dup : {M : Type 1} {𝓤 : Ura M} (𝓛 : Logic 𝓤) (m : ℕ) (P : Fml) → ent 𝓤 (sem 𝓛 (past m P)) (sep 𝓤 (sem 𝓛 (past m P)) (sem 𝓛 (past m P)))
past_dup 𝓛 m P = let F : ℕ → Fml = λ n. fsep (fex (m < n) (λ _. ftrue)) (fnamed n P) in qed 𝓛 (‵ (past m P) ∷ []) ∵ fpick ! (λ n. fsplit ! $ fpick ! (λ more. drop ! $ use1 𝓛 (‵ (fnamed n P) ⊛ ‵ (fnamed n P)) (𝓛.invs.named_dup n P) $ split ! $
    nothing ! $ fpack ! (m < n) (λ _. ftrue) more $ fjoin ! $ fpack ! ℕ F n $ frame ! $ nothing ! $ fpack ! (m < n) (λ _. ftrue) more $ fjoin ! $ fpack ! ℕ F n $ done !))

-- and it is an invariant
pub past_inv : {M : Type 1} {𝓤 : Ura M} (𝓛 : Logic 𝓤) (m : ℕ) (P : Fml) → ent 𝓤 (sem 𝓛 (past m P)) (𝓛.A.inv P)
past_inv 𝓛 m P = qed 𝓛 (‵ (past m P) ∷ []) ∵ fpick ! (λ n. fsplit ! $ drop ! $ by ! (𝓛.invs.named_inv n P))
