-- The effect of each step on a raw cell. Assumes `Logic`.
use Rattle.std.proofs.Common.{Bool, true, false, ◌≡◌, ◌≢◌, ℕ, zero, suc, ◌+◌, ◌-◌, ◌<◌, ◌≤◌, eqb, [], ◌∷◌, sym, refl, ap, ◌∙◌, subst, arith}
use Rattle.std.specs.Prelude.{Option, Some, None}
use seplogic.Ra.Ura.{Ura}
use lib.Bits.{bit_and, bit_or}
use base.Fraction.{full_share}
use base.Stored.{Gv, gnil, gnum, gcons}
use base.Logic.{SProp, ent, sep, ex, emp, guard, never, never_e, upd, upd_i, id⊢, wand, all, all_e, apply∗}
use base.Fml.{Lft, Incl, GName, Share, Fml, ftrue, fsep, fex, fseps, fwand, fupd, fdead, fobs, fauth, fres, fbor, flft}
use ghost.Rules.{Toks, span}
use types.Logic.{Logic, sem, lfts}
use types.Kit.{‵, raw, ◌⊛◌, some, given, later, ◌$◌, ◌∵◌, !, qed, by, move, keep, drop, use0, use1, use2, use3, split, split3, check, join, fsplit, fsplit3, fjoin, fjoin3, fpick, fpack, learn, pick, show, assume, suffices, await, updating, now, rewrite, settle, done}
use types.Tokens.{bor_open, obor_alter, res_dup, res_agree}
use denote.RattleType.{RattleType, RowLaws}
use denote.Memory.{shared_of, part_at}
use denote.Shares.{Shares}
use denote.Steps.{nothing}
use denote.SharingLaws.{contraction}
use contract.Monad as monad
use Rattle.core.proofs.once.Turns.{one_value}
use Rattle.core.proofs.cell.Borrows.{by_one}
use Rattle.cell_core.specs.Member.{HasNames, IsStateOf, MayBeStateOf, IsEpochOf, unfilled, known_as}
use Rattle.cell_core.specs.Slot.{Names, IsPlain, HasNoSeat, mender_sought, SeeksBroken, fact, writer_state, writer_stage, free, begun, busy, full, broken, broken_by_owner, state, stage, broken_mark, was_broken, broken_once, content, mark, written, place, auths, unset, setting, fill_added, break_added, over, broken_unset, ended_or_seatless, reserved, told, seat, inside, Room, tie, lent, bare, cell, Right, FirstRight, gained, won, sighted, sights}
use Rattle.tie_core.specs.Tie.{Tie, Stage, Idle, Begun, Mending, Filled, Broken, stage_number, IsHeld, IsTied, Step, begins as beginning, looks as looking, fills as filling, breaks as breaking, mends as mending, Shows, Moves, Gives, HasMade, Made, seat_at, left, update}
use Rattle.cell_core.proofs.WordSteps.{S, Next, Law}

abbrev head : Gv → Gv
head (gcons a b) = a
head gnil = gnil
head (gnum n) = gnil

abbrev paired : Gv → ℕ
paired (gcons a b) = 1
paired gnil = 0
paired (gnum n) = 0

abbrev numbered : Gv → ℕ
numbered (gcons a b) = 0
numbered gnil = 0
numbered (gnum n) = 1

pub fill_small : (first : Bool) → fill_added first < 7
fill_small true = omega arith
fill_small false = omega arith

pub break_small : (first : Bool) → break_added first < 7
break_small true = omega arith
break_small false = omega arith

-- a cell that one call has, and whose state is that of an empty one, is begun
pub held_at_zero : (s : Stage) → Shows s 0 → IsHeld s → s ≡ Begun
held_at_zero Idle shows is = absurd is
held_at_zero Begun shows is = refl
held_at_zero Mending shows is = absurd (let z : 0 ≡ 1 = shows in omega (arith, z))
held_at_zero Filled shows is = absurd is
held_at_zero Broken shows is = absurd is

-- one whose state is that of a busy one is being mended
held_at_one : (s : Stage) → Shows s 1 → IsHeld s → s ≡ Mending
held_at_one Idle shows is = absurd is
held_at_one Begun shows is = absurd (let z : 1 ≡ 0 = shows in omega (arith, z))
held_at_one Mending shows is = refl
held_at_one Filled shows is = absurd is
held_at_one Broken shows is = absurd is

held_by : (first : Bool) (n : ℕ) (s : Stage) → n ≡ writer_state first → Shows s n → IsHeld s → s ≡ writer_stage first
held_by true n s at shows is = held_at_zero s (subst (λ (m : ℕ). Shows s m) at shows) is
held_by false n s at shows is = held_at_one s (subst (λ (m : ℕ). Shows s m) at shows) is

-- what a writer that found its cell made
pub made_filled : (first : Bool) (n : ℕ) (m : Made) → n ≡ writer_state first → HasMade filling n (Some m) → Some m ≡ Some (writer_stage first, Filled)
made_filled first n m at has = let from = held_by first n m.0 at has.0.0 has.0.1 in let is : m ≡ (writer_stage first, Filled) = λ i. (from i, has.0.2 i) in ap Some is

pub made_broken : (first : Bool) (n : ℕ) (m : Made) → n ≡ writer_state first → HasMade breaking n (Some m) → Some m ≡ Some (writer_stage first, Broken)
made_broken first n m at has = let from = held_by first n m.0 at has.0.0 has.0.1 in let is : m ≡ (writer_stage first, Broken) = λ i. (from i, has.0.2 i) in ap Some is

-- a mender of a cell with a seat found what it sought exactly if it found a broken cell
pub seeks_broken : (n : ℕ) → SeeksBroken n (mender_sought n)
seeks_broken zero = ((λ high. absurd (let z : 3 < 0 = high in omega (arith, z))), λ low same. absurd (let z : 0 ≡ 5 = same in omega (arith, z)))
seeks_broken (suc zero) = ((λ high. absurd (let z : 3 < 1 = high in omega (arith, z))), λ low same. absurd (let z : 1 ≡ 5 = same in omega (arith, z)))
seeks_broken (suc (suc zero)) = ((λ high. absurd (let z : 3 < 2 = high in omega (arith, z))), λ low same. absurd (let z : 2 ≡ 5 = same in omega (arith, z)))
seeks_broken (suc (suc (suc zero))) = ((λ high. absurd (let z : 3 < 3 = high in omega (arith, z))), λ low same. absurd (let z : 3 ≡ 5 = same in omega (arith, z)))
seeks_broken (suc (suc (suc (suc n)))) = ((λ high. refl), λ low same. absurd (let z : suc (suc (suc (suc n))) ≤ 3 = low in omega (arith, z)))

-- a formula, and that a step found this state
abbrev pub found_at : Fml → ℕ → ℕ → Fml
found_at P c n = fsep P (fact (n ≡ c))

some_is_tied : (t : Tie) → Some t ≡ None → ⊥
some_is_tied t e = cc

is_tied : (τ : Option Tie) → τ ≢ None → IsTied τ
is_tied None other = absurd (other refl)
is_tied (Some t) other = tt

-- a cell that is not tied is not tied
untied_not : (τ : Option Tie) → τ ≡ None → IsTied τ → ⊥
untied_not None none tied = tied
untied_not (Some t) none tied = absurd (let z = none in cc)

module _ {M : Type 1} {𝓤 : Ura M} (𝓛 : Logic 𝓤) (R : RattleType) (γ : Names) (α : Lft) (δ : GName) (b e : ℕ) where
  open 𝓛 use {H, A}

  abbrev Pr : Type 2
  Pr = SProp 𝓤

  abbrev ◌⊢◌ : Pr → Pr → Type 1
  P ⊢ Q = ent 𝓤 P Q

  abbrev ◌∗◌ : Pr → Pr → Pr
  P ∗ Q = sep 𝓤 P Q

  abbrev ⟦◌⟧ : Fml → Pr
  ⟦ P ⟧ = sem 𝓛 P

  infix 26 ◌⊢◌
  infixr 35 ◌∗◌
  abbrev Cell : S R → Fml
  Cell = bare R γ α δ b e

  abbrev Seated : S R → Fml
  Seated = cell R γ α δ b e

  -- what a step does to a cell but its seat: a relation of the phases before and after it holds
  abbrev pub BareNext : (S R → S R → Type 0) → (ℕ → ℕ) → (ℕ → Fml) → S R → S R → Pr
  BareNext rel g after s x = guard 𝓤 ((state x ≡ g (state s)) × rel s x) (⟦ Cell x ⟧ ∗ ⟦ after (state s) ⟧)

  abbrev pub BareLaw : (S R → S R → Type 0) → (ℕ → ℕ) → (ℕ → Fml) → Pr → Type 1
  BareLaw rel g after X = (s : S R) → ⟦ Cell s ⟧ ∗ X ⊢ upd 𝓤 (ex 𝓤 (BareNext rel g after s))

  -- no relation, and that the phase stays
  abbrev pub any : S R → S R → Type 0
  any s x = Unit {0}

  abbrev pub same : S R → S R → Type 0
  same s x = x ≡ s

  -- what an offer for a step may assume
  abbrev pub moved : Step → S R → S R → Type 0
  moved step s x = Moves step (state s) (stage s) (stage x)

  -- a cell is what it is but its seat, and its seat
  parts : (s : S R) → ⟦ Seated s ⟧ ⊢ ⟦ Cell s ⟧ ∗ ⟦ seat R γ s ⟧
  parts s = qed 𝓛 (‵ (Seated s) ∷ []) ∵ fsplit3 ! $ move ! (1 ∷ []) $ fsplit ! $
      -- [what goes with the phase; the seat; the names; the room]
      move ! (2 ∷ 0 ∷ 3 ∷ []) $ fjoin3 ! $ done !

  whole : (s : S R) → ⟦ Cell s ⟧ ∗ ⟦ seat R γ s ⟧ ⊢ ⟦ Seated s ⟧
  whole s = qed 𝓛 (‵ (Cell s) ∷ ‵ (seat R γ s) ∷ []) ∵ fsplit3 ! $ move ! (1 ∷ 3 ∷ []) $ fjoin ! $ move ! (1 ∷ 0 ∷ 2 ∷ []) $ fjoin3 ! $ done !

  plain_seat : (τ : Option Tie) → τ ≡ None → (n : Stage) → emp 𝓤 ⊢ ⟦ seat_at τ n ⟧
  plain_seat None none n = id⊢ 𝓤 _
  plain_seat (Some t) none n = absurd (let z = none in cc)

  -- a cell that is not tied has no seat
  pub untied : (rel : S R → S R → Type 0) (g : ℕ → ℕ) (after : ℕ → Fml) (X : Pr) → IsPlain γ → BareLaw rel g after X → Law 𝓛 R α b γ δ e g after X
  untied rel g after X plain law s = let Z : Pr = ex 𝓤 (Next 𝓛 R α b γ δ e g after s) in qed 𝓛 (‵ (Seated s) ∷ raw X ∷ []) ∵ use1 𝓛 (‵ (Cell s) ⊛ ‵ (seat R γ s)) (parts s) $ split ! $ keep ! (0 ∷ 2 ∷ []) $
      use2 𝓛 (raw (upd 𝓤 (ex 𝓤 (BareNext rel g after s)))) (law s) $ settle 𝓛 Z (some (λ (x : S R). given ((state x ≡ g (state s)) × rel s x) (‵ (Cell x) ⊛ ‵ (after (state s))))) $ pick ! (λ x. learn ! (λ so. split ! $
      suffices ! _ (upd_i 𝓤 Z) $ use0 𝓛 (‵ (seat R γ x)) (plain_seat γ.tied plain (stage x)) $ move ! (1 ∷ 0 ∷ []) $ use2 𝓛 (‵ (Seated x)) (whole x) $ show ! (Next 𝓛 R α b γ δ e g after s) x $ check ! so.0 $ done !))

  -- a step that leaves the phase leaves the seat
  pub keeps : (g : ℕ → ℕ) (after : ℕ → Fml) (X : Pr) → BareLaw same g after X → Law 𝓛 R α b γ δ e g after X
  keeps g after X law s = let Z : Pr = ex 𝓤 (Next 𝓛 R α b γ δ e g after s) in qed 𝓛 (‵ (Seated s) ∷ raw X ∷ []) ∵ use1 𝓛 (‵ (Cell s) ⊛ ‵ (seat R γ s)) (parts s) $ split ! $ move ! (0 ∷ 2 ∷ []) $
      use2 𝓛 (raw (upd 𝓤 (ex 𝓤 (BareNext same g after s)))) (law s) $ settle 𝓛 Z (some (λ (x : S R). given ((state x ≡ g (state s)) × (x ≡ s)) (‵ (Cell x) ⊛ ‵ (after (state s))))) $ pick ! (λ x. learn ! (λ so. split ! $
      suffices ! _ (upd_i 𝓤 Z) $ rewrite ! 2 (λ (y : S R). ‵ (seat R γ y)) (sym so.1) refl $ move ! (0 ∷ 2 ∷ []) $ use2 𝓛 (‵ (Seated x)) (whole x) $ show ! (Next 𝓛 R α b γ δ e g after s) x $ check ! so.0 $ done !))

  -- a step of a tied cell that runs an update of its caller
  module _ (age : Lft) (J : Fml) (gain : Stage → Stage → Fml) (t : Tie) (step : Step) where
    abbrev Update : Fml
    Update = update age J gain t step

    -- what the step leaves to its caller
    abbrev pub told_by : ℕ → Made → Fml
    told_by n m = fsep (gain m.0 m.1) (fact (HasMade step n (Some m)))

    abbrev pub ran : ℕ → Fml
    ran n = fex Made (told_by n)

    abbrev Turned : ℕ × Stage × Stage → Pr
    Turned m = wand 𝓤 (⟦ seat_at (Some t) m.1 ⟧ ∗ ⟦ J ⟧) (upd 𝓤 ⟦ left age J gain t step m.1 m.2 ⟧)

    runs : (n : ℕ) (p p' : Stage) → Moves step n p p' → γ.tied ≡ Some t → ⟦ seat_at γ.tied p ⟧ ∗ ⟦ J ⟧ ∗ ⟦ Update ⟧ ⊢ upd 𝓤 (guard 𝓤 (Gives step p) (⟦ seat_at γ.tied p' ⟧ ∗ ⟦ J ⟧ ∗ ⟦ ran n ⟧))
    runs n p p' moves is = let Z : Pr = guard 𝓤 (Gives step p) (⟦ seat_at γ.tied p' ⟧ ∗ ⟦ J ⟧ ∗ ⟦ ran n ⟧) in
        qed 𝓛 (‵ (seat_at γ.tied p) ∷ ‵ J ∷ ‵ Update ∷ []) ∵ rewrite ! 0 (λ (τ : Option Tie). ‵ (seat_at τ p)) is refl $ move ! (2 ∷ []) $
        use1 𝓛 (raw (all 𝓤 (λ (_ : Moves step n p p'). Turned (n, p, p')))) (all_e 𝓤 (λ (m : ℕ × Stage × Stage). all 𝓤 (λ (_ : Moves step m.0 m.1 m.2). Turned m)) (n, p, p')) $
        use1 𝓛 (raw (Turned (n, p, p'))) (all_e 𝓤 (λ (_ : Moves step n p p'). Turned (n, p, p')) moves) $ move ! (1 ∷ 2 ∷ []) $ join ! $
        use2 𝓛 (raw (upd 𝓤 ⟦ left age J gain t step p p' ⟧)) (apply∗ 𝓤 (⟦ seat_at (Some t) p ⟧ ∗ ⟦ J ⟧) (upd 𝓤 ⟦ left age J gain t step p p' ⟧)) $ settle 𝓛 Z (‵ (left age J gain t step p p')) $
        fsplit3 ! $ move ! (2 ∷ []) $ fsplit ! $ move ! (1 ∷ []) $ fpick ! (λ gives. drop ! $ suffices ! _ (upd_i 𝓤 Z) $ check ! gives $
        -- [the gain; the seat; the table]
        nothing ! $ fpack ! (HasMade step n (Some (p, p'))) (λ _. ftrue) (moves, gives) $ move ! (1 ∷ 0 ∷ []) $ fjoin ! $ fpack ! Made (told_by n) (p, p') $
        rewrite ! 1 (λ (τ : Option Tie). ‵ (seat_at τ p')) (sym is) refl $ move ! (1 ∷ 2 ∷ 0 ∷ []) $ done !)

    pub asks_by : (g : ℕ → ℕ) (after : ℕ → Fml) (X : Pr) → γ.tied ≡ Some t → BareLaw (moved step) g after X
        → Law 𝓛 R α b γ δ e g (λ n. fsep J (fsep (after n) (ran n))) (⟦ J ⟧ ∗ (⟦ Update ⟧ ∗ X))
    asks_by g after X is law s = let then : ℕ → Fml = λ n. fsep J (fsep (after n) (ran n)) in let Z : Pr = ex 𝓤 (Next 𝓛 R α b γ δ e g then s) in let n : ℕ = state s in
        qed 𝓛 (‵ (Seated s) ∷ ‵ J ∷ ‵ Update ∷ raw X ∷ []) ∵ use1 𝓛 (‵ (Cell s) ⊛ ‵ (seat R γ s)) (parts s) $ split ! $ move ! (0 ∷ 4 ∷ []) $
        use2 𝓛 (raw (upd 𝓤 (ex 𝓤 (BareNext (moved step) g after s)))) (law s) $ settle 𝓛 Z (some (λ (x : S R). given ((state x ≡ g n) × moved step s x) (‵ (Cell x) ⊛ ‵ (after n)))) $ pick ! (λ x. learn ! (λ so. split ! $
        -- [the cell; what the step leaves; the seat; the table; the update]
        move ! (2 ∷ 3 ∷ 4 ∷ []) $ use3 𝓛 (raw (upd 𝓤 (guard 𝓤 (Gives step (stage s)) (⟦ seat R γ x ⟧ ∗ ⟦ J ⟧ ∗ ⟦ ran n ⟧)))) (runs n (stage s) (stage x) so.1 is) $
        settle 𝓛 Z (given (Gives step (stage s)) (‵ (seat R γ x) ⊛ ‵ J ⊛ ‵ (ran n))) $ learn ! (λ gives. split3 ! $ suffices ! _ (upd_i 𝓤 Z) $
        -- [the seat; the table; what is told; the cell; what the step leaves]
        move ! (3 ∷ 0 ∷ []) $ use2 𝓛 (‵ (Seated x)) (whole x) $ move ! (3 ∷ 2 ∷ []) $ fjoin ! $ move ! (2 ∷ 0 ∷ []) $ fjoin ! $ move ! (1 ∷ 0 ∷ []) $ show ! (Next 𝓛 R α b γ δ e g then s) x $ check ! so.0 $ done !)))

  abbrev rest : S R → Fml
  rest s = fsep (tie R γ α δ b e s) (lent R γ α δ b e s)

  -- what the state shows can be had next to the cell
  abbrev Sights : ℕ → Fml
  Sights = sights R γ

  abbrev seen_of : S R → Option R.Denot
  seen_of free = None
  seen_of begun = None
  seen_of busy = None
  seen_of (full x) = Some x
  seen_of broken = None
  seen_of broken_by_owner = None

  shows_with : (s : S R) → ⟦ told R γ s ⟧ ⊢ ⟦ told R γ s ⟧ ∗ ⟦ sighted R γ (state s) (seen_of s) ⟧
  shows_with free = qed 𝓛 (‵ (told R γ free) ∷ []) ∵ nothing ! $ move ! (1 ∷ []) $ done !
  shows_with begun = qed 𝓛 (‵ (told R γ begun) ∷ []) ∵ nothing ! $ move ! (1 ∷ []) $ done !
  shows_with busy = qed 𝓛 (‵ (told R γ busy) ∷ []) ∵ nothing ! $ move ! (1 ∷ []) $ done !
  shows_with (full x) = qed 𝓛 (‵ (told R γ (full x)) ∷ []) ∵ fsplit ! $ move ! (1 ∷ []) $ res_dup ! $ move ! (2 ∷ 0 ∷ []) $ fjoin ! $ done !
  shows_with broken = qed 𝓛 (‵ (told R γ broken) ∷ []) ∵ fsplit ! $ move ! (1 ∷ []) $ fsplit ! $ res_dup ! $ move ! (0 ∷ 2 ∷ []) $ fjoin ! $ move ! (2 ∷ 0 ∷ []) $ fjoin ! $ done !
  shows_with broken_by_owner = qed 𝓛 (‵ (told R γ broken_by_owner) ∷ []) ∵ fsplit ! $ fsplit ! $ res_dup ! $ move ! (0 ∷ 2 ∷ []) $ fjoin ! $ move ! (0 ∷ 2 ∷ []) $ fjoin ! $ done !

  looked : (s : S R) → ⟦ Cell s ⟧ ⊢ ⟦ Cell s ⟧ ∗ ⟦ Sights (state s) ⟧
  looked s = qed 𝓛 (‵ (Cell s) ∷ []) ∵ fsplit3 ! $ move ! (1 ∷ []) $ use1 𝓛 (‵ (told R γ s) ⊛ ‵ (sighted R γ (state s) (seen_of s))) (shows_with s) $ split ! $
      -- [what goes with the phase; what it shows; the names; the room]
      move ! (2 ∷ 0 ∷ 3 ∷ []) $ fjoin3 ! $ move ! (1 ∷ []) $ fpack ! (Option R.Denot) (sighted R γ (state s)) (seen_of s) $ move ! (1 ∷ 0 ∷ []) $ done !

  -- a step from the state m to busy
  abbrev Won : ℕ → ℕ → Fml
  Won = won R γ α δ b e false

  abbrev Leaves : (S R → S R → Type 0) → ℕ → (ℕ → ℕ) → S R → S R → Pr
  Leaves rel m g = BareNext rel g (Won m)

  misses : (rel : S R → S R → Type 0) (m : ℕ) (g : ℕ → ℕ) (s : S R) → eqb (state s) m ≡ false → state s ≡ g (state s) → rel s s → ⟦ Cell s ⟧ ⊢ ex 𝓤 (Leaves rel m g s)
  misses rel m g s miss stays so = qed 𝓛 (‵ (Cell s) ∷ []) ∵ show ! (Leaves rel m g s) s $ check ! (stays, so) $ by ! (subst (λ (h : Bool). ⟦ Cell s ⟧ ⊢ ⟦ Cell s ⟧ ∗ ⟦ gained R γ α δ b e false h (state s) ⟧) (sym miss) (looked s))

  hits : (rel : S R → S R → Type 0) (m : ℕ) (g : ℕ → ℕ) (s : S R) (P : Pr) → eqb (state s) m ≡ true → 1 ≡ g (state s) → rel s busy → P ⊢ ⟦ Cell busy ⟧ ∗ ⟦ Right R γ α δ b e ⟧ → P ⊢ ex 𝓤 (Leaves rel m g s)
  hits rel m g s P hit one so gain = qed 𝓛 (raw P ∷ []) ∵ show ! (Leaves rel m g s) busy $ check ! (one, so) $ by ! (subst (λ (h : Bool). P ⊢ ⟦ Cell busy ⟧ ∗ ⟦ gained R γ α δ b e false h (state s) ⟧) (sym hit) gain)

  seized : ⟦ auths R γ busy ⟧ ∗ ⟦ over R γ ⟧ ∗ ⟦ unset R γ ⟧ ∗ ⟦ rest free ⟧ ⊢ ⟦ Cell busy ⟧ ∗ ⟦ Right R γ α δ b e ⟧
  seized = qed 𝓛 (‵ (auths R γ busy) ∷ ‵ (over R γ) ∷ ‵ (unset R γ) ∷ ‵ (rest free) ∷ []) ∵ move ! (1 ∷ []) $ use1 𝓛 (‵ (over R γ) ⊛ ‵ (over R γ)) (𝓛.lfts.dead_dup γ.epoch) $ split ! $
      -- [the epoch has ended, twice; the names; the right to set; the room]
      move ! (0 ∷ 3 ∷ []) $ fjoin ! $ move ! (0 ∷ 3 ∷ []) $ fjoin ! $ nothing ! $ nothing ! $ fjoin ! $ move ! (3 ∷ 2 ∷ 0 ∷ []) $ fjoin3 ! $ done !

  frees : ⟦ Cell free ⟧ ⊢ ⟦ Cell busy ⟧ ∗ ⟦ Right R γ α δ b e ⟧
  frees = qed 𝓛 (‵ (Cell free) ∷ []) ∵ fsplit3 ! $ move ! (1 ∷ []) $ fsplit ! $ move ! (2 ∷ 0 ∷ 1 ∷ 3 ∷ []) $ by ! seized

  unbreaks : ⟦ Cell broken ⟧ ⊢ ⟦ Cell busy ⟧ ∗ ⟦ Right R γ α δ b e ⟧
  unbreaks = qed 𝓛 (‵ (Cell broken) ∷ []) ∵ fsplit3 ! $ move ! (1 ∷ []) $ fsplit ! $ move ! (1 ∷ []) $ fsplit ! $ drop ! $
      -- [the right to set; the epoch has ended; the names; the room]
      move ! (2 ∷ 1 ∷ 0 ∷ []) $ by ! seized

  unbreaks_owned : ⟦ Cell broken_by_owner ⟧ ∗ ⟦ over R γ ⟧ ⊢ ⟦ Cell busy ⟧ ∗ ⟦ Right R γ α δ b e ⟧
  unbreaks_owned = qed 𝓛 (‵ (Cell broken_by_owner) ∷ ‵ (over R γ) ∷ []) ∵ fsplit3 ! $ move ! (1 ∷ []) $ fsplit ! $ fsplit ! $ drop ! $ move ! (1 ∷ []) $ drop ! $
      -- [the right to set; the names; the room; the epoch has ended]
      move ! (1 ∷ 3 ∷ 0 ∷ []) $ by ! seized

  abbrev beginning_by : ℕ → ℕ
  beginning_by c = bit_or c 1

  begins_at : IsPlain γ → (s : S R) → ⟦ Cell s ⟧ ⊢ ex 𝓤 (Leaves any 0 beginning_by s)
  begins_at plain free = hits any 0 beginning_by free ⟦ Cell free ⟧ refl refl tt frees
  begins_at plain begun = qed 𝓛 (‵ (Cell begun) ∷ []) ∵ fsplit3 ! $ move ! (1 ∷ []) $ fsplit ! $ move ! (1 ∷ []) $ fpick ! (λ tied. absurd (untied_not γ.tied plain tied))
  begins_at plain busy = misses any 0 beginning_by busy refl refl tt
  begins_at plain (full x) = misses any 0 beginning_by (full x) refl refl tt
  begins_at plain broken = misses any 0 beginning_by broken refl refl tt
  begins_at plain broken_by_owner = misses any 0 beginning_by broken_by_owner refl refl tt

  -- a state shows the stage
  shows_stage : (s : S R) → Shows (stage s) (state s)
  shows_stage free = refl
  shows_stage begun = refl
  shows_stage busy = refl
  shows_stage (full x) = refl
  shows_stage broken = omega arith
  shows_stage broken_by_owner = omega arith

  abbrev mending_by : ℕ → ℕ
  mending_by c = bit_and c (15 - 4)

  mends_at : (s : S R) → ⟦ Cell s ⟧ ⊢ ex 𝓤 (Leaves any 5 mending_by s)
  mends_at free = misses any 5 mending_by free refl refl tt
  mends_at begun = misses any 5 mending_by begun refl refl tt
  mends_at busy = misses any 5 mending_by busy refl refl tt
  mends_at (full x) = misses any 5 mending_by (full x) refl refl tt
  mends_at broken = hits any 5 mending_by broken ⟦ Cell broken ⟧ refl refl tt unbreaks
  mends_at broken_by_owner = misses any 5 mending_by broken_by_owner refl refl tt

  -- what a step that needs nothing does
  alone : (rel : S R → S R → Type 0) (m : ℕ) (g : ℕ → ℕ) → ((s : S R) → ⟦ Cell s ⟧ ⊢ ex 𝓤 (Leaves rel m g s)) → BareLaw rel g (Won m) (emp 𝓤)
  alone rel m g law s = qed 𝓛 (‵ (Cell s) ∷ raw (emp 𝓤) ∷ []) ∵ suffices ! _ (upd_i 𝓤 (ex 𝓤 (Leaves rel m g s))) $ keep ! (0 ∷ []) $ by ! (law s)

  pub begins : IsPlain γ → Law 𝓛 R α b γ δ e (λ c. bit_or c 1) (Won 0) (emp 𝓤)
  begins plain = untied any beginning_by (Won 0) (emp 𝓤) plain (alone any 0 beginning_by (begins_at plain))

  pub mends : IsPlain γ → Law 𝓛 R α b γ δ e (λ c. bit_and c (15 - 4)) (Won 5) (emp 𝓤)
  mends plain = untied any mending_by (Won 5) (emp 𝓤) plain (alone any 5 mending_by mends_at)

  -- the step of a mender, which takes a broken cell whoever broke it; the cell has a seat
  abbrev taking_by : ℕ → ℕ
  taking_by c = bit_and c (15 - 12)

  -- what it gains
  abbrev pub Taken : ℕ → Fml
  Taken n = Won (mender_sought n) n

  stays_unless : (s : S R) → state s ≤ 3 → moved mending s s
  stays_unless s low = (shows_stage s, (λ high. absurd (let z : 3 < state s = high in omega (arith, z, low))), λ _. refl)

  takes : (s : S R) → 3 < state s → moved mending s busy
  takes s high = (shows_stage s, (λ _. refl), λ low. absurd (let z : state s ≤ 3 = low in omega (arith, z, high)))

  -- the epoch of a cell with a seat that an owner broke has ended
  over_of : (t : Tie) → γ.tied ≡ Some t → t.fixed ≡ None → (by_time : Bool) → ⟦ ended_or_seatless R γ by_time ⟧ ⊢ ⟦ over R γ ⟧
  over_of t is seated true = id⊢ 𝓤 _
  over_of t is seated false = qed 𝓛 (‵ (ended_or_seatless R γ false) ∷ []) ∵ fpick ! (λ none. absurd (subst HasNoSeat is none seated))

  unbreaks_seated : (t : Tie) → γ.tied ≡ Some t → t.fixed ≡ None → ⟦ Cell broken_by_owner ⟧ ⊢ ⟦ Cell busy ⟧ ∗ ⟦ Right R γ α δ b e ⟧
  unbreaks_seated t is seated = qed 𝓛 (‵ (Cell broken_by_owner) ∷ []) ∵ fsplit3 ! $ move ! (1 ∷ []) $ fsplit ! $ move ! (1 ∷ []) $ fpick ! (λ by_time.
      use1 𝓛 (‵ (over R γ)) (over_of t is seated by_time) $ move ! (1 ∷ []) $ fsplit ! $ drop ! $
      -- [the right to set; the epoch has ended; the names; the room]
      move ! (2 ∷ 1 ∷ 0 ∷ []) $ by ! seized)

  takes_at : (t : Tie) → γ.tied ≡ Some t → t.fixed ≡ None → (s : S R) → ⟦ Cell s ⟧ ⊢ ex 𝓤 (BareNext (moved mending) taking_by Taken s)
  takes_at t is seated free = misses (moved mending) 5 taking_by free refl refl (stays_unless free (omega arith))
  takes_at t is seated begun = misses (moved mending) 5 taking_by begun refl refl (stays_unless begun (omega arith))
  takes_at t is seated busy = misses (moved mending) 5 taking_by busy refl refl (stays_unless busy (omega arith))
  takes_at t is seated (full x) = misses (moved mending) 5 taking_by (full x) refl refl (stays_unless (full x) (omega arith))
  takes_at t is seated broken = hits (moved mending) 5 taking_by broken ⟦ Cell broken ⟧ refl refl (takes broken (omega arith)) unbreaks
  takes_at t is seated broken_by_owner = hits (moved mending) 9 taking_by broken_by_owner ⟦ Cell broken_by_owner ⟧ refl refl (takes broken_by_owner (omega arith)) (unbreaks_seated t is seated)

  pub mends_seated : (t : Tie) → γ.tied ≡ Some t → t.fixed ≡ None → BareLaw (moved mending) (λ c. bit_and c (15 - 12)) Taken (emp 𝓤)
  mends_seated t is seated s = qed 𝓛 (‵ (Cell s) ∷ raw (emp 𝓤) ∷ []) ∵ suffices ! _ (upd_i 𝓤 (ex 𝓤 (BareNext (moved mending) taking_by Taken s))) $ keep ! (0 ∷ []) $ by ! (takes_at t is seated s)

  -- nobody else may set the first name of a cell whose writer has the right to
  two_rights : (v : Gv) (Z : Pr) → ⟦ unset R γ ⟧ ∗ ⟦ unset R γ ⟧ ∗ A.auth γ.value_name v ⊢ upd 𝓤 Z
  two_rights v Z = let n : GName = γ.value_name in let c : Gv = broken_mark in
      qed 𝓛 (‵ (unset R γ) ∷ ‵ (unset R γ) ∷ ‵ (fauth n v) ∷ []) ∵ move ! (0 ∷ 2 ∷ []) $
      use2 𝓛 (raw (upd 𝓤 (A.obs n c ∗ A.auth n c))) (𝓛.names.name_set_upd n gnil v c) $ settle 𝓛 Z (‵ (fobs n c) ⊛ ‵ (fauth n c)) $ split ! $ move ! (2 ∷ 1 ∷ []) $
      use2 𝓛 (given (gnil ≡ c) (‵ (fobs n gnil) ⊛ ‵ (fauth n c))) (𝓛.names.name_agree n gnil c) $ learn ! (λ e. absurd (let z : 0 ≡ 1 = ap paired e in omega arith))

  -- what a writer does to its cell, which is busy
  only_busy : (rel : S R → S R → Type 0) (g : ℕ → ℕ) (after : ℕ → Fml) (X : Pr) → (⟦ Cell busy ⟧ ∗ (⟦ unset R γ ⟧ ∗ X) ⊢ upd 𝓤 (ex 𝓤 (BareNext rel g after busy))) → BareLaw rel g after (⟦ unset R γ ⟧ ∗ X)
  only_busy rel g after X law busy = law
  only_busy rel g after X law free = let Z : Pr = ex 𝓤 (BareNext rel g after free) in qed 𝓛 (‵ (Cell free) ∷ ‵ (unset R γ) ∷ raw X ∷ []) ∵ fsplit3 ! $ fsplit ! $ move ! (2 ∷ []) $ fsplit ! $
      -- [its right; that it is over; the names of the value and of a break; the room; the other right; ..]
      keep ! (1 ∷ 5 ∷ 2 ∷ []) $ by ! (two_rights gnil Z)
  only_busy rel g after X law (full y) = let Z : Pr = ex 𝓤 (BareNext rel g after (full y)) in let n : GName = γ.value_name in qed 𝓛 (‵ (Cell (full y)) ∷ ‵ (unset R γ) ∷ raw X ∷ []) ∵ fsplit3 ! $ fsplit ! $ move ! (4 ∷ 0 ∷ []) $
      use2 𝓛 (given (gnil ≡ mark R (full y)) (‵ (fobs n gnil) ⊛ ‵ (fauth n (mark R (full y))))) (𝓛.names.name_agree n gnil (mark R (full y))) $ learn ! (λ e. absurd (let z : 0 ≡ 1 = ap paired e in omega arith))
  only_busy rel g after X law broken = let Z : Pr = ex 𝓤 (BareNext rel g after broken) in qed 𝓛 (‵ (Cell broken) ∷ ‵ (unset R γ) ∷ raw X ∷ []) ∵ fsplit3 ! $ fsplit ! $ move ! (2 ∷ []) $ fsplit ! $ move ! (1 ∷ []) $ fsplit ! $
      keep ! (1 ∷ 6 ∷ 3 ∷ []) $ by ! (two_rights gnil Z)
  only_busy rel g after X law broken_by_owner = let Z : Pr = ex 𝓤 (BareNext rel g after broken_by_owner) in qed 𝓛 (‵ (Cell broken_by_owner) ∷ ‵ (unset R γ) ∷ raw X ∷ []) ∵ fsplit3 ! $ fsplit ! $ move ! (2 ∷ []) $ fsplit ! $ fsplit ! $
      keep ! (1 ∷ 6 ∷ 3 ∷ []) $ by ! (two_rights gnil Z)
  only_busy rel g after X law begun = let Z : Pr = ex 𝓤 (BareNext rel g after begun) in let n : GName = γ.value_name in qed 𝓛 (‵ (Cell begun) ∷ ‵ (unset R γ) ∷ raw X ∷ []) ∵ fsplit3 ! $ fsplit ! $ move ! (4 ∷ 0 ∷ []) $
      use2 𝓛 (given (gnil ≡ mark R begun) (‵ (fobs n gnil) ⊛ ‵ (fauth n (mark R begun)))) (𝓛.names.name_agree n gnil (mark R begun)) $ learn ! (λ e. absurd (let z : 0 ≡ 1 = ap numbered e in omega arith))

  -- a cell whose first name has another mark is not one whose writer has reserved it
  not_begun : (rel : S R → S R → Type 0) (g : ℕ → ℕ) (after : ℕ → Fml) (X : Pr) (s : S R) → (mark R begun ≡ mark R s → ⊥) → ⟦ Cell s ⟧ ∗ (⟦ reserved R γ ⟧ ∗ X) ⊢ upd 𝓤 (ex 𝓤 (BareNext rel g after s))
  not_begun rel g after X s other = let n : GName = γ.value_name in qed 𝓛 (‵ (Cell s) ∷ ‵ (reserved R γ) ∷ raw X ∷ []) ∵ fsplit3 ! $ fsplit ! $ move ! (4 ∷ 0 ∷ []) $
      use2 𝓛 (given (mark R begun ≡ mark R s) (‵ (fobs n (mark R begun)) ⊛ ‵ (fauth n (mark R s)))) (𝓛.names.name_agree n (mark R begun) (mark R s)) $ learn ! (λ e. absurd (other e))

  -- what the first writer of a cell does to it
  only_begun : (rel : S R → S R → Type 0) (g : ℕ → ℕ) (after : ℕ → Fml) (X : Pr) → (⟦ Cell begun ⟧ ∗ (⟦ reserved R γ ⟧ ∗ X) ⊢ upd 𝓤 (ex 𝓤 (BareNext rel g after begun))) → BareLaw rel g after (⟦ reserved R γ ⟧ ∗ X)
  only_begun rel g after X law begun = law
  only_begun rel g after X law free = not_begun rel g after X free (λ e. let z : 1 ≡ 0 = ap numbered e in omega arith)
  only_begun rel g after X law busy = not_begun rel g after X busy (λ e. let z : 1 ≡ 0 = ap numbered e in omega arith)
  only_begun rel g after X law (full y) = not_begun rel g after X (full y) (λ e. let z : 1 ≡ 0 = ap numbered e in omega arith)
  only_begun rel g after X law broken = not_begun rel g after X broken (λ e. let z : 1 ≡ 0 = ap numbered e in omega arith)
  only_begun rel g after X law broken_by_owner = not_begun rel g after X broken_by_owner (λ e. let z : 1 ≡ 0 = ap numbered e in omega arith)

  -- a value that is there is lent permanently
  abbrev pub frozen : R.Denot → Fml
  frozen x = rest (full x)

  value_back : (x : R.Denot)
      → A.auth δ ((content R).code (Some x)) ⊢ ⟦ fwand (fsep (fdead α) (fseps (part_at R full_share x b e ∷ []))) (fupd (Room R γ α δ b e)) ⟧
  unfolding fseps
  value_back x = qed 𝓛 (‵ (fauth δ ((content R).code (Some x))) ∷ []) ∵ assume ! (‵ (fsep (fdead α) (fsep (part_at R full_share x b e) ftrue))) $ suffices ! ⟦ Room R γ α δ b e ⟧ (upd_i 𝓤 ⟦ Room R γ α δ b e ⟧) $ fsplit3 ! $ keep ! (1 ∷ 3 ∷ []) $ fjoin ! $
      fpack ! (Option R.Denot) (inside R γ α δ b e) (Some x) $ done !

  pub pins : (x : R.Denot) (q : Share)
      → (A.res δ ((content R).code (Some x)) ∗ A.bor α (Room R γ α δ b e)) ∗ A.lft α q ⊢ H.⇛ (A.bor α (part_at R full_share x b e) ∗ A.lft α q)
  unfolding fseps
  pins x q = let Q : Fml = part_at R full_share x b e in let V : Fml = Room R γ α δ b e in
      qed 𝓛 ((‵ (fres δ ((content R).code (Some x))) ⊛ ‵ (fbor α V)) ∷ ‵ (flft α q) ∷ []) ∵ updating ! $ split ! $ move ! (1 ∷ 2 ∷ []) $ bor_open ! tt $ move ! (1 ∷ []) $ fpick ! (λ v. fsplit ! $ move ! (3 ∷ 1 ∷ []) $ res_agree ! (content R) {x = Some x} {y = v} (λ z. drop ! $
      rewrite ! 0 (λ (u : Option R.Denot). ‵ (fauth δ ((content R).code u))) (sym z) refl $ rewrite ! 1 (λ (u : Option R.Denot). ‵ (place R u b e)) (sym z) refl $
      use1 𝓛 (‵ (fwand (fsep (fdead α) (fseps (Q ∷ []))) (fupd V))) (value_back x) $ nothing ! $ move ! (2 ∷ 0 ∷ []) $ fjoin ! $ move ! (2 ∷ 0 ∷ 1 ∷ []) $ obor_alter ! tt (Q ∷ []) $
      use1 𝓛 (‵ (fbor α Q) ⊛ ‵ ftrue) (id⊢ 𝓤 _) $ split ! $ now ! $ keep ! (0 ∷ 2 ∷ []) $ done !))

  pub freezes : (l : Lft) → Shares 𝓛 R l → (ts : Toks) → Incl (span ts) l → Incl (span ts) α → (x : R.Denot)
      → A.obs δ ((content R).code (Some x)) ∗ A.bor α (Room R γ α δ b e) ∗ lfts 𝓛 ts ⊢ H.⇛ (⟦ frozen x ⟧ ∗ lfts 𝓛 ts)
  freezes l shares ts inc sp x = let c = (content R).code (Some x) in let Q : Fml = part_at R full_share x b e in let V : Fml = Room R γ α δ b e in
      qed 𝓛 (‵ (fobs δ c) ∷ ‵ (fbor α V) ∷ raw (lfts 𝓛 ts) ∷ []) ∵ updating ! $ use1 𝓛 (‵ (fres δ c)) (𝓛.names.obs-res δ c) $ res_dup ! $ move ! (0 ∷ 2 ∷ []) $ join ! $ move ! (0 ∷ 2 ∷ []) $
      use2 𝓛 (later (‵ (fbor α Q) ⊛ raw (lfts 𝓛 ts))) (by_one 𝓛 α ts sp (A.res δ c ∗ A.bor α V) (A.bor α Q) (pins x)) $ await ! tt $
      use1 𝓛 (later (‵ (shared_of R x b e α) ⊛ raw (lfts 𝓛 ts))) (shares x α ts b e inc sp) $ await ! tt $ split ! $ move ! (2 ∷ 0 ∷ []) $ fjoin ! $ now ! $ done !

  -- what makes a cell filled that a writer has
  publishes_at : (s : S R) (k : ℕ) (x : R.Denot) → 3 ≡ state s + k → moved filling s (full x) → let after : ℕ → Fml = λ _. written R γ.value_name x in
      ⟦ Cell s ⟧ ∗ (A.obs γ.value_name (mark R s) ∗ (⟦ over R γ ⟧ ∗ ⟦ frozen x ⟧)) ⊢ upd 𝓤 (ex 𝓤 (BareNext (moved filling) (λ c. c + k) after s))
  publishes_at s k x three so = let c : Gv = mark R (full x) in let n : GName = γ.value_name in let N : S R → Pr = BareNext (moved filling) (λ c. c + k) (λ _. written R γ.value_name x) s in let Z : Pr = ex 𝓤 N in
      qed 𝓛 (‵ (Cell s) ∷ ‵ (fobs n (mark R s)) ∷ ‵ (over R γ) ∷ ‵ (frozen x) ∷ []) ∵ fsplit ! $ fsplit ! $ keep ! (3 ∷ 0 ∷ 1 ∷ 4 ∷ 5 ∷ []) $
      -- [the right to set; the value's name; the name of a break; the epoch has ended; the room]
      use2 𝓛 (raw (upd 𝓤 (A.obs n c ∗ A.auth n c))) (𝓛.names.name_set_upd n (mark R s) (mark R s) c) $ settle 𝓛 Z (‵ (fobs n c) ⊛ ‵ (fauth n c)) $ split ! $
      suffices ! _ (upd_i 𝓤 Z) $ use1 𝓛 (‵ (fres n c)) (𝓛.names.obs-res n c) $ res_dup ! $ show ! N (full x) $ check ! (three, so) $
      move ! (2 ∷ 3 ∷ []) $ fjoin ! $ move ! (3 ∷ 1 ∷ []) $ fjoin ! $ move ! (1 ∷ 0 ∷ 3 ∷ []) $ fjoin3 ! $ done !

  pub publishes_bare : (x : R.Denot) → BareLaw (moved filling) (λ c. c + 2) (λ _. written R γ.value_name x) (⟦ unset R γ ⟧ ∗ (⟦ over R γ ⟧ ∗ ⟦ frozen x ⟧))
  publishes_bare x = only_busy (moved filling) (λ c. c + 2) (λ _. written R γ.value_name x) (⟦ over R γ ⟧ ∗ ⟦ frozen x ⟧) (publishes_at busy 2 x refl (refl, tt, refl))

  -- the same by the first writer
  pub publishes_first : (x : R.Denot) → BareLaw (moved filling) (λ c. c + 3) (λ _. written R γ.value_name x) (⟦ reserved R γ ⟧ ∗ (⟦ over R γ ⟧ ∗ ⟦ frozen x ⟧))
  publishes_first x = only_begun (moved filling) (λ c. c + 3) (λ _. written R γ.value_name x) (⟦ over R γ ⟧ ∗ ⟦ frozen x ⟧) (publishes_at begun 3 x refl (refl, tt, refl))

  -- what a step leaves that finds a phase, with the state of this phase
  finds_state : (rel : S R → S R → Type 0) (g : ℕ → ℕ) (P : Fml) (s : S R) (X : Pr) → X ⊢ upd 𝓤 (ex 𝓤 (BareNext rel g (λ _. P) s)) → X ⊢ upd 𝓤 (ex 𝓤 (BareNext rel g (found_at P (state s)) s))
  finds_state rel g P s X law = let n : ℕ = state s in let N : S R → Pr = BareNext rel g (found_at P n) s in let Z : Pr = ex 𝓤 N in
      qed 𝓛 (raw X ∷ []) ∵ use1 𝓛 (raw (upd 𝓤 (ex 𝓤 (BareNext rel g (λ _. P) s)))) law $ settle 𝓛 Z (some (λ (x : S R). given ((state x ≡ g n) × rel s x) (‵ (Cell x) ⊛ ‵ P))) $ pick ! (λ x. learn ! (λ so. split ! $ suffices ! _ (upd_i 𝓤 Z) $ show ! N x $ check ! so $
      nothing ! $ fpack ! (n ≡ n) (λ _. ftrue) refl $ move ! (2 ∷ 0 ∷ []) $ fjoin ! $ move ! (1 ∷ 0 ∷ []) $ done !))

  -- the same, by whether the writer is the first
  pub publishes_by : (first : Bool) (x : R.Denot) → BareLaw (moved filling) (λ c. c + fill_added first) (λ _. written R γ.value_name x) (⟦ setting R γ first ⟧ ∗ (⟦ over R γ ⟧ ∗ ⟦ frozen x ⟧))
  publishes_by true x = publishes_first x
  publishes_by false x = publishes_bare x

  -- the same, with the state that the writer finds
  pub publishes_at_its : (first : Bool) (x : R.Denot) → BareLaw (moved filling) (λ c. c + fill_added first) (found_at (written R γ.value_name x) (writer_state first)) (⟦ setting R γ first ⟧ ∗ (⟦ over R γ ⟧ ∗ ⟦ frozen x ⟧))
  publishes_at_its true x = let W : Fml = written R γ.value_name x in let X : Pr = ⟦ over R γ ⟧ ∗ ⟦ frozen x ⟧ in only_begun (moved filling) (λ c. c + 3) (found_at W 0) X (finds_state (moved filling) (λ c. c + 3) W begun (⟦ Cell begun ⟧ ∗ (⟦ reserved R γ ⟧ ∗ X)) (publishes_at begun 3 x refl (refl, tt, refl)))
  publishes_at_its false x = let W : Fml = written R γ.value_name x in let X : Pr = ⟦ over R γ ⟧ ∗ ⟦ frozen x ⟧ in only_busy (moved filling) (λ c. c + 2) (found_at W 1) X (finds_state (moved filling) (λ c. c + 2) W busy (⟦ Cell busy ⟧ ∗ (⟦ unset R γ ⟧ ∗ X)) (publishes_at busy 2 x refl (refl, tt, refl)))

  pub publishes : IsPlain γ → (x : R.Denot) → Law 𝓛 R α b γ δ e (λ c. c + 2) (λ _. written R γ.value_name x) (⟦ unset R γ ⟧ ∗ (⟦ over R γ ⟧ ∗ ⟦ frozen x ⟧))
  publishes plain x = untied (moved filling) (λ c. c + 2) (λ _. written R γ.value_name x) (⟦ unset R γ ⟧ ∗ (⟦ over R γ ⟧ ∗ ⟦ frozen x ⟧)) plain (publishes_bare x)

  -- the second name says from now on that the cell was broken
  sets_broken : (η : GName) (once : Bool) → ⟦ broken_once η once ⟧ ⊢ upd 𝓤 (⟦ broken_once η true ⟧ ∗ ⟦ was_broken η ⟧)
  sets_broken η true = let Z : Pr = ⟦ broken_once η true ⟧ ∗ ⟦ was_broken η ⟧ in qed 𝓛 (‵ (broken_once η true) ∷ []) ∵ suffices ! _ (upd_i 𝓤 Z) $ fsplit ! $ res_dup ! $ move ! (0 ∷ 2 ∷ []) $ fjoin ! $ done !
  sets_broken η false = let Z : Pr = ⟦ broken_once η true ⟧ ∗ ⟦ was_broken η ⟧ in qed 𝓛 (‵ (broken_once η false) ∷ []) ∵ fsplit ! $
      use2 𝓛 (raw (upd 𝓤 (A.obs η broken_mark ∗ A.auth η broken_mark))) (𝓛.names.name_set_upd η gnil gnil broken_mark) $ settle 𝓛 Z (‵ (fobs η broken_mark) ⊛ ‵ (fauth η broken_mark)) $ split ! $
      suffices ! _ (upd_i 𝓤 Z) $ use1 𝓛 (‵ (was_broken η)) (𝓛.names.obs-res η broken_mark) $ res_dup ! $ move ! (0 ∷ 2 ∷ []) $ fjoin ! $ done !

  -- what makes a cell broken that a writer has
  breaks_at : (s : S R) (k : ℕ) → 5 ≡ state s + k → moved breaking s broken → let after : ℕ → Fml = λ _. was_broken γ.broken_name in
      ⟦ Cell s ⟧ ∗ (A.obs γ.value_name (mark R s) ∗ (⟦ over R γ ⟧ ∗ ⟦ rest free ⟧)) ⊢ upd 𝓤 (ex 𝓤 (BareNext (moved breaking) (λ c. c + k) after s))
  breaks_at s k five so = let N : S R → Pr = BareNext (moved breaking) (λ c. c + k) (λ _. was_broken γ.broken_name) s in let Z : Pr = ex 𝓤 N in let η : GName = γ.broken_name in let n : GName = γ.value_name in
      qed 𝓛 (‵ (Cell s) ∷ ‵ (fobs n (mark R s)) ∷ ‵ (over R γ) ∷ ‵ (rest free) ∷ []) ∵ fsplit ! $ fsplit ! $ keep ! (3 ∷ 0 ∷ 1 ∷ 4 ∷ 5 ∷ []) $
      use2 𝓛 (raw (upd 𝓤 (A.obs n gnil ∗ A.auth n gnil))) (𝓛.names.name_set_upd n (mark R s) (mark R s) gnil) $ settle 𝓛 Z (‵ (fobs n gnil) ⊛ ‵ (fauth n gnil)) $ split ! $ move ! (2 ∷ []) $ fpick ! (λ once.
      use1 𝓛 (raw (upd 𝓤 (⟦ broken_once η true ⟧ ∗ ⟦ was_broken η ⟧))) (sets_broken η once) $ settle 𝓛 Z (‵ (broken_once η true) ⊛ ‵ (was_broken η)) $ split ! $ suffices ! _ (upd_i 𝓤 Z) $ show ! N broken $ check ! (five, so) $ fpack ! Bool (broken_once η) true $
      -- [the name of a break; broken; the right to set; the value's name; the epoch has ended; the room]
      move ! (3 ∷ 0 ∷ []) $ fjoin ! $ move ! (1 ∷ []) $ res_dup ! $ move ! (0 ∷ 3 ∷ []) $ fjoin ! $ move ! (3 ∷ 0 ∷ []) $ fjoin ! $ move ! (2 ∷ 0 ∷ 3 ∷ []) $ fjoin3 ! $ done !)

  pub breaks_bare : BareLaw (moved breaking) (λ c. c + 4) (λ _. was_broken γ.broken_name) (⟦ unset R γ ⟧ ∗ (⟦ over R γ ⟧ ∗ ⟦ rest free ⟧))
  breaks_bare = only_busy (moved breaking) (λ c. c + 4) (λ _. was_broken γ.broken_name) (⟦ over R γ ⟧ ∗ ⟦ rest free ⟧) (breaks_at busy 4 refl (refl, tt, refl))

  -- the same by the first writer
  pub breaks_first : BareLaw (moved breaking) (λ c. c + 5) (λ _. was_broken γ.broken_name) (⟦ reserved R γ ⟧ ∗ (⟦ over R γ ⟧ ∗ ⟦ rest free ⟧))
  breaks_first = only_begun (moved breaking) (λ c. c + 5) (λ _. was_broken γ.broken_name) (⟦ over R γ ⟧ ∗ ⟦ rest free ⟧) (breaks_at begun 5 refl (refl, tt, refl))

  -- the same, by whether the writer is the first
  pub breaks_by : (first : Bool) → BareLaw (moved breaking) (λ c. c + break_added first) (λ _. was_broken γ.broken_name) (⟦ setting R γ first ⟧ ∗ (⟦ over R γ ⟧ ∗ ⟦ rest free ⟧))
  breaks_by true = breaks_first
  breaks_by false = breaks_bare

  -- the same, with the state that the writer finds
  pub breaks_at_its : (first : Bool) → BareLaw (moved breaking) (λ c. c + break_added first) (found_at (was_broken γ.broken_name) (writer_state first)) (⟦ setting R γ first ⟧ ∗ (⟦ over R γ ⟧ ∗ ⟦ rest free ⟧))
  breaks_at_its true = let W : Fml = was_broken γ.broken_name in let X : Pr = ⟦ over R γ ⟧ ∗ ⟦ rest free ⟧ in only_begun (moved breaking) (λ c. c + 5) (found_at W 0) X (finds_state (moved breaking) (λ c. c + 5) W begun (⟦ Cell begun ⟧ ∗ (⟦ reserved R γ ⟧ ∗ X)) (breaks_at begun 5 refl (refl, tt, refl)))
  breaks_at_its false = let W : Fml = was_broken γ.broken_name in let X : Pr = ⟦ over R γ ⟧ ∗ ⟦ rest free ⟧ in only_busy (moved breaking) (λ c. c + 4) (found_at W 1) X (finds_state (moved breaking) (λ c. c + 4) W busy (⟦ Cell busy ⟧ ∗ (⟦ unset R γ ⟧ ∗ X)) (breaks_at busy 4 refl (refl, tt, refl)))

  pub breaks : IsPlain γ → Law 𝓛 R α b γ δ e (λ c. c + 4) (λ _. was_broken γ.broken_name) (⟦ unset R γ ⟧ ∗ (⟦ over R γ ⟧ ∗ ⟦ rest free ⟧))
  breaks plain = untied (moved breaking) (λ c. c + 4) (λ _. was_broken γ.broken_name) (⟦ unset R γ ⟧ ∗ (⟦ over R γ ⟧ ∗ ⟦ rest free ⟧)) plain breaks_bare

  -- a look changes nothing
  looks_at : (rel : S R → S R → Type 0) → ((s : S R) → rel s s) → BareLaw rel (λ c. c) Sights (emp 𝓤)
  looks_at rel so s = let N : S R → Pr = BareNext rel (λ c. c) Sights s in
      qed 𝓛 (‵ (Cell s) ∷ raw (emp 𝓤) ∷ []) ∵ suffices ! _ (upd_i 𝓤 (ex 𝓤 N)) $ keep ! (0 ∷ []) $ show ! N s $ check ! (refl, so s) $ by ! (looked s)

  pub looks : Law 𝓛 R α b γ δ e (λ c. c) Sights (emp 𝓤)
  looks = keeps (λ c. c) Sights (emp 𝓤) (looks_at same (λ s. refl))

  pub looks_bare : BareLaw (moved looking) (λ c. c) Sights (emp 𝓤)
  looks_bare = looks_at (moved looking) (λ s. (shows_stage s, refl))

  -- a cell with a value is full
  is_full : (x : R.Denot) (s : S R) → mark R (full x) ≡ mark R s → state s ≡ 3
  is_full x free e = absurd (let z : 1 ≡ 0 = ap paired e in omega arith)
  is_full x begun e = absurd (let z : 1 ≡ 0 = ap paired e in omega arith)
  is_full x busy e = absurd (let z : 1 ≡ 0 = ap paired e in omega arith)
  is_full x (full y) e = refl
  is_full x broken e = absurd (let z : 1 ≡ 0 = ap paired e in omega arith)
  is_full x broken_by_owner e = absurd (let z : 1 ≡ 0 = ap paired e in omega arith)

  full_at : (x : R.Denot) (s : S R) → ⟦ Cell s ⟧ ∗ ⟦ written R γ.value_name x ⟧ ⊢ guard 𝓤 (state s ≡ 3) ⟦ Cell s ⟧
  full_at x s = qed 𝓛 (‵ (Cell s) ∷ ‵ (written R γ.value_name x) ∷ []) ∵ fsplit ! $ fsplit ! $ move ! (3 ∷ 0 ∷ []) $
      use2 𝓛 (given (mark R (full x) ≡ mark R s) (‵ (written R γ.value_name x) ⊛ ‵ (fauth γ.value_name (mark R s)))) (𝓛.names.res_agree γ.value_name (mark R (full x)) (mark R s)) $ learn ! (λ e. check ! (is_full x s e) $ split ! $ drop ! $ move ! (0 ∷ 1 ∷ []) $ fjoin ! $ fjoin ! $ done !)

  -- what is known of a cell tells its state
  state_at : (v : Option R.Denot) (name : ℕ) (epoch : Lft) → HasNames γ v name epoch → (s : S R)
      → ⟦ Cell s ⟧ ∗ ⟦ known_as R v name ⟧ ⊢ guard 𝓤 (MayBeStateOf v (state s)) ⟦ Cell s ⟧
  state_at (Some x) name epoch same s = qed 𝓛 (‵ (Cell s) ∷ ‵ (written R name x) ∷ []) ∵ rewrite ! 1 (λ (k : ℕ). ‵ (written R k x)) same refl $
      use2 𝓛 (given (state s ≡ 3) (‵ (Cell s))) (full_at x s) $ learn ! (λ three. check ! three $ done !)
  state_at None name epoch same s = qed 𝓛 (‵ (Cell s) ∷ ‵ (unfilled name) ∷ []) ∵ check ! tt $ keep ! (0 ∷ []) $ done !

  abbrev pub Shown : Option R.Denot → ℕ → Fml
  Shown v n = fsep (Sights n) (fact (MayBeStateOf v n))

  member_found : (v : Option R.Denot) (name : ℕ) (epoch : Lft) → HasNames γ v name epoch → BareLaw same (λ c. c) (Shown v) ⟦ known_as R v name ⟧
  member_found v name epoch known s = let N : S R → Pr = BareNext same (λ c. c) (Shown v) s in let n : ℕ = state s in
      qed 𝓛 (‵ (Cell s) ∷ ‵ (known_as R v name) ∷ []) ∵ suffices ! _ (upd_i 𝓤 (ex 𝓤 N)) $ show ! N s $ check ! (refl, refl) $
      use2 𝓛 (given (MayBeStateOf v n) (‵ (Cell s))) (state_at v name epoch known s) $ learn ! (λ so. use1 𝓛 (‵ (Cell s) ⊛ ‵ (Sights n)) (looked s) $ split ! $
      nothing ! $ fpack ! (MayBeStateOf v n) (λ _. ftrue) so $ move ! (2 ∷ 0 ∷ []) $ fjoin ! $ move ! (1 ∷ 0 ∷ []) $ done !)

  pub finds_member : (v : Option R.Denot) (name : ℕ) (epoch : Lft) → HasNames γ v name epoch → Law 𝓛 R α b γ δ e (λ c. c) (Shown v) ⟦ known_as R v name ⟧
  finds_member v name epoch known = keeps (λ c. c) (Shown v) ⟦ known_as R v name ⟧ (member_found v name epoch known)

  -- a cell that an owner did not break shows that its epoch has ended; so one whose epoch lasts was broken by an owner
  ends_at : (q : Share) (s : S R) → ⟦ told R γ s ⟧ ⊢ ⟦ over R γ ⟧ → ⟦ Cell s ⟧ ∗ A.lft γ.epoch q ⊢ guard 𝓤 (state s ≡ 9) (⟦ Cell s ⟧ ∗ A.lft γ.epoch q)
  ends_at q s has = qed 𝓛 (‵ (Cell s) ∷ ‵ (flft γ.epoch q) ∷ []) ∵ fsplit3 ! $ move ! (1 ∷ []) $ use1 𝓛 (‵ (over R γ)) has $ keep ! (3 ∷ 0 ∷ []) $
      use2 𝓛 (raw (never 𝓤)) (𝓛.lfts.lft-dead γ.epoch q) $ by ! (never_e 𝓤 _)

  first_of : (P Q : Fml) → ⟦ fsep P Q ⟧ ⊢ ⟦ P ⟧
  first_of P Q = qed 𝓛 (‵ (fsep P Q) ∷ []) ∵ fsplit ! $ keep ! (0 ∷ []) $ done !

  lasts_at : (q : Share) (s : S R) → ⟦ Cell s ⟧ ∗ A.lft γ.epoch q ⊢ guard 𝓤 (state s ≡ 9) (⟦ Cell s ⟧ ∗ A.lft γ.epoch q)
  lasts_at q free = ends_at q free (first_of (over R γ) (unset R γ))
  lasts_at q begun = ends_at q begun (first_of (over R γ) (fact (IsTied γ.tied)))
  lasts_at q busy = ends_at q busy (id⊢ 𝓤 _)
  lasts_at q (full x) = ends_at q (full x) (first_of (over R γ) (written R γ.value_name x))
  lasts_at q broken = ends_at q broken (first_of (over R γ) (broken_unset R γ))
  lasts_at q broken_by_owner = qed 𝓛 (‵ (Cell broken_by_owner) ∷ ‵ (flft γ.epoch q) ∷ []) ∵ check ! refl $ done !

  abbrev pub Lasting : Option R.Denot → Lft → Share → ℕ → Fml
  Lasting v η r n = fsep (flft η r) (fact (IsStateOf v n))

  state_in : (v : Option R.Denot) (name : ℕ) (epoch η : Lft) → HasNames γ v name epoch → IsEpochOf v epoch η → (r : Share) (s : S R)
      → ⟦ Cell s ⟧ ∗ ⟦ known_as R v name ⟧ ∗ A.lft η r ⊢ guard 𝓤 (IsStateOf v (state s)) (⟦ Cell s ⟧ ∗ A.lft η r)
  state_in (Some x) name epoch η same of r s = qed 𝓛 (‵ (Cell s) ∷ ‵ (written R name x) ∷ ‵ (flft η r) ∷ []) ∵ move ! (0 ∷ 1 ∷ []) $
      use2 𝓛 (given (state s ≡ 3) (‵ (Cell s))) (state_at (Some x) name epoch same s) $ learn ! (λ three. check ! three $ done !)
  state_in None name epoch η same of r s = let is : η ≡ γ.epoch = sym (of refl) ∙ same in qed 𝓛 (‵ (Cell s) ∷ ‵ (unfilled name) ∷ ‵ (flft η r) ∷ []) ∵ keep ! (0 ∷ 2 ∷ []) $
      rewrite ! 1 (λ (k : Lft). ‵ (flft k r)) is refl $ use2 𝓛 (given (state s ≡ 9) (‵ (Cell s) ⊛ ‵ (flft γ.epoch r))) (lasts_at r s) $ learn ! (λ nine. check ! nine $ split ! $ rewrite ! 1 (λ (k : Lft). ‵ (flft k r)) (sym is) refl $ done !)

  lasting_found : (v : Option R.Denot) (name : ℕ) (epoch η : Lft) (r : Share) → HasNames γ v name epoch → IsEpochOf v epoch η
      → BareLaw same (λ c. c) (Lasting v η r) (⟦ known_as R v name ⟧ ∗ A.lft η r)
  lasting_found v name epoch η r known of s = let N : S R → Pr = BareNext same (λ c. c) (Lasting v η r) s in let n : ℕ = state s in
      qed 𝓛 (‵ (Cell s) ∷ ‵ (known_as R v name) ∷ ‵ (flft η r) ∷ []) ∵ suffices ! _ (upd_i 𝓤 (ex 𝓤 N)) $ show ! N s $ check ! (refl, refl) $
      use3 𝓛 (given (IsStateOf v n) (‵ (Cell s) ⊛ ‵ (flft η r))) (state_in v name epoch η known of r s) $ learn ! (λ so. split ! $
      nothing ! $ fpack ! (IsStateOf v n) (λ _. ftrue) so $ move ! (2 ∷ 0 ∷ []) $ fjoin ! $ move ! (1 ∷ 0 ∷ []) $ done !)

  pub finds_lasting : (v : Option R.Denot) (name : ℕ) (epoch η : Lft) (r : Share) → HasNames γ v name epoch → IsEpochOf v epoch η
      → Law 𝓛 R α b γ δ e (λ c. c) (Lasting v η r) (⟦ known_as R v name ⟧ ∗ A.lft η r)
  finds_lasting v name epoch η r known of = keeps (λ c. c) (Lasting v η r) (⟦ known_as R v name ⟧ ∗ A.lft η r) (lasting_found v name epoch η r known of)

  -- the step from broken by an owner to busy, if the epoch has ended
  abbrev pub Reopened : Option R.Denot → ℕ → Fml
  Reopened v n = fsep (Won 9 n) (fact (MayBeStateOf v n))

  abbrev reopening : ℕ → ℕ
  reopening c = bit_and c (15 - 8)

  reopens_at : (s : S R) → ⟦ Cell s ⟧ ∗ ⟦ over R γ ⟧ ⊢ ex 𝓤 (Leaves any 9 reopening s)
  reopens_at broken_by_owner = hits any 9 reopening broken_by_owner (⟦ Cell broken_by_owner ⟧ ∗ ⟦ over R γ ⟧) refl refl tt unbreaks_owned
  reopens_at free = qed 𝓛 (‵ (Cell free) ∷ ‵ (over R γ) ∷ []) ∵ keep ! (0 ∷ []) $ by ! (misses any 9 reopening free refl refl tt)
  reopens_at begun = qed 𝓛 (‵ (Cell begun) ∷ ‵ (over R γ) ∷ []) ∵ keep ! (0 ∷ []) $ by ! (misses any 9 reopening begun refl refl tt)
  reopens_at busy = qed 𝓛 (‵ (Cell busy) ∷ ‵ (over R γ) ∷ []) ∵ keep ! (0 ∷ []) $ by ! (misses any 9 reopening busy refl refl tt)
  reopens_at (full x) = qed 𝓛 (‵ (Cell (full x)) ∷ ‵ (over R γ) ∷ []) ∵ keep ! (0 ∷ []) $ by ! (misses any 9 reopening (full x) refl refl tt)
  reopens_at broken = qed 𝓛 (‵ (Cell broken) ∷ ‵ (over R γ) ∷ []) ∵ keep ! (0 ∷ []) $ by ! (misses any 9 reopening broken refl refl tt)

  same_below : (c : ℕ) → c ≡ 3 → c ≡ reopening c
  same_below c three = three ∙ sym (ap reopening three)

  reopens_with : (v : Option R.Denot) (name : ℕ) (epoch η : Lft) → HasNames γ v name epoch → IsEpochOf v epoch η → (s : S R)
      → ⟦ Cell s ⟧ ∗ ⟦ known_as R v name ⟧ ∗ A.dead η ⊢ guard 𝓤 (MayBeStateOf v (state s)) (ex 𝓤 (Leaves any 9 reopening s))
  reopens_with (Some x) name epoch η same of s = qed 𝓛 (‵ (Cell s) ∷ ‵ (written R name x) ∷ ‵ (fdead η) ∷ []) ∵ keep ! (0 ∷ 1 ∷ []) $
      rewrite ! 1 (λ (k : ℕ). ‵ (written R k x)) same refl $ use2 𝓛 (given (state s ≡ 3) (‵ (Cell s))) (full_at x s) $ learn ! (λ three.
      check ! three $ by ! (misses any 9 reopening s (ap (λ (k : ℕ). eqb k 9) three) (same_below (state s) three) tt))
  reopens_with None name epoch η same of s = qed 𝓛 (‵ (Cell s) ∷ ‵ (unfilled name) ∷ ‵ (fdead η) ∷ []) ∵ check ! tt $ keep ! (0 ∷ 2 ∷ []) $
      rewrite ! 1 (λ (k : Lft). ‵ (fdead k)) (sym (of refl) ∙ same) refl $ by ! (reopens_at s)

  reopened : (v : Option R.Denot) (name : ℕ) (epoch η : Lft) → HasNames γ v name epoch → IsEpochOf v epoch η
      → BareLaw any (λ c. bit_and c (15 - 8)) (Reopened v) (⟦ known_as R v name ⟧ ∗ A.dead η)
  reopened v name epoch η same of s = let N : S R → Pr = BareNext any reopening (Reopened v) s in let n : ℕ = state s in
      qed 𝓛 (‵ (Cell s) ∷ ‵ (known_as R v name) ∷ ‵ (fdead η) ∷ []) ∵ suffices ! _ (upd_i 𝓤 (ex 𝓤 N)) $
      use3 𝓛 (given (MayBeStateOf v n) (some (λ (z : S R). given ((state z ≡ reopening n) × Unit {0}) (‵ (Cell z) ⊛ ‵ (Won 9 n))))) (reopens_with v name epoch η same of s) $ learn ! (λ so. pick ! (λ z. learn ! (λ is. split ! $ show ! N z $ check ! is $
      nothing ! $ fpack ! (MayBeStateOf v n) (λ _. ftrue) so $ move ! (2 ∷ 0 ∷ []) $ fjoin ! $ move ! (1 ∷ 0 ∷ []) $ done !)))

  pub reopens : IsPlain γ → (v : Option R.Denot) (name : ℕ) (epoch η : Lft) → HasNames γ v name epoch → IsEpochOf v epoch η
      → Law 𝓛 R α b γ δ e (λ c. bit_and c (15 - 8)) (Reopened v) (⟦ known_as R v name ⟧ ∗ A.dead η)
  reopens plain v name epoch η known of = untied any reopening (Reopened v) (⟦ known_as R v name ⟧ ∗ A.dead η) plain (reopened v name epoch η known of)

  -- a cell whose stage is idle is free, and its first writer takes it
  begins_from : γ.tied ≢ None → (s : S R) → stage s ≡ Idle → ⟦ Cell s ⟧ ⊢ upd 𝓤 (⟦ Cell begun ⟧ ∗ ⟦ FirstRight R γ α δ b e ⟧)
  begins_from tied free idle = let n : GName = γ.value_name in let c : Gv = mark R begun in let Z : Pr = ⟦ Cell begun ⟧ ∗ ⟦ FirstRight R γ α δ b e ⟧ in
      qed 𝓛 (‵ (Cell free) ∷ []) ∵ fsplit3 ! $ fsplit ! $ move ! (2 ∷ []) $ fsplit ! $
      -- [the epoch has ended; the right to set; the value's name; the name of a break; the room]
      move ! (1 ∷ 2 ∷ []) $ use2 𝓛 (raw (upd 𝓤 (A.obs n c ∗ A.auth n c))) (𝓛.names.name_set_upd n gnil gnil c) $ settle 𝓛 Z (‵ (fobs n c) ⊛ ‵ (fauth n c)) $ split ! $ suffices ! _ (upd_i 𝓤 Z) $
      move ! (2 ∷ []) $ use1 𝓛 (‵ (over R γ) ⊛ ‵ (over R γ)) (𝓛.lfts.dead_dup γ.epoch) $ split ! $
      -- [the epoch has ended, twice; the right to set; the value's name; the name of a break; the room]
      move ! (3 ∷ 4 ∷ []) $ fjoin ! $ move ! (1 ∷ 3 ∷ []) $ fjoin ! $ move ! (0 ∷ 3 ∷ []) $ fjoin ! $
      nothing ! $ fpack ! (IsTied γ.tied) (λ _. ftrue) (is_tied γ.tied tied) $ move ! (3 ∷ 0 ∷ []) $ fjoin ! $ nothing ! $ nothing ! $ fjoin ! $ move ! (3 ∷ 1 ∷ 0 ∷ []) $ fjoin3 ! $ done !
  begins_from tied begun idle = absurd (let z : 1 ≡ 0 = ap stage_number idle in omega arith)
  begins_from tied busy idle = absurd (let z : 2 ≡ 0 = ap stage_number idle in omega arith)
  begins_from tied (full x) idle = absurd (let z : 3 ≡ 0 = ap stage_number idle in omega arith)
  begins_from tied broken idle = absurd (let z : 4 ≡ 0 = ap stage_number idle in omega arith)
  begins_from tied broken_by_owner idle = absurd (let z : 4 ≡ 0 = ap stage_number idle in omega arith)

  empty_at_idle : (s : S R) → stage s ≡ Idle → 0 ≡ state s
  empty_at_idle free idle = refl
  empty_at_idle begun idle = refl
  empty_at_idle busy idle = absurd (let z : 2 ≡ 0 = ap stage_number idle in omega arith)
  empty_at_idle (full x) idle = absurd (let z : 3 ≡ 0 = ap stage_number idle in omega arith)
  empty_at_idle broken idle = absurd (let z : 4 ≡ 0 = ap stage_number idle in omega arith)
  empty_at_idle broken_by_owner idle = absurd (let z : 4 ≡ 0 = ap stage_number idle in omega arith)

  -- the step that begins a tied cell: the update comes first, and shows that the cell is idle
  module _ (age : Lft) (J : Fml) (gain : Stage → Stage → Fml) (t : Tie) where
    abbrev First : Fml
    First = FirstRight R γ α δ b e

    pub begins_by : γ.tied ≡ Some t → Law 𝓛 R α b γ δ e (λ n. n) (λ n. fsep J (fsep First (ran age J gain t beginning n))) (⟦ J ⟧ ∗ (⟦ update age J gain t beginning ⟧ ∗ emp 𝓤))
    begins_by is s = let after : ℕ → Fml = λ n. fsep J (fsep First (ran age J gain t beginning n)) in let Z : Pr = ex 𝓤 (Next 𝓛 R α b γ δ e (λ n. n) after s) in let n : ℕ = state s in let Ran : Fml = ran age J gain t beginning n in
        qed 𝓛 (‵ (Seated s) ∷ ‵ J ∷ ‵ (update age J gain t beginning) ∷ raw (emp 𝓤) ∷ []) ∵ use1 𝓛 (‵ (Cell s) ⊛ ‵ (seat R γ s)) (parts s) $ split ! $ keep ! (1 ∷ 2 ∷ 3 ∷ 0 ∷ []) $
        use3 𝓛 (raw (upd 𝓤 (guard 𝓤 (stage s ≡ Idle) (⟦ seat_at γ.tied Begun ⟧ ∗ ⟦ J ⟧ ∗ ⟦ Ran ⟧)))) (runs age J gain t beginning n (stage s) Begun (shows_stage s, refl) is) $
        settle 𝓛 Z (given (stage s ≡ Idle) (‵ (seat_at γ.tied Begun) ⊛ ‵ J ⊛ ‵ Ran)) $ learn ! (λ idle. split3 ! $ move ! (3 ∷ []) $
        use1 𝓛 (raw (upd 𝓤 (⟦ Cell begun ⟧ ∗ ⟦ First ⟧))) (begins_from (λ none. some_is_tied t (sym is ∙ none)) s idle) $ settle 𝓛 Z (‵ (Cell begun) ⊛ ‵ First) $ split ! $ suffices ! _ (upd_i 𝓤 Z) $
        -- [the cell; the right; the seat; the table; what is told]
        move ! (0 ∷ 2 ∷ []) $ use2 𝓛 (‵ (Seated begun)) (whole begun) $ move ! (1 ∷ 3 ∷ []) $ fjoin ! $ move ! (2 ∷ 0 ∷ []) $ fjoin ! $ move ! (1 ∷ 0 ∷ []) $ show ! (Next 𝓛 R α b γ δ e (λ n. n) after s) begun $ check ! (empty_at_idle s idle) $ done !)

  abbrev pub there : R.Denot → Fml
  there x = shared_of R x b e α

  module _ (K : RowLaws R) where
    shows : (x : R.Denot) → ⟦ Cell (full x) ⟧ ⊢ ⟦ Cell (full x) ⟧ ∗ ⟦ there x ⟧
    shows x = let L : Lft → Fml = shared_of R x b e in qed 𝓛 (‵ (Cell (full x)) ∷ []) ∵ fsplit3 ! $ move ! (2 ∷ []) $ fsplit ! $ move ! (1 ∷ []) $
        use1 𝓛 (‵ (L α) ⊛ ‵ (L α)) (contraction 𝓛 L (K x b e) α) $ split ! $ move ! (2 ∷ 0 ∷ []) $ fjoin ! $ move ! (2 ∷ 3 ∷ 0 ∷ []) $ fjoin3 ! $ done !

    there_at : (x : R.Denot) (s : S R) → mark R (full x) ≡ mark R s → ⟦ Cell s ⟧ ⊢ ⟦ Cell s ⟧ ∗ ⟦ there x ⟧
    there_at x free e = absurd (let z : 1 ≡ 0 = ap paired e in omega arith)
    there_at x begun e = absurd (let z : 1 ≡ 0 = ap paired e in omega arith)
    there_at x busy e = absurd (let z : 1 ≡ 0 = ap paired e in omega arith)
    there_at x broken e = absurd (let z : 1 ≡ 0 = ap paired e in omega arith)
    there_at x broken_by_owner e = absurd (let z : 1 ≡ 0 = ap paired e in omega arith)
    there_at x (full y) e = subst (λ (u : R.Denot). ⟦ Cell (full y) ⟧ ⊢ ⟦ Cell (full y) ⟧ ∗ ⟦ there u ⟧) (sym (R.coded.inj x y (ap head e))) (shows y)

    written_found : (x : R.Denot) → BareLaw same (λ c. c) (λ _. there x) ⟦ written R γ.value_name x ⟧
    written_found x s = let N : S R → Pr = BareNext same (λ c. c) (λ _. there x) s in
        qed 𝓛 (‵ (Cell s) ∷ ‵ (written R γ.value_name x) ∷ []) ∵ suffices ! _ (upd_i 𝓤 (ex 𝓤 N)) $ fsplit ! $ fsplit ! $ move ! (3 ∷ 0 ∷ []) $
        use2 𝓛 (given (mark R (full x) ≡ mark R s) (‵ (written R γ.value_name x) ⊛ ‵ (fauth γ.value_name (mark R s)))) (𝓛.names.res_agree γ.value_name (mark R (full x)) (mark R s)) $ learn ! (λ e. split ! $ drop ! $ move ! (0 ∷ 1 ∷ []) $ fjoin ! $ fjoin ! $ show ! N s $ check ! (refl, refl) $ by ! (there_at x s e))

    pub finds_written : (x : R.Denot) → Law 𝓛 R α b γ δ e (λ c. c) (λ _. there x) ⟦ written R γ.value_name x ⟧
    finds_written x = keeps (λ c. c) (λ _. there x) ⟦ written R γ.value_name x ⟧ (written_found x)

pub one_written : {M : Type 1} {𝓤 : Ura M} (𝓛 : Logic 𝓤) (R : RattleType) (γ : GName) (x y : R.Denot)
    → ent 𝓤 (sep 𝓤 (sem 𝓛 (written R γ x)) (sem 𝓛 (written R γ y))) (monad.fact 𝓤 (x ≡ y))
one_written 𝓛 R γ x y = one_value 𝓛 record { code = λ (z : R.Denot). mark R (full z); inj = λ u v e. R.coded.inj u v (ap head e) } γ x y
