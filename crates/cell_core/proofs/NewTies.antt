-- Cells that nobody shares, and that have no seats, get seats at their stages. Assumes `Logic`.
use Rattle.std.proofs.Common.{Bool, true, ◌≡◌, ℕ, zero, suc, ◌+◌, ◌*◌, ◌<◌, List, [], ◌∷◌, ◌++◌, length, take, drop, sym, refl, ap, ◌∙◌, subst, arith}
use Rattle.std.specs.Prelude.{Option, Some, None, slice_get}
use seplogic.Ra.Ura.{Ura}
use mir.Syntax.{Ty, w64, ty_int, ty_array}
use mir.Raw.{raw as bare}
use mir.Val.{Val, vstruct, of_list}
use base.Logic.{SProp, ent, sep}
use base.Fml.{Lft, Fml, ftrue, fsep, fdead, froom}
use types.Logic.{Logic, sem}
use types.Kit.{‵, ◌⊛◌, given, ◌$◌, ◌∵◌, !, qed, move, keep, drop as toss, use1, use2, use3, split, fsplit, fjoin, fpick, fpack, learn, rewrite, done}
use denote.RattleType.{RattleType}
use denote.Laws.{Is}
use denote.Memory.{lone}
use denote.RawPtr.{Ptr, block_of, count_of}
use denote.Steps.{nothing}
use Rattle.cell_core.specs.Fields.{pack}
use Rattle.cell_core.specs.Slot.{Names, Phase, Rest, AreTied, cell_in, free, begun, busy, full, broken, broken_by_owner, state, stage, ended_or_seatless, told, word, step}
use Rattle.cell_core.specs.Laid.{Extent, Lies, words_ty, rooms_ty, lying, rests, still, along, laid}
use Rattle.cell_core.specs.Member.{MemberView, HasNames, KnowsCells, AreBrokenMembers}
use Rattle.cell_core.specs.Fixed.{stage_in, untied_cell, tied_cell, tied_cells, AreTies, AreAtStages, AreBrokenFor}
use Rattle.tie_core.specs.Tie.{Tie, Stage, Idle, Broken, IsTied, seat_at, seats_at, row_of, tie_further, idle_ties}
use Rattle.tie_core.proofs.SeatsMade.{StagedWords}
use Rattle.atomic_table.proofs.Fields.{token_val}
use Rattle.cell_core.proofs.Stages.{AgreesAt, seat_told}
use Rattle.cell_core.proofs.Fields.{pack_alike}

pub staged_told : (vs : List Val) → Is StagedWords (tt, tt) vs → vs ≡ token_val ∷ []
staged_told vs is = is.1.0 ∙ ap (λ (ws : List Val). vstruct (of_list (ws ++ [])) ∷ []) is.1.1.0.1.0

-- each cell is fixed at its stage, and gets a tie; one that is broken by its stage was broken for the epoch
abbrev pub Fits : List (Option Tie) → List Stage → List Names → Lft → Type 0
Fits [] [] [] ε = Unit {0}
Fits [] [] (γ ∷ γs) ε = ⊥
Fits [] (s ∷ ss) γs ε = ⊥
Fits (τ ∷ τs) [] γs ε = ⊥
Fits (τ ∷ τs) (s ∷ ss) [] ε = ⊥
Fits (τ ∷ τs) (s ∷ ss) (γ ∷ γs) ε = IsTied τ × (stage_in γ ≡ Some s) × (s ≡ Broken → γ.epoch ≡ ε) × Fits τs ss γs ε

pub fits_of : (τs : List (Option Tie)) (ss : List Stage) (γs : List Names) (ε : Lft) → length τs ≡ length γs → length ss ≡ length γs → AreTies τs → AreAtStages ss γs → AreBrokenFor ss γs ε → Fits τs ss γs ε
fits_of [] [] [] ε many long ties at ends = tt
fits_of [] [] (γ ∷ γs) ε many long ties at ends = absurd (omega (arith, many))
fits_of [] (s ∷ ss) [] ε many long ties at ends = absurd (omega (arith, long))
fits_of [] (s ∷ ss) (γ ∷ γs) ε many long ties at ends = absurd (omega (arith, many))
fits_of (τ ∷ τs) [] [] ε many long ties at ends = absurd (omega (arith, many))
fits_of (τ ∷ τs) [] (γ ∷ γs) ε many long ties at ends = absurd (omega (arith, long))
fits_of (τ ∷ τs) (s ∷ ss) [] ε many long ties at ends = absurd (omega (arith, many))
fits_of (τ ∷ τs) (s ∷ ss) (γ ∷ γs) ε many long ties at ends = (
  ties.0,
  at 0 s refl,
  (λ is. ends 0 (ap Some is)),
  fits_of τs ss γs ε (omega (arith, many)) (omega (arith, long)) ties.1 (λ i a is. at (suc i) a is) (λ i is. ends (suc i) is),
)

-- of the first cells, and of the others
fits_take : (n : ℕ) (τs : List (Option Tie)) (ss : List Stage) (γs : List Names) (ε : Lft) → Fits τs ss γs ε → Fits (take n τs) (take n ss) (take n γs) ε
fits_take zero τs ss γs ε fits = tt
fits_take (suc n) [] [] [] ε fits = tt
fits_take (suc n) [] [] (γ ∷ γs) ε fits = absurd fits
fits_take (suc n) [] (s ∷ ss) γs ε fits = absurd fits
fits_take (suc n) (τ ∷ τs) [] γs ε fits = absurd fits
fits_take (suc n) (τ ∷ τs) (s ∷ ss) [] ε fits = absurd fits
fits_take (suc n) (τ ∷ τs) (s ∷ ss) (γ ∷ γs) ε fits = (fits.0, fits.1, fits.2, fits_take n τs ss γs ε fits.3)

fits_drop : (n : ℕ) (τs : List (Option Tie)) (ss : List Stage) (γs : List Names) (ε : Lft) → Fits τs ss γs ε → Fits (drop n τs) (drop n ss) (drop n γs) ε
fits_drop zero τs ss γs ε fits = fits
fits_drop (suc n) [] [] [] ε fits = tt
fits_drop (suc n) [] [] (γ ∷ γs) ε fits = absurd fits
fits_drop (suc n) [] (s ∷ ss) γs ε fits = absurd fits
fits_drop (suc n) (τ ∷ τs) [] γs ε fits = absurd fits
fits_drop (suc n) (τ ∷ τs) (s ∷ ss) [] ε fits = absurd fits
fits_drop (suc n) (τ ∷ τs) (s ∷ ss) (γ ∷ γs) ε fits = fits_drop n τs ss γs ε fits.3

-- cells with ties in two parts
take_tied : (n : ℕ) (τs : List (Option Tie)) (γs : List Names) → take n (tied_cells τs γs) ≡ tied_cells (take n τs) (take n γs)
take_tied zero τs γs = refl
take_tied (suc n) [] γs = refl
take_tied (suc n) (τ ∷ τs) [] = refl
take_tied (suc n) (τ ∷ τs) (γ ∷ γs) = ap (λ (l : List Names). tied_cell γ τ ∷ l) (take_tied n τs γs)

tied_none : (τs : List (Option Tie)) → [] ≡ tied_cells τs []
tied_none [] = refl
tied_none (τ ∷ τs) = refl

drop_tied : (n : ℕ) (τs : List (Option Tie)) (γs : List Names) → drop n (tied_cells τs γs) ≡ tied_cells (drop n τs) (drop n γs)
drop_tied zero τs γs = refl
drop_tied (suc n) [] γs = refl
drop_tied (suc n) (τ ∷ τs) [] = tied_none (drop n τs)
drop_tied (suc n) (τ ∷ τs) (γ ∷ γs) = drop_tied n τs γs

-- each of them has its tie, and is the same cell but for that
pub tied_length : (τs : List (Option Tie)) (γs : List Names) → length τs ≡ length γs → length (tied_cells τs γs) ≡ length γs
tied_length [] [] many = refl
tied_length [] (γ ∷ γs) many = absurd (omega (arith, many))
tied_length (τ ∷ τs) [] many = absurd (omega (arith, many))
tied_length (τ ∷ τs) (γ ∷ γs) many = ap suc (tied_length τs γs (omega (arith, many)))

pub tied_are : (τs : List (Option Tie)) (γs : List Names) → length τs ≡ length γs → AreTied τs (tied_cells τs γs)
tied_are [] γs many = tt
tied_are (τ ∷ τs) [] many = absurd (omega (arith, many))
tied_are (τ ∷ τs) (γ ∷ γs) many = (refl, tied_are τs γs (omega (arith, many)))

pub tied_names : (τs : List (Option Tie)) (γs : List Names) → length τs ≡ length γs → (i : ℕ) → untied_cell (cell_in (tied_cells τs γs) i) ≡ untied_cell (cell_in γs i)
tied_names [] [] many i = refl
tied_names [] (γ ∷ γs) many i = absurd (omega (arith, many))
tied_names (τ ∷ τs) [] many i = absurd (omega (arith, many))
tied_names (τ ∷ τs) (γ ∷ γs) many zero = refl
tied_names (τ ∷ τs) (γ ∷ γs) many (suc i) = tied_names τs γs (omega (arith, many)) i

known_alike : {X : Type 0} (γ γ' : Names) → untied_cell γ' ≡ untied_cell γ → (v : Option X) (name : ℕ) (epoch : Lft) → HasNames γ v name epoch → HasNames γ' v name epoch
known_alike γ γ' same (Some x) name epoch is = is ∙ sym (ap (λ (u : Names). u.value_name) same)
known_alike γ γ' same None name epoch is = is ∙ sym (ap (λ (u : Names). u.epoch) same)

-- what a row knows of the cells stays known
pub tied_known : {X : Type 0} (τs : List (Option Tie)) (γs : List Names) (ms : List (MemberView X)) (j : ℕ) → length τs ≡ length γs → KnowsCells ms j γs → KnowsCells ms j (tied_cells τs γs)
tied_known τs γs ms j many known i m near is = let long = tied_length τs γs many in
    known_alike (cell_in γs i) (cell_in (tied_cells τs γs) i) (tied_names τs γs many i) m.value m.name m.epoch (known i m (omega (arith, long, near)) is)

epoch_of : {X : Type 0} (γ : Names) (v : Option X) (name : ℕ) (epoch : Lft) → v ≡ None → HasNames γ v name epoch → epoch ≡ γ.epoch
epoch_of γ None name epoch none is = is
epoch_of γ (Some x) name epoch none is = absurd (let z = none in cc)

stage_within : (ss : List Stage) (i : ℕ) (s : Stage) → slice_get ss i ≡ Some s → i < length ss
stage_within [] i s is = absurd (let z : None ≡ Some s = is in cc)
stage_within (a ∷ ss) zero s is = omega arith
stage_within (a ∷ ss) (suc i) s is = let less = stage_within ss i s is in omega (arith, less)

-- what a row knows of broken cells tells their epoch
pub members_broken : {X : Type 0} (ss : List Stage) (γs : List Names) (ms : List (MemberView X)) (j : ℕ) (ε : Lft) → length ss ≡ length γs → KnowsCells ms j γs → AreBrokenMembers ss ms j ε → AreBrokenFor ss γs ε
members_broken ss γs ms j ε long known members i is = let of = members i is in let less = stage_within ss i Broken is in
    sym (epoch_of (cell_in γs i) of.0.value of.0.name of.0.epoch of.2 (known i of.0 (omega (arith, long, less)) of.1)) ∙ of.3

-- seats with numbers in a row are ties
pub row_are_ties : (t : Tie) (n : ℕ) → AreTies (row_of t n)
row_are_ties t zero = tt
row_are_ties t (suc n) = (tt, row_are_ties (tie_further t 1) n)

-- cells of an owner's, which nobody has begun, are fixed at that stage
pub idle_length : (n : ℕ) → length (idle_ties n) ≡ n
idle_length zero = refl
idle_length (suc n) = ap suc (idle_length n)

pub idle_at : (n : ℕ) (γs : List Names) → AreTied (idle_ties n) γs → (i : ℕ) → i < n → stage_in (cell_in γs i) ≡ Some Idle
idle_at zero γs at i less = absurd (omega (arith, less))
idle_at (suc n) [] at i less = absurd at
idle_at (suc n) (γ ∷ γs) at zero less = ap (λ (τ : Option Tie). stage_in (tied_cell γ τ)) at.0
idle_at (suc n) (γ ∷ γs) at (suc i) less = idle_at n γs at.1 i (omega (arith, less))

module _ {M : Type 1} {𝓤 : Ura M} (𝓛 : Logic 𝓤) (R : RattleType) where
  open 𝓛 use {A}

  abbrev Pr : Type 2
  Pr = SProp 𝓤

  abbrev ◌⊢◌ : Pr → Pr → Type 1
  P ⊢ Q = ent 𝓤 P Q

  abbrev ◌∗◌ : Pr → Pr → Pr
  P ∗ Q = sep 𝓤 P Q

  abbrev ⟦◌⟧ : Fml → Pr
  ⟦ P ⟧ = sem 𝓛 P

  infix 26 ◌⊢◌
  infixr 35 ◌∗◌
  -- what goes with a phase goes with it under another tie
  told_by : (γ : Names) (τ : Option Tie) (ε : Lft) (p : Phase R.Denot) → IsTied τ → (stage p ≡ Broken → γ.epoch ≡ ε) → ⟦ told R γ p ⟧ ∗ A.dead ε ⊢ ⟦ told R (tied_cell γ τ) p ⟧
  told_by γ τ ε free tied ends = qed 𝓛 (‵ (told R γ free) ∷ ‵ (fdead ε) ∷ []) ∵ keep ! (0 ∷ []) $ done !
  told_by γ τ ε begun tied ends = qed 𝓛 (‵ (told R γ begun) ∷ ‵ (fdead ε) ∷ []) ∵ fsplit ! $ keep ! (0 ∷ []) $ nothing ! $ fpack ! (IsTied τ) (λ _. ftrue) tied $ move ! (1 ∷ 0 ∷ []) $ fjoin ! $ done !
  told_by γ τ ε busy tied ends = qed 𝓛 (‵ (told R γ busy) ∷ ‵ (fdead ε) ∷ []) ∵ keep ! (0 ∷ []) $ done !
  told_by γ τ ε (full x) tied ends = qed 𝓛 (‵ (told R γ (full x)) ∷ ‵ (fdead ε) ∷ []) ∵ keep ! (0 ∷ []) $ done !
  told_by γ τ ε broken tied ends = qed 𝓛 (‵ (told R γ broken) ∷ ‵ (fdead ε) ∷ []) ∵ keep ! (0 ∷ []) $ done !
  told_by γ τ ε broken_by_owner tied ends = qed 𝓛 (‵ (told R γ broken_by_owner) ∷ ‵ (fdead ε) ∷ []) ∵ fsplit ! $ keep ! (2 ∷ 0 ∷ []) $
      rewrite ! 0 (λ (k : Lft). ‵ (fdead k)) (sym (ends refl)) refl $ fpack ! Bool (ended_or_seatless R (tied_cell γ τ)) true $ move ! (1 ∷ 0 ∷ []) $ fjoin ! $ done !

  -- a cell that is fixed at a stage gets a seat at that stage
  one : (γ : Names) (u : Rest R.Denot) (τ : Option Tie) (s : Stage) (ε : Lft) (c e : ℕ) → IsTied τ → stage_in γ ≡ Some s → (s ≡ Broken → γ.epoch ≡ ε) → ⟦ lying R c e γ u ⟧ ∗ ⟦ seat_at τ s ⟧ ∗ A.dead ε ⊢ ⟦ lying R c e (tied_cell γ τ) u ⟧
  one γ u τ s ε c e tied is ends = let p : Phase R.Denot = u.1 in let γ' : Names = tied_cell γ τ in
      qed 𝓛 (‵ (lying R c e γ u) ∷ ‵ (seat_at τ s) ∷ ‵ (fdead ε) ∷ []) ∵ fsplit ! $ move ! (1 ∷ []) $ fsplit ! $ fsplit ! $ move ! (1 ∷ []) $ fsplit ! $ move ! (1 ∷ []) $
      -- [the seat that it has; what goes with the phase; the names; that it lies there; the room; its new seat; the epoch has ended]
      use1 𝓛 (given (AgreesAt γ.tied (stage p)) (‵ (seat_at γ.tied (stage p)))) (seat_told 𝓛 γ.tied (stage p)) $ learn ! (λ at. let same : stage p ≡ s = at s is in toss ! $
      move ! (0 ∷ 5 ∷ []) $ use2 𝓛 (‵ (told R γ' p)) (told_by γ τ ε p tied (λ here. ends (sym same ∙ here))) $
      -- [what goes with the phase; the names; that it lies there; the room; its new seat]
      rewrite ! 4 (λ (a : Stage). ‵ (seat_at τ a)) (sym same) refl $ move ! (0 ∷ 4 ∷ []) $ fjoin ! $ move ! (1 ∷ 0 ∷ []) $ fjoin ! $ fjoin ! $ move ! (1 ∷ 0 ∷ []) $ fjoin ! $ done !)

  -- some cells
  many : (τs : List (Option Tie)) (ss : List Stage) (γs : List Names) (ε : Lft) (c e : ℕ) (r : ℕ → Rest R.Denot) → Fits τs ss γs ε → ⟦ rests R γs c e r ⟧ ∗ ⟦ seats_at τs ss ⟧ ∗ A.dead ε ⊢ ⟦ rests R (tied_cells τs γs) c e r ⟧
  many [] [] [] ε c e r fits = qed 𝓛 (‵ ftrue ∷ ‵ ftrue ∷ ‵ (fdead ε) ∷ []) ∵ keep ! (0 ∷ []) $ done !
  many [] [] (γ ∷ γs) ε c e r fits = absurd fits
  many [] (s ∷ ss) γs ε c e r fits = absurd fits
  many (τ ∷ τs) [] γs ε c e r fits = absurd fits
  many (τ ∷ τs) (s ∷ ss) [] ε c e r fits = absurd fits
  many (τ ∷ τs) (s ∷ ss) (γ ∷ γs) ε c e r fits = let σ : ℕ → Rest R.Denot = λ i. r (suc i) in let e' : ℕ = e + step R in
      qed 𝓛 (‵ (rests R (γ ∷ γs) c e r) ∷ ‵ (seats_at (τ ∷ τs) (s ∷ ss)) ∷ ‵ (fdead ε) ∷ []) ∵ move ! (2 ∷ []) $ use1 𝓛 (‵ (fdead ε) ⊛ ‵ (fdead ε)) (𝓛.lfts.dead_dup ε) $ split ! $
      move ! (3 ∷ []) $ fsplit ! $ move ! (4 ∷ []) $ fsplit ! $
      -- [the cell; the others; the seat; the others; the epoch has ended, twice]
      move ! (0 ∷ 2 ∷ 4 ∷ []) $ use3 𝓛 (‵ (lying R c e (tied_cell γ τ) (r 0))) (one γ (r 0) τ s ε c e fits.0 fits.1 fits.2) $
      move ! (1 ∷ 2 ∷ 3 ∷ []) $ use3 𝓛 (‵ (rests R (tied_cells τs γs) c e' σ)) (many τs ss γs ε c e' σ fits.3) $ move ! (1 ∷ 0 ∷ []) $ fjoin ! $ done !

  -- those of a word
  one_word : (τs : List (Option Tie)) (ss : List Stage) (γs : List Names) (ε : Lft) (b o c e : ℕ) → Fits τs ss γs ε → length (tied_cells τs γs) ≡ length γs → ⟦ still R γs b o c e ⟧ ∗ ⟦ seats_at τs ss ⟧ ∗ A.dead ε ⊢ ⟦ still R (tied_cells τs γs) b o c e ⟧
  one_word τs ss γs ε b o c e fits long = let γs' : List Names = tied_cells τs γs in
      qed 𝓛 (‵ (still R γs b o c e) ∷ ‵ (seats_at τs ss) ∷ ‵ (fdead ε) ∷ []) ∵ fpick ! (λ r. fsplit ! $ let f : ℕ → ℕ = λ i. state (r i).1 in
      -- [the word; the cells; the seats; the epoch has ended]
      move ! (1 ∷ 2 ∷ 3 ∷ []) $ use3 𝓛 (‵ (rests R γs' c e r)) (many τs ss γs ε c e r fits) $ move ! (1 ∷ []) $
      rewrite ! 0 (λ (n : ℕ). ‵ (word b o n)) (pack_alike γs γs' f (sym long)) refl $ fjoin ! $ fpack ! (ℕ → Rest R.Denot) (λ z. fsep (word b o (pack γs' (λ i. state (z i).1))) (rests R γs' c e z)) r $ done !)

  -- the seats of the first cells, and of the others
  seats_parted : (n : ℕ) (τs : List (Option Tie)) (ss : List Stage) (γs : List Names) (ε : Lft) → Fits τs ss γs ε → ⟦ seats_at τs ss ⟧ ⊢ ⟦ seats_at (take n τs) (take n ss) ⟧ ∗ ⟦ seats_at (drop n τs) (drop n ss) ⟧
  seats_parted zero τs ss γs ε fits = qed 𝓛 (‵ (seats_at τs ss) ∷ []) ∵ nothing ! $ done !
  seats_parted (suc n) [] [] γs ε fits = qed 𝓛 (‵ ftrue ∷ []) ∵ nothing ! $ done !
  seats_parted (suc n) [] (s ∷ ss) γs ε fits = absurd fits
  seats_parted (suc n) (τ ∷ τs) [] γs ε fits = absurd fits
  seats_parted (suc n) (τ ∷ τs) (s ∷ ss) [] ε fits = absurd fits
  seats_parted (suc n) (τ ∷ τs) (s ∷ ss) (γ ∷ γs) ε fits = qed 𝓛 (‵ (seats_at (τ ∷ τs) (s ∷ ss)) ∷ []) ∵ fsplit ! $ move ! (1 ∷ []) $
      use1 𝓛 (‵ (seats_at (take n τs) (take n ss)) ⊛ ‵ (seats_at (drop n τs) (drop n ss))) (seats_parted n τs ss γs ε fits.3) $ split ! $ move ! (2 ∷ 0 ∷ []) $ fjoin ! $ done !

  fits_long : (τs : List (Option Tie)) (ss : List Stage) (γs : List Names) (ε : Lft) → Fits τs ss γs ε → length τs ≡ length γs
  fits_long [] [] [] ε fits = refl
  fits_long [] [] (γ ∷ γs) ε fits = absurd fits
  fits_long [] (s ∷ ss) γs ε fits = absurd fits
  fits_long (τ ∷ τs) [] γs ε fits = absurd fits
  fits_long (τ ∷ τs) (s ∷ ss) [] ε fits = absurd fits
  fits_long (τ ∷ τs) (s ∷ ss) (γ ∷ γs) ε fits = ap suc (fits_long τs ss γs ε fits.3)

  -- those of each word of a row
  words : (k : ℕ) (τs : List (Option Tie)) (ss : List Stage) (γs : List Names) (ε : Lft) (b o c e : ℕ) → Fits τs ss γs ε → ⟦ along R k γs b o c e ⟧ ∗ ⟦ seats_at τs ss ⟧ ∗ A.dead ε ⊢ ⟦ along R k (tied_cells τs γs) b o c e ⟧
  words zero τs ss γs ε b o c e fits = qed 𝓛 (‵ ftrue ∷ ‵ (seats_at τs ss) ∷ ‵ (fdead ε) ∷ []) ∵ keep ! (0 ∷ []) $ done !
  words (suc k) τs ss γs ε b o c e fits = let U : List (Option Tie) = take 16 τs in let Us : List (Option Tie) = drop 16 τs in let S : List Stage = take 16 ss in let Ss : List Stage = drop 16 ss in let W : List Names = take 16 γs in let Ws : List Names = drop 16 γs in
      let o' : ℕ = o + 8 in let e' : ℕ = e + 16 * step R in let first = fits_take 16 τs ss γs ε fits in let others = fits_drop 16 τs ss γs ε fits in
      qed 𝓛 (‵ (along R (suc k) γs b o c e) ∷ ‵ (seats_at τs ss) ∷ ‵ (fdead ε) ∷ []) ∵ move ! (2 ∷ []) $ use1 𝓛 (‵ (fdead ε) ⊛ ‵ (fdead ε)) (𝓛.lfts.dead_dup ε) $ split ! $
      move ! (3 ∷ []) $ use1 𝓛 (‵ (seats_at U S) ⊛ ‵ (seats_at Us Ss)) (seats_parted 16 τs ss γs ε fits) $ split ! $ move ! (4 ∷ []) $ fsplit ! $
      -- [the first word; the other words; the seats of the first; those of the others; the epoch has ended, twice]
      move ! (0 ∷ 2 ∷ 4 ∷ []) $ use3 𝓛 (‵ (still R (tied_cells U W) b o c e)) (one_word U S W ε b o c e first (tied_length U W (fits_long U S W ε first))) $
      move ! (1 ∷ 2 ∷ 3 ∷ []) $ use3 𝓛 (‵ (along R k (tied_cells Us Ws) b o' c e')) (words k Us Ss Ws ε b o' c e' others) $
      rewrite ! 0 (λ (l : List Names). ‵ (along R k l b o' c e')) (sym (drop_tied 16 τs γs)) refl $ rewrite ! 1 (λ (l : List Names). ‵ (still R l b o c e)) (sym (take_tied 16 τs γs)) refl $ move ! (1 ∷ 0 ∷ []) $ fjoin ! $ done !

  module _ (token : Ty → Ptr → Fml) where
    -- cells in their rows
    pub rows : (x : Extent) (τs : List (Option Tie)) (ss : List Stage) (γs : List Names) (ε : Lft) → Fits τs ss γs ε → ⟦ laid R token x γs ⟧ ∗ ⟦ seats_at τs ss ⟧ ∗ A.dead ε ⊢ ⟦ laid R token x (tied_cells τs γs) ⟧
    rows x τs ss γs ε fits = let b : ℕ = block_of x.at in let o : ℕ = count_of x.at in let c : ℕ = block_of x.rooms in let e : ℕ = count_of x.rooms in let k : ℕ = x.words in let γs' : List Names = tied_cells τs γs in
        let same : length γs ≡ length γs' = sym (tied_length τs γs (fits_long τs ss γs ε fits)) in
        let Others : ℕ → Fml = λ n. fsep (fsep (froom (ty_array (ty_int w64) x.more) b (k * 8 + o)) (froom (ty_array (bare (lone R.mir)) x.left) c (n * step R + e))) (fsep (token (words_ty (k + x.more)) x.at) (token (rooms_ty R (n + x.left)) x.rooms)) in
        qed 𝓛 (‵ (laid R token x γs) ∷ ‵ (seats_at τs ss) ∷ ‵ (fdead ε) ∷ []) ∵ fsplit ! $ fpick ! (λ so. toss ! $ fsplit ! $
        -- [the cells; the rooms; the seats; the epoch has ended]
        move ! (0 ∷ 2 ∷ 3 ∷ []) $ use3 𝓛 (‵ (along R k γs' b o c e)) (words k τs ss γs ε b o c e fits) $
        rewrite ! 1 (λ (n : ℕ). ‵ (Others n)) same refl $ fjoin ! $ nothing ! $ fpack ! (Lies R x (length γs')) (λ _. ftrue) (subst (Lies R x) same so) $ fjoin ! $ done !)

-- what the owner's call needs of all cells
pub ruleset new_ties = (tied_length, tied_are, tied_names, tied_known, members_broken)
