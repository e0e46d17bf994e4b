-- What desks, tags and badges are as values, and what a desk makes of a seat. Assumes `Logic`.
use Rattle.std.proofs.Common.{◌≡◌, ℕ, zero, suc, ◌+◌, ◌<◌, List, length, [], ◌∷◌, ◌++◌, refl, sym, ap, subst, arith, append_assoc, append-nil, length-append}
use Rattle.std.specs.Prelude.{Option, Some, None}
use mathlib.Core.List.{not-mem-nil, mem-append_left}
use seplogic.Ra.Ura.{Ura}
use mir.Val.{vstruct, vnil}
use base.Share.{three_quarters}
use base.Stored.{Gv, Coded}
use base.Logic.{SProp, ent, sep, wand, ex, all, all_e, apply∗, guard, emp, upd, upd_i}
use base.Fml.{Lft, Share, Fml, ftrue, fsep, fex, fbor, flft, fnamed}
use base.Before.{before}
use types.Logic.{Logic, sem}
use types.Na.{before-Incl, before_lent}
use types.Kit.{‵, raw, ◌⊛◌, some, given, ◌$◌, ◌∵◌, !, qed, by, move, drop, pick, show, use0, use1, use2, use3, split, split3, fsplit, fsplit3, fjoin, fpack, fpick, frame, each, assume, suffices, learn, check, rewrite, settle, done}
use denote.RattleType.{RattleType}
use denote.RawPtr.{Ptr}
use denote.Steps.{nothing}
use denote.Shadow.{makes_shadow}
use denote.Struct.Struct.{Struct}
use denote.Struct.Owning.{shape}
use Rattle.atomic_table.specs.Table.{State}
use Rattle.atomic_table.specs.Seated.{TableId, age, seen, lasts, common}
use Rattle.atomic_table.specs.declared.shared.TableRule.{Ghosts}
use Rattle.atomic_table.proofs.Fields.{token_val}
use Rattle.tie_core.specs.Tie.{Tie, Stage, Idle, Begun, Mending, Filled, Broken, Step, Made, Moves, Gives, IsMade, seat_of, seat_at, tie_further, tie_numbered, row_of, stages_from, left, update}
use Rattle.tie_core.specs.Desk.{content, HasCodes, gone}
use Rattle.tie_core.specs.Permits.{PermitsAdoption, PermitsCell, PermitsRow, TellsOfBoth}
use Rattle.tie_core.specs.Run.{IsRunMade, run_of, run_floor, updates}
use Rattle.tie_core.specs.Visit.{PermitsEntry}
use Rattle.tie_core.specs.declared.play.Staged as staged
use Rattle.tie_core.specs.contracts.desk.Desk as Desk
use Rattle.tie_core.specs.contracts.tag.Tag as Tag
use Rattle.tie_core.proofs.SeatSteps as seats

module _ (R U X Y : RattleType) (g : Ghosts Y.Denot R.Denot U.Denot X.Denot) where
  abbrev pub DeskWords : RattleType
  DeskWords = Struct (shape (Desk.the_type R U X Y g))

  pub desk_words : {M : Type 1} {𝓤 : Ura M} (𝓛 : Logic 𝓤) → ent 𝓤 (emp 𝓤) (sem 𝓛 (DeskWords.own_val (tt, tt) (token_val ∷ [])))
  desk_words 𝓛 = makes_shadow 𝓛 (DeskWords.own_val (tt, tt) (token_val ∷ [])) (λ vss. (tt, ((λ uss. (tt, tt)), tt))) ((vstruct vnil ∷ [], tt), (refl, ((tt, (refl, tt)), tt)))

module _ (U Y : RattleType) (g : staged.Ghosts Y.Denot U.Denot) where
  abbrev pub TagWords : RattleType
  TagWords = Struct (shape (Tag.the_type U Y g))

  pub tag_words : {M : Type 1} {𝓤 : Ura M} (𝓛 : Logic 𝓤) → ent 𝓤 (emp 𝓤) (sem 𝓛 (TagWords.own_val (tt, tt) (token_val ∷ [])))
  tag_words 𝓛 = makes_shadow 𝓛 (TagWords.own_val (tt, tt) (token_val ∷ [])) (λ vss. (tt, ((λ uss. (tt, tt)), tt))) ((vstruct vnil ∷ [], tt), (refl, ((tt, (refl, tt)), tt)))

-- an update that has run has its stages
pub made_of : (made : Option Made) → IsMade made → (m : Made) × (made ≡ Some m)
made_of None is = absurd is
made_of (Some m) is = (m, refl)

-- updates of a run that have run have the stages of its cells
pub run_made_of : (made : Option (List Made)) → IsRunMade made → (ms : List Made) × (made ≡ Some ms)
run_made_of None is = absurd is
run_made_of (Some ms) is = (ms, refl)

-- the ties of a run are as many as it says, and the first one has the floor of the run
pub run_length : (t : Tie) (n : ℕ) → length (run_of t n) ≡ n
run_length t zero = refl
run_length t (suc n) = ap suc (run_length (tie_further t 1) n)

pub run_floor_is : (t : Tie) (n : ℕ) → 0 < n → run_floor (run_of t n) ≡ t.floor
run_floor_is t zero near = absurd (omega (arith, near))
run_floor_is t (suc n) near = refl

-- a seat that is further shows the stages by the same views
pub codes_further : {V : Type 0} (c : V → Gv) (shows : Stage → V) (t : Tie) (n : ℕ) → HasCodes c shows t → HasCodes c shows (tie_further t n)
codes_further c shows t n codes Idle = codes Idle
codes_further c shows t n codes Begun = codes Begun
codes_further c shows t n codes Mending = codes Mending
codes_further c shows t n codes Filled = codes Filled
codes_further c shows t n codes Broken = codes Broken

-- the same of a seat with another number
pub codes_numbered : {V : Type 0} (c : V → Gv) (shows : Stage → V) (t : Tie) (k : ℕ) → HasCodes c shows t → HasCodes c shows (tie_numbered t k)
codes_numbered c shows t k codes Idle = codes Idle
codes_numbered c shows t k codes Begun = codes Begun
codes_numbered c shows t k codes Mending = codes Mending
codes_numbered c shows t k codes Filled = codes Filled
codes_numbered c shows t k codes Broken = codes Broken

-- a row of ties is as long as it says
pub row_length : (t : Tie) (n : ℕ) → length (row_of t n) ≡ n
row_length t zero = refl
row_length t (suc n) = ap suc (row_length (tie_further t 1) n)

-- as many stages as places
pub stages_length : (f : ℕ → Stage) (from n : ℕ) → length (stages_from f from n) ≡ n
stages_length f from zero = refl
stages_length f from (suc n) = ap suc (stages_length f (from + 1) n)

module _ {M : Type 1} {𝓤 : Ura M} (𝓛 : Logic 𝓤) where
  open 𝓛 use {H, A}

  -- what a `&` to a table shows of its lifetime
  pub lives : (z : TableId) (κ : Lft) → ent 𝓤 (sem 𝓛 (lasts z κ)) (sem 𝓛 (before κ (age z)))
  lives z κ = let α : Lft = age z in qed 𝓛 (‵ (lasts z κ) ∷ []) ∵ use0 𝓛 (‵ (before (α ++ κ) α)) (before-Incl 𝓛 (α ++ κ) α (λ a m. mem-append_left κ m)) $ move ! (1 ∷ 0 ∷ []) $
      use2 𝓛 (‵ (before κ α)) (before_lent 𝓛 κ α α) $ done !

module _ {M : Type 1} {𝓤 : Ura M} (𝓛 : Logic 𝓤) (R : RattleType) {V : Type 0} (cv : Coded V) (holds : State R.Denot V → Type 0) (w : Ptr) (z : TableId) where
  open 𝓛 use {H, A}

  abbrev Pr : Type 2
  Pr = SProp 𝓤

  abbrev ◌⊢◌ : Pr → Pr → Type 1
  P ⊢ Q = ent 𝓤 P Q

  abbrev ◌∗◌ : Pr → Pr → Pr
  P ∗ Q = sep 𝓤 P Q

  abbrev ⟦◌⟧ : Fml → Pr
  ⟦ P ⟧ = sem 𝓛 P

  infix 26 ◌⊢◌
  infixr 35 ◌∗◌
  abbrev α : Lft
  α = age z

  abbrev pub J : Fml
  J = seats.J 𝓛 R cv holds w z

  abbrev half : ℕ → V → Fml
  half = seats.half 𝓛 R cv holds w z

  -- the invariant of a table has a number
  abbrev pub Named : Ptr × ℕ → Fml
  Named u = fnamed u.1 (fbor α (content R cv.code holds u.0 z))

  module _ (shows : Stage → V) where
    -- the caller's seat makes the update of an offer
    module _ (t : Tie) (step : Step) (id : ℕ) (v : V) (then : Stage → Stage → V → Type 0) where
      abbrev pub gain : Stage → Stage → Fml
      gain a b = gone cv.code z id (then a b)

      abbrev Turned : ℕ × Stage × Stage → Pr
      Turned m = wand 𝓤 (⟦ seat_at (Some t) m.1 ⟧ ∗ ⟦ J ⟧) (upd 𝓤 ⟦ left α J gain t step m.1 m.2 ⟧)

      -- the seat of the tie, by its name and code
      abbrev named_seat : ℕ × Gv → Fml
      named_seat u = seen (λ (g : Gv). g) u.0 t.id three_quarters u.1

      pub offers : t.views ≡ z.views_name → t.fixed ≡ None → HasCodes cv.code shows t → PermitsCell holds shows step id v t.id then
          → ⟦ half id v ⟧ ⊢ ⟦ update α J gain t step ⟧
      offers views free codes law = qed 𝓛 (‵ (half id v) ∷ []) ∵
          each ! (λ (m : ℕ × Stage × Stage). all 𝓤 (λ (_ : Moves step m.0 m.1 m.2). Turned m)) (λ m. each ! (λ (_ : Moves step m.0 m.1 m.2). Turned m) (λ moves.
          let a : Stage = m.1 in let b : Stage = m.2 in let x : V = shows a in let y : V = shows b in let Z : Pr = ⟦ left α J gain t step a b ⟧ in
          assume ! (‵ (seat_at (Some t) a) ⊛ ‵ J) $ split ! $
          rewrite ! 0 (λ (f : Option Stage). ‵ (seat_of t f a)) free refl $ rewrite ! 0 (λ (u : ℕ × Gv). ‵ (named_seat u)) (λ i. (views i, codes a i)) refl $
          -- [the cell's seat; the table; the caller's seat]
          move ! (1 ∷ 2 ∷ 0 ∷ []) $ use3 𝓛 (raw (upd 𝓤 (guard 𝓤 (Gives step a) (⟦ half t.id y ⟧ ∗ ⟦ J ⟧ ∗ ⟦ gain a b ⟧))))
          (seats.goes 𝓛 R cv holds w z id v t.id x y (Gives step a) (then a b) (λ s fits here two there. law s m.0 a b fits here two there moves)) $
          settle 𝓛 Z (given (Gives step a) (‵ (half t.id y) ⊛ ‵ J ⊛ ‵ (gain a b))) $ learn ! (λ gives. split3 ! $ suffices ! _ (upd_i 𝓤 Z) $
          rewrite ! 0 (λ (u : ℕ × Gv). ‵ (named_seat u)) (λ i. (sym views i, sym (codes b) i)) refl $ rewrite ! 0 (λ (f : Option Stage). ‵ (seat_of t f b)) (sym free) refl $
          -- [the cell's seat; the table; the gain]
          nothing ! $ fpack ! (Gives step a) (λ _. ftrue) gives $ move ! (3 ∷ 0 ∷ []) $ fjoin ! $ move ! (2 ∷ 0 ∷ []) $ fjoin ! $ move ! (1 ∷ 0 ∷ []) $ fjoin ! $ done !)))

    -- an update whose gain is more is one whose gain is less
    module _ (t : Tie) (step : Step) (more less : Stage → Stage → Fml) (leads : (a b : Stage) → ⟦ more a b ⟧ ⊢ ⟦ less a b ⟧) where
      abbrev Going : (Stage → Stage → Fml) → ℕ × Stage × Stage → Pr
      Going gain m = wand 𝓤 (⟦ seat_at (Some t) m.1 ⟧ ∗ ⟦ J ⟧) (upd 𝓤 ⟦ left α J gain t step m.1 m.2 ⟧)

      abbrev Any : (Stage → Stage → Fml) → ℕ × Stage × Stage → Pr
      Any gain m = all 𝓤 (λ (_ : Moves step m.0 m.1 m.2). Going gain m)

      pub gains_less : ⟦ update α J more t step ⟧ ⊢ ⟦ update α J less t step ⟧
      gains_less = qed 𝓛 (‵ (update α J more t step) ∷ []) ∵ each ! (λ (m : ℕ × Stage × Stage). Any less m) (λ m. each ! (λ (_ : Moves step m.0 m.1 m.2). Going less m) (λ moves.
          let a : Stage = m.1 in let b : Stage = m.2 in let Q : Pr = upd 𝓤 ⟦ left α J more t step a b ⟧ in let Z : Pr = ⟦ left α J less t step a b ⟧ in
          assume ! (‵ (seat_at (Some t) a) ⊛ ‵ J) $ move ! (1 ∷ []) $ use1 𝓛 (raw (Any more m)) (all_e 𝓤 (λ (l : ℕ × Stage × Stage). Any more l) m) $
          use1 𝓛 (raw (Going more m)) (all_e 𝓤 (λ (_ : Moves step m.0 m.1 m.2). Going more m) moves) $ move ! (1 ∷ []) $
          use2 𝓛 (raw Q) (apply∗ 𝓤 (⟦ seat_at (Some t) a ⟧ ∗ ⟦ J ⟧) Q) $ settle 𝓛 Z (‵ (left α J more t step a b)) $ suffices ! _ (upd_i 𝓤 Z) $
          -- [the cell's seat; the table; the gain with what the step gives]
          fsplit3 ! $ move ! (2 ∷ []) $ fsplit ! $ use1 𝓛 (‵ (less a b)) (leads a b) $ fjoin ! $ move ! (2 ∷ 0 ∷ []) $ fjoin ! $ move ! (1 ∷ 0 ∷ []) $ fjoin ! $ done !))

    -- the caller's seat makes the updates of an offer for a run, of which some cells have gone
    module _ (step : Step) (id k whole : ℕ) (then : List Made → V → Type 0) where
      abbrev Told : List Made → Fml
      Told ms = gone cv.code z id (then ms)

      abbrev Next : Type 0
      Next = (ms : List Made) (u : V) → length ms < whole → then ms u → PermitsCell holds shows step id u (k + length ms) (λ a b w. then (ms ++ (a, b) ∷ []) w)

      pub run_offers : Next → (n : ℕ) (t : Tie) → t.views ≡ z.views_name → t.fixed ≡ None → HasCodes cv.code shows t → (ms : List Made) → length ms + n ≡ whole → t.id ≡ k + length ms
          → (v : V) → then ms v → ⟦ half id v ⟧ ⊢ ⟦ updates α J step (run_of t n) (λ ns. Told (ms ++ ns)) ⟧
      run_offers law zero t views free codes ms long at v so = let here : then (ms ++ []) v = subst (λ (ns : List Made). then ns v) (sym (append-nil ms)) so in
          qed 𝓛 (‵ (half id v) ∷ []) ∵ nothing ! $ fpack ! (then (ms ++ []) v) (λ _. ftrue) here $ fjoin ! $ fpack ! V (λ u. fsep (fex (then (ms ++ []) u) (λ _. ftrue)) (half id u)) v $ done !
      run_offers law (suc n) t views free codes ms long at v so =
          let t' : Tie = tie_further t 1 in let last : Stage → Stage → List Made = λ a b. ms ++ (a, b) ∷ [] in let now : Stage → Stage → V → Type 0 = λ a b. then (last a b) in
          let rest : Stage → Stage → Fml = λ a b. updates α J step (run_of t' n) (λ ns. Told (ms ++ (a, b) ∷ ns)) in
          let one : PermitsCell holds shows step id v t.id now = subst (λ (i : ℕ). PermitsCell holds shows step id v i now) (sym at) (law ms v (omega arith) so) in
          qed 𝓛 (‵ (half id v) ∷ []) ∵ use1 𝓛 (‵ (update α J (gain t step id v now) t step)) (offers t step id v now views free codes one) $
          by ! (gains_less t step (gain t step id v now) rest (λ a b. qed 𝓛 (‵ (gone cv.code z id (now a b)) ∷ []) ∵ fpick ! (λ u. fsplit ! $ fpick ! (λ is. drop ! $
          let more : length (last a b) ≡ length ms + 1 = length-append ms ((a, b) ∷ []) in
          by ! (subst (λ (f : List Made → Fml). ⟦ half id u ⟧ ⊢ ⟦ updates α J step (run_of t' n) f ⟧) (λ i ns. Told (append_assoc ms ((a, b) ∷ []) ns i))
          (run_offers law n t' views free (codes_further cv.code shows t 1 codes) (last a b) (omega (arith, long, more)) (omega (arith, at, more)) u is))))))

    -- the seats of new cells come without a step
    pub laying : (floor : ℕ) (owner : ℕ → ℕ → V) (n : ℕ) → PermitsRow holds shows owner n → (q : Share)
        → ⟦ fnamed floor (fbor α J) ⟧ ∗ A.lft α q ⊢ H.⇛ (⟦ fex ℕ (seats.Laid 𝓛 R cv holds w z shows floor owner n) ⟧ ∗ A.lft α q)
    laying floor owner n law q = let Row : ℕ → Fml = seats.Laid 𝓛 R cv holds w z shows floor owner n in let Q : Pr = ⟦ fex ℕ Row ⟧ in let G : Pr = ⟦ J ⟧ ∗ (⟦ ftrue ⟧ ∗ Q) in
        qed 𝓛 (‵ (fnamed floor (fbor α J)) ∷ ‵ (flft α q) ∷ []) ∵ suffices ! _ (𝓛.invs.invs_bor_acc floor α q J [] Q ((λ m. not-mem-nil m), tt)) $
        nothing ! $ move ! (1 ∷ 0 ∷ []) $ fjoin ! $ frame ! $ frame ! $ assume ! (‵ J ⊛ ‵ ftrue) $ split ! $
        use1 𝓛 (raw (upd 𝓤 (⟦ J ⟧ ∗ Q))) (seats.lays 𝓛 R cv holds w z shows floor owner n law) $ settle 𝓛 G (‵ J ⊛ ‵ (fex ℕ Row)) $ split ! $ suffices ! _ (upd_i 𝓤 G) $
        move ! (0 ∷ 2 ∷ 1 ∷ []) $ done !

  -- the seat of a new entry comes without a step
  pub entering : (floor id : ℕ) (v empty : V) (told : V → Type 0) → PermitsEntry holds id v empty told → (q : Share)
      → ⟦ fnamed floor (fbor α J) ⟧ ∗ A.lft α q ∗ ⟦ half id v ⟧ ⊢ H.⇛ (⟦ fex ℕ (seats.Entry 𝓛 R cv holds w z id empty told) ⟧ ∗ A.lft α q)
  entering floor id v empty told law q = let Made : ℕ → Fml = seats.Entry 𝓛 R cv holds w z id empty told in let Q : Pr = ⟦ fex ℕ Made ⟧ in let G : Pr = ⟦ J ⟧ ∗ (⟦ ftrue ⟧ ∗ Q) in
      qed 𝓛 (‵ (fnamed floor (fbor α J)) ∷ ‵ (flft α q) ∷ ‵ (half id v) ∷ []) ∵ suffices ! _ (𝓛.invs.invs_bor_acc floor α q J [] Q ((λ m. not-mem-nil m), tt)) $
      nothing ! $ move ! (1 ∷ 0 ∷ []) $ fjoin ! $ frame ! $ frame ! $ assume ! (‵ J ⊛ ‵ ftrue) $ split ! $ move ! (0 ∷ 2 ∷ []) $
      use2 𝓛 (raw (upd 𝓤 (⟦ J ⟧ ∗ Q))) (seats.enters 𝓛 R cv holds w z id v empty told law) $ settle 𝓛 G (‵ J ⊛ ‵ (fex ℕ Made)) $ split ! $ suffices ! _ (upd_i 𝓤 G) $
      move ! (0 ∷ 2 ∷ 1 ∷ []) $ done !

  -- the seats of cells that are there already come without a step
  pub adopting : (shows : Stage → V) (f : ℕ → Stage) (from n floor id : ℕ) (v x : V) (told : V → Type 0) → PermitsAdoption holds id v shows (stages_from f from n) x told → (q : Share)
      → ⟦ fnamed floor (fbor α J) ⟧ ∗ A.lft α q ∗ ⟦ half id v ⟧ ⊢ H.⇛ (⟦ fex ℕ (seats.Adopted 𝓛 R cv holds w z shows floor f from n id x told) ⟧ ∗ A.lft α q)
  adopting shows f from n floor id v x told law q = let Made : ℕ → Fml = seats.Adopted 𝓛 R cv holds w z shows floor f from n id x told in let Q : Pr = ⟦ fex ℕ Made ⟧ in let G : Pr = ⟦ J ⟧ ∗ (⟦ ftrue ⟧ ∗ Q) in
      qed 𝓛 (‵ (fnamed floor (fbor α J)) ∷ ‵ (flft α q) ∷ ‵ (half id v) ∷ []) ∵ suffices ! _ (𝓛.invs.invs_bor_acc floor α q J [] Q ((λ m. not-mem-nil m), tt)) $
      nothing ! $ move ! (1 ∷ 0 ∷ []) $ fjoin ! $ frame ! $ frame ! $ assume ! (‵ J ⊛ ‵ ftrue) $ split ! $ move ! (0 ∷ 2 ∷ []) $
      use2 𝓛 (raw (upd 𝓤 (⟦ J ⟧ ∗ Q))) (seats.adopts 𝓛 R cv holds w z shows floor f from n id v x told law) $ settle 𝓛 G (‵ J ⊛ ‵ (fex ℕ Made)) $ split ! $ suffices ! _ (upd_i 𝓤 G) $
      move ! (0 ∷ 2 ∷ 1 ∷ []) $ done !

  -- what the rule tells of two seats comes without a step
  pub comparing : (floor id : ℕ) (v : V) (k : ℕ) (x : V) (told : Type 0) → TellsOfBoth holds id v k x told → (q : Share)
      → ⟦ fnamed floor (fbor α J) ⟧ ∗ A.lft α q ∗ (⟦ half id v ⟧ ∗ ⟦ half k x ⟧) ⊢ H.⇛ (guard 𝓤 told (⟦ half id v ⟧ ∗ ⟦ half k x ⟧) ∗ A.lft α q)
  comparing floor id v k x told law q = let Q : Pr = guard 𝓤 told (⟦ half id v ⟧ ∗ ⟦ half k x ⟧) in let G : Pr = ⟦ J ⟧ ∗ (⟦ ftrue ⟧ ∗ Q) in
      qed 𝓛 (‵ (fnamed floor (fbor α J)) ∷ ‵ (flft α q) ∷ ‵ (half id v) ∷ ‵ (half k x) ∷ []) ∵ suffices ! _ (𝓛.invs.invs_bor_acc floor α q J [] Q ((λ m. not-mem-nil m), tt)) $
      nothing ! $ move ! (1 ∷ 0 ∷ []) $ fjoin ! $ frame ! $ frame ! $ assume ! (‵ J ⊛ ‵ ftrue) $ split ! $ move ! (0 ∷ 2 ∷ 3 ∷ []) $
      use3 𝓛 (raw (upd 𝓤 (guard 𝓤 told (⟦ J ⟧ ∗ ⟦ half id v ⟧ ∗ ⟦ half k x ⟧)))) (seats.compares 𝓛 R cv holds w z id v k x told law) $ settle 𝓛 G (given told (‵ J ⊛ ‵ (half id v) ⊛ ‵ (half k x))) $ learn ! (λ so. split3 ! $ suffices ! _ (upd_i 𝓤 G) $
      -- [the table; the two seats; nothing]
      frame ! $ move ! (2 ∷ []) $ frame ! $ check ! so $ done !)

-- what a `&` to a table shows of its invariant: it has a number
pub names : {M : Type 1} {𝓤 : Ura M} (𝓛 : Logic 𝓤) (R : RattleType) {V : Type 0} (cv : Coded V) (holds : State R.Denot V → Type 0) (z : TableId) (w p : Ptr)
    → ent 𝓤 (sem 𝓛 (common R cv.code holds w p z)) (ex 𝓤 (λ (u : Ptr × ℕ). sem 𝓛 (Named 𝓛 R cv holds w z u)))
names 𝓛 R cv holds z w p = let I : Fml = fbor (age z) (content R cv.code holds w z) in qed 𝓛 (‵ (common R cv.code holds w p z) ∷ []) ∵ fsplit ! $ drop ! $
    use1 𝓛 (some (λ (j : ℕ). ‵ (fnamed j I))) (𝓛.invs.inv_named I) $ pick ! (λ j. show ! (λ (u : Ptr × ℕ). sem 𝓛 (Named 𝓛 R cv holds w z u)) (w, j) $ done !)
