-- Seats of a table move, and new seats come, while the content of the table's invariant is at hand. Assumes `Logic`.
use Rattle.std.proofs.Common.{◌≡◌, ◌≢◌, ℕ, zero, suc, ◌+◌, List, [], ◌∷◌, ◌++◌, length, map, set, replicate, sym, refl, ◌∙◌, arith, append_assoc, append-nil, length-append, zero-add, ap}
use mathlib.Core.Option.{some}
use lib.ListN.{get_elem?}
use seplogic.Ra.Ura.{Ura}
use base.Fraction.{full_share}
use base.Share.{quarter, three_quarters}
use base.Stored.{Gv, Coded}
use base.Logic.{SProp, ent, sep, all, guard, upd, all_e, upd_i}
use base.Fml.{Fml, ftrue, fsep, fex}
use types.Logic.{Logic, sem}
use types.Keyed.{entries_take}
use types.Kit.{‵, raw, ◌⊛◌, given, ◌$◌, ◌∵◌, !, qed, by, move, drop, split, join, fsplit, fsplit3, fjoin, fjoin3, fpick, fpack, learn, check, suffices, settle, done, use1, use2, use3, rewrite}
use denote.RattleType.{RattleType}
use denote.RawPtr.{Ptr, block_of, count_of}
use denote.Steps.{nothing}
use Rattle.atomic_table.specs.Table.{State}
use Rattle.atomic_table.specs.Seated.{TableId, age, place, names, row, shelf, roster, seen, unused, halved, standing}
use Rattle.atomic_table.proofs.Roster.{resets, apart, Moved, moves}
use Rattle.atomic_table.proofs.Lists.{set_again}
use Rattle.tie_core.specs.Tie.{Stage, Idle, Begun, Mending, Filled, Broken, seats, seats_at, row_of, stages_from}
use Rattle.tie_core.specs.Desk.{HasCodes, content, gone, tie_at}
use Rattle.tie_core.specs.Permits.{with_views, PermitsAlone, PermitsLook, PermitsTrade, PermitsRow, PermitsAdoption, TellsOfBoth}
use Rattle.tie_core.specs.Visit.{PermitsEntry}

-- a tie that a desk makes has the codes of the views
pub codes_at : {V : Type 0} (c : V → Gv) (shows : Stage → V) (z : TableId) (floor k : ℕ) → HasCodes c shows (tie_at c shows z floor k)
codes_at c shows z floor k Idle = refl
codes_at c shows z floor k Begun = refl
codes_at c shows z floor k Mending = refl
codes_at c shows z floor k Filled = refl
codes_at c shows z floor k Broken = refl

module _ {M : Type 1} {𝓤 : Ura M} (𝓛 : Logic 𝓤) (R : RattleType) {V : Type 0} (cv : Coded V) (holds : State R.Denot V → Type 0) (w : Ptr) (z : TableId) where
  abbrev Pr : Type 2
  Pr = SProp 𝓤

  abbrev ◌⊢◌ : Pr → Pr → Type 1
  P ⊢ Q = ent 𝓤 P Q

  abbrev ◌∗◌ : Pr → Pr → Pr
  P ∗ Q = sep 𝓤 P Q

  abbrev ⟦◌⟧ : Fml → Pr
  ⟦ P ⟧ = sem 𝓛 P

  infix 26 ◌⊢◌
  infixr 35 ◌∗◌
  abbrev γ : ℕ
  γ = z.views_name

  -- the content of the table's invariant
  abbrev pub J : Fml
  J = content R cv.code holds w z

  -- a seat
  abbrev pub half : ℕ → V → Fml
  half k v = seen cv.code γ k three_quarters v

  -- the views of all seats, as the invariant has them
  abbrev L : List V → Fml
  L vs = roster cv.code γ 0 vs

  abbrev Words : State R.Denot V → Fml
  Words s = row (block_of w) (count_of w) s.words

  abbrev Slots : State R.Denot V → Fml
  Slots s = shelf (age z) R (place z) (names z) 0 s.homes

  abbrev Fits : State R.Denot V → Type 0
  Fits s = holds s × (length s.words ≡ z.words) × (length s.homes ≡ z.slots)

  abbrev Gone : ℕ → (V → Type 0) → Fml
  Gone id told = gone cv.code z id told

  -- the view of a seat that is at hand is known
  seen_at : (vs : List V) (k : ℕ) (x : V) → ⟦ L vs ⟧ ∗ ⟦ half k x ⟧ ⊢ upd 𝓤 (guard 𝓤 (get_elem? vs k ≡ some x) (⟦ L vs ⟧ ∗ ⟦ half k x ⟧))
  seen_at vs k x = let Z : Pr = guard 𝓤 (get_elem? vs k ≡ some x) (⟦ L vs ⟧ ∗ ⟦ half k x ⟧) in qed 𝓛 (‵ (L vs) ∷ ‵ (half k x) ∷ []) ∵
      use2 𝓛 (given (get_elem? vs k ≡ some x) (raw (all 𝓤 (Moved 𝓛 cv γ 0 vs k k)))) (moves 𝓛 cv γ vs 0 k k x (omega arith)) $ learn ! (λ there.
      use1 𝓛 (raw (Moved 𝓛 cv γ 0 vs k k x)) (all_e 𝓤 (Moved 𝓛 cv γ 0 vs k k) x) $ settle 𝓛 Z (‵ (L (set vs k x)) ⊛ ‵ (half k x)) $ split ! $ rewrite ! 0 (λ (us : List V). ‵ (L us)) (set_again vs k x there) refl $
      suffices ! _ (upd_i 𝓤 Z) $ check ! there $ done !)

  -- a seat that is at hand gets another view
  moved_to : (vs : List V) (k : ℕ) (x y : V) → ⟦ L vs ⟧ ∗ ⟦ half k x ⟧ ⊢ upd 𝓤 (⟦ L (set vs k y) ⟧ ∗ ⟦ half k y ⟧)
  moved_to vs k x y = qed 𝓛 (‵ (L vs) ∷ ‵ (half k x) ∷ []) ∵
      use2 𝓛 (given (get_elem? vs k ≡ some x) (raw (all 𝓤 (Moved 𝓛 cv γ 0 vs k k)))) (moves 𝓛 cv γ vs 0 k k x (omega arith)) $ learn ! (λ _. by ! (all_e 𝓤 (Moved 𝓛 cv γ 0 vs k k) y))

  -- the parts of the table with other views that keep the rule
  shut : (s : State R.Denot V) (vs : List V) → Fits (with_views s vs) → ⟦ Words s ⟧ ∗ ⟦ Slots s ⟧ ∗ ⟦ L vs ⟧ ⊢ ⟦ J ⟧
  shut s vs fits = qed 𝓛 (‵ (Words s) ∷ ‵ (Slots s) ∷ ‵ (L vs) ∷ []) ∵ nothing ! $ fpack ! (Fits (with_views s vs)) (λ _. ftrue) fits $ move ! (2 ∷ 3 ∷ []) $ fjoin ! $ move ! (2 ∷ 0 ∷ 1 ∷ []) $ fjoin3 ! $
      fpack ! (State R.Denot V) (standing R cv.code holds w (place z) z) (with_views s vs) $ done !

  -- what a step of the caller's seat and a second one may do
  abbrev pub Going : ℕ → V → ℕ → V → V → Type 0 → (V → Type 0) → Type 0
  Going id v k x y Q told = (s : State R.Denot V) → holds s → get_elem? s.views id ≡ some v → k ≢ id → get_elem? s.views k ≡ some x
      → (u : V) × holds (with_views s (set (set s.views id u) k y)) × Q × told u

  -- the caller's seat and a second one move
  pub goes : (id : ℕ) (v : V) (k : ℕ) (x y : V) (Q : Type 0) (told : V → Type 0) → Going id v k x y Q told
      → ⟦ J ⟧ ∗ ⟦ half id v ⟧ ∗ ⟦ half k x ⟧ ⊢ upd 𝓤 (guard 𝓤 Q (⟦ half k y ⟧ ∗ ⟦ J ⟧ ∗ ⟦ Gone id told ⟧))
  goes id v k x y Q told law = let Z : Pr = guard 𝓤 Q (⟦ half k y ⟧ ∗ ⟦ J ⟧ ∗ ⟦ Gone id told ⟧) in
      qed 𝓛 (‵ J ∷ ‵ (half id v) ∷ ‵ (half k x) ∷ []) ∵ move ! (1 ∷ 2 ∷ []) $ use2 𝓛 (given (k ≢ id) (‵ (half id v) ⊛ ‵ (half k x))) (apart 𝓛 cv γ id k v x) $ learn ! (λ two. split ! $
      move ! (2 ∷ []) $ fpick ! (λ s. fsplit3 ! $ move ! (2 ∷ []) $ fpick ! (λ fits. drop ! $ move ! (1 ∷ []) $ fsplit ! $
      -- [the slots; the views; the words; the caller's seat; the second one]
      move ! (1 ∷ 4 ∷ []) $ use2 𝓛 (raw (upd 𝓤 (guard 𝓤 (get_elem? s.views k ≡ some x) (⟦ L s.views ⟧ ∗ ⟦ half k x ⟧)))) (seen_at s.views k x) $
      settle 𝓛 Z (given (get_elem? s.views k ≡ some x) (‵ (L s.views) ⊛ ‵ (half k x))) $ learn ! (λ there. split ! $
      -- [the views; the second seat; the slots; the words; the caller's seat]
      move ! (0 ∷ 4 ∷ []) $ use2 𝓛 (raw (upd 𝓤 (guard 𝓤 (get_elem? s.views id ≡ some v) (⟦ L s.views ⟧ ∗ ⟦ half id v ⟧)))) (seen_at s.views id v) $
      settle 𝓛 Z (given (get_elem? s.views id ≡ some v) (‵ (L s.views) ⊛ ‵ (half id v))) $ learn ! (λ here. split ! $
      let r = law s fits.0 here two there in let u : V = r.0 in let us : List V = set s.views id u in
      use2 𝓛 (raw (upd 𝓤 (⟦ L us ⟧ ∗ ⟦ half id u ⟧))) (moved_to s.views id v u) $ settle 𝓛 Z (‵ (L us) ⊛ ‵ (half id u)) $ split ! $
      -- [the views; the caller's seat; the second one; the slots; the words]
      move ! (0 ∷ 2 ∷ []) $ use2 𝓛 (raw (upd 𝓤 (⟦ L (set us k y) ⟧ ∗ ⟦ half k y ⟧))) (moved_to us k x y) $ settle 𝓛 Z (‵ (L (set us k y)) ⊛ ‵ (half k y)) $ split ! $ suffices ! _ (upd_i 𝓤 Z) $ check ! r.2 $
      -- [the views; the second seat; the caller's; the slots; the words]
      move ! (4 ∷ 3 ∷ 0 ∷ []) $ use3 𝓛 (‵ J) (shut s (set us k y) (r.1, fits.1, fits.2)) $ move ! (2 ∷ []) $
      nothing ! $ fpack ! (told u) (λ _. ftrue) r.3 $ fjoin ! $ fpack ! V (λ t. fsep (fex (told t) (λ _. ftrue)) (half id t)) u $ move ! (2 ∷ 1 ∷ 0 ∷ []) $ done !)))))

  -- the caller's seat moves, and a second one stays
  pub looks_on : (id : ℕ) (v : V) (k : ℕ) (x : V) (told : V → Type 0) → PermitsLook holds id v k x told
      → ⟦ J ⟧ ∗ ⟦ half id v ⟧ ∗ ⟦ half k x ⟧ ⊢ upd 𝓤 (⟦ half k x ⟧ ∗ ⟦ J ⟧ ∗ ⟦ Gone id told ⟧)
  looks_on id v k x told law = let Z : Pr = ⟦ half k x ⟧ ∗ ⟦ J ⟧ ∗ ⟦ Gone id told ⟧ in
      qed 𝓛 (‵ J ∷ ‵ (half id v) ∷ ‵ (half k x) ∷ []) ∵ move ! (1 ∷ 2 ∷ []) $ use2 𝓛 (given (k ≢ id) (‵ (half id v) ⊛ ‵ (half k x))) (apart 𝓛 cv γ id k v x) $ learn ! (λ two. split ! $
      move ! (2 ∷ []) $ fpick ! (λ s. fsplit3 ! $ move ! (2 ∷ []) $ fpick ! (λ fits. drop ! $ move ! (1 ∷ []) $ fsplit ! $
      -- [the slots; the views; the words; the caller's seat; the second one]
      move ! (1 ∷ 4 ∷ []) $ use2 𝓛 (raw (upd 𝓤 (guard 𝓤 (get_elem? s.views k ≡ some x) (⟦ L s.views ⟧ ∗ ⟦ half k x ⟧)))) (seen_at s.views k x) $
      settle 𝓛 Z (given (get_elem? s.views k ≡ some x) (‵ (L s.views) ⊛ ‵ (half k x))) $ learn ! (λ there. split ! $
      -- [the views; the second seat; the slots; the words; the caller's seat]
      move ! (0 ∷ 4 ∷ []) $ use2 𝓛 (raw (upd 𝓤 (guard 𝓤 (get_elem? s.views id ≡ some v) (⟦ L s.views ⟧ ∗ ⟦ half id v ⟧)))) (seen_at s.views id v) $
      settle 𝓛 Z (given (get_elem? s.views id ≡ some v) (‵ (L s.views) ⊛ ‵ (half id v))) $ learn ! (λ here. split ! $
      let r = law s fits.0 here two there in let u : V = r.0 in let us : List V = set s.views id u in
      use2 𝓛 (raw (upd 𝓤 (⟦ L us ⟧ ∗ ⟦ half id u ⟧))) (moved_to s.views id v u) $ settle 𝓛 Z (‵ (L us) ⊛ ‵ (half id u)) $ split ! $ suffices ! _ (upd_i 𝓤 Z) $
      -- [the views; the caller's seat; the second one; the slots; the words]
      move ! (4 ∷ 3 ∷ 0 ∷ []) $ use3 𝓛 (‵ J) (shut s us (r.1, fits.1, fits.2)) $ move ! (1 ∷ []) $
      nothing ! $ fpack ! (told u) (λ _. ftrue) r.2 $ fjoin ! $ fpack ! V (λ t. fsep (fex (told t) (λ _. ftrue)) (half id t)) u $ move ! (2 ∷ 1 ∷ 0 ∷ []) $ done !)))))

  -- the rule tells something of two seats, which stay
  pub compares : (id : ℕ) (v : V) (k : ℕ) (x : V) (told : Type 0) → TellsOfBoth holds id v k x told
      → ⟦ J ⟧ ∗ ⟦ half id v ⟧ ∗ ⟦ half k x ⟧ ⊢ upd 𝓤 (guard 𝓤 told (⟦ J ⟧ ∗ ⟦ half id v ⟧ ∗ ⟦ half k x ⟧))
  compares id v k x told law = let Z : Pr = guard 𝓤 told (⟦ J ⟧ ∗ ⟦ half id v ⟧ ∗ ⟦ half k x ⟧) in
      qed 𝓛 (‵ J ∷ ‵ (half id v) ∷ ‵ (half k x) ∷ []) ∵ move ! (1 ∷ 2 ∷ []) $ use2 𝓛 (given (k ≢ id) (‵ (half id v) ⊛ ‵ (half k x))) (apart 𝓛 cv γ id k v x) $ learn ! (λ two. split ! $
      move ! (2 ∷ []) $ fpick ! (λ s. fsplit3 ! $ move ! (2 ∷ []) $ fpick ! (λ fits. drop ! $ move ! (1 ∷ []) $ fsplit ! $
      -- [the slots; the views; the words; the first seat; the second one]
      move ! (1 ∷ 4 ∷ []) $ use2 𝓛 (raw (upd 𝓤 (guard 𝓤 (get_elem? s.views k ≡ some x) (⟦ L s.views ⟧ ∗ ⟦ half k x ⟧)))) (seen_at s.views k x) $
      settle 𝓛 Z (given (get_elem? s.views k ≡ some x) (‵ (L s.views) ⊛ ‵ (half k x))) $ learn ! (λ there. split ! $
      -- [the views; the second seat; the slots; the words; the first seat]
      move ! (0 ∷ 4 ∷ []) $ use2 𝓛 (raw (upd 𝓤 (guard 𝓤 (get_elem? s.views id ≡ some v) (⟦ L s.views ⟧ ∗ ⟦ half id v ⟧)))) (seen_at s.views id v) $
      settle 𝓛 Z (given (get_elem? s.views id ≡ some v) (‵ (L s.views) ⊛ ‵ (half id v))) $ learn ! (λ here. split ! $ suffices ! _ (upd_i 𝓤 Z) $ check ! (law s fits.0 here two there) $
      -- [the views; the first seat; the second one; the slots; the words]
      move ! (4 ∷ 3 ∷ 0 ∷ []) $ use3 𝓛 (‵ J) (shut s s.views fits) $ done !)))))

  -- the caller's seat moves alone
  pub moves_alone : (id : ℕ) (v : V) (told : V → Type 0) → PermitsAlone holds id v told → ⟦ J ⟧ ∗ ⟦ half id v ⟧ ⊢ upd 𝓤 (⟦ J ⟧ ∗ ⟦ Gone id told ⟧)
  moves_alone id v told law = let Z : Pr = ⟦ J ⟧ ∗ ⟦ Gone id told ⟧ in
      qed 𝓛 (‵ J ∷ ‵ (half id v) ∷ []) ∵ fpick ! (λ s. fsplit3 ! $ move ! (2 ∷ []) $ fpick ! (λ fits. drop ! $ move ! (1 ∷ []) $ fsplit ! $
      -- [the slots; the views; the words; the caller's seat]
      move ! (1 ∷ 3 ∷ []) $ use2 𝓛 (raw (upd 𝓤 (guard 𝓤 (get_elem? s.views id ≡ some v) (⟦ L s.views ⟧ ∗ ⟦ half id v ⟧)))) (seen_at s.views id v) $
      settle 𝓛 Z (given (get_elem? s.views id ≡ some v) (‵ (L s.views) ⊛ ‵ (half id v))) $ learn ! (λ here. split ! $
      let r = law s fits.0 here in let u : V = r.0 in let us : List V = set s.views id u in
      use2 𝓛 (raw (upd 𝓤 (⟦ L us ⟧ ∗ ⟦ half id u ⟧))) (moved_to s.views id v u) $ settle 𝓛 Z (‵ (L us) ⊛ ‵ (half id u)) $ split ! $ suffices ! _ (upd_i 𝓤 Z) $
      -- [the views; the caller's seat; the slots; the words]
      move ! (3 ∷ 2 ∷ 0 ∷ []) $ use3 𝓛 (‵ J) (shut s us (r.1, fits.1, fits.2)) $ move ! (1 ∷ []) $
      nothing ! $ fpack ! (told u) (λ _. ftrue) r.2 $ fjoin ! $ fpack ! V (λ t. fsep (fex (told t) (λ _. ftrue)) (half id t)) u $ move ! (1 ∷ 0 ∷ []) $ done !)))

  -- the caller's seat and two more move
  pub trades : (id : ℕ) (v : V) (k : ℕ) (x x' : V) (j : ℕ) (y y' : V) (told : V → Type 0) → PermitsTrade holds id v k x x' j y y' told
      → ⟦ J ⟧ ∗ ⟦ half id v ⟧ ∗ ⟦ half k x ⟧ ∗ ⟦ half j y ⟧ ⊢ upd 𝓤 (⟦ half k x' ⟧ ∗ ⟦ half j y' ⟧ ∗ ⟦ J ⟧ ∗ ⟦ Gone id told ⟧)
  trades id v k x x' j y y' told law = let Z : Pr = ⟦ half k x' ⟧ ∗ ⟦ half j y' ⟧ ∗ ⟦ J ⟧ ∗ ⟦ Gone id told ⟧ in
      qed 𝓛 (‵ J ∷ ‵ (half id v) ∷ ‵ (half k x) ∷ ‵ (half j y) ∷ []) ∵
      move ! (1 ∷ 2 ∷ []) $ use2 𝓛 (given (k ≢ id) (‵ (half id v) ⊛ ‵ (half k x))) (apart 𝓛 cv γ id k v x) $ learn ! (λ k_id. split ! $
      move ! (0 ∷ 3 ∷ []) $ use2 𝓛 (given (j ≢ id) (‵ (half id v) ⊛ ‵ (half j y))) (apart 𝓛 cv γ id j v y) $ learn ! (λ j_id. split ! $
      -- [the caller's seat; the block's; the entry's; the table]
      move ! (2 ∷ 1 ∷ []) $ use2 𝓛 (given (j ≢ k) (‵ (half k x) ⊛ ‵ (half j y))) (apart 𝓛 cv γ k j x y) $ learn ! (λ j_k. split ! $
      move ! (3 ∷ []) $ fpick ! (λ s. fsplit3 ! $ move ! (2 ∷ []) $ fpick ! (λ fits. drop ! $ move ! (1 ∷ []) $ fsplit ! $
      -- [the slots; the views; the words; the entry's seat; the block's; the caller's]
      move ! (1 ∷ 3 ∷ []) $ use2 𝓛 (raw (upd 𝓤 (guard 𝓤 (get_elem? s.views k ≡ some x) (⟦ L s.views ⟧ ∗ ⟦ half k x ⟧)))) (seen_at s.views k x) $
      settle 𝓛 Z (given (get_elem? s.views k ≡ some x) (‵ (L s.views) ⊛ ‵ (half k x))) $ learn ! (λ at_k. split ! $
      -- [the views; the entry's seat; the slots; the words; the block's; the caller's]
      move ! (0 ∷ 4 ∷ []) $ use2 𝓛 (raw (upd 𝓤 (guard 𝓤 (get_elem? s.views j ≡ some y) (⟦ L s.views ⟧ ∗ ⟦ half j y ⟧)))) (seen_at s.views j y) $
      settle 𝓛 Z (given (get_elem? s.views j ≡ some y) (‵ (L s.views) ⊛ ‵ (half j y))) $ learn ! (λ at_j. split ! $
      -- [the views; the block's seat; the entry's; the slots; the words; the caller's]
      move ! (0 ∷ 5 ∷ []) $ use2 𝓛 (raw (upd 𝓤 (guard 𝓤 (get_elem? s.views id ≡ some v) (⟦ L s.views ⟧ ∗ ⟦ half id v ⟧)))) (seen_at s.views id v) $
      settle 𝓛 Z (given (get_elem? s.views id ≡ some v) (‵ (L s.views) ⊛ ‵ (half id v))) $ learn ! (λ here. split ! $
      let r = law s fits.0 here k_id j_id j_k at_k at_j in let u : V = r.0 in let us : List V = set s.views id u in let ws : List V = set us k x' in
      use2 𝓛 (raw (upd 𝓤 (⟦ L us ⟧ ∗ ⟦ half id u ⟧))) (moved_to s.views id v u) $ settle 𝓛 Z (‵ (L us) ⊛ ‵ (half id u)) $ split ! $
      -- [the views; the caller's seat; the block's; the entry's; the slots; the words]
      move ! (0 ∷ 3 ∷ []) $ use2 𝓛 (raw (upd 𝓤 (⟦ L ws ⟧ ∗ ⟦ half k x' ⟧))) (moved_to us k x x') $ settle 𝓛 Z (‵ (L ws) ⊛ ‵ (half k x')) $ split ! $
      -- [the views; the entry's seat; the caller's; the block's; the slots; the words]
      move ! (0 ∷ 3 ∷ []) $ use2 𝓛 (raw (upd 𝓤 (⟦ L (set ws j y') ⟧ ∗ ⟦ half j y' ⟧))) (moved_to ws j y y') $ settle 𝓛 Z (‵ (L (set ws j y')) ⊛ ‵ (half j y')) $ split ! $ suffices ! _ (upd_i 𝓤 Z) $
      -- [the views; the block's seat; the entry's; the caller's; the slots; the words]
      move ! (5 ∷ 4 ∷ 0 ∷ []) $ use3 𝓛 (‵ J) (shut s (set ws j y') (r.1, fits.1, fits.2)) $ move ! (3 ∷ []) $
      -- [the caller's seat; the table; the block's; the entry's]
      nothing ! $ fpack ! (told u) (λ _. ftrue) r.2 $ fjoin ! $ fpack ! V (λ t. fsep (fex (told t) (λ _. ftrue)) (half id t)) u $ move ! (3 ∷ 2 ∷ 1 ∷ 0 ∷ []) $ done !))))))))

  -- a new seat has the next number
  next : (vs : List V) (k : ℕ) (u : V) → ⟦ roster cv.code γ k vs ⟧ ⊢ upd 𝓤 (⟦ roster cv.code γ k (vs ++ u ∷ []) ⟧ ∗ ⟦ half (k + length vs) u ⟧)
  next [] k u = let Z : Pr = ⟦ roster cv.code γ k (u ∷ []) ⟧ ∗ ⟦ half (k + 0) u ⟧ in let is : k ≡ k + 0 = omega arith in qed 𝓛 (‵ (roster cv.code γ k []) ∷ []) ∵ fpick ! (λ d.
      use1 𝓛 (‵ (seen cv.code γ k full_share d) ⊛ ‵ (unused cv.code γ (suc k) d)) (entries_take halved 𝓛 γ k (λ _. (full_share, cv.code d))) $ split ! $
      use1 𝓛 (raw (upd 𝓤 (⟦ seen cv.code γ k quarter u ⟧ ∗ ⟦ half k u ⟧))) (resets 𝓛 cv γ k d u) $ settle 𝓛 Z (‵ (seen cv.code γ k quarter u) ⊛ ‵ (half k u)) $ split ! $
      rewrite ! 1 (λ (m : ℕ). ‵ (half m u)) is refl $ suffices ! _ (upd_i 𝓤 Z) $ move ! (2 ∷ []) $ fpack ! V (unused cv.code γ (suc k)) d $ move ! (1 ∷ 0 ∷ []) $ join ! $ done !)
  next (x ∷ xs) k u = let Z : Pr = ⟦ roster cv.code γ k ((x ∷ xs) ++ u ∷ []) ⟧ ∗ ⟦ half (k + length (x ∷ xs)) u ⟧ in let n : ℕ = length xs in let is : suc k + n ≡ k + suc n = omega arith in
      qed 𝓛 (‵ (seen cv.code γ k quarter x) ∷ ‵ (roster cv.code γ (suc k) xs) ∷ []) ∵ move ! (1 ∷ []) $
      use1 𝓛 (raw (upd 𝓤 (⟦ roster cv.code γ (suc k) (xs ++ u ∷ []) ⟧ ∗ ⟦ half (suc k + n) u ⟧))) (next xs (suc k) u) $ settle 𝓛 Z (‵ (roster cv.code γ (suc k) (xs ++ u ∷ [])) ⊛ ‵ (half (suc k + n) u)) $ split ! $
      rewrite ! 1 (λ (m : ℕ). ‵ (half m u)) is refl $ suffices ! _ (upd_i 𝓤 Z) $ move ! (2 ∷ 0 ∷ []) $ join ! $ done !

  -- a new seat for an entry, by a move of the caller's seat
  abbrev pub Entry : ℕ → V → (V → Type 0) → ℕ → Fml
  Entry id empty told k = fsep (half k empty) (Gone id told)

  pub enters : (id : ℕ) (v empty : V) (told : V → Type 0) → PermitsEntry holds id v empty told → ⟦ J ⟧ ∗ ⟦ half id v ⟧ ⊢ upd 𝓤 (⟦ J ⟧ ∗ ⟦ fex ℕ (Entry id empty told) ⟧)
  enters id v empty told law = let Z : Pr = ⟦ J ⟧ ∗ ⟦ fex ℕ (Entry id empty told) ⟧ in
      qed 𝓛 (‵ J ∷ ‵ (half id v) ∷ []) ∵ fpick ! (λ s. fsplit3 ! $ move ! (2 ∷ []) $ fpick ! (λ fits. drop ! $ move ! (1 ∷ []) $ fsplit ! $
      -- [the slots; the views; the words; the caller's seat]
      move ! (1 ∷ 3 ∷ []) $ use2 𝓛 (raw (upd 𝓤 (guard 𝓤 (get_elem? s.views id ≡ some v) (⟦ L s.views ⟧ ∗ ⟦ half id v ⟧)))) (seen_at s.views id v) $
      settle 𝓛 Z (given (get_elem? s.views id ≡ some v) (‵ (L s.views) ⊛ ‵ (half id v))) $ learn ! (λ here. split ! $
      let r = law s fits.0 here in let u : V = r.0 in let us : List V = set s.views id u in let k : ℕ = 0 + length us in
      use2 𝓛 (raw (upd 𝓤 (⟦ L us ⟧ ∗ ⟦ half id u ⟧))) (moved_to s.views id v u) $ settle 𝓛 Z (‵ (L us) ⊛ ‵ (half id u)) $ split ! $
      use1 𝓛 (raw (upd 𝓤 (⟦ L (us ++ empty ∷ []) ⟧ ∗ ⟦ half k empty ⟧))) (next us 0 empty) $ settle 𝓛 Z (‵ (L (us ++ empty ∷ [])) ⊛ ‵ (half k empty)) $ split ! $ suffices ! _ (upd_i 𝓤 Z) $
      -- [the views; the new seat; the caller's; the slots; the words]
      move ! (4 ∷ 3 ∷ 0 ∷ []) $ use3 𝓛 (‵ J) (shut s (us ++ empty ∷ []) (r.1, fits.1, fits.2)) $ move ! (2 ∷ []) $
      nothing ! $ fpack ! (told u) (λ _. ftrue) r.2 $ fjoin ! $ fpack ! V (λ t. fsep (fex (told t) (λ _. ftrue)) (half id t)) u $ move ! (2 ∷ 0 ∷ []) $ fjoin ! $ fpack ! ℕ (Entry id empty told) k $ move ! (1 ∷ 0 ∷ []) $ done !)))

  module _ (shows : Stage → V) (floor : ℕ) where
    -- the seats of n new cells, of which the first has the number k
    abbrev pub Row : ℕ → ℕ → Fml
    Row k n = seats (row_of (tie_at cv.code shows z floor k) n)

    -- n new seats have the next numbers, in a row
    adds : (n : ℕ) (vs : List V) → ⟦ L vs ⟧ ⊢ upd 𝓤 (⟦ L (vs ++ replicate n (shows Idle)) ⟧ ∗ ⟦ Row (length vs) n ⟧)
    adds zero vs = let Z : Pr = ⟦ L (vs ++ []) ⟧ ∗ ⟦ ftrue ⟧ in qed 𝓛 (‵ (L vs) ∷ []) ∵ suffices ! _ (upd_i 𝓤 Z) $ rewrite ! 0 (λ (us : List V). ‵ (L us)) (sym (append-nil vs)) refl $ nothing ! $ move ! (1 ∷ 0 ∷ []) $ done !
    adds (suc n) vs = let x : V = shows Idle in let us : List V = vs ++ x ∷ [] in let rest : List V = replicate n x in let e : length us ≡ length vs + 1 = length-append vs (x ∷ []) in
        let Z : Pr = ⟦ L (vs ++ x ∷ rest) ⟧ ∗ ⟦ Row (length vs) (suc n) ⟧ in qed 𝓛 (‵ (L vs) ∷ []) ∵
        use1 𝓛 (raw (upd 𝓤 (⟦ L us ⟧ ∗ ⟦ half (0 + length vs) x ⟧))) (next vs 0 x) $ settle 𝓛 Z (‵ (L us) ⊛ ‵ (half (0 + length vs) x)) $ split ! $ rewrite ! 1 (λ (m : ℕ). ‵ (half m x)) (zero-add (length vs)) refl $
        use1 𝓛 (raw (upd 𝓤 (⟦ L (us ++ rest) ⟧ ∗ ⟦ Row (length us) n ⟧))) (adds n us) $ settle 𝓛 Z (‵ (L (us ++ rest)) ⊛ ‵ (Row (length us) n)) $ split ! $
        -- [the views; the other seats; the first one]
        rewrite ! 0 (λ (ws : List V). ‵ (L ws)) (append_assoc vs (x ∷ []) rest) refl $ rewrite ! 1 (λ (m : ℕ). ‵ (Row m n)) e refl $
        suffices ! _ (upd_i 𝓤 Z) $ move ! (2 ∷ 1 ∷ []) $ fjoin ! $ move ! (1 ∷ 0 ∷ []) $ done !

    -- n new seats for cells that nobody has begun, and one behind them, whose number is k + n
    abbrev pub Laid : (ℕ → ℕ → V) → ℕ → ℕ → Fml
    Laid owner n k = fsep (Row k n) (half (k + n) (owner k n))

    pub lays : (owner : ℕ → ℕ → V) (n : ℕ) → PermitsRow holds shows owner n → ⟦ J ⟧ ⊢ upd 𝓤 (⟦ J ⟧ ∗ ⟦ fex ℕ (Laid owner n) ⟧)
    lays owner n law = let Z : Pr = ⟦ J ⟧ ∗ ⟦ fex ℕ (Laid owner n) ⟧ in qed 𝓛 (‵ J ∷ []) ∵ fpick ! (λ s. fsplit3 ! $ move ! (2 ∷ []) $ fpick ! (λ fits. drop ! $ move ! (1 ∷ []) $ fsplit ! $ move ! (1 ∷ []) $
        let vs : List V = s.views in let k : ℕ = length vs in let x : V = shows Idle in let us : List V = vs ++ replicate n x in let u : V = owner k n in
        let long : 0 + length us ≡ k + n = zero-add (length us) ∙ length-append vs (replicate n x) ∙ (λ i. k + lib.ListN.length-replicate n x i) in
        -- [the views; the slots; the words]
        use1 𝓛 (raw (upd 𝓤 (⟦ L us ⟧ ∗ ⟦ Row k n ⟧))) (adds n vs) $ settle 𝓛 Z (‵ (L us) ⊛ ‵ (Row k n)) $ split ! $
        use1 𝓛 (raw (upd 𝓤 (⟦ L (us ++ u ∷ []) ⟧ ∗ ⟦ half (0 + length us) u ⟧))) (next us 0 u) $ settle 𝓛 Z (‵ (L (us ++ u ∷ [])) ⊛ ‵ (half (0 + length us) u)) $ split ! $
        rewrite ! 1 (λ (m : ℕ). ‵ (half m u)) long refl $ suffices ! _ (upd_i 𝓤 Z) $
        -- [the views; the last seat; the others; the slots; the words]
        move ! (4 ∷ 3 ∷ 0 ∷ []) $ use3 𝓛 (‵ J) (shut s (us ++ u ∷ []) (law s fits.0, fits.1, fits.2)) $ move ! (2 ∷ 1 ∷ []) $ fjoin ! $ fpack ! ℕ (Laid owner n) k $ move ! (1 ∷ 0 ∷ []) $ done !))

    -- the seats of n cells at the stages of their places, of which the first has the number k
    abbrev pub Staged : (ℕ → Stage) → ℕ → ℕ → ℕ → Fml
    Staged f from k n = seats_at (row_of (tie_at cv.code shows z floor k) n) (stages_from f from n)

    -- there are as many of the stages' views as cells
    staged_length : (f : ℕ → Stage) (from n : ℕ) → length (map shows (stages_from f from n)) ≡ n
    staged_length f from zero = refl
    staged_length f from (suc n) = ap suc (staged_length f (from + 1) n)

    -- n new seats have the next numbers, in a row, and show the stages
    stages : (f : ℕ → Stage) (n from : ℕ) (vs : List V) → ⟦ L vs ⟧ ⊢ upd 𝓤 (⟦ L (vs ++ map shows (stages_from f from n)) ⟧ ∗ ⟦ Staged f from (length vs) n ⟧)
    stages f zero from vs = let Z : Pr = ⟦ L (vs ++ []) ⟧ ∗ ⟦ ftrue ⟧ in qed 𝓛 (‵ (L vs) ∷ []) ∵ suffices ! _ (upd_i 𝓤 Z) $ rewrite ! 0 (λ (us : List V). ‵ (L us)) (sym (append-nil vs)) refl $ nothing ! $ move ! (1 ∷ 0 ∷ []) $ done !
    stages f (suc n) from vs = let x : V = shows (f from) in let us : List V = vs ++ x ∷ [] in let rest : List V = map shows (stages_from f (from + 1) n) in let e : length us ≡ length vs + 1 = length-append vs (x ∷ []) in
        let k : ℕ = length vs in let Z : Pr = ⟦ L (vs ++ x ∷ rest) ⟧ ∗ ⟦ Staged f from k (suc n) ⟧ in qed 𝓛 (‵ (L vs) ∷ []) ∵
        use1 𝓛 (raw (upd 𝓤 (⟦ L us ⟧ ∗ ⟦ half (0 + k) x ⟧))) (next vs 0 x) $ settle 𝓛 Z (‵ (L us) ⊛ ‵ (half (0 + k) x)) $ split ! $ rewrite ! 1 (λ (m : ℕ). ‵ (half m x)) (zero-add k) refl $
        use1 𝓛 (raw (upd 𝓤 (⟦ L (us ++ rest) ⟧ ∗ ⟦ Staged f (from + 1) (length us) n ⟧))) (stages f n (from + 1) us) $ settle 𝓛 Z (‵ (L (us ++ rest)) ⊛ ‵ (Staged f (from + 1) (length us) n)) $ split ! $
        -- [the views; the other seats; the first one]
        rewrite ! 0 (λ (ws : List V). ‵ (L ws)) (append_assoc vs (x ∷ []) rest) refl $ rewrite ! 1 (λ (m : ℕ). ‵ (Staged f (from + 1) m n)) e refl $
        rewrite ! 2 (λ (g : Gv). ‵ (seen (λ (h : Gv). h) γ k three_quarters g)) (sym (codes_at cv.code shows z floor k (f from))) refl $
        suffices ! _ (upd_i 𝓤 Z) $ move ! (2 ∷ 1 ∷ []) $ fjoin ! $ move ! (1 ∷ 0 ∷ []) $ done !

    -- n new seats for cells at the stages of their places, and one behind them, whose number is k + n, by a move of the caller's seat
    abbrev pub Adopted : (ℕ → Stage) → ℕ → ℕ → ℕ → V → (V → Type 0) → ℕ → Fml
    Adopted f from n id x told k = fsep (Staged f from k n) (fsep (half (k + n) x) (Gone id told))

    pub adopts : (f : ℕ → Stage) (from n id : ℕ) (v x : V) (told : V → Type 0) → PermitsAdoption holds id v shows (stages_from f from n) x told
        → ⟦ J ⟧ ∗ ⟦ half id v ⟧ ⊢ upd 𝓤 (⟦ J ⟧ ∗ ⟦ fex ℕ (Adopted f from n id x told) ⟧)
    adopts f from n id v x told law = let Z : Pr = ⟦ J ⟧ ∗ ⟦ fex ℕ (Adopted f from n id x told) ⟧ in let ss : List Stage = stages_from f from n in
        qed 𝓛 (‵ J ∷ ‵ (half id v) ∷ []) ∵ fpick ! (λ s. fsplit3 ! $ move ! (2 ∷ []) $ fpick ! (λ fits. drop ! $ move ! (1 ∷ []) $ fsplit ! $
        -- [the slots; the views; the words; the caller's seat]
        move ! (1 ∷ 3 ∷ []) $ use2 𝓛 (raw (upd 𝓤 (guard 𝓤 (get_elem? s.views id ≡ some v) (⟦ L s.views ⟧ ∗ ⟦ half id v ⟧)))) (seen_at s.views id v) $
        settle 𝓛 Z (given (get_elem? s.views id ≡ some v) (‵ (L s.views) ⊛ ‵ (half id v))) $ learn ! (λ here. split ! $
        let r = law s fits.0 here in let u : V = r.0 in let us : List V = set s.views id u in let k : ℕ = length us in let ws : List V = us ++ map shows ss in
        let long : 0 + length ws ≡ k + n = zero-add (length ws) ∙ length-append us (map shows ss) ∙ (λ i. k + staged_length f from n i) in
        use2 𝓛 (raw (upd 𝓤 (⟦ L us ⟧ ∗ ⟦ half id u ⟧))) (moved_to s.views id v u) $ settle 𝓛 Z (‵ (L us) ⊛ ‵ (half id u)) $ split ! $
        use1 𝓛 (raw (upd 𝓤 (⟦ L ws ⟧ ∗ ⟦ Staged f from k n ⟧))) (stages f n from us) $ settle 𝓛 Z (‵ (L ws) ⊛ ‵ (Staged f from k n)) $ split ! $
        -- [the views; the cells' seats; the caller's; the slots; the words]
        use1 𝓛 (raw (upd 𝓤 (⟦ L (ws ++ x ∷ []) ⟧ ∗ ⟦ half (0 + length ws) x ⟧))) (next ws 0 x) $ settle 𝓛 Z (‵ (L (ws ++ x ∷ [])) ⊛ ‵ (half (0 + length ws) x)) $ split ! $
        rewrite ! 1 (λ (m : ℕ). ‵ (half m x)) long refl $ suffices ! _ (upd_i 𝓤 Z) $
        -- [the views; the last seat; the cells' seats; the caller's; the slots; the words]
        move ! (5 ∷ 4 ∷ 0 ∷ []) $ use3 𝓛 (‵ J) (shut s (ws ++ x ∷ []) (r.1, fits.1, fits.2)) $ move ! (3 ∷ []) $
        -- [the caller's seat; the table; the last seat; the cells' seats]
        nothing ! $ fpack ! (told u) (λ _. ftrue) r.2 $ fjoin ! $ fpack ! V (λ t. fsep (fex (told t) (λ _. ftrue)) (half id t)) u $ move ! (2 ∷ 0 ∷ []) $ fjoin ! $ move ! (2 ∷ 0 ∷ []) $ fjoin ! $
        fpack ! ℕ (Adopted f from n id x told) k $ move ! (1 ∷ 0 ∷ []) $ done !)))
