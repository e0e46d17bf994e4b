-- What a desk and a tag own: the right to name the invariant of a table, and that a tie shows stages by views.
use Rattle.std.specs.Prelude.{◌≡◌, ℕ, Option, Some, None, List, [], ◌∷◌}
use base.Share.{three_quarters}
use base.Stored.{Gv}
use base.Fml.{Fml, ftrue, fsep, fex, fbor, fnamed}
use denote.RattleType.{RattleType}
use denote.RawPtr.{Ptr}
use Rattle.atomic_table.specs.Table.{State}
use Rattle.atomic_table.specs.Seated.{TableId, age, place, inner, seen, seal}
use Rattle.tie_core.specs.Tie.{Tie, Stage, Idle, Begun, Mending, Filled, Broken, Made, code_at, tie_numbered}

-- what the invariant of a table holds, whose words are at the pointer
abbrev pub content : (R : RattleType) {V : Type 0} → (V → Gv) → (State R.Denot V → Type 0) → Ptr → TableId → Fml
content R c holds w z = inner R c holds w (place z) z

-- the invariant of the table has the number j
abbrev pub desk_owns : (R : RattleType) {V : Type 0} → (V → Gv) → (State R.Denot V → Type 0) → Ptr → TableId → ℕ → Fml
desk_owns R {V} c holds w z j =
    seal (State R.Denot V → Type 0) holds (λ h. fnamed j (fbor (age z) (content R c h w z)))

-- the codes of a tie are those of the views that show the stages
abbrev pub HasCodes : {V : Type 0} → (V → Gv) → (Stage → V) → Tie → Type 0
HasCodes c shows t = (s : Stage) → code_at t s ≡ c (shows s)

-- the tie of the seat k, whose codes are those of the views
abbrev pub tie_at : {V : Type 0} → (V → Gv) → (Stage → V) → TableId → ℕ → ℕ → Tie
tie_at c shows z floor k = record {
  views = z.views_name;
  id = k;
  floor = floor;
  idle = c (shows Idle);
  begun = c (shows Begun);
  mending = c (shows Mending);
  filled = c (shows Filled);
  broken = c (shows Broken);
  fixed = None;
}

-- the same, as a formula
abbrev pub tagged : {V : Type 0} → (V → Gv) → (Stage → V) → Tie → Fml
tagged c shows t = fex (HasCodes c shows t) (λ _. ftrue)

-- the tie is of a seat of this table, whose invariant has this number
pub record IsTieOf (z : TableId) (number : ℕ) (t : Tie) : Type 0 where
  pub views : t.views ≡ z.views_name
  pub floor : t.floor ≡ number
  pub free : t.fixed ≡ None

-- if both ties are of seats of one table, they differ in the numbers of the seats alone
abbrev pub AreAlike : Tie → Tie → Type 0
AreAlike a b =
    (z : TableId) (number k : ℕ) → IsTieOf z number a → IsTieOf z number b → tie_numbered a k ≡ tie_numbered b k

-- the tie is fixed at a stage, and of a table whose invariant has this number
pub record IsFixedTie (number : ℕ) (a : Stage) (t : Tie) : Type 0 where
  pub floor : t.floor ≡ number
  pub fixed : t.fixed ≡ Some a

-- what a caller gains once its seat has moved along: the seat, at a view of which `told` holds
abbrev pub gone : {V : Type 0} → (V → Gv) → TableId → ℕ → (V → Type 0) → Fml
gone {V} c z id told = fex V (λ u. fsep (fex (told u) (λ _. ftrue)) (seen c z.views_name id three_quarters u))

-- the seat is back, and what the step told holds of its view
abbrev pub IsBack : {V : Type 0} → (Stage → Stage → V → Type 0) → Option Made → List V → Type 0
IsBack then None views = ⊥
IsBack {V} then (Some m) views = (u : V) × (views ≡ u ∷ []) × then m.0 m.1 u
