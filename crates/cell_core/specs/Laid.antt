-- What a block of raw cells owns and lends: a row of words, which hold the states of sixteen cells each, and a row of
-- rooms.
use Rattle.tie_core.specs.Tie.{Tie, Stage, fixed_at}
use Rattle.std.specs.Prelude.{◌≡◌, ◌≢◌, Option, Bool, false, ℕ, zero, suc, ◌+◌, ◌-◌, ◌*◌, ◌/◌, ◌%◌, ◌^◌, ◌<◌, ◌≤◌, List, [], ◌∷◌, ◌++◌, length, take, drop, slice_set}
use base.Stored.{Coded, coded×, coded_ℕ, coded_via}
use base.Fml.{Lft, Fml, ftrue, fsep, fex, froom}
use mir.Syntax.{Ty, w64, ty_int, ty_array}
use mir.Raw.{raw}
use denote.RattleType.{RattleType}
use denote.Memory.{lone}
use denote.Sharing.{said, beside, nothing}
use denote.RawPtr.{Ptr, coded_ptr, block_ptr, block_of, count_of, InBlock}
use Rattle.cell_core.specs.Fields.{pack}
use Rattle.cell_core.specs.Slot.{Names, IsPlain, ArePlain, AreTied, cell_in, Rest, fact, word, place, resting, state, step, shared_at}

-- a row that lies at the first pointer has the second for its link, which is into memory
abbrev pub IsLinked : Ptr → Ptr → Type 0
IsLinked at link = (at ≡ link) × (link ≡ block_ptr (block_of link) (count_of link))

-- the cell is not tied, if cells of this kind are not
pub record IsOfKind (tied : Bool) (γ : Names) : Type 0 where
  pub plain : tied ≡ false → IsPlain γ

-- the same of each of some cells
pub record AreOfKind (tied : Bool) (γs : List Names) : Type 0 where
  pub plain : tied ≡ false → (i : ℕ) → IsPlain (cell_in γs i)

-- the new cells are the old ones, and n more, which are not tied
abbrev pub HasMore : List Names → ℕ → List Names → Type 0
HasMore old n new = (γs : List Names) × (length γs ≡ n) × (new ≡ old ++ γs) × ArePlain γs

-- the same, and they have the first n of some ties
abbrev pub HasMoreTied : List Names → ℕ → List Names → List (Option Tie) → Type 0
HasMoreTied old n new τs = (γs : List Names) × (length γs ≡ n) × (new ≡ old ++ γs) × AreTied (take n τs) γs

-- a cell that has none of the names of the other, and is not tied if the other is not
abbrev pub IsAnother : Names → Names → Type 0
IsAnother old new =
    (new.value_name ≢ old.value_name) × (new.broken_name ≢ old.broken_name) × (IsPlain old → IsPlain new)

-- the cell at the index has fresh names, and each other cell keeps its names
abbrev pub HasOneRenamed : List Names → ℕ → List Names → Type 0
HasOneRenamed old i new = (n : Names) × IsAnother (cell_in old i) n × (new ≡ slice_set old i n)

-- the cell at the index keeps its tie, fixed at a stage, and has no seat
abbrev pub IsFixedAt : List Names → ℕ → List Names → Stage → Type 0
IsFixedAt old i new s = (cell_in new i).tied ≡ fixed_at (cell_in old i).tied s

-- each cell has fresh names
abbrev pub HasEachRenamed : List Names → List Names → Type 0
HasEachRenamed old new = (i : ℕ) → i < length old → IsAnother (cell_in old i) (cell_in new i)

-- how many cells have their states in one word
abbrev pub word_cells : ℕ
word_cells = 16

-- the addresses of the two rows, the number of words that are laid, and how many more words and cells there is room for
pub record Extent : Type 0 where
  pub at : Ptr
  pub rooms : Ptr
  pub words : ℕ
  pub more : ℕ
  pub left : ℕ

-- how that is stored
abbrev pub extent_coded : Coded Extent
extent_coded =
    coded_via (coded× coded_ptr (coded× coded_ptr (coded× coded_ℕ (coded× coded_ℕ coded_ℕ))))
    (λ (x : Extent). (x.at, (x.rooms, (x.words, (x.more, x.left)))))
    (λ x y e i. record {
      at = (e i).0;
      rooms = (e i).1.0;
      words = (e i).1.1.0;
      more = (e i).1.1.1.0;
      left = (e i).1.1.1.1;
    })

-- the rows are laid for n cells, and for no more
pub record IsWhole (x : Extent) (n : ℕ) : Type 0 where
  pub words : x.words ≡ (n + 15) / word_cells
  pub more : x.more ≡ 0
  pub left : x.left ≡ 0

-- the cell at the index has its state in this word, and `keep` clears no other bit of the word
abbrev pub IsFieldOf : List Names → ℕ → ℕ → ℕ → Type 0
IsFieldOf cells index word keep =
    (index < length cells) × (word ≡ index / word_cells) × (keep ≡ 2 ^ 64 - 1 - 15 * 16 ^ (index % word_cells))

-- the type of the memory of k words
abbrev pub words_ty : ℕ → Ty
words_ty k = raw (ty_array (ty_int w64) k)

module _ (R : RattleType) where
  -- the type of the memory of n rooms
  abbrev pub rooms_ty : ℕ → Ty
  rooms_ty n = raw (ty_array (lone R.mir) n)

  -- n rooms fit in the address space: they take fewer than 2^63 bytes
  abbrev pub FitsMemory : ℕ → Type 0
  FitsMemory n = n * step R < 2 ^ 63

  -- a row of room, and the right to free it
  abbrev pub rooms_owned : (Ty → Ptr → Fml) → Ptr → ℕ → Fml
  rooms_owned token p n =
      fsep (fact (InBlock p × FitsMemory n))
      (fsep (froom (ty_array (raw (lone R.mir)) n) (block_of p) (count_of p)) (token (rooms_ty n) p))

  -- what lies in the room at (c, e), with the names of the cell
  abbrev pub lying : ℕ → ℕ → Names → Rest R.Denot → Fml
  lying c e γ u = fsep (place R u.0 c e) (resting R γ u)

  -- the same of some cells, whose rooms begin at (c, e)
  abbrev pub rests : List Names → ℕ → ℕ → (ℕ → Rest R.Denot) → Fml
  rests [] c e s = ftrue
  rests (γ ∷ γs) c e s = fsep (lying c e γ (s 0)) (rests γs c (e + step R) (λ i. s (suc i)))

  -- cells that no thread shares, whose states lie in the word at (b, o), and whose rooms begin at (c, e)
  abbrev pub still : List Names → ℕ → ℕ → ℕ → ℕ → Fml
  still γs b o c e = fex (ℕ → Rest R.Denot) (λ s. fsep (word b o (pack γs (λ i. state (s i).1))) (rests γs c e s))

  -- the same of each of k words of a row
  abbrev pub along : ℕ → List Names → ℕ → ℕ → ℕ → ℕ → Fml
  along zero γs b o c e = ftrue
  along (suc k) γs b o c e =
      fsep (still (take word_cells γs) b o c e) (along k (drop word_cells γs) b (o + 8) c (e + word_cells * step R))

  -- a `&` to the cells of each word
  abbrev pub along_lent : ℕ → List Names → ℕ → ℕ → ℕ → ℕ → Lft → Fml
  along_lent zero γs b o c e = nothing
  along_lent (suc k) γs b o c e =
      beside (shared_at R (take word_cells γs) b o c e)
      (along_lent k (drop word_cells γs) b (o + 8) c (e + word_cells * step R))

  -- both rows are in memory and fit there, and each cell has its state in a word
  abbrev pub Lies : Extent → ℕ → Type 0
  Lies x n =
      InBlock x.at × InBlock x.rooms × ((x.words + x.more) * 8 < 2 ^ 63) × FitsMemory (n + x.left)
      × (n ≤ x.words * word_cells)

  -- cells in their rows, with room for more, and the right to free both rows
  abbrev pub laid : (Ty → Ptr → Fml) → Extent → List Names → Fml
  laid token x γs =
      fsep (fact (Lies x (length γs)))
      (fsep (along x.words γs (block_of x.at) (count_of x.at) (block_of x.rooms) (count_of x.rooms))
      (fsep
      (fsep (froom (ty_array (ty_int w64) x.more) (block_of x.at) (x.words * 8 + count_of x.at))
      (froom (ty_array (raw (lone R.mir)) x.left) (block_of x.rooms) (length γs * step R + count_of x.rooms)))
      (fsep (token (words_ty (x.words + x.more)) x.at) (token (rooms_ty (length γs + x.left)) x.rooms))))

  -- what a `&` to the rows holds
  abbrev pub laid_lent : Extent → List Names → Lft → Fml
  laid_lent x γs =
      beside (said (fact (Lies x (length γs))))
      (along_lent x.words γs (block_of x.at) (count_of x.at) (block_of x.rooms) (count_of x.rooms))
