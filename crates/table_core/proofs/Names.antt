-- The names of a table after one entry was replaced.
use Rattle.std.proofs.Common.{◌≡◌, ℕ, zero, suc, ◌<◌, List, [], ◌∷◌, length, map, slice_index, slice_set, get_or, refl, sym, ap, ◌∙◌, arith}
use Rattle.table_core.specs.Entry.{EntryView, name_of}

-- every other entry has the name that it had
pub names_kept : (entries : List EntryView) (k : ℕ) (e : EntryView) (j : ℕ) → (j ≡ k → ⊥)
    → slice_index (map name_of (slice_set entries k e)) j ≡ slice_index (map name_of entries) j
names_kept [] k e j other = refl
names_kept (x ∷ xs) zero e zero other = absurd (other refl)
names_kept (x ∷ xs) zero e (suc j) other = refl
names_kept (x ∷ xs) (suc k) e zero other = refl
names_kept (x ∷ xs) (suc k) e (suc j) other = names_kept xs k e j (λ same. other (ap suc same))

-- an entry that was replaced by one of another name has another name
pub renamed_there : (entries : List EntryView) (k : ℕ) (x old new : EntryView) → old ≡ get_or entries k old → k < length entries
    → (name_of new ≡ name_of old → ⊥)
    → slice_index (map name_of (slice_set (slice_set entries k x) k new)) k ≡ slice_index (map name_of entries) k → ⊥
renamed_there [] k x old new is near apart same = absurd (omega (arith, near))
renamed_there (y ∷ ys) zero x old new is near apart same = apart (same ∙ ap name_of (sym is))
renamed_there (y ∷ ys) (suc k) x old new is near apart same = renamed_there ys k x old new is (omega (arith, near)) apart same

-- an entry that was put at a place is there by its name
pub name_there : (entries : List EntryView) (k : ℕ) (e : EntryView) → k < length entries
    → slice_index (map name_of (slice_set entries k e)) k ≡ name_of e
name_there [] k e near = absurd (omega (arith, near))
name_there (x ∷ xs) zero e near = refl
name_there (x ∷ xs) (suc k) e near = name_there xs k e (omega (arith, near))
