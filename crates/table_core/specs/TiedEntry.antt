-- What an entry owns, and what a `&` to it holds: what a `OnceBox` does, with the seat that shows whether a block is
-- published there, if the entry is tied. Each block says the number of its seat.
use Rattle.std.specs.Prelude.{ℕ, ◌+◌, ◌<◌}
use base.Fml.{Lft, Share, Fml, ftrue, ffalse, fsep, fex, fbor, fnamed}
use denote.RattleType.{RattleType}
use denote.Memory.{shared_of}
use denote.RawPtr.{Ptr, block_ptr, null_ptr}
use denote.Sharing.{said, beside, some, ends}
use Rattle.core.specs.Sync.Atomic.Pointer.{atomic_ptr_holding}
use Rattle.core.specs.Sync.RawAtomic.Pointer.{cell}
use Rattle.core.specs.contracts.atomic.ptr.AtomicPtr.{the_row}
use Rattle.std.specs.declared.option.Option.{Option}
use Rattle.std.specs.declared.option.Option.TheVariants.{None, Some}
use Rattle.std.specs.declared.alloc.Global.{Global}
use Rattle.once_cell.specs.Once.{pending, settled, testable, resting, lent}
use Rattle.table_core.specs.Entry.{EntryView, Mould, Cast, name_of, tie_of}
use Rattle.tie_core.specs.Visit.{EntryTie, entry_seat, entry_floor}

-- a number above another one, of an invariant
abbrev pub past : ℕ → Fml → Fml
past m P = fex ℕ (λ n. fsep (fex (m < n) (λ _. ftrue)) (fnamed n P))

module _ (R : RattleType) (number : R.Denot → ℕ) (a : Global) (γ : ℕ) (τ : Option EntryTie) where
  -- what an entry that is owned has besides its fields: at null, the right to set its name, and its own seat
  abbrev pub tied_kept : Ptr → Fml
  tied_kept null_ptr = fsep (pending R γ) (entry_seat τ None)
  tied_kept (block_ptr b o) = fsep (testable R a (block_ptr b o))
      (fex (R.Denot × Lft) (λ s. fsep (fsep (resting R a (block_ptr b o) s) (settled R γ s.0))
      (entry_seat τ (Some (number s.0)))))

  abbrev pub tied_owned : (Ptr → Fml) → Fml
  tied_owned fields = fex Ptr (λ p. fsep (fields p) (tied_kept p))

  -- the same of an entry that is lent
  module _ (α : Lft) where
    -- a block that is shared, with its seat
    abbrev pub published : Ptr → R.Denot × ℕ × Share → Fml
    published p s = fsep (fsep (lent R a α p s) (settled R γ s.0)) (entry_seat τ (Some (number s.0)))

    abbrev pub tied_shown : Ptr → Fml
    tied_shown null_ptr = fsep (pending R γ) (entry_seat τ None)
    tied_shown (block_ptr b o) = fsep (testable R a (block_ptr b o))
        (fex (R.Denot × ℕ × Share) (published (block_ptr b o)))

    -- the word at a place, with what is shared of its block
    abbrev pub tied_at : ℕ → ℕ → Ptr → Fml
    tied_at b o p = fsep (cell b o p) (tied_shown p)

    abbrev pub Tied_held : ℕ → ℕ → Fml
    Tied_held b o = fex Ptr (tied_at b o)

  -- what a `&` to an entry holds: its invariant has a number past that of the table that it is tied to
  abbrev pub tied_shared : Ptr → Lft → Fml
  tied_shared (block_ptr b o) κ =
      beside (some Lft (λ α. beside (ends α) (said (past (entry_floor τ) (fbor α (Tied_held α b (o + 0)))))))
      (shared_of (the_row R) (atomic_ptr_holding null_ptr) b (o + 0)) κ
  tied_shared null_ptr κ = ffalse

module _ (R : RattleType) (measure : R.Denot → ℕ) (mould : R.Denot → Mould) (number : R.Denot → ℕ) where
  -- what an entry owns, besides its fields
  abbrev pub entry_owned : EntryView → (Ptr → Fml) → Fml
  entry_owned e fields = tied_owned (Cast R measure mould e) number e.0 (name_of e) (tie_of e) fields

  -- what a `&` to an entry holds
  abbrev pub entry_shared : EntryView → Ptr → Lft → Fml
  entry_shared e = tied_shared (Cast R measure mould e) number e.0 (name_of e) (tie_of e)
