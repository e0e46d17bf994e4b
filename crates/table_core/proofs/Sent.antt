-- What an entry holds, and what a sight knows, says the same to every thread.
use Rattle.std.proofs.Common.{ℕ, ◌+◌}
use base.Fml.{Lft}
use base.Shift.{Keyless}
use denote.RattleType.{RattleType}
use denote.RawPtr.{Ptr, block_ptr, null_ptr}
use denote.Param.Send.{IsSend, IsSync, sendable, struct_send, recorded_send}
use denote.Struct.Owning
use denote.Struct.Struct
use denote.Struct.Declared.{shape}
use Rattle.core.specs.Sync.Atomic.Pointer.{atomic_ptr_holding}
use Rattle.core.proofs.atomic.Sent.{chain-Keyless}
use Rattle.core.proofs.atomic.ptr.AtomicPtr.TheSendSync as atomic
use Rattle.std.proofs.alloc.Global.TheSendSync as heap
use Rattle.std.specs.declared.option.Option.{Option}
use Rattle.std.specs.declared.option.Option.TheVariants.{None, Some}
use Rattle.std.specs.declared.alloc.Global.{Global}
use Rattle.tie_core.specs.Visit.{EntryTie, Content, entry_seat}
use Rattle.once_cell.proofs.Sent.{kept_keyless, shown_keyless}
use Rattle.table_core.specs.Entry.{EntryView, Cast, length_of, name_of, tie_of, mould_in, seen_as, noted, Fit}
use Rattle.table_core.specs.TiedEntry.{tied_kept, tied_shown}
use Rattle.table_core.specs.declared.entry.steps.Measured.{Ghosts}
use Rattle.table_core.specs.contracts.entry.steps.Entry as Entry
use Rattle.table_core.specs.contracts.entry.steps.Entry.TheInside as inside
use Rattle.table_core.specs.contracts.entry.steps.EntrySight as EntrySight

-- a block of the length goes where a block goes
fit_send : (R : RattleType) {N : Type 0} (measure : R.Denot → N) (n : N) → IsSend R → IsSend (Fit R measure n)
fit_send R measure n s = record { owned = λ x vs. (s.owned x vs, λ _. tt); leaving = λ k d w. tt }

fit_sync : (R : RattleType) {N : Type 0} (measure : R.Denot → N) (n : N) → IsSync R → IsSync (Fit R measure n)
fit_sync R measure n y = record { shared = λ x b o κ. (y.shared x b o κ, λ _. tt) }

fields_send : (R : RattleType) (g : Ghosts R.Denot) → IsSend (inside.the_row R g)
fields_send R g = recorded_send (inside.the_field R g).row _ _ (inside.the_type R g).to_one (struct_send (shape (inside.the_type R g)) (atomic.the_field_send R, (heap.the_field_send, tt)))

-- a seat says the same to every thread
entry_keyless : (τ : Option EntryTie) (v : Content) → Keyless (entry_seat τ v)
unfolding types.Keyed.entry
entry_keyless None v = tt
entry_keyless (Some t) None = tt
entry_keyless (Some t) (Some k) = tt

-- what an entry keeps goes where its blocks go
tied_kept_keyless : (F : RattleType) → IsSend F → (number : F.Denot → ℕ) (a : Global) (γ : ℕ) (τ : Option EntryTie) (p : Ptr) → Keyless (tied_kept F number a γ τ p)
tied_kept_keyless F s number a γ τ null_ptr = (kept_keyless F s a γ null_ptr, entry_keyless τ None)
tied_kept_keyless F s number a γ τ (block_ptr b o) = ((kept_keyless F s a γ (block_ptr b o)).0, λ t. ((kept_keyless F s a γ (block_ptr b o)).1 t, entry_keyless τ (Some (number t.0))))

tied_shown_keyless : (F : RattleType) → IsSend F → IsSync F → (number : F.Denot → ℕ) (a : Global) (γ : ℕ) (τ : Option EntryTie) (α : Lft) (p : Ptr) → Keyless (tied_shown F number a γ τ α p)
tied_shown_keyless F s y number a γ τ α null_ptr = (shown_keyless F s y a γ α null_ptr, entry_keyless τ None)
tied_shown_keyless F s y number a γ τ α (block_ptr b o) = ((shown_keyless F s y a γ α (block_ptr b o)).0, λ t. ((shown_keyless F s y a γ α (block_ptr b o)).1 t, entry_keyless τ (Some (number t.0))))

-- the blocks of an entry go where blocks go
cast_send : (R : RattleType) (g : Ghosts R.Denot) (e : EntryView) → IsSend R → IsSend (Cast R g.measure g.mould e)
cast_send R g e s = fit_send R (seen_as g.measure g.mould e.3) (length_of e, mould_in e.3) s

cast_sync : (R : RattleType) (g : Ghosts R.Denot) (e : EntryView) → IsSync R → IsSync (Cast R g.measure g.mould e)
cast_sync R g e y = fit_sync R (seen_as g.measure g.mould e.3) (length_of e, mould_in e.3) y

pub entry_send : (R : RattleType) (g : Ghosts R.Denot) → IsSend R → IsSend (Entry.the_row R g)
entry_send R g s = record {
  owned = λ e vs. ((λ _. tt), λ p. ((fields_send R g).owned (record { word = atomic_ptr_holding p; alloc = e.0 }) vs, tied_kept_keyless (Cast R g.measure g.mould e) (cast_send R g e s) g.seat e.0 (name_of e) (tie_of e) p));
  leaving = λ k d w. tt;
}

pub entry_sync : (R : RattleType) (g : Ghosts R.Denot) → IsSend R → IsSync R → IsSync (Entry.the_row R g)
entry_sync R g s y = record {
  shared = λ e b o κ. (
    (λ α. ((λ νs. chain-Keyless νs κ α), λ n. ((λ _. tt), λ p. (tt, tied_shown_keyless (Cast R g.measure g.mould e) (cast_send R g e s) (cast_sync R g e y) g.seat e.0 (name_of e) (tie_of e) α p)))),
    (atomic.the_sync R).shared (atomic_ptr_holding null_ptr) b (o + 0) κ,
  );
}

noted_keyless : (R : RattleType) (γ : ℕ) (k : Option R.Denot) → Keyless (noted R γ k)
noted_keyless R γ None = tt
noted_keyless R γ (Some x) = tt

pub sight_send : (R : RattleType) → IsSend (EntrySight.the_row R)
sight_send R = record { owned = λ d vs. ((λ vss. (tt, ((λ uss. (tt, tt)), tt))), noted_keyless R d.of d.known); leaving = λ k f vs. tt }

pub sight_sync : (R : RattleType) → IsSync (EntrySight.the_row R)
sight_sync R = let fields : IsSync (denote.Struct.Struct.Struct (denote.Struct.Owning.shape (EntrySight.the_type R))) = search sendable depth 20 in
    record { shared = λ d b o κ. (fields.shared (tt, tt) b o κ, noted_keyless R d.of d.known) }
