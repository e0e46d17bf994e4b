-- A `&` to a cell may go to another thread where its value may go there and be shared. Its tokens hold names
-- alone.
use Rattle.std.proofs.Common.{Bool, true, false, eqb, ℕ, zero, suc, List, [], ◌∷◌}
use Rattle.std.specs.Prelude.{Option, Some, None}
use base.Fraction.{full_share}
use base.Fml.{Lft, GName, Fml}
use mir.Syntax.{Ty}
use base.Shift.{Keyless}
use denote.RattleType.{RattleType}
use denote.RawPtr.{Ptr, block_ptr, null_ptr}
use denote.Ref.{NamedLft}
use denote.Param.Send.{IsSend, IsSync, part_keyless, sendable}
use denote.Struct.Owning
use denote.Struct.Struct
use Rattle.core.proofs.atomic.Sent.{chain-Keyless}
use Rattle.cell_core.specs.Slot.{Names, broken_once, Phase, stage, free, begun, busy, full, broken, broken_by_owner, Turn, place, ended_or_seatless, told, tie, lent, cell, cells, kept, known, sighted, setting, right_of, gained, slot_owned, pen_owned}
use Rattle.tie_core.specs.Tie.{Tie, Stage, seat_of, seat_at}
use Rattle.cell_core.specs.Slot.{Rest, resting}
use Rattle.cell_core.specs.Laid.{Extent, rests, along, along_lent, laid, laid_lent}
use Rattle.cell_core.specs.Member.{MemberView, known_as, members}
use Rattle.cell_core.specs.contracts.slot.epoch.RawEpoch as RawEpoch
use Rattle.cell_core.specs.contracts.slot.epoch.RawEnded as RawEnded
use Rattle.cell_core.specs.contracts.slot.member.RawMember as RawMember
use Rattle.cell_core.specs.contracts.slot.member.RawRow as RawRow
use Rattle.cell_core.specs.contracts.slot.steps.RawPen as RawPen
use Rattle.cell_core.specs.contracts.slot.steps.Written as Written
use Rattle.cell_core.specs.contracts.slot.steps.RawBroken as RawBroken

seat_of_keyless : (t : Tie) (f : Option Stage) (s : Stage) → Keyless (seat_of t f s)
unfolding types.Keyed.entry
seat_of_keyless t None s = tt
seat_of_keyless t (Some a) s = λ _. tt

seat_keyless : (τ : Option Tie) (s : Stage) → Keyless (seat_at τ s)
seat_keyless None s = tt
seat_keyless (Some t) s = seat_of_keyless t t.fixed s

module _ (R : RattleType) (γ : Names) where
  ended_keyless : (by_time : Bool) → Keyless (ended_or_seatless R γ by_time)
  ended_keyless true = tt
  ended_keyless false = λ _. tt

  told_keyless : (s : Phase R.Denot) → Keyless (told R γ s)
  told_keyless free = (tt, tt)
  told_keyless begun = (tt, (λ _. tt))
  told_keyless busy = tt
  told_keyless (full x) = (tt, tt)
  told_keyless broken = (tt, (tt, tt))
  told_keyless broken_by_owner = ((tt, tt), ended_keyless)

  tie_keyless : (α : Lft) (δ : GName) (b e : ℕ) (s : Phase R.Denot) → Keyless (tie R γ α δ b e s)
  tie_keyless α δ b e free = tt
  tie_keyless α δ b e begun = tt
  tie_keyless α δ b e busy = tt
  tie_keyless α δ b e (full x) = tt
  tie_keyless α δ b e broken = tt
  tie_keyless α δ b e broken_by_owner = tt

  known_keyless : (v : Option R.Denot) → Keyless (known R γ v)
  known_keyless (Some x) = tt
  known_keyless None = tt

  sighted_keyless : (n : ℕ) (v : Option R.Denot) → Keyless (sighted R γ n v)
  sighted_keyless zero v = tt
  sighted_keyless (suc zero) v = tt
  sighted_keyless (suc (suc zero)) v = tt
  sighted_keyless (suc (suc (suc zero))) v = known_keyless v
  sighted_keyless (suc (suc (suc (suc n)))) v = tt

  broken_once_keyless : (once : Bool) → Keyless (broken_once γ.broken_name once)
  broken_once_keyless true = (tt, tt)
  broken_once_keyless false = (tt, tt)

  module _ (s : IsSend R) (y : IsSync R) where
    place_keyless : (v : Option R.Denot) (b e : ℕ) → Keyless (place R v b e)
    place_keyless None b e = tt
    place_keyless (Some x) b e = part_keyless R s full_share x b e

    lent_keyless : (α : Lft) (δ : GName) (b e : ℕ) (p : Phase R.Denot) → Keyless (lent R γ α δ b e p)
    lent_keyless α δ b e free = λ u. (place_keyless u b e, tt)
    lent_keyless α δ b e begun = tt
    lent_keyless α δ b e busy = tt
    lent_keyless α δ b e (full x) = y.shared x b e α
    lent_keyless α δ b e broken = λ u. (place_keyless u b e, tt)
    lent_keyless α δ b e broken_by_owner = λ u. (place_keyless u b e, tt)

    cell_keyless : (α : Lft) (δ : GName) (b e : ℕ) (p : Phase R.Denot) → Keyless (cell R γ α δ b e p)
    cell_keyless α δ b e p = ((tt, broken_once_keyless), ((told_keyless p, seat_keyless γ.tied (stage p)), (tie_keyless α δ b e p, lent_keyless α δ b e p)))

    setting_keyless : (first : Bool) → Keyless (setting R γ first)
    setting_keyless true = tt
    setting_keyless false = tt

    right_keyless : (α : Lft) (δ : GName) (b e : ℕ) (first : Bool) → Keyless (right_of R γ α δ b e first)
    right_keyless α δ b e first = ((tt, setting_keyless first), (tt, λ u. (place_keyless u b e, tt)))

    gained_keyless : (α : Lft) (δ : GName) (b e : ℕ) (first won : Bool) (n : ℕ) → Keyless (gained R γ α δ b e first won n)
    gained_keyless α δ b e first true n = right_keyless α δ b e first
    gained_keyless α δ b e first false n = sighted_keyless n

module _ (R : RattleType) (s : IsSend R) (y : IsSync R) where
  cells_keyless : (γs : List Names) (α : Lft) (δ : ℕ → GName) (b e : ℕ) (p : ℕ → Phase R.Denot) → Keyless (cells R γs α δ b e p)
  cells_keyless [] α δ b e p = tt
  cells_keyless (γ ∷ γs) α δ b e p = (cell_keyless R γ s y α (δ 0) b e (p 0), cells_keyless γs α (λ i. δ (suc i)) b _ (λ i. p (suc i)))

  kept_keyless : (γs : List Names) (t : Turn) (b o c e : ℕ) (κ : Lft) → Keyless (kept R γs t b o c e κ)
  kept_keyless γs t b o c e κ = ((λ νs. chain-Keyless νs κ t.0), λ n. ((λ _. tt), λ p. (tt, cells_keyless γs t.0 t.1 c e p)))

  slot_owned_keyless : (γ : Names) (β : Lft) (p q : Ptr) (i : ℕ) → Keyless (slot_owned R γ β p q i)
  slot_owned_keyless γ β (block_ptr b o) (block_ptr c r) i = λ z. ((λ _. tt), kept_keyless z.0 z.1 b o c z.2 β)
  slot_owned_keyless γ β (block_ptr b o) null_ptr i = tt
  slot_owned_keyless γ β null_ptr q i = tt

  pen_owned_keyless : (γ : Names) (β : Lft) (p q : Ptr) (i : ℕ) (first : Bool) (sought found : ℕ) → Keyless (pen_owned R γ β p q i first sought found)
  pen_owned_keyless γ β (block_ptr b o) (block_ptr c r) i first sought found = λ z. ((λ _. tt), (kept_keyless z.0 z.1 b o c z.2 β, gained_keyless R γ s y z.1.0 (z.1.1 i) c r first (eqb found sought) found))
  pen_owned_keyless γ β (block_ptr b o) null_ptr i first sought found = tt
  pen_owned_keyless γ β null_ptr q i first sought found = tt

pub pen_send : (a : NamedLft) (R : RattleType) → IsSend R → IsSync R → IsSend (RawPen.the_row a R)
pen_send a R s y = record { owned = λ d vs. ((λ vss. (tt, (tt, (tt, ((λ uss. (tt, tt)), tt))))), pen_owned_keyless R s y d.of a.lft d.word d.room d.index d.first d.sought d.found); leaving = λ k d w. tt }

pub written_send : (R : RattleType) → IsSend (Written.the_row R)
written_send R = record { owned = λ d vs. ((λ vss. (tt, ((λ uss. (tt, tt)), tt))), tt); leaving = λ k f vs. tt }

pub written_sync : (R : RattleType) → IsSync (Written.the_row R)
written_sync R = let fields : IsSync (denote.Struct.Struct.Struct (denote.Struct.Owning.shape (Written.the_type R))) = search sendable depth 20 in
    record { shared = λ d b o κ. (fields.shared (tt, tt) b o κ, tt) }

pub broken_send : IsSend RawBroken.the_row
broken_send = record { owned = λ d vs. ((λ vss. (tt, ((λ uss. (tt, tt)), tt))), tt); leaving = λ k f vs. tt }

pub broken_sync : IsSync RawBroken.the_row
broken_sync = let fields : IsSync (denote.Struct.Struct.Struct (denote.Struct.Owning.shape RawBroken.the_type)) = search sendable depth 20 in
    record { shared = λ d b o κ. (fields.shared (tt, tt) b o κ, tt) }

known_as_keyless : (R : RattleType) (v : Option R.Denot) (γ : ℕ) → Keyless (known_as R v γ)
known_as_keyless R (Some x) γ = tt
known_as_keyless R None γ = λ v. ((λ _. tt), tt)

members_keyless : (R : RattleType) (ms : List (MemberView R.Denot)) → Keyless (members R ms)
members_keyless R [] = tt
members_keyless R (m ∷ ms) = (known_as_keyless R m.value m.name, members_keyless R ms)

pub member_send : (R : RattleType) → IsSend (RawMember.the_row R)
member_send R = record { owned = λ d vs. ((λ vss. (tt, ((λ uss. (tt, tt)), tt))), known_as_keyless R d.of.value d.of.name); leaving = λ k f vs. tt }

pub member_sync : (R : RattleType) → IsSync (RawMember.the_row R)
member_sync R = let fields : IsSync (denote.Struct.Struct.Struct (denote.Struct.Owning.shape (RawMember.the_type R))) = search sendable depth 20 in
    record { shared = λ d b o κ. (fields.shared (tt, tt) b o κ, known_as_keyless R d.of.value d.of.name) }

pub row_send : (R : RattleType) → IsSend (RawRow.the_row R)
row_send R = record { owned = λ d vs. ((λ vss. (tt, ((λ uss. (tt, tt)), tt))), members_keyless R d.of); leaving = λ k f vs. tt }

pub row_sync : (R : RattleType) → IsSync (RawRow.the_row R)
row_sync R = let fields : IsSync (denote.Struct.Struct.Struct (denote.Struct.Owning.shape (RawRow.the_type R))) = search sendable depth 20 in
    record { shared = λ d b o κ. (fields.shared (tt, tt) b o κ, members_keyless R d.of) }

module _ (R : RattleType) (s : IsSend R) (y : IsSync R) where
  resting_keyless : (γ : Names) (u : Rest R.Denot) → Keyless (resting R γ u)
  resting_keyless γ u = (((tt, broken_once_keyless R γ), (told_keyless R γ u.1, seat_keyless γ.tied (stage u.1))), λ _. tt)

  rests_keyless : (γs : List Names) (c e : ℕ) (u : ℕ → Rest R.Denot) → Keyless (rests R γs c e u)
  rests_keyless [] c e u = tt
  rests_keyless (γ ∷ γs) c e u = ((place_keyless R γ s y (u 0).0 c e, resting_keyless γ (u 0)), rests_keyless γs c _ (λ i. u (suc i)))

  along_keyless : (k : ℕ) (γs : List Names) (b o c e : ℕ) → Keyless (along R k γs b o c e)
  along_keyless zero γs b o c e = tt
  along_keyless (suc k) γs b o c e = ((λ u. (tt, rests_keyless _ c e u)), along_keyless k _ b _ c _)

  pub laid_keyless : (token : Ty → Ptr → Fml) → ((τ : Ty) (p : Ptr) → Keyless (token τ p)) → (x : Extent) (γs : List Names) → Keyless (laid R token x γs)
  laid_keyless token frees x γs = ((λ _. tt), (along_keyless x.words γs _ _ _ _, ((tt, tt), (frees _ x.at, frees _ x.rooms))))

  lent_along_keyless : (k : ℕ) (γs : List Names) (b o c e : ℕ) (κ : Lft) → Keyless (along_lent R k γs b o c e κ)
  lent_along_keyless zero γs b o c e κ = tt
  lent_along_keyless (suc k) γs b o c e κ = ((λ t. kept_keyless R s y _ t b o c e κ), lent_along_keyless k _ b _ c _ κ)

  pub laid_lent_keyless : (x : Extent) (γs : List Names) (κ : Lft) → Keyless (laid_lent R x γs κ)
  laid_lent_keyless x γs κ = ((λ _. tt), lent_along_keyless x.words γs _ _ _ _ κ)

pub epoch_send : IsSend RawEpoch.the_row
epoch_send = record { owned = λ d vs. ((λ vss. (tt, ((λ uss. (tt, tt)), tt))), tt); leaving = λ k f vs. tt }

pub epoch_sync : IsSync RawEpoch.the_row
epoch_sync = let fields : IsSync (denote.Struct.Struct.Struct (denote.Struct.Owning.shape RawEpoch.the_type)) = search sendable depth 20 in
    record { shared = λ d b o κ. (fields.shared (tt, tt) b o κ, λ νs. chain-Keyless νs κ (d.of ∷ [])) }

pub ended_send : IsSend RawEnded.the_row
ended_send = record { owned = λ d vs. ((λ vss. (tt, ((λ uss. (tt, tt)), tt))), tt); leaving = λ k f vs. tt }

pub ended_sync : IsSync RawEnded.the_row
ended_sync = let fields : IsSync (denote.Struct.Struct.Struct (denote.Struct.Owning.shape RawEnded.the_type)) = search sendable depth 20 in
    record { shared = λ d b o κ. (fields.shared (tt, tt) b o κ, tt) }
