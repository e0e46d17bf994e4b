-- The notes that steps log.
use Rattle.std.proofs.Common.{◌≡◌, ℕ, ◌+◌, ◌-◌, ◌<◌, ◌≤◌, ◌==◌, Bool, true, false, nat_lt, nat_le, if◌then◌else◌, List, [], ◌∷◌, length, Some, None, refl, ap, sym, ◌∙◌, arith}
use Rattle.std.proofs.lemmas.List.{append-nil}
use Rattle.std.proofs.lemmas.Option.{slice_get_past}
use Rattle.std.proofs.lemmas.Bool.Decides.{nat_tests}
use Rattle.book_core.specs.declared.cells.Cell.{Cell}
use Rattle.book_core.specs.declared.events.Reply.TheVariants as replies
use Rattle.book_core.specs.Cells.{CellList, with_pending}
use Rattle.book_core.specs.History.{IsHistory}
use Rattle.book_core.proofs.EventRows.{claim_applies, enough_applies, full_applies, size_applies, look_applies}
use Rattle.claim_core.specs.declared.run.Run.{Run}
use Rattle.claim_core.specs.History.{Log, claims_in, IsNote, claim_event, enough_event, full_event, memory_event, past_event, size_note, full_note}
use Rattle.claim_core.specs.Laws.{NothingIsNote, FullIsNote, GrowthIsNote, ReachIsNote, RangeIsNote}

pub no_is_note : NothingIsNote
no_is_note limit = record { nothing = λ size. refl; legal = λ size list within is_limit is_size. refl }

pub size_is_note : (limit : ℕ) → IsNote limit size_note
size_is_note limit = record {
  nothing = λ size. refl;
  legal = λ size list within is_limit is_size. (list, size_applies list 0 size is_size, refl);
}

-- a growth that finds no memory is legal at each size
abbrev pub memory_note : ℕ → Log
memory_note size = memory_event ∷ []

pub memory_is_note : (limit : ℕ) → IsNote limit memory_note
memory_is_note limit = record {
  nothing = λ size. refl;
  legal = λ size list within is_limit is_size. (list, refl, refl);
}

-- ---- No room

full_claims : (n size : ℕ) (full : Bool) → claims_in (if full then full_event n size ∷ [] else []) ≡ []
full_claims n size true = refl
full_claims n size false = refl

full_legal : (limit n size : ℕ) (list : CellList) (full : Bool) → nat_lt limit (size + n) ≡ full → list.limit ≡ limit
    → length list.cells ≡ size → IsHistory list (if full then full_event n size ∷ [] else []) list
full_legal limit n size list true is is_limit is_size =
    let past : limit < size + n = grind (arith, nat_tests) in
    (list, full_applies list 0 size is_size n (omega arith), refl)
full_legal limit n size list false is is_limit is_size = refl

pub full_is_note : FullIsNote
full_is_note limit n = record {
  nothing = λ size. full_claims n size (nat_lt limit (size + n));
  legal = λ size list within is_limit is_size. full_legal limit n size list (nat_lt limit (size + n)) refl is_limit is_size;
}

-- ---- No places

abbrev with_cells : ℕ → List Cell → CellList
with_cells limit cells = record { limit = limit; cells = cells }

-- a claim of no places leaves the list as it is
empty_claim : (list : CellList) → list ≡ with_pending list 0 0
empty_claim list = ap (with_cells list.limit) (sym (append-nil list.cells))

abbrev no_places : ℕ → Run
no_places size = record { from = size; n = 0 }

growth_claims : (limit n size : ℕ) (none_wanted : Bool)
    → claims_in (if none_wanted then claim_event 0 (no_places size) ∷ [] else full_note limit n size) ≡ []
growth_claims limit n size true = refl
growth_claims limit n size false = full_claims n size (nat_lt limit (size + n))

growth_legal : (limit n size : ℕ) (list : CellList) (none_wanted : Bool) → size ≤ limit → list.limit ≡ limit → length list.cells ≡ size
    → IsHistory list (if none_wanted then claim_event 0 (no_places size) ∷ [] else full_note limit n size) list
growth_legal limit n size list true within is_limit is_size =
    (with_pending list 0 0, claim_applies list 0 size is_size 0 (omega arith), empty_claim list)
growth_legal limit n size list false within is_limit is_size = full_legal limit n size list (nat_lt limit (size + n)) refl is_limit is_size

pub growth_is_note : GrowthIsNote
growth_is_note limit n = record {
  nothing = λ size. growth_claims limit n size (n == 0);
  legal = λ size list within is_limit is_size. growth_legal limit n size list (n == 0) within is_limit is_size;
}

-- ---- A size that is enough, or above the limit

reach_claims : (to size : ℕ) (enough full : Bool)
    → claims_in (if enough then enough_event to size ∷ [] else if full then full_event (to - size) size ∷ [] else []) ≡ []
reach_claims to size true full = refl
reach_claims to size false true = refl
reach_claims to size false false = refl

reach_legal : (limit to size : ℕ) (list : CellList) (enough full : Bool) → nat_le to size ≡ enough → nat_lt limit to ≡ full
    → list.limit ≡ limit → length list.cells ≡ size
    → IsHistory list (if enough then enough_event to size ∷ [] else if full then full_event (to - size) size ∷ [] else []) list
reach_legal limit to size list true full is is_full is_limit is_size =
    let had : to ≤ size = grind (arith, nat_tests) in
    (list, enough_applies list 0 size is_size to had, refl)
reach_legal limit to size list false true is is_full is_limit is_size =
    let more : size < to = grind (arith, nat_tests) in
    let past : limit < to = grind (arith, nat_tests) in
    (list, full_applies list 0 size is_size (to - size) (omega arith), refl)
reach_legal limit to size list false false is is_full is_limit is_size = refl

pub reach_is_note : ReachIsNote
reach_is_note limit to = record {
  nothing = λ size. reach_claims to size (nat_le to size) (nat_lt limit to);
  legal = λ size list within is_limit is_size. reach_legal limit to size list (nat_le to size) (nat_lt limit to) refl refl is_limit is_size;
}

-- ---- A place that is not below the size

range_claims : (place size : ℕ) (past : Bool) → claims_in (if past then past_event place size ∷ [] else []) ≡ []
range_claims place size true = refl
range_claims place size false = refl

range_legal : (place size : ℕ) (list : CellList) (past : Bool) → nat_le size place ≡ past → length list.cells ≡ size
    → IsHistory list (if past then past_event place size ∷ [] else []) list
range_legal place size list true is is_size =
    let after : size ≤ place = grind (arith, nat_tests) in
    let there : length list.cells ≤ place = omega arith in (
      list,
      look_applies list 0 place None (slice_get_past list.cells place there) ∙ ap (λ k. Some (list, replies.OutOfRange k)) is_size,
      refl,
    )
range_legal place size list false is is_size = refl

pub range_is_note : RangeIsNote
range_is_note limit place = record {
  nothing = λ size. range_claims place size (nat_le size place);
  legal = λ size list within is_limit is_size. range_legal place size list (nat_le size place) refl is_size;
}
