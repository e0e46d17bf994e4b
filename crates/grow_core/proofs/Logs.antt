-- What calls add to a history: the notes of their loads, and steps that a hand made when it had seen more.
use Rattle.std.proofs.Common.{◌≡◌, ℕ, ◌+◌, ◌-◌, ◌<◌, ◌≤◌, ◌==◌, Bool, true, false, nat_lt, nat_le, [], ◌∷◌, ◌++◌, refl, sym, ap, ◌∙◌, subst, arith, append_assoc}
use Rattle.std.proofs.lemmas.Bool.Decides.{nat_tests}
use mathlib.Core.List.{IsPrefix}
use Rattle.claim_core.specs.declared.run.Run.{Run}
use Rattle.claim_core.specs.History.{Log, AddsEvents, claim_event, enough_event, full_event, past_event, full_note, growth_note, reach_note, range_note}

-- ---- The events of a note, by what the size is

full_cases : (limit n size : ℕ) (full : Bool) → nat_lt limit (size + n) ≡ full → limit < size + n
    → full_note limit n size ≡ full_event n size ∷ []
full_cases limit n size true is past = rw is refl
full_cases limit n size false is past = absurd (grind (arith, nat_tests))

pub full_noted : (limit n size : ℕ) → limit < size + n → full_note limit n size ≡ full_event n size ∷ []
full_noted limit n size past = full_cases limit n size (nat_lt limit (size + n)) refl past

abbrev run_at : ℕ → ℕ → Run
run_at from n = record { from = from; n = n }

empty_cases : (limit n size : ℕ) (none_wanted : Bool) → (n == 0) ≡ none_wanted → n ≡ 0
    → growth_note limit n size ≡ claim_event 0 (run_at size n) ∷ []
empty_cases limit n size true is zero_places = rw is (ap (λ (k : ℕ). claim_event 0 (run_at size k) ∷ []) (sym zero_places))
empty_cases limit n size false is zero_places = absurd (grind (arith, nat_tests))

pub empty_growth_noted : (limit n size : ℕ) → n ≡ 0 → growth_note limit n size ≡ claim_event 0 (run_at size n) ∷ []
empty_growth_noted limit n size zero_places = empty_cases limit n size (n == 0) refl zero_places

some_cases : (limit n size : ℕ) (none_wanted : Bool) → (n == 0) ≡ none_wanted → 0 < n → growth_note limit n size ≡ full_note limit n size
some_cases limit n size true is some_places = absurd (grind (arith, nat_tests))
some_cases limit n size false is some_places = rw is refl

pub full_growth_noted : (limit n size : ℕ) → 0 < n → limit < size + n → growth_note limit n size ≡ full_event n size ∷ []
full_growth_noted limit n size some_places past = some_cases limit n size (n == 0) refl some_places ∙ full_noted limit n size past

enough_cases : (limit to size : ℕ) (enough : Bool) → nat_le to size ≡ enough → to ≤ size
    → reach_note limit to size ≡ enough_event to size ∷ []
enough_cases limit to size true is le = rw is refl
enough_cases limit to size false is le = absurd (grind (arith, nat_tests))

pub enough_noted : (limit to size : ℕ) → to ≤ size → reach_note limit to size ≡ enough_event to size ∷ []
enough_noted limit to size le = enough_cases limit to size (nat_le to size) refl le

past_limit_cases : (limit to size : ℕ) (enough full : Bool) → nat_le to size ≡ enough → nat_lt limit to ≡ full → size < to
    → limit < to → reach_note limit to size ≡ full_event (to - size) size ∷ []
past_limit_cases limit to size true full is is_full more past = absurd (grind (arith, nat_tests))
past_limit_cases limit to size false true is is_full more past = rw is (rw is_full refl)
past_limit_cases limit to size false false is is_full more past = absurd (grind (arith, nat_tests))

pub past_limit_noted : (limit to size : ℕ) → size < to → limit < to → reach_note limit to size ≡ full_event (to - size) size ∷ []
past_limit_noted limit to size more past = past_limit_cases limit to size (nat_le to size) (nat_lt limit to) refl refl more past

past_cases : (place size : ℕ) (past : Bool) → nat_le size place ≡ past → size ≤ place → range_note place size ≡ past_event place size ∷ []
past_cases place size true is le = rw is refl
past_cases place size false is le = absurd (grind (arith, nat_tests))

pub past_noted : (place size : ℕ) → size ≤ place → range_note place size ≡ past_event place size ∷ []
past_noted place size le = past_cases place size (nat_le size place) refl le

-- what a note is, its step has added
pub adds_noted : (old new es fs : Log) → es ≡ fs → AddsEvents old es new → AddsEvents old fs new
adds_noted old new es fs same added = subst (λ (l : Log). AddsEvents old l new) same added

-- ---- What is added to a history that goes on from another is added to that one

pub log_goes_on : (a es b : Log) → AddsEvents a es b → IsPrefix a b
log_goes_on a es b added = (added.since ++ es, sym (append_assoc a added.since es) ∙ sym added.is)

pub nothing_after : (a b c : Log) → IsPrefix a b → IsPrefix b c → IsPrefix a c
nothing_after a b c p q = (p.0 ++ q.0, sym (append_assoc a p.0 q.0) ∙ (ap (λ (l : Log). l ++ q.0) p.1 ∙ q.1))

pub events_after : (a b c es : Log) → IsPrefix a b → AddsEvents b es c → AddsEvents a es c
events_after a b c es p added = record {
  since = p.0 ++ added.since;
  is =
      added.is
      ∙ (ap (λ (l : Log). (l ++ added.since) ++ es) (sym p.1) ∙ ap (λ (l : Log). l ++ es) (append_assoc a p.0 added.since));
}
