-- First lines, layout lines and actor lines: what is read is spelled so, and what is spelled so is read.
use Rattle.std.proofs.Common.{◌≡◌, ◌≢◌, ℕ, zero, suc, ◌<◌, ◌≤◌, true, false, ◌&&◌, cond, eqb, leb, List, [], ◌∷◌, ◌++◌, length, get_or, drop, Option, Some, None, Ok, Err, refl, sym, ap, subst, ◌∙◌, arith, inl, inr}
use Rattle.std.specs.Prelude.{codes, decimal}
use Rattle.std.specs.List.{starts_with, list_any}
use Rattle.std.proofs.lemmas.Bool.{cases_Bool, and_parts, or_parts, or_from, eqb-true, eqb-false, ne_eqb, leb-true, leb-false, le-leb, lt-leb, cond-true, cond-false}
use Rattle.std.proofs.lemmas.Bool.Decides.{Decides-eqb}
use Rattle.std.proofs.lemmas.Slice.Eq.{starts_is}
use Rattle.book_core.specs.declared.commands.Command.{Command}
use Rattle.script_core.specs.declared.error.Fault.TheVariants.{BadLimit, BadLine, BadName, TwiceNamed, TooMany, BadFirst}
use Rattle.script_core.specs.Grammar.{◌>>=◌, cut, number_or, limit_in, layout_in, parsed_limit, parsed_name, parsed_program, program_after, parsed_actor}
use Rattle.script_core.specs.Spelling.{limit_line, program_text, IsName, IsProgram}
use Rattle.script_core.proofs.NumberSpelling.{bind_ok, test_ok, refusal_ok, ok_is, number_takes, number_again}
use Rattle.script_core.proofs.CommandSpelling.{program_takes, program_again}

-- ---- First lines

-- what begins with a front is the front and the rest
pub begins : (text front : List ℕ) → starts_with eqb text front ≡ true → text ≡ front ++ drop (length front) text
begins text front h = (starts_is Decides-eqb text front (starts_with eqb text front) refl).0 h

pub limit_takes : (line : List ℕ) (limit : ℕ) → parsed_limit line ≡ Ok limit
    → (line ≡ limit_line limit) × ((1 ≤ limit) × (limit ≤ 65536))
unfolding parsed_limit limit_in
limit_takes line limit h =
    let p = test_ok (starts_with eqb line (codes "limit ")) (number_or BadLimit (drop 6 line) >>= λ n. (cond (leb 1 n && leb n 65536) (Ok n) (Err BadLimit))) BadLine limit h in
    let q = bind_ok (number_or BadLimit (drop 6 line)) (λ n. (cond (leb 1 n && leb n 65536) (Ok n) (Err BadLimit))) limit p.1 in
    let t = test_ok (leb 1 q.0 && leb q.0 65536) (Ok q.0) BadLimit limit q.2 in
    let n = number_takes BadLimit (drop 6 line) q.0 q.1 in
    let range = and_parts (leb 1 q.0) (leb q.0 65536) t.0 in
    subst (λ (k : ℕ). (line ≡ limit_line k) × ((1 ≤ k) × (k ≤ 65536))) (ok_is _ _ t.1)
    (begins line (codes "limit ") p.0 ∙ ap (λ (w : List ℕ). codes "limit " ++ w) n.0, (leb-true 1 q.0 range.0, leb-true q.0 65536 range.1))

pub limit_again : (limit : ℕ) → 1 ≤ limit → limit ≤ 65536 → parsed_limit (limit_line limit) ≡ Ok limit
unfolding parsed_limit limit_in
limit_again limit low high =
    rw (number_again BadLimit limit (omega arith), le-leb 1 limit low, le-leb limit 65536 high) refl

-- ---- Layout lines

pub layout_takes : (words : List ℕ) (first : ℕ) → layout_in words ≡ Ok first
    → (words ≡ decimal first) × ((1 ≤ first) × (first ≤ 8))
unfolding layout_in
layout_takes words first h =
    let q = bind_ok (number_or BadFirst words) (λ n. (cond (leb 1 n && leb n 8) (Ok n) (Err BadFirst))) first h in
    let t = test_ok (leb 1 q.0 && leb q.0 8) (Ok q.0) BadFirst first q.2 in
    let n = number_takes BadFirst words q.0 q.1 in
    let range = and_parts (leb 1 q.0) (leb q.0 8) t.0 in
    subst (λ (k : ℕ). (words ≡ decimal k) × ((1 ≤ k) × (k ≤ 8))) (ok_is _ _ t.1)
    (n.0, (leb-true 1 q.0 range.0, leb-true q.0 8 range.1))

pub layout_again : (first : ℕ) → 1 ≤ first → first ≤ 8 → layout_in (decimal first) ≡ Ok first
unfolding layout_in
layout_again first low high =
    rw (number_again BadFirst first (omega arith), le-leb 1 first low, le-leb first 8 high) refl

-- ---- Actor lines

name_takes : (word : List ℕ) (name : ℕ) → parsed_name word ≡ Ok name → (word ≡ name ∷ []) × IsName name
unfolding parsed_name
name_takes [] name h = absurd cc
name_takes (c ∷ []) name h =
    let p = test_ok (leb 97 c && leb c 122) (Ok c) BadName name h in
    let range = and_parts (leb 97 c) (leb c 122) p.0 in
    subst (λ (n : ℕ). (c ∷ [] ≡ n ∷ []) × IsName n) (ok_is _ _ p.1) (refl, (leb-true 97 c range.0, leb-true c 122 range.1))
name_takes (c ∷ d ∷ more) name h = absurd cc

abbrev some_list : List ℕ → Option (List ℕ)
some_list a = Some a

after_takes : (after : Option (List ℕ)) (program : List Command) → program_after after ≡ Ok program
    → (text : List ℕ) × (after ≡ Some text) × (parsed_program text ≡ Ok program)
after_takes None program h = absurd cc
after_takes (Some text) program h = (text, refl, h)

some_is : (a b : List ℕ) → some_list a ≡ some_list b → a ≡ b
some_is a b e = cc

cut_joined : (text rest : List ℕ) → (cut (32 ∷ []) text).1 ≡ Some rest → text ≡ (cut (32 ∷ []) text).0 ++ (32 ∷ rest)
unfolding cut
cut_joined [] rest h = absurd cc
cut_joined (b ∷ bs) rest h =
    elim (cases_Bool (starts_with eqb (b ∷ bs) (32 ∷ []))) [
      | inl hit ↦
          let split = cond-true (starts_with eqb (b ∷ bs) (32 ∷ [])) ([], Some bs) (b ∷ (cut (32 ∷ []) bs).0, (cut (32 ∷ []) bs).1) hit in
          let space : 32 ≡ b = eqb-true 32 b (and_parts (eqb 32 b) true hit).0 in
          let same : Some bs ≡ Some rest = ap (λ (p : List ℕ × Option (List ℕ)). p.1) (sym split) ∙ h in
          let is : bs ≡ rest = some_is bs rest same in
          sym (ap (λ (p : List ℕ × Option (List ℕ)). p.0 ++ (32 ∷ rest)) split ∙ ap (λ (d : ℕ). d ∷ rest) space ∙ ap (λ (l : List ℕ). b ∷ l) (sym is))
      | inr miss ↦
          let split = cond-false (starts_with eqb (b ∷ bs) (32 ∷ [])) ([], Some bs) (b ∷ (cut (32 ∷ []) bs).0, (cut (32 ∷ []) bs).1) miss in
          let tail = cut_joined bs rest (ap (λ (p : List ℕ × Option (List ℕ)). p.1) (sym split) ∙ h) in
          ap (λ (l : List ℕ). b ∷ l) tail ∙ sym (ap (λ (p : List ℕ × Option (List ℕ)). p.0 ++ (32 ∷ rest)) split)
    ]

-- what an actor line after these names is
pub record IsActor (names : List ℕ) (text : List ℕ) (name : ℕ) (program : List Command) : Type 0 where
  pub room : length names < 16
  pub letter : IsName name
  pub fresh : list_any (λ n. eqb n name) names ≡ false
  pub commands : IsProgram program
  pub spelled : text ≡ name ∷ 32 ∷ program_text program

pub actor_takes : (names text : List ℕ) (actor : ℕ × List Command) → parsed_actor names text ≡ Ok actor
    → IsActor names text actor.0 actor.1
unfolding parsed_actor
actor_takes names text actor h =
    let after = (cut (codes " ") text).1 in
    let room = refusal_ok (leb 16 (length names)) _ TooMany actor h in
    let named = bind_ok (parsed_name (cut (codes " ") text).0) (λ name. (cond (list_any (λ n. eqb n name) names) (Err TwiceNamed) (program_after (cut (codes " ") text).1 >>= λ program. Ok (name, program)))) actor room.1 in
    let fresh = refusal_ok (list_any (λ n. eqb n named.0) names) (program_after (cut (codes " ") text).1 >>= λ program. Ok (named.0, program)) TwiceNamed actor named.2 in
    let read = bind_ok (program_after (cut (codes " ") text).1) (λ program. Ok (named.0, program)) actor fresh.1 in
    let name = name_takes (cut (codes " ") text).0 named.0 named.1 in
    let rest = after_takes (cut (codes " ") text).1 read.0 read.1 in
    let program = program_takes rest.0 read.0 rest.2 in
    let made : ℕ × List Command = (named.0, read.0) in
    subst (λ (a : ℕ × List Command). IsActor names text a.0 a.1) (ok_is made actor read.2) (record {
      room = leb-false 16 (length names) room.0;
      letter = name.1;
      fresh = fresh.0;
      commands = program.1;
      spelled = cut_joined text rest.0 rest.1 ∙ ap (λ (w : List ℕ). w ++ (32 ∷ rest.0)) name.0 ∙ ap (λ (t : List ℕ). named.0 ∷ 32 ∷ t) program.0;
    })

cut_name : (name : ℕ) (rest : List ℕ) → IsName name → cut (32 ∷ []) (name ∷ 32 ∷ rest) ≡ (name ∷ [], Some rest)
unfolding cut
cut_name name rest letter = rw (ne_eqb 32 name (λ e. absurd (omega (arith, letter)))) refl

pub actor_again : (names : List ℕ) (name : ℕ) (program : List Command) → length names < 16 → IsName name
    → list_any (λ n. eqb n name) names ≡ false → IsProgram program
    → parsed_actor names (name ∷ 32 ∷ program_text program) ≡ Ok (name, program)
unfolding parsed_actor parsed_name
actor_again names name program room letter fresh h =
    rw (lt-leb 16 (length names) room, cut_name name (program_text program) letter, le-leb 97 name letter.0, le-leb name 122 letter.1, fresh, program_again program h) refl

-- ---- Names that are all different

-- a name that isn't found is of none
pub fresh_name : (name : ℕ) (names : List ℕ) → list_any (λ n. eqb n name) names ≡ false → (k d : ℕ)
    → k < length names → get_or names k d ≢ name
fresh_name name [] h k d lt e = absurd (omega arith)
fresh_name name (n ∷ ns) h zero d lt e = eqb-false n name (or_parts (eqb n name) (list_any (λ m. eqb m name) ns) h).0 e
fresh_name name (n ∷ ns) h (suc k) d lt e = fresh_name name ns (or_parts (eqb n name) (list_any (λ m. eqb m name) ns) h).1 k d (omega arith) e

-- a name of none isn't found
pub name_fresh : (name : ℕ) (names : List ℕ) → ((k : ℕ) → k < length names → get_or names k 0 ≢ name)
    → list_any (λ n. eqb n name) names ≡ false
name_fresh name [] h = refl
name_fresh name (n ∷ ns) h = or_from (eqb n name) (list_any (λ m. eqb m name) ns) (ne_eqb n name (h 0 (omega arith))) (name_fresh name ns (λ k lt. h (suc k) (omega arith)))
