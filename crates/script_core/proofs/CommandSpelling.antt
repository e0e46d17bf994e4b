-- Commands and programs: what is read is spelled so, and what is spelled so is read.
use Rattle.std.proofs.Common.{◌≡◌, ℕ, suc, ◌+◌, ◌^◌, ◌<◌, ◌≤◌, Bool, true, false, not, ◌&&◌, cond, eqb, leb, ltb, List, [], ◌∷◌, ◌++◌, length, map, Result, Ok, Err, refl, sym, ap, subst, ◌∙◌, arith, inl, inr, ◌⊎◌, append_assoc}
use Rattle.std.specs.Prelude.{codes, decimal}
use Rattle.std.specs.List.{slice_split, onto_first, join_with_byte, AllByRecursion}
use Rattle.std.specs.Str.{bytes_eq}
use Rattle.std.proofs.lemmas.Bool.{cases_Bool, and_parts, eqb-true, ltb-true, lt-ltb, leb-false, lt-leb, not-true, cond-true, cond-false}
use Rattle.std.proofs.lemmas.List.{append-nil, length-append}
use Rattle.std.proofs.lemmas.List.Elements.{All-from_recursion, recursion_from_All}
use Rattle.std.proofs.lemmas.List.Splits.{join_with_byte-slice_split}
use Rattle.std.proofs.lemmas.Slice.Eq.{bytes_eq-Decides}
use Rattle.book_core.specs.declared.commands.Command.{Command}
use Rattle.book_core.specs.declared.commands.Command.TheVariants.{Push, Grow, AtLeast, Fail, Mend, Read, Size}
use Rattle.script_core.specs.declared.error.Fault.{Fault}
use Rattle.script_core.specs.declared.error.Fault.TheVariants.{BadCommand, TooMany}
use Rattle.script_core.specs.Grammar.{◌>>=◌, words, pieces, try_each, argument, command_alone, command_with_one, command_with_two, command_with_three, parsed_command, parsed_program}
use Rattle.script_core.specs.Spelling.{joined, command_text, program_text, IsCommand, IsProgram}
use Rattle.script_core.proofs.Cuts.{some_pieces}
use Rattle.script_core.proofs.NumberSpelling.{bind_ok, test_ok, refusal_ok, ok_is, number_takes, number_again, lacks, lacks-append, decimal_lacks, split_front, split_whole}

-- which way a test went
pub chosen : {A : Type 0} (b : Bool) (x y z : A) → cond b x y ≡ z → ((b ≡ true) × (x ≡ z)) ⊎ ((b ≡ false) × (y ≡ z))
chosen true x y z e = inl (refl, e)
chosen false x y z e = inr (refl, e)

word_is : (word name : List ℕ) → bytes_eq word name ≡ true → word ≡ name
word_is word name h = (bytes_eq-Decides word name).0 h

-- ---- What is read is spelled so

one_argument : (a : List ℕ) (make : ℕ → Command) (c : Command) → (argument a >>= λ v. Ok (make v)) ≡ Ok c
    → (v : ℕ) × (a ≡ decimal v) × (v < 2 ^ 64) × (make v ≡ c)
one_argument a make c h =
    let p = bind_ok (argument a) (λ v. Ok (make v)) c h in
    let n = number_takes BadCommand a p.0 p.1 in
    (p.0, n.0, n.1, ok_is _ _ p.2)

two_arguments : (a b : List ℕ) (make : ℕ → ℕ → Command) (c : Command)
    → (argument a >>= λ v. (argument b >>= λ w. Ok (make v w))) ≡ Ok c
    → (v : ℕ) × (w : ℕ) × (a ≡ decimal v) × (b ≡ decimal w) × (v < 2 ^ 64) × (w < 2 ^ 64) × (make v w ≡ c)
two_arguments a b make c h =
    let p = bind_ok (argument a) (λ v. (argument b >>= λ w. Ok (make v w))) c h in
    let n = number_takes BadCommand a p.0 p.1 in
    let q = one_argument b (λ w. make p.0 w) c p.2 in
    (p.0, q.0, n.0, q.1, n.1, q.2, q.3)

-- the words, joined by spaces, are the command's text
abbrev IsSpelled : List (List ℕ) → Command → Type 0
IsSpelled ws c = (join_with_byte 32 ws ≡ command_text c) × IsCommand c

spelled_one : (word a name : List ℕ) (v : ℕ) → word ≡ name → a ≡ decimal v
    → join_with_byte 32 (word ∷ a ∷ []) ≡ name ++ (32 ∷ decimal v)
spelled_one word a name v w e = rw (w, e) refl

spelled_two : (word a b name : List ℕ) (v w : ℕ) → word ≡ name → a ≡ decimal v → b ≡ decimal w
    → join_with_byte 32 (word ∷ a ∷ b ∷ []) ≡ name ++ (32 ∷ ((decimal v ++ 32 ∷ []) ++ decimal w))
spelled_two word a b name v w is e f = rw (is, e, f) (simp append_assoc)

spelled_three : (word a b d name : List ℕ) (v w u : ℕ) → word ≡ name → a ≡ decimal v → b ≡ decimal w → d ≡ decimal u
    → join_with_byte 32 (word ∷ a ∷ b ∷ d ∷ []) ≡ name ++ (32 ∷ ((((decimal v ++ 32 ∷ []) ++ decimal w) ++ 32 ∷ []) ++ decimal u))
spelled_three word a b d name v w u is e f g = rw (is, e, f, g) (simp append_assoc)

alone_takes : (word : List ℕ) (c : Command) → command_alone word ≡ Ok c → IsSpelled (word ∷ []) c
unfolding command_alone
alone_takes word c h =
    let p = test_ok (bytes_eq word (codes "size")) (Ok Size) BadCommand c h in
    subst (IsSpelled (word ∷ [])) (ok_is _ _ p.1) (word_is word (codes "size") p.0, tt)

with_one_takes : (word a : List ℕ) (c : Command) → command_with_one word a ≡ Ok c → IsSpelled (word ∷ a ∷ []) c
unfolding command_with_one
with_one_takes word a c h =
    elim (chosen (bytes_eq word (codes "push")) _ _ (Ok c) h) [
      | inl p ↦
          let n = one_argument a Push c p.1 in
          subst (IsSpelled (word ∷ a ∷ [])) n.3 (spelled_one word a (codes "push") n.0 (word_is word (codes "push") p.0) n.1, n.2)
      | inr p ↦
          let q = test_ok (bytes_eq word (codes "read")) (argument a >>= λ place. Ok (Read place)) BadCommand c p.1 in
          let n = one_argument a Read c q.1 in
          subst (IsSpelled (word ∷ a ∷ [])) n.3 (spelled_one word a (codes "read") n.0 (word_is word (codes "read") q.0) n.1, n.2)
    ]

with_two_takes : (word a b : List ℕ) (c : Command) → command_with_two word a b ≡ Ok c → IsSpelled (word ∷ a ∷ b ∷ []) c
unfolding command_with_two
with_two_takes word a b c h =
    elim (chosen (bytes_eq word (codes "grow")) _ _ (Ok c) h) [
      | inl p ↦
          let n = two_arguments a b Grow c p.1 in
          subst (IsSpelled (word ∷ a ∷ b ∷ [])) n.6 (spelled_two word a b (codes "grow") n.0 n.1 (word_is word (codes "grow") p.0) n.2 n.3, (n.4, n.5))
      | inr p ↦ elim (chosen (bytes_eq word (codes "atleast")) _ _ (Ok c) p.1) [
        | inl q ↦
            let n = two_arguments a b AtLeast c q.1 in
            subst (IsSpelled (word ∷ a ∷ b ∷ [])) n.6 (spelled_two word a b (codes "atleast") n.0 n.1 (word_is word (codes "atleast") q.0) n.2 n.3, (n.4, n.5))
        | inr q ↦
            let r = test_ok (bytes_eq word (codes "mend")) (argument a >>= λ place. (argument b >>= λ value. Ok (Mend place value))) BadCommand c q.1 in
            let n = two_arguments a b Mend c r.1 in
            subst (IsSpelled (word ∷ a ∷ b ∷ [])) n.6 (spelled_two word a b (codes "mend") n.0 n.1 (word_is word (codes "mend") r.0) n.2 n.3, (n.4, n.5))
      ]
    ]

with_three_takes : (word a b d : List ℕ) (c : Command) → command_with_three word a b d ≡ Ok c
    → IsSpelled (word ∷ a ∷ b ∷ d ∷ []) c
unfolding command_with_three
with_three_takes word a b d c h =
    let p = test_ok (bytes_eq word (codes "fail")) (argument a >>= λ n. (argument b >>= λ value. (argument d >>= λ at. (cond (ltb at n) (Ok (Fail n value at)) (Err BadCommand))))) BadCommand c h in
    let first = bind_ok (argument a) (λ n. (argument b >>= λ value. (argument d >>= λ at. (cond (ltb at n) (Ok (Fail n value at)) (Err BadCommand))))) c p.1 in
    let second = bind_ok (argument b) (λ value. (argument d >>= λ at. (cond (ltb at first.0) (Ok (Fail first.0 value at)) (Err BadCommand)))) c first.2 in
    let third = bind_ok (argument d) (λ at. (cond (ltb at first.0) (Ok (Fail first.0 second.0 at)) (Err BadCommand))) c second.2 in
    let test = test_ok (ltb third.0 first.0) (Ok (Fail first.0 second.0 third.0)) BadCommand c third.2 in
    let n = number_takes BadCommand a first.0 first.1 in
    let value = number_takes BadCommand b second.0 second.1 in
    let at = number_takes BadCommand d third.0 third.1 in
    subst (IsSpelled (word ∷ a ∷ b ∷ d ∷ [])) (ok_is _ _ test.1)
    (spelled_three word a b d (codes "fail") first.0 second.0 third.0 (word_is word (codes "fail") p.0) n.0 value.0 at.0, (n.1, value.1, ltb-true third.0 first.0 test.0))

command_takes : (ws : List (List ℕ)) (c : Command) → parsed_command ws ≡ Ok c → IsSpelled ws c
unfolding parsed_command
command_takes [] c h = absurd cc
command_takes (word ∷ []) c h = alone_takes word c h
command_takes (word ∷ a ∷ []) c h = with_one_takes word a c h
command_takes (word ∷ a ∷ b ∷ []) c h = with_two_takes word a b c h
command_takes (word ∷ a ∷ b ∷ d ∷ []) c h = with_three_takes word a b d c h
command_takes (word ∷ a ∷ b ∷ d ∷ e ∷ more) c h = absurd cc

piece_takes : (piece : List ℕ) (c : Command) → parsed_command (words piece) ≡ Ok c
    → (piece ≡ command_text c) × IsCommand c
unfolding words
piece_takes piece c h =
    let p = command_takes (slice_split (λ b. eqb b 32) piece) c h in
    (sym (join_with_byte-slice_split 32 piece) ∙ p.0, p.1)

-- ---- What is spelled so is read

two_words : (n v : ℕ) → n < 2 ^ 64 → v < 2 ^ 64
    → slice_split (λ b. eqb b 32) ((decimal n ++ 32 ∷ []) ++ decimal v) ≡ decimal n ∷ decimal v ∷ []
two_words n v small-n small-v =
    ap (slice_split (λ b. eqb b 32)) (append_assoc (decimal n) (32 ∷ []) (decimal v))
    ∙ split_front 32 (decimal n) (decimal v) (decimal_lacks 32 n (omega arith) small-n)
    ∙ ap (λ (l : List (List ℕ)). decimal n ∷ l) (split_whole 32 (decimal v) (decimal_lacks 32 v (omega arith) small-v))

three_words : (n v at : ℕ) → n < 2 ^ 64 → v < 2 ^ 64 → at < 2 ^ 64
    → slice_split (λ b. eqb b 32)
    ((((decimal n ++ 32 ∷ []) ++ decimal v) ++ 32 ∷ []) ++ decimal at) ≡ decimal n ∷ decimal v ∷ decimal at ∷ []
three_words n v at small-n small-v small-at =
    let regrouped : (((decimal n ++ 32 ∷ []) ++ decimal v) ++ 32 ∷ []) ++ decimal at ≡ decimal n ++ 32 ∷ ((decimal v ++ 32 ∷ []) ++ decimal at) = simp append_assoc in
    ap (slice_split (λ b. eqb b 32)) regrouped
    ∙ split_front 32 (decimal n) ((decimal v ++ 32 ∷ []) ++ decimal at) (decimal_lacks 32 n (omega arith) small-n)
    ∙ ap (λ (l : List (List ℕ)). decimal n ∷ l) (two_words v at small-v small-at)

command_again : (c : Command) → IsCommand c → parsed_command (words (command_text c)) ≡ Ok c
unfolding words parsed_command command_alone command_with_one command_with_two command_with_three
command_again (Push value) h = rw (split_whole 32 (decimal value) (decimal_lacks 32 value (omega arith) h), number_again BadCommand value h) refl
command_again (Grow n value) h = rw (two_words n value h.0 h.1, number_again BadCommand n h.0, number_again BadCommand value h.1) refl
command_again (AtLeast to value) h = rw (two_words to value h.0 h.1, number_again BadCommand to h.0, number_again BadCommand value h.1) refl
command_again (Fail n value at) h =
    let below : at < 2 ^ 64 = omega (arith, h.2, h.0) in
    rw (three_words n value at h.0 h.1 below, number_again BadCommand n h.0, number_again BadCommand value h.1, number_again BadCommand at below, lt-ltb at n h.2) refl
command_again (Mend place value) h = rw (two_words place value h.0 h.1, number_again BadCommand place h.0, number_again BadCommand value h.1) refl
command_again (Read place) h = rw (split_whole 32 (decimal place) (decimal_lacks 32 place (omega arith) h), number_again BadCommand place h) refl
command_again Size h = refl

-- bytes that occur in no number and are no space occur in no arguments
two_lack : (b n v : ℕ) → b < 48 → lacks b (32 ∷ []) ≡ true → n < 2 ^ 64 → v < 2 ^ 64
    → lacks b ((decimal n ++ 32 ∷ []) ++ decimal v) ≡ true
two_lack b n v low space small-n small-v =
    lacks-append b (decimal n ++ 32 ∷ []) (decimal v) (lacks-append b (decimal n) (32 ∷ []) (decimal_lacks b n low small-n) space) (decimal_lacks b v low small-v)

three_lack : (b n v at : ℕ) → b < 48 → lacks b (32 ∷ []) ≡ true → n < 2 ^ 64 → v < 2 ^ 64 → at < 2 ^ 64
    → lacks b ((((decimal n ++ 32 ∷ []) ++ decimal v) ++ 32 ∷ []) ++ decimal at) ≡ true
three_lack b n v at low space small-n small-v small-at =
    lacks-append b (((decimal n ++ 32 ∷ []) ++ decimal v) ++ 32 ∷ []) (decimal at) (lacks-append b ((decimal n ++ 32 ∷ []) ++ decimal v) (32 ∷ []) (two_lack b n v low space small-n small-v) space) (decimal_lacks b at low small-at)

command_lacks_comma : (c : Command) → IsCommand c → lacks 44 (command_text c) ≡ true
command_lacks_comma (Push value) h = decimal_lacks 44 value (omega arith) h
command_lacks_comma (Grow n value) h = two_lack 44 n value (omega arith) refl h.0 h.1
command_lacks_comma (AtLeast to value) h = two_lack 44 to value (omega arith) refl h.0 h.1
command_lacks_comma (Fail n value at) h = three_lack 44 n value at (omega arith) refl h.0 h.1 (omega (arith, h.2, h.0))
command_lacks_comma (Mend place value) h = two_lack 44 place value (omega arith) refl h.0 h.1
command_lacks_comma (Read place) h = decimal_lacks 44 place (omega arith) h
command_lacks_comma Size h = refl

command_lacks_lf : (c : Command) → IsCommand c → lacks 10 (command_text c) ≡ true
command_lacks_lf (Push value) h = decimal_lacks 10 value (omega arith) h
command_lacks_lf (Grow n value) h = two_lack 10 n value (omega arith) refl h.0 h.1
command_lacks_lf (AtLeast to value) h = two_lack 10 to value (omega arith) refl h.0 h.1
command_lacks_lf (Fail n value at) h = three_lack 10 n value at (omega arith) refl h.0 h.1 (omega (arith, h.2, h.0))
command_lacks_lf (Mend place value) h = two_lack 10 place value (omega arith) refl h.0 h.1
command_lacks_lf (Read place) h = decimal_lacks 10 place (omega arith) h
command_lacks_lf Size h = refl

-- ---- Programs

-- the step gives these of those, in order
abbrev pub EachGives : {X Y : Type 0} → (X → Result Y Fault) → List X → List Y → Type 0
EachGives step [] [] = Unit {0}
EachGives step [] (z ∷ zs) = ⊥
EachGives step (x ∷ xs) [] = ⊥
EachGives step (x ∷ xs) (z ∷ zs) = (step x ≡ Ok z) × EachGives step xs zs

pub each_takes : {X Y : Type 0} (step : X → Result Y Fault) (most : ℕ) (done ys : List Y) (xs : List X)
    → length done ≤ most → try_each step most done xs ≡ Ok ys
    → (zs : List Y) × (ys ≡ done ++ zs) × EachGives step xs zs × (length ys ≤ most)
unfolding try_each
each_takes step most done ys [] le h =
    let e : done ≡ ys = ok_is done ys h in
    ([], sym e ∙ sym (append-nil done), tt, omega (arith, ap length e))
each_takes step most done ys (x ∷ xs) le h =
    let p = refusal_ok (leb most (length done)) (step x >>= λ y. try_each step most (done ++ y ∷ []) xs) TooMany ys h in
    let room = leb-false most (length done) p.0 in
    let q = bind_ok (step x) (λ y. try_each step most (done ++ y ∷ []) xs) ys p.1 in
    let rest = each_takes step most (done ++ q.0 ∷ []) ys xs (omega (arith, length-append done (q.0 ∷ []))) q.2 in
    (q.0 ∷ rest.0, rest.1 ∙ append_assoc done (q.0 ∷ []) rest.0, (q.1, rest.2), rest.3)

pub each_again : {X Y : Type 0} (step : X → Result Y Fault) (most : ℕ) (done zs : List Y) (xs : List X)
    → EachGives step xs zs → length done + length zs ≤ most → try_each step most done xs ≡ Ok (done ++ zs)
unfolding try_each
each_again step most done [] [] h le = ap (λ (l : List _). Ok l) (sym (append-nil done))
each_again step most done (z ∷ zs) [] h le = absurd h
each_again step most done [] (x ∷ xs) h le = absurd h
each_again step most done (z ∷ zs) (x ∷ xs) h le =
    let rest = each_again step most (done ++ z ∷ []) zs xs h.1 (omega (arith, length-append done (z ∷ []))) in
    rw (lt-leb most (length done) (omega arith), h.0) (rest ∙ ap (λ (l : List _). Ok l) (append_assoc done (z ∷ []) zs))

pieces_spelled : (xs : List (List ℕ)) (program : List Command)
    → EachGives (λ piece. parsed_command (words piece)) xs program
    → (xs ≡ map command_text program) × AllByRecursion IsCommand program × (length xs ≡ length program)
pieces_spelled [] [] h = (refl, tt, refl)
pieces_spelled [] (c ∷ cs) h = absurd h
pieces_spelled (x ∷ xs) [] h = absurd h
pieces_spelled (x ∷ xs) (c ∷ cs) h =
    let first = piece_takes x c h.0 in
    let rest = pieces_spelled xs cs h.1 in
    (rw (first.0, rest.0) refl, (first.1, rest.1), ap suc rest.2)

pieces_read : (program : List Command) → AllByRecursion IsCommand program
    → EachGives (λ piece. parsed_command (words piece)) (map command_text program) program
pieces_read [] h = tt
pieces_read (c ∷ cs) h = (command_again c h.0, pieces_read cs h.1)

-- the pieces, joined again
joined_onto : (b : ℕ) (x : List ℕ) (xs : List (List ℕ))
    → joined (44 ∷ 32 ∷ []) (onto_first b (x ∷ xs)) ≡ b ∷ joined (44 ∷ 32 ∷ []) (x ∷ xs)
joined_onto b x [] = refl
joined_onto b x (y ∷ ys) = refl

joined_next : (x : List ℕ) (xs ys : List (List ℕ)) → 0 < length ys
    → joined (44 ∷ 32 ∷ []) (x ∷ ys) ≡ x ++ (44 ∷ 32 ∷ joined (44 ∷ 32 ∷ []) ys)
joined_next x xs [] some = absurd (omega arith)
joined_next x xs (y ∷ ys) some = refl

joined_on : (b : ℕ) (ps : List (List ℕ)) → 0 < length ps
    → joined (44 ∷ 32 ∷ []) (onto_first b ps) ≡ b ∷ joined (44 ∷ 32 ∷ []) ps
joined_on b [] some = absurd (omega arith)
joined_on b (x ∷ xs) some = joined_onto b x xs

joined-pieces : (text : List ℕ) → joined (44 ∷ 32 ∷ []) (pieces text) ≡ text
unfolding pieces
joined-pieces [] = refl
joined-pieces (b ∷ []) = refl
joined-pieces (b ∷ c ∷ bs) =
    elim (cases_Bool (eqb b 44 && eqb c 32)) [
      | inl hit ↦
          let p = and_parts (eqb b 44) (eqb c 32) hit in
          let split = cond-true (eqb b 44 && eqb c 32) ([] ∷ pieces bs) (onto_first b (pieces (c ∷ bs))) hit in
          ap (joined (44 ∷ 32 ∷ [])) split ∙ joined_next [] [] (pieces bs) (some_pieces bs)
          ∙ ap (λ (l : List ℕ). 44 ∷ 32 ∷ l) (joined-pieces bs)
          ∙ ap (λ (d : ℕ). d ∷ 32 ∷ bs) (sym (eqb-true b 44 p.0)) ∙ ap (λ (d : ℕ). b ∷ d ∷ bs) (sym (eqb-true c 32 p.1))
      | inr miss ↦
          let split = cond-false (eqb b 44 && eqb c 32) ([] ∷ pieces bs) (onto_first b (pieces (c ∷ bs))) miss in
          ap (joined (44 ∷ 32 ∷ [])) split ∙ joined_on b (pieces (c ∷ bs)) (some_pieces (c ∷ bs)) ∙ ap (λ (l : List ℕ). b ∷ l) (joined-pieces (c ∷ bs))
    ]

-- what is split at a comma that the front lacks
pieces_front : (x rest : List ℕ) → lacks 44 x ≡ true → pieces (x ++ (44 ∷ 32 ∷ rest)) ≡ x ∷ pieces rest
unfolding pieces
pieces_front [] rest h = refl
pieces_front (b ∷ []) rest h =
    let p = not-true (eqb b 44) (and_parts (not (eqb b 44)) true h).0 in
    rw p refl
pieces_front (b ∷ c ∷ x) rest h =
    let q = and_parts (not (eqb b 44)) (lacks 44 (c ∷ x)) h in
    let p = not-true (eqb b 44) q.0 in
    rw (p, pieces_front (c ∷ x) rest q.1) refl

pieces_whole : (x : List ℕ) → lacks 44 x ≡ true → pieces x ≡ x ∷ []
unfolding pieces
pieces_whole [] h = refl
pieces_whole (b ∷ []) h = refl
pieces_whole (b ∷ c ∷ x) h =
    let q = and_parts (not (eqb b 44)) (lacks 44 (c ∷ x)) h in
    let p = not-true (eqb b 44) q.0 in
    rw (p, pieces_whole (c ∷ x) q.1) refl

pieces-program : (c : Command) (cs : List Command) → AllByRecursion IsCommand (c ∷ cs)
    → pieces (joined (44 ∷ 32 ∷ []) (map command_text (c ∷ cs))) ≡ map command_text (c ∷ cs)
pieces-program c [] h = pieces_whole (command_text c) (command_lacks_comma c h.0)
pieces-program c (d ∷ cs) h =
    pieces_front (command_text c) (joined (44 ∷ 32 ∷ []) (map command_text (d ∷ cs))) (command_lacks_comma c h.0)
    ∙ ap (λ (l : List (List ℕ)). command_text c ∷ l) (pieces-program d cs h.1)

pub program_takes : (text : List ℕ) (program : List Command) → parsed_program text ≡ Ok program
    → (text ≡ program_text program) × IsProgram program
unfolding parsed_program
program_takes text program h =
    let each = each_takes (λ piece. parsed_command (words piece)) 1000 [] program (pieces text) (omega arith) h in
    let gives : EachGives (λ piece. parsed_command (words piece)) (pieces text) program = subst (EachGives (λ piece. parsed_command (words piece)) (pieces text)) (sym each.1) each.2 in
    let spelled = pieces_spelled (pieces text) program gives in (
      sym (joined-pieces text) ∙ ap (joined (44 ∷ 32 ∷ [])) spelled.0,
      (omega (arith, spelled.2, some_pieces text), each.3, All-from_recursion IsCommand program spelled.1),
    )

pub program_again : (program : List Command) → IsProgram program → parsed_program (program_text program) ≡ Ok program
unfolding parsed_program
program_again [] h = absurd (omega (arith, h.0))
program_again (c ∷ cs) h =
    let all = recursion_from_All IsCommand (c ∷ cs) h.2 in
    ap (try_each (λ piece. parsed_command (words piece)) 1000 []) (pieces-program c cs all)
    ∙ each_again (λ piece. parsed_command (words piece)) 1000 [] (c ∷ cs) (map command_text (c ∷ cs)) (pieces_read (c ∷ cs) all) (omega (arith, h.1))

program_lacks : (program : List Command) → AllByRecursion IsCommand program → lacks 10 (program_text program) ≡ true
program_lacks [] h = refl
program_lacks (c ∷ []) h = command_lacks_lf c h.0
program_lacks (c ∷ d ∷ cs) h =
    lacks-append 10 (command_text c) (44 ∷ 32 ∷ program_text (d ∷ cs)) (command_lacks_lf c h.0) (program_lacks (d ∷ cs) h.1)

-- a program has no LF
pub program_lacks_lf : (program : List Command) → IsProgram program → lacks 10 (program_text program) ≡ true
program_lacks_lf program h = program_lacks program (recursion_from_All IsCommand program h.2)
