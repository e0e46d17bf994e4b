-- Whole scripts: what is read is spelled so, and what is spelled so is read.
use Rattle.std.proofs.Common.{◌≡◌, ◌≢◌, ℕ, suc, ◌+◌, ◌<◌, ◌≤◌, Bool, true, false, cond, eqb, ltb, List, [], ◌∷◌, ◌++◌, length, get_or, drop, Result, Ok, Err, refl, sym, ap, subst, ◌∙◌, arith, inl, inr, ◌⊎◌, append_assoc}
use Rattle.std.specs.Prelude.{codes, decimal, All, AllPairs, IfOk}
use Rattle.std.specs.List.{starts_with, slice_split, join_with_byte, AllByRecursion, flat_map}
use Rattle.std.specs.Str.{bytes_eq}
use Rattle.std.proofs.lemmas.Bool.{cases_Bool, or_cases, ne_eqb, ltb-false, cond-false}
use Rattle.std.proofs.lemmas.List.{append-nil, length-append, get_or_append_left, get_or_at}
use Rattle.std.proofs.lemmas.List.Elements.{All-nil, All-push, All-get_or, All-weaker, recursion_from_All}
use Rattle.std.proofs.lemmas.List.Quantifiers.{all_pairs_push}
use Rattle.std.proofs.lemmas.List.Splits.{length-slice_split, join_with_byte-slice_split}
use Rattle.std.proofs.lemmas.Slice.Eq.{bytes_eq-Decides}
use Rattle.book_core.specs.declared.commands.Command.{Command}
use Rattle.book_core.specs.declared.commands.Command.TheVariants as commands
use Rattle.book_core.specs.declared.commands.Item.{Item}
use Rattle.seg_core.specs.Segment.{IsLayout, IsLimit}
use Rattle.book_core.specs.Commands.{IsSound, AreSound, HavePrograms}
use Rattle.script_core.specs.declared.error.ScriptError.{ScriptError}
use Rattle.script_core.specs.declared.error.ScriptError.TheVariants as errors
use Rattle.script_core.specs.declared.error.Fault.{Fault}
use Rattle.script_core.specs.declared.script.Script.{Script}
use Rattle.script_core.specs.Reading.{GivesLines}
use Rattle.script_core.specs.Grammar.{lines, lines_of_parts, at_line, parsed_limit, parsed_actor, parsed_items, is_actor_line, is_items_line, is_layout_line, layout_in, closed, script, body_of, after_limit, script_of_lines, script_of}
use Rattle.script_core.specs.Spelling.{limit_line, layout_line, layout_text, actor_line, actors_text, items_line, item_text, program_text, text_of, IsName, IsCommand, IsProgram, IsScript}
use Rattle.script_core.proofs.LineByLine.{actor_found, items_found, other_line, no_layout, layout_found, first_found, found_at}
use Rattle.script_core.proofs.NumberSpelling.{bind_ok, refusal_ok, lacks, decimal_lacks, split_front, split_whole}
use Rattle.script_core.proofs.CommandSpelling.{chosen, program_lacks_lf}
use Rattle.script_core.proofs.ItemSpelling.{IsAfterWord, items_takes, items_again, items_lack_lf}
use Rattle.script_core.proofs.ActorSpelling.{begins, limit_takes, limit_again, layout_takes, layout_again, IsActor, actor_takes, actor_again, fresh_name, name_fresh}

-- ---- Lines and the text that they are

-- lines with an LF after each, or after each but the last
abbrev text_of_lines : Bool → List (List ℕ) → List ℕ
text_of_lines last [] = []
text_of_lines last (l ∷ []) = l ++ cond last (10 ∷ []) []
text_of_lines last (l ∷ m ∷ more) = l ++ (10 ∷ text_of_lines last (m ∷ more))

last_part : (part : List ℕ) → (last : Bool) × (part ≡ text_of_lines last (lines_of_parts (part ∷ [])))
last_part [] = (true, refl)
last_part (b ∷ bs) = (false, rw (ne_eqb (length (b ∷ bs)) 0 (λ e. absurd (omega arith))) (sym (append-nil (b ∷ bs))))

two_parts : (x part : List ℕ) → (last : Bool) × (x ++ (10 ∷ part) ≡ text_of_lines last (lines_of_parts (x ∷ part ∷ [])))
two_parts x [] = (true, refl)
two_parts x (b ∷ bs) = (false, rw (ne_eqb (length (b ∷ bs)) 0 (λ e. absurd (omega arith))) (ap (λ (l : List ℕ). x ++ (10 ∷ l)) (sym (append-nil (b ∷ bs)))))

parts_joined : (parts : List (List ℕ))
    → (last : Bool) × (join_with_byte 10 parts ≡ text_of_lines last (lines_of_parts parts))
parts_joined [] = (true, refl)
parts_joined (x ∷ []) = last_part x
parts_joined (x ∷ y ∷ []) = two_parts x y
parts_joined (x ∷ y ∷ z ∷ more) =
    let rest = parts_joined (y ∷ z ∷ more) in
    (rest.0, ap (λ (l : List ℕ). x ++ (10 ∷ l)) rest.1)

lines_joined : (text : List ℕ) → (last : Bool) × (text ≡ text_of_lines last (lines text))
unfolding lines
lines_joined text =
    let p = parts_joined (slice_split (λ b. eqb b 10) text) in
    (p.0, sym (join_with_byte-slice_split 10 text) ∙ p.1)

parts_next : (x : List ℕ) (parts : List (List ℕ)) → 0 < length parts
    → lines_of_parts (x ∷ parts) ≡ x ∷ lines_of_parts parts
parts_next x [] some = absurd (omega arith)
parts_next x (y ∷ ys) some = refl

lines_front : (l rest : List ℕ) → lacks 10 l ≡ true → lines (l ++ (10 ∷ rest)) ≡ l ∷ lines rest
unfolding lines
lines_front l rest h =
    ap lines_of_parts (split_front 10 l rest h)
    ∙ parts_next l (slice_split (λ b. eqb b 10) rest) (omega (arith, length-slice_split (λ b. eqb b 10) rest))

lines_last : (l : List ℕ) (last : Bool) → lacks 10 l ≡ true → 0 < length l
    → lines (l ++ cond last (10 ∷ []) []) ≡ l ∷ []
unfolding lines
lines_last l true h some = lines_front l [] h
lines_last l false h some =
    ap (λ (t : List ℕ). lines_of_parts (slice_split (λ b. eqb b 10) t)) (append-nil l)
    ∙ ap lines_of_parts (split_whole 10 l h)
    ∙ cond-false (eqb (length l) 0) [] (l ∷ []) (ne_eqb (length l) 0 (λ e. absurd (omega arith)))

-- ---- What is read is spelled so

abbrev whole : {X : Type 0} → X → Result X ScriptError
whole x = Ok x

whole_is : {X : Type 0} (x y : X) → whole x ≡ whole y → x ≡ y
whole_is x y e = cc

at_line_ok : {X : Type 0} (line : ℕ) (r : Result X Fault) (x : X) → at_line line r ≡ Ok x → r ≡ Ok x
at_line_ok line (Ok y) x h = let e : whole y ≡ whole x = h in ap (λ (z : _). Ok z) (whole_is y x e)
at_line_ok line (Err f) x h = absurd cc

actor_line_is : (text : List ℕ) → is_actor_line text ≡ true → text ≡ codes "actor " ++ drop 6 text
unfolding is_actor_line
actor_line_is text h = begins text (codes "actor ") h

-- an items line is its word and what stands after it
items_line_is : (text : List ℕ) → is_items_line text ≡ true
    → (text ≡ codes "steps" ++ drop 5 text) × IsAfterWord (drop 5 text)
unfolding is_items_line
items_line_is text h =
    elim (or_cases (bytes_eq text (codes "steps")) (starts_with eqb text (codes "steps ")) h) [
      | inl alone ↦
          let e : text ≡ codes "steps" = (bytes_eq-Decides text (codes "steps")).0 alone in
          subst (λ (t : List ℕ). (t ≡ codes "steps" ++ drop 5 t) × IsAfterWord (drop 5 t)) (sym e) (refl, tt)
      | inr more ↦
          let e : text ≡ codes "steps " ++ drop 6 text = begins text (codes "steps ") more in
          subst (λ (t : List ℕ). (t ≡ codes "steps" ++ drop 5 t) × IsAfterWord (drop 5 t)) (sym e) (refl, refl)
    ]

-- what the lines after the first are, after actor lines with these names and programs
record IsBody (limit first : ℕ) (names : List ℕ) (programs : List (List Command)) (ls : List (List ℕ)) (s : Script) : Type 0 where
  later : List ℕ
  bodies : List (List Command)
  same_limit : s.limit ≡ limit
  same_first : s.first ≡ first
  names_are : s.names ≡ names ++ later
  programs_are : s.programs ≡ programs ++ bodies
  as_many : length later ≡ length bodies
  few : length s.names ≤ 16
  letters : All IsName s.names
  apart : AllPairs (λ a b. a ≢ b) s.names
  sound : All IsProgram s.programs
  items : (length s.items ≤ 100000) × All (λ item. item.actor < length s.names) s.items
  spelled : (last : Bool)
      → text_of_lines last ls ≡ actors_text later bodies ++ (items_line s.names s.items ++ cond last (10 ∷ []) [])

-- the names and programs of the actor lines so far
record AreActors (names : List ℕ) (programs : List (List Command)) : Type 0 where
  few : length names ≤ 16
  letters : All IsName names
  apart : AllPairs (λ a b. a ≢ b) names
  sound : All IsProgram programs

one_more : (names : List ℕ) (programs : List (List Command)) (text : List ℕ) (name : ℕ) (program : List Command)
    → AreActors names programs → IsActor names text name program
    → AreActors (names ++ name ∷ []) (programs ++ program ∷ [])
one_more names programs text name program so_far actor = record {
  few = omega (arith, length-append names (name ∷ []), actor.room);
  letters = All-push IsName names name so_far.letters actor.letter;
  apart = all_pairs_push (λ a b. a ≢ b) names name so_far.apart (λ k d lt. fresh_name name names actor.fresh k d lt);
  sound = All-push IsProgram programs program so_far.sound actor.commands;
}

items_end : (limit first : ℕ) (names : List ℕ) (programs : List (List Command)) (text : List ℕ) (rest : List (List ℕ))
    (items : List Item) (s : Script)
    → AreActors names programs → is_items_line text ≡ true → parsed_items names (drop 5 text) ≡ Ok items → rest ≡ []
    → script limit first names programs items ≡ s → IsBody limit first names programs (text ∷ rest) s
items_end limit first names programs text rest items s actors here read nothing made =
    let line = items_line_is text here in
    let found = items_takes names (drop 5 text) items line.1 read in
    let is : text ≡ items_line names items = line.0 ∙ ap (λ (t : List ℕ). codes "steps" ++ t) found.0 in
    subst (λ (r : List (List ℕ)). IsBody limit first names programs (text ∷ r) s) (sym nothing)
    (subst (λ (m : Script). IsBody limit first names programs (text ∷ []) m) made (record {
      later = [];
      bodies = [];
      same_limit = refl;
      same_first = refl;
      names_are = sym (append-nil names);
      programs_are = sym (append-nil programs);
      as_many = refl;
      few = actors.few;
      letters = actors.letters;
      apart = actors.apart;
      sound = actors.sound;
      items = (found.1, found.2);
      spelled = λ last. ap (λ (t : List ℕ). t ++ cond last (10 ∷ []) []) is;
    }))

actor_then : (limit first : ℕ) (names : List ℕ) (programs : List (List Command)) (text next : List ℕ)
    (rest : List (List ℕ)) (name : ℕ) (program : List Command) (s : Script)
    → is_actor_line text ≡ true → IsActor names (drop 6 text) name program
    → IsBody limit first (names ++ name ∷ []) (programs ++ program ∷ []) (next ∷ rest) s
    → IsBody limit first names programs (text ∷ next ∷ rest) s
actor_then limit first names programs text next rest name program s here actor body =
    let is : text ≡ actor_line name program = actor_line_is text here ∙ ap (λ (t : List ℕ). codes "actor " ++ t) actor.spelled in
    record {
      later = name ∷ body.later;
      bodies = program ∷ body.bodies;
      same_limit = body.same_limit;
      same_first = body.same_first;
      names_are = body.names_are ∙ append_assoc names (name ∷ []) body.later;
      programs_are = body.programs_are ∙ append_assoc programs (program ∷ []) body.bodies;
      as_many = ap suc body.as_many;
      few = body.few;
      letters = body.letters;
      apart = body.apart;
      sound = body.sound;
      items = body.items;
      spelled = λ last.
          ap (λ (t : List ℕ). t ++ (10 ∷ text_of_lines last (next ∷ rest))) is
          ∙ ap (λ (t : List ℕ). actor_line name program ++ (10 ∷ t)) (body.spelled last)
          ∙ sym (append_assoc (actor_line name program) (10 ∷ actors_text body.later body.bodies) (items_line s.names s.items ++ cond last (10 ∷ []) []));
    }

body_takes : (limit first line : ℕ) (names : List ℕ) (programs : List (List Command)) (ls : List (List ℕ)) (s : Script)
    → AreActors names programs → body_of limit first line names programs ls ≡ Ok s → IsBody limit first names programs ls s
unfolding body_of
body_takes limit first line names programs [] s actors h = absurd cc
body_takes limit first line names programs (text ∷ []) s actors h =
    elim (chosen (is_actor_line text) _ _ (Ok s) h) [
      | inl p ↦
          let q = bind_ok (at_line line (parsed_actor names (drop 6 text))) (λ actor. body_of limit first (line + 1) (names ++ actor.0 ∷ []) (programs ++ actor.1 ∷ []) []) s p.1 in
          let no : Err (errors.NoItems (line + 1)) ≡ whole s = q.2 in
          absurd cc
      | inr p ↦
          elim (chosen (is_items_line text) _ _ (Ok s) p.1) [
            | inl t ↦
                let q = bind_ok (at_line line (parsed_items names (drop 5 text))) (λ items. closed (line + 1) (script limit first names programs items) []) s t.1 in
                items_end limit first names programs text [] q.0 s actors t.0 (at_line_ok line _ q.0 q.1) refl (whole_is _ s q.2)
            | inr t ↦ let no : Err (errors.BadLine line) ≡ whole s = t.1 in absurd cc
          ]
    ]
body_takes limit first line names programs (text ∷ next ∷ rest) s actors h =
    elim (chosen (is_actor_line text) _ _ (Ok s) h) [
      | inl p ↦
          let q = bind_ok (at_line line (parsed_actor names (drop 6 text))) (λ actor. body_of limit first (line + 1) (names ++ actor.0 ∷ []) (programs ++ actor.1 ∷ []) (next ∷ rest)) s p.1 in
          let actor = actor_takes names (drop 6 text) q.0 (at_line_ok line _ q.0 q.1) in
          actor_then limit first names programs text next rest q.0.0 q.0.1 s p.0 actor
          (body_takes limit first (line + 1) (names ++ q.0.0 ∷ []) (programs ++ q.0.1 ∷ []) (next ∷ rest) s (one_more names programs (drop 6 text) q.0.0 q.0.1 actors actor) q.2)
      | inr p ↦
          elim (chosen (is_items_line text) _ _ (Ok s) p.1) [
            | inl t ↦
                let q = bind_ok (at_line line (parsed_items names (drop 5 text))) (λ items. closed (line + 1) (script limit first names programs items) (next ∷ rest)) s t.1 in
                let no : Err (errors.BadLine (line + 1)) ≡ whole s = q.2 in
                absurd cc
            | inr t ↦ let no : Err (errors.BadLine line) ≡ whole s = t.1 in absurd cc
          ]
    ]

no_actors : AreActors [] []
no_actors = record { few = omega arith; letters = All-nil IsName; apart = λ i j d below lt. absurd (omega (arith, lt)); sound = All-nil IsProgram }

-- what the lines after the first are
record IsRest (limit : ℕ) (ls : List (List ℕ)) (s : Script) : Type 0 where
  with_layout : Bool
  later : List (List ℕ)
  first : (1 ≤ s.first) × (s.first ≤ 8) × (with_layout ≡ false → s.first ≡ 1)
  body : IsBody limit s.first [] [] later s
  spelled : (last : Bool) → text_of_lines last ls ≡ layout_text s.first with_layout ++ text_of_lines last later

layout_line_is : (text : List ℕ) (first : ℕ) → is_layout_line text ≡ true → drop 6 text ≡ decimal first
    → text ≡ layout_line first
unfolding is_layout_line
layout_line_is text first h after = begins text (codes "first ") h ∙ ap (λ (t : List ℕ). codes "first " ++ t) after

without_layout : (limit : ℕ) (ls : List (List ℕ)) (s : Script) → body_of limit 1 2 [] [] ls ≡ Ok s → IsRest limit ls s
without_layout limit ls s h =
    let body = body_takes limit 1 2 [] [] ls s no_actors h in
    record {
      with_layout = false;
      later = ls;
      first = (omega (arith, body.same_first), omega (arith, body.same_first), λ said. body.same_first);
      body = subst (λ (f : ℕ). IsBody limit f [] [] ls s) (sym body.same_first) body;
      spelled = λ last. refl;
    }

after_layout : (limit first : ℕ) (text : List ℕ) (rest : List (List ℕ)) (s : Script) → text ≡ layout_line first
    → 1 ≤ first → first ≤ 8 → body_of limit first 3 [] [] rest ≡ Ok s → IsRest limit (text ∷ rest) s
unfolding body_of
after_layout limit first text [] s is low high h = let no : Err (errors.NoItems 3) ≡ whole s = h in absurd cc
after_layout limit first text (next ∷ rest) s is low high h =
    let body = body_takes limit first 3 [] [] (next ∷ rest) s no_actors h in
    let line : text ≡ layout_line s.first = is ∙ ap layout_line (sym body.same_first) in
    record {
      with_layout = true;
      later = next ∷ rest;
      first = (omega (arith, body.same_first), omega (arith, body.same_first), λ said. absurd cc);
      body = subst (λ (f : ℕ). IsBody limit f [] [] (next ∷ rest) s) (sym body.same_first) body;
      spelled = λ last.
          ap (λ (t : List ℕ). t ++ (10 ∷ text_of_lines last (next ∷ rest))) line
          ∙ sym (append_assoc (layout_line s.first) (10 ∷ []) (text_of_lines last (next ∷ rest)));
    }

rest_takes : (limit : ℕ) (ls : List (List ℕ)) (s : Script) → after_limit limit ls ≡ Ok s → IsRest limit ls s
unfolding after_limit
rest_takes limit [] s h = without_layout limit [] s h
rest_takes limit (text ∷ rest) s h =
    elim (chosen (is_layout_line text) _ _ (Ok s) h) [
      | inl p ↦
          let q = bind_ok (at_line 2 (layout_in (drop 6 text))) (λ first. body_of limit first 3 [] [] rest) s p.1 in
          let found = layout_takes (drop 6 text) q.0 (at_line_ok 2 _ q.0 q.1) in
          after_layout limit q.0 text rest s (layout_line_is text q.0 p.0 found.0) found.1.0 found.1.1 q.2
      | inr p ↦ without_layout limit (text ∷ rest) s p.1
    ]

lines_take : (text : List ℕ) (last : Bool) (ls : List (List ℕ)) (s : Script) → length text ≤ 1048576
    → text ≡ text_of_lines last ls → script_of_lines ls ≡ Ok s
    → (with_layout : Bool) × IsScript s with_layout last × (text ≡ text_of s with_layout last)
unfolding script_of_lines after_limit body_of
lines_take text last [] s short joined h = let no : Err (errors.Empty 1) ≡ whole s = h in absurd cc
lines_take text last (first ∷ []) s short joined h =
    let q = bind_ok (at_line 1 (parsed_limit first)) (λ limit. after_limit limit []) s h in
    let no : Err (errors.NoItems 2) ≡ whole s = q.2 in
    absurd cc
lines_take text last (first ∷ next ∷ rest) s short joined h =
    let q = bind_ok (at_line 1 (parsed_limit first)) (λ limit. after_limit limit (next ∷ rest)) s h in
    let limit = limit_takes first q.0 (at_line_ok 1 _ q.0 q.1) in
    let more = rest_takes q.0 (next ∷ rest) s q.2 in
    let body = more.body in
    let actors : actors_text s.names s.programs ≡ actors_text body.later body.bodies = ap (λ (ns : List ℕ). actors_text ns s.programs) body.names_are ∙ ap (actors_text body.later) body.programs_are in
    let is : text ≡ text_of s more.with_layout last =
    joined ∙ ap (λ (t : List ℕ). t ++ (10 ∷ text_of_lines last (next ∷ rest))) (limit.0 ∙ ap limit_line (sym body.same_limit))
    ∙ ap (λ (t : List ℕ). limit_line s.limit ++ (10 ∷ t)) (more.spelled last ∙ ap (λ (t : List ℕ). layout_text s.first more.with_layout ++ t) (body.spelled last ∙ ap (λ (t : List ℕ). t ++ (items_line s.names s.items ++ cond last (10 ∷ []) [])) (sym actors))) in (
      more.with_layout,
      record {
        limit = rw body.same_limit limit.1;
        first = more.first;
        actors = (body.few, ap length body.names_are ∙ body.as_many ∙ sym (ap length body.programs_are));
        names = (body.letters, body.apart);
        programs = body.sound;
        items = body.items;
        bytes = omega (arith, ap length is);
      },
      is,
    )

-- what is read is a script in its spelling
script_takes : (text : List ℕ) (s : Script) → script_of text ≡ Ok s
    → (with_layout last_lf : Bool) × IsScript s with_layout last_lf × (text ≡ text_of s with_layout last_lf)
unfolding script_of
script_takes text s h =
    let some = refusal_ok (eqb (length text) 0) _ (errors.Empty 1) s h in
    let short = refusal_ok (ltb 1048576 (length text)) (script_of_lines (lines text)) _ s some.1 in
    let joined = lines_joined text in
    let p = lines_take text joined.0 (lines text) s (ltb-false 1048576 (length text) short.0) joined.1 short.1 in
    (p.0, joined.0, p.1, p.2)

-- ---- What is spelled so is read

steps_is_no_actor : (text : List ℕ) → is_actor_line (codes "steps" ++ text) ≡ false
unfolding is_actor_line
steps_is_no_actor text = refl

steps_is_items : (text : List ℕ) → IsAfterWord text → is_items_line (codes "steps" ++ text) ≡ true
unfolding is_items_line
steps_is_items [] h = refl
steps_is_items (c ∷ cs) h = rw h refl

items_after : (names : List ℕ) (items : List Item) → IsAfterWord (flat_map (item_text names) items)
items_after names [] = tt
items_after names (i ∷ is) = refl

actor_is : (name : ℕ) (program : List Command) → is_actor_line (actor_line name program) ≡ true
unfolding is_actor_line
actor_is name program = refl

-- a name among others, which stand before it and after it
name_among : (names all later : List ℕ) (name : ℕ) → all ≡ names ++ name ∷ later → AllPairs (λ a b. a ≢ b) all
    → (k : ℕ) → k < length names → get_or names k 0 ≢ name
name_among names all later name is apart k lt same =
    let len : length all ≡ length names + suc (length later) = ap length is ∙ length-append names (name ∷ later) in
    let left : get_or all k 0 ≡ get_or names k 0 = ap (λ (l : List ℕ). get_or l k 0) is ∙ get_or_append_left names (name ∷ later) 0 k lt in
    let right : get_or all (length names) 0 ≡ name = ap (λ (l : List ℕ). get_or l (length names) 0) is ∙ get_or_at names name later 0 (length names) refl in
    apart k (length names) 0 lt (omega (arith, len)) (left ∙ same ∙ sym right)

name_line_lacks : (name : ℕ) (program : List Command) → IsName name → IsProgram program
    → lacks 10 (actor_line name program) ≡ true
name_line_lacks name program letter h =
    rw (ne_eqb name 10 (λ e. absurd (omega (arith, letter)))) (program_lacks_lf program h)

body_again : (limit first line : ℕ) (names all : List ℕ) (programs both : List (List Command)) (later : List ℕ)
    (bodies : List (List Command)) (items : List Item) (last : Bool)
    → all ≡ names ++ later → both ≡ programs ++ bodies → length later ≡ length bodies → length all ≤ 16
    → All IsName all → AllPairs (λ a b. a ≢ b) all → AllByRecursion IsProgram bodies → length items ≤ 100000
    → All (λ item. item.actor < length all) items
    → body_of limit first line names programs (lines (actors_text later bodies ++ (items_line all items ++ cond last (10 ∷ []) []))) ≡ Ok (script limit first all both items)
body_again limit first line names all programs both [] [] items last all_is both_is same few letters apart sound few_items own =
    let end : names ≡ all = sym (all_is ∙ append-nil names) in
    let ends : programs ≡ both = sym (both_is ∙ append-nil programs) in
    let one : lines (items_line all items ++ cond last (10 ∷ []) []) ≡ items_line all items ∷ [] = lines_last (items_line all items) last (items_lack_lf all items letters own) (omega arith) in
    let found = items_found limit first line all both (items_line all items) (flat_map (item_text all) items) [] items (steps_is_no_actor (flat_map (item_text all) items)) (steps_is_items (flat_map (item_text all) items) (items_after all items)) refl (found_at line items _ (items_again all items letters apart few_items own)) in
    ap (λ (ns : List ℕ). body_of limit first line ns programs (lines (items_line all items ++ cond last (10 ∷ []) []))) end
    ∙ ap (λ (ps : List (List Command)). body_of limit first line all ps (lines (items_line all items ++ cond last (10 ∷ []) []))) ends
    ∙ ap (body_of limit first line all both) one
    ∙ found
body_again limit first line names all programs both [] (program ∷ bodies) items last all_is both_is same few letters apart sound few_items own = absurd (omega (arith, same))
body_again limit first line names all programs both (name ∷ later) [] items last all_is both_is same few letters apart sound few_items own = absurd (omega (arith, same))
body_again limit first line names all programs both (name ∷ later) (program ∷ bodies) items last all_is both_is same few letters apart sound few_items own =
    let rest : List ℕ = actors_text later bodies ++ (items_line all items ++ cond last (10 ∷ []) []) in
    let len : length all ≡ length names + suc (length later) = ap length all_is ∙ length-append names (name ∷ later) in
    let named : get_or all (length names) 0 ≡ name = ap (λ (l : List ℕ). get_or l (length names) 0) all_is ∙ get_or_at names name later 0 (length names) refl in
    let letter : IsName name = subst IsName named (All-get_or IsName all (length names) 0 (omega (arith, len)) letters) in
    let fresh = name_fresh name names (name_among names all later name all_is apart) in
    let lack : lacks 10 (actor_line name program) ≡ true = name_line_lacks name program letter sound.0 in
    let front : lines (actors_text (name ∷ later) (program ∷ bodies) ++ (items_line all items ++ cond last (10 ∷ []) [])) ≡ actor_line name program ∷ lines rest =
    ap lines (append_assoc (actor_line name program) (10 ∷ actors_text later bodies) (items_line all items ++ cond last (10 ∷ []) []))
    ∙ lines_front (actor_line name program) rest lack in
    let read = actor_again names name program (omega (arith, len, few)) letter fresh sound.0 in
    let found = actor_found limit first line names programs (actor_line name program) (name ∷ 32 ∷ program_text program) (lines rest) (name, program) (actor_is name program) refl (found_at line (name, program) _ read) in
    ap (body_of limit first line names programs) front ∙ found
    ∙ body_again limit first (line + 1) (names ++ name ∷ []) all (programs ++ program ∷ []) both later bodies items last (all_is ∙ sym (append_assoc names (name ∷ []) later)) (both_is ∙ sym (append_assoc programs (program ∷ []) bodies)) (omega (arith, same)) few letters apart sound.1 few_items own

-- all lines but those of the limit and the layout
abbrev body_text : Script → Bool → List ℕ
body_text s last = actors_text s.names s.programs ++ (items_line s.names s.items ++ cond last (10 ∷ []) [])

body_read : (s : Script) (with_layout last : Bool) (line : ℕ) → IsScript s with_layout last
    → body_of s.limit s.first line [] [] (lines (body_text s last)) ≡ Ok s
body_read s with_layout last line is = body_again s.limit s.first line [] s.names [] s.programs s.names s.programs s.items last refl refl is.actors.1 is.actors.0 is.names.0 is.names.1 (recursion_from_All IsProgram s.programs is.programs) is.items.0 is.items.1

layout_is : (first : ℕ) → is_layout_line (layout_line first) ≡ true
unfolding is_layout_line
layout_is first = refl

-- a layout line is no line of another kind
layout_alone : (text : List ℕ) → is_layout_line text ≡ true → (is_actor_line text ≡ false) × (is_items_line text ≡ false)
unfolding is_layout_line is_actor_line is_items_line
layout_alone text h = subst (λ (t : List ℕ). (is_actor_line t ≡ false) × (is_items_line t ≡ false)) (sym (begins text (codes "first ") h)) (refl, refl)

-- so lines that are read without a layout line begin with none
body_alone : (limit : ℕ) (ls : List (List ℕ)) (s : Script) → body_of limit 1 2 [] [] ls ≡ Ok s → after_limit limit ls ≡ Ok s
unfolding after_limit
body_alone limit [] s h = h
body_alone limit (text ∷ rest) s h =
    elim (cases_Bool (is_layout_line text)) [
      | inl here ↦
          let other = layout_alone text here in
          let no : Err (errors.BadLine 2) ≡ whole s = sym (other_line limit 1 2 [] [] text rest other.0 other.1) ∙ h in
          absurd cc
      | inr none ↦ no_layout limit text rest none ∙ h
    ]

rest_again : (s : Script) (with_layout last : Bool) → IsScript s with_layout last
    → after_limit s.limit (lines (layout_text s.first with_layout ++ body_text s last)) ≡ Ok s
rest_again s true last is =
    let lack : lacks 10 (layout_line s.first) ≡ true = decimal_lacks 10 s.first (omega arith) (omega (arith, is.first)) in
    let split : lines (layout_text s.first true ++ body_text s last) ≡ layout_line s.first ∷ lines (body_text s last) =
    ap lines (append_assoc (layout_line s.first) (10 ∷ []) (body_text s last)) ∙ lines_front (layout_line s.first) (body_text s last) lack in
    ap (after_limit s.limit) split
    ∙ layout_found s.limit s.first (layout_line s.first) (lines (body_text s last)) (layout_is s.first) (found_at 2 s.first _ (layout_again s.first is.first.0 is.first.1))
    ∙ body_read s true last 3 is
rest_again s false last is =
    let one : s.first ≡ 1 = is.first.2 refl in
    body_alone s.limit (lines (body_text s last)) s
    (ap (λ (f : ℕ). body_of s.limit f 2 [] [] (lines (body_text s last))) (sym one) ∙ body_read s false last 2 is)

-- a script in its spelling is read
script_again : (s : Script) (with_layout last : Bool) → IsScript s with_layout last
    → script_of (text_of s with_layout last) ≡ Ok s
script_again s with_layout last is =
    let rest : List ℕ = layout_text s.first with_layout ++ body_text s last in
    let lack : lacks 10 (limit_line s.limit) ≡ true = decimal_lacks 10 s.limit (omega arith) (omega (arith, is.limit)) in
    let split : lines (text_of s with_layout last) ≡ limit_line s.limit ∷ lines rest = lines_front (limit_line s.limit) rest lack in
    let limit = found_at 1 s.limit _ (limit_again s.limit is.limit.0 is.limit.1) in
    first_found (text_of s with_layout last) (limit_line s.limit) (lines rest) s.limit (omega arith) is.bytes split limit
    ∙ rest_again s with_layout last is

-- ---- Results of the reader

memory_or : (e : ScriptError) → (e ≡ errors.NoMemory) ⊎ (e ≡ errors.NoMemory → ⊥)
memory_or errors.NoMemory = inl refl
memory_or (errors.Empty line) = inr (λ same. absurd cc)
memory_or (errors.BadLimit line) = inr (λ same. absurd cc)
memory_or (errors.BadLine line) = inr (λ same. absurd cc)
memory_or (errors.BadName line) = inr (λ same. absurd cc)
memory_or (errors.TwiceNamed line) = inr (λ same. absurd cc)
memory_or (errors.BadCommand line) = inr (λ same. absurd cc)
memory_or (errors.NumberTooLarge line) = inr (λ same. absurd cc)
memory_or (errors.TooMany line) = inr (λ same. absurd cc)
memory_or (errors.NoItems line) = inr (λ same. absurd cc)
memory_or (errors.BadFirst line) = inr (λ same. absurd cc)

pub found_by : (r : Result Script ScriptError) (text : List ℕ) → GivesLines r (script_of text)
    → IfOk r (λ s. (with_layout last_lf : Bool) × IsScript s with_layout last_lf
    × (text ≡ text_of s with_layout last_lf))
found_by (Ok s) text h = script_takes text s h
found_by (Err e) text h = tt

pub only_by : (r : Result Script ScriptError) (text : List ℕ) → GivesLines r (script_of text)
    → (s : Script) (with_layout last : Bool) → IsScript s with_layout last → text ≡ text_of s with_layout last
    → (r ≡ Ok s) ⊎ (r ≡ Err errors.NoMemory)
only_by (Ok x) text h s with_layout last is same =
    let e : whole x ≡ whole s = sym h ∙ ap script_of same ∙ script_again s with_layout last is in
    inl e
only_by (Err e) text h s with_layout last is same =
    elim (memory_or e) [
      | inl memory ↦ inr (ap (λ (d : ScriptError). Err d) memory)
      | inr other ↦
          let no : Err e ≡ whole s = sym (h other) ∙ ap script_of same ∙ script_again s with_layout last is in
          absurd cc
    ]

-- ---- A script can be played

command_sound : (c : Command) → IsCommand c → IsSound c
command_sound (commands.Push value) h = tt
command_sound (commands.Grow n value) h = tt
command_sound (commands.AtLeast to value) h = tt
command_sound (commands.Fail n value at) h = h.2
command_sound (commands.Mend place value) h = tt
command_sound (commands.Read place) h = tt
command_sound commands.Size h = tt

program_sound : (program : List Command) → IsProgram program → All IsSound program
program_sound program h = All-weaker IsCommand IsSound command_sound program h.2

playable : (s : Script) (with_layout last : Bool) → IsScript s with_layout last
    → (IsLimit s.limit × (s.limit ≤ 65536)) × (length s.names ≡ length s.programs) × AreSound s.programs × HavePrograms s.programs s.items
playable s with_layout last is = (
  ((is.limit.0, omega (arith, is.limit)), is.limit.1),
  is.actors.1,
  All-weaker IsProgram (λ program. All IsSound program) program_sound s.programs is.programs,
  All-weaker (λ item. item.actor < length s.names) (λ item. item.actor < length s.programs) (λ item own. subst (λ (n : ℕ). item.actor < n) is.actors.1 own) s.items is.items.1,
)

pub limit_by : (r : Result Script ScriptError) (text : List ℕ) → GivesLines r (script_of text)
    → IfOk r (λ s. IsLimit s.limit × (s.limit ≤ 65536))
limit_by (Ok s) text h = let p = script_takes text s h in (playable s p.0 p.1 p.2).0
limit_by (Err e) text h = tt

pub layout_by : (r : Result Script ScriptError) (text : List ℕ) → GivesLines r (script_of text)
    → IfOk r (λ s. IsLayout s.first)
layout_by (Ok s) text h = let p = script_takes text s h in (p.2.first.0, p.2.first.1)
layout_by (Err e) text h = tt

pub names_by : (r : Result Script ScriptError) (text : List ℕ) → GivesLines r (script_of text)
    → IfOk r (λ s. length s.names ≡ length s.programs)
names_by (Ok s) text h = let p = script_takes text s h in (playable s p.0 p.1 p.2).1
names_by (Err e) text h = tt

pub sound_by : (r : Result Script ScriptError) (text : List ℕ) → GivesLines r (script_of text)
    → IfOk r (λ s. AreSound s.programs)
sound_by (Ok s) text h = let p = script_takes text s h in (playable s p.0 p.1 p.2).2
sound_by (Err e) text h = tt

pub actors_by : (r : Result Script ScriptError) (text : List ℕ) → GivesLines r (script_of text)
    → IfOk r (λ s. HavePrograms s.programs s.items)
actors_by (Ok s) text h = let p = script_takes text s h in (playable s p.0 p.1 p.2).3
actors_by (Err e) text h = tt
