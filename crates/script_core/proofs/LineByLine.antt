-- The effect of a further line, and the form of a whole text.
use Rattle.std.proofs.Common.{◌≡◌, ℕ, ◌+◌, ◌<◌, ◌≤◌, true, false, eqb, List, [], ◌∷◌, ◌++◌, length, take, drop, count_by, Result, Ok, Err, refl, sym, ap, ◌∙◌, arith}
use Rattle.std.proofs.lemmas.Bool.{eq-eqb, ne_eqb, lt-ltb, le-ltb}
use Rattle.book_core.specs.declared.commands.Command.{Command}
use Rattle.book_core.specs.declared.commands.Item.{Item}
use Rattle.script_core.specs.declared.error.ScriptError.{ScriptError}
use Rattle.script_core.specs.declared.error.ScriptError.TheVariants.{Empty, BadLine, TooMany, NoItems}
use Rattle.script_core.specs.declared.error.Fault.{Fault}
use Rattle.script_core.specs.declared.script.Script.{Script}
use Rattle.script_core.specs.Reading.{GivesLines}
use Rattle.script_core.specs.Grammar.{◌>>=◌, lines, at_line, parsed_limit, parsed_actor, parsed_items, is_actor_line, is_items_line, closed, script, body_of, after_limit, layout_in, is_layout_line, script_of_lines, script_of}
use Rattle.script_core.proofs.Cuts.{some_lines}

-- what is given without a fault needs no line
pub found_at : {X : Type 0} (line : ℕ) (x : X) (given : Result X Fault) → given ≡ Ok x → at_line line given ≡ Ok x
found_at line x given h = rw h refl

-- a reader that stops, and the whole that it is a step of
pub stops_whole : {X : Type 0} (e : ScriptError) (so_far total : Result X ScriptError) → so_far ≡ total
    → GivesLines (Err e) so_far → GivesLines (Err e) total
stops_whole e so_far total same h memory = sym same ∙ h memory

pub actor_fault : (e : ScriptError) (limit first line : ℕ) (names : List ℕ) (programs : List (List Command))
    (text words : List ℕ) (rest : List (List ℕ))
    → is_actor_line text ≡ true → words ≡ drop 6 text → GivesLines (Err e) (at_line line (parsed_actor names words))
    → GivesLines (Err e) (body_of limit first line names programs (text ∷ rest))
unfolding body_of
actor_fault e limit first line names programs text words rest here after h memory =
    let fault : at_line line (parsed_actor names (drop 6 text)) ≡ Err e = ap (λ (w : List ℕ). at_line line (parsed_actor names w)) (sym after) ∙ h memory in
    rw (here, fault) refl

pub actor_found : (limit first line : ℕ) (names : List ℕ) (programs : List (List Command)) (text words : List ℕ)
    (rest : List (List ℕ)) (actor : ℕ × List Command)
    → is_actor_line text ≡ true → words ≡ drop 6 text → at_line line (parsed_actor names words) ≡ Ok actor
    → body_of limit first line names programs (text ∷ rest) ≡ body_of limit first (line + 1) (names ++ actor.0 ∷ [])
    (programs ++ actor.1 ∷ []) rest
unfolding body_of
actor_found limit first line names programs text words rest actor here after h =
    let found : at_line line (parsed_actor names (drop 6 text)) ≡ Ok actor = ap (λ (w : List ℕ). at_line line (parsed_actor names w)) (sym after) ∙ h in
    rw (here, found) refl

pub items_fault : (e : ScriptError) (limit first line : ℕ) (names : List ℕ) (programs : List (List Command))
    (text words : List ℕ) (rest : List (List ℕ))
    → is_actor_line text ≡ false → is_items_line text ≡ true → words ≡ drop 5 text
    → GivesLines (Err e) (at_line line (parsed_items names words))
    → GivesLines (Err e) (body_of limit first line names programs (text ∷ rest))
unfolding body_of
items_fault e limit first line names programs text words rest other here after h memory =
    let fault : at_line line (parsed_items names (drop 5 text)) ≡ Err e = ap (λ (w : List ℕ). at_line line (parsed_items names w)) (sym after) ∙ h memory in
    rw (other, here, fault) refl

pub items_found : (limit first line : ℕ) (names : List ℕ) (programs : List (List Command)) (text words : List ℕ)
    (rest : List (List ℕ)) (items : List Item)
    → is_actor_line text ≡ false → is_items_line text ≡ true → words ≡ drop 5 text
    → at_line line (parsed_items names words) ≡ Ok items
    → body_of limit first line names programs (text ∷ rest) ≡ closed (line + 1) (script limit first names programs items) rest
unfolding body_of
items_found limit first line names programs text words rest items other here after h =
    let found : at_line line (parsed_items names (drop 5 text)) ≡ Ok items = ap (λ (w : List ℕ). at_line line (parsed_items names w)) (sym after) ∙ h in
    rw (other, here, found) refl

pub other_line : (limit first line : ℕ) (names : List ℕ) (programs : List (List Command)) (text : List ℕ)
    (rest : List (List ℕ))
    → is_actor_line text ≡ false → is_items_line text ≡ false
    → body_of limit first line names programs (text ∷ rest) ≡ Err (BadLine line)
unfolding body_of
other_line limit first line names programs text rest other here = rw (other, here) refl

pub no_line : (limit first line : ℕ) (names : List ℕ) (programs : List (List Command)) (text : List ℕ) → text ≡ []
    → body_of limit first line names programs (lines text) ≡ Err (NoItems line)
unfolding body_of lines
no_line limit first line names programs text nothing = rw nothing refl

-- what stands after the items line
pub closed_none : (line : ℕ) (s : Script) (text : List ℕ) → text ≡ [] → Ok s ≡ closed line s (lines text)
unfolding lines
closed_none line s text nothing = rw nothing refl

pub closed_some : (line : ℕ) (s : Script) (text : List ℕ) → 0 < length text
    → Err (BadLine line) ≡ closed line s (lines text)
closed_some line s text some = let p = some_lines text some in rw p.2 refl

-- ---- The line after the first

pub none_after : (limit : ℕ) (text : List ℕ) → text ≡ [] → after_limit limit (lines text) ≡ Err (NoItems 2)
unfolding after_limit body_of lines
none_after limit text nothing = rw nothing refl

pub no_layout : (limit : ℕ) (text : List ℕ) (rest : List (List ℕ)) → is_layout_line text ≡ false
    → after_limit limit (text ∷ rest) ≡ body_of limit 1 2 [] [] (text ∷ rest)
unfolding after_limit
no_layout limit text rest other = rw other refl

pub layout_fault : (e : ScriptError) (limit : ℕ) (text : List ℕ) (rest : List (List ℕ)) → is_layout_line text ≡ true
    → at_line 2 (layout_in (drop 6 text)) ≡ Err e → after_limit limit (text ∷ rest) ≡ Err e
unfolding after_limit
layout_fault e limit text rest here h = rw (here, h) refl

pub layout_found : (limit first : ℕ) (text : List ℕ) (rest : List (List ℕ)) → is_layout_line text ≡ true
    → at_line 2 (layout_in (drop 6 text)) ≡ Ok first
    → after_limit limit (text ∷ rest) ≡ body_of limit first 3 [] [] rest
unfolding after_limit
layout_found limit first text rest here h = rw (here, h) refl

-- ---- Whole texts

pub empty_text : (text : List ℕ) → length text ≡ 0 → script_of text ≡ Err (Empty 1)
unfolding script_of
empty_text text e = rw (eq-eqb (length text) 0 e) refl

pub long_text : (text : List ℕ) → 1048576 < length text
    → script_of text ≡ Err (TooMany (1 + count_by (λ b. eqb b 10) (take 1048576 text)))
unfolding script_of
long_text text long = rw (ne_eqb (length text) 0 (λ e. absurd (omega arith)), lt-ltb 1048576 (length text) long) refl

read_text : (text first : List ℕ) (rest : List (List ℕ)) → 0 < length text → length text ≤ 1048576
    → lines text ≡ first ∷ rest
    → script_of text ≡ (at_line 1 (parsed_limit first) >>= λ limit. after_limit limit rest)
unfolding script_of script_of_lines
read_text text first rest some short e = rw (ne_eqb (length text) 0 (λ z. absurd (omega arith)), le-ltb 1048576 (length text) short, e) refl

pub first_fault : (text first : List ℕ) (rest : List (List ℕ)) (e : ScriptError) → 0 < length text
    → length text ≤ 1048576 → lines text ≡ first ∷ rest → at_line 1 (parsed_limit first) ≡ Err e
    → script_of text ≡ Err e
first_fault text first rest e some short split h = read_text text first rest some short split ∙ ap (λ (r : Result ℕ ScriptError). r >>= λ limit. after_limit limit rest) h

pub first_found : (text first : List ℕ) (rest : List (List ℕ)) (limit : ℕ) → 0 < length text → length text ≤ 1048576
    → lines text ≡ first ∷ rest → at_line 1 (parsed_limit first) ≡ Ok limit
    → script_of text ≡ after_limit limit rest
first_found text first rest limit some short split h = read_text text first rest some short split ∙ ap (λ (r : Result ℕ ScriptError). r >>= λ limit. after_limit limit rest) h

pub gives_same : {X : Type 0} (r given : Result X ScriptError) → r ≡ given → GivesLines r given
gives_same (Ok x) given e = sym e
gives_same (Err e) given h = λ memory. sym h

pub gives_along : {X : Type 0} (r given total : Result X ScriptError) → total ≡ given → GivesLines r given
    → GivesLines r total
gives_along (Ok x) given total e h = e ∙ h
gives_along (Err d) given total e h = λ memory. e ∙ h memory
