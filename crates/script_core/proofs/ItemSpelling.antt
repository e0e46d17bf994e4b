-- Items: what is read is spelled so, and what is spelled so is read.
use Rattle.std.proofs.Common.{◌≡◌, ◌≢◌, ℕ, zero, suc, ◌<◌, ◌≤◌, Bool, true, false, not, cond, eqb, List, [], ◌∷◌, ◌++◌, length, map, get_or, Option, Some, None, Ok, refl, sym, ap, subst, ◌∙◌, arith}
use Rattle.std.specs.Prelude.{All, AllPairs, slice_index}
use Rattle.std.specs.List.{slice_split, join_with_byte, AllByRecursion, flat_map, position, prefix_len}
use Rattle.std.proofs.lemmas.Bool.{and_from, eqb-true, eq-eqb, ne_eqb, lt-ltb, not_from_false}
use Rattle.std.proofs.lemmas.List.{append-nil}
use Rattle.std.proofs.lemmas.List.Elements.{All-from_recursion, recursion_from_All, All-get_or}
use Rattle.std.proofs.lemmas.List.Quantifiers.{position-Some}
use Rattle.std.proofs.lemmas.List.Splits.{join_with_byte-slice_split}
use Rattle.book_core.specs.declared.commands.Item.{Item}
use Rattle.script_core.specs.declared.error.Fault.TheVariants.{BadName}
use Rattle.script_core.specs.Grammar.{words, try_each, item_from, parsed_item, parsed_items}
use Rattle.script_core.specs.Spelling.{item_text, IsName}
use Rattle.script_core.proofs.Cuts.{some_words}
use Rattle.script_core.proofs.NumberSpelling.{test_ok, ok_is, lacks, lacks-append, split_front, split_whole}
use Rattle.script_core.proofs.CommandSpelling.{EachGives, each_takes, each_again}

-- ---- What is read is spelled so

item_from_by : (names : List ℕ) (name : ℕ) (memory : Bool) (item : Item) (place : Option ℕ)
    → position (λ n. eqb n name) names ≡ place → item_from place memory ≡ Ok item
    → (item.actor < length names) × (slice_index names item.actor ≡ name) × (item.memory ≡ memory)
item_from_by names name memory item None at h = absurd cc
item_from_by names name memory item (Some k) at h =
    let found = position-Some (λ n. eqb n name) names k 0 at in
    let made : Item = record { actor = k; memory = memory } in
    subst (λ (i : Item). (i.actor < length names) × (slice_index names i.actor ≡ name) × (i.memory ≡ memory)) (ok_is made item h)
    (found.0, eqb-true (get_or names k 0) name found.1, refl)

item_from_takes : (names : List ℕ) (name : ℕ) (memory : Bool) (item : Item)
    → item_from (position (λ n. eqb n name) names) memory ≡ Ok item
    → (item.actor < length names) × (slice_index names item.actor ≡ name) × (item.memory ≡ memory)
item_from_takes names name memory item h = item_from_by names name memory item (position (λ n. eqb n name) names) refl h

item_takes : (names word : List ℕ) (item : Item) → parsed_item names word ≡ Ok item
    → (32 ∷ word ≡ item_text names item) × (item.actor < length names)
unfolding parsed_item
item_takes names [] item h = absurd cc
item_takes names (name ∷ []) item h =
    let t = item_from_takes names name true item h in
    (sym (ap (λ (m : Bool). 32 ∷ slice_index names item.actor ∷ cond m [] (33 ∷ [])) t.2 ∙ ap (λ (n : ℕ). 32 ∷ n ∷ []) t.1), t.0)
item_takes names (name ∷ mark ∷ []) item h =
    let p = test_ok (eqb mark 33) (item_from (position (λ n. eqb n name) names) false) BadName item h in
    let t = item_from_takes names name false item p.1 in
    (sym (ap (λ (m : Bool). 32 ∷ slice_index names item.actor ∷ cond m [] (33 ∷ [])) t.2 ∙ ap (λ (n : ℕ). 32 ∷ n ∷ 33 ∷ []) t.1 ∙ ap (λ (n : ℕ). 32 ∷ name ∷ n ∷ []) (sym (eqb-true mark 33 p.0))), t.0)
item_takes names (name ∷ mark ∷ b ∷ more) item h = absurd cc

abbrev IsOwn : List ℕ → Item → Type 0
IsOwn names item = item.actor < length names

items_spelled : (names : List ℕ) (ws : List (List ℕ)) (items : List Item) → 0 < length ws
    → EachGives (parsed_item names) ws items
    → (32 ∷ join_with_byte 32 ws ≡ flat_map (item_text names) items) × AllByRecursion (IsOwn names) items
items_spelled names [] items some h = absurd (omega arith)
items_spelled names (w ∷ []) [] some h = absurd h
items_spelled names (w ∷ []) (i ∷ []) some h =
    let t = item_takes names w i h.0 in
    (t.0 ∙ sym (append-nil (item_text names i)), (t.1, tt))
items_spelled names (w ∷ []) (i ∷ j ∷ is) some h = absurd h.1
items_spelled names (w ∷ v ∷ ws) [] some h = absurd h
items_spelled names (w ∷ v ∷ ws) (i ∷ is) some h =
    let t = item_takes names w i h.0 in
    let rest = items_spelled names (v ∷ ws) is (omega arith) h.1 in
    (ap (λ (l : List ℕ). l ++ (32 ∷ join_with_byte 32 (v ∷ ws))) t.0 ∙ ap (λ (l : List ℕ). item_text names i ++ l) rest.0, (t.1, rest.1))

-- a text that begins with a space, or has no byte
abbrev pub IsAfterWord : List ℕ → Type 0
IsAfterWord [] = Unit {0}
IsAfterWord (c ∷ cs) = c ≡ 32

pub items_takes : (names text : List ℕ) (items : List Item) → IsAfterWord text → parsed_items names text ≡ Ok items
    → (text ≡ flat_map (item_text names) items) × (length items ≤ 100000) × All (λ item. item.actor < length names) items
unfolding parsed_items words
items_takes names [] items space h =
    let none : List Item = [] in
    subst (λ (is : List Item). ([] ≡ flat_map (item_text names) is) × (length is ≤ 100000) × All (λ item. item.actor < length names) is) (ok_is none items h) (refl, omega arith, λ k d lt. absurd (omega (arith, lt)))
items_takes names (c ∷ rest) items space h =
    let ws : List (List ℕ) = slice_split (λ b. eqb b 32) rest in
    let each = each_takes (parsed_item names) 100000 [] items ws (omega arith) h in
    let gives : EachGives (parsed_item names) ws items = subst (EachGives (parsed_item names) ws) (sym each.1) each.2 in
    let spelled = items_spelled names ws items (some_words rest) gives in
    (ap (λ (d : ℕ). d ∷ rest) space ∙ ap (λ (l : List ℕ). 32 ∷ l) (sym (join_with_byte-slice_split 32 rest)) ∙ spelled.0, each.3, All-from_recursion (IsOwn names) items spelled.1)

-- ---- What is spelled so is read

apart_tail : (x : ℕ) (xs : List ℕ) → AllPairs (λ a b. a ≢ b) (x ∷ xs) → AllPairs (λ a b. a ≢ b) xs
apart_tail x xs h i j d below within = h (suc i) (suc j) d (omega arith) (omega arith)

first_place : (names : List ℕ) (k : ℕ) → k < length names → AllPairs (λ a b. a ≢ b) names
    → prefix_len (λ x. not (eqb x (get_or names k 0))) names ≡ k
first_place [] k lt apart = absurd (omega arith)
first_place (n ∷ ns) zero lt apart = rw (eq-eqb n n refl) refl
first_place (n ∷ ns) (suc k) lt apart =
    let other : eqb n (get_or ns k 0) ≡ false = ne_eqb n (get_or ns k 0) (apart 0 (suc k) 0 (omega arith) lt) in
    let rest = first_place ns k (omega arith) (apart_tail n ns apart) in
    rw (other, rest) (omega arith)

place_again : (names : List ℕ) (k : ℕ) → k < length names → AllPairs (λ a b. a ≢ b) names
    → position (λ n. eqb n (get_or names k 0)) names ≡ Some k
place_again names k lt apart = rw (first_place names k lt apart, lt-ltb k (length names) lt) refl

-- an item's word
abbrev word_text : List ℕ → Item → List ℕ
word_text names item = slice_index names item.actor ∷ cond item.memory [] (33 ∷ [])

word_again : (names : List ℕ) (k : ℕ) (memory : Bool) → k < length names → AllPairs (λ a b. a ≢ b) names
    → parsed_item names (get_or names k 0 ∷ cond memory [] (33 ∷ [])) ≡ Ok (record { actor = k; memory = memory })
unfolding parsed_item
word_again names k true lt apart = rw (place_again names k lt apart) refl
word_again names k false lt apart = rw (place_again names k lt apart) refl

words_read : (names : List ℕ) (items : List Item) → AllPairs (λ a b. a ≢ b) names
    → AllByRecursion (IsOwn names) items → EachGives (parsed_item names) (map (word_text names) items) items
words_read names [] apart h = tt
words_read names (i ∷ is) apart h = (word_again names i.actor i.memory h.0 apart, words_read names is apart h.1)

mark_lacks : (b : ℕ) (memory : Bool) → eqb 33 b ≡ false → lacks b (cond memory [] (33 ∷ [])) ≡ true
mark_lacks b true h = refl
mark_lacks b false h = rw h refl

word_lacks : (b : ℕ) (names : List ℕ) (item : Item) → b < 33 → All IsName names → item.actor < length names
    → lacks b (word_text names item) ≡ true
word_lacks b names item low letters own =
    let name = All-get_or IsName names item.actor 0 own letters in
    and_from (not (eqb (get_or names item.actor 0) b)) (lacks b (cond item.memory [] (33 ∷ [])))
    (not_from_false (eqb (get_or names item.actor 0) b) (ne_eqb (get_or names item.actor 0) b (λ e. absurd (omega (arith, name)))))
    (mark_lacks b item.memory (ne_eqb 33 b (λ e. absurd (omega arith))))

words-items : (names : List ℕ) (i : Item) (is : List Item) → All IsName names
    → AllByRecursion (IsOwn names) (i ∷ is)
    → slice_split (λ b. eqb b 32) (word_text names i ++ flat_map (item_text names) is) ≡ map (word_text names) (i ∷ is)
words-items names i [] letters h =
    ap (slice_split (λ b. eqb b 32)) (append-nil (word_text names i)) ∙ split_whole 32 (word_text names i) (word_lacks 32 names i (omega arith) letters h.0)
words-items names i (j ∷ is) letters h =
    split_front 32 (word_text names i) (word_text names j ++ flat_map (item_text names) is) (word_lacks 32 names i (omega arith) letters h.0)
    ∙ ap (λ (l : List (List ℕ)). word_text names i ∷ l) (words-items names j is letters h.1)

pub items_again : (names : List ℕ) (items : List Item) → All IsName names → AllPairs (λ a b. a ≢ b) names
    → length items ≤ 100000 → All (λ item. item.actor < length names) items
    → parsed_items names (flat_map (item_text names) items) ≡ Ok items
unfolding parsed_items words
items_again names [] letters apart few own = refl
items_again names (i ∷ is) letters apart few own =
    let all = recursion_from_All (IsOwn names) (i ∷ is) own in
    ap (try_each (parsed_item names) 100000 []) (words-items names i is letters all)
    ∙ each_again (parsed_item names) 100000 [] (i ∷ is) (map (word_text names) (i ∷ is)) (words_read names (i ∷ is) apart all) (omega (arith, few))

items_lack : (names : List ℕ) (items : List Item) → All IsName names → AllByRecursion (IsOwn names) items
    → lacks 10 (flat_map (item_text names) items) ≡ true
items_lack names [] letters h = refl
items_lack names (i ∷ is) letters h =
    lacks-append 10 (item_text names i) (flat_map (item_text names) is) (word_lacks 10 names i (omega arith) letters h.0) (items_lack names is letters h.1)

-- an items line has no LF
pub items_lack_lf : (names : List ℕ) (items : List Item) → All IsName names
    → All (λ item. item.actor < length names) items → lacks 10 (flat_map (item_text names) items) ≡ true
items_lack_lf names items letters own = items_lack names items letters (recursion_from_All (IsOwn names) items own)
