-- Sampled schedules: their items are of the three actors, they can be played, and their plays are legal and
-- short.
use Rattle.std.proofs.Common.{◌≡◌, ℕ, zero, suc, ◌+◌, ◌-◌, ◌<◌, ◌≤◌, List, [], ◌∷◌, ◌++◌, length, map, Option, Some, None, Result, Ok, Err, IfOk, refl, sym, ap, ◌∙◌, arith, append-nil, append_assoc}
use Rattle.std.proofs.lemmas.List.{length-map, length-append}
use Rattle.std.proofs.lemmas.List.Elements.{All-nil, All-cons}
use Rattle.std.specs.List.{All}
use Rattle.std.specs.Option.{option_to_list}
use Rattle.rand_core.specs.Steps.{first_words}
use Rattle.rand_pcg.specs.Lcg.{Lcg}
use Rattle.rand_pcg.specs.Pcg.{pcg32}
use Rattle.book_core.specs.declared.commands.Command.{Command}
use Rattle.book_core.specs.declared.commands.Command.TheVariants.{Push, Grow, AtLeast, Fail, Read, Size}
use Rattle.book_core.specs.declared.commands.Item.{Item}
use Rattle.book_core.specs.Cells.{empty_list}
use Rattle.book_core.specs.Commands.{IsSound, AreSound, HavePrograms}
use Rattle.book_core.specs.History.{IsLegalFrom}
use Rattle.step_core.specs.machine.Step.{Step, step_of}
use Rattle.step_core.specs.machine.Play.{Play, empty_play, play_of, after_items, with_step}
use Rattle.step_core.specs.machine.Legal.{EveryPlayIsLegal, list_seen}
use Rattle.step_core.specs.machine.Work.{play_shown}
use Rattle.step_core.specs.declared.programs.Played.{Played}
use Rattle.sweep_core.specs.declared.report.SweepReport.{SweepReport}
use Rattle.sweep_core.specs.Sums.{report_of}
use Rattle.sweep_core.specs.Sweep.{sampled_limit, sampled_programs, sampled_play, item_of, generator_of, items_from, items_of}

-- the first of more items is that of the next word
items_from-suc : (n : ℕ) (g : Lcg) → items_from (suc n) g ≡ item_of (pcg32 g).0 ∷ items_from n (pcg32 g).1
unfolding first_words
items_from-suc n g = refl

-- there are none of no words
items_from-zero : (g : Lcg) → items_from 0 g ≡ []
unfolding first_words
items_from-zero g = refl

-- one more item is made, and the others are made of the generator that is left
pub one_more : (len at : ℕ) (items more all : List Item) (g rest : Lcg) (word : ℕ) → at < len → items ++ items_from (len - at) g ≡ all
    → (word, rest) ≡ pcg32 g → more ≡ items ++ item_of word ∷ [] → more ++ items_from (len - (at + 1)) rest ≡ all
one_more len at items more all g rest word below before step pushed =
    let n = len - (at + 1) in
    let count : len - at ≡ suc n = omega (arith, below) in
    let cut : items_from (len - at) g ≡ item_of word ∷ items_from n rest =
    ap (λ k. items_from k g) count ∙ items_from-suc n g ∙ sym (ap (λ (s : ℕ × Lcg). item_of s.0 ∷ items_from n s.1) step)
    in
    ap (λ l. l ++ items_from n rest) pushed ∙ append_assoc items (item_of word ∷ []) (items_from n rest)
    ∙ ap (λ l. items ++ l) (sym cut) ∙ before

-- all are made
pub all_made : (len at : ℕ) (items all : List Item) (g : Lcg) → len ≤ at → items ++ items_from (len - at) g ≡ all → items ≡ all
all_made len at items all g end made =
    let none : len - at ≡ 0 = omega (arith, end) in
    sym (append-nil items) ∙ ap (λ l. items ++ l) (sym (ap (λ k. items_from k g) none ∙ items_from-zero g)) ∙ made

length-first_words : (n : ℕ) (g : Lcg) → length (first_words pcg32 n g) ≡ n
unfolding first_words
length-first_words zero g = refl
length-first_words (suc n) g = ap suc (length-first_words n (pcg32 g).1)

-- each word gives one item
length-items_from : (n : ℕ) (g : Lcg) → length (items_from n g) ≡ n
length-items_from n g = length-map (first_words pcg32 n g) item_of ∙ length-first_words n g

abbrev pub IsOfThree : Item → Type 0
IsOfThree item = item.actor < 3

of_three : (words : List ℕ) → All IsOfThree (map item_of words)
of_three [] = All-nil IsOfThree
of_three (word ∷ words) = All-cons IsOfThree (item_of word) (map item_of words) (omega arith) (of_three words)

-- each item's actor has a program
pub have_programs : (seed len : ℕ) → HavePrograms sampled_programs (items_of seed len)
have_programs seed len = of_three _

-- the items of a schedule, if there are any, are of the three actors
pub schedule_of_three : {T E : Type 0} (items : T → List Item) (seed len : ℕ) (r : Result T E)
    → IfOk r (λ made. items made ≡ items_of seed len) → IfOk r (λ made. All IsOfThree (items made))
schedule_of_three items seed len (Ok made) is = rw is (have_programs seed len)
schedule_of_three items seed len (Err e) is = tt

all_three : {X : Type 0} (P : X → Type 0) (a b c : X) → P a → P b → P c → All P (a ∷ b ∷ c ∷ [])
all_three P a b c pa pb pc = All-cons P a (b ∷ c ∷ []) pa (All-cons P b (c ∷ []) pb (All-cons P c [] pc (All-nil P)))

-- each refused construction is at a place of its own call
pub are_sound : AreSound sampled_programs
are_sound =
    let Sound = λ (program : List Command). All IsSound program in
    let inside : 2 < 4 = omega arith in
    all_three Sound (Push 1 ∷ Grow 3 2 ∷ AtLeast 9 3 ∷ []) (Fail 4 5 2 ∷ Read 0 ∷ Push 6 ∷ []) (AtLeast 5 7 ∷ Size ∷ Grow 2 8 ∷ [])
    (all_three IsSound (Push 1) (Grow 3 2) (AtLeast 9 3) tt tt tt)
    (all_three IsSound (Fail 4 5 2) (Read 0) (Push 6) inside tt tt)
    (all_three IsSound (AtLeast 5 7) Size (Grow 2 8) tt tt tt)

-- a sampled play is that of the sampled programs and items
pub is_play : (seed len : ℕ) → sampled_play seed len ≡ play_of 1 sampled_limit sampled_programs (items_of seed len)
unfolding sampled_play
is_play seed len = refl

-- what a play of them shows
is_shown : (seed len : ℕ) (programs : List (List Command)) (items : List Item) → programs ≡ sampled_programs
    → items ≡ items_of seed len → play_of 1 sampled_limit programs items ≡ sampled_play seed len
is_shown seed len programs items programs_are items_are =
    ap (λ p. play_of 1 sampled_limit p items) programs_are ∙ ap (play_of 1 sampled_limit sampled_programs) items_are ∙ sym (is_play seed len)

pub shows_events : {E : Type 0} (seed len : ℕ) (programs : List (List Command)) (items : List Item) (r : Result Played E)
    → programs ≡ sampled_programs → items ≡ items_of seed len
    → IfOk r (λ played. played ≡ play_shown 1 sampled_limit programs items)
    → IfOk r (λ played. played.events ≡ (sampled_play seed len).events)
shows_events seed len programs items (Ok played) programs_are items_are is =
    ap (λ (p : Played). p.events) is ∙ ap (λ (p : Play). p.events) (is_shown seed len programs items programs_are items_are)
shows_events seed len programs items (Err e) programs_are items_are is = tt

pub shows_ended : {E : Type 0} (seed len : ℕ) (programs : List (List Command)) (items : List Item) (r : Result Played E)
    → programs ≡ sampled_programs → items ≡ items_of seed len
    → IfOk r (λ played. played ≡ play_shown 1 sampled_limit programs items)
    → IfOk r (λ played. played.ended ≡ (sampled_play seed len).ended)
shows_ended seed len programs items (Ok played) programs_are items_are is =
    ap (λ (p : Played). p.ended) is ∙ ap (λ (p : Play). p.ended) (is_shown seed len programs items programs_are items_are)
shows_ended seed len programs items (Err e) programs_are items_are is = tt

-- its events are a history of the sequential vector
pub is_legal : EveryPlayIsLegal → (seed len : ℕ) → IsLegalFrom (empty_list sampled_limit) (sampled_play seed len).events
unfolding sampled_play
is_legal law seed len = (
  list_seen sampled_limit (play_of 1 sampled_limit sampled_programs (items_of seed len)),
  law 1 (omega arith, omega arith) sampled_limit sampled_programs (items_of seed len) (omega arith, omega arith),
)

at_most_one : {X : Type 0} (o : Option X) → length (option_to_list o) ≤ 1
at_most_one None = omega arith
at_most_one (Some x) = omega arith

-- what one step tells is at most one event and one ended call
abbrev Adds : ℕ → Play → Play → Type 0
Adds n p q = (length q.events ≤ length p.events + n) × (length q.ended ≤ length p.ended + n)

one_step : (p : Play) (step : Step) → Adds 1 p (with_step p step)
one_step p step = (
  omega (arith, length-append p.events (option_to_list step.event), at_most_one step.event),
  omega (arith, length-append p.ended (option_to_list step.ended), at_most_one step.ended),
)

steps_add : (p : Play) (items : List Item) → Adds (length items) p (after_items p items)
steps_add p [] = (omega arith, omega arith)
steps_add p (item ∷ items) =
    let step = step_of p.at item.actor item.memory in
    let one = one_step p step in
    let rest = steps_add (with_step p step) items in
    (omega (arith, one.0, rest.0), omega (arith, one.1, rest.1))

-- it has no more events than items, and no more ended calls
pub is_short : (seed len : ℕ) → (length (sampled_play seed len).events ≤ len) × (length (sampled_play seed len).ended ≤ len)
unfolding sampled_play
is_short seed len =
    let count = length-items_from len (generator_of seed) in
    let adds = steps_add (empty_play 1 sampled_limit sampled_programs) (items_of seed len) in
    (omega (arith, count, adds.0), omega (arith, count, adds.1))

-- the report of one schedule, by its parts
pub is_report : (seed len legal events ended : ℕ) → legal ≡ 1 → events ≡ length (sampled_play seed len).events
    → ended ≡ length (sampled_play seed len).ended
    → ◌≡◌ {A = SweepReport} (record { schedules = 1; legal = legal; events = events; ended = ended }) (report_of len seed)
is_report seed len legal events ended one all calls = λ i. record { schedules = 1; legal = one i; events = all i; ended = calls i }
