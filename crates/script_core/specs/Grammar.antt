-- Scripts, read line by line, up to the first fault.
use Rattle.std.specs.Prelude.{ℕ, ◌+◌, ◌^◌, nat_lt, nat_le, ◌==◌, Bool, true, false, ◌&&◌, ◌||◌, if◌then◌else◌, List, [], ◌∷◌, ◌++◌, length, take, drop, count_by, position, Option, Some, None, Result, Ok, Err, codes}
use Rattle.std.specs.List.{slice_split, onto_first, list_any, list_all, starts_with}
use Rattle.std.specs.Bool.{nat_eq}
use Rattle.std.specs.Char.{is_ascii_digit}
use Rattle.std.specs.Str.{bytes_eq}
use Rattle.std.specs.Str.Parse.{digits_value}
use Rattle.book_core.specs.declared.commands.Command.{Command}
use Rattle.book_core.specs.declared.commands.Command.TheVariants.{Push, Grow, AtLeast, Fail, Mend, Read, Size}
use Rattle.book_core.specs.declared.commands.Item.{Item}
use Rattle.script_core.specs.declared.error.ScriptError.{ScriptError}
use Rattle.script_core.specs.declared.error.ScriptError.TheVariants as errors
use Rattle.script_core.specs.declared.error.Fault.{Fault}
use Rattle.script_core.specs.declared.error.Fault.TheVariants.{BadLimit, BadLine, BadName, TwiceNamed, BadCommand, NumberTooLarge, TooMany, BadFirst}
use Rattle.script_core.specs.declared.script.Script.{Script}
use Rattle.script_core.specs.Spelling.{most_limit}
use Rattle.script_core.specs.ScriptError.{error_at}

-- one step after another; a fault ends them
infixl 10 ◌>>=◌
abbrev pub ◌>>=◌ : {A B E : Type 0} → Result A E → (A → Result B E) → Result B E
(Ok x) >>= f = f x
(Err e) >>= f = Err e

-- ---- Lines, words and pieces

-- the parts between LFs; an LF at the end of the bytes begins no line
abbrev pub lines_of_parts : List (List ℕ) → List (List ℕ)
lines_of_parts [] = []
lines_of_parts (part ∷ []) = if length part == 0 then [] else part ∷ []
lines_of_parts (part ∷ next ∷ more) = part ∷ lines_of_parts (next ∷ more)

-- the lines of the bytes
unfoldable pub lines : List ℕ → List (List ℕ)
lines text = lines_of_parts (slice_split (λ b. b == 10) text)

-- the words of the bytes, which are split at each space
unfoldable pub words : List ℕ → List (List ℕ)
words text = slice_split (λ b. b == 32) text

-- the pieces of the bytes, which are split at each comma that a space follows
unfoldable pub pieces : List ℕ → List (List ℕ)
pieces [] = [] ∷ []
pieces (b ∷ []) = (b ∷ []) ∷ []
pieces (b ∷ c ∷ bs) = if (b == 44) && (c == 32) then [] ∷ pieces bs else onto_first b (pieces (c ∷ bs))

-- the bytes before the first separator, and those after it, if there is one
unfoldable pub cut : List ℕ → List ℕ → List ℕ × Option (List ℕ)
cut separator [] = ([], None)
cut separator (b ∷ bs) =
    if starts_with nat_eq (b ∷ bs) separator
    then ([], Some (drop (length separator) (b ∷ bs)))
    else (b ∷ (cut separator bs).0, (cut separator bs).1)

-- what the step gives for each of the list, after what is done; one more than the most is a fault before its
-- step
unfoldable pub try_each : {X Y : Type 0} → (X → Result Y Fault) → ℕ → List Y → List X → Result (List Y) Fault
try_each step most done [] = Ok done
try_each step most done (x ∷ xs) =
    if nat_le most (length done) then Err TooMany else (step x >>= λ y. try_each step most (done ++ y ∷ []) xs)

-- ---- Numbers and commands

-- a number is 0 alone, or a digit from 1 to 9 and digits
abbrev pub is_number : List ℕ → Bool
is_number [] = false
is_number (d ∷ ds) = if d == 48 then length ds == 0 else (is_ascii_digit d && list_all is_ascii_digit ds)

-- the number below 2^64 that the bytes spell; `otherwise` is the fault if they spell none
unfoldable pub number_or : Fault → List ℕ → Result ℕ Fault
number_or otherwise word =
    if is_number word
    then (if nat_lt (digits_value 10 word) (2 ^ 64) then Ok (digits_value 10 word) else Err NumberTooLarge)
    else Err otherwise

-- an argument of a command
abbrev pub argument : List ℕ → Result ℕ Fault
argument word = number_or BadCommand word

-- a command without arguments
unfoldable pub command_alone : List ℕ → Result Command Fault
command_alone word = if bytes_eq word (codes "size") then Ok Size else Err BadCommand

-- a command with one argument
unfoldable pub command_with_one : List ℕ → List ℕ → Result Command Fault
command_with_one word a =
    if bytes_eq word (codes "push") then (argument a >>= λ value. Ok (Push value))
    else if bytes_eq word (codes "read") then (argument a >>= λ place. Ok (Read place))
    else Err BadCommand

-- a command with two arguments, which are read in order
unfoldable pub command_with_two : List ℕ → List ℕ → List ℕ → Result Command Fault
command_with_two word a b =
    if bytes_eq word (codes "grow") then (argument a >>= λ n. (argument b >>= λ value. Ok (Grow n value)))
    else if bytes_eq word (codes "atleast") then (argument a >>= λ to. (argument b >>= λ value. Ok (AtLeast to value)))
    else if bytes_eq word (codes "mend") then (argument a >>= λ place. (argument b >>= λ value. Ok (Mend place value)))
    else Err BadCommand

-- a command with three arguments: the place that is refused is one of its own run
unfoldable pub command_with_three : List ℕ → List ℕ → List ℕ → List ℕ → Result Command Fault
command_with_three word a b c =
    if bytes_eq word (codes "fail")
    then (argument a >>= λ n.
    (argument b >>= λ value. (argument c >>= λ at. (if nat_lt at n then Ok (Fail n value at) else Err BadCommand))))
    else Err BadCommand

-- the command that the words spell, by how many they are
unfoldable pub parsed_command : List (List ℕ) → Result Command Fault
parsed_command [] = Err BadCommand
parsed_command (word ∷ []) = command_alone word
parsed_command (word ∷ a ∷ []) = command_with_one word a
parsed_command (word ∷ a ∷ b ∷ []) = command_with_two word a b
parsed_command (word ∷ a ∷ b ∷ c ∷ []) = command_with_three word a b c
parsed_command (word ∷ a ∷ b ∷ c ∷ d ∷ more) = Err BadCommand

-- a program: a command for each piece, and at most 1,000
unfoldable pub parsed_program : List ℕ → Result (List Command) Fault
parsed_program text = try_each (λ piece. parsed_command (words piece)) 1000 [] (pieces text)

-- ---- Lines

-- the limit: a number from 1 to the greatest
unfoldable pub limit_in : List ℕ → Result ℕ Fault
limit_in text =
    number_or BadLimit text >>= λ limit.
    (if nat_le 1 limit && nat_le limit most_limit then Ok limit else Err BadLimit)

-- the first line
unfoldable pub parsed_limit : List ℕ → Result ℕ Fault
parsed_limit line = if starts_with nat_eq line (codes "limit ") then limit_in (drop 6 line) else Err BadLine

-- the layout: a number from 1 to 8
unfoldable pub layout_in : List ℕ → Result ℕ Fault
layout_in text =
    number_or BadFirst text >>= λ first. (if nat_le 1 first && nat_le first 8 then Ok first else Err BadFirst)

-- a name is one letter from a to z
unfoldable pub parsed_name : List ℕ → Result ℕ Fault
parsed_name [] = Err BadName
parsed_name (c ∷ []) = if nat_le 97 c && nat_le c 122 then Ok c else Err BadName
parsed_name (c ∷ d ∷ more) = Err BadName

-- what follows an actor's name: a space and a program
abbrev pub program_after : Option (List ℕ) → Result (List Command) Fault
program_after None = Err BadCommand
program_after (Some text) = parsed_program text

-- an actor line after its word: the name and the program. The names are those of the actor lines before it
unfoldable pub parsed_actor : List ℕ → List ℕ → Result (ℕ × List Command) Fault
parsed_actor names text =
    if nat_le 16 (length names) then Err TooMany
    else (parsed_name (cut (codes " ") text).0 >>= λ name.
    (if list_any (λ n. n == name) names then Err TwiceNamed
    else (program_after (cut (codes " ") text).1 >>= λ program. Ok (name, program))))

-- an item of the actor at this place, if there is one
abbrev pub item_from : Option ℕ → Bool → Result Item Fault
item_from None memory = Err BadName
item_from (Some actor) memory = Ok (record { actor = actor; memory = memory })

-- an item: the name of an actor, alone or with a mark, which says that its memory is refused
unfoldable pub parsed_item : List ℕ → List ℕ → Result Item Fault
parsed_item names [] = Err BadName
parsed_item names (name ∷ []) = item_from (position (λ n. n == name) names) true
parsed_item names (name ∷ mark ∷ []) =
    if mark == 33 then item_from (position (λ n. n == name) names) false else Err BadName
parsed_item names (name ∷ mark ∷ b ∷ more) = Err BadName

-- an items line after its word: nothing, or a space and an item for each word, and at most 100,000
unfoldable pub parsed_items : List ℕ → List ℕ → Result (List Item) Fault
parsed_items names [] = Ok []
parsed_items names (space ∷ text) = try_each (parsed_item names) 100000 [] (words text)

-- a layout line begins with its word and a space
unfoldable pub is_layout_line : List ℕ → Bool
is_layout_line line = starts_with nat_eq line (codes "first ")

-- an actor line begins with its word and a space
unfoldable pub is_actor_line : List ℕ → Bool
is_actor_line line = starts_with nat_eq line (codes "actor ")

-- an items line is its word alone, or begins with it and a space
unfoldable pub is_items_line : List ℕ → Bool
is_items_line line = bytes_eq line (codes "steps") || starts_with nat_eq line (codes "steps ")

-- ---- Scripts

-- a fault of a line gets the line's number
abbrev pub at_line : {X : Type 0} → ℕ → Result X Fault → Result X ScriptError
at_line line (Ok x) = Ok x
at_line line (Err fault) = Err (error_at line fault)

-- a script of these parts
abbrev pub script : ℕ → ℕ → List ℕ → List (List Command) → List Item → Script
script limit first names programs items =
    record { limit = limit; first = first; names = names; programs = programs; items = items }

-- nothing stands after the items line
abbrev pub closed : ℕ → Script → List (List ℕ) → Result Script ScriptError
closed line s [] = Ok s
closed line s (text ∷ rest) = Err (errors.BadLine line)

-- the lines from this one on, after actor lines with these names and programs
unfoldable pub body_of : ℕ → ℕ → ℕ → List ℕ → List (List Command) → List (List ℕ) → Result Script ScriptError
body_of limit first line names programs [] = Err (errors.NoItems line)
body_of limit first line names programs (text ∷ rest) =
    if is_actor_line text
    then (at_line line (parsed_actor names (drop 6 text)) >>= λ actor.
    body_of limit first (line + 1) (names ++ actor.0 ∷ []) (programs ++ actor.1 ∷ []) rest)
    else if is_items_line text
    then (at_line line (parsed_items names (drop 5 text)) >>= λ items.
    closed (line + 1) (script limit first names programs items) rest)
    else Err (errors.BadLine line)

-- the lines from line 2 on. Line 2 may be a layout line; otherwise the layout is 1
unfoldable pub after_limit : ℕ → List (List ℕ) → Result Script ScriptError
after_limit limit [] = body_of limit 1 2 [] [] []
after_limit limit (text ∷ rest) =
    if is_layout_line text
    then (at_line 2 (layout_in (drop 6 text)) >>= λ first. body_of limit first 3 [] [] rest)
    else body_of limit 1 2 [] [] (text ∷ rest)

-- all lines
unfoldable pub script_of_lines : List (List ℕ) → Result Script ScriptError
script_of_lines [] = Err (errors.Empty 1)
script_of_lines (text ∷ rest) = at_line 1 (parsed_limit text) >>= λ limit. after_limit limit rest

-- the script that the bytes are, or their first fault
unfoldable pub script_of : List ℕ → Result Script ScriptError
script_of text =
    if length text == 0 then Err (errors.Empty 1)
    else if nat_lt 1048576 (length text) then Err (errors.TooMany (1 + count_by (λ b. b == 10) (take 1048576 text)))
    else script_of_lines (lines text)
