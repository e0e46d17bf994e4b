-- Scripts in the words of their grammar: how each is spelled.
use Rattle.std.specs.Prelude.{◌≡◌, ◌≢◌, ℕ, ◌^◌, ◌<◌, ◌≤◌, Bool, false, if◌then◌else◌, List, [], ◌∷◌, ◌++◌, length, map, slice_index, All, AllPairs, codes, decimal}
use Rattle.std.specs.List.{flat_map}
use Rattle.book_core.specs.declared.commands.Command.{Command}
use Rattle.book_core.specs.declared.commands.Command.TheVariants.{Push, Grow, AtLeast, Fail, Mend, Read, Size}
use Rattle.book_core.specs.declared.commands.Item.{Item}
use Rattle.script_core.specs.declared.script.Script.{Script}

-- texts with a separator between them
abbrev pub joined : List ℕ → List (List ℕ) → List ℕ
joined separator [] = []
joined separator (x ∷ []) = x
joined separator (x ∷ y ∷ more) = x ++ (separator ++ joined separator (y ∷ more))

-- a command: its word, and its arguments after spaces
abbrev pub command_text : Command → List ℕ
command_text (Push value) = codes "push " ++ decimal value
command_text (Grow n value) = codes "grow " ++ decimal n ++ codes " " ++ decimal value
command_text (AtLeast to value) = codes "atleast " ++ decimal to ++ codes " " ++ decimal value
command_text (Fail n value at) = codes "fail " ++ decimal n ++ codes " " ++ decimal value ++ codes " " ++ decimal at
command_text (Mend place value) = codes "mend " ++ decimal place ++ codes " " ++ decimal value
command_text (Read place) = codes "read " ++ decimal place
command_text Size = codes "size"

-- a program: its commands, with a comma and a space between them
abbrev pub program_text : List Command → List ℕ
program_text program = joined (codes ", ") (map command_text program)

-- the first line
abbrev pub limit_line : ℕ → List ℕ
limit_line limit = codes "limit " ++ decimal limit

-- a layout line
abbrev pub layout_line : ℕ → List ℕ
layout_line first = codes "first " ++ decimal first

-- the layout line with its LF, if the text has one
abbrev pub layout_text : ℕ → Bool → List ℕ
layout_text first with_layout = if with_layout then layout_line first ++ codes "\n" else []

-- an actor line
abbrev pub actor_line : ℕ → List Command → List ℕ
actor_line name program = codes "actor " ++ name ∷ codes " " ++ program_text program

-- the actor lines, each with its LF
abbrev pub actors_text : List ℕ → List (List Command) → List ℕ
actors_text [] programs = []
actors_text (name ∷ names) [] = []
actors_text (name ∷ names) (program ∷ programs) = actor_line name program ++ (codes "\n" ++ actors_text names programs)

-- an item after a space: the actor's name, and a mark if its memory is refused
abbrev pub item_text : List ℕ → Item → List ℕ
item_text names item = codes " " ++ slice_index names item.actor ∷ (if item.memory then [] else codes "!")

-- the items line
abbrev pub items_line : List ℕ → List Item → List ℕ
items_line names items = codes "steps" ++ flat_map (item_text names) items

-- a script, with a layout line or without one, whose last line has its LF or not
abbrev pub text_of : Script → Bool → Bool → List ℕ
text_of s with_layout last_lf =
    limit_line s.limit ++ (codes "\n" ++ (layout_text s.first with_layout ++ (actors_text s.names s.programs
    ++ (items_line s.names s.items ++ (if last_lf then codes "\n" else [])))))

-- numbers are below 2^64, and a refused construction is at a place of its own run
abbrev pub IsCommand : Command → Type 0
IsCommand (Push value) = value < 2 ^ 64
IsCommand (Grow n value) = (n < 2 ^ 64) × (value < 2 ^ 64)
IsCommand (AtLeast to value) = (to < 2 ^ 64) × (value < 2 ^ 64)
IsCommand (Fail n value at) = (n < 2 ^ 64) × (value < 2 ^ 64) × (at < n)
IsCommand (Mend place value) = (place < 2 ^ 64) × (value < 2 ^ 64)
IsCommand (Read place) = place < 2 ^ 64
IsCommand Size = Unit {0}

-- a program has from 1 to 1,000 commands
abbrev pub IsProgram : List Command → Type 0
IsProgram program = (1 ≤ length program) × (length program ≤ 1000) × All IsCommand program

-- a name is a letter from a to z
abbrev pub IsName : ℕ → Type 0
IsName name = (97 ≤ name) × (name ≤ 122)

-- the greatest limit of a script
abbrev pub most_limit : ℕ
most_limit = 65536

-- what a script has to be, in a text with a layout line, or without one if the layout is 1, and with a last
-- LF or without
pub record IsScript (s : Script) (with_layout last_lf : Bool) : Type 0 where
  pub limit : (1 ≤ s.limit) × (s.limit ≤ most_limit)
  pub first : (1 ≤ s.first) × (s.first ≤ 8) × (with_layout ≡ false → s.first ≡ 1)
  pub actors : (length s.names ≤ 16) × (length s.names ≡ length s.programs)
  pub names : All IsName s.names × AllPairs (λ a b. a ≢ b) s.names
  pub programs : All IsProgram s.programs
  pub items : (length s.items ≤ 100000) × All (λ item. item.actor < length s.names) s.items
  pub bytes : length (text_of s with_layout last_lf) ≤ 1048576
