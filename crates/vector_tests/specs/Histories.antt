-- What a history begins with.
use Rattle.std.specs.Prelude.{◌≡◌, [], ◌∷◌}
use Rattle.claim_core.specs.Word.{WordView}
use Rattle.claim_core.specs.History.{first_list, value_cell, broken_cell}

-- the word's history begins with a place that has a value and two broken ones
abbrev pub BeginsWithOneOfThree : WordView → Type 0
BeginsWithOneOfThree word =
    (first_list word.limit word.base word.filled).cells ≡ value_cell 0 ∷ broken_cell ∷ broken_cell ∷ []
