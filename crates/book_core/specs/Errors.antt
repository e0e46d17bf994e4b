-- How a refusal of the sequential vector is shown.
use Rattle.std.specs.Prelude.{ℕ, List, codes}
use Rattle.book_core.specs.declared.vector.BookError.{BookError}
use Rattle.book_core.specs.declared.vector.BookError.TheVariants.{NoMemory, NotLegal}

-- why an event was not applied
abbrev pub book_error_text : BookError → List ℕ
book_error_text NoMemory = codes "no memory for the appended places"
book_error_text NotLegal = codes "the event is not legal here"
