-- A text that was written whole.
use Rattle.std.proofs.Common.{ℕ, List, length, Option, sym, subst}
use Rattle.std.proofs.Math.Seq.{take-length}
use Rattle.std.specs.Io.KnownBytes.{Appends}
use Rattle.script_core.specs.Text.{AppendsPrefix}

-- the whole is a prefix
pub whole_prefix : (a b : Option (List ℕ)) (text : List ℕ) → Appends a b text → AppendsPrefix a b text
whole_prefix a b text h = (length text, subst (Appends a b) (sym (take-length text)) h)
