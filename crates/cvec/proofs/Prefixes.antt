-- A text that was written whole, or in part.
use Rattle.std.proofs.Common.{ℕ, List, length, Option, Result, Ok, Err, sym, subst, OnOk, OnErr}
use Rattle.std.proofs.Math.Seq.{take-length}
use Rattle.std.specs.Io.KnownBytes.{Appends}
use Rattle.script_core.specs.Text.{AppendsPrefix}

-- whatever a write returns, a prefix was written: the whole is one, too
pub some_prefix : {T E : Type 0} (r : Result T E) (a b : Option (List ℕ)) (text : List ℕ)
    → OnOk r (Appends a b text) → OnErr r (AppendsPrefix a b text) → AppendsPrefix a b text
some_prefix (Ok x) a b text all part = (length text, subst (Appends a b) (sym (take-length text)) all)
some_prefix (Err e) a b text all part = part
