-- Errors that go up through `?`.
use Rattle.std.proofs.Common.{◌≡◌, Result, Err, IfErr, ap, refl, subst}

-- two errors that are the same in one result are the same in another
pub same_error : {A B E : Type 0} (e f : E) → ◌≡◌ {A = Result A E} (Err e) (Err f)
    → ◌≡◌ {A = Result B E} (Err e) (Err f)
same_error e f same = ap Err (subst (λ r. IfErr r (λ x. e ≡ x)) same refl)
