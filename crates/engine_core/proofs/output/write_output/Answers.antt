use Rattle.std.proofs.lemmas.Result.{err_from_is_err_and}
use Rattle.std.proofs.KnownBytes.{Appends-kept}
use Rattle.engine_core.proofs.Prefixes.{whole_prefix}
use Rattle.engine_core.proofs.output.write_output.Goals as goal

pub returns-in_err-flush-clause-fault : goal.returns-in_err-flush-clause-fault
returns-in_err-flush-clause-fault g c =
    let p = err_from_is_err_and c.from_residual-in_err-flush.result c.from_residual-in_err-flush.ensures.1 in
    rw p.1 (whole_prefix _ _ _ (Appends-kept _ _ _ _ c.in_ok-write_bytes.ensures.ok c.in_err-flush.ensures.bytes))
