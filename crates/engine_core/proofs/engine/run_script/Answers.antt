use Rattle.std.proofs.Common.{rules}
use Rattle.std.proofs.lemmas.Result.{err_from_is_err_and}
use Rattle.engine_core.proofs.Errors.{same_error}
use Rattle.engine_core.proofs.engine.run_script.Goals as goal

pub returns-in_err-script : goal.returns-in_err-script
returns-in_err-script g c =
    let p = err_from_is_err_and c.from_residual.result c.from_residual.ensures.1 in
    rw (p.1, p.2) (record {
      plays = record {
        written = tt;
        script = λ fault is. c.in_err-script.ensures.script fault (same_error _ _ is);
        prefix = λ is. absurd (c.in_err-script.ensures.unwritten (same_error _ _ is));
        unwritten = search rules;
      };
    })
