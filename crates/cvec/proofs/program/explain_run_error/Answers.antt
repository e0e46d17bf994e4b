use Rattle.cvec.proofs.Prefixes.{some_prefix}
use Rattle.cvec.proofs.program.explain_run_error.Goals as goal

pub returns-in-Err : goal.returns-in-Err
returns-in-Err g c =
    rw c.in-Err.is (c.status.ensures, some_prefix c.write_explained-unseen.result _ _ _ c.write_explained-unseen.ensures.ok c.write_explained-unseen.ensures.fault)
