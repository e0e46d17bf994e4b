use Rattle.cvec.proofs.Prefixes.{some_prefix}
use Rattle.cvec.proofs.program.refuse.Goals as goal

pub returns-clause-text : goal.returns-clause-text
returns-clause-text g c = rw (← c.as_bytes.ensures.value) (some_prefix c.write_bytes-unseen.result _ _ _ c.write_bytes-unseen.ensures.ok c.write_bytes-unseen.ensures.fault)
