use Rattle.vector_tests.proofs.tests.tokens.read_second.Goals as goal

pub read-requires-clause-of : goal.read-requires-clause-of
read-requires-clause-of c = c.placed-token.ensures.of c.args.vector.now c.requires.of
