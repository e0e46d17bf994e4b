use Rattle.std.proofs.Common.{refl, inl, sym, subst, ◌≤◌}
use Rattle.span_core.proofs.CrewLemmas.{one_each}
use Rattle.span_core.proofs.writers.WriterWorkersForkJoinHandLeftNever.unstarted.Goals as goal

pub returns-clause-answer : goal.returns-clause-answer
returns-clause-answer g c =
    record {
      of = c.requires.0.0;
      shares = subst (λ n. c.args._count ≤ n) (sym c.requires.0.2) (one_each c.args._count c.args.self.now.shares c.requires.0.3);
      answered = tt;
      refused = inl refl;
    }
