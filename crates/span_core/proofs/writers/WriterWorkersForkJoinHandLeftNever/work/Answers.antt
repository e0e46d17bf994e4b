use Rattle.std.proofs.Common.{arith}
use Rattle.span_core.specs.Hands.{of_answer, of_refusal}
use Rattle.span_core.specs.Crew.{LeavesPart}
use Rattle.span_core.proofs.HandLemmas.{one-told}
use Rattle.span_core.proofs.CrewLemmas.{ends-begun}
use Rattle.span_core.proofs.writers.WriterWorkersForkJoinHandLeftNever.work.Goals as goal

pub returns-clause-answer : goal.returns-clause-answer
returns-clause-answer g c =
    let says = LeavesPart (g.W.WriterJob.says c.args.self.now.work.now) c.args.self.now.vector.now c.args.self.now.shares in
    let may = g.G.Gate.may_refuse c.args.self.now.gate.now in
    let own = c.lend-hand.result.0 in
    let answers = c.list_result-answers.result in
    let told = one-told (λ v. v.items) says may own c.args.worker c.lend-hand.result.1 answers c.lend-hand.ensures.says
    c.list_result-answers.ensures.answer c.list_result-answers.ensures.memory c.list_result-answers.ensures.refused in
    record {
      of = c.lend-hand.ensures.of;
      shares = (let some = c.laws.ensures.some_shares in omega arith);
      answered = told.0;
      refused = ends-begun (λ v. v.items) (of_answer says) (of_refusal says) may own c.args.worker 1 answers told.1;
    }
