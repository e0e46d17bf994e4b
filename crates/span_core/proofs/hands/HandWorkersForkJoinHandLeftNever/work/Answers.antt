use Rattle.std.proofs.Common.{◌∙◌, refl, arith}
use Rattle.span_core.specs.Hands.{IsNewHandOf, Leaves}
use Rattle.span_core.proofs.HandLemmas.{one-told}
use Rattle.span_core.proofs.hands.HandWorkersForkJoinHandLeftNever.work.Goals as goal

pub returns-clause-answer : goal.returns-clause-answer
returns-clause-answer g c =
    let word = c.args.self.now.vector.now.word in
    let says = Leaves (goal.F-post g c.args.self.now.work.now) c.args.self.now.vector.now in
    let own = c.work-answer.new.arg4 in
    let fresh : IsNewHandOf word c.args.brought = record { of = c.requires.0; mine = c.requires.1; shares = c.requires.2 } in
    let keeps = c.requires.4 c.args.self.now.vector c.args.worker _ c.work-answer.result _ refl (omega (arith, c.requires.5)) fresh c.work-answer.ensures in
    let left : says c.args.worker own c.work-answer.result = (c.args.self.now.vector, _, _, refl, fresh, c.work-answer.ensures, refl) in
    let told = one-told (λ v. v.items) says (g.G.Gate.may_refuse c.args.self.now.gate.now) own c.args.worker c.work-answer.result c.list_result-answers.result left
    c.list_result-answers.ensures.answer c.list_result-answers.ensures.memory c.list_result-answers.ensures.refused in
    record { of = keeps.of ∙ c.requires.0; shares = keeps.shares ∙ c.requires.2; answered = told.0; refused = told.1 }
