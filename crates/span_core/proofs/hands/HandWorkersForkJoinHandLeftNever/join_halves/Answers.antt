use Rattle.std.proofs.Common.{◌+◌, ◌∙◌, refl, sym, arith}
use Rattle.std.proofs.lemmas.Result.{IfOk-at_ok}
use Rattle.span_core.specs.Hands.{Leaves, IsLeft, of_answer, of_refusal}
use Rattle.span_core.proofs.HandLemmas.{part_left, part_right, both-answer, both-refuse}
use Rattle.span_core.proofs.hands.HandWorkersForkJoinHandLeftNever.join_halves.Goals as goal

pub returns-clause-answer : goal.returns-clause-answer
returns-clause-answer g c =
    let word = c.args.self.now.vector.now.word in
    let says = Leaves (goal.F-post g c.args.self.now.work.now) c.args.self.now.vector.now in
    let may = g.G.Gate.may_refuse c.args.self.now.gate.now in
    let middle = c.args.first + c.args.low in
    let a = c.left_by-hand.result in
    let b = c.left_by-other.result in
    let new = c.join.new.hand in
    let join = c.join.ensures in
    let p = IfOk-at_ok (λ left. IsLeft says may word c.args.first c.args.low left.hand left.answers) c.left_by-hand.ensures c.requires.lower.0 in
    let q = IfOk-at_ok (λ left. IsLeft says may word middle c.args.high left.hand left.answers) c.left_by-other.ensures c.requires.upper.0 in
    let left = part_left a.hand b.hand new join.of join.begins join.begins_log join.mine in
    let right = part_right a.hand b.hand new (join.of ∙ (p.of ∙ sym q.of)) join.also_begins join.also_begins_log join.mine in
    record {
      of = join.of ∙ p.of;
      shares = omega (arith, join.shares, p.shares, q.shares);
      answered = both-answer (λ v. v.items) (of_answer says) (of_refusal says) may a.hand b.hand new c.args.first c.args.low middle c.args.high
          a.answers b.answers c.join_results-answers.result refl left right join.mine p.answered q.answered c.join_results-answers.ensures.answers;
      refused = both-refuse (λ v. v.items) (of_answer says) (of_refusal says) may a.hand b.hand new c.args.first c.args.low middle c.args.high
          a.answers b.answers c.join_results-answers.result refl left right p.answered p.refused q.refused c.join_results-answers.ensures.refused;
    }
