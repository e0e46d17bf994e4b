use Rattle.std.proofs.Common.{◌≡◌, ℕ, ◌+◌, ◌-◌, ◌*◌, ◌/◌, ◌∙◌, subst, sym, ap, Vec, Global, IfOk, IfErr}
use Rattle.span_core.specs.Hands.{IsWithinHand, HaveAnswered, even_share, of_answer, of_refusal}
use Rattle.span_core.specs.Crew.{LeavesPart}
use Rattle.span_core.proofs.HandLemmas.{part_right, rest_of, rest_mine, all-answer}
use Rattle.span_core.proofs.CrewLemmas.{EndsCrew, all-end}
use Rattle.span_core.proofs.writers.with_writers.Goals as goal

pub returns-clause-answers : goal.returns-clause-answers
returns-clause-answers g c =
    let may = g.G.Gate.may_refuse c.args.gate.now in
    let old = c.args.hand.now in
    let workers = c.args.workers in
    let each : c.share.result / (workers + 1) ≡ even_share old workers = ap (λ n. n / (workers + 1)) c.share.ensures in
    let says = λ (s : ℕ). LeavesPart (g.W.WriterJob.says c.args.work.now) c.args.vector.now s in
    let one = says (c.share.result / (workers + 1)) in
    let rest = c.split-theirs.new.hand in
    let own = c.lend_parts-own.result.hand in
    let new = c.join.new.hand in
    let answers = c.lend_parts-own.result.answers in
    let left = c.lend_parts-own.ensures in
    let join = c.join.ensures in
    let shares = old.shares - workers * (c.share.result / (workers + 1)) in
    let of : new.of ≡ own.of = join.of ∙ (rest_of old rest shares c.split-theirs.ensures.kept ∙ (c.requires.ours ∙ sym left.of)) in
    let part : IsWithinHand own new = part_right rest own new of join.also_begins join.also_begins_log join.mine in
    subst (λ s. IfOk answers (λ v. HaveAnswered (of_answer (says s)) old new workers v.items)) each
    (all-answer (λ v. v.items) (of_answer one) (of_refusal one) may old own new workers answers
    part (rest_mine old rest own new shares c.split-theirs.ensures.kept join.mine) left.answered)

pub returns-clause-refused : goal.returns-clause-refused
returns-clause-refused g c =
    let may = g.G.Gate.may_refuse c.args.gate.now in
    let old = c.args.hand.now in
    let workers = c.args.workers in
    let each : c.share.result / (workers + 1) ≡ even_share old workers = ap (λ n. n / (workers + 1)) c.share.ensures in
    let says = λ (s : ℕ). LeavesPart (g.W.WriterJob.says c.args.work.now) c.args.vector.now s in
    let one = says (c.share.result / (workers + 1)) in
    let rest = c.split-theirs.new.hand in
    let own = c.lend_parts-own.result.hand in
    let new = c.join.new.hand in
    let answers = c.lend_parts-own.result.answers in
    let left = c.lend_parts-own.ensures in
    let join = c.join.ensures in
    let shares = old.shares - workers * (c.share.result / (workers + 1)) in
    let of : new.of ≡ own.of = join.of ∙ (rest_of old rest shares c.split-theirs.ensures.kept ∙ (c.requires.ours ∙ sym left.of)) in
    let part : IsWithinHand own new = part_right rest own new of join.also_begins join.also_begins_log join.mine in
    subst (λ s. IfErr answers (EndsCrew (λ (v : Vec _ Global). v.items) (of_answer (says s)) (of_refusal (says s)) may new 0 workers)) each
    (all-end (λ v. v.items) (of_answer one) (of_refusal one) may own new workers answers part left.refused)
