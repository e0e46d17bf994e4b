use Rattle.std.proofs.Common.{◌≡◌, ◌-◌, ◌∙◌, sym}
use Rattle.span_core.specs.Hands.{Leaves, IsWithinHand, of_answer, of_refusal}
use Rattle.span_core.proofs.HandLemmas.{part_right, rest_of, rest_mine, all-answer, all-refuse}
use Rattle.span_core.proofs.hands.with_hands.Goals as goal

pub returns-clause-answers : goal.returns-clause-answers
returns-clause-answers g c =
    let says = Leaves (goal.F-post g c.args.work.now) c.args.vector.now in
    let may = g.G.Gate.may_refuse c.args.gate.now in
    let old = c.args.hand.now in
    let rest = c.split-theirs.new.hand in
    let own = c.share_hand-own.result.hand in
    let new = c.join.new.hand in
    let left = c.share_hand-own.ensures in
    let join = c.join.ensures in
    let shares = old.shares - c.args.workers in
    let of : new.of ≡ own.of = join.of ∙ (rest_of old rest shares c.split-theirs.ensures.kept ∙ (c.requires.ours ∙ sym left.of)) in
    let part : IsWithinHand own new = part_right rest own new of join.also_begins join.also_begins_log join.mine in
    all-answer (λ v. v.items) (of_answer says) (of_refusal says) may old own new c.args.workers c.share_hand-own.result.answers
    part (rest_mine old rest own new shares c.split-theirs.ensures.kept join.mine) left.answered

pub returns-clause-refused : goal.returns-clause-refused
returns-clause-refused g c =
    let says = Leaves (goal.F-post g c.args.work.now) c.args.vector.now in
    let may = g.G.Gate.may_refuse c.args.gate.now in
    let old = c.args.hand.now in
    let rest = c.split-theirs.new.hand in
    let own = c.share_hand-own.result.hand in
    let new = c.join.new.hand in
    let left = c.share_hand-own.ensures in
    let join = c.join.ensures in
    let shares = old.shares - c.args.workers in
    let of : new.of ≡ own.of = join.of ∙ (rest_of old rest shares c.split-theirs.ensures.kept ∙ (c.requires.ours ∙ sym left.of)) in
    let part : IsWithinHand own new = part_right rest own new of join.also_begins join.also_begins_log join.mine in
    all-refuse (λ v. v.items) (of_answer says) (of_refusal says) may own new c.args.workers c.share_hand-own.result.answers part left.refused
