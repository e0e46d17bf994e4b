use Rattle.std.proofs.Common.{rules, arith, length, ap, ◌≡◌, ◌+◌, slice_get}
use Rattle.span_core.specs.Shares.{GivesLeaf}
use Rattle.span_core.proofs.ShareLemmas.{gather-step, zip-given}
use Rattle.span_core.proofs.leaf_shares.Shares.gather.Goals as goal

pub loop-leaf-preserved : goal.loop-leaf-preserved
loop-leaf-preserved g c =
    gather-step (λ share. share.items) (GivesLeaf (g.L.LeafJob.gives c.args.self.now.each.now) c.args.self.now.leaves.now)
    (length c.args.self.now.leaves.now) c.args.self.now.workers c.loop-leaf._leaf
    c.loop-leaf.shares.items c.pop_front.new.self.items c.push_back.new.self.items c.in-Some.share c.pop_front-in-loop-leaf.new.self c.in-Some-pop_front.answer c.loop-leaf.all.items c.push.new.self.items
    (search rules) (search rules) (search rules) (search rules) c.loop-leaf.invariant

pub returns : goal.returns
returns g c =
    zip-given (g.L.LeafJob.gives c.args.self.now.each.now) c.args.self.now.leaves.now 0 c.args.self.now.leaves.now c.loop-leaf.all.items
    (λ k. let same : 0 + k ≡ k = omega arith in ap (λ n. slice_get c.args.self.now.leaves.now n) same) (omega (arith, c.loop-leaf.invariant.3, c.loop-leaf-test.false, c.loop-leaf.auto)) c.loop-leaf.invariant.2
