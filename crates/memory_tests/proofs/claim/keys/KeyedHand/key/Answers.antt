use Rattle.std.proofs.Common.{ap, arith, subst}
use Rattle.claim_core.specs.Word.{WordView}
use Rattle.claim_core.specs.Hand.{HandView}
use Rattle.claim_core.specs.Lengths.{runs_end}
use Rattle.memory_tests.proofs.KeyRows.{HasKeys}
use Rattle.memory_tests.proofs.claim.keys.KeyedHand.key.Goals as goal

pub bounds-self-inside-place : goal.bounds-self-inside-place
bounds-self-inside-place g c =
    let owned = c.requires.owned in
    let within = (c.seen_runs_are_within.ensures c.args.self.now owned.0 c.args.run owned.2).1 in
    let size = c.laws-2.ensures.within in
    let small = c.laws.ensures.small in
    let hand = ap (λ (h : HandView). runs_end h.of.base h.seen) c.self.view_is in
    let limit = ap (λ (h : HandView). h.of.limit) c.self.view_is in
    let word = ap (λ (w : WordView). w.limit) c.requires.ours in
    let before = c.requires.before in
    omega arith

pub unwrap-requires : goal.unwrap-requires
unwrap-requires g c =
    let owned = c.requires.owned in
    let in_run = (c.seen_runs_have_places.ensures c.args.self.now owned.0 c.args.run c.args.place owned.2).0 (c.requires.from, c.requires.before) in
    let has = subst (λ (h : HandView). HasKeys h c.self.inside.row) c.self.view_is c.self.invariant in
    has c.args.place (owned.0, owned.1, in_run)
