use Rattle.std.proofs.Common.{[], ap, arith}
use Rattle.std.proofs.lemmas.List.{append-nil}
use Rattle.claim_core.specs.Word.{WordView}
use Rattle.grow_core.proofs.Later.{sees_self}
use Rattle.grow_core.proofs.vector.Shared.size_seen.Goals as goal

pub returns-then-place-seen-clause-seen : goal.returns-then-place-seen-clause-seen
returns-then-place-seen-clause-seen g c = sees_self c.args.hand.now c.seen-seen.result c.seen-seen.ensures c.laws-2.ensures.within

pub returns-then-place-seen-clause-opened : goal.returns-then-place-seen-clause-opened
returns-then-place-seen-clause-opened g c =
    let base = ap (λ (w : WordView). w.base) c.requires.ours in omega (arith, base, c.laws.ensures.opened, c.laws-2.ensures.places, c.seen-seen.ensures)

pub returns-then-place-seen-clause-past : goal.returns-then-place-seen-clause-past
returns-then-place-seen-clause-past g c = λ after. absurd (omega (arith, after, c.if-place-seen.true))

pub returns-then-place-seen-clause-goes_on : goal.returns-then-place-seen-clause-goes_on
returns-then-place-seen-clause-goes_on g c = ([], append-nil c.args.hand.now.log)
