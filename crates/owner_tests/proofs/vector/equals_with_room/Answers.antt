use Rattle.std.proofs.Common.{ap, ◌∙◌}
use Rattle.quiet_core.specs.QuietList.{QuietList}
use Rattle.owner_tests.proofs.vector.equals_with_room.Goals as goal

pub returns : goal.returns
returns c = c.eq.ensures ∙ c.equal_members_are_equal.ensures c.reserve.new.self c.args.other.now (ap (λ (q : QuietList _). q.members) c.reserve.ensures.rest_kept ∙ c.requires.same)
