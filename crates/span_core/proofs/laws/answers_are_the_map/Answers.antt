use Rattle.span_core.proofs.Mapped.{answers-mapped}
use Rattle.span_core.proofs.laws.answers_are_the_map.Goals as goal

pub returns : goal.returns
returns g c = λ v members span all does first last answers. answers-mapped _ v does members span all first last answers
