use denote.RattleType.{RattleType}
use denote.Param.Send.{IsSend}
use Rattle.tie_core.specs.declared.visit.Entered.{Ghosts}
use Rattle.tie_core.specs.contracts.tags.RawTags.{the_row}

pub send : (V P : RattleType) (g : Ghosts P.Denot V.Denot) → IsSend (the_row V P g)
send V P g = record { owned = λ d vs. ((λ vss. (tt, ((λ uss. (tt, tt)), tt))), (λ _. tt)); leaving = λ k f vs. tt }
