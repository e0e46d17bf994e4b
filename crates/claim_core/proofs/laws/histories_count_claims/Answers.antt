use Rattle.claim_core.proofs.HistoryLaws.{sizes_count_claims, claims_begin, claims_have_their_turn}
use Rattle.claim_core.proofs.laws.histories_count_claims.Goals as goal

pub returns-clause-sizes : goal.returns-clause-sizes
returns-clause-sizes c = sizes_count_claims

pub returns-clause-begins : goal.returns-clause-begins
returns-clause-begins c = claims_begin

pub returns-clause-turns : goal.returns-clause-turns
returns-clause-turns c = claims_have_their_turn
