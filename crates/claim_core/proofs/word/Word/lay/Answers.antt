use Rattle.std.proofs.Common.{◌∙◌, ap}
use Rattle.claim_core.specs.Word.{WordView}
use Rattle.claim_core.proofs.Belongs.{tied_there}
use Rattle.claim_core.proofs.MaySteps.{may_lay}
use Rattle.claim_core.proofs.word.Word.lay.Goals as goal

pub lay-requires-clause-table : goal.lay-requires-clause-table
lay-requires-clause-table g c = c.self.invariant.desk_of

pub lay-requires-clause-permits : goal.lay-requires-clause-permits
lay-requires-clause-permits g c = may_lay _ _

pub returns-clause-tied : goal.returns-clause-tied
returns-clause-tied g c = tied_there c.self.view_is c.lay.ensures.tie

pub returns-clause-block : goal.returns-clause-block
returns-clause-block g c =
    let block = c.lay.ensures.seat in
    (block.0 ∙ ap (λ (w : WordView). w.table) c.self.view_is, block.1, block.2)
