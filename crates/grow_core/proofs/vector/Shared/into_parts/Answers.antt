use Rattle.std.proofs.Common.{List, Option, ap, ◌∙◌}
use Rattle.std.specs.Prelude.{slice_get}
use Rattle.grow_core.specs.Closing.{ClosingView}
use Rattle.grow_core.proofs.Closed.{list_of_history}
use Rattle.grow_core.proofs.vector.Shared.into_parts.Goals as goal

pub returns-clause-opened : goal.returns-clause-opened
returns-clause-opened g c place x is =
    let first = c.loop-closing.invariant in let then = c.loop-closing-2.invariant.0 in
    let same = ap (λ (v : ClosingView g.row.T.Denot). v.opened) then ∙ ap (λ (v : ClosingView g.row.T.Denot). v.opened) first ∙ c.of-closing.ensures.opened in
    c.into_parts.ensures.opened place x (ap (λ (l : List (Option g.row.T.Denot)). slice_get l place) same ∙ is)

pub returns-clause-history : goal.returns-clause-history
returns-clause-history g c =
    let first = c.loop-closing.invariant in let then = c.loop-closing-2.invariant.0 in let end = c.loop-closing-2.closing in let made = c.of-closing.ensures in
    let word = ap (λ (v : ClosingView g.row.T.Denot). v.hand.of) then ∙ ap (λ (v : ClosingView g.row.T.Denot). v.hand.of) first ∙ made.of in
    let log = ap (λ (v : ClosingView g.row.T.Denot). v.hand.log) then ∙ ap (λ (v : ClosingView g.row.T.Denot). v.hand.log) first ∙ made.log in
    let size = ap (λ (v : ClosingView g.row.T.Denot). v.size) then ∙ ap (λ (v : ClosingView g.row.T.Denot). v.size) first ∙ made.size in
    list_of_history c.runs_tile.ensures c.args.self c.args.hand end.hand.of end.hand.log c.into_parts.result.members c.into_parts.ensures.history
    word log c.requires.ours c.whole_laws.ensures.claims (c.into_parts.ensures.length ∙ size)
