use Rattle.std.proofs.Common.{◌≡◌, ◌≤◌, List, ap, ◌∙◌, sym, subst, arith}
use mathlib.Core.List.{IsPrefix}
use Rattle.claim_core.specs.Word.{WordView}
use Rattle.claim_core.specs.History.{Log, Adds}
use Rattle.grow_core.specs.Logs.{IsFinishedIn}
use Rattle.vector_tests.proofs.Filled.{finished_by_look}
use Rattle.vector_tests.proofs.tests.filled.find_after_meeting.Goals as goal

pub find_again-there-requires-clause-finished : goal.find_again-there-requires-clause-finished
find_again-there-requires-clause-finished c =
    let old = c.args.a.now.log in let mid = c.find.new.hand.log in let b = c.meet.new.b in
    let found = c.in-Ok.ensures.looks in
    let adds = subst (λ (steps : List Log). Adds old steps mid) found.1 found.2 in
    let of : b.of ≡ c.args.vector.now.word = c.meet.ensures.also_own.of ∙ c.requires.also_ours in
    let base : b.of.base ≡ 0 = ap (λ (w : WordView). w.base) of ∙ c.requires.unopened in
    let above : b.of.base ≤ c.args.place = omega arith in
    let goes = subst (IsPrefix mid) (sym c.meet.ensures.same_log) c.meet.ensures.begins_log in
    subst (IsFinishedIn b.log) (sym c.in-Ok.ensures.token.1)
    (finished_by_look c.shown_places_are_finished.ensures b old mid c.args.place above adds goes c.laws.ensures.history)
