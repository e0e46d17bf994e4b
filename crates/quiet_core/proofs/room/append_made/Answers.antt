use Rattle.std.proofs.Common.{of_calls, ℕ, ◌+◌, ◌∷◌, [], ◌++◌, Some, length-append, map, sym, ap, ◌∙◌, append_assoc, subst}
use Rattle.std.proofs.lemmas.List.{map-append}
use Rattle.grow_core.specs.Parts.{PartsView}
use Rattle.grow_core.proofs.Made.{made_push}
use Rattle.quiet_core.proofs.room.append_made.Goals as goal

pub loop-i-preserved : goal.loop-i-preserved
loop-i-preserved g c =
    let at = c.loop-i in
    let so = at.invariant.0 in
    let values = so.0 in
    let x = c.in-Ok.value in
    let call = subst (λ r. goal.F-step g at.make at.i r c.make.new.self) c.in-Ok.is c.make.ensures in
    let members = c.append.ensures.members ∙ (ap (λ m. m ++ Some x ∷ []) so.3 ∙ (append_assoc c.args.parts.now.members (map Some values) (Some x ∷ [])
    ∙ ap (λ m. c.args.parts.now.members ++ m) (sym (map-append Some values (x ∷ []))))) in (
      (
        values ++ x ∷ [],
        made_push (goal.F-step g) c.args.make values at.make c.make.new.self x at.i so.1 so.2 call,
        length-append values (x ∷ []) ∙ ap (λ (n : ℕ). n + 1) so.2,
        members,
      ),
      c.append.ensures.rest_kept ∙ ap (λ (p : PartsView _). record p { members = c.append.new.self.members; closed = c.append.new.self.closed }) at.invariant.1,
      search of_calls,
    )
