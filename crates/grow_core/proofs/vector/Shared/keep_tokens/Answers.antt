use Rattle.std.proofs.Common.{of_calls, refl, sym, subst, ◌≡◌, ◌+◌, ◌∷◌, [], ◌++◌, length, length-append, take, take_all, arith}
use Rattle.std.proofs.lemmas.Fn.{FoldsTo-push}
use Rattle.grow_core.specs.Grown.{AreTokensOf}
use Rattle.grow_core.proofs.Filling.{tokens_more}
use Rattle.grow_core.proofs.Stretches.{take_next}
use Rattle.grow_core.proofs.vector.Shared.keep_tokens.Goals as goal

pub loop-i-preserved : goal.loop-i-preserved
loop-i-preserved g c =
    let at = c.loop-i in let v = c.args.self.now in let t = c.token.result in (
      (λ from values is.
          let had = at.invariant.0 from values is in
          let one = c.token.ensures from values is in
          let here : t.place ≡ from + length had.0 = omega (arith, one.1, had.2) in
          let next = take_next values at.i t.value one.2 in (
            had.0 ++ t ∷ [],
            subst (λ vs. AreTokensOf v from vs (had.0 ++ t ∷ [])) (sym next) (tokens_more v from (take at.i values) had.0 t.value t had.1 one.0 here refl),
            omega (arith, length-append had.0 (t ∷ []), had.2),
            FoldsTo-push (λ k token next. goal.K-step g k token tt next) c.args.keep.now had.0 at.keep t c.keep.new.self had.3 c.keep.ensures,
          )),
      search of_calls,
    )

pub returns-clause-kept : goal.returns-clause-kept
returns-clause-kept g c from values is =
    let at = c.loop-i in let had = at.invariant.0 from values is in
    record { tokens = had.0; kept = had.3; are = subst (λ vs. AreTokensOf c.args.self.now from vs had.0) (take_all at.i values (omega (arith, is.n))) had.1 }
