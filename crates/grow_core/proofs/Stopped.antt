-- The outcome of a run that was claimed.
use Rattle.std.proofs.Common.{◌≡◌, ℕ, ◌+◌, ◌<◌, ◌≤◌, List, length, refl, sym, ap, ◌∙◌, subst, arith}
use Rattle.claim_core.specs.declared.run.Run.{Run}
use Rattle.claim_core.specs.Hand.{HandView, AddsRun, OwnsRun, seen_size}
use Rattle.grow_core.specs.declared.errors.GrowError.{GrowError}
use Rattle.grow_core.specs.declared.errors.GrowError.TheVariants.{NoMemory, Full, Moved, Refused, Taken}
use Rattle.grow_core.specs.Vector.{VectorView}
use Rattle.grow_core.specs.Grown.{GrownView, IsGrownOf, values_of}
use Rattle.grow_core.specs.Growth.{Grows, WonRun, Refuses}
use Rattle.grow_core.specs.Making.{IsClaimed, StopsIn}
use Rattle.grow_core.specs.AtLeast.{RefusesAtLeast}

module _ {T : Type 0} (vector : VectorView T) (wanted : ℕ) (old new : HandView) (claimed : Run) (it : IsClaimed vector wanted old new claimed) where
  -- a run that was claimed and then filled is a growth that won
  pub won_of_claimed : (given : List T) (grown : GrownView T) → wanted ≡ length given
      → grown.run ≡ claimed → IsGrownOf vector grown → values_of grown ≡ given → WonRun vector given old new grown
  won_of_claimed given grown n is tokens values =
      let same_n : grown.run.n ≡ claimed.n = ap (λ (r : Run). r.n) is in
      let same_from : grown.run.from ≡ claimed.from = ap (λ (r : Run). r.from) is in record {
        n = same_n ∙ (it.n ∙ n);
        run = subst (λ (r : Run). Grows old new r) (sym is) it.grows;
        owned = λ some. subst (λ (r : Run). OwnsRun new r) (sym is) (it.owned (omega (arith, same_n, some)));
        not_below = omega (arith, same_from, it.not_below);
        alone = λ whole. same_from ∙ it.alone whole;
        tokens = tokens;
        values = values;
      }

  -- a run that was claimed and could not be filled is a growth that was refused
  pub refused_of_claimed : {V E : Type 0} (given : V) (e : GrowError T V E) → StopsIn vector claimed e → Refuses vector wanted given old new e
  refused_of_claimed given (NoMemory back) s = absurd s
  refused_of_claimed given (Full size back) s = absurd s
  refused_of_claimed given (Moved size back) s = absurd s
  refused_of_claimed given (Refused run made cause) s =
      let is : run ≡ claimed = s.0 in
      let same_n : run.n ≡ wanted = ap (λ (r : Run). r.n) is ∙ it.n in
      let some : 0 < claimed.n = omega (arith, s.2) in record {
        some_places = omega (arith, some, it.n);
        due = tt;
        left = record {
          claimed = subst (λ (r : Run). AddsRun old new r) (sym is) (it.grows.claimed some);
          all = same_n;
          not_below = subst (λ (r : Run). seen_size old ≤ r.from) (sym is) it.not_below;
          alone = λ whole. ap (λ (r : Run). r.from) is ∙ it.alone whole;
          first = s.1 ∙ ap (λ (r : Run). r.from) (sym is);
          fewer = omega (arith, s.2, it.n);
          tokens = s.3;
        };
        back = tt;
      }
  refused_of_claimed given (Taken place found) s = absurd s

-- a run up to a size that was claimed and could not be filled is a growth up to that size that was refused
pub refused_up_to : {T V E : Type 0} (vector : VectorView T) (to : ℕ) (old new : HandView) (claimed : Run) (e : GrowError T V E)
    → (claimed.from + claimed.n ≡ to) × (0 < claimed.n) × IsClaimed vector claimed.n old new claimed
    → StopsIn vector claimed e → RefusesAtLeast vector to old new e
refused_up_to vector to old new claimed (NoMemory back) it s = absurd s
refused_up_to vector to old new claimed (Full size back) it s = absurd s
refused_up_to vector to old new claimed (Moved size back) it s = absurd s
refused_up_to {T} {V} {E} vector to old new claimed (Refused run made cause) it s =
    let is : run ≡ claimed = s.0 in record {
      due = tt;
      left = (
        ap (λ (r : Run). r.from + r.n) is ∙ it.0,
        record {
          claimed = subst (λ (r : Run). AddsRun old new r) (sym is) (it.2.grows.claimed it.1);
          all = refl;
          not_below = subst (λ (r : Run). seen_size old ≤ r.from) (sym is) it.2.not_below;
          alone = λ whole. ap (λ (r : Run). r.from) is ∙ it.2.alone whole;
          first = s.1 ∙ ap (λ (r : Run). r.from) (sym is);
          fewer = subst (λ (r : Run). made.run.n < r.n) (sym is) s.2;
          tokens = s.3;
        },
      );
    }
refused_up_to vector to old new claimed (Taken place found) it s = absurd s
