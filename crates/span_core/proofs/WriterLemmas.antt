-- What calls leave of a writer's hand.
use Rattle.std.proofs.Common.{◌≡◌, ℕ, suc, ◌+◌, [], ◌∷◌, ◌++◌, length, sym, ap, subst, ◌∙◌, arith, append_assoc}
use mathlib.Core.List.{IsPrefix}
use Rattle.claim_core.specs.Laws.{AddedPlacesAddUp}
use Rattle.claim_core.specs.Hand.{HandView, AddsRun, SeesOwn, single}
use Rattle.grow_core.specs.Logs.{LogsPush}
use Rattle.span_core.specs.Writer.{AddsPlaces, LogsPushes}
use Rattle.span_core.proofs.HandLemmas.{prefix_trans}

-- one more place was won
pub adds_next : AddedPlacesAddUp → (old mid new : HandView) (n place : ℕ) → SeesOwn mid → AddsPlaces old mid n
    → AddsRun mid new (single place) → AddsPlaces old new (n + 1)
adds_next law old mid new n place sees done next =
    let seen : IsPrefix mid.seen new.seen = (next.between ++ 1 ∷ [], sym (append_assoc mid.seen next.between (1 ∷ [])) ∙ sym next.seen) in
    let index = length (mid.seen ++ next.between) in record {
      of = next.of ∙ done.of;
      shares = next.shares ∙ done.shares;
      seen = prefix_trans old.seen mid.seen new.seen done.seen seen;
      mine = (index ∷ done.mine.0, next.mine ∙ ap (λ m. index ∷ m) done.mine.1, omega (arith, done.mine.2));
      places = (let added = law mid new (single place) sees next in let before = done.places in omega arith);
    }

-- one more push
pub pushes_next : (old mid new : HandView) (n place : ℕ) → LogsPushes old mid n
    → AddsRun mid new (single place) → LogsPush mid new place → LogsPushes old new (n + 1)
pushes_next old mid new n place pushes won push =
    let next : suc n ≡ n + 1 = omega arith in
    subst (λ (k : ℕ). LogsPushes old new k) next (mid, place, pushes, won, push)
