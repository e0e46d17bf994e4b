use Rattle.std.proofs.Common.{◌≡◌, ◌≢◌, ◌∙◌, List, refl, sym, ap, subst, arith}
use Rattle.table_core.specs.Sights.{Sight, IsSameSight, sight_in}
use Rattle.table_core.proofs.KeySets.{unseen, made_at}
use Rattle.table_core.proofs.table.key_set.sights_with.Goals as goal

pub returns-clause-here : goal.returns-clause-here
returns-clause-here c =
    made_at _ (λ f. (f.0.now ≡ c.args.at) × (f.1.now ≡ c.args.sight.now)) (λ k y. k ≡ c.args.at → IsSameSight y c.args.sight.now)
    (λ p q i y reads call. let m = call.met in (
      (λ same. subst (IsSameSight y) reads.1 (m.1.0 (same ∙ sym reads.0))),
      (ap (λ b. b.now) m.0.0 ∙ reads.0, ap (λ b. b.now) m.0.1 ∙ reads.1),
    ))
    c.from_fn.result _ 0 40 (refl, refl) c.from_fn.ensures.items.each c.args.at unseen (omega arith) c.requires.within refl

pub returns-clause-others : goal.returns-clause-others
returns-clause-others c k less other =
    made_at _ (λ f. (f.0.now ≡ c.args.at) × (f.2.now ≡ c.args.sights.now)) (λ k y. k ≢ c.args.at → IsSameSight y (sight_in c.args.sights.now k))
    (λ p q i y reads call. let m = call.met in (
      (λ apart. subst (λ (ss : List Sight). IsSameSight y (sight_in ss i)) reads.1 (m.1.1 (λ same. apart (same ∙ reads.0)))),
      (ap (λ b. b.now) m.0.0 ∙ reads.0, ap (λ b. b.now) m.0.2 ∙ reads.1),
    ))
    c.from_fn.result _ 0 40 (refl, refl) c.from_fn.ensures.items.each k unseen (omega arith) less other
