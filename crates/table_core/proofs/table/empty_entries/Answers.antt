use Rattle.std.proofs.Common.{rules, ◌≡◌, ℕ, ◌<◌, refl, sym, ap, ◌∙◌, subst, arith}
use Rattle.seg_core.specs.Segment.{segment_count}
use Rattle.table_core.specs.Entry.{IsPlainEntry, length_of}
use Rattle.table_core.specs.Table.{IsLengthOf}
use Rattle.table_core.proofs.KeySets.{made_at}
use Rattle.table_core.proofs.table.empty_entries.Goals as goal

pub returns-clause-fit : goal.returns-clause-fit
returns-clause-fit g c k e small =
    let f : ℕ = c.args.layout in let inside : k < 40 = first_of (search rules, grind arith) in
    made_at _ (λ u. u.1.now ≡ f) (λ i y. i < segment_count f → IsLengthOf f i (length_of y))
    (λ p q i y reads call. let m = call.met in (
      (λ less. subst (λ (l : ℕ). IsLengthOf l i (length_of y)) reads (m.1.0 (subst (λ (l : ℕ). i < segment_count l) (sym reads) less))),
      ap (λ b. b.now) m.0.1 ∙ reads,
    ))
    c.from_fn.result _ 0 40 refl c.from_fn.ensures.items.each k e (omega arith) inside small

pub returns-clause-plain : goal.returns-clause-plain
returns-clause-plain g c k e small =
    let inside : k < 40 = first_of (search rules, grind arith) in
    made_at _ (λ u. Unit {0}) (λ i y. IsPlainEntry y) (λ p q i y reads call. (call.met.1.1, tt)) c.from_fn.result _ 0 40 tt
    c.from_fn.ensures.items.each k e (omega arith) inside
