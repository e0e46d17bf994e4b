-- By the row that the hand knows, and what each step adds.
use Rattle.std.proofs.Common.{◌≡◌, ℕ, true, ap, sym, ◌∙◌, subst, arith}
use Rattle.claim_core.specs.Ties.{Finds}
use Rattle.claim_core.specs.Word.{WordView}
use Rattle.memory_tests.proofs.StepsOpened.{finds, taken}
use Rattle.memory_tests.proofs.opened.steps.take_steps.Goals as goal
use Rattle.memory_tests.proofs.opened.steps.take_steps.Goals.{then-is_found, else-is_found}

pub look_at_value-requires-clause-found : goal.look_at_value-requires-clause-found
look_at_value-requires-clause-found c =
    let rows = c.args.hand.now.rows in
    subst (λ (i : ℕ). Finds rows 0 i) (sym c.tag_at.ensures.number) (finds rows 0 c.args.tag.now.tie.id 32 c.requires.rows (omega arith))

pub mend_place-is_mended-requires-clause-tied : goal.mend_place-is_mended-requires-clause-tied
mend_place-is_mended-requires-clause-tied c = c.tag_at-2.ensures.tied c.args.word.now c.requires.tied

pub mend_place-is_mended-requires-clause-found : goal.mend_place-is_mended-requires-clause-found
mend_place-is_mended-requires-clause-found c =
    let rows = c.look_at_value.new.hand.rows in
    subst (λ (i : ℕ). Finds rows 17 i) (sym c.tag_at-2.ensures.number)
    (finds rows 17 c.args.tag.now.tie.id 32 (c.look_at_value.ensures.goes_on.rows ∙ c.requires.rows) (omega arith))

pub claim_and_fill-is_filled-requires-clause-tied : goal.claim_and_fill-is_filled-requires-clause-tied
claim_and_fill-is_filled-requires-clause-tied c = c.tag_at-3.ensures.tied c.args.word.now c.requires.tied

pub claim_and_fill-is_filled-requires-clause-found : goal.claim_and_fill-is_filled-requires-clause-found
claim_and_fill-is_filled-requires-clause-found c =
    let rows = c.mend_place-is_mended.new.hand.rows in
    subst (λ (i : ℕ). Finds rows 20 i) (sym c.tag_at-3.ensures.number)
    (finds rows 20 c.args.tag.now.tie.id 32
    (c.mend_place-is_mended.ensures.goes_on.rows ∙ (c.look_at_value.ensures.goes_on.rows ∙ c.requires.rows)) (omega arith))

pub returns-then-is_mended : goal.returns-then-is_mended
returns-then-is_mended c = record {
  of = c.claim_and_fill-is_filled.ensures.of ∙ (c.mend_place-is_mended.ensures.goes_on.of ∙ c.look_at_value.ensures.goes_on.of);
  events = λ filled.
      let looked = c.look_at_value.new.hand in
      let same = ap (λ (w : WordView). w.limit) (c.look_at_value.ensures.goes_on.of ∙ c.requires.ours) in
      let mended : c.mend_place-is_mended.result ≡ true =
      elim c.if-is_found.branch [ then-is_found w ↦ cc (w.value-is, c.if-is_mended.true) | else-is_found w ↦ cc ] in
      taken c.events_follow.ensures c.prefixes_add_nothing.ensures c.args.word.now.limit looked.of.limit c.args.hand.now.log looked.log
      c.mend_place-is_mended.new.hand.log c.claim_and_fill-is_filled.new.hand.log same c.look_at_value.ensures.looked
      (c.mend_place-is_mended.ensures.mended mended) (c.claim_and_fill-is_filled.ensures.filled filled);
}
