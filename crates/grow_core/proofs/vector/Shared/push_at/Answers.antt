use Rattle.std.proofs.Common.{◌≡◌, ℕ, ◌+◌, [], ◌∷◌, sym, ap, ◌∙◌, subst, arith}
use Rattle.claim_core.specs.declared.run.Run.{Run}
use Rattle.claim_core.specs.Hand.{HandView, LogsRun, AddsRun, single, seen_size}
use Rattle.claim_core.specs.History.{AddsEvents, full_event, memory_event}
use Rattle.seg_core.specs.Segment.{HasPlace, segment_start}
use Rattle.cell_core.specs.Block.{BlockView}
use Rattle.grow_core.specs.Ties.{KnowsRow}
use Rattle.grow_core.specs.declared.errors.GrowError.TheVariants.{NoMemory}
use Rattle.grow_core.specs.Vector.{VectorView, layout_of}
use Rattle.grow_core.specs.Growth.{Refuses}
use Rattle.grow_core.specs.Logs.{LogsNothing, LogsPush}
use Rattle.grow_core.specs.Keys.{AreKeys, layout_in, mark_of}
use Rattle.grow_core.proofs.KeyRows.{mark_is}
use Rattle.grow_core.proofs.Later.{more_after, more_of_same, refuses_memory}
use Rattle.grow_core.proofs.Logs.{adds_noted, events_after, full_noted, log_goes_on, nothing_after}
use Rattle.grow_core.proofs.Works.{begun_still, more_of_keeps, row_kept}
use Rattle.grow_core.proofs.Wins.{new_run_of, push_of}
use Rattle.grow_core.proofs.Claims.{cell_found, held_more, held_place, held_still}
use Rattle.grow_core.proofs.vector.Shared.push_at.Goals as goal

pub invariant_of-hand : goal.invariant_of-hand
invariant_of-hand g c =
    let mark = mark_is c.self.invariant c.self.view_is c.hand.view_is c.requires.ours in
    let keys = subst (λ names. AreKeys names c.key_for.new.keys) mark
    (subst (λ (v : VectorView g.row.T.Denot). AreKeys (mark_of v.segments) c.key_for.new.keys) (sym c.self.view_is) c.key_for.ensures.keys) in
    held_more c.hand.inside.claims c.key_for.new.claims c.log_no_memory.new.hand c.hand.inside.keys c.key_for.new.keys c.claiming_laws.ensures.below
    c.hand.invariant keys c.key_for.ensures.kept c.key_for.ensures.finds c.key_for.ensures.rows c.log_no_memory.ensures.cells c.claiming_laws.ensures.stay
    (more_of_same c.key_for.new.claims c.log_no_memory.new.hand c.log_no_memory.ensures.own c.log_no_memory.ensures.seen)

pub invariant_of-hand-in-Err : goal.invariant_of-hand-in-Err
invariant_of-hand-in-Err g c =
    let mark = mark_is c.self.invariant c.self.view_is c.hand.view_is c.requires.ours in
    let keys = subst (λ names. AreKeys names c.key_for.new.keys) mark
    (subst (λ (v : VectorView g.row.T.Denot). AreKeys (mark_of v.segments) c.key_for.new.keys) (sym c.self.view_is) c.key_for.ensures.keys) in
    held_more c.hand.inside.claims c.key_for.new.claims c.exchange_as.new.hand c.hand.inside.keys c.key_for.new.keys c.claiming_laws.ensures.below
    c.hand.invariant keys c.key_for.ensures.kept c.key_for.ensures.finds c.key_for.ensures.rows c.in-Err.ensures.cells c.claiming_laws.ensures.stay
    (record { seen = c.in-Err.ensures.seen.seen; own = c.in-Err.ensures.seen.own })

pub invariant_of-hand-in-Err-2 : goal.invariant_of-hand-in-Err-2
invariant_of-hand-in-Err-2 g c =
    let mark = mark_is c.self.invariant c.self.view_is c.hand.view_is c.requires.ours in
    let keys = subst (λ names. AreKeys names c.key_for.new.keys) mark
    (subst (λ (v : VectorView g.row.T.Denot). AreKeys (mark_of v.segments) c.key_for.new.keys) (sym c.self.view_is) c.key_for.ensures.keys) in
    held_more c.hand.inside.claims c.key_for.new.claims c.exchange_as.new.hand c.hand.inside.keys c.key_for.new.keys c.claiming_laws.ensures.below
    c.hand.invariant keys c.key_for.ensures.kept c.key_for.ensures.finds c.key_for.ensures.rows c.in-Err-2.ensures.cells c.claiming_laws.ensures.stay
    (record { seen = c.in-Err-2.ensures.seen.seen; own = c.in-Err-2.ensures.seen.own })

pub exchange_as-requires-clause-note : goal.exchange_as-requires-clause-note
exchange_as-requires-clause-note g c = c.claiming_laws.ensures.full _ _

pub returns-in_default-clause-refused : goal.returns-in_default-clause-refused
returns-in_default-clause-refused g c =
    let lacks = c.log_no_memory.ensures in
    let found = c.key_for.ensures.finds.keeps in
    let same : seen_size c.hand.inside.claims ≡ seen_size c.args.hand.now = ap seen_size c.hand.view_is in
    let own = (more_after _ _ _ (more_of_keeps _ _ found) (more_of_same _ _ lacks.own lacks.seen)).own in
    subst (λ (h : HandView). Refuses c.args.self.now 1 c.args.value h c.log_no_memory.new.hand (NoMemory c.args.value)) c.hand.view_is
    (refuses_memory c.args.self.now 1 c.args.value c.hand.inside.claims c.log_no_memory.new.hand (omega arith) own (lacks.seen ∙ found.seen)
    (omega (arith, same, c.requires.seen)))

pub returns-in_default-clause-logs_refusal : goal.returns-in_default-clause-logs_refusal
returns-in_default-clause-logs_refusal g c =
    subst (λ (h : HandView). AddsEvents h.log (memory_event ∷ []) c.log_no_memory.new.hand.log) c.hand.view_is
    (events_after _ _ _ (memory_event ∷ []) c.key_for.ensures.finds.more c.log_no_memory.ensures.logs)

pub returns-in-Err-clause-logs_refusal : goal.returns-in-Err-clause-logs_refusal
returns-in-Err-clause-logs_refusal g c =
    let limit = ap (λ (v : VectorView _). v.word.limit) c.self.view_is in
    subst (λ (h : HandView). AddsEvents h.log (full_event 1 c.in-Err.field-0.size ∷ []) c.exchange_as.new.hand.log) c.hand.view_is
    (events_after _ _ _ (full_event 1 c.in-Err.field-0.size ∷ []) c.key_for.ensures.finds.more
    (adds_noted _ _ _ _ (full_noted _ 1 c.in-Err.field-0.size (omega (arith, limit))) c.in-Err.ensures.logs_note))

pub returns-clause-logs_refusal : goal.returns-clause-logs_refusal
returns-clause-logs_refusal g c =
    subst (λ (h : HandView). LogsNothing h c.exchange_as.new.hand) c.hand.view_is
    (nothing_after _ _ _ c.key_for.ensures.finds.more (log_goes_on _ _ _ c.in-Err-2.ensures.logs_note))

-- the place was just claimed, so the hand owns it, and knows its cell, which it has not begun
pub fill_cell-requires : goal.fill_cell-requires
fill_cell-requires g c =
    let found = c.key_for.new.claims in let mid = c.exchange_as.new.hand in let won = c.in-Ok-exchange_as.ensures in let place = c.args.from in
    let v = c.args.self.now in let segment : ℕ = c.locate-segment.result.0 in let offset : ℕ = c.locate-segment.result.1 in
    let f_is : c.layout.result ≡ layout_of v = c.layout.ensures.value ∙ ap (λ (w : VectorView g.row.T.Denot). layout_of w) c.self.view_is in
    let there : HasPlace (layout_of v) segment place = subst (λ (f : ℕ). HasPlace f segment place) f_is c.locate-segment.ensures.segment in
    let sum : segment_start (layout_of v) segment + offset ≡ place = subst (λ (f : ℕ). segment_start f segment + offset ≡ place) f_is c.locate-segment.ensures.offset in
    let adds : AddsRun found mid (single place) = subst (λ (r : Run). AddsRun found mid r) won.run won.claimed in
    let fresh = (new_run_of c.claiming_laws.ensures.last c.claiming_laws.ensures.fresh found mid (single place)
    (begun_still c.hand.inside.claims found c.key_for.ensures.finds c.claiming_laws.ensures.begun) won.cells adds).fresh in
    let ours = adds.of ∙ (c.key_for.ensures.finds.keeps.own.of ∙ (ap (λ (h : HandView). h.of) c.hand.view_is ∙ c.requires.ours)) in
    let cell = cell_found v segment place offset c.in-Ok.key c.known_block-block.result.now c.in-Ok.ensures.key c.known_block-block.ensures.block c.known_block-block.ensures.long
    c.known_block-block.ensures.tied there sum in
    let row = subst (λ (b : BlockView). KnowsRow mid c.in-Ok.key.segment b) (sym c.known_block-block.ensures.block)
    (subst (λ (k : ℕ). KnowsRow mid k c.in-Ok.key.block) (sym c.in-Ok.ensures.key.at) (row_kept found mid adds.of won.cells.rows segment c.in-Ok.key.block c.in-Ok.ensures.row)) in
    (omega arith, (ours, (c.claiming_laws.ensures.owned found mid (single place) place adds (omega arith, omega arith), (fresh, (cell, row)))))

-- what the fill leaves of the hand
pub invariant_of-hand-in-Ok-exchange_as : goal.invariant_of-hand-in-Ok-exchange_as
invariant_of-hand-in-Ok-exchange_as g c =
    let mark = mark_is c.self.invariant c.self.view_is c.hand.view_is c.requires.ours in
    let keys = subst (λ names. AreKeys names c.key_for.new.keys) mark
    (subst (λ (v : VectorView g.row.T.Denot). AreKeys (mark_of v.segments) c.key_for.new.keys) (sym c.self.view_is) c.key_for.ensures.keys) in
    let here = subst (λ (f : ℕ). HasPlace f c.locate-segment.result.0 c.args.from) (c.layout.ensures.value ∙ ap layout_in mark) c.locate-segment.ensures.segment in
    held_still c.exchange_as.new.hand c.fill_cell.new.claims c.args.from 1 c.key_for.new.keys c.fill_cell.ensures.works
    (held_place c.hand.inside.claims c.key_for.new.claims c.exchange_as.new.hand c.hand.inside.keys c.key_for.new.keys c.claiming_laws.ensures.below
    c.hand.invariant keys c.key_for.ensures.kept c.key_for.ensures.finds c.key_for.ensures.rows c.in-Ok-exchange_as.ensures.cells c.claiming_laws.ensures.places
    c.places.ensures.one_segment c.in-Ok-exchange_as._run c.locate-segment.result.0 c.args.from c.in-Ok-exchange_as.ensures.claimed
    c.in-Ok-exchange_as.ensures.run here c.in-Ok.ensures.put)

-- the claim, and then the fill
pub returns-in-Ok-exchange_as-clause-logs : goal.returns-in-Ok-exchange_as-clause-logs
returns-in-Ok-exchange_as-clause-logs g c =
    let found = c.key_for.new.claims in let mid = c.exchange_as.new.hand in let won = c.in-Ok-exchange_as.ensures in let place = c.args.from in
    let adds = subst (λ (r : Run). AddsRun found mid r) won.run won.claimed in
    let logs = subst (λ (r : Run). LogsRun found mid r) won.run won.logs in
    let all = push_of c.claiming_laws.ensures.last c.claiming_laws.ensures.have c.hand.inside.claims found mid c.fill_cell.new.claims place
    c.key_for.ensures.finds.more adds logs c.fill_cell.ensures.works c.fill_cell.ensures.adds in
    subst (λ (p : ℕ). LogsPush c.args.hand.now c.fill_cell.new.claims p) (sym c.fill_cell.ensures.here)
    (subst (λ (h : HandView). LogsPush h c.fill_cell.new.claims place) c.hand.view_is all)
