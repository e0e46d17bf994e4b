use Rattle.std.proofs.Common.{◌≡◌, ℕ, ◌+◌, ◌-◌, sym, ap, ◌∙◌, subst, arith}
use Rattle.std.specs.List.{Contains}
use Rattle.claim_core.specs.declared.run.Run.{Run}
use Rattle.claim_core.specs.Hand.{HandView, LogsRun, AddsRun, OwnsRun, SeesBegun, single, seen_size}
use Rattle.seg_core.specs.Segment.{HasPlace, segment_end, segment_start}
use Rattle.cell_core.specs.Block.{BlockView, block_len}
use Rattle.grow_core.specs.Ties.{KnowsRow}
use Rattle.grow_core.specs.Vector.{VectorView, layout_of}
use Rattle.grow_core.specs.Growth.{WonPlace}
use Rattle.grow_core.specs.Logs.{LogsPush}
use Rattle.grow_core.specs.Keys.{AreKeys, layout_in, mark_of}
use Rattle.grow_core.proofs.KeyRows.{mark_is}
use Rattle.grow_core.proofs.Later.{adds_after, more_after, more_of_same, more_of_size}
use Rattle.grow_core.proofs.Logs.{log_goes_on, nothing_after}
use Rattle.grow_core.proofs.Works.{begun_still, more_of_keeps, row_kept, size_of_keeps}
use Rattle.grow_core.proofs.Wins.{new_run_of, push_of}
use Rattle.grow_core.proofs.Claims.{adds_still, cell_found, cells_on, held_more, held_place, held_still, near_place}
use Rattle.grow_core.proofs.vector.Shared.try_push_near.Goals as goal

pub invariant_of-hand : goal.invariant_of-hand
invariant_of-hand g c =
    let mark = mark_is c.self.invariant c.self.view_is c.hand.view_is c.requires.ours in
    let keys = subst (λ names. AreKeys names c.key_for.new.keys) mark
    (subst (λ (v : VectorView g.row.T.Denot). AreKeys (mark_of v.segments) c.key_for.new.keys) (sym c.self.view_is) c.key_for.ensures.keys) in
    held_more c.hand.inside.claims c.key_for.new.claims c.log_no_memory.new.hand c.hand.inside.keys c.key_for.new.keys c.claiming_laws.ensures.below
    c.hand.invariant keys c.key_for.ensures.kept c.key_for.ensures.finds c.key_for.ensures.rows c.log_no_memory.ensures.cells c.claiming_laws.ensures.stay
    (more_of_same c.key_for.new.claims c.log_no_memory.new.hand c.log_no_memory.ensures.own c.log_no_memory.ensures.seen)

-- the hand after the load of the size
pub invariant_of-hand-then-from-limit : goal.invariant_of-hand-then-from-limit
invariant_of-hand-then-from-limit g c =
    let mark = mark_is c.self.invariant c.self.view_is c.hand.view_is c.requires.ours in
    let keys = subst (λ names. AreKeys names c.key_for.new.keys) mark
    (subst (λ (v : VectorView g.row.T.Denot). AreKeys (mark_of v.segments) c.key_for.new.keys) (sym c.self.view_is) c.key_for.ensures.keys) in
    held_more c.hand.inside.claims c.key_for.new.claims c.size_as-from.new.hand c.hand.inside.keys c.key_for.new.keys c.claiming_laws.ensures.below
    c.hand.invariant keys c.key_for.ensures.kept c.key_for.ensures.finds c.key_for.ensures.rows c.size_as-from.ensures.cells c.claiming_laws.ensures.stay
    (more_of_size c.key_for.new.claims c.size_as-from.new.hand c.size_as-from.result c.size_as-from.ensures.seen)

pub invariant_of-hand-then-offset-len : goal.invariant_of-hand-then-offset-len
invariant_of-hand-then-offset-len g c =
    let mark = mark_is c.self.invariant c.self.view_is c.hand.view_is c.requires.ours in
    let keys = subst (λ names. AreKeys names c.key_for.new.keys) mark
    (subst (λ (v : VectorView g.row.T.Denot). AreKeys (mark_of v.segments) c.key_for.new.keys) (sym c.self.view_is) c.key_for.ensures.keys) in
    held_more c.hand.inside.claims c.key_for.new.claims c.size_as-from.new.hand c.hand.inside.keys c.key_for.new.keys c.claiming_laws.ensures.below
    c.hand.invariant keys c.key_for.ensures.kept c.key_for.ensures.finds c.key_for.ensures.rows c.size_as-from.ensures.cells c.claiming_laws.ensures.stay
    (more_of_size c.key_for.new.claims c.size_as-from.new.hand c.size_as-from.result c.size_as-from.ensures.seen)

-- and after an exchange that was lost
pub invariant_of-hand-in-Err : goal.invariant_of-hand-in-Err
invariant_of-hand-in-Err g c =
    let mark = mark_is c.self.invariant c.self.view_is c.hand.view_is c.requires.ours in let found = c.key_for.new.claims in let near = c.size_as-from.new.hand in let new = c.exchange_as.new.hand in
    let keys = subst (λ names. AreKeys names c.key_for.new.keys) mark
    (subst (λ (v : VectorView g.row.T.Denot). AreKeys (mark_of v.segments) c.key_for.new.keys) (sym c.self.view_is) c.key_for.ensures.keys) in let lost = c.in-Err.ensures in
    held_more c.hand.inside.claims found new c.hand.inside.keys c.key_for.new.keys c.claiming_laws.ensures.below
    c.hand.invariant keys c.key_for.ensures.kept c.key_for.ensures.finds c.key_for.ensures.rows (cells_on found near new c.size_as-from.ensures.cells lost.cells) c.claiming_laws.ensures.stay
    (more_after found near new (more_of_size found near c.size_as-from.result c.size_as-from.ensures.seen) (record { seen = lost.seen.seen; own = lost.seen.own }))

pub invariant_of-hand-in-Err-2 : goal.invariant_of-hand-in-Err-2
invariant_of-hand-in-Err-2 g c =
    let mark = mark_is c.self.invariant c.self.view_is c.hand.view_is c.requires.ours in let found = c.key_for.new.claims in let near = c.size_as-from.new.hand in let new = c.exchange_as.new.hand in
    let keys = subst (λ names. AreKeys names c.key_for.new.keys) mark
    (subst (λ (v : VectorView g.row.T.Denot). AreKeys (mark_of v.segments) c.key_for.new.keys) (sym c.self.view_is) c.key_for.ensures.keys) in let lost = c.in-Err-2.ensures in
    held_more c.hand.inside.claims found new c.hand.inside.keys c.key_for.new.keys c.claiming_laws.ensures.below
    c.hand.invariant keys c.key_for.ensures.kept c.key_for.ensures.finds c.key_for.ensures.rows (cells_on found near new c.size_as-from.ensures.cells lost.cells) c.claiming_laws.ensures.stay
    (more_after found near new (more_of_size found near c.size_as-from.result c.size_as-from.ensures.seen) (record { seen = lost.seen.seen; own = lost.seen.own }))

-- the place was just claimed, so the hand owns it, and knows its cell, which it has not begun
pub fill_cell-requires : goal.fill_cell-requires
fill_cell-requires g c =
    let old = c.hand.inside.claims in let found = c.key_for.new.claims in let near = c.size_as-from.new.hand in let mid = c.exchange_as.new.hand in let won = c.in-Ok-exchange_as.ensures in
    let size = c.size_as-from.ensures in let finds = c.key_for.ensures.finds in let place = c.size_as-from.result in let key = c.in-Ok.key in let block = c.known_block-block in
    let v = c.args.self.now in let segment : ℕ = c.locate-segment.result.0 in
    let f_is : c.layout-layout.result ≡ layout_of v = c.layout-layout.ensures.value ∙ ap (λ (w : VectorView g.row.T.Denot). layout_of w) c.self.view_is in
    let here : HasPlace (layout_of v) segment c.seen-seen.result = subst (λ (f : ℕ). HasPlace f segment c.seen-seen.result) f_is c.locate-segment.ensures.segment in
    let first : c.first-first.result ≡ segment_start (layout_of v) segment = subst (λ (f : ℕ). c.first-first.result ≡ segment_start f segment) f_is c.first-first.ensures in
    let long : segment_start (layout_of v) segment + block_len block.result.now ≡ segment_end (layout_of v) segment =
    subst (λ (b : BlockView). segment_start (layout_of v) segment + block_len b ≡ segment_end (layout_of v) segment) (sym block.ensures.block)
    (subst (λ (k : ℕ). segment_start (layout_of v) k + block_len key.block ≡ segment_end (layout_of v) k) c.in-Ok.ensures.key.at block.ensures.long) in
    let same = size_of_keeps old found finds.keeps in let told = ap seen_size c.hand.view_is in let seen = c.seen-seen.ensures in let grows = size.grows in let ends = size.seen.ends in
    let len = c.len.ensures in let inside = c.if-offset-len.false in
    let at = near_place (layout_of v) segment c.seen-seen.result place c.first-first.result (block_len block.result.now) here (omega (arith, same, told, seen, grows)) first long (omega (arith, len, inside)) in
    let adds : AddsRun near mid (single place) = subst (λ (r : Run). AddsRun near mid r) won.run won.claimed in
    let begun : SeesBegun near = λ p it. let low = begun_still old found finds c.claiming_laws.ensures.begun p (subst (λ l. Contains l p) size.cells.begun it) in omega (arith, low, grows, ends) in
    let fresh = (new_run_of c.claiming_laws.ensures.last c.claiming_laws.ensures.fresh near mid (single place) begun won.cells adds).fresh in
    let ours = adds.of ∙ (size.seen.own.of ∙ (finds.keeps.own.of ∙ (ap (λ (h : HandView). h.of) c.hand.view_is ∙ c.requires.ours))) in
    let cell = cell_found v segment place (place - c.first-first.result) key block.result.now c.in-Ok.ensures.key block.ensures.block block.ensures.long block.ensures.tied at.0 at.1 in
    let row = subst (λ (b : BlockView). KnowsRow mid key.segment b) (sym block.ensures.block) (subst (λ (k : ℕ). KnowsRow mid k key.block) (sym c.in-Ok.ensures.key.at)
    (row_kept near mid adds.of won.cells.rows segment key.block (row_kept found near size.seen.own.of size.cells.rows segment key.block c.in-Ok.ensures.row))) in
    (omega arith, (ours, (c.claiming_laws.ensures.owned near mid (single place) place adds (omega arith, omega arith), (fresh, (cell, row)))))

-- what the fill leaves of the hand
pub invariant_of-hand-in-Ok-exchange_as : goal.invariant_of-hand-in-Ok-exchange_as
invariant_of-hand-in-Ok-exchange_as g c =
    let old = c.hand.inside.claims in let found = c.key_for.new.claims in let near = c.size_as-from.new.hand in let mid = c.exchange_as.new.hand in let won = c.in-Ok-exchange_as.ensures in
    let size = c.size_as-from.ensures in let finds = c.key_for.ensures.finds in let place = c.size_as-from.result in let key = c.in-Ok.key in let block = c.known_block-block in
    let v = c.args.self.now in let segment : ℕ = c.locate-segment.result.0 in
    let mark = mark_is c.self.invariant c.self.view_is c.hand.view_is c.requires.ours in
    let keys = subst (λ names. AreKeys names c.key_for.new.keys) mark
    (subst (λ (u : VectorView g.row.T.Denot). AreKeys (mark_of u.segments) c.key_for.new.keys) (sym c.self.view_is) c.key_for.ensures.keys) in
    let f_is : c.layout-layout.result ≡ layout_of v = c.layout-layout.ensures.value ∙ ap (λ (w : VectorView g.row.T.Denot). layout_of w) c.self.view_is in
    let long : segment_start (layout_of v) segment + block_len block.result.now ≡ segment_end (layout_of v) segment =
    subst (λ (b : BlockView). segment_start (layout_of v) segment + block_len b ≡ segment_end (layout_of v) segment) (sym block.ensures.block)
    (subst (λ (k : ℕ). segment_start (layout_of v) k + block_len key.block ≡ segment_end (layout_of v) k) c.in-Ok.ensures.key.at block.ensures.long) in
    let long' = subst (λ (f : ℕ). segment_start f segment + block_len block.result.now ≡ segment_end f segment) (sym f_is) long in
    let same = size_of_keeps old found finds.keeps in let told = ap seen_size c.hand.view_is in let seen = c.seen-seen.ensures in let grows = size.grows in let len = c.len.ensures in let inside = c.if-offset-len.false in
    let at = near_place c.layout-layout.result segment c.seen-seen.result place c.first-first.result (block_len block.result.now) c.locate-segment.ensures.segment
    (omega (arith, same, told, seen, grows)) c.first-first.ensures long' (omega (arith, len, inside)) in
    let here = subst (λ (f : ℕ). HasPlace f segment place) (c.layout-layout.ensures.value ∙ ap layout_in mark) at.0 in
    held_still mid c.fill_cell.new.claims place 1 c.key_for.new.keys c.fill_cell.ensures.works
    (held_place old found mid c.hand.inside.keys c.key_for.new.keys c.claiming_laws.ensures.below c.hand.invariant keys c.key_for.ensures.kept finds c.key_for.ensures.rows
    (cells_on found near mid size.cells won.cells) c.claiming_laws.ensures.places c.places.ensures.one_segment c.in-Ok-exchange_as._run segment place
    (adds_after found near mid c.in-Ok-exchange_as._run (more_of_size found near place size.seen) won.claimed) won.run here c.in-Ok.ensures.put)

pub returns-in-Ok-exchange_as-clause-won : goal.returns-in-Ok-exchange_as-clause-won
returns-in-Ok-exchange_as-clause-won g c =
    let old = c.hand.inside.claims in let found = c.key_for.new.claims in let near = c.size_as-from.new.hand in let mid = c.exchange_as.new.hand in let new = c.fill_cell.new.claims in let won = c.in-Ok-exchange_as.ensures in
    let size = c.size_as-from.ensures in let finds = c.key_for.ensures.finds in let place = c.size_as-from.result in let here = c.fill_cell.ensures.here in
    let more = more_after old found near (more_of_keeps old found finds.keeps) (more_of_size found near place size.seen) in let same = size_of_keeps old found finds.keeps in let grows = size.grows in
    let adds : AddsRun old new (single place) = adds_still old mid new c.fill_cell.ensures.works.keeps (single place)
    (adds_after old near mid (single place) more (subst (λ (r : Run). AddsRun near mid r) won.run won.claimed)) in
    let all : WonPlace c.args.self.now c.args.value old new c.fill_cell.result = record {
      run = subst (λ (p : ℕ). AddsRun old new (single p)) (sym here) adds;
      owned = subst (λ (p : ℕ). OwnsRun new (single p)) (sym here) (c.claiming_laws.ensures.runs old new (single place) adds);
      not_below = omega (arith, here, same, grows);
      alone = λ whole. here ∙ (size.whole (finds.keeps.own.shares ∙ whole) ∙ same);
      token = c.fill_cell.ensures.token;
      value = c.fill_cell.ensures.value;
    } in
    subst (λ (h : HandView). WonPlace c.args.self.now c.args.value h new c.fill_cell.result) c.hand.view_is all

-- the claim, and then the fill
pub returns-in-Ok-exchange_as-clause-logs : goal.returns-in-Ok-exchange_as-clause-logs
returns-in-Ok-exchange_as-clause-logs g c =
    let old = c.hand.inside.claims in let near = c.size_as-from.new.hand in let mid = c.exchange_as.new.hand in let won = c.in-Ok-exchange_as.ensures in let place = c.size_as-from.result in
    let adds = subst (λ (r : Run). AddsRun near mid r) won.run won.claimed in
    let logs = subst (λ (r : Run). LogsRun near mid r) won.run won.logs in
    let more = nothing_after old.log c.key_for.new.claims.log near.log c.key_for.ensures.finds.more (log_goes_on _ _ _ c.size_as-from.ensures.logs) in
    let all = push_of c.claiming_laws.ensures.last c.claiming_laws.ensures.have old near mid c.fill_cell.new.claims place
    more adds logs c.fill_cell.ensures.works c.fill_cell.ensures.adds in
    subst (λ (p : ℕ). LogsPush c.args.hand.now c.fill_cell.new.claims p) (sym c.fill_cell.ensures.here)
    (subst (λ (h : HandView). LogsPush h c.fill_cell.new.claims place) c.hand.view_is all)
