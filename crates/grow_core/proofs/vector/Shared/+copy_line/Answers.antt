use Rattle.std.proofs.Common.{rules, ◌≡◌, ℕ, ◌+◌, ◌-◌, ◌%◌, ◌≤◌, List, ◌++◌, length, refl, sym, subst, ap, ◌∙◌, arith}
use Rattle.cell_core.specs.Laid.{word_cells}
use Rattle.cell_core.specs.Member.{MemberView}
use Rattle.cell_core.specs.Run.{cells_from, members_of}
use Rattle.cell_core.specs.Slot.{Names}
use Rattle.claim_core.specs.Word.{WordView}
use Rattle.grow_core.specs.Logs.{fill_steps}
use Rattle.grow_core.specs.Stretch.{values_from}
use Rattle.grow_core.proofs.Copying.{copied_both, length-values_from}
use Rattle.grow_core.proofs.Stretches.{cells_length}
use Rattle.grow_core.proofs.TiedCells.{owned_within}
use Rattle.grow_core.proofs.Works.{along_after, along_both, fresh_before, keeps_both, place_still, row_kept, size_of_keeps, works_on, works_twice, works_within}
use Rattle.grow_core.proofs.vector.Shared.+copy_line.Goals as goal

-- the last places of the run, whose states are in one word
pub begin_run_tied-pen-requires : goal.begin_run_tied-pen-requires
begin_run_tied-pen-requires g t c =
    let last = c.last_run-last.result in let few = c.last_run-last.ensures.few in let from = c.args.segment.now.from in
    let here : (c.args.place - from) + c.args.n - last ≡ (c.args.place + (c.args.n - last)) - from = omega (arith, few, c.requires.from) in
    let word = subst (λ (k : ℕ). k % word_cells + last ≤ word_cells) here c.last_run-last.ensures.word in
    (omega arith, (c.requires.ours, ((λ p is_place. c.requires.owned p (omega (arith, is_place.0), omega (arith, is_place.1, few))), ((λ p above below it. c.requires.fresh p (omega (arith, above)) (omega (arith, below, few)) it), (c.requires.segment, (c.requires.row, (omega (arith, c.requires.from), (omega (arith, c.requires.within, few), (word, c.last_run-last.ensures.some)))))))))

pub write_from-pen-requires-clause-cells : goal.write_from-pen-requires-clause-cells
write_from-pen-requires-clause-cells g t c =
    let segment = c.args.segment.now in let last = c.last_run-last.result in
    ap length c.begin_run_tied-pen.ensures.pen.cells ∙ cells_length last (c.args.place + (c.args.n - last) - segment.from) segment.block.now.cells

-- all places are those of the last word
pub publish_tied-requires : goal.publish_tied-requires
publish_tied-requires g t c =
    let works = c.begin_run_tied-pen.ensures.works in let segment = c.args.segment.now in let key = segment.key in let old = c.args.claims.now in let mid = c.begin_run_tied-pen.new.claims in
    let place = c.args.place in let n = c.args.n in let last = c.last_run-last.result in let cells = segment.block.now.cells in
    let whole : last ≡ n = omega (arith, c.last_run-last.ensures.few, c.if-before-eq0.true) in
    let owned = owned_within c.seen_runs_are_within.ensures old place n c.requires.some c.requires.owned in
    let base = subst (λ (w : WordView). w.base ≤ place) (sym works.keeps.own.of) owned.0 in
    let same = size_of_keeps old mid works.keeps in
    let run = c.write_from-pen.ensures.run in let pen = c.begin_run_tied-pen.ensures.pen in
    let there : place + (n - last) - segment.from ≡ place - segment.from = omega (arith, whole) in
    let at = run.0 ∙ (pen.at ∙ there) in
    let are = run.1 ∙ (pen.cells ∙ (ap (λ (k : ℕ). cells_from k (place + (n - last) - segment.from) cells) whole ∙ ap (λ (i : ℕ). cells_from n i cells) (there ∙ sym at))) in
    let many = ap length c.write_from-pen.ensures.values ∙ (length-values_from (g.S.Source.values c.args.source.now) (c.args.first + (n - last)) last (omega (arith, c.requires.values, whole)) ∙ whole) in
    (omega arith, (works.keeps.own.of ∙ c.requires.ours, (c.requires.segment, (row_kept old mid works.keeps.own.of works.rows key.segment key.block c.requires.row, (c.requires.from, (c.requires.within, (c.requires.some, ((base, omega (arith, owned.1, same)), ((at, are), many)))))))))

pub returns-then-before-eq0-clause-works : goal.returns-then-before-eq0-clause-works
returns-then-before-eq0-clause-works g t c =
    let old = c.args.claims.now in let mid = c.begin_run_tied-pen.new.claims in let place = c.args.place in let n = c.args.n in let last = c.last_run-last.result in
    let first = works_within old mid (place + (n - last)) last place n (omega arith) (omega (arith, c.last_run-last.ensures.few)) c.begin_run_tied-pen.ensures.works in
    works_twice old mid c.publish_tied.new.claims place n first c.publish_tied.ensures.works

pub returns-then-before-eq0-clause-adds : goal.returns-then-before-eq0-clause-adds
returns-then-before-eq0-clause-adds g t c =
    let works = c.begin_run_tied-pen.ensures.works in
    along_after c.args.claims.now c.begin_run_tied-pen.new.claims c.publish_tied.new.claims c.args.place c.args.n
    (λ index. fill_steps index c.args.place c.args.n) works.keeps works.more c.publish_tied.ensures.adds

-- the hand has begun the last places alone
pub copy_line-row-requires : goal.copy_line-row-requires
copy_line-row-requires g t c κs within =
    let works = c.begin_run_tied-pen.ensures.works in let key = c.args.segment.now.key in let old = c.args.claims.now in let mid = c.begin_run_tied-pen.new.claims in
    let place = c.args.place in let n = c.args.n in let last = c.last_run-last.result in let few = c.last_run-last.ensures.few in
    let sum : (n - last) + last ≡ n = omega (arith, few) in
    let fresh = fresh_before old mid place (n - last) (place + (n - last)) last n refl sum works c.requires.fresh in
    (omega (arith, c.decreases, c.last_run-last.ensures.some, c.requires.some), (search rules, (search rules, (omega arith, (works.keeps.own.of ∙ c.requires.ours, ((λ p is_place. place_still old mid works.keeps p (c.requires.owned p (is_place.0, omega (arith, is_place.1)))), (fresh, (c.requires.segment, (row_kept old mid works.keeps.own.of works.rows key.segment key.block c.requires.row, (c.requires.from, (omega (arith, c.requires.within), (omega (arith, c.if-before-eq0.false), (omega (arith, c.requires.values), omega (arith, c.requires.small))))))))))))))

-- and then it has filled those before them
pub publish_tied-last_row-requires : goal.publish_tied-last_row-requires
publish_tied-last_row-requires g t c =
    let begun = c.begin_run_tied-pen.ensures.works in let filled = c.copy_line-row.ensures.works in
    let segment = c.args.segment.now in let key = segment.key in let old = c.args.claims.now in let mid = c.begin_run_tied-pen.new.claims in let now = c.copy_line-row.new.claims in
    let place = c.args.place in let n = c.args.n in let last = c.last_run-last.result in let few = c.last_run-last.ensures.few in let cells = segment.block.now.cells in
    let keeps = keeps_both old mid now begun.keeps filled.keeps in let rows = filled.rows ∙ begun.rows in
    let owned = owned_within c.seen_runs_are_within.ensures old place n c.requires.some c.requires.owned in
    let base = subst (λ (w : WordView). w.base ≤ place) (sym keeps.own.of) owned.0 in
    let same = size_of_keeps old now keeps in
    let run = c.write_from-pen.ensures.run in let pen = c.begin_run_tied-pen.ensures.pen in
    let at = run.0 ∙ pen.at in
    let are = (run.1 ∙ pen.cells) ∙ ap (λ (i : ℕ). cells_from last i cells) (sym at) in
    let many = ap length c.write_from-pen.ensures.values ∙ length-values_from (g.S.Source.values c.args.source.now) (c.args.first + (n - last)) last (omega (arith, c.requires.values, few)) in
    (omega arith, (keeps.own.of ∙ c.requires.ours, (c.requires.segment, (row_kept old now keeps.own.of rows key.segment key.block c.requires.row, (omega (arith, c.requires.from), (omega (arith, c.requires.within, few), (c.last_run-last.ensures.some, ((omega (arith, base), omega (arith, owned.1, same, few)), ((at, are), many)))))))))

pub returns-clause-row : goal.returns-clause-row
returns-clause-row g t c =
    let segment = c.args.segment.now in let cells = segment.block.now.cells in let all = g.S.Source.values c.args.source.now in
    let place = c.args.place in let n = c.args.n in let last = c.last_run-last.result in let few = c.last_run-last.ensures.few in let before = n - last in
    let offset = place - segment.from in let next = place + before - segment.from in let first = c.args.first in
    let sum : before + last ≡ n = omega (arith, few) in let at : offset + before ≡ next = omega (arith, c.requires.from) in
    let wrote = c.write_from-pen.ensures in let made = c.write_from-pen.result in
    let start = members_of (cells_from before offset cells) (values_from all first before) in
    let rest : c.publish_tied-last_row.result ≡ members_of (cells_from last next cells) (values_from all (first + before) last) =
    c.publish_tied-last_row.ensures.row ∙ (ap (λ (γs : List Names). members_of γs made.values) (wrote.run.1 ∙ c.begin_run_tied-pen.ensures.pen.cells)
    ∙ ap (λ xs. members_of (cells_from last next cells) xs) wrote.values) in
    c.append.ensures ∙ (ap (λ (ms : List (MemberView g.row.T.Denot)). ms ++ c.publish_tied-last_row.result) c.copy_line-row.ensures.row
    ∙ (ap (λ (ms : List (MemberView g.row.T.Denot)). start ++ ms) rest ∙ sym (copied_both all first before last n offset next cells sum at c.requires.values)))

pub returns-clause-works : goal.returns-clause-works
returns-clause-works g t c =
    let old = c.args.claims.now in let mid = c.begin_run_tied-pen.new.claims in let now = c.copy_line-row.new.claims in let new = c.publish_tied-last_row.new.claims in
    let place = c.args.place in let n = c.args.n in let last = c.last_run-last.result in let few = c.last_run-last.ensures.few in
    let sum : (n - last) + last ≡ n = omega (arith, few) in
    let first = works_within old mid (place + (n - last)) last place n (omega arith) (omega (arith, few)) c.begin_run_tied-pen.ensures.works in
    works_twice old mid new place n first (works_on mid now place (n - last) (place + (n - last)) last n refl sum new c.copy_line-row.ensures.works c.publish_tied-last_row.ensures.works)

pub returns-clause-adds : goal.returns-clause-adds
returns-clause-adds g t c =
    let works = c.begin_run_tied-pen.ensures.works in let filled = c.copy_line-row.ensures in
    let place = c.args.place in let n = c.args.n in let last = c.last_run-last.result in
    let sum : (n - last) + last ≡ n = omega (arith, c.last_run-last.ensures.few) in
    along_both c.args.claims.now c.begin_run_tied-pen.new.claims c.copy_line-row.new.claims c.publish_tied-last_row.new.claims place (n - last) (place + (n - last)) last n refl sum
    works.keeps works.more filled.works.keeps filled.adds c.publish_tied-last_row.ensures.adds
