use Rattle.std.proofs.Common.{◌≡◌, ◌≢◌, ℕ, ◌+◌, ◌-◌, ◌<◌, ◌≤◌, length, sym, ap, ◌∙◌, subst, arith}
use Rattle.std.proofs.lemmas.List.{length-map}
use Rattle.std.specs.Prelude.{min, Some, slice_get, slice_index}
use Rattle.seg_core.specs.Segment.{segment_start, segment_end, HasPlace}
use Rattle.seg_core.proofs.Doubling.{one_segment}
use Rattle.claim_core.specs.Hand.{HandView}
use Rattle.cell_core.specs.Block.{BlockView, IsMemberAt, block_len, cell_at}
use Rattle.cell_core.specs.Fixed.{stage_in, untied_cell}
use Rattle.cell_core.specs.Member.{MemberView}
use Rattle.table_core.specs.Table.{KeyView, IsKeyOf}
use Rattle.grow_core.specs.Keys.{KeyRow, key_at}
use Rattle.grow_core.specs.Token.{place_in}
use Rattle.grow_core.specs.Parts.{AreMembers, AreWhole, member_stage, values_in}
use Rattle.grow_core.specs.Closing.{AreFixed, AreSettled, AreToldBy, ClosingView, IsKeptOf, IsListSoFar, IsStillOpen, IsTiedByCells, KeepsValuesBelow}
use Rattle.grow_core.specs.Ties.{KnowsRow}
use Rattle.grow_core.proofs.Broken.{few_in_all}
use Rattle.grow_core.proofs.Closed.{closed_cells, list_more, still_more}
use Rattle.grow_core.proofs.Places.{written_cells, segment_below, untied_at}
use Rattle.grow_core.proofs.Settled.{key_there, known_there, kept_settled, nothing_past, segment_ends_later, settled_before, settled_broken, settled_length, settled_there, values_more}
use Rattle.grow_core.proofs.close.Closing.settle_segment.Goals as goal

pub fix_cells-requires-clause-by : goal.fix_cells-requires-clause-by
fix_cells-requires-clause-by g c =
    let inside = c.self.inside in let inv = c.self.invariant.0 in let still = c.self.invariant.2 in let whole = inv.whole in let f : ℕ = inside.table.layout in let names = inside.table.names in let row : KeyRow = inside.keys in let known = inside.row in let len : ℕ = inside.len in
    let taken = c.take_block-segment in let segment : ℕ = taken.result.0 in let offset : ℕ = taken.result.1 in let key : KeyView = taken.ensures.block.0 in let has : key_at row segment ≡ Some key = taken.ensures.block.1 in
    let small = taken.ensures.small in let at_len : place_in f segment offset ≡ len = taken.ensures.place in
    let there : HasPlace f segment len = record { from = omega (arith, at_len); before = taken.ensures.within } in
    let counted : length (values_in known) ≡ len = length-map known (λ (u : MemberView _). u.value) ∙ whole.all in
    let below : len < inside.size = subst (λ (n : ℕ). n < inside.size) counted (subst (λ (v : ClosingView _). length v.members < v.size) (sym c.self.view_is) c.requires) in
    let enough = inv.enough in let most = inv.most in
    let first = segment_below f segment len inside.count there (omega (arith, below, enough)) in
    let next_at : len ≡ segment_start f inside.next = sym whole.all ∙ still.at (subst (λ (n : ℕ). n < inside.size) (sym whole.all) below) in
    let same_next : inside.next ≡ segment = one_segment f inside.next segment len (record { from = omega (arith, next_at); before = (let more = segment_ends_later f inside.next in omega (arith, more, next_at)) }) there in
    let zero_off : offset ≡ 0 = (let starts = ap (segment_start f) same_next in omega (arith, at_len, next_at, starts)) in
    let start : c.deref_mut.result.now ≡ key.block = c.deref_mut.ensures.value ∙ sym taken.ensures.block.2 in
    let by = still.open_still segment key (omega (arith, same_next)) first has in
    let layout_is : c.layout.result ≡ f = c.layout.ensures.value ∙ taken.ensures.layout in
    subst (λ (b : BlockView). IsTiedByCells inside.cells.tie b) (sym start) by.0

pub fix_cells-requires-clause-row : goal.fix_cells-requires-clause-row
fix_cells-requires-clause-row g c =
    let inside = c.self.inside in let inv = c.self.invariant.0 in let still = c.self.invariant.2 in let whole = inv.whole in let f : ℕ = inside.table.layout in let names = inside.table.names in let row : KeyRow = inside.keys in let known = inside.row in let len : ℕ = inside.len in
    let taken = c.take_block-segment in let segment : ℕ = taken.result.0 in let offset : ℕ = taken.result.1 in let key : KeyView = taken.ensures.block.0 in let has : key_at row segment ≡ Some key = taken.ensures.block.1 in
    let small = taken.ensures.small in let at_len : place_in f segment offset ≡ len = taken.ensures.place in
    let there : HasPlace f segment len = record { from = omega (arith, at_len); before = taken.ensures.within } in
    let counted : length (values_in known) ≡ len = length-map known (λ (u : MemberView _). u.value) ∙ whole.all in
    let below : len < inside.size = subst (λ (n : ℕ). n < inside.size) counted (subst (λ (v : ClosingView _). length v.members < v.size) (sym c.self.view_is) c.requires) in
    let enough = inv.enough in let most = inv.most in
    let first = segment_below f segment len inside.count there (omega (arith, below, enough)) in
    let next_at : len ≡ segment_start f inside.next = sym whole.all ∙ still.at (subst (λ (n : ℕ). n < inside.size) (sym whole.all) below) in
    let same_next : inside.next ≡ segment = one_segment f inside.next segment len (record { from = omega (arith, next_at); before = (let more = segment_ends_later f inside.next in omega (arith, more, next_at)) }) there in
    let zero_off : offset ≡ 0 = (let starts = ap (segment_start f) same_next in omega (arith, at_len, next_at, starts)) in
    let start : c.deref_mut.result.now ≡ key.block = c.deref_mut.ensures.value ∙ sym taken.ensures.block.2 in
    let by = still.open_still segment key (omega (arith, same_next)) first has in
    let layout_is : c.layout.result ≡ f = c.layout.ensures.value ∙ taken.ensures.layout in
    subst (λ (b : BlockView). KnowsRow inside.claims segment b) (sym start) by.1

pub settle_cells-requires-clause-known : goal.settle_cells-requires-clause-known
settle_cells-requires-clause-known g c i m low is =
    let inside = c.self.inside in let inv = c.self.invariant.0 in let still = c.self.invariant.2 in let whole = inv.whole in let f : ℕ = inside.table.layout in let names = inside.table.names in let row : KeyRow = inside.keys in let known = inside.row in let len : ℕ = inside.len in
    let taken = c.take_block-segment in let segment : ℕ = taken.result.0 in let offset : ℕ = taken.result.1 in let key : KeyView = taken.ensures.block.0 in let has : key_at row segment ≡ Some key = taken.ensures.block.1 in
    let small = taken.ensures.small in let at_len : place_in f segment offset ≡ len = taken.ensures.place in
    let there : HasPlace f segment len = record { from = omega (arith, at_len); before = taken.ensures.within } in
    let counted : length (values_in known) ≡ len = length-map known (λ (u : MemberView _). u.value) ∙ whole.all in
    let below : len < inside.size = subst (λ (n : ℕ). n < inside.size) counted (subst (λ (v : ClosingView _). length v.members < v.size) (sym c.self.view_is) c.requires) in
    let enough = inv.enough in let most = inv.most in
    let first = segment_below f segment len inside.count there (omega (arith, below, enough)) in
    let next_at : len ≡ segment_start f inside.next = sym whole.all ∙ still.at (subst (λ (n : ℕ). n < inside.size) (sym whole.all) below) in
    let same_next : inside.next ≡ segment = one_segment f inside.next segment len (record { from = omega (arith, next_at); before = (let more = segment_ends_later f inside.next in omega (arith, more, next_at)) }) there in
    let zero_off : offset ≡ 0 = (let starts = ap (segment_start f) same_next in omega (arith, at_len, next_at, starts)) in
    let start : c.deref_mut.result.now ≡ key.block = c.deref_mut.ensures.value ∙ sym taken.ensures.block.2 in
    let by = still.open_still segment key (omega (arith, same_next)) first has in
    let layout_is : c.layout.result ≡ f = c.layout.ensures.value ∙ taken.ensures.layout in
    let end : ℕ = c.end_in-end.result in let n : ℕ = end - len in
    let ends : end ≡ min (segment_end f segment) inside.size = c.end_in-end.ensures ∙ ap (λ (l : ℕ). min (segment_end l segment) inside.size) (c.layout-2.ensures.value ∙ taken.ensures.layout) in
    let inner : len < segment_end f segment = taken.ensures.within in
    let b1 : BlockView = c.fix_cells.new.block in
    let fixed : AreFixed key.block b1 = subst (λ (b : BlockView). AreFixed b b1) start c.fix_cells.ensures.fixed in
    let told : AreToldBy inside.claims f segment b1 = subst (λ (l : ℕ). AreToldBy inside.claims l segment b1) layout_is c.fix_cells.ensures.told in
    let here : length known ≡ place_in f segment offset = whole.all ∙ sym at_len in
    let old = key_there (key_at inside.before segment) (inv.kept.there segment first) in
    let between : c.deref_mut-2.result.now ≡ b1 = c.deref_mut-2.ensures.value in
    let was : IsMemberAt key.block (offset + i) m = known_there f inside.mark.numbers inside.before names row known inside.count inv.kept segment offset old.0 key small first old.1 has here
    inside.opened i m inv.first (whole.long segment key small has) (omega (arith, at_len, low, ends)) (ap (λ (n : ℕ). slice_get inside.opened (n + i)) whole.all ∙ is) in
    subst (λ (b : BlockView). IsMemberAt b (offset + i) m) (sym between) (untied_at key.block b1 (offset + i) m fixed.len (fixed.cells (offset + i)) was)

pub invariant_of-self : goal.invariant_of-self
invariant_of-self g c =
    let inside = c.self.inside in let inv = c.self.invariant.0 in let still = c.self.invariant.2 in let whole = inv.whole in let f : ℕ = inside.table.layout in let names = inside.table.names in let row : KeyRow = inside.keys in let known = inside.row in let len : ℕ = inside.len in
    let taken = c.take_block-segment in let segment : ℕ = taken.result.0 in let offset : ℕ = taken.result.1 in let key : KeyView = taken.ensures.block.0 in let has : key_at row segment ≡ Some key = taken.ensures.block.1 in
    let small = taken.ensures.small in let at_len : place_in f segment offset ≡ len = taken.ensures.place in
    let there : HasPlace f segment len = record { from = omega (arith, at_len); before = taken.ensures.within } in
    let counted : length (values_in known) ≡ len = length-map known (λ (u : MemberView _). u.value) ∙ whole.all in
    let below : len < inside.size = subst (λ (n : ℕ). n < inside.size) counted (subst (λ (v : ClosingView _). length v.members < v.size) (sym c.self.view_is) c.requires) in
    let enough = inv.enough in let most = inv.most in
    let first = segment_below f segment len inside.count there (omega (arith, below, enough)) in
    let next_at : len ≡ segment_start f inside.next = sym whole.all ∙ still.at (subst (λ (n : ℕ). n < inside.size) (sym whole.all) below) in
    let same_next : inside.next ≡ segment = one_segment f inside.next segment len (record { from = omega (arith, next_at); before = (let more = segment_ends_later f inside.next in omega (arith, more, next_at)) }) there in
    let zero_off : offset ≡ 0 = (let starts = ap (segment_start f) same_next in omega (arith, at_len, next_at, starts)) in
    let start : c.deref_mut.result.now ≡ key.block = c.deref_mut.ensures.value ∙ sym taken.ensures.block.2 in
    let by = still.open_still segment key (omega (arith, same_next)) first has in
    let layout_is : c.layout.result ≡ f = c.layout.ensures.value ∙ taken.ensures.layout in
    let end : ℕ = c.end_in-end.result in let n : ℕ = end - len in
    let ends : end ≡ min (segment_end f segment) inside.size = c.end_in-end.ensures ∙ ap (λ (l : ℕ). min (segment_end l segment) inside.size) (c.layout-2.ensures.value ∙ taken.ensures.layout) in
    let inner : len < segment_end f segment = taken.ensures.within in
    let b1 : BlockView = c.fix_cells.new.block in
    let fixed : AreFixed key.block b1 = subst (λ (b : BlockView). AreFixed b b1) start c.fix_cells.ensures.fixed in
    let told : AreToldBy inside.claims f segment b1 = subst (λ (l : ℕ). AreToldBy inside.claims l segment b1) layout_is c.fix_cells.ensures.told in
    let here : length known ≡ place_in f segment offset = whole.all ∙ sym at_len in
    let b2 : BlockView = c.settle_cells.new.block in let known' = c.settle_cells.new.row in
    let between : c.deref_mut-2.result.now ≡ b1 = c.deref_mut-2.ensures.value in
    let run : AreSettled b1 b2 offset inside.opened (length known) known known' inside.epoch n = subst (λ (u : BlockView × ℕ). AreSettled u.0 b2 offset inside.opened u.1 known known' inside.epoch n) (λ i. (between i, sym whole.all i)) c.settle_cells.ensures.settled in
    let run0 : AreSettled b1 b2 0 inside.opened (length known) known known' inside.epoch n = subst (λ (o : ℕ). AreSettled b1 b2 o inside.opened (length known) known known' inside.epoch n) zero_off run in
    let put = c.put_block.ensures.put in let key' : KeyView = put.0 in let table' = c.put_block.new.table in
    let of : IsKeyOf table' segment b2 key' = put.1 in
    let others : (j : ℕ) → j ≢ segment → slice_index table'.names j ≡ slice_index names j = (λ j other. c.put_block.ensures.others j other ∙ taken.ensures.others j other) in
    let within : place_in f segment offset + n ≤ segment_end f segment = omega (arith, at_len, ends, below, inner) in
    let reach : len + n ≡ end = omega (arith, ends, below, inner) in
    let old = key_there (key_at inside.before segment) (inv.kept.there segment first) in
    let same_layout : table'.layout ≡ f = c.put_block.ensures.layout ∙ taken.ensures.layout in
    let long = whole.long segment key small has in
    let sized = still.sized in
    let all' : length known' ≡ end = settled_length b1 b2 offset inside.opened (length known) known known' inside.epoch n run ∙ ap (λ (k : ℕ). k + n) whole.all ∙ reach in
    let starts : length known ≡ segment_start f segment = omega (arith, here, zero_off) in
    let known_before : (q : ℕ) → q < segment_start f segment → slice_get known' q ≡ slice_get known q =
    (λ q low. settled_before b1 b2 offset inside.opened (length known) known known' inside.epoch n run q (omega (arith, low, starts))) in
    let staged : (q : ℕ) → q < block_len key'.block → stage_in (cell_at key'.block q) ≡ Some (member_stage (slice_get known' (place_in f segment q))) =
    subst (λ (b : BlockView). (q : ℕ) → q < block_len b → stage_in (cell_at b q) ≡ Some (member_stage (slice_get known' (place_in f segment q)))) (sym of.of)
    (closed_cells inside.claims f segment key.block b1 b2 inside.opened known known' inside.epoch n fixed told run0 c.runs_tile.ensures c.whole_laws.ensures.claims starts
    (λ o far near. omega (arith, far, near, long, sized, ends, at_len, zero_off))) in
    let hand_same : inside.claims ≡ c.fix_cells.new.claims = sym c.fix_cells.ensures.kept in
    let list : IsListSoFar inside.word inside.claims.log (values_in known') = subst (λ w. IsListSoFar w inside.claims.log (values_in known')) still.of
    (list_more inside.claims f segment key.block b1 b2 inside.opened known known' inside.epoch n fixed told run0 c.runs_tile.ensures (subst (λ w. IsListSoFar w inside.claims.log (values_in known)) (sym still.of) still.list)
    c.whole_laws.ensures.claims starts (omega (arith, long, within, zero_off)) (omega (arith, whole.all, reach, ends, sized))) in (
      record {
        whole = subst (λ (r : KeyRow). AreWhole table'.layout table'.names r known' end inside.limit inside.count) (sym put.2) (written_cells f names table' row known known' segment offset n len end inside.limit inside.count key key' b2 whole same_layout small taken.ensures.segment within has others of
            (run.len ∙ fixed.len)
            (λ q low. absurd (omega (arith, low, zero_off)))
            (λ q past. ap untied_cell (run.after q past) ∙ fixed.cells q)
            (λ q low. settled_before b1 b2 offset inside.opened (length known) known known' inside.epoch n run q (omega (arith, low, here)))
            (λ q past. let far : length known' ≤ q = omega (arith, past, all', reach, at_len) in nothing_past known' q far ∙ sym (nothing_past known q (omega (arith, past, here))))
            (λ i m low is. run.members i m (sym (settled_there b1 b2 offset inside.opened (length known) known known' inside.epoch n run i) ∙ ap (slice_get known') (let e : length known + i ≡ place_in f segment offset + i = omega (arith, here) in e) ∙ is))
            all' (omega (arith, ends, most)) (omega (arith, ends, enough)));
        broken = settled_broken b1 b2 offset inside.opened (length known) known known' inside.epoch n run inv.broken;
        kept = subst (λ (u : ℕ × KeyRow). IsKeptOf u.0 inside.mark.numbers inside.before table'.names u.1 known' inside.count) (λ i. (sym same_layout i, sym put.2 i))
            (kept_settled f inside.mark.numbers inside.before names row known inside.count inv.kept segment offset old.0 key small first old.1 has here
            table'.names key' b1 b2 inside.opened known' inside.epoch n whole.rows within others fixed.cells run of.of);
        first = subst (λ (l : ℕ). AreMembers l inside.before inside.opened) (sym same_layout) inv.first;
        inside = inv.inside;
        values = subst (λ (k : ℕ). KeepsValuesBelow k (values_in inside.opened) (values_in known')) (ap (λ (k : ℕ). k + n) whole.all ∙ reach)
            (values_more b1 b2 offset inside.opened known known' inside.epoch n run (subst (λ (k : ℕ). KeepsValuesBelow k (values_in inside.opened) (values_in known)) (sym whole.all) inv.values));
        within = omega (arith, ends);
        most = most;
        enough = subst (λ (l : ℕ). inside.size ≤ segment_start l inside.count) (sym same_layout) enough;
      },
      omega (arith, c.self.invariant.1, c.settle_cells.ensures.broken),
      subst (λ (u : HandView × ℕ × KeyRow). IsStillOpen inside.word u.0 inside.cells.tie u.1 (segment + 1) inside.count inside.size u.2 known') (λ i. (hand_same i, sym same_layout i, sym put.2 i))
          (still_more inside.word inside.claims inside.cells.tie f inside.next inside.count inside.size segment row known known' key' still same_next whole.long small whole.rows
          known_before staged (λ less. omega (arith, less, all', ends)) (omega (arith, all', ends)) list),
    )

pub overflow_add-self : goal.overflow_add-self
overflow_add-self g c =
    let inside = c.self.inside in let whole = c.self.invariant.0.whole in let taken = c.take_block-segment in
    let more = settled_length _ _ _ _ _ _ _ _ _ c.settle_cells.ensures.settled in let few = few_in_all c.settle_cells.new.row in
    let most = c.self.invariant.0.most in let limited = whole.limited.1 in
    let ends : c.end_in-end.result ≤ inside.size = omega (arith, c.end_in-end.ensures) in
    let counted : length (values_in inside.row) ≡ inside.len = length-map inside.row (λ (u : MemberView _). u.value) ∙ whole.all in
    let below : inside.len < inside.size = subst (λ (n : ℕ). n < inside.size) counted (subst (λ (v : ClosingView _). length v.members < v.size) (sym c.self.view_is) c.requires) in
    record { fits = omega (arith, more, few, whole.all, ends, below, most, limited, c.self.invariant.1, c.settle_cells.ensures.broken) }
