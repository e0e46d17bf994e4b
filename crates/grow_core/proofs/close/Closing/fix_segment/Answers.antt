use Rattle.std.proofs.Common.{◌≡◌, ◌≢◌, ℕ, ◌+◌, ◌<◌, ◌≤◌, length, refl, sym, ap, ◌∙◌, subst, arith}
use Rattle.std.proofs.lemmas.List.{length-map}
use Rattle.std.specs.Prelude.{Some, slice_get, slice_index}
use Rattle.seg_core.specs.Segment.{segment_start, segment_count}
use Rattle.claim_core.specs.Hand.{HandView}
use Rattle.cell_core.specs.Block.{BlockView, block_len, cell_at}
use Rattle.cell_core.specs.Fixed.{stage_in, untied_cell}
use Rattle.cell_core.specs.Member.{MemberView}
use Rattle.table_core.specs.Table.{KeyView, IsKeyOf}
use Rattle.grow_core.specs.Keys.{KeyRow, key_at}
use Rattle.grow_core.specs.Token.{place_in}
use Rattle.grow_core.specs.Parts.{AreMembers, AreWhole, member_stage, values_in}
use Rattle.grow_core.specs.Closing.{AreFixed, AreToldBy, ClosingView, IsKeptOf, IsStillOpen, IsTiedByCells}
use Rattle.grow_core.specs.Ties.{KnowsRow}
use Rattle.grow_core.proofs.Closed.{idle_cells, kept_again, still_more}
use Rattle.grow_core.proofs.Places.{written_cells}
use Rattle.grow_core.proofs.Settled.{segment_ends_later}
use Rattle.grow_core.proofs.close.Closing.fix_segment.Goals as goal

pub fix_cells-requires-clause-by : goal.fix_cells-requires-clause-by
fix_cells-requires-clause-by g c =
    let inside = c.self.inside in let inv = c.self.invariant.0 in let still = c.self.invariant.2 in let whole = inv.whole in let f : ℕ = inside.table.layout in let names = inside.table.names in let row : KeyRow = inside.keys in let known = inside.row in
    let segment : ℕ = inside.next in let key : KeyView = c.in-Some.key in let has : key_at row segment ≡ Some key = sym c.key_of.ensures ∙ c.in-Some.is in
    let first : segment < inside.count = subst (λ (v : ClosingView _). v.next < v.count) (sym c.self.view_is) c.requires.more in
    let few = whole.few in let flat = whole.layout.0 in let within : segment < segment_count f = omega (arith, first, few) in let small : segment < 40 = omega (arith, within, flat) in
    let start : c.deref_mut.result.now ≡ key.block = c.deref_mut.ensures.value ∙ c.detach-block.ensures.block in
    let by = still.open_still segment key (omega arith) first has in
    let layout_is : c.layout.result ≡ f = c.layout.ensures.value ∙ c.detach-block.ensures.layout in
    subst (λ (b : BlockView). IsTiedByCells inside.cells.tie b) (sym start) by.0

pub fix_cells-requires-clause-row : goal.fix_cells-requires-clause-row
fix_cells-requires-clause-row g c =
    let inside = c.self.inside in let inv = c.self.invariant.0 in let still = c.self.invariant.2 in let whole = inv.whole in let f : ℕ = inside.table.layout in let names = inside.table.names in let row : KeyRow = inside.keys in let known = inside.row in
    let segment : ℕ = inside.next in let key : KeyView = c.in-Some.key in let has : key_at row segment ≡ Some key = sym c.key_of.ensures ∙ c.in-Some.is in
    let first : segment < inside.count = subst (λ (v : ClosingView _). v.next < v.count) (sym c.self.view_is) c.requires.more in
    let few = whole.few in let flat = whole.layout.0 in let within : segment < segment_count f = omega (arith, first, few) in let small : segment < 40 = omega (arith, within, flat) in
    let start : c.deref_mut.result.now ≡ key.block = c.deref_mut.ensures.value ∙ c.detach-block.ensures.block in
    let by = still.open_still segment key (omega arith) first has in
    let layout_is : c.layout.result ≡ f = c.layout.ensures.value ∙ c.detach-block.ensures.layout in
    subst (λ (b : BlockView). KnowsRow inside.claims segment b) (sym start) by.1

pub invariant_of-self : goal.invariant_of-self
invariant_of-self g c =
    let inside = c.self.inside in let inv = c.self.invariant.0 in let still = c.self.invariant.2 in let whole = inv.whole in let f : ℕ = inside.table.layout in let names = inside.table.names in let row : KeyRow = inside.keys in let known = inside.row in
    let segment : ℕ = inside.next in let key : KeyView = c.in-Some.key in let has : key_at row segment ≡ Some key = sym c.key_of.ensures ∙ c.in-Some.is in
    let first : segment < inside.count = subst (λ (v : ClosingView _). v.next < v.count) (sym c.self.view_is) c.requires.more in
    let few = whole.few in let flat = whole.layout.0 in let within : segment < segment_count f = omega (arith, first, few) in let small : segment < 40 = omega (arith, within, flat) in
    let start : c.deref_mut.result.now ≡ key.block = c.deref_mut.ensures.value ∙ c.detach-block.ensures.block in
    let by = still.open_still segment key (omega arith) first has in
    let layout_is : c.layout.result ≡ f = c.layout.ensures.value ∙ c.detach-block.ensures.layout in
    let b1 : BlockView = c.fix_cells.new.block in
    let fixed : AreFixed key.block b1 = subst (λ (b : BlockView). AreFixed b b1) start c.fix_cells.ensures.fixed in
    let told : AreToldBy inside.claims f segment b1 = subst (λ (l : ℕ). AreToldBy inside.claims l segment b1) layout_is c.fix_cells.ensures.told in
    let put = c.put_block.ensures.put in let key' : KeyView = put.0 in let table' = c.put_block.new.table in
    let of : IsKeyOf table' segment b1 key' = put.1 in
    let at_key : key.segment ≡ segment = (whole.named segment key small has).at in
    let others : (j : ℕ) → j ≢ segment → slice_index table'.names j ≡ slice_index names j = (λ j other. c.put_block.ensures.others j other ∙ c.detach-block.ensures.others j (λ e. other (e ∙ at_key))) in
    let same_layout : table'.layout ≡ f = c.put_block.ensures.layout ∙ c.detach-block.ensures.layout in
    let counted : length (values_in known) ≡ inside.len = length-map known (λ (u : MemberView _). u.value) ∙ whole.all in
    let done : inside.len ≡ inside.size = subst (λ (n : ℕ). n ≡ inside.size) counted (subst (λ (v : ClosingView _). length v.members ≡ v.size) (sym c.self.view_is) c.requires.all) in
    let sized = still.sized in let past_all = still.past in let all = whole.all in
    let staged : (q : ℕ) → q < block_len key'.block → stage_in (cell_at key'.block q) ≡ Some (member_stage (slice_get known (place_in f segment q))) =
    subst (λ (b : BlockView). (q : ℕ) → q < block_len b → stage_in (cell_at b q) ≡ Some (member_stage (slice_get known (place_in f segment q)))) (sym of.of)
    (idle_cells c.runs_tile.ensures inside.claims f segment key.block b1 known fixed told c.whole_laws.ensures.claims (omega (arith, sized, past_all, all, done)) past_all) in
    let hand_same : inside.claims ≡ c.fix_cells.new.claims = sym c.fix_cells.ensures.kept in (
      record {
        whole = subst (λ (r : KeyRow). AreWhole table'.layout table'.names r known inside.len inside.limit inside.count) (sym put.2) (written_cells f names table' row known known segment 0 0 inside.len inside.len inside.limit inside.count key key' b1 whole same_layout small within
            (let more = segment_ends_later f segment in omega (arith, more)) has others of fixed.len
            (λ q low. absurd (omega (arith, low))) (λ q past. fixed.cells q) (λ q low. refl) (λ q past. refl) (λ i m low is. absurd (omega (arith, low))) all whole.within whole.inside);
        broken = inv.broken;
        kept = subst (λ (u : ℕ × KeyRow). IsKeptOf u.0 inside.mark.numbers inside.before table'.names u.1 known inside.count) (λ i. (sym same_layout i, sym put.2 i))
            (kept_again f inside.mark.numbers inside.before names table'.names row known inside.count segment key key' inv.kept whole.rows small first has others
            (λ q. ap (λ (b : BlockView). untied_cell (cell_at b q)) of.of ∙ fixed.cells q));
        first = subst (λ (l : ℕ). AreMembers l inside.before inside.opened) (sym same_layout) inv.first;
        inside = inv.inside;
        values = inv.values;
        within = inv.within;
        most = inv.most;
        enough = subst (λ (l : ℕ). inside.size ≤ segment_start l inside.count) (sym same_layout) inv.enough;
      },
      c.self.invariant.1,
      subst (λ (u : HandView × ℕ × KeyRow). IsStillOpen inside.word u.0 inside.cells.tie u.1 (segment + 1) inside.count inside.size u.2 known) (λ i. (hand_same i, sym same_layout i, sym put.2 i))
          (still_more inside.word inside.claims inside.cells.tie f segment inside.count inside.size segment row known known key' still refl whole.long small whole.rows
          (λ q low. refl) staged (λ less. absurd (omega (arith, less, all, done))) (let more = segment_ends_later f segment in omega (arith, more, past_all)) still.list),
    )
