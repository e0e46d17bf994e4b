use Rattle.std.proofs.Common.{◌≡◌, ℕ, ◌+◌, ◌∙◌, refl, ap, sym, subst, Some, slice_get}
use Rattle.seg_core.specs.Segment.{segment_of, segment_start}
use Rattle.grow_core.specs.Grown.{GrownView, IsGrownOf, values_of, token_at, tokens_of}
use Rattle.grow_core.specs.Token.{PlacedView}
use Rattle.grow_core.specs.Vector.{IsPlacedOf}
use Rattle.grow_core.proofs.KnownPlaces.{token_is, get_map, all_get, made_of}
use Rattle.grow_core.proofs.grown.Grown.placed.Goals as goal

pub returns-clause-value : goal.returns-clause-value
returns-clause-value g c =
    let own = c.self.inside in let keys = own.filled.keys in let row = own.filled.row in let x = c.placed.result.value in
    let there = token_is keys own.run.from row c.self.invariant.filled c.args.i c.at.result x c.at.ensures (sym c.placed.ensures.value) in
    subst (λ (s : GrownView g.row.T.Denot). slice_get (values_of s) c.args.i ≡ Some x) c.self.view_is
    (get_map (λ (t : PlacedView g.row.T.Denot). t.value) (tokens_of keys own.run.from row) c.args.i (token_at keys (own.run.from + c.args.i) c.at.result x) there)

pub returns-clause-of : goal.returns-clause-of
returns-clause-of g c v is =
    let own = c.self.inside in let keys = own.filled.keys in let row = own.filled.row in let x = c.placed.result.value in let locate = c.locate-segment.ensures in
    let there = token_is keys own.run.from row c.self.invariant.filled c.args.i c.at.result x c.at.ensures (sym c.placed.ensures.value) in
    let its = subst (λ (s : GrownView g.row.T.Denot). IsGrownOf v s) (sym c.self.view_is) is in
    let one = all_get (IsPlacedOf v) (tokens_of keys own.run.from row) c.args.i (token_at keys (own.run.from + c.args.i) c.at.result x) its there in
    let layout = c.layout.ensures in let segment = c.locate-segment.result.0 in
    rw c.key.ensures (made_of keys (own.run.from + c.args.i) segment c.locate-segment.result.1 c.at.result x c.placed.result
    (locate.number ∙ ap (λ (f : ℕ). segment_of f (own.run.from + c.args.i)) layout)
    (ap (λ (f : ℕ). segment_start f segment + c.locate-segment.result.1) (sym layout) ∙ locate.offset)
    c.placed.ensures.offset refl c.placed.ensures.name v one)
