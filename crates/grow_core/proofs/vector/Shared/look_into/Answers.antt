use Rattle.std.proofs.Common.{◌≡◌, ◌<◌, ℕ, sym, ap, ◌∙◌, subst, arith}
use Rattle.seg_core.specs.Segment.{segment_end}
use Rattle.cell_core.specs.Block.{BlockView, block_len}
use Rattle.cell_core.specs.Shown.{IsLookAt}
use Rattle.table_core.specs.Table.{IsBlockOf, IsKeyIn}
use Rattle.grow_core.specs.Read.{IsShownAt}
use Rattle.grow_core.specs.Token.{place_in}
use Rattle.grow_core.specs.Vector.{VectorView, IsOpenedAt, layout_of}
use Rattle.grow_core.proofs.vector.Shared.look_into.Goals as goal

pub shown_in-requires : goal.shown_in-requires
shown_in-requires g c =
    let key = c.in-Some.key in let is = c.in-Some.ensures.key in let f : ℕ = c.self.inside.table.layout in
    let long : IsBlockOf f key.segment key.block =
    subst (λ (s : ℕ). IsBlockOf f s key.block) (sym is.at) (subst (λ (b : BlockView). IsBlockOf f c.locate-segment.result.0 b) (sym is.of) c.in-Some.ensures.length) in
    let looks : IsLookAt key.block c.locate-segment.result.1 c.look_alone.result = subst (λ (b : BlockView). IsLookAt b c.locate-segment.result.1 c.look_alone.result) (sym is.of) c.look_alone.ensures in
    let layout = c.layout.ensures.value in let at = c.locate-segment in
    let starts = subst (λ (k : ℕ). place_in k at.result.0 at.result.1 ≡ c.args.place) layout at.ensures.offset in
    let ends = subst (λ (k : ℕ). c.args.place < segment_end k at.result.0) layout at.ensures.segment.before in
    let len = ap block_len is.of in (
      omega arith,
      (
        subst (λ (v : VectorView g.row.T.Denot). IsKeyIn v.segments key) c.self.view_is is.inside,
        (subst (λ (v : VectorView g.row.T.Denot). IsBlockOf (layout_of v) key.segment key.block) c.self.view_is long, (c.locate-segment.result.1, omega (arith, starts, ends, c.in-Some.ensures.length, len), looks)),
      ),
    )

pub returns-clause-shown : goal.returns-clause-shown
returns-clause-shown g c =
    let key = c.in-Some.key in let is = c.in-Some.ensures.key in
    let looks : IsLookAt key.block c.locate-segment.result.1 c.look_alone.result = subst (λ (b : BlockView). IsLookAt b c.locate-segment.result.1 c.look_alone.result) (sym is.of) c.look_alone.ensures in
    let layout = c.layout.ensures.value in let at = c.locate-segment in
    let starts = subst (λ (k : ℕ). place_in k at.result.0 at.result.1 ≡ c.args.place) layout at.ensures.offset in
    let ends = subst (λ (k : ℕ). c.args.place < segment_end k at.result.0) layout at.ensures.segment.before in
    let len = ap block_len is.of in
    let same : layout_of c.args.self.now ≡ c.self.inside.table.layout = sym (ap (λ (v : VectorView g.row.T.Denot). layout_of v) c.self.view_is) in
    let here : place_in (layout_of c.args.self.now) key.segment at.result.1 ≡ c.args.place =
    (λ i. place_in (same i) (is.at i) at.result.1) ∙ starts in
    subst (λ (p : ℕ). IsShownAt c.args.self.now p c.shown_in.result) here (c.shown_in.ensures.shown at.result.1 (omega (arith, starts, ends, c.in-Some.ensures.length, len)) looks)

pub returns-clause-opened : goal.returns-clause-opened
returns-clause-opened g c x is =
    let key = c.in-Some.key in let key_is = c.in-Some.ensures.key in
    let looks : IsLookAt key.block c.locate-segment.result.1 c.look_alone.result = subst (λ (b : BlockView). IsLookAt b c.locate-segment.result.1 c.look_alone.result) (sym key_is.of) c.look_alone.ensures in
    let layout = c.layout.ensures.value in let at = c.locate-segment in
    let starts = subst (λ (k : ℕ). place_in k at.result.0 at.result.1 ≡ c.args.place) layout at.ensures.offset in
    let ends = subst (λ (k : ℕ). c.args.place < segment_end k at.result.0) layout at.ensures.segment.before in
    let len = ap block_len key_is.of in
    let same : layout_of c.args.self.now ≡ c.self.inside.table.layout = sym (ap (λ (v : VectorView g.row.T.Denot). layout_of v) c.self.view_is) in
    let here : place_in (layout_of c.args.self.now) key.segment at.result.1 ≡ c.args.place =
    (λ i. place_in (same i) (key_is.at i) at.result.1) ∙ starts in
    c.shown_in.ensures.opened at.result.1 x (omega (arith, starts, ends, c.in-Some.ensures.length, len)) looks (subst (λ (p : ℕ). IsOpenedAt c.args.self.now p x) (sym here) is)
