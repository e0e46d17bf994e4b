use Rattle.std.proofs.Common.{◌≡◌, ℕ, sym, ap, subst}
use Rattle.quiet_core.specs.QuietList.{QuietList, IsWhole}
use Rattle.quiet_core.proofs.Whole.{starts_whole}
use Rattle.quiet_core.proofs.quiet.Quiet.capacity.Goals as goal

pub returns-clause-whole : goal.returns-clause-whole
returns-clause-whole g c =
    let parts = c.self.inside.parts in
    let layout : parts.layout ≡ c.args.self.now.layout = ap (λ (q : QuietList g.row.T.Denot). q.layout) c.self.view_is in
    subst (λ (u : ℕ × ℕ). IsWhole u.0 u.1) (λ i. (layout i, sym c.capacity.ensures.value i)) (starts_whole parts.layout parts.segments)
