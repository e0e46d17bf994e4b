use Rattle.std.proofs.Common.{◌≡◌, ℕ, [], refl, sym, ap, ◌∙◌, subst, arith}
use Rattle.seg_core.specs.Segment.{segment_count}
use base.Fml.{Lft}
use Rattle.claim_core.specs.Word.{WordView}
use Rattle.claim_core.specs.Hand.{HandView}
use Rattle.grow_core.specs.Parts.{AreBrokenIn, AreWhole}
use Rattle.grow_core.specs.Ties.{AreTiedBelow}
use Rattle.grow_core.proofs.Entered.{none_after, none_tied, remarked}
use Rattle.grow_core.proofs.vector.Shared.of_parts.Goals as goal

pub tie_entries-tags-requires : goal.tie_entries-tags-requires
tie_entries-tags-requires g c =
    let parts = c.parts.inside in let opened = c.in-Ok.ensures in let word = c.in-Ok.opened.0 in let whole = c.parts.invariant.0 in (
      omega arith,
      (
        record {
          whole = subst (λ (u : ℕ × ℕ). AreWhole parts.table.layout parts.table.names parts.keys parts.row u.0 u.1 parts.count) (λ i. (sym opened.word.1 i, sym opened.word.0 i)) whole;
          filled = opened.filled ∙ c.of-list.ensures.1;
          of = ap (λ (h : HandView). h.of) opened.hand;
          alone = ap (λ (h : HandView). h.shares) opened.hand;
          laid = (let none = opened.laid in omega (arith, none));
          staged = λ segment offset key later less at low. c.parts.invariant.4 segment offset key less at low;
          none = λ segment past low. absurd (omega (arith, low));
          tied = none_tied word parts.table c.cell_tag-cells.result.tie [] c.cell_tag-cells.ensures refl;
        },
        subst (λ (e : Lft). AreBrokenIn e parts.row) (sym c.end.ensures) c.parts.invariant.2,
      ),
    )

pub invariant_of-vector : goal.invariant_of-vector
invariant_of-vector g c =
    let parts = c.parts.inside in let made = c.tie_entries-tags.ensures in let o = made.opening in let table = c.tie_entries-tags.new.table in let keys = c.tie_entries-tags.new.keys in
    let word = c.in-Ok.opened.0 in let again = c.mark_again.ensures.word in let cells = c.cell_tag-cells.result.tie in
    let count = ap segment_count made.layout in
    let limit : word.limit ≡ c.mark_again.new.self.limit = sym (ap (λ (w : WordView). w.limit) again) in
    let base : word.base ≡ c.mark_again.new.self.base = sym (ap (λ (w : WordView). w.base) again) in
    record {
      whole = subst (λ (u : ℕ × ℕ). AreWhole table.layout table.names keys parts.row u.0 u.1 parts.count) (λ i. (base i, limit i)) o.whole;
      mark = ap (λ (w : WordView). w.mark) again ∙ c.of-segments.ensures.0;
      filled = ap (λ (w : WordView). w.filled) again ∙ o.filled;
      none = none_after table.layout table.names keys parts.row word.base word.limit parts.count o.whole
          (λ k past low. o.none k past (omega (arith, low, count)));
      tied = remarked word c.mark_again.new.self c.of-segments.result.numbers table cells c.tie_entries-tags.result (segment_count table.layout) again
          (subst (λ (n : ℕ). AreTiedBelow word table cells c.tie_entries-tags.result n) (sym count) o.tied);
    }
