use Rattle.std.proofs.Common.{rules, ◌≡◌, ◌≤◌, ℕ, List, sym, ap, ◌∙◌, subst, arith}
use Rattle.seg_core.specs.Segment.{segment_count, segment_start}
use Rattle.claim_core.specs.Hand.{HandView, seen_size}
use Rattle.claim_core.specs.History.{Log, IsHistoryOf}
use Rattle.claim_core.specs.Lengths.{runs_end}
use Rattle.claim_core.specs.Word.{WordView}
use Rattle.cell_core.specs.Member.{MemberView}
use Rattle.grow_core.specs.Closing.{AreKnown, IsStillOpen}
use Rattle.grow_core.specs.Parts.{AreLong, AreWhole, broken_count, values_in}
use Rattle.grow_core.specs.Vector.{VectorView}
use Rattle.grow_core.proofs.Settled.{closing_starts}
use Rattle.grow_core.proofs.StillOpen.{still_starts}
use Rattle.grow_core.proofs.close.Closing.of.Goals as goal

pub invariant_of-result : goal.invariant_of-result
invariant_of-result g c = c.take_apart_by-word.ensures.its.shared.whole.all ∙ sym c.base-base.ensures

pub invariant_of-result-2 : goal.invariant_of-result-2
invariant_of-result-2 g c =
    let take = c.take_apart_by-word in let keys = take.ensures in let its = keys.its in let own = its.shared in let parts = keys.parts in
    let word = take.result.0 in let table = take.result.1 in let count = its.count in let row = take.result.2 in let before = take.result.4 in let n = take.result.5 in let hand = take.new.hand in
    let hand_base : c.args.hand.of.base ≡ word.base = ap (λ (w : WordView). w.base) c.requires.ours ∙ ap (λ (v : VectorView g.row.T.Denot). v.word.base) parts in
    let hand_limit : c.args.hand.of.limit ≡ word.limit = ap (λ (w : WordView). w.limit) c.requires.ours ∙ ap (λ (v : VectorView g.row.T.Denot). v.word.limit) parts in
    let base : c.base-base.result ≡ word.base = c.base-base.ensures in
    let limit : c.limit-limit.result ≡ word.limit = c.limit-limit.ensures ∙ ap (λ (v : VectorView g.row.T.Denot). v.word.limit) parts in
    let kept = keys.finds.keeps in
    let size : c.seen-size.result ≡ seen_size c.args.hand = c.seen-size.ensures in
    let new_size : seen_size hand ≡ seen_size c.args.hand = (λ i. runs_end (kept.own.of i).base (kept.seen i)) in
    let hand_of : hand.of ≡ word = kept.own.of ∙ c.requires.ours ∙ ap (λ (v : VectorView g.row.T.Denot). v.word) parts in
    let long = subst (λ (v : VectorView g.row.T.Denot). AreLong v.segments.layout before) parts keys.long in
    let few = subst (λ (v : VectorView g.row.T.Denot). n ≤ segment_count v.segments.layout) parts keys.few in
    let all = subst (λ (v : VectorView g.row.T.Denot). seen_size c.args.hand ≤ segment_start v.segments.layout n) parts keys.all in
    let rows = subst (λ (v : VectorView g.row.T.Denot). AreKnown v.segments hand before) parts keys.rows in
    let history = subst (λ (u : WordView × Log). IsHistoryOf u.0.limit u.0.base u.0.filled u.1) (λ i. (sym kept.own.of i, sym keys.log i)) c.laws-2.ensures.history in
    let places = c.laws-2.ensures.places in let within = c.laws-2.ensures.within in (
      closing_starts table.layout c.of-mark.result.numbers table.names its.keys before c.keys_again.result row c.new.result c.new-2.result c.base-base.result c.limit-limit.result count
          n c.seen-size.result (subst (λ (u : ℕ × ℕ). AreWhole table.layout table.names its.keys row u.0 u.1 count) (λ i. (sym base i, sym limit i)) own.whole)
          c.of-mark.ensures.0 c.new.ensures keys.named long keys.there few its.first keys.none c.keys_again.ensures (search rules)
          (omega (arith, all, size)) (omega (arith, places, base, hand_base, size)) (omega (arith, within, limit, hand_limit, size)),
      sym (ap (λ (xs : List (MemberView g.row.T.Denot)). broken_count (values_in xs)) c.new.ensures),
      subst (λ (h : HandView). IsStillOpen word h take.result.3.tie table.layout 0 n c.seen-size.result c.keys_again.result c.new.result) (sym c.hand.view_is) (still_starts word table its.keys row count take.result.3.tie its.tags hand before c.keys_again.result n
          c.seen-size.result c.new.result own hand_of (kept.own.shares ∙ c.requires.whole) (size ∙ sym new_size) history rows c.keys_again.ensures few c.new.ensures),
    )
