use Rattle.std.proofs.Common.{◌≡◌, List, ℕ, [], ◌∷◌, ◌-◌, sym, ap, ◌∙◌, subst, arith}
use Rattle.claim_core.specs.Hand.{HandView, seen_size}
use Rattle.claim_core.specs.History.{AddsEvents, enough_event, memory_event, raise_event}
use Rattle.grow_core.specs.declared.errors.GrowError.TheVariants.{NoMemory}
use Rattle.grow_core.specs.AtLeast.{RefusesAtLeast}
use Rattle.grow_core.specs.Logs.{LogsClaim}
use Rattle.grow_core.specs.Keys.{AreKeys, HasKeysOfRun, layout_in, mark_of}
use Rattle.grow_core.specs.Vector.{VectorView, layout_of}
use Rattle.grow_core.proofs.Claims.{held_more, held_run}
use Rattle.grow_core.proofs.KeyRows.{keys_of_later, mark_is}
use Rattle.grow_core.proofs.Later.{more_after, more_of_same, size_of_same}
use Rattle.grow_core.proofs.Works.{begun_still, more_of_keeps, size_of_keeps}
use Rattle.grow_core.proofs.Logs.{events_after}
use Rattle.grow_core.proofs.Wins.{claim_after, claim_of, new_run_of}
use Rattle.grow_core.proofs.vector.Shared.raise.Goals.{in-Ok-raise, in-Err}
use Rattle.grow_core.proofs.vector.Shared.raise.Goals as goal

pub install-requires : goal.install-requires
install-requires g c =
    let mark = mark_is c.self.invariant c.self.view_is c.hand.view_is c.requires.ours in
    let limit = ap (λ (v : VectorView g.row.T.Denot). v.word.limit) c.self.view_is in
    let keys = subst (λ (v : VectorView g.row.T.Denot). AreKeys (mark_of v.segments) c.hand.inside.keys) c.self.view_is
    (subst (λ names. AreKeys names c.hand.inside.keys) (sym mark) c.hand.invariant.0.keys) in
    (omega arith, (ap (λ (h : HandView). h.of) c.hand.view_is ∙ c.requires.ours, (omega (arith, c.seen-from.ensures, c.requires.further), (omega (arith, limit, c.self.invariant.whole.limited.1, c.seen-from.ensures, c.requires.further, c.requires.within_limit), (keys, c.hand.invariant.1)))))

pub invariant_of-hand : goal.invariant_of-hand
invariant_of-hand g c =
    let mark = mark_is c.self.invariant c.self.view_is c.hand.view_is c.requires.ours in
    let keys = subst (λ names. AreKeys names c.install.new.keys) mark
    (subst (λ (v : VectorView g.row.T.Denot). AreKeys (mark_of v.segments) c.install.new.keys) (sym c.self.view_is) c.install.ensures.keys) in
    held_more c.hand.inside.claims c.install.new.claims c.log_no_memory.new.hand c.hand.inside.keys c.install.new.keys c.claiming_laws.ensures.below
    c.hand.invariant keys c.install.ensures.kept c.install.ensures.finds c.install.ensures.rows c.log_no_memory.ensures.cells c.claiming_laws.ensures.stay
    (more_of_same c.install.new.claims c.log_no_memory.new.hand c.log_no_memory.ensures.own c.log_no_memory.ensures.seen)

pub invariant_of-hand-2 : goal.invariant_of-hand-2
invariant_of-hand-2 g c =
    let mark = mark_is c.self.invariant c.self.view_is c.hand.view_is c.requires.ours in
    let keys = subst (λ names. AreKeys names c.install.new.keys) mark
    (subst (λ (v : VectorView g.row.T.Denot). AreKeys (mark_of v.segments) c.install.new.keys) (sym c.self.view_is) c.install.ensures.keys) in
    let there = subst (λ (m : List ℕ). HasKeysOfRun (layout_in m) c.install.new.keys c.seen-from.result (c.args.size - c.seen-from.result)) mark
    (subst (λ (v : VectorView g.row.T.Denot). HasKeysOfRun (layout_of v) c.install.new.keys c.seen-from.result (c.args.size - c.seen-from.result)) (sym c.self.view_is) c.in-Ok.ensures.run) in
    let old = c.hand.inside.claims in let found = c.install.new.claims in let new = c.raise.new.hand in
    elim c.match-raise.branch [
      | in-Ok-raise w ↦
          let run = w.in-Ok-raise.run' in let won = w.in-Ok-raise.ensures in
          let same : seen_size old ≡ seen_size c.args.hand.now = ap seen_size c.hand.view_is in
          let still = size_of_keeps old found c.install.ensures.finds.keeps in
          held_run old found new c.hand.inside.keys c.install.new.keys c.claiming_laws.ensures.below c.hand.invariant keys c.install.ensures.kept
          c.install.ensures.finds c.install.ensures.rows won.cells c.claiming_laws.ensures.places run won.claimed
          (keys_of_later (layout_in old.of.mark) c.install.new.keys _ _ run.from run.n (omega (arith, won.not_below, c.seen-from.ensures, same, still))
          (omega (arith, won.run, c.requires.further, c.seen-from.ensures)) there)
      | in-Err w ↦
          let lost = w.in-Err.ensures.seen in
          held_more old found new c.hand.inside.keys c.install.new.keys c.claiming_laws.ensures.below c.hand.invariant keys c.install.ensures.kept
          c.install.ensures.finds c.install.ensures.rows w.in-Err.ensures.cells c.claiming_laws.ensures.stay (record { seen = lost.seen; own = lost.own })
    ]

-- a run that it claimed is new to the hand
pub returns-clause-new_run : goal.returns-clause-new_run
returns-clause-new_run g c =
    elim c.match-raise.branch [
      | in-Ok-raise w ↦
          let won = w.in-Ok-raise.ensures in
          rw w.result-is (new_run_of c.claiming_laws.ensures.last c.claiming_laws.ensures.fresh _ _ _ (begun_still _ _ c.install.ensures.finds c.claiming_laws.ensures.begun) won.cells won.claimed)
      | in-Err w ↦ rw w.result-is tt
    ]

pub returns-in_default-clause-refused : goal.returns-in_default-clause-refused
returns-in_default-clause-refused g c =
    let lacks = c.log_no_memory.ensures in
    let found = c.install.ensures.finds.keeps in
    let was : seen_size c.hand.inside.claims ≡ seen_size c.args.hand.now = ap seen_size c.hand.view_is in
    let still = size_of_keeps _ _ found in
    let same = size_of_same _ _ lacks.own lacks.seen in
    subst (λ (h : HandView). RefusesAtLeast c.args.self.now c.args.size h c.log_no_memory.new.hand (NoMemory tt)) c.hand.view_is
    (record {
      due = (omega (arith, was, c.requires.further), c.requires.within_limit);
      left = (more_after _ _ _ (more_of_keeps _ _ found) (more_of_same _ _ lacks.own lacks.seen), omega (arith, was, still, same, c.requires.further));
    })

pub returns-clause-logs : goal.returns-clause-logs
returns-clause-logs g c =
    let more = c.install.ensures.finds.more in
    elim c.match-raise.branch [
      | in-Ok-raise w ↦
          let logs = w.in-Ok-raise.ensures.logs in let run = w.in-Ok-raise.run' in
          rw w.result-is
          (subst (λ (h : HandView). LogsClaim (λ index. raise_event index c.args.size run) h c.raise.new.hand) c.hand.view_is
          (claim_after c.hand.inside.claims c.install.new.claims c.raise.new.hand more (λ index. raise_event index c.args.size run)
          (claim_of (λ index. raise_event index c.args.size run) c.install.new.claims c.raise.new.hand logs.index logs.last logs.adds)))
      | in-Err w ↦
          let size = w.in-Err.field-0.size in
          rw w.result-is
          (subst (λ (h : HandView). AddsEvents h.log (enough_event c.args.size size ∷ []) c.raise.new.hand.log) c.hand.view_is
          (events_after c.hand.inside.claims.log c.install.new.claims.log c.raise.new.hand.log (enough_event c.args.size size ∷ []) more w.in-Err.ensures.logs_enough))
    ]

pub returns-in_default-clause-logs_refusal : goal.returns-in_default-clause-logs_refusal
returns-in_default-clause-logs_refusal g c =
    subst (λ (h : HandView). AddsEvents h.log (memory_event ∷ []) c.log_no_memory.new.hand.log) c.hand.view_is
    (events_after _ _ _ (memory_event ∷ []) c.install.ensures.finds.more c.log_no_memory.ensures.logs)
