use Rattle.std.proofs.Common.{◌≡◌, ◌∙◌, List, ℕ, [], ◌∷◌, ap, sym, subst, arith}
use Rattle.claim_core.specs.declared.run.Run.{Run}
use Rattle.claim_core.specs.Hand.{HandView, AddsRun, seen_size}
use Rattle.claim_core.specs.History.{AddsEvents, full_event, memory_event}
use Rattle.grow_core.specs.declared.errors.GrowError.TheVariants.{NoMemory}
use Rattle.grow_core.specs.Vector.{VectorView, layout_of}
use Rattle.grow_core.specs.Growth.{Refuses}
use Rattle.grow_core.specs.Logs.{LogsNothing}
use Rattle.grow_core.specs.Keys.{AreKeys, HasKeysOfRun, layout_in, mark_of}
use Rattle.grow_core.proofs.Claims.{held_more, held_run}
use Rattle.grow_core.proofs.KeyRows.{mark_is}
use Rattle.grow_core.proofs.Later.{more_after, more_of_same, refuses_memory}
use Rattle.grow_core.proofs.Logs.{adds_noted, events_after, full_noted, log_goes_on, nothing_after}
use Rattle.grow_core.proofs.Works.{begun_still, more_of_keeps}
use Rattle.grow_core.proofs.Wins.{new_run_of}
use Rattle.grow_core.proofs.vector.Shared.claim.Goals.{in-Ok-exchange_as, in-Err, in-Err-2}
use Rattle.grow_core.proofs.vector.Shared.claim.Goals as goal

pub install-requires : goal.install-requires
install-requires g c =
    let mark = mark_is c.self.invariant c.self.view_is c.hand.view_is c.requires.ours in
    let limit = ap (λ (v : VectorView g.row.T.Denot). v.word.limit) c.self.view_is in
    let keys = subst (λ (v : VectorView g.row.T.Denot). AreKeys (mark_of v.segments) c.hand.inside.keys) c.self.view_is
    (subst (λ names. AreKeys names c.hand.inside.keys) (sym mark) c.hand.invariant.0.keys) in
    (omega arith, (ap (λ (h : HandView). h.of) c.hand.view_is ∙ c.requires.ours, (c.requires.some_places, (omega (arith, limit, c.self.invariant.whole.limited.1, c.requires.within_limit), (keys, c.hand.invariant.1)))))

pub invariant_of-hand : goal.invariant_of-hand
invariant_of-hand g c =
    let mark = mark_is c.self.invariant c.self.view_is c.hand.view_is c.requires.ours in
    let keys = subst (λ names. AreKeys names c.install.new.keys) mark
    (subst (λ (v : VectorView g.row.T.Denot). AreKeys (mark_of v.segments) c.install.new.keys) (sym c.self.view_is) c.install.ensures.keys) in
    held_more c.hand.inside.claims c.install.new.claims c.log_no_memory.new.hand c.hand.inside.keys c.install.new.keys c.claiming_laws.ensures.below
    c.hand.invariant keys c.install.ensures.kept c.install.ensures.finds c.install.ensures.rows c.log_no_memory.ensures.cells c.claiming_laws.ensures.stay
    (more_of_same c.install.new.claims c.log_no_memory.new.hand c.log_no_memory.ensures.own c.log_no_memory.ensures.seen)

pub invariant_of-hand-2 : goal.invariant_of-hand-2
invariant_of-hand-2 g c =
    let mark = mark_is c.self.invariant c.self.view_is c.hand.view_is c.requires.ours in
    let keys = subst (λ names. AreKeys names c.install.new.keys) mark
    (subst (λ (v : VectorView g.row.T.Denot). AreKeys (mark_of v.segments) c.install.new.keys) (sym c.self.view_is) c.install.ensures.keys) in
    let there = subst (λ (m : List ℕ). HasKeysOfRun (layout_in m) c.install.new.keys c.args.from c.args.n) mark
    (subst (λ (v : VectorView g.row.T.Denot). HasKeysOfRun (layout_of v) c.install.new.keys c.args.from c.args.n) (sym c.self.view_is) c.in-Ok.ensures.run) in
    let old = c.hand.inside.claims in let found = c.install.new.claims in let new = c.exchange_as.new.hand in
    elim c.match-exchange_as.branch [
      | in-Ok-exchange_as w ↦
          let won = w.in-Ok-exchange_as.ensures in
          held_run old found new c.hand.inside.keys c.install.new.keys c.claiming_laws.ensures.below c.hand.invariant keys c.install.ensures.kept
          c.install.ensures.finds c.install.ensures.rows won.cells c.claiming_laws.ensures.places w.in-Ok-exchange_as._run won.claimed
          (subst (λ (r : Run). HasKeysOfRun (layout_in old.of.mark) c.install.new.keys r.from r.n) (sym won.run) there)
      | in-Err w ↦
          let lost = w.in-Err.ensures.seen in
          held_more old found new c.hand.inside.keys c.install.new.keys c.claiming_laws.ensures.below c.hand.invariant keys c.install.ensures.kept
          c.install.ensures.finds c.install.ensures.rows w.in-Err.ensures.cells c.claiming_laws.ensures.stay (record { seen = lost.seen; own = lost.own })
      | in-Err-2 w ↦
          let lost = w.in-Err.ensures.seen in
          held_more old found new c.hand.inside.keys c.install.new.keys c.claiming_laws.ensures.below c.hand.invariant keys c.install.ensures.kept
          c.install.ensures.finds c.install.ensures.rows w.in-Err.ensures.cells c.claiming_laws.ensures.stay (record { seen = lost.seen; own = lost.own })
    ]

-- the run that it claimed is new to the hand
pub returns-clause-new_run : goal.returns-clause-new_run
returns-clause-new_run g c =
    elim c.match-exchange_as.branch [
      | in-Ok-exchange_as w ↦
          let adds = subst (λ (r : Run). AddsRun c.install.new.claims c.exchange_as.new.hand r) w.in-Ok-exchange_as.ensures.run w.in-Ok-exchange_as.ensures.claimed in
          rw w.result-is (new_run_of c.claiming_laws.ensures.last c.claiming_laws.ensures.fresh _ _ _
          (begun_still _ _ c.install.ensures.finds c.claiming_laws.ensures.begun) w.in-Ok-exchange_as.ensures.cells adds)
      | in-Err w ↦ rw w.result-is tt
      | in-Err-2 w ↦ rw w.result-is tt
    ]

pub returns-clause-owned : goal.returns-clause-owned
returns-clause-owned g c =
    elim c.match-exchange_as.branch [
      | in-Ok-exchange_as w ↦
          let adds = subst (λ (r : Run). AddsRun c.install.new.claims c.exchange_as.new.hand r) w.in-Ok-exchange_as.ensures.run w.in-Ok-exchange_as.ensures.claimed in
          rw w.result-is (λ place is_place. c.claiming_laws.ensures.owned _ _ _ place adds is_place)
      | in-Err w ↦ rw w.result-is tt
      | in-Err-2 w ↦ rw w.result-is tt
    ]

pub exchange_as-requires-clause-note : goal.exchange_as-requires-clause-note
exchange_as-requires-clause-note g c = c.claiming_laws.ensures.full _ _

pub returns-in_default-clause-refused : goal.returns-in_default-clause-refused
returns-in_default-clause-refused g c =
    let lacks = c.log_no_memory.ensures in
    let found = c.install.ensures.finds.keeps in
    let same : seen_size c.hand.inside.claims ≡ seen_size c.args.hand.now = ap seen_size c.hand.view_is in
    let own = (more_after _ _ _ (more_of_keeps _ _ found) (more_of_same _ _ lacks.own lacks.seen)).own in
    subst (λ (h : HandView). Refuses c.args.self.now c.args.n c.args.value h c.log_no_memory.new.hand (NoMemory c.args.value)) c.hand.view_is
    (refuses_memory c.args.self.now c.args.n c.args.value c.hand.inside.claims c.log_no_memory.new.hand c.requires.some_places own (lacks.seen ∙ found.seen)
    (omega (arith, same, c.requires.within_limit, c.requires.seen)))

pub returns-in_default-clause-logs_refusal : goal.returns-in_default-clause-logs_refusal
returns-in_default-clause-logs_refusal g c =
    subst (λ (h : HandView). AddsEvents h.log (memory_event ∷ []) c.log_no_memory.new.hand.log) c.hand.view_is
    (events_after _ _ _ (memory_event ∷ []) c.install.ensures.finds.more c.log_no_memory.ensures.logs)

pub returns-clause-logs_refusal : goal.returns-clause-logs_refusal
returns-clause-logs_refusal g c =
    let limit = ap (λ (v : VectorView _). v.word.limit) c.self.view_is in
    let more = c.install.ensures.finds.more in
    elim c.match-exchange_as.branch [
      | in-Ok-exchange_as w ↦ rw w.result-is tt
      | in-Err w ↦
          rw w.result-is
          (subst (λ (h : HandView). AddsEvents h.log (full_event c.args.n w.in-Err.field-0.size ∷ []) c.exchange_as.new.hand.log) c.hand.view_is
          (events_after _ _ _ (full_event c.args.n w.in-Err.field-0.size ∷ []) more
          (adds_noted _ _ _ _ (full_noted c.self.inside.word.limit c.args.n w.in-Err.field-0.size (omega (arith, limit))) w.in-Err.ensures.logs_note)))
      | in-Err-2 w ↦
          rw w.result-is
          (subst (λ (h : HandView). LogsNothing h c.exchange_as.new.hand) c.hand.view_is
          (nothing_after _ _ _ more (log_goes_on _ _ _ w.in-Err.ensures.logs_note)))
    ]
