use Rattle.claim_core.proofs.LegalNotes.{no_is_note, full_is_note, growth_is_note, reach_is_note, range_is_note}
use Rattle.claim_core.proofs.laws.refusals_are_notes.Goals as goal

pub returns-clause-nothing : goal.returns-clause-nothing
returns-clause-nothing c = no_is_note

pub returns-clause-full : goal.returns-clause-full
returns-clause-full c = full_is_note

pub returns-clause-growth : goal.returns-clause-growth
returns-clause-growth c = growth_is_note

pub returns-clause-reach : goal.returns-clause-reach
returns-clause-reach c = reach_is_note

pub returns-clause-range : goal.returns-clause-range
returns-clause-range c = range_is_note
