use Rattle.claim_core.proofs.LegalNotes.{size_is_note}
use Rattle.claim_core.proofs.word.Word.size.Goals as goal

pub size_as-requires-clause-note : goal.size_as-requires-clause-note
size_as-requires-clause-note g c = size_is_note _
