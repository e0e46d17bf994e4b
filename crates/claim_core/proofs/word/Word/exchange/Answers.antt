use Rattle.claim_core.proofs.LegalNotes.{no_is_note}
use Rattle.claim_core.proofs.word.Word.exchange.Goals as goal

pub exchange_as-requires-clause-note : goal.exchange_as-requires-clause-note
exchange_as-requires-clause-note g c = no_is_note _
