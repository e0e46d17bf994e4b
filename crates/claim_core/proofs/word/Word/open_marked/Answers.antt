use Rattle.std.proofs.Common.{arith}
use Rattle.claim_core.proofs.Kept.{opens}
use Rattle.claim_core.proofs.word.Word.open_marked.Goals as goal

pub of_words-requires : goal.of_words-requires
of_words-requires g c =
    let words = c.words_around.ensures in
    opens (record { limit = c.args.limit; base = c.args.base; mark = c.args.mark }) _ words.count words.size (omega arith)
