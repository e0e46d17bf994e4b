use Rattle.std.proofs.Common.{◌≡◌, Ok, Err, ap, sym, ◌∙◌}
use Rattle.std.proofs.lemmas.Result.{IfOk-weaker}
use Rattle.script_core.specs.Grammar.{script_of}
use Rattle.engine_core.proofs.LongInput.{of_take}
use Rattle.engine_core.proofs.script.read_script.Goals as goal

pub returns-clause-read : goal.returns-clause-read
returns-clause-read g c =
    IfOk-weaker c.parse_script.result _ _
    (λ s read. of_take c.long_texts.ensures (λ answer. answer ≡ Ok s) _ _ c.in_ok-bytes.ensures.bytes (ap script_of (sym c.deref.ensures.value) ∙ read))
    c.parse_script.ensures.read

pub returns-clause-script : goal.returns-clause-script
returns-clause-script g c = λ fault is.
    let found = c.parse_script.ensures.script fault is in
    (found.0, of_take c.long_texts.ensures (λ answer. answer ≡ Err fault) _ _ c.in_ok-bytes.ensures.bytes (ap script_of (sym c.deref.ensures.value) ∙ found.1))
