use Rattle.std.proofs.Common.{sym, ◌∙◌}
use Rattle.grow_core.proofs.keys.put_other.Goals as goal

pub returns-in-Some-clause-keys : goal.returns-in-Some-clause-keys
returns-in-Some-clause-keys c = λ mark old other.
    c.put_key.ensures.keys mark old (other c.args.segment c.in-Some.key c.requires (sym c.key_of.ensures ∙ c.in-Some.is))
