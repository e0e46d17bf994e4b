use Rattle.std.proofs.Common.{◌∙◌, ap, sym, refl, ◌∷◌, List, ℕ}
use Rattle.script_core.specs.Grammar.{lines}
use Rattle.script_core.proofs.Cuts.{line_last, line_more, drop_all}
use Rattle.script_core.proofs.lines.first_line.Goals as goal

pub returns-in-Some-clause-lines : goal.returns-in-Some-clause-lines
returns-in-Some-clause-lines c = line_more c.args.text.now c.cut_at.result c.in-Some.rest c.cut_at.ensures.cut c.in-Some.is

pub returns-in-None-clause-lines : goal.returns-in-None-clause-lines
returns-in-None-clause-lines c =
    line_last c.args.text.now c.cut_at.result c.requires c.cut_at.ensures.cut c.in-None.is
    ∙ ap (λ (l : List ℕ). c.cut_at.result.0.now ∷ lines l) (sym (drop_all _ _ c.args.text.now refl))
