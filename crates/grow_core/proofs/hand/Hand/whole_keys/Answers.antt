use Rattle.grow_core.proofs.hand.Hand.whole_keys.Goals as goal

pub returns-clause-all : goal.returns-clause-all
returns-clause-all g c place segment after before small there =
    c.keys.ensures.keyed.own place segment small (c.whole_laws.ensures.tiles.covers place after before) there
