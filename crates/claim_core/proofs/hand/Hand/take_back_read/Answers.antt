use Rattle.claim_core.proofs.GainsBack.{back_read}
use Rattle.claim_core.proofs.hand.Hand.take_back_read.Goals as goal

pub returns : goal.returns
returns c =
    record {
      read = λ hand is. back_read c.args.offer.about.told c.args.offer.made _ is (c.take_back.ensures.gained hand is);
    }
