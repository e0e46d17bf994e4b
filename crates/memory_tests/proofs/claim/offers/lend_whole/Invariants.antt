use Rattle.memory_tests.proofs.claim.offers.lend_whole.Given as goal

-- the entry has the tag's places, and the block the cells that were laid
abbrev pub ghosts-lend_to_exchange : goal.ghosts-lend_to_exchange
ghosts-lend_to_exchange g a = record { from = a.tag.now.from; n = a.tag.now.n; first = a.cell.now.tie.id }
