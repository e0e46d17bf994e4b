use Rattle.std.proofs.Common.{subst, arith}
use Rattle.grow_core.specs.Closing.{AreOpenedKeys}
use Rattle.grow_core.proofs.LastKeys.{opened_keys}
use Rattle.grow_core.proofs.vector.Shared.take_apart_by.Goals as goal

pub first_keys-before-requires : goal.first_keys-before-requires
first_keys-before-requires g c =
    let own = c.self.inside in
    let opened = subst (λ v. AreOpenedKeys v own.keys) c.self.view_is (opened_keys own.word own.table own.keys own.row own.count own.cells.tie own.tags c.self.invariant) in
    (omega arith, (c.requires.ours, (c.requires.whole, opened)))

pub returns-clause-its : goal.returns-clause-its
returns-clause-its g c = record {
  keys = c.self.inside.keys;
  count = c.self.inside.count;
  tags = c.self.inside.tags;
  shared = c.self.invariant;
  first = c.first_keys-before.ensures.first;
}
