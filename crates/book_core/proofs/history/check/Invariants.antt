-- the list so far, with what is left, is legal exactly if the whole is from the empty list
use Rattle.std.proofs.Common.{◌↔◌, drop}
use Rattle.book_core.specs.Cells.{empty_list}
use Rattle.book_core.specs.History.{IsLegalFrom}
use Rattle.book_core.proofs.history.check.Given as goal

abbrev pub invariant-loop-row : goal.invariant-loop-row
invariant-loop-row l = record {
  so_far : IsLegalFrom l.list (drop l.row-index l.history) ↔ IsLegalFrom (empty_list l.fn.limit) l.fn.history;
}
