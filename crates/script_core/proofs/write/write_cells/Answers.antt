use Rattle.std.proofs.Common.{◌≡◌, ◌++◌, ◌∙◌, [], List, ℕ, length, get_or, take, drop, suc, ap, refl, arith, append_assoc}
use Rattle.std.specs.Prelude.{codes, decimal}
use Rattle.std.specs.List.{flat_map}
use Rattle.std.proofs.lemmas.List.{take_all, get_or_default}
use Rattle.std.proofs.lemmas.Result.{err_from_is_err_and, on_err_weaker}
use Rattle.book_core.specs.declared.cells.Cell.{Cell}
use Rattle.book_core.specs.declared.cells.Cell.TheVariants.{Pending}
use Rattle.script_core.specs.Text.{cell_text}
use Rattle.script_core.proofs.Prefixes.{prefix_front, prefix_after, flat_map_at}
use Rattle.script_core.proofs.write.write_cells.Goals as goal

regroup : (a b x y z : List ℕ) → (a ++ (b ++ (x ++ y))) ++ z ≡ (a ++ b) ++ (x ++ (y ++ z))
regroup a b x y z = simp append_assoc

pub returns-in_err-put_size-clause-fault : goal.returns-in_err-put_size-clause-fault
returns-in_err-put_size-clause-fault g c =
    let p = err_from_is_err_and c.from_residual.result c.from_residual.ensures.1 in
    let head : List ℕ = codes "size " ++ decimal (length c.args.cells.now) ++ codes ":" in
    let cells : List ℕ = flat_map (λ cell. codes " " ++ cell_text cell) c.args.cells.now in
    rw p.1 (prefix_front _ _ head (cells ++ codes "\n") _ c.in_err-put_size.ensures.fault (append_assoc head cells (codes "\n")))

pub returns-in_err-put_cell-clause-fault : goal.returns-in_err-put_cell-clause-fault
returns-in_err-put_cell-clause-fault g c =
    let p = err_from_is_err_and c.from_residual-in_err-put_cell.result c.from_residual-in_err-put_cell.ensures.1 in
    let head : List ℕ = codes "size " ++ decimal (length c.args.cells.now) ++ codes ":" in
    let text : Cell → List ℕ = λ cell. codes " " ++ cell_text cell in
    let cell : Cell = get_or c.args.cells.now c.loop-cell.cell-index (Pending 0) in
    let before : List ℕ = flat_map text (take c.loop-cell.cell-index c.args.cells.now) in
    let after : List ℕ = flat_map text (drop (suc c.loop-cell.cell-index) c.args.cells.now) in
    let at = flat_map_at text c.args.cells.now c.loop-cell.cell-index cell c.loop-cell-test.true (get_or_default c.args.cells.now c.loop-cell.cell-index (Pending 0) cell c.loop-cell-test.true) in
    let split : (head ++ flat_map text c.args.cells.now) ++ codes "\n" ≡ (head ++ before) ++ (text cell ++ (after ++ codes "\n")) =
    ap (λ (l : List ℕ). (head ++ l) ++ codes "\n") at ∙ regroup head before (text cell) after (codes "\n") in
    rw p.1 (prefix_after _ _ _ (head ++ before) (text cell) (after ++ codes "\n") _ c.loop-cell.invariant c.in_err-put_cell.ensures.fault split)

pub returns-clause-fault : goal.returns-clause-fault
returns-clause-fault g c =
    let head : List ℕ = codes "size " ++ decimal (length c.args.cells.now) ++ codes ":" in
    let cells : List ℕ = flat_map (λ cell. codes " " ++ cell_text cell) c.args.cells.now in
    let all : take c.loop-cell.cell-index c.args.cells.now ≡ c.args.cells.now = take_all _ c.args.cells.now (omega arith) in
    on_err_weaker c.write_bytes.result (λ part. prefix_after _ _ _ (head ++ cells) (codes "\n") [] _ (rw all at c.loop-cell.invariant) part refl) c.write_bytes.ensures.fault
