-- `check_records` meets its contract.
use Prim.Native.Nat.{◌+◌, ◌-◌}
use mathlib.Core.Path.{◌≡◌}
use native.Mathlib.Omega.{arith}
use Rattle.std.specs.Prelude.{Result}
use Rattle.laws.specs.InTurn.{in_turn}
use Rattle.fields.specs.Numbers.{slots}
use Rattle.stored.specs.Form.{cells_kind}
use Rattle.stored.specs.Fields.{cells_place, count_in}
use Rattle.stored.specs.Reading.{first_fault, opening_checks, row_checks, cell_check, cells_checks, records_checks}
use Rattle.stored.specs.declared.Found.{Found}
use Rattle.stored.proofs.Checks.{found_first, found_next, none_more, found_at}
use Rattle.stored.proofs.faults.check_records.Goals as goal
use Rattle.stored.proofs.faults.check_records.Goals.{In_default-check_opening}

-- Where the cells are walked, the row has no fault, nor has the opening of its cells: a search of the cells is one of the records.
in_cells : (c : In_default-check_opening) {r : Result (Unit {0}) Found}
    → r ≡ first_fault (in_turn (cell_check c.args.form.now c.loop-process.process) slots)
    → r ≡ first_fault (records_checks c.args.form.now c.loop-process.process)
unfolding records_checks cells_checks
in_cells c e =
    let s = c.args.form.now in
    let i = c.loop-process.process in
    found_next (row_checks s i) (cells_checks s i) c.in_default.ensures
    (found_next (opening_checks s cells_kind i (cells_place i)) (in_turn (cell_check s i) slots)
    (rw c.cells_place.ensures at c.in_default-check_opening.ensures) e)

pub loop-j-preserved : goal.loop-j-preserved
unfolding cell_check first_fault
loop-j-preserved c =
    let j = c.loop-j.j in
    let next : j + 1 - 1 ≡ j = omega arith in
    rw next
    (none_more (cell_check c.args.form.now c.loop-process.process) j c.loop-j.auto.j c.loop-j.invariant (rw (← c.if-not-cell_keeps.ensures)))

pub loop-process-preserved : goal.loop-process-preserved
loop-process-preserved c =
    let i = c.loop-process.process in
    let next : i + 1 - 1 ≡ i = omega arith in
    let all : c.loop-j.j - 1 ≡ slots = omega arith in
    rw next
    (none_more (records_checks c.args.form.now) i c.loop-process.auto.process c.loop-process.invariant
    (in_cells (goal.at.loop-process-preserved c).In_default-check_opening (rw all at c.loop-j.invariant)))

pub returns-in_default-check_opening : goal.returns-in_default-check_opening
returns-in_default-check_opening c =
    let i = c.loop-process.process in
    let last : i ≡ count_in c.args.form.now = omega arith in
    let all : c.loop-j.j - 1 ≡ slots = omega arith in
    rw (← last)
    (none_more (records_checks c.args.form.now) i c.loop-process.auto.process c.loop-process.invariant
    (in_cells (goal.at.returns-in_default-check_opening c).In_default-check_opening (rw all at c.loop-j.invariant)))

pub returns-in-Err : goal.returns-in-Err
unfolding records_checks
returns-in-Err c =
    let s = c.args.form.now in
    let i = c.loop-process.process in
    found_at (records_checks s) i (count_in s) c.loop-process.auto.process (omega arith) c.loop-process.invariant
    (found_first (row_checks s i) (cells_checks s i) c.in-Err.ensures)

pub returns-in-Err-check_opening : goal.returns-in-Err-check_opening
unfolding records_checks cells_checks
returns-in-Err-check_opening c =
    let s = c.args.form.now in
    let i = c.loop-process.process in
    found_at (records_checks s) i (count_in s) c.loop-process.auto.process (omega arith) c.loop-process.invariant
    (found_next (row_checks s i) (cells_checks s i) c.in_default.ensures
    (found_first _ _ (rw c.cells_place.ensures at c.in-Err-check_opening.ensures)))

pub returns-then-not-cell_keeps : goal.returns-then-not-cell_keeps
unfolding cell_check first_fault
returns-then-not-cell_keeps c =
    let s = c.args.form.now in
    let i = c.loop-process.process in
    rw c.cell_place.ensures
    (found_at (records_checks s) i (count_in s) c.loop-process.auto.process (omega arith) c.loop-process.invariant
    (in_cells (goal.at.returns-then-not-cell_keeps c).In_default-check_opening
    (found_at (cell_check s i) c.loop-j.j slots c.loop-j.auto.j (omega arith) c.loop-j.invariant (rw (← c.if-not-cell_keeps.ensures)))))
