-- `check_records` meets its contract. The loops' invariants: the rows passed have no fault, and the cells passed of the next row have none.
use Rattle.std.proofs.Common.{◌≡◌, ◌-◌, Ok}
use Rattle.laws.specs.InTurn.{in_turn}
use Rattle.stored.specs.Reading.{first_fault, cell_check, records_checks}
use Rattle.stored.proofs.faults.check_records.Given as goal

abbrev pub invariant-loop-j : goal.invariant-loop-j
invariant-loop-j l = Ok tt ≡ first_fault (in_turn (cell_check l.form l.process) (l.j - 1))

abbrev pub invariant-loop-process : goal.invariant-loop-process
invariant-loop-process l = Ok tt ≡ first_fault (in_turn (records_checks l.form) (l.process - 1))
