-- `cells_in` meets its contract. The loop's invariant: the cells passed are filled in.
use Rattle.std.proofs.Common.{◌≡◌}
use Rattle.fields.specs.Numbers.{none}
use Rattle.stored.specs.Fields.{cell_in, filled}
use Rattle.stored.proofs.reading.cells_in.Given as goal

abbrev pub invariant-loop-k : goal.invariant-loop-k
invariant-loop-k l = l.cell-items ≡ filled (cell_in l.records.form.now l.records.process) l.k none
