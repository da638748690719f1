-- `table_in` meets its contract. The loop's invariant: the rows passed are filled in.
use Rattle.std.proofs.Common.{ℕ, ◌≡◌, List}
use Rattle.table.specs.Fresh.{fresh_row}
use Rattle.table.specs.declared.Table.{Table}
use Rattle.stored.specs.Fields.{algorithm_in, count_in, x_in, row_in, filled}
use Rattle.stored.proofs.reading.table_in.Given as goal

-- the table of a form, filled in up to row k
abbrev pub up_to : List ℕ → ℕ → Table
up_to s k = record { algorithm = algorithm_in s; n = count_in s; x = x_in s; rows = filled (row_in s) k fresh_row }

abbrev pub invariant-loop-k : goal.invariant-loop-k
invariant-loop-k l = l.t ≡ up_to l.form l.k
