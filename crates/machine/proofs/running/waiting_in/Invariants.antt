-- `waiting_in` meets its contract. The loop's invariant: the rows passed that wait are counted.
use Prim.Native.Nat.{◌≤◌}
use mathlib.Core.Path.{◌≡◌}
use Rattle.laws.specs.Tests.{how_many}
use Rattle.machine.specs.Run.{is_waiting}
use Rattle.machine.proofs.running.waiting_in.Given as goal

abbrev pub invariant-loop-row : goal.invariant-loop-row
invariant-loop-row l = record { few : l.waiting ≤ l.row-index; counted : l.waiting ≡ how_many (is_waiting l.fn.t) l.row-index }
