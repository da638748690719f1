-- `put_form` meets its contract. The loop's invariant: after the head, the records of the processes passed are written.
use lib.ListN.{length}
use Rattle.laws.specs.Lent.{Written}
use Rattle.laws.specs.InTurn.{in_turn}
use Rattle.stored.specs.Form.{records_of}
use Rattle.stored.proofs.writing.put_form.Given as goal

abbrev pub invariant-loop-process : goal.invariant-loop-process
invariant-loop-process l =
    Written l.initial.buffer l.initial.next (in_turn (records_of l.fn.t) (length l.yielded)) l.buffer l.next
