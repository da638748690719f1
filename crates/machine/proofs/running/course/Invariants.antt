-- `course` meets its contract. The loop's invariant: what it has come to is the course of the bytes passed.
use Rattle.courses.proofs.Going.{Going}
use Rattle.machine.specs.Run.{tables, is_entry}
use Rattle.machine.proofs.Going.{Whole}
use Rattle.machine.proofs.running.course.Given as goal

abbrev pub invariant-loop-k : goal.invariant-loop-k
invariant-loop-k l =
    Going tables is_entry Whole l.schedule l.initial.entries l.initial.t l.entries l.t l.moved l.entered l.k
