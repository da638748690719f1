-- `put_form` meets its contract. The loop's invariant: after the head, the records of the processes passed are written.
use Prim.Native.Nat.{◌+◌, ◌-◌, ◌<◌}
use mathlib.Core.Path.{◌≡◌, refl}
use native.Mathlib.Omega.{arith}
use lib.ListN.{length, get_or}
use Rattle.laws.specs.InTurn.{in_turn}
use Rattle.laws.proofs.Writes.{and_then}
use Rattle.laws.proofs.InTurn.{turn_more}
use Rattle.table.specs.WellFormed.{no_row}
use Rattle.stored.specs.Form.{records_of, encode}
use Rattle.stored.proofs.Lengths.{passed_length}
use Rattle.stored.proofs.Numbered.{GoesOver, turn, at_end}
use Rattle.std.proofs.lemmas.List.{length_push}
use borrow.Author.Rules.{rules}
use Rattle.stored.proofs.writing.put_form.Goals as goal
use Rattle.stored.proofs.writing.put_form.Goals.{After-row_record}

-- the process and the row of an iteration
its_process : (c : After-row_record)
    → (length c.loop-process.yielded < c.args.t.n) × (c.in-Some.process ≡ length c.loop-process.yielded + 1)
    × (c.in-Some.row.now ≡ get_or c.args.t.rows (length c.loop-process.yielded) no_row)
its_process c =
    let over : GoesOver c.args.t.n c.args.t.rows c.into_iter-process-iterator.result =
    record { first = cc; last = cc; unspent = cc; rest = cc c.zip-process-items.ensures.second.0 } in
    turn over c.loop-process.yielded c.loop-process.process-iterator c.next.new.self
    c.loop-process.yielded_by c.next.result c.in-Some.process c.in-Some.row no_row c.in-Some.is c.next.ensures.steps

pub loop-process-init : goal.loop-process-init
unfolding in_turn
loop-process-init c = record { place = omega arith; bytes = refl }

pub put-next-requires-in-loop-process : goal.put-next-requires-in-loop-process
put-next-requires-in-loop-process c =
    let h = its_process (goal.at.put-next-requires-in-loop-process c).After-row_record in
    omega (arith, passed_length)

pub put-next-requires-in-loop-process-2 : goal.put-next-requires-in-loop-process-2
put-next-requires-in-loop-process-2 c =
    let h = its_process (goal.at.put-next-requires-in-loop-process-2 c).After-row_record in
    omega (arith, passed_length)

pub loop-process-preserved : goal.loop-process-preserved
unfolding records_of
loop-process-preserved c =
    let k = length c.loop-process.yielded in
    let h = its_process (goal.at.loop-process-preserved c).After-row_record in
    let both = and_then c.put-next-in-loop-process.ensures c.put-next-in-loop-process-2.ensures in
    let records = rw (c.row_record.ensures, c.cells_record.ensures, h.1, h.2) at both in
    let more = length_push c.loop-process.yielded (c.in-Some.process, c.in-Some.row) in
    let off : k + 1 - 1 ≡ k = omega arith in
    rw (more, turn_more (records_of c.args.t) k, off) (and_then c.loop-process.invariant records)

pub returns : goal.returns
unfolding encode
returns c =
    let over : GoesOver c.args.t.n c.args.t.rows c.into_iter-process-iterator.result =
    record { first = cc; last = cc; unspent = cc; rest = cc c.zip-process-items.ensures.second.0 } in
    let all = at_end over c.loop-process.yielded c.loop-process.process-iterator c.next.new.self
    c.loop-process.yielded_by c.next.result c.in-None.is c.next.ensures.steps (search rules) in
    and_then (rw c.head_record.ensures at c.put-next.ensures) (rw all at c.loop-process.invariant)
