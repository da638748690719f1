-- `write` meets its contract.
use Prim.Native.Nat.{◌≤◌}
use mathlib.Core.Path.{◌≡◌, sym, ◌∙◌}
use native.Mathlib.Omega.{arith}
use lib.ListN.{length}
use Rattle.laws.proofs.Tests.{passed, failed}
use Rattle.laws.proofs.Writes.{in_front_lem}
use Rattle.table.proofs.WellFormed.{table_rules}
use Rattle.stored.specs.Form.{form_length}
use Rattle.stored.specs.Writing.{write_of, buffer_of}
use Rattle.stored.proofs.Lengths.{encode_length}
use Rattle.stored.proofs.WriteAnswers.{refused_formed, refused_room, write_accepted, write_answer, write_buffer}
use Rattle.stored.proofs.writing.write.Goals as goal

pub returns-then-not-well_formed : goal.returns-then-not-well_formed
unfolding write_of buffer_of
returns-then-not-well_formed c =
    let e = refused_formed c.args.t c.args.buffer.now (failed c.well_formed-2.ensures c.if-not-well_formed.true) in
    record { value = rw e; buffer_after = rw e }

pub returns-then-buffer-due : goal.returns-then-buffer-due
unfolding write_of buffer_of
returns-then-buffer-due c =
    let formed = passed c.well_formed-2.ensures c.if-not-well_formed.false in
    let e = refused_room c.args.t c.args.buffer.now formed (omega arith) in
    record { value = rw e; buffer_after = rw e }

pub put_form-length-requires-clause-rows : goal.put_form-length-requires-clause-rows
put_form-length-requires-clause-rows c =
    (table_rules _ (passed c.well_formed-2.ensures c.if-not-well_formed.false)).most

pub returns : goal.returns
returns c =
    let t = c.args.t in
    let buffer = c.args.buffer.now in
    let formed = passed c.well_formed-2.ensures c.if-not-well_formed.false in
    let room : form_length t.n ≤ length buffer = omega arith in
    let size : c.put_form-length.result ≡ form_length t.n = omega (arith, encode_length) in
    let accepted = write_accepted t buffer formed room in
    record {
      value = rw size (sym (write_answer t buffer accepted));
      buffer_after = in_front_lem c.put_form-length.ensures (omega (arith, encode_length)) ∙ sym (write_buffer t buffer accepted);
    }
