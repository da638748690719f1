-- The round trips of the stored form: each statement of specs/, proved.
use mathlib.Core.Path.{◌≡◌, sym, ap, ◌∙◌}
use native.Mathlib.Omega.{arith}
use lib.ListN.{length, drop}
use lib.Seq.{take_at}
use Rattle.stored.specs.Form.{encode, form_length}
use Rattle.stored.specs.Fields.{table_in}
use Rattle.stored.specs.Writing.{write_of}
use Rattle.stored.specs.Reading.{read_of}
use Rattle.stored.specs.declared.Wrote.{Wrote}
use Rattle.stored.specs.declared.Restored.{Restored}
use Rattle.stored.proofs.Lengths.{encode_length}
use Rattle.stored.proofs.WriteAnswers as writing
use Rattle.stored.proofs.RoundTrips as laws
use Rattle.demands.specs.RoundTrips.{WrittenAndRead, ReadAndWritten, WriteAccepted, FormAccepted, ReadWellFormed}

pub written_and_read_lem : WrittenAndRead
unfolding write_of
written_and_read_lem t sized buffer accepted =
    let formed = (writing.accepted_write t buffer accepted).0 in
    let answer = ap (λ (w : Wrote). w.length) (writing.write_answer t buffer accepted) in
    let front = take_at (encode t) (drop (length (encode t)) buffer) (form_length t.n) (encode_length t) in
    rw (answer, writing.write_buffer t buffer accepted, front) (laws.form_read t formed sized)

pub read_and_written : ReadAndWritten
read_and_written s bytes stop buffer room =
    let t = table_in s in
    let accepted = laws.read_accepted s stop in
    let shown : (read_of s).table ≡ t = ap (λ (r : Restored). r.table) (laws.read_answer s accepted) in
    let again : encode t ≡ s = laws.written_again s accepted bytes in
    let long : form_length t.n ≡ length s = sym (encode_length t) ∙ ap length again in
    let written = writing.write_accepted t buffer (laws.accepted_well_formed s accepted) (omega arith) in
    rw shown (writing.write_answer t buffer written ∙ rw long, writing.write_buffer t buffer written ∙ rw again)

pub write_accepted : WriteAccepted
unfolding write_of
write_accepted t buffer = (writing.accepted_write t buffer, λ (formed, room). writing.write_accepted t buffer formed room)

pub form_accepted : FormAccepted
form_accepted t formed = ap (λ (r : Restored). r.stop) (laws.read_answer (encode t) (laws.form_accepted t formed))

pub read_well_formed : ReadWellFormed
read_well_formed = laws.read_well_formed
