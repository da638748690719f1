-- `written_and_read` meets its contract: the bytes that it reads are those that the write answers to have written.
use Rattle.table.proofs.Held.{held_sized}
use Rattle.cases.proofs.RoundTrips.{written_read}
use Rattle.cases.proofs.round_trips.written_and_read.Goals as goal

pub returns-clause-value : goal.returns-clause-value
returns-clause-value c =
    let law = written_read c.args.t c.args.lent.now (held_sized c.args.t _ c.well_formed.0) in
    rw (c.read.ensures, c.write-w.ensures.value, c.write-w.ensures.buffer_after) law
