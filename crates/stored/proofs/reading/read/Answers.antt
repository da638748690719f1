-- `read` meets its contract.
use Rattle.stored.specs.Reading.{answer_to, read_of}
use Rattle.stored.proofs.Accepted.{accepted_framed, accepted_rules}
use mathlib.Core.Path.{sym, ◌∙◌}
use Rattle.stored.specs.Fields.{table_in}
use Rattle.stored.proofs.reading.read.Goals as goal

pub table_in-requires : goal.table_in-requires
unfolding table_in
table_in-requires c =
    let s = c.args.form.now in
    let none = sym c.check_form.ensures ∙ c.in_default.is in
    record { few = (accepted_rules s none).most; whole = (accepted_framed s none).long }

pub returns : goal.returns
unfolding read_of answer_to
returns c = rw (c.table_in.ensures, ← c.check_form.ensures, c.in_default.is)

pub returns-in-Err : goal.returns-in-Err
unfolding read_of answer_to
returns-in-Err c = c.refused.ensures ∙ rw (← c.check_form.ensures, c.in-Err.is)
