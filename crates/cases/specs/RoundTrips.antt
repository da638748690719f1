-- Demand 2 of the order, of the stored form, said of two calls one after the other: "A well-formed table written and read back is the same
-- table; an accepted stored form written again is the same bytes."
use Rattle.std.specs.Prelude.{ℕ, ◌≤◌, ◌≡◌, cond, List, [], length}
use Rattle.laws.specs.Lent.{in_front}
use Rattle.fields.specs.Refusals.{no_refusal, is_accepted}
use Rattle.table.specs.declared.Table.{Table}
use Rattle.stored.specs.Form.{form_length}
use Rattle.stored.specs.Writing.{write_of}
use Rattle.stored.specs.Reading.{read_of}
use Rattle.stored.specs.declared.Restored.{Restored}
use Rattle.stored.specs.declared.Wrote.{Wrote}

-- what is read of a table that is written: that table where the write is accepted, and else what a read of no bytes answers
unfoldable pub written_and_read : Table → List ℕ → Restored
written_and_read t buffer =
    cond (is_accepted (write_of t buffer).stop)
    (record { table = t; stop = no_refusal; place = form_length t.n })
    (read_of [])

-- where a form is accepted, and the buffer has room for it: the answer of the write of its table, and what the buffer then holds
abbrev pub SameBytes : List ℕ → List ℕ → Wrote → List ℕ → Type 0
SameBytes form buffer answer after =
    (read_of form).stop ≡ no_refusal → length form ≤ length buffer
    → (answer ≡ record { length = length form; stop = no_refusal }) × (after ≡ in_front form buffer)
