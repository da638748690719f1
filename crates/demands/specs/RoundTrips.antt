-- Demand 2 of the order, of the stored form: "A well-formed table written and read back is the same table; an accepted stored form written
-- again is the same bytes." Said of the definitions that the promises of `write` and `read` cite.
use Rattle.std.specs.Prelude.{ℕ, ◌<◌, ◌≤◌, ◌≡◌, true, List, ◌↔◌, length, get_or, take}
use Rattle.laws.specs.Lent.{in_front}
use Rattle.fields.specs.Refusals.{no_refusal}
use Rattle.table.specs.WellFormed.{well_formed}
use Rattle.table.specs.Sized.{Sized}
use Rattle.table.specs.declared.Table.{Table}
use Rattle.stored.specs.Form.{encode, form_length}
use Rattle.stored.specs.Writing.{write_of, buffer_of}
use Rattle.stored.specs.Reading.{read_of}

-- each element is a byte
abbrev pub Bytes : List ℕ → Type 0
Bytes s = (k : ℕ) → get_or s k 0 < 256

-- "A well-formed table written and read back is the same table": a write that answers stop number 0, to a buffer of any length and whatever
-- it held, and a read of the bytes that it answers to have written. (A table that code holds is sized.)
abbrev pub WrittenAndRead : Type 0
WrittenAndRead =
    (t : Table) → Sized t → (buffer : List ℕ) → (write_of t buffer).stop ≡ no_refusal
    → read_of (take (write_of t buffer).length (buffer_of t buffer))
    ≡ record { table = t; stop = no_refusal; place = (write_of t buffer).length }

-- "an accepted stored form written again is the same bytes": a read that answers stop number 0, and a write of its table to any buffer that
-- has room for the form.
abbrev pub ReadAndWritten : Type 0
ReadAndWritten =
    (s : List ℕ) → Bytes s → (read_of s).stop ≡ no_refusal → (buffer : List ℕ) → length s ≤ length buffer
    → (write_of (read_of s).table buffer ≡ record { length = length s; stop = no_refusal })
    × (buffer_of (read_of s).table buffer ≡ in_front s buffer)

-- Neither holds for want of cases: a write is accepted just where the table is well formed and the buffer has room for its form,
abbrev pub WriteAccepted : Type 0
WriteAccepted =
    (t : Table) (buffer : List ℕ) → ((write_of t buffer).stop ≡ no_refusal) ↔ ((well_formed t ≡ true) × (form_length t.n ≤ length buffer))

-- and the form of every well-formed table is accepted.
abbrev pub FormAccepted : Type 0
FormAccepted = (t : Table) → well_formed t ≡ true → (read_of (encode t)).stop ≡ no_refusal

-- No read answers a table that is not well formed, whatever the bytes.
abbrev pub ReadWellFormed : Type 0
ReadWellFormed = (s : List ℕ) → well_formed (read_of s).table ≡ true
