-- Document 01, "Numbered refusals": the checks of `read` in their order, and its answer.
use Rattle.std.specs.Prelude.{ℕ, ◌+◌, Bool, cond, List, [], ◌∷◌, ◌++◌, leb, eqb, length, Result, Ok, Err}
use Rattle.laws.specs.InTurn.{in_turn}
use Rattle.fields.specs.Numbers.{slots, unbounded}
use Rattle.fields.specs.Refusals.{Stop, no_refusal, form_too_short, wrong_kind, form_too_long, bad_field}
use Rattle.fields.specs.Rules.{algorithm_ok, count_ok, x_ok, line_ok, index_ok, choosing_ok, token_ok, pivot_ok, may_hold, cell_ok}
use Rattle.table.specs.Fresh.{fresh_table}
use Rattle.stored.specs.Form.{head_kind, row_kind, cells_kind, head_length, form_length}
use Rattle.stored.specs.Fields.{byte_at, algorithm_place, count_place, x_place, row_place, line_place, index_place, choosing_place}
use Rattle.stored.specs.Fields.{token_place, pivot_place, cells_place, cell_place, algorithm_in, count_in, top_in, x_in, line_in, index_in}
use Rattle.stored.specs.Fields.{choosing_in, token_in, pivot_in, cell_in, table_in}
use Rattle.stored.specs.declared.Fault.{Fault}
use Rattle.stored.specs.declared.Fault.TheVariants.{TooShort, TooLong, Kind, HeadField, Process, Line, Index, Choosing}
use Rattle.stored.specs.declared.Fault.TheVariants.{Token, Pivot, Cell}
use Rattle.stored.specs.declared.Found.{Found}
use Rattle.stored.specs.declared.Restored.{Restored}

-- The refusal of each fault. "a field that breaks its rule, or a process number out of order" is one refusal, whichever it is.
unfoldable pub refusal_of : Fault → Stop
refusal_of TooShort = form_too_short
refusal_of TooLong = form_too_long
refusal_of Kind = wrong_kind
refusal_of HeadField = bad_field
refusal_of Process = bad_field
refusal_of Line = bad_field
refusal_of Index = bad_field
refusal_of Choosing = bad_field
refusal_of Token = bad_field
refusal_of Pivot = bad_field
refusal_of Cell = bad_field

-- A check: whether it holds; and where it does not, what is at fault, and the place: of a kind or a field its "first byte".
pub data Check : Type 0 where
  check : Bool → Fault → ℕ → Check

-- "The first faulty record ends the search": the first check that does not hold.
unfoldable pub first_fault : List Check → Result (Unit {0}) Found
first_fault [] = Ok tt
first_fault (check holds fault place ∷ later) = cond holds (first_fault later) (Err (record { fault = fault; place = place }))

-- "under 7 bytes"
unfoldable pub start_checks : List ℕ → List Check
start_checks s = check (leb head_length (length s)) TooShort (length s) ∷ []

-- "head kind; head fields in byte order"
unfoldable pub head_checks : List ℕ → List Check
head_checks s =
    check (eqb (byte_at s 0) head_kind) Kind 0
    ∷ check (algorithm_ok (algorithm_in s)) HeadField algorithm_place
    ∷ check (count_ok (count_in s)) HeadField count_place
    ∷ check (x_ok (top_in s) (x_in s)) HeadField x_place
    ∷ []

-- "9 or 11 by length": "For 9 the place is the input's length, for 11 it is 7 + 79n."
unfoldable pub length_checks : List ℕ → List Check
length_checks s =
    check (leb (form_length (count_in s)) (length s)) TooShort (length s)
    ∷ check (leb (length s) (form_length (count_in s))) TooLong (form_length (count_in s))
    ∷ []

-- A record of process i opens with its kind and with the process number.
unfoldable pub opening_checks : List ℕ → ℕ → ℕ → ℕ → List Check
opening_checks s kind i at =
    check (eqb (byte_at s at) kind) Kind at
    ∷ check (eqb (byte_at s (at + 1)) i) Process (at + 1)
    ∷ []

-- the fields of its row
unfoldable pub fields_checks : List ℕ → ℕ → List Check
fields_checks s i =
    check (line_ok (count_in s) i (line_in s i)) Line (line_place i)
    ∷ check (index_ok (count_in s) i (line_in s i) (index_in s i)) Index (index_place i)
    ∷ check (choosing_ok (line_in s i) (choosing_in s i)) Choosing (choosing_place i)
    ∷ check (token_ok (top_in s) (line_in s i) (token_in s i)) Token (token_place i)
    ∷ check (pivot_ok (top_in s) (line_in s i) (pivot_in s i)) Pivot (pivot_place i)
    ∷ []

-- the record of its row
unfoldable pub row_checks : List ℕ → ℕ → List Check
row_checks s i = opening_checks s row_kind i (row_place i) ++ fields_checks s i

-- whether read cell j of process i keeps its rule
unfoldable pub cell_keeps : List ℕ → ℕ → ℕ → Bool
cell_keeps s i j = cell_ok (top_in s) (may_hold (count_in s) i (line_in s i) (index_in s i) j) (cell_in s i j)

unfoldable pub cell_check : List ℕ → ℕ → ℕ → List Check
cell_check s i j = check (cell_keeps s i j) Cell (cell_place i j) ∷ []

-- the record of its read cells
unfoldable pub cells_checks : List ℕ → ℕ → List Check
cells_checks s i = opening_checks s cells_kind i (cells_place i) ++ in_turn (cell_check s i) slots

-- "each record's kind and fields in byte order"
unfoldable pub records_checks : List ℕ → ℕ → List Check
records_checks s i = row_checks s i ++ cells_checks s i

-- "Read: under 7 bytes; head kind; head fields in byte order; 9 or 11 by length; then each record's kind and fields in byte order."
unfoldable pub checks_of : List ℕ → List Check
checks_of s = start_checks s ++ head_checks s ++ length_checks s ++ in_turn (records_checks s) (count_in s)

-- "refused, fresh and read show, in the table's place, the fresh unbounded table for n = 1"
abbrev pub refused_read : Fault → ℕ → Restored
refused_read fault place = record { table = fresh_table unbounded 1; stop = refusal_of fault; place = place }

-- "An accepted read answers the table, stop number 0 and the form's length as the place."
abbrev pub accepted_read : List ℕ → Restored
accepted_read s = record { table = table_in s; stop = no_refusal; place = length s }

-- what a search comes to
unfoldable pub answer_to : List ℕ → Result (Unit {0}) Found → Restored
answer_to s (Err found) = refused_read found.fault found.place
answer_to s (Ok done) = accepted_read s

-- the answer of `read`
unfoldable pub read_of : List ℕ → Restored
read_of s = answer_to s (first_fault (checks_of s))
