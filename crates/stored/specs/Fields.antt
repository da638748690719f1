-- Document 01, "Stored form": what stands at a place of a form, where its fields stand, and the table that they make.
use Rattle.std.specs.Prelude.{ℕ, ◌+◌, ◌-◌, ◌*◌, ◌^◌, cond, List, [], ◌∷◌, ◌++◌, ltb, ℤ, pos, negsuc, get_or, replicate}
use Rattle.laws.specs.InTurn.{in_turn}
use Rattle.fields.specs.Numbers.{slots, none, top_of}
use Rattle.table.specs.Fresh.{fresh_row}
use Rattle.table.specs.declared.Core.{Core}
use Rattle.table.specs.declared.Row.{Row}
use Rattle.table.specs.declared.Table.{Table}
use Rattle.stored.specs.FourBytes.{all_bits}
use Rattle.stored.specs.Form.{row_length, form_length}

-- the number of some bits: the upper half are the numbers below 0
unfoldable pub number_of : ℕ → ℤ
number_of bits = cond (ltb bits (2 ^ 31)) (pos bits) (negsuc (all_bits - bits))

-- what stands in some bytes from a place on: a byte, and a number of four bytes
abbrev pub byte_at : List ℕ → ℕ → ℕ
byte_at s at = get_or s at 0

abbrev pub bits_at : List ℕ → ℕ → ℕ
bits_at s at = byte_at s at + 256 * byte_at s (at + 1) + 65536 * byte_at s (at + 2) + 16777216 * byte_at s (at + 3)

unfoldable pub number_at : List ℕ → ℕ → ℤ
number_at s at = number_of (bits_at s at)

-- Where the fields of the head stand: after the kind.
abbrev pub algorithm_place : ℕ
algorithm_place = 1

abbrev pub count_place : ℕ
count_place = 2

abbrev pub x_place : ℕ
x_place = 3

-- The records of process i begin where a form of the processes before it would end. Their fields stand after the kind and the process
-- number.
abbrev pub row_place : ℕ → ℕ
row_place i = form_length (i - 1)

abbrev pub line_place : ℕ → ℕ
line_place i = row_place i + 2

abbrev pub index_place : ℕ → ℕ
index_place i = row_place i + 3

abbrev pub choosing_place : ℕ → ℕ
choosing_place i = row_place i + 4

abbrev pub token_place : ℕ → ℕ
token_place i = row_place i + 5

abbrev pub pivot_place : ℕ → ℕ
pivot_place i = row_place i + 9

abbrev pub cells_place : ℕ → ℕ
cells_place i = row_place i + row_length

abbrev pub cell_place : ℕ → ℕ → ℕ
cell_place i j = cells_place i + 2 + 4 * (j - 1)

-- The fields in a form.
abbrev pub algorithm_in : List ℕ → ℕ
algorithm_in s = byte_at s algorithm_place

abbrev pub count_in : List ℕ → ℕ
count_in s = byte_at s count_place

abbrev pub x_in : List ℕ → ℤ
x_in s = number_at s x_place

-- T of the table in the form
abbrev pub top_in : List ℕ → ℤ
top_in s = top_of (algorithm_in s) (count_in s)

abbrev pub line_in : List ℕ → ℕ → ℕ
line_in s i = byte_at s (line_place i)

abbrev pub index_in : List ℕ → ℕ → ℕ
index_in s i = byte_at s (index_place i)

abbrev pub choosing_in : List ℕ → ℕ → ℕ
choosing_in s i = byte_at s (choosing_place i)

abbrev pub token_in : List ℕ → ℕ → ℤ
token_in s i = number_at s (token_place i)

abbrev pub pivot_in : List ℕ → ℕ → ℤ
pivot_in s i = number_at s (pivot_place i)

abbrev pub cell_in : List ℕ → ℕ → ℕ → ℤ
cell_in s i j = number_at s (cell_place i j)

-- the core of process i in a form
abbrev pub core_in : List ℕ → ℕ → Core
core_in s i = record {
  line = line_in s i;
  index = index_in s i;
  choosing = choosing_in s i;
  token = token_in s i;
  pivot = pivot_in s i;
}

-- sixteen elements: f 1 to f k, and then `rest` up to the sixteenth
unfoldable pub filled : {A : Type 0} → (ℕ → A) → ℕ → A → List A
filled f k rest = in_turn (λ i. f i ∷ []) k ++ replicate (slots - k) rest

-- the row of process i in a form: all of its sixteen cells are there
unfoldable pub row_in : List ℕ → ℕ → Row
row_in s i = record { core = core_in s i; cells = filled (cell_in s i) slots none }

-- the table in a form: its rows are 1 to n, and those above are as in a fresh table
unfoldable pub table_in : List ℕ → Table
table_in s = record {
  algorithm = algorithm_in s;
  n = count_in s;
  x = x_in s;
  rows = filled (row_in s) (count_in s) fresh_row;
}
