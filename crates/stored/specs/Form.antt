-- Document 01, "Stored form": the records of a table, and its form.
use Rattle.std.specs.Prelude.{ℕ, ◌+◌, ◌*◌, List, [], ◌∷◌, ◌++◌}
use Rattle.laws.specs.InTurn.{in_turn}
use Rattle.fields.specs.Numbers.{slots}
use Rattle.table.specs.WellFormed.{row_of, cell_of}
use Rattle.table.specs.declared.Core.{Core}
use Rattle.table.specs.declared.Row.{Row}
use Rattle.table.specs.declared.Table.{Table}
use Rattle.stored.specs.FourBytes.{four_bytes}

-- "One byte of kind, then a body whose length the kind fixes."
abbrev pub head_kind : ℕ
head_kind = 1

abbrev pub row_kind : ℕ
row_kind = 2

abbrev pub cells_kind : ℕ
cells_kind = 3

-- "kind 1, body 6: algorithm, n, X (4)."
unfoldable pub head_record : Table → List ℕ
head_record t = (head_kind ∷ t.algorithm ∷ t.n ∷ []) ++ four_bytes t.x

-- "kind 2, body 12: process number, line, index, choosing, token (4), pivot (4)."
unfoldable pub row_record : ℕ → Core → List ℕ
row_record i c = (row_kind ∷ i ∷ c.line ∷ c.index ∷ c.choosing ∷ []) ++ four_bytes c.token ++ four_bytes c.pivot

-- "kind 3, body 65: process number, sixteen read cells (4 each)."
unfoldable pub cells_record : ℕ → Row → List ℕ
cells_record i r = (cells_kind ∷ i ∷ []) ++ in_turn (λ j. four_bytes (cell_of r j)) slots

-- the two records of process i
unfoldable pub records_of : Table → ℕ → List ℕ
records_of t i = row_record i (row_of t i).core ++ cells_record i (row_of t i)

-- "Order: kind 1, then for each process 1 to n kind 2 and kind 3."
unfoldable pub encode : Table → List ℕ
encode t = head_record t ++ in_turn (records_of t) t.n

-- The lengths of the records: the kind and its body.
abbrev pub head_length : ℕ
head_length = 7

abbrev pub row_length : ℕ
row_length = 13

abbrev pub cells_length : ℕ
cells_length = 66

-- "Length 7 + 79n"
abbrev pub form_length : ℕ → ℕ
form_length n = head_length + (row_length + cells_length) * n
