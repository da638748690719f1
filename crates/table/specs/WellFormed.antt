-- Document 01, "The table": "A table is well formed when" every field of it keeps its rule.
use Rattle.std.specs.Prelude.{ℕ, ◌-◌, Bool, ◌&&◌, [], ℤ, pos, get_or}
use Rattle.laws.specs.Tests.{every}
use Rattle.fields.specs.Numbers.{slots, top_of}
use Rattle.fields.specs.Rules.{algorithm_ok, count_ok, x_ok, line_ok, index_ok, choosing_ok, token_ok, pivot_ok, may_hold, cell_ok}
use Rattle.table.specs.declared.Core.{Core}
use Rattle.table.specs.declared.Row.{Row}
use Rattle.table.specs.declared.Table.{Table}

-- what a list of rows gives past its end; a table has no such row
abbrev pub no_row : Row
no_row = record { core = record { line = 0; index = 0; choosing = 0; token = pos 0; pivot = pos 0 }; cells = [] }

-- row i of a table and read cell j of a row: process numbers start at 1
abbrev pub row_of : Table → ℕ → Row
row_of t i = get_or t.rows (i - 1) no_row

abbrev pub cell_of : Row → ℕ → ℤ
cell_of r j = get_or r.cells (j - 1) (pos 0)

-- the rule of read cell j of the row
unfoldable pub cell_rule : ℤ → ℕ → ℕ → Row → ℕ → Bool
cell_rule top n i r j = cell_ok top (may_hold n i r.core.line r.core.index j) (cell_of r j)

unfoldable pub cells_ok : ℤ → ℕ → ℕ → Row → Bool
cells_ok top n i r = every (cell_rule top n i r) slots

-- the rules of the core of row i
unfoldable pub core_ok : ℤ → ℕ → ℕ → Core → Bool
core_ok top n i c =
    line_ok n i c.line
    && index_ok n i c.line c.index
    && choosing_ok c.line c.choosing
    && token_ok top c.line c.token
    && pivot_ok top c.line c.pivot

unfoldable pub row_ok : ℤ → ℕ → ℕ → Row → Bool
row_ok top n i r = core_ok top n i r.core && cells_ok top n i r

-- the rules of row i of the table
unfoldable pub row_rule : ℤ → Table → ℕ → Bool
row_rule top t i = row_ok top t.n i (row_of t i)

unfoldable pub rows_ok : ℤ → Table → Bool
rows_ok top t = every (row_rule top t) slots

-- a table is well formed when every rule holds
unfoldable pub well_formed : Table → Bool
well_formed t =
    let top = top_of t.algorithm t.n in
    algorithm_ok t.algorithm && count_ok t.n && x_ok top t.x && rows_ok top t
