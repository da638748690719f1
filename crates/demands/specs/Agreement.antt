-- Demand 3's words on two tables that have had the same bytes, as tests that compute: the unbounded table first, then the bounded one.
use Rattle.std.specs.Prelude.{ℕ, ◌%◌, Bool, ◌&&◌, leb, eqb, ℤ, pos, negsuc}
use Rattle.laws.specs.Tests.{within, every, how_many, eqℤ}
use Rattle.fields.specs.Numbers.{slots, none, modulus_of}
use Rattle.table.specs.WellFormed.{row_of, cell_of}
use Rattle.table.specs.declared.Row.{Row}
use Rattle.table.specs.declared.Table.{Table}

-- Source 002: "f(-1) = -1 and for all v ≥ 0, f(v) = v mod (2n-1)". The modulus is m; -1 is the only number below 0 that a well-formed
-- table holds.
unfoldable pub f : ℕ → ℤ → ℤ
f m (pos v) = pos (v % m)
f m (negsuc _) = none

-- "is the unbounded one's remainder modulo" m, "with -1 for -1"
unfoldable pub is_remainder : ℕ → ℤ → ℤ → Bool
is_remainder m u b = eqℤ b (f m u)

-- read cell j of a row of each
unfoldable pub cell_agrees : ℕ → Row → Row → ℕ → Bool
cell_agrees m u b j = is_remainder m (cell_of u j) (cell_of b j)

-- "all rows agree in line, index and choosing flag", and "every token, pivot and read cell" is the remainder
unfoldable pub row_agrees : ℕ → Row → Row → Bool
row_agrees m u b =
    eqb u.core.line b.core.line
    && eqb u.core.index b.core.index
    && eqb u.core.choosing b.core.choosing
    && is_remainder m u.core.token b.core.token
    && is_remainder m u.core.pivot b.core.pivot
    && every (cell_agrees m u b) slots

-- row i of each
unfoldable pub row_at_agrees : ℕ → Table → Table → ℕ → Bool
row_at_agrees m u b i = row_agrees m (row_of u i) (row_of b i)

-- X, and all rows
unfoldable pub agree : ℕ → Table → Table → Bool
agree m u b = is_remainder m u.x b.x && every (row_at_agrees m u b) slots

-- "lines 8 to 10"
abbrev pub is_critical_line : ℕ → Bool
is_critical_line line = within 8 10 line

-- whether row i stands there
abbrev pub is_critical : Table → ℕ → Bool
is_critical t i = is_critical_line (row_of t i).core.line

-- "at most one process stands at lines 8 to 10"
unfoldable pub at_most_one : Table → Bool
at_most_one t = leb (how_many (is_critical t) slots) 1

-- demand 3 after a byte, of tables for n processes: "modulo 2n - 1"
unfoldable pub meets : ℕ → Table → Table → Bool
meets n u b = agree (modulus_of n) u b && at_most_one u && at_most_one b
