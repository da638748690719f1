-- Document 01, "One step of process i", over a table: what the step sees, the table after it, and the answer of `step`.
use Rattle.std.specs.Prelude.{ℕ, ◌-◌, cond, ℤ, set}
use Rattle.laws.specs.Tests.{within}
use Rattle.fields.specs.Refusals.{Stop, not_well_formed, bad_process_number}
use Rattle.table.specs.WellFormed.{row_of, well_formed}
use Rattle.table.specs.declared.Core.{Core}
use Rattle.table.specs.declared.Table.{Table}
use Rattle.machine.specs.Lines.{Advanced, advance_of}
use Rattle.machine.specs.declared.Seen.{Seen}
use Rattle.machine.specs.declared.Stepped.{Stepped}

-- What a step sees: of process j, j being its index, the choosing flag and the token, and X. At index 0 no line looks at the flag or the
-- token.
abbrev pub seen_in : ℤ → Core → Seen
seen_in x other = record { choosing = other.choosing; token = other.token; x = x }

abbrev pub seen_of : Table → ℕ → Seen
seen_of t i = seen_in t.x (row_of t (row_of t i).core.index).core

-- The table after the step of process i: its row and X as the step leaves them.
abbrev pub put_back : Table → ℕ → Advanced → Table
put_back t i a = record { algorithm = t.algorithm; n = t.n; x = a.x; rows = set t.rows (i - 1) a.row }

-- The step of process i of a well-formed table, i being 1 to n.
unfoldable pub taken_of : Table → ℕ → Stepped
taken_of t i =
    let a = advance_of t.algorithm t.n i (seen_of t i) (row_of t i) in
    record { table = put_back t i a; mark = a.mark; stop = a.stop }

-- "On refusal step returns the given table and the mark 0". Of refusal 5, which `taken_of` answers, and of a step that waits, the laws
-- `step_refused` and `step_unmarked` say so (`crates/machine/proofs/Steps.antt`).
abbrev pub refused_step : Table → Stop → Stepped
refused_step t stop = record { table = t; mark = 0; stop = stop }

-- "Step: 3, 4, 5.": 5 is that of line 4
unfoldable pub step_of : Table → ℕ → Stepped
step_of t i =
    cond (well_formed t)
    (cond (within 1 t.n i) (taken_of t i) (refused_step t bad_process_number))
    (refused_step t not_well_formed)
