-- Document 01, "The table": a fresh table; and the answer of `fresh`.
use Rattle.std.specs.Prelude.{ℕ, cond, List, ℤ, pos, replicate}
use Rattle.fields.specs.Numbers.{slots, none, unbounded}
use Rattle.fields.specs.Refusals.{Stop, no_refusal, bad_algorithm, bad_process_count}
use Rattle.fields.specs.Rules.{algorithm_ok, count_ok}
use Rattle.table.specs.declared.Core.{Core}
use Rattle.table.specs.declared.Row.{Row}
use Rattle.table.specs.declared.Table.{Table}
use Rattle.table.specs.declared.Started.{Started}

-- "every row at line 1, index 0, choosing 0, token -1, pivot -1"
abbrev pub fresh_core : Core
fresh_core = record { line = 1; index = 0; choosing = 0; token = none; pivot = none }

-- "cells -1": read cells that have seen nothing
abbrev pub all_none : List ℤ
all_none = replicate slots none

abbrev pub fresh_row : Row
fresh_row = record { core = fresh_core; cells = all_none }

-- "A fresh table has X = 0" and every row fresh
abbrev pub fresh_table : ℕ → ℕ → Table
fresh_table algorithm n = record { algorithm = algorithm; n = n; x = pos 0; rows = replicate slots fresh_row }

-- "refused, fresh and read show, in the table's place, the fresh unbounded table for n = 1"
abbrev pub refused_fresh : Stop → Started
refused_fresh stop = record { table = fresh_table unbounded 1; stop = stop }

-- "Fresh: 1, 2."
unfoldable pub fresh_of : ℕ → ℕ → Started
fresh_of algorithm n =
    cond (algorithm_ok algorithm)
    (cond (count_ok n)
    (record { table = fresh_table algorithm n; stop = no_refusal })
    (refused_fresh bad_process_count))
    (refused_fresh bad_algorithm)
