-- The table in a form: its rows and cells one by one, how many they are, and when it keeps the rules.
use Prim.Native.Nat.{ℕ, ◌<◌, ◌≤◌}
use mathlib.Core.Path.{◌≡◌}
use mathlib.Core.Bool.{true}
use mathlib.Core.List.{List}
use native.Mathlib.Omega.{arith}
use native.Mathlib.Decide.{dec_le}
use lib.IntN.{pos}
use lib.ListN.{length, length-replicate}
use Rattle.laws.proofs.Tests.{within_low, within_high}
use Rattle.fields.specs.Numbers.{slots, none}
use Rattle.fields.specs.Rules.{algorithm_ok, count_ok, x_ok}
use Rattle.table.specs.WellFormed.{row_of, cell_of, no_row}
use Rattle.table.specs.Fresh.{fresh_row}
use Rattle.table.specs.Sized.{Sized}
use Rattle.table.specs.declared.Row.{Row}
use Rattle.table.proofs.WellFormed.{RowRules, TableRules, fresh_row_rules}
use Rattle.stored.specs.Fields.{algorithm_in, count_in, x_in, top_in, cell_in, row_in, table_in}
use Rattle.stored.proofs.Filled.{filled_length, filled_first, filled_after}

module _ (s : List ℕ) where
  pub cell_in_lem : (i j : ℕ) → 1 ≤ j → j ≤ slots → cell_of (row_in s i) j ≡ cell_in s i j
  unfolding row_in
  cell_in_lem i j low high = filled_first (cell_in s i) slots none (pos 0) j low high

  pub row_in_lem : (i : ℕ) → 1 ≤ i → i ≤ count_in s → row_of (table_in s) i ≡ row_in s i
  unfolding table_in
  row_in_lem i low high = filled_first (row_in s) (count_in s) fresh_row no_row i low high

  -- each row of the table: it is one that was read, or it is above n and fresh
  pub each_row : (P : ℕ → Row → Type 0) → ((i : ℕ) → 1 ≤ i → i ≤ count_in s → P i (row_in s i))
      → ((i : ℕ) → count_in s < i → i ≤ slots → P i fresh_row) → (i : ℕ) → 1 ≤ i → i ≤ slots → P i (row_of (table_in s) i)
  unfolding table_in
  each_row P read above i low high = by_place (dec_le i (count_in s))
    where
      by_place : Dec (i ≤ count_in s) → P i (row_of (table_in s) i)
      by_place (yes p) = rw (row_in_lem i low p) (read i low p)
      by_place (no p) =
          let beyond : count_in s < i = omega arith in
          rw (filled_after (row_in s) (count_in s) fresh_row no_row i beyond high) (above i beyond high)

  pub row_in_sized : (i : ℕ) → length (row_in s i).cells ≡ slots
  unfolding row_in
  row_in_sized i = filled_length (cell_in s i) slots none (omega arith)

  pub table_in_sized : count_in s ≤ slots → Sized (table_in s)
  unfolding table_in
  table_in_sized h =
      record {
        rows = filled_length (row_in s) (count_in s) fresh_row h;
        cells = each_row (λ _ r. length r.cells ≡ slots) (λ i _ _. row_in_sized i) (λ _ _ _. length-replicate slots none);
      }

  -- It keeps the rules where its head and the rows that were read do.
  module _ (algorithm : algorithm_ok (algorithm_in s) ≡ true) (count : count_ok (count_in s) ≡ true) where
    pub table_in_rules : x_ok (top_in s) (x_in s) ≡ true
        → ((i : ℕ) → 1 ≤ i → i ≤ count_in s → RowRules (top_in s) (count_in s) i (row_in s i)) → TableRules (table_in s)
    unfolding table_in
    table_in_rules x rows =
        record {
          algorithm = algorithm;
          some = within_low 1 slots (count_in s) count;
          most = within_high 1 slots (count_in s) count;
          x = x;
          rows = each_row (RowRules (top_in s) (count_in s)) rows (λ i _ _. fresh_row_rules (top_in s) (count_in s) i);
        }
