-- A form is accepted just where its frame is right and the table in it keeps the rules. The frame is the length, and the bytes that are no
-- field of the table.
use Prim.Native.Nat.{ℕ, ◌+◌, ◌≤◌}
use mathlib.Core.Path.{◌≡◌}
use mathlib.Core.List.{List}
use native.Mathlib.Omega.{arith}
use borrow.Author.Tests.{le-leb, leb-true, eq-eqb, eqb-true}
use lib.ListN.{length}
use Rattle.std.specs.Prelude.{Ok}
use Rattle.laws.proofs.Tests.{◌and◌, within_yes}
use Rattle.fields.specs.Numbers.{slots}
use Rattle.table.specs.WellFormed.{cell_rule}
use Rattle.table.proofs.WellFormed.{RowRules, TableRules}
use Rattle.stored.specs.Form.{head_kind, row_kind, cells_kind, head_length, form_length}
use Rattle.stored.specs.Fields.{byte_at, row_place, cells_place, count_in, top_in, row_in, table_in}
use Rattle.stored.specs.Reading.{first_fault, start_checks, head_checks, length_checks, opening_checks, fields_checks, row_checks}
use Rattle.stored.specs.Reading.{cell_keeps, cell_check, cells_checks, records_checks, checks_of}
use Rattle.stored.proofs.Checks.{Hold, hold_no_fault, no_fault_hold, turn_holds, turns_hold}
use Rattle.stored.proofs.TableIn.{cell_in_lem, row_in_lem, table_in_rules}

-- at this place a record opens with its kind and the process number
pub record Opens (s : List ℕ) (kind i at : ℕ) : Type 0 where
  pub kind_byte : byte_at s at ≡ kind
  pub process_byte : byte_at s (at + 1) ≡ i

-- the frame is right
pub record Framed (s : List ℕ) : Type 0 where
  pub long : length s ≡ form_length (count_in s)
  pub kind_byte : byte_at s 0 ≡ head_kind
  pub row : (i : ℕ) → 1 ≤ i → i ≤ count_in s → Opens s row_kind i (row_place i)
  pub cells : (i : ℕ) → 1 ≤ i → i ≤ count_in s → Opens s cells_kind i (cells_place i)

-- what the checks of the records of process i say
record Kept (s : List ℕ) (i : ℕ) : Type 0 where
  row : Opens s row_kind i (row_place i)
  cells : Opens s cells_kind i (cells_place i)
  rules : RowRules (top_in s) (count_in s) i (row_in s i)

module _ (s : List ℕ) where
  records_kept : (i : ℕ) → Hold (records_checks s i) → Kept s i
  unfolding records_checks row_checks fields_checks cells_checks opening_checks cell_check cell_keeps row_in cell_rule
  records_kept i (kind, (process, (line, (index, (choosing, (token, (pivot, (kind-again, (process-again, cells))))))))) =
      record {
        row = record { kind_byte = eqb-true _ _ kind; process_byte = eqb-true _ _ process };
        cells = record { kind_byte = eqb-true _ _ kind-again; process_byte = eqb-true _ _ process-again };
        rules = record {
          core = record { line = line; index = index; choosing = choosing; token = token; pivot = pivot };
          cells = λ j low high. rw (cell_in_lem s i j low high) (turn_holds (cell_check s i) slots cells j low high).0;
        };
      }

  kept_records : (i : ℕ) → Kept s i → Hold (records_checks s i)
  unfolding records_checks row_checks fields_checks cells_checks opening_checks cell_check cell_keeps row_in cell_rule
  kept_records i kept =
      let core = kept.rules.core in
      eq-eqb _ _ kept.row.kind_byte
      and eq-eqb _ _ kept.row.process_byte
      and core.line
      and core.index
      and core.choosing
      and core.token
      and core.pivot
      and eq-eqb _ _ kept.cells.kind_byte
      and eq-eqb _ _ kept.cells.process_byte
      and turns_hold (cell_check s i) slots (λ j low high. (rw (cell_in_lem s i j low high) at (kept.rules.cells j low high)) and tt)

  checks_kept : Hold (checks_of s) → Framed s × TableRules (table_in s)
  unfolding checks_of start_checks head_checks length_checks
  checks_kept (room, (kind, (algorithm, (count, (x, (enough, (no_more, records))))))) =
      let kept : (i : ℕ) → 1 ≤ i → i ≤ count_in s → Kept s i =
      λ i low high. records_kept i (turn_holds (records_checks s) (count_in s) records i low high) in
      let frame : Framed s = record {
        long = omega (arith, leb-true);
        kind_byte = eqb-true _ _ kind;
        row = λ i low high. (kept i low high).row;
        cells = λ i low high. (kept i low high).cells;
      } in
      (frame, table_in_rules s algorithm count x (λ i low high. (kept i low high).rules))

  kept_checks : Framed s → TableRules (table_in s) → Hold (checks_of s)
  unfolding checks_of start_checks head_checks length_checks table_in
  kept_checks frame rules =
      let kept : (i : ℕ) → 1 ≤ i → i ≤ count_in s → Kept s i = λ i low high.
      record {
        row = frame.row i low high;
        cells = frame.cells i low high;
        rules = rw (row_in_lem s i low high) at (rules.rows i low (omega (arith, rules.most)));
      } in
      le-leb head_length (length s) (omega (arith, frame.long))
      and eq-eqb _ _ frame.kind_byte
      and rules.algorithm
      and within_yes 1 slots (count_in s) rules.some rules.most
      and rules.x
      and le-leb (form_length (count_in s)) (length s) (omega (arith, frame.long))
      and le-leb (length s) (form_length (count_in s)) (omega (arith, frame.long))
      and turns_hold (records_checks s) (count_in s) (λ i low high. kept_records i (kept i low high))

  pub accepted_framed : first_fault (checks_of s) ≡ Ok tt → Framed s
  accepted_framed e = (checks_kept (no_fault_hold (checks_of s) e)).0

  pub accepted_rules : first_fault (checks_of s) ≡ Ok tt → TableRules (table_in s)
  accepted_rules e = (checks_kept (no_fault_hold (checks_of s) e)).1

  pub framed_accepted : Framed s → TableRules (table_in s) → first_fault (checks_of s) ≡ Ok tt
  framed_accepted frame rules = hold_no_fault (checks_of s) (kept_checks frame rules)
