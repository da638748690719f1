-- Where the records of a table that keeps the rules stand, that table is read.
use Prim.Native.Nat.{ℕ, suc, ◌-◌, ◌<◌, ◌≤◌}
use mathlib.Core.Path.{◌≡◌, sym, ◌∙◌}
use mathlib.Core.Bool.{true}
use mathlib.Core.List.{List, [], ◌∷◌, ◌++◌}
use native.Mathlib.Omega.{arith}
use lib.IntN.{ℤ, pos}
use lib.ListN.{length, get_or}
use lib.Seq.{ext_get_or}
use Rattle.laws.specs.InTurn.{in_turn}
use Rattle.laws.proofs.Tests.{within_yes}
use Rattle.laws.proofs.Standing.{Stands, stands_first, first_stands, second_stands, turn_stands}
use Rattle.fields.specs.Numbers.{slots, top_of}
use Rattle.table.specs.WellFormed.{no_row, row_of, cell_of, cell_rule, well_formed}
use Rattle.table.specs.Fresh.{fresh_row}
use Rattle.table.specs.Sized.{Sized}
use Rattle.table.specs.declared.Core.{Core}
use Rattle.table.specs.declared.Row.{Row}
use Rattle.table.specs.declared.Table.{Table}
use Rattle.table.proofs.WellFormed.{CoreRules, RowRules, TableRules, above_fresh}
use Rattle.stored.specs.FourBytes.{four_digits, four_bytes}
use Rattle.stored.specs.Form.{head_kind, row_kind, cells_kind, head_record, row_record, cells_record, form_length}
use Rattle.stored.specs.Fields.{row_place, algorithm_in, count_in, x_in, top_in, core_in, row_in, table_in}
use Rattle.stored.proofs.Lengths.{four_length}
use Rattle.stored.proofs.Numbers.{number_read}
use Rattle.stored.proofs.Ranges.{x_fits, token_fits, pivot_fits, cell_fits}
use Rattle.stored.proofs.TableIn.{cell_in_lem, each_row, row_in_sized, table_in_sized, table_in_rules}
use Rattle.stored.proofs.Records.{Records}
use Rattle.stored.proofs.Accepted.{Opens, Framed}

-- Two lists of sixteen are the same where their elements 1 to 16 are.
same_sixteen : {A : Type 0} (d : A) (l m : List A) → length l ≡ slots → length m ≡ slots
    → ((i : ℕ) → 1 ≤ i → i ≤ slots → get_or l (i - 1) d ≡ get_or m (i - 1) d) → l ≡ m
same_sixteen d l m el em each =
    ext_get_or d l m (el ∙ sym em)
    (λ k h. let off : suc k - 1 ≡ k = omega arith in rw off at (each (suc k) (omega arith) (omega arith)))

-- Two rows are alike: the same core, and the same cells 1 to 16.
record Alike (r q : Row) : Type 0 where
  core : r.core ≡ q.core
  cells : (j : ℕ) → 1 ≤ j → j ≤ slots → cell_of r j ≡ cell_of q j

-- Then the one keeps the rules where the other does, and they are the same where both have sixteen cells.
alike_rules : {r q : Row} → Alike r q → (top : ℤ) (n i : ℕ) → RowRules top n i q → RowRules top n i r
unfolding cell_rule
alike_rules a top n i rules =
    record {
      core = rw a.core rules.core;
      cells = λ j low high. rw (a.core, a.cells j low high) (rules.cells j low high);
    }

alike_same : (r q : Row) → Alike r q → length r.cells ≡ slots → length q.cells ≡ slots → r ≡ q
alike_same r q a r-sized q-sized =
    let cells = same_sixteen (pos 0) r.cells q.cells r-sized q-sized a.cells in
    λ at. record { core = a.core at; cells = cells at }

-- where the first two bytes of a record stand, it opens right
opens : {s : List ℕ} {kind i at : ℕ} (later : List ℕ) → Stands 0 s at (kind ∷ i ∷ later) → Opens s kind i at
opens later h = record { kind_byte = stands_first _ _ h; process_byte = h.each 1 (omega arith) }

-- where the record of a core that keeps the rules stands, that core is read
core_read : {s : List ℕ} (algorithm n i : ℕ) (c : Core) → n ≤ slots → CoreRules (top_of algorithm n) n i c
    → Stands 0 s (row_place i) (row_record i c) → core_in s i ≡ c
unfolding row_record four_bytes four_digits
core_read algorithm n i c few rules row =
    let five : List ℕ = row_kind ∷ i ∷ c.line ∷ c.index ∷ c.choosing ∷ [] in
    let token = second_stands five (four_bytes c.token) (first_stands (five ++ four_bytes c.token) (four_bytes c.pivot) row) in
    let pivot = second_stands (five ++ four_bytes c.token) (four_bytes c.pivot) row in
    let Line-read = row.each 2 (omega arith) in
    let index_read = row.each 3 (omega arith) in
    let choosing-read = row.each 4 (omega arith) in
    let token-read = number_read c.token (token_fits algorithm n few _ _ rules.token) token in
    let pivot-read = number_read c.pivot (pivot_fits algorithm n few _ _ rules.pivot) pivot in
    λ at. record {
      line = Line-read at;
      index = index_read at;
      choosing = choosing-read at;
      token = token-read at;
      pivot = pivot-read at;
    }

module _ {s : List ℕ} {t : Table} (records : Records s t) (rules : TableRules t) where
  -- the head is read
  algorithm_read : algorithm_in s ≡ t.algorithm
  unfolding head_record
  algorithm_read = records.head.each 1 (omega arith)

  count_read : count_in s ≡ t.n
  unfolding head_record
  count_read = records.head.each 2 (omega arith)

  x_read : x_in s ≡ t.x
  unfolding head_record
  x_read =
      number_read t.x (x_fits _ _ rules.most t.x rules.x)
      (second_stands (head_kind ∷ t.algorithm ∷ t.n ∷ []) (four_bytes t.x) records.head)

  -- each row is read, but for how many cells the table's own row has
  row_read : (i : ℕ) → 1 ≤ i → i ≤ t.n → Alike (row_in s i) (row_of t i)
  unfolding row_in cells_record cell_rule
  row_read i low high =
      let r = row_of t i in
      let rule = rules.rows i low (omega (arith, rules.most)) in
      let cell : ℕ → List ℕ = λ j. four_bytes (cell_of r j) in
      let cells = second_stands (cells_kind ∷ i ∷ []) (in_turn cell slots) (records.cells i low high) in
      record {
        core = core_read t.algorithm t.n i r.core rules.most rule.core (records.row i low high);
        cells = λ j first last.
            cell_in_lem s i j first last
            ∙ number_read (cell_of r j) (cell_fits _ _ rules.most _ _ (rule.cells j first last))
            (turn_stands cell 4 (λ j. four_length (cell_of r j)) slots cells j first last);
      }

  -- So the form is framed, its table keeps the rules, and it is the table itself where that is sized.
  pub frame_read : length s ≡ form_length t.n → Framed s
  unfolding head_record row_record cells_record
  frame_read long =
      record {
        long = rw count_read long;
        kind_byte = stands_first _ _ records.head;
        row = λ i low high. opens _ (records.row i low (rw count_read at high));
        cells = λ i low high. opens _ (records.cells i low (rw count_read at high));
      }

  pub rules_read : TableRules (table_in s)
  rules_read =
      table_in_rules s (rw algorithm_read rules.algorithm) (rw count_read (within_yes 1 slots t.n rules.some rules.most))
      (rw (algorithm_read, count_read, x_read) rules.x) row_rules
    where
      row_rules : (i : ℕ) → 1 ≤ i → i ≤ count_in s → RowRules (top_in s) (count_in s) i (row_in s i)
      row_rules i low high =
          let inside : i ≤ t.n = rw count_read at high in
          rw (algorithm_read, count_read) (alike_rules (row_read i low inside) _ t.n i (rules.rows i low (omega (arith, rules.most))))

  pub table_read : well_formed t ≡ true → Sized t → table_in s ≡ t
  unfolding table_in
  table_read formed sized =
      let rows = same_sixteen no_row (table_in s).rows t.rows (table_in_sized s (rw count_read rules.most)).rows sized.rows
      (each_row s (λ i r. r ≡ row_of t i) read above) in
      λ at. record { algorithm = algorithm_read at; n = count_read at; x = x_read at; rows = rows at }
    where
      read : (i : ℕ) → 1 ≤ i → i ≤ count_in s → row_in s i ≡ row_of t i
      read i low high =
          let inside : i ≤ t.n = rw count_read at high in
          alike_same (row_in s i) (row_of t i) (row_read i low inside) (row_in_sized s i) (sized.cells i low (omega (arith, rules.most)))

      above : (i : ℕ) → count_in s < i → i ≤ slots → fresh_row ≡ row_of t i
      above i low high = sym (above_fresh t formed sized i (rw count_read at low) high)
