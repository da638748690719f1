-- A well-formed table, rule by rule; its rows above n are fresh rows; every answer of `fresh` is well formed.
use Prim.Native.Nat.{ℕ, suc, ◌-◌, ◌<◌, ◌≤◌}
use mathlib.Core.Path.{◌≡◌, refl, sym, ap, ◌∙◌}
use mathlib.Core.Bool.{Bool, true, not, false≢true}
use native.Mathlib.Omega.{arith}
use borrow.Author.Tests.{le-leb, lt-leb, eqb-true}
use lib.Dec.{leb, eqb}
use lib.IntN.{ℤ, pos, negsuc}
use lib.ListN.{length, get_or, length-replicate, get_or-replicate}
use lib.Seq.{ext_get_or}
use Rattle.laws.specs.Tests.{within, withinℤ}
use Rattle.laws.proofs.Tests.{by_test, and_both, and_halves, within_low, within_high, within_yes, every_at, every_all}
use Rattle.fields.specs.Numbers.{slots, first_line, last_line, none, is_none, unbounded, limit_of, top_of}
use Rattle.fields.specs.Rules.{algorithm_ok, count_ok, x_ok, line_ok, index_ok, choosing_ok, token_ok, pivot_ok, may_hold, cell_ok}
use Rattle.table.specs.WellFormed.{row_of, cell_of, no_row, cell_rule, cells_ok, core_ok, row_ok, row_rule, rows_ok, well_formed}
use Rattle.table.specs.Fresh.{all_none, fresh_row, fresh_table, fresh_of}
use Rattle.table.specs.Sized.{Sized}
use Rattle.table.specs.declared.Core.{Core}
use Rattle.table.specs.declared.Row.{Row}
use Rattle.table.specs.declared.Table.{Table}
use Rattle.table.specs.declared.Started.{Started}

-- the rules of the core of row i, each by its name
pub record CoreRules (top : ℤ) (n i : ℕ) (c : Core) : Type 0 where
  pub line : line_ok n i c.line ≡ true
  pub index : index_ok n i c.line c.index ≡ true
  pub choosing : choosing_ok c.line c.choosing ≡ true
  pub token : token_ok top c.line c.token ≡ true
  pub pivot : pivot_ok top c.line c.pivot ≡ true

-- the rules of row i: those of its core, and that of each read cell
pub record RowRules (top : ℤ) (n i : ℕ) (r : Row) : Type 0 where
  pub core : CoreRules top n i r.core
  pub cells : (j : ℕ) → 1 ≤ j → j ≤ slots → cell_rule top n i r j ≡ true

-- the rules of a table, each by its name
pub record TableRules (t : Table) : Type 0 where
  pub algorithm : algorithm_ok t.algorithm ≡ true
  pub some : 1 ≤ t.n
  pub most : t.n ≤ slots
  pub x : x_ok (top_of t.algorithm t.n) t.x ≡ true
  pub rows : (i : ℕ) → 1 ≤ i → i ≤ slots → RowRules (top_of t.algorithm t.n) t.n i (row_of t i)

core_rules : (top : ℤ) (n i : ℕ) (c : Core) → core_ok top n i c ≡ true → CoreRules top n i c
unfolding core_ok
core_rules top n i c e =
    let h4 = and_halves _ (pivot_ok top c.line c.pivot) e in
    let h3 = and_halves _ (token_ok top c.line c.token) h4.0 in
    let h2 = and_halves _ (choosing_ok c.line c.choosing) h3.0 in
    let h1 = and_halves _ (index_ok n i c.line c.index) h2.0 in
    record { line = h1.0; index = h1.1; choosing = h2.1; token = h3.1; pivot = h4.1 }

row_rules : (top : ℤ) (n i : ℕ) (r : Row) → row_ok top n i r ≡ true → RowRules top n i r
unfolding row_ok cells_ok
row_rules top n i r e =
    let halves = and_halves (core_ok top n i r.core) (cells_ok top n i r) e in
    record {
      core = core_rules top n i r.core halves.0;
      cells = λ j l h. every_at (cell_rule top n i r) j slots l h halves.1;
    }

core_ok_lem : (top : ℤ) (n i : ℕ) (c : Core) → CoreRules top n i c → core_ok top n i c ≡ true
unfolding core_ok
core_ok_lem top n i c k = and_both (and_both (and_both (and_both k.line k.index) k.choosing) k.token) k.pivot

row_ok_lem : (top : ℤ) (n i : ℕ) (r : Row) → RowRules top n i r → row_ok top n i r ≡ true
unfolding row_ok cells_ok
row_ok_lem top n i r rules =
    and_both (core_ok_lem top n i r.core rules.core) (every_all (cell_rule top n i r) slots rules.cells)

pub table_rules : (t : Table) → well_formed t ≡ true → TableRules t
unfolding well_formed rows_ok row_rule
table_rules t e =
    let top = top_of t.algorithm t.n in
    let h3 = and_halves _ (rows_ok top t) e in
    let h2 = and_halves _ (x_ok top t.x) h3.0 in
    let h1 = and_halves (algorithm_ok t.algorithm) (count_ok t.n) h2.0 in
    record {
      algorithm = h1.0;
      some = within_low 1 slots t.n h1.1;
      most = within_high 1 slots t.n h1.1;
      x = h2.1;
      rows = λ i l h. row_rules _ _ i _ (every_at (row_rule top t) i slots l h h3.1);
    }

pub well_formed_lem : (t : Table) → TableRules t → well_formed t ≡ true
unfolding well_formed rows_ok row_rule
well_formed_lem t k =
    and_both (and_both (and_both k.algorithm (within_yes 1 slots t.n k.some k.most)) k.x)
    (every_all (row_rule (top_of t.algorithm t.n) t) slots (λ i l h. row_ok_lem _ _ i _ (k.rows i l h)))

-- what is_none says
pub is_none_lem : (v : ℤ) → is_none v ≡ true → v ≡ none
is_none_lem (pos a) e = absurd (false≢true e)
is_none_lem (negsuc a) e = ap negsuc (eqb-true a 0 e)

-- a line that keeps its rule is 1 to 10, also in a row above n
pub line_range : (n i line : ℕ) → line_ok n i line ≡ true → within first_line last_line line ≡ true
unfolding line_ok
line_range n i line =
    by_test (λ (ok : Bool). ok ≡ true → within first_line last_line line ≡ true) (leb i n)
    (λ _ e. e)
    (λ _ e. rw (eqb-true line 1 e))

-- an index that keeps its rule names a process, or none by 0
pub index_range : (n i line index : ℕ) → index_ok n i line index ≡ true → index ≤ n
unfolding index_ok
index_range n i line index =
    by_test (λ (ok : Bool). ok ≡ true → index ≤ n) (eqb line 2) (λ _. within_high 1 n index)
    (λ _. by_test (λ (ok : Bool). ok ≡ true → index ≤ n) (within 6 7 line)
    (λ _ e. within_high 1 n index (and_halves (within 1 n index) (not (eqb index i)) e).0)
    (λ _ e. let none : index ≡ 0 = eqb-true index 0 e in omega arith))

-- a token that keeps its rule is -1 to T
pub token_range : (limit line : ℕ) (v : ℤ) → token_ok (pos limit) line v ≡ true → withinℤ none (pos limit) v ≡ true
unfolding token_ok
token_range limit line v =
    by_test (λ (ok : Bool). ok ≡ true → withinℤ none (pos limit) v ≡ true) (within 1 4 line)
    (λ _ e. rw (is_none_lem v e)) (λ _ e. from_zero v e)
  where
    from_zero : (v : ℤ) → withinℤ (pos 0) (pos limit) v ≡ true → withinℤ none (pos limit) v ≡ true
    from_zero (pos a) e = (and_halves (leb 0 a) (leb a limit) e).1
    from_zero (negsuc a) e = absurd (false≢true e)

-- no cell of a row at line 1 holds a token
cells_none : (top : ℤ) (n i : ℕ) (r : Row) → RowRules top n i r → r.core.line ≡ 1 → length r.cells ≡ slots → r.cells ≡ all_none
unfolding cell_rule cell_ok may_hold
cells_none top n i r k e m = ext_get_or (pos 0) r.cells all_none (m ∙ sym (length-replicate slots none)) (λ j h. each j (omega arith))
  where
    each : (j : ℕ) → j < slots → get_or r.cells j (pos 0) ≡ get_or all_none j (pos 0)
    each j h =
        let off : suc j - 1 ≡ j = omega arith in
        let cell : cell_of r (suc j) ≡ none = is_none_lem _ (rw e at (k.cells (suc j) (omega arith) h)) in
        (rw off at cell) ∙ sym (get_or-replicate slots j none (pos 0) h)

-- a row at line 1 that keeps the rules is a fresh row
line_one_fresh : (top : ℤ) (n i : ℕ) (r : Row) → RowRules top n i r → r.core.line ≡ 1 → length r.cells ≡ slots → r ≡ fresh_row
unfolding index_ok choosing_ok token_ok pivot_ok
line_one_fresh top n i r rules e m =
    let k = rules.core in
    let index : r.core.index ≡ 0 = eqb-true _ _ (rw e at k.index) in
    let choosing : r.core.choosing ≡ 0 = eqb-true _ _ (rw e at k.choosing) in
    let token : r.core.token ≡ none = is_none_lem _ (rw e at k.token) in
    let pivot : r.core.pivot ≡ none = is_none_lem _ (rw e at k.pivot) in
    let cells = cells_none top n i r rules e m in
    λ at. record {
      core = record { line = e at; index = index at; choosing = choosing at; token = token at; pivot = pivot at };
      cells = cells at;
    }

-- "rows above n are as in a fresh table"
pub above_fresh : (t : Table) → well_formed t ≡ true → Sized t → (i : ℕ) → t.n < i → i ≤ slots → row_of t i ≡ fresh_row
unfolding line_ok
above_fresh t e z i l h =
    let k = (table_rules t e).rows i (omega arith) h in
    line_one_fresh _ _ i _ k (eqb-true _ _ (rw (lt-leb i t.n l) at k.core.line)) (z.cells i (omega arith) h)

-- a fresh row keeps every rule, and so does a fresh table
pub fresh_row_rules : (top : ℤ) (n i : ℕ) → RowRules top n i fresh_row
unfolding line_ok index_ok choosing_ok token_ok pivot_ok cell_rule cell_ok may_hold
fresh_row_rules top n i =
    record {
      core = record {
        line = by_test (λ (ok : Bool). ok ≡ true) (leb i n) (λ _. refl) (λ _. refl);
        index = refl;
        choosing = refl;
        token = refl;
        pivot = refl;
      };
      cells = λ j l h. ap is_none (get_or-replicate slots (j - 1) none (pos 0) (omega arith));
    }

pub fresh_well_formed : (algorithm n : ℕ) → algorithm_ok algorithm ≡ true → count_ok n ≡ true → well_formed (fresh_table algorithm n) ≡ true
fresh_well_formed algorithm n a c =
    well_formed_lem (fresh_table algorithm n)
    (record {
      algorithm = a;
      some = within_low 1 slots n c;
      most = within_high 1 slots n c;
      x = rw (le-leb 0 (limit_of algorithm n) (omega arith));
      rows = λ i p q. rw (get_or-replicate slots (i - 1) fresh_row no_row (omega arith)) (fresh_row_rules _ n i);
    })

pub fresh_sized : (algorithm n : ℕ) → Sized (fresh_table algorithm n)
fresh_sized algorithm n =
    record {
      rows = length-replicate slots fresh_row;
      cells = λ i p q. rw (get_or-replicate slots (i - 1) fresh_row no_row (omega arith)) (length-replicate slots none);
    }

-- the answer of `fresh`, refused or not
pub fresh_of_well_formed : (algorithm n : ℕ) → well_formed (fresh_of algorithm n).table ≡ true
unfolding fresh_of
fresh_of_well_formed algorithm n =
    let shown = fresh_well_formed unbounded 1 refl refl in
    by_test (λ (s : Started). well_formed s.table ≡ true) (algorithm_ok algorithm)
    (λ p. by_test (λ (s : Started). well_formed s.table ≡ true) (count_ok n)
    (λ q. fresh_well_formed algorithm n p q)
    (λ _. shown))
    (λ _. shown)
