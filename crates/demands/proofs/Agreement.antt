-- What the views of two tables say of the tables themselves: nothing that demand 3 speaks of is lost in a view.
use Prim.Native.Nat.{ℕ, suc, ◌-◌, ◌<◌, ◌≤◌}
use mathlib.Core.Path.{◌≡◌, refl, sym, ap, ◌∙◌}
use mathlib.Core.Bool.{Bool, true, false, false≢true, cond}
use native.Mathlib.Omega.{arith}
use borrow.Author.Tests.{le-leb, leb-true, eq-eqb, eqb-true}
use lib.Dec.{eqb}
use lib.IntN.{ℤ, pos, negsuc}
use lib.ListN.{length}
use Rattle.laws.specs.Tests.{within, how_many}
use Rattle.laws.proofs.Tests.{by_order, and_both, every_all, many_at_most_one}
use Rattle.fields.specs.Numbers.{slots, first_line, last_line, modulus_of}
use Rattle.fields.specs.Rules.{index_ok, choosing_ok}
use Rattle.table.specs.WellFormed.{row_of, cell_of, cell_rule}
use Rattle.table.specs.declared.Core.{Core}
use Rattle.table.specs.declared.Row.{Row}
use Rattle.table.specs.declared.Table.{Table}
use Rattle.table.proofs.WellFormed.{CoreRules, RowRules, table_rules, line_range, above_fresh}
use Rattle.theory.proofs.Counting.{Process}
use Rattle.theory.proofs.Tokens.{modulus, reduced}
use Rattle.theory.proofs.Model.{Place, at1, at2, at3, at4, at5, at6, at7, at8, at9, at10}
use Rattle.theory.proofs.Model as model
use Rattle.theory.proofs.Bounded.{row_reduced, remainders}
use Rattle.theory.proofs.Theorems.{Exclusive}
use Rattle.theory.proofs.Theorems as theory
use Rattle.demands.specs.Agreement.{f, is_remainder, cell_agrees, row_agrees, row_at_agrees, agree, is_critical_line, is_critical, at_most_one}
use Rattle.demands.proofs.Views.{token_of, place_of, row_view, view}
use Rattle.demands.proofs.From1.{row_from1, cell_from1}
use Rattle.demands.proofs.Tables.{TableFor, some_process}
use Rattle.demands.proofs.RowFacts.{each_line, FromNone, from_zero, token_from_none, pivot_from_none, cell_from_none}

-- Places.

-- the line of a place, and its index, which is 0 where it has none
line_of : Place → ℕ
line_of at1 = 1
line_of (at2 j) = 2
line_of at3 = 3
line_of at4 = 4
line_of at5 = 5
line_of (at6 j) = 6
line_of (at7 j) = 7
line_of at8 = 8
line_of at9 = 9
line_of at10 = 10

index_of : Place → ℕ
index_of at1 = 0
index_of (at2 j) = j
index_of at3 = 0
index_of at4 = 0
index_of at5 = 0
index_of (at6 j) = j
index_of (at7 j) = j
index_of at8 = 0
index_of at9 = 0
index_of at10 = 0

-- a place shows the line that it is made of,
line_of_place : (index line : ℕ) → within first_line last_line line ≡ true → line_of (place_of line index) ≡ line
unfolding line_of
line_of_place index = each_line (λ (k : ℕ). line_of (place_of k index) ≡ k) refl refl refl refl refl refl refl refl refl refl

-- the index, where it keeps its rule,
index_of_place : (n i index line : ℕ) → within first_line last_line line ≡ true → index_ok n i line index ≡ true
    → index_of (place_of line index) ≡ index
unfolding index_of index_ok
index_of_place n i index =
    each_line (λ (k : ℕ). index_ok n i k index ≡ true → index_of (place_of k index) ≡ index)
    without with_index_lem without without without with_index_lem with_index_lem without without without
  where
    with_index_lem : {ok : Bool} → ok ≡ true → index ≡ index
    with_index_lem _ = refl

    without : eqb index 0 ≡ true → 0 ≡ index
    without e = sym (eqb-true index 0 e)

-- and whether the line is one of 8 to 10
critical_place : (index line : ℕ) → within first_line last_line line ≡ true → theory.is_critical (place_of line index) ≡ is_critical_line line
critical_place index =
    each_line (λ (k : ℕ). theory.is_critical (place_of k index) ≡ is_critical_line k) refl refl refl refl refl refl refl refl refl refl

-- the choosing flag is told by the line
choosing_of_line : (line choosing : ℕ) → choosing_ok line choosing ≡ true → choosing ≡ cond (within 2 5 line) 1 0
unfolding choosing_ok
choosing_of_line line choosing e = by_range (within 2 5 line) e
  where
    by_range : (inside : Bool) → cond inside (eqb choosing 1) (eqb choosing 0) ≡ true → choosing ≡ cond inside 1 0
    by_range true e = eqb-true choosing 1 e
    by_range false e = eqb-true choosing 0 e

-- where the view of one number is the remainder of another's view, the number is the other's remainder
number_agrees : (others : ℕ) (u b : ℤ) → FromNone b → token_of b ≡ reduced others (token_of u) → is_remainder (modulus others) u b ≡ true
unfolding is_remainder f
number_agrees others (pos v) (pos w) _ e = eq-eqb w _ (omega (arith, e))
number_agrees others (pos v) (negsuc w) _ e = absurd (omega (arith, e))
number_agrees others (negsuc v) (pos w) _ e = absurd (omega (arith, e))
number_agrees others (negsuc v) (negsuc w) l e = eq-eqb w 0 (omega (arith, leb-true w 0 l))

-- Rows.

-- a core that keeps its rules: its place shows its line, its index, and whether the line is one of 8 to 10
module _ {top : ℤ} {n i : ℕ} {c : Core} (rules : CoreRules top n i c) where
  range : within first_line last_line c.line ≡ true
  range = line_range n i c.line rules.line

  line_shown : line_of (place_of c.line c.index) ≡ c.line
  line_shown = line_of_place c.index c.line range

  index_shown : index_of (place_of c.line c.index) ≡ c.index
  index_shown = index_of_place n i c.index c.line range rules.index

  critical_shown : theory.is_critical (place_of c.line c.index) ≡ is_critical_line c.line
  critical_shown = critical_place c.index c.line range

-- two rows that keep their rules, where the view of the second is the remainders of the first's
module _ (others : ℕ) {i n₁ n₂ : ℕ} {top₁ top₂ : ℤ} {u b : Row} (rules-u : RowRules top₁ n₁ i u) (rules-b : RowRules top₂ n₂ i b)
    (viewed : row_view b ≡ row_reduced others (row_view u)) where
  -- they agree in line, index and choosing flag
  same_line : b.core.line ≡ u.core.line
  same_line = sym (line_shown rules-b.core) ∙ ap (λ (r : model.Row). line_of r.place) viewed ∙ line_shown rules-u.core

  same_index : b.core.index ≡ u.core.index
  same_index = sym (index_shown rules-b.core) ∙ ap (λ (r : model.Row). index_of r.place) viewed ∙ index_shown rules-u.core

  same_choosing : b.core.choosing ≡ u.core.choosing
  same_choosing =
      choosing_of_line b.core.line b.core.choosing rules-b.core.choosing
      ∙ ap (λ (line : ℕ). cond (within 2 5 line) 1 0) same_line
      ∙ sym (choosing_of_line u.core.line u.core.choosing rules-u.core.choosing)

  -- and token, pivot and each cell of the second is the remainder of the first's
  token_agrees : is_remainder (modulus others) u.core.token b.core.token ≡ true
  token_agrees =
      number_agrees others u.core.token b.core.token (token_from_none top₂ b.core.line b.core.token rules-b.core.token)
      (ap (λ (r : model.Row). r.token) viewed)

  pivot_agrees : is_remainder (modulus others) u.core.pivot b.core.pivot ≡ true
  pivot_agrees =
      number_agrees others u.core.pivot b.core.pivot (pivot_from_none top₂ b.core.line b.core.pivot rules-b.core.pivot)
      (ap (λ (r : model.Row). r.pivot) viewed)

  module _ (cells-u : length u.cells ≡ slots) (cells-b : length b.cells ≡ slots) where
    cell_agrees_lem : (j : ℕ) → 1 ≤ j → j ≤ slots → cell_agrees (modulus others) u b j ≡ true
    unfolding cell_agrees cell_rule
    cell_agrees_lem j low high =
        number_agrees others (cell_of u j) (cell_of b j) (cell_from_none top₂ _ (cell_of b j) (rules-b.cells j low high))
        (rw (cell_from1 u cells-u j low high, cell_from1 b cells-b j low high) (ap (λ (r : model.Row). r.cell j) viewed))

    -- so they agree
    row_agrees_lem : row_agrees (modulus others) u b ≡ true
    unfolding row_agrees
    row_agrees_lem =
        and_both (and_both (and_both (and_both (and_both
        (eq-eqb u.core.line b.core.line (sym same_line))
        (eq-eqb u.core.index b.core.index (sym same_index)))
        (eq-eqb u.core.choosing b.core.choosing (sym same_choosing)))
        token_agrees)
        pivot_agrees)
        (every_all (cell_agrees (modulus others) u b) slots cell_agrees_lem)

-- Tables.

-- two tables, where the view of the second is the remainders of the first's
module _ (n : ℕ) (u b : Table) {algorithm₁ algorithm₂ : ℕ} (for-u : TableFor algorithm₁ n u) (for-b : TableFor algorithm₂ n b)
    (viewed : view b ≡ remainders (n - 1) (view u)) where
  -- so it is with row i of both
  row_viewed : (i : ℕ) → 1 ≤ i → i ≤ slots → row_view (row_of b i) ≡ row_reduced (n - 1) (row_view (row_of u i))
  row_viewed i low high =
      rw (row_from1 u for-u.sized i low high, row_from1 b for-b.sized i low high) (ap (λ (s : model.State). s.row i) viewed)

  -- row i of both is at the same line
  pub line_view : (i : ℕ) → 1 ≤ i → i ≤ slots → (row_of b i).core.line ≡ (row_of u i).core.line
  line_view i low high =
      same_line (n - 1) ((table_rules u for-u.formed).rows i low high) ((table_rules b for-b.formed).rows i low high) (row_viewed i low high)

  -- row i of both agrees
  row_at_agrees_lem : (i : ℕ) → 1 ≤ i → i ≤ slots → row_at_agrees (modulus (n - 1)) u b i ≡ true
  unfolding row_at_agrees
  row_at_agrees_lem i low high =
      row_agrees_lem (n - 1) ((table_rules u for-u.formed).rows i low high) ((table_rules b for-b.formed).rows i low high) (row_viewed i low high)
      (for-u.sized.cells i low high) (for-b.sized.cells i low high)

  -- X of the second is the remainder of the first's
  x_agrees : is_remainder (modulus (n - 1)) u.x b.x ≡ true
  x_agrees =
      number_agrees (n - 1) u.x b.x (from_zero _ b.x (table_rules b for-b.formed).x) (ap (λ (s : model.State). s.x) viewed)

  -- so the tables agree
  pub agree_view : agree (modulus_of n) u b ≡ true
  unfolding agree
  agree_view =
      let m : modulus_of n ≡ modulus (n - 1) = omega (arith, some_process for-u) in
      rw m (and_both x_agrees (every_all (row_at_agrees (modulus (n - 1)) u b) slots row_at_agrees_lem))

-- exclusion in the view is "at most one process stands at lines 8 to 10"
pub at_most_one_view : (n : ℕ) (t : Table) {algorithm : ℕ} → TableFor algorithm n t → Exclusive (n - 1) (view t) → at_most_one t ≡ true
unfolding at_most_one
at_most_one_view n t for exclusive =
    le-leb (how_many (is_critical t) slots) 1 (many_at_most_one (is_critical t) slots apart)
  where
    -- rows above n are at line 1
    process : (i : ℕ) → 1 ≤ i → i ≤ slots → is_critical t i ≡ true → Process (suc (n - 1)) i
    process i low high c =
        by_order i n
        (λ l. record { low = low; high = omega arith })
        (λ l. absurd (false≢true (rw (above_fresh t for.formed for.sized i (omega (arith, for.count)) high) at c)))

    -- and the view shows which are at lines 8 to 10
    critical : (i : ℕ) → 1 ≤ i → i ≤ slots → is_critical t i ≡ true → theory.is_critical ((view t).row i).place ≡ true
    critical i low high c =
        rw (sym (row_from1 t for.sized i low high)) (critical_shown ((table_rules t for.formed).rows i low high).core ∙ c)

    -- so no two are
    apart : (i j : ℕ) → 1 ≤ i → i < j → j ≤ slots → is_critical t i ≡ true → is_critical t j ≡ true → ⊥
    apart i j low less high first second =
        let most : i ≤ slots = omega arith in
        let some : 1 ≤ j = omega arith in
        omega (
          arith,
          exclusive i j (process i low most first) (process j some high second) (critical i low most first) (critical j some high second),
        )
