-- One step keeps the rules of the core of a row, and of X.
use Prim.Native.Nat.{ℕ, ◌+◌, ◌≤◌}
use mathlib.Core.Path.{◌≡◌, refl, subst}
use mathlib.Core.Bool.{true, false}
use native.Mathlib.Omega.{arith}
use borrow.Author.Tests.{le-leb, ne_eqb, eqb-true, eqb-false}
use lib.Dec.{leb, eqb}
use lib.IntN.{ℤ, pos}
use Rattle.laws.specs.Tests.{within, withinℤ}
use Rattle.laws.proofs.Tests.{by_test, and_both, within_high, within_yes}
use Rattle.fields.specs.Numbers.{first_line, last_line, top_of}
use Rattle.fields.specs.Refusals.{Stop, no_refusal, above_token_limit}
use Rattle.fields.specs.Rules.{x_ok, line_ok, index_ok, choosing_ok, token_ok, pivot_ok}
use Rattle.table.specs.declared.Core.{Core}
use Rattle.table.proofs.WellFormed.{CoreRules}
use Rattle.tokens.specs.Answers.{is_above_limit}
use Rattle.machine.specs.Setters.{with_line, with_index, with_choosing}
use Rattle.machine.specs.Lines.{moves, refuses, next_other, goes_on, passes, any_line, line1, line2, line3, line4, line5, line6, line7}
use Rattle.machine.specs.Lines.{line8, line9, line10}
use Rattle.machine.specs.declared.Seen.{Seen}
use Rattle.machine.specs.declared.Went.{Went}
use Rattle.machine.proofs.ByLine.{by_line}

-- What the step leaves: a core that keeps its rules, and an X that keeps its rule.
pub record KeptCore (algorithm n i : ℕ) (w : Went) : Type 0 where
  pub rules : CoreRules (top_of algorithm n) n i w.core
  pub x : x_ok (top_of algorithm n) w.x ≡ true

-- the next other number is at least 1, and another
next_other_lem : (i j : ℕ) → (1 ≤ next_other i j) × (next_other i j ≡ i → ⊥)
unfolding next_other
next_other_lem i j =
    by_test (λ (k : ℕ). (1 ≤ k) × (k ≡ i → ⊥)) (eqb (j + 1) i)
    (λ t. (omega arith, λ q. omega (arith, eqb-true (j + 1) i t)))
    (λ t. (omega arith, eqb-false (j + 1) i t))

-- The step of one of the processes, whose core keeps its rules; a next token that line 4 takes keeps the rule of tokens.
module _ (algorithm n i : ℕ) (next : ℤ) (s : Seen) (c : Core) (some : 1 ≤ n) (process : i ≤ n)
    (rules : CoreRules (top_of algorithm n) n i c) (x : x_ok (top_of algorithm n) s.x ≡ true)
    (given : c.line ≡ 4 → is_above_limit algorithm next ≡ false → withinℤ (pos 0) (top_of algorithm n) next ≡ true) where
  -- the rules at a line that is known: there they compute
  rules_at : {k : ℕ} → c.line ≡ k → CoreRules (top_of algorithm n) n i (with_line k c)
  rules_at e = subst (λ (k : ℕ). CoreRules (top_of algorithm n) n i (with_line k c)) e rules

  line_ok_lem : (k : ℕ) → within first_line last_line k ≡ true → line_ok n i k ≡ true
  unfolding line_ok
  line_ok_lem k h = rw (le-leb i n) h

  still : (stop : Stop) → KeptCore algorithm n i (refuses stop s c)
  still stop = record { rules = rules; x = x }

  moved : {to : Core} → CoreRules (top_of algorithm n) n i to → KeptCore algorithm n i (moves s.x to)
  moved k = record { rules = k; x = x }

  line1_keeps : c.line ≡ 1 → KeptCore algorithm n i (line1 s c)
  unfolding index_ok choosing_ok token_ok pivot_ok
  line1_keeps e =
      let k = rules_at e in
      let index = within_yes 1 n 1 (omega arith) some in
      moved (record { line = line_ok_lem 2 refl; index = index; choosing = refl; token = k.token; pivot = k.pivot })

  line2_keeps : c.line ≡ 2 → KeptCore algorithm n i (line2 n s c)
  unfolding line2 index_ok choosing_ok token_ok pivot_ok
  line2_keeps e =
      let k = rules_at e in
      let j = c.index in
      rw e
      (by_test (KeptCore algorithm n i) (eqb j n)
      (λ t. moved (record { line = line_ok_lem 3 refl; index = refl; choosing = k.choosing; token = k.token; pivot = k.pivot }))
      (λ t. moved
      (record {
        line = line_ok_lem 2 refl;
        index = within_yes 1 n (j + 1) (omega arith) (omega (arith, within_high 1 n j k.index, eqb-false j n t));
        choosing = k.choosing;
        token = k.token;
        pivot = k.pivot;
      })))

  line3_keeps : c.line ≡ 3 → KeptCore algorithm n i (line3 s c)
  unfolding index_ok choosing_ok token_ok pivot_ok
  line3_keeps e =
      let k = rules_at e in
      moved (record { line = line_ok_lem 4 refl; index = k.index; choosing = k.choosing; token = k.token; pivot = x })

  line4_keeps : c.line ≡ 4 → KeptCore algorithm n i (line4 algorithm next s c)
  unfolding line4 index_ok choosing_ok token_ok pivot_ok
  line4_keeps e =
      let k = rules_at e in
      by_test (KeptCore algorithm n i) (is_above_limit algorithm next)
      (λ _. still above_token_limit)
      (λ t. moved
      (record { line = line_ok_lem 5 refl; index = k.index; choosing = k.choosing; token = given e t; pivot = refl }))

  -- a row that could stand at line 8 goes on to it, or to another process first
  goes_on_keeps : (j : ℕ) (from : Core) → CoreRules (top_of algorithm n) n i (with_line 8 (with_index 0 from))
      → KeptCore algorithm n i (moves s.x (goes_on n i j from))
  unfolding goes_on index_ok choosing_ok token_ok pivot_ok
  goes_on_keeps j from last =
      let other = next_other_lem i j in
      by_test (λ (to : Core). KeptCore algorithm n i (moves s.x to)) (leb (next_other i j) n)
      (λ t. moved
      (record {
        line = line_ok_lem 6 refl;
        index = and_both (and_both (le-leb 1 (next_other i j) other.0) t) (rw (ne_eqb (next_other i j) i other.1));
        choosing = last.choosing;
        token = last.token;
        pivot = last.pivot;
      }))
      (λ _. moved last)

  line5_keeps : c.line ≡ 5 → KeptCore algorithm n i (line5 n i s c)
  unfolding line5 index_ok choosing_ok token_ok pivot_ok
  line5_keeps e =
      let k = rules_at e in
      goes_on_keeps 0 (with_choosing 0 c)
      (record { line = line_ok_lem 8 refl; index = refl; choosing = refl; token = k.token; pivot = k.pivot })

  line6_keeps : c.line ≡ 6 → KeptCore algorithm n i (line6 s c)
  unfolding line6 index_ok choosing_ok token_ok pivot_ok
  line6_keeps e =
      let k = rules_at e in
      by_test (KeptCore algorithm n i) (eqb s.choosing 0)
      (λ _. moved (record { line = line_ok_lem 7 refl; index = k.index; choosing = k.choosing; token = k.token; pivot = k.pivot }))
      (λ _. still no_refusal)

  line7_keeps : c.line ≡ 7 → KeptCore algorithm n i (line7 algorithm n i s c)
  unfolding line7 index_ok choosing_ok token_ok pivot_ok
  line7_keeps e =
      let k = rules_at e in
      by_test (KeptCore algorithm n i) (passes algorithm n i s c)
      (λ _. goes_on_keeps c.index c
      (record { line = line_ok_lem 8 refl; index = refl; choosing = k.choosing; token = k.token; pivot = k.pivot }))
      (λ _. still no_refusal)

  line8_keeps : c.line ≡ 8 → KeptCore algorithm n i (line8 c)
  unfolding index_ok choosing_ok token_ok pivot_ok
  line8_keeps e =
      let k = rules_at e in
      record {
        rules = record { line = line_ok_lem 9 refl; index = k.index; choosing = k.choosing; token = k.token; pivot = k.pivot };
        x = k.token;
      }

  line9_keeps : c.line ≡ 9 → KeptCore algorithm n i (line9 s c)
  unfolding index_ok choosing_ok token_ok pivot_ok
  line9_keeps e =
      let k = rules_at e in
      moved (record { line = line_ok_lem 10 refl; index = k.index; choosing = k.choosing; token = k.token; pivot = k.pivot })

  line10_keeps : c.line ≡ 10 → KeptCore algorithm n i (line10 s c)
  unfolding index_ok choosing_ok token_ok pivot_ok
  line10_keeps e =
      let k = rules_at e in
      moved (record { line = line_ok_lem 1 refl; index = k.index; choosing = k.choosing; token = refl; pivot = k.pivot })

  -- the step, whatever the line
  pub core_keeps : KeptCore algorithm n i (any_line algorithm n i next s c)
  core_keeps =
      by_line algorithm n i next s c (KeptCore algorithm n i)
      (record {
        at1 = line1_keeps;
        at2 = line2_keeps;
        at3 = line3_keeps;
        at4 = line4_keeps;
        at5 = line5_keeps;
        at6 = line6_keeps;
        at7 = line7_keeps;
        at8 = line8_keeps;
        at9 = line9_keeps;
        at10 = line10_keeps;
        elsewhere = λ _. still no_refusal;
      })
