-- Every number that keeps its rule in a table is one of 32 bits: it is -1 to T.
use Prim.Native.Nat.{ℕ, ◌≤◌}
use mathlib.Core.Path.{◌≡◌}
use mathlib.Core.Bool.{Bool, true, false≢true}
use native.Mathlib.Omega.{arith}
use borrow.Author.Tests.{leb-true}
use lib.Dec.{leb, eqb}
use lib.IntN.{ℤ, pos, negsuc}
use mir.Syntax.{w32}
use mir.Val.{SFits}
use Rattle.laws.specs.Tests.{within, withinℤ}
use Rattle.laws.proofs.Tests.{by_test, and_halves}
use Rattle.fields.specs.Numbers.{slots, none, is_none, unbounded, token_limit, limit_of, top_of}
use Rattle.fields.specs.Rules.{x_ok, token_ok, pivot_ok, cell_ok}
use Rattle.table.proofs.WellFormed.{is_none_lem}

none_fits : (v : ℤ) → is_none v ≡ true → SFits w32 v
none_fits v e = rw (is_none_lem v e) (record { sfits = omega arith })

module _ (algorithm n : ℕ) (few : n ≤ slots) where
  limit_small : limit_of algorithm n ≤ token_limit
  unfolding limit_of
  limit_small = by_test (λ (limit : ℕ). limit ≤ token_limit) (eqb algorithm unbounded) (λ _. omega arith) (λ _. omega arith)

  from_none_fits : (v : ℤ) → withinℤ none (top_of algorithm n) v ≡ true → SFits w32 v
  from_none_fits (pos a) e = record { sfits = omega (arith, limit_small, leb-true a (limit_of algorithm n) e) }
  from_none_fits (negsuc a) e = record { sfits = omega (arith, leb-true a 0 (and_halves (leb a 0) true e).0) }

  from_zero_fits : (v : ℤ) → withinℤ (pos 0) (top_of algorithm n) v ≡ true → SFits w32 v
  from_zero_fits (pos a) e = from_none_fits (pos a) (and_halves (leb 0 a) (leb a (limit_of algorithm n)) e).1
  from_zero_fits (negsuc a) e = absurd (false≢true e)

  pub x_fits : (v : ℤ) → x_ok (top_of algorithm n) v ≡ true → SFits w32 v
  x_fits = from_zero_fits

  pub token_fits : (line : ℕ) (v : ℤ) → token_ok (top_of algorithm n) line v ≡ true → SFits w32 v
  unfolding token_ok
  token_fits line v =
      by_test (λ (ok : Bool). ok ≡ true → SFits w32 v) (within 1 4 line) (λ _. none_fits v) (λ _. from_zero_fits v)

  pub pivot_fits : (line : ℕ) (v : ℤ) → pivot_ok (top_of algorithm n) line v ≡ true → SFits w32 v
  unfolding pivot_ok
  pivot_fits line v =
      by_test (λ (ok : Bool). ok ≡ true → SFits w32 v) (eqb line 4) (λ _. from_zero_fits v) (λ _. none_fits v)

  pub cell_fits : (may : Bool) (v : ℤ) → cell_ok (top_of algorithm n) may v ≡ true → SFits w32 v
  unfolding cell_ok
  cell_fits may v = by_test (λ (ok : Bool). ok ≡ true → SFits w32 v) may (λ _. from_none_fits v) (λ _. none_fits v)
