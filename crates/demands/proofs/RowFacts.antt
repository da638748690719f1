-- What the view of a row needs of the row's rules: that the line is one of ten, and that no number is below -1.
use Prim.Native.Nat.{ℕ}
use mathlib.Core.Path.{◌≡◌, refl}
use mathlib.Core.Bool.{Bool, true, false≢true}
use native.Mathlib.Omega.{arith}
use lib.Dec.{eqb}
use lib.IntN.{ℤ, pos, negsuc}
use lib.Signed.{le_z}
use Rattle.laws.specs.Tests.{within, withinℤ}
use Rattle.laws.proofs.Tests.{up_to_next, by_test, and_halves, within_low, within_high}
use Rattle.fields.specs.Numbers.{first_line, last_line, none, is_none}
use Rattle.fields.specs.Rules.{token_ok, pivot_ok, cell_ok}
use Rattle.table.proofs.WellFormed.{is_none_lem}

-- what holds of each of the ten lines holds of a line that is 1 to 10
pub each_line : (P : ℕ → Type 0) → P 1 → P 2 → P 3 → P 4 → P 5 → P 6 → P 7 → P 8 → P 9 → P 10
    → (line : ℕ) → within first_line last_line line ≡ true → P line
each_line P p1 p2 p3 p4 p5 p6 p7 p8 p9 p10 line e =
    (up_to_next P 9 (up_to_next P 8 (up_to_next P 7 (up_to_next P 6 (up_to_next P 5
    (up_to_next P 4 (up_to_next P 3 (up_to_next P 2 (up_to_next P 1 (up_to_next P 0
    (λ i low high. absurd (omega arith)) p1) p2) p3) p4) p5) p6) p7) p8) p9) p10)
    line (within_low first_line last_line line e) (within_high first_line last_line line e)

-- from -1 on: of such a number the view loses nothing
abbrev pub FromNone : ℤ → Type 0
FromNone v = le_z none v ≡ true

-- such is a number from 0 on, and one that is -1,
pub from_zero : (top v : ℤ) → withinℤ (pos 0) top v ≡ true → FromNone v
from_zero top (pos a) e = refl
from_zero top (negsuc a) e = absurd (false≢true e)

from_none : (v : ℤ) → is_none v ≡ true → FromNone v
from_none v e = rw (is_none_lem v e)

-- and so a token, a pivot and a cell that keep their rules
pub token_from_none : (top : ℤ) (line : ℕ) (v : ℤ) → token_ok top line v ≡ true → FromNone v
unfolding token_ok
token_from_none top line v =
    by_test (λ (ok : Bool). ok ≡ true → FromNone v) (within 1 4 line) (λ _. from_none v) (λ _. from_zero top v)

pub pivot_from_none : (top : ℤ) (line : ℕ) (v : ℤ) → pivot_ok top line v ≡ true → FromNone v
unfolding pivot_ok
pivot_from_none top line v =
    by_test (λ (ok : Bool). ok ≡ true → FromNone v) (eqb line 4) (λ _. from_zero top v) (λ _. from_none v)

pub cell_from_none : (top : ℤ) (may : Bool) (v : ℤ) → cell_ok top may v ≡ true → FromNone v
unfolding cell_ok
cell_from_none top may v =
    by_test (λ (ok : Bool). ok ≡ true → FromNone v) may
    (λ _ e. (and_halves (le_z none v) (le_z v top) e).0)
    (λ _. from_none v)
