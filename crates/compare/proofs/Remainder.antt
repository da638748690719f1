-- Source 002's f, by the sign of the number: what the code answers is what the definition says.
use Prim.Native.Nat.{ℕ, ◌%◌, ◌<◌}
use mathlib.Core.Path.{◌≡◌, refl}
use mathlib.Core.Bool.{true, false, true≢false}
use native.Mathlib.Omega.{arith}
use borrow.Author.Tests.{ltb-true}
use lib.IntN.{ℤ, pos, negsuc, nat_abs}
use lib.Signed.{lt_z}
use mir.Syntax.{w32}
use mir.Val.{SFits, to_z}
use Rattle.std.proofs.lemmas.Int.{to_z_pos}
use Rattle.fields.specs.Numbers.{none}
use Rattle.demands.specs.Agreement.{f}

pub below_zero : (m : ℕ) (v : ℤ) → lt_z v (pos 0) ≡ true → none ≡ f m v
unfolding f
below_zero m (pos v) e = let h : v < 0 = ltb-true v 0 e in absurd (omega arith)
below_zero m (negsuc v) e = refl

pub from_zero : (m : ℕ) (v : ℤ) → 0 < m → SFits w32 v → lt_z v (pos 0) ≡ false → to_z w32 (nat_abs v % m) ≡ f m v
unfolding f
from_zero m (pos v) some fits e = to_z_pos w32 (v % m) (omega (arith, fits.sfits))
from_zero m (negsuc v) some fits e = absurd (true≢false e)
