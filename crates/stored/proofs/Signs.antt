-- The bits of a signed number, and the number of some bits: of one below 0, how far it is from -1.
use Prim.Native.Nat.{ℕ, suc, ◌-◌, ◌<◌, ◌^◌}
use mathlib.Core.Path.{◌≡◌}
use native.Mathlib.Omega.{arith}
use lib.IntN.{ℤ, pos, negsuc}
use mir.Syntax.{w32}
use mir.Val.{SFits}
use Rattle.stored.specs.FourBytes.{all_bits, bits_of}

-- how far some bits are from those of -1, as the prover's own reading of signed bits counts it
pub below_zero : (bits : ℕ) → 2 ^ 32 - suc bits ≡ all_bits - bits
below_zero bits = omega arith

-- and how far that is from them again: the bits themselves
pub back_again : (bits : ℕ) → bits < 2 ^ 32 → all_bits - (all_bits - bits) ≡ bits
back_again bits h = omega arith

-- the bits fit
pub bits_fit : (z : ℤ) → SFits w32 z → bits_of z < 2 ^ 32
bits_fit (pos a) f = omega (arith, f.sfits)
bits_fit (negsuc a) f = omega arith
