-- The laws of pieces one after another: one piece more, and how long they are together.
use Prim.Native.Nat.{ℕ, zero, suc, ◌+◌, ◌*◌}
use mathlib.Core.Path.{◌≡◌, ◌∙◌}
use mathlib.Core.List.{List, ◌++◌}
use native.Mathlib.Omega.{arith}
use native.Mathlib.Nat.{mul-suc}
use native.Mathlib.Numerals.{add-one}
use lib.ListN.{length, length-append}
use Rattle.laws.specs.InTurn.{in_turn}

-- one piece more
pub turn_more : {A : Type 0} (f : ℕ → List A) (k : ℕ) → in_turn f (k + 1) ≡ in_turn f k ++ f (k + 1)
unfolding in_turn
turn_more f k = rw (add-one k)

-- pieces of one length
module _ {A : Type 0} (f : ℕ → List A) (m : ℕ) (each : (i : ℕ) → length (f i) ≡ m) where
  pub turn_length : (k : ℕ) → length (in_turn f k) ≡ m * k
  unfolding in_turn
  turn_length zero = omega arith
  turn_length (suc k) = length-append (in_turn f k) (f (suc k)) ∙ rw (turn_length k, each (suc k), mul-suc m k)
