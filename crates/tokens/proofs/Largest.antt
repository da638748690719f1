-- The largest of some numbers, as a fold by the larger of two.
use mathlib.Core.Path.{◌≡◌, refl}
use mathlib.Core.List.{List, [], ◌∷◌}
use native.Mathlib.Omega.{arith}
use lib.IntN.{ℤ}
use Rattle.std.specs.Int.{int_max}
use Rattle.std.specs.List.{fold}
use Rattle.std.proofs.lemmas.Int.{ints}
use Rattle.tokens.specs.Tokens.{larger, largest}

larger_max : (v w : ℤ) → larger v w ≡ int_max v w
larger_max v w = grind (arith, ints)

pub largest_fold : (v : ℤ) (ws : List ℤ) → largest v ws ≡ fold int_max v ws
unfolding largest
largest_fold v [] = refl
largest_fold v (w ∷ ws) = rw (larger_max v w) (largest_fold (int_max v w) ws)
