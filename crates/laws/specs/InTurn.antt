-- Pieces of a list, one after another.
use Rattle.std.specs.Prelude.{ℕ, zero, suc, List, [], ◌++◌}

-- the pieces 1 to k, one after another
unfoldable pub in_turn : {A : Type 0} → (ℕ → List A) → ℕ → List A
in_turn f zero = []
in_turn f (suc k) = in_turn f k ++ f (suc k)
