-- `cells_record` meets its contract. The loop's invariant: the opening and the cells passed are written.
use Prim.Native.Nat.{ℕ, ◌+◌, ◌-◌, ◌*◌}
use mathlib.Core.Path.{◌≡◌}
use mathlib.Core.List.{List, [], ◌∷◌, ◌++◌}
use lib.IntN.{ℤ, pos}
use lib.ListN.{length, get_or, take}
use Rattle.laws.specs.InTurn.{in_turn}
use Rattle.stored.specs.FourBytes.{four_bytes}
use Rattle.stored.specs.Form.{cells_kind, cells_length}
use Rattle.stored.proofs.writing.cells_record.Given as goal

-- the bytes of read cell j
abbrev pub cell_bytes : List ℤ → ℕ → List ℕ
cell_bytes cells j = four_bytes (get_or cells (j - 1) (pos 0))

abbrev pub invariant-loop-k : goal.invariant-loop-k
invariant-loop-k l =
    (length l.record ≡ cells_length)
    × (take (2 + 4 * l.k) l.record ≡ (cells_kind ∷ l.process ∷ []) ++ in_turn (cell_bytes l.cell-items) l.k)
