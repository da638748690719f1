-- Every table that code holds is sized, since owning an array says how many elements it has: what the laws ask of a table's sizes is no
-- premise of a call. At a parameter t of a function it is `held_sized c.args.t _ c.well_formed.0`.
use Prim.Native.Nat.{ℕ, zero, suc, ◌-◌, ◌<◌}
use mathlib.Core.Path.{◌≡◌}
use mathlib.Core.List.{List, [], ◌∷◌}
use native.Mathlib.Omega.{arith}
use native.Mathlib.Nat.{not-suc-le-zero, le_of_suc-le-suc}
use lib.ListN.{length, get_or}
use base.Fml.{Fml}
use mir.Val.{Val}
use denote.Array.{each}
use denote.Shadow.{shadow}
use Rattle.fields.specs.Numbers.{slots}
use Rattle.table.specs.WellFormed.{no_row}
use Rattle.table.specs.Sized.{Sized}
use Rattle.table.specs.declared.Row.{Row}
use Rattle.table.specs.declared.Table.{Table}
use Rattle.table.specs.contracts.Row as row_type
use Rattle.table.specs.contracts.Table as table_type

-- what owning an element says holds of each element of a list that is owned
module _ {X : Type 0} (own : X → List Val → Fml) (P : X → Type 0) (one : (x : X) (vs : List Val) → shadow (own x vs) → P x) where
  each_at : (xs : List X) (us : List Val) → shadow (each X own xs us) → (i : ℕ) (d : X) → i < length xs → P (get_or xs i d)
  each_at [] us s i d h = absurd (not-suc-le-zero h)
  each_at (x ∷ xs) [] s i d h = absurd s
  each_at (x ∷ xs) (u ∷ us) s zero d h = one x (u ∷ []) s.0
  each_at (x ∷ xs) (u ∷ us) s (suc i) d h = each_at xs us s.1 i d (le_of_suc-le-suc h)

row_sized : (r : Row) (vs : List Val) → shadow ((row_type.the_row).own_val r vs) → length r.cells ≡ slots
row_sized r vs s = s.1.1.1.0.1.0.1

pub held_sized : (t : Table) (vs : List Val) → shadow ((table_type.the_row).own_val t vs) → Sized t
held_sized t vs s =
    let rows = s.1.1.1.1.1.0 in
    let count : length t.rows ≡ slots = rows.1.0.1 in
    record {
      rows = count;
      cells = λ i l h. each_at (row_type.the_row).own_val (λ (r : Row). length r.cells ≡ slots) row_sized
          t.rows rows.0 rows.1.1 (i - 1) no_row (omega arith);
    }
