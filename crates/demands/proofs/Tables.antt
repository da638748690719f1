-- A table of one machine for n processes: as a fresh one is, and as a step leaves it.
use Prim.Native.Nat.{ℕ, ◌≤◌}
use mathlib.Core.Path.{◌≡◌, refl, ◌∙◌}
use mathlib.Core.Bool.{true}
use native.Mathlib.Omega.{arith}
use Rattle.fields.specs.Numbers.{slots}
use Rattle.fields.specs.Rules.{algorithm_ok, count_ok}
use Rattle.table.specs.WellFormed.{well_formed}
use Rattle.table.specs.Fresh.{fresh_table}
use Rattle.table.specs.Sized.{Sized}
use Rattle.table.specs.declared.Table.{Table}
use Rattle.table.proofs.WellFormed.{table_rules, fresh_well_formed, fresh_sized}
use Rattle.machine.specs.Step.{step_of}
use Rattle.machine.proofs.Steps.{step_machine, step_well_formed, step_sized}

-- it is well formed, and has all its rows and cells
pub record TableFor (algorithm n : ℕ) (t : Table) : Type 0 where
  pub formed : well_formed t ≡ true
  pub sized : Sized t
  pub machine : t.algorithm ≡ algorithm
  pub count : t.n ≡ n

-- a fresh one, and one that a step leaves
pub fresh_table_for : (algorithm n : ℕ) → algorithm_ok algorithm ≡ true → count_ok n ≡ true → TableFor algorithm n (fresh_table algorithm n)
fresh_table_for algorithm n known c =
    record { formed = fresh_well_formed algorithm n known c; sized = fresh_sized algorithm n; machine = refl; count = refl }

pub step_table_for : {algorithm n : ℕ} (t : Table) (i : ℕ) → TableFor algorithm n t → TableFor algorithm n (step_of t i).table
step_table_for t i for =
    record {
      formed = step_well_formed t i for.formed for.sized;
      sized = step_sized t i for.sized;
      machine = (step_machine t i).0 ∙ for.machine;
      count = (step_machine t i).1 ∙ for.count;
    }

-- n is 1 to 16
module _ {algorithm n : ℕ} {t : Table} (for : TableFor algorithm n t) where
  pub some_process : 1 ≤ n
  some_process = omega (arith, for.count, (table_rules t for.formed).some)

  pub in_table : {i : ℕ} → i ≤ n → i ≤ slots
  in_table high = omega (arith, for.count, (table_rules t for.formed).most)
