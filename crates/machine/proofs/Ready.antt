-- A process of a well-formed table has what the private functions of a step ask.
use Prim.Native.Nat.{ℕ, ◌-◌, ◌<◌, ◌≤◌}
use mathlib.Core.Path.{◌≡◌}
use mathlib.Core.Bool.{true}
use native.Mathlib.Omega.{arith}
use lib.ListN.{get_or}
use Rattle.laws.specs.Tests.{within}
use Rattle.laws.proofs.Tests.{within_low, within_high}
use Rattle.fields.specs.Numbers.{slots}
use Rattle.table.specs.WellFormed.{row_of, no_row, well_formed}
use Rattle.table.specs.declared.Table.{Table}
use Rattle.table.proofs.WellFormed.{table_rules, line_range, index_range}
use Rattle.machine.specs.Ready.{Ready}

pub ready : (t : Table) (i : ℕ) → well_formed t ≡ true → within 1 t.n i ≡ true → (i ≤ slots) × Ready t.n (row_of t i).core
ready t i w p =
    let rules = table_rules t w in
    let low = within_low 1 t.n i p in
    let high = within_high 1 t.n i p in
    let index = index_range t.n i _ _ (rules.rows i low (omega arith)).core.index in
    let line = line_range t.n i _ (rules.rows i low (omega arith)).core.line in
    (omega arith, record { count = record { some = rules.some; most = rules.most }; index = omega arith; line = line })

-- so has the row at its place
pub ready_at : (t : Table) (i p : ℕ) → well_formed t ≡ true → within 1 t.n i ≡ true → p ≡ i - 1
    → (p < slots) × Ready t.n (get_or t.rows p no_row).core
ready_at t i p w h e =
    let r = ready t i w h in
    (omega (arith, e, r.0, within_low 1 t.n i h), rw e r.1)
