-- `at_most_one` meets its contract.
use Rattle.std.proofs.Common.{rules, ◌≡◌, ℕ, ap, ◌∙◌}
use lib.Dec.{leb}
use Rattle.std.specs.List.{count_by}
use Rattle.fields.specs.Numbers.{slots}
use Rattle.table.specs.WellFormed.{no_row}
use Rattle.table.specs.declared.Row.{Row}
use Rattle.demands.specs.Agreement.{at_most_one, is_critical_line}
use Rattle.laws.proofs.Chains.{count_is_how_many}
use Rattle.compare.proofs.demand.at_most_one.Goals as goal

pub returns : goal.returns
unfolding at_most_one
returns c =
    let e : c.count.result ≡ count_by (λ (r : Row). is_critical_line r.core.line) c.args.t.rows = search rules in
    ap (λ (n : ℕ). leb n 1) (e ∙ count_is_how_many _ c.args.t.rows no_row slots (search rules))
