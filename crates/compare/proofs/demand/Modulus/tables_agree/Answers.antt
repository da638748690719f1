-- `tables_agree` meets its contract: its chain over the rows is `every` of the definition.
use Rattle.std.proofs.Common.{rules, tests, ◌≡◌, ◌∙◌}
use Rattle.std.proofs.lemmas.Iterator.{YieldsList-from_slice, YieldsList-from_zip}
use Rattle.std.proofs.lemmas.Iterator.Search.{all_from_yields_List}
use Rattle.laws.specs.Tests.{every}
use Rattle.fields.specs.Numbers.{slots}
use Rattle.table.specs.WellFormed.{no_row}
use Rattle.table.specs.declared.Row.{Row}
use Rattle.demands.specs.Agreement.{row_agrees, row_at_agrees, agree}
use Rattle.laws.proofs.Chains.{all_is_every}
use Rattle.compare.proofs.demand.Modulus.tables_agree.Goals as goal

pub returns-then-is_remainder : goal.returns-then-is_remainder
unfolding agree row_at_agrees
returns-then-is_remainder c =
    let m = c.args.self.m in
    let u = c.args.unbounded in
    let b = c.args.bounded in
    let rows : c.all.result ≡ every (row_at_agrees m u b) slots =
    all_from_yields_List (λ (p : Row × Row). row_agrees m p.0 p.1) c.all.new.self _ c.all.result c.all.ensures.ran
    (YieldsList-from_zip (YieldsList-from_slice u.rows cc) (YieldsList-from_slice b.rows cc)) (λ x b q k. search (rules, tests))
    ∙ all_is_every (row_agrees m) u.rows b.rows no_row slots (search rules) (search rules) in
    search rules

pub returns-else-is_remainder : goal.returns-else-is_remainder
unfolding agree
returns-else-is_remainder c = search rules
