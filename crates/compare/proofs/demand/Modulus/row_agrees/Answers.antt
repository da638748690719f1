-- `row_agrees` meets its contract: its chain over the cells is `every` of the definition.
use Rattle.std.proofs.Common.{rules, tests, ◌≡◌, ◌∙◌, ℤ, pos}
use Rattle.std.proofs.lemmas.Iterator.{YieldsList-from_slice, YieldsList-from_zip}
use Rattle.std.proofs.lemmas.Iterator.Search.{all_from_yields_List}
use Rattle.laws.specs.Tests.{every}
use Rattle.fields.specs.Numbers.{slots}
use Rattle.demands.specs.Agreement.{is_remainder, cell_agrees, row_agrees}
use Rattle.laws.proofs.Chains.{all_is_every}
use Rattle.compare.proofs.demand.Modulus.row_agrees.Goals as goal

pub returns-then-is_remainder-2 : goal.returns-then-is_remainder-2
unfolding row_agrees cell_agrees
returns-then-is_remainder-2 c =
    let m = c.args.self.m in
    let u = c.args.unbounded.now in
    let b = c.args.bounded.now in
    let cells : c.all.result ≡ every (cell_agrees m u b) slots =
    all_from_yields_List (λ (p : ℤ × ℤ). is_remainder m p.0 p.1) c.all.new.self _ c.all.result c.all.ensures.ran
    (YieldsList-from_zip (YieldsList-from_slice u.cells cc) (YieldsList-from_slice b.cells cc)) (λ x b q k. search (rules, tests))
    ∙ all_is_every (is_remainder m) u.cells b.cells (pos 0) slots (search rules) (search rules) in
    search rules

pub returns-else-is_remainder-2 : goal.returns-else-is_remainder-2
unfolding row_agrees
returns-else-is_remainder-2 c = search rules
