-- `rows_ok` meets its contract: the chain asks the rules of row k + 1 for each k.
use Rattle.std.proofs.Common.{rules, ◌∙◌, refl, ◌+◌}
use Rattle.std.proofs.lemmas.Iterator.{YieldsList-from_range}
use Rattle.std.proofs.lemmas.Iterator.Search.{all_from_yields_List}
use Rattle.laws.proofs.Chains.{every_listed}
use Rattle.fields.specs.Numbers.{slots}
use Rattle.table.specs.WellFormed.{row_rule, rows_ok}
use Rattle.table.proofs.rules.rows_ok.Goals as goal

pub returns : goal.returns
unfolding rows_ok
returns c =
    all_from_yields_List (λ k. row_rule c.args.top.0 c.args.t (k + 1)) _ _ _ c.all.ensures.ran
    (YieldsList-from_range 0 slots slots refl refl) (λ x b q k. search rules)
    ∙ every_listed _ slots
