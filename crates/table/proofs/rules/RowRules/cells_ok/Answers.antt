-- `cells_ok` meets its contract: the chain asks the rule of cell k + 1 for each k.
use Rattle.std.proofs.Common.{rules, ◌∙◌, refl, ◌+◌}
use Rattle.std.proofs.lemmas.Iterator.{YieldsList-from_range}
use Rattle.std.proofs.lemmas.Iterator.Search.{all_from_yields_List}
use Rattle.laws.proofs.Chains.{every_listed}
use Rattle.fields.specs.Numbers.{slots}
use Rattle.table.specs.WellFormed.{cell_rule, cells_ok}
use Rattle.table.proofs.rules.RowRules.cells_ok.Goals as goal

pub returns : goal.returns
unfolding cells_ok
returns c =
    all_from_yields_List (λ k. cell_rule c.args.self.top.0 c.args.self.n c.args.self.i c.args.r (k + 1)) _ _ _ c.all.ensures.ran
    (YieldsList-from_range 0 slots slots refl refl) (λ x b q k. search rules)
    ∙ every_listed _ slots
