-- `cells_in` meets its contract.
use mathlib.Core.Path.{sym}
use native.Mathlib.Omega.{arith}
use mir.Syntax.{w32}
use mir.Val.{SFits}
use mir.Facts.{to_z-of_z}
use borrow.Author.Rules.{rules}
use Rattle.fields.specs.Numbers.{none}
use Rattle.stored.specs.Fields.{cell_in}
use Rattle.stored.proofs.Filled.{filled_none, filled_more}
use Rattle.stored.proofs.reading.cells_in.Goals as goal

pub loop-k-init : goal.loop-k-init
loop-k-init c = sym (filled_none (cell_in c.args.records.now.form.now c.args.records.now.process) none)

pub loop-k-preserved : goal.loop-k-preserved
loop-k-preserved c =
    let f : SFits w32 c.number_at.result.0 = search rules in
    rw (to_z-of_z f, c.number_at.ensures, c.cell_place.ensures, c.loop-k.invariant)
    (filled_more (cell_in c.args.records.now.form.now c.args.records.now.process) none c.loop-k.k (omega arith))
