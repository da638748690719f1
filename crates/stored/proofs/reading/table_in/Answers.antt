-- `table_in` meets its contract.
use mathlib.Core.Path.{◌≡◌, ◌∙◌}
use native.Mathlib.Omega.{arith}
use mir.Syntax.{w32}
use mir.Val.{SFits}
use mir.Facts.{to_z-of_z}
use borrow.Author.Rules.{rules}
use Rattle.table.specs.Fresh.{fresh_row}
use Rattle.stored.specs.Fields.{count_in, row_in, table_in}
use Rattle.stored.proofs.Filled.{filled_none, filled_more}
use Rattle.stored.proofs.reading.table_in.Goals as goal

pub loop-k-init : goal.loop-k-init
loop-k-init c =
    let f : SFits w32 c.number_at.result.0 = search rules in
    rw (to_z-of_z f, c.number_at.ensures, c.fresh_table-t.ensures, filled_none (row_in c.args.form.now) fresh_row)

pub loop-k-preserved : goal.loop-k-preserved
loop-k-preserved c =
    rw (c.from.ensures, c.row_in.ensures, c.loop-k.invariant, filled_more (row_in c.args.form.now) fresh_row c.loop-k.k (omega arith))

pub returns : goal.returns
unfolding table_in
returns c =
    let all : c.loop-k.k ≡ count_in c.args.form.now = omega arith in
    c.loop-k.invariant ∙ rw all
