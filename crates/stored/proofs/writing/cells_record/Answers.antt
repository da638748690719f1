-- `cells_record` meets its contract. The loop's invariant: the opening and the cells passed are written.
use Prim.Native.Nat.{◌+◌, ◌-◌}
use mathlib.Core.Path.{◌≡◌, refl, sym, ◌∙◌}
use native.Mathlib.Omega.{arith}
use borrow.Author.Rules.{rules}
use lib.IntN.{pos}
use lib.ListN.{get_or}
use Rattle.std.proofs.lemmas.List.{take_all}
use Rattle.std.proofs.lemmas.Slice.{take-put_mid, overwrites}
use Rattle.laws.specs.InTurn.{in_turn}
use Rattle.laws.proofs.InTurn.{turn_more}
use Rattle.fields.specs.Numbers.{slots}
use Rattle.stored.specs.Form.{cells_record, cells_length}
use Rattle.stored.proofs.Numbers.{library_bytes}
use Rattle.stored.proofs.writing.cells_record.Invariants.{cell_bytes}
use Rattle.stored.proofs.writing.cells_record.Goals as goal

pub loop-k-init : goal.loop-k-init
unfolding in_turn
loop-k-init c = (refl, refl)

pub loop-k-preserved : goal.loop-k-preserved
loop-k-preserved c =
    let k = c.loop-k.k in
    let cells = c.args.row.cells in
    let bytes = c.copy_from_slice.ensures.after ∙ library_bytes (get_or cells k (pos 0)) (search rules) c.to_le_bytes.ensures in
    let off : k + 1 - 1 ≡ k = omega arith in (
      search (rules, overwrites),
      take-put_mid _ _ c.loop-k.record c.copy_from_slice.new.self _ (omega arith) (omega arith)
          ∙ rw (c.loop-k.invariant.1, bytes, turn_more (cell_bytes cells) k, off),
    )

pub returns : goal.returns
unfolding cells_record
returns c =
    let done : c.loop-k.k ≡ slots = omega arith in
    sym (take_all cells_length c.loop-k.record (omega arith)) ∙ rw done at c.loop-k.invariant.1
