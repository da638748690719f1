-- `put_entries` meets its contract.
use Prim.Native.Nat.{◌+◌}
use native.Mathlib.Omega.{arith}
use mathlib.Core.Path.{refl}
use Rattle.listing.specs.Listing.{entry_lines}
use Rattle.listing.proofs.EntryLines.{lines_more, lines_room}
use Rattle.listing.proofs.Writes.{and_then, room_for_next}
use Rattle.listing.proofs.put_entries.Goals as goal

pub loop-process-init : goal.loop-process-init
unfolding entry_lines
loop-process-init c = record { same_reference = refl; written = record { place = omega arith; bytes = refl } }

pub put_entry-requires : goal.put_entry-requires
put_entry-requires c =
    let s = c.args.entries.now in
    let k = c.loop-process.process-index in
    let room = lines_room c.args.out.now.len s (k + 1) c.requires in
    room_for_next c.loop-process.invariant _ (rw (lines_more s k c.loop-process-test.true) at room)

pub loop-process-preserved : goal.loop-process-preserved
loop-process-preserved c =
    rw (lines_more c.args.entries.now c.loop-process.process-index c.loop-process-test.true)
    (and_then c.loop-process.invariant c.put_entry.ensures)
