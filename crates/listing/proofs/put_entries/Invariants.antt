-- the lines of the entries passed are written
use Rattle.std.proofs.Common.{take}
use Rattle.listing.specs.Writer.{Writes}
use Rattle.listing.specs.Listing.{entry_lines}
use Rattle.listing.proofs.put_entries.Given as goal

abbrev pub invariant-loop-process : goal.invariant-loop-process
invariant-loop-process l = Writes l.initial.out (entry_lines (take l.process-index l.entries)) l.out
