-- `put_counts` meets its contract.
use Rattle.listing.specs.Text.{ascii, numbered, numbered_line}
use Rattle.listing.specs.Listing.{counts_line}
use Rattle.listing.proofs.Writes.{and_then}
use Rattle.listing.proofs.put_counts.Goals as goal

pub returns : goal.returns
unfolding counts_line numbered_line numbered ascii
returns c =
    and_then (and_then (and_then (and_then c.put_number.ensures c.put_number-2.ensures) c.put_number-3.ensures) c.put_number-4.ensures)
    (rw (c.from.ensures, c.stop_number.ensures) at c.put_line.ensures)
