-- `put_bakery` meets its contract.
use Rattle.listing.specs.Text.{ascii, numbered, numbered_line}
use Rattle.listing.specs.Listing.{bakery_line}
use Rattle.listing.proofs.Writes.{and_then}
use Rattle.listing.proofs.put_bakery.Goals as goal

pub returns : goal.returns
unfolding bakery_line numbered_line numbered ascii
returns c = and_then (rw c.from.ensures at c.put_number.ensures) (rw c.from-2.ensures at c.put_line.ensures)
