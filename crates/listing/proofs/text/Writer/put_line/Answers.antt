-- `Writer::put_line` meets its contract.
use Rattle.listing.specs.Text.{ascii, line_feed}
use Rattle.listing.proofs.Writes.{and_then}
use Rattle.listing.proofs.text.Writer.put_line.Goals as goal

pub returns : goal.returns
unfolding line_feed ascii
returns c = and_then c.put_number.ensures c.put.ensures
