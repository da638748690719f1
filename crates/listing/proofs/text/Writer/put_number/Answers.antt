-- `Writer::put_number` meets its contract.
use mathlib.Core.Path.{◌≡◌, ◌∙◌}
use Rattle.listing.specs.Text.{decimal}
use Rattle.listing.proofs.Decimals.{decimal_of_std}
use Rattle.listing.proofs.Writes.{and_then, room_for_next}
use Rattle.listing.proofs.text.Writer.put_number.Goals.{After-as_bytes}
use Rattle.listing.proofs.text.Writer.put_number.Goals as goal

its_digits : (c : After-as_bytes) → c.as_bytes.result.now ≡ decimal c.args.n
its_digits c = c.as_bytes.ensures.value ∙ c.format.ensures.text ∙ decimal_of_std c.args.n c.ranges.n.fits

pub put-requires-2 : goal.put-requires-2
put-requires-2 c =
    rw (its_digits (goal.at.put-requires-2 c).After-as_bytes) (room_for_next c.put.ensures (decimal c.args.n) c.requires)

pub returns : goal.returns
returns c = and_then c.put.ensures (rw (its_digits (goal.at.returns c).After-as_bytes) at c.put-2.ensures)
