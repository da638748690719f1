-- `Shift::unshifted` meets its contract: no sum of a few numbers of 32 bits wraps in 64.
use Rattle.std.proofs.Common.{arith}
use Rattle.std.proofs.lemmas.Int.{to_z-of_z}
use Rattle.tokens.proofs.tokens.Shift.unshifted.Goals as goal

pub returns : goal.returns
returns c = grind (arith, to_z-of_z)
