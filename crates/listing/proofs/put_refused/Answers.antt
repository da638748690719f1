-- `put_refused` meets its contract.
use Rattle.std.specs.Prelude.{Some}
use Rattle.listing.specs.Text.{ascii, numbered, numbered_line}
use Rattle.listing.specs.Listing.{refused_line}
use Rattle.listing.proofs.Lengths.{refused_short}
use Rattle.listing.proofs.Writes.{from_start}
use native.Mathlib.Omega.{arith}
use borrow.Author.Rules.{rules}
use Rattle.listing.proofs.put_refused.Goals as goal

pub put_line-requires : goal.put_line-requires
unfolding refused_line numbered_line numbered ascii
put_line-requires c =
    rw (c.from.ensures, c.number.ensures, c.new-out.ensures.empty) (omega (arith, refused_short (Some c.args.refusal)))

pub returns : goal.returns
unfolding refused_line numbered_line numbered ascii
returns c =
    let line = rw (c.from.ensures, c.number.ensures) at c.put_line.ensures in
    let short = refused_short (Some c.args.refusal) in
    record {
      written = from_start c.new-out.ensures.unchanged c.new-out.ensures.empty line (search rules) c.finish.ensures.len;
      fits = omega (arith, line.written.place, short);
    }
