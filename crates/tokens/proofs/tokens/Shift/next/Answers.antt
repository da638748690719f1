-- `Shift::next` meets its contract.
use Rattle.std.proofs.Common.{rules, ◌≡◌, map, fold, w32, SFits}
use Rattle.std.specs.Int.{int_max}
use Rattle.std.proofs.lemmas.Int.{to_z-of_z}
use Rattle.tokens.specs.Tokens.{next_b, shifted_cell}
use Rattle.tokens.proofs.Largest.{largest_fold}
use Rattle.tokens.proofs.tokens.Shift.next.Goals as goal

pub returns : goal.returns
unfolding next_b
returns c =
    let s = c.args.self in
    let f : c.fold.result ≡ fold int_max c.shifted-own.result (map (shifted_cell s.count.n s.pivot.0) c.args.cells.now) = search rules in
    let g : SFits w32 c.fold.result = search rules in
    rw (largest_fold, c.unshifted.ensures, to_z-of_z w32 c.fold.result g, f, c.shifted-own.ensures)
