-- `Shift::shifted` meets its contract: no sum of a few numbers of 32 bits wraps in 64.
use Rattle.std.proofs.Common.{arith, ◌≡◌, ◌∙◌, ap, ℤ}
use Rattle.std.proofs.lemmas.Int.{ints}
use Rattle.fields.specs.Numbers.{modulus_of}
use Rattle.tokens.specs.Tokens.{remainder, shifted}
use Rattle.tokens.proofs.tokens.Shift.shifted.Goals as goal

pub returns : goal.returns
unfolding shifted
returns c =
    let s = c.args.self in
    let e : c.remainder.result ≡ shifted s.count.n s.pivot.0 c.args.v.0 =
    c.remainder.ensures ∙ ap (λ (z : ℤ). remainder z (modulus_of s.count.n)) (omega (arith, ints)) in
    omega (arith, ints)
