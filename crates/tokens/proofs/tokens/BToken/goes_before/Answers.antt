-- `BToken::goes_before` meets its contract.
use Rattle.std.proofs.Common.{arith, ◌≡◌, ◌∙◌, ap, ℤ, ◌-ℤ◌}
use Rattle.std.proofs.lemmas.Int.{ints}
use Rattle.fields.specs.Numbers.{modulus_of}
use Rattle.tokens.specs.Tokens.{remainder, before_b}
use Rattle.tokens.proofs.tokens.BToken.goes_before.Goals as goal

pub returns : goal.returns
unfolding before_b
returns c =
    let a = c.args in
    let d : c.remainder-d.result ≡ remainder (a.other.0 -ℤ a.self.0) (modulus_of a.count.n) =
    c.remainder-d.ensures ∙ ap (λ (z : ℤ). remainder z (modulus_of a.count.n)) (omega (arith, ints)) in
    rw d
