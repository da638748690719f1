-- `ProcessCount::remainder` meets its contract: a remainder below zero is raised by M.
use Rattle.std.proofs.Common.{rules, arith, w64, SFits}
use Rattle.std.proofs.lemmas.Int.{ints, to_z-of_z, rem_is}
use Rattle.fields.specs.Numbers.{modulus_of}
use Rattle.tokens.proofs.Remainder.{raised_rest, kept_rest}
use Rattle.tokens.proofs.tokens.ProcessCount.remainder.Goals as goal

pub returns-then-rest-lt0 : goal.returns-then-rest-lt0
returns-then-rest-lt0 c =
    let a = c.args in
    let f : SFits w64 c.from-modulus.result = search rules in
    let e = rem_is w64 a.number c.from-modulus.result c.ranges.number f in
    let below = rw (e, c.from-modulus.ensures) at c.if-rest-lt0.true in
    grind (arith, ints, to_z-of_z, e, raised_rest a.number (modulus_of a.self.n) (omega arith) below)

pub returns-else-rest-lt0 : goal.returns-else-rest-lt0
returns-else-rest-lt0 c =
    let a = c.args in
    let f : SFits w64 c.from-modulus.result = search rules in
    let e = rem_is w64 a.number c.from-modulus.result c.ranges.number f in
    let kept = rw (e, c.from-modulus.ensures) at c.if-rest-lt0.false in
    rw (e, c.from-modulus.ensures, kept_rest a.number (modulus_of a.self.n) (omega arith) kept)
