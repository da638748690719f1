-- Tokens, and the two operations on them in which the machines differ: the next token, and who goes before.
--
-- n is `suc others`: each process has `others` others. So n - 1 is `others`, 2n - 1 is `modulus others`, and nothing is subtracted from n.
use Prim.Native.Nat.{ℕ, zero, suc, ◌+◌, ◌-◌, ◌%◌, ◌≤◌, max}
use mathlib.Core.Bool.{Bool, ◌&&◌, ◌||◌}
use mathlib.Core.Path.{◌≡◌}
use native.Mathlib.Omega.{arith}
use lib.Dec.{ltb, eqb}
use Rattle.laws.specs.Tests.{within}
use Rattle.theory.proofs.Counting.{largest}

-- In this proof a token is carried as the number one above it, and none as 0, because the prover's arithmetic reads natural numbers and
-- -1 is not one. Order and distance come out the same, so the clauses of the invariant can be read as of the tokens themselves. No theorem
-- shows it: they say `none` and `held v`.
abbrev pub Token : Type 0
Token = ℕ

abbrev pub none : Token
none = 0

-- the token v
abbrev pub held : ℕ → Token
held v = suc v

-- a token, and not none
abbrev pub IsHeld : Token → Type 0
IsHeld t = 1 ≤ t

-- the number v of a held token
abbrev pub number_of : Token → ℕ
number_of t = t - 1

pub number_of_held : (v : ℕ) → number_of (held v) ≡ v
number_of_held v = omega arith

-- 2n - 1
abbrev pub modulus : ℕ → ℕ
modulus others = suc (others + others)

-- source 002's f: none for none, and the remainder modulo 2n - 1 of a token
abbrev pub reduced : ℕ → Token → Token
reduced others zero = none
reduced others (suc v) = held (v % modulus others)

-- a machine, by what it does with tokens: the next one after a pivot and the cells 1 to n, and whether process i with one token goes before
-- process j with another
pub record Machine : Type 0 where
  pub next : Token → (ℕ → Token) → Token
  pub goes_before : ℕ → Token → ℕ → Token → Bool

-- UB-Bakery: one more than the largest of the pivot and the cells, and source 002's order [t, i] < [u, j]
unfoldable pub next_unbounded : ℕ → Token → (ℕ → Token) → Token
next_unbounded others pivot cell = suc (max pivot (largest cell (suc others)))

unfoldable pub before_unbounded : ℕ → Token → ℕ → Token → Bool
before_unbounded i t j u = ltb t u || eqb t u && ltb i j

abbrev pub unbounded_machine : ℕ → Machine
unbounded_machine others = record { next = next_unbounded others; goes_before = before_unbounded }

-- B-Bakery, on remainders modulo M. (v + n - 1 - p) mod M, where p is below M: of 2n - 1 numbers p is at the middle, n - 1 on either side
-- of it.
abbrev pub shift : ℕ → ℕ → ℕ → ℕ → ℕ
shift M others p v = (v + others + (M - p)) % M

unfoldable pub shifted : ℕ → ℕ → ℕ → Token → Token
shifted M others p zero = none
shifted M others p (suc v) = held (shift M others p v)

-- the largest of the shifted pivot and cells, shifted back, and one more: (m + p - n + 2) mod M, with M added before
unfoldable pub next_bounded : ℕ → ℕ → Token → (ℕ → Token) → Token
next_bounded M others pivot cell =
    let p = number_of pivot in
    let m = max (shifted M others p pivot) (largest (λ k. shifted M others p (cell k)) (suc others)) in
    held ((number_of m + p + (M - suc others) + 2) % M)

-- how far w is ahead of v, going round: (w - v) mod M, where v is below M
abbrev pub ahead : ℕ → ℕ → ℕ → ℕ
ahead M v w = (w + (M - v)) % M

-- source 002's [t, i] ≺ [u, j], where both tokens are shifted by n - 1 - t: u's is then the larger where u is 1 to n - 1 ahead of t
unfoldable pub before_bounded : ℕ → ℕ → ℕ → Token → ℕ → Token → Bool
before_bounded M others i t j u =
    let d = ahead M (number_of t) (number_of u) in
    within 1 others d || eqb d 0 && ltb i j

-- the machine on remainders modulo M; B-Bakery is the one modulo 2n - 1
abbrev pub machine_modulo : ℕ → ℕ → Machine
machine_modulo M others = record { next = next_bounded M others; goes_before = before_bounded M others }

abbrev pub bounded_machine : ℕ → Machine
bounded_machine others = machine_modulo (modulus others) others
