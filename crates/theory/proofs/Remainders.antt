-- Lemmas 1 and 2 of source 002: on tokens that lie within n - 1 of the pivot, or of the token of the process that reads them, the bounded
-- machine's operations do with the remainders modulo 2n - 1 what the unbounded machine's do with the tokens.
use Prim.Native.Nat.{ℕ, zero, suc, ◌+◌, ◌-◌, ◌*◌, ◌/◌, ◌%◌, ◌≤◌, ◌<◌, max}
use mathlib.Core.Path.{◌≡◌, refl, sym, ap, ◌∙◌}
use native.Mathlib.Nat.{mod-lt, mod-eq_of_lt, add-mul-mod_self_right, div-add-mod'}
use native.Mathlib.Omega.{arith}
use borrow.Author.Tests.{le-leb, lt-leb, lt-ltb, le-ltb, eq-eqb, ne_eqb}
use Rattle.laws.proofs.Tests.{within_yes}
use Rattle.theory.proofs.Counting.{Process, earlier, last, by_comparison, largest}
use Rattle.theory.proofs.Tokens.{Token, held, number_of_held, modulus, reduced, shift, shifted, ahead, next_unbounded, next_bounded}
use Rattle.theory.proofs.Tokens.{before_unbounded, before_bounded}

-- v lies within n - 1 of p: in p - (n - 1) to p + (n - 1)
pub record Near (others p v : ℕ) : Type 0 where
  pub low : p ≤ v + others
  pub high : v ≤ p + others

-- numbers that multiples of m make equal have the same remainder
same_remainder : (m a b x y : ℕ) → x + a * m ≡ y + b * m → x % m ≡ y % m
same_remainder m a b x y e = sym (add-mul-mod_self_right x a m) ∙ ap (λ (z : ℕ). z % m) e ∙ add-mul-mod_self_right y b m

-- and one that is below m is that remainder
remainder_is : (m a b x y : ℕ) → y < m → x + a * m ≡ y + b * m → x % m ≡ y
remainder_is m a b x y small e = same_remainder m a b x y e ∙ mod-eq_of_lt small

-- a number is a multiple of the modulus and its remainder, which is below the modulus
divided : (others v : ℕ) → (v / modulus others * modulus others + v % modulus others ≡ v) × (v % modulus others < modulus others)
divided others v = (div-add-mod' v (modulus others), mod-lt v (omega arith))

-- What the bounded machine measures from v to w, on their remainders.
module _ (others v w : ℕ) where
  -- w shifted by n - 1 - v, which takes v to n - 1
  shift_is : Near others v w → shift (modulus others) others (v % modulus others) (w % modulus others) ≡ w + others - v
  shift_is near =
      let m = modulus others in
      remainder_is m (w / m) (suc (v / m)) _ _ (omega arith) (omega (arith, divided others v, divided others w))

  -- how far w is ahead of v, going round: where it is above it, as far as it is above it,
  pub ahead_if_above : v ≤ w → w ≤ v + others → ahead (modulus others) (v % modulus others) (w % modulus others) ≡ w - v
  ahead_if_above low high =
      let m = modulus others in
      remainder_is m (w / m) (suc (v / m)) _ _ (omega arith) (omega (arith, divided others v, divided others w))

  -- and where it is below it, the rest of the round
  ahead_if_below : w < v → v ≤ w + others → ahead (modulus others) (v % modulus others) (w % modulus others) ≡ w + modulus others - v
  ahead_if_below low high =
      let m = modulus others in
      remainder_is m (w / m) (v / m) _ _ (omega arith) (omega (arith, divided others v, divided others w))

-- the largest of three, by two of them at a time
max_of_three : (a b c : ℕ) → max a (max b c) ≡ max (max a b) (max a c)
max_of_three a b c = omega arith

-- The shift takes the larger of the pivot p and a token to the larger of the two shifted,
larger_shifted : (others p : ℕ) (t : Token) → ((v : ℕ) → t ≡ held v → Near others p v)
    → max (held others) (shifted (modulus others) others (p % modulus others) (reduced others t)) + p ≡ max (held p) t + others
unfolding shifted
larger_shifted others p zero near = omega arith
larger_shifted others p (suc v) near = omega (arith, shift_is others p v (near v refl), near v refl)

-- and so the largest of the pivot and the cells to the largest of all shifted.
largest_shifted_lem : (others p : ℕ) (cell : ℕ → Token) (n : ℕ) → ((k v : ℕ) → Process n k → cell k ≡ held v → Near others p v)
    → max (held others) (largest (λ k. shifted (modulus others) others (p % modulus others) (reduced others (cell k))) n) + p
    ≡ max (held p) (largest cell n) + others
unfolding largest
largest_shifted_lem others p cell zero near = omega arith
largest_shifted_lem others p cell (suc n) near =
    rw (max_of_three (held others), max_of_three (held p))
    omega (
      arith,
      larger_shifted others p (cell (suc n)) (λ v. near (suc n) v (last n)),
      largest_shifted_lem others p cell n (λ k v q. near k v (earlier q)),
    )

-- Lemma 1. Where the tokens read at line 2 cluster around the pivot, the next token on f of them is f of the next token.
pub lemma_1 : (others p : ℕ) (cell : ℕ → Token) → ((k v : ℕ) → Process (suc others) k → cell k ≡ held v → Near others p v)
    → next_bounded (modulus others) others (reduced others (held p)) (λ k. reduced others (cell k))
    ≡ reduced others (next_unbounded others (held p) cell)
unfolding next_bounded next_unbounded shifted
lemma_1 others p cell near =
    rw (number_of_held (p % modulus others))
    (ap suc (same_remainder (modulus others) (p / modulus others) 1 _ _
    (omega (arith, shift_is others p p (omega arith), largest_shifted_lem others p cell (suc others) near, divided others p))))

-- Lemma 2. Where the token read at line 7 is near the reader's own, the reader goes before on f of them if and only if it goes before.
pub lemma_2 : (others i v j w : ℕ) → Near others v w
    → before_bounded (modulus others) others i (reduced others (held v)) j (reduced others (held w)) ≡ before_unbounded i (held v) j (held w)
unfolding before_bounded before_unbounded
lemma_2 others i v j w near =
    rw (number_of_held (v % modulus others), number_of_held (w % modulus others))
    (by_comparison v w
    (λ less. rw (
      ahead_if_above others v w (omega arith) near.high,
      within_yes 1 others (w - v) (omega arith) (omega arith),
      lt-ltb (held v) (held w) (omega arith),
    ))
    (λ equal. rw (
      ahead_if_above others v w (omega arith) near.high,
      lt-leb 1 (w - v) (omega arith),
      eq-eqb (w - v) 0 (omega arith),
      le-ltb (held v) (held w) (omega arith),
      eq-eqb (held v) (held w) (omega arith),
    ))
    (λ more. rw (
      ahead_if_below others v w more near.low,
      le-leb 1 (w + modulus others - v) (omega arith),
      lt-leb (w + modulus others - v) others (omega arith),
      ne_eqb (w + modulus others - v) 0 (omega arith),
      le-ltb (held v) (held w) (omega arith),
      ne_eqb (held v) (held w) (omega arith),
    )))
