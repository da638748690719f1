-- Numbers of four bytes: one that is written is read back, and one that is read is written again as the same bytes.
use Prim.Native.Nat.{ℕ, suc, ◌+◌, ◌-◌, ◌*◌, ◌/◌, ◌%◌, ◌<◌, ◌^◌}
use mathlib.Core.Path.{◌≡◌, refl, ap, ◌∙◌}
use mathlib.Core.List.{List, [], ◌∷◌}
use native.Mathlib.Omega.{arith}
use borrow.Author.Tests.{lt-ltb, le-ltb}
use lib.Dec.{ltb}
use lib.IntN.{ℤ, pos, negsuc}
use mir.Syntax.{w32}
use mir.Val.{to_z, of_z, SFits}
use mir.Facts.{to_z-of_z}
use Rattle.std.specs.Int.{to_le_bytes}
use Rattle.laws.proofs.Tests.{by_test}
use Rattle.laws.proofs.Standing.{Stands, stands_first, listed_stand}
use Rattle.stored.specs.FourBytes.{all_bits, bits_of, four_digits, four_bytes}
use Rattle.stored.specs.Fields.{number_of, byte_at, bits_at, number_at}
use Rattle.stored.proofs.Signs.{back_again, bits_fit}

-- A number and its bits.
number_bits : (v : ℤ) → SFits w32 v → number_of (bits_of v) ≡ v
unfolding number_of
number_bits (pos a) f = rw (lt-ltb a (2 ^ 31) f.sfits)
number_bits (negsuc a) f =
    let small : a < 2 ^ 31 = f.sfits in
    rw (le-ltb (all_bits - a) (2 ^ 31) (omega arith), back_again a (omega arith))

bits_number : (bits : ℕ) → bits < 2 ^ 32 → bits_of (number_of bits) ≡ bits
unfolding number_of
bits_number bits h = by_test (λ (v : ℤ). bits_of v ≡ bits) (ltb bits (2 ^ 31)) (λ _. refl) (λ _. omega arith)

bits_same : (v : ℤ) → of_z w32 v ≡ bits_of v
bits_same (pos a) = refl
bits_same (negsuc a) = omega arith

-- Bits and their four digits.
divided : (bits : ℕ) → (bits / 65536 ≡ bits / 256 / 256) × (bits / 16777216 ≡ bits / 256 / 256 / 256)
divided bits = (omega arith, omega arith)

digits_read : (s : List ℕ) (at bits : ℕ) → bits < 2 ^ 32 → Stands 0 s at (four_digits bits) → bits_at s at ≡ bits
unfolding four_digits
digits_read s at bits h four =
    rw (stands_first _ _ four, four.each 1 (omega arith), four.each 2 (omega arith), four.each 3 (omega arith)) (omega arith)

last_digit : (a rest : ℕ) → a < 256 → ((a + 256 * rest) % 256 ≡ a) × ((a + 256 * rest) / 256 ≡ rest)
last_digit a rest h = (omega arith, omega arith)

digits_again : (a b c d : ℕ) → a < 256 → b < 256 → c < 256 → d < 256
    → four_digits (a + 256 * b + 65536 * c + 16777216 * d) ≡ a ∷ b ∷ c ∷ d ∷ []
unfolding four_digits
digits_again a b c d ha hb hc hd =
    let nested : a + 256 * b + 65536 * c + 16777216 * d ≡ a + 256 * (b + 256 * (c + 256 * d)) = omega arith in
    let (a-last, a-rest) = last_digit a (b + 256 * (c + 256 * d)) ha in
    let (b-last, b_rest) = last_digit b (c + 256 * d) hb in
    let (c-last, c-rest) = last_digit c d hc in
    let d_last : d % 256 ≡ d = omega arith in
    rw (nested, a-last, a-rest, b-last, b_rest, c-last, c-rest, d_last)

-- The four bytes that the library gives of a number, which code holds as its bits, are those of the definition.
pub library_bytes : {bytes : List ℕ} (v : ℤ) → SFits w32 v → bytes ≡ to_le_bytes w32 (of_z w32 (to_z w32 (of_z w32 v)))
    → bytes ≡ four_bytes v
unfolding four_bytes four_digits
library_bytes v f e = e ∙ rw (to_z-of_z f, bits_same v, (divided (bits_of v)).0, (divided (bits_of v)).1)

-- Where the four bytes of a number stand, that number is read.
pub number_read : {s : List ℕ} {at : ℕ} (v : ℤ) → SFits w32 v → Stands 0 s at (four_bytes v) → number_at s at ≡ v
unfolding four_bytes number_at
number_read {s} {at} v f four = ap number_of (digits_read s at (bits_of v) (bits_fit v f) four) ∙ number_bits v f

-- And in bytes the four bytes of the number that is read at a place stand there.
pub number_again : (s : List ℕ) → ((k : ℕ) → byte_at s k < 256) → (at : ℕ) → Stands 0 s at (four_bytes (number_at s at))
unfolding four_bytes number_at
number_again s bytes at =
    let h0 = bytes at in
    let h1 = bytes (at + 1) in
    let h2 = bytes (at + 2) in
    let h3 = bytes (at + 3) in
    rw (bits_number (bits_at s at) (omega arith), digits_again _ _ _ _ h0 h1 h2 h3) (listed_stand _ _ refl (refl, (refl, (refl, tt))))

-- As std reads a number from its four bytes.
module _ (s : List ℕ) (at : ℕ) where
  abbrev std_bits : ℕ
  std_bits = byte_at s at + byte_at s (at + 1) * 256 + byte_at s (at + 2) * 65536 + byte_at s (at + 3) * 16777216

  pub number_from : to_z w32 std_bits ≡ number_at s at
  unfolding number_at number_of
  number_from =
      let bits : std_bits ≡ bits_at s at = omega arith in
      let below : 2 ^ 32 - suc (bits_at s at) ≡ all_bits - bits_at s at = omega arith in
      rw (bits, below)
