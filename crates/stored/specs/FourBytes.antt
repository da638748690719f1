-- Document 01, "Stored form": "Numbers of four bytes are little-endian; -1 is four bytes of 255."
use Rattle.std.specs.Prelude.{ℕ, ◌-◌, ◌/◌, ◌%◌, ◌^◌, List, [], ◌∷◌, ℤ, pos, negsuc}

-- "-1 is four bytes of 255": the bits of -1
abbrev pub all_bits : ℕ
all_bits = 2 ^ 32 - 1

-- A number as its 32 bits. Those below 0 count down from -1, which has all bits.
abbrev pub bits_of : ℤ → ℕ
bits_of (pos a) = a
bits_of (negsuc a) = all_bits - a

-- "little-endian": the lowest byte comes first
unfoldable pub four_digits : ℕ → List ℕ
four_digits bits = bits % 256 ∷ bits / 256 % 256 ∷ bits / 256 / 256 % 256 ∷ bits / 256 / 256 / 256 % 256 ∷ []

unfoldable pub four_bytes : ℤ → List ℕ
four_bytes v = four_digits (bits_of v)
