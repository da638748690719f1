-- Text as a list of bytes: words, and numbers in decimal.
use Rattle.std.specs.Prelude.{ℕ, zero, suc, ◌/◌, ◌%◌, cond, List, [], ◌∷◌, ◌++◌, ltb}
use Prim.Native.Char.{code}
use Prim.Native.String.{String, [] as []ˢ, ◌∷◌ as ◌∷ˢ◌}
use Rattle.io.specs.Digits.{hex_digit_ascii}

-- the bytes of a word in ASCII
unfoldable pub ascii : String → List ℕ
ascii []ˢ = []
ascii (c ∷ˢ s) = code c ∷ ascii s

-- A number that has at most k digits: one digit, or the digits of its tens and then its last.
unfoldable pub decimal_up_to : ℕ → ℕ → List ℕ
decimal_up_to zero n = []
decimal_up_to (suc k) n = cond (ltb n 10) (hex_digit_ascii n ∷ []) (decimal_up_to k (n / 10) ++ (hex_digit_ascii (n % 10) ∷ []))

-- "decimal without leading zeros": n never has more than n + 1 digits
unfoldable pub decimal : ℕ → List ℕ
decimal n = decimal_up_to (suc n) n

-- a word and a number after it
unfoldable pub numbered : String → ℕ → List ℕ
numbered word n = ascii word ++ decimal n

-- "each line ends in one line feed"
unfoldable pub line_feed : List ℕ
line_feed = ascii "\n"

-- a word and a number, and the end of the line
unfoldable pub numbered_line : String → ℕ → List ℕ
numbered_line word n = numbered word n ++ line_feed
