-- Numbers in decimal: they are what std writes of them, and how long they are.
use Prim.Native.Nat.{ℕ, zero, suc, ◌*◌, ◌/◌, ◌%◌, ◌^◌, ◌<◌, ◌≤◌}
use mathlib.Core.Path.{◌≡◌, sym}
use mathlib.Core.List.{List, [], ◌∷◌}
use native.Mathlib.Omega.{arith}
use native.Mathlib.Nat.{pow-suc}
use borrow.Author.Rules.{rules}
use borrow.Author.Tests.{ltb-false}
use lib.Dec.{ltb}
use lib.ListN.{length, length-append}
use Rattle.std.specs.Fmt.{decimal as std_decimal}
use Rattle.std.proofs.lemmas.Fmt.{AppendsLastDigit, decimal_from_appends, length-decimal-le_succ}
use Rattle.laws.proofs.Tests.{by_test}
use Rattle.io.specs.Digits.{hex_digit_ascii}
use Rattle.listing.specs.Text.{decimal_up_to, decimal}

appends : AppendsLastDigit decimal_up_to
unfolding decimal_up_to
appends = search rules

pub decimal_of_std : (n : ℕ) → n < 2 ^ 64 → std_decimal n ≡ decimal n
unfolding decimal
decimal_of_std n h = sym (decimal_from_appends decimal_up_to appends (suc n) n h (omega (arith, length-decimal-le_succ n h)))

-- a number that is not below ten and below a power of ten: the power is not the first
at_least_one : (k n : ℕ) → 10 ≤ n → n < 10 ^ k * 10 → 1 ≤ k
at_least_one zero n l h = absurd (omega arith)
at_least_one (suc k) n l h = omega arith

-- a number below a power of ten has as many digits, or fewer
short : (m k n : ℕ) → 1 ≤ k → n < 10 ^ k → length (decimal_up_to m n) ≤ k
unfolding decimal_up_to
short zero k n h u = omega arith
short (suc m) zero n h u = absurd (omega arith)
short (suc m) (suc k) n h u =
    by_test (λ (l : List ℕ). length l ≤ suc k) (ltb n 10) (λ _. omega arith)
    (λ t.
    let high : n < 10 ^ k * 10 = rw (pow-suc 10 k) at u in
    let some = at_least_one k n (ltb-false n 10 t) high in
    rw (length-append (decimal_up_to m (n / 10)) (hex_digit_ascii (n % 10) ∷ [])) (omega (arith, short m k (n / 10) some (omega (arith, high)))))

pub decimal_short : (k n : ℕ) → 1 ≤ k → n < 10 ^ k → length (decimal n) ≤ k
unfolding decimal
decimal_short k n h u = short (suc n) k n h u
