-- The operations on tokens of document 01 are the theory's, seen through `token_of`: the next token, and who goes before.
use Prim.Native.Nat.{ℕ, zero, suc, ◌+◌, ◌*◌, ◌-◌, ◌%◌, ◌<◌, ◌≤◌, max}
use mathlib.Core.Path.{◌≡◌, refl, sym, ap, ◌∙◌, fun_ext}
use mathlib.Core.Bool.{Bool, true, false, false≢true, cond, ◌||◌, ◌&&◌}
use mathlib.Core.Logic.{⊎_elim}
use mathlib.Core.List.{List, [], ◌∷◌, map}
use native.Mathlib.Omega.{arith}
use native.Mathlib.Nat.{mod-eq_of_lt, mod_self, zero-mod, add-mod_right, le_of_suc-le-suc, eq-or-lt_of_le}
use borrow.Author.Tests.{ltb-true, ltb-false, leb-true, eq-eqb}
use lib.Dec.{ltb, eqb, leb-suc-suc, eqb-suc-suc}
use lib.IntN.{ℤ, pos, negsuc, neg_ℤ, ◌+ℤ◌, ◌-ℤ◌, +ℤ_assoc, +ℤ_comm}
use lib.ListN.{length, length-map}
use Rattle.laws.specs.Tests.{within, withinℤ}
use Rattle.laws.proofs.Tests.{by_test, within_high}
use Rattle.fields.specs.Numbers.{none, unbounded, token_limit, limit_of, top_of, modulus_of}
use Rattle.tokens.specs.Tokens.{remainder, larger, next_ub, next_b, before_ub, before_b, next_token, goes_before}
use Rattle.tokens.specs.Tokens as machine
use Rattle.theory.proofs.Counting.{largest}
use Rattle.theory.proofs.Tokens.{Token, held, number_of, number_of_held, modulus, ahead, unbounded_machine, bounded_machine, next_unbounded}
use Rattle.theory.proofs.Tokens.{next_bounded, before_unbounded, before_bounded}
use Rattle.theory.proofs.Tokens as theory
use Rattle.demands.proofs.Views.{token_of, from1, cells_view, machine_of}
use Rattle.demands.proofs.From1.{from1_map}
use Rattle.demands.proofs.RowFacts.{FromNone}

-- The largest of some numbers, seen through `token_of`, is the largest of their tokens.

larger_view : (v w : ℤ) → token_of (larger v w) ≡ max (token_of v) (token_of w)
larger_view (pos a) (pos b) =
    by_test (λ (u : ℤ). token_of u ≡ max (held a) (held b)) (ltb a b)
    (λ e. omega (arith, ltb-true a b e)) (λ e. omega (arith, ltb-false a b e))
larger_view (pos a) (negsuc b) = omega arith
larger_view (negsuc a) (pos b) = omega arith
larger_view (negsuc a) (negsuc b) = by_test (λ (u : ℤ). token_of u ≡ theory.none) (ltb b a) (λ _. refl) (λ _. refl)

-- the largest of a list is the larger of its first number and the largest of the others
largest_first : (w : ℤ) (ws : List ℤ) (n : ℕ) → largest (cells_view (w ∷ ws)) (suc n) ≡ max (token_of w) (largest (cells_view ws) n)
unfolding largest
largest_first w ws zero = refl
largest_first w ws (suc n) = omega (arith, largest_first w ws n)

-- so the largest of a number and a list is found from the front as well as from the back
list_largest : (v : ℤ) (ws : List ℤ) → token_of (machine.largest v ws) ≡ max (token_of v) (largest (cells_view ws) (length ws))
unfolding machine.largest largest
list_largest v [] = omega arith
list_largest v (w ∷ ws) = omega (arith, list_largest (larger v w) ws, larger_view v w, largest_first w ws (length ws))

-- where there is nothing above n, the largest is among 1 to n
largest_cut : (f : ℕ → Token) (n many : ℕ) → n ≤ many → ((j : ℕ) → n < j → f j ≡ theory.none) → largest f many ≡ largest f n
unfolding largest
largest_cut f n zero l nothing = let all : n ≡ 0 = omega arith in rw all
largest_cut f n (suc many) l nothing =
    ⊎_elim (λ (all : n ≡ suc many). rw all)
    (λ some. omega (arith, nothing (suc many) (omega arith), largest_cut f n many (le_of_suc-le-suc some) nothing))
    (eq-or-lt_of_le l)

-- The read cells of a row of a table for n processes: none is below -1, and those above n are -1.
pub record CellsFor (n : ℕ) (cells : List ℤ) : Type 0 where
  pub wide : n ≤ length cells
  pub least : (j : ℕ) → FromNone (from1 none cells j)
  pub above : (j : ℕ) → n < j → from1 none cells j ≡ none

-- the largest of a number and the cells of n processes
largest_view : (n : ℕ) (v : ℤ) (cells : List ℤ) → n ≤ length cells → ((j : ℕ) → n < j → from1 none cells j ≡ none)
    → token_of (machine.largest v cells) ≡ max (token_of v) (largest (cells_view cells) n)
largest_view n v cells wide above =
    list_largest v cells
    ∙ ap (max (token_of v)) (largest_cut (cells_view cells) n (length cells) wide (λ j out. ap token_of (above j out)))

-- The unbounded machine.

-- one more than a number that is a token
one_more : (z : ℤ) (t : Token) → token_of z ≡ t → 1 ≤ t → token_of (pos 1 +ℤ z) ≡ suc t
one_more (pos a) t e some = omega arith
one_more (negsuc a) t e some = absurd (omega arith)

next_ub_view : (n p : ℕ) (cells : List ℤ) → 1 ≤ n → CellsFor n cells
    → token_of (next_ub (pos p) cells) ≡ next_unbounded (n - 1) (held p) (cells_view cells)
unfolding next_ub next_unbounded
next_ub_view n p cells some c =
    let count : suc (n - 1) ≡ n = omega arith in
    rw count (one_more (machine.largest (pos p) cells) _ (largest_view n (pos p) cells c.wide c.above) (omega arith))

before_ub_view : (i a j b : ℕ) → before_ub i (pos a) j (pos b) ≡ before_unbounded i (held a) j (held b)
unfolding before_ub before_unbounded
before_ub_view i a j b = rw (leb-suc-suc (suc a) b, eqb-suc-suc a b)

-- The remainder of a difference: what is subtracted is taken from the modulus first,

-- of a number below 0,
negative_remainder : (a m : ℕ) → suc a ≤ m → remainder (negsuc a) m ≡ (m - suc a) % m
unfolding remainder
negative_remainder a m l = ⊎_elim whole (λ less. ap (λ (k : ℕ). (m - k) % m) (mod-eq_of_lt less)) (eq-or-lt_of_le l)
  where
    whole : suc a ≡ m → (m - suc a % m) % m ≡ (m - suc a) % m
    whole e =
        let all : m - 0 ≡ m = omega arith in
        let nothing : m - m ≡ 0 = omega arith in
        rw (e, mod_self m, all, nothing) (mod_self m ∙ sym (zero-mod m))

-- and of any difference
pub difference_round : (a b m : ℕ) → b ≤ m → remainder (pos a -ℤ pos b) m ≡ (a + (m - b)) % m
unfolding remainder
difference_round a zero m l =
    let round : a + 0 + m ≡ a + (m - 0) = omega arith in
    sym (add-mod_right (a + 0) m) ∙ rw round
difference_round a (suc b) m l =
    by_test (λ (z : ℤ). remainder z m ≡ (a + (m - suc b)) % m) (ltb a (suc b))
    (λ e.
    let back : m - suc (suc b - suc a) ≡ a + (m - suc b) = omega (arith, ltb-true a (suc b) e) in
    negative_remainder (suc b - suc a) m (omega (arith, ltb-true a (suc b) e)) ∙ rw back)
    (λ e.
    let round : a - suc b + m ≡ a + (m - suc b) = omega (arith, ltb-false a (suc b) e) in
    sym (add-mod_right (a - suc b) m) ∙ rw round)

-- what is added after a difference may be added before it
pub sum_first : (a b c : ℕ) → pos a -ℤ pos b +ℤ pos c ≡ pos (a + c) -ℤ pos b
sum_first a b c =
    let less = neg_ℤ (pos b) in
    +ℤ_assoc (pos a) less (pos c) ∙ ap (λ (z : ℤ). pos a +ℤ z) (+ℤ_comm less (pos c)) ∙ sym (+ℤ_assoc (pos a) (pos c) less)

-- The bounded machine.

module _ (n : ℕ) (some : 1 ≤ n) where
  same_modulus : modulus_of n ≡ modulus (n - 1)
  same_modulus = omega arith

  -- how far b is ahead of a, going round
  pub ahead_view : (a b : ℕ) → a < modulus_of n → remainder (pos b -ℤ pos a) (modulus_of n) ≡ ahead (modulus (n - 1)) a b
  ahead_view a b small = difference_round b a (modulus_of n) (omega arith) ∙ ap (λ (m : ℕ). (b + (m - a)) % m) same_modulus

  before_b_view : (i a j b : ℕ) → a < modulus_of n → before_b n i (pos a) j (pos b) ≡ before_bounded (modulus (n - 1)) (n - 1) i (held a) j (held b)
  unfolding before_b before_bounded
  before_b_view i a j b small =
      rw (number_of_held a, number_of_held b) (ap (λ (d : ℕ). within 1 (n - 1) d || eqb d 0 && ltb i j) (ahead_view a b small))

  module _ (p : ℕ) (small : p < modulus_of n) where
    -- a pivot or a cell shifted
    shifted_view : (v : ℤ) → FromNone v → token_of (machine.shifted_cell n (pos p) v) ≡ theory.shifted (modulus (n - 1)) (n - 1) p (token_of v)
    unfolding machine.shifted_cell machine.shifted theory.shifted
    shifted_view (pos v) least =
        ap held (difference_round (v + (n - 1)) p (modulus_of n) (omega arith)
        ∙ ap (λ (m : ℕ). (v + (n - 1) + (m - p)) % m) same_modulus)
    shifted_view (negsuc a) least = rw (eq-eqb a 0 (omega (arith, leb-true a 0 least)))

    abbrev shifted_cell : ℤ → ℤ
    shifted_cell v = machine.shifted_cell n (pos p) v

    shifted_at : (cells : List ℤ) (j : ℕ) → from1 none (map shifted_cell cells) j ≡ shifted_cell (from1 none cells j)
    unfolding machine.shifted_cell
    shifted_at cells j = from1_map none shifted_cell refl cells j

    shifted_cells : (cells : List ℤ) → CellsFor n cells
        → cells_view (map shifted_cell cells) ≡ (λ k. theory.shifted (modulus (n - 1)) (n - 1) p (cells_view cells k))
    shifted_cells cells c = fun_ext (λ k. ap token_of (shifted_at cells k) ∙ shifted_view (from1 none cells k) (c.least k))

    -- the largest of the shifted pivot and cells
    abbrev largest_shifted : List ℤ → ℤ
    largest_shifted cells = machine.largest (pos (machine.shifted n (pos p) (pos p))) (map shifted_cell cells)

    largest_shifted_lem : (cells : List ℤ) → CellsFor n cells
        → token_of (largest_shifted cells)
        ≡ max (theory.shifted (modulus (n - 1)) (n - 1) p (held p)) (largest (λ k. theory.shifted (modulus (n - 1)) (n - 1) p (cells_view cells k)) n)
    unfolding machine.shifted_cell
    largest_shifted_lem cells c =
        rw (sym (shifted_view (pos p) refl), sym (shifted_cells cells c))
        (largest_view n _ (map shifted_cell cells) (omega (arith, c.wide, length-map cells shifted_cell))
        (λ j out. shifted_at cells j ∙ ap shifted_cell (c.above j out)))

    -- it is shifted back, and one more is the next token
    back_view : (z : ℤ) (t : Token) → token_of z ≡ t → 1 ≤ t
        → remainder (z +ℤ pos p -ℤ pos n +ℤ pos 2) (modulus_of n) ≡ (number_of t + p + (modulus (n - 1) - n) + 2) % modulus (n - 1)
    back_view (pos a) t e some =
        let sum : a + p + 2 + (modulus_of n - n) ≡ number_of t + p + (modulus (n - 1) - n) + 2 = omega arith in
        rw (sum_first (a + p) n 2) (difference_round (a + p + 2) n (modulus_of n) (omega arith) ∙ rw (sum, same_modulus))
    back_view (negsuc a) t e some = absurd (omega arith)

    next_b_view : (cells : List ℤ) → CellsFor n cells
        → token_of (next_b n (pos p) cells) ≡ next_bounded (modulus (n - 1)) (n - 1) (held p) (cells_view cells)
    unfolding next_b next_bounded theory.shifted
    next_b_view cells c =
        let count : suc (n - 1) ≡ n = omega arith in
        rw (number_of_held p, count) (ap held (back_view (largest_shifted cells) _ (largest_shifted_lem cells c) (omega arith)))

-- Either machine, by the algorithm. The pivot and the token of the process itself are 0 to T, and the other token is held.
module _ (algorithm n : ℕ) (some : 1 ≤ n) where
  pub next_token_view : (pivot : ℤ) (cells : List ℤ) → withinℤ (pos 0) (top_of algorithm n) pivot ≡ true → CellsFor n cells
      → token_of (next_token algorithm n pivot cells) ≡ (machine_of algorithm (n - 1)).next (token_of pivot) (cells_view cells)
  unfolding next_token limit_of
  next_token_view (pos p) cells range c = by_machine (eqb algorithm unbounded) range
    where
      by_machine : (ub : Bool) → within 0 (cond ub token_limit (2 * n - 2)) p ≡ true
          → token_of (cond ub (next_ub (pos p) cells) (next_b n (pos p) cells))
          ≡ (cond ub (unbounded_machine (n - 1)) (bounded_machine (n - 1))).next (held p) (cells_view cells)
      by_machine true range = next_ub_view n p cells some c
      by_machine false range = next_b_view n some p (omega (arith, within_high 0 (2 * n - 2) p range)) cells c
  next_token_view (negsuc a) cells range c = absurd (false≢true range)

  pub goes_before_view : (i : ℕ) (v : ℤ) (j b : ℕ) → withinℤ (pos 0) (top_of algorithm n) v ≡ true
      → goes_before algorithm n i v j (pos b) ≡ (machine_of algorithm (n - 1)).goes_before i (token_of v) j (held b)
  unfolding goes_before limit_of
  goes_before_view i (pos a) j b range = by_machine (eqb algorithm unbounded) range
    where
      by_machine : (ub : Bool) → within 0 (cond ub token_limit (2 * n - 2)) a ≡ true
          → cond ub (before_ub i (pos a) j (pos b)) (before_b n i (pos a) j (pos b))
          ≡ (cond ub (unbounded_machine (n - 1)) (bounded_machine (n - 1))).goes_before i (held a) j (held b)
      by_machine true range = before_ub_view i a j b
      by_machine false range = before_b_view n some i a j b (omega (arith, within_high 0 (2 * n - 2) a range))
  goes_before_view i (negsuc a) j b range = absurd (false≢true range)
