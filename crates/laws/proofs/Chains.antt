-- What a chain computes over numbers or over lists, as the tests over 1 to n in which the definitions are written.
use Prim.Native.Nat.{ℕ, zero, suc, ◌+◌, ◌-◌, ◌≤◌}
use mathlib.Core.Path.{◌≡◌, refl, sym, ap, ◌∙◌}
use mathlib.Core.Bool.{Bool, true, false, cond, ◌&&◌}
use mathlib.Core.List.{List, [], ◌∷◌, ◌++◌, map}
use native.Mathlib.Omega.{arith}
use native.Mathlib.Numerals.{add-one}
use lib.ListN.{length, get_or, take}
use Rattle.std.specs.List.{list_all, count_by, zip, range_with_len}
use Rattle.std.proofs.lemmas.List.{take_all}
use Rattle.std.proofs.lemmas.List.Folds.{list_all_more, list_all-append, list_all-map}
use Rattle.std.proofs.lemmas.List.FromFn.{map-range_with_len_more}
use Rattle.std.proofs.lemmas.List.Sums.{sum_by_more}
use Rattle.std.proofs.lemmas.Slice.Zip.{get_or-zip, length-zip}
use Rattle.laws.specs.Tests.{every, how_many}

and_true : (b : Bool) → (b && true) ≡ b
and_true true = refl
and_true false = refl

-- `all` over the numbers 0 to k - 1, which asks at each the test of the next number
module _ (f : ℕ → Bool) where
  pub every_listed : (k : ℕ) → list_all (λ j. f (j + 1)) (range_with_len 0 k) ≡ every f k
  unfolding every
  every_listed zero = refl
  every_listed (suc k) =
      let g : ℕ → Bool = λ j. f (j + 1) in
      let all : Bool → Bool = λ b. b in
      let more : map g (range_with_len 0 (suc k)) ≡ map g (range_with_len 0 k) ++ (g k ∷ []) =
      ap (λ n. map g (range_with_len 0 n)) (sym (add-one k)) ∙ map-range_with_len_more g 0 k k (omega arith) in
      sym (list_all-map all g (range_with_len 0 (suc k)))
      ∙ ap (list_all all) more
      ∙ list_all-append all (map g (range_with_len 0 k)) (g k ∷ [])
      ∙ ap (λ b. list_all all (map g (range_with_len 0 k)) && b) (and_true (g k))
      ∙ rw (list_all-map all g (range_with_len 0 k), every_listed k, add-one k)

before_next : (k : ℕ) → suc k - 1 ≡ k
before_next k = omega arith

-- `filter` and `count`
module _ {X : Type 0} (p : X → Bool) (xs : List X) (d : X) where
  count_of_front : (k : ℕ) → k ≤ length xs → count_by p (take k xs) ≡ how_many (λ i. p (get_or xs (i - 1) d)) k
  unfolding how_many
  count_of_front zero h = refl
  count_of_front (suc k) h =
      rw add-one at (sum_by_more (λ x. cond (p x) 1 0) xs k d (omega arith))
      ∙ rw (count_of_front k (omega arith), before_next k) refl

  pub count_is_how_many : (n : ℕ) → length xs ≡ n → count_by p xs ≡ how_many (λ i. p (get_or xs (i - 1) d)) n
  count_is_how_many n e = rw (take_all n xs (omega arith)) at (count_of_front n (omega arith))

-- `zip` and `all`
module _ {X : Type 0} (p : X → X → Bool) (xs ys : List X) (d : X) where
  all_of_front : (k : ℕ) → k ≤ length xs → k ≤ length ys
      → list_all (λ (q : X × X). p q.0 q.1) (take k (zip xs ys)) ≡ every (λ i. p (get_or xs (i - 1) d) (get_or ys (i - 1) d)) k
  unfolding every
  all_of_front zero h g = refl
  all_of_front (suc k) h g =
      rw add-one at (list_all_more (λ (q : X × X). p q.0 q.1) (zip xs ys) k (d, d) (omega (arith, length-zip xs ys)))
      ∙ rw (all_of_front k (omega arith) (omega arith), get_or-zip xs ys k (d, d) (omega arith) (omega arith), before_next k) refl

  pub all_is_every : (n : ℕ) → length xs ≡ n → length ys ≡ n
      → list_all (λ (q : X × X). p q.0 q.1) (zip xs ys) ≡ every (λ i. p (get_or xs (i - 1) d) (get_or ys (i - 1) d)) n
  all_is_every n e g =
      rw (take_all n (zip xs ys) (omega (arith, length-zip xs ys))) at (all_of_front n (omega arith) (omega arith))
