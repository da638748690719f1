-- A loop over items and their numbers from 1 on: what `(1..=n).zip(items)` gives. std has the lemmas of `zip`, and of ranges `a..b` alone.
use Prim.Native.Nat.{ℕ, zero, suc, ◌+◌, ◌-◌, ◌<◌, ◌≤◌}
use mathlib.Core.Path.{◌≡◌, refl, ap, ◌∙◌}
use mathlib.Core.Bool.{Bool, true, false}
use mathlib.Core.List.{List}
use native.Mathlib.Omega.{arith}
use lib.ListN.{length, get_or}
use denote.Ref.{Bor}
use Rattle.std.specs.declared.ops.RangeInclusive.{RangeInclusive}
use Rattle.std.specs.declared.iter.Zip.{Zip}
use Rattle.std.specs.Range.{range_inclusive_steps, range_inclusive_left, range_inclusive_len}
use Rattle.std.specs.Range.{range_inclusive_start, range_inclusive_end, range_inclusive_exhausted}
use Rattle.std.specs.Iterator.{AlwaysYields, Yields}
use Rattle.std.specs.Iterator.Adapters.{zip_first, zip_second}
use Rattle.std.specs.Slice.Iter.{iter_rest}
use Rattle.std.specs.List.{range_with_len, zip}
use Rattle.std.proofs.Common.{Option, Some, None, Iter}
use Rattle.std.proofs.iter.Yields.{fronts}
use Rattle.std.proofs.lemmas.List.{get_or_default}
use Rattle.std.proofs.lemmas.List.FromFn.{length-range_with_len, get_or-range_with_len}
use Rattle.std.proofs.lemmas.Iterator.{YieldsList, YieldsList-from_zip, YieldsList-from_slice, zips}
use Rattle.std.proofs.lemmas.Iterator.Consumers.{YieldsList-turn, YieldsList-end}
use Rattle.std.proofs.lemmas.Slice.Zip.{length-zip, get_or-zip}

abbrev gap : ℕ → ℕ → ℕ
gap x y = y - x

abbrev numbers : RangeInclusive ℕ → Option ℕ → RangeInclusive ℕ → Type 0
numbers = range_inclusive_steps gap (λ x y. y ≡ x + 1)

-- a range that has numbers left is not exhausted
goes_on : (a b : ℕ) (done : Bool) → 0 < range_inclusive_len gap a b done → done ≡ false
goes_on a b true h = absurd (omega arith)
goes_on a b false h = refl

-- a range with n numbers left gives those from its start on
gives : (n a : ℕ) (s : RangeInclusive ℕ) → range_inclusive_left gap s ≡ n → (0 < n → range_inclusive_start s ≡ a)
    → AlwaysYields numbers (λ x. x) s (range_with_len a n)
gives zero a s left first = λ x t step. absurd (omega (arith, step.1.1))
gives (suc n) a s left first = (
  λ t step. absurd (omega (arith, step.1.0)),
  λ x t step.
      let unspent : 0 < n → range_inclusive_exhausted t ≡ false =
      λ some. goes_on (range_inclusive_start t) (range_inclusive_end t) (range_inclusive_exhausted t) (omega (arith, step.1.1)) in
      let moved : 0 < n → range_inclusive_start t ≡ a + 1 = λ some. step.1.2 (unspent some) ∙ ap (λ m. m + 1) (first (omega arith)) in
      (step.1.0 ∙ first (omega arith), gives n (a + 1) t (omega (arith, step.1.1)) moved),
)

module _ {A : Type 0} where
  abbrev pub pairs : Zip (RangeInclusive ℕ) (Iter A) → Option (ℕ × Bor A) → Zip (RangeInclusive ℕ) (Iter A) → Type 0
  pairs = zips numbers fronts

  -- the iterator s goes over the numbers 1 to n and these items
  pub record GoesOver (n : ℕ) (items : List A) (s : Zip (RangeInclusive ℕ) (Iter A)) : Type 0 where
    pub first : range_inclusive_start (zip_first s) ≡ 1
    pub last : range_inclusive_end (zip_first s) ≡ n
    pub unspent : range_inclusive_exhausted (zip_first s) ≡ false
    pub rest : iter_rest (zip_second s) ≡ items

module _ {A : Type 0} {n : ℕ} {items : List A} {s : Zip (RangeInclusive ℕ) (Iter A)} (over : GoesOver n items s) where
  given : YieldsList pairs (λ p. (p.0, p.1.now)) s (zip (range_with_len 1 n) items)
  given =
      let left : range_inclusive_left gap (zip_first s) ≡ n = rw (over.first, over.last, over.unspent) (omega arith) in
      YieldsList-from_zip {steps = numbers} {others = fronts} {v = λ x. x} {w = λ y. y.now}
      (record { runs = gives n 1 (zip_first s) left (λ _. over.first) }) (YieldsList-from_slice items over.rest)

  module _ (passed : List (ℕ × Bor A)) (t u : Zip (RangeInclusive ℕ) (Iter A)) (so_far : Yields pairs s passed t) where
    -- an iteration has the next number and the next item
    pub turn : (r : Option (ℕ × Bor A)) (i : ℕ) (item : Bor A) (d : A) → r ≡ Some (i, item) → pairs t r u
        → (length passed < n) × (i ≡ length passed + 1) × (item.now ≡ get_or items (length passed) d)
    turn r i item d some step =
        let k = length passed in
        let ones = range_with_len 1 n in
        let at = YieldsList-turn given passed t so_far r u (i, item) some step in
        let low : k < n = omega (arith, at.0, length-zip ones items, length-range_with_len 1 n) in
        let within : k < length items = omega (arith, at.0, length-zip ones items) in
        let pair = at.1 ∙ get_or-zip ones items k (i, item.now) (omega (arith, low, length-range_with_len 1 n)) within in (
          low,
          ap (λ (q : ℕ × A). q.0) pair ∙ get_or-range_with_len 1 n k i low ∙ omega arith,
          ap (λ (q : ℕ × A). q.1) pair ∙ get_or_default items k item.now d within,
        )

    -- at the end all numbers are passed, where there are items for all
    pub at_end : (r : Option (ℕ × Bor A)) → r ≡ None → pairs t r u → n ≤ length items → length passed ≡ n
    at_end r none step room =
        let end = YieldsList-end given passed t so_far r u none step in
        omega (arith, end.1, length-zip (range_with_len 1 n) items, length-range_with_len 1 n)
