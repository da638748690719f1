-- Counting over the processes 1 to n: sums, the largest, the pigeonhole, and the least.
use Prim.Native.Nat.{ℕ, zero, suc, ◌+◌, ◌-◌, ◌≤◌, ◌<◌, max}
use mathlib.Core.Path.{◌≡◌, refl}
use mathlib.Core.Bool.{cond}
use native.Mathlib.Omega.{arith}
use borrow.Author.Tests.{lt-ltb, le-ltb}
use lib.Dec.{ltb}
use Rattle.laws.proofs.Tests.{by_test, by_order, up_to_next}

-- i is one of the processes 1 to n
pub record Process (n i : ℕ) : Type 0 where
  pub low : 1 ≤ i
  pub high : i ≤ n

-- of n + 1 processes: one of the first n, and the last
pub earlier : {n i : ℕ} → Process n i → Process (suc n) i
earlier p = record { low = p.low; high = omega (arith, p.high) }

pub last : (n : ℕ) → Process (suc n) (suc n)
last n = record { low = omega arith; high = omega arith }

-- what holds of each of the first n, and of the last, holds of each
and_last : (n : ℕ) (P : ℕ → Type 0) → ((i : ℕ) → Process n i → P i) → P (suc n) → (i : ℕ) → Process (suc n) i → P i
and_last n P before one i p = up_to_next P n (λ k low high. before k (record { low = low; high = high })) one i p.low p.high

-- a number is below another, or equal to it, or above it
pub by_comparison : {P : Type 0} (a b : ℕ) → (a < b → P) → (a ≡ b → P) → (b < a → P) → P
by_comparison a b less equal more = by_order a b (λ l. by_order b a (λ m. equal (omega arith)) less) more

-- 1 where a is below b, else 0
unfoldable pub below : ℕ → ℕ → ℕ
below a b = cond (ltb a b) 1 0

pub below_one : (a b : ℕ) → a < b → below a b ≡ 1
unfolding below
below_one a b l = rw (lt-ltb a b l)

pub below_zero : (a b : ℕ) → b ≤ a → below a b ≡ 0
unfolding below
below_zero a b l = rw (le-ltb a b l)

pub below_most : (a b : ℕ) → below a b ≤ 1
unfolding below
below_most a b = by_test (λ (k : ℕ). k ≤ 1) (ltb a b) (λ _. omega arith) (λ _. omega arith)

-- of two numbers that differ one is below the other
pub below_either : (a b : ℕ) → ¬ (a ≡ b) → below a b + below b a ≡ 1
below_either a b apart =
    by_order a b
    (λ l. omega (arith, below_one a b (omega arith), below_zero b a l))
    (λ l. omega (arith, below_zero a b (omega arith), below_one b a l))

-- where a is below b only if a' is below b', it counts for no more
pub below_mono : (a b a' b' : ℕ) → (a < b → a' < b') → below a b ≤ below a' b'
below_mono a b a' b' f =
    by_order b a
    (λ l. omega (arith, below_zero a b l))
    (λ l. omega (arith, below_most a b, below_one a' b' (f l)))

-- f 1 + .. + f n
unfoldable pub sum : (ℕ → ℕ) → ℕ → ℕ
sum f zero = 0
sum f (suc n) = f (suc n) + sum f n

-- no more in each place is no more in all
pub sum_mono : (f g : ℕ → ℕ) (n : ℕ) → ((i : ℕ) → Process n i → f i ≤ g i) → sum f n ≤ sum g n
unfolding sum
sum_mono f g zero le = omega arith
sum_mono f g (suc n) le = omega (arith, le (suc n) (last n), sum_mono f g n (λ i p. le i (earlier p)))

-- and less in one place, and nowhere more, is less in all
pub sum_less : (f g : ℕ → ℕ) (n e : ℕ) → Process n e → f e < g e → ((i : ℕ) → Process n i → f i ≤ g i) → sum f n < sum g n
unfolding sum
sum_less f g zero e p less le = absurd (omega (arith, p.low, p.high))
sum_less f g (suc n) e p less le =
    and_last n (λ (i : ℕ). f i < g i → f (suc n) + sum f n < g (suc n) + sum g n)
    (λ i q l. omega (arith, le (suc n) (last n), sum_less f g n i q l (λ k r. le k (earlier r))))
    (λ l. omega (arith, sum_mono f g n (λ k r. le k (earlier r))))
    e p less

sum_ones : (n : ℕ) → sum (λ _. 1) n ≡ n
unfolding sum
sum_ones zero = refl
sum_ones (suc n) = omega (arith, sum_ones n)

-- where each counts for at most 1, all count for at most n; and for less than n where one counts for nothing
sum_most : (f : ℕ → ℕ) (n : ℕ) → ((i : ℕ) → f i ≤ 1) → sum f n ≤ n
sum_most f n le = omega (arith, sum_ones n, sum_mono f (λ _. 1) n (λ i _. le i))

pub sum_but_one : (f : ℕ → ℕ) (n e : ℕ) → Process n e → f e ≡ 0 → ((i : ℕ) → f i ≤ 1) → sum f n < n
sum_but_one f n e p none le = omega (arith, sum_ones n, sum_less f (λ _. 1) n e p (omega arith) (λ i _. le i))

-- the largest of f 1 .. f n, or 0
unfoldable pub largest : (ℕ → ℕ) → ℕ → ℕ
largest f zero = 0
largest f (suc n) = max (f (suc n)) (largest f n)

-- none is above it
pub at_most_largest : (f : ℕ → ℕ) (n i : ℕ) → Process n i → f i ≤ largest f n
unfolding largest
at_most_largest f zero i p = absurd (omega (arith, p.low, p.high))
at_most_largest f (suc n) i p =
    and_last n (λ (k : ℕ). f k ≤ max (f (suc n)) (largest f n)) (λ k q. omega (arith, at_most_largest f n k q)) (omega arith) i p

-- some process has a value of at least a
pub record Reaches (f : ℕ → ℕ) (n a : ℕ) : Type 0 where
  pub who : ℕ
  pub process : Process n who
  pub reaches : a ≤ f who

-- and every number from 1 up to it is reached
pub largest_reached : (f : ℕ → ℕ) (n a : ℕ) → 1 ≤ a → a ≤ largest f n → Reaches f n a
unfolding largest
largest_reached f zero a some le = absurd (omega arith)
largest_reached f (suc n) a some le =
    by_order a (f (suc n))
    (λ l. record { who = suc n; process = last n; reaches = l })
    (λ l.
    let r : Reaches f n a = largest_reached f n a some (omega arith) in
    record { who = r.who; process = earlier r.process; reaches = r.reaches })

-- The pigeonhole. Some process has the value a:
pub record Has (f : ℕ → ℕ) (n a : ℕ) : Type 0 where
  pub who : ℕ
  pub process : Process n who
  pub is : f who ≡ a

-- if every number of low + 1 .. low + d is had, at least d processes are above low and not above low + d
above_by : (f : ℕ → ℕ) (n low d : ℕ) → ((a : ℕ) → low < a → a ≤ low + d → Has f n a)
    → sum (λ i. below (low + d) (f i)) n + d ≤ sum (λ i. below low (f i)) n
above_by f n low zero had =
    omega (
      arith,
      sum_mono (λ i. below (low + 0) (f i)) (λ i. below low (f i)) n (λ i _. below_mono (low + 0) (f i) low (f i) (λ l. omega arith)),
    )
above_by f n low (suc d) had = omega (arith, above_by f n low d (λ a l m. had a l (omega arith)), one_less)
  where
    top : Has f n (low + suc d)
    top = had (low + suc d) (omega arith) (omega arith)

    one_less : sum (λ i. below (low + suc d) (f i)) n < sum (λ i. below (low + d) (f i)) n
    one_less =
        sum_less (λ i. below (low + suc d) (f i)) (λ i. below (low + d) (f i)) n top.who top.process
        (omega (
          arith,
          below_zero (low + suc d) (f top.who) (omega (arith, top.is)),
          below_one (low + d) (f top.who) (omega (arith, top.is)),
        ))
        (λ i _. below_mono (low + suc d) (f i) (low + d) (f i) (λ l. omega arith))

-- every number above low up to high is had
module _ (f : ℕ → ℕ) (n low high : ℕ) (had : (a : ℕ) → low < a → a ≤ high → Has f n a) where
  -- so as many processes are above low
  as_many_above : high ≤ low + sum (λ i. below low (f i)) n
  as_many_above =
      by_order low high (λ l. omega (arith, above_by f n low (high - low) (λ a p q. had a p (omega arith)))) (λ l. omega arith)

  -- there are at most n such numbers
  pub pigeonhole : high ≤ low + n
  pigeonhole = omega (arith, as_many_above, sum_most (λ i. below low (f i)) n (λ i. below_most low (f i)))

  -- and fewer where some process has none of them
  pub pigeonhole_but_one : (e : ℕ) → Process n e → f e ≤ low → high < low + n
  pigeonhole_but_one e p out =
      omega (
        arith,
        as_many_above,
        sum_but_one (λ i. below low (f i)) n e p (below_zero low (f e) out) (λ i. below_most low (f i)),
      )

-- The least. Among the processes whose value is not 0, `who` has the least:
pub record Least (f : ℕ → ℕ) (n : ℕ) : Type 0 where
  pub who : ℕ
  pub process : Process n who
  pub some : 1 ≤ f who
  pub least : (j : ℕ) → Process n j → 1 ≤ f j → f who ≤ f j

-- how far a lies below top + 1, and 0 where a is 0: so of the values that are not 0 the least lies deepest
abbrev depth : ℕ → ℕ → ℕ
depth top zero = 0
depth top (suc a) = top - a

depth_of_some : (top a : ℕ) → 1 ≤ a → depth top a ≡ suc top - a
depth_of_some top zero some = omega arith
depth_of_some top (suc a) some = omega arith

some_of_depth : (top a : ℕ) → 1 ≤ depth top a → 1 ≤ a
some_of_depth top zero deep = deep
some_of_depth top (suc a) deep = omega arith

-- where some process has a value that is not 0, one has the least: the one that lies deepest below that value + 1
pub least_of : (f : ℕ → ℕ) (n i : ℕ) → Process n i → 1 ≤ f i → Least f n
least_of f n i p some =
    let deep : ℕ → ℕ = λ k. depth (f i) (f k) in
    let some_deep : 1 ≤ largest deep n = omega (arith, at_most_largest deep n i p, depth_of_some (f i) (f i) some) in
    let deepest : Reaches deep n (largest deep n) = largest_reached deep n _ some_deep (omega arith) in
    let has : 1 ≤ f deepest.who = some_of_depth (f i) (f deepest.who) (omega (arith, some_deep, deepest.reaches)) in
    record {
      who = deepest.who;
      process = deepest.process;
      some = has;
      least = λ j q l. omega (
        arith,
        some_deep,
        deepest.reaches,
        at_most_largest deep n j q,
        depth_of_some (f i) (f j) l,
        depth_of_some (f i) (f deepest.who) has,
      );
    }
