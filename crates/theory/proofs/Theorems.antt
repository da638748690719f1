-- What the invariant says of the unbounded machine: Theorems 1, 2 and 3 of source 002, and mutual exclusion.
use Prim.Native.Nat.{ℕ, suc, ◌+◌, ◌≤◌}
use mathlib.Core.Path.{◌≡◌, sym}
use mathlib.Core.Bool.{Bool, true, false, false≢true}
use native.Mathlib.Omega.{arith}
use Rattle.laws.proofs.Tests.{by_equality}
use Rattle.theory.proofs.Counting.{Process, below_either, pigeonhole, pigeonhole_but_one}
use Rattle.theory.proofs.Tokens.{Token, held, IsHeld}
use Rattle.theory.proofs.Remainders.{Near}
use Rattle.theory.proofs.Model.{Place, at1, at2, at3, at4, at5, at6, at7, at8, at9, at10, State}
use Rattle.theory.proofs.Invariant.{past_all, passed_below, due_over, Chooses, Own, Invariant, own_at, held_at_least_x}

-- Of a state that has the invariant.
module _ (others : ℕ) (s : State) (inv : Invariant others s) where
  -- "Theorem 1 (Bounded token range). [..] let v be the value of token_j and x be the value of X. If v ≠ -1, then x ≤ v ≤ x + n."
  pub theorem_1 : (j x v : ℕ) → Process (suc others) j → s.x ≡ held x → (s.row j).token ≡ held v → (x ≤ v) × (v ≤ x + suc others)
  theorem_1 j x v p ex ev = (
    omega (arith, ex, ev, held_at_least_x others s inv j p (omega (arith, ev))),
    omega (arith, ex, ev, pigeonhole (λ k. (s.row k).token) (suc others) s.x (s.row j).token (inv.no_gap_to_token j p)),
  )

  -- "Theorem 2 (Token cluster around X). Let v be the value of token_j read by P_i executing line 2. Let x be the value of X read by P_i
  -- executing line 3. Then, (v ≠ -1) ⇒ x - (n - 1) ≤ v ≤ x + (n - 1)." At line 4 both are read: v is in a cell, and x is the pivot.
  pub theorem_2 : (i j x v : ℕ) → Process (suc others) i → (s.row i).place ≡ at4 → (s.row i).pivot ≡ held x → (s.row i).cell j ≡ held v
      → Near others x v
  theorem_2 i j x v p e ex ev =
      let o : Chooses others s.x (s.row i).token (s.row i).pivot (s.row i).cell = own_at others s inv i p at4 e in
      let near : Near others (s.row i).pivot ((s.row i).cell j) = o.around_pivot j (omega (arith, ev)) in
      record { low = omega (arith, ex, ev, near.low); high = omega (arith, ex, ev, near.high) }

  -- a held token is at most n - 1 above another: the tokens between are held, and the other's process holds none of them
  not_far_above : (i j : ℕ) → Process (suc others) i → Process (suc others) j → IsHeld (s.row i).token
      → (s.row j).token ≤ (s.row i).token + others
  not_far_above i j p q l =
      omega (
        arith,
        pigeonhole_but_one (λ k. (s.row k).token) (suc others) (s.row i).token (s.row j).token
            (λ a m n. inv.no_gap_to_token j q a (omega (arith, held_at_least_x others s inv i p l)) n) i p (omega arith),
      )

  -- "Theorem 3 (Token cluster around token_i). Let v_i be the value of token_i [..] when P_i is executing line 7. Let v_j be the value of
  -- token_j read by P_i when executing line 7. If v_j ≠ -1, then v_i - (n - 1) ≤ v_j ≤ v_i + (n - 1)." It holds at every line.
  pub theorem_3 : (i j v w : ℕ) → Process (suc others) i → Process (suc others) j → (s.row i).token ≡ held v → (s.row j).token ≡ held w
      → Near others v w
  theorem_3 i j v w p q ev ew =
      record {
        low = omega (arith, ev, ew, not_far_above j i q p (omega (arith, ew)));
        high = omega (arith, ev, ew, not_far_above i j p q (omega (arith, ev)));
      }

-- Mutual exclusion, of source 002's Theorem 4: "No two processes can be simultaneously in CS." CS is line 9; this is said of lines 8 to 10.

-- at lines 8 to 10
abbrev pub is_critical : Place → Bool
is_critical at1 = false
is_critical (at2 j) = false
is_critical at3 = false
is_critical at4 = false
is_critical at5 = false
is_critical (at6 j) = false
is_critical (at7 j) = false
is_critical at8 = true
is_critical at9 = true
is_critical at10 = true

-- at most one process is at lines 8 to 10
abbrev pub Exclusive : ℕ → State → Type 0
Exclusive others s =
    (i j : ℕ) → Process (suc others) i → Process (suc others) j
    → is_critical (s.row i).place ≡ true → is_critical (s.row j).place ≡ true → i ≡ j

-- a process at those lines holds a token and has passed every other
record Entered (others : ℕ) (t : Token) (p : Place) : Type 0 where
  holds : IsHeld t
  passed : passed_below others p ≡ past_all others

entered : (others i x due : ℕ) (t pivot : Token) (cell : ℕ → Token) (p : Place) → IsHeld x → Own others i x due t pivot cell p
    → is_critical p ≡ true → Entered others t p
entered others i x due t pivot cell at1 begun o c = absurd (false≢true c)
entered others i x due t pivot cell (at2 j) begun o c = absurd (false≢true c)
entered others i x due t pivot cell at3 begun o c = absurd (false≢true c)
entered others i x due t pivot cell at4 begun o c = absurd (false≢true c)
entered others i x due t pivot cell at5 begun o c = absurd (false≢true c)
entered others i x due t pivot cell (at6 j) begun o c = absurd (false≢true c)
entered others i x due t pivot cell (at7 j) begun o c = absurd (false≢true c)
entered others i x due t pivot cell at8 begun o c = omega (arith, o.at_least_x)
entered others i x due t pivot cell at9 begun o c = omega (arith, o.is_x)
entered others i x due t pivot cell at10 begun o c = omega (arith, o.is_x)

module _ (others : ℕ) (s : State) (inv : Invariant others s) where
  -- of two that have each passed the other, each would go before the other
  pub mutual_exclusion : Exclusive others s
  mutual_exclusion i j p q at_i at_j =
      by_equality i j (λ same. same)
      (λ apart.
      let a : Entered others (s.row i).token (s.row i).place = inside i p at_i in
      let b : Entered others (s.row j).token (s.row j).place = inside j q at_j in
      absurd (omega (
        arith,
        (inv.knows i j p q apart).goes_before (omega (arith, a.passed, q.high)) b.holds,
        (inv.knows j i q p (λ e. apart (sym e))).goes_before (omega (arith, b.passed, p.high)) a.holds,
        below_either i j apart,
      )))
    where
      inside : (k : ℕ) → Process (suc others) k → is_critical (s.row k).place ≡ true → Entered others (s.row k).token (s.row k).place
      inside k p =
          entered others k s.x (due_over others s.row k) (s.row k).token (s.row k).pivot (s.row k).cell (s.row k).place
          inv.begun (inv.own k p)
