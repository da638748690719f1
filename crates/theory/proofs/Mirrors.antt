-- The bounded machine for ever: step by step it is at the remainders of where the unbounded machine is. So mutual exclusion holds of it
-- too, and its tokens lie together.
use Prim.Native.Nat.{ℕ, zero, suc, ◌%◌, ◌≤◌}
use mathlib.Core.Path.{◌≡◌, refl, sym, ap, subst, ◌∙◌}
use native.Mathlib.Omega.{arith}
use Rattle.theory.proofs.Counting.{Process, Least, least_of}
use Rattle.theory.proofs.Tokens.{Token, held, number_of, modulus, reduced, ahead, unbounded_machine, bounded_machine}
use Rattle.theory.proofs.Remainders.{Near, ahead_if_above}
use Rattle.theory.proofs.Model.{State, fresh, moves, step}
use Rattle.theory.proofs.Invariant.{Invariant, fresh_invariant}
use Rattle.theory.proofs.Lines.{step_keeps}
use Rattle.theory.proofs.Theorems.{Exclusive, mutual_exclusion, theorem_3}
use Rattle.theory.proofs.Bounded.{remainders, fresh_on_remainders, clustered, moves_on_remainders, step_on_remainders}

-- the bounded machine at b beside the unbounded one at s: b is the remainders of s, and s has the invariant
pub record Mirrors (others : ℕ) (b s : State) : Type 0 where
  pub invariant : Invariant others s
  pub shows : b ≡ remainders others s

-- both begin so
pub fresh_mirrors : (others : ℕ) → Mirrors others fresh fresh
fresh_mirrors others = record { invariant = fresh_invariant others; shows = sym (fresh_on_remainders others) }

-- A step of process i on both: the one moves where the other does, and they are beside each other again.
module _ (others : ℕ) (b s : State) (m : Mirrors others b s) (i : ℕ) (process : Process (suc others) i) where
  pub moves_alike : moves (bounded_machine others) b i ≡ moves (unbounded_machine others) s i
  moves_alike =
      ap (λ (t : State). moves (bounded_machine others) t i) m.shows
      ∙ moves_on_remainders others s i (clustered others s m.invariant i process)

  pub step_mirrors : Mirrors others (step others (bounded_machine others) b i) (step others (unbounded_machine others) s i)
  step_mirrors =
      record {
        invariant = step_keeps others s m.invariant i process;
        shows =
            ap (λ (t : State). step others (bounded_machine others) t i) m.shows
            ∙ step_on_remainders others s i (clustered others s m.invariant i process);
      }

-- Mutual exclusion, of B-Bakery: the remainders of a state have its lines.
pub bounded_exclusion : (others : ℕ) (b s : State) → Mirrors others b s → Exclusive others b
bounded_exclusion others b s m = subst (Exclusive others) (sym m.shows) (mutual_exclusion others s m.invariant)

-- The held tokens lie together: some process holds the first of them, and none is more than n - 1 ahead of that, going round modulo 2n - 1.
pub record OneArc (others : ℕ) (s : State) : Type 0 where
  pub from : ℕ
  pub process : Process (suc others) from
  pub number : ℕ
  pub holds : (s.row from).token ≡ held number
  pub all : (j w : ℕ) → Process (suc others) j → (s.row j).token ≡ held w → ahead (modulus others) number w ≤ others

-- t is a held token whose remainder is v
record HeldBefore (others : ℕ) (t : Token) (v : ℕ) : Type 0 where
  number : ℕ
  holds : t ≡ held number
  is : number % modulus others ≡ v

held_before : (others : ℕ) (t : Token) (v : ℕ) → reduced others t ≡ held v → HeldBefore others t v
held_before others zero v e = absurd (omega (arith, e))
held_before others (suc w) v e = record { number = w; holds = refl; is = omega (arith, e) }

-- The first is the least before remainders were taken: none is more than n - 1 above it (Theorem 3).
arc_of_remainders : (others : ℕ) (s : State) → Invariant others s → (i v : ℕ) → Process (suc others) i
    → ((remainders others s).row i).token ≡ held v → OneArc others (remainders others s)
arc_of_remainders others s inv i v process holds =
    let least : Least (λ k. (s.row k).token) (suc others) =
    least_of (λ k. (s.row k).token) (suc others) i process (omega (arith, (held_before others (s.row i).token v holds).holds)) in
    let first : ℕ = number_of (s.row least.who).token in
    let is_first : (s.row least.who).token ≡ held first = omega (arith, least.some) in
    record {
      from = least.who;
      process = least.process;
      number = first % modulus others;
      holds = ap (reduced others) is_first;
      all = λ j w q e.
          let b : HeldBefore others (s.row j).token w = held_before others (s.row j).token w e in
          let near : Near others first b.number =
          theorem_3 others s inv least.who j first b.number least.process q is_first b.holds in
          let above : first ≤ b.number = omega (arith, is_first, b.holds, least.least j q (omega (arith, b.holds))) in
          rw (sym b.is, ahead_if_above others first b.number above near.high) (omega (arith, near.high));
    }

-- so where a token is held, the held tokens of the bounded machine lie together
pub one_arc : (others : ℕ) (b s : State) → Mirrors others b s → (i v : ℕ) → Process (suc others) i → (b.row i).token ≡ held v
    → OneArc others b
one_arc others b s m i v process holds =
    let of-remainders = ap (λ (t : State). (t.row i).token) (sym m.shows) ∙ holds in
    subst (OneArc others) (sym m.shows) (arc_of_remainders others s m.invariant i v process of-remainders)
